-- The marks of all bodies give the verdict.
use Rattle.std.proofs.Common.{◌≡◌, ℕ, zero, suc, ◌+◌, ◌<◌, ◌≤◌, ◌++◌, true, false, List, [], ◌∷◌, Option, Some, None, length, slice_get, refl, sym, ◌∙◌, subst, arith}
use Rattle.std.proofs.lemmas.List.{length-map}
use Rattle.plcx_model.specs.declared.broken.Place.{Place}
use Rattle.plcx_model.specs.declared.broken.Place.TheVariants.{Element}
use Rattle.plcx_model.specs.declared.body.BodyElement.{BodyElement}
use Rattle.plcx_model.specs.declared.project.Pou.{Pou}
use Rattle.plcx_model.specs.declared.source.Source.{Source}
use Rattle.plcx_model.specs.Verdict.{IsFirst, Here, Later, Never, Verdict, Broken, Next}
use Rattle.plcx_model.specs.Verdict as verdicts
use Rattle.plcx_rules.specs.declared.form.TypeRule.{TypeRule}
use Rattle.plcx_rules.specs.declared.form.TypeRule.TheVariants.{NoType, Disagreement, Range}
use Rattle.plcx_rules.specs.Items.{Item, items_in, items_from, items_of}
use Rattle.plcx_rules.specs.Forms.{form_of, sheet_at}
use Rattle.plcx_rules.specs.TypingRules.{BreaksIn, BreaksTyping, type_rules, type_rule_number, type_place}
use Rattle.plcx_typing.specs.declared.body.Judged.{Judged}
use Rattle.plcx_typing.specs.Faults.{flag}
use Rattle.plcx_typing.specs.Judgings.{flags_of, judged_at, AreJudged, IsSpot, NoSpot, IsFirstFault}

-- ---- lists of items

module _ {A : Type 0} (P : A → Type 0) where
  abbrev Breaks : List A → A → Type 0
  Breaks before x = P x

  never_append : (before xs ys : List A) → Never Breaks before xs → ((b : List A) → Never Breaks b ys) → Never Breaks before (xs ++ ys)
  never_append before [] ys h k = k before
  never_append before (x ∷ xs) ys h k = (h.0, never_append (x ∷ before) xs ys h.1 k)

  first_front : (before xs ys : List A) (x : A) → IsFirst Breaks before xs x → IsFirst Breaks before (xs ++ ys) x
  first_front before [] ys y found = elim found [ ]
  first_front before (x ∷ xs) ys y (Here p) = Here p
  first_front before (x ∷ xs) ys y (Later n rest) = Later n (first_front (x ∷ before) xs ys y rest)

  first_behind : (before xs ys : List A) (x : A) → Never Breaks before xs → ((b : List A) → IsFirst Breaks b ys x) → IsFirst Breaks before (xs ++ ys) x
  first_behind before [] ys x h k = k before
  first_behind before (y ∷ xs) ys x h k = Later h.0 (first_behind (y ∷ before) xs ys x h.1 k)

-- ---- elements of a body

module _ (B : ℕ → Pou → ℕ → Type 0) where
  abbrev At : Item → Type 0
  At x = B x.pou x.owner x.place

  abbrev item : ℕ → Pou → ℕ → BodyElement → Item
  item pou p k x = record { pou = pou; owner = p; place = k; element = x }

  body_never : (pou : ℕ) (p : Pou) (k : ℕ) (xs : List BodyElement) → ((j : ℕ) → k ≤ j → j < k + length xs → B pou p j → ⊥) → (before : List Item) → Never (λ b x. At x) before (items_in pou p k xs)
  body_never pou p k [] none before = tt
  body_never pou p k (x ∷ xs) none before = (none k (omega arith) (omega arith), body_never pou p (k + 1) xs (λ j low high. none j (omega arith) (omega arith)) (item pou p k x ∷ before))

  -- the first item, and what it is
  pub record IsFound (items : List Item) (pou : ℕ) (p : Pou) (e : ℕ) (x : BodyElement) : Type 0 where
    pub first : (before : List Item) → IsFirst (λ (b : List Item) (y : Item). At y) before items (item pou p e x)

  body_first : (pou : ℕ) (p : Pou) (k : ℕ) (xs : List BodyElement) (e : ℕ) → B pou p (k + e) → e < length xs → ((j : ℕ) → j < e → B pou p (k + j) → ⊥)
      → (x : BodyElement) × ((slice_get xs e ≡ Some x) × IsFound (items_in pou p k xs) pou p (k + e) x)
  body_first pou p k [] e here low before = absurd (omega arith)
  body_first pou p k (x ∷ xs) zero here low before =
      let same : k + 0 ≡ k = omega arith in
      (x, (refl, record { first = λ b. subst (λ n. IsFirst (λ (c : List Item) (y : Item). At y) b (items_in pou p k (x ∷ xs)) (item pou p n x)) (sym same) (Here (subst (B pou p) same here)) }))
  body_first pou p k (x ∷ xs) (suc e) here low before =
      let step : k + suc e ≡ (k + 1) + e = omega arith in
      let start : k + 0 ≡ k = omega arith in
      let rest = body_first pou p (k + 1) xs e (subst (B pou p) step here) (omega arith) (λ j l broken. before (suc j) (omega arith) (subst (B pou p) (let f : (k + 1) + j ≡ k + suc j = omega arith in f) broken)) in
      let no-first : B pou p k → ⊥ = λ broken. before 0 (omega arith) (subst (B pou p) (sym start) broken) in
      (rest.0, (rest.1.0, record { first = λ b. subst (λ n. IsFirst (λ (c : List Item) (y : Item). At y) b (items_in pou p k (x ∷ xs)) (item pou p n rest.0)) (sym step) (Later no-first (rest.1.1.first (item pou p k x ∷ b))) }))

  -- ---- POUs

  abbrev Kept : ℕ → Pou → Type 0
  Kept pou p = (j : ℕ) → j < length p.body.elements → B pou p j → ⊥

  own_never : (pou : ℕ) (p : Pou) → Kept pou p → (before : List Item) → Never (λ b x. At x) before (items_in pou p 0 p.body.elements)
  own_never pou p kept before = body_never pou p 0 p.body.elements (λ j low high. kept j (omega arith)) before

  pous_never : (k : ℕ) (ps : List Pou) → ((q : ℕ) (p : Pou) → slice_get ps q ≡ Some p → Kept (k + q) p) → (before : List Item) → Never (λ b x. At x) before (items_from k ps)
  pous_never k [] none before = tt
  pous_never k (p ∷ ps) none before =
      never_append At before (items_in k p 0 p.body.elements) (items_from (k + 1) ps)
      (own_never k p (subst (λ n. Kept n p) (let f : k + 0 ≡ k = omega arith in f) (none 0 p refl)) before)
      (pous_never (k + 1) ps (λ q r is. subst (λ n. Kept n r) (let f : k + suc q ≡ (k + 1) + q = omega arith in f) (none (suc q) r is)))

  pous_first : (k : ℕ) (ps : List Pou) (q : ℕ) (p : Pou) (e : ℕ) → slice_get ps q ≡ Some p → e < length p.body.elements → B (k + q) p e → ((j : ℕ) → j < e → B (k + q) p j → ⊥)
      → ((r : ℕ) (o : Pou) → r < q → slice_get ps r ≡ Some o → Kept (k + r) o) → (x : BodyElement) × ((slice_get p.body.elements e ≡ Some x) × IsFound (items_from k ps) (k + q) p e x)
  pous_first k [] q p e is low here before earlier = let f : None ≡ Some p = is in absurd (cc)
  pous_first k (o ∷ ps) zero p e is low here before earlier =
      let same : o ≡ p = (let f : Some o ≡ Some p = is in cc) in
      let start : k + 0 ≡ k = omega arith in
      subst (λ z. (x : BodyElement) × ((slice_get p.body.elements e ≡ Some x) × IsFound (items_in k z 0 z.body.elements ++ items_from (k + 1) ps) (k + 0) p e x)) (sym same)
      (subst (λ n. (x : BodyElement) × ((slice_get p.body.elements e ≡ Some x) × IsFound (items_in k p 0 p.body.elements ++ items_from (k + 1) ps) n p e x)) (sym start)
      (let found = body_first k p 0 p.body.elements e (subst (λ n. B n p (0 + e)) start (subst (B (k + 0) p) (let f : e ≡ 0 + e = omega arith in f) here)) low
      (λ j l broken. before j l (subst (λ n. B n p j) (sym start) (subst (B k p) (let f : 0 + j ≡ j = omega arith in f) broken))) in (
        found.0,
        (
          found.1.0,
          record {
            first = λ b. subst (λ n. IsFirst (λ (c : List Item) (y : Item). At y) b (items_in k p 0 p.body.elements ++ items_from (k + 1) ps) (item k p n found.0)) (let f : 0 + e ≡ e = omega arith in f)
                (first_front At b (items_in k p 0 p.body.elements) (items_from (k + 1) ps) (item k p (0 + e) found.0) (found.1.1.first b));
          },
        ),
      )))
  pous_first k (o ∷ ps) (suc q) p e is low here before earlier =
      let step : k + suc q ≡ (k + 1) + q = omega arith in
      let found = pous_first (k + 1) ps q p e is low (subst (λ n. B n p e) step here) (λ j l broken. before j l (subst (λ n. B n p j) (sym step) broken))
      (λ r z l there. subst (λ n. Kept n z) (let f : k + suc r ≡ (k + 1) + r = omega arith in f) (earlier (suc r) z (omega arith) there)) in
      let own : Kept k o = subst (λ n. Kept n o) (let f : k + 0 ≡ k = omega arith in f) (earlier 0 o (omega arith) refl) in (
        found.0,
        (
          found.1.0,
          record {
            first = λ b. subst (λ n. IsFirst (λ (c : List Item) (y : Item). At y) b (items_in k o 0 o.body.elements ++ items_from (k + 1) ps) (item n p e found.0)) (sym step)
                (first_behind At b (items_in k o 0 o.body.elements) (items_from (k + 1) ps) (item ((k + 1) + q) p e found.0) (own_never k o own b) found.1.1.first);
          },
        ),
      )

-- ---- the verdict

module _ (pous : List Pou) (links : List (List (List Source))) (js : List Judged) (are : AreJudged pous links js) where
  abbrev Breaking : TypeRule → ℕ → Pou → ℕ → Type 0
  Breaking r pou p e = BreaksIn r (sheet_at pous links pou p) e

  forms_count : (pou : ℕ) (p : Pou) → length (sheet_at pous links pou p).forms ≡ length p.body.elements
  forms_count pou p = length-map p.body.elements (λ (x : BodyElement). form_of pous p x.kind)

  got_within : (ps : List Pou) (q : ℕ) (p : Pou) → slice_get ps q ≡ Some p → q < length ps
  got_within [] q p is = let f : None ≡ Some p = is in absurd (cc)
  got_within (o ∷ ps) zero p is = omega arith
  got_within (o ∷ ps) (suc q) p is = omega (arith, got_within ps q p is)

  got : (ps : List Pou) (q : ℕ) → q < length ps → (p : Pou) × (slice_get ps q ≡ Some p)
  got [] q low = absurd (omega arith)
  got (p ∷ ps) zero low = (p, refl)
  got (p ∷ ps) (suc q) low = got ps q (omega arith)

  not-raised : (r : TypeRule) (q : ℕ) (p : Pou) (j : ℕ) → slice_get pous q ≡ Some p → j < length p.body.elements → flag (flags_of r (judged_at js q)) j ≡ false → Breaking r q p j → ⊥
  not-raised r q p j is low off broken =
      let on = ((are.each q p is).faults r j (omega (arith, forms_count q p))).1 broken in
      let f : false ≡ true = sym off ∙ on in cc

  zero_plus : (q : ℕ) → 0 + q ≡ q
  zero_plus q = omega arith

  pub none : (r : TypeRule) → NoSpot r js → Never (BreaksTyping pous links r) [] (items_of pous)
  unfolding items_of
  none r h = pous_never (Breaking r) 0 pous (λ q p is. subst (λ n. Kept (Breaking r) n p) (sym (zero_plus q)) (λ j low broken. not-raised r q p j is low (h q (omega (arith, got_within pous q p is, are.number)) j) broken)) []

  pub some : (r : TypeRule) (pou e : ℕ) → IsSpot r js (pou, e) → (p : Pou) × ((slice_get pous pou ≡ Some p) × ((x : BodyElement) × ((slice_get p.body.elements e ≡ Some x) × IsFirst (BreaksTyping pous links r) [] (items_of pous) (item (Breaking r) pou p e x))))
  unfolding items_of
  some r pou e h =
      let own = got pous pou (omega (arith, h.within, are.number)) in
      let p = own.0 in
      let judged = are.each pou p own.1 in
      let low : e < length p.body.elements = omega (arith, h.here.within, judged.count r, forms_count pou p) in
      let here : Breaking r pou p e = (judged.faults r e (omega (arith, forms_count pou p))).0 h.here.raised in
      let found = pous_first (Breaking r) 0 pous pou p e own.1 low (subst (λ n. Breaking r n p e) (sym (zero_plus pou)) here)
      (λ j l broken. not-raised r pou p j own.1 (omega arith) (h.here.first j l) (subst (λ n. Breaking r n p j) (zero_plus pou) broken))
      (λ q o l is. subst (λ n. Kept (Breaking r) n o) (sym (zero_plus q)) (λ j low' broken. not-raised r q o j is low' (h.earlier q l j) broken)) in
      (p, (own.1, (found.0, (found.1.0, subst (λ n. IsFirst (BreaksTyping pous links r) [] (items_of pous) (item (Breaking r) n p e found.0)) (zero_plus pou) (found.1.1.first [])))))

  abbrev Says : List TypeRule → Option (TypeRule × Place) → Type 0
  Says rules v = Verdict (BreaksTyping pous links) type_place (items_of pous) rules v

  pub kept_all : ((r : TypeRule) → NoSpot r js) → Says type_rules None
  kept_all h = Next (none NoType (h NoType)) (Next (none Disagreement (h Disagreement)) (Next (none Range (h Range)) verdicts.Kept))

  behind : (r : TypeRule) (v : Option (TypeRule × Place)) → ((q : TypeRule) → type_rule_number q < type_rule_number r → NoSpot q js) → ((rest : List TypeRule) → Says (r ∷ rest) v) → Says type_rules v
  behind NoType v h k = k (Disagreement ∷ Range ∷ [])
  behind Disagreement v h k = Next (none NoType (h NoType (omega arith))) (k (Range ∷ []))
  behind Range v h k = Next (none NoType (h NoType (omega arith))) (Next (none Disagreement (h Disagreement (omega arith))) (k []))

  pub broken_first : (r : TypeRule) (pou e : ℕ) (place : Place) → IsFirstFault js (r, pou, e) → ((p : Pou) (x : BodyElement) → slice_get pous pou ≡ Some p → slice_get p.body.elements e ≡ Some x → place ≡ Element p.name x.local_id) → Says type_rules (Some (r, place))
  broken_first r pou e place h at =
      let found = some r pou e h.spot in
      let p = found.0 in
      let x = found.1.1.0 in
      let is = at p x found.1.0 found.1.1.1.0 in
      behind r (Some (r, place)) h.before (λ rest. subst (λ q. Says (r ∷ rest) (Some (r, q))) (sym is) (Broken found.1.1.1.1))

  -- the element of a mark is one of its body
  pub spot_within : (r : TypeRule) (pou e : ℕ) → IsSpot r js (pou, e) → (p : Pou) → slice_get pous pou ≡ Some p → e < length p.body.elements
  spot_within r pou e h p is = omega (arith, h.here.within, (are.each pou p is).count r, forms_count pou p)
