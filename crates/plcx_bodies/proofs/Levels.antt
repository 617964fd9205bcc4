-- Where levels begin, and bodies that stand there.
use Rattle.std.proofs.Common.{◌≡◌, ℕ, zero, suc, ◌+◌, ◌<◌, ◌≤◌, List, [], ◌∷◌, ◌++◌, map, length, length-append, Option, Some, None, refl, sym, ap, ◌∙◌, subst, arith, inl, inr, ◌⊎◌}
use Rattle.std.specs.Prelude.{slice_get}
use Rattle.std.specs.List.{AllZip}
use Rattle.std.proofs.lemmas.Option.{same_Some, slice_get_within}
use Rattle.plcx_types.specs.Lists.{Each}
use Rattle.plcx_steps.specs.declared.program.Body.{Body}
use Rattle.plcx_bodies.specs.declared.frames.Start.{Start}
use Rattle.plcx_bodies.specs.Framed.{HasRoom, EndsBefore, AreStarts, framed_at, framed, IsFramed, StandsBehind, AreFramed}
use Rattle.plcx_bodies.proofs.Each.{there_within}

-- what stands in a list with one item more
there_more : {A : Type 0} (xs : List A) (x y : A) (i : ℕ) → slice_get (xs ++ x ∷ []) i ≡ Some y → (slice_get xs i ≡ Some y) ⊎ ((i ≡ length xs) × (x ≡ y))
there_more [] x y zero h = inr (refl, same_Some x y h)
there_more [] x y (suc i) h = absurd (let no : ⊥ = cc in no)
there_more (z ∷ xs) x y zero h = inl h
there_more (z ∷ xs) x y (suc i) h = elim (there_more xs x y i h) [ inl a ↦ inl a | inr b ↦ inr ((let e = b.0 in omega arith), b.1) ]

-- and what stands there last
pub there_last : {A : Type 0} (xs : List A) (x : A) (i : ℕ) → i ≡ length xs → slice_get (xs ++ x ∷ []) i ≡ Some x
there_last [] x zero e = refl
there_last [] x (suc i) e = absurd (omega arith)
there_last (z ∷ xs) x zero e = absurd (omega arith)
there_last (z ∷ xs) x (suc i) e = let less : i ≡ length xs = omega arith in there_last xs x i less

less_or_same : (a b : ℕ) → a < b + 1 → (a < b) ⊎ (a ≡ b)
less_or_same zero zero h = inr refl
less_or_same zero (suc b) h = inl (omega arith)
less_or_same (suc a) zero h = absurd (omega arith)
less_or_same (suc a) (suc b) h = elim (less_or_same a b (omega arith)) [ inl l ↦ inl (omega arith) | inr e ↦ inr (ap suc e) ]

-- the start of one level more
module _ (ss : List Start) (level : ℕ) (last room next : Start) (long : length ss ≡ level + 1) (is_last : slice_get ss level ≡ Some last) (wire : next.wire ≡ last.wire + room.wire) (in_out : next.in_out ≡ last.in_out + room.in_out) where
  ends_more : (body : Body) → HasRoom level room body → EndsBefore ss body → EndsBefore (ss ++ next ∷ []) body
  ends_more body enough before m own above low here there =
      elim (there_more ss next own body.level here) [
        | inr h ↦
            let within = slice_get_within (ss ++ next ∷ []) m above there in
            let count = length-append ss (next ∷ []) in
            let e = h.0 in absurd (omega arith)
        | inl h ↦ elim (there_more ss next above m there) [ inl t ↦ before m own above low h t | inr t ↦ at_last h t.0 t.1 (less_or_same body.level level (let e = t.0 in omega arith)) ]
      ]
    where
      at_last : slice_get ss body.level ≡ Some own → m ≡ length ss → next ≡ above → (body.level < level) ⊎ (body.level ≡ level) → (own.wire + body.width ≤ above.wire) × (own.in_out + body.in_outs ≤ above.in_out)
      at_last h e same (inl l) =
          let b = before level own last l h is_last in
          let w = ap (λ (s : Start). s.wire) same in
          let i = ap (λ (s : Start). s.in_out) same in
          let b0 = b.0 in
          let b1 = b.1 in (omega arith, omega arith)
      at_last h e same (inr l) =
          let own_last : own ≡ last = same_Some own last (sym h ∙ ap (slice_get ss) l ∙ is_last) in
          let r = enough l in
          let r0 = r.0 in
          let r1 = r.1 in
          let ow = ap (λ (s : Start). s.wire) own_last in
          let oi = ap (λ (s : Start). s.in_out) own_last in
          let w = ap (λ (s : Start). s.wire) same in
          let i = ap (λ (s : Start). s.in_out) same in (omega arith, omega arith)

  pub starts_more : (bodies : List Body) → Each (HasRoom level room) bodies → Each (EndsBefore ss) bodies → Each (EndsBefore (ss ++ next ∷ [])) bodies
  starts_more [] rooms before = tt
  starts_more (b ∷ bs) rooms before = (ends_more b rooms.0 before.0, starts_more bs rooms.1 before.1)

-- where no level but the lowest begins, there is nothing to end before
pub starts_first : (start : Start) (bodies : List Body) → Each (EndsBefore (start ∷ [])) bodies
starts_first start [] = tt
starts_first start (b ∷ bs) = ((λ m own above low here there. absurd (none m low above there)), starts_first start bs)
  where
    none : (m : ℕ) → b.level < m → (above : Start) → slice_get (start ∷ []) m ≡ Some above → ⊥
    none zero low above there = omega arith
    none (suc m) low above there = cc

-- ---- bodies at these starts
stands_there : (ss : List Start) (b c : Body) (own above : Start) → slice_get ss b.level ≡ Some own → slice_get ss c.level ≡ Some above → EndsBefore ss b → StandsBehind (framed ss b) (framed ss c)
stands_there ss b c own above here there ends =
    subst (λ (x : Body). StandsBehind x (framed ss c)) (sym (ap (framed_at b) here))
    (subst (λ (y : Body). StandsBehind (framed_at b (Some own)) y) (sym (ap (framed_at c) there)) (λ low. ends c.level own above low here there))

-- bodies where their levels begin
pub bodies_stand : (bodies : List Body) (ss : List Start) → AreStarts bodies ss → AreFramed bodies (map (framed ss) bodies)
bodies_stand bodies ss are = record { same = same bodies; behind = outer bodies are.all are.before }
  where
    one : (b : Body) (o : Option Start) → IsFramed b (framed_at b o)
    one b None = refl
    one b (Some s) = refl

    same : (bs : List Body) → AllZip IsFramed bs (map (framed ss) bs)
    same [] = tt
    same (b ∷ bs) = (one b (slice_get ss b.level), same bs)

    inner : (b : Body) (own : Start) → slice_get ss b.level ≡ Some own → EndsBefore ss b → (cs : List Body) → Each (λ (c : Body). c.level < length ss) cs → Each (StandsBehind (framed ss b)) (map (framed ss) cs)
    inner b own here ends [] within = tt
    inner b own here ends (c ∷ cs) within =
        let t = there_within ss c.level within.0 in (stands_there ss b c own t.0 here t.1 ends, inner b own here ends cs within.1)

    outer : (bs : List Body) → Each (λ (c : Body). c.level < length ss) bs → Each (EndsBefore ss) bs → Each (λ (lower : Body). Each (StandsBehind lower) (map (framed ss) bodies)) (map (framed ss) bs)
    outer [] within ends = tt
    outer (b ∷ bs) within ends =
        let t = there_within ss b.level within.0 in (inner b t.0 t.1 ends.0 bodies are.all, outer bs within.1 ends.1)
