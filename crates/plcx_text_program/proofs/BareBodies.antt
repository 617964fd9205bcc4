-- The bodies of the POUs of a unit, one behind another.
use Rattle.std.proofs.Common.{◌≡◌, ℕ, zero, suc, ◌+◌, ◌<◌, ◌⊎◌, inl, inr, List, [], ◌∷◌, ◌++◌, Option, Some, None, length, length-append, map, option_map, slice_get, refl, sym, ap, ◌∙◌, subst, arith}
use Rattle.std.proofs.lemmas.List.{length-map}
use Rattle.std.proofs.lemmas.Option.{same_Some, slice_get_within}
use Rattle.plcx_meaning.specs.Tree as tree
use Rattle.plcx_st.specs.declared.tree.PouText.{PouText}
use Rattle.plcx_st.specs.Meant.{pou_meant}
use Rattle.plcx_known.proofs.Places.{get_map}
use Rattle.plcx_steps.specs.declared.program.Body.{Body}
use Rattle.plcx_text_steps.specs.declared.text.Entry.{Entry}
use Rattle.plcx_text_order.specs.Laws.{IsBare, AreBare}
use Rattle.plcx_text_order.proofs.Growing.{get_front, get_behind}

last_or_before : (j k : ℕ) → j < k + 1 → (j < k) ⊎ (j ≡ k)
last_or_before zero zero h = inr refl
last_or_before zero (suc k) h = inl (omega arith)
last_or_before (suc j) zero h = absurd (omega arith)
last_or_before (suc j) (suc k) h = elim (last_or_before j k (omega arith)) [ inl l ↦ inl (omega arith) | inr e ↦ inr (ap suc e) ]

-- the bodies of the first POUs
pub record FirstAreBare (pous : List PouText) (entries : List Entry) (place : ℕ) (bodies : List Body) : Type 0 where
  pub count : length bodies ≡ place
  pub each : (k : ℕ) (p : PouText) (e : Entry) (body : Body) → slice_get pous k ≡ Some p → slice_get entries k ≡ Some e → slice_get bodies k ≡ Some body → IsBare (map pou_meant pous) (pou_meant p) e body

pub none_bare : (pous : List PouText) (entries : List Entry) (bodies : List Body) → bodies ≡ [] → FirstAreBare pous entries 0 bodies
none_bare pous entries bodies none = record {
  count = ap length none;
  each = λ k p e body a b c. let wrong : slice_get [] k ≡ Some body = ap (λ (bs : List Body). slice_get bs k) (sym none) ∙ c in absurd (cc);
}

-- the body of the next one
module _ (pous : List PouText) (entries : List Entry) (place : ℕ) (before : List Body) (here : Entry) (body : Body) (first : FirstAreBare pous entries place before) (begins : slice_get entries place ≡ Some here)
    (bare : (p : PouText) → slice_get pous place ≡ Some p → IsBare (map pou_meant pous) (pou_meant p) here body) where
  last : (k : ℕ) (b : Body) → k ≡ place → slice_get (before ++ body ∷ []) k ≡ Some b → body ≡ b
  last k b at is =
      let count = first.count in
      same_Some body b (sym (get_behind before (body ∷ []) 0) ∙ ap (slice_get (before ++ body ∷ [])) (let z : length before + 0 ≡ k = omega arith in z) ∙ is)

  each : (k : ℕ) (p : PouText) (e : Entry) (b : Body) → slice_get pous k ≡ Some p → slice_get entries k ≡ Some e → slice_get (before ++ body ∷ []) k ≡ Some b → (k < place) ⊎ (k ≡ place) → IsBare (map pou_meant pous) (pou_meant p) e b
  each k p e b there at is (inl low) = let count = first.count in first.each k p e b there at (sym (get_front before (body ∷ []) k (omega arith)) ∙ is)
  each k p e b there at is (inr last_one) =
      let entry : here ≡ e = same_Some here e (sym begins ∙ ap (slice_get entries) (sym last_one) ∙ at) in
      subst (IsBare (map pou_meant pous) (pou_meant p) e) (last k b last_one is)
      (subst (λ (x : Entry). IsBare (map pou_meant pous) (pou_meant p) x body) entry (bare p (ap (slice_get pous) (sym last_one) ∙ there)))

  within : (k : ℕ) (b : Body) → slice_get (before ++ body ∷ []) k ≡ Some b → (k < place) ⊎ (k ≡ place)
  within k b is =
      let low = slice_get_within (before ++ body ∷ []) k b is in
      let long = length-append before (body ∷ []) in
      let count = first.count in
      last_or_before k place (omega arith)

  pub one_more : FirstAreBare pous entries (place + 1) (before ++ body ∷ [])
  one_more = record {
    count = (let long = length-append before (body ∷ []) in let count = first.count in omega arith);
    each = λ k p e b there at is. each k p e b there at is (within k b is);
  }

-- those of all
pub all_bare : (pous : List PouText) (entries : List Entry) (bodies : List Body) → length entries ≡ length pous → FirstAreBare pous entries (length entries) bodies → AreBare (map pou_meant pous) entries bodies
all_bare pous entries bodies long first = record {
  count = first.count ∙ long ∙ sym (length-map pous pou_meant);
  each = λ k p e body there at is. by (slice_get pous k) k refl p e body (sym (get_map pou_meant pous k) ∙ there) at is;
}
  where
    by : (o : Option PouText) → (k : ℕ) → slice_get pous k ≡ o → (p : tree.PouText) (e : Entry) (body : Body) → option_map pou_meant o ≡ Some p → slice_get entries k ≡ Some e → slice_get bodies k ≡ Some body
        → IsBare (map pou_meant pous) p e body
    by None k is p e body there at b = absurd (cc)
    by (Some q) k is p e body there at b = subst (λ (x : tree.PouText). IsBare (map pou_meant pous) x e body) (same_Some (pou_meant q) p there) (first.each k q e body is at b)
