-- A number is written at its place: the function changes at its key and nowhere else.
use Rattle.std.proofs.Common.{◌≡◌, ◌≢◌, ℕ, ◌+◌, ◌<◌, ◌≤◌, ℤ, pos, Bool, true, false, List, [], ◌∷◌, ◌++◌, length, set, Some, Decides, refl, sym, ap, ◌∙◌, subst, arith, get_or-set_other, append_assoc, add_assoc, zero-add}
use Rattle.std.specs.Prelude.{slice_get, if◌then◌else◌}
use Rattle.std.specs.List.{fold}
use Rattle.std.proofs.lemmas.Bool.{true≢false}
use Rattle.std.proofs.lemmas.Option.{slice_get_within, same_Some}
use Rattle.std.proofs.lemmas.List.{length-set}
use Rattle.std.proofs.lemmas.Grind.{get_or-set_at}
use Rattle.plcx_types.specs.Name.{in_lower_case}
use Rattle.plcx_types.specs.Value.{Value}
use Rattle.plcx_meaning.specs.Base.{Path, same_path, Memory}
use Rattle.plcx_meaning.specs.Evaluate.{Heard, DiagramState, Wires, no_wires, fix, set_leaf, set_memory, hear}
use Rattle.plcx_steps.specs.declared.program.Instance.{Instance}
use Rattle.plcx_steps.specs.Numbered.{Numbered, no_value, number_at, within}
use Rattle.plcx_numbered.specs.Agreeing.{Holds, AreApart, Pin, plain_path, plain_memory, plain_cell, plain_pin, Shape, IsApart, Lies, Agree, SameWires}
use Rattle.plcx_numbered.proofs.Keys.{paths_decide, same_cell, cells_decide, same_pin, pins_decide}

pub holds_set : {K : Type 0} (plain : K → K) (same : K → K → Bool) → ((x y : K) → Decides (same x y) (plain x ≡ plain y)) → (keys : List K) → AreApart keys → (f : K → ℤ) (xs : List Value) (i : ℕ) (k : K) (v : ℤ) (w : Value)
    → slice_get keys i ≡ Some (plain k) → v ≡ w.n → Holds plain keys f xs → Holds plain keys (λ x. if same x k then v else f x) (set xs i w)
holds_set {K} plain same decides keys apart f xs i k v w there is h = record { long = subst (λ n. length keys ≤ n) (sym (length-set xs i w)) h.long; each = λ j x at. at_key j x at (same x k) refl }
  where
    here : i < length xs
    here = let a = slice_get_within keys i (plain k) there in let b = h.long in omega arith

    at_key : (j : ℕ) (x : K) → slice_get keys j ≡ Some (plain x) → (b : Bool) → same x k ≡ b → (if b then v else f x) ≡ number_at (set xs i w) j
    at_key j x at true e =
        let j_is_i = apart.apart j i (plain k) (at ∙ ap Some ((decides x k).0 e)) there in
        is ∙ sym (ap (λ (u : Value). u.n) (get_or-set_at xs i j w no_value j_is_i here))
    at_key j x at false e =
        let other : j ≢ i = λ q. true≢false (sym ((decides x k).1 (same_Some (plain x) (plain k) (sym at ∙ ap (slice_get keys) q ∙ there))) ∙ e) in
        h.each j x at ∙ sym (ap (λ (u : Value). u.n) (get_or-set_other xs i j w no_value other))

-- the same function, written otherwise
pub holds_as : {K : Type 0} (plain : K → K) (keys : List K) (f g : K → ℤ) (xs : List Value) → ((k : K) → g k ≡ f k) → Holds plain keys f xs → Holds plain keys g xs
holds_as plain keys f g xs e h = record { long = h.long; each = λ i k there. e k ∙ h.each i k there }

-- a place behind the keys
pub holds_behind : {K : Type 0} (plain : K → K) (keys : List K) (f : K → ℤ) (xs : List Value) (i : ℕ) (w : Value) → length keys ≤ i → Holds plain keys f xs → Holds plain keys f (set xs i w)
holds_behind plain keys f xs i w past h = record {
  long = subst (λ n. length keys ≤ n) (sym (length-set xs i w)) h.long;
  each = λ j k there.
      let low = slice_get_within keys j (plain k) there in
      h.each j k there ∙ sym (ap (λ (u : Value). u.n) (get_or-set_other xs i j w no_value (λ e. let e' : j ≡ i = e in omega arith)));
}

pub wires_fix : (pins : List Pin) → AreApart pins → (ws : Wires) (own : List Value) (id : ℕ) (pin : List ℕ) (w : ℕ) (v : ℤ) (n : Value) → slice_get pins w ≡ Some (id, in_lower_case pin) → v ≡ n.n → SameWires pins ws own → SameWires pins (fix ws id pin v) (set own w n)
wires_fix pins apart ws own id pin w v n there is h = holds_set plain_pin same_pin pins_decide pins apart (λ p. ws p.0 p.1) own w (id, pin) v n there is h

pub no_wires_same : (pins : List Pin) (initial : List Value) → length pins ≤ length initial → ((w : ℕ) → number_at initial w ≡ pos 0) → SameWires pins no_wires initial
no_wires_same pins initial long zeros = record { long = long; each = λ i k at. sym (zeros i) }

module _ {M : Type 0} (whole : Shape) (apart : IsApart whole) (tell : M → Heard → M) (begun : M) where
  -- a leaf, a memory, the turns that are left, and what is heard
  pub agree_set : (d : DiagramState) (n : Numbered M) (p : Path) (i : ℕ) (v : ℤ) (w : Value) → slice_get whole.paths i ≡ Some p → v ≡ w.n → Agree whole tell begun d n → Agree whole tell begun (set_leaf d p v) (record n { values = set n.values i w })
  agree_set d n p i v w there is a = record {
    store = holds_set plain_path same_path paths_decide whole.paths apart.paths d.store n.values i p v w there is a.store;
    memories = a.memories;
    left = a.left;
    heard = a.heard;
  }

  pub agree_keep : (d : DiagramState) (n : Numbered M) (p : Path) (k : Memory) (i : ℕ) (v : ℤ) (w : Value) → slice_get whole.cells i ≡ Some (p, plain_memory k) → v ≡ w.n → Agree whole tell begun d n
      → Agree whole tell begun (set_memory d p k v) (record n { memories = set n.memories i w })
  agree_keep d n p k i v w there is a = record {
    store = a.store;
    memories = holds_set plain_cell same_cell cells_decide whole.cells apart.cells (λ c. d.memories c.0 c.1) n.memories i (p, k) v w there is a.memories;
    left = a.left;
    heard = a.heard;
  }

  pub agree_left : (d : DiagramState) (n : Numbered M) (left : ℕ) → Agree whole tell begun d n → Agree whole tell begun (record d { left = left }) (record n { left = left })
  agree_left d n left a = record { store = a.store; memories = a.memories; left = refl; heard = a.heard }

  fold_append : {A B : Type 0} (f : B → A → B) (b : B) (xs ys : List A) → fold f b (xs ++ ys) ≡ fold f (fold f b xs) ys
  fold_append f b [] ys = refl
  fold_append f b (x ∷ xs) ys = fold_append f (f b x) xs ys

  pub agree_hear : (d : DiagramState) (n : Numbered M) (hs : List Heard) → Agree whole tell begun d n → Agree whole tell begun (hear hs d) (record n { watch = fold tell n.watch hs })
  agree_hear d n hs a = record { store = a.store; memories = a.memories; left = a.left; heard = ap (λ m. fold tell m hs) a.heard ∙ sym (fold_append tell begun d.heard hs) }

-- an instance within one that lies within the whole lies there too
pub lies_within : (whole s part : Shape) (p : Path) (at : Instance) (i : List ℕ) (inner : Instance) → Lies whole s p at → Lies s part (i ∷ []) inner → Lies whole part (i ∷ p) (within at inner.leaves inner.memories)
lies_within whole s part p at i inner outer l = record {
  paths = λ j x there.
      ap (slice_get whole.paths) (add_assoc at.leaves inner.leaves j)
      ∙ outer.paths (inner.leaves + j) (x ++ (i ∷ [])) (l.paths j x there)
      ∙ ap Some (append_assoc x (i ∷ []) p);
  cells = λ j x k there.
      ap (slice_get whole.cells) (add_assoc at.memories inner.memories j)
      ∙ outer.cells (inner.memories + j) (x ++ (i ∷ [])) k (l.cells j x k there)
      ∙ ap (λ y. Some (y, k)) (append_assoc x (i ∷ []) p);
}

append_none : (x : Path) → x ++ [] ≡ x
append_none [] = refl
append_none (n ∷ x) = ap (λ y. n ∷ y) (append_none x)

-- the program itself
pub lies_whole : (whole : Shape) → Lies whole whole [] (record { leaves = 0; memories = 0 })
lies_whole whole = record {
  paths = λ j x there. ap (slice_get whole.paths) (zero-add j) ∙ there ∙ ap Some (sym (append_none x));
  cells = λ j x k there. ap (slice_get whole.cells) (zero-add j) ∙ there ∙ ap (λ y. Some (y, k)) (sym (append_none x));
}
