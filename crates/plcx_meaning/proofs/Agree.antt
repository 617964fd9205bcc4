-- What keeps a diagram's state and its text's in agreement.
use Rattle.std.proofs.Common.{◌≡◌, ℕ, ℤ, ◌<◌, ◌^◌, Bool, true, false, ◌&&◌, List, [], ◌∷◌, refl, sym, ap, ◌∙◌, if◌then◌else◌}
use Rattle.std.specs.Prelude.{nat_eq}
use Rattle.std.specs.Str.{bytes_eq}
use Rattle.std.proofs.lemmas.Bool.{and_parts, not-true, eq-eqb}
use Rattle.plcx_types.specs.Name.{in_lower_case}
use Rattle.plcx_types.specs.Reserved.{is_own}
use Rattle.plcx_meaning.specs.Base.{Path, same_path, is_declared, put, Memory, same_memory}
use Rattle.plcx_meaning.specs.Diagram.{Port}
use Rattle.plcx_meaning.specs.Evaluate.{DiagramState, Wires, fix, set_leaf, set_memory}
use Rattle.plcx_meaning.specs.Execute.{TextState, Frame, hold}
use Rattle.plcx_meaning.specs.Templates.{wire_name, memory_name}
use Rattle.plcx_meaning.specs.Same.{Agree}
use Rattle.plcx_meaning.specs.Fits.{is_fresh}
use Rattle.plcx_meaning.proofs.Asked.{SameWires}
use Rattle.plcx_meaning.proofs.Names.{IsSmall, bytes_self, bytes_swapped, apart_from_own, memory_own, same_wires_to, same_memories_to}

and_swap : (a b : Bool) → (a && b) ≡ (b && a)
and_swap true true = refl
and_swap true false = refl
and_swap false true = refl
and_swap false false = refl

-- a declared path begins with no memory
pub memory_apart : (k : Memory) (p q : Path) → is_declared q ≡ true → same_path (in_lower_case (memory_name k) ∷ p) q ≡ false
memory_apart k p [] own = refl
memory_apart k p (y ∷ q) own =
    ap (λ b. b && same_path p q) (bytes_swapped (in_lower_case (memory_name k)) y ∙ apart_from_own y (in_lower_case (memory_name k)) (not-true (is_own y) (and_parts _ _ own).0) (memory_own k))

pub declared_apart : (k : Memory) (p q : Path) → is_declared q ≡ true → same_path q (in_lower_case (memory_name k) ∷ p) ≡ false
declared_apart k p [] own = refl
declared_apart k p (y ∷ q) own = ap (λ b. b && same_path q p) (apart_from_own y (in_lower_case (memory_name k)) (not-true (is_own y) (and_parts _ _ own).0) (memory_own k))

-- a declared leaf is set on both sides
pub agree_set : (d : DiagramState) (g : TextState) (q : Path) (v : ℤ) → is_declared q ≡ true → Agree d g → Agree (set_leaf d q v) (record g { store = put g.store q v })
agree_set d g q v own a = record {
  stores = λ p h. ap (λ y. if same_path p q then v else y) (a.stores p h);
  memories = λ p k h. a.memories p k h ∙ sym (ap (λ b. if b then v else g.store (in_lower_case (memory_name k) ∷ p)) (memory_apart k p q own));
  lefts = a.lefts;
}

-- a memory is set, and its variable
pub agree_memory : (d : DiagramState) (g : TextState) (p : Path) (k : Memory) (v : ℤ) → IsSmall k → Agree d g → Agree (set_memory d p k v) (record g { store = put g.store (in_lower_case (memory_name k) ∷ p) v })
agree_memory d g p k v small a = record {
  stores = λ q h. a.stores q h ∙ sym (ap (λ b. if b then v else g.store q) (declared_apart k p q h));
  memories = λ q j h.
      ap (λ y. if same_path q p && same_memory j k then v else y) (a.memories q j h)
      ∙ ap (λ b. if b then v else g.store (in_lower_case (memory_name j) ∷ q)) (and_swap (same_path q p) (same_memory j k) ∙ ap (λ b. b && same_path q p) (sym (same_memories_to j k small)));
  lefts = a.lefts;
}

-- a wire is fixed, and its temporary: all others stay the same
pub wires_stay : (id : ℕ) → id < 2 ^ 64 → (pin : List ℕ) (v : ℤ) (done : List (ℕ × Port)) (ws : Wires) (f : Frame) → SameWires done ws f → SameWires done (fix ws id pin v) (hold f (wire_name id pin) v)
wires_stay id small pin v [] ws f same = tt
wires_stay id small pin v (o ∷ done) ws f same = (
  ap (λ y. if nat_eq o.0 id && bytes_eq (in_lower_case o.1.pin) (in_lower_case pin) then v else y) same.0
      ∙ sym (ap (λ b. if b then v else f (in_lower_case (wire_name o.0 o.1.pin))) (same_wires_to o.0 o.1.pin id pin small)),
  wires_stay id small pin v done ws f same.1,
)

-- the wire itself
pub wire_fixed : (id : ℕ) → id < 2 ^ 64 → (o : Port) (v : ℤ) (ws : Wires) (f : Frame) → fix ws id o.pin v id o.pin ≡ hold f (wire_name id o.pin) v (in_lower_case (wire_name id o.pin))
wire_fixed id small o v ws f = at_self ∙ sym self
  where
    both : (nat_eq id id && bytes_eq (in_lower_case o.pin) (in_lower_case o.pin)) ≡ true
    both = rw (eq-eqb id id refl, bytes_self (in_lower_case o.pin))

    at_self : fix ws id o.pin v id o.pin ≡ v
    at_self = ap (λ b. if b then v else ws id o.pin) both

    self : hold f (wire_name id o.pin) v (in_lower_case (wire_name id o.pin)) ≡ v
    self = ap (λ b. if b then v else f (in_lower_case (wire_name id o.pin))) (bytes_self (in_lower_case (wire_name id o.pin)))

pub wires_fix : (id : ℕ) → id < 2 ^ 64 → (o : Port) (v : ℤ) (done : List (ℕ × Port)) (ws : Wires) (f : Frame) → SameWires done ws f → SameWires ((id, o) ∷ done) (fix ws id o.pin v) (hold f (wire_name id o.pin) v)
wires_fix id small o v done ws f same = (wire_fixed id small o v ws f, wires_stay id small o.pin v done ws f same)

-- a temporary of an element that is evaluated only now is none of those that are fixed
pub wires_fresh : (id : ℕ) → id < 2 ^ 64 → (pin : List ℕ) (v : ℤ) (done : List (ℕ × Port)) (ws : Wires) (f : Frame) → is_fresh id done ≡ true → SameWires done ws f → SameWires done ws (hold f (wire_name id pin) v)
wires_fresh id small pin v [] ws f fresh same = tt
wires_fresh id small pin v (o ∷ done) ws f fresh same =
    let parts = and_parts _ _ fresh in (
      same.0 ∙ sym (ap (λ b. if b then v else f (in_lower_case (wire_name o.0 o.1.pin))) (same_wires_to o.0 o.1.pin id pin small ∙ ap (λ b. b && bytes_eq (in_lower_case o.1.pin) (in_lower_case pin)) (not-true (nat_eq o.0 id) parts.0))),
      wires_fresh id small pin v done ws f parts.1 same.1,
    )
