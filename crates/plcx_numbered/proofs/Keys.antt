-- The tests by which stores, memories and wires are changed decide whether two keys are the same.
use Rattle.std.proofs.Common.{◌≡◌, Bool, ◌&&◌, [], ◌∷◌, Decides, refl, ap, ap₂}
use Rattle.std.specs.Prelude.{nat_eq}
use Rattle.std.specs.Str.{bytes_eq}
use Rattle.std.proofs.lemmas.Bool.{false≢true}
use Rattle.std.proofs.lemmas.Bool.Decides.{Decides-like, Decides-and, Decides-eqb}
use Rattle.std.proofs.lemmas.Slice.Eq.{bytes_eq-Decides}
use Rattle.plcx_types.specs.Name.{in_lower_case}
use Rattle.plcx_meaning.specs.Base.{Path, same_path, Memory, AtEdge, AtOutput, same_memory}
use Rattle.plcx_numbered.specs.Agreeing.{Cell, Pin, plain_path, plain_memory, plain_cell, plain_pin}

pub paths_decide : (p q : Path) → Decides (same_path p q) (plain_path p ≡ plain_path q)
paths_decide [] [] = (λ e. refl, λ e. refl)
paths_decide [] (y ∷ q) = (λ e. absurd (false≢true e), λ e. absurd (cc))
paths_decide (x ∷ p) [] = (λ e. absurd (false≢true e), λ e. absurd (cc))
paths_decide (x ∷ p) (y ∷ q) =
    Decides-like (bytes_eq x y && same_path p q) (λ h. let a = h.0 in let b = h.1 in cc) (λ e. (cc, cc)) (Decides-and (bytes_eq x y) (same_path p q) (bytes_eq-Decides x y) (paths_decide p q))

pub memories_decide : (j k : Memory) → Decides (same_memory j k) (plain_memory j ≡ plain_memory k)
memories_decide (AtEdge i) (AtEdge j) = Decides-like (nat_eq i j) (λ h. cc) (λ e. cc) (Decides-eqb i j)
memories_decide (AtEdge i) (AtOutput j pin) = (λ e. absurd (false≢true e), λ e. absurd (cc))
memories_decide (AtOutput i pin) (AtEdge j) = (λ e. absurd (false≢true e), λ e. absurd (cc))
memories_decide (AtOutput i pin) (AtOutput j other) =
    Decides-like (nat_eq i j && bytes_eq (in_lower_case pin) (in_lower_case other)) (λ h. let a = h.0 in let b = h.1 in cc) (λ e. (cc, cc)) (Decides-and (nat_eq i j) (bytes_eq (in_lower_case pin) (in_lower_case other)) (Decides-eqb i j) (bytes_eq-Decides (in_lower_case pin) (in_lower_case other)))

abbrev pub same_cell : Cell → Cell → Bool
same_cell x y = same_path x.0 y.0 && same_memory x.1 y.1

pub cells_decide : (x y : Cell) → Decides (same_cell x y) (plain_cell x ≡ plain_cell y)
cells_decide x y = Decides-like (same_cell x y) (λ h. ap₂ (λ p k. (p, k)) h.0 h.1) (λ e. (ap (λ c. c.0) e, ap (λ c. c.1) e)) (Decides-and (same_path x.0 y.0) (same_memory x.1 y.1) (paths_decide x.0 y.0) (memories_decide x.1 y.1))

abbrev pub same_pin : Pin → Pin → Bool
same_pin x y = nat_eq x.0 y.0 && bytes_eq (in_lower_case x.1) (in_lower_case y.1)

pub pins_decide : (x y : Pin) → Decides (same_pin x y) (plain_pin x ≡ plain_pin y)
pins_decide x y = Decides-like (same_pin x y) (λ h. ap₂ (λ p k. (p, k)) h.0 h.1) (λ e. (ap (λ c. c.0) e, ap (λ c. c.1) e)) (Decides-and (nat_eq x.0 y.0) (bytes_eq (in_lower_case x.1) (in_lower_case y.1)) (Decides-eqb x.0 y.0) (bytes_eq-Decides (in_lower_case x.1) (in_lower_case y.1)))
