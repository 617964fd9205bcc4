-- Keys are equal where what they stand for is the same.
use Rattle.std.proofs.Common.{◌≡◌, ℕ, true, List, refl, ◌&&◌}
use Rattle.std.specs.Prelude.{nat_eq}
use Rattle.std.specs.Cmp.{IsEquivalence, nat_eq_equiv, and_equiv}
use Rattle.plcx_meaning.specs.Base.{Memory, AtEdge, AtOutput, same_memory}
use Rattle.plcx_rules.specs.Texts.{same_name}
use Rattle.plcx_tables.specs.declared.keys.Key.{Key}
use Rattle.plcx_tables.specs.declared.keys.Key.TheVariants.{Edge, Output}
use Rattle.plcx_tables.specs.declared.names.Name.{Name}
use Rattle.plcx_tables.specs.Alike.{names_alike}

pub texts_alike : IsEquivalence same_name
texts_alike = names_alike (λ t. t)

-- two outputs
abbrev Output' : Type 0
Output' = ℕ × List ℕ

outputs_alike : IsEquivalence {K = Output'} (λ x y. nat_eq x.0 y.0 && same_name x.1 y.1)
outputs_alike = and_equiv (record { refl = λ x. nat_eq_equiv.refl x.0; symm = λ x y. nat_eq_equiv.symm x.0 y.0; congr = λ x y z. nat_eq_equiv.congr x.0 y.0 z.0 }) (names_alike (λ x. x.1))

pub memories_alike : IsEquivalence same_memory
memories_alike = record { refl = itself; symm = back; congr = along }
  where
    itself : (x : Memory) → same_memory x x ≡ true
    itself (AtEdge i) = nat_eq_equiv.refl i
    itself (AtOutput i pin) = outputs_alike.refl (i, pin)

    back : (x y : Memory) → same_memory x y ≡ same_memory y x
    back (AtEdge i) (AtEdge j) = nat_eq_equiv.symm i j
    back (AtEdge i) (AtOutput j q) = refl
    back (AtOutput i p) (AtEdge j) = refl
    back (AtOutput i p) (AtOutput j q) = outputs_alike.symm (i, p) (j, q)

    along : (x y z : Memory) → same_memory x y ≡ true → same_memory x z ≡ same_memory y z
    along (AtEdge i) (AtEdge j) (AtEdge k) h = nat_eq_equiv.congr i j k h
    along (AtEdge i) (AtEdge j) (AtOutput k r) h = refl
    along (AtEdge i) (AtOutput j q) z h = absurd (let no : ⊥ = cc in no)
    along (AtOutput i p) (AtEdge j) z h = absurd (let no : ⊥ = cc in no)
    along (AtOutput i p) (AtOutput j q) (AtEdge k) h = refl
    along (AtOutput i p) (AtOutput j q) (AtOutput k r) h = outputs_alike.congr (i, p) (j, q) (k, r) h

-- what holds of each two variants holds of each two keys
pub by_keys : (P : Key → Key → Type 0) → ((i j : ℕ) → P (Edge i) (Edge j)) → ((i j : ℕ) (m : Name) → P (Edge i) (Output j m)) → ((i j : ℕ) (n : Name) → P (Output i n) (Edge j)) → ((i j : ℕ) (n m : Name) → P (Output i n) (Output j m))
    → (x y : Key) → P x y
by_keys P a b c d (Edge i) (Edge j) = a i j
by_keys P a b c d (Edge i) (Output j m) = b i j m
by_keys P a b c d (Output i n) (Edge j) = c i j n
by_keys P a b c d (Output i n) (Output j m) = d i j n m
