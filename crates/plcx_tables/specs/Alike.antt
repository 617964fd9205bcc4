-- Names are one where they are alike but for the case of their letters, and are hashed alike then.
use Rattle.std.specs.Prelude.{◌≡◌, ℕ, List, IsTrue}
use Rattle.std.specs.List.{flat_map}
use Rattle.std.specs.Hash as fed
use Rattle.std.specs.Cmp.{IsEquivalence, IsPartialEquivalence, on_equiv, partial_equiv_from_equiv}
use Rattle.std.specs.Cmp.Lexicographic.{nat_list_eq_equiv, bytes_decides}
use Rattle.std.proofs.Common.{ap}
use Rattle.plcx_types.specs.Name.{in_lower_case}
use Rattle.plcx_rules.specs.Texts.{same_name}

pub names_alike : {K : Type 0} (text : K → List ℕ) → IsEquivalence (λ a b. same_name (text a) (text b))
names_alike text = on_equiv (λ a. in_lower_case (text a)) nat_list_eq_equiv

pub names_partly_alike : {K : Type 0} (text : K → List ℕ) → IsPartialEquivalence (λ a b. same_name (text a) (text b))
names_partly_alike text = partial_equiv_from_equiv (names_alike text)

pub fed_alike : (a b : List ℕ) → IsTrue (same_name a b) → flat_map fed.u8 (in_lower_case a) ≡ flat_map fed.u8 (in_lower_case b)
fed_alike a b h = ap (flat_map fed.u8) ((bytes_decides (in_lower_case a) (in_lower_case b)).0 h)
