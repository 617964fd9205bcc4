-- Leaves by what is said of a variable are those of the meaning.
use Rattle.std.proofs.Common.{◌≡◌, ℕ, zero, suc, ℤ, pos, Bool, true, false, List, [], ◌∷◌, ◌++◌, map, Option, Some, refl, sym, ap, ◌∙◌, if◌then◌else◌}
use Rattle.std.specs.Prelude.{◌||◌}
use Rattle.std.specs.List.{flat_map}
use Rattle.plcx_types.specs.declared.ty.Ty.{Ty}
use Rattle.plcx_types.specs.Lists.{Each}
use Rattle.plcx_types.specs.Name.{in_lower_case}
use Rattle.plcx_types.specs.TypeName.{type_name}
use Rattle.plcx_std.specs.declared.kind.StdKind.{StdKind}
use Rattle.plcx_std.specs.declared.kind.StdKind.TheVariants as kind
use Rattle.plcx_std.specs.declared.pin.Role.{Role}
use Rattle.plcx_std.specs.declared.pin.Role.TheVariants as role
use Rattle.plcx_std.specs.Pins.{Pin, pins}
use Rattle.plcx_meaning.specs.Base.{are_distinct}
use Rattle.plcx_meaning.specs.Layout as layout
use Rattle.plcx_meaning.specs.Layout.{Leaf, Spelling, path_of, Meaning, Elementary, Composed, meaning, Scope, variables_at, variable_at, variable_named, initial_of, is_retained, is_marked, is_retain, is_constant, is_kept, leaf_of}
use Rattle.plcx_meaning.specs.Standard.{pin_declaration, pin_blocks}
use Rattle.plcx_meaning.specs.Tree as tree
use Rattle.plcx_meaning.proofs.Lists.{each_weaker}
use Rattle.plcx_meaning.proofs.LookupsOwn.{type_of_name, elementary_meaning}
use Rattle.plcx_meaning.proofs.ReadyUnits.{named_each}
use Rattle.plcx_leaves.specs.Leaves.{leaf_by, standard_leaves}

or_false : (b : Bool) → (b || false) ≡ b
or_false true = refl
or_false false = refl

-- ---- one leaf

-- the variable is what its name leads to in the instance at a path
abbrev pub IsFound : Scope → Spelling → layout.Variable → Type 0
IsFound c names v = variable_at c (in_lower_case v.name ∷ path_of names) ≡ Some v

abbrev by_values : Spelling → Ty → layout.Variable → ℤ → Bool → Leaf
by_values names t v n retained = leaf_by (v.name ∷ names) t n retained (is_constant v.mark)

pub leaf_is : (c : Scope) (names : Spelling) (retained : Bool) (v : layout.Variable) (t : Ty) → IsFound c names v → is_retained c (path_of names) ≡ retained
    → by_values names t v (layout.initial_value v.initial) (retained || is_retain v.mark) ≡ leaf_of c (v.name ∷ names) t v.mark
leaf_is c names retained v t found kept =
    let initial : layout.initial_value v.initial ≡ initial_of (variable_at c (in_lower_case v.name ∷ path_of names)) = sym (ap initial_of found) in
    let marked : (retained || is_retain v.mark) ≡ (is_retained c (path_of names) || is_marked (variable_at c (in_lower_case v.name ∷ path_of names))) =
    ap (λ b. b || is_retain v.mark) (sym kept) ∙ ap (λ (o : Option layout.Variable). is_retained c (path_of names) || is_marked o) (sym found) in
    ap (λ n. by_values names t v n (retained || is_retain v.mark)) initial
    ∙ ap (by_values names t v (initial_of (variable_at c (in_lower_case v.name ∷ path_of names)))) marked

-- whether the instance at a variable is retained
pub inner_kept : (c : Scope) (names : Spelling) (retained : Bool) (v : layout.Variable) → IsFound c names v → is_retained c (path_of names) ≡ retained
    → is_retained c (path_of (v.name ∷ names)) ≡ (retained || is_retain v.mark)
inner_kept c names retained v found kept = ap (λ (o : Option layout.Variable). is_retained c (path_of names) || is_marked o) found ∙ ap (λ b. b || is_retain v.mark) kept

-- ---- standard blocks

abbrev class_by : Role → tree.Class
class_by role.In = tree.Input
class_by role.Out = tree.Output
class_by role.Hidden = tree.Local

-- a pin as a variable
abbrev pin_variable : Pin → layout.Variable
pin_variable p = layout.variable (class_by p.role) tree.Plain (pin_declaration p)

pin_variables : (k : StdKind) → layout.variables_of (pin_blocks k) ≡ map pin_variable (pins k)
pin_variables kind.Ton = refl
pin_variables kind.Tof = refl
pin_variables kind.Tp = refl
pin_variables kind.Ctu = refl
pin_variables kind.Ctd = refl
pin_variables kind.Ctud = refl
pin_variables kind.Sr = refl
pin_variables kind.Rs = refl
pin_variables kind.RTrig = refl
pin_variables kind.FTrig = refl

pins_differ : (k : StdKind) → are_distinct (map (λ (v : layout.Variable). in_lower_case v.name) (map pin_variable (pins k))) ≡ true
pins_differ kind.Ton = refl
pins_differ kind.Tof = refl
pins_differ kind.Tp = refl
pins_differ kind.Ctu = refl
pins_differ kind.Ctd = refl
pins_differ kind.Ctud = refl
pins_differ kind.Sr = refl
pins_differ kind.Rs = refl
pins_differ kind.RTrig = refl
pins_differ kind.FTrig = refl

role_kept : (r : Role) → is_kept (class_by r) ≡ true
role_kept role.In = refl
role_kept role.Out = refl
role_kept role.Hidden = refl

-- the leaves of a variable by whether it is kept, and by what its type stands for
abbrev pub by_meaning : ℕ → Scope → Spelling → layout.Variable → Bool → Meaning → List Leaf
by_meaning n c names v kept m = if kept then (elim m [ Elementary t ↦ leaf_of c (v.name ∷ names) t v.mark ∷ [] | Composed vs ↦ layout.leaves n c (v.name ∷ names) vs ]) else []

module _ (n : ℕ) (c : Scope) (names : Spelling) (retained : Bool) (kept : is_retained c (path_of names) ≡ retained) where
  pin_laid : (p : Pin) → IsFound c names (pin_variable p) → leaf_by (p.name ∷ names) p.ty (pos 0) retained false ∷ [] ≡ layout.variable_leaves (layout.leaves n c) c names (pin_variable p)
  pin_laid p found =
      let v = pin_variable p in
      ap (λ b. leaf_by (p.name ∷ names) p.ty (pos 0) b false ∷ []) (sym (or_false retained))
      ∙ ap (λ leaf. leaf ∷ []) (leaf_is c names retained v p.ty found kept)
      ∙ ap (by_meaning n c names v true) (sym (elementary_meaning c.world (type_name p.ty) p.ty (type_of_name p.ty)))
      ∙ ap (λ b. by_meaning n c names v b (meaning c.world v.ty)) (sym (role_kept p.role))

  pins_laid : (ps : List Pin) → Each (IsFound c names) (map pin_variable ps)
      → map (λ (p : Pin). leaf_by (p.name ∷ names) p.ty (pos 0) retained false) ps ≡ flat_map (layout.variable_leaves (layout.leaves n c) c names) (map pin_variable ps)
  pins_laid [] found = refl
  pins_laid (p ∷ ps) found =
      ap (λ rest. leaf_by (p.name ∷ names) p.ty (pos 0) retained false ∷ rest) (pins_laid ps found.1)
      ∙ ap (λ own. own ++ flat_map (layout.variable_leaves (layout.leaves n c) c names) (map pin_variable ps)) (pin_laid p found.0)

pub standard_laid : (n : ℕ) (c : Scope) (names : Spelling) (retained : Bool) (k : StdKind) → variables_at c (path_of names) ≡ layout.variables_of (pin_blocks k) → is_retained c (path_of names) ≡ retained
    → standard_leaves n names retained k ≡ layout.leaves n c names (layout.variables_of (pin_blocks k))
standard_laid zero c names retained k at kept = refl
standard_laid (suc n) c names retained k at kept =
    let vs = map pin_variable (pins k) in
    let own : variables_at c (path_of names) ≡ vs = at ∙ pin_variables k in
    let found : Each (IsFound c names) vs =
    each_weaker (λ (v : layout.Variable). variable_named (in_lower_case v.name) vs ≡ Some v) (IsFound c names) vs (λ v named. ap (variable_named (in_lower_case v.name)) own ∙ named) (named_each vs (pins_differ k)) in
    pins_laid n c names retained kept (pins k) found
    ∙ ap (flat_map (layout.variable_leaves (layout.leaves n c) c names)) (sym (pin_variables k))
