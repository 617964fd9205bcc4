-- The leaves of a unit that is ready can be laid out.
use Rattle.std.proofs.Common.{◌≡◌, ℕ, zero, suc, ◌+◌, ◌<◌, ◌≤◌, ◌^◌, Bool, true, false, List, [], ◌∷◌, ◌++◌, Option, Some, option_map, map, length, slice_get, refl, sym, ap, ◌∙◌, subst, arith, if◌then◌else◌}
use Rattle.std.specs.Prelude.{◌||◌}
use Rattle.std.specs.List.{flat_map, sum_by}
use Rattle.std.proofs.lemmas.List.{length-map, length-append}
use Rattle.std.proofs.lemmas.List.Sums.{sum_by-cons}
use Rattle.plcx_types.specs.Limits.{max_text_leaves}
use Rattle.plcx_types.specs.Lists.{Each}
use Rattle.plcx_types.specs.Value.{Value}
use Rattle.plcx_meaning.specs.Execute.{world_of, scope_of}
use Rattle.plcx_meaning.specs.Layout as layout
use Rattle.plcx_meaning.specs.Layout.{Leaf, Spelling, Variable, Meaning, Elementary, Composed, meaning, Scope, leaf_of, initial_value, is_kept, is_retain, is_constant, IsLayout}
use Rattle.plcx_meaning.specs.Ready.{variable_size, size, PouIsReady, IsReady}
use Rattle.plcx_meaning.proofs.LeafPaths.{proper_layout}
use Rattle.plcx_meaning.proofs.LeafScopes.{text_scope}
use Rattle.plcx_meaning.proofs.Lists.{each_flat_map}
use Rattle.plcx_conditions.specs.Placed.{Pou, bare, bare_pou}
use Rattle.plcx_known.specs.declared.types.VarType.{VarType}
use Rattle.plcx_known.specs.declared.types.VarType.TheVariants as type
use Rattle.plcx_known.specs.Owned.{Typed, name_of}
use Rattle.plcx_known.specs.Parts.{owners_of}
use Rattle.plcx_known.proofs.Places.{get_map}
use Rattle.plcx_state.specs.declared.layout.Leaf as code
use Rattle.plcx_state.specs.Layouts.{meant, all_meant, BeginsTyped, laid, IsLaid}
use Rattle.plcx_state.proofs.Eaches.{each_get}
use Rattle.plcx_leaves.proofs.Stands.{StandsWell, one_stands, standard_stand, named, outside}
use Rattle.plcx_text_stored.specs.LaidFor.{IsLaidFor}
use Rattle.plcx_text_layout.specs.Leaves.{variables_at, initial_of, Inner, type_leaves, variable_leaves, leaves, program_leaves}
use Rattle.plcx_text_layout.proofs.Laid.{leaves_laid}

-- ---- each leaf

abbrev InnerStand : Inner → Type 0
InnerStand inner = (names : Spelling) (retained : Bool) (ts : List Typed) → Each StandsWell (inner names retained ts)

type_stand : (n : ℕ) (inner : Inner) → InnerStand inner → (owners : List (List Typed)) (x : List ℕ) (names : Spelling) (retained constant : Bool) (initial : Option Value) (t : VarType)
    → Each StandsWell (type_leaves n inner owners (x ∷ names) retained constant initial t)
type_stand n inner below owners x names retained constant initial type.Unknown = tt
type_stand n inner below owners x names retained constant initial (type.Elementary t) = (one_stands x names t (initial_value initial) retained constant, tt)
type_stand n inner below owners x names retained constant initial (type.Standard k) = standard_stand n (x ∷ names) retained k
type_stand n inner below owners x names retained constant initial (type.Block place) = below (x ∷ names) retained (variables_at owners place)

variable_stands : (n : ℕ) (inner : Inner) → InnerStand inner → (owners : List (List Typed)) (names : Spelling) (retained : Bool) (t : Typed) → Each StandsWell (variable_leaves n inner owners names retained t)
variable_stands n inner below owners names retained t = by (is_kept t.variable.class)
  where
    by : (b : Bool)
        → Each StandsWell (if b then type_leaves n inner owners (name_of t ∷ names) (retained || is_retain t.variable.mark) (is_constant t.variable.mark) (initial_of t) t.type else [])
    by true = type_stand n inner below owners (name_of t) names _ _ (initial_of t) t.type
    by false = tt

leaves_stand : (n : ℕ) (owners : List (List Typed)) → InnerStand (leaves n owners)
leaves_stand zero owners names retained ts = tt
leaves_stand (suc n) owners names retained ts = each_flat_map StandsWell (variable_leaves n (leaves n owners) owners names retained) ts (all (leaves_stand n owners) ts)
  where
    all : InnerStand (leaves n owners) → (us : List Typed) → Each (λ t. Each StandsWell (variable_leaves n (leaves n owners) owners names retained t)) us
    all below [] = tt
    all below (u ∷ us) = (variable_stands n (leaves n owners) below owners names retained u, all below us)

-- ---- how many there are

variable_counted : (n : ℕ) (c : Scope) → ((names : Spelling) (vs : List Variable) → length (layout.leaves n c names vs) ≤ size n c.world vs) → (names : Spelling) (v : Variable)
    → length (layout.variable_leaves (layout.leaves n c) c names v) ≤ variable_size (size n c.world) c.world v
variable_counted n c inner names v = by (is_kept v.class) (meaning c.world v.ty)
  where
    by : (b : Bool) (m : Meaning)
        → length {A = Leaf} (if b then (elim m [ Elementary t ↦ leaf_of c (v.name ∷ names) t v.mark ∷ [] | Composed vs ↦ layout.leaves n c (v.name ∷ names) vs ]) else [])
        ≤ (if b then (elim m [ Elementary t ↦ 1 | Composed vs ↦ suc (size n c.world vs) ]) else 0)
    by true (Elementary t) = omega arith
    by true (Composed vs) = let below = inner (v.name ∷ names) vs in omega arith
    by false m = omega arith

-- a POU has no more leaves than leaves and instances
counted : (n : ℕ) (c : Scope) (names : Spelling) (vs : List Variable) → length (layout.leaves n c names vs) ≤ size n c.world vs
counted zero c names vs = omega arith
counted (suc n) c names vs = all (counted n c) vs
  where
    all : ((at : Spelling) (ws : List Variable) → length (layout.leaves n c at ws) ≤ size n c.world ws) → (ws : List Variable) → length (layout.leaves (suc n) c names ws) ≤ size (suc n) c.world ws
    all inner [] = omega arith
    all inner (w ∷ ws) =
        let one = variable_counted n c inner names w in
        let rest = all inner ws in
        let left = length-append (layout.variable_leaves (layout.leaves n c) c names w) (layout.leaves (suc n) c names ws) in
        let right = sum_by-cons (variable_size (size n c.world) c.world) w ws in
        omega arith

small : (n : ℕ) → n ≤ max_text_leaves → n < 2 ^ 32
small n h = omega (arith, h)

module _ (unit : List Pou) (ready : IsReady (bare unit)) (i : ℕ) (p : Pou) (there : slice_get unit i ≡ Some p) (ls : List code.Leaf)
    (are : all_meant ls ≡ program_leaves (owners_of unit) (variables_at (owners_of unit) i)) where
  abbrev scope : Scope
  scope = scope_of (bare unit) (bare_pou p)

  pub are_laid : all_meant ls ≡ layout.layout scope
  are_laid = are ∙ leaves_laid unit ready i p there

  -- the leaves of a program can be laid out
  pub can_be_laid : Each BeginsTyped ls → IsLaid (laid ls [])
  unfolding program_leaves
  can_be_laid typed =
      let one = each_get (PouIsReady (bare unit)) (bare unit) i (bare_pou p) (get_map bare_pou unit i ∙ ap (option_map bare_pou) there) ready.pous in
      let each : Each StandsWell (all_meant ls) = subst (Each StandsWell) (sym are) (leaves_stand 18 (owners_of unit) [] false (variables_at (owners_of unit) i)) in
      let count : length ls ≡ length (layout.layout scope) = sym (length-map ls meant) ∙ ap length are_laid in
      let few = counted 18 scope [] scope.own in
      let most = one.small in
      record {
        named = named ls each;
        layout = subst IsLayout (sym are_laid) (proper_layout scope (text_scope (bare unit) ready (bare_pou p) one));
        typed = typed;
        outside = outside ls each;
        few_leaves = small (length ls) (omega arith);
        few_memories = omega arith;
      }

  -- and are those of its meaning
  pub laid_for : IsLaidFor (bare unit) (bare_pou p) (laid ls [])
  laid_for = record { leaves = record { leaves = are_laid }; memories = refl }
