-- The leaves by what types stand for are those of the meaning.
use Rattle.std.proofs.Common.{◌≡◌, ℕ, zero, suc, Bool, true, false, List, [], ◌∷◌, ◌++◌, map, get_or, Option, Some, None, option_map, slice_get, refl, sym, ap, ◌∙◌, subst, if◌then◌else◌}
use Rattle.std.specs.Prelude.{◌||◌}
use Rattle.std.specs.List.{flat_map}
use Rattle.plcx_types.specs.Lists.{Each}
use Rattle.plcx_types.specs.Name.{in_lower_case}
use Rattle.plcx_meaning.specs.Execute.{world_of, scope_of}
use Rattle.plcx_meaning.specs.Layout as layout
use Rattle.plcx_meaning.specs.Layout.{Leaf, Spelling, path_of, Meaning, Composed, meaning, parts, parts_of, Scope, variables_at, variable_named, is_retained, is_retain, is_constant, is_kept}
use Rattle.plcx_meaning.specs.Ready.{PouIsReady, IsReady}
use Rattle.plcx_meaning.specs.Standard.{pin_blocks}
use Rattle.plcx_meaning.specs.Tree as tree
use Rattle.plcx_meaning.proofs.Lists.{each_weaker}
use Rattle.plcx_meaning.proofs.ReadyUnits.{named_each}
use Rattle.plcx_conditions.specs.Known as known
use Rattle.plcx_conditions.specs.Placed.{Pou, bare, bare_pou, Declared, declared, bare_variable}
use Rattle.plcx_conditions.proofs.Units.{variables_bare}
use Rattle.plcx_conditions.proofs.Worlds.{world_is}
use Rattle.plcx_known.specs.declared.types.VarType.{VarType}
use Rattle.plcx_known.specs.declared.types.VarType.TheVariants as type
use Rattle.plcx_known.specs.Types.{type_of, variables_in}
use Rattle.plcx_known.specs.Owned.{Typed, typed, own_of}
use Rattle.plcx_known.specs.Parts.{owners_of}
use Rattle.plcx_known.proofs.Places.{get_map}
use Rattle.plcx_known.proofs.Standing.{plain, meaning_is}
use Rattle.plcx_state.proofs.Eaches.{each_get}
use Rattle.plcx_leaves.proofs.Laid.{IsFound, leaf_is, inner_kept, by_meaning, standard_laid}
use Rattle.plcx_text_layout.specs.Leaves.{variables_at as owner_at, type_leaves, variable_leaves, leaves, program_leaves}
use Rattle.plcx_text_layout.proofs.Lists.{at_place}

-- nothing has no leaves
pub none_laid : (n : ℕ) (owners : List (List Typed)) (names : Spelling) (retained : Bool) → leaves n owners names retained [] ≡ []
none_laid zero owners names retained = refl
none_laid (suc n) owners names retained = refl

none_meant : (n : ℕ) (c : Scope) (names : Spelling) → [] ≡ layout.leaves n c names []
none_meant zero c names = refl
none_meant (suc n) c names = refl

module _ (unit : List Pou) (ready : IsReady (bare unit)) where
  abbrev pous : List tree.PouText
  pous = bare unit

  abbrev owners : List (List Typed)
  owners = owners_of unit

  -- what a name means in the meaning of texts
  meant_by : (c : Scope) → c.world ≡ world_of pous → (name : List ℕ) → meaning c.world name ≡ plain pous (type_of pous name)
  meant_by c world name = ap (λ w. meaning w name) (world ∙ sym (world_is pous ready.distinct)) ∙ meaning_is pous name

  abbrev IsLaid : ℕ → Type 0
  IsLaid n =
      (c : Scope) → c.world ≡ world_of pous → (names : Spelling) (retained : Bool) (p : Pou) → PouIsReady pous (bare_pou p)
      → variables_at c (path_of names) ≡ layout.variables_of (bare_pou p).blocks → is_retained c (path_of names) ≡ retained
      → leaves n owners names retained (own_of pous p) ≡ layout.leaves n c names (layout.variables_of (bare_pou p).blocks)

  module _ (n : ℕ) (below : IsLaid n) (c : Scope) (world : c.world ≡ world_of pous) (names : Spelling) (retained : Bool) (kept : is_retained c (path_of names) ≡ retained) where
    abbrev leaf : layout.Variable → List Leaf
    leaf = layout.variable_leaves (layout.leaves n c) c names

    -- the variables of the instance at a variable
    parts_at : (d : Declared) → IsFound c names (bare_variable d) → (type : VarType) → type_of pous d.declaration.ty.name ≡ type
        → variables_at c (path_of (d.declaration.name.name ∷ names)) ≡ parts (plain pous type)
    parts_at d found type is = ap (parts_of c.world) found ∙ ap parts (meant_by c world d.declaration.ty.name ∙ ap (plain pous) is)

    -- an instance of the POU at a place
    block_laid : (d : Declared) → IsFound c names (bare_variable d) → (place : ℕ) → type_of pous d.declaration.ty.name ≡ type.Block place → (o : Option Pou) → slice_get unit place ≡ o
        → leaves n owners (d.declaration.name.name ∷ names) (retained || is_retain d.mark) (owner_at owners place) ≡ layout.leaves n c (d.declaration.name.name ∷ names) (variables_in (slice_get pous place))
    block_laid d found place is None none =
        let at = ap (λ o. elim o [ Some p ↦ own_of pous p | None ↦ [] ]) none in
        ap (leaves n owners (d.declaration.name.name ∷ names) (retained || is_retain d.mark)) (at_place (own_of pous) [] unit place ∙ at)
        ∙ none_laid n owners (d.declaration.name.name ∷ names) (retained || is_retain d.mark)
        ∙ none_meant n c (d.declaration.name.name ∷ names)
        ∙ ap (λ o. layout.leaves n c (d.declaration.name.name ∷ names) (variables_in o)) (sym (get_map bare_pou unit place ∙ ap (option_map bare_pou) none))
    block_laid d found place is (Some p) there =
        let at = ap (λ o. elim o [ Some q ↦ own_of pous q | None ↦ [] ]) there in
        let meant : slice_get pous place ≡ Some (bare_pou p) = get_map bare_pou unit place ∙ ap (option_map bare_pou) there in
        let one = each_get (PouIsReady pous) pous place (bare_pou p) meant ready.pous in
        ap (leaves n owners (d.declaration.name.name ∷ names) (retained || is_retain d.mark)) (at_place (own_of pous) [] unit place ∙ at)
        ∙ below c world (d.declaration.name.name ∷ names) (retained || is_retain d.mark) p one
        (parts_at d found (type.Block place) is ∙ ap variables_in meant)
        (inner_kept c names retained (bare_variable d) found kept)
        ∙ ap (λ o. layout.leaves n c (d.declaration.name.name ∷ names) (variables_in o)) (sym meant)

    -- a variable that is kept
    type_laid : (d : Declared) → IsFound c names (bare_variable d) → (type : VarType) → type_of pous d.declaration.ty.name ≡ type
        → type_leaves n (leaves n owners) owners (d.declaration.name.name ∷ names) (retained || is_retain d.mark) (is_constant d.mark) (bare_variable d).initial type
        ≡ by_meaning n c names (bare_variable d) true (plain pous type)
    type_laid d found type.Unknown is = none_meant n c (d.declaration.name.name ∷ names)
    type_laid d found (type.Elementary t) is = ap (λ x. x ∷ []) (leaf_is c names retained (bare_variable d) t found kept)
    type_laid d found (type.Standard k) is =
        standard_laid n c (d.declaration.name.name ∷ names) (retained || is_retain d.mark) k (parts_at d found (type.Standard k) is) (inner_kept c names retained (bare_variable d) found kept)
    type_laid d found (type.Block place) is = block_laid d found place is (slice_get unit place) refl

    one_laid : (d : Declared) → IsFound c names (bare_variable d) → variable_leaves n (leaves n owners) owners names retained (typed pous d) ≡ leaf (bare_variable d)
    one_laid d found = by (is_kept d.class)
      where
        name : List ℕ
        name = d.declaration.ty.name

        by : (b : Bool)
            → (if b then type_leaves n (leaves n owners) owners (d.declaration.name.name ∷ names) (retained || is_retain d.mark) (is_constant d.mark) (bare_variable d).initial (type_of pous d.declaration.ty.name) else [])
            ≡ by_meaning n c names (bare_variable d) b (meaning c.world d.declaration.ty.name)
        by true = type_laid d found (type_of pous d.declaration.ty.name) refl ∙ ap (by_meaning n c names (bare_variable d) true) (sym (meant_by c world d.declaration.ty.name))
        by false = refl

    all_laid : (ds : List Declared) → Each (IsFound c names) (map bare_variable ds) → flat_map (variable_leaves n (leaves n owners) owners names retained) (map (typed pous) ds) ≡ flat_map leaf (map bare_variable ds)
    all_laid [] found = refl
    all_laid (d ∷ ds) found =
        ap (λ ls. ls ++ flat_map (variable_leaves n (leaves n owners) owners names retained) (map (typed pous) ds)) (one_laid d found.0)
        ∙ ap (λ ls. leaf (bare_variable d) ++ ls) (all_laid ds found.1)

  pou_laid : (n : ℕ) → IsLaid n
  pou_laid zero c world names retained p one at kept = refl
  pou_laid (suc n) c world names retained p one at kept =
      let vs = map bare_variable (declared p) in
      let are : layout.variables_of (bare_pou p).blocks ≡ vs = variables_bare p in
      let named : Each (λ (v : layout.Variable). variable_named (in_lower_case v.name) (layout.variables_of (bare_pou p).blocks) ≡ Some v) (layout.variables_of (bare_pou p).blocks) = named_each (layout.variables_of (bare_pou p).blocks) one.distinct in
      let found : Each (IsFound c names) (layout.variables_of (bare_pou p).blocks) =
      each_weaker (λ (v : layout.Variable). variable_named (in_lower_case v.name) (layout.variables_of (bare_pou p).blocks) ≡ Some v) (IsFound c names) (layout.variables_of (bare_pou p).blocks)
      (λ v is. ap (variable_named (in_lower_case v.name)) at ∙ is) named in
      all_laid n (pou_laid n) c world names retained kept (declared p) (subst (Each (IsFound c names)) are found)
      ∙ ap (flat_map (layout.variable_leaves (layout.leaves n c) c names)) (sym are)

  -- the leaves of a POU as a program
  pub leaves_laid : (i : ℕ) (p : Pou) → slice_get unit i ≡ Some p → program_leaves owners (owner_at owners i) ≡ layout.layout (scope_of pous (bare_pou p))
  unfolding program_leaves
  leaves_laid i p there =
      let meant : slice_get pous i ≡ Some (bare_pou p) = get_map bare_pou unit i ∙ ap (option_map bare_pou) there in
      let one = each_get (PouIsReady pous) pous i (bare_pou p) meant ready.pous in
      ap (leaves 18 owners [] false) (at_place (own_of pous) [] unit i ∙ ap (λ o. elim o [ Some q ↦ own_of pous q | None ↦ [] ]) there)
      ∙ pou_laid 18 (scope_of pous (bare_pou p)) refl [] false p one refl refl
