-- The tables of a unit that is ready tell its numbers.
use Rattle.std.proofs.Common.{◌≡◌, ℕ, ◌+◌, Bool, true, false, cond, List, [], ◌∷◌, Option, Some, None, map, filter, option_map, slice_get, length, refl, sym, ap, ap₂, ◌∙◌, subst, arith}
use Rattle.std.specs.Prelude.{unwrap_or}
use Rattle.std.specs.Str.{bytes_eq}
use Rattle.plcx_types.specs.Name.{in_lower_case}
use Rattle.plcx_types.specs.declared.ty.Ty.{Ty}
use Rattle.plcx_types.specs.declared.ty.Ty.TheVariants as ty
use Rattle.plcx_types.specs.TypeName.{type_named}
use Rattle.plcx_types.specs.Value.{Value}
use Rattle.plcx_std.specs.declared.kind.StdKind.{StdKind}
use Rattle.plcx_std.specs.Kind.{kind_named}
use Rattle.plcx_funcs.specs.Applied.{value}
use Rattle.plcx_meaning.specs.Base.{are_distinct}
use Rattle.plcx_meaning.specs.Tree as tree
use Rattle.plcx_meaning.specs.Tree.{Class, Local, Input, Output, InOut, Temp}
use Rattle.plcx_meaning.specs.Layout.{Variable, variables_of, variable_named, initial_value, World}
use Rattle.plcx_meaning.specs.Evaluate.{is_in_out as meant_in_out}
use Rattle.plcx_meaning.specs.Execute as text
use Rattle.plcx_steps.specs.declared.program.Operand.TheVariants as operand
use Rattle.plcx_conditions.specs.Placed.{Literal, Pou, bare_pou, bare, Declared, declared, bare_variable}
use Rattle.plcx_conditions.specs.Known.{world_of}
use Rattle.plcx_conditions.proofs.Units.{variables_bare}
use Rattle.plcx_conditions.proofs.Worlds.{pou_names, world_is}
use Rattle.plcx_known.specs.declared.types.VarType.{VarType}
use Rattle.plcx_known.specs.declared.types.VarType.TheVariants as type
use Rattle.plcx_known.specs.Types.{place_named, block_at, block_type, composed_type, type_of}
use Rattle.plcx_known.specs.Owned.{typed, own_of, name_of}
use Rattle.plcx_known.specs.Parts.{owners_of}
use Rattle.plcx_known.specs.Sizes.{size_at}
use Rattle.plcx_known.proofs.LongChains.{at_or, get_or_map}
use Rattle.plcx_numbered.specs.Numbers.{variable_places, places, number_of, first_leaf, in_out_names, inner_depth}
use Rattle.plcx_text_numbered.specs.Prepared.{Place, Held, Stored}
use Rattle.plcx_text_numbered.specs.Numbers.{places_of, leaf_count, leaf_number, temporary_names, temporary_values, first_value, place_by, place_found, level}
use Rattle.plcx_text_numbered.specs.Numbers.{is_temporary as meant_temporary}
use Rattle.plcx_text_tables.specs.Counts.{leaves_in, counts, heights}
use Rattle.plcx_text_tables.specs.Tabled.{Numbered, Count, no_count, counted, numbered, table_of, number_named, leaf_named, is_in_out, is_temporary, type_in, first_in}
use Rattle.plcx_text_tables.specs.Laws.{AreFound, place_or, IsTableOf}
use Rattle.plcx_text_tables.proofs.Counted.{variable_leaves, pou_leaves}
use Rattle.plcx_text_tables.proofs.Heights.{heights_are}
use Rattle.plcx_text_tables.proofs.Numbered.{found, found_is, stands, leaf_is, place_is}

-- the place of what is found, or of none
of_place : (o : Option Numbered) → place_or o ≡ elim (option_map (λ (n : Numbered). n.place) o) [ Some q ↦ q | None ↦ Stored (operand.Leaf 0) ]
of_place None = refl
of_place (Some n) = refl

module _ (pous : List Pou) (distinct : are_distinct (pou_names (bare pous)) ≡ true) where
  abbrev unit : List tree.PouText
  unit = bare pous

  abbrev own_counts : List ℕ
  own_counts = counts 17 (owners_of pous)

  worlds : world_of unit ≡ text.world_of unit
  worlds = world_is unit distinct

  -- the leaves of a variable
  are : (d : Declared) → leaves_in 17 own_counts (typed unit d) ≡ leaf_count unit (bare_variable d)
  are d = sym (variable_leaves pous 17 d) ∙ ap (λ (w : World). length (variable_places (places 17 w) w (bare_variable d))) worlds

  -- what is found by a name
  all_found : (c : Count) (ds : List Declared) (name : List ℕ) → AreFound unit (found own_counts c (map (typed unit) ds) name) (variable_named (in_lower_case name) (map bare_variable ds))
  all_found c [] name = tt
  all_found c (d ∷ ds) name = by (bytes_eq (in_lower_case d.declaration.name.name) (in_lower_case name)) (all_found (counted c d.class (leaves_in 17 own_counts (typed unit d))) ds name)
    where
      next : Count
      next = counted c d.class (leaves_in 17 own_counts (typed unit d))

      by : (b : Bool) → AreFound unit (found own_counts next (map (typed unit) ds) name) (variable_named (in_lower_case name) (map bare_variable ds))
          → AreFound unit (cond b (Some (numbered c (typed unit d))) (found own_counts next (map (typed unit) ds) name)) (cond b (Some (bare_variable d)) (variable_named (in_lower_case name) (map bare_variable ds)))
      by true h = record { class = refl; type = refl; named = refl }
      by false h = h

  -- where the value of a variable stands
  stands_there : (vs : List Variable) (key : List ℕ) (o : Option Variable) → (elim (stands unit own_counts (leaf_count unit) are no_count vs key o) [ Some q ↦ q | None ↦ Stored (operand.Leaf 0) ]) ≡ place_found unit vs key o
  stands_there vs key None = refl
  stands_there vs key (Some v) = by v.class
    where
      by : (class : Class)
          → (elim class as (λ (c : Class). Place) [
            | Temp ↦ Held (0 + number_of bytes_eq (temporary_names vs) key)
            | InOut ↦ Stored (operand.InOut (0 + number_of bytes_eq (in_out_names vs) key))
            | _ ↦ Stored (operand.Leaf (0 + first_leaf (leaf_count unit) key vs))
          ])
          ≡ place_by unit vs key class
      by Local = ap (λ n. Stored (operand.Leaf n)) (let z : 0 + first_leaf (leaf_count unit) key vs ≡ first_leaf (leaf_count unit) key vs = omega arith in z)
      by Input = ap (λ n. Stored (operand.Leaf n)) (let z : 0 + first_leaf (leaf_count unit) key vs ≡ first_leaf (leaf_count unit) key vs = omega arith in z)
      by Output = ap (λ n. Stored (operand.Leaf n)) (let z : 0 + first_leaf (leaf_count unit) key vs ≡ first_leaf (leaf_count unit) key vs = omega arith in z)
      by InOut = ap (λ n. Stored (operand.InOut n)) (let z : 0 + number_of bytes_eq (in_out_names vs) key ≡ number_of bytes_eq (in_out_names vs) key = omega arith in z)
      by Temp = ap Held (let z : 0 + number_of bytes_eq (temporary_names vs) key ≡ number_of bytes_eq (temporary_names vs) key = omega arith in z)

  -- ---- in-outs and temporaries
  in_outs_are : (ds : List Declared) → map in_lower_case (map name_of (filter is_in_out (map (typed unit) ds))) ≡ in_out_names (map bare_variable ds)
  in_outs_are [] = refl
  in_outs_are (d ∷ ds) = by (elim d.class as (λ (c : Class). Bool) [ InOut ↦ true | _ ↦ false ]) (in_outs_are ds)
    where
      by : (b : Bool) → map in_lower_case (map name_of (filter is_in_out (map (typed unit) ds))) ≡ in_out_names (map bare_variable ds)
          → map in_lower_case (map name_of (cond b (typed unit d ∷ filter is_in_out (map (typed unit) ds)) (filter is_in_out (map (typed unit) ds))))
          ≡ map (λ (v : Variable). in_lower_case v.name) (cond b (bare_variable d ∷ filter (λ v. meant_in_out (Some v)) (map bare_variable ds)) (filter (λ v. meant_in_out (Some v)) (map bare_variable ds)))
      by true h = ap (λ ns. in_lower_case d.declaration.name.name ∷ ns) h
      by false h = h

  -- the type of a variable
  composed_in : (name : List ℕ) → type_in (composed_type unit name) ≡ ty.Bool
  composed_in name = by (kind_named name) (place_named name unit)
    where
      at : (place : ℕ) (o : Option tree.PouText) → type_in (elim o as (λ (x : Option tree.PouText). VarType) [ None ↦ type.Unknown | Some p ↦ type.Block place ]) ≡ ty.Bool
      at place None = refl
      at place (Some p) = refl

      of : (o : Option ℕ) → type_in (block_type unit o) ≡ ty.Bool
      of None = refl
      of (Some place) = at place (block_at unit place)

      by : (k : Option StdKind) (o : Option ℕ) → type_in (elim k as (λ (x : Option StdKind). VarType) [ Some j ↦ type.Standard j | None ↦ block_type unit o ]) ≡ ty.Bool
      by (Some k) o = refl
      by None o = of o

  type_is : (name : List ℕ) → type_in (type_of unit name) ≡ unwrap_or (type_named name) ty.Bool
  type_is name = by (type_named name)
    where
      by : (o : Option Ty) → type_in (elim o as (λ (x : Option Ty). VarType) [ Some t ↦ type.Elementary t | None ↦ composed_type unit name ]) ≡ unwrap_or o ty.Bool
      by None = composed_in name
      by (Some t) = refl

  temporaries_are : (ds : List Declared) → map first_in (filter is_temporary (map (typed unit) ds)) ≡ temporary_values (map bare_variable ds)
  temporaries_are [] = refl
  temporaries_are (d ∷ ds) = by (elim d.class as (λ (c : Class). Bool) [ Temp ↦ true | _ ↦ false ]) (temporaries_are ds)
    where
      by : (b : Bool) → map first_in (filter is_temporary (map (typed unit) ds)) ≡ temporary_values (map bare_variable ds)
          → map first_in (cond b (typed unit d ∷ filter is_temporary (map (typed unit) ds)) (filter is_temporary (map (typed unit) ds)))
          ≡ map first_value (cond b (bare_variable d ∷ filter meant_temporary (map bare_variable ds)) (filter meant_temporary (map bare_variable ds)))
      by true h =
          ap₂ (λ (v : Value) vs. v ∷ vs)
          (ap (λ t. value t (initial_value (option_map (λ (l : Literal). l.value) d.declaration.initial))) (type_is d.declaration.ty.name)) h
      by false h = h

  pub table_is : (p : Pou) → IsTableOf unit (bare_pou p) (table_of own_counts (own_of unit p))
  table_is p = record { leaves = leaves; leaf = leaf; place = place; in_outs = in_outs_are (declared p) ∙ ap in_out_names (sym same); temporaries = temporaries_are (declared p) ∙ ap temporary_values (sym same); found = found_by }
    where
      same : variables_of (bare_pou p).blocks ≡ map bare_variable (declared p)
      same = variables_bare p

      leaves : (table_of own_counts (own_of unit p)).leaves ≡ length (places_of unit (variables_of (bare_pou p).blocks))
      leaves = pou_leaves pous 17 p ∙ ap (λ (w : World). length (places 18 w (variables_of (bare_pou p).blocks))) worlds

      leaf : (name : List ℕ) → leaf_named (table_of own_counts (own_of unit p)) name ≡ leaf_number unit (in_lower_case name) (variables_of (bare_pou p).blocks)
      leaf name = leaf_is unit own_counts (leaf_count unit) are (declared p) name ∙ ap (first_leaf (leaf_count unit) (in_lower_case name)) (sym same)

      place : (name : List ℕ) → place_or (number_named (table_of own_counts (own_of unit p)) name)
          ≡ place_found unit (variables_of (bare_pou p).blocks) (in_lower_case name) (variable_named (in_lower_case name) (variables_of (bare_pou p).blocks))
      place name =
          of_place (number_named (table_of own_counts (own_of unit p)) name)
          ∙ ap (λ o. elim o [ Some q ↦ q | None ↦ Stored (operand.Leaf 0) ]) (place_is unit own_counts (leaf_count unit) are (declared p) name)
          ∙ stands_there (map bare_variable (declared p)) (in_lower_case name) (variable_named (in_lower_case name) (map bare_variable (declared p)))
          ∙ ap (λ vs. place_found unit vs (in_lower_case name) (variable_named (in_lower_case name) vs)) (sym same)

      found_by : (name : List ℕ) → AreFound unit (number_named (table_of own_counts (own_of unit p)) name) (variable_named (in_lower_case name) (variables_of (bare_pou p).blocks))
      found_by name =
          subst (λ o. AreFound unit o (variable_named (in_lower_case name) (variables_of (bare_pou p).blocks))) (sym (found_is own_counts no_count (own_of unit p) name))
          (subst (λ vs. AreFound unit (found own_counts no_count (own_of unit p) name) (variable_named (in_lower_case name) vs)) (sym same) (all_found no_count (declared p) name))

  pub level_is : (k : ℕ) (p : Pou) → slice_get pous k ≡ Some p → size_at (heights 17 (owners_of pous)) k ≡ level inner_depth unit (bare_pou p)
  level_is k p there =
      ap (λ (ls : List ℕ). size_at ls k) (heights_are pous distinct 17)
      ∙ get_or_map (λ (q : Pou). level 17 unit (bare_pou q)) 0 pous k
      ∙ ap (at_or (λ (q : Pou). level 17 unit (bare_pou q)) 0) there
