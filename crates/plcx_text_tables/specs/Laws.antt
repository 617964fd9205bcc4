-- What the tables of a unit that is ready tell.
use Rattle.std.specs.Prelude.{◌≡◌, ℕ, List, Option, Some, None, length, map, slice_get}
use Rattle.plcx_types.specs.Name.{in_lower_case}
use Rattle.plcx_meaning.specs.Tree.{PouText}
use Rattle.plcx_meaning.specs.Layout.{Variable, variables_of, variable_named}
use Rattle.plcx_meaning.specs.Ready.{IsReady}
use Rattle.plcx_steps.specs.declared.program.Operand.TheVariants as operand
use Rattle.plcx_conditions.specs.Placed.{Pou, bare_pou, bare}
use Rattle.plcx_known.specs.Types.{type_of}
use Rattle.plcx_known.specs.Owned.{own_of}
use Rattle.plcx_known.specs.Parts.{owners_of}
use Rattle.plcx_known.specs.Sizes.{size_at}
use Rattle.plcx_numbered.specs.Numbers.{in_out_names, inner_depth}
use Rattle.plcx_text_numbered.specs.Prepared.{Place, Stored}
use Rattle.plcx_text_numbered.specs.Numbers.{places_of, leaf_number, temporary_values, place_found, level}
use Rattle.plcx_text_tables.specs.declared.numbers.Count as code
use Rattle.plcx_text_tables.specs.Counts.{all_counts, all_heights}
use Rattle.plcx_text_tables.specs.Tabled.{Count, Numbered, Shown, table_of, number_named, leaf_named}

-- what stands before a variable
abbrev pub shown_count : code.Count → Count
shown_count c = record { leaves = c.leaves; temporaries = c.temporaries; in_outs = c.in_outs }

-- a variable was found by its numbers where it is found by its name, with its class, its type and the name of that
pub record IsFound (unit : List PouText) (n : Numbered) (v : Variable) : Type 0 where
  pub class : n.class ≡ v.class
  pub type : n.type ≡ type_of unit v.ty
  pub named : n.named ≡ v.ty

abbrev pub AreFound : List PouText → Option Numbered → Option Variable → Type 0
AreFound unit None None = Unit {0}
AreFound unit (Some n) (Some v) = IsFound unit n v
AreFound unit _ _ = ⊥

-- where the value of what was found stands
abbrev pub place_or : Option Numbered → Place
place_or o = elim o [ Some n ↦ n.place | None ↦ Stored (operand.Leaf 0) ]

-- the table of a POU
pub record IsTableOf (unit : List PouText) (p : PouText) (t : Shown) : Type 0 where
  pub leaves : t.leaves ≡ length (places_of unit (variables_of p.blocks))
  pub leaf : (name : List ℕ) → leaf_named t name ≡ leaf_number unit (in_lower_case name) (variables_of p.blocks)
  pub place : (name : List ℕ) → place_or (number_named t name) ≡ place_found unit (variables_of p.blocks) (in_lower_case name) (variable_named (in_lower_case name) (variables_of p.blocks))
  pub in_outs : map in_lower_case t.in_outs ≡ in_out_names (variables_of p.blocks)
  pub temporaries : t.temporaries ≡ temporary_values (variables_of p.blocks)
  pub found : (name : List ℕ) → AreFound unit (number_named t name) (variable_named (in_lower_case name) (variables_of p.blocks))

-- Each POU of a unit that is ready has its table, and its level.
abbrev pub TablesTell : Type 0
TablesTell =
    (pous : List Pou) → IsReady (bare pous) → (k : ℕ) (p : Pou) → slice_get pous k ≡ Some p
    → IsTableOf (bare pous) (bare_pou p) (table_of (all_counts (owners_of pous)) (own_of (bare pous) p))
    × (size_at (all_heights (owners_of pous)) k ≡ level inner_depth (bare pous) (bare_pou p))
