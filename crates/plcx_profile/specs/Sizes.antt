-- The rules on how deep instances stand in one another, and on how many leaves and parts a POU has with them.
use Rattle.std.specs.Prelude.{ℕ, suc, zero, ◌+◌, ◌^◌, Bool, true, false, ◌||◌, nat_lt, min, fold, length, List, [], ◌++◌, map, Option, Some, None, option_to_list, option_and_then, slice_get}
use Rattle.std.specs.List.{list_any}
use Rattle.plcx_types.specs.Limits.{max_instance_chain, max_leaves, max_parts}
use Rattle.plcx_std.specs.Pins.{pins}
use Rattle.plcx_model.specs.declared.project.ListClass.{ListClass}
use Rattle.plcx_model.specs.declared.project.ListClass.TheVariants.{InOut}
use Rattle.plcx_model.specs.declared.project.VarTy.{VarTy}
use Rattle.plcx_model.specs.declared.project.VarTy.TheVariants as var
use Rattle.plcx_model.specs.declared.body.Kind.{Kind}
use Rattle.plcx_model.specs.declared.body.Kind.TheVariants as kind
use Rattle.plcx_model.specs.declared.body.PinIn.{PinIn}
use Rattle.plcx_model.specs.declared.body.BodyElement.{BodyElement}
use Rattle.plcx_profile.specs.declared.sizes.Content.{Content}
use Rattle.plcx_profile.specs.declared.sizes.Size.{Size}
use Rattle.plcx_profile.specs.declared.sizes.Size.TheVariants.{Leaves, Parts}
use Rattle.plcx_draft.specs.declared.draft.DraftVariable.{DraftVariable}
use Rattle.plcx_draft.specs.declared.draft.DraftList.{DraftList}
use Rattle.plcx_draft.specs.declared.draft.DraftPou.{DraftPou}
use Rattle.plcx_profile.specs.Declarations.{Declared, OfPou, OfVariable}
use Rattle.plcx_profile.specs.Types.{type_meant}

-- so many more; no count goes past 2^22, which is more than there may be of anything
abbrev pub plus : ℕ → ℕ → ℕ
plus n m = min (n + m) (2 ^ 22)

-- the place of a type, where it is a function block of the file
abbrev pub place_in : Option VarTy → Option ℕ
place_in (Some (var.Block place)) = Some place
place_in _ = None

-- the place of a variable's type, where it is a function block of the file
abbrev pub block_of : List DraftPou → DraftVariable → Option ℕ
block_of pous v = place_in (type_meant pous v.ty)

-- the leaves of a variable itself: an instance of a function block has none
abbrev pub leaves_as : Option VarTy → ℕ
leaves_as (Some (var.Plain t)) = 1
leaves_as (Some (var.Std k)) = length (pins k)
leaves_as _ = 0

-- an in-out is no leaf
abbrev pub own_leaves : ListClass → Option VarTy → ℕ
own_leaves InOut t = 0
own_leaves _ t = leaves_as t

-- an instance is a part
abbrev pub parts_as : Option VarTy → ℕ
parts_as (Some (var.Plain t)) = 0
parts_as None = 0
parts_as _ = 1

-- behind so many, the connections of these pins
abbrev pub with_pins : ℕ → List PinIn → ℕ
with_pins n pins = fold (λ m (p : PinIn). plus m (length p.input)) n pins

-- behind so many, the connections of an element
abbrev pub with_kind : ℕ → Kind → ℕ
with_kind n (kind.RightRail input) = plus n (length input)
with_kind n (kind.Contact input text mods) = plus n (length input)
with_kind n (kind.Coil input text mods) = plus n (length input)
with_kind n (kind.Out input text mods) = plus n (length input)
with_kind n (kind.Block type_name instance inputs in_outs outputs) = with_pins (with_pins n inputs) in_outs
with_kind n (kind.Connector name input) = plus n (length input)
with_kind n (kind.Jump label input) = plus n (length input)
with_kind n (kind.Return input) = plus n (length input)
with_kind n _ = n

-- the elements of a body and their connections
abbrev pub body_parts : List BodyElement → ℕ
body_parts elements = fold (λ n (e : BodyElement). with_kind (plus n 1) e.kind) 0 elements

-- what a POU has with one variable more
abbrev pub with_variable : List DraftPou → ListClass → Content → DraftVariable → Content
with_variable pous class c v = record {
  leaves = plus c.leaves (own_leaves class (type_meant pous v.ty));
  parts = plus c.parts (parts_as (type_meant pous v.ty));
  blocks = c.blocks ++ option_to_list (block_of pous v);
}

-- what a POU has with one list more
abbrev pub with_list : List DraftPou → Content → DraftList → Content
with_list pous c list = fold (with_variable pous list.class) c list.variables

-- what a POU has by itself, and the places of the function blocks that its instances are of
unfoldable pub content_of : List DraftPou → DraftPou → Content
content_of pous p = fold (with_list pous) (record { leaves = 0; parts = body_parts p.body.elements; blocks = [] }) p.lists

-- what each POU has by itself
abbrev pub contents : List DraftPou → List Content
contents pous = map (content_of pous) pous

-- a test of the POU at a place; none is there, none passes
abbrev pub holds_at : (Content → Bool) → Option Content → Bool
holds_at test None = false
holds_at test (Some c) = test c

-- so many instances of function blocks stand in one another below a POU, each declared in the type of the one before
unfoldable pub reaches : List Content → ℕ → Content → Bool
reaches cs zero c = true
reaches cs (suc n) c = list_any (λ (b : ℕ). holds_at (reaches cs n) (slice_get cs b)) c.blocks

-- a count of the POU at a place
abbrev pub count_at : (Content → ℕ) → Option Content → ℕ
count_at count None = 0
count_at count (Some c) = count c

-- what a POU has by itself of this
abbrev pub own : Size → Content → ℕ
own Leaves c = c.leaves
own Parts c = c.parts

-- what a POU has with its instances, so many levels deep
unfoldable pub total : List Content → Size → ℕ → Content → ℕ
total cs size zero c = 0
total cs size (suc n) c = fold (λ m (b : ℕ). plus m (count_at (total cs size n) (slice_get cs b))) (own size c) c.blocks

-- a chain of one instance more than may be begins at the variable
abbrev pub breaks_chain : List DraftPou → List Declared → Declared → Bool
breaks_chain pous before (OfPou p) = false
breaks_chain pous before (OfVariable list v) = holds_at (reaches (contents pous) max_instance_chain) (option_and_then (slice_get (contents pous)) (block_of pous v))

-- there is too much of a POU with its instances
abbrev pub is_too_large : List Content → Content → Bool
is_too_large cs c = nat_lt max_leaves (total cs Leaves (max_instance_chain + 1) c) || nat_lt max_parts (total cs Parts (max_instance_chain + 1) c)

-- a POU is too large
abbrev pub breaks_size : List DraftPou → List Declared → Declared → Bool
breaks_size pous before (OfPou p) = is_too_large (contents pous) (content_of pous p)
breaks_size pous before (OfVariable list v) = false
