-- Two changes of a layout in a row.
use Rattle.std.proofs.Common.{◌≡◌, ◌∙◌, List, Option, Some, sym, ap}
use Rattle.std.specs.Prelude.{slice_get}
use Rattle.std.specs.Option.{option_and_then}
use Rattle.std.proofs.lemmas.Option.{same_Some}
use Rattle.plcx_types.specs.Value.{Value}
use Rattle.plcx_meaning.specs.Base.{Path}
use Rattle.plcx_state.specs.declared.layout.Leaf.{Leaf}
use Rattle.plcx_state.specs.Layouts.{Laid, IsLaid, meant_path, leaf_at}
use Rattle.plcx_state.proofs.Eaches.{each_get}
use Rattle.plcx_keep.specs.declared.carry.CarryRow.{CarryRow}
use Rattle.plcx_keep.specs.Carries.{value_of, value_at, rows_from, carry_of}
use Rattle.plcx_keep.specs.States.{HasRow, IsCarried}
use Rattle.plcx_keep.specs.Laws.{KeepsAt, KeepsTwice}
use Rattle.plcx_keep.proofs.Found.{found_one}
use Rattle.plcx_keep.proofs.Rows.{IsRow, are_rows, kept_means}

-- what a row keeps is the old value at its path
old_is : (old : Path → Option Value) (leaves : List Leaf) (p : Path) (v : Value) → KeepsAt leaves (rows_from old 0 leaves) p v → old p ≡ Some v
old_is old leaves p v k =
    let r = each_get (IsRow old leaves) (rows_from old 0 leaves) k.place k.row k.there (are_rows old leaves) in
    let same : r.leaf ≡ k.leaf = same_Some r.leaf k.leaf (sym r.there ∙ k.leaf_is) in
    let path : p ≡ meant_path r.leaf.path = sym k.path ∙ ap (λ (x : Leaf). meant_path x.path) (sym same) in
    ap old path ∙ kept_means k.row.leaf r.leaf (old (meant_path r.leaf.path)) (ap (λ (x : CarryRow). x.fate) (sym r.is) ∙ k.kept) ∙ ap (λ (x : CarryRow). Some x.value) (sym r.is) ∙ ap Some k.value

pub keeps_twice : (before : List Leaf) (middle : Laid) (after : List Leaf) (kept more : List (Option Value)) → IsLaid middle → IsCarried middle.leaves (carry_of before kept middle.leaves).rows more → KeepsTwice before middle.leaves after kept more
unfolding KeepsTwice
keeps_twice before middle after kept more laid carried p v w first second =
    let number : leaf_at p middle.leaves ≡ Some first.row.leaf = ap (λ q. leaf_at q middle.leaves) (sym first.path) ∙ found_one middle.leaves laid.layout.apart first.row.leaf first.leaf first.leaf_is in
    let has : slice_get more first.row.leaf ≡ Some (Some first.row.value) = each_get (HasRow more) (carry_of before kept middle.leaves).rows first.place first.row first.there carried.values in
    let between : value_at middle.leaves more p ≡ Some v = ap (option_and_then (value_of more)) number ∙ ap (option_and_then (λ (o : Option Value). o)) has ∙ ap Some first.value in
    let last : value_at middle.leaves more p ≡ Some w = old_is (value_at middle.leaves more) after p w second in
    let one : w ≡ v = same_Some w v (sym last ∙ between) in
    (one, old_is (value_at before kept) middle.leaves p v first ∙ ap Some (sym one))
