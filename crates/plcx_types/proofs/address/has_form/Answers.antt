use Rattle.std.proofs.Common.{List, ℕ, sym, ◌∙◌, subst}
use Rattle.std.specs.Prelude.{IsTrue, ◌↔◌}
use Rattle.std.proofs.lemmas.List.{take_rest}
use Rattle.plcx_types.specs.Name.{in_lower_case}
use Rattle.plcx_types.specs.Address.{ArePlaces}
use Rattle.plcx_types.proofs.Addresses.{tested_sized, tested_plain}
use Rattle.plcx_types.proofs.address.has_form.Goals as goal

pub returns-then-is_size : goal.returns-then-is_size
returns-then-is_size c =
    tested_sized c.args.text.now c.are_places.result c.if-text-lt3.false c.if-text-ne37.false (sym c.is_area.ensures ∙ c.if-not-is_area.false) (sym c.is_size.ensures ∙ c.if-is_size.true)
    (subst (λ (t : List ℕ). IsTrue c.are_places.result ↔ ArePlaces 8 (in_lower_case t)) (take_rest c.args.text.now 3) c.are_places.ensures)

pub returns-else-is_size : goal.returns-else-is_size
returns-else-is_size c =
    tested_plain c.args.text.now c.are_places-else-is_size.result c.if-text-lt3.false c.if-text-ne37.false (sym c.is_area.ensures ∙ c.if-not-is_area.false) (sym c.is_size.ensures ∙ c.if-is_size.false)
    (subst (λ (t : List ℕ). IsTrue c.are_places-else-is_size.result ↔ ArePlaces 8 (in_lower_case t)) (take_rest c.args.text.now 2) c.are_places-else-is_size.ensures)
