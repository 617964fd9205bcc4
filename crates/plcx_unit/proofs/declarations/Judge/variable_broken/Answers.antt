use Rattle.std.proofs.Common.{Option, ap, ◌∙◌}
use Rattle.plcx_st.specs.Meant.{kind_meant}
use Rattle.plcx_meaning.specs.Layout.{Meaning}
use Rattle.std.specs.Option.{option_map}
use Rattle.plcx_conditions.specs.First.{first_of, sooner}
use Rattle.plcx_conditions.specs.Places.{placed_number}
use Rattle.plcx_conditions.specs.Declarations.{broken_in_initial, broken_in_place}
use Rattle.plcx_known.specs.Unit.{bare_of}
use Rattle.plcx_known.specs.Owned.{shown_variable}
use Rattle.plcx_unit.proofs.Declared.{known_by}
use Rattle.plcx_unit.proofs.Folding.{first_five}
use Rattle.plcx_unit.proofs.declarations.Judge.variable_broken.Goals as goal

pub returns : goal.returns
returns c = λ before again is.
    let unit = bare_of c.args.self.now in
    let own = c.args.own.now in
    let known = known_by unit own.decl.now.ty.name own.ty is in
    c.sooner-4.ensures
    ∙ ap (sooner c.own_name_broken-named.result) (c.sooner-3.ensures ∙ ap (sooner c.type_broken-typed.result) (c.sooner-2.ensures ∙ ap (sooner c.initial_broken-begun.result) c.sooner.ensures))
    ∙ first_five _ _ _ _ _ _ _ _ _ _
    (c.own_name_broken-named.ensures before again)
    (c.type_broken-typed.ensures unit is)
    (c.initial_broken-begun.ensures unit ∙ ap (λ (m : Option Meaning). first_of (broken_in_initial m (option_map placed_number own.decl.now.initial))) known)
    (c.place_broken-placed.ensures unit ∙ ap (λ (m : Option Meaning). first_of (broken_in_place (kind_meant c.args.kind) m (shown_variable own))) known)
    (c.chain_broken-chained.ensures is)
