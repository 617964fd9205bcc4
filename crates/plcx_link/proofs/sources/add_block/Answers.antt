use Rattle.std.proofs.Common.{List, map, ◌++◌, append_assoc, sym, ap, ◌∙◌}
use Rattle.plcx_model.specs.declared.body.PinIn.{PinIn}
use Rattle.plcx_model.specs.declared.source.Source.{Source}
use Rattle.plcx_rules.specs.Sources.{sources_at}
use Rattle.plcx_link.proofs.PinLists.{block_pins}
use Rattle.plcx_link.proofs.sources.add_block.Goals as goal

pub returns : goal.returns
returns c =
    let es = c.args.body.now.owner.body.elements in
    let at = λ (ps : List PinIn). map (λ (p : PinIn). sources_at es p.input) ps in
    c.in_ok-add_listed-2.ensures
    ∙ (ap (λ (xs : List (List Source)). xs ++ at c.args.in_outs.now) c.in_ok-add_listed.ensures
    ∙ (append_assoc c.args.all.now (at c.args.inputs.now) (at c.args.in_outs.now)
    ∙ ap (λ (xs : List (List Source)). c.args.all.now ++ xs) (sym (block_pins es c.args.inputs.now c.args.in_outs.now))))
