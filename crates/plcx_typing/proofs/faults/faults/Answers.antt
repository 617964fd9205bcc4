use Rattle.std.proofs.Common.{◌||◌, length, ◌∙◌, ap, arith}
use Rattle.std.proofs.lemmas.Bool.Decides.{Decides-at}
use Rattle.plcx_typing.specs.Sheets.{sheet}
use Rattle.plcx_typing.specs.Faults.{flag, pins_raise, breaks_at}
use Rattle.plcx_typing.proofs.Faulting.{breaks_decides}
use Rattle.plcx_typing.proofs.faults.faults.Goals as goal

pub returns-clause-flags : goal.returns-clause-flags
returns-clause-flags c = λ x h.
    let s = sheet c.args.forms.now c.args.pins.now c.args.links.now in
    let own = c.in_ok-flags.ensures in
    let raised = c.raise_pins.ensures.flags x (omega (arith, h, own.count)) in
    Decides-at (flag c.raise_pins.new.flags.items x) (breaks_at c.args.rule s c.args.marks.now x)
    (raised ∙ ap (λ b. b || pins_raise c.args.rule s c.args.marks.now x (length s.pins)) (own.flags x h)) (breaks_decides s c.args.marks.now c.requires.marks c.args.rule x)
