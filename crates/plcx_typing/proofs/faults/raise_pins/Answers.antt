use Rattle.std.proofs.Common.{◌≡◌, ◌+◌, ◌||◌, suc, sym, ◌∙◌, ap, arith}
use Rattle.plcx_rules.specs.Types.{pin_at, sources_at}
use Rattle.plcx_typing.specs.Sheets.{sheet}
use Rattle.plcx_typing.specs.Faults.{flag, pin_raises, pins_raise}
use Rattle.plcx_typing.proofs.Faulting.{or_more, same_raised}
use Rattle.plcx_typing.proofs.faults.raise_pins.Goals as goal

pub loop-i-preserved : goal.loop-i-preserved
loop-i-preserved c =
    let s = sheet c.args.forms.now c.args.pins.now c.args.links.now in
    let r = c.args.rule in
    let marks = c.args.marks.now in
    let i = c.loop-i.i in
    let was = c.loop-i.invariant in
    let now = c.raise_pin.ensures in
    let old = c.args.flags.now.items in
    let items = c.loop-i.flags.items in
    let sources = c.sources_at.result.now in
    let next : i + 1 ≡ suc i = omega arith in
    record {
      count = now.count ∙ was.count;
      flags = λ x h.
          let raised = now.flags x (omega (arith, was.count)) in
          let same = same_raised r c.args.forms.now c.args.pins.now c.args.links.now marks (pin_at s i) sources x ∙ ap (λ xs. pin_raises r s marks (pin_at s i) xs x) c.sources_at.ensures in
          let more = or_more (flag old x) (pins_raise r s marks x i) (pin_raises r s marks (pin_at s i) (sources_at s i) x) (flag items x) (was.flags x h) in
          raised ∙ (ap (λ b. flag items x || b) same ∙ (more ∙ ap (λ n. flag old x || pins_raise r s marks x n) (sym next)));
    }
