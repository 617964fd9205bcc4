use Rattle.std.proofs.Common.{◌≡◌, ℕ, ◌<◌, Bool, List, length, get_or, map, sym, subst}
use Rattle.plcx_types.specs.declared.ty.Ty.{Ty}
use Rattle.plcx_types.specs.declared.ty.Ty.TheVariants as ty
use Rattle.plcx_types.specs.TypeName.{all_types}
use Rattle.plcx_rules.specs.declared.form.WireForm.{WireForm}
use Rattle.plcx_rules.specs.Types.{pin_at, sources_at}
use Rattle.plcx_typing.specs.Sheets.{sheet}
use Rattle.plcx_typing.specs.Tests.{gives_has, pin_has}
use Rattle.plcx_typing.specs.Judgings.{first_type, IsJudged}
use Rattle.plcx_typing.proofs.Bodies.{judged_so}
use Rattle.plcx_typing.proofs.body.judge_form.Goals as goal

pub returns : goal.returns
returns c =
    let s = sheet c.args.forms.now c.args.pins.now c.args.links.now in
    let wires = c.args.wires.now in
    let marks = c.in_ok-marks.marks.items in
    let u = c.in_ok-untyped.untyped.items in
    let d = c.in_ok-disagreeing.disagreeing.items in
    let o = c.in_ok-outside.outside.items in
    let inputs = c.in_ok-inputs.inputs.items in
    let given = c.in_ok-wires.wires.items in
    let PinsAre : List Bool → Type 0 = λ m. (i : ℕ) → i < length s.pins → get_or inputs i ty.Bool ≡ first_type (pin_has s m (pin_at s i) (sources_at s i)) all_types in
    let WiresAre : List Bool → Type 0 = λ m. given ≡ map (λ (w : WireForm). first_type (gives_has m w.element w.gives) all_types) wires in
    let pins : PinsAre marks = subst PinsAre c.deref-4.ensures.value c.in_ok-inputs.ensures.types in
    let each : WiresAre marks = subst WiresAre c.deref-5.ensures.value c.in_ok-wires.ensures in
    let all = judged_so s marks c.in_ok-marks.ensures wires u d o inputs given (c.in_ok-untyped.ensures.count, c.in_ok-untyped.ensures.flags) (c.in_ok-disagreeing.ensures.count, c.in_ok-disagreeing.ensures.flags) (c.in_ok-outside.ensures.count, c.in_ok-outside.ensures.flags) c.in_ok-inputs.ensures.count pins each in
    let J = λ (a b e : List Bool) (p w : List Ty). IsJudged s wires (record { untyped = a; disagreeing = b; outside = e; inputs = p; wires = w }) in
    let one = subst (λ a. J a d o inputs given) (sym c.from_vec.ensures) all in
    let two = subst (λ b. J c.from_vec.result b o inputs given) (sym c.from_vec-2.ensures) one in
    let three = subst (λ e. J c.from_vec.result c.from_vec-2.result e inputs given) (sym c.from_vec-3.ensures) two in
    let four = subst (λ p. J c.from_vec.result c.from_vec-2.result c.from_vec-3.result p given) (sym c.from_vec-4.ensures) three in
    subst (λ w. J c.from_vec.result c.from_vec-2.result c.from_vec-3.result c.from_vec-4.result w) (sym c.from_vec-5.ensures) four
