use Rattle.std.proofs.Common.{◌+◌, ◌++◌, map, refl, sym, subst, take}
use Rattle.plcx_st.specs.declared.printing.Printer.{Printer}
use Rattle.plcx_st.specs.Meant.{arg_meant}
use Rattle.plcx_st.specs.Print.{arguments_shapes}
use Rattle.plcx_st.specs.Printer.{Puts}
use Rattle.plcx_st.proofs.Puts.{not_first}
use Rattle.plcx_st.proofs.Shapes.{no_arguments, one_more_argument, comma_behind, with_comma, with_no_comma}
use Rattle.plcx_st.proofs.printing.Printer.arguments.Goals as goal
use Rattle.plcx_st.proofs.printing.Printer.arguments.Goals.{then-not-is_first+in_ok-sign, else-not-is_first}

pub loop-arg-init : goal.loop-arg-init
loop-arg-init c = (no_arguments c.args.self.now, refl)

pub loop-arg-preserved : goal.loop-arg-preserved
loop-arg-preserved c =
    let args = c.args.args.now in
    let i = c.loop-arg.arg-index in
    let old = c.args.self.now in
    let front = arguments_shapes (map arg_meant (take i args)) in
    let commas = comma_behind (map arg_meant (take i args)) in
    let grow : Puts old c.if-not-is_first.self (front ++ commas) → Puts old c.argument.new.self (arguments_shapes (map arg_meant (take (i + 1) args)))
    = λ h. one_more_argument args i c.arg-item.result old c.if-not-is_first.self c.argument.new.self c.loop-arg-test.true c.arg-item.is h c.in_ok-argument.ensures in
    elim c.if-not-is_first.branch [
      | then-not-is_first+in_ok-sign w ↦ (
        grow (subst (λ (q : Printer). Puts old q (front ++ commas)) (sym w.self-is)
            (with_comma arg_meant args i c.loop-arg.is_first front old c.loop-arg.self w.sign.new.self c.loop-arg-test.true c.loop-arg.invariant.1 w.if-not-is_first.true c.loop-arg.invariant.0 w.in_ok-sign.ensures)),
        not_first i,
      )
      | else-not-is_first w ↦ (
        grow (subst (λ (q : Printer). Puts old q (front ++ commas)) (sym w.self-is)
            (with_no_comma arg_meant args i c.loop-arg.is_first front old c.loop-arg.self c.loop-arg.invariant.1 w.if-not-is_first.false c.loop-arg.invariant.0)),
        not_first i,
      )
    ]
