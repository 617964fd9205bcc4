use Rattle.std.proofs.Common.{Some, IfOk, sym, subst}
use Rattle.plcx_drawn.specs.declared.element.ElementKind.{ElementKind}
use Rattle.plcx_drawn.specs.Shown.{shown_kind}
use Rattle.plcx_rules.specs.declared.callee.Callee.{Callee}
use Rattle.plcx_draw.specs.Listed.{IsBlock}
use Rattle.plcx_draw.proofs.sheet.Sheet.calling.Goals as goal

pub returns-in-Function : goal.returns-in-Function
returns-in-Function c =
    let own = c.args.self.now in
    subst (λ (called : Callee). IfOk c.function.result (λ (kind : ElementKind). IsBlock own.pous own.pou (Some called) c.args.listed.now (shown_kind kind))) (sym c.in-Function.is) c.function.ensures
