use Rattle.std.proofs.Common.{Option, List, option_and_then, ap, ap₂, ◌∙◌}
use Rattle.plcx_types.specs.declared.ty.Ty.{Ty}
use Rattle.plcx_funcs.specs.declared.func.Func.{Func}
use Rattle.plcx_funcs.specs.Names.{function_named}
use Rattle.plcx_meaning.specs.Typed.{call_type}
use Rattle.plcx_unit.proofs.expressions.applied.Goals as goal

pub returns-clause-ty : goal.returns-clause-ty
returns-clause-ty c =
    c.call_type.ensures
    ∙ ap₂ (λ (f : Option Func) (ts : Option (List Ty)). option_and_then (call_type f) ts) (c.lookup-called.ensures.found ∙ ap function_named c.text.ensures.text) c.lent-types.ensures
