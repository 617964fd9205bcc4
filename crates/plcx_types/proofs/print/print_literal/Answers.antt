use Rattle.std.proofs.Common.{sym, subst}
use Rattle.plcx_types.specs.declared.literal.Literal.TheVariants.{Typed}
use Rattle.plcx_types.specs.Literal.{StandsForLiteral}
use Rattle.plcx_types.proofs.Printing.{printed_stands}
use Rattle.plcx_types.proofs.print.print_literal.Goals as goal

pub returns-clause-stands : goal.returns-clause-stands
returns-clause-stands c = subst (λ bytes. StandsForLiteral bytes (Typed c.args.v)) (sym c.in_ok-bytes.ensures.form) (printed_stands c.args.v c.in_ok-bytes.ensures.range)
