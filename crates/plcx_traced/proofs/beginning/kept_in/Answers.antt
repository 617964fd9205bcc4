use Rattle.std.proofs.Common.{sym, subst}
use Rattle.plcx_traced.specs.Files.{IsWrongLine, wrong}
use Rattle.plcx_traced.proofs.beginning.kept_in.Goals as goal

pub returns-in-Err-Line-clause-err : goal.returns-in-Err-Line-clause-err
returns-in-Err-Line-clause-err c = λ told loaded.
    let why = rw c.in-Err-Line.field-0-is at c.in-Err-Line.ensures.err in
    subst (IsWrongLine told c.args.layout.now.leaves) (sym why.1) (wrong c.args.bytes.now loaded why.0 why.2)
