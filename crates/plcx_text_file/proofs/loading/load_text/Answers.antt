use Rattle.std.proofs.Common.{ℕ, List, sym, subst}
use Rattle.plcx_text_file.specs.Texts.{TextBreaks}
use Rattle.plcx_text_file.specs.Files.{IsBrokenFile, too_long, breaks}
use Rattle.plcx_text_file.proofs.loading.load_text.Goals as goal

pub returns-in-Err-TooLong-clause-refused : goal.returns-in-Err-TooLong-clause-refused
returns-in-Err-TooLong-clause-refused g c = subst (IsBrokenFile (g.D.Desk.file c.args.desk.now c.args.name.now)) (sym c.broken-long.ensures) (too_long ((rw c.in-Err-TooLong.field-0-is at c.in-Err-TooLong.ensures.fails).1))

pub returns-in-Err-Broken-clause-refused : goal.returns-in-Err-Broken-clause-refused
returns-in-Err-Broken-clause-refused g c =
    breaks c.in-Ok.bytes.items c.in-Ok.ensures.whole.1 (subst (λ (bytes : List ℕ). TextBreaks bytes c.in-Err-Broken.found) c.deref.ensures.value (rw c.in-Err-Broken.field-0-is at c.in-Err-Broken.ensures.refused))
