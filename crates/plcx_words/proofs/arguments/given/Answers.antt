use Rattle.std.proofs.Common.{◌∙◌}
use Rattle.clap.specs.Matches.{found_of}
use Rattle.plcx_words.proofs.Given.{read, refused}
use Rattle.plcx_words.proofs.arguments.given.Goals as goal

pub returns-in-Ok-try_get_matches_from-clause-ok : goal.returns-in-Ok-try_get_matches_from-clause-ok
returns-in-Ok-try_get_matches_from-clause-ok c =
    let parsed = c.in-Ok-try_get_matches_from.ensures in
    rw (c.get_str-action.ensures, c.get_str-file.ensures, c.get_str-events.ensures, c.get_str-program.ensures, c.get_str-turns.ensures, c.get_str-retain.ensures)
    (read _ _ (found_of c.in-Ok-try_get_matches_from.matches) c.in-Ok.ensures parsed.kinds (λ h. (parsed.matches h).0))

pub returns : goal.returns
returns c = record {
  ok = tt;
  usage = refused _ _ c.in-Err.fault c.in-Ok.ensures c.in-Err.ensures.kinds (λ e. c.in_default-kind.not-OutOfMemory (c.kind-kind.ensures ∙ e));
}
