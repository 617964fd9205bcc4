use Rattle.plcx_state.proofs.Reading.{kept_drafted}
use Rattle.plcx_state.proofs.lines.read_lines.Goals as goal

pub returns-clause-kept : goal.returns-clause-kept
returns-clause-kept c =
    let goes = c.in_ok-draft.ensures.ok in
    rw (c.fill.ensures, c.leaves.ensures, goes.draft_is, c.in_ok-table.ensures.leaves) (kept_drafted c.args.layout.now.leaves _)
