use Rattle.std.proofs.Common.{◌∙◌, ◌&&◌, nat_eq}
use Rattle.std.specs.Str.{bytes_eq}
use Rattle.plcx_draw.specs.Feedback.{has}
use Rattle.plcx_draw.proofs.FeedbackLaws.{put_or}
use Rattle.plcx_draw.proofs.feedback.Feedback.with.Goals as goal

pub returns : goal.returns
returns c id pin =
    let output = c.args.output in
    c.in_ok-insert.ensures.updates.0 (id, record output.pin { now = pin })
    ∙ put_or (nat_eq output.element id && bytes_eq output.pin.now pin) (has c.args.self id pin)
