use Rattle.std.proofs.Common.{◌∙◌, ap₂}
use Rattle.clap.specs.Simple.{with_rule}
use Rattle.plcx_words.proofs.arguments.tool.Goals as goal

pub returns : goal.returns
returns c =
    let one = c.in_ok-one.ensures.shape c.needed.ensures.local ∙ ap₂ with_rule c.bare.ensures c.needed.ensures.rule in
    let two = c.in_ok-two.ensures.shape c.needed-2.ensures.local ∙ ap₂ with_rule one c.needed-2.ensures.rule in
    let three = c.in_ok-three.ensures.shape c.free.ensures.local ∙ ap₂ with_rule two c.free.ensures.rule in
    let four = c.in_ok-four.ensures.shape c.named.ensures.local ∙ ap₂ with_rule three c.named.ensures.rule in
    let five = c.in_ok-five.ensures.shape c.named-2.ensures.local ∙ ap₂ with_rule four c.named-2.ensures.rule in
    c.in_ok-six.ensures.shape c.named-3.ensures.local ∙ ap₂ with_rule five c.named-3.ensures.rule
