use Rattle.std.proofs.Common.{map}
use Rattle.plcx_meaning.specs.Templates.{link_text}
use Rattle.plcx_drawn.specs.Shown.{shown_link}
use Rattle.plcx_lower.proofs.Ranges.{apply_parts}
use Rattle.plcx_lower.proofs.functions.called.Goals as goal

pub link_values-requires : goal.link_values-requires
link_values-requires c = apply_parts (map link_text (map shown_link c.args.inputs.now)) c.requires.2
