use Rattle.std.proofs.Common.{◌∙◌, sym, ap, Some}
use Rattle.plcx_command.proofs.Measured.{words_measured}
use Rattle.plcx_command.proofs.deciding.decide.Goals as goal

pub obey-requires : goal.obey-requires
obey-requires g c = λ n e. words_measured c.args.words.now n (sym c.in-Ok.ensures.ok ∙ ap Some e)
