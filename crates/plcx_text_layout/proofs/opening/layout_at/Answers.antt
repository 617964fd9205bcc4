use Rattle.plcx_known.specs.Unit.{placed_of}
use Rattle.plcx_text_layout.proofs.Suited.{owners_suit}
use Rattle.plcx_text_layout.proofs.Units.{is_laid, is_laid_for}
use Rattle.plcx_text_layout.proofs.opening.layout_at.Goals as goal

pub program_leaves-requires : goal.program_leaves-requires
program_leaves-requires c = owners_suit (placed_of c.args.scope.now) c.requires.ready

pub new-requires-2 : goal.new-requires-2
new-requires-2 c =
    is_laid c.args.scope.now c.requires.ready c.args.place c.requires.place c.in_ok-leaves.leaves.items c.in_ok-leaves.ensures.leaves c.new.result.items c.new.ensures.items c.in_ok-leaves.ensures.typed

pub returns : goal.returns
returns c = λ p at.
    is_laid_for c.args.scope.now c.requires.ready c.args.place c.requires.place c.in_ok-leaves.leaves.items c.in_ok-leaves.ensures.leaves c.new.result.items c.new.ensures.items p at c.new-2.result c.new-2.ensures
