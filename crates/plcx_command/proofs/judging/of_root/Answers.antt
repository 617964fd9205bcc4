use Rattle.std.proofs.lemmas.Result.{IfOk-weaker}
use Rattle.plcx_xml.specs.declared.tree.Node.{out-Node}
use Rattle.plcx_command.proofs.Judged.{root_sound, root_stands, root_refused}
use Rattle.plcx_command.proofs.judging.of_root.Goals as goal

pub of_project-requires : goal.of_project-requires
of_project-requires c = root_sound c.sound_project.ensures (out-Node c.args.root.now) c.in-Ok.project c.in-Ok.ensures

pub returns-in-Ok : goal.returns-in-Ok
returns-in-Ok c = IfOk-weaker c.of_project.result _ _ (λ j h. root_stands (out-Node c.args.root.now) c.in-Ok.project j c.in-Ok.ensures h) c.of_project.ensures

pub returns-in-Err-Broken : goal.returns-in-Err-Broken
returns-in-Err-Broken c = rw c.in-Err-Broken.field-0-is (root_refused (out-Node c.args.root.now) c.in-Err-Broken.broken c.requires (rw c.in-Err-Broken.field-0-is at c.in-Err-Broken.ensures))
