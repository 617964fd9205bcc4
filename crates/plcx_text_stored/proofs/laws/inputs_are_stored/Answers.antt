use Rattle.std.proofs.Common.{sym, subst, map}
use Rattle.plcx_meaning.specs.Run.{put_inputs}
use Rattle.plcx_scan.specs.Events.{meant_input}
use Rattle.plcx_numbered.specs.Agreeing.{Holds, plain_path}
use Rattle.plcx_stored.specs.Between.{with_inputs}
use Rattle.plcx_stored.proofs.Inputs.{all_stored}
use Rattle.plcx_text_stored.proofs.Leaves.{paths_laid}
use Rattle.plcx_text_stored.proofs.laws.inputs_are_stored.Goals as goal

pub returns : goal.returns
returns c = λ unit p l laid is inputs are g s a.
    let same = paths_laid unit p l laid in
    record {
      store = subst (λ ps. Holds plain_path ps (put_inputs (map (meant_input l.leaves) inputs) g.store) (with_inputs inputs s.values)) same
          (all_stored l is inputs are g.store s.values (subst (λ ps. Holds plain_path ps g.store s.values) (sym same) a.store));
    }
