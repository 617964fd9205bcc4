use Rattle.std.proofs.Common.{sym, subst, map}
use Rattle.plcx_meaning.specs.Run.{put_inputs}
use Rattle.plcx_scan.specs.Events.{meant_input}
use Rattle.plcx_numbered.specs.Agreeing.{Holds, plain_path}
use Rattle.plcx_stored.specs.Between.{with_inputs}
use Rattle.plcx_stored.proofs.Leaves.{paths_laid}
use Rattle.plcx_stored.proofs.Inputs.{input_fits, all_stored}
use Rattle.plcx_stored.proofs.laws.inputs_are_stored.Goals as goal

pub returns-clause-fits : goal.returns-clause-fits
returns-clause-fits c = input_fits

pub returns-clause-stored : goal.returns-clause-stored
returns-clause-stored c = λ project p l laid is inputs are d s a.
    let same = paths_laid project p l laid in
    record {
      store = subst (λ ps. Holds plain_path ps (put_inputs (map (meant_input l.leaves) inputs) d.store) (with_inputs inputs s.values)) same
          (all_stored l is inputs are d.store s.values (subst (λ ps. Holds plain_path ps d.store s.values) (sym same) a.store));
      memories = a.memories;
    }
