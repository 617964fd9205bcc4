use Rattle.std.proofs.Common.{refl, sym, subst}
use Rattle.plcx_meaning.specs.Layout.{Warm}
use Rattle.plcx_text_stored.specs.Between.{AgreesWith}
use Rattle.plcx_run.specs.Sides.{unit, program, machine_of}
use Rattle.plcx_run.proofs.Sided.{restarts}
use Rattle.plcx_run.proofs.side.TextSideSide.warm.Goals as goal

pub returns-clause-meaning : goal.returns-clause-meaning
returns-clause-meaning c = λ g h.
    let s = c.args.self.now in
    record {
      halted = refl;
      last = h.last;
      agrees = subst (AgreesWith (unit s) (program s) ((machine_of s).restart Warm g.state)) (sym c.warm.ensures.value) (restarts c.one_agreement.ensures c.store_restarts.ensures s c.keeps_types.ensures.stored Warm g h);
    }
