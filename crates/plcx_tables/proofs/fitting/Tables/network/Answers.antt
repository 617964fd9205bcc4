use Rattle.std.proofs.Common.{List, refl, sym, subst}
use Rattle.plcx_drawn.specs.declared.element.Element.{Element}
use Rattle.plcx_targets.specs.Labels.{network_of}
use Rattle.plcx_tables.specs.Named.{MemoriesTold}
use Rattle.plcx_tables.specs.Owned.{places_of}
use Rattle.plcx_tables.specs.Numbering.{outputs}
use Rattle.plcx_tables.proofs.fitting.Tables.network.Goals as goal

pub invariant_of-result : goal.invariant_of-result
invariant_of-result c = record { fits = c.args.self.now.fits c.args.place c.in-Some.own.now (sym c.in-Some.ensures) }

pub returns-in_ok-outputs-in-Some : goal.returns-in_ok-outputs-in-Some
returns-in_ok-outputs-in-Some c =
    let made = c.in_ok-outputs-in-Some.outputs in
    record {
      all = refl;
      own = sym c.in-Some.ensures;
      outputs = subst (λ (es : List Element). MemoriesTold made.numbers.entries made.count (places_of (outputs (network_of es c.args.places.now)))) c.elements.ensures c.in_ok-outputs-in-Some.ensures;
    }
