use Rattle.std.proofs.Common.{◌++◌, ◌∷◌, [], sym, ◌∙◌, subst}
use Rattle.std.specs.Prelude.{Some}
use Rattle.std.proofs.lemmas.List.{map-append}
use Rattle.plcx_meaning.specs.Base.{AtEdge}
use Rattle.plcx_tables.specs.Named.{MemoriesTold}
use Rattle.plcx_tables.specs.Owned.{places_of}
use Rattle.plcx_tables.proofs.Listed.{edged_memories}
use Rattle.plcx_tables.proofs.own.with_element.Goals as goal

pub returns-in_ok-with_fed : goal.returns-in_ok-with_fed
returns-in_ok-with_fed c = λ before told.
    let after = c.in_ok-with_fed.field-0 in
    edged_memories (MemoriesTold after.numbers.entries after.count) before c.args.element.now c.as_slice.result.now c.as_slice.ensures (sym c.has_edge.ensures ∙ c.if-has_edge.true)
    (c.in_ok-with_fed.ensures (before ++ AtEdge c.args.element.now.id ∷ []) (subst (MemoriesTold c.in_ok-edged.edged.numbers.entries c.in_ok-edged.edged.count) (sym (map-append Some before (AtEdge c.args.element.now.id ∷ []))) (c.in_ok-edged.ensures (places_of before) told)))
