use Rattle.plcx_st.specs.Grammar.{limit}
use Rattle.plcx_text_file.proofs.OneVerdict.{same_unit, same_broken, apart}
use Rattle.plcx_text_file.proofs.law.one_text_verdict.Goals as goal

pub returns-clause-unit : goal.returns-clause-unit
returns-clause-unit c =
    same_unit c.one_list.ensures.tokens (c.one_place.ensures.one limit) (c.one_place.ensures.none limit) c.one_unit.ensures c.one_comes_first.ensures.one c.places_are_added.ensures.bare c.ready_units_break_nothing.ensures.ready

pub returns-clause-broken : goal.returns-clause-broken
returns-clause-broken c =
    same_broken c.one_list.ensures.tokens (c.one_place.ensures.one limit) (c.one_place.ensures.none limit) c.one_unit.ensures c.one_comes_first.ensures.one c.places_are_added.ensures.bare c.ready_units_break_nothing.ensures.ready

pub returns-clause-apart : goal.returns-clause-apart
returns-clause-apart c =
    apart c.one_list.ensures.tokens (c.one_place.ensures.one limit) (c.one_place.ensures.none limit) c.one_unit.ensures c.one_comes_first.ensures.one c.places_are_added.ensures.bare c.ready_units_break_nothing.ensures.ready
