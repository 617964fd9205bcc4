use Rattle.std.proofs.Common.{refl}
use Rattle.std.specs.Fmt.{digits}
use Rattle.plcx_types.specs.Reading.{with_digit, numeral_from, unsigned_whole, whole, part_at, count, exact, last_part, with_others, parts, time}
use Rattle.plcx_types.specs.ReadLiteral.{number_behind, of_type, typed_or_whole, timed_or_other, literal_of}
use Rattle.plcx_types.specs.ReadConversion.{conversion_of}
use Rattle.plcx_rules.specs.Texts.{trimmed}
use Rattle.plcx_rules.specs.Declarations.{declaration_named}
use Rattle.plcx_rules.specs.Callees.{block_named, callee_named, outputs_of_type, function_input, inputs_of, in_outs_of, outputs_of}
use Rattle.plcx_rules.specs.Helds.{held_in}
use Rattle.plcx_rules.specs.Sources.{place_of_id, output_place, source_of, is_connector_named, connector_place, pins_with_sources, sources_in}
use Rattle.plcx_view.proofs.examples.diagrams_of_functions.Goals as goal

pub returns-clause-negated : goal.returns-clause-negated
unfolding digits with_digit numeral_from unsigned_whole whole part_at count exact last_part with_others parts time number_behind of_type typed_or_whole timed_or_other literal_of conversion_of trimmed declaration_named block_named callee_named outputs_of_type function_input inputs_of in_outs_of outputs_of held_in place_of_id output_place source_of is_connector_named connector_place pins_with_sources sources_in
returns-clause-negated c = refl

pub returns-clause-converting : goal.returns-clause-converting
unfolding digits with_digit numeral_from unsigned_whole whole part_at count exact last_part with_others parts time number_behind of_type typed_or_whole timed_or_other literal_of conversion_of trimmed declaration_named block_named callee_named outputs_of_type function_input inputs_of in_outs_of outputs_of held_in place_of_id output_place source_of is_connector_named connector_place pins_with_sources sources_in
returns-clause-converting c = refl

pub returns-clause-feeding_back : goal.returns-clause-feeding_back
unfolding digits with_digit numeral_from unsigned_whole whole part_at count exact last_part with_others parts time number_behind of_type typed_or_whole timed_or_other literal_of conversion_of trimmed declaration_named block_named callee_named outputs_of_type function_input inputs_of in_outs_of outputs_of held_in place_of_id output_place source_of is_connector_named connector_place pins_with_sources sources_in
returns-clause-feeding_back c = refl
