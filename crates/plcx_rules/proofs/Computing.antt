-- What examples compute with.
use Rattle.std.specs.Fmt.{digits}
use Rattle.plcx_types.specs.ReadConversion.{conversion_of}
use Rattle.plcx_types.specs.ReadLiteral.{number_behind, of_type, typed_or_whole, timed_or_other, literal_of}
use Rattle.plcx_types.specs.Reading.{with_digit, numeral_from, unsigned_whole, whole, part_at, count, exact, last_part, with_others, parts, time}
use Rattle.plcx_rules.specs.Texts.{trimmed}
use Rattle.plcx_rules.specs.Declarations.{declaration_named}
use Rattle.plcx_rules.specs.Callees.{block_named, callee_named, is_instance_of, outputs_of_type, function_input, inputs_of, in_outs_of, outputs_of}
use Rattle.plcx_rules.specs.Helds.{held_in, is_value, is_operand, is_target}
use Rattle.plcx_rules.specs.Sources.{place_of_id, output_place, source_of, is_connector_named, connector_place, pins_with_sources, sources_in}
use Rattle.plcx_rules.specs.Items.{items_of}
use Rattle.plcx_rules.specs.LinkRules.{lacks_source, has_no_callee, breaks_instance, inputs_fail, in_outs_fail, outputs_fail, breaks_formals, breaks_expression, lends, breaks_target, breaks_connector, is_label_named, breaks_label, is_modified_in, breaks_modifiers, is_of_ladder, breaks}

-- `unfolding computing` opens the definitions of this crate and those of numbers, literals and names that they use
unfoldable pub computing : Unit {0}
unfolding digits conversion_of number_behind of_type typed_or_whole timed_or_other literal_of with_digit numeral_from unsigned_whole whole part_at count exact last_part with_others parts time trimmed declaration_named block_named callee_named is_instance_of outputs_of_type function_input inputs_of in_outs_of outputs_of held_in is_value is_operand is_target place_of_id output_place source_of is_connector_named connector_place pins_with_sources sources_in items_of lacks_source has_no_callee breaks_instance inputs_fail in_outs_fail outputs_fail breaks_formals breaks_expression lends breaks_target breaks_connector is_label_named breaks_label is_modified_in breaks_modifiers is_of_ladder breaks
computing = tt
