use Rattle.std.proofs.Common.{◌∙◌, ◌<◌, length, sym, rules, tests}
use Rattle.plcx_xml.proofs.Digits.{past-last, no-digit, all-digits, not-character}
use Rattle.plcx_xml.proofs.reference.number_of.Goals as goal

pub returns-then-digit-base : goal.returns-then-digit-base
returns-then-digit-base c = no-digit c.args.base c.loop-byte.byte-index c.args.digits.now _ c.loop-byte-test.true c.digit_value-digit.ensures.value c.if-digit-base.true

pub returns-then-number-gt-LAST : goal.returns-then-number-gt-LAST
returns-then-number-gt-LAST c = past-last c.args.base c.loop-byte.byte-index c.args.digits.now _ c.requires.some c.loop-byte.invariant.number c.if-number-gt-LAST.true

pub returns-then-is_character : goal.returns-then-is_character
returns-then-is_character c =
    let some : 0 < length c.args.digits.now = search (rules, tests) in
    all-digits c.args.base c.loop-byte.byte-index c.loop-byte.number c.args.digits.now _ some c.loop-byte-test.false c.loop-byte.invariant.digits c.loop-byte.invariant.number (sym c.is_character.ensures ∙ c.if-is_character.true) c.from_u32.ensures.value

pub returns-else-is_character : goal.returns-else-is_character
returns-else-is_character c = not-character c.args.base c.loop-byte.byte-index c.loop-byte.number c.args.digits.now c.loop-byte-test.false c.loop-byte.invariant.number (sym c.is_character.ensures ∙ c.if-is_character.false)
