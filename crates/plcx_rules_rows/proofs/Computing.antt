-- What the examples compute with.
use Rattle.plcx_rules.specs.Forms.{text_gives, block_pins, block_outputs, element_pins, form_of}
use Rattle.plcx_rules.proofs.Computing.{computing as links}

-- `unfolding computing` opens the definitions of the rules and those of numbers, literals and names that they use
unfoldable pub computing : Unit {0}
unfolding links text_gives block_pins block_outputs element_pins form_of
computing = tt
