use Rattle.plcx_types.specs.Name.{in_lower_case}
use Rattle.plcx_lex.proofs.WholeForms.{whole_finds}
use Rattle.plcx_lex.proofs.whole.whole_len.Goals as goal

pub returns : goal.returns
returns c = rw (c.longer-2.ensures, c.longer-signed.ensures, c.longer.ensures, c.longer-small.ensures, c.longer-plain.ensures)
    (whole_finds (in_lower_case c.args.text.now) c.based_len.result c.based_len-2.result c.based_len-3.result c.based_len-4.result c.based_len-5.result c.numeral_len.result
    c.based_len.ensures c.based_len-2.ensures c.based_len-3.ensures c.based_len-4.ensures c.based_len-5.ensures c.numeral_len.ensures)
