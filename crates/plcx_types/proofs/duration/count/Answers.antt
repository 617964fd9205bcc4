use Rattle.std.proofs.Common.{◌≡◌, ◌<◌, ◌≤◌, ◌^◌, ℕ, Option, Some, None, List, length, arith, sym}
use Rattle.std.specs.Option.{IfSome}
use Rattle.std.proofs.lemmas.List.{length-map}
use Rattle.std.specs.Char.{to_ascii_lowercase}
use Rattle.plcx_types.specs.Name.{in_lower_case}
use Rattle.plcx_types.specs.Reading.{numeral}
use Rattle.plcx_types.proofs.NumberBounds.{number_small}
use Rattle.plcx_types.proofs.Numerals.{numeral_is}
use Rattle.plcx_types.proofs.duration.count.Goals as goal

read_small : (most : ℕ) (digits : List ℕ) (found : Option ℕ) → length digits ≤ most → found ≡ numeral 10 (in_lower_case digits) → IfSome found (λ n. n < 10 ^ most)
read_small most digits None few is = tt
read_small most digits (Some n) few is =
    let numeral = numeral_is 10 (in_lower_case digits) n (sym is) in
    let small = number_small most (in_lower_case digits) (omega (arith, length-map digits to_ascii_lowercase)) in
    omega (arith, small, numeral.number)

pub returns-clause-bounded : goal.returns-clause-bounded
returns-clause-bounded c = read_small c.args.most c.args.digits.now c.numeral.result (omega arith) c.numeral.ensures.value
