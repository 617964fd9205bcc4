use Rattle.std.proofs.Common.{length, ◌-◌}
use Rattle.plcx_types.specs.Reading.{is_letter}
use Rattle.plcx_types.proofs.Splitting.{Splits}
use Rattle.plcx_types.proofs.reading.split_letters.Given as goal

-- so many bytes are digits or letters
abbrev pub invariant-loop-count : goal.invariant-loop-count
invariant-loop-count l = Splits (is_letter) l.text l.count

abbrev pub decreases-loop-count : goal.decreases-loop-count
decreases-loop-count l = length l.text - l.count
