use Rattle.std.proofs.Common.{◌≡◌, map, take}
use Rattle.plcx_cover.specs.Keys.{key_of}
use Rattle.plcx_cover.proofs.counting.keys_of.Given as goal

-- the keys of the rows so far
abbrev pub invariant-loop-row : goal.invariant-loop-row
invariant-loop-row l = l.keys.keys ≡ map key_of (take l.row-index l.rows)
