use Rattle.std.proofs.Common.{◌≡◌, drop}
use Rattle.plcx_meaning.specs.Functions.{all_suit}
use Rattle.plcx_signatures.proofs.functions.all_suit.Given as goal

abbrev pub invariant-loop-place : goal.invariant-loop-place
invariant-loop-place l = all_suit l.func l.ty l.place (drop l.place l.types) ≡ all_suit l.func l.ty 0 l.types
