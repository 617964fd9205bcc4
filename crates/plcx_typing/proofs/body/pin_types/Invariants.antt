use Rattle.std.proofs.Common.{◌≡◌, ℕ, ◌<◌, [], length, get_or}
use Rattle.plcx_types.specs.declared.ty.Ty.TheVariants.{Bool}
use Rattle.plcx_types.specs.TypeName.{all_types}
use Rattle.plcx_rules.specs.Types.{pin_at, sources_at}
use Rattle.plcx_typing.specs.Sheets.{sheet}
use Rattle.plcx_typing.specs.Tests.{pin_has}
use Rattle.plcx_typing.specs.Judgings.{first_type}
use Rattle.plcx_typing.proofs.body.pin_types.Given as goal

abbrev pub invariant-loop-i : goal.invariant-loop-i
invariant-loop-i l = record {
  count : length l.types.items ≡ l.i;
  types : (k : ℕ) → k < l.i → get_or l.types.items k Bool ≡ first_type (pin_has (sheet l.forms [] []) l.marks (pin_at (sheet [] l.pins []) k) (sources_at (sheet [] [] l.links) k)) all_types;
}
