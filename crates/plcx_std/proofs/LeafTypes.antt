-- The leaves have the types of the pins.
use Rattle.std.proofs.Common.{◌≡◌, map, refl}
use Rattle.plcx_std.specs.declared.state.StdState.{StdState}
use Rattle.plcx_std.specs.declared.state.StdState.TheVariants as state
use Rattle.plcx_std.specs.Pins.{pins}
use Rattle.plcx_std.specs.State.{kind_of, values}

pub leaves_law : (s : StdState) → map (λ v. v.ty) (values s) ≡ map (λ p. p.ty) (pins (kind_of s))
leaves_law (state.Ton l) = refl
leaves_law (state.Tof l) = refl
leaves_law (state.Tp l) = refl
leaves_law (state.Ctu l) = refl
leaves_law (state.Ctd l) = refl
leaves_law (state.Ctud l) = refl
leaves_law (state.Sr l) = refl
leaves_law (state.Rs l) = refl
leaves_law (state.RTrig l) = refl
leaves_law (state.FTrig l) = refl
