-- The state of a block: its kind, its default, its values and one call.
use Rattle.std.specs.Prelude.{ℤ, List}
use Rattle.plcx_types.specs.Value.{Value}
use Rattle.plcx_std.specs.declared.kind.StdKind.{StdKind}
use Rattle.plcx_std.specs.declared.kind.StdKind.TheVariants as kind
use Rattle.plcx_std.specs.declared.state.StdState.{StdState}
use Rattle.plcx_std.specs.declared.state.StdState.TheVariants as state
use Rattle.plcx_std.specs.Step.{ton, tof, tp, ctu, ctd, ctud, sr, rs, r_trig, f_trig}
use Rattle.plcx_std.specs.Calls.{default_on_delay, default_timer, default_up, default_down, default_up_down, default_latch, default_edge}
use Rattle.plcx_std.specs.Values.{on_delay_values, timer_values, up_values, down_values, up_down_values, latch_values, edge_values}

-- the kind of a block by its leaves
abbrev pub kind_of : StdState → StdKind
kind_of (state.Ton l) = kind.Ton
kind_of (state.Tof l) = kind.Tof
kind_of (state.Tp l) = kind.Tp
kind_of (state.Ctu l) = kind.Ctu
kind_of (state.Ctd l) = kind.Ctd
kind_of (state.Ctud l) = kind.Ctud
kind_of (state.Sr l) = kind.Sr
kind_of (state.Rs l) = kind.Rs
kind_of (state.RTrig l) = kind.RTrig
kind_of (state.FTrig l) = kind.FTrig

-- all leaves at default
abbrev pub default_state : StdKind → StdState
default_state kind.Ton = state.Ton default_on_delay
default_state kind.Tof = state.Tof default_timer
default_state kind.Tp = state.Tp default_timer
default_state kind.Ctu = state.Ctu default_up
default_state kind.Ctd = state.Ctd default_down
default_state kind.Ctud = state.Ctud default_up_down
default_state kind.Sr = state.Sr default_latch
default_state kind.Rs = state.Rs default_latch
default_state kind.RTrig = state.RTrig default_edge
default_state kind.FTrig = state.FTrig default_edge

-- the values of the leaves, in the order of the pins
abbrev pub values : StdState → List Value
values (state.Ton l) = on_delay_values l
values (state.Tof l) = timer_values l
values (state.Tp l) = timer_values l
values (state.Ctu l) = up_values l
values (state.Ctd l) = down_values l
values (state.Ctud l) = up_down_values l
values (state.Sr l) = latch_values l
values (state.Rs l) = latch_values l
values (state.RTrig l) = edge_values l
values (state.FTrig l) = edge_values l

-- one call
abbrev pub stepped : StdState → ℤ → StdState
stepped (state.Ton l) now = state.Ton (ton l now)
stepped (state.Tof l) now = state.Tof (tof l now)
stepped (state.Tp l) now = state.Tp (tp l now)
stepped (state.Ctu l) now = state.Ctu (ctu l)
stepped (state.Ctd l) now = state.Ctd (ctd l)
stepped (state.Ctud l) now = state.Ctud (ctud l)
stepped (state.Sr l) now = state.Sr (sr l)
stepped (state.Rs l) now = state.Rs (rs l)
stepped (state.RTrig l) now = state.RTrig (r_trig l)
stepped (state.FTrig l) now = state.FTrig (f_trig l)
