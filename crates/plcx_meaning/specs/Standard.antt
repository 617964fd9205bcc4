-- A standard block as an instance: its variables, and a call of it on the leaves of a store.
use Rattle.std.specs.Prelude.{ℕ, ℤ, pos, Bool, true, false, List, [], ◌∷◌, None, map, filter, codes}
use Rattle.plcx_types.specs.Name.{in_lower_case}
use Rattle.plcx_types.specs.TypeName.{type_name}
use Rattle.plcx_types.specs.Value.{Value}
use Rattle.plcx_std.specs.declared.kind.StdKind.{StdKind}
use Rattle.plcx_std.specs.declared.kind.StdKind.TheVariants as kind
use Rattle.plcx_std.specs.declared.pin.Role.{Role}
use Rattle.plcx_std.specs.declared.pin.Role.TheVariants as role
use Rattle.plcx_std.specs.declared.state.StdState.{StdState}
use Rattle.plcx_std.specs.declared.state.StdState.TheVariants as state
use Rattle.plcx_std.specs.declared.leaves.OnDelay.{OnDelay}
use Rattle.plcx_std.specs.declared.leaves.Timer.{Timer}
use Rattle.plcx_std.specs.declared.leaves.UpCounter.{UpCounter}
use Rattle.plcx_std.specs.declared.leaves.DownCounter.{DownCounter}
use Rattle.plcx_std.specs.declared.leaves.UpDownCounter.{UpDownCounter}
use Rattle.plcx_std.specs.declared.leaves.Latch.{Latch}
use Rattle.plcx_std.specs.declared.leaves.Edge.{Edge}
use Rattle.plcx_std.specs.Pins.{Pin, pins}
use Rattle.plcx_std.specs.State.{stepped, values}
use Rattle.plcx_meaning.specs.Base.{Path, put, is_true}
use Rattle.plcx_meaning.specs.Tree.{Class, Local, Input, Output, Plain, Declaration, Block}

-- the declaration of a pin
abbrev pub pin_declaration : Pin → Declaration
pin_declaration p = record { name = p.name; address = None; ty = type_name p.ty; initial = None }

-- the pin has this role
abbrev pub has_role : Role → Pin → Bool
has_role role.In p = elim p.role [ role.In ↦ true | role.Out ↦ false | role.Hidden ↦ false ]
has_role role.Out p = elim p.role [ role.In ↦ false | role.Out ↦ true | role.Hidden ↦ false ]
has_role role.Hidden p = elim p.role [ role.In ↦ false | role.Out ↦ false | role.Hidden ↦ true ]

-- the pins of a role, as a block of declarations
abbrev pub pin_block : Class → Role → StdKind → Block
pin_block class r k = record { class = class; mark = Plain; declarations = map pin_declaration (filter (has_role r) (pins k)) }

-- a standard block declares its inputs, its outputs, and what is hidden
abbrev pub pin_blocks : StdKind → List Block
pin_blocks k = pin_block Input role.In k ∷ pin_block Output role.Out k ∷ pin_block Local role.Hidden k ∷ []

-- the leaves of a block as numbers, by their names without case
abbrev pub Leaves : Type 0
Leaves = List ℕ → ℤ

-- the leaves of a TON
abbrev pub on_delay : Leaves → OnDelay
on_delay at = record {
  input = is_true (at (codes "in"));
  preset = at (codes "pt");
  output = is_true (at (codes "q"));
  elapsed = at (codes "et");
  running = is_true (at (codes "run"));
  start = at (codes "start");
}

-- the leaves of a TOF or a TP
abbrev pub timer : Leaves → Timer
timer at = record {
  input = is_true (at (codes "in"));
  preset = at (codes "pt");
  output = is_true (at (codes "q"));
  elapsed = at (codes "et");
  memory = is_true (at (codes "m"));
  running = is_true (at (codes "run"));
  start = at (codes "start");
}

-- the leaves of a CTU
abbrev pub up_counter : Leaves → UpCounter
up_counter at = record {
  up = is_true (at (codes "cu"));
  reset = is_true (at (codes "r"));
  preset = at (codes "pv");
  output = is_true (at (codes "q"));
  count = at (codes "cv");
  memory = is_true (at (codes "m"));
}

-- the leaves of a CTD
abbrev pub down_counter : Leaves → DownCounter
down_counter at = record {
  down = is_true (at (codes "cd"));
  load = is_true (at (codes "ld"));
  preset = at (codes "pv");
  output = is_true (at (codes "q"));
  count = at (codes "cv");
  memory = is_true (at (codes "m"));
}

-- the leaves of a CTUD
abbrev pub up_down_counter : Leaves → UpDownCounter
up_down_counter at = record {
  up = is_true (at (codes "cu"));
  down = is_true (at (codes "cd"));
  reset = is_true (at (codes "r"));
  load = is_true (at (codes "ld"));
  preset = at (codes "pv");
  output_up = is_true (at (codes "qu"));
  output_down = is_true (at (codes "qd"));
  count = at (codes "cv");
  memory_up = is_true (at (codes "mu"));
  memory_down = is_true (at (codes "md"));
}

-- the leaves of an SR
abbrev pub set_first : Leaves → Latch
set_first at = record {
  set = is_true (at (codes "s1"));
  reset = is_true (at (codes "r"));
  output = is_true (at (codes "q1"));
}

-- the leaves of an RS
abbrev pub reset_first : Leaves → Latch
reset_first at = record {
  set = is_true (at (codes "s"));
  reset = is_true (at (codes "r1"));
  output = is_true (at (codes "q1"));
}

-- the leaves of an R_TRIG or an F_TRIG
abbrev pub edge : Leaves → Edge
edge at = record {
  clock = is_true (at (codes "clk"));
  output = is_true (at (codes "q"));
  memory = is_true (at (codes "m"));
}

-- the state of a standard block, by its leaves
abbrev pub state_of : StdKind → Leaves → StdState
state_of kind.Ton at = state.Ton (on_delay at)
state_of kind.Tof at = state.Tof (timer at)
state_of kind.Tp at = state.Tp (timer at)
state_of kind.Ctu at = state.Ctu (up_counter at)
state_of kind.Ctd at = state.Ctd (down_counter at)
state_of kind.Ctud at = state.Ctud (up_down_counter at)
state_of kind.Sr at = state.Sr (set_first at)
state_of kind.Rs at = state.Rs (reset_first at)
state_of kind.RTrig at = state.RTrig (edge at)
state_of kind.FTrig at = state.FTrig (edge at)

-- values of the pins of the instance at a path, in their order
abbrev pub put_values : List Pin → List Value → Path → (Path → ℤ) → Path → ℤ
put_values [] vs p s = s
put_values (x ∷ xs) [] p s = s
put_values (x ∷ xs) (v ∷ vs) p s = put_values xs vs p (put s (in_lower_case x.name ∷ p) v.n)

-- one call of a standard block at a path
abbrev pub called : StdKind → (time : ℕ) → Path → (Path → ℤ) → Path → ℤ
called k time p s = put_values (pins k) (values (stepped (state_of k (λ x. s (x ∷ p))) (pos time))) p s
