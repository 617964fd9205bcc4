-- Where the wires and in-outs of bodies stand.
use Rattle.std.specs.Prelude.{◌≡◌, ◌+◌, ◌<◌, ◌≤◌, ℕ, List, Option, Some, None, length, slice_get}
use Rattle.std.specs.List.{AllZip}
use Rattle.plcx_types.specs.Lists.{Each}
use Rattle.plcx_steps.specs.declared.program.Network.{Network}
use Rattle.plcx_steps.specs.declared.program.Body.{Body}
use Rattle.plcx_bodies.specs.declared.frames.Start.{Start}

-- a network has so many wires at most
abbrev pub IsWithin : ℕ → Network → Type 0
IsWithin width network = length network.wires.items ≤ width

-- a body is of this level at most
abbrev pub IsBelow : ℕ → Body → Type 0
IsBelow level body = body.level ≤ level

-- room enough for the body, if it is of this level
abbrev pub HasRoom : ℕ → Start → Body → Type 0
HasRoom level room body = body.level ≡ level → (body.width ≤ room.wire) × (body.in_outs ≤ room.in_out)

-- each level above a body begins behind it, where the levels begin there
abbrev pub EndsBefore : List Start → Body → Type 0
EndsBefore starts body = (level : ℕ) (own above : Start) → body.level < level → slice_get starts body.level ≡ Some own → slice_get starts level ≡ Some above
    → (own.wire + body.width ≤ above.wire) × (own.in_out + body.in_outs ≤ above.in_out)

-- where the levels of these bodies begin
pub record AreStarts (bodies : List Body) (starts : List Start) : Type 0 where
  pub all : Each (λ (body : Body). body.level < length starts) bodies
  pub before : Each (EndsBefore starts) bodies

-- a body at a start, if there is one
abbrev pub framed_at : Body → Option Start → Body
framed_at body None = body
framed_at body (Some start) = record body { first_wire = start.wire; first_in_out = start.in_out }

-- a body where its level begins
abbrev pub framed : List Start → Body → Body
framed starts body = framed_at body (slice_get starts body.level)

-- a body that has just got its place
abbrev pub IsFramed : Body → Body → Type 0
IsFramed before after = after ≡ record before { first_wire = after.first_wire; first_in_out = after.first_in_out }

-- a body stands behind those of lower levels
abbrev pub StandsBehind : Body → Body → Type 0
StandsBehind lower upper = lower.level < upper.level → (lower.first_wire + lower.width ≤ upper.first_wire) × (lower.first_in_out + lower.in_outs ≤ upper.first_in_out)

-- bodies have got their places
pub record AreFramed (before after : List Body) : Type 0 where
  pub same : AllZip IsFramed before after
  pub behind : Each (λ (lower : Body). Each (StandsBehind lower) after) after
