-- What a half-built tree has begun and ended, and how a token moves it on. This serves proofs alone.
use Rattle.std.specs.Prelude.{◌≡◌, ◌⊎◌, ℕ, Bool, true, false, List, [], ◌∷◌, ◌++◌, map, reverse, None, Some}
use Rattle.std.specs.declared.option.Option.{Option}
use Rattle.std.specs.List.{flat_map}
use Rattle.plcx_types.specs.declared.span.Span.{Span}
use Rattle.plcx_xml.specs.Events.{Event, Begin, Chars, events_of, events_of_element, kind_events, token_events, with_event, joined}
use Rattle.plcx_xml.specs.Nesting.{Place, outset, settled, step, run, any_depth, below_limit}
use Rattle.plcx_xml.specs.StandsForTree.{AreBlank, BeginsWith}
use Rattle.plcx_xml.specs.Faults.{IsFirstRefused}
use Rattle.plcx_xml.specs.declared.error.XmlError.{XmlError}
use Rattle.plcx_xml.specs.declared.error.XmlError.TheVariants as xml
use Rattle.plcx_xml.specs.declared.building.Frame.{Frame}
use Rattle.plcx_xml.specs.declared.building.Build.{Build}
use Rattle.plcx_xml.specs.declared.building.Build.TheVariants as build
use Rattle.plcx_xml.specs.declared.token.Kind.{Kind}
use Rattle.plcx_xml.specs.declared.token.Kind.TheVariants as kind
use Rattle.plcx_xml.specs.declared.token.Token.{Token}

abbrev pub opened : Frame → List Event
opened f = Begin f.name f.attributes f.start ∷ flat_map events_of f.children

-- the open names, the innermost first
abbrev pub frame_names : List Frame → List (List ℕ)
frame_names fs = reverse (map (λ (f : Frame). f.name) fs)

abbrev pub open_place : List Frame → Place
open_place fs = record { names = frame_names fs; closed = false }

-- what was found so far: the place, the place and where it got too deep, or where the nesting broke
pub data State : Type 0 where
  Going : Place → State
  Deep : Place → ℕ → State
  Broken : ℕ → State

abbrev pub state_of : Build → State
state_of (build.Open frames) = Going (open_place frames.items)
state_of (build.Closed root) = Going (record { names = []; closed = true })
state_of (build.Deep names at) = Deep (settled (reverse names.items)) at
state_of (build.Broken at) = Broken at

-- once it is too deep
abbrev pub held : Option Place → ℕ → ℕ → State
held (Some q) deep at = Deep q deep
held None deep at = Broken at

abbrev pub went : Option Place → Option Place → ℕ → State
went (Some q) any at = Going q
went None any at = held any at at

-- how a token that starts there moves a state on
abbrev pub next : State → Kind → ℕ → State
next (Going p) k at = went (step below_limit p k) (step any_depth p k) at
next (Deep p deep) k at = held (step any_depth p k) deep at
next (Broken broken) k at = Broken broken

abbrev pub built_events : Build → List Event
built_events (build.Open frames) = flat_map opened frames.items
built_events (build.Closed root) = events_of_element root
built_events (build.Deep names at) = []
built_events (build.Broken at) = []

abbrev pub names_of : State → List (List ℕ)
names_of (Going p) = p.names
names_of (Deep p deep) = p.names
names_of (Broken at) = []

-- a text outside of the root is not kept
abbrev pub with_text : List Event → List (List ℕ) → List ℕ → Span → List Event
with_text es [] value span = es
with_text es (m ∷ ms) value span = with_event es (Chars value span)

abbrev pub with_token : List Event → List (List ℕ) → Kind → Span → List Event
with_token es names (kind.Start name attributes) span = es ++ kind_events (kind.Start name attributes) span
with_token es names (kind.Empty name attributes) span = es ++ kind_events (kind.Empty name attributes) span
with_token es names (kind.End name) span = es ++ kind_events (kind.End name) span
with_token es names (kind.Text value) span = with_text es names value span
with_token es names (kind.Reference value) span = with_text es names value span
with_token es names (kind.Cdata value) span = with_text es names value span
with_token es names kind.Comment span = es
with_token es names kind.Instruction span = es

-- while a tree is built, these events are its own
abbrev pub Keeps : Build → List Event → Type 0
Keeps (build.Open frames) es = flat_map opened frames.items ≡ es
Keeps (build.Closed root) es = events_of_element root ≡ es
Keeps (build.Deep names at) es = Unit {0}
Keeps (build.Broken at) es = Unit {0}

abbrev pub IsOpenAt : State → Type 0
IsOpenAt (Going p) = p.closed ≡ false
IsOpenAt (Deep p deep) = p.closed ≡ false
IsOpenAt (Broken at) = ⊥

-- what the end of the file says
abbrev pub Ends : State → ℕ → XmlError → Type 0
Ends s last (xml.NotUtf8 at) = ⊥
Ends s last (xml.Token at) = ⊥
Ends s last (xml.Nesting at) = (s ≡ Broken at) ⊎ (IsOpenAt s × (at ≡ last))
Ends s last (xml.TooDeep at) = s ≡ Deep (settled []) at
Ends s last xml.NoMemory = ⊥

-- how the tokens so far are parted: those of the root stand behind blank ones, and blank ones behind them
pub record Inner (done : List Token) (events : List Event) : Type 0 where
  pub before : List Token
  pub inner : List Token
  pub parted : done ≡ before ++ inner
  pub alone : AreBlank before
  pub same : joined (flat_map token_events inner) ≡ events

pub record Outer (done : List Token) (events : List Event) : Type 0 where
  pub before : List Token
  pub inner : List Token
  pub after : List Token
  pub parted : done ≡ before ++ (inner ++ after)
  pub alone : AreBlank before × AreBlank after
  pub same : joined (flat_map token_events inner) ≡ events

abbrev pub PartsOf : List Token → List Event → List (List ℕ) → Bool → Type 0
PartsOf done events [] false = AreBlank done × (events ≡ [])
PartsOf done events (m ∷ ms) false = Inner done events
PartsOf done events [] true = Outer done events
PartsOf done events (m ∷ ms) true = ⊥

-- what a state says of the tokens so far
abbrev pub Holds : List Token → List Event → State → Type 0
Holds done events (Going p) = (run below_limit done outset ≡ Some p) × PartsOf done events p.names p.closed
Holds done events (Deep p at) = (run any_depth done outset ≡ Some p) × IsFirstRefused below_limit done at
Holds done events (Broken at) = IsFirstRefused any_depth done at

-- how far reading has come
pub record Reached (whole rest : List ℕ) (b : Build) : Type 0 where
  pub done : List Token
  pub front : BeginsWith whole done rest
  pub holds : Holds done (built_events b) (state_of b)
