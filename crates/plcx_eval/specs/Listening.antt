-- What a side stands for to whose scans someone listens.
use Rattle.std.specs.Prelude.{◌≡◌, ℕ, List, Some}
use Rattle.std.specs.Borrow.{MutBor}
use Rattle.std.specs.List.{fold}
use Rattle.plcx_types.specs.Value.{Value}
use Rattle.plcx_meaning.specs.Evaluate.{Heard, DiagramState}
use Rattle.plcx_meaning.specs.Run.{Event, Machine}
use Rattle.plcx_meaning.specs.Run.{Side as Meant}
use Rattle.plcx_meaning.specs.Watch.{heard_over}
use Rattle.plcx_scan.specs.Sides.{BringsAll}
use Rattle.plcx_state.specs.Layouts.{Laid}
use Rattle.plcx_eval.specs.declared.watching.Watched.{Watched}
use Rattle.plcx_eval.specs.Sides.{diagrams, program, laid_of, held_of, last_of, StandsFor}
use Rattle.plcx_eval.specs.Watching.{Lenders, Listened, listened_machine, unwatched}

-- what a borrowed watch is behind an output
abbrev pub told_behind : {M : Type 0} → (M → Heard → M) → MutBor M → Heard → MutBor M
told_behind tell m h = record m { now = tell m.now h }

-- where its diagram and its watch are lent from
abbrev pub lenders : {M : Type 0} → Watched M → Lenders
lenders s = record { diagram = s.side.ghost_name; watch = s.watch.ghost_name }

-- the machine of its program
abbrev pub watched_machine : {M : Type 0} → (M → Heard → M) → Watched M → Machine (Listened (MutBor M))
watched_machine tell s = listened_machine (told_behind tell) (lenders s) (diagrams s.side.now) (program s.side.now)

-- it stands for a side of the meaning where its own does, and where its watch is what whoever listens there has become
pub record ListensTo {M : Type 0} (s : Watched M) (g : Meant (Listened (MutBor M))) : Type 0 where
  pub side : StandsFor s.side.now (unwatched g)
  pub watch : g.state.watch ≡ Some s.watch

-- its leaves and memories, the values of its leaves, and the time of its last scan
abbrev pub watched_laid : {M : Type 0} → Watched M → Laid
watched_laid s = laid_of s.side.now

abbrev pub watched_held : {M : Type 0} → Watched M → List Value
watched_held s = held_of s.side.now

abbrev pub watched_last : {M : Type 0} → Watched M → ℕ
watched_last s = last_of s.side.now

-- Where events lead from what a side stood for to what it stands for now, its watch is the same one, and was told all that is heard over them.
abbrev pub WatchIsTold : {M : Type 0} → (M → Heard → M) → Type 0
WatchIsTold {M} tell = (old new : Watched M) (turns : ℕ) (es : List Event) → BringsAll (watched_machine tell old) turns es (ListensTo old) (ListensTo new)
    → (g : Meant DiagramState) → StandsFor old.side.now g
    → new.watch ≡ record old.watch { now = fold tell old.watch.now (heard_over (diagrams old.side.now) (program old.side.now) turns es g) }
