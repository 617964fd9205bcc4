-- What the side of a text stands for.
use Rattle.std.specs.Prelude.{◌≡◌, ℕ, nat_abs, true, List, Option, Some, is_some}
use Rattle.plcx_types.specs.Value.{Value}
use Rattle.plcx_meaning.specs.Tree.{PouText}
use Rattle.plcx_meaning.specs.Execute.{TextState, program_named, text_machine}
use Rattle.plcx_meaning.specs.Run.{Machine, begin_side}
use Rattle.plcx_meaning.specs.Run.{Side as Meant}
use Rattle.plcx_state.specs.Layouts.{Laid}
use Rattle.plcx_state.specs.Retains.{kept_at}
use Rattle.plcx_st.specs.Meant.{meant}
use Rattle.plcx_text_stored.specs.Between.{AgreesWith}
use Rattle.plcx_text_stored.specs.LaidFor.{IsLaidFor}
use Rattle.plcx_run.specs.Standing.{pou_at}
use Rattle.plcx_run.specs.declared.side.TextSide.{TextSide}

-- its unit, as it is meant
abbrev pub unit : TextSide → List PouText
unit s = meant s.ready.now

-- its program
abbrev pub program : TextSide → PouText
program s = pou_at (unit s) s.place

-- its machine
abbrev pub machine_of : TextSide → Machine TextState
machine_of s = text_machine (unit s) (program s)

-- its leaves, the values of these, and the time of its last scan
abbrev pub laid_of : TextSide → Laid
laid_of s = s.layout

abbrev pub held_of : TextSide → List Value
held_of s = s.state.store.values

abbrev pub last_of : TextSide → ℕ
last_of s = nat_abs s.last

-- It stands for a side of the meaning that is halted where it is, had its last scan at the same time, and has the numbers of its store as its leaves.
pub record StandsFor (s : TextSide) (g : Meant TextState) : Type 0 where
  pub halted : g.halted ≡ s.halted
  pub last : g.last ≡ last_of s
  pub agrees : AgreesWith (unit s) (program s) g.state s.state.store

-- the side is opened for a program of the unit from a retained state
pub record OpensFor (p : PouText) (kept : List (Option Value)) (s : TextSide) : Type 0 where
  pub is : program s ≡ p
  pub machine : machine_of s ≡ text_machine (unit s) p
  pub laid : IsLaidFor (unit s) p (laid_of s)
  pub begins : StandsFor s (begin_side (text_machine (unit s) p) (kept_at (laid_of s).leaves kept))

-- there is a program of this name in the unit, and the side is opened for it
pub record IsOpened (pous : List PouText) (name : List ℕ) (kept : List (Option Value)) (s : TextSide) : Type 0 where
  pub of : unit s ≡ pous
  pub there : is_some (program_named name pous) ≡ true
  pub opens : (p : PouText) → program_named name pous ≡ Some p → OpensFor p kept s
  pub time : last_of s ≡ 0
