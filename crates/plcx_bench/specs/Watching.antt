-- What a watch hears of `bench N`: the diagram's ten scans.
use Rattle.std.specs.Prelude.{ℕ, List, [], ◌⊎◌}
use Rattle.plcx_meaning.specs.Evaluate.{Heard, diagram_machine}
use Rattle.plcx_meaning.specs.Watch.{heard_over}
use Rattle.plcx_eval.specs.Watching.{IsFront}
use Rattle.plcx_bench.specs.Summary.{Measured, turns, ten_scans, at_first}

-- all that is heard of the diagram
abbrev pub heard_in : {n : ℕ} → Measured n → List Heard
heard_in m = heard_over m.diagrams m.program turns ten_scans (at_first (diagram_machine m.diagrams m.program))

-- a watch has become what it is by all of it
pub record HearsAll (n : ℕ) (Became : List Heard → Type 0) : Type 0 where
  pub measured : Measured n
  pub became : Became (heard_in measured)

-- or by a front of it
pub record HearsFront (n : ℕ) (Became : List Heard → Type 0) : Type 0 where
  pub measured : Measured n
  pub front : List Heard
  pub is_front : IsFront front (heard_in measured)
  pub became : Became front

-- where memory is wanted nothing was heard, or a front
abbrev pub HearsSome : ℕ → (List Heard → Type 0) → Type 0
HearsSome n Became = Became [] ⊎ HearsFront n Became
