-- Parts of what a function does.
use Rattle.std.specs.Prelude.{ℕ, Bool, List, [], ◌∷◌, ◌++◌, codes, pos}
use Rattle.plcx_types.specs.declared.ty.Ty.{Ty}
use Rattle.plcx_funcs.specs.Applied.{value}
use Rattle.plcx_meaning.specs.Diagram.{Enable, eno_negated}
use Rattle.plcx_steps.specs.declared.program.Source.TheVariants.{Constant, Wire}
use Rattle.plcx_steps.specs.declared.program.Action.{Action}
use Rattle.plcx_steps.specs.declared.program.Action.TheVariants.{Fix}
use Rattle.plcx_steps.specs.declared.program.Step.{Step}
use Rattle.plcx_steps.specs.declared.program.Step.TheVariants.{Act, Skip}
use Rattle.plcx_numbered.specs.Prepared.{Numbering, off, eno_steps, not_steps}

-- where EN is FALSE the action is passed over, and the wire gets the default of its type
abbrev pub guarded : Numbering → Action → ℕ → Ty → List Step
guarded c action out t = Skip (Wire c.spare) 2 ∷ Act action ∷ Skip off 1 ∷ Act (Fix (Constant (value t (pos 0))) out) ∷ []

-- ENO, and both outputs under NOT where they are negated
abbrev pub answered : Numbering → ℕ → Enable → (negated : Bool) → List Step
answered c id enable negated = eno_steps c id enable ++ (not_steps (eno_negated enable) (c.wire id (codes "ENO")) ++ not_steps negated (c.wire id (codes "OUT")))
