-- What the laws say, each of its subject.
use Rattle.std.specs.Prelude.{◌≡◌, ◌<◌, ℕ, pos, [], List, Some, slice_get}
use Rattle.plcx_types.specs.Lists.{Each}
use Rattle.plcx_meaning.specs.Tree as tree
use Rattle.plcx_meaning.specs.Diagram.{Pou, Project}
use Rattle.plcx_meaning.specs.Evaluate.{Heard, DiagramState, program_does}
use Rattle.plcx_meaning.specs.Fits.{ProjectFits}
use Rattle.plcx_steps.specs.declared.program.Program.{Program}
use Rattle.plcx_steps.specs.Numbered.{Numbered, bodies_do}
use Rattle.plcx_steps.specs.Sound.{levels, origin}
use Rattle.plcx_numbered.specs.Agreeing.{IsApart, Agree, Alike, Nothing}
use Rattle.plcx_numbered.specs.Right.{Plan, IsPrepared}
use Rattle.plcx_numbered.specs.Numbers.{shape_of, plans_of}
use Rattle.plcx_numbered.specs.Programs.{IsProgramOf}

-- A scan of a program that is prepared of a project is alike the diagram's: it ends, faults or runs out of turns as that does, and leaves, memories,
-- turns left and what was heard agree behind it as they did before.
abbrev pub ScansAlike : {M : Type 0} → (M → Heard → M) → Type 0
ScansAlike {M} tell =
    (begun : M) (time : ℕ) (project : Project) (plans : List Plan) (program : Program) → IsPrepared project plans program
    → (plan : Plan) (k : ℕ) → slice_get plans k ≡ Some plan → plan.level < levels → plan.in_outs ≡ [] → IsApart plan.shape
    → (d : DiagramState) (n : Numbered M) → Agree plan.shape tell begun d n
    → Alike plan.shape tell begun Nothing (program_does time project plan.pou d) (bodies_do levels tell program (pos time) k origin [] n)

-- A program that is prepared of a project that fits has the right numbers, no POU calls more than 16 levels of blocks, a program has no in-outs, and no leaf
-- and no memory of a POU stands twice.
abbrev pub PreparedRight : Type 0
PreparedRight =
    (project : Project) (program : Program) → ProjectFits project → IsProgramOf project program
    → IsPrepared project (plans_of project) program
    × Each (λ (plan : Plan). plan.level < levels) (plans_of project)
    × Each (λ (plan : Plan). plan.pou.kind ≡ tree.Program → plan.in_outs ≡ []) (plans_of project)
    × Each (λ (plan : Plan). IsApart plan.shape) (plans_of project)

-- So a scan of a program that is prepared of a project that fits is alike the diagram's, wherever their states agree before.
abbrev pub ProgramsAlike : {M : Type 0} → (M → Heard → M) → Type 0
ProgramsAlike {M} tell =
    (project : Project) (program : Program) → ProjectFits project → IsProgramOf project program
    → (k : ℕ) (p : Pou) → slice_get project k ≡ Some p → p.kind ≡ tree.Program
    → (begun : M) (time : ℕ) (d : DiagramState) (n : Numbered M) → Agree (shape_of project p) tell begun d n
    → Alike (shape_of project p) tell begun Nothing (program_does time project p d) (bodies_do levels tell program (pos time) k origin [] n)
