-- What the laws say, each of its subject.
use Rattle.std.specs.Prelude.{◌≡◌, ◌+◌, ◌≤◌, ℕ, [], List, Some, length, map, slice_get}
use Rattle.plcx_types.specs.Value.{Value}
use Rattle.plcx_meaning.specs.Tree as tree
use Rattle.plcx_meaning.specs.Diagram.{Pou, Project}
use Rattle.plcx_meaning.specs.Fits.{ProjectFits}
use Rattle.plcx_steps.specs.declared.program.Body.{Body}
use Rattle.plcx_steps.specs.declared.program.Program.{Program}
use Rattle.plcx_steps.specs.Sound.{IsSound, Stands, levels, origin}
use Rattle.plcx_steps.specs.Typed.{SameTypes, IsTyped}
use Rattle.plcx_steps.specs.Running.{StandsTyped}
use Rattle.plcx_numbered.specs.Programs.{IsProgramOf}
use Rattle.plcx_runnable.specs.Shapes.{types_of}

-- What is prepared of a project has a body for each of its POUs.
abbrev pub BodiesThere : Type 0
BodiesThere = (project : Project) (program : Program) → ∥ IsProgramOf project program ∥₁ → length program.bodies.items ≡ length project

-- What is prepared of a project that fits can be run: its numbers lie within their instances and its calls lead down, and it uses each place at the type
-- that is declared.
abbrev pub PreparedCanRun : Type 0
PreparedCanRun =
    (project : Project) (program : Program) → ∥ ProjectFits project ∥₁ → ∥ IsProgramOf project program ∥₁
    → IsSound program × IsTyped (map (types_of project) project) program

-- A program of such a project stands at the origin, and has its types there, where the values and memories have the types of its leaves and memories,
-- and there are wires and in-outs enough.
abbrev pub ProgramsStand : Type 0
ProgramsStand =
    (project : Project) (program : Program) → ∥ ProjectFits project ∥₁ → ∥ IsProgramOf project program ∥₁
    → (k : ℕ) (p : Pou) (body : Body) → slice_get project k ≡ Some p → p.kind ≡ tree.Program → slice_get program.bodies.items k ≡ Some body
    → (values memories : List Value) → map (λ (v : Value). v.ty) values ≡ (types_of project p).leaves → map (λ (v : Value). v.ty) memories ≡ (types_of project p).memories
    → (wires in_outs : ℕ) → body.first_wire + body.width ≤ wires → body.first_in_out ≤ in_outs
    → Stands program levels k origin [] (length values) (length memories) wires in_outs × StandsTyped program k origin [] values memories

-- Values that keep their places and types have the same types.
abbrev pub TypesStay : Type 0
TypesStay = (xs ys : List Value) → SameTypes xs ys → map (λ (v : Value). v.ty) ys ≡ map (λ (v : Value). v.ty) xs
