-- The programs of a checked project's diagrams.
use Rattle.std.specs.Prelude.{◌≡◌, ℕ, List, Option, Some, filter}
use Rattle.plcx_check.specs.declared.checked.Checked.{Checked}
use Rattle.plcx_meaning.specs.Diagram.{Pou, Project, is_program, program_named}
use Rattle.plcx_meaning.specs.Evaluate.{DiagramState, diagram_machine}
use Rattle.plcx_view.specs.Diagrams.{diagrams_of}
use Rattle.plcx_traced.specs.Programs.{Programs, IsChosen}

-- the POUs that are programs, and what the meaning makes of each
abbrev pub programs_of : Project → Programs Pou DiagramState
programs_of project = record {
  all = filter (λ (p : Pou). is_program p.kind) project;
  named = λ name. program_named name project;
  machine = diagram_machine project;
}

-- the diagrams of a checked project
abbrev pub diagrams_in : Checked → Project
diagrams_in c = diagrams_of c.project c.links c.types c.plan

-- the name is that of a program of the diagrams, which is the one that a run is of
pub record NamesProgram (project : Project) (program : Option (List ℕ)) (name : List ℕ) : Type 0 where
  pub pou : Pou
  pub is : IsChosen (programs_of project) program pou
  pub named : program_named name project ≡ Some pou
