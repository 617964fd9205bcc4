-- The diagrams of a file, and its text.
use Rattle.std.specs.Prelude.{◌≡◌, ◌≤◌, ℕ, List}
use Rattle.plcx_meaning.specs.Diagram as diagram
use Rattle.plcx_meaning.specs.Templates.{unit_of}
use Rattle.plcx_meaning.specs.Ready.{IsReady}
use Rattle.plcx_meaning.specs.Same.{Behaves}
use Rattle.plcx_model.specs.declared.plan.Links.{Links}
use Rattle.plcx_model.specs.declared.plan.Types.{Types}
use Rattle.plcx_model.specs.declared.plan.Plan.{Plan}
use Rattle.plcx_model.specs.declared.project.Project.{Project}
use Rattle.plcx_view.specs.Checked.{IsChecked}
use Rattle.plcx_view.specs.Diagrams.{diagrams_of}
use Rattle.plcx_st.specs.declared.tree.Unit.{Unit}
use Rattle.plcx_st.specs.Grammar.{limit}
use Rattle.plcx_st.specs.Stands.{StandsForUnit}
use Rattle.plcx_st.specs.Meant.{meant}
use Rattle.plcx_st.specs.Print.{printed}
use Rattle.plcx_command.specs.Verdict.{Keeps}

-- The bytes break no rule, and these are the diagrams of their project, which its links, types and plan give.
pub record HasDiagrams (bytes : List ℕ) (diagrams : diagram.Project) : Type 0 where
  pub project : Project
  pub keeps : Keeps bytes project
  pub links : Links
  pub types : Types
  pub plan : Plan
  pub checked : IsChecked project links types plan
  pub are : diagrams ≡ diagrams_of project links types plan

-- Read back from its bytes, the text is exactly one unit, which is ready and does what the diagrams do.
pub record IsReadBack (text : List ℕ) (diagrams : diagram.Project) : Type 0 where
  pub unit : Unit
  pub depth : ℕ
  pub stands : StandsForUnit text unit depth
  pub shallow : depth ≤ limit
  pub only : (other : Unit) (deep : ℕ) → StandsForUnit text other deep → other ≡ unit
  pub ready : IsReady (meant unit)
  pub behaves : Behaves diagrams (meant unit)

-- The text is the printed form of these diagrams, and it does what they do.
pub record IsTextOf (diagrams : diagram.Project) (text : List ℕ) : Type 0 where
  pub text_is : text ≡ printed (unit_of diagrams)
  pub read_back : IsReadBack text diagrams

-- The bytes break no rule, and this is the text of their diagrams.
pub record IsCompiled (bytes text : List ℕ) : Type 0 where
  pub diagrams : diagram.Project
  pub has : HasDiagrams bytes diagrams
  pub text_of : IsTextOf diagrams text
