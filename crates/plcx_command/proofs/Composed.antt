-- The passes of the compiler, one after another.
use Rattle.std.proofs.Common.{◌≡◌, ℕ, List, ◌≤◌, ap, sym, ◌∙◌, subst}
use Rattle.plcx_meaning.specs.Diagram as diagram
use Rattle.plcx_meaning.specs.Templates.{unit_of}
use Rattle.plcx_meaning.specs.Tree.{PouText}
use Rattle.plcx_meaning.specs.Ready.{IsReady}
use Rattle.plcx_meaning.specs.Same.{Behaves}
use Rattle.plcx_model.specs.declared.plan.Links.{Links}
use Rattle.plcx_model.specs.declared.plan.Types.{Types}
use Rattle.plcx_model.specs.declared.plan.Plan.{Plan}
use Rattle.plcx_model.specs.declared.project.Project.{Project}
use Rattle.plcx_st.specs.declared.tree.Unit.{Unit}
use Rattle.plcx_st.specs.Grammar.{limit}
use Rattle.plcx_st.specs.Stands.{StandsForUnit}
use Rattle.plcx_st.specs.Meant.{meant}
use Rattle.plcx_st.specs.Print.{printed}
use Rattle.plcx_st.specs.InRange.{UnitInRange}
use Rattle.plcx_st.specs.Fitting.{UnitFits}
use Rattle.plcx_view.specs.Checked.{IsChecked}
use Rattle.plcx_view.specs.Diagrams.{diagrams_of}
use Rattle.plcx_xml.specs.declared.tree.Element.{Element}
use Rattle.plcx_xml.specs.StandsForTree.{IsTreeOf}
use Rattle.plcx_profile.specs.Profile.{project_in}
use Rattle.plcx_command.specs.Compiled.{HasDiagrams, IsCompiled, IsTextOf, IsReadBack}

-- what is printed of a unit that means the text of diagrams
module _
    (one_unit : (bytes : List ℕ) (u v : Unit) (c d : ℕ) → StandsForUnit bytes u c → StandsForUnit bytes v d → u ≡ v)
    (again : (unit : List PouText) → UnitInRange unit → UnitFits unit → (v : Unit) × (d : ℕ) × (d ≤ limit) × StandsForUnit (printed unit) v d × (meant v ≡ unit))
  where
    read_back : (unit : List PouText) (diagrams : diagram.Project) → UnitInRange unit → UnitFits unit → IsReady unit → Behaves diagrams unit → IsReadBack (printed unit) diagrams
    read_back unit diagrams range fits ready behaves =
        let found = again unit range fits in
        record {
          unit = found.0;
          depth = found.1;
          stands = found.3;
          shallow = found.2;
          only = λ other deep h. one_unit (printed unit) other found.0 deep found.1 h found.3;
          ready = subst IsReady (sym found.4) ready;
          behaves = subst (Behaves diagrams) (sym found.4) behaves;
        }

    pub text_made : (diagrams : diagram.Project) (unit : List PouText) (text : List ℕ) → unit ≡ unit_of diagrams → UnitInRange unit → UnitFits unit → IsReady unit → Behaves diagrams unit
        → text ≡ printed unit → IsTextOf diagrams text
    text_made diagrams unit text same range fits ready behaves is = record {
      text_is = is ∙ ap printed same;
      read_back = subst (λ t. IsReadBack t diagrams) (sym is) (read_back unit diagrams range fits ready behaves);
    }

-- bytes have one list of diagrams
pub one_diagrams : (one_root : (bytes : List ℕ) (a b : Element) → IsTreeOf bytes a → IsTreeOf bytes b → a ≡ b)
    (one_diagram : (project : Project) (links links' : Links) (types types' : Types) (plan plan' : Plan)
    → IsChecked project links types plan → IsChecked project links' types' plan' → diagrams_of project links types plan ≡ diagrams_of project links' types' plan')
    → (bytes : List ℕ) (a b : diagram.Project) → HasDiagrams bytes a → HasDiagrams bytes b → a ≡ b
one_diagrams one_root one_diagram bytes a b x y =
    let root : x.keeps.root ≡ y.keeps.root = one_root bytes x.keeps.root y.keeps.root x.keeps.tree y.keeps.tree in
    let project : x.project ≡ y.project = x.keeps.stands ∙ ap (λ (r : Element). project_in r) root ∙ sym y.keeps.stands in
    let checked : IsChecked y.project x.links x.types x.plan = subst (λ (p : Project). IsChecked p x.links x.types x.plan) project x.checked in
    x.are
    ∙ ap (λ (p : Project). diagrams_of p x.links x.types x.plan) project
    ∙ one_diagram y.project x.links y.links x.types y.types x.plan y.plan checked y.checked
    ∙ sym y.are

-- and one text
pub one_compiled : (one_diagrams : (bytes : List ℕ) (a b : diagram.Project) → HasDiagrams bytes a → HasDiagrams bytes b → a ≡ b)
    → (bytes a b : List ℕ) → IsCompiled bytes a → IsCompiled bytes b → a ≡ b
one_compiled same bytes a b x y =
    x.text_of.text_is ∙ ap (λ (ds : diagram.Project). printed (unit_of ds)) (same bytes x.diagrams y.diagrams x.has y.has) ∙ sym y.text_of.text_is
