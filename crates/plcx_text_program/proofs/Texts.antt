-- What is prepared of all POUs, with the bodies in their places, is prepared of the unit.
use Rattle.std.proofs.Common.{◌≡◌, List, length, map, sym, ◌∙◌, subst}
use Rattle.std.proofs.lemmas.List.{length-map}
use Rattle.plcx_meaning.specs.Tree as tree
use Rattle.plcx_meaning.specs.Ready.{IsReady}
use Rattle.plcx_st.specs.declared.tree.PouText.{PouText}
use Rattle.plcx_st.specs.Meant.{pou_meant}
use Rattle.plcx_steps.specs.declared.program.Body.{Body}
use Rattle.plcx_steps.specs.declared.program.Program.{Program}
use Rattle.plcx_steps.specs.Sound.{levels}
use Rattle.plcx_bodies.specs.Framed.{AreFramed}
use Rattle.plcx_text_steps.specs.declared.text.Text.{Text}
use Rattle.plcx_text_numbered.specs.Texts.{IsTextOf}
use Rattle.plcx_text_order.specs.Made.{Made, Reaches}
use Rattle.plcx_text_order.specs.Laws.{AreBare, HasMade, OrderedIsText}

module _ (unit : List tree.PouText) (pous : List PouText) (same : map pou_meant pous ≡ unit) (m : Made) (reached : Reaches (map pou_meant pous) levels 0 m) where
  -- as many entries as POUs
  pub entries_long : length m.entries ≡ length pous
  entries_long = reached.count ∙ length-map pous pou_meant

  pub text_is : OrderedIsText → IsReady unit → (program : Program) (text : Text) → HasMade program text m → (bare bodies : List Body) → AreBare (map pou_meant pous) m.entries bare → AreFramed bare bodies → program.bodies.items ≡ bodies
      → IsTextOf unit program text
  text_is law ready program text has bare bodies are framed its =
      law unit ready m (subst (λ (u : List tree.PouText). Reaches u levels 0 m) same reached) program text has bare
      (subst (λ (u : List tree.PouText). AreBare u m.entries bare) same are) (subst (AreFramed bare) (sym its) framed)
