-- That a prepared text is sound and typed are propositions: which section is meant, and where a POU begins, is determined.
use Rattle.std.proofs.Common.{◌≡◌, ℕ, ◌<◌, List, Option, Some, sym, ap, ◌∙◌}
use Rattle.std.specs.Prelude.{slice_get}
use Rattle.std.specs.Coded.{Coded, Coded-set, coded_ℕ, codes, le_prop, ×_prop, Unit-prop}
use Rattle.std.proofs.lemmas.Option.{same_Some}
use Rattle.plcx_types.specs.declared.ty.Ty.{Ty}
use Rattle.plcx_types.specs.Value.{Value}
use Rattle.plcx_steps.specs.declared.program.Body.{Body}
use Rattle.plcx_steps.specs.declared.program.Program.{Program}
use Rattle.plcx_steps.specs.Typed.{Shape}
use Rattle.plcx_runnable.proofs.Propositions.{determined, within_prop, action_prop, enters_prop, typed_action_prop, entry_prop}
use Rattle.plcx_text_steps.specs.declared.text.Line.{Line}
use Rattle.plcx_text_steps.specs.declared.text.Line.TheVariants as line
use Rattle.plcx_text_steps.specs.declared.text.Section.{Section}
use Rattle.plcx_text_steps.specs.declared.text.Entry.{Entry}
use Rattle.plcx_text_steps.specs.declared.text.Text.{Text}
use Rattle.plcx_text_steps.specs.Sound.{HasSection, Begins, AreArms, IsSoundLine, IsSound}
use Rattle.plcx_text_steps.specs.Typed.{IsTypedLine, IsTyped}

code_ty : Coded Ty
code_ty = hlevel codes

code_value : Coded Value
code_value = hlevel (codes, code_ty)

sections_set : IsSet (Option Section)
sections_set = Coded-set (hlevel (codes, code_value))

entries_set : IsSet (Option Entry)
entries_set = Coded-set (hlevel (codes, code_value))

numbers_set : IsSet ℕ
numbers_set = Coded-set coded_ℕ

module _ (text : Text) where
  section_prop : (below pou number : ℕ) → IsProp (HasSection text below pou number)
  section_prop below pou number x y = ap from (determined At (λ s. hlevel (sections_set, numbers_set, le_prop)) (λ a b p q. same_Some a b (sym p.0 ∙ q.0)) (x.section, (x.is, x.part, x.low)) (y.section, (y.is, y.part, y.low)))
    where
      At : Section → Type 0
      At s = (slice_get text.sections.items number ≡ Some s) × (s.pou ≡ pou) × (number < below)

      from : ((s : Section) × At s) → HasSection text below pou number
      from h = record { section = h.0; is = h.1.0; part = h.1.1; low = h.1.2 }

  pub begins_prop : (below pou : ℕ) → IsProp (Begins text below pou)
  begins_prop below pou x y = ap from (determined At (λ e. ×_prop (entries_set _ _) (section_prop below pou e.section)) (λ a b p q. same_Some a b (sym p.0 ∙ q.0)) (x.entry, (x.is, x.section)) (y.entry, (y.is, y.section)))
    where
      At : Entry → Type 0
      At e = (slice_get text.entries.items pou ≡ Some e) × HasSection text below pou e.section

      from : ((e : Entry) × At e) → Begins text below pou
      from h = record { entry = h.0; is = h.1.0; section = h.1.1 }

  arms_prop : (below pou first count : ℕ) → IsProp (AreArms text below pou first count)
  arms_prop below pou first count = hlevel (le_prop, section_prop)

  line_prop : (program : Program) (below pou : ℕ) (body : Body) (l : Line) → IsProp (IsSoundLine program text below pou body l)
  line_prop program below pou body (line.Act a) = action_prop program body body.width a
  line_prop program below pou body (line.Call callee leaves first count) = ×_prop (enters_prop program body callee leaves 0 first count) (begins_prop below callee)
  line_prop program below pou body (line.If test k) = ×_prop (within_prop body body.width test) (section_prop below pou k)
  line_prop program below pou body (line.While before test k) = hlevel (section_prop, within_prop)
  line_prop program below pou body (line.Case source first count) = ×_prop (within_prop body body.width source) (arms_prop below pou first count)

  pub sound_prop : (program : Program) → IsProp (IsSound program text)
  sound_prop program = hlevel (line_prop program, numbers_set)

typed_line_prop : (shapes : List Shape) (program : Program) (shape : Shape) (wires : List Value) (l : Line) → IsProp (IsTypedLine shapes program shape wires l)
typed_line_prop shapes program shape wires (line.Act a) = typed_action_prop shapes program shape wires a
typed_line_prop shapes program shape wires (line.Call pou leaves first count) = entry_prop shapes program shape wires pou leaves 0 first count
typed_line_prop shapes program shape wires (line.If test k) = Unit-prop
typed_line_prop shapes program shape wires (line.While before test k) = Unit-prop
typed_line_prop shapes program shape wires (line.Case source first count) = Unit-prop

pub typed_prop : (shapes : List Shape) (program : Program) (text : Text) → IsProp (IsTyped shapes program text)
typed_prop shapes program text = hlevel (typed_line_prop shapes program)
