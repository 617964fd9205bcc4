-- What is prepared of a ready unit can be run.
use Rattle.std.proofs.Common.{◌≡◌, ℕ, zero, suc, ◌<◌, List, [], ◌∷◌, length, map, Some, refl, sym, ap, ◌∙◌, subst, arith}
use Rattle.std.specs.Prelude.{slice_get}
use Rattle.std.proofs.lemmas.Option.{same_Some, slice_get_within}
use Rattle.plcx_types.specs.Lists.{Each}
use Rattle.plcx_meaning.specs.Tree.{PouText}
use Rattle.plcx_meaning.specs.Ready.{PouIsReady, IsReady}
use Rattle.plcx_meaning.proofs.Lists.{each_at}
use Rattle.plcx_steps.specs.declared.program.Body.{Body}
use Rattle.plcx_steps.specs.declared.program.Program.{Program}
use Rattle.plcx_steps.specs.Typed.{Shape}
use Rattle.plcx_numbered.proofs.Numbers.{there_at}
use Rattle.plcx_runnable.proofs.Lists.{mapped_from, each_get}
use Rattle.plcx_text_steps.specs.declared.text.Line.{Line}
use Rattle.plcx_text_steps.specs.declared.text.Section.{Section}
use Rattle.plcx_text_steps.specs.declared.text.Entry.{Entry}
use Rattle.plcx_text_steps.specs.declared.text.Text.{Text}
use Rattle.plcx_text_steps.specs.Sound.{IsSoundLine, AreSoundLines, IsSound}
use Rattle.plcx_text_steps.specs.Typed.{IsTypedLine, AreTypedLines, IsTyped}
use Rattle.plcx_text_numbered.specs.Statements.{PouPlan, IsPou, IsPrepared}
use Rattle.plcx_text_numbered.specs.Numbers.{plan_of, plans_of}
use Rattle.plcx_text_numbered.specs.Texts.{IsPouOf, IsOwned, IsTextOf}
use Rattle.plcx_text_runnable.specs.Shapes.{types_of, shapes_of}
use Rattle.plcx_text_runnable.proofs.Grounds.{Ground}
use Rattle.plcx_text_runnable.proofs.Rights.{pou_right}
use Rattle.plcx_text_runnable.proofs.Lines.{Good}
use Rattle.plcx_text_runnable.proofs.Statements.{pou_runs}

module _ (unit : List PouText) (ready : IsReady unit) (program : Program) (text : Text) (whole : IsTextOf unit program text) where
  -- a POU of the unit
  abbrev pub ground : (k : ℕ) (p : PouText) → slice_get unit k ≡ Some p → IsPouOf unit program text k p → Ground
  ground k p there at = record {
    unit = unit;
    ready = ready;
    program = program;
    text = text;
    whole = whole;
    number = k;
    pou = p;
    own = each_at (PouIsReady unit) unit p ready.pous (there_at unit k p there);
    at = at;
  }

  -- the numbers are right
  pub text_right : IsPrepared unit (plans_of unit) program text
  text_right = record { each = each }
    where
      each : (k : ℕ) (own : PouPlan) → slice_get (plans_of unit) k ≡ Some own → IsPou unit (plans_of unit) program text k own
      each k own h =
          let p = mapped_from (plan_of unit) unit k own h in
          subst (IsPou unit (plans_of unit) program text k) p.2 (pou_right (ground k p.0 p.1 (whole.pous k p.0 p.1)))

  -- and lie where they have to
  section_good : (j : ℕ) (s : Section) (there : slice_get text.sections.items j ≡ Some s) → let o = whole.owned j s there in Each (Good (ground s.pou o.p o.is o.pou) j) s.lines.items
  section_good j s there = let o = whole.owned j s there in pou_runs (ground s.pou o.p o.is o.pou) j s o.from o.to there

  pub text_sound : IsSound program text
  text_sound = record { sections = sections; wires = wires }
    where
      sections : (j : ℕ) (s : Section) (body : Body) → slice_get text.sections.items j ≡ Some s → slice_get program.bodies.items s.pou ≡ Some body → AreSoundLines program text j s.pou body s.lines.items
      sections j s body there is i l at =
          let o = whole.owned j s there in
          let same : o.pou.body ≡ body = same_Some o.pou.body body (sym o.pou.is_body ∙ is) in
          subst (λ b. IsSoundLine program text j s.pou b l) same (each_get (Good (ground s.pou o.p o.is o.pou) j) s.lines.items (section_good j s there) i l at).1

      wires : (k : ℕ) (e : Entry) (body : Body) → slice_get text.entries.items k ≡ Some e → slice_get program.bodies.items k ≡ Some body → length e.wires.items ≡ body.width
      wires k e body there is =
          let p = slice_get_within program.bodies.items k body is in
          let low = subst (λ n. k < n) whole.bodies p in
          let q = pou_at unit k low in
          let at = whole.pous k q.0 q.1 in
          ap (λ (x : Entry). length x.wires.items) (sym (same_Some at.entry e (sym at.is_entry ∙ there))) ∙ sym at.width ∙ ap (λ (b : Body). b.width) (same_Some at.body body (sym at.is_body ∙ is))
        where
          pou_at : (ps : List PouText) (m : ℕ) → m < length ps → (q : PouText) × (slice_get ps m ≡ Some q)
          pou_at [] m low = absurd (omega arith)
          pou_at (q ∷ qs) zero low = (q, refl)
          pou_at (q ∷ qs) (suc m) low = pou_at qs m (omega arith)

  -- and each place is used at its type
  pub text_typed : IsTyped (shapes_of unit) program text
  text_typed = record { sections = sections }
    where
      sections : (j : ℕ) (s : Section) (shape : Shape) (e : Entry) → slice_get text.sections.items j ≡ Some s → slice_get (shapes_of unit) s.pou ≡ Some shape → slice_get text.entries.items s.pou ≡ Some e
          → AreTypedLines (shapes_of unit) program shape e.wires.items s.lines.items
      sections j s shape e there is begins i l at =
          let o = whole.owned j s there in
          let p = mapped_from (types_of unit) unit s.pou shape is in
          let same : types_of unit o.p ≡ shape = ap (types_of unit) (same_Some o.p p.0 (sym o.is ∙ p.1)) ∙ p.2 in
          let wires : o.pou.entry.wires.items ≡ e.wires.items = ap (λ (x : Entry). x.wires.items) (same_Some o.pou.entry e (sym o.pou.is_entry ∙ begins)) in
          subst (λ t. IsTypedLine (shapes_of unit) program t e.wires.items l) same
          (subst (λ ws. IsTypedLine (shapes_of unit) program (types_of unit o.p) ws l) wires (each_get (Good (ground s.pou o.p o.is o.pou) j) s.lines.items (section_good j s there) i l at).0)
