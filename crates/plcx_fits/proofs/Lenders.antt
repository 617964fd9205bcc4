-- What is lent to an in-out: an inVariable that holds a variable which can be written.
use Rattle.std.proofs.Common.{◌≡◌, ℕ, Bool, true, List, [], Option, Some, None, slice_get, refl, sym, ap, ◌∙◌, subst}
use Rattle.plcx_types.specs.declared.ty.Ty.{Ty}
use Rattle.plcx_meaning.specs.Fits.{IsVariable, CanBeWritten}
use Rattle.plcx_meaning.specs.Layout as layout
use Rattle.plcx_model.specs.declared.body.Mods.{Mods}
use Rattle.plcx_model.specs.declared.body.Kind.{Kind}
use Rattle.plcx_model.specs.declared.body.Kind.TheVariants as kind
use Rattle.plcx_model.specs.declared.body.BodyElement.{BodyElement}
use Rattle.plcx_model.specs.declared.plan.Links.{Links}
use Rattle.plcx_model.specs.declared.plan.Types.{Types}
use Rattle.plcx_model.specs.declared.plan.Plan.{Plan}
use Rattle.plcx_model.specs.declared.project.Pou.{Pou}
use Rattle.plcx_model.specs.declared.project.Project.{Project}
use Rattle.plcx_model.specs.declared.source.Source.{Source}
use Rattle.plcx_model.specs.Sound.{Sound}
use Rattle.plcx_rules.specs.declared.form.Form.{Form}
use Rattle.plcx_rules.specs.Forms.{gives_held, text_gives, form_of}
use Rattle.plcx_rules.specs.Helds.{Held, OfLiteral, OfVariable, OfInstance, OfOutput, text_held, is_target}
use Rattle.plcx_rules.specs.LinkRules.{lends}
use Rattle.plcx_rules.specs.Types.{Sheet, output_among, AtOutput, HasType as Has, DeclaredOutput}
use Rattle.plcx_view.specs.Blocks.{lent_by}
use Rattle.plcx_view.specs.Operands.{target_by}
use Rattle.plcx_fits.proofs.Agreed.{Keeps, form_is}
use Rattle.plcx_fits.proofs.Held.{held_is}
use Rattle.plcx_fits.proofs.Named.{shown_variables, variable_there, written_there}
use Rattle.plcx_fits.proofs.Places.{sheet}

module _ (project : Project) (links : Links) (types : Types) (plan : Plan) (sound : Sound project) (p : Pou) (tys : List Ty) (marks : List Bool) (k : ℕ) (keeps : Keeps project.pous p tys marks k) where
  abbrev pous : List Pou
  pous = project.pous

  abbrev sh : Sheet
  sh = sheet pous p tys marks

  abbrev vars : List layout.Variable
  vars = shown_variables project links types plan sound p

  -- a variable that is lent
  pub record Lent (f : BodyElement) : Type 0 where
    pub ty : Ty
    pub variable : IsVariable vars (lent_by pous p (Some f)) ty
    pub written : CanBeWritten vars (lent_by pous p (Some f))
    pub typed : (s : Source) → slice_get p.body.elements s.element ≡ Some f → Has sh (AtOutput s) ty

  lent_held : (f : BodyElement) (text : List ℕ) (mods : Mods) → f.kind ≡ kind.In text mods → (h : Option Held) → text_held pous p text ≡ h → is_target h ≡ true → Lent f
  unfolding is_target form_of text_gives
  lent_held f text mods is' None held can = absurd (cc)
  lent_held f text mods is' (Some (OfLiteral l)) held can = absurd (cc)
  lent_held f text mods is' (Some (OfVariable d t)) held can =
      let from = held_is pous p text (OfVariable d t) held in
      let name_is : lent_by pous p (Some f) ≡ d.variable.name = ap (λ (n : Kind). elim n [ kind.In x m ↦ target_by (text_held pous p x) | _ ↦ [] ]) is' ∙ ap target_by held in
      record {
        ty = t;
        variable = subst (λ n. IsVariable vars n t) (sym name_is) (variable_there project links types plan sound p keeps.sound from.0 d t from.1 from.2);
        written = subst (λ n. CanBeWritten vars n) (sym name_is) (written_there project links types plan sound p keeps.sound from.0 d from.1 can);
        typed = λ s at. DeclaredOutput (ap (λ (x : Form). (output_among x.outputs s.pin).gives) (form_is pous p tys marks s.element f at ∙ ap (form_of pous p) is') ∙ ap gives_held held);
      }
  lent_held f text mods is' (Some (OfInstance d)) held can = absurd (cc)
  lent_held f text mods is' (Some (OfOutput d o)) held can = absurd (cc)

  pub lent_of : (f : BodyElement) (n : Kind) → f.kind ≡ n → lends pous p n ≡ true → Lent f
  unfolding lends
  lent_of f kind.Skipped is' h = absurd (cc)
  lent_of f kind.LeftRail is' h = absurd (cc)
  lent_of f (kind.RightRail input) is' h = absurd (cc)
  lent_of f (kind.Contact input text mods) is' h = absurd (cc)
  lent_of f (kind.Coil input text mods) is' h = absurd (cc)
  lent_of f (kind.In text mods) is' h = lent_held f text mods is' (text_held pous p text) refl h
  lent_of f (kind.Out input text mods) is' h = absurd (cc)
  lent_of f (kind.Block a b i j o) is' h = absurd (cc)
  lent_of f (kind.Connector name input) is' h = absurd (cc)
  lent_of f (kind.Continuation name) is' h = absurd (cc)
  lent_of f (kind.Label name) is' h = absurd (cc)
  lent_of f (kind.Jump label input) is' h = absurd (cc)
  lent_of f (kind.Return input) is' h = absurd (cc)
