-- What is wired to EN suits it, and what an input of a block that has its type reads.
use Rattle.std.proofs.Common.{◌≡◌, ℕ, zero, suc, ◌≤◌, Bool, true, cond, not, List, [], ◌∷◌, length, Option, Some, None, refl, sym, ap, ◌∙◌, subst, arith}
use Rattle.std.specs.Prelude.{option_map, nat_eq}
use Rattle.std.specs.List.{Contains, find, zip}
use Rattle.std.proofs.lemmas.Bool.{and_parts}
use Rattle.plcx_types.specs.declared.ty.Ty.{Ty}
use Rattle.plcx_types.specs.declared.ty.Ty.TheVariants as ty
use Rattle.plcx_types.specs.Lists.{Each}
use Rattle.plcx_funcs.specs.declared.pins.Class.TheVariants as class
use Rattle.plcx_meaning.specs.Diagram as diagram
use Rattle.plcx_meaning.specs.Diagram.{Port, Link, Enable, links_of, enable_links}
use Rattle.plcx_meaning.specs.Fits.{Standing, LinkFits, EnableFits}
use Rattle.plcx_meaning.proofs.Lists.{contains_first, each_at}
use Rattle.plcx_model.specs.declared.body.PinIn.{PinIn}
use Rattle.plcx_model.specs.declared.body.PinOut.{PinOut}
use Rattle.plcx_model.specs.declared.body.Kind.TheVariants as kind
use Rattle.plcx_model.specs.declared.body.BodyElement.{BodyElement}
use Rattle.plcx_model.specs.declared.project.Pou.{Pou}
use Rattle.plcx_model.specs.Sound.{PinsAreFew}
use Rattle.plcx_rules.specs.declared.callee.Callee.{Callee}
use Rattle.plcx_rules.specs.declared.form.Pin.{Pin}
use Rattle.plcx_rules.specs.Callees.{enable, inputs_of, callee_named, formal_named, input_count, is_enable, is_connected}
use Rattle.plcx_rules.specs.Forms.{class_of, input_class_of}
use Rattle.plcx_rules.specs.Types.{AtPin, HasType}
use Rattle.plcx_view.specs.Blocks.{Wired, wired_link, enables, enable_of}
use Rattle.plcx_view.specs.Kinds.{kind_of}
use Rattle.plcx_fits.proofs.Agreed.{Keeps, pin_fixed}
use Rattle.plcx_fits.proofs.Given.{AreGiven, standing, IsBefore, reads, link_fits, link_has}
use Rattle.plcx_fits.proofs.Lists.{each_place}
use Rattle.plcx_fits.proofs.Places.{sheet, ElementStands}
use Rattle.plcx_fits.proofs.Ports.{found_one}
use Rattle.plcx_fits.proofs.Wired.{WiredStands, input_form, pins_of_block}

-- a connected pin has a connection
pub connected : (i : PinIn) → is_connected i ≡ true → 1 ≤ length i.input
connected i h = some (length i.input) h
  where
    some : (n : ℕ) → not (nat_eq n 0) ≡ true → 1 ≤ n
    some zero k = absurd (cc)
    some (suc n) k = omega arith

module _ (pous : List Pou) (p : Pou) (tys : List Ty) (marks : List Bool) (dia : diagram.Project) (networks : List (List ℕ)) (k : ℕ) (keeps : Keeps pous p tys marks k) (given : AreGiven pous p tys marks) (D : List (ℕ × Port))
    (u : ℕ) (e : BodyElement) (st : ElementStands pous p tys marks u e) (before : IsBefore pous p tys marks dia networks u D) (type_name : List ℕ) (instance : Option (List ℕ)) (inputs in_outs : List PinIn) (outputs : List PinOut)
    (is : e.kind ≡ kind.Block type_name instance inputs in_outs outputs) (c : Callee) (called : callee_named pous type_name ≡ Some c) where
  abbrev pub at : Standing
  at = standing pous p tys marks dia networks D

  abbrev pub form : PinIn → Pin
  form = input_form pous p tys marks k keeps u e st type_name instance inputs in_outs outputs is c called

  abbrev pub links : List Link
  links = links_of (kind_of pous p st.pins (kind.Block type_name instance inputs in_outs outputs))

  abbrev pub Stood : Wired → Type 0
  Stood = WiredStands pous p tys marks u form inputs

  few_inputs : Each (λ (i : PinIn). length i.input ≤ 64) inputs
  few_inputs = (subst PinsAreFew is (each_place (λ (x : BodyElement). PinsAreFew x.kind) p.body.elements u e st.element keeps.sound.body.pins)).2

  -- what stands at an input that is connected and has its type
  pub input_fits : (w : Wired) (s : Stood w) → is_connected w.0 ≡ true → HasType (sheet pous p tys marks) (AtPin s.stand.number) w.1.ty → Contains links (wired_link pous p w) → LinkFits at (wired_link pous p w)
  input_fits w s some has there =
      let one = connected w.0 some in
      let few = each_at (λ (i : PinIn). length i.input ≤ 64) inputs w.0 few_inputs s.there in
      let count = s.count in
      let contained = subst (λ n. Contains (links_of (kind_of pous p st.pins n)) (wired_link pous p w)) (sym is) there in
      link_fits pous p tys marks dia networks k keeps given D u e st.element before (form w.0) w.1 s.stand has (reads pous p tys marks dia networks u e st w.0.mods.negated w.1 contained) w.0.mods.negated (λ h. h)
      (omega (arith, one, count)) (omega (arith, few, count))

  -- EN is BOOL
  enable_class : (i : PinIn) → is_enable i ≡ true → input_class_of pous (Some c) inputs i ≡ Some (class.Fixed ty.Bool)
  enable_class i h = ap (λ b. class_of (cond b (Some enable) (formal_named i.formal (inputs_of pous c (input_count inputs))))) h

  pub enable_fits : ((link : Link) → Contains (enable_links (enable_of pous p (zip inputs st.pins) outputs)) link → Contains links link) → EnableFits at (enable_of pous p (zip inputs st.pins) outputs)
  enable_fits among link is_link = by (find (λ (w : Wired). enables w.0) (zip inputs st.pins)) refl is_link
    where
      stood : Each Stood (zip inputs st.pins)
      stood = (pins_of_block pous p tys marks k keeps u e st type_name instance inputs in_outs outputs is c called).inputs_stand

      by : (o : Option Wired) → find (λ (w : Wired). enables w.0) (zip inputs st.pins) ≡ o → option_map (wired_link pous p) o ≡ Some link → LinkFits at link × (link.ty ≡ ty.Bool)
      by None found e' = absurd (cc)
      by (Some w) found e' =
          let one = found_one Stood (λ (x : Wired). enables x.0) (zip inputs st.pins) w stood found in
          let parts = and_parts (is_enable w.0) (is_connected w.0) one.1 in
          let typed = pin_fixed pous p tys marks k keeps u e st.element (form w.0) w.1 one.0.stand ty.Bool (enable_class w.0 parts.0) in
          let has = subst (λ t. HasType (sheet pous p tys marks) (AtPin one.0.stand.number) t) (sym typed.0) typed.1 in
          let own : wired_link pous p w ≡ link = cc in
          let there : Contains (enable_links (enable_of pous p (zip inputs st.pins) outputs)) (wired_link pous p w) =
          subst (λ (r : Option Wired). Contains (elim (option_map (wired_link pous p) r) [ Some l ↦ l ∷ [] | None ↦ [] ]) (wired_link pous p w)) (sym found) (contains_first (wired_link pous p w) []) in (
            subst (LinkFits at) own (input_fits w one.0 parts.1 has (among (wired_link pous p w) there)),
            ap (λ (l : Link). l.ty) (sym own) ∙ link_has pous p w.0.mods.negated w.1 ∙ typed.0,
          )
