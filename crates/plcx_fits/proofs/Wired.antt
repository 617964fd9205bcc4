-- The listed inputs and in-outs of a block with their pins.
use Rattle.std.proofs.Common.{◌≡◌, ℕ, ◌≤◌, Bool, true, false, cond, List, [], ◌∷◌, ◌++◌, map, length, drop, Option, Some, refl, sym, ap, ◌∙◌, subst, arith}
use Rattle.std.specs.List.{Contains, filter, zip}
use Rattle.plcx_types.specs.declared.ty.Ty.{Ty}
use Rattle.plcx_types.specs.Lists.{Each}
use Rattle.plcx_meaning.proofs.Lists.{contains_first, contains_later}
use Rattle.plcx_meaning.proofs.Lookups.{map_append}
use Rattle.plcx_model.specs.declared.body.PinIn.{PinIn}
use Rattle.plcx_model.specs.declared.body.PinOut.{PinOut}
use Rattle.plcx_model.specs.declared.body.Kind.TheVariants as kind
use Rattle.plcx_model.specs.declared.body.BodyElement.{BodyElement}
use Rattle.plcx_model.specs.declared.project.Pou.{Pou}
use Rattle.plcx_rules.specs.declared.callee.Callee.{Callee}
use Rattle.plcx_rules.specs.declared.form.Pin.{Pin}
use Rattle.plcx_rules.specs.Callees.{callee_named}
use Rattle.plcx_rules.specs.Forms.{pin as form_pin}
use Rattle.plcx_rules.specs.Forms.{input_class_of, in_out_class_of, block_pins, element_pins}
use Rattle.plcx_rules.specs.Laws.{source_counts}
use Rattle.plcx_rules.specs.Sources.{sources_at, pins_with_sources}
use Rattle.plcx_model.specs.declared.source.Source.{Source}
use Rattle.plcx_view.specs.Blocks.{Wired}
use Rattle.plcx_view.specs.Pins.{Feed}
use Rattle.plcx_view.specs.Pins as view
use Rattle.plcx_fits.proofs.Agreed.{Keeps}
use Rattle.plcx_fits.proofs.Along.{Along}
use Rattle.plcx_fits.proofs.Lists.{each_place, length_mapped}
use Rattle.plcx_fits.proofs.Places.{sources_of, Stands, ElementStands}

-- how many sources each pin has
abbrev pub counts_of : List view.Pin → List ℕ
counts_of pins = map length (map sources_of pins)

-- what is among some passes their test
pub each_filter : {A : Type 0} (P : A → Type 0) (test : A → Bool) (xs : List A) → Each P xs → Each (λ (x : A). P x × (test x ≡ true)) (filter test xs)
each_filter P test [] all = tt
each_filter P test (x ∷ xs) all = by (test x) refl (each_filter P test xs all.1)
  where
    by : (b : Bool) → test x ≡ b → Each (λ (y : _). P y × (test y ≡ true)) (filter test xs) → Each (λ (y : _). P y × (test y ≡ true)) (cond b (x ∷ filter test xs) (filter test xs))
    by true e rest = ((all.0, e), rest)
    by false e rest = rest

module _ (pous : List Pou) (p : Pou) (tys : List Ty) (marks : List Bool) where
  -- a listed pin of the element at a place, of a form that its listing tells
  pub record WiredStands (u : ℕ) (form : PinIn → Pin) (listed : List PinIn) (w : Wired) : Type 0 where
    pub stand : Stands pous p tys marks u (form w.0) w.1
    pub there : Contains listed w.0
    pub count : length w.1.feeds ≡ length w.0.input
    pub sources : sources_of w.1 ≡ sources_at p.body.elements w.0.input

  -- some listed pins with the first of these pins, and the others
  record Zipped (u : ℕ) (form : PinIn → Pin) (all is : List PinIn) (rest : List Pin) (more : List ℕ) (others : List (List Source)) (pins : List view.Pin) : Type 0 where
    each : Each (WiredStands u form all) (zip is pins)
    along : Along (Stands pous p tys marks u) rest (drop (length is) pins)
    left : counts_of (drop (length is) pins) ≡ more
    behind : map sources_of (drop (length is) pins) ≡ others
    long : length is ≤ length pins

  zipped : (u : ℕ) (form : PinIn → Pin) (all is : List PinIn) (rest : List Pin) (more : List ℕ) (others : List (List Source)) (pins : List view.Pin) → ((i : PinIn) → Contains is i → Contains all i) → Along (Stands pous p tys marks u) (map form is ++ rest) pins
      → counts_of pins ≡ map length (map (λ (i : PinIn). i.input) is) ++ more → map sources_of pins ≡ map (sources_at p.body.elements) (map (λ (i : PinIn). i.input) is) ++ others → Zipped u form all is rest more others pins
  zipped u form all [] rest more others pins among al counts ss = record { each = tt; along = al; left = counts; behind = ss; long = omega arith }
  zipped u form all (i ∷ is) rest more others [] among al counts ss = absurd al
  zipped u form all (i ∷ is) rest more others (pin ∷ pins) among al counts ss =
      let first : length (sources_of pin) ≡ length i.input = cc in
      let later : counts_of pins ≡ map length (map (λ (j : PinIn). j.input) is) ++ more = cc in
      let own : sources_of pin ≡ sources_at p.body.elements i.input = cc in
      let behind : map sources_of pins ≡ map (sources_at p.body.elements) (map (λ (j : PinIn). j.input) is) ++ others = cc in
      let r = zipped u form all is rest more others pins (λ j h. among j (contains_later i is j h)) al.1 later behind in
      let long = r.long in
      record {
        each = (record { stand = al.0; there = among i (contains_first i is); count = sym (length_mapped (λ (f : Feed). f.0) pin.feeds) ∙ first; sources = own }, r.each);
        along = r.along;
        left = r.left;
        behind = r.behind;
        long = omega (arith, long);
      }

  module _ (k : ℕ) (keeps : Keeps pous p tys marks k) (u : ℕ) (e : BodyElement) (st : ElementStands pous p tys marks u e) (type_name : List ℕ) (instance : Option (List ℕ)) (inputs in_outs : List PinIn) (outputs : List PinOut)
      (is : e.kind ≡ kind.Block type_name instance inputs in_outs outputs) (c : Callee) (called : callee_named pous type_name ≡ Some c) where
    abbrev pub input_form : PinIn → Pin
    input_form i = form_pin u (input_class_of pous (Some c) inputs i) i.mods.negated

    abbrev pub in_out_form : PinIn → Pin
    in_out_form i = form_pin u (in_out_class_of pous (Some c) i) i.mods.negated

    -- the listed pins of a block, each with its own
    pub record PinsOf : Type 0 where
      pub inputs_stand : Each (WiredStands u input_form inputs) (zip inputs st.pins)
      pub in_outs_stand : Each (WiredStands u in_out_form in_outs) (zip in_outs (drop (length inputs) st.pins))
      pub long : length inputs ≤ length st.pins
      pub more : length in_outs ≤ length (drop (length inputs) st.pins)

    forms_are : element_pins pous p u (kind.Block type_name instance inputs in_outs outputs) ≡ map input_form inputs ++ map in_out_form in_outs
    unfolding element_pins block_pins
    forms_are = ap (λ (o : Option Callee). map (λ (i : PinIn). form_pin u (input_class_of pous o inputs i) i.mods.negated) inputs ++ map (λ (i : PinIn). form_pin u (in_out_class_of pous o i) i.mods.negated) in_outs) called

    nothing_more : (xs : List Pin) → xs ++ [] ≡ xs
    nothing_more [] = refl
    nothing_more (x ∷ xs) = ap (λ l. x ∷ l) (nothing_more xs)

    no_more : (xs : List ℕ) → xs ++ [] ≡ xs
    no_more [] = refl
    no_more (x ∷ xs) = ap (λ l. x ∷ l) (no_more xs)

    no_sources : (xs : List (List Source)) → xs ++ [] ≡ xs
    no_sources [] = refl
    no_sources (x ∷ xs) = ap (λ l. x ∷ l) (no_sources xs)

    all_sources : map sources_of st.pins ≡ map (sources_at p.body.elements) (map (λ (i : PinIn). i.input) inputs) ++ map (sources_at p.body.elements) (map (λ (i : PinIn). i.input) in_outs)
    unfolding pins_with_sources
    all_sources = st.sources ∙ ap (pins_with_sources p.body.elements) is ∙ map_append (sources_at p.body.elements) (map (λ (i : PinIn). i.input) inputs) (map (λ (i : PinIn). i.input) in_outs)

    pub pins_of_block : PinsOf
    pins_of_block =
        let al : Along (Stands pous p tys marks u) (map input_form inputs ++ map in_out_form in_outs) st.pins =
        subst (λ fs. Along (Stands pous p tys marks u) fs st.pins) (ap (element_pins pous p u) is ∙ forms_are) st.stand in
        let counts : counts_of st.pins ≡ map length (map (λ (i : PinIn). i.input) inputs) ++ map length (map (λ (i : PinIn). i.input) in_outs) =
        ap (map length) st.sources ∙ each_place _ p.body.elements u e st.element keeps.counted ∙ ap source_counts is ∙ map_append length (map (λ (i : PinIn). i.input) inputs) (map (λ (i : PinIn). i.input) in_outs) in
        let a = zipped u input_form inputs inputs (map in_out_form in_outs) (map length (map (λ (i : PinIn). i.input) in_outs)) (map (sources_at p.body.elements) (map (λ (i : PinIn). i.input) in_outs)) st.pins (λ i h. h) al counts all_sources in
        let b = zipped u in_out_form in_outs in_outs [] [] [] (drop (length inputs) st.pins) (λ i h. h)
        (subst (λ fs. Along (Stands pous p tys marks u) fs (drop (length inputs) st.pins)) (sym (nothing_more (map in_out_form in_outs))) a.along)
        (a.left ∙ sym (no_more (map length (map (λ (i : PinIn). i.input) in_outs))))
        (a.behind ∙ sym (no_sources (map (sources_at p.body.elements) (map (λ (i : PinIn). i.input) in_outs)))) in
        record { inputs_stand = a.each; in_outs_stand = b.each; long = a.long; more = b.long }
