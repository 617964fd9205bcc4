-- The inputs, in-outs and outputs of a call suit what is called.
use Rattle.std.proofs.Common.{◌≡◌, ℕ, suc, ◌≤◌, Bool, true, false, cond, not, ◌&&◌, ◌||◌, List, [], ◌∷◌, ◌++◌, map, length, drop, Option, Some, slice_get, refl, sym, ap, ◌∙◌, subst, arith}
use Rattle.std.specs.Prelude.{is_none, nat_eq}
use Rattle.std.specs.List.{Contains, find, list_any, zip}
use Rattle.std.proofs.lemmas.Bool.{or_parts, eqb-true}
use Rattle.plcx_types.specs.declared.ty.Ty.{Ty}
use Rattle.plcx_types.specs.declared.ty.Ty.TheVariants as ty
use Rattle.plcx_types.specs.Lists.{Each}
use Rattle.plcx_types.specs.Name.{in_lower_case}
use Rattle.plcx_funcs.specs.declared.pins.Class.TheVariants as class
use Rattle.plcx_meaning.specs.Diagram as diagram
use Rattle.plcx_meaning.specs.Diagram.{Link, InputPin, InOutPin, OutputPin, Enable, Port, links_of, enable_links}
use Rattle.plcx_meaning.specs.Evaluate.{world_of}
use Rattle.plcx_meaning.specs.Fits.{Standing, IsInstance, all_listed, IsDeclaredAs, IsVariable, CanBeWritten, InputFits, InOutFits, OutputFits, KindFits, EnableFits, CallFits}
use Rattle.plcx_meaning.specs.Layout as layout
use Rattle.plcx_meaning.specs.Tree as tree
use Rattle.plcx_meaning.specs.Base.{are_distinct}
use Rattle.plcx_meaning.proofs.Names.{bytes_same, bytes_self}
use Rattle.std.specs.Str.{bytes_eq}
use Rattle.plcx_meaning.proofs.Lists.{contains_first, contains_map, IsNew, distinct_join, each_at, each_from, each_map, each_weaker, none_passes, passing}
use Rattle.std.proofs.lemmas.List.Elements.{Contains-append_left, Contains-append_right}
use Rattle.plcx_model.specs.declared.body.Connection.{Connection}
use Rattle.plcx_model.specs.declared.body.PinIn.{PinIn}
use Rattle.plcx_model.specs.declared.body.PinOut.{PinOut}
use Rattle.plcx_model.specs.declared.body.Kind.{Kind}
use Rattle.plcx_model.specs.declared.body.Kind.TheVariants as kind
use Rattle.plcx_model.specs.declared.body.BodyElement.{BodyElement}
use Rattle.plcx_model.specs.declared.plan.Links.{Links}
use Rattle.plcx_model.specs.declared.plan.Types.{Types}
use Rattle.plcx_model.specs.declared.plan.Plan.{Plan}
use Rattle.plcx_model.specs.declared.project.VarTy.{VarTy}
use Rattle.plcx_model.specs.declared.project.Pou.{Pou}
use Rattle.plcx_model.specs.declared.project.Project.{Project}
use Rattle.plcx_model.specs.Sound.{IsKnown, PinsAreFew, PouIsSound, Sound}
use Rattle.plcx_model.specs.declared.project.ListClass.TheVariants as list
use Rattle.plcx_rules.specs.declared.callee.Callee.{Callee}
use Rattle.plcx_rules.specs.declared.callee.Callee.TheVariants as callee
use Rattle.plcx_rules.specs.declared.form.Out.{Out}
use Rattle.plcx_rules.specs.declared.form.Pin.{Pin}
use Rattle.plcx_rules.specs.declared.rule.LinkRule.TheVariants as rule
use Rattle.plcx_rules.specs.Texts.{same_name}
use Rattle.plcx_rules.specs.Declarations.{declarations_of}
use Rattle.plcx_rules.specs.Callees.{Formal, BlockPin, pins_where, enable, enabled, fixed, callee_named, names_function, inputs_of, in_outs_of, outputs_of, formal_named, is_enable, is_connected, is_absent, present, input_count, input_formal, in_out_formal, is_eno, output_name, output_formal, is_function}
use Rattle.plcx_rules.specs.Forms.{gives_class, class_of}
use Rattle.plcx_rules.specs.LinkRules.{breaks, lacks_source, breaks_instance, instance_fails, breaks_formals, formals_fail, inputs_fail, in_outs_fail, outputs_fail, has_double, names_of, has_one, is_unconnected, lends, producer_is, any_lender, breaks_target, is_listed}
use Rattle.plcx_rules.specs.Sources.{producer}
use Rattle.plcx_rules.specs.Types.{Sheet, AtPin, AtOutput, HasType as Has, DeclaredOutput}
use Rattle.plcx_rules.specs.TypingRules.{OutputIsNoBool}
use Rattle.plcx_view.specs.Blocks.{Wired, wired_link, is_taken, among, beside, enable_of, input_pin, in_out_pin, output_pin, fixed_type, lent_by, lent_at, instance_of, call_by, block_by}
use Rattle.plcx_view.specs.Kinds.{kind_of}
use Rattle.plcx_view.specs.Links.{declared_name}
use Rattle.plcx_view.specs.Pins.{Feed}
use Rattle.plcx_fits.proofs.Agreed.{Keeps, one_type, pin_fixed, pin_agrees}
use Rattle.plcx_fits.proofs.Enables.{enable_fits}
use Rattle.plcx_fits.proofs.Given.{filter_has, any_from, AreGiven, IsBefore, standing, reads, link_fits, link_has}
use Rattle.plcx_fits.proofs.Instances.{TypeOf, OfStandard, OfBlock, InstanceIs, instance_is, IsWithin, block_type, inputs_within, in_outs_within, outputs_within, formal_within}
use Rattle.plcx_fits.proofs.Lenders.{lent_of}
use Rattle.plcx_fits.proofs.Lent.{pin_name, place_of, none_each, map_same, standard_listed, sides_differ, not_false, not_true, and_both, some_of, connected_some, producer_of, one_source, taken_distinct, bound_distinct, zip_has, listed_along, block_has}
use Rattle.plcx_fits.proofs.Lists.{each_place}
use Rattle.plcx_fits.proofs.Named.{along_lists, within_standard, within_block, shown_variables, declared_there, within, instance_there}
use Rattle.plcx_fits.proofs.Outputs.{listed_out}
use Rattle.plcx_fits.proofs.Places.{sources_of, sheet, ElementStands}
use Rattle.plcx_fits.proofs.Spelled.{whole}
use Rattle.plcx_fits.proofs.Wired.{each_filter, WiredStands, input_form, in_out_form, PinsOf, pins_of_block}

module _ (project : Project) (links : Links) (types : Types) (plan : Plan) (sound : Sound project) (p : Pou) (tys : List Ty) (marks : List Bool) (networks : List (List ℕ)) (k : ℕ) (keeps : Keeps project.pous p tys marks k)
    (given : AreGiven project.pous p tys marks) (D : List (ℕ × Port)) (v : ℕ) (e : BodyElement) (st : ElementStands project.pous p tys marks v e) (before : IsBefore project.pous p tys marks (whole project links types plan) networks v D)
    (type_name : List ℕ) (instance : Option (List ℕ)) (inputs in_outs : List PinIn) (outputs : List PinOut) (is : e.kind ≡ kind.Block type_name instance inputs in_outs outputs)
    (c : Callee) (called : callee_named project.pous type_name ≡ Some c) (block : is_function c ≡ false) where
  abbrev pous : List Pou
  pous = project.pous

  abbrev dia : diagram.Project
  dia = whole project links types plan

  abbrev sh : Sheet
  sh = sheet pous p tys marks

  abbrev at : Standing
  at = standing pous p tys marks dia networks D

  abbrev vars : List layout.Variable
  vars = shown_variables project links types plan sound p

  abbrev Inputs : List Wired
  Inputs = zip inputs st.pins

  abbrev InOuts : List Wired
  InOuts = zip in_outs (drop (length inputs) st.pins)

  abbrev Call : diagram.ElementKind
  Call = call_by pous p c instance inputs Inputs InOuts outputs

  abbrev the_kind : Kind
  the_kind = kind.Block type_name instance inputs in_outs outputs

  owned : PinsOf pous p tys marks k keeps v e st type_name instance inputs in_outs outputs is c called
  owned = pins_of_block pous p tys marks k keeps v e st type_name instance inputs in_outs outputs is c called

  instance_there' : InstanceIs p c instance
  unfolding breaks breaks_instance
  instance_there' = instance_is p c instance block (ap (λ (d : Option Callee). instance_fails p d instance) (sym called) ∙ ap (breaks_instance pous p) (sym is) ∙ keeps.rules rule.Instances v e st.element)

  abbrev T : VarTy
  T = instance_there'.d.variable.ty

  abbrev inner : List layout.Variable
  inner = within project links types plan sound T

  known : IsKnown pous T
  known = (declared_there project links types plan sound p keeps.sound instance_there'.name instance_there'.d instance_there'.found).shown.known

  -- what rule 27 promises
  record FormalsSuit : Type 0 where
    inputs_known : list_any (λ (i : PinIn). is_none (input_formal pous c inputs i)) (present inputs) ≡ false
    inputs_apart : has_double (names_of (present inputs)) ≡ false
    in_outs_known : list_any (λ (i : PinIn). is_none (in_out_formal pous c i)) in_outs ≡ false
    in_outs_apart : has_double (names_of in_outs) ≡ false
    in_outs_listed : list_any (λ (f : Formal). not (is_listed in_outs f)) (in_outs_of pous c) ≡ false
    outputs_known : list_any (λ (o : PinOut). is_none (output_formal pous c outputs o)) outputs ≡ false

  formals : FormalsSuit
  unfolding breaks breaks_formals inputs_fail in_outs_fail outputs_fail
  formals =
      let fine = ap (breaks_formals pous) (sym is) ∙ keeps.rules rule.Formals v e st.element in
      let all = ap (λ (d : Option Callee). formals_fail pous d inputs in_outs outputs) (sym called) ∙ fine in
      let a = or_parts (inputs_fail pous c inputs || in_outs_fail pous c in_outs) (outputs_fail pous c outputs) all in
      let b = or_parts (inputs_fail pous c inputs) (in_outs_fail pous c in_outs) a.0 in
      let first = or_parts _ (has_double (names_of (present inputs))) b.0 in
      let second = or_parts _ (list_any (λ (f : Formal). not (is_listed in_outs f)) (in_outs_of pous c)) b.1 in
      let third = or_parts (list_any (λ (i : PinIn). is_none (in_out_formal pous c i)) in_outs) _ second.0 in
      record {
        inputs_known = (or_parts _ _ first.0).1;
        inputs_apart = first.1;
        in_outs_known = third.0;
        in_outs_apart = third.1;
        in_outs_listed = second.1;
        outputs_known = (or_parts _ _ a.1).0;
      }

  kind_is : kind_of pous p st.pins e.kind ≡ Call
  kind_is = ap (kind_of pous p st.pins) is ∙ ap (λ (d : Option Callee). block_by pous p d instance inputs Inputs InOuts outputs) called ∙ by c block
    where
      by : (d : Callee) → is_function d ≡ false → block_by pous p (Some d) instance inputs Inputs InOuts outputs ≡ call_by pous p d instance inputs Inputs InOuts outputs
      by (callee.Function f) h = absurd (cc)
      by (callee.Standard n) h = refl
      by (callee.Block place) h = refl

  few : PinsAreFew the_kind
  few = subst PinsAreFew is (each_place (λ (x : BodyElement). PinsAreFew x.kind) p.body.elements v e st.element keeps.sound.body.pins)

  -- ---- inputs

  abbrev Standing' : Wired → Type 0
  Standing' = WiredStands pous p tys marks v (input_form pous p tys marks k keeps v e st type_name instance inputs in_outs outputs is c called) inputs

  -- the formal parameter of a connected input
  record InputIs (w : Wired) : Type 0 where
    formal : Formal
    is_formal : input_formal pous c inputs w.0 ≡ Some formal
    inside : IsWithin inner tree.Input formal
    same : in_lower_case formal.name ≡ in_lower_case w.0.formal

  input_is : (w : Wired) → Contains inputs w.0 → is_taken w.0 ≡ true → InputIs w
  input_is w there taken =
      let parts = and_both (not (is_enable w.0)) (is_connected w.0) taken in
      let no_enable = not_true (is_enable w.0) parts.0 in
      let counts : not (is_absent w.0) ≡ true = ap (λ b. not (b && not (is_connected w.0))) no_enable in
      let fine = none_passes (λ (i : PinIn). is_none (input_formal pous c inputs i)) (present inputs) w.0 formals.inputs_known (filter_has (λ (i : PinIn). not (is_absent i)) inputs w.0 there counts) in
      let one = some_of (input_formal pous c inputs w.0) fine in
      let inner_is = sym (ap (λ b. cond b (Some enable) (find (λ (f : Formal). same_name w.0.formal f.name) (inputs_of pous c (input_count inputs)))) no_enable) ∙ one.1 in
      let r = formal_within project links types plan sound inner tree.Input w.0.formal (inputs_of pous c (input_count inputs)) one.0 (inputs_within project links types plan sound c T (input_count inputs) instance_there'.typed known) inner_is in
      record { formal = one.0; is_formal = one.1; inside = r.0; same = r.1 }

  input_fits : (w : Wired) → Standing' w → is_taken w.0 ≡ true → Contains (links_of Call) (wired_link pous p w) → InputFits at inner (input_pin pous p c inputs w)
  input_fits w s taken linked =
      let i = input_is w s.there taken in
      let parts = and_both (not (is_enable w.0)) (is_connected w.0) taken in
      let form = input_form pous p tys marks k keeps v e st type_name instance inputs in_outs outputs is c called w.0 in
      let class_is : form.class ≡ Some (class.Fixed i.inside.pin.ty) = ap class_of i.is_formal ∙ ap (λ (f : Formal). Some f.class) i.inside.is in
      let ty = pin_fixed pous p tys marks k keeps v e st.element form w.1 s.stand i.inside.pin.ty class_is in
      let has : Has sh (AtPin s.stand.number) w.1.ty = subst (λ t. Has sh (AtPin s.stand.number) t) (sym ty.0) ty.1 in
      let contained = subst (λ n. Contains (links_of n) (wired_link pous p w)) (sym kind_is) linked in
      let some = connected_some w.0 parts.1 in
      let count = s.count in
      let few_there = each_at (λ (x : PinIn). length x.input ≤ 64) inputs w.0 few.2 s.there in
      let name_is : declared_name (input_formal pous c inputs w.0) ≡ i.inside.pin.name = ap declared_name i.is_formal ∙ ap (λ (f : Formal). f.name) i.inside.is in (
        subst (λ n. IsDeclaredAs inner n (wired_link pous p w).ty (λ c. c ≡ tree.Input)) (sym name_is) (subst (λ t. IsDeclaredAs inner i.inside.pin.name t (λ c. c ≡ tree.Input)) (sym (link_has pous p w.0.mods.negated w.1 ∙ ty.0)) i.inside.there),
        link_fits pous p tys marks dia networks k keeps given D v e st.element before form w.1 s.stand has (reads pous p tys marks dia networks v e st w.0.mods.negated w.1 contained) w.0.mods.negated (λ h. h) (omega (arith, some, count)) (omega (arith, few_there, count)),
      )

  -- ---- in-outs

  abbrev Bound : Wired → Type 0
  Bound = WiredStands pous p tys marks v (in_out_form pous p tys marks k keeps v e st type_name instance inputs in_outs outputs is c called) in_outs

  -- the formal parameter of an in-out
  record InOutIs (w : PinIn) : Type 0 where
    formal : Formal
    is_formal : in_out_formal pous c w ≡ Some formal
    inside : IsWithin inner tree.InOut formal
    same : in_lower_case formal.name ≡ in_lower_case w.formal

  in_out_is : (i : PinIn) → Contains in_outs i → InOutIs i
  in_out_is i there =
      let one = some_of (in_out_formal pous c i) (none_passes (λ (x : PinIn). is_none (in_out_formal pous c x)) in_outs i formals.in_outs_known there) in
      let r = formal_within project links types plan sound inner tree.InOut i.formal (in_outs_of pous c) one.0 (in_outs_within project links types plan sound c T instance_there'.typed known) one.1 in
      record { formal = one.0; is_formal = one.1; inside = r.0; same = r.1 }

  has_one_there : (i : PinIn) → Contains in_outs i → has_one i ≡ true
  unfolding breaks lacks_source
  has_one_there i there =
      let fine = ap lacks_source (sym is) ∙ keeps.rules rule.Missing v e st.element in
      not_false (has_one i) (none_passes (λ (x : PinIn). not (has_one x)) in_outs i (or_parts (names_function type_name && list_any is_unconnected inputs) (list_any (λ (x : PinIn). not (has_one x)) in_outs) fine).1 there)

  lenders : any_lender (λ (n : Kind). not (lends pous p n)) p.body.elements in_outs ≡ false
  unfolding breaks breaks_target
  lenders = ap (breaks_target pous p) (sym is) ∙ keeps.rules rule.Targets v e st.element

  in_out_fits : (w : Wired) → Bound w → InOutFits at inner (in_out_pin pous p c w)
  in_out_fits w s = by w.1.feeds refl
    where
      i : InOutIs w.0
      i = in_out_is w.0 s.there

      form : Pin
      form = in_out_form pous p tys marks k keeps v e st type_name instance inputs in_outs outputs is c called w.0

      one : nat_eq (length w.0.input) 1 ≡ true
      one = has_one_there w.0 s.there

      class_is : form.class ≡ Some (class.Fixed i.inside.pin.ty)
      class_is = ap class_of i.is_formal ∙ ap (λ (f : Formal). Some f.class) i.inside.is

      name_is : declared_name (in_out_formal pous c w.0) ≡ i.inside.pin.name
      name_is = ap declared_name i.is_formal ∙ ap (λ (f : Formal). f.name) i.inside.is

      count : length w.1.feeds ≡ 1
      count = s.count ∙ eqb-true (length w.0.input) 1 one

      by : (l : List Feed) → w.1.feeds ≡ l → InOutFits at inner (record { name = declared_name (in_out_formal pous c w.0); variable = lent_at pous p l })
      by [] feeds = absurd (let n : length w.1.feeds ≡ 0 = ap length feeds in omega (arith, n, count))
      by (a ∷ b ∷ l) feeds = absurd (let n : length w.1.feeds ≡ suc (suc (length l)) = ap length feeds in omega (arith, n, count))
      by (feed ∷ []) feeds =
          let own : sources_of w.1 ≡ feed.0 ∷ [] = ap (map (λ (x : Feed). x.0)) feeds in
          let r = one_source p.body.elements w.0.input feed.0 one (sym s.sources ∙ own) in
          let f = producer_of p.body.elements r.0 feed.0 r.2 in
          let fine = none_passes (λ (x : PinIn). list_any (λ (x : Connection). producer_is (λ (n : Kind). not (lends pous p n)) (producer p.body.elements x)) x.input) in_outs w.0 lenders s.there in
          let here = ap (list_any (λ (x : Connection). producer_is (λ (n : Kind). not (lends pous p n)) (producer p.body.elements x))) (sym r.1) ∙ fine in
          let no_break = (or_parts (producer_is (λ (n : Kind). not (lends pous p n)) (producer p.body.elements r.0)) false here).0 in
          let lent = lent_of project links types plan sound p tys marks k keeps f.element f.element.kind refl (not_false (lends pous p f.element.kind) (ap (producer_is (λ (n : Kind). not (lends pous p n))) (sym f.is) ∙ no_break)) in
          let ty = pin_fixed pous p tys marks k keeps v e st.element form w.1 s.stand i.inside.pin.ty class_is in
          let agreed = pin_agrees pous p tys marks k keeps v e st.element form w.1 s.stand feed.0 lent.ty (subst (λ l. Contains l feed.0) (sym own) (contains_first feed.0 [])) (lent.typed feed.0 f.there) in
          let same : lent.ty ≡ i.inside.pin.ty = sym agreed ∙ ty.0 in
          let variable_is : lent_by pous p (slice_get p.body.elements feed.0.element) ≡ lent_by pous p (Some f.element) = ap (lent_by pous p) f.there in (
            i.inside.pin.ty,
            subst (λ n. IsDeclaredAs inner n i.inside.pin.ty (λ x. x ≡ tree.InOut)) (sym name_is) i.inside.there,
            subst (λ n. IsVariable vars n i.inside.pin.ty) (sym variable_is) (subst (λ t. IsVariable vars (lent_by pous p (Some f.element)) t) same lent.variable),
            subst (λ n. CanBeWritten vars n) (sym variable_is) lent.written,
          )

  -- ---- outputs

  output_fits : (o : PinOut) → Contains outputs o → not (is_eno o) ≡ true → OutputFits inner (output_pin pous c outputs o)
  output_fits o there beside_eno =
      let place = place_of outputs o there in
      let one = some_of (output_formal pous c outputs o) (none_passes (λ (x : PinOut). is_none (output_formal pous c outputs x)) outputs o formals.outputs_known there) in
      let no_eno = not_true (is_eno o) beside_eno in
      let formal_is : output_formal pous c outputs o ≡ find (λ (f : Formal). same_name o.formal f.name) (outputs_of pous c) =
      ap (λ b. formal_named (output_name b outputs o) (enabled ∷ outputs_of pous c)) block ∙ ap (λ b. cond b (Some enabled) (find (λ (f : Formal). same_name o.formal f.name) (outputs_of pous c))) no_eno in
      let r = (formal_within project links types plan sound inner tree.Output o.formal (outputs_of pous c) one.0 (outputs_within project links types plan sound c T instance_there'.typed known) (sym formal_is ∙ one.1)).0 in
      let name_is : declared_name (output_formal pous c outputs o) ≡ r.pin.name = ap declared_name one.1 ∙ ap (λ (f : Formal). f.name) r.is in
      let ty_is : fixed_type (output_formal pous c outputs o) ≡ r.pin.ty = ap fixed_type one.1 ∙ ap (λ (f : Formal). fixed_type (Some f)) r.is in
      let out = listed_out pous p tys marks k keeps v e st.element type_name instance inputs in_outs outputs is c called place.0 o place.1 in
      let typed : Has sh (AtOutput (record { element = v; pin = place.0 })) r.pin.ty = DeclaredOutput (ap (λ (x : Out). x.gives) out ∙ ap (λ (x : Option Formal). gives_class (class_of x)) one.1 ∙ ap (λ (f : Formal). gives_class (Some f.class)) r.is) in (
        subst (λ n. IsDeclaredAs inner n (fixed_type (output_formal pous c outputs o)) (λ x. x ≡ tree.Output)) (sym name_is) (subst (λ t. IsDeclaredAs inner r.pin.name t (λ x. x ≡ tree.Output)) (sym ty_is) r.there),
        (λ negated. ty_is ∙ one_type r.pin.ty ty.Bool (λ differ. keeps.agrees v e st.element (OutputIsNoBool refl (ap (λ (x : Out). x.negated) out ∙ negated) typed differ))),
      )

  -- ---- all in-outs

  abbrev bound : List InOutPin
  bound = map (in_out_pin pous p c) InOuts

  bound_there : (f : Formal) → Contains (in_outs_of pous c) f → list_any (λ (i : InOutPin). bytes_eq (in_lower_case i.name) (in_lower_case f.name)) bound ≡ true
  bound_there f there =
      let listed = not_false (is_listed in_outs f) (none_passes (λ (x : Formal). not (is_listed in_outs x)) (in_outs_of pous c) f formals.in_outs_listed there) in
      let i = passing (λ (x : PinIn). same_name f.name x.formal) in_outs listed in
      let pin = zip_has in_outs (drop (length inputs) st.pins) i.0 owned.more i.1 in
      let r = in_out_is i.0 i.1 in
      let key : in_lower_case (declared_name (in_out_formal pous c i.0)) ≡ in_lower_case f.name = ap (λ (x : Option Formal). in_lower_case (declared_name x)) r.is_formal ∙ r.same ∙ sym (bytes_same (in_lower_case f.name) (in_lower_case i.0.formal) i.2) in
      any_from (λ (x : InOutPin). bytes_eq (in_lower_case x.name) (in_lower_case f.name)) bound (in_out_pin pous p c (i.0, pin.0)) (contains_map (in_out_pin pous p c) InOuts (i.0, pin.0) pin.1)
      (ap (λ n. bytes_eq n (in_lower_case f.name)) key ∙ bytes_self (in_lower_case f.name))

  all_by : (d : Callee) (t : VarTy) → TypeOf d t → IsKnown pous t → ((b : BlockPin) → Contains (in_outs_of pous d) (fixed b) → list_any (λ (i : InOutPin). bytes_eq (in_lower_case i.name) (in_lower_case b.name)) bound ≡ true)
      → all_listed bound (within project links types plan sound t) ≡ true
  unfolding in_outs_of
  all_by _ _ (OfStandard {k = n}) known' has = ap (all_listed bound) (within_standard project links types plan sound n) ∙ standard_listed n bound
  all_by _ _ (OfBlock {place = place}) known' has =
      let q = known'.0 in
      let s = each_place (PouIsSound pous) pous place q known'.1 sound.pous in
      ap (all_listed bound) (within_block project links types plan sound place known')
      ∙ listed_along pous bound (declarations_of q) (shown_variables project links types plan sound q) (along_lists project links types plan sound q s)
      (λ d b there in_out is_b. subst (λ n. list_any (λ (i : InOutPin). bytes_eq (in_lower_case i.name) (in_lower_case n)) bound ≡ true) (pin_name d b is_b)
      (has b (contains_map fixed (pins_where list.InOut (slice_get pous place)) b (subst (λ (o : Option Pou). Contains (pins_where list.InOut o) b) (sym known'.1) (block_has list.InOut (declarations_of q) d b there in_out is_b)))))

  -- ---- names

  abbrev taken : List Wired
  taken = among is_taken Inputs

  each_taken : Each (λ (w : Wired). Standing' w × (is_taken w.0 ≡ true)) taken
  each_taken = each_filter Standing' (λ (w : Wired). is_taken w.0) Inputs owned.inputs_stand

  input_key : (w : Wired) → InputIs w → in_lower_case (declared_name (input_formal pous c inputs w.0)) ≡ in_lower_case w.0.formal
  input_key w i = ap (λ (x : Option Formal). in_lower_case (declared_name x)) i.is_formal ∙ i.same

  in_out_key : (w : Wired) → InOutIs w.0 → in_lower_case (declared_name (in_out_formal pous c w.0)) ≡ in_lower_case w.0.formal
  in_out_key w i = ap (λ (x : Option Formal). in_lower_case (declared_name x)) i.is_formal ∙ i.same

  apart : (w x : Wired) → InputIs w → InOutIs x.0 → bytes_eq (in_lower_case w.0.formal) (in_lower_case x.0.formal) ≡ false
  apart w x a b =
      let one : in_lower_case a.inside.pin.name ≡ in_lower_case w.0.formal = ap (λ (f : Formal). in_lower_case f.name) (sym a.inside.is) ∙ a.same in
      let two : in_lower_case b.inside.pin.name ≡ in_lower_case x.0.formal = ap (λ (f : Formal). in_lower_case f.name) (sym b.inside.is) ∙ b.same in
      ap (λ n. bytes_eq n (in_lower_case x.0.formal)) (sym one) ∙ ap (bytes_eq (in_lower_case a.inside.pin.name)) (sym two) ∙ sides_differ inner a.inside.pin b.inside.pin a.inside.there b.inside.there

  names_apart : are_distinct (map (λ (i : InputPin). in_lower_case i.name) (map (input_pin pous p c inputs) taken) ++ map (λ (i : InOutPin). in_lower_case i.name) bound) ≡ true
  names_apart =
      let key : Wired → List ℕ = λ w. in_lower_case w.0.formal in
      let left : map (λ (i : InputPin). in_lower_case i.name) (map (input_pin pous p c inputs) taken) ≡ map key taken =
      map_same (λ (i : InputPin). in_lower_case i.name) (input_pin pous p c inputs) key taken (each_weaker _ (λ (w : Wired). in_lower_case (input_pin pous p c inputs w).name ≡ key w) taken (λ w h. input_key w (input_is w h.0.there h.1)) each_taken) in
      let right : map (λ (i : InOutPin). in_lower_case i.name) bound ≡ map key InOuts =
      map_same (λ (i : InOutPin). in_lower_case i.name) (in_out_pin pous p c) key InOuts (each_weaker Bound (λ (w : Wired). in_lower_case (in_out_pin pous p c w).name ≡ key w) InOuts (λ w s. in_out_key w (in_out_is w.0 s.there)) owned.in_outs_stand) in
      ap (λ l. are_distinct (l ++ map (λ (i : InOutPin). in_lower_case i.name) bound)) left ∙ ap (λ l. are_distinct (map key taken ++ l)) right
      ∙ distinct_join (map key taken) (map key InOuts) (taken_distinct inputs st.pins formals.inputs_apart) (bound_distinct in_outs (drop (length inputs) st.pins) formals.in_outs_apart)
      (each_map (λ (n : List ℕ). IsNew n (map key InOuts)) key taken (each_weaker _ (λ (w : Wired). IsNew (key w) (map key InOuts)) taken
      (λ w h. none_each (bytes_eq (key w)) (map key InOuts) (each_map (λ (n : List ℕ). bytes_eq (key w) n ≡ false) key InOuts (each_weaker Bound (λ (x : Wired). bytes_eq (key w) (key x) ≡ false) InOuts
      (λ x s. apart w x (input_is w h.0.there h.1) (in_out_is x.0 s.there)) owned.in_outs_stand))) each_taken))

  -- ---- calls

  linked : (w : Wired) → Contains taken w → Contains (links_of Call) (wired_link pous p w)
  linked w there =
      let ins = map (input_pin pous p c inputs) taken in
      Contains-append_right (enable_links (enable_of pous p Inputs outputs)) (map (λ (i : InputPin). i.link) ins) (wired_link pous p w)
      (contains_map (λ (i : InputPin). i.link) ins (input_pin pous p c inputs w) (contains_map (input_pin pous p c inputs) taken w there))

  each_output : Each (λ (o : PinOut). Contains outputs o × (not (is_eno o) ≡ true)) (beside outputs)
  each_output = each_filter (Contains outputs) (λ (o : PinOut). not (is_eno o)) outputs (each_from (Contains outputs) outputs (λ o h. h))

  call_fits : CallFits at (instance_of p instance) (map (input_pin pous p c inputs) taken) bound (map (output_pin pous c outputs) (beside outputs))
  call_fits = record {
    within = inner;
    called = subst (λ n. IsInstance (world_of dia) vars n inner) (sym instance_there'.spelled)
        (instance_there project links types plan sound p keeps.sound instance_there'.name instance_there'.d instance_there'.found (block_type project links types plan sound c T instance_there'.typed));
    inputs = each_map (InputFits at inner) (input_pin pous p c inputs) taken (each_from (λ (w : Wired). InputFits at inner (input_pin pous p c inputs w)) taken (λ w there.
        let h = each_at (λ (x : Wired). Standing' x × (is_taken x.0 ≡ true)) taken w each_taken there in input_fits w h.0 h.1 (linked w there)));
    in_outs = each_map (InOutFits at inner) (in_out_pin pous p c) InOuts (each_weaker Bound (λ (w : Wired). InOutFits at inner (in_out_pin pous p c w)) InOuts in_out_fits owned.in_outs_stand);
    all = all_by c T instance_there'.typed known (λ b. bound_there (fixed b));
    outputs = each_map (OutputFits inner) (output_pin pous c outputs) (beside outputs) (each_weaker _ (λ (o : PinOut). OutputFits inner (output_pin pous c outputs o)) (beside outputs) (λ o h. output_fits o h.0 h.1) each_output);
    formals = names_apart;
  }

  of_block : kind_of pous p st.pins the_kind ≡ Call
  of_block = sym (ap (kind_of pous p st.pins) is) ∙ kind_is

  enables : EnableFits at (enable_of pous p Inputs outputs)
  enables = enable_fits pous p tys marks dia networks k keeps given D v e st before type_name instance inputs in_outs outputs is c called
      (λ link there. subst (λ (n : diagram.ElementKind). Contains (links_of n) link) (sym of_block)
      (Contains-append_left (enable_links (enable_of pous p Inputs outputs)) (map (λ (i : InputPin). i.link) (map (input_pin pous p c inputs) taken)) link there))

  -- a call suits its POU
  pub call_kind_fits : KindFits at (kind_of pous p st.pins the_kind)
  call_kind_fits = subst (KindFits at) (sym of_block) (call_fits, enables)
