-- Elements that aren't blocks suit their POU.
use Rattle.std.proofs.Common.{◌≡◌, ◌≢◌, ℕ, ◌≤◌, Bool, true, false, not, ◌||◌, List, [], ◌∷◌, map, length, Option, Some, None, refl, sym, ap, ◌∙◌, subst, arith}
use Rattle.std.specs.Prelude.{option_map}
use Rattle.std.specs.List.{Contains}
use Rattle.plcx_types.specs.declared.ty.Ty.{Ty}
use Rattle.plcx_types.specs.declared.ty.Ty.TheVariants as ty
use Rattle.plcx_funcs.specs.declared.pins.Class.TheVariants as class
use Rattle.plcx_meaning.specs.Diagram as diagram
use Rattle.plcx_meaning.specs.Diagram.{Link, Port, port, ports, links_of, Storing}
use Rattle.plcx_meaning.specs.Fits.{Standing, IsVariable, CanBeWritten, OperandFits, StoringFits, LinkFits, TruthFits, KindFits}
use Rattle.plcx_meaning.specs.Layout as layout
use Rattle.plcx_meaning.proofs.Lists.{contains_first}
use Rattle.plcx_model.specs.declared.body.Mods.{Mods}
use Rattle.plcx_model.specs.declared.body.Connection.{Connection}
use Rattle.plcx_model.specs.declared.body.Storage.{Storage}
use Rattle.plcx_model.specs.declared.body.Storage.TheVariants as storage
use Rattle.plcx_model.specs.declared.body.PinIn.{PinIn}
use Rattle.plcx_model.specs.declared.body.PinOut.{PinOut}
use Rattle.plcx_model.specs.declared.source.Source.{Source}
use Rattle.plcx_model.specs.declared.body.Kind.{Kind}
use Rattle.plcx_model.specs.declared.body.Kind.TheVariants as kind
use Rattle.plcx_model.specs.declared.body.BodyElement.{BodyElement}
use Rattle.plcx_model.specs.declared.plan.Links.{Links}
use Rattle.plcx_model.specs.declared.plan.Types.{Types}
use Rattle.plcx_model.specs.declared.plan.Plan.{Plan}
use Rattle.plcx_model.specs.declared.project.Pou.{Pou}
use Rattle.plcx_model.specs.declared.project.Project.{Project}
use Rattle.plcx_model.specs.Sound.{PinsAreFew, Sound}
use Rattle.plcx_rules.specs.declared.form.Form.{Form}
use Rattle.plcx_rules.specs.declared.form.Gives.TheVariants.{Typed}
use Rattle.plcx_rules.specs.declared.form.Out.{Out}
use Rattle.plcx_rules.specs.declared.form.Pin.{Pin}
use Rattle.plcx_rules.specs.declared.rule.LinkRule.TheVariants as rule
use Rattle.plcx_rules.specs.Declarations.{can_be_written}
use Rattle.plcx_rules.specs.Forms.{gives_held, declared, text_gives, is_modified, element_pins, form_of}
use Rattle.plcx_rules.specs.Forms.{pin as form_pin}
use Rattle.plcx_rules.specs.declared.form.Grouping.TheVariants.{Apart}
use Rattle.plcx_rules.specs.Helds.{Held, OfLiteral, OfVariable, OfInstance, OfOutput, text_held, is_value, is_operand, is_target}
use Rattle.plcx_rules.specs.Laws.{source_counts}
use Rattle.plcx_rules.specs.LinkRules.{breaks, is_stored, lacks_source, breaks_expression, breaks_target}
use Rattle.plcx_rules.specs.Texts.{is_empty}
use Rattle.plcx_rules.specs.Types.{Sheet, form_at, output_among, output_at, AtPin, AtGroup, HasType, DeclaredOutput}
use Rattle.plcx_rules.specs.TypingRules.{OutputIsNoBool, OperandIsNoBool}
use Rattle.plcx_view.specs.Kinds.{storing_by, kind_of}
use Rattle.plcx_view.specs.Links.{link_of, link_at}
use Rattle.plcx_view.specs.Operands.{operand_by, target_by, reading_by}
use Rattle.plcx_view.specs.Pins.{Feed}
use Rattle.plcx_view.specs.Pins as view
use Rattle.plcx_fits.proofs.Agreed.{Keeps, form_is, one_type, pin_fixed, pin_grouped, pin_modified}
use Rattle.plcx_fits.proofs.Along.{Along}
use Rattle.plcx_fits.proofs.Given.{AreGiven, IsBefore, standing, seen_pou, reads, link_has, link_fits}
use Rattle.plcx_fits.proofs.Held.{HeldIs, held_is}
use Rattle.plcx_fits.proofs.Lists.{each_place, length_mapped}
use Rattle.plcx_fits.proofs.Named.{shown_variables, variable_there, written_there, IsRead, operand_fits}
use Rattle.plcx_fits.proofs.Places.{sources_of, sheet, Stands, ElementStands}
use Rattle.plcx_fits.proofs.Spelled.{whole}

not_false : (b : Bool) → not b ≡ false → b ≡ true
not_false true h = refl
not_false false h = cc

some_one : {A : Type 0} (xs : List A) → is_empty xs ≡ false → 1 ≤ length xs
some_one [] h = cc
some_one (x ∷ xs) h = omega arith

module _ (project : Project) (links : Links) (types : Types) (plan : Plan) (sound : Sound project) (p : Pou) (tys : List Ty) (marks : List Bool) (networks : List (List ℕ)) (k : ℕ) (keeps : Keeps project.pous p tys marks k)
    (given : AreGiven project.pous p tys marks) (D : List (ℕ × Port)) (v : ℕ) (e : BodyElement) (st : ElementStands project.pous p tys marks v e) where
  abbrev pous : List Pou
  pous = project.pous

  abbrev dia : diagram.Project
  dia = whole project links types plan

  abbrev sh : Sheet
  sh = sheet pous p tys marks

  abbrev at : Standing
  at = standing pous p tys marks dia networks D

  abbrev vars : List layout.Variable
  vars = shown_variables project links types plan sound p

  -- the one pin of an element
  record Single (f : Pin) (n : Kind) : Type 0 where
    pin : view.Pin
    is : st.pins ≡ pin ∷ []
    stand : Stands pous p tys marks v f pin
    count : map length (map sources_of st.pins) ≡ source_counts n

  counted : (n : Kind) → e.kind ≡ n → map length (map sources_of st.pins) ≡ source_counts n
  counted n is = ap (map length) st.sources ∙ each_place _ p.body.elements v e st.element keeps.counted ∙ ap source_counts is

  single : (n : Kind) → e.kind ≡ n → (f : Pin) → element_pins pous p v n ≡ f ∷ [] → Single f n
  single n is f pins_are = by st.pins refl (subst (λ fs. Along (Stands pous p tys marks v) fs st.pins) (ap (element_pins pous p v) is ∙ pins_are) st.stand)
    where
      by : (l : List view.Pin) → st.pins ≡ l → Along (Stands pous p tys marks v) (f ∷ []) l → Single f n
      by [] same al = absurd al
      by (pin ∷ []) same al = record { pin = pin; is = same; stand = al.0; count = counted n is }
      by (pin ∷ other ∷ l) same al = absurd al.1

  -- the link at the one pin
  record LinkThere (t : Ty) : Type 0 where
    fits : LinkFits at (link_at pous p st.pins)
    typed : (link_at pous p st.pins).ty ≡ t

  single_fits : IsBefore pous p tys marks dia networks v D → (n : Kind) → e.kind ≡ n → (f : Pin) → element_pins pous p v n ≡ f ∷ [] → (c : ℕ) → source_counts n ≡ c ∷ [] → 1 ≤ c → c ≤ 64
      → (t : Ty) → ((pin : view.Pin) (s : Stands pous p tys marks v f pin) → (pin.ty ≡ t) × HasType sh (AtPin s.number) t)
      → Contains (links_of (kind_of pous p st.pins n)) (link_at pous p st.pins) → LinkThere t
  single_fits before n is f pins_are c counts some few t typed there =
      let one = single n is f pins_are in
      let ty = typed one.pin one.stand in
      let has : HasType sh (AtPin one.stand.number) one.pin.ty = subst (λ u. HasType sh (AtPin one.stand.number) u) (sym ty.0) ty.1 in
      let own : link_at pous p st.pins ≡ link_of pous p false one.pin = ap (link_at pous p) one.is in
      let long : length one.pin.feeds ≡ c = sym (length_mapped (λ (x : Feed). x.0) one.pin.feeds) ∙ first (ap (λ l. map length (map sources_of l)) (sym one.is) ∙ one.count ∙ counts) in
      let contained = subst (λ l. Contains (links_of (kind_of pous p st.pins e.kind)) l) own (subst (λ m. Contains (links_of (kind_of pous p st.pins m)) (link_at pous p st.pins)) (sym is) there) in
      let fits = link_fits pous p tys marks dia networks k keeps given D v e st.element before f one.pin one.stand has (reads pous p tys marks dia networks v e st false one.pin contained) false (λ h. absurd (cc))
      (omega (arith, long, some)) (omega (arith, long, few)) in
      record { fits = subst (LinkFits at) (sym own) fits; typed = ap (λ (l : Link). l.ty) own ∙ link_has pous p false one.pin ∙ ty.0 }
    where
      first : {a b : ℕ} → (a ∷ []) ≡ (b ∷ []) → a ≡ b
      first {a} {b} h = cc

  few_there : (n : Kind) → e.kind ≡ n → PinsAreFew n
  few_there n is = subst PinsAreFew is (each_place (λ (x : BodyElement). PinsAreFew x.kind) p.body.elements v e st.element keeps.sound.body.pins)

  source_there : (n : Kind) → e.kind ≡ n → lacks_source n ≡ false
  unfolding breaks
  source_there n is = ap lacks_source (sym is) ∙ keeps.rules rule.Missing v e st.element

  held_there : (n : Kind) → e.kind ≡ n → breaks_expression pous p n ≡ false
  unfolding breaks
  held_there n is = ap (breaks_expression pous p) (sym is) ∙ keeps.rules rule.Expressions v e st.element

  written : (n : Kind) → e.kind ≡ n → breaks_target pous p n ≡ false
  unfolding breaks
  written n is = ap (breaks_target pous p) (sym is) ∙ keeps.rules rule.Targets v e st.element

  form_there : (n : Kind) → e.kind ≡ n → form_at sh v ≡ form_of pous p n
  form_there n is = form_is pous p tys marks v e st.element ∙ ap (form_of pous p) is

  fixed_bool : (f : Pin) → f.class ≡ Some (class.Fixed ty.Bool) → (pin : view.Pin) (s : Stands pous p tys marks v f pin) → (pin.ty ≡ ty.Bool) × HasType sh (AtPin s.number) ty.Bool
  fixed_bool f c pin s = pin_fixed pous p tys marks k keeps v e st.element f pin s ty.Bool c

  -- ---- what contacts, coils and variables hold

  -- the variable of a contact or a coil is BOOL
  operand_bool : (t : Ty) → (form_at sh v).operand ≡ Some t → t ≡ ty.Bool
  operand_bool t is = one_type t ty.Bool (λ differ. keeps.agrees v e st.element (OperandIsNoBool is differ))

  read : (h : Held) → HeldIs pous p h → (t : Ty) → IsRead project links types plan sound h t → OperandFits at (operand_by (Some h)) t
  read h from t is = operand_fits project links types plan sound (seen_pou pous p tys marks dia networks) D p refl keeps.sound h t from is

  contact_reads : (text : List ℕ) (h : Option Held) → text_held pous p text ≡ h → not (is_operand h) ≡ false → ((t : Ty) → declared (gives_held h) ≡ Some t → t ≡ ty.Bool) → OperandFits at (operand_by h) ty.Bool
  unfolding is_operand
  contact_reads text None is value bool = absurd (cc)
  contact_reads text (Some (OfLiteral l)) is value bool = absurd (cc)
  contact_reads text (Some (OfVariable d t)) is value bool = read (OfVariable d t) (held_is pous p text (OfVariable d t) is) ty.Bool (bool t refl)
  contact_reads text (Some (OfInstance d)) is value bool = absurd (cc)
  contact_reads text (Some (OfOutput d o)) is value bool = read (OfOutput d o) (held_is pous p text (OfOutput d o) is) ty.Bool (bool o.ty refl)

  -- a target is a variable that can be written
  record TargetIs (h : Option Held) : Type 0 where
    ty : Ty
    gives : declared (gives_held h) ≡ Some ty
    variable : IsVariable vars (target_by h) ty
    written : CanBeWritten vars (target_by h)

  target : (text : List ℕ) (h : Option Held) → text_held pous p text ≡ h → not (is_target h) ≡ false → TargetIs h
  unfolding is_target
  target text None is can = absurd (cc)
  target text (Some (OfLiteral l)) is can = absurd (cc)
  target text (Some (OfVariable d t)) is can =
      let from = held_is pous p text (OfVariable d t) is in
      record {
        ty = t;
        gives = refl;
        variable = variable_there project links types plan sound p keeps.sound from.0 d t from.1 from.2;
        written = written_there project links types plan sound p keeps.sound from.0 d from.1 (not_false (can_be_written d) can);
      }
  target text (Some (OfInstance d)) is can = absurd (cc)
  target text (Some (OfOutput d o)) is can = absurd (cc)

  -- what is stored other than as it is is BOOL
  stored : (negated : Bool) (s : Storage) (t : Ty) → (negated || is_stored s ≡ true → t ≡ ty.Bool) → StoringFits (storing_by negated s) t
  stored true s t bool = bool refl
  stored false storage.Plain t bool = tt
  stored false storage.Set t bool = bool refl
  stored false storage.Reset t bool = bool refl

  reading_fits : (text : List ℕ) (negated : Bool) (h : Option Held) → text_held pous p text ≡ h → not (is_value h) ≡ false → (negated ≡ true → (t : Ty) → gives_held h ≡ Typed t → t ≡ ty.Bool) → KindFits at (reading_by negated h)
  unfolding is_value
  reading_fits text negated None is value bool = tt
  reading_fits text negated (Some (OfLiteral l)) is value bool = tt
  reading_fits text negated (Some (OfVariable d t)) is value bool = (read (OfVariable d t) (held_is pous p text (OfVariable d t) is) t refl, (λ h. bool h t refl))
  reading_fits text negated (Some (OfInstance d)) is value bool = tt
  reading_fits text negated (Some (OfOutput d o)) is value bool = (read (OfOutput d o) (held_is pous p text (OfOutput d o) is) o.ty refl, (λ h. bool h o.ty refl))

  -- ---- kinds

  module _ (before : IsBefore pous p tys marks dia networks v D) where
    truth_at : (n : Kind) → e.kind ≡ n → (f : Pin) → element_pins pous p v n ≡ f ∷ [] → f.class ≡ Some (class.Fixed ty.Bool) → (input : List Connection) → source_counts n ≡ length input ∷ [] → is_empty input ≡ false → length input ≤ 64
        → Contains (links_of (kind_of pous p st.pins n)) (link_at pous p st.pins) → TruthFits at (link_at pous p st.pins)
    truth_at n is f pins_are class_is input counts some few there =
        let r = single_fits before n is f pins_are (length input) counts (some_one input some) few ty.Bool (fixed_bool f class_is) there in (r.fits, r.typed)

    pass_at : (n : Kind) → e.kind ≡ n → (f : Pin) → element_pins pous p v n ≡ f ∷ [] → f.class ≡ Some class.Group → (t : Ty) → HasType sh (AtGroup v) t → (c : ℕ) → source_counts n ≡ c ∷ [] → 1 ≤ c → c ≤ 64
        → Contains (links_of (kind_of pous p st.pins n)) (link_at pous p st.pins) → LinkFits at (link_at pous p st.pins)
    pass_at n is f pins_are class_is t group c counts some few there =
        (single_fits before n is f pins_are c counts some few t (λ pin s. pin_grouped pous p tys marks k keeps v e st.element f pin s t class_is group) there).fits

    -- the group of a connector or a continuation
    group_at : (n : Kind) → e.kind ≡ n → (form_of pous p n).grouping ≢ Apart → (t : Ty) × HasType sh (AtGroup v) t
    group_at n is shares = keeps.shared v e st.element (λ h. shares (ap (λ m. (form_of pous p m).grouping) (sym is) ∙ h))

    out_at : (text : List ℕ) (mods : Mods) (input : List Connection) → e.kind ≡ kind.Out input text mods → KindFits at (kind_of pous p st.pins (kind.Out input text mods))
    unfolding lacks_source breaks_target element_pins text_gives
    out_at text mods input whole_is =
        let h = text_held pous p text in
        let target_is = target text h refl (written (kind.Out input text mods) whole_is) in
        let f : Pin = form_pin v (option_map class.Fixed (declared (gives_held h))) (is_modified mods) in
        let class_is : f.class ≡ Some (class.Fixed target_is.ty) = ap (option_map class.Fixed) target_is.gives in
        let one = single (kind.Out input text mods) whole_is f refl in
        let fixed = λ (pin : view.Pin) (s : Stands pous p tys marks v f pin). pin_fixed pous p tys marks k keeps v e st.element f pin s target_is.ty class_is in
        let r = single_fits before (kind.Out input text mods) whole_is f refl (length input) refl (some_one input (source_there (kind.Out input text mods) whole_is)) (few_there (kind.Out input text mods) whole_is).0 target_is.ty fixed (contains_first _ []) in
        let t = fixed one.pin one.stand in
        let has : HasType sh (AtPin one.stand.number) one.pin.ty = subst (λ u. HasType sh (AtPin one.stand.number) u) (sym t.0) t.1 in (
          subst (IsVariable vars (target_by h)) (sym r.typed) target_is.variable,
          stored mods.negated mods.storage (link_at pous p st.pins).ty (λ m. r.typed ∙ sym t.0 ∙ pin_modified pous p tys marks k keeps v e st.element f one.pin one.stand has m),
          r.fits,
          target_is.written,
        )

    -- elements of all kinds, where blocks suit
    pub kind_fits : ((type_name : List ℕ) (instance : Option (List ℕ)) (inputs in_outs : List PinIn) (outputs : List PinOut) → e.kind ≡ kind.Block type_name instance inputs in_outs outputs → KindFits at (kind_of pous p st.pins (kind.Block type_name instance inputs in_outs outputs)))
        → (n : Kind) → e.kind ≡ n → KindFits at (kind_of pous p st.pins n)
    unfolding lacks_source breaks_expression breaks_target element_pins form_of text_gives
    kind_fits block kind.Skipped is = tt
    kind_fits block kind.LeftRail is = tt
    kind_fits block (kind.RightRail input) is = tt
    kind_fits block (kind.Contact input text mods) is =
        let n = kind.Contact input text mods in (
          contact_reads text (text_held pous p text) refl (held_there n is) (λ t h. operand_bool t (ap (λ (x : Form). x.operand) (form_there n is) ∙ h)),
          truth_at n is (form_pin v (Some (class.Fixed ty.Bool)) false) refl refl input refl (source_there n is) (few_there n is).0 (contains_first _ []),
        )
    kind_fits block (kind.Coil input text mods) is =
        let n = kind.Coil input text mods in
        let r = target text (text_held pous p text) refl (written n is) in
        let bool = operand_bool r.ty (ap (λ (x : Form). x.operand) (form_there n is) ∙ r.gives) in (
          subst (IsVariable vars (target_by (text_held pous p text))) bool r.variable,
          truth_at n is (form_pin v (Some (class.Fixed ty.Bool)) false) refl refl input refl (source_there n is) (few_there n is).0 (contains_first _ []),
          r.written,
        )
    kind_fits block (kind.In text mods) is =
        let n = kind.In text mods in
        let first : Source = record { element = v; pin = 0 } in
        let out : output_at sh first ≡ record { gives = gives_held (text_held pous p text); negated = mods.negated } = ap (λ (x : Form). output_among x.outputs 0) (form_there n is) in
        reading_fits text mods.negated (text_held pous p text) refl (held_there n is) (λ negated t h. one_type t ty.Bool (λ differ. keeps.agrees v e st.element
        (OutputIsNoBool refl (ap (λ (x : Out). x.negated) out ∙ negated) (DeclaredOutput (ap (λ (x : Out). x.gives) out ∙ h)) differ)))
    kind_fits block (kind.Out input text mods) is = out_at text mods input is
    kind_fits block (kind.Block type_name instance inputs in_outs outputs) is = block type_name instance inputs in_outs outputs is
    kind_fits block (kind.Connector name input) is =
        let n = kind.Connector name input in
        let g = group_at n is (λ h. cc) in
        pass_at n is (form_pin v (Some class.Group) false) refl refl g.0 g.1 (length input) refl (some_one input (source_there n is)) (few_there n is).0 (contains_first _ [])
    kind_fits block (kind.Continuation name) is =
        let n = kind.Continuation name in
        let g = group_at n is (λ h. cc) in
        pass_at n is (form_pin v (Some class.Group) false) refl refl g.0 g.1 1 refl (omega arith) (omega arith) (contains_first _ [])
    kind_fits block (kind.Label name) is = tt
    kind_fits block (kind.Jump label input) is =
        let n = kind.Jump label input in
        truth_at n is (form_pin v (Some (class.Fixed ty.Bool)) false) refl refl input refl (source_there n is) (few_there n is).0 (contains_first _ [])
    kind_fits block (kind.Return input) is =
        let n = kind.Return input in
        truth_at n is (form_pin v (Some (class.Fixed ty.Bool)) false) refl refl input refl (source_there n is) (few_there n is).0 (contains_first _ [])
