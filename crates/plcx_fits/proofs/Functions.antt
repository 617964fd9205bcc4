-- Functions suit their signature.
use Rattle.std.proofs.Common.{◌≡◌, ◌≢◌, ℕ, zero, suc, ◌+◌, ◌<◌, ◌≤◌, ◌⊎◌, inl, inr, Bool, true, false, cond, not, ◌&&◌, ◌||◌, List, [], ◌∷◌, ◌++◌, map, length, drop, Option, Some, None, slice_get, get_or, refl, sym, ap, ◌∙◌, subst, arith}
use Rattle.std.specs.Prelude.{option_map, codes, is_some, is_none}
use Rattle.std.specs.List.{Contains, find, filter, filter_map, cons_option, list_any, zip, range_with_len}
use Rattle.std.specs.Option.{unwrap_or}
use Rattle.std.proofs.lemmas.Bool.{and_from, or_parts, cases_eq, cases_Bool}
use Rattle.std.proofs.lemmas.List.{length-map}
use Rattle.std.proofs.lemmas.List.Elements.{Contains-append_left, Contains-append_right}
use Rattle.plcx_types.specs.declared.literal.Literal.TheVariants as literal
use Rattle.plcx_types.specs.declared.ty.Ty.{Ty}
use Rattle.plcx_types.specs.declared.ty.Ty.TheVariants as ty
use Rattle.plcx_types.specs.Lists.{Each}
use Rattle.plcx_types.specs.Name.{in_lower_case}
use Rattle.plcx_types.specs.TypeName.{same_ty}
use Rattle.plcx_funcs.specs.declared.allowed.Allowed.{Allowed}
use Rattle.plcx_funcs.specs.declared.allowed.Allowed.TheVariants as set
use Rattle.plcx_funcs.specs.declared.func.Func.{Func}
use Rattle.plcx_funcs.specs.declared.func.Func.TheVariants as func
use Rattle.plcx_funcs.specs.declared.pins.Class.{Class}
use Rattle.plcx_funcs.specs.declared.pins.Class.TheVariants as class
use Rattle.plcx_funcs.specs.declared.table.Inputs.{Inputs}
use Rattle.plcx_funcs.specs.declared.table.Inputs.TheVariants as inputs_are
use Rattle.plcx_funcs.specs.Applied.{takes, suits}
use Rattle.plcx_funcs.specs.Names.{is_function, function_named}
use Rattle.plcx_funcs.specs.Pins.{letters, number, class_at, can_have, least_inputs, group_types, input_class, output_class}
use Rattle.plcx_funcs.specs.Table.{row_of}
use Rattle.plcx_funcs.specs.Types.{is_allowed, is_whole}
use Rattle.plcx_funcs.proofs.Counts.{has_least}
use Rattle.plcx_funcs.proofs.Found.{function_is}
use Rattle.plcx_meaning.specs.Functions.{group_index, group_of, all_suit, can_apply, out_type}
use Rattle.plcx_rules.specs.Callees.{number_text, function_input}
use Rattle.plcx_meaning.proofs.Names.{bytes_same, same_bytes}
use Rattle.plcx_meaning.proofs.Lists.{contains_first, contains_later, each_at, none_passes}
use Rattle.plcx_meaning.specs.Diagram as diagram
use Rattle.plcx_meaning.specs.Diagram.{Port, Link, Enable, links_of, enable_links}
use Rattle.plcx_meaning.specs.Fits.{Standing, LinkFits, FunctionFits, EnableFits, KindFits}
use Rattle.plcx_std.specs.declared.kind.StdKind.{StdKind}
use Rattle.plcx_std.specs.Kind.{kind_named}
use Rattle.plcx_model.specs.declared.body.PinIn.{PinIn}
use Rattle.plcx_model.specs.declared.body.PinOut.{PinOut}
use Rattle.plcx_model.specs.declared.body.Kind.{Kind}
use Rattle.plcx_model.specs.declared.body.Kind.TheVariants as kind
use Rattle.plcx_model.specs.declared.body.BodyElement.{BodyElement}
use Rattle.plcx_model.specs.declared.project.Pou.{Pou}
use Rattle.plcx_model.specs.declared.source.Source.{Source}
use Rattle.plcx_rules.specs.declared.callee.Callee.{Callee}
use Rattle.plcx_rules.specs.declared.callee.Callee.TheVariants as callee
use Rattle.plcx_rules.specs.declared.form.Form.{Form}
use Rattle.plcx_rules.specs.declared.form.Grouping.TheVariants as grouping
use Rattle.plcx_rules.specs.declared.form.Out.{Out}
use Rattle.plcx_rules.specs.declared.form.Pin.{Pin}
use Rattle.plcx_rules.specs.declared.rule.LinkRule.TheVariants as rule
use Rattle.plcx_rules.specs.Texts.{same_name}
use Rattle.plcx_rules.specs.Callees.{Formal, enable, function_inputs, inputs_of, is_enable, is_connected, input_count, callee_named, names_function, block_named, function_or, standard_or, enabled, result, outputs_of, is_eno, output_name, output_formal}
use Rattle.plcx_rules.specs.Forms.{gives_held, text_gives, gives_class, class_of, input_class_of, grouping_at, grouping_of, form_of}
use Rattle.plcx_rules.specs.Helds.{Held, OfLiteral, OfVariable, OfInstance, OfOutput, text_held}
use Rattle.plcx_rules.specs.Laws.{IsListed, HasOutput, IsOutput}
use Rattle.plcx_rules.specs.LinkRules.{breaks, is_unconnected, has_one, lacks_source, breaks_formals, formals_fail, inputs_fail, in_outs_fail, outputs_fail}
use Rattle.plcx_rules.specs.Sources.{sources_in}
use Rattle.plcx_rules.specs.Types.{Sheet, form_at, pin_at, sources_at, output_among, gives_at, is_untyped, AtPin, AtGroup, AtOutput, HasType, DeclaredOutput, OutputOfGroup, LoneOfSource, LoneOfLiteral}
use Rattle.plcx_rules.specs.TypingRules.{GroupIsBarred, LoneIsBarred, OutputIsNoBool}
use Rattle.plcx_rules.proofs.Missing.{none_is_missing}
use Rattle.plcx_view.specs.Blocks.{Wired, wired_link, among, beside, enable_of, input_at, function_links, is_negated, group_by, block_by}
use Rattle.plcx_view.specs.Kinds.{kind_of}
use Rattle.plcx_view.specs.Operands.{literal_by}
use Rattle.plcx_view.specs.Pins.{Feed}
use Rattle.plcx_view.specs.Pins as view
use Rattle.plcx_fits.proofs.Agreed.{Keeps, form_is, one_type, pin_only, pin_fixed, pin_grouped}
use Rattle.plcx_fits.proofs.Enables.{connected, input_fits, enable_fits}
use Rattle.plcx_fits.proofs.Given.{link_has, IsWired, AreGiven, standing, IsBefore}
use Rattle.plcx_fits.proofs.Lists.{contains_at}
use Rattle.plcx_fits.proofs.Outputs.{stands_for_eno, out_class, listed_out}
use Rattle.plcx_fits.proofs.Places.{sheet, sources_of, ElementStands, element_stands}
use Rattle.plcx_fits.proofs.Ports.{found_one}
use Rattle.plcx_fits.proofs.Wired.{WiredStands, each_filter, input_form, PinsOf, pins_of_block}

-- ---- names of inputs tell their classes

-- the name of an input
abbrev name_of : Inputs → ℕ → List ℕ
name_of x i = letters x i ++ number_text (number x i)

-- two inputs of one name have one class
class_by_name : (x : Inputs) (i j : ℕ) → in_lower_case (name_of x i) ≡ in_lower_case (name_of x j) → class_at x i ≡ class_at x j
class_by_name (inputs_are.Numbered low high) i j same = refl
class_by_name inputs_are.Single i j same = refl
class_by_name inputs_are.Shifted zero zero same = refl
class_by_name inputs_are.Shifted zero (suc j) same = absurd (cc)
class_by_name inputs_are.Shifted (suc i) zero same = absurd (cc)
class_by_name inputs_are.Shifted (suc i) (suc j) same = refl
class_by_name inputs_are.Selected zero zero same = refl
class_by_name inputs_are.Selected zero (suc j) same = absurd (cc)
class_by_name inputs_are.Selected (suc i) zero same = absurd (cc)
class_by_name inputs_are.Selected (suc i) (suc j) same = refl
class_by_name inputs_are.Limited i j same = refl
class_by_name inputs_are.Chosen zero zero same = refl
class_by_name inputs_are.Chosen zero (suc j) same = absurd (cc)
class_by_name inputs_are.Chosen (suc i) zero same = absurd (cc)
class_by_name inputs_are.Chosen (suc i) (suc j) same = refl
class_by_name (inputs_are.Converted from) i j same = refl

-- the input that tells the type of the group is one of the group, and a function has it
abbrev IsConversion : Func → Type 0
IsConversion (func.Conv from to) = Unit {0}
IsConversion _ = ⊥

abbrev TellsGroup : Func → Type 0
TellsGroup f = (input_class f (group_index f) ≡ class.Group) × (group_index f < least_inputs f) × (group_types f ≢ set.Nothing)

tells_group : (f : Func) → (IsConversion f → ⊥) → TellsGroup f
tells_group func.Add h = (refl, omega arith, (λ e. cc))
tells_group func.Mul h = (refl, omega arith, (λ e. cc))
tells_group func.Sub h = (refl, omega arith, (λ e. cc))
tells_group func.Div h = (refl, omega arith, (λ e. cc))
tells_group func.Mod h = (refl, omega arith, (λ e. cc))
tells_group func.Abs h = (refl, omega arith, (λ e. cc))
tells_group func.Move h = (refl, omega arith, (λ e. cc))
tells_group func.And h = (refl, omega arith, (λ e. cc))
tells_group func.Or h = (refl, omega arith, (λ e. cc))
tells_group func.Xor h = (refl, omega arith, (λ e. cc))
tells_group func.Not h = (refl, omega arith, (λ e. cc))
tells_group func.Shl h = (refl, omega arith, (λ e. cc))
tells_group func.Shr h = (refl, omega arith, (λ e. cc))
tells_group func.Rol h = (refl, omega arith, (λ e. cc))
tells_group func.Ror h = (refl, omega arith, (λ e. cc))
tells_group func.Sel h = (refl, omega arith, (λ e. cc))
tells_group func.Max h = (refl, omega arith, (λ e. cc))
tells_group func.Min h = (refl, omega arith, (λ e. cc))
tells_group func.Limit h = (refl, omega arith, (λ e. cc))
tells_group func.Mux h = (refl, omega arith, (λ e. cc))
tells_group func.Gt h = (refl, omega arith, (λ e. cc))
tells_group func.Ge h = (refl, omega arith, (λ e. cc))
tells_group func.Eq h = (refl, omega arith, (λ e. cc))
tells_group func.Le h = (refl, omega arith, (λ e. cc))
tells_group func.Lt h = (refl, omega arith, (λ e. cc))
tells_group func.Ne h = (refl, omega arith, (λ e. cc))
tells_group (func.Conv from to) h = absurd (h tt)

-- ---- what is found among the inputs of a function

abbrev Has : List ℕ → ℕ → Type 0
Has [] y = ⊥
Has (x ∷ xs) y = (y ≡ x) ⊎ Has xs y

in_range : (a n v : ℕ) → a ≤ v → v < a + n → Has (range_with_len a n) v
in_range a zero v low high = absurd (omega arith)
in_range a (suc n) v low high = by (cases_eq v a) (in_range (a + 1) n v)
  where
    by : (v ≡ a) ⊎ (v ≡ a → ⊥) → (a + 1 ≤ v → v < a + 1 + n → Has (range_with_len (a + 1) n) v) → Has (range_with_len a (suc n)) v
    by (inl e) later = inl e
    by (inr apart) later = inr (later (omega (arith, apart)) (omega arith))

-- the formal parameter that a name leads to has the class of the input of that name
formal_class : (f : Func) (name : List ℕ) (i : ℕ) → in_lower_case name ≡ in_lower_case (function_input f i).name → (is : List ℕ) → Has is i
    → class_of (find (λ (x : Formal). same_name name x.name) (map (function_input f) is)) ≡ Some (input_class f i)
unfolding function_input
formal_class f name i same [] there = absurd there
formal_class f name i same (j ∷ is) there = by (same_name name (function_input f j).name) refl (formal_class f name i same is) there
  where
    by : (b : Bool) → same_name name (function_input f j).name ≡ b → (Has is i → class_of (find (λ (x : Formal). same_name name x.name) (map (function_input f) is)) ≡ Some (input_class f i)) → (i ≡ j) ⊎ Has is i
        → class_of (cond b (Some (function_input f j)) (find (λ (x : Formal). same_name name x.name) (map (function_input f) is))) ≡ Some (input_class f i)
    by true e later t = ap Some (class_by_name (row_of f).inputs j i (sym (bytes_same (in_lower_case name) (in_lower_case (function_input f j).name) e) ∙ same))
    by false e later (inl here) = absurd (let h : true ≡ false = sym (same_bytes (in_lower_case name) (in_lower_case (function_input f j).name) (same ∙ ap (λ m. in_lower_case (function_input f m).name) here)) ∙ e in cc)
    by false e later (inr more) = later more

-- what is found of pins is found of pins with their sources
find_wired : (test : PinIn → Bool) (inputs : List PinIn) (pins : List view.Pin) → length inputs ≤ length pins → is_some (find test (filter (λ (i : PinIn). not (is_enable i)) inputs)) ≡ true → is_some (find (λ (w : Wired). test w.0) (among (λ (i : PinIn). not (is_enable i)) (zip inputs pins))) ≡ true
find_wired test [] pins long h = absurd (cc)
find_wired test (i ∷ inputs) [] long h = absurd (omega arith)
find_wired test (i ∷ inputs) (pin ∷ pins) long h = by (is_enable i) (find_wired test inputs pins (omega arith)) h
  where
    rest : List PinIn
    rest = filter (λ (j : PinIn). not (is_enable j)) inputs

    wired : List Wired
    wired = among (λ (j : PinIn). not (is_enable j)) (zip inputs pins)

    one : (c : Bool) → (is_some (find test rest) ≡ true → is_some (find (λ (w : Wired). test w.0) wired) ≡ true) → is_some (cond c (Some i) (find test rest)) ≡ true → is_some (cond c (Some (let w : Wired = (i, pin) in w)) (find (λ (w : Wired). test w.0) wired)) ≡ true
    one true later k = refl
    one false later k = later k

    by : (b : Bool) → (is_some (find test rest) ≡ true → is_some (find (λ (w : Wired). test w.0) wired) ≡ true) → is_some (find test (cond (not b) (i ∷ rest) rest)) ≡ true → is_some (find (λ (w : Wired). test w.0) (cond (not b) ((i, pin) ∷ wired) wired)) ≡ true
    by true later k = later k
    by false later k = one (test i) later k

count_wired : (inputs : List PinIn) (pins : List view.Pin) → length inputs ≤ length pins → length (among (λ (i : PinIn). not (is_enable i)) (zip inputs pins)) ≡ input_count inputs
count_wired [] pins long = refl
count_wired (i ∷ inputs) [] long = absurd (omega arith)
count_wired (i ∷ inputs) (pin ∷ pins) long = by (is_enable i) (count_wired inputs pins (omega arith))
  where
    by : (b : Bool) → length (among (λ (j : PinIn). not (is_enable j)) (zip inputs pins)) ≡ input_count inputs
        → length (cond (not b) ((i, pin) ∷ among (λ (j : PinIn). not (is_enable j)) (zip inputs pins)) (among (λ (j : PinIn). not (is_enable j)) (zip inputs pins))) ≡ length (cond (not b) (i ∷ filter (λ (j : PinIn). not (is_enable j)) inputs) (filter (λ (j : PinIn). not (is_enable j)) inputs))
    by true e = e
    by false e = ap suc e

-- each of those that a function has is listed
listed_at : (inputs : List PinIn) (f : Func) (is : List ℕ) (i : ℕ) → Each (IsListed inputs) (map (function_input f) is) → Has is i → IsListed inputs (function_input f i)
listed_at inputs f [] i all there = absurd there
listed_at inputs f (j ∷ is) i all (inl e) = subst (λ m. IsListed inputs (function_input f m)) (sym e) all.0
listed_at inputs f (j ∷ is) i all (inr more) = listed_at inputs f is i all.1 more

each_get_at : {A : Type 0} (P : A → Type 0) (xs : List (List A)) (i : ℕ) → Each (Each P) xs → Each P (get_or xs i [])
each_get_at P [] i h = tt
each_get_at P (x ∷ xs) zero h = h.0
each_get_at P (x ∷ xs) (suc i) h = each_get_at P xs i h.1

-- ---- functions that are conversions or not

is_conversion : (f : Func) → IsConversion f ⊎ (IsConversion f → ⊥)
is_conversion (func.Conv from to) = inl tt
is_conversion _ = inr (λ k. k)

not_by_output : (f : Func) → output_class f ≡ class.Group → IsConversion f → ⊥
not_by_output (func.Conv from to) h k = cc
not_by_output _ h k = k

not_by_input : (f : Func) (i : ℕ) → input_class f i ≡ class.Group → IsConversion f → ⊥
not_by_input (func.Conv from to) i h k = cc
not_by_input _ i h k = k

takes_by : (f : Func) (t : Ty) → is_function f ≡ true → ((IsConversion f → ⊥) → is_allowed (group_types f) t ≡ true) → takes f t ≡ true
takes_by (func.Conv from to) t real allowed = real
takes_by func.Add t real allowed = allowed (λ k. k)
takes_by func.Mul t real allowed = allowed (λ k. k)
takes_by func.Sub t real allowed = allowed (λ k. k)
takes_by func.Div t real allowed = allowed (λ k. k)
takes_by func.Mod t real allowed = allowed (λ k. k)
takes_by func.Abs t real allowed = allowed (λ k. k)
takes_by func.Move t real allowed = allowed (λ k. k)
takes_by func.And t real allowed = allowed (λ k. k)
takes_by func.Or t real allowed = allowed (λ k. k)
takes_by func.Xor t real allowed = allowed (λ k. k)
takes_by func.Not t real allowed = allowed (λ k. k)
takes_by func.Shl t real allowed = allowed (λ k. k)
takes_by func.Shr t real allowed = allowed (λ k. k)
takes_by func.Rol t real allowed = allowed (λ k. k)
takes_by func.Ror t real allowed = allowed (λ k. k)
takes_by func.Sel t real allowed = allowed (λ k. k)
takes_by func.Max t real allowed = allowed (λ k. k)
takes_by func.Min t real allowed = allowed (λ k. k)
takes_by func.Limit t real allowed = allowed (λ k. k)
takes_by func.Mux t real allowed = allowed (λ k. k)
takes_by func.Gt t real allowed = allowed (λ k. k)
takes_by func.Ge t real allowed = allowed (λ k. k)
takes_by func.Eq t real allowed = allowed (λ k. k)
takes_by func.Le t real allowed = allowed (λ k. k)
takes_by func.Lt t real allowed = allowed (λ k. k)
takes_by func.Ne t real allowed = allowed (λ k. k)

same_self : (t : Ty) → same_ty t t ≡ true
same_self ty.Bool = refl
same_self ty.Byte = refl
same_self ty.Word = refl
same_self ty.Dword = refl
same_self ty.Lword = refl
same_self ty.Sint = refl
same_self ty.Int = refl
same_self ty.Dint = refl
same_self ty.Lint = refl
same_self ty.Usint = refl
same_self ty.Uint = refl
same_self ty.Udint = refl
same_self ty.Ulint = refl
same_self ty.Time = refl

groups_at : (a : Allowed) → a ≢ set.Nothing → grouping_at a ≡ grouping.Function a
groups_at set.Whole h = refl
groups_at set.WholeTime h = refl
groups_at set.Bits h = refl
groups_at set.Words h = refl
groups_at set.All h = refl
groups_at set.Nothing h = absurd (h refl)

-- a block that calls a function has its name
called_function : (pous : List Pou) (name : List ℕ) (f : Func) → callee_named pous name ≡ Some (callee.Function f) → function_named name ≡ Some f
unfolding callee_named
called_function pous name f h = by (function_named name) (kind_named name) (block_named pous name) h
  where
    by : (a : Option Func) (b : Option StdKind) (o : Option ℕ) → function_or a (standard_or b (option_map callee.Block o)) ≡ Some (callee.Function f) → a ≡ Some f
    by (Some g) b o k = cc
    by None (Some s) o k = absurd (cc)
    by None None None k = absurd (cc)
    by None None (Some place) k = absurd (cc)

some_there : {A : Type 0} (o : Option A) → is_some o ≡ true → (x : A) × (o ≡ Some x)
some_there None h = absurd (cc)
some_there (Some x) h = (x, refl)

false_of : (b : Bool) → not b ≡ true → b ≡ false
false_of true h = absurd (cc)
false_of false h = refl

true_of : (b : Bool) → not b ≡ false → b ≡ true
true_of true h = refl
true_of false h = absurd (cc)

conversion_low : (f : Func) → IsConversion f → group_index f < least_inputs f
conversion_low (func.Conv from to) converts = omega arith
conversion_low _ converts = absurd converts

module _ (pous : List Pou) (p : Pou) (tys : List Ty) (marks : List Bool) (k : ℕ) (keeps : Keeps pous p tys marks k) (u : ℕ) (e : BodyElement) (st : ElementStands pous p tys marks u e) (type_name : List ℕ) (instance : Option (List ℕ))
    (inputs in_outs : List PinIn) (outputs : List PinOut) (is : e.kind ≡ kind.Block type_name instance inputs in_outs outputs) (f : Func) (called : callee_named pous type_name ≡ Some (callee.Function f)) where
  abbrev sh : Sheet
  sh = sheet pous p tys marks

  abbrev c : Callee
  c = callee.Function f

  abbrev form : PinIn → Pin
  form = input_form pous p tys marks k keeps u e st type_name instance inputs in_outs outputs is c called

  abbrev Stood : Wired → Type 0
  Stood = WiredStands pous p tys marks u form inputs

  -- the listed inputs beside EN
  abbrev ws : List Wired
  ws = among (λ (i : PinIn). not (is_enable i)) (zip inputs st.pins)

  abbrev n : ℕ
  n = input_count inputs

  abbrev wl : Wired → Link
  wl = wired_link pous p

  pins_there : PinsOf pous p tys marks k keeps u e st type_name instance inputs in_outs outputs is c called
  pins_there = pins_of_block pous p tys marks k keeps u e st type_name instance inputs in_outs outputs is c called

  stood : Each (λ (w : Wired). Stood w × (not (is_enable w.0) ≡ true)) ws
  stood = each_filter Stood (λ (w : Wired). not (is_enable w.0)) (zip inputs st.pins) pins_there.inputs_stand

  formals_fine : formals_fail pous (Some c) inputs in_outs outputs ≡ false
  unfolding breaks breaks_formals
  formals_fine = ap (λ (d : Option Callee). formals_fail pous d inputs in_outs outputs) (sym called) ∙ ap (breaks_formals pous) (sym is) ∙ keeps.rules rule.Formals u e st.element

  inputs_fine : inputs_fail pous c inputs ≡ false
  inputs_fine = (or_parts (inputs_fail pous c inputs) (in_outs_fail pous c in_outs) (or_parts (inputs_fail pous c inputs || in_outs_fail pous c in_outs) (outputs_fail pous c outputs) formals_fine).0).0

  outputs_fine : outputs_fail pous c outputs ≡ false
  outputs_fine = (or_parts (inputs_fail pous c inputs || in_outs_fail pous c in_outs) (outputs_fail pous c outputs) formals_fine).1

  count_fine : can_have f n ≡ true
  unfolding inputs_fail
  count_fine = true_of (can_have f n) (or_parts (not (can_have f n)) _ (or_parts _ _ inputs_fine).0).0

  -- the listed input of a place
  record FoundInput (i : ℕ) : Type 0 where
    w : Wired
    found : input_at f ws i ≡ Some w
    one : Stood w
    beside : is_enable w.0 ≡ false
    class : (form w.0).class ≡ Some (input_class f i)

  some_input : (i : ℕ) → i < n → is_some (input_at f ws i) ≡ true
  some_input i low = find_wired (λ (q : PinIn). same_name (function_input f i).name q.formal) inputs st.pins pins_there.long
      (listed_at inputs f (range_with_len 0 n) i (none_is_missing pous f inputs inputs_fine) (in_range 0 n i (omega arith) (omega arith)))

  class_there : (i : ℕ) (q : PinIn) → i < n → is_enable q ≡ false → same_name (function_input f i).name q.formal ≡ true → input_class_of pous (Some c) inputs q ≡ Some (input_class f i)
  unfolding inputs_of
  class_there i q low simple same =
      ap (λ b. class_of (cond b (Some enable) (find (λ (x : Formal). same_name q.formal x.name) (function_inputs f n)))) simple
      ∙ formal_class f q.formal i (sym (bytes_same (in_lower_case (function_input f i).name) (in_lower_case q.formal) same)) (range_with_len 0 n) (in_range 0 n i (omega arith) (omega arith))

  found_input : (i : ℕ) → i < n → FoundInput i
  found_input i low =
      let there = some_there (input_at f ws i) (some_input i low) in
      let w = there.0 in
      let one = found_one (λ (x : Wired). Stood x × (not (is_enable x.0) ≡ true)) (λ (x : Wired). same_name (function_input f i).name x.0.formal) ws w stood there.1 in
      let simple = false_of (is_enable w.0) one.0.1 in
      record { w = w; found = there.1; one = one.0.0; beside = simple; class = class_there i w.0 low simple one.1 }

  -- ---- the links in their order

  abbrev links_from : ℕ → ℕ → List Link
  links_from a m = filter_map (λ i. option_map wl (input_at f ws i)) (range_with_len a m)

  abbrev types_of : List Link → List Ty
  types_of ls = map (λ (l : Link). l.ty) ls

  abbrev AllFound : ℕ → ℕ → Type 0
  AllFound a m = (i : ℕ) → a ≤ i → i < a + m → is_some (input_at f ws i) ≡ true

  later_found : (a m : ℕ) → AllFound a (suc m) → AllFound (a + 1) m
  later_found a m all i low high = all i (omega arith) (omega arith)

  first_link : (a m : ℕ) (w : Wired) → input_at f ws a ≡ Some w → links_from a (suc m) ≡ wl w ∷ links_from (a + 1) m
  first_link a m w is_w = ap (λ (o : Option Wired). cons_option (option_map wl o) (links_from (a + 1) m)) is_w

  links_count : (a m : ℕ) → AllFound a m → length (links_from a m) ≡ m
  links_count a zero all = refl
  links_count a (suc m) all =
      let w = some_there (input_at f ws a) (all a (omega arith) (omega arith)) in
      ap length (first_link a m w.0 w.1) ∙ ap suc (links_count (a + 1) m (later_found a m all))

  link_at_place : (a m j : ℕ) (w : Wired) → AllFound a m → j < m → input_at f ws (a + j) ≡ Some w → slice_get (types_of (links_from a m)) j ≡ Some w.1.ty
  link_at_place a zero j w all low is_w = absurd (omega arith)
  link_at_place a (suc m) zero w all low is_w =
      let stays : a ≡ a + 0 = omega arith in
      let here = ap (input_at f ws) stays ∙ is_w in
      ap (λ ls. slice_get (types_of ls) 0) (first_link a m w here) ∙ ap Some (link_has pous p w.0.mods.negated w.1)
  link_at_place a (suc m) (suc j) w all low is_w =
      let v = some_there (input_at f ws a) (all a (omega arith) (omega arith)) in
      let moved : a + 1 + j ≡ a + suc j = omega arith in
      ap (λ ls. slice_get (types_of ls) (suc j)) (first_link a m v.0 v.1) ∙ link_at_place (a + 1) m j w (later_found a m all) (omega arith) (ap (input_at f ws) moved ∙ is_w)

  links_have : (a m i : ℕ) (w : Wired) → AllFound a m → a ≤ i → i < a + m → input_at f ws i ≡ Some w → Contains (links_from a m) (wl w)
  links_have a zero i w all low high is_w = absurd (omega arith)
  links_have a (suc m) i w all low high is_w =
      let v = some_there (input_at f ws a) (all a (omega arith) (omega arith)) in
      subst (λ ls. Contains ls (wl w)) (sym (first_link a m v.0 v.1)) (by v.0 v.1 (cases_eq i a) (λ more. links_have (a + 1) m i w (later_found a m all) more (omega arith) is_w))
    where
      by : (v : Wired) → input_at f ws a ≡ Some v → (i ≡ a) ⊎ (i ≡ a → ⊥) → (a + 1 ≤ i → Contains (links_from (a + 1) m) (wl w)) → Contains (wl v ∷ links_from (a + 1) m) (wl w)
      by v is_v (inl same) later = let one : Some v ≡ Some w = sym is_v ∙ ap (input_at f ws) (sym same) ∙ is_w in let equal : v ≡ w = cc in subst (λ (x : Wired). Contains (wl v ∷ links_from (a + 1) m) (wl x)) equal (contains_first (wl v) (links_from (a + 1) m))
      by v is_v (inr apart) later = contains_later (wl v) (links_from (a + 1) m) (wl w) (later (omega (arith, apart)))

  -- the links of the function
  abbrev L : List Link
  L = function_links pous p f ws

  count_is : length ws ≡ n
  count_is = count_wired inputs st.pins pins_there.long

  all_found : AllFound 0 n
  all_found i low high = some_input i (omega arith)

  L_is : L ≡ links_from 0 n
  L_is = ap (λ m. links_from 0 m) count_is

  abbrev T : Ty
  T = group_by f L

  -- the type of the group is that of the input that tells it
  group_is : (i : ℕ) (low : i < n) → group_index f ≡ i → group_of f (types_of L) ≡ Some (found_input i low).w.1.ty
  group_is i low index =
      let g = found_input i low in
      ap (slice_get (types_of L)) index ∙ ap (λ ls. slice_get (types_of ls) i) L_is ∙ link_at_place 0 n i g.w all_found low (let stays : 0 + i ≡ i = omega arith in ap (input_at f ws) stays ∙ g.found)

  index_low : group_index f < n
  index_low = let least = has_least f n count_fine in by (is_conversion f) least
    where
      by : IsConversion f ⊎ (IsConversion f → ⊥) → least_inputs f ≤ n → group_index f < n
      by (inr simple) least = let low = (tells_group f simple).1 in omega arith
      by (inl converts) least = let low = conversion_low f converts in omega arith

  told : (t : Ty) → group_of f (types_of L) ≡ Some t → T ≡ t
  told t h = ap (λ (o : Option Ty). unwrap_or o ty.Bool) h

  -- the group of a function has this type
  record GroupHas : Type 0 where
    ty : Ty
    typed : HasType sh (AtGroup u) ty
    grouping : (form_at sh u).grouping ≡ grouping.Function (group_types f)

  group_has : (IsConversion f → ⊥) → GroupHas
  unfolding form_of
  group_has simple =
      let tells = tells_group f simple in
      let shape : (form_of pous p e.kind).grouping ≡ grouping.Function (group_types f) =
      ap (λ x. (form_of pous p x).grouping) is ∙ ap grouping_of called ∙ groups_at (group_types f) tells.2 in
      let g = keeps.shared u e st.element (λ apart. absurd (let h : grouping.Apart ≡ grouping.Function (group_types f) = sym apart ∙ shape in cc)) in
      record { ty = g.0; typed = g.1; grouping = ap (λ (x : Form). x.grouping) (form_is pous p tys marks u e st.element) ∙ shape }

  group_type : (simple : IsConversion f → ⊥) → T ≡ (group_has simple).ty
  group_type simple =
      let tells = tells_group f simple in
      let g = found_input (group_index f) index_low in
      let grouped = pin_grouped pous p tys marks k keeps u e st.element (form g.w.0) g.w.1 g.one.stand (group_has simple).ty (g.class ∙ ap Some tells.0) (group_has simple).typed in
      told g.w.1.ty (group_is (group_index f) index_low refl) ∙ grouped.0

  pub group_typed : output_class f ≡ class.Group → HasType sh (AtGroup u) T
  group_typed out = let simple = not_by_output f out in subst (HasType sh (AtGroup u)) (sym (group_type simple)) (group_has simple).typed

  -- ---- what an input has

  class_of_pin : (i : ℕ) (low : i < n) (cl : Class) → input_class f i ≡ cl → (form (found_input i low).w.0).class ≡ Some cl
  class_of_pin i low cl is_cl = (found_input i low).class ∙ ap Some is_cl

  -- an input that is listed is connected
  connected_there : (i : ℕ) (low : i < n) → is_connected (found_input i low).w.0 ≡ true
  unfolding breaks lacks_source
  connected_there i low =
      let fine : ((names_function type_name && list_any is_unconnected inputs) || list_any (λ (q : PinIn). not (has_one q)) in_outs) ≡ false = ap lacks_source (sym is) ∙ keeps.rules rule.Missing u e st.element in
      let first = (or_parts (names_function type_name && list_any is_unconnected inputs) (list_any (λ (q : PinIn). not (has_one q)) in_outs) fine).0 in
      let named : names_function type_name ≡ true = ap is_some (called_function pous type_name f called) in
      let none : list_any is_unconnected inputs ≡ false = sym (ap (λ b. b && list_any is_unconnected inputs) named) ∙ first in
      let g = found_input i low in
      let own = none_passes is_unconnected inputs g.w.0 none g.one.there in
      true_of (is_connected g.w.0) (sym (ap (λ b. not b && not (is_connected g.w.0)) g.beside) ∙ own)

  -- what a source gives: a type, or an untyped literal
  abbrev Given : Source → Type 0
  Given o = ((t : Ty) × HasType sh (AtOutput o) t) ⊎ (is_untyped (gives_at sh o) ≡ true)

  module _ (given : AreGiven pous p tys marks) where
    held_gives : (o : Source) (h : Option Held) → gives_at sh o ≡ gives_held h → (literal_by h ≡ None → Given o) → Given o
    held_gives o None gives other = other refl
    held_gives o (Some (OfLiteral (literal.Typed v))) gives other = inl (v.ty, DeclaredOutput gives)
    held_gives o (Some (OfLiteral (literal.Whole m))) gives other = inr (ap is_untyped gives)
    held_gives o (Some (OfVariable d t)) gives other = inl (t, DeclaredOutput gives)
    held_gives o (Some (OfInstance d)) gives other = other refl
    held_gives o (Some (OfOutput d x)) gives other = inl (x.ty, DeclaredOutput gives)

    source_gives : (o : Source) → IsOutput p.body.elements o → Given o
    unfolding form_of text_gives
    source_gives o output = by output.0.kind refl output.2
      where
        g : BodyElement
        g = output.0

        su : ElementStands pous p tys marks o.element g
        su = element_stands pous p tys marks keeps.typed keeps.sourced keeps.marked o.element g output.1

        form_there : (m : Kind) → g.kind ≡ m → form_at sh o.element ≡ form_of pous p m
        form_there m is_m = form_is pous p tys marks o.element g output.1 ∙ ap (form_of pous p) is_m

        wired : (m : Kind) → g.kind ≡ m → HasOutput m o.pin → IsWired pous p m → Given o
        wired m is_m has one =
            let r = given o.element g su o.pin (subst (λ x. HasOutput x o.pin) (sym is_m) has) (subst (IsWired pous p) (sym is_m) one) in
            inl (r.ty, r.typed)

        by : (m : Kind) → g.kind ≡ m → HasOutput m o.pin → Given o
        by kind.Skipped is_m has = absurd has
        by kind.LeftRail is_m has = inl (ty.Bool, DeclaredOutput (ap (λ (x : Form). (output_among x.outputs o.pin).gives) (form_there kind.LeftRail is_m)))
        by (kind.RightRail input) is_m has = absurd has
        by (kind.Contact input text mods) is_m has = wired (kind.Contact input text mods) is_m has tt
        by (kind.Coil input text mods) is_m has = wired (kind.Coil input text mods) is_m has tt
        by (kind.In text mods) is_m has = held_gives o (text_held pous p text) (ap (λ (x : Form). (output_among x.outputs o.pin).gives) (form_there (kind.In text mods) is_m)) (λ none. wired (kind.In text mods) is_m has none)
        by (kind.Out input text mods) is_m has = absurd has
        by (kind.Block type instance' inputs' in_outs' outputs') is_m has = wired (kind.Block type instance' inputs' in_outs' outputs') is_m has tt
        by (kind.Connector name input) is_m has = wired (kind.Connector name input) is_m has tt
        by (kind.Continuation name) is_m has = wired (kind.Continuation name) is_m has tt
        by (kind.Label name) is_m has = absurd has
        by (kind.Jump label input) is_m has = absurd has
        by (kind.Return input) is_m has = absurd has

    -- the type of an input, which suits its class
    record Typed (i : ℕ) (low : i < n) : Type 0 where
      has : HasType sh (AtPin (found_input i low).one.stand.number) (found_input i low).w.1.ty
      suit : suits (input_class f i) T (found_input i low).w.1.ty ≡ true

    lone_typed : (i : ℕ) (low : i < n) → input_class f i ≡ class.Lone → Typed i low
    lone_typed i low is_lone = by (found_input i low).w.1.feeds refl
      where
        lone : (pin_at sh (found_input i low).one.stand.number).class ≡ Some class.Lone
        lone = ap (λ (x : Pin). x.class) (found_input i low).one.stand.is ∙ class_of_pin i low class.Lone is_lone

        typed_by : (t : Ty) → HasType sh (AtPin (found_input i low).one.stand.number) t → Typed i low
        typed_by t h =
            let same = pin_only pous p tys marks k keeps u e st.element (form (found_input i low).w.0) (found_input i low).w.1 (found_input i low).one.stand t h in
            let own = subst (HasType sh (AtPin (found_input i low).one.stand.number)) (sym same) h in
            let whole = cases_Bool (is_whole (found_input i low).w.1.ty) in
            record {
              has = own;
              suit = ap (λ x. suits x T (found_input i low).w.1.ty) is_lone ∙ (elim whole [
                | inl h ↦ h
                | inr h ↦ absurd (keeps.agrees u e st.element (LoneIsBarred (record { count = (found_input i low).one.stand.below; owner = ap (λ (x : Pin). x.element) (found_input i low).one.stand.is ∙ (found_input i low).one.stand.owner }) lone own h))
              ]);
            }

        by : (feeds : List Feed) → (found_input i low).w.1.feeds ≡ feeds → Typed i low
        by [] none =
            let some = connected (found_input i low).w.0 (connected_there i low) in
            let count = (found_input i low).one.count in
            let empty : length (found_input i low).w.1.feeds ≡ 0 = ap length none in
            absurd (omega (arith, some, count, empty))
        by (x ∷ feeds) first =
            let o = x.0 in
            let here : Contains (sources_of (found_input i low).w.1) o = subst (λ (l : List Feed). Contains (map (λ (y : Feed). y.0) l) o) (sym first) (contains_first o (map (λ (y : Feed). y.0) feeds)) in
            let there : Contains (sources_at sh (found_input i low).one.stand.number) o = subst (λ l. Contains l o) (found_input i low).one.stand.sources here in
            let outputs' = each_get_at (IsOutput p.body.elements) (sources_in p.body.elements) (found_input i low).one.stand.number keeps.outputs in
            let output = each_at (IsOutput p.body.elements) (sources_at sh (found_input i low).one.stand.number) o outputs' there in
            elim (source_gives o output) [
              | inl typed ↦ typed_by typed.0 (LoneOfSource (found_input i low).one.stand.below lone there typed.1)
              | inr untyped ↦ typed_by ty.Dint (LoneOfLiteral (found_input i low).one.stand.below lone there untyped)
            ]

    group_typed_input : (i : ℕ) (low : i < n) → input_class f i ≡ class.Group → Typed i low
    group_typed_input i low is_group =
        let g = found_input i low in
        let simple = not_by_input f i is_group in
        let r = pin_grouped pous p tys marks k keeps u e st.element (form g.w.0) g.w.1 g.one.stand (group_has simple).ty (class_of_pin i low class.Group is_group) (group_has simple).typed in
        record {
          has = subst (HasType sh (AtPin g.one.stand.number)) (sym r.0) r.1;
          suit = ap (λ x. suits x T g.w.1.ty) is_group ∙ subst (λ t. same_ty T t ≡ true) (group_type simple ∙ sym r.0) (same_self T);
        }

    fixed_typed : (i : ℕ) (low : i < n) (t : Ty) → input_class f i ≡ class.Fixed t → Typed i low
    fixed_typed i low t is_fixed =
        let g = found_input i low in
        let r = pin_fixed pous p tys marks k keeps u e st.element (form g.w.0) g.w.1 g.one.stand t (class_of_pin i low (class.Fixed t) is_fixed) in
        record {
          has = subst (HasType sh (AtPin g.one.stand.number)) (sym r.0) r.1;
          suit = ap (λ x. suits x T g.w.1.ty) is_fixed ∙ subst (λ v. same_ty t v ≡ true) (sym r.0) (same_self t);
        }

    typed_input : (i : ℕ) (low : i < n) → Typed i low
    typed_input i low = by (input_class f i) refl
      where
        by : (cl : Class) → input_class f i ≡ cl → Typed i low
        by class.Group is_cl = group_typed_input i low is_cl
        by class.Lone is_cl = lone_typed i low is_cl
        by (class.Fixed t) is_cl = fixed_typed i low t is_cl

    -- ---- the signature

    -- the links from a place on suit the function
    all_suit_from : (a m : ℕ) → a + m ≡ n → all_suit f T a (types_of (links_from a m)) ≡ true
    all_suit_from a zero last = refl
    all_suit_from a (suc m) last =
        let low : a < n = omega arith in
        let g = found_input a low in
        let own : suits (input_class f a) T (wl g.w).ty ≡ true = ap (λ t. suits (input_class f a) T t) (link_has pous p g.w.0.mods.negated g.w.1) ∙ (typed_input a low).suit in
        ap (λ ls. all_suit f T a (types_of ls)) (first_link a m g.w g.found) ∙ and_from (suits (input_class f a) T (wl g.w).ty) (all_suit f T (a + 1) (types_of (links_from (a + 1) m))) own (all_suit_from (a + 1) m (omega arith))

    allowed_there : (IsConversion f → ⊥) → is_allowed (group_types f) T ≡ true
    allowed_there simple =
        let g = group_has simple in
        let same = group_type simple in
        elim (cases_Bool (is_allowed (group_types f) T)) [
          | inl h ↦ h
          | inr h ↦ absurd (keeps.agrees u e st.element (GroupIsBarred g.grouping (subst (HasType sh (AtGroup u)) (sym same) g.typed) h))
        ]

    real : is_function f ≡ true
    real = (function_is type_name f (called_function pous type_name f called)).real

    types_count : length (types_of L) ≡ n
    types_count = length-map L (λ (l : Link). l.ty) ∙ ap length L_is ∙ links_count 0 n all_found

    applies : can_apply f T (types_of L) ≡ true
    applies =
        and_from (can_have f (length (types_of L))) (takes f T && all_suit f T 0 (types_of L)) (ap (can_have f) types_count ∙ count_fine)
        (and_from (takes f T) (all_suit f T 0 (types_of L)) (takes_by f T real allowed_there) (ap (λ ls. all_suit f T 0 (types_of ls)) L_is ∙ all_suit_from 0 n (omega arith)))

    group_some : group_of f (types_of L) ≡ Some T
    group_some = let h = group_is (group_index f) index_low refl in h ∙ ap Some (sym (told _ h))

    -- ---- OUT

    -- what is negated is BOOL
    record NegatedOut : Type 0 where
      pin : ℕ
      o : PinOut
      there : slice_get outputs pin ≡ Some o
      plain : is_eno o ≡ false
      negated : o.mods.negated ≡ true

    out_formal : (o : PinOut) → Contains outputs o → is_eno o ≡ false → output_formal pous c outputs o ≡ Some (result f)
    unfolding outputs_fail outputs_of
    out_formal o there plain =
        let parts = or_parts (list_any (λ (x : PinOut). is_none (output_formal pous c outputs x)) outputs) _ outputs_fine in
        let some = none_passes (λ (x : PinOut). is_none (output_formal pous c outputs x)) outputs o parts.0 there in
        by (same_name (output_name true outputs o) (codes "ENO")) (same_name (output_name true outputs o) (codes "OUT")) refl some
      where
        by : (a b : Bool) → same_name (output_name true outputs o) (codes "ENO") ≡ a → is_none (cond a (Some enabled) (cond b (Some (result f)) None)) ≡ false → cond a (Some enabled) (cond b (Some (result f)) None) ≡ Some (result f)
        by true b is_a some = absurd (let h : true ≡ false = sym (stands_for_eno true outputs o is_a) ∙ plain in cc)
        by false true is_a some = refl
        by false false is_a some = absurd (cc)

    out_typed : (pin : ℕ) (o : PinOut) → slice_get outputs pin ≡ Some o → is_eno o ≡ false → HasType sh (AtOutput (record { element = u; pin = pin })) (out_type f T)
    out_typed pin o there plain = by (output_class f) refl
      where
        gives : gives_at sh (record { element = u; pin = pin }) ≡ gives_class (Some (output_class f))
        gives =
            ap (λ (x : Out). x.gives) (listed_out pous p tys marks k keeps u e st.element type_name instance inputs in_outs outputs is c called pin o there)
            ∙ ap (λ (r : Option Formal). gives_class (class_of r)) (out_formal o (contains_at outputs pin o there) plain)

        by : (cl : Class) → output_class f ≡ cl → HasType sh (AtOutput (record { element = u; pin = pin })) (elim cl [ class.Group ↦ T | class.Lone ↦ T | class.Fixed v ↦ v ])
        by (class.Fixed t) is_cl = DeclaredOutput (gives ∙ ap (λ x. gives_class (Some x)) is_cl)
        by class.Group is_cl = OutputOfGroup refl (gives ∙ ap (λ x. gives_class (Some x)) is_cl) (group_typed is_cl)
        by class.Lone is_cl = absurd (out_class f is_cl)

    out_bool : NegatedOut → out_type f T ≡ ty.Bool
    out_bool x = one_type (out_type f T) ty.Bool (λ differ. keeps.agrees u e st.element
        (OutputIsNoBool refl (ap (λ (y : Out). y.negated) (listed_out pous p tys marks k keeps u e st.element type_name instance inputs in_outs outputs is c called x.pin x.o x.there) ∙ x.negated) (out_typed x.pin x.o x.there x.plain) differ))

    negated_out : (os : List PinOut) → ((i : ℕ) (o : PinOut) → slice_get os i ≡ Some o → (j : ℕ) × (slice_get outputs j ≡ Some o)) → is_negated (beside os) ≡ true → NegatedOut
    negated_out [] among' h = absurd (cc)
    negated_out (o ∷ os) among' h = by (is_eno o) refl h (negated_out os (λ i x at. among' (suc i) x at))
      where
        by : (b : Bool) → is_eno o ≡ b → is_negated (cond (not b) (o ∷ beside os) (beside os)) ≡ true → (is_negated (beside os) ≡ true → NegatedOut) → NegatedOut
        by true is_b neg later = later neg
        by false is_b neg later = let at = among' 0 o refl in record { pin = at.0; o = o; there = at.1; plain = is_b; negated = neg }

    -- ---- the element

    module _ (dia : diagram.Project) (networks : List (List ℕ)) (D : List (ℕ × Port)) (before : IsBefore pous p tys marks dia networks u D) where
      abbrev place : Standing
      place = standing pous p tys marks dia networks D

      abbrev enabling : Enable
      enabling = enable_of pous p (zip inputs st.pins) outputs

      of_block : links_of (kind_of pous p st.pins (kind.Block type_name instance inputs in_outs outputs)) ≡ enable_links enabling ++ L
      of_block = ap (λ (o : Option Callee). links_of (block_by pous p o instance inputs (zip inputs st.pins) (zip in_outs (drop (length inputs) st.pins)) outputs)) called

      link_there : (i : ℕ) (low : i < n) → LinkFits place (wl (found_input i low).w)
      link_there i low =
          let g = found_input i low in
          let own : Contains L (wl g.w) = subst (λ ls. Contains ls (wl g.w)) (sym L_is) (links_have 0 n i g.w all_found (omega arith) (omega arith) g.found) in
          let there = subst (λ ls. Contains ls (wl g.w)) (sym of_block) (Contains-append_right (enable_links enabling) L (wl g.w) own) in
          input_fits pous p tys marks dia networks k keeps given D u e st before type_name instance inputs in_outs outputs is c called g.w g.one (connected_there i low) (typed_input i low).has there

      links_fit : (a m : ℕ) → a + m ≡ n → Each (LinkFits place) (links_from a m)
      links_fit a zero last = tt
      links_fit a (suc m) last =
          let low : a < n = omega arith in
          let g = found_input a low in
          subst (Each (LinkFits place)) (sym (first_link a m g.w g.found)) (link_there a low, links_fit (a + 1) m (omega arith))

      function_fits : FunctionFits place f T L
      function_fits = record {
        function = real;
        group = group_some;
        applies = applies;
        inputs = subst (Each (LinkFits place)) (sym L_is) (links_fit 0 n (omega arith));
      }

      enables_fit : EnableFits place enabling
      enables_fit = enable_fits pous p tys marks dia networks k keeps given D u e st before type_name instance inputs in_outs outputs is c called
          (λ link there. subst (λ ls. Contains ls link) (sym of_block) (Contains-append_left (enable_links enabling) L link there))

      -- a function suits its POU
      pub function_kind_fits : KindFits place (kind_of pous p st.pins (kind.Block type_name instance inputs in_outs outputs))
      function_kind_fits =
          subst (λ (o : Option Callee). KindFits place (block_by pous p o instance inputs (zip inputs st.pins) (zip in_outs (drop (length inputs) st.pins)) outputs)) (sym called)
          (function_fits, enables_fit, (λ negated. out_bool (negated_out outputs (λ i o at. (i, at)) negated)))
