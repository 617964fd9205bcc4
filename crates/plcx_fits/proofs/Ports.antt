-- The outputs of an element of a diagram: their names, and those that feed back.
use Rattle.std.proofs.Common.{◌≡◌, ℕ, ◌≤◌, Bool, true, false, cond, List, [], ◌∷◌, ◌++◌, map, filter, length, Option, Some, None, slice_get, refl, sym, ap, ap₂, ◌∙◌, subst, arith, if◌then◌else◌}
use Rattle.std.specs.Prelude.{not, ◌&&◌, ◌||◌, is_none, codes, nat_lt, nat_le, slice_index}
use Rattle.std.specs.List.{list_any, list_all, find, filter_map, cons_option, flat_map}
use Rattle.std.specs.Option.{option_map}
use Rattle.std.specs.Str.{bytes_eq}
use Rattle.std.proofs.lemmas.Bool.{and_parts, or_parts, or_from}
use Rattle.plcx_types.specs.declared.ty.Ty.{Ty}
use Rattle.plcx_types.specs.declared.ty.Ty.TheVariants as ty
use Rattle.plcx_types.specs.Limits.{max_name_bytes}
use Rattle.plcx_types.specs.Lists.{Each}
use Rattle.plcx_types.specs.Name.{in_lower_case, is_identifier, is_first_byte, is_next_byte}
use Rattle.plcx_std.specs.declared.kind.StdKind.{StdKind}
use Rattle.plcx_std.specs.declared.kind.StdKind.TheVariants as std
use Rattle.plcx_std.specs.declared.pin.Role.TheVariants as role
use Rattle.plcx_meaning.specs.Base.{are_distinct}
use Rattle.plcx_meaning.specs.Diagram.{Enable, OutputPin, ElementKind, Port, port, ports, has_eno, eno_ports, output_ports, is_fed, link_reads_back, links_of, DiagramElement, Link}
use Rattle.plcx_meaning.specs.Diagram as diagram
use Rattle.plcx_meaning.specs.Fits.{IsPin}
use Rattle.plcx_meaning.proofs.Lists.{each_weaker, each_map, each_append, IsNew, distinct_from}
use Rattle.plcx_meaning.proofs.Names.{bytes_same, bytes_swapped}
use Rattle.plcx_model.specs.declared.body.PinIn.{PinIn}
use Rattle.plcx_model.specs.declared.body.PinOut.{PinOut}
use Rattle.plcx_model.specs.declared.body.Kind.{Kind}
use Rattle.plcx_model.specs.declared.body.Kind.TheVariants as kind
use Rattle.plcx_model.specs.declared.project.ListClass.{ListClass}
use Rattle.plcx_model.specs.declared.project.ListClass.TheVariants.{Output}
use Rattle.plcx_model.specs.declared.project.Variable.{Variable}
use Rattle.plcx_model.specs.declared.project.VarList.{VarList}
use Rattle.plcx_model.specs.declared.project.Pou.{Pou}
use Rattle.plcx_model.specs.Sound.{VariableIsSound, ListIsSound, PouIsSound}
use Rattle.plcx_rules.specs.declared.callee.Callee.{Callee}
use Rattle.plcx_rules.specs.declared.callee.Callee.TheVariants as callee
use Rattle.plcx_rules.specs.Texts.{same_name}
use Rattle.plcx_rules.specs.Declarations.{Declaration, declared_in, declarations_of, plain_type, same_class}
use Rattle.plcx_rules.specs.Callees.{BlockPin, standard_pins, pin_of, pins_where, Formal, fixed, enabled, outputs_of, formal_named, is_eno, output_name, is_function, output_formal, callee_named}
use Rattle.plcx_rules.specs.Helds.{Held, OfLiteral, OfVariable, OfInstance, OfOutput, text_held}
use Rattle.plcx_rules.specs.LinkRules.{has_double, outputs_fail}
use Rattle.plcx_view.specs.Pins.{Pin}
use Rattle.plcx_view.specs.Operands.{reading_by}
use Rattle.plcx_view.specs.Links.{declared_name}
use Rattle.plcx_view.specs.Blocks.{Wired, beside, enable_of, output_pin, call_by, block_by}
use Rattle.plcx_view.specs.Kinds.{kind_of}
use Rattle.plcx_view.specs.Diagrams.{with_fed}
use Rattle.plcx_fits.proofs.Lists.{each_place}

-- ---- what feeds back

filter_same : {A : Type 0} (f g : A → Bool) (xs : List A) → ((x : A) → f x ≡ g x) → filter f xs ≡ filter g xs
filter_same f g [] same = refl
filter_same f g (x ∷ xs) same = ap₂ (λ b rest. cond b (x ∷ rest) rest) (same x) (filter_same f g xs same)

fed_among : (q : diagram.Pou) (id : ℕ) (o : Port) (es : List DiagramElement) → list_any (λ (e : DiagramElement). list_any (link_reads_back id o.pin) (links_of e.kind)) (map (with_fed q) es) ≡ list_any (λ (e : DiagramElement). list_any (link_reads_back id o.pin) (links_of e.kind)) es
fed_among q id o [] = refl
fed_among q id o (e ∷ es) = ap (λ rest. list_any (link_reads_back id o.pin) (links_of e.kind) || rest) (fed_among q id o es)

-- what feeds back of an element is what the POU reads as such: of these elements none is changed but by what feeds back
pub fed_fits : (p q : diagram.Pou) (e : DiagramElement) → p.elements ≡ map (with_fed q) q.elements → (with_fed q e).fed ≡ filter (is_fed p e.id) (ports e.kind)
fed_fits p q e is = sym (filter_same (is_fed p e.id) (is_fed q e.id) (ports e.kind) (λ o. ap (λ es. list_any (λ (x : DiagramElement). list_any (link_reads_back e.id o.pin) (links_of x.kind)) es) is ∙ fed_among q e.id o q.elements))

-- ---- names of outputs

-- the names of the outputs differ, and are names of pins
pub record AreNamed (k : ElementKind) : Type 0 where
  pub distinct : are_distinct (map (λ (o : Port). in_lower_case o.pin) (ports k)) ≡ true
  pub names : Each IsPin (ports k)

-- a formal parameter with such a name
abbrev pub IsGood : Formal → Type 0
IsGood f = (list_all is_next_byte f.name ≡ true) × (length f.name ≤ 64)

no_port : (k : ElementKind) → ports k ≡ [] → AreNamed k
no_port k is = record {
  distinct = ap (λ os. are_distinct (map (λ (o : Port). in_lower_case o.pin) os)) is;
  names = subst (Each IsPin) (sym is) tt;
}

one_port : (k : ElementKind) (t : Ty) → ports k ≡ port [] t ∷ [] → AreNamed k
one_port k t is = record {
  distinct = ap (λ os. are_distinct (map (λ (o : Port). in_lower_case o.pin) os)) is;
  names = subst (Each IsPin) (sym is) ((refl, omega arith), tt);
}

reading_named : (negated : Bool) (h : Option Held) → AreNamed (reading_by negated h)
reading_named negated (Some (OfLiteral l)) = no_port _ refl
reading_named negated (Some (OfVariable d t)) = one_port _ t refl
reading_named negated (Some (OfInstance d)) = no_port _ refl
reading_named negated (Some (OfOutput d output)) = one_port _ output.ty refl
reading_named negated None = no_port _ refl

-- ENO and OUT
eno_and_out : (b : Bool) (t : Ty) → let os = (if b then port (codes "ENO") ty.Bool ∷ [] else []) ++ port (codes "OUT") t ∷ [] in
    (are_distinct (map (λ (o : Port). in_lower_case o.pin) os) ≡ true) × Each IsPin os
eno_and_out true t = (refl, ((refl, omega arith), ((refl, omega arith), tt)))
eno_and_out false t = (refl, ((refl, omega arith), tt))

-- ENO before other outputs
eno_before : (b : Bool) (os : List Port) → are_distinct (map (λ (o : Port). in_lower_case o.pin) os) ≡ true → IsNew (codes "eno") (map (λ (o : Port). in_lower_case o.pin) os) → Each IsPin os → let all = (if b then port (codes "ENO") ty.Bool ∷ [] else []) ++ os in
    (are_distinct (map (λ (o : Port). in_lower_case o.pin) all) ≡ true) × Each IsPin all
eno_before true os distinct new names = (distinct_from (codes "eno") (map (λ (o : Port). in_lower_case o.pin) os) new distinct, ((refl, omega arith), names))
eno_before false os distinct new names = (distinct, names)

-- ---- the outputs that a block may list

standard_good : (k : StdKind) → Each IsGood (map fixed (standard_pins role.Out k))
standard_good std.Ton = ((refl, omega arith), ((refl, omega arith), tt))
standard_good std.Tof = ((refl, omega arith), ((refl, omega arith), tt))
standard_good std.Tp = ((refl, omega arith), ((refl, omega arith), tt))
standard_good std.Ctu = ((refl, omega arith), ((refl, omega arith), tt))
standard_good std.Ctd = ((refl, omega arith), ((refl, omega arith), tt))
standard_good std.Ctud = ((refl, omega arith), ((refl, omega arith), ((refl, omega arith), tt)))
standard_good std.Sr = ((refl, omega arith), tt)
standard_good std.Rs = ((refl, omega arith), tt)
standard_good std.RTrig = ((refl, omega arith), tt)
standard_good std.FTrig = ((refl, omega arith), tt)

abbrev IsGoodDeclaration : Declaration → Type 0
IsGoodDeclaration d = (list_all is_next_byte d.variable.name ≡ true) × (length d.variable.name ≤ 64)

good_name : (name : List ℕ) → is_identifier name ≡ true → list_all is_next_byte name ≡ true
good_name name h = (and_parts (nat_lt 0 (length name) && nat_le (length name) max_name_bytes && is_first_byte (slice_index name 0)) (list_all is_next_byte name) h).1

good_declarations : (pous : List Pou) (q : Pou) → PouIsSound pous q → Each IsGoodDeclaration (declarations_of q)
good_declarations pous q s = flat q.lists s.lists
  where
    flat : (lists : List VarList) → Each (ListIsSound pous q.kind) lists → Each IsGoodDeclaration (flat_map declared_in lists)
    flat [] all = tt
    flat (l ∷ lists) all =
        each_append IsGoodDeclaration (declared_in l) (flat_map declared_in lists)
        (each_map IsGoodDeclaration (λ (v : Variable). let d : Declaration = record { class = l.class; constant = l.constant; variable = v } in d) l.variables
        (each_weaker (VariableIsSound pous l) (λ (v : Variable). (list_all is_next_byte v.name ≡ true) × (length v.name ≤ 64)) l.variables (λ v h. (good_name v.name h.name.identifier, h.name.short)) all.0.variables))
        (flat lists all.1)

good_pins : (c : ListClass) (ds : List Declaration) → Each IsGoodDeclaration ds → Each IsGood (map fixed (filter_map pin_of (filter (λ (d : Declaration). same_class d.class c) ds)))
good_pins c [] all = tt
good_pins c (d ∷ ds) all = by (same_class d.class c) (plain_type d.variable.ty) refl (good_pins c ds all.1)
  where
    by : (b : Bool) (o : Option Ty) → plain_type d.variable.ty ≡ o → Each IsGood (map fixed (filter_map pin_of (filter (λ (x : Declaration). same_class x.class c) ds)))
        → Each IsGood (map fixed (filter_map pin_of (cond b (d ∷ filter (λ (x : Declaration). same_class x.class c) ds) (filter (λ (x : Declaration). same_class x.class c) ds))))
    by false o is rest = rest
    by true None is rest = subst (λ (r : Option Ty). Each IsGood (map fixed (cons_option (option_map (λ t. let b : BlockPin = record { name = d.variable.name; ty = t } in b) r) (filter_map pin_of (filter (λ (x : Declaration). same_class x.class c) ds))))) (sym is) rest
    by true (Some t) is rest = subst (λ (r : Option Ty). Each IsGood (map fixed (cons_option (option_map (λ u. let b : BlockPin = record { name = d.variable.name; ty = u } in b) r) (filter_map pin_of (filter (λ (x : Declaration). same_class x.class c) ds))))) (sym is) ((all.0.0, all.0.1), rest)

outputs_good : (pous : List Pou) → Each (PouIsSound pous) pous → (c : Callee) → is_function c ≡ false → Each IsGood (outputs_of pous c)
unfolding outputs_of
outputs_good pous sound (callee.Function f) h = absurd (cc)
outputs_good pous sound (callee.Standard k) h = standard_good k
outputs_good pous sound (callee.Block place) h = by (slice_get pous place) refl
  where
    by : (o : Option Pou) → slice_get pous place ≡ o → Each IsGood (map fixed (pins_where Output o))
    by None is = tt
    by (Some q) is = good_pins Output (declarations_of q) (good_declarations pous q (each_place (PouIsSound pous) pous place q is sound))

-- what is found is one of the list, and passes the test
pub found_one : {A : Type 0} (P : A → Type 0) (test : A → Bool) (xs : List A) (x : A) → Each P xs → find test xs ≡ Some x → P x × (test x ≡ true)
found_one P test [] x all h = absurd (cc)
found_one P test (y ∷ ys) x all h = by (test y) refl (found_one P test ys x all.1) h
  where
    by : (b : Bool) → test y ≡ b → (find test ys ≡ Some x → P x × (test x ≡ true)) → cond b (Some y) (find test ys) ≡ Some x → P x × (test x ≡ true)
    by true e later h = let same : y ≡ x = cc in (subst P same all.0, subst (λ z. test z ≡ true) same e)
    by false e later h = later h

-- a listed output of an instance, with what it stands for
record IsKnownOutput (pous : List Pou) (c : Callee) (outputs : List PinOut) (o : PinOut) : Type 0 where
  name : List ℕ
  is : declared_name (output_formal pous c outputs o) ≡ name
  same : in_lower_case name ≡ in_lower_case o.formal
  good : (list_all is_next_byte name ≡ true) × (length name ≤ 64)

known_output : (pous : List Pou) (c : Callee) (outputs : List PinOut) (o : PinOut) → is_function c ≡ false → Each IsGood (outputs_of pous c) → is_eno o ≡ false → is_none (output_formal pous c outputs o) ≡ false → IsKnownOutput pous c outputs o
known_output pous c outputs o block good other some = by (find (λ (f : Formal). same_name o.formal f.name) (outputs_of pous c)) refl
  where
    formal_is : output_formal pous c outputs o ≡ find (λ (f : Formal). same_name o.formal f.name) (outputs_of pous c)
    formal_is =
        ap (λ b. formal_named (output_name b outputs o) (enabled ∷ outputs_of pous c)) block
        ∙ ap (λ b. cond b (Some enabled) (find (λ (f : Formal). same_name o.formal f.name) (outputs_of pous c))) other

    by : (r : Option Formal) → find (λ (f : Formal). same_name o.formal f.name) (outputs_of pous c) ≡ r → IsKnownOutput pous c outputs o
    by None is = absurd (let h : true ≡ false = sym (ap is_none (formal_is ∙ is)) ∙ some in cc)
    by (Some f) is =
        let found = found_one IsGood (λ (g : Formal). same_name o.formal g.name) (outputs_of pous c) f good is in
        record {
          name = f.name;
          is = ap declared_name (formal_is ∙ is);
          same = sym (bytes_same (in_lower_case o.formal) (in_lower_case f.name) found.1);
          good = found.0;
        }

-- no name stands twice among some, so none among those of them that pass a test
names_apart : (os : List PinOut) → has_double (map (λ (o : PinOut). o.formal) os) ≡ false → are_distinct (map (λ (o : PinOut). in_lower_case o.formal) (beside os)) ≡ true
names_apart [] h = refl
names_apart (o ∷ os) h =
    let parts = or_parts (list_any (same_name o.formal) (map (λ (x : PinOut). x.formal) os)) (has_double (map (λ (x : PinOut). x.formal) os)) h in
    by (is_eno o) (new os parts.0) (names_apart os parts.1)
  where
    by : (b : Bool) → IsNew (in_lower_case o.formal) (map (λ (x : PinOut). in_lower_case x.formal) (beside os)) → are_distinct (map (λ (x : PinOut). in_lower_case x.formal) (beside os)) ≡ true
        → are_distinct (map (λ (x : PinOut). in_lower_case x.formal) (cond (not b) (o ∷ beside os) (beside os))) ≡ true
    by true fresh rest = rest
    by false fresh rest = distinct_from (in_lower_case o.formal) (map (λ (x : PinOut). in_lower_case x.formal) (beside os)) fresh rest

    new : (xs : List PinOut) → list_any (same_name o.formal) (map (λ (x : PinOut). x.formal) xs) ≡ false → IsNew (in_lower_case o.formal) (map (λ (x : PinOut). in_lower_case x.formal) (beside xs))
    new [] k = refl
    new (x ∷ xs) k = let parts = or_parts (same_name o.formal x.formal) (list_any (same_name o.formal) (map (λ (y : PinOut). y.formal) xs)) k in step (is_eno x) x xs parts.0 (new xs parts.1)
      where
        step : (b : Bool) (x : PinOut) (xs : List PinOut) → bytes_eq (in_lower_case o.formal) (in_lower_case x.formal) ≡ false → IsNew (in_lower_case o.formal) (map (λ (y : PinOut). in_lower_case y.formal) (beside xs))
            → IsNew (in_lower_case o.formal) (map (λ (y : PinOut). in_lower_case y.formal) (cond (not b) (x ∷ beside xs) (beside xs)))
        step true x xs apart rest = rest
        step false x xs apart rest = or_from (bytes_eq (in_lower_case o.formal) (in_lower_case x.formal)) (list_any (bytes_eq (in_lower_case o.formal)) (map (λ (y : PinOut). in_lower_case y.formal) (beside xs))) apart rest

-- none of those beside ENO is ENO
not_eno : (os : List PinOut) → IsNew (codes "eno") (map (λ (o : PinOut). in_lower_case o.formal) (beside os))
not_eno [] = refl
not_eno (o ∷ os) = by (is_eno o) refl (not_eno os)
  where
    by : (b : Bool) → is_eno o ≡ b → IsNew (codes "eno") (map (λ (x : PinOut). in_lower_case x.formal) (beside os)) → IsNew (codes "eno") (map (λ (x : PinOut). in_lower_case x.formal) (cond (not b) (o ∷ beside os) (beside os)))
    by true e rest = rest
    by false e rest = or_from (bytes_eq (codes "eno") (in_lower_case o.formal)) (list_any (bytes_eq (codes "eno")) (map (λ (x : PinOut). in_lower_case x.formal) (beside os))) (bytes_swapped (codes "eno") (in_lower_case o.formal) ∙ e) rest

-- what is known of each listed output beside ENO
all_known : (pous : List Pou) (c : Callee) (outputs : List PinOut) (os : List PinOut) → is_function c ≡ false → Each IsGood (outputs_of pous c) → list_any (λ (o : PinOut). is_none (output_formal pous c outputs o)) os ≡ false → Each (IsKnownOutput pous c outputs) (beside os)
all_known pous c outputs [] block good h = tt
all_known pous c outputs (o ∷ os) block good h =
    let parts = or_parts (is_none (output_formal pous c outputs o)) (list_any (λ (x : PinOut). is_none (output_formal pous c outputs x)) os) h in
    by (is_eno o) refl parts.0 (all_known pous c outputs os block good parts.1)
  where
    by : (b : Bool) → is_eno o ≡ b → is_none (output_formal pous c outputs o) ≡ false → Each (IsKnownOutput pous c outputs) (beside os) → Each (IsKnownOutput pous c outputs) (cond (not b) (o ∷ beside os) (beside os))
    by true e some rest = rest
    by false e some rest = (known_output pous c outputs o block good e some, rest)

pins_of_outputs : (pous : List Pou) (c : Callee) (outputs : List PinOut) (os : List PinOut) → Each (IsKnownOutput pous c outputs) os
    → (map (λ (o : Port). in_lower_case o.pin) (output_ports (map (output_pin pous c outputs) os)) ≡ map (λ (o : PinOut). in_lower_case o.formal) os) × Each IsPin (output_ports (map (output_pin pous c outputs) os))
pins_of_outputs pous c outputs [] all = (refl, tt)
pins_of_outputs pous c outputs (o ∷ os) all =
    let rest = pins_of_outputs pous c outputs os all.1 in
    let one = all.0 in (
      ap₂ (λ (x : List ℕ) (xs : List (List ℕ)). x ∷ xs) (ap in_lower_case one.is ∙ one.same) rest.0,
      (subst (λ (n : List ℕ). (list_all is_next_byte n ≡ true) × (length n ≤ 64)) (sym one.is) one.good, rest.1),
    )

call_named : (pous : List Pou) → Each (PouIsSound pous) pous → (p : Pou) (c : Callee) (instance : Option (List ℕ)) (listed : List PinIn) (inputs in_outs : List Wired) (outputs : List PinOut) → is_function c ≡ false → outputs_fail pous c outputs ≡ false → AreNamed (call_by pous p c instance listed inputs in_outs outputs)
unfolding outputs_fail
call_named pous sound p c instance listed inputs in_outs outputs block fine =
    let parts = or_parts (list_any (λ (o : PinOut). is_none (output_formal pous c outputs o)) outputs) (has_double (map (output_name (is_function c) outputs) outputs)) fine in
    let known = all_known pous c outputs outputs block (outputs_good pous sound c block) parts.0 in
    let apart = names_apart outputs (sym (ap (λ b. has_double (map (output_name b outputs) outputs)) block) ∙ parts.1) in
    let pins = pins_of_outputs pous c outputs (beside outputs) known in
    let os = output_ports (map (output_pin pous c outputs) (beside outputs)) in
    let both = eno_before (has_eno (enable_of pous p inputs outputs)) os (ap are_distinct pins.0 ∙ apart) (ap (list_any (bytes_eq (codes "eno"))) pins.0 ∙ not_eno outputs) pins.1 in
    record { distinct = both.0; names = both.1 }

-- the outputs that a block lists suit what it calls
abbrev pub OutputsSuit : List Pou → Option Callee → List PinOut → Type 0
OutputsSuit pous None outputs = Unit {0}
OutputsSuit pous (Some c) outputs = outputs_fail pous c outputs ≡ false

block_named : (pous : List Pou) → Each (PouIsSound pous) pous → (p : Pou) (c : Option Callee) (instance : Option (List ℕ)) (listed : List PinIn) (inputs in_outs : List Wired) (outputs : List PinOut) → OutputsSuit pous c outputs → AreNamed (block_by pous p c instance listed inputs in_outs outputs)
block_named pous sound p None instance listed inputs in_outs outputs fine = no_port _ refl
block_named pous sound p (Some (callee.Function f)) instance listed inputs in_outs outputs fine =
    let both = eno_and_out (has_eno (enable_of pous p inputs outputs)) _ in
    record { distinct = both.0; names = both.1 }
block_named pous sound p (Some (callee.Standard k)) instance listed inputs in_outs outputs fine = call_named pous sound p (callee.Standard k) instance listed inputs in_outs outputs refl fine
block_named pous sound p (Some (callee.Block place)) instance listed inputs in_outs outputs fine = call_named pous sound p (callee.Block place) instance listed inputs in_outs outputs refl fine

-- what is presumed of an element
abbrev pub KindSuits : List Pou → Kind → Type 0
KindSuits pous (kind.Block type_name instance inputs in_outs outputs) = OutputsSuit pous (callee_named pous type_name) outputs
KindSuits pous _ = Unit {0}

pub kind_named : (pous : List Pou) → Each (PouIsSound pous) pous → (p : Pou) (pins : List Pin) (k : Kind) → KindSuits pous k → AreNamed (kind_of pous p pins k)
kind_named pous sound p pins kind.Skipped fine = no_port _ refl
kind_named pous sound p pins kind.LeftRail fine = no_port _ refl
kind_named pous sound p pins (kind.RightRail input) fine = no_port _ refl
kind_named pous sound p pins (kind.Contact input text mods) fine = one_port _ ty.Bool refl
kind_named pous sound p pins (kind.Coil input text mods) fine = one_port _ ty.Bool refl
kind_named pous sound p pins (kind.In text mods) fine = reading_named mods.negated (text_held pous p text)
kind_named pous sound p pins (kind.Out input text mods) fine = no_port _ refl
kind_named pous sound p pins (kind.Block type_name instance inputs in_outs outputs) fine = block_named pous sound p (callee_named pous type_name) instance inputs _ _ outputs fine
kind_named pous sound p pins (kind.Connector name input) fine = one_port _ _ refl
kind_named pous sound p pins (kind.Continuation name) fine = one_port _ _ refl
kind_named pous sound p pins (kind.Label name) fine = no_port _ refl
kind_named pous sound p pins (kind.Jump label input) fine = one_port _ ty.Bool refl
kind_named pous sound p pins (kind.Return input) fine = one_port _ ty.Bool refl
