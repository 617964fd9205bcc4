-- What feeds back in a body is no more than its connections and continuations, and so a diagram has at most twice the parts of its project.
use Rattle.std.proofs.Common.{◌≡◌, ℕ, zero, suc, ◌≤◌, inl, inr, Bool, true, false, cond, List, [], ◌∷◌, ◌++◌, map, length, take, drop, Option, Some, None, refl, sym, ap, ap₂, ◌∙◌, arith}
use Rattle.std.specs.Prelude.{not, ◌&&◌, ◌||◌, nat_eq}
use Rattle.std.specs.List.{list_any, find, filter_map, cons_option, zip, flat_map, range_with_len}
use Rattle.std.specs.Option.{option_map}
use Rattle.std.specs.Str.{bytes_eq}
use Rattle.std.proofs.lemmas.Bool.{and_parts, and_from, or_cases, eq-eqb, eqb-true}
use Rattle.plcx_types.specs.declared.ty.Ty.{Ty}
use Rattle.plcx_types.specs.Lists.{Each}
use Rattle.plcx_funcs.specs.declared.func.Func.{Func}
use Rattle.plcx_meaning.specs.Diagram.{Source, Rail, Literal, Wire, Back, Link, links_of, enable_links, reads_back, link_reads_back, DiagramElement, InputPin}
use Rattle.plcx_meaning.proofs.Lists.{each_weaker}
use Rattle.plcx_meaning.proofs.Names.{bytes_same, bytes_self}
use Rattle.plcx_model.specs.declared.body.PinIn.{PinIn}
use Rattle.plcx_model.specs.declared.body.PinOut.{PinOut}
use Rattle.plcx_model.specs.declared.body.Kind.{Kind}
use Rattle.plcx_model.specs.declared.body.Kind.TheVariants as kind
use Rattle.plcx_model.specs.declared.body.BodyElement.{BodyElement}
use Rattle.plcx_model.specs.declared.project.Pou.{Pou}
use Rattle.plcx_model.specs.Numbering.{pins_of}
use Rattle.plcx_rules.specs.declared.callee.Callee.{Callee}
use Rattle.plcx_rules.specs.declared.callee.Callee.TheVariants as callee
use Rattle.plcx_rules.specs.Callees.{callee_named, is_enable}
use Rattle.plcx_rules.specs.Helds.{Held, OfLiteral, OfVariable, OfInstance, OfOutput, text_held}
use Rattle.plcx_view.specs.Pins.{Pin}
use Rattle.plcx_view.specs.Operands.{reading_by}
use Rattle.plcx_view.specs.Links.{source_of, link_by, link_at}
use Rattle.plcx_view.specs.Blocks.{Wired, wired_link, enables, is_taken, among, enable_of, input_at, function_links, input_pin, call_by, block_by}
use Rattle.plcx_view.specs.Kinds.{kind_of}
use Rattle.plcx_view.specs.Diagrams.{elements_from}
use Rattle.plcx_fits.proofs.Pigeons.{Has}
use Rattle.plcx_fits.proofs.Ports.{found_one}

-- ---- what is read as feeding back comes over a connection

any_append : {A : Type 0} (test : A → Bool) (xs ys : List A) → list_any test (xs ++ ys) ≡ (list_any test xs || list_any test ys)
any_append test [] ys = refl
any_append test (x ∷ xs) ys = ap (λ b. test x || b) (any_append test xs ys) ∙ sym (three (test x) (list_any test xs) (list_any test ys))
  where
    three : (a b c : Bool) → ((a || b) || c) ≡ (a || (b || c))
    three true b c = refl
    three false b c = refl

or_first : (a b : Bool) → a ≡ true → (a || b) ≡ true
or_first true b h = refl
or_first false b h = absurd (cc)

or_second : (a b : Bool) → b ≡ true → (a || b) ≡ true
or_second true b h = refl
or_second false b h = h

abbrev either : {T : Type 0} (a b : Bool) → (a || b) ≡ true → (a ≡ true → T) → (b ≡ true → T) → T
either a b h f g = elim (or_cases a b h) [ inl x ↦ f x | inr y ↦ g y ]

module _ (pous : List Pou) (p : Pou) where
  -- all sources of some pins
  abbrev pub sources_of : List Pin → List Source
  sources_of pins = flat_map (λ (pin : Pin). map (source_of pous p) pin.feeds) pins

  module _ (id : ℕ) (n : List ℕ) where
    -- one of the pins has the output among its sources
    abbrev pub read_by : List Pin → Bool
    read_by pins = list_any (reads_back id n) (sources_of pins)

    read_more : (pin : Pin) (pins : List Pin) → read_by pins ≡ true → read_by (pin ∷ pins) ≡ true
    read_more pin pins h = any_append (reads_back id n) (map (source_of pous p) pin.feeds) (sources_of pins) ∙ or_second _ _ h

    read_here : (pin : Pin) (pins : List Pin) → list_any (reads_back id n) (map (source_of pous p) pin.feeds) ≡ true → read_by (pin ∷ pins) ≡ true
    read_here pin pins h = any_append (reads_back id n) (map (source_of pous p) pin.feeds) (sources_of pins) ∙ or_first _ _ h

    read_front : (k : ℕ) (pins : List Pin) → read_by (take k pins) ≡ true → read_by pins ≡ true
    read_front zero pins h = absurd (cc)
    read_front (suc k) [] h = absurd (cc)
    read_front (suc k) (pin ∷ pins) h =
        either _ _ (sym (any_append (reads_back id n) (map (source_of pous p) pin.feeds) (sources_of (take k pins))) ∙ h)
        (λ a. read_here pin pins a) (λ b. read_more pin pins (read_front k pins b))

    read_back : (k : ℕ) (pins : List Pin) → read_by (drop k pins) ≡ true → read_by pins ≡ true
    read_back zero pins h = h
    read_back (suc k) [] h = absurd (cc)
    read_back (suc k) (pin ∷ pins) h = read_more pin pins (read_back k pins h)

    by_link : (t : Ty) (negated : Bool) (ss : List Source) → link_reads_back id n (link_by t negated ss) ≡ true → list_any (reads_back id n) ss ≡ true
    by_link t negated [] h = absurd (cc)
    by_link t negated (s ∷ ss) h = h

    -- a link reads the output only where one of these pins does
    abbrev IsRead : List Pin → Link → Type 0
    IsRead pins link = link_reads_back id n link ≡ true → read_by pins ≡ true

    all_read : (pins : List Pin) (links : List Link) → Each (IsRead pins) links → list_any (link_reads_back id n) links ≡ true → read_by pins ≡ true
    all_read pins [] all h = absurd (cc)
    all_read pins (link ∷ links) all h = either (link_reads_back id n link) (list_any (link_reads_back id n) links) h all.0 (all_read pins links all.1)

    at_read : (pins : List Pin) → IsRead pins (link_at pous p pins)
    at_read [] h = absurd (cc)
    at_read (pin ∷ pins) h = read_here pin pins (by_link _ _ (map (source_of pous p) pin.feeds) h)

    -- a listed pin is one of these
    abbrev IsWired : List Pin → Wired → Type 0
    IsWired pins w = list_any (reads_back id n) (map (source_of pous p) w.1.feeds) ≡ true → read_by pins ≡ true

    all_wired : (inputs : List PinIn) (pins : List Pin) → Each (IsWired pins) (zip inputs pins)
    all_wired [] pins = tt
    all_wired (i ∷ inputs) [] = tt
    all_wired (i ∷ inputs) (pin ∷ pins) = ((λ h. read_here pin pins h), each_weaker (IsWired pins) (IsWired (pin ∷ pins)) (zip inputs pins) (λ w r h. read_more pin pins (r h)) (all_wired inputs pins))

    wired_read : (pins : List Pin) (w : Wired) → IsWired pins w → IsRead pins (wired_link pous p w)
    wired_read pins w is h = is (by_link _ _ (map (source_of pous p) w.1.feeds) h)

    kept_wired : (pins : List Pin) (is : PinIn → Bool) (ws : List Wired) → Each (IsWired pins) ws → Each (IsWired pins) (among is ws)
    kept_wired pins is [] all = tt
    kept_wired pins is (w ∷ ws) all = by (is w.0) (kept_wired pins is ws all.1)
      where
        by : (b : Bool) → Each (IsWired pins) (among is ws) → Each (IsWired pins) (cond b (w ∷ among is ws) (among is ws))
        by true rest = (all.0, rest)
        by false rest = rest

    found_read : (pins : List Pin) (o : Option Wired) (ws : List Wired) (test : Wired → Bool) → Each (IsWired pins) ws → find test ws ≡ o → Each (IsRead pins) (cons_option (option_map (wired_link pous p) o) [])
    found_read pins None ws test all h = tt
    found_read pins (Some w) ws test all h = (wired_read pins w (found_one (IsWired pins) test ws w all h).0, tt)

    enable_read : (pins : List Pin) (ws : List Wired) (outputs : List PinOut) → Each (IsWired pins) ws → Each (IsRead pins) (enable_links (enable_of pous p ws outputs))
    enable_read pins ws outputs all = by (find (λ (w : Wired). enables w.0) ws) refl
      where
        by : (o : Option Wired) → find (λ (w : Wired). enables w.0) ws ≡ o → Each (IsRead pins) (elim (option_map (wired_link pous p) o) [ Some link ↦ link ∷ [] | None ↦ [] ])
        by None h = tt
        by (Some w) h = (wired_read pins w (found_one (IsWired pins) (λ (v : Wired). enables v.0) ws w all h).0, tt)

    function_read : (pins : List Pin) (f : Func) (ws : List Wired) (places : List ℕ) → Each (IsWired pins) ws → Each (IsRead pins) (filter_map (λ i. option_map (wired_link pous p) (input_at f ws i)) places)
    function_read pins f ws [] all = tt
    function_read pins f ws (i ∷ places) all = by (input_at f ws i) refl (function_read pins f ws places all)
      where
        by : (o : Option Wired) → input_at f ws i ≡ o → Each (IsRead pins) (filter_map (λ j. option_map (wired_link pous p) (input_at f ws j)) places)
            → Each (IsRead pins) (cons_option (option_map (wired_link pous p) o) (filter_map (λ j. option_map (wired_link pous p) (input_at f ws j)) places))
        by None h rest = rest
        by (Some w) h rest = (wired_read pins w (found_one (IsWired pins) _ ws w all h).0, rest)

    inputs_read : (pins : List Pin) (c : Callee) (listed : List PinIn) (ws : List Wired) → Each (IsWired pins) ws → Each (IsRead pins) (map (λ (i : InputPin). i.link) (map (input_pin pous p c listed) ws))
    inputs_read pins c listed [] all = tt
    inputs_read pins c listed (w ∷ ws) all = (wired_read pins w all.0, inputs_read pins c listed ws all.1)

    joined_read : (pins : List Pin) (xs ys : List Link) → Each (IsRead pins) xs → Each (IsRead pins) ys → Each (IsRead pins) (xs ++ ys)
    joined_read pins [] ys a b = b
    joined_read pins (x ∷ xs) ys a b = (a.0, joined_read pins xs ys a.1 b)

    call_read : (pins : List Pin) (c : Callee) (instance : Option (List ℕ)) (listed : List PinIn) (ws in_outs : List Wired) (outputs : List PinOut) → Each (IsWired pins) ws → Each (IsRead pins) (links_of (call_by pous p c instance listed ws in_outs outputs))
    call_read pins c instance listed ws in_outs outputs all =
        joined_read pins (enable_links (enable_of pous p ws outputs)) (map (λ (i : InputPin). i.link) (map (input_pin pous p c listed) (among is_taken ws))) (enable_read pins ws outputs all)
        (inputs_read pins c listed (among is_taken ws) (kept_wired pins is_taken ws all))

    block_read : (pins : List Pin) (c : Option Callee) (instance : Option (List ℕ)) (listed : List PinIn) (ws in_outs : List Wired) (outputs : List PinOut) → Each (IsWired pins) ws → Each (IsRead pins) (links_of (block_by pous p c instance listed ws in_outs outputs))
    block_read pins None instance listed ws in_outs outputs all = tt
    block_read pins (Some (callee.Function f)) instance listed ws in_outs outputs all =
        let others = among (λ (i : PinIn). not (is_enable i)) ws in
        joined_read pins (enable_links (enable_of pous p ws outputs)) (function_links pous p f others) (enable_read pins ws outputs all)
        (function_read pins f others (range_with_len 0 (length others)) (kept_wired pins (λ (i : PinIn). not (is_enable i)) ws all))
    block_read pins (Some (callee.Standard k)) instance listed ws in_outs outputs all = call_read pins (callee.Standard k) instance listed ws in_outs outputs all
    block_read pins (Some (callee.Block place)) instance listed ws in_outs outputs all = call_read pins (callee.Block place) instance listed ws in_outs outputs all

    reading_read : (pins : List Pin) (negated : Bool) (h : Option Held) → Each (IsRead pins) (links_of (reading_by negated h))
    reading_read pins negated (Some (OfLiteral l)) = tt
    reading_read pins negated (Some (OfVariable d t)) = tt
    reading_read pins negated (Some (OfInstance d)) = tt
    reading_read pins negated (Some (OfOutput d output)) = tt
    reading_read pins negated None = tt

    kind_read : (pins : List Pin) (k : Kind) → Each (IsRead pins) (links_of (kind_of pous p pins k))
    kind_read pins kind.Skipped = tt
    kind_read pins kind.LeftRail = tt
    kind_read pins (kind.RightRail input) = tt
    kind_read pins (kind.Contact input text mods) = (at_read pins, tt)
    kind_read pins (kind.Coil input text mods) = (at_read pins, tt)
    kind_read pins (kind.In text mods) = reading_read pins mods.negated (text_held pous p text)
    kind_read pins (kind.Out input text mods) = (at_read pins, tt)
    kind_read pins (kind.Block type_name instance inputs in_outs outputs) =
        block_read pins (callee_named pous type_name) instance inputs (zip inputs pins) (zip in_outs (drop (length inputs) pins)) outputs (all_wired inputs pins)
    kind_read pins (kind.Connector name input) = (at_read pins, tt)
    kind_read pins (kind.Continuation name) = (at_read pins, tt)
    kind_read pins (kind.Label name) = tt
    kind_read pins (kind.Jump label input) = (at_read pins, tt)
    kind_read pins (kind.Return input) = (at_read pins, tt)

    element_reads : DiagramElement → Bool
    element_reads e = list_any (link_reads_back id n) (links_of e.kind)

    pub elements_read : (pins : List Pin) (es : List BodyElement) → list_any (λ (e : DiagramElement). list_any (link_reads_back id n) (links_of e.kind)) (elements_from pous p pins es) ≡ true → read_by pins ≡ true
    elements_read pins [] h = absurd (cc)
    elements_read pins (e ∷ es) h =
        let own = take (pins_of e.kind) pins in
        let others = drop (pins_of e.kind) pins in
        either (list_any (link_reads_back id n) (links_of (kind_of pous p own e.kind))) (list_any (λ (x : DiagramElement). list_any (link_reads_back id n) (links_of x.kind)) (elements_from pous p others es)) h
        (λ a. read_front (pins_of e.kind) pins (all_read own (links_of (kind_of pous p own e.kind)) (kind_read own e.kind) a))
        (λ b. read_back (pins_of e.kind) pins (elements_read others es b))

-- ---- outputs that feed back, each once

abbrev pub Output : Type 0
Output = ℕ × List ℕ

abbrev pub same_output : Output → Output → Bool
same_output a b = nat_eq a.0 b.0 && bytes_eq a.1 b.1

pub outputs_equal : (a b : Output) → same_output a b ≡ true → a ≡ b
outputs_equal a b h =
    let parts = and_parts (nat_eq a.0 b.0) (bytes_eq a.1 b.1) h in
    ap₂ (λ (i : ℕ) (n : List ℕ). let o : Output = (i, n) in o) (eqb-true a.0 b.0 parts.0) (bytes_same a.1 b.1 parts.1)

pub output_self : (a : Output) → same_output a a ≡ true
output_self a = and_from (nat_eq a.0 a.0) (bytes_eq a.1 a.1) (eq-eqb a.0 a.0 refl) (bytes_self a.1)

back_of : Source → List Output
back_of Rail = []
back_of (Literal negated m) = []
back_of (Wire i n) = []
back_of (Back i n) = (i, n) ∷ []

pub backs : List Source → List Output
unfolding back_of
backs ss = flat_map back_of ss

pub backs_few : (ss : List Source) → length (backs ss) ≤ length ss
unfolding backs
backs_few [] = omega arith
backs_few (Rail ∷ ss) = let rest = backs_few ss in omega arith
backs_few (Literal negated m ∷ ss) = let rest = backs_few ss in omega arith
backs_few (Wire i n ∷ ss) = let rest = backs_few ss in omega arith
backs_few (Back i n ∷ ss) = let rest = backs_few ss in omega arith

pub backs_have : (id : ℕ) (n : List ℕ) (ss : List Source) → list_any (reads_back id n) ss ≡ true → Has (backs ss) (id, n)
unfolding backs
backs_have id n [] h = absurd (cc)
backs_have id n (Rail ∷ ss) h = backs_have id n ss h
backs_have id n (Literal negated m ∷ ss) h = backs_have id n ss h
backs_have id n (Wire i m ∷ ss) h = backs_have id n ss h
backs_have id n (Back i m ∷ ss) h =
    either (nat_eq i id && bytes_eq m n) (list_any (reads_back id n) ss) h
    (λ a. inl (let parts = and_parts (nat_eq i id) (bytes_eq m n) a in ap₂ (λ (j : ℕ) (l : List ℕ). let o : Output = (j, l) in o) (sym (eqb-true i id parts.0)) (sym (bytes_same m n parts.1))))
    (λ b. inr (backs_have id n ss b))
