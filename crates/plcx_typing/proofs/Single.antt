-- The pins of a body stand at its elements, and a connector and a continuation have one.
use Rattle.std.proofs.Common.{◌≡◌, ◌≢◌, ℕ, zero, suc, ◌+◌, ◌-◌, ◌<◌, ◌≤◌, ◌++◌, inl, inr, List, [], ◌∷◌, Option, Some, None, map, length, get_or, refl, sym, ◌∙◌, ap, arith}
use Rattle.std.specs.List.{All}
use Rattle.std.proofs.lemmas.Bool.{cases_lt}
use Rattle.std.proofs.lemmas.List.{get_or_append_left, get_or_default, length-append, length-map}
use Rattle.std.proofs.lemmas.List.Elements.{All-nil, All-cons, All-append}
use Rattle.plcx_funcs.specs.Pins.{group_types}
use Rattle.plcx_funcs.specs.declared.allowed.Allowed.{Allowed}
use Rattle.plcx_funcs.specs.declared.allowed.Allowed.TheVariants as set
use Rattle.plcx_model.specs.declared.body.PinIn.{PinIn}
use Rattle.plcx_model.specs.declared.body.Kind.{Kind}
use Rattle.plcx_model.specs.declared.body.Kind.TheVariants as kind
use Rattle.plcx_model.specs.declared.body.BodyElement.{BodyElement}
use Rattle.plcx_model.specs.declared.project.Pou.{Pou}
use Rattle.plcx_model.specs.declared.source.Source.{Source}
use Rattle.plcx_rules.specs.declared.callee.Callee.{Callee}
use Rattle.plcx_rules.specs.declared.callee.Callee.TheVariants as callee
use Rattle.plcx_rules.specs.declared.form.Pin.{Pin}
use Rattle.plcx_rules.specs.declared.form.Form.{Form}
use Rattle.plcx_rules.specs.declared.form.Grouping.TheVariants.{Passing}
use Rattle.plcx_rules.specs.Types.{no_form, no_pin}
use Rattle.plcx_rules.specs.Forms.{pin, block_pins, element_pins, form_of, grouping_at, grouping_of, pins_from, sheet_of, input_class_of, in_out_class_of}
use Rattle.plcx_typing.specs.Flows.{ArePlaced}
use Rattle.plcx_typing.proofs.OneType.{HaveOnePin}

abbrev IsAt : ℕ → Pin → Type 0
IsAt e p = p.element ≡ e

all_at : {A : Type 0} (e : ℕ) (f : A → Pin) (xs : List A) → ((x : A) → (f x).element ≡ e) → All (IsAt e) (map f xs)
all_at e f [] h = All-nil (IsAt e)
all_at e f (x ∷ xs) h = All-cons (IsAt e) (f x) (map f xs) (h x) (all_at e f xs h)

one_at : (e : ℕ) (p : Pin) → p.element ≡ e → All (IsAt e) (p ∷ [])
one_at e p h = All-cons (IsAt e) p [] h (All-nil (IsAt e))

blocks_at : (pous : List Pou) (c : Option Callee) (e : ℕ) (inputs in_outs : List PinIn) → All (IsAt e) (block_pins pous c e inputs in_outs)
unfolding block_pins
blocks_at pous c e inputs in_outs = All-append (IsAt e) (map (λ (p : PinIn). pin e (input_class_of pous c inputs p) p.mods.negated) inputs) (map (λ (p : PinIn). pin e (in_out_class_of pous c p) p.mods.negated) in_outs)
    (all_at e (λ (p : PinIn). pin e (input_class_of pous c inputs p) p.mods.negated) inputs (λ x. refl)) (all_at e (λ (p : PinIn). pin e (in_out_class_of pous c p) p.mods.negated) in_outs (λ x. refl))

-- the pins of an element stand at it
pins_at : (pous : List Pou) (p : Pou) (e : ℕ) (k : Kind) → All (IsAt e) (element_pins pous p e k)
unfolding element_pins
pins_at pous p e kind.Skipped = All-nil (IsAt e)
pins_at pous p e kind.LeftRail = All-nil (IsAt e)
pins_at pous p e (kind.RightRail input) = one_at e _ refl
pins_at pous p e (kind.Contact input text mods) = one_at e _ refl
pins_at pous p e (kind.Coil input text mods) = one_at e _ refl
pins_at pous p e (kind.In text mods) = All-nil (IsAt e)
pins_at pous p e (kind.Out input text mods) = one_at e _ refl
pins_at pous p e (kind.Block type_name instance inputs in_outs outputs) = blocks_at pous _ e inputs in_outs
pins_at pous p e (kind.Connector name input) = one_at e _ refl
pins_at pous p e (kind.Continuation name) = one_at e _ refl
pins_at pous p e (kind.Label name) = All-nil (IsAt e)
pins_at pous p e (kind.Jump label input) = one_at e _ refl
pins_at pous p e (kind.Return input) = one_at e _ refl

allowed_shares : (a : Allowed) → grouping_at a ≢ Passing
allowed_shares set.Nothing = λ e. cc
allowed_shares set.Whole = λ e. cc
allowed_shares set.WholeTime = λ e. cc
allowed_shares set.Bits = λ e. cc
allowed_shares set.Words = λ e. cc
allowed_shares set.All = λ e. cc

block_shares : (c : Option Callee) → grouping_of c ≢ Passing
block_shares (Some (callee.Function g)) = allowed_shares (group_types g)
block_shares (Some (callee.Standard k)) = λ e. cc
block_shares (Some (callee.Block place)) = λ e. cc
block_shares None = λ e. cc

-- what passes has one pin
one_pin_of : (pous : List Pou) (p : Pou) (e : ℕ) (k : Kind) → (form_of pous p k).grouping ≡ Passing → length (element_pins pous p e k) ≡ 1
unfolding form_of element_pins
one_pin_of pous p e kind.Skipped h = absurd (cc)
one_pin_of pous p e kind.LeftRail h = absurd (cc)
one_pin_of pous p e (kind.RightRail input) h = refl
one_pin_of pous p e (kind.Contact input text mods) h = refl
one_pin_of pous p e (kind.Coil input text mods) h = refl
one_pin_of pous p e (kind.In text mods) h = absurd (cc)
one_pin_of pous p e (kind.Out input text mods) h = refl
one_pin_of pous p e (kind.Block type_name instance inputs in_outs outputs) h = absurd (block_shares _ h)
one_pin_of pous p e (kind.Connector name input) h = refl
one_pin_of pous p e (kind.Continuation name) h = refl
one_pin_of pous p e (kind.Label name) h = absurd (cc)
one_pin_of pous p e (kind.Jump label input) h = refl
one_pin_of pous p e (kind.Return input) h = refl

behind : {A : Type 0} (xs ys : List A) (i : ℕ) (d : A) → length xs ≤ i → get_or (xs ++ ys) i d ≡ get_or ys (i - length xs) d
behind [] ys i d h = ap (λ k. get_or ys k d) (let e : i ≡ i - 0 = omega arith in e)
behind (x ∷ xs) ys zero d h = absurd (omega arith)
behind (x ∷ xs) ys (suc i) d h = behind xs ys i d (omega (arith, h)) ∙ ap (λ k. get_or ys k d) (let e : i - length xs ≡ suc i - suc (length xs) = omega arith in e)

module _ (pous : List Pou) (p : Pou) where
  abbrev pins : ℕ → List BodyElement → List Pin
  pins e xs = pins_from pous p e xs

  abbrev at : ℕ → List BodyElement → ℕ → ℕ
  at e xs i = (get_or (pins e xs) i no_pin).element

  abbrev own : ℕ → BodyElement → List Pin
  own e x = element_pins pous p e x.kind

  front_at : (e : ℕ) (x : BodyElement) (xs : List BodyElement) (i : ℕ) → i < length (own e x) → at e (x ∷ xs) i ≡ e
  front_at e x xs i h = ap (λ (q : Pin). q.element) (get_or_append_left (own e x) (pins (e + 1) xs) no_pin i h) ∙ pins_at pous p e x.kind i no_pin h

  back_at : (e : ℕ) (x : BodyElement) (xs : List BodyElement) (i : ℕ) → length (own e x) ≤ i → at e (x ∷ xs) i ≡ at (e + 1) xs (i - length (own e x))
  back_at e x xs i h = ap (λ (q : Pin). q.element) (behind (own e x) (pins (e + 1) xs) i no_pin h)

  -- a pin stands at one of the elements
  pub owners : (e : ℕ) (xs : List BodyElement) (i : ℕ) → i < length (pins e xs) → (e ≤ at e xs i) × (at e xs i < e + length xs)
  owners e [] i h = absurd (omega arith)
  owners e (x ∷ xs) i h = elim (cases_lt i (length (own e x))) [
    | inl low ↦ let is = front_at e x xs i low in (omega arith, omega arith)
    | inr high ↦
        let is = back_at e x xs i high in
        let rest = owners (e + 1) xs (i - length (own e x)) (omega (arith, length-append (own e x) (pins (e + 1) xs))) in
        (omega (arith, rest.0), omega (arith, rest.1))
  ]

  abbrev form : ℕ → List BodyElement → ℕ → Form
  form e xs x = get_or (map (λ (y : BodyElement). form_of pous p y.kind) xs) (x - e) no_form

  pub single : (e : ℕ) (xs : List BodyElement) (x i j : ℕ) → (form e xs x).grouping ≡ Passing → i < length (pins e xs) → j < length (pins e xs) → at e xs i ≡ x → at e xs j ≡ x → i ≡ j
  single e [] x i j passing low low' is is' = absurd (omega arith)
  single e (y ∷ ys) x i j passing low low' is is' =
      let count = length-append (own e y) (pins (e + 1) ys) in
      elim (cases_lt i (length (own e y))) [
        | inl front ↦
            let here : e ≡ x = sym (front_at e y ys i front) ∙ is in
            let start : x - e ≡ 0 = omega arith in
            let first : (form_of pous p y.kind).grouping ≡ Passing = sym (ap (λ k. (get_or (map (λ (z : BodyElement). form_of pous p z.kind) (y ∷ ys)) k no_form).grouping) start) ∙ passing in
            let one = one_pin_of pous p e y.kind first in
            elim (cases_lt j (length (own e y))) [
              | inl front' ↦ omega arith
              | inr back' ↦
                  let there = back_at e y ys j back' in
                  let range = owners (e + 1) ys (j - length (own e y)) (omega (arith, count)) in
                  absurd (omega (arith, range.0))
            ]
        | inr back ↦
            let there = back_at e y ys i back in
            let range = owners (e + 1) ys (i - length (own e y)) (omega (arith, count)) in
            elim (cases_lt j (length (own e y))) [
              | inl front' ↦ let here : e ≡ x = sym (front_at e y ys j front') ∙ is' in absurd (omega (arith, range.0))
              | inr back' ↦
                  let there' = back_at e y ys j back' in
                  let step : x - e ≡ suc (x - (e + 1)) = omega (arith, range.0) in
                  let more : (form (e + 1) ys x).grouping ≡ Passing = sym (ap (λ k. (get_or (map (λ (z : BodyElement). form_of pous p z.kind) (y ∷ ys)) k no_form).grouping) step) ∙ passing in
                  let same = single (e + 1) ys x (i - length (own e y)) (j - length (own e y)) more (omega (arith, count)) (omega (arith, count)) (sym there ∙ is) (sym there' ∙ is') in
                  omega arith
            ]
      ]

  pub placed_in : (xs : List BodyElement) → ArePlaced (length (map (λ (y : BodyElement). form_of pous p y.kind) xs)) (pins_from pous p 0 xs)
  placed_in xs i d h =
      let range = owners 0 xs i h in
      let same : get_or (pins 0 xs) i d ≡ get_or (pins 0 xs) i no_pin = get_or_default (pins 0 xs) i d no_pin h in
      omega (arith, range.1, ap (λ (q : Pin). q.element) same, length-map xs (λ (y : BodyElement). form_of pous p y.kind))

  pub placed : (sources : List (List Source)) → ArePlaced (length (sheet_of pous p sources).forms) (sheet_of pous p sources).pins
  placed sources = placed_in p.body.elements

  pub one_pin_each : (sources : List (List Source)) → HaveOnePin (sheet_of pous p sources)
  one_pin_each sources x i j passing a b =
      let start : x - 0 ≡ x = omega arith in
      single 0 p.body.elements x i j (ap (λ k. (get_or (map (λ (z : BodyElement). form_of pous p z.kind) p.body.elements) k no_form).grouping) start ∙ passing) a.count b.count a.owner b.owner
