-- What elements add, one after another.
use Rattle.std.proofs.Common.{◌≡◌, ◌∙◌, ℕ, zero, suc, ◌+◌, ◌<◌, List, [], ◌∷◌, ◌++◌, Bor, Option, Some, None, map, take, get_or, length, refl, sym, ap, subst, arith, append_assoc}
use Rattle.std.specs.Option.{option_map, option_copied}
use Rattle.std.specs.List.{slice_get, filter_map, cons_option}
use Rattle.std.proofs.lemmas.List.{append-nil, length-append, take_more}
use Rattle.std.proofs.lemmas.List.Elements.{filter_map-append}
use Rattle.std.proofs.lemmas.Option.{slice_get-map}
use Rattle.plcx_types.specs.Lists.{Each}
use Rattle.plcx_meaning.specs.Diagram.{DiagramElement}
use Rattle.plcx_steps.specs.declared.program.Step.{Step}
use Rattle.plcx_steps.specs.declared.program.Argument.{Argument}
use Rattle.plcx_steps.specs.declared.program.Operand.{Operand}
use Rattle.plcx_drawn.specs.declared.drawing.Drawing.{Drawing}
use Rattle.plcx_drawn.specs.Shown.{shown_elements, shown_network}
use Rattle.plcx_numbered.specs.Prepared.{Numbering, kind_arguments, kind_bindings, element_steps, elements_steps, elements_arguments, elements_bindings}
use Rattle.plcx_prepare.specs.declared.elements.Prepared.{Prepared}
use Rattle.plcx_prepare.specs.Emitted.{Adds}

-- no element adds anything
pub nothing_added : (c : Numbering) (p : Prepared) → Adds c [] p p
nothing_added c p = record { steps = sym (append-nil p.steps.items); arguments = sym (append-nil p.arguments.items); bindings = sym (append-nil p.bindings.items) }

-- what stands at a place, where nothing or something was found there
pub nothing_there : {A B : Type 0} (shown : A → B) (xs : List A) (i : ℕ) (r : Option (Bor A)) → option_copied r ≡ slice_get xs i → r ≡ None → slice_get (map shown xs) i ≡ None
nothing_there shown xs i r is none = slice_get-map shown xs i ∙ ap (option_map shown) (sym is ∙ ap option_copied none)

pub found_there : {A B : Type 0} (shown : A → B) (xs : List A) (i : ℕ) (r : Option (Bor A)) (x : Bor A) → option_copied r ≡ slice_get xs i → r ≡ Some x → slice_get (map shown xs) i ≡ Some (shown x.now)
found_there shown xs i r x is some = slice_get-map shown xs i ∙ ap (option_map shown) (sym is ∙ ap option_copied some)

-- what holds of what is found at all places holds of what is found at one of them
later_found : {B : Type 0} (P : B → Type 0) (o : Option B) (rest : List B) → Each P (cons_option o rest) → Each P rest
later_found P None rest h = h
later_found P (Some y) rest h = h.1

first_found : {B : Type 0} (P : B → Type 0) (o : Option B) (rest : List B) → Each P (cons_option o rest) → Each P (cons_option o [])
first_found P None rest h = tt
first_found P (Some y) rest h = (h.0, tt)

pub each_of_place : {A B : Type 0} (P : B → Type 0) (f : A → Option B) (xs : List A) (i : ℕ) (d : A) → i < length xs → Each P (filter_map f xs) → Each P (filter_map f (get_or xs i d ∷ []))
each_of_place P f [] i d low each = absurd (omega arith)
each_of_place P f (x ∷ xs) zero d low each = first_found P (f x) (filter_map f xs) each
each_of_place P f (x ∷ xs) (suc i) d low each = let less : i < length xs = omega arith in each_of_place P f xs i d less (later_found P (f x) (filter_map f xs) each)

steps_then : (c : Numbering) (a b : ℕ) (es fs : List DiagramElement)
    → elements_steps c a b (es ++ fs) ≡ elements_steps c a b es ++ elements_steps c (a + length (elements_arguments c es)) (b + length (elements_bindings c es)) fs
steps_then c a b [] fs =
    let same_a : a ≡ a + 0 = omega arith in
    let same_b : b ≡ b + 0 = omega arith in
    ap (λ m. elements_steps c m b fs) same_a ∙ ap (λ m. elements_steps c (a + 0) m fs) same_b
steps_then c a b (e ∷ es) fs =
    let ka = length (kind_arguments c e.kind) in
    let kb = length (kind_bindings c e.kind) in
    let first = element_steps c a b e in
    let rest = elements_steps c (a + ka) (b + kb) es in
    let same_a : a + ka + length (elements_arguments c es) ≡ a + length (kind_arguments c e.kind ++ elements_arguments c es) = omega (arith, length-append (kind_arguments c e.kind) (elements_arguments c es)) in
    let same_b : b + kb + length (elements_bindings c es) ≡ b + length (kind_bindings c e.kind ++ elements_bindings c es) = omega (arith, length-append (kind_bindings c e.kind) (elements_bindings c es)) in
    ap (λ (xs : List Step). first ++ xs) (steps_then c (a + ka) (b + kb) es fs)
    ∙ sym (append_assoc first rest (elements_steps c (a + ka + length (elements_arguments c es)) (b + kb + length (elements_bindings c es)) fs))
    ∙ ap (λ m. (first ++ rest) ++ elements_steps c m (b + kb + length (elements_bindings c es)) fs) same_a
    ∙ ap (λ m. (first ++ rest) ++ elements_steps c (a + length (kind_arguments c e.kind ++ elements_arguments c es)) m fs) same_b

arguments_then : (c : Numbering) (es fs : List DiagramElement) → elements_arguments c (es ++ fs) ≡ elements_arguments c es ++ elements_arguments c fs
arguments_then c [] fs = refl
arguments_then c (e ∷ es) fs = ap (λ (xs : List Argument). kind_arguments c e.kind ++ xs) (arguments_then c es fs) ∙ sym (append_assoc (kind_arguments c e.kind) (elements_arguments c es) (elements_arguments c fs))

bindings_then : (c : Numbering) (es fs : List DiagramElement) → elements_bindings c (es ++ fs) ≡ elements_bindings c es ++ elements_bindings c fs
bindings_then c [] fs = refl
bindings_then c (e ∷ es) fs = ap (λ (xs : List Operand). kind_bindings c e.kind ++ xs) (bindings_then c es fs) ∙ sym (append_assoc (kind_bindings c e.kind) (elements_bindings c es) (elements_bindings c fs))

longer : {A : Type 0} (xs ys zs : List A) → zs ≡ xs ++ ys → length zs ≡ length xs + length ys
longer xs ys zs is = ap length is ∙ length-append xs ys

-- some elements, and then others
pub adds_then : (c : Numbering) (es fs : List DiagramElement) (p q r : Prepared) → Adds c es p q → Adds c fs q r → Adds c (es ++ fs) p r
adds_then c es fs p q r first then =
    let a = length p.arguments.items in
    let b = length p.bindings.items in
    record {
      steps =
          then.steps
          ∙ ap (λ m. q.steps.items ++ elements_steps c m (length q.bindings.items) fs) (longer p.arguments.items (elements_arguments c es) q.arguments.items first.arguments)
          ∙ ap (λ m. q.steps.items ++ elements_steps c (a + length (elements_arguments c es)) m fs) (longer p.bindings.items (elements_bindings c es) q.bindings.items first.bindings)
          ∙ ap (λ (xs : List Step). xs ++ elements_steps c (a + length (elements_arguments c es)) (b + length (elements_bindings c es)) fs) first.steps
          ∙ append_assoc p.steps.items (elements_steps c a b es) (elements_steps c (a + length (elements_arguments c es)) (b + length (elements_bindings c es)) fs)
          ∙ ap (λ (xs : List Step). p.steps.items ++ xs) (sym (steps_then c a b es fs));
      arguments =
          then.arguments
          ∙ ap (λ (xs : List Argument). xs ++ elements_arguments c fs) first.arguments
          ∙ append_assoc p.arguments.items (elements_arguments c es) (elements_arguments c fs)
          ∙ ap (λ (xs : List Argument). p.arguments.items ++ xs) (sym (arguments_then c es fs));
      bindings =
          then.bindings
          ∙ ap (λ (xs : List Operand). xs ++ elements_bindings c fs) first.bindings
          ∙ append_assoc p.bindings.items (elements_bindings c es) (elements_bindings c fs)
          ∙ ap (λ (xs : List Operand). p.bindings.items ++ xs) (sym (bindings_then c es fs));
    }

-- the element at one place more
pub place_then : (c : Numbering) (d : Drawing) (places : List ℕ) (i x : ℕ) (p q r : Prepared) → i < length places → x ≡ get_or places i 0
    → Adds c (shown_network d (take i places)) p q → Adds c (shown_network d (x ∷ [])) q r → Adds c (shown_network d (take (i + 1) places)) p r
place_then c d places i x p q r within is first then =
    let split : shown_network d (take (i + 1) places) ≡ shown_network d (take i places) ++ shown_network d (x ∷ []) =
    ap (shown_network d) (take_more places i 0 within)
    ∙ ap (λ y. shown_network d (take i places ++ y ∷ [])) (sym is)
    ∙ filter_map-append (slice_get (shown_elements d)) (take i places) (x ∷ []) in
    subst (λ (es : List DiagramElement). Adds c es p r) (sym split) (adds_then c (shown_network d (take i places)) (shown_network d (x ∷ [])) p q r first then)
