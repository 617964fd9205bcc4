-- The pins of blocks, one after another.
use Rattle.std.proofs.Common.{◌≡◌, ℕ, zero, suc, ◌+◌, ◌<◌, Bool, true, false, cond, not, List, [], ◌∷◌, ◌++◌, Option, map, take, drop, get_or, length, refl, sym, ap, ◌∙◌, arith}
use Rattle.std.specs.List.{filter_map, cons_option, range_with_len}
use Rattle.std.proofs.lemmas.List.{take_more, drop_more, map-append, append_assoc, get_or-map}
use Rattle.std.proofs.lemmas.List.Elements.{filter_map-append, filter-append}
use Rattle.plcx_meaning.specs.Diagram.{OutputPin}
use Rattle.plcx_model.specs.declared.body.PinOut.{PinOut}
use Rattle.plcx_model.specs.declared.project.Pou.{Pou}
use Rattle.plcx_rules.specs.declared.callee.Callee.{Callee}
use Rattle.plcx_rules.specs.Callees.{Formal, is_eno, output_formal}
use Rattle.plcx_view.specs.Blocks.{beside, output_pin}
use Rattle.plcx_draw.specs.Listed.{output_by}

-- one more is made of what is shown of a list
pub more_made : {A B C D : Type 0} (f : A → D) (g : C → D) (h : B → C) (xs : List A) (bs : List B) (i : ℕ) (a : A) (b d : B) → i < length bs → b ≡ get_or bs i d → f a ≡ g (h b)
    → map f xs ≡ map g (map h (take i bs)) → map f (xs ++ a ∷ []) ≡ map g (map h (take (i + 1) bs))
more_made f g h xs bs i a b d within is made before =
    map-append f xs (a ∷ [])
    ∙ ap (λ ys. ys ++ f a ∷ []) before
    ∙ ap (λ x. map g (map h (take i bs)) ++ x ∷ []) (made ∙ ap (λ y. g (h y)) is)
    ∙ sym (map-append g (map h (take i bs)) (h (get_or bs i d) ∷ []))
    ∙ ap (map g) (sym (map-append h (take i bs) (get_or bs i d ∷ [])))
    ∙ ap (λ ys. map g (map h ys)) (sym (take_more bs i d within))

-- ---- the inputs of a function

range_more : (a n : ℕ) → range_with_len a (suc n) ≡ range_with_len a n ++ (a + n) ∷ []
range_more a zero = let same : a ≡ a + 0 = omega arith in ap (λ m. m ∷ []) same
range_more a (suc n) =
    let same : a + 1 + n ≡ a + suc n = omega arith in
    ap (λ ms. a ∷ ms) (range_more (a + 1) n ∙ ap (λ m. range_with_len (a + 1) n ++ m ∷ []) same)

-- what stands at one place more
pub place_more : {X : Type 0} (h : ℕ → Option X) (before after : List X) (place : ℕ) (o : Option X) → after ≡ before ++ cons_option o [] → o ≡ h place
    → before ≡ filter_map h (range_with_len 0 place) → after ≡ filter_map h (range_with_len 0 (place + 1))
place_more h before after place o put is all =
    let next : place + 1 ≡ suc place = omega arith in
    let same : 0 + place ≡ place = omega arith in
    put
    ∙ ap (λ xs. xs ++ cons_option o []) all
    ∙ ap (λ p. filter_map h (range_with_len 0 place) ++ cons_option p []) is
    ∙ sym (filter_map-append h (range_with_len 0 place) (place ∷ []))
    ∙ ap (λ m. filter_map h (range_with_len 0 place ++ m ∷ [])) (sym same)
    ∙ ap (filter_map h) (sym (range_more 0 place))
    ∙ ap (λ n. filter_map h (range_with_len 0 n)) (sym next)

-- ---- the outputs of an instance

by_eno : (b : Bool) (f : Option Formal) (pous : List Pou) (c : Callee) (all : List PinOut) (o : PinOut) → f ≡ output_formal pous c all o
    → map (output_by f) (cond (not b) (o ∷ []) []) ≡ map (output_pin pous c all) (cond (not b) (o ∷ []) [])
by_eno true f pous c all o is = refl
by_eno false f pous c all o is = ap (λ g. output_by g o ∷ []) is

-- one more of them, whose formal parameter was found
pub output_more : {X : Type 0} (shown : X → Option Formal) (pous : List Pou) (c : Callee) (fs : List X) (os : List PinOut) (i : ℕ) (f d : X) (o : PinOut) (before after whole : List OutputPin)
    → i < length fs → i < length os → f ≡ get_or fs i d → o ≡ get_or os i o
    → after ≡ before ++ map (output_by (shown f)) (beside (o ∷ []))
    → map shown fs ≡ map (output_formal pous c os) os
    → before ++ map (output_pin pous c os) (beside (drop i os)) ≡ whole
    → after ++ map (output_pin pous c os) (beside (drop (i + 1) os)) ≡ whole
output_more shown pous c fs os i f d o before after whole in_fs in_os f_is o_is put found rest =
    let make = output_pin pous c os in
    let then = drop (i + 1) os in
    let same : shown f ≡ output_formal pous c os o =
    ap shown f_is
    ∙ sym (get_or-map shown fs i d (shown f) in_fs)
    ∙ ap (λ xs. get_or xs i (shown f)) found
    ∙ get_or-map (output_formal pous c os) os i o (shown f) in_os
    ∙ ap (output_formal pous c os) (sym o_is) in
    let split : beside (drop i os) ≡ beside (o ∷ []) ++ beside then =
    ap beside (drop_more os i o in_os)
    ∙ ap (λ x. beside (x ∷ then)) (sym o_is)
    ∙ filter-append (λ (x : PinOut). not (is_eno x)) (o ∷ []) then in
    ap (λ xs. xs ++ map make (beside then)) (put ∙ ap (λ xs. before ++ xs) (by_eno (is_eno o) (shown f) pous c os o same))
    ∙ append_assoc before (map make (beside (o ∷ []))) (map make (beside then))
    ∙ ap (λ xs. before ++ xs) (sym (map-append make (beside (o ∷ [])) (beside then)))
    ∙ ap (λ xs. before ++ map make xs) (sym split)
    ∙ rest
