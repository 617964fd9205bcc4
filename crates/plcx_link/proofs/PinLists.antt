-- The connections at the pins of a block.
use Rattle.std.proofs.Common.{◌≡◌, ◌++◌, ◌||◌, Bool, true, false, List, [], ◌∷◌, map, refl, sym, ap, ◌∙◌}
use Rattle.std.specs.List.{list_any}
use Rattle.plcx_model.specs.declared.body.Connection.{Connection}
use Rattle.plcx_model.specs.declared.body.PinIn.{PinIn}
use Rattle.plcx_model.specs.declared.body.BodyElement.{BodyElement}
use Rattle.plcx_rules.specs.Sources.{sources_at}
use Rattle.plcx_link.specs.Outputs.{listed_pins}

pub map_map : {X Y Z : Type 0} (f : Y → Z) (g : X → Y) (xs : List X) → map f (map g xs) ≡ map (λ x. f (g x)) xs
map_map f g [] = refl
map_map f g (x ∷ xs) = ap (λ ys. f (g x) ∷ ys) (map_map f g xs)

pub map_append : {X Y : Type 0} (f : X → Y) (xs ys : List X) → map f (xs ++ ys) ≡ map f xs ++ map f ys
map_append f [] ys = refl
map_append f (x ∷ xs) ys = ap (λ zs. f x ∷ zs) (map_append f xs ys)

or_assoc : (a b c : Bool) → (a || b) || c ≡ a || (b || c)
or_assoc true b c = refl
or_assoc false b c = refl

pub any_map : {X Y : Type 0} (t : Y → Bool) (f : X → Y) (xs : List X) → list_any t (map f xs) ≡ list_any (λ x. t (f x)) xs
any_map t f [] = refl
any_map t f (x ∷ xs) = ap (λ b. t (f x) || b) (any_map t f xs)

pub any_append : {X : Type 0} (t : X → Bool) (xs ys : List X) → list_any t (xs ++ ys) ≡ (list_any t xs || list_any t ys)
any_append t [] ys = refl
any_append t (x ∷ xs) ys = ap (λ b. t x || b) (any_append t xs ys) ∙ sym (or_assoc (t x) (list_any t xs) (list_any t ys))

pub block_pins : (elements : List BodyElement) (inputs in_outs : List PinIn) → map (sources_at elements) (listed_pins inputs in_outs) ≡ map (λ (p : PinIn). sources_at elements p.input) inputs ++ map (λ (p : PinIn). sources_at elements p.input) in_outs
block_pins elements inputs in_outs =
    let input_of = λ (p : PinIn). p.input in
    map_append (sources_at elements) (map input_of inputs) (map input_of in_outs)
    ∙ (ap (λ xs. xs ++ map (sources_at elements) (map input_of in_outs)) (map_map (sources_at elements) input_of inputs)
    ∙ ap (λ xs. map (λ (p : PinIn). sources_at elements p.input) inputs ++ xs) (map_map (sources_at elements) input_of in_outs))

pub any_listed : (t : List Connection → Bool) (inputs in_outs : List PinIn) → list_any t (listed_pins inputs in_outs) ≡ (list_any (λ (p : PinIn). t p.input) inputs || list_any (λ (p : PinIn). t p.input) in_outs)
any_listed t inputs in_outs =
    let input_of = λ (p : PinIn). p.input in
    any_append t (map input_of inputs) (map input_of in_outs)
    ∙ (ap (λ b. b || list_any t (map input_of in_outs)) (any_map t input_of inputs)
    ∙ ap (λ b. list_any (λ (p : PinIn). t p.input) inputs || b) (any_map t input_of in_outs))
