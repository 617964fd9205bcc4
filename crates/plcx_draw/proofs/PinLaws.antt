-- The pins of a body, one after another.
use Rattle.std.proofs.Common.{◌≡◌, ℕ, ◌+◌, List, [], ◌∷◌, Bool, drop, length, refl, ap, ◌∙◌}
use Rattle.std.proofs.lemmas.List.{drop-drop, nil_from_length}
use Rattle.plcx_types.specs.declared.ty.Ty.{Ty}
use Rattle.plcx_model.specs.declared.source.Source.{Source}
use Rattle.plcx_view.specs.Pins.{Pin, pins_from}

-- without sources there is no pin
without_sources : (types : List Ty) (marks : List Bool) → pins_from types [] marks ≡ []
without_sources [] marks = refl
without_sources (t ∷ types) marks = refl

-- no pin has sources that are listed
pub none_listed : (types : List Ty) (sources : List (List Source)) (marks : List Bool) → length sources ≡ 0 → pins_from types sources marks ≡ []
none_listed types sources marks none = ap (λ (s : List (List Source)). pins_from types s marks) (nil_from_length sources none) ∙ without_sources types marks

-- one more is left behind
pub one_more : (before after all : List Pin) (i : ℕ) → before ≡ drop i all → after ≡ drop 1 before → after ≡ drop (i + 1) all
one_more before after all i is step = step ∙ ap (drop 1) is ∙ drop-drop 1 i all
