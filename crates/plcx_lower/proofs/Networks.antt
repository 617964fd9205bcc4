-- Networks, place by place.
use Rattle.std.proofs.Common.{◌≡◌, ℕ, ◌<◌, ◌+◌, List, [], ◌∷◌, ◌++◌, length, get_or, drop, sym, subst, ap, ◌∙◌, refl, append_assoc, append-nil}
use Rattle.std.specs.Prelude.{Option, Some, None, slice_get}
use Rattle.std.specs.List.{cons_option}
use Rattle.std.specs.Option.{option_map}
use Rattle.std.proofs.lemmas.List.{drop_more}
use Rattle.std.proofs.lemmas.Option.{slice_get-map}
use Rattle.plcx_meaning.specs.Tree.{Statement}
use Rattle.plcx_meaning.specs.Diagram.{DiagramElement}
use Rattle.plcx_meaning.specs.Templates.{element_text, elements_text}
use Rattle.plcx_drawn.specs.declared.element.Element.{Element}
use Rattle.plcx_drawn.specs.declared.drawing.Drawing.{Drawing}
use Rattle.plcx_drawn.specs.Shown.{shown_element, shown_elements, shown_network}

-- an element that may be missing, and those behind it
one_place : (o : Option DiagramElement) (rest : List DiagramElement) → elements_text (cons_option o rest) ≡ elements_text (cons_option o []) ++ elements_text rest
one_place None rest = refl
one_place (Some e) rest = ap (λ ss. ss ++ elements_text rest) (sym (append-nil (element_text e)))

-- the element at a place, and those at the places behind it
pub place_and_rest : (d : Drawing) (places : List ℕ) (i : ℕ) → i < length places
    → elements_text (shown_network d (drop i places)) ≡ elements_text (shown_network d (get_or places i 0 ∷ [])) ++ elements_text (shown_network d (drop (i + 1) places))
place_and_rest d places i low =
    ap (λ ps. elements_text (shown_network d ps)) (drop_more places i 0 low) ∙ one_place (slice_get (shown_elements d) (get_or places i 0)) (shown_network d (drop (i + 1) places))

-- what stands at a place
shown_at : (d : Drawing) (place : ℕ) (o : Option Element) → slice_get d.elements place ≡ o → elements_text (shown_network d (place ∷ [])) ≡ elements_text (cons_option (option_map shown_element o) [])
shown_at d place o e = ap (λ p. elements_text (cons_option p [])) (slice_get-map shown_element d.elements place ∙ ap (option_map shown_element) e)

pub element_there : (d : Drawing) (place : ℕ) (e : Element) → slice_get d.elements place ≡ Some e → elements_text (shown_network d (place ∷ [])) ≡ element_text (shown_element e)
element_there d place e h = shown_at d place (Some e) h ∙ append-nil (element_text (shown_element e))

pub none_there : (d : Drawing) (place : ℕ) → slice_get d.elements place ≡ None → elements_text (shown_network d (place ∷ [])) ≡ []
none_there d place h = shown_at d place None h

-- some statements more, of those that are left
pub some_more : (old new whole left more rest : List Statement) → left ≡ more ++ rest → old ++ left ≡ whole → new ≡ old ++ more → new ++ rest ≡ whole
some_more old new whole left more rest e before grown =
    rw (grown, append_assoc) (subst (λ ss. old ++ ss ≡ whole) e before)
