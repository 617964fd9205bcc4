-- The diagrams and the texts of a project by their places.
use Rattle.std.proofs.Common.{◌≡◌, ℕ, zero, suc, ◌+◌, ◌≤◌, List, [], ◌∷◌, ◌++◌, map, take, length, Some, refl, ap, ◌∙◌, subst}
use Rattle.std.specs.Prelude.{slice_get}
use Rattle.std.specs.Option.{option_map}
use Rattle.std.proofs.lemmas.List.{take_more}
use Rattle.std.proofs.lemmas.Option.{slice_get-map, slice_get_within, get_or_from_slice_get}
use Rattle.plcx_types.specs.Limits.{max_elements}
use Rattle.plcx_types.specs.Lists.{Each}
use Rattle.plcx_meaning.specs.Diagram as diagram
use Rattle.plcx_meaning.specs.Fits.{ProjectFits, PouFits}
use Rattle.plcx_meaning.specs.Templates.{pou_text, unit_of}
use Rattle.plcx_model.specs.declared.plan.Links.{Links}
use Rattle.plcx_model.specs.declared.plan.Types.{Types}
use Rattle.plcx_model.specs.declared.plan.Plan.{Plan}
use Rattle.plcx_model.specs.declared.project.Pou.{Pou}
use Rattle.plcx_model.specs.declared.project.Project.{Project}
use Rattle.plcx_drawn.specs.declared.drawing.Drawing.{Drawing}
use Rattle.plcx_drawn.specs.Pous.{shown_pou}
use Rattle.plcx_view.specs.Diagrams.{pous_from, diagrams_of}
use Rattle.plcx_st.specs.InRange.{PouInRange, UnitInRange}

-- what holds of each item holds of the one at a place
each_place : {A : Type 0} (P : A → Type 0) (xs : List A) (i : ℕ) (x : A) → slice_get xs i ≡ Some x → Each P xs → P x
each_place P [] i x at h = absurd (cc)
each_place P (y ∷ ys) zero x at h = let same : y ≡ x = cc in subst P same h.0
each_place P (y ∷ ys) (suc i) x at h = each_place P ys i x at h.1

-- as many items as before
pub mapped_length : {A B : Type 0} (f : A → B) (xs : List A) → length (map f xs) ≡ length xs
mapped_length f [] = refl
mapped_length f (x ∷ xs) = ap suc (mapped_length f xs)

-- one item more
pub taken_more : {A : Type 0} (xs : List A) (i : ℕ) (x : A) → slice_get xs i ≡ Some x → take (i + 1) xs ≡ take i xs ++ x ∷ []
taken_more xs i x there = take_more xs i x (slice_get_within xs i x there) ∙ ap (λ y. take i xs ++ y ∷ []) (get_or_from_slice_get xs i x x there)

module _ (project : Project) (links : Links) (types : Types) (plan : Plan) where
  count_from : (n : ℕ) (ps : List Pou) → length (pous_from project links types plan n ps) ≡ length ps
  count_from n [] = refl
  count_from n (p ∷ ps) = ap suc (count_from (n + 1) ps)

  -- a project has as many texts as POUs
  pub count_of : length (unit_of (diagrams_of project links types plan)) ≡ length project.pous
  count_of = mapped_length pou_text (diagrams_of project links types plan) ∙ count_from 0 project.pous

  -- what is drawn of a project is drawn of this one where its parts are those of this one
  pub drawn_there : (pous : List Pou) (l : Links) (t : Types) (b : Plan) (d : Drawing) (i : ℕ) → pous ≡ project.pous → l ≡ links → t ≡ types → b ≡ plan
      → slice_get (diagrams_of (record { pous = pous }) l t b) i ≡ Some (shown_pou pous d) → slice_get (diagrams_of project links types plan) i ≡ Some (shown_pou project.pous d)
  drawn_there pous l t b d i pous_are links_are types_are plan_is there =
      subst (λ (x : List Pou). slice_get (diagrams_of (record { pous = x }) links types plan) i ≡ Some (shown_pou x d)) pous_are
      (subst (λ (x : Links). slice_get (diagrams_of (record { pous = pous }) x types plan) i ≡ Some (shown_pou pous d)) links_are
      (subst (λ (x : Types). slice_get (diagrams_of (record { pous = pous }) l x plan) i ≡ Some (shown_pou pous d)) types_are
      (subst (λ (x : Plan). slice_get (diagrams_of (record { pous = pous }) l t x) i ≡ Some (shown_pou pous d)) plan_is there)))

-- the text of the diagram at a place
pub text_there : (diagrams : diagram.Project) (i : ℕ) (d : diagram.Pou) → slice_get diagrams i ≡ Some d → slice_get (unit_of diagrams) i ≡ Some (pou_text d)
text_there diagrams i d there = slice_get-map pou_text diagrams i ∙ ap (option_map pou_text) there

-- it is in range where the unit is
pub range_there : (diagrams : diagram.Project) (i : ℕ) (d : diagram.Pou) → slice_get diagrams i ≡ Some d → UnitInRange (unit_of diagrams) → PouInRange (pou_text d)
range_there diagrams i d there range = each_place PouInRange (unit_of diagrams) i (pou_text d) (text_there diagrams i d there) range.pous

-- a diagram that fits has few networks
pub few_there : (diagrams : diagram.Project) (i : ℕ) (d : diagram.Pou) → slice_get diagrams i ≡ Some d → ProjectFits diagrams → length d.networks ≤ max_elements
few_there diagrams i d there fits = (each_place (PouFits diagrams) diagrams i d there fits.pous).count
