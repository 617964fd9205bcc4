-- One item more.
use Rattle.std.proofs.Common.{◌≡◌, ℕ, suc, List, [], ◌∷◌, ◌++◌, map, append_assoc, ap, ◌∙◌}
use Rattle.std.proofs.lemmas.List.{map-append}
use Rattle.plcx_xml.specs.Look.{children_of}
use Rattle.plcx_plan.specs.declared.walk.Looked.{Looked}
use Rattle.plcx_plan.specs.Items.{items, items_below}
use Rattle.plcx_plan.specs.Seen.{shown}

pub one_more : (found : List Looked) (x : Looked) (d n : ℕ) → d ≡ suc n → map shown (found ++ x ∷ []) ++ items_below (items n) x.role (children_of x.element.now) ≡ map shown found ++ items d x.role x.element.now
unfolding items
one_more found x d n h =
    rw h (ap (λ ys. ys ++ items_below (items n) x.role (children_of x.element.now)) (map-append shown found (x ∷ []))
    ∙ append_assoc (map shown found) (shown x ∷ []) (items_below (items n) x.role (children_of x.element.now)))
