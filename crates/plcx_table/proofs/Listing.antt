-- One item more.
use Rattle.std.proofs.Common.{◌≡◌, ℕ, suc, List, [], ◌∷◌, ◌++◌, map, append_assoc, ap, ◌∙◌}
use Rattle.plcx_table.specs.declared.walk.Looked.{Looked}
use Rattle.plcx_table.specs.Flat.{shown_item}
use Rattle.plcx_table.specs.Walk.{items, below}
use Rattle.plcx_table.proofs.Lists.{map_append}

pub one-more : (found : List Looked) (x : Looked) (d n : ℕ) → d ≡ suc n → map shown_item (found ++ x ∷ []) ++ below (items n) x.fate x.element.now ≡ map shown_item found ++ items d x.fate x.element.now
unfolding items
one-more found x d n h =
    rw h (ap (λ ys. ys ++ below (items n) x.fate x.element.now) (map_append shown_item found (x ∷ []))
    ∙ append_assoc (map shown_item found) (shown_item x ∷ []) (below (items n) x.fate x.element.now))
