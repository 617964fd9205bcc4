-- The initial values of two layouts with the same declared leaves.
use Rattle.std.proofs.Common.{◌≡◌, ℕ, Bool, true, false, true≢false, List, [], ◌∷◌, refl, sym, ap, ap₂, ◌∙◌, if◌then◌else◌}
use Rattle.std.specs.Str.{bytes_eq}
use Rattle.std.proofs.lemmas.Bool.{and_parts}
use Rattle.plcx_meaning.specs.Base.{Path, same_path, is_declared}
use Rattle.plcx_meaning.specs.Layout.{Leaf, declared_leaves, initial_in}
use Rattle.plcx_meaning.proofs.Names.{bytes_same}

pub path_same : (p q : Path) → same_path p q ≡ true → p ≡ q
path_same [] [] h = refl
path_same [] (y ∷ q) h = absurd (cc)
path_same (x ∷ p) [] h = absurd (cc)
path_same (x ∷ p) (y ∷ q) h = let parts = and_parts (bytes_eq x y) (same_path p q) h in ap₂ (λ (z : List ℕ) (r : Path). z ∷ r) (bytes_same x y parts.0) (path_same p q parts.1)

-- a leaf that isn't declared stands at no declared path
initial_declared : (p : Path) → is_declared p ≡ true → (ls : List Leaf) → initial_in ls p ≡ initial_in (declared_leaves ls) p
initial_declared p h [] = refl
initial_declared p h (leaf ∷ ls) = by_kind (is_declared leaf.path) refl (initial_declared p h ls)
  where
    elsewhere : (b : Bool) → same_path p leaf.path ≡ b → is_declared leaf.path ≡ false → (if b then leaf.initial else initial_in ls p) ≡ initial_in ls p
    elsewhere true same hidden = absurd (true≢false (sym h ∙ ap is_declared (path_same p leaf.path same) ∙ hidden))
    elsewhere false same hidden = refl

    by_kind : (d : Bool) → is_declared leaf.path ≡ d → initial_in ls p ≡ initial_in (declared_leaves ls) p
        → initial_in (leaf ∷ ls) p ≡ initial_in (if d then leaf ∷ declared_leaves ls else declared_leaves ls) p
    by_kind true e rest = ap (λ v. if same_path p leaf.path then leaf.initial else v) rest
    by_kind false e rest = elsewhere (same_path p leaf.path) refl e ∙ rest

pub initial_alike : (ls ms : List Leaf) → declared_leaves ls ≡ declared_leaves ms → (p : Path) → is_declared p ≡ true → initial_in ls p ≡ initial_in ms p
initial_alike ls ms same p h = initial_declared p h ls ∙ ap (λ declared. initial_in declared p) same ∙ sym (initial_declared p h ms)
