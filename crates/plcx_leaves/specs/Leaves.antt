-- The leaf of a variable, and those of a standard block.
use Rattle.std.specs.Prelude.{ℕ, zero, suc, ℤ, pos, Bool, false, not, ◌&&◌, List, [], ◌∷◌, map}
use Rattle.plcx_types.specs.declared.ty.Ty.{Ty}
use Rattle.plcx_std.specs.declared.kind.StdKind.{StdKind}
use Rattle.plcx_std.specs.Pins.{Pin, pins}
use Rattle.plcx_meaning.specs.Layout.{Spelling, path_of, Leaf, is_outside}

-- a leaf by its path, which is spelled so
abbrev pub leaf_by : Spelling → Ty → ℤ → (retained constant : Bool) → Leaf
leaf_by names t n retained constant = record {
  path = path_of names;
  spelled = names;
  ty = t;
  initial = n;
  retained = retained;
  settable = is_outside (path_of names) && not constant;
  shown = is_outside (path_of names);
}

-- the leaves of a standard block at a path, one for each of its pins; none where no level is left
abbrev pub standard_leaves : (levels : ℕ) → Spelling → (retained : Bool) → StdKind → List Leaf
standard_leaves zero names retained k = []
standard_leaves (suc n) names retained k = map (λ (p : Pin). leaf_by (p.name ∷ names) p.ty (pos 0) retained false) (pins k)
