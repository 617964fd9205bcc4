-- Chains of instances by levels.
use Rattle.std.proofs.Common.{◌≡◌, ℕ, zero, suc, Bool, true, false, ◌||◌, List, [], ◌∷◌, Option, Some, None, map, option_map, get_or, slice_get, replicate, length, refl, sym, ap, ap₂, ◌∙◌}
use Rattle.std.specs.Prelude.{is_some}
use Rattle.std.specs.List.{list_any}
use Rattle.plcx_types.specs.Limits.{max_instance_chain}
use Rattle.plcx_meaning.specs.Tree as tree
use Rattle.plcx_meaning.specs.Layout.{Variable, variables_of}
use Rattle.plcx_conditions.specs.Placed.{Pou, bare_pou, bare, Declared, declared, bare_variable}
use Rattle.plcx_conditions.specs.Declarations.{starts_chain, has_chain}
use Rattle.plcx_conditions.proofs.Units.{variables_bare}
use Rattle.plcx_known.specs.declared.types.VarType.{VarType}
use Rattle.plcx_known.specs.declared.types.VarType.TheVariants as type
use Rattle.plcx_known.specs.Types.{type_of, block_of}
use Rattle.plcx_known.specs.Owned.{Typed, typed, own_of}
use Rattle.plcx_known.specs.Parts.{owners_of}
use Rattle.plcx_known.specs.Chains.{leads_on, one_leads_on, next_level, levels}
use Rattle.plcx_known.proofs.Places.{get_map}
use Rattle.plcx_known.proofs.Standing.{user_is}

-- what is told of what stands at a place, or else of none
abbrev pub at_or : {X Y : Type 0} → (X → Y) → Y → Option X → Y
at_or f d None = d
at_or f d (Some x) = f x

pub get_or_map : {X Y : Type 0} (f : X → Y) (d : Y) (xs : List X) (i : ℕ) → get_or (map f xs) i d ≡ at_or f d (slice_get xs i)
get_or_map f d [] i = refl
get_or_map f d (x ∷ xs) zero = refl
get_or_map f d (x ∷ xs) (suc i) = get_or_map f d xs i

-- as many of one as there are of others
pub all_alike : {X Y : Type 0} (y : Y) (xs : List X) → replicate (length xs) y ≡ map (λ (x : X). y) xs
all_alike y [] = refl
all_alike y (x ∷ xs) = ap (λ ys. y ∷ ys) (all_alike y xs)

-- a chain through a function block, if there is one
abbrev through : ℕ → List tree.PouText → Option tree.PouText → Bool
through n unit o = elim o [ None ↦ false | Some p ↦ list_any (starts_chain n unit) (variables_of p.blocks) ]

module _ (pous : List Pou) where
  abbrev Told : ℕ → Type 0
  Told n = (v : Variable) → starts_chain n (bare pous) v ≡ leads_on (levels n (owners_of pous)) (type_of (bare pous) v.ty)

  -- a mark of a level, by the POU at its place
  mark_at : (f : List Typed → Bool) (place : ℕ) → get_or (map f (owners_of pous)) place false ≡ at_or f false (option_map (own_of (bare pous)) (slice_get pous place))
  mark_at f place = get_or_map f false (owners_of pous) place ∙ ap (at_or f false) (get_map (own_of (bare pous)) pous place)

  first : (t : VarType) → is_some (block_of (bare pous) t) ≡ leads_on (levels 0 (owners_of pous)) t
  first type.Unknown = refl
  first (type.Elementary t) = refl
  first (type.Standard k) = refl
  first (type.Block place) = ap is_some (get_map bare_pou pous place) ∙ by (slice_get pous place) ∙ sym (mark_at (λ (ts : List Typed). true) place)
    where
      by : (o : Option Pou) → is_some (option_map bare_pou o) ≡ at_or (λ (ts : List Typed). true) false (option_map (own_of (bare pous)) o)
      by None = refl
      by (Some p) = refl

  each_variable : (n : ℕ) → Told n → (ds : List Declared) → list_any (starts_chain n (bare pous)) (map bare_variable ds) ≡ one_leads_on (levels n (owners_of pous)) (map (typed (bare pous)) ds)
  each_variable n told [] = refl
  each_variable n told (d ∷ ds) = ap₂ (λ (a b : Bool). a || b) (told (bare_variable d)) (each_variable n told ds)

  in_pou : (n : ℕ) → Told n → (p : Pou) → list_any (starts_chain n (bare pous)) (variables_of (bare_pou p).blocks) ≡ one_leads_on (levels n (owners_of pous)) (own_of (bare pous) p)
  in_pou n told p = ap (list_any (starts_chain n (bare pous))) (variables_bare p) ∙ each_variable n told (declared p)

  next : (n : ℕ) → Told n → (t : VarType) → through n (bare pous) (block_of (bare pous) t) ≡ leads_on (levels (suc n) (owners_of pous)) t
  next n told type.Unknown = refl
  next n told (type.Elementary t) = refl
  next n told (type.Standard k) = refl
  next n told (type.Block place) =
      ap (through n (bare pous)) (get_map bare_pou pous place) ∙ by (slice_get pous place) ∙ sym (mark_at (one_leads_on (levels n (owners_of pous))) place)
    where
      by : (o : Option Pou) → through n (bare pous) (option_map bare_pou o) ≡ at_or (one_leads_on (levels n (owners_of pous))) false (option_map (own_of (bare pous)) o)
      by None = refl
      by (Some p) = in_pou n told p

  pub chain_is : (n : ℕ) (v : Variable) → starts_chain n (bare pous) v ≡ leads_on (levels n (owners_of pous)) (type_of (bare pous) v.ty)
  chain_is zero v = ap is_some (user_is (bare pous) v) ∙ first (type_of (bare pous) v.ty)
  chain_is (suc n) v = ap (through n (bare pous)) (user_is (bare pous) v) ∙ next n (chain_is n) (type_of (bare pous) v.ty)

  each_pou : (n : ℕ) (ps : List Pou)
      → list_any (λ (p : tree.PouText). list_any (starts_chain n (bare pous)) (variables_of p.blocks)) (map bare_pou ps)
      ≡ list_any (λ b. b) (map (one_leads_on (levels n (owners_of pous))) (map (own_of (bare pous)) ps))
  each_pou n [] = refl
  each_pou n (p ∷ ps) = ap₂ (λ (a b : Bool). a || b) (in_pou n (chain_is n) p) (each_pou n ps)

  pub any_is : list_any (λ b. b) (next_level (owners_of pous) (levels max_instance_chain (owners_of pous))) ≡ has_chain (bare pous)
  any_is = sym (each_pou max_instance_chain pous)
