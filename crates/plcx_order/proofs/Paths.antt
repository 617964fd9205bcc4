-- Paths, joined, followed and decided.
use Rattle.std.proofs.Common.{◌≡◌, ℕ, zero, suc, ◌<◌, ◌⊎◌, inl, inr, List, [], ◌∷◌, length, refl, sym, subst, arith}
use Rattle.std.proofs.lemmas.Bool.{cases_lt}
use Rattle.plcx_model.specs.declared.source.Wire.{Wire}
use Rattle.plcx_model.specs.Graph.{from_at, to_at, AreWithin}
use Rattle.plcx_model.specs.Paths.{IsPath, Reaches, IsWire}
use Rattle.plcx_order.proofs.Deciding.{Dec, both, either, along, same, some_below}

pub here : (R : ℕ → ℕ → Type 0) (u v : ℕ) → u ≡ v → Reaches R u v
here R u v e = record { path = []; leads = e }

joined : (R : ℕ → ℕ → Type 0) (path : List ℕ) (u v w : ℕ) → IsPath R u path v → Reaches R v w → Reaches R u w
joined R [] u v w e r = subst (λ x. Reaches R x w) (sym e) r
joined R (x ∷ path) u v w h r =
    let rest = joined R path x v w h.1 r in
    record { path = x ∷ rest.path; leads = (h.0, rest.leads) }

pub then : (R : ℕ → ℕ → Type 0) (u v w : ℕ) → Reaches R u v → Reaches R v w → Reaches R u w
then R u v w r s = joined R r.path u v w r.leads s

pub step : (R : ℕ → ℕ → Type 0) (u v : ℕ) → R u v → Reaches R u v
step R u v h = record { path = v ∷ []; leads = (h, refl) }

pub by_wire : (ws : List Wire) (i u v : ℕ) → i < length ws → from_at ws i ≡ u → to_at ws i ≡ v → Reaches (IsWire ws) u v
by_wire ws i u v h e f = step (IsWire ws) u v (record { place = i; below = h; out_of = e; into = f })

-- what every step keeps, a path keeps
kept_along : (R : ℕ → ℕ → Type 0) (P : ℕ → Type 0) → ((u v : ℕ) → R u v → P u → P v) → (path : List ℕ) (u v : ℕ) → IsPath R u path v → P u → P v
kept_along R P h [] u v e p = subst P e p
kept_along R P h (x ∷ path) u v l p = kept_along R P h path x v l.1 (h u x l.0 p)

pub kept : (R : ℕ → ℕ → Type 0) (P : ℕ → Type 0) → ((u v : ℕ) → R u v → P u → P v) → (u v : ℕ) → Reaches R u v → P u → P v
kept R P h u v r p = kept_along R P h r.path u v r.leads p

-- the same along connections, by their numbers
pub kept_by_wires : (ws : List Wire) (P : ℕ → Type 0) → ((i : ℕ) → i < length ws → P (from_at ws i) → P (to_at ws i)) → (u v : ℕ) → Reaches (IsWire ws) u v → P u → P v
kept_by_wires ws P h u v r p = kept (IsWire ws) P (λ x y w q. subst P w.into (h w.place w.below (subst P (sym w.out_of) q))) u v r p

-- a way back, where each step has one
pub back_along : (R : ℕ → ℕ → Type 0) → ((u v : ℕ) → R u v → R v u) → (path : List ℕ) (u v : ℕ) → IsPath R u path v → Reaches R v u
back_along R back [] u v e = here R v u (sym e)
back_along R back (x ∷ path) u v l = then R v x u (back_along R back path x v l.1) (step R x u (back u x l.0))

pub back_too : (R : ℕ → ℕ → Type 0) → ((u v : ℕ) → R u v → R v u) → (u v : ℕ) → Reaches R u v → Reaches R v u
back_too R back u v r = back_along R back r.path u v r.leads

-- REACHING BY WAY OF ELEMENTS BELOW k

abbrev Ways : (ℕ → ℕ → Type 0) → ℕ → ℕ → ℕ → Type 0
Ways R zero u v = (u ≡ v) ⊎ R u v
Ways R (suc k) u v = Ways R k u v ⊎ (Ways R k u k × Ways R k k v)

way_or_none : (R : ℕ → ℕ → Type 0) → ((u v : ℕ) → Dec (R u v)) → (k u v : ℕ) → Dec (Ways R k u v)
way_or_none R d zero u v = either (same u v) (d u v)
way_or_none R d (suc k) u v = either (way_or_none R d k u v) (both (way_or_none R d k u k) (way_or_none R d k k v))

way_reaches : (R : ℕ → ℕ → Type 0) (k u v : ℕ) → Ways R k u v → Reaches R u v
way_reaches R zero u v (inl e) = here R u v e
way_reaches R zero u v (inr w) = step R u v w
way_reaches R (suc k) u v (inl w) = way_reaches R k u v w
way_reaches R (suc k) u v (inr w) = then R u k v (way_reaches R k u k w.0) (way_reaches R k k v w.1)

short_way : (R : ℕ → ℕ → Type 0) (k u v : ℕ) → Ways R zero u v → Ways R k u v
short_way R zero u v w = w
short_way R (suc k) u v w = inl (short_way R k u v w)

to_top : (R : ℕ → ℕ → Type 0) (k u : ℕ) → Ways R (suc k) u k → Ways R k u k
to_top R k u (inl w) = w
to_top R k u (inr w) = w.0

from_top : (R : ℕ → ℕ → Type 0) (k v : ℕ) → Ways R (suc k) k v → Ways R k k v
from_top R k v (inl w) = w
from_top R k v (inr w) = w.1

lifted : (R : ℕ → ℕ → Type 0) (k u w v : ℕ) → ((a b : ℕ) → Ways R k a w → Ways R k w b → Ways R k a b) → Ways R (suc k) u w → Ways R (suc k) w v → Ways R (suc k) u v
lifted R k u w v join (inl a) (inl b) = inl (join u v a b)
lifted R k u w v join (inl a) (inr b) = inr (join u k a b.0, b.1)
lifted R k u w v join (inr a) (inl b) = inr (a.0, join k v a.1 b)
lifted R k u w v join (inr a) (inr b) = inr (a.0, b.1)

way_then : (R : ℕ → ℕ → Type 0) (k u w v : ℕ) → w < k → Ways R k u w → Ways R k w v → Ways R k u v
way_then R zero u w v h a b = absurd (omega arith)
way_then R (suc k) u w v h a b = elim (cases_lt w k) [
  | inr ge ↦
      let is : w ≡ k = omega arith in
      inr (to_top R k u (subst (Ways R (suc k) u) is a), from_top R k v (subst (λ x. Ways R (suc k) x v) is b))
  | inl lt ↦ lifted R k u w v (λ x y p q. way_then R k x w y lt p q) a b
]

path_way : (R : ℕ → ℕ → Type 0) (n : ℕ) → ((u v : ℕ) → R u v → v < n) → (path : List ℕ) (u v : ℕ) → IsPath R u path v → Ways R n u v
path_way R n within [] u v e = short_way R n u v (inl e)
path_way R n within (x ∷ path) u v l = way_then R n u x v (within u x l.0) (short_way R n u x (inr l.0)) (path_way R n within path x v l.1)

-- where each step can be decided and leads below n, so can a path
pub reaches_or_not : (R : ℕ → ℕ → Type 0) (n : ℕ) → ((u v : ℕ) → Dec (R u v)) → ((u v : ℕ) → R u v → v < n) → (u v : ℕ) → Dec (Reaches R u v)
reaches_or_not R n d within u v = along (way_reaches R n u v) (λ r. path_way R n within r.path u v r.leads) (way_or_none R d n u v)

-- CONNECTIONS

pub wire_or_none : (ws : List Wire) (u v : ℕ) → Dec (IsWire ws u v)
wire_or_none ws u v = elim (some_below (λ i. (from_at ws i ≡ u) × (to_at ws i ≡ v)) (λ i. both (same (from_at ws i) u) (same (to_at ws i) v)) (length ws)) [
  | inl w ↦ inl (record { place = w.0; below = w.1; out_of = w.2.0; into = w.2.1 })
  | inr none ↦ inr (λ w. none w.place w.below (w.out_of, w.into))
]

pub into_within : (n : ℕ) (ws : List Wire) → AreWithin n ws → (u v : ℕ) → IsWire ws u v → v < n
into_within n ws h u v w = subst (λ x. x < n) w.into (h w.place w.below).1

pub out_within : (n : ℕ) (ws : List Wire) → AreWithin n ws → (u v : ℕ) → IsWire ws u v → u < n
out_within n ws h u v w = subst (λ x. x < n) w.out_of (h w.place w.below).0

pub wires_reach_or_not : (n : ℕ) (ws : List Wire) → AreWithin n ws → (u v : ℕ) → Dec (Reaches (IsWire ws) u v)
wires_reach_or_not n ws w u v = reaches_or_not (IsWire ws) n (wire_or_none ws) (into_within n ws w) u v
