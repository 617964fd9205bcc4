-- What is linked, and what stands in a network.
use Rattle.std.proofs.Common.{◌≡◌, ℕ, ◌<◌, ◌⊎◌, inl, inr, Bool, true, false, List, [], ◌∷◌, length, get_or, refl, arith, zero, suc}
use Rattle.plcx_model.specs.Graph.{Graph, IsGraph, TakesPart, elements}
use Rattle.plcx_model.specs.Paths.{IsWire, IsLink, Reaches}
use Rattle.plcx_model.specs.Networks.{Listed, IsNetwork}
use Rattle.plcx_order.proofs.Deciding.{Dec, both, either, along}
use Rattle.plcx_order.proofs.Paths.{then, kept, back_too, wire_or_none, reaches_or_not}

true_within : (bs : List Bool) (v : ℕ) → get_or bs v false ≡ true → v < length bs
true_within [] v e = absurd (let f : false ≡ true = e in cc)
true_within (b ∷ bs) zero e = omega arith
true_within (b ∷ bs) (suc v) e = omega (arith, true_within bs v e)

-- what takes part is an element
pub part_within : (g : Graph) (v : ℕ) → IsGraph g → TakesPart g v → v < elements g
part_within g v is h = omega (arith, true_within g.parts v h, is.parts)

true_or_not : (b : Bool) → Dec (b ≡ true)
true_or_not true = inl refl
true_or_not false = inr (λ e. let f : false ≡ true = e in cc)

pub part_or_not : (g : Graph) (v : ℕ) → Dec (TakesPart g v)
part_or_not g v = true_or_not (get_or g.parts v false)

pub link_back : (g : Graph) (u v : ℕ) → IsLink g u v → IsLink g v u
link_back g u v l = record { first = l.second; second = l.first; wired = elim l.wired [ inl w ↦ inr w | inr w ↦ inl w ] }

pub linked_back : (g : Graph) (u v : ℕ) → Reaches (IsLink g) u v → Reaches (IsLink g) v u
linked_back g u v r = back_too (IsLink g) (link_back g) u v r

-- what is linked to an element that takes part takes part
pub linked_part : (g : Graph) (u v : ℕ) → TakesPart g u → Reaches (IsLink g) u v → TakesPart g v
linked_part g u v h r = kept (IsLink g) (TakesPart g) (λ x y l _. l.second) u v r h

link_or_none : (g : Graph) (u v : ℕ) → Dec (IsLink g u v)
link_or_none g u v = along (λ (p : (TakesPart g u × TakesPart g v) × (IsWire g.wires u v ⊎ IsWire g.wires v u)). record { first = p.0.0; second = p.0.1; wired = p.1 }) (λ l. ((l.first, l.second), l.wired))
    (both (both (part_or_not g u) (part_or_not g v)) (either (wire_or_none g.wires u v) (wire_or_none g.wires v u)))

pub linked_or_not : (g : Graph) → IsGraph g → (u v : ℕ) → Dec (Reaches (IsLink g) u v)
linked_or_not g is u v = reaches_or_not (IsLink g) (elements g) (link_or_none g) (λ x y l. part_within g y is l.second) u v

pub member_part : (g : Graph) (network : List ℕ) (v : ℕ) → IsNetwork g network → Listed network v → TakesPart g v
member_part g network v m h = linked_part g m.one v m.takes_part ((m.class v).0 h)

-- the elements of a network are elements
pub inside : (g : Graph) (network : List ℕ) → IsGraph g → IsNetwork g network → (v : ℕ) → Listed network v → v < elements g
inside g network is m v h = part_within g v is (member_part g network v m h)

-- two elements of a network are linked
pub together : (g : Graph) (network : List ℕ) (u v : ℕ) → IsNetwork g network → Listed network u → Listed network v → Reaches (IsLink g) u v
together g network u v m hu hv = then (IsLink g) u m.one v (linked_back g m.one u ((m.class u).0 hu)) ((m.class v).0 hv)

-- what an element of a network is linked to is in it
pub closed : (g : Graph) (network : List ℕ) (u v : ℕ) → IsNetwork g network → Listed network u → Reaches (IsLink g) u v → Listed network v
closed g network u v m hu r = (m.class v).1 (then (IsLink g) m.one u v ((m.class u).0 hu) r)
