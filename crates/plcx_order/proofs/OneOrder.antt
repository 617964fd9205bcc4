-- Each network has exactly one order.
use Rattle.std.proofs.Common.{◌≡◌, ℕ, zero, suc, ◌<◌, ◌⊎◌, inl, inr, List, [], ◌∷◌, ◌++◌, length, refl, sym, ◌∙◌, ap, subst, arith}
use Rattle.plcx_model.specs.Graph.{Graph, IsGraph, KeyAtMost, elements}
use Rattle.plcx_model.specs.Paths.{IsWire, Reaches}
use Rattle.plcx_model.specs.Networks.{Listed}
use Rattle.plcx_model.specs.Feedback.{IsFeedback}
use Rattle.plcx_model.specs.Orders.{IsReady, IsNext, IsOrderFrom, HaveOneOrder}
use Rattle.plcx_order.proofs.Deciding.{Dec, both, implies, not_so, along, some_below, listed_or_not, least_below}
use Rattle.plcx_order.proofs.Paths.{here, then, step, wires_reach_or_not, wire_or_none, out_within}
use Rattle.plcx_order.proofs.KeyOrder.{at_most_itself, at_most_then, at_most_or_not, at_most_back, one_key}
use Rattle.plcx_order.proofs.InNetwork.{inside}

-- AT MOST ONE

one_at_most : (g : Graph) (part done xs ys : List ℕ) → IsGraph g → ((v : ℕ) → Listed part v → v < elements g) → IsOrderFrom g part done xs → IsOrderFrom g part done ys → ys ≡ xs
one_at_most g part done [] [] is p one other = refl
one_at_most g part done [] (y ∷ ys) is p one other = absurd (other.0.ready.new (one y other.0.ready.element))
one_at_most g part done (x ∷ xs) [] is p one other = absurd (one.0.ready.new (other x one.0.ready.element))
one_at_most g part done (x ∷ xs) (y ∷ ys) is p one other =
    let level : y ≡ x = one_key g y x is (p y other.0.ready.element) (p x one.0.ready.element) (other.0.least x one.0.ready) (one.0.least y other.0.ready) in
    ap (λ z. z ∷ ys) level ∙ ap (λ zs. x ∷ zs) (one_at_most g part (done ++ x ∷ []) xs ys is p one.1 (subst (λ z. IsOrderFrom g part (done ++ z ∷ []) ys) level other.1))

-- BEFORE: what has to stand before what

record Before (g : Graph) (u v : ℕ) : Type 0 where
  pub leads : Reaches (IsWire g.wires) u v
  pub key : Reaches (IsWire g.wires) v u → KeyAtMost g v u → ⊥

not_itself : (g : Graph) (u : ℕ) → Before g u u → ⊥
not_itself g u b = b.key (here (IsWire g.wires) u u refl) (at_most_itself g u)

before_then : (g : Graph) (u v w : ℕ) → Before g u v → Before g v w → Before g u w
before_then g u v w a b = record {
  leads = then (IsWire g.wires) u v w a.leads b.leads;
  key = λ back h.
      let less : KeyAtMost g u v = at_most_back g v u (a.key (then (IsWire g.wires) v w u b.leads back)) in
      b.key (then (IsWire g.wires) w u v back a.leads) (at_most_then g w u v h less);
}

before_or_not : (g : Graph) → IsGraph g → (u v : ℕ) → Dec (Before g u v)
before_or_not g is u v = along (λ (p : Reaches (IsWire g.wires) u v × (Reaches (IsWire g.wires) v u → KeyAtMost g v u → ⊥)). record { leads = p.0; key = p.1 }) (λ b. (b.leads, b.key))
    (both (wires_reach_or_not (elements g) g.wires is.within u v) (implies (wires_reach_or_not (elements g) g.wires is.within v u) (not_so (at_most_or_not g v u))))

-- a connection that isn't feedback leads from before
wire_before : (g : Graph) (u v : ℕ) → IsWire g.wires u v → (IsFeedback g u v → ⊥) → Before g u v
wire_before g u v w not = record { leads = step (IsWire g.wires) u v w; key = λ back h. not (record { back = back; key = h }) }

feedback_or_not : (g : Graph) → IsGraph g → (u v : ℕ) → Dec (IsFeedback g u v)
feedback_or_not g is u v = along (λ (p : Reaches (IsWire g.wires) v u × KeyAtMost g v u). record { back = p.0; key = p.1 }) (λ f. (f.back, f.key)) (both (wires_reach_or_not (elements g) g.wires is.within v u) (at_most_or_not g v u))

-- THE NEXT ONE

-- in the network, and not listed
abbrev Left : List ℕ → List ℕ → ℕ → Type 0
Left part done v = Listed part v × (Listed done v → ⊥)

left_or_not : (part done : List ℕ) (v : ℕ) → Dec (Left part done v)
left_or_not part done v = both (listed_or_not part v) (not_so (listed_or_not done v))

four : {P Q R S : Type 0} → Dec P → Dec Q → Dec R → Dec S → Dec (P × Q × R × S)
four (inl p) (inl q) (inl r) (inl s) = inl (p, q, r, s)
four (inl p) (inl q) (inl r) (inr s) = inr (λ h. s h.3)
four (inl p) (inl q) (inr r) d = inr (λ h. r h.2)
four (inl p) (inr q) d e = inr (λ h. q h.1)
four (inr p) d e f = inr (λ h. p h.0)

ready_or_not : (g : Graph) (part done : List ℕ) → IsGraph g → (v : ℕ) → Dec (IsReady g part done v)
ready_or_not g part done is v = elim (left_or_not part done v) [
  | inr not ↦ inr (λ r. not (r.element, r.new))
  | inl left ↦ elim (some_below (λ u. IsWire g.wires u v × Listed part u × (IsFeedback g u v → ⊥) × (Listed done u → ⊥))
      (λ u. four (wire_or_none g.wires u v) (listed_or_not part u) (not_so (feedback_or_not g is u v)) (not_so (listed_or_not done u))) (elements g)) [
        | inl bad ↦ inr (λ r. bad.2.3 (r.sources bad.0 bad.2.0 bad.2.1 bad.2.2))
        | inr none ↦ inl (record {
          element = left.0;
          new = left.1;
          sources = λ u w there not. elim (listed_or_not done u) [ inl listed ↦ listed | inr new ↦ absurd (none u (out_within (elements g) g.wires is.within u v w) (w, there, not, new)) ];
        })
      ]
]

-- all are listed, or there is a next one
pub next_or_all : (g : Graph) (part done : List ℕ) → IsGraph g → ((v : ℕ) → Listed part v → v < elements g) → ((v : ℕ) → Listed part v → Listed done v) ⊎ ((x : ℕ) × IsNext g part done x)
next_or_all g part done is p = elim (least_below (Left part done) (Before g) (left_or_not part done) (before_or_not g is) (not_itself g) (before_then g) (elements g)) [
  | inl all ↦ inl (λ v there. elim (listed_or_not done v) [ inl listed ↦ listed | inr new ↦ absurd (all v (p v there) (there, new)) ])
  | inr low ↦
      let ready : IsReady g part done low.0 = record {
        element = low.2.0;
        new = low.2.1;
        sources = λ u w there not. elim (listed_or_not done u) [
          | inl listed ↦ listed
          | inr new ↦ absurd (low.3 u (p u there) (there, new) (wire_before g u low.0 w not))
        ];
      } in
      elim (least_below (IsReady g part done) (λ u v. KeyAtMost g v u → ⊥) (ready_or_not g part done is) (λ u v. not_so (at_most_or_not g v u)) (λ u h. h (at_most_itself g u))
      (λ u v w h k m. h (at_most_then g v w u (at_most_back g w v k) m)) (elements g)) [
        | inl none ↦ absurd (none low.0 low.1 ready)
        | inr found ↦ inr (
          found.0,
          record {
            ready = found.2;
            least = λ v r. elim (at_most_or_not g found.0 v) [ inl most ↦ most | inr not ↦ absurd (found.3 v (p v r.element) r not) ];
          },
        )
      ]
]

-- AT LEAST ONE

pub stays_listed : (xs : List ℕ) (x v : ℕ) → Listed xs v → Listed (xs ++ x ∷ []) v
stays_listed [] x v h = absurd h
stays_listed (y ∷ xs) x v (inl is) = inl is
stays_listed (y ∷ xs) x v (inr later) = inr (stays_listed xs x v later)

pub last_listed : (xs : List ℕ) (x v : ℕ) → v ≡ x → Listed (xs ++ x ∷ []) v
last_listed [] x v is = inl is
last_listed (y ∷ xs) x v is = inr (last_listed xs x v is)

pub was_listed : (xs : List ℕ) (x v : ℕ) → Listed (xs ++ x ∷ []) v → (v ≡ x) ⊎ Listed xs v
was_listed [] x v (inl is) = inl is
was_listed [] x v (inr not) = absurd not
was_listed (y ∷ xs) x v (inl is) = inr (inl is)
was_listed (y ∷ xs) x v (inr later) = elim (was_listed xs x v later) [ inl is ↦ inl is | inr there ↦ inr (inr there) ]

pub record IsRest (xs : List ℕ) (x : ℕ) (ys : List ℕ) : Type 0 where
  pub shorter : length xs ≡ suc (length ys)
  pub others : (v : ℕ) → Listed xs v → (v ≡ x) ⊎ Listed ys v

pub without : (xs : List ℕ) (x : ℕ) → Listed xs x → (ys : List ℕ) × IsRest xs x ys
without [] x h = absurd h
without (y ∷ xs) x (inl is) = (xs, record { shorter = refl; others = λ v l. elim l [ inl e ↦ inl (e ∙ sym is) | inr later ↦ inr later ] })
without (y ∷ xs) x (inr there) =
    let rest = without xs x there in
    (y ∷ rest.0, record { shorter = ap suc rest.1.shorter; others = λ v l. elim l [ inl e ↦ inr (inl e) | inr later ↦ elim (rest.1.others v later) [ inl e ↦ inl e | inr in_rest ↦ inr (inr in_rest) ] ] })

build : (g : Graph) (part : List ℕ) → IsGraph g → ((v : ℕ) → Listed part v → v < elements g) → (fuel : ℕ) (rest done : List ℕ) → length rest ≡ fuel → ((v : ℕ) → Listed part v → Listed done v ⊎ Listed rest v) → (xs : List ℕ) × IsOrderFrom g part done xs
build g part is p zero [] done e cover = ([], λ v h. elim (cover v h) [ inl there ↦ there | inr not ↦ absurd not ])
build g part is p zero (x ∷ rest) done e cover = absurd (omega (arith, e))
build g part is p (suc fuel) rest done e cover = elim (next_or_all g part done is p) [
  | inl all ↦ ([], all)
  | inr found ↦
      let in_rest : Listed rest found.0 = elim (cover found.0 found.1.ready.element) [ inl there ↦ absurd (found.1.ready.new there) | inr there ↦ there ] in
      let less = without rest found.0 in_rest in
      let later = build g part is p fuel less.0 (done ++ found.0 ∷ []) (omega (arith, e, less.1.shorter)) (λ v h. elim (cover v h) [
        | inl there ↦ inl (stays_listed done found.0 v there)
        | inr there ↦ elim (less.1.others v there) [ inl is ↦ inl (last_listed done found.0 v is) | inr left ↦ inr left ]
      ]) in
      (found.0 ∷ later.0, (found.1, later.1))
]

pub have_one_order : HaveOneOrder
have_one_order g part is network =
    let p = inside g part is network in
    let one = build g part is p (length part) part [] refl (λ v h. inr h) in
    (one.0, one.1, λ ys other. one_at_most g part [] one.0 ys is p one.1 other)
