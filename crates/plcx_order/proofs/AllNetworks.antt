-- Networks one after the other: they have no element in common.
use Rattle.std.proofs.Common.{◌≡◌, ℕ, zero, suc, ◌+◌, ◌<◌, Bool, List, [], ◌∷◌, ◌++◌, length, get_or, take, refl, sym, ◌∙◌, ap, subst, arith}
use Rattle.std.proofs.lemmas.Grind.{take_at_read}
use Rattle.plcx_types.specs.Lists.{Each}
use Rattle.plcx_model.specs.Graph.{Graph, from_at}
use Rattle.plcx_model.specs.Networks.{Listed, IsNetwork, AreNetworks, AreInOrder, ComesBefore}
use Rattle.plcx_model.specs.Orders.{IsOrder, AreOrders}
use Rattle.plcx_order.specs.Counts.{AreAwaited, IsUntouched, LeavesOthers}
use Rattle.plcx_order.proofs.KeyOrder.{not_before_itself}
use Rattle.plcx_order.proofs.InNetwork.{together, closed, linked_back, member_part}
use Rattle.plcx_order.proofs.Listings.{untouched_start}

pub each_at : {A : Type 0} (P : A → Type 0) (xs : List A) (k : ℕ) (d : A) → Each P xs → k < length xs → P (get_or xs k d)
each_at P [] k d e h = absurd (omega (arith, h))
each_at P (x ∷ xs) zero d e h = e.0
each_at P (x ∷ xs) (suc k) d e h = each_at P xs k d e.1 (omega (arith, h))

in_order_at : (g : Graph) (ns : List (List ℕ)) (i j : ℕ) → AreInOrder g ns → i < j → j < length ns → ComesBefore g (get_or ns i []) (get_or ns j [])
in_order_at g [] i j o lt h = absurd (omega (arith, h))
in_order_at g (n ∷ ns) i zero o lt h = absurd (omega (arith, lt))
in_order_at g (n ∷ ns) zero (suc j) o lt h = each_at (ComesBefore g n) ns j [] o.0 (omega (arith, h))
in_order_at g (n ∷ ns) (suc i) (suc j) o lt h = in_order_at g ns i j o.1 (omega (arith, lt)) (omega (arith, h))

-- of two networks in order none has an element of the other
pub apart : (g : Graph) (n m : List ℕ) (v : ℕ) → IsNetwork g n → IsNetwork g m → ComesBefore g n m → Listed n v → Listed m v → ⊥
apart g n m v is_n is_m b in_n in_m =
    let there = closed g m v b.least is_m in_m (linked_back g b.least v (together g n b.least v is_n b.there in_n)) in
    not_before_itself g b.least (b.before b.least there)

pub apart_at : (g : Graph) (ns : List (List ℕ)) (i j v : ℕ) → AreNetworks g ns → i < j → j < length ns → Listed (get_or ns i []) v → Listed (get_or ns j []) v → ⊥
apart_at g ns i j v are lt h in_i in_j = apart g (get_or ns i []) (get_or ns j []) v (each_at (IsNetwork g) ns i [] are.each (omega arith)) (each_at (IsNetwork g) ns j [] are.each h) (in_order_at g ns i j are.in_order lt h) in_i in_j

pub network_at : (g : Graph) (ns : List (List ℕ)) (k : ℕ) → AreNetworks g ns → k < length ns → IsNetwork g (get_or ns k [])
network_at g ns k are h = each_at (IsNetwork g) ns k [] are.each h

-- what is left of the others when one is listed
pub untouched_stays : (g : Graph) (marks a b : List Bool) (ns : List (List ℕ)) (k j : ℕ) → AreNetworks g ns → k < j → j < length ns → LeavesOthers g (get_or ns k []) a b → IsUntouched g marks a (get_or ns j []) → IsUntouched g marks b (get_or ns j [])
untouched_stays g marks a b ns k j are lt h others u = record {
  all = λ i hi from to off. u.all i hi from to (sym (others.all i hi (λ in_k. apart_at g ns k j (from_at g.wires i) are lt h in_k from)) ∙ off);
}

orders_push : (g : Graph) (ns os : List (List ℕ)) (n o : List ℕ) → AreOrders g ns os → IsOrder g n o → AreOrders g (ns ++ n ∷ []) (os ++ o ∷ [])
orders_push g [] [] n o are is = (is, tt)
orders_push g [] (x ∷ os) n o are is = absurd are
orders_push g (y ∷ ns) [] n o are is = absurd are
orders_push g (y ∷ ns) (x ∷ os) n o are is = (are.0, orders_push g ns os n o are.1 is)

pub orders_more : (g : Graph) (ns os : List (List ℕ)) (k : ℕ) (o : List ℕ) → k < length ns → AreOrders g (take k ns) os → IsOrder g (get_or ns k []) o → AreOrders g (take (k + 1) ns) (os ++ o ∷ [])
orders_more g ns os k o h are is = subst (λ x. AreOrders g x (os ++ o ∷ [])) (sym (take_at_read ns k [] h).1) (orders_push g (take k ns) os (get_or ns k []) o are is)

take_all : {A : Type 0} (xs : List A) (k : ℕ) → length xs ≡ k → take k xs ≡ xs
take_all [] zero e = refl
take_all [] (suc k) e = refl
take_all (x ∷ xs) zero e = absurd (omega (arith, e))
take_all (x ∷ xs) (suc k) e = ap (λ ys. x ∷ ys) (take_all xs k (omega (arith, e)))

pub orders_end : (g : Graph) (ns os : List (List ℕ)) (k : ℕ) → length ns ≡ k → AreOrders g (take k ns) os → AreOrders g ns os
orders_end g ns os k e are = subst (λ x. AreOrders g x os) (take_all ns k e) are

pub all_untouched : (g : Graph) (marks a : List Bool) (ns : List (List ℕ)) → Each (IsNetwork g) ns → AreAwaited g marks (length g.wires) a → Each (IsUntouched g marks a) ns
all_untouched g marks a [] are aw = tt
all_untouched g marks a (n ∷ ns) are aw = (untouched_start g marks a n are.0 (λ v. member_part g n v are.0) aw, all_untouched g marks a ns are.1 aw)
