-- Each body has exactly one list of networks.
use Rattle.std.proofs.Common.{◌≡◌, ℕ, zero, suc, ◌<◌, ◌⊎◌, inl, inr, Bool, true, false, List, [], ◌∷◌, length, refl, sym, ◌∙◌, ap, subst, arith}
use Rattle.std.proofs.lemmas.Bool.{cases_lt}
use Rattle.plcx_types.specs.Lists.{Each}
use Rattle.plcx_model.specs.Graph.{Graph, IsGraph, TakesPart, PlaceBefore, elements}
use Rattle.plcx_model.specs.Paths.{IsLink, Reaches}
use Rattle.plcx_model.specs.Networks.{Listed, IsRising, IsNetwork, ComesBefore, AreInOrder, IsInOne, HaveOneListOfNetworks}
use Rattle.plcx_order.specs.Classes.{members}
use Rattle.plcx_order.proofs.Deciding.{Dec, both, not_so, listed_or_not, least_below}
use Rattle.plcx_order.proofs.Paths.{here, then}
use Rattle.plcx_order.proofs.KeyOrder.{before_or_not, before_then, not_before_itself, one_place}
use Rattle.plcx_order.proofs.InNetwork.{part_within, part_or_not, inside, together, closed, linked_back, linked_part, linked_or_not, member_part}
use Rattle.plcx_order.proofs.RisingLists.{each_listed}
use Rattle.plcx_order.proofs.AllNetworks.{apart}
use Rattle.plcx_order.proofs.Gathered.{member, member_passes, members_rise}
use Rattle.plcx_order.proofs.OneOrder.{without}

-- ONE LIST OF A CLASS

-- two rising lists of the same numbers are one
one_rising : (xs ys : List ℕ) → IsRising xs → IsRising ys → ((v : ℕ) → Listed xs v → Listed ys v) → ((v : ℕ) → Listed ys v → Listed xs v) → ys ≡ xs
one_rising [] [] r s f g = refl
one_rising [] (y ∷ ys) r s f g = absurd (g y (inl refl))
one_rising (x ∷ xs) [] r s f g = absurd (f x (inl refl))
one_rising (x ∷ xs) (y ∷ ys) r s f g =
    let same : y ≡ x = first_same (f x (inl refl)) (g y (inl refl)) in
    ap (λ z. z ∷ ys) same ∙ ap (λ zs. x ∷ zs) (one_rising xs ys r.1 s.1
    (λ v h. elim (f v (inr h)) [ inl is ↦ absurd (let lt : x < v = each_listed (λ z. x < z) xs v r.0 h in omega arith) | inr later ↦ later ])
    (λ v h. elim (g v (inr h)) [ inl is ↦ absurd (let lt : y < v = each_listed (λ z. y < z) ys v s.0 h in omega arith) | inr later ↦ later ]))
  where
    first_same : (x ≡ y) ⊎ Listed ys x → (y ≡ x) ⊎ Listed xs y → y ≡ x
    first_same (inl is) other = sym is
    first_same (inr later) (inl is) = is
    first_same (inr later) (inr back) = let one : y < x = each_listed (λ z. y < z) ys x s.0 later in let two : x < y = each_listed (λ z. x < z) xs y r.0 back in absurd (omega arith)

one_class : (g : Graph) (n m : List ℕ) (v : ℕ) → IsNetwork g n → IsNetwork g m → Listed n v → Listed m v → m ≡ n
one_class g n m v is_n is_m in_n in_m = one_rising n m is_n.rising is_m.rising
    (λ w h. closed g m v w is_m in_m (together g n v w is_n in_n h))
    (λ w h. closed g n v w is_n in_n (together g m v w is_m in_m h))

-- THE LEAST

-- the least of a network
record IsLeast (g : Graph) (n : List ℕ) (l : ℕ) : Type 0 where
  there : Listed n l
  least : (v : ℕ) → Listed n v → (v ≡ l) ⊎ PlaceBefore g l v

least_of : (g : Graph) (n : List ℕ) → IsGraph g → IsNetwork g n → (l : ℕ) × IsLeast g n l
least_of g n is m = elim (least_below (Listed n) (PlaceBefore g) (listed_or_not n) (before_or_not g) (not_before_itself g) (before_then g) (elements g)) [
  | inl none ↦ absurd (none m.one (inside g n is m m.one ((m.class m.one).1 (here (IsLink g) m.one m.one refl))) ((m.class m.one).1 (here (IsLink g) m.one m.one refl)))
  | inr found ↦ (
    found.0,
    record {
      there = found.2;
      least = λ v h. elim (before_or_not g found.0 v) [
        | inl before ↦ inr before
        | inr not ↦ inl (sym (one_place g found.0 v is found.1 (inside g n is m v h) not (found.3 v (inside g n is m v h) h)))
      ];
    },
  )
]

-- the least of the first network is before all of the others
least_of_all : (g : Graph) (n : List ℕ) (ns : List (List ℕ)) (l v : ℕ) → IsLeast g n l → Each (ComesBefore g n) ns → IsInOne ns v → PlaceBefore g l v
least_of_all g n [] l v least each h = absurd h
least_of_all g n (m ∷ ns) l v least each (inl there) =
    let c = each.0 in
    elim (least.least c.least c.there) [
      | inl is ↦ subst (λ x. PlaceBefore g x v) is (c.before v there)
      | inr before ↦ before_then g l c.least v before (c.before v there)
    ]
least_of_all g n (m ∷ ns) l v least each (inr later) = least_of_all g n ns l v least each.1 later

apart_from_all : (g : Graph) (n : List ℕ) (ns : List (List ℕ)) (v : ℕ) → IsNetwork g n → Each (IsNetwork g) ns → Each (ComesBefore g n) ns → Listed n v → IsInOne ns v → ⊥
apart_from_all g n [] v is_n each before h other = other
apart_from_all g n (m ∷ ns) v is_n each before h (inl there) = apart g n m v is_n each.0 before.0 h there
apart_from_all g n (m ∷ ns) v is_n each before h (inr later) = apart_from_all g n ns v is_n each.1 before.1 h later

-- AT MOST ONE

one_at_most : (g : Graph) (ns ms : List (List ℕ)) → IsGraph g → Each (IsNetwork g) ns → Each (IsNetwork g) ms → AreInOrder g ns → AreInOrder g ms → ((v : ℕ) → IsInOne ns v → IsInOne ms v) → ((v : ℕ) → IsInOne ms v → IsInOne ns v) → ms ≡ ns
one_at_most g [] [] is en em on om f h = refl
one_at_most g [] (m ∷ ms) is en em on om f h = absurd (h em.0.one (inl ((em.0.class em.0.one).1 (here (IsLink g) em.0.one em.0.one refl))))
one_at_most g (n ∷ ns) [] is en em on om f h = absurd (f en.0.one (inl ((en.0.class en.0.one).1 (here (IsLink g) en.0.one en.0.one refl))))
one_at_most g (n ∷ ns) (m ∷ ms) is en em on om f h =
    let l = least_of g n is en.0 in
    let k = least_of g m is em.0 in
    let same : m ≡ n = elim (f l.0 (inl l.1.there)) [
      | inl in_m ↦ one_class g n m l.0 en.0 em.0 l.1.there in_m
      | inr later ↦
          let k_first : PlaceBefore g k.0 l.0 = least_of_all g m ms k.0 l.0 k.1 om.0 later in
          elim (h k.0 (inl k.1.there)) [
            | inl in_n ↦ one_class g n m k.0 en.0 em.0 in_n k.1.there
            | inr after ↦ absurd (not_before_itself g k.0 (before_then g k.0 l.0 k.0 k_first (least_of_all g n ns l.0 k.0 l.1 on.0 after)))
          ]
    ] in
    ap (λ x. x ∷ ms) same ∙ ap (λ xs. n ∷ xs) (one_at_most g ns ms is en.1 em.1 on.1 om.1
    (λ v there. elim (f v (inr there)) [ inl in_m ↦ absurd (apart_from_all g n ns v en.0 en.1 on.0 (subst (λ x. Listed x v) same in_m) there) | inr later ↦ later ])
    (λ v there. elim (h v (inr there)) [ inl in_n ↦ absurd (apart_from_all g m ms v em.0 em.1 om.0 (subst (λ x. Listed x v) (sym same) in_n) there) | inr later ↦ later ]))

-- AT LEAST ONE

abbrev decided : {P : Type 0} → Dec P → Bool
decided (inl p) = true
decided (inr p) = false

decided_true : {P : Type 0} (d : Dec P) → P → decided d ≡ true
decided_true (inl p) q = refl
decided_true (inr p) q = absurd (p q)

true_decided : {P : Type 0} (d : Dec P) → decided d ≡ true → P
true_decided (inl p) e = p
true_decided (inr p) e = absurd (let f : false ≡ true = e in cc)

abbrev class_of : (g : Graph) → IsGraph g → ℕ → List ℕ
class_of g is l = members (λ v. decided (linked_or_not g is l v)) (elements g)

abbrev class_is_network : (g : Graph) (is : IsGraph g) (l : ℕ) → TakesPart g l → IsNetwork g (class_of g is l)
class_is_network g is l takes = record {
  one = l;
  takes_part = takes;
  class = λ v. (
    λ h. true_decided (linked_or_not g is l v) (member_passes (λ x. decided (linked_or_not g is l x)) (elements g) v h).1,
    λ r. member (λ x. decided (linked_or_not g is l x)) (elements g) v (part_within g v is (linked_part g l v takes r)) (decided_true (linked_or_not g is l v) r),
  );
  rising = members_rise (λ x. decided (linked_or_not g is l x)) (elements g);
}

-- what is left to be put into networks, and the networks of it
record AreLeft (g : Graph) (S : ℕ → Type 0) (rest : List ℕ) : Type 0 where
  decide : (v : ℕ) → Dec (S v)
  part : (v : ℕ) → S v → TakesPart g v
  linked : (u v : ℕ) → S u → Reaches (IsLink g) u v → S v
  cover : (v : ℕ) → S v → Listed rest v

record AreNetworksOf (g : Graph) (S : ℕ → Type 0) (ns : List (List ℕ)) : Type 0 where
  each : Each (IsNetwork g) ns
  whole : (v : ℕ) → S v → IsInOne ns v
  only : (v : ℕ) → IsInOne ns v → S v
  in_order : AreInOrder g ns

each_after : (g : Graph) (n : List ℕ) (ns : List (List ℕ)) (l : ℕ) → Listed n l → ((v : ℕ) → IsInOne ns v → PlaceBefore g l v) → Each (ComesBefore g n) ns
each_after g n [] l there before = tt
each_after g n (m ∷ ns) l there before = (record { least = l; there = there; before = λ v h. before v (inl h) }, each_after g n ns l there (λ v h. before v (inr h)))

build : (g : Graph) (is : IsGraph g) (fuel : ℕ) (rest : List ℕ) (S : ℕ → Type 0) → length rest ≡ fuel → AreLeft g S rest → (ns : List (List ℕ)) × AreNetworksOf g S ns
build g is zero [] S e left = ([], record { each = tt; whole = λ v h. absurd (left.cover v h); only = λ v h. absurd h; in_order = tt })
build g is zero (x ∷ rest) S e left = absurd (omega (arith, e))
build g is (suc fuel) rest S e left = elim (least_below S (PlaceBefore g) left.decide (before_or_not g) (not_before_itself g) (before_then g) (elements g)) [
  | inl none ↦ ([], record { each = tt; whole = λ v h. absurd (none v (part_within g v is (left.part v h)) h); only = λ v h. absurd h; in_order = tt })
  | inr found ↦
      let l = found.0 in
      let class = class_of g is l in
      let network = class_is_network g is l (left.part l found.2) in
      let less = without rest l (left.cover l found.2) in
      let later = build g is fuel less.0 (λ v. S v × (Reaches (IsLink g) l v → ⊥)) (omega (arith, e, less.1.shorter)) (record {
        decide = λ v. both (left.decide v) (not_so (linked_or_not g is l v));
        part = λ v h. left.part v h.0;
        linked = λ u v h r. (left.linked u v h.0 r, λ to. h.1 (then (IsLink g) l v u to (linked_back g u v r)));
        cover = λ v h. elim (less.1.others v (left.cover v h.0)) [ inl at ↦ absurd (h.1 (here (IsLink g) l v (sym at))) | inr there ↦ there ];
      }) in (
        class ∷ later.0,
        record {
          each = (network, later.1.each);
          whole = λ v h. elim (linked_or_not g is l v) [ inl r ↦ inl ((network.class v).1 r) | inr not ↦ inr (later.1.whole v (h, not)) ];
          only = λ v h. elim h [ inl there ↦ left.linked l v found.2 ((network.class v).0 there) | inr after ↦ (later.1.only v after).0 ];
          in_order = (
            each_after g class later.0 l ((network.class l).1 (here (IsLink g) l l refl)) (λ v h.
                let s = later.1.only v h in
                let low = part_within g v is (left.part v s.0) in
                elim (before_or_not g l v) [ inl before ↦ before | inr not ↦ absurd (s.1 (here (IsLink g) l v (one_place g l v is found.1 low not (found.3 v low s.0)))) ]),
            later.1.in_order,
          );
        },
      )
]

in_part : (g : Graph) (ns : List (List ℕ)) (v : ℕ) → Each (IsNetwork g) ns → IsInOne ns v → TakesPart g v
in_part g [] v each h = absurd h
in_part g (n ∷ ns) v each (inl there) = member_part g n v each.0 there
in_part g (n ∷ ns) v each (inr later) = in_part g ns v each.1 later

below : ℕ → List ℕ
below zero = []
below (suc n) = n ∷ below n

all_below : (n v : ℕ) → v < n → Listed (below n) v
unfolding below
all_below zero v h = omega arith
all_below (suc n) v h = elim (cases_lt v n) [ inl lt ↦ inr (all_below n v lt) | inr ge ↦ inl (omega arith) ]

pub have_one_list : HaveOneListOfNetworks
have_one_list g is =
    let built = build g is (length (below (elements g))) (below (elements g)) (TakesPart g) refl (record {
      decide = part_or_not g;
      part = λ v h. h;
      linked = λ u v h r. linked_part g u v h r;
      cover = λ v h. all_below (elements g) v (part_within g v is h);
    }) in (
      built.0,
      record { each = built.1.each; whole = built.1.whole; in_order = built.1.in_order },
      λ others are. one_at_most g built.0 others is built.1.each are.each built.1.in_order are.in_order
          (λ v h. are.whole v (in_part g built.0 v built.1.each h)) (λ v h. built.1.whole v (in_part g others v are.each h)),
    )
