-- Nothing in a heap is less than its least.
use Rattle.std.proofs.Common.{◌≡◌, ◌∷◌, List, [], map, false}
use Rattle.std.specs.BinaryHeap.{IsUpperBound}
use Rattle.std.specs.List.{All}
use Rattle.std.specs.Ordering.{is_lt}
use Rattle.std.specs.declared.cmp.Reverse.{Reverse}
use Rattle.plcx_order.specs.Counts.{entry_cmp}
use Rattle.plcx_order.specs.declared.ready.Entry.{Entry}
use Rattle.std.proofs.lemmas.List.Elements.{All-cons, All-nil}

pub none_less : (x : Reverse Entry) (ys : List (Reverse Entry)) → IsUpperBound (λ x y. entry_cmp y.0 x.0) x ys → All (λ y. is_lt (entry_cmp y x.0) ≡ false) (map (λ y. y.0) ys)
none_less x [] h = All-nil (λ y. is_lt (entry_cmp y x.0) ≡ false)
none_less x (y ∷ ys) h = All-cons (λ y. is_lt (entry_cmp y x.0) ≡ false) y.0 (map (λ y. y.0) ys) h.0 (none_less x ys h.1)
