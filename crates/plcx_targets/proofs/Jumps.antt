-- Networks that jump, and where their labels stand.
use Rattle.std.proofs.Common.{◌≡◌, ℕ, ◌+◌, ◌<◌, ◌≤◌, Bool, true, false, ◌||◌, cond, List, [], ◌∷◌, map, drop, get_or, length, Option, Some, None, refl, ap, sym, ◌∙◌, arith}
use Rattle.std.specs.Prelude.{slice_get}
use Rattle.std.specs.List.{list_any, filter_map, position_from}
use Rattle.std.specs.Option.{unwrap_or}
use Rattle.std.proofs.lemmas.List.{at_drop_all}
use Rattle.plcx_types.specs.Name.{in_lower_case}
use Rattle.plcx_meaning.specs.Diagram.{ElementKind, Still, In, Out, Contact, Coil, Pass, Label, Jump, Return, Function, Call, Port, DiagramElement, is_label, target}
use Rattle.plcx_meaning.proofs.Names.{bytes_swapped}
use Rattle.plcx_names.specs.Told.{found_or, place_if}
use Rattle.plcx_targets.specs.Labels.{is_labelled}
use Rattle.plcx_drawn.proofs.Walks.{left, found_here}

-- one of those that are left passes, as the one here does
pub any_here : {X : Type 0} (test : X → Bool) (xs : List X) (places : List ℕ) (i : ℕ) (x : X) (b : Bool) → i < length places → Some x ≡ slice_get xs (get_or places i 0) → test x ≡ true
    → list_any test (filter_map (slice_get xs) (drop i places)) ≡ b → true ≡ b
any_here test xs places i x b low is passes before =
    sym (ap (λ t. t || list_any test (filter_map (slice_get xs) (drop (i + 1) places))) passes) ∙ sym (ap (list_any test) (found_here xs places i (Some x) low is)) ∙ before

-- the one here doesn't
pub any_later : {X : Type 0} (test : X → Bool) (xs : List X) (places : List ℕ) (i : ℕ) (x : X) (b : Bool) → i < length places → Some x ≡ slice_get xs (get_or places i 0) → test x ≡ false
    → list_any test (filter_map (slice_get xs) (drop i places)) ≡ b → list_any test (filter_map (slice_get xs) (drop (i + 1) places)) ≡ b
any_later test xs places i x b low is fails before =
    sym (ap (λ t. t || list_any test (filter_map (slice_get xs) (drop (i + 1) places))) fails) ∙ sym (ap (list_any test) (found_here xs places i (Some x) low is)) ∙ before

-- there is none here
pub any_past : {X : Type 0} (test : X → Bool) (xs : List X) (places : List ℕ) (i : ℕ) (b : Bool) → i < length places → None ≡ slice_get xs (get_or places i 0)
    → list_any test (filter_map (slice_get xs) (drop i places)) ≡ b → list_any test (filter_map (slice_get xs) (drop (i + 1) places)) ≡ b
any_past test xs places i b low is before = sym (ap (list_any test) (found_here xs places i None low is)) ∙ before

-- ---- tables of labels

-- a place that counts where one of two tests passes
pub either : (o : Option ℕ) (a b : Bool) (n : ℕ) → found_or (found_or o (place_if a n)) (place_if b n) ≡ found_or o (place_if (a || b) n)
either None true b n = refl
either None false b n = refl
either (Some x) a b n = refl

-- one element of a network more
pub label_here : (test : DiagramElement → Bool) (xs : List DiagramElement) (places : List ℕ) (i : ℕ) (x : DiagramElement) (n : ℕ) (o after w : Option ℕ) → i < length places → Some x ≡ slice_get xs (get_or places i 0)
    → after ≡ found_or o (place_if (test x) n) → found_or o (place_if (list_any test (filter_map (slice_get xs) (drop i places))) n) ≡ w
    → found_or after (place_if (list_any test (filter_map (slice_get xs) (drop (i + 1) places))) n) ≡ w
label_here test xs places i x n o after w low is more before =
    let rest = list_any test (filter_map (slice_get xs) (drop (i + 1) places)) in
    ap (λ p. found_or p (place_if rest n)) more ∙ either o (test x) rest n
    ∙ sym (ap (λ l. found_or o (place_if (list_any test l) n)) (found_here xs places i (Some x) low is)) ∙ before

pub label_past : (test : DiagramElement → Bool) (xs : List DiagramElement) (places : List ℕ) (i : ℕ) (n : ℕ) (o w : Option ℕ) → i < length places → None ≡ slice_get xs (get_or places i 0)
    → found_or o (place_if (list_any test (filter_map (slice_get xs) (drop i places))) n) ≡ w
    → found_or o (place_if (list_any test (filter_map (slice_get xs) (drop (i + 1) places))) n) ≡ w
label_past test xs places i n o w low is before = sym (ap (λ l. found_or o (place_if (list_any test l) n)) (found_here xs places i None low is)) ∙ before

-- ---- targets

-- a label of a name is one of the name in lower case
same_label : (label : List ℕ) (id : ℕ) (k : ElementKind) (fed : List Port) → is_labelled (in_lower_case label) (record { id = id; kind = k; fed = fed }) ≡ is_label label (record { id = id; kind = k; fed = fed })
same_label label id Still fed = refl
same_label label id (In t negated operand) fed = refl
same_label label id (Out how x link) fed = refl
same_label label id (Contact how operand link) fed = refl
same_label label id (Coil how x link) fed = refl
same_label label id (Pass link) fed = refl
same_label label id (Label name) fed = bytes_swapped (in_lower_case label) (in_lower_case name)
same_label label id (Jump other link) fed = refl
same_label label id (Return link) fed = refl
same_label label id (Function f t enable inputs negated) fed = refl
same_label label id (Call instance enable inputs in_outs outputs) fed = refl

same_any : (label : List ℕ) (es : List DiagramElement) → list_any (is_labelled (in_lower_case label)) es ≡ list_any (is_label label) es
same_any label [] = refl
same_any label (e ∷ es) =
    ap (λ b. b || list_any (is_labelled (in_lower_case label)) es) (same_label label e.id e.kind e.fed) ∙ ap (λ b. is_label label e || b) (same_any label es)

-- where the networks are counted from a number
counted : (label : List ℕ) (n : ℕ) (networks : List (List DiagramElement))
    → unwrap_or (position_from (list_any (is_labelled (in_lower_case label))) n networks) (n + length networks) ≡ n + target label networks
counted label n [] = refl
counted label n (network ∷ networks) = by (list_any (is_label label) network) (same_any label network) (counted label (n + 1) networks)
  where
    by : (b : Bool) → list_any (is_labelled (in_lower_case label)) network ≡ b → unwrap_or (position_from (list_any (is_labelled (in_lower_case label))) (n + 1) networks) (n + 1 + length networks) ≡ n + 1 + target label networks
        → unwrap_or (position_from (list_any (is_labelled (in_lower_case label))) n (network ∷ networks)) (n + length (network ∷ networks)) ≡ n + cond b 0 (target label networks + 1)
    by true is later = ap (λ b. unwrap_or (cond b (Some n) (position_from (list_any (is_labelled (in_lower_case label))) (n + 1) networks)) (n + length (network ∷ networks))) is ∙ (let e : n ≡ n + 0 = omega arith in e)
    by false is later =
        let moved : n + length (network ∷ networks) ≡ n + 1 + length networks = omega arith in
        let added : n + 1 + target label networks ≡ n + (target label networks + 1) = omega arith in
        ap (λ b. unwrap_or (cond b (Some n) (position_from (list_any (is_labelled (in_lower_case label))) (n + 1) networks)) (n + length (network ∷ networks))) is
        ∙ ap (unwrap_or (position_from (list_any (is_labelled (in_lower_case label))) (n + 1) networks)) moved ∙ later ∙ added

-- the target of a label is the first network in which it stands, or the number behind the last
pub target_is : (label : List ℕ) (networks : List (List DiagramElement)) → unwrap_or (position_from (list_any (is_labelled (in_lower_case label))) 0 networks) (length networks) ≡ target label networks
target_is label networks =
    let from : 0 + length networks ≡ length networks = omega arith in
    let none : 0 + target label networks ≡ target label networks = omega arith in
    ap (unwrap_or (position_from (list_any (is_labelled (in_lower_case label))) 0 networks)) (sym from) ∙ counted label 0 networks ∙ none

-- ---- networks by their numbers

then_rest : (o : Option ℕ) (b : Bool) (i : ℕ) (rest : Option ℕ) → found_or (found_or o (place_if b i)) rest ≡ found_or o (cond b (Some i) rest)
then_rest None true i rest = refl
then_rest None false i rest = refl
then_rest (Some x) b i rest = refl

or_none : (o : Option ℕ) → found_or o None ≡ o
or_none None = refl
or_none (Some x) = refl

module _ {X Y : Type 0} (test : Y → Bool) (f : X → Y) (xs : List X) (i : ℕ) (o w : Option ℕ) where
  -- one network more
  pub network_here : (x : X) (after : Option ℕ) → i < length xs → x ≡ get_or xs i x → after ≡ found_or o (place_if (test (f x)) i)
      → found_or o (position_from test i (map f (drop i xs))) ≡ w → found_or after (position_from test (i + 1) (map f (drop (i + 1) xs))) ≡ w
  network_here x after low is more before =
      let rest = position_from test (i + 1) (map f (drop (i + 1) xs)) in
      ap (λ p. found_or p rest) more ∙ then_rest o (test (f x)) i rest ∙ ap (λ ys. found_or o (position_from test i (map f ys))) (sym (left xs i x low is)) ∙ before

  -- no network more
  pub network_last : length xs ≤ i → found_or o (position_from test i (map f (drop i xs))) ≡ w → o ≡ w
  network_last high before = sym (or_none o) ∙ sym (at_drop_all (λ ys. found_or o (position_from test i (map f ys))) xs i high) ∙ before
