-- What is looked at in a file that is in form, and what is counted in it.
use Rattle.std.proofs.Common.{◌≡◌, ℕ, suc, ◌+◌, ◌≤◌, Bool, true, false, ◌||◌, cond, nat_lt, List, [], ◌∷◌, ◌++◌, length, Option, Some, None, option_map, filter_map, codes, refl, sym, ap, subst, ◌∙◌, arith}
use Rattle.std.specs.List.{sum_by, cons_option}
use Rattle.std.specs.Str.{bytes_eq}
use Rattle.std.proofs.lemmas.List.Sums.{sum_by-cons}
use Rattle.std.proofs.lemmas.Slice.Eq.{bytes_eq-Decides}
use Rattle.plcx_types.specs.Lists.{Each}
use Rattle.plcx_types.specs.Limits.{max_pous, max_variables, max_elements, max_connections, max_pin_connections, max_pins}
use Rattle.plcx_model.specs.Verdict.{Never, Kept, Next}
use Rattle.plcx_xml.specs.Look.{name_of, children_of}
use Rattle.plcx_xml.specs.declared.tree.Node.{Node, out-Node}
use Rattle.plcx_xml.specs.declared.tree.Node.TheOpen.{Node-F}
use Rattle.plcx_xml.specs.declared.tree.Element.{Element}
use Rattle.plcx_table.specs.declared.limits.Counts.{Counts}
use Rattle.plcx_table.specs.declared.row.Row.{Row}
use Rattle.plcx_table.specs.declared.row.Often.{Often}
use Rattle.plcx_table.specs.declared.row.Often.TheVariants.{Any, AtMostOnce, Once}
use Rattle.plcx_table.specs.declared.row.Fate.{Fate}
use Rattle.plcx_table.specs.declared.row.Fate.TheVariants.{Read, Refused, Skipped, Misplaced, Doubled}
use Rattle.plcx_table.specs.declared.row.Taken.{Taken}
use Rattle.plcx_table.specs.declared.row.FormatRule.TheVariants as rule
use Rattle.plcx_table.specs.Constructs.{attribute_of, is_left_out, referred, diagrams}
use Rattle.plcx_table.specs.Format.{breaks, looked_at, FormatVerdict}
use Rattle.plcx_table.specs.Limits.{no_counts, with_fate, counts_in, is_too_much, breaks_limits, IsFew}
use Rattle.plcx_table.specs.Rules.{breaks_structure, breaks_attributes, has_bad_field}
use Rattle.plcx_table.specs.Table.{Child, holds_text}
use Rattle.plcx_table.specs.Walk.{Item, child_for, fate_for, fate_of, fate_as, fate_often, is_taken, is_aside, none_taken, taken_behind, at_node, items_below, items, first}
use Rattle.plcx_draft.specs.Parts.{part_in, parts_of, named, first_part, first_child}
use Rattle.plcx_sound.proofs.Lists.{not_true, unbroken_by, all_front, all_back}
use Rattle.plcx_sound.proofs.Variables.{or_false, at_most}

-- an element is of a fate that breaks no rule, and has the attributes of its row
abbrev pub IsGood : Fate → Element → Type 0
IsGood (Read row) e = has_bad_field row e ≡ false
IsGood (Skipped row) e = Unit {0}
IsGood _ e = ⊥

abbrev pub GoodItem : Item → Type 0
GoodItem x = IsGood x.fate x.element

-- there is not too much of anything from these counts on
abbrev pub FewFrom : Counts → List Item → Type 0
FewFrom c [] = Unit {0}
FewFrom c (x ∷ xs) = IsFew (with_fate x.fate c) × FewFrom (with_fate x.fate c) xs

abbrev after : Counts → List Item → Counts
after c [] = c
after c (x ∷ xs) = after (with_fate x.fate c) xs

pub record Good (xs : List Item) : Type 0 where
  pub all : Each GoodItem xs
  pub start : Counts
  pub few : FewFrom start xs

few_front : (c : Counts) (xs ys : List Item) → FewFrom c (xs ++ ys) → FewFrom c xs
few_front c [] ys h = tt
few_front c (x ∷ xs) ys h = (h.0, few_front (with_fate x.fate c) xs ys h.1)

few_back : (c : Counts) (xs ys : List Item) → FewFrom c (xs ++ ys) → FewFrom (after c xs) ys
few_back c [] ys h = h
few_back c (x ∷ xs) ys h = few_back (with_fate x.fate c) xs ys h.1

good_front : (xs ys : List Item) → Good (xs ++ ys) → Good xs
good_front xs ys h = record { all = all_front GoodItem xs ys h.all; start = h.start; few = few_front h.start xs ys h.few }

good_back : (xs ys : List Item) → Good (xs ++ ys) → Good ys
good_back xs ys h = record { all = all_back GoodItem xs ys h.all; start = after h.start xs; few = few_back h.start xs ys h.few }

-- what is below an element that is read
pub good_below : (n : ℕ) (row : Row) (e : Element) → Good (items (suc n) (Read row) e) → Good (items_below (items n) row none_taken (children_of e))
unfolding items
good_below n row e h = record { all = h.all.1; start = with_fate (Read row) h.start; few = h.few.1 }

pub good_here : (n : ℕ) (fate : Fate) (e : Element) → Good (items (suc n) fate e) → IsGood fate e
unfolding items
good_here n fate e h = h.all.0

-- from the verdict
few_is : (c : Counts) → is_too_much c ≡ false → IsFew c
unfolding is_too_much
few_is c h =
    let p = nat_lt max_pous c.pous in
    let v = nat_lt max_variables c.variables in
    let e = nat_lt max_elements c.elements in
    let k = nat_lt max_connections c.connections in
    let m = nat_lt max_pin_connections c.pin_connections in
    let n = nat_lt max_pins c.pins in
    let a = or_false (p || v || e || k || m) n h in
    let b = or_false (p || v || e || k) m a.0 in
    let d = or_false (p || v || e) k b.0 in
    let f = or_false (p || v) e d.0 in
    let g = or_false p v f.0 in
    record {
      pous = at_most max_pous c.pous g.0;
      variables = at_most max_variables c.variables g.1;
      elements = at_most max_elements c.elements f.1;
      connections = at_most max_connections c.connections d.1;
      pin_connections = at_most max_pin_connections c.pin_connections b.1;
      pins = at_most max_pins c.pins a.1;
    }

few_from : (before xs : List Item) → Never (λ b x. breaks_limits b x ≡ true) before xs → FewFrom (counts_in before) xs
few_from before [] never = tt
few_from before (x ∷ xs) never = (few_is (with_fate x.fate (counts_in before)) (not_true (breaks_limits before x) never.0), few_from (x ∷ before) xs never.1)

good_item : (namespace : List ℕ) (references : List (ℕ × ℕ)) (n : ℕ) (fate : Fate) (e : Element) → breaks_structure fate e ≡ false → breaks_attributes namespace fate e ≡ false → is_left_out references n fate e ≡ false → IsGood fate e
good_item namespace references n (Read row) e s a k = (or_false (has_bad_field row e) _ a).0
good_item namespace references n (Refused row) e s a k = absurd (cc)
good_item namespace references n (Skipped row) e s a k = tt
good_item namespace references n Misplaced e s a k = absurd (cc)
good_item namespace references n Doubled e s a k = absurd (cc)

both : (namespace : List ℕ) (references : List (ℕ × ℕ)) (xs : List Item) → Each (λ (x : Item). breaks_structure x.fate x.element ≡ false) xs → Each (λ (x : Item). breaks_attributes namespace x.fate x.element ≡ false) xs
    → Each (λ (x : Item). (n : ℕ) × (is_left_out references n x.fate x.element ≡ false)) xs → Each GoodItem xs
both namespace references [] s a k = tt
both namespace references (x ∷ xs) s a k = (good_item namespace references k.0.0 x.fate x.element s.0 a.0 k.0.1, both namespace references xs s.1 a.1 k.1)

pub record GoodFile (root : Element) : Type 0 where
  pub good : Each GoodItem (looked_at root)
  pub few : FewFrom no_counts (looked_at root)

pub good_file : (root : Element) → FormatVerdict root None → GoodFile root
unfolding breaks
good_file root (Next structure (Next attributes (Next constructs (Next limits Kept)))) =
    let namespace = attribute_of (codes "xmlns") root in
    let all = looked_at root in
    let references = referred 0 all in
    let s = unbroken_by (breaks namespace all rule.Structure) (λ (x : Item). breaks_structure x.fate x.element ≡ false) (λ b x h. h) [] all structure in
    let a = unbroken_by (breaks namespace all rule.Attributes) (λ (x : Item). breaks_attributes namespace x.fate x.element ≡ false) (λ b x h. h) [] all attributes in
    let k = unbroken_by (breaks namespace all rule.Constructs) (λ (x : Item). (n : ℕ) × (is_left_out references n x.fate x.element ≡ false)) (λ b x h. (diagrams b, h)) [] all constructs in
    record { good = both namespace references all s a k; few = few_from [] all limits }

-- what is counted
abbrev pub bit : Bool → ℕ
bit true = 1
bit false = 0

abbrev pub count : (Fate → Bool) → List Item → ℕ
count class [] = 0
count class (x ∷ xs) = bit (class x.fate) + count class xs

count_append : (class : Fate → Bool) (xs ys : List Item) → count class (xs ++ ys) ≡ count class xs + count class ys
count_append class [] ys = omega arith
count_append class (x ∷ xs) ys = omega (arith, count_append class xs ys)

-- of nodes
abbrev pub weight_at : (Element → ℕ) → Node-F Node Element → ℕ
weight_at weight (Node-F.Element e) = weight e
weight_at weight (Node-F.Text t) = 0

abbrev pub weigh : (Element → ℕ) → List Node → ℕ
weigh weight [] = 0
weigh weight (n ∷ ns) = weight_at weight (out-Node n) + weigh weight ns

module _ (n : ℕ) (row : Row) where
  module _ (class : Fate → Bool) (weight : Element → ℕ) (light : (e : Element) (t : Taken) → Good (items n (fate_of row t e) e) → weight e ≤ count class (items n (fate_of row t e) e)) where
    node_light : (t : Taken) (node : Node-F Node Element) → Good (at_node (items n) row t node) → weight_at weight node ≤ count class (at_node (items n) row t node)
    node_light t (Node-F.Element e) h = light e t h
    node_light t (Node-F.Text text) h = omega arith

    -- the children weigh no more than what is counted in them
    pub nodes_light : (t : Taken) (ns : List Node) → Good (items_below (items n) row t ns) → weigh weight ns ≤ count class (items_below (items n) row t ns)
    unfolding items_below
    nodes_light t [] h = omega arith
    nodes_light t (node ∷ ns) h =
        let here = at_node (items n) row t (out-Node node) in
        let rest = items_below (items n) row (taken_behind row t (out-Node node)) ns in
        omega (arith, node_light t (out-Node node) (good_front here rest h), nodes_light (taken_behind row t (out-Node node)) ns (good_back here rest h), count_append class here rest)

  module _ {A : Type 0} (part : Element → Option A) (P : A → Type 0) (holds : (e : Element) (a : A) (t : Taken) → part e ≡ Some a → Good (items n (fate_of row t e) e) → P a) where
    option_holds : (o : Option A) (xs : List A) → ((a : A) → o ≡ Some a → P a) → Each P xs → Each P (cons_option o xs)
    option_holds None xs h all = all
    option_holds (Some a) xs h all = (h a refl, all)

    node_holds : (t : Taken) (node : Node-F Node Element) → Good (at_node (items n) row t node) → (a : A) → part_in part node ≡ Some a → P a
    node_holds t (Node-F.Element e) h a is = holds e a t is h
    node_holds t (Node-F.Text text) h a is = absurd (cc)

    nodes_hold : (t : Taken) (ns : List Node) → Good (items_below (items n) row t ns) → Each P (filter_map (λ (node : Node). part_in part (out-Node node)) ns)
    unfolding items_below
    nodes_hold t [] h = tt
    nodes_hold t (node ∷ ns) h =
        let here = at_node (items n) row t (out-Node node) in
        let rest = items_below (items n) row (taken_behind row t (out-Node node)) ns in
        option_holds (part_in part (out-Node node)) (filter_map (λ (m : Node). part_in part (out-Node m)) ns) (node_holds t (out-Node node) (good_front here rest h))
        (nodes_hold (taken_behind row t (out-Node node)) ns (good_back here rest h))

    -- what holds of each part of an element that is read
    pub parts_hold : (e : Element) → Good (items (suc n) (Read row) e) → Each P (parts_of part e)
    unfolding parts_of
    parts_hold e h = nodes_hold none_taken (children_of e) (good_below n row e h)

-- children that weigh no more than what is counted in them, and their parent
pub children_light : (n : ℕ) (row : Row) (class : Fate → Bool) (weight : Element → ℕ) → ((e : Element) (t : Taken) → Good (items n (fate_of row t e) e) → weight e ≤ count class (items n (fate_of row t e) e))
    → (e : Element) → Good (items (suc n) (Read row) e) → weigh weight (children_of e) ≤ count class (items (suc n) (Read row) e)
unfolding items
children_light n row class weight light e h = omega (arith, nodes_light n row class weight light none_taken (children_of e) (good_below n row e h))

abbrev pub option_weight : {A : Type 0} → (A → ℕ) → Option A → ℕ
option_weight weight None = 0
option_weight weight (Some a) = weight a

sum_option : {A : Type 0} (weight : A → ℕ) (o : Option A) (xs : List A) → sum_by weight (cons_option o xs) ≡ option_weight weight o + sum_by weight xs
sum_option weight None xs = omega arith
sum_option weight (Some a) xs = sum_by-cons weight a xs

part_weight : {A : Type 0} (part : Element → Option A) (weight : A → ℕ) (node : Node-F Node Element) → option_weight weight (part_in part node) ≡ weight_at (λ e. option_weight weight (part e)) node
part_weight part weight (Node-F.Element e) = refl
part_weight part weight (Node-F.Text t) = refl

sum_nodes : {A : Type 0} (part : Element → Option A) (weight : A → ℕ) (ns : List Node) → sum_by weight (filter_map (λ (node : Node). part_in part (out-Node node)) ns) ≡ weigh (λ e. option_weight weight (part e)) ns
sum_nodes part weight [] = refl
sum_nodes part weight (node ∷ ns) =
    omega (arith, sum_option weight (part_in part (out-Node node)) (filter_map (λ (m : Node). part_in part (out-Node m)) ns), part_weight part weight (out-Node node), sum_nodes part weight ns)

pub sum_parts : {A : Type 0} (part : Element → Option A) (weight : A → ℕ) (e : Element) → sum_by weight (parts_of part e) ≡ weigh (λ c. option_weight weight (part c)) (children_of e)
unfolding parts_of
sum_parts part weight e = sum_nodes part weight (children_of e)

-- names
some_where : {A : Type 0} (e : Element) (name : List ℕ) (x a : A) (b : Bool) → bytes_eq (name_of e) name ≡ b → cond b (Some x) None ≡ Some a → (x ≡ a) × (name_of e ≡ name)
some_where e name x a true is some = ((let same : x ≡ a = cc in same), (bytes_eq-Decides (name_of e) name).0 is)
some_where e name x a false is some = absurd (cc)

pub if_some : {A : Type 0} (e : Element) (name : List ℕ) (x a : A) → cond (bytes_eq (name_of e) name) (Some x) None ≡ Some a → (x ≡ a) × (name_of e ≡ name)
if_some e name x a h = some_where e name x a (bytes_eq (name_of e) name) refl h

-- the fate of a child that the table has
seat_kept : (taken : Bool) (fate : Fate) (n : ℕ) (e : Element) → Good (items (suc n) (cond taken Doubled fate) e) → cond taken Doubled fate ≡ fate
seat_kept true fate n e h = absurd (good_here n Doubled e h)
seat_kept false fate n e h = refl

fate_kept : (often : Often) (t : Taken) (fate : Fate) (n : ℕ) (e : Element) → Good (items (suc n) (fate_often often t fate) e) → fate_often often t fate ≡ fate
fate_kept Any t fate n e h = refl
fate_kept (AtMostOnce s) t fate n e h = seat_kept (is_taken s t) fate n e h
fate_kept (Once s) t fate n e h = seat_kept (is_taken s t) fate n e h

fate_from : (n : ℕ) (row : Row) (t : Taken) (e : Element) (fate : Fate) (c : Option Child) → option_map (λ (d : Child). d.fate) c ≡ Some fate → Good (items (suc n) (fate_as row (name_of e) c t) e) → fate_as row (name_of e) c t ≡ fate
fate_from n row t e fate None is h = absurd (cc)
fate_from n row t e fate (Some c) is h = let same : c.fate ≡ fate = cc in fate_kept c.often t c.fate n e h ∙ same

fate_shown : (row : Row) (t : Taken) (e : Element) → holds_text row ≡ false → is_aside (name_of e) ≡ false → fate_of row t e ≡ fate_as row (name_of e) (child_for row e) t
unfolding fate_of
fate_shown row t e text aside = rw (text, aside) refl

pub fate_is : (n : ℕ) (row : Row) (t : Taken) (e : Element) (fate : Fate) → holds_text row ≡ false → is_aside (name_of e) ≡ false → fate_for row e ≡ Some fate → Good (items (suc n) (fate_of row t e) e) → fate_of row t e ≡ fate
fate_is n row t e fate text aside is h =
    let shown = fate_shown row t e text aside in
    let G : Fate → Type 0 = λ f. Good (items (suc n) f e) in
    shown ∙ fate_from n row t e fate (child_for row e) is (subst G shown h)

-- the parts of an element weigh no more than what is counted in it
module _ {A : Type 0} (part : Element → Option A) (weight : A → ℕ) (n : ℕ) (row : Row) (class : Fate → Bool) where
  option_light : (k : ℕ) (o : Option A) → ((a : A) → o ≡ Some a → weight a ≤ k) → option_weight weight o ≤ k
  option_light k None h = omega arith
  option_light k (Some a) h = h a refl

  pub parts_light : ((e : Element) (a : A) (t : Taken) → part e ≡ Some a → Good (items n (fate_of row t e) e) → weight a ≤ count class (items n (fate_of row t e) e))
      → (e : Element) → Good (items (suc n) (Read row) e) → sum_by weight (parts_of part e) ≤ count class (items (suc n) (Read row) e)
  parts_light light e h =
      let all = children_light n row class (λ c. option_weight weight (part c)) (λ c t g. option_light (count class (items n (fate_of row t c) c)) (part c) (λ a is. light c a t is g)) e h in
      omega (arith, all, sum_parts part weight e)

pub length_sum : {A : Type 0} (xs : List A) → length xs ≡ sum_by (λ (a : A). 1) xs
length_sum [] = refl
length_sum (x ∷ xs) = omega (arith, length_sum xs, sum_by-cons (λ (a : _). 1) x xs)

counted : (class : Fate → Bool) (n : ℕ) (fate : Fate) (e : Element) → class fate ≡ true → 1 ≤ count class (items (suc n) fate e)
unfolding items
counted class n fate e is = omega (arith, ap bit is)

-- parts of a class are no more than what is counted of it
pub parts_counted : {A : Type 0} (part : Element → Option A) (n : ℕ) (row : Row) (class : Fate → Bool) → ((e : Element) (a : A) (t : Taken) → part e ≡ Some a → Good (items (suc n) (fate_of row t e) e) → class (fate_of row t e) ≡ true)
    → (e : Element) → Good (items (suc (suc n)) (Read row) e) → length (parts_of part e) ≤ count class (items (suc (suc n)) (Read row) e)
parts_counted part n row class classed e h =
    let all = parts_light part (λ a. 1) (suc n) row class (λ c a t is g. counted class n (fate_of row t c) c (classed c a t is g)) e h in
    omega (arith, all, length_sum (parts_of part e))

-- the first child of a name
pub first_at_most : {A : Type 0} (weight : A → ℕ) (xs : List A) → option_weight weight (first xs) ≤ sum_by weight xs
first_at_most weight [] = omega arith
first_at_most weight (x ∷ xs) = omega (arith, sum_by-cons weight x xs)

pub first_is : {A : Type 0} (P : A → Type 0) (xs : List A) (x : A) → Each P xs → first xs ≡ Some x → P x
first_is P [] x h is = absurd (cc)
first_is P (y ∷ ys) x h is = let same : y ≡ x = cc in subst P same h.0

-- a child of this name, of which the table tells the fate
pub record IsTold (row : Row) (name : List ℕ) (fate : Fate) : Type 0 where
  pub text : holds_text row ≡ false
  pub aside : is_aside name ≡ false
  pub told : (e : Element) → name_of e ≡ name → fate_for row e ≡ Some fate

module _ (row : Row) (name : List ℕ) (fate : Fate) (is : IsTold row name fate) where
  pub told_fate : (n : ℕ) (t : Taken) (e : Element) → name_of e ≡ name → Good (items (suc n) (fate_of row t e) e) → fate_of row t e ≡ fate
  told_fate n t e named' h = fate_is n row t e fate is.text (subst (λ m. is_aside m ≡ false) (sym named') is.aside) (is.told e named') h

  pub told_good : (n : ℕ) (t : Taken) (e : Element) → name_of e ≡ name → Good (items (suc n) (fate_of row t e) e) → Good (items (suc n) fate e)
  told_good n t e named' h = subst (λ f. Good (items (suc n) f e)) (told_fate n t e named' h) h

  named_found : (e found : Element) → named name e ≡ Some found → (e ≡ found) × (name_of e ≡ name)
  named_found e found some = if_some e name e found some

  pub child_holds : (n : ℕ) (P : Element → Type 0) → ((e : Element) → Good (items (suc n) fate e) → P e) → (e : Element) → Good (items (suc (suc n)) (Read row) e) → (found : Element) → first_child name e ≡ Some found → P found
  unfolding first_child first_part
  child_holds n P holds e h found some =
      first_is P (parts_of (named name) e) found
      (parts_hold (suc n) row (named name) P (λ c a t at g. let same = named_found c a at in subst P same.0 (holds c (told_good n t c same.1 g))) e h) some

  pub child_light : (n : ℕ) (class : Fate → Bool) (weight : Element → ℕ) → ((e : Element) → Good (items (suc n) fate e) → weight e ≤ count class (items (suc n) fate e))
      → (e : Element) → Good (items (suc (suc n)) (Read row) e) → option_weight weight (first_child name e) ≤ count class (items (suc (suc n)) (Read row) e)
  unfolding first_child first_part
  child_light n class weight light e h =
      let one = λ (c a : Element) (t : Taken) (at : named name c ≡ Some a) (g : Good (items (suc n) (fate_of row t c) c)). named_light n class weight light c a t at g in
      omega (arith, first_at_most weight (parts_of (named name) e), parts_light (named name) weight (suc n) row class one e h)
    where
      named_light : (n : ℕ) (class : Fate → Bool) (weight : Element → ℕ) → ((e : Element) → Good (items (suc n) fate e) → weight e ≤ count class (items (suc n) fate e)) → (c a : Element) (t : Taken) → named name c ≡ Some a → Good (items (suc n) (fate_of row t c) c)
          → weight a ≤ count class (items (suc n) (fate_of row t c) c)
      named_light n class weight light c a t at g =
          let same = named_found c a at in
          let here = light c (told_good n t c same.1 g) in
          omega (arith, here, ap weight same.0, ap (λ f. count class (items (suc n) f c)) (told_fate n t c same.1 g))
