-- Look-ups of variables: in lists one behind another, among the variables of a text, and of each of its own names.
use Rattle.std.proofs.Common.{◌≡◌, ℕ, inl, inr, Bool, true, false, cond, not, List, [], ◌∷◌, ◌++◌, map, Some, None, refl, sym, ap, ap₂, ◌∙◌, subst, append_assoc, append-nil}
use Rattle.std.specs.Prelude.{nat_eq}
use Rattle.std.specs.List.{list_any, flat_map, Contains}
use Rattle.std.specs.Str.{bytes_eq}
use Rattle.std.proofs.lemmas.Bool.{and_parts, not-true, both_ways}
use Rattle.plcx_types.specs.Name.{in_lower_case}
use Rattle.plcx_types.specs.Reserved.{is_own}
use Rattle.plcx_types.specs.Lists.{Each}
use Rattle.plcx_meaning.specs.Base.{all_differ}
use Rattle.plcx_meaning.specs.Tree.{Class, Local, Temp, Mark, Plain, Declaration, Block}
use Rattle.plcx_meaning.specs.Layout.{Variable, variable, block_variables, variables_of, variable_named}
use Rattle.plcx_meaning.specs.Diagram.{Pou}
use Rattle.plcx_meaning.specs.Templates.{element_memories, element_wires, counter, block, list_text, pou_text}
use Rattle.plcx_meaning.proofs.Names.{bytes_same, bytes_apart, apart_from_own}
use Rattle.plcx_meaning.proofs.Lists.{contains_cases, contains_none, contains_map, none_passes}

-- lists of lists
flat_append : {A B : Type 0} (f : A → List B) (xs ys : List A) → flat_map f (xs ++ ys) ≡ flat_map f xs ++ flat_map f ys
flat_append f [] ys = refl
flat_append f (x ∷ xs) ys = ap (λ l. f x ++ l) (flat_append f xs ys) ∙ sym (append_assoc (f x) (flat_map f xs) (flat_map f ys))

pub map_append : {A B : Type 0} (f : A → B) (xs ys : List A) → map f (xs ++ ys) ≡ map f xs ++ map f ys
map_append f [] ys = refl
map_append f (x ∷ xs) ys = ap (λ l. f x ∷ l) (map_append f xs ys)

pub map_flat : {A B C : Type 0} (g : B → C) (f : A → List B) (xs : List A) → map g (flat_map f xs) ≡ flat_map (λ x. map g (f x)) xs
map_flat g f [] = refl
map_flat g f (x ∷ xs) = map_append g (f x) (flat_map f xs) ∙ ap (λ l. map g (f x) ++ l) (map_flat g f xs)

-- the variables of blocks
pub variables_append : (a b : List Block) → variables_of (a ++ b) ≡ variables_of a ++ variables_of b
variables_append a b = flat_append block_variables a b

pub block_is : (class : Class) (mark : Mark) (ds : List Declaration) → variables_of (block class mark ds) ≡ map (variable class mark) ds
block_is class mark [] = refl
block_is class mark (d ∷ ds) = append-nil (map (variable class mark) (d ∷ ds))

lists_are : (bs : List Block) → variables_of (flat_map list_text bs) ≡ variables_of bs
lists_are [] = refl
lists_are (b ∷ bs) = variables_append (list_text b) (flat_map list_text bs) ∙ ap₂ (λ x y. x ++ y) (block_is b.class b.mark b.declarations) (lists_are bs)

-- the compiler's own variables of a POU: its memories, and its temporaries
abbrev pub kept_variables : Pou → List Variable
kept_variables p = map (variable Local Plain) (flat_map element_memories p.elements)

abbrev pub passing_variables : Pou → List Variable
passing_variables p = map (variable Temp Plain) (flat_map element_wires p.elements ++ counter p.networks)

abbrev pub own_variables : Pou → List Variable
own_variables p = kept_variables p ++ passing_variables p

-- the variables of a text are those of the diagram, and behind them the compiler's own
pub text_variables : (p : Pou) → variables_of (pou_text p).blocks ≡ variables_of p.lists ++ own_variables p
text_variables p =
    variables_append (flat_map list_text p.lists) _
    ∙ ap₂ (λ x y. x ++ y) (lists_are p.lists)
    (variables_append (block Local Plain (flat_map element_memories p.elements)) _
    ∙ ap₂ (λ x y. x ++ y) (block_is Local Plain (flat_map element_memories p.elements)) (block_is Temp Plain (flat_map element_wires p.elements ++ counter p.networks)))

-- what is found in the first of two lists, and in the second
pub named_first : (key : List ℕ) (a b : List Variable) (v : Variable) → variable_named key a ≡ Some v → variable_named key (a ++ b) ≡ Some v
named_first key [] b v h = absurd (cc)
named_first key (w ∷ a) b v h = by_test (bytes_eq (in_lower_case w.name) key) (named_first key a b v) h
  where
    by_test : (t : Bool) → (variable_named key a ≡ Some v → variable_named key (a ++ b) ≡ Some v) → cond t (Some w) (variable_named key a) ≡ Some v → cond t (Some w) (variable_named key (a ++ b)) ≡ Some v
    by_test true later e = e
    by_test false later e = later e

pub named_second : (key : List ℕ) (a b : List Variable) → variable_named key a ≡ None → variable_named key (a ++ b) ≡ variable_named key b
named_second key [] b h = refl
named_second key (w ∷ a) b h = by_test (bytes_eq (in_lower_case w.name) key) (named_second key a b) h
  where
    by_test : (t : Bool) → (variable_named key a ≡ None → variable_named key (a ++ b) ≡ variable_named key b) → cond t (Some w) (variable_named key a) ≡ None → cond t (Some w) (variable_named key (a ++ b)) ≡ variable_named key b
    by_test true later e = absurd (cc)
    by_test false later e = later e

-- where the first has the name or the second hasn't, the second doesn't matter
pub named_alone : (key : List ℕ) (a b : List Variable) → variable_named key b ≡ None → variable_named key (a ++ b) ≡ variable_named key a
named_alone key [] b h = h
named_alone key (w ∷ a) b h = ap (λ o. cond (bytes_eq (in_lower_case w.name) key) (Some w) o) (named_alone key a b h)

-- a variable is found under its own name, and is one of the list
pub found_name : (key : List ℕ) (vs : List Variable) (v : Variable) → variable_named key vs ≡ Some v → in_lower_case v.name ≡ key
found_name key [] v h = absurd (cc)
found_name key (w ∷ vs) v h = by_test (bytes_eq (in_lower_case w.name) key) refl (found_name key vs v) h
  where
    by_test : (t : Bool) → bytes_eq (in_lower_case w.name) key ≡ t → (variable_named key vs ≡ Some v → in_lower_case v.name ≡ key) → cond t (Some w) (variable_named key vs) ≡ Some v → in_lower_case v.name ≡ key
    by_test true e later h = let same : w ≡ v = cc in subst (λ (u : Variable). in_lower_case u.name ≡ key) same (bytes_same (in_lower_case w.name) key e)
    by_test false e later h = later h

pub each_found : (P : Variable → Type 0) (key : List ℕ) (vs : List Variable) (v : Variable) → Each P vs → variable_named key vs ≡ Some v → P v
each_found P key [] v all h = absurd (cc)
each_found P key (w ∷ vs) v all h = by_test (bytes_eq (in_lower_case w.name) key) (each_found P key vs v all.1) h
  where
    by_test : (t : Bool) → (variable_named key vs ≡ Some v → P v) → cond t (Some w) (variable_named key vs) ≡ Some v → P v
    by_test true later h = let same : w ≡ v = cc in subst P same all.0
    by_test false later h = later h

-- a name that none of the variables has
pub not_named : (key : List ℕ) (vs : List Variable) → Each (λ (v : Variable). bytes_eq (in_lower_case v.name) key ≡ false) vs → variable_named key vs ≡ None
not_named key [] all = refl
not_named key (v ∷ vs) all = rw (all.0) (not_named key vs all.1)

-- the compiler's own variables, and those of a diagram
abbrev pub IsOwnVariable : Variable → Type 0
IsOwnVariable v = is_own (in_lower_case v.name) ≡ true

abbrev pub IsDeclaredVariable : Variable → Type 0
IsDeclaredVariable v = is_own (in_lower_case v.name) ≡ false

pub own_not_named : (key : List ℕ) (vs : List Variable) → is_own key ≡ true → Each IsDeclaredVariable vs → variable_named key vs ≡ None
own_not_named key [] own all = refl
own_not_named key (v ∷ vs) own all = rw (apart_from_own (in_lower_case v.name) key all.0 own) (own_not_named key vs own all.1)

pub declared_not_named : (key : List ℕ) (vs : List Variable) → is_own key ≡ false → Each IsOwnVariable vs → variable_named key vs ≡ None
declared_not_named key [] own all = refl
declared_not_named key (v ∷ vs) own all = rw (bytes_apart (in_lower_case v.name) key (λ e. both_ways (is_own key) own (ap is_own (sym e) ∙ all.0))) (declared_not_named key vs own all.1)

-- the variables of things that are told apart by a number
pub named_in : {A : Type 0} (f : A → List Variable) (id : A → ℕ) (key : List ℕ) (n : ℕ) → ((y : A) → nat_eq (id y) n ≡ false → variable_named key (f y) ≡ None)
    → (xs : List A) (x : A) (v : Variable) → id x ≡ n → all_differ (map id xs) ≡ true → Contains xs x → variable_named key (f x) ≡ Some v → variable_named key (flat_map f xs) ≡ Some v
named_in f id key n apart [] x v e differ there h = absurd (contains_none x there)
named_in f id key n apart (z ∷ xs) x v e differ there h =
    elim (contains_cases z xs x there) [
      | inl s ↦ named_first key (f z) (flat_map f xs) v (subst (λ y. variable_named key (f y) ≡ Some v) (sym s) h)
      | inr l ↦
          let parts = and_parts (not (list_any (nat_eq (id z)) (map id xs))) (all_differ (map id xs)) differ in
          let other : nat_eq (id z) n ≡ false = subst (λ m. nat_eq (id z) m ≡ false) e (none_passes (nat_eq (id z)) (map id xs) (id x) (not-true _ parts.0) (contains_map id xs x l)) in
          named_second key (f z) (flat_map f xs) (apart z other) ∙ named_in f id key n apart xs x v e parts.1 l h
    ]
