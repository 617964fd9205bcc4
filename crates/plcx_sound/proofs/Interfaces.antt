-- The lists of a POU that is in form.
use Rattle.std.proofs.Common.{◌≡◌, ℕ, suc, ◌≤◌, Bool, true, false, ◌&&◌, ◌||◌, not, cond, nat_eq, List, [], ◌∷◌, length, map, Option, Some, None, option_map, codes, refl, sym, ap, subst, ◌∙◌, arith}
use Rattle.std.specs.Char.{to_ascii_lowercase, to_ascii_uppercase}
use Rattle.std.specs.Str.{bytes_eq}
use Rattle.std.proofs.lemmas.Str.Ascii.{lowercase-uppercase, uppercase-uppercase}
use Rattle.std.proofs.lemmas.Bool.Decides.{nat_tests}
use Rattle.std.proofs.lemmas.Slice.Eq.{bytes_eq-Decides}
use Rattle.plcx_types.specs.Lists.{Each}
use Rattle.plcx_types.proofs.Addresses.{form_is}
use Rattle.plcx_types.specs.Address.{IsAddressForm, AddressFits}
use Rattle.plcx_types.specs.Name.{in_lower_case, in_upper_case}
use Rattle.plcx_types.specs.ReadAddress.{is_address}
use Rattle.plcx_model.specs.declared.project.PouKind.{PouKind}
use Rattle.plcx_model.specs.declared.project.PouKind.TheVariants.{Program}
use Rattle.plcx_model.specs.declared.project.PouKind.TheVariants as kind
use Rattle.plcx_model.specs.declared.project.ListClass.{ListClass}
use Rattle.plcx_model.specs.declared.project.ListClass.TheVariants.{Local, Input, Output, InOut}
use Rattle.plcx_xml.specs.Look.{name_of}
use Rattle.plcx_xml.specs.declared.tree.Element.{Element}
use Rattle.plcx_table.specs.declared.row.Row.{Row}
use Rattle.plcx_table.specs.declared.row.Row.TheVariants as row
use Rattle.plcx_table.specs.declared.row.Fate.TheVariants.{Read, Refused}
use Rattle.plcx_table.specs.declared.row.Taken.{Taken}
use Rattle.plcx_table.specs.declared.row.Form.TheVariants as form
use Rattle.plcx_table.specs.Constructs.{attribute_of, or_empty}
use Rattle.plcx_table.specs.Rules.{has_form, at_most_one, is_bad, has_bad_field}
use Rattle.plcx_table.specs.Walk.{child_for, fate_of, is_aside, items, first, values_of}
use Rattle.plcx_draft.specs.BodyIn.{is_marked, nonempty}
use Rattle.plcx_draft.specs.DraftIn.{variable_in, class_named, takes_marks, list_of, list_in}
use Rattle.plcx_draft.specs.Parts.{parts_of, parts_in, first_child}
use Rattle.plcx_draft.specs.declared.draft.DraftVariable.{DraftVariable}
use Rattle.plcx_draft.specs.declared.draft.DraftList.{DraftList}
use Rattle.plcx_sound.proofs.Formed.{HasAddress, FormedList, declared_variables}
use Rattle.plcx_sound.proofs.Variables.{or_false, not_false}
use Rattle.plcx_sound.proofs.Walked.{Good, good_here, if_some, option_weight, parts_hold, parts_light, parts_counted, IsTold, told_fate, told_good, child_holds, child_light, count}
use Rattle.plcx_sound.proofs.Ranks.{is_variable}

-- addresses
mapped : {A B : Type 0} (f g : A → B) → ((x : A) → f x ≡ g x) → (xs : List A) → map f xs ≡ map g xs
mapped f g h [] = refl
mapped f g h (x ∷ xs) = rw (h x, mapped f g h xs) refl

map_twice : {A B C : Type 0} (f : A → B) (g : B → C) (xs : List A) → map g (map f xs) ≡ map (λ x. g (f x)) xs
map_twice f g [] = refl
map_twice f g (x ∷ xs) = ap (λ ys. g (f x) ∷ ys) (map_twice f g xs)

lower_upper : (text : List ℕ) → in_lower_case (in_upper_case text) ≡ in_lower_case text
lower_upper text = map_twice to_ascii_uppercase to_ascii_lowercase text ∙ mapped (λ c. to_ascii_lowercase (to_ascii_uppercase c)) to_ascii_lowercase lowercase-uppercase text

upper_upper : (text : List ℕ) → in_upper_case (in_upper_case text) ≡ in_upper_case text
upper_upper text = map_twice to_ascii_uppercase to_ascii_uppercase text ∙ mapped (λ c. to_ascii_uppercase (to_ascii_uppercase c)) to_ascii_uppercase uppercase-uppercase text

other_true : (a b : Bool) → a ≡ false → (a || b) ≡ true → b ≡ true
other_true true b is h = absurd (cc)
other_true false b is h = h

not_empty : (n : ℕ) → nat_eq (suc n) 0 ≡ false
not_empty n = grind (arith, nat_tests)

upper_suits : (text : List ℕ) → (nat_eq (length text) 0 || is_address text) ≡ true → AddressFits (nonempty (in_upper_case text))
upper_suits [] h = tt
upper_suits (b ∷ bs) h =
    let text = b ∷ bs in
    let form' = other_true (nat_eq (suc (length bs)) 0) (is_address text) (not_empty (length bs)) h in
    (subst IsAddressForm (sym (lower_upper text)) (form_is (in_lower_case text) form'), upper_upper text)

values_suit : (values : List (List ℕ)) → is_bad false (has_form form.Address) (at_most_one values) ≡ false → AddressFits (nonempty (in_upper_case (or_empty (first values))))
unfolding has_form
values_suit [] h = tt
values_suit (v ∷ []) h = upper_suits v (not_false (nat_eq (length v) 0 || is_address v) h)
values_suit (v ∷ w ∷ more) h = absurd (cc)

address_suits : (e : Element) → has_bad_field row.Variable e ≡ false → AddressFits (nonempty (in_upper_case (attribute_of (codes "address") e)))
unfolding has_bad_field attribute_of
address_suits e h =
    let rest = or_false _ _ h in
    let one = or_false _ _ rest.1 in
    values_suit (values_of (codes "address") e) one.0

-- variables
variable_told : IsTold row.VariableList (codes "variable") (Read row.Variable)
unfolding is_aside child_for
variable_told = record { text = refl; aside = refl; told = λ e is. rw is refl }

outside_told : IsTold row.OutsideList (codes "variable") (Refused row.Variable)
unfolding is_aside child_for
outside_told = record { text = refl; aside = refl; told = λ e is. rw is refl }

variable_named : (e : Element) (v : DraftVariable) → variable_in e ≡ Some v → (name_of e ≡ codes "variable") × (v.address ≡ in_upper_case (attribute_of (codes "address") e))
unfolding variable_in
variable_named e v h = let found = if_some e (codes "variable") _ v h in (found.1, sym (ap (λ (w : DraftVariable). w.address) found.0))

variable_formed : (n : ℕ) (e : Element) (v : DraftVariable) (t : Taken) → variable_in e ≡ Some v → Good (items (suc n) (fate_of row.VariableList t e) e) → HasAddress v
variable_formed n e v t is h =
    let named' = variable_named e v is in
    let good = good_here n (Read row.Variable) e (told_good row.VariableList (codes "variable") (Read row.Variable) variable_told n t e named'.0 h) in
    subst (λ (a : List ℕ). AddressFits (nonempty a)) (sym named'.1) (address_suits e good)

variable_counts : (n : ℕ) (e : Element) (v : DraftVariable) (t : Taken) → variable_in e ≡ Some v → Good (items (suc n) (fate_of row.VariableList t e) e) → is_variable (fate_of row.VariableList t e) ≡ true
variable_counts n e v t is h = ap is_variable (told_fate row.VariableList (codes "variable") (Read row.Variable) variable_told n t e (variable_named e v is).0 h)

variable_outside : (n : ℕ) (e : Element) (v : DraftVariable) (t : Taken) → variable_in e ≡ Some v → Good (items (suc n) (fate_of row.OutsideList t e) e) → ⊥
variable_outside n e v t is h = good_here n (Refused row.Variable) e (told_good row.OutsideList (codes "variable") (Refused row.Variable) outside_told n t e (variable_named e v is).0 h)

none_there : {A : Type 0} (xs : List A) → Each (λ (x : A). ⊥) xs → xs ≡ []
none_there [] h = refl
none_there (x ∷ xs) h = absurd h.0

-- lists
marks_apart : (class : ListClass) (constant retain : Bool) → (takes_marks class && constant) ≡ true → (takes_marks class && not constant && retain) ≡ false
marks_apart class constant retain h = grind arith

in_out_unmarked : (class : ListClass) (constant retain : Bool) → class ≡ InOut → ((takes_marks class && constant) ≡ false) × ((takes_marks class && not constant && retain) ≡ false)
in_out_unmarked class constant retain is = rw is (refl, refl)

-- a list whose element is read
list_light : (n : ℕ) (e : Element) → Good (items (suc (suc n)) (Read row.VariableList) e) → length (parts_of variable_in e) ≤ count is_variable (items (suc (suc n)) (Read row.VariableList) e)
list_light n e h = parts_counted variable_in n row.VariableList is_variable (variable_counts n) e h

list_addresses : (n : ℕ) (e : Element) → Good (items (suc (suc n)) (Read row.VariableList) e) → Each HasAddress (parts_of variable_in e)
list_addresses n e h = parts_hold (suc n) row.VariableList variable_in HasAddress (variable_formed n) e h

outside_empty : (n : ℕ) (e : Element) → Good (items (suc (suc n)) (Read row.OutsideList) e) → parts_of variable_in e ≡ []
outside_empty n e h = none_there (parts_of variable_in e) (parts_hold (suc n) row.OutsideList variable_in (λ v. ⊥) (variable_outside n) e h)

-- the rows of a POU of this kind, of its interface and of a list in it
abbrev pub pou_row : PouKind → Row
pou_row Program = row.Program
pou_row kind.FunctionBlock = row.FunctionBlock

abbrev pub interface_row : PouKind → Row
interface_row Program = row.ProgramInterface
interface_row kind.FunctionBlock = row.BlockInterface

abbrev pub list_row : PouKind → ListClass → Row
list_row Program InOut = row.OutsideList
list_row Program _ = row.VariableList
list_row kind.FunctionBlock class = row.VariableList

-- what holds at the four names of lists
module _ (Q : List ℕ → ListClass → Type 0) where
  at_name : (name key : List ℕ) (c class : ListClass) (o : Option ListClass) (b : Bool) → bytes_eq name key ≡ b → Q key c → (o ≡ Some class → Q name class) → cond b (Some c) o ≡ Some class → Q name class
  at_name name key c class o true is here more h =
      let same : c ≡ class = cc in
      subst (λ k. Q k class) (sym ((bytes_eq-Decides name key).0 is)) (subst (Q key) same here)
  at_name name key c class o false is here more h = more h

  by_class : Q (codes "localVars") Local → Q (codes "inputVars") Input → Q (codes "outputVars") Output → Q (codes "inOutVars") InOut → (name : List ℕ) (class : ListClass) → class_named name ≡ Some class → Q name class
  unfolding class_named
  by_class l i o io name class h =
      at_name name (codes "localVars") Local class _ (bytes_eq name (codes "localVars")) refl l
      (λ h1. at_name name (codes "inputVars") Input class _ (bytes_eq name (codes "inputVars")) refl i
      (λ h2. at_name name (codes "outputVars") Output class _ (bytes_eq name (codes "outputVars")) refl o
      (λ h3. at_name name (codes "inOutVars") InOut class None (bytes_eq name (codes "inOutVars")) refl io (λ h4. absurd (let none : None ≡ Some class = h4 in cc)) h3) h2) h1) h

list_told : (k : PouKind) (name : List ℕ) (class : ListClass) → class_named name ≡ Some class → IsTold (interface_row k) name (Read (list_row k class))
unfolding is_aside child_for
list_told Program name class h =
    by_class (λ (m : List ℕ) (c : ListClass). IsTold row.ProgramInterface m (Read (list_row Program c)))
    (record { text = refl; aside = refl; told = λ e is. rw is refl }) (record { text = refl; aside = refl; told = λ e is. rw is refl })
    (record { text = refl; aside = refl; told = λ e is. rw is refl }) (record { text = refl; aside = refl; told = λ e is. rw is refl }) name class h
list_told kind.FunctionBlock name class h =
    by_class (λ (m : List ℕ) (c : ListClass). IsTold row.BlockInterface m (Read row.VariableList))
    (record { text = refl; aside = refl; told = λ e is. rw is refl }) (record { text = refl; aside = refl; told = λ e is. rw is refl })
    (record { text = refl; aside = refl; told = λ e is. rw is refl }) (record { text = refl; aside = refl; told = λ e is. rw is refl }) name class h

abbrev size : DraftList → ℕ
size l = length l.variables

-- a list in form, with no more variables than are counted in it
record ListHolds (k : PouKind) (n : ℕ) (e : Element) (class : ListClass) : Type 0 where
  formed : FormedList k (list_of e class)
  light : size (list_of e class) ≤ count is_variable (items (suc (suc n)) (Read (list_row k class)) e)

listed : (k : PouKind) (n : ℕ) (e : Element) (class : ListClass) → (k ≡ Program → class ≡ InOut → ⊥) → Good (items (suc (suc n)) (Read row.VariableList) e) → FormedList k (list_of e class)
listed k n e class apart h = record {
  addresses = list_addresses n e h;
  marks = marks_apart class (is_marked (codes "constant") e) (is_marked (codes "retain") e);
  in_out_marks = in_out_unmarked class (is_marked (codes "constant") e) (is_marked (codes "retain") e);
  in_outs = λ is program. absurd (apart program is);
}

list_holds : (k : PouKind) (n : ℕ) (e : Element) (class : ListClass) → Good (items (suc (suc n)) (Read (list_row k class)) e) → ListHolds k n e class
list_holds Program n e InOut h =
    let none = outside_empty n e h in
    record {
      formed = record {
        addresses = subst (Each HasAddress) (sym none) tt;
        marks = marks_apart InOut (is_marked (codes "constant") e) (is_marked (codes "retain") e);
        in_out_marks = in_out_unmarked InOut (is_marked (codes "constant") e) (is_marked (codes "retain") e);
        in_outs = λ is program. none;
      };
      light = (let empty = ap (λ (vs : List DraftVariable). length vs) none in omega (arith, empty));
    }
list_holds Program n e Local h = record { formed = listed Program n e Local (λ p c. absurd (cc)) h; light = list_light n e h }
list_holds Program n e Input h = record { formed = listed Program n e Input (λ p c. absurd (cc)) h; light = list_light n e h }
list_holds Program n e Output h = record { formed = listed Program n e Output (λ p c. absurd (cc)) h; light = list_light n e h }
list_holds kind.FunctionBlock n e class h = record { formed = listed kind.FunctionBlock n e class (λ p c. absurd (cc)) h; light = list_light n e h }

record Listed (e : Element) (l : DraftList) : Type 0 where
  class : ListClass
  named : class_named (name_of e) ≡ Some class
  is : list_of e class ≡ l

in_list : (e : Element) (l : DraftList) (c : Option ListClass) → class_named (name_of e) ≡ c → option_map (list_of e) c ≡ Some l → Listed e l
in_list e l None is h = absurd (cc)
in_list e l (Some class) is h = record { class = class; named = is; is = (let same : list_of e class ≡ l = cc in same) }

list_read : (e : Element) (l : DraftList) → list_in e ≡ Some l → Listed e l
unfolding list_in
list_read e l h = in_list e l (class_named (name_of e)) refl h

list_formed : (k : PouKind) (n : ℕ) (e : Element) (l : DraftList) (t : Taken) → list_in e ≡ Some l → Good (items (suc (suc n)) (fate_of (interface_row k) t e) e) → FormedList k l
list_formed k n e l t is h =
    let at = list_read e l is in
    subst (FormedList k) at.is (list_holds k n e at.class (told_good (interface_row k) (name_of e) (Read (list_row k at.class)) (list_told k (name_of e) at.class at.named) (suc n) t e refl h)).formed

list_counts : (k : PouKind) (n : ℕ) (e : Element) (l : DraftList) (t : Taken) → list_in e ≡ Some l → Good (items (suc (suc n)) (fate_of (interface_row k) t e) e) → size l ≤ count is_variable (items (suc (suc n)) (fate_of (interface_row k) t e) e)
list_counts k n e l t is h =
    let at = list_read e l is in
    let told = list_told k (name_of e) at.class at.named in
    let fate = told_fate (interface_row k) (name_of e) (Read (list_row k at.class)) told (suc n) t e refl h in
    let light = (list_holds k n e at.class (told_good (interface_row k) (name_of e) (Read (list_row k at.class)) told (suc n) t e refl h)).light in
    omega (arith, light, ap size at.is, ap (λ f. count is_variable (items (suc (suc n)) f e)) fate)

interface_told : (k : PouKind) → IsTold (pou_row k) (codes "interface") (Read (interface_row k))
unfolding is_aside child_for
interface_told Program = record { text = refl; aside = refl; told = λ e is. rw is refl }
interface_told kind.FunctionBlock = record { text = refl; aside = refl; told = λ e is. rw is refl }

-- the lists of a POU
pub lists_formed : (k : PouKind) (n : ℕ) (e : Element) → Good (items (suc (suc (suc (suc n)))) (Read (pou_row k)) e) → Each (FormedList k) (parts_in list_in (first_child (codes "interface") e))
lists_formed k n e h = go (first_child (codes "interface") e) refl
  where
    go : (o : Option Element) → first_child (codes "interface") e ≡ o → Each (FormedList k) (parts_in list_in o)
    go None is = tt
    go (Some interface) is =
        child_holds (pou_row k) (codes "interface") (Read (interface_row k)) (interface_told k) (suc (suc n)) (λ i. Each (FormedList k) (parts_of list_in i))
        (λ i g. parts_hold (suc (suc n)) (interface_row k) list_in (FormedList k) (list_formed k n) i g) e h interface is

parts_weight : (o : Option Element) → declared_variables (parts_in list_in o) ≡ option_weight (λ i. declared_variables (parts_of list_in i)) o
parts_weight None = refl
parts_weight (Some e) = refl

pub lists_counted : (k : PouKind) (n : ℕ) (e : Element) → Good (items (suc (suc (suc (suc n)))) (Read (pou_row k)) e) → declared_variables (parts_in list_in (first_child (codes "interface") e)) ≤ count is_variable (items (suc (suc (suc (suc n)))) (Read (pou_row k)) e)
lists_counted k n e h =
    let light = child_light (pou_row k) (codes "interface") (Read (interface_row k)) (interface_told k) (suc (suc n)) is_variable (λ i. declared_variables (parts_of list_in i))
    (λ i g. parts_light list_in size (suc (suc n)) (interface_row k) is_variable (list_counts k n) i g) e h in
    omega (arith, light, parts_weight (first_child (codes "interface") e))
