-- An expression breaks nothing exactly where it has a type and its literals lie in theirs.
use Rattle.std.proofs.Common.{◌≡◌, ℕ, suc, Bool, true, false, not, cond, ◌&&◌, ◌||◌, List, [], ◌∷◌, ◌++◌, length, Option, Some, None, refl, sym, ap, ◌∙◌}
use Rattle.std.specs.Prelude.{is_none}
use Rattle.std.specs.Option.{option_map, option_and_then}
use Rattle.std.proofs.lemmas.Bool.{and_parts, or_parts, or_from, not-false, not_from_true}
use Rattle.plcx_types.specs.declared.ty.Ty.{Ty}
use Rattle.plcx_types.specs.Name.{in_lower_case}
use Rattle.plcx_types.specs.Range.{InRange, fits}
use Rattle.plcx_types.specs.Lists.{Each}
use Rattle.plcx_types.proofs.TypeTable.{within_range, range_within}
use Rattle.plcx_funcs.specs.declared.func.Func.{Func}
use Rattle.plcx_funcs.specs.declared.func.Func.TheVariants as func
use Rattle.plcx_funcs.specs.Names.{function_named}
use Rattle.plcx_funcs.specs.Pins.{can_have}
use Rattle.plcx_meaning.specs.Tree as tree
use Rattle.plcx_meaning.specs.Tree.{Class, Local, Input, Output, InOut, Temp}
use Rattle.plcx_meaning.specs.Layout.{Variable, variable_named, Meaning, Elementary, Composed, meaning, parts, parts_of}
use Rattle.plcx_meaning.specs.Functions.{can_apply, out_type, group_of}
use Rattle.plcx_meaning.specs.Execute.{referent, referent_by, function_of}
use Rattle.plcx_meaning.specs.Typed.{referent_type, read_type, member_type, variable_in, is_operator, type_at, result_type, call_type, expression_type, IsInRange, AreInRange}
use Rattle.plcx_meaning.proofs.Stuck.{and_then_some}
use Rattle.plcx_meaning.proofs.Lookups.{each_found}
use Rattle.plcx_conditions.specs.declared.broken.Condition.TheVariants as c
use Rattle.plcx_conditions.specs.Broken.{broken_if}
use Rattle.plcx_conditions.specs.Placed.{Word, Literal, Expression, Number, Name, Member, Apply, Not, Binary, Expressions, no_expression, expression, bare_expression, bare_expressions, start_of}
use Rattle.plcx_conditions.specs.Known.{knows, known, world_of, is_instance, seen, Setting, scope_in}
use Rattle.plcx_conditions.specs.Expressions.{broken_in_literal, broken_in_name, is_output, broken_in_output, broken_in_part, broken_in_member, refuses, broken_in_call, count_of, types_in, broken_in_operator, broken_in_expression, broken_in_expressions}
use Rattle.plcx_conditions.proofs.Basics.{false_if_none, none_if_false, parts_none, none_from}

-- ---- literals

pub literal_fits : (v : Literal) → broken_in_literal v ≡ [] → InRange v.value.ty v.value.n
literal_fits v h = within_range v.value.ty v.value.n (not-false (fits v.value.ty v.value.n) (false_if_none _ c.Literal v.at h))

pub literal_none : (v : Literal) → InRange v.value.ty v.value.n → broken_in_literal v ≡ []
literal_none v h = none_if_false _ c.Literal v.at (not_from_true (fits v.value.ty v.value.n) (range_within v.value.ty v.value.n h))

-- ---- what is known of types

-- all variables have known types
abbrev pub AreKnown : List tree.PouText → List Variable → Type 0
AreKnown unit vs = Each (λ (v : Variable). knows unit v.ty ≡ true) vs

-- and those of each instance
abbrev pub PartsAreKnown : List tree.PouText → Type 0
PartsAreKnown unit = (type : List ℕ) → AreKnown unit (parts (meaning (world_of unit) type))

pub known_is : (unit : List tree.PouText) (type : List ℕ) → knows unit type ≡ true → known unit type ≡ Some (meaning (world_of unit) type)
known_is unit type h = rw (h) refl

-- an elementary type is none of an instance
pub no_instance : (b : Bool) (m : Meaning) (t : Ty) → m ≡ Elementary t → is_instance (cond b (Some m) None) ≡ false
no_instance true m t h = rw (h) refl
no_instance false m t h = refl

-- ---- names and members

elementary_by : (m : Meaning) (class : Class) (type : List ℕ) (t : Ty) → referent_type (referent_by m class type) ≡ Some t → m ≡ Elementary t
elementary_by (Elementary u) Local type t h = ap Elementary (let e : Some u ≡ Some t = h in cc)
elementary_by (Elementary u) Input type t h = ap Elementary (let e : Some u ≡ Some t = h in cc)
elementary_by (Elementary u) Output type t h = ap Elementary (let e : Some u ≡ Some t = h in cc)
elementary_by (Elementary u) InOut type t h = ap Elementary (let e : Some u ≡ Some t = h in cc)
elementary_by (Elementary u) Temp type t h = ap Elementary (let e : Some u ≡ Some t = h in cc)
elementary_by (Composed vs) class type t h = absurd (cc)

pub type_by : (m : Meaning) (class : Class) (type : List ℕ) (t : Ty) → m ≡ Elementary t → referent_type (referent_by m class type) ≡ Some t
type_by m Local type t h = rw (h) refl
type_by m Input type t h = rw (h) refl
type_by m Output type t h = rw (h) refl
type_by m InOut type t h = rw (h) refl
type_by m Temp type t h = rw (h) refl

name_none : (unit : List tree.PouText) (o : Option Variable) (x : Word) (t : Ty) → referent_type (referent (world_of unit) o) ≡ Some t → broken_in_name (option_map (seen unit) o) x ≡ []
name_none unit None x t h = absurd (cc)
name_none unit (Some v) x t h = none_if_false _ c.Types x.at (no_instance (knows unit v.ty) (meaning (world_of unit) v.ty) t (elementary_by (meaning (world_of unit) v.ty) v.class v.ty t h))

elementary_from : (m : Meaning) → is_instance (Some m) ≡ false → (t : Ty) × (m ≡ Elementary t)
elementary_from (Elementary t) h = (t, refl)
elementary_from (Composed vs) h = absurd (cc)

-- a known type that is none of an instance
pub elementary_known : (unit : List tree.PouText) (type : List ℕ) → knows unit type ≡ true → is_instance (known unit type) ≡ false → (t : Ty) × (meaning (world_of unit) type ≡ Elementary t)
elementary_known unit type k h = elementary_from (meaning (world_of unit) type) (rw (known_is unit type k) at h)

name_typed : (unit : List tree.PouText) (o : Option Variable) (x : Word) → ((v : Variable) → o ≡ Some v → knows unit v.ty ≡ true) → broken_in_name (option_map (seen unit) o) x ≡ [] → (t : Ty) × (referent_type (referent (world_of unit) o) ≡ Some t)
name_typed unit None x k h = absurd (cc)
name_typed unit (Some v) x k h =
    let e = elementary_known unit v.ty (k v refl) (false_if_none _ c.Types x.at h) in
    (e.0, type_by (meaning (world_of unit) v.ty) v.class v.ty e.0 e.1)

output_by : (m : Meaning) (class : Class) (t : Ty) → read_type m class ≡ Some t → (m ≡ Elementary t) × (class ≡ Output)
output_by (Elementary u) Output t h = (ap Elementary (cc), refl)
output_by (Elementary u) Local t h = absurd (cc)
output_by (Elementary u) Input t h = absurd (cc)
output_by (Elementary u) InOut t h = absurd (cc)
output_by (Elementary u) Temp t h = absurd (cc)
output_by (Composed vs) class t h = absurd (cc)

output_none : (unit : List tree.PouText) (o : Option Variable) (i x : Word) (t : Ty) → member_type (world_of unit) o ≡ Some t → broken_in_output (option_map (seen unit) o) i x ≡ []
output_none unit None i x t h = absurd (cc)
output_none unit (Some w) i x t h =
    let e = output_by (meaning (world_of unit) w.ty) w.class t h in
    none_from _ _ (none_if_false _ c.Name x.at (ap (λ k. not (is_output k)) e.1)) (none_if_false _ c.Types i.at (no_instance (knows unit w.ty) (meaning (world_of unit) w.ty) t e.0))

part_none : (s : Setting) (b : Bool) (m : Meaning) (i x : Word) (t : Ty) → member_type (world_of s.unit) (variable_named (in_lower_case x.name) (parts m)) ≡ Some t → broken_in_part s (cond b (Some m) None) i x ≡ []
part_none s false m i x t h = refl
part_none s true (Elementary u) i x t h = absurd (cc)
part_none s true (Composed vs) i x t h = output_none s.unit (variable_named (in_lower_case x.name) vs) i x t h

member_none : (s : Setting) (o : Option Variable) (i x : Word) (t : Ty) → member_type (world_of s.unit) (variable_named (in_lower_case x.name) (parts_of (world_of s.unit) o)) ≡ Some t → broken_in_member s (option_map (seen s.unit) o) i x ≡ []
member_none s None i x t h = absurd (cc)
member_none s (Some v) i x t h = part_none s (knows s.unit v.ty) (meaning (world_of s.unit) v.ty) i x t h

is_output_class : (class : Class) → not (is_output class) ≡ false → class ≡ Output
is_output_class Output h = refl
is_output_class Local h = absurd (cc)
is_output_class Input h = absurd (cc)
is_output_class InOut h = absurd (cc)
is_output_class Temp h = absurd (cc)

read_by : (m : Meaning) (class : Class) (t : Ty) → m ≡ Elementary t → class ≡ Output → read_type m class ≡ Some t
read_by m class t h k = rw (h, k) refl

output_typed : (unit : List tree.PouText) (o : Option Variable) (i x : Word) → ((v : Variable) → o ≡ Some v → knows unit v.ty ≡ true) → broken_in_output (option_map (seen unit) o) i x ≡ [] → (t : Ty) × (member_type (world_of unit) o ≡ Some t)
output_typed unit None i x k h = absurd (cc)
output_typed unit (Some w) i x k h =
    let halves = parts_none (broken_if (not (is_output w.class)) c.Name x.at) _ h in
    let e = elementary_known unit w.ty (k w refl) (false_if_none _ c.Types i.at halves.1) in
    (e.0, read_by (meaning (world_of unit) w.ty) w.class e.0 e.1 (is_output_class w.class (false_if_none _ c.Name x.at halves.0)))

part_typed : (s : Setting) (m : Meaning) (i x : Word) → AreKnown s.unit (parts m) → broken_in_part s (Some m) i x ≡ [] → (t : Ty) × (member_type (world_of s.unit) (variable_named (in_lower_case x.name) (parts m)) ≡ Some t)
part_typed s (Elementary u) i x all h = absurd (cc)
part_typed s (Composed vs) i x all h = output_typed s.unit (variable_named (in_lower_case x.name) vs) i x (λ v e. each_found (λ (w : Variable). knows s.unit w.ty ≡ true) (in_lower_case x.name) vs v all e) h

member_typed : (s : Setting) (o : Option Variable) (i x : Word) → ((v : Variable) → o ≡ Some v → knows s.unit v.ty ≡ true) → PartsAreKnown s.unit → broken_in_member s (option_map (seen s.unit) o) i x ≡ []
    → (t : Ty) × (member_type (world_of s.unit) (variable_named (in_lower_case x.name) (parts_of (world_of s.unit) o)) ≡ Some t)
member_typed s None i x k all h = absurd (cc)
member_typed s (Some v) i x k all h = part_typed s (meaning (world_of s.unit) v.ty) i x (all v.ty) (rw (known_is s.unit v.ty (k v refl)) at h)

-- ---- functions

-- a function that takes these types has as many inputs
takes_count : (f : Func) (ts : List Ty) (t : Ty) → result_type f ts ≡ Some t → can_have f (length ts) ≡ true
takes_count f ts t h = let at = and_then_some (type_at f ts) (group_of f ts) t h in by_test (can_apply f at.0 ts) refl at.2
  where
    by_test : (b : Bool) → can_apply f (and_then_some (type_at f ts) (group_of f ts) t h).0 ts ≡ b → cond b (Some (out_type f (and_then_some (type_at f ts) (group_of f ts) t h).0)) None ≡ Some t → can_have f (length ts) ≡ true
    by_test true e k = (and_parts (can_have f (length ts)) _ e).0
    by_test false e k = absurd (cc)

some_from : {A : Type 0} (o : Option A) → is_none o ≡ false → (x : A) × (o ≡ Some x)
some_from None h = absurd (cc)
some_from (Some x) h = (x, refl)

call_none : (o : Option Func) (f : Word) (count : ℕ) (ts : List Ty) (t : Ty) → length ts ≡ count → call_type o ts ≡ Some t → broken_in_call o f count (Some ts) ≡ []
call_none None f count ts t e h = absurd (cc)
call_none (Some g) f count ts t e h = by_test (is_operator g) h
  where
    by_test : (b : Bool) → cond b None (result_type g ts) ≡ Some t → broken_if b c.Name f.at ++ broken_if (not b && (not (can_have g count) || refuses g (Some ts))) c.Types f.at ≡ []
    by_test true k = absurd (cc)
    by_test false k =
        let many : can_have g count ≡ true = ap (can_have g) (sym e) ∙ takes_count g ts t k in
        none_if_false _ c.Types f.at (or_from (not (can_have g count)) (refuses g (Some ts)) (not_from_true (can_have g count) many) (ap is_none k))

call_typed : (o : Option Func) (f : Word) (count : ℕ) (ts : List Ty) → broken_in_call o f count (Some ts) ≡ [] → (t : Ty) × (call_type o ts ≡ Some t)
call_typed None f count ts h = absurd (cc)
call_typed (Some g) f count ts h = by_test (is_operator g) h
  where
    by_test : (b : Bool) → broken_if b c.Name f.at ++ broken_if (not b && (not (can_have g count) || refuses g (Some ts))) c.Types f.at ≡ [] → (t : Ty) × (cond b None (result_type g ts) ≡ Some t)
    by_test true k = absurd (cc)
    by_test false k = some_from (result_type g ts) (or_parts (not (can_have g count)) (refuses g (Some ts)) (false_if_none _ c.Types f.at k)).1

operator_none : (s : Setting) (f : Func) (es : Expressions) (at : ℕ) (ts : List Ty) (t : Ty) → types_in s es ≡ Some ts → result_type f ts ≡ Some t → broken_in_operator s f es at ≡ []
operator_none s f es at ts t e h = none_if_false _ c.Types at (ap (refuses f) e ∙ ap is_none h)

operator_typed : (s : Setting) (f : Func) (es : Expressions) (at : ℕ) (ts : List Ty) → types_in s es ≡ Some ts → broken_in_operator s f es at ≡ [] → (t : Ty) × (result_type f ts ≡ Some t)
operator_typed s f es at ts e h = some_from (result_type f ts) (sym (ap (refuses f) e) ∙ false_if_none _ c.Types at h)

-- ---- expressions

mapped_some : {A B : Type 0} (f : A → B) (o : Option A) (y : B) → option_map f o ≡ Some y → (x : A) × (o ≡ Some x) × (f x ≡ y)
mapped_some f None y h = absurd (cc)
mapped_some f (Some x) y h = (x, refl, cc)

-- the types of some expressions are that of the first, and those of the others
record FirstTypes (s : Setting) (e : Expression) (es : Expressions) (ts : List Ty) : Type 0 where
  first : Ty
  others : List Ty
  of_first : expression_type (scope_in s) (bare_expression e) ≡ Some first
  of_others : types_in s es ≡ Some others
  are : first ∷ others ≡ ts

first_types : (s : Setting) (e : Expression) (es : Expressions) (ts : List Ty) → types_in s (expression e es) ≡ Some ts → FirstTypes s e es ts
first_types s e es ts h =
    let one = and_then_some (λ t. option_map (λ us. t ∷ us) (types_in s es)) (expression_type (scope_in s) (bare_expression e)) ts h in
    let rest = mapped_some (λ us. one.0 ∷ us) (types_in s es) ts one.2 in
    record { first = one.0; others = rest.0; of_first = one.1; of_others = rest.1; are = rest.2 }

types_length : (s : Setting) (es : Expressions) (ts : List Ty) → types_in s es ≡ Some ts → length ts ≡ count_of es
types_length s no_expression ts h = let e : [] ≡ ts = cc in ap length (sym e)
types_length s (expression e es) ts h = let f = first_types s e es ts h in ap length (sym f.are) ∙ ap suc (types_length s es f.others f.of_others)

types_from : (s : Setting) (e : Expression) (es : Expressions) (t : Ty) (ts : List Ty) → expression_type (scope_in s) (bare_expression e) ≡ Some t → types_in s es ≡ Some ts → types_in s (expression e es) ≡ Some (t ∷ ts)
types_from s e es t ts h k = ap (option_and_then (λ u. option_map (λ us. u ∷ us) (types_in s es))) h ∙ ap (option_map (λ us. t ∷ us)) k

mutual
  -- what has a type and literals in theirs breaks nothing
  pub expression_none : (s : Setting) (e : Expression) (t : Ty) → expression_type (scope_in s) (bare_expression e) ≡ Some t → IsInRange (bare_expression e) → broken_in_expression s e ≡ []
  expression_none s (Number v) t h r = literal_none v r
  expression_none s (Name x) t h r = name_none s.unit (variable_in (scope_in s) x.name) x t h
  expression_none s (Member i x) t h r = member_none s (variable_in (scope_in s) i.name) i x t h
  expression_none s (Apply f es) t h r =
      let all = and_then_some (call_type (function_named f.name)) (types_in s es) t h in
      none_from (broken_in_expressions s es) _ (expressions_none s es all.0 all.1 r)
      (ap (broken_in_call (function_named f.name) f (count_of es)) all.1 ∙ call_none (function_named f.name) f (count_of es) all.0 t (types_length s es all.0 all.1) all.2)
  expression_none s (Not at e) t h r =
      let one = and_then_some (λ u. result_type func.Not (u ∷ [])) (expression_type (scope_in s) (bare_expression e)) t h in
      none_from (broken_in_expression s e) _ (expression_none s e one.0 one.1 r) (operator_none s func.Not (expression e no_expression) at (one.0 ∷ []) t (types_from s e no_expression one.0 [] one.1 refl) one.2)
  expression_none s (Binary op a b) t h r =
      let one = and_then_some (λ u. option_and_then (λ w. result_type (function_of op) (u ∷ w ∷ [])) (expression_type (scope_in s) (bare_expression b))) (expression_type (scope_in s) (bare_expression a)) t h in
      let two = and_then_some (λ w. result_type (function_of op) (one.0 ∷ w ∷ [])) (expression_type (scope_in s) (bare_expression b)) t one.2 in
      none_from (broken_in_expression s a) _ (expression_none s a one.0 one.1 r.0) (none_from (broken_in_expression s b) _ (expression_none s b two.0 two.1 r.1)
      (operator_none s (function_of op) (expression a (expression b no_expression)) (start_of a) (one.0 ∷ two.0 ∷ []) t (types_from s a (expression b no_expression) one.0 (two.0 ∷ []) one.1 (types_from s b no_expression two.0 [] two.1 refl)) two.2))

  expressions_none : (s : Setting) (es : Expressions) (ts : List Ty) → types_in s es ≡ Some ts → AreInRange (bare_expressions es) → broken_in_expressions s es ≡ []
  expressions_none s no_expression ts h r = refl
  expressions_none s (expression e es) ts h r =
      let f = first_types s e es ts h in
      none_from (broken_in_expression s e) _ (expression_none s e f.first f.of_first r.0) (expressions_none s es f.others f.of_others r.1)

-- an expression with a type, whose literals lie in theirs
pub record Typed (s : Setting) (e : Expression) : Type 0 where
  pub type : Ty
  pub is : expression_type (scope_in s) (bare_expression e) ≡ Some type
  pub range : IsInRange (bare_expression e)

record AllTyped (s : Setting) (es : Expressions) : Type 0 where
  types : List Ty
  are : types_in s es ≡ Some types
  ranges : AreInRange (bare_expressions es)

mutual
  -- what breaks nothing is so, where the types of variables are known
  pub expression_typed : (s : Setting) (e : Expression) → AreKnown s.unit s.own → PartsAreKnown s.unit → broken_in_expression s e ≡ [] → Typed s e
  expression_typed s (Number v) own all h = record { type = v.value.ty; is = refl; range = literal_fits v h }
  expression_typed s (Name x) own all h =
      let t = name_typed s.unit (variable_in (scope_in s) x.name) x (λ v e. each_found (λ (w : Variable). knows s.unit w.ty ≡ true) (in_lower_case x.name) s.own v own e) h in
      record { type = t.0; is = t.1; range = tt }
  expression_typed s (Member i x) own all h =
      let t = member_typed s (variable_in (scope_in s) i.name) i x (λ v e. each_found (λ (w : Variable). knows s.unit w.ty ≡ true) (in_lower_case i.name) s.own v own e) all h in
      record { type = t.0; is = t.1; range = tt }
  expression_typed s (Apply f es) own all h =
      let halves = parts_none (broken_in_expressions s es) _ h in
      let ts = expressions_typed s es own all halves.0 in
      let t = call_typed (function_named f.name) f (count_of es) ts.types (sym (ap (broken_in_call (function_named f.name) f (count_of es)) ts.are) ∙ halves.1) in
      record { type = t.0; is = ap (option_and_then (call_type (function_named f.name))) ts.are ∙ t.1; range = ts.ranges }
  expression_typed s (Not at e) own all h =
      let halves = parts_none (broken_in_expression s e) _ h in
      let u = expression_typed s e own all halves.0 in
      let t = operator_typed s func.Not (expression e no_expression) at (u.type ∷ []) (types_from s e no_expression u.type [] u.is refl) halves.1 in
      record { type = t.0; is = ap (option_and_then (λ w. result_type func.Not (w ∷ []))) u.is ∙ t.1; range = u.range }
  expression_typed s (Binary op a b) own all h =
      let halves = parts_none (broken_in_expression s a) _ h in
      let rest = parts_none (broken_in_expression s b) _ halves.1 in
      let u = expression_typed s a own all halves.0 in
      let w = expression_typed s b own all rest.0 in
      let types : types_in s (expression a (expression b no_expression)) ≡ Some (u.type ∷ w.type ∷ []) = types_from s a (expression b no_expression) u.type (w.type ∷ []) u.is (types_from s b no_expression w.type [] w.is refl) in
      let t = operator_typed s (function_of op) (expression a (expression b no_expression)) (start_of a) (u.type ∷ w.type ∷ []) types rest.1 in
      record {
        type = t.0;
        is = ap (option_and_then (λ y. option_and_then (λ z. result_type (function_of op) (y ∷ z ∷ [])) (expression_type (scope_in s) (bare_expression b)))) u.is ∙ ap (option_and_then (λ z. result_type (function_of op) (u.type ∷ z ∷ []))) w.is ∙ t.1;
        range = (u.range, w.range);
      }

  expressions_typed : (s : Setting) (es : Expressions) → AreKnown s.unit s.own → PartsAreKnown s.unit → broken_in_expressions s es ≡ [] → AllTyped s es
  expressions_typed s no_expression own all h = record { types = []; are = refl; ranges = tt }
  expressions_typed s (expression e es) own all h =
      let halves = parts_none (broken_in_expression s e) _ h in
      let t = expression_typed s e own all halves.0 in
      let ts = expressions_typed s es own all halves.1 in
      record { types = t.type ∷ ts.types; are = types_from s e es t.type ts.types t.is ts.are; ranges = (t.range, ts.ranges) }
