-- A statement breaks nothing exactly where it is ready.
use Rattle.std.proofs.Common.{◌≡◌, ℕ, Bool, true, false, not, cond, ◌&&◌, ◌||◌, List, [], ◌∷◌, ◌++◌, map, Option, Some, None, refl, sym, ap, subst, ◌∙◌}
use Rattle.std.specs.Prelude.{nat_eq, nat_lt}
use Rattle.std.specs.List.{list_any, list_all}
use Rattle.std.specs.Option.{option_map}
use Rattle.std.specs.Str.{bytes_eq}
use Rattle.std.proofs.lemmas.Bool.{and_parts, and_from, or_parts, or_from, not-true, not-false, not_from_true, ltb-false, le-ltb}
use Rattle.plcx_types.specs.declared.ty.Ty.{Ty}
use Rattle.plcx_types.specs.declared.ty.Ty.TheVariants as ty
use Rattle.plcx_types.specs.Name.{in_lower_case}
use Rattle.plcx_types.specs.Lists.{Each}
use Rattle.plcx_types.specs.TypeName.{same_ty, type_named}
use Rattle.plcx_types.proofs.TypeTable.{same_is, same_refl}
use Rattle.plcx_meaning.specs.Base.{are_distinct}
use Rattle.plcx_meaning.specs.Tree as tree
use Rattle.plcx_meaning.specs.Tree.{Class, Local, Input, Output, InOut, Temp, Mark}
use Rattle.plcx_meaning.specs.Layout.{Variable, variable_named, World, Meaning, Elementary, Composed, composed, meaning, parts, parts_of, is_constant}
use Rattle.plcx_meaning.specs.Execute.{Instance, referent, referent_by, Formal, Takes, Binds, NoFormal, formal, formal_by, is_bound, all_bound}
use Rattle.plcx_meaning.specs.Typed.{referent_type, variable_in, part_in, can_store, can_bind}
use Rattle.plcx_meaning.specs.Ready.{ExpressionIsReady, TargetIsReady, BindingIsReady, ValueIsReady, CallIsReady, labels, IsLabel, StatementIsReady, StatementsAreReady, ArmsAreReady}
use Rattle.plcx_meaning.proofs.Lookups.{each_found, found_name}
use Rattle.plcx_meaning.proofs.LookupsOwn.{elementary_meaning}
use Rattle.plcx_conditions.specs.declared.broken.Condition.TheVariants as c
use Rattle.plcx_conditions.specs.Broken.{broken, broken_if}
use Rattle.plcx_conditions.specs.Placed.{Word, Expression, Number, Name, Member, Apply, Not, Binary, Argument, Statement, Assign, Call, If, While, Case, Statements, no_statement, statement, Arms, no_arm, arm, bare_expression, bare_argument, bare_statement, bare_statements, bare_arms, start_of}
use Rattle.plcx_conditions.specs.Known.{same_name, is_among, knows, known, world_of, is_instance, seen, Setting, scope_in, type_in, is_other, differ}
use Rattle.plcx_conditions.specs.Expressions.{broken_in_expression}
use Rattle.plcx_conditions.specs.Statements.{broken_in_value, is_target, broken_in_assignment, is_bindable, is_of_another, cannot_bind, broken_in_binding, broken_by_formal, parts_known, broken_in_formal, broken_in_argument, broken_in_arguments, is_in_out, is_unbound, lacks_argument, broken_in_instance, broken_in_call, broken_in_label, broken_where, broken_in_statement, broken_in_statements, broken_in_arms}
use Rattle.plcx_conditions.proofs.Basics.{false_if_none, none_if_false, parts_none, none_from, none_pass, any_each}
use Rattle.plcx_conditions.proofs.Distinct.{keys, AllNew, new_apart, apart_new, none_before, AllFresh, fresh_differ, differ_fresh, nothing_before}
use Rattle.plcx_conditions.proofs.Values.{AreKnown, PartsAreKnown, known_is, no_instance, elementary_known, type_by, expression_none, Typed, expression_typed}

-- ---- values

pub agrees : (b : Bool) (m : Meaning) (t : Ty) → m ≡ Elementary t → differ (cond b (Some m) None) (Some t) ≡ false
agrees true m t h = rw (h, same_refl t) refl
agrees false m t h = refl

value_none : (s : Setting) (type : List ℕ) (e : Expression) (t : Ty) → type_named type ≡ Some t → type_in s (bare_expression e) ≡ Some t → broken_in_value s (known s.unit type) e ≡ []
value_none s type e t h k = none_if_false _ c.Types (start_of e) (ap (differ (known s.unit type)) k ∙ agrees (knows s.unit type) (meaning (world_of s.unit) type) t (elementary_meaning (world_of s.unit) type t h))

where_none : (s : Setting) (t : Ty) (e : Expression) → ExpressionIsReady (scope_in s) (bare_expression e) t → broken_where s t e ≡ []
where_none s t e h =
    none_from (broken_in_expression s e) _ (expression_none s e t h.typed h.range)
    (none_if_false _ c.Types (start_of e) (ap (differ (Some (Elementary t))) h.typed ∙ agrees true (Elementary t) t refl))

pub not_other : (t u : Ty) → is_other (Elementary t) u ≡ false → u ≡ t
not_other t u h = by_test (same_ty t u) refl h
  where
    by_test : (b : Bool) → same_ty t u ≡ b → cond b false true ≡ false → u ≡ t
    by_test true e k = sym (same_is t u e)
    by_test false e k = absurd (cc)

-- a value of a type that is known and elementary
value_ready : (s : Setting) (m : Meaning) (t : Ty) (e : Expression) → m ≡ Elementary t → Typed s e → broken_in_value s (Some m) e ≡ [] → ExpressionIsReady (scope_in s) (bare_expression e) t
value_ready s m t e h typed k =
    let test : differ (Some m) (type_in s (bare_expression e)) ≡ false = false_if_none _ c.Types (start_of e) k in
    let other : is_other (Elementary t) typed.type ≡ false = rw (typed.is, h) at test in
    record { typed = typed.is ∙ ap Some (not_other t typed.type other); range = typed.range }

where_ready : (s : Setting) (t : Ty) (e : Expression) → AreKnown s.unit s.own → PartsAreKnown s.unit → broken_where s t e ≡ [] → ExpressionIsReady (scope_in s) (bare_expression e) t
where_ready s t e own all h =
    let halves = parts_none (broken_in_expression s e) _ h in
    value_ready s (Elementary t) t e refl (expression_typed s e own all halves.0) halves.1

-- ---- targets

target_by : (class : Class) (constant instance : Bool) → (elim class [ Input ↦ false | Local ↦ not constant | Output ↦ not constant | InOut ↦ not constant | Temp ↦ not constant ]) ≡ true → instance ≡ false
    → (elim class [ Input ↦ false | Local ↦ not (constant || instance) | Output ↦ not (constant || instance) | InOut ↦ not (constant || instance) | Temp ↦ not (constant || instance) ]) ≡ true
target_by class true true h k = absurd (cc)
target_by class false true h k = absurd (cc)
target_by class true false h k = h
target_by class false false h k = h

target_from : (class : Class) (constant instance : Bool) → (elim class [ Input ↦ false | Local ↦ not (constant || instance) | Output ↦ not (constant || instance) | InOut ↦ not (constant || instance) | Temp ↦ not (constant || instance) ]) ≡ true
    → ((elim class [ Input ↦ false | Local ↦ not constant | Output ↦ not constant | InOut ↦ not constant | Temp ↦ not constant ]) ≡ true) × (instance ≡ false)
target_from Input constant instance h = absurd (cc)
target_from Local true instance h = absurd (cc)
target_from Local false instance h = (refl, not-true instance h)
target_from Output true instance h = absurd (cc)
target_from Output false instance h = (refl, not-true instance h)
target_from InOut true instance h = absurd (cc)
target_from InOut false instance h = (refl, not-true instance h)
target_from Temp true instance h = absurd (cc)
target_from Temp false instance h = (refl, not-true instance h)

is_target_seen : (unit : List tree.PouText) (v : Variable) (t : Ty) → type_named v.ty ≡ Some t → can_store v ≡ true → is_target (seen unit v) ≡ true
is_target_seen unit v t h k = target_by v.class (is_constant v.mark) (is_instance (known unit v.ty)) k (no_instance (knows unit v.ty) (meaning (world_of unit) v.ty) t (elementary_meaning (world_of unit) v.ty t h))

-- a variable that is known and no instance is of an elementary type
pub type_of_elementary : (world : World) (name : List ℕ) (t : Ty) → meaning world name ≡ Elementary t → type_named name ≡ Some t
type_of_elementary world name t h = by_type (type_named name) refl h
  where
    by_type : (o : Option Ty) → type_named name ≡ o → (elim o [ Some u ↦ Elementary u | None ↦ Composed (composed world name) ]) ≡ Elementary t → type_named name ≡ Some t
    by_type (Some u) e k = e ∙ ap Some (let same : Elementary u ≡ Elementary t = k in cc)
    by_type None e k = absurd (cc)

assignment_none : (s : Setting) (o : Option Variable) (x : Word) (e : Expression) (v : Variable) (t : Ty) → o ≡ Some v → type_named v.ty ≡ Some t → can_store v ≡ true → type_in s (bare_expression e) ≡ Some t → broken_in_assignment s (option_map (seen s.unit) o) x e ≡ []
assignment_none s o x e v t is typed store value =
    ap (λ (p : Option Variable). broken_in_assignment s (option_map (seen s.unit) p) x e) is
    ∙ none_from _ _ (none_if_false _ c.Types x.at (not_from_true (is_target (seen s.unit v)) (is_target_seen s.unit v t typed store))) (value_none s v.ty e t typed value)

record AssignReady (s : Setting) (x : Word) (e : Expression) : Type 0 where
  type : Ty
  target : TargetIsReady (scope_in s) x.name type can_store
  value : ExpressionIsReady (scope_in s) (bare_expression e) type

assignment_ready : (s : Setting) (o : Option Variable) (x : Word) (e : Expression) → variable_in (scope_in s) x.name ≡ o → ((v : Variable) → o ≡ Some v → knows s.unit v.ty ≡ true) → Typed s e → broken_in_assignment s (option_map (seen s.unit) o) x e ≡ [] → AssignReady s x e
assignment_ready s None x e is k typed h = absurd (cc)
assignment_ready s (Some v) x e is k typed h =
    let halves = parts_none (broken_if (not (is_target (seen s.unit v))) c.Types x.at) _ h in
    let target = target_from v.class (is_constant v.mark) (is_instance (known s.unit v.ty)) (not-false (is_target (seen s.unit v)) (false_if_none _ c.Types x.at halves.0)) in
    let t = elementary_known s.unit v.ty (k v refl) target.1 in
    let value : broken_in_value s (Some (meaning (world_of s.unit) v.ty)) e ≡ [] = rw (known_is s.unit v.ty (k v refl)) at halves.1 in
    record {
      type = t.0;
      target = record { variable = v; found = is; typed = type_of_elementary (world_of s.unit) v.ty t.0 t.1; passes = target.0 };
      value = value_ready s (meaning (world_of s.unit) v.ty) t.0 e t.1 typed value;
    }

-- ---- what stands for an in-out

bindable_by : (class : Class) (mark : Mark) (type : Option Meaning) → (elim class [ Input ↦ false | Temp ↦ false | Local ↦ not (is_constant mark) | Output ↦ not (is_constant mark) | InOut ↦ not (is_constant mark) ]) ≡ true → is_instance type ≡ false
    → is_bindable (record { class = class; mark = mark; type = type }) ≡ true
bindable_by Input mark type h k = absurd (cc)
bindable_by Temp mark type h k = absurd (cc)
bindable_by Local mark type h k = target_by Local (is_constant mark) (is_instance type) h k
bindable_by Output mark type h k = target_by Output (is_constant mark) (is_instance type) h k
bindable_by InOut mark type h k = target_by InOut (is_constant mark) (is_instance type) h k

bindable_from : (class : Class) (mark : Mark) (type : Option Meaning) → is_bindable (record { class = class; mark = mark; type = type }) ≡ true
    → ((elim class [ Input ↦ false | Temp ↦ false | Local ↦ not (is_constant mark) | Output ↦ not (is_constant mark) | InOut ↦ not (is_constant mark) ]) ≡ true) × (is_instance type ≡ false)
bindable_from Input mark type h = absurd (cc)
bindable_from Temp mark type h = absurd (cc)
bindable_from Local mark type h = target_from Local (is_constant mark) (is_instance type) h
bindable_from Output mark type h = target_from Output (is_constant mark) (is_instance type) h
bindable_from InOut mark type h = target_from InOut (is_constant mark) (is_instance type) h

none_of_another : (wanted : Option Meaning) (b : Bool) (m : Meaning) (t : Ty) → m ≡ Elementary t → differ wanted (Some t) ≡ false → is_of_another wanted (cond b (Some m) None) ≡ false
none_of_another wanted true m t h k = rw (h) k
none_of_another wanted false m t h k = refl

can_bind_none : (s : Setting) (wanted : Option Meaning) (o : Option Variable) (v : Variable) (t : Ty) → o ≡ Some v → type_named v.ty ≡ Some t → can_bind v ≡ true → differ wanted (Some t) ≡ false → cannot_bind wanted (option_map (seen s.unit) o) ≡ false
can_bind_none s wanted o v t is typed bind k =
    let m = elementary_meaning (world_of s.unit) v.ty t typed in
    ap (λ (p : Option Variable). cannot_bind wanted (option_map (seen s.unit) p)) is
    ∙ or_from (not (is_bindable (seen s.unit v))) (is_of_another wanted (known s.unit v.ty))
    (not_from_true (is_bindable (seen s.unit v)) (bindable_by v.class v.mark (known s.unit v.ty) bind (no_instance (knows s.unit v.ty) (meaning (world_of s.unit) v.ty) t m)))
    (none_of_another wanted (knows s.unit v.ty) (meaning (world_of s.unit) v.ty) t m k)

binding_none : (s : Setting) (wanted : Option Meaning) (e : Expression) (t : Ty) → BindingIsReady (scope_in s) (bare_expression e) t → differ wanted (Some t) ≡ false → broken_in_binding s wanted e ≡ []
binding_none s wanted (Name x) t h k = none_if_false _ c.Types x.at (can_bind_none s wanted (variable_in (scope_in s) x.name) h.variable t h.found h.typed h.passes k)
binding_none s wanted (Number v) t h k = absurd h
binding_none s wanted (Member i x) t h k = absurd h
binding_none s wanted (Apply f es) t h k = absurd h
binding_none s wanted (Not at e) t h k = absurd h
binding_none s wanted (Binary op a b) t h k = absurd h

-- the variable of a name is there, of the type, and can stand for an in-out
can_bind_ready : (s : Setting) (t : Ty) (o : Option Variable) (x : Word) → variable_in (scope_in s) x.name ≡ o → ((v : Variable) → o ≡ Some v → knows s.unit v.ty ≡ true) → broken_in_expression s (Name x) ≡ []
    → cannot_bind (Some (Elementary t)) (option_map (seen s.unit) o) ≡ false → TargetIsReady (scope_in s) x.name t can_bind
can_bind_ready s t None x is k h e = let no : broken c.Name x.at ∷ [] ≡ [] = rw (is) at h in absurd (cc)
can_bind_ready s t (Some v) x is k h e =
    let halves = or_parts (not (is_bindable (seen s.unit v))) (is_of_another (Some (Elementary t)) (known s.unit v.ty)) e in
    let target = bindable_from v.class v.mark (known s.unit v.ty) (not-false (is_bindable (seen s.unit v)) halves.0) in
    let u = elementary_known s.unit v.ty (k v refl) target.1 in
    let other : is_other (Elementary t) u.0 ≡ false = rw (known_is s.unit v.ty (k v refl), u.1) at halves.1 in
    let same : u.0 ≡ t = not_other t u.0 other in
    record { variable = v; found = is; typed = type_of_elementary (world_of s.unit) v.ty u.0 u.1 ∙ ap Some same; passes = target.0 }

binding_ready : (s : Setting) (t : Ty) (e : Expression) → AreKnown s.unit s.own → broken_in_expression s e ≡ [] → broken_in_binding s (Some (Elementary t)) e ≡ [] → BindingIsReady (scope_in s) (bare_expression e) t
binding_ready s t (Name x) own h k =
    can_bind_ready s t (variable_in (scope_in s) x.name) x refl (λ v e. each_found (λ (w : Variable). knows s.unit w.ty ≡ true) (in_lower_case x.name) s.own v own e) h (false_if_none _ c.Types x.at k)
binding_ready s t (Number v) own h k = absurd (cc)
binding_ready s t (Member i x) own h k = absurd (cc)
binding_ready s t (Apply f es) own h k = absurd (cc)
binding_ready s t (Not at e) own h k = absurd (cc)
binding_ready s t (Binary op a b) own h k = absurd (cc)

-- ---- formal names

formal_none : (s : Setting) (b : Bool) (m : Meaning) (class : Class) (mark : Mark) (a : Argument) → ValueIsReady (scope_in s) (bare_expression a.value) (formal_by m class)
    → broken_by_formal s (Some (record { class = class; mark = mark; type = cond b (Some m) None })) a ≡ []
formal_none s b (Elementary t) Input mark a h = none_if_false _ c.Types (start_of a.value) (ap (differ (cond b (Some (Elementary t)) None)) h.typed ∙ agrees b (Elementary t) t refl)
formal_none s b (Elementary t) InOut mark a h = binding_none s (cond b (Some (Elementary t)) None) a.value t h (agrees b (Elementary t) t refl)
formal_none s b (Elementary t) Local mark a h = absurd h
formal_none s b (Elementary t) Output mark a h = absurd h
formal_none s b (Elementary t) Temp mark a h = absurd h
formal_none s b (Composed vs) class mark a h = absurd h

-- no value and no variable is of the type of an instance
no_value : (s : Setting) (vs : List Variable) (e : Expression) → Typed s e → broken_in_value s (Some (Composed vs)) e ≡ [] → ⊥
no_value s vs e typed k = let no : true ≡ false = rw (typed.is) at (false_if_none (differ (Some (Composed vs)) (type_in s (bare_expression e))) c.Types (start_of e) k) in absurd (cc)

no_variable : (s : Setting) (vs : List Variable) (o : Option Variable) (x : Word) → variable_in (scope_in s) x.name ≡ o → ((v : Variable) → o ≡ Some v → knows s.unit v.ty ≡ true) → broken_in_expression s (Name x) ≡ []
    → cannot_bind (Some (Composed vs)) (option_map (seen s.unit) o) ≡ false → ⊥
no_variable s vs None x is k h e = let no : broken c.Name x.at ∷ [] ≡ [] = rw (is) at h in absurd (cc)
no_variable s vs (Some v) x is k h e =
    let halves = or_parts (not (is_bindable (seen s.unit v))) (is_of_another (Some (Composed vs)) (known s.unit v.ty)) e in
    let target = bindable_from v.class v.mark (known s.unit v.ty) (not-false (is_bindable (seen s.unit v)) halves.0) in
    let u = elementary_known s.unit v.ty (k v refl) target.1 in
    let no : true ≡ false = rw (known_is s.unit v.ty (k v refl), u.1) at halves.1 in
    absurd (cc)

no_binding : (s : Setting) (vs : List Variable) (e : Expression) → AreKnown s.unit s.own → broken_in_expression s e ≡ [] → broken_in_binding s (Some (Composed vs)) e ≡ [] → ⊥
no_binding s vs (Name x) own h k =
    no_variable s vs (variable_in (scope_in s) x.name) x refl (λ v e. each_found (λ (w : Variable). knows s.unit w.ty ≡ true) (in_lower_case x.name) s.own v own e) h (false_if_none _ c.Types x.at k)
no_binding s vs (Number v) own h k = absurd (cc)
no_binding s vs (Member i x) own h k = absurd (cc)
no_binding s vs (Apply f es) own h k = absurd (cc)
no_binding s vs (Not at e) own h k = absurd (cc)
no_binding s vs (Binary op a b) own h k = absurd (cc)

formal_ready : (s : Setting) (m : Meaning) (class : Class) (mark : Mark) (a : Argument) → AreKnown s.unit s.own → PartsAreKnown s.unit → broken_in_expression s a.value ≡ []
    → broken_by_formal s (Some (record { class = class; mark = mark; type = Some m })) a ≡ [] → ValueIsReady (scope_in s) (bare_expression a.value) (formal_by m class)
formal_ready s (Elementary t) Input mark a own all h k = value_ready s (Elementary t) t a.value refl (expression_typed s a.value own all h) k
formal_ready s (Elementary t) InOut mark a own all h k = binding_ready s t a.value own h k
formal_ready s m Local mark a own all h k = absurd (cc)
formal_ready s m Output mark a own all h k = absurd (cc)
formal_ready s m Temp mark a own all h k = absurd (cc)
formal_ready s (Composed vs) Input mark a own all h k = absurd (no_value s vs a.value (expression_typed s a.value own all h) k)
formal_ready s (Composed vs) InOut mark a own all h k = absurd (no_binding s vs a.value own h k)

-- ---- arguments

-- what each argument suits, by the variables of the instance that is called
abbrev Suits : Setting → List Variable → Argument → Type 0
Suits s vs a = ValueIsReady (scope_in s) (bare_expression a.value) (formal (world_of s.unit) (variable_named (in_lower_case a.formal.name) vs))

abbrev formals : List Argument → List Word
formals args = map (λ (a : Argument). a.formal) args

bound_none : (s : Setting) (e : Expression) (t : Ty) → BindingIsReady (scope_in s) (bare_expression e) t → broken_in_expression s e ≡ []
bound_none s (Name x) t h =
    let o = ap (referent (world_of s.unit)) h.found in
    expression_none s (Name x) t (ap referent_type o ∙ type_by (meaning (world_of s.unit) h.variable.ty) h.variable.class h.variable.ty t (elementary_meaning (world_of s.unit) h.variable.ty t h.typed)) tt
bound_none s (Number v) t h = absurd h
bound_none s (Member i x) t h = absurd h
bound_none s (Apply f es) t h = absurd h
bound_none s (Not at e) t h = absurd h
bound_none s (Binary op a b) t h = absurd h

suited_none : (s : Setting) (e : Expression) (f : Formal) → ValueIsReady (scope_in s) (bare_expression e) f → broken_in_expression s e ≡ []
suited_none s e (Takes t) h = expression_none s e t h.typed h.range
suited_none s e (Binds t) h = bound_none s e t h
suited_none s e NoFormal h = absurd h

by_formal_none : (s : Setting) (o : Option Variable) (a : Argument) → ValueIsReady (scope_in s) (bare_expression a.value) (formal (world_of s.unit) o) → broken_by_formal s (option_map (seen s.unit) o) a ≡ []
by_formal_none s None a h = absurd h
by_formal_none s (Some w) a h = formal_none s (knows s.unit w.ty) (meaning (world_of s.unit) w.ty) w.class w.mark a h

in_formal_none : (s : Setting) (b : Bool) (m : Meaning) (a : Argument) → Suits s (parts m) a → broken_in_formal s (parts_known (cond b (Some m) None)) a ≡ []
in_formal_none s false m a h = refl
in_formal_none s true (Elementary t) a h = refl
in_formal_none s true (Composed vs) a h = by_formal_none s (variable_named (in_lower_case a.formal.name) vs) a h

arguments_none : (s : Setting) (b : Bool) (m : Meaning) (before : List Word) (args : List Argument) → AllNew before (formals args) → Each (Suits s (parts m)) args → broken_in_arguments s (parts_known (cond b (Some m) None)) before args ≡ []
arguments_none s b m before [] new h = refl
arguments_none s b m before (a ∷ args) new h =
    none_from (broken_in_argument s (parts_known (cond b (Some m) None)) before a) _
    (none_from (broken_if (is_among before a.formal) c.Name a.formal.at) _ (none_if_false _ c.Name a.formal.at new.0)
    (none_from (broken_in_expression s a.value) _ (suited_none s a.value _ h.0) (in_formal_none s b m a h.0)))
    (arguments_none s b m (before ++ a.formal ∷ []) args new.1 h.1)

by_formal_ready : (s : Setting) (o : Option Variable) (a : Argument) → AreKnown s.unit s.own → PartsAreKnown s.unit → ((w : Variable) → o ≡ Some w → knows s.unit w.ty ≡ true) → broken_in_expression s a.value ≡ []
    → broken_by_formal s (option_map (seen s.unit) o) a ≡ [] → ValueIsReady (scope_in s) (bare_expression a.value) (formal (world_of s.unit) o)
by_formal_ready s None a own all k h e = absurd (cc)
by_formal_ready s (Some w) a own all k h e = formal_ready s (meaning (world_of s.unit) w.ty) w.class w.mark a own all h (rw (known_is s.unit w.ty (k w refl)) at e)

record Arguments (s : Setting) (vs : List Variable) (before : List Word) (args : List Argument) : Type 0 where
  new : AllNew before (formals args)
  suit : Each (Suits s vs) args

arguments_ready : (s : Setting) (vs : List Variable) (before : List Word) (args : List Argument) → AreKnown s.unit s.own → PartsAreKnown s.unit → AreKnown s.unit vs → broken_in_arguments s (Some vs) before args ≡ [] → Arguments s vs before args
arguments_ready s vs before [] own all these h = record { new = tt; suit = tt }
arguments_ready s vs before (a ∷ args) own all these h =
    let halves = parts_none (broken_in_argument s (Some vs) before a) _ h in
    let first = parts_none (broken_if (is_among before a.formal) c.Name a.formal.at) _ halves.0 in
    let second = parts_none (broken_in_expression s a.value) _ first.1 in
    let rest = arguments_ready s vs (before ++ a.formal ∷ []) args own all these halves.1 in
    record {
      new = (false_if_none _ c.Name a.formal.at first.0, rest.new);
      suit = (by_formal_ready s (variable_named (in_lower_case a.formal.name) vs) a own all (λ w e. each_found (λ (v : Variable). knows s.unit v.ty ≡ true) (in_lower_case a.formal.name) vs w these e) second.0 second.1, rest.suit);
    }

-- ---- in-outs of a call

-- each variable is found under its own name
abbrev pub AreNamed : List Variable → Type 0
AreNamed vs = Each (λ (v : Variable). variable_named (in_lower_case v.name) vs ≡ Some v) vs

any_argument : (key : List ℕ) (args : List Argument) → list_any (λ (a : tree.Argument). bytes_eq (in_lower_case a.formal) key) (map bare_argument args) ≡ list_any (λ (a : Argument). bytes_eq (in_lower_case a.formal.name) key) args
any_argument key [] = refl
any_argument key (a ∷ args) = ap (λ b. bytes_eq (in_lower_case a.formal.name) key || b) (any_argument key args)

all_each : {A : Type 0} (test : A → Bool) (xs : List A) → list_all test xs ≡ true → Each (λ x. test x ≡ true) xs
all_each test [] h = tt
all_each test (x ∷ xs) h = let halves = and_parts (test x) (list_all test xs) h in (halves.0, all_each test xs halves.1)

each_all : {A : Type 0} (test : A → Bool) (xs : List A) → Each (λ x. test x ≡ true) xs → list_all test xs ≡ true
each_all test [] h = refl
each_all test (x ∷ xs) h = and_from (test x) (list_all test xs) h.0 (each_all test xs h.1)

abbrev has_argument : List Argument → List ℕ → Bool
has_argument args name = list_any (λ (a : Argument). same_name a.formal.name name) args

-- the class of each variable of an instance that is called, and whether an argument is for it
abbrev bound_where : Class → Bool → Bool
bound_where InOut any = any
bound_where Local any = true
bound_where Input any = true
bound_where Output any = true
bound_where Temp any = true

bound_by : (class : Class) (any : Bool) → bound_where class any ≡ true → ((elim class [ InOut ↦ true | Local ↦ false | Input ↦ false | Output ↦ false | Temp ↦ false ]) && not any) ≡ false
bound_by InOut any h = not_from_true any h
bound_by Local any h = refl
bound_by Input any h = refl
bound_by Output any h = refl
bound_by Temp any h = refl

bound_from : (class : Class) (any : Bool) → ((elim class [ InOut ↦ true | Local ↦ false | Input ↦ false | Output ↦ false | Temp ↦ false ]) && not any) ≡ false → bound_where class any ≡ true
bound_from InOut any h = not-false any h
bound_from Local any h = refl
bound_from Input any h = refl
bound_from Output any h = refl
bound_from Temp any h = refl

bound_is : (args : List Argument) (v : Variable) → is_bound (map bare_argument args) v ≡ bound_where v.class (has_argument args v.name)
bound_is args v = by_class v.class (any_argument (in_lower_case v.name) args)
  where
    by_class : (class : Class) → list_any (λ (a : tree.Argument). bytes_eq (in_lower_case a.formal) (in_lower_case v.name)) (map bare_argument args) ≡ has_argument args v.name
        → is_bound (map bare_argument args) (record v { class = class }) ≡ bound_where class (has_argument args v.name)
    by_class InOut e = e
    by_class Local e = refl
    by_class Input e = refl
    by_class Output e = refl
    by_class Temp e = refl

unbound_none : (unit : List tree.PouText) (args : List Argument) (v : Variable) (o : Option Variable) → ((w : Variable) → o ≡ Some w → (is_bound (map bare_argument args) w ≡ true) × (in_lower_case w.name ≡ in_lower_case v.name))
    → (is_in_out (option_map (seen unit) o) && not (has_argument args v.name)) ≡ false
unbound_none unit args v None h = refl
unbound_none unit args v (Some w) h =
    let k = h w refl in
    let same : has_argument args w.name ≡ has_argument args v.name = ap (λ (key : List ℕ). list_any (λ (a : Argument). bytes_eq (in_lower_case a.formal.name) key) args) k.1 in
    ap (λ b. is_in_out (Some (seen unit w)) && not b) (sym same) ∙ bound_by w.class (has_argument args w.name) (sym (bound_is args w) ∙ k.0)

lacks_none : (unit : List tree.PouText) (vs : List Variable) (args : List Argument) → all_bound (map bare_argument args) vs ≡ true → lacks_argument unit vs args ≡ false
lacks_none unit vs args h = none_pass (is_unbound unit vs args) vs (over vs)
  where
    each : Each (λ (v : Variable). is_bound (map bare_argument args) v ≡ true) vs
    each = all_each (is_bound (map bare_argument args)) vs h

    over : (ws : List Variable) → Each (λ (v : Variable). is_unbound unit vs args v ≡ false) ws
    over [] = tt
    over (v ∷ ws) = (unbound_none unit args v (variable_named (in_lower_case v.name) vs) (λ w e. (each_found (λ (u : Variable). is_bound (map bare_argument args) u ≡ true) (in_lower_case v.name) vs w each e, found_name (in_lower_case v.name) vs w e)), over ws)

lacks_bound : (unit : List tree.PouText) (vs : List Variable) (args : List Argument) → AreNamed vs → lacks_argument unit vs args ≡ false → all_bound (map bare_argument args) vs ≡ true
lacks_bound unit vs args named h = each_all (is_bound (map bare_argument args)) vs (over vs named (any_each (is_unbound unit vs args) vs h))
  where
    over : (ws : List Variable) → Each (λ (v : Variable). variable_named (in_lower_case v.name) vs ≡ Some v) ws → Each (λ (v : Variable). is_unbound unit vs args v ≡ false) ws → Each (λ (v : Variable). is_bound (map bare_argument args) v ≡ true) ws
    over [] n u = tt
    over (v ∷ ws) n u =
        let first : (is_in_out (Some (seen unit v)) && not (has_argument args v.name)) ≡ false = rw (n.0) at u.0 in
        (bound_is args v ∙ bound_from v.class (has_argument args v.name) first, over ws n.1 u.1)

-- ---- calls

formal_keys : (args : List Argument) → map (λ (a : tree.Argument). in_lower_case a.formal) (map bare_argument args) ≡ keys (formals args)
formal_keys [] = refl
formal_keys (a ∷ args) = ap (λ ks. in_lower_case a.formal.name ∷ ks) (formal_keys args)

each_of_map : {A B : Type 0} (P : B → Type 0) (f : A → B) (xs : List A) → Each P (map f xs) → Each (λ x. P (f x)) xs
each_of_map P f [] h = tt
each_of_map P f (x ∷ xs) h = (h.0, each_of_map P f xs h.1)

-- an instance, by what its name leads to
instance_by : (world : World) (o : Option Variable) (type : List ℕ) → referent world o ≡ Instance type → (v : Variable) × (o ≡ Some v) × (meaning world v.ty ≡ Composed (parts (meaning world v.ty)))
instance_by world None type h = absurd (cc)
instance_by world (Some v) type h = (v, refl, by_meaning (meaning world v.ty) v.class h)
  where
    by_meaning : (m : Meaning) (class : Class) → referent_by m class v.ty ≡ Instance type → m ≡ Composed (parts m)
    by_meaning (Composed vs) class k = refl
    by_meaning (Elementary t) Local k = absurd (cc)
    by_meaning (Elementary t) Input k = absurd (cc)
    by_meaning (Elementary t) Output k = absurd (cc)
    by_meaning (Elementary t) InOut k = absurd (cc)
    by_meaning (Elementary t) Temp k = absurd (cc)

instance_none : (s : Setting) (b : Bool) (m : Meaning) (i : Word) (args : List Argument) → m ≡ Composed (parts m) → all_bound (map bare_argument args) (parts m) ≡ true → broken_in_instance s (cond b (Some m) None) i args ≡ []
instance_none s false m i args e h = refl
instance_none s true (Elementary t) i args e h = absurd (cc)
instance_none s true (Composed vs) i args e h = none_if_false _ c.Types i.at (lacks_none s.unit vs args h)

called_none : (s : Setting) (v : Variable) (i : Word) (args : List Argument) → meaning (world_of s.unit) v.ty ≡ Composed (parts (meaning (world_of s.unit) v.ty)) → all_bound (map bare_argument args) (parts (meaning (world_of s.unit) v.ty)) ≡ true
    → AllNew [] (formals args) → Each (Suits s (parts (meaning (world_of s.unit) v.ty))) args → broken_in_call s (Some (seen s.unit v)) i args ≡ []
called_none s v i args e bound new suit =
    none_from (broken_in_instance s (known s.unit v.ty) i args) _ (instance_none s (knows s.unit v.ty) (meaning (world_of s.unit) v.ty) i args e bound)
    (arguments_none s (knows s.unit v.ty) (meaning (world_of s.unit) v.ty) [] args new suit)

call_none : (s : Setting) (o : Option Variable) (i : Word) (args : List Argument) → variable_in (scope_in s) i.name ≡ o → CallIsReady (scope_in s) i.name (map bare_argument args) → broken_in_call s (option_map (seen s.unit) o) i args ≡ []
call_none s o i args is h =
    let v = instance_by (world_of s.unit) o h.type (sym (ap (referent (world_of s.unit)) is) ∙ h.instance) in
    let at = is ∙ v.1 in
    let bound : all_bound (map bare_argument args) (parts (meaning (world_of s.unit) v.0.ty)) ≡ true = rw (at) at h.bound in
    let new = apart_new [] (formals args) (record { distinct = ap are_distinct (sym (formal_keys args)) ∙ h.distinct; others = none_before (formals args) }) in
    let values = each_of_map (λ (a : tree.Argument). ValueIsReady (scope_in s) a.value (formal (world_of s.unit) (part_in (scope_in s) i.name a.formal))) bare_argument args h.values in
    let suit : Each (Suits s (parts (meaning (world_of s.unit) v.0.ty))) args
    = subst (λ (p : Option Variable). Each (λ (a : Argument). ValueIsReady (scope_in s) (bare_expression a.value) (formal (world_of s.unit) (variable_named (in_lower_case a.formal.name) (parts_of (world_of s.unit) p)))) args) at values in
    ap (λ (p : Option Variable). broken_in_call s (option_map (seen s.unit) p) i args) v.1 ∙ called_none s v.0 i args v.2 bound new suit

-- the variables of each instance are found under their names
abbrev pub PartsAreNamed : List tree.PouText → Type 0
PartsAreNamed unit = (type : List ℕ) → AreNamed (parts (meaning (world_of unit) type))

each_to_map : {A B : Type 0} (P : B → Type 0) (f : A → B) (xs : List A) → Each (λ x. P (f x)) xs → Each P (map f xs)
each_to_map P f [] h = tt
each_to_map P f (x ∷ xs) h = (h.0, each_to_map P f xs h.1)

called_ready : (s : Setting) (m : Meaning) (v : Variable) (i : Word) (args : List Argument) → m ≡ meaning (world_of s.unit) v.ty → variable_in (scope_in s) i.name ≡ Some v → AreKnown s.unit s.own → PartsAreKnown s.unit → AreKnown s.unit (parts m) → AreNamed (parts m)
    → broken_in_instance s (Some m) i args ++ broken_in_arguments s (parts_known (Some m)) [] args ≡ [] → CallIsReady (scope_in s) i.name (map bare_argument args)
called_ready s (Elementary t) v i args e is own all these named h = absurd (cc)
called_ready s (Composed vs) v i args e is own all these named h =
    let halves = parts_none (broken_in_instance s (Some (Composed vs)) i args) _ h in
    let arguments = arguments_ready s vs [] args own all these halves.1 in
    let parts-are : parts_of (world_of s.unit) (variable_in (scope_in s) i.name) ≡ vs = ap (parts_of (world_of s.unit)) is ∙ ap parts (sym e) in
    record {
      type = v.ty;
      instance = ap (referent (world_of s.unit)) is ∙ ap (λ m. referent_by m v.class v.ty) (sym e);
      distinct = ap are_distinct (formal_keys args) ∙ (new_apart [] (formals args) arguments.new).distinct;
      values =
          each_to_map (λ (a : tree.Argument). ValueIsReady (scope_in s) a.value (formal (world_of s.unit) (part_in (scope_in s) i.name a.formal))) bare_argument args
          (subst (λ (ws : List Variable). Each (λ (a : Argument). ValueIsReady (scope_in s) (bare_expression a.value) (formal (world_of s.unit) (variable_named (in_lower_case a.formal.name) ws))) args) (sym parts-are) arguments.suit);
      bound = ap (all_bound (map bare_argument args)) parts-are ∙ lacks_bound s.unit vs args named (false_if_none _ c.Types i.at halves.0);
    }

call_ready : (s : Setting) (o : Option Variable) (i : Word) (args : List Argument) → variable_in (scope_in s) i.name ≡ o → AreKnown s.unit s.own → PartsAreKnown s.unit → PartsAreNamed s.unit → broken_in_call s (option_map (seen s.unit) o) i args ≡ []
    → CallIsReady (scope_in s) i.name (map bare_argument args)
call_ready s None i args is own all named h = absurd (cc)
call_ready s (Some v) i args is own all named h =
    let k = each_found (λ (w : Variable). knows s.unit w.ty ≡ true) (in_lower_case i.name) s.own v own is in
    called_ready s (meaning (world_of s.unit) v.ty) v i args refl is own all (all v.ty) (named v.ty) (rw (known_is s.unit v.ty k) at h)

-- ---- statements

label_none : (before : List ℕ) (label at : ℕ) → IsLabel label → list_any (nat_eq label) before ≡ false → broken_in_label before label at ≡ []
label_none before label at small new = none_if_false _ c.Literal at (or_from (nat_lt 2147483647 label) (list_any (nat_eq label) before) (le-ltb 2147483647 label small) new)

label_ready : (before : List ℕ) (label at : ℕ) → broken_in_label before label at ≡ [] → IsLabel label × (list_any (nat_eq label) before ≡ false)
label_ready before label at h =
    let halves = or_parts (nat_lt 2147483647 label) (list_any (nat_eq label) before) (false_if_none _ c.Literal at h) in
    (ltb-false 2147483647 label halves.0, halves.1)

mutual
  pub statement_none : (s : Setting) (t : Statement) → StatementIsReady (scope_in s) (bare_statement t) → broken_in_statement s t ≡ []
  statement_none s (Assign x e) h =
      let target = h.1 in let value = h.2 in
      none_from (broken_in_expression s e) _ (expression_none s e h.0 value.typed value.range)
      (assignment_none s (variable_in (scope_in s) x.name) x e target.variable h.0 target.found target.typed target.passes value.typed)
  statement_none s (Call i args) h = call_none s (variable_in (scope_in s) i.name) i args refl h
  statement_none s (If e ss) h = none_from (broken_where s ty.Bool e) _ (where_none s ty.Bool e h.0) (statements_none s ss h.1)
  statement_none s (While e ss) h = none_from (broken_where s ty.Bool e) _ (where_none s ty.Bool e h.0) (statements_none s ss h.1)
  statement_none s (Case e as_) h =
      none_from (broken_where s ty.Dint e) _ (where_none s ty.Dint e h.0)
      (arms_none s [] as_ h.1 (differ_fresh [] (labels (bare_arms as_)) (record { differ = h.2; others = nothing_before (labels (bare_arms as_)) })) h.3)

  pub statements_none : (s : Setting) (ss : Statements) → StatementsAreReady (scope_in s) (bare_statements ss) → broken_in_statements s ss ≡ []
  statements_none s no_statement h = refl
  statements_none s (statement t ss) h = none_from (broken_in_statement s t) _ (statement_none s t h.0) (statements_none s ss h.1)

  arms_none : (s : Setting) (before : List ℕ) (as_ : Arms) → Each IsLabel (labels (bare_arms as_)) → AllFresh before (labels (bare_arms as_)) → ArmsAreReady (scope_in s) (bare_arms as_) → broken_in_arms s before as_ ≡ []
  arms_none s before no_arm small new h = refl
  arms_none s before (arm label at ss rest) small new h =
      none_from (broken_in_label before label at) _ (label_none before label at small.0 new.0)
      (none_from (broken_in_statements s ss) _ (statements_none s ss h.0) (arms_none s (before ++ label ∷ []) rest small.1 new.1 h.1))

record AllArms (s : Setting) (before : List ℕ) (as_ : Arms) : Type 0 where
  small : Each IsLabel (labels (bare_arms as_))
  new : AllFresh before (labels (bare_arms as_))
  ready : ArmsAreReady (scope_in s) (bare_arms as_)

mutual
  pub statement_ready : (s : Setting) (t : Statement) → AreKnown s.unit s.own → PartsAreKnown s.unit → PartsAreNamed s.unit → broken_in_statement s t ≡ [] → StatementIsReady (scope_in s) (bare_statement t)
  statement_ready s (Assign x e) own all named h =
      let halves = parts_none (broken_in_expression s e) _ h in
      let r = assignment_ready s (variable_in (scope_in s) x.name) x e refl (λ v i. each_found (λ (w : Variable). knows s.unit w.ty ≡ true) (in_lower_case x.name) s.own v own i) (expression_typed s e own all halves.0) halves.1 in
      (r.type, r.target, r.value)
  statement_ready s (Call i args) own all named h = call_ready s (variable_in (scope_in s) i.name) i args refl own all named h
  statement_ready s (If e ss) own all named h =
      let halves = parts_none (broken_where s ty.Bool e) _ h in
      (where_ready s ty.Bool e own all halves.0, statements_ready s ss own all named halves.1)
  statement_ready s (While e ss) own all named h =
      let halves = parts_none (broken_where s ty.Bool e) _ h in
      (where_ready s ty.Bool e own all halves.0, statements_ready s ss own all named halves.1)
  statement_ready s (Case e as_) own all named h =
      let halves = parts_none (broken_where s ty.Dint e) _ h in
      let r = arms_ready s [] as_ own all named halves.1 in
      (where_ready s ty.Dint e own all halves.0, r.small, (fresh_differ [] (labels (bare_arms as_)) r.new).differ, r.ready)

  pub statements_ready : (s : Setting) (ss : Statements) → AreKnown s.unit s.own → PartsAreKnown s.unit → PartsAreNamed s.unit → broken_in_statements s ss ≡ [] → StatementsAreReady (scope_in s) (bare_statements ss)
  statements_ready s no_statement own all named h = tt
  statements_ready s (statement t ss) own all named h =
      let halves = parts_none (broken_in_statement s t) _ h in
      (statement_ready s t own all named halves.0, statements_ready s ss own all named halves.1)

  arms_ready : (s : Setting) (before : List ℕ) (as_ : Arms) → AreKnown s.unit s.own → PartsAreKnown s.unit → PartsAreNamed s.unit → broken_in_arms s before as_ ≡ [] → AllArms s before as_
  arms_ready s before no_arm own all named h = record { small = tt; new = tt; ready = tt }
  arms_ready s before (arm label at ss rest) own all named h =
      let first = parts_none (broken_in_label before label at) _ h in
      let second = parts_none (broken_in_statements s ss) _ first.1 in
      let l = label_ready before label at first.0 in
      let r = arms_ready s (before ++ label ∷ []) rest own all named second.1 in
      record { small = (l.0, r.small); new = (l.1, r.new); ready = (statements_ready s ss own all named second.0, r.ready) }
