-- What the in-outs of a call are bound to, and the function block that it runs.
use Rattle.std.proofs.Common.{◌≡◌, ◌≢◌, ℕ, zero, suc, ◌+◌, ◌<◌, ◌≤◌, Bool, true, false, ◌&&◌, ◌||◌, List, [], ◌∷◌, ◌++◌, length, map, filter, Option, Some, None, refl, sym, ap, ap₂, ◌∙◌, subst, arith, inl, inr}
use Rattle.std.specs.Prelude.{slice_get, slice_range, not, unwrap_or, if◌then◌else◌}
use Rattle.std.specs.List.{list_any, list_all, Contains}
use Rattle.std.specs.Str.{bytes_eq}
use Rattle.std.proofs.lemmas.Bool.{and_parts}
use Rattle.std.proofs.lemmas.List.{length-map}
use Rattle.std.proofs.lemmas.Option.{same_Some}
use Rattle.plcx_types.specs.declared.ty.Ty.{Ty}
use Rattle.plcx_types.specs.declared.ty.Ty.TheVariants as ty
use Rattle.plcx_types.specs.Name.{in_lower_case}
use Rattle.plcx_types.specs.TypeName.{type_named, same_ty}
use Rattle.plcx_types.specs.Lists.{Each}
use Rattle.plcx_types.specs.Value.{Value}
use Rattle.plcx_types.proofs.TypeTable.{same_refl}
use Rattle.plcx_std.specs.declared.kind.StdKind.{StdKind}
use Rattle.plcx_std.specs.Kind.{kind_named}
use Rattle.plcx_std.specs.Pins.{Pin, pins}
use Rattle.plcx_meaning.specs.Base.{Path, Site, top}
use Rattle.plcx_meaning.specs.Tree.{Class, Local, Input, Output, InOut, Temp, Expression, Number, Name, Member, Apply, Not, Binary, Argument, PouText}
use Rattle.plcx_meaning.specs.Layout.{Variable, variables_of, variable_named, World, composed, parts_of, Scope, is_constant}
use Rattle.plcx_meaning.specs.Execute.{Referent, Kept, Bound, Temporary, Instance, referent_by, referent, referent_of, elementary, TextSetting, Formal, Takes, Binds, NoFormal, formal_by, formal, has_leaf, referent_in, leaf_at, leaf_in, binds, bind, formal_named, is_bound, all_bound, block_named, world_of, scope_of}
use Rattle.plcx_meaning.specs.Typed.{variable_in, part_in, can_bind}
use Rattle.plcx_meaning.specs.Ready.{TargetIsReady, BindingIsReady, ValueIsReady, CallIsReady, PouIsReady, IsReady}
use Rattle.plcx_meaning.proofs.Lists.{each_at, contains_cases, contains_none, contains_first, contains_later}
use Rattle.plcx_meaning.proofs.Lookups.{found_name}
use Rattle.plcx_meaning.proofs.Names.{bytes_same}
use Rattle.plcx_meaning.proofs.StuckBodies.{variable_place, block_has}
use Rattle.plcx_meaning.proofs.Units.{variable_there}
use Rattle.plcx_steps.specs.declared.program.Operand.{Operand}
use Rattle.plcx_steps.specs.declared.program.Operand.TheVariants.{Leaf}
use Rattle.plcx_steps.specs.declared.program.Operand.TheVariants as operand
use Rattle.plcx_steps.specs.Typed.{IsPlacedOf, IsOf}
use Rattle.plcx_meaning.specs.Evaluate.{is_in_out}
use Rattle.plcx_numbered.specs.Numbers.{places, depth, number_of, in_out_names}
use Rattle.plcx_numbered.specs.Numbers.{Place as Lying}
use Rattle.plcx_numbered.proofs.Leaves.{composed_standard, meant_by}
use Rattle.plcx_numbered.proofs.Numbers.{there_at}
use Rattle.plcx_numbered.proofs.Variables.{pins_places}
use Rattle.plcx_runnable.specs.Shapes.{in_out_type}
use Rattle.plcx_runnable.proofs.Lists.{mapped_at, mapped_from}
use Rattle.plcx_text_numbered.specs.Prepared.{Numbering, Place, Held, Stored, place_source}
use Rattle.plcx_text_numbered.specs.Right.{Plan, IsPlaceOf}
use Rattle.plcx_text_numbered.specs.Setting.{setting}
use Rattle.plcx_text_numbered.specs.Statements.{IsBoundTo}
use Rattle.plcx_text_numbered.specs.Numbers.{places_of, leaf_number, temporary_values, place_found, place_by, numbering, operand_at, operand_in, bound_operand, plan_of}
use Rattle.plcx_text_runnable.specs.Shapes.{types_of}
use Rattle.plcx_text_runnable.proofs.Instances.{IsUserBlock, composed_block, block_known, within_place, parts_found}
use Rattle.plcx_text_runnable.proofs.Places.{name_of, passed, passing_found, IsElementary, place_right, place_typed}

-- what a list has of all, one has
all_pass : {A : Type 0} (test : A → Bool) (xs : List A) (x : A) → list_all test xs ≡ true → Contains xs x → test x ≡ true
all_pass test [] x h there = absurd (contains_none x there)
all_pass test (y ∷ ys) x h there =
    let both = and_parts (test y) (list_all test ys) h in
    elim (contains_cases y ys x there) [ inl e ↦ subst (λ z. test z ≡ true) e both.0 | inr l ↦ all_pass test ys x both.1 l ]

-- ---- the instance that is called

pub record IsInstanceOf (o : Option Variable) (type : List ℕ) : Type 0 where
  pub variable : Variable
  pub found : o ≡ Some variable
  pub same : variable.ty ≡ type
  pub composite : type_named variable.ty ≡ None

not_instance : (class : Class) (t : Ty) (type : List ℕ) → elementary class t ≢ Instance type
not_instance Local t type e = cc
not_instance Input t type e = cc
not_instance Output t type e = cc
not_instance InOut t type e = cc
not_instance Temp t type e = cc

pub instance_of : (world : World) (o : Option Variable) (type : List ℕ) → referent world o ≡ Instance type → IsInstanceOf o type
instance_of world None type h = absurd (cc)
instance_of world (Some v) type h = by_type (type_named v.ty) refl h
  where
    by_type : (o : Option Ty) → type_named v.ty ≡ o → referent_by (meant_by world v.ty o) v.class v.ty ≡ Instance type → IsInstanceOf (Some v) type
    by_type (Some t) e k = absurd (not_instance v.class t type k)
    by_type None e k = let same : v.ty ≡ type = cc in record { variable = v; found = refl; same = same; composite = e }

-- ---- what may be bound

-- a class whose variables in-outs may stand for: they have a leaf of their own, or are in-outs
abbrev CanBind : Class → Type 0
CanBind Local = Unit {0}
CanBind Input = ⊥
CanBind Output = Unit {0}
CanBind InOut = Unit {0}
CanBind Temp = ⊥

class_binds : (v : Variable) → can_bind v ≡ true → CanBind v.class
class_binds v h = by_class v.class (is_constant v.mark) h
  where
    by_class : (class : Class) (b : Bool) → (elim class as (λ (c : Class). Bool) [ Local ↦ not b | Input ↦ false | Output ↦ not b | InOut ↦ not b | Temp ↦ false ]) ≡ true → CanBind class
    by_class Local b k = tt
    by_class Input b k = cc
    by_class Output b k = tt
    by_class InOut b k = tt
    by_class Temp b k = cc

class_leaf : (class : Class) (t : Ty) → CanBind class → has_leaf (elementary class t) t ≡ true
class_leaf Local t h = same_refl t
class_leaf Input t h = absurd h
class_leaf Output t h = same_refl t
class_leaf InOut t h = same_refl t
class_leaf Temp t h = absurd h

pub binding_leaf : (c : Scope) (site : Site) (e : Expression) (t : Ty) → BindingIsReady c e t → has_leaf (referent_in (setting c site) e) t ≡ true
binding_leaf c site (Name x) t h = ap (λ r. has_leaf r t) (variable_place c x t can_bind h) ∙ class_leaf h.variable.class t (class_binds h.variable h.passes)
binding_leaf c site (Number v) t h = absurd h
binding_leaf c site (Member i x) t h = absurd h
binding_leaf c site (Apply f es) t h = absurd h
binding_leaf c site (Not e) t h = absurd h
binding_leaf c site (Binary op a b) t h = absurd h

module _ (unit : List PouText) (p : PouText) (one : PouIsReady unit p) where
  abbrev c : Scope
  c = scope_of unit p

  abbrev num : Numbering
  num = numbering unit p

  abbrev vs : List Variable
  vs = variables_of p.blocks

  -- the operand of what is bound stands for its leaf
  operand_bound : (e : Expression) (t : Ty) → BindingIsReady c e t → IsBoundTo (plan_of unit p).plan (operand_in num e) (λ site. leaf_in (setting c site) e)
  operand_bound (Name x) t h = by_place h.variable.class (class_binds h.variable h.passes) (num.place x) refl (variable_place c x t can_bind h) (place_right unit p one x t its)
    where
      its : IsElementary (variable_named (in_lower_case x) vs) t
      its = record { variable = h.variable; found = h.found; typed = h.typed }

      At : Operand → Type 0
      At o = IsBoundTo (plan_of unit p).plan o (λ site. leaf_in (setting c site) (Name x))

      leaf_is : (r : Referent) → referent c.world (variable_in c x) ≡ r → (site : Site) → leaf_in (setting c site) (Name x) ≡ leaf_at r x site
      leaf_is r e site = ap (λ k. leaf_at k x site) e

      by_place : (class : Class) → CanBind class → (q : Place) → num.place x ≡ q → referent c.world (variable_in c x) ≡ elementary class t → IsPlaceOf (plan_of unit p).plan x (referent c.world (variable_in c x)) (num.place x) → At (operand_at (num.place x))
      by_place class own q e r there = subst (λ k. At (operand_at k)) (sym e) (stands class own q r (subst (IsPlaceOf (plan_of unit p).plan x (elementary class t)) e (subst (λ k. IsPlaceOf (plan_of unit p).plan x k (num.place x)) r there)))
        where
          stands : (class : Class) → CanBind class → (q : Place) → referent c.world (variable_in c x) ≡ elementary class t → IsPlaceOf (plan_of unit p).plan x (elementary class t) q → At (operand_at q)
          stands Local own (Held w) r k = absurd k
          stands Local own (Stored (operand.Leaf offset)) r k = (in_lower_case x, k, leaf_is (Kept t) r)
          stands Local own (Stored (operand.InOut j)) r k = absurd k
          stands Output own (Held w) r k = absurd k
          stands Output own (Stored (operand.Leaf offset)) r k = (in_lower_case x, k, leaf_is (Kept t) r)
          stands Output own (Stored (operand.InOut j)) r k = absurd k
          stands InOut own (Held w) r k = absurd k
          stands InOut own (Stored (operand.Leaf offset)) r k = absurd k
          stands InOut own (Stored (operand.InOut j)) r k = (in_lower_case x, k, leaf_is (Bound t) r)
          stands Input own q r k = absurd own
          stands Temp own q r k = absurd own
  operand_bound (Number v) t h = absurd h
  operand_bound (Member i x) t h = absurd h
  operand_bound (Apply f es) t h = absurd h
  operand_bound (Not e) t h = absurd h
  operand_bound (Binary op a b) t h = absurd h

  -- and has its type
  operand_typed : (e : Expression) (t : Ty) → BindingIsReady c e t → IsPlacedOf (types_of unit p) (operand_in num e) t
  operand_typed (Name x) t h =
      by_place h.variable.class (class_binds h.variable h.passes) (num.place x) refl (variable_place c x t can_bind h) (place_right unit p one x t its) (place_typed unit p one (temporary_values vs ++ []) [] refl x t its)
    where
      its : IsElementary (variable_named (in_lower_case x) vs) t
      its = record { variable = h.variable; found = h.found; typed = h.typed }

      wires : List Value
      wires = temporary_values vs ++ []

      Typed : Place → Type 0
      Typed q = IsOf (types_of unit p) wires (place_source q) t

      by_place : (class : Class) → CanBind class → (q : Place) → num.place x ≡ q → referent c.world (variable_in c x) ≡ elementary class t → IsPlaceOf (plan_of unit p).plan x (referent c.world (variable_in c x)) (num.place x) → Typed (num.place x)
          → IsPlacedOf (types_of unit p) (operand_at (num.place x)) t
      by_place class own q e r there typed =
          subst (λ k. IsPlacedOf (types_of unit p) (operand_at k) t) (sym e)
          (stands class own q (subst (IsPlaceOf (plan_of unit p).plan x (elementary class t)) e (subst (λ k. IsPlaceOf (plan_of unit p).plan x k (num.place x)) r there)) (subst Typed e typed))
        where
          stands : (class : Class) → CanBind class → (q : Place) → IsPlaceOf (plan_of unit p).plan x (elementary class t) q → Typed q → IsPlacedOf (types_of unit p) (operand_at q) t
          stands class own (Stored o) k h = h
          stands Local own (Held w) k h = absurd k
          stands Output own (Held w) k h = absurd k
          stands InOut own (Held w) k h = absurd k
          stands Input own (Held w) k h = absurd own
          stands Temp own (Held w) k h = absurd own
  operand_typed (Number v) t h = absurd h
  operand_typed (Member i x) t h = absurd h
  operand_typed (Apply f es) t h = absurd h
  operand_typed (Not e) t h = absurd h
  operand_typed (Binary op a b) t h = absurd h

  -- ---- the in-outs of a call

  module _ (i : List ℕ) (args : List Argument) (values : Each (λ (a : Argument). ValueIsReady c a.value (formal c.world (part_in c i a.formal))) args) where
    -- an in-out is bound to the value of the first argument of its name
    record IsArgument (rest : List Argument) (key : List ℕ) (t : Ty) : Type 0 where
      argument : Argument
      there : Contains rest argument
      ready : BindingIsReady c argument.value t
      operand_is : bound_operand num rest key ≡ operand_in num argument.value
      leaf_is : (site : Site) → bind rest (setting c site) i key ≡ leaf_in (setting c site) argument.value

    argument_of : (rest : List Argument) → ((a : Argument) → Contains rest a → Contains args a) → (key : List ℕ) (t : Ty) → formal c.world (variable_named key (parts_of c.world (variable_in c i))) ≡ Binds t
        → list_any (λ (a : Argument). bytes_eq (in_lower_case a.formal) key) rest ≡ true → IsArgument rest key t
    argument_of [] among key t f h = absurd (cc)
    argument_of (a ∷ rest) among key t f h = by_test (bytes_eq (in_lower_case a.formal) key) refl h (λ k. argument_of rest (λ b l. among b (contains_later a rest b l)) key t f k)
      where
        by_test : (b : Bool) → bytes_eq (in_lower_case a.formal) key ≡ b → (b || list_any (λ (r : Argument). bytes_eq (in_lower_case r.formal) key) rest) ≡ true
            → (list_any (λ (r : Argument). bytes_eq (in_lower_case r.formal) key) rest ≡ true → IsArgument rest key t) → IsArgument (a ∷ rest) key t
        by_test true e k later =
            let here = contains_first a rest in
            let f' : formal c.world (part_in c i a.formal) ≡ Binds t = ap (λ n. formal c.world (variable_named n (parts_of c.world (variable_in c i)))) (bytes_same (in_lower_case a.formal) key e) ∙ f in
            let v = each_at (λ (r : Argument). ValueIsReady c r.value (formal c.world (part_in c i r.formal))) args a values (among a here) in
            record {
              argument = a;
              there = here;
              ready = subst (ValueIsReady c a.value) f' v;
              operand_is = ap (λ b. if b then operand_in num a.value else bound_operand num rest key) e;
              leaf_is = λ site.
                  ap₂ (λ b d. if b && d then leaf_in (setting c site) a.value else bind rest (setting c site) i key) (ap binds f') e;
            }
        by_test false e k later =
            let l = later k in
            record {
              argument = l.argument;
              there = contains_later a rest l.argument l.there;
              ready = l.ready;
              operand_is = ap (λ b. if b then operand_in num a.value else bound_operand num rest key) e ∙ l.operand_is;
              leaf_is = λ site. (ap (λ d. if binds (formal_named (setting c site) i a.formal) && d then leaf_in (setting c site) a.value else bind rest (setting c site) i key) e ∙ passes (binds (formal_named (setting c site) i a.formal)) site ∙ l.leaf_is site);
            }
          where
            passes : (d : Bool) (site : Site) → (if d && false then leaf_in (setting c site) a.value else bind rest (setting c site) i key) ≡ bind rest (setting c site) i key
            passes true site = refl
            passes false site = refl

    -- each in-out of the function block
    module _ (all : all_bound args (parts_of c.world (variable_in c i)) ≡ true) (q : PouText) (its : PouIsReady unit q) (inside : parts_of c.world (variable_in c i) ≡ variables_of q.blocks) where
      abbrev us : List Variable
      us = variables_of q.blocks

      in_out_is : (w : Variable) → is_in_out (Some w) ≡ true → w.class ≡ InOut
      in_out_is w h = by_class w.class h
        where
          by_class : (k : Class) → elim k as (λ (x : Class). Bool) [ InOut ↦ true | _ ↦ false ] ≡ true → k ≡ InOut
          by_class Local k = absurd (cc)
          by_class Input k = absurd (cc)
          by_class Output k = absurd (cc)
          by_class InOut k = refl
          by_class Temp k = absurd (cc)

      -- an in-out has an elementary type
      in_out_typed : (w : Variable) → Contains us w → w.class ≡ InOut → (t : Ty) × (type_named w.ty ≡ Some t)
      in_out_typed w there h = by_type (type_named w.ty) refl
        where
          by_type : (o : Option Ty) → type_named w.ty ≡ o → (t : Ty) × (type_named w.ty ≡ Some t)
          by_type (Some t) e = (t, e)
          by_type None e = let s = ((each_at _ us w its.variables there).instance e).0 in let k : InOut ≡ Local = sym h ∙ s in absurd (cc)

      pub record IsBinding (j : ℕ) (key : List ℕ) : Type 0 where
        pub type : Ty
        pub in_out : slice_get (types_of unit q).in_outs j ≡ Some type
        pub typed : IsPlacedOf (types_of unit p) (bound_operand num args key) type
        pub bound : IsBoundTo (plan_of unit p).plan (bound_operand num args key) (λ site. bind args (setting c site) i key)

      pub binding_at : (j : ℕ) (key : List ℕ) → slice_get (in_out_names us) j ≡ Some key → IsBinding j key
      binding_at j key h =
          let w = passing_found (λ v. is_in_out (Some v)) us its.distinct j key h in
          let there = variable_there key us w.0 w.2 in
          let passes = passing_of (λ v. is_in_out (Some v)) us j w.0 w.1 in
          let class = in_out_is w.0 passes in
          let t = in_out_typed w.0 there class in
          let f : formal c.world (variable_named key (parts_of c.world (variable_in c i))) ≡ Binds t.0 =
          ap (λ ws. formal c.world (variable_named key ws)) inside ∙ ap (formal c.world) w.2 ∙ ap₂ (λ m k. formal_by (meant_by c.world w.0.ty m) k) t.1 class in
          let listed : list_any (λ (a : Argument). bytes_eq (in_lower_case a.formal) key) args ≡ true =
          ap (λ n. list_any (λ (a : Argument). bytes_eq (in_lower_case a.formal) n) args) (sym (found_name key us w.0 w.2))
          ∙ sym (ap (λ (k : Class). elim k as (λ (x : Class). Bool) [ InOut ↦ list_any (λ (a : Argument). bytes_eq (in_lower_case a.formal) (in_lower_case w.0.name)) args | _ ↦ true ]) class)
          ∙ all_pass (is_bound args) us w.0 (ap (all_bound args) (sym inside) ∙ all) there in
          let a = argument_of args (λ b l. l) key t.0 f listed in
          record {
            type = t.0;
            in_out = mapped_at in_out_type (filter (λ v. is_in_out (Some v)) us) j w.0 w.1 ∙ ap (λ o. Some (unwrap_or o ty.Bool)) t.1;
            typed = subst (λ o. IsPlacedOf (types_of unit p) o t.0) (sym a.operand_is) (operand_typed a.argument.value t.0 a.ready);
            bound = bound_from (bound_operand num args key) (operand_in num a.argument.value) a.operand_is (λ site. bind args (setting c site) i key) (λ site. leaf_in (setting c site) a.argument.value) a.leaf_is (operand_bound a.argument.value t.0 a.ready);
          }
        where
          passing_of : (f : Variable → Bool) (ws : List Variable) (k : ℕ) (v : Variable) → slice_get (filter f ws) k ≡ Some v → f v ≡ true
          passing_of f [] k v h = absurd (cc)
          passing_of f (w ∷ ws) k v h = by_test (f w) refl k h (λ m l. passing_of f ws m v l)
            where
              by_test : (b : Bool) → f w ≡ b → (m : ℕ) → slice_get (if b then w ∷ filter f ws else filter f ws) m ≡ Some v → ((n : ℕ) → slice_get (filter f ws) n ≡ Some v → f v ≡ true) → f v ≡ true
              by_test true e zero l rest = ap f (sym (same_Some w v l)) ∙ e
              by_test true e (suc m) l rest = rest m l
              by_test false e m l rest = rest m l

          bound_from : (o r : Operand) → o ≡ r → (f g : Site → Path) → ((site : Site) → f site ≡ g site) → IsBoundTo (plan_of unit p).plan r g → IsBoundTo (plan_of unit p).plan o f
          bound_from o r e f g same h = subst (λ k. IsBoundTo (plan_of unit p).plan k f) (sym e) (by r h)
            where
              by : (k : Operand) → IsBoundTo (plan_of unit p).plan k g → IsBoundTo (plan_of unit p).plan k f
              by (operand.Leaf offset) b = (b.0, b.1, λ site. same site ∙ b.2 site)
              by (operand.InOut m) b = (b.0, b.1, λ site. same site ∙ b.2 site)
