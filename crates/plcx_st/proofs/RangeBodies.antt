-- What is ready is in range where each variable's name is a word.
use Rattle.std.proofs.Common.{◌≡◌, ℕ, zero, suc, Bool, true, false, List, [], ◌∷◌, refl, sym, ap, ◌∙◌}
use Rattle.std.specs.Prelude.{Option, Some, None, slice_get, if◌then◌else◌}
use Rattle.std.specs.Option.{option_map, option_and_then}
use Rattle.plcx_types.specs.declared.ty.Ty.{Ty}
use Rattle.plcx_types.specs.declared.ty.Ty.TheVariants as ty
use Rattle.plcx_types.specs.Name.{in_lower_case}
use Rattle.plcx_types.specs.TypeName.{type_named}
use Rattle.plcx_funcs.specs.declared.func.Func.{Func}
use Rattle.plcx_funcs.specs.declared.func.Func.TheVariants as func
use Rattle.plcx_funcs.specs.Names.{function_named}
use Rattle.plcx_types.specs.Lists.{Each}
use Rattle.plcx_meaning.specs.Tree.{Expression, Number, Name, Member, Apply, Not, Binary, Expressions, no_expression, expression, Argument, Statement, Assign, Call, If, While, Case, Statements, no_statement, statement, Arms, no_arm, arm, statements}
use Rattle.plcx_meaning.specs.Layout.{Variable, variable_named, Elementary, Composed, composed, parts, parts_of, Scope}
use Rattle.plcx_meaning.specs.Functions.{group_of, group_index}
use Rattle.plcx_meaning.specs.Execute.{Instance, referent, Formal, Takes, Binds, NoFormal, formal, function_of}
use Rattle.plcx_meaning.specs.Typed.{variable_in, part_in, referent_type, member_type, is_operator, type_at, result_type, call_type, expression_type, expression_types, IsInRange, AreInRange}
use Rattle.plcx_meaning.specs.Ready.{BindingIsReady, ValueIsReady, labels, IsLabel, StatementIsReady, StatementsAreReady, ArmsAreReady}
use Rattle.plcx_meaning.proofs.Lists.{each_weaker}
use Rattle.plcx_meaning.proofs.Lookups.{found_name, each_found}
use Rattle.plcx_st.specs.InRange.{IsWord, HasAny, ExpressionInRange, ExpressionsInRange, ArgumentInRange, StatementInRange, StatementsInRange, ArmsInRange}
use Rattle.plcx_st.specs.Fitting.{ExpressionFits, ExpressionsFit, ArgumentFits, StatementFits, StatementsFit, ArmsFit}
use Rattle.plcx_st.proofs.Words.{word_same}
use Rattle.plcx_st.proofs.FunctionWords.{function_word}

abbrev pub HasWord : Variable → Type 0
HasWord v = IsWord v.name

-- the name that a variable is found by
pub found_word : (x : List ℕ) (vs : List Variable) (v : Variable) → Each HasWord vs → variable_named (in_lower_case x) vs ≡ Some v → IsWord x
found_word x vs v all h = word_same x v.name (sym (found_name (in_lower_case x) vs v h)) (each_found HasWord (in_lower_case x) vs v all h)

-- what is behind something
and_then_some : {A B : Type 0} (o : Option A) (f : A → Option B) (y : B) → option_and_then f o ≡ Some y → (x : A) × (o ≡ Some x) × (f x ≡ Some y)
and_then_some None f y h = absurd (cc)
and_then_some (Some x) f y h = (x, refl, h)

mapped_some : {A B : Type 0} (o : Option A) (f : A → B) (y : B) → option_map f o ≡ Some y → (x : A) × (o ≡ Some x)
mapped_some None f y h = absurd (cc)
mapped_some (Some x) f y h = (x, refl)

-- a call of no inputs has no type
no_group : (n : ℕ) → slice_get {X = Ty} [] n ≡ None
no_group zero = refl
no_group (suc n) = refl

mutual
  number_fits : (e : Expression) → IsInRange e → ExpressionFits e
  number_fits (Number v) h = h
  number_fits (Name x) h = tt
  number_fits (Member i x) h = tt
  number_fits (Apply f es) h = numbers_fit es h
  number_fits (Not e) h = number_fits e h
  number_fits (Binary op a b) h = (number_fits a h.0, number_fits b h.1)

  numbers_fit : (es : Expressions) → AreInRange es → ExpressionsFit es
  numbers_fit no_expression h = tt
  numbers_fit (expression e es) h = (number_fits e h.0, numbers_fit es h.1)

module _ (c : Scope) (own : Each HasWord c.own) (types : (type : List ℕ) → Each HasWord (composed c.world type)) where
  parts_words : (o : Option Variable) → Each HasWord (parts_of c.world o)
  parts_words None = tt
  parts_words (Some v) = by (type_named v.ty)
    where
      by : (o : Option Ty) → Each HasWord (parts (elim o [ Some t ↦ Elementary t | None ↦ Composed (composed c.world v.ty) ]))
      by (Some t) = tt
      by None = types v.ty

  part_words : (i x : List ℕ) (w : Variable) → part_in c i x ≡ Some w → IsWord i × IsWord x
  part_words i x w h = by (variable_in c i) refl h
    where
      by : (o : Option Variable) → variable_in c i ≡ o → variable_named (in_lower_case x) (parts_of c.world o) ≡ Some w → IsWord i × IsWord x
      by None e k = absurd (cc)
      by (Some v) e k = (found_word i c.own v own e, found_word x (parts_of c.world (Some v)) w (parts_words (Some v)) k)

  place_word : (x : List ℕ) (t : Ty) → referent_type (referent c.world (variable_in c x)) ≡ Some t → IsWord x
  place_word x t h = by (variable_in c x) refl h
    where
      by : (o : Option Variable) → variable_in c x ≡ o → referent_type (referent c.world o) ≡ Some t → IsWord x
      by None e k = absurd (cc)
      by (Some v) e k = found_word x c.own v own e

  member_words : (i x : List ℕ) (t : Ty) → member_type c.world (part_in c i x) ≡ Some t → IsWord i × IsWord x
  member_words i x t h = by (part_in c i x) refl h
    where
      by : (o : Option Variable) → part_in c i x ≡ o → member_type c.world o ≡ Some t → IsWord i × IsWord x
      by None e k = absurd (cc)
      by (Some w) e k = part_words i x w e

  instance_word : (i type : List ℕ) → referent c.world (variable_in c i) ≡ Instance type → IsWord i
  instance_word i type h = by (variable_in c i) refl h
    where
      by : (o : Option Variable) → variable_in c i ≡ o → referent c.world o ≡ Instance type → IsWord i
      by None e k = absurd (cc)
      by (Some v) e k = found_word i c.own v own e

  -- a function that is called by its name, and its inputs
  call_by : (f : List ℕ) (types : List Ty) (t : Ty) → call_type (function_named f) types ≡ Some t → IsWord f × ((g : Func) × (u : Ty) × (group_of g types ≡ Some u))
  call_by f types t h = by (function_named f) refl h
    where
      by_operator : (g : Func) (b : Bool) → function_named f ≡ Some g → is_operator g ≡ b → (if b then None else result_type g types) ≡ Some t → IsWord f × ((g : Func) × (u : Ty) × (group_of g types ≡ Some u))
      by_operator g true e plain k = absurd (cc)
      by_operator g false e plain k = let group = and_then_some (group_of g types) (type_at g types) t k in (function_word f g e plain, (g, group.0, group.1))

      by : (o : Option Func) → function_named f ≡ o → call_type o types ≡ Some t → IsWord f × ((g : Func) × (u : Ty) × (group_of g types ≡ Some u))
      by None e k = absurd (cc)
      by (Some g) e k = by_operator g (is_operator g) e refl k

  has_any : (es : Expressions) (types : List Ty) (g : Func) (u : Ty) → expression_types c es ≡ Some types → group_of g types ≡ Some u → HasAny es
  has_any (expression e es) types g u h k = tt
  has_any no_expression types g u h k =
      let none : types ≡ [] = sym (ap (λ (o : Option (List Ty)). elim o [ Some ts ↦ ts | None ↦ [] ]) h) in
      let no : None ≡ Some u = sym (no_group (group_index g)) ∙ ap (group_of g) (sym none) ∙ k in
      absurd (cc)

  mutual
    expression_range : (e : Expression) (t : Ty) → expression_type c e ≡ Some t → ExpressionInRange e
    expression_range (Number v) t h = tt
    expression_range (Name x) t h = place_word x t h
    expression_range (Member i x) t h = member_words i x t h
    expression_range (Apply f es) t h =
        let inputs = and_then_some (expression_types c es) (call_type (function_named f)) t h in
        let call = call_by f inputs.0 t inputs.2 in
        (call.0, has_any es inputs.0 call.1.0 call.1.1 inputs.1 call.1.2, expressions_range es inputs.0 inputs.1)
    expression_range (Not e) t h = let of = and_then_some (expression_type c e) (λ u. result_type func.Not (u ∷ [])) t h in expression_range e of.0 of.1
    expression_range (Binary op a b) t h =
        let left = and_then_some (expression_type c a) (λ u. option_and_then (λ w. result_type (function_of op) (u ∷ w ∷ [])) (expression_type c b)) t h in
        let right = and_then_some (expression_type c b) (λ w. result_type (function_of op) (left.0 ∷ w ∷ [])) t left.2 in
        (expression_range a left.0 left.1, expression_range b right.0 right.1)

    expressions_range : (es : Expressions) (types : List Ty) → expression_types c es ≡ Some types → ExpressionsInRange es
    expressions_range no_expression types h = tt
    expressions_range (expression e es) types h =
        let first = and_then_some (expression_type c e) (λ u. option_map (λ (us : List Ty). u ∷ us) (expression_types c es)) types h in
        let others = mapped_some (expression_types c es) (λ (us : List Ty). first.0 ∷ us) types first.2 in
        (expression_range e first.0 first.1, expressions_range es others.0 others.1)

  binding_range : (e : Expression) (t : Ty) → BindingIsReady c e t → ExpressionInRange e × ExpressionFits e
  binding_range (Name x) t h = (found_word x c.own h.variable own h.found, tt)
  binding_range (Number v) t h = absurd h
  binding_range (Member i x) t h = absurd h
  binding_range (Apply f es) t h = absurd h
  binding_range (Not e) t h = absurd h
  binding_range (Binary op a b) t h = absurd h

  value_range : (e : Expression) (q : Formal) → ValueIsReady c e q → ExpressionInRange e × ExpressionFits e
  value_range e (Takes t) h = (expression_range e t h.typed, number_fits e h.range)
  value_range e (Binds t) h = binding_range e t h
  value_range e NoFormal h = absurd h

  argument_range : (i : List ℕ) (a : Argument) → ValueIsReady c a.value (formal c.world (part_in c i a.formal)) → ArgumentInRange a × ArgumentFits a
  argument_range i a h = by (part_in c i a.formal) refl h
    where
      by : (o : Option Variable) → part_in c i a.formal ≡ o → ValueIsReady c a.value (formal c.world o) → ArgumentInRange a × ArgumentFits a
      by None e k = absurd k
      by (Some w) e k = let value = value_range a.value (formal c.world (Some w)) k in (((part_words i a.formal w e).1, value.0), value.1)

  mutual
    statement_range : (s : Statement) → StatementIsReady c s → StatementInRange s × StatementFits s
    statement_range (Assign x e) h = ((found_word x c.own h.1.variable own h.1.found, expression_range e h.0 h.2.typed), number_fits e h.2.range)
    statement_range (Call i args) h = (
      (instance_word i h.type h.instance, each_weaker _ ArgumentInRange args (λ a ready. (argument_range i a ready).0) h.values),
      each_weaker _ ArgumentFits args (λ a ready. (argument_range i a ready).1) h.values,
    )
    statement_range (If e body) h = let inner = statements_range body h.1 in ((expression_range e ty.Bool h.0.typed, inner.0), (number_fits e h.0.range, inner.1))
    statement_range (While e body) h = let inner = statements_range body h.1 in ((expression_range e ty.Bool h.0.typed, inner.0), (number_fits e h.0.range, inner.1))
    statement_range (Case e arms) h = let inner = arms_range arms h.1 h.3 in ((expression_range e ty.Dint h.0.typed, inner.0), (number_fits e h.0.range, inner.1))

    statements_range : (ss : Statements) → StatementsAreReady c ss → StatementsInRange ss × StatementsFit ss
    statements_range no_statement h = (tt, tt)
    statements_range (statement s ss) h = let first = statement_range s h.0 in let rest = statements_range ss h.1 in ((first.0, rest.0), (first.1, rest.1))

    arms_range : (as_ : Arms) → Each IsLabel (labels as_) → ArmsAreReady c as_ → ArmsInRange as_ × ArmsFit as_
    arms_range no_arm l h = (tt, tt)
    arms_range (arm n body rest) l h = let inner = statements_range body h.0 in let others = arms_range rest l.1 h.1 in ((inner.0, others.0), (l.0, inner.1, others.1))

  pub body_range : (ss : List Statement) → Each (StatementIsReady c) ss → StatementsInRange (statements ss) × StatementsFit (statements ss)
  body_range [] h = (tt, tt)
  body_range (s ∷ ss) h = let first = statement_range s h.0 in let rest = body_range ss h.1 in ((first.0, rest.0), (first.1, rest.1))
