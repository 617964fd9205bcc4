-- The types of expressions by those of their parts, and which parts have values.
use Rattle.std.proofs.Common.{◌≡◌, ℕ, ◌+◌, Bor, List, [], ◌∷◌, map, Option, Some, None, refl, sym, ap, ap₂, ◌∙◌}
use Rattle.std.specs.Option.{option_map, option_and_then, option_copied}
use Rattle.std.specs.Prelude.{slice_get}
use Rattle.std.proofs.lemmas.Option.{slice_get-map}
use Rattle.plcx_types.specs.declared.ty.Ty.{Ty}
use Rattle.plcx_types.specs.Lists.{Each}
use Rattle.plcx_funcs.specs.declared.func.Func.{Func}
use Rattle.plcx_funcs.specs.declared.func.Func.TheVariants as func
use Rattle.plcx_funcs.specs.Names.{function_named}
use Rattle.plcx_meaning.specs.Tree.{Operator, Expression, Apply, Not, Binary, Expressions, no_expression, expression, expressions}
use Rattle.plcx_meaning.specs.Layout.{Scope}
use Rattle.plcx_meaning.specs.Functions.{group_index}
use Rattle.plcx_meaning.specs.Execute.{function_of}
use Rattle.plcx_meaning.specs.Typed.{result_type, call_type, expression_type, expression_types, AreInRange}
use Rattle.plcx_meaning.proofs.Stuck.{and_then_some}
use Rattle.plcx_steps.specs.declared.program.Argument.{Argument}
use Rattle.plcx_text_numbered.specs.Prepared.{Numbering, or_bool, wires_of, argument, inputs, group}
use Rattle.plcx_text_lines.specs.Added.{HasValue}

-- ---- the type of a group
abbrev type_in : Argument → Ty
type_in a = a.ty

pub group_is : (f : Func) (inputs : List Argument) (r : Option (Bor Argument)) (a : Bor Argument) → option_copied r ≡ slice_get inputs (group_index f) → r ≡ Some a → a.now.ty ≡ group f inputs
group_is f inputs r a is some = sym (ap or_bool (slice_get-map type_in inputs (group_index f) ∙ ap (option_map type_in) (sym is ∙ ap option_copied some)))

pub no_group : (f : Func) (inputs : List Argument) (r : Option (Bor Argument)) → option_copied r ≡ slice_get inputs (group_index f) → r ≡ None → or_bool None ≡ group f inputs
no_group f inputs r is none = sym (ap or_bool (slice_get-map type_in inputs (group_index f) ∙ ap (option_map type_in) (sym is ∙ ap option_copied none)))

-- ---- parts that have values
mapped_some : {A B : Type 0} (f : A → B) (o : Option A) (y : B) → option_map f o ≡ Some y → (x : A) × (o ≡ Some x) × (f x ≡ y)
mapped_some f None y h = absurd (cc)
mapped_some f (Some x) y h = (x, refl, cc)

pub of_not : (c : Scope) (e : Expression) → HasValue c (Not e) → HasValue c e
of_not c e h = let r = and_then_some _ (expression_type c e) h.0 h.1.typed in (r.0, record { typed = r.1; range = h.1.range })

pub of_left : (c : Scope) (op : Operator) (a b : Expression) → HasValue c (Binary op a b) → HasValue c a
of_left c op a b h = let r = and_then_some _ (expression_type c a) h.0 h.1.typed in (r.0, record { typed = r.1; range = h.1.range.0 })

pub of_right : (c : Scope) (op : Operator) (a b : Expression) → HasValue c (Binary op a b) → HasValue c b
of_right c op a b h =
    let r = and_then_some _ (expression_type c a) h.0 h.1.typed in
    let s = and_then_some _ (expression_type c b) h.0 r.2 in
    (s.0, record { typed = s.1; range = h.1.range.1 })

each_value : (c : Scope) (es : List Expression) (types : List Ty) → expression_types c (expressions es) ≡ Some types → AreInRange (expressions es) → Each (HasValue c) es
each_value c [] types h range = tt
each_value c (e ∷ es) types h range =
    let r = and_then_some _ (expression_type c e) types h in
    let s = mapped_some _ (expression_types c (expressions es)) types r.2 in
    ((r.0, record { typed = r.1; range = range.0 }), each_value c es s.0 s.1 range.1)

pub of_args : (c : Scope) (x : List ℕ) (es : List Expression) → HasValue c (Apply x (expressions es)) → Each (HasValue c) es
of_args c x es h = let r = and_then_some _ (expression_types c (expressions es)) h.0 h.1.typed in each_value c es r.0 r.1 h.1.range

-- ---- their types
argument_type : (c : Numbering) (w : ℕ) (e : Expression) (t : Ty) → expression_type c.scope e ≡ Some t → (argument c w e).ty ≡ t
argument_type c w e t typed = ap or_bool typed

pub not_type : (c : Numbering) (w : ℕ) (e : Expression) → HasValue c.scope (Not e) → or_bool (expression_type c.scope (Not e)) ≡ or_bool (result_type func.Not ((argument c w e).ty ∷ []))
not_type c w e h =
    let r = and_then_some _ (expression_type c.scope e) h.0 h.1.typed in
    ap (λ o. or_bool (option_and_then (λ t. result_type func.Not (t ∷ [])) o)) r.1 ∙ ap (λ t. or_bool (result_type func.Not (t ∷ []))) (sym (argument_type c w e r.0 r.1))

pub binary_type : (c : Numbering) (w v : ℕ) (op : Operator) (a b : Expression) → HasValue c.scope (Binary op a b)
    → or_bool (expression_type c.scope (Binary op a b)) ≡ or_bool (result_type (function_of op) ((argument c w a).ty ∷ (argument c v b).ty ∷ []))
binary_type c w v op a b h =
    let r = and_then_some _ (expression_type c.scope a) h.0 h.1.typed in
    let s = and_then_some _ (expression_type c.scope b) h.0 r.2 in
    ap₂ (λ o p. or_bool (option_and_then (λ t. option_and_then (λ u. result_type (function_of op) (t ∷ u ∷ [])) p) o)) r.1 s.1
    ∙ ap₂ (λ t u. or_bool (result_type (function_of op) (t ∷ u ∷ []))) (sym (argument_type c w a r.0 r.1)) (sym (argument_type c v b s.0 s.1))

input_types : (c : Numbering) (w : ℕ) (es : Expressions) (types : List Ty) → expression_types c.scope es ≡ Some types → map type_in (inputs c w es) ≡ types
input_types c w no_expression types h = cc
input_types c w (expression e es) types h =
    let r = and_then_some _ (expression_type c.scope e) types h in
    let s = mapped_some _ (expression_types c.scope es) types r.2 in
    ap₂ (λ t ts. t ∷ ts) (argument_type c w e r.0 r.1) (input_types c (w + wires_of e) es s.0 s.1) ∙ s.2

pub apply_type : (c : Numbering) (w : ℕ) (x : List ℕ) (es : Expressions) → HasValue c.scope (Apply x es)
    → or_bool (expression_type c.scope (Apply x es)) ≡ or_bool (call_type (function_named x) (map type_in (inputs c w es)))
apply_type c w x es h =
    let r = and_then_some _ (expression_types c.scope es) h.0 h.1.typed in
    ap (λ o. or_bool (option_and_then (call_type (function_named x)) o)) r.1 ∙ ap (λ ts. or_bool (call_type (function_named x) ts)) (sym (input_types c w es r.0 r.1))
