-- What expressions add, by what their parts add.
use Rattle.std.proofs.Common.{◌≡◌, ℕ, zero, suc, ◌+◌, ◌<◌, ◌≤◌, List, [], ◌∷◌, ◌++◌, length, map, Option, Some, refl, sym, ap, ap₂, ◌∙◌, subst, append_assoc, drop, get_or, arith}
use Rattle.std.proofs.lemmas.List.{append-nil, at_drop_more, at_drop_all}
use Rattle.plcx_types.specs.declared.ty.Ty.{Ty}
use Rattle.plcx_types.specs.Lists.{Each}
use Rattle.plcx_funcs.specs.declared.func.Func.{Func}
use Rattle.plcx_funcs.specs.declared.func.Func.TheVariants as func
use Rattle.plcx_funcs.specs.Names.{function_named}
use Rattle.plcx_meaning.specs.Tree.{Operator, Expression, Apply, Not, Binary, expressions}
use Rattle.plcx_meaning.specs.Execute.{function_of}
use Rattle.plcx_meaning.specs.Typed.{result_type, call_type, expression_type}
use Rattle.plcx_st.specs.declared.tree.Expr.{Expr}
use Rattle.plcx_st.specs.Meant.{expr_meant}
use Rattle.plcx_steps.specs.declared.program.Argument.{Argument}
use Rattle.plcx_steps.specs.declared.program.Source.TheVariants.{Wire}
use Rattle.plcx_text_numbered.specs.Prepared.{Numbering, or_bool, wires_of, all_wires, argument, inputs}
use Rattle.plcx_text_pieces.specs.Pieces.{Piece, Start, joined, after, value_piece, values_piece, applied_piece}
use Rattle.plcx_text_pieces.proofs.Values.{wires_count, all_wires_count, first_of_values, first_of_inputs, apply_piece, not_piece, binary_piece}
use Rattle.plcx_text_lines.specs.declared.emitting.Prepared.{Prepared}
use Rattle.plcx_text_lines.specs.Added.{start_of, Adds, HasValue, Brings, BringsAll}
use Rattle.plcx_text_lines.proofs.Adding.{adds_nothing, adds_then, start_then, adds_same}
use Rattle.plcx_text_lines.proofs.Types.{not_type, binary_type, apply_type}

abbrev of_wire : Ty → ℕ → Argument
of_wire t w = record { ty = t; source = Wire w }

-- a call of these inputs behind a piece
applied_then : (p : Piece) (before given behind : Prepared) (f : Option Func) (own : List Argument) (t u : Ty) → Adds p before given → t ≡ u → Adds (applied_piece (start_of given) f own t) given behind
    → Adds (joined p (applied_piece (after (start_of before) p) f own u)) before behind
applied_then p before given behind f own t u first same then_ =
    adds_then p _ before given behind first
    (subst (λ (s : Start). Adds (applied_piece s f own u) given behind) (start_then p before given first) (subst (λ (v : Ty). Adds (applied_piece (start_of given) f own v) given behind) same then_))

-- the wire of the call
wires_then : (p : Piece) (before given : Prepared) → Adds p before given → length given.wires.items ≡ (after (start_of before) p).wires
wires_then p before given first = ap (λ (s : Start). s.wires) (start_then p before given first)

pub brings_not : (c : Numbering) (e : Expression) (before given behind : Prepared) (x a : Argument) → HasValue c.scope (Not e) → Brings c e before given x
    → Adds (applied_piece (start_of given) (Some func.Not) (x ∷ []) (or_bool (result_type func.Not (x.ty ∷ [])))) given behind
    → a ≡ of_wire (or_bool (result_type func.Not (x.ty ∷ []))) (length given.wires.items) → Brings c (Not e) before behind a
brings_not c e before given behind x a has first then_ is =
    let w = length before.wires.items in
    let p = value_piece c (start_of before) e in
    let typed : or_bool (result_type func.Not (x.ty ∷ [])) ≡ or_bool (expression_type c.scope (Not e)) = ap (λ (y : Argument). or_bool (result_type func.Not (y.ty ∷ []))) first.value ∙ sym (not_type c w e has) in
    record {
      added = adds_same _ _ before behind (sym (not_piece c (start_of before) e))
          (applied_then p before given behind (Some func.Not) (argument c w e ∷ []) _ _ first.added typed
          (subst (λ (y : Argument). Adds (applied_piece (start_of given) (Some func.Not) (y ∷ []) (or_bool (result_type func.Not (x.ty ∷ [])))) given behind) first.value then_));
      value = is ∙ ap₂ of_wire typed (wires_then p before given first.added ∙ ap (λ n. (start_of before).wires + n) (wires_count c e));
    }

pub brings_binary : (c : Numbering) (op : Operator) (e f : Expression) (before given more behind : Prepared) (x y a : Argument) → HasValue c.scope (Binary op e f) → Brings c e before given x → Brings c f given more y
    → Adds (applied_piece (start_of more) (Some (function_of op)) (x ∷ y ∷ []) (or_bool (result_type (function_of op) (x.ty ∷ y.ty ∷ [])))) more behind
    → a ≡ of_wire (or_bool (result_type (function_of op) (x.ty ∷ y.ty ∷ []))) (length more.wires.items) → Brings c (Binary op e f) before behind a
brings_binary c op e f before given more behind x y a has first second then_ is =
    let s = start_of before in
    let p = value_piece c s e in
    let q = value_piece c (after s p) f in
    let at = start_then p before given first.added in
    let here : Adds q given more = subst (λ (t : Start). Adds (value_piece c t f) given more) at second.added in
    let right : y ≡ argument c (after s p).wires f = second.value ∙ ap (λ (t : Start). argument c t.wires f) at in
    let typed : or_bool (result_type (function_of op) (x.ty ∷ y.ty ∷ [])) ≡ or_bool (expression_type c.scope (Binary op e f)) =
    ap₂ (λ (u v : Argument). or_bool (result_type (function_of op) (u.ty ∷ v.ty ∷ []))) first.value right ∙ sym (binary_type c s.wires (after s p).wires op e f has) in
    let both : Adds (joined p q) before more = adds_then p q before given more first.added here in
    let given_is = ap₂ (λ (u v : Argument). u ∷ v ∷ []) first.value right in
    let last : Adds (applied_piece (after (after s p) q) (Some (function_of op)) (argument c s.wires e ∷ argument c (after s p).wires f ∷ []) (or_bool (expression_type c.scope (Binary op e f)))) more behind =
    subst (λ (t : Start). Adds (applied_piece t (Some (function_of op)) (argument c s.wires e ∷ argument c (after s p).wires f ∷ []) (or_bool (expression_type c.scope (Binary op e f)))) more behind)
    (start_then q given more here ∙ ap (λ (t : Start). after t q) at)
    (subst (λ (u : Ty). Adds (applied_piece (start_of more) (Some (function_of op)) (argument c s.wires e ∷ argument c (after s p).wires f ∷ []) u) more behind) typed
    (subst (λ (us : List Argument). Adds (applied_piece (start_of more) (Some (function_of op)) us (or_bool (result_type (function_of op) (x.ty ∷ y.ty ∷ [])))) more behind) given_is then_)) in
    record {
      added = adds_same _ _ before behind (sym (binary_piece c s op e f)) (adds_then p _ before given behind first.added (adds_then q _ given more behind here last));
      value = is ∙ ap₂ of_wire typed
          (wires_then q given more here ∙ ap (λ (t : Start). (after t q).wires) at ∙ ap₂ (λ m n. s.wires + m + n) (wires_count c e) (wires_count c f)
          ∙ (let sum : s.wires + wires_of e + wires_of f ≡ s.wires + (wires_of e + wires_of f) = omega arith in sum));
    }

pub brings_call : (c : Numbering) (x : List ℕ) (es : List Expression) (before given behind : Prepared) (own : List Argument) (a : Argument) → HasValue c.scope (Apply x (expressions es)) → BringsAll c es before given own
    → Adds (applied_piece (start_of given) (function_named x) own (or_bool (call_type (function_named x) (map (λ (y : Argument). y.ty) own)))) given behind
    → a ≡ of_wire (or_bool (call_type (function_named x) (map (λ (y : Argument). y.ty) own))) (length given.wires.items) → Brings c (Apply x (expressions es)) before behind a
brings_call c x es before given behind own a has first then_ is =
    let w = length before.wires.items in
    let p = values_piece c (start_of before) (expressions es) in
    let typed : or_bool (call_type (function_named x) (map (λ (y : Argument). y.ty) own)) ≡ or_bool (expression_type c.scope (Apply x (expressions es))) =
    ap (λ (us : List Argument). or_bool (call_type (function_named x) (map (λ (y : Argument). y.ty) us))) first.values ∙ sym (apply_type c w x (expressions es) has) in
    record {
      added = adds_same _ _ before behind (sym (apply_piece c (start_of before) x (expressions es)))
          (applied_then p before given behind (function_named x) (inputs c w (expressions es)) _ _ first.added typed
          (subst (λ (us : List Argument). Adds (applied_piece (start_of given) (function_named x) us (or_bool (call_type (function_named x) (map (λ (y : Argument). y.ty) own)))) given behind) first.values then_));
      value = is ∙ ap₂ of_wire typed (wires_then p before given first.added ∙ ap (λ n. (start_of before).wires + n) (all_wires_count c (expressions es)));
    }

-- ---- several expressions

pub brings_none : (c : Numbering) (before : Prepared) → BringsAll c [] before before []
brings_none c before = record { added = adds_nothing before; values = refl }

pub brings_next : (c : Numbering) (e : Expression) (es : List Expression) (before next behind : Prepared) (x : Argument) (more : List Argument) → Brings c e before next x → BringsAll c es next behind more
    → BringsAll c (e ∷ es) before behind (x ∷ more)
brings_next c e es before next behind x more first rest =
    let s = start_of before in
    let p = value_piece c s e in
    let at = start_then p before next first.added in
    record {
      added = adds_same _ _ before behind (sym (first_of_values c s e (expressions es)))
          (adds_then p _ before next behind first.added (subst (λ (t : Start). Adds (values_piece c t (expressions es)) next behind) at rest.added));
      values = ap₂ (λ (u : Argument) (us : List Argument). u ∷ us) first.value (rest.values ∙ ap (λ (t : Start). inputs c t.wires (expressions es)) at)
          ∙ sym (first_of_inputs c s.wires s e (expressions es) refl);
    }

-- ---- loops

-- the rest of a list from a place on
pub rest_more : {X Y : Type 0} (f : X → Y) (xs : List X) (i : ℕ) (x : X) → i < length xs → x ≡ get_or xs i x → map f (drop i xs) ≡ f x ∷ map f (drop (i + 1) xs)
rest_more f xs i x less is = at_drop_more (map f) xs i x less ∙ ap (λ y. f y ∷ map f (drop (i + 1) xs)) (sym is)

pub rest_none : {X Y : Type 0} (f : X → Y) (xs : List X) (i : ℕ) → length xs ≤ i → map f (drop i xs) ≡ []
rest_none f xs i more = at_drop_all (map f) xs i more

-- what holds of each is held of one
pub each_of : {X Y : Type 0} (P : Y → Type 0) (f : X → Y) (xs : List X) (i : ℕ) (x : X) → Each P (map f xs) → i < length xs → x ≡ get_or xs i x → P (f x)
each_of P f [] i x all less is = absurd (omega arith)
each_of P f (y ∷ ys) zero x all less is = subst (λ z. P (f z)) (sym is) all.0
each_of P f (y ∷ ys) (suc i) x all less is = let low : i < length ys = omega arith in each_of P f ys i x all.1 low is

-- the inputs so far, whatever the rest brings
abbrev pub Goes : Numbering → List Expr → ℕ → Prepared → List Argument → (whole : List Expression) → Prepared → Type 0
Goes c args i all own whole before = (behind : Prepared) (more : List Argument) → BringsAll c (map expr_meant (drop i args)) all behind more → BringsAll c whole before behind (own ++ more)

pub brings_more : (c : Numbering) (args : List Expr) (i : ℕ) (x : Expr) (all next before : Prepared) (own given : List Argument) (a : Argument) (whole : List Expression) → i < length args → x ≡ get_or args i x → Brings c (expr_meant x) all next a
    → given ≡ own ++ a ∷ [] → Goes c args i all own whole before → Goes c args (i + 1) next given whole before
brings_more c args i x all next before own given a whole less is one grown inv behind more h =
    let rest : BringsAll c (map expr_meant (drop i args)) all behind (a ∷ more) =
    subst (λ (es : List Expression). BringsAll c es all behind (a ∷ more)) (sym (rest_more expr_meant args i x less is)) (brings_next c (expr_meant x) (map expr_meant (drop (i + 1) args)) all next behind a more one h) in
    subst (λ (us : List Argument). BringsAll c whole before behind us) (sym (ap (λ us. us ++ more) grown ∙ append_assoc own (a ∷ []) more)) (inv behind (a ∷ more) rest)

pub brings_end : (c : Numbering) (args : List Expr) (i : ℕ) (all before : Prepared) (own : List Argument) (whole : List Expression) → length args ≤ i → Goes c args i all own whole before → BringsAll c whole before all own
brings_end c args i all before own whole more inv =
    subst (λ (us : List Argument). BringsAll c whole before all us) (append-nil own)
    (inv all [] (subst (λ (es : List Expression). BringsAll c es all all []) (sym (rest_none expr_meant args i more)) (brings_none c all)))
