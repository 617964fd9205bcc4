-- The pieces of expressions are those of their parts one after another.
use Rattle.std.proofs.Common.{◌≡◌, ℕ, ◌+◌, List, [], ◌∷◌, ◌++◌, length, map, Option, Some, None, refl, sym, ap, ap₂, ◌∙◌, arith}
use Rattle.std.proofs.lemmas.List.{length-append}
use Rattle.plcx_types.specs.declared.ty.Ty.{Ty}
use Rattle.plcx_types.specs.Value.{Value}
use Rattle.plcx_funcs.specs.declared.func.Func.{Func}
use Rattle.plcx_funcs.specs.declared.func.Func.TheVariants as func
use Rattle.plcx_funcs.specs.Names.{function_named}
use Rattle.plcx_meaning.specs.Tree.{Operator, Expression, Number, Name, Member, Apply, Not, Binary, Expressions, no_expression, expression}
use Rattle.plcx_meaning.specs.Execute.{function_of}
use Rattle.plcx_meaning.specs.Typed.{expression_type}
use Rattle.plcx_steps.specs.declared.program.Argument.{Argument}
use Rattle.plcx_text_steps.specs.declared.text.Line.{Line}
use Rattle.plcx_text_numbered.specs.Prepared.{Numbering, or_bool, wires_of, all_wires, argument, inputs, arguments_of, all_arguments, call_lines, named_lines, lines_of, all_lines}
use Rattle.plcx_text_pieces.specs.Pieces.{Piece, Start, nothing, joined, after, wire_value, wire_values, all_wire_values, value_piece, values_piece, applied_piece}

one_more : (xs : List Value) (v : Value) (n : ℕ) → length xs ≡ n → length (xs ++ v ∷ []) ≡ n + 1
one_more xs v n e = length-append xs (v ∷ []) ∙ ap (λ k. k + 1) e

mutual
  -- an expression has as many wires as it takes
  pub wires_count : (c : Numbering) (e : Expression) → length (wire_values c e) ≡ wires_of e
  wires_count c (Number v) = refl
  wires_count c (Name x) = refl
  wires_count c (Member i x) = refl
  wires_count c (Apply x es) = one_more (all_wire_values c es) _ _ (all_wires_count c es)
  wires_count c (Not e) = one_more (wire_values c e) _ _ (wires_count c e)
  wires_count c (Binary op a b) =
      length-append (wire_values c a) (wire_values c b ++ wire_value (or_bool (expression_type c.scope (Binary op a b))) ∷ [])
      ∙ ap₂ (λ m n. m + n) (wires_count c a) (one_more (wire_values c b) _ _ (wires_count c b))
      ∙ (let sum : wires_of a + (wires_of b + 1) ≡ wires_of a + wires_of b + 1 = omega arith in sum)

  pub all_wires_count : (c : Numbering) (es : Expressions) → length (all_wire_values c es) ≡ all_wires es
  all_wires_count c no_expression = refl
  all_wires_count c (expression e es) = length-append (wire_values c e) (all_wire_values c es) ∙ ap₂ (λ m n. m + n) (wires_count c e) (all_wires_count c es)

-- several expressions
pub first_of_values : (c : Numbering) (s : Start) (e : Expression) (es : Expressions)
    → values_piece c s (expression e es) ≡ joined (value_piece c s e) (values_piece c (after s (value_piece c s e)) es)
first_of_values c s e es =
    ap (λ (w : ℕ). let p : Piece = record {
      lines = lines_of c s.arguments s.wires e ++ all_lines c (s.arguments + length (arguments_of c s.wires e)) w es;
      arguments = arguments_of c s.wires e ++ all_arguments c w es;
      bindings = [];
      sections = [];
      arms = [];
      wires = wire_values c e ++ all_wire_values c es;
    } in p) (ap (λ n. s.wires + n) (sym (wires_count c e)))

pub first_of_inputs : (c : Numbering) (w : ℕ) (s : Start) (e : Expression) (es : Expressions) → w ≡ s.wires
    → inputs c w (expression e es) ≡ argument c w e ∷ inputs c (after s (value_piece c s e)).wires es
first_of_inputs c w s e es same = ap (λ n. argument c w e ∷ inputs c n es) (ap₂ (λ m n. m + n) same (sym (wires_count c e)))

-- a call of a function by its name
pub apply_piece : (c : Numbering) (s : Start) (x : List ℕ) (es : Expressions)
    → value_piece c s (Apply x es)
    ≡ (let p = values_piece c s es in joined p (applied_piece (after s p) (function_named x) (inputs c s.wires es) (or_bool (expression_type c.scope (Apply x es)))))
apply_piece c s x es =
    ap (λ (w : ℕ). let p : Piece = record {
      lines = all_lines c s.arguments s.wires es ++ named_lines (function_named x) (inputs c s.wires es) (s.arguments + length (all_arguments c s.wires es)) w;
      arguments = all_arguments c s.wires es ++ inputs c s.wires es;
      bindings = [];
      sections = [];
      arms = [];
      wires = all_wire_values c es ++ wire_value (or_bool (expression_type c.scope (Apply x es))) ∷ [];
    } in p) (ap (λ n. s.wires + n) (sym (all_wires_count c es)))

-- NOT
pub not_piece : (c : Numbering) (s : Start) (e : Expression)
    → value_piece c s (Not e)
    ≡ (let p = value_piece c s e in joined p (applied_piece (after s p) (Some func.Not) (argument c s.wires e ∷ []) (or_bool (expression_type c.scope (Not e)))))
not_piece c s e =
    ap (λ (w : ℕ). let p : Piece = record {
      lines = lines_of c s.arguments s.wires e ++ call_lines func.Not (argument c s.wires e ∷ []) (s.arguments + length (arguments_of c s.wires e)) w;
      arguments = arguments_of c s.wires e ++ argument c s.wires e ∷ [];
      bindings = [];
      sections = [];
      arms = [];
      wires = wire_values c e ++ wire_value (or_bool (expression_type c.scope (Not e))) ∷ [];
    } in p) (ap (λ n. s.wires + n) (sym (wires_count c e)))

-- an operator
pub binary_piece : (c : Numbering) (s : Start) (op : Operator) (a b : Expression)
    → value_piece c s (Binary op a b)
    ≡ (let p = value_piece c s a in
    let q = value_piece c (after s p) b in
    joined p (joined q (applied_piece (after (after s p) q) (Some (function_of op)) (argument c s.wires a ∷ argument c (after s p).wires b ∷ []) (or_bool (expression_type c.scope (Binary op a b))))))
binary_piece c s op a b =
    let last : List Value = wire_value (or_bool (expression_type c.scope (Binary op a b))) ∷ [] in
    ap₂ (λ (w v : ℕ). let p : Piece = record {
      lines =
          lines_of c s.arguments s.wires a
          ++ (lines_of c (s.arguments + length (arguments_of c s.wires a)) w b
          ++ call_lines (function_of op) (argument c s.wires a ∷ argument c w b ∷ [])
          (s.arguments + length (arguments_of c s.wires a) + length (arguments_of c w b)) v);
      arguments = arguments_of c s.wires a ++ (arguments_of c w b ++ argument c s.wires a ∷ argument c w b ∷ []);
      bindings = [];
      sections = [];
      arms = [];
      wires = wire_values c a ++ (wire_values c b ++ last);
    } in p)
    (ap (λ n. s.wires + n) (sym (wires_count c a)))
    (let m = wires_count c a in
    let n = wires_count c b in
    let sum : s.wires + (wires_of a + wires_of b) ≡ s.wires + length (wire_values c a) + length (wire_values c b) = omega arith in sum)
