-- The lines of an expression can be run.
use Rattle.std.proofs.Common.{◌≡◌, ℕ, ◌+◌, ◌<◌, ◌≤◌, Bool, true, false, List, [], ◌∷◌, ◌++◌, length, map, Option, Some, None, refl, sym, ap, ◌∙◌, subst, arith}
use Rattle.std.specs.Prelude.{slice_get, slice_range, if◌then◌else◌}
use Rattle.std.specs.Option.{option_map, option_and_then}
use Rattle.std.proofs.lemmas.List.{length-map}
use Rattle.std.proofs.lemmas.Option.{slice_get_within}
use Rattle.plcx_types.specs.declared.ty.Ty.{Ty}
use Rattle.plcx_types.specs.Lists.{Each}
use Rattle.plcx_types.specs.Value.{Value}
use Rattle.plcx_funcs.specs.declared.func.Func.{Func}
use Rattle.plcx_funcs.specs.declared.func.Func.TheVariants as func
use Rattle.plcx_funcs.specs.Names.{function_named}
use Rattle.plcx_meaning.specs.Tree.{Expression, Number, Name, Member, Apply, Not, Binary, Expressions, no_expression, expression}
use Rattle.plcx_meaning.specs.Functions.{group_of}
use Rattle.plcx_meaning.specs.Execute.{function_of}
use Rattle.plcx_meaning.specs.Typed.{is_operator, result_type, call_type, expression_type, expression_types}
use Rattle.plcx_meaning.proofs.Lists.{each_append}
use Rattle.plcx_meaning.proofs.Stuck.{and_then_some}
use Rattle.plcx_state.specs.Stores.{HasValue}
use Rattle.plcx_steps.specs.declared.program.Operand.{Operand}
use Rattle.plcx_steps.specs.declared.program.Operand.TheVariants.{Leaf, InOut}
use Rattle.plcx_steps.specs.declared.program.Source.{Source}
use Rattle.plcx_steps.specs.declared.program.Source.TheVariants.{Constant, Wire, Memory, Variable}
use Rattle.plcx_steps.specs.declared.program.Argument.{Argument}
use Rattle.plcx_steps.specs.declared.program.Body.{Body}
use Rattle.plcx_steps.specs.declared.program.Program.{Program}
use Rattle.plcx_steps.specs.Sound.{IsPlaced, IsWithin, most_inputs}
use Rattle.plcx_steps.specs.Typed.{Shape, IsPlacedOf, IsOf, Gives, AreOf}
use Rattle.plcx_runnable.proofs.Lists.{each_get, StandsAt, stands_within, stands_parts}
use Rattle.plcx_runnable.proofs.Functions.{gives, few_inputs}
use Rattle.plcx_text_steps.specs.declared.text.Line.{Line}
use Rattle.plcx_text_numbered.specs.Prepared.{Numbering, or_bool, wires_of, all_wires, source_of, argument, inputs, arguments_of, all_arguments, group, call_lines, named_lines, lines_of, all_lines}
use Rattle.plcx_text_numbered.proofs.Values.{Typed, typed_of}
use Rattle.plcx_text_numbered.specs.Texts.{HasWire, HasWires, HaveWires}
use Rattle.plcx_text_runnable.specs.Laws.{IsShapeOf, AreTypedNumbers, CanRun}

pub mapped_some : {A B : Type 0} (f : A → B) (o : Option A) (y : B) → option_map f o ≡ Some y → (x : A) × (o ≡ Some x) × (f x ≡ y)
mapped_some f None y h = absurd (cc)
mapped_some f (Some x) y h = (x, refl, cc)

module _ (program : Program) (body : Body) (shape : Shape) (wires : List Value) (c : Numbering) (is_shape : IsShapeOf body shape) (numbers : AreTypedNumbers c shape wires) where
  abbrev Runs : List Line → Type 0
  Runs ls = Each (CanRun program body shape wires) ls

  -- what has a type is there
  placed_within : (o : Operand) (t : Ty) → IsPlacedOf shape o t → IsPlaced body o
  placed_within (Leaf offset) t h = let low = slice_get_within shape.leaves offset t h in let e = is_shape.leaves in omega arith
  placed_within (InOut i) t h = let low = slice_get_within shape.in_outs i t h in let e = is_shape.in_outs in omega arith

  wire_within : (w : ℕ) (t : Ty) → HasValue wires w t → w < length wires
  wire_within w t h = slice_get_within wires w h.value h.is

  pub source_within : (s : Source) (t : Ty) → IsOf shape wires s t → IsWithin body (length wires) s
  source_within (Constant v) t h = tt
  source_within (Wire w) t h = wire_within w t h
  source_within (Memory m) t h = let low = slice_get_within shape.memories m t h in let e = is_shape.memories in omega arith
  source_within (Variable o) t h = placed_within o t h

  abbrev IsInput : Argument → Type 0
  IsInput a = IsOf shape wires a.source a.ty

  -- an input has the type of its expression
  input_is : (e : Expression) (t : Ty) (w : ℕ) → expression_type c.scope e ≡ Some t → IsOf shape wires (source_of c w e) t → IsInput (argument c w e)
  input_is e t w typed h = let P : Ty → Type 0 = λ u. IsOf shape wires (source_of c w e) u in subst P (sym (ap or_bool typed)) h

  -- and so has the wire of a call
  wire_is : (e : Expression) (t : Ty) (w : ℕ) → expression_type c.scope e ≡ Some t → HasWire c wires w e → HasValue wires w t
  wire_is e t w typed h = let P : Ty → Type 0 = λ u. HasValue wires w u in subst P (ap or_bool typed) h

  call_good : (f : Func) (args : List Argument) (types : List Ty) (t : Ty) (first out : ℕ) → map (λ (a : Argument). a.ty) args ≡ types → result_type f types ≡ Some t → Each IsInput args → StandsAt program.arguments.items first args → HasValue wires out t
      → Runs (call_lines f args first out)
  call_good f args types t first out same r each stands wire = (((t, are_of, given, wire), (record { few = few; there = stands_within program.arguments.items first args stands; each = within }, wire_within out t wire)), tt)
    where
      T : Typed f types t
      T = typed_of f types t r

      grouped : group f args ≡ T.of_group
      grouped = ap (λ us. or_bool (group_of f us)) same ∙ ap or_bool T.is_group

      are_of : AreOf shape wires (slice_range program.arguments.items first (first + length args))
      are_of = subst (AreOf shape wires) (sym stands.has) (λ i a there. each_get IsInput args each i a there)

      within : (i : ℕ) (a : Argument) → slice_get (slice_range program.arguments.items first (first + length args)) i ≡ Some a → IsWithin body (length wires) a.source
      within i a there = source_within a.source a.ty (are_of i a there)

      given : Gives f (group f args) (map (λ (a : Argument). a.ty) (slice_range program.arguments.items first (first + length args))) t
      given =
          let P : Ty → Type 0 = λ u. Gives f u (map (λ (a : Argument). a.ty) (slice_range program.arguments.items first (first + length args))) t in
          let Q : List Ty → Type 0 = λ us. Gives f T.of_group us t in
          let R : Ty → Type 0 = λ u. Gives f T.of_group types u in
          subst P (sym grouped) (subst Q (sym (ap (map (λ (a : Argument). a.ty)) stands.has ∙ same)) (subst R T.gives (gives f T.of_group types T.suits)))

      few : length args ≤ most_inputs
      few = let long = length-map args (λ (a : Argument). a.ty) in let e = ap length same in let most = few_inputs f T.of_group types T.suits in omega arith

  named_good : (o : Option Func) (args : List Argument) (types : List Ty) (t : Ty) (first out : ℕ) → map (λ (a : Argument). a.ty) args ≡ types → call_type o types ≡ Some t → Each IsInput args → StandsAt program.arguments.items first args → HasValue wires out t
      → Runs (named_lines o args first out)
  named_good None args types t first out same r each stands wire = absurd (cc)
  named_good (Some f) args types t first out same r each stands wire = by_test (is_operator f) r
    where
      by_test : (b : Bool) → (if b then None else result_type f types) ≡ Some t → Runs (call_lines f args first out)
      by_test true e = absurd (cc)
      by_test false e = call_good f args types t first out same e each stands wire

  mutual
    pub value_good : (e : Expression) (t : Ty) → expression_type c.scope e ≡ Some t → (a w : ℕ) → StandsAt program.arguments.items a (arguments_of c w e) → HasWires c wires w e → Runs (lines_of c a w e) × IsOf shape wires (source_of c w e) t
    value_good (Number v) t typed a w stands h = (tt, cc)
    value_good (Name x) t typed a w stands h = (tt, numbers.names x t typed)
    value_good (Member i x) t typed a w stands h = (tt, numbers.members i x t typed)
    value_good (Apply x es) t typed a w stands h =
        let all = and_then_some (call_type (function_named x)) (expression_types c.scope es) t typed in
        let parts = stands_parts program.arguments.items a (all_arguments c w es) (inputs c w es) stands in
        let A = values_good es all.0 all.1 a w parts.0 h.0 in
        let wire = wire_is (Apply x es) t (w + all_wires es) typed h.1 in
        (each_append (CanRun program body shape wires) (all_lines c a w es) _ A.0 (named_good (function_named x) (inputs c w es) all.0 t (a + length (all_arguments c w es)) (w + all_wires es) A.2 all.2 A.1 parts.1 wire), wire)
    value_good (Not e) t typed a w stands h =
        let one = and_then_some (λ u. result_type func.Not (u ∷ [])) (expression_type c.scope e) t typed in
        let parts = stands_parts program.arguments.items a (arguments_of c w e) (argument c w e ∷ []) stands in
        let A = value_good e one.0 one.1 a w parts.0 h.0 in
        let wire = wire_is (Not e) t (w + wires_of e) typed h.1 in (
          each_append (CanRun program body shape wires) (lines_of c a w e) _ A.0
              (call_good func.Not (argument c w e ∷ []) (one.0 ∷ []) t (a + length (arguments_of c w e)) (w + wires_of e) (ap (λ u. u ∷ []) (ap or_bool one.1)) one.2 (input_is e one.0 w one.1 A.1, tt) parts.1 wire),
          wire,
        )
    value_good (Binary op p q) t typed a w stands h =
        let one = and_then_some (λ u. option_and_then (λ k. result_type (function_of op) (u ∷ k ∷ [])) (expression_type c.scope q)) (expression_type c.scope p) t typed in
        let two = and_then_some (λ k. result_type (function_of op) (one.0 ∷ k ∷ [])) (expression_type c.scope q) t one.2 in
        let k = w + wires_of p in
        let both = argument c w p ∷ argument c k q ∷ [] in
        let parts = stands_parts program.arguments.items a (arguments_of c w p) (arguments_of c k q ++ both) stands in
        let more = stands_parts program.arguments.items (a + length (arguments_of c w p)) (arguments_of c k q) both parts.1 in
        let A = value_good p one.0 one.1 a w parts.0 h.0 in
        let B = value_good q two.0 two.1 (a + length (arguments_of c w p)) k more.0 h.1 in
        let wire = wire_is (Binary op p q) t (w + (wires_of p + wires_of q)) typed h.2 in (
          each_append (CanRun program body shape wires) (lines_of c a w p) _ A.0 (each_append (CanRun program body shape wires) (lines_of c (a + length (arguments_of c w p)) k q) _ B.0
              (call_good (function_of op) both (one.0 ∷ two.0 ∷ []) t (a + length (arguments_of c w p) + length (arguments_of c k q)) (w + (wires_of p + wires_of q))
              (ap (λ u. u ∷ or_bool (expression_type c.scope q) ∷ []) (ap or_bool one.1) ∙ ap (λ u. one.0 ∷ u ∷ []) (ap or_bool two.1)) two.2 (input_is p one.0 w one.1 A.1, (input_is q two.0 k two.1 B.1, tt)) more.1 wire)),
          wire,
        )

    pub values_good : (es : Expressions) (types : List Ty) → expression_types c.scope es ≡ Some types → (a w : ℕ) → StandsAt program.arguments.items a (all_arguments c w es) → HaveWires c wires w es
        → Runs (all_lines c a w es) × Each IsInput (inputs c w es) × (map (λ (x : Argument). x.ty) (inputs c w es) ≡ types)
    values_good no_expression types typed a w stands h = (tt, tt, cc)
    values_good (expression e es) types typed a w stands h =
        let one = and_then_some (λ u. option_map (λ us. u ∷ us) (expression_types c.scope es)) (expression_type c.scope e) types typed in
        let more = mapped_some (λ us. one.0 ∷ us) (expression_types c.scope es) types one.2 in
        let k = w + wires_of e in
        let parts = stands_parts program.arguments.items a (arguments_of c w e) (all_arguments c k es) stands in
        let A = value_good e one.0 one.1 a w parts.0 h.0 in
        let B = values_good es more.0 more.1 (a + length (arguments_of c w e)) k parts.1 h.1 in (
          each_append (CanRun program body shape wires) (lines_of c a w e) _ A.0 B.0,
          (input_is e one.0 w one.1 A.1, B.1),
          ap (λ u. u ∷ map (λ (x : Argument). x.ty) (inputs c k es)) (ap or_bool one.1) ∙ ap (λ us. one.0 ∷ us) B.2 ∙ more.2,
        )
