-- What is prepared of the statements of a ready unit has the right numbers.
use Rattle.std.proofs.Common.{◌≡◌, ℕ, zero, suc, ◌+◌, ◌<◌, ◌≤◌, ◌⊎◌, inl, inr, true, List, [], ◌∷◌, ◌++◌, length, map, Option, Some, None, refl, sym, ap, ◌∙◌, subst, arith}
use Rattle.std.specs.Prelude.{slice_get, slice_range}
use Rattle.std.specs.Option.{option_map, option_and_then}
use Rattle.std.proofs.lemmas.List.{length-map}
use Rattle.std.proofs.lemmas.Option.{slice_get_within, same_Some}
use Rattle.plcx_types.specs.declared.ty.Ty.{Ty}
use Rattle.plcx_types.specs.declared.ty.Ty.TheVariants as ty
use Rattle.plcx_types.specs.Name.{in_lower_case}
use Rattle.plcx_types.specs.TypeName.{type_named}
use Rattle.plcx_types.specs.Lists.{Each}
use Rattle.plcx_std.specs.declared.kind.StdKind.{StdKind}
use Rattle.plcx_std.specs.Kind.{kind_named}
use Rattle.plcx_std.specs.Pins.{Pin, pins}
use Rattle.plcx_funcs.specs.declared.func.Func.TheVariants as func
use Rattle.plcx_funcs.specs.Names.{function_named}
use Rattle.plcx_meaning.specs.Base.{Path, Site, top}
use Rattle.plcx_meaning.specs.Tree.{Expression, Number, Name, Member, Apply, Not, Binary, Expressions, no_expression, expression, Argument, Statement, Assign, Call, If, While, Case, Statements, no_statement, statement, Arms, no_arm, arm, PouText}
use Rattle.plcx_meaning.specs.Layout.{Variable, variables_of, variable_named, is_kept, parts_of}
use Rattle.plcx_meaning.specs.Execute.{Formal, Takes, Binds, NoFormal, formal, referent, function_of, bind}
use Rattle.plcx_meaning.specs.Typed.{variable_in, part_in, expression_type, expression_types, result_type, call_type, can_store}
use Rattle.plcx_meaning.specs.Ready.{ExpressionIsReady, TargetIsReady, ValueIsReady, CallIsReady, StatementIsReady, StatementsAreReady, ArmsAreReady}
use Rattle.plcx_meaning.proofs.StuckBodies.{variable_type}
use Rattle.plcx_meaning.proofs.Stuck.{and_then_some}
use Rattle.plcx_meaning.proofs.Units.{variable_there}
use Rattle.plcx_steps.specs.declared.program.Source.{Source}
use Rattle.plcx_steps.specs.declared.program.Operand.{Operand}
use Rattle.plcx_steps.specs.declared.program.Operand.TheVariants.{Leaf}
use Rattle.plcx_steps.specs.declared.program.Action.TheVariants as action
use Rattle.plcx_numbered.specs.Numbers.{places, depth, in_out_names}
use Rattle.plcx_numbered.specs.Numbers.{Place as Lying}
use Rattle.plcx_text_steps.specs.declared.text.Line.{Line}
use Rattle.plcx_text_steps.specs.declared.text.Line.TheVariants as line
use Rattle.plcx_text_steps.specs.declared.text.Arm.{Arm as Choice}
use Rattle.plcx_text_numbered.specs.Agreeing.{Lies}
use Rattle.plcx_text_numbered.specs.Right.{RightExpression, RightExpressions}
use Rattle.plcx_text_numbered.specs.Setting.{setting}
use Rattle.plcx_text_numbered.specs.Statements.{Around, IsExpression, IsValue, IsAssign, formal_of, taken_wires, store_lines, IsInput, IsTaken, AreTaken, IsBlock, IsBoundTo, IsUser, IsCall, IsSection, IsStatement, AreStatements, AreArms, AreLines, IsPou}
use Rattle.plcx_text_numbered.specs.Numbers.{places_of, leaf_number, bound_operand, bound_operands, place_named, plan_of, plans_of}
use Rattle.plcx_text_numbered.specs.Texts.{IsExpressionOf, IsValueOf, IsAssignOf, IsInputOf, IsTakenOf, AreTakenOf, inner_in_outs, called_lines, IsCallOf, IsSectionOf, IsStatementOf, AreStatementsOf, AreArmsOf, AreLinesOf}
use Rattle.plcx_runnable.proofs.Lists.{mapped_at, mapped_from}
use Rattle.plcx_text_runnable.proofs.Expressions.{mapped_some}
use Rattle.plcx_text_runnable.proofs.Instances.{IsUserBlock, is_user, within_place, level_below, composed_block}
use Rattle.plcx_text_runnable.proofs.Places.{IsElementary, variable_of, output_of, input_of, place_right, inner_right, first_frame, temporaries_apart}
use Rattle.plcx_text_runnable.proofs.Bindings.{IsInstanceOf, binding_leaf, binding_at}
use Rattle.plcx_text_runnable.proofs.Grounds.{Ground, vs, world, scope, num, wires, owner, parts, called, IsCallee, callee, standard_place}

-- sections are counted upwards
mutual
  pub statement_rises : (g : Ground) (s : Statement) (from to : ℕ) (lines : List Line) → IsStatementOf (owner g) (parts g) from to s lines → from ≤ to
  statement_rises g (Assign x e) from to lines h = let e = h.0 in omega arith
  statement_rises g (Call i args) from to lines h = let e = h.0 in omega arith
  statement_rises g (If e ss) from to lines (before, source, k, inner, are, last, value, section, within) = let r = statements_rise g ss from k inner within in omega arith
  statement_rises g (While e ss) from to lines (before, source, k, inner, are, last, value, test, section, within) = let r = statements_rise g ss (from + 1) k inner within in omega arith
  statement_rises g (Case e arms) from to lines (before, source, first, count, are, there, value, choices) = arms_rise g arms from to _ choices

  pub statements_rise : (g : Ground) (ss : Statements) (from to : ℕ) (lines : List Line) → AreStatementsOf (owner g) (parts g) from to ss lines → from ≤ to
  statements_rise g no_statement from to lines h = let e = h.0 in omega arith
  statements_rise g (statement s ss) from to lines (k, xs, ys, are, one, rest) = let a = statement_rises g s from k xs one in let b = statements_rise g ss k to ys rest in omega arith

  pub arms_rise : (g : Ground) (arms : Arms) (from to : ℕ) (choices : List Choice) → AreArmsOf (owner g) (parts g) from to arms choices → from ≤ to
  arms_rise g no_arm from to choices h = let e = h.0 in omega arith
  arms_rise g (arm label ss rest) from to choices (k, inner, more, are, section, within, later) = let a = statements_rise g ss from k inner within in let b = arms_rise g rest (k + 1) to more later in omega arith

module _ (g : Ground) where
  abbrev around : Around
  around = record { unit = g.unit; plans = plans_of g.unit; own = plan_of g.unit g.pou; program = g.program; text = g.text; num = num g; width = length (wires g) }

  -- ---- expressions
  mutual
    expression_right : (e : Expression) (t : Ty) → expression_type (scope g) e ≡ Some t → RightExpression (plan_of g.unit g.pou).plan (num g) e
    expression_right (Number v) t h = tt
    expression_right (Name x) t h = place_right g.unit g.pou g.own x t (variable_of (world g) (variable_in (scope g) x) t h)
    expression_right (Member i x) t h = let o = output_of (world g) (part_in (scope g) i x) t h in inner_right g.unit g.pou g.own i x t o.its (ap is_kept o.class_is)
    expression_right (Apply f es) t h = let all = and_then_some (call_type (function_named f)) (expression_types (scope g) es) t h in expressions_right es all.0 all.1
    expression_right (Not e) t h = let u = and_then_some (λ u. result_type func.Not (u ∷ [])) (expression_type (scope g) e) t h in expression_right e u.0 u.1
    expression_right (Binary op a b) t h =
        let u = and_then_some (λ u. option_and_then (λ k. result_type (function_of op) (u ∷ k ∷ [])) (expression_type (scope g) b)) (expression_type (scope g) a) t h in
        let k = and_then_some (λ k. result_type (function_of op) (u.0 ∷ k ∷ [])) (expression_type (scope g) b) t u.2 in
        (expression_right a u.0 u.1, expression_right b k.0 k.1)

    expressions_right : (es : Expressions) (types : List Ty) → expression_types (scope g) es ≡ Some types → RightExpressions (plan_of g.unit g.pou).plan (num g) es
    expressions_right no_expression types h = tt
    expressions_right (expression e es) types h =
        let u = and_then_some (λ u. option_map (λ us. u ∷ us) (expression_types (scope g) es)) (expression_type (scope g) e) types h in
        let more = mapped_some (λ us. u.0 ∷ us) (expression_types (scope g) es) types u.2 in
        (expression_right e u.0 u.1, expressions_right es more.0 more.1)

  lines_right : (wire : ℕ) (e : Expression) (t : Ty) → expression_type (scope g) e ≡ Some t → (lines : List Line) (source : Source) → IsExpressionOf (owner g) (parts g) wire e lines source → IsExpression around wire e t lines source
  lines_right wire e t typed lines source h =
      record { typed = typed; right = expression_right e t typed; first = h.first; has = h.has; free = h.free; room = h.room; are_lines = h.are_lines; is_source = h.is_source }

  value_right : (e : Expression) (t : Ty) → ExpressionIsReady (scope g) e t → (lines : List Line) (source : Source) → IsValueOf (owner g) (parts g) e lines source → IsValue around e t lines source
  value_right e t r lines source h = record { wire = h.wire; value = lines_right h.wire e t r.typed lines source h.value }

  -- ---- calls
  module _ (i : List ℕ) where
    taken_right : (f : Formal) (a : Argument) → formal_of (num g) i a ≡ f → ValueIsReady (scope g) a.value f → (wire : ℕ) (lines : List Line) → IsTakenOf (owner g) (parts g) wire a f lines → IsTaken around i wire a f lines
    taken_right (Takes t) a is r wire lines h =
        let o = input_of (world g) (part_in (scope g) i a.formal) t is in
        record {
          before = h.before;
          source = h.source;
          value = lines_right wire a.value t r.typed h.before h.source h.value;
          room = slice_get_within (wires g) _ h.own.value h.own.is;
          are_lines = h.are_lines;
          leaf = inner_right g.unit g.pou g.own i a.formal t o.its (ap is_kept o.class_is);
        }
    taken_right (Binds t) a is r wire lines h = (binding_leaf (scope g) top a.value t r, h)
    taken_right NoFormal a is r wire lines h = absurd r

    all_taken : (args : List Argument) → Each (λ (a : Argument). ValueIsReady (scope g) a.value (formal (world g) (part_in (scope g) i a.formal))) args → (wire : ℕ) (lines : List Line) → AreTakenOf (owner g) (parts g) i wire args lines → AreTaken around i wire args lines
    all_taken [] r wire lines h = h
    all_taken (a ∷ rest) r wire lines (xs, ys, are, one, more) =
        (xs, ys, are, taken_right (formal_of (num g) i a) a refl r.0 wire xs one, all_taken rest r.1 (wire + taken_wires (formal_of (num g) i a) a) ys more)

  call_right : (below : ℕ) → g.at.floor ≤ below → (i : List ℕ) (args : List Argument) → CallIsReady (scope g) i args → (lines : List Line) → IsCallOf (owner g) (parts g) i args lines → IsCall around below i args lines
  call_right below high i args r lines h = record {
    type = r.type;
    instance = r.instance;
    all = r.bound;
    wire = h.wire;
    free = h.free;
    taken = h.taken;
    are_taken = all_taken i args r.values h.wire h.taken h.are_taken;
    called = called_lines (owner g) h.first i h.instance;
    callee = subst (λ type. Called type) v.same (subst (λ w. Callee w v.variable.ty) same (by_kind (kind_named v.variable.ty) refl));
    are_lines = h.are_lines;
  }
    where
      v : IsInstanceOf (variable_in (scope g) i) r.type
      v = called g i args r

      same : v.variable ≡ h.instance
      same = same_Some v.variable h.instance (sym v.found ∙ h.found)

      Callee : Variable → List ℕ → Type 0
      Callee w type = IsBlock around i type (called_lines (owner g) h.first i w) ⊎ IsUser around below i args type (called_lines (owner g) h.first i w)

      Called : List ℕ → Type 0
      Called type = Callee h.instance type

      leaf : ℕ
      leaf = leaf_number g.unit (in_lower_case i) (vs g)

      lines_by : Option StdKind → List Line
      lines_by k = elim k [
        | Some j ↦ line.Act (action.Standard j leaf) ∷ []
        | None ↦ line.Call (place_named v.variable.ty g.unit) leaf h.first (length (inner_in_outs (owner g) i)) ∷ []
      ]

      by_kind : (k : Option StdKind) → kind_named v.variable.ty ≡ k → Callee v.variable v.variable.ty
      by_kind (Some k) e = inl (record {
        kind = k;
        named = e;
        first = leaf;
        are_lines = ap lines_by e;
        leaves = λ j q there. mapped_at (λ (y : Lying). y.0) (places_of g.unit (vs g)) (leaf + j) (in_lower_case q.name ∷ in_lower_case i ∷ [], q.ty) (standard_place g i v.variable v.found v.composite k e j q there);
      })
      by_kind None e =
          let b = callee g i v.variable v.found v.composite e in
          let names : inner_in_outs (owner g) i ≡ in_out_names (variables_of b.pou.blocks) = ap in_out_names b.inside in
          let there = variable_there (in_lower_case i) (vs g) v.variable v.found in
          let behind = g.at.frame.behind v.variable b.pou b.at.body b.at.entry there (is_user g.unit v.variable b.pou b.user) b.at.is_body b.at.is_entry in
          let low = behind.2 in
          inr (record {
            user = e;
            number = place_named v.variable.ty g.unit;
            plan = plan_of g.unit b.pou;
            is_plan = mapped_at (plan_of g.unit) g.unit (place_named v.variable.ty g.unit) b.pou b.is;
            block = b.user.block;
            level = level_below g.unit g.pou g.own v.variable there b.pou b.user;
            entry = b.at.entry;
            begins = b.at.is_entry;
            low = omega arith;
            leaves = leaf;
            lies = record {
              paths = λ j x at.
                  (let y = mapped_from (λ (y : Lying). y.0) (places_of g.unit (variables_of b.pou.blocks)) j x at in
                  mapped_at (λ (y : Lying). y.0) (places_of g.unit (vs g)) (leaf + j) (y.0.0 ++ in_lower_case i ∷ [], y.0.1)
                  (within_place g.unit g.pou g.own i v.variable v.found v.composite j y.0.0 y.0.1 (ap (λ ws. slice_get (places depth (world g) ws) j) (composed_block g.unit v.variable b.pou b.user) ∙ y.1))
                  ∙ ap (λ n. Some (n ++ in_lower_case i ∷ [])) y.2);
            };
            first = h.first;
            operands = bound_operands (num g) args (inner_in_outs (owner g) i);
            has = h.has;
            bound = λ j key at.
                (let k : slice_get (inner_in_outs (owner g) i) j ≡ Some key = ap (λ ns. slice_get ns j) names ∙ at in
                (bound_operand (num g) args key, mapped_at (bound_operand (num g) args) (inner_in_outs (owner g) i) j key k, (binding_at g.unit g.pou g.own i args r.values r.bound b.pou b.own b.inside j key at).bound));
            are_lines = ap lines_by e
                ∙ ap (λ n. line.Call (place_named v.variable.ty g.unit) leaf h.first n ∷ []) (sym (length-map (inner_in_outs (owner g) i) (bound_operand (num g) args)));
          })

  -- ---- statements
  section_right : (below k : ℕ) → k < below → (lines : List Line) → IsSectionOf (owner g) (parts g) k lines → IsSection g.text below k lines
  section_right below k low lines h = record { section = h.section; is = h.is; low = low; are_lines = h.are_lines }

  mutual
    statement_right : (s : Statement) → StatementIsReady (scope g) s → (from to below : ℕ) → g.at.floor ≤ from → to ≤ below → (lines : List Line) → IsStatementOf (owner g) (parts g) from to s lines → IsStatement around below s lines
    statement_right (Assign x e) (t, target, r) from to below high low lines (none, h) = record {
      type = t;
      typed = variable_type (scope g) x t can_store target;
      place = place_right g.unit g.pou g.own x t (record { variable = target.variable; found = target.found; typed = target.typed });
      before = h.before;
      source = h.source;
      value = value_right e t r h.before h.source h.value;
      are_lines = h.are_lines;
    }
    statement_right (Call i args) r from to below high low lines (none, h) = call_right below (omega arith) i args r lines h
    statement_right (If e ss) r from to below high low lines (before, source, k, inner, are, last, value, section, within) =
        (before, source, k, inner, are, value_right e ty.Bool r.0 before source value, section_right below k (omega arith) inner section, statements_right ss r.1 from k k high (omega arith) inner within)
    statement_right (While e ss) r from to below high low lines (before, source, k, inner, are, last, value, test, section, within) =
        let rise = statements_rise g ss (from + 1) k inner within in (
          before,
          source,
          from,
          k,
          inner,
          are,
          value_right e ty.Bool r.0 before source value,
          section_right below from (omega arith) before test,
          section_right below k (omega arith) inner section,
          statements_right ss r.1 (from + 1) k k (omega arith) (omega arith) inner within,
        )
    statement_right (Case e arms) r from to below high low lines (before, source, first, count, are, there, value, choices) =
        (before, source, first, count, are, value_right e ty.Dint r.0 before source value, arms_right arms r.3 from to below high low _ choices)

    statements_right : (ss : Statements) → StatementsAreReady (scope g) ss → (from to below : ℕ) → g.at.floor ≤ from → to ≤ below → (lines : List Line) → AreStatementsOf (owner g) (parts g) from to ss lines → AreStatements around below ss lines
    statements_right no_statement r from to below high low lines h = h.1
    statements_right (statement s ss) r from to below high low lines (k, xs, ys, are, one, rest) =
        let a = statement_rises g s from k xs one in
        let b = statements_rise g ss k to ys rest in
        (xs, ys, are, statement_right s r.0 from k below high (omega arith) xs one, statements_right ss r.1 k to below (omega arith) low ys rest)

    arms_right : (arms : Arms) → ArmsAreReady (scope g) arms → (from to below : ℕ) → g.at.floor ≤ from → to ≤ below → (choices : List Choice) → AreArmsOf (owner g) (parts g) from to arms choices → AreArms around below arms choices
    arms_right no_arm r from to below high low choices h = h.1
    arms_right (arm label ss rest) r from to below high low choices (k, inner, more, are, section, within, later) =
        let a = statements_rise g ss from k inner within in
        let b = arms_rise g rest (k + 1) to more later in
        (k, inner, more, are, section_right below k (omega arith) inner section, statements_right ss r.0 from k k high (omega arith) inner within, arms_right rest r.1 (k + 1) to below (omega arith) low more later)

  body_right : (ss : List Statement) → Each (StatementIsReady (scope g)) ss → (from to below : ℕ) → g.at.floor ≤ from → to ≤ below → (lines : List Line) → AreLinesOf (owner g) (parts g) from to ss lines → AreLines around below ss lines
  body_right [] r from to below high low lines h = h.1
  body_right (s ∷ ss) r from to below high low lines (k, xs, ys, are, one, rest) =
      let a = statement_rises g s from k xs one in
      let b = body_rises ss k to ys rest in
      (xs, ys, are, statement_right s r.0 from k below high (omega arith) xs one, body_right ss r.1 k to below (omega arith) low ys rest)
    where
      body_rises : (us : List Statement) (m n : ℕ) (ls : List Line) → AreLinesOf (owner g) (parts g) m n us ls → m ≤ n
      body_rises [] m n ls h = let e = h.0 in omega arith
      body_rises (u ∷ us) m n ls (j, as_, bs, is, first, others) = let x = statement_rises g u m j as_ first in let y = body_rises us j n bs others in omega arith

  -- ---- the POU
  pub pou_right : IsPou g.unit (plans_of g.unit) g.program g.text g.number (plan_of g.unit g.pou)
  pou_right = record {
    num = num g;
    scope = refl;
    apart = temporaries_apart g.unit g.pou g.own;
    entry = g.at.entry;
    begins = g.at.is_entry;
    frame = first_frame g.unit g.pou g.own (wires g) g.at.spare g.at.wires;
    section = g.at.section.section;
    is = g.at.section.is;
    lines = subst (AreLines around g.at.entry.section g.pou.body) (sym g.at.section.are_lines)
        (body_right g.pou.body g.own.body g.at.floor g.at.entry.section g.at.entry.section (omega arith) (omega arith) g.at.lines g.at.are_lines);
  }
