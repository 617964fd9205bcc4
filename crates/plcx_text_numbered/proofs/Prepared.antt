-- The example's text is prepared of its unit.
use Rattle.std.proofs.Common.{◌≡◌, ℕ, zero, suc, ◌+◌, ◌<◌, ◌≤◌, List, [], ◌∷◌, length, Some, refl, sym, ap, ◌∙◌, subst, arith, inl, inr}
use Rattle.std.specs.Prelude.{slice_get, slice_range, option_map, codes}
use Rattle.std.proofs.lemmas.Option.{same_Some, slice_get-map}
use Rattle.plcx_types.specs.declared.ty.Ty.{Ty}
use Rattle.plcx_types.specs.declared.ty.Ty.TheVariants as ty
use Rattle.plcx_std.specs.declared.kind.StdKind.TheVariants as kind
use Rattle.plcx_std.specs.Pins.{Pin, pins}
use Rattle.plcx_meaning.specs.Tree.{Expression, Name, Assign, no_statement, statement, no_arm, arm}
use Rattle.plcx_meaning.specs.ReadyExamples.{argument, int, counting, with_body}
use Rattle.plcx_meaning.specs.Typed.{expression_type}
use Rattle.plcx_meaning.specs.Layout.{variables_of}
use Rattle.plcx_meaning.specs.Execute.{bind, fresh}
use Rattle.plcx_funcs.specs.declared.func.Func.TheVariants as func
use Rattle.plcx_steps.specs.declared.program.Operand.{Operand}
use Rattle.plcx_steps.specs.declared.program.Operand.TheVariants.{Leaf}
use Rattle.plcx_steps.specs.declared.program.Source.TheVariants.{Constant, Wire, Variable}
use Rattle.plcx_steps.specs.declared.program.Argument.{Argument as Input}
use Rattle.plcx_steps.specs.declared.program.Action.TheVariants as action
use Rattle.plcx_steps.specs.declared.program.Program.{Program}
use Rattle.plcx_steps.specs.Numbered.{number_at}
use Rattle.plcx_numbered.specs.Agreeing.{AreApart}
use Rattle.plcx_text_steps.specs.declared.text.Arm.{Arm as Choice}
use Rattle.plcx_text_steps.specs.declared.text.Line.{Line}
use Rattle.plcx_text_steps.specs.declared.text.Line.TheVariants as line
use Rattle.plcx_text_steps.specs.declared.text.Section.{Section}
use Rattle.plcx_text_steps.specs.declared.text.Text.{Text}
use Rattle.plcx_text_numbered.specs.Setting.{setting}
use Rattle.plcx_text_numbered.specs.Prepared.{wires_of, source_of, arguments_of, lines_of}
use Rattle.plcx_text_numbered.specs.Right.{RightExpression}
use Rattle.plcx_text_numbered.specs.Statements.{PouPlan, Around, IsExpression, IsBoundTo, IsSection, AreArms, AreLines, IsPou, IsPrepared}
use Rattle.plcx_text_numbered.specs.Example.{unit, body, plans, timer, counting_plan, main_plan, counting_numbers, main_numbers, all_inputs, counting_lines, test_lines, turn_lines, if_lines, arm_lines, block_lines, timer_lines, member_lines, greater_lines, loop_lines, choice_lines, case_lines, main_lines, int_value, IsExample}

none_apart : AreApart {K = List ℕ} []
none_apart = record { apart = λ i j k h g. absurd (nothing i k h) }
  where
    nothing : (i : ℕ) (k : List ℕ) → slice_get [] i ≡ Some k → ⊥
    nothing i k h = cc

one_apart : (a : List ℕ) → AreApart (a ∷ [])
one_apart a = record { apart = at }
  where
    at : (i j : ℕ) (k : List ℕ) → slice_get (a ∷ []) i ≡ Some k → slice_get (a ∷ []) j ≡ Some k → i ≡ j
    at zero zero k h g = refl
    at zero (suc j) k h g = absurd (cc)
    at (suc i) j k h g = absurd (cc)

-- the leaves of the timer
timer_at : (j : ℕ) (p : Pin) → slice_get (pins kind.Ton) j ≡ Some p → slice_get main_plan.plan.paths (3 + j) ≡ Some (timer p)
timer_at j p there =
    let e : 3 + j ≡ suc (suc (suc j)) = omega arith in
    ap (slice_get main_plan.plan.paths) e ∙ slice_get-map timer (pins kind.Ton) j ∙ ap (option_map timer) there

module _ (program : Program) (text : Text) (h : IsExample program text) where
  -- inputs of functions stand where they have to
  has_at : (first : ℕ) (xs : List Input) → slice_range all_inputs first (first + length xs) ≡ xs → slice_range program.arguments.items first (first + length xs) ≡ xs
  has_at first xs e = ap (λ ys. slice_range ys first (first + length xs)) h.inputs ∙ e

  -- ---- the block
  abbrev block_around : Around
  block_around = record { unit = unit; plans = plans; own = counting_plan; program = program; text = text; num = counting_numbers; width = length h.block.wires.items }

  block_lines_are : AreLines block_around h.block.section counting.body counting_lines
  block_lines_are =
      let wide : length h.block.wires.items ≡ 1 = ap length h.block_wires in
      let low : 0 + 1 ≤ length h.block.wires.items = omega arith in (
        counting_lines,
        [],
        refl,
        record {
          type = ty.Int;
          typed = refl;
          place = refl;
          before = line.Act (action.Apply func.Add ty.Int 0 2 0) ∷ [];
          source = Wire 0;
          value = record { wire = 0; value = record { typed = refl; right = (refl, tt); first = 0; has = has_at 0 _ refl; free = omega arith; room = low; are_lines = refl; is_source = refl } };
          are_lines = refl;
        },
        refl,
      )

  block_is : IsPou unit plans program text 0 counting_plan
  block_is = record {
    num = counting_numbers;
    scope = refl;
    apart = none_apart;
    entry = h.block;
    begins = ap (λ es. slice_get es 0) h.entries;
    frame = record { long = omega arith; each = λ i k e. absurd (cc) };
    section = h.counts;
    is = ap (slice_get text.sections.items) h.block_begins ∙ ap (λ ss. slice_get ss 0) h.sections;
    lines = subst (AreLines block_around h.block.section counting.body) (sym h.counts_has) block_lines_are;
  }

  -- ---- the program
  abbrev around : Around
  around = record { unit = unit; plans = plans; own = main_plan; program = program; text = text; num = main_numbers; width = length h.main.wires.items }

  wide : length h.main.wires.items ≡ 6
  wide = ap length h.main_has

  -- a section within the program
  part : (k : ℕ) (s : Section) (lines : List Line) → slice_get text.sections.items k ≡ Some s → k < 5 → s.lines.items ≡ lines → IsSection text h.main.section k lines
  part k s lines there low has = let e = h.main_begins in record { section = s; is = there; low = omega arith; are_lines = has }

  -- an expression, whose inputs begin with this one and whose wires with this one
  value_is : (first wire : ℕ) (e : Expression) (t : Ty) → expression_type main_numbers.scope e ≡ Some t → RightExpression main_plan.plan main_numbers e
      → slice_range all_inputs first (first + length (arguments_of main_numbers wire e)) ≡ arguments_of main_numbers wire e → 1 ≤ wire → wire + wires_of e ≤ 6
      → IsExpression around wire e t (lines_of main_numbers first wire e) (source_of main_numbers wire e)
  value_is first wire e t typed right has free room =
      let w = wide in
      record { typed = typed; right = right; first = first; has = has_at first (arguments_of main_numbers wire e) has; free = free; room = omega arith; are_lines = refl; is_source = refl }

  bound_is : (j : ℕ) (key : List ℕ) → slice_get counting_plan.plan.in_outs j ≡ Some key
      → (o : Operand) × (slice_get (Leaf 1 ∷ []) j ≡ Some o) × IsBoundTo main_plan.plan o (λ site. bind (argument (codes "V") (Name (codes "X")) ∷ []) (setting main_numbers.scope site) (codes "K") key)
  bound_is zero key e =
      let P : List ℕ → Type 0 = λ k. (o : Operand) × (slice_get (Leaf 1 ∷ []) 0 ≡ Some o) × IsBoundTo main_plan.plan o (λ site. bind (argument (codes "V") (Name (codes "X")) ∷ []) (setting main_numbers.scope site) (codes "K") k) in
      subst P (same_Some (codes "v") key e) (Leaf 1, refl, (codes "x", refl, λ site. refl))
  bound_is (suc j) key e = absurd (cc)

  main_lines_are : AreLines around h.main.section body main_lines
  main_lines_are = (
    block_lines,
    _,
    refl,
    record {
      type = codes "INC";
      instance = refl;
      all = refl;
      wire = 1;
      free = omega arith;
      taken = [];
      are_taken = ([], [], refl, (refl, refl), refl);
      called = block_lines;
      callee = inr (record {
        user = refl;
        number = 0;
        plan = counting_plan;
        is_plan = refl;
        block = refl;
        level = omega arith;
        entry = h.block;
        begins = ap (λ es. slice_get es 0) h.entries;
        low = let a = h.block_begins in let b = h.main_begins in omega arith;
        leaves = 3;
        lies = record { paths = λ i x e. absurd (cc) };
        first = 0;
        operands = Leaf 1 ∷ [];
        has = ap (λ xs. slice_range xs 0 1) h.bindings;
        bound = bound_is;
        are_lines = refl;
      });
      are_lines = refl;
    },
    (
      timer_lines,
      _,
      refl,
      record {
        type = codes "TON";
        instance = refl;
        all = refl;
        wire = 1;
        free = omega arith;
        taken = line.Act (action.Fix (Variable (Leaf 0)) 1) ∷ [];
        are_taken = (
          line.Act (action.Fix (Variable (Leaf 0)) 1) ∷ [],
          [],
          refl,
          record { before = []; source = Variable (Leaf 0); value = value_is 0 1 (Name (codes "A")) ty.Bool refl refl refl (omega arith) (omega arith); room = let w = wide in let low : 1 + 0 < length h.main.wires.items = omega arith in low; are_lines = refl; leaf = refl },
          refl,
        );
        called = line.Act (action.Standard kind.Ton 3) ∷ [];
        callee = inl (record { kind = kind.Ton; named = refl; first = 3; are_lines = refl; leaves = timer_at });
        are_lines = refl;
      },
      (
        member_lines,
        _,
        refl,
        record { type = ty.Bool; typed = refl; place = refl; before = []; source = Variable (Leaf 5); value = record { wire = 1; value = value_is 0 1 _ ty.Bool refl refl refl (omega arith) (omega arith) }; are_lines = refl },
        (
          greater_lines,
          _,
          refl,
          record { type = ty.Int; typed = refl; place = refl; before = _; source = Wire 2; value = record { wire = 2; value = value_is 2 2 _ ty.Int refl (refl, (tt, tt)) refl (omega arith) (omega arith) }; are_lines = refl },
          (
            loop_lines,
            _,
            refl,
            (
              test_lines,
              Wire 3,
              1,
              2,
              turn_lines,
              refl,
              record { wire = 3; value = value_is 4 3 _ ty.Bool refl (refl, tt) refl (omega arith) (omega arith) },
              part 1 h.tests test_lines (ap (λ ss. slice_get ss 1) h.sections) (omega arith) h.tests_has,
              part 2 h.turns turn_lines (ap (λ ss. slice_get ss 2) h.sections) (omega arith) h.turns_has,
              (
                turn_lines,
                [],
                refl,
                record { type = ty.Int; typed = refl; place = refl; before = _; source = Wire 4; value = record { wire = 4; value = value_is 6 4 _ ty.Int refl (refl, tt) refl (omega arith) (omega arith) }; are_lines = refl },
                refl,
              ),
            ),
            (
              choice_lines,
              _,
              refl,
              (
                line.Act (action.Apply func.Not ty.Bool 8 1 5) ∷ [],
                Wire 5,
                3,
                if_lines,
                refl,
                record { wire = 5; value = value_is 8 5 _ ty.Bool refl refl refl (omega arith) (omega arith) },
                part 3 h.ifs if_lines (ap (λ ss. slice_get ss 3) h.sections) (omega arith) h.ifs_has,
                (
                  if_lines,
                  [],
                  refl,
                  record { type = ty.Int; typed = refl; place = refl; before = []; source = Wire 0; value = record { wire = 1; value = value_is 0 1 _ ty.Int refl refl refl (omega arith) (omega arith) }; are_lines = refl },
                  refl,
                ),
              ),
              (
                case_lines,
                [],
                refl,
                (
                  [],
                  Variable (Leaf 2),
                  0,
                  1,
                  refl,
                  record { wire = 1; value = value_is 0 1 _ ty.Dint refl refl refl (omega arith) (omega arith) },
                  arms_are,
                ),
                refl,
              ),
            ),
          ),
        ),
      ),
    ),
  )
    where
      arms_are : AreArms around h.main.section (arm 1 (statement (Assign (codes "X") (int 0)) no_statement) no_arm) (slice_range text.arms.items 0 (0 + 1))
      arms_are =
          let P : List Choice → Type 0 = AreArms around h.main.section (arm 1 (statement (Assign (codes "X") (int 0)) no_statement) no_arm) in
          subst P (sym (ap (λ xs. slice_range xs 0 1) h.arms)) (
            4,
            arm_lines,
            [],
            refl,
            part 4 h.arm_part arm_lines (ap (λ ss. slice_get ss 4) h.sections) (omega arith) h.arm_has,
            (
              arm_lines,
              [],
              refl,
              record { type = ty.Int; typed = refl; place = refl; before = []; source = Constant (int_value 0); value = record { wire = 1; value = value_is 0 1 _ ty.Int refl tt refl (omega arith) (omega arith) }; are_lines = refl },
              refl,
            ),
            refl,
          )

  first_wire : (i : ℕ) (key : List ℕ) → slice_get main_plan.plan.temporaries i ≡ Some key → fresh (variables_of (with_body body).blocks) key ≡ number_at h.main.wires.items i
  first_wire zero key e =
      let P : List ℕ → Type 0 = λ k. fresh (variables_of (with_body body).blocks) k ≡ number_at h.main.wires.items 0 in
      subst P (same_Some (codes "y") key e) (sym (ap (λ ws. number_at ws 0) h.main_has))
  first_wire (suc i) key e = absurd (cc)

  main_is : IsPou unit plans program text 1 main_plan
  main_is =
      let w = wide in
      record {
        num = main_numbers;
        scope = refl;
        apart = one_apart (codes "y");
        entry = h.main;
        begins = ap (λ es. slice_get es 1) h.entries;
        frame = record { long = let low : 1 ≤ length h.main.wires.items = omega arith in low; each = first_wire };
        section = h.mains;
        is = ap (slice_get text.sections.items) h.main_begins ∙ ap (λ ss. slice_get ss 5) h.sections;
        lines = subst (AreLines around h.main.section body) (sym h.mains_has) main_lines_are;
      }

  pub example_is : IsPrepared unit plans program text
  example_is = record { each = each }
    where
      each : (k : ℕ) (own : PouPlan) → slice_get plans k ≡ Some own → IsPou unit plans program text k own
      each zero own e = subst (IsPou unit plans program text 0) (same_Some counting_plan own e) block_is
      each (suc zero) own e = subst (IsPou unit plans program text 1) (same_Some main_plan own e) main_is
      each (suc (suc k)) own e = absurd (cc)
