-- The texts that are ready, and those that are not.
use Rattle.std.proofs.Common.{◌≡◌, ◌≢◌, ℕ, zero, suc, true, false, List, [], ◌∷◌, Some, None, refl, sym, ap, ◌∙◌, subst, arith}
use Rattle.plcx_funcs.specs.Applied.{value}
use Rattle.plcx_types.specs.Lists.{Each}
use Rattle.plcx_meaning.specs.Tree.{PouKind, Program, FunctionBlock, Local, InOut, Constant, Statement, Assign, Call, Case, Name, Member, Apply, PouText, no_statement, expressions, no_arm, arm}
use Rattle.std.specs.Prelude.{pos, codes}
use Rattle.plcx_types.specs.declared.ty.Ty.{Ty}
use Rattle.plcx_types.specs.declared.ty.Ty.TheVariants as ty
use Rattle.plcx_types.proofs.TypeTable.{within_range}
use Rattle.plcx_types.specs.Reserved.{is_conversion, is_listed}
use Rattle.plcx_types.specs.TypeName.{type_named}
use Rattle.plcx_meaning.specs.Layout.{Variable, variables_of}
use Rattle.plcx_meaning.specs.Typed.{variable_in}
use Rattle.plcx_meaning.specs.Execute.{scope_of}
use Rattle.plcx_meaning.specs.Ready.{VariableIsReady, unit_knows, PouIsReady, IsReady, TextNests, StatementIsReady}
use Rattle.plcx_meaning.specs.ReadyExamples.{counting, argument, int, with_body, unit_with, ready_unit, unbound, bound_to_number, bound_to_temporary, undeclared, undeclared_target, mistyped, no_condition, operator_called, input_read, equal_labels, large_label, formal_twice, formal_unknown, out_of_range, declared_twice, listed_name, wrong_initial, stored_constant, instance_as_input, program_in_out, unknown_type, stored_input, within_itself}

-- the first statement of the program
first : (s : Statement) (ss : List Statement) → IsReady (unit_with (s ∷ ss)) → StatementIsReady (scope_of (unit_with (s ∷ ss)) (with_body (s ∷ ss))) s
first s ss h = h.pous.1.0.body.0

pub unbound_not : IsReady unbound → ⊥
unbound_not h = let e = (first _ _ h).bound in absurd (cc)

pub bound_to_number_not : IsReady bound_to_number → ⊥
bound_to_number_not h = (first _ _ h).values.0

pub bound_to_temporary_not : IsReady bound_to_temporary → ⊥
bound_to_temporary_not h = let v = (first _ _ h).values.0 in let found = v.found in let passes = v.passes in absurd (cc)

pub undeclared_not : IsReady undeclared → ⊥
undeclared_not h = let e = (first _ _ h).2.typed in absurd (cc)

pub undeclared_target_not : IsReady undeclared_target → ⊥
undeclared_target_not h = let e = (first _ _ h).1.found in absurd (cc)

pub mistyped_not : IsReady mistyped → ⊥
mistyped_not h = let s = first _ _ h in let found = s.1.found in let typed = s.1.typed in let given = s.2.typed in mistyped_at s.1.variable s.0 found typed given
  where
    mistyped_at : (v : Variable) (t : Ty) → variable_in (scope_of mistyped (with_body (Assign (codes "X") (Name (codes "A")) ∷ []))) (codes "X") ≡ Some v → type_named v.ty ≡ Some t → Some ty.Bool ≡ Some t → ⊥
    mistyped_at v t found typed given = let same : v.ty ≡ codes "int" = cc in let e : type_named (codes "int") ≡ Some t = ap type_named (sym same) ∙ typed in absurd (cc)

pub no_condition_not : IsReady no_condition → ⊥
no_condition_not h = let e = (first _ _ h).0.typed in absurd (cc)

pub operator_called_not : IsReady operator_called → ⊥
operator_called_not h = let e = (first _ _ h).2.typed in absurd (cc)

pub input_read_not : IsReady input_read → ⊥
input_read_not h = let e = (first _ _ h).2.typed in absurd (cc)

pub equal_labels_not : IsReady equal_labels → ⊥
equal_labels_not h = let e = (first _ _ h).2 in absurd (cc)

pub large_label_not : IsReady large_label → ⊥
large_label_not h = let low = (first _ _ h).1.0 in omega arith

pub formal_twice_not : IsReady formal_twice → ⊥
formal_twice_not h = let e = (first _ _ h).distinct in absurd (cc)

pub formal_unknown_not : IsReady formal_unknown → ⊥
formal_unknown_not h = (first _ _ h).values.0

pub listed_name_not : IsReady listed_name → ⊥
listed_name_not h = let e = h.pous.1.0.variables.0.free in absurd (cc)

pub wrong_initial_not : IsReady wrong_initial → ⊥
wrong_initial_not h = let e = (h.pous.1.0.variables.0.initial (value ty.Int (pos 1)) refl).0 in absurd (cc)

pub stored_constant_not : IsReady stored_constant → ⊥
stored_constant_not h = let v = h.pous.0.body.0.1 in let found = v.found in let passes = v.passes in absurd (cc)

pub out_of_range_not : IsReady out_of_range → ⊥
out_of_range_not h = (first _ _ h).2.range.1.le

pub declared_twice_not : IsReady declared_twice → ⊥
declared_twice_not h = let e = h.pous.1.0.distinct in absurd (cc)

pub instance_as_input_not : IsReady instance_as_input → ⊥
instance_as_input_not h = let e = (h.pous.1.0.variables.0.instance refl).0 in absurd (cc)

pub program_in_out_not : IsReady program_in_out → ⊥
program_in_out_not h = h.pous.1.0.variables.0.in_out refl refl

pub unknown_type_not : IsReady unknown_type → ⊥
unknown_type_not h = let e = h.pous.1.0.variables.0.known in absurd (cc)

pub stored_input_not : IsReady stored_input → ⊥
stored_input_not h = let v = h.pous.0.body.0.1 in let found = v.found in let passes = v.passes in absurd (cc)

endless : (n : ℕ) → TextNests n (within_itself ∷ []) within_itself → ⊥
endless zero h = let e = h.0 in absurd (cc)
endless (suc n) h = endless n (h.0 within_itself refl)

pub within_itself_not : IsReady (within_itself ∷ []) → ⊥
within_itself_not h = endless 16 h.pous.0.nests

plain_variable : (unit : List PouText) (kind : PouKind) (v : Variable) → is_listed v.name ≡ false → unit_knows unit v.ty ≡ true → v.initial ≡ None → (type_named v.ty ≡ None → (v.class ≡ Local) × (v.mark ≢ Constant)) → (v.class ≡ InOut → kind ≢ Program) → VariableIsReady unit kind v
plain_variable unit kind v free known none instance in_out = record { free = free; known = known; initial = λ value e. absurd (cc); instance = instance; in_out = in_out }

-- and the text that is
abbrev main : PouText
main = with_body
    (Call (codes "k") (argument (codes "v") (Name (codes "X")) ∷ [])
    ∷ Call (codes "T1") (argument (codes "IN") (Name (codes "A")) ∷ [])
    ∷ Assign (codes "a") (Member (codes "t1") (codes "q"))
    ∷ Assign (codes "Y") (Apply (codes "max") (expressions (Name (codes "X") ∷ int 3 ∷ [])))
    ∷ Case (Name (codes "D")) (arm 0 no_statement (arm 1 no_statement no_arm))
    ∷ [])

counting_ready : PouIsReady ready_unit counting
unfolding is_conversion
counting_ready = record {
  free = refl;
  distinct = refl;
  variables = (plain_variable ready_unit FunctionBlock _ refl refl refl (λ e. absurd (cc)) (λ e k. cc), tt);
  body = ((ty.Int, record { variable = _; found = refl; typed = refl; passes = refl }, record { typed = refl; range = (tt, within_range ty.Int (pos 1) refl) }), tt);
  nests = ((λ q e. absurd (cc)), tt);
  small = omega arith;
}

main_variables : Each (VariableIsReady ready_unit Program) (variables_of main.blocks)
unfolding is_conversion
main_variables = (
  plain_variable ready_unit Program _ refl refl refl (λ e. absurd (cc)) (λ e k. cc),
  (
    plain_variable ready_unit Program _ refl refl refl (λ e. absurd (cc)) (λ e k. cc),
    (
      plain_variable ready_unit Program _ refl refl refl (λ e. absurd (cc)) (λ e k. cc),
      (
        plain_variable ready_unit Program _ refl refl refl (λ e. (refl, λ k. cc)) (λ e k. cc),
        (
          plain_variable ready_unit Program _ refl refl refl (λ e. (refl, λ k. cc)) (λ e k. cc),
          (plain_variable ready_unit Program _ refl refl refl (λ e. absurd (cc)) (λ e k. cc), tt),
        ),
      ),
    ),
  ),
)

main_nests : TextNests 16 ready_unit main
main_nests = (
  (λ q e. absurd (cc)),
  (
    (λ q e. absurd (cc)),
    (
      (λ q e. absurd (cc)),
      (
        (λ q e. let same : counting ≡ q = cc in subst (TextNests 15 ready_unit) same ((λ r k. absurd (cc)), tt)),
        (
          (λ q e. absurd (cc)),
          ((λ q e. absurd (cc)), tt),
        ),
      ),
    ),
  ),
)

main_body : Each (StatementIsReady (scope_of ready_unit main)) main.body
main_body = (
  record { type = codes "INC"; instance = refl; distinct = refl; values = (record { variable = _; found = refl; typed = refl; passes = refl }, tt); bound = refl },
  (
    record { type = codes "TON"; instance = refl; distinct = refl; values = (record { typed = refl; range = tt }, tt); bound = refl },
    (
      (ty.Bool, record { variable = _; found = refl; typed = refl; passes = refl }, record { typed = refl; range = tt }),
      (
        (ty.Int, record { variable = _; found = refl; typed = refl; passes = refl }, record { typed = refl; range = (tt, (within_range ty.Int (pos 3) refl, tt)) }),
        (
          (record { typed = refl; range = tt }, (omega arith, (omega arith, tt)), refl, (tt, (tt, tt))),
          tt,
        ),
      ),
    ),
  ),
)

main_ready : PouIsReady ready_unit main
unfolding is_conversion
main_ready = record { free = refl; distinct = refl; variables = main_variables; body = main_body; nests = main_nests; small = omega arith }

pub is_ready : IsReady ready_unit
is_ready = record { distinct = refl; pous = (counting_ready, (main_ready, tt)) }
