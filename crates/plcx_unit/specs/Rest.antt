-- Serves proofs: what is broken in the pieces from a place on.
use Rattle.std.specs.Prelude.{ℕ, List, ◌++◌, Option, map, take}
use Rattle.std.specs.List.{list_any}
use Rattle.plcx_meaning.specs.Tree as tree
use Rattle.plcx_meaning.specs.Tree.{PouKind}
use Rattle.plcx_meaning.specs.Layout.{Variable}
use Rattle.plcx_st.specs.declared.tree.Arg.{Arg}
use Rattle.plcx_st.specs.declared.tree.Arm.{Arm}
use Rattle.plcx_st.specs.declared.tree.Stmt.{Stmt}
use Rattle.plcx_st.specs.declared.tree.PouText.{PouText}
use Rattle.plcx_conditions.specs.declared.broken.Condition.TheVariants as condition
use Rattle.plcx_conditions.specs.declared.broken.Broken.{Broken}
use Rattle.plcx_conditions.specs.Broken.{broken_if}
use Rattle.plcx_conditions.specs.Placed as placed
use Rattle.plcx_conditions.specs.Placed.{Word}
use Rattle.plcx_conditions.specs.Places.{placed_word, placed_expression, placed_argument, placed_statement, placed_pou}
use Rattle.plcx_conditions.specs.Known.{same_name, Setting}
use Rattle.plcx_conditions.specs.Expressions.{broken_in_expression}
use Rattle.plcx_conditions.specs.Statements.{broken_in_formal, broken_in_arguments, broken_in_label, broken_in_statements, broken_in_arms}
use Rattle.plcx_conditions.specs.Declarations.{broken_in_variables, broken_in_pous}
use Rattle.plcx_known.specs.declared.owner.Own.{Own}
use Rattle.plcx_known.specs.Unit.{bare_of}
use Rattle.plcx_known.specs.Owned.{shown_variable}
use Rattle.plcx_unit.specs.Pieces.{placed_labelled}

abbrev pub formal_word : Arg → Word
formal_word a = placed_word a.formal

-- what is broken in the arguments from a place on
abbrev pub rest_arguments : Setting → Option (List Variable) → List Arg → ℕ → List Arg → List Broken
rest_arguments s parts args i rest = broken_in_arguments s parts (map formal_word (take i args)) (map placed_argument rest)

-- what is broken in the argument at a place
abbrev pub at_argument : Setting → Option (List Variable) → (names : List (List ℕ)) → ℕ → Arg → List Broken
at_argument s parts names i a =
    broken_if (list_any (λ n. same_name n a.formal.name) (take i names)) condition.Name a.formal.span.start
    ++ (broken_in_expression s (placed_expression a.value) ++ broken_in_formal s parts (placed_argument a))

abbrev pub label_of : Arm → ℕ
label_of a = a.label

-- what is broken in the arms from a place on
abbrev pub rest_arms : Setting → List Arm → ℕ → List Arm → List Broken
rest_arms s all i rest = broken_in_arms s (map label_of (take i all)) (placed.arms (map placed_labelled rest))

-- what is broken in the arm at a place
abbrev pub at_arm : Setting → List Arm → ℕ → Arm → List Broken
at_arm s all i a = broken_in_label (map label_of (take i all)) a.label a.span.start ++ broken_in_statements s (placed.statements (map placed_statement a.body))

-- what is broken in the statements from a place on
abbrev pub rest_statements : Setting → ℕ → List Stmt → List Broken
rest_statements s i rest = broken_in_statements s (placed.statements (map placed_statement rest))

abbrev pub word_of : Own → Word
word_of v = placed_word v.decl.now.name

-- what is broken in the variables from a place on
abbrev pub rest_variables : List tree.PouText → PouKind → List Own → ℕ → List Own → List Broken
rest_variables unit kind all i rest = broken_in_variables unit kind (map word_of (take i all)) (map shown_variable rest)

abbrev pub pou_word : PouText → Word
pou_word p = placed_word p.name

-- what is broken in the POUs from a place on
abbrev pub rest_pous : List PouText → ℕ → List PouText → List Broken
rest_pous pous i rest = broken_in_pous (bare_of pous) (map pou_word (take i pous)) (map placed_pou rest)
