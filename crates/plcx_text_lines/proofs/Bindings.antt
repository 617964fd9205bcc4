-- What in-outs are bound to, by the arguments of their names.
use Rattle.std.proofs.Common.{◌≡◌, ℕ, Bool, true, false, cond, Bor, List, [], ◌∷◌, map, Option, Some, None, refl, sym, ap, ◌∙◌}
use Rattle.std.specs.Option.{option_and_then, option_copied}
use Rattle.std.specs.Prelude.{slice_get, if◌then◌else◌}
use Rattle.std.specs.List.{find}
use Rattle.std.specs.Str.{bytes_eq}
use Rattle.plcx_types.specs.Name.{in_lower_case}
use Rattle.plcx_st.specs.declared.tree.Arg.{Arg}
use Rattle.plcx_st.specs.Meant.{expr_meant, arg_meant}
use Rattle.plcx_steps.specs.declared.program.Operand.{Operand}
use Rattle.plcx_steps.specs.declared.program.Operand.TheVariants.{Leaf}
use Rattle.plcx_conditions.specs.Known.{same_name}
use Rattle.plcx_known.specs.Names.{first_place}
use Rattle.plcx_known.proofs.Places.{place_map, at_place}
use Rattle.plcx_text_numbered.specs.Prepared.{Numbering}
use Rattle.plcx_text_numbered.specs.Numbers.{operand_in, bound_operand}
use Rattle.plcx_text_lines.specs.Added.{formals}

abbrev pub bound_by : Numbering → Option Arg → Operand
bound_by c None = Leaf 0
bound_by c (Some a) = operand_in c (expr_meant a.value)

abbrev of_name : List ℕ → Arg → Bool
of_name name a = same_name a.formal.name name

first_bound : (c : Numbering) (name : List ℕ) (args : List Arg) → bound_operand c (map arg_meant args) (in_lower_case name) ≡ bound_by c (find (of_name name) args)
first_bound c name [] = refl
first_bound c name (a ∷ rest) = by_test (bytes_eq (in_lower_case a.formal.name) (in_lower_case name)) (first_bound c name rest)
  where
    by_test : (b : Bool) → bound_operand c (map arg_meant rest) (in_lower_case name) ≡ bound_by c (find (of_name name) rest)
        → (if b then operand_in c (expr_meant a.value) else bound_operand c (map arg_meant rest) (in_lower_case name)) ≡ bound_by c (cond b (Some a) (find (of_name name) rest))
    by_test true h = refl
    by_test false h = h

-- what is bound is what the argument at the first place of the name has
pub bound_at : (c : Numbering) (name : List ℕ) (args : List Arg) (names : List (List ℕ)) (place : Option ℕ) → names ≡ formals args → place ≡ first_place name names
    → bound_operand c (map arg_meant args) (in_lower_case name) ≡ bound_by c (option_and_then (slice_get args) place)
bound_at c name args names place are is =
    first_bound c name args
    ∙ ap (bound_by c) (sym (at_place (of_name name) args)
    ∙ ap (option_and_then (slice_get args)) (sym (is ∙ ap (first_place name) are ∙ place_map (λ n. same_name n name) (λ (a : Arg). a.formal.name) 0 args)))

-- the cases of the argument that is found there
found_there : (c : Numbering) (name : List ℕ) (args : List Arg) (names : List (List ℕ)) (r : Option (Bor Arg)) → names ≡ formals args → option_copied r ≡ option_and_then (slice_get args) (first_place name names)
    → bound_by c (option_copied r) ≡ bound_operand c (map arg_meant args) (in_lower_case name)
found_there c name args names r are there = ap (bound_by c) there ∙ sym (bound_at c name args names (first_place name names) are refl)

pub bound_none : (c : Numbering) (name : List ℕ) (args : List Arg) (names : List (List ℕ)) (r : Option (Bor Arg)) → names ≡ formals args → option_copied r ≡ option_and_then (slice_get args) (first_place name names) → r ≡ None
    → Leaf 0 ≡ bound_operand c (map arg_meant args) (in_lower_case name)
bound_none c name args names r are there none = sym (ap (λ q. bound_by c (option_copied q)) none) ∙ found_there c name args names r are there

pub bound_here : (c : Numbering) (name : List ℕ) (args : List Arg) (names : List (List ℕ)) (r : Option (Bor Arg)) (a : Bor Arg) (o : Operand) → names ≡ formals args → option_copied r ≡ option_and_then (slice_get args) (first_place name names) → r ≡ Some a
    → o ≡ operand_in c (expr_meant a.now.value) → o ≡ bound_operand c (map arg_meant args) (in_lower_case name)
bound_here c name args names r a o are there found value = value ∙ sym (ap (λ q. bound_by c (option_copied q)) found) ∙ found_there c name args names r are there
