-- What the texts of the ring hold: each variable's name that variable, and `DINT#1` a literal.
use Rattle.std.proofs.Common.{◌≡◌, ℕ, zero, suc, pos, ◌+◌, ◌≤◌, ◌<◌, false, List, [], ◌++◌, map, Option, Some, None, option_map, codes, refl, ap, sym, ◌∙◌, arith, inl, inr, ◌⊎◌}
use Rattle.std.proofs.lemmas.Bool.{cases_eq, cond-true, cond-false}
use Rattle.std.specs.List.{find, range_with_len}
use Rattle.plcx_types.specs.declared.literal.Literal.{Literal}
use Rattle.plcx_types.specs.declared.literal.Literal.TheVariants as literal
use Rattle.plcx_types.specs.declared.ty.Ty.TheVariants as ty
use Rattle.plcx_types.specs.Literal.{value}
use Rattle.plcx_types.specs.Name.{in_lower_case}
use Rattle.plcx_types.specs.Reading.{with_digit, numeral_from, unsigned_whole, whole}
use Rattle.plcx_types.specs.ReadLiteral.{number_behind, of_type, typed_or_whole, timed_or_other, literal_of}
use Rattle.plcx_model.specs.declared.project.ListClass.TheVariants.{Local}
use Rattle.plcx_model.specs.declared.project.Variable.{Variable}
use Rattle.plcx_model.specs.declared.project.Pou.{Pou}
use Rattle.plcx_rules.specs.Texts.{same_name, trimmed}
use Rattle.plcx_rules.specs.Declarations.{Declaration, is_of_name, declaration_named}
use Rattle.plcx_rules.specs.Helds.{Held, OfLiteral, OfVariable, held_by, or_else, member_held, held_in, text_held}
use Rattle.plcx_bench_project.specs.Bench.{variable_name, variable, ring}
use Rattle.plcx_bench_rules.proofs.Names.{name_trimmed, no_literal, name_lower, one_name, two_names}

-- the declaration of a variable: neither constant nor an input
abbrev pub declaration : ℕ → Declaration
declaration i = record { class = Local; constant = false; variable = variable i }

-- as `declarations_of` makes them
abbrev declared : Variable → Declaration
declared v = record { class = Local; constant = false; variable = v }

abbrev declarations_from : ℕ → ℕ → List Declaration
declarations_from a m = map declared (map variable (range_with_len a m)) ++ []

-- the first of the ring's names that is one with a variable's is its own
found : (i a m : ℕ) → a + m ≤ 1000 → a ≤ i → i < a + m → find (is_of_name (variable_name i)) (declarations_from a m) ≡ Some (declaration i)
found i a zero small from to = absurd (omega arith)
found i a (suc m) small from to = by (cases_eq i a) (λ more. found i (a + 1) m (omega arith) more (omega arith))
  where
    by : (i ≡ a) ⊎ (i ≡ a → ⊥)
        → (a + 1 ≤ i → find (is_of_name (variable_name i)) (declarations_from (a + 1) m) ≡ Some (declaration i))
        → find (is_of_name (variable_name i)) (declarations_from a (suc m)) ≡ Some (declaration i)
    by (inl e) later = cond-true _ _ _ (ap (λ j. same_name (variable_name i) (variable_name j)) (sym e) ∙ one_name i) ∙ ap (λ j. Some (declaration j)) (sym e)
    by (inr differ) later = cond-false _ _ _ (two_names i a (omega arith) (omega arith) differ) ∙ later (omega arith)

-- a name leads to its variable
named : (n i : ℕ) → n ≤ 1000 → i < n → declaration_named (ring n) (variable_name i) ≡ Some (declaration i)
unfolding declaration_named
named n i small below = found i 0 n (omega arith) (omega arith) (omega arith)

-- where a text is no literal, a declared name leads to what it holds
by_name : (l : Option Literal) (o : Option Declaration) (other : Option Held) (d : Declaration) → l ≡ None → o ≡ Some d
    → or_else (option_map OfLiteral l) (or_else (option_map (λ (x : Declaration). held_by x x.variable.ty) o) other) ≡ Some (held_by d d.variable.ty)
by_name (Some l) o other d e f = cc
by_name None None other d e f = cc
by_name None (Some x) other d e f = let same : x ≡ d = cc in ap (λ (y : Declaration). Some (held_by y y.variable.ty)) same

held_name : (pous : List Pou) (n i : ℕ) → n ≤ 1000 → i < n → held_in pous (ring n) (variable_name i) ≡ Some (OfVariable (declaration i) ty.Dint)
unfolding held_in
held_name pous n i small below =
    by_name (literal_of (in_lower_case (variable_name i))) (declaration_named (ring n) (variable_name i)) (member_held pous (ring n) (variable_name i)) (declaration i)
    (ap literal_of (name_lower i (omega arith)) ∙ no_literal _) (named n i small below)

-- a variable's name holds the variable
pub name_holds : (pous : List Pou) (n i : ℕ) → n ≤ 1000 → i < n → text_held pous (ring n) (variable_name i) ≡ Some (OfVariable (declaration i) ty.Dint)
name_holds pous n i small below = ap (held_in pous (ring n)) (name_trimmed i (omega arith)) ∙ held_name pous n i small below

-- `DINT#1` holds a literal of its type
pub one_holds : (pous : List Pou) (n : ℕ) → text_held pous (ring n) (codes "DINT#1") ≡ Some (OfLiteral (literal.Typed (value ty.Dint (pos 1))))
unfolding trimmed held_in with_digit numeral_from unsigned_whole whole number_behind of_type typed_or_whole timed_or_other literal_of
one_holds pous n = refl
