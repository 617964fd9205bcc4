-- The types of expressions, and what is broken in them, by what is found of their parts.
use Rattle.std.proofs.Common.{◌≡◌, ℕ, suc, List, [], ◌∷◌, ◌++◌, length, Vec, Global, Option, Some, None, map, option_map, option_and_then, refl, sym, ap, ap₂, ◌∙◌}
use Rattle.plcx_types.specs.declared.ty.Ty.{Ty}
use Rattle.plcx_types.specs.Name.{in_lower_case}
use Rattle.plcx_funcs.specs.declared.func.Func.{Func}
use Rattle.plcx_funcs.specs.declared.func.Func.TheVariants as func
use Rattle.plcx_funcs.specs.Names.{function_named}
use Rattle.plcx_meaning.specs.Tree as tree
use Rattle.plcx_meaning.specs.Tree.{Class, Local, Input, Output, InOut, Temp, Operator}
use Rattle.plcx_meaning.specs.Layout as layout
use Rattle.plcx_meaning.specs.Layout.{Variable, variable_named, Meaning, Elementary, Composed, meaning, parts}
use Rattle.plcx_meaning.specs.Execute.{function_of, elementary, referent_by, referent}
use Rattle.plcx_meaning.specs.Typed.{referent_type, read_type, member_type, result_type, call_type}
use Rattle.plcx_conditions.specs.declared.broken.Condition.TheVariants as condition
use Rattle.plcx_conditions.specs.declared.broken.Broken.{Broken}
use Rattle.plcx_conditions.specs.Broken.{broken_if}
use Rattle.plcx_conditions.specs.First.{sooner, first_of}
use Rattle.plcx_conditions.specs.Placed as placed
use Rattle.plcx_conditions.specs.Placed.{Word, Expression, Expressions, no_expression, expression, expressions, bare_expression, bare_expressions}
use Rattle.plcx_conditions.specs.Known.{known, world_of, Seen, seen, Setting, found, type_in}
use Rattle.plcx_conditions.specs.Expressions.{broken_in_name, broken_in_member, broken_in_call, broken_in_expression, broken_in_expressions, broken_in_operator, refuses, count_of, types_in}
use Rattle.plcx_conditions.proofs.Firsts.{first_append, sooner_assoc, sooner_none}
use Rattle.plcx_known.specs.declared.types.VarType.{VarType}
use Rattle.plcx_known.specs.declared.types.VarType.TheVariants as type
use Rattle.plcx_known.specs.Types.{type_of, parts_of, meaning_of}
use Rattle.plcx_known.proofs.Standing.{plain, meaning_is, known_is}
use Rattle.plcx_unit.specs.declared.pieces.Judged.{Judged}
use Rattle.plcx_unit.specs.declared.pieces.Listed.{Listed}
use Rattle.plcx_unit.specs.Pieces.{IsJudged, AreJudged, elementary_of, value_type, output_type, part_type, member_value, with_type, one_type, two_types}

-- ---- types

module _ (unit : List tree.PouText) where
  of_class : (class : Class) (t : Ty) → referent_type (elementary class t) ≡ Some t
  of_class Local t = refl
  of_class Input t = refl
  of_class Output t = refl
  of_class InOut t = refl
  of_class Temp t = refl

  of_type : (t : VarType) (class : Class) (name : List ℕ) → referent_type (referent_by (plain unit t) class name) ≡ elementary_of (meaning_of unit t)
  of_type type.Unknown class name = refl
  of_type (type.Elementary t) class name = of_class class t
  of_type (type.Standard k) class name = refl
  of_type (type.Block place) class name = refl

  of_variable : (v : Variable) → referent_type (referent_by (meaning (world_of unit) v.ty) v.class v.ty) ≡ elementary_of (known unit v.ty)
  of_variable v = ap (λ m. referent_type (referent_by m v.class v.ty)) (meaning_is unit v.ty) ∙ of_type (type_of unit v.ty) v.class v.ty ∙ sym (ap elementary_of (known_is unit v.ty))

  -- what is read of a part
  abbrev read_as : Class → Option Meaning → Option Ty
  read_as class m = elim class [ Output ↦ elementary_of m | _ ↦ None ]

  read_plain : (t : VarType) (class : Class) → read_type (plain unit t) class ≡ read_as class (meaning_of unit t)
  read_plain type.Unknown Local = refl
  read_plain type.Unknown Input = refl
  read_plain type.Unknown Output = refl
  read_plain type.Unknown InOut = refl
  read_plain type.Unknown Temp = refl
  read_plain (type.Elementary t) Local = refl
  read_plain (type.Elementary t) Input = refl
  read_plain (type.Elementary t) Output = refl
  read_plain (type.Elementary t) InOut = refl
  read_plain (type.Elementary t) Temp = refl
  read_plain (type.Standard k) Local = refl
  read_plain (type.Standard k) Input = refl
  read_plain (type.Standard k) Output = refl
  read_plain (type.Standard k) InOut = refl
  read_plain (type.Standard k) Temp = refl
  read_plain (type.Block place) Local = refl
  read_plain (type.Block place) Input = refl
  read_plain (type.Block place) Output = refl
  read_plain (type.Block place) InOut = refl
  read_plain (type.Block place) Temp = refl

  of_output : (o : Option Variable) → member_type (world_of unit) o ≡ output_type (option_map (seen unit) o)
  of_output None = refl
  of_output (Some v) =
      ap (λ m. read_type m v.class) (meaning_is unit v.ty) ∙ read_plain (type_of unit v.ty) v.class
      ∙ sym (ap (read_as v.class) (known_is unit v.ty))

name_typed : (s : Setting) (x : List ℕ) → type_in s (tree.Name x) ≡ value_type (found s x)
name_typed s x = by (variable_named (in_lower_case x) s.own)
  where
    by : (o : Option Variable) → referent_type (referent (world_of s.unit) o) ≡ value_type (option_map (seen s.unit) o)
    by None = refl
    by (Some v) = of_variable s.unit v

member_typed : (s : Setting) (i x : List ℕ) → type_in s (tree.Member i x) ≡ member_value s (found s i) x
member_typed s i x = by (variable_named (in_lower_case i) s.own)
  where
    of_parts : (t : VarType) → member_type (world_of s.unit) (variable_named (in_lower_case x) (parts (plain s.unit t))) ≡ part_type s (meaning_of s.unit t) x
    of_parts type.Unknown = refl
    of_parts (type.Elementary t) = refl
    of_parts (type.Standard k) = of_output s.unit (variable_named (in_lower_case x) (parts_of s.unit (type.Standard k)))
    of_parts (type.Block place) = of_output s.unit (variable_named (in_lower_case x) (parts_of s.unit (type.Block place)))

    by : (o : Option Variable) → member_type (world_of s.unit) (variable_named (in_lower_case x) (layout.parts_of (world_of s.unit) o)) ≡ member_value s (option_map (seen s.unit) o) x
    by None = refl
    by (Some v) =
        ap (λ m. member_type (world_of s.unit) (variable_named (in_lower_case x) (parts m))) (meaning_is s.unit v.ty) ∙ of_parts (type_of s.unit v.ty)
        ∙ sym (ap (λ m. part_type s m x) (known_is s.unit v.ty))

-- ---- what is found of an expression

pub name_judged : (s : Setting) (x : Word) (o : Option Seen) (j : Judged) → o ≡ found s x.name → j.broken ≡ first_of (broken_in_name o x) → j.ty ≡ value_type o → j.at ≡ x.at → IsJudged s (placed.Name x) j
name_judged s x o j is broken ty at = record {
  broken = broken ∙ ap (λ p. first_of (broken_in_name p x)) is;
  ty = ty ∙ ap value_type is ∙ sym (name_typed s x.name);
  at = at;
}

pub member_judged : (s : Setting) (i x : Word) (o : Option Seen) (j : Judged) → o ≡ found s i.name → j.broken ≡ first_of (broken_in_member s o i x) → j.ty ≡ member_value s o x.name → j.at ≡ i.at → IsJudged s (placed.Member i x) j
member_judged s i x o j is broken ty at = record {
  broken = broken ∙ ap (λ p. first_of (broken_in_member s p i x)) is;
  ty = ty ∙ ap (λ p. member_value s p x.name) is ∙ sym (member_typed s i.name x.name);
  at = at;
}

operand_types : (o : Option Ty) → option_and_then (λ t. option_map (λ types. t ∷ types) (Some [])) o ≡ one_type o
operand_types None = refl
operand_types (Some t) = refl

operands_types : (o p : Option Ty) → option_and_then (λ t. option_map (λ types. t ∷ types) (option_and_then (λ u. option_map (λ types. u ∷ types) (Some [])) p)) o ≡ two_types o p
operands_types None p = refl
operands_types (Some t) None = refl
operands_types (Some t) (Some u) = refl

one_result : (f : Func) (o : Option Ty) → option_and_then (result_type f) (one_type o) ≡ option_and_then (λ t. result_type f (t ∷ [])) o
one_result f None = refl
one_result f (Some t) = refl

two_result : (f : Func) (o p : Option Ty) → option_and_then (result_type f) (two_types o p) ≡ option_and_then (λ t. option_and_then (λ u. result_type f (t ∷ u ∷ [])) p) o
two_result f None p = refl
two_result f (Some t) None = refl
two_result f (Some t) (Some u) = refl

pub not_judged : (s : Setting) (e : Expression) (one j : Judged) (at : ℕ) → IsJudged s e one
    → j.broken ≡ sooner one.broken (first_of (broken_if (refuses func.Not (one_type one.ty)) condition.Types at)) → j.ty ≡ option_and_then (result_type func.Not) (one_type one.ty) → j.at ≡ at
    → IsJudged s (placed.Not at e) j
not_judged s e one j at h broken ty place = record {
  broken = broken
      ∙ ap₂ (λ a o. sooner a (first_of (broken_if (refuses func.Not o) condition.Types at))) h.broken (ap one_type h.ty ∙ sym (operand_types (type_in s (bare_expression e))))
      ∙ sym (first_append (broken_in_expression s e) (broken_in_operator s func.Not (expression e no_expression) at));
  ty = ty ∙ ap (λ o. option_and_then (result_type func.Not) (one_type o)) h.ty ∙ one_result func.Not (type_in s (bare_expression e));
  at = place;
}

pub binary_judged : (s : Setting) (op : Operator) (a b : Expression) (x y j : Judged) → IsJudged s a x → IsJudged s b y
    → j.broken ≡ sooner (sooner x.broken y.broken) (first_of (broken_if (refuses (function_of op) (two_types x.ty y.ty)) condition.Types x.at)) → j.ty ≡ option_and_then (result_type (function_of op)) (two_types x.ty y.ty)
    → j.at ≡ x.at → IsJudged s (placed.Binary op a b) j
binary_judged s op a b x y j h k broken ty place =
    let types : two_types x.ty y.ty ≡ types_in s (expression a (expression b no_expression)) = ap₂ two_types h.ty k.ty ∙ sym (operands_types (type_in s (bare_expression a)) (type_in s (bare_expression b))) in
    let last : List Broken = broken_in_operator s (function_of op) (expression a (expression b no_expression)) (placed.start_of a) in
    record {
      broken = broken
          ∙ ap₂ (λ o (at : ℕ). sooner (sooner x.broken y.broken) (first_of (broken_if (refuses (function_of op) o) condition.Types at))) types h.at
          ∙ ap₂ (λ p q. sooner (sooner p q) (first_of last)) h.broken k.broken
          ∙ sooner_assoc (first_of (broken_in_expression s a)) (first_of (broken_in_expression s b)) (first_of last)
          ∙ sym (first_append (broken_in_expression s a) (broken_in_expression s b ++ last) ∙ ap (sooner (first_of (broken_in_expression s a))) (first_append (broken_in_expression s b) last));
      ty = ty ∙ ap₂ (λ o p. option_and_then (result_type (function_of op)) (two_types o p)) h.ty k.ty ∙ two_result (function_of op) (type_in s (bare_expression a)) (type_in s (bare_expression b));
      at = place ∙ h.at;
    }

pub mapped_length : {X Y : Type 0} (f : X → Y) (xs : List X) → length xs ≡ length (map f xs)
mapped_length f [] = refl
mapped_length f (x ∷ xs) = ap suc (mapped_length f xs)

counted : (es : List Expression) → count_of (expressions es) ≡ length es
counted [] = refl
counted (e ∷ es) = ap suc (counted es)

pub call_judged : (s : Setting) (f : Word) (es : List Expression) (l : Listed) (count : ℕ) (j : Judged) → AreJudged s es l → count ≡ length es
    → j.broken ≡ sooner l.broken (first_of (broken_in_call (function_named f.name) f count (option_map (λ (v : Vec Ty Global). v.items) l.types)))
    → j.ty ≡ option_and_then (call_type (function_named f.name)) (option_map (λ (v : Vec Ty Global). v.items) l.types) → j.at ≡ f.at
    → IsJudged s (placed.Apply f (expressions es)) j
call_judged s f es l count j h same broken ty place =
    let all : Expressions = expressions es in
    record {
      broken = broken
          ∙ ap₂ (λ (n : ℕ) o. sooner l.broken (first_of (broken_in_call (function_named f.name) f n o))) (same ∙ sym (counted es)) h.types
          ∙ ap (λ a. sooner a (first_of (broken_in_call (function_named f.name) f (count_of all) (types_in s all)))) h.broken
          ∙ sym (first_append (broken_in_expressions s all) (broken_in_call (function_named f.name) f (count_of all) (types_in s all)));
      ty = ty ∙ ap (option_and_then (call_type (function_named f.name))) h.types;
      at = place;
    }

-- ---- several expressions

pub none_judged : (s : Setting) (l : Listed) → l.broken ≡ None → option_map (λ (v : Vec Ty Global). v.items) l.types ≡ Some [] → AreJudged s [] l
unfolding first_of
none_judged s l broken types = record { broken = broken; types = types }

last_none : (o : Option Broken) → sooner o (first_of []) ≡ o
unfolding first_of
last_none o = sooner_none o

first_none : (o : Option Broken) → o ≡ sooner (first_of []) o
unfolding first_of sooner
first_none o = refl

broken_more : (s : Setting) (es : List Expression) (e : Expression) → first_of (broken_in_expressions s (expressions (es ++ e ∷ []))) ≡ sooner (first_of (broken_in_expressions s (expressions es))) (first_of (broken_in_expression s e))
broken_more s [] e = first_append (broken_in_expression s e) [] ∙ last_none (first_of (broken_in_expression s e)) ∙ first_none (first_of (broken_in_expression s e))
broken_more s (x ∷ es) e =
    first_append (broken_in_expression s x) (broken_in_expressions s (expressions (es ++ e ∷ [])))
    ∙ ap (sooner (first_of (broken_in_expression s x))) (broken_more s es e)
    ∙ sym (sooner_assoc (first_of (broken_in_expression s x)) (first_of (broken_in_expressions s (expressions es))) (first_of (broken_in_expression s e)))
    ∙ ap (λ o. sooner o (first_of (broken_in_expression s e))) (sym (first_append (broken_in_expression s x) (broken_in_expressions s (expressions es))))

first_type : (o p : Option Ty) (l m : Option (List Ty)) → m ≡ with_type l p → option_and_then (λ t. option_map (λ types. t ∷ types) m) o ≡ with_type (option_and_then (λ t. option_map (λ types. t ∷ types) l) o) p
first_type None p l m h = refl
first_type (Some t) p None m h = ap (option_map (λ types. t ∷ types)) h
first_type (Some t) None (Some ts) m h = ap (option_map (λ types. t ∷ types)) h
first_type (Some t) (Some u) (Some ts) m h = ap (option_map (λ types. t ∷ types)) h

types_more : (s : Setting) (es : List Expression) (e : Expression) → types_in s (expressions (es ++ e ∷ [])) ≡ with_type (types_in s (expressions es)) (type_in s (bare_expression e))
types_more s [] e = operand_types (type_in s (bare_expression e)) ∙ by (type_in s (bare_expression e))
  where
    by : (o : Option Ty) → one_type o ≡ with_type (Some []) o
    by None = refl
    by (Some t) = refl
types_more s (x ∷ es) e = first_type (type_in s (bare_expression x)) (type_in s (bare_expression e)) (types_in s (expressions es)) (types_in s (expressions (es ++ e ∷ []))) (types_more s es e)

pub more_judged : (s : Setting) (es : List Expression) (e : Expression) (l more : Listed) (one : Judged) → AreJudged s es l → IsJudged s e one → more.broken ≡ sooner l.broken one.broken
    → option_map (λ (v : Vec Ty Global). v.items) more.types ≡ with_type (option_map (λ (v : Vec Ty Global). v.items) l.types) one.ty → AreJudged s (es ++ e ∷ []) more
more_judged s es e l more one h k broken types = record {
  broken = broken ∙ ap₂ sooner h.broken k.broken ∙ sym (broken_more s es e);
  types = types ∙ ap₂ with_type h.types k.ty ∙ sym (types_more s es e);
}
