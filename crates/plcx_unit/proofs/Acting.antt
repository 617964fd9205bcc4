-- What is broken in statements, by what is found of their parts.
use Rattle.std.proofs.Common.{◌≡◌, ℕ, ◌+◌, ◌<◌, Bool, true, false, cond, ◌&&◌, ◌||◌, not, List, [], ◌∷◌, ◌++◌, map, filter, take, get_or, length, Option, Some, None, nat_eq, refl, sym, ap, ap₂, ◌∙◌, append_assoc}
use Rattle.std.specs.List.{list_any}
use Rattle.std.specs.Prelude.{nat_lt}
use Rattle.plcx_types.specs.declared.ty.Ty.{Ty}
use Rattle.plcx_meaning.specs.Tree as tree
use Rattle.plcx_meaning.specs.Layout.{Variable, Meaning, Elementary}
use Rattle.plcx_st.specs.declared.tree.Arg.{Arg}
use Rattle.plcx_st.specs.declared.tree.Arm.{Arm}
use Rattle.plcx_conditions.specs.declared.broken.Condition.TheVariants as condition
use Rattle.plcx_conditions.specs.declared.broken.Broken.{Broken}
use Rattle.plcx_conditions.specs.Broken.{broken_if}
use Rattle.plcx_conditions.specs.First.{sooner, first_of}
use Rattle.plcx_conditions.specs.Placed as placed
use Rattle.plcx_conditions.specs.Placed.{Word, Expression, Argument, Statement}
use Rattle.plcx_conditions.specs.Places.{placed_word, placed_expression, placed_argument, placed_statement}
use Rattle.plcx_conditions.specs.Known.{same_name, is_among, Seen, seen_in, Setting, found, differ}
use Rattle.plcx_conditions.specs.Expressions.{broken_in_expression}
use Rattle.plcx_conditions.specs.Statements.{broken_in_value, broken_in_assignment, cannot_bind, is_unbindable, broken_in_binding, broken_in_formal, broken_in_arguments, is_in_out, is_unbound, lacks_argument, broken_in_label, broken_where, broken_in_statement, broken_in_statements, broken_in_arms}
use Rattle.plcx_std.specs.declared.kind.StdKind.{StdKind}
use Rattle.plcx_known.specs.declared.types.VarType.TheVariants as type
use Rattle.plcx_known.specs.Types.{parts_of}
use Rattle.plcx_known.specs.Parts.{in_outs_among}
use Rattle.plcx_known.proofs.Parts.{no_in_outs}
use Rattle.plcx_known.proofs.Places.{any_map, any_take_map}
use Rattle.plcx_unit.specs.declared.pieces.Judged.{Judged}
use Rattle.plcx_unit.specs.Pieces.{IsJudged, name_alone, formals, is_lacking, placed_labelled, AreLabels}
use Rattle.plcx_unit.specs.Rest.{formal_word, rest_arguments, at_argument, label_of, rest_arms, at_arm}
use Rattle.plcx_unit.proofs.Folding.{first_two, grows}

pub value_is : (s : Setting) (e : Expression) (one : Judged) (wanted : Option Meaning) → IsJudged s e one → first_of (broken_if (differ wanted one.ty) condition.Types one.at) ≡ first_of (broken_in_value s wanted e)
value_is s e one wanted h = ap₂ (λ o (at : ℕ). first_of (broken_if (differ wanted o) condition.Types at)) h.ty h.at

pub binding_is : (s : Setting) (e : Expression) (one : Judged) (wanted : Option Meaning) → IsJudged s e one → first_of (broken_if (is_unbindable s wanted e) condition.Types one.at) ≡ first_of (broken_in_binding s wanted e)
binding_is s e one wanted h = ap (λ (at : ℕ). first_of (broken_if (is_unbindable s wanted e) condition.Types at)) h.at

pub where_is : (s : Setting) (t : Ty) (e : Expression) (one : Judged) → IsJudged s e one
    → sooner one.broken (first_of (broken_if (differ (Some (Elementary t)) one.ty) condition.Types one.at)) ≡ first_of (broken_where s t e)
where_is s t e one h = first_two (broken_in_expression s e) (broken_in_value s (Some (Elementary t)) e) _ _ h.broken (value_is s e one (Some (Elementary t)) h)

pub assign_is : (s : Setting) (x : Word) (e : Expression) (one : Judged) (o : Option Seen) (rest : Option Broken) → IsJudged s e one → o ≡ found s x.name → rest ≡ first_of (broken_in_assignment s o x e)
    → sooner one.broken rest ≡ first_of (broken_in_statement s (placed.Assign x e))
assign_is s x e one o rest h is k = first_two (broken_in_expression s e) (broken_in_assignment s (found s x.name) x e) _ _ h.broken (k ∙ ap (λ p. first_of (broken_in_assignment s p x e)) is)

-- ---- in-outs

pub unbindable_name : (s : Setting) (wanted : Option Meaning) (e : Expression) (x : Word) → name_alone e ≡ Some x → is_unbindable s wanted e ≡ cannot_bind wanted (found s x.name)
unbindable_name s wanted (placed.Name y) x h = let same : y ≡ x = cc in ap (λ (z : Word). cannot_bind wanted (found s z.name)) same
unbindable_name s wanted (placed.Number v) x h = absurd (cc)
unbindable_name s wanted (placed.Member i y) x h = absurd (cc)
unbindable_name s wanted (placed.Apply f es) x h = absurd (cc)
unbindable_name s wanted (placed.Not at e) x h = absurd (cc)
unbindable_name s wanted (placed.Binary op a b) x h = absurd (cc)

pub unbindable_other : (s : Setting) (wanted : Option Meaning) (e : Expression) → name_alone e ≡ None → is_unbindable s wanted e ≡ true
unbindable_other s wanted (placed.Name y) h = absurd (cc)
unbindable_other s wanted (placed.Number v) h = refl
unbindable_other s wanted (placed.Member i y) h = refl
unbindable_other s wanted (placed.Apply f es) h = refl
unbindable_other s wanted (placed.Not at e) h = refl
unbindable_other s wanted (placed.Binary op a b) h = refl

filtered : {A : Type 0} (b : Bool) (u : A → Bool) (x : A) (xs : List A) (c : Bool) → list_any u xs ≡ c → list_any u (cond b (x ∷ xs) xs) ≡ ((b && u x) || c)
filtered true u x xs c h = ap (λ d. u x || d) h
filtered false u x xs c h = h

any_filter : {A : Type 0} (t u : A → Bool) (xs : List A) → list_any u (filter t xs) ≡ list_any (λ x. t x && u x) xs
any_filter t u [] = refl
any_filter t u (x ∷ xs) = filtered (t x) u x (filter t xs) (list_any (λ y. t y && u y) xs) (any_filter t u xs)

same_any : {A : Type 0} (t u : A → Bool) (xs : List A) → ((x : A) → t x ≡ u x) → list_any t xs ≡ list_any u xs
same_any t u [] same = refl
same_any t u (x ∷ xs) same = ap₂ (λ (a b : Bool). a || b) (same x) (same_any t u xs same)

named_by : (args : List Arg) (n : List ℕ) → list_any (λ m. same_name m n) (formals args) ≡ list_any (λ (a : Argument). same_name a.formal.name n) (map placed_argument args)
named_by args n = any_map (λ m. same_name m n) (λ (a : Arg). a.formal.name) args ∙ sym (any_map (λ (a : Argument). same_name a.formal.name n) placed_argument args)

pub lacks_is : (unit : List tree.PouText) (vs : List Variable) (args : List Arg) (names : List (List ℕ)) → names ≡ formals args
    → list_any (is_lacking names) (in_outs_among unit vs) ≡ lacks_argument unit vs (map placed_argument args)
lacks_is unit vs args names are =
    ap (λ (ns : List (List ℕ)). list_any (λ n. not (list_any (λ m. same_name m n) ns)) (in_outs_among unit vs)) are
    ∙ any_map (λ n. not (list_any (λ m. same_name m n) (formals args))) (λ (v : Variable). v.name) (filter (λ (v : Variable). is_in_out (seen_in unit vs v.name)) vs)
    ∙ any_filter (λ (v : Variable). is_in_out (seen_in unit vs v.name)) (λ (v : Variable). not (list_any (λ m. same_name m v.name) (formals args))) vs
    ∙ same_any _ (is_unbound unit vs (map placed_argument args)) vs (λ (v : Variable). ap (λ b. is_in_out (seen_in unit vs v.name) && not b) (named_by args v.name))

-- a standard block has no in-out
pub none_lacks : (unit : List tree.PouText) (k : StdKind) (args : List Arg) → lacks_argument unit (parts_of unit (type.Standard k)) (map placed_argument args) ≡ false
none_lacks unit k args = sym (lacks_is unit (parts_of unit (type.Standard k)) args (formals args) refl) ∙ ap (list_any (is_lacking (formals args))) (no_in_outs unit k)

-- ---- arguments

pub argument_step : (s : Setting) (parts : Option (List Variable)) (args : List Arg) (names : List (List ℕ)) (i : ℕ) (a : Arg) (rest : List Arg) → names ≡ formals args → i < length args → a ≡ get_or args i a
    → rest_arguments s parts args i (a ∷ rest) ≡ at_argument s parts names i a ++ rest_arguments s parts args (i + 1) rest
argument_step s parts args names i a rest are less is =
    let again : is_among (map formal_word (take i args)) (placed_word a.formal) ≡ list_any (λ n. same_name n a.formal.name) (take i names)
    = any_map (λ (w : Word). same_name w.name a.formal.name) formal_word (take i args)
    ∙ sym (ap (λ (ns : List (List ℕ)). list_any (λ n. same_name n a.formal.name) (take i ns)) are ∙ any_take_map (λ n. same_name n a.formal.name) (λ (b : Arg). b.formal.name) i args) in
    ap₂ (λ b (before : List Word).
    (broken_if b condition.Name a.formal.span.start ++ (broken_in_expression s (placed_expression a.value) ++ broken_in_formal s parts (placed_argument a)))
    ++ broken_in_arguments s parts before (map placed_argument rest)) again (sym (grows formal_word args i a less is))

-- ---- labels

pub no_labels : AreLabels [] []
no_labels n = refl

one_more : (t : ℕ → Bool) (before : List ℕ) (n : ℕ) → list_any t (before ++ n ∷ []) ≡ (list_any t before || t n)
one_more t [] n = by (t n)
  where
    by : (b : Bool) → (b || false) ≡ b
    by true = refl
    by false = refl
one_more t (x ∷ before) n = ap (λ b. t x || b) (one_more t before n) ∙ turned (t x) (list_any t before) (t n)
  where
    turned : (a b c : Bool) → (a || (b || c)) ≡ ((a || b) || c)
    turned true b c = refl
    turned false b c = refl

pub more_labels : (before keys after : List ℕ) (label : ℕ) → AreLabels before keys → ((n : ℕ) → list_any (nat_eq n) after ≡ (list_any (nat_eq n) keys || nat_eq n label)) → AreLabels (before ++ label ∷ []) after
more_labels before keys after label are added n = added n ∙ ap (λ b. b || nat_eq n label) (are n) ∙ sym (one_more (nat_eq n) before label)

pub label_is : (before keys : List ℕ) (label at : ℕ) (again : Bool) → AreLabels before keys → again ≡ list_any (nat_eq label) keys
    → first_of (broken_if (nat_lt 2147483647 label || again) condition.Literal at) ≡ first_of (broken_in_label before label at)
label_is before keys label at again are is = ap (λ b. first_of (broken_if (nat_lt 2147483647 label || b) condition.Literal at)) (is ∙ are label)

-- ---- arms

pub arm_step : (s : Setting) (all : List Arm) (i : ℕ) (a : Arm) (rest : List Arm) → i < length all → a ≡ get_or all i a → rest_arms s all i (a ∷ rest) ≡ at_arm s all i a ++ rest_arms s all (i + 1) rest
arm_step s all i a rest less is =
    ap (λ (before : List ℕ). broken_in_label (map label_of (take i all)) a.label a.span.start ++ (broken_in_statements s (placed.statements (map placed_statement a.body)) ++ broken_in_arms s before (placed.arms (map placed_labelled rest))))
    (sym (grows label_of all i a less is))
    ∙ sym (append_assoc (broken_in_label (map label_of (take i all)) a.label a.span.start) (broken_in_statements s (placed.statements (map placed_statement a.body))) (rest_arms s all (i + 1) rest))
