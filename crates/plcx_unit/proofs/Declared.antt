-- What is broken in declarations and POUs, by what is found of their parts.
use Rattle.std.proofs.Common.{◌≡◌, ℕ, zero, suc, ◌+◌, ◌<◌, Bool, true, false, cond, not, List, [], ◌∷◌, ◌++◌, map, take, get_or, length, slice_get, Option, Some, None, option_map, refl, sym, ap, ap₂, ◌∙◌, subst, arith}
use Rattle.std.specs.Prelude.{is_some}
use Rattle.std.specs.List.{list_any, flat_map}
use Rattle.plcx_meaning.specs.Tree as tree
use Rattle.plcx_meaning.specs.Tree.{PouKind}
use Rattle.plcx_meaning.specs.Layout as layout
use Rattle.plcx_st.specs.declared.tree.PouText.{PouText}
use Rattle.plcx_conditions.specs.Placed.{Word, Pou, bare_pou, bare, Declared, declared, Statement, statements}
use Rattle.plcx_conditions.specs.Places.{placed_pou}
use Rattle.plcx_conditions.specs.Known.{same_name, is_among, knows, known, Setting}
use Rattle.plcx_conditions.specs.Statements.{broken_in_statement, broken_in_statements}
use Rattle.plcx_conditions.specs.Declarations.{broken_in_variable, broken_in_variables, setting, broken_in_pou, broken_in_pous}
use Rattle.plcx_known.specs.declared.types.VarType.{VarType}
use Rattle.plcx_known.specs.declared.types.VarType.TheVariants as type
use Rattle.plcx_known.specs.declared.owner.Own.{Own}
use Rattle.plcx_known.specs.Unit.{placed_of, bare_of}
use Rattle.plcx_known.specs.Types.{type_of, variables_in, parts_of, meaning_of}
use Rattle.plcx_known.specs.Owned.{Typed, typed, own_of, shown_variable, shown_own, name_of}
use Rattle.plcx_known.specs.Parts.{owners_of}
use Rattle.plcx_known.proofs.Places.{any_map, any_take_map, get_map}
use Rattle.plcx_known.proofs.Standing.{known_is}
use Rattle.plcx_unit.specs.Pieces.{standing}
use Rattle.plcx_unit.specs.Answers.{is_unknown, IsTyped, AreTyped, variables_of}
use Rattle.plcx_unit.specs.Rest.{word_of, rest_variables, pou_word, rest_pous}
use Rattle.plcx_unit.proofs.Folding.{grows, stands_at}

-- ---- types

told : (t : VarType) (unit : List tree.PouText) → not (is_some (meaning_of unit t)) ≡ is_unknown t
told type.Unknown unit = refl
told (type.Elementary t) unit = refl
told (type.Standard k) unit = refl
told (type.Block place) unit = refl

some_known : (unit : List tree.PouText) (name : List ℕ) → knows unit name ≡ is_some (known unit name)
some_known unit name = by (knows unit name) _
  where
    by : (b : Bool) (m : layout.Meaning) → b ≡ is_some (cond b (Some m) None)
    by true m = refl
    by false m = refl

-- the type's name is unknown
pub unknown_is : (unit : List tree.PouText) (name : List ℕ) (t : VarType) → t ≡ type_of unit name → is_unknown t ≡ not (knows unit name)
unknown_is unit name t is = ap is_unknown is ∙ sym (ap not (some_known unit name ∙ ap is_some (known_is unit name)) ∙ told (type_of unit name) unit)

-- what is known of it
pub known_by : (unit : List tree.PouText) (name : List ℕ) (t : VarType) → t ≡ type_of unit name → meaning_of unit t ≡ known unit name
known_by unit name t is = ap (meaning_of unit) is ∙ sym (known_is unit name)

-- ---- variables

pub variable_step : (unit : List tree.PouText) (kind : PouKind) (all : List Own) (i : ℕ) (v : Own) (rest : List Own) → i < length all → v ≡ get_or all i v
    → rest_variables unit kind all i (v ∷ rest) ≡ broken_in_variable unit kind (map word_of (take i all)) (shown_variable v) ++ rest_variables unit kind all (i + 1) rest
variable_step unit kind all i v rest less is =
    ap (λ (before : List Word). broken_in_variable unit kind (map word_of (take i all)) (shown_variable v) ++ broken_in_variables unit kind before (map shown_variable rest)) (sym (grows word_of all i v less is))

-- an earlier variable has the name
pub again_is : (all : List Own) (ts : List Typed) (i : ℕ) (v : Own) → map shown_own all ≡ ts → list_any (λ (t : Typed). same_name (name_of t) v.decl.now.name.name) (take i ts) ≡ is_among (map word_of (take i all)) (word_of v)
again_is all ts i v are =
    ap (λ (us : List Typed). list_any (λ (t : Typed). same_name (name_of t) v.decl.now.name.name) (take i us)) (sym are)
    ∙ any_take_map (λ (t : Typed). same_name (name_of t) v.decl.now.name.name) shown_own i all
    ∙ sym (any_map (λ (w : Word). same_name w.name v.decl.now.name.name) word_of (take i all))

typed_there : (unit : List tree.PouText) (all : List Own) (i : ℕ) (v : Own) → i < length all → v ≡ get_or all i v → AreTyped unit (map shown_own all) → IsTyped unit (shown_own v)
typed_there unit [] i v less is h = absurd (omega (arith, less))
typed_there unit (w ∷ all) zero v less is h = subst (λ (x : Own). IsTyped unit (shown_own x)) (sym is) h.0
typed_there unit (w ∷ all) (suc i) v less is h = typed_there unit all i v (omega (arith, less)) is h.1

pub typed_at : (unit : List tree.PouText) (all : List Own) (ts : List Typed) (i : ℕ) (v : Own) → map shown_own all ≡ ts → i < length all → v ≡ get_or all i v → AreTyped unit ts → IsTyped unit (shown_own v)
typed_at unit all ts i v are less is h = typed_there unit all i v less is (subst (AreTyped unit) (sym are) h)

pub variables_are : (all : List Own) (ts : List Typed) → map shown_own all ≡ ts → map shown_variable all ≡ variables_of ts
variables_are all ts are = twice all ∙ ap variables_of are
  where
    twice : (vs : List Own) → map shown_variable vs ≡ variables_of (map shown_own vs)
    twice [] = refl
    twice (v ∷ vs) = ap (λ ds. shown_variable v ∷ ds) (twice vs)

-- ---- the variables of a POU

all_typed : (unit : List tree.PouText) (ds : List Declared) → AreTyped unit (map (typed unit) ds)
all_typed unit [] = tt
all_typed unit (d ∷ ds) = (refl, all_typed unit ds)

all_declared : (unit : List tree.PouText) (ds : List Declared) → variables_of (map (typed unit) ds) ≡ ds
all_declared unit [] = refl
all_declared unit (d ∷ ds) = ap (λ es. d ∷ es) (all_declared unit ds)

-- the POU where the variables are found
record Found (unit : List Pou) (place : ℕ) (ts : List Typed) : Type 0 where
  pou : Pou
  at : slice_get unit place ≡ Some pou
  own : ts ≡ own_of (bare unit) pou

found_pou : (unit : List Pou) (place : ℕ) (ts : List Typed) → slice_get (owners_of unit) place ≡ Some ts → Found unit place ts
found_pou unit place ts h = by (slice_get unit place) refl
  where
    by : (o : Option Pou) → slice_get unit place ≡ o → Found unit place ts
    by None e = let no : None ≡ Some ts = sym (get_map (own_of (bare unit)) unit place ∙ ap (option_map (own_of (bare unit))) e) ∙ h in absurd (cc)
    by (Some p) e =
        let some : Some ts ≡ Some (own_of (bare unit) p) = sym h ∙ get_map (own_of (bare unit)) unit place ∙ ap (option_map (own_of (bare unit))) e in
        record { pou = p; at = e; own = cc }

pub owner_typed : (unit : List Pou) (place : ℕ) (ts : List Typed) → slice_get (owners_of unit) place ≡ Some ts → AreTyped (bare unit) ts
owner_typed unit place ts h = let f = found_pou unit place ts h in subst (AreTyped (bare unit)) (sym f.own) (all_typed (bare unit) (declared f.pou))

pub owner_declares : (unit : List Pou) (place : ℕ) (ts : List Typed) (p : Pou) → slice_get (owners_of unit) place ≡ Some ts → slice_get unit place ≡ Some p → variables_of ts ≡ declared p
owner_declares unit place ts p h at =
    let f = found_pou unit place ts h in
    let some : Some f.pou ≡ Some p = sym f.at ∙ at in
    let same : f.pou ≡ p = cc in
    ap variables_of f.own ∙ all_declared (bare unit) (declared f.pou) ∙ ap declared same

pub owner_there : (unit : List Pou) (place : ℕ) (p : Pou) → slice_get (owners_of unit) place ≡ None → slice_get unit place ≡ Some p → ⊥
owner_there unit place p h at = let no : None ≡ Some (own_of (bare unit) p) = sym h ∙ get_map (own_of (bare unit)) unit place ∙ ap (option_map (own_of (bare unit))) at in absurd (cc)

-- ---- the statements of a POU

pub setting_is : (pous : List PouText) (place : ℕ) (p : Pou) → slice_get (placed_of pous) place ≡ Some p → standing pous place ≡ setting (bare_of pous) p
setting_is pous place p at =
    let same : parts_of (bare_of pous) (type.Block place) ≡ layout.variables_of (bare_pou p).blocks = ap variables_in (get_map bare_pou (placed_of pous) place ∙ ap (option_map bare_pou) at) in
    ap (λ vs. let s : Setting = record { unit = bare_of pous; own = vs } in s) same

pub one_by_one : (s : Setting) (ss : List Statement) → broken_in_statements s (statements ss) ≡ flat_map (broken_in_statement s) ss
one_by_one s [] = refl
one_by_one s (t ∷ ss) = ap (λ bs. broken_in_statement s t ++ bs) (one_by_one s ss)

-- ---- POUs

pub among_pous : (unit : List Pou) (i : ℕ) (w : Word) → list_any (λ (p : Pou). same_name p.name.name w.name) (take i unit) ≡ is_among (map (λ (p : Pou). p.name) (take i unit)) w
among_pous unit i w = sym (any_map (λ (x : Word). same_name x.name w.name) (λ (p : Pou). p.name) (take i unit))

names_before : (pous : List PouText) (i : ℕ) → map (λ (p : Pou). p.name) (take i (placed_of pous)) ≡ map pou_word (take i pous)
names_before pous zero = refl
names_before [] (suc i) = refl
names_before (p ∷ pous) (suc i) = ap (λ ws. pou_word p ∷ ws) (names_before pous i)

pub pou_step : (pous : List PouText) (i : ℕ) (p : PouText) (rest : List PouText) → i < length pous → p ≡ get_or pous i p
    → rest_pous pous i (p ∷ rest) ≡ broken_in_pou (bare_of pous) (map (λ (q : Pou). q.name) (take i (placed_of pous))) (placed_pou p) ++ rest_pous pous (i + 1) rest
pou_step pous i p rest less is =
    ap₂ (λ (before after : List Word). broken_in_pou (bare_of pous) before (placed_pou p) ++ broken_in_pous (bare_of pous) after (map placed_pou rest)) (sym (names_before pous i)) (sym (grows pou_word pous i p less is))

pub pou_at : (pous : List PouText) (i : ℕ) (p : PouText) → i < length pous → p ≡ get_or pous i p → slice_get (placed_of pous) i ≡ Some (placed_pou p)
pou_at pous i p less is = get_map placed_pou pous i ∙ ap (option_map placed_pou) (stands_at pous i p less is)
