-- A word is listed exactly where it is taken.
use Rattle.std.proofs.Common.{◌≡◌, ◌⊎◌, ℕ, Bool, true, false, inl, inr, List, [], ◌∷◌, map, get_or, refl, ap, ◌∙◌}
use Rattle.std.specs.Prelude.{◌||◌, ◌↔◌}
use Rattle.std.specs.List.{list_all, list_any}
use Rattle.std.specs.Str.{bytes_eq, str_eq_ignore_ascii_case}
use Rattle.std.proofs.lemmas.Bool.{and_parts, or_left, or_right}
use Rattle.std.proofs.lemmas.List.{get_or-map}
use Rattle.std.proofs.lemmas.List.Folds.{list_any_at}
use Rattle.std.proofs.lemmas.Slice.Eq.{bytes_eq-Decides}
use Rattle.plcx_types.specs.declared.ty.Ty.{Ty}
use Rattle.plcx_types.specs.declared.ty.Ty.TheVariants as ty
use Rattle.plcx_types.specs.Name.{in_lower_case}
use Rattle.plcx_types.specs.Reserved.{is_in, keywords, enables, functions, blocks, is_keyword, is_conversion, is_of_library, is_listed}
use Rattle.plcx_types.specs.TypeName.{all_types, position_of_type, type_name}
use Rattle.plcx_types.proofs.Conversions.{pair_of, listed_by}
use Rattle.plcx_types.proofs.TypeTable.{at_its_place, position_below}
use Rattle.plcx_funcs.specs.declared.func.Func.{Func}
use Rattle.plcx_funcs.specs.declared.func.Func.TheVariants as f
use Rattle.plcx_funcs.specs.Names.{function_name, is_function, NamesFunction}
use Rattle.plcx_funcs.proofs.Found.{of_conversion, to_conversion}
use Rattle.plcx_std.specs.declared.kind.StdKind.{StdKind}
use Rattle.plcx_std.specs.declared.kind.StdKind.TheVariants as kind
use Rattle.plcx_std.specs.Kind.{all_kinds, kind_name, NamesKind}
use Rattle.plcx_meaning.specs.Taken.{IsTaken, keyword, enable, type, function, block}

either : (a b : Bool) → (a || b) ≡ true → (a ≡ true) ⊎ (b ≡ true)
either true b h = inl refl
either false b h = inr h

-- a word of a table of names is the name of something that passes a test that all pass
named_in : {A : Type 0} (name : A → List ℕ) (passes : A → Bool) (word : List ℕ) (xs : List A) → list_all passes xs ≡ true → is_in (map name xs) word ≡ true → (x : A) × (in_lower_case word ≡ in_lower_case (name x)) × (passes x ≡ true)
named_in name passes word [] all h = absurd (cc)
named_in name passes word (x ∷ xs) all h = let parts = and_parts (passes x) (list_all passes xs) all in elim (either (str_eq_ignore_ascii_case word (name x)) (is_in (map name xs) word) h) [
  | inl here ↦ (x, (bytes_eq-Decides _ _).0 here, parts.0)
  | inr later ↦ named_in name passes word xs parts.1 later
]

-- the functions that are named in the table of their words
abbrev worded : List Func
worded = f.Add ∷ f.Mul ∷ f.Sub ∷ f.Div ∷ f.Abs ∷ f.Move ∷ f.Shl ∷ f.Shr ∷ f.Rol ∷ f.Ror ∷ f.Sel ∷ f.Max ∷ f.Min ∷ f.Limit ∷ f.Mux ∷ f.Gt ∷ f.Ge ∷ f.Eq ∷ f.Le ∷ f.Lt ∷ f.Ne ∷ []

of_library : (word : List ℕ) → is_of_library word ≡ true → IsTaken word
of_library word h = elim (either (is_in functions word || is_conversion word) (is_in blocks word) h) [
  | inl called ↦ elim (either (is_in functions word) (is_conversion word) called) [
    | inl plain ↦ (let one = named_in function_name is_function word worded refl plain in function one.0 (record { real = one.2; spelled = one.1 }))
    | inr converts ↦ (let one = pair_of word converts in function (f.Conv one.0 one.1) (of_conversion word one.0 one.1 one.2))
  ]
  | inr own ↦ (let one = named_in kind_name (λ k. true) word all_kinds refl own in block one.0 one.1)
]

pub listed_is_taken : (word : List ℕ) → is_listed word ≡ true → IsTaken word
listed_is_taken word h = elim (either (is_keyword word || is_in enables word || is_in (map type_name all_types) word) (is_of_library word) h) [
  | inl first ↦ elim (either (is_keyword word || is_in enables word) (is_in (map type_name all_types) word) first) [
    | inl grammar ↦ elim (either (is_keyword word) (is_in enables word) grammar) [ inl is ↦ keyword is | inr is ↦ enable is ]
    | inr named ↦ (let one = named_in type_name (λ t. true) word all_types refl named in type one.0 one.1)
  ]
  | inr library ↦ of_library word library
]

-- the other way round, by the letters in lower case
listed_by_library : (word : List ℕ) → is_of_library word ≡ true → is_listed word ≡ true
listed_by_library word h = or_right (is_keyword word || is_in enables word || is_in (map type_name all_types) word) (is_of_library word) h

listed_by_grammar : (word : List ℕ) → (is_keyword word || is_in enables word) ≡ true → is_listed word ≡ true
listed_by_grammar word h = or_left _ (is_of_library word) (or_left _ (is_in (map type_name all_types) word) h)

listed_type : (word : List ℕ) (t : Ty) → in_lower_case word ≡ in_lower_case (type_name t) → is_listed word ≡ true
listed_type word t same =
    let names = map type_name all_types in
    let here : get_or names (position_of_type t) [] ≡ type_name t = get_or-map type_name all_types (position_of_type t) ty.Bool [] (position_below t) ∙ ap type_name (at_its_place t) in
    let found : is_in names word ≡ true = list_any_at (λ e. str_eq_ignore_ascii_case word e) names (position_of_type t) [] (position_below t) (ap (λ e. str_eq_ignore_ascii_case word e) here ∙ (bytes_eq-Decides _ _).1 same) in
    or_left _ (is_of_library word) (or_right (is_keyword word || is_in enables word) (is_in names word) found)

-- keywords and words of functions
abbrev worded_by : List ℕ → Bool
worded_by word = is_keyword word || is_in functions word

listed_word : (word : List ℕ) → worded_by word ≡ true → is_listed word ≡ true
listed_word word h = elim (either (is_keyword word) (is_in functions word) h) [
  | inl is ↦ listed_by_grammar word (or_left _ (is_in enables word) is)
  | inr is ↦ listed_by_library word (or_left _ (is_in blocks word) (or_left _ (is_conversion word) is))
]

listed_plain : (word : List ℕ) (g : Func) → in_lower_case word ≡ in_lower_case (function_name g) → worded_by (function_name g) ≡ true → is_listed word ≡ true
listed_plain word g same is = listed_word word (ap (λ key. list_any (λ e. bytes_eq key (in_lower_case e)) keywords || list_any (λ e. bytes_eq key (in_lower_case e)) functions) same ∙ is)

listed_function : (word : List ℕ) (g : Func) → NamesFunction word g → is_listed word ≡ true
listed_function word f.Add is = listed_plain word f.Add is.spelled refl
listed_function word f.Mul is = listed_plain word f.Mul is.spelled refl
listed_function word f.Sub is = listed_plain word f.Sub is.spelled refl
listed_function word f.Div is = listed_plain word f.Div is.spelled refl
listed_function word f.Mod is = listed_plain word f.Mod is.spelled refl
listed_function word f.Abs is = listed_plain word f.Abs is.spelled refl
listed_function word f.Move is = listed_plain word f.Move is.spelled refl
listed_function word f.And is = listed_plain word f.And is.spelled refl
listed_function word f.Or is = listed_plain word f.Or is.spelled refl
listed_function word f.Xor is = listed_plain word f.Xor is.spelled refl
listed_function word f.Not is = listed_plain word f.Not is.spelled refl
listed_function word f.Shl is = listed_plain word f.Shl is.spelled refl
listed_function word f.Shr is = listed_plain word f.Shr is.spelled refl
listed_function word f.Rol is = listed_plain word f.Rol is.spelled refl
listed_function word f.Ror is = listed_plain word f.Ror is.spelled refl
listed_function word f.Sel is = listed_plain word f.Sel is.spelled refl
listed_function word f.Max is = listed_plain word f.Max is.spelled refl
listed_function word f.Min is = listed_plain word f.Min is.spelled refl
listed_function word f.Limit is = listed_plain word f.Limit is.spelled refl
listed_function word f.Mux is = listed_plain word f.Mux is.spelled refl
listed_function word f.Gt is = listed_plain word f.Gt is.spelled refl
listed_function word f.Ge is = listed_plain word f.Ge is.spelled refl
listed_function word f.Eq is = listed_plain word f.Eq is.spelled refl
listed_function word f.Le is = listed_plain word f.Le is.spelled refl
listed_function word f.Lt is = listed_plain word f.Lt is.spelled refl
listed_function word f.Ne is = listed_plain word f.Ne is.spelled refl
listed_function word (f.Conv from to) is = listed_by_library word (or_left _ (is_in blocks word) (or_right (is_in functions word) (is_conversion word) (listed_by word from to (to_conversion word from to is))))

listed_block : (word : List ℕ) (k : StdKind) → NamesKind word k → is_listed word ≡ true
listed_block word k same =
    let by : is_in blocks word ≡ is_in blocks (kind_name k) = ap (λ key. list_any (λ e. bytes_eq key (in_lower_case e)) blocks) same in
    listed_by_library word (or_right (is_in functions word || is_conversion word) (is_in blocks word) (by ∙ own k))
  where
    own : (j : StdKind) → is_in blocks (kind_name j) ≡ true
    own kind.Ton = refl
    own kind.Tof = refl
    own kind.Tp = refl
    own kind.Ctu = refl
    own kind.Ctd = refl
    own kind.Ctud = refl
    own kind.Sr = refl
    own kind.Rs = refl
    own kind.RTrig = refl
    own kind.FTrig = refl

pub taken_is_listed : (word : List ℕ) → IsTaken word → is_listed word ≡ true
taken_is_listed word (keyword is) = listed_by_grammar word (or_left _ (is_in enables word) is)
taken_is_listed word (enable is) = listed_by_grammar word (or_right (is_keyword word) (is_in enables word) is)
taken_is_listed word (type t is) = listed_type word t is
taken_is_listed word (function g is) = listed_function word g is
taken_is_listed word (block k is) = listed_block word k is

pub listed_words : (word : List ℕ) → (is_listed word ≡ true) ↔ IsTaken word
listed_words word = (listed_is_taken word, taken_is_listed word)
