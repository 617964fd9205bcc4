-- A function is found by its name, and by no other.
use Rattle.std.proofs.Common.{◌≡◌, ℕ, List, [], ◌∷◌, Bool, true, false, Option, Some, None, refl, ap, ◌∙◌, subst}
use Rattle.std.specs.Prelude.{not, IfNone, if◌then◌else◌}
use Rattle.std.specs.List.{find, list_all}
use Rattle.std.specs.Option.{option_or, option_map}
use Rattle.std.specs.Str.{bytes_eq, str_eq_ignore_ascii_case}
use Rattle.std.proofs.lemmas.Bool.{and_parts}
use Rattle.std.proofs.lemmas.Slice.Eq.{bytes_eq-Decides}
use Rattle.plcx_types.specs.declared.ty.Ty.{Ty}
use Rattle.plcx_types.specs.declared.ty.Ty.TheVariants as ty
use Rattle.plcx_types.specs.Conversion.{conversion_name, NamesConversion}
use Rattle.plcx_types.specs.Name.{in_lower_case}
use Rattle.plcx_types.specs.ReadConversion.{conversion_of}
use Rattle.plcx_types.specs.TypeName.{same_ty}
use Rattle.plcx_types.proofs.Conversions.{conversion_reads, conversion_is, differs}
use Rattle.plcx_types.proofs.Wholes.{mapped}
use Rattle.plcx_funcs.specs.declared.func.Func.{Func}
use Rattle.plcx_funcs.specs.declared.func.Func.TheVariants as f
use Rattle.plcx_funcs.specs.Names.{function_name, plain_name, is_function, NamesFunction, plain_functions, plain_among, conversion_named, function_named}

-- no function of the table has the name of a conversion
not_plain : (from to : Ty) → plain_among plain_functions (conversion_name from to) ≡ None
not_plain ty.Bool to = refl
not_plain ty.Byte to = refl
not_plain ty.Word to = refl
not_plain ty.Dword to = refl
not_plain ty.Lword to = refl
not_plain ty.Sint to = refl
not_plain ty.Int to = refl
not_plain ty.Dint to = refl
not_plain ty.Lint to = refl
not_plain ty.Usint to = refl
not_plain ty.Uint to = refl
not_plain ty.Udint to = refl
not_plain ty.Ulint to = refl
not_plain ty.Time to = refl

pub found_again : (g : Func) → is_function g ≡ true → function_named (function_name g) ≡ Some g
found_again f.Add real = refl
found_again f.Mul real = refl
found_again f.Sub real = refl
found_again f.Div real = refl
found_again f.Mod real = refl
found_again f.Abs real = refl
found_again f.Move real = refl
found_again f.And real = refl
found_again f.Or real = refl
found_again f.Xor real = refl
found_again f.Not real = refl
found_again f.Shl real = refl
found_again f.Shr real = refl
found_again f.Rol real = refl
found_again f.Ror real = refl
found_again f.Sel real = refl
found_again f.Max real = refl
found_again f.Min real = refl
found_again f.Limit real = refl
found_again f.Mux real = refl
found_again f.Gt real = refl
found_again f.Ge real = refl
found_again f.Eq real = refl
found_again f.Le real = refl
found_again f.Lt real = refl
found_again f.Ne real = refl
found_again (f.Conv from to) real =
    let name = conversion_name from to in
    ap (λ o. option_or o (conversion_named name)) (not_plain from to)
    ∙ ap (option_map (λ (types : Ty × Ty). f.Conv types.0 types.1)) (conversion_reads name from to (record { apart = differs (same_ty from to) real; spelled = refl }))

-- a function by its name in lower case
abbrev by_key : List ℕ → Option Func
by_key key = option_or (find (λ g. bytes_eq key (in_lower_case (plain_name g))) plain_functions) (option_map (λ types. f.Conv types.0 types.1) (conversion_of key))

pub function_reads : (word : List ℕ) (g : Func) → NamesFunction word g → function_named word ≡ Some g
function_reads word g names = ap by_key names.spelled ∙ found_again g names.real

-- what is found in a table passes the test, and what each of the table passes
pub find_has : {A : Type 0} (p q : A → Bool) (xs : List A) (x : A) → list_all q xs ≡ true → find p xs ≡ Some x → (p x ≡ true) × (q x ≡ true)
find_has p q [] x all h = absurd (cc)
find_has p q (y ∷ xs) x all h = let parts = and_parts (q y) (list_all q xs) all in by (p y) refl parts.0 (find_has p q xs x parts.1) h
  where
    by : (b : Bool) → p y ≡ b → q y ≡ true → (find p xs ≡ Some x → (p x ≡ true) × (q x ≡ true)) → (if b then Some y else find p xs) ≡ Some x → (p x ≡ true) × (q x ≡ true)
    by true e own later k = let same : y ≡ x = cc in subst (λ z. (p z ≡ true) × (q z ≡ true)) same (e, own)
    by false e own later k = later k

abbrev is_plain : Func → Bool
is_plain (f.Conv from to) = false
is_plain g = true

plain_own : (g : Func) → is_plain g ≡ true → (is_function g ≡ true) × (plain_name g ≡ function_name g)
plain_own f.Add is = (refl, refl)
plain_own f.Mul is = (refl, refl)
plain_own f.Sub is = (refl, refl)
plain_own f.Div is = (refl, refl)
plain_own f.Mod is = (refl, refl)
plain_own f.Abs is = (refl, refl)
plain_own f.Move is = (refl, refl)
plain_own f.And is = (refl, refl)
plain_own f.Or is = (refl, refl)
plain_own f.Xor is = (refl, refl)
plain_own f.Not is = (refl, refl)
plain_own f.Shl is = (refl, refl)
plain_own f.Shr is = (refl, refl)
plain_own f.Rol is = (refl, refl)
plain_own f.Ror is = (refl, refl)
plain_own f.Sel is = (refl, refl)
plain_own f.Max is = (refl, refl)
plain_own f.Min is = (refl, refl)
plain_own f.Limit is = (refl, refl)
plain_own f.Mux is = (refl, refl)
plain_own f.Gt is = (refl, refl)
plain_own f.Ge is = (refl, refl)
plain_own f.Eq is = (refl, refl)
plain_own f.Le is = (refl, refl)
plain_own f.Lt is = (refl, refl)
plain_own f.Ne is = (refl, refl)
plain_own (f.Conv from to) is = absurd (cc)

plain_names : (word : List ℕ) (g : Func) → plain_among plain_functions word ≡ Some g → NamesFunction word g
plain_names word g h =
    let found = find_has (λ (k : Func). str_eq_ignore_ascii_case word (plain_name k)) is_plain plain_functions g refl h in
    let own = plain_own g found.1 in
    record { real = own.0; spelled = (bytes_eq-Decides _ _).0 found.0 ∙ ap in_lower_case own.1 }

-- a conversion's name, said of its types and of the function
pub of_conversion : (word : List ℕ) (from to : Ty) → NamesConversion word from to → NamesFunction word (f.Conv from to)
of_conversion word from to names = record { real = ap not names.apart; spelled = names.spelled }

pub to_conversion : (word : List ℕ) (from to : Ty) → NamesFunction word (f.Conv from to) → NamesConversion word from to
to_conversion word from to names = record { apart = differs (same_ty from to) names.real; spelled = names.spelled }

conversion_names : (word : List ℕ) (g : Func) → conversion_named word ≡ Some g → NamesFunction word g
conversion_names word g h =
    let one = mapped (λ (types : Ty × Ty). f.Conv types.0 types.1) (conversion_of (in_lower_case word)) g h in
    let names = conversion_is word one.0 one.1 in
    subst (NamesFunction word) one.2 (of_conversion word one.0.0 one.0.1 names)

pub function_is : (word : List ℕ) (g : Func) → function_named word ≡ Some g → NamesFunction word g
function_is word g h = by (plain_among plain_functions word) refl h
  where
    by : (o : Option Func) → plain_among plain_functions word ≡ o → option_or o (conversion_named word) ≡ Some g → NamesFunction word g
    by None e k = conversion_names word g k
    by (Some found) e k = plain_names word g (e ∙ k)

pub no_function : (word : List ℕ) (found : Option Func) → found ≡ function_named word → IfNone found ((g : Func) → NamesFunction word g → ⊥)
no_function word (Some g) is = tt
no_function word None is = λ g names. absurd (let both : None ≡ Some g = is ∙ function_reads word g names in cc)
