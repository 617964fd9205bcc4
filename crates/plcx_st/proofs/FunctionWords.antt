-- The names of the functions that are called by them are words.
use Rattle.std.proofs.Common.{◌≡◌, Bool, true, false, not, ◌&&◌, ℕ, List, inl, inr, refl, sym, ap, ◌∙◌}
use Rattle.std.specs.Prelude.{Some}
use Rattle.std.specs.List.{list_all}
use Rattle.std.proofs.lemmas.Bool.{and_parts, not-true, cases_Bool}
use Rattle.std.proofs.lemmas.List.Folds.{list_all_at}
use Rattle.plcx_types.specs.declared.ty.Ty.{Ty}
use Rattle.plcx_types.specs.declared.ty.Ty.TheVariants as ty
use Rattle.plcx_types.specs.Conversion.{conversion_name}
use Rattle.plcx_types.specs.Name.{is_identifier}
use Rattle.plcx_types.specs.Reserved.{is_keyword}
use Rattle.plcx_types.specs.TypeName.{all_types, position_of_type}
use Rattle.plcx_types.proofs.TypeTable.{at_its_place, position_below}
use Rattle.plcx_funcs.specs.declared.func.Func.{Func}
use Rattle.plcx_funcs.specs.declared.func.Func.TheVariants as f
use Rattle.plcx_funcs.specs.Names.{function_name, function_named}
use Rattle.plcx_funcs.proofs.Found.{function_is}
use Rattle.plcx_meaning.specs.Typed.{is_operator}
use Rattle.plcx_st.specs.InRange.{IsWord}
use Rattle.plcx_st.proofs.Words.{word_same}

abbrev pub is_word : List ℕ → Bool
is_word x = is_identifier x && not (is_keyword x)

pub word_is : (x : List ℕ) → is_word x ≡ true → IsWord x
word_is x h = let parts = and_parts (is_identifier x) (not (is_keyword x)) h in (parts.0, not-true (is_keyword x) parts.1)

-- what each type of the list passes, every type passes
every : (p : Ty → Bool) → list_all p all_types ≡ true → (t : Ty) → p t ≡ true
every p all t = elim (cases_Bool (p t)) [
  | inl passes ↦ passes
  | inr fails ↦ absurd (let none = list_all_at p all_types (position_of_type t) ty.Bool (position_below t) (ap p (at_its_place t) ∙ fails) in let bad = sym all ∙ none in cc)
]

all_words : list_all (λ from. list_all (λ to. is_word (conversion_name from to)) all_types) all_types ≡ true
all_words = refl

name_word : (g : Func) → is_operator g ≡ false → is_word (function_name g) ≡ true
name_word f.Add h = absurd (cc)
name_word f.Mul h = absurd (cc)
name_word f.Sub h = absurd (cc)
name_word f.Div h = absurd (cc)
name_word f.Mod h = absurd (cc)
name_word f.Abs h = refl
name_word f.Move h = refl
name_word f.And h = absurd (cc)
name_word f.Or h = absurd (cc)
name_word f.Xor h = absurd (cc)
name_word f.Not h = absurd (cc)
name_word f.Shl h = refl
name_word f.Shr h = refl
name_word f.Rol h = refl
name_word f.Ror h = refl
name_word f.Sel h = refl
name_word f.Max h = refl
name_word f.Min h = refl
name_word f.Limit h = refl
name_word f.Mux h = refl
name_word f.Gt h = absurd (cc)
name_word f.Ge h = absurd (cc)
name_word f.Eq h = absurd (cc)
name_word f.Le h = absurd (cc)
name_word f.Lt h = absurd (cc)
name_word f.Ne h = absurd (cc)
name_word (f.Conv from to) h = every (λ to. is_word (conversion_name from to)) (every (λ from. list_all (λ to. is_word (conversion_name from to)) all_types) all_words from) to

pub function_word : (word : List ℕ) (g : Func) → function_named word ≡ Some g → is_operator g ≡ false → IsWord word
function_word word g h plain = word_same word (function_name g) (function_is word g h).spelled (word_is (function_name g) (name_word g plain))
