-- The variable at the place of a name.
use Rattle.std.proofs.Common.{◌≡◌, ℕ, suc, ◌+◌, ◌<◌, Bool, true, false, cond, List, [], ◌∷◌, Option, Some, None, map, option_map, get_or, length, slice_get, refl, sym, ap, ◌∙◌, arith}
use Rattle.std.specs.Prelude.{unwrap_or}
use Rattle.std.specs.List.{position_from}
use Rattle.std.specs.Option.{option_and_then}
use Rattle.std.proofs.lemmas.Option.{slice_get_read}
use Rattle.plcx_st.specs.declared.tree.PouText.{PouText}
use Rattle.plcx_st.specs.Meant.{pou_meant}
use Rattle.plcx_conditions.specs.Known.{same_name}
use Rattle.plcx_known.specs.Names.{first_place}
use Rattle.plcx_known.proofs.Places.{get_map}
use Rattle.plcx_text_numbered.specs.Numbers.{place_named}
use Rattle.plcx_text_tables.specs.declared.numbers.Number.{Number}
use Rattle.plcx_text_tables.specs.declared.numbers.Table.{Table}
use Rattle.plcx_text_tables.specs.Tabled.{shown_number, shown_table}

at_mapped : (numbers : List Number) (o : Option ℕ) → option_map shown_number (option_and_then (slice_get numbers) o) ≡ option_and_then (slice_get (map shown_number numbers)) o
at_mapped numbers None = refl
at_mapped numbers (Some i) = sym (get_map shown_number numbers i)

pub found_at : (numbers : List Number) (names : List (List ℕ)) (name : List ℕ) (place : Option ℕ) → place ≡ first_place name names
    → option_map shown_number (option_and_then (slice_get numbers) place) ≡ option_and_then (slice_get (map shown_number numbers)) (first_place name names)
found_at numbers names name place e = at_mapped numbers place ∙ ap (option_and_then (slice_get (map shown_number numbers))) e

pub table_there : (tables : List Table) (place : ℕ) → slice_get (map shown_table tables) place ≡ option_map shown_table (slice_get tables place)
table_there tables place = get_map shown_table tables place

-- ---- the place of the POU of a name

named_from : (name : List ℕ) (i : ℕ) (pous : List PouText)
    → unwrap_or (position_from (λ n. same_name n name) i (map (λ (p : PouText). p.name.name) pous)) (i + length pous) ≡ i + place_named name (map pou_meant pous)
named_from name i [] = refl
named_from name i (p ∷ pous) = by (same_name p.name.name name) (named_from name (i + 1) pous)
  where
    names : List (List ℕ)
    names = map (λ (q : PouText). q.name.name) pous

    rest : ℕ
    rest = place_named name (map pou_meant pous)

    by : (b : Bool) → unwrap_or (position_from (λ n. same_name n name) (i + 1) names) (i + 1 + length pous) ≡ i + 1 + rest
        → unwrap_or (cond b (Some i) (position_from (λ n. same_name n name) (i + 1) names)) (i + suc (length pous)) ≡ i + cond b 0 (rest + 1)
    by true h = omega arith
    by false h =
        let count : i + suc (length pous) ≡ i + 1 + length pous = omega arith in
        let more : i + 1 + rest ≡ i + (rest + 1) = omega arith in
        ap (unwrap_or (position_from (λ n. same_name n name) (i + 1) names)) count ∙ h ∙ more

pub named_at : (name : List ℕ) (pous : List PouText) (names : List (List ℕ)) (place : Option ℕ) → names ≡ map (λ (p : PouText). p.name.name) pous → place ≡ first_place name names
    → unwrap_or place (length pous) ≡ place_named name (map pou_meant pous)
named_at name pous names place e f =
    let none : 0 + length pous ≡ length pous = omega arith in
    let same : 0 + place_named name (map pou_meant pous) ≡ place_named name (map pou_meant pous) = omega arith in
    ap (λ o. unwrap_or o (length pous)) (f ∙ ap (first_place name) e)
    ∙ ap (unwrap_or (first_place name (map (λ (p : PouText). p.name.name) pous))) (sym none) ∙ named_from name 0 pous ∙ same

-- ---- the table of a POU that is there

pub is_there : (tables : List Table) (place : ℕ) (t : Table) → place < length tables → t ≡ get_or tables place t → slice_get (map shown_table tables) place ≡ Some (shown_table t)
is_there tables place t low e = get_map shown_table tables place ∙ ap (option_map shown_table) (slice_get_read tables (length tables) place t refl low e)
