-- The program of a name by its place.
use Rattle.std.proofs.Common.{◌≡◌, ℕ, zero, suc, ◌+◌, Bool, true, false, cond, List, [], ◌∷◌, map, Option, Some, None, slice_get, refl, sym, ap, ◌∙◌, subst, arith}
use Rattle.std.specs.Prelude.{MatchOption}
use Rattle.std.specs.List.{position, position_from}
use Rattle.std.proofs.lemmas.Iterator.Adapters.{position_from-zero}
use Rattle.plcx_meaning.specs.Execute.{program_named}
use Rattle.plcx_st.specs.declared.tree.PouText.{PouText}
use Rattle.plcx_st.specs.Meant.{pou_meant}
use Rattle.plcx_text_layout.specs.Named.{is_program_named}
use Rattle.plcx_text_layout.specs.Opening.{IsProgramAt}

-- what is found among POUs is the program of the name
record IsFoundAt (name : List ℕ) (n : ℕ) (ps : List PouText) (i : ℕ) : Type 0 where
  place : ℕ
  pou : PouText
  moved : i ≡ n + place
  there : slice_get (map pou_meant ps) place ≡ Some (pou_meant pou)
  named : program_named name (map pou_meant ps) ≡ Some (pou_meant pou)

found_from : (name : List ℕ) (n : ℕ) (ps : List PouText) (i : ℕ) → position_from (is_program_named name) n ps ≡ Some i → IsFoundAt name n ps i
found_from name n [] i h = absurd (cc)
found_from name n (p ∷ ps) i h = by (is_program_named name p) refl (found_from name (n + 1) ps i) h
  where
    by : (b : Bool) → is_program_named name p ≡ b → (position_from (is_program_named name) (n + 1) ps ≡ Some i → IsFoundAt name (n + 1) ps i)
        → cond b (Some n) (position_from (is_program_named name) (n + 1) ps) ≡ Some i → IsFoundAt name n (p ∷ ps) i
    by true is behind at =
        let same : n ≡ i = cc in
        record {
          place = 0;
          pou = p;
          moved = omega arith;
          there = refl;
          named = ap (λ b. cond b (Some (pou_meant p)) (program_named name (map pou_meant ps))) is;
        }
    by false is behind at =
        let rest = behind at in
        let further = rest.moved in
        record {
          place = suc rest.place;
          pou = rest.pou;
          moved = omega arith;
          there = rest.there;
          named = ap (λ b. cond b (Some (pou_meant p)) (program_named name (map pou_meant ps))) is ∙ rest.named;
        }

none_from : (name : List ℕ) (n : ℕ) (ps : List PouText) → position_from (is_program_named name) n ps ≡ None → program_named name (map pou_meant ps) ≡ None
none_from name n [] h = refl
none_from name n (p ∷ ps) h = by (is_program_named name p) refl (none_from name (n + 1) ps) h
  where
    by : (b : Bool) → is_program_named name p ≡ b → (position_from (is_program_named name) (n + 1) ps ≡ None → program_named name (map pou_meant ps) ≡ None)
        → cond b (Some n) (position_from (is_program_named name) (n + 1) ps) ≡ None → program_named name (map pou_meant (p ∷ ps)) ≡ None
    by true is behind at = absurd (cc)
    by false is behind at = ap (λ b. cond b (Some (pou_meant p)) (program_named name (map pou_meant ps))) is ∙ behind at

pub program_found : (name : List ℕ) (ps : List PouText) (i : ℕ) → position (is_program_named name) ps ≡ Some i → IsProgramAt (map pou_meant ps) name i
program_found name ps i h =
    let f = found_from name 0 ps i (sym (position_from-zero (is_program_named name) ps) ∙ h) in
    let moved = f.moved in
    let same : f.place ≡ i = omega arith in
    record { program = pou_meant f.pou; named = f.named; there = ap (slice_get (map pou_meant ps)) (sym same) ∙ f.there }

pub no_program : (name : List ℕ) (ps : List PouText) → position (is_program_named name) ps ≡ None → program_named name (map pou_meant ps) ≡ None
no_program name ps h = none_from name 0 ps (sym (position_from-zero (is_program_named name) ps) ∙ h)

-- the place that is found is that of the program
pub place_is : (name : List ℕ) (ps : List PouText) (o : Option ℕ) → o ≡ position (is_program_named name) ps → MatchOption o (program_named name (map pou_meant ps) ≡ None) (IsProgramAt (map pou_meant ps) name)
place_is name ps None e = no_program name ps (sym e)
place_is name ps (Some i) e = program_found name ps i (sym e)
