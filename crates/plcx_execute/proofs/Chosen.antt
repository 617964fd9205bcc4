-- The program of a run in a unit, by the POUs as they are read.
use Rattle.std.proofs.Common.{◌≡◌, ◌∷◌, ◌∙◌, ℕ, suc, Bool, true, false, true≢false, List, [], Option, Some, None, map, length, refl, sym, ap, ap₂, arith}
use Rattle.std.specs.Prelude.{filter, find, nat_eq, if◌then◌else◌, ◌&&◌}
use Rattle.std.specs.Str.{bytes_eq}
use Rattle.std.proofs.lemmas.Bool.{and_parts, eqb-true}
use Rattle.std.proofs.lemmas.Slice.Eq.{bytes_eq-Decides}
use Rattle.plcx_types.specs.Name.{in_lower_case}
use Rattle.plcx_meaning.specs.Execute as text
use Rattle.plcx_meaning.specs.Tree as tree
use Rattle.plcx_meaning.proofs.Names.{bytes_self}
use Rattle.plcx_st.specs.declared.tree.PouText.{PouText as Pou}
use Rattle.plcx_traced.specs.Programs.{IsMissing}
use Rattle.plcx_st.specs.Meant.{kind_meant, pou_meant}
use Rattle.plcx_execute.specs.Programs.{programs_of}
use Rattle.plcx_execute.specs.Choosing.{is_program, is_program_named, count, chosen, NamesProgram}

-- POUs of a unit: each has the kind and the name of its POU as it is read
abbrev Shows : List Pou → List tree.PouText → Type 0
Shows [] [] = Unit {0}
Shows [] (d ∷ ds) = ⊥
Shows (p ∷ ps) [] = ⊥
Shows (p ∷ ps) (d ∷ ds) = (d.kind ≡ kind_meant p.kind) × (d.name ≡ p.name.name) × Shows ps ds

shown : (pous : List Pou) → Shows pous (map pou_meant pous)
shown [] = tt
shown (p ∷ ps) = (refl, refl, shown ps)

-- the test of a program, on either side
abbrev is_drawn : tree.PouText → Bool
is_drawn d = tree.is_program d.kind

same_kind : (p : Pou) (d : tree.PouText) → d.kind ≡ kind_meant p.kind → is_drawn d ≡ is_program p
unfolding is_program
same_kind p d e = ap tree.is_program e

-- a program of a name that was found
record IsDrawn (name : List ℕ) (ds : List tree.PouText) (p : Pou) : Type 0 where
  pou : tree.PouText
  named : text.program_named name ds ≡ Some pou
  key : in_lower_case p.name.name ≡ in_lower_case name

module _ (name : List ℕ) where
  abbrev test : tree.PouText → Bool
  test d = is_drawn d && bytes_eq (in_lower_case d.name) (in_lower_case name)

  same_test : (p : Pou) (d : tree.PouText) → d.kind ≡ kind_meant p.kind → d.name ≡ p.name.name → test d ≡ is_program_named name p
  same_test p d e f = ap₂ (λ a n. a && bytes_eq (in_lower_case n) (in_lower_case name)) (same_kind p d e) f

  named_found : (pous : List Pou) (ds : List tree.PouText) (p : Pou) → Shows pous ds → find (is_program_named name) pous ≡ Some p → IsDrawn name ds p
  named_found [] ds p h e = absurd (cc)
  named_found (q ∷ pous) [] p h e = absurd h
  named_found (q ∷ pous) (d ∷ ds) p h e = by (is_program_named name q) refl e (named_found pous ds p h.2)
    where
      by : (b : Bool) → is_program_named name q ≡ b → (if b then Some q else find (is_program_named name) pous) ≡ Some p → (find (is_program_named name) pous ≡ Some p → IsDrawn name ds p) → IsDrawn name (d ∷ ds) p
      by true t f more =
          let same : q ≡ p = cc in
          record {
            pou = d;
            named = ap (λ b. if b then Some d else text.program_named name ds) (same_test q d h.0 h.1 ∙ t);
            key = ap (λ (x : Pou). in_lower_case x.name.name) (sym same) ∙ (bytes_eq-Decides (in_lower_case q.name.name) (in_lower_case name)).0 (and_parts (is_program q) (bytes_eq (in_lower_case q.name.name) (in_lower_case name)) t).1;
          }
      by false t f more =
          let rest = more f in
          record {
            pou = rest.pou;
            named = ap (λ b. if b then Some d else text.program_named name ds) (same_test q d h.0 h.1 ∙ t) ∙ rest.named;
            key = rest.key;
          }

  none_named : (pous : List Pou) (ds : List tree.PouText) → Shows pous ds → find (is_program_named name) pous ≡ None → text.program_named name ds ≡ None
  none_named [] [] h e = refl
  none_named [] (d ∷ ds) h e = absurd h
  none_named (q ∷ pous) [] h e = absurd h
  none_named (q ∷ pous) (d ∷ ds) h e = by (is_program_named name q) refl e (none_named pous ds h.2)
    where
      by : (b : Bool) → is_program_named name q ≡ b → (if b then Some q else find (is_program_named name) pous) ≡ None → (find (is_program_named name) pous ≡ None → text.program_named name ds ≡ None)
          → text.program_named name (d ∷ ds) ≡ None
      by true t f more = absurd (cc)
      by false t f more = ap (λ b. if b then Some d else text.program_named name ds) (same_test q d h.0 h.1 ∙ t) ∙ more f

same_count : (pous : List Pou) (ds : List tree.PouText) → Shows pous ds → count pous ≡ length (filter is_drawn ds)
same_count [] [] h = refl
same_count [] (d ∷ ds) h = absurd h
same_count (q ∷ pous) [] h = absurd h
same_count (q ∷ pous) (d ∷ ds) h = by (is_program q) (is_drawn d) (same_kind q d h.0) (same_count pous ds h.2)
  where
    by : (a b : Bool) → b ≡ a → count pous ≡ length (filter is_drawn ds) → length (if a then q ∷ filter is_program pous else filter is_program pous) ≡ length (if b then d ∷ filter is_drawn ds else filter is_drawn ds)
    by true true e more = ap (λ n. suc n) more
    by true false e more = absurd (true≢false (sym e))
    by false true e more = absurd (true≢false e)
    by false false e more = more

-- the first program
record IsFirst (ds : List tree.PouText) (p : Pou) : Type 0 where
  pou : tree.PouText
  rest : List tree.PouText
  all : filter is_drawn ds ≡ pou ∷ rest
  named : text.program_named p.name.name ds ≡ Some pou

first_found : (pous : List Pou) (ds : List tree.PouText) (p : Pou) → Shows pous ds → find is_program pous ≡ Some p → IsFirst ds p
first_found [] ds p h e = absurd (cc)
first_found (q ∷ pous) [] p h e = absurd h
first_found (q ∷ pous) (d ∷ ds) p h e = by (is_program q) refl e (first_found pous ds p h.2)
  where
    by : (b : Bool) → is_program q ≡ b → (if b then Some q else find is_program pous) ≡ Some p → (find is_program pous ≡ Some p → IsFirst ds p) → IsFirst (d ∷ ds) p
    by true t f rest =
        let same : q ≡ p = cc in
        let drawn : is_drawn d ≡ true = same_kind q d h.0 ∙ t in
        let name : d.name ≡ p.name.name = h.1 ∙ ap (λ (x : Pou). x.name.name) same in
        record {
          pou = d;
          rest = filter is_drawn ds;
          all = ap (λ b. if b then d ∷ filter is_drawn ds else filter is_drawn ds) drawn;
          named = ap (λ b. if b then Some d else text.program_named p.name.name ds)
              (ap₂ (λ a n. a && bytes_eq (in_lower_case n) (in_lower_case p.name.name)) drawn name ∙ bytes_self (in_lower_case p.name.name));
        }
    by false t f rest =
        let drawn : is_drawn d ≡ false = same_kind q d h.0 ∙ t in
        let more = rest f in
        record {
          pou = more.pou;
          rest = more.rest;
          all = ap (λ b. if b then d ∷ filter is_drawn ds else filter is_drawn ds) drawn ∙ more.all;
          named = ap (λ b. if b && bytes_eq (in_lower_case d.name) (in_lower_case p.name.name) then Some d else text.program_named p.name.name ds) drawn ∙ more.named;
        }

none_found : (pous : List Pou) → find is_program pous ≡ None → count pous ≡ 0
none_found [] e = refl
none_found (q ∷ pous) e = by (is_program q) refl e (none_found pous)
  where
    by : (b : Bool) → is_program q ≡ b → (if b then Some q else find is_program pous) ≡ None → (find is_program pous ≡ None → count pous ≡ 0) → count (q ∷ pous) ≡ 0
    by true t f more = absurd (cc)
    by false t f more = ap (λ b. length (if b then q ∷ filter is_program pous else filter is_program pous)) t ∙ more f

alone : (d : tree.PouText) (rest : List tree.PouText) → length (d ∷ rest) ≡ 1 → d ∷ rest ≡ d ∷ []
alone d [] e = refl
alone d (x ∷ rest) e = absurd (omega arith)

-- a name is looked for by its letters alone
named_by_key : (x y : List ℕ) (ds : List tree.PouText) → in_lower_case x ≡ in_lower_case y → text.program_named x ds ≡ text.program_named y ds
named_by_key x y [] e = refl
named_by_key x y (d ∷ ds) e = ap₂ (λ k rest. if is_drawn d && bytes_eq (in_lower_case d.name) k then Some d else rest) e (named_by_key x y ds e)

module _ (pous : List Pou) where
  shows : Shows pous (map pou_meant pous)
  shows = shown pous

  -- the program that was chosen is that of the run
  pub chosen_is : (program : Option (List ℕ)) (p : Pou) → chosen program pous ≡ Some p → NamesProgram (map pou_meant pous) program p.name.name
  chosen_is (Some name) p e =
      let found = named_found name pous (map pou_meant pous) p shows e in
      record {
        pou = found.pou;
        is = found.named;
        named = named_by_key p.name.name name (map pou_meant pous) found.key ∙ found.named;
      }
  chosen_is None p e = by (nat_eq (count pous) 1) refl e
    where
      by : (b : Bool) → nat_eq (count pous) 1 ≡ b → (if b then find is_program pous else None) ≡ Some p → NamesProgram (map pou_meant pous) None p.name.name
      by true t f =
          let first = first_found pous (map pou_meant pous) p shows f in
          let one : count pous ≡ 1 = eqb-true (count pous) 1 t in
          let count : length (first.pou ∷ first.rest) ≡ 1 = ap length (sym first.all) ∙ sym (same_count pous (map pou_meant pous) shows) ∙ one in
          record { pou = first.pou; is = first.all ∙ alone first.pou first.rest count; named = first.named }
      by false t f = absurd (cc)

  -- where none was chosen, it is missing
  pub none_is : (program : Option (List ℕ)) → chosen program pous ≡ None → IsMissing (programs_of (map pou_meant pous)) program
  none_is (Some name) e = none_named name pous (map pou_meant pous) shows e
  none_is None e = λ one. by (nat_eq (count pous) 1) refl e (same_count pous (map pou_meant pous) shows ∙ one)
    where
      by : (b : Bool) → nat_eq (count pous) 1 ≡ b → (if b then find is_program pous else None) ≡ None → count pous ≡ 1 → ⊥
      by true t f count = let z = none_found pous f in omega arith
      by false t f count = true≢false (sym (ap (λ n. nat_eq n 1) count) ∙ t)

  -- and there are so many
  pub count_is : count pous ≡ length (filter (λ (d : tree.PouText). tree.is_program d.kind) (map pou_meant pous))
  count_is = same_count pous (map pou_meant pous) shows
