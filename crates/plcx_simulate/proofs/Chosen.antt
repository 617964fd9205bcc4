-- The program of a run among the diagrams, by the POUs of the file.
use Rattle.std.proofs.Common.{◌≡◌, ◌+◌, ◌∷◌, ◌∙◌, ℕ, suc, Bool, true, false, true≢false, List, [], Option, Some, None, length, refl, sym, ap, ap₂, arith}
use Rattle.std.specs.Prelude.{filter, find, nat_eq, if◌then◌else◌, ◌&&◌}
use Rattle.std.specs.Str.{bytes_eq}
use Rattle.std.proofs.lemmas.Bool.{and_parts, eqb-true}
use Rattle.std.proofs.lemmas.Slice.Eq.{bytes_eq-Decides}
use Rattle.plcx_types.specs.Name.{in_lower_case}
use Rattle.plcx_meaning.specs.Diagram as diagram
use Rattle.plcx_meaning.specs.Tree as tree
use Rattle.plcx_meaning.proofs.Names.{bytes_self}
use Rattle.plcx_model.specs.declared.plan.Links.{Links}
use Rattle.plcx_model.specs.declared.plan.Types.{Types}
use Rattle.plcx_model.specs.declared.plan.Plan.{Plan}
use Rattle.plcx_model.specs.declared.project.Pou.{Pou}
use Rattle.plcx_model.specs.declared.project.Project.{Project}
use Rattle.plcx_traced.specs.Programs.{IsMissing}
use Rattle.plcx_view.specs.Declared.{kind_of_pou}
use Rattle.plcx_view.specs.Diagrams.{pous_from, diagrams_of}
use Rattle.plcx_simulate.specs.Programs.{NamesProgram, programs_of}
use Rattle.plcx_simulate.specs.Choosing.{is_program, is_program_named, count, chosen}

-- diagrams of POUs: each has the kind and the name of its POU
abbrev Shows : List Pou → List diagram.Pou → Type 0
Shows [] [] = Unit {0}
Shows [] (d ∷ ds) = ⊥
Shows (p ∷ ps) [] = ⊥
Shows (p ∷ ps) (d ∷ ds) = (d.kind ≡ kind_of_pou p.kind) × (d.name ≡ p.name) × Shows ps ds

shown : (project : Project) (links : Links) (types : Types) (plan : Plan) (place : ℕ) (pous : List Pou) → Shows pous (pous_from project links types plan place pous)
shown project links types plan place [] = tt
shown project links types plan place (p ∷ ps) = (refl, refl, shown project links types plan (place + 1) ps)

-- the test of a program, on either side
abbrev is_drawn : diagram.Pou → Bool
is_drawn d = tree.is_program d.kind

same_kind : (p : Pou) (d : diagram.Pou) → d.kind ≡ kind_of_pou p.kind → is_drawn d ≡ is_program p
unfolding is_program
same_kind p d e = ap tree.is_program e

-- a program of a name that was found
record IsDrawn (name : List ℕ) (ds : List diagram.Pou) (p : Pou) : Type 0 where
  pou : diagram.Pou
  named : diagram.program_named name ds ≡ Some pou
  key : in_lower_case p.name ≡ in_lower_case name

module _ (name : List ℕ) where
  abbrev test : diagram.Pou → Bool
  test d = is_drawn d && bytes_eq (in_lower_case d.name) (in_lower_case name)

  same_test : (p : Pou) (d : diagram.Pou) → d.kind ≡ kind_of_pou p.kind → d.name ≡ p.name → test d ≡ is_program_named name p
  same_test p d e f = ap₂ (λ a n. a && bytes_eq (in_lower_case n) (in_lower_case name)) (same_kind p d e) f

  named_found : (pous : List Pou) (ds : List diagram.Pou) (p : Pou) → Shows pous ds → find (is_program_named name) pous ≡ Some p → IsDrawn name ds p
  named_found [] ds p h e = absurd (cc)
  named_found (q ∷ pous) [] p h e = absurd h
  named_found (q ∷ pous) (d ∷ ds) p h e = by (is_program_named name q) refl e (named_found pous ds p h.2)
    where
      by : (b : Bool) → is_program_named name q ≡ b → (if b then Some q else find (is_program_named name) pous) ≡ Some p → (find (is_program_named name) pous ≡ Some p → IsDrawn name ds p) → IsDrawn name (d ∷ ds) p
      by true t f more =
          let same : q ≡ p = cc in
          record {
            pou = d;
            named = ap (λ b. if b then Some d else diagram.program_named name ds) (same_test q d h.0 h.1 ∙ t);
            key = ap (λ (x : Pou). in_lower_case x.name) (sym same) ∙ (bytes_eq-Decides (in_lower_case q.name) (in_lower_case name)).0 (and_parts (is_program q) (bytes_eq (in_lower_case q.name) (in_lower_case name)) t).1;
          }
      by false t f more =
          let rest = more f in
          record {
            pou = rest.pou;
            named = ap (λ b. if b then Some d else diagram.program_named name ds) (same_test q d h.0 h.1 ∙ t) ∙ rest.named;
            key = rest.key;
          }

  none_named : (pous : List Pou) (ds : List diagram.Pou) → Shows pous ds → find (is_program_named name) pous ≡ None → diagram.program_named name ds ≡ None
  none_named [] [] h e = refl
  none_named [] (d ∷ ds) h e = absurd h
  none_named (q ∷ pous) [] h e = absurd h
  none_named (q ∷ pous) (d ∷ ds) h e = by (is_program_named name q) refl e (none_named pous ds h.2)
    where
      by : (b : Bool) → is_program_named name q ≡ b → (if b then Some q else find (is_program_named name) pous) ≡ None → (find (is_program_named name) pous ≡ None → diagram.program_named name ds ≡ None)
          → diagram.program_named name (d ∷ ds) ≡ None
      by true t f more = absurd (cc)
      by false t f more = ap (λ b. if b then Some d else diagram.program_named name ds) (same_test q d h.0 h.1 ∙ t) ∙ more f

same_count : (pous : List Pou) (ds : List diagram.Pou) → Shows pous ds → count pous ≡ length (filter is_drawn ds)
same_count [] [] h = refl
same_count [] (d ∷ ds) h = absurd h
same_count (q ∷ pous) [] h = absurd h
same_count (q ∷ pous) (d ∷ ds) h = by (is_program q) (is_drawn d) (same_kind q d h.0) (same_count pous ds h.2)
  where
    by : (a b : Bool) → b ≡ a → count pous ≡ length (filter is_drawn ds) → length (if a then q ∷ filter is_program pous else filter is_program pous) ≡ length (if b then d ∷ filter is_drawn ds else filter is_drawn ds)
    by true true e more = ap (λ n. suc n) more
    by true false e more = absurd (true≢false (sym e))
    by false true e more = absurd (true≢false e)
    by false false e more = more

-- the first program
record IsFirst (ds : List diagram.Pou) (p : Pou) : Type 0 where
  pou : diagram.Pou
  rest : List diagram.Pou
  all : filter is_drawn ds ≡ pou ∷ rest
  named : diagram.program_named p.name ds ≡ Some pou

first_found : (pous : List Pou) (ds : List diagram.Pou) (p : Pou) → Shows pous ds → find is_program pous ≡ Some p → IsFirst ds p
first_found [] ds p h e = absurd (cc)
first_found (q ∷ pous) [] p h e = absurd h
first_found (q ∷ pous) (d ∷ ds) p h e = by (is_program q) refl e (first_found pous ds p h.2)
  where
    by : (b : Bool) → is_program q ≡ b → (if b then Some q else find is_program pous) ≡ Some p → (find is_program pous ≡ Some p → IsFirst ds p) → IsFirst (d ∷ ds) p
    by true t f rest =
        let same : q ≡ p = cc in
        let drawn : is_drawn d ≡ true = same_kind q d h.0 ∙ t in
        let name : d.name ≡ p.name = h.1 ∙ ap (λ (x : Pou). x.name) same in
        record {
          pou = d;
          rest = filter is_drawn ds;
          all = ap (λ b. if b then d ∷ filter is_drawn ds else filter is_drawn ds) drawn;
          named = ap (λ b. if b then Some d else diagram.program_named p.name ds)
              (ap₂ (λ a n. a && bytes_eq (in_lower_case n) (in_lower_case p.name)) drawn name ∙ bytes_self (in_lower_case p.name));
        }
    by false t f rest =
        let drawn : is_drawn d ≡ false = same_kind q d h.0 ∙ t in
        let more = rest f in
        record {
          pou = more.pou;
          rest = more.rest;
          all = ap (λ b. if b then d ∷ filter is_drawn ds else filter is_drawn ds) drawn ∙ more.all;
          named = ap (λ b. if b && bytes_eq (in_lower_case d.name) (in_lower_case p.name) then Some d else diagram.program_named p.name ds) drawn ∙ more.named;
        }

none_found : (pous : List Pou) → find is_program pous ≡ None → count pous ≡ 0
none_found [] e = refl
none_found (q ∷ pous) e = by (is_program q) refl e (none_found pous)
  where
    by : (b : Bool) → is_program q ≡ b → (if b then Some q else find is_program pous) ≡ None → (find is_program pous ≡ None → count pous ≡ 0) → count (q ∷ pous) ≡ 0
    by true t f more = absurd (cc)
    by false t f more = ap (λ b. length (if b then q ∷ filter is_program pous else filter is_program pous)) t ∙ more f

alone : (d : diagram.Pou) (rest : List diagram.Pou) → length (d ∷ rest) ≡ 1 → d ∷ rest ≡ d ∷ []
alone d [] e = refl
alone d (x ∷ rest) e = absurd (omega arith)

-- a name is looked for by its letters alone
named_by_key : (x y : List ℕ) (ds : List diagram.Pou) → in_lower_case x ≡ in_lower_case y → diagram.program_named x ds ≡ diagram.program_named y ds
named_by_key x y [] e = refl
named_by_key x y (d ∷ ds) e = ap₂ (λ k rest. if is_drawn d && bytes_eq (in_lower_case d.name) k then Some d else rest) e (named_by_key x y ds e)

module _ (project : Project) (links : Links) (types : Types) (plan : Plan) where
  shows : Shows project.pous (diagrams_of project links types plan)
  shows = shown project links types plan 0 project.pous

  -- the program that was chosen is that of the run
  pub chosen_is : (program : Option (List ℕ)) (p : Pou) → chosen program project.pous ≡ Some p → NamesProgram (diagrams_of project links types plan) program p.name
  chosen_is (Some name) p e =
      let found = named_found name project.pous (diagrams_of project links types plan) p shows e in
      record {
        pou = found.pou;
        is = found.named;
        named = named_by_key p.name name (diagrams_of project links types plan) found.key ∙ found.named;
      }
  chosen_is None p e = by (nat_eq (count project.pous) 1) refl e
    where
      by : (b : Bool) → nat_eq (count project.pous) 1 ≡ b → (if b then find is_program project.pous else None) ≡ Some p → NamesProgram (diagrams_of project links types plan) None p.name
      by true t f =
          let first = first_found project.pous (diagrams_of project links types plan) p shows f in
          let one : count project.pous ≡ 1 = eqb-true (count project.pous) 1 t in
          let count : length (first.pou ∷ first.rest) ≡ 1 = ap length (sym first.all) ∙ sym (same_count project.pous (diagrams_of project links types plan) shows) ∙ one in
          record { pou = first.pou; is = first.all ∙ alone first.pou first.rest count; named = first.named }
      by false t f = absurd (cc)

  -- where none was chosen, it is missing
  pub none_is : (program : Option (List ℕ)) → chosen program project.pous ≡ None → IsMissing (programs_of (diagrams_of project links types plan)) program
  none_is (Some name) e = none_named name project.pous (diagrams_of project links types plan) shows e
  none_is None e = λ one. by (nat_eq (count project.pous) 1) refl e (same_count project.pous (diagrams_of project links types plan) shows ∙ one)
    where
      by : (b : Bool) → nat_eq (count project.pous) 1 ≡ b → (if b then find is_program project.pous else None) ≡ None → count project.pous ≡ 1 → ⊥
      by true t f count = let z = none_found project.pous f in omega arith
      by false t f count = true≢false (sym (ap (λ n. nat_eq n 1) count) ∙ t)

  -- and there are so many
  pub count_is : count project.pous ≡ length (filter (λ (d : diagram.Pou). diagram.is_program d.kind) (diagrams_of project links types plan))
  count_is = same_count project.pous (diagrams_of project links types plan) shows
