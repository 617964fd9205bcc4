-- A variable that is found by a table is the one of the diagram, with its numbers.
use Rattle.std.proofs.Common.{◌≡◌, ℕ, ◌+◌, Bool, true, false, cond, List, [], ◌∷◌, map, filter, Option, Some, None, option_and_then, refl, sym, ap, ◌∙◌, arith}
use Rattle.std.specs.Prelude.{slice_get, if◌then◌else◌}
use Rattle.std.specs.List.{sum_by, position_from, find}
use Rattle.std.specs.Str.{bytes_eq}
use Rattle.std.proofs.lemmas.List.Sums.{sum_by-cons}
use Rattle.plcx_types.specs.Name.{in_lower_case}
use Rattle.plcx_meaning.specs.Diagram.{Project}
use Rattle.plcx_meaning.specs.Evaluate.{is_in_out}
use Rattle.plcx_meaning.specs.Layout.{Variable, variable_named}
use Rattle.plcx_rules.specs.Texts.{same_name}
use Rattle.plcx_numbered.specs.Numbers.{first_leaf, leaf_count, cell_count, number_of, in_out_names}
use Rattle.plcx_names.proofs.Finding.{at_place}
use Rattle.plcx_tables.specs.declared.placed.Placed.{Placed}
use Rattle.plcx_tables.specs.declared.variables.Declared.{Declared}
use Rattle.plcx_tables.specs.Tables.{has_key}
use Rattle.plcx_tables.specs.Telling.{Told, told, shown}
use Rattle.plcx_tables.specs.Owned.{variable_name}
use Rattle.plcx_tables.specs.Levels.{leaf_weight, memory_weight}
use Rattle.plcx_tables.specs.Placing.{placed_from}

-- what stands at the place of a name is what is found first
pub find_placed : (L M : List ℕ) (x : List ℕ) (l m j : ℕ) (ds : List Declared)
    → option_and_then (slice_get (placed_from L M l m j ds)) (position_from (has_key (λ n. same_name n x)) 0 (map variable_name ds)) ≡ find (λ (p : Placed). same_name p.variable.name.now x) (placed_from L M l m j ds)
find_placed L M x l m j ds = ap (option_and_then (slice_get (placed_from L M l m j ds))) (from 0 l m j ds) ∙ at_place (λ (p : Placed). same_name p.variable.name.now x) (placed_from L M l m j ds)
  where
    from : (i l m j : ℕ) (ds : List Declared) → position_from (has_key (λ n. same_name n x)) i (map variable_name ds) ≡ position_from (λ (p : Placed). same_name p.variable.name.now x) i (placed_from L M l m j ds)
    from i l m j [] = refl
    from i l m j (d ∷ ds) = ap (λ (o : Option ℕ). cond (same_name d.name.now x) (Some i) o) (from (i + 1) (l + leaf_weight true L (shown d)) (m + memory_weight M (shown d)) (j + (if d.in_out then 1 else 0)) ds)

module _ (project : Project) where
  -- a variable by its numbers, which begin at these
  abbrev pub FoundBy : (l m j : ℕ) (key : List ℕ) (vs : List Variable) → Option Placed → Type 0
  FoundBy l m j key vs None = (variable_named key vs ≡ None) × (l + first_leaf (leaf_count project) key vs ≡ l + sum_by (leaf_count project) vs)
  FoundBy l m j key vs (Some p) = (v : Variable) × (variable_named key vs ≡ Some v) × (shown p.variable ≡ told project v) × (l + first_leaf (leaf_count project) key vs ≡ p.leaf)
      × (m + first_leaf (cell_count project) key vs ≡ p.memory) × (is_in_out (Some v) ≡ true → j + number_of bytes_eq (in_out_names vs) key ≡ p.in_out)

  names_by : (b : Bool) (v : Variable) (vs : List Variable) → is_in_out (Some v) ≡ b → in_out_names (v ∷ vs) ≡ (if b then in_lower_case v.name ∷ in_out_names vs else in_out_names vs)
  names_by true v vs e = ap (λ b. map (λ (w : Variable). in_lower_case w.name) (if b then v ∷ filter (λ w. is_in_out (Some w)) vs else filter (λ w. is_in_out (Some w)) vs)) e
  names_by false v vs e = ap (λ b. map (λ (w : Variable). in_lower_case w.name) (if b then v ∷ filter (λ w. is_in_out (Some w)) vs else filter (λ w. is_in_out (Some w)) vs)) e

  -- one that is not the one behind
  later : (key : List ℕ) (v : Variable) (vs : List Variable) (l m j l' m' j' : ℕ) → bytes_eq (in_lower_case v.name) key ≡ false → l' ≡ l + leaf_count project v → m' ≡ m + cell_count project v
      → j' ≡ j + (if is_in_out (Some v) then 1 else 0) → (o : Option Placed) → FoundBy l' m' j' key vs o → FoundBy l m j key (v ∷ vs) o
  later key v vs l m j l' m' j' other ls ms js None h = (
    ap (λ b. if b then Some v else variable_named key vs) other ∙ h.0,
    (let a = ap (λ b. if b then 0 else leaf_count project v + first_leaf (leaf_count project) key vs) other in let s = sum_by-cons (leaf_count project) v vs in let g = h.1 in
        let e : l + first_leaf (leaf_count project) key (v ∷ vs) ≡ l + sum_by (leaf_count project) (v ∷ vs) = omega arith in e),
  )
  later key v vs l m j l' m' j' other ls ms js (Some p) h = (
    h.0,
    ap (λ b. if b then Some v else variable_named key vs) other ∙ h.1,
    h.2,
    (let a = ap (λ b. if b then 0 else leaf_count project v + first_leaf (leaf_count project) key vs) other in let g = h.3 in
        let e : l + first_leaf (leaf_count project) key (v ∷ vs) ≡ p.leaf = omega arith in e),
    (let a = ap (λ b. if b then 0 else cell_count project v + first_leaf (cell_count project) key vs) other in let g = h.4 in
        let e : m + first_leaf (cell_count project) key (v ∷ vs) ≡ p.memory = omega arith in e),
    λ is. by (is_in_out (Some v)) refl (h.5 is),
  )
    where
      by : (b : Bool) → is_in_out (Some v) ≡ b → j' + number_of bytes_eq (in_out_names vs) key ≡ p.in_out → j + number_of bytes_eq (in_out_names (v ∷ vs)) key ≡ p.in_out
      by true e g =
          let n = ap (λ ns. number_of bytes_eq ns key) (names_by true v vs e) ∙ ap (λ b. if b then 0 else number_of bytes_eq (in_out_names vs) key + 1) other in
          let k = js ∙ ap (λ b. j + (if b then 1 else 0)) e in
          omega arith
      by false e g =
          let n = ap (λ ns. number_of bytes_eq ns key) (names_by false v vs e) in
          let k = js ∙ ap (λ b. j + (if b then 1 else 0)) e in
          omega arith

  module _ (L M : List ℕ) (leaves : (v : Variable) → leaf_weight true L (told project v) ≡ leaf_count project v) (memories : (v : Variable) → memory_weight M (told project v) ≡ cell_count project v) (x : List ℕ) where
    pub found_from : (l m j : ℕ) (ds : List Declared) (vs : List Variable) → map shown ds ≡ map (told project) vs → FoundBy l m j (in_lower_case x) vs (find (λ (p : Placed). same_name p.variable.name.now x) (placed_from L M l m j ds))
    found_from l m j [] [] e = (refl, refl)
    found_from l m j [] (v ∷ vs) e = absurd (let no : ⊥ = cc in no)
    found_from l m j (d ∷ ds) [] e = absurd (let no : ⊥ = cc in no)
    found_from l m j (d ∷ ds) (v ∷ vs) e =
        let head : shown d ≡ told project v = cc in
        let tail : map shown ds ≡ map (told project) vs = cc in
        let name : d.name.now ≡ v.name = ap (λ (t : Told). t.name) head in
        by head (same_name d.name.now x) (ap (λ n. same_name n x) (sym name)) (found_from (l + leaf_weight true L (shown d)) (m + memory_weight M (shown d)) (j + (if d.in_out then 1 else 0)) ds vs tail)
      where
        rest : Option Placed
        rest = find (λ (p : Placed). same_name p.variable.name.now x) (placed_from L M (l + leaf_weight true L (shown d)) (m + memory_weight M (shown d)) (j + (if d.in_out then 1 else 0)) ds)

        here : Placed
        here = record { variable = d; leaf = l; memory = m; in_out = j }

        by : shown d ≡ told project v → (b : Bool) → same_name v.name x ≡ b → FoundBy (l + leaf_weight true L (shown d)) (m + memory_weight M (shown d)) (j + (if d.in_out then 1 else 0)) (in_lower_case x) vs rest
            → FoundBy l m j (in_lower_case x) (v ∷ vs) (cond b (Some here) rest)
        by head true is more = (
          v,
          ap (λ b. if b then Some v else variable_named (in_lower_case x) vs) is,
          head,
          (let a = ap (λ b. if b then 0 else leaf_count project v + first_leaf (leaf_count project) (in_lower_case x) vs) is in let e : l + first_leaf (leaf_count project) (in_lower_case x) (v ∷ vs) ≡ l = omega arith in e),
          (let a = ap (λ b. if b then 0 else cell_count project v + first_leaf (cell_count project) (in_lower_case x) vs) is in let e : m + first_leaf (cell_count project) (in_lower_case x) (v ∷ vs) ≡ m = omega arith in e),
          λ own. (let a = ap (λ ns. number_of bytes_eq ns (in_lower_case x)) (names_by true v vs own) ∙ ap (λ b. if b then 0 else number_of bytes_eq (in_out_names vs) (in_lower_case x) + 1) is in let e : j + number_of bytes_eq (in_out_names (v ∷ vs)) (in_lower_case x) ≡ j = omega arith in e),
        )
        by head false is more =
            later (in_lower_case x) v vs l m j _ _ _ is (ap (λ n. l + n) (ap (leaf_weight true L) head ∙ leaves v)) (ap (λ n. m + n) (ap (memory_weight M) head ∙ memories v)) (ap (λ (t : Told). j + (if t.in_out then 1 else 0)) head) rest more
