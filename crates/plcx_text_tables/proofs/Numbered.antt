-- The variable of a name stands at its number among those of a POU.
use Rattle.std.proofs.Common.{◌≡◌, ℕ, suc, ◌+◌, Bool, true, false, cond, List, [], ◌∷◌, Option, Some, None, map, filter, option_map, slice_get, if◌then◌else◌, refl, sym, ap, ◌∙◌, arith}
use Rattle.std.specs.Option.{option_and_then}
use Rattle.std.specs.List.{position_from, sum_by}
use Rattle.std.specs.Str.{bytes_eq}
use Rattle.std.proofs.lemmas.List.Sums.{sum_by-cons}
use Rattle.plcx_types.specs.Name.{in_lower_case}
use Rattle.plcx_meaning.specs.Tree as tree
use Rattle.plcx_meaning.specs.Tree.{Class, Local, Input, Output, InOut, Temp}
use Rattle.plcx_meaning.specs.Layout.{Variable, variable_named}
use Rattle.plcx_meaning.specs.Evaluate.{is_in_out}
use Rattle.plcx_steps.specs.declared.program.Operand.TheVariants as operand
use Rattle.plcx_conditions.specs.Placed.{Declared, bare_variable}
use Rattle.plcx_conditions.specs.Known.{same_name}
use Rattle.plcx_known.specs.Owned.{Typed, typed, name_of}
use Rattle.plcx_known.specs.Names.{first_place}
use Rattle.plcx_numbered.specs.Numbers.{first_leaf, number_of, in_out_names}
use Rattle.plcx_text_numbered.specs.Prepared.{Place, Held, Stored}
use Rattle.plcx_text_numbered.specs.Numbers.{is_temporary, temporary_names}
use Rattle.plcx_text_tables.specs.Counts.{leaves_in}
use Rattle.plcx_text_tables.specs.Tabled.{Numbered, Count, standing, counted, numbered, all_numbered, no_count, table_of, number_named, leaf_named}

-- the first that passes, told from a later place on
later_place : {X : Type 0} (test : X → Bool) (i : ℕ) (xs : List X) → position_from test (i + 1) xs ≡ option_map suc (position_from test i xs)
later_place test i [] = refl
later_place test i (x ∷ xs) = by (test x) (later_place test (i + 1) xs)
  where
    by : (b : Bool) → position_from test (i + 1 + 1) xs ≡ option_map suc (position_from test (i + 1) xs)
        → (if b then Some (i + 1) else position_from test (i + 1 + 1) xs) ≡ option_map suc (if b then Some i else position_from test (i + 1) xs)
    by true h = ap Some (let z : i + 1 ≡ suc i = omega arith in z)
    by false h = h

-- what stands at a place behind another
behind_first : {X : Type 0} (x : X) (xs : List X) (o : Option ℕ) → option_and_then (slice_get (x ∷ xs)) (option_map suc o) ≡ option_and_then (slice_get xs) o
behind_first x xs None = refl
behind_first x xs (Some i) = refl

-- the numbers of the variable of a name, behind so many
abbrev pub found : List ℕ → Count → List Typed → List ℕ → Option Numbered
found counts c [] name = None
found counts c (t ∷ ts) name = cond (same_name (name_of t) name) (Some (numbered c t)) (found counts (counted c t.variable.class (leaves_in 17 counts t)) ts name)

pub found_is : (counts : List ℕ) (c : Count) (ts : List Typed) (name : List ℕ) → option_and_then (slice_get (all_numbered counts c ts)) (first_place name (map name_of ts)) ≡ found counts c ts name
found_is counts c [] name = refl
found_is counts c (t ∷ ts) name = by (same_name (name_of t) name) (found_is counts (counted c t.variable.class (leaves_in 17 counts t)) ts name)
  where
    next : Count
    next = counted c t.variable.class (leaves_in 17 counts t)

    by : (b : Bool) → option_and_then (slice_get (all_numbered counts next ts)) (first_place name (map name_of ts)) ≡ found counts next ts name
        → option_and_then (slice_get (numbered c t ∷ all_numbered counts next ts)) (if b then Some 0 else position_from (λ n. same_name n name) (0 + 1) (map name_of ts)) ≡ cond b (Some (numbered c t)) (found counts next ts name)
    by true h = refl
    by false h =
        ap (option_and_then (slice_get (numbered c t ∷ all_numbered counts next ts))) (later_place (λ n. same_name n name) 0 (map name_of ts))
        ∙ behind_first (numbered c t) (all_numbered counts next ts) (position_from (λ n. same_name n name) 0 (map name_of ts))
        ∙ h

-- ---- leaves

abbrev leaf_or : ℕ → Option Numbered → ℕ
leaf_or all o = elim o [ Some n ↦ n.leaf | None ↦ all ]

counted_leaves : (c : Count) (class : Class) (n : ℕ) → (counted c class n).leaves ≡ c.leaves + n
counted_leaves c Local n = refl
counted_leaves c Input n = refl
counted_leaves c Output n = refl
counted_leaves c InOut n = refl
counted_leaves c Temp n = refl

module _ (unit : List tree.PouText) (counts : List ℕ) (count : Variable → ℕ) (are : (d : Declared) → leaves_in 17 counts (typed unit d) ≡ count (bare_variable d)) where
  leaf_found : (c : Count) (ds : List Declared) (name : List ℕ)
      → leaf_or (c.leaves + sum_by (leaves_in 17 counts) (map (typed unit) ds)) (found counts c (map (typed unit) ds) name) ≡ c.leaves + first_leaf count (in_lower_case name) (map bare_variable ds)
  leaf_found c [] name = refl
  leaf_found c (d ∷ ds) name = by (bytes_eq (in_lower_case d.declaration.name.name) (in_lower_case name)) (leaf_found (counted c d.class (leaves_in 17 counts (typed unit d))) ds name)
    where
      own : ℕ
      own = leaves_in 17 counts (typed unit d)

      rest : ℕ
      rest = sum_by (leaves_in 17 counts) (map (typed unit) ds)

      next : Count
      next = counted c d.class own

      later : ℕ
      later = first_leaf count (in_lower_case name) (map bare_variable ds)

      by : (b : Bool) → leaf_or (next.leaves + rest) (found counts next (map (typed unit) ds) name) ≡ next.leaves + later
          → leaf_or (c.leaves + sum_by (leaves_in 17 counts) (map (typed unit) (d ∷ ds))) (cond b (Some (numbered c (typed unit d))) (found counts next (map (typed unit) ds) name)) ≡ c.leaves + cond b 0 (count (bare_variable d) + later)
      by true h = let z : c.leaves ≡ c.leaves + 0 = omega arith in z
      by false h =
          ap (λ n. leaf_or n (found counts next (map (typed unit) ds) name))
          (let s = sum_by-cons (leaves_in 17 counts) (typed unit d) (map (typed unit) ds) in let n = counted_leaves c d.class own in
          let z : c.leaves + sum_by (leaves_in 17 counts) (map (typed unit) (d ∷ ds)) ≡ next.leaves + rest = omega arith in z)
          ∙ h
          ∙ (let n = counted_leaves c d.class own in let a = are d in
          let z : next.leaves + later ≡ c.leaves + (count (bare_variable d) + later) = omega arith in z)

  pub leaf_is : (ds : List Declared) (name : List ℕ) → leaf_named (table_of counts (map (typed unit) ds)) name ≡ first_leaf count (in_lower_case name) (map bare_variable ds)
  leaf_is ds name =
      let all = sum_by (leaves_in 17 counts) (map (typed unit) ds) in
      ap (leaf_or all) (found_is counts no_count (map (typed unit) ds) name)
      ∙ ap (λ n. leaf_or n (found counts no_count (map (typed unit) ds) name)) (let z : all ≡ 0 + all = omega arith in z)
      ∙ leaf_found no_count ds name
      ∙ (let z : 0 + first_leaf count (in_lower_case name) (map bare_variable ds) ≡ first_leaf count (in_lower_case name) (map bare_variable ds) = omega arith in z)

  -- ---- places

  abbrev pub stands_by : Count → List Variable → List ℕ → Class → Place
  stands_by c vs key class = elim class [
    | Temp ↦ Held (c.temporaries + number_of bytes_eq (temporary_names vs) key)
    | InOut ↦ Stored (operand.InOut (c.in_outs + number_of bytes_eq (in_out_names vs) key))
    | _ ↦ Stored (operand.Leaf (c.leaves + first_leaf count key vs))
  ]

  abbrev pub stands : Count → List Variable → List ℕ → Option Variable → Option Place
  stands c vs key o = option_map (λ (v : Variable). stands_by c vs key v.class) o

  -- one variable before the others
  first_here : (c : Count) (d : Declared) (ds : List Declared) (key : List ℕ) → bytes_eq (in_lower_case d.declaration.name.name) key ≡ true → standing c d.class ≡ stands_by c (map bare_variable (d ∷ ds)) key d.class
  first_here c d ds key e = by d.class
    where
      vs : List Variable
      vs = map bare_variable ds

      temporaries_with : Class → List Variable
      temporaries_with class = cond (elim class as (λ (x : Class). Bool) [ Temp ↦ true | _ ↦ false ]) (bare_variable d ∷ filter is_temporary vs) (filter is_temporary vs)

      in_outs_with : Class → List Variable
      in_outs_with class = cond (elim class as (λ (x : Class). Bool) [ InOut ↦ true | _ ↦ false ]) (bare_variable d ∷ filter (λ v. is_in_out (Some v)) vs) (filter (λ v. is_in_out (Some v)) vs)

      leaves_with : Bool → ℕ
      leaves_with b = c.leaves + cond b 0 (count (bare_variable d) + first_leaf count key vs)

      stands_with : Class → Class → Place
      stands_with inner class = elim class [
        | Temp ↦ Held (c.temporaries + number_of bytes_eq (map (λ (v : Variable). in_lower_case v.name) (temporaries_with inner)) key)
        | InOut ↦ Stored (operand.InOut (c.in_outs + number_of bytes_eq (map (λ (v : Variable). in_lower_case v.name) (in_outs_with inner)) key))
        | _ ↦ Stored (operand.Leaf (leaves_with (bytes_eq (in_lower_case d.declaration.name.name) key)))
      ]

      leaf_here : c.leaves ≡ leaves_with (bytes_eq (in_lower_case d.declaration.name.name) key)
      leaf_here = (let z : c.leaves ≡ c.leaves + 0 = omega arith in z) ∙ ap leaves_with (sym e)

      by : (class : Class) → standing c class ≡ stands_with class class
      by Local = ap (λ n. Stored (operand.Leaf n)) leaf_here
      by Input = ap (λ n. Stored (operand.Leaf n)) leaf_here
      by Output = ap (λ n. Stored (operand.Leaf n)) leaf_here
      by InOut =
          ap (λ n. Stored (operand.InOut n))
          ((let z : c.in_outs ≡ c.in_outs + 0 = omega arith in z) ∙ ap (λ b. c.in_outs + cond b 0 (number_of bytes_eq (map (λ (v : Variable). in_lower_case v.name) (filter (λ v. is_in_out (Some v)) vs)) key + 1)) (sym e))
      by Temp =
          ap Held
          ((let z : c.temporaries ≡ c.temporaries + 0 = omega arith in z) ∙ ap (λ b. c.temporaries + cond b 0 (number_of bytes_eq (map (λ (v : Variable). in_lower_case v.name) (filter is_temporary vs)) key + 1)) (sym e))

  -- one variable less before the others
  temporaries_behind : (c : Count) (d : Declared) (n : ℕ) (vs : List Variable) (key : List ℕ) → bytes_eq (in_lower_case d.declaration.name.name) key ≡ false
      → (counted c d.class n).temporaries + number_of bytes_eq (temporary_names vs) key ≡ c.temporaries + number_of bytes_eq (temporary_names (bare_variable d ∷ vs)) key
  temporaries_behind c d n vs key e = by d.class
    where
      rest : ℕ
      rest = number_of bytes_eq (temporary_names vs) key

      passes : (class : Class) → ℕ
      passes class = number_of bytes_eq (map (λ (v : Variable). in_lower_case v.name) (cond (elim class as (λ (x : Class). Bool) [ Temp ↦ true | _ ↦ false ]) (bare_variable d ∷ filter is_temporary vs) (filter is_temporary vs))) key

      by : (class : Class) → (counted c class n).temporaries + rest ≡ c.temporaries + passes class
      by Local = refl
      by Input = refl
      by Output = refl
      by InOut = refl
      by Temp = (let z : c.temporaries + 1 + rest ≡ c.temporaries + (rest + 1) = omega arith in z) ∙ ap (λ b. c.temporaries + cond b 0 (rest + 1)) (sym e)

  in_outs_behind : (c : Count) (d : Declared) (n : ℕ) (vs : List Variable) (key : List ℕ) → bytes_eq (in_lower_case d.declaration.name.name) key ≡ false
      → (counted c d.class n).in_outs + number_of bytes_eq (in_out_names vs) key ≡ c.in_outs + number_of bytes_eq (in_out_names (bare_variable d ∷ vs)) key
  in_outs_behind c d n vs key e = by d.class
    where
      rest : ℕ
      rest = number_of bytes_eq (in_out_names vs) key

      passes : (class : Class) → ℕ
      passes class = number_of bytes_eq (map (λ (v : Variable). in_lower_case v.name) (cond (elim class as (λ (x : Class). Bool) [ InOut ↦ true | _ ↦ false ]) (bare_variable d ∷ filter (λ v. is_in_out (Some v)) vs) (filter (λ v. is_in_out (Some v)) vs))) key

      by : (class : Class) → (counted c class n).in_outs + rest ≡ c.in_outs + passes class
      by Local = refl
      by Input = refl
      by Output = refl
      by Temp = refl
      by InOut = (let z : c.in_outs + 1 + rest ≡ c.in_outs + (rest + 1) = omega arith in z) ∙ ap (λ b. c.in_outs + cond b 0 (rest + 1)) (sym e)

  leaves_behind : (c : Count) (d : Declared) (vs : List Variable) (key : List ℕ) → bytes_eq (in_lower_case d.declaration.name.name) key ≡ false
      → (counted c d.class (leaves_in 17 counts (typed unit d))).leaves + first_leaf count key vs ≡ c.leaves + first_leaf count key (bare_variable d ∷ vs)
  leaves_behind c d vs key e =
      (let n = counted_leaves c d.class (leaves_in 17 counts (typed unit d)) in let a = are d in
      let z : (counted c d.class (leaves_in 17 counts (typed unit d))).leaves + first_leaf count key vs ≡ c.leaves + (count (bare_variable d) + first_leaf count key vs) = omega arith in z)
      ∙ ap (λ b. c.leaves + cond b 0 (count (bare_variable d) + first_leaf count key vs)) (sym e)

  others_behind : (c : Count) (d : Declared) (vs : List Variable) (key : List ℕ) → bytes_eq (in_lower_case d.declaration.name.name) key ≡ false → (o : Option Variable)
      → stands (counted c d.class (leaves_in 17 counts (typed unit d))) vs key o ≡ stands c (bare_variable d ∷ vs) key o
  others_behind c d vs key e None = refl
  others_behind c d vs key e (Some v) = ap Some (by v.class)
    where
      next : Count
      next = counted c d.class (leaves_in 17 counts (typed unit d))

      by : (class : Class) → stands_by next vs key class ≡ stands_by c (bare_variable d ∷ vs) key class
      by Local = ap (λ n. Stored (operand.Leaf n)) (leaves_behind c d vs key e)
      by Input = ap (λ n. Stored (operand.Leaf n)) (leaves_behind c d vs key e)
      by Output = ap (λ n. Stored (operand.Leaf n)) (leaves_behind c d vs key e)
      by InOut = ap (λ n. Stored (operand.InOut n)) (in_outs_behind c d (leaves_in 17 counts (typed unit d)) vs key e)
      by Temp = ap Held (temporaries_behind c d (leaves_in 17 counts (typed unit d)) vs key e)

  place_found : (c : Count) (ds : List Declared) (name : List ℕ)
      → option_map (λ (n : Numbered). n.place) (found counts c (map (typed unit) ds) name) ≡ stands c (map bare_variable ds) (in_lower_case name) (variable_named (in_lower_case name) (map bare_variable ds))
  place_found c [] name = refl
  place_found c (d ∷ ds) name = by (bytes_eq (in_lower_case d.declaration.name.name) (in_lower_case name)) refl (place_found (counted c d.class (leaves_in 17 counts (typed unit d))) ds name)
    where
      vs : List Variable
      vs = map bare_variable ds

      next : Count
      next = counted c d.class (leaves_in 17 counts (typed unit d))

      later : Option Numbered
      later = found counts next (map (typed unit) ds) name

      by : (b : Bool) → bytes_eq (in_lower_case d.declaration.name.name) (in_lower_case name) ≡ b → option_map (λ (n : Numbered). n.place) later ≡ stands next vs (in_lower_case name) (variable_named (in_lower_case name) vs)
          → option_map (λ (n : Numbered). n.place) (cond b (Some (numbered c (typed unit d))) later) ≡ stands c (bare_variable d ∷ vs) (in_lower_case name) (cond b (Some (bare_variable d)) (variable_named (in_lower_case name) vs))
      by true e h = ap Some (first_here c d ds (in_lower_case name) e)
      by false e h = h ∙ others_behind c d vs (in_lower_case name) e (variable_named (in_lower_case name) vs)

  pub place_is : (ds : List Declared) (name : List ℕ)
      → option_map (λ (n : Numbered). n.place) (number_named (table_of counts (map (typed unit) ds)) name) ≡ stands no_count (map bare_variable ds) (in_lower_case name) (variable_named (in_lower_case name) (map bare_variable ds))
  place_is ds name = ap (option_map (λ (n : Numbered). n.place)) (found_is counts no_count (map (typed unit) ds) name) ∙ place_found no_count ds name
