-- The numbers by the tables of a project's POUs are those of its diagrams.
use Rattle.std.proofs.Common.{◌≡◌, ℕ, suc, ◌+◌, Bool, true, false, List, [], ◌∷◌, length, map, filter, Option, Some, None, is_some, option_and_then, unwrap_or, refl, sym, ap, ap₂, ◌∙◌, subst, arith}
use Rattle.std.specs.Prelude.{slice_get, if◌then◌else◌}
use Rattle.std.specs.List.{flat_map, sum_by, position_from, find}
use Rattle.std.specs.Str.{bytes_eq}
use mathlib.Core.Path.{fun_ext}
use Rattle.std.proofs.lemmas.List.{length-map}
use Rattle.std.proofs.lemmas.Option.{same_Some}
use Rattle.plcx_types.specs.declared.ty.Ty.{Ty}
use Rattle.plcx_types.specs.Name.{in_lower_case}
use Rattle.plcx_types.specs.TypeName.{type_named}
use Rattle.plcx_types.specs.Lists.{Each}
use Rattle.plcx_std.specs.declared.kind.StdKind.{StdKind}
use Rattle.plcx_std.specs.declared.kind.StdKind.TheVariants as kind
use Rattle.plcx_std.specs.Kind.{kind_named}
use Rattle.plcx_meaning.specs.Base.{Memory, same_memory}
use Rattle.plcx_meaning.specs.Diagram.{DiagramElement, Pou, Project, block_named}
use Rattle.plcx_meaning.specs.Evaluate.{is_in_out, place_named, world_of}
use Rattle.plcx_meaning.specs.Layout.{Variable, variables_of, variable_named, meaning, composed, parts, parts_of}
use Rattle.plcx_meaning.specs.Standard.{pin_blocks}
use Rattle.plcx_rules.specs.Texts.{same_name}
use Rattle.plcx_steps.specs.declared.program.Operand.{Operand}
use Rattle.plcx_steps.specs.declared.program.Operand.TheVariants.{Leaf, InOut}
use Rattle.plcx_numbered.specs.Prepared.{Numbering, Callee, Block, User}
use Rattle.plcx_numbered.specs.Numbers.{first_leaf, leaf_count, cell_count, number_of, in_out_names, callee_of, numbering, element_cells, cells, level, places_of, depth, inner_depth}
use Rattle.plcx_numbered.proofs.Leaves.{composed_user, composed_standard, meant_by}
use Rattle.plcx_prepare.specs.Called.{key_of}
use Rattle.plcx_tables.specs.declared.keys.Key.{Key}
use Rattle.plcx_tables.specs.declared.own.Own.{Own}
use Rattle.plcx_tables.specs.declared.placed.Placed.{Placed}
use Rattle.plcx_tables.specs.declared.placed.Table.{Table}
use Rattle.plcx_tables.specs.Tables.{first_place, number_in}
use Rattle.plcx_tables.specs.Named.{text_of, memory_of, MemoriesTold}
use Rattle.plcx_tables.specs.Telling.{Told, told, shown, block_names}
use Rattle.plcx_tables.specs.Owned.{IsOwn, AreOwn, in_outs_of, places_of as at_places}
use Rattle.plcx_tables.specs.Levels.{leaf_weight, memory_weight}
use Rattle.plcx_tables.specs.Placing.{placed_from, pin_place}
use Rattle.plcx_tables.specs.Tabled.{IsPlaced, ArePlaced, deep_leaves, deep_memories, deep_levels, found, leaf_named}
use Rattle.plcx_tables.specs.Numbering.{outputs, within, operand_named, inner_named, in_outs_at, callee_named, numbering_by}
use Rattle.plcx_tables.proofs.Meant.{IsThere, block_at, blocks_there, leaf_is, memory_is}
use Rattle.plcx_tables.proofs.Counts.{zip_at, deep_leaves_are, deep_memories_are, all_leaves_are, all_memories_are, its_level_is, remembered_count, summed}
use Rattle.plcx_tables.proofs.Founds.{find_placed, FoundBy, found_from}
use Rattle.plcx_tables.proofs.Keyed.{wire_is, cell_is, outputs_count}

-- the names of the in-outs that are told
in_outs_told : (project : Project) (vs : List Variable) → in_outs_of (map (told project) vs) ≡ in_out_names vs
in_outs_told project [] = refl
in_outs_told project (v ∷ vs) = by (is_in_out (Some v)) (in_outs_told project vs)
  where
    by : (b : Bool) → in_outs_of (map (told project) vs) ≡ in_out_names vs
        → map (λ (t : Told). in_lower_case t.name) (if b then told project v ∷ filter (λ (t : Told). t.in_out) (map (told project) vs) else filter (λ (t : Told). t.in_out) (map (told project) vs))
        ≡ map (λ (w : Variable). in_lower_case w.name) (if b then v ∷ filter (λ w. is_in_out (Some w)) vs else filter (λ w. is_in_out (Some w)) vs)
    by true h = ap (λ ns. in_lower_case v.name ∷ ns) h
    by false h = h

-- ---- standard blocks

first_ones : (f : Variable → ℕ) (key : List ℕ) (vs : List Variable) (i : ℕ) → Each (λ (v : Variable). f v ≡ 1) vs
    → unwrap_or (position_from (λ (v : Variable). bytes_eq (in_lower_case v.name) key) i vs) (i + length vs) ≡ i + first_leaf f key vs
first_ones f key [] i ones = refl
first_ones f key (v ∷ vs) i ones = by (bytes_eq (in_lower_case v.name) key) (first_ones f key vs (i + 1) ones.1)
  where
    by : (b : Bool) → unwrap_or (position_from (λ (w : Variable). bytes_eq (in_lower_case w.name) key) (i + 1) vs) (i + 1 + length vs) ≡ i + 1 + first_leaf f key vs
        → unwrap_or (if b then Some i else position_from (λ (w : Variable). bytes_eq (in_lower_case w.name) key) (i + 1) vs) (i + suc (length vs)) ≡ i + (if b then 0 else f v + first_leaf f key vs)
    by true h = (let z : i ≡ i + 0 = omega arith in z)
    by false h =
        ap (unwrap_or (position_from (λ (w : Variable). bytes_eq (in_lower_case w.name) key) (i + 1) vs)) (let z : i + suc (length vs) ≡ i + 1 + length vs = omega arith in z)
        ∙ h ∙ (let one = ones.0 in let z : i + 1 + first_leaf f key vs ≡ i + (f v + first_leaf f key vs) = omega arith in z)

pin_ones : (project : Project) (k : StdKind) → Each (λ (v : Variable). leaf_count project v ≡ 1) (variables_of (pin_blocks k))
pin_ones project kind.Ton = (refl, (refl, (refl, (refl, (refl, (refl, tt))))))
pin_ones project kind.Tof = (refl, (refl, (refl, (refl, (refl, (refl, (refl, tt)))))))
pin_ones project kind.Tp = (refl, (refl, (refl, (refl, (refl, (refl, (refl, tt)))))))
pin_ones project kind.Ctu = (refl, (refl, (refl, (refl, (refl, (refl, tt))))))
pin_ones project kind.Ctd = (refl, (refl, (refl, (refl, (refl, (refl, tt))))))
pin_ones project kind.Ctud = (refl, (refl, (refl, (refl, (refl, (refl, (refl, (refl, (refl, (refl, tt))))))))))
pin_ones project kind.Sr = (refl, (refl, (refl, tt)))
pin_ones project kind.Rs = (refl, (refl, (refl, tt)))
pin_ones project kind.RTrig = (refl, (refl, (refl, tt)))
pin_ones project kind.FTrig = (refl, (refl, (refl, tt)))

pin_positions : (x : List ℕ) (k : StdKind) → pin_place k x ≡ unwrap_or (position_from (λ (v : Variable). bytes_eq (in_lower_case v.name) (in_lower_case x)) 0 (variables_of (pin_blocks k))) (0 + length (variables_of (pin_blocks k)))
pin_positions x kind.Ton = refl
pin_positions x kind.Tof = refl
pin_positions x kind.Tp = refl
pin_positions x kind.Ctu = refl
pin_positions x kind.Ctd = refl
pin_positions x kind.Ctud = refl
pin_positions x kind.Sr = refl
pin_positions x kind.Rs = refl
pin_positions x kind.RTrig = refl
pin_positions x kind.FTrig = refl

pin_is : (project : Project) (x : List ℕ) (k : StdKind) → pin_place k x ≡ first_leaf (leaf_count project) (in_lower_case x) (variables_of (pin_blocks k))
pin_is project x k =
    pin_positions x k ∙ first_ones (leaf_count project) (in_lower_case x) (variables_of (pin_blocks k)) 0 (pin_ones project k)
    ∙ (let n = first_leaf (leaf_count project) (in_lower_case x) (variables_of (pin_blocks k)) in let z : 0 + n ≡ n = omega arith in z)

-- two numberings with the same numbers
same_numbers : (a a' : ℕ → List ℕ → ℕ) (b b' : ℕ) (c c' : List ℕ → Operand) (d d' : List ℕ → List ℕ → ℕ) (e e' : Memory → ℕ) (f f' : List ℕ → Callee) → a ≡ a' → b ≡ b' → c ≡ c' → d ≡ d' → e ≡ e' → f ≡ f'
    → (let n : Numbering = record { wire = a; spare = b; operand = c; inner = d; memory = e; callee = f } in n) ≡ record { wire = a'; spare = b'; operand = c'; inner = d'; memory = e'; callee = f' }
same_numbers a a' b b' c c' d d' e e' f f' p q r s t u = rw (p, q, r, s, t, u) refl

module _ (project : Project) (owns : List Own) (all : AreOwn project owns) (tables : List Table) (placed : ArePlaced owns tables) where
  -- what is known of the POU at a place
  known_at : (k : ℕ) (p : Pou) → slice_get project k ≡ Some p → (own : Own) × (t : Table) × (slice_get tables k ≡ Some t) × IsOwn project p own × IsPlaced (deep_leaves owns) (deep_memories owns) (deep_levels owns) own t
  known_at k p there =
      let o = zip_at (IsOwn project) project owns all k p there in
      let t = zip_at (IsPlaced (deep_leaves owns) (deep_memories owns) (deep_levels owns)) owns tables placed k o.0 o.1 in
      (o.0, t.0, t.1, o.2, t.2)

  module _ (p : Pou) (own : Own) (t : Table) (is_own : IsOwn project p own) (is_placed : IsPlaced (deep_leaves owns) (deep_memories owns) (deep_levels owns) own t) where
    -- what a name leads to
    pub found_is : (x : List ℕ) → FoundBy project 0 own.memories.count 0 (in_lower_case x) (variables_of p.lists) (found t x)
    found_is x =
        let L = deep_leaves owns in
        let M = deep_memories owns in
        let ds = own.variables.items in
        let ps = placed_from L M 0 own.memories.count 0 ds in
        let e : found t x ≡ find (λ (q : Placed). same_name q.variable.name.now x) ps =
        ap₂ (λ (items : List Placed) (o : Option ℕ). option_and_then (slice_get items) o) is_placed.placed (ap (λ (w : Own). number_in text_of same_name w.names.numbers.entries x) is_placed.is_own ∙ is_own.names.numbers x)
        ∙ find_placed L M x 0 own.memories.count 0 ds in
        subst (FoundBy project 0 own.memories.count 0 (in_lower_case x) (variables_of p.lists)) (sym e)
        (found_from project L M
        (λ v. ap (λ (l : List ℕ). leaf_weight true l (told project v)) (deep_leaves_are project owns all) ∙ leaf_is project 16 v)
        (λ v. ap (λ (l : List ℕ). memory_weight l (told project v)) (deep_memories_are project owns all) ∙ memory_is project 17 v)
        x 0 own.memories.count 0 ds (variables_of p.lists) is_own.variables)

    total : t.leaves ≡ sum_by (leaf_count project) (variables_of p.lists)
    total =
        let L = deep_leaves owns in
        is_placed.all_leaves ∙ ap (sum_by (leaf_weight true L)) is_own.variables
        ∙ summed (leaf_weight true L) (leaf_count project) project (λ v. ap (λ (l : List ℕ). leaf_weight true l (told project v)) (deep_leaves_are project owns all) ∙ leaf_is project 16 v) (variables_of p.lists)

    pub leaf_named_is : (x : List ℕ) → leaf_named t x ≡ first_leaf (leaf_count project) (in_lower_case x) (variables_of p.lists)
    leaf_named_is x = by (found t x) (found_is x)
      where
        by : (o : Option Placed) → FoundBy project 0 own.memories.count 0 (in_lower_case x) (variables_of p.lists) o → (elim o [ Some q ↦ q.leaf | None ↦ t.leaves ]) ≡ first_leaf (leaf_count project) (in_lower_case x) (variables_of p.lists)
        by None h = (let a = h.1 in let b = total in omega arith)
        by (Some q) h = (let a = h.3 in omega arith)

    pub in_outs_are : map key_of t.own.now.in_outs.items ≡ in_out_names (variables_of p.lists)
    in_outs_are = ap (λ (w : Own). map key_of w.in_outs.items) is_placed.is_own ∙ is_own.in_outs ∙ ap in_outs_of is_own.variables ∙ in_outs_told project (variables_of p.lists)

  -- the offset of a leaf within a variable
  module _ (v : Variable) (x : List ℕ) where
    user_by : (o : Option ℕ) (w : Option Pou) → option_and_then (slice_get project) o ≡ w → IsThere project o
        → (elim o [ Some place ↦ elim (slice_get tables place) [ Some u ↦ leaf_named u x | None ↦ 0 ] | None ↦ 0 ]) ≡ first_leaf (leaf_count project) (in_lower_case x) (variables_of (elim w [ Some q ↦ q.lists | None ↦ [] ]))
    user_by None None e there = refl
    user_by None (Some q) e there = absurd (let no : ⊥ = cc in no)
    user_by (Some place) None e there = absurd (let f = sym (ap is_some e) ∙ there in let no : ⊥ = cc in no)
    user_by (Some place) (Some q) e there =
        let k = known_at place q e in
        ap (λ (u : Option Table). elim u [ Some w ↦ leaf_named w x | None ↦ 0 ]) k.2 ∙ leaf_named_is q k.0 k.1 k.3 k.4 x

    pub within_is : within tables (told project v) x ≡ first_leaf (leaf_count project) (in_lower_case x) (parts (meaning (world_of project) v.ty))
    within_is = by_type (type_named v.ty)
      where
        inside : Option StdKind → ℕ
        inside o = elim o [ Some k ↦ pin_place k x | None ↦ elim (first_place same_name (block_names project) v.ty) [ Some place ↦ elim (slice_get tables place) [ Some u ↦ leaf_named u x | None ↦ 0 ] | None ↦ 0 ] ]

        by_kind : (o : Option StdKind) → kind_named v.ty ≡ o → inside o ≡ first_leaf (leaf_count project) (in_lower_case x) (composed (world_of project) v.ty)
        by_kind (Some k) e = pin_is project x k ∙ ap (first_leaf (leaf_count project) (in_lower_case x)) (sym (composed_standard (world_of project) v.ty k e))
        by_kind None e =
            user_by (first_place same_name (block_names project) v.ty) (block_named v.ty project) (block_at v.ty project) (blocks_there v.ty project)
            ∙ ap (first_leaf (leaf_count project) (in_lower_case x)) (sym (composed_user project v.ty e))

        by_type : (o : Option Ty) → (if is_some o then 0 else inside (kind_named v.ty)) ≡ first_leaf (leaf_count project) (in_lower_case x) (parts (meant_by (world_of project) v.ty o))
        by_type (Some t) = refl
        by_type None = by_kind (kind_named v.ty) refl

    pub in_outs_at_is : in_outs_at tables (told project v).block ≡ (elim (block_named v.ty project) [ Some q ↦ in_out_names (variables_of q.lists) | None ↦ [] ])
    in_outs_at_is = by (first_place same_name (block_names project) v.ty) (block_named v.ty project) (block_at v.ty project) (blocks_there v.ty project)
      where
        names : Option Pou → List (List ℕ)
        names w = elim w [ Some q ↦ in_out_names (variables_of q.lists) | None ↦ [] ]

        by : (o : Option ℕ) (w : Option Pou) → option_and_then (slice_get project) o ≡ w → IsThere project o → in_outs_at tables o ≡ names w
        by None None e there = refl
        by None (Some q) e there = absurd (let no : ⊥ = cc in no)
        by (Some place) None e there = absurd (let f = sym (ap is_some e) ∙ there in let no : ⊥ = cc in no)
        by (Some place) (Some q) e there =
            let k = known_at place q e in
            let at : Option Table → List (List ℕ) = λ u. elim u [ Some w ↦ map key_of w.own.now.in_outs.items | None ↦ [] ] in
            ap at k.2 ∙ in_outs_are q k.0 k.1 k.3 k.4

  -- a network of a POU
  module _ (p : Pou) (own : Own) (t : Table) (is_own : IsOwn project p own) (is_placed : IsPlaced (deep_leaves owns) (deep_memories owns) (deep_levels owns) own t) (es : List DiagramElement) where
    operand_is : (x : List ℕ) → operand_named t x ≡ (numbering project p es).operand x
    operand_is x = by (found t x) (found_is p own t is_own is_placed x)
      where
        shape : Option Placed → Operand
        shape o = elim o [ Some q ↦ if q.variable.in_out then InOut q.in_out else Leaf q.leaf | None ↦ Leaf t.leaves ]

        goal : Option Variable → Operand
        goal w = if is_in_out w then InOut (number_of bytes_eq (in_out_names (variables_of p.lists)) (in_lower_case x)) else Leaf (first_leaf (leaf_count project) (in_lower_case x) (variables_of p.lists))

        by_in_out : (q : Placed) (v : Variable) (b : Bool) → is_in_out (Some v) ≡ b → q.variable.in_out ≡ b → 0 + first_leaf (leaf_count project) (in_lower_case x) (variables_of p.lists) ≡ q.leaf
            → (is_in_out (Some v) ≡ true → 0 + number_of bytes_eq (in_out_names (variables_of p.lists)) (in_lower_case x) ≡ q.in_out) → shape (Some q) ≡ goal (Some v)
        by_in_out q v true e f leaf number =
            ap (λ b. if b then InOut q.in_out else Leaf q.leaf) f ∙ ap InOut (let n = number e in let z : q.in_out ≡ number_of bytes_eq (in_out_names (variables_of p.lists)) (in_lower_case x) = omega arith in z)
            ∙ ap (λ b. if b then InOut (number_of bytes_eq (in_out_names (variables_of p.lists)) (in_lower_case x)) else Leaf (first_leaf (leaf_count project) (in_lower_case x) (variables_of p.lists))) (sym e)
        by_in_out q v false e f leaf number =
            ap (λ b. if b then InOut q.in_out else Leaf q.leaf) f ∙ ap Leaf (let z : q.leaf ≡ first_leaf (leaf_count project) (in_lower_case x) (variables_of p.lists) = omega arith in z)
            ∙ ap (λ b. if b then InOut (number_of bytes_eq (in_out_names (variables_of p.lists)) (in_lower_case x)) else Leaf (first_leaf (leaf_count project) (in_lower_case x) (variables_of p.lists))) (sym e)

        by : (o : Option Placed) → FoundBy project 0 own.memories.count 0 (in_lower_case x) (variables_of p.lists) o → shape o ≡ goal (variable_named (in_lower_case x) (variables_of p.lists))
        by None h = ap Leaf (let a = h.1 in let b = total p own t is_own is_placed in let z : t.leaves ≡ first_leaf (leaf_count project) (in_lower_case x) (variables_of p.lists) = omega arith in z) ∙ ap goal (sym h.0)
        by (Some q) h = by_in_out q h.0 (is_in_out (Some h.0)) refl (ap (λ (w : Told). w.in_out) h.2) h.3 h.5 ∙ ap goal (sym h.1)

    inner_is : (i x : List ℕ) → inner_named tables t i x ≡ (numbering project p es).inner i x
    inner_is i x = by (found t i) (found_is p own t is_own is_placed i)
      where
        goal : Option Variable → ℕ
        goal w = first_leaf (leaf_count project) (in_lower_case i) (variables_of p.lists) + first_leaf (leaf_count project) (in_lower_case x) (parts_of (world_of project) w)

        by : (o : Option Placed) → FoundBy project 0 own.memories.count 0 (in_lower_case i) (variables_of p.lists) o
            → (elim o [ Some q ↦ q.leaf + within tables (shown q.variable) x | None ↦ t.leaves ]) ≡ goal (variable_named (in_lower_case i) (variables_of p.lists))
        by None h = (let a = h.1 in let b = total p own t is_own is_placed in let z : t.leaves ≡ first_leaf (leaf_count project) (in_lower_case i) (variables_of p.lists) + 0 = omega arith in z) ∙ ap goal (sym h.0)
        by (Some q) h =
            ap₂ (λ a b. a + b) (let a = h.3 in let z : q.leaf ≡ first_leaf (leaf_count project) (in_lower_case i) (variables_of p.lists) = omega arith in z) (ap (λ w. within tables w x) h.2 ∙ within_is h.0 x) ∙ ap goal (sym h.1)

    callee_is : (i : List ℕ) → callee_named tables t i ≡ (numbering project p es).callee i
    callee_is i = by (found t i) (found_is p own t is_own is_placed i)
      where
        goal : Option Variable → Callee
        goal w = callee_of project p (in_lower_case i) w

        shape : ℕ → ℕ → Told → Callee
        shape leaf memory w = elim w.standard [ Some k ↦ Block k leaf | None ↦ User w.pou leaf memory (in_outs_at tables w.block) ]

        by_kind : (v : Variable) (o : Option StdKind) → (let c : Callee = elim o [
          | Some k ↦ Block k (first_leaf (leaf_count project) (in_lower_case i) (variables_of p.lists))
          | None ↦ User (place_named v.ty project) (first_leaf (leaf_count project) (in_lower_case i) (variables_of p.lists))
              (length (flat_map element_cells p.elements) + first_leaf (cell_count project) (in_lower_case i) (variables_of p.lists)) (in_outs_at tables (told project v).block)
        ] in c) ≡ (elim o [
          | Some k ↦ Block k (first_leaf (leaf_count project) (in_lower_case i) (variables_of p.lists))
          | None ↦ User (place_named v.ty project) (first_leaf (leaf_count project) (in_lower_case i) (variables_of p.lists))
              (length (flat_map element_cells p.elements) + first_leaf (cell_count project) (in_lower_case i) (variables_of p.lists)) (elim (block_named v.ty project) [ Some q ↦ in_out_names (variables_of q.lists) | None ↦ [] ])
        ])
        by_kind v (Some k) = refl
        by_kind v None = ap (User (place_named v.ty project) (first_leaf (leaf_count project) (in_lower_case i) (variables_of p.lists)) (length (flat_map element_cells p.elements) + first_leaf (cell_count project) (in_lower_case i) (variables_of p.lists))) (in_outs_at_is v i)

        by : (o : Option Placed) → FoundBy project 0 own.memories.count 0 (in_lower_case i) (variables_of p.lists) o
            → (let c : Callee = elim o [ Some q ↦ elim q.variable.standard [ Some k ↦ Block k q.leaf | None ↦ User q.variable.pou q.leaf q.memory (in_outs_at tables q.variable.block) ] | None ↦ Block kind.Ton 0 ] in c)
            ≡ goal (variable_named (in_lower_case i) (variables_of p.lists))
        by None h = ap goal (sym h.0)
        by (Some q) h =
            let leaf : q.leaf ≡ first_leaf (leaf_count project) (in_lower_case i) (variables_of p.lists) = (let a = h.3 in omega arith) in
            let memory : q.memory ≡ length (flat_map element_cells p.elements) + first_leaf (cell_count project) (in_lower_case i) (variables_of p.lists) = sym h.4 ∙ ap (λ n. n + first_leaf (cell_count project) (in_lower_case i) (variables_of p.lists)) (is_own.memories.long ∙ remembered_count p.elements) in
            ap (shape q.leaf q.memory) h.2
            ∙ ap (λ n. shape n q.memory (told project h.0)) leaf
            ∙ ap (λ n. shape (first_leaf (leaf_count project) (in_lower_case i) (variables_of p.lists)) n (told project h.0)) memory
            ∙ by_kind h.0 (kind_named h.0.ty) ∙ ap goal (sym h.1)

    memory_number_is : (k : Memory) → (numbering_by tables t [] 0).memory k ≡ (numbering project p es).memory k
    memory_number_is k = ap (λ (w : Own). unwrap_or (number_in memory_of same_memory w.memories.numbers.entries k) w.memories.count) is_placed.is_own ∙ cell_is p.elements own.memories.numbers.entries own.memories.count is_own.memories k

    numbers_are : (entries : List (Key × ℕ)) (count : ℕ) → MemoriesTold entries count (at_places (outputs es)) → numbering_by tables t entries count ≡ numbering project p es
    numbers_are entries count told =
        same_numbers _ _ _ _ _ _ _ _ _ _ _ _ (fun_ext (λ id. fun_ext (λ pin. wire_is es entries count told id pin))) (told.long ∙ outputs_count es)
        (fun_ext operand_is) (fun_ext (λ i. fun_ext (λ x. inner_is i x))) (fun_ext memory_number_is) (fun_ext callee_is)

  -- the numbers of a network by the tables are those of the diagrams
  pub numbering_is : (k : ℕ) (p : Pou) (t : Table) → slice_get project k ≡ Some p → slice_get tables k ≡ Some t → (es : List DiagramElement) (entries : List (Key × ℕ)) (count : ℕ) → MemoriesTold entries count (at_places (outputs es))
      → numbering_by tables t entries count ≡ numbering project p es
  numbering_is k p t there at es entries count told =
      let w = known_at k p there in
      let same : w.1 ≡ t = same_Some w.1 t (sym w.2 ∙ at) in
      ap (λ (u : Table). numbering_by tables u entries count) (sym same) ∙ numbers_are p w.0 w.1 w.3 w.4 es entries count told

  -- and so are the counts of a POU
  pub counts_are : (k : ℕ) (p : Pou) (t : Table) → slice_get project k ≡ Some p → slice_get tables k ≡ Some t
      → (t.level ≡ level inner_depth project p) × (t.leaves ≡ length (places_of project (variables_of p.lists))) × (t.memories ≡ length (cells depth project p)) × (length t.own.now.in_outs.items ≡ length (in_out_names (variables_of p.lists)))
  counts_are k p t there at =
      let w = known_at k p there in
      let same : w.1 ≡ t = same_Some w.1 t (sym w.2 ∙ at) in
      subst (λ (u : Table). (u.level ≡ level inner_depth project p) × (u.leaves ≡ length (places_of project (variables_of p.lists))) × (u.memories ≡ length (cells depth project p)) × (length u.own.now.in_outs.items ≡ length (in_out_names (variables_of p.lists)))) same (
        its_level_is project owns all p w.0 w.1 w.3 w.4,
        all_leaves_are project owns all p w.0 w.1 w.3 w.4,
        all_memories_are project owns all p w.0 w.1 w.3 w.4,
        sym (length-map w.1.own.now.in_outs.items key_of) ∙ ap length (in_outs_are p w.0 w.1 w.3 w.4),
      )
