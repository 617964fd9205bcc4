-- A text has no more leaves and instances than its diagram has leaves and parts.
use Rattle.std.proofs.Common.{◌≡◌, ℕ, zero, suc, ◌+◌, ◌≤◌, Bool, true, false, ◌&&◌, List, [], ◌∷◌, ◌++◌, Option, Some, None, map, length, refl, sym, ap, ap₂, ◌∙◌, subst, arith, if◌then◌else◌}
use Rattle.std.specs.Prelude.{not, is_some}
use Rattle.std.specs.List.{list_all, flat_map, sum_by}
use Rattle.std.specs.Str.{bytes_eq}
use Rattle.std.specs.Option.{option_map}
use Rattle.std.proofs.lemmas.Bool.{and_parts}
use Rattle.std.proofs.lemmas.List.{length-append}
use Rattle.std.proofs.lemmas.List.Sums.{sum_by-append, sum_by-cons}
use Rattle.plcx_types.specs.declared.ty.Ty.{Ty}
use Rattle.plcx_types.specs.declared.ty.Ty.TheVariants as ty
use Rattle.plcx_types.specs.Name.{in_lower_case}
use Rattle.plcx_types.specs.TypeName.{type_name, type_named}
use Rattle.plcx_std.specs.declared.kind.StdKind.{StdKind}
use Rattle.plcx_std.specs.declared.kind.StdKind.TheVariants as kind
use Rattle.plcx_std.specs.Kind.{kind_named}
use Rattle.plcx_meaning.specs.Base.{AtEdge, AtOutput}
use Rattle.plcx_meaning.specs.Tree.{Local, Temp, Plain, Declaration, Block, PouText}
use Rattle.plcx_meaning.specs.Standard.{pin_blocks}
use Rattle.plcx_meaning.specs.Layout.{Variable, variable, variables_of, World, Meaning, Elementary, Composed, composed, meaning, Scope, Spelling, Leaf, leaf_of, is_kept, variable_leaves, leaves}
use Rattle.plcx_meaning.specs.Diagram.{Port, has_edge, is_program, DiagramElement, Pou, Project}
use Rattle.plcx_meaning.specs.Diagram as diagram
use Rattle.plcx_meaning.specs.Evaluate as evaluate
use Rattle.plcx_meaning.specs.Execute as text
use Rattle.plcx_meaning.specs.Templates.{memory_name, own, element_memories, element_wires, counter, pou_text, unit_of}
use Rattle.plcx_meaning.specs.Ready.{variable_size, size}
use Rattle.plcx_meaning.specs.Fits.{variable_parts, parts}
use Rattle.plcx_meaning.proofs.Names.{folded_twice}
use Rattle.plcx_meaning.proofs.Lookups.{map_append, kept_variables, passing_variables, own_variables, text_variables}
use Rattle.plcx_meaning.proofs.LookupsOwn.{type_of_name, elementary_meaning, composed_meaning}
use Rattle.plcx_meaning.proofs.StaticsWorlds.{block_text}

-- of each declaration of the compiler's own: a memory is one leaf, a temporary none
kept_size : (inner : List Variable → ℕ) (world : World) (name : List ℕ) (t : Ty) → variable_size inner world (variable Local Plain (own name t)) ≡ 1
kept_size inner world name t = ap (λ (m : Meaning). elim m [ Elementary u ↦ 1 | Composed vs ↦ suc (inner vs) ]) (elementary_meaning world (type_name t) t (type_of_name t))

passing_size : (inner : List Variable → ℕ) (world : World) (ds : List Declaration) → sum_by (variable_size inner world) (map (variable Temp Plain) ds) ≡ 0
passing_size inner world [] = refl
passing_size inner world (d ∷ ds) =
    let one = sum_by-cons (variable_size inner world) (variable Temp Plain d) (map (variable Temp Plain) ds) in
    let rest = passing_size inner world ds in
    omega arith

fed_size : (inner : List Variable → ℕ) (world : World) (id : ℕ) (fed : List Port) → sum_by (variable_size inner world) (map (variable Local Plain) (map (λ (o : Port). own (memory_name (AtOutput id o.pin)) o.ty) fed)) ≡ length fed
fed_size inner world id [] = refl
fed_size inner world id (o ∷ fed) =
    let one = kept_size inner world (memory_name (AtOutput id o.pin)) o.ty in
    let rest = fed_size inner world id fed in
    let whole = sum_by-cons (variable_size inner world) (variable Local Plain (own (memory_name (AtOutput id o.pin)) o.ty)) (map (variable Local Plain) (map (λ (q : Port). own (memory_name (AtOutput id q.pin)) q.ty) fed)) in
    omega arith

memories_size : (inner : List Variable → ℕ) (world : World) (e : DiagramElement) → sum_by (variable_size inner world) (map (variable Local Plain) (element_memories e)) ≤ suc (length e.fed)
memories_size inner world e = by (has_edge e.kind)
  where
    feds : List Declaration
    feds = map (λ (o : Port). own (memory_name (AtOutput e.id o.pin)) o.ty) e.fed

    by : (b : Bool) → sum_by (variable_size inner world) (map (variable Local Plain) ((if b then own (memory_name (AtEdge e.id)) ty.Bool ∷ [] else []) ++ feds)) ≤ suc (length e.fed)
    by true =
        let one = kept_size inner world (memory_name (AtEdge e.id)) ty.Bool in
        let rest = fed_size inner world e.id e.fed in
        let whole = sum_by-cons (variable_size inner world) (variable Local Plain (own (memory_name (AtEdge e.id)) ty.Bool)) (map (variable Local Plain) feds) in
        omega arith
    by false = let rest = fed_size inner world e.id e.fed in omega arith

all_memories : (inner : List Variable → ℕ) (world : World) (es : List DiagramElement) → sum_by (variable_size inner world) (map (variable Local Plain) (flat_map element_memories es)) ≤ sum_by (λ (e : DiagramElement). suc (length e.fed)) es
all_memories inner world [] = omega arith
all_memories inner world (e ∷ es) =
    let here = memories_size inner world e in
    let rest = all_memories inner world es in
    let left = ap (sum_by (variable_size inner world)) (map_append (variable Local Plain) (element_memories e) (flat_map element_memories es)) ∙ sum_by-append (variable_size inner world) (map (variable Local Plain) (element_memories e)) (map (variable Local Plain) (flat_map element_memories es)) in
    let right = sum_by-cons (λ (x : DiagramElement). suc (length x.fed)) e es in
    omega arith

own_size : (inner : List Variable → ℕ) (world : World) (p : Pou) → sum_by (variable_size inner world) (own_variables p) ≤ sum_by (λ (e : DiagramElement). suc (length e.fed)) p.elements
own_size inner world p =
    let memories = all_memories inner world p.elements in
    let passing = passing_size inner world (flat_map element_wires p.elements ++ counter p.networks) in
    let whole = sum_by-append (variable_size inner world) (kept_variables p) (passing_variables p) in
    omega arith

-- a standard block has as many leaves on both sides
abbrev is_plain : Variable → Bool
is_plain v = is_some (type_named v.ty)

pins_plain : (k : StdKind) → list_all is_plain (variables_of (pin_blocks k)) ≡ true
pins_plain kind.Ton = refl
pins_plain kind.Tof = refl
pins_plain kind.Tp = refl
pins_plain kind.Ctu = refl
pins_plain kind.Ctd = refl
pins_plain kind.Ctud = refl
pins_plain kind.Sr = refl
pins_plain kind.Rs = refl
pins_plain kind.RTrig = refl
pins_plain kind.FTrig = refl

-- a block is found under its name without case
block_folded : (name : List ℕ) (project : Project) → diagram.block_named (in_lower_case name) project ≡ diagram.block_named name project
block_folded name [] = refl
block_folded name (p ∷ ps) =
    ap₂ (λ key (o : Option Pou). if not (is_program p.kind) && bytes_eq (in_lower_case p.name) key then Some p else o) (folded_twice name) (block_folded name ps)

some_is : {A : Type 0} (o : Option A) → is_some o ≡ true → (x : A) × (o ≡ Some x)
some_is None h = absurd (cc)
some_is (Some x) h = (x, refl)

-- both sides of a project
module _ (project : Project) (own : List Variable) where
  abbrev text_world : World
  text_world = text.world_of (unit_of project)

  abbrev c : Scope
  c = record { world = evaluate.world_of project; own = own }

  -- a variable of an elementary type has one leaf on both sides, or none
  plain_size : (inner : List Variable → ℕ) (leaf : Spelling → List Variable → List Leaf) (path : Spelling) (v : Variable) (t : Ty) → type_named v.ty ≡ Some t → variable_size inner text_world v ≡ length (variable_leaves leaf c path v)
  plain_size inner leaf path v t h = by (is_kept v.class)
    where
      by : (b : Bool) → (if b then (elim (meaning text_world v.ty) [ Elementary u ↦ 1 | Composed vs ↦ suc (inner vs) ]) else 0)
          ≡ length (if b then (elim (meaning c.world v.ty) [ Elementary u ↦ leaf_of c (v.name ∷ path) u v.mark ∷ [] | Composed vs ↦ leaf (v.name ∷ path) vs ]) else [])
      by true =
          ap (λ (m : Meaning). elim m [ Elementary u ↦ 1 | Composed vs ↦ suc (inner vs) ]) (elementary_meaning text_world v.ty t h)
          ∙ sym (ap (λ (m : Meaning). length {A = Leaf} (elim m [ Elementary u ↦ leaf_of c (v.name ∷ path) u v.mark ∷ [] | Composed vs ↦ leaf (v.name ∷ path) vs ])) (elementary_meaning c.world v.ty t h))
      by false = refl

  plain_sizes : (n : ℕ) (path : Spelling) (vs : List Variable) → list_all is_plain vs ≡ true → size n text_world vs ≡ length (leaves n c path vs)
  plain_sizes zero path vs h = refl
  plain_sizes (suc n) path [] h = refl
  plain_sizes (suc n) path (v ∷ vs) h =
      let parts = and_parts (is_plain v) (list_all is_plain vs) h in
      let t = some_is (type_named v.ty) parts.0 in
      let one = plain_size (size n text_world) (leaves n c) path v t.0 t.1 in
      let rest = plain_sizes (suc n) path vs parts.1 in
      let left = sum_by-cons (variable_size (size n text_world) text_world) v vs in
      let right = length-append (variable_leaves (leaves n c) c path v) (flat_map (variable_leaves (leaves n c) c path) vs) in
      omega arith

  -- what a composed type adds
  composed_size : (n : ℕ) (path : Spelling) (name : List ℕ) → ((q : Pou) → size n text_world (variables_of (pou_text q).blocks) ≤ length (leaves n c path (variables_of q.lists)) + parts n project q)
      → suc (size n text_world (composed text_world name)) ≤ length (leaves n c path (composed c.world name)) + (if is_some (kind_named name) then 1 else (elim (diagram.block_named name project) [ Some q ↦ suc (parts n project q) | None ↦ 1 ]))
  composed_size n path name each = by_kind (kind_named name)
    where
      of_block : (o : Option Pou) → ((q : Pou) → size n text_world (variables_of (pou_text q).blocks) ≤ length (leaves n c path (variables_of q.lists)) + parts n project q)
          → suc (size n text_world (variables_of (elim (option_map pou_text o) [ Some p ↦ p.blocks | None ↦ [] ]))) ≤ length (leaves n c path (variables_of (elim o [ Some p ↦ p.lists | None ↦ [] ]))) + (elim o [ Some q ↦ suc (parts n project q) | None ↦ 1 ])
      of_block (Some q) h = let one = h q in omega arith
      of_block None h = let none = plain_sizes n path [] refl in omega arith

      by_kind : (o : Option StdKind) → suc (size n text_world (elim o [ Some k ↦ variables_of (pin_blocks k) | None ↦ variables_of (text_world (in_lower_case name)) ]))
          ≤ length (leaves n c path (elim o [ Some k ↦ variables_of (pin_blocks k) | None ↦ variables_of (c.world (in_lower_case name)) ])) + (if is_some o then 1 else (elim (diagram.block_named name project) [ Some q ↦ suc (parts n project q) | None ↦ 1 ]))
      by_kind (Some k) = let same = plain_sizes n path (variables_of (pin_blocks k)) (pins_plain k) in omega arith
      by_kind None =
          subst (λ (o : Option Pou). suc (size n text_world (variables_of (text_world (in_lower_case name)))) ≤ length (leaves n c path (variables_of (c.world (in_lower_case name)))) + (elim o [ Some q ↦ suc (parts n project q) | None ↦ 1 ])) (block_folded name project)
          (subst (λ (bs : List Block). suc (size n text_world (variables_of bs)) ≤ length (leaves n c path (variables_of (c.world (in_lower_case name)))) + (elim (diagram.block_named (in_lower_case name) project) [ Some q ↦ suc (parts n project q) | None ↦ 1 ]))
          (sym (ap (λ (o : Option PouText). elim o [ Some p ↦ p.blocks | None ↦ [] ]) (block_text (in_lower_case name) project))) (of_block (diagram.block_named (in_lower_case name) project) each))

  -- each variable, and all of them
  variable_bound : (n : ℕ) (path : Spelling) (v : Variable) → ((at : Spelling) (q : Pou) → size n text_world (variables_of (pou_text q).blocks) ≤ length (leaves n c at (variables_of q.lists)) + parts n project q)
      → variable_size (size n text_world) text_world v ≤ length (variable_leaves (leaves n c) c path v) + variable_parts (parts n project) project v
  variable_bound n path v each = by_type (type_named v.ty) refl
    where
      composite : (m k : Meaning) (most : ℕ) → m ≡ Composed (composed text_world v.ty) → k ≡ Composed (composed c.world v.ty)
          → most ≡ (if is_some (kind_named v.ty) then 1 else (elim (diagram.block_named v.ty project) [ Some q ↦ suc (parts n project q) | None ↦ 1 ]))
          → (elim m [ Elementary u ↦ 1 | Composed vs ↦ suc (size n text_world vs) ])
          ≤ length {A = Leaf} (elim k [ Elementary u ↦ leaf_of c (v.name ∷ path) u v.mark ∷ [] | Composed vs ↦ leaves n c (v.name ∷ path) vs ]) + most
      composite m k most em ek e = rw (em, ek, e) (composed_size n (v.name ∷ path) v.ty (each (v.name ∷ path)))

      by_class : (b : Bool) → type_named v.ty ≡ None
          → (if b then (elim (meaning text_world v.ty) [ Elementary u ↦ 1 | Composed vs ↦ suc (size n text_world vs) ]) else 0)
          ≤ length (if b then (elim (meaning c.world v.ty) [ Elementary u ↦ leaf_of c (v.name ∷ path) u v.mark ∷ [] | Composed vs ↦ leaves n c (v.name ∷ path) vs ]) else [])
          + variable_parts (parts n project) project v
      by_class false e = omega arith
      by_class true e = composite (meaning text_world v.ty) (meaning c.world v.ty) (variable_parts (parts n project) project v) (composed_meaning text_world v.ty e) (composed_meaning c.world v.ty e)
          (ap (λ (o : Option Ty). if is_some o then 0 else if is_some (kind_named v.ty) then 1 else (elim (diagram.block_named v.ty project) [ Some q ↦ suc (parts n project q) | None ↦ 1 ])) e)

      by_type : (o : Option Ty) → type_named v.ty ≡ o → variable_size (size n text_world) text_world v ≤ length (variable_leaves (leaves n c) c path v) + variable_parts (parts n project) project v
      by_type (Some t) e = let same = plain_size (size n text_world) (leaves n c) path v t e in omega arith
      by_type None e = by_class (is_kept v.class) e

  variables_bound : (n : ℕ) (path : Spelling) → ((at : Spelling) (q : Pou) → size n text_world (variables_of (pou_text q).blocks) ≤ length (leaves n c at (variables_of q.lists)) + parts n project q)
      → (vs : List Variable) → sum_by (variable_size (size n text_world) text_world) vs ≤ length (flat_map (variable_leaves (leaves n c) c path) vs) + sum_by (variable_parts (parts n project) project) vs
  variables_bound n path each [] = omega arith
  variables_bound n path each (v ∷ vs) =
      let one = variable_bound n path v each in
      let rest = variables_bound n path each vs in
      let left = sum_by-cons (variable_size (size n text_world) text_world) v vs in
      let middle = length-append (variable_leaves (leaves n c) c path v) (flat_map (variable_leaves (leaves n c) c path) vs) in
      let right = sum_by-cons (variable_parts (parts n project) project) v vs in
      omega arith

  pub size_bound : (n : ℕ) (path : Spelling) (p : Pou) → size n text_world (variables_of (pou_text p).blocks) ≤ length (leaves n c path (variables_of p.lists)) + parts n project p
  size_bound zero path p = omega arith
  size_bound (suc n) path p =
      let declared = variables_bound n path (λ at q. size_bound n at q) (variables_of p.lists) in
      let own = own_size (size n text_world) text_world p in
      let whole = ap (sum_by (variable_size (size n text_world) text_world)) (text_variables p) ∙ sum_by-append (variable_size (size n text_world) text_world) (variables_of p.lists) (own_variables p) in
      omega arith
