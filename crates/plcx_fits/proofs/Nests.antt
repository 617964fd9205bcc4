-- Levels of blocks below a POU, and its leaves.
use Rattle.std.proofs.Common.{◌≡◌, ℕ, zero, suc, Bool, true, List, [], ◌∷◌, ◌++◌, map, length, Option, Some, None, refl, sym, ap, ◌∙◌, subst, arith, if◌then◌else◌}
use Rattle.std.specs.Prelude.{◌≤◌}
use Rattle.std.specs.List.{flat_map, sum_by}
use Rattle.std.proofs.lemmas.List.{length-append}
use Rattle.std.proofs.lemmas.List.Sums.{sum_by-cons}
use Rattle.plcx_types.specs.declared.ty.Ty.{Ty}
use Rattle.plcx_types.specs.Limits.{max_instance_chain, max_leaves}
use Rattle.plcx_types.specs.Lists.{Each}
use Rattle.plcx_types.specs.Name.{in_lower_case}
use Rattle.plcx_types.specs.TypeName.{type_name, type_named}
use Rattle.plcx_std.specs.declared.kind.StdKind.{StdKind}
use Rattle.plcx_std.specs.declared.kind.StdKind.TheVariants as kind
use Rattle.plcx_std.specs.Kind.{kind_name, kind_named}
use Rattle.plcx_std.specs.Pins.{pins}
use Rattle.plcx_meaning.specs.Diagram.{block_named}
use Rattle.plcx_meaning.specs.Diagram as diagram
use Rattle.plcx_meaning.specs.Evaluate.{world_of, scope_of}
use Rattle.plcx_meaning.specs.Fits.{PouNests}
use Rattle.plcx_meaning.specs.Layout.{variable_named, World, Meaning, Elementary, Composed, composed, meaning, Scope, Spelling, Leaf, is_kept, variable_leaves, block_variables}
use Rattle.plcx_meaning.specs.Layout as layout
use Rattle.plcx_meaning.specs.Standard.{pin_blocks}
use Rattle.plcx_meaning.specs.Tree as tree
use Rattle.plcx_meaning.proofs.Lists.{each_weaker}
use Rattle.plcx_meaning.proofs.Lookups.{each_found}
use Rattle.plcx_meaning.proofs.LookupsOwn.{type_of_name, elementary_meaning, composed_meaning}
use Rattle.plcx_model.specs.declared.plan.Links.{Links}
use Rattle.plcx_model.specs.declared.plan.Types.{Types}
use Rattle.plcx_model.specs.declared.plan.Plan.{Plan}
use Rattle.plcx_model.specs.declared.project.ListClass.{ListClass}
use Rattle.plcx_model.specs.declared.project.ListClass.TheVariants as class
use Rattle.plcx_model.specs.declared.project.VarTy.{VarTy}
use Rattle.plcx_model.specs.declared.project.VarTy.TheVariants.{Plain, Std, Block}
use Rattle.plcx_model.specs.declared.project.Variable.{Variable}
use Rattle.plcx_model.specs.declared.project.VarList.{VarList}
use Rattle.plcx_model.specs.declared.project.Pou.{Pou}
use Rattle.plcx_model.specs.declared.project.Project.{Project}
use Rattle.plcx_model.specs.Sound.{variables_of, IsKnown, Nests, VariableIsSound, ListIsSound, PouIsSound, Sound, count_at, type_leaves, list_leaves, leaves}
use Rattle.plcx_view.specs.Declared.{class_of, mark_of, spelled_type, declaration_of, list_of, lists_of}
use Rattle.plcx_fits.proofs.Spelled.{kind_of_name, seen, whole, block_folded}
use Rattle.plcx_fits.proofs.Variables.{shown, each_shown, IsBlock, is_block}

-- what holds of each variable of a POU, over its lists
pub over_lists : (P : Variable → Type 0) (lists : List VarList) → Each P (flat_map (λ (l : VarList). l.variables) lists) → Each (λ (l : VarList). Each P l.variables) lists
over_lists P [] all = tt
over_lists P (l ∷ lists) all = (front l.variables (flat_map (λ (k : VarList). k.variables) lists) all, over_lists P lists (back l.variables (flat_map (λ (k : VarList). k.variables) lists) all))
  where
    front : (xs ys : List Variable) → Each P (xs ++ ys) → Each P xs
    front [] ys h = tt
    front (x ∷ xs) ys h = (h.0, front xs ys h.1)

    back : (xs ys : List Variable) → Each P (xs ++ ys) → Each P ys
    back [] ys h = h
    back (x ∷ xs) ys h = back xs ys h.1

pub both_of : {A : Type 0} (P Q : A → Type 0) (xs : List A) → Each P xs → Each Q xs → Each (λ x. P x × Q x) xs
both_of P Q [] p q = tt
both_of P Q (x ∷ xs) p q = ((p.0, q.0), both_of P Q xs p.1 q.1)

-- a standard block has as many leaves in a layout as it has pins
abbrev IsElementary : layout.Variable → Type 0
IsElementary v = (is_kept v.class ≡ true) × (t : Ty) × (type_named v.ty ≡ Some t)

one_leaf : (inner : Spelling → List layout.Variable → List Leaf) (c : Scope) (names : Spelling) (v : layout.Variable) → IsElementary v → length (variable_leaves inner c names v) ≡ 1
one_leaf inner c names v h = ap (λ k. length (by k (meaning c.world v.ty))) h.0 ∙ ap (λ m. length (by true m)) (elementary_meaning c.world v.ty h.1 h.2)
  where
    by : Bool → Meaning → List Leaf
    by k m = if k then (elim m [ Elementary t ↦ layout.leaf_of c (v.name ∷ names) t v.mark ∷ [] | Composed vs ↦ inner (v.name ∷ names) vs ]) else []

elementary_leaves : (inner : Spelling → List layout.Variable → List Leaf) (c : Scope) (names : Spelling) (vs : List layout.Variable) → Each IsElementary vs → length (flat_map (variable_leaves inner c names) vs) ≡ length vs
elementary_leaves inner c names [] h = refl
elementary_leaves inner c names (v ∷ vs) h =
    let whole = length-append (variable_leaves inner c names v) (flat_map (variable_leaves inner c names) vs) in
    let one = one_leaf inner c names v h.0 in
    let rest = elementary_leaves inner c names vs h.1 in
    omega arith

pins_elementary : (k : StdKind) → Each IsElementary (layout.variables_of (pin_blocks k))
pins_elementary kind.Ton = ((refl, _, refl), ((refl, _, refl), ((refl, _, refl), ((refl, _, refl), ((refl, _, refl), ((refl, _, refl), tt))))))
pins_elementary kind.Tof = ((refl, _, refl), ((refl, _, refl), ((refl, _, refl), ((refl, _, refl), ((refl, _, refl), ((refl, _, refl), ((refl, _, refl), tt)))))))
pins_elementary kind.Tp = ((refl, _, refl), ((refl, _, refl), ((refl, _, refl), ((refl, _, refl), ((refl, _, refl), ((refl, _, refl), ((refl, _, refl), tt)))))))
pins_elementary kind.Ctu = ((refl, _, refl), ((refl, _, refl), ((refl, _, refl), ((refl, _, refl), ((refl, _, refl), ((refl, _, refl), tt))))))
pins_elementary kind.Ctd = ((refl, _, refl), ((refl, _, refl), ((refl, _, refl), ((refl, _, refl), ((refl, _, refl), ((refl, _, refl), tt))))))
pins_elementary kind.Ctud = ((refl, _, refl), ((refl, _, refl), ((refl, _, refl), ((refl, _, refl), ((refl, _, refl), ((refl, _, refl), ((refl, _, refl), ((refl, _, refl), ((refl, _, refl), ((refl, _, refl), tt))))))))))
pins_elementary kind.Sr = ((refl, _, refl), ((refl, _, refl), ((refl, _, refl), tt)))
pins_elementary kind.Rs = ((refl, _, refl), ((refl, _, refl), ((refl, _, refl), tt)))
pins_elementary kind.RTrig = ((refl, _, refl), ((refl, _, refl), ((refl, _, refl), tt)))
pins_elementary kind.FTrig = ((refl, _, refl), ((refl, _, refl), ((refl, _, refl), tt)))

pins_count : (k : StdKind) → length (layout.variables_of (pin_blocks k)) ≡ length (pins k)
pins_count kind.Ton = refl
pins_count kind.Tof = refl
pins_count kind.Tp = refl
pins_count kind.Ctu = refl
pins_count kind.Ctd = refl
pins_count kind.Ctud = refl
pins_count kind.Sr = refl
pins_count kind.Rs = refl
pins_count kind.RTrig = refl
pins_count kind.FTrig = refl

module _ (project : Project) (links : Links) (types : Types) (plan : Plan) (sound : Sound project) where
  abbrev pous : List Pou
  pous = project.pous

  abbrev dia : diagram.Project
  dia = whole project links types plan

  -- ---- levels

  -- what is said of a variable in a diagram by the type that it has in the file
  record HasLevels (n : ℕ) (v : layout.Variable) : Type 0 where
    t : VarTy
    spelled : v.ty ≡ spelled_type pous t
    known : IsKnown pous t
    nests : Nests pous n t

  levels : (n : ℕ) (p : Pou) → PouIsSound pous p → Each (λ (v : Variable). Nests pous n v.ty) (variables_of p) → Each (HasLevels n) (layout.variables_of (lists_of pous p))
  levels n p s nests =
      each_shown pous (HasLevels n) (λ (l : VarList). ListIsSound pous p.kind l × Each (λ (v : Variable). Nests pous n v.ty) l.variables) p.lists
      (λ l h. each_weaker (λ (v : Variable). VariableIsSound pous l v × Nests pous n v.ty) (λ (v : Variable). HasLevels n (shown pous l v)) l.variables
      (λ v both. record { t = v.ty; spelled = refl; known = both.0.known; nests = both.1 })
      (both_of (VariableIsSound pous l) (λ (v : Variable). Nests pous n v.ty) l.variables h.0.variables h.1))
      (both_of (ListIsSound pous p.kind) (λ (l : VarList). Each (λ (v : Variable). Nests pous n v.ty) l.variables) p.lists s.lists (over_lists (λ (v : Variable). Nests pous n v.ty) p.lists nests))

  block_level : (n : ℕ) (v : layout.Variable) (t : VarTy) → v.ty ≡ spelled_type pous t → IsKnown pous t → Nests pous n t → type_named v.ty ≡ None → kind_named v.ty ≡ None
      → (m : ℕ) × (n ≡ suc m) × (place : ℕ) × (q : Pou) × IsBlock project links types plan sound place q × (v.ty ≡ spelled_type pous (Block place)) × Each (λ (w : Variable). Nests pous m w.ty) (variables_of q)
  block_level n v (Plain t) e k nests none other = absurd (let h : Some t ≡ None = sym (type_of_name t) ∙ sym (ap type_named e) ∙ none in cc)
  block_level n v (Std k) e h nests none other = absurd (let g : Some k ≡ None = sym (kind_of_name k).0 ∙ sym (ap kind_named e) ∙ other in cc)
  block_level zero v (Block place) e k nests none other = absurd nests
  block_level (suc m) v (Block place) e k nests none other = (m, refl, place, k.0, is_block project links types plan sound place k.0 k.1 k.2, e, nests k.0 k.1)

  pub pou_nests : (n : ℕ) (i : ℕ) (p : Pou) → PouIsSound pous p → Each (λ (v : Variable). Nests pous n v.ty) (variables_of p) → PouNests n dia (seen project links types plan i p)
  pou_nests zero i p s nests = λ x v named none other.
      let h = each_found (HasLevels zero) x (layout.variables_of (lists_of pous p)) v (levels zero p s nests) named in
      let b = block_level zero v h.t h.spelled h.known h.nests none other in
      absurd (let e : zero ≡ suc b.0 = b.1 in omega arith)
  pou_nests (suc n) i p s nests = λ x v named none other.
      let h = each_found (HasLevels (suc n)) x (layout.variables_of (lists_of pous p)) v (levels (suc n) p s nests) named in
      let b = block_level (suc n) v h.t h.spelled h.known h.nests none other in
      let same : b.0 ≡ n = (let e : suc n ≡ suc b.0 = b.1 in omega arith) in
      let block = b.4 in (
        seen project links types plan b.2 b.3,
        ap (λ name. block_named name dia) b.5 ∙ block.found,
        pou_nests n b.2 b.3 block.keeps (subst (λ m. Each (λ (w : Variable). Nests pous m w.ty) (variables_of b.3)) same b.6),
      )

  -- ---- leaves

  abbrev CountsLeaves : ℕ → Type 0
  CountsLeaves n = (c : Scope) → c.world ≡ world_of dia → (names : Spelling) (p : Pou) → PouIsSound pous p → Each (λ (v : Variable). Nests pous n v.ty) (variables_of p)
      → length (layout.leaves (suc (suc n)) c names (layout.variables_of (lists_of pous p))) ≡ leaves pous (suc n) p

  -- the variables of a block in the world of the diagram
  pub block_world : (place : ℕ) (q : Pou) → IsBlock project links types plan sound place q → composed (world_of dia) (spelled_type pous (Block place)) ≡ layout.variables_of (lists_of pous q)
  block_world place q b =
      let name = spelled_type pous (Block place) in
      let found : block_named (in_lower_case name) dia ≡ Some (seen project links types plan place q) = block_folded name dia ∙ b.found in
      let none : composed (world_of dia) name ≡ layout.variables_of (world_of dia (in_lower_case name)) = rw (b.no_kind, composed) refl in
      none ∙ ap (λ (o : Option diagram.Pou). layout.variables_of (elim o [ Some r ↦ r.lists | None ↦ [] ])) found

  kept_leaves : (n : ℕ) → ((m : ℕ) → n ≡ suc m → CountsLeaves m) → (c : Scope) → c.world ≡ world_of dia → (names : Spelling) (name : List ℕ) (mark : tree.Mark) (t : VarTy) → IsKnown pous t → Nests pous n t
      → length (elim (meaning c.world (spelled_type pous t)) as (λ m. List Leaf) [ Elementary u ↦ layout.leaf_of c (name ∷ names) u mark ∷ [] | Composed vs ↦ layout.leaves (suc n) c (name ∷ names) vs ]) ≡ type_leaves (leaves pous n) pous t
  kept_leaves n below c world names name mark (Plain t) k nests = ap (λ m. length (elim m as (λ x. List Leaf) [ Elementary u ↦ layout.leaf_of c (name ∷ names) u mark ∷ [] | Composed vs ↦ layout.leaves (suc n) c (name ∷ names) vs ])) (elementary_meaning c.world (type_name t) t (type_of_name t))
  kept_leaves n below c world names name mark (Std k) h nests =
      let facts = kind_of_name k in
      let composed_is : composed c.world (kind_name k) ≡ layout.variables_of (pin_blocks k) = rw (facts.0, composed) refl in
      ap (λ m. length (elim m as (λ x. List Leaf) [ Elementary u ↦ layout.leaf_of c (name ∷ names) u mark ∷ [] | Composed vs ↦ layout.leaves (suc n) c (name ∷ names) vs ])) (composed_meaning c.world (kind_name k) facts.1)
      ∙ ap (λ vs. length (layout.leaves (suc n) c (name ∷ names) vs)) composed_is
      ∙ elementary_leaves (layout.leaves n c) c (name ∷ names) (layout.variables_of (pin_blocks k)) (pins_elementary k) ∙ pins_count k
  kept_leaves zero below c world names name mark (Block place) k nests = absurd nests
  kept_leaves (suc n) below c world names name mark (Block place) k nests =
      let b = is_block project links types plan sound place k.0 k.1 k.2 in
      let spelled = spelled_type pous (Block place) in
      ap (λ m. length (elim m as (λ x. List Leaf) [ Elementary u ↦ layout.leaf_of c (name ∷ names) u mark ∷ [] | Composed vs ↦ layout.leaves (suc (suc n)) c (name ∷ names) vs ])) (composed_meaning c.world spelled b.no_type)
      ∙ ap (λ vs. length (layout.leaves (suc (suc n)) c (name ∷ names) vs)) (ap (λ w. composed w spelled) world ∙ block_world place k.0 b)
      ∙ below n refl c world (name ∷ names) k.0 b.keeps (nests k.0 k.1)
      ∙ sym (ap (count_at (leaves pous (suc n))) k.1)

  list_of_leaves : (n : ℕ) → ((m : ℕ) → n ≡ suc m → CountsLeaves m) → (c : Scope) → c.world ≡ world_of dia → (names : Spelling) (class : ListClass) (mark : tree.Mark) (vs : List Variable) → Each (λ (v : Variable). IsKnown pous v.ty × Nests pous n v.ty) vs
      → length (flat_map (variable_leaves (layout.leaves (suc n) c) c names) (map (layout.variable (class_of class) mark) (map (declaration_of pous) vs))) ≡ list_leaves (leaves pous n) pous class vs
  list_of_leaves n below c world names class.InOut mark [] all = refl
  list_of_leaves n below c world names class.InOut mark (v ∷ vs) all = list_of_leaves n below c world names class.InOut mark vs all.1
  list_of_leaves n below c world names class.Local mark vs all = kept vs all
    where
      kept : (vs : List Variable) → Each (λ (v : Variable). IsKnown pous v.ty × Nests pous n v.ty) vs → length (flat_map (variable_leaves (layout.leaves (suc n) c) c names) (map (layout.variable tree.Local mark) (map (declaration_of pous) vs))) ≡ sum_by (λ (v : Variable). type_leaves (leaves pous n) pous v.ty) vs
      kept [] all = refl
      kept (v ∷ vs) all =
          let whole = length-append (variable_leaves (layout.leaves (suc n) c) c names (layout.variable tree.Local mark (declaration_of pous v))) (flat_map (variable_leaves (layout.leaves (suc n) c) c names) (map (layout.variable tree.Local mark) (map (declaration_of pous) vs))) in
          let one = kept_leaves n below c world names v.name mark v.ty all.0.0 all.0.1 in
          let rest = kept vs all.1 in
          let sum = sum_by-cons (λ (w : Variable). type_leaves (leaves pous n) pous w.ty) v vs in
          omega arith
  list_of_leaves n below c world names class.Input mark vs all = kept vs all
    where
      kept : (vs : List Variable) → Each (λ (v : Variable). IsKnown pous v.ty × Nests pous n v.ty) vs → length (flat_map (variable_leaves (layout.leaves (suc n) c) c names) (map (layout.variable tree.Input mark) (map (declaration_of pous) vs))) ≡ sum_by (λ (v : Variable). type_leaves (leaves pous n) pous v.ty) vs
      kept [] all = refl
      kept (v ∷ vs) all =
          let whole = length-append (variable_leaves (layout.leaves (suc n) c) c names (layout.variable tree.Input mark (declaration_of pous v))) (flat_map (variable_leaves (layout.leaves (suc n) c) c names) (map (layout.variable tree.Input mark) (map (declaration_of pous) vs))) in
          let one = kept_leaves n below c world names v.name mark v.ty all.0.0 all.0.1 in
          let rest = kept vs all.1 in
          let sum = sum_by-cons (λ (w : Variable). type_leaves (leaves pous n) pous w.ty) v vs in
          omega arith
  list_of_leaves n below c world names class.Output mark vs all = kept vs all
    where
      kept : (vs : List Variable) → Each (λ (v : Variable). IsKnown pous v.ty × Nests pous n v.ty) vs → length (flat_map (variable_leaves (layout.leaves (suc n) c) c names) (map (layout.variable tree.Output mark) (map (declaration_of pous) vs))) ≡ sum_by (λ (v : Variable). type_leaves (leaves pous n) pous v.ty) vs
      kept [] all = refl
      kept (v ∷ vs) all =
          let whole = length-append (variable_leaves (layout.leaves (suc n) c) c names (layout.variable tree.Output mark (declaration_of pous v))) (flat_map (variable_leaves (layout.leaves (suc n) c) c names) (map (layout.variable tree.Output mark) (map (declaration_of pous) vs))) in
          let one = kept_leaves n below c world names v.name mark v.ty all.0.0 all.0.1 in
          let rest = kept vs all.1 in
          let sum = sum_by-cons (λ (w : Variable). type_leaves (leaves pous n) pous w.ty) v vs in
          omega arith

  lists_of_leaves : (n : ℕ) → ((m : ℕ) → n ≡ suc m → CountsLeaves m) → (c : Scope) → c.world ≡ world_of dia → (names : Spelling) (lists : List VarList) → Each (λ (l : VarList). Each (λ (v : Variable). IsKnown pous v.ty × Nests pous n v.ty) l.variables) lists
      → length (layout.leaves (suc (suc n)) c names (layout.variables_of (map (list_of pous) lists))) ≡ sum_by (λ (l : VarList). list_leaves (leaves pous n) pous l.class l.variables) lists
  lists_of_leaves n below c world names [] all = refl
  lists_of_leaves n below c world names (l ∷ lists) all =
      let own = block_variables (list_of pous l) in
      let others = layout.variables_of (map (list_of pous) lists) in
      let leaf = variable_leaves (layout.leaves (suc n) c) c names in
      let parted : flat_map leaf (own ++ others) ≡ flat_map leaf own ++ flat_map leaf others = flat_append leaf own others in
      let whole = ap length parted ∙ length-append (flat_map leaf own) (flat_map leaf others) in
      let one = list_of_leaves n below c world names l.class (mark_of l) l.variables all.0 in
      let rest = lists_of_leaves n below c world names lists all.1 in
      let sum = sum_by-cons (λ (k : VarList). list_leaves (leaves pous n) pous k.class k.variables) l lists in
      omega arith
    where
      flat_append : {A B : Type 0} (f : A → List B) (xs ys : List A) → flat_map f (xs ++ ys) ≡ flat_map f xs ++ flat_map f ys
      flat_append f [] ys = refl
      flat_append f (x ∷ xs) ys = ap (λ rest. f x ++ rest) (flat_append f xs ys) ∙ sym (append_three (f x) (flat_map f xs) (flat_map f ys))
        where
          append_three : {B : Type 0} (a b c : List B) → (a ++ b) ++ c ≡ a ++ (b ++ c)
          append_three [] b c = refl
          append_three (x ∷ a) b c = ap (λ rest. x ∷ rest) (append_three a b c)

  pub nested : (n : ℕ) (p : Pou) → PouIsSound pous p → Each (λ (v : Variable). Nests pous n v.ty) (variables_of p) → Each (λ (l : VarList). Each (λ (v : Variable). IsKnown pous v.ty × Nests pous n v.ty) l.variables) p.lists
  nested n p s nests =
      each_weaker (λ (l : VarList). ListIsSound pous p.kind l × Each (λ (v : Variable). Nests pous n v.ty) l.variables) (λ (l : VarList). Each (λ (v : Variable). IsKnown pous v.ty × Nests pous n v.ty) l.variables) p.lists
      (λ l h. each_weaker (λ (v : Variable). VariableIsSound pous l v × Nests pous n v.ty) (λ (v : Variable). IsKnown pous v.ty × Nests pous n v.ty) l.variables (λ v both. (both.0.known, both.1))
      (both_of (VariableIsSound pous l) (λ (v : Variable). Nests pous n v.ty) l.variables h.0.variables h.1))
      (both_of (ListIsSound pous p.kind) (λ (l : VarList). Each (λ (v : Variable). Nests pous n v.ty) l.variables) p.lists s.lists (over_lists (λ (v : Variable). Nests pous n v.ty) p.lists nests))

  pub leaves_counted : (n : ℕ) → CountsLeaves n
  leaves_counted zero c world names p s nests = lists_of_leaves zero (λ m e. absurd (omega arith)) c world names p.lists (nested zero p s nests)
  leaves_counted (suc n) c world names p s nests =
      lists_of_leaves (suc n) (λ m e. let same : n ≡ m = omega arith in subst CountsLeaves same (leaves_counted n)) c world names p.lists (nested (suc n) p s nests)

  -- each variable of a POU nests few blocks
  pub sound_nests : (p : Pou) → PouIsSound pous p → Each (λ (v : Variable). Nests pous max_instance_chain v.ty) (variables_of p)
  sound_nests p s = flat p.lists s.lists
    where
      joined : (xs ys : List Variable) → Each (λ (v : Variable). Nests pous max_instance_chain v.ty) xs → Each (λ (v : Variable). Nests pous max_instance_chain v.ty) ys → Each (λ (v : Variable). Nests pous max_instance_chain v.ty) (xs ++ ys)
      joined [] ys a b = b
      joined (x ∷ xs) ys a b = (a.0, joined xs ys a.1 b)

      flat : (lists : List VarList) → Each (ListIsSound pous p.kind) lists → Each (λ (v : Variable). Nests pous max_instance_chain v.ty) (flat_map (λ (l : VarList). l.variables) lists)
      flat [] all = tt
      flat (l ∷ lists) all = joined l.variables (flat_map (λ (k : VarList). k.variables) lists) (each_weaker (VariableIsSound pous l) (λ (v : Variable). Nests pous max_instance_chain v.ty) l.variables (λ v h. h.nests) all.0.variables) (flat lists all.1)

  pub leaves_fit : (i : ℕ) (p : Pou) → PouIsSound pous p → length (layout.layout (scope_of dia (seen project links types plan i p))) ≤ max_leaves
  leaves_fit i p s = subst (λ n. n ≤ max_leaves) (sym (leaves_counted 16 (scope_of dia (seen project links types plan i p)) refl [] p s (sound_nests p s))) s.leaves
