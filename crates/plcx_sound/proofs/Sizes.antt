-- The leaves and parts of a project's POU are at most those that are counted in its file.
use Rattle.std.proofs.Common.{◌≡◌, ℕ, zero, suc, ◌+◌, ◌^◌, ◌≤◌, min, false, nat_lt, List, [], ◌∷◌, ◌++◌, length, map, Option, Some, None, option_to_list, is_none, slice_get, refl, sym, ap, ◌∙◌, arith}
use Rattle.std.specs.List.{flat_map, fold, sum_by}
use Rattle.std.proofs.lemmas.List.Sums.{sum_by-cons, sum_by-append}
use Rattle.std.proofs.lemmas.Option.{slice_get-map}
use Rattle.plcx_types.specs.Lists.{Each}
use Rattle.plcx_types.specs.Limits.{max_instance_chain, max_leaves, max_parts}
use Rattle.plcx_model.specs.Sound.{connections_of, connections, count_at, type_leaves, list_leaves, leaves, type_parts, parts}
use Rattle.plcx_model.specs.declared.body.Connection.{Connection}
use Rattle.plcx_model.specs.declared.body.PinIn.{PinIn}
use Rattle.plcx_model.specs.declared.body.Kind.{Kind}
use Rattle.plcx_model.specs.declared.body.Kind.TheVariants as kind
use Rattle.plcx_model.specs.declared.body.BodyElement.{BodyElement}
use Rattle.plcx_model.specs.declared.project.ListClass.{ListClass}
use Rattle.plcx_model.specs.declared.project.ListClass.TheVariants.{Local, Input, Output, InOut}
use Rattle.plcx_model.specs.declared.project.VarTy.{VarTy}
use Rattle.plcx_model.specs.declared.project.VarTy.TheVariants as var
use Rattle.plcx_model.specs.declared.project.Variable.{Variable}
use Rattle.plcx_model.specs.declared.project.VarList.{VarList}
use Rattle.plcx_model.specs.declared.project.Pou.{Pou}
use Rattle.plcx_draft.specs.declared.draft.DraftVariable.{DraftVariable}
use Rattle.plcx_draft.specs.declared.draft.DraftList.{DraftList}
use Rattle.plcx_draft.specs.declared.draft.DraftPou.{DraftPou}
use Rattle.plcx_profile.specs.declared.sizes.Content.{Content}
use Rattle.plcx_profile.specs.declared.sizes.Size.{Size}
use Rattle.plcx_profile.specs.declared.sizes.Size.TheVariants.{Leaves, Parts}
use Rattle.plcx_profile.specs.ProjectIn.{type_or, variable_of, list_of, pou_of}
use Rattle.plcx_profile.specs.Sizes as counted
use Rattle.plcx_profile.specs.Sizes.{plus, place_in, block_of, leaves_as, own_leaves, parts_as, with_pins, with_kind, body_parts, with_variable, with_list, content_of, contents, own, total, is_too_large}
use Rattle.plcx_profile.specs.Types.{type_meant}
use Rattle.plcx_sound.proofs.Lists.{all_at}
use Rattle.plcx_sound.proofs.Variables.{or_false, at_most}
use Rattle.plcx_sound.proofs.Chains.{Known, KnownPou, settled_pous}

-- a count that doesn't go past the most has come to so much
abbrev Comes : ℕ → ℕ → Type 0
Comes n counted = min n (2 ^ 22) ≤ counted

comes_more : (n m a b : ℕ) → Comes n a → Comes m b → Comes (n + m) (plus a b)
comes_more n m a b h k = omega arith

fold_comes : {X : Type 0} (f : X → ℕ) (n a : ℕ) (xs : List X) → Comes n a → Comes (n + sum_by f xs) (fold (λ m (x : X). plus m (f x)) a xs)
fold_comes f n a [] h = omega arith
fold_comes f n a (x ∷ xs) h =
    let more = fold_comes f (n + f x) (plus a (f x)) xs (comes_more n (f x) a (f x) h (omega arith)) in
    omega (arith, sum_by-cons f x xs, more)

-- bodies
abbrev pin : List Connection → ℕ
pin p = length p

abbrev pin_of : PinIn → ℕ
pin_of p = length p.input

pub pins_are : (ps : List PinIn) → sum_by pin (map (λ (p : PinIn). p.input) ps) ≡ sum_by pin_of ps
pins_are [] = refl
pins_are (p ∷ ps) = sum_by-cons pin p.input (map (λ (q : PinIn). q.input) ps) ∙ ap (λ n. length p.input + n) (pins_are ps) ∙ sym (sum_by-cons pin_of p ps)

one_comes : (n a : ℕ) (c : List Connection) → Comes n a → Comes (n + sum_by pin (c ∷ [])) (plus a (length c))
one_comes n a c h = let more = comes_more n (length c) a (length c) h (omega arith) in omega (arith, more)

block_comes : (n a : ℕ) (inputs in_outs : List PinIn) → Comes n a → Comes (n + sum_by pin (map (λ (p : PinIn). p.input) inputs ++ map (λ (p : PinIn). p.input) in_outs)) (with_pins (with_pins a inputs) in_outs)
block_comes n a inputs in_outs h =
    let first = fold_comes pin_of n a inputs h in
    let both = fold_comes pin_of (n + sum_by pin_of inputs) (with_pins a inputs) in_outs first in
    omega (arith, both, sum_by-append pin (map (λ (p : PinIn). p.input) inputs) (map (λ (p : PinIn). p.input) in_outs), pins_are inputs, pins_are in_outs)

still_comes : (n a : ℕ) → Comes n a → Comes (n + 0) a
still_comes n a h = omega arith

kind_comes : (n a : ℕ) (k : Kind) → Comes n a → Comes (n + sum_by pin (connections_of k)) (with_kind a k)
kind_comes n a (kind.RightRail input) h = one_comes n a input h
kind_comes n a (kind.Contact input text mods) h = one_comes n a input h
kind_comes n a (kind.Coil input text mods) h = one_comes n a input h
kind_comes n a (kind.Out input text mods) h = one_comes n a input h
kind_comes n a (kind.Block type_name instance inputs in_outs outputs) h = block_comes n a inputs in_outs h
kind_comes n a (kind.Connector name input) h = one_comes n a input h
kind_comes n a (kind.Jump label input) h = one_comes n a input h
kind_comes n a (kind.Return input) h = one_comes n a input h
kind_comes n a _ h = still_comes n a h

elements_come : (n a : ℕ) (es : List BodyElement) → Comes n a → Comes (n + (length es + sum_by connections es)) (fold (λ m (e : BodyElement). with_kind (plus m 1) e.kind) a es)
elements_come n a [] h = still_comes n a h
elements_come n a (e ∷ es) h =
    let here = kind_comes (n + 1) (plus a 1) e.kind (comes_more n 1 a 1 h (omega arith)) in
    let more = elements_come (n + 1 + connections e) (with_kind (plus a 1) e.kind) es here in
    omega (arith, more, sum_by-cons connections e es)

body_comes : (es : List BodyElement) → Comes (length es + sum_by connections es) (body_parts es)
body_comes es = let all = elements_come 0 0 es (omega arith) in omega (arith, all)

-- declarations
abbrev own_of : Size → ListClass → Option VarTy → ℕ
own_of Leaves class t = own_leaves class t
own_of Parts class t = parts_as t

module _ (pous : List DraftPou) (size : Size) (inner : ℕ → ℕ) where
  -- what a POU has, with the blocks of its instances
  abbrev amount : Content → ℕ
  amount c = own size c + sum_by inner c.blocks

  own_with : (s : Size) (class : ListClass) (c : Content) (v : DraftVariable) → own s (with_variable pous class c v) ≡ plus (own s c) (own_of s class (type_meant pous v.ty))
  own_with Leaves class c v = refl
  own_with Parts class c v = refl

  abbrev inner_of : DraftVariable → ℕ
  inner_of v = sum_by inner (option_to_list (block_of pous v))

  variable_comes : (n m : ℕ) (class : ListClass) (c : Content) (v : DraftVariable) → Comes n (amount c) → Comes m (own_of size class (type_meant pous v.ty) + inner_of v) → Comes (n + m) (amount (with_variable pous class c v))
  variable_comes n m class c v h k = omega (arith, h, k, own_with size class c v, sum_by-append inner c.blocks (option_to_list (block_of pous v)))

  module _ (weight : ListClass → DraftVariable → ℕ) (light : (class : ListClass) (v : DraftVariable) → Known pous v → Comes (weight class v) (own_of size class (type_meant pous v.ty) + inner_of v)) where
    variables_come : (n : ℕ) (class : ListClass) (c : Content) (vs : List DraftVariable) → Each (Known pous) vs → Comes n (amount c) → Comes (n + sum_by (weight class) vs) (amount (fold (with_variable pous class) c vs))
    variables_come n class c [] known h = still_comes n (amount c) h
    variables_come n class c (v ∷ vs) known h =
        let here = variable_comes n (weight class v) class c v h (light class v known.0) in
        let more = variables_come (n + weight class v) class (with_variable pous class c v) vs known.1 here in
        omega (arith, more, sum_by-cons (weight class) v vs)

    abbrev list_weight : DraftList → ℕ
    list_weight l = sum_by (weight l.class) l.variables

    lists_come : (n : ℕ) (c : Content) (ls : List DraftList) → Each (λ (l : DraftList). Each (Known pous) l.variables) ls → Comes n (amount c) → Comes (n + sum_by list_weight ls) (amount (fold (with_list pous) c ls))
    lists_come n c [] known h = still_comes n (amount c) h
    lists_come n c (l ∷ ls) known h =
        let here = variables_come n l.class c l.variables known.0 h in
        let more = lists_come (n + list_weight l) (with_list pous c l) ls known.1 here in
        omega (arith, more, sum_by-cons list_weight l ls)

-- where all types are known
module _ (pous : List DraftPou) (all_known : Each (KnownPou pous) pous) where
  abbrev inner : Size → ℕ → ℕ → ℕ
  inner size n place = counted.count_at (total (contents pous) size n) (slice_get (contents pous) place)

  block_comes_at : (size : Size) (n : ℕ) (measure : Pou → ℕ) → ((p : DraftPou) → KnownPou pous p → Comes (measure (pou_of pous p)) (total (contents pous) size n (content_of pous p))) → (place : ℕ) (o : Option DraftPou) → slice_get pous place ≡ o
      → Comes (count_at measure (slice_get (settled_pous pous) place)) (inner size n place)
  block_comes_at size n measure all place None is =
      rw (slice_get-map (pou_of pous) pous place, slice_get-map (content_of pous) pous place, is) (omega arith)
  block_comes_at size n measure all place (Some p) is =
      rw (slice_get-map (pou_of pous) pous place, slice_get-map (content_of pous) pous place, is) (all p (all_at (KnownPou pous) pous place p is all_known))

  class_leaves : (Pou → ℕ) → ListClass → VarTy → ℕ
  class_leaves measure InOut t = 0
  class_leaves measure _ t = type_leaves measure (settled_pous pous) t

  light_leaves : (n : ℕ) (measure : Pou → ℕ) → ((place : ℕ) → Comes (count_at measure (slice_get (settled_pous pous) place)) (inner Leaves n place)) → (class : ListClass) (t : Option VarTy) → is_none t ≡ false
      → Comes (class_leaves measure class (type_or t)) (own_leaves class t + sum_by (inner Leaves n) (option_to_list (place_in t)))
  unfolding class_leaves
  light_leaves n measure all InOut t some = omega arith
  light_leaves n measure all class None some = absurd (cc)
  light_leaves n measure all Local (Some (var.Plain t)) some = omega arith
  light_leaves n measure all Local (Some (var.Std k)) some = omega arith
  light_leaves n measure all Local (Some (var.Block place)) some = omega (arith, all place)
  light_leaves n measure all Input (Some (var.Plain t)) some = omega arith
  light_leaves n measure all Input (Some (var.Std k)) some = omega arith
  light_leaves n measure all Input (Some (var.Block place)) some = omega (arith, all place)
  light_leaves n measure all Output (Some (var.Plain t)) some = omega arith
  light_leaves n measure all Output (Some (var.Std k)) some = omega arith
  light_leaves n measure all Output (Some (var.Block place)) some = omega (arith, all place)

  light_parts : (n : ℕ) (measure : Pou → ℕ) → ((place : ℕ) → Comes (count_at measure (slice_get (settled_pous pous) place)) (inner Parts n place)) → (t : Option VarTy) → is_none t ≡ false
      → Comes (type_parts measure (settled_pous pous) (type_or t)) (parts_as t + sum_by (inner Parts n) (option_to_list (place_in t)))
  light_parts n measure all None some = absurd (cc)
  light_parts n measure all (Some (var.Plain t)) some = omega arith
  light_parts n measure all (Some (var.Std k)) some = omega arith
  light_parts n measure all (Some (var.Block place)) some = omega (arith, all place)

  -- sums over the variables of a project are sums over those of its draft
  module _ (f : VarTy → ℕ) where
    abbrev of_settled : Variable → ℕ
    of_settled v = f v.ty

    abbrev of_draft : DraftVariable → ℕ
    of_draft v = f (type_or (type_meant pous v.ty))

    sum_settled : (vs : List DraftVariable) → sum_by of_settled (map (variable_of pous) vs) ≡ sum_by of_draft vs
    unfolding variable_of
    sum_settled [] = refl
    sum_settled (v ∷ vs) = sum_by-cons of_settled (variable_of pous v) (map (variable_of pous) vs) ∙ ap (λ n. of_draft v + n) (sum_settled vs) ∙ sym (sum_by-cons of_draft v vs)

  sum_none : (vs : List DraftVariable) → 0 ≡ sum_by (λ (v : DraftVariable). 0) vs
  sum_none [] = refl
  sum_none (v ∷ vs) = omega (arith, sum_none vs, sum_by-cons (λ (w : DraftVariable). 0) v vs)

  abbrev leaf_weight : (Pou → ℕ) → ListClass → DraftVariable → ℕ
  leaf_weight measure class v = class_leaves measure class (type_or (type_meant pous v.ty))

  list_same : (measure : Pou → ℕ) (class : ListClass) (vs : List DraftVariable) → list_leaves measure (settled_pous pous) class (map (variable_of pous) vs) ≡ sum_by (leaf_weight measure class) vs
  unfolding class_leaves
  list_same measure InOut vs = sum_none vs
  list_same measure Local vs = sum_settled (type_leaves measure (settled_pous pous)) vs
  list_same measure Input vs = sum_settled (type_leaves measure (settled_pous pous)) vs
  list_same measure Output vs = sum_settled (type_leaves measure (settled_pous pous)) vs

  abbrev project_list : (Pou → ℕ) → VarList → ℕ
  project_list measure list = list_leaves measure (settled_pous pous) list.class list.variables

  abbrev draft_list : (Pou → ℕ) → DraftList → ℕ
  draft_list measure l = sum_by (leaf_weight measure l.class) l.variables

  lists_same : (measure : Pou → ℕ) (ls : List DraftList) → sum_by (project_list measure) (map (list_of pous) ls) ≡ sum_by (draft_list measure) ls
  unfolding list_of
  lists_same measure [] = refl
  lists_same measure (l ∷ ls) =
      sum_by-cons (project_list measure) (list_of pous l) (map (list_of pous) ls)
      ∙ ap (λ n. n + sum_by (project_list measure) (map (list_of pous) ls)) (list_same measure l.class l.variables)
      ∙ ap (λ n. draft_list measure l + n) (lists_same measure ls)
      ∙ sym (sum_by-cons (draft_list measure) l ls)

  abbrev part_weight : (Pou → ℕ) → DraftVariable → ℕ
  part_weight measure v = type_parts measure (settled_pous pous) (type_or (type_meant pous v.ty))

  abbrev project_parts : (Pou → ℕ) → Variable → ℕ
  project_parts measure v = type_parts measure (settled_pous pous) v.ty

  parts_same : (measure : Pou → ℕ) (ls : List DraftList) → sum_by (project_parts measure) (flat_map (λ (list : VarList). list.variables) (map (list_of pous) ls)) ≡ sum_by (λ (l : DraftList). sum_by (part_weight measure) l.variables) ls
  unfolding list_of
  parts_same measure [] = refl
  parts_same measure (l ∷ ls) =
      sum_by-append (project_parts measure) (map (variable_of pous) l.variables) (flat_map (λ (list : VarList). list.variables) (map (list_of pous) ls))
      ∙ ap (λ n. n + sum_by (project_parts measure) (flat_map (λ (list : VarList). list.variables) (map (list_of pous) ls))) (sum_settled (type_parts measure (settled_pous pous)) l.variables)
      ∙ ap (λ n. sum_by (part_weight measure) l.variables + n) (parts_same measure ls)
      ∙ sym (sum_by-cons (λ (k : DraftList). sum_by (part_weight measure) k.variables) l ls)

  -- with their instances, so many levels deep
  leaves_come : (n : ℕ) (p : DraftPou) → KnownPou pous p → Comes (leaves (settled_pous pous) n (pou_of pous p)) (total (contents pous) Leaves n (content_of pous p))
  unfolding total pou_of content_of
  leaves_come zero p known = omega arith
  leaves_come (suc n) p known =
      let measure = leaves (settled_pous pous) n in
      let at = λ (place : ℕ). block_comes_at Leaves n measure (leaves_come n) place (slice_get pous place) refl in
      let start : Content = record { leaves = 0; parts = body_parts p.body.elements; blocks = [] } in
      let all = lists_come pous Leaves (inner Leaves n) (leaf_weight measure) (λ class v some. light_leaves n measure at class (type_meant pous v.ty) some) 0 start p.lists known (omega arith) in
      let content = fold (with_list pous) start p.lists in
      let deep = fold_comes (inner Leaves n) (own Leaves content) (own Leaves content) content.blocks (omega arith) in
      omega (arith, all, deep, lists_same measure p.lists)

  parts_come : (n : ℕ) (p : DraftPou) → KnownPou pous p → Comes (parts (settled_pous pous) n (pou_of pous p)) (total (contents pous) Parts n (content_of pous p))
  unfolding total pou_of content_of
  parts_come zero p known = omega arith
  parts_come (suc n) p known =
      let measure = parts (settled_pous pous) n in
      let at = λ (place : ℕ). block_comes_at Parts n measure (parts_come n) place (slice_get pous place) refl in
      let start : Content = record { leaves = 0; parts = body_parts p.body.elements; blocks = [] } in
      let own_parts = body_comes p.body.elements in
      let all = lists_come pous Parts (inner Parts n) (λ class. part_weight measure) (λ class v some. light_parts n measure at (type_meant pous v.ty) some) (length p.body.elements + sum_by connections p.body.elements) start p.lists known (omega (arith, own_parts)) in
      let content = fold (with_list pous) start p.lists in
      let deep = fold_comes (inner Parts n) (own Parts content) (own Parts content) content.blocks (omega arith) in
      omega (arith, all, deep, parts_same measure p.lists)

  pub record IsSmall (p : DraftPou) : Type 0 where
    pub leaves : leaves (settled_pous pous) (suc max_instance_chain) (pou_of pous p) ≤ max_leaves
    pub parts : parts (settled_pous pous) (suc max_instance_chain) (pou_of pous p) ≤ max_parts

  pub small : (p : DraftPou) → KnownPou pous p → is_too_large (contents pous) (content_of pous p) ≡ false → IsSmall p
  small p known h =
      let both = or_false (nat_lt max_leaves (total (contents pous) Leaves (max_instance_chain + 1) (content_of pous p))) (nat_lt max_parts (total (contents pous) Parts (max_instance_chain + 1) (content_of pous p))) h in
      let few_leaves = at_most max_leaves (total (contents pous) Leaves (max_instance_chain + 1) (content_of pous p)) both.0 in
      let few_parts = at_most max_parts (total (contents pous) Parts (max_instance_chain + 1) (content_of pous p)) both.1 in
      record { leaves = omega (arith, few_leaves, leaves_come (suc max_instance_chain) p known); parts = omega (arith, few_parts, parts_come (suc max_instance_chain) p known) }
