-- The lines of a POU of a ready unit can be run: those of values, of assignments and of calls.
use Rattle.std.proofs.Common.{◌≡◌, ℕ, zero, suc, ◌+◌, ◌<◌, ◌≤◌, true, List, [], ◌∷◌, ◌++◌, length, map, filter, Option, Some, None, refl, sym, ap, ◌∙◌, subst, arith}
use Rattle.std.specs.Prelude.{slice_get, slice_range}
use Rattle.std.specs.List.{Contains}
use Rattle.std.proofs.lemmas.List.{length-map}
use Rattle.std.proofs.lemmas.Option.{slice_get_within, same_Some}
use Rattle.plcx_types.specs.declared.ty.Ty.{Ty}
use Rattle.plcx_types.specs.Name.{in_lower_case}
use Rattle.plcx_types.specs.TypeName.{type_named}
use Rattle.plcx_types.specs.Lists.{Each}
use Rattle.plcx_types.specs.Value.{Value}
use Rattle.plcx_std.specs.declared.kind.StdKind.{StdKind}
use Rattle.plcx_std.specs.Kind.{kind_named}
use Rattle.plcx_meaning.specs.Tree.{Expression, Argument}
use Rattle.plcx_meaning.specs.Layout.{Variable, variables_of, composed, is_kept}
use Rattle.plcx_meaning.specs.Evaluate.{is_in_out}
use Rattle.plcx_meaning.specs.Execute.{Formal, Takes, Binds, NoFormal, formal}
use Rattle.plcx_meaning.specs.Typed.{variable_in, part_in, expression_type, can_store}
use Rattle.plcx_meaning.specs.Ready.{ExpressionIsReady, TargetIsReady, ValueIsReady, CallIsReady}
use Rattle.plcx_meaning.proofs.Lists.{each_append, each_weaker}
use Rattle.plcx_meaning.proofs.Units.{variable_there}
use Rattle.plcx_state.specs.Stores.{HasValue}
use Rattle.plcx_steps.specs.declared.program.Operand.{Operand}
use Rattle.plcx_steps.specs.declared.program.Operand.TheVariants.{Leaf}
use Rattle.plcx_steps.specs.declared.program.Source.{Source}
use Rattle.plcx_steps.specs.declared.program.Source.TheVariants.{Wire}
use Rattle.plcx_steps.specs.declared.program.Action.{Action}
use Rattle.plcx_steps.specs.declared.program.Action.TheVariants.{Fix, Write, Keep, Not, And, Or, Apply, Standard}
use Rattle.plcx_steps.specs.declared.program.Step.TheVariants as step
use Rattle.plcx_steps.specs.declared.program.Body.{Body}
use Rattle.plcx_steps.specs.Sound.{IsWithin, IsSoundAction, Enters, ArePlaced}
use Rattle.plcx_steps.specs.Typed.{IsPlacedOf, IsOf, IsTypedAction, IsTypedEntry}
use Rattle.plcx_numbered.specs.Numbers.{in_out_names, inner_depth}
use Rattle.plcx_numbered.specs.Numbers.{Place as Lying}
use Rattle.plcx_runnable.specs.Shapes.{in_out_type}
use Rattle.plcx_runnable.proofs.Good as good
use Rattle.plcx_runnable.proofs.Lists.{mapped_at, mapped_from, each_get, StandsAt, stands_within}
use Rattle.plcx_text_steps.specs.declared.text.Line.{Line}
use Rattle.plcx_text_steps.specs.declared.text.Line.TheVariants as line
use Rattle.plcx_text_steps.specs.Sound.{HasSection, Begins, IsSoundLine}
use Rattle.plcx_text_steps.specs.Typed.{IsTypedLine}
use Rattle.plcx_text_numbered.specs.Prepared.{Place, Held, Stored, place_source, wires_of}
use Rattle.plcx_text_numbered.specs.Statements.{store_line, formal_of, taken_wires, store_one, store_lines}
use Rattle.plcx_text_numbered.specs.Numbers.{places_of, leaf_number, bound_operand, bound_operands, place_named, level}
use Rattle.plcx_text_numbered.specs.Texts.{IsExpressionOf, IsAssignOf, IsInputOf, IsTakenOf, AreTakenOf, inner_in_outs, called_lines, IsCallOf}
use Rattle.plcx_text_runnable.specs.Laws.{IsShapeOf, AreTypedNumbers, CanRun}
use Rattle.plcx_text_runnable.specs.Shapes.{types_of, shapes_of}
use Rattle.plcx_text_runnable.proofs.Expressions.{source_within, value_good}
use Rattle.plcx_text_runnable.proofs.Instances.{is_user, within_place, within_low, level_below, composed_block}
use Rattle.plcx_text_runnable.proofs.Places.{variable_of, output_of, input_of, place_typed, inner_typed}
use Rattle.plcx_text_runnable.proofs.Bindings.{IsInstanceOf, binding_at}
use Rattle.plcx_text_runnable.proofs.Grounds.{Ground, vs, world, scope, num, wires, shape, owner, parts, called, IsCallee, callee, standard_place, bindings_are}

-- a body has as many places as its POU
pub frame_shape : (g : Ground) → good.IsShapeOf g.at.body (shape g)
frame_shape g = record {
  leaves = g.at.frame.leaves ∙ sym (length-map (places_of g.unit (vs g)) (λ (x : Lying). x.1));
  memories = g.at.frame.memories;
  in_outs = g.at.frame.in_outs ∙ length-map (filter (λ v. is_in_out (Some v)) (vs g)) (λ (v : Variable). in_lower_case v.name) ∙ sym (length-map (filter (λ v. is_in_out (Some v)) (vs g)) in_out_type);
}

-- a line below a section uses each place at its type, and its numbers lie where they have to
abbrev pub Good : Ground → ℕ → Line → Type 0
Good g below l = IsTypedLine (shapes_of g.unit) g.program (shape g) (wires g) l × IsSoundLine g.program g.text below g.number g.at.body l

module _ (g : Ground) where
  is_shape : IsShapeOf g.at.body (shape g)
  is_shape = let s = frame_shape g in record { leaves = s.leaves; memories = s.memories; in_outs = s.in_outs }

  -- ---- values

  numbers : AreTypedNumbers (num g) (shape g) (wires g)
  numbers = record {
    names = λ x t h. place_typed g.unit g.pou g.own (wires g) g.at.spare g.at.wires x t (variable_of (world g) (variable_in (scope g) x) t h);
    members = λ i x t h. (let o = output_of (world g) (part_in (scope g) i x) t h in inner_typed g.unit g.pou g.own i x t o.its (ap is_kept o.class_is));
  }

  -- an action whose numbers lie within as many wires as the body has
  action_good : (below : ℕ) (a : Action) → IsTypedAction g.program (shape g) (wires g) a → IsSoundAction g.program g.at.body (length (wires g)) a → Good g below (line.Act a)
  action_good below a typed sound = (typed, subst (λ w. IsSoundAction g.program g.at.body w a) (sym g.at.width) sound)

  -- one that is no call of a function
  plain_good : (below : ℕ) (a : Action) → IsTypedAction g.program (shape g) (wires g) a → good.Rest (shapes_of g.unit) g.program (shape g) g.at.body (wires g) (step.Act a) → Good g below (line.Act a)
  plain_good below a typed rest =
      action_good below a typed (good.steps_sound (shapes_of g.unit) g.program (shape g) g.at.body (wires g) (frame_shape g) (step.Act a ∷ []) ((typed, rest), tt) 0 (step.Act a) refl)

  can_run : (below : ℕ) (l : Line) → CanRun g.program g.at.body (shape g) (wires g) l → Good g below l
  can_run below (line.Act a) h = action_good below a h.0 h.1
  can_run below (line.Call pou leaves first count) h = absurd h
  can_run below (line.If test k) h = absurd h
  can_run below (line.While before test k) h = absurd h
  can_run below (line.Case source first count) h = absurd h

  -- the lines of a value, and its source
  pub value_runs : (below wire : ℕ) (e : Expression) (t : Ty) → expression_type (scope g) e ≡ Some t → (lines : List Line) (source : Source) → IsExpressionOf (owner g) (parts g) wire e lines source
      → Each (Good g below) lines × IsOf (shape g) (wires g) source t × IsWithin g.at.body g.at.body.width source
  value_runs below wire e t typed lines source h =
      let v = value_good g.program g.at.body (shape g) (wires g) (num g) is_shape numbers e t typed h.first wire (record { begins = h.begins; has = h.has }) h.wires in
      let of_type = subst (λ s. IsOf (shape g) (wires g) s t) (sym h.is_source) v.1 in (
        subst (Each (Good g below)) (sym h.are_lines) (each_weaker (CanRun g.program g.at.body (shape g) (wires g)) (Good g below) _ (can_run below) v.0),
        of_type,
        subst (λ w. IsWithin g.at.body w source) (sym g.at.width) (source_within g.program g.at.body (shape g) (wires g) (num g) is_shape numbers source t of_type),
      )

  -- ---- assignments

  pub assign_runs : (below : ℕ) (x : List ℕ) (e : Expression) (t : Ty) → TargetIsReady (scope g) x t can_store → ExpressionIsReady (scope g) e t → (lines : List Line) → IsAssignOf (owner g) (parts g) x e lines → Each (Good g below) lines
  assign_runs below x e t target r lines h =
      let v = value_runs below h.value.wire e t r.typed h.before h.source h.value.value in
      subst (Each (Good g below)) (sym h.are_lines)
      (each_append (Good g below) h.before (store_line ((num g).place x) h.source ∷ []) v.0
      (stores ((num g).place x) v.1 (place_typed g.unit g.pou g.own (wires g) g.at.spare g.at.wires x t (record { variable = target.variable; found = target.found; typed = target.typed })), tt))
    where
      stores : (q : Place) → IsOf (shape g) (wires g) h.source t → IsOf (shape g) (wires g) (place_source q) t → Good g below (store_line q h.source)
      stores (Held w) s k = plain_good below (Fix h.source w) (t, s, k) tt
      stores (Stored o) s k = plain_good below (Write o h.source) (t, k, s) tt

  -- ---- calls

  module _ (below : ℕ) (i : List ℕ) where
    taken_runs : (f : Formal) (a : Argument) → formal_of (num g) i a ≡ f → ValueIsReady (scope g) a.value f → (wire : ℕ) (lines : List Line) → IsTakenOf (owner g) (parts g) wire a f lines → Each (Good g below) lines × Each (Good g below) (store_one f (num g) i wire a)
    taken_runs (Takes t) a is r wire lines h =
        let v = value_runs below wire a.value t r.typed h.before h.source h.value in
        let o = input_of (world g) (part_in (scope g) i a.formal) t is in
        let w = wire + wires_of a.value in (
          subst (Each (Good g below)) (sym h.are_lines) (each_append (Good g below) h.before (line.Act (Fix h.source w) ∷ []) v.0 (plain_good below (Fix h.source w) (t, v.1, h.own) tt, tt)),
          (plain_good below (Write (Leaf ((num g).inner i a.formal)) (Wire w)) (t, inner_typed g.unit g.pou g.own i a.formal t o.its (ap is_kept o.class_is), h.own) tt, tt),
        )
    taken_runs (Binds t) a is r wire lines h = (subst (Each (Good g below)) (sym h) tt, tt)
    taken_runs NoFormal a is r wire lines h = absurd r

    all_taken : (args : List Argument) → Each (λ (a : Argument). ValueIsReady (scope g) a.value (formal (world g) (part_in (scope g) i a.formal))) args → (wire : ℕ) (lines : List Line) → AreTakenOf (owner g) (parts g) i wire args lines
        → Each (Good g below) lines × Each (Good g below) (store_lines (num g) i wire args)
    all_taken [] r wire lines h = (subst (Each (Good g below)) (sym h) tt, tt)
    all_taken (a ∷ rest) r wire lines h =
        let one = taken_runs (formal_of (num g) i a) a refl r.0 wire h.0 h.3 in
        let more = all_taken rest r.1 (wire + taken_wires (formal_of (num g) i a) a) h.1 h.4 in (
          subst (Each (Good g below)) (sym h.2) (each_append (Good g below) h.0 h.1 one.0 more.0),
          each_append (Good g below) (store_one (formal_of (num g) i a) (num g) i wire a) _ one.1 more.1,
        )

    -- the run of the block
    module _ (high : g.at.floor ≤ below) (args : List Argument) (r : CallIsReady (scope g) i args) (first : ℕ) (stands : StandsAt g.program.bindings.items first (bound_operands (num g) args (inner_in_outs (owner g) i))) where
      abbrev leaf : ℕ
      leaf = leaf_number g.unit (in_lower_case i) (vs g)

      abbrev count : ℕ
      count = length (inner_in_outs (owner g) i)

      standard_runs : (v : Variable) → variable_in (scope g) i ≡ Some v → type_named v.ty ≡ None → (k : StdKind) → kind_named v.ty ≡ Some k → Good g below (line.Act (Standard k leaf))
      standard_runs v found composite k e =
          plain_good below (Standard k leaf)
          (λ j q there. mapped_at (λ (y : Lying). y.1) (places_of g.unit (vs g)) (leaf + j) (in_lower_case q.name ∷ in_lower_case i ∷ [], q.ty) (standard_place g i v found composite k e j q there)) tt

      module _ (v : Variable) (found : variable_in (scope g) i ≡ Some v) (composite : type_named v.ty ≡ None) (b : IsCallee g i v) where
        abbrev us : List Variable
        us = variables_of b.pou.blocks

        there : Contains (vs g) v
        there = variable_there (in_lower_case i) (vs g) v found

        names : inner_in_outs (owner g) i ≡ in_out_names us
        names = ap in_out_names b.inside

        are : slice_range g.program.bindings.items first (first + count) ≡ bound_operands (num g) args (inner_in_outs (owner g) i)
        are = bindings_are g i args first stands.has

        -- the operand of an in-out
        bound_at : (j : ℕ) (key : List ℕ) → slice_get (in_out_names us) j ≡ Some key → slice_get (slice_range g.program.bindings.items first (first + count)) j ≡ Some (bound_operand (num g) args key)
        bound_at j key h = ap (λ l. slice_get l j) are ∙ mapped_at (bound_operand (num g) args) (inner_in_outs (owner g) i) j key (ap (λ l. slice_get l j) names ∙ h)

        entry_typed : IsTypedEntry (shapes_of g.unit) g.program (shape g) (place_named v.ty g.unit) leaf 0 first count
        entry_typed = record {
          callee = types_of g.unit b.pou;
          is = mapped_at (types_of g.unit) g.unit (place_named v.ty g.unit) b.pou b.is;
          of_leaves = λ j t h.
              (let y = mapped_from (λ (y : Lying). y.1) (places_of g.unit us) j t h in
              mapped_at (λ (y : Lying). y.1) (places_of g.unit (vs g)) (leaf + j) (y.0.0 ++ in_lower_case i ∷ [], y.0.1)
              (within_place g.unit g.pou g.own i v found composite j y.0.0 y.0.1 (ap (λ ws. slice_get (places_of g.unit ws) j) (composed_block g.unit v b.pou b.user) ∙ y.1))
              ∙ ap Some y.2);
          of_memories = λ j t h. absurd (none j t h);
          of_in_outs = λ j t h.
              (let w = mapped_from in_out_type (filter (λ u. is_in_out (Some u)) us) j t h in
              let key = in_lower_case w.0.name in
              let named : slice_get (in_out_names us) j ≡ Some key = mapped_at (λ (u : Variable). in_lower_case u.name) (filter (λ u. is_in_out (Some u)) us) j w.0 w.1 in
              let bound = binding_at g.unit g.pou g.own i args r.values r.bound b.pou b.own b.inside j key named in
              (bound_operand (num g) args key, bound_at j key named, subst (IsPlacedOf (shape g) (bound_operand (num g) args key)) (same_Some bound.type t (sym bound.in_out ∙ h)) bound.typed));
        }
          where
            none : (j : ℕ) (t : Ty) → slice_get [] j ≡ Some t → ⊥
            none j t h = cc

        placed : ArePlaced g.at.body (slice_range g.program.bindings.items first (first + count))
        placed j o h =
            let x = mapped_from (bound_operand (num g) args) (inner_in_outs (owner g) i) j o (ap (λ l. slice_get l j) (sym are) ∙ h) in
            let bound = binding_at g.unit g.pou g.own i args r.values r.bound b.pou b.own b.inside j x.0 (ap (λ l. slice_get l j) (sym names) ∙ x.1) in
            good.placed_within (shapes_of g.unit) g.program (shape g) g.at.body (wires g) (frame_shape g) o bound.type (subst (λ k. IsPlacedOf (shape g) k bound.type) x.2 bound.typed)

        enters : Enters g.program g.at.body (place_named v.ty g.unit) leaf 0 first count
        enters =
            let f = b.at.frame in
            let behind = g.at.frame.behind v b.pou b.at.body b.at.entry there (is_user g.unit v b.pou b.user) b.at.is_body b.at.is_entry in
            let lower = level_below g.unit g.pou g.own v there b.pou b.user in
            let own_level = g.at.frame.level in
            let its_level = f.level in
            let own_leaves = g.at.frame.leaves in
            let its_leaves = f.leaves in
            let low = within_low g.unit g.pou g.own i v found composite in
            let same : length (places_of g.unit (composed (world g) v.ty)) ≡ length (places_of g.unit us) = ap (λ ws. length (places_of g.unit ws)) (composed_block g.unit v b.pou b.user) in
            let own_memories = g.at.frame.memories in
            let its_memories = f.memories in
            let all = stands_within g.program.bindings.items first _ stands in
            let long = length-map (inner_in_outs (owner g) i) (bound_operand (num g) args) in
            record {
              callee = b.at.body;
              is = b.at.is_body;
              level = omega arith;
              wires = behind.0;
              in_outs = behind.1;
              leaves_fit = omega arith;
              memories_fit = omega arith;
              all_bound = ap length names ∙ sym f.in_outs;
              there = omega arith;
              placed = placed;
            }

        begins : Begins g.text below (place_named v.ty g.unit)
        begins =
            let behind = g.at.frame.behind v b.pou b.at.body b.at.entry there (is_user g.unit v b.pou b.user) b.at.is_body b.at.is_entry in
            let low = behind.2 in
            record { entry = b.at.entry; is = b.at.is_entry; section = record { section = b.at.section.section; is = b.at.section.is; part = b.at.section.part; low = omega arith } }

        user_runs : Good g below (line.Call (place_named v.ty g.unit) leaf first count)
        user_runs = (entry_typed, (enters, begins))

      called_runs : (v : Variable) → variable_in (scope g) i ≡ Some v → type_named v.ty ≡ None → Each (Good g below) (called_lines (owner g) first i v)
      called_runs v found composite = by_kind (kind_named v.ty) refl
        where
          by_kind : (k : Option StdKind) → kind_named v.ty ≡ k
              → Each (Good g below) (elim k as (λ (x : Option StdKind). List Line) [ Some j ↦ line.Act (Standard j leaf) ∷ [] | None ↦ line.Call (place_named v.ty g.unit) leaf first count ∷ [] ])
          by_kind (Some k) e = (standard_runs v found composite k e, tt)
          by_kind None e = (user_runs v found composite (callee g i v found composite e), tt)

  pub call_runs : (below : ℕ) → g.at.floor ≤ below → (i : List ℕ) (args : List Argument) → CallIsReady (scope g) i args → (lines : List Line) → IsCallOf (owner g) (parts g) i args lines → Each (Good g below) lines
  call_runs below high i args r lines h =
      let v = called g i args r in
      let same : v.variable ≡ h.instance = same_Some v.variable h.instance (sym v.found ∙ h.found) in
      let taken = all_taken below i args r.values h.wire h.taken h.are_taken in
      subst (Each (Good g below)) (sym h.are_lines)
      (each_append (Good g below) h.taken _ taken.0
      (each_append (Good g below) (store_lines (num g) i h.wire args) (called_lines (owner g) h.first i h.instance) taken.1
      (subst (λ w. Each (Good g below) (called_lines (owner g) h.first i w)) same (called_runs below i high args r h.first (record { begins = h.begins; has = h.has }) v.variable v.found v.composite))))
