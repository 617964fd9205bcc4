-- Calls of instances: inputs, the call itself, and outputs.
use Rattle.std.proofs.Common.{◌≡◌, ℕ, zero, suc, ◌+◌, ◌≤◌, ℤ, pos, Bool, true, false, List, [], ◌∷◌, ◌++◌, length, set, map, Option, Some, None, refl, sym, ap, ◌∙◌, subst, arith}
use Rattle.std.specs.Prelude.{slice_get, slice_range, slice_index_or, codes, if◌then◌else◌}
use Rattle.std.proofs.lemmas.List.{length-set, length-map}
use Rattle.std.proofs.lemmas.Option.{same_Some}
use Rattle.plcx_types.specs.Name.{in_lower_case}
use Rattle.plcx_types.specs.Lists.{Each}
use Rattle.plcx_types.specs.Value.{Value}
use Rattle.plcx_std.specs.declared.kind.StdKind.{StdKind}
use Rattle.plcx_std.specs.Kind.{kind_named}
use Rattle.plcx_meaning.specs.Base.{Path, is_true, not_of, not_if, Outcome, Ended, Stopped, Stuck, then_do, found, Site}
use Rattle.plcx_meaning.specs.Layout.{Variable, variable_named}
use Rattle.plcx_meaning.specs.Standard.{called as called_at}
use Rattle.plcx_meaning.specs.Diagram.{Link, Enable, eno_negated, InputPin, InOutPin, OutputPin}
use Rattle.plcx_meaning.specs.Evaluate.{Heard, DiagramState, Wires, fix, set_leaf, leaf_named, link_value, enable_value, fix_eno, turn, store_inputs, bind, take_outputs, DiagramCalls, DiagramSetting, call_does}
use Rattle.plcx_steps.specs.declared.program.Operand.TheVariants.{Leaf}
use Rattle.plcx_steps.specs.declared.program.Source.TheVariants.{Variable as Read}
use Rattle.plcx_steps.specs.declared.program.Action.TheVariants.{Fix, Write, Not}
use Rattle.plcx_steps.specs.declared.program.Step.{Step}
use Rattle.plcx_steps.specs.declared.program.Step.TheVariants.{Act}
use Rattle.plcx_steps.specs.declared.program.Instance.{Instance}
use Rattle.plcx_steps.specs.Numbered.{Numbered, Here, Entered, Frame, frame, bit, value_at, number_at, cells_of, source_at, read, leaf_at, within, bound_at, standard_at, steps_do}
use Rattle.plcx_numbered.specs.Agreeing.{AreApart, Shape, IsApart, Lies, Agree, SameInOuts, SameWires, Alike, Nothing}
use Rattle.plcx_numbered.specs.Prepared.{Callee, Block, User, not_steps, link_steps, link_source, enable_steps, enabled, eno_steps, input_steps, bound_variable, call_steps, bindings, output_steps, under, called_steps}
use Rattle.plcx_numbered.specs.Right.{Place, variables, IsWire, IsInner, RightLink, IsBound, IsUser, instance_at, RightCallee, RightCall, HasAt}
use Rattle.plcx_numbered.proofs.Holding.{agree_set}
use Rattle.plcx_numbered.proofs.Alikes.{both_end, alike_then, alike_as, alike_from, then_then, steps_append}
use Rattle.plcx_numbered.proofs.Links.{SameMemories, brought}
use Rattle.plcx_numbered.proofs.Simple.{InFrame, operand_at, wired}
use Rattle.plcx_numbered.proofs.Functions.{negated_has_eno, enabling, Wired, wired_then, spare_other, turned, eno}
use Rattle.plcx_numbered.proofs.Blocks.{standard_agree}

-- where the block of an instance is evaluated
abbrev pub inner_site : Site → List ℕ → (List ℕ → Path) → Site
inner_site site instance bound = record { path = in_lower_case instance ∷ site.path; bound = bound }

-- a standard block takes one step
abbrev pub StepsStandard : ℕ → DiagramCalls → Type 0
StepsStandard time called = (type : List ℕ) (k : StdKind) (site : Site) (d : DiagramState) → kind_named type ≡ Some k → called type site d ≡ Ended (record d { store = called_at k time site.path d.store }) tt

-- how the blocks of a POU's instances are evaluated on both sides
abbrev pub CallsAlike : {M : Type 0} → Shape → (M → Heard → M) → M → Place → Site → DiagramCalls → Here → Entered M → Type 0
CallsAlike {M} whole tell begun c site called here enter =
    (instance : List ℕ) (in_outs : List InOutPin) (pou : ℕ) (inner : Instance) (names : List (List ℕ)) (u : IsUser c instance in_outs pou inner names) (bound : List ℕ → Path) (slots : List ℕ) → SameInOuts whole u.plan.in_outs bound slots
    → (d : DiagramState) (n : Numbered M) → Agree whole tell begun d n
    → Alike whole tell begun (Nothing {K = Unit {0}}) (called u.variable.ty (inner_site site instance bound) d) (enter pou (within here.at inner.leaves inner.memories) slots n)

module _ {M : Type 0} (whole : Shape) (apart : IsApart whole) (tell : M → Heard → M) (begun : M) (enter : Entered M) (c : Place) (pins_apart : AreApart c.pins) (spare : length c.pins ≤ c.num.spare) (site : Site) (here : Here)
    (lies : Lies whole c.plan.shape site.path here.at) (same_in_outs : SameInOuts whole c.plan.in_outs site.bound here.in_outs)
    (place : ℕ) (called : DiagramCalls) (time : ℕ) (now : here.time ≡ pos time) (standard : StepsStandard time called) (calls : CallsAlike whole tell begun c site called here enter) where
  abbrev pub setting : DiagramSetting
  setting = record { pou = place; variables = variables c; site = site; called = called }

  -- the wires are as they were, in their number, and the first spare one has this value
  abbrev Still : Wires → ℕ → ℤ → Frame → Type 0
  Still ws width e f = InFrame c ws width f × (number_at f.wires c.num.spare ≡ e)

  -- a call's inputs, whose values are those before the first is stored
  inputs_alike : (instance : List ℕ) (inputs : List InputPin) → Each (λ (i : InputPin). IsInner c instance i.name × RightLink c i.link) inputs → (old d : DiagramState) (ws : Wires) (n : Numbered M) (own : List Value) (width : ℕ) (e : ℤ)
      → SameMemories whole old n → SameWires c.pins ws own → Agree whole tell begun d n → c.num.spare + 2 ≤ length own → length own ≡ width → number_at own c.num.spare ≡ e
      → Alike whole tell begun (λ (u : Unit {0}) f. Still ws width e f) (Ended (store_inputs inputs (in_lower_case instance ∷ site.path) (link_value site.path old ws) d) tt) (steps_do tell enter here (input_steps c.num instance inputs) n (frame 0 own))
  inputs_alike instance [] h old d ws n own width e mem same a room w is = both_end a (record { skip = refl; wires = same; width_is = w }, is)
  inputs_alike instance (i ∷ is) h old d ws n own width e mem same a room w spare_is =
      let b = brought whole tell enter c spare site here lies old n ws mem (c.num.spare + 1) (omega arith) i.link h.0.1 own same (omega arith) in
      let wide = b.width in
      let v = source_at here (cells_of n b.after) (link_source c.num (c.num.spare + 1) i.link) in
      let leaf = here.at.leaves + c.num.inner instance i.name in
      let path = in_lower_case i.name ∷ in_lower_case instance ∷ site.path in
      alike_as _ _
      (steps_append tell enter here (link_steps c.num (c.num.spare + 1) i.link) (Act (Write (Leaf (c.num.inner instance i.name)) (link_source c.num (c.num.spare + 1) i.link)) ∷ input_steps c.num instance is) n (frame 0 own)
      ∙ ap (λ q. then_do q (λ n' f'. steps_do tell enter here (Act (Write (Leaf (c.num.inner instance i.name)) (link_source c.num (c.num.spare + 1) i.link)) ∷ input_steps c.num instance is) n' f')) b.does)
      (inputs_alike instance is h.1 old (set_leaf d path (link_value site.path old ws i.link)) ws (record n { values = set n.values leaf v }) b.after width e mem b.same
      (agree_set whole apart tell begun d n path leaf _ v (lies.paths (c.num.inner instance i.name) (in_lower_case i.name ∷ in_lower_case instance ∷ []) h.0.0) (sym b.value) a) (omega arith) (b.width ∙ w)
      (b.others c.num.spare (λ k. let k' : c.num.spare ≡ c.num.spare + 1 = k in omega arith) ∙ spare_is))

  -- what a callee's in-outs are bound to
  bound_same : (in_outs : List InOutPin) (names : List (List ℕ)) → Each (IsBound c in_outs) names → (j : ℕ) (x : List ℕ) → slice_get names j ≡ Some x
      → slice_get whole.paths (slice_index_or (map (leaf_at here.at here.in_outs) (map (λ key. c.num.operand (bound_variable in_outs key)) names)) j 0) ≡ Some (bind in_outs (leaf_named (variables c) site) x)
  bound_same in_outs [] h j x there = absurd (cc)
  bound_same in_outs (k ∷ ks) h zero x there =
      operand_at whole apart tell begun enter c pins_apart spare site here lies same_in_outs (bound_variable in_outs k) h.0.operand
      ∙ ap Some (sym (h.0.is (leaf_named (variables c) site)))
      ∙ ap (λ y. Some (bind in_outs (leaf_named (variables c) site) y)) (same_Some k x there)
  bound_same in_outs (k ∷ ks) h (suc j) x there = bound_same in_outs ks h.1 j x there

  bound_names : (in_outs : List InOutPin) (names names' : List (List ℕ)) → names ≡ names' → Each (IsBound c in_outs) names
      → SameInOuts whole names' (bind in_outs (leaf_named (variables c) site)) (map (leaf_at here.at here.in_outs) (map (λ key. c.num.operand (bound_variable in_outs key)) names))
  bound_names in_outs names names' e h = record { each = λ j x there. bound_same in_outs names h j x (ap (λ ns. slice_get ns j) e ∙ there) }

  -- the call itself
  callee_alike : (instance : List ℕ) (in_outs : List InOutPin) (callee : Callee) → RightCallee c instance in_outs callee → (first : ℕ) → HasAt here.program.bindings.items first (bindings c.num callee in_outs)
      → (v : Variable) → variable_named (in_lower_case instance) (variables c) ≡ Some v → (d : DiagramState) (n : Numbered M) (ws : Wires) (own : List Value) (width : ℕ) (e : ℤ) → Agree whole tell begun d n → Still ws width e (frame 0 own)
      → Alike whole tell begun (λ (u : Unit {0}) f. Still ws width e f) (called v.ty (inner_site site instance (bind in_outs (leaf_named (variables c) site))) d) (steps_do tell enter here (call_steps callee first) n (frame 0 own))
  callee_alike instance in_outs (Block k leaf) h first has v v_is d n ws own width e a still =
      let same_v : h.variable ≡ v = same_Some h.variable v (sym h.found ∙ v_is) in
      let p = in_lower_case instance ∷ site.path in
      let agree = standard_agree whole apart tell begun k time p (here.at.leaves + leaf) (λ i q there. ap (slice_get whole.paths) (let s : here.at.leaves + leaf + i ≡ here.at.leaves + (leaf + i) = omega arith in s) ∙ lies.paths (leaf + i) (in_lower_case q.name ∷ in_lower_case instance ∷ []) (h.leaves i q there)) d n a in
      alike_from _ _ (standard v.ty k (inner_site site instance (bind in_outs (leaf_named (variables c) site))) d (ap (λ (u : Variable). kind_named u.ty) (sym same_v) ∙ h.kind))
      (both_end (subst (λ t. Agree whole tell begun (record d { store = called_at k time p d.store }) (record n { values = standard_at k t (here.at.leaves + leaf) n.values })) (sym now) agree) still)
  callee_alike instance in_outs (User pou leaves memories names) h first has v v_is d n ws own width e a still =
      let same_v : h.variable ≡ v = same_Some h.variable v (sym h.found ∙ v_is) in
      let slots = map (leaf_at here.at here.in_outs) (map (λ key. c.num.operand (bound_variable in_outs key)) names) in
      let bound : bound_at here first (length names) ≡ slots = ap (λ k. map (leaf_at here.at here.in_outs) (slice_range here.program.bindings.items first (first + k))) (sym (length-map names (λ key. c.num.operand (bound_variable in_outs key)))) ∙ ap (map (leaf_at here.at here.in_outs)) has in
      alike_from _ _ (ap (λ (u : Variable). called u.ty (inner_site site instance (bind in_outs (leaf_named (variables c) site))) d) (sym same_v))
      (alike_as _ _ (ap (λ bs. then_do (then_do (enter pou (within here.at leaves memories) bs n) (λ n' u. Ended n' (frame 0 own))) (λ n' f'. Ended n' f')) bound ∙ then_then (enter pou (within here.at leaves memories) slots n) (λ n' u. Ended n' (frame 0 own)) (λ n' f'. Ended n' f'))
      (alike_then' _ _ (calls instance in_outs pou (instance_at leaves memories) names h (bind in_outs (leaf_named (variables c) site)) slots (bound_names in_outs names h.plan.in_outs h.names h.bound_to) d n a) still))
    where
      alike_then' : (o : Outcome DiagramState (Unit {0})) (q : Outcome (Numbered M) (Unit {0})) → Alike whole tell begun (Nothing {K = Unit {0}}) o q → Still ws width e (frame 0 own)
          → Alike whole tell begun (λ (u : Unit {0}) f. Still ws width e f) o (then_do q (λ n' u. Ended n' (frame 0 own)))
      alike_then' (Ended d' l) (Ended n' k) x s = both_end x.is.0 s
      alike_then' (Stopped r d') (Stopped r' n') x s = record { is = x.is }
      alike_then' (Ended d' l) (Stopped r n') x s = absurd x.is
      alike_then' (Ended d' l) Stuck x s = absurd x.is
      alike_then' (Stopped r d') (Ended n' k) x s = absurd x.is
      alike_then' (Stopped r d') Stuck x s = absurd x.is
      alike_then' Stuck q x s = absurd x.is

  -- inputs and call
  core_alike : (instance : List ℕ) (inputs : List InputPin) (in_outs : List InOutPin) → Each (λ (i : InputPin). IsInner c instance i.name × RightLink c i.link) inputs → RightCallee c instance in_outs (c.num.callee instance)
      → (first : ℕ) → HasAt here.program.bindings.items first (bindings c.num (c.num.callee instance) in_outs) → (v : Variable) → variable_named (in_lower_case instance) (variables c) ≡ Some v
      → (d : DiagramState) (n : Numbered M) (ws : Wires) (own : List Value) → Agree whole tell begun d n → SameWires c.pins ws own → c.num.spare + 2 ≤ length own
      → Alike whole tell begun (λ (u : Unit {0}) f. Still ws (length own) (number_at own c.num.spare) f)
      (called v.ty (inner_site site instance (bind in_outs (leaf_named (variables c) site))) (store_inputs inputs (in_lower_case instance ∷ site.path) (link_value site.path d ws) d))
      (steps_do tell enter here (input_steps c.num instance inputs ++ call_steps (c.num.callee instance) first) n (frame 0 own))
  core_alike instance inputs in_outs right callee first has v v_is d n ws own a same room =
      alike_as _ _ (steps_append tell enter here (input_steps c.num instance inputs) (call_steps (c.num.callee instance) first) n (frame 0 own))
      (alike_then (Ended (store_inputs inputs (in_lower_case instance ∷ site.path) (link_value site.path d ws) d) tt) _
      (λ d1 (u : Unit {0}). called v.ty (inner_site site instance (bind in_outs (leaf_named (variables c) site))) d1) _
      (inputs_alike instance inputs right d d ws n own (length own) (number_at own c.num.spare) a.memories same a room refl refl)
      (λ d1 u n1 f a1 s.
      alike_as _ _ (ap (λ k. steps_do tell enter here (call_steps (c.num.callee instance) first) n1 (frame k f.wires)) s.0.skip)
      (callee_alike instance in_outs (c.num.callee instance) callee first has v v_is d1 n1 ws f.wires (length own) (number_at own c.num.spare) a1 (record { skip = refl; wires = s.0.wires; width_is = s.0.width_is }, s.1))))

  -- steps that are passed over do nothing
  pass_over : (ss : List Step) (n : Numbered M) (own : List Value) → steps_do tell enter here ss n (frame (length ss) own) ≡ Ended n (frame 0 own)
  pass_over [] n own = refl
  pass_over (s ∷ ss) n own = pass_over ss n own

  -- the same under EN
  under_alike : (enable : Enable) (steps : List Step) (o : Outcome DiagramState (Unit {0})) (v : ℤ) (d : DiagramState) (n : Numbered M) (ws : Wires) (own : List Value) → Agree whole tell begun d n → SameWires c.pins ws own
      → read here (cells_of n own) (enabled c.num enable) ≡ v → Alike whole tell begun (λ (u : Unit {0}) f. Still ws (length own) (number_at own c.num.spare) f) o (steps_do tell enter here steps n (frame 0 own))
      → Alike whole tell begun (λ (u : Unit {0}) f. Still ws (length own) (number_at own c.num.spare) f) (if is_true v then o else Ended d tt) (steps_do tell enter here (under c.num enable steps) n (frame 0 own))
  under_alike enable steps o v d n ws own a same is h = by_en enable.en enable.eno is
    where
      by_test : (b : Bool) → Alike whole tell begun (λ (u : Unit {0}) f. Still ws (length own) (number_at own c.num.spare) f) (if b then o else Ended d tt) (steps_do tell enter here steps n (frame (if b then 0 else length steps) own))
      by_test true = h
      by_test false = alike_as _ _ (pass_over steps n own) (both_end a (record { skip = refl; wires = same; width_is = refl }, refl))

      by_en : (en : Option Link) (o' : Option Bool) → read here (cells_of n own) (enabled c.num (record { en = en; eno = o' })) ≡ v
          → Alike whole tell begun (λ (u : Unit {0}) f. Still ws (length own) (number_at own c.num.spare) f) (if is_true v then o else Ended d tt) (steps_do tell enter here (under c.num (record { en = en; eno = o' }) steps) n (frame 0 own))
      by_en None o' e = alike_from _ _ (ap (λ y. if is_true y then o else Ended d tt) (sym e)) h
      by_en (Some link) o' e = alike_from _ _ (ap (λ y. if is_true y then o else Ended d tt) (sym e)) (by_test (is_true (number_at own c.num.spare)))

  -- its wires are the stored outputs
  outputs_wired : (instance : List ℕ) (id : ℕ) (outputs : List OutputPin) → Each (λ (o : OutputPin). IsInner c instance o.name × IsWire c id o.name) outputs → (d : DiagramState) (n : Numbered M) (ws : Wires) (own : List Value) → Agree whole tell begun d n → SameWires c.pins ws own
      → Wired whole apart tell begun enter c pins_apart spare site here lies same_in_outs (take_outputs outputs id (in_lower_case instance ∷ site.path) d ws) n own (output_steps c.num instance id outputs)
  outputs_wired instance id [] h d n ws own a same = record { after = own; does = refl; same = same; width = refl; spare_stays = refl }
  outputs_wired instance id (o ∷ os) h d n ws own a same =
      wired_then whole apart tell begun enter c pins_apart spare site here lies same_in_outs (fix ws id o.name (not_if o.negated stored)) _ n own (one o.negated ∷ []) (output_steps c.num instance id os) (by_test o.negated)
      (outputs_wired instance id os h.1 d n (fix ws id o.name (not_if o.negated stored)) _ a (Wired.same (by_test o.negated)))
    where
      stored : ℤ
      stored = d.store (in_lower_case o.name ∷ in_lower_case instance ∷ site.path)

      leaf : ℕ
      leaf = here.at.leaves + c.num.inner instance o.name

      is : stored ≡ number_at n.values leaf
      is = a.store.each leaf (in_lower_case o.name ∷ in_lower_case instance ∷ site.path) (lies.paths (c.num.inner instance o.name) (in_lower_case o.name ∷ in_lower_case instance ∷ []) h.0.0)

      one : Bool → Step
      one b = if b then Act (Not (Read (Leaf (c.num.inner instance o.name))) (c.num.wire id o.name)) else Act (Fix (Read (Leaf (c.num.inner instance o.name))) (c.num.wire id o.name))

      by_test : (b : Bool) → Wired whole apart tell begun enter c pins_apart spare site here lies same_in_outs (fix ws id o.name (not_if b stored)) n own (one b ∷ [])
      by_test false = record {
        after = set own (c.num.wire id o.name) (value_at n.values leaf);
        does = refl;
        same = wired whole apart tell begun enter c pins_apart spare site here lies same_in_outs ws own id o.name stored (value_at n.values leaf) h.0.1 is same;
        width = length-set own (c.num.wire id o.name) (value_at n.values leaf);
        spare_stays = spare_other whole apart tell begun enter c pins_apart spare site here lies same_in_outs own id o.name (value_at n.values leaf) h.0.1;
      }
      by_test true =
          let x = bit (not_of (number_at n.values leaf)) in
          record {
            after = set own (c.num.wire id o.name) x;
            does = refl;
            same = wired whole apart tell begun enter c pins_apart spare site here lies same_in_outs ws own id o.name (not_of stored) x h.0.1 (ap not_of is) same;
            width = length-set own (c.num.wire id o.name) x;
            spare_stays = spare_other whole apart tell begun enter c pins_apart spare site here lies same_in_outs own id o.name x h.0.1;
          }

  pub call_alike : (instance : List ℕ) (enable : Enable) (inputs : List InputPin) (in_outs : List InOutPin) (outputs : List OutputPin) (id first : ℕ) → RightCall c instance enable inputs in_outs outputs id
      → HasAt here.program.bindings.items first (bindings c.num (c.num.callee instance) in_outs) → (d : DiagramState) (n : Numbered M) (ws : Wires) (own : List Value) → Agree whole tell begun d n → SameWires c.pins ws own → c.num.spare + 2 ≤ length own
      → Alike whole tell begun (λ ws' f. InFrame c ws' (length own) f)
      (found (variable_named (in_lower_case instance) (variables c)) (λ (v : Variable).
      then_do (call_does instance v.ty (enable_value (link_value site.path d ws) enable) inputs in_outs setting (link_value site.path d ws) d) (λ d' u.
      Ended d' (turn (eno_negated enable) id (codes "ENO") (take_outputs outputs id (in_lower_case instance ∷ site.path) d' (fix_eno enable id (enable_value (link_value site.path d ws) enable) ws))))))
      (steps_do tell enter here (called_steps c.num first instance enable inputs outputs id) n (frame 0 own))
  call_alike instance enable inputs in_outs outputs id first h has d n ws own a same room =
      let u = variable_of (c.num.callee instance) h.called in
      let v = enable_value (link_value site.path d ws) enable in
      let p = in_lower_case instance ∷ site.path in
      let core = input_steps c.num instance inputs ++ call_steps (c.num.callee instance) first in
      let last = output_steps c.num instance id outputs ++ not_steps (eno_negated enable) (c.num.wire id (codes "ENO")) in
      let E = enabling whole apart tell begun enter c pins_apart spare site here lies same_in_outs id enable h.enabling d n ws own a.memories same (omega arith) in
      let wide = E.width in
      alike_from _ _ (ap (λ o. found o (λ (w : Variable). then_do (call_does instance w.ty v inputs in_outs setting (link_value site.path d ws) d) (λ d' u. Ended d' (turn (eno_negated enable) id (codes "ENO") (take_outputs outputs id p d' (fix_eno enable id v ws)))))) u.1)
      (alike_as _ _
      (steps_append tell enter here (enable_steps c.num enable) (under c.num enable core ++ (eno_steps c.num id enable ++ last)) n (frame 0 own)
      ∙ ap (λ q. then_do q (λ n' f'. steps_do tell enter here (under c.num enable core ++ (eno_steps c.num id enable ++ last)) n' f')) E.does
      ∙ steps_append tell enter here (under c.num enable core) (eno_steps c.num id enable ++ last) n (frame 0 E.after))
      (alike_then _ _ _ _
      (under_alike enable core _ v d n ws E.after a E.same (E.reads n E.after refl)
      (core_alike instance inputs in_outs h.are_inputs h.called first has u.0 u.1 d n ws E.after a E.same (omega arith)))
      (λ d' x n' f' a' s.
      let W1 = eno whole apart tell begun enter c pins_apart spare site here lies same_in_outs id enable h.enabling v n' ws f'.wires s.0.wires (E.reads n' f'.wires s.1) in
      let W2 = outputs_wired instance id outputs h.are_outputs d' n' (fix_eno enable id v ws) W1.after a' W1.same in
      let W3 = turned whole apart tell begun enter c pins_apart spare site here lies same_in_outs (eno_negated enable) id (codes "ENO") (λ e. h.enabling.eno (negated_has_eno enable e)) n' _ W2.after W2.same in
      let W = wired_then whole apart tell begun enter c pins_apart spare site here lies same_in_outs _ _ n' f'.wires _ _ W1 (wired_then whole apart tell begun enter c pins_apart spare site here lies same_in_outs _ _ n' W1.after _ _ W2 W3) in
      alike_as _ _ (ap (λ k. steps_do tell enter here (eno_steps c.num id enable ++ last) n' (frame k f'.wires)) s.0.skip ∙ W.does)
      (both_end a' (record { skip = refl; wires = W.same; width_is = W.width ∙ s.0.width_is ∙ E.width })))))
    where
      variable_of : (callee : Callee) → RightCallee c instance in_outs callee → (v : Variable) × (variable_named (in_lower_case instance) (variables c) ≡ Some v)
      variable_of (Block k leaf) r = (r.variable, r.found)
      variable_of (User pou leaves memories names) r = (r.variable, r.found)
