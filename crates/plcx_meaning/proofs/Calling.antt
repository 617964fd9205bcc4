-- A call of an instance: the text does what the diagram does.
use mathlib.Core.Path.{fun_ext}
use Rattle.std.proofs.Common.{◌≡◌, ℕ, ℤ, ◌<◌, ◌^◌, Bool, true, false, List, [], ◌∷◌, ◌++◌, Option, Some, None, map, refl, sym, ap, ◌∙◌, subst, if◌then◌else◌}
use Rattle.std.specs.Str.{bytes_eq}
use Rattle.std.proofs.lemmas.Bool.{and_parts, and_from}
use Rattle.plcx_types.specs.declared.ty.Ty.TheVariants as ty
use Rattle.plcx_types.specs.Name.{in_lower_case}
use Rattle.plcx_funcs.specs.Applied.{value}
use Rattle.plcx_types.specs.Lists.{Each}
use Rattle.plcx_meaning.specs.Base.{Path, is_declared, is_true, not_if, put, Outcome, Ended, then_do, found, Site}
use Rattle.plcx_meaning.specs.Tree.{Expression, Name, Member, Statement, Assign, If, Argument, statements}
use Rattle.plcx_meaning.specs.Tree as tree
use Rattle.plcx_meaning.specs.Layout.{Variable, variable_named}
use Rattle.plcx_meaning.specs.Functions.{Given}
use Rattle.plcx_meaning.specs.Diagram.{Enable, has_eno, eno_negated, eno_ports, output_ports, Link, InputPin, InOutPin, OutputPin, Port, port}
use Rattle.plcx_meaning.specs.Evaluate.{DiagramState, Wires, DiagramCalls, DiagramSetting, fix, fix_eno, turn, enable_value, link_value, leaf_named, set_leaf, store_inputs, take_outputs, call_does}
use Rattle.plcx_meaning.specs.Evaluate as diagram
use Rattle.plcx_meaning.specs.Execute as text
use Rattle.plcx_meaning.specs.Execute.{Temporary, Instance, TextSetting, referent_of, TextState, Frame, hold, value_of, TextCalls, type_of_instance, all_bound, parts_named, store_arguments, statement_runs, statements_run, list_runs, call_runs}
use Rattle.plcx_meaning.specs.Templates.{wire_name, wire, link_text, eno_text, enabled, turned_if, input_text, in_out_text, output_text}
use Rattle.plcx_meaning.specs.Same.{Agree, IsDeclared}
use Rattle.plcx_meaning.specs.Fits.{is_fresh}
use Rattle.plcx_meaning.proofs.Alike.{Alike, both_end, alike_then, alike_as, alike_from}
use Rattle.plcx_meaning.proofs.Asked.{EnableAsked, InputAsked, InOutAsked, OutputAsked, CallAsked, SameWires, CallsAlike}
use Rattle.plcx_meaning.proofs.Agree.{agree_set, wires_fix}
use Rattle.plcx_meaning.proofs.FunctionValues.{same_type}
use Rattle.plcx_meaning.proofs.Links.{assign_temporary, negated_known, wire_known, link_known}
use Rattle.plcx_meaning.proofs.Simple.{held}
use Rattle.plcx_meaning.proofs.Enabling.{eno, eno_held, eno_fixed, eno_wires, eno_fresh, eno_runs, turn_alike, negated_listed, alike_weaker, each_split, of_eno, connected_eno, unconnected_true}
use Rattle.plcx_meaning.proofs.BodiesSteps.{then_ended, run_append}

-- a declared name at a declared path
pub declared_join : (x : List ℕ) (p : Path) → is_declared (x ∷ []) ≡ true → is_declared p ≡ true → is_declared (x ∷ p) ≡ true
declared_join x p one rest = and_from _ _ (and_parts _ _ one).0 rest

one_of : (b : Bool) (p q : Path) → is_declared p ≡ true → is_declared q ≡ true → is_declared (if b then p else q) ≡ true
one_of true p q h k = h
one_of false p q h k = k

module _ (c : TextSetting) (vs : List Variable) (instance : List ℕ) where
  -- both sides bind the in-outs to the same leaves
  outs_bound : (bound : List InOutPin) → Each (InOutAsked c vs instance) bound → (key : List ℕ) → text.bind (map in_out_text bound) c instance key ≡ diagram.bind bound (leaf_named vs c.site) key
  outs_bound [] asked key = refl
  outs_bound (o ∷ bound) asked key =
      let rest = outs_bound bound asked.1 key in
      rw (asked.0.formal) (ap (λ p. if bytes_eq (in_lower_case o.name) key then p else text.bind (map in_out_text bound) c instance key) asked.0.variable.leaf
      ∙ ap (λ p. if bytes_eq (in_lower_case o.name) key then leaf_named vs c.site o.variable else p) rest)

  same_bound : (done : List (ℕ × Port)) (taken : List InputPin) (bound : List InOutPin) → Each (InputAsked c done instance) taken → Each (InOutAsked c vs instance) bound
      → (key : List ℕ) → text.bind (map input_text taken ++ map in_out_text bound) c instance key ≡ diagram.bind bound (leaf_named vs c.site) key
  same_bound done [] bound asked outs key = outs_bound bound outs key
  same_bound done (i ∷ taken) bound asked outs key = rw (asked.0.formal) (same_bound done taken bound asked.1 outs key)

  bound_declared : (bound : List InOutPin) → Each (InOutAsked c vs instance) bound → (key : List ℕ) → is_declared (diagram.bind bound (leaf_named vs c.site) key) ≡ true
  bound_declared [] asked key = refl
  bound_declared (o ∷ bound) asked key = one_of (bytes_eq (in_lower_case o.name) key) (leaf_named vs c.site o.variable) (diagram.bind bound (leaf_named vs c.site) key) asked.0.variable.declared (bound_declared bound asked.1 key)

  -- the in-outs store nothing
  outs_stored : (bound : List InOutPin) → Each (InOutAsked c vs instance) bound → (old : TextState) (f : Frame) (g : TextState) (go : TextState → Outcome TextState Frame) → store_arguments (map in_out_text bound) c instance old f g go ≡ go g
  outs_stored [] asked old f g go = refl
  outs_stored (o ∷ bound) asked old f g go = rw (asked.0.formal, asked.0.variable.has) (outs_stored bound asked.1 old f g go)

  module _ (site : IsDeclared c.site) (own : is_declared (in_lower_case instance ∷ []) ≡ true) (done : List (ℕ × Port)) (d : DiagramState) (ws : Wires) (g : TextState) (f : Frame) (a : Agree d g) (same : SameWires done ws f) where
    abbrev inner : Path
    inner = in_lower_case instance ∷ c.site.path

    -- the inputs are stored on both sides, in the state before the call
    inputs_alike : {L : Type 0} {R : L → Frame → Type 0} (taken : List InputPin) (more : List Argument) → Each (InputAsked c done instance) taken → (d1 : DiagramState) (g1 : TextState) → Agree d1 g1
        → (next : DiagramState → Outcome DiagramState L) (go : TextState → Outcome TextState Frame) → ((d' : DiagramState) (g' : TextState) → Agree d' g' → Alike R (next d') (store_arguments more c instance g f g' go))
        → Alike R (next (store_inputs taken (in_lower_case instance ∷ c.site.path) (link_value c.site.path d ws) d1)) (store_arguments (map input_text taken ++ more) c instance g f g1 go)
    inputs_alike [] more asked d1 g1 a1 next go h = h d1 g1 a1
    inputs_alike (i ∷ taken) more asked d1 g1 a1 next go h =
        let v = link_value c.site.path d ws i.link in
        let p = in_lower_case i.name ∷ in_lower_case instance ∷ c.site.path in
        let known = link_known c site done d ws g f a same i.link asked.0.link in
        let step : store_arguments (map input_text (i ∷ taken) ++ more) c instance g f g1 go ≡ store_arguments (map input_text taken ++ more) c instance g f (record g1 { store = put g1.store p v }) go =
        rw (asked.0.formal, known, same_type i.link.ty) in
        alike_as _ _ step
        (inputs_alike taken more asked.1 (set_leaf d1 p v) (record g1 { store = put g1.store p v })
        (agree_set d1 g1 p v (declared_join (in_lower_case i.name) (in_lower_case instance ∷ c.site.path) asked.0.declared (declared_join (in_lower_case instance) c.site.path own site.path)) a1) next go h)

-- an item behind others comes before them
each_forward : {A : Type 0} (P : A → Type 0) (xs : List A) (y : A) (ys : List A) → Each P (xs ++ (y ∷ ys)) → Each P (y ∷ (xs ++ ys))
each_forward P [] y ys all = all
each_forward P (x ∷ xs) y ys all = let rest = each_forward P xs y ys all.1 in (rest.0, (all.0, rest.1))

-- the temporary of ENO just behind its assignment
eno_now : (b : Bool) → b ≡ true → (id : ℕ) (v : ℤ) (f : Frame) → eno_held b id v f (in_lower_case (wire_name id eno)) ≡ v
eno_now true h id v f = held f (wire_name id eno) v
eno_now false h id v f = absurd (cc)

eno_among : (b : Bool) (id : ℕ) (outs done : List (ℕ × Port)) (ws : Wires) (f : Frame) → SameWires (outs ++ (eno_fixed b id ++ done)) ws f → b ≡ true → ws id eno ≡ f (in_lower_case (wire_name id eno))
eno_among true id outs done ws f same h = (each_forward _ outs (id, port eno ty.Bool) done same).0
eno_among false id outs done ws f same h = absurd (cc)

-- ENO before the other outputs
eno_first : (enable : Enable) (id : ℕ) (outs : List Port) (done : List (ℕ × Port)) (ws : Wires) (f : Frame) → SameWires (map (λ (o : Port). (id, o)) outs ++ (eno_fixed (has_eno enable) id ++ done)) ws f
    → SameWires (map (λ (o : Port). (id, o)) (eno_ports enable ++ outs) ++ done) ws f
eno_first enable id outs done ws f same = by (has_eno enable) same
  where
    by : (b : Bool) → SameWires (map (λ (o : Port). (id, o)) outs ++ (eno_fixed b id ++ done)) ws f → SameWires (map (λ (o : Port). (id, o)) ((if b then port eno ty.Bool ∷ [] else []) ++ outs) ++ done) ws f
    by true s = each_forward _ (map (λ (o : Port). (id, o)) outs) (id, port eno ty.Bool) done s
    by false s = s

-- the frame of the caller stays
abbrev pub Stays : Frame → Unit {0} → Frame → Type 0
Stays f u h = h ≡ f

module _ (c : TextSetting) (pou : ℕ) (vs : List Variable) (called : DiagramCalls) (call : TextCalls) (site : IsDeclared c.site) (calls : CallsAlike vs called call) where
  abbrev setting : DiagramSetting
  setting = record { pou = pou; variables = vs; site = c.site; called = called }

  module _ (instance : List ℕ) (taken : List InputPin) (bound : List InOutPin) (given : List OutputPin) (done : List (ℕ × Port)) (asked : CallAsked c vs done instance taken bound given) where
    abbrev arguments : List Argument
    arguments = map input_text taken ++ map in_out_text bound

    abbrev inner_site : Site
    inner_site = record { path = in_lower_case instance ∷ c.site.path; bound = diagram.bind bound (leaf_named vs c.site) }

    inner_declared : IsDeclared inner_site
    inner_declared = record { path = declared_join (in_lower_case instance) c.site.path asked.declared site.path; bound = bound_declared c vs instance bound asked.in_outs }

    invoked_alike : (d : DiagramState) (ws : Wires) (g : TextState) (f : Frame) → Agree d g → SameWires done ws f
        → Alike (Stays f) (called asked.variable.ty inner_site (store_inputs taken (in_lower_case instance ∷ c.site.path) (link_value c.site.path d ws) d)) (call_runs instance arguments c call g f)
    invoked_alike d ws g f a same =
        let type = asked.variable.ty in
        let go : TextState → Outcome TextState Frame = λ h. then_do (call type (record { path = in_lower_case instance ∷ c.site.path; bound = text.bind arguments c instance }) h) (λ k u. Ended k f) in
        let bounds : text.bind arguments c instance ≡ diagram.bind bound (leaf_named vs c.site) = fun_ext (λ key. same_bound c vs instance done taken bound asked.inputs asked.in_outs key) in
        let step : call_runs instance arguments c call g f ≡ store_arguments arguments c instance g f g go = rw (asked.place, asked.all) in
        alike_as _ _ step
        (inputs_alike c vs instance site asked.declared done d ws g f a same taken (map in_out_text bound) asked.inputs d g a (λ d'. called type inner_site d') go
        (λ d' g' a'. alike_as _ _ (outs_stored c vs instance bound asked.in_outs g f g' go ∙ ap (λ b. then_do (call type (record { path = in_lower_case instance ∷ c.site.path; bound = b }) g') (λ k u. Ended k f)) bounds)
        (alike_from _ _ (sym (then_ended (called type inner_site d')))
        (alike_then _ _ _ _ (calls instance asked.variable asked.found asked.composite inner_site inner_declared d' g' a') (λ d2 u g2 v a2 n. both_end a2 refl)))))

    -- under EN
    called_by : (b : Bool) (d : DiagramState) (ws : Wires) (g : TextState) (f : Frame) → Agree d g → SameWires done ws f
        → Alike (Stays f) (if b then called asked.variable.ty inner_site (store_inputs taken (in_lower_case instance ∷ c.site.path) (link_value c.site.path d ws) d) else Ended d tt)
        (if b then statements_run (statements (tree.Call instance arguments ∷ [])) c call g f else Ended g f)
    called_by true d ws g f a same = alike_as _ _ (then_ended _) (invoked_alike d ws g f a same)
    called_by false d ws g f a same = both_end a refl

    enabled_alike : (en : Option Link) (listed : Option Bool) (id : ℕ) (v : ℤ) (d : DiagramState) (ws : Wires) (g : TextState) (f : Frame) → Agree d g → SameWires done ws f
        → (en ≡ None → is_true v ≡ true) → ((link : Link) → en ≡ Some link → value_of (wire id eno) c g.store f ≡ Given (value ty.Bool v))
        → Alike (Stays f) (call_does instance asked.variable.ty v taken bound setting (link_value c.site.path d ws) d) (statement_runs (enabled id (record { en = en; eno = listed }) (tree.Call instance arguments)) c call g f)
    enabled_alike (Some link) listed id v d ws g f a same off known =
        let test : statement_runs (If (wire id eno) (statements (tree.Call instance arguments ∷ []))) c call g f ≡ (if is_true v then statements_run (statements (tree.Call instance arguments ∷ [])) c call g f else Ended g f) = rw (known link refl) in
        alike_as _ _ test (called_by (is_true v) d ws g f a same)
    enabled_alike None listed id v d ws g f a same off known =
        alike_from _ _ (ap (λ b. if b then called asked.variable.ty inner_site (store_inputs taken (in_lower_case instance ∷ c.site.path) (link_value c.site.path d ws) d) else Ended d tt) (off refl))
        (invoked_alike d ws g f a same)

  -- the stored outputs on their wires
  outputs_alike : (instance : List ℕ) → is_declared (in_lower_case instance ∷ []) ≡ true → (id : ℕ) → id < 2 ^ 64 → (given : List OutputPin) → Each (OutputAsked c instance) given → Each (λ (o : Port). referent_of c (wire_name id o.pin) ≡ Temporary o.ty) (output_ports given)
      → (done : List (ℕ × Port)) (d : DiagramState) (ws : Wires) (g : TextState) (f : Frame) → Agree d g → SameWires done ws f
      → Alike (SameWires (map (λ (o : Port). (id, o)) (output_ports given) ++ done)) (Ended d (take_outputs given id (in_lower_case instance ∷ c.site.path) d ws)) (list_runs (map (output_text id instance) given) c call g f)
  outputs_alike instance own id small [] asked places done d ws g f a same = both_end a same
  outputs_alike instance own id small (o ∷ given) asked places done d ws g f a same =
      let p = in_lower_case o.name ∷ in_lower_case instance ∷ c.site.path in
      let declared = declared_join (in_lower_case o.name) (in_lower_case instance ∷ c.site.path) asked.0.declared (declared_join (in_lower_case instance) c.site.path own site.path) in
      let stored : value_of (Member instance o.name) c g.store f ≡ Given (value o.ty (d.store p)) = asked.0.reads p g.store ∙ ap (λ n. Given (value o.ty n)) (sym (a.stores p declared)) in
      let n = not_if o.negated (d.store p) in
      let known = negated_known c g.store f o.negated (Member instance o.name) o.ty (d.store p) asked.0.negated stored in
      let first = assign_temporary c call g f (wire_name id o.name) (Rattle.plcx_meaning.specs.Templates.not_if o.negated (Member instance o.name)) o.ty n places.0 known in
      alike_as _ _ (ap (λ q. then_do q (list_runs (map (output_text id instance) given) c call)) first)
      (alike_weaker _ _
      (outputs_alike instance own id small given asked.1 places.1 ((id, port o.name o.ty) ∷ done) d (fix ws id o.name n) g (hold f (wire_name id o.name) n) a (wires_fix id small (port o.name o.ty) n done ws f same))
      (λ ws' f' same'. each_forward _ (map (λ (q : Port). (id, q)) (output_ports given)) (id, port o.name o.ty) done same'))

  pub call_alike : (instance : List ℕ) (enable : Enable) (taken : List InputPin) (bound : List InOutPin) (given : List OutputPin) (id : ℕ) → id < 2 ^ 64 → (done : List (ℕ × Port)) → is_fresh id done ≡ true
      → CallAsked c vs done instance taken bound given → EnableAsked c done enable → Each (λ (o : Port). referent_of c (wire_name id o.pin) ≡ Temporary o.ty) (eno_ports enable ++ output_ports given)
      → (d : DiagramState) (ws : Wires) (g : TextState) (f : Frame) → Agree d g → SameWires done ws f
      → Alike (SameWires (map (λ (o : Port). (id, o)) (eno_ports enable ++ output_ports given) ++ done))
      (found (variable_named (in_lower_case instance) vs) (λ v.
      then_do (call_does instance v.ty (enable_value (link_value c.site.path d ws) enable) taken bound setting (link_value c.site.path d ws) d) (λ d' u.
      Ended d' (turn (eno_negated enable) id eno (take_outputs given id (in_lower_case instance ∷ c.site.path) d' (fix_eno enable id (enable_value (link_value c.site.path d ws) enable) ws))))))
      (list_runs (eno_text id enable ++ (enabled id enable (tree.Call instance (map input_text taken ++ map in_out_text bound)) ∷ (map (output_text id instance) given ++ turned_if (eno_negated enable) id eno))) c call g f)
  call_alike instance enable taken bound given id small done fresh asked enabling places d ws g f a same =
      let values = link_value c.site.path d ws in
      let v = enable_value values enable in
      let b = has_eno enable in
      let f1 = eno_held b id v f in
      let ws1 = fix_eno enable id v ws in
      let P : Port → Type 0 = λ o. referent_of c (wire_name id o.pin) ≡ Temporary o.ty in
      let parts = each_split P (eno_ports enable) (output_ports given) places in
      let same1 : SameWires (eno_fixed b id ++ done) ws1 f1 = eno_wires b id small v done ws f same in
      let fresh1 : SameWires done ws f1 = eno_fresh b id small v done ws f fresh same in
      let first = eno_runs c call enable id values g f (of_eno P b parts.0) (λ link h. link_known c site done d ws g f a same link (enabling link h).0 ∙ ap (λ u. Given (value u (values link))) (enabling link h).1) in
      let last = map (output_text id instance) given ++ turned_if (eno_negated enable) id eno in
      let it = enabled id enable (tree.Call instance (map input_text taken ++ map in_out_text bound)) in
      let text_is : list_runs (eno_text id enable ++ (it ∷ last)) c call g f ≡ then_do (statement_runs it c call g f1) (list_runs last c call) = run_append (eno_text id enable) (it ∷ last) c call g f ∙ ap (λ q. then_do q (list_runs (it ∷ last) c call)) first in
      let known_eno : (link : Link) → enable.en ≡ Some link → value_of (wire id eno) c g.store f1 ≡ Given (value ty.Bool v) = λ link h.
      wire_known c g.store f1 id eno ty.Bool (of_eno P b parts.0 (connected_eno enable link h)) ∙ ap (λ n. Given (value ty.Bool n)) (eno_now b (connected_eno enable link h) id v f) in
      let D = map (λ (o : Port). (id, o)) (output_ports given) ++ (eno_fixed b id ++ done) in
      alike_from _ _ (ap (λ o. found o (λ w.
      then_do (call_does instance w.ty v taken bound setting values d) (λ d' u. Ended d' (turn (eno_negated enable) id eno (take_outputs given id (in_lower_case instance ∷ c.site.path) d' ws1))))) asked.found)
      (alike_as _ _ text_is
      (alike_then _ _ _ _
      (enabled_alike instance taken bound given done asked enable.en enable.eno id v d ws g f1 a fresh1 (unconnected_true values enable) known_eno)
      (λ d' u g' h a' stays.
      subst (λ k. Alike (SameWires (map (λ (o : Port). (id, o)) (eno_ports enable ++ output_ports given) ++ done)) (Ended d' (turn (eno_negated enable) id eno (take_outputs given id (in_lower_case instance ∷ c.site.path) d' ws1))) (list_runs last c call g' k)) (sym stays)
      (alike_as _ _ (run_append (map (output_text id instance) given) (turned_if (eno_negated enable) id eno) c call g' f1)
      (alike_weaker _ _
      (alike_then (Ended d' (take_outputs given id (in_lower_case instance ∷ c.site.path) d' ws1)) _ (λ d2 ws2. Ended d2 (turn (eno_negated enable) id eno ws2)) _
      (outputs_alike instance asked.declared id small given asked.outputs parts.1 (eno_fixed b id ++ done) d' ws1 g' f1 a' same1)
      (λ d2 ws2 g2 f2 a2 same2. turn_alike c call (eno_negated enable) id small eno D d2 ws2 g2 f2 a2 same2
      (λ h2. let there = negated_listed enable h2 in (of_eno P b parts.0 there, eno_among b id (map (λ (o : Port). (id, o)) (output_ports given)) done ws2 f2 same2 there))))
      (λ ws2 f2 same2. eno_first enable id (output_ports given) done ws2 f2 same2))))))
