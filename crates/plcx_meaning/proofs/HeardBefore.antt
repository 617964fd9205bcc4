-- What is heard changes nothing else: each piece of a scan does the same whatever was heard before it, and that stays in front.
use mathlib.Core.Path.{fun_ext}
use Rattle.std.proofs.Common.{◌≡◌, ℕ, zero, suc, ◌+◌, ℤ, pos, Bool, true, false, List, [], ◌∷◌, Option, Some, None, map, refl, sym, ap, ap₂, ◌∙◌, subst, if◌then◌else◌, slice_get, codes}
use Rattle.std.proofs.lemmas.List.{append_assoc}
use Rattle.std.specs.declared.result.Result.{Result}
use Rattle.std.specs.declared.result.Result.TheVariants.{Ok, Err}
use Rattle.plcx_types.specs.declared.fault.Fault.{Fault}
use Rattle.plcx_types.specs.Name.{in_lower_case}
use Rattle.plcx_types.specs.Value.{Value}
use Rattle.plcx_std.specs.declared.kind.StdKind.{StdKind}
use Rattle.plcx_std.specs.Kind.{kind_named}
use Rattle.plcx_meaning.specs.Base.{Path, Site, is_true, not_if, AtEdge, Faulted, OutOfTurns, Outcome, Ended, Stopped, Stuck, then_do, spend, found}
use Rattle.plcx_meaning.specs.Layout.{variable_named}
use Rattle.plcx_meaning.specs.Standard.{called}
use Rattle.plcx_meaning.specs.Diagram.{Source, Rail, Literal, Wire, Back, Link, Storing, Stored, Inverted, Set, Reset, Contacting, Open, Closed, RisingContact, FallingContact, Coiling, By, RisingCoil, FallingCoil, eno_negated, InputPin, InOutPin, OutputPin, ElementKind, Still, In, Out, Contact, Coil, Pass, Label, Jump, Return, Function, Call, Port, ports, DiagramElement, Pou, Project, has_jump, block_named}
use Rattle.plcx_meaning.specs.Evaluate.{Heard, DiagramState, Wires, no_wires, fix, fix_eno, turn, set_leaf, set_memory, operand_leaf, source_value, or_all, link_value, store_by, contact_value, contact_does, coil_does, enable_value, with_result, function_result, store_inputs, leaf_named, bind, take_outputs, DiagramCalls, DiagramSetting, call_does, kind_does, feed, outputs_heard, hear, element_does, elements_do, straight, successor, at_network, jumping, body_does, with_standard, pou_does, blocks_do, program_does}
use Rattle.plcx_meaning.specs.Watch.{earlier, heard_earlier}

module _ (hs : List Heard) where
  -- a piece of a scan from a state, and the same from a state of which more was heard
  abbrev pub Adds : {L : Type 0} → (DiagramState → Outcome DiagramState L) → DiagramState → Type 0
  Adds does d = does (earlier hs d) ≡ heard_earlier hs (does d)

  abbrev pub CallAdds : DiagramCalls → Type 0
  CallAdds call = (type : List ℕ) (site : Site) (d : DiagramState) → Adds (call type site) d

  then_earlier : {L K : Type 0} (o p : Outcome DiagramState L) (go : DiagramState → L → Outcome DiagramState K) → p ≡ heard_earlier hs o → ((d : DiagramState) (l : L) → Adds (λ e. go e l) d) → then_do p go ≡ heard_earlier hs (then_do o go)
  then_earlier {L} {K} o p go e adds = ap then_go e ∙ by o
    where
      then_go : Outcome DiagramState L → Outcome DiagramState K
      then_go q = then_do q go

      by : (o : Outcome DiagramState L) → then_do (heard_earlier hs o) go ≡ heard_earlier hs (then_do o go)
      by (Ended d l) = adds d l
      by (Stopped s d) = refl
      by Stuck = refl

  found_earlier : {A L : Type 0} (o : Option A) (go to : A → Outcome DiagramState L) → ((x : A) → to x ≡ heard_earlier hs (go x)) → found o to ≡ heard_earlier hs (found o go)
  found_earlier None go to same = refl
  found_earlier (Some x) go to same = same x

  if_earlier : {L : Type 0} (b : Bool) (o p o' p' : Outcome DiagramState L) → o' ≡ heard_earlier hs o → p' ≡ heard_earlier hs p → (if b then o' else p') ≡ heard_earlier hs (if b then o else p)
  if_earlier true o p o' p' h k = h
  if_earlier false o p o' p' h k = k

  spend_earlier : {L : Type 0} (n : ℕ) (d : DiagramState) (go to : ℕ → Outcome DiagramState L) → ((m : ℕ) → to m ≡ heard_earlier hs (go m)) → spend n (earlier hs d) to ≡ heard_earlier hs (spend n d go)
  spend_earlier zero d go to same = refl
  spend_earlier (suc n) d go to same = same n

  network_earlier : (o : Option (List DiagramElement)) (d : DiagramState) (go to : List DiagramElement → Outcome DiagramState (Unit {0})) → ((network : List DiagramElement) → to network ≡ heard_earlier hs (go network))
      → at_network o (earlier hs d) to ≡ heard_earlier hs (at_network o d go)
  network_earlier None d go to same = refl
  network_earlier (Some network) d go to same = same network

  result_earlier : {L : Type 0} (r : Result Value Fault) (d : DiagramState) (go : ℤ → L) → with_result r (earlier hs d) (λ n. Ended (earlier hs d) (go n)) ≡ heard_earlier hs (with_result r d (λ n. Ended d (go n)))
  result_earlier (Ok v) d go = refl
  result_earlier (Err fault) d go = refl

  -- what is read does not depend on it
  source_same : (path : Path) (d : DiagramState) (ws : Wires) (s : Source) → source_value path (earlier hs d) ws s ≡ source_value path d ws s
  source_same path d ws Rail = refl
  source_same path d ws (Literal negated n) = refl
  source_same path d ws (Wire id pin) = refl
  source_same path d ws (Back id pin) = refl

  links_same : (path : Path) (d : DiagramState) (ws : Wires) → link_value path (earlier hs d) ws ≡ link_value path d ws
  links_same path d ws = ap links (fun_ext (source_same path d ws))
    where
      links : (Source → ℤ) → Link → ℤ
      links values link = not_if link.negated (or_all (values link.first) (map values link.others))

  outputs_same : (given : List OutputPin) (id : ℕ) (inner : Path) (d : DiagramState) (ws : Wires) → take_outputs given id inner (earlier hs d) ws ≡ take_outputs given id inner d ws
  outputs_same [] id inner d ws = refl
  outputs_same (o ∷ given) id inner d ws = outputs_same given id inner d (fix ws id o.name (not_if o.negated (d.store (in_lower_case o.name ∷ inner))))

  -- and what is stored leaves it
  if_stored : (b : Bool) (d e : DiagramState) → (if b then earlier hs d else earlier hs e) ≡ earlier hs (if b then d else e)
  if_stored true d e = refl
  if_stored false d e = refl

  store_earlier : (how : Storing) (p : Path) (v : ℤ) (d : DiagramState) → store_by how p v (earlier hs d) ≡ earlier hs (store_by how p v d)
  store_earlier Stored p v d = refl
  store_earlier Inverted p v d = refl
  store_earlier Set p v d = if_stored (is_true v) (set_leaf d p (pos 1)) d
  store_earlier Reset p v d = if_stored (is_true v) (set_leaf d p (pos 0)) d

  contact_earlier : (how : Contacting) (p : Path) (id : ℕ) (v : ℤ) (d : DiagramState) → contact_does how p id v (earlier hs d) ≡ earlier hs (contact_does how p id v d)
  contact_earlier Open p id v d = refl
  contact_earlier Closed p id v d = refl
  contact_earlier RisingContact p id v d = refl
  contact_earlier FallingContact p id v d = refl

  coil_earlier : (how : Coiling) (leaf p : Path) (id : ℕ) (v : ℤ) (d : DiagramState) → coil_does how leaf p id v (earlier hs d) ≡ earlier hs (coil_does how leaf p id v d)
  coil_earlier (By how) leaf p id v d = store_earlier how leaf v d
  coil_earlier RisingCoil leaf p id v d = refl
  coil_earlier FallingCoil leaf p id v d = refl

  inputs_earlier : (inputs : List InputPin) (inner : Path) (values : Link → ℤ) (d : DiagramState) → store_inputs inputs inner values (earlier hs d) ≡ earlier hs (store_inputs inputs inner values d)
  inputs_earlier [] inner values d = refl
  inputs_earlier (i ∷ is) inner values d = inputs_earlier is inner values (set_leaf d (in_lower_case i.name ∷ inner) (values i.link))

  feed_earlier : (id : ℕ) (fed : List Port) (path : Path) (ws : Wires) (d : DiagramState) → feed id fed path ws (earlier hs d) ≡ earlier hs (feed id fed path ws d)
  feed_earlier id [] path ws d = refl
  feed_earlier id (p ∷ fed) path ws d = feed_earlier id fed path ws (set_memory d path (Rattle.plcx_meaning.specs.Base.AtOutput id p.pin) (ws id p.pin))

  hear_earlier : (more : List Heard) (d : DiagramState) → hear more (earlier hs d) ≡ earlier hs (hear more d)
  hear_earlier more d = ap (λ all. record d { heard = all }) (append_assoc hs d.heard more)

  module _ (c : DiagramSetting) (adds : CallAdds c.called) where
    call_earlier : (instance type : List ℕ) (v : ℤ) (inputs : List InputPin) (in_outs : List InOutPin) (values : Link → ℤ) (d : DiagramState) → Adds (call_does instance type v inputs in_outs c values) d
    call_earlier instance type v inputs in_outs values d =
        let inner : Site = record { path = in_lower_case instance ∷ c.site.path; bound = bind in_outs (leaf_named c.variables c.site) } in
        if_earlier (is_true v) _ _ _ _
        (ap (c.called type inner) (inputs_earlier inputs (in_lower_case instance ∷ c.site.path) values d) ∙ adds type inner (store_inputs inputs (in_lower_case instance ∷ c.site.path) values d))
        refl

    -- an element, whose links have equal values
    kind_by : (k : ElementKind) (id : ℕ) (d : DiagramState) (ws : Wires) → link_value c.site.path (earlier hs d) ws ≡ link_value c.site.path d ws → Adds (λ e. kind_does k id c e ws) d
    kind_by Still id d ws e = refl
    kind_by (In t negated operand) id d ws e = refl
    kind_by (Out how x link) id d ws e =
        ap (λ v. Ended (store_by how (leaf_named c.variables c.site x) v (earlier hs d)) ws) (ap (λ f. f link) e)
        ∙ ap (λ g. Ended g ws) (store_earlier how (leaf_named c.variables c.site x) (link_value c.site.path d ws link) d)
    kind_by (Contact how operand link) id d ws e =
        let leaf = operand_leaf c.variables c.site operand in
        ap₂ (λ g v. Ended g (fix ws id [] (contact_value how v (d.store leaf) (d.memories c.site.path (AtEdge id)))))
        (contact_earlier how c.site.path id (d.store leaf) d) (ap (λ f. f link) e)
    kind_by (Coil how x link) id d ws e =
        let leaf = leaf_named c.variables c.site x in
        ap (λ v. Ended (coil_does how leaf c.site.path id v (earlier hs d)) (fix ws id [] v)) (ap (λ f. f link) e)
        ∙ ap (λ g. Ended g (fix ws id [] (link_value c.site.path d ws link))) (coil_earlier how leaf c.site.path id (link_value c.site.path d ws link) d)
    kind_by (Pass link) id d ws e = ap (λ v. Ended (earlier hs d) (fix ws id [] v)) (ap (λ f. f link) e)
    kind_by (Label name) id d ws e = refl
    kind_by (Jump label link) id d ws e = ap (λ v. Ended (earlier hs d) (fix ws id [] v)) (ap (λ f. f link) e)
    kind_by (Return link) id d ws e = ap (λ v. Ended (earlier hs d) (fix ws id [] v)) (ap (λ f. f link) e)
    kind_by (Function f t enable inputs negated) id d ws e =
        ap (λ (vs : Link → ℤ). with_result (function_result f t inputs (enable_value vs enable) vs) (earlier hs d) (λ n.
        Ended (earlier hs d) (turn negated id (codes "OUT") (turn (eno_negated enable) id (codes "ENO") (fix (fix_eno enable id (enable_value vs enable) ws) id (codes "OUT") n))))) e
        ∙ result_earlier (function_result f t inputs (enable_value (link_value c.site.path d ws) enable) (link_value c.site.path d ws)) d _
    kind_by (Call instance enable inputs in_outs outputs) id d ws e =
        let values = link_value c.site.path d ws in
        let inner : Path = in_lower_case instance ∷ c.site.path in
        let v = enable_value values enable in
        ap (λ (vs : Link → ℤ). found (variable_named (in_lower_case instance) c.variables) (λ x.
        then_do (call_does instance x.ty (enable_value vs enable) inputs in_outs c vs (earlier hs d)) (λ d' u.
        Ended d' (turn (eno_negated enable) id (codes "ENO") (take_outputs outputs id inner d' (fix_eno enable id (enable_value vs enable) ws)))))) e
        ∙ found_earlier (variable_named (in_lower_case instance) c.variables) (λ x. then_do (call_does instance x.ty v inputs in_outs c values d) (gives v)) (λ x. then_do (call_does instance x.ty v inputs in_outs c values (earlier hs d)) (gives v)) (λ x.
        then_earlier _ _ (gives v) (call_earlier instance x.ty v inputs in_outs values d) (λ d' u.
        ap (λ ws'. Ended (earlier hs d') (turn (eno_negated enable) id (codes "ENO") ws')) (outputs_same outputs id inner d' (fix_eno enable id v ws))))
      where
        gives : ℤ → DiagramState → Unit {0} → Outcome DiagramState Wires
        gives v d' u = Ended d' (turn (eno_negated enable) id (codes "ENO") (take_outputs outputs id (in_lower_case instance ∷ c.site.path) d' (fix_eno enable id v ws)))

    kind_earlier : (k : ElementKind) (id : ℕ) (d : DiagramState) (ws : Wires) → Adds (λ e. kind_does k id c e ws) d
    kind_earlier k id d ws = kind_by k id d ws (links_same c.site.path d ws)

    element_earlier : (e : DiagramElement) (d : DiagramState) (ws : Wires) → Adds (λ g. element_does e c g ws) d
    element_earlier e d ws =
        then_earlier _ _ _ (kind_earlier e.kind e.id d ws) (λ d' ws'.
        let more = outputs_heard c.pou e.id 0 (ports e.kind) ws' in
        ap (λ g. Ended (hear more g) ws') (feed_earlier e.id e.fed c.site.path ws' d') ∙ ap (λ g. Ended g ws') (hear_earlier more (feed e.id e.fed c.site.path ws' d')))

    pub elements_earlier : (es : List DiagramElement) (d : DiagramState) (ws : Wires) → Adds (λ g. elements_do es c g ws) d
    elements_earlier [] d ws = refl
    elements_earlier (e ∷ es) d ws = then_earlier _ _ _ (element_earlier e d ws) (λ d' ws'. elements_earlier es d' ws')

    straight_earlier : (networks : List (List DiagramElement)) (d : DiagramState) → Adds (straight networks c) d
    straight_earlier [] d = refl
    straight_earlier (es ∷ networks) d = then_earlier _ _ _ (elements_earlier es d no_wires) (λ d' ws. straight_earlier networks d')

    jumping_earlier : (networks : List (List DiagramElement)) (n i : ℕ) (d : DiagramState) → Adds (jumping n networks c i) d
    jumping_earlier networks zero i d = network_earlier (slice_get networks i) d _ _ (λ network. refl)
    jumping_earlier networks (suc n) i d =
        network_earlier (slice_get networks i) d _ _ (λ network.
        spend_earlier d.left d _ _ (λ left.
        then_earlier _ _ _ (elements_earlier network (record d { left = left }) no_wires) (λ d' ws. jumping_earlier networks n (successor networks network (i + 1) ws) d')))

    body_earlier : (networks : List (List DiagramElement)) (d : DiagramState) → Adds (body_does networks c) d
    body_earlier networks d = if_earlier (has_jump networks) _ _ _ _ (jumping_earlier networks d.left 0 d) (straight_earlier networks d)

  standard_earlier : (time : ℕ) (users : DiagramCalls) → CallAdds users → CallAdds (with_standard time users)
  standard_earlier time users adds type site d = by_kind (kind_named type)
    where
      by_kind : (o : Option StdKind)
          → elim o as (λ x. Outcome DiagramState (Unit {0})) [ Some k ↦ Ended (earlier hs (record d { store = called k time site.path d.store })) tt | None ↦ users type site (earlier hs d) ]
          ≡ heard_earlier hs (elim o as (λ x. Outcome DiagramState (Unit {0})) [ Some k ↦ Ended (record d { store = called k time site.path d.store }) tt | None ↦ users type site d ])
      by_kind (Some k) = refl
      by_kind None = adds type site d

  pou_earlier : (project : Project) (call : DiagramCalls) → CallAdds call → (p : Pou) (site : Site) (d : DiagramState) → Adds (pou_does project call p site) d
  pou_earlier project call adds p site d = body_earlier _ adds p.networks d

  users_earlier : (n time : ℕ) (project : Project) → CallAdds (blocks_do n time project)
  users_earlier zero time project type site d = refl
  users_earlier (suc n) time project type site d = found_earlier (block_named type project) _ _ (λ p. pou_earlier project _ (standard_earlier time _ (users_earlier n time project)) p site d)

  pub blocks_earlier : (n time : ℕ) (project : Project) → CallAdds (with_standard time (blocks_do n time project))
  blocks_earlier n time project = standard_earlier time (blocks_do n time project) (users_earlier n time project)

  pub program_earlier : (time : ℕ) (project : Project) (p : Pou) (d : DiagramState) → Adds (program_does time project p) d
  program_earlier time project p d = pou_earlier project _ (blocks_earlier 16 time project) p _ d

-- elements, wherever they stand in a project
pub elements_law : (n time : ℕ) (project : Project) (c : DiagramSetting) → c.called ≡ with_standard time (blocks_do n time project) → (es : List DiagramElement) (hs : List Heard) (d : DiagramState) (ws : Wires)
    → elements_do es c (earlier hs d) ws ≡ heard_earlier hs (elements_do es c d ws)
elements_law n time project c e es hs d ws = elements_earlier hs c (subst (CallAdds hs) (sym e) (blocks_earlier hs n time project)) es d ws
