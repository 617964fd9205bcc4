-- The counts of turns in the meaning of a diagram never show: a network costs one turn, and the one that follows is evaluated from what is left.
use Rattle.std.proofs.Common.{◌≡◌, ◌≤◌, ℕ, zero, suc, ◌+◌, ℤ, Bool, true, false, List, [], ◌∷◌, Option, Some, None, refl, sym, ◌∙◌, subst, arith, le_refl, if◌then◌else◌, slice_get}
use Rattle.std.specs.declared.result.Result.{Result}
use Rattle.std.specs.declared.result.Result.TheVariants.{Ok, Err}
use Rattle.plcx_types.specs.declared.fault.Fault.{Fault}
use Rattle.plcx_types.specs.Name.{in_lower_case}
use Rattle.plcx_types.specs.Value.{Value}
use Rattle.plcx_std.specs.declared.kind.StdKind.{StdKind}
use Rattle.plcx_std.specs.Kind.{kind_named}
use Rattle.plcx_meaning.specs.Base.{Path, Site, is_true, Faulted, OutOfTurns, Outcome, Ended, then_do, spend}
use Rattle.plcx_meaning.specs.Layout.{variables_of, variable_named}
use Rattle.plcx_meaning.specs.Standard.{called}
use Rattle.plcx_meaning.specs.Diagram.{Link, Storing, Stored, Inverted, Set, Reset, Contacting, Open, Closed, RisingContact, FallingContact, Coiling, By, RisingCoil, FallingCoil, InputPin, InOutPin, ElementKind, Still, In, Out, Contact, Coil, Pass, Label, Jump, Return, Function, Call, Port, DiagramElement, Pou, Project, has_jump, block_named}
use Rattle.plcx_meaning.specs.Evaluate.{DiagramState, Wires, no_wires, set_leaf, store_by, contact_does, coil_does, enable_value, link_value, with_result, function_result, store_inputs, leaf_named, bind, DiagramCalls, DiagramSetting, call_does, kind_does, feed, element_does, elements_do, straight, successor, at_network, jumping, body_does, with_standard, place_named, blocks_do, program_does}
use Rattle.plcx_meaning.proofs.Turns.{Lowers, lowers_end, lowers_stop, lowers_stuck, lowers_then, lowers_more, lowers_if, lowers_found, lowers_spend, spend_zero, spend_same, then_same}

abbrev pub left : DiagramState → ℕ
left d = d.left

abbrev pub CallLowers : DiagramCalls → Type 0
CallLowers does = (type : List ℕ) (site : Site) (d : DiagramState) → Lowers left d.left (does type site d)

-- what is stored leaves the turns as they are
if_left : (b : Bool) (d e : DiagramState) → (if b then d else e).left ≡ (if b then d.left else e.left)
if_left true d e = refl
if_left false d e = refl

if_same : (b : Bool) (n : ℕ) → (if b then n else n) ≡ n
if_same true n = refl
if_same false n = refl

stored_left : (how : Storing) (p : Path) (v : ℤ) (d : DiagramState) → (store_by how p v d).left ≡ d.left
stored_left Stored p v d = refl
stored_left Inverted p v d = refl
stored_left Set p v d = if_left (is_true v) _ d ∙ if_same (is_true v) d.left
stored_left Reset p v d = if_left (is_true v) _ d ∙ if_same (is_true v) d.left

contact_left : (how : Contacting) (p : Path) (id : ℕ) (v : ℤ) (d : DiagramState) → (contact_does how p id v d).left ≡ d.left
contact_left Open p id v d = refl
contact_left Closed p id v d = refl
contact_left RisingContact p id v d = refl
contact_left FallingContact p id v d = refl

coil_left : (how : Coiling) (leaf p : Path) (id : ℕ) (v : ℤ) (d : DiagramState) → (coil_does how leaf p id v d).left ≡ d.left
coil_left (By how) leaf p id v d = stored_left how leaf v d
coil_left RisingCoil leaf p id v d = refl
coil_left FallingCoil leaf p id v d = refl

inputs_left : (inputs : List InputPin) (inner : Path) (values : Link → ℤ) (d : DiagramState) → (store_inputs inputs inner values d).left ≡ d.left
inputs_left [] inner values d = refl
inputs_left (i ∷ is) inner values d = inputs_left is inner values (set_leaf d (in_lower_case i.name ∷ inner) (values i.link))

feed_left : (id : ℕ) (ps : List Port) (path : Path) (ws : Wires) (d : DiagramState) → (feed id ps path ws d).left ≡ d.left
feed_left id [] path ws d = refl
feed_left id (p ∷ ps) path ws d = feed_left id ps path ws _

lowers_same : {L : Type 0} (d e : DiagramState) (l : L) → e.left ≡ d.left → Lowers left d.left (Ended e l)
lowers_same d e l h = lowers_end left d.left e l (omega arith)

lowers_result : {L : Type 0} (r : Result Value Fault) (d : DiagramState) (go : ℤ → Outcome DiagramState L) → ((n : ℤ) → Lowers left d.left (go n)) → Lowers left d.left (with_result r d go)
lowers_result (Ok v) d go h = h v.n
lowers_result (Err fault) d go h = lowers_stop left d.left (Faulted fault) d (le_refl _)

lowers_network : (o : Option (List DiagramElement)) (d : DiagramState) (go : List DiagramElement → Outcome DiagramState (Unit {0})) → ((network : List DiagramElement) → Lowers left d.left (go network)) → Lowers left d.left (at_network o d go)
lowers_network None d go h = lowers_end left _ d tt (le_refl _)
lowers_network (Some network) d go h = h network

network_same : (o : Option (List DiagramElement)) (d : DiagramState) (go to : List DiagramElement → Outcome DiagramState (Unit {0})) → ((network : List DiagramElement) → go network ≡ to network) → at_network o d go ≡ at_network o d to
network_same None d go to same = refl
network_same (Some network) d go to same = same network

module _ (c : DiagramSetting) (low : CallLowers c.called) where
  call_lower : (instance type : List ℕ) (v : ℤ) (inputs : List InputPin) (in_outs : List InOutPin) (values : Link → ℤ) (d : DiagramState) → Lowers left d.left (call_does instance type v inputs in_outs c values d)
  call_lower instance type v inputs in_outs values d =
      lowers_if left _ (is_true v) _ _
      (lowers_more left _ d.left _ (let h = inputs_left inputs (in_lower_case instance ∷ c.site.path) values d in omega arith)
      (low type (record { path = in_lower_case instance ∷ c.site.path; bound = bind in_outs (leaf_named c.variables c.site) }) (store_inputs inputs (in_lower_case instance ∷ c.site.path) values d)))
      (lowers_end left _ d tt (le_refl _))

  kind_lower : (k : ElementKind) (id : ℕ) (d : DiagramState) (ws : Wires) → Lowers left d.left (kind_does k id c d ws)
  kind_lower Still id d ws = lowers_same d d _ refl
  kind_lower (In t negated operand) id d ws = lowers_same d d _ refl
  kind_lower (Out how x link) id d ws = lowers_same d _ _ (stored_left how (leaf_named c.variables c.site x) (link_value c.site.path d ws link) d)
  kind_lower (Contact how operand link) id d ws = lowers_same d _ _ (contact_left how c.site.path id _ d)
  kind_lower (Coil how x link) id d ws = lowers_same d _ _ (coil_left how (leaf_named c.variables c.site x) c.site.path id (link_value c.site.path d ws link) d)
  kind_lower (Pass link) id d ws = lowers_same d d _ refl
  kind_lower (Label name) id d ws = lowers_same d d _ refl
  kind_lower (Jump label link) id d ws = lowers_same d d _ refl
  kind_lower (Return link) id d ws = lowers_same d d _ refl
  kind_lower (Function f t enable inputs negated) id d ws =
      lowers_result (function_result f t inputs (enable_value (link_value c.site.path d ws) enable) (link_value c.site.path d ws)) d _ (λ n. lowers_same d d _ refl)
  kind_lower (Call instance enable inputs in_outs outputs) id d ws =
      lowers_found left _ (variable_named (in_lower_case instance) c.variables) _ (λ v.
      lowers_then left _ _ _ (call_lower instance v.ty (enable_value (link_value c.site.path d ws) enable) inputs in_outs (link_value c.site.path d ws) d) (λ d' u le. lowers_end left _ d' _ le))

  element_lower : (e : DiagramElement) (d : DiagramState) (ws : Wires) → Lowers left d.left (element_does e c d ws)
  element_lower e d ws =
      lowers_then left _ (kind_does e.kind e.id c d ws) _ (kind_lower e.kind e.id d ws) (λ d' ws' le. lowers_end left _ _ ws' (let h = feed_left e.id e.fed c.site.path ws' d' in omega arith))

  pub elements_lower : (es : List DiagramElement) (d : DiagramState) (ws : Wires) → Lowers left d.left (elements_do es c d ws)
  elements_lower [] d ws = lowers_end left _ d ws (le_refl _)
  elements_lower (e ∷ es) d ws =
      lowers_then left _ (element_does e c d ws) _ (element_lower e d ws) (λ d' ws' le. lowers_more left d'.left d.left _ le (elements_lower es d' ws'))

  straight_lower : (networks : List (List DiagramElement)) (d : DiagramState) → Lowers left d.left (straight networks c d)
  straight_lower [] d = lowers_end left _ d tt (le_refl _)
  straight_lower (es ∷ ns) d =
      lowers_then left _ (elements_do es c d no_wires) _ (elements_lower es d no_wires) (λ d' ws le. lowers_more left d'.left d.left _ le (straight_lower ns d'))

  module _ (networks : List (List DiagramElement)) where
    jumping_lower : (n i : ℕ) (d : DiagramState) → Lowers left d.left (jumping n networks c i d)
    jumping_lower zero i d = lowers_network (slice_get networks i) d _ (λ network. lowers_stop left _ OutOfTurns d (le_refl _))
    jumping_lower (suc n) i d =
        lowers_network (slice_get networks i) d _ (λ network.
        lowers_spend left d.left d.left d _ (le_refl _) (λ j h.
        lowers_then left _ (elements_do network c (record d { left = j }) no_wires) _
        (lowers_more left j d.left _ (omega arith) (elements_lower network (record d { left = j }) no_wires))
        (λ d' ws le. lowers_more left d'.left d.left _ le (jumping_lower n (successor networks network (i + 1) ws) d'))))

    -- any two counts that are no less than the budget give one outcome
    jumping_same : (m n i : ℕ) (d : DiagramState) → d.left ≤ m → d.left ≤ n → jumping m networks c i d ≡ jumping n networks c i d
    jumping_same zero zero i d h k = refl
    jumping_same zero (suc n) i d h k = network_same (slice_get networks i) d _ _ (λ network. sym (spend_zero left d.left d _ h))
    jumping_same (suc m) zero i d h k = network_same (slice_get networks i) d _ _ (λ network. spend_zero left d.left d _ k)
    jumping_same (suc m) (suc n) i d h k =
        network_same (slice_get networks i) d _ _ (λ network.
        spend_same left d.left d _ _ (λ j le.
        then_same left j (elements_do network c (record d { left = j }) no_wires) _ _ (elements_lower network (record d { left = j }) no_wires)
        (λ d' ws le'. jumping_same m n (successor networks network (i + 1) ws) d' (omega arith) (omega arith))))

    jumping_is : (i : ℕ) (d : DiagramState)
        → jumping d.left networks c i d
        ≡ at_network (slice_get networks i) d (λ network.
        spend d.left d (λ j. then_do (elements_do network c (record d { left = j }) no_wires) (λ d' ws. jumping d'.left networks c (successor networks network (i + 1) ws) d')))
    jumping_is i d =
        jumping_same d.left (suc d.left) i d (le_refl _) (omega arith)
        ∙ network_same (slice_get networks i) d _ _ (λ network.
        spend_same left d.left d _ _ (λ j le.
        then_same left j (elements_do network c (record d { left = j }) no_wires) _ _ (elements_lower network (record d { left = j }) no_wires)
        (λ d' ws le'. jumping_same d.left d'.left (successor networks network (i + 1) ws) d' (omega arith) (le_refl _))))

  body_lower : (networks : List (List DiagramElement)) (d : DiagramState) → Lowers left d.left (body_does networks c d)
  body_lower networks d = lowers_if left _ (has_jump networks) _ _ (jumping_lower networks d.left 0 d) (straight_lower networks d)

standard_lower : (time : ℕ) (users : DiagramCalls) → CallLowers users → CallLowers (with_standard time users)
standard_lower time users low type site d = by_kind (kind_named type)
  where
    by_kind : (o : Option StdKind) → Lowers left d.left (elim o as (λ x. Outcome DiagramState (Unit {0})) [ Some k ↦ Ended (record d { store = called k time site.path d.store }) tt | None ↦ users type site d ])
    by_kind (Some k) = lowers_end left _ _ tt (le_refl _)
    by_kind None = low type site d

users_lower : (n time : ℕ) (project : Project) → CallLowers (blocks_do n time project)
users_lower zero time project type site d = lowers_stuck left _
users_lower (suc n) time project type site d =
    lowers_found left _ (block_named type project) _ (λ p.
    body_lower (record { pou = place_named p.name project; variables = variables_of p.lists; site = site; called = with_standard time (blocks_do n time project) }) (standard_lower time _ (users_lower n time project)) p.networks d)

-- the blocks of a project, however deep they lie
pub blocks_lower : (n time : ℕ) (project : Project) → CallLowers (with_standard time (blocks_do n time project))
blocks_lower n time project = standard_lower time (blocks_do n time project) (users_lower n time project)

pub program_lower : (time : ℕ) (project : Project) (p : Pou) (d : DiagramState) → Lowers left d.left (program_does time project p d)
program_lower time project p d = body_lower _ (blocks_lower 16 time project) p.networks d

-- a network of a body: where no turn is left the scan is out of turns, else one turn less is left, the network is evaluated, and then the one that follows
pub jumping_law : (n time : ℕ) (project : Project) (networks : List (List DiagramElement)) (c : DiagramSetting) → c.called ≡ with_standard time (blocks_do n time project) → (i : ℕ) (d : DiagramState)
    → jumping d.left networks c i d
    ≡ at_network (slice_get networks i) d (λ network.
    spend d.left d (λ j. then_do (elements_do network c (record d { left = j }) no_wires) (λ d' ws. jumping d'.left networks c (successor networks network (i + 1) ws) d')))
jumping_law n time project networks c e i d = jumping_is c (subst CallLowers (sym e) (blocks_lower n time project)) networks i d
