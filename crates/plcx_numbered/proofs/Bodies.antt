-- Networks, bodies and nested blocks: over numbers as over paths.
use Rattle.std.proofs.Common.{◌≡◌, ℕ, zero, suc, ◌+◌, ◌<◌, pos, Bool, true, false, List, [], ◌∷◌, length, Option, Some, None, refl, sym, ap, ap₂, ◌∙◌, arith, ◌⊎◌, inl, inr}
use Rattle.std.specs.Prelude.{slice_get, if◌then◌else◌}
use Rattle.std.specs.List.{AllZip}
use Rattle.plcx_types.specs.Name.{in_lower_case}
use Rattle.plcx_types.specs.Value.{Value}
use Rattle.plcx_std.specs.Kind.{kind_named}
use Rattle.plcx_meaning.specs.Base.{Path, is_true, OutOfTurns, Outcome, Ended, Stopped, then_do, spend, found, Site, top}
use Rattle.plcx_meaning.specs.Layout.{Variable, variables_of}
use Rattle.plcx_meaning.specs.Standard.{called as called_at}
use Rattle.plcx_meaning.specs.Diagram as diagram
use Rattle.plcx_meaning.specs.Diagram.{DiagramElement, Project, has_jump, block_named, InOutPin}
use Rattle.plcx_meaning.specs.Evaluate.{Heard, DiagramState, Wires, no_wires, DiagramCalls, DiagramSetting, elements_do, straight, leads_to, chosen, successor, at_network, jumping, body_does, with_standard, pou_does, blocks_do, program_does}
use Rattle.plcx_steps.specs.declared.program.Jump.{Jump as Leap}
use Rattle.plcx_steps.specs.declared.program.Network.{Network}
use Rattle.plcx_steps.specs.declared.program.Body.{Body}
use Rattle.plcx_steps.specs.declared.program.Program.{Program}
use Rattle.plcx_steps.specs.declared.program.Instance.{Instance}
use Rattle.plcx_steps.specs.Numbered.{Numbered, frame, number_at, within, Entered, Here, here_at, steps_do, follow, network_does, straight as straight_at, at_network as at_place, jumping as jumping_at, body_does as body_at, bodies_do}
use Rattle.plcx_numbered.specs.Agreeing.{Shape, IsApart, Lies, Agree, SameWires, SameInOuts, Alike, Nothing}
use Rattle.plcx_numbered.specs.Right.{Plan, Place, lead, leaps, IsLeap, place, IsNetwork, IsBody, IsPrepared}
use Rattle.plcx_numbered.proofs.Holding.{no_wires_same, agree_left, lies_within}
use Rattle.plcx_numbered.proofs.Alikes.{both_end, both_stop, alike_then, alike_as, alike_from, alike_spend, then_then}
use Rattle.plcx_numbered.proofs.Simple.{InFrame}
use Rattle.plcx_numbered.proofs.Calling.{inner_site, StepsStandard}
use Rattle.plcx_numbered.proofs.Elements.{elements_alike}

-- the first jump that is TRUE
follow_at : (c : Place) (ws : Wires) (own : List Value) → SameWires c.pins ws own → (id : ℕ) (o : Option ℕ) (rest : List (ℕ × ℕ)) (js : List Leap) (next to : ℕ)
    → ((ks : List Leap) → AllZip (IsLeap c) rest ks → to ≡ follow ks next own) → AllZip (IsLeap c) (lead id o rest) js → chosen o (ws id []) to ≡ follow js next own
follow_at c ws own same id None rest js next to more h = more js h
follow_at c ws own same id (Some n) rest [] next to more h = absurd h
follow_at c ws own same id (Some n) rest (j ∷ js) next to more h =
    ap (λ v. if is_true v then n else to) (same.each (c.num.wire id []) (id, []) h.0.1 ∙ ap (number_at own) h.0.2)
    ∙ ap₂ (λ m t. if is_true (number_at own j.wire) then m else t) h.0.0 (more js h.1)

follow_alike : (c : Place) (ws : Wires) (own : List Value) → SameWires c.pins ws own → (networks : List (List DiagramElement)) (es : List DiagramElement) (js : List Leap) (next : ℕ) → AllZip (IsLeap c) (leaps networks es) js
    → successor networks es next ws ≡ follow js next own
follow_alike c ws own same networks [] [] next h = refl
follow_alike c ws own same networks [] (j ∷ js) next h = absurd h
follow_alike c ws own same networks (e ∷ es) js next h =
    follow_at c ws own same e.id (leads_to networks e.kind) (leaps networks es) js next (successor networks es next ws) (λ ks k. follow_alike c ws own same networks es ks next k) h

at_pair : {A B : Type 0} (R : A → B → Type 0) (xs : List A) (ys : List B) (i : ℕ) → AllZip R xs ys → ((slice_get xs i ≡ None) × (slice_get ys i ≡ None)) ⊎ ((x : A) × (y : B) × (slice_get xs i ≡ Some x) × (slice_get ys i ≡ Some y) × R x y)
at_pair R [] [] i h = inl (refl, refl)
at_pair R [] (y ∷ ys) i h = absurd h
at_pair R (x ∷ xs) [] i h = absurd h
at_pair R (x ∷ xs) (y ∷ ys) zero h = inr (x, y, refl, refl, h.0)
at_pair R (x ∷ xs) (y ∷ ys) (suc i) h = at_pair R xs ys i h.1

-- how the blocks of a plan's instances are evaluated on both sides, whatever the network
abbrev BlocksAlike : {M : Type 0} → Shape → (M → Heard → M) → M → Project → List Plan → Plan → Site → DiagramCalls → Instance → Entered M → Type 0
BlocksAlike {M} whole tell begun project plans plan site called at enter =
    (instance : List ℕ) (variable : Variable) (callee : Plan) (k : ℕ) (inner : Instance) → kind_named variable.ty ≡ None → slice_get plans k ≡ Some callee → block_named variable.ty project ≡ Some callee.pou → callee.level < plan.level
    → Lies plan.shape callee.shape (in_lower_case instance ∷ []) inner → (bound : List ℕ → Path) (slots : List ℕ) → SameInOuts whole callee.in_outs bound slots → (d : DiagramState) (n : Numbered M) → Agree whole tell begun d n
    → Alike whole tell begun (Nothing {K = Unit {0}}) (called variable.ty (inner_site site instance bound) d) (enter k (within at inner.leaves inner.memories) slots n)

module _ {M : Type 0} (whole : Shape) (apart : IsApart whole) (tell : M → Heard → M) (begun : M) (project : Project) (plans : List Plan) (program : Program) (plan : Plan) (k : ℕ) (site : Site) (called : DiagramCalls) (time : ℕ) (at : Instance) (in_outs : List ℕ) (enter : Entered M)
    (lies : Lies whole plan.shape site.path at) (same_in_outs : SameInOuts whole plan.in_outs site.bound in_outs) (standard : StepsStandard time called) (blocks : BlocksAlike whole tell begun project plans plan site called at enter) where
  abbrev here : Here
  here = here_at program (pos time) k at in_outs

  abbrev setting : DiagramSetting
  setting = record { pou = k; variables = variables_of plan.pou.lists; site = site; called = called }

  -- one network with its wires
  wires_alike : (es : List DiagramElement) (network : Network) (h : IsNetwork program project plans plan es network) (d : DiagramState) (n : Numbered M) → Agree whole tell begun d n
      → Alike whole tell begun (λ ws f. InFrame (place project plans plan h.num h.pins (length network.wires.items)) ws (length network.wires.items) f) (elements_do es setting d no_wires) (steps_do tell enter here network.steps.items n (frame 0 network.wires.items))
  wires_alike es network h d n a =
      alike_as _ _ (ap (λ ss. steps_do tell enter here ss n (frame 0 network.wires.items)) h.steps)
      (elements_alike whole apart tell begun enter (place project plans plan h.num h.pins (length network.wires.items)) h.apart h.spare site here lies same_in_outs called time refl standard
      (λ instance bound_pins pou inner names u bound slots same d n a. blocks instance u.variable u.plan pou inner u.user u.is_plan u.block u.level u.lies bound slots same d n a)
      es h.argument h.binding h.right h.arguments h.bindings d no_wires n (frame 0 network.wires.items) a
      (record { skip = refl; wires = no_wires_same h.pins network.wires.items h.room h.zeros; width_is = refl }))

  straight_alike : (networks : List (List DiagramElement)) (code : List Network) → AllZip (IsNetwork program project plans plan) networks code → (d : DiagramState) (n : Numbered M) → Agree whole tell begun d n
      → Alike whole tell begun (Nothing {K = Unit {0}}) (straight networks setting d) (straight_at tell enter here code n)
  straight_alike [] [] h d n a = both_end a tt
  straight_alike [] (c ∷ cs) h d n a = absurd h
  straight_alike (es ∷ networks) [] h d n a = absurd h
  straight_alike (es ∷ networks) (c ∷ cs) h d n a =
      alike_as _ _ (then_then (steps_do tell enter here c.steps.items n (frame 0 c.wires.items)) (λ n' f. Ended n' (follow c.jumps.items 0 f.wires)) (λ n' next. straight_at tell enter here cs n'))
      (alike_then _ _ _ _ (wires_alike es c h.0 d n a) (λ d' ws n' f a' same. straight_alike networks cs h.1 d' n' a'))

  abbrev rest_of : ℕ → ℕ → DiagramState → List DiagramElement → ℕ → Outcome DiagramState (Unit {0})
  rest_of fuel i d es left = then_do (elements_do es setting (record d { left = left }) no_wires) (λ d' ws. jumping fuel plan.pou.networks setting (successor plan.pou.networks es (i + 1) ws) d')

  abbrev turn_of : ℕ → ℕ → DiagramState → List DiagramElement → Outcome DiagramState (Unit {0})
  turn_of fuel i d es = spend d.left d (rest_of fuel i d es)

  abbrev rest_at : ℕ → List Network → ℕ → Numbered M → Network → ℕ → Outcome (Numbered M) (Unit {0})
  rest_at fuel code i n c left = then_do (network_does tell enter here c (i + 1) (record n { left = left })) (λ n' next. jumping_at fuel tell enter here code next n')

  abbrev turn_at : ℕ → List Network → ℕ → Numbered M → Network → Outcome (Numbered M) (Unit {0})
  turn_at fuel code i n c = spend n.left n (rest_at fuel code i n c)

  -- one turn, whatever follows at the next network
  turn_alike : (es : List DiagramElement) (c : Network) → IsNetwork program project plans plan es c → (next : ℕ) (d : DiagramState) (n : Numbered M) → Agree whole tell begun d n → (f : ℕ → DiagramState → Outcome DiagramState (Unit {0})) (g : ℕ → Numbered M → Outcome (Numbered M) (Unit {0}))
      → ((j : ℕ) (d' : DiagramState) (n' : Numbered M) → Agree whole tell begun d' n' → Alike whole tell begun (Nothing {K = Unit {0}}) (f j d') (g j n'))
      → Alike whole tell begun (Nothing {K = Unit {0}}) (then_do (elements_do es setting d no_wires) (λ d' ws. f (successor plan.pou.networks es next ws) d')) (then_do (network_does tell enter here c next n) (λ n' j. g j n'))
  turn_alike es c h next d n a f g go =
      alike_as _ _ (then_then (steps_do tell enter here c.steps.items n (frame 0 c.wires.items)) (λ n' f'. Ended n' (follow c.jumps.items next f'.wires)) (λ n' j. g j n'))
      (alike_then _ _ _ _ (wires_alike es c h d n a)
      (λ d' ws n' f' a' same.
      alike_from _ _ (ap (λ j. f j d') (follow_alike (place project plans plan h.num h.pins (length c.wires.items)) ws f'.wires same.wires plan.pou.networks es c.jumps.items next h.jumps))
      (go (follow c.jumps.items next f'.wires) d' n' a')))

  jumping_alike : (fuel : ℕ) (code : List Network) → AllZip (IsNetwork program project plans plan) plan.pou.networks code → (i : ℕ) (d : DiagramState) (n : Numbered M) → Agree whole tell begun d n
      → Alike whole tell begun (Nothing {K = Unit {0}}) (jumping fuel plan.pou.networks setting i d) (jumping_at fuel tell enter here code i n)
  jumping_alike zero code h i d n a =
      elim (at_pair (IsNetwork program project plans plan) plan.pou.networks code i h) [
        | inl e ↦ alike_from _ _ (ap (λ o. at_network o d (λ network. Stopped OutOfTurns d)) e.0) (alike_as _ _ (ap (λ o. at_place o n (λ network. Stopped OutOfTurns n)) e.1) (both_end a tt))
        | inr e ↦ alike_from _ _ (ap (λ o. at_network o d (λ network. Stopped OutOfTurns d)) e.2) (alike_as _ _ (ap (λ o. at_place o n (λ network. Stopped OutOfTurns n)) e.3) (both_stop OutOfTurns a))
      ]
  jumping_alike (suc fuel) code h i d n a =
      elim (at_pair (IsNetwork program project plans plan) plan.pou.networks code i h) [
        | inl e ↦ alike_from _ _ (ap (λ o. at_network o d (turn_of fuel i d)) e.0) (alike_as _ _ (ap (λ o. at_place o n (turn_at fuel code i n)) e.1) (both_end a tt))
        | inr e ↦
            alike_from _ _ (ap (λ o. at_network o d (turn_of fuel i d)) e.2 ∙ ap (λ l. spend l d (rest_of fuel i d e.0)) a.left)
            (alike_as _ _ (ap (λ o. at_place o n (turn_at fuel code i n)) e.3)
            (alike_spend n.left d n (rest_of fuel i d e.0) (rest_at fuel code i n e.1) a
            (λ left. turn_alike e.0 e.1 e.4 (i + 1) (record d { left = left }) (record n { left = left }) (agree_left whole apart tell begun d n left a)
            (λ j d'. jumping fuel plan.pou.networks setting j d') (λ j n'. jumping_at fuel tell enter here code j n') (λ j d' n' a'. jumping_alike fuel code h j d' n' a'))))
      ]

  choose_alike : (b : Bool) (o p : Outcome DiagramState (Unit {0})) (q r : Outcome (Numbered M) (Unit {0})) → Alike whole tell begun (Nothing {K = Unit {0}}) o q → Alike whole tell begun (Nothing {K = Unit {0}}) p r
      → Alike whole tell begun (Nothing {K = Unit {0}}) (if b then o else p) (if b then q else r)
  choose_alike true o p q r h g = h
  choose_alike false o p q r h g = g

  body_alike : (code : Body) → IsBody program project plans k plan code → (d : DiagramState) (n : Numbered M) → Agree whole tell begun d n → Alike whole tell begun (Nothing {K = Unit {0}}) (body_does plan.pou.networks setting d) (body_at tell enter here code n)
  body_alike code h d n a =
      alike_from _ _ (ap₂ (λ b l. if b then jumping l plan.pou.networks setting 0 d else straight plan.pou.networks setting d) h.jumps a.left)
      (choose_alike code.jumps _ _ _ _ (jumping_alike n.left code.networks.items h.networks 0 d n a) (straight_alike plan.pou.networks code.networks.items h.networks d n a))

-- the blocks of a project, at every depth
module _ {M : Type 0} (whole : Shape) (apart : IsApart whole) (tell : M → Heard → M) (begun : M) (time : ℕ) (project : Project) (plans : List Plan) (program : Program) (prepared : IsPrepared project plans program) where
  abbrev Blocks : ℕ → Type 0
  Blocks depth = (plan : Plan) (k : ℕ) (type : List ℕ) (site : Site) (at : Instance) (in_outs : List ℕ) → slice_get plans k ≡ Some plan → block_named type project ≡ Some plan.pou → plan.level < depth → Lies whole plan.shape site.path at → SameInOuts whole plan.in_outs site.bound in_outs
      → (d : DiagramState) (n : Numbered M) → Agree whole tell begun d n → Alike whole tell begun (Nothing {K = Unit {0}}) (blocks_do depth time project type site d) (bodies_do depth tell program (pos time) k at in_outs n)

  standard_steps : (users : DiagramCalls) → StepsStandard time (with_standard time users)
  standard_steps users type s site d e = ap (λ o. elim o [ Some j ↦ Ended (record d { store = called_at j time site.path d.store }) tt | None ↦ users type site d ]) e

  -- a POU whose blocks are evaluated so many levels deep
  pou_alike : (depth : ℕ) → Blocks depth → (plan : Plan) (k : ℕ) (site : Site) (at : Instance) (in_outs : List ℕ) → slice_get plans k ≡ Some plan → plan.level < suc depth → Lies whole plan.shape site.path at → SameInOuts whole plan.in_outs site.bound in_outs
      → (d : DiagramState) (n : Numbered M) → Agree whole tell begun d n
      → Alike whole tell begun (Nothing {K = Unit {0}}) (pou_does project (with_standard time (blocks_do depth time project)) plan.pou site d) (bodies_do (suc depth) tell program (pos time) k at in_outs n)
  pou_alike depth deeper plan k site at in_outs is_plan low lies same d n a =
      let code = prepared.each k plan is_plan in
      alike_from _ _ (ap (λ j. body_does plan.pou.networks (record { pou = j; variables = variables_of plan.pou.lists; site = site; called = with_standard time (blocks_do depth time project) }) d) code.2.name)
      (alike_as _ _ (ap (λ o. found o (λ (p : Body). body_at tell (bodies_do depth tell program (pos time)) (here_at program (pos time) k at in_outs) p n)) code.1)
      (body_alike whole apart tell begun project plans program plan k site (with_standard time (blocks_do depth time project)) time at in_outs (bodies_do depth tell program (pos time)) lies same (standard_steps (blocks_do depth time project))
      (λ instance variable callee j inner user is_callee block level inside bound slots' same' d' n' a'.
      alike_from _ _ (ap (λ o. elim o [ Some s ↦ Ended (record d' { store = called_at s time (in_lower_case instance ∷ site.path) d'.store }) tt | None ↦ blocks_do depth time project variable.ty (inner_site site instance bound) d' ]) user)
      (deeper callee j variable.ty (inner_site site instance bound) (within at inner.leaves inner.memories) slots' is_callee block (omega arith) (lies_within whole plan.shape callee.shape site.path at (in_lower_case instance) inner lies inside) same' d' n' a'))
      code.0 code.2 d n a))

  blocks_alike : (depth : ℕ) → Blocks depth
  blocks_alike zero plan k type site at in_outs is_plan block low lies same d n a = absurd (omega arith)
  blocks_alike (suc depth) plan k type site at in_outs is_plan block low lies same d n a =
      alike_from _ _ (ap (λ o. found o (λ (p : diagram.Pou). pou_does project (with_standard time (blocks_do depth time project)) p site d)) block)
      (pou_alike depth (blocks_alike depth) plan k site at in_outs is_plan low lies same d n a)

  -- a scan of the program
  pub program_alike : (plan : Plan) (k : ℕ) → slice_get plans k ≡ Some plan → plan.level < 17 → plan.in_outs ≡ [] → Lies whole plan.shape [] (record { leaves = 0; memories = 0 }) → (d : DiagramState) (n : Numbered M) → Agree whole tell begun d n
      → Alike whole tell begun (Nothing {K = Unit {0}}) (program_does time project plan.pou d) (bodies_do 17 tell program (pos time) k (record { leaves = 0; memories = 0 }) [] n)
  program_alike plan k is_plan low none lies d n a =
      pou_alike 16 (blocks_alike 16) plan k top (record { leaves = 0; memories = 0 }) [] is_plan low lies
      (record { each = λ j x there. absurd (no_slot j x (sym (ap (λ l. slice_get l j) none) ∙ there)) }) d n a
    where
      no_slot : (j : ℕ) (x : List ℕ) → slice_get {X = List ℕ} [] j ≡ Some x → ⊥
      no_slot j x e = cc
