-- What is prepared of a project that fits is right.
use Rattle.std.proofs.Common.{◌≡◌, ℕ, zero, suc, ◌+◌, ◌<◌, pos, Bool, true, false, List, [], ◌∷◌, ◌++◌, length, length-append, map, replicate, Option, Some, refl, sym, ap, ap₂, ◌∙◌, subst, arith, inl, inr}
use Rattle.std.specs.Prelude.{None, ◌≢◌, slice_get, not, nat_eq, ◌||◌, if◌then◌else◌}
use Rattle.std.specs.List.{flat_map, list_all, list_any, Contains, AllZip}
use Rattle.std.specs.Str.{bytes_eq}
use Rattle.std.proofs.lemmas.Bool.{and_parts, not-true, true≢false}
use Rattle.std.proofs.lemmas.Bool.Decides.{Decides-eqb}
use Rattle.std.proofs.lemmas.List.{length-map, length-replicate}
use Rattle.std.proofs.lemmas.List.Elements.{Contains-append_left, Contains-append_right}
use Rattle.std.proofs.lemmas.Option.{same_Some}
use Rattle.plcx_types.specs.Name.{in_lower_case}
use Rattle.plcx_types.specs.Lists.{Each}
use Rattle.plcx_types.specs.Value.{Value}
use Rattle.plcx_funcs.specs.Applied.{value}
use Rattle.plcx_meaning.specs.Base.{are_distinct}
use Rattle.plcx_meaning.specs.Diagram.{ElementKind, Still, In, Out, Contact, Coil, Pass, Label, Jump, Return, Function, Call, Port, ports, DiagramElement, Pou, Project}
use Rattle.plcx_meaning.specs.Tree as tree
use Rattle.plcx_meaning.specs.Tree.{Class, Local, Input, Output, InOut, Temp, Mark, Declaration, Block}
use Rattle.plcx_meaning.specs.Layout.{variable, variables_of}
use Rattle.plcx_meaning.specs.Evaluate.{leads_to, place_named}
use Rattle.plcx_meaning.specs.Fits.{ElementsFit, fixed_by, PortsFit, InOutsFit, PouFits, PouNests, ProjectFits}
use Rattle.plcx_meaning.proofs.Lists.{each_at, each_from, each_append, each_map, contains_cases, contains_none, contains_first, contains_later, contains_map, none_passes, distinct_parts}
use Rattle.plcx_meaning.proofs.Names.{bytes_self, same_bytes}
use Rattle.plcx_steps.specs.declared.program.Network.{Network}
use Rattle.plcx_steps.specs.declared.program.Body.{Body}
use Rattle.plcx_steps.specs.declared.program.Program.{Program}
use Rattle.plcx_steps.specs.Numbered.{bit, number_at}
use Rattle.plcx_numbered.specs.Agreeing.{AreApart, Pin}
use Rattle.plcx_numbered.specs.Right.{Plan, RightElement, IsWire, lead, leaps, IsLeap, IsNetwork, IsBody, IsPrepared}
use Rattle.plcx_numbered.specs.Numbers.{in_out_names, pins_of, spare_wires, numbering, plan_of, plans_of, place_of}
use Rattle.plcx_numbered.specs.Programs.{network_wires, jump_of, IsNetworkOf, IsBodyOf, IsProgramOf}
use Rattle.plcx_numbered.proofs.Numbers.{there_at, apart_none, apart_cons, apart_append, contains_append}
use Rattle.plcx_numbered.proofs.Nested.{level_low}
use Rattle.plcx_numbered.proofs.Sources.{distinct_of}
use Rattle.plcx_numbered.proofs.Rights.{elements_right}

-- ---- outputs are apart
all_at : {A : Type 0} (test : A → Bool) (xs : List A) (x : A) → list_all test xs ≡ true → Contains xs x → test x ≡ true
all_at test [] x h k = absurd (contains_none x k)
all_at test (y ∷ ys) x h k =
    let parts = and_parts (test y) (list_all test ys) h in
    elim (contains_cases y ys x k) [ inl e ↦ subst (λ z. test z ≡ true) e parts.0 | inr l ↦ all_at test ys x parts.1 l ]

ports_apart : (id : ℕ) (os : List Port) → are_distinct (map (λ (o : Port). in_lower_case o.pin) os) ≡ true → AreApart {K = Pin} (map (λ (o : Port). (id, in_lower_case o.pin)) os)
ports_apart id [] h = apart_none
ports_apart id (o ∷ os) h =
    let parts = distinct_parts (in_lower_case o.pin) (map (λ (q : Port). in_lower_case q.pin) os) h in
    apart_cons (id, in_lower_case o.pin) (map (λ (q : Port). (id, in_lower_case q.pin)) os) (λ there. new os parts.0 there) (ports_apart id os parts.1)
  where
    new : (qs : List Port) → list_any (bytes_eq (in_lower_case o.pin)) (map (λ (q : Port). in_lower_case q.pin) qs) ≡ false → Contains {X = Pin} (map (λ (q : Port). (id, in_lower_case q.pin)) qs) (id, in_lower_case o.pin) → ⊥
    new [] n c = contains_none (id, in_lower_case o.pin) c
    new (q ∷ qs) n c = by_test (bytes_eq (in_lower_case o.pin) (in_lower_case q.pin)) refl n (λ m. new qs m)
      where
        by_test : (b : Bool) → bytes_eq (in_lower_case o.pin) (in_lower_case q.pin) ≡ b → (b || list_any (bytes_eq (in_lower_case o.pin)) (map (λ (r : Port). in_lower_case r.pin) qs)) ≡ false
            → (list_any (bytes_eq (in_lower_case o.pin)) (map (λ (r : Port). in_lower_case r.pin) qs) ≡ false → Contains {X = Pin} (map (λ (r : Port). (id, in_lower_case r.pin)) qs) (id, in_lower_case o.pin) → ⊥) → ⊥
        by_test true e k rest = absurd (cc)
        by_test false e k rest =
            elim (contains_cases (id, in_lower_case q.pin) (map (λ (r : Port). (id, in_lower_case r.pin)) qs) (id, in_lower_case o.pin) c) [
              | inl s ↦ true≢false (sym (same_bytes (in_lower_case o.pin) (in_lower_case q.pin) (ap (λ (x : Pin). x.1) (sym s))) ∙ e)
              | inr l ↦ rest k l
            ]

-- a pin is one of an element's
pin_of : (rest : List DiagramElement) (z : Pin) → Contains (pins_of rest) z → (f : DiagramElement) × Contains rest f × (z.0 ≡ f.id)
pin_of [] z h = absurd (contains_none z h)
pin_of (e ∷ rest) z h =
    elim (contains_append (map (λ (o : Port). (e.id, in_lower_case o.pin)) (ports e.kind)) (pins_of rest) z h) [
      | inl a ↦ (e, contains_first e rest, own e (ports e.kind) a)
      | inr b ↦ (let r = pin_of rest z b in (r.0, contains_later e rest r.0 r.1, r.2))
    ]
  where
    own : (f : DiagramElement) (os : List Port) → Contains {X = Pin} (map (λ (o : Port). (f.id, in_lower_case o.pin)) os) z → z.0 ≡ f.id
    own f [] c = absurd (contains_none z c)
    own f (o ∷ os) c = elim (contains_cases (f.id, in_lower_case o.pin) (map (λ (q : Port). (f.id, in_lower_case q.pin)) os) z c) [ inl s ↦ ap (λ (x : Pin). x.0) (sym s) | inr l ↦ own f os l ]

-- an element with a pin has a port
port_of : (id : ℕ) (os : List Port) (z : Pin) → Contains {X = Pin} (map (λ (o : Port). (id, in_lower_case o.pin)) os) z → (o : Port) × Contains os o × (z.0 ≡ id)
port_of id [] z c = absurd (contains_none z c)
port_of id (o ∷ os) z c =
    elim (contains_cases (id, in_lower_case o.pin) (map (λ (q : Port). (id, in_lower_case q.pin)) os) z c) [
      | inl s ↦ (o, contains_first o os, ap (λ (x : Pin). x.0) (sym s))
      | inr l ↦ (let r = port_of id os z l in (r.0, contains_later o os r.0 r.1, r.2))
    ]

module _ (project : Project) (p : Pou) (one : PouFits project p) where
  -- no later element has the number of one that is fixed before
  fresh_all : (rest : List DiagramElement) (done : List (ℕ × Port)) → ElementsFit project p done rest → (f : DiagramElement) → Contains rest f → (d : ℕ × Port) → Contains done d → d.0 ≡ f.id → ⊥
  fresh_all [] done h f there d k e = contains_none f there
  fresh_all (x ∷ rest) done h f there d k e =
      elim (contains_cases x rest f there) [
        | inl s ↦ (let t = not-true (nat_eq d.0 x.id) (all_at (λ (y : ℕ × Port). not (nat_eq y.0 x.id)) done d h.1 k) in true≢false (sym ((Decides-eqb d.0 x.id).1 (e ∙ ap (λ (y : DiagramElement). y.id) (sym s))) ∙ t))
        | inr l ↦ fresh_all rest (fixed_by x ++ done) h.3 f l d (Contains-append_right (fixed_by x) done d k) e
      ]

  pub pins_apart : (rest : List DiagramElement) (done : List (ℕ × Port)) → ElementsFit project p done rest → AreApart (pins_of rest)
  pins_apart [] done h = apart_none
  pins_apart (e ∷ rest) done h =
      let fit = each_at (PortsFit p) p.elements e one.ports h.0 in
      apart_append (map (λ (o : Port). (e.id, in_lower_case o.pin)) (ports e.kind)) (pins_of rest) (ports_apart e.id (ports e.kind) fit.pins) (pins_apart rest (fixed_by e ++ done) h.3)
      (λ z a b.
      let o = port_of e.id (ports e.kind) z a in
      let f = pin_of rest z b in
      fresh_all rest (fixed_by e ++ done) h.3 f.0 f.1 (e.id, o.0) (Contains-append_left (fixed_by e) done (e.id, o.0) (contains_map (λ (q : Port). (e.id, q)) (ports e.kind) o.0 o.1)) (sym o.2 ∙ f.2))

-- ---- networks
pins_count : (es : List DiagramElement) → length (flat_map (λ (e : DiagramElement). ports e.kind) es) ≡ length (pins_of es)
pins_count [] = refl
pins_count (e ∷ es) =
    length-append (ports e.kind) (flat_map (λ (f : DiagramElement). ports f.kind) es)
    ∙ ap₂ (λ a b. a + b) (sym (length-map (ports e.kind) (λ (o : Port). (e.id, in_lower_case o.pin)))) (pins_count es)
    ∙ sym (length-append (map (λ (o : Port). (e.id, in_lower_case o.pin)) (ports e.kind)) (pins_of es))

wires_count : (es : List DiagramElement) → length (network_wires es) ≡ length (pins_of es) + spare_wires es
wires_count es =
    length-append (map (λ (o : Port). value o.ty (pos 0)) (flat_map (λ (e : DiagramElement). ports e.kind) es)) (replicate (spare_wires es) (bit (pos 0)))
    ∙ ap₂ (λ a b. a + b) (length-map (flat_map (λ (e : DiagramElement). ports e.kind) es) (λ (o : Port). value o.ty (pos 0)) ∙ pins_count es) (length-replicate (spare_wires es) (bit (pos 0)))

zero_each : (xs : List Value) → Each (λ (v : Value). v.n ≡ pos 0) xs → (w : ℕ) → number_at xs w ≡ pos 0
zero_each [] h w = refl
zero_each (x ∷ xs) h zero = h.0
zero_each (x ∷ xs) h (suc w) = zero_each xs h.1 w

zeros_replicate : (k : ℕ) → Each (λ (v : Value). v.n ≡ pos 0) (replicate k (bit (pos 0)))
zeros_replicate zero = tt
zeros_replicate (suc k) = (refl, zeros_replicate k)

wires_zero : (es : List DiagramElement) → Each (λ (v : Value). v.n ≡ pos 0) (network_wires es)
wires_zero es =
    each_append _ (map (λ (o : Port). value o.ty (pos 0)) (flat_map (λ (e : DiagramElement). ports e.kind) es)) (replicate (spare_wires es) (bit (pos 0)))
    (each_map _ (λ (o : Port). value o.ty (pos 0)) (flat_map (λ (e : DiagramElement). ports e.kind) es) (each_from _ (flat_map (λ (e : DiagramElement). ports e.kind) es) (λ o h. refl)))
    (zeros_replicate (spare_wires es))

-- the wires of jumps and returns
leaps_right : (project : Project) (p : Pou) (es : List DiagramElement) (width : ℕ) (rest : List DiagramElement) → Each (RightElement (place_of project p es width)) rest
    → AllZip (IsLeap (place_of project p es width)) (leaps p.networks rest) (map (jump_of (numbering project p es)) (leaps p.networks rest))
leaps_right project p es width [] h = tt
leaps_right project p es width (e ∷ rest) h = by_kind e.kind h.0.outputs (leaps_right project p es width rest h.1)
  where
    W : Port → Type 0
    W o = IsWire (place_of project p es width) e.id o.pin

    more : Option ℕ → List (ℕ × ℕ)
    more o = lead e.id o (leaps p.networks rest)

    Goal : Option ℕ → Type 0
    Goal o = AllZip (IsLeap (place_of project p es width)) (more o) (map (jump_of (numbering project p es)) (more o))

    by_kind : (k : ElementKind) → Each W (ports k) → AllZip (IsLeap (place_of project p es width)) (leaps p.networks rest) (map (jump_of (numbering project p es)) (leaps p.networks rest)) → Goal (leads_to p.networks k)
    by_kind (Jump label link) w more = ((refl, w.0, refl), more)
    by_kind (Return link) w more = ((refl, w.0, refl), more)
    by_kind Still w more = more
    by_kind (In t negated operand) w more = more
    by_kind (Out how x link) w more = more
    by_kind (Contact how operand link) w more = more
    by_kind (Coil how x link) w more = more
    by_kind (Pass link) w more = more
    by_kind (Label name) w more = more
    by_kind (Function f t enable inputs negated) w more = more
    by_kind (Call instance enable inputs in_outs outputs) w more = more

module _ (project : Project) (fits : ProjectFits project) (program : Program) where
  network_right : (p : Pou) → PouFits project p → PouNests 16 project p → (es : List DiagramElement) → ElementsFit project p [] es → (network : Network) → IsNetworkOf project program p es network → IsNetwork program project (plans_of project) (plan_of project p) es network
  network_right p one nests es elements network h =
      let count : length network.wires.items ≡ length (pins_of es) + spare_wires es = ap length h.wires ∙ wires_count es in
      let right = elements_right project fits p one nests es (length network.wires.items) (omega arith) es (λ e k. k) [] (λ x k. absurd (contains_none x k)) elements in
      record {
        num = numbering project p es;
        pins = pins_of es;
        apart = pins_apart project p one es [] elements;
        spare = omega arith;
        room = omega arith;
        zeros = λ w. ap (λ ws. number_at ws w) h.wires ∙ zero_each (network_wires es) (wires_zero es) w;
        argument = h.argument;
        binding = h.binding;
        steps = h.steps;
        arguments = h.arguments;
        bindings = h.bindings;
        right = right;
        jumps = subst (AllZip (IsLeap (place_of project p es (length network.wires.items))) (leaps p.networks es)) (sym h.jumps) (leaps_right project p es (length network.wires.items) es right);
      }

  networks_right : (p : Pou) → PouFits project p → PouNests 16 project p → (nets : List (List DiagramElement)) → Each (ElementsFit project p []) nets → (code : List Network) → AllZip (IsNetworkOf project program p) nets code
      → AllZip (IsNetwork program project (plans_of project) (plan_of project p)) nets code
  networks_right p one nests [] each [] h = tt
  networks_right p one nests [] each (c ∷ cs) h = h
  networks_right p one nests (es ∷ nets) each [] h = h
  networks_right p one nests (es ∷ nets) each (c ∷ cs) h = (network_right p one nests es each.0 c h.0, networks_right p one nests nets each.1 cs h.1)

  -- a POU stands at the place of its name
  place_of_name : (ps : Project) → are_distinct (map (λ (q : Pou). in_lower_case q.name) ps) ≡ true → (k : ℕ) (p : Pou) → slice_get ps k ≡ Some p → place_named p.name ps ≡ k
  place_of_name [] distinct k p h = absurd (cc)
  place_of_name (q ∷ qs) distinct zero p h =
      ap (λ b. if b then 0 else place_named p.name qs + 1) (ap (λ (r : Pou). bytes_eq (in_lower_case r.name) (in_lower_case p.name)) (same_Some q p h) ∙ bytes_self (in_lower_case p.name))
  place_of_name (q ∷ qs) distinct (suc k) p h =
      let parts = distinct_parts (in_lower_case q.name) (map (λ (r : Pou). in_lower_case r.name) qs) distinct in
      let other = none_passes (bytes_eq (in_lower_case q.name)) (map (λ (r : Pou). in_lower_case r.name) qs) (in_lower_case p.name) parts.0 (contains_map (λ (r : Pou). in_lower_case r.name) qs p (there_at qs k p h)) in
      ap (λ b. if b then 0 else place_named p.name qs + 1) other ∙ ap (λ m. m + 1) (place_of_name qs parts.1 k p h) ∙ (let z : k + 1 ≡ suc k = omega arith in z)

  pub body_at : (ps : Project) (bodies : List Body) → AllZip (IsBodyOf project program) ps bodies → (k : ℕ) (p : Pou) → slice_get ps k ≡ Some p → (body : Body) × (slice_get bodies k ≡ Some body) × IsBodyOf project program p body
  body_at [] bodies h k p there = absurd (cc)
  body_at (q ∷ qs) [] h k p there = absurd h
  body_at (q ∷ qs) (b ∷ bs) h zero p there = (b, refl, subst (λ r. IsBodyOf project program r b) (same_Some q p there) h.0)
  body_at (q ∷ qs) (b ∷ bs) h (suc k) p there = body_at qs bs h.1 k p there

  pub plan_at : (ps : Project) (k : ℕ) (plan : Plan) → slice_get (map (plan_of project) ps) k ≡ Some plan → (p : Pou) × (slice_get ps k ≡ Some p) × (plan_of project p ≡ plan)
  plan_at [] k plan h = absurd (cc)
  plan_at (p ∷ ps) zero plan h = (p, refl, same_Some (plan_of project p) plan h)
  plan_at (p ∷ ps) (suc k) plan h = plan_at ps k plan h

  pub program_right : IsProgramOf project program → IsPrepared project (plans_of project) program
  program_right h = record { each = each }
    where
      each : (k : ℕ) (plan : Plan) → slice_get (plans_of project) k ≡ Some plan → (body : Body) × (slice_get program.bodies.items k ≡ Some body) × IsBody program project (plans_of project) k plan body
      each k plan there =
          let q = plan_at project k plan there in
          let b = body_at project program.bodies.items h.bodies k q.0 q.1 in
          let own = there_at project k q.0 q.1 in
          let one : PouFits project q.0 = each_at (PouFits project) project q.0 fits.pous own in
          let nests : PouNests 16 project q.0 = each_at (PouNests 16 project) project q.0 fits.nests own in (
            b.0,
            b.1,
            subst (λ pl. IsBody program project (plans_of project) k pl b.0) q.2 (record {
              name = place_of_name project fits.names k q.0 q.1;
              jumps = sym b.2.jumps;
              networks = networks_right q.0 one nests q.0.networks one.networks b.0.networks.items b.2.networks;
            }),
          )

-- no POU calls more than 16 levels of blocks
pub plans_low : (project : Project) → ProjectFits project → Each (λ (plan : Plan). plan.level < 17) (plans_of project)
plans_low project fits = each_map (λ (plan : Plan). plan.level < 17) (plan_of project) project (each_from _ project (λ p there.
    let one : PouFits project p = each_at (PouFits project) project p fits.pous there in
    let low = level_low project (distinct_of project fits) 16 p one.distinct (each_at (PouNests 16 project) project p fits.nests there) 17 in
    omega arith))

-- a program has no in-outs
no_in_outs : (bs : List Block) → Each (InOutsFit tree.Program) bs → in_out_names (variables_of bs) ≡ []
no_in_outs [] h = refl
no_in_outs (b ∷ bs) h = declared b.class b.mark b.declarations (λ e. (h.0 e).1) (no_in_outs bs h.1)
  where
    passes : (class : Class) (mark : Mark) (d : Declaration) (ds : List Declaration) → (class ≡ InOut → ⊥) → in_out_names (map (variable class mark) ds ++ variables_of bs) ≡ []
        → in_out_names (map (variable class mark) (d ∷ ds) ++ variables_of bs) ≡ []
    passes Local mark d ds other rest = rest
    passes Input mark d ds other rest = rest
    passes Output mark d ds other rest = rest
    passes InOut mark d ds other rest = absurd (other refl)
    passes Temp mark d ds other rest = rest

    declared : (class : Class) (mark : Mark) (ds : List Declaration) → (class ≡ InOut → Each (λ (d : Declaration). (tree.Program ≢ tree.Program) × (d.address ≡ None) × (d.initial ≡ None)) ds)
        → in_out_names (variables_of bs) ≡ [] → in_out_names (map (variable class mark) ds ++ variables_of bs) ≡ []
    declared class mark [] own rest = rest
    declared class mark (d ∷ ds) own rest = passes class mark d ds (λ e. (own e).0.0 refl) (declared class mark ds (λ e. (own e).1) rest)

pub programs_free : (project : Project) → ProjectFits project → Each (λ (plan : Plan). plan.pou.kind ≡ tree.Program → plan.in_outs ≡ []) (plans_of project)
programs_free project fits = each_map (λ (plan : Plan). plan.pou.kind ≡ tree.Program → plan.in_outs ≡ []) (plan_of project) project (each_from _ project (λ p there kind.
    let one : PouFits project p = each_at (PouFits project) project p fits.pous there in
    no_in_outs p.lists (subst (λ k. Each (InOutsFit k) p.lists) kind one.in_outs)))
