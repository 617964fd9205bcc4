-- What is prepared of a project that fits can be run.
use Rattle.std.proofs.Common.{◌≡◌, ℕ, zero, suc, ◌<◌, ◌≤◌, List, [], ◌∷◌, length, map, Some, refl, sym, ap, ◌∙◌, subst, arith}
use Rattle.std.specs.Prelude.{slice_get}
use Rattle.std.specs.List.{AllZip, Contains}
use Rattle.std.proofs.lemmas.List.{length-map}
use Rattle.std.proofs.lemmas.Option.{same_Some, slice_get_within}
use Rattle.plcx_types.specs.Name.{in_lower_case}
use Rattle.plcx_types.specs.Lists.{Each}
use Rattle.plcx_meaning.specs.Layout.{Variable, variables_of}
use Rattle.plcx_meaning.specs.Diagram.{DiagramElement, Pou, Project}
use Rattle.plcx_meaning.specs.Fits.{ElementsFit, PouFits, PouNests, ProjectFits}
use Rattle.plcx_meaning.proofs.Lists.{each_at, contains_none, contains_map}
use Rattle.plcx_steps.specs.declared.program.Jump.{Jump}
use Rattle.plcx_steps.specs.declared.program.Network.{Network}
use Rattle.plcx_steps.specs.declared.program.Body.{Body}
use Rattle.plcx_steps.specs.declared.program.Program.{Program}
use Rattle.plcx_steps.specs.Sound.{IsSoundBody, IsSound}
use Rattle.plcx_steps.specs.Typed.{Shape, IsTypedBody, IsTyped}
use Rattle.plcx_numbered.specs.Agreeing.{IsApart}
use Rattle.plcx_numbered.specs.Right.{Plan, IsLeap, IsNetwork, IsBody, place, leaps}
use Rattle.plcx_numbered.specs.Numbers.{Place, depth, places_of, plan_of, plans_of}
use Rattle.plcx_numbered.specs.Programs.{network_wires, IsNetworkOf, IsFrameOf, IsBodyOf, IsProgramOf}
use Rattle.plcx_numbered.proofs.Cells.{plans_apart}
use Rattle.plcx_numbered.proofs.Numbers.{there_at}
use Rattle.plcx_numbered.proofs.Programs.{pins_apart, body_at, program_right}
use Rattle.plcx_runnable.specs.Shapes.{in_out_type, types_of}
use Rattle.plcx_runnable.proofs.Lists.{mapped_at, mapped_from}
use Rattle.plcx_runnable.proofs.Memories.{types_long}
use Rattle.plcx_runnable.proofs.Variables.{in_outs_of}
use Rattle.plcx_runnable.proofs.Good.{Ground, IsShapeOf, IsGood, steps_sound, steps_typed}
use Rattle.plcx_runnable.proofs.Elements.{elements_good}

-- what stands at a place of two lists
zip_at : {A B : Type 0} (R : A → B → Type 0) (xs : List A) (ys : List B) → AllZip R xs ys → (i : ℕ) (y : B) → slice_get ys i ≡ Some y → (x : A) × (slice_get xs i ≡ Some x) × R x y
zip_at R [] [] all i y h = absurd (cc)
zip_at R [] (z ∷ ys) all i y h = absurd all
zip_at R (x ∷ xs) [] all i y h = absurd all
zip_at R (x ∷ xs) (z ∷ ys) all zero y h = (x, refl, subst (R x) (same_Some z y h) all.0)
zip_at R (x ∷ xs) (z ∷ ys) all (suc i) y h = zip_at R xs ys all.1 i y h

pub zip_long : {A B : Type 0} (R : A → B → Type 0) (xs : List A) (ys : List B) → AllZip R xs ys → length ys ≡ length xs
zip_long R [] [] all = refl
zip_long R [] (y ∷ ys) all = absurd all
zip_long R (x ∷ xs) [] all = absurd all
zip_long R (x ∷ xs) (y ∷ ys) all = ap suc (zip_long R xs ys all.1)

module _ (project : Project) (fits : ProjectFits project) (program : Program) (prepared : IsProgramOf project program) where
  -- a shape has as many places as its body says
  pub shape_of_body : (p : Pou) (body : Body) → IsFrameOf project program p body → IsShapeOf body (types_of project p)
  shape_of_body p body frame = record {
    leaves = frame.leaves ∙ sym (length-map (places_of project (variables_of p.lists)) (λ (x : Place). x.1));
    memories = frame.memories ∙ types_long project depth p;
    in_outs = frame.in_outs ∙ length-map (in_outs_of (variables_of p.lists)) (λ (v : Variable). in_lower_case v.name) ∙ sym (length-map (in_outs_of (variables_of p.lists)) in_out_type);
  }

  module _ (p : Pou) (one : PouFits project p) (nests : PouNests 16 project p) (own : Contains project p) (body : Body) (frame : IsFrameOf project program p body) where
    apart : IsApart (plan_of project p).shape
    apart = each_at (λ (plan : Plan). IsApart plan.shape) (plans_of project) (plan_of project p) (plans_apart project fits) (contains_map (plan_of project) project p own)

    -- the steps of a network
    steps_good : (es : List DiagramElement) → ElementsFit project p [] es → (network : Network) → IsNetworkOf project program p es network → Each (IsGood (map (types_of project) project) program (types_of project p) body network.wires.items) network.steps.items
    steps_good es elements network h =
        let g : Ground = record {
          project = project;
          fits = fits;
          program = program;
          prepared = prepared;
          pou = p;
          pou_fits = one;
          nests = nests;
          body = body;
          frame = frame;
          elements = es;
          pins_apart = pins_apart project p one es [] elements;
          cells_apart = apart.cells;
        } in
        let good = elements_good g (shape_of_body p body frame) es (λ e k. k) [] (λ x k. absurd (contains_none x k)) elements h.argument h.binding
        (record { begins = h.arguments_begin; has = h.arguments }) (record { begins = h.bindings_begin; has = h.bindings }) in
        subst (λ ws. Each (IsGood (map (types_of project) project) program (types_of project p) body ws) network.steps.items) (sym h.wires)
        (subst (Each (IsGood (map (types_of project) project) program (types_of project p) body (network_wires es))) (sym h.steps) good)

  -- what stands at a POU's place is its body
  pub body_for : (k : ℕ) (p : Pou) (body : Body) → slice_get project k ≡ Some p → slice_get program.bodies.items k ≡ Some body → IsBodyOf project program p body
  body_for k p body there is =
      let b = body_at project fits program project program.bodies.items prepared.bodies k p there in
      subst (IsBodyOf project program p) (same_Some b.0 body (sym b.1 ∙ is)) b.2

  module _ (k : ℕ) (p : Pou) (body : Body) (there : slice_get project k ≡ Some p) (is : slice_get program.bodies.items k ≡ Some body) (h : IsBodyOf project program p body) where
    own : Contains project p
    own = there_at project k p there

    one : PouFits project p
    one = each_at (PouFits project) project p fits.pous own

    nests : PouNests 16 project p
    nests = each_at (PouNests 16 project) project p fits.nests own

    good : (i : ℕ) (network : Network) → slice_get body.networks.items i ≡ Some network → Each (IsGood (map (types_of project) project) program (types_of project p) body network.wires.items) network.steps.items
    good i network at =
        let x = zip_at (IsNetworkOf project program p) p.networks body.networks.items h.networks i network at in
        steps_good p one nests own body h.frame x.0 (each_at (ElementsFit project p []) p.networks x.0 one.networks (there_at p.networks i x.0 x.1)) network x.2

    -- the wires of its jumps
    jumps : (i : ℕ) (network : Network) → slice_get body.networks.items i ≡ Some network → (j : ℕ) (leap : Jump) → slice_get network.jumps.items j ≡ Some leap → leap.wire < length network.wires.items
    jumps i network at j leap stands =
        let plan = plan_of project p in
        let right = (program_right project fits program prepared).each k plan (mapped_at (plan_of project) project k p there) in
        let same : right.0 ≡ body = same_Some right.0 body (sym right.1 ∙ is) in
        let b : IsBody program project (plans_of project) k plan body = subst (IsBody program project (plans_of project) k plan) same right.2 in
        let n = zip_at (IsNetwork program project (plans_of project) plan) p.networks body.networks.items b.networks i network at in
        let c = place project (plans_of project) plan n.2.num n.2.pins (length network.wires.items) in
        let l = zip_at (IsLeap c) (leaps p.networks n.0) network.jumps.items n.2.jumps j leap stands in
        let low = slice_get_within n.2.pins (n.2.num.wire l.0.1 []) (l.0.1, []) l.2.1 in
        let room = n.2.room in
        let wire = l.2.2 in
        omega arith

    body_sound : IsSoundBody program body
    body_sound i network at = record {
      width = each_at (λ (n : Network). length n.wires.items ≤ body.width) body.networks.items network h.frame.width (there_at body.networks.items i network at);
      steps = steps_sound (map (types_of project) project) program (types_of project p) body network.wires.items (shape_of_body p body h.frame) network.steps.items (good i network at);
      jumps = jumps i network at;
    }

    body_typed : IsTypedBody (map (types_of project) project) program (types_of project p) body
    body_typed i network at = steps_typed (map (types_of project) project) program (types_of project p) body network.wires.items network.steps.items (good i network at)

  pub program_sound : IsSound program
  program_sound = record { each = λ k body is. (let x = zip_at (IsBodyOf project program) project program.bodies.items prepared.bodies k body is in body_sound k x.0 body x.1 is x.2) }

  pub program_typed : IsTyped (map (types_of project) project) program
  program_typed = record { each = each }
    where
      each : (k : ℕ) (s : Shape) (body : Body) → slice_get (map (types_of project) project) k ≡ Some s → slice_get program.bodies.items k ≡ Some body → IsTypedBody (map (types_of project) project) program s body
      each k s body at is =
          let x = zip_at (IsBodyOf project program) project program.bodies.items prepared.bodies k body is in
          let y = mapped_from (types_of project) project k s at in
          let same : x.0 ≡ y.0 = same_Some x.0 y.0 (sym x.1 ∙ y.1) in
          subst (λ t. IsTypedBody (map (types_of project) project) program t body) (ap (types_of project) same ∙ y.2) (body_typed k x.0 body x.1 is x.2)
