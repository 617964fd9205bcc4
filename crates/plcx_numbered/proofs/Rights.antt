-- The elements of a project that fits have the right numbers.
use Rattle.std.proofs.Common.{◌≡◌, ◌≢◌, ℕ, ◌+◌, ◌≤◌, Bool, true, false, List, [], ◌∷◌, ◌++◌, length, map, filter, refl, sym, ap, ◌∙◌, subst, arith, inl, inr}
use Rattle.std.specs.Prelude.{codes, if◌then◌else◌}
use Rattle.std.specs.List.{Contains}
use Rattle.plcx_types.specs.declared.ty.Ty.TheVariants as ty
use Rattle.plcx_types.specs.Name.{in_lower_case}
use Rattle.plcx_types.specs.Lists.{Each}
use Rattle.plcx_meaning.specs.Base.{AtEdge, AtOutput}
use Rattle.plcx_meaning.specs.Tree as tree
use Rattle.plcx_meaning.specs.Functions.{out_type}
use Rattle.plcx_meaning.specs.Diagram.{Contacting, Open, Closed, RisingContact, FallingContact, Coiling, By, RisingCoil, FallingCoil, Enable, has_eno, eno_ports, output_ports, OutputPin, ElementKind, Still, In, Out, Contact, Coil, Pass, Label, Jump, Return, Function, Call, Port, port, ports, has_edge, is_fed, DiagramElement, Pou, Project}
use Rattle.plcx_meaning.specs.Fits.{KindFits, ElementsFit, fixed_by, PortsFit, PouFits, PouNests, ProjectFits}
use Rattle.plcx_meaning.proofs.Lists.{each_at, each_weaker, each_from, contains_cases, contains_none, contains_first, contains_later}
use Rattle.plcx_numbered.specs.Prepared.{spares}
use Rattle.plcx_numbered.specs.Right.{IsWire, IsCell, RightContact, RightCoil, RightKind, RightElement}
use Rattle.plcx_numbered.specs.Numbers.{pins_of, spare_wires, place_of}
use Rattle.plcx_numbered.proofs.Numbers.{contains_append}
use Rattle.plcx_numbered.proofs.Variables.{operand_right}
use Rattle.plcx_numbered.proofs.Sources.{distinct_of, wire_right, output_there, cell_right, edge_there, fed_there, link_right, enable_right, inner_right, read_right}
use Rattle.plcx_numbered.proofs.Callees.{callee_right}

each_split : {A : Type 0} (P : A → Type 0) (xs ys : List A) → Each P (xs ++ ys) → Each P xs × Each P ys
each_split P [] ys h = (tt, h)
each_split P (x ∷ xs) ys h = let r = each_split P xs ys h.1 in ((h.0, r.0), r.1)

-- what passes a test is there
passed : {A : Type 0} (test : A → Bool) (xs : List A) (x : A) → Contains (filter test xs) x → Contains xs x
passed test [] x h = h
passed test (y ∷ ys) x h = by_test (test y) h (λ l. passed test ys x l)
  where
    by_test : (b : Bool) → Contains (if b then y ∷ filter test ys else filter test ys) x → (Contains (filter test ys) x → Contains ys x) → Contains (y ∷ ys) x
    by_test false k rest = contains_later y ys x (rest k)
    by_test true k rest = elim (contains_cases y (filter test ys) x k) [ inl e ↦ subst (Contains (y ∷ ys)) e (contains_first y ys) | inr l ↦ contains_later y ys x (rest l) ]

module _ (project : Project) (fits : ProjectFits project) (p : Pou) (one : PouFits project p) (nests : PouNests 16 project p) (es : List DiagramElement) (width : ℕ) where
  abbrev W : ℕ → Port → Type 0
  W id o = IsWire (place_of project p es width) id o.pin

  eno_right : (id : ℕ) (enable : Enable) → Each (W id) (eno_ports enable) → has_eno enable ≡ true → IsWire (place_of project p es width) id (codes "ENO")
  eno_right id enable h e = let k = subst (λ b. Each (W id) (if b then port (codes "ENO") ty.Bool ∷ [] else [])) e h in k.0

  outputs_right : (id : ℕ) (os : List OutputPin) → Each (W id) (output_ports os) → Each (λ (o : OutputPin). IsWire (place_of project p es width) id o.name) os
  outputs_right id [] h = tt
  outputs_right id (o ∷ os) h = (h.0, outputs_right id os h.1)

  each_and : {A : Type 0} (P Q : A → Type 0) (xs : List A) → Each P xs → Each Q xs → Each (λ x. P x × Q x) xs
  each_and P Q [] h g = tt
  each_and P Q (x ∷ xs) h g = ((h.0, g.0), each_and P Q xs h.1 g.1)

  no_temp : (k c : tree.Class) → k ≡ c → c ≢ tree.Temp → k ≢ tree.Temp
  no_temp k c e ne f = ne (sym e ∙ f)

  no_in_out : (k c : tree.Class) → k ≡ c → c ≢ tree.InOut → k ≢ tree.InOut
  no_in_out k c e ne f = ne (sym e ∙ f)

  kind_right : (done : List (ℕ × Port)) (known : (x : ℕ × Port) → Contains done x → Contains (pins_of es) (x.0, in_lower_case x.1.pin)) (k : ElementKind) (id : ℕ) → KindFits (record { project = project; pou = p; done = done }) k → Each (W id) (ports k)
      → (has_edge k ≡ true → IsCell (place_of project p es width) (AtEdge id)) → RightKind (place_of project p es width) k id
  kind_right done known Still id h w edge = tt
  kind_right done known (Label name) id h w edge = tt
  kind_right done known (In t negated operand) id h w edge = (read_right project fits p one nests es width done known operand t h.0, w.0)
  kind_right done known (Out how x link) id h w edge = (operand_right project (distinct_of project fits) p one nests es width x link.ty h.0, link_right project fits p one nests es width done known link h.2)
  kind_right done known (Contact how operand link) id h w edge = (read_right project fits p one nests es width done known operand ty.Bool h.0, link_right project fits p one nests es width done known link h.1.0, by_how how edge, w.0)
    where
      by_how : (g : Contacting) → (has_edge (Contact g operand link) ≡ true → IsCell (place_of project p es width) (AtEdge id)) → RightContact (place_of project p es width) id g
      by_how Open e = tt
      by_how Closed e = tt
      by_how RisingContact e = e refl
      by_how FallingContact e = e refl
  kind_right done known (Coil how x link) id h w edge = (operand_right project (distinct_of project fits) p one nests es width x ty.Bool h.0, link_right project fits p one nests es width done known link h.1.0, by_how how edge, w.0)
    where
      by_how : (g : Coiling) → (has_edge (Coil g x link) ≡ true → IsCell (place_of project p es width) (AtEdge id)) → RightCoil (place_of project p es width) id g
      by_how (By s) e = tt
      by_how RisingCoil e = e refl
      by_how FallingCoil e = e refl
  kind_right done known (Pass link) id h w edge = (link_right project fits p one nests es width done known link h, w.0)
  kind_right done known (Jump label link) id h w edge = (link_right project fits p one nests es width done known link h.0, w.0)
  kind_right done known (Return link) id h w edge = (link_right project fits p one nests es width done known link h.0, w.0)
  kind_right done known (Function f t enable inputs negated) id h w edge =
      let parts = each_split (W id) (eno_ports enable) (port (codes "OUT") (out_type f t) ∷ []) w in (
        enable_right project fits p one nests es width done known id enable h.1 (eno_right id enable parts.0),
        each_weaker _ _ inputs (λ l k. link_right project fits p one nests es width done known l k) h.0.inputs,
        parts.1.0,
      )
  kind_right done known (Call instance enable inputs in_outs outputs) id h w edge =
      let parts = each_split (W id) (eno_ports enable) (output_ports outputs) w in
      let call = h.0 in
      record {
        enabling = enable_right project fits p one nests es width done known id enable h.1 (eno_right id enable parts.0);
        are_inputs = each_weaker _ _ inputs (λ i k. (
          inner_right project fits p one nests es width done known instance i.name call.within i.link.ty call.called
              (record { variable = k.0.variable; found = k.0.found; typed = k.0.typed; class = (no_temp k.0.variable.class tree.Input k.0.class (λ e. absurd (cc)), no_in_out k.0.variable.class tree.Input k.0.class (λ e. absurd (cc))) }),
          link_right project fits p one nests es width done known i.link k.1,
        )) call.inputs;
        called = callee_right project fits p one nests es width done instance in_outs call.within call.called call.in_outs call.all;
        are_outputs = each_and _ _ outputs
            (each_weaker _ _ outputs (λ o k. inner_right project fits p one nests es width done known instance o.name call.within o.ty call.called
            (record { variable = k.0.variable; found = k.0.found; typed = k.0.typed; class = (no_temp k.0.variable.class tree.Output k.0.class (λ e. absurd (cc)), no_in_out k.0.variable.class tree.Output k.0.class (λ e. absurd (cc))) })) call.outputs)
            (outputs_right id outputs parts.1);
      }

  spare_of : (xs : List DiagramElement) (e : DiagramElement) → Contains xs e → spares e.kind ≤ spare_wires xs
  spare_of [] e h = absurd (contains_none e h)
  spare_of (x ∷ xs) e h =
      elim (contains_cases x xs e h) [
        | inl s ↦ (let k : spares x.kind ≡ spares e.kind = ap (λ (y : DiagramElement). spares y.kind) s in omega arith)
        | inr l ↦ (let k = spare_of xs e l in omega arith)
      ]

  -- an element of the network, behind those that are known
  element_right : length (pins_of es) + spare_wires es ≤ width → (done : List (ℕ × Port)) (known : (x : ℕ × Port) → Contains done x → Contains (pins_of es) (x.0, in_lower_case x.1.pin)) (e : DiagramElement) → Contains es e → Contains p.elements e
      → KindFits (record { project = project; pou = p; done = done }) e.kind → RightElement (place_of project p es width) e
  element_right room done known e there own h =
      let port_fits = each_at (PortsFit p) p.elements e one.ports own in
      let outs : Each (W e.id) (ports e.kind) = each_from _ (ports e.kind) (λ o k. wire_right project fits p one nests es width e.id o.pin (output_there project fits p one nests es width e there o k)) in
      let low = spare_of es e there in
      record {
        kind = kind_right done known e.kind e.id h outs (λ b. cell_right project fits p one nests es width (AtEdge e.id) (edge_there project fits p one nests es width e own b));
        spare = omega arith;
        fed = each_from _ e.fed (λ o k. (
          cell_right project fits p one nests es width (AtOutput e.id o.pin) (fed_there project fits p one nests es width e own o k),
          wire_right project fits p one nests es width e.id o.pin (output_there project fits p one nests es width e there o (passed (is_fed p e.id) (ports e.kind) o (subst (λ l. Contains l o) port_fits.fed k))),
        ));
        outputs = outs;
      }

  -- all of them, one after another
  pub elements_right : length (pins_of es) + spare_wires es ≤ width → (rest : List DiagramElement) → ((e : DiagramElement) → Contains rest e → Contains es e) → (done : List (ℕ × Port)) → ((x : ℕ × Port) → Contains done x → Contains (pins_of es) (x.0, in_lower_case x.1.pin))
      → ElementsFit project p done rest → Each (RightElement (place_of project p es width)) rest
  elements_right room [] among done known h = tt
  elements_right room (e ∷ rest) among done known h =
      let there = among e (contains_first e rest) in (
        element_right room done known e there h.0 h.2,
        elements_right room rest (λ f k. among f (contains_later e rest f k)) (fixed_by e ++ done)
            (λ x k. elim (contains_append (fixed_by e) done x k) [
              | inl a ↦ fixed_known e there x a
              | inr b ↦ known x b
            ]) h.3,
      )
    where
      fixed_known : (f : DiagramElement) → Contains es f → (x : ℕ × Port) → Contains (fixed_by f) x → Contains (pins_of es) (x.0, in_lower_case x.1.pin)
      fixed_known f there x h = by_ports (ports f.kind) (λ o k. output_there project fits p one nests es width f there o k) h
        where
          by_ports : (os : List Port) → ((o : Port) → Contains os o → Contains (pins_of es) (f.id, in_lower_case o.pin)) → Contains (map (λ (o : Port). (f.id, o)) os) x → Contains (pins_of es) (x.0, in_lower_case x.1.pin)
          by_ports [] k c = absurd (contains_none x c)
          by_ports (o ∷ os) k c =
              elim (contains_cases (f.id, o) (map (λ (q : Port). (f.id, q)) os) x c) [
                | inl s ↦ subst (λ (y : ℕ × Port). Contains (pins_of es) (y.0, in_lower_case y.1.pin)) s (k o (contains_first o os))
                | inr l ↦ by_ports os (λ q d. k q (contains_later o os q d)) l
              ]
