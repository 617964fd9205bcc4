-- The steps of an element.
use Rattle.std.proofs.Common.{◌≡◌, ℕ, ◌+◌, ◌≤◌, true, false, List, [], ◌∷◌, ◌++◌, length, Some, refl, ap, subst, arith, inl, inr}
use Rattle.std.specs.Prelude.{slice_get, codes}
use Rattle.std.specs.List.{Contains}
use Rattle.plcx_types.specs.declared.ty.Ty.{Ty}
use Rattle.plcx_types.specs.declared.ty.Ty.TheVariants as ty
use Rattle.plcx_types.specs.Lists.{Each}
use Rattle.plcx_meaning.specs.Base.{AtEdge}
use Rattle.plcx_meaning.specs.Functions.{out_type}
use Rattle.plcx_meaning.specs.Diagram as diagram
use Rattle.plcx_meaning.specs.Diagram.{Link, Storing, Stored, Inverted, Set, Reset, Contacting, Open, Closed, RisingContact, FallingContact, Coiling, By, RisingCoil, FallingCoil, ElementKind, Still, In, Out, Contact, Coil, Pass, Label, Jump, Return, Function, Call, eno_ports, Port, port, ports, has_edge, DiagramElement}
use Rattle.plcx_meaning.specs.Fits.{LinkFits, KindFits, StoringFits, fixed_by, ElementsFit, PortsFit}
use Rattle.plcx_meaning.proofs.Lists.{each_at, each_from, each_append, contains_cases, contains_none, contains_first, contains_later, contains_flat_map}
use Rattle.plcx_meaning.proofs.Enabling.{each_split}
use Rattle.plcx_meaning.proofs.Fed.{fed_ports}
use Rattle.plcx_steps.specs.declared.program.Operand.{Operand}
use Rattle.plcx_steps.specs.declared.program.Source.{Source}
use Rattle.plcx_steps.specs.declared.program.Source.TheVariants as source
use Rattle.plcx_steps.specs.declared.program.Action.TheVariants.{Fix}
use Rattle.plcx_steps.specs.declared.program.Step.TheVariants.{Act}
use Rattle.plcx_steps.specs.Typed.{IsPlacedOf}
use Rattle.plcx_numbered.specs.Prepared.{operand_of, link_steps, link_source, contact_steps, coil_steps, kind_steps, kind_arguments, kind_bindings, spares, feed_steps, tell_steps, element_steps, elements_steps, elements_arguments, elements_bindings}
use Rattle.plcx_numbered.specs.Numbers.{cell_types, depth, spare_wires}
use Rattle.plcx_numbered.proofs.Numbers.{contains_append}
use Rattle.plcx_runnable.proofs.Lists.{StandsAt, stands_parts}
use Rattle.plcx_runnable.proofs.Memories.{edge_typed, fed_typed}
use Rattle.plcx_runnable.proofs.Outputs.{outputs, output_of}
use Rattle.plcx_runnable.proofs.Variables.{operand_typed}
use Rattle.plcx_runnable.proofs.Good.{Ground, IsShapeOf, num, shape, Good, Sources, Wires}
use Rattle.plcx_runnable.proofs.Links.{output_wire, spare_wire, at, Known, link_good, read_typed, stored_good}
use Rattle.plcx_runnable.proofs.Applying.{IsOutput, function_good}
use Rattle.plcx_runnable.proofs.Calls.{called_good}

module _ (g : Ground) where
  -- ---- contacts and coils

  -- a memory of a truth value
  abbrev Edge : ℕ → Type 0
  Edge m = slice_get (cell_types depth g.project g.pou) m ≡ Some ty.Bool

  contact_good : (how : Contacting) (operand : diagram.Operand) (link : Link) (l v : Source) (m wire w : ℕ) → Sources g l ty.Bool → Sources g v ty.Bool → (has_edge (Contact how operand link) ≡ true → Edge m)
      → Wires g wire ty.Bool → Wires g w ty.Bool → Wires g (w + 1) ty.Bool → Each (Good g) (contact_steps how l v m wire w)
  contact_good Open operand link l v m wire w hl hv edge hw first second = (((hl, hv, hw), tt), tt)
  contact_good Closed operand link l v m wire w hl hv edge hw first second = (((hv, first), tt), (((hl, first, hw), tt), tt))
  contact_good RisingContact operand link l v m wire w hl hv edge hw first second =
      (((hl, hv, first), tt), (((edge refl, second), tt), (((first, second, hw), tt), (((ty.Bool, edge refl, hv), tt), tt))))
  contact_good FallingContact operand link l v m wire w hl hv edge hw first second =
      (((hv, first), tt), (((hl, first, first), tt), (((first, edge refl, hw), tt), (((ty.Bool, edge refl, hv), tt), tt))))

  truth_stored : (how : Storing) → StoringFits how ty.Bool
  truth_stored Stored = tt
  truth_stored Inverted = refl
  truth_stored Set = refl
  truth_stored Reset = refl

  coil_good : (how : Coiling) (x : List ℕ) (link : Link) (to : Operand) (m wire w : ℕ) → IsPlacedOf (shape g) to ty.Bool → (has_edge (Coil how x link) ≡ true → Edge m) → Wires g wire ty.Bool → Wires g w ty.Bool → Each (Good g) (coil_steps how to m wire w)
  coil_good (By how) x link to m wire w placed edge hw spare = stored_good g how ty.Bool to (source.Wire wire) w (truth_stored how) placed hw spare
  coil_good RisingCoil x link to m wire w placed edge hw spare =
      (((edge refl, spare), tt), (((hw, spare, spare), tt), (((ty.Bool, placed, spare), tt), (((ty.Bool, edge refl, hw), tt), tt))))
  coil_good FallingCoil x link to m wire w placed edge hw spare =
      (((hw, spare), tt), (((spare, edge refl, spare), tt), (((ty.Bool, placed, spare), tt), (((ty.Bool, edge refl, hw), tt), tt))))

  module _ (same : IsShapeOf g.body (shape g)) (done : List (ℕ × Port)) (known : Known g done) where
    spare_at : (n : ℕ) → n + 1 ≤ spare_wires g.elements → Wires g ((num g).spare + n) ty.Bool
    spare_at n room = spare_wire g ((num g).spare + n) (omega arith) (omega arith)

    first_spare : 1 ≤ spare_wires g.elements → Wires g (num g).spare ty.Bool
    first_spare room = spare_wire g (num g).spare (omega arith) (omega arith)

    -- a link into the wire of the element
    fixed_good : (id : ℕ) (link : Link) (t : Ty) → LinkFits (at g done) link → link.ty ≡ t → Wires g ((num g).wire id []) t → 1 ≤ spare_wires g.elements
        → Each (Good g) (link_steps (num g) (num g).spare link ++ Act (Fix (link_source (num g) (num g).spare link) ((num g).wire id [])) ∷ [])
    fixed_good id link t h typed wire room =
        let l = link_good g done known (num g).spare (first_spare room) link h in
        each_append (Good g) (link_steps (num g) (num g).spare link) _ l.0 (((t, subst (Sources g (link_source (num g) (num g).spare link)) typed l.1, wire), tt), tt)

    kind_good : (k : ElementKind) (id a b : ℕ) → KindFits (at g done) k → Each (IsOutput g done known id) (ports k) → (has_edge k ≡ true → Edge ((num g).memory (AtEdge id))) → spares k ≤ spare_wires g.elements
        → StandsAt g.program.arguments.items a (kind_arguments (num g) k) → StandsAt g.program.bindings.items b (kind_bindings (num g) k) → Each (Good g) (kind_steps (num g) a b k id)
    kind_good Still id a b h outs edge room args binds = tt
    kind_good (Label name) id a b h outs edge room args binds = tt
    kind_good (In t false operand) id a b h outs edge room args binds = (((t, read_typed g done operand t h.0, output_wire g id (port [] t) outs.0), tt), tt)
    kind_good (In t true operand) id a b h outs edge room args binds =
        let bool = h.1 refl in
        (((subst (Sources g (operand_of (num g) operand)) bool (read_typed g done operand t h.0), subst (Wires g ((num g).wire id [])) bool (output_wire g id (port [] t) outs.0)), tt), tt)
    kind_good (Out how x link) id a b h outs edge room args binds =
        let l = link_good g done known (num g).spare (first_spare (omega arith)) link h.2 in
        each_append (Good g) (link_steps (num g) (num g).spare link) _ l.0
        (stored_good g how link.ty ((num g).operand x) (link_source (num g) (num g).spare link) ((num g).spare + 1) h.1 (operand_typed g.project g.fits g.pou g.pou_fits g.nests g.elements x link.ty h.0) l.1 (spare_at 1 (omega arith)))
    kind_good (Contact how operand link) id a b h outs edge room args binds =
        let l = link_good g done known (num g).spare (first_spare (omega arith)) link h.1.0 in
        let s = (num g).spare in
        each_append (Good g) (link_steps (num g) (num g).spare link) _ l.0
        (contact_good how operand link (link_source (num g) s link) (operand_of (num g) operand) ((num g).memory (AtEdge id)) ((num g).wire id []) (s + 1) (subst (Sources g (link_source (num g) s link)) h.1.1 l.1)
        (read_typed g done operand ty.Bool h.0) edge (output_wire g id (port [] ty.Bool) outs.0) (spare_at 1 (omega arith)) (spare_wire g (s + 1 + 1) (omega arith) (omega arith)))
    kind_good (Coil how x link) id a b h outs edge room args binds =
        let l = link_good g done known (num g).spare (first_spare (omega arith)) link h.1.0 in
        let wire = output_wire g id (port [] ty.Bool) outs.0 in
        each_append (Good g) (link_steps (num g) (num g).spare link) _ l.0 (
          ((ty.Bool, subst (Sources g (link_source (num g) (num g).spare link)) h.1.1 l.1, wire), tt),
          coil_good how x link ((num g).operand x) ((num g).memory (AtEdge id)) ((num g).wire id []) ((num g).spare + 1) (operand_typed g.project g.fits g.pou g.pou_fits g.nests g.elements x ty.Bool h.0) edge wire (spare_at 1 (omega arith)),
        )
    kind_good (Pass link) id a b h outs edge room args binds = fixed_good id link link.ty h refl (output_wire g id (port [] link.ty) outs.0) room
    kind_good (Jump label link) id a b h outs edge room args binds = fixed_good id link ty.Bool h.0 h.1 (output_wire g id (port [] ty.Bool) outs.0) room
    kind_good (Return link) id a b h outs edge room args binds = fixed_good id link ty.Bool h.0 h.1 (output_wire g id (port [] ty.Bool) outs.0) room
    kind_good (Function f t enable inputs negated) id a b h outs edge room args binds =
        let parts = each_split (IsOutput g done known id) (eno_ports enable) (port (codes "OUT") (out_type f t) ∷ []) outs in
        function_good g done known enable h.1 (omega arith) id parts.0 f t inputs negated a h.0 h.2 parts.1.0 room args
    kind_good (Call instance enable inputs in_outs outputs) id a b h outs edge room args binds = called_good g same done known instance enable inputs in_outs outputs id b h.0 h.1 outs room binds

  -- ---- elements

  feed_good : (e : DiagramElement) → Contains g.pou.elements e → (os : List Port) → ((o : Port) → Contains os o → Contains e.fed o) → Each (λ (o : Port). Contains (outputs g.elements) (e.id, o)) os → Each (Good g) (feed_steps (num g) e.id os)
  feed_good e own [] fed outs = tt
  feed_good e own (o ∷ os) fed outs =
      let there = fed o (contains_first o os) in (
        ((o.ty, fed_typed g.project g.fits g.pou g.pou_fits g.nests g.elements g.cells_apart e own o there, output_wire g e.id o outs.0), tt),
        feed_good e own os (λ q h. fed q (contains_later o os q h)) outs.1,
      )

  tell_good : (id n : ℕ) (os : List Port) → Each (λ (o : Port). Contains (outputs g.elements) (id, o)) os → Each (Good g) (tell_steps (num g) id n os)
  tell_good id n [] outs = tt
  tell_good id n (o ∷ os) outs = ((output_wire g id o outs.0, tt), tell_good id (n + 1) os outs.1)

  spare_low : (xs : List DiagramElement) (e : DiagramElement) → Contains xs e → spares e.kind ≤ spare_wires xs
  spare_low [] e h = absurd (contains_none e h)
  spare_low (x ∷ xs) e h =
      elim (contains_cases x xs e h) [
        | inl s ↦ (let k : spares x.kind ≡ spares e.kind = ap (λ (y : DiagramElement). spares y.kind) s in omega arith)
        | inr l ↦ (let k = spare_low xs e l in omega arith)
      ]

  element_good : IsShapeOf g.body (shape g) → (done : List (ℕ × Port)) → Known g done → (e : DiagramElement) (a b : ℕ) → Contains g.elements e → Contains g.pou.elements e → KindFits (at g done) e.kind
      → StandsAt g.program.arguments.items a (kind_arguments (num g) e.kind) → StandsAt g.program.bindings.items b (kind_bindings (num g) e.kind) → Each (Good g) (element_steps (num g) a b e)
  element_good same done known e a b there own h args binds =
      let fit = each_at (PortsFit g.pou) g.pou.elements e g.pou_fits.ports own in
      let outs : Each (λ (o : Port). Contains (outputs g.elements) (e.id, o)) (ports e.kind) = each_from _ (ports e.kind) (λ o k. output_of g.elements e o there k) in
      let fed : Each (λ (o : Port). Contains (outputs g.elements) (e.id, o)) e.fed =
      each_from _ e.fed (λ o k. output_of g.elements e o there (each_at (Contains (ports e.kind)) e.fed o (fed_ports g.pou e fit) k)) in
      each_append (Good g) (kind_steps (num g) a b e.kind e.id) _
      (kind_good same done known e.kind e.id a b h outs (edge_typed g.project g.fits g.pou g.pou_fits g.nests g.elements g.cells_apart e own) (spare_low g.elements e there) args binds)
      (each_append (Good g) (feed_steps (num g) e.id e.fed) (tell_steps (num g) e.id 0 (ports e.kind)) (feed_good e own e.fed (λ o k. k) fed) (tell_good e.id 0 (ports e.kind) outs))

  -- all of them, one after another
  pub elements_good : IsShapeOf g.body (shape g) → (rest : List DiagramElement) → ((e : DiagramElement) → Contains rest e → Contains g.elements e) → (done : List (ℕ × Port)) → Known g done → ElementsFit g.project g.pou done rest
      → (a b : ℕ) → StandsAt g.program.arguments.items a (elements_arguments (num g) rest) → StandsAt g.program.bindings.items b (elements_bindings (num g) rest) → Each (Good g) (elements_steps (num g) a b rest)
  elements_good same [] among done known h a b args binds = tt
  elements_good same (e ∷ rest) among done known h a b args binds =
      let there = among e (contains_first e rest) in
      let own_args = stands_parts g.program.arguments.items a (kind_arguments (num g) e.kind) (elements_arguments (num g) rest) args in
      let own_binds = stands_parts g.program.bindings.items b (kind_bindings (num g) e.kind) (elements_bindings (num g) rest) binds in
      each_append (Good g) (element_steps (num g) a b e) _ (element_good same done known e a b there h.0 h.2 own_args.0 own_binds.0)
      (elements_good same rest (λ f k. among f (contains_later e rest f k)) (fixed_by e ++ done)
      (λ x k. elim (contains_append (fixed_by e) done x k) [
        | inl l ↦ contains_flat_map fixed_by g.elements e x there l
        | inr r ↦ known x r
      ]) h.3 (a + length (kind_arguments (num g) e.kind)) (b + length (kind_bindings (num g) e.kind)) own_args.1 own_binds.1)
