-- The numbers of outputs, memories, links and operands of the elements of a network are right.
use Rattle.std.proofs.Common.{◌≡◌, ◌≢◌, ℕ, Bool, true, false, List, [], ◌∷◌, map, refl, sym, ap, ◌∙◌, subst}
use Rattle.std.specs.Prelude.{option_map, codes, if◌then◌else◌}
use Rattle.std.specs.List.{flat_map, Contains}
use Rattle.std.proofs.lemmas.Option.{slice_get-map}
use Rattle.std.proofs.lemmas.List.Elements.{Contains-append_left, Contains-append_right}
use Rattle.plcx_types.specs.declared.ty.Ty.{Ty}
use Rattle.plcx_types.specs.Name.{in_lower_case}
use Rattle.plcx_types.specs.Lists.{Each}
use Rattle.plcx_meaning.specs.Base.{Memory, AtEdge, AtOutput}
use Rattle.plcx_meaning.specs.Tree as tree
use Rattle.plcx_meaning.specs.Layout.{Variable, variables_of}
use Rattle.plcx_meaning.specs.Diagram as diagram
use Rattle.plcx_meaning.specs.Diagram.{Link, Enable, has_eno, eno_ports, Port, port, ports, has_edge, DiagramElement, Pou, Project, block_named}
use Rattle.plcx_meaning.specs.Evaluate.{world_of}
use Rattle.plcx_meaning.specs.Fits.{IsDeclaredAs, IsInstance, SourceFits, LinkFits, OperandFits, EnableFits, Standing, PouFits, PouNests, ProjectFits}
use Rattle.plcx_meaning.proofs.Lists.{each_weaker, each_from, each_append, each_map, each_flat_map, contains_first, contains_map, contains_flat_map}
use Rattle.plcx_meaning.proofs.Names.{folded_twice}
use Rattle.plcx_meaning.proofs.StaticsWorlds.{block_fits}
use Rattle.plcx_numbered.specs.Agreeing.{Cell, Pin, plain_memory, plain_cell, plain_pin}
use Rattle.plcx_numbered.specs.Right.{IsWire, IsCell, IsInner, RightSource, RightLink, RightOperand, RightEnable}
use Rattle.plcx_numbered.specs.Numbers.{Place, element_cells, instance_cells, cells, number_of, same_cell, same_pin, pins_of, places_of, inner_depth, place_of}
use Rattle.plcx_numbered.proofs.Keys.{pins_decide, cells_decide}
use Rattle.plcx_numbered.proofs.Numbers.{number_there}
use Rattle.plcx_numbered.proofs.Leaves.{AreDistinct, at_front}
use Rattle.plcx_numbered.proofs.Variables.{kept_class, inner_place, operand_right}

-- the names of variables differ within each block
pub distinct_of : (project : Project) → ProjectFits project → AreDistinct project
distinct_of project fits name q block = let one : PouFits project q = block_fits project name project q fits.pous block in one.distinct

-- keys are without case already
plain_twice : (k : Memory) → plain_memory (plain_memory k) ≡ plain_memory k
plain_twice (AtEdge i) = refl
plain_twice (AtOutput i pin) = ap (AtOutput i) (folded_twice pin)

pins_plain : (es : List DiagramElement) → Each (λ (x : Pin). plain_pin x ≡ x) (pins_of es)
pins_plain es = each_flat_map _ _ es (each_from _ es (λ e there. each_map _ (λ (o : Port). (e.id, in_lower_case o.pin)) (ports e.kind) (each_from _ (ports e.kind) (λ o h. ap (λ n. (e.id, n)) (folded_twice o.pin)))))

edge_plain : (b : Bool) (id : ℕ) → Each (λ (x : Cell). plain_cell x ≡ x) (if b then ([], AtEdge id) ∷ [] else [])
edge_plain true id = (refl, tt)
edge_plain false id = tt

cells_plain : (es : List DiagramElement) → Each (λ (x : Cell). plain_cell x ≡ x) (flat_map element_cells es)
cells_plain es = each_flat_map _ _ es (each_from _ es (λ e there.
    each_append _ (if has_edge e.kind then ([], AtEdge e.id) ∷ [] else []) (map (λ (o : Port). ([], AtOutput e.id (in_lower_case o.pin))) e.fed) (edge_plain (has_edge e.kind) e.id)
    (each_map _ (λ (o : Port). ([], AtOutput e.id (in_lower_case o.pin))) e.fed (each_from _ e.fed (λ o h. ap (λ n. ([], AtOutput e.id n)) (folded_twice o.pin))))))

module _ (project : Project) (fits : ProjectFits project) (p : Pou) (one : PouFits project p) (nests : PouNests 16 project p) (es : List DiagramElement) (width : ℕ) where
  -- an output of an element of the network
  pub wire_right : (id : ℕ) (pin : List ℕ) → Contains (pins_of es) (id, in_lower_case pin) → IsWire (place_of project p es width) id pin
  wire_right id pin h = number_there plain_pin same_pin pins_decide (pins_of es) (pins_plain es) (id, pin) h (ap (λ n. (id, n)) (folded_twice pin))

  pub output_there : (e : DiagramElement) → Contains es e → (o : Port) → Contains (ports e.kind) o → Contains (pins_of es) (e.id, in_lower_case o.pin)
  output_there e there o h = contains_flat_map (λ (f : DiagramElement). map (λ (q : Port). (f.id, in_lower_case q.pin)) (ports f.kind)) es e (e.id, in_lower_case o.pin) there (contains_map (λ (q : Port). (e.id, in_lower_case q.pin)) (ports e.kind) o h)

  -- a memory of an element of the POU
  pub cell_right : (k : Memory) → Contains (flat_map element_cells p.elements) ([], plain_memory k) → IsCell (place_of project p es width) k
  cell_right k h =
      at_front (flat_map element_cells p.elements) (flat_map (instance_cells (cells inner_depth project) project) (variables_of p.lists)) (number_of same_cell (flat_map element_cells p.elements) ([], k)) ([], plain_memory k)
      (number_there plain_cell same_cell cells_decide (flat_map element_cells p.elements) (cells_plain p.elements) ([], k) h (ap (λ m. ([], m)) (plain_twice k)))

  pub edge_there : (e : DiagramElement) → Contains p.elements e → has_edge e.kind ≡ true → Contains (flat_map element_cells p.elements) ([], AtEdge e.id)
  edge_there e there h = contains_flat_map element_cells p.elements e ([], AtEdge e.id) there
      (Contains-append_left (if has_edge e.kind then ([], AtEdge e.id) ∷ [] else []) (map (λ (o : Port). ([], AtOutput e.id (in_lower_case o.pin))) e.fed) ([], AtEdge e.id)
      (subst (λ b. Contains {X = Cell} (if b then ([], AtEdge e.id) ∷ [] else []) ([], AtEdge e.id)) (sym h) (contains_first ([], AtEdge e.id) [])))

  pub fed_there : (e : DiagramElement) → Contains p.elements e → (o : Port) → Contains e.fed o → Contains (flat_map element_cells p.elements) ([], AtOutput e.id (in_lower_case o.pin))
  fed_there e there o h = contains_flat_map element_cells p.elements e ([], AtOutput e.id (in_lower_case o.pin)) there
      (Contains-append_right (if has_edge e.kind then ([], AtEdge e.id) ∷ [] else []) (map (λ (q : Port). ([], AtOutput e.id (in_lower_case q.pin))) e.fed) ([], AtOutput e.id (in_lower_case o.pin))
      (contains_map (λ (q : Port). ([], AtOutput e.id (in_lower_case q.pin))) e.fed o h))

  -- the outputs that are fixed before are among the network's
  abbrev pub Known : List (ℕ × Port) → Type 0
  Known done = (x : ℕ × Port) → Contains done x → Contains (pins_of es) (x.0, in_lower_case x.1.pin)

  module _ (done : List (ℕ × Port)) (known : Known done) where
    abbrev at : Standing
    at = record { project = project; pou = p; done = done }

    source_right : (t : Ty) (o : diagram.Source) → SourceFits at t o → RightSource (place_of project p es width) o
    source_right t diagram.Rail h = tt
    source_right t (diagram.Literal negated n) h = tt
    source_right t (diagram.Wire id pin) h = wire_right id pin (known (id, port pin t) h)
    source_right t (diagram.Back id pin) h = cell_right (AtOutput id pin) (subst (λ i. Contains (flat_map element_cells p.elements) ([], AtOutput i (in_lower_case pin))) h.2 (fed_there h.0 h.1 (port pin t) h.3))

    pub link_right : (link : Link) → LinkFits at link → RightLink (place_of project p es width) link
    link_right link h = record { first = source_right link.ty link.first h.first; others = each_weaker _ _ link.others (λ o k. source_right link.ty o k) h.others }

    pub enable_right : (id : ℕ) (enable : Enable) → EnableFits at enable → (has_eno enable ≡ true → IsWire (place_of project p es width) id (codes "ENO")) → RightEnable (place_of project p es width) id enable
    enable_right id enable h eno = record { en = λ link e. link_right link (h link e).0; eno = eno }

    pub inner_right : (i x : List ℕ) (within : List Variable) (t : Ty) → (inst : IsInstance (world_of project) (variables_of p.lists) i within) → (h : IsDeclaredAs within x t (λ class. (class ≢ tree.Temp) × (class ≢ tree.InOut)))
        → IsInner (place_of project p es width) i x
    inner_right i x within t inst h =
        slice_get-map (λ (y : Place). y.0) (places_of project (variables_of p.lists)) _
        ∙ ap (option_map (λ (y : Place). y.0)) (inner_place project (distinct_of project fits) p one nests i x inst.variable inst.found inst.composite within inst.parts h.variable t h.found h.typed (kept_class h.variable.class h.class.0 h.class.1))

    pub read_right : (o : diagram.Operand) (t : Ty) → OperandFits at o t → RightOperand (place_of project p es width) o
    read_right (diagram.Own x) t h = operand_right project (distinct_of project fits) p one nests es width x t h
    read_right (diagram.Output i x) t h =
        inner_right i x h.0 t h.1 (record { variable = h.2.variable; found = h.2.found; typed = h.2.typed; class = (output_no_temp h.2.variable.class h.2.class, output_no_in_out h.2.variable.class h.2.class) })
      where
        output_no_temp : (k : tree.Class) → k ≡ tree.Output → k ≢ tree.Temp
        output_no_temp k e f = let g : tree.Output ≡ tree.Temp = sym e ∙ f in absurd (cc)

        output_no_in_out : (k : tree.Class) → k ≡ tree.Output → k ≢ tree.InOut
        output_no_in_out k e f = let g : tree.Output ≡ tree.InOut = sym e ∙ f in absurd (cc)
