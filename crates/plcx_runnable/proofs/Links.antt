-- Sources and links, and what is stored, at their types.
use Rattle.std.proofs.Common.{◌≡◌, ◌≢◌, ℕ, ◌+◌, ◌<◌, ◌≤◌, Bool, true, false, List, [], ◌∷◌, length, Some, refl, sym, ap, subst}
use Rattle.std.specs.Prelude.{slice_get}
use Rattle.std.specs.List.{Contains}
use Rattle.plcx_types.specs.declared.ty.Ty.{Ty}
use Rattle.plcx_types.specs.declared.ty.Ty.TheVariants as ty
use Rattle.plcx_types.specs.Lists.{Each}
use Rattle.plcx_meaning.specs.Base.{AtOutput}
use Rattle.plcx_meaning.specs.Layout.{is_kept}
use Rattle.plcx_meaning.specs.Diagram as diagram
use Rattle.plcx_meaning.specs.Diagram.{Link, Storing, Stored, Inverted, Set, Reset, Port, port}
use Rattle.plcx_meaning.specs.Fits.{Standing, SourceFits, LinkFits, OperandFits, StoringFits}
use Rattle.plcx_meaning.proofs.Lists.{each_append}
use Rattle.plcx_steps.specs.declared.program.Operand.{Operand}
use Rattle.plcx_steps.specs.declared.program.Source.{Source}
use Rattle.plcx_steps.specs.Typed.{IsPlacedOf}
use Rattle.plcx_numbered.specs.Prepared.{source_of, operand_of, or_steps, not_steps, joined_steps, link_steps, link_source, store_steps}
use Rattle.plcx_numbered.specs.Numbers.{cell_types, depth, pins_of, spare_wires}
use Rattle.plcx_runnable.proofs.Memories.{fed_typed}
use Rattle.plcx_runnable.proofs.Outputs.{outputs, spare_typed, wire_typed}
use Rattle.plcx_runnable.proofs.Variables.{operand_typed, inner_typed}
use Rattle.plcx_runnable.proofs.Good.{Ground, num, shape, Good, Sources, Wires}

module _ (g : Ground) where
  -- the wire of an output, and a spare one
  pub output_wire : (id : ℕ) (o : Port) → Contains (outputs g.elements) (id, o) → Wires g ((num g).wire id o.pin) o.ty
  output_wire id o h = wire_typed g.project g.fits g.pou g.pou_fits g.nests g.elements g.pins_apart id o h

  pub spare_wire : (w : ℕ) → length (pins_of g.elements) ≤ w → w < length (pins_of g.elements) + spare_wires g.elements → Wires g w ty.Bool
  spare_wire w past low = spare_typed g.elements w past low

  -- where an element stands, behind these outputs, which are the network's
  abbrev pub at : List (ℕ × Port) → Standing
  at done = record { project = g.project; pou = g.pou; done = done }

  abbrev pub Known : List (ℕ × Port) → Type 0
  Known done = (x : ℕ × Port) → Contains done x → Contains (outputs g.elements) x

  -- ---- sources

  module _ (done : List (ℕ × Port)) (known : Known done) where
    source_typed : (t : Ty) (o : diagram.Source) → SourceFits (at done) t o → Sources g (source_of (num g) t o) t
    source_typed t diagram.Rail h = sym h
    source_typed t (diagram.Literal negated n) h = refl
    source_typed t (diagram.Wire id pin) h = output_wire id (port pin t) (known (id, port pin t) h)
    source_typed t (diagram.Back id pin) h =
        subst (λ i. slice_get (cell_types depth g.project g.pou) ((num g).memory (AtOutput i pin)) ≡ Some t) h.2
        (fed_typed g.project g.fits g.pou g.pou_fits g.nests g.elements g.cells_apart h.0 h.1 (port pin t) h.3)

    -- a wire with truth values
    module _ (w : ℕ) (spare : Wires g w ty.Bool) where
      ors_good : (t : Ty) → t ≡ ty.Bool → (os : List diagram.Source) → Each (SourceFits (at done) t) os → Each (Good g) (or_steps (num g) t w os)
      ors_good t bool [] h = tt
      ors_good t bool (o ∷ os) h = (((spare, subst (Sources g (source_of (num g) t o)) bool (source_typed t o h.0), spare), tt), ors_good t bool os h.1)

      pub nots_good : (negated : Bool) → Each (Good g) (not_steps negated w)
      nots_good true = (((spare, spare), tt), tt)
      nots_good false = tt

      pub joined_good : (link : Link) → LinkFits (at done) link → link.ty ≡ ty.Bool → Each (Good g) (joined_steps (num g) w link)
      joined_good link h bool = (
        ((ty.Bool, subst (Sources g (source_of (num g) link.ty link.first)) bool (source_typed link.ty link.first h.first), spare), tt),
        each_append (Good g) (or_steps (num g) link.ty w link.others) (not_steps link.negated w) (ors_good link.ty bool link.others h.others) (nots_good link.negated),
      )

      -- a link, and what stands there behind its steps
      pub link_good : (link : Link) → LinkFits (at done) link → Each (Good g) (link_steps (num g) w link) × Sources g (link_source (num g) w link) link.ty
      link_good link h = by_parts link.ty link.negated link.first link.others (record { first = h.first; others = h.others; negated = h.negated; several = h.several; few = h.few })
        where
          by_parts : (t : Ty) (negated : Bool) (first : diagram.Source) (others : List diagram.Source) → LinkFits (at done) (record { ty = t; negated = negated; first = first; others = others })
              → Each (Good g) (link_steps (num g) w (record { ty = t; negated = negated; first = first; others = others })) × Sources g (link_source (num g) w (record { ty = t; negated = negated; first = first; others = others })) t
          by_parts t true first others k = let bool = k.negated refl in (joined_good (record { ty = t; negated = true; first = first; others = others }) k bool, subst (λ u. Wires g w u) (sym bool) spare)
          by_parts t false first (o ∷ os) k =
              let some : (o ∷ os) ≢ [] = λ e. (let f : o ∷ os ≡ [] = e in cc) in
              let bool = k.several some in
              (joined_good (record { ty = t; negated = false; first = first; others = o ∷ os }) k bool, subst (λ u. Wires g w u) (sym bool) spare)
          by_parts t false first [] k = (tt, source_typed t first k.first)

  -- ---- what is read, and what is stored

  pub read_typed : (done : List (ℕ × Port)) (o : diagram.Operand) (t : Ty) → OperandFits (at done) o t → Sources g (operand_of (num g) o) t
  read_typed done (diagram.Own x) t h = operand_typed g.project g.fits g.pou g.pou_fits g.nests g.elements x t h
  read_typed done (diagram.Output i x) t h =
      inner_typed g.project g.fits g.pou g.pou_fits g.nests g.elements i x h.0 t h.1 (record { variable = h.2.variable; found = h.2.found; typed = h.2.typed; class = ap is_kept h.2.class })

  pub stored_good : (how : Storing) (t : Ty) (to : Operand) (s : Source) (w : ℕ) → StoringFits how t → IsPlacedOf (shape g) to t → Sources g s t → Wires g w ty.Bool → Each (Good g) (store_steps how to s w)
  stored_good Stored t to s w h placed source spare = (((t, placed, source), tt), tt)
  stored_good Inverted t to s w bool placed source spare = (((subst (Sources g s) bool source, spare), tt), (((ty.Bool, subst (IsPlacedOf (shape g) to) bool placed, spare), tt), tt))
  stored_good Set t to s w bool placed source spare = ((tt, (t, source)), (((ty.Bool, subst (IsPlacedOf (shape g) to) bool placed, refl), tt), tt))
  stored_good Reset t to s w bool placed source spare = ((tt, (t, source)), (((ty.Bool, subst (IsPlacedOf (shape g) to) bool placed, refl), tt), tt))
