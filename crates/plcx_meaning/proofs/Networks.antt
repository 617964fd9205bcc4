-- The law on the networks and bodies of a project, each said of its statements.
use Rattle.std.proofs.Common.{◌≡◌, ℕ, List, [], ◌∷◌, ◌++◌, map}
use Rattle.std.specs.List.{Contains}
use Rattle.plcx_types.specs.Lists.{Each}
use Rattle.plcx_types.specs.Name.{in_lower_case}
use Rattle.plcx_meaning.specs.Base.{Site, Outcome, Ended, Stopped, Stuck}
use Rattle.plcx_meaning.specs.Layout.{variables_of}
use Rattle.plcx_meaning.specs.Diagram.{Port, ports, DiagramElement, Pou, Project}
use Rattle.plcx_meaning.specs.Evaluate.{Wires, DiagramState, no_wires, place_named}
use Rattle.plcx_meaning.specs.Execute.{TextState, Frame}
use Rattle.plcx_meaning.specs.Templates.{wire_name, unit_of}
use Rattle.plcx_meaning.specs.Fits.{fixed_by, PouNests, ProjectFits}
use Rattle.plcx_meaning.specs.Same.{AlikeAt, IsDeclared}
use Rattle.plcx_meaning.specs.Laws.{HoldWires, OfPous, NetworkAgrees, NetworksAgree, BodiesAgree, diagram_calls, text_calls}
use Rattle.plcx_meaning.proofs.Asked.{ElementsAsked, SameWires, done_after}
use Rattle.plcx_meaning.proofs.Elements.{elements_alike}
use Rattle.plcx_meaning.proofs.Nesting.{user_alike, blocks_alike}
use Rattle.plcx_meaning.proofs.Statics.{here}
use Rattle.plcx_meaning.proofs.StaticsBodies.{ask_body}

-- the wires of an element, apart from those that were fixed before
parted : (id : ℕ) (outs : List Port) (done : List (ℕ × Port)) (ws : Wires) (f : Frame) → SameWires (map (λ (o : Port). (id, o)) outs ++ done) ws f
    → Each (λ (o : Port). ws id o.pin ≡ f (in_lower_case (wire_name id o.pin))) outs × SameWires done ws f
parted id [] done ws f same = (tt, same)
parted id (o ∷ outs) done ws f same = let rest = parted id outs done ws f same.1 in ((same.0, rest.0), rest.1)

-- the wires of all elements, apart from those that were fixed before
held : (es : List DiagramElement) (done : List (ℕ × Port)) (ws : Wires) (f : Frame) → SameWires (done_after es done) ws f → HoldWires es ws f × SameWires done ws f
held [] done ws f same = (tt, same)
held (e ∷ es) done ws f same =
    let rest = held es (fixed_by e ++ done) ws f same in
    let own = parted e.id (ports e.kind) done ws f rest.1 in
    ((own.0, rest.0), own.1)

hold_alike : (es : List DiagramElement) (o : Outcome DiagramState Wires) (p : Outcome TextState Frame) → AlikeAt (SameWires (done_after es [])) o p → AlikeAt (HoldWires es) o p
hold_alike es (Ended d ws) (Ended g f) a = (a.0, (held es [] ws f a.1).0)
hold_alike es (Ended d ws) (Stopped s g) a = absurd a
hold_alike es (Ended d ws) Stuck a = absurd a
hold_alike es (Stopped s d) (Ended g f) a = absurd a
hold_alike es (Stopped s d) (Stopped r g) a = a
hold_alike es (Stopped s d) Stuck a = absurd a
hold_alike es Stuck p a = absurd a

module _ (project : Project) (fits : ProjectFits project) (p : Pou) (there : Contains project p) (n : ℕ) (nests : PouNests n project p) (time : ℕ) (site : Site) (ok : IsDeclared site) where
  all_networks : (networks : List (List DiagramElement)) → Each (ElementsAsked (here project p site) (variables_of p.lists) []) networks
      → Each (NetworkAgrees n time project p site) networks
  all_networks [] asked = tt
  all_networks (es ∷ networks) asked = (
    (λ d g f agree. hold_alike es _ _
        (elements_alike (here project p site) (place_named p.name project) (variables_of p.lists) (diagram_calls n time project) (text_calls n time (unit_of project)) ok
        (blocks_alike project fits time n p there nests) [] es asked.0 d no_wires g f agree tt).is),
    all_networks networks asked.1,
  )

pub networks_law : OfPous NetworksAgree
networks_law project fits p there n nests time site ok = all_networks project fits p there n nests time site ok p.networks (ask_body project p fits there site ok).networks

pub bodies_law : OfPous BodiesAgree
bodies_law project fits p there n nests time site ok d g agree =
    (user_alike project fits time p there (diagram_calls n time project) (text_calls n time (unit_of project)) (blocks_alike project fits time n p there nests) site ok d g agree).is
