-- One element, and the elements of a network: the text does what the diagram does.
use Rattle.std.proofs.Common.{◌≡◌, ℕ, ◌<◌, ◌^◌, true, List, [], ◌∷◌, ◌++◌, map, refl, sym, ap, ◌∙◌}
use Rattle.std.specs.List.{Contains}
use Rattle.plcx_types.specs.declared.ty.Ty.TheVariants as ty
use Rattle.plcx_types.specs.Name.{in_lower_case}
use Rattle.plcx_funcs.specs.Applied.{value}
use Rattle.plcx_types.specs.Lists.{Each}
use Rattle.plcx_meaning.specs.Base.{AtEdge, AtOutput, Ended, then_do, not_if}
use Rattle.plcx_meaning.specs.Layout.{Variable}
use Rattle.plcx_meaning.specs.Functions.{Given}
use Rattle.plcx_meaning.specs.Diagram.{ElementKind, Still, In, Out, Contact, Coil, Pass, Label, Jump, Return, Function, Call, Contacting, Open, Closed, RisingContact, FallingContact, Coiling, By, RisingCoil, FallingCoil, Link, Port, port, ports, has_edge, DiagramElement}
use Rattle.plcx_meaning.specs.Evaluate.{DiagramState, Wires, DiagramCalls, DiagramSetting, set_memory, link_value, operand_leaf, kind_does, feed, outputs_heard, element_does}
use Rattle.plcx_meaning.specs.Execute.{Temporary, Kept, TextSetting, referent_of, TextState, Frame, value_of, TextCalls, list_runs}
use Rattle.plcx_meaning.specs.Templates.{wire_name, memory_name, wire, link_text, operand_text, kind_text, feed_text, element_text, elements_text}
use Rattle.plcx_meaning.specs.Templates as templates
use Rattle.plcx_meaning.specs.Same.{Agree, IsDeclared}
use Rattle.plcx_meaning.specs.Fits.{fixed_by, is_fresh}
use Rattle.plcx_meaning.proofs.Lists.{each_at}
use Rattle.plcx_meaning.proofs.Alike.{Alike, both_end, alike_then, alike_as, heard_alike}
use Rattle.plcx_meaning.proofs.Asked.{LinkAsked, KindAsked, OwnAsked, SameWires, CallsAlike, ElementsAlike}
use Rattle.plcx_meaning.proofs.Agree.{agree_memory}
use Rattle.plcx_meaning.proofs.Links.{assign_memory, negated_known, wire_known, operand_known, link_known}
use Rattle.plcx_meaning.proofs.Simple.{contacts_edge, coils_edge, fix_alike, store_alike, contact_alike, coil_alike}
use Rattle.plcx_meaning.proofs.Applying.{function_alike}
use Rattle.plcx_meaning.proofs.Calling.{call_alike}
use Rattle.plcx_meaning.proofs.BodiesSteps.{run_append}

contact_has : (how : Contacting) (operand : Rattle.plcx_meaning.specs.Diagram.Operand) (link : Link) → contacts_edge how ≡ has_edge (Contact how operand link)
contact_has Open operand link = refl
contact_has Closed operand link = refl
contact_has RisingContact operand link = refl
contact_has FallingContact operand link = refl

coil_has : (how : Coiling) (x : List ℕ) (link : Link) → coils_edge how ≡ has_edge (Coil how x link)
coil_has (By how) x link = refl
coil_has RisingCoil x link = refl
coil_has FallingCoil x link = refl

-- the wire of one of an element's outputs
of_ports : (id : ℕ) (outs : List Port) (o : Port) (done : List (ℕ × Port)) (ws : Wires) (f : Frame) → SameWires (map (λ (p : Port). (id, p)) outs ++ done) ws f → Contains outs o → ws id o.pin ≡ f (in_lower_case (wire_name id o.pin))
of_ports id outs o done ws f same there = each_at (λ (p : Port). ws id p.pin ≡ f (in_lower_case (wire_name id p.pin))) outs o (fronts outs same) there
  where
    fronts : (outs : List Port) → SameWires (map (λ (p : Port). (id, p)) outs ++ done) ws f → Each (λ (p : Port). ws id p.pin ≡ f (in_lower_case (wire_name id p.pin))) outs
    fronts [] s = tt
    fronts (p ∷ ps) s = (s.0, fronts ps s.1)

module _ (c : TextSetting) (pou : ℕ) (vs : List Variable) (called : DiagramCalls) (call : TextCalls) (site : IsDeclared c.site) (calls : CallsAlike vs called call) where
  abbrev setting : DiagramSetting
  setting = record { pou = pou; variables = vs; site = c.site; called = called }

  -- a link of truth values
  truth_known : (done : List (ℕ × Port)) (link : Link) → LinkAsked c done link → link.ty ≡ ty.Bool → (d : DiagramState) (ws : Wires) (g : TextState) (f : Frame) → Agree d g → SameWires done ws f
      → value_of (link_text link) c g.store f ≡ Given (value ty.Bool (link_value c.site.path d ws link))
  truth_known done link asked is d ws g f a same = link_known c site done d ws g f a same link asked ∙ ap (λ u. Given (value u (link_value c.site.path d ws link))) is

  kind_alike : (k : ElementKind) (id : ℕ) → id < 2 ^ 64 → (done : List (ℕ × Port)) → is_fresh id done ≡ true → KindAsked c vs done k → Each (λ (o : Port). referent_of c (wire_name id o.pin) ≡ Temporary o.ty) (ports k)
      → (has_edge k ≡ true → referent_of c (memory_name (AtEdge id)) ≡ Kept ty.Bool) → (d : DiagramState) (ws : Wires) (g : TextState) (f : Frame) → Agree d g → SameWires done ws f
      → Alike (SameWires (map (λ (o : Port). (id, o)) (ports k) ++ done)) (kind_does k id setting d ws) (list_runs (kind_text k id) c call g f)
  kind_alike Still id small done fresh asked places edge d ws g f a same = both_end a same
  kind_alike (Label name) id small done fresh asked places edge d ws g f a same = both_end a same
  kind_alike (In t negated operand) id small done fresh asked places edge d ws g f a same =
      let n = d.store (operand_leaf vs c.site operand) in
      fix_alike c vs call site id small (port [] t) (templates.not_if negated (operand_text operand)) (not_if negated n) done d ws g f places.0 a same
      (negated_known c g.store f negated (operand_text operand) t n asked.1 (operand_known c vs d g f operand t a asked.0))
  kind_alike (Out how x link) id small done fresh asked places edge d ws g f a same =
      store_alike c vs call site how x link.ty (link_text link) (link_value c.site.path d ws link) done d ws g f asked.0 asked.1 a same (link_known c site done d ws g f a same link asked.2)
  kind_alike (Contact how operand link) id small done fresh asked places edge d ws g f a same =
      contact_alike c vs call site how id small operand (link_text link) (link_value c.site.path d ws link) done d ws g f places.0 (λ h. edge (sym (contact_has how operand link) ∙ h)) asked.0 a same
      (truth_known done link asked.1.0 asked.1.1 d ws g f a same)
  kind_alike (Coil how x link) id small done fresh asked places edge d ws g f a same =
      coil_alike c vs call site how x id small (link_text link) (link_value c.site.path d ws link) done d ws g f places.0 (λ h. edge (sym (coil_has how x link) ∙ h)) asked.0 a same
      (truth_known done link asked.1.0 asked.1.1 d ws g f a same)
  kind_alike (Pass link) id small done fresh asked places edge d ws g f a same =
      fix_alike c vs call site id small (port [] link.ty) (link_text link) (link_value c.site.path d ws link) done d ws g f places.0 a same (link_known c site done d ws g f a same link asked)
  kind_alike (Jump label link) id small done fresh asked places edge d ws g f a same =
      fix_alike c vs call site id small (port [] ty.Bool) (link_text link) (link_value c.site.path d ws link) done d ws g f places.0 a same (truth_known done link asked.0 asked.1 d ws g f a same)
  kind_alike (Return link) id small done fresh asked places edge d ws g f a same =
      fix_alike c vs call site id small (port [] ty.Bool) (link_text link) (link_value c.site.path d ws link) done d ws g f places.0 a same (truth_known done link asked.0 asked.1 d ws g f a same)
  kind_alike (Function fn t enable links negated) id small done fresh asked places edge d ws g f a same =
      function_alike c call site done d ws g a f same fn t enable links negated id small fresh asked.0 asked.1 asked.2 places
  kind_alike (Call instance enable taken bound given) id small done fresh asked places edge d ws g f a same =
      call_alike c pou vs called call site calls instance enable taken bound given id small done fresh asked.0 asked.1 places d ws g f a same

  -- what feeds back is remembered on both sides
  feed_alike : (id : ℕ) → id < 2 ^ 64 → (outs : List Port) (fed : List Port) → Each (λ (o : Port). referent_of c (wire_name id o.pin) ≡ Temporary o.ty) outs → Each (λ (o : Port). (referent_of c (memory_name (AtOutput id o.pin)) ≡ Kept o.ty) × Contains outs o) fed
      → (done : List (ℕ × Port)) (d : DiagramState) (ws : Wires) (g : TextState) (f : Frame) → Agree d g → SameWires (map (λ (o : Port). (id, o)) outs ++ done) ws f
      → Alike (SameWires (map (λ (o : Port). (id, o)) outs ++ done)) (Ended (feed id fed c.site.path ws d) ws) (list_runs (map (feed_text id) fed) c call g f)
  feed_alike id small outs [] places asked done d ws g f a same = both_end a same
  feed_alike id small outs (o ∷ fed) places asked done d ws g f a same =
      let n = ws id o.pin in
      let place = each_at _ outs o places asked.0.1 in
      let equal = of_ports id outs o done ws f same asked.0.1 in
      let known = wire_known c g.store f id o.pin o.ty place ∙ ap (λ m. Given (value o.ty m)) (sym equal) in
      let first = assign_memory c call g f (AtOutput id o.pin) (wire id o.pin) o.ty n asked.0.0 known in
      alike_as _ _ (ap (λ q. then_do q (list_runs (map (feed_text id) fed) c call)) first)
      (feed_alike id small outs fed places asked.1 done (set_memory d c.site.path (AtOutput id o.pin) n) ws _ f (agree_memory d g c.site.path (AtOutput id o.pin) n small a) same)

  element_alike : (e : DiagramElement) (done : List (ℕ × Port)) → OwnAsked c e → is_fresh e.id done ≡ true → KindAsked c vs done e.kind → (d : DiagramState) (ws : Wires) (g : TextState) (f : Frame) → Agree d g → SameWires done ws f
      → Alike (SameWires (fixed_by e ++ done)) (element_does e setting d ws) (list_runs (element_text e) c call g f)
  element_alike e done own fresh asked d ws g f a same =
      alike_as _ _ (run_append (kind_text e.kind e.id) (map (feed_text e.id) e.fed) c call g f)
      (alike_then _ _ _ _ (kind_alike e.kind e.id own.small done fresh asked own.wires own.edge d ws g f a same)
      (λ d' ws' g' f' a' same'. heard_alike (outputs_heard pou e.id 0 (ports e.kind) ws') _ ws' _ (feed_alike e.id own.small (ports e.kind) e.fed own.wires own.fed done d' ws' g' f' a' same')))

  pub elements_alike : ElementsAlike c pou vs called call
  elements_alike done [] asked d ws g f a same = both_end a same
  elements_alike done (e ∷ es) asked d ws g f a same =
      alike_as _ _ (run_append (element_text e) (elements_text es) c call g f)
      (alike_then _ _ _ _ (element_alike e done asked.0 asked.1 asked.2 d ws g f a same)
      (λ d' ws' g' f' a' same'. elements_alike (fixed_by e ++ done) es asked.3 d' ws' g' f' a' same'))
