-- The text of a project that fits has all that the law on bodies asks for.
use Rattle.std.proofs.Common.{◌≡◌, ℕ, Bool, true, ◌||◌, List, [], ◌∷◌, ◌++◌, map, Some, refl, ap, ap₂, ◌∙◌, subst}
use Rattle.std.specs.List.{list_any, Contains}
use Rattle.std.specs.Str.{bytes_eq}
use Rattle.std.proofs.lemmas.Bool.{and_from, and_parts, or_right}
use Rattle.plcx_types.specs.declared.ty.Ty.{Ty}
use Rattle.plcx_types.specs.declared.ty.Ty.TheVariants as ty
use Rattle.plcx_types.specs.Name.{in_lower_case}
use Rattle.plcx_types.specs.TypeName.{type_named}
use Rattle.plcx_types.specs.Lists.{Each}
use Rattle.plcx_meaning.specs.Base.{Site, AtOutput}
use Rattle.plcx_meaning.specs.Tree.{Class, Local, Temp, Argument}
use Rattle.plcx_meaning.specs.Tree as tree
use Rattle.plcx_meaning.specs.Layout.{Variable, variables_of, variable_named, Elementary}
use Rattle.plcx_meaning.specs.Diagram.{Source, Rail, Literal, Wire, Back, Link, Operand, Own, Output, Storing, Stored, Inverted, Set, Reset, Enable, InputPin, InOutPin, OutputPin, ElementKind, Still, In, Out, Contact, Coil, Pass, Label, Jump, Return, Function, Call, Port, port, ports, DiagramElement, Pou, Project}
use Rattle.plcx_meaning.specs.Evaluate as evaluate
use Rattle.plcx_meaning.specs.Evaluate.{operand_leaf}
use Rattle.plcx_meaning.specs.Execute as text
use Rattle.plcx_meaning.specs.Execute.{Referent, Temporary, Kept, Instance, referent_by, referent, TextSetting, referent_of, Frame, parts_named, read_member, read_output, value_of, Formal, Takes, Binds, formal_by, formal, formal_named, is_bound, all_bound}
use Rattle.plcx_meaning.specs.Templates.{wire_name, memory_name, input_text, in_out_text, unit_of}
use Rattle.plcx_meaning.specs.Fits.{IsInstance, SourceFits, LinkFits, OperandFits, StoringFits, EnableFits, InputFits, InOutFits, OutputFits, all_listed, CallFits, TruthFits, KindFits, fixed_by, ElementsFit, PortsFit, PouFits, ProjectFits}
use Rattle.plcx_meaning.specs.Same.{IsDeclared}
use Rattle.plcx_meaning.proofs.Fed.{fed_ports}
use Rattle.plcx_meaning.proofs.Lists.{each_at, each_from, each_map, each_append}
use Rattle.plcx_meaning.proofs.LookupsOwn.{elementary_meaning, composed_meaning, wire_place, edge_place, fed_place, counter_place}
use Rattle.plcx_meaning.proofs.StaticsWorlds.{hidden, hidden_each}
use Rattle.plcx_meaning.proofs.Statics.{here, leaf_declared, in_text, own_name, variable_asked, parts_are, pou_fits, member_found, member_own}
use Rattle.plcx_meaning.proofs.Asked.{OperandAsked, SourceAsked, LinkAsked, TruthAsked, StoringAsked, EnableAsked, InputAsked, InOutAsked, OutputAsked, CallAsked, KindAsked, OwnAsked, ElementsAsked, BodyAsked}

-- a test over two lists, and over what a list is mapped to
any_right : {A : Type 0} (test : A → Bool) (xs ys : List A) → list_any test ys ≡ true → list_any test (xs ++ ys) ≡ true
any_right test [] ys h = h
any_right test (x ∷ xs) ys h = or_right (test x) (list_any test (xs ++ ys)) (any_right test xs ys h)

any_map : {A B : Type 0} (test : B → Bool) (f : A → B) (xs : List A) → list_any test (map f xs) ≡ list_any (λ x. test (f x)) xs
any_map test f [] = refl
any_map test f (x ∷ xs) = ap (λ b. test (f x) || b) (any_map test f xs)

-- each in-out of a block has an argument in the text
module _ (taken : List InputPin) (bound : List InOutPin) where
  one_bound : (k : Class) (name : List ℕ) → elim k [ tree.InOut ↦ list_any (λ (i : InOutPin). bytes_eq (in_lower_case i.name) (in_lower_case name)) bound | _ ↦ true ] ≡ true
      → elim k [ tree.InOut ↦ list_any (λ (a : Argument). bytes_eq (in_lower_case a.formal) (in_lower_case name)) (map input_text taken ++ map in_out_text bound) | _ ↦ true ] ≡ true
  one_bound tree.InOut name h = any_right _ (map input_text taken) (map in_out_text bound) (any_map (λ (a : Argument). bytes_eq (in_lower_case a.formal) (in_lower_case name)) in_out_text bound ∙ h)
  one_bound tree.Local name h = refl
  one_bound tree.Input name h = refl
  one_bound tree.Output name h = refl
  one_bound tree.Temp name h = refl

  within_bound : (vs rest : List Variable) → all_listed bound vs ≡ true → Each (λ (v : Variable). is_bound (map input_text taken ++ map in_out_text bound) v ≡ true) rest → all_bound (map input_text taken ++ map in_out_text bound) (vs ++ rest) ≡ true
  within_bound [] [] h all = refl
  within_bound [] (v ∷ rest) h all = and_from (is_bound (map input_text taken ++ map in_out_text bound) v) _ all.0 (within_bound [] rest refl all.1)
  within_bound (v ∷ vs) rest h all =
      let parts = and_parts _ (all_listed bound vs) h in
      and_from (is_bound (map input_text taken ++ map in_out_text bound) v) _ (one_bound v.class v.name parts.0) (within_bound vs rest parts.1 all)

module _ (project : Project) (p : Pou) (fits : ProjectFits project) (there : Contains project p) (site : Site) (ok : IsDeclared site) where
  -- the place of each wire that is fixed
  abbrev FixedAsked : List (ℕ × Port) → Type 0
  FixedAsked done = Each (λ (d : ℕ × Port). referent_of (here project p site) (wire_name d.0 d.1.pin) ≡ Temporary d.1.ty) done

  operand_asked : (done : List (ℕ × Port)) (operand : Operand) (t : Ty) → OperandFits (record { project = project; pou = p; done = done }) operand t → OperandAsked (here project p site) (variables_of p.lists) operand t
  operand_asked done (Own x) t h =
      let asked = variable_asked project p fits there site ok x t h in
      record { reads = asked.reads; declared = asked.declared }
  operand_asked done (Output i x) t h =
      let within : List Variable = h.0 in
      let v : Variable = h.2.variable in
      let world = text.world_of (unit_of project) in
      record {
        reads = λ s f.
            ap (λ o. read_output world o (in_lower_case x ∷ in_lower_case i ∷ site.path) s) (member_found project p fits there site ok i x within v h.1 h.2.found)
            ∙ ap₂ (λ m k. read_member m k (in_lower_case x ∷ in_lower_case i ∷ site.path) s) (elementary_meaning world v.ty t h.2.typed) h.2.class;
        declared = leaf_declared x (in_lower_case i ∷ site.path) (member_own project p fits there site ok i x within v h.1 h.2.found) (leaf_declared i site.path (own_name project p fits there site ok i h.1.variable h.1.found) ok.path);
      }

  source_asked : (done : List (ℕ × Port)) → FixedAsked done → (t : Ty) (s : Source) → SourceFits (record { project = project; pou = p; done = done }) t s → SourceAsked (here project p site) done t s
  source_asked done all t Rail h = h
  source_asked done all t (Literal negated n) h = h.1
  source_asked done all t (Wire id pin) h = (each_at (λ (d : ℕ × Port). referent_of (here project p site) (wire_name d.0 d.1.pin) ≡ Temporary d.1.ty) done (id, port pin t) all h, h)
  source_asked done all t (Back id pin) h =
      let e : DiagramElement = h.0 in
      subst (λ n. referent_of (here project p site) (memory_name (AtOutput n pin)) ≡ Kept t) h.2
      (fed_place project p (pou_fits project p fits there site ok) (text.world_of (unit_of project)) e (port pin t) h.1 h.3)

  sources_asked : (done : List (ℕ × Port)) → FixedAsked done → (t : Ty) (ss : List Source) → Each (SourceFits (record { project = project; pou = p; done = done }) t) ss → Each (SourceAsked (here project p site) done t) ss
  sources_asked done all t [] h = tt
  sources_asked done all t (s ∷ ss) h = (source_asked done all t s h.0, sources_asked done all t ss h.1)

  link_asked : (done : List (ℕ × Port)) → FixedAsked done → (link : Link) → LinkFits (record { project = project; pou = p; done = done }) link → LinkAsked (here project p site) done link
  link_asked done all link h = record { first = source_asked done all link.ty link.first h.first; others = sources_asked done all link.ty link.others h.others; negated = h.negated; several = h.several }

  links_asked : (done : List (ℕ × Port)) → FixedAsked done → (links : List Link) → Each (LinkFits (record { project = project; pou = p; done = done })) links → Each (LinkAsked (here project p site) done) links
  links_asked done all [] h = tt
  links_asked done all (l ∷ ls) h = (link_asked done all l h.0, links_asked done all ls h.1)

  storing_asked : (how : Storing) (t : Ty) → StoringFits how t → StoringAsked how t
  storing_asked Stored t h = tt
  storing_asked Inverted t h = h
  storing_asked Set t h = h
  storing_asked Reset t h = h

  enable_asked : (done : List (ℕ × Port)) → FixedAsked done → (enable : Enable) → EnableFits (record { project = project; pou = p; done = done }) enable → EnableAsked (here project p site) done enable
  enable_asked done all enable h link is = let one = h link is in (link_asked done all link one.0, one.1)

  formal_found : (i x : List ℕ) (within : List Variable) (v : Variable) (t : Ty) → IsInstance (evaluate.world_of project) (variables_of p.lists) i within → variable_named (in_lower_case x) within ≡ Some v → type_named v.ty ≡ Some t
      → formal_named (here project p site) i x ≡ formal_by (Elementary t) v.class
  formal_found i x within v t is found typed =
      let world = text.world_of (unit_of project) in
      ap (formal world) (member_found project p fits there site ok i x within v is found) ∙ ap (λ m. formal_by m v.class) (elementary_meaning world v.ty t typed)

  module _ (done : List (ℕ × Port)) (all : FixedAsked done) (i : List ℕ) (within : List Variable) (is : IsInstance (evaluate.world_of project) (variables_of p.lists) i within) where
    inputs_asked : (ins : List InputPin) → Each (InputFits (record { project = project; pou = p; done = done }) within) ins → Each (InputAsked (here project p site) done i) ins
    inputs_asked [] h = tt
    inputs_asked (a ∷ ins) h =
        let v : Variable = h.0.0.variable in (
          record {
            formal = formal_found i a.name within v a.link.ty is h.0.0.found h.0.0.typed ∙ ap (formal_by (Elementary a.link.ty)) h.0.0.class;
            link = link_asked done all a.link h.0.1;
            declared = leaf_declared a.name [] (member_own project p fits there site ok i a.name within v is h.0.0.found) refl;
          },
          inputs_asked ins h.1,
        )

    in_outs_asked : (ins : List InOutPin) → Each (InOutFits (record { project = project; pou = p; done = done }) within) ins → Each (InOutAsked (here project p site) (variables_of p.lists) i) ins
    in_outs_asked [] h = tt
    in_outs_asked (a ∷ ins) h =
        let v : Variable = h.0.1.variable in (
          record {
            ty = h.0.0;
            formal = formal_found i a.name within v h.0.0 is h.0.1.found h.0.1.typed ∙ ap (formal_by (Elementary h.0.0)) h.0.1.class;
            variable = variable_asked project p fits there site ok a.variable h.0.0 h.0.2;
          },
          in_outs_asked ins h.1,
        )

    outputs_asked : (outs : List OutputPin) → Each (OutputFits within) outs → Each (OutputAsked (here project p site) i) outs
    outputs_asked [] h = tt
    outputs_asked (o ∷ outs) h =
        let v : Variable = h.0.0.variable in
        let world = text.world_of (unit_of project) in (
          record {
            reads = λ q s. ap (λ w. read_output world w q s) (member_found project p fits there site ok i o.name within v is h.0.0.found) ∙ ap₂ (λ m k. read_member m k q s) (elementary_meaning world v.ty o.ty h.0.0.typed) h.0.0.class;
            negated = h.0.1;
            declared = leaf_declared o.name [] (member_own project p fits there site ok i o.name within v is h.0.0.found) refl;
          },
          outputs_asked outs h.1,
        )

  call_asked : (done : List (ℕ × Port)) → FixedAsked done → (i : List ℕ) (taken : List InputPin) (bound : List InOutPin) (given : List OutputPin) → CallFits (record { project = project; pou = p; done = done }) i taken bound given
      → CallAsked (here project p site) (variables_of p.lists) done i taken bound given
  call_asked done all i taken bound given h =
      let v : Variable = h.called.variable in
      let world = text.world_of (unit_of project) in
      record {
        variable = v;
        found = h.called.found;
        composite = h.called.composite;
        place = ap (referent world) (in_text project p fits there site ok i v h.called.found) ∙ ap (λ m. referent_by m v.class v.ty) (composed_meaning world v.ty h.called.composite);
        declared = leaf_declared i [] (own_name project p fits there site ok i v h.called.found) refl;
        inputs = inputs_asked done all i h.within h.called taken h.inputs;
        in_outs = in_outs_asked done all i h.within h.called bound h.in_outs;
        all =
            ap (all_bound (map input_text taken ++ map in_out_text bound)) (parts_are project p fits there site ok i h.within h.called)
            ∙ within_bound taken bound h.within (hidden project v.ty) h.all (hidden_each (λ (w : Variable). is_bound (map input_text taken ++ map in_out_text bound) w ≡ true) (λ k t. refl) (λ id pin t. refl) refl project v.ty);
        outputs = outputs_asked done all i h.within h.called given h.outputs;
      }

  truth_asked : (done : List (ℕ × Port)) → FixedAsked done → (link : Link) → TruthFits (record { project = project; pou = p; done = done }) link → TruthAsked (here project p site) done link
  truth_asked done all link h = (link_asked done all link h.0, h.1)

  kind_asked : (done : List (ℕ × Port)) → FixedAsked done → (k : ElementKind) → KindFits (record { project = project; pou = p; done = done }) k → KindAsked (here project p site) (variables_of p.lists) done k
  kind_asked done all Still h = tt
  kind_asked done all (In t negated operand) h = (operand_asked done operand t h.0, h.1)
  kind_asked done all (Out how x link) h = (variable_asked project p fits there site ok x link.ty h.0, storing_asked how link.ty h.1, link_asked done all link h.2)
  kind_asked done all (Contact how operand link) h = (operand_asked done operand ty.Bool h.0, truth_asked done all link h.1)
  kind_asked done all (Coil how x link) h = (variable_asked project p fits there site ok x ty.Bool h.0, truth_asked done all link h.1)
  kind_asked done all (Pass link) h = link_asked done all link h
  kind_asked done all (Label name) h = tt
  kind_asked done all (Jump label link) h = truth_asked done all link h
  kind_asked done all (Return link) h = truth_asked done all link h
  kind_asked done all (Function f t enable links negated) h = (
    record { function = h.0.function; group = h.0.group; applies = h.0.applies; inputs = links_asked done all links h.0.inputs },
    enable_asked done all enable h.1,
    h.2,
  )
  kind_asked done all (Call i enable taken bound given) h = (call_asked done all i taken bound given h.0, enable_asked done all enable h.1)

  own_asked : (e : DiagramElement) → Contains p.elements e → OwnAsked (here project p site) e
  own_asked e among =
      let pf : PouFits project p = pou_fits project p fits there site ok in
      let fit : PortsFit p e = each_at (PortsFit p) p.elements e pf.ports among in
      let world = text.world_of (unit_of project) in
      record {
        small = fit.small;
        wires = each_from _ (ports e.kind) (λ o is. wire_place project p pf world e o among is);
        edge = edge_place project p pf world e among;
        fed = each_from _ e.fed (λ o is. (fed_place project p pf world e o among is, each_at (Contains (ports e.kind)) e.fed o (fed_ports p e fit) is));
      }

  elements_asked : (done : List (ℕ × Port)) → FixedAsked done → (es : List DiagramElement) → ElementsFit project p done es → ElementsAsked (here project p site) (variables_of p.lists) done es
  elements_asked done all [] h = tt
  elements_asked done all (e ∷ es) h =
      let asked = own_asked e h.0 in
      (asked, h.1, kind_asked done all e.kind h.2, elements_asked (fixed_by e ++ done) (each_append _ (fixed_by e) done (each_map _ (λ (o : Port). (e.id, o)) (ports e.kind) asked.wires) all) es h.3)

  networks_asked : (networks : List (List DiagramElement)) → Each (ElementsFit project p []) networks → Each (ElementsAsked (here project p site) (variables_of p.lists) []) networks
  networks_asked [] h = tt
  networks_asked (es ∷ rest) h = (elements_asked [] tt es h.0, networks_asked rest h.1)

-- a body of a project that fits
pub ask_body : (project : Project) (p : Pou) → ProjectFits project → Contains project p → (site : Site) → IsDeclared site → BodyAsked (here project p site) (variables_of p.lists) p.networks
ask_body project p fits there site ok =
    let pf : PouFits project p = pou_fits project p fits there site ok in
    record {
      networks = networks_asked project p fits there site ok p.networks pf.networks;
      counter = counter_place project p pf (text.world_of (unit_of project));
    }
