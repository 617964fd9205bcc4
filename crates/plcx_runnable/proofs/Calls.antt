-- The steps of a call.
use Rattle.std.proofs.Common.{◌≡◌, ℕ, suc, ◌+◌, ◌≤◌, Bool, true, false, List, [], ◌∷◌, ◌++◌, length, map, Option, Some, None, refl, sym, ap, ap₂, ◌∙◌, subst, arith}
use Rattle.std.specs.Prelude.{slice_get, slice_range, unwrap_or, codes, if◌then◌else◌}
use Rattle.std.specs.List.{flat_map, Contains}
use Rattle.std.proofs.lemmas.List.{length-map}
use Rattle.std.proofs.lemmas.Option.{same_Some}
use Rattle.plcx_types.specs.declared.ty.Ty.TheVariants as ty
use Rattle.plcx_types.specs.Name.{in_lower_case}
use Rattle.plcx_types.specs.Lists.{Each}
use Rattle.plcx_std.specs.declared.kind.StdKind.{StdKind}
use Rattle.plcx_std.specs.Kind.{kind_named}
use Rattle.plcx_std.specs.Pins.{Pin, pins}
use Rattle.plcx_meaning.specs.Base.{are_distinct}
use Rattle.plcx_meaning.specs.Layout.{Variable, variables_of, variable_named, composed, is_kept}
use Rattle.plcx_meaning.specs.Diagram.{Enable, eno_negated, eno_ports, InputPin, InOutPin, OutputPin, output_ports, Port, port, Pou, block_named}
use Rattle.plcx_meaning.specs.Evaluate.{is_in_out, place_named, world_of}
use Rattle.plcx_meaning.specs.Fits.{IsInstance, InputFits, InOutFits, OutputFits, all_listed, EnableFits, CallFits, VariableFits, PouFits, PouNests}
use Rattle.plcx_meaning.proofs.Lists.{each_at, each_append}
use Rattle.plcx_meaning.proofs.Enabling.{each_split}
use Rattle.plcx_meaning.proofs.Fed.{passing_among}
use Rattle.plcx_meaning.proofs.ReadyUnits.{named_each}
use Rattle.plcx_meaning.proofs.StaticsWorlds.{block_fits}
use Rattle.plcx_meaning.proofs.Units.{variable_there}
use Rattle.plcx_steps.specs.declared.program.Operand.{Operand}
use Rattle.plcx_steps.specs.declared.program.Operand.TheVariants.{Leaf}
use Rattle.plcx_steps.specs.declared.program.Source.{Source}
use Rattle.plcx_steps.specs.declared.program.Source.TheVariants as source
use Rattle.plcx_steps.specs.declared.program.Action.TheVariants.{Fix, Not, Standard}
use Rattle.plcx_steps.specs.declared.program.Step.TheVariants.{Act, Enter}
use Rattle.plcx_steps.specs.declared.program.Body.{Body}
use Rattle.plcx_steps.specs.Sound.{ArePlaced, Enters}
use Rattle.plcx_steps.specs.Typed.{IsPlacedOf, IsTypedEntry}
use Rattle.plcx_numbered.specs.Prepared.{Callee, Block, User, not_steps, link_steps, input_steps, bound_variable, call_steps, bindings, output_steps, enable_steps, under, eno_steps, called_steps}
use Rattle.plcx_numbered.specs.Numbers.{Place, places, variable_places, first_leaf, element_cells, cells, level, instance_level, in_out_names, places_of, depth, inner_depth, leaf_count, cell_count, callee_of, user_of, spare_wires}
use Rattle.plcx_numbered.specs.Programs.{IsBodyOf}
use Rattle.plcx_numbered.proofs.Leaves.{names_of, composed_user, composed_standard}
use Rattle.plcx_numbered.proofs.Nested.{is_user, levels_steady, highest_of}
use Rattle.plcx_numbered.proofs.Variables.{composed_places, pins_places, within_steady, found_again, within_place}
use Rattle.plcx_numbered.proofs.Sources.{distinct_of}
use Rattle.plcx_numbered.proofs.Callees.{place_block, bound_in, listed_each}
use Rattle.plcx_numbered.proofs.Numbers.{there_at}
use Rattle.plcx_numbered.proofs.Programs.{body_at}
use Rattle.plcx_runnable.specs.Shapes.{in_out_type, types_of}
use Rattle.plcx_runnable.proofs.Lists.{mapped_at, mapped_from, each_get, StandsAt, stands_within}
use Rattle.plcx_runnable.proofs.Memories.{first_within, instance_memories, memories_within}
use Rattle.plcx_runnable.proofs.Variables.{in_outs_of, operand_typed, inner_typed}
use Rattle.plcx_runnable.proofs.Good.{Ground, IsShapeOf, placed_within, num, shapes, shape, wires, Good, Wires}
use Rattle.plcx_runnable.proofs.Links.{output_wire, spare_wire, at, Known, link_good}
use Rattle.plcx_runnable.proofs.Applying.{IsOutput, enable_good, under_good, eno_good, eno_not_good}

module _ (g : Ground) (same : IsShapeOf g.body (shape g)) (done : List (ℕ × Port)) (known : Known g done) where
  abbrev vs : List Variable
  vs = variables_of g.pou.lists

  -- ---- inputs and outputs

  module _ (instance : List ℕ) (within : List Variable) (inst : IsInstance (world_of g.project) vs instance within) where
    inputs_good : (w : ℕ) → Wires g w ty.Bool → w ≡ (num g).spare + 1 → (is : List InputPin) → Each (InputFits (at g done) within) is → Each (Good g) (input_steps (num g) instance is)
    inputs_good w spare e [] h = tt
    inputs_good w spare e (i ∷ is) h =
        let link = link_good g done known ((num g).spare + 1) (subst (λ n. Wires g n ty.Bool) e spare) i.link h.0.1 in
        let leaf = inner_typed g.project g.fits g.pou g.pou_fits g.nests g.elements instance i.name within i.link.ty inst
        (record { variable = h.0.0.variable; found = h.0.0.found; typed = h.0.0.typed; class = ap is_kept h.0.0.class }) in
        each_append (Good g) (link_steps (num g) ((num g).spare + 1) i.link) _ link.0 (((i.link.ty, leaf, link.1), tt), inputs_good w spare e is h.1)

    outputs_good : (id : ℕ) (os : List OutputPin) → Each (OutputFits within) os → Each (IsOutput g done known id) (output_ports os) → Each (Good g) (output_steps (num g) instance id os)
    outputs_good id [] h outs = tt
    outputs_good id (o ∷ os) h outs = (by_test o.negated h.0.1, outputs_good id os h.1 outs.1)
      where
        leaf : slice_get (shape g).leaves ((num g).inner instance o.name) ≡ Some o.ty
        leaf = inner_typed g.project g.fits g.pou g.pou_fits g.nests g.elements instance o.name within o.ty inst (record { variable = h.0.0.variable; found = h.0.0.found; typed = h.0.0.typed; class = ap is_kept h.0.0.class })

        wire : Wires g ((num g).wire id o.name) o.ty
        wire = output_wire g id (port o.name o.ty) outs.0

        from : Source
        from = source.Variable (Leaf ((num g).inner instance o.name))

        by_test : (b : Bool) → (b ≡ true → o.ty ≡ ty.Bool) → Good g (if b then Act (Not from ((num g).wire id o.name)) else Act (Fix from ((num g).wire id o.name)))
        by_test true bool = ((leaf ∙ ap Some (bool refl), subst (Wires g ((num g).wire id o.name)) (bool refl) wire), tt)
        by_test false bool = ((o.ty, leaf, wire), tt)

  -- ---- what is called

  module _ (instance : List ℕ) (in_outs : List InOutPin) (within : List Variable) (inst : IsInstance (world_of g.project) vs instance within) (bound : Each (InOutFits (at g done) within) in_outs) (all : all_listed in_outs within ≡ true) where
    abbrev key : List ℕ
    key = in_lower_case instance

    abbrev v : Variable
    v = inst.variable

    abbrev leaf : ℕ
    leaf = first_leaf (leaf_count g.project) key vs

    abbrev memory : ℕ
    memory = length (flat_map element_cells g.pou.elements) + first_leaf (cell_count g.project) key vs

    -- a standard block
    standard_good : (k : StdKind) → kind_named v.ty ≡ Some k → Good g (Act (Standard k leaf))
    standard_good k e = (
      (λ i q there.
          mapped_at (λ (y : Place). y.1) (places_of g.project vs) (leaf + i) (in_lower_case q.name ∷ key ∷ [], q.ty)
          (within_place g.project (distinct_of g.project g.fits) g.pou g.pou_fits g.nests instance v inst.found inst.composite i (in_lower_case q.name ∷ []) q.ty
          (ap (λ l. slice_get l i) (ap (places depth (world_of g.project)) (composed_standard (world_of g.project) v.ty k e) ∙ pins_places 17 (world_of g.project) k)
          ∙ mapped_at (λ (r : Pin). (in_lower_case r.name ∷ [], r.ty)) (pins k) i q there))),
      tt,
    )

    -- a block of the project
    module _ (user : kind_named v.ty ≡ None) (q : Pou) (block : block_named v.ty g.project ≡ Some q) (below : PouNests 15 g.project q) where
      abbrev us : List Variable
      us = variables_of q.lists

      is_its : user_of g.project v ≡ Some q
      is_its = is_user g.project v q (record { composite = inst.composite; user = user; block = block })

      q_fits : PouFits g.project q
      q_fits = block_fits g.project v.ty g.project q g.fits.pous block

      q_nests : are_distinct (names_of q) ≡ true
      q_nests = q_fits.distinct

      inside : within ≡ us
      inside = inst.parts ∙ composed_user g.project v.ty user ∙ ap (λ o. variables_of (elim o [ Some r ↦ r.lists | None ↦ [] ])) block

      abbrev k : ℕ
      k = place_named v.ty g.project

      q_there : slice_get g.project k ≡ Some q
      q_there = place_block g.project g.fits.names v.ty q block

      -- what an in-out of the block is bound to has its type
      bound_typed : (j : ℕ) (w : Variable) → slice_get (in_outs_of us) j ≡ Some w → IsPlacedOf (shape g) ((num g).operand (bound_variable in_outs (in_lower_case w.name))) (in_out_type w)
      bound_typed j w there =
          let listed = each_get _ (in_out_names us) (listed_each in_outs us (ap (all_listed in_outs) (sym inside) ∙ all)) j (in_lower_case w.name) (mapped_at (λ (u : Variable). in_lower_case u.name) (in_outs_of us) j w there) in
          let b = bound_in in_outs (in_lower_case w.name) listed in
          let fit = each_at (InOutFits (at g done) within) in_outs b.0 bound b.1 in
          let own : variable_named (in_lower_case w.name) us ≡ Some w = each_at (λ (u : Variable). variable_named (in_lower_case u.name) us ≡ Some u) us w (named_each us q_nests) (each_at (Contains us) (in_outs_of us) w (passing_among (λ u. is_in_out (Some u)) us) (there_at (in_outs_of us) j w there)) in
          let same_is : w ≡ fit.1.variable = same_Some w fit.1.variable (sym own ∙ ap₂ variable_named (sym b.3) (sym inside) ∙ fit.1.found) in
          let typed : in_out_type w ≡ fit.0 = ap in_out_type same_is ∙ ap (λ o. unwrap_or o ty.Bool) fit.1.typed in
          subst (λ (x : List ℕ). IsPlacedOf (shape g) ((num g).operand x) (in_out_type w)) (sym b.2)
          (subst (IsPlacedOf (shape g) ((num g).operand b.0.variable)) (sym typed) (operand_typed g.project g.fits g.pou g.pou_fits g.nests g.elements b.0.variable fit.0 fit.2))

      module _ (first : ℕ) (binds : StandsAt g.program.bindings.items first (map (λ name. (num g).operand (bound_variable in_outs name)) (in_out_names us))) where
        abbrev count : ℕ
        count = length (in_out_names us)

        abbrev own : List Operand
        own = map (λ name. (num g).operand (bound_variable in_outs name)) (in_out_names us)

        long : length own ≡ count
        long = length-map (in_out_names us) (λ name. (num g).operand (bound_variable in_outs name))

        are : slice_range g.program.bindings.items first (first + count) ≡ own
        are = ap (λ n. slice_range g.program.bindings.items first (first + n)) (sym long) ∙ binds.has

        -- the types
        entry : IsTypedEntry (shapes g) g.program (shape g) k leaf memory first count
        entry = record {
          callee = types_of g.project q;
          is = mapped_at (types_of g.project) g.project k q q_there;
          of_leaves = λ i t h.
              let x = mapped_from (λ (y : Place). y.1) (places_of g.project us) i t h in
              mapped_at (λ (y : Place). y.1) (places_of g.project vs) (leaf + i) (x.0.0 ++ key ∷ [], x.0.1)
              (within_place g.project (distinct_of g.project g.fits) g.pou g.pou_fits g.nests instance v inst.found inst.composite i x.0.0 x.0.1 (ap (λ ws. slice_get (places depth (world_of g.project) ws) i) (sym inst.parts ∙ inside) ∙ x.1))
              ∙ ap Some x.2;
          of_memories = λ i t h. instance_memories g.project g.fits g.pou g.pou_fits g.nests g.elements g.cells_apart (distinct_of g.project g.fits) key v inst.found q is_its q_nests below i t h;
          of_in_outs = λ j t h.
              let w = mapped_from in_out_type (in_outs_of us) j t h in (
                (num g).operand (bound_variable in_outs (in_lower_case w.0.name)),
                ap (λ l. slice_get l j) are ∙ mapped_at (λ name. (num g).operand (bound_variable in_outs name)) (in_out_names us) j (in_lower_case w.0.name) (mapped_at (λ (u : Variable). in_lower_case u.name) (in_outs_of us) j w.0 w.1),
                subst (IsPlacedOf (shape g) ((num g).operand (bound_variable in_outs (in_lower_case w.0.name)))) w.2 (bound_typed j w.0 w.1),
              );
        }

        -- the numbers
        placed : ArePlaced g.body (slice_range g.program.bindings.items first (first + count))
        placed i o there =
            let x = mapped_from (λ name. (num g).operand (bound_variable in_outs name)) (in_out_names us) i o (ap (λ l. slice_get l i) (sym are) ∙ there) in
            let w = mapped_from (λ (u : Variable). in_lower_case u.name) (in_outs_of us) i x.0 x.1 in
            placed_within (shapes g) g.program (shape g) g.body (wires g) same o (in_out_type w.0)
            (subst (λ p. IsPlacedOf (shape g) p (in_out_type w.0)) (ap (λ name. (num g).operand (bound_variable in_outs name)) w.2 ∙ x.2) (bound_typed i w.0 w.1))

        its_body : (body : Body) × (slice_get g.program.bodies.items k ≡ Some body) × IsBodyOf g.project g.program q body
        its_body = body_at g.project g.fits g.program g.project g.program.bodies.items g.prepared.bodies k q q_there

        enters : Enters g.program g.body k leaf memory first count
        enters =
            let b = its_body in
            let f = b.2.frame in
            let higher = highest_of g.project (distinct_of g.project g.fits) (instance_level (level 16 g.project) g.project) vs v (variable_there key vs v inst.found) in
            let lower = ap (λ o. elim o as (λ (x : Option Pou). ℕ) [ Some r ↦ suc (level 16 g.project r) | None ↦ 0 ]) is_its in
            let steady = levels_steady g.project (distinct_of g.project g.fits) 15 q q_nests below 16 17 (omega arith) (omega arith) in
            let own_level = g.frame.level in
            let its_level = f.level in
            let behind = g.frame.behind v q b.0 (variable_there key vs v inst.found) is_its b.1 in
            record {
              callee = b.0;
              is = b.1;
              level = omega arith;
              wires = behind.0;
              in_outs = behind.1;
              leaves_fit = leaves_low b.0.leaves f.leaves;
              memories_fit = subst (λ n. memory + n ≤ g.body.memories) (sym f.memories) (subst (λ n. memory + length (cells depth g.project q) ≤ n) (sym g.frame.memories)
                  (memories_within g.project g.fits g.pou g.pou_fits g.nests g.elements g.cells_apart (distinct_of g.project g.fits) key v inst.found q is_its q_nests below));
              all_bound = sym f.in_outs;
              there = subst (λ n. first + n ≤ length g.program.bindings.items) long (stands_within g.program.bindings.items first own binds);
              placed = placed;
            }
          where
            leaves_low : (n : ℕ) → n ≡ length (places_of g.project us) → leaf + n ≤ g.body.leaves
            leaves_low n e =
                let inner = variable_places (places inner_depth (world_of g.project)) (world_of g.project) in
                let kept : is_kept v.class ≡ true = ap is_kept ((each_at (VariableFits g.project) vs v g.pou_fits.variables (variable_there key vs v inst.found)).instance inst.composite).0 in
                let has : length (inner v) ≡ length (places_of g.project us) =
                ap length (composed_places (places inner_depth (world_of g.project)) (world_of g.project) v kept inst.composite)
                ∙ length-map (places inner_depth (world_of g.project) (composed (world_of g.project) v.ty)) (λ (y : Place). (y.0 ++ in_lower_case v.name ∷ [], y.1))
                ∙ ap length (within_steady g.project (distinct_of g.project g.fits) g.pou g.pou_fits g.nests v (found_again g.project (distinct_of g.project g.fits) g.pou g.pou_fits g.nests instance v inst.found) inst.composite
                ∙ ap (places depth (world_of g.project)) (sym inst.parts ∙ inside)) in
                let low = first_within inner key vs v inst.found in
                let whole = g.frame.leaves in
                omega arith

        user_good : Good g (Enter k leaf memory first count)
        user_good = (entry, enters)

    -- either
    callee_good : (first : ℕ) → StandsAt g.program.bindings.items first (bindings (num g) ((num g).callee instance) in_outs) → Each (Good g) (call_steps ((num g).callee instance) first)
    callee_good first binds =
        let P : Option Variable → Type 0 = λ o. StandsAt g.program.bindings.items first (bindings (num g) (callee_of g.project g.pou key o) in_outs) → Each (Good g) (call_steps (callee_of g.project g.pou key o) first) in
        subst P (sym inst.found) (by_kind (kind_named v.ty) refl) binds
      where
        names : Option Pou → List (List ℕ)
        names o = elim o [ Some q ↦ in_out_names (variables_of q.lists) | None ↦ [] ]

        callee_by : Option StdKind → Callee
        callee_by o = elim o [ Some j ↦ Block j leaf | None ↦ User (place_named v.ty g.project) leaf memory (names (block_named v.ty g.project)) ]

        by_kind : (o : Option StdKind) → kind_named v.ty ≡ o → StandsAt g.program.bindings.items first (bindings (num g) (callee_by o) in_outs) → Each (Good g) (call_steps (callee_by o) first)
        by_kind (Some j) e named = (standard_good j e, tt)
        by_kind None e named =
            let n = g.nests key v inst.found inst.composite e in
            let Q : List (List ℕ) → Type 0 = λ xs. StandsAt g.program.bindings.items first (map (λ name. (num g).operand (bound_variable in_outs name)) xs)
            → Each (Good g) (Enter (place_named v.ty g.project) leaf memory first (length xs) ∷ []) in
            subst Q (sym (ap names n.1)) (λ b. (user_good e n.0 n.1 n.2 first b, tt)) named

  -- ---- the whole of a call
  pub called_good : (instance : List ℕ) (enable : Enable) (inputs : List InputPin) (in_outs : List InOutPin) (outputs' : List OutputPin) (id first : ℕ) → CallFits (at g done) instance inputs in_outs outputs' → EnableFits (at g done) enable
      → Each (IsOutput g done known id) (eno_ports enable ++ output_ports outputs') → 2 ≤ spare_wires g.elements → StandsAt g.program.bindings.items first (bindings (num g) ((num g).callee instance) in_outs)
      → Each (Good g) (called_steps (num g) first instance enable inputs outputs' id)
  called_good instance enable inputs in_outs outputs' id first h fit outs wide binds =
      let parts = each_split (IsOutput g done known id) (eno_ports enable) (output_ports outputs') outs in
      let room : 1 ≤ spare_wires g.elements = omega arith in
      let spare = spare_wire g ((num g).spare + 1) (omega arith) (omega arith) in
      each_append (Good g) (enable_steps (num g) enable) _ (enable_good g done known enable fit room)
      (each_append (Good g) (under (num g) enable (input_steps (num g) instance inputs ++ call_steps ((num g).callee instance) first)) _
      (under_good g done known enable fit room (input_steps (num g) instance inputs ++ call_steps ((num g).callee instance) first)
      (each_append (Good g) (input_steps (num g) instance inputs) (call_steps ((num g).callee instance) first)
      (inputs_good instance h.within h.called ((num g).spare + 1) spare refl inputs h.inputs) (callee_good instance in_outs h.within h.called h.in_outs h.all first binds)))
      (each_append (Good g) (eno_steps (num g) id enable) _ (eno_good g done known enable fit room id parts.0)
      (each_append (Good g) (output_steps (num g) instance id outputs') (not_steps (eno_negated enable) ((num g).wire id (codes "ENO"))) (outputs_good instance h.within h.called id outputs' h.outputs parts.1)
      (eno_not_good g done known enable fit room id parts.0))))
