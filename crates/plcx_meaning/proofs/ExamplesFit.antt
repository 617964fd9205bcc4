-- Three of the examples meet what the checks of a project promise.
use Rattle.std.proofs.Common.{◌≡◌, ◌≢◌, ◌<◌, ◌^◌, ℕ, suc, true, false, Bool, ◌&&◌, List, [], ◌∷◌, map, filter, length, Option, Some, None, refl, sym, ◌∙◌, subst, arith, leb-true}
use Rattle.std.specs.Prelude.{pos, nat_le, if◌then◌else◌}
use Rattle.std.specs.List.{list_all}
use Rattle.std.specs.Str.{bytes_eq}
use Rattle.std.proofs.lemmas.Bool.{and_parts}
use Rattle.plcx_types.specs.Reserved.{is_conversion}
use Rattle.plcx_types.specs.declared.ty.Ty.{Ty}
use Rattle.plcx_types.specs.declared.ty.Ty.TheVariants as ty
use Rattle.plcx_types.specs.Name.{in_lower_case, is_next_byte}
use Rattle.plcx_types.specs.TypeName.{type_named}
use Rattle.plcx_std.specs.Kind.{kind_named}
use Rattle.plcx_types.specs.Lists.{Each}
use Rattle.plcx_meaning.specs.Base.{are_distinct}
use Rattle.plcx_meaning.specs.Tree.{Local, Constant, Temp}
use Rattle.plcx_meaning.specs.Layout.{initial_in, IsRetainedState, Variable, variables_of, variable_named}
use Rattle.plcx_meaning.specs.Diagram.{Source, Port, ports, is_fed, DiagramElement, Pou, Project, block_named}
use Rattle.plcx_meaning.specs.Fits.{IsGoodName, Standing, SourceFits, LinkFits, EnableFits, IsPin, PortsFit, project_knows, printed_type, VariableFits, PouFits, PouNests, ProjectFits}
use Rattle.plcx_meaning.specs.Pieces.{link, always}
use Rattle.plcx_meaning.specs.ExampleRungs.{motor, motor_events}
use Rattle.plcx_meaning.specs.ExampleFeedback.{counting, saturating}
use Rattle.plcx_meaning.specs.Evaluate.{diagram_machine}
use Rattle.plcx_meaning.specs.Run.{AreEvents}
use Rattle.plcx_meaning.specs.ExampleLoops.{loop_block, nested_loop}
use Rattle.plcx_meaning.specs.ExampleStarts.{idle}

-- what holds of each variable holds of the one of a name
picked : (P : Variable → Type 0) (b : Bool) (w v : Variable) (o : Option Variable) → P w → (o ≡ Some v → P v) → (if b then Some w else o) ≡ Some v → P v
picked P true w v o here there e = let same : w ≡ v = cc in subst P same here
picked P false w v o here there e = there e

of_named : (P : Variable → Type 0) (x : List ℕ) (vs : List Variable) → Each P vs → (v : Variable) → variable_named x vs ≡ Some v → P v
of_named P x [] each v e = absurd (let h : None ≡ Some v = e in cc)
of_named P x (w ∷ vs) each v e = picked P (bytes_eq (in_lower_case w.name) x) w v (variable_named x vs) each.0 (of_named P x vs each.1 v) e

-- a type that is elementary nests nothing
record NestsBy (n : ℕ) (project : Project) (v : Variable) : Type 0 where
  below : type_named v.ty ≡ None → kind_named v.ty ≡ None → (q : Pou) × (block_named v.ty project ≡ Some q) × PouNests n project q

nests_by : (n : ℕ) (project : Project) (p : Pou) → Each (NestsBy n project) (variables_of p.lists) → PouNests (suc n) project p
nests_by n project p each x v named = (of_named (NestsBy n project) x (variables_of p.lists) each v named).below

elementary : (n : ℕ) (project : Project) (t : Ty) (v : Variable) → type_named v.ty ≡ Some t → NestsBy n project v
elementary n project t v typed = record { below = λ none. absurd (let h : Some t ≡ None = sym typed ∙ none in cc) }

plain : (project : Project) (v : Variable) → IsGoodName v.name → v.class ≢ Temp → project_knows project v.ty ≡ true → v.ty ≡ printed_type project v.ty → v.initial ≡ None → (type_named v.ty ≡ None → (v.class ≡ Local) × (v.mark ≢ Constant)) → VariableFits project v
plain project v good class known spelled none instance =
    record { name = good; class = class; known = known; spelled = spelled; initial = λ value e. absurd (let h : None ≡ Some value = sym none ∙ e in cc); instance = instance }

one_source : (at : Standing) (t : Ty) (s : Source) → SourceFits at t s → LinkFits at (link t s)
one_source at t s fits = record { first = fits; others = tt; negated = λ e. absurd (let h : false ≡ true = e in cc); several = λ h. absurd (h refl); few = omega arith }

abbrev is_pin : Port → Bool
is_pin o = list_all is_next_byte o.pin && nat_le (length o.pin) 64

pins_fit : (os : List Port) → list_all is_pin os ≡ true → Each IsPin os
pins_fit [] h = tt
pins_fit (o ∷ os) h =
    let parts = and_parts (is_pin o) (list_all is_pin os) h in
    let own = and_parts (list_all is_next_byte o.pin) (nat_le (length o.pin) 64) parts.0 in
    ((own.0, leb-true (length o.pin) 64 own.1), pins_fit os parts.1)

-- an element with these outputs
ports_fit : (p : Pou) (e : DiagramElement) → e.id < 2 ^ 64 → are_distinct (map (λ (o : Port). in_lower_case o.pin) (ports e.kind)) ≡ true → e.fed ≡ filter (is_fed p e.id) (ports e.kind) → list_all is_pin (ports e.kind) ≡ true → PortsFit p e
ports_fit p e small distinct fed named = record {
  small = small;
  pins = distinct;
  fed = fed;
  names = pins_fit (ports e.kind) named;
}

no_enable : (at : Standing) → EnableFits at always
no_enable at l e = absurd (let h : None ≡ Some l = e in cc)

motor_fits : PouFits (motor ∷ []) motor
unfolding is_conversion
motor_fits = record {
  name = (refl, omega arith, refl);
  variables = (
    plain _ _ (refl, omega arith, refl) (λ e. cc) refl refl refl (λ e. (refl, (λ h. cc))),
    (plain _ _ (refl, omega arith, refl) (λ e. cc) refl refl refl (λ e. (refl, (λ h. cc))), (plain _ _ (refl, omega arith, refl) (λ e. cc) refl refl refl (λ e. (refl, (λ h. cc))), tt)),
  );
  distinct = refl;
  few = omega arith;
  ids = refl;
  elements = omega arith;
  count = omega arith;
  in_outs = ((λ e. absurd (cc)), tt);
  leaves = omega arith;
  parts = omega arith;
  addresses = ((tt, (tt, (tt, tt))), tt);
  ports = (
    ports_fit _ _ (omega arith) refl refl refl,
    (
      ports_fit _ _ (omega arith) refl refl refl,
      (
        ports_fit _ _ (omega arith) refl refl refl,
        (ports_fit _ _ (omega arith) refl refl refl, (ports_fit _ _ (omega arith) refl refl refl, (ports_fit _ _ (omega arith) refl refl refl, tt))),
      ),
    ),
  );
  networks = (
    (
      (1, omega arith, refl),
      refl,
      (record { variable = _; found = refl; typed = refl; class = λ e. cc }, (one_source _ _ _ refl, refl)),
      (
        (2, omega arith, refl),
        refl,
        (record { variable = _; found = refl; typed = refl; class = λ e. cc }, (one_source _ _ _ refl, refl)),
        (
          (3, omega arith, refl),
          refl,
          (
            record { variable = _; found = refl; typed = refl; class = λ e. cc },
            (record { first = (1, omega arith, refl); others = ((0, omega arith, refl), tt); negated = λ e. refl; several = λ h. refl; few = omega arith }, refl),
          ),
          (
            (4, omega arith, refl),
            refl,
            (record { variable = _; found = refl; typed = refl; class = λ e. cc }, (one_source _ _ _ (0, omega arith, refl), refl), (λ v e. ((λ h. cc), (λ h. cc)))),
            tt,
          ),
        ),
      ),
    ),
    tt,
  );
}

pub motor_project_fits : ProjectFits (motor ∷ [])
motor_project_fits = record {
  names = refl;
  pous = (motor_fits, tt);
  nests = (nests_by 15 (motor ∷ []) motor (elementary _ _ ty.Bool _ refl, (elementary _ _ ty.Bool _ refl, (elementary _ _ ty.Bool _ refl, tt))), tt);
}

-- a program with an instance, and its block with a jump
abbrev both : Project
both = nested_loop ∷ loop_block ∷ []

loop_fits : PouFits both loop_block
unfolding is_conversion
loop_fits = record {
  name = (refl, omega arith, refl);
  variables = (plain _ _ (refl, omega arith, refl) (λ e. cc) refl refl refl (λ e. (refl, (λ h. cc))), tt);
  distinct = refl;
  few = omega arith;
  ids = refl;
  elements = omega arith;
  count = omega arith;
  in_outs = ((λ e. absurd (cc)), tt);
  leaves = omega arith;
  parts = omega arith;
  addresses = ((tt, tt), tt);
  ports = (
    ports_fit _ _ (omega arith) refl refl refl,
    (
      ports_fit _ _ (omega arith) refl refl refl,
      (
        ports_fit _ _ (omega arith) refl refl refl,
        (
          ports_fit _ _ (omega arith) refl refl refl,
          (
            ports_fit _ _ (omega arith) refl refl refl,
            (
              ports_fit _ _ (omega arith) refl refl refl,
              (ports_fit _ _ (omega arith) refl refl refl, (ports_fit _ _ (omega arith) refl refl refl, (ports_fit _ _ (omega arith) refl refl refl, tt))),
            ),
          ),
        ),
      ),
    ),
  );
  networks = (
    ((0, omega arith, refl), refl, tt, tt),
    (
      (
        (1, omega arith, refl),
        refl,
        (record { variable = _; found = refl; typed = refl; class = λ e. cc }, (λ e. cc)),
        (
          (2, omega arith, refl),
          refl,
          tt,
          (
            (3, omega arith, refl),
            refl,
            (
              record { function = refl; group = refl; applies = refl; inputs = (one_source _ _ _ (0, omega arith, refl), (one_source _ _ _ ((omega arith, omega arith), (λ e. cc)), tt)) },
              no_enable _,
              (λ e. cc),
            ),
            (
              (4, omega arith, refl),
              refl,
              (record { variable = _; found = refl; typed = refl; class = λ e. cc }, tt, one_source _ _ _ (0, omega arith, refl), (λ v e. ((λ h. cc), (λ h. cc)))),
              tt,
            ),
          ),
        ),
      ),
      (
        (
          (5, omega arith, refl),
          refl,
          (record { variable = _; found = refl; typed = refl; class = λ e. cc }, (λ e. cc)),
          (
            (6, omega arith, refl),
            refl,
            tt,
            (
              (7, omega arith, refl),
              refl,
              (
                record { function = refl; group = refl; applies = refl; inputs = (one_source _ _ _ (0, omega arith, refl), (one_source _ _ _ ((omega arith, omega arith), (λ e. cc)), tt)) },
                no_enable _,
                (λ e. cc),
              ),
              (
                (8, omega arith, refl),
                refl,
                (one_source _ _ _ (0, omega arith, refl), refl),
                tt,
              ),
            ),
          ),
        ),
        tt,
      ),
    ),
  );
}

nested_fits : PouFits both nested_loop
unfolding is_conversion
nested_fits = record {
  name = (refl, omega arith, refl);
  variables = (plain _ _ (refl, omega arith, refl) (λ e. cc) refl refl refl (λ e. (refl, (λ h. cc))), (plain _ _ (refl, omega arith, refl) (λ e. cc) refl refl refl (λ e. (refl, (λ h. cc))), tt));
  distinct = refl;
  few = omega arith;
  ids = refl;
  elements = omega arith;
  count = omega arith;
  in_outs = ((λ e. absurd (cc)), tt);
  leaves = omega arith;
  parts = omega arith;
  addresses = ((tt, (tt, tt)), tt);
  ports = (ports_fit _ _ (omega arith) refl refl refl, (ports_fit _ _ (omega arith) refl refl refl, (ports_fit _ _ (omega arith) refl refl refl, tt)));
  networks = (
    (
      (0, omega arith, refl),
      refl,
      (
        record {
          within = variables_of loop_block.lists;
          called = record { variable = _; found = refl; composite = refl; parts = refl };
          inputs = tt;
          in_outs = tt;
          all = refl;
          outputs = tt;
          formals = refl;
        },
        no_enable _,
      ),
      tt,
    ),
    (
      (
        (1, omega arith, refl),
        refl,
        tt,
        (
          (2, omega arith, refl),
          refl,
          (record { variable = _; found = refl; typed = refl; class = λ e. cc }, tt, one_source _ _ _ ((omega arith, omega arith), (λ e. cc)), (λ v e. ((λ h. cc), (λ h. cc)))),
          tt,
        ),
      ),
      tt,
    ),
  );
}

loop_nests : (n : ℕ) → PouNests (suc n) both loop_block
loop_nests n = nests_by n both loop_block (elementary _ _ ty.Int _ refl, tt)

pub nested_project_fits : ProjectFits (nested_loop ∷ loop_block ∷ [])
nested_project_fits = record {
  names = refl;
  pous = (nested_fits, (loop_fits, tt));
  nests = (nests_by 15 both nested_loop (record { below = λ none other. (loop_block, refl, loop_nests 14) }, (elementary _ _ ty.Int _ refl, tt)), (loop_nests 15, tt));
}

-- a program whose sum feeds back
counting_fits : PouFits (counting ∷ []) counting
unfolding is_conversion
counting_fits = record {
  name = (refl, omega arith, refl);
  variables = (plain _ _ (refl, omega arith, refl) (λ e. cc) refl refl refl (λ e. (refl, (λ h. cc))), tt);
  distinct = refl;
  few = omega arith;
  ids = refl;
  elements = omega arith;
  count = omega arith;
  in_outs = ((λ e. absurd (cc)), tt);
  leaves = omega arith;
  parts = omega arith;
  addresses = ((tt, tt), tt);
  ports = (ports_fit _ _ (omega arith) refl refl refl, (ports_fit _ _ (omega arith) refl refl refl, (ports_fit _ _ (omega arith) refl refl refl, tt)));
  networks = (
    (
      (0, omega arith, refl),
      refl,
      tt,
      (
        (1, omega arith, refl),
        refl,
        (
          record {
            function = refl;
            group = refl;
            applies = refl;
            inputs = (one_source _ _ _ ((omega arith, omega arith), (λ e. cc)), (one_source _ _ _ (_, (1, omega arith, refl), refl, (0, omega arith, refl)), tt));
          },
          no_enable _,
          (λ e. cc),
        ),
        (
          (2, omega arith, refl),
          refl,
          (record { variable = _; found = refl; typed = refl; class = λ e. cc }, tt, one_source _ _ _ (0, omega arith, refl), (λ v e. ((λ h. cc), (λ h. cc)))),
          tt,
        ),
      ),
    ),
    tt,
  );
}

pub counting_project_fits : ProjectFits (counting ∷ [])
counting_project_fits = record {
  names = refl;
  pous = (counting_fits, tt);
  nests = (nests_by 15 (counting ∷ []) counting (elementary _ _ ty.Int _ refl, tt), tt);
}

pub motor_events_fit : AreEvents (diagram_machine (motor ∷ []) motor).layout 0 motor_events
motor_events_fit = (
  omega arith,
  omega arith,
  ((_, (0, omega arith, refl), refl, refl, (omega arith, omega arith)), ((_, (1, omega arith, refl), refl, refl, (omega arith, omega arith)), tt)),
  (
    omega arith,
    omega arith,
    ((_, (0, omega arith, refl), refl, refl, (omega arith, omega arith)), tt),
    (omega arith, omega arith, ((_, (1, omega arith, refl), refl, refl, (omega arith, omega arith)), tt), tt),
  ),
)

pub saturating_begins : IsRetainedState (diagram_machine (saturating ∷ []) saturating).layout (λ p. pos 0)
saturating_begins = ((λ e. (omega arith, omega arith)), tt)

pub idle_begins : IsRetainedState (diagram_machine (idle ∷ []) idle).layout (initial_in (diagram_machine (idle ∷ []) idle).layout)
idle_begins = ((λ e. absurd (cc)), ((λ e. (omega arith, omega arith)), tt))
