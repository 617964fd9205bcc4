-- The body of a diagram's text is ready.
use Rattle.std.proofs.Common.{◌≡◌, ℕ, suc, ◌+◌, ◌≤◌, ◌<◌, pos, Bool, true, false, List, [], ◌∷◌, ◌++◌, Some, None, length, refl, ap, arith, if◌then◌else◌}
use Rattle.std.specs.Prelude.{nat_eq}
use Rattle.std.specs.List.{list_any, Contains}
use Rattle.std.proofs.lemmas.Bool.{and_from, not_from_false, or_from}
use Rattle.std.proofs.lemmas.Bool.Decides.{nat_tests}
use Rattle.plcx_types.specs.declared.ty.Ty.TheVariants as ty
use Rattle.plcx_types.specs.Range.{InRange}
use Rattle.plcx_types.specs.Lists.{Each}
use Rattle.plcx_meaning.specs.Base.{top, all_differ}
use Rattle.plcx_meaning.specs.Tree.{Name, Less, Statement, Assign, If, statements, arms}
use Rattle.plcx_meaning.specs.Layout.{Scope, variables_of}
use Rattle.plcx_meaning.specs.Diagram.{ElementKind, Still, In, Out, Contact, Coil, Pass, Label, Jump, Return, Function, Call, Port, DiagramElement, is_label, target, has_jump, Pou, Project}
use Rattle.plcx_meaning.specs.Evaluate.{leads_to}
use Rattle.plcx_meaning.specs.Execute.{Temporary, referent_of}
use Rattle.plcx_meaning.specs.Templates.{counter_name, dint, wire, wire_name, elements_text, choice_text, choices_text, turn_text, arms_text, straight_text, jumping_text, body_text}
use Rattle.plcx_meaning.specs.Typed.{referent_type}
use Rattle.plcx_meaning.specs.Ready.{labels, IsLabel, StatementIsReady, StatementsAreReady, ArmsAreReady}
use Rattle.plcx_meaning.specs.Fits.{fixed_by, ElementsFit, PouFits, ProjectFits}
use Rattle.plcx_meaning.proofs.Names.{counter_own}
use Rattle.plcx_meaning.proofs.Lists.{each_at, each_append}
use Rattle.plcx_meaning.proofs.Statics.{here}
use Rattle.plcx_meaning.proofs.Asked.{OwnAsked, ElementsAsked, BodyAsked}
use Rattle.plcx_meaning.proofs.ReadyFunctions.{binary_has}
use Rattle.plcx_meaning.proofs.ReadyPlaces.{scope, name_has, own_ready}
use Rattle.plcx_meaning.proofs.ReadyStatements.{Typed, Target, Ready, wire_has}
use Rattle.plcx_meaning.proofs.ReadyKinds.{elements_ready}

all_ready : (c : Scope) (ss : List Statement) → Each (StatementIsReady c) ss → StatementsAreReady c (statements ss)
all_ready c [] h = tt
all_ready c (s ∷ ss) h = (h.0, all_ready c ss h.1)

dint_range : (n : ℕ) → n ≤ 2147483647 → InRange ty.Dint (pos n)
dint_range n h = (grind (arith, nat_tests), grind (arith, nat_tests))

-- a label is that of a network, or leads behind all
target_low : (label : List ℕ) (networks : List (List DiagramElement)) → target label networks ≤ length networks
target_low label [] = omega arith
target_low label (network ∷ networks) = by (list_any (is_label label) network) (target_low label networks)
  where
    by : (b : Bool) → target label networks ≤ length networks → (if b then 0 else target label networks + 1) ≤ suc (length networks)
    by true h = omega arith
    by false h = omega arith

-- the labels of the arms
label_new : (networks : List (List DiagramElement)) (i j : ℕ) (rest : List (List DiagramElement)) → i < j → list_any (nat_eq i) (labels (arms (arms_text networks j rest))) ≡ false
label_new networks i j [] low = refl
label_new networks i j (network ∷ rest) low = or_from (nat_eq i j) _ (apart i j low) (label_new networks i (j + 1) rest (omega arith))
  where
    apart : (n m : ℕ) → n < m → nat_eq n m ≡ false
    apart n m h = grind (arith, nat_tests)

labels_differ : (networks : List (List DiagramElement)) (i : ℕ) (rest : List (List DiagramElement)) → all_differ (labels (arms (arms_text networks i rest))) ≡ true
labels_differ networks i [] = refl
labels_differ networks i (network ∷ rest) = and_from _ _ (not_from_false _ (label_new networks i (i + 1) rest (omega arith))) (labels_differ networks (i + 1) rest)

are_labels : (networks : List (List DiagramElement)) (i : ℕ) (rest : List (List DiagramElement)) → i + length rest ≤ 4096 → Each IsLabel (labels (arms (arms_text networks i rest)))
are_labels networks i [] h = tt
are_labels networks i (network ∷ rest) h = (omega arith, are_labels networks (i + 1) rest (omega arith))

module _ (project : Project) (p : Pou) (fits : ProjectFits project) (there : Contains project p) where
  dint_has : (n : ℕ) → n ≤ 2147483647 → Typed project p fits there (dint n) ty.Dint
  dint_has n h = record { typed = refl; range = dint_range n h }

  straight_ready : (networks : List (List DiagramElement)) → Each (ElementsFit project p []) networks → Each (ElementsAsked (here project p top) (variables_of p.lists) []) networks → Each (Ready project p fits there) (straight_text networks)
  straight_ready [] h a = tt
  straight_ready (network ∷ networks) h a = each_append (Ready project p fits there) (elements_text network) (straight_text networks) (elements_ready project p fits there [] network h.0 a.0) (straight_ready networks h.1 a.1)

  module _ (counter : referent_of (here project p top) counter_name ≡ Temporary ty.Dint) where
    counter_target : Target project p fits there counter_name ty.Dint
    counter_target = own_ready project p fits there counter_name ty.Dint counter_own (ap referent_type counter)

    counter_has : Typed project p fits there (Name counter_name) ty.Dint
    counter_has = name_has (scope project p fits there) counter_name ty.Dint (ap referent_type counter)

    set_ready : (n : ℕ) → n ≤ 2147483647 → Ready project p fits there (Assign counter_name (dint n))
    set_ready n h = (ty.Dint, counter_target, dint_has n h)

    -- where a jump or a return leads
    choice_ready : (networks : List (List DiagramElement)) (e : DiagramElement) → length networks ≤ 4096 → OwnAsked (here project p top) e → Each (Ready project p fits there) (choice_text networks e)
    choice_ready networks e few own = by e.kind own.wires
      where
        leads : (n : ℕ) → n ≤ length networks → referent_of (here project p top) (wire_name e.id []) ≡ Temporary ty.Bool → Ready project p fits there (If (wire e.id []) (statements (Assign counter_name (dint n) ∷ [])))
        leads n low w = (wire_has project p fits there e.id [] ty.Bool w, (set_ready n (omega arith), tt))

        by : (k : ElementKind) → Each (λ (o : Port). referent_of (here project p top) (wire_name e.id o.pin) ≡ Temporary o.ty) (Rattle.plcx_meaning.specs.Diagram.ports k)
            → Each (Ready project p fits there) (elim (leads_to networks k) [ Some n ↦ If (wire e.id []) (statements (Assign counter_name (dint n) ∷ [])) ∷ [] | None ↦ [] ])
        by (Jump label link) w = (leads (target label networks) (target_low label networks) w.0, tt)
        by (Return link) w = (leads (length networks) (omega arith) w.0, tt)
        by Still w = tt
        by (In t negated operand) w = tt
        by (Out how x link) w = tt
        by (Contact how operand link) w = tt
        by (Coil how x link) w = tt
        by (Pass link) w = tt
        by (Label name) w = tt
        by (Function f t enable links negated) w = tt
        by (Call instance enable ins bound outs) w = tt

    choices_ready : (networks : List (List DiagramElement)) → length networks ≤ 4096 → (done : List (ℕ × Port)) (es : List DiagramElement) → ElementsAsked (here project p top) (variables_of p.lists) done es → Each (Ready project p fits there) (choices_text networks es)
    choices_ready networks few done [] a = tt
    choices_ready networks few done (e ∷ es) a =
        each_append (Ready project p fits there) (choices_text networks es) (choice_text networks e) (choices_ready networks few (fixed_by e ++ done) es a.3) (choice_ready networks e few a.0)

    turn_ready : (networks : List (List DiagramElement)) → length networks ≤ 4096 → (next : ℕ) → next ≤ 4096 → (network : List DiagramElement) → ElementsFit project p [] network → ElementsAsked (here project p top) (variables_of p.lists) [] network
        → Each (Ready project p fits there) (turn_text networks next network)
    turn_ready networks few next low network h a =
        each_append (Ready project p fits there) (elements_text network) _ (elements_ready project p fits there [] network h a) (set_ready next (omega arith), choices_ready networks few [] network a)

    arms_ready : (networks : List (List DiagramElement)) → length networks ≤ 4096 → (i : ℕ) (rest : List (List DiagramElement)) → i + length rest ≤ 4096 → Each (ElementsFit project p []) rest → Each (ElementsAsked (here project p top) (variables_of p.lists) []) rest
        → ArmsAreReady (scope project p fits there) (arms (arms_text networks i rest))
    arms_ready networks few i [] low h a = tt
    arms_ready networks few i (network ∷ rest) low h a =
        (all_ready (scope project p fits there) (turn_text networks (i + 1) network) (turn_ready networks few (i + 1) (omega arith) network h.0 a.0), arms_ready networks few (i + 1) rest (omega arith) h.1 a.1)

    jumping_ready : (networks : List (List DiagramElement)) → length networks ≤ 4096 → Each (ElementsFit project p []) networks → Each (ElementsAsked (here project p top) (variables_of p.lists) []) networks → Each (Ready project p fits there) (jumping_text networks)
    jumping_ready networks few h a = (
      set_ready 0 (omega arith),
      (
        (
          binary_has (scope project p fits there) Less ty.Dint (Name counter_name) (dint (length networks)) refl counter_has (dint_has (length networks) (omega arith)),
          ((counter_has, are_labels networks 0 networks (omega arith), labels_differ networks 0 networks, arms_ready networks few 0 networks (omega arith) h a), tt),
        ),
        tt,
      ),
    )

  pub body_ready : BodyAsked (here project p top) (variables_of p.lists) p.networks → Each (Ready project p fits there) (body_text p.networks)
  body_ready asked = by (has_jump p.networks) refl
    where
      own : PouFits project p
      own = each_at (PouFits project) project p fits.pous there

      by : (b : Bool) → has_jump p.networks ≡ b → Each (Ready project p fits there) (if b then jumping_text p.networks else straight_text p.networks)
      by true e = jumping_ready (asked.counter e) p.networks own.count own.networks asked.networks
      by false e = straight_ready p.networks own.networks asked.networks
