use Rattle.std.proofs.Common.{◌≡◌, ◌+◌, [], ◌∷◌, drop, map, Some, None, refl, sym, ap, subst, arith, ◌∙◌}
use Rattle.std.proofs.lemmas.List.{at_drop_more, at_drop_all}
use Rattle.plcx_plan.specs.Seen.{shown, Steps}
use Rattle.plcx_plan.proofs.Loop.{IsUnderway, begins, goes_on, fails, kept, tasks_read, instances_read}
use Rattle.plcx_plan.proofs.reading.plan_in.Goals as goal

pub loop-item-init : goal.loop-item-init
loop-item-init c = (
  begins c.args.project.now (map shown c.args.items.now) _ c.requires.led refl c.new.ensures.items c.new-3.ensures.items c.new-2.ensures.empty c.new-4.ensures.empty,
  record { tasks = rw c.new.ensures.items (omega arith); instances = rw c.new-3.ensures.items (omega arith) },
)

pub returns-in-Some-clause-plan : goal.returns-in-Some-clause-plan
returns-in-Some-clause-plan c =
    let project = c.args.project.now in
    let items = c.args.items.now in
    let all = map shown items in
    let i = c.loop-item.item-index in
    let x = c.item-item.result in
    let more : map shown (drop i items) ≡ shown x ∷ map shown (drop (i + 1) items) = at_drop_more (map shown) items i x c.loop-item-test.true ∙ ap (λ y. shown y ∷ map shown (drop (i + 1) items)) (sym c.item-item.is) in
    let under = subst (λ xs. IsUnderway project all xs c.loop-item.progress) more c.loop-item.invariant.0 in
    let some : c.in_ok-kind.field-0 ≡ Some c.in-Some.kind = let is = c.in-Some.is in cc in
    let stepped = c.in_ok-kind.ensures.step project (sym c.pous.ensures ∙ sym c.in_ok-programs.ensures) in
    let steps = subst (λ f. Steps project all (shown x) c.loop-item.progress c.step.new.progress f) some stepped in
    fails project all (map shown (drop (i + 1) items)) (shown x) c.loop-item.progress c.step.new.progress c.in-Some.kind under steps

pub loop-item-preserved : goal.loop-item-preserved
loop-item-preserved c =
    let project = c.args.project.now in
    let items = c.args.items.now in
    let all = map shown items in
    let i = c.loop-item.item-index in
    let x = c.item-item.result in
    let more : map shown (drop i items) ≡ shown x ∷ map shown (drop (i + 1) items) = at_drop_more (map shown) items i x c.loop-item-test.true ∙ ap (λ y. shown y ∷ map shown (drop (i + 1) items)) (sym c.item-item.is) in
    let under = subst (λ xs. IsUnderway project all xs c.loop-item.progress) more c.loop-item.invariant.0 in
    let none : c.in_ok-kind.field-0 ≡ None = let is = c.in_default.is in cc in
    let stepped = c.in_ok-kind.ensures.step project (sym c.pous.ensures ∙ sym c.in_ok-programs.ensures) in
    let steps = subst (λ f. Steps project all (shown x) c.loop-item.progress c.step.new.progress f) none stepped in
    (goes_on project all (map shown (drop (i + 1) items)) (shown x) c.loop-item.progress c.step.new.progress under steps, c.in_ok-kind.ensures.few)

pub returns-clause-plan : goal.returns-clause-plan
returns-clause-plan c =
    let project = c.args.project.now in
    let items = c.args.items.now in
    let all = map shown items in
    let ended : map shown (drop c.loop-item.item-index items) ≡ [] = at_drop_all (map shown) items c.loop-item.item-index c.loop-item-test.false in
    let under = subst (λ xs. IsUnderway project all xs c.loop-item.progress) ended c.loop-item.invariant.0 in
    record {
      verdict = kept project all c.loop-item.progress under;
      planned = record {
        tasks = rw c.from_vec.ensures (tasks_read project all c.loop-item.progress under);
        instances = rw c.from_vec-2.ensures (instances_read project all c.loop-item.progress under);
      };
    }
