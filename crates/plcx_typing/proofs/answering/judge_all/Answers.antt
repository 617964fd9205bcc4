use Rattle.std.proofs.Common.{◌≡◌, length, get_or, ◌∙◌, ap, arith}
use Rattle.std.proofs.lemmas.List.{length_push}
use Rattle.plcx_model.specs.declared.project.Pou.{Pou}
use Rattle.plcx_typing.proofs.Bodies.{judged_more, got_is, got_low}
use Rattle.plcx_typing.proofs.answering.judge_all.Goals as goal

pub loop-pou-preserved : goal.loop-pou-preserved
loop-pou-preserved c =
    let pous = c.args.pous.now in
    let k = c.loop-pou.pou in
    let owners = c.owners-owners.result.now in
    let o = c.index-owners-pou.result in
    let same : owners ≡ pous = c.owners-owners.ensures ∙ c.requires in
    let js = c.loop-pou.judged.items in
    let j = c.in_ok-judge.field-0 in
    let was = c.loop-pou.invariant in
    record {
      count = omega (arith, ap length c.in_ok-push.ensures.items, length_push js j, was.count);
      each = judged_more pous c.args.scope.now c.args.links.now js c.push.new.self.items j k o c.elements-elements.result.now c.links_at.result.now c.in_ok-push.ensures.items c.requires was.count
          (λ p is. c.index-owners-pou.is ∙ (ap (λ xs. get_or xs k o) same ∙ got_is pous k p o is)) (c.elements-elements.ensures ∙ ap (λ (q : Pou). q.body.elements) c.pou.ensures) c.links_at.ensures c.in_ok-judge.ensures was.each;
    }

pub returns : goal.returns
returns c = record {
  number = omega (arith, c.loop-pou.invariant.count, c.loop-pou-test.false, ap length c.owners-owners.ensures, ap length c.requires);
  each = λ place p is. c.loop-pou.invariant.each place p (omega (arith, got_low c.args.pous.now place p is, c.loop-pou-test.false, ap length c.owners-owners.ensures, ap length c.requires)) is;
}
