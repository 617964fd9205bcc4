use Rattle.std.proofs.Common.{◌≡◌, ◌∙◌, List, ℕ, drop, true, false, sym, subst}
use Rattle.plcx_xml.specs.Grammar.{begins_with}
use Rattle.plcx_xml.proofs.Enclosing.{until-turn, until-here}
use Rattle.plcx_xml.proofs.lexing.until.Goals as goal

pub returns-then-begins_with : goal.returns-then-begins_with
returns-then-begins_with c =
    let begins : begins_with c.args.close.now (drop c.loop-at.at c.args.bytes.now) ≡ true = subst (λ (xs : List ℕ). begins_with c.args.close.now xs ≡ true) c.split_at.ensures.back (sym c.begins_with.ensures ∙ c.if-begins_with.true) in
    rw (c.split_at-then-begins_with.ensures.back, c.split_at.ensures.back, c.split_at.ensures.front) (until-here c.args.close.now c.args.bytes.now c.loop-at.at c.loop-at-test.true begins c.loop-at.invariant)

pub loop-at-preserved : goal.loop-at-preserved
loop-at-preserved c =
    let none : begins_with c.args.close.now (drop c.loop-at.at c.args.bytes.now) ≡ false = subst (λ (xs : List ℕ). begins_with c.args.close.now xs ≡ false) c.split_at.ensures.back (sym c.begins_with.ensures ∙ c.if-begins_with.false) in
    until-turn c.args.close.now c.args.bytes.now c.loop-at.at c.loop-at-test.true none c.loop-at.invariant
