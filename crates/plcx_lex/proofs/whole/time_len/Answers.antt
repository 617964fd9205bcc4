use Rattle.std.proofs.Common.{ℕ, arith, subst, List}
use Rattle.std.proofs.lemmas.List.{length-take}
use Rattle.plcx_lex.specs.declared.runs.Class.TheVariants as class
use Rattle.plcx_lex.specs.Scan.{IsRun, belongs}
use Rattle.plcx_lex.proofs.TimeScan.{time_above, time_found, time_less, time_none}
use Rattle.plcx_lex.proofs.whole.time_len.Goals as goal

pub loop-n-init : goal.loop-n-init
loop-n-init c =
    let run = subst (λ (t : List ℕ). IsRun (belongs class.Time) t c.run_len-n.result) c.prefix.ensures c.run_len-n.ensures in
    record { within = omega (arith, run.within, length-take 128 c.args.text.now); longest = time_above c.args.text.now c.run_len-n.result run }

pub returns-in-Some : goal.returns-in-Some
returns-in-Some c = time_found c.args.text.now c.loop-n.n c.in-Some.field-0 c.loop-n.invariant.within c.loop-n.invariant.longest c.in-Some.ensures.some

pub loop-n-preserved : goal.loop-n-preserved
loop-n-preserved c = record { within = omega (arith, c.loop-n.invariant.within); longest = time_less c.args.text.now c.loop-n.n c.loop-n.invariant.longest c.in-None.ensures.none }

pub returns : goal.returns
returns c = time_none c.args.text.now c.loop-n.n c.loop-n-test.false c.loop-n.invariant.longest
