use Rattle.std.proofs.Common.{◌∷◌, ◌∙◌, [], drop, map, sym, ap, arith}
use Rattle.std.specs.List.{list_any}
use Rattle.std.specs.Str.{bytes_eq}
use Rattle.plcx_types.specs.Name.{in_lower_case}
use Rattle.plcx_ticks.specs.ReadTicks.{are_once}
use Rattle.plcx_ticks.proofs.Noted.{once_distinct, new_more}
use Rattle.plcx_ticks.proofs.once.are_once.Goals as goal

pub loop-i-init : goal.loop-i-init
loop-i-init c = ([], λ q. ap (list_any (λ k. bytes_eq q k.items)) c.new-seen.ensures.empty, once_distinct (map in_lower_case (drop 2 c.args.header.now)))

pub loop-i-preserved : goal.loop-i-preserved
loop-i-preserved c =
    let was = c.loop-i.invariant in (
      in_lower_case c.field.result.now ∷ was.0,
      c.in_ok-note.ensures.noted c.if-not-branch.false was.0 was.1,
      new_more c.args.header.now c.loop-i.i c.field.result.now was.0 (are_once c.args.header.now) (omega (arith, c.len-i-end.ensures, c.loop-i-test.true)) c.field.ensures
          (sym (c.in_ok-note.ensures.new was.0 was.1) ∙ c.if-not-branch.false) was.2,
    )
