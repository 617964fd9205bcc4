use Rattle.std.proofs.Common.{◌+◌, ap, drop, map, subst}
use Rattle.plcx_types.specs.Lists.{Each}
use Rattle.plcx_meaning.specs.Templates.{elements_text, straight_text}
use Rattle.plcx_st.specs.Meant.{stmt_meant}
use Rattle.plcx_st.specs.InRange.{StatementInRange}
use Rattle.plcx_drawn.specs.Shown.{shown_network}
use Rattle.plcx_lower.proofs.Ranges.{each_parts}
use Rattle.plcx_lower.proofs.Steps.{drop_item}
use Rattle.plcx_lower.proofs.Networks.{some_more}
use Rattle.plcx_lower.proofs.network.lower_networks.Goals as goal

pub put_network-requires : goal.put_network-requires
put_network-requires c =
    let d = c.args.drawing.now in
    let i = c.loop-network.network-index in
    let network = c.network-item.result in
    let left = ap (λ ns. straight_text (map (shown_network d) ns)) (drop_item d.networks.now i network c.loop-network-test.true c.network-item.is) in
    rw c.as_slice.ensures (each_parts StatementInRange (elements_text (shown_network d network)) (straight_text (map (shown_network d) (drop (i + 1) d.networks.now)))
    (subst (Each StatementInRange) left c.loop-network.invariant.0)).0

pub loop-network-preserved : goal.loop-network-preserved
loop-network-preserved c =
    let d = c.args.drawing.now in
    let i = c.loop-network.network-index in
    let network = c.network-item.result in
    let more = elements_text (shown_network d network) in
    let rest = straight_text (map (shown_network d) (drop (i + 1) d.networks.now)) in
    let left = ap (λ ns. straight_text (map (shown_network d) ns)) (drop_item d.networks.now i network c.loop-network-test.true c.network-item.is) in (
      (each_parts StatementInRange more rest (subst (Each StatementInRange) left c.loop-network.invariant.0)).1,
      some_more (map stmt_meant c.loop-network.body.statements.items) (map stmt_meant c.put_network.new.self.statements.items) _ _ more rest left c.loop-network.invariant.1
          (rw c.as_slice.ensures at c.in_ok-put_network.ensures),
    )
