use Rattle.std.proofs.Common.{◌≡◌, ◌∙◌, List, map, ap, subst}
use Rattle.plcx_st.specs.declared.tree.Unit as read
use Rattle.plcx_st.specs.Meant.{pou_meant, meant}
use Rattle.plcx_text_steps.specs.declared.text.Entry.{Entry}
use Rattle.plcx_text_order.specs.Laws.{AreBare}
use Rattle.plcx_text_program.specs.Making.{made_of}
use Rattle.plcx_text_program.proofs.Texts.{text_is}
use Rattle.plcx_text_program.proofs.preparing.prepared.Goals as goal

pub returns : goal.returns
returns c =
    let unit = meant c.args.ready.now in
    let pous = c.in_ok-tables.tables in
    let same : map pou_meant pous ≡ unit = ap (map pou_meant) (c.in_ok-tables.ensures ∙ c.as_slice-pous.ensures) ∙ ap (λ (u : read.Unit). meant u) c.unit-unit.ensures.unit in
    let all = c.in_ok-all.all in
    let bare = c.in_ok-bodies_of.field-0.items in
    let are : AreBare (map pou_meant pous) all.entries.items bare = subst (λ (es : List Entry). AreBare (map pou_meant pous) es bare) c.deref.ensures.value c.in_ok-bodies_of.ensures in
    text_is unit pous same (made_of all) c.in_ok-all.ensures c.ordered_is_text.ensures c.unit-unit.ensures.ready c.joined.result.0 c.joined.result.1 c.joined.ensures.made bare c.in_ok-bodies.bodies.items are c.in_ok-bodies.ensures
    (ap (λ bs. bs.items) c.joined.ensures.bodies)
