use Rattle.std.proofs.Common.{map}
use Rattle.plcx_meaning.specs.Templates.{element_wires}
use Rattle.plcx_drawn.specs.Shown.{shown_element}
use Rattle.plcx_declare.specs.Named.{IsNamed}
use Rattle.plcx_st.specs.Meant.{decl_meant}
use Rattle.plcx_declare.proofs.Walks.{each_here, made_here}
use Rattle.plcx_declare.proofs.declaring.wire_decls.Goals as goal

pub put_wires-requires : goal.put_wires-requires
put_wires-requires c =
    (each_here element_wires shown_element c.args.elements.now c.loop-element.element-index c.element-item.result c.loop-element-test.true c.element-item.is IsNamed c.loop-element.invariant.range).0

pub loop-element-preserved : goal.loop-element-preserved
loop-element-preserved c = record {
  made = made_here element_wires shown_element c.args.elements.now c.loop-element.element-index c.element-item.result c.loop-element-test.true c.element-item.is
      (map decl_meant c.loop-element.decls.items) (map decl_meant c.put_wires.new.decls.items) _ c.in_ok-put_wires.ensures c.loop-element.invariant.made;
  range = (each_here element_wires shown_element c.args.elements.now c.loop-element.element-index c.element-item.result c.loop-element-test.true c.element-item.is IsNamed c.loop-element.invariant.range).1;
}
