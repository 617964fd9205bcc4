use Rattle.std.proofs.Common.{◌≡◌, OnOk, map, subst, sym, append-nil}
use Rattle.std.specs.Prelude.{Some, None, slice_get}
use Rattle.plcx_types.specs.Lists.{Each}
use Rattle.plcx_st.specs.Meant.{stmt_meant}
use Rattle.plcx_st.specs.InRange.{StatementInRange}
use Rattle.plcx_lower.specs.Adds.{Adds}
use Rattle.plcx_lower.proofs.Networks.{element_there, none_there}
use Rattle.plcx_lower.proofs.body.Body.put_place.Goals as goal

pub put_element-requires : goal.put_element-requires
put_element-requires c =
    let here : slice_get c.args.drawing.now.elements c.args.place ≡ Some c.in-Some.element.now = sym (rw c.elements.ensures at c.in-Some.ensures) in
    subst (Each StatementInRange) (element_there c.args.drawing.now c.args.place c.in-Some.element.now here) c.requires

pub returns-in-Some : goal.returns-in-Some
returns-in-Some c =
    let here : slice_get c.args.drawing.now.elements c.args.place ≡ Some c.in-Some.element.now = sym (rw c.elements.ensures at c.in-Some.ensures) in
    subst (λ ss. OnOk c.put_element.result (Adds c.args.self.now c.put_element.new.self ss)) (sym (element_there c.args.drawing.now c.args.place c.in-Some.element.now here)) c.put_element.ensures

pub returns-in-None : goal.returns-in-None
returns-in-None c =
    let none : slice_get c.args.drawing.now.elements c.args.place ≡ None = sym (rw c.elements.ensures at c.in-None.ensures) in
    subst (Adds c.args.self.now c.args.self.now) (sym (none_there c.args.drawing.now c.args.place none)) (sym (append-nil (map stmt_meant c.args.self.now.statements.items)))
