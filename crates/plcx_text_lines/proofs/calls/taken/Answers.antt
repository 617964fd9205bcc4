use Rattle.std.proofs.Common.{ℕ, [], ◌∷◌, ◌++◌, sym, ap, subst, ◌∙◌}
use Rattle.plcx_meaning.specs.Ready.{ValueIsReady}
use Rattle.plcx_st.specs.Meant.{arg_meant, expr_meant}
use Rattle.plcx_steps.specs.declared.program.Operand.TheVariants.{Leaf}
use Rattle.plcx_steps.specs.declared.program.Source.TheVariants.{Wire}
use Rattle.plcx_steps.specs.declared.program.Action.TheVariants as action
use Rattle.plcx_text_steps.specs.declared.text.Line.TheVariants as line
use Rattle.plcx_text_lines.proofs.Calling.{takes_input}
use Rattle.plcx_text_lines.proofs.calls.taken.Goals as goal

pub returns-in_ok-more-in-Takes : goal.returns-in_ok-more-in-Takes
returns-in_ok-more-in-Takes g c =
    let names = (g.N.Numbers.numbers c.args.numbers.now).names in
    let e = expr_meant c.args.arg.now.value in
    let formal = rw (c.text.ensures.text, c.in-Takes.is) at c.in_ok-part.ensures.formal in
    let leaf = rw c.text.ensures.text at c.in_ok-part.ensures.leaf in
    let wires = c.in_ok-valued-in-Takes.valued.wires in
    let wire = c.len-wire.ensures ∙ wires.ok.0 in
    let more = c.in_ok-more-in-Takes.ensures ∙ ap (λ (w : ℕ). c.args.stores.items ++ line.Act (action.Write (Leaf c.in_ok-part.part.leaf) (Wire w)) ∷ []) wire in
    λ suits. takes_input names c.args.instance.now (arg_meant c.args.arg.now) c.args.before c.in_ok-valued-in-Takes.valued c.in_ok-behind-in-Takes.behind c.in_ok-valued-in-Takes.value c.args.stores.items c.in_ok-more-in-Takes.more.items
    c.in-Takes.ty c.in_ok-part.part.leaf (sym formal) (c.in_ok-valued-in-Takes.ensures (c.in-Takes.ty, subst (ValueIsReady names.scope e) (sym formal) suits)) c.in_ok-behind-in-Takes.ensures leaf more
