use Rattle.std.proofs.Common.{[], ◌∷◌, ◌++◌, ap}
use Rattle.plcx_xml.specs.declared.tree.Node.{Node}
use Rattle.plcx_xml.proofs.Texts.{into-text, behind-element}
use Rattle.plcx_xml.proofs.building.put_behind.Goals as goal

pub returns-in_ok-push-in-Text : goal.returns-in_ok-push-in-Text
returns-in_ok-push-in-Text c =
    into-text _ _ c.args.children.now c.in-Text.text c.in_ok-both-in-Text.both c.args.value c.args.span (ap (λ (n : Node). c.args.children.now ++ n ∷ []) c.in-Text.is) (rw c.bytes.ensures at c.in_ok-both-in-Text.ensures.0) c.in_ok-both-in-Text.ensures.1 c.in_ok-push-in-Text.ensures.ok

pub returns-in_ok-push-in-Element-2 : goal.returns-in_ok-push-in-Element-2
returns-in_ok-push-in-Element-2 c =
    behind-element _ _ c.args.children.now c.in-Element.element c.args.value c.args.span (ap (λ (n : Node). c.args.children.now ++ n ∷ []) c.in-Element.is) (rw c.in_ok-push-in-Element.ensures.ok at c.in_ok-push-in-Element-2.ensures.ok)
