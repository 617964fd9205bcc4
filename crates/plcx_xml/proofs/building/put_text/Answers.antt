use Rattle.std.proofs.Common.{refl}
use Rattle.plcx_xml.proofs.Texts.{into-frame}
use Rattle.plcx_xml.proofs.building.put_text.Goals as goal

pub returns-clause-events : goal.returns-clause-events
returns-clause-events c =
    into-frame _ _ _ _ _ _ _ c.in-Some.ensures.items c.in_ok-push-in-Some.ensures.items refl refl refl c.in_ok-add_text-in-Some.ensures
