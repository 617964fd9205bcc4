use Rattle.plcx_meaning.specs.Templates.{link_text}
use Rattle.plcx_drawn.specs.Shown.{shown_link, shown_storing}
use Rattle.plcx_lower.proofs.Ranges.{store_value}
use Rattle.plcx_lower.proofs.body.Body.put_kind.Goals as goal

pub link_value-requires : goal.link_value-requires
link_value-requires c = store_value (shown_storing c.in-Out.how) c.in-Out.variable.now (link_text (shown_link c.in-Out.link)) (rw c.in-Out.is at c.requires).0

pub put_contact-requires : goal.put_contact-requires
put_contact-requires c = rw c.in-Contact.is at c.requires

pub put_coil-requires : goal.put_coil-requires
put_coil-requires c = rw c.in-Coil.is at c.requires

pub returns-in_ok-stmt-in-Out : goal.returns-in_ok-stmt-in-Out
returns-in_ok-stmt-in-Out c = rw c.in-Out.is (rw (c.in_ok-stmt-in-Out.ensures, c.in_ok-value-in-Out.ensures) at c.put.ensures)

pub returns-in-Contact : goal.returns-in-Contact
returns-in-Contact c = rw c.in-Contact.is c.put_contact.ensures

pub returns-in-Coil : goal.returns-in-Coil
returns-in-Coil c = rw c.in-Coil.is c.put_coil.ensures
