use Rattle.std.proofs.Common.{refl}
use Rattle.plcx_profile.specs.Profile.{InDeclarations, Unbroken}
use Rattle.plcx_profile.proofs.Fineness.{draft_fine}
use Rattle.plcx_profile.proofs.project.declared_project.Goals as goal

pub settled-requires : goal.settled-requires
settled-requires c = draft_fine c.in_ok-draft.draft (rw c.in-None.is at c.in_ok-rule.ensures)

pub returns-in-Some : goal.returns-in-Some
returns-in-Some c = rw c.broken.ensures (c.in-Some.byte, refl, rw c.declaration_number.ensures (InDeclarations c.requires (rw (c.in-Some.is, c.in_ok-draft.ensures) at c.in_ok-rule.ensures)))

pub returns-in_ok-settled-in-None : goal.returns-in_ok-settled-in-None
returns-in_ok-settled-in-None c = record {
  verdict = Unbroken c.requires (rw (c.in-None.is, c.in_ok-draft.ensures) at c.in_ok-rule.ensures);
  is = rw c.in_ok-draft.ensures at c.in_ok-settled-in-None.ensures;
}
