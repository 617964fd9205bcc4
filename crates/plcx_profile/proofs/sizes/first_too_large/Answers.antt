use Rattle.plcx_profile.proofs.Largest.{above_is}
use Rattle.plcx_profile.proofs.sizes.first_too_large.Goals as goal

pub returns : goal.returns
returns c =
    rw (c.first_above.ensures, c.deref-3.ensures.value, c.deref-4.ensures.value, c.in_ok-leaves.ensures, c.in_ok-parts.ensures, c.deref.ensures.value, c.deref-2.ensures.value, c.in_ok-contents.ensures, c.pous.ensures) (above_is c.args.blocks.now)
