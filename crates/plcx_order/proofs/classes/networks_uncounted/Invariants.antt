use Rattle.plcx_order.proofs.classes.networks_uncounted.Given as goal

abbrev pub ghosts-networks_with : goal.ghosts-networks_with
ghosts-networks_with a = record { name = a.blank.name; parts = a.blank.parts }
