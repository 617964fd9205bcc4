use Rattle.plcx_order.proofs.listing.orders_uncounted.Given as goal

abbrev pub ghosts-orders_with : goal.ghosts-orders_with
ghosts-orders_with a = record { name = a.blank.name; parts = a.blank.parts }
