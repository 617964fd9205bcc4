use Rattle.plcx_types.proofs.address.+are_places.Given as goal

-- how many numbers may come
abbrev pub decreases-are_places : goal.decreases-are_places
decreases-are_places l = l.most
