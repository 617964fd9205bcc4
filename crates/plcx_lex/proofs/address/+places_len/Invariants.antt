use Rattle.plcx_lex.proofs.address.«+places_len».Given as goal

abbrev pub decreases-places_len : goal.decreases-places_len
decreases-places_len l = l.most
