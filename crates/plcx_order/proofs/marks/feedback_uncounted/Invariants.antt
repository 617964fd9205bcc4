use Rattle.plcx_order.proofs.marks.feedback_uncounted.Given as goal

abbrev pub ghosts-feedback_with : goal.ghosts-feedback_with
ghosts-feedback_with a = record { name = a.blank.name; parts = a.blank.parts }
