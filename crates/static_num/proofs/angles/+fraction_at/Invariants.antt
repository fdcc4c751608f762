use Rattle.static_num.proofs.angles.+fraction_at.Given as goal

abbrev pub decreases-fraction_at : goal.decreases-fraction_at
decreases-fraction_at l = l.e.number
