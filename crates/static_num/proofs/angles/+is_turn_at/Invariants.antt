use Rattle.static_num.proofs.angles.+is_turn_at.Given as goal

abbrev pub decreases-is_turn_at : goal.decreases-is_turn_at
decreases-is_turn_at l = l.e.number
