use Rattle.static_num.proofs.values.+is_static_at.Given as goal

abbrev pub decreases-is_static_at : goal.decreases-is_static_at
decreases-is_static_at l = l.e.number
