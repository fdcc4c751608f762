-- What steps in memory stand for.
use Rattle.silq_run.specs.declared.step.Step.{Step}
use Rattle.silq_run.specs.declared.step.Step.TheVariants as steps
use Rattle.silq_mean.specs.Effect as effects
use Rattle.silq_mean.specs.Effect.{give_static, give_typed, give_part, one_operand, two_operands, copy_last, repeat_last, flip_last, turn_by, turn_all, receive, assign_to, assign_in_turn, update_to, end_name, end_compared, enter_block, leave_block, enter_body, leave_body}

abbrev pub meant : Step → effects.Step
meant (steps.GiveStatic z) = give_static z
meant (steps.GiveTyped k z) = give_typed k z
meant (steps.GivePart need x is) = give_part need x is.now
meant (steps.OneOperand op) = one_operand op
meant (steps.TwoOperands op) = two_operands op
meant steps.CopyLast = copy_last
meant steps.RepeatLast = repeat_last
meant steps.FlipLast = flip_last
meant (steps.TurnBy k l) = turn_by k l
meant (steps.TurnAll k) = turn_all k
meant (steps.Receive r) = receive r
meant (steps.AssignTo x is) = assign_to x is.now
meant (steps.AssignInTurn xs) = assign_in_turn xs.now
meant (steps.UpdateTo x is op) = update_to x is.now op
meant (steps.EndName x) = end_name x
meant (steps.EndCompared x) = end_compared x
meant steps.EnterBlock = enter_block
meant steps.LeaveBlock = leave_block
meant (steps.EnterBody xs) = enter_body xs.now
meant steps.LeaveBody = leave_body
