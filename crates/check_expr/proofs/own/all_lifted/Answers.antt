use Rattle.std.proofs.Common.{inl, inr, sym, ◌∙◌}
use Rattle.check_expr.proofs.Called.{lifted_left, lifted_right}
use Rattle.check_expr.proofs.own.all_lifted.Goals as goal

pub returns : goal.returns
returns c = sym (elim c.in-None.ensures.steps [ inl x ↦ lifted_left _ _ x.1.0 | inr y ↦ lifted_right _ _ y.1.0 ]) ∙ c.loop-param.invariant.2
