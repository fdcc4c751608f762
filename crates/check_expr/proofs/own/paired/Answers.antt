use Rattle.std.proofs.Common.{inl, inr, sym, ap, ◌∙◌, ◌++◌}
use Rattle.std.proofs.lemmas.List.{append-nil}
use Rattle.check_expr.proofs.Called.{paired_left, paired_right}
use Rattle.check_expr.proofs.own.paired.Goals as goal

pub returns : goal.returns
returns c = sym (append-nil c.loop-name.pairs) ∙ ap (λ xs. c.loop-name.pairs ++ xs) (sym (elim c.in-None.ensures.steps [ inl x ↦ paired_left _ _ x.1.0 | inr y ↦ paired_right _ _ y.1.0 ])) ∙ c.loop-name.invariant.2
