use Rattle.std.proofs.Common.{cond, ◌∙◌, ap, sym}
use Rattle.amp_core.specs.Amplitude.{none, one, times}
use Rattle.flat_mean.proofs.Walks.{times_over}
use Rattle.flat_mean.proofs.path.Factor.amplitude.Goals as goal

pub returns-then-self : goal.returns-then-self
returns-then-self c =
    c.mul_w.ensures ∙ times_over c.args.self.eighths c.args.self.halvings ∙ sym (ap (λ b. cond b (times c.args.self.eighths c.args.self.halvings one) none) c.if-self.true)
