use Rattle.std.proofs.Common.{◌+◌, ◌↔◌, IsTrue, sym, ◌∙◌, subst, inl, inr}
use Rattle.flat_core.specs.declared.step.Step.{Step}
use Rattle.flat_core.specs.Label.{label_before}
use Rattle.move_plan.specs.Progress.{StandsAt}
use Rattle.move_plan.specs.Track.{told, OfChanged}
use Rattle.move_plan.proofs.track.Track.target_stands.Goals as goal

pub returns-in-X : goal.returns-in-X
returns-in-X c =
    let P : Step → Type 0 = λ x. IsTrue c.is_at.result ↔ OfChanged (λ w. StandsAt (told c.args.self.now) w (label_before c.args.flat.now c.args.s w + c.args.raise)) x in
    let at : IsTrue c.is_at.result ↔ StandsAt (told c.args.self.now) c.in-X.target (label_before c.args.flat.now c.args.s c.in-X.target + c.args.raise) =
    subst (λ n. IsTrue c.is_at.result ↔ StandsAt (told c.args.self.now) c.in-X.target (n + c.args.raise)) c.label_before.ensures c.is_at.ensures in
    elim c.in-X.is [
      | inl x ↦ subst P (sym (sym c.step.ensures ∙ x.2)) at
      | inr h ↦ subst P (sym (sym c.step.ensures ∙ h.1)) at
    ]
