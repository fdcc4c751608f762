use Rattle.std.proofs.Common.{get_or, sym, ap, ◌∙◌}
use Rattle.silq_mean.specs.Value.{gone}
use Rattle.silq_run.proofs.Places.{not_placed, placed}
use Rattle.silq_run.proofs.variables.Block.get.Goals as goal

pub returns-in_err-place-clause-none : goal.returns-in_err-place-clause-none
returns-in_err-place-clause-none c = rw c.from_residual.ensures (not_placed c.args.self.now c.args.name (sym c.in_err-place.ensures))

pub returns-clause-some : goal.returns-clause-some
returns-clause-some c =
    let r = placed c.args.self.now c.args.name c.in_ok-place.place c.index.result.now (sym c.in_ok-place.ensures) in
    ap (λ z. z.1) c.index.ensures ∙ ap (λ z. (get_or z c.in_ok-place.place c.index.result.now).1) c.self.view_is ∙ sym (r.shows gone)
