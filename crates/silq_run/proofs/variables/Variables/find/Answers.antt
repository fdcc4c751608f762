use Rattle.std.proofs.Common.{◌≡◌, false, reverse, sym, ap, ◌∙◌, subst}
use Rattle.silq_mean.specs.Env.{is_in_reach}
use Rattle.silq_mean.specs.Value.{gone}
use Rattle.silq_run.specs.Reach.{IsInnermost}
use Rattle.silq_run.proofs.Places.{not_found, found_to}
use Rattle.silq_run.proofs.variables.Variables.find.Goals as goal

pub returns-in_err-i-clause-none : goal.returns-in_err-i-clause-none
returns-in_err-i-clause-none c =
    let out : is_in_reach c.args.self.now c.args.name ≡ false = ap (λ z. is_in_reach z c.args.name) (sym c.self.view_is ∙ ap reverse (sym c.as_slice.ensures.value)) ∙ c.in_err-i.ensures.none in
    rw c.from_residual.ensures (not_found c.args.self.now c.args.name gone out)

pub returns-clause-some : goal.returns-clause-some
returns-clause-some c =
    let x = c.args.name in let i = c.in_ok-i.i in let b = c.index-block.result.now in let bs = c.self.inside.blocks.items in
    let h : IsInnermost bs x i = subst (λ z. IsInnermost z x i) c.as_slice.ensures.value c.in_ok-i.ensures.some in
    rw (found_to bs x i gone b c.args.self.now h c.index-block.ensures c.self.view_is) c.get.ensures.some
