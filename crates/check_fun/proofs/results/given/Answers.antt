use Rattle.std.proofs.Common.{arith, cond, None, Some}
use mathlib.Core.Path.{sym, ap, ◌∙◌}
use Rattle.check_fun.proofs.Zipped.{given_past, given_found}
use Rattle.check_fun.proofs.results.given.Goals as goal

pub returns-then-place-len : goal.returns-then-place-len
returns-then-place-len c = sym (given_past 0 c.args.params.now c.args.place (omega arith))

pub returns-then-param : goal.returns-then-param
returns-then-param c = sym (given_found c.args.params.now c.args.place c.in-Some.param.now (sym c.in-Some.ensures) ∙ ap (λ b. cond b None (Some c.args.place)) c.if-param.true)

pub returns-else-number : goal.returns-else-number
returns-else-number c = sym (given_found c.args.params.now c.args.place c.in-Some.param.now (sym c.in-Some.ensures) ∙ ap (λ b. cond b None (Some c.args.place)) c.if-param.false)
