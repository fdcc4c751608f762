use Rattle.std.proofs.Common.{sym, ◌∙◌, arith}
use Rattle.std.proofs.lemmas.Grind.{common_steps}
use Rattle.expr_parse.proofs.Signs.{are_same}
use Rattle.expr_parse.proofs.sign.sign.Goals as goal

pub returns-then-is-clause-token : goal.returns-then-is-clause-token
returns-then-is-clause-token c =
    let e = are_same c.in-Fixed.found c.args.wanted (sym c.is.ensures ∙ c.if-is.true) in
    grind (arith, common_steps)
