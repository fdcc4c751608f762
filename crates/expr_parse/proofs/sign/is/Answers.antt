use Rattle.std.proofs.Common.{rules, sym, ◌∙◌}
use denote.Enum.Bare.{same_true, same_false}
use Rattle.silq_grammar.specs.contracts.token.Terminal.{the_type}
use Rattle.expr_parse.proofs.Signs.{flag_same}
use Rattle.expr_parse.proofs.sign.is.Goals as goal

pub returns : goal.returns
returns c =
    flag_same _ c.args.found c.args.wanted (λ e. same_true the_type (search rules) _ _ (sym c.eq.ensures ∙ e))
    (λ e. same_false the_type _ _ (sym c.eq.ensures ∙ e))
