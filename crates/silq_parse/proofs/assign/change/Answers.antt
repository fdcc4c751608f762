use Rattle.std.proofs.Common.{◌∷◌, arith}
use Rattle.silq_grammar.specs.Machine.{Expect}
use Rattle.silq_grammar.specs.declared.token.Terminal.TheVariants as t
use Rattle.expr_parse.proofs.Exits.{stops}
use Rattle.silq_parse.proofs.SimpleReads.{change_reads}
use Rattle.silq_parse.proofs.assign.change.Goals as goal

pub returns-in_err-value-clause-machine : goal.returns-in_err-value-clause-machine
returns-in_err-value-clause-machine c = λ k h.
    stops _ _ _ _ _ c.from_residual-in_err-value.ensures.1 ((c.in_ok-op.ensures.machine (k) (omega arith))) (c.in_err-value.ensures.machine (Expect t.Semicolon ∷ k) (omega arith))

pub returns-clause-reads : goal.returns-clause-reads
returns-clause-reads c = change_reads _ _ c.in_ok-op.ensures.token c.in_ok-value.ensures.reads c.in_ok-rest.ensures.token
