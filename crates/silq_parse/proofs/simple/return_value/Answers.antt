use Rattle.std.proofs.Common.{◌∷◌, refl, sym, ◌∙◌, arith}
use Rattle.silq_grammar.specs.Outcome.{outcome}
use Rattle.silq_grammar.specs.Machine.{Expect}
use Rattle.silq_grammar.specs.declared.token.Terminal.TheVariants as t
use Rattle.expr_parse.proofs.Exits.{stops_behind, behind}
use Rattle.silq_parse.proofs.SimpleReads.{something_reads, nothing_reads}
use Rattle.silq_parse.proofs.Skips.{return_nothing_there, return_something_there}
use Rattle.silq_parse.proofs.simple.return_value.Goals as goal

pub returns-in_err-value-clause-machine : goal.returns-in_err-value-clause-machine
unfolding outcome
returns-in_err-value-clause-machine c = λ k h.
    stops_behind _ _ _ _ _ _ c.from_residual.ensures.1 (refl) (c.in_err-value.ensures.machine (Expect t.Semicolon ∷ k) (omega arith)) (return_something_there k _ (sym c.begins.ensures ∙ c.if-begins.false))

pub returns-clause-machine : goal.returns-clause-machine
unfolding outcome
returns-clause-machine c = λ k h.
    behind ((c.in_ok-value.ensures.machine (Expect t.Semicolon ∷ k) (omega arith))) (return_something_there k _ (sym c.begins.ensures ∙ c.if-begins.false))

pub returns-then-begins-clause-machine : goal.returns-then-begins-clause-machine
returns-then-begins-clause-machine c = λ k h. return_nothing_there k _ (sym c.begins.ensures ∙ c.if-begins.true)

pub returns-clause-reads : goal.returns-clause-reads
returns-clause-reads c = something_reads c.in_ok-value.ensures.reads

pub returns-then-begins-clause-reads : goal.returns-then-begins-clause-reads
returns-then-begins-clause-reads c = nothing_reads _ _
