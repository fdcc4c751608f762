use Rattle.std.proofs.Common.{◌∷◌, refl, ◌∙◌, arith}
use Rattle.silq_grammar.specs.Machine.{Expect}
use Rattle.silq_grammar.specs.declared.token.Terminal.TheVariants as t
use Rattle.expr_parse.proofs.Exits.{stops}
use Rattle.silq_parse.proofs.HeaderReads.{one_static}
use Rattle.silq_parse.proofs.header.static_param.Goals as goal

pub returns-in_err-id-clause-machine : goal.returns-in_err-id-clause-machine
returns-in_err-id-clause-machine c = λ k h.
    stops _ _ _ _ _ c.from_residual.ensures.1 (refl) (c.in_err-id.ensures.machine (Expect t.Colon ∷ Expect t.Bang ∷ Expect t.Natural ∷ k) (omega arith))

pub returns-in_err-rest-clause-machine : goal.returns-in_err-rest-clause-machine
returns-in_err-rest-clause-machine c = λ k h.
    stops _ _ _ _ _ c.from_residual-in_err-rest.ensures.1 ((c.in_ok-id.ensures.machine (Expect t.Colon ∷ Expect t.Bang ∷ Expect t.Natural ∷ k) (omega arith))) (c.in_err-rest.ensures.machine (Expect t.Bang ∷ Expect t.Natural ∷ k) (omega arith))

pub returns-in_err-rest-2-clause-machine : goal.returns-in_err-rest-2-clause-machine
returns-in_err-rest-2-clause-machine c = λ k h.
    stops _ _ _ _ _ c.from_residual-in_err-rest-2.ensures.1 ((c.in_ok-id.ensures.machine (Expect t.Colon ∷ Expect t.Bang ∷ Expect t.Natural ∷ k) (omega arith)) ∙ (c.in_ok-rest.ensures.machine (Expect t.Bang ∷ Expect t.Natural ∷ k) (omega arith))) (c.in_err-rest-2.ensures.machine (Expect t.Natural ∷ k) (omega arith))

pub returns-in_err-rest-3-clause-machine : goal.returns-in_err-rest-3-clause-machine
returns-in_err-rest-3-clause-machine c = λ k h.
    stops _ _ _ _ _ c.from_residual-in_err-rest-3.ensures.1 ((c.in_ok-id.ensures.machine (Expect t.Colon ∷ Expect t.Bang ∷ Expect t.Natural ∷ k) (omega arith)) ∙ (c.in_ok-rest.ensures.machine (Expect t.Bang ∷ Expect t.Natural ∷ k) (omega arith)) ∙ (c.in_ok-rest-2.ensures.machine (Expect t.Natural ∷ k) (omega arith))) (c.in_err-rest-3.ensures.machine (k) (omega arith))

pub returns-clause-machine : goal.returns-clause-machine
returns-clause-machine c = λ k h.
    (c.in_ok-id.ensures.machine (Expect t.Colon ∷ Expect t.Bang ∷ Expect t.Natural ∷ k) (omega arith)) ∙ (c.in_ok-rest.ensures.machine (Expect t.Bang ∷ Expect t.Natural ∷ k) (omega arith)) ∙ (c.in_ok-rest-2.ensures.machine (Expect t.Natural ∷ k) (omega arith)) ∙ (c.in_ok-rest-3.ensures.machine (k) (omega arith))

pub returns-clause-reads : goal.returns-clause-reads
returns-clause-reads c = one_static _ _ _ _ _ c.in_ok-id.ensures.token c.in_ok-rest.ensures.token c.in_ok-rest-2.ensures.token c.in_ok-rest-3.ensures.token
