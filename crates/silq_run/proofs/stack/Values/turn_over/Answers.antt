use Rattle.std.proofs.Common.{◌∷◌, reverse, sym, ap, ◌∙◌, arith}
use Rattle.silq_run.proofs.Turned.{next_turned, ended}
use Rattle.silq_run.proofs.stack.Values.turn_over.Goals as goal

pub returns-in_default-clause-turned : goal.returns-in_default-clause-turned
returns-in_default-clause-turned c =
    let r = ended c.args.self.now c.loop.counter c.args.count (omega arith) (sym c.loop.invariant.1 ∙ c.in_default.ensures.none.0) in
    c.loop.invariant.0 ∙ ap reverse r.0

pub returns-in_default-clause-rest : goal.returns-in_default-clause-rest
returns-in_default-clause-rest c =
    let r = ended c.args.self.now c.loop.counter c.args.count (omega arith) (sym c.loop.invariant.1 ∙ c.in_default.ensures.none.0) in
    c.in_default.ensures.none.1 ∙ sym r.1

pub loop-preserved : goal.loop-preserved
loop-preserved c =
    let r = next_turned c.args.self.now c.loop.counter c.in-Some.value c.pop.new.self (sym c.loop.invariant.1 ∙ c.in-Some.ensures.value) in
    (c.in_ok-push.ensures ∙ ap (λ z. c.in-Some.value ∷ z) c.loop.invariant.0 ∙ sym r.turned, sym r.left)
