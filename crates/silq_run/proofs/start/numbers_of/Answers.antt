use Rattle.std.proofs.Common.{suc, sym, ◌∙◌, arith}
use Rattle.std.proofs.lemmas.List.{append-nil}
use Rattle.silq_mean.specs.Value.{numbers_of}
use Rattle.silq_run.proofs.Listing.{numbers_next}
use Rattle.silq_run.proofs.start.numbers_of.Goals as goal

pub loop-preserved : goal.loop-preserved
loop-preserved c = λ more e.
    numbers_next c.args.width more c.loop.numbers c.push.new.self (numbers_of c.args.count c.args.width c.args.bits.now) c.in_ok-number.number c.loop.rest.now c.front.result.now c.behind-rest.result.now
    (c.loop.invariant (suc more) (omega (arith, e))) c.in_ok-push.ensures c.in_ok-number.ensures c.front.ensures c.behind-rest.ensures

pub returns : goal.returns
returns c = sym (append-nil c.loop.numbers) ∙ c.loop.invariant 0 (omega arith)
