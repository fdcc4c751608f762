use Rattle.std.proofs.Common.{ℕ, suc, ◌/◌, ◌++◌, sym, ap, ◌∙◌, append_assoc, arith, Bool, List}
use Rattle.std.proofs.lemmas.List.{append-nil}
use Rattle.silq_mean.specs.Value.{low_bits}
use Rattle.silq_run.proofs.bits.push_number.Goals as goal

pub loop-preserved : goal.loop-preserved
loop-preserved c = λ more e.
    let rest : ℕ = c.loop.rest in
    ap (λ (bs : List Bool). bs ++ low_bits more (rest / 2)) c.in_ok-push.ensures.ok
    ∙ append_assoc c.loop.bits _ (low_bits more (rest / 2))
    ∙ c.loop.invariant (suc more) (omega (arith, e))

pub returns : goal.returns
returns c = sym (append-nil c.loop.bits) ∙ c.loop.invariant 0 (omega arith)
