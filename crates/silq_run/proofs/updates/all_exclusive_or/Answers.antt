use Rattle.std.proofs.Common.{◌++◌, drop, sym, ap, ◌∙◌}
use Rattle.std.proofs.lemmas.List.{append-nil}
use Rattle.silq_types.specs.Types.{scalar_bits}
use Rattle.silq_run.proofs.Combined.{none_left}
use Rattle.silq_run.proofs.updates.all_exclusive_or.Goals as goal

pub returns-in_default : goal.returns-in_default
returns-in_default c =
    sym (append-nil c.loop-a.joined)
    ∙ ap (λ z. c.loop-a.joined ++ z) (sym (none_left (scalar_bits c.args.scalar) (drop c.loop-a.a-index c.args.firsts.now) c.loop-a.rest.now c.in_default.len_below))
    ∙ c.loop-a.invariant
