use Rattle.std.proofs.Common.{◌+◌, ◌∷◌, cond, ◌==◌, ◌∙◌, ap, arith}
use Rattle.std.proofs.lemmas.List.Sorted.{length_permutation}
use Rattle.qubit_alloc.proofs.Seating.{times_permuted, times_cons}
use Rattle.qubit_alloc.proofs.Turning.{range_more}
use Rattle.qubit_alloc.proofs.placer.free_from.Goals as goal

pub loop-qubit-preserved : goal.loop-qubit-preserved
loop-qubit-preserved c =
    let inv = c.loop-qubit.invariant in
    let before = c.loop-qubit.free.items in
    let long = length_permutation (c.loop-qubit.qubit ∷ before) c.add.new.self.items c.add.ensures.items in
    let few = inv.few in
    let room = c.add.ensures.room in
    let kept = inv.room in
    record {
      counted = λ j. times_permuted (c.loop-qubit.qubit ∷ before) c.add.new.self.items j c.add.ensures.items ∙ times_cons c.loop-qubit.qubit before j ∙ ap (λ n. cond (c.loop-qubit.qubit == j) 1 0 + n) (inv.counted j) ∙ range_more c.args.from j c.loop-qubit.qubit (omega (arith, few));
      few = omega (arith, long, few);
      room = omega (arith, room, kept);
    }
