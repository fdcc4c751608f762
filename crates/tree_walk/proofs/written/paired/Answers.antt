use Rattle.std.proofs.Common.{length}
use Rattle.std.proofs.lemmas.Slice.Zip.{zip_end}
use Rattle.tree_walk.proofs.WrittenLists.{all_paired}
use Rattle.tree_walk.proofs.written.paired.Goals as goal

pub returns : goal.returns
returns c =
    let e = zip_end c.args.names.now c.args.values.now c.loop-name.yielded
    c.into_iter-name-iterator.result _ c.next.new.self _ (cc) (cc) c.loop-name.yielded_by c.in-None.is c.next.ensures.steps in
    all_paired c.args.names.now c.args.values.now (length c.loop-name.yielded) c.loop-name.statics e c.loop-name.invariant
