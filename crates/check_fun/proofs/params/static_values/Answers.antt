use Rattle.std.proofs.Common.{length}
use Rattle.std.proofs.lemmas.Slice.Zip.{zip_end}
use Rattle.check_fun.proofs.Zipped.{done_all, paired_end}
use Rattle.check_fun.proofs.params.static_values.Goals as goal

pub returns : goal.returns
returns c =
    let e = zip_end c.args.names.now c.args.values.now c.loop-name.yielded c.into_iter-name-iterator.result _ c.next.new.self _ (cc) (cc) c.loop-name.yielded_by c.in-None.is c.next.ensures.steps in
    done_all c.loop-name.statics _ _ c.loop-name.invariant (paired_end c.args.names.now c.args.values.now (length c.loop-name.yielded) e)
