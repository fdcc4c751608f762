use Rattle.std.proofs.Common.{length}
use Rattle.std.proofs.lemmas.Slice.Zip.{zip_end}
use Rattle.check_fun.proofs.Zipped.{done_all, returned_end}
use Rattle.check_fun.proofs.results.returned.Goals as goal

pub returns : goal.returns
returns c =
    let e = zip_end c.args.types.now c.args.values.now c.loop-ty.yielded c.into_iter-ty-iterator.result _ c.next.new.self _ (cc) (cc) c.loop-ty.yielded_by c.in-None.is c.next.ensures.steps in
    done_all c.loop-ty.results _ _ c.loop-ty.invariant (returned_end c.args.params.now c.args.types.now c.args.values.now (length c.loop-ty.yielded) e)
