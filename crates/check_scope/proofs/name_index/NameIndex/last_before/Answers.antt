use Rattle.std.proofs.Common.{Some, None, sym}
use Rattle.check_scope.proofs.NameChains.{Above, above_first, above_found, above_within, above_next, left_below, above_none, above_some}
use Rattle.check_scope.proofs.name_index.NameIndex.last_before.Goals as goal

pub loop-found-init : goal.loop-found-init
loop-found-init c = above_first _ _ c.args.n _ c.last-found.ensures

pub returns-then-i-n : goal.returns-then-i-n
returns-then-i-n c =
    let a : Above c.args.self.now c.args.name c.args.n (Some c.in-Some.i) = rw (← c.in-Some.is) c.loop-found.invariant in
    sym (above_some _ _ c.args.n c.in-Some.i a c.if-i-n.true)

pub before-found-requires : goal.before-found-requires
before-found-requires c =
    let a : Above c.args.self.now c.args.name c.args.n (Some c.in-Some.i) = rw (← c.in-Some.is) c.loop-found.invariant in
    above_within _ _ c.args.n _ a

pub loop-found-smaller : goal.loop-found-smaller
loop-found-smaller c =
    let a : Above c.args.self.now c.args.name c.args.n (Some c.in-Some.i) = rw (← c.in-Some.is) c.loop-found.invariant in
    rw c.in-Some.is (left_below c.args.self.now c.args.name c.in-Some.i _ (c.before-found.ensures c.args.name (above_found _ _ c.args.n c.in-Some.i a)))

pub loop-found-preserved : goal.loop-found-preserved
loop-found-preserved c =
    let a : Above c.args.self.now c.args.name c.args.n (Some c.in-Some.i) = rw (← c.in-Some.is) c.loop-found.invariant in
    above_next _ _ c.args.n c.in-Some.i _ c.if-i-n.false (c.before-found.ensures c.args.name (above_found _ _ c.args.n c.in-Some.i a))

pub returns : goal.returns
returns c =
    let a : Above c.args.self.now c.args.name c.args.n None = rw (← c.in_default.is) c.loop-found.invariant in
    sym (above_none _ _ c.args.n a)
