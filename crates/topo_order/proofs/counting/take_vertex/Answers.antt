use Rattle.std.proofs.Common.{ℕ, arith, length-set}
use Rattle.topo_order.proofs.Lowered.{lowering_start, lowering_within, lowering_some}
use Rattle.topo_order.proofs.Falling.{falling_start, fall_put, fall_keep}
use Rattle.topo_order.proofs.counting.take_vertex.Goals as goal

pub loop-to-init : goal.loop-to-init
loop-to-init c =
    falling_start _ _ _ _ _ _ (lowering_start _ _ _ _ c.len-count.ensures.sound c.requires.sized c.requires.enough c.after-edges.ensures) c.put_leaf.ensures.tree c.put_leaf.ensures.leaves

pub bounds-counters-to : goal.bounds-counters-to
bounds-counters-to c =
    let w = lowering_within _ _ _ _ _ _ _ c.loop-to.invariant.lowering c.in-Some.ensures.next in
    let s = c.loop-to.invariant.lowering.sized in
    omega arith

pub overflow_sub-counters : goal.overflow_sub-counters
overflow_sub-counters c =
    let l = lowering_some _ _ _ _ _ _ _ c.loop-to.invariant.lowering c.in-Some.ensures.next in
    omega arith

pub bounds-counters-to-in-Some : goal.bounds-counters-to-in-Some
bounds-counters-to-in-Some c =
    let w = lowering_within _ _ _ _ _ _ _ c.loop-to.invariant.lowering c.in-Some.ensures.next in
    let s = c.loop-to.invariant.lowering.sized in
    omega arith

pub bounds-counters-to-in-Some-2 : goal.bounds-counters-to-in-Some-2
bounds-counters-to-in-Some-2 c =
    let w = lowering_within _ _ _ _ _ _ _ c.loop-to.invariant.lowering c.in-Some.ensures.next in
    let s = c.loop-to.invariant.lowering.sized in
    omega (arith, length-set {A = ℕ})

pub put_leaf-requires-then-counters-to-eq0-clause-there :
    goal.put_leaf-requires-then-counters-to-eq0-clause-there
put_leaf-requires-then-counters-to-eq0-clause-there c = lowering_within _ _ _ _ _ _ _ c.loop-to.invariant.lowering c.in-Some.ensures.next

pub loop-to-preserved-then-counters-to-eq0 : goal.loop-to-preserved-then-counters-to-eq0
loop-to-preserved-then-counters-to-eq0 c =
    fall_put _ _ _ _ _ _ _ _ _ c.loop-to.invariant c.in-Some.ensures.next _ c.if-counters-to-eq0.true c.put_leaf-then-counters-to-eq0.ensures.tree c.put_leaf-then-counters-to-eq0.ensures.leaves

pub loop-to-preserved : goal.loop-to-preserved
loop-to-preserved c = fall_keep _ _ _ _ _ _ _ _ _ c.loop-to.invariant c.in-Some.ensures.next c.if-counters-to-eq0.false
