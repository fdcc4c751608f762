use Rattle.std.proofs.Common.{◌≡◌, subst}
use Rattle.graph_core.specs.Circuit.{circuit_graph}
use Rattle.graph_core.specs.Digraph.{IsCycle}
use Rattle.topo_order.specs.GivenCycle.{IsGivenCycle}
use Rattle.reqomp.proofs.Sameness.{orders_of_circuit}
use Rattle.reqomp.proofs.Widths.{level_search}
use Rattle.reqomp.proofs.first_fit.plan.Goals as goal

pub returns-in-Err-Cycle-clause-cycle : goal.returns-in-Err-Cycle-clause-cycle
returns-in-Err-Cycle-clause-cycle c = λ cycle e.
    let f = c.args.flat.now in
    let a = orders_of_circuit f c.in_ok-circuit.circuit c.in_ok-circuit.ensures in
    let h = rw c.in-Err-Cycle.field-0-is at c.in-Err-Cycle.ensures.cycle in
    let s = rw c.in-Err-Cycle.field-0-is at e in
    let same : c.in-Err-Cycle.cycle ≡ cycle = cc in
    subst (IsCycle (circuit_graph f)) same ((a.cycle c.in-Err-Cycle.cycle).0 h)

pub returns-in-Err-Cycle-clause-given : goal.returns-in-Err-Cycle-clause-given
returns-in-Err-Cycle-clause-given c = λ cycle e.
    let f = c.args.flat.now in
    let a = orders_of_circuit f c.in_ok-circuit.circuit c.in_ok-circuit.ensures in
    let h = rw c.in-Err-Cycle.field-0-is at c.in-Err-Cycle.ensures.given in
    let s = rw c.in-Err-Cycle.field-0-is at e in
    let same : c.in-Err-Cycle.cycle ≡ cycle = cc in
    subst (IsGivenCycle (circuit_graph f)) same ((a.given c.in-Err-Cycle.cycle).0 h)

pub returns-in-Fitting-clause-acyclic : goal.returns-in-Fitting-clause-acyclic
returns-in-Fitting-clause-acyclic c = (orders_of_circuit c.args.flat.now c.in_ok-circuit.circuit c.in_ok-circuit.ensures).acyclic.0 c.in-Ok.ensures.acyclic

pub returns-clause-over : goal.returns-clause-over
returns-clause-over c = λ least e.
    let o = rw c.in-Over.is at c.in_ok-plan.ensures in
    (level_search c.args.flat.now c.args.budget).at_end o.0

pub returns-clause-over_acyclic : goal.returns-clause-over_acyclic
returns-clause-over_acyclic c = λ least e. (orders_of_circuit c.args.flat.now c.in_ok-circuit.circuit c.in_ok-circuit.ensures).acyclic.0 c.in-Ok.ensures.acyclic
