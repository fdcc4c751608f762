use Rattle.reqomp.proofs.Growth.{listed_entering, listed_leaving}
use Rattle.reqomp.proofs.growing.Growing.has_edge.Goals as goal

pub returns-then-eq : goal.returns-then-eq
returns-then-eq c =
    let l = listed_leaving c.args.from c.args.self.now.graph.arrows c.after.result c.args.to c.args.kind c.after.ensures in
    ((λ t. l.0 (c.has_end.ensures.0 t)), (λ h. c.has_end.ensures.1 (l.1 h)))

pub returns-else-eq : goal.returns-else-eq
returns-else-eq c =
    let l = listed_entering c.args.to c.args.self.now.graph.arrows c.before-else-eq.result c.args.from c.args.kind c.before-else-eq.ensures in
    ((λ t. l.0 (c.has_end-else-eq.ensures.0 t)), (λ h. c.has_end-else-eq.ensures.1 (l.1 h)))
