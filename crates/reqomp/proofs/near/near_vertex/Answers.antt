use Rattle.graph_core.specs.declared.vertex.EdgeKind.TheVariants.{Control, Availability}
use Rattle.reqomp.proofs.Growth.{listed_entering, listed_leaving}
use Rattle.reqomp.proofs.near.near_vertex.Goals as goal

pub returns : goal.returns
returns c = record {
  holders = λ x.
      let e = c.in_ok-holders.ensures x in
      let l = listed_entering c.args.at c.args.circuit.now.arrows c.before-2.result x Control c.before-2.ensures in
      ((λ h. l.0 (e.0 h)), (λ h. e.1 (l.1 h)));
  changers = λ x.
      let e = c.in_ok-changers.ensures x in
      let l = listed_leaving c.args.at c.args.circuit.now.arrows c.after.result x Availability c.after.ensures in
      ((λ h. l.0 (e.0 h)), (λ h. e.1 (l.1 h)));
}
