use Rattle.std.proofs.Common.{◌≡◌, ℕ, ◌+◌, List, slice_get, Some, length, sym, subst, ap, ◌∙◌, inl, inr}
use Rattle.std.proofs.lemmas.List.{length_push}
use Rattle.flat_core.proofs.Places.{at_push}
use Rattle.graph_core.specs.declared.graph.VertexId.{VertexId}
use Rattle.reqomp.specs.declared.near.Near.{Near}
use Rattle.reqomp.specs.Growing.{IsNear}
use Rattle.reqomp.proofs.Growth.{same_id}
use Rattle.reqomp.proofs.near.near_vertices.Goals as goal

pub loop-i-preserved : goal.loop-i-preserved
loop-i-preserved c =
    let circuit = c.args.circuit.now in
    let old = c.loop-i.near.items in
    let new = c.in_ok-row.row in
    let here : VertexId = record { number = c.loop-i.i } in
    record {
      as_many = ap length c.in_ok-push.ensures.items ∙ length_push old new ∙ ap (λ (n : ℕ). n + 1) c.loop-i.invariant.as_many;
      at = λ at row e.
          elim (at_push old new at.number row (ap (λ (l : List Near). slice_get l at.number) (sym c.in_ok-push.ensures.items) ∙ e)) [
            | inl p ↦ c.loop-i.invariant.at at row p.1
            | inr p ↦
                let same : here ≡ at = same_id here at (sym (p.0 ∙ c.loop-i.invariant.as_many)) in
                subst (λ (v : VertexId). IsNear circuit v row) same (subst (IsNear circuit here) p.1 c.in_ok-row.ensures)
          ];
    }
