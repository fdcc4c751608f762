use Rattle.std.proofs.Common.{◌≡◌, ℕ, ◌<◌, List, true, false, length, slice_get, slice_index_or, Some, subst, sym, ap, ◌∙◌, arith}
use Rattle.std.proofs.lemmas.Option.{slice_get-get_or, slice_get_within}
use Rattle.flat_core.specs.declared.step.StepId.{StepId}
use Rattle.flat_core.proofs.Kept.{keeps_ends}
use Rattle.reqomp.specs.Simple.{marked_at}
use Rattle.reqomp.specs.Contracted.{alike}
use Rattle.reqomp.specs.Growing.{IsSoundFor, MayCopyBefore, MayCopyAfter}
use Rattle.reqomp.proofs.Growth.{still_vertex, grown_twice}
use Rattle.reqomp.proofs.GroupEdges.{may_before, may_after, may_own, may_before_again, may_after_again}
use Rattle.reqomp.proofs.GroupEdges.{again_step, again_there, edges_start, edges_more, edges_end}
use Rattle.reqomp.proofs.growing.Growing.add_group_edges.Goals as goal

step_there : (items steps : List StepId) → items ≡ steps → (i : ℕ) → i < length items
    → slice_get steps i ≡ Some (slice_index_or items i (record { number = 0 }))
step_there items steps e i l =
    ap (λ (xs : List StepId). slice_get xs i) (sym e) ∙ slice_get-get_or items i (record { number = 0 }) l

pub copy_before-requires-clause-may : goal.copy_before-requires-clause-may
copy_before-requires-clause-may c =
    let f = c.args.flat.now in
    let group = c.args.group.now in
    let marked = marked_at f c.args.self.now.level in
    may_before f c.args.circuit.now c.args.self.now.graph group.at c.args.id group.vertex group.vertex c.requires.group.at c.requires.id marked true
    (may_own f marked group.vertex)

pub beside-at-requires-clause-forward_row : goal.beside-at-requires-clause-forward_row
beside-at-requires-clause-forward_row c =
    let f = c.args.flat.now in
    let ok = keeps_ends f c.steps-steps.ensures.sound in
    let k = c.args.self.now.level in
    let group = c.args.group.now in
    let circuit = c.args.circuit.now in
    let i = c.loop-t.t-index in
    let t : StepId = slice_index_or c.deref-t-items.result.now i (record { number = 0 }) in
    let at = step_there c.deref-t-items.result.now group.steps.items c.deref-t-items.ensures.value i c.loop-t-test.true in
    let low = again_step f ok k circuit group c.requires.group i t at in
    let rows = c.requires.places.forward_rows in
    omega arith

pub beside-at-requires-clause-reverse_row : goal.beside-at-requires-clause-reverse_row
beside-at-requires-clause-reverse_row c =
    let f = c.args.flat.now in
    let ok = keeps_ends f c.steps-steps.ensures.sound in
    let k = c.args.self.now.level in
    let group = c.args.group.now in
    let circuit = c.args.circuit.now in
    let i = c.loop-t.t-index in
    let t : StepId = slice_index_or c.deref-t-items.result.now i (record { number = 0 }) in
    let at = step_there c.deref-t-items.result.now group.steps.items c.deref-t-items.ensures.value i c.loop-t-test.true in
    let low = again_step f ok k circuit group c.requires.group i t at in
    let rows = c.requires.places.reverse_rows in
    omega arith

pub copy_again-requires-clause-at : goal.copy_again-requires-clause-at
copy_again-requires-clause-at c =
    let f = c.args.flat.now in
    let ok = keeps_ends f c.steps-steps.ensures.sound in
    let k = c.args.self.now.level in
    let group = c.args.group.now in
    let circuit = c.args.circuit.now in
    let i = c.loop-t.t-index in
    let t : StepId = slice_index_or c.deref-t-items.result.now i (record { number = 0 }) in
    let at = step_there c.deref-t-items.result.now group.steps.items c.deref-t-items.ensures.value i c.loop-t-test.true in
    let there = again_there f ok k circuit group c.requires.group i t at in
    let beside = c.beside-at.ensures f circuit c.requires.circuit c.requires.places c.requires.group.at there in
    slice_get_within circuit.vertices c.beside-at.result.number (alike group.vertex t) beside

pub copy_again-requires-clause-id : goal.copy_again-requires-clause-id
copy_again-requires-clause-id c =
    let group = c.args.group.now in
    slice_get_within c.loop-t.self.graph.vertices c.args.id.number group.vertex
    (still_vertex c.args.self.now.graph c.loop-t.self.graph c.loop-t.invariant.grown c.args.id group.vertex c.requires.id)

pub copy_again-requires-clause-before : goal.copy_again-requires-clause-before
copy_again-requires-clause-before c = λ x v p q.
    let f = c.args.flat.now in
    let ok = keeps_ends f c.steps-steps.ensures.sound in
    let k = c.args.self.now.level in
    let group = c.args.group.now in
    let circuit = c.args.circuit.now in
    let i = c.loop-t.t-index in
    let t : StepId = slice_index_or c.deref-t-items.result.now i (record { number = 0 }) in
    let at = step_there c.deref-t-items.result.now group.steps.items c.deref-t-items.ensures.value i c.loop-t-test.true in
    let there = again_there f ok k circuit group c.requires.group i t at in
    let beside = c.beside-at.ensures f circuit c.requires.circuit c.requires.places c.requires.group.at there in
    let own = still_vertex c.args.self.now.graph c.loop-t.self.graph c.loop-t.invariant.grown c.args.id group.vertex c.requires.id in
    let may = may_before_again f ok k circuit group c.requires.group i t at in
    subst (λ m. MayCopyBefore f (marked_at f m) false x v) (sym c.loop-t.invariant.level)
    (may_before f circuit c.loop-t.self.graph c.beside-at.result c.args.id (alike group.vertex t) group.vertex beside own (marked_at f k) false
    may x v p q)

pub copy_again-requires-clause-after : goal.copy_again-requires-clause-after
copy_again-requires-clause-after c = λ x u p q.
    let f = c.args.flat.now in
    let ok = keeps_ends f c.steps-steps.ensures.sound in
    let k = c.args.self.now.level in
    let group = c.args.group.now in
    let circuit = c.args.circuit.now in
    let i = c.loop-t.t-index in
    let t : StepId = slice_index_or c.deref-t-items.result.now i (record { number = 0 }) in
    let at = step_there c.deref-t-items.result.now group.steps.items c.deref-t-items.ensures.value i c.loop-t-test.true in
    let there = again_there f ok k circuit group c.requires.group i t at in
    let beside = c.beside-at.ensures f circuit c.requires.circuit c.requires.places c.requires.group.at there in
    let own = still_vertex c.args.self.now.graph c.loop-t.self.graph c.loop-t.invariant.grown c.args.id group.vertex c.requires.id in
    let may = may_after_again f ok k circuit group c.requires.group i t at in
    subst (λ m. MayCopyAfter f (marked_at f m) x u) (sym c.loop-t.invariant.level)
    (may_after f circuit c.loop-t.self.graph c.beside-at.result c.args.id (alike group.vertex t) group.vertex beside own (marked_at f k)
    may x u p q)

pub loop-t-init : goal.loop-t-init
loop-t-init c =
    let group = c.args.group.now in
    record {
      level = c.copy_before.ensures.level;
      grown = c.copy_before.ensures.grown;
      sound = c.copy_before.ensures.sound;
      first = edges_start c.args.flat.now group c.copy_before.new.self.graph
          (c.in_ok-copy_before.ensures.copied group.vertex group.vertex c.requires.group.at c.requires.id);
    }

pub loop-t-preserved : goal.loop-t-preserved
loop-t-preserved c =
    let f = c.args.flat.now in
    let ok = keeps_ends f c.steps-steps.ensures.sound in
    let k = c.args.self.now.level in
    let group = c.args.group.now in
    let circuit = c.args.circuit.now in
    let i = c.loop-t.t-index in
    let t : StepId = slice_index_or c.deref-t-items.result.now i (record { number = 0 }) in
    let at = step_there c.deref-t-items.result.now group.steps.items c.deref-t-items.ensures.value i c.loop-t-test.true in
    let there = again_there f ok k circuit group c.requires.group i t at in
    let beside = c.beside-at.ensures f circuit c.requires.circuit c.requires.places c.requires.group.at there in
    let own = still_vertex c.args.self.now.graph c.loop-t.self.graph c.loop-t.invariant.grown c.args.id group.vertex c.requires.id in
    let more = c.copy_again.ensures in
    record {
      level = more.level ∙ c.loop-t.invariant.level;
      grown = grown_twice c.args.self.now.graph c.loop-t.self.graph c.copy_again.new.self.graph c.loop-t.invariant.grown more.grown;
      sound = subst (λ m. IsSoundFor f (marked_at f m) c.copy_again.new.self.graph) c.loop-t.invariant.level more.sound;
      first = edges_more f group c.loop-t.self.graph c.copy_again.new.self.graph i t at more.grown c.loop-t.invariant.first
          (c.in_ok-copy_again.ensures.before (alike group.vertex t) group.vertex beside own)
          (c.in_ok-copy_again.ensures.after (alike group.vertex t) group.vertex beside own);
    }

pub returns-clause-edges : goal.returns-clause-edges
returns-clause-edges c =
    let e = ap length c.deref-t-items.ensures.value in
    edges_end c.args.flat.now c.args.group.now c.loop-t.self.graph c.loop-t.t-index (omega arith) c.loop-t.invariant.first
