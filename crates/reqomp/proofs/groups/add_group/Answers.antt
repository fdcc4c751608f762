use Rattle.std.proofs.Common.{◌≡◌, ◌+◌, ◌*◌, length, arith, refl, sym, subst}
use Rattle.std.proofs.lemmas.Bool.{both_ways}
use Rattle.graph_core.proofs.Places.{contains_at}
use Rattle.reqomp.specs.Simple.{marked_at}
use Rattle.reqomp.specs.Level.{IsRedone}
use Rattle.reqomp.proofs.Redone.{redone_is_found}
use Rattle.reqomp.proofs.Grouping.{groups_skip, groups_more}
use Rattle.reqomp.proofs.groups.add_group.Goals as goal

pub is_kept-requires-clause-vertex : goal.is_kept-requires-clause-vertex
is_kept-requires-clause-vertex c = (c.requires.circuit.vertices c.vertex-vertex.result).0 (contains_at c.args.circuit.now.vertices c.args.at.number c.vertex-vertex.result c.vertex-vertex.ensures)

pub returns-clause-groups : goal.returns-clause-groups
returns-clause-groups c =
    let f = c.args.flat.now in
    let k = c.args.marks.now.level in
    let v = c.vertex-vertex.result in
    let vertex = (c.requires.circuit.vertices v).0 (contains_at c.args.circuit.now.vertices c.args.at.number v c.vertex-vertex.ensures) in
    let redone : IsRedone f (marked_at f k) v c.in_ok-steps.steps.items = subst (IsRedone f (marked_at f k) v) (sym c.in_ok-steps.ensures.steps) (redone_is_found f k v vertex) in
    let moves : c.args.groups.now.moves + (2 * c.len.result + 1) ≡ c.args.groups.now.moves + (2 * length c.in_ok-steps.steps.items + 1) = omega (arith, c.in_ok-steps.steps.ok) in
    groups_more f (marked_at f k) c.args.circuit.now c.len-count.ensures.sound c.args.at.number c.args.groups.now c.requires.groups c.args.at refl v c.vertex-vertex.ensures (c.is_kept.ensures.0 c.if-not-is_kept.false)
    (record { at = c.args.at; vertex = v; steps = c.in_ok-steps.steps }) refl refl redone _ c.in_ok-push.ensures.items moves

pub returns-then-not-is_kept-clause-groups : goal.returns-then-not-is_kept-clause-groups
returns-then-not-is_kept-clause-groups c =
    let f = c.args.flat.now in
    groups_skip f (marked_at f c.args.marks.now.level) c.args.circuit.now c.len-count.ensures.sound c.args.at.number c.args.groups.now c.requires.groups c.args.at refl c.vertex-vertex.result c.vertex-vertex.ensures
    (λ k. both_ways c.is_kept.result c.if-not-is_kept.true (c.is_kept.ensures.1 k))
