use Rattle.std.proofs.Common.{[], ◌∷◌, ◌++◌, sym, ap, ◌∙◌, arith}
use Rattle.std.specs.Option.{option_copied}
use Rattle.reqomp.proofs.InOrder.{id_there, vertex_there, move_more, move_all}
use Rattle.reqomp.proofs.circuit_moves.moves_in_order.Goals as goal

pub vertex-requires : goal.vertex-requires
vertex-requires c =
    id_there c.args.flat.now c.args.graph.now c.args.ids.now c.requires.order c.loop-i.i c.unwrap-id.result.now (sym c.get.ensures ∙ ap option_copied c.unwrap-id.ensures)

pub move_of-requires : goal.move_of-requires
move_of-requires c = vertex_there c.args.flat.now c.args.graph.now c.requires.graph.vertices c.unwrap-id.result.now c.vertex.result c.vertex.ensures

pub loop-i-preserved : goal.loop-i-preserved
loop-i-preserved c = λ order are.
    let next = move_more c.args.flat.now c.args.graph.now c.args.ids.now order are c.loop-i.i c.unwrap-id.result.now c.vertex.result c.loop-i.moves (sym c.get.ensures ∙ ap option_copied c.unwrap-id.ensures) c.vertex.ensures (c.loop-i.invariant order are) in
    c.in_ok-push.ensures.ok ∙ ap (λ m. c.loop-i.moves ++ m ∷ []) c.move_of.ensures ∙ next

pub returns : goal.returns
returns c = λ order are. move_all c.args.flat.now c.args.graph.now c.args.ids.now order are c.loop-i.i c.loop-i.moves (omega arith) (c.loop-i.invariant order are)
