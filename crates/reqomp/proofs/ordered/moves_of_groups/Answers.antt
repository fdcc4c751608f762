use Rattle.std.proofs.Common.{◌≡◌, slice_get, Some, [], sym, ap, ◌∙◌, subst, arith}
use Rattle.std.proofs.lemmas.Option.{slice_get-get_or}
use Rattle.std.specs.Option.{option_copied}
use Rattle.reqomp.specs.declared.groups.Group.{Group}
use Rattle.reqomp.specs.Level.{AreMoves, none}
use Rattle.reqomp.proofs.GroupMoves.{id_at, moves_next, moves_whole, group_there}
use Rattle.reqomp.proofs.ordered.moves_of_groups.Goals as goal

pub loop-i-init : goal.loop-i-init
loop-i-init c = λ marked order redone are. subst (AreMoves c.args.flat.now marked []) (sym c.new-moves.ensures) none

pub unwrap-id-requires : goal.unwrap-id-requires
unwrap-id-requires c =
    let n = c.len-i-end.ensures in
    id_at c.args.ids.now c.loop-i.i c.get.result (omega arith) c.get.ensures

pub bounds-groups-id : goal.bounds-groups-id
bounds-groups-id c =
    group_there c.args.graph.now c.args.groups.now c.requires.vertices c.args.ids.now c.requires.order c.loop-i.i c.unwrap-id.result.now (sym c.get.ensures ∙ ap option_copied c.unwrap-id.ensures)

pub push_group-requires : goal.push_group-requires
push_group-requires c =
    let id = c.unwrap-id.result.now in
    let l = group_there c.args.graph.now c.args.groups.now c.requires.vertices c.args.ids.now c.requires.order c.loop-i.i id (sym c.get.ensures ∙ ap option_copied c.unwrap-id.ensures) in
    let at : slice_get c.args.groups.now id.number ≡ Some c.index-groups-id.result = slice_get-get_or c.args.groups.now id.number c.index-groups-id.result l ∙ ap (λ (x : Group). Some x) (sym c.index-groups-id.is) in
    c.requires.there id.number c.index-groups-id.result at

pub loop-i-preserved : goal.loop-i-preserved
loop-i-preserved c = λ marked order redone are.
    let id = c.unwrap-id.result.now in
    let e : slice_get c.args.ids.now c.loop-i.i ≡ Some id = sym c.get.ensures ∙ ap option_copied c.unwrap-id.ensures in
    let l = group_there c.args.graph.now c.args.groups.now c.requires.vertices c.args.ids.now c.requires.order c.loop-i.i id e in
    let at : slice_get c.args.groups.now id.number ≡ Some c.index-groups-id.result = slice_get-get_or c.args.groups.now id.number c.index-groups-id.result l ∙ ap (λ (x : Group). Some x) (sym c.index-groups-id.is) in
    subst (AreMoves c.args.flat.now marked _) (sym c.in_ok-push_group.ensures)
    (moves_next c.args.graph.now c.args.groups.now c.requires.vertices c.args.ids.now order are c.args.flat.now marked redone c.loop-i.i id c.index-groups-id.result c.loop-i.moves e at (c.loop-i.invariant marked order redone are))

pub returns : goal.returns
returns c = λ marked order redone are.
    let n = c.len-i-end.ensures in
    moves_whole c.args.graph.now c.args.groups.now c.requires.vertices c.args.ids.now order are c.args.flat.now marked c.loop-i.i c.loop-i.moves (omega arith) (c.loop-i.invariant marked order redone are)
