use Rattle.std.proofs.Common.{refl, arith}
use Rattle.std.proofs.lemmas.Option.{slice_get_within}
use Rattle.reqomp.proofs.LevelRows.{group_at, rows_more, rows_end}
use Rattle.reqomp.proofs.arena_of_level.id_table.Goals as goal

pub index_mut-requires : goal.index_mut-requires
index_mut-requires c =
    let group = c.index-groups-i.result in
    let at = group_at c.args.groups.now c.loop-i.i group (omega arith) c.index-groups-i.is in
    let within = slice_get_within c.args.circuit.now.vertices group.at.number group.vertex (c.requires.groups.at c.loop-i.i group at) in
    let many = c.loop-i.invariant.as_many in
    omega (arith, c.loop-i.ids.ok)

pub loop-i-preserved : goal.loop-i-preserved
loop-i-preserved c =
    let group = c.index-groups-i.result in
    let at = group_at c.args.groups.now c.loop-i.i group (omega arith) c.index-groups-i.is in
    let ids = c.loop-i.ids.items in
    rows_more c.args.circuit.now c.args.groups.now c.len.ensures.sound c.requires.groups c.loop-i.i group ids (record { number = c.loop-i.i })
    refl at c.loop-i.invariant

pub returns : goal.returns
returns c = λ graph same.
    let ids = c.loop-i.ids.items in
    rows_end c.args.circuit.now c.args.groups.now c.len.ensures.sound c.requires.groups c.loop-i.i ids (omega arith) c.loop-i.invariant graph same
