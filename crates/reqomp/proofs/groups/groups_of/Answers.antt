use Rattle.std.proofs.Common.{arith, refl}
use Rattle.reqomp.specs.Simple.{marked_at}
use Rattle.reqomp.specs.Grouping.{vertices_of}
use Rattle.reqomp.proofs.Widths.{level_width}
use Rattle.reqomp.proofs.Grouping.{groups_none}
use Rattle.reqomp.proofs.groups.groups_of.Goals as goal

pub loop-i-init : goal.loop-i-init
loop-i-init c = record {
  search = c.requires.search;
  newest = omega arith;
  groups = groups_none c.args.flat.now (marked_at c.args.flat.now c.args.marks.now.level) c.args.circuit.now (record { items = c.new.result; moves = 0 }) c.new.ensures.items refl;
  few = omega arith;
}

pub returns-then-groups-gt600000-clause-groups : goal.returns-then-groups-gt600000-clause-groups
returns-then-groups-gt600000-clause-groups c =
    let a = c.in_ok-add_group.ensures.groups in
    (level_width c.args.flat.now c.args.marks.now.level).by_length (vertices_of c.add_group.new.groups.items.items) c.add_group.new.groups.moves a.some a.moves (omega arith)
