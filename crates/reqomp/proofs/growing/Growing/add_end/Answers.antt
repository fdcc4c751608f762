use Rattle.std.proofs.Common.{◌≡◌, get_or, Some, None, length, sym, ◌∙◌, arith}
use Rattle.std.proofs.lemmas.Option.{none-some}
use Rattle.std.proofs.lemmas.Result.{on_ok_weaker}
use Rattle.graph_core.specs.declared.vertex.Vertex.{Vertex}
use Rattle.graph_core.specs.Arena.{IsVertexOf}
use Rattle.graph_core.proofs.Places.{at_unique}
use Rattle.reqomp.specs.Simple.{marked_at}
use Rattle.reqomp.specs.Growing.{TakenAgain}
use Rattle.reqomp.proofs.Growth.{grown_same, row_there}
use Rattle.reqomp.proofs.NearEnds.{again_within, again_taken, again_there, taken_row}
use Rattle.reqomp.proofs.growing.Growing.add_end.Goals as goal

pub chosen-requires : goal.chosen-requires
chosen-requires c = let many = c.requires.table.as_many in let l = c.requires.end in omega arith

pub add_taken-requires-clause-from : goal.add_taken-requires-clause-from
add_taken-requires-clause-from c =
    let g = c.args.self.now.graph in
    let row = row_there c.args.circuit.now g c.args.ids.now c.requires.table c.args.x c.in-Some.y (sym c.in-Some.ensures) in
    (again_within c.args.entering c.in-Some.y c.args.own (length g.vertices) row c.requires.own c.arrow_again-arrow.result c.arrow_again-arrow.ensures).0

pub add_taken-requires-clause-to : goal.add_taken-requires-clause-to
add_taken-requires-clause-to c =
    let g = c.args.self.now.graph in
    let row = row_there c.args.circuit.now g c.args.ids.now c.requires.table c.args.x c.in-Some.y (sym c.in-Some.ensures) in
    (again_within c.args.entering c.in-Some.y c.args.own (length g.vertices) row c.requires.own c.arrow_again-arrow.result c.arrow_again-arrow.ensures).1

pub add_taken-requires-clause-taken : goal.add_taken-requires-clause-taken
add_taken-requires-clause-taken c =
    let f = c.args.flat.now in
    let g = c.args.self.now.graph in
    again_taken f (marked_at f c.args.self.now.level) c.args.entering g c.in-Some.y c.args.own
    (taken_row f (marked_at f c.args.self.now.level) c.args.entering c.args.circuit.now g c.args.ids.now c.requires.table c.args.x c.in-Some.y c.args.own (sym c.in-Some.ensures) c.requires.taken)
    c.arrow_again-arrow.result c.arrow_again-arrow.ensures

pub returns-in-Some-clause-there : goal.returns-in-Some-clause-there
returns-in-Some-clause-there c =
    on_ok_weaker c.add_taken.result
    (again_there c.args.ids.now c.args.x c.in-Some.y c.args.own c.args.entering c.add_taken.new.self.graph (sym c.in-Some.ensures) c.arrow_again-arrow.result c.arrow_again-arrow.ensures)
    c.add_taken.ensures.there

pub returns-in-None-clause-there : goal.returns-in-None-clause-there
returns-in-None-clause-there c = λ y e. absurd (none-some y (c.in-None.ensures ∙ e))
