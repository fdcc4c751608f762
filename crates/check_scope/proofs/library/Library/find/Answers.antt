use Rattle.std.proofs.Common.{None, Some, arith}
use Rattle.check_scope.specs.Library.{Shelf}
use Rattle.check_scope.proofs.FoundFunctions.{found_by_index, number_below, number_within}
use Rattle.check_scope.proofs.library.Library.find.Goals as goal

pub overflow_cast-result : goal.overflow_cast-result
overflow_cast-result c =
    let l = number_below _ c.args.before c.args.name c.in-Some.n c.in-Some.ensures in
    omega arith

pub returns-in-None-clause-found : goal.returns-in-None-clause-found
returns-in-None-clause-found c =
    let shelf : Shelf = record { nodes = c.self.inside.program.tree; words = c.self.inside.words.items; funs = c.self.inside.program.funs } in
    rw (← c.self.view_is) (found_by_index shelf c.self.inside.names c.args.before c.args.name None c.self.invariant.named c.in-None.ensures)

pub returns-in-Some-clause-found : goal.returns-in-Some-clause-found
returns-in-Some-clause-found c =
    let shelf : Shelf = record { nodes = c.self.inside.program.tree; words = c.self.inside.words.items; funs = c.self.inside.program.funs } in
    rw (← c.self.view_is) (found_by_index shelf c.self.inside.names c.args.before c.args.name (Some c.in-Some.n) c.self.invariant.named c.in-Some.ensures)

pub returns-in-Some-clause-below : goal.returns-in-Some-clause-below
returns-in-Some-clause-below c =
    rw (← c.self.view_is) (number_within _ _ c.self.inside.names c.args.before c.args.name c.in-Some.n c.self.invariant.named c.in-Some.ensures)
