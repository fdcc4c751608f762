use Rattle.std.proofs.Common.{rules, ◌≡◌}
use Rattle.check_scope.specs.Context.{needed}
use Rattle.check_scope.specs.State.{scope_in}
use Rattle.silq_tree.specs.Arena.{expr_at}
use Rattle.check_fun.proofs.BlockSteps.{silent_needed}
use Rattle.check_fun.proofs.BlockTold.{none_told, runs_told, fails_told}
use Rattle.check_fun.proofs.steps_of_block.needed_now.Goals as goal

pub told-requires : goal.told-requires
told-requires c = λ key e. none_told _ _ _ _ key (silent_needed (scope_in c.args.library.now c.args.cx.now) (expr_at c.args.library.now.nodes c.args.e)) c.needed.ensures.stops e

pub returns-clause-runs : goal.returns-clause-runs
returns-clause-runs c = λ check n. runs_told check _ _ _ _ n (silent_needed (scope_in c.args.library.now c.args.cx.now) (expr_at c.args.library.now.nodes c.args.e)) c.needed.ensures.reads _ c.told.ensures.ok

pub returns-clause-fails : goal.returns-clause-fails
returns-clause-fails c = λ check n. fails_told check _ _ _ _ n (silent_needed (scope_in c.args.library.now c.args.cx.now) (expr_at c.args.library.now.nodes c.args.e)) c.needed.ensures.stops _ c.told.ensures.err
