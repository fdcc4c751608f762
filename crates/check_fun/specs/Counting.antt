-- How the code of statements is held against a check, with the counts of statements and instances.
use Rattle.std.specs.Prelude.{◌≡◌, ℕ, ◌||◌, if◌then◌else◌, List, [], ◌∷◌, Ok, Err, Result, IfSome, ◌-ℤ◌}
use Rattle.silq_tree.specs.declared.node.NameId.{NameId}
use Rattle.silq_tree.specs.declared.node.Spot.{Spot}
use Rattle.silq_tree.specs.Syntax.{Expression, Block, block, Otherwise}
use Rattle.static_num.specs.Static.{is_static}
use Rattle.silq_types.specs.Rules.{Fault, name_taken}
use Rattle.silq_mean.specs.Written.{needed_at}
use Rattle.silq_types.specs.Types.{at}
use Rattle.check_scope.specs.Walk.{Counts, Checker, with_counts}
use Rattle.check_scope.specs.Context.{Scope, Check, ◌>>=◌, ◌>>◌, of_result, rules, variables, is_variable, needed}
use Rattle.check_fun.specs.Statement.{chosen, plain_block, branch, both, condition, under, with_static, rounds, is_static_param, otherwise, otherwise_end, stmts}
use Rattle.silq_types.specs.Programs.{distance}
use Rattle.check_scope.specs.Library.{Shelf, before_at}
use Rattle.check_scope.specs.State.{State, context_of}
use Rattle.check_scope.specs.Faults.{fault_as}
use Rattle.check_scope.specs.declared.fault.CheckFault.{CheckFault}
use Rattle.check_fun.specs.Program.{instances}

-- the check of the instances that a body calls
abbrev pub checker_at : Shelf → State → Checker
checker_at l s = instances l.words (before_at l s.this)

-- what a statement leaves as it is
pub record Stays (old now : State) : Type 0 where
  pub this : now.this ≡ old.this
  pub results : now.results ≡ old.results
  pub depth : now.depth ≡ old.depth
  pub statics : now.statics ≡ old.statics
  pub held : now.held ≡ old.held

-- from the old state and counts the check gives this answer, and leaves the new ones
pub record Runs {A : Type 0} (check : Checker) (m : Check A) (old : State) (c : Counts) (a : A) (now : State) (d : Counts) : Type 0 where
  pub runs : with_counts check old.depth (m (context_of old)) c old.height ≡ Ok ((a, context_of now), d, now.height)
  pub stays : Stays old now

-- from the old state and counts it meets this fault first, or there is no memory
pub record Fails {A : Type 0} (check : Checker) (m : Check A) (old : State) (c : Counts) (f : CheckFault) : Type 0 where
  pub runs : IfSome (fault_as f) (λ first. with_counts check old.depth (m (context_of old)) c old.height ≡ Err first)

-- a choice and a loop as steps, behind the count of the statement
abbrev pub choice_step : Scope → Expression → Block → Otherwise → Check (Unit {0})
choice_step sc e (block ss end) other =
    if is_static sc.statics e then
    (of_result (needed_at sc.statics e (at e)) >>= (λ z. chosen z (plain_block (stmts ss sc) end) (plain_block (otherwise other sc) (otherwise_end other))))
    else (condition sc e >>= (λ ps. both (branch (stmts ss (under sc ps)) end) (branch (otherwise other (under sc ps)) (otherwise_end other))))

abbrev pub loop_step : Scope → NameId → Expression → Expression → Block → Spot → Check (Unit {0})
loop_step sc x low high (block ss end) s = do
  a ← needed sc low
  b ← needed sc high
  vars ← variables
  rules s ((is_variable vars x || is_static_param sc x, name_taken) ∷ [])
  rounds (λ v. plain_block (stmts ss (with_static sc x v)) end) a (distance (b -ℤ a))
