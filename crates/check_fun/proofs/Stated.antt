-- A statement is its count and then its step.
use Rattle.std.proofs.Common.{◌≡◌, refl, sym, subst}
use Rattle.silq_tree.specs.Syntax.{Statement, Block, block, assign, spread, update, forget, forget_value, phase, choice, loop, return_nothing, return_value, call}
use Rattle.check_scope.specs.Walk.{Counts, Checker}
use Rattle.check_scope.specs.Context.{Scope, Check, ◌>>◌, count_statement}
use Rattle.check_fun.specs.Counting.{Runs, Fails}
use Rattle.check_scope.specs.State.{State}
use Rattle.check_fun.specs.Statement.{stmt}
use Rattle.check_fun.specs.Stepping.{stmt_step}
use Rattle.check_scope.specs.declared.fault.CheckFault.{CheckFault}
use Rattle.check_fun.proofs.Counted.{runs_then, fails_then, fails_after}

stmt_counted : (st : Statement) (sc : Scope) → stmt st sc ≡ (count_statement >> stmt_step st sc)
stmt_counted (assign p e s) sc = refl
stmt_counted (spread xs e s) sc = refl
stmt_counted (update p op e s) sc = refl
stmt_counted (forget x s) sc = refl
stmt_counted (forget_value x e s) sc = refl
stmt_counted (phase e s) sc = refl
stmt_counted (return_nothing s) sc = refl
stmt_counted (return_value e s) sc = refl
stmt_counted (call e s) sc = refl
stmt_counted (choice e (block ss end) other s) sc = refl
stmt_counted (loop x low high (block ss end) s) sc = refl

module _ (check : Checker) (st : Statement) (sc : Scope) (old : State) (c d : Counts) where
  pub fails_stmt_count : (f : CheckFault) → Fails check count_statement old c f → Fails check (stmt st sc) old c f
  fails_stmt_count f q = subst (λ m. Fails check m old c f) (sym (stmt_counted st sc)) (fails_then check count_statement (stmt_step st sc) old c f q)

  pub fails_stmt : (f : CheckFault) → Runs check count_statement old c tt old d → Fails check (stmt_step st sc) old d f → Fails check (stmt st sc) old c f
  fails_stmt f q r = subst (λ m. Fails check m old c f) (sym (stmt_counted st sc)) (fails_after check count_statement (stmt_step st sc) old old c d tt f q r)

  pub runs_stmt : (now : State) (e : Counts) → Runs check count_statement old c tt old d → Runs check (stmt_step st sc) old d tt now e → Runs check (stmt st sc) old c tt now e
  runs_stmt now e q r = subst (λ m. Runs check m old c tt now e) (sym (stmt_counted st sc)) (runs_then check count_statement (stmt_step st sc) old old now c d e tt tt q r)

-- the step of the statement that a node stands for
pub stepped : (check : Checker) (st grown : Statement) (sc : Scope) (old now : State) (c d : Counts) → st ≡ grown → Runs check (stmt_step grown sc) old c tt now d → Runs check (stmt_step st sc) old c tt now d
stepped check st grown sc old now c d e r = rw e r

pub failing : (check : Checker) (st grown : Statement) (sc : Scope) (old : State) (c : Counts) (f : CheckFault) → st ≡ grown → Fails check (stmt_step grown sc) old c f → Fails check (stmt_step st sc) old c f
failing check st grown sc old c f e r = rw e r
