-- All statements settle, where assignments to names and spreads do.
use Rattle.std.specs.Prelude.{List}
use Rattle.silq_tree.specs.declared.node.NameId.{NameId}
use Rattle.silq_tree.specs.declared.node.Spot.{Spot}
use Rattle.silq_tree.specs.Syntax.{Expression, Statement, Statements, Otherwise, block, whole, part, part_of_part, assign, spread, update, forget, forget_value, phase, choice, loop, return_nothing, return_value, call, else_block, else_choice, done, next}
use Rattle.check_scope.specs.Context.{Scope}
use Rattle.check_fun.specs.Statement.{stmt, stmts, otherwise}
use Rattle.flat_typed.specs.Settled.{Settling, StatementsSettle}
use Rattle.flat_typed.proofs.SettledLaws.{no_more_settle, next_settles, loop_settles}
use Rattle.flat_typed.proofs.KeptWalks.{update_settles, forget_settles, forget_value_settles, phase_settles, call_settles, return_nothing_settles, return_value_settles, part_settles, part_of_part_settles}
use Rattle.flat_typed.proofs.ChoicesSettle.{choice_settles}

module _ (name_settles : (x : NameId) (e : Expression) (s : Spot) (sc : Scope) → Settling sc (stmt (assign (whole x) e s) sc)) (spread_settles : (xs : List NameId) (e : Expression) (s : Spot) (sc : Scope) → Settling sc (stmt (spread xs e s) sc)) where
  mutual
    pub each_settles : (st : Statement) (sc : Scope) → Settling sc (stmt st sc)
    each_settles (assign (whole x) e s) sc = name_settles x e s sc
    each_settles (assign (part x i) e s) sc = part_settles x i e s sc
    each_settles (assign (part_of_part x i j) e s) sc = part_of_part_settles x i j e s sc
    each_settles (spread xs e s) sc = spread_settles xs e s sc
    each_settles (update p op e s) sc = update_settles p op e s sc
    each_settles (forget x s) sc = forget_settles x s sc
    each_settles (forget_value x e s) sc = forget_value_settles x e s sc
    each_settles (phase e s) sc = phase_settles e s sc
    each_settles (choice e (block ss end) other s) sc = choice_settles e ss end other s (λ k. all_settle ss k) (λ k. other_settles other k) sc
    each_settles (loop x low high (block ss end) s) sc = loop_settles x low high ss end s (λ k. all_settle ss k) sc
    each_settles (return_nothing s) sc = return_nothing_settles s sc
    each_settles (return_value e s) sc = return_value_settles e s sc
    each_settles (call e s) sc = call_settles e s sc

    pub other_settles : (other : Otherwise) (sc : Scope) → Settling sc (otherwise other sc)
    other_settles (else_block (block ss end)) sc = all_settle ss sc
    other_settles (else_choice st) sc = each_settles st sc

    pub all_settle : (ss : Statements) (sc : Scope) → Settling sc (stmts ss sc)
    all_settle done sc = no_more_settle sc
    all_settle (next st rest) sc = next_settles st rest sc (each_settles st sc) (all_settle rest sc)

  -- from the two
  pub settle_from_names : StatementsSettle
  settle_from_names st sc = each_settles st sc
