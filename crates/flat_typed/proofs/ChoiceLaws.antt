-- A choice as a statement, by a static value or at run time.
use Rattle.std.proofs.Common.{◌≡◌, Bool, true, false, cond, List, [], ◌∷◌, refl, sym, ap, subst}
use Rattle.silq_tree.specs.declared.node.Spot.{Spot}
use Rattle.silq_tree.specs.Syntax.{Expression, Statement, Statements, Otherwise, block, choice, else_block, else_choice}
use Rattle.static_num.specs.Static.{is_static, is_true}
use Rattle.silq_types.specs.declared.types.Ty.{Ty}
use Rattle.silq_types.specs.declared.values.Part.{Part}
use Rattle.silq_types.specs.Types.{at}
use Rattle.silq_types.specs.declared.need.Need.TheVariants as needs
use Rattle.check_scope.specs.Context.{Scope, Context, Check, ◌>>=◌, of_result}
use Rattle.check_expr.specs.Owners.{Gives, Ensures}
use Rattle.check_expr.proofs.Owners.{o_bind, o_result}
use Rattle.check_fun.specs.Statement as walks
use Rattle.silq_mean.specs.declared.receiver.Receiver.{Receiver}
use Rattle.silq_mean.specs.Effect.{Effect, ◌>>◌ as ◌▸◌}
use Rattle.silq_mean.specs.Effect as effects
use Rattle.silq_mean.specs.Written.{needed_at}
use Rattle.silq_mean.specs.Meaning as meanings
use Rattle.flat_typed.specs.Scopes.{as_meaning}
use Rattle.flat_typed.specs.Lemmas.{Callable, StmtFine, ExpressionIsFine}
use Rattle.flat_typed.specs.Settled.{Settled, Settling, FineStatement, FineStatements, FineOtherwise}
use Rattle.flat_typed.proofs.Scopes.{static_is}
use Rattle.flat_typed.proofs.Turns.{Does, line_fine}
use Rattle.flat_typed.proofs.Blocks.{block_fine}
use Rattle.flat_typed.proofs.Choices.{run_time_fine}

-- ---- by a static value

module _ (sc : Scope) (taker : Ty → Receiver) (e : Expression) (c : Context) (first second : Check (Unit {0})) (ea eb : Effect) (h : StmtFine sc c first ea) (k : StmtFine sc c second eb) where
  abbrev either_effect : Bool → Effect
  either_effect t = cond t ea eb

  either_fine : (t : Bool) → StmtFine sc c (cond t first second) (either_effect t)
  either_fine true = h
  either_fine false = k

  static_runs : Ensures (Callable sc) (λ d. d ≡ c) (of_result (needed_at sc.statics e (at e)) >>= (λ z. walks.chosen z first second)) (λ u. Does sc c (either_effect (is_true (meanings.static_value sc.statics e))))
  static_runs =
      o_bind (Callable sc) 0 (o_result (Callable sc) 0 (needed_at sc.statics e (at e))) (λ z.
      record {
        runs = λ d q.
            subst (λ y. Gives (Callable sc) (λ r. Does sc c (either_effect (is_true (meanings.static_value sc.statics e))) r.1) (cond (is_true z) first second y)) (sym q.1)
            (subst (λ y. Gives (Callable sc) (λ r. Does sc c (either_effect (is_true y)) r.1) (cond (is_true z) first second c)) (sym (static_is sc.statics e (at e) z q.0)) (either_fine (is_true z)));
      })

  pub static_fine : StmtFine sc c (of_result (needed_at sc.statics e (at e)) >>= (λ z. walks.chosen z first second)) (either_effect (is_true (meanings.static_value sc.statics e)))
  static_fine = static_runs.runs c refl

-- ---- the whole

module _ (e : Expression) (ss : Statements) (end s : Spot) (fine : ExpressionIsFine e) (first : FineStatements ss) (settles1 : (sc : Scope) → Settling sc (walks.stmts ss sc)) (sc : Scope) (taker : Ty → Receiver) (c : Context) (settled : Settled sc c) where
  -- what stands behind `else`, by its walk and its effect
  choice_so : (second : Scope → Check (Unit {0})) (eb : Effect) (other_end : Spot) → ((d : Context) → Settled sc d → StmtFine sc d (second sc) eb) → ((ps : List Part) (d : Context) → Settled (walks.under sc ps) d → StmtFine (walks.under sc ps) d (second (walks.under sc ps)) eb) → ((sc : Scope) → Settling sc (second sc))
      → (t : Bool) → StmtFine sc c
      (cond t (of_result (needed_at sc.statics e (at e)) >>= (λ z. walks.chosen z (walks.plain_block (walks.stmts ss sc) end) (walks.plain_block (second sc) other_end)))
      (walks.condition sc e >>= (λ ps. walks.both (walks.branch (walks.stmts ss (walks.under sc ps)) end) (walks.branch (second (walks.under sc ps)) other_end))))
      (cond t (cond (is_true (meanings.static_value sc.statics e)) (meanings.inner (block ss end) (as_meaning taker sc)) (meanings.in_block eb))
      (meanings.expr e (as_meaning taker sc) needs.Held ▸ effects.choice (meanings.inner (block ss end) (as_meaning taker sc)) (meanings.in_block eb)))
  choice_so second eb other_end k l settles2 true =
      static_fine sc taker e c (walks.plain_block (walks.stmts ss sc) end) (walks.plain_block (second sc) other_end) (meanings.inner (block ss end) (as_meaning taker sc)) (meanings.in_block eb)
      (block_fine sc c (walks.stmts ss sc) (meanings.stmts ss (as_meaning taker sc)) end (first sc taker c settled)) (block_fine sc c (second sc) eb other_end (k c settled))
  choice_so second eb other_end k l settles2 false =
      run_time_fine sc taker e fine c settled (λ ps. walks.stmts ss (walks.under sc ps)) (λ ps. second (walks.under sc ps)) (meanings.stmts ss (as_meaning taker sc)) eb end other_end
      (λ ps d h. first (walks.under sc ps) taker d h) (λ ps. settles1 (walks.under sc ps)) l (λ ps. settles2 (walks.under sc ps))

  pub choice_stands : (other : Otherwise) → FineOtherwise other → ((sc : Scope) → Settling sc (walks.otherwise other sc)) → StmtFine sc c (walks.stmt (choice e (block ss end) other s) sc) (meanings.stmt (choice e (block ss end) other s) (as_meaning taker sc))
  choice_stands (else_block (block rest other_end)) second settles2 =
      line_fine sc c _ _ s.line
      (choice_so (walks.stmts rest) (meanings.stmts rest (as_meaning taker sc)) other_end (λ d h. second sc taker d h) (λ ps d h. second (walks.under sc ps) taker d h) settles2 (is_static sc.statics e))
  choice_stands (else_choice st) second settles2 =
      line_fine sc c _ _ s.line
      (choice_so (walks.stmt st) (meanings.stmt st (as_meaning taker sc)) (walks.choice_end st) (λ d h. second sc taker d h) (λ ps d h. second (walks.under sc ps) taker d h) settles2 (is_static sc.statics e))

pub choice_is_fine : (e : Expression) (ss : Statements) (end : Spot) (other : Otherwise) (s : Spot) → ExpressionIsFine e → FineStatements ss → FineOtherwise other → ((sc : Scope) → Settling sc (walks.stmts ss sc)) → ((sc : Scope) → Settling sc (walks.otherwise other sc)) → FineStatement (choice e (block ss end) other s)
choice_is_fine e ss end other s fine first second settles1 settles2 sc taker c settled = choice_stands e ss end s fine first settles1 sc taker c settled other second settles2
