-- Statements in turn, loops and choices from settled contexts: what they do to states, and where they lead.
use Rattle.std.proofs.Common.{◌≡◌, ◌⊎◌, inl, inr, ℕ, ◌+◌, ◌≤◌, ◌<◌, Bool, true, false, cond, not, ◌&&◌, ◌||◌, List, [], ◌∷◌, ◌++◌, length, refl, sym, ap, ap₂, ◌∙◌, subst, arith}
use Rattle.std.specs.Prelude.{Option, Some, None, is_some, ℤ, ◌-ℤ◌}
use Rattle.silq_tree.specs.declared.node.NameId.{NameId}
use Rattle.silq_tree.specs.declared.node.Spot.{Spot}
use Rattle.silq_tree.specs.Syntax.{Expression, Statement, Statements, Otherwise, block, choice, loop, else_block, else_choice, done, next}
use Rattle.static_num.specs.Static.{is_static, is_true}
use Rattle.silq_types.specs.declared.values.Part.{Part}
use Rattle.silq_types.specs.declared.values.Var.{Var}
use Rattle.silq_types.specs.declared.types.Ty.{Ty}
use Rattle.silq_types.specs.Rules.{name_taken}
use Rattle.silq_types.specs.Types.{at}
use Rattle.silq_types.specs.Programs.{distance}
use Rattle.silq_types.specs.declared.need.Need.TheVariants as needs
use Rattle.check_scope.specs.Context.{Scope, Context, Check, ◌>>=◌, ◌>>◌, count_statement, of_result, needed, variables, rules, is_variable, find_var, variable}
use Rattle.check_expr.specs.Owners.{owns, owners, Gives, Ensures, Sole}
use Rattle.check_expr.proofs.Owners.{gives-more, o_bind, o_then, o_result, o_rules, o_variables}
use Rattle.check_fun.specs.Statement as walks
use Rattle.silq_mean.specs.declared.receiver.Receiver.{Receiver}
use Rattle.silq_mean.specs.declared.receiver.Receiver.TheVariants as receivers
use Rattle.silq_mean.specs.Effect.{Effect}
use Rattle.silq_mean.specs.Written.{needed_at}
use Rattle.silq_mean.specs.Meaning as meanings
use Rattle.flat_form.specs.Names.{AllOf}
use Rattle.flat_typed.specs.Scopes.{as_meaning, NoStatics}
use Rattle.flat_typed.specs.Lemmas.{Callable, StmtFine}
use Rattle.flat_typed.specs.Settled.{Settled, Settles, Settling, FineStatement, FineStatements, FineOtherwise}
use Rattle.flat_typed.proofs.Ordered.{clash, or_left}
use Rattle.flat_typed.proofs.Scopes.{static_is, needed_is}
use Rattle.flat_typed.proofs.Turns.{Does, line_fine, nothing_fine}
use Rattle.flat_typed.proofs.Blocks.{block_fine}
use Rattle.flat_typed.proofs.Rounds.{static_fine, free_with, free_without}
use Rattle.flat_typed.proofs.Settling.{Moves, moves_of, settles_of, Carries, settling_carries, carries_settling, then_carries, then_does, pass_carries, rounds_carry, rounds_do, block_settles}

-- ---- statements in turn

pub counted_settles : {A : Type 0} (sc : Scope) (m : Check A) → Settling sc m → Settling sc (count_statement >> m)
unfolding ◌>>◌
counted_settles sc m h c s = h c s

pub no_more_settle : (sc : Scope) → Settling sc (walks.stmts done sc)
no_more_settle sc = carries_settling sc (walks.stmts done sc) (pass_carries (Settled sc) (λ c h. h.sole) sc)

pub next_settles : (st : Statement) (rest : Statements) (sc : Scope) → Settling sc (walks.stmt st sc) → Settling sc (walks.stmts rest sc) → Settling sc (walks.stmts (next st rest) sc)
next_settles st rest sc h k =
    carries_settling sc (walks.stmts (next st rest) sc)
    (then_carries (Settled sc) (λ c h. h.sole) sc (walks.stmt st sc) (walks.stmts rest sc) (settling_carries sc (walks.stmt st sc) h) (settling_carries sc (walks.stmts rest sc) k))

pub no_more_fine : FineStatements done
no_more_fine sc taker c settled = nothing_fine sc c

pub next_fine : (st : Statement) (rest : Statements) → FineStatement st → FineStatements rest → ((sc : Scope) → Settling sc (walks.stmt st sc)) → ((sc : Scope) → Settling sc (walks.stmts rest sc)) → FineStatements (next st rest)
next_fine st rest h k t u sc taker c settled =
    then_does (Settled sc) (λ c h. h.sole) sc c (walks.stmt st sc) (walks.stmts rest sc) (meanings.stmt st (as_meaning taker sc)) (meanings.stmts rest (as_meaning taker sc)) settled
    (h sc taker c settled) (λ d i. k sc taker d i) (settling_carries sc (walks.stmt st sc) (t sc)) (settling_carries sc (walks.stmts rest sc) (u sc))

-- ---- loops

-- settled, and no variable has the name of the loop
abbrev pub SettledBut : Scope → NameId → Context → Type 0
SettledBut sc x c = Settled sc c × (find_var c.vars (variable x) ≡ None)

settled_with : (sc : Scope) (x : NameId) (z : ℤ) (c : Context) → SettledBut sc x c → Settled (walks.with_static sc x z) c
settled_with sc x z c h = record { free = free_with sc x z c.vars (h.0.free, h.1); whole = h.0.whole; placed = h.0.placed; sole = h.0.sole }

settled_without : (sc : Scope) (x : NameId) (z : ℤ) (c : Context) → Settled (walks.with_static sc x z) c → SettledBut sc x c
settled_without sc x z c h = let f = free_without sc x z c.vars h.free in (record { free = f.0; whole = h.whole; placed = h.placed; sole = h.sole }, f.1)

module _ (x : NameId) (low high : Expression) (ss : Statements) (end s : Spot) (settles : (sc : Scope) → Settling sc (walks.stmts ss sc)) (sc : Scope) (c : Context) (settled : Settled sc c) where
  abbrev one_round : ℤ → Check (Unit {0})
  one_round v = walks.plain_block (walks.stmts ss (walks.with_static sc x v)) end

  round_carries : (z : ℤ) → Carries (SettledBut sc x) sc (one_round z)
  round_carries z d i =
      gives-more (Callable sc) 0 (λ r. Settles (walks.with_static sc x z) d r.1) (λ r. SettledBut sc x r.1 × Moves d r.1) (one_round z d)
      (block_settles (walks.with_static sc x z) (walks.stmts ss (walks.with_static sc x z)) end (settles (walks.with_static sc x z)) d (settled_with sc x z d i))
      (λ r g. (settled_without sc x z r.1 g.settled, moves_of (walks.with_static sc x z) d r.1 g))

  abbrev its_walk : Check (Unit {0})
  its_walk =
      needed sc low >>= (λ a. needed sc high >>= (λ b. variables >>= (λ vars.
      rules s ((is_variable vars x || walks.is_static_param sc x, name_taken) ∷ []) >> walks.rounds one_round a (distance (b -ℤ a)))))

  -- what holds behind the rounds holds behind the loop
  loop_runs : (Q : Context → Type 0)
      → ((a b : ℤ) → meanings.static_value sc.statics low ≡ a → meanings.static_value sc.statics high ≡ b → find_var c.vars (variable x) ≡ None → Gives (Callable sc) (λ r. Q r.1) (walks.rounds one_round a (distance (b -ℤ a)) c))
      → Ensures (Callable sc) (λ d. d ≡ c) its_walk (λ u. Q)
  loop_runs Q run =
      o_bind (Callable sc) 0 (needed_is (Callable sc) 0 sc low) (λ a. o_bind (Callable sc) 0 (needed_is (Callable sc) 0 sc high) (λ b. o_bind (Callable sc) 0 (o_variables (Callable sc) 0) (λ vars.
      o_then (Callable sc) 0 (o_rules (Callable sc) 0 s _) (λ u.
      record {
        runs = λ d h.
            subst (λ y. Gives (Callable sc) (λ r. Q r.1) (walks.rounds one_round a (distance (b -ℤ a)) y)) (sym h.1.1.1.1)
            (run a b (ap meanings.or_zero h.1.1.1.0) (ap meanings.or_zero h.1.1.0) (absent d h.1.1.1.1 (or_left (is_variable vars x) (walks.is_static_param sc x) h.0.0) h.1.0));
      }))))
    where
      none_there : (o : Option Var) → is_some o ≡ false → o ≡ None
      none_there None e = refl
      none_there (Some v) e = clash e

      absent : {vars : List Var} (d : Context) → d ≡ c → is_variable vars x ≡ false → vars ≡ d.vars → find_var c.vars (variable x) ≡ None
      absent d e n v = none_there (find_var c.vars (variable x)) (ap (λ l. is_variable l x) (sym (v ∙ ap (λ (y : Context). y.vars) e)) ∙ n)

  loop_leads : Gives (Callable sc) (λ r. Settles sc c r.1) (its_walk c)
  loop_leads =
      (loop_runs (λ d. Settles sc c d)
      (λ a b p q n.
      gives-more (Callable sc) 0 (λ r. SettledBut sc x r.1 × Moves c r.1) (λ r. Settles sc c r.1) (walks.rounds one_round a (distance (b -ℤ a)) c)
      (rounds_carry (SettledBut sc x) (λ d h. h.0.sole) sc one_round (λ z. meanings.in_block (meanings.stmts ss (as_meaning (λ t. receivers.Variable) (walks.with_static sc x z)))) round_carries a (distance (b -ℤ a)) c (settled, n)) (λ r k. settles_of sc c r.1 k.0.0 k.1))).runs c refl

  module _ (fine : FineStatements ss) (taker : Ty → Receiver) where
    abbrev its_effect : ℤ → Effect
    its_effect v = meanings.inner (block ss end) (meanings.with_static (as_meaning taker sc) x v)

    round_does : (z : ℤ) (d : Context) → SettledBut sc x d → StmtFine sc d (one_round z) (its_effect z)
    round_does z d i =
        static_fine sc x z d (one_round z) (its_effect z)
        (block_fine (walks.with_static sc x z) d (walks.stmts ss (walks.with_static sc x z)) (meanings.stmts ss (meanings.with_static (as_meaning taker sc) x z)) end (fine (walks.with_static sc x z) taker d (settled_with sc x z d i)))

    abbrev all_rounds : ℤ → ℤ → Effect
    all_rounds a b = meanings.rounds its_effect a (distance (b -ℤ a))

    loop_does : StmtFine sc c (walks.stmt (loop x low high (block ss end) s) sc) (meanings.stmt (loop x low high (block ss end) s) (as_meaning taker sc))
    loop_does =
        line_fine sc c its_walk (all_rounds (meanings.static_value sc.statics low) (meanings.static_value sc.statics high)) s.line
        ((loop_runs (λ d. Does sc c (all_rounds (meanings.static_value sc.statics low) (meanings.static_value sc.statics high)) d) (λ a b p q n.
        subst (λ y. Gives (Callable sc) (λ r. Does sc c (all_rounds y (meanings.static_value sc.statics high)) r.1) (walks.rounds one_round a (distance (b -ℤ a)) c)) (sym p)
        (subst (λ y. Gives (Callable sc) (λ r. Does sc c (all_rounds a y) r.1) (walks.rounds one_round a (distance (b -ℤ a)) c)) (sym q)
        (rounds_do (SettledBut sc x) (λ d h. h.0.sole) sc one_round its_effect round_carries round_does a (distance (b -ℤ a)) c (settled, n))))).runs c refl)

pub loop_settles : (x : NameId) (low high : Expression) (ss : Statements) (end s : Spot) → ((sc : Scope) → Settling sc (walks.stmts ss sc)) → (sc : Scope) → Settling sc (walks.stmt (loop x low high (block ss end) s) sc)
loop_settles x low high ss end s settles sc = counted_settles sc _ (λ c h. loop_leads x low high ss end s settles sc c h)

pub loop_fine : (x : NameId) (low high : Expression) (ss : Statements) (end s : Spot) → FineStatements ss → ((sc : Scope) → Settling sc (walks.stmts ss sc)) → FineStatement (loop x low high (block ss end) s)
loop_fine x low high ss end s fine settles sc taker c settled = loop_does x low high ss end s settles sc c settled fine taker
