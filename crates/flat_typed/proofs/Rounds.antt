-- Loops, whose rounds are told, and choices by a static value.
use Rattle.std.proofs.Common.{◌≡◌, ℕ, zero, suc, Bool, true, false, cond, ◌||◌, List, [], ◌∷◌, ◌++◌, refl, sym, ap, ◌∙◌, subst}
use Rattle.std.specs.Prelude.{Option, Some, None, is_some, ◌==◌, ℤ, pos, ◌+ℤ◌, ◌-ℤ◌}
use Rattle.silq_tree.specs.declared.node.NameId.{NameId}
use Rattle.silq_tree.specs.declared.node.Spot.{Spot}
use Rattle.silq_tree.specs.Syntax.{Expression, Statement, Statements, Otherwise, block, choice, loop, else_block, else_choice, done, next}
use Rattle.static_num.specs.Static.{value_of_name, is_static, is_true}
use Rattle.silq_types.specs.declared.types.Ty.{Ty}
use Rattle.silq_types.specs.Rules.{name_taken}
use Rattle.silq_types.specs.Types.{at, same_name}
use Rattle.silq_types.specs.declared.need.Need.TheVariants as needs
use Rattle.silq_types.specs.declared.values.Var.{Var}
use Rattle.silq_types.specs.Programs.{distance}
use Rattle.check_scope.specs.Context.{Scope, Context, Check, ◌>>=◌, ◌>>◌, of_result, needed, variables, rules, is_variable, find_var, variable}
use Rattle.check_expr.specs.Owners.{Gives, Ensures}
use Rattle.check_expr.proofs.Owners.{gives-more, o_bind, o_then, o_result, o_rules, o_variables}
use Rattle.check_fun.specs.Statement as walks
use Rattle.silq_mean.specs.declared.receiver.Receiver.{Receiver}
use Rattle.silq_mean.specs.Effect.{Effect, ◌>>◌ as ◌▸◌}
use Rattle.silq_mean.specs.Effect as effects
use Rattle.silq_mean.specs.Written.{needed_at, value_of}
use Rattle.silq_mean.specs.Meaning as meanings
use Rattle.flat_form.specs.State.{Flattening}
use Rattle.flat_typed.specs.Places.{Places}
use Rattle.flat_typed.specs.Relation.{Outside}
use Rattle.flat_typed.specs.Done.{StmtBegins, StmtDone}
use Rattle.flat_typed.specs.Scopes.{as_meaning, NoStatics}
use Rattle.flat_typed.specs.Lemmas.{Callable, StmtFine, StatementIsFine, StatementsAreFine}
use Rattle.flat_typed.specs.Stay.{Goes, Keeps, StatementsKeep}
use Rattle.flat_typed.proofs.Scopes.{static_is, needed_is}
use Rattle.flat_typed.proofs.Turns.{Does, line_fine, then_fine, then_keeps, nothing_fine, pass_keeps}
use Rattle.flat_typed.proofs.Blocks.{block_fine, block_keeps, free_taken}
use Rattle.flat_typed.proofs.Ordered.{clash, same_is_equal, or_left}
use Rattle.flat_typed.proofs.Parts.{name_refl}

-- ---- statements in turn

pub no_statements : StatementsAreFine done
no_statements sc taker c free = nothing_fine sc c

pub statements_next : (st : Statement) (rest : Statements) → StatementIsFine st → StatementsAreFine rest → ((sc : Scope) → Keeps (NoStatics sc) sc (walks.stmt st sc)) → ((sc : Scope) → Keeps (NoStatics sc) sc (walks.stmts rest sc)) → StatementsAreFine (next st rest)
statements_next st rest h k t u sc taker c free =
    then_fine (NoStatics sc) sc c (walks.stmt st sc) (walks.stmts rest sc) (meanings.stmt st (as_meaning taker sc)) (meanings.stmts rest (as_meaning taker sc)) free (h sc taker c free) (λ d f. k sc taker d f) (t sc) (u sc)

pub statements_keep : StatementsKeep → (ss : Statements) (sc : Scope) → Keeps (NoStatics sc) sc (walks.stmts ss sc)
statements_keep h done sc = pass_keeps (NoStatics sc) sc
statements_keep h (next st rest) sc = then_keeps (NoStatics sc) sc (walks.stmt st sc) (walks.stmts rest sc) (h st sc) (statements_keep h rest sc)

-- ---- rounds

module _ (I : List Var → Type 0) (sc : Scope) (m : ℤ → Check (Unit {0})) (f : ℤ → Effect) where
  pub rounds_keep : ((z : ℤ) → Keeps I sc (m z)) → (z : ℤ) (n : ℕ) → Keeps I sc (walks.rounds m z n)
  rounds_keep t z zero = pass_keeps I sc
  rounds_keep t z (suc n) = then_keeps I sc (m z) (walks.rounds m (z +ℤ pos 1) n) (t z) (rounds_keep t (z +ℤ pos 1) n)

  pub rounds_fine : ((z : ℤ) (c : Context) → I c.vars → StmtFine sc c (m z) (f z)) → ((z : ℤ) → Keeps I sc (m z)) → (z : ℤ) (n : ℕ) (c : Context) → I c.vars → StmtFine sc c (walks.rounds m z n) (meanings.rounds f z n)
  rounds_fine h t z zero c i = nothing_fine sc c
  rounds_fine h t z (suc n) c i =
      then_fine I sc c (m z) (walks.rounds m (z +ℤ pos 1) n) (f z) (meanings.rounds f (z +ℤ pos 1) n) i (h z c i) (λ d j. rounds_fine h t (z +ℤ pos 1) n d j) (t z) (rounds_keep t (z +ℤ pos 1) n)

-- ---- one static value more

module _ (out : Outside) (sc : Scope) (x : NameId) (z : ℤ) (W : Places) (c : Context) (s : Flattening) where
  begins_with : (low : ℕ) → StmtBegins out sc low (λ p. 0) W c s → StmtBegins out (walks.with_static sc x z) low (λ p. 0) W c s
  begins_with low b = record { good = b.good; unmade = b.unmade; sole = b.sole; stands = b.stands; whole = b.whole; block = b.block; open_air = b.open_air; none = b.none }

  done_with : (e : Effect) (d : Context) → StmtDone out (walks.with_static sc x z) e W c s d → StmtDone out sc e W c s d
  done_with e d h = record {
    fine = h.fine;
    after = h.after;
    agree = h.agree;
    stands = h.stands;
    whole = h.whole;
    made = h.made;
    none = h.none;
    leaves = h.leaves;
    touches = h.touches;
    plain = h.plain;
    unmade = h.unmade;
  }

pub static_fine : (sc : Scope) (x : NameId) (z : ℤ) (c : Context) (m : Check (Unit {0})) (e : Effect) → StmtFine (walks.with_static sc x z) c m e → StmtFine sc c m e
static_fine sc x z c m e h =
    gives-more (Callable sc) 0
    (λ r. (out : Outside) (low : ℕ) (W : Places) (s : Flattening) → StmtBegins out (walks.with_static sc x z) low (λ p. 0) W c s → StmtDone out (walks.with_static sc x z) e W c s r.1)
    (λ r. (out : Outside) (low : ℕ) (W : Places) (s : Flattening) → StmtBegins out sc low (λ p. 0) W c s → StmtDone out sc e W c s r.1)
    (m c) h (λ r f out low W s b. done_with out sc x z W c s e r.1 (f out low W s (begins_with out sc x z W c s low b)))

-- a static value is the last of its name
last_value : (ss : List (NameId × ℤ)) (p : NameId × ℤ) (y : NameId) (o : Option ℤ) → value_of_name (ss ++ p ∷ []) y o ≡ cond (same_name p.0 y) (Some p.1) (value_of_name ss y o)
last_value [] p y o = refl
last_value (q ∷ qs) p y o = last_value qs p y (cond (q.0.number == y.number) (Some q.1) o)

-- no variable has the name of a static value or this one
abbrev pub FreeOf : Scope → NameId → List Var → Type 0
FreeOf sc x vs = NoStatics sc vs × (find_var vs (variable x) ≡ None)

pub free_with : (sc : Scope) (x : NameId) (z : ℤ) (vs : List Var) → FreeOf sc x vs → NoStatics (walks.with_static sc x z) vs
free_with sc x z vs h y e = go (same_name x y) refl (ap is_some (sym (last_value sc.statics (x, z) y None)) ∙ e)
  where
    go : (t : Bool) → same_name x y ≡ t → is_some (cond t (Some z) (value_of sc.statics y)) ≡ true → find_var vs (variable y) ≡ None
    go true q k = subst (λ u. find_var vs (variable u) ≡ None) (same_is_equal x y q) h.1
    go false q k = h.0 y k

pub free_without : (sc : Scope) (x : NameId) (z : ℤ) (vs : List Var) → NoStatics (walks.with_static sc x z) vs → FreeOf sc x vs
free_without sc x z vs h =
    (λ y e. h y (ap is_some (last_value sc.statics (x, z) y None) ∙ some (same_name x y) y e), h x (ap is_some (last_value sc.statics (x, z) x None) ∙ ap (λ t. is_some (cond t (Some z) (value_of sc.statics x))) (name_refl x)))
  where
    some : (t : Bool) (y : NameId) → is_some (value_of sc.statics y) ≡ true → is_some (cond t (Some z) (value_of sc.statics y)) ≡ true
    some true y e = refl
    some false y e = e

-- ---- loops

module _ (x : NameId) (low high : Expression) (ss : Statements) (end s : Spot) (fine : StatementsAreFine ss) (keeps : (sc : Scope) → Keeps (NoStatics sc) sc (walks.stmts ss sc)) (sc : Scope) (taker : Ty → Receiver) (c : Context) (free : NoStatics sc c.vars) where
  abbrev one_round : ℤ → Check (Unit {0})
  one_round v = walks.plain_block (walks.stmts ss (walks.with_static sc x v)) end

  abbrev its_effect : ℤ → Effect
  its_effect v = meanings.inner (block ss end) (meanings.with_static (as_meaning taker sc) x v)

  round_fine : (z : ℤ) (d : Context) → FreeOf sc x d.vars → StmtFine sc d (one_round z) (its_effect z)
  round_fine z d i =
      static_fine sc x z d (one_round z) (its_effect z)
      (block_fine (walks.with_static sc x z) d (walks.stmts ss (walks.with_static sc x z)) (meanings.stmts ss (meanings.with_static (as_meaning taker sc) x z)) end (fine (walks.with_static sc x z) taker d (free_with sc x z d.vars i)))

  round_keeps : (z : ℤ) → Keeps (FreeOf sc x) sc (one_round z)
  round_keeps z d i =
      gives-more (Callable sc) 0 (λ r. Goes (NoStatics (walks.with_static sc x z)) d r.1) (λ r. Goes (FreeOf sc x) d r.1) (one_round z d)
      (block_keeps (NoStatics (walks.with_static sc x z)) (walks.with_static sc x z) (walks.stmts ss (walks.with_static sc x z)) end (free_taken (walks.with_static sc x z)) (keeps (walks.with_static sc x z)) d (free_with sc x z d.vars i))
      (λ r g. record { holds = free_without sc x z r.1.vars g.holds; stayed = g.stayed })

  abbrev all_rounds : ℤ → ℤ → Effect
  all_rounds a b = meanings.rounds its_effect a (distance (b -ℤ a))

  abbrev its_walk : Check (Unit {0})
  its_walk =
      needed sc low >>= (λ a. needed sc high >>= (λ b. variables >>= (λ vars.
      rules s ((is_variable vars x || walks.is_static_param sc x, name_taken) ∷ []) >> walks.rounds one_round a (distance (b -ℤ a)))))

  abbrev whole_effect : Effect
  whole_effect = all_rounds (meanings.static_value sc.statics low) (meanings.static_value sc.statics high)

  loop_runs : Ensures (Callable sc) (λ d. d ≡ c) its_walk (λ u. Does sc c whole_effect)
  loop_runs =
      o_bind (Callable sc) 0 (needed_is (Callable sc) 0 sc low) (λ a. o_bind (Callable sc) 0 (needed_is (Callable sc) 0 sc high) (λ b. o_bind (Callable sc) 0 (o_variables (Callable sc) 0) (λ vars.
      o_then (Callable sc) 0 (o_rules (Callable sc) 0 s _) (λ u.
      record { runs = λ d h. run a b d h.1.1.1.1 (ap meanings.or_zero h.1.1.1.0) (ap meanings.or_zero h.1.1.0) (absent d h.1.1.1.1 (or_left (is_variable vars x) (walks.is_static_param sc x) h.0.0) h.1.0) }))))
    where
      none_there : (o : Option Var) → is_some o ≡ false → o ≡ None
      none_there None e = refl
      none_there (Some v) e = clash e

      absent : {vars : List Var} (d : Context) → d ≡ c → is_variable vars x ≡ false → vars ≡ d.vars → find_var c.vars (variable x) ≡ None
      absent d e n v = none_there (find_var c.vars (variable x)) (ap (λ l. is_variable l x) (sym (v ∙ ap (λ (y : Context). y.vars) e)) ∙ n)

      run : (a b : ℤ) (d : Context) → d ≡ c → meanings.static_value sc.statics low ≡ a → meanings.static_value sc.statics high ≡ b → find_var c.vars (variable x) ≡ None → Gives (Callable sc) (λ r. Does sc c whole_effect r.1) (walks.rounds one_round a (distance (b -ℤ a)) d)
      run a b d e p q n =
          subst (λ y. Gives (Callable sc) (λ r. Does sc c whole_effect r.1) (walks.rounds one_round a (distance (b -ℤ a)) y)) (sym e)
          (subst (λ y. Gives (Callable sc) (λ r. Does sc c (all_rounds y (meanings.static_value sc.statics high)) r.1) (walks.rounds one_round a (distance (b -ℤ a)) c)) (sym p)
          (subst (λ y. Gives (Callable sc) (λ r. Does sc c (all_rounds a y) r.1) (walks.rounds one_round a (distance (b -ℤ a)) c)) (sym q)
          (rounds_fine (FreeOf sc x) sc one_round its_effect round_fine round_keeps a (distance (b -ℤ a)) c (free, n))))

  loop_fine : StmtFine sc c (walks.stmt (loop x low high (block ss end) s) sc) (meanings.stmt (loop x low high (block ss end) s) (as_meaning taker sc))
  loop_fine = line_fine sc c its_walk whole_effect s.line (loop_runs.runs c refl)

pub loop_is_fine : (x : NameId) (low high : Expression) (ss : Statements) (end s : Spot) → StatementsAreFine ss → ((sc : Scope) → Keeps (NoStatics sc) sc (walks.stmts ss sc)) → StatementIsFine (loop x low high (block ss end) s)
loop_is_fine x low high ss end s fine keeps sc taker c free = loop_fine x low high ss end s fine keeps sc taker c free

-- ---- choices by a static value

-- what stands behind `else`
abbrev pub OtherwiseIsFine : Otherwise → Type 0
OtherwiseIsFine other = (sc : Scope) (taker : Ty → Receiver) (c : Context) → NoStatics sc c.vars → StmtFine sc c (walks.plain_block (walks.otherwise other sc) (walks.otherwise_end other)) (meanings.otherwise other (as_meaning taker sc))

pub else_block_fine : (ss : Statements) (end : Spot) → StatementsAreFine ss → OtherwiseIsFine (else_block (block ss end))
else_block_fine ss end h sc taker c free = block_fine sc c (walks.stmts ss sc) (meanings.stmts ss (as_meaning taker sc)) end (h sc taker c free)

pub else_choice_fine : (st : Statement) → StatementIsFine st → OtherwiseIsFine (else_choice st)
else_choice_fine st h sc taker c free = block_fine sc c (walks.stmt st sc) (meanings.stmt st (as_meaning taker sc)) (walks.choice_end st) (h sc taker c free)

module _ (e : Expression) (ss : Statements) (end : Spot) (other : Otherwise) (s : Spot) (first : StatementsAreFine ss) (second : OtherwiseIsFine other) (sc : Scope) (taker : Ty → Receiver) (c : Context) (free : NoStatics sc c.vars) where
  abbrev either_walk : Bool → Check (Unit {0})
  either_walk t = cond t (walks.plain_block (walks.stmts ss sc) end) (walks.plain_block (walks.otherwise other sc) (walks.otherwise_end other))

  abbrev either_effect : Bool → Effect
  either_effect t = cond t (meanings.inner (block ss end) (as_meaning taker sc)) (meanings.otherwise other (as_meaning taker sc))

  either_fine : (t : Bool) → StmtFine sc c (either_walk t) (either_effect t)
  either_fine true = block_fine sc c (walks.stmts ss sc) (meanings.stmts ss (as_meaning taker sc)) end (first sc taker c free)
  either_fine false = second sc taker c free

  abbrev static_walk : Check (Unit {0})
  static_walk = of_result (needed_at sc.statics e (at e)) >>= (λ z. walks.chosen z (walks.plain_block (walks.stmts ss sc) end) (walks.plain_block (walks.otherwise other sc) (walks.otherwise_end other)))

  static_runs : Ensures (Callable sc) (λ d. d ≡ c) static_walk (λ u. Does sc c (either_effect (is_true (meanings.static_value sc.statics e))))
  static_runs =
      o_bind (Callable sc) 0 (o_result (Callable sc) 0 (needed_at sc.statics e (at e))) (λ z.
      record {
        runs = λ d h.
            subst (λ y. Gives (Callable sc) (λ r. Does sc c (either_effect (is_true (meanings.static_value sc.statics e))) r.1) (either_walk (is_true z) y)) (sym h.1)
            (subst (λ y. Gives (Callable sc) (λ r. Does sc c (either_effect (is_true y)) r.1) (either_walk (is_true z) c)) (sym (static_is sc.statics e (at e) z h.0)) (either_fine (is_true z)));
      })

  static_choice : is_static sc.statics e ≡ true → StmtFine sc c (walks.stmt (choice e (block ss end) other s) sc) (meanings.stmt (choice e (block ss end) other s) (as_meaning taker sc))
  static_choice is =
      line_fine sc c (cond (is_static sc.statics e) static_walk run_time_walk) (cond (is_static sc.statics e) (either_effect (is_true (meanings.static_value sc.statics e))) run_time_effect) s.line
      (subst (λ t. StmtFine sc c (cond t static_walk run_time_walk) (cond t (either_effect (is_true (meanings.static_value sc.statics e))) run_time_effect)) (sym is) (static_runs.runs c refl))
    where
      run_time_walk : Check (Unit {0})
      run_time_walk =
          walks.condition sc e >>= (λ ps. walks.both (walks.branch (walks.stmts ss (walks.under sc ps)) end) (walks.branch (walks.otherwise other (walks.under sc ps)) (walks.otherwise_end other)))

      run_time_effect : Effect
      run_time_effect = meanings.expr e (as_meaning taker sc) needs.Held ▸ effects.choice (meanings.inner (block ss end) (as_meaning taker sc)) (meanings.otherwise other (as_meaning taker sc))

-- a choice whose condition is static
pub static_choice_is_fine : (e : Expression) (ss : Statements) (end : Spot) (other : Otherwise) (s : Spot) (sc : Scope) (taker : Ty → Receiver) (c : Context) → NoStatics sc c.vars → is_static sc.statics e ≡ true → StatementsAreFine ss → OtherwiseIsFine other
    → StmtFine sc c (walks.stmt (choice e (block ss end) other s) sc) (meanings.stmt (choice e (block ss end) other s) (as_meaning taker sc))
static_choice_is_fine e ss end other s sc taker c free is first second = static_choice e ss end other s first second sc taker c free is
