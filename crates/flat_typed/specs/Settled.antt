-- What holds of a context between two statements, what statements do to it, and which statements are fine there.
use Rattle.std.specs.Prelude.{◌≡◌, ℕ, ◌<◌, ◌≤◌, true, false, List, [], ◌∷◌}
use Rattle.silq_tree.specs.Syntax.{Statement, Statements, Otherwise, block, else_block, else_choice}
use Rattle.silq_types.specs.declared.types.Ty.{Ty}
use Rattle.silq_types.specs.declared.values.Var.{Var}
use Rattle.silq_types.specs.Types.{is_held}
use Rattle.check_scope.specs.Context.{Scope, Context, Check}
use Rattle.check_expr.specs.Owners.{Gives, Sole}
use Rattle.check_fun.specs.Statement.{stmt, stmts}
use Rattle.silq_mean.specs.declared.receiver.Receiver.{Receiver}
use Rattle.silq_mean.specs.Meaning as meanings
use Rattle.flat_form.specs.Names.{AllOf}
use Rattle.flat_typed.specs.Places.{is_part}
use Rattle.flat_typed.specs.Scopes.{as_meaning, NoStatics}
use Rattle.flat_typed.specs.Lemmas.{Callable, StmtFine}
use Rattle.flat_typed.specs.Stay.{SomeOf, HadOwner}

-- no variable has the name of a static value, no part is under way, each place is one from before, and none has two owners
pub record Settled (sc : Scope) (c : Context) : Type 0 where
  pub free : NoStatics sc c.vars
  pub whole : AllOf (λ v. is_part v ≡ false) c.vars
  pub placed : AllOf (λ v. v.place < c.next) c.vars
  pub sole : Sole c.next (λ p. 0) c

-- ---- variables that stay

-- the second variable has the name of the first, and is held where it is; one that is held is left as it is
pub record StaysHeld (v w : Var) : Type 0 where
  pub part : w.part ≡ v.part
  pub held : is_held w.origin ≡ is_held v.origin
  pub same : is_held v.origin ≡ true → w ≡ v

-- the first variables of the second list are those of the first
abbrev pub AllStay : List Var → List Var → Type 0
AllStay [] ws = Unit {0}
AllStay (v ∷ vs) [] = ⊥
AllStay (v ∷ vs) (w ∷ ws) = StaysHeld v w × AllStay vs ws

pub record IsLive (p : ℕ) (v : Var) : Type 0 where
  pub live : v.consumed ≡ false
  pub place : v.place ≡ p

-- a live variable has a new place, or that of one that was live
abbrev pub HadLive : Context → Var → Type 0
HadLive c v = v.consumed ≡ false → v.place < c.next → SomeOf (IsLive v.place) c.vars

-- ---- what walks do

-- variables stay in their order; a place without an owner gets none, and one that no live variable has comes to none
pub record Settles (sc : Scope) (c d : Context) : Type 0 where
  pub settled : Settled sc d
  pub grown : c.next ≤ d.next
  pub owners : AllOf (HadOwner c) d.vars
  pub alive : AllOf (HadLive c) d.vars
  pub there : AllStay c.vars d.vars

abbrev pub Settling : {A : Type 0} → Scope → Check A → Type 0
Settling sc m = (c : Context) → Settled sc c → Gives (Callable sc) (λ r. Settles sc c r.1) (m c)

-- a law of typing alone
abbrev pub StatementsSettle : Type 0
StatementsSettle = (st : Statement) (sc : Scope) → Settling sc (stmt st sc)

-- ---- what is fine between two statements

abbrev pub FineStatement : Statement → Type 0
FineStatement st = (sc : Scope) (taker : Ty → Receiver) (c : Context) → Settled sc c → StmtFine sc c (stmt st sc) (meanings.stmt st (as_meaning taker sc))

abbrev pub FineStatements : Statements → Type 0
FineStatements ss = (sc : Scope) (taker : Ty → Receiver) (c : Context) → Settled sc c → StmtFine sc c (stmts ss sc) (meanings.stmts ss (as_meaning taker sc))

-- what stands behind `else`
abbrev pub FineOtherwise : Otherwise → Type 0
FineOtherwise (else_block (block ss end)) = FineStatements ss
FineOtherwise (else_choice st) = FineStatement st
