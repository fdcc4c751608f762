-- What typing alone tells of places, in a form that statements in turn need.
use Rattle.std.specs.Prelude.{◌≡◌, ℕ, ◌<◌, ◌⊎◌, true, List, [], ◌∷◌}
use Rattle.silq_tree.specs.Syntax.{Statement}
use Rattle.silq_types.specs.declared.values.Var.{Var}
use Rattle.check_scope.specs.Context.{Scope, Context, Check}
use Rattle.check_expr.specs.Owners.{Gives, Sole}
use Rattle.check_fun.specs.Statement.{stmt}
use Rattle.flat_form.specs.Names.{AllOf}
use Rattle.flat_typed.specs.Places.{has_wires}
use Rattle.flat_typed.specs.Scopes.{NoStatics}
use Rattle.flat_typed.specs.Lemmas.{Callable}

-- something holds of one item of a list
abbrev pub SomeOf : {A : Type 0} → (A → Type 0) → List A → Type 0
SomeOf Q [] = ⊥
SomeOf Q (a ∷ rest) = Q a ⊎ SomeOf Q rest

-- a variable with wires of its own has this place
pub record IsOwner (p : ℕ) (v : Var) : Type 0 where
  pub wires : has_wires v ≡ true
  pub place : v.place ≡ p

-- a variable with wires of its own has a new place, or that of one before
abbrev pub HadOwner : Context → Var → Type 0
HadOwner c v = has_wires v ≡ true → v.place < c.next → SomeOf (IsOwner v.place) c.vars

pub record Stayed (c d : Context) : Type 0 where
  pub sole : Sole c.next (λ p. 0) d
  pub owners : AllOf (HadOwner c) d.vars

-- from variables of which something holds, a walk leads to such; it keeps each place with at most one owner, and gives a place that had no owner to none
pub record Goes (I : List Var → Type 0) (c d : Context) : Type 0 where
  pub holds : I d.vars
  pub stayed : Sole c.next (λ p. 0) c → Stayed c d

abbrev pub Keeps : {A : Type 0} → (List Var → Type 0) → Scope → Check A → Type 0
Keeps I sc m = (c : Context) → I c.vars → Gives (Callable sc) (λ r. Goes I c r.1) (m c)

-- a law of typing alone
abbrev pub StatementsKeep : Type 0
StatementsKeep = (st : Statement) (sc : Scope) → Keeps (NoStatics sc) sc (stmt st sc)
