-- A body is fine where its statements and what it returns are.
use Rattle.std.specs.Prelude.{◌≡◌, true, false, List, length, ℤ, ◌⊎◌}
use Rattle.silq_tree.specs.declared.node.NameId.{NameId}
use Rattle.silq_tree.specs.Syntax.{Function}
use Rattle.silq_types.specs.declared.types.Ty.{Ty}
use Rattle.silq_types.specs.declared.built_in.BuiltIn.{BuiltIn}
use Rattle.silq_mean.specs.Written.{Header}
use Rattle.check_scope.specs.Context.{Scope}
use Rattle.check_fun.specs.Statement.{stmts}
use Rattle.check_fun.specs.Program.{shares_name, param_vars, instance_walk, returned_as}
use Rattle.check_expr.specs.Owners.{Gives}
use Rattle.silq_types.specs.Types.{is_held}
use Rattle.silq_mean.specs.Meaning.{body_of}
use Rattle.flat_form.specs.declared.known.Known.TheVariants.{Shown}
use Rattle.flat_form.specs.State.{Flattening}
use Rattle.flat_form.specs.Flat.{flat, known_in}
use Rattle.flat_form.specs.Names.{AllOf}
use Rattle.silq_mean.specs.declared.receiver.Receiver.{Receiver}
use Rattle.silq_mean.specs.declared.receiver.Receiver.TheVariants.{CallResult, EntryOutput}
use Rattle.flat_typed.specs.Scopes.{as_meaning, scope_for}
use Rattle.flat_typed.specs.Places.{Places, bits_for}
use Rattle.flat_typed.specs.Relation.{Outside}
use Rattle.flat_typed.specs.Done.{StmtBegins}
use Rattle.flat_typed.specs.Calls.{first_context, BodyFine}
use Rattle.flat_typed.specs.Lemmas.{Callable, ArgumentsAreFine}
use Rattle.flat_typed.specs.Settled.{FineStatements, Settling}
use Rattle.flat_typed.specs.Endings.{front, last_of, last_items, statements_of}

-- what takes the results of a body over
abbrev pub TakesResults : (Ty → Receiver) → Type 0
TakesResults taker = (t : Ty) → (taker t ≡ CallResult t) ⊎ (taker t ≡ EntryOutput t)

-- the statements but the return are fine and leave the context settled, what is returned is fine, and no parameter has the name of a static one
pub record HasFineParts (f : Function) : Type 0 where
  pub statements : FineStatements (front (statements_of f.body))
  pub settling : (sc : Scope) → Settling sc (stmts (front (statements_of f.body)) sc)
  pub returned : ArgumentsAreFine (last_items (last_of (statements_of f.body)))
  pub names : shares_name f.statics f.params ≡ false

-- the const parameters show what their places do
abbrev pub ShowsConsts : Function → Header → Places → Flattening → Type 0
ShowsConsts f h W u = AllOf (λ v. is_held v.origin ≡ true → known_in u v.part.name ≡ Shown (bits_for W v)) (param_vars 0 f.params h.params)

-- and the const parameters show at its end what they showed before
abbrev pub ConstsStay : List (NameId × BuiltIn) → List Function → (Ty → Receiver) → Function → List ℤ → Header → Type 0
ConstsStay words before taker f statics h =
    (out : Outside) (W : Places) (s : Flattening) → StmtBegins out (scope_for words before f statics h) (length h.params) (λ p. 0) W (first_context f h) s →
    ShowsConsts f h W (flat (body_of f.body (as_meaning taker (scope_for words before f statics h))) s)

-- a body of such parts, under its static values, whatever takes its results over
abbrev pub BodyIsFine : Type 0
BodyIsFine =
    (words : List (NameId × BuiltIn)) (before : List Function) (taker : Ty → Receiver) (f : Function) (statics : List ℤ) (h : Header) → TakesResults taker → HasFineParts f →
    Gives (Callable (scope_for words before f statics h)) (λ vs. BodyFine words before taker f statics h (returned_as h.params h.results vs) × ConstsStay words before taker f statics h)
    (instance_walk words before f statics h)
