-- From an accepted program to what flattening needs: the theorem, and the lemma of each construct.
use Rattle.std.specs.Prelude.{◌≡◌, ℕ, false, List, [], ◌∷◌, length, map, drop, ℤ, Ok, ◌⊎◌}
use Rattle.silq_tree.specs.declared.node.NameId.{NameId}
use Rattle.silq_tree.specs.declared.node.Spot.{Spot}
use Rattle.silq_tree.specs.Syntax.{Expression, Expressions, Statement, Statements, Function, none, more}
use Rattle.silq_types.specs.declared.types.Ty.{Ty}
use Rattle.silq_types.specs.declared.values.Value.{Value}
use Rattle.silq_types.specs.declared.signature.InstanceKey.{InstanceKey}
use Rattle.silq_types.specs.declared.signature.Signature.{Signature}
use Rattle.silq_types.specs.Known.{Signatures}
use Rattle.silq_mean.specs.Written.{Header}
use Rattle.silq_types.specs.Types.{count}
use Rattle.silq_types.specs.declared.need.Need.{Need}
use Rattle.silq_types.specs.declared.need.Need.TheVariants as needs
use Rattle.silq_types.specs.declared.built_in.BuiltIn.{BuiltIn}
use Rattle.check_scope.specs.declared.uses.Use.{Use}
use Rattle.check_scope.specs.Context.{Scope, Context, Check}
use Rattle.silq_types.specs.Programs.{Program}
use Rattle.check_scope.specs.Uses.{uses, all_uses, argument_uses, some_pair, both_consume, consume_and_hold}
use Rattle.check_scope.specs.Walk.{Counts}
use Rattle.check_expr.specs.Expression.{Asked, first_asked, later_asked, is_tuple, expr, arguments}
use Rattle.check_expr.specs.Owners.{ProperFor, Gives, Ensures, Sole}
use Rattle.check_fun.specs.Statement.{stmt, stmts, plain_block}
use Rattle.check_fun.specs.Program.{check, Accepted, instances, instance_walk, returned_as}
use Rattle.silq_mean.specs.declared.receiver.Receiver.{Receiver}
use Rattle.silq_mean.specs.declared.receiver.Receiver.TheVariants.{Variable, Argument, CallResult, EntryOutput}
use Rattle.silq_mean.specs.Effect.{Effect}
use Rattle.silq_mean.specs.Meaning as meanings
use Rattle.silq_mean.specs.Table.{job}
use Rattle.flat_form.specs.State.{Flattening}
use Rattle.flat_form.specs.Names.{AllOf}
use Rattle.flat_form.specs.Jobs.{FineJob, EndsWell}
use Rattle.flat_typed.specs.Places.{Places}
use Rattle.flat_typed.specs.Relation.{Outside, is_argument, need_of}
use Rattle.flat_typed.specs.Scopes.{as_meaning, scope_for, NoStatics}
use Rattle.flat_typed.specs.Done.{Begins, ExprTells, StmtBegins, StmtDone}
use Rattle.flat_typed.specs.Calls.{ArgsTells, BodyFine, CallFine}

-- ---- the theorem

abbrev pub AcceptedIsFlattenable : Type 0
AcceptedIsFlattenable = (p : Program) (e : NameId) (statics : List ℤ) (a : Accepted) → check p e statics ≡ Ok a → FineJob (job p e statics) × EndsWell (job p e statics)

-- ---- signatures

-- the signatures that a walk is given: they tell what calls do, and give each place on at most once
abbrev pub Callable : Scope → InstanceKey → Signature → Type 0
Callable sc k s = CallFine sc.words sc.before k s × ProperFor sc.before k s

-- each signature that the check of a program's instances makes or keeps
abbrev pub AreFine : List (NameId × BuiltIn) → List Function → Signatures → Type 0
AreFine words funs met = AllOf (λ (e : InstanceKey × Signature). CallFine words funs e.0 e.1) met

abbrev pub SignaturesAreFine : Type 0
SignaturesAreFine =
    (words : List (NameId × BuiltIn)) (funs : List Function) (d : ℕ) (k : InstanceKey) (c : Counts) (r : Signature × Counts) →
    AreFine words funs c.met → instances words funs d k c ≡ Ok r → CallFine words funs k r.0 × AreFine words funs r.1.met

-- ---- expressions

-- wherever the walk of this check answers, this effect is fine, leaves the relation, and does what the answer tells
abbrev pub ExprFine : Scope → Need → List Ty → Context → Check (List Value) → Effect → List Use → Type 0
ExprFine sc need wants c m e us =
    Gives (Callable sc) (λ r.
    (out : Outside) (low : ℕ) (others : ℕ → ℕ) (W : Places) (under : List Value) (s : Flattening) → Begins out sc low others W under us c s →
    ExprTells out sc need wants e W under us c s r.0 r.1) (m c)

-- no variable has the name of a static value, and a tuple stands only where each of its values is taken over at once
abbrev pub ExpressionIsFine : Expression → Type 0
ExpressionIsFine e =
    (sc : Scope) (taker : Ty → Receiver) (need : Need) (wants : List Ty) (c : Context) → is_tuple e ≡ false → NoStatics sc c.vars →
    ExprFine sc need wants c (expr e sc need wants) (meanings.expr e (as_meaning taker sc) need) (uses e sc c.vars need)

abbrev pub EachIsFine : Expressions → Type 0
EachIsFine none = Unit {0}
EachIsFine (more e es) = ExpressionIsFine e × EachIsFine es

-- what is asked of a value, and what takes it over
abbrev pub Agrees : Asked → Receiver → Type 0
Agrees a Variable = (a.need ≡ needs.Consumed) × (a.wants ≡ [])
Agrees a (Argument need t) = (a.need ≡ need) × (a.wants ≡ t ∷ [])
Agrees a (CallResult t) = (a.need ≡ needs.Consumed) × (a.wants ≡ t ∷ [])
Agrees a (EntryOutput t) = (a.need ≡ needs.Consumed) × (a.wants ≡ t ∷ [])

-- where one list of needs and one of what is asked are the same, and end with the need `other`
abbrev pub Asking : Need → List Asked → List Need → List Receiver → Type 0
Asking other asks ns [] = Unit {0}
Asking other asks ns (r ∷ rs) = Agrees (first_asked other asks) r × (meanings.need_or other ns ≡ need_of r) × Asking other (later_asked asks) (drop 1 ns) rs

-- the parts that they use
abbrev pub uses_by : Expressions → Scope → Context → List Receiver → List Use
uses_by es sc c takers = all_uses es sc c.vars (map need_of takers)

-- no argument consumes what another holds or consumes; what is no argument has wires of its own at once
abbrev pub Untangled : Scope → Context → Expressions → List Receiver → Type 0
Untangled sc c es takers =
    AllOf (λ r. is_argument r ≡ false) takers
    ⊎ ((some_pair both_consume (argument_uses es sc c.vars (map need_of takers)) ≡ false) × (some_pair consume_and_hold (argument_uses es sc c.vars (map need_of takers)) ≡ false))

abbrev pub ArgumentsAreFine : Expressions → Type 0
ArgumentsAreFine es =
    (sc : Scope) (taker : Ty → Receiver) (other : Need) (asks : List Asked) (ns : List Need) (takers : List Receiver) (c : Context) →
    NoStatics sc c.vars → count es ≡ length takers → Asking other asks ns takers → Untangled sc c es takers →
    Gives (Callable sc) (λ r.
    (out : Outside) (low : ℕ) (others : ℕ → ℕ) (W : Places) (under : List Value) (s : Flattening) → Begins out sc low others W under (uses_by es sc c takers) c s →
    ArgsTells out sc takers (meanings.exprs es (as_meaning taker sc) other ns takers) W under (uses_by es sc c takers) c s r.0 r.1)
    (arguments es sc other asks c)

-- ---- laws of typing alone

-- a place that had no owner gets none
abbrev pub DeadStaysDead : Type 0
DeadStaysDead =
    (st : Statement) (low : ℕ) (others : ℕ → ℕ) (sc : Scope) → Ensures (ProperFor sc.before) (Sole low others) (stmt st sc) (λ u. Sole low others)

-- ---- statements

abbrev pub StmtFine : {A : Type 0} → Scope → Context → Check A → Effect → Type 0
StmtFine sc c m e =
    Gives (Callable sc) (λ r.
    (out : Outside) (low : ℕ) (W : Places) (s : Flattening) → StmtBegins out sc low (λ p. 0) W c s → StmtDone out sc e W c s r.1) (m c)

abbrev pub StatementIsFine : Statement → Type 0
StatementIsFine st = (sc : Scope) (taker : Ty → Receiver) (c : Context) → NoStatics sc c.vars → StmtFine sc c (stmt st sc) (meanings.stmt st (as_meaning taker sc))

abbrev pub StatementsAreFine : Statements → Type 0
StatementsAreFine ss = (sc : Scope) (taker : Ty → Receiver) (c : Context) → NoStatics sc c.vars → StmtFine sc c (stmts ss sc) (meanings.stmts ss (as_meaning taker sc))

-- a block that stands where its statements are fine
abbrev pub BlocksAreFine : Type 0
BlocksAreFine =
    (sc : Scope) (c : Context) (inner : Check (Unit {0})) (e : Effect) (s : Spot) →
    ((c : Context) → StmtFine sc c inner e) → StmtFine sc c (plain_block inner s) (meanings.in_block e)

-- ---- bodies

-- a body under its static values, whatever takes its results over
abbrev pub BodiesAreFine : Type 0
BodiesAreFine =
    (words : List (NameId × BuiltIn)) (before : List Function) (taker : Ty → Receiver) (f : Function) (statics : List ℤ) (h : Header) →
    ((t : Ty) → (taker t ≡ CallResult t) ⊎ (taker t ≡ EntryOutput t)) →
    Gives (Callable (scope_for words before f statics h)) (λ vs. BodyFine words before taker f statics h (returned_as h.params h.results vs))
    (instance_walk words before f statics h)
