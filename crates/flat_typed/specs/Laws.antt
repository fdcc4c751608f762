-- Laws of the relation between typing and flattening that are proved.
use Rattle.std.specs.Prelude.{◌≡◌, ◌<◌, false, List, ◌∷◌, drop, length, ℕ, take, Some, Ok, ℤ}
use Rattle.silq_tree.specs.declared.node.NameId.{NameId}
use Rattle.silq_tree.specs.declared.node.Spot.{Spot}
use Rattle.silq_tree.specs.Syntax.{forget, Function}
use Rattle.silq_types.specs.declared.types.Ty.{Ty}
use Rattle.silq_types.specs.declared.built_in.BuiltIn.{BuiltIn}
use Rattle.silq_types.specs.Calls.{Found, find_fun}
use Rattle.silq_types.specs.Programs.{paired}
use Rattle.silq_mean.specs.Written.{Header, header_of}
use Rattle.silq_types.specs.declared.values.Part.{Part}
use Rattle.silq_types.specs.declared.values.Value.{Value}
use Rattle.check_scope.specs.Context.{Context}
use Rattle.check_fun.specs.Statement.{is_live_linear}
use Rattle.check_expr.specs.Expression.{exact_place}
use Rattle.silq_mean.specs.Env.{Block, Env}
use Rattle.silq_mean.specs.declared.receiver.Receiver.{Receiver}
use Rattle.silq_mean.specs.declared.receiver.Receiver.TheVariants.{CallResult}
use Rattle.silq_mean.specs.Effect.{◌>>◌, step, leave_body}
use Rattle.silq_mean.specs.Meaning.{scope, body, functions}
use Rattle.bit_arith.specs.Calls.{among}
use Rattle.flat_form.specs.declared.known.Known.{Known}
use Rattle.flat_form.specs.State.{Flattening, wires_in, drop_last}
use Rattle.flat_form.specs.Names.{AllOf}
use Rattle.flat_form.specs.Fine.{MayChange}
use Rattle.flat_form.specs.Good.{Good}
use Rattle.flat_typed.specs.Places.{Places, is_part, in_order}
use Rattle.flat_typed.specs.Footprint.{NoneNames}
use Rattle.flat_typed.specs.Relation.{Outside, Stands}
use Rattle.flat_typed.specs.Scopes.{as_meaning, scope_for}
use Rattle.flat_typed.specs.Calls.{parted}
use Rattle.flat_typed.specs.Lemmas.{StatementIsFine}

-- a variable that is forgotten by itself
abbrev pub ForgetIsFine : Type 0
ForgetIsFine = (x : NameId) (s : Spot) → StatementIsFine (forget x s)

-- a value that is handed on with wires of its own, as the last one, may be changed
abbrev pub OwnMayChange : Type 0
OwnMayChange =
    (out : Outside) (held : List (List Part)) (W : Places) (v : Value) (more : List Value) (c : Context) (s : Flattening) →
    Good s → Stands out held W (v ∷ more) c s → NoneNames (among (wires_in (W v.place))) (drop 1 s.values) → MayChange (wires_in (W v.place)) s (drop_last s)

-- where the variables from the n-th on are those of the innermost block, and none of them is Linear and live, the relation stands behind the block
abbrev pub BlocksClose : Type 0
BlocksClose =
    (out : Outside) (held : List (List Part)) (W : Places) (under : List Value) (c : Context) (s : Flattening) (b : Block Known) (bs : Env Known) (n : ℕ) →
    Stands out held W under c s → s.env ≡ b ∷ bs → length (in_order bs) ≡ n → AllOf (λ v. is_part v ≡ false) c.vars → AllOf (λ v. is_live_linear v ≡ false) (drop n c.vars) →
    Stands out held W under (record c { vars = take n c.vars }) (record s { env = drop 1 s.env })

-- what a body sees, for its meaning, is read off what its typing sees
abbrev pub BodiesSee : Type 0
BodiesSee =
    (words : List (NameId × BuiltIn)) (before : List Function) (taker : Ty → Receiver) (f : Function) (statics : List ℤ) (h : Header) →
    header_of (paired f.statics statics) exact_place f ≡ Ok h →
    scope words before (functions words before) taker f (paired f.statics statics) ≡ as_meaning taker (scope_for words before f statics h)

-- a function that is found, with those before it, and what a call of it does
pub record Stood (words : List (NameId × BuiltIn)) (funs : List Function) (f : NameId) (statics : List ℤ) (g : Found) : Type 0 where
  pub before : List Function
  pub apart : parted funs g.number ≡ Some (g.fun, before)
  pub does : functions words funs f statics ≡ (body words before (functions words before) CallResult g.fun (paired g.fun.statics statics) >> step leave_body)
  pub below : g.number < length funs

abbrev pub CallsStand : Type 0
CallsStand = (words : List (NameId × BuiltIn)) (funs : List Function) (f : NameId) (statics : List ℤ) (g : Found) → find_fun funs f ≡ Some g → Stood words funs f statics g
