-- Bodies and calls: what a body of an instance does to the relation, for each state in which it is called.
use Rattle.std.specs.Prelude.{◌≡◌, ℕ, ◌+◌, ◌≤◌, ◌⊎◌, true, false, ◌==◌, if◌then◌else◌, List, [], ◌∷◌, ◌++◌, length, reverse, Option, Some, None, ℤ, Ok}
use Rattle.silq_tree.specs.declared.node.NameId.{NameId}
use Rattle.silq_tree.specs.Syntax.{Function}
use Rattle.silq_types.specs.declared.types.Ty.{Ty}
use Rattle.silq_types.specs.declared.values.Value.{Value}
use Rattle.silq_types.specs.Types.{is_held}
use Rattle.silq_types.specs.Calls.{is_consumed}
use Rattle.silq_types.specs.declared.signature.Returned.{Returned}
use Rattle.silq_types.specs.declared.signature.Signature.{Signature}
use Rattle.silq_types.specs.declared.signature.InstanceKey.{InstanceKey}
use Rattle.silq_mean.specs.Written.{Header, header_of}
use Rattle.check_scope.specs.declared.uses.Use.{Use}
use Rattle.silq_types.specs.declared.built_in.BuiltIn.{BuiltIn}
use Rattle.check_scope.specs.Context.{Context, Scope}
use Rattle.silq_types.specs.Programs.{paired}
use Rattle.check_expr.specs.Expression.{is_qfree, exact_place}
use Rattle.check_fun.specs.Program.{param_vars}
use Rattle.silq_mean.specs.declared.receiver.Receiver.{Receiver}
use Rattle.silq_mean.specs.declared.receiver.Receiver.TheVariants.{CallResult}
use Rattle.silq_mean.specs.Effect.{Effect}
use Rattle.silq_mean.specs.Meaning.{body_of}
use Rattle.flat_core.specs.declared.step.WireId.{WireId}
use Rattle.flat_core.specs.declared.step.End.TheVariants.{Dropped}
use Rattle.flat_core.specs.Label.{wire_in}
use Rattle.bit_arith.specs.Calls.{IsTarget}
use Rattle.flat_form.specs.declared.known.Known.{Known}
use Rattle.flat_form.specs.declared.known.Known.TheVariants.{Shown}
use Rattle.flat_form.specs.State.{Flattening, began_or, wires_so_far, operands_of}
use Rattle.flat_form.specs.Flat.{flat}
use Rattle.flat_form.specs.Fine.{Fine}
use Rattle.flat_form.specs.Names.{AllOf, names}
use Rattle.flat_form.specs.Shows.{ListBoth}
use Rattle.flat_typed.specs.Places.{Places, times_in, carriers, owners_of}
use Rattle.flat_typed.specs.Footprint.{used_wires, consumed_wires, Owed, Touches, StaysPlain, Unmade}
use Rattle.flat_typed.specs.Relation.{Outside, PartsDiffer, Stands, IsTakenOver, BeganFrom, is_carried, began_of, need_of}
use Rattle.flat_typed.specs.Scopes.{as_meaning, scope_for}
use Rattle.flat_typed.specs.Done.{Agree, StmtBegins, Leaves, changeable, kinds}

-- ---- lists of three

abbrev pub Three : {A B C : Type 0} → (A → B → C → Type 0) → List A → List B → List C → Type 0
Three R (a ∷ rest) (b ∷ bs) (c ∷ cs) = R a b c × Three R rest bs cs
Three R [] [] [] = Unit {0}
Three R rest bs cs = ⊥

-- ---- values that are taken over

-- the values that carry wires of their own
abbrev pub carried : List Receiver → List Value → List Value
carried (r ∷ rs) (v ∷ vs) = if is_carried r v then (v ∷ carried rs vs) else carried rs vs
carried rs vs = []

-- what is not carried names no wire of what is
abbrev pub SparesCarried : Places → List Value → Receiver → Value → Known → Type 0
SparesCarried W own r v k = is_carried r v ≡ false → (w : WireId) → 1 ≤ carriers W w own → names k w ≡ false

-- values that were taken over in turn
pub record ArgsDone (out : Outside) (sc : Scope) (takers : List Receiver) (e : Effect) (W : Places) (under : List Value) (us : List Use) (c : Context) (s : Flattening) (vs : List Value) (d : Context) : Type 0 where
  pub fine : Fine e s
  pub after : Places
  pub agree : Agree c.next W after
  pub answers : List Known
  pub values : (flat e s).values ≡ reverse answers ++ s.values
  pub each : Three (IsTakenOver after (used_wires W c.vars us) (consumed_wires W c.vars us) (wires_so_far s) c.next) takers vs answers
  pub apart : Three (SparesCarried after (carried takers vs)) takers vs answers
  pub stands : Stands out sc.held after (carried takers vs ++ under) d (flat e s)
  pub kinds_stay : kinds d.vars ≡ kinds c.vars
  pub leaves : Leaves s (flat e s)
  pub touches : Touches (consumed_wires W c.vars us) s.built.draft (flat e s).built.draft
  pub plain : is_qfree sc.this.mark ≡ true → StaysPlain s.built.draft (flat e s).built.draft
  pub unmade : Unmade (flat e s).built.draft

-- what is handed on is not held, a classical value of it has a new place, and where it is not carried it names no wire with an owner
pub record IsGivenOver (low : ℕ) (owners : WireId → ℕ) (r : Receiver) (v : Value) (k : Known) : Type 0 where
  pub unheld : is_consumed (need_of r) ≡ true → is_held v.origin ≡ false
  pub new : is_consumed (need_of r) ≡ true → v.ty.classical ≡ true → low ≤ v.place
  pub shares : is_consumed (need_of r) ≡ true → v.ty.classical ≡ true → is_carried r v ≡ false → (w : WireId) → 1 ≤ owners w → names k w ≡ false

pub record ArgsTells (out : Outside) (sc : Scope) (takers : List Receiver) (e : Effect) (W : Places) (under : List Value) (us : List Use) (c : Context) (s : Flattening) (vs : List Value) (d : Context) : Type 0 where
  pub done : ArgsDone out sc takers e W under us c s vs d
  pub given : Three (IsGivenOver c.next (λ w. owners_of done.after d.vars (carried takers vs ++ under) w)) takers vs done.answers
  -- their expressions did not begin before, but for results of a call, which tell where the call began
  pub began : (m : ℕ) → m ≤ wires_so_far s → m ≤ began_or m s.callers → AllOf (BeganFrom m) done.answers

-- ---- bodies

abbrev pub first_context : Function → Header → Context
first_context f h = record { vars = param_vars 0 f.params h.params; next = length h.params }

-- a result has the wires that the consumed parameter of its place gave, or new ones
abbrev pub FromParam : Places → ℕ → Option ℕ → Known → Type 0
FromParam W n (Some j) k = operands_of k ≡ W j
FromParam W n None k = (w : WireId) → names k w ≡ true → n ≤ w.number

pub record IsResult (W : Places) (n : ℕ) (r : Returned) (k : Known) : Type 0 where
  pub shows : k ≡ Shown (record { classical = r.ty.classical; shape = r.ty.shape; operands = operands_of k; own = true; began = began_of k })
  pub from : FromParam W n r.from k
  pub quantum : r.ty.classical ≡ true → r.from ≡ None

-- how often some values name a wire, and how often those of a quantum type
abbrev pub named_times : List Known → WireId → ℕ
named_times [] w = 0
named_times (k ∷ ks) w = times_in w (operands_of k) + named_times ks w

abbrev pub quantum_times : List Returned → List Known → WireId → ℕ
quantum_times (r ∷ rs) (k ∷ ks) w = (if r.ty.classical then 0 else times_in w (operands_of k)) + quantum_times rs ks w
quantum_times rs ks w = 0

-- from the beginning of a body, with its parameters as its variables, to its last statement
pub record BodyDone (out : Outside) (f : Function) (h : Header) (e : Effect) (W : Places) (s : Flattening) (results : List Returned) : Type 0 where
  pub fine : Fine e s
  pub answers : List Known
  pub values : (flat e s).values ≡ reverse answers
  pub each : ListBoth (IsResult W (wires_so_far s)) results answers
  pub one : (w : WireId) → named_times answers w ≤ 1
  pub free : (w : WireId) → 1 ≤ named_times answers w → IsTarget (flat e s).built.draft w
  pub untold : (w : WireId) → 1 ≤ named_times answers w → (wire_in (flat e s).built.draft.wires w).ending ≡ Dropped
  pub unguarded : (w : WireId) → 1 ≤ named_times answers w → out.guarded w ≡ false
  pub owed : (w : WireId) → Owed (flat e s).built.draft w → (1 ≤ quantum_times results answers w) ⊎ (out.answered w ≡ true)
  pub setting : (flat e s).setting ≡ s.setting
  pub callers : (flat e s).callers ≡ s.callers
  pub touches : Touches (changeable out W (param_vars 0 f.params h.params) []) s.built.draft (flat e s).built.draft
  pub plain : is_qfree f.mark ≡ true → StaysPlain s.built.draft (flat e s).built.draft
  pub unmade : Unmade (flat e s).built.draft
  -- their wires are those of consumed parameters, or new; their expressions did not begin before the body, nor before its call
  pub ours : (w : WireId) → 1 ≤ named_times answers w → (changeable out W (param_vars 0 f.params h.params) [] w ≡ true) ⊎ (wires_so_far s ≤ w.number)
  pub began : (m : ℕ) → m ≤ wires_so_far s → m ≤ began_or m s.callers → AllOf (BeganFrom m) answers

-- the body of an instance, wherever it is entered
abbrev pub BodyFine : List (NameId × BuiltIn) → List Function → (Ty → Receiver) → Function → List ℤ → Header → List Returned → Type 0
BodyFine words before taker f statics h results =
    (out : Outside) (W : Places) (s : Flattening) → StmtBegins out (scope_for words before f statics h) (length h.params) (λ p. 0) W (first_context f h) s →
    BodyDone out f h (body_of f.body (as_meaning taker (scope_for words before f statics h))) W s results

-- ---- instances

-- the function with this number and those before it, the nearest function first
abbrev pub parted : List Function → ℕ → Option (Function × List Function)
parted [] n = None
parted (f ∷ before) n = if n == length before then Some (f, before) else parted before n

-- a signature tells what each call of its instance does, and its function's parameters have different names
abbrev pub CallFine : List (NameId × BuiltIn) → List Function → InstanceKey → Signature → Type 0
CallFine words funs k sig =
    (f : Function) (before : List Function) (h : Header) → parted funs k.fun.number ≡ Some (f, before) → header_of (paired f.statics k.statics) exact_place f ≡ Ok h →
    BodyFine words before CallResult f k.statics h sig.results × ((sig.params ≡ h.params) × PartsDiffer (param_vars 0 f.params h.params))
