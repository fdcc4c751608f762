-- What expressions, statements and functions do to a term.
use Rattle.std.specs.Prelude.{ℕ, zero, suc, true, if◌then◌else◌, List, [], ◌∷◌, ◌++◌, drop, map, Option, Some, None, Result, Ok, Err, ℤ, pos, ◌+ℤ◌, ◌-ℤ◌}
use Rattle.silq_tree.specs.declared.node.NameId.{NameId}
use Rattle.silq_tree.specs.declared.node.Spot.{Spot}
use Rattle.silq_tree.specs.Syntax.{Expression, Expressions, number, typed_number, truth, pi, place, called as call_of, tuple, unary, binary, none, more, ScalarType, Statement, assign, spread, update, forget, forget_value, phase, choice as condition, loop, return_nothing, return_value, call, Block, block, Otherwise, else_block, else_choice, Statements, done, next, WrittenType, Parameter, Function}
use Rattle.static_num.specs.declared.values.StaticFault.{StaticFault}
use Rattle.static_num.specs.declared.angles.AngleFault.{AngleFault}
use Rattle.static_num.specs.Static.{eval_of, is_static, is_true, number_of}
use Rattle.static_num.specs.Angle.{angle_of}
use Rattle.silq_types.specs.declared.types.Scalar.{Scalar}
use Rattle.silq_types.specs.declared.types.Scalar.TheVariants as scalars
use Rattle.silq_types.specs.declared.types.Shape.TheVariants.{Bit}
use Rattle.silq_types.specs.declared.types.Ty.{Ty}
use Rattle.silq_types.specs.Rules.{Fault}
use Rattle.silq_types.specs.Types.{Statics, same_name, quantum, place_name, place_indices}
use Rattle.silq_mean.specs.Written.{scalar_type, header_type, written_at}
use Rattle.silq_types.specs.declared.need.Need.{Need}
use Rattle.silq_types.specs.declared.need.Need.TheVariants.{Held, Consumed}
use Rattle.silq_types.specs.declared.built_in.BuiltIn.{BuiltIn}
use Rattle.silq_types.specs.declared.built_in.BuiltIn.TheVariants.{HGate, XGate, YGate, ZGate, Dup, Measure, Vector, RotateX, RotateY, RotateZ}
use Rattle.silq_types.specs.Calls.{is_consumed, built_in, Found, find_fun, param_need, needs_of_found}
use Rattle.silq_types.specs.Programs.{paired, distance}
use Rattle.silq_mean.specs.declared.receiver.Receiver.{Receiver}
use Rattle.silq_mean.specs.declared.receiver.Receiver.TheVariants.{Variable, Argument, CallResult, EntryOutput}
use Rattle.silq_mean.specs.Effect.{Effect, nothing, ◌>>◌, statement, step, mix, measure, claim, choice, give_static, give_typed, give_part, one_operand, two_operands, copy_last, repeat_last, flip_last, turn_by, turn_all, assign_to, assign_in_turn, receive, update_to, end_name, end_compared, enter_block, leave_block, enter_body, leave_body}

-- what a part of a body sees: the names of built-in functions, how calls use their arguments, what takes the arguments of an earlier
-- function over and what its call does, the static values, and what takes the results over
pub record Scope : Type 0 where
  pub words : List (NameId × BuiltIn)
  pub needs : NameId → List Need
  pub parameters : NameId → List ℤ → List Receiver
  pub calls : NameId → List ℤ → Effect
  pub statics : Statics
  pub results : List Receiver

-- ---- what is static. An accepted program has no fault here.

abbrev pub or_zero : Result ℤ StaticFault → ℤ
or_zero (Ok z) = z
or_zero (Err e) = pos 0

abbrev pub static_value : Statics → Expression → ℤ
static_value statics e = or_zero (eval_of statics e)

abbrev pub static_values : Expressions → Statics → List ℤ
static_values none statics = []
static_values (more e es) statics = static_value statics e ∷ static_values es statics

abbrev pub or_bit : Result Scalar Fault → Scalar
or_bit (Ok k) = k
or_bit (Err f) = scalars.Bit

abbrev pub scalar_of : Statics → ScalarType → Spot → Scalar
scalar_of statics k s = or_bit (scalar_type statics (λ x. true) k s)

abbrev pub type_or_bit : Result Ty Fault → Ty
type_or_bit (Ok t) = t
type_or_bit (Err f) = quantum Bit

abbrev pub type_of : Statics → WrittenType → Ty
type_of statics t = type_or_bit (header_type statics t (written_at t))

abbrev pub or_none : Result ℕ AngleFault → ℕ
or_none (Ok k) = k
or_none (Err f) = 0

-- the eighths of a turn
abbrev pub eighths : Statics → Expression → ℕ
eighths statics e = or_none (angle_of statics e)

-- ---- expressions

-- a static expression gives its number, which takes its type where it stands
abbrev pub unless_static : Statics → Expression → Effect → Effect
unless_static statics e otherwise = if is_static statics e then step (give_static (static_value statics e)) else otherwise

-- on its arguments, which are the last values
abbrev pub gate : BuiltIn → Effect
gate Dup = step copy_last
gate Vector = step repeat_last
gate XGate = step flip_last
gate ZGate = step (turn_by 4 0)
gate YGate = step (turn_by 6 2) >> step flip_last
gate HGate = mix
gate Measure = measure
gate RotateX = nothing
gate RotateY = nothing
gate RotateZ = nothing

abbrev pub called : Scope → Option BuiltIn → NameId → Expressions → Effect
called sc (Some b) f ss = gate b
called sc None f ss = sc.calls f (static_values ss sc.statics)

abbrev pub need_or : Need → List Need → Need
need_or other [] = other
need_or other (need ∷ needs) = need

-- a value that is taken over at once, if anything takes it
abbrev pub taken_by : List Receiver → Effect
taken_by [] = nothing
taken_by (r ∷ rs) = step (receive r)

abbrev mutual
  pub expr : Expression → Scope → Need → Effect
  expr (number n s) sc need = step (give_static n)
  expr (typed_number n k s) sc need = step (give_typed (scalar_of sc.statics k s) n)
  expr (truth b s) sc need = step (give_static (number_of b))
  expr (pi s) sc need = nothing
  expr (place p s) sc need = unless_static sc.statics (place p s) (step (give_part need (place_name p) (static_values (place_indices p) sc.statics)))
  expr (call_of f ss args s) sc need = exprs args sc Held (sc.needs f) (sc.parameters f (static_values ss sc.statics)) >> called sc (built_in sc.words f) f ss
  expr (tuple es s) sc need = exprs es sc need [] []
  expr (unary op e s) sc need = unless_static sc.statics (unary op e s) (expr e sc Held >> step (one_operand op))
  expr (binary op a b s) sc need = unless_static sc.statics (binary op a b s) (expr a sc Held >> expr b sc Held >> step (two_operands op))

  -- their values in turn, each in the use that is asked, and in the other use past that list's end, and taken over
  pub exprs : Expressions → Scope → Need → List Need → List Receiver → Effect
  exprs none sc other needs takers = nothing
  exprs (more e es) sc other needs takers = expr e sc (need_or other needs) >> taken_by takers >> exprs es sc other (drop 1 needs) (drop 1 takers)

-- the values of a tuple, each of them taken over, or that of another expression
abbrev pub items : Expression → Scope → List Receiver → Effect
items (tuple es s) sc takers = exprs es sc Consumed [] takers
items e sc takers = expr e sc Consumed >> taken_by takers

-- ---- statements

-- a block: at its end its variables are taken out
abbrev pub in_block : Effect → Effect
in_block inner = step enter_block >> inner >> step leave_block

abbrev pub with_static : Scope → NameId → ℤ → Scope
with_static sc x v = record sc { statics = sc.statics ++ (x, v) ∷ [] }

-- n rounds, the first with the value low
abbrev pub rounds : (ℤ → Effect) → ℤ → ℕ → Effect
rounds body low zero = nothing
rounds body low (suc n) = body low >> rounds body (low +ℤ pos 1) n

abbrev mutual
  pub stmt : Statement → Scope → Effect
  stmt (assign p e s) sc = statement s.line (expr e sc Consumed >> step (receive Variable) >> step (assign_to (place_name p) (static_values (place_indices p) sc.statics)))
  stmt (spread xs e s) sc = statement s.line (items e sc (map (λ x. Variable) xs) >> step (assign_in_turn xs))
  stmt (update p op e s) sc = statement s.line (expr e sc Held >> step (update_to (place_name p) (static_values (place_indices p) sc.statics) op))
  stmt (forget x s) sc = statement s.line (step (end_name x))
  stmt (forget_value x e s) sc = statement s.line (expr e sc Held >> claim s.line x >> step (end_compared x))
  stmt (phase e s) sc = statement s.line (step (turn_all (eighths sc.statics e)))
  stmt (return_nothing s) sc = statement s.line nothing
  stmt (return_value e s) sc = statement s.line (items e sc sc.results)
  stmt (call e s) sc = statement s.line (expr e sc Consumed)
  stmt (condition e b other s) sc =
      statement s.line
      (if is_static sc.statics e then (if is_true (static_value sc.statics e) then inner b sc else otherwise other sc)
      else (expr e sc Held >> choice (inner b sc) (otherwise other sc)))
  stmt (loop x low high body s) sc =
      statement s.line
      (rounds (λ v. inner body (with_static sc x v)) (static_value sc.statics low) (distance (static_value sc.statics high -ℤ static_value sc.statics low)))

  pub inner : Block → Scope → Effect
  inner (block ss end) sc = in_block (stmts ss sc)

  pub otherwise : Otherwise → Scope → Effect
  otherwise (else_block b) sc = inner b sc
  otherwise (else_choice st) sc = in_block (stmt st sc)

  pub stmts : Statements → Scope → Effect
  stmts done sc = nothing
  stmts (next st rest) sc = stmt st sc >> stmts rest sc

-- ---- functions

abbrev pub body_of : Block → Scope → Effect
body_of (block ss end) sc = stmts ss sc

abbrev pub param_of : Function → Statics → Parameter → NameId × Need × Ty
param_of f statics p = (p.name, param_need f p, type_of statics p.ty)

abbrev pub params_of : Function → Statics → List (NameId × Need × Ty)
params_of f statics = map (param_of f statics) f.params

abbrev pub names_of : List (NameId × Need × Ty) → List NameId
names_of ps = map (λ p. p.0) ps

abbrev pub takers_of : List (NameId × Need × Ty) → List Receiver
takers_of ps = map (λ p. Argument p.1 p.2) ps

-- what takes the arguments of a call over: nothing for a built-in function
abbrev pub parameters_of : Option BuiltIn → Option Found → List ℤ → List Receiver
parameters_of (Some b) g values = []
parameters_of None None values = []
parameters_of None (Some g) values = takers_of (params_of g.fun (paired g.fun.statics values))

abbrev pub scope : List (NameId × BuiltIn) → List Function → (NameId → List ℤ → Effect) → (Ty → Receiver) → Function → Statics → Scope
scope words before calls taker f statics =
    record {
      words = words;
      needs = λ g. needs_of_found (built_in words g) (find_fun before g);
      parameters = λ g. parameters_of (built_in words g) (find_fun before g);
      calls = calls;
      statics = statics;
      results = map (λ t. taker (type_of statics t)) f.results;
    }

-- the body, with the last values as its environment
abbrev pub body : List (NameId × BuiltIn) → List Function → (NameId → List ℤ → Effect) → (Ty → Receiver) → Function → Statics → Effect
body words before calls taker f statics = step (enter_body (names_of (params_of f statics))) >> body_of f.body (scope words before calls taker f statics)

-- a call of one of the functions so far, the nearest first: a body calls earlier functions alone
abbrev pub functions : List (NameId × BuiltIn) → List Function → NameId → List ℤ → Effect
functions words [] f values = nothing
functions words (g ∷ before) f values =
    if same_name g.name f then (body words before (functions words before) CallResult g (paired g.statics values) >> step leave_body) else functions words before f values

-- the const parameters, whose values follow those that the entry returns
abbrev pub give_held : List (NameId × Need × Ty) → Effect
give_held [] = nothing
give_held (p ∷ ps) = if is_consumed p.1 then give_held ps else (step (give_part Held p.0 []) >> give_held ps)

abbrev pub entry : List (NameId × BuiltIn) → List Function → Function → Statics → Effect
entry words before f statics = body words before (functions words before) EntryOutput f statics >> give_held (params_of f statics)
