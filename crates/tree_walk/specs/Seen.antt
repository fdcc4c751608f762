-- What a body sees, what its parts do, and the job of a function.
use Rattle.std.specs.Prelude.{ℕ, Bool, false, ◌-ℤ◌, if◌then◌else◌, cond, map, List, [], ◌∷◌, ◌++◌, Option, Some, None, ℤ}
use Rattle.silq_tree.specs.declared.node.NameId.{NameId}
use Rattle.silq_tree.specs.declared.node.ExprId.{ExprId}
use Rattle.silq_tree.specs.declared.node.StmtId.{StmtId}
use Rattle.silq_tree.specs.declared.node.PlaceNode.{PlaceNode}
use Rattle.silq_tree.specs.declared.node.Else.{Else}
use Rattle.silq_tree.specs.declared.node.UnaryOp.{UnaryOp}
use Rattle.silq_tree.specs.declared.node.BinaryOp.{BinaryOp}
use Rattle.silq_tree.specs.declared.node.UpdateOp.{UpdateOp}
use Rattle.silq_tree.specs.Arena.{expr_at, stmt_at}
use Rattle.silq_tree.specs.Standing.{expressions_of, place_of, statements_of, otherwise_of}
use Rattle.static_num.specs.Static.{is_static, is_true}
use Rattle.silq_types.specs.Types.{Statics, place_indices}
use Rattle.check_scope.specs.Library.{Shelf, functions_of, function_at, before_at, found_at}
use Rattle.silq_types.specs.Programs.{paired, distance}
use Rattle.silq_types.specs.Calls.{built_in, find_fun, needs_of_found, needs_of_built_in, needs_of_own}
use Rattle.silq_types.specs.declared.need.Need.{Need}
use Rattle.silq_types.specs.declared.need.Need.TheVariants.{Held, Consumed}
use Rattle.silq_types.specs.declared.built_in.BuiltIn.{BuiltIn}
use Rattle.silq_mean.specs.declared.receiver.Receiver.{Receiver}
use Rattle.silq_mean.specs.declared.receiver.Receiver.TheVariants.{Variable, CallResult, EntryOutput}
use Rattle.silq_mean.specs.Effect.{Effect, nothing, ◌>>◌, statement, step, claim, choice, one_operand, two_operands, receive, assign_to}
use Rattle.silq_mean.specs.Effect.{assign_in_turn, update_to, end_name, end_compared, enter_body, leave_body}
use Rattle.silq_mean.specs.Meaning.{Scope, functions, parameters_of, expr, exprs, items, called, gate, stmt, stmts, in_block, otherwise}
use Rattle.silq_mean.specs.Meaning.{rounds, static_value, static_values, body_of, names_of, params_of, takers_of, type_of, give_held}
use Rattle.silq_mean.specs.Table.{Job, job_of}
use Rattle.tree_walk.specs.declared.body.Body.{Body}

-- what the body of the function with a number sees
abbrev pub seen_at : Shelf → ℕ → Statics → List Receiver → Scope
seen_at l n statics results =
    record {
      words = l.words;
      needs = λ g. needs_of_found (built_in l.words g) (find_fun (before_at l n) g);
      parameters = λ g. parameters_of (built_in l.words g) (find_fun (before_at l n) g);
      calls = functions l.words (before_at l n);
      statics = statics;
      results = results;
    }

abbrev pub seen_in : Shelf → Body → Scope
seen_in l b = seen_at l b.this b.statics b.results

-- the job of the function with a number
abbrev pub job_at : Shelf → ℕ → List ℤ → Job
job_at l n statics = job_of (record { words = l.words; funs = functions_of l }) statics (Some (found_at l n))

-- what the body of the function with a number sees with static values, as an entry or in a call
abbrev pub instance_in : Shelf → ℕ → List ℤ → Bool → Body
instance_in l m values entry =
    let statics = paired (function_at l m).statics values in
    record { this = m; statics = statics; results = map (λ t. cond entry EntryOutput CallResult (type_of statics t)) (function_at l m).results }

-- the body of its function, with the last values as its environment
abbrev pub run_in : Shelf → Body → Effect
run_in l b = step (enter_body (names_of (params_of (function_at l b.this) b.statics))) >> body_of (function_at l b.this).body (seen_in l b)

-- and then its const parameters' values
abbrev pub entry_in : Shelf → Body → Effect
entry_in l b = run_in l b >> give_held (params_of (function_at l b.this) b.statics)

-- ---- what the parts of a body do

module _ (l : Shelf) (b : Body) where
  abbrev pub expr_in : ExprId → Need → Effect
  expr_in e need = expr (expr_at l.nodes e) (seen_in l b) need

  abbrev pub exprs_in : List ExprId → Need → List Need → List Receiver → Effect
  exprs_in ids other needs takers = exprs (expressions_of (expr_at l.nodes) ids) (seen_in l b) other needs takers

  abbrev pub items_in : ExprId → List Receiver → Effect
  items_in e takers = items (expr_at l.nodes e) (seen_in l b) takers

  abbrev pub numbers_in : List ExprId → List ℤ
  numbers_in ids = static_values (expressions_of (expr_at l.nodes) ids) b.statics

  abbrev pub indices_in : PlaceNode → List ℤ
  indices_in p = static_values (place_indices (place_of (expr_at l.nodes) p)) b.statics

  abbrev pub unary_in : UnaryOp → ExprId → Effect
  unary_in op e = expr_in e Held >> step (one_operand op)

  abbrev pub binary_in : BinaryOp → ExprId → ExprId → Effect
  binary_in op x y = expr_in x Held >> expr_in y Held >> step (two_operands op)

  abbrev pub call_in : NameId → List ExprId → List ExprId → Effect
  call_in f ss args =
      exprs_in args Held ((seen_in l b).needs f) ((seen_in l b).parameters f (numbers_in ss))
      >> called (seen_in l b) (built_in l.words f) f (expressions_of (expr_at l.nodes) ss)

  abbrev pub stmt_in : StmtId → Effect
  stmt_in id = stmt (stmt_at l.nodes id) (seen_in l b)

  abbrev pub stmts_in : List StmtId → Effect
  stmts_in ids = stmts (statements_of (expr_at l.nodes) (stmt_at l.nodes) ids) (seen_in l b)

  abbrev pub block_in : List StmtId → Effect
  block_in ids = in_block (stmts_in ids)

  abbrev pub else_in : Else → Effect
  else_in other = otherwise (otherwise_of (expr_at l.nodes) (stmt_at l.nodes) other) (seen_in l b)

  abbrev pub taken_in : Bool → List StmtId → Else → Effect
  taken_in first ids other = if first then block_in ids else else_in other

  abbrev pub spread_in : List NameId → ExprId → Effect
  spread_in xs e = items_in e (map (λ x. Variable) xs) >> step (assign_in_turn xs)

  abbrev pub assign_in : PlaceNode → ExprId → Effect
  assign_in p e = expr_in e Consumed >> step (receive Variable) >> step (assign_to p.name (indices_in p))

  abbrev pub update_in : PlaceNode → UpdateOp → ExprId → Effect
  update_in p op e = expr_in e Held >> step (update_to p.name (indices_in p) op)

  abbrev pub forget_in : ℕ → NameId → Option ExprId → Effect
  forget_in line x None = step (end_name x)
  forget_in line x (Some e) = expr_in e Held >> claim line x >> step (end_compared x)

  abbrev pub return_in : Option ExprId → Effect
  return_in None = nothing
  return_in (Some e) = items_in e b.results

  abbrev pub built_in_call_in : BuiltIn → List ExprId → Effect
  built_in_call_in word args = exprs_in args Held (needs_of_built_in word) [] >> gate word

  -- what the body of the function with a number sees in a call
  abbrev pub callee_in : ℕ → List ExprId → Body
  callee_in m ss = instance_in l m (numbers_in ss) false

  -- the arguments of a call of another body
  abbrev pub arguments_in : Body → List ExprId → Effect
  arguments_in inner args = exprs_in args Held (needs_of_own (Some (found_at l inner.this))) (takers_of (params_of (function_at l inner.this) inner.statics))

  -- a call of the function with a number
  abbrev pub own_call_in : ℕ → List ExprId → List ExprId → Effect
  own_call_in m ss args = arguments_in (callee_in m ss) args >> (run_in l (callee_in m ss) >> step leave_body)

  abbrev pub choose_in : ExprId → List StmtId → Else → Effect
  choose_in e ids other =
      if is_static b.statics (expr_at l.nodes e) then taken_in (is_true (static_value b.statics (expr_at l.nodes e))) ids other
      else (expr_in e Held >> choice (block_in ids) (else_in other))

abbrev pub with_value : Body → NameId → ℤ → Body
with_value b x v = record b { statics = b.statics ++ (x, v) ∷ [] }

-- the rounds of a loop
abbrev pub rounds_in : Shelf → Body → NameId → List StmtId → ℤ → ℕ → Effect
rounds_in l b x ids low n = rounds (λ v. block_in l (with_value b x v) ids) low n

abbrev pub loop_in : Shelf → Body → NameId → ExprId → ExprId → List StmtId → Effect
loop_in l b x low high ids =
    rounds_in l b x ids (static_value b.statics (expr_at l.nodes low))
    (distance (static_value b.statics (expr_at l.nodes high) -ℤ static_value b.statics (expr_at l.nodes low)))

-- a statement's line, and what it does there
abbrev pub line_in : Effect → ℕ
line_in (statement line e) = line
line_in e = 0

abbrev pub acts : Effect → Effect
acts (statement line e) = e
acts e = e
