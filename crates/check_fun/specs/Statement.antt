-- The walk of statements, blocks and a function's body.
use Rattle.std.specs.Prelude.{ℕ, zero, suc, Bool, true, false, not, ◌&&◌, ◌||◌, ◌==◌, if◌then◌else◌, List, [], ◌∷◌, ◌++◌, length, take, drop, Option, Some, None, is_some, Result, Ok, Err, ℤ, pos, negsuc, ◌+ℤ◌, ◌-ℤ◌}
use Rattle.silq_tree.specs.declared.node.NameId.{NameId}
use Rattle.silq_tree.specs.declared.node.Spot.{Spot}
use Rattle.silq_tree.specs.declared.node.UpdateOp.{UpdateOp}
use Rattle.silq_tree.specs.declared.node.UpdateOp.TheVariants.{Xor}
use Rattle.silq_tree.specs.Syntax.{Expression, Place, whole, part, part_of_part, Statement, Statements, Block, Otherwise, assign, spread, update, forget, forget_value, phase, choice, loop, return_nothing, return_value, call, block, else_block, else_choice, done, next}
use Rattle.static_num.specs.Static.{is_static, is_true}
use Rattle.static_num.specs.Angle.{angle_of}
use Rattle.static_num.specs.declared.angles.AngleFault.{AngleFault}
use Rattle.static_num.specs.declared.angles.AngleFault.TheVariants as angles
use Rattle.silq_io.specs.declared.fault.What.TheVariants.{Angle}
use Rattle.silq_types.specs.declared.types.Ty.{Ty}
use Rattle.silq_types.specs.declared.values.Origin.{Origin}
use Rattle.silq_types.specs.declared.values.Origin.TheVariants.{Lifted, Linear, Classical}
use Rattle.silq_types.specs.declared.values.Value.{Value}
use Rattle.silq_types.specs.declared.values.Part.{Part}
use Rattle.silq_types.specs.declared.values.Var.{Var}
use Rattle.silq_types.specs.Rules.{rule, unsupported, unknown_name, name_taken, wrong_type, used_after_move, held_changed, against_mark, condition_changed, outer_changed, linear_left, not_droppable, bad_forget, bad_return, result_count, bad_update, bad_part, not_static}
use Rattle.silq_mean.specs.Written.{value_of, is_empty, needed_at}
use Rattle.silq_types.specs.Types.{same_name, place_name, place_indices, shape_eq, ty_eq, is_bit, is_number, is_linear, is_held, names, at}
use Rattle.silq_types.specs.declared.need.Need.TheVariants as needs
use Rattle.check_scope.specs.Context.{Scope, Check, ◌>>=◌, ◌>>◌, give_back, pass, fail, of_result, rules, variables, put_variables, new_place, count_statement, part_at, variable, indices, is_in_condition, find_var, same_part, is_variable, replace, is_known_name, part_type, known_names, needed, all_needed}
use Rattle.silq_types.specs.Programs.{distance}
use Rattle.check_scope.specs.Uses.{uses, parts_of}
use Rattle.check_expr.specs.Expression.{is_tuple, lone_need, lone_wants, expr, single, suits, is_qfree, some_linear}

-- ---- binding names

abbrev pub bound : NameId → Value → Var
bound x v = record { part = variable x; ty = v.ty; origin = v.origin; place = v.place; consumed = false }

-- a variable in reach is bound anew; else the name is a new variable at the end
abbrev pub bind_name : List Var → NameId → Value → List Var
bind_name vars x v = if is_variable vars x then replace vars (bound x v) else (vars ++ bound x v ∷ [])

abbrev pub bind_names : List Var → List NameId → List Value → List Var
bind_names vars (x ∷ xs) (v ∷ vs) = bind_names (bind_name vars x v) xs vs
bind_names vars xs vs = vars

abbrev pub passes : (Var → Bool) → Option Var → Bool
passes test None = false
passes test (Some v) = test v

abbrev pub is_live_linear : Var → Bool
is_live_linear v = is_linear v.origin && not v.consumed

abbrev pub is_held_var : Var → Bool
is_held_var v = is_held v.origin

-- a Linear value is overwritten where the names are bound in turn
abbrev pub overwrites_linear : List Var → List NameId → List Value → Bool
overwrites_linear vars [] vs = false
overwrites_linear vars (x ∷ xs) [] = passes is_live_linear (find_var vars (variable x)) || overwrites_linear vars xs []
overwrites_linear vars (x ∷ xs) (v ∷ vs) = passes is_live_linear (find_var vars (variable x)) || overwrites_linear (bind_name vars x v) xs vs

abbrev pub any_name : (NameId → Bool) → List NameId → Bool
any_name test [] = false
any_name test (x ∷ xs) = test x || any_name test xs

abbrev pub assigned : Scope → Spot → List NameId → List Value → Check (Unit {0})
assigned sc s xs vs = do
  vars ← variables
  rules s ((any_name (λ x. is_some (value_of sc.statics x)) xs, name_taken)
      ∷ (any_name (λ x. passes is_held_var (find_var vars (variable x))) xs, held_changed)
      ∷ (any_name (λ x. is_in_condition sc.held (variable x)) xs, condition_changed)
      ∷ (overwrites_linear vars xs vs, linear_left)
      ∷ (not (length xs == length vs), result_count) ∷ [])
  put_variables (bind_names vars xs vs)

-- ---- assignments and updates

-- a target in reach: its part, its variable and the part's type
pub record Target : Type 0 where
  pub part : Part
  pub owner : Var
  pub ty : Ty

abbrev pub target_type : Spot → Part → Var → Option Ty → Check Target
target_type s p v None = fail (rule bad_part s)
target_type s p v (Some t) = give_back (record { part = p; owner = v; ty = t })

-- a static name is no target: `other` is the rule that it breaks
abbrev pub target_of : Spot → ℕ → Part → Option Var → Check Target
target_of s other p None = fail (rule other s)
target_of s other p (Some v) = rules s ((v.consumed, used_after_move) ∷ []) >> target_type s p v (part_type v.ty.classical v.ty.shape (indices p))

abbrev pub target : Scope → Place → Spot → ℕ → Check Target
target sc place s other = do
  values ← all_needed (place_indices place) sc
  vars ← variables
  rules s ((not (is_known_name sc vars (place_name place)), unknown_name) ∷ [])
  target_of s other (part_at (place_name place) values) (find_var vars (variable (place_name place)))

abbrev pub assign_name : Scope → NameId → Expression → Spot → Check (Unit {0})
assign_name sc x e s = do
  vs ← expr e sc (lone_need e needs.Consumed) []
  rules (at e) ((is_tuple e, wrong_type) ∷ [])
  assigned sc s (x ∷ []) vs

-- the part taken out as a variable of its own, with a new place
abbrev pub taken_out : Target → ℕ → Var
taken_out t p = record { part = t.part; ty = t.ty; origin = t.owner.origin; place = p; consumed = t.owner.consumed }

abbrev pub consumed_there : List Var → Part → Bool
consumed_there vars p = passes (λ (v : Var). v.consumed) (find_var vars p)

-- the variable with this part is Linear from here on
abbrev pub made_linear : List Var → Part → List Var
made_linear [] p = []
made_linear (v ∷ vs) p = if same_part v.part p then record v { origin = Linear } ∷ vs else (v ∷ made_linear vs p)

abbrev pub with_origin : Bool → List Var → Part → List Var
with_origin linear vars p = if linear then made_linear vars p else vars

-- one value has the type that is asked
abbrev pub one_suits : Expression → Ty → List Value → Check (Unit {0})
one_suits e t (v ∷ []) = suits e (t ∷ []) v
one_suits e t vs = pass

abbrev pub all_at : ℕ → List Value → Bool
all_at p [] = true
all_at p (v ∷ vs) = (v.place == p) && all_at p vs

abbrev pub assign_part : Scope → Place → Expression → Spot → Check (Unit {0})
assign_part sc place e s = do
  t ← target sc place s bad_part
  vars ← variables
  p ← new_place
  put_variables (vars ++ taken_out t p ∷ [])
  vs ← expr e sc (lone_need e needs.Consumed) []
  rules (at e) ((is_tuple e, wrong_type) ∷ [])
  one_suits e t.ty vs
  after ← variables
  rules s ((is_held t.owner.origin, held_changed)
      ∷ (is_in_condition sc.held t.part, condition_changed)
      ∷ (not (length vs == 1), result_count)
      ∷ (not (consumed_there after t.part && all_at p vs), bad_part) ∷ [])
  put_variables (with_origin (some_linear vs) (take (length vars) after) t.owner.part)

abbrev pub assign_to : Scope → Place → Expression → Spot → Check (Unit {0})
assign_to sc (whole x) e s = assign_name sc x e s
assign_to sc (part x i) e s = assign_part sc (part x i) e s
assign_to sc (part_of_part x i j) e s = assign_part sc (part_of_part x i j) e s

abbrev pub needs_number : UpdateOp → Bool
needs_number Xor = false
needs_number op = true

abbrev pub has_name : NameId → List (NameId × Spot) → Bool
has_name x [] = false
has_name x (n ∷ ns) = same_name n.0 x || has_name x ns

-- the rule that the update of a static name breaks
abbrev pub static_updated : Place → ℕ
static_updated (whole x) = bad_update
static_updated _ = bad_part

-- the target may be consumed by the right side
abbrev pub update_part : Scope → Place → UpdateOp → Expression → Spot → Check (Unit {0})
update_part sc place op e s = do
  t ← target sc place s (static_updated place)
  vs ← expr e sc needs.Held (lone_wants e (t.ty ∷ []))
  v ← single e vs
  rules (at e) ((not (shape_eq t.ty.shape v.ty.shape), wrong_type) ∷ [])
  after ← variables
  rules s ((consumed_there after t.owner.part, used_after_move)
      ∷ (is_held t.owner.origin, held_changed)
      ∷ (is_in_condition sc.held t.part, condition_changed)
      ∷ (t.ty.classical || has_name (place_name place) (names e) || (needs_number op && not (is_number t.ty.shape)), bad_update) ∷ [])

-- ---- forget and phase

abbrev pub end_var : Var → Check (Unit {0})
end_var v = λ c. put_variables (replace c.vars (record v { consumed = true })) c

abbrev pub is_droppable : Origin → Bool
is_droppable Lifted = true
is_droppable Classical = true
is_droppable o = false

abbrev pub forget_name : Scope → NameId → Spot → Check (Unit {0})
forget_name sc x s = do
  t ← target sc (whole x) s not_droppable
  rules s ((is_held t.owner.origin, held_changed)
      ∷ (is_in_condition sc.held t.part, condition_changed)
      ∷ (not (is_droppable t.owner.origin), not_droppable) ∷ [])
  end_var t.owner

abbrev pub forget_as : Scope → NameId → Expression → Spot → Check (Unit {0})
forget_as sc x e s = do
  t ← target sc (whole x) s bad_forget
  vs ← expr e sc needs.Held (lone_wants e (t.ty ∷ []))
  v ← single e vs
  after ← variables
  rules s ((consumed_there after t.owner.part, used_after_move)
      ∷ (is_held t.owner.origin, held_changed)
      ∷ (is_in_condition sc.held t.part, condition_changed)
      ∷ (t.ty.classical || has_name x (names e) || not (shape_eq t.ty.shape v.ty.shape), bad_forget) ∷ [])
  end_var t.owner

abbrev pub angle_rule : Spot → Result ℕ AngleFault → Check (Unit {0})
angle_rule s (Ok k) = pass
angle_rule s (Err angles.NotEighth) = fail (unsupported Angle s)
angle_rule s (Err (angles.Static f)) = fail (rule not_static s)

abbrev pub phase_of : Scope → Expression → Spot → Check (Unit {0})
phase_of sc e s = do
  known_names sc e
  angle_rule (at e) (angle_of sc.statics e)
  rules s ((is_qfree sc.this.mark, against_mark) ∷ [])

-- ---- returned values

-- one value takes the type of the first result
abbrev pub first_type : List Ty → List Ty
first_type [] = []
first_type (t ∷ ts) = t ∷ []

abbrev pub returned_one : Expression → Scope → Check (List Value)
returned_one e sc = do
  vs ← expr e sc needs.Consumed (first_type sc.results)
  v ← single e vs
  suits e (first_type sc.results) v
  give_back (v ∷ [])

-- the items of a tuple take the types of the results in turn
abbrev pub returned : Expression → Scope → Check (List Value)
returned e sc = if is_tuple e then expr e sc needs.Consumed sc.results else returned_one e sc

-- ---- ends of blocks

-- no Linear value is left
abbrev pub none_left : List Var → Spot → Check (Unit {0})
none_left [] s = pass
none_left (v ∷ vs) s = rules s ((is_live_linear v, linear_left) ∷ []) >> none_left vs s

-- the variables from the n-th on end
abbrev pub end_from : ℕ → Spot → Check (Unit {0})
end_from n s = λ c. (none_left (drop n c.vars) s >> put_variables (take n c.vars)) c

abbrev pub plain_block : Check (Unit {0}) → Spot → Check (Unit {0})
plain_block inner s = do
  vars ← variables
  inner
  end_from (length vars) s

-- what a branch did to an outer variable
abbrev pub is_changed : Var → Var → Bool
is_changed before after =
    (after.consumed && not before.consumed) || not (ty_eq before.ty after.ty) || not (before.place == after.place)

abbrev pub none_changed : List Var → List Var → Spot → Check (Unit {0})
none_changed (b ∷ bs) (a ∷ rest) s = rules s ((is_changed b a, outer_changed) ∷ []) >> none_changed bs rest s
none_changed bs rest s = pass

abbrev pub branch : Check (Unit {0}) → Spot → Check (Unit {0})
branch inner s = do
  before ← variables
  inner
  after ← variables
  none_changed before after s
  end_from (length before) s

-- an outer variable is Linear where at least one of the branches left it Linear
abbrev pub joined : List Var → List Var → List Var
joined (a ∷ rest) (b ∷ bs) = (if is_linear a.origin then record b { origin = Linear } else b) ∷ joined rest bs
joined rest bs = []

-- both branches begin with the variables as they stand here
abbrev pub both : Check (Unit {0}) → Check (Unit {0}) → Check (Unit {0})
both first second = do
  start ← variables
  first
  one ← variables
  put_variables start
  second
  other ← variables
  put_variables (joined one other)

-- ---- choices and loops

abbrev pub under : Scope → List Part → Scope
under sc ps = record sc { held = sc.held ++ ps ∷ [] }

abbrev pub with_static : Scope → NameId → ℤ → Scope
with_static sc x v = record sc { statics = sc.statics ++ (x, v) ∷ [] }

abbrev pub chosen : ℤ → Check (Unit {0}) → Check (Unit {0}) → Check (Unit {0})
chosen z first second = if is_true z then first else second

-- the condition's value, and then the parts that it names
abbrev pub condition : Scope → Expression → Check (List Part)
condition sc e = do
  vs ← expr e sc needs.Held []
  v ← single e vs
  rules (at e) ((not (is_bit v.ty.shape), wrong_type) ∷ [])
  vars ← variables
  give_back (parts_of (uses e sc vars needs.Held))

abbrev pub rounds : (ℤ → Check (Unit {0})) → ℤ → ℕ → Check (Unit {0})
rounds body low zero = pass
rounds body low (suc n) = body low >> rounds body (low +ℤ pos 1) n

abbrev pub is_static_param : Scope → NameId → Bool
is_static_param sc x = any_name (λ y. same_name y x) sc.this.statics

-- ---- the walk

-- a choice behind `else` is a block of this one statement, which ends where the choice's last block ends
abbrev mutual
  pub otherwise_end : Otherwise → Spot
  otherwise_end (else_block (block ss end)) = end
  otherwise_end (else_choice st) = choice_end st

  pub choice_end : Statement → Spot
  choice_end (choice e b other s) = otherwise_end other
  choice_end (assign p e s) = s
  choice_end (spread xs e s) = s
  choice_end (update p op e s) = s
  choice_end (forget x s) = s
  choice_end (forget_value x e s) = s
  choice_end (phase e s) = s
  choice_end (loop x low high b s) = s
  choice_end (return_nothing s) = s
  choice_end (return_value e s) = s
  choice_end (call e s) = s

abbrev mutual
  pub stmt : Statement → Scope → Check (Unit {0})
  stmt (assign p e s) sc = count_statement >> assign_to sc p e s
  stmt (spread xs e s) sc = count_statement >> (expr e sc needs.Consumed [] >>= assigned sc s xs)
  stmt (update p op e s) sc = count_statement >> update_part sc p op e s
  stmt (forget x s) sc = count_statement >> forget_name sc x s
  stmt (forget_value x e s) sc = count_statement >> forget_as sc x e s
  stmt (phase e s) sc = count_statement >> phase_of sc e s
  stmt (return_nothing s) sc = count_statement >> fail (rule bad_return s)
  stmt (return_value e s) sc = count_statement >> (returned e sc >> fail (rule bad_return s))
  stmt (call e s) sc = count_statement >> (expr e sc needs.Consumed [] >>= (λ vs. rules s ((not (is_empty vs), result_count) ∷ [])))
  stmt (choice e (block ss end) other s) sc =
      count_statement >>
      (if is_static sc.statics e then
      (of_result (needed_at sc.statics e (at e)) >>= (λ z. chosen z (plain_block (stmts ss sc) end) (plain_block (otherwise other sc) (otherwise_end other))))
      else (condition sc e >>= (λ ps. both (branch (stmts ss (under sc ps)) end) (branch (otherwise other (under sc ps)) (otherwise_end other)))))
  stmt (loop x low high (block ss end) s) sc = do
    count_statement
    a ← needed sc low
    b ← needed sc high
    vars ← variables
    rules s ((is_variable vars x || is_static_param sc x, name_taken) ∷ [])
    rounds (λ v. plain_block (stmts ss (with_static sc x v)) end) a (distance (b -ℤ a))

  pub otherwise : Otherwise → Scope → Check (Unit {0})
  otherwise (else_block (block ss end)) sc = stmts ss sc
  otherwise (else_choice st) sc = stmt st sc

  pub stmts : Statements → Scope → Check (Unit {0})
  stmts done sc = pass
  stmts (next st rest) sc = stmt st sc >> stmts rest sc

abbrev pub ended_with : Scope → Spot → List Value → Check (Option (List Value))
ended_with sc s vs = do
  rules s ((not (length vs == length sc.results), bad_return) ∷ [])
  give_back (Some vs)

-- the statements of a function, of which the last may return
abbrev pub body : Statements → Scope → Check (Option (List Value))
body done sc = give_back None
body (next (return_nothing s) done) sc = count_statement >> ended_with sc s []
body (next (return_value e s) done) sc = count_statement >> (returned e sc >>= ended_with sc s)
body (next st rest) sc = stmt st sc >> body rest sc

abbrev pub results_or_fault : Spot → List Ty → Option (List Value) → Check (List Value)
results_or_fault s [] None = give_back []
results_or_fault s (t ∷ ts) None = fail (rule bad_return s)
results_or_fault s ts (Some vs) = give_back vs

abbrev pub whole_body : Block → Scope → Check (List Value)
whole_body (block ss end) sc = do
  found ← body ss sc
  end_from 0 end
  results_or_fault end sc.results found
