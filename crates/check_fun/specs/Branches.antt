-- The parts of choices and loops.
use Rattle.std.specs.Prelude.{Bool, if◌then◌else◌, List, length, ℤ}
use Rattle.silq_tree.specs.declared.node.NameId.{NameId}
use Rattle.silq_tree.specs.declared.node.Spot.{Spot}
use Rattle.silq_tree.specs.Syntax.{Expression, Block, block, Otherwise}
use Rattle.silq_types.specs.declared.values.Origin.TheVariants.{Linear}
use Rattle.silq_types.specs.declared.values.Var.{Var}
use Rattle.silq_types.specs.Types.{is_linear}
use Rattle.check_scope.specs.Context.{Scope, Check, ◌>>=◌, ◌>>◌}
use Rattle.check_fun.specs.Statement.{none_changed, end_from, condition, both, branch, under, with_static, plain_block, stmts, otherwise, otherwise_end}

-- a branch that began with the variables `before` and comes to its end with `after`
abbrev pub ended_branch : List Var → List Var → Spot → Check (Unit {0})
ended_branch before after s = none_changed before after s >> end_from (length before) s

-- an outer variable after both branches
abbrev pub joined_one : Var → Var → Var
joined_one a b = if is_linear a.origin then record b { origin = Linear } else b

-- a choice whose condition is not static
abbrev pub run_time_choice : Scope → Expression → Block → Otherwise → Check (Unit {0})
run_time_choice sc e (block ss end) other = condition sc e >>= (λ ps. both (branch (stmts ss (under sc ps)) end) (branch (otherwise other (under sc ps)) (otherwise_end other)))

-- the branch of a static choice that is taken
abbrev pub taken_branch : Scope → Bool → Block → Otherwise → Check (Unit {0})
taken_branch sc b (block ss end) other = if b then plain_block (stmts ss sc) end else plain_block (otherwise other sc) (otherwise_end other)

-- one round of a loop
abbrev pub round_of : Scope → NameId → Block → ℤ → Check (Unit {0})
round_of sc x (block ss end) v = plain_block (stmts ss (with_static sc x v)) end
