-- The measure of the walk: the number of the function that it is in, and then where it stands in the arena.
use Rattle.std.specs.Prelude.{ℕ, ◌+◌, ◌*◌, ◌<◌}
use Rattle.std.proofs.Common.{arith}

unfoldable pub level : ℕ → ℕ → ℕ → ℕ → ℕ
level this exprs stmts k = this * (8 * exprs + 8 * stmts + 16) + k

pub level_less : (this exprs stmts j k : ℕ) → j < k → level this exprs stmts j < level this exprs stmts k
unfolding level
level_less this exprs stmts j k l = omega (arith, l)

far : (m n w j k : ℕ) → m < n → j < w → m * w + j < n * w + k
far m n w j k l h = grind arith

-- an earlier function
pub level_call : (m n exprs stmts j k : ℕ) → m < n → j < 8 * exprs + 8 * stmts + 16 → level m exprs stmts j < level n exprs stmts k
unfolding level
level_call m n exprs stmts j k l h = far m n (8 * exprs + 8 * stmts + 16) j k l h
