-- The measure of the functions that check statements: the open instances that may come, and then where the statements lie.
use Rattle.std.specs.Prelude.{◌≡◌, refl, ℕ, ◌+◌, ◌-◌, ◌*◌, ◌<◌}
use Rattle.std.proofs.Common.{arith}
use mathlib.Core.Path.{subst}

unfoldable pub level : ℕ → ℕ → ℕ → ℕ
level depth stmts k = (64 - depth) * (8 * stmts + 16) + k

pub level_less : (d e n j k : ℕ) → d ≡ e → j < k → level d n j < level e n k
unfolding level
level_less d e n j k h l = subst (λ x. level d n j < level x n k) h (omega (arith, l))
