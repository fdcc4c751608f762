-- The measure of the functions that check statements and instances: the open instances that may come, and then where the code stands.
use Rattle.std.specs.Prelude.{◌≡◌, ℕ, ◌+◌, ◌-◌, ◌*◌, ◌<◌, ◌≤◌}
use Rattle.std.proofs.Common.{arith}
use Rattle.check_fun.proofs.BlockLevels.{level}
use mathlib.Core.Path.{sym, ap, ◌∙◌, subst}

one_more : (m w : ℕ) → (m + 1) * w ≡ m * w + w
one_more m w = grind arith

-- one more instance is open
pub level_deeper : (d e n j k : ℕ) → e ≡ d + 1 → e ≤ 64 → j < 8 * n + 16 → level e n j < level d n k
unfolding level
level_deeper d e n j k is le less =
    let rest : 64 - d ≡ (64 - e) + 1 = omega (arith, is, le) in
    let more : (64 - d) * (8 * n + 16) ≡ (64 - e) * (8 * n + 16) + (8 * n + 16) = ap (λ x. x * (8 * n + 16)) rest ∙ one_more (64 - e) (8 * n + 16) in
    subst (λ x. (64 - e) * (8 * n + 16) + j < x + k) (sym more) (omega (arith, less))
