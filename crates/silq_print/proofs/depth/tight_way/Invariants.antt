use Rattle.std.proofs.Common.{◌≡◌, ℕ, ◌<◌, ◌≤◌, false, nat_eq, get_or}
use Rattle.silq_print.proofs.depth.tight_way.Given as goal

-- none of those before is the least
abbrev pub invariant-loop-signs : goal.invariant-loop-signs
invariant-loop-signs l = ((r : ℕ) → 1 ≤ r → r < l.signs → nat_eq (get_or l.depths r 0) l.low ≡ false) × (1 ≤ l.signs)
