use Rattle.std.proofs.Common.{◌≡◌, ℕ, ◌<◌, ◌≤◌, length, get_or}
use Rattle.silq_print.specs.Depths.{longer_at}
use Rattle.silq_print.proofs.depth.longer.Given as goal

-- up to this one they are there
abbrev pub invariant-loop-signs : goal.invariant-loop-signs
invariant-loop-signs l = ((s : ℕ) → s < l.signs → get_or l.depths s 0 ≡ longer_at l.lefts l.fn.right s) × (1 ≤ l.signs) × (length l.depths ≡ 65)
