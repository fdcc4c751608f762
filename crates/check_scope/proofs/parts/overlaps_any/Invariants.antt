use Rattle.std.proofs.Common.{◌≡◌, drop}
use Rattle.check_scope.specs.Context.{overlaps_any}
use Rattle.check_scope.proofs.parts.overlaps_any.Given as goal

-- the rest tells
abbrev pub invariant-loop-held : goal.invariant-loop-held
invariant-loop-held l = overlaps_any (drop l.held-index l.parts) l.part ≡ overlaps_any l.parts l.part
