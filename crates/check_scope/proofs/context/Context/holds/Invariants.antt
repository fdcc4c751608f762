use Rattle.std.proofs.Common.{◌≡◌, drop}
use Rattle.check_scope.specs.Context.{is_in_condition}
use Rattle.check_scope.proofs.context.Context.holds.Given as goal

-- the rest tells
abbrev pub invariant-loop-parts : goal.invariant-loop-parts
invariant-loop-parts l = is_in_condition (drop l.parts-index l.self.held) l.part ≡ is_in_condition l.self.held l.part
