use Rattle.std.proofs.Common.{◌≡◌, ◌++◌, drop, map}
use Rattle.tree_walk.proofs.written.param_names.Given as goal

-- what the items that are left give stands behind
abbrev pub invariant-loop-param : goal.invariant-loop-param
invariant-loop-param l = l.names ++ map (λ p. p.name) (drop l.param-index l.fn.params) ≡ map (λ p. p.name) l.fn.params
