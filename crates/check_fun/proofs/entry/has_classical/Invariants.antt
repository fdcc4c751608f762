use Rattle.std.proofs.Common.{◌≡◌, drop, map}
use Rattle.silq_tree.specs.declared.node.ExprId.{ExprId as Expressed}
use Rattle.silq_tree.specs.Standing.{param_of}
use Rattle.silq_tree.specs.Syntax.{Expression}
use Rattle.check_fun.specs.Program.{has_classical as one_classical}
use Rattle.check_fun.proofs.entry.has_classical.Given as goal

-- the rest tells
abbrev pub invariant-loop-param : goal.invariant-loop-param
invariant-loop-param l = (at : Expressed → Expression) → one_classical (map (param_of at) l.params) ≡ one_classical (map (param_of at) (drop l.param-index l.params))
