use Rattle.std.proofs.Common.{◌≡◌, length, map, drop, ◌++◌}
use Rattle.silq_tree.specs.Arena.{expr_at}
use Rattle.silq_tree.specs.Standing.{param_of}
use Rattle.check_fun.specs.Program.{param_vars}
use Rattle.check_fun.proofs.params.add_params.Given as goal

-- the variables that are there, and those of the rest
abbrev pub invariant-loop-name : goal.invariant-loop-name
invariant-loop-name l =
    (l.cx ≡ record l.fn.cx { vars = l.cx.vars; start = l.cx.start; next = length l.yielded })
    × (l.cx.vars ++ param_vars (length l.yielded) (map (param_of (expr_at l.library.nodes)) (drop (length l.yielded) l.names)) (drop (length l.yielded) l.params)
    ≡ param_vars 0 (map (param_of (expr_at l.library.nodes)) l.names) l.params)
