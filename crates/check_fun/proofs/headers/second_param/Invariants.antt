use Rattle.std.proofs.Common.{◌≡◌, map, drop, [], List}
use Rattle.silq_tree.specs.declared.node.NameId.{NameId as Named}
use Rattle.silq_tree.specs.Arena.{expr_at}
use Rattle.silq_tree.specs.Standing.{param_of}
use Rattle.silq_types.specs.Types.{same_name}
use Rattle.check_fun.specs.Program.{param_names as names_of_params}
use Rattle.check_fun.specs.Statement.{any_name}
use Rattle.check_fun.proofs.headers.second_param.Given as goal

abbrev pub invariant-loop-param : goal.invariant-loop-param
invariant-loop-param l = (earlier : List Named) × ((x : Named) → any_name (λ y. same_name y x) l.taken ≡ any_name (λ y. same_name y x) earlier)
    × (names_of_params [] (map (param_of (expr_at l.library.nodes)) l.params) ≡ names_of_params earlier (map (param_of (expr_at l.library.nodes)) (drop l.param-index l.params)))
