use Rattle.std.proofs.Common.{◌≡◌, ◌≤◌, length, false, drop}
use Rattle.silq_tree.specs.declared.node.NameId.{NameId as Named}
use Rattle.silq_types.specs.Types.{same_name}
use Rattle.check_fun.specs.Program.{repeats}
use Rattle.check_fun.specs.Statement.{any_name}
use Rattle.check_fun.proofs.headers.distinct.Given as goal

abbrev pub invariant-names : goal.invariant-names
invariant-names l = (l.i ≤ length l.names) × (repeats (drop l.i l.names) ≡ false) × ((x : Named) → any_name (λ y. same_name y x) l.set ≡ any_name (λ y. same_name y x) (drop l.i l.names))

abbrev pub decreases-names : goal.decreases-names
decreases-names l = l.i
