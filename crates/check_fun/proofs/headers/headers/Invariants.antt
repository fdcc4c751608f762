use Rattle.std.proofs.Common.{◌≡◌, drop, [], List}
use Rattle.silq_tree.specs.declared.node.NameId.{NameId as Named}
use Rattle.check_scope.specs.Library.{functions_of}
use Rattle.check_fun.specs.Program.{all_headers}
use Rattle.check_fun.proofs.Taken.{Agree}
use Rattle.check_fun.proofs.headers.headers.Given as goal

abbrev pub invariant-loop-fun : goal.invariant-loop-fun
invariant-loop-fun l = (earlier : List Named) × Agree l.earlier earlier × (all_headers l.library.words [] (functions_of l.library) ≡ all_headers l.library.words earlier (drop l.fun (functions_of l.library)))
