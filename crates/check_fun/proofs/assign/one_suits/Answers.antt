use Rattle.std.proofs.Common.{sym, subst, arith, get_or}
use Rattle.std.specs.Prelude.{OnOk, IfErr}
use Rattle.silq_tree.specs.Arena.{expr_at}
use Rattle.silq_types.specs.declared.values.Value.{Value}
use Rattle.check_scope.specs.Context.{Check}
use Rattle.check_fun.specs.Counting.{Runs, Fails}
use Rattle.check_fun.proofs.PuttingBack.{suits_only}
use Rattle.check_fun.proofs.assign.one_suits.Goals as goal

pub returns-in-len1-clause-runs : goal.returns-in-len1-clause-runs
returns-in-len1-clause-runs c = λ check s cs. subst (λ (m : Check (Unit {0})). OnOk c.suits_now.result (Runs check m s cs tt s cs)) (sym (suits_only (expr_at c.args.library.now.nodes c.args.e) c.args.ty c.args.values.now _ (omega arith) (omega arith))) (c.suits_now.ensures.runs check s cs)

pub returns-in-len1-clause-fails : goal.returns-in-len1-clause-fails
returns-in-len1-clause-fails c = λ check s cs. subst (λ (m : Check (Unit {0})). IfErr c.suits_now.result (λ f. Fails check m s cs f)) (sym (suits_only (expr_at c.args.library.now.nodes c.args.e) c.args.ty c.args.values.now _ (omega arith) (omega arith))) (c.suits_now.ensures.fails check s cs)
