use Rattle.std.proofs.Common.{◌∙◌, ap, sym, ◌++◌, ◌∷◌, [], List, arith}
use Rattle.silq_tree.specs.declared.node.NameId.{NameId}
use Rattle.silq_tree.specs.Syntax.{Function}
use Rattle.check_scope.proofs.Named.{fun_below}
use Rattle.check_scope.proofs.FoundFunctions.{names_more}
use Rattle.check_scope.proofs.library.function_names.Goals as goal

pub fun-requires : goal.fun-requires
fun-requires c = fun_below _ _ c.loop-id.id-index _ c.requires (omega arith)

pub loop-id-preserved : goal.loop-id-preserved
loop-id-preserved c =
    let more = names_more c.args.tree.now c.args.funs.now c.loop-id.id-index _ c.fun.result.now.name (omega arith) (ap (λ (f : Function). f.name) c.fun.ensures.tree) in
    c.in_ok-push.ensures.ok ∙ ap (λ (ns : List NameId). ns ++ c.fun.result.now.name ∷ []) c.loop-id.invariant ∙ sym more
