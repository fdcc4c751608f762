use Rattle.std.proofs.Common.{◌∙◌, ap}
use Rattle.silq_tree.specs.Arena.{expr_at}
use Rattle.tree_walk.specs.Written.{type_by}
use Rattle.tree_walk.proofs.WrittenTypes.{type_is}
use Rattle.tree_walk.proofs.written.type_of.Goals as goal

pub returns-in-Some : goal.returns-in-Some
returns-in-Some c = ap (λ h. type_by c.args.ty.classical h) c.in-Some.ensures ∙ type_is c.args.statics.now (expr_at c.args.tree.now) c.args.ty

pub returns-in-None : goal.returns-in-None
returns-in-None c = ap (λ h. type_by c.args.ty.classical h) c.in-None.ensures ∙ type_is c.args.statics.now (expr_at c.args.tree.now) c.args.ty
