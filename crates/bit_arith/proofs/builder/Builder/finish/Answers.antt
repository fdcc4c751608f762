use Rattle.std.proofs.Common.{subst, sym}
use Rattle.flat_core.specs.Drafts.{finished, FitsEnds}
use Rattle.flat_core.proofs.Finishes.{drafts_become_flat}
use Rattle.bit_arith.specs.Calls.{Building}
use Rattle.bit_arith.proofs.builder.Builder.finish.Goals as goal

pub finish-requires : goal.finish-requires
finish-requires c =
    drafts_become_flat c.self.inside.draft c.args.ins c.args.outs c.outcomes-outcomes.ensures.sound
    (subst (λ (b : Building). FitsEnds (finished b.draft c.args.ins c.args.outs)) (sym c.self.view_is) c.requires)
