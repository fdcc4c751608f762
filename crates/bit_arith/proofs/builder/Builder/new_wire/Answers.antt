use Rattle.std.proofs.Common.{ap, subst}
use Rattle.flat_core.specs.Drafts.{IsDraft}
use Rattle.bit_arith.specs.Calls.{Building}
use Rattle.bit_arith.proofs.Chained.{made_target}
use Rattle.bit_arith.proofs.builder.Builder.new_wire.Goals as goal

pub returns-clause-target : goal.returns-clause-target
returns-clause-target c =
    let sound : IsDraft c.args.self.now.draft = subst IsDraft (ap (λ (b : Building). b.draft) c.self.view_is) c.outcomes-outcomes.ensures.sound in
    made_target c.args.self.now c.wire.new.self c.wire.result sound c.wire.ensures.made
