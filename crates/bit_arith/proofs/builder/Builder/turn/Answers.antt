use Rattle.std.proofs.Common.{length, sym, subst}
use Rattle.bit_arith.specs.Built.{under_condition}
use Rattle.bit_arith.specs.Calls.{Building, AllSafe, no_target}
use Rattle.bit_arith.proofs.Fits.{literals_at}
use Rattle.bit_arith.proofs.builder.Builder.turn.Goals as goal

pub turn_under-requires-clause-fit : goal.turn_under-requires-clause-fit
turn_under-requires-clause-fit c =
    let n = length c.args.self.now.draft.wires in
    let ps = under_condition c.self.inside.condition c.args.list.now in
    let safe : AllSafe n no_target ps =
    subst (λ (b : Building). AllSafe n no_target (under_condition b.setting.condition c.args.list.now)) (sym c.self.view_is) c.requires.safe in
    rw c.as_slice.ensures.value (literals_at c.args.self.now.draft no_target ps c.in-Some.lits.items safe (rw c.in-Some.is at c.in_ok-literals.ensures))
