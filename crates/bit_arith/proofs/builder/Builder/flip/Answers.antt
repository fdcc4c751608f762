use Rattle.std.proofs.Common.{length, refl, sym, subst}
use Rattle.flat_core.specs.Label.{same_wire}
use Rattle.bit_arith.specs.Built.{under_condition}
use Rattle.bit_arith.specs.Calls.{Building, AllSafe, no_target}
use Rattle.bit_arith.proofs.Grows.{all_safe_fewer}
use Rattle.bit_arith.proofs.Fits.{literals_at}
use Rattle.bit_arith.proofs.builder.Builder.flip.Goals as goal

pub literals-requires : goal.literals-requires
literals-requires c =
    let n = length c.args.self.now.draft.wires in
    let safe : AllSafe n (same_wire c.args.w) (under_condition c.self.inside.condition c.args.list.now) =
    subst (λ (b : Building). AllSafe n (same_wire c.args.w) (under_condition b.setting.condition c.args.list.now)) (sym c.self.view_is) c.requires.safe in
    all_safe_fewer n (same_wire c.args.w) no_target (under_condition c.self.inside.condition c.args.list.now) (λ w there free. refl) safe

pub flip_under-requires-clause-fit : goal.flip_under-requires-clause-fit
flip_under-requires-clause-fit c =
    let n = length c.args.self.now.draft.wires in
    let ps = under_condition c.self.inside.condition c.args.list.now in
    let safe : AllSafe n (same_wire c.args.w) ps =
    subst (λ (b : Building). AllSafe n (same_wire c.args.w) (under_condition b.setting.condition c.args.list.now)) (sym c.self.view_is) c.requires.safe in
    rw c.as_slice.ensures.value (literals_at c.args.self.now.draft (same_wire c.args.w) ps c.in-Some.lits.items safe (rw c.in-Some.is at c.in_ok-literals.ensures))
