use Rattle.std.proofs.Common.{◌+◌, ◌≤◌, sym, subst, arith, rules}
use Rattle.move_plan.specs.Live.{live}
use Rattle.move_plan.specs.Track.{told}
use Rattle.move_plan.proofs.Counts.{count_after, count_wires-le, live_count-le}
use Rattle.move_plan.proofs.rows.live_after.Goals as goal

pub overflow_add-result : goal.overflow_add-result
overflow_add-result c =
    let few = c.requires.sound.few_wires in
    let all = count_wires-le c.args.flat.now (live c.args.flat.now (told c.args.track.now)) in
    let one : c.live_count.result ≤ 1 = subst (λ n. n ≤ 1) (sym c.live_count.ensures) (live_count-le c.args.flat.now (told c.apply.new.self) c.touched_wire-wire.result) in
    let fits : c.args.count + c.live_count.result ≤ 100001 = omega (arith, c.requires.before) in
    search rules

pub overflow_sub-result : goal.overflow_sub-result
overflow_sub-result c =
    let e = count_after c.args.flat.now c.requires.sound (told c.args.track.now) (told c.apply.new.self) c.args.mv c.touched_wire-wire.result c.args.count c.live_count-before.result c.live_count.result c.requires.stands c.apply.ensures.told c.touched_wire-wire.ensures c.requires.before c.live_count-before.ensures c.live_count.ensures in
    omega arith

pub returns-clause-after : goal.returns-clause-after
returns-clause-after c =
    let e = count_after c.args.flat.now c.requires.sound (told c.args.track.now) (told c.apply.new.self) c.args.mv c.touched_wire-wire.result c.args.count c.live_count-before.result c.live_count.result c.requires.stands c.apply.ensures.told c.touched_wire-wire.ensures c.requires.before c.live_count-before.ensures c.live_count.ensures in
    omega arith
