use Rattle.std.proofs.Common.{◌≡◌, length, length-set, true, slice_get, Option, Some, None, IsSome, Contains, Bor, arith, refl, sym, ap, ◌∙◌, subst}
use Rattle.std.specs.Option.{option_copied}
use Rattle.flat_core.specs.declared.step.WireId.{WireId}
use Rattle.graph_core.proofs.Places.{some_at, contains_at}
use Rattle.reqomp.specs.Simple.{simple_wires}
use Rattle.reqomp.proofs.Marking.{few_simple, simple_there, sixteenths_fit, sixteenths_within, flags_more}
use Rattle.reqomp.proofs.marked.marks_at.Goals as goal

is_there : (o : Option (Bor WireId)) (w : WireId) → option_copied o ≡ Some w → IsSome o
is_there None w e = cc
is_there (Some x) w e = refl

pub overflow_mul-count : goal.overflow_mul-count
overflow_mul-count c =
    let few = few_simple c.args.flat.now c.steps-steps.ensures.sound in
    let e : c.len.result ≡ length (simple_wires c.args.flat.now) = c.len.ensures ∙ ap length c.requires.simple in
    let p = sixteenths_fit c.len.result c.args.level (omega arith) c.requires.within in
    omega (arith, p)

pub overflow_add-count : goal.overflow_add-count
overflow_add-count c =
    let few = few_simple c.args.flat.now c.steps-steps.ensures.sound in
    let e : c.len.result ≡ length (simple_wires c.args.flat.now) = c.len.ensures ∙ ap length c.requires.simple in
    let p = sixteenths_fit c.len.result c.args.level (omega arith) c.requires.within in
    omega (arith, p)

pub unwrap-w-requires : goal.unwrap-w-requires
unwrap-w-requires c =
    let p = sixteenths_within c.len.result c.args.level c.requires.within in
    let e = c.len.ensures in
    let at = some_at c.args.simple.now c.loop-i.i (omega (arith, p)) in
    is_there c.get.result at.0 (c.get.ensures ∙ at.1)

pub index_mut-requires : goal.index_mut-requires
index_mut-requires c =
    let at : slice_get c.args.simple.now c.loop-i.i ≡ Some c.unwrap-w.result.now = sym c.get.ensures ∙ ap option_copied c.unwrap-w.ensures in
    let there = simple_there c.args.flat.now c.steps-steps.ensures.sound c.unwrap-w.result.now (subst (λ l. Contains l c.unwrap-w.result.now) c.requires.simple (contains_at c.args.simple.now c.loop-i.i c.unwrap-w.result.now at)) in
    let many = c.loop-i.invariant.as_many in
    omega (arith, c.loop-i.flags.ok)

pub loop-i-preserved : goal.loop-i-preserved
loop-i-preserved c =
    let at : slice_get c.args.simple.now c.loop-i.i ≡ Some c.unwrap-w.result.now = sym c.get.ensures ∙ ap option_copied c.unwrap-w.ensures in
    let there = simple_there c.args.flat.now c.steps-steps.ensures.sound c.unwrap-w.result.now (subst (λ l. Contains l c.unwrap-w.result.now) c.requires.simple (contains_at c.args.simple.now c.loop-i.i c.unwrap-w.result.now at)) in
    let many = c.loop-i.invariant.as_many in
    record {
      as_many = length-set c.loop-i.flags.items c.unwrap-w.result.now.number true ∙ many;
      told = flags_more c.loop-i.flags.items c.args.simple.now c.loop-i.i c.unwrap-w.result.now at (omega arith) c.loop-i.invariant.told;
    }

pub jumps_of-requires : goal.jumps_of-requires
jumps_of-requires c = record { as_many = ap length c.deref.ensures.value ∙ c.loop-i.invariant.as_many }
