-- The laws of the rows.
use Rattle.std.proofs.Common.{List, ◌++◌, length}
use Rattle.flat_core.proofs.Labels.{label_after-none}
use Rattle.bit_arith.specs.declared.operand.Operand.{Operand}
use Rattle.bit_arith.specs.Built.{Built, Setting}
use Rattle.bit_arith.specs.Calls.{Targets, AllSafe, no_target}
use Rattle.bit_arith.specs.Laws.{CanRead, FlipsWhereAllHold, CopiesBits, FlipsEach, BothIsAnd, EitherIsOr, EqualTellsSame, LessTellsOrder, CarryCarries, SumAdds, DifferenceSubtracts, ProductMultiplies, AddIntoAdds, SubIntoSubtracts, TurnTurns, ConjunctionTellsAll, HadSplits, MeasureMeasures, FlipsKeepOneTerm, GrowthKeeps, DraftsAreFresh, NumbersTell}
use Rattle.bit_arith.proofs.Steps.{after_kept}
use Rattle.bit_arith.proofs.Doing.{Guards, grows_fresh, grows_clean}
use Rattle.bit_arith.proofs.Tidying.{flip_does}
use Rattle.bit_arith.proofs.Listed.{guards_under, rest_under}
use Rattle.bit_arith.proofs.Making.{copy_does, flip_each_does, both_does, either_does}
use Rattle.bit_arith.proofs.Carrying.{carry_bits_do, sum_does, difference_does, add_into_does, sub_into_does}
use Rattle.bit_arith.proofs.Orders.{same_bits_numbers}
use Rattle.bit_arith.proofs.Adder.{number_below, low_number, number_low}
use Rattle.bit_arith.proofs.Tests.{safe_left, safe_right, equal_does, less_does}
use Rattle.bit_arith.proofs.Multiples.{product_does}
use Rattle.bit_arith.proofs.Phases.{flips_one, turn_does, conjunction_is}
use Rattle.bit_arith.proofs.Halves.{had_does, measure_does}

module _ {at : Setting} {b : Built} {T : Targets} {ps : List Operand} (r : CanRead at b T ps) where
  guards : Guards at (length b.draft.wires) T
  guards = guards_under (length b.draft.wires) T at ps r.safe

  operands : AllSafe (length b.draft.wires) T ps
  operands = rest_under (length b.draft.wires) T at ps r.safe

left : {at : Setting} {b : Built} (ps qs : List Operand) → CanRead at b no_target (ps ++ qs) → AllSafe (length b.draft.wires) no_target ps
left {b = b} ps qs r = safe_left (length b.draft.wires) no_target ps qs (operands r)

right : {at : Setting} {b : Built} (ps qs : List Operand) → CanRead at b no_target (ps ++ qs) → AllSafe (length b.draft.wires) no_target qs
right {b = b} ps qs r = safe_right (length b.draft.wires) no_target ps qs (operands r)

pub flips_where_all_hold : FlipsWhereAllHold
flips_where_all_hold at w ps b r lt = flip_does at w ps b r.fresh lt r.safe

pub copies_bits : CopiesBits
copies_bits at ps b r = copy_does at ps b r.fresh (guards r) (operands r)

pub flips_each : FlipsEach
flips_each at ws ps b r t = flip_each_does at ws ps b r.fresh t.lengths t.there t.different (guards r) (operands r)

pub both_is_and : BothIsAnd
both_is_and at p q b r = both_does at p q b r.fresh (guards r) (operands r)

pub either_is_or : EitherIsOr
either_is_or at p q b r = either_does at p q b r.fresh (guards r) (operands r)

pub equal_tells_same : EqualTellsSame
equal_tells_same at ps qs b r e = equal_does at ps qs b r.fresh e (guards r) (left ps qs r) (right ps qs r)

pub less_tells_order : LessTellsOrder
less_tells_order at with_sign ps qs b r e = less_does at with_sign ps qs b r.fresh e (guards r) (left ps qs r) (right ps qs r)

pub carry_carries : CarryCarries
carry_carries at ps qs b r e = carry_bits_do at ps qs b r.fresh e (guards r) (left ps qs r) (right ps qs r)

pub sum_adds : SumAdds
sum_adds at ps qs b r e = sum_does at ps qs b r.fresh e (guards r) (left ps qs r) (right ps qs r)

pub difference_subtracts : DifferenceSubtracts
difference_subtracts at ps qs b r e = difference_does at ps qs b r.fresh e (guards r) (left ps qs r) (right ps qs r)

pub product_multiplies : ProductMultiplies
product_multiplies at ps qs b r e = product_does at ps qs b r.fresh e (guards r) (left ps qs r) (right ps qs r)

pub add_into_adds : AddIntoAdds
add_into_adds at ws qs b r t = add_into_does at ws qs b r.fresh t.lengths t.there t.different (guards r) (operands r)

pub sub_into_subtracts : SubIntoSubtracts
sub_into_subtracts at ws qs b r t = sub_into_does at ws qs b r.fresh t.lengths t.there t.different (guards r) (operands r)

pub turn_turns : TurnTurns
turn_turns at k ps b r = turn_does at k ps b r.fresh r.safe

pub conjunction_tells_all : ConjunctionTellsAll
conjunction_tells_all at ps b f s = conjunction_is at ps b f s

pub had_splits : HadSplits
had_splits at w b lt = had_does at w b lt

pub measure_measures : MeasureMeasures
measure_measures at w b = measure_does at w b

pub flips_keep_one_term : FlipsKeepOneTerm
flips_keep_one_term outcome steps t h = flips_one outcome steps t h

pub growth_keeps : GrowthKeeps
growth_keeps d e T new g = record {
  values = λ v w h. after_kept new v w h;
  fresh = λ f. grows_fresh g f;
  clean = λ v c. grows_clean g v c;
}

pub drafts_are_fresh : DraftsAreFresh
drafts_are_fresh d s w le = label_after-none d.steps (length d.wires) (λ k lt. (s.steps_follow k lt).there) w le

pub numbers_tell : NumbersTell
numbers_tell = record { below = number_below; low = low_number; number_is = number_low; same = same_bits_numbers }
