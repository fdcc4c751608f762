-- Rows worked on two numbers of two bits, 3 and 2, under a condition that holds or not.
use Rattle.std.proofs.Common.{◌≡◌, ℕ, Bool, true, false, List, [], ◌∷◌, Some, refl}
use Rattle.flat_core.specs.declared.step.End.TheVariants.{Dropped}
use Rattle.flat_core.specs.Form.{WireForm}
use Rattle.flat_core.specs.Label.{wire_id}
use Rattle.flat_core.specs.declared.step.WireId.{WireId}
use Rattle.flat_mean.specs.Row.{Row, bits_of}
use Rattle.bit_arith.specs.declared.operand.Operand.{Operand}
use Rattle.bit_arith.specs.Built.{Built, Setting, Given, begun, made, all_made}
use Rattle.bit_arith.specs.Rows.{flip, carry, sum, difference, product, add_into, sub_into, less, equal}
use Rattle.bit_arith.specs.Values.{bit_of, bits_at, values_at}
use Rattle.bit_arith.specs.Numbers.{number}
use Rattle.bit_arith.specs.Does.{after}

-- five inputs: two numbers, and the condition
abbrev input : WireForm
input = record { input = true; ending = Dropped }

abbrev start : Built
start = begun (record { wires = input ∷ input ∷ input ∷ input ∷ input ∷ []; steps = []; lines = [] })

abbrev three_wires : List WireId
three_wires = wire_id 0 ∷ wire_id 1 ∷ []

abbrev three : List Operand
three = all_made three_wires

abbrev two : List Operand
two = all_made (wire_id 2 ∷ wire_id 3 ∷ [])

abbrev where_set : Setting
where_set = record { line = 1; condition = Some (made (wire_id 4)) }

abbrev values : Bool → Row
values c = bits_of (true ∷ true ∷ false ∷ true ∷ c ∷ [])

abbrev shown : Given (List Operand) → Bool → ℕ
shown row c = number (bits_at (after row.built.draft.steps (values c)) row.answer)

abbrev told : Given Operand → Bool → Bool
told row c = bit_of (after row.built.draft.steps (values c)) row.answer

abbrev left_on : Built → Bool → ℕ
left_on row c = number (values_at (after row.draft.steps (values c)) three_wires)

sum_on : shown (sum where_set three two start) true ≡ 1
unfolding sum carry flip
sum_on = refl

sum_off : shown (sum where_set three two start) false ≡ 0
unfolding sum carry flip
sum_off = refl

difference_on : shown (difference where_set two three start) true ≡ 3
unfolding difference carry flip
difference_on = refl

product_on : shown (product where_set three two start) true ≡ 2
unfolding product add_into carry flip
product_on = refl

add_on : left_on (add_into where_set three_wires two start) true ≡ 1
unfolding add_into carry flip
add_on = refl

add_off : left_on (add_into where_set three_wires two start) false ≡ 3
unfolding add_into carry flip
add_off = refl

sub_on : left_on (sub_into where_set three_wires two start) true ≡ 1
unfolding sub_into carry flip
sub_on = refl

-- 2 is below 3, and -2 below -1
less_on : told (less where_set false two three start) true ≡ true
unfolding less flip
less_on = refl

signed_less_on : told (less where_set true two three start) true ≡ true
unfolding less flip
signed_less_on = refl

equal_on : told (equal where_set three two start) true ≡ false
unfolding equal flip
equal_on = refl
