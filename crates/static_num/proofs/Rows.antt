-- Static values and angles, by computing.
use Rattle.std.proofs.Common.{◌≡◌, ℕ, [], ◌∷◌, true, Ok, Err, pos, negsuc, refl}
use Rattle.silq_tree.specs.declared.node.NameId.{NameId}
use Rattle.silq_tree.specs.declared.node.Spot.{Spot}
use Rattle.silq_tree.specs.declared.node.UnaryOp.TheVariants.{Not, Neg}
use Rattle.silq_tree.specs.declared.node.BinaryOp.TheVariants.{Or, And, Add, Sub, Mul, Div}
use Rattle.silq_tree.specs.Syntax.{Expression, number, typed_number, truth, place, whole, part, unary, binary, bit}
use Rattle.silq_tree.specs.Syntax as syntax
use Rattle.static_num.specs.declared.values.StaticFault.TheVariants.{NotStatic, ZeroDivisor, Overflow}
use Rattle.static_num.specs.declared.angles.AngleFault.TheVariants.{NotEighth, Static}
use Rattle.static_num.specs.Static.{eval_of, is_static, value, in_range}
use Rattle.static_num.specs.Angle.{angle_of, is_turn, fraction, divisor}

abbrev at : Spot
at = record { line = 1; col = 1 }

abbrev x : NameId
x = record { number = 0 }

abbrev num : ℕ → Expression
num n = number (pos n) at

abbrev neg : Expression → Expression
neg a = unary Neg a at

abbrev add : Expression → Expression → Expression
add a b = binary Add a b at

abbrev sub : Expression → Expression → Expression
sub a b = binary Sub a b at

abbrev mul : Expression → Expression → Expression
mul a b = binary Mul a b at

abbrev div : Expression → Expression → Expression
div a b = binary Div a b at

abbrev named : Expression
named = place (whole x) at

abbrev pi : Expression
pi = syntax.pi at

abbrev most : Expression
most = num 9223372036854775807

-- the least number of 64 bits
abbrev least : Expression
least = sub (neg most) (num 1)

-- `/` rounds towards zero
a_quotient_below_zero : eval_of [] (div (neg (num 7)) (num 2)) ≡ Ok (negsuc 2)
unfolding is_static value in_range
a_quotient_below_zero = refl

a_divisor_below_zero : eval_of [] (div (num 7) (neg (num 2))) ≡ Ok (negsuc 2)
unfolding is_static value in_range
a_divisor_below_zero = refl

-- the ends of the range
the_greatest : eval_of [] (add (sub most (num 1)) (num 1)) ≡ Ok (pos 9223372036854775807)
unfolding is_static value in_range
the_greatest = refl

above_the_greatest : eval_of [] (add most (num 1)) ≡ Err Overflow
unfolding is_static value in_range
above_the_greatest = refl

the_least : eval_of [] least ≡ Ok (negsuc 9223372036854775807)
unfolding is_static value in_range
the_least = refl

below_the_least : eval_of [] (sub least (num 1)) ≡ Err Overflow
unfolding is_static value in_range
below_the_least = refl

the_least_negated : eval_of [] (neg least) ≡ Err Overflow
unfolding is_static value in_range
the_least_negated = refl

the_least_by_minus_one : eval_of [] (div least (neg (num 1))) ≡ Err Overflow
unfolding is_static value in_range
the_least_by_minus_one = refl

a_product_out_of_range : eval_of [] (mul (num 4294967296) (num 2147483648)) ≡ Err Overflow
unfolding is_static value in_range
a_product_out_of_range = refl

-- the first failing operation
the_first_fault : eval_of [] (add (div (num 1) (num 0)) (add most (num 1))) ≡ Err ZeroDivisor
unfolding is_static value in_range
the_first_fault = refl

the_first_fault_of_two : eval_of [] (div (add most (num 1)) (num 0)) ≡ Err Overflow
unfolding is_static value in_range
the_first_fault_of_two = refl

-- what is not static comes before an earlier failing operation
not_static_first : eval_of [] (add (div (num 1) (num 0)) named) ≡ Err NotStatic
unfolding is_static value in_range
not_static_first = refl

no_index : eval_of ((x, pos 5) ∷ []) (place (part x (num 0)) at) ≡ Err NotStatic
unfolding is_static value in_range
no_index = refl

no_type : eval_of [] (typed_number (pos 1) bit at) ≡ Err NotStatic
unfolding is_static value in_range
no_type = refl

no_pi : eval_of [] pi ≡ Err NotStatic
unfolding is_static value in_range
no_pi = refl

-- the last pair of a name counts
the_last_pair : eval_of ((x, pos 4) ∷ (x, pos 5) ∷ []) named ≡ Ok (pos 5)
unfolding is_static value in_range
the_last_pair = refl

-- both sides are computed, and truth is 0 or 1
both_sides_of_and : eval_of [] (binary And (num 0) (div (num 1) (num 0)) at) ≡ Err ZeroDivisor
unfolding is_static value in_range
both_sides_of_and = refl

both_sides_of_or : eval_of [] (binary Or (num 1) (div (num 1) (num 0)) at) ≡ Err ZeroDivisor
unfolding is_static value in_range
both_sides_of_or = refl

truth_is_one : eval_of [] (binary And (num 6) (neg (num 1)) at) ≡ Ok (pos 1)
unfolding is_static value in_range
truth_is_one = refl

not_of_a_number : eval_of [] (unary Not (num 6) at) ≡ Ok (pos 0)
unfolding is_static value in_range
not_of_a_number = refl

a_truth : eval_of [] (add (truth true at) (num 1)) ≡ Ok (pos 2)
unfolding is_static value in_range
a_truth = refl

-- eighths of a turn
half_a_turn : angle_of [] pi ≡ Ok 4
unfolding is_static value in_range is_turn fraction divisor
half_a_turn = refl

an_eighth : angle_of [] (div pi (num 4)) ≡ Ok 1
unfolding is_static value in_range is_turn fraction divisor
an_eighth = refl

an_eighth_back : angle_of [] (div (neg pi) (num 4)) ≡ Ok 7
unfolding is_static value in_range is_turn fraction divisor
an_eighth_back = refl

by_a_number_below_zero : angle_of [] (div pi (neg (num 4))) ≡ Ok 7
unfolding is_static value in_range is_turn fraction divisor
by_a_number_below_zero = refl

whole_turns : angle_of [] (mul (num 2) pi) ≡ Ok 0
unfolding is_static value in_range is_turn fraction divisor
whole_turns = refl

whole_turns_back : angle_of [] (mul pi (neg (num 2))) ≡ Ok 0
unfolding is_static value in_range is_turn fraction divisor
whole_turns_back = refl

three_eighths : angle_of [] (div (mul (num 3) pi) (num 4)) ≡ Ok 3
unfolding is_static value in_range is_turn fraction divisor
three_eighths = refl

lowest_terms : angle_of [] (div (mul (num 6) pi) (num 8)) ≡ Ok 3
unfolding is_static value in_range is_turn fraction divisor
lowest_terms = refl

no_turn : angle_of [] (mul (num 0) (neg (div pi (num 7)))) ≡ Ok 0
unfolding is_static value in_range is_turn fraction divisor
no_turn = refl

nothing : angle_of [] (num 0) ≡ Ok 0
unfolding is_static value in_range is_turn fraction divisor
nothing = refl

a_static_turn : angle_of ((x, pos 4) ∷ []) (div pi named) ≡ Ok 1
unfolding is_static value in_range is_turn fraction divisor
a_static_turn = refl

-- no multiple of pi/4
a_sixteenth : angle_of [] (div pi (num 8)) ≡ Err NotEighth
unfolding is_static value in_range is_turn fraction divisor
a_sixteenth = refl

a_third : angle_of [] (div (mul (num 2) pi) (num 3)) ≡ Err NotEighth
unfolding is_static value in_range is_turn fraction divisor
a_third = refl

a_number : angle_of [] (num 1) ≡ Err NotEighth
unfolding is_static value in_range is_turn fraction divisor
a_number = refl

-- the ends of the range
most_half_turns : angle_of [] (mul most pi) ≡ Ok 4
unfolding is_static value in_range is_turn fraction divisor
most_half_turns = refl

too_many : angle_of [] (mul (num 2) (mul most pi)) ≡ Err (Static Overflow)
unfolding is_static value in_range is_turn fraction divisor
too_many = refl

halved_first : angle_of [] (mul (num 2) (div (mul most pi) (num 2))) ≡ Ok 4
unfolding is_static value in_range is_turn fraction divisor
halved_first = refl

least_half_turns : angle_of [] (mul least pi) ≡ Ok 0
unfolding is_static value in_range is_turn fraction divisor
least_half_turns = refl

least_negated : angle_of [] (neg (mul least pi)) ≡ Err (Static Overflow)
unfolding is_static value in_range is_turn fraction divisor
least_negated = refl

too_small : angle_of [] (div (div pi most) (num 2)) ≡ Err (Static Overflow)
unfolding is_static value in_range is_turn fraction divisor
too_small = refl

too_small_by_one : angle_of [] (div pi least) ≡ Err (Static Overflow)
unfolding is_static value in_range is_turn fraction divisor
too_small_by_one = refl

smallest : angle_of [] (mul most (div pi most)) ≡ Ok 4
unfolding is_static value in_range is_turn fraction divisor
smallest = refl

-- faults
by_zero : angle_of [] (div pi (num 0)) ≡ Err (Static ZeroDivisor)
unfolding is_static value in_range is_turn fraction divisor
by_zero = refl

by_a_failing_number : angle_of [] (mul (div (num 1) (num 0)) pi) ≡ Err (Static ZeroDivisor)
unfolding is_static value in_range is_turn fraction divisor
by_a_failing_number = refl

no_angle : angle_of [] (add pi pi) ≡ Err (Static NotStatic)
unfolding is_static value in_range is_turn fraction divisor
no_angle = refl

two_pis : angle_of [] (mul pi pi) ≡ Err (Static NotStatic)
unfolding is_static value in_range is_turn fraction divisor
two_pis = refl

not_static_before_zero : angle_of [] (mul (div (num 1) (num 0)) (mul named pi)) ≡ Err (Static NotStatic)
unfolding is_static value in_range is_turn fraction divisor
not_static_before_zero = refl

a_failing_static_angle : angle_of [] (add most (num 1)) ≡ Err (Static Overflow)
unfolding is_static value in_range is_turn fraction divisor
a_failing_static_angle = refl
