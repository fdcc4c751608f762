-- What the rows above a flip keep: wires only grow in number, and no wire is measured.
use Rattle.std.proofs.Common.{Bool, true, false, List, [], ◌∷◌, length}
use Rattle.flat_core.specs.declared.step.WireId.{WireId}
use Rattle.bit_arith.specs.declared.operand.Operand.{Operand}
use Rattle.bit_arith.specs.declared.operand.Operand.TheVariants.{Const, Literal}
use Rattle.bit_arith.specs.Built.{Built, Setting, new_wire, new_wires, next_wire, next_wires, made, all_made, negated, all_negated, top_negated, read}
use Rattle.bit_arith.specs.Rows.{flip, flip_by, flip_up, flip_down, singles, triples, products, pairs, copy, flip_each, carry_bit, carries, carry, sum_by, sum, difference, into_by, add_into, sub_into, lower, product_into, product, both, either, differ_as, differ, matches, all_of, equal, borrow, less}
use Rattle.bit_arith.specs.Multiples.{multiple_into}
use Rattle.bit_arith.proofs.Grows.{XGrows, x_same, x_then, new_wire_x, new_wires_x, flip_x}

-- ---- several flips

pub flip_by_x : (at : Setting) (w : WireId) (pss : List (List Operand)) (b : Built) → XGrows b (flip_by at w pss b)
flip_by_x at w [] b = x_same b
flip_by_x at w (ps ∷ pss) b = x_then (flip_x at w ps b) (flip_by_x at w pss (flip at w ps b))

pub flip_up_x : (at : Setting) (ws : List WireId) (cs : List (List (List Operand))) (b : Built) → XGrows b (flip_up at ws cs b)
flip_up_x at [] cs b = x_same b
flip_up_x at (w ∷ ws) [] b = x_same b
flip_up_x at (w ∷ ws) (c ∷ cs) b = x_then (flip_by_x at w c b) (flip_up_x at ws cs (flip_by at w c b))

pub flip_down_x : (at : Setting) (ws : List WireId) (cs : List (List (List Operand))) (b : Built) → XGrows b (flip_down at ws cs b)
flip_down_x at [] cs b = x_same b
flip_down_x at (w ∷ ws) [] b = x_same b
flip_down_x at (w ∷ ws) (c ∷ cs) b = x_then (flip_down_x at ws cs b) (flip_by_x at w c (flip_down at ws cs b))

-- ---- copies and updates

pub copy_x : (at : Setting) (ps : List Operand) (b : Built) → XGrows b (copy at ps b).built
unfolding copy
copy_x at ps b = x_then (new_wires_x (length ps) b) (flip_up_x at (next_wires (length ps) b) (singles ps) (new_wires (length ps) b))

pub flip_each_x : (at : Setting) (ws : List WireId) (ps : List Operand) (b : Built) → XGrows b (flip_each at ws ps b)
unfolding flip_each
flip_each_x at ws ps b = flip_up_x at ws (singles ps) b

-- ---- sums

pub carry_bit_x : (at : Setting) (w : WireId) (p q c : Operand) (b : Built) → XGrows b (carry_bit at w p q c b)
carry_bit_x at w p q c b = flip_by_x at w ((p ∷ q ∷ []) ∷ (p ∷ c ∷ []) ∷ (q ∷ c ∷ []) ∷ []) b

pub carries_x : (at : Setting) (c : Operand) (ps qs : List Operand) (b : Built) → XGrows b (carries at c ps qs b).built
carries_x at c [] qs b = x_same b
carries_x at c (p ∷ []) qs b = x_same b
carries_x at c (p ∷ p' ∷ ps) [] b = x_same b
carries_x at c (p ∷ p' ∷ ps) (q ∷ qs) b =
    x_then (new_wire_x b) (x_then (carry_bit_x at (next_wire b) p q c (new_wire b)) (carries_x at (made (next_wire b)) (p' ∷ ps) qs (carry_bit at (next_wire b) p q c (new_wire b))))

pub carry_x : (at : Setting) (ps qs : List Operand) (b : Built) → XGrows b (carry at ps qs b).built
unfolding carry
carry_x at ps qs b = carries_x at (Const false) ps qs b

pub sum_by_x : (at : Setting) (carriers ps qs : List Operand) (b : Built) → XGrows b (sum_by at carriers ps qs b).built
sum_by_x at carriers ps qs b =
    let cs = carry at carriers qs (new_wires (length ps) b) in
    x_then (new_wires_x (length ps) b) (x_then (carry_x at carriers qs (new_wires (length ps) b)) (flip_up_x at (next_wires (length ps) b) (triples ps qs cs.answer) cs.built))

pub sum_x : (at : Setting) (ps qs : List Operand) (b : Built) → XGrows b (sum at ps qs b).built
unfolding sum
sum_x at ps qs b = sum_by_x at ps ps qs b

pub difference_x : (at : Setting) (ps qs : List Operand) (b : Built) → XGrows b (difference at ps qs b).built
unfolding difference
difference_x at ps qs b = sum_by_x at (all_negated ps) ps qs b

pub into_by_x : (at : Setting) (carriers : List Operand) (ws : List WireId) (qs : List Operand) (b : Built) → XGrows b (into_by at carriers ws qs b)
into_by_x at carriers ws qs b =
    let cs = carry at carriers qs b in x_then (carry_x at carriers qs b) (flip_down_x at ws (pairs qs cs.answer) cs.built)

pub add_into_x : (at : Setting) (ws : List WireId) (qs : List Operand) (b : Built) → XGrows b (add_into at ws qs b)
unfolding add_into
add_into_x at ws qs b = into_by_x at (all_made ws) ws qs b

pub sub_into_x : (at : Setting) (ws : List WireId) (qs : List Operand) (b : Built) → XGrows b (sub_into at ws qs b)
unfolding sub_into
sub_into_x at ws qs b = into_by_x at (all_negated (all_made ws)) ws qs b

-- ---- products

pub product_into_x : (at : Setting) (ws : List WireId) (ps qs : List Operand) (b : Built) → XGrows b (product_into at ws ps qs b)
product_into_x at [] ps qs b = x_same b
product_into_x at (w ∷ ws) [] qs b = x_same b
product_into_x at (w ∷ ws) (p ∷ ps) qs b =
    let multiple = next_wires (length qs) b in
    let b' = flip_up at multiple (products p qs) (new_wires (length qs) b) in
    x_then (new_wires_x (length qs) b)
    (x_then (flip_up_x at multiple (products p qs) (new_wires (length qs) b))
    (x_then (add_into_x at (w ∷ ws) (all_made multiple) b') (product_into_x at ws ps (lower qs) (add_into at (w ∷ ws) (all_made multiple) b'))))

pub product_x : (at : Setting) (ps qs : List Operand) (b : Built) → XGrows b (product at ps qs b).built
unfolding product
product_x at ps qs b = x_then (new_wires_x (length ps) b) (product_into_x at (next_wires (length ps) b) ps qs (new_wires (length ps) b))

-- ---- tests

pub both_x : (at : Setting) (p q : Operand) (b : Built) → XGrows b (both at p q b).built
unfolding both
both_x at p q b = x_then (new_wire_x b) (flip_x at (next_wire b) (p ∷ q ∷ []) (new_wire b))

pub either_x : (at : Setting) (p q : Operand) (b : Built) → XGrows b (either at p q b).built
unfolding either
either_x at p q b = both_x at (negated p) (negated q) b

pub differ_as_x : (at : Setting) (s t p q : Operand) (b : Built) → XGrows b (differ_as at s t p q b).built
differ_as_x at (Const x) t p q b = x_same b
differ_as_x at (Literal l) (Const y) p q b = x_same b
differ_as_x at (Literal l) (Literal m) p q b =
    x_then (new_wire_x b) (flip_by_x at (next_wire b) ((p ∷ []) ∷ (q ∷ []) ∷ []) (new_wire b))

pub differ_x : (at : Setting) (p q : Operand) (b : Built) → XGrows b (differ at p q b).built
differ_x at p q b = differ_as_x at (read b.draft p) (read b.draft q) p q b

pub matches_x : (at : Setting) (ps qs : List Operand) (b : Built) → XGrows b (matches at ps qs b).built
matches_x at [] qs b = x_same b
matches_x at (p ∷ ps) [] b = x_same b
matches_x at (p ∷ ps) (q ∷ qs) b = x_then (differ_x at p q b) (matches_x at ps qs (differ at p q b).built)

pub all_of_x : (at : Setting) (ms : List Operand) (b : Built) → XGrows b (all_of at ms b).built
all_of_x at [] b = x_then (new_wire_x b) (flip_x at (next_wire b) [] (new_wire b))
all_of_x at (m ∷ []) b = x_same b
all_of_x at (m ∷ m' ∷ ms) b = x_then (new_wire_x b) (flip_x at (next_wire b) (m ∷ m' ∷ ms) (new_wire b))

pub equal_x : (at : Setting) (ps qs : List Operand) (b : Built) → XGrows b (equal at ps qs b).built
unfolding equal
equal_x at ps qs b = let ms = matches at ps qs b in x_then (matches_x at ps qs b) (all_of_x at ms.answer ms.built)

pub borrow_x : (at : Setting) (c : Operand) (ps qs : List Operand) (b : Built) → XGrows b (borrow at c ps qs b).built
borrow_x at c [] qs b = x_same b
borrow_x at c (p ∷ ps) [] b = x_same b
borrow_x at c (p ∷ ps) (q ∷ qs) b =
    x_then (new_wire_x b) (x_then (carry_bit_x at (next_wire b) (negated p) q c (new_wire b)) (borrow_x at (made (next_wire b)) ps qs (carry_bit at (next_wire b) (negated p) q c (new_wire b))))

pub less_x : (at : Setting) (signed : Bool) (ps qs : List Operand) (b : Built) → XGrows b (less at signed ps qs b).built
unfolding less
less_x at true ps qs b = borrow_x at (Const false) (top_negated ps) (top_negated qs) b
less_x at false ps qs b = borrow_x at (Const false) ps qs b

pub multiple_into_x : (at : Setting) (ws : List WireId) (p : Operand) (qs : List Operand) (b : Built) → XGrows b (multiple_into at ws p qs b)
multiple_into_x at ws p qs b =
    let multiple = next_wires (length qs) b in
    let b' = flip_up at multiple (products p qs) (new_wires (length qs) b) in
    x_then (new_wires_x (length qs) b) (x_then (flip_up_x at multiple (products p qs) (new_wires (length qs) b)) (add_into_x at ws (all_made multiple) b'))
