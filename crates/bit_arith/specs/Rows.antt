-- The rows of steps that operands give, after the table of flat forms.
use Rattle.std.specs.Prelude.{ℕ, ◌%◌, Bool, true, false, cond, ◌==◌, List, [], ◌∷◌, length, map, Option, Some, None}
use Rattle.flat_core.specs.declared.step.WireId.{WireId}
use Rattle.flat_core.specs.declared.step.Lit.{Lit}
use Rattle.flat_core.specs.declared.step.Step.TheVariants.{X, H, P, M}
use Rattle.flat_core.specs.Sound.{count_measures}
use Rattle.bit_arith.specs.declared.operand.Operand.{Operand}
use Rattle.bit_arith.specs.declared.operand.Operand.TheVariants.{Const, Literal}
use Rattle.bit_arith.specs.Built.{Built, Setting, Given, push, new_wire, new_wires, next_wire, next_wires, plus, made, all_made, negated, all_negated, top_negated, read, literals, under}

-- ---- conjunctions, flips, phases

-- the conjunction of literals on one wire: the first itself, or else two at a time into new wires
abbrev pub gathered : Setting → Lit → List Lit → Built → Given Lit
gathered at a [] b = record { answer = a; built = b }
gathered at a (c ∷ cs) b = gathered at (plus (next_wire b)) cs (push at (X (next_wire b) (Some a) (Some c)) (new_wire b))

abbrev pub all_but_last : Lit → List Lit → List Lit
all_but_last c [] = []
all_but_last c (d ∷ ds) = c ∷ all_but_last d ds

abbrev pub last_of : Lit → List Lit → Lit
last_of c [] = c
last_of c (d ∷ ds) = last_of d ds

-- X under literals: more than two are gathered, all but the last
abbrev pub flip_lits : Setting → WireId → List Lit → Built → Built
flip_lits at w [] b = push at (X w None None) b
flip_lits at w (a ∷ []) b = push at (X w (Some a) None) b
flip_lits at w (a ∷ c ∷ cs) b =
    let front = gathered at a (all_but_last c cs) b in push at (X w (Some front.answer) (Some (last_of c cs))) front.built

abbrev pub flip_if_any : Setting → WireId → Option (List Lit) → Built → Built
flip_if_any at w None b = b
flip_if_any at w (Some ls) b = flip_lits at w ls b

-- flips a wire where the condition in force and all operands hold
unfoldable pub flip : Setting → WireId → List Operand → Built → Built
flip at w ps b = flip_if_any at w (literals b.draft (under at ps)) b

-- one operand for a conjunction, without the condition in force
abbrev pub conjunction_of : Setting → Option (List Lit) → Built → Given Operand
conjunction_of at None b = record { answer = Const false; built = b }
conjunction_of at (Some []) b = record { answer = Const true; built = b }
conjunction_of at (Some (l ∷ ls)) b =
    let whole = gathered at l ls b in record { answer = Literal whole.answer; built = whole.built }

unfoldable pub conjunction : Setting → List Operand → Built → Given Operand
conjunction at ps b = conjunction_of at (literals b.draft ps) b

-- a phase of k eighths under literals
abbrev pub turn_lits : Setting → ℕ → Option (List Lit) → Built → Built
turn_lits at k None b = b
turn_lits at k (Some []) b = push at (P k (plus (next_wire b))) (push at (X (next_wire b) None None) (new_wire b))
turn_lits at k (Some (l ∷ ls)) b = let whole = gathered at l ls b in push at (P k whole.answer) whole.built

-- turns by k eighths where the condition in force and all operands hold
unfoldable pub turn : Setting → ℕ → List Operand → Built → Built
turn at k ps b = cond (k % 8 == 0) b (turn_lits at (k % 8) (literals b.draft (under at ps)) b)

abbrev pub had_under : Setting → Option Operand → WireId → Built → Built
had_under at None w b = push at (H w None) b
had_under at (Some (Const true)) w b = push at (H w None) b
had_under at (Some (Const false)) w b = b
had_under at (Some (Literal l)) w b = push at (H w (Some l)) b

-- H under the condition in force
unfoldable pub had : Setting → WireId → Built → Built
had at w b = had_under at at.condition w b

-- measures a wire with the next outcome number
unfoldable pub measure : Setting → WireId → Built → Built
measure at w b = push at (M w (count_measures b.draft.steps)) b

-- ---- several flips

-- a wire flipped by each conjunction in turn
abbrev pub flip_by : Setting → WireId → List (List Operand) → Built → Built
flip_by at w [] b = b
flip_by at w (ps ∷ pss) b = flip_by at w pss (flip at w ps b)

-- each wire flipped by its conjunctions, from the low end up
abbrev pub flip_up : Setting → List WireId → List (List (List Operand)) → Built → Built
flip_up at (w ∷ ws) (c ∷ cs) b = flip_up at ws cs (flip_by at w c b)
flip_up at _ _ b = b

-- and from the top down
abbrev pub flip_down : Setting → List WireId → List (List (List Operand)) → Built → Built
flip_down at (w ∷ ws) (c ∷ cs) b = flip_by at w c (flip_down at ws cs b)
flip_down at _ _ b = b

-- one operand is a conjunction
abbrev pub alone : Operand → List Operand
alone p = p ∷ []

-- by one, two or three operands at each place
abbrev pub singles : List Operand → List (List (List Operand))
singles ps = map (λ p. alone p ∷ []) ps

abbrev pub pairs : List Operand → List Operand → List (List (List Operand))
pairs (p ∷ ps) (q ∷ qs) = (alone p ∷ alone q ∷ []) ∷ pairs ps qs
pairs _ _ = []

abbrev pub triples : List Operand → List Operand → List Operand → List (List (List Operand))
triples (p ∷ ps) (q ∷ qs) (c ∷ cs) = (alone p ∷ alone q ∷ alone c ∷ []) ∷ triples ps qs cs
triples _ _ _ = []

-- by a product with one bit at each place
abbrev pub products : Operand → List Operand → List (List (List Operand))
products p qs = map (λ q. (p ∷ q ∷ []) ∷ []) qs

-- ---- copies and updates

-- new wires with the operands' bits
unfoldable pub copy : Setting → List Operand → Built → Given (List WireId)
copy at ps b = record { answer = next_wires (length ps) b; built = flip_up at (next_wires (length ps) b) (singles ps) (new_wires (length ps) b) }

-- each wire flipped by its operand: `^=`
unfoldable pub flip_each : Setting → List WireId → List Operand → Built → Built
flip_each at ws ps b = flip_up at ws (singles ps) b

-- ---- sums

-- the carry out of one place, on a wire: whether two of three bits are 1
abbrev pub carry_bit : Setting → WireId → Operand → Operand → Operand → Built → Built
carry_bit at w p q c b = flip_by at w ((p ∷ q ∷ []) ∷ (p ∷ c ∷ []) ∷ (q ∷ c ∷ []) ∷ []) b

-- the carries into each place, the first of which is given
abbrev pub carries : Setting → Operand → List Operand → List Operand → Built → Given (List Operand)
carries at c (p ∷ p' ∷ ps) (q ∷ qs) b =
    let rest = carries at (made (next_wire b)) (p' ∷ ps) qs (carry_bit at (next_wire b) p q c (new_wire b)) in
    record { answer = c ∷ rest.answer; built = rest.built }
carries at c (p ∷ _) _ b = record { answer = c ∷ []; built = b }
carries at c [] _ b = record { answer = []; built = b }

unfoldable pub carry : Setting → List Operand → List Operand → Built → Given (List Operand)
carry at ps qs b = carries at (Const false) ps qs b

-- new wires with the sums of two bits and the carry of the first list given here and the second
abbrev pub sum_by : Setting → List Operand → List Operand → List Operand → Built → Given (List Operand)
sum_by at carriers ps qs b =
    let cs = carry at carriers qs (new_wires (length ps) b) in
    record { answer = all_made (next_wires (length ps) b); built = flip_up at (next_wires (length ps) b) (triples ps qs cs.answer) cs.built }

-- a + b, and a - b by the carries of (not a) + b
unfoldable pub sum : Setting → List Operand → List Operand → Built → Given (List Operand)
sum at ps qs b = sum_by at ps ps qs b

unfoldable pub difference : Setting → List Operand → List Operand → Built → Given (List Operand)
difference at ps qs b = sum_by at (all_negated ps) ps qs b

-- wires to which a number is added, from the top down
abbrev pub into_by : Setting → List Operand → List WireId → List Operand → Built → Built
into_by at carriers ws qs b = let cs = carry at carriers qs b in flip_down at ws (pairs qs cs.answer) cs.built

-- x += b, and x -= b
unfoldable pub add_into : Setting → List WireId → List Operand → Built → Built
add_into at ws qs b = into_by at (all_made ws) ws qs b

unfoldable pub sub_into : Setting → List WireId → List Operand → Built → Built
sub_into at ws qs b = into_by at (all_negated (all_made ws)) ws qs b

-- ---- products

-- all but the top one
abbrev pub lower : List Operand → List Operand
lower [] = []
lower (q ∷ []) = []
lower (q ∷ q' ∷ qs) = q ∷ lower (q' ∷ qs)

-- the multiples of b by each bit of a, added to the wires from the place of the bit on
abbrev pub product_into : Setting → List WireId → List Operand → List Operand → Built → Built
product_into at (w ∷ ws) (p ∷ ps) qs b =
    let multiple = next_wires (length qs) b in
    let b' = flip_up at multiple (products p qs) (new_wires (length qs) b) in
    product_into at ws ps (lower qs) (add_into at (w ∷ ws) (all_made multiple) b')
product_into at _ _ qs b = b

-- a * b on new wires
unfoldable pub product : Setting → List Operand → List Operand → Built → Given (List Operand)
product at ps qs b = record { answer = all_made (next_wires (length ps) b); built = product_into at (next_wires (length ps) b) ps qs (new_wires (length ps) b) }

-- ---- tests

-- a && b, and a || b as not (not a && not b), on a new wire
unfoldable pub both : Setting → Operand → Operand → Built → Given Operand
both at p q b = record { answer = made (next_wire b); built = flip at (next_wire b) (p ∷ q ∷ []) (new_wire b) }

unfoldable pub either : Setting → Operand → Operand → Built → Given Operand
either at p q b =
    let neither = both at (negated p) (negated q) b in record { answer = negated neither.answer; built = neither.built }

abbrev pub signed : Bool → Operand → Operand
signed true p = negated p
signed false p = p

-- whether two bits differ: the other operand where one is constant, the left one first, else a new wire
abbrev pub differ_as : Setting → Operand → Operand → Operand → Operand → Built → Given Operand
differ_as at (Const x) _ p q b = record { answer = signed x q; built = b }
differ_as at (Literal l) (Const y) p q b = record { answer = signed y p; built = b }
differ_as at (Literal l) (Literal m) p q b = record { answer = made (next_wire b); built = flip_by at (next_wire b) (alone p ∷ alone q ∷ []) (new_wire b) }

abbrev pub differ : Setting → Operand → Operand → Built → Given Operand
differ at p q b = differ_as at (read b.draft p) (read b.draft q) p q b

-- that the bits do not differ, place by place
abbrev pub matches : Setting → List Operand → List Operand → Built → Given (List Operand)
matches at (p ∷ ps) (q ∷ qs) b =
    let here = differ at p q b in
    let rest = matches at ps qs here.built in
    record { answer = negated here.answer ∷ rest.answer; built = rest.built }
matches at _ _ b = record { answer = []; built = b }

-- one bit needs no new wire
abbrev pub all_of : Setting → List Operand → Built → Given Operand
all_of at (m ∷ []) b = record { answer = m; built = b }
all_of at ms b = record { answer = made (next_wire b); built = flip at (next_wire b) ms (new_wire b) }

-- a == b
unfoldable pub equal : Setting → List Operand → List Operand → Built → Given Operand
equal at ps qs b = let ms = matches at ps qs b in all_of at ms.answer ms.built

-- the carry out of (not a) + b, on a new wire for each place
abbrev pub borrow : Setting → Operand → List Operand → List Operand → Built → Given Operand
borrow at c (p ∷ ps) (q ∷ qs) b = borrow at (made (next_wire b)) ps qs (carry_bit at (next_wire b) (negated p) q c (new_wire b))
borrow at c _ _ b = record { answer = c; built = b }

-- a < b; of numbers with a sign the top bits are negated first
unfoldable pub less : Setting → Bool → List Operand → List Operand → Built → Given Operand
less at true ps qs b = borrow at (Const false) (top_negated ps) (top_negated qs) b
less at false ps qs b = borrow at (Const false) ps qs b
