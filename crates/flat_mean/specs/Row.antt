-- The values of all wires at one moment, and what a step does with them.
use Rattle.std.specs.Prelude.{ℕ, Bool, true, false, cond, not, ◌&&◌, ◌||◌, ◌==◌, List, get_or, Option, Some, None}
use Rattle.std.specs.Bool.{beq}
use Rattle.flat_core.specs.declared.step.Step.{Step}
use Rattle.flat_core.specs.declared.step.Step.TheVariants.{X, H, P, M}
use Rattle.flat_core.specs.declared.step.Lit.{Lit}
use Rattle.flat_core.specs.Label.{wire_id, changes}

-- the value of each wire, by the wire's number
abbrev pub Row : Type 0
Row = ℕ → Bool

-- the row with the value of one wire changed
abbrev pub put : ℕ → Bool → Row → Row
put w b row = λ x. cond (x == w) b (row x)

-- the bits of a list by their places, 0 past its end
abbrev pub bits_of : List Bool → ℕ → Bool
bits_of bits k = get_or bits k false

-- a bit, flipped where the other one is set
abbrev pub flipped : Bool → Bool → Bool
flipped b true = not b
flipped b false = b

-- whether a control has its sign's value; no control always holds
abbrev pub holds : Row → Option Lit → Bool
holds row (Some l) = beq (row l.wire.number) l.positive
holds row None = true

abbrev pub is_h : Step → Bool
is_h (X t a b) = false
is_h (H t a) = true
is_h (P e a) = false
is_h (M w n) = false

-- the value that a step leaves on its target, from the choice bit and the values before
abbrev pub new_value : Step → Bool → Row → Bool
new_value (X t a b) k row = flipped (row t.number) (holds row a && holds row b)
new_value (H t a) k row = cond (holds row a) k (row t.number)
new_value (P e a) k row = false
new_value (M w n) k row = false

-- the row after a step
abbrev pub next : Step → Bool → Row → Row
next s k row = λ q. cond (changes (wire_id q) s) (new_value s k row) (row q)

-- whether the factor is not zero: an H whose control does not hold keeps the value
abbrev pub is_possible : Step → Bool → Row → Bool
is_possible (X t a b) k row = true
is_possible (H t a) k row = holds row a || beq k (row t.number)
is_possible (P e a) k row = true
is_possible (M w n) k row = true

-- whether the step agrees with the outcome bits
abbrev pub agrees : (ℕ → Bool) → Step → Row → Bool
agrees outcome (X t a b) row = true
agrees outcome (H t a) row = true
agrees outcome (P e a) row = true
agrees outcome (M w n) row = beq (row w.number) (outcome n)

-- how often the factor has one over root two
abbrev pub halvings : Step → Row → ℕ
halvings (X t a b) row = 0
halvings (H t a) row = cond (holds row a) 1 0
halvings (P e a) row = 0
halvings (M w n) row = 0

-- how often the factor has an eighth of a full turn
abbrev pub eighths : Step → Bool → Row → ℕ
eighths (X t a b) k row = 0
eighths (H t a) k row = cond (holds row a && (row t.number && k)) 4 0
eighths (P e a) k row = cond (holds row (Some a)) e 0
eighths (M w n) k row = 0
