-- The program that a number and a size give, as the bytes of its text.
use Rattle.std.specs.Prelude.{◌==◌, ℕ, zero, suc, ◌+◌, ◌*◌, ◌/◌, ◌%◌, List, [], ◌++◌, codes, decimal, if◌then◌else◌}

-- the value behind this one
abbrev pub next_value : ℕ → ℕ
next_value v = (v * 25173 + 13849) % 65536

-- the values that a number begins, from the one at 0 on
abbrev pub value_at : ℕ → ℕ → ℕ
value_at number zero = number % 65536
value_at number (suc i) = next_value (value_at number i)

-- the two bits of `a` that a value names, which differ
abbrev pub first_bit : ℕ → ℕ
first_bit v = v % 8

abbrev pub second_bit : ℕ → ℕ
second_bit v = if (v / 8) % 8 == first_bit v then (first_bit v + 1) % 8 else (v / 8) % 8

-- the kind of line, from 0 to 3
abbrev pub kind : ℕ → ℕ
kind v = (v / 64) % 4

-- `x := H(x);`
abbrev pub hadamard_line : List ℕ
hadamard_line = codes "x := H(x);\n"

-- `t0 := a[4] && a[5]; if t0 { x := X(x); }`
abbrev pub flip_line : ℕ → ℕ → ℕ → List ℕ
flip_line i p q =
    codes "t" ++ (decimal i ++ (codes " := a[" ++ (decimal p ++ (codes "] && a[" ++ (decimal q
    ++ (codes "]; if t" ++ (decimal i ++ codes " { x := X(x); }\n")))))))

-- `if a[5] { phase(pi/4); }`
abbrev pub phase_line : ℕ → List ℕ
phase_line p = codes "if a[" ++ (decimal p ++ codes "] { phase(pi/4); }\n")

-- `if a[5] { x := H(x); }`
abbrev pub controlled_line : ℕ → List ℕ
controlled_line p = codes "if a[" ++ (decimal p ++ codes "] { x := H(x); }\n")

-- the line i, where its value is v
abbrev pub line_text : ℕ → ℕ → List ℕ
line_text i v =
    if kind v == 0 then hadamard_line
    else (if kind v == 1 then flip_line i (first_bit v) (second_bit v)
    else (if kind v == 2 then phase_line (first_bit v)
    else controlled_line (first_bit v)))

-- so many lines, from line 0 on; the value of line i is the one at i + 1
abbrev pub lines_text : ℕ → ℕ → List ℕ
lines_text number zero = []
lines_text number (suc i) = lines_text number i ++ line_text i (value_at number (suc i))

-- the text of the program
abbrev pub generated : ℕ → ℕ → List ℕ
generated number size = codes "def main(const a:B^8, x:B):B {\n" ++ (lines_text number size ++ codes "return x;\n}\n")
