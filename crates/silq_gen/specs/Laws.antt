-- Laws of generated programs.
use Rattle.std.specs.Prelude.{◌≡◌, ◌≢◌, ℕ, ◌<◌, ◌≤◌, ◌++◌, codes, length}
use Rattle.silq_gen.specs.Generated.{first_bit, second_bit, generated, value_at}

-- a value names two bits of `a`, which has eight
abbrev pub BitsDiffer : Type 0
BitsDiffer = (v : ℕ) → (first_bit v < 8) × (second_bit v < 8) × (first_bit v ≢ second_bit v)

-- a program of at most 10,000 lines has at most 700,000 bytes
abbrev pub ProgramsAreShort : Type 0
ProgramsAreShort = (number size : ℕ) → size ≤ 10000 → length (generated number size) ≤ 700000

-- the first values of the number 7, and its program of four lines, told by hand
abbrev pub SevenIsAsTold : Type 0
SevenIsAsTold =
    (value_at 7 1 ≡ 58988) × (value_at 7 2 ≡ 4085) × (value_at 7 3 ≡ 19570) × (value_at 7 4 ≡ 15347)
    × (generated 7 4
    ≡ codes "def main(const a:B^8, x:B):B {\n"
    ++ (codes "t0 := a[4] && a[5]; if t0 { x := X(x); }\n"
    ++ (codes "if a[5] { x := H(x); }\n"
    ++ (codes "t2 := a[2] && a[6]; if t2 { x := X(x); }\n"
    ++ (codes "if a[3] { x := H(x); }\n"
    ++ codes "return x;\n}\n")))))
