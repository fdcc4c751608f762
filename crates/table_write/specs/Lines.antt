-- The lines of a table.
use Rattle.std.specs.Prelude.{ℕ, Bool, List, [], ◌∷◌, ◌++◌, codes, decimal, drop, take, if◌then◌else◌}
use Rattle.std.specs.Fmt.{signed_decimal}
use Rattle.amp_core.specs.declared.Amp.{Amp}
use Rattle.table_write.specs.declared.piece.Piece.{Piece}
use Rattle.table_write.specs.declared.piece.Piece.TheVariants.{Bits, Number, Text}

-- bits one behind the other
abbrev pub bit_texts : List Bool → List ℕ
bit_texts [] = []
bit_texts (b ∷ bs) = (if b then codes "1" else codes "0") ++ bit_texts bs

-- no bits are `-`
abbrev pub bits_text : List Bool → List ℕ
bits_text [] = codes "-"
bits_text (b ∷ bs) = bit_texts (b ∷ bs)

-- ` A B C D K` and a line feed, for (A + B w + C w^2 + D w^3) / root two^K
abbrev pub amp_text : Amp → List ℕ
amp_text x =
    codes " " ++ (signed_decimal x.a ++ (codes " " ++ (signed_decimal x.b ++ (codes " " ++ (signed_decimal x.c
    ++ (codes " " ++ (signed_decimal x.d ++ (codes " " ++ (decimal x.k ++ codes "\n")))))))))

-- `OUT A B C D K`
abbrev pub source_line : List Bool × Amp → List ℕ
source_line row = bits_text row.0 ++ amp_text row.1

-- `OUT REST A B C D K`, where OUT has so many bits
abbrev pub circuit_line : ℕ → List Bool × Amp → List ℕ
circuit_line outs row = bits_text (take outs row.0) ++ (codes " " ++ (bits_text (drop outs row.0) ++ amp_text row.1))

-- the lines of all rows
abbrev pub source_text : List (List Bool × Amp) → List ℕ
source_text [] = []
source_text (row ∷ rows) = source_line row ++ source_text rows

abbrev pub circuit_text : ℕ → List (List Bool × Amp) → List ℕ
circuit_text outs [] = []
circuit_text outs (row ∷ rows) = circuit_line outs row ++ circuit_text outs rows

-- the text of a piece, and of pieces one behind the other
abbrev pub piece_text : Piece → List ℕ
piece_text (Bits bits) = bits_text bits.now
piece_text (Number number) = signed_decimal number
piece_text (Text text) = text.now

abbrev pub pieces_text : List Piece → List ℕ
pieces_text [] = []
pieces_text (piece ∷ pieces) = piece_text piece ++ pieces_text pieces
