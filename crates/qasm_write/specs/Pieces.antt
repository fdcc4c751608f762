-- The text of pieces of a line.
use Rattle.std.specs.Prelude.{ℕ, List, [], ◌∷◌, ◌++◌, decimal}
use Rattle.qasm_write.specs.declared.piece.Piece.{Piece}
use Rattle.qasm_write.specs.declared.piece.Piece.TheVariants.{Text, Number, Qubit}
use Rattle.qasm_write.specs.Written.{qubit_text}

abbrev pub piece_text : Piece → List ℕ
piece_text (Text text) = text.now
piece_text (Number number) = decimal number
piece_text (Qubit qubit) = qubit_text qubit

abbrev pub pieces_text : List Piece → List ℕ
pieces_text [] = []
pieces_text (piece ∷ pieces) = piece_text piece ++ pieces_text pieces
