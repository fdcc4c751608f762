-- What is left of bits, pieces and rows.
use Rattle.std.proofs.Common.{◌≡◌, ℕ, ◌+◌, ◌<◌, Bool, List, ◌++◌, drop, length, get_or, slice_get, Option, Some, ap, subst, ◌∙◌, sym, add-one, drop-cons, if◌then◌else◌}
use Rattle.std.specs.Prelude.{codes}
use Rattle.std.specs.Option.{option_map}
use Rattle.std.proofs.lemmas.Option.{get_or_from_slice_get}
use Rattle.amp_core.specs.declared.Amp.{Amp}
use Rattle.qasm_write.proofs.Parts.{IsPartPut}
use Rattle.table_write.specs.declared.piece.Piece.{Piece}
use Rattle.table_write.specs.Lines.{bit_texts, piece_text, pieces_text, source_line, source_text, circuit_line, circuit_text}

pub next_bit : (a b : Option (List ℕ)) (all : List ℕ) (bits : List Bool) (i : ℕ) (d : Bool) → i < length bits
    → IsPartPut a b (bit_texts (drop i bits)) all
    → IsPartPut a b ((if get_or bits i d then codes "1" else codes "0") ++ bit_texts (drop (i + 1) bits)) all
next_bit a b all bits i d l h =
    let e : bit_texts (drop i bits) ≡ (if get_or bits i d then codes "1" else codes "0") ++ bit_texts (drop (i + 1) bits) =
    ap bit_texts (drop-cons bits i d l) ∙ ap (λ n. (if get_or bits i d then codes "1" else codes "0") ++ bit_texts (drop n bits)) (sym (add-one i)) in
    subst (λ w. IsPartPut a b w all) e h

pub next_piece : (a b : Option (List ℕ)) (all : List ℕ) (pieces : List Piece) (i : ℕ) (d : Piece) → i < length pieces
    → IsPartPut a b (pieces_text (drop i pieces)) all
    → IsPartPut a b (piece_text (get_or pieces i d) ++ pieces_text (drop (i + 1) pieces)) all
next_piece a b all pieces i d l h =
    let e : pieces_text (drop i pieces) ≡ piece_text (get_or pieces i d) ++ pieces_text (drop (i + 1) pieces) =
    ap pieces_text (drop-cons pieces i d l) ∙ ap (λ n. piece_text (get_or pieces i d) ++ pieces_text (drop n pieces)) (sym (add-one i)) in
    subst (λ w. IsPartPut a b w all) e h

pub next_source : (a b : Option (List ℕ)) (all : List ℕ) (rows : List (List Bool × Amp)) (i : ℕ) (row : List Bool × Amp) → i < length rows → slice_get rows i ≡ Some row
    → IsPartPut a b (source_text (drop i rows)) all
    → IsPartPut a b (source_line row ++ source_text (drop (i + 1) rows)) all
next_source a b all rows i row l is h =
    let e : source_text (drop i rows) ≡ source_line row ++ source_text (drop (i + 1) rows) =
    ap source_text (drop-cons rows i row l)
    ∙ ap (λ n. source_line (get_or rows i row) ++ source_text (drop n rows)) (sym (add-one i))
    ∙ ap (λ r. source_line r ++ source_text (drop (i + 1) rows)) (get_or_from_slice_get rows i row row is) in
    subst (λ w. IsPartPut a b w all) e h

pub next_circuit : (outs : ℕ) (a b : Option (List ℕ)) (all : List ℕ) (rows : List (List Bool × Amp)) (i : ℕ) (row : List Bool × Amp) → i < length rows → slice_get rows i ≡ Some row
    → IsPartPut a b (circuit_text outs (drop i rows)) all
    → IsPartPut a b (circuit_line outs row ++ circuit_text outs (drop (i + 1) rows)) all
next_circuit outs a b all rows i row l is h =
    let e : circuit_text outs (drop i rows) ≡ circuit_line outs row ++ circuit_text outs (drop (i + 1) rows) =
    ap (circuit_text outs) (drop-cons rows i row l)
    ∙ ap (λ n. circuit_line outs (get_or rows i row) ++ circuit_text outs (drop n rows)) (sym (add-one i))
    ∙ ap (λ r. circuit_line outs r ++ circuit_text outs (drop (i + 1) rows)) (get_or_from_slice_get rows i row row is) in
    subst (λ w. IsPartPut a b w all) e h

-- the row that a table gives
pub row_is : {L : Type 0} (f : L → List Bool × Amp) (rows : List (List Bool × Amp)) (i : ℕ) (o : Option L) (row : L) → option_map f o ≡ slice_get rows i → o ≡ Some row → slice_get rows i ≡ Some (f row)
row_is f rows i o row e is = sym e ∙ ap (option_map f) is
