-- Texts of programs, line by line.
use Rattle.std.proofs.Common.{◌≡◌, ℕ, ◌+◌, List, ◌++◌, ap, sym, ◌∙◌, append_assoc, add-one}
use Rattle.silq_gen.specs.Generated.{next_value, value_at, line_text, lines_text}

-- the value of the next line
pub value_more : (number i v w : ℕ) → v ≡ value_at number i → w ≡ next_value v → w ≡ value_at number (i + 1)
value_more number i v w told is = is ∙ ap next_value told ∙ ap (value_at number) (sym (add-one i))

-- one more line behind a head and the lines so far
pub lines_more : (head old new : List ℕ) (number i w : ℕ) → old ≡ head ++ lines_text number i → w ≡ value_at number (i + 1)
    → new ≡ old ++ line_text i w → new ≡ head ++ lines_text number (i + 1)
lines_more head old new number i w told is added =
    added
    ∙ ap (λ s. s ++ line_text i w) told
    ∙ append_assoc head (lines_text number i) (line_text i w)
    ∙ ap (λ v. head ++ (lines_text number i ++ line_text i v)) (is ∙ ap (value_at number) (add-one i))
    ∙ ap (λ n. head ++ lines_text number n) (sym (add-one i))

-- an end behind a head and all lines
pub whole_text : (head end old new : List ℕ) (number i size : ℕ) → old ≡ head ++ lines_text number i → i ≡ size → new ≡ old ++ end
    → new ≡ head ++ (lines_text number size ++ end)
whole_text head end old new number i size told is added =
    added
    ∙ ap (λ s. s ++ end) told
    ∙ append_assoc head (lines_text number i) end
    ∙ ap (λ n. head ++ (lines_text number n ++ end)) is
