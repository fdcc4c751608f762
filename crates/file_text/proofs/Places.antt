-- The place behind characters.
use Rattle.std.proofs.Common.{◌≡◌, ℕ, ◌+◌, ◌≤◌, Bool, true, false, cond, nat_eq, List, [], ◌∷◌, ◌++◌, map, length, refl, ap, ◌∙◌, sym, arith}
use Rattle.std.proofs.lemmas.Bool.Decides.{nat_tests}
use Rattle.std.specs.Str.{chars, IsUtf8}
use Rattle.std.proofs.lemmas.Str.{encodes-chars, length-le-encodes}
use Rattle.file_text.specs.NoText.{line_behind, col_behind}

-- one more character
abbrev pub line_after : ℕ → Bool → ℕ
line_after line newline = cond newline (line + 1) line

abbrev pub col_after : ℕ → Bool → ℕ
col_after col newline = cond newline 1 (col + 1)

pub line_more : (line : ℕ) (cs : List ℕ) (c : ℕ) → line_behind line (cs ++ c ∷ []) ≡ line_after (line_behind line cs) (nat_eq c 10)
line_more line [] c = refl
line_more line (d ∷ cs) c = line_more (line_after line (nat_eq d 10)) cs c

pub col_more : (col : ℕ) (cs : List ℕ) (c : ℕ) → col_behind col (cs ++ c ∷ []) ≡ col_after (col_behind col cs) (nat_eq c 10)
col_more col [] c = refl
col_more col (d ∷ cs) c = col_more (col_after col (nat_eq d 10)) cs c

-- a text has no more characters than bytes
pub few_chars : (text : List ℕ) → IsUtf8 text → length (chars text) ≤ length text
few_chars text u = omega (arith, length-le-encodes (chars text), ap length (encodes-chars text u))

same_map : (cs : List ℕ) → map (λ c. c) cs ≡ cs
same_map [] = refl
same_map (c ∷ cs) = ap (λ ds. c ∷ ds) (same_map cs)

pub mapped : (cs ds : List ℕ) → map (λ c. c) cs ≡ ds → cs ≡ ds
mapped cs ds e = sym (same_map cs) ∙ e

is_other : (c : ℕ) → (c ≡ 10 → ⊥) → nat_eq c 10 ≡ false
is_other c h = by (nat_eq c 10) refl
  where
    by : (b : Bool) → nat_eq c 10 ≡ b → b ≡ false
    by false e = refl
    by true e = let same : c ≡ 10 = grind (arith, nat_tests) in absurd (h same)

-- behind a line feed, and behind another character
pub line_feed : (line : ℕ) (cs : List ℕ) (c : ℕ) → c ≡ 10 → line_behind line (cs ++ c ∷ []) ≡ line_behind line cs + 1
line_feed line cs c e = line_more line cs c ∙ ap (λ d. line_after (line_behind line cs) (nat_eq d 10)) e

pub col_feed : (col : ℕ) (cs : List ℕ) (c : ℕ) → c ≡ 10 → col_behind col (cs ++ c ∷ []) ≡ 1
col_feed col cs c e = col_more col cs c ∙ ap (λ d. col_after (col_behind col cs) (nat_eq d 10)) e

pub line_same : (line : ℕ) (cs : List ℕ) (c : ℕ) → (c ≡ 10 → ⊥) → line_behind line (cs ++ c ∷ []) ≡ line_behind line cs
line_same line cs c h = line_more line cs c ∙ ap (line_after (line_behind line cs)) (is_other c h)

pub col_next : (col : ℕ) (cs : List ℕ) (c : ℕ) → (c ≡ 10 → ⊥) → col_behind col (cs ++ c ∷ []) ≡ col_behind col cs + 1
col_next col cs c h = col_more col cs c ∙ ap (col_after (col_behind col cs)) (is_other c h)
