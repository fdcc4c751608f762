-- The words of a line, one after another.
use Rattle.std.proofs.Common.{◌≡◌, ℕ, Bool, true, false, cond, not, List, [], ◌∷◌, ◌++◌, chars, refl, sym, ◌∙◌, ap}
use Rattle.std.specs.Prelude.{◌==◌, if◌then◌else◌}
use Rattle.std.specs.Str.{IsUtf8}
use denote.Bor.{Bor}
use Rattle.silq_lex.specs.Runs.{run}
use Rattle.qasm_read.specs.Lines.{between_spaces, with_first}
use Rattle.qasm_read.specs.Written.{Cuts, texts_of}

behind_word : (front back : List ℕ) → run (λ d. not (d == 32)) (front ++ 32 ∷ back) ≡ front → between_spaces (front ++ 32 ∷ back) ≡ front ∷ between_spaces back
behind_word [] back e = refl
behind_word (d ∷ ds) back e = pick (d == 32) e (behind_word ds back)
  where
    pick : (b : Bool) → cond (not b) (d ∷ run (λ x. not (x == 32)) (ds ++ 32 ∷ back)) [] ≡ d ∷ ds
        → (run (λ x. not (x == 32)) (ds ++ 32 ∷ back) ≡ ds → between_spaces (ds ++ 32 ∷ back) ≡ ds ∷ between_spaces back)
        → (if b then [] ∷ between_spaces (ds ++ 32 ∷ back) else with_first d (between_spaces (ds ++ 32 ∷ back))) ≡ (d ∷ ds) ∷ between_spaces back
    pick true f h = absurd (cc)
    pick false f h = ap (with_first d) (h (cc))

last_word : (cs : List ℕ) → run (λ d. not (d == 32)) cs ≡ cs → between_spaces cs ≡ cs ∷ []
last_word [] e = refl
last_word (d ∷ ds) e = pick (d == 32) e (last_word ds)
  where
    pick : (b : Bool) → cond (not b) (d ∷ run (λ x. not (x == 32)) ds) [] ≡ d ∷ ds → (run (λ x. not (x == 32)) ds ≡ ds → between_spaces ds ≡ ds ∷ [])
        → (if b then [] ∷ between_spaces ds else with_first d (between_spaces ds)) ≡ (d ∷ ds) ∷ []
    pick true f h = absurd (cc)
    pick false f h = ap (with_first d) (h (cc))

-- of a line these words were read, and this text is left
pub record HaveRead (line : List ℕ) (words : List (Bor (List ℕ))) (left : List ℕ) : Type 0 where
  pub text : IsUtf8 left
  pub so_far : between_spaces (chars line) ≡ texts_of words ++ between_spaces (chars left)

pub at_first : (line : List ℕ) → IsUtf8 line → HaveRead line [] line
at_first line u = record { text = u; so_far = refl }

texts_of-push : (words : List (Bor (List ℕ))) (w : Bor (List ℕ)) (more : List (List ℕ)) → texts_of (words ++ w ∷ []) ++ more ≡ texts_of words ++ chars w.now ∷ more
texts_of-push [] w more = refl
texts_of-push (x ∷ words) w more = ap (λ l. chars x.now ∷ l) (texts_of-push words w more)

texts_of-last : (words : List (Bor (List ℕ))) (w : Bor (List ℕ)) → texts_of (words ++ w ∷ []) ≡ texts_of words ++ chars w.now ∷ []
texts_of-last [] w = refl
texts_of-last (x ∷ words) w = ap (λ l. chars x.now ∷ l) (texts_of-last words w)

pub one_word : (line : List ℕ) (words : List (Bor (List ℕ))) (left : List ℕ) (w : Bor (List ℕ)) (rest : List ℕ)
    → IsUtf8 rest → Cuts 32 (chars left) (chars w.now) (chars rest) → HaveRead line words left → HaveRead line (words ++ w ∷ []) rest
one_word line words left w rest u k h = record {
  text = u;
  so_far = h.so_far ∙ (ap (λ l. texts_of words ++ l)
      (ap between_spaces k.whole ∙ behind_word (chars w.now) (chars rest) (ap (λ z. run (λ d. not (d == 32)) z) (sym k.whole) ∙ k.first))
      ∙ sym (texts_of-push words w (between_spaces (chars rest))));
}

pub at_end : (line : List ℕ) (words : List (Bor (List ℕ))) (w : Bor (List ℕ)) → run (λ d. not (d == 32)) (chars w.now) ≡ chars w.now
    → HaveRead line words w.now → texts_of (words ++ w ∷ []) ≡ between_spaces (chars line)
at_end line words w k h = texts_of-last words w ∙ sym (h.so_far ∙ ap (λ l. texts_of words ++ l) (last_word (chars w.now) k))
