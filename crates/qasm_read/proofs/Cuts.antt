-- Texts cut at a character.
use Rattle.std.proofs.Common.{◌≡◌, ℕ, ◌+◌, ◌<◌, Bool, true, cond, not, List, [], ◌∷◌, ◌++◌, length, take, drop, get_or, chars, refl, sym, ◌∙◌, ap, subst, arith}
use Rattle.std.specs.Prelude.{Option, Some, None, IfSome, IfNone, ◌==◌}
use Rattle.std.specs.Str.{IsUtf8, NonePass, NoCharPasses, IsCharBoundary}
use Rattle.std.specs.Str.Pattern.{FindsChar, HasCharAt}
use Rattle.std.proofs.lemmas.List.{take-append-drop}
use Rattle.std.proofs.lemmas.Str.{chars_from_encodes, chars-append, chars_past_char, IsUtf8-take, IsUtf8-drop, IsCharBoundary-before_ascii, len_utf8_bounds}
use Rattle.std.proofs.lemmas.Str.Pattern.{IsSplitOnceResult}
use Rattle.std.proofs.lemmas.Bool.Decides.{nat_tests}
use denote.Bor.{Bor}
use Rattle.silq_lex.specs.Runs.{run}
use Rattle.qasm_read.specs.Written.{Cuts}

same : (c : ℕ) → (c == c) ≡ true
same c = grind (arith, nat_tests)

none_run : (c : ℕ) (cs : List ℕ) → NonePass (λ d. d == c) cs → run (λ d. not (d == c)) cs ≡ cs
none_run c [] n = refl
none_run c (d ∷ cs) n =
    ap (λ (b : Bool). cond (not b) (d ∷ run (λ d. not (d == c)) cs) []) n.0 ∙ ap (λ (l : List ℕ). d ∷ l) (none_run c cs n.1)

run_front : (c : ℕ) (cs back : List ℕ) → NonePass (λ d. d == c) cs → run (λ d. not (d == c)) (cs ++ c ∷ back) ≡ cs
run_front c [] back n = ap (λ (b : Bool). cond (not b) (c ∷ run (λ d. not (d == c)) back) []) (same c)
run_front c (d ∷ cs) back n =
    ap (λ (b : Bool). cond (not b) (d ∷ run (λ d. not (d == c)) (cs ++ c ∷ back)) []) n.0 ∙ ap (λ (l : List ℕ). d ∷ l) (run_front c cs back n.1)

none_of : (p : ℕ → Bool) (s : List ℕ) → IsUtf8 s → NoCharPasses p s → NonePass p (chars s)
none_of p s u n = subst (NonePass p) (chars_from_encodes n.0 s u n.1) n.2

cut_at : (c : ℕ) (s : List ℕ) (i j : ℕ) → IsUtf8 s → c < 128 → i < length s → FindsChar c s (Some (i, j)) → Cuts c (chars s) (chars (take i s)) (chars (drop j s))
cut_at c s i j u low l f =
    let h : HasCharAt c s i j = f.1 in
    let first : get_or s i 0 < 128 = let e = h.byte low in omega (arith, e, low) in
    let b : IsCharBoundary s i = IsCharBoundary-before_ascii s i l first in
    let front : IsUtf8 (take i s) = IsUtf8-take s i u b in
    let w : chars s ≡ chars (take i s) ++ c ∷ chars (drop j s) =
    ap chars (sym (take-append-drop i s)) ∙ (chars-append (take i s) (drop i s) front
    ∙ ap (λ (z : List ℕ). chars (take i s) ++ z) (chars_past_char (drop i s) (drop j s) c (IsUtf8-drop s i u b) h.split)) in
    record {
      whole = w;
      first = ap (λ (z : List ℕ). run (λ d. not (d == c)) z) w ∙ run_front c (chars (take i s)) (chars (drop j s)) (none_of (λ d. d == c) (take i s) front f.0);
    }

pub cut_none : (c : ℕ) (s : List ℕ) (r : Option (Bor (List ℕ) × Bor (List ℕ))) → IsSplitOnceResult c s r → IsUtf8 s → c < 128 → IfNone r (run (λ d. not (d == c)) (chars s) ≡ chars s)
cut_none c s None h u low = none_run c (chars s) (none_of (λ d. d == c) s u h)
cut_none c s (Some x) h u low = tt

before_end : (s back : List ℕ) (c i j : ℕ) → HasCharAt c s i j → length back + j ≡ length s → i < length s
before_end s back c i j h e = let b = len_utf8_bounds c in let k = h.ends in omega (arith, b.0, k, e)

pub cut_some : (c : ℕ) (s : List ℕ) (r : Option (Bor (List ℕ) × Bor (List ℕ))) → IsSplitOnceResult c s r → IsUtf8 s → c < 128 → IfSome r (λ p. Cuts c (chars s) (chars p.0.now) (chars p.1.now))
cut_some c s None h u low = tt
cut_some c s (Some x) (i, j, f, a, b, k, m, n) u low =
    rw (a, b) (cut_at c s i j u low (before_end s x.1.now c i j f.1 n) f)

pub cut_shorter : (c : ℕ) (s : List ℕ) (r : Option (Bor (List ℕ) × Bor (List ℕ))) → IsSplitOnceResult c s r → IfSome r (λ p. length p.1.now < length s)
cut_shorter c s None h = tt
cut_shorter c s (Some x) (i, j, f, a, b, k, m, n) = let l = len_utf8_bounds c in let e = (f.1).ends in omega (arith, l.0, e, n)

pub cut_text : (c : ℕ) (s : List ℕ) (r : Option (Bor (List ℕ) × Bor (List ℕ))) → IsSplitOnceResult c s r → IsUtf8 s → IfSome r (λ p. IsUtf8 p.1.now)
cut_text c s None h u = tt
cut_text c s (Some x) (i, j, f, a, b, k, m, n) u =
    let h : HasCharAt c s i j = f.1 in
    rw b (IsUtf8-drop s j u (subst (IsCharBoundary s) (sym h.ends) h.after))
