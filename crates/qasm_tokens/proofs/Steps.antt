-- The marks from a place on, step by step.
use Rattle.std.proofs.Common.{◌≡◌, ℕ, zero, suc, ◌<◌, ◌≤◌, Bool, true, false, cond, ◌&&◌, List, [], ◌∷◌, ◌++◌, Some, length, drop, nat_eq, ◌==◌, ◌∙◌, not, length-drop, refl, ap, arith}
use Rattle.std.specs.Prelude.{codes, find, option_map, unwrap_or}
use Rattle.std.specs.List.{starts_with, list_any, list_all}
use Rattle.silq_lex.specs.Runs.{run}
use Rattle.silq_lex.specs.Characters.{is_blank, is_digit}
use Rattle.silq_lex.specs.Tokens.{behind_all}
use Rattle.silq_lex.specs.declared.token.Place.{Place}
use Rattle.qasm_tokens.specs.declared.kind.Kind.{Kind}
use Rattle.qasm_tokens.specs.declared.kind.Kind.TheVariants as k
use Rattle.qasm_tokens.specs.Words.{Piece, piece, piece_at, sign_at, file_at, file_kind, digits_at, number_kind, word_kind, signs, is_letter, goes_on}
use Rattle.qasm_tokens.specs.Tokens.{Front, blank, comment, one, front_of, front_text, mark_at, marks_within, marks_from}

-- a token has a character
abbrev IsProper : Piece → Type 0
IsProper p = 0 < length p.text

either : (b : Bool) (p q : Piece) → IsProper p → IsProper q → IsProper (cond b p q)
either true p q f g = f
either false p q f g = g

abbrev AllProper : List (List ℕ × Kind) → Type 0
AllProper [] = Unit {0}
AllProper (s ∷ ss) = (0 < length s.0) × AllProper ss

found_proper : (test : List ℕ × Kind → Bool) (ss : List (List ℕ × Kind)) (other : Piece) → AllProper ss → IsProper other
    → IsProper (unwrap_or (option_map (λ s. piece s.1 s.0) (find test ss)) other)
found_proper test [] other h o = o
found_proper test (s ∷ ss) other h o = by_test (test s) (found_proper test ss other h.1 o)
  where
    by_test : (b : Bool) → IsProper (unwrap_or (option_map (λ s. piece s.1 s.0) (find test ss)) other)
        → IsProper (unwrap_or (option_map (λ s. piece s.1 s.0) (cond b (Some s) (find test ss))) other)
    by_test true i = h.0
    by_test false i = i

digits_proper : (c : ℕ) (cs : List ℕ) → 0 < length (digits_at c cs)
digits_proper c cs = by_zero (c == 48)
  where
    by_zero : (b : Bool) → 0 < length (cond b (c ∷ []) (c ∷ run is_digit cs))
    by_zero true = omega arith
    by_zero false = omega arith

sign_proper : (c : ℕ) (cs : List ℕ) → IsProper (sign_at c cs)
sign_proper c cs =
    found_proper (λ s. starts_with nat_eq (c ∷ cs) s.0) signs (piece k.Stray (c ∷ []))
    (omega arith, (omega arith, (omega arith, (omega arith, (omega arith, (omega arith, (omega arith, (omega arith, tt)))))))) (omega arith)

file_proper : (c : ℕ) (cs : List ℕ) → IsProper (file_at c cs)
file_proper c cs =
    let text : List ℕ = c ∷ (run (λ d. not (d == 34)) cs ++ (34 ∷ [])) in
    either (list_any (λ d. d == 34) cs) (piece (file_kind text) text) (piece k.Stray (c ∷ [])) (omega arith) (omega arith)

piece_proper : (c : ℕ) (cs : List ℕ) → IsProper (piece_at c cs)
piece_proper c cs =
    let word : Piece = piece (word_kind c (c ∷ run goes_on cs)) (c ∷ run goes_on cs) in
    let number : Piece = piece (number_kind (digits_at c cs)) (digits_at c cs) in
    let others : Piece = cond (c == 34) (file_at c cs) (sign_at c cs) in
    let digits : Piece = cond (is_digit c) number others in
    let version : Piece = piece k.Version (codes "2.0") in
    either (is_letter c) word (cond (starts_with nat_eq (c ∷ cs) (codes "2.0")) version digits) (omega arith)
    (either (starts_with nat_eq (c ∷ cs) (codes "2.0")) version digits (omega arith)
    (either (is_digit c) number others (digits_proper c cs) (either (c == 34) (file_at c cs) (sign_at c cs) (file_proper c cs) (sign_proper c cs))))

-- a blank, a comment and a token have a character
pub front_proper : (c : ℕ) (cs : List ℕ) → 0 < length (front_text (front_of c cs))
front_proper c cs = by_blank (is_blank c) (starts_with nat_eq (c ∷ cs) (codes "//"))
  where
    by_blank : (b s : Bool) → 0 < length (front_text (cond b (blank c) (cond s (comment (c ∷ run (λ d. not (d == 10)) cs)) (one (piece_at c cs)))))
    by_blank true s = omega arith
    by_blank false true = omega arith
    by_blank false false = piece_proper c cs

enough : (m n : ℕ) (at : Place) (cs : List ℕ) → length cs ≤ m → length cs ≤ n → marks_within m at cs ≡ marks_within n at cs
unfolding marks_within
enough m n at [] h i = refl
enough zero n at (c ∷ cs) h i = absurd (omega arith)
enough (suc m) zero at (c ∷ cs) h i = absurd (omega arith)
enough (suc m) (suc n) at (c ∷ cs) h i =
    let l : 0 < length (front_text (front_of c cs)) = front_proper c cs in
    ap (λ ms. mark_at (front_of c cs) at ++ ms)
    (enough m n (behind_all at (front_text (front_of c cs))) (drop (length (front_text (front_of c cs))) (c ∷ cs))
    (omega (arith, length-drop (length (front_text (front_of c cs))) (c ∷ cs))) (omega (arith, length-drop (length (front_text (front_of c cs))) (c ∷ cs))))

-- no marks in an empty text; else the mark at the front, if any, and those behind it
pub marks_from-nil : (at : Place) → marks_from at [] ≡ []
unfolding marks_within
marks_from-nil at = refl

pub marks_from-cons : (at : Place) (c : ℕ) (cs : List ℕ)
    → marks_from at (c ∷ cs) ≡ mark_at (front_of c cs) at ++ marks_from (behind_all at (front_text (front_of c cs))) (drop (length (front_text (front_of c cs))) (c ∷ cs))
unfolding marks_within
marks_from-cons at c cs =
    let l : 0 < length (front_text (front_of c cs)) = front_proper c cs in
    ap (λ ms. mark_at (front_of c cs) at ++ ms)
    (enough (length cs) (length (drop (length (front_text (front_of c cs))) (c ∷ cs))) (behind_all at (front_text (front_of c cs))) (drop (length (front_text (front_of c cs))) (c ∷ cs))
    (omega (arith, length-drop (length (front_text (front_of c cs))) (c ∷ cs))) (omega arith))

drop_front : (text rest : List ℕ) → drop (length text) (text ++ rest) ≡ rest
drop_front [] rest = refl
drop_front (t ∷ ts) rest = drop_front ts rest

-- where a front is known, the marks behind it follow
pub marks_of_front : (at : Place) (c : ℕ) (cs rest : List ℕ) (f : Front) → front_of c (cs ++ rest) ≡ f → front_text f ≡ c ∷ cs
    → marks_from at (c ∷ (cs ++ rest)) ≡ mark_at f at ++ marks_from (behind_all at (c ∷ cs)) rest
marks_of_front at c cs rest f e t =
    marks_from-cons at c (cs ++ rest)
    ∙ ap (λ g. mark_at g at ++ marks_from (behind_all at (front_text g)) (drop (length (front_text g)) (c ∷ (cs ++ rest)))) e
    ∙ ap (λ w. mark_at f at ++ marks_from (behind_all at w) (drop (length w) (c ∷ (cs ++ rest)))) t
    ∙ ap (λ w. mark_at f at ++ marks_from (behind_all at (c ∷ cs)) w) (drop_front (c ∷ cs) rest)

-- ---- pieces in a row

and_left : (a b : Bool) → (a && b) ≡ true → a ≡ true
and_left true b e = refl
and_left false b e = cc

and_right : (a b : Bool) → (a && b) ≡ true → b ≡ true
and_right true b e = e
and_right false b e = cc

-- a run ends before a character that does not pass
pub run_before : (test : ℕ → Bool) (xs : List ℕ) (d : ℕ) (rest : List ℕ) → list_all test xs ≡ true → test d ≡ false → run test (xs ++ (d ∷ rest)) ≡ xs
run_before test [] d rest h e = rw e refl
run_before test (x ∷ xs) d rest h e = rw (and_left (test x) (list_all test xs) h, run_before test xs d rest (and_right (test x) (list_all test xs) h) e) refl

-- a word before a character with which no word goes on
pub word_front : (c : ℕ) (cs : List ℕ) (d : ℕ) (rest : List ℕ) → is_blank c ≡ false → starts_with nat_eq (c ∷ (cs ++ (d ∷ rest))) (codes "//") ≡ false
    → is_letter c ≡ true → list_all goes_on cs ≡ true → goes_on d ≡ false → front_of c (cs ++ (d ∷ rest)) ≡ one (piece (word_kind c (c ∷ cs)) (c ∷ cs))
word_front c cs d rest b s l h e = rw (b, s, l, run_before goes_on cs d rest h e) refl
