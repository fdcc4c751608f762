-- What a cursor reads.
use Rattle.std.proofs.Common.{◌≡◌, ℕ, ◌<◌, ◌≤◌, Bool, true, false, cond, not, ◌==◌, ◌||◌, List, [], ◌∷◌, ◌++◌, length, drop, nat_eq, length-append, refl, sym, ◌∙◌, ap, subst, arith}
use Rattle.std.specs.Prelude.{Option, Some, None, is_some, find, option_map, unwrap_or, codes, bytes_eq, nat_lt, ◌^◌}
use Rattle.std.specs.List.{starts_with, list_any, list_all}
use Rattle.std.proofs.Math.Seq.{drop-append_seam}
use Rattle.silq_lex.specs.Runs.{run, past}
use Rattle.silq_lex.specs.Characters.{is_digit, is_blank}
use Rattle.silq_lex.specs.Kinds.{is_number, number_of}
use Rattle.silq_lex.specs.Tokens.{behind_all}
use Rattle.silq_lex.proofs.Longests.{all_run}
use Rattle.silq_lex.proofs.Passing.{behind_all-append}
use Rattle.silq_lex.proofs.Texts.{and_true, and_left, and_right}
use Rattle.std.proofs.lemmas.Bool.Decides.{Decides-eqb, nat_tests}
use Rattle.qasm_tokens.specs.declared.token.Mark.{Mark}
use Rattle.qasm_tokens.specs.declared.cursor.Cursor.{Cursor}
use Rattle.qasm_tokens.specs.Words.{Piece, piece, piece_at, digits_at, file_at, sign_at, file_kind, words, signs, goes_on, is_letter, is_lower}
use Rattle.qasm_tokens.specs.Table.{same_kind}
use Rattle.qasm_tokens.specs.declared.kind.Kind.{Kind}
use Rattle.qasm_tokens.specs.declared.kind.Kind.TheVariants as k
use Rattle.qasm_tokens.specs.Tokens as tokens
use Rattle.silq_lex.specs.declared.token.Place.{Place}
use Rattle.qasm_tokens.specs.Tokens.{front_of, front_text, mark_at, marks_from, blank, comment, one}
use Rattle.qasm_tokens.specs.Cursors.{Passes, PassesMark, GivesNext, ReadsFront, IsSpelledMark, ahead, upcoming, end_place, mark_list, word_at, number_at}
use Rattle.qasm_tokens.proofs.Steps.{marks_from-nil, marks_from-cons, front_proper}

-- digits of a number
pub digits_are_number : (c : ℕ) (cs : List ℕ) → is_digit c ≡ true → is_number (digits_at c cs) ≡ true
digits_are_number c cs e = of (c == 48)
  where
    of : (b : Bool) → is_number (cond b (c ∷ []) (c ∷ run is_digit cs)) ≡ true
    of true = and_true _ _ e refl
    of false = and_true _ _ e (all_run is_digit cs)

-- a quote stands behind what is no quote, where there is one
pub quote_behind : (cs : List ℕ) → starts_with nat_eq (past (λ d. not (d == 34)) cs) (34 ∷ []) ≡ list_any (λ d. d == 34) cs
quote_behind [] = refl
quote_behind (c ∷ cs) = of (c == 34) refl (quote_behind cs)
  where
    of : (b : Bool) → (c == 34) ≡ b → starts_with nat_eq (past (λ d. not (d == 34)) cs) (34 ∷ []) ≡ list_any (λ d. d == 34) cs
        → starts_with nat_eq (cond (not b) (past (λ d. not (d == 34)) cs) (c ∷ cs)) (34 ∷ []) ≡ (b || list_any (λ d. d == 34) cs)
    of true e h = let d : c ≡ 34 = (Decides-eqb c 34).0 e in rw d refl
    of false e h = h

-- ---- numbers have at most 32 bits

abbrev IsSpelledPiece : Piece → Type 0
IsSpelledPiece p = p.kind ≡ k.Number → (is_number p.text ≡ true) × (number_of p.text < 2 ^ 32)

abbrev no_number : Kind → Bool
no_number kind = not (same_kind kind k.Number)

other_spelled : (p : Piece) → no_number p.kind ≡ true → IsSpelledPiece p
other_spelled p n e = let m : false ≡ true = ap no_number (sym e) ∙ n in absurd (cc)

found_other : (test : List ℕ × Kind → Bool) (ws : List (List ℕ × Kind)) (other : Kind) → list_all (λ w. no_number w.1) ws ≡ true → no_number other ≡ true
    → no_number (unwrap_or (option_map (λ w. w.1) (find test ws)) other) ≡ true
found_other test [] other h o = o
found_other test (w ∷ ws) other h o = by_test (test w) (found_other test ws other (and_right _ _ h) o)
  where
    by_test : (b : Bool) → no_number (unwrap_or (option_map (λ w. w.1) (find test ws)) other) ≡ true
        → no_number (unwrap_or (option_map (λ w. w.1) (cond b (Some w) (find test ws))) other) ≡ true
    by_test true i = and_left _ _ h
    by_test false i = i

found_sign : (test : List ℕ × Kind → Bool) (ws : List (List ℕ × Kind)) (other : Piece) → list_all (λ w. no_number w.1) ws ≡ true → no_number other.kind ≡ true
    → no_number (unwrap_or (option_map (λ s. piece s.1 s.0) (find test ws)) other).kind ≡ true
found_sign test [] other h o = o
found_sign test (w ∷ ws) other h o = by_test (test w) (found_sign test ws other (and_right _ _ h) o)
  where
    by_test : (b : Bool) → no_number (unwrap_or (option_map (λ s. piece s.1 s.0) (find test ws)) other).kind ≡ true
        → no_number (unwrap_or (option_map (λ s. piece s.1 s.0) (cond b (Some w) (find test ws))) other).kind ≡ true
    by_test true i = and_left _ _ h
    by_test false i = i

lower_or_upper : (b : Bool) → no_number (cond b k.Lower k.Upper) ≡ true
lower_or_upper true = refl
lower_or_upper false = refl

library_or_other : (b : Bool) → no_number (cond b k.Library k.OtherFile) ≡ true
library_or_other true = refl
library_or_other false = refl

kind_fits : (n : ℕ) (b : Bool) → nat_lt n (2 ^ 32) ≡ b → cond b k.Number k.TooGreat ≡ k.Number → n < 2 ^ 32
kind_fits n true h e = grind (arith, nat_tests)
kind_fits n false h e = cc

number_spelled : (c : ℕ) (cs : List ℕ) → is_digit c ≡ true → IsSpelledPiece (number_at c cs)
number_spelled c cs d e = (digits_are_number c cs d, kind_fits (number_of (digits_at c cs)) (nat_lt (number_of (digits_at c cs)) (2 ^ 32)) refl e)

either : (b : Bool) (p q : Piece) → (b ≡ true → IsSpelledPiece p) → IsSpelledPiece q → IsSpelledPiece (cond b p q)
either true p q f g = f refl
either false p q f g = g

piece_spelled : (c : ℕ) (cs : List ℕ) → IsSpelledPiece (piece_at c cs)
piece_spelled c cs =
    let others : Piece = cond (c == 34) (file_at c cs) (sign_at c cs) in
    let digits : Piece = cond (is_digit c) (number_at c cs) others in
    let version : Piece = piece k.Version (codes "2.0") in
    let name : Piece = piece (file_kind (c ∷ (run (λ d. not (d == 34)) cs ++ (34 ∷ [])))) (c ∷ (run (λ d. not (d == 34)) cs ++ (34 ∷ []))) in
    let stray : Piece = piece k.Stray (c ∷ []) in
    either (is_letter c) (word_at c cs) (cond (starts_with nat_eq (c ∷ cs) (codes "2.0")) version digits)
    (λ e. other_spelled (word_at c cs) (found_other (λ w. bytes_eq w.0 (c ∷ run goes_on cs)) words (cond (is_lower c) k.Lower k.Upper) refl (lower_or_upper (is_lower c))))
    (either (starts_with nat_eq (c ∷ cs) (codes "2.0")) version digits (λ e. other_spelled version refl)
    (either (is_digit c) (number_at c cs) others (number_spelled c cs)
    (either (c == 34) (file_at c cs) (sign_at c cs)
    (λ e. either (list_any (λ d. d == 34) cs) name stray (λ f. other_spelled name (library_or_other _)) (other_spelled stray refl))
    (other_spelled (sign_at c cs) (found_sign (λ s. starts_with nat_eq (c ∷ cs) s.0) signs stray refl refl)))))

abbrev pub FirstSpelled : List tokens.Mark → Type 0
FirstSpelled [] = Unit {0}
FirstSpelled (m ∷ ms) = IsSpelledMark m

front_spelled : (c : ℕ) (cs : List ℕ) (at : Place) → FirstSpelled (mark_at (front_of c cs) at)
front_spelled c cs at = by_blank (is_blank c) (starts_with nat_eq (c ∷ cs) (codes "//"))
  where
    by_column : (b : Bool) (text : List ℕ) → FirstSpelled (cond b (tokens.line text ∷ []) [])
    by_column true text = tt
    by_column false text = tt

    by_blank : (b s : Bool) → FirstSpelled (mark_at (cond b (blank c) (cond s (comment (c ∷ run (λ d. not (d == 10)) cs)) (one (piece_at c cs)))) at)
    by_blank true s = tt
    by_blank false true = by_column (at.col == 1) (c ∷ run (λ d. not (d == 10)) cs)
    by_blank false false = piece_spelled c cs

-- what stands at the front was passed: the marks behind it follow
pub front_passed : (from to : Cursor) (c : ℕ) (cs : List ℕ) → ahead from ≡ c ∷ cs → Passes from to (front_text (front_of c cs))
    → PassesMark from (mark_at (front_of c cs) from.place) to
front_passed from to c cs e p =
    let text : List ℕ = front_text (front_of c cs) in
    let behind : drop (length text) (c ∷ cs) ≡ ahead to = ap (drop (length text)) (sym e ∙ p.characters) ∙ drop-append_seam text (ahead to) in
    record {
      marks =
          ap (marks_from from.place) e ∙ marks_from-cons from.place c cs
          ∙ ap (λ (z : List ℕ). mark_at (front_of c cs) from.place ++ marks_from (behind_all from.place text) z) behind
          ∙ ap (λ z. mark_at (front_of c cs) from.place ++ marks_from z (ahead to)) (sym p.place);
      end = ap (behind_all from.place) p.characters ∙ behind_all-append text (ahead to) from.place ∙ ap (λ z. behind_all z (ahead to)) (sym p.place);
    }

pub front_shorter : (from to : Cursor) (c : ℕ) (cs : List ℕ) → Passes from to (front_text (front_of c cs)) → length (ahead to) < length (ahead from)
front_shorter from to c cs p =
    let l : 0 < length (front_text (front_of c cs)) = front_proper c cs in
    omega (arith, ap length p.characters, length-append (front_text (front_of c cs)) (ahead to))

-- a mark, or a gap, was passed
pub mark_passed : (from next to : Cursor) (c : ℕ) (mark : Option Mark) → Passes from next (c ∷ []) → ReadsFront from (mark, to) (front_of c (ahead next))
    → PassesMark from (mark_list mark) to
mark_passed from next to c mark p r =
    rw r.mark (front_passed from to c (ahead next) p.characters r.passes)

pub marks_join : (a b c : Cursor) (mark : Option Mark) → upcoming a ≡ upcoming b → end_place a ≡ end_place b → PassesMark b (mark_list mark) c → PassesMark a (mark_list mark) c
marks_join a b c mark e f p = record { marks = e ∙ p.marks; end = f ∙ p.end }

pub none_left : (here : Cursor) → ahead here ≡ [] → (upcoming here ≡ []) × (end_place here ≡ here.place)
none_left here e = (ap (marks_from here.place) e ∙ marks_from-nil here.place, ap (behind_all here.place) e)

pub given_next : (self here next : Cursor) (c : ℕ) (read : Option Mark × Cursor) → is_some read.0 ≡ true → upcoming self ≡ upcoming here → end_place self ≡ end_place here
    → length (ahead here) ≤ length (ahead self) → Passes here next (c ∷ []) → ReadsFront here read (front_of c (ahead next)) → GivesNext self read.0 read.1
given_next self here next c (None, to) s e f l p r = cc
given_next self here next c (Some m, to) s e f l p r =
    let short : length (ahead to) < length (ahead here) = front_shorter here to c (ahead next) r.passes in
    (marks_join self here to (Some m) e f (mark_passed here next to c (Some m) p r), omega arith, let P : List tokens.Mark → Type 0 = FirstSpelled in subst P (sym r.mark) (front_spelled c (ahead next) here.place))

-- where no mark was read, the same marks come
pub record Goes (self to : Cursor) : Type 0 where
  pub marks : upcoming self ≡ upcoming to
  pub end : end_place self ≡ end_place to

pub gap_passed : (self here next : Cursor) (c : ℕ) (read : Option Mark × Cursor) → is_some read.0 ≡ false → upcoming self ≡ upcoming here → end_place self ≡ end_place here
    → Passes here next (c ∷ []) → ReadsFront here read (front_of c (ahead next)) → Goes self read.1
gap_passed self here next c (None, to) s e f p r =
    let m = marks_join self here to None e f (mark_passed here next to c None p r) in
    record { marks = m.marks; end = m.end }
gap_passed self here next c (Some m, to) s e f p r = cc
