-- The parts of a line, and the marks that they leave.
use Rattle.std.proofs.Common.{◌≡◌, ℕ, ◌<◌, ◌^◌, Bool, true, false, ◌&&◌, List, [], ◌∷◌, ◌++◌, map, nat_eq, nat_lt, decimal, refl, sym, ◌∙◌, ap, arith, append_assoc, lt-ltb, eqb-true}
use Rattle.std.specs.Prelude.{codes, if◌then◌else◌}
use Rattle.std.specs.List.{starts_with, list_all}
use Rattle.silq_lex.specs.declared.token.Place.{Place}
use Rattle.silq_lex.specs.Characters.{is_digit}
use Rattle.silq_lex.specs.Runs.{run}
use Rattle.silq_lex.specs.Tokens.{behind_all}
use Rattle.silq_lex.proofs.Passing.{behind_all-append}
use Rattle.silq_lex.proofs.Texts.{and_left, and_right, and_true}
use Rattle.qasm_tokens.specs.declared.kind.Kind.{Kind}
use Rattle.qasm_tokens.specs.declared.kind.Kind.TheVariants as k
use Rattle.qasm_tokens.specs.Words.{Piece, piece, digits_at, number_kind, word_kind, goes_on}
use Rattle.qasm_tokens.specs.Tokens.{Token, token, Front, blank, one, front_of, front_text, mark_at, marks_from}
use Rattle.qasm_tokens.proofs.Steps.{marks_of_front, run_before}
use Rattle.read_laws.proofs.Decimals.{IsSpelled, Spelling, spelled, digits_of, high_digit, not_low, not_high, digit_blank, digit_letter, digits_go_on, digits_are}

-- a part of a line: a space, or a token
pub data Part : Type 0 where
  space : Part
  word : Piece → Part

abbrev pub part_front : Part → Front
part_front space = blank 32
part_front (word p) = one p

abbrev pub part_text : Part → List ℕ
part_text p = front_text (part_front p)

-- the text of parts, their kinds, and their tokens from a place on
abbrev pub text_of_parts : List Part → List ℕ
text_of_parts [] = []
text_of_parts (p ∷ ps) = part_text p ++ text_of_parts ps

abbrev pub kinds_of : List Part → List Kind
kinds_of [] = []
kinds_of (space ∷ ps) = kinds_of ps
kinds_of (word p ∷ ps) = p.kind ∷ kinds_of ps

abbrev pub tokens_at : Place → List Part → List Token
tokens_at at [] = []
tokens_at at (space ∷ ps) = tokens_at (behind_all at (part_text space)) ps
tokens_at at (word p ∷ ps) = record { kind = p.kind; text = p.text; at = at } ∷ tokens_at (behind_all at (part_text (word p))) ps

abbrev pub is_ascii : ℕ → Bool
is_ascii c = nat_lt c 128

-- the part is what stands at the front, with these characters behind it
pub record Stands (p : Part) (behind : List ℕ) : Type 0 where
  pub first : ℕ
  pub rest : List ℕ
  pub text : part_text p ≡ first ∷ rest
  pub front : front_of first (rest ++ behind) ≡ part_front p
  pub ascii : list_all is_ascii (first ∷ rest) ≡ true

abbrev pub StandInTurn : List Part → List ℕ → Type 0
StandInTurn [] behind = Unit {0}
StandInTurn (p ∷ ps) behind = Stands p (text_of_parts ps ++ behind) × StandInTurn ps behind

mark_first : (p : Part) (behind : List ℕ) (at : Place) → Stands p behind
    → marks_from at (part_text p ++ behind) ≡ mark_at (part_front p) at ++ marks_from (behind_all at (part_text p)) behind
mark_first p behind at s =
    ap (λ w. marks_from at (w ++ behind)) s.text
    ∙ marks_of_front at s.first s.rest behind (part_front p) s.front s.text
    ∙ ap (λ w. mark_at (part_front p) at ++ marks_from (behind_all at w) behind) (sym s.text)

-- the marks of parts are their tokens
pub marks_of_parts : (ps : List Part) (behind : List ℕ) (at : Place) → StandInTurn ps behind
    → marks_from at (text_of_parts ps ++ behind) ≡ map token (tokens_at at ps) ++ marks_from (behind_all at (text_of_parts ps)) behind
marks_of_parts [] behind at h = refl
marks_of_parts (space ∷ ps) behind at h =
    mark_first space (text_of_parts ps ++ behind) at h.0 ∙ marks_of_parts ps behind (behind_all at (part_text space)) h.1
marks_of_parts (word p ∷ ps) behind at h =
    ap (marks_from at) (append_assoc (part_text (word p)) (text_of_parts ps) behind)
    ∙ mark_first (word p) (text_of_parts ps ++ behind) at h.0
    ∙ ap (λ ms. mark_at (one p) at ++ ms) (marks_of_parts ps behind (behind_all at (part_text (word p))) h.1)
    ∙ ap (λ q. (mark_at (one p) at ++ map token (tokens_at (behind_all at (part_text (word p))) ps)) ++ marks_from q behind)
    (sym (behind_all-append (part_text (word p)) (text_of_parts ps) at))

pub all_both : (test : ℕ → Bool) (xs ys : List ℕ) → list_all test xs ≡ true → list_all test ys ≡ true → list_all test (xs ++ ys) ≡ true
all_both test [] ys h k = k
all_both test (x ∷ xs) ys h k = and_true _ _ (and_left _ _ h) (all_both test xs ys (and_right (test x) _ h) k)

pub ascii_append : (xs ys : List ℕ) → list_all is_ascii xs ≡ true → list_all is_ascii ys ≡ true → list_all is_ascii (xs ++ ys) ≡ true
ascii_append xs ys h k = all_both is_ascii xs ys h k

-- parts that stand in turn are of ASCII
pub ascii_of_parts : (ps : List Part) (behind : List ℕ) → StandInTurn ps behind → list_all is_ascii (text_of_parts ps) ≡ true
ascii_of_parts [] behind h = refl
ascii_of_parts (p ∷ ps) behind h =
    ascii_append (part_text p) (text_of_parts ps) (ap (list_all is_ascii) h.0.text ∙ h.0.ascii) (ascii_of_parts ps behind h.1)

-- ---- numbers

digit_ascii : (c : ℕ) → is_digit c ≡ true → is_ascii c ≡ true
digit_ascii c e = let l = high_digit c e in lt-ltb c 128 (omega arith)

pub digits_ascii : (cs : List ℕ) → list_all is_digit cs ≡ true → list_all is_ascii cs ≡ true
digits_ascii cs h = digits_are is_ascii digit_ascii cs h

-- what may stand behind a number
pub record Ends (d : ℕ) : Type 0 where
  pub no_digit : is_digit d ≡ false
  pub no_dot : nat_eq 46 d ≡ false

and_false : (b : Bool) → (b && false) ≡ false
and_false true = refl
and_false false = refl

no_version : (c d : ℕ) (cs rest : List ℕ) → list_all is_digit cs ≡ true → Ends d → starts_with nat_eq (c ∷ (cs ++ d ∷ rest)) (codes "2.0") ≡ false
no_version c d [] rest h e = rw e.no_dot (and_false (nat_eq 50 c))
no_version c d (x ∷ cs) rest h e = rw (not_low 46 x (omega arith) (and_left _ _ h)) (and_false (nat_eq 50 c))

run_digits : (n c d : ℕ) (cs rest : List ℕ) → IsSpelled n c cs → Ends d → digits_at c (cs ++ d ∷ rest) ≡ c ∷ cs
run_digits n c d cs rest s e = of (nat_eq c 48) refl
  where
    of : (b : Bool) → nat_eq c 48 ≡ b → (if b then c ∷ [] else c ∷ run is_digit (cs ++ d ∷ rest)) ≡ c ∷ cs
    of true f = ap (λ z. c ∷ z) (sym (s.plain (eqb-true c 48 f)))
    of false f = ap (λ z. c ∷ z) (run_before is_digit cs d rest (and_right (is_digit c) _ s.all) e.no_digit)

kind_of_number : (n c : ℕ) (cs : List ℕ) → IsSpelled n c cs → n < 2 ^ 32 → number_kind (c ∷ cs) ≡ k.Number
kind_of_number n c cs s h = rw (s.value, lt-ltb n (2 ^ 32) h) refl

number_front : (n c d : ℕ) (cs rest : List ℕ) → IsSpelled n c cs → Ends d → n < 2 ^ 32 → front_of c (cs ++ d ∷ rest) ≡ one (piece k.Number (c ∷ cs))
number_front n c d cs rest s e h =
    let digit : is_digit c ≡ true = and_left _ _ s.all in
    rw (
      digit_blank c digit,
      not_low 47 c (omega arith) digit,
      digit_letter c digit,
      no_version c d cs rest (and_right (is_digit c) _ s.all) e,
      digit,
      run_digits n c d cs rest s e,
      kind_of_number n c cs s h,
    ) refl

abbrev pub number : ℕ → Part
number n = word (piece k.Number (decimal n))

pub number_stands : (n d : ℕ) (rest : List ℕ) → Ends d → n < 2 ^ 32 → Stands (number n) (d ∷ rest)
number_stands n d rest e h =
    let s : Spelling n = spelled n (omega arith) in
    record {
      first = s.first;
      rest = s.rest;
      text = s.is.text;
      front = number_front n s.first d s.rest rest s.is e h ∙ ap (λ z. one (piece k.Number z)) (sym s.is.text);
      ascii = digits_ascii (s.first ∷ s.rest) s.is.all;
    }

-- ---- names of bits

abbrev pub bit_name : ℕ → List ℕ
bit_name n = 109 ∷ decimal n

abbrev pub bit_part : ℕ → Part
bit_part n = word (piece k.Lower (bit_name n))

bit_kind : (n c : ℕ) (cs : List ℕ) → IsSpelled n c cs → word_kind 109 (109 ∷ c ∷ cs) ≡ k.Lower
bit_kind n c cs s = rw (not_high 101 c (omega arith) (and_left _ _ s.all)) refl

pub bit_stands : (n d : ℕ) (rest : List ℕ) → goes_on d ≡ false → n < 2 ^ 64 → Stands (bit_part n) (d ∷ rest)
bit_stands n d rest e h =
    let s : Spelling n = spelled n h in
    let back : run goes_on (decimal n ++ d ∷ rest) ≡ decimal n = run_before goes_on (decimal n) d rest (digits_go_on (decimal n) (digits_of n h)) e in
    let kind : word_kind 109 (bit_name n) ≡ k.Lower = ap (λ z. word_kind 109 (109 ∷ z)) s.is.text ∙ bit_kind n s.first s.rest s.is in
    record {
      first = 109;
      rest = decimal n;
      text = refl;
      front = ap (λ z. one (piece (word_kind 109 (109 ∷ z)) (109 ∷ z))) back ∙ ap (λ z. one (piece z (bit_name n))) kind;
      ascii = digits_ascii (decimal n) (digits_of n h);
    }

-- ---- words and signs that are told by computing

pub closed : (p : Part) (c : ℕ) (cs behind : List ℕ) → part_text p ≡ c ∷ cs → front_of c (cs ++ behind) ≡ part_front p
    → list_all is_ascii (c ∷ cs) ≡ true → Stands p behind
closed p c cs behind t f a = record { first = c; rest = cs; text = t; front = f; ascii = a }
