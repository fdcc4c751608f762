-- Tokens that were read.
use Rattle.std.proofs.Common.{◌≡◌, ℕ, ◌^◌, ◌<◌, ◌≤◌, Bool, true, false, List, [], ◌∷◌, ◌++◌, Option, Some, None, Ok, Err, length, drop, if◌then◌else◌, refl, sym, ◌∙◌, ap, subst, arith}
use Rattle.std.specs.Prelude.{nat_le, encode_utf8_all}
use Rattle.std.specs.List.{list_all}
use Rattle.std.specs.Str.{chars}
use Rattle.silq_lex.specs.declared.token.TokenKind.{TokenKind}
use Rattle.silq_lex.specs.declared.token.TokenKind.TheVariants.{Name, Word, Number, Sign}
use Rattle.silq_lex.specs.declared.token.Token.{Token}
use Rattle.silq_lex.specs.declared.token.Place.{Place}
use Rattle.silq_lex.specs.declared.token.LexFault.{LexFault}
use Rattle.silq_lex.specs.Laws.{IsLongest}
use Rattle.silq_lex.specs.declared.token.LexCause.TheVariants as causes
use Rattle.silq_lex.specs.declared.cursor.Cursor.{Cursor}
use Rattle.silq_lex.specs.Characters.{is_digit, starts_name, continues_name}
use Rattle.silq_lex.specs.Kinds.{is_name, is_number, is_one_of, signs, kind_of, number_of}
use Rattle.silq_lex.specs.Longest.{longest}
use Rattle.silq_lex.specs.Runs.{run, past}
use Rattle.silq_lex.specs.Tokens.{Front, End, Fault, front_of, put_in_front, with_first, ends, tokens_from, token, fault, located, located_of, fault_at, kinded, token_or_fault, is_token, behind_all}
use Rattle.silq_lex.specs.Cursors.{Passes, HasKind, IsPastGaps, upcoming, IsThere, behind_front, ReadsToken}
use Rattle.std.proofs.Math.Seq.{drop-append_seam}
use Rattle.std.proofs.lemmas.Bool.{leb-true}
use Rattle.silq_lex.proofs.Steps.{tokens_from-nil, tokens_from-cons}
use Rattle.silq_lex.proofs.Longests.{all_run, longest_is}
use Rattle.silq_lex.proofs.Passing.{passes_join, passes_run, passes_there}
use Rattle.silq_lex.proofs.Reading.{longest_name, longest_number, longest_sign, longest_other, digit_no_name}
use Rattle.silq_lex.proofs.Texts.{and_true}

pub passes_on : (test : ℕ → Bool) (from next to : Cursor) (c : ℕ) → Passes from next (c ∷ []) → to.place ≡ behind_all next.place (run test (chars next.rest.now))
    → chars to.rest.now ≡ past test (chars next.rest.now) → Passes from to (c ∷ run test (chars next.rest.now))
passes_on test from next to c p e f = passes_join from next to (c ∷ []) (run test (chars next.rest.now)) p (passes_run test next to e f)

pub is_name_on : (c : ℕ) (cs : List ℕ) → starts_name c ≡ true → is_name (c ∷ run continues_name cs) ≡ true
is_name_on c cs e = and_true _ _ e (all_run continues_name cs)

pub is_number_on : (c : ℕ) (cs : List ℕ) → is_digit c ≡ true → is_number (c ∷ run is_digit cs) ≡ true
is_number_on c cs e = and_true _ _ e (all_run is_digit cs)

-- the fields of a token that was made
pub record IsMade (t : Token) (k : TokenKind) (bytes : List ℕ) (at : Place) : Type 0 where
  pub kind : t.kind ≡ k
  pub text : t.text.now ≡ bytes
  pub start : t.start ≡ at.start
  pub line : t.line ≡ at.line
  pub col : t.col ≡ at.col

made_located : (t : Token) (k : TokenKind) (text : List ℕ) (at : Place) → IsMade t k (encode_utf8_all text) at → located_of t ≡ located t.kind text at
made_located t k text at m =
    λ i. record { kind = t.kind; text = m.text i; at = record { start = m.start i; line = m.line i; col = m.col i } }

-- a token was read
reads : (from to : Cursor) (t : Token) (k : TokenKind) (text : List ℕ) → longest is_token (chars from.rest.now) ≡ Some text → kinded (kind_of text) text ≡ token k text
    → IsMade t k (encode_utf8_all text) from.place → chars t.text.now ≡ text → Passes from to text → ReadsToken from (Ok (t, to))
reads from to t k text e f m u p = (text, ap token_or_fault e ∙ f ∙ ap (λ z. token z text) (sym m.kind), made_located t k text from.place m, p, u)

pub reads_name : (from next to : Cursor) (c : ℕ) (t : Token) (k : TokenKind) (characters bytes : List ℕ) → Passes from next (c ∷ []) → starts_name c ≡ true
    → Passes from to (c ∷ run continues_name (chars next.rest.now)) → characters ≡ c ∷ run continues_name (chars next.rest.now) → bytes ≡ encode_utf8_all (c ∷ run continues_name (chars next.rest.now))
    → kinded (kind_of characters) characters ≡ token k characters → IsMade t k bytes from.place → chars t.text.now ≡ characters → ReadsToken from (Ok (t, to))
reads_name from next to c t k characters bytes p e q f g h m u =
    reads from to t k (c ∷ run continues_name (chars next.rest.now)) (ap (longest is_token) p.characters ∙ longest_name c (chars next.rest.now) e)
    (let P : List ℕ → Type 0 = λ z. kinded (kind_of z) z ≡ token k z in subst P f h) (rw (← g) m) (u ∙ f) q

number_is : (c : ℕ) (cs : List ℕ) → is_digit c ≡ true → kind_of (c ∷ run is_digit cs) ≡ Some Number
number_is c cs e = let n = digit_no_name c e in let m : list_all is_digit (run is_digit cs) ≡ true = all_run is_digit cs in simp (n, e, m)

pub reads_number : (from next to : Cursor) (c : ℕ) (t : Token) (characters bytes : List ℕ) → Passes from next (c ∷ []) → is_digit c ≡ true
    → Passes from to (c ∷ run is_digit (chars next.rest.now)) → characters ≡ c ∷ run is_digit (chars next.rest.now) → bytes ≡ encode_utf8_all (c ∷ run is_digit (chars next.rest.now))
    → nat_le (number_of characters) 9223372036854775807 ≡ true → IsMade t Number bytes from.place → chars t.text.now ≡ characters → ReadsToken from (Ok (t, to))
reads_number from next to c t characters bytes p e q f g h m u =
    let text = c ∷ run is_digit (chars next.rest.now) in
    let fits : nat_le (number_of text) 9223372036854775807 ≡ true = ap (λ z. nat_le (number_of z) 9223372036854775807) (sym f) ∙ h in
    reads from to t Number text (ap (longest is_token) p.characters ∙ longest_number c (chars next.rest.now) e)
    (ap (λ k. kinded k text) (number_is c (chars next.rest.now) e) ∙ ap (λ b. if b then token Number text else fault causes.Number) fits) (rw (← g) m) (u ∙ f) q

pub fault_number : (from next : Cursor) (c : ℕ) (f : LexFault) (characters : List ℕ) → Passes from next (c ∷ []) → is_digit c ≡ true
    → characters ≡ c ∷ run is_digit (chars next.rest.now) → nat_le (number_of characters) 9223372036854775807 ≡ false → f ≡ fault_at from.place causes.Number
    → ReadsToken from (Err f)
fault_number from next c f characters p e g h k =
    let text = c ∷ run is_digit (chars next.rest.now) in
    let large : nat_le (number_of text) 9223372036854775807 ≡ false = ap (λ z. nat_le (number_of z) 9223372036854775807) (sym g) ∙ h in (
      causes.Number,
      ap (λ cs. token_or_fault (longest is_token cs)) p.characters ∙ ap token_or_fault (longest_number c (chars next.rest.now) e)
          ∙ ap (λ k. kinded k text) (number_is c (chars next.rest.now) e) ∙ ap (λ b. if b then token Number text else fault causes.Number) large,
      k,
    )

-- what was found of a sign
found_sign : (c : ℕ) (cs : List ℕ) (o : Option (List ℕ)) → longest (λ front. is_one_of signs (c ∷ front)) cs ≡ o → (found : List ℕ) → o ≡ Some found
    → ((rest : List ℕ) × (cs ≡ found ++ rest)) × (is_one_of signs (c ∷ found) ≡ true)
found_sign c cs o e found f = of (longest (λ front. is_one_of signs (c ∷ front)) cs) (longest_is (λ front. is_one_of signs (c ∷ front)) cs) (e ∙ f)
  where
    of : (o : Option (List ℕ)) → IsLongest (λ front. is_one_of signs (c ∷ front)) cs o → o ≡ Some found → ((rest : List ℕ) × (cs ≡ found ++ rest)) × (is_one_of signs (c ∷ found) ≡ true)
    of None h k = cc
    of (Some x) h k =
        let y : x ≡ found = cc in
        ((h.0.0, h.0.1 ∙ ap (λ z. z ++ h.0.0) y), ap (λ z. is_one_of signs (c ∷ z)) (sym y) ∙ h.1)

-- the sign that was passed
pub record IsSign (from to : Cursor) (text : List ℕ) : Type 0 where
  pub passes : Passes from to text
  pub longest_is : longest is_token (chars from.rest.now) ≡ Some text
  pub kind : kind_of text ≡ Some Sign

pub sign_passed : (from next to : Cursor) (c : ℕ) → Passes from next (c ∷ []) → starts_name c ≡ false → is_digit c ≡ false
    → IsThere (Some to) (behind_front next.place (chars next.rest.now) (longest (λ front. is_one_of signs (c ∷ front)) (chars next.rest.now)))
    → (text : List ℕ) × IsSign from to text
sign_passed from next to c p e f h = of (longest (λ front. is_one_of signs (c ∷ front)) (chars next.rest.now)) refl h
  where
    of : (o : Option (List ℕ)) → longest (λ front. is_one_of signs (c ∷ front)) (chars next.rest.now) ≡ o → IsThere (Some to) (behind_front next.place (chars next.rest.now) o)
        → (text : List ℕ) × IsSign from to text
    of None k h = absurd h
    of (Some found) k h =
        let (front, is_sign) = found_sign c (chars next.rest.now) _ k found refl in (
          c ∷ found,
          record {
            passes = passes_join from next to (c ∷ []) found p (passes_there next to found front.0 front.1 h);
            longest_is = ap (longest is_token) p.characters ∙ longest_sign c (chars next.rest.now) found e f k;
            kind = simp (e, f, is_sign);
          },
        )

pub reads_sign : (from to : Cursor) (t : Token) (text bytes : List ℕ) → IsSign from to text → bytes ≡ encode_utf8_all text → IsMade t Sign bytes from.place → chars t.text.now ≡ text → ReadsToken from (Ok (t, to))
reads_sign from to t text bytes s g m u =
    reads from to t Sign text s.longest_is (ap (λ k. kinded k text) s.kind) (rw (← g) m) u s.passes

pub fault_character : (from next : Cursor) (c : ℕ) (f : LexFault) → Passes from next (c ∷ []) → starts_name c ≡ false → is_digit c ≡ false
    → IsThere None (behind_front next.place (chars next.rest.now) (longest (λ front. is_one_of signs (c ∷ front)) (chars next.rest.now)))
    → f ≡ fault_at from.place causes.Character → ReadsToken from (Err f)
fault_character from next c f p e g h k = of (longest (λ front. is_one_of signs (c ∷ front)) (chars next.rest.now)) refl h
  where
    of : (o : Option (List ℕ)) → longest (λ front. is_one_of signs (c ∷ front)) (chars next.rest.now) ≡ o → IsThere None (behind_front next.place (chars next.rest.now) o)
        → ReadsToken from (Err f)
    of (Some found) l h = absurd h
    of None l h =
        (causes.Character, ap (λ cs. token_or_fault (longest is_token cs)) p.characters ∙ ap token_or_fault (longest_other c (chars next.rest.now) e g l), k)

-- the tokens from a cursor on, where a token or a fault stands there
step_here : (here : Cursor) (c : ℕ) (cs : List ℕ) (F : Front) → chars here.rest.now ≡ c ∷ cs → IsPastGaps (chars here.rest.now) → token_or_fault (longest is_token (chars here.rest.now)) ≡ F
    → upcoming here ≡ put_in_front F here.place (λ text. tokens_from (behind_all here.place text) (drop (length text) (c ∷ cs)))
step_here here c cs F e g r =
    let f : front_of c cs ≡ token_or_fault (longest is_token (c ∷ cs)) = rw e at g in
    ap (tokens_from here.place) e ∙ tokens_from-cons here.place c cs
    ∙ ap (λ G. put_in_front G here.place (λ text. tokens_from (behind_all here.place text) (drop (length text) (c ∷ cs)))) (f ∙ ap (λ z. token_or_fault (longest is_token z)) (sym e) ∙ r)

pub token_comes : (here end : Cursor) (c : ℕ) (cs : List ℕ) (t : Token) → chars here.rest.now ≡ c ∷ cs → IsPastGaps (chars here.rest.now) → ReadsToken here (Ok (t, end))
    → upcoming here ≡ with_first (located_of t) (upcoming end)
token_comes here end c cs t e g h =
    let text : List ℕ = h.0 in
    let p : Passes here end text = h.3 in
    let d : drop (length text) (c ∷ cs) ≡ chars end.rest.now = ap (drop (length text)) (sym e ∙ p.characters) ∙ drop-append_seam text _ in
    step_here here c cs (token t.kind text) e g h.1 ∙ ap (λ z. with_first (located t.kind text here.place) (tokens_from (behind_all here.place text) z)) d
    ∙ ap (λ z. with_first (located t.kind text here.place) (tokens_from z (chars end.rest.now))) (sym p.place) ∙ ap (λ z. with_first z (upcoming end)) (sym h.2)

pub fault_comes : (here : Cursor) (c : ℕ) (cs : List ℕ) (f : LexFault) → chars here.rest.now ≡ c ∷ cs → IsPastGaps (chars here.rest.now) → ReadsToken here (Err f)
    → upcoming here ≡ ends (Fault f)
fault_comes here c cs f e g h = step_here here c cs (fault h.0) e g h.1 ∙ ap (λ z. ends (Fault z)) (sym h.2)

pub end_comes : (here : Cursor) → chars here.rest.now ≡ [] → upcoming here ≡ ends (End here.place)
end_comes here e = ap (tokens_from here.place) e ∙ tokens_from-nil here.place

-- what a token at the front says of its kind
kinded_is : (o : Option TokenKind) (x text : List ℕ) (k : TokenKind) → kinded o x ≡ token k text → (x ≡ text) × (o ≡ Some k) × (k ≡ Number → number_of text < 2 ^ 63)
kinded_is None x text k e = cc
kinded_is (Some Name) x text k e = (cc, cc, λ f. cc)
kinded_is (Some Word) x text k e = (cc, cc, λ f. cc)
kinded_is (Some Sign) x text k e = (cc, cc, λ f. cc)
kinded_is (Some Number) x text k e = of (nat_le (number_of x) 9223372036854775807) refl e
  where
    of : (b : Bool) → nat_le (number_of x) 9223372036854775807 ≡ b → (if b then token Number x else fault causes.Number) ≡ token k text
        → (x ≡ text) × (Some Number ≡ Some k) × (k ≡ Number → number_of text < 2 ^ 63)
    of true h e = let y : x ≡ text = cc in (y, cc, λ f. let l : number_of x ≤ 9223372036854775807 = leb-true _ _ h in rw (← y) (omega arith))
    of false h e = cc

pub token_kind : (o : Option (List ℕ)) (text : List ℕ) (k : TokenKind) → token_or_fault o ≡ token k text → HasKind k text
token_kind None text k e = cc
token_kind (Some x) text k e =
    let h = kinded_is (kind_of x) x text k e in
    (ap kind_of (sym h.0) ∙ h.1, h.2)

pub kind_comes : (here end : Cursor) (t : Token) → ReadsToken here (Ok (t, end)) → HasKind t.kind (chars t.text.now)
kind_comes here end t h = rw h.4 (token_kind (longest is_token (chars here.rest.now)) h.0 t.kind h.1)
