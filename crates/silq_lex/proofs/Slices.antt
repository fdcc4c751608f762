-- Tokens are slices of the source, in order.
use Rattle.std.proofs.Common.{◌≡◌, ℕ, zero, suc, ◌+◌, ◌-◌, ◌≤◌, Bool, true, false, cond, not, ◌==◌, ◌++◌, List, [], ◌∷◌, Option, Some, None, length, drop, take_while, append_assoc, length-append, refl, sym, ◌∙◌, ap, arith}
use Rattle.std.proofs.Math.Seq.{drop-append_seam, take-append_seam}
use Rattle.std.proofs.lemmas.Bool.Decides.{Decides-eqb}
use Rattle.std.specs.Prelude.{nat_eq, nat_le, codes, slice_range, encode_utf8, encode_utf8_all}
use Rattle.std.specs.List.{starts_with}
use Rattle.std.proofs.lemmas.Str.{encodes-append}
use Rattle.silq_lex.specs.declared.token.TokenKind.{TokenKind}
use Rattle.silq_lex.specs.declared.token.TokenKind.TheVariants.{Name, Word, Number, Sign}
use Rattle.silq_lex.specs.declared.token.LexCause.TheVariants as causes
use Rattle.silq_lex.specs.declared.token.Place.{Place}
use Rattle.silq_lex.specs.Characters.{is_blank}
use Rattle.silq_lex.specs.Kinds.{kind_of, number_of}
use Rattle.silq_lex.specs.Longest.{longest}
use Rattle.silq_lex.specs.Laws.{IsLongest, AreSlices}
use Rattle.silq_lex.specs.Runs.{past}
use Rattle.silq_lex.specs.Tokens.{Located, Tokens, Front, gap, token, fault, front_of, closed, kinded, token_or_fault, is_token, through_close, put_in_front, behind, behind_all, tokens_within, tokens_from, tokens_of}
use Rattle.silq_lex.proofs.Texts.{and_left, and_right}
use Rattle.silq_lex.proofs.Longests.{run_past, longest_is}
use Rattle.silq_lex.proofs.Passing.{take_while-run, close_front}

-- what stands at the front of characters begins them
abbrev Begins : List ℕ → Front → Type 0
Begins cs (gap text) = (rest : List ℕ) × (cs ≡ text ++ rest)
Begins cs (token kind text) = (rest : List ℕ) × (cs ≡ text ++ rest)
Begins cs (fault cause) = Unit {0}

either : (cs : List ℕ) (b : Bool) (F G : Front) → (b ≡ true → Begins cs F) → Begins cs G → Begins cs (cond b F G)
either cs true F G f g = f refl
either cs false F G f g = g

closed_begins : (c : ℕ) (cs ds : List ℕ) (o : Option (List ℕ)) → c ∷ cs ≡ 47 ∷ 42 ∷ ds → ((text : List ℕ) → o ≡ Some text → (rest : List ℕ) × (ds ≡ text ++ rest)) → Begins (c ∷ cs) (closed o)
closed_begins c cs ds None e h = tt
closed_begins c cs ds (Some text) e h = let (rest, f) = h text refl in (rest, e ∙ ap (λ z. 47 ∷ 42 ∷ z) f)

star_next : (c : ℕ) (cs : List ℕ) → starts_with nat_eq (c ∷ cs) (codes "/*") ≡ true → c ∷ cs ≡ 47 ∷ 42 ∷ drop 1 cs
star_next c [] e = let f : false ≡ true = and_right (nat_eq 47 c) false e in absurd (cc)
star_next c (d ∷ cs) e =
    let x : 47 ≡ c = (Decides-eqb 47 c).0 (and_left _ _ e) in
    let y : 42 ≡ d = (Decides-eqb 42 d).0 (and_left _ _ (and_right _ _ e)) in
    ap (λ z. z ∷ d ∷ cs) (sym x) ∙ ap (λ z. 47 ∷ z ∷ cs) (sym y)

kinded_begins : (cs : List ℕ) (o : Option TokenKind) (text rest : List ℕ) → cs ≡ text ++ rest → Begins cs (kinded o text)
kinded_begins cs None text rest e = tt
kinded_begins cs (Some Name) text rest e = (rest, e)
kinded_begins cs (Some Word) text rest e = (rest, e)
kinded_begins cs (Some Number) text rest e =
    either cs (nat_le (number_of text) 9223372036854775807) (token Number text) (fault causes.Number) (λ _. (rest, e)) tt
kinded_begins cs (Some Sign) text rest e = (rest, e)

token_begins : (cs : List ℕ) (o : Option (List ℕ)) → IsLongest is_token cs o → Begins cs (token_or_fault o)
token_begins cs None h = tt
token_begins cs (Some text) h = kinded_begins cs (kind_of text) text h.0.0 h.0.1

front_begins : (c : ℕ) (cs : List ℕ) → Begins (c ∷ cs) (front_of c cs)
front_begins c cs =
    let not_feed : ℕ → Bool = λ d. not (d == 10) in
    let blank : Front = gap (c ∷ []) in
    let here : Front = token_or_fault (longest is_token (c ∷ cs)) in
    let comment : Front = closed (through_close (drop 1 cs)) in
    let line : Front = gap (c ∷ take_while not_feed cs) in
    let others : Front = cond (is_blank c) blank here in
    let line_begins : Begins (c ∷ cs) line =
    (past not_feed cs, ap (λ z. c ∷ z) (run_past not_feed cs ∙ ap (λ z. z ++ past not_feed cs) (sym (take_while-run not_feed cs)))) in
    either (c ∷ cs) (starts_with nat_eq (c ∷ cs) (codes "//")) line (cond (starts_with nat_eq (c ∷ cs) (codes "/*")) comment others) (λ _. line_begins)
    (either (c ∷ cs) (starts_with nat_eq (c ∷ cs) (codes "/*")) comment others
    (λ e. closed_begins c cs (drop 1 cs) (through_close (drop 1 cs)) (star_next c cs e) (λ text h. close_front (drop 1 cs) text h))
    (either (c ∷ cs) (is_blank c) blank here (λ _. (cs, refl)) (token_begins (c ∷ cs) (longest is_token (c ∷ cs)) (longest_is is_token (c ∷ cs)))))

start-behind_all : (text : List ℕ) (at : Place) → (behind_all at text).start ≡ at.start + length (encode_utf8_all text)
start-behind_all [] at = omega arith
start-behind_all (c ∷ cs) at =
    start-behind_all cs (behind at c) ∙ (let l = length-append (encode_utf8 c) (encode_utf8_all cs) in omega (arith, l))

later : (bytes : List ℕ) (m n : ℕ) (ts : List Located) → m ≤ n → AreSlices bytes n ts → AreSlices bytes m ts
later bytes m n [] h s = tt
later bytes m n (t ∷ ts) h s = (omega (arith, s.0), s.1, s.2)

-- the slice between a front and a rest
slice_between : (xs ys zs : List ℕ) (i : ℕ) → i ≡ length xs → slice_range (xs ++ (ys ++ zs)) i (i + length ys) ≡ ys
slice_between xs ys zs i e =
    let l : length xs + length ys - length xs ≡ length ys = omega arith in
    rw e (rw (drop-append_seam xs (ys ++ zs)) (rw l (take-append_seam ys zs)))

at_front : (bytes : List ℕ) (at : Place) (cs : List ℕ) (F : Front) (others : List ℕ → Tokens) → Begins cs F
    → ((text rest : List ℕ) → cs ≡ text ++ rest → (slice_range bytes at.start (at.start + length (encode_utf8_all text)) ≡ encode_utf8_all text)
    × AreSlices bytes (at.start + length (encode_utf8_all text)) (others text).items) → AreSlices bytes at.start (put_in_front F at others).items
at_front bytes at cs (gap text) others b h = later bytes _ _ _ (omega arith) (h text b.0 b.1).1
at_front bytes at cs (token kind text) others b h = (omega arith, (h text b.0 b.1).0, (h text b.0 b.1).1)
at_front bytes at cs (fault cause) others b h = tt

slices_within : (n : ℕ) (at : Place) (front cs : List ℕ) → at.start ≡ length (encode_utf8_all front) → AreSlices (encode_utf8_all (front ++ cs)) at.start (tokens_within n at cs).items
unfolding tokens_within
slices_within n at front [] e = tt
slices_within zero at front (c ∷ cs) e = tt
slices_within (suc n) at front (c ∷ cs) e =
    at_front (encode_utf8_all (front ++ c ∷ cs)) at (c ∷ cs) (front_of c cs) _ (front_begins c cs)
    (λ text rest f.
    let bytes : encode_utf8_all (front ++ c ∷ cs) ≡ encode_utf8_all front ++ (encode_utf8_all text ++ encode_utf8_all rest) =
    ap (λ z. encode_utf8_all (front ++ z)) f ∙ encodes-append front (text ++ rest) ∙ ap (λ z. encode_utf8_all front ++ z) (encodes-append text rest) in
    let start : (behind_all at text).start ≡ length (encode_utf8_all (front ++ text)) =
    start-behind_all text at ∙ (let l = length-append (encode_utf8_all front) (encode_utf8_all text) in let k = ap length (encodes-append front text) in omega (arith, l, k)) in
    let whole : (front ++ text) ++ drop (length text) (c ∷ cs) ≡ front ++ c ∷ cs =
    append_assoc front text _ ∙ ap (λ z. front ++ z) (ap (λ z. text ++ drop (length text) z) f ∙ ap (λ z. text ++ z) (drop-append_seam text rest) ∙ sym f) in (
      rw bytes (slice_between (encode_utf8_all front) (encode_utf8_all text) (encode_utf8_all rest) at.start e),
      rw (← whole, ← start-behind_all text at) (slices_within n (behind_all at text) (front ++ text) (drop (length text) (c ∷ cs)) start),
    ))

pub slices_of : (cs : List ℕ) → AreSlices (encode_utf8_all cs) 0 (tokens_of cs).items
unfolding tokens_of tokens_from
slices_of cs = slices_within (length cs) (record { start = 0; line = 1; col = 1 }) [] cs refl
