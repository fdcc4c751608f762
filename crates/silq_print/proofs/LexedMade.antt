-- What the tokens of a text are made of.
use Rattle.std.proofs.Common.{◌≡◌, ℕ, zero, suc, ◌≤◌, Bool, true, false, cond, not, ◌==◌, List, [], ◌∷◌, Option, Some, None, drop, length, take_while, nat_eq, nat_le, leb-true, refl}
use Rattle.std.specs.Prelude.{codes, encode_utf8_all}
use Rattle.std.specs.List.{starts_with}
use Rattle.silq_lex.specs.declared.token.Place.{Place}
use Rattle.silq_lex.specs.declared.token.TokenKind.{TokenKind}
use Rattle.silq_lex.specs.declared.token.TokenKind.TheVariants.{Name, Word, Number, Sign}
use Rattle.silq_lex.specs.declared.token.LexCause.TheVariants as causes
use Rattle.silq_lex.specs.Characters.{is_blank}
use Rattle.silq_lex.specs.Kinds.{kind_of, number_of}
use Rattle.silq_lex.specs.Longest.{longest}
use Rattle.silq_lex.specs.Tokens.{Located, Tokens, Front, gap, token, fault, front_of, closed, kinded, token_or_fault, is_token, through_close, put_in_front, behind_all, tokens_within, tokens_from, tokens_of}

-- characters of this kind; a number is small
pub record IsOfKind (kind : TokenKind) (cs : List ℕ) : Type 0 where
  pub kind_is : kind_of cs ≡ Some kind
  pub small : kind ≡ Number → number_of cs ≤ 9223372036854775807

-- the token's bytes are characters of its kind
abbrev pub IsMade : Located → Type 0
IsMade l = (cs : List ℕ) × (l.text ≡ encode_utf8_all cs) × IsOfKind l.kind cs

abbrev pub AreMade : List Located → Type 0
AreMade [] = Unit {0}
AreMade (l ∷ ls) = IsMade l × AreMade ls

abbrev FrontMade : Front → Type 0
FrontMade (gap text) = Unit {0}
FrontMade (token kind text) = IsOfKind kind text
FrontMade (fault cause) = Unit {0}

either : (b : Bool) (F G : Front) → (b ≡ true → FrontMade F) → FrontMade G → FrontMade (cond b F G)
either true F G f g = f refl
either false F G f g = g

closed_made : (o : Option (List ℕ)) → FrontMade (closed o)
closed_made None = tt
closed_made (Some more) = tt

kinded_made : (o : Option TokenKind) (text : List ℕ) → kind_of text ≡ o → FrontMade (kinded o text)
kinded_made None text e = tt
kinded_made (Some Name) text e = record { kind_is = e; small = λ k. cc }
kinded_made (Some Word) text e = record { kind_is = e; small = λ k. cc }
kinded_made (Some Number) text e =
    either (nat_le (number_of text) 9223372036854775807) (token Number text) (fault causes.Number)
    (λ h. record { kind_is = e; small = λ k. leb-true (number_of text) 9223372036854775807 h }) tt
kinded_made (Some Sign) text e = record { kind_is = e; small = λ k. cc }

token_made : (o : Option (List ℕ)) → FrontMade (token_or_fault o)
token_made None = tt
token_made (Some text) = kinded_made (kind_of text) text refl

front_made : (c : ℕ) (cs : List ℕ) → FrontMade (front_of c cs)
front_made c cs =
    let blank : Front = gap (c ∷ []) in
    let here : Front = token_or_fault (longest is_token (c ∷ cs)) in
    let comment : Front = closed (through_close (drop 1 cs)) in
    let line : Front = gap (c ∷ take_while (λ d. not (d == 10)) cs) in
    let others : Front = cond (is_blank c) blank here in
    either (starts_with nat_eq (c ∷ cs) (codes "//")) line (cond (starts_with nat_eq (c ∷ cs) (codes "/*")) comment others) (λ _. tt)
    (either (starts_with nat_eq (c ∷ cs) (codes "/*")) comment others (λ _. closed_made (through_close (drop 1 cs)))
    (either (is_blank c) blank here (λ _. tt) (token_made (longest is_token (c ∷ cs)))))

put_made : (F : Front) (at : Place) (others : List ℕ → Tokens) → FrontMade F → ((text : List ℕ) → AreMade (others text).items) → AreMade (put_in_front F at others).items
put_made (gap text) at others f h = h text
put_made (token kind text) at others f h = ((text, refl, f), h text)
put_made (fault cause) at others f h = tt

within_made : (n : ℕ) (at : Place) (cs : List ℕ) → AreMade (tokens_within n at cs).items
unfolding tokens_within
within_made n at [] = tt
within_made zero at (c ∷ cs) = tt
within_made (suc n) at (c ∷ cs) =
    put_made (front_of c cs) at _ (front_made c cs) (λ text. within_made n (behind_all at text) (drop (length text) (c ∷ cs)))

pub tokens_made : (cs : List ℕ) → AreMade (tokens_of cs).items
unfolding tokens_of tokens_from
tokens_made cs = within_made (length cs) (record { start = 0; line = 1; col = 1 }) cs
