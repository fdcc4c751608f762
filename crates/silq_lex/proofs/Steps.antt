-- The tokens from a place on, step by step.
use Rattle.std.proofs.Common.{◌≡◌, ℕ, zero, suc, ◌<◌, ◌≤◌, Bool, true, false, cond, List, [], ◌∷◌, Option, Some, None, length, drop, take_while, nat_eq, nat_le, ◌==◌, not, length-drop, refl, ap, arith}
use Rattle.silq_lex.specs.declared.token.Place.{Place}
use Rattle.silq_lex.specs.declared.token.TokenKind.{TokenKind}
use Rattle.silq_lex.specs.declared.token.TokenKind.TheVariants.{Name, Word, Number, Sign}
use Rattle.std.specs.Prelude.{codes}
use Rattle.std.specs.List.{starts_with}
use Rattle.silq_lex.specs.declared.token.LexCause.TheVariants as causes
use Rattle.silq_lex.specs.Characters.{is_blank}
use Rattle.silq_lex.specs.Kinds.{kind_of, number_of}
use Rattle.silq_lex.specs.Longest.{longest}
use Rattle.silq_lex.specs.Tokens.{Tokens, Front, gap, token, fault, End, front_of, closed, kinded, token_or_fault, is_token, through_close, put_in_front, located, with_first, ends, behind_all, tokens_within, tokens_from}
use Rattle.silq_lex.proofs.Longests.{found_passes}

-- a blank, a comment and a token have a character
abbrev IsProper : Front → Type 0
IsProper (gap text) = 0 < length text
IsProper (token kind text) = 0 < length text
IsProper (fault cause) = Unit {0}

either : (b : Bool) (F G : Front) → IsProper F → IsProper G → IsProper (cond b F G)
either true F G f g = f
either false F G f g = g

closed_proper : (o : Option (List ℕ)) → IsProper (closed o)
closed_proper None = tt
closed_proper (Some more) = omega arith

kinded_proper : (o : Option TokenKind) (text : List ℕ) → 0 < length text → IsProper (kinded o text)
kinded_proper None text h = tt
kinded_proper (Some Name) text h = h
kinded_proper (Some Word) text h = h
kinded_proper (Some Number) text h = either (nat_le (number_of text) 9223372036854775807) (token Number text) (fault causes.Number) h tt
kinded_proper (Some Sign) text h = h

has_character : (text : List ℕ) → is_token text ≡ true → 0 < length text
has_character [] e = cc
has_character (c ∷ cs) e = omega arith

token_proper : (o : Option (List ℕ)) → ((text : List ℕ) → o ≡ Some text → is_token text ≡ true) → IsProper (token_or_fault o)
token_proper None h = tt
token_proper (Some text) h = kinded_proper (kind_of text) text (has_character text (h text refl))

front_proper : (c : ℕ) (cs : List ℕ) → IsProper (front_of c cs)
front_proper c cs =
    let blank : Front = gap (c ∷ []) in
    let here : Front = token_or_fault (longest is_token (c ∷ cs)) in
    let here_proper : IsProper here = token_proper (longest is_token (c ∷ cs)) (λ text e. found_passes is_token (c ∷ cs) text e) in
    let comment : Front = closed (through_close (drop 1 cs)) in
    let line : Front = gap (c ∷ take_while (λ d. not (d == 10)) cs) in
    let others : Front = cond (is_blank c) blank here in
    either (starts_with nat_eq (c ∷ cs) (codes "//")) line (cond (starts_with nat_eq (c ∷ cs) (codes "/*")) comment others) (omega arith)
    (either (starts_with nat_eq (c ∷ cs) (codes "/*")) comment others (closed_proper _) (either (is_blank c) blank here (omega arith) here_proper))

put_same : (F : Front) (at : Place) (f g : List ℕ → Tokens) → IsProper F → ((text : List ℕ) → 0 < length text → f text ≡ g text) → put_in_front F at f ≡ put_in_front F at g
put_same (gap text) at f g p h = h text p
put_same (token kind text) at f g p h = ap (with_first (located kind text at)) (h text p)
put_same (fault cause) at f g p h = refl

enough : (m n : ℕ) (at : Place) (cs : List ℕ) → length cs ≤ m → length cs ≤ n → tokens_within m at cs ≡ tokens_within n at cs
unfolding tokens_within
enough m n at [] h k = refl
enough zero n at (c ∷ cs) h k = absurd (omega arith)
enough (suc m) zero at (c ∷ cs) h k = absurd (omega arith)
enough (suc m) (suc n) at (c ∷ cs) h k =
    put_same (front_of c cs) at _ _ (front_proper c cs)
    (λ text l. enough m n (behind_all at text) (drop (length text) (c ∷ cs)) (omega (arith, length-drop (length text) (c ∷ cs))) (omega (arith, length-drop (length text) (c ∷ cs))))

pub tokens_from-nil : (at : Place) → tokens_from at [] ≡ ends (End at)
unfolding tokens_from tokens_within
tokens_from-nil at = refl

pub tokens_from-cons : (at : Place) (c : ℕ) (cs : List ℕ)
    → tokens_from at (c ∷ cs) ≡ put_in_front (front_of c cs) at (λ text. tokens_from (behind_all at text) (drop (length text) (c ∷ cs)))
unfolding tokens_from tokens_within
tokens_from-cons at c cs =
    put_same (front_of c cs) at _ _ (front_proper c cs)
    (λ text l. enough (length cs) (length (drop (length text) (c ∷ cs))) (behind_all at text) (drop (length text) (c ∷ cs)) (omega (arith, length-drop (length text) (c ∷ cs))) (omega arith))
