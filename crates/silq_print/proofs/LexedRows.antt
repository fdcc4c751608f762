-- The characters of printed tokens, and the tokens that are lexed from them.
use Rattle.std.proofs.Common.{◌≡◌, ℕ, ◌<◌, true, List, [], ◌∷◌, ◌++◌, refl, sym, ◌∙◌, ap, arith}
use Rattle.std.specs.Prelude.{is_some}
use Rattle.std.specs.Str.{all_scalars, encode_utf8_all}
use Rattle.std.proofs.Math.Utf8.{low_scalar}
use Rattle.std.proofs.lemmas.Str.{encodes-append, encode_ascii}
use Rattle.silq_lex.specs.declared.token.Place.{Place}
use Rattle.silq_lex.specs.Tokens.{Located, Tokens, End, behind, behind_all, tokens_from}
use Rattle.silq_lex.proofs.Steps.{tokens_from-nil}
use Rattle.silq_lex.proofs.Texts.{and_left, and_right, and_true}
use Rattle.silq_grammar.specs.declared.token.Token.{Token}
use Rattle.silq_grammar.specs.declared.token.Token.TheVariants.{Fixed}
use Rattle.silq_grammar.specs.declared.token.Terminal.TheVariants as t
use Rattle.silq_print.specs.Printed.{printed, token_text, blank_behind}
use Rattle.silq_print.proofs.LexedText.{IsSpace, feed_space, blank_space, first_token}
use Rattle.silq_print.proofs.LexedTokens.{Reads, IsReadable, AreReadable}

-- these are the tokens, one by one
abbrev pub AreRead : List (List ℕ) → List Token → List Located → Type 0
AreRead names [] [] = Unit {0}
AreRead names [] (l ∷ ls) = ⊥
AreRead names (t ∷ ts) [] = ⊥
AreRead names (t ∷ ts) (l ∷ ls) = Reads names t l.kind l.text × AreRead names ts ls

-- the tokens of a text without a lexical fault are these
pub record IsRead (names : List (List ℕ)) (ts : List Token) (tokens : Tokens) : Type 0 where
  pub items : AreRead names ts tokens.items
  pub place : Place
  pub ending : tokens.ending ≡ End place

-- the bytes are characters whose tokens are these
pub record IsRow (names : List (List ℕ)) (ts : List Token) (bytes : List ℕ) : Type 0 where
  pub characters : List ℕ
  pub bytes_of : bytes ≡ encode_utf8_all characters
  pub scalars : all_scalars characters ≡ true
  pub tokens : (at : Place) → IsRead names ts (tokens_from at characters)

space_behind : (token : Token) → IsSpace (blank_behind token)
space_behind (Fixed t.Semicolon at) = feed_space
space_behind (Fixed t.LeftBrace at) = feed_space
space_behind (Fixed t.RightBrace at) = feed_space
space_behind _ = blank_space

joined : (xs ys : List ℕ) → all_scalars xs ≡ true → all_scalars ys ≡ true → all_scalars (xs ++ ys) ≡ true
joined [] ys h k = k
joined (x ∷ xs) ys h k = and_true _ _ (and_left _ _ h) (joined xs ys (and_right _ _ h) k)

no_row : (names : List (List ℕ)) → IsRow names [] []
no_row names = record {
  characters = [];
  bytes_of = refl;
  scalars = refl;
  tokens = λ at. rw (tokens_from-nil at) (record { items = tt; place = at; ending = refl });
}

longer_row : (names : List (List ℕ)) (token : Token) (ts : List Token) (b : ℕ) (bytes : List ℕ) → IsSpace b → IsReadable names token → IsRow names ts bytes
    → IsRow names (token ∷ ts) (token_text names token ++ b ∷ bytes)
longer_row names token ts b bytes s r w =
    let c : ℕ = r.lexed.first in
    let cs : List ℕ = r.lexed.rest in
    let low : b < 42 = s.low in
    record {
      characters = (c ∷ cs) ++ b ∷ w.characters;
      bytes_of = ap (λ z. z ++ b ∷ bytes) r.lexed.bytes ∙ ap (λ z. encode_utf8_all (c ∷ cs) ++ b ∷ z) w.bytes_of
          ∙ ap (λ z. encode_utf8_all (c ∷ cs) ++ (z ++ encode_utf8_all w.characters)) (sym (encode_ascii b (omega arith)))
          ∙ sym (encodes-append (c ∷ cs) (b ∷ w.characters));
      scalars = joined (c ∷ cs) (b ∷ w.characters) r.lexed.scalars (and_true _ _ (low_scalar b (omega arith)) w.scalars);
      tokens = λ at.
          let first = first_token at r.kind b c cs w.characters s (ap is_some r.lexed.kind) r.lexed.front in
          let others : IsRead names ts (tokens_from (behind (behind_all at (c ∷ cs)) b) w.characters) = w.tokens _ in
          let here : Reads names token r.kind (encode_utf8_all (c ∷ cs)) = rw (← r.lexed.bytes) r.reads in
          rw first (record { items = (here, others.items); place = others.place; ending = others.ending });
    }

pub printed_row : (names : List (List ℕ)) (ts : List Token) → AreReadable names ts → IsRow names ts (printed names ts)
printed_row names [] r = no_row names
printed_row names (t ∷ ts) r = longer_row names t ts (blank_behind t) (printed names ts) (space_behind t) r.0 (printed_row names ts r.1)
