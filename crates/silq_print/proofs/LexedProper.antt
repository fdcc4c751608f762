-- The names and the tokens of a text are ones that a text may have.
use Rattle.std.proofs.Common.{◌≡◌, ℕ, zero, suc, ◌<◌, ◌≤◌, inl, inr, Bool, true, false, List, [], ◌∷◌, ◌++◌, Option, Some, None, length, map, slice_get, if◌then◌else◌, length-append, refl, sym, ◌∙◌, ap, arith}
use Rattle.std.specs.Prelude.{encode_utf8_all}
use Rattle.std.specs.List.{list_any, list_all}
use Rattle.std.specs.Str.{chars, bytes_eq}
use Rattle.std.proofs.lemmas.Option.{slice_get_within}
use Rattle.silq_tree.specs.declared.node.Spot.{Spot}
use Rattle.silq_tree.specs.Texts.{AreDifferent, KeepsNames}
use Rattle.silq_tree.proofs.Interned.{nothing_different}
use Rattle.silq_lex.specs.declared.token.TokenKind.{TokenKind}
use Rattle.silq_lex.specs.declared.token.TokenKind.TheVariants as kinds
use Rattle.silq_lex.specs.Characters.{is_digit}
use Rattle.silq_lex.specs.Kinds.{number_of}
use Rattle.silq_lex.specs.Tokens.{Located, tokens_of}
use Rattle.silq_lex.proofs.Texts.{number_kind, number_digits, digits_encode}
use Rattle.silq_grammar.specs.declared.token.Token.{Token}
use Rattle.silq_grammar.specs.declared.token.Token.TheVariants.{Name}
use Rattle.silq_grammar.specs.declared.token.Terminal.{Terminal}
use Rattle.silq_parse.specs.Lexed.{index_of, name_in, named, names_with, names_of, token_as, token_of, all_tokens, fixed, spot_at}
use Rattle.silq_parse.specs.Spelling.{spelled}
use Rattle.silq_parse.proofs.Naming.{index_at, kept_all, different_all}
use Rattle.silq_print.specs.Proper.{IsNameText, AreInOrder, AreSmall, IsProper}
use Rattle.silq_print.proofs.LexedMade.{IsOfKind, AreMade, tokens_made}
use Rattle.silq_print.proofs.LexedNames.{place_of, at_seam}
use Rattle.silq_print.proofs.LexedTokens.{digits_chars}

-- ---- texts of names

abbrev AreTexts : List (List ℕ) → Type 0
AreTexts names = (i : ℕ) (text : List ℕ) → slice_get names i ≡ Some text → IsNameText text

pushed : (names : List (List ℕ)) (text : List ℕ) → AreTexts names → IsNameText text → AreTexts (names ++ text ∷ [])
pushed [] text a t zero x e = let k : text ≡ x = cc in rw (← k) t
pushed [] text a t (suc i) x e = cc
pushed (n ∷ ns) text a t zero x e = a zero x e
pushed (n ∷ ns) text a t (suc i) x e = pushed ns text (λ j y f. a (suc j) y f) t i x e

texts_if : (b : Bool) (names : List (List ℕ)) (text : List ℕ) → AreTexts names → IsNameText text → AreTexts (if b then names else names ++ text ∷ [])
texts_if true names text a t = a
texts_if false names text a t = pushed names text a t

texts_named : (kind : TokenKind) (names : List (List ℕ)) (text cs : List ℕ) → text ≡ encode_utf8_all cs → IsOfKind kind cs → AreTexts names → AreTexts (named kind names text)
texts_named kinds.Name names text cs e k a = texts_if (list_any (bytes_eq text) names) names text a (cs, e, k.kind_is)
texts_named kinds.Word names text cs e k a = a
texts_named kinds.Number names text cs e k a = a
texts_named kinds.Sign names text cs e k a = a

texts_all : (names : List (List ℕ)) (ls : List Located) → AreTexts names → AreMade ls → AreTexts (names_with names ls)
texts_all names [] a m = a
texts_all names (l ∷ ls) a m = texts_all (named l.kind names l.text) ls (texts_named l.kind names l.text m.0.0 m.0.1 m.0.2 a) m.1

-- ---- numbers

small_fixed : (o : Option Terminal) (at : Spot) (ts : List Token) → AreSmall ts → AreSmall (fixed o at ∷ ts)
small_fixed None at ts s = s
small_fixed (Some f) at ts s = s

small_number : (text cs : List ℕ) → text ≡ encode_utf8_all cs → IsOfKind kinds.Number cs → number_of (chars text) ≤ 9223372036854775807
small_number text cs e k =
    let digits : list_all is_digit cs ≡ true = (number_digits cs (number_kind cs k.kind_is)).0 in
    let same : chars text ≡ cs = ap chars (e ∙ digits_encode cs digits) ∙ digits_chars cs digits in
    rw same (k.small refl)

small_token : (kind : TokenKind) (names : List (List ℕ)) (text cs : List ℕ) (at : Spot) (ts : List Token) → text ≡ encode_utf8_all cs → IsOfKind kind cs → AreSmall ts
    → AreSmall (token_as kind names text at ∷ ts)
small_token kinds.Name names text cs at ts e k s = s
small_token kinds.Word names text cs at ts e k s = small_fixed (spelled text) at ts s
small_token kinds.Number names text cs at ts e k s = (small_number text cs e k, s)
small_token kinds.Sign names text cs at ts e k s = small_fixed (spelled text) at ts s

small_all : (names : List (List ℕ)) (ls : List Located) → AreMade ls → AreSmall (map (token_of names) ls)
small_all names [] m = tt
small_all names (l ∷ ls) m = small_token l.kind names l.text m.0.0 (spot_at l.at) _ m.0.1 m.0.2 (small_all names ls m.1)

-- ---- the order of names

order_fixed : (n seen : ℕ) (o : Option Terminal) (at : Spot) (ts : List Token) → AreInOrder n seen ts → AreInOrder n seen (fixed o at ∷ ts)
order_fixed n seen None at ts s = s
order_fixed n seen (Some f) at ts s = s

order_if : (b : Bool) (names final : List (List ℕ)) (text : List ℕ) (at : Spot) (ts : List Token) → list_any (bytes_eq text) names ≡ b → AreDifferent final
    → KeepsNames (if b then names else names ++ text ∷ []) final → AreInOrder (length final) (length (if b then names else names ++ text ∷ [])) ts
    → AreInOrder (length final) (length names) (Name (name_in final text) at ∷ ts)
order_if true names final text at ts e d k o =
    let (i, f) = place_of text names e in
    let place : index_of final text ≡ i = index_at final i text d (k i text f) in
    let l : i < length names = slice_get_within names i text f in
    inl (omega (arith, place, l), o)
order_if false names final text at ts e d k o =
    let place : index_of final text ≡ length names = index_at final (length names) text d (k (length names) text (at_seam names [] text)) in
    let n : length (names ++ text ∷ []) ≡ suc (length names) = length-append names (text ∷ []) ∙ omega arith in
    inr (place, rw n at o)

order_token : (kind : TokenKind) (names final : List (List ℕ)) (text : List ℕ) (at : Spot) (ts : List Token) → AreDifferent final → KeepsNames (named kind names text) final
    → AreInOrder (length final) (length (named kind names text)) ts → AreInOrder (length final) (length names) (token_as kind final text at ∷ ts)
order_token kinds.Name names final text at ts d k o = order_if (list_any (bytes_eq text) names) names final text at ts refl d k o
order_token kinds.Word names final text at ts d k o = order_fixed _ _ (spelled text) at ts o
order_token kinds.Number names final text at ts d k o = o
order_token kinds.Sign names final text at ts d k o = order_fixed _ _ (spelled text) at ts o

order_all : (names final : List (List ℕ)) (ls : List Located) → AreDifferent final → final ≡ names_with names ls → AreInOrder (length final) (length names) (map (token_of final) ls)
order_all names final [] d e = ap length (sym e)
order_all names final (l ∷ ls) d e =
    let more : List (List ℕ) = named l.kind names l.text in
    let kept : KeepsNames more final = rw e (kept_all more ls) in
    order_token l.kind names final l.text (spot_at l.at) (map (token_of final) ls) d kept (order_all more final ls d e)

-- the names and tokens of any bytes
pub lexed_proper : (text : List ℕ) → IsProper (names_of (tokens_of (chars text)).items) (all_tokens (tokens_of (chars text)).items)
lexed_proper text =
    let ls : List Located = (tokens_of (chars text)).items in
    let d : AreDifferent (names_of ls) = different_all [] ls nothing_different in
    record {
      texts = texts_all [] ls (λ i x e. cc) (tokens_made (chars text));
      different = d;
      in_order = order_all [] (names_of ls) ls d refl;
      small = small_all (names_of ls) ls (tokens_made (chars text));
    }
