-- The text of each token is lexed as one token, which is it.
use Rattle.std.proofs.Common.{◌≡◌, ℕ, ◌<◌, ◌≤◌, ◌^◌, inl, inr, suc, Bool, true, false, not, ◌&&◌, ◌||◌, List, [], ◌∷◌, Some, length, ◌==◌, pos, negsuc, refl, sym, ◌∙◌, ap, le-leb, arith}
use Rattle.std.specs.Prelude.{decimal, slice_get, slice_index_or}
use Rattle.std.specs.List.{list_all}
use Rattle.std.specs.Str.{all_scalars, encode_utf8_all, chars}
use lib.Utf8.{encode}
use Rattle.std.proofs.Math.Utf8.{low_scalar}
use Rattle.std.proofs.lemmas.Str.{chars-encodes}
use Rattle.std.proofs.lemmas.Fmt.{digits_decimal, digits_value-decimal, decimal_nonempty}
use Rattle.std.proofs.lemmas.Option.{slice_get-get_or}
use Rattle.ucd_table.proofs.Facts.{Stepped-below}
use Rattle.ucd_derived.proofs.BinaryLemmas.{is_xid_start_stepped}
use Rattle.unicode_ident.specs.Ident.{is_xid_start}
use Rattle.unicode_ident.proofs.Computing.{unicode_ident}
use Rattle.silq_tree.specs.declared.node.NameId.{NameId}
use Rattle.silq_tree.specs.declared.node.Spot.{Spot}
use Rattle.silq_lex.specs.declared.token.TokenKind.{TokenKind}
use Rattle.silq_lex.specs.declared.token.TokenKind.TheVariants.{Word, Sign}
use Rattle.silq_lex.specs.declared.token.TokenKind.TheVariants as kinds
use Rattle.silq_lex.specs.Characters.{is_digit, starts_name}
use Rattle.silq_lex.specs.Kinds.{kind_of, number_of}
use Rattle.silq_lex.specs.Tokens.{token, kinded, token_or_fault}
use Rattle.silq_lex.proofs.Texts.{and_left, and_right, and_true, digit_low, digits_encode, digits_model}
use Rattle.silq_grammar.specs.declared.token.Token.{Token}
use Rattle.silq_grammar.specs.declared.token.Token.TheVariants.{Name, Number, Fixed}
use Rattle.silq_grammar.specs.declared.token.Terminal.{Terminal}
use Rattle.silq_grammar.specs.declared.token.Terminal.TheVariants as t
use Rattle.silq_parse.specs.Lexed.{named, token_as}
use Rattle.silq_print.specs.Bare.{nowhere, bare_token}
use Rattle.silq_print.specs.Printed.{fixed_text, token_text}
use Rattle.silq_print.specs.Proper.{IsNameText, AreInOrder, AreSmall}
use Rattle.silq_print.proofs.LexedText.{name_scalars}

-- a text is characters that stand as a token
pub record IsLexed (text : List ℕ) (kind_is : TokenKind) : Type 0 where
  pub first : ℕ
  pub rest : List ℕ
  pub bytes : text ≡ encode_utf8_all (first ∷ rest)
  pub scalars : all_scalars (first ∷ rest) ≡ true
  pub kind : kind_of (first ∷ rest) ≡ Some kind_is
  pub front : token_or_fault (Some (first ∷ rest)) ≡ token kind_is (first ∷ rest)

-- whatever the names, a kind and a text are this token and no new name
pub record IsSame (bare : Token) (kind : TokenKind) (text : List ℕ) : Type 0 where
  pub no_name : (names : List (List ℕ)) → named kind names text ≡ names
  pub same : (names : List (List ℕ)) (at : Spot) → bare_token (token_as kind names text at) ≡ bare

-- a kind and a text are the token
abbrev pub Reads : List (List ℕ) → Token → TokenKind → List ℕ → Type 0
Reads names (Name id at) kind text = (kind ≡ kinds.Name) × (slice_get names id.number ≡ Some text)
Reads names (Number v at) kind text = IsSame (Number v nowhere) kind text
Reads names (Fixed f at) kind text = IsSame (Fixed f nowhere) kind text

-- ---- reserved words and signs

fixed_kind : Terminal → TokenKind
fixed_kind t.Def = Word
fixed_kind t.Return = Word
fixed_kind t.If = Word
fixed_kind t.Else = Word
fixed_kind t.For = Word
fixed_kind t.In = Word
fixed_kind t.Forget = Word
fixed_kind t.Phase = Word
fixed_kind t.Const = Word
fixed_kind t.Qfree = Word
fixed_kind t.Mfree = Word
fixed_kind t.Lifted = Word
fixed_kind t.True = Word
fixed_kind t.False = Word
fixed_kind t.Pi = Word
fixed_kind t.Bit = Word
fixed_kind t.Natural = Word
fixed_kind t.UInt = Word
fixed_kind t.Int = Word
fixed_kind t.Becomes = Sign
fixed_kind t.AddTo = Sign
fixed_kind t.SubtractFrom = Sign
fixed_kind t.XorTo = Sign
fixed_kind t.Equal = Sign
fixed_kind t.NotEqual = Sign
fixed_kind t.AtMost = Sign
fixed_kind t.AtLeast = Sign
fixed_kind t.Below = Sign
fixed_kind t.Above = Sign
fixed_kind t.And = Sign
fixed_kind t.Or = Sign
fixed_kind t.Dots = Sign
fixed_kind t.LeftParen = Sign
fixed_kind t.RightParen = Sign
fixed_kind t.LeftBracket = Sign
fixed_kind t.RightBracket = Sign
fixed_kind t.LeftBrace = Sign
fixed_kind t.RightBrace = Sign
fixed_kind t.Comma = Sign
fixed_kind t.Semicolon = Sign
fixed_kind t.Colon = Sign
fixed_kind t.Is = Sign
fixed_kind t.Bang = Sign
fixed_kind t.Plus = Sign
fixed_kind t.Minus = Sign
fixed_kind t.Star = Sign
fixed_kind t.Slash = Sign
fixed_kind t.Caret = Sign
fixed_kind t.Times = Sign

fixed_lexed : (f : Terminal) → IsLexed (fixed_text f) (fixed_kind f)
unfolding fixed_kind unicode_ident encode
fixed_lexed t.Def = record { first = 100; rest = 101 ∷ 102 ∷ []; bytes = refl; scalars = refl; kind = refl; front = refl }
fixed_lexed t.Return = record { first = 114; rest = 101 ∷ 116 ∷ 117 ∷ 114 ∷ 110 ∷ []; bytes = refl; scalars = refl; kind = refl; front = refl }
fixed_lexed t.If = record { first = 105; rest = 102 ∷ []; bytes = refl; scalars = refl; kind = refl; front = refl }
fixed_lexed t.Else = record { first = 101; rest = 108 ∷ 115 ∷ 101 ∷ []; bytes = refl; scalars = refl; kind = refl; front = refl }
fixed_lexed t.For = record { first = 102; rest = 111 ∷ 114 ∷ []; bytes = refl; scalars = refl; kind = refl; front = refl }
fixed_lexed t.In = record { first = 105; rest = 110 ∷ []; bytes = refl; scalars = refl; kind = refl; front = refl }
fixed_lexed t.Forget = record { first = 102; rest = 111 ∷ 114 ∷ 103 ∷ 101 ∷ 116 ∷ []; bytes = refl; scalars = refl; kind = refl; front = refl }
fixed_lexed t.Phase = record { first = 112; rest = 104 ∷ 97 ∷ 115 ∷ 101 ∷ []; bytes = refl; scalars = refl; kind = refl; front = refl }
fixed_lexed t.Const = record { first = 99; rest = 111 ∷ 110 ∷ 115 ∷ 116 ∷ []; bytes = refl; scalars = refl; kind = refl; front = refl }
fixed_lexed t.Qfree = record { first = 113; rest = 102 ∷ 114 ∷ 101 ∷ 101 ∷ []; bytes = refl; scalars = refl; kind = refl; front = refl }
fixed_lexed t.Mfree = record { first = 109; rest = 102 ∷ 114 ∷ 101 ∷ 101 ∷ []; bytes = refl; scalars = refl; kind = refl; front = refl }
fixed_lexed t.Lifted = record { first = 108; rest = 105 ∷ 102 ∷ 116 ∷ 101 ∷ 100 ∷ []; bytes = refl; scalars = refl; kind = refl; front = refl }
fixed_lexed t.True = record { first = 116; rest = 114 ∷ 117 ∷ 101 ∷ []; bytes = refl; scalars = refl; kind = refl; front = refl }
fixed_lexed t.False = record { first = 102; rest = 97 ∷ 108 ∷ 115 ∷ 101 ∷ []; bytes = refl; scalars = refl; kind = refl; front = refl }
fixed_lexed t.Pi = record { first = 112; rest = 105 ∷ []; bytes = refl; scalars = refl; kind = refl; front = refl }
fixed_lexed t.Bit = record { first = 66; rest = []; bytes = refl; scalars = refl; kind = refl; front = refl }
fixed_lexed t.Natural = record { first = 78; rest = []; bytes = refl; scalars = refl; kind = refl; front = refl }
fixed_lexed t.UInt = record { first = 117; rest = 105 ∷ 110 ∷ 116 ∷ []; bytes = refl; scalars = refl; kind = refl; front = refl }
fixed_lexed t.Int = record { first = 105; rest = 110 ∷ 116 ∷ []; bytes = refl; scalars = refl; kind = refl; front = refl }
fixed_lexed t.Becomes = record { first = 58; rest = 61 ∷ []; bytes = refl; scalars = refl; kind = refl; front = refl }
fixed_lexed t.AddTo = record { first = 43; rest = 61 ∷ []; bytes = refl; scalars = refl; kind = refl; front = refl }
fixed_lexed t.SubtractFrom = record { first = 45; rest = 61 ∷ []; bytes = refl; scalars = refl; kind = refl; front = refl }
fixed_lexed t.XorTo = record { first = 94; rest = 61 ∷ []; bytes = refl; scalars = refl; kind = refl; front = refl }
fixed_lexed t.Equal = record { first = 61; rest = 61 ∷ []; bytes = refl; scalars = refl; kind = refl; front = refl }
fixed_lexed t.NotEqual = record { first = 33; rest = 61 ∷ []; bytes = refl; scalars = refl; kind = refl; front = refl }
fixed_lexed t.AtMost = record { first = 60; rest = 61 ∷ []; bytes = refl; scalars = refl; kind = refl; front = refl }
fixed_lexed t.AtLeast = record { first = 62; rest = 61 ∷ []; bytes = refl; scalars = refl; kind = refl; front = refl }
fixed_lexed t.Below = record { first = 60; rest = []; bytes = refl; scalars = refl; kind = refl; front = refl }
fixed_lexed t.Above = record { first = 62; rest = []; bytes = refl; scalars = refl; kind = refl; front = refl }
fixed_lexed t.And = record { first = 38; rest = 38 ∷ []; bytes = refl; scalars = refl; kind = refl; front = refl }
fixed_lexed t.Or = record { first = 124; rest = 124 ∷ []; bytes = refl; scalars = refl; kind = refl; front = refl }
fixed_lexed t.Dots = record { first = 46; rest = 46 ∷ []; bytes = refl; scalars = refl; kind = refl; front = refl }
fixed_lexed t.LeftParen = record { first = 40; rest = []; bytes = refl; scalars = refl; kind = refl; front = refl }
fixed_lexed t.RightParen = record { first = 41; rest = []; bytes = refl; scalars = refl; kind = refl; front = refl }
fixed_lexed t.LeftBracket = record { first = 91; rest = []; bytes = refl; scalars = refl; kind = refl; front = refl }
fixed_lexed t.RightBracket = record { first = 93; rest = []; bytes = refl; scalars = refl; kind = refl; front = refl }
fixed_lexed t.LeftBrace = record { first = 123; rest = []; bytes = refl; scalars = refl; kind = refl; front = refl }
fixed_lexed t.RightBrace = record { first = 125; rest = []; bytes = refl; scalars = refl; kind = refl; front = refl }
fixed_lexed t.Comma = record { first = 44; rest = []; bytes = refl; scalars = refl; kind = refl; front = refl }
fixed_lexed t.Semicolon = record { first = 59; rest = []; bytes = refl; scalars = refl; kind = refl; front = refl }
fixed_lexed t.Colon = record { first = 58; rest = []; bytes = refl; scalars = refl; kind = refl; front = refl }
fixed_lexed t.Is = record { first = 61; rest = []; bytes = refl; scalars = refl; kind = refl; front = refl }
fixed_lexed t.Bang = record { first = 33; rest = []; bytes = refl; scalars = refl; kind = refl; front = refl }
fixed_lexed t.Plus = record { first = 43; rest = []; bytes = refl; scalars = refl; kind = refl; front = refl }
fixed_lexed t.Minus = record { first = 45; rest = []; bytes = refl; scalars = refl; kind = refl; front = refl }
fixed_lexed t.Star = record { first = 42; rest = []; bytes = refl; scalars = refl; kind = refl; front = refl }
fixed_lexed t.Slash = record { first = 47; rest = []; bytes = refl; scalars = refl; kind = refl; front = refl }
fixed_lexed t.Caret = record { first = 94; rest = []; bytes = refl; scalars = refl; kind = refl; front = refl }
fixed_lexed t.Times = record { first = 215; rest = []; bytes = refl; scalars = refl; kind = refl; front = refl }

fixed_same : (f : Terminal) → IsSame (Fixed f nowhere) (fixed_kind f) (fixed_text f)
unfolding fixed_kind
fixed_same t.Def = record { no_name = λ names. refl; same = λ names at. refl }
fixed_same f = record { no_name = λ names. refl; same = λ names at. refl }

-- ---- numbers

digits_scalar : (ds : List ℕ) → list_all is_digit ds ≡ true → all_scalars ds ≡ true
digits_scalar [] h = refl
digits_scalar (d ∷ ds) h =
    let low : d < 128 = digit_low d (and_left _ _ h) in
    and_true _ _ (low_scalar d (omega arith)) (digits_scalar ds (and_right (is_digit d) _ h))

digit_no_name : (d : ℕ) → is_digit d ≡ true → starts_name d ≡ false
unfolding unicode_ident
digit_no_name d e =
    let low : d < 128 = digit_low d e in
    let test : not (is_digit d && (d == 95 || is_xid_start d)) ≡ true =
    Stepped-below is_xid_start is_xid_start_stepped (λ x v. not (is_digit x && (x == 95 || v))) 128 refl d low in
    of (is_digit d) (d == 95 || is_xid_start d) e test
  where
    of : (x y : Bool) → x ≡ true → not (x && y) ≡ true → y ≡ false
    of true false e h = refl
    of true true e h = cc
    of false y e h = cc

digits_kind : (d : ℕ) (ds : List ℕ) → list_all is_digit (d ∷ ds) ≡ true → kind_of (d ∷ ds) ≡ Some kinds.Number
digits_kind d ds h = rw (digit_no_name d (and_left _ _ h)) (rw h refl)

digits_front : (ds : List ℕ) → kind_of ds ≡ Some kinds.Number → number_of ds ≤ 9223372036854775807 → token_or_fault (Some ds) ≡ token kinds.Number ds
digits_front ds e l = ap (λ o. kinded o ds) e ∙ rw (le-leb (number_of ds) 9223372036854775807 l) refl

digits_lexed : (ds : List ℕ) → list_all is_digit ds ≡ true → 0 < length ds → number_of ds ≤ 9223372036854775807 → IsLexed ds kinds.Number
digits_lexed [] h l n = absurd (omega arith)
digits_lexed (d ∷ ds) h l n = record {
  first = d;
  rest = ds;
  bytes = sym (digits_encode (d ∷ ds) h);
  scalars = digits_scalar (d ∷ ds) h;
  kind = digits_kind d ds h;
  front = digits_front (d ∷ ds) (digits_kind d ds h) n;
}

pub digits_chars : (ds : List ℕ) → list_all is_digit ds ≡ true → chars ds ≡ ds
digits_chars ds h = ap chars (sym (digits_encode ds h)) ∙ chars-encodes ds (digits_scalar ds h)

module _ (n : ℕ) (small : n ≤ 9223372036854775807) where
  fits : n < 2 ^ 64
  fits = omega arith

  number_lexed : IsLexed (decimal n) kinds.Number
  number_lexed =
      let value : number_of (decimal n) ≡ n = digits_value-decimal digits_model n fits in
      digits_lexed (decimal n) (digits_decimal digits_model n fits) (decimal_nonempty n fits) (omega arith)

  number_same : IsSame (Number (pos n) nowhere) kinds.Number (decimal n)
  number_same =
      let value : number_of (decimal n) ≡ n = digits_value-decimal digits_model n fits in
      let read : number_of (chars (decimal n)) ≡ n = ap number_of (digits_chars (decimal n) (digits_decimal digits_model n fits)) ∙ value in
      record { no_name = λ names. refl; same = λ names at. ap (λ m. Number (pos m) nowhere) read }

-- ---- names

name_lexed : (text : List ℕ) → IsNameText text → IsLexed text kinds.Name
name_lexed text h = of h.0 h.1 h.2
  where
    of : (cs : List ℕ) → text ≡ encode_utf8_all cs → kind_of cs ≡ Some kinds.Name → IsLexed text kinds.Name
    of [] e k = cc
    of (c ∷ cs) e k = record { first = c; rest = cs; bytes = e; scalars = name_scalars (c ∷ cs) k; kind = k; front = ap (λ o. kinded o (c ∷ cs)) k }

-- ---- any token

-- the token's text is lexed as the token
pub record IsReadable (names : List (List ℕ)) (token : Token) : Type 0 where
  pub kind : TokenKind
  pub lexed : IsLexed (token_text names token) kind
  pub reads : Reads names token kind (token_text names token)

abbrev pub AreReadable : List (List ℕ) → List Token → Type 0
AreReadable names [] = Unit {0}
AreReadable names (t ∷ ts) = IsReadable names t × AreReadable names ts

pub seen_of_all : (n seen : ℕ) (ts : List Token) → AreInOrder n seen ts → seen ≤ n
seen_of_all n seen [] o = omega (arith, o)
seen_of_all n seen (Name id at ∷ ts) (inl o) = seen_of_all n seen ts o.1
seen_of_all n seen (Name id at ∷ ts) (inr o) = let l : suc seen ≤ n = seen_of_all n (suc seen) ts o.1 in omega arith
seen_of_all n seen (Number v at ∷ ts) o = seen_of_all n seen ts o
seen_of_all n seen (Fixed f at ∷ ts) o = seen_of_all n seen ts o

module _ (names : List (List ℕ)) (texts : (i : ℕ) (text : List ℕ) → slice_get names i ≡ Some text → IsNameText text) where
  name_readable : (id : NameId) (at : Spot) → id.number < length names → IsReadable names (Name id at)
  name_readable id at l =
      let stands : slice_get names id.number ≡ Some (slice_index_or names id.number []) = slice_get-get_or names id.number [] l in
      record { kind = kinds.Name; lexed = name_lexed _ (texts id.number _ stands); reads = (refl, stands) }

  pub all_readable : (seen : ℕ) (ts : List Token) → AreInOrder (length names) seen ts → AreSmall ts → AreReadable names ts
  all_readable seen [] o s = tt
  all_readable seen (Name id at ∷ ts) (inl o) s =
      let l : seen ≤ length names = seen_of_all _ _ ts o.1 in
      let h : id.number < seen = o.0 in (name_readable id at (omega arith), all_readable seen ts o.1 s)
  all_readable seen (Name id at ∷ ts) (inr o) s =
      let l : suc seen ≤ length names = seen_of_all _ _ ts o.1 in
      let h : id.number ≡ seen = o.0 in (name_readable id at (omega arith), all_readable (suc seen) ts o.1 s)
  all_readable seen (Number (pos n) at ∷ ts) o s =
      (record { kind = kinds.Number; lexed = number_lexed n s.0; reads = number_same n s.0 }, all_readable seen ts o s.1)
  all_readable seen (Number (negsuc n) at ∷ ts) o s = absurd s
  all_readable seen (Fixed f at ∷ ts) o s =
      (record { kind = fixed_kind f; lexed = fixed_lexed f; reads = fixed_same f }, all_readable seen ts o s)
