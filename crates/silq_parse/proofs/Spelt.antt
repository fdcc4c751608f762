-- Each reserved word and each sign is spelled as a terminal.
use Rattle.std.proofs.Common.{◌≡◌, ◌⊎◌, inl, inr, ℕ, Bool, true, false, ◌||◌, List, [], ◌∷◌, map, Option, Some, None, if◌then◌else◌, refl, sym, ◌∙◌}
use Rattle.std.specs.Prelude.{is_some}
use Rattle.std.specs.List.{list_all}
use Rattle.std.specs.Str.{chars, bytes_eq, IsUtf8, encode_utf8_all}
use lib.Utf8.{encode}
use Rattle.std.proofs.lemmas.Slice.Eq.{bytes_eq-Decides}
use Rattle.silq_lex.specs.Kinds.{is_one_of, is_name, is_number, kind_of, reserved, signs}
use Rattle.silq_lex.proofs.Texts.{is_one_of-chars, and_left, and_right}
use Rattle.silq_lex.specs.declared.token.TokenKind.TheVariants.{Name, Word, Number, Sign}
use Rattle.silq_parse.specs.Spelling.{spelled}

one_spelled : (ts : List (List ℕ)) (bs : List ℕ) → list_all (λ t. is_some (spelled t)) ts ≡ true → is_one_of ts bs ≡ true → is_some (spelled bs) ≡ true
one_spelled [] bs all one = cc
one_spelled (t ∷ ts) bs all one = by (bytes_eq t bs) refl one (λ h. one_spelled ts bs (and_right _ _ all) h)
  where
    by : (b : Bool) → bytes_eq t bs ≡ b → (b || is_one_of ts bs) ≡ true → (is_one_of ts bs ≡ true → is_some (spelled bs) ≡ true) → is_some (spelled bs) ≡ true
    by true e h rest = let same : t ≡ bs = (bytes_eq-Decides t bs).0 e in rw (← same) (and_left _ _ all)
    by false e h rest = rest h

by_kind : (n r d s : Bool) → ((if n then (if r then Some Word else Some Name) else if d then Some Number else if s then Some Sign else None) ≡ Some Word)
    ⊎ ((if n then (if r then Some Word else Some Name) else if d then Some Number else if s then Some Sign else None) ≡ Some Sign) → (r ≡ true) ⊎ (s ≡ true)
by_kind true true d s e = inl refl
by_kind true false d s (inl e) = cc
by_kind true false d s (inr e) = cc
by_kind false r true s (inl e) = cc
by_kind false r true s (inr e) = cc
by_kind false r false true e = inr refl
by_kind false r false false (inl e) = cc
by_kind false r false false (inr e) = cc

pub is_spelled : (bs : List ℕ) → IsUtf8 bs → (kind_of (chars bs) ≡ Some Word) ⊎ (kind_of (chars bs) ≡ Some Sign) → is_some (spelled bs) ≡ true
unfolding encode
is_spelled bs u e = of (by_kind (is_name (chars bs)) (is_one_of reserved (chars bs)) (is_number (chars bs)) (is_one_of signs (chars bs)) e)
  where
    of : (is_one_of reserved (chars bs) ≡ true) ⊎ (is_one_of signs (chars bs) ≡ true) → is_some (spelled bs) ≡ true
    of (inl h) = one_spelled (map encode_utf8_all reserved) bs refl (sym (is_one_of-chars reserved bs u refl) ∙ h)
    of (inr h) = one_spelled (map encode_utf8_all signs) bs refl (sym (is_one_of-chars signs bs u refl) ∙ h)

pub none_is_none : {X : Type 0} (o : Option X) → is_some o ≡ true → o ≡ None → ⊥
none_is_none None a b = cc
none_is_none (Some x) a b = cc
