-- Names and tokens that a text may have.
use Rattle.std.specs.Prelude.{◌≡◌, ◌⊎◌, ℕ, suc, ◌<◌, ◌≤◌, List, [], ◌∷◌, Some, pos, negsuc, length, slice_get, encode_utf8_all}
use Rattle.silq_lex.specs.Kinds.{kind_of}
use Rattle.silq_lex.specs.declared.token.TokenKind.TheVariants as kinds
use Rattle.silq_tree.specs.Texts.{AreDifferent}
use Rattle.silq_grammar.specs.declared.token.Token.{Token}
use Rattle.silq_grammar.specs.declared.token.Token.TheVariants.{Name, Number, Fixed}

-- the bytes of characters that are a name
abbrev pub IsNameText : List ℕ → Type 0
IsNameText text = (cs : List ℕ) × (text ≡ encode_utf8_all cs) × (kind_of cs ≡ Some kinds.Name)

-- each name is one of the first `seen` ones or the next one; where the tokens end, all n were seen
abbrev pub AreInOrder : ℕ → ℕ → List Token → Type 0
AreInOrder n seen [] = seen ≡ n
AreInOrder n seen (Name id at ∷ ts) = ((id.number < seen) × AreInOrder n seen ts) ⊎ ((id.number ≡ seen) × AreInOrder n (suc seen) ts)
AreInOrder n seen (Number v at ∷ ts) = AreInOrder n seen ts
AreInOrder n seen (Fixed t at ∷ ts) = AreInOrder n seen ts

-- no number is negative or above 9223372036854775807
abbrev pub AreSmall : List Token → Type 0
AreSmall [] = Unit {0}
AreSmall (Name id at ∷ ts) = AreSmall ts
AreSmall (Number (pos n) at ∷ ts) = (n ≤ 9223372036854775807) × AreSmall ts
AreSmall (Number (negsuc n) at ∷ ts) = ⊥
AreSmall (Fixed t at ∷ ts) = AreSmall ts

-- the names and tokens of a text: no two names are equal, and they are numbered in the order in which they first stand
pub record IsProper (names : List (List ℕ)) (ts : List Token) : Type 0 where
  pub texts : (i : ℕ) (text : List ℕ) → slice_get names i ≡ Some text → IsNameText text
  pub different : AreDifferent names
  pub in_order : AreInOrder (length names) 0 ts
  pub small : AreSmall ts
