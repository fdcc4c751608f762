-- Whether tokens are proper is told by their content.
use Rattle.std.proofs.Common.{◌≡◌, inl, inr, ℕ, suc, List, [], ◌∷◌, subst}
use Rattle.std.specs.Prelude.{pos, negsuc, length}
use Rattle.silq_grammar.specs.declared.token.Token.{Token}
use Rattle.silq_grammar.specs.declared.token.Token.TheVariants.{Name, Number, Fixed}
use Rattle.silq_print.specs.Content.{Word, content, AreNumbered, AreReadable}
use Rattle.silq_print.specs.Proper.{AreInOrder, AreSmall, IsProper}

numbered_content : (n seen : ℕ) (ts : List Token) → AreInOrder n seen ts → AreNumbered seen (content ts) n
numbered_content n seen [] h = h
numbered_content n seen (Name id at ∷ ts) (inl h) = inl (h.0, numbered_content n seen ts h.1)
numbered_content n seen (Name id at ∷ ts) (inr h) = inr (h.0, numbered_content n (suc seen) ts h.1)
numbered_content n seen (Number v at ∷ ts) h = numbered_content n seen ts h
numbered_content n seen (Fixed t at ∷ ts) h = numbered_content n seen ts h

in_order_again : (n seen : ℕ) (ts : List Token) → AreNumbered seen (content ts) n → AreInOrder n seen ts
in_order_again n seen [] h = h
in_order_again n seen (Name id at ∷ ts) (inl h) = inl (h.0, in_order_again n seen ts h.1)
in_order_again n seen (Name id at ∷ ts) (inr h) = inr (h.0, in_order_again n (suc seen) ts h.1)
in_order_again n seen (Number v at ∷ ts) h = in_order_again n seen ts h
in_order_again n seen (Fixed t at ∷ ts) h = in_order_again n seen ts h

readable_content : (ts : List Token) → AreSmall ts → AreReadable (content ts)
readable_content [] h = tt
readable_content (Name id at ∷ ts) h = readable_content ts h
readable_content (Number (pos n) at ∷ ts) h = (h.0, readable_content ts h.1)
readable_content (Number (negsuc n) at ∷ ts) h = absurd h
readable_content (Fixed t at ∷ ts) h = readable_content ts h

small_again : (ts : List Token) → AreReadable (content ts) → AreSmall ts
small_again [] h = tt
small_again (Name id at ∷ ts) h = small_again ts h
small_again (Number (pos n) at ∷ ts) h = (h.0, small_again ts h.1)
small_again (Number (negsuc n) at ∷ ts) h = absurd h
small_again (Fixed t at ∷ ts) h = small_again ts h

-- tokens of the same content are proper with the same names
pub proper_by_content : (names : List (List ℕ)) (ts us : List Token) → content ts ≡ content us → IsProper names ts → IsProper names us
proper_by_content names ts us e p = record {
  texts = p.texts;
  different = p.different;
  in_order = in_order_again (length names) 0 us (subst (λ (ws : List Word). AreNumbered 0 ws (length names)) e (numbered_content (length names) 0 ts p.in_order));
  small = small_again us (subst AreReadable e (readable_content ts p.small));
}
