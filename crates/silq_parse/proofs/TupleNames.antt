-- The names of a tuple, read one by one.
use Rattle.std.proofs.Common.{◌≡◌, List, [], ◌∷◌, ◌++◌, refl, ◌∙◌, ap}
use Rattle.silq_tree.specs.declared.node.NameId.{NameId}
use Rattle.silq_tree.specs.declared.node.Spot.{Spot}
use Rattle.silq_grammar.specs.declared.token.Token.{Token}
use Rattle.silq_grammar.specs.declared.token.Token.TheVariants.{Name, Fixed}
use Rattle.silq_grammar.specs.declared.token.Terminal.TheVariants as t
use Rattle.silq_grammar.specs.Grammar.{NameList, last_name, and_names}
use Rattle.silq_grammar.specs.Spelled.{names_text}
use Rattle.silq_grammar.specs.Trees.{names_tree}
use Rattle.silq_parse.specs.Parts.{SpellsTuple}

pub record SoFar (names : List NameId) (ts rest : List Token) : Type 0 where
  pub first : NameId
  pub at : Spot
  pub comma : Spot
  pub others : NameList
  pub spelled : ts ≡ Name first at ∷ Fixed t.Comma comma ∷ (names_text others ++ rest)
  pub named : names ≡ first ∷ names_tree others

snoc : NameList → Spot → NameId → Spot → NameList
snoc (last_name n s) c m b = and_names n s c (last_name m b)
snoc (and_names n s d ns) c m b = and_names n s d (snoc ns c m b)

snoc_text : (ns : NameList) (c : Spot) (m : NameId) (b : Spot) (rest : List Token) → names_text ns ++ (Fixed t.Comma c ∷ Name m b ∷ rest) ≡ names_text (snoc ns c m b) ++ rest
unfolding snoc
snoc_text (last_name n s) c m b rest = refl
snoc_text (and_names n s d ns) c m b rest = ap (λ w. Name n s ∷ Fixed t.Comma d ∷ w) (snoc_text ns c m b rest)

snoc_tree : (ns : NameList) (c : Spot) (m : NameId) (b : Spot) → names_tree ns ++ m ∷ [] ≡ names_tree (snoc ns c m b)
unfolding snoc
snoc_tree (last_name n s) c m b = refl
snoc_tree (and_names n s d ns) c m b = ap (λ w. n ∷ w) (snoc_tree ns c m b)

pub start : {ts r0 r1 rest : List Token} (n : NameId) (a c : Spot) (m : NameId) (b : Spot)
    → ts ≡ Name n a ∷ r0 → r0 ≡ Fixed t.Comma c ∷ r1 → r1 ≡ Name m b ∷ rest → SoFar (n ∷ m ∷ []) ts rest
start n a c m b p q r = record {
  first = n;
  at = a;
  comma = c;
  others = last_name m b;
  spelled = p ∙ ap (λ w. Name n a ∷ w) (q ∙ ap (λ w. Fixed t.Comma c ∷ w) r);
  named = refl;
}

pub step : {names : List NameId} {ts r q rest : List Token} (c : Spot) (m : NameId) (b : Spot)
    → SoFar names ts r → r ≡ Fixed t.Comma c ∷ q → q ≡ Name m b ∷ rest → SoFar (names ++ m ∷ []) ts rest
step {names} {ts} {r} {q} {rest} c m b s p u = record {
  first = s.first;
  at = s.at;
  comma = s.comma;
  others = snoc s.others c m b;
  spelled = s.spelled ∙ ap (λ w. Name s.first s.at ∷ Fixed t.Comma s.comma ∷ w)
      (ap (λ w. names_text s.others ++ w) (p ∙ ap (λ w. Fixed t.Comma c ∷ w) u) ∙ snoc_text s.others c m b rest);
  named = ap (λ w. w ++ m ∷ []) s.named ∙ ap (λ w. s.first ∷ w) (snoc_tree s.others c m b);
}

pub finish : {names : List NameId} {ts r rest : List Token} (c : Spot) → SoFar names ts r → r ≡ Fixed t.RightParen c ∷ rest → SpellsTuple names ts rest
finish {names} {ts} {r} {rest} c s p = record {
  first = s.first;
  at = s.at;
  comma = s.comma;
  others = s.others;
  close = c;
  spelled = s.spelled ∙ ap (λ w. Name s.first s.at ∷ Fixed t.Comma s.comma ∷ (names_text s.others ++ w)) p;
  named = s.named;
}
