-- Numbers of names among more names.
use Rattle.std.proofs.Common.{◌≡◌, ℕ, zero, suc, Bool, true, false, List, [], ◌∷◌, Some, slice_get, if◌then◌else◌, refl, sym, ap}
use Rattle.std.specs.Str.{bytes_eq}
use Rattle.std.proofs.lemmas.Slice.Eq.{bytes_eq-Decides}
use Rattle.silq_tree.specs.declared.node.NameId.{NameId}
use Rattle.silq_tree.specs.declared.node.Spot.{Spot}
use Rattle.silq_tree.specs.Texts.{AreDifferent, KeepsNames}
use Rattle.silq_tree.proofs.Interned.{different_with, kept_with}
use Rattle.silq_lex.specs.declared.token.TokenKind.{TokenKind}
use Rattle.silq_lex.specs.declared.token.TokenKind.TheVariants as kinds
use Rattle.silq_lex.specs.Tokens.{Located}
use Rattle.silq_grammar.specs.declared.token.Token.TheVariants.{Name}
use Rattle.silq_parse.specs.Lexed.{index_of, name_in, named, names_with, token_as}

-- a name stands where its number says
pub index_at : (names : List (List ℕ)) (i : ℕ) (text : List ℕ) → AreDifferent names → slice_get names i ≡ Some text → index_of names text ≡ i
index_at [] i text d e = cc
index_at (n ∷ ns) zero text d e = by (bytes_eq n text) ((bytes_eq-Decides n text).1 cc)
  where
    by : (b : Bool) → b ≡ true → (if b then 0 else suc (index_of ns text)) ≡ 0
    by true h = refl
    by false h = cc
index_at (n ∷ ns) (suc i) text d e = by (bytes_eq n text) refl (index_at ns i text (λ j k t f g. later j k (d (suc j) (suc k) t f g)) e)
  where
    later : (j k : ℕ) → suc j ≡ suc k → j ≡ k
    later j k h = cc

    by : (b : Bool) → bytes_eq n text ≡ b → index_of ns text ≡ i → (if b then 0 else suc (index_of ns text)) ≡ suc i
    by true h k = let same : n ≡ text = (bytes_eq-Decides n text).0 h in let two : zero ≡ suc i = d zero (suc i) text (ap Some same) e in cc
    by false h k = ap suc k

kept_named : (k : TokenKind) (names : List (List ℕ)) (text : List ℕ) → KeepsNames names (named k names text)
kept_named kinds.Name names text = kept_with names text
kept_named kinds.Word names text = λ i t e. e
kept_named kinds.Number names text = λ i t e. e
kept_named kinds.Sign names text = λ i t e. e

different_named : (k : TokenKind) (names : List (List ℕ)) (text : List ℕ) → AreDifferent names → AreDifferent (named k names text)
different_named kinds.Name names text d = different_with names text d
different_named kinds.Word names text d = d
different_named kinds.Number names text d = d
different_named kinds.Sign names text d = d

pub kept_all : (names : List (List ℕ)) (ts : List Located) → KeepsNames names (names_with names ts)
kept_all names [] = λ i t e. e
kept_all names (t ∷ ts) = λ i x e. kept_all (named t.kind names t.text) ts i x (kept_named t.kind names t.text i x e)

pub different_all : (names : List (List ℕ)) (ts : List Located) → AreDifferent names → AreDifferent (names_with names ts)
different_all names [] d = d
different_all names (t ∷ ts) d = different_all (named t.kind names t.text) ts (different_named t.kind names t.text d)

-- a name's token with all names that come later
pub name_token : (k : TokenKind) (names : List (List ℕ)) (more : List Located) (id : NameId) (text : List ℕ) (at : Spot) → k ≡ kinds.Name → AreDifferent names
    → slice_get names id.number ≡ Some text → Name id at ≡ token_as k (names_with names more) text at
name_token k names more id text at kind d e =
    let place : index_of (names_with names more) text ≡ id.number = index_at (names_with names more) id.number text (different_all names more d) (kept_all names more id.number text e) in
    let same : id ≡ name_in (names_with names more) text = ap (λ n. record { number = n }) (sym place) in
    rw kind (ap (λ i. Name i at) same)
