-- A text whose tokens are being read.
use Rattle.std.proofs.Common.{◌≡◌, ℕ, suc, ◌+◌, ◌≤◌, Bool, true, false, List, [], ◌∷◌, ◌++◌, length, map, Option, Some, None, IfSome, if◌then◌else◌, subst, refl, sym, ◌∙◌, ap, arith}
use Rattle.std.specs.List.{list_any}
use Rattle.std.specs.Str.{chars, bytes_eq}
use Rattle.silq_lex.specs.declared.token.TokenKind.{TokenKind}
use Rattle.silq_lex.specs.declared.token.TokenKind.TheVariants as kinds
use Rattle.silq_lex.specs.Tokens.{Located, Tokens, Ending, tokens_of, with_first, ends}
use Rattle.silq_grammar.specs.declared.token.Token.{Token}
use Rattle.silq_parse.specs.Lexed.{token_of, all_tokens, named, names_with, names_of}
use Rattle.silq_parse.proofs.Few.{few_tokens}

pub of_some : {X : Type 0} (P : X → Type 0) (o : Option X) (x : X) → o ≡ Some x → IfSome o P → P x
of_some P None x e h = cc
of_some P (Some y) x e h = let k : y ≡ x = cc in subst P k h

-- the tokens so far and those still to come are all, by the names so far and those still to come
pub record IsUnderWay (all left : Tokens) (done : List Token) (names : List (List ℕ)) : Type 0 where
  pub tokens : done ++ map (token_of (names_of all.items)) left.items ≡ all_tokens all.items
  pub names_left : names_with names left.items ≡ names_of all.items
  pub ending : left.ending ≡ all.ending
  pub few : length done + length left.items ≤ 1048576
  pub few_names : length names ≤ length done

pub under_way_first : (bs : List ℕ) → length bs ≤ 1048576 → IsUnderWay (tokens_of (chars bs)) (tokens_of (chars bs)) [] []
under_way_first bs h = record {
  tokens = refl;
  names_left = refl;
  ending = refl;
  few = let k : length (tokens_of (chars bs)).items ≤ length bs = few_tokens bs in omega arith;
  few_names = omega arith;
}

length_push : {X : Type 0} (xs : List X) (x : X) → length (xs ++ x ∷ []) ≡ suc (length xs)
length_push [] x = refl
length_push (y ∷ ys) x = ap suc (length_push ys x)

append_push : {X : Type 0} (xs : List X) (x : X) (ys : List X) → (xs ++ x ∷ []) ++ ys ≡ xs ++ x ∷ ys
append_push [] x ys = refl
append_push (z ∷ zs) x ys = ap (λ l. z ∷ l) (append_push zs x ys)

few_if : (b : Bool) (names : List (List ℕ)) (text : List ℕ) → length (if b then names else names ++ text ∷ []) ≤ suc (length names)
few_if true names text = omega arith
few_if false names text = let k : length (names ++ text ∷ []) ≡ suc (length names) = length_push names text in omega arith

few_named : (k : TokenKind) (names : List (List ℕ)) (text : List ℕ) → length (named k names text) ≤ suc (length names)
few_named kinds.Name names text = few_if (list_any (bytes_eq text) names) names text
few_named kinds.Word names text = omega arith
few_named kinds.Number names text = omega arith
few_named kinds.Sign names text = omega arith

-- with one more token
pub under_way_next : (all left : Tokens) (done : List Token) (names others : List (List ℕ)) (t : Located) (made : Token) (old : Tokens) → IsUnderWay all old done names → old ≡ with_first t left
    → others ≡ named t.kind names t.text → made ≡ token_of (names_with others left.items) t → IsUnderWay all left (done ++ made ∷ []) others
under_way_next all left done names others t made old w e n m =
    let items : old.items ≡ t ∷ left.items = ap (λ x. x.items) e in
    let same : names_with others left.items ≡ names_of all.items =
    ap (λ x. names_with x left.items) n ∙ ap (λ x. names_with names x) (sym items) ∙ w.names_left in
    let first : made ≡ token_of (names_of all.items) t = m ∙ ap (λ x. token_of x t) same in
    let old_few : length done + length old.items ≤ 1048576 = w.few in
    let old_names : length names ≤ length done = w.few_names in
    let counted : length old.items ≡ suc (length left.items) = ap length items in
    let more : length (named t.kind names t.text) ≤ suc (length names) = few_named t.kind names t.text in
    let pushed : length (done ++ made ∷ []) ≡ suc (length done) = length_push done made in
    let grown : length others ≡ length (named t.kind names t.text) = ap length n in
    record {
      tokens = append_push done made (map (token_of (names_of all.items)) left.items)
          ∙ ap (λ x. done ++ x ∷ map (token_of (names_of all.items)) left.items) first
          ∙ ap (λ x. done ++ map (token_of (names_of all.items)) x) (sym items) ∙ w.tokens;
      names_left = same;
      ending = sym (ap (λ x. x.ending) e) ∙ w.ending;
      few = omega arith;
      few_names = omega arith;
    }

-- where nothing is left to come
pub record IsRead (all : Tokens) (done : List Token) (names : List (List ℕ)) (ending : Ending) : Type 0 where
  pub tokens : done ≡ all_tokens all.items
  pub names_all : names ≡ names_of all.items
  pub ends_so : ending ≡ all.ending
  pub few : length done ≤ 1048576

append_nothing : {X : Type 0} (xs : List X) → xs ≡ xs ++ []
append_nothing [] = refl
append_nothing (x ∷ xs) = ap (λ l. x ∷ l) (append_nothing xs)

pub under_way_last : (all old : Tokens) (done : List Token) (names : List (List ℕ)) (ending : Ending) → IsUnderWay all old done names → old ≡ ends ending → IsRead all done names ending
under_way_last all old done names ending w e =
    let items : old.items ≡ [] = ap (λ x. x.items) e in
    let few : length done + length old.items ≤ 1048576 = w.few in
    record {
      tokens = append_nothing done ∙ ap (λ x. done ++ map (token_of (names_of all.items)) x) (sym items) ∙ w.tokens;
      names_all = ap (λ x. names_with names x) (sym items) ∙ w.names_left;
      ends_so = sym (ap (λ x. x.ending) e) ∙ w.ending;
      few = omega arith;
    }
