-- Functions by name and by number.
use Rattle.std.proofs.Common.{◌≡◌, refl, ℕ, zero, suc, ◌+◌, ◌<◌, ◌==◌, true, List, [], ◌∷◌, Some, ◌∙◌, sym, ap, drop, get_or, length, slice_get, add-one, arith}
use Rattle.std.proofs.lemmas.List.{drop_more}
use Rattle.std.proofs.lemmas.Bool.Decides.{nat_tests}
use Rattle.std.proofs.lemmas.Option.{slice_get_within, get_or_from_slice_get}
use Rattle.silq_tree.specs.declared.node.NameId.{NameId}
use Rattle.silq_tree.specs.declared.node.FunId.{FunId}
use Rattle.silq_types.specs.declared.built_in.BuiltIn.{BuiltIn}
use Rattle.check_scope.specs.Library.{AreFunsBelow}
use Rattle.silq_types.specs.Calls.{built_in}
use Rattle.silq_types.specs.Words.{built_ins, named, with_word, words_from}

equal : (a b : ℕ) → a ≡ b → (a == b) ≡ true
equal a b e = grind (arith, nat_tests)

-- ---- built-in functions

built_in_head : (w : NameId × BuiltIn) (ws : List (NameId × BuiltIn)) (f : NameId) → (w.0.number == f.number) ≡ true → built_in (w ∷ ws) f ≡ Some w.1
built_in_head w ws f e = rw e refl

pub built_in_here : (words : List (NameId × BuiltIn)) (i : ℕ) (d : NameId × BuiltIn) (f : NameId) → built_in (drop i words) f ≡ built_in words f → i < length words → (get_or words i d).0.number ≡ f.number → Some (get_or words i d).1 ≡ built_in words f
built_in_here words i d f p l e =
    sym (ap (λ (ws : List (NameId × BuiltIn)). built_in ws f) (drop_more words i d l) ∙ built_in_head (get_or words i d) (drop (i + 1) words) f (equal _ _ e)) ∙ p

pub words_more : (names : List (List ℕ)) (n : ℕ) (t : List ℕ) → slice_get names n ≡ Some t → words_from n (drop n names) ≡ with_word n (named built_ins t) (words_from (n + 1) (drop (n + 1) names))
words_more names n t e =
    ap (λ (ts : List (List ℕ)). words_from n ts) (drop_more names n t (slice_get_within names n t e))
    ∙ ap (λ (u : List ℕ). words_from n (u ∷ drop (n + 1) names)) (get_or_from_slice_get names n t t e)
    ∙ ap (λ (m : ℕ). with_word n (named built_ins t) (words_from m (drop (n + 1) names))) (sym (add-one n))

-- ---- functions of the file

pub fun_below : (n : ℕ) (ids : List FunId) (i : ℕ) (d : FunId) → AreFunsBelow n ids → i < length ids → (get_or ids i d).number < n
fun_below n [] i d b l = absurd (omega arith)
fun_below n (x ∷ ids) zero d b l = b.0
fun_below n (x ∷ ids) (suc i) d b l = fun_below n ids i d b.1 (omega arith)
