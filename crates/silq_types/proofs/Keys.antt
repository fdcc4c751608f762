-- A map's entries, looked up by the map's own equality and by that of the definition.
use Rattle.std.specs.Prelude.{◌≡◌, refl, ℕ, ℤ, Bool, true, false, cond, ◌&&◌, ◌==◌, nat_eq, List, [], ◌∷◌, ◌++◌, Some, None}
use mathlib.Core.Path.{sym, ap, ◌∙◌}
use native.Mathlib.Omega.{arith}
use Rattle.std.specs.Ordering.{int_eq}
use Rattle.std.specs.Cmp.Lexicographic.{pointwise}
use Rattle.std.proofs.lemmas.Bool.{eqb-true, eq-eqb}
use Rattle.std.proofs.lemmas.Bool.Decides.{Decides-int_eq}
use Rattle.indexmap.specs.IndexMap.{IndexMap, get_by, insert_entry}
use Rattle.silq_types.specs.declared.signature.InstanceKey.{InstanceKey}
use Rattle.silq_types.specs.declared.signature.Signature.{Signature}
use Rattle.silq_types.specs.Known.{all_equal, same_key, signature_of}

same_bool : (b c : Bool) → (b ≡ true → c ≡ true) → (c ≡ true → b ≡ true) → b ≡ c
same_bool true c h k = sym (h refl)
same_bool false true h k = k refl
same_bool false false h k = refl

int_swap : (a b : ℤ) → int_eq a b ≡ int_eq b a
int_swap a b = same_bool (int_eq a b) (int_eq b a) (λ e. (Decides-int_eq b a).1 (sym ((Decides-int_eq a b).0 e))) (λ e. (Decides-int_eq a b).1 (sym ((Decides-int_eq b a).0 e)))

nat_swap : (a b : ℕ) → nat_eq a b ≡ (b == a)
nat_swap a b = same_bool (nat_eq a b) (b == a) (λ e. eq-eqb b a (sym (eqb-true a b e))) (λ e. eq-eqb a b (sym (eqb-true b a e)))

lists_swap : (xs ys : List ℤ) → pointwise int_eq xs ys ≡ all_equal ys xs
lists_swap [] [] = refl
lists_swap [] (y ∷ ys) = refl
lists_swap (x ∷ xs) [] = refl
lists_swap (x ∷ xs) (y ∷ ys) = ap (λ b. b && pointwise int_eq xs ys) (int_swap x y) ∙ ap (λ b. int_eq y x && b) (lists_swap xs ys)

keys_swap : (a b : InstanceKey) → (nat_eq a.fun.number b.fun.number && pointwise int_eq a.statics b.statics) ≡ same_key b a
keys_swap a b = ap (λ x. x && pointwise int_eq a.statics b.statics) (nat_swap a.fun.number b.fun.number) ∙ ap (λ x. (b.fun.number == a.fun.number) && x) (lists_swap a.statics b.statics)

abbrev key_eq : InstanceKey → InstanceKey → Bool
key_eq a b = nat_eq a.fun.number b.fun.number && pointwise int_eq a.statics b.statics

pub found_by_key : {S : Type 0} (m : IndexMap InstanceKey Signature S) (k : InstanceKey) → get_by (key_eq k) m ≡ signature_of m.entries k
found_by_key m k = go m.entries
  where
    go : (es : List (InstanceKey × Signature)) → Rattle.std.specs.Map.lookup (key_eq k) es ≡ signature_of es k
    go [] = refl
    go (e ∷ es) = ap (λ b. cond b (Some e.1) (Rattle.std.specs.Map.lookup (key_eq k) es)) (keys_swap k e.0) ∙ ap (λ o. cond (same_key e.0 k) (Some e.1) o) (go es)

pub added_at_end : (es : List (InstanceKey × Signature)) (k : InstanceKey) (s : Signature) → signature_of es k ≡ None → insert_entry key_eq es k s ≡ es ++ (k, s) ∷ []
added_at_end [] k s e = refl
added_at_end (x ∷ es) k s e = go (same_key x.0 k) refl (added_at_end es k s)
  where
    go : (b : Bool) → same_key x.0 k ≡ b → (signature_of es k ≡ None → insert_entry key_eq es k s ≡ es ++ (k, s) ∷ []) → insert_entry key_eq (x ∷ es) k s ≡ x ∷ es ++ (k, s) ∷ []
    go true f h = absurd (grind (arith, e, f))
    go false f h =
        ap (λ b. cond b ((x.0, s) ∷ es) (x ∷ insert_entry key_eq es k s)) (keys_swap k x.0 ∙ f)
        ∙ ap (λ l. x ∷ l) (h (ap (λ b. cond b (Some x.1) (signature_of es k)) (sym f) ∙ e))
