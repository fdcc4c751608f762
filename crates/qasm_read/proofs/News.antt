-- Qubits that no line has named before, one after another.
use Rattle.std.proofs.Common.{◌≡◌, ◌↔◌, ◌⊎◌, inl, inr, ℕ, zero, suc, ◌+◌, ◌<◌, Bool, true, false, not, refl, sym, ◌∙◌, ap, subst, arith}
use Rattle.std.proofs.Common.{List, [], ◌∷◌, ◌++◌, Contains, length, take, drop, get_or, add-one, drop-cons, append_assoc, append-nil}
use Rattle.std.specs.Prelude.{◌==◌, ◌&&◌, ◌||◌, flat_map, Result, Ok, Err, IfOk}
use Rattle.std.specs.BTreeSet.{BTreeSet, contains, Updates}
use Rattle.std.specs.Ordering.{nat_cmp}
use Rattle.std.specs.List.{list_any}
use Rattle.std.proofs.lemmas.Bool.Decides.{nat_tests}
use Rattle.gate_core.specs.Circuit.{AddsAll}
use Rattle.gate_core.proofs.Added.{contains_iff, AddsAll-insert}
use Rattle.std.proofs.lemmas.List.Elements.{Contains-append_left, Contains-append_right, Contains-append_cases}
use Rattle.qasm_read.specs.Lines.{is_new, are_new}
use Rattle.qasm_read.specs.Stored.{IsNamed}
use Rattle.qasm_read.specs.News.{PutsNew, TellsNew}
use Rattle.qasm_read.proofs.Kept.{index-append}

differ : (p q : ℕ) → (p ≡ q → ⊥) → (p == q) ≡ false
differ p q n = by (p == q) refl
  where
    by : (b : Bool) → (p == q) ≡ b → b ≡ false
    by true e = absurd (n (grind (arith, nat_tests)))
    by false e = refl

same : (p q : ℕ) → p ≡ q → (p == q) ≡ true
same p q e = grind (arith, nat_tests)

or_true : (a : Bool) → (a || true) ≡ true
or_true true = refl
or_true false = refl

none_is : (xs : List ℕ) (q : ℕ) → ¬ Contains xs q → list_any (λ p. p == q) xs ≡ false
none_is [] q n = refl
none_is (x ∷ xs) q n =
    ap (λ (b : Bool). b || list_any (λ p. p == q) xs) (differ x q (λ e. n (0, omega arith, e))) ∙ none_is xs q (λ c. n (suc c.0, omega (arith, c.1), c.2))

one_is : (xs : List ℕ) (q k : ℕ) → k < length xs → get_or xs k q ≡ q → list_any (λ p. p == q) xs ≡ true
one_is [] q k l e = absurd (omega arith)
one_is (x ∷ xs) q zero l e = ap (λ (b : Bool). b || list_any (λ p. p == q) xs) (same x q e)
one_is (x ∷ xs) q (suc k) l e = ap (λ (b : Bool). (x == q) || b) (one_is xs q k (omega arith) e) ∙ or_true (x == q)

there : (x : ℕ) (xs : List ℕ) (p : ℕ) → Contains xs p → Contains (x ∷ xs) p
there x xs p c = (suc c.0, omega (arith, c.1), c.2)

here : (x : ℕ) (xs : List ℕ) (p : ℕ) → x ≡ p → Contains (x ∷ xs) p
here x xs p e = (0, omega arith, e)

apart : (x : ℕ) (xs : List ℕ) (p : ℕ) → Contains (x ∷ xs) p → (x ≡ p) ⊎ Contains xs p
apart x xs p c = by c.0 c.1 c.2
  where
    by : (k : ℕ) → k < length (x ∷ xs) → get_or (x ∷ xs) k p ≡ p → (x ≡ p) ⊎ Contains xs p
    by zero l e = inl e
    by (suc k) l e = inr (k, omega arith, e)

nothing : {A : Type 0} (p : ℕ) → Contains [] p → A
nothing p c = absurd (omega (arith, c.1))

-- these stand in the definition's list behind the first i qubits
pub record Told (keys line seen qubits : List ℕ) (i : ℕ) : Type 0 where
  pub now : List ℕ
  pub index : (p : ℕ) → Contains now p ↔ Contains keys p ⊎ Contains line p
  pub left : are_new seen qubits ≡ are_new now (drop i qubits)

-- the first i qubits are new, and they are in the line's set
pub record HaveTold (keys line qubits : List ℕ) (i : ℕ) : Type 0 where
  pub told : (seen : List ℕ) → ((p : ℕ) → Contains keys p ↔ Contains seen p) → Told keys line seen qubits i

pub at_first : (keys qubits : List ℕ) → HaveTold keys [] qubits 0
at_first keys qubits = record {
  told = λ seen k. record {
    now = seen;
    index = λ p. ((λ c. inl ((k p).1 c)), (λ d. elim d [ inl c ↦ (k p).0 c | inr c ↦ nothing p c ]));
    left = refl;
  };
}

from_next : (qubits : List ℕ) (i d q : ℕ) → i < length qubits → q ≡ get_or qubits i d → drop i qubits ≡ q ∷ drop (i + 1) qubits
from_next qubits i d q l e = drop-cons qubits i d l ∙ (ap (λ (y : ℕ). y ∷ drop (suc i) qubits) (sym e) ∙ ap (λ (j : ℕ). q ∷ drop j qubits) (sym (add-one i)))

module _ (keys line qubits : List ℕ) (i d q : ℕ) (l : i < length qubits) (e : q ≡ get_or qubits i d) (h : HaveTold keys line qubits i) where
  next : (seen : List ℕ) (k : (p : ℕ) → Contains keys p ↔ Contains seen p)
      → are_new seen qubits ≡ (is_new (h.told seen k).now q && are_new (q ∷ (h.told seen k).now) (drop (i + 1) qubits))
  next seen k = (h.told seen k).left ∙ ap (are_new (h.told seen k).now) (from_next qubits i d q l e)

  pub one_new : (new : List ℕ) → ¬ Contains keys q → ¬ Contains line q → AddsAll line new (q ∷ []) → HaveTold keys new qubits (i + 1)
  one_new new n m a = record { told = told }
    where
      onward : (now : List ℕ) (p : ℕ) → (Contains now p → Contains keys p ⊎ Contains line p) → Contains (q ∷ now) p → Contains keys p ⊎ Contains new p
      onward now p t c =
          elim (apart q now p c) [
            | inl s ↦ inr ((a.each p).1 (inr (here q [] p s)))
            | inr d ↦ elim (t d) [ inl f ↦ inl f | inr f ↦ inr ((a.each p).1 (inl f)) ]
          ]

      backward : (now : List ℕ) (p : ℕ) → (Contains keys p ⊎ Contains line p → Contains now p) → Contains keys p ⊎ Contains new p → Contains (q ∷ now) p
      backward now p t c =
          elim c [
            | inl d ↦ there q now p (t (inl d))
            | inr d ↦ elim ((a.each p).0 d) [
              | inl f ↦ there q now p (t (inr f))
              | inr f ↦ elim (apart q [] p f) [ inl s ↦ here q now p s | inr z ↦ nothing p z ]
            ]
          ]

      fresh : (now : List ℕ) → (Contains now q → Contains keys q ⊎ Contains line q) → is_new now q ≡ true
      fresh now t = ap not (none_is now q (λ c. elim (t c) [ inl d ↦ n d | inr d ↦ m d ]))

      told : (seen : List ℕ) → ((p : ℕ) → Contains keys p ↔ Contains seen p) → Told keys new seen qubits (i + 1)
      told seen k =
          let t : Told keys line seen qubits i = h.told seen k in
          record {
            now = q ∷ t.now;
            index = λ p. (onward t.now p (t.index p).0, backward t.now p (t.index p).1);
            left = next seen k ∙ ap (λ (b : Bool). b && are_new (q ∷ t.now) (drop (i + 1) qubits)) (fresh t.now (t.index q).0);
          }

  pub not_new : Contains keys q ⊎ Contains line q → TellsNew keys qubits false
  not_new known = λ seen k.
      let t : Told keys line seen qubits i = h.told seen k in
      let c : Contains t.now q = (t.index q).1 known in
      sym (next seen k ∙ ap (λ (b : Bool). not b && are_new (q ∷ t.now) (drop (i + 1) qubits)) (one_is t.now q c.0 c.1 c.2))

drop_all : (qubits : List ℕ) → drop (length qubits) qubits ≡ []
drop_all [] = refl
drop_all (q ∷ qubits) = drop_all qubits

pub all_new : (keys line qubits : List ℕ) → HaveTold keys line qubits (length qubits) → TellsNew keys qubits true
all_new keys line qubits h = λ seen k. sym ((h.told seen k).left ∙ ap (are_new (h.told seen k).now) (drop_all qubits))

-- the first i qubits were put into the set
pub AddsAll-next : (old set new qubits : List ℕ) (i d q : ℕ) → i < length qubits → q ≡ get_or qubits i d
    → AddsAll old set (take i qubits) → AddsAll set new (q ∷ []) → AddsAll old new (take (i + 1) qubits)
AddsAll-next old set new qubits i d q l e a b = subst (AddsAll old new) (sym (taken qubits i l e)) (record { each = λ p. (onward p, backward p) })
  where
    taken : (qs : List ℕ) (j : ℕ) → j < length qs → q ≡ get_or qs j d → take (j + 1) qs ≡ take j qs ++ q ∷ []
    taken qs j m f = ap (λ (n : ℕ). take n qs) (add-one j) ∙ by qs j m f
      where
        by : (rs : List ℕ) (n : ℕ) → n < length rs → q ≡ get_or rs n d → take (suc n) rs ≡ take n rs ++ q ∷ []
        by [] n m f = absurd (omega arith)
        by (r ∷ rs) zero m f = ap (λ (x : ℕ). x ∷ []) (sym f)
        by (r ∷ rs) (suc n) m f = ap (λ (xs : List ℕ). r ∷ xs) (by rs n (omega arith) f)

    onward : (p : ℕ) → Contains new p → Contains old p ⊎ Contains (take i qubits ++ q ∷ []) p
    onward p c =
        elim ((b.each p).0 c) [
          | inl d ↦ elim ((a.each p).0 d) [ inl f ↦ inl f | inr f ↦ inr (Contains-append_left (take i qubits) (q ∷ []) p f) ]
          | inr d ↦ inr (Contains-append_right (take i qubits) (q ∷ []) p d)
        ]

    backward : (p : ℕ) → Contains old p ⊎ Contains (take i qubits ++ q ∷ []) p → Contains new p
    backward p c =
        elim c [
          | inl d ↦ (b.each p).1 (inl ((a.each p).1 (inl d)))
          | inr d ↦ elim (Contains-append_cases (take i qubits) (q ∷ []) p d) [
            | inl f ↦ (b.each p).1 (inl ((a.each p).1 (inr f)))
            | inr f ↦ (b.each p).1 (inr f)
          ]
        ]

all_lists-push : (lists : List (List ℕ)) (qubits : List ℕ) → flat_map (λ l. l) (lists ++ qubits ∷ []) ≡ flat_map (λ l. l) lists ++ qubits
all_lists-push [] qubits = append-nil qubits
all_lists-push (l ∷ lists) qubits = ap (λ (more : List ℕ). l ++ more) (all_lists-push lists qubits) ∙ sym (append_assoc l (flat_map (λ l. l) lists) qubits)

pub IsNamed-push : (lists : List (List ℕ)) (qubits old new : List ℕ) → IsNamed lists old → AddsAll old new qubits → IsNamed (lists ++ qubits ∷ []) new
IsNamed-push lists qubits old new k a = record {
  index = λ p. subst (λ (all : List ℕ). Contains new p ↔ Contains all p) (sym (all_lists-push lists qubits))
      (index-append (flat_map (λ l. l) lists) qubits old new k.index a p);
}

pub IsNamed-none : IsNamed [] []
IsNamed-none = record { index = λ p. ((λ c. c), (λ c. c)) }

pub named_pushed : (lists all : List (List ℕ)) (qubits old new : List ℕ) → all ≡ lists ++ qubits ∷ [] → IsNamed lists old → AddsAll old new qubits → IsNamed all new
named_pushed lists all qubits old new e k a = subst (λ (lists : List (List ℕ)). IsNamed lists new) (sym e) (IsNamed-push lists qubits old new k a)

absent : (s : BTreeSet ℕ) (q : ℕ) → contains nat_cmp s q ≡ false → ¬ Contains s.keys q
absent s q n = λ c. let e : contains nat_cmp s q ≡ true = (contains_iff s q).1 c in absurd (cc)

-- a qubit was put among those of its line, or was there
pub put_in : (seen line new : BTreeSet ℕ) (q : ℕ) (b : Bool) → contains nat_cmp seen q ≡ false
    → b ≡ not (contains nat_cmp line q) → Updates nat_cmp line new q true
    → PutsNew b seen.keys line.keys q new.keys
put_in seen line new q b n e u = by b (contains nat_cmp line q) refl e
  where
    by : (t x : Bool) → contains nat_cmp line q ≡ x → t ≡ not x → PutsNew t seen.keys line.keys q new.keys
    by true true f g = absurd (cc)
    by true false f g = (absent seen q n, absent line q f, AddsAll-insert line new q u)
    by false true f g = inr ((contains_iff line q).0 f)
    by false false f g = absurd (cc)

pub puts_yes : (b : Bool) (seen old : List ℕ) (q : ℕ) (new : List ℕ) → b ≡ true → PutsNew b seen old q new → PutsNew true seen old q new
puts_yes true seen old q new e h = h
puts_yes false seen old q new e h = absurd (cc)

pub puts_no : (b : Bool) (seen old : List ℕ) (q : ℕ) (new : List ℕ) → b ≡ false → PutsNew b seen old q new → Contains seen q ⊎ Contains old q
puts_no true seen old q new e h = absurd (cc)
puts_no false seen old q new e h = h

pub told_new : {E : Type 0} (r : Result Bool E) (keys qubits seen : List ℕ) → IfOk r (λ new. TellsNew keys qubits new)
    → ((q : ℕ) → Contains keys q ↔ Contains seen q)
    → IfOk r (λ new. new ≡ are_new seen qubits)
told_new (Ok b) keys qubits seen h k = h seen k
told_new (Err e) keys qubits seen h k = tt
