-- The readings of an effect.
use Rattle.std.proofs.Common.{◌≡◌, ℕ, ◌+◌, Bool, true, false, cond, not, ◌&&◌, List, [], ◌∷◌, ◌++◌, map, flat_map, filter, length, Result, Ok, Err, refl, sym, ap, ◌∙◌, subst, append_assoc, append-nil, arith, ◌⊎◌, inl, inr}
use Rattle.silq_types.specs.Rules.{and_then}
use Rattle.sum_laws.specs.Rearranged.{Rearranged}
use Rattle.sum_laws.specs.Rearranged.Rearranged.{nothing as none_left, keep, exchange, then as in_turn}
use Rattle.sum_laws.proofs.Rearranged.{Rearranged-sym, Rearranged-refl, Rearranged-append_left, Rearranged-append}
use Rattle.silq_mean.specs.Term.{Term, last, drop_last, equals_last}
use Rattle.silq_mean.specs.Value.{is_one}
use Rattle.silq_mean.specs.Effect.{Effect, nothing, ◌>>◌, statement, step, mix, measure, claim, choice, after, Outcome, follow, run, RunFault, TooManyTerms, ForgetFalse, all_pass, within_limit, most_terms, Each, Holds, Counts, counts, outcomes}
use Rattle.silq_mean.specs.Table.{start, terms, outcome_of, MeanFault, TooMany, Stopped, as_mean_fault, wanted, total_size, after_counts, after_input}
use Rattle.silq_mean.specs.Laws.{RunGivesTheMeaning}

pub and_then_ok : {A B E : Type 0} (r : Result A E) (f : A → Result B E) (b : B) → and_then r f ≡ Ok b → (a : A) × (r ≡ Ok a) × (f a ≡ Ok b)
and_then_ok (Ok a) f b h = (a, refl, h)
and_then_ok (Err e) f b h = absurd (grind (arith, h))

abbrev value_or : {A E : Type 0} → A → Result A E → A
value_or a (Ok b) = b
value_or a (Err e) = a

pub ok_inj : {A E : Type 0} (a b : A) → ◌≡◌ {A = Result A E} (Ok a) (Ok b) → a ≡ b
ok_inj a b h = ap (value_or a) h

pub flat_map-append : {A B : Type 0} (f : A → List B) (xs ys : List A) → flat_map f (xs ++ ys) ≡ flat_map f xs ++ flat_map f ys
flat_map-append f [] ys = refl
flat_map-append f (x ∷ xs) ys = ap (λ z. f x ++ z) (flat_map-append f xs ys) ∙ sym (append_assoc (f x) (flat_map f xs) (flat_map f ys))

pub flat_map-twice : {A B C : Type 0} (f : A → List B) (g : B → List C) (xs : List A) → flat_map g (flat_map f xs) ≡ flat_map (λ x. flat_map g (f x)) xs
flat_map-twice f g [] = refl
flat_map-twice f g (x ∷ xs) = flat_map-append g (f x) (flat_map f xs) ∙ ap (λ z. flat_map g (f x) ++ z) (flat_map-twice f g xs)

pub flat_map-single : {A B : Type 0} (f : A → B) (xs : List A) → flat_map (λ x. f x ∷ []) xs ≡ map f xs
flat_map-single f [] = refl
flat_map-single f (x ∷ xs) = ap (λ z. f x ∷ z) (flat_map-single f xs)

flat_map-unit : {A : Type 0} (xs : List A) → flat_map (λ x. x ∷ []) xs ≡ xs
flat_map-unit [] = refl
flat_map-unit (x ∷ xs) = ap (λ z. x ∷ z) (flat_map-unit xs)

rearranged-middle : {A : Type 0} (xs ys zs : List A) → Rearranged (ys ++ (xs ++ zs)) (xs ++ (ys ++ zs))
rearranged-middle xs ys zs = in_turn (subst (λ u. Rearranged (ys ++ (xs ++ zs)) u) (sym (append_assoc ys xs zs)) (Rearranged-refl _)) (in_turn (Rearranged-append (swap ys xs) (Rearranged-refl zs)) (subst (λ u. Rearranged u (xs ++ (ys ++ zs))) (sym (append_assoc xs ys zs)) (Rearranged-refl _)))
  where
    move : {A : Type 0} (x : A) (xs ys : List A) → Rearranged (x ∷ (xs ++ ys)) (xs ++ x ∷ ys)
    move x [] ys = Rearranged-refl (x ∷ ys)
    move x (z ∷ xs) ys = in_turn (exchange x z (xs ++ ys)) (keep z (move x xs ys))

    swap : {A : Type 0} (xs ys : List A) → Rearranged (xs ++ ys) (ys ++ xs)
    swap [] ys = subst (λ u. Rearranged ys u) (sym (append-nil ys)) (Rearranged-refl ys)
    swap (x ∷ xs) ys = in_turn (keep x (swap xs ys)) (move x ys xs)

flat_map-rearranged : {A B : Type 0} (f : A → List B) {xs ys : List A} → Rearranged xs ys → Rearranged (flat_map f xs) (flat_map f ys)
flat_map-rearranged f none_left = none_left
flat_map-rearranged f (keep x h) = Rearranged-append_left (f x) (flat_map-rearranged f h)
flat_map-rearranged f (exchange x y xs) = rearranged-middle (f y) (f x) (flat_map f xs)
flat_map-rearranged f (in_turn p q) = in_turn (flat_map-rearranged f p) (flat_map-rearranged f q)

-- the two ways of a choice
choice-rearranged : {A B : Type 0} (test : A → Bool) (f g : A → List B) (xs : List A)
    → Rearranged (flat_map f (filter test xs) ++ flat_map g (filter (λ x. not (test x)) xs)) (flat_map (λ x. cond (test x) (f x) (g x)) xs)
choice-rearranged test f g [] = none_left
choice-rearranged {A = A} {B = B} test f g (x ∷ xs) = pick (test x) (choice-rearranged test f g xs)
  where
    before : List B
    before = flat_map f (filter test xs)

    after : List B
    after = flat_map g (filter (λ y. not (test y)) xs)

    rest : List B
    rest = flat_map (λ y. cond (test y) (f y) (g y)) xs

    pick : (b : Bool) → Rearranged (before ++ after) rest → Rearranged (flat_map f (cond b (x ∷ filter test xs) (filter test xs)) ++ flat_map g (cond (not b) (x ∷ filter (λ y. not (test y)) xs) (filter (λ y. not (test y)) xs))) (cond b (f x) (g x) ++ rest)
    pick true h = subst (λ u. Rearranged u (f x ++ rest)) (sym (append_assoc (f x) before after)) (Rearranged-append_left (f x) h)
    pick false h = in_turn (rearranged-middle (g x) before after) (Rearranged-append_left (g x) h)

-- ---- all terms at once

abbrev Rearranges : Outcome → Effect → Type 0
Rearranges o e = (waiting : ℕ) (ts us : List Term) → run o waiting e ts ≡ Ok us → Rearranged us (flat_map (follow o e) ts)

same_list : {A : Type 0} {xs ys : List A} → xs ≡ ys → Rearranged xs ys
same_list {xs = xs} e = subst (λ u. Rearranged xs u) e (Rearranged-refl xs)

within-ok : (waiting : ℕ) (ts us : List Term) → within_limit waiting ts ≡ Ok us → ts ≡ us
within-ok waiting ts us = go (Rattle.std.specs.Prelude.nat_lt most_terms (waiting + length ts))
  where
    go : (b : Bool) → cond b (Err TooManyTerms) (Ok ts) ≡ Ok us → ts ≡ us
    go true h = absurd (grind (arith, h))
    go false h = ok_inj ts us h

flat_map-map : {A : Type 0} (f : A → A) (g : A → List A) (xs : List A) → flat_map (λ x. g (f x)) xs ≡ flat_map g (map f xs)
flat_map-map f g [] = refl
flat_map-map f g (x ∷ xs) = ap (λ z. g (f x) ++ z) (flat_map-map f g xs)

joined : (test : Term → Bool) (f g : Term → List Term) (ts : List Term)
    → flat_map (λ t. f (drop_last t)) (filter test ts) ++ flat_map (λ t. g (drop_last t)) (filter (λ t. not (test t)) ts) ≡ flat_map f (map drop_last (filter test ts)) ++ flat_map g (map drop_last (filter (λ t. not (test t)) ts))
joined test f g ts =
    ap (λ z. z ++ flat_map (λ t. g (drop_last t)) (filter (λ t. not (test t)) ts)) (flat_map-map drop_last f (filter test ts))
    ∙ ap (λ z. flat_map f (map drop_last (filter test ts)) ++ z) (flat_map-map drop_last g (filter (λ t. not (test t)) ts))

pub run_rearranges : (o : Outcome) (e : Effect) → Rearranges o e
run_rearranges o nothing waiting ts us h = same_list (sym (ok_inj ts us h) ∙ sym (flat_map-unit ts))
run_rearranges o (a >> b) waiting ts us h =
    let m : (vs : List Term) × (run o waiting a ts ≡ Ok vs) × (run o waiting b vs ≡ Ok us) = and_then_ok (run o waiting a ts) (run o waiting b) us h in
    in_turn (run_rearranges o b waiting m.0 us m.2)
    (subst (λ u. Rearranged (flat_map (follow o b) m.0) u) (flat_map-twice (follow o a) (follow o b) ts) (flat_map-rearranged (follow o b) (run_rearranges o a waiting ts m.0 m.1)))
run_rearranges o (statement line e) waiting ts us h = run_rearranges o e waiting ts us h
run_rearranges o (step s) waiting ts us h = same_list (sym (ok_inj (map (after s) ts) us h) ∙ sym (flat_map-single (after s) ts))
run_rearranges o mix waiting ts us h = same_list (sym (within-ok waiting _ us h))
run_rearranges o measure waiting ts us h = same_list (sym (ok_inj _ us h))
run_rearranges o (claim line x) waiting ts us h = go (all_pass (equals_last x) ts) refl h
  where
    go : (b : Bool) → all_pass (equals_last x) ts ≡ b → cond b (Ok ts) (Err (ForgetFalse line)) ≡ Ok us → Rearranged us (flat_map (λ t. t ∷ []) ts)
    go true e k = same_list (sym (ok_inj ts us k) ∙ sym (flat_map-unit ts))
    go false e k = absurd (grind (arith, k))
run_rearranges o (choice a b) waiting ts us h =
    let others : List Term = map drop_last (filter (λ t. not (is_one (last t))) ts) in
    let chosen : List Term = map drop_last (filter (λ t. is_one (last t)) ts) in
    let m : (firsts : List Term) × (run o (waiting + length others) a chosen ≡ Ok firsts) × (and_then (run o (waiting + length firsts) b others) (λ seconds. Ok (firsts ++ seconds)) ≡ Ok us) =
    and_then_ok (run o (waiting + length others) a chosen) (λ firsts. and_then (run o (waiting + length firsts) b others) (λ seconds. Ok (firsts ++ seconds))) us h in
    let n : (seconds : List Term) × (run o (waiting + length m.0) b others ≡ Ok seconds) × (◌≡◌ {A = Result (List Term) RunFault} (Ok (m.0 ++ seconds)) (Ok us)) =
    and_then_ok (run o (waiting + length m.0) b others) (λ seconds. Ok (m.0 ++ seconds)) us m.2 in
    in_turn (same_list (sym (ok_inj (m.0 ++ n.0) us n.2)))
    (in_turn (Rearranged-append (run_rearranges o a (waiting + length others) chosen m.0 m.1) (run_rearranges o b (waiting + length m.0) others n.0 n.1))
    (subst (λ u. Rearranged u (flat_map (follow o (choice a b)) ts)) (joined (λ t. is_one (last t)) (follow o a) (follow o b) ts)
    (choice-rearranged (λ t. is_one (last t)) (λ t. follow o a (drop_last t)) (λ t. follow o b (drop_last t)) ts)))

-- ---- forgets

each_append : (Q : Term → Type 0) (xs ys : List Term) → Each Q (xs ++ ys) → Each Q xs × Each Q ys
each_append Q [] ys p = (tt, p)
each_append Q (x ∷ xs) ys p = let r : Each Q xs × Each Q ys = each_append Q xs ys p.1 in ((p.0, r.0), r.1)

each_rearranged : (Q : Term → Type 0) {xs ys : List Term} → Rearranged xs ys → Each Q xs → Each Q ys
each_rearranged Q none_left p = tt
each_rearranged Q (keep x h) p = (p.0, each_rearranged Q h p.1)
each_rearranged Q (exchange x y xs) p = (p.1.0, (p.0, p.1.1))
each_rearranged Q (in_turn h k) p = each_rearranged Q k (each_rearranged Q h p)

each_flat_map : (Q : Term → Type 0) (f : Term → List Term) (ts : List Term) → Each Q (flat_map f ts) → Each (λ t. Each Q (f t)) ts
each_flat_map Q f [] p = tt
each_flat_map Q f (t ∷ ts) p = let r : Each Q (f t) × Each Q (flat_map f ts) = each_append Q (f t) (flat_map f ts) p in (r.0, each_flat_map Q f ts r.1)

each_both : (Q R : Term → Type 0) (ts : List Term) → Each Q ts → Each R ts → Each (λ t. Q t × R t) ts
each_both Q R [] p q = tt
each_both Q R (t ∷ ts) p q = ((p.0, q.0), each_both Q R ts p.1 q.1)

each_unit : (ts : List Term) → Each (λ t. Unit {0}) ts
each_unit [] = tt
each_unit (t ∷ ts) = (tt, each_unit ts)

each_passes : (test : Term → Bool) (ts : List Term) → all_pass test ts ≡ true → Each (λ t. test t ≡ true) ts
each_passes test [] h = tt
each_passes test (t ∷ ts) h = pick (test t) h (each_passes test ts)
  where
    pick : (b : Bool) → (b && all_pass test ts) ≡ true → (all_pass test ts ≡ true → Each (λ u. test u ≡ true) ts) → (b ≡ true) × Each (λ u. test u ≡ true) ts
    pick true k ih = (refl, ih k)
    pick false k ih = absurd (grind (arith, k))

abbrev ByTest : (Term → Bool) → (Term → Type 0) → (Term → Type 0) → Term → Type 0
ByTest test Q R t = (test t ≡ true → Q t) × (test t ≡ false → R t)

each_choice : (test : Term → Bool) (Q R : Term → Type 0) (ts : List Term) → Each Q (filter test ts) → Each R (filter (λ t. not (test t)) ts) → Each (ByTest test Q R) ts
each_choice test Q R [] p q = tt
each_choice test Q R (t ∷ ts) p q = pick (test t) p q (each_choice test Q R ts)
  where
    pick : (b : Bool) → Each Q (cond b (t ∷ filter test ts) (filter test ts)) → Each R (cond (not b) (t ∷ filter (λ u. not (test u)) ts) (filter (λ u. not (test u)) ts))
        → (Each Q (filter test ts) → Each R (filter (λ u. not (test u)) ts) → Each (ByTest test Q R) ts) → ((b ≡ true → Q t) × (b ≡ false → R t)) × Each (ByTest test Q R) ts
    pick true k l ih = ((λ e. k.0, λ e. absurd (grind (arith, e))), ih k.1 l)
    pick false k l ih = ((λ e. absurd (grind (arith, e)), λ e. l.0), ih k l.1)

each_map : (Q : Term → Type 0) (f : Term → Term) (ts : List Term) → Each Q (map f ts) → Each (λ t. Q (f t)) ts
each_map Q f [] p = tt
each_map Q f (t ∷ ts) p = (p.0, each_map Q f ts p.1)

pub run_holds : (o : Outcome) (e : Effect) (waiting : ℕ) (ts us : List Term) → run o waiting e ts ≡ Ok us → Each (Holds o e) ts
run_holds o nothing waiting ts us h = each_unit ts
run_holds o (a >> b) waiting ts us h =
    let m : (vs : List Term) × (run o waiting a ts ≡ Ok vs) × (run o waiting b vs ≡ Ok us) = and_then_ok (run o waiting a ts) (run o waiting b) us h in
    each_both (Holds o a) (λ t. Each (Holds o b) (follow o a t)) ts (run_holds o a waiting ts m.0 m.1)
    (each_flat_map (Holds o b) (follow o a) ts (each_rearranged (Holds o b) (run_rearranges o a waiting ts m.0 m.1) (run_holds o b waiting m.0 us m.2)))
run_holds o (statement line e) waiting ts us h = run_holds o e waiting ts us h
run_holds o (step s) waiting ts us h = each_unit ts
run_holds o mix waiting ts us h = each_unit ts
run_holds o measure waiting ts us h = each_unit ts
run_holds o (claim line x) waiting ts us h = go (all_pass (equals_last x) ts) refl h
  where
    go : (b : Bool) → all_pass (equals_last x) ts ≡ b → cond b (Ok ts) (Err (ForgetFalse line)) ≡ Ok us → Each (λ t. equals_last x t ≡ true) ts
    go true e k = each_passes (equals_last x) ts e
    go false e k = absurd (grind (arith, k))
run_holds o (choice a b) waiting ts us h =
    let others : List Term = map drop_last (filter (λ t. not (is_one (last t))) ts) in
    let chosen : List Term = map drop_last (filter (λ t. is_one (last t)) ts) in
    let m : (firsts : List Term) × (run o (waiting + length others) a chosen ≡ Ok firsts) × (and_then (run o (waiting + length firsts) b others) (λ seconds. Ok (firsts ++ seconds)) ≡ Ok us) =
    and_then_ok (run o (waiting + length others) a chosen) (λ firsts. and_then (run o (waiting + length firsts) b others) (λ seconds. Ok (firsts ++ seconds))) us h in
    let n : (seconds : List Term) × (run o (waiting + length m.0) b others ≡ Ok seconds) × (◌≡◌ {A = Result (List Term) RunFault} (Ok (m.0 ++ seconds)) (Ok us)) =
    and_then_ok (run o (waiting + length m.0) b others) (λ seconds. Ok (m.0 ++ seconds)) us m.2 in
    each_choice (λ t. is_one (last t)) (λ t. Holds o a (drop_last t)) (λ t. Holds o b (drop_last t)) ts
    (each_map (Holds o a) drop_last (filter (λ t. is_one (last t)) ts) (run_holds o a (waiting + length others) chosen m.0 m.1))
    (each_map (Holds o b) drop_last (filter (λ t. not (is_one (last t))) ts) (run_holds o b (waiting + length m.0) others n.0 n.1))

-- ---- no true forget is called false

abbrev error_or : {A E : Type 0} → E → Result A E → E
error_or e (Ok a) = e
error_or e (Err d) = d

err_inj : {A E : Type 0} (d e : E) → ◌≡◌ {A = Result A E} (Err d) (Err e) → d ≡ e
err_inj d e h = ap (error_or d) h

each_back : (Q : Term → Type 0) (xs ys : List Term) → Each Q xs → Each Q ys → Each Q (xs ++ ys)
each_back Q [] ys p q = q
each_back Q (x ∷ xs) ys p q = (p.0, each_back Q xs ys p.1 q)

and_then_err : {A B E : Type 0} (r : Result A E) (f : A → Result B E) (e : E) → and_then r f ≡ Err e → (r ≡ Err e) ⊎ ((a : A) × (r ≡ Ok a) × (f a ≡ Err e))
and_then_err (Ok a) f e h = inr (a, refl, h)
and_then_err (Err d) f e h = inl (ap (λ x. Err x) (err_inj d e h))

each_join : (Q : Term → Type 0) (f : Term → List Term) (ts : List Term) → Each (λ t. Each Q (f t)) ts → Each Q (flat_map f ts)
each_join Q f [] p = tt
each_join Q f (t ∷ ts) p = each_back Q (f t) (flat_map f ts) p.0 (each_join Q f ts p.1)

each_weak : (Q R : Term → Type 0) → ((t : Term) → Q t → R t) → (ts : List Term) → Each Q ts → Each R ts
each_weak Q R f [] p = tt
each_weak Q R f (t ∷ ts) p = (f t p.0, each_weak Q R f ts p.1)

each_to_map : (Q : Term → Type 0) (f : Term → Term) (ts : List Term) → Each (λ t. Q (f t)) ts → Each Q (map f ts)
each_to_map Q f [] p = tt
each_to_map Q f (t ∷ ts) p = (p.0, each_to_map Q f ts p.1)

each_chosen : (test : Term → Bool) (Q : Term → Type 0) (ts : List Term) → Each (λ t. test t ≡ true → Q t) ts → Each Q (filter test ts)
each_chosen test Q [] p = tt
each_chosen test Q (t ∷ ts) p = pick (test t) refl (each_chosen test Q ts p.1)
  where
    pick : (b : Bool) → test t ≡ b → Each Q (filter test ts) → Each Q (cond b (t ∷ filter test ts) (filter test ts))
    pick true e h = (p.0 e, h)
    pick false e h = h

not_true : (b : Bool) → not b ≡ true → b ≡ false
not_true true h = absurd (grind (arith, h))
not_true false h = refl

passes : (test : Term → Bool) (ts : List Term) → Each (λ t. test t ≡ true) ts → all_pass test ts ≡ true
passes test [] p = refl
passes test (t ∷ ts) p = ap (λ b. b && all_pass test ts) p.0 ∙ passes test ts p.1

pub run_no_false : (o : Outcome) (e : Effect) (waiting : ℕ) (ts : List Term) (line : ℕ) → Each (Holds o e) ts → run o waiting e ts ≡ Err (ForgetFalse line) → ⊥
run_no_false o nothing waiting ts line p h = grind (arith, h)
run_no_false o (a >> b) waiting ts line p h = go (and_then_err (run o waiting a ts) (run o waiting b) (ForgetFalse line) h)
    (run_no_false o a waiting ts line (each_weak (Holds o (a >> b)) (Holds o a) (λ t q. q.0) ts p))
    (λ vs k. run_no_false o b waiting vs line (each_rearranged (Holds o b) (Rearranged-sym (run_rearranges o a waiting ts vs k)) (each_join (Holds o b) (follow o a) ts (each_weak (Holds o (a >> b)) (λ t. Each (Holds o b) (follow o a t)) (λ t q. q.1) ts p))))
  where
    go : (run o waiting a ts ≡ Err (ForgetFalse line)) ⊎ ((vs : List Term) × (run o waiting a ts ≡ Ok vs) × (run o waiting b vs ≡ Err (ForgetFalse line)))
        → (run o waiting a ts ≡ Err (ForgetFalse line) → ⊥) → ((vs : List Term) → run o waiting a ts ≡ Ok vs → run o waiting b vs ≡ Err (ForgetFalse line) → ⊥) → ⊥
    go (inl k) f g = f k
    go (inr k) f g = g k.0 k.1 k.2
run_no_false o (statement l e) waiting ts line p h = run_no_false o e waiting ts line p h
run_no_false o (step s) waiting ts line p h = grind (arith, h)
run_no_false o mix waiting ts line p h = go (Rattle.std.specs.Prelude.nat_lt most_terms (waiting + length (flat_map (follow o mix) ts))) h
  where
    go : (b : Bool) → cond b (Err TooManyTerms) (Ok (flat_map (follow o mix) ts)) ≡ Err (ForgetFalse line) → ⊥
    go true k = grind (arith, k)
    go false k = grind (arith, k)
run_no_false o measure waiting ts line p h = grind (arith, h)
run_no_false o (claim l x) waiting ts line p h = go (all_pass (equals_last x) ts) (passes (equals_last x) ts p) h
  where
    go : (b : Bool) → b ≡ true → cond b (Ok ts) (Err (ForgetFalse l)) ≡ Err (ForgetFalse line) → ⊥
    go true e k = grind (arith, k)
    go false e k = grind (arith, e)
run_no_false o (choice a b) waiting ts line p h =
    let others : List Term = map drop_last (filter (λ t. not (is_one (last t))) ts) in
    let chosen : List Term = map drop_last (filter (λ t. is_one (last t)) ts) in
    let q : Each (Holds o a) chosen = each_to_map (Holds o a) drop_last (filter (λ t. is_one (last t)) ts) (each_chosen (λ t. is_one (last t)) (λ t. Holds o a (drop_last t)) ts (each_weak (Holds o (choice a b)) _ (λ t k. k.0) ts p)) in
    let r : Each (Holds o b) others = each_to_map (Holds o b) drop_last (filter (λ t. not (is_one (last t))) ts) (each_chosen (λ t. not (is_one (last t))) (λ t. Holds o b (drop_last t)) ts (each_weak (Holds o (choice a b)) _ (λ t k e. k.1 (not_true (is_one (last t)) e)) ts p)) in
    go (waiting + length others) chosen others (and_then_err (run o (waiting + length others) a chosen) (λ firsts. and_then (run o (waiting + length firsts) b others) (λ seconds. Ok (firsts ++ seconds))) (ForgetFalse line) h)
    (run_no_false o a (waiting + length others) chosen line q)
    (λ firsts. run_no_false o b (waiting + length firsts) others line r)
  where
    last_step : (firsts : List Term) → (r : Result (List Term) RunFault) → (r ≡ Err (ForgetFalse line) → ⊥) → and_then r (λ seconds. Ok (firsts ++ seconds)) ≡ Err (ForgetFalse line) → ⊥
    last_step firsts (Ok us) f k = grind (arith, k)
    last_step firsts (Err d) f k = f k

    go : (n : ℕ) (xs ys : List Term) → (run o n a xs ≡ Err (ForgetFalse line)) ⊎ ((firsts : List Term) × (run o n a xs ≡ Ok firsts) × (and_then (run o (waiting + length firsts) b ys) (λ seconds. Ok (firsts ++ seconds)) ≡ Err (ForgetFalse line)))
        → (run o n a xs ≡ Err (ForgetFalse line) → ⊥) → ((firsts : List Term) → run o (waiting + length firsts) b ys ≡ Err (ForgetFalse line) → ⊥) → ⊥
    go n xs ys (inl k) f g = f k
    go n xs ys (inr k) f g = last_step k.0 (run o (waiting + length k.0) b ys) (g k.0) k.2

-- ---- `run` on a job

mean_ok : {A E : Type 0} (f : E → MeanFault) (r : Result A E) (a : A) → as_mean_fault f r ≡ Ok a → r ≡ Ok a
mean_ok f (Ok b) a h = ap (λ x. Ok x) (ok_inj b a h)
mean_ok f (Err e) a h = absurd (grind (arith, h))

pub run_gives_the_meaning : RunGivesTheMeaning
run_gives_the_meaning j input outcome us h =
    let a : (c : Counts) × (as_mean_fault TooMany (counts j.effect (record { statements = 0; splits = 0 })) ≡ Ok c) × (after_counts j input outcome ≡ Ok us) =
    and_then_ok (as_mean_fault TooMany (counts j.effect (record { statements = 0; splits = 0 }))) (λ c. after_counts j input outcome) us h in
    let b : (u : Unit {0}) × (wanted (length input) (total_size j.shapes) ≡ Ok u) × (after_input j input outcome ≡ Ok us) =
    and_then_ok (wanted (length input) (total_size j.shapes)) (λ u. after_input j input outcome) us a.2 in
    let c : (u : Unit {0}) × (wanted (length outcome) (outcomes j.effect (start j input)) ≡ Ok u) × (as_mean_fault Stopped (run (outcome_of outcome) 0 j.effect (start j input ∷ [])) ≡ Ok us) =
    and_then_ok (wanted (length outcome) (outcomes j.effect (start j input))) (λ u. as_mean_fault Stopped (run (outcome_of outcome) 0 j.effect (start j input ∷ []))) us b.2 in
    let d : run (outcome_of outcome) 0 j.effect (start j input ∷ []) ≡ Ok us = mean_ok Stopped (run (outcome_of outcome) 0 j.effect (start j input ∷ [])) us c.2 in
    let e : Rearranged us (follow (outcome_of outcome) j.effect (start j input) ++ []) = run_rearranges (outcome_of outcome) j.effect 0 (start j input ∷ []) us d in
    (subst (λ x. Rearranged us x) (append-nil (terms j input (outcome_of outcome))) e, (run_holds (outcome_of outcome) j.effect 0 (start j input ∷ []) us d).0)
