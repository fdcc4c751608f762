-- Related lists and environments.
use Rattle.std.proofs.Common.{◌≡◌, ℕ, zero, suc, Bool, true, false, cond, ◌||◌, List, [], ◌∷◌, ◌++◌, length, map, take, drop, reverse, flat_map, refl, sym, ap, ◌∙◌, subst, arith}
use mathlib.Core.List.{reverse_aux}
use Rattle.silq_tree.specs.declared.node.NameId.{NameId}
use Rattle.silq_types.specs.Types.{same_name}
use Rattle.silq_mean.specs.Env.{Block, Env, is_in_block, in_block, found, is_in_reach, block_with, in_its_block, in_first_block, bound}
use Rattle.silq_mean.specs.Value.{Value, gone}
use Rattle.silq_mean.specs.Term.{first as first_value}
use Rattle.flat_form.specs.declared.known.Known.{Known}
use Rattle.flat_form.specs.declared.known.Known.TheVariants.{Absent}
use Rattle.flat_form.specs.State.{first}
use Rattle.flat_form.specs.Names.{AllOf, AllEnv}
use Rattle.flat_form.specs.Shows.{ListBoth, Entry, EnvBoth}

-- a stronger relation on what is safe
pub both_map : {A B : Type 0} (S R : A → B → Type 0) (Q : A → Type 0) → ((a : A) (b : B) → Q a → S a b → R a b) → (xs : List A) (ys : List B) → AllOf Q xs → ListBoth S xs ys → ListBoth R xs ys
both_map S R Q f [] [] q h = tt
both_map S R Q f [] (b ∷ bs) q h = absurd h
both_map S R Q f (a ∷ rest) [] q h = absurd h
both_map S R Q f (a ∷ rest) (b ∷ bs) q h = (f a b q.0 h.0, both_map S R Q f rest bs q.1 h.1)

pub env_map : {A B : Type 0} (S R : A → B → Type 0) (Q : A → Type 0) → ((a : A) (b : B) → Q a → S a b → R a b) → (xs : Env A) (ys : Env B) → AllEnv Q xs → EnvBoth S xs ys → EnvBoth R xs ys
env_map S R Q f xs ys q h =
    both_map (ListBoth (Entry S)) (ListBoth (Entry R)) (AllOf (λ p. Q p.1)) (λ b c r k. both_map (Entry S) (Entry R) (λ p. Q p.1) (λ p w s e. (e.0, f p.1 w.1 s e.1)) b c r k) xs ys q h

pub both_drop : {A B : Type 0} (S : A → B → Type 0) (xs : List A) (ys : List B) → ListBoth S xs ys → ListBoth S (drop 1 xs) (drop 1 ys)
both_drop S [] [] h = tt
both_drop S [] (b ∷ bs) h = absurd h
both_drop S (a ∷ rest) [] h = absurd h
both_drop S (a ∷ rest) (b ∷ bs) h = h.1

-- ---- names

pub in_same : {A B : Type 0} (S : A → B → Type 0) (xs : Block A) (ys : Block B) (x : NameId) → ListBoth (Entry S) xs ys → is_in_block xs x ≡ is_in_block ys x
in_same S [] [] x h = refl
in_same S [] (q ∷ qs) x h = absurd h
in_same S (p ∷ ps) [] x h = absurd h
in_same S (p ∷ ps) (q ∷ qs) x h = ap (λ n. same_name n x || is_in_block ps x) h.0.0 ∙ ap (λ b. (same_name q.0 x) || b) (in_same S ps qs x h.1)

pub in_block_both : {A B : Type 0} (S : A → B → Type 0) (a : A) (b : B) → S a b → (xs : Block A) (ys : Block B) (x : NameId) → ListBoth (Entry S) xs ys → S (in_block a xs x) (in_block b ys x)
in_block_both S a b s [] [] x h = s
in_block_both S a b s [] (q ∷ qs) x h = absurd h
in_block_both S a b s (p ∷ ps) [] x h = absurd h
in_block_both S a b s (p ∷ ps) (q ∷ qs) x h = subst (λ n. S (cond (same_name n x) p.1 (in_block a ps x)) (cond (same_name q.0 x) q.1 (in_block b qs x))) (sym h.0.0) (pick (same_name q.0 x) (in_block_both S a b s ps qs x h.1))
  where
    pick : (t : Bool) → S (in_block a ps x) (in_block b qs x) → S (cond t p.1 (in_block a ps x)) (cond t q.1 (in_block b qs x))
    pick true k = h.0.1
    pick false k = k

pub found_both : {A B : Type 0} (S : A → B → Type 0) (a : A) (b : B) → S a b → (xs : Env A) (ys : Env B) (x : NameId) → EnvBoth S xs ys → S (found a xs x) (found b ys x)
found_both S a b s [] [] x h = s
found_both S a b s [] (q ∷ qs) x h = absurd h
found_both S a b s (p ∷ ps) [] x h = absurd h
found_both S a b s (p ∷ ps) (q ∷ qs) x h = subst (λ t. S (cond t (in_block a p x) (found a ps x)) (cond (is_in_block q x) (in_block b q x) (found b qs x))) (sym (in_same S p q x h.0)) (pick (is_in_block q x) (found_both S a b s ps qs x h.1))
  where
    pick : (t : Bool) → S (found a ps x) (found b qs x) → S (cond t (in_block a p x) (found a ps x)) (cond t (in_block b q x) (found b qs x))
    pick true k = in_block_both S a b s p q x h.0
    pick false k = k

pub reach_same : {A B : Type 0} (S : A → B → Type 0) (xs : Env A) (ys : Env B) (x : NameId) → EnvBoth S xs ys → is_in_reach xs x ≡ is_in_reach ys x
reach_same S [] [] x h = refl
reach_same S [] (q ∷ qs) x h = absurd h
reach_same S (p ∷ ps) [] x h = absurd h
reach_same S (p ∷ ps) (q ∷ qs) x h = ap (λ b. b || is_in_reach ps x) (in_same S p q x h.0) ∙ ap (λ b. is_in_block q x || b) (reach_same S ps qs x h.1)

pub block_with_both : {A B : Type 0} (S : A → B → Type 0) (a : A) (b : B) → S a b → (xs : Block A) (ys : Block B) (x : NameId) → ListBoth (Entry S) xs ys → ListBoth (Entry S) (block_with xs x a) (block_with ys x b)
block_with_both S a b s [] [] x h = ((refl, s), tt)
block_with_both S a b s [] (q ∷ qs) x h = absurd h
block_with_both S a b s (p ∷ ps) [] x h = absurd h
block_with_both S a b s (p ∷ ps) (q ∷ qs) x h = subst (λ t. ListBoth (Entry S) (cond t ((p.0, a) ∷ ps) (p ∷ block_with ps x a)) (cond (same_name q.0 x) ((q.0, b) ∷ qs) (q ∷ block_with qs x b))) (sym (ap (λ n. same_name n x) h.0.0)) (pick (same_name q.0 x) (block_with_both S a b s ps qs x h.1))
  where
    pick : (t : Bool) → ListBoth (Entry S) (block_with ps x a) (block_with qs x b) → ListBoth (Entry S) (cond t ((p.0, a) ∷ ps) (p ∷ block_with ps x a)) (cond t ((q.0, b) ∷ qs) (q ∷ block_with qs x b))
    pick true k = ((h.0.0, s), h.1)
    pick false k = (h.0, k)

pub its_both : {A B : Type 0} (S : A → B → Type 0) (a : A) (b : B) → S a b → (xs : Env A) (ys : Env B) (x : NameId) → EnvBoth S xs ys → EnvBoth S (in_its_block xs x a) (in_its_block ys x b)
its_both S a b s [] [] x h = tt
its_both S a b s [] (q ∷ qs) x h = absurd h
its_both S a b s (p ∷ ps) [] x h = absurd h
its_both S a b s (p ∷ ps) (q ∷ qs) x h = subst (λ t. EnvBoth S (cond t (block_with p x a ∷ ps) (p ∷ in_its_block ps x a)) (cond (is_in_block q x) (block_with q x b ∷ qs) (q ∷ in_its_block qs x b))) (sym (in_same S p q x h.0)) (pick (is_in_block q x) (its_both S a b s ps qs x h.1))
  where
    pick : (t : Bool) → EnvBoth S (in_its_block ps x a) (in_its_block qs x b) → EnvBoth S (cond t (block_with p x a ∷ ps) (p ∷ in_its_block ps x a)) (cond t (block_with q x b ∷ qs) (q ∷ in_its_block qs x b))
    pick true k = (block_with_both S a b s p q x h.0, h.1)
    pick false k = (h.0, k)

pub innermost_both : {A B : Type 0} (S : A → B → Type 0) (a : A) (b : B) → S a b → (xs : Env A) (ys : Env B) (x : NameId) → EnvBoth S xs ys → EnvBoth S (in_first_block xs x a) (in_first_block ys x b)
innermost_both S a b s [] [] x h = (((refl, s), tt), tt)
innermost_both S a b s [] (q ∷ qs) x h = absurd h
innermost_both S a b s (p ∷ ps) [] x h = absurd h
innermost_both S a b s (p ∷ ps) (q ∷ qs) x h = (block_with_both S a b s p q x h.0, h.1)

pub bound_both : {A B : Type 0} (S : A → B → Type 0) (a : A) (b : B) → S a b → (xs : Env A) (ys : Env B) (x : NameId) → EnvBoth S xs ys → EnvBoth S (bound xs x a) (bound ys x b)
bound_both S a b s xs ys x h = subst (λ t. EnvBoth S (cond t (in_its_block xs x a) (in_first_block xs x a)) (bound ys x b)) (sym (reach_same S xs ys x h)) (pick (is_in_reach ys x))
  where
    pick : (t : Bool) → EnvBoth S (cond t (in_its_block xs x a) (in_first_block xs x a)) (cond t (in_its_block ys x b) (in_first_block ys x b))
    pick true = its_both S a b s xs ys x h
    pick false = innermost_both S a b s xs ys x h

-- a variable's left value changes where it stands
block_left : {A B : Type 0} (S : A → B → Type 0) (a : A) (e : B) (xs : Block A) (ys : Block B) (x : NameId) → is_in_block ys x ≡ true → S a (in_block e ys x) → ListBoth (Entry S) xs ys → ListBoth (Entry S) (block_with xs x a) ys
block_left S a e [] [] x i s h = absurd (grind (arith, i))
block_left S a e [] (q ∷ qs) x i s h = absurd h
block_left S a e (p ∷ ps) [] x i s h = absurd h
block_left S a e (p ∷ ps) (q ∷ qs) x i s h = subst (λ n. ListBoth (Entry S) (cond n ((p.0, a) ∷ ps) (p ∷ block_with ps x a)) (q ∷ qs)) (sym (ap (λ n. same_name n x) h.0.0)) (pick (same_name q.0 x) i s (λ j k. block_left S a e ps qs x j k h.1))
  where
    pick : (t : Bool) → (t || is_in_block qs x) ≡ true → S a (cond t q.1 (in_block e qs x)) → (is_in_block qs x ≡ true → S a (in_block e qs x) → ListBoth (Entry S) (block_with ps x a) qs) → ListBoth (Entry S) (cond t ((p.0, a) ∷ ps) (p ∷ block_with ps x a)) (q ∷ qs)
    pick true j k ih = ((h.0.0, k), h.1)
    pick false j k ih = (h.0, ih j k)

pub its_left : {A B : Type 0} (S : A → B → Type 0) (a : A) (e : B) (xs : Env A) (ys : Env B) (x : NameId) → S a (found e ys x) → EnvBoth S xs ys → EnvBoth S (in_its_block xs x a) ys
its_left S a e [] [] x s h = tt
its_left S a e [] (q ∷ qs) x s h = absurd h
its_left S a e (p ∷ ps) [] x s h = absurd h
its_left S a e (p ∷ ps) (q ∷ qs) x s h = subst (λ n. EnvBoth S (cond n (block_with p x a ∷ ps) (p ∷ in_its_block ps x a)) (q ∷ qs)) (sym (in_same S p q x h.0)) (pick (is_in_block q x) refl s (λ k. its_left S a e ps qs x k h.1))
  where
    pick : (t : Bool) → is_in_block q x ≡ t → S a (cond t (in_block e q x) (found e qs x)) → (S a (found e qs x) → EnvBoth S (in_its_block ps x a) qs) → EnvBoth S (cond t (block_with p x a ∷ ps) (p ∷ in_its_block ps x a)) (q ∷ qs)
    pick true j k ih = (block_left S a e p q x j k h.0, h.1)
    pick false j k ih = (h.0, ih k)

-- ---- lists

pub both_append : {A B : Type 0} (S : A → B → Type 0) (xs : List A) (ys : List B) (as' : List A) (bs : List B) → ListBoth S xs ys → ListBoth S as' bs → ListBoth S (xs ++ as') (ys ++ bs)
both_append S [] [] us vs h k = k
both_append S [] (y ∷ ys) us vs h k = absurd h
both_append S (x ∷ xs) [] us vs h k = absurd h
both_append S (x ∷ xs) (y ∷ ys) us vs h k = (h.0, both_append S xs ys us vs h.1 k)

pub both_flat_map : {A B C D : Type 0} (S : A → B → Type 0) (R : C → D → Type 0) (f : A → List C) (g : B → List D) → ((a : A) (b : B) → S a b → ListBoth R (f a) (g b)) → (xs : List A) (ys : List B) → ListBoth S xs ys → ListBoth R (flat_map f xs) (flat_map g ys)
both_flat_map S R f g k [] [] h = tt
both_flat_map S R f g k [] (y ∷ ys) h = absurd h
both_flat_map S R f g k (x ∷ xs) [] h = absurd h
both_flat_map S R f g k (x ∷ xs) (y ∷ ys) h = both_append R (f x) (g y) (flat_map f xs) (flat_map g ys) (k x y h.0) (both_flat_map S R f g k xs ys h.1)

pub both_weak : {A B : Type 0} (S R : A → B → Type 0) → ((a : A) (b : B) → S a b → R a b) → (xs : List A) (ys : List B) → ListBoth S xs ys → ListBoth R xs ys
both_weak S R f [] [] h = tt
both_weak S R f [] (b ∷ bs) h = absurd h
both_weak S R f (a ∷ rest) [] h = absurd h
both_weak S R f (a ∷ rest) (b ∷ bs) h = (f a b h.0, both_weak S R f rest bs h.1)

-- ---- a variable that is taken out and put back

pub block_in : {A : Type 0} (vs : Block A) (x : NameId) (a : A) → is_in_block vs x ≡ true → is_in_block (block_with vs x a) x ≡ true
block_in [] x a h = absurd (grind (arith, h))
block_in (v ∷ vs) x a h = pick (same_name v.0 x) refl h (block_in vs x a)
  where
    pick : (t : Bool) → (same_name v.0 x) ≡ t → (t || is_in_block vs x) ≡ true → (is_in_block vs x ≡ true → is_in_block (block_with vs x a) x ≡ true) → is_in_block (cond t ((v.0, a) ∷ vs) (v ∷ block_with vs x a)) x ≡ true
    pick true e k ih = ap (λ b. b || is_in_block vs x) e
    pick false e k ih = ap (λ b. b || is_in_block (block_with vs x a) x) e ∙ ih k

block_twice : {A : Type 0} (vs : Block A) (x : NameId) (a d : A) → is_in_block vs x ≡ true → block_with (block_with vs x a) x (in_block d vs x) ≡ vs
block_twice [] x a d h = absurd (grind (arith, h))
block_twice (v ∷ vs) x a d h = pick (same_name v.0 x) refl h (block_twice vs x a d)
  where
    pick : (t : Bool) → (same_name v.0 x) ≡ t → (t || is_in_block vs x) ≡ true → (is_in_block vs x ≡ true → block_with (block_with vs x a) x (in_block d vs x) ≡ vs)
        → block_with (cond t ((v.0, a) ∷ vs) (v ∷ block_with vs x a)) x (cond t v.1 (in_block d vs x)) ≡ v ∷ vs
    pick true e k ih = ap (λ b. cond b ((v.0, v.1) ∷ vs) ((v.0, a) ∷ block_with vs x v.1)) e
    pick false e k ih = ap (λ b. cond b ((v.0, in_block d vs x) ∷ block_with vs x a) (v ∷ block_with (block_with vs x a) x (in_block d vs x))) e ∙ ap (λ z. v ∷ z) (ih k)

pub its_twice : {A : Type 0} (xs : Env A) (x : NameId) (a d : A) → in_its_block (in_its_block xs x a) x (found d xs x) ≡ xs
its_twice [] x a d = refl
its_twice (b ∷ bs) x a d = pick (is_in_block b x) refl (its_twice bs x a d)
  where
    pick : (t : Bool) → is_in_block b x ≡ t → in_its_block (in_its_block bs x a) x (found d bs x) ≡ bs
        → in_its_block (cond t (block_with b x a ∷ bs) (b ∷ in_its_block bs x a)) x (cond t (in_block d b x) (found d bs x)) ≡ b ∷ bs
    pick true e ih = ap (λ z. cond z (block_with (block_with b x a) x (in_block d b x) ∷ bs) (block_with b x a ∷ in_its_block bs x (in_block d b x))) (block_in b x a e) ∙ ap (λ z. z ∷ bs) (block_twice b x a d e)
    pick false e ih = ap (λ z. cond z (block_with b x (found d bs x) ∷ in_its_block bs x a) (b ∷ in_its_block (in_its_block bs x a) x (found d bs x))) e ∙ ap (λ z. b ∷ z) ih

-- where x is not in reach, `found` gives the other
pub reach_of : {A : Type 0} (xs : Env A) (x : NameId) (d : A) → is_in_reach xs x ≡ false → found d xs x ≡ d
reach_of [] x d h = refl
reach_of (b ∷ bs) x d h = pick (is_in_block b x) h (reach_of bs x d)
  where
    pick : (t : Bool) → (t || is_in_reach bs x) ≡ false → (is_in_reach bs x ≡ false → found d bs x ≡ d) → cond t (in_block d b x) (found d bs x) ≡ d
    pick true k ih = absurd (grind (arith, k))
    pick false k ih = ih k

pub bound_in_reach : {A B : Type 0} (S : A → B → Type 0) (xs : Env A) (ys : Env B) (x : NameId) (w : B) → EnvBoth S xs ys → is_in_reach xs x ≡ true → bound ys x w ≡ in_its_block ys x w
bound_in_reach S xs ys x w h e = ap (λ b. cond b (in_its_block ys x w) (in_first_block ys x w)) (sym (reach_same S xs ys x h) ∙ e)

pub both_take : {A B : Type 0} (S : A → B → Type 0) (n : ℕ) (xs : List A) (ys : List B) → ListBoth S xs ys → ListBoth S (take n xs) (take n ys)
both_take S zero xs ys h = tt
both_take S (suc n) [] [] h = tt
both_take S (suc n) [] (y ∷ ys) h = absurd h
both_take S (suc n) (x ∷ xs) [] h = absurd h
both_take S (suc n) (x ∷ xs) (y ∷ ys) h = (h.0, both_take S n xs ys h.1)

pub both_drop_more : {A B : Type 0} (S : A → B → Type 0) (n : ℕ) (xs : List A) (ys : List B) → ListBoth S xs ys → ListBoth S (drop n xs) (drop n ys)
both_drop_more S zero xs ys h = h
both_drop_more S (suc n) [] [] h = tt
both_drop_more S (suc n) [] (y ∷ ys) h = absurd h
both_drop_more S (suc n) (x ∷ xs) [] h = absurd h
both_drop_more S (suc n) (x ∷ xs) (y ∷ ys) h = both_drop_more S n xs ys h.1

both_aux : {A B : Type 0} (S : A → B → Type 0) (xs : List A) (ys : List B) (us : List A) (vs : List B) → ListBoth S xs ys → ListBoth S us vs → ListBoth S (reverse_aux xs us) (reverse_aux ys vs)
both_aux S [] [] us vs h k = k
both_aux S [] (y ∷ ys) us vs h k = absurd h
both_aux S (x ∷ xs) [] us vs h k = absurd h
both_aux S (x ∷ xs) (y ∷ ys) us vs h k = both_aux S xs ys (x ∷ us) (y ∷ vs) h.1 (h.0, k)

pub both_reverse : {A B : Type 0} (S : A → B → Type 0) (xs : List A) (ys : List B) → ListBoth S xs ys → ListBoth S (reverse xs) (reverse ys)
both_reverse S xs ys h = both_aux S xs ys [] [] h tt

-- ---- what holds of all

pub all_take : {A : Type 0} (Q : A → Type 0) (n : ℕ) (xs : List A) → AllOf Q xs → AllOf Q (take n xs)
all_take Q zero xs h = tt
all_take Q (suc n) [] h = tt
all_take Q (suc n) (x ∷ xs) h = (h.0, all_take Q n xs h.1)

pub all_drop : {A : Type 0} (Q : A → Type 0) (n : ℕ) (xs : List A) → AllOf Q xs → AllOf Q (drop n xs)
all_drop Q zero xs h = h
all_drop Q (suc n) [] h = tt
all_drop Q (suc n) (x ∷ xs) h = all_drop Q n xs h.1

all_aux : {A : Type 0} (Q : A → Type 0) (xs us : List A) → AllOf Q xs → AllOf Q us → AllOf Q (reverse_aux xs us)
all_aux Q [] us h k = k
all_aux Q (x ∷ xs) us h k = all_aux Q xs (x ∷ us) h.1 (h.0, k)

pub all_reverse : {A : Type 0} (Q : A → Type 0) (xs : List A) → AllOf Q xs → AllOf Q (reverse xs)
all_reverse Q xs h = all_aux Q xs [] h tt

pub all_weak : {A : Type 0} (Q R : A → Type 0) → ((a : A) → Q a → R a) → (xs : List A) → AllOf Q xs → AllOf R xs
all_weak Q R f [] h = tt
all_weak Q R f (x ∷ xs) h = (f x h.0, all_weak Q R f xs h.1)

all_append_aux : {A : Type 0} (Q : A → Type 0) (xs ys : List A) → AllOf Q xs → AllOf Q ys → AllOf Q (xs ++ ys)
all_append_aux Q [] ys h k = k
all_append_aux Q (x ∷ xs) ys h k = (h.0, all_append_aux Q xs ys h.1 k)

pub all_append : {A : Type 0} (Q : A → Type 0) (xs ys : List A) → AllOf Q xs → AllOf Q ys → AllOf Q (xs ++ ys)
all_append Q xs ys h k = all_append_aux Q xs ys h k

pub all_map : {A B : Type 0} (Q : A → Type 0) (R : B → Type 0) (f : A → B) → ((a : A) → Q a → R (f a)) → (xs : List A) → AllOf Q xs → AllOf R (map f xs)
all_map Q R f g [] h = tt
all_map Q R f g (x ∷ xs) h = (g x h.0, all_map Q R f g xs h.1)

-- ---- more of related lists

pub both_length : {A B : Type 0} (S : A → B → Type 0) (xs : List A) (ys : List B) → ListBoth S xs ys → length xs ≡ length ys
both_length S [] [] h = refl
both_length S [] (y ∷ ys) h = absurd h
both_length S (x ∷ xs) [] h = absurd h
both_length S (x ∷ xs) (y ∷ ys) h = ap suc (both_length S xs ys h.1)

pub both_maps : {A B C D : Type 0} (S : A → B → Type 0) (R : C → D → Type 0) (f : A → C) (g : B → D) → ((a : A) (b : B) → S a b → R (f a) (g b)) → (xs : List A) (ys : List B) → ListBoth S xs ys → ListBoth R (map f xs) (map g ys)
both_maps S R f g k [] [] h = tt
both_maps S R f g k [] (y ∷ ys) h = absurd h
both_maps S R f g k (x ∷ xs) [] h = absurd h
both_maps S R f g k (x ∷ xs) (y ∷ ys) h = (k x y h.0, both_maps S R f g k xs ys h.1)

-- equal items on both sides give equal lists
pub both_equal : {A B C : Type 0} (S : A → B → Type 0) (f : A → C) (g : B → C) → ((a : A) (b : B) → S a b → f a ≡ g b) → (xs : List A) (ys : List B) → ListBoth S xs ys → map f xs ≡ map g ys
both_equal S f g k [] [] h = refl
both_equal S f g k [] (y ∷ ys) h = absurd h
both_equal S f g k (x ∷ xs) [] h = absurd h
both_equal S f g k (x ∷ xs) (y ∷ ys) h = ap (λ c. c ∷ map f xs) (k x y h.0) ∙ ap (λ cs. g y ∷ cs) (both_equal S f g k xs ys h.1)

pub env_weak : {A B : Type 0} (S R : A → B → Type 0) → ((a : A) (b : B) → S a b → R a b) → (xs : Env A) (ys : Env B) → EnvBoth S xs ys → EnvBoth R xs ys
env_weak S R f xs ys h = both_weak (ListBoth (Entry S)) (ListBoth (Entry R)) (λ b c k. both_weak (Entry S) (Entry R) (λ p q e. (e.0, f p.1 q.1 e.1)) b c k) xs ys h

-- ---- values of both sides

-- the first of the values under way
pub first_both : (S : Known → Value → Type 0) → S Absent gone → (xs : List Known) (ys : List Value) → ListBoth S xs ys → S (first xs) (first_value ys)
first_both S d [] [] h = d
first_both S d [] (y ∷ ys) h = absurd h
first_both S d (x ∷ xs) [] h = absurd h
first_both S d (x ∷ xs) (y ∷ ys) h = h.0

-- ---- a variable whose right value changes alone

-- a variable is in reach if it shows something else than the other
pub reach_found : {A : Type 0} (xs : Env A) (x : NameId) (d : A) → (found d xs x ≡ d → ⊥) → is_in_reach xs x ≡ true
reach_found xs x d f = pick (is_in_reach xs x) refl
  where
    pick : (t : Bool) → is_in_reach xs x ≡ t → t ≡ true
    pick true e = refl
    pick false e = absurd (f (reach_of xs x d e))

block_keeps_in : {A : Type 0} (vs : Block A) (x y : NameId) (a : A) → is_in_block vs x ≡ true → is_in_block (block_with vs x a) y ≡ is_in_block vs y
block_keeps_in [] x y a h = absurd (grind (arith, h))
block_keeps_in (v ∷ vs) x y a h = pick (same_name v.0 x) h (block_keeps_in vs x y a)
  where
    pick : (t : Bool) → (t || is_in_block vs x) ≡ true → (is_in_block vs x ≡ true → is_in_block (block_with vs x a) y ≡ is_in_block vs y) → is_in_block (cond t ((v.0, a) ∷ vs) (v ∷ block_with vs x a)) y ≡ (same_name v.0 y || is_in_block vs y)
    pick true k ih = refl
    pick false k ih = ap (λ b. same_name v.0 y || b) (ih k)

pub reach_kept : {A : Type 0} (xs : Env A) (x y : NameId) (a : A) → is_in_reach (in_its_block xs x a) y ≡ is_in_reach xs y
reach_kept [] x y a = refl
reach_kept (b ∷ bs) x y a = pick (is_in_block b x) refl (reach_kept bs x y a)
  where
    pick : (t : Bool) → is_in_block b x ≡ t → is_in_reach (in_its_block bs x a) y ≡ is_in_reach bs y → is_in_reach (cond t (block_with b x a ∷ bs) (b ∷ in_its_block bs x a)) y ≡ (is_in_block b y || is_in_reach bs y)
    pick true e ih = ap (λ t. t || is_in_reach bs y) (block_keeps_in b x y a e)
    pick false e ih = ap (λ t. is_in_block b y || t) ih

-- all but the variable is related, and so is what it shows to a new value: the value changes in its place
pub its_right : {A B : Type 0} (S : A → B → Type 0) (a d : A) (b : B) (xs : Env A) (ys : Env B) (x : NameId) → EnvBoth S (in_its_block xs x a) ys → S (found d xs x) b → EnvBoth S xs (in_its_block ys x b)
its_right S a d b xs ys x h s = subst (λ zs. EnvBoth S zs (in_its_block ys x b)) (its_twice xs x a d) (its_both S (found d xs x) b s (in_its_block xs x a) ys x h)

pub bound_right : {A B : Type 0} (S : A → B → Type 0) (a d : A) (b : B) (xs : Env A) (ys : Env B) (x : NameId) → EnvBoth S (in_its_block xs x a) ys → is_in_reach xs x ≡ true → S (found d xs x) b → EnvBoth S xs (bound ys x b)
bound_right S a d b xs ys x h r s =
    subst (EnvBoth S xs) (sym (bound_in_reach S (in_its_block xs x a) ys x b h (reach_kept xs x x a ∙ r))) (its_right S a d b xs ys x h s)

-- ---- a variable shows what it was bound to

block_found : {A : Type 0} (vs : Block A) (x : NameId) (a d : A) → is_in_block vs x ≡ true → in_block d (block_with vs x a) x ≡ a
block_found [] x a d h = absurd (grind (arith, h))
block_found (v ∷ vs) x a d h = pick (same_name v.0 x) refl h (block_found vs x a d)
  where
    pick : (t : Bool) → (same_name v.0 x) ≡ t → (t || is_in_block vs x) ≡ true → (is_in_block vs x ≡ true → in_block d (block_with vs x a) x ≡ a) → in_block d (cond t ((v.0, a) ∷ vs) (v ∷ block_with vs x a)) x ≡ a
    pick true e k ih = ap (λ b. cond b a (in_block d vs x)) e
    pick false e k ih = ap (λ b. cond b v.1 (in_block d (block_with vs x a) x)) e ∙ ih k

pub its_found : {A : Type 0} (xs : Env A) (x : NameId) (a d : A) → is_in_reach xs x ≡ true → found d (in_its_block xs x a) x ≡ a
its_found [] x a d h = absurd (grind (arith, h))
its_found (b ∷ bs) x a d h = pick (is_in_block b x) refl h (its_found bs x a d)
  where
    pick : (t : Bool) → is_in_block b x ≡ t → (t || is_in_reach bs x) ≡ true → (is_in_reach bs x ≡ true → found d (in_its_block bs x a) x ≡ a) → found d (cond t (block_with b x a ∷ bs) (b ∷ in_its_block bs x a)) x ≡ a
    pick true e k ih = ap (λ z. cond z (in_block d (block_with b x a) x) (found d bs x)) (block_in b x a e) ∙ block_found b x a d e
    pick false e k ih = ap (λ z. cond z (in_block d b x) (found d (in_its_block bs x a) x)) e ∙ ih k
