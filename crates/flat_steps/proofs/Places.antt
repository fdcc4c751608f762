-- Blocks by their places.
use Rattle.std.proofs.Common.{◌≡◌, ℕ, zero, suc, ◌+◌, ◌<◌, Bool, true, false, cond, ◌||◌, Some, None, is_some, List, [], ◌∷◌, ◌++◌, length, take, drop, reverse, set, get_or, refl, sym, ap, ◌∙◌, subst, arith}
use Rattle.std.proofs.lemmas.List.{reverse-append, append_assoc, set_split, set-get_or, get_or_default, drop_all}
use Rattle.silq_tree.specs.declared.node.NameId.{NameId}
use Rattle.silq_mean.specs.Env.{Block, Env, is_in_block, in_block, block_with, is_in_reach, found, in_its_block, in_first_block, bound}
use Rattle.flat_steps.specs.Reach.{IsInnermost}

-- ---- blocks

pub reach_at_end : {A : Type 0} (pre : Env A) (b : Block A) (x : NameId) → is_in_reach pre x ≡ false → is_in_block b x ≡ false → is_in_reach (pre ++ b ∷ []) x ≡ false
reach_at_end [] b x h e = ap (λ z. z || false) e
reach_at_end (c ∷ pre) b x h e = pick (is_in_block c x) h (λ k. reach_at_end pre b x k e)
  where
    pick : (t : Bool) → (t || is_in_reach pre x) ≡ false → (is_in_reach pre x ≡ false → is_in_reach (pre ++ b ∷ []) x ≡ false) → t || is_in_reach (pre ++ b ∷ []) x ≡ false
    pick true k ih = absurd (grind (arith, k))
    pick false k ih = ih k

in_reach_at : {A : Type 0} (pre : Env A) (b : Block A) (post : Env A) (x : NameId) → is_in_reach pre x ≡ false → is_in_block b x ≡ true → is_in_reach (pre ++ b ∷ post) x ≡ true
in_reach_at [] b post x h e = ap (λ z. z || is_in_reach post x) e
in_reach_at (c ∷ pre) b post x h e = pick (is_in_block c x) h (λ k. in_reach_at pre b post x k e)
  where
    pick : (t : Bool) → (t || is_in_reach pre x) ≡ false → (is_in_reach pre x ≡ false → is_in_reach (pre ++ b ∷ post) x ≡ true) → t || is_in_reach (pre ++ b ∷ post) x ≡ true
    pick true k ih = absurd (grind (arith, k))
    pick false k ih = ih k

found_at : {A : Type 0} (pre : Env A) (b : Block A) (post : Env A) (x : NameId) (d : A) → is_in_reach pre x ≡ false → is_in_block b x ≡ true → found d (pre ++ b ∷ post) x ≡ in_block d b x
found_at [] b post x d h e = ap (λ z. cond z (in_block d b x) (found d post x)) e
found_at (c ∷ pre) b post x d h e = pick (is_in_block c x) h (λ k. found_at pre b post x d k e)
  where
    pick : (t : Bool) → (t || is_in_reach pre x) ≡ false → (is_in_reach pre x ≡ false → found d (pre ++ b ∷ post) x ≡ in_block d b x) → cond t (in_block d c x) (found d (pre ++ b ∷ post) x) ≡ in_block d b x
    pick true k ih = absurd (grind (arith, k))
    pick false k ih = ih k

its_at : {A : Type 0} (pre : Env A) (b : Block A) (post : Env A) (x : NameId) (w : A) → is_in_reach pre x ≡ false → is_in_block b x ≡ true → in_its_block (pre ++ b ∷ post) x w ≡ pre ++ block_with b x w ∷ post
its_at [] b post x w h e = ap (λ z. cond z (block_with b x w ∷ post) (b ∷ in_its_block post x w)) e
its_at (c ∷ pre) b post x w h e = pick (is_in_block c x) h (λ k. its_at pre b post x w k e)
  where
    pick : (t : Bool) → (t || is_in_reach pre x) ≡ false → (is_in_reach pre x ≡ false → in_its_block (pre ++ b ∷ post) x w ≡ pre ++ block_with b x w ∷ post) → cond t (block_with c x w ∷ (pre ++ b ∷ post)) (c ∷ in_its_block (pre ++ b ∷ post) x w) ≡ c ∷ (pre ++ block_with b x w ∷ post)
    pick true k ih = absurd (grind (arith, k))
    pick false k ih = ap (λ z. c ∷ z) (ih k)

-- a list of blocks with one of them set, from the innermost on
reverse_split : {A : Type 0} (xs : List A) (y : A) (ys : List A) → reverse (xs ++ y ∷ ys) ≡ reverse ys ++ y ∷ reverse xs
reverse_split xs y ys = reverse-append xs (y ∷ ys) ∙ ap (λ z. z ++ reverse xs) (reverse-append (y ∷ []) ys) ∙ append_assoc (reverse ys) (y ∷ []) (reverse xs)

reverse_set : {A : Type 0} (bs : List A) (i : ℕ) (y : A) → i < length bs → reverse (set bs i y) ≡ reverse (drop (suc i) bs) ++ y ∷ reverse (take i bs)
reverse_set bs i y l = ap reverse (set_split bs i y l) ∙ reverse_split (take i bs) y (drop (suc i) bs)

pub reverse_at : {A : Type 0} (bs : List A) (i : ℕ) (d : A) → i < length bs → reverse bs ≡ reverse (drop (suc i) bs) ++ get_or bs i d ∷ reverse (take i bs)
reverse_at bs i d l = ap reverse (sym (set-get_or bs i d)) ∙ reverse_set bs i (get_or bs i d) l

pub reach_in : {A : Type 0} (bs : List (Block A)) (x : NameId) (i : ℕ) → IsInnermost bs x i → is_in_reach (reverse bs) x ≡ true
reach_in bs x i h = ap (λ z. is_in_reach z x) (reverse_at bs i [] h.there) ∙ in_reach_at (reverse (drop (suc i) bs)) (get_or bs i []) (reverse (take i bs)) x h.inner h.has

pub found_in : {A : Type 0} (bs : List (Block A)) (x : NameId) (i : ℕ) (d : A) → IsInnermost bs x i → found d (reverse bs) x ≡ in_block d (get_or bs i []) x
found_in bs x i d h = ap (λ z. found d z x) (reverse_at bs i [] h.there) ∙ found_at (reverse (drop (suc i) bs)) (get_or bs i []) (reverse (take i bs)) x d h.inner h.has

pub its_in : {A : Type 0} (bs : List (Block A)) (x : NameId) (i : ℕ) (w : A) → IsInnermost bs x i → in_its_block (reverse bs) x w ≡ reverse (set bs i (block_with (get_or bs i []) x w))
its_in bs x i w h = ap (λ z. in_its_block z x w) (reverse_at bs i [] h.there) ∙ its_at (reverse (drop (suc i) bs)) (get_or bs i []) (reverse (take i bs)) x w h.inner h.has ∙ sym (reverse_set bs i (block_with (get_or bs i []) x w) h.there)

pub bound_in : {A : Type 0} (bs : List (Block A)) (x : NameId) (i : ℕ) (w : A) → IsInnermost bs x i → bound (reverse bs) x w ≡ reverse (set bs i (block_with (get_or bs i []) x w))
bound_in bs x i w h = ap (λ z. cond z (in_its_block (reverse bs) x w) (in_first_block (reverse bs) x w)) (reach_in bs x i h) ∙ its_in bs x i w h

pub bound_new : {A : Type 0} (env : Env A) (x : NameId) (w : A) → is_in_reach env x ≡ false → bound env x w ≡ in_first_block env x w
bound_new env x w h = ap (λ z. cond z (in_its_block env x w) (in_first_block env x w)) h

pub first_in : {A : Type 0} (bs : List (Block A)) (x : NameId) (i : ℕ) (w : A) → suc i ≡ length bs → in_first_block (reverse bs) x w ≡ reverse (set bs i (block_with (get_or bs i []) x w))
first_in bs x i w e =
    ap (λ z. in_first_block z x w) (reverse_at bs i [] (omega (arith, e)) ∙ ap (λ z. reverse z ++ get_or bs i [] ∷ reverse (take i bs)) none)
    ∙ ap (λ z. reverse z ++ block_with (get_or bs i []) x w ∷ reverse (take i bs)) (sym none)
    ∙ sym (reverse_set bs i (block_with (get_or bs i []) x w) (omega (arith, e)))
  where
    none : drop (suc i) bs ≡ []
    none = drop_all (suc i) bs (omega (arith, e))

pub not_found : {A : Type 0} (env : Env A) (x : NameId) (d : A) → is_in_reach env x ≡ false → found d env x ≡ d
not_found [] x d h = refl
not_found (b ∷ bs) x d h = pick (is_in_block b x) h (not_found bs x d)
  where
    pick : (t : Bool) → (t || is_in_reach bs x) ≡ false → (is_in_reach bs x ≡ false → found d bs x ≡ d) → cond t (in_block d b x) (found d bs x) ≡ d
    pick true k ih = absurd (grind (arith, k))
    pick false k ih = ih k

pub not_its : {A : Type 0} (env : Env A) (x : NameId) (w : A) → is_in_reach env x ≡ false → in_its_block env x w ≡ env
not_its [] x w h = refl
not_its (b ∷ bs) x w h = pick (is_in_block b x) h (not_its bs x w)
  where
    pick : (t : Bool) → (t || is_in_reach bs x) ≡ false → (is_in_reach bs x ≡ false → in_its_block bs x w ≡ bs) → cond t (block_with b x w ∷ bs) (b ∷ in_its_block bs x w) ≡ b ∷ bs
    pick true k ih = absurd (grind (arith, k))
    pick false k ih = ap (λ z. b ∷ z) (ih k)

-- ---- what a method does with the block at a place

pub at_block : {A : Type 0} (bs : List (Block A)) (i : ℕ) (b : Block A) → i < length bs → b ≡ get_or bs i b → get_or bs i [] ≡ b
at_block bs i b l e = get_or_default bs i [] b l ∙ sym e

pub found_to : {A : Type 0} (bs : List (Block A)) (x : NameId) (i : ℕ) (d : A) (b : Block A) (env : Env A) → IsInnermost bs x i → b ≡ get_or bs i b → reverse bs ≡ env → found d env x ≡ in_block d b x
found_to bs x i d b env h e v = ap (λ z. found d z x) (sym v) ∙ found_in bs x i d h ∙ ap (λ z. in_block d z x) (at_block bs i b h.there e)

pub its_to : {A : Type 0} (bs : List (Block A)) (x : NameId) (i : ℕ) (w : A) (b new : Block A) (env : Env A) → IsInnermost bs x i → b ≡ get_or bs i b → new ≡ block_with b x w → reverse bs ≡ env → reverse (set bs i new) ≡ in_its_block env x w
its_to bs x i w b new env h e f v =
    ap (λ z. reverse (set bs i z)) (f ∙ ap (λ z. block_with z x w) (sym (at_block bs i b h.there e))) ∙ sym (its_in bs x i w h) ∙ ap (λ z. in_its_block z x w) v

pub bound_to : {A : Type 0} (bs : List (Block A)) (x : NameId) (i : ℕ) (w : A) (b new : Block A) (env : Env A) → IsInnermost bs x i → b ≡ get_or bs i b → new ≡ block_with b x w → reverse bs ≡ env → reverse (set bs i new) ≡ bound env x w
bound_to bs x i w b new env h e f v =
    its_to bs x i w b new env h e f v ∙ ap (λ z. cond z (in_its_block env x w) (in_first_block env x w)) (sym (ap (λ z. is_in_reach z x) (sym v) ∙ reach_in bs x i h))

pub first_to : {A : Type 0} (bs : List (Block A)) (x : NameId) (i : ℕ) (w : A) (b new : Block A) (env : Env A) → suc i ≡ length bs → b ≡ get_or bs i b → new ≡ block_with b x w → reverse bs ≡ env → reverse (set bs i new) ≡ in_first_block env x w
first_to bs x i w b new env l e f v =
    ap (λ z. reverse (set bs i z)) (f ∙ ap (λ z. block_with z x w) (sym (at_block bs i b (omega (arith, l)) e))) ∙ sym (first_in bs x i w l) ∙ ap (λ z. in_first_block z x w) v
