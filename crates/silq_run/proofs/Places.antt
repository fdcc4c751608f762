-- Variables and blocks by their places.
use Rattle.std.proofs.Common.{◌≡◌, ℕ, zero, suc, ◌+◌, ◌<◌, Bool, true, false, cond, ◌||◌, Some, None, is_some, List, [], ◌∷◌, ◌++◌, length, take, drop, reverse, set, get_or, refl, sym, ap, ◌∙◌, subst, arith}
use Rattle.std.specs.Prelude.{nat_lt, not}
use Rattle.std.specs.List.{position, position_or_len}
use Rattle.std.proofs.lemmas.List.{reverse-append, append_assoc, set_split, set-get_or, get_or_default, drop_all, drop_more}
use Rattle.std.proofs.lemmas.List.Quantifiers.{position-Some}
use Rattle.silq_tree.specs.declared.node.NameId.{NameId}
use Rattle.silq_types.specs.Types.{same_name}
use Rattle.silq_mean.specs.Env.{Block, Env, is_in_block, in_block, block_with, is_in_reach, found, in_its_block, in_first_block, bound}
use Rattle.silq_run.specs.Reach.{IsInnermost}

-- ---- a block

lt_zero : (n : ℕ) → nat_lt 0 (suc n) ≡ true
lt_zero n = grind arith

lt_more : (m n : ℕ) → nat_lt (1 + m) (suc n) ≡ nat_lt m n
lt_more m n = grind arith

has_place : {A : Type 0} (vs : Block A) (x : NameId) → nat_lt (position_or_len (λ v. same_name v.0 x) vs) (length vs) ≡ is_in_block vs x
has_place [] x = refl
has_place {A = A} (v ∷ vs) x = pick (same_name v.0 x) (has_place vs x)
  where
    pick : (b : Bool) → nat_lt (position_or_len (λ u. same_name u.0 x) vs) (length vs) ≡ is_in_block vs x → nat_lt (cond (not b) (1 + position_or_len (λ u. same_name u.0 x) vs) 0) (suc (length vs)) ≡ b || is_in_block vs x
    pick true ih = lt_zero (length vs)
    pick false ih = lt_more (position_or_len (λ u. same_name u.0 x) vs) (length vs) ∙ ih

some_of : (t : Bool) (n : ℕ) → is_some (cond t (Some n) None) ≡ t
some_of true n = refl
some_of false n = refl

-- whether a variable of the block is found
pub is_placed : {A : Type 0} (vs : Block A) (x : NameId) → is_some (position (λ v. same_name v.0 x) vs) ≡ is_in_block vs x
is_placed vs x = some_of (nat_lt (position_or_len (λ v. same_name v.0 x) vs) (length vs)) (position_or_len (λ v. same_name v.0 x) vs) ∙ has_place vs x

pub not_placed : {A : Type 0} (vs : Block A) (x : NameId) → position (λ v. same_name v.0 x) vs ≡ None → is_in_block vs x ≡ false
not_placed vs x e = sym (is_placed vs x) ∙ ap is_some e

-- a variable of a block at its place
pub record At {A : Type 0} (vs : Block A) (x : NameId) (i : ℕ) (d : NameId × A) : Type 0 where
  pub there : i < length vs
  pub has : is_in_block vs x ≡ true
  pub shows : (o : A) → in_block o vs x ≡ (get_or vs i d).1
  pub with : (w : A) → block_with vs x w ≡ set vs i ((get_or vs i d).0, w)

at_place : {A : Type 0} (vs : Block A) (x : NameId) (i : ℕ) (d : NameId × A) → i < length vs → same_name (get_or vs i d).0 x ≡ true → ((k : ℕ) → k < i → same_name (get_or vs k d).0 x ≡ false) → At vs x i d
at_place [] x i d h e f = absurd (omega (arith, h))
at_place (v ∷ vs) x zero d h e f = record {
  there = h;
  has = ap (λ b. b || is_in_block vs x) e;
  shows = λ o. ap (λ b. cond b v.1 (in_block o vs x)) e;
  with = λ w. ap (λ b. cond b ((v.0, w) ∷ vs) (v ∷ block_with vs x w)) e;
}
at_place {A = A} (v ∷ vs) x (suc i) d h e f = go (f 0 (omega arith)) (at_place vs x i d (omega (arith, h)) e (λ k l. f (suc k) (omega (arith, l))))
  where
    go : same_name v.0 x ≡ false → At vs x i d → At (v ∷ vs) x (suc i) d
    go n r = record {
      there = h;
      has = ap (λ b. b || is_in_block vs x) n ∙ r.has;
      shows = λ o. ap (λ b. cond b v.1 (in_block o vs x)) n ∙ r.shows o;
      with = λ w. ap (λ b. cond b ((v.0, w) ∷ vs) (v ∷ block_with vs x w)) n ∙ ap (λ z. v ∷ z) (r.with w);
    }

pub placed : {A : Type 0} (vs : Block A) (x : NameId) (i : ℕ) (d : NameId × A) → position (λ v. same_name v.0 x) vs ≡ Some i → At vs x i d
placed vs x i d e = let k = position-Some (λ v. same_name v.0 x) vs i d e in at_place vs x i d k.0 k.1 k.2

pub block_with_new : {A : Type 0} (vs : Block A) (x : NameId) (w : A) → is_in_block vs x ≡ false → block_with vs x w ≡ vs ++ (x, w) ∷ []
block_with_new [] x w h = refl
block_with_new (v ∷ vs) x w h = pick (same_name v.0 x) h (block_with_new vs x w)
  where
    pick : (b : Bool) → (b || is_in_block vs x) ≡ false → (is_in_block vs x ≡ false → block_with vs x w ≡ vs ++ (x, w) ∷ []) → cond b ((v.0, w) ∷ vs) (v ∷ block_with vs x w) ≡ v ∷ (vs ++ (x, w) ∷ [])
    pick true k ih = absurd (grind (arith, k))
    pick false k ih = ap (λ z. v ∷ z) (ih k)

-- ---- blocks

reach_at_end : {A : Type 0} (pre : Env A) (b : Block A) (x : NameId) → is_in_reach pre x ≡ false → is_in_block b x ≡ false → is_in_reach (pre ++ b ∷ []) x ≡ false
reach_at_end [] b x h e = ap (λ z. z || false) e
reach_at_end (c ∷ pre) b x h e = pick (is_in_block c x) h (λ k. reach_at_end pre b x k e)
  where
    pick : (t : Bool) → (t || is_in_reach pre x) ≡ false → (is_in_reach pre x ≡ false → is_in_reach (pre ++ b ∷ []) x ≡ false) → t || is_in_reach (pre ++ b ∷ []) x ≡ false
    pick true k ih = absurd (grind (arith, k))
    pick false k ih = ih k

-- an outer block more that has not the name
pub outer_more : {A : Type 0} (bs : List (Block A)) (x : NameId) (i : ℕ) → i < length bs → is_in_reach (reverse (drop (i + 1) bs)) x ≡ false → is_in_block (get_or bs i []) x ≡ false → is_in_reach (reverse (drop i bs)) x ≡ false
outer_more bs x i l h e = subst (λ z. is_in_reach (reverse z) x ≡ false) (sym (drop_more bs i [] l)) (subst (λ z. is_in_reach z x ≡ false) (sym (reverse-append (get_or bs i [] ∷ []) (drop (i + 1) bs))) (reach_at_end (reverse (drop (i + 1) bs)) (get_or bs i []) x h e))

in_reach_at : {A : Type 0} (pre : Env A) (b : Block A) (post : Env A) (x : NameId) → is_in_reach pre x ≡ false → is_in_block b x ≡ true → is_in_reach (pre ++ b ∷ post) x ≡ true
in_reach_at [] b post x h e = ap (λ z. z || is_in_reach post x) e
in_reach_at (c ∷ pre) b post x h e = pick (is_in_block c x) h (λ k. in_reach_at pre b post x k e)
  where
    pick : (t : Bool) → (t || is_in_reach pre x) ≡ false → (is_in_reach pre x ≡ false → is_in_reach (pre ++ b ∷ post) x ≡ true) → t || is_in_reach (pre ++ b ∷ post) x ≡ true
    pick true k ih = absurd (grind (arith, k))
    pick false k ih = ih k

found_at : {A : Type 0} (pre : Env A) (b : Block A) (post : Env A) (x : NameId) (d : A) → is_in_reach pre x ≡ false → is_in_block b x ≡ true → found d (pre ++ b ∷ post) x ≡ in_block d b x
found_at [] b post x d h e = ap (λ z. cond z (in_block d b x) (found d post x)) e
found_at (c ∷ pre) b post x d h e = pick (is_in_block c x) h (λ k. found_at pre b post x d k e)
  where
    pick : (t : Bool) → (t || is_in_reach pre x) ≡ false → (is_in_reach pre x ≡ false → found d (pre ++ b ∷ post) x ≡ in_block d b x) → cond t (in_block d c x) (found d (pre ++ b ∷ post) x) ≡ in_block d b x
    pick true k ih = absurd (grind (arith, k))
    pick false k ih = ih k

its_at : {A : Type 0} (pre : Env A) (b : Block A) (post : Env A) (x : NameId) (w : A) → is_in_reach pre x ≡ false → is_in_block b x ≡ true → in_its_block (pre ++ b ∷ post) x w ≡ pre ++ block_with b x w ∷ post
its_at [] b post x w h e = ap (λ z. cond z (block_with b x w ∷ post) (b ∷ in_its_block post x w)) e
its_at (c ∷ pre) b post x w h e = pick (is_in_block c x) h (λ k. its_at pre b post x w k e)
  where
    pick : (t : Bool) → (t || is_in_reach pre x) ≡ false → (is_in_reach pre x ≡ false → in_its_block (pre ++ b ∷ post) x w ≡ pre ++ block_with b x w ∷ post) → cond t (block_with c x w ∷ (pre ++ b ∷ post)) (c ∷ in_its_block (pre ++ b ∷ post) x w) ≡ c ∷ (pre ++ block_with b x w ∷ post)
    pick true k ih = absurd (grind (arith, k))
    pick false k ih = ap (λ z. c ∷ z) (ih k)

-- a list of blocks with one of them set, from the innermost on
reverse_split : {A : Type 0} (xs : List A) (y : A) (ys : List A) → reverse (xs ++ y ∷ ys) ≡ reverse ys ++ y ∷ reverse xs
reverse_split xs y ys = reverse-append xs (y ∷ ys) ∙ ap (λ z. z ++ reverse xs) (reverse-append (y ∷ []) ys) ∙ append_assoc (reverse ys) (y ∷ []) (reverse xs)

reverse_set : {A : Type 0} (bs : List A) (i : ℕ) (y : A) → i < length bs → reverse (set bs i y) ≡ reverse (drop (suc i) bs) ++ y ∷ reverse (take i bs)
reverse_set bs i y l = ap reverse (set_split bs i y l) ∙ reverse_split (take i bs) y (drop (suc i) bs)

reverse_at : {A : Type 0} (bs : List A) (i : ℕ) (d : A) → i < length bs → reverse bs ≡ reverse (drop (suc i) bs) ++ get_or bs i d ∷ reverse (take i bs)
reverse_at bs i d l = ap reverse (sym (set-get_or bs i d)) ∙ reverse_set bs i (get_or bs i d) l

pub reach_in : {A : Type 0} (bs : List (Block A)) (x : NameId) (i : ℕ) → IsInnermost bs x i → is_in_reach (reverse bs) x ≡ true
reach_in bs x i h = ap (λ z. is_in_reach z x) (reverse_at bs i [] h.there) ∙ in_reach_at (reverse (drop (suc i) bs)) (get_or bs i []) (reverse (take i bs)) x h.inner h.has

pub found_in : {A : Type 0} (bs : List (Block A)) (x : NameId) (i : ℕ) (d : A) → IsInnermost bs x i → found d (reverse bs) x ≡ in_block d (get_or bs i []) x
found_in bs x i d h = ap (λ z. found d z x) (reverse_at bs i [] h.there) ∙ found_at (reverse (drop (suc i) bs)) (get_or bs i []) (reverse (take i bs)) x d h.inner h.has

pub its_in : {A : Type 0} (bs : List (Block A)) (x : NameId) (i : ℕ) (w : A) → IsInnermost bs x i → in_its_block (reverse bs) x w ≡ reverse (set bs i (block_with (get_or bs i []) x w))
its_in bs x i w h = ap (λ z. in_its_block z x w) (reverse_at bs i [] h.there) ∙ its_at (reverse (drop (suc i) bs)) (get_or bs i []) (reverse (take i bs)) x w h.inner h.has ∙ sym (reverse_set bs i (block_with (get_or bs i []) x w) h.there)

pub bound_in : {A : Type 0} (bs : List (Block A)) (x : NameId) (i : ℕ) (w : A) → IsInnermost bs x i → bound (reverse bs) x w ≡ reverse (set bs i (block_with (get_or bs i []) x w))
bound_in bs x i w h = ap (λ z. cond z (in_its_block (reverse bs) x w) (in_first_block (reverse bs) x w)) (reach_in bs x i h) ∙ its_in bs x i w h

pub bound_new : {A : Type 0} (env : Env A) (x : NameId) (w : A) → is_in_reach env x ≡ false → bound env x w ≡ in_first_block env x w
bound_new env x w h = ap (λ z. cond z (in_its_block env x w) (in_first_block env x w)) h

pub first_in : {A : Type 0} (bs : List (Block A)) (x : NameId) (i : ℕ) (w : A) → suc i ≡ length bs → in_first_block (reverse bs) x w ≡ reverse (set bs i (block_with (get_or bs i []) x w))
first_in bs x i w e =
    ap (λ z. in_first_block z x w) (reverse_at bs i [] (omega (arith, e)) ∙ ap (λ z. reverse z ++ get_or bs i [] ∷ reverse (take i bs)) none)
    ∙ ap (λ z. reverse z ++ block_with (get_or bs i []) x w ∷ reverse (take i bs)) (sym none)
    ∙ sym (reverse_set bs i (block_with (get_or bs i []) x w) (omega (arith, e)))
  where
    none : drop (suc i) bs ≡ []
    none = drop_all (suc i) bs (omega (arith, e))

pub not_found : {A : Type 0} (env : Env A) (x : NameId) (d : A) → is_in_reach env x ≡ false → found d env x ≡ d
not_found [] x d h = refl
not_found (b ∷ bs) x d h = pick (is_in_block b x) h (not_found bs x d)
  where
    pick : (t : Bool) → (t || is_in_reach bs x) ≡ false → (is_in_reach bs x ≡ false → found d bs x ≡ d) → cond t (in_block d b x) (found d bs x) ≡ d
    pick true k ih = absurd (grind (arith, k))
    pick false k ih = ih k

pub not_its : {A : Type 0} (env : Env A) (x : NameId) (w : A) → is_in_reach env x ≡ false → in_its_block env x w ≡ env
not_its [] x w h = refl
not_its (b ∷ bs) x w h = pick (is_in_block b x) h (not_its bs x w)
  where
    pick : (t : Bool) → (t || is_in_reach bs x) ≡ false → (is_in_reach bs x ≡ false → in_its_block bs x w ≡ bs) → cond t (block_with b x w ∷ bs) (b ∷ in_its_block bs x w) ≡ b ∷ bs
    pick true k ih = absurd (grind (arith, k))
    pick false k ih = ap (λ z. b ∷ z) (ih k)

-- ---- what a method does with the block at a place

at_block : {A : Type 0} (bs : List (Block A)) (i : ℕ) (b : Block A) → i < length bs → b ≡ get_or bs i b → get_or bs i [] ≡ b
at_block bs i b l e = get_or_default bs i [] b l ∙ sym e

pub found_to : {A : Type 0} (bs : List (Block A)) (x : NameId) (i : ℕ) (d : A) (b : Block A) (env : Env A) → IsInnermost bs x i → b ≡ get_or bs i b → reverse bs ≡ env → found d env x ≡ in_block d b x
found_to bs x i d b env h e v = ap (λ z. found d z x) (sym v) ∙ found_in bs x i d h ∙ ap (λ z. in_block d z x) (at_block bs i b h.there e)

pub its_to : {A : Type 0} (bs : List (Block A)) (x : NameId) (i : ℕ) (w : A) (b new : Block A) (env : Env A) → IsInnermost bs x i → b ≡ get_or bs i b → new ≡ block_with b x w → reverse bs ≡ env → reverse (set bs i new) ≡ in_its_block env x w
its_to bs x i w b new env h e f v =
    ap (λ z. reverse (set bs i z)) (f ∙ ap (λ z. block_with z x w) (sym (at_block bs i b h.there e))) ∙ sym (its_in bs x i w h) ∙ ap (λ z. in_its_block z x w) v

pub bound_to : {A : Type 0} (bs : List (Block A)) (x : NameId) (i : ℕ) (w : A) (b new : Block A) (env : Env A) → IsInnermost bs x i → b ≡ get_or bs i b → new ≡ block_with b x w → reverse bs ≡ env → reverse (set bs i new) ≡ bound env x w
bound_to bs x i w b new env h e f v =
    its_to bs x i w b new env h e f v ∙ ap (λ z. cond z (in_its_block env x w) (in_first_block env x w)) (sym (ap (λ z. is_in_reach z x) (sym v) ∙ reach_in bs x i h))

pub first_to : {A : Type 0} (bs : List (Block A)) (x : NameId) (i : ℕ) (w : A) (b new : Block A) (env : Env A) → suc i ≡ length bs → b ≡ get_or bs i b → new ≡ block_with b x w → reverse bs ≡ env → reverse (set bs i new) ≡ in_first_block env x w
first_to bs x i w b new env l e f v =
    ap (λ z. reverse (set bs i z)) (f ∙ ap (λ z. block_with z x w) (sym (at_block bs i b (omega (arith, l)) e))) ∙ sym (first_in bs x i w l) ∙ ap (λ z. in_first_block z x w) v
