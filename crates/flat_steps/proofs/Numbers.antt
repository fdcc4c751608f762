-- Variables of a block by their numbers.
use Rattle.std.proofs.Common.{◌≡◌, ℕ, zero, suc, ◌<◌, Bool, true, false, cond, ◌||◌, Option, Some, None, is_some, List, [], ◌∷◌, ◌++◌, length, slice_get, set, get_or, refl, sym, ap, ◌∙◌, arith}
use Rattle.std.specs.Option.{option_map}
use Rattle.silq_tree.specs.declared.node.NameId.{NameId}
use Rattle.silq_types.specs.Types.{same_name}
use Rattle.silq_mean.specs.Env.{Block, is_in_block, in_block, block_with}
use Rattle.flat_steps.specs.Reach.{number_of, is_named}

-- a variable of a block at its number
pub record At {A : Type 0} (vs : Block A) (x : NameId) (i : ℕ) (d : NameId × A) : Type 0 where
  pub there : i < length vs
  pub has : is_in_block vs x ≡ true
  pub shows : (o : A) → in_block o vs x ≡ (get_or vs i d).1
  pub with : (w : A) → block_with vs x w ≡ set vs i ((get_or vs i d).0, w)

some_is : (i j : ℕ) → Some i ≡ Some j → i ≡ j
some_is i j e = grind (arith, e)

pub at_number : {A : Type 0} (vs : Block A) (x : NameId) (i : ℕ) (d : NameId × A) → number_of vs x ≡ Some i → At vs x i d
at_number [] x i d e = absurd (grind (arith, e))
at_number {A = A} (v ∷ vs) x i d e = go (same_name v.0 x) refl e (at_number vs x)
  where
    first : same_name v.0 x ≡ true → At (v ∷ vs) x 0 d
    first f = record {
      there = omega arith;
      has = ap (λ b. b || is_in_block vs x) f;
      shows = λ o. ap (λ b. cond b v.1 (in_block o vs x)) f;
      with = λ w. ap (λ b. cond b ((v.0, w) ∷ vs) (v ∷ block_with vs x w)) f;
    }

    later : (k : ℕ) → same_name v.0 x ≡ false → At vs x k d → At (v ∷ vs) x (suc k) d
    later k f r = let l = r.there in record {
      there = omega (arith, l);
      has = ap (λ b. b || is_in_block vs x) f ∙ r.has;
      shows = λ o. ap (λ b. cond b v.1 (in_block o vs x)) f ∙ r.shows o;
      with = λ w. ap (λ b. cond b ((v.0, w) ∷ vs) (v ∷ block_with vs x w)) f ∙ ap (λ z. v ∷ z) (r.with w);
    }

    behind : (o : Option ℕ) → same_name v.0 x ≡ false → number_of vs x ≡ o → option_map suc o ≡ Some i → ((k : ℕ) (d : NameId × A) → number_of vs x ≡ Some k → At vs x k d) → At (v ∷ vs) x i d
    behind None f n h ih = absurd (grind (arith, h))
    behind (Some k) f n h ih = ap_at (suc k) i (some_is (suc k) i h) (later k f (ih k d n))
      where
        ap_at : (j k : ℕ) → j ≡ k → At (v ∷ vs) x j d → At (v ∷ vs) x k d
        ap_at j k e r = rw (← e) r

    go : (b : Bool) → same_name v.0 x ≡ b → cond b (Some 0) (option_map suc (number_of vs x)) ≡ Some i → ((k : ℕ) (d : NameId × A) → number_of vs x ≡ Some k → At vs x k d) → At (v ∷ vs) x i d
    go true f h ih = let z : 0 ≡ i = some_is 0 i h in rw (← z) (first f)
    go false f h ih = behind (number_of vs x) f refl h ih

-- whether there is a number
some_suc : (o : Option ℕ) → is_some (option_map suc o) ≡ is_some o
some_suc None = refl
some_suc (Some n) = refl

pub is_numbered : {A : Type 0} (vs : Block A) (x : NameId) → is_some (number_of vs x) ≡ is_in_block vs x
is_numbered [] x = refl
is_numbered (v ∷ vs) x = pick (same_name v.0 x) (is_numbered vs x)
  where
    pick : (b : Bool) → is_some (number_of vs x) ≡ is_in_block vs x → is_some (cond b (Some 0) (option_map suc (number_of vs x))) ≡ b || is_in_block vs x
    pick true ih = refl
    pick false ih = some_suc (number_of vs x) ∙ ih

pub not_in : {A : Type 0} (vs : Block A) (x : NameId) → number_of vs x ≡ None → is_in_block vs x ≡ false
not_in vs x e = sym (is_numbered vs x) ∙ ap is_some e

none_where : (o : Option ℕ) → is_some o ≡ false → o ≡ None
none_where None e = refl
none_where (Some n) e = absurd (grind (arith, e))

pub no_number : {A : Type 0} (vs : Block A) (x : NameId) → is_in_block vs x ≡ false → number_of vs x ≡ None
no_number vs x e = none_where (number_of vs x) (is_numbered vs x ∙ e)

-- a variable that has the name is in the block
pub named_in : {A : Type 0} (vs : Block A) (x : NameId) (i : ℕ) → is_named x (slice_get vs i) ≡ true → is_in_block vs x ≡ true
named_in [] x i e = absurd (grind (arith, e))
named_in (v ∷ vs) x zero e = ap (λ b. b || is_in_block vs x) e
named_in (v ∷ vs) x (suc i) e = pick (same_name v.0 x) (named_in vs x i e)
  where
    pick : (b : Bool) → is_in_block vs x ≡ true → b || is_in_block vs x ≡ true
    pick true k = refl
    pick false k = k

-- and the first one that has it does
pub first_named : {A : Type 0} (vs : Block A) (x : NameId) (i : ℕ) → number_of vs x ≡ Some i → is_named x (slice_get vs i) ≡ true
first_named [] x i e = absurd (grind (arith, e))
first_named (v ∷ vs) x i e = go (same_name v.0 x) refl e (first_named vs x)
  where
    behind : (o : Option ℕ) → number_of vs x ≡ o → option_map suc o ≡ Some i → ((k : ℕ) → number_of vs x ≡ Some k → is_named x (slice_get vs k) ≡ true) → is_named x (slice_get (v ∷ vs) i) ≡ true
    behind None n h ih = absurd (grind (arith, h))
    behind (Some k) n h ih = let z : suc k ≡ i = some_is (suc k) i h in rw (← z) (ih k n)

    go : (b : Bool) → same_name v.0 x ≡ b → cond b (Some 0) (option_map suc (number_of vs x)) ≡ Some i → ((k : ℕ) → number_of vs x ≡ Some k → is_named x (slice_get vs k) ≡ true) → is_named x (slice_get (v ∷ vs) i) ≡ true
    go true f h ih = let z : 0 ≡ i = some_is 0 i h in rw (← z) f
    go false f h ih = behind (number_of vs x) refl h ih

-- a variable that shows something else keeps all numbers
pub with_numbers : {A : Type 0} (vs : Block A) (x y : NameId) (w : A) → is_in_block vs x ≡ true → number_of (block_with vs x w) y ≡ number_of vs y
with_numbers [] x y w h = absurd (grind (arith, h))
with_numbers (v ∷ vs) x y w h = pick (same_name v.0 x) h (with_numbers vs x y w)
  where
    pick : (b : Bool) → b || is_in_block vs x ≡ true → (is_in_block vs x ≡ true → number_of (block_with vs x w) y ≡ number_of vs y) → number_of (cond b ((v.0, w) ∷ vs) (v ∷ block_with vs x w)) y ≡ number_of (v ∷ vs) y
    pick true k ih = refl
    pick false k ih = ap (λ o. cond (same_name v.0 y) (Some 0) (option_map suc o)) (ih k)

pub block_with_new : {A : Type 0} (vs : Block A) (x : NameId) (w : A) → is_in_block vs x ≡ false → block_with vs x w ≡ vs ++ (x, w) ∷ []
block_with_new [] x w h = refl
block_with_new (v ∷ vs) x w h = pick (same_name v.0 x) h (block_with_new vs x w)
  where
    pick : (b : Bool) → (b || is_in_block vs x) ≡ false → (is_in_block vs x ≡ false → block_with vs x w ≡ vs ++ (x, w) ∷ []) → cond b ((v.0, w) ∷ vs) (v ∷ block_with vs x w) ≡ v ∷ (vs ++ (x, w) ∷ [])
    pick true k ih = absurd (grind (arith, k))
    pick false k ih = ap (λ z. v ∷ z) (ih k)

-- a new variable is the last one
pub new_number : {A : Type 0} (vs : Block A) (x : NameId) (w : A) → is_in_block vs x ≡ false → number_of (block_with vs x w) x ≡ cond (same_name x x) (Some (length vs)) None
new_number [] x w h = refl
new_number (v ∷ vs) x w h = pick (same_name v.0 x) refl h (new_number vs x w)
  where
    moved : (b : Bool) (n : ℕ) → option_map suc (cond b (Some n) None) ≡ cond b (Some (suc n)) None
    moved true n = refl
    moved false n = refl

    pick : (b : Bool) → same_name v.0 x ≡ b → b || is_in_block vs x ≡ false → (is_in_block vs x ≡ false → number_of (block_with vs x w) x ≡ cond (same_name x x) (Some (length vs)) None)
        → number_of (cond b ((v.0, w) ∷ vs) (v ∷ block_with vs x w)) x ≡ cond (same_name x x) (Some (suc (length vs))) None
    pick true f k ih = absurd (grind (arith, k))
    pick false f k ih =
        ap (λ b. cond b (Some 0) (option_map suc (number_of (block_with vs x w) x))) f ∙ ap (option_map suc) (ih k) ∙ moved (same_name x x) (length vs)

-- and the others keep their numbers
pub other_number : {A : Type 0} (vs : Block A) (x y : NameId) (w : A) → same_name x y ≡ false → number_of (block_with vs x w) y ≡ number_of vs y
other_number [] x y w f = ap (λ b. cond b (Some 0) None) f
other_number (v ∷ vs) x y w f = pick (same_name v.0 x) (other_number vs x y w f)
  where
    pick : (b : Bool) → number_of (block_with vs x w) y ≡ number_of vs y → number_of (cond b ((v.0, w) ∷ vs) (v ∷ block_with vs x w)) y ≡ number_of (v ∷ vs) y
    pick true ih = refl
    pick false ih = ap (λ o. cond (same_name v.0 y) (Some 0) (option_map suc o)) ih

-- the first variable with a name is one of the block
pub number_within : {A : Type 0} (vs : Block A) (x : NameId) (i : ℕ) → number_of vs x ≡ Some i → i < length vs
number_within [] x i e = absurd (grind (arith, e))
number_within (v ∷ vs) x i e = go (same_name v.0 x) e (number_within vs x)
  where
    behind : (o : Option ℕ) → number_of vs x ≡ o → option_map suc o ≡ Some i → ((k : ℕ) → number_of vs x ≡ Some k → k < length vs) → i < suc (length vs)
    behind None n h ih = absurd (grind (arith, h))
    behind (Some k) n h ih = let z : suc k ≡ i = some_is (suc k) i h in let l = ih k n in omega (arith, z, l)

    go : (b : Bool) → cond b (Some 0) (option_map suc (number_of vs x)) ≡ Some i → ((k : ℕ) → number_of vs x ≡ Some k → k < length vs) → i < suc (length vs)
    go true h ih = let z : 0 ≡ i = some_is 0 i h in omega (arith, z)
    go false h ih = behind (number_of vs x) refl h ih
