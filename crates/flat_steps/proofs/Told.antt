-- Where variables stand, as it is told.
use Rattle.std.proofs.Common.{◌≡◌, ℕ, zero, suc, ◌+◌, ◌<◌, ◌≤◌, ◌⊎◌, inl, inr, Bool, true, false, cond, nat_eq, ◌||◌, Option, Some, None, List, [], ◌∷◌, ◌++◌, length, slice_get, take, drop, reverse, set, get_or, refl, sym, ap, ◌∙◌, subst, arith}
use Rattle.std.specs.Option.{option_map}
use Rattle.std.specs.Prelude.{Result, Ok, Err, OnOk, OnErr}
use Rattle.std.proofs.lemmas.Bool.{eqb-true, eq-eqb}
use Rattle.std.proofs.lemmas.List.{reverse-append, get_or-drop}
use Rattle.silq_tree.specs.declared.node.NameId.{NameId}
use Rattle.silq_types.specs.Types.{same_name}
use Rattle.silq_mean.specs.Env.{Block, Env, is_in_block, block_with, is_in_reach}
use Rattle.flat_steps.specs.declared.variables.Place.{Place}
use Rattle.flat_steps.specs.Reach.{number_of, is_named, IsInnermost, IsPlace, Tells}
use Rattle.flat_steps.proofs.Numbers.{not_in, no_number, named_in, first_named, with_numbers, new_number, other_number}
use Rattle.flat_steps.proofs.Places.{reach_at_end, reverse_at, at_block}

-- ---- equal names and places

equal_names : (x y : NameId) → same_name x y ≡ true → x ≡ y
equal_names x y e = λ i. record { number = eqb-true x.number y.number e i }

same_again : (x : NameId) → same_name x x ≡ true
same_again x = eq-eqb x.number x.number refl

abbrev at : ℕ → ℕ → Place
at i j = record { block = i; number = j }

same_place : (p q : Place) → Some p ≡ Some q → p ≡ q
same_place p q e = grind (arith, e)

both_ways : (b : Bool) → b ≡ true → b ≡ false → ⊥
both_ways b e f = absurd (grind (arith, e, f))

-- ---- blocks by their numbers

pub within : {A : Type 0} (bs : List (Block A)) (i : ℕ) (x : NameId) → is_in_block (get_or bs i []) x ≡ true → i < length bs
within [] i x e = absurd (grind (arith, e))
within (b ∷ bs) zero x e = omega arith
within (b ∷ bs) (suc i) x e = let l = within bs i x e in omega (arith, l)

here_or : {A : Type 0} (bs : List (Block A)) (i : ℕ) (new : Block A) (k : ℕ) → (i ≡ k) ⊎ (get_or (set bs i new) k [] ≡ get_or bs k [])
here_or [] i new k = inr refl
here_or (b ∷ bs) zero new zero = inl refl
here_or (b ∷ bs) zero new (suc k) = inr refl
here_or (b ∷ bs) (suc i) new zero = inr refl
here_or (b ∷ bs) (suc i) new (suc k) = elim (here_or bs i new k) [ inl e ↦ inl (ap suc e) | inr e ↦ inr e ]

set_here : {A : Type 0} (bs : List (Block A)) (i : ℕ) (new : Block A) → i < length bs → get_or (set bs i new) i [] ≡ new
set_here [] i new l = absurd (omega (arith, l))
set_here (b ∷ bs) zero new l = refl
set_here (b ∷ bs) (suc i) new l = set_here bs i new (omega (arith, l))

-- a block with the same numbers changes none
set_numbers : {A : Type 0} (bs : List (Block A)) (i : ℕ) (new : Block A) (y : NameId) (k : ℕ) → number_of new y ≡ number_of (get_or bs i []) y → number_of (get_or (set bs i new) k []) y ≡ number_of (get_or bs k []) y
set_numbers [] i new y k h = refl
set_numbers (b ∷ bs) zero new y zero h = h
set_numbers (b ∷ bs) zero new y (suc k) h = refl
set_numbers (b ∷ bs) (suc i) new y zero h = refl
set_numbers (b ∷ bs) (suc i) new y (suc k) h = set_numbers bs i new y k h

-- ---- what is in reach

nowhere : {A : Type 0} (bs : List (Block A)) (x : NameId) → ((k : ℕ) → number_of (get_or bs k []) x ≡ None) → is_in_reach (reverse bs) x ≡ false
nowhere [] x h = refl
nowhere (b ∷ bs) x h = subst (λ z. is_in_reach z x ≡ false) (sym (reverse-append (b ∷ []) bs)) (reach_at_end (reverse bs) b x (nowhere bs x (λ k. h (suc k))) (not_in b x (h 0)))

among : {A : Type 0} (pre : Env A) (b : Block A) (post : Env A) (x : NameId) → is_in_block b x ≡ true → is_in_reach (pre ++ b ∷ post) x ≡ true
among [] b post x e = ap (λ z. z || is_in_reach post x) e
among (c ∷ pre) b post x e = pick (is_in_block c x) (among pre b post x e)
  where
    pick : (t : Bool) → is_in_reach (pre ++ b ∷ post) x ≡ true → t || is_in_reach (pre ++ b ∷ post) x ≡ true
    pick true k = refl
    pick false k = k

bool_false : (b : Bool) → (b ≡ true → ⊥) → b ≡ false
bool_false true h = absurd (h refl)
bool_false false h = refl

pub none_at : {A : Type 0} (bs : List (Block A)) (x : NameId) (k : ℕ) → is_in_reach (reverse bs) x ≡ false → number_of (get_or bs k []) x ≡ None
none_at bs x k h = no_number (get_or bs k []) x (bool_false (is_in_block (get_or bs k []) x) (λ e. both_ways (is_in_reach (reverse bs) x) (there e) h))
  where
    there : is_in_block (get_or bs k []) x ≡ true → is_in_reach (reverse bs) x ≡ true
    there e = ap (λ z. is_in_reach z x) (reverse_at bs k [] (within bs k x e)) ∙ among (reverse (drop (suc k) bs)) (get_or bs k []) (reverse (take k bs)) x e

-- ---- what is told

is_none : (o : Option ℕ) → ((j : ℕ) → o ≡ Some j → ⊥) → o ≡ None
is_none None h = refl
is_none (Some j) h = absurd (h j refl)

none_is_some : {A : Type 0} (a : A) → None ≡ Some a → ⊥
none_is_some a e = absurd (grind (arith, e))

-- a name of which nothing is told is not in reach
pub not_told : {A : Type 0} (told : ℕ → Option Place) (bs : List (Block A)) (x : NameId) → Tells told bs → told x.number ≡ None → is_in_reach (reverse bs) x ≡ false
not_told told bs x t e = nowhere bs x (λ k. is_none (number_of (get_or bs k []) x) (λ j f. none_is_some (at k j) (sym e ∙ t x k j f)))

-- nor is one of which a place is told that it has no more
pub told_no_more : {A : Type 0} (told : ℕ → Option Place) (bs : List (Block A)) (x : NameId) (p : Place) → Tells told bs → told x.number ≡ Some p → is_named x (slice_get (get_or bs p.block []) p.number) ≡ false → is_in_reach (reverse bs) x ≡ false
told_no_more told bs x p t e n = nowhere bs x (λ k. is_none (number_of (get_or bs k []) x) (λ j f. no k j f))
  where
    no : (k j : ℕ) → number_of (get_or bs k []) x ≡ Some j → ⊥
    no k j f =
        let q : p ≡ at k j = same_place p (at k j) (sym e ∙ t x k j f) in
        both_ways (is_named x (slice_get (get_or bs k []) j)) (first_named (get_or bs k []) x j f)
        (ap (λ (r : Place). is_named x (slice_get (get_or bs r.block []) r.number)) (sym q) ∙ n)

-- any other is where it is told to be
pub told_place : {A : Type 0} (told : ℕ → Option Place) (bs : List (Block A)) (x : NameId) (p : Place) → Tells told bs → told x.number ≡ Some p → is_named x (slice_get (get_or bs p.block []) p.number) ≡ true → IsPlace bs x p
told_place told bs x p t e n = record {
  innermost = record { there = within bs p.block x has; inner = nowhere (drop (suc p.block) bs) x later; has = has };
  first = number (number_of (get_or bs p.block []) x) refl;
}
  where
    has : is_in_block (get_or bs p.block []) x ≡ true
    has = named_in (get_or bs p.block []) x p.number n

    number : (o : Option ℕ) → number_of (get_or bs p.block []) x ≡ o → number_of (get_or bs p.block []) x ≡ Some p.number
    number None f = absurd (both_ways (is_in_block (get_or bs p.block []) x) has (not_in (get_or bs p.block []) x f))
    number (Some j) f = f ∙ ap (λ (r : Place). Some r.number) (same_place (at p.block j) p (sym (t x p.block j f) ∙ e))

    no : (k j : ℕ) → number_of (get_or bs (suc p.block + k) []) x ≡ Some j → ⊥
    no k j f =
        let q : suc p.block + k ≡ p.block = ap (λ (r : Place). r.block) (same_place (at (suc p.block + k) j) p (sym (t x (suc p.block + k) j f) ∙ e)) in
        absurd (omega (arith, q))

    later : (k : ℕ) → number_of (get_or (drop (suc p.block) bs) k []) x ≡ None
    later k = ap (λ b. number_of b x) (get_or-drop (suc p.block) bs k []) ∙ is_none (number_of (get_or bs (suc p.block + k) []) x) (no k)

-- ---- what is told stays true

pub tells_with : {A : Type 0} (told : ℕ → Option Place) (bs : List (Block A)) (x : NameId) (p : Place) (w : A) (b new : Block A) → Tells told bs → IsPlace bs x p → get_or bs p.block [] ≡ b → new ≡ block_with b x w → Tells told (set bs p.block new)
tells_with told bs x p w b new t h at is y i j e = t y i j (sym (set_numbers bs p.block new y i same) ∙ e)
  where
    same : number_of new y ≡ number_of (get_or bs p.block []) y
    same = ap (λ c. number_of c y) (is ∙ ap (λ c. block_with c x w) (sym at)) ∙ with_numbers (get_or bs p.block []) x y w h.innermost.has

-- a name that is not in reach may have any place
pub tells_elsewhere : {A : Type 0} (told after : ℕ → Option Place) (bs : List (Block A)) (x : NameId) (p : Place) → Tells told bs → is_in_reach (reverse bs) x ≡ false → ((n : ℕ) → after n ≡ cond (nat_eq x.number n) (Some p) (told n)) → Tells after bs
tells_elsewhere told after bs x p t h up y i j e = up y.number ∙ go (same_name x y) refl
  where
    go : (b : Bool) → same_name x y ≡ b → cond (nat_eq x.number y.number) (Some p) (told y.number) ≡ Some (at i j)
    go true f = absurd (none_is_some j (sym (none_at bs x i h) ∙ ap (λ z. number_of (get_or bs i []) z) (equal_names x y f) ∙ e))
    go false f = ap (λ b. cond b (Some p) (told y.number)) f ∙ t y i j e

-- a new variable of the innermost block has the next number there
pub tells_new : {A : Type 0} (told after : ℕ → Option Place) (bs : List (Block A)) (x : NameId) (i : ℕ) (w : A) (b new : Block A) (p : Place) → Tells told bs → is_in_reach (reverse bs) x ≡ false → i < length bs → get_or bs i [] ≡ b → new ≡ block_with b x w → p ≡ record { block = i; number = length b }
    → ((n : ℕ) → after n ≡ cond (nat_eq x.number n) (Some p) (told n)) → Tells after (set bs i new)
tells_new told after bs x i w b new p t h l here is place up y k j e = up y.number ∙ go (same_name x y) refl
  where
    free : is_in_block b x ≡ false
    free = not_in b x (ap (λ c. number_of c x) (sym here) ∙ none_at bs x i h)

    fresh : number_of new x ≡ Some (length b)
    fresh = ap (λ c. number_of c x) is ∙ new_number b x w free ∙ ap (λ t. cond t (Some (length b)) None) (same_again x)

    at_new : (i ≡ k) ⊎ (get_or (set bs i new) k [] ≡ get_or bs k []) → number_of (get_or (set bs i new) k []) x ≡ Some j → at i (length b) ≡ at k j
    at_new (inl s) f =
        let n : Some (length b) ≡ Some j = sym fresh ∙ ap (λ c. number_of c x) (sym (set_here bs i new l)) ∙ ap (λ m. number_of (get_or (set bs i new) m []) x) s ∙ f in
        let m : length b ≡ j = grind (arith, n) in
        ap (λ m. at m (length b)) s ∙ ap (at k) m
    at_new (inr s) f = absurd (none_is_some j (sym (none_at bs x k h) ∙ ap (λ c. number_of c x) (sym s) ∙ f))

    go : (b : Bool) → same_name x y ≡ b → cond (nat_eq x.number y.number) (Some p) (told y.number) ≡ Some (at k j)
    go true f =
        ap (λ b. cond b (Some p) (told y.number)) f
        ∙ ap Some (place ∙ at_new (here_or bs i new k) (ap (λ z. number_of (get_or (set bs i new) k []) z) (equal_names x y f) ∙ e))
    go false f =
        ap (λ b. cond b (Some p) (told y.number)) f
        ∙ t y k j (sym (set_numbers bs i new y k (ap (λ c. number_of c y) is ∙ other_number b x y w f ∙ ap (λ c. number_of c y) (sym here))) ∙ e)

-- a block that stays as it is changes nothing
tells_same : {A : Type 0} (told : ℕ → Option Place) (bs : List (Block A)) (i : ℕ) (new : Block A) → Tells told bs → new ≡ get_or bs i [] → Tells told (set bs i new)
tells_same told bs i new t is y k j e = t y k j (sym (set_numbers bs i new y k (ap (λ c. number_of c y) is)) ∙ e)

-- a place is told first, and then there is memory for the variable or not
pub tells_added : {A E : Type 0} (told after : ℕ → Option Place) (bs : List (Block A)) (x : NameId) (i : ℕ) (w : A) (b new : Block A) (p : Place) (r : Result (Unit {0}) E) → Tells told bs → is_in_reach (reverse bs) x ≡ false → i < length bs → get_or bs i [] ≡ b → p ≡ record { block = i; number = length b }
    → ((n : ℕ) → after n ≡ cond (nat_eq x.number n) (Some p) (told n)) → OnOk r (new ≡ block_with b x w) → OnErr r (new ≡ b) → Tells after (set bs i new)
tells_added told after bs x i w b new p (Ok u) t h l here place up ok err = tells_new told after bs x i w b new p t h l here ok place up
tells_added told after bs x i w b new p (Err e) t h l here place up ok err = tells_same after bs i new (tells_elsewhere told after bs x p t h up) (err ∙ sym here)

-- ---- the variable at its place

pub number_there : {A : Type 0} (bs : List (Block A)) (x : NameId) (p : Place) (b : Block A) → IsPlace bs x p → b ≡ get_or bs p.block b → number_of b x ≡ Some p.number
number_there bs x p b h e = ap (λ c. number_of c x) (sym (at_block bs p.block b h.innermost.there e)) ∙ h.first

-- ---- the places of parameters

-- the places of the variables from a number on are told
abbrev pub TellsFrom : {A : Type 0} → (ℕ → Option Place) → Block A → ℕ → Type 0
TellsFrom told vs n = (x : NameId) (j : ℕ) → number_of (drop n vs) x ≡ Some j → told x.number ≡ Some (record { block = 0; number = n + j })

pub tells_parameters : {A : Type 0} (told : ℕ → Option Place) (vs : Block A) (n : ℕ) → TellsFrom told vs n → n ≡ 0 → Tells told (vs ∷ [])
tells_parameters told vs n t z x zero j e =
    let r : n + j ≡ j = omega (arith, z) in
    t x j (ap (λ m. number_of (drop m vs) x) z ∙ e) ∙ ap (λ m. Some (at 0 m)) r
tells_parameters told vs n t z x (suc i) j e = absurd (grind (arith, e))
