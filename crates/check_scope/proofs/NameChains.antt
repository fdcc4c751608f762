-- Where a name stands in a list of names.
use Rattle.std.proofs.Common.{◌≡◌, refl, ℕ, suc, ◌+◌, ◌-◌, ◌<◌, ◌≤◌, ◌⊎◌, inl, inr, Bool, true, false, cond, nat_eq, List, [], ◌∷◌, ◌++◌, Option, Some, None, ◌∙◌, sym, ap, subst, length, slice_get, length-append, arith}
use Prim.Native.Nat.{zero}
use Rattle.std.specs.Option.{option_flatten}
use Rattle.std.proofs.lemmas.Bool.{eqb-true, eq-eqb}
use Rattle.std.proofs.lemmas.Option.{slice_get_within, slice_get_past}
use Rattle.silq_tree.specs.declared.node.NameId.{NameId}
use Rattle.silq_types.specs.Types.{same_name}
use Rattle.check_scope.specs.declared.name_index.Link.{Link}
use Rattle.check_scope.specs.NameIndex.{is_name, last_below, names_of, TellsLast, AreLinked, Indexes}

-- ---- elements of lists

pub get_append : {A : Type 0} (xs ys : List A) (i : ℕ) → i < length xs → slice_get (xs ++ ys) i ≡ slice_get xs i
get_append [] ys i l = absurd (omega arith)
get_append (x ∷ xs) ys zero l = refl
get_append (x ∷ xs) ys (suc i) l = get_append xs ys i (omega arith)

pub get_last : {A : Type 0} (xs : List A) (y : A) → slice_get (xs ++ y ∷ []) (length xs) ≡ Some y
get_last [] y = refl
get_last (x ∷ xs) y = get_last xs y

pub length_last : {A : Type 0} (xs : List A) (y : A) → length (xs ++ y ∷ []) ≡ suc (length xs)
length_last xs y = omega (arith, length-append xs (y ∷ []))

at_or_below : (k n : ℕ) → k < suc n → (k ≡ n) ⊎ (k < n)
at_or_below k n l = grind arith

-- ---- equal names

pub same_is_equal : (x y : NameId) → same_name x y ≡ true → x ≡ y
same_is_equal x y e = λ i. record { number = eqb-true x.number y.number e i }

pub equal_is_same : (x : NameId) → same_name x x ≡ true
equal_is_same x = eq-eqb x.number x.number refl

pub is_there : (names : List NameId) (x : NameId) (i : ℕ) → is_name x (slice_get names i) ≡ true → slice_get names i ≡ Some x
is_there names x i = go (slice_get names i)
  where
    go : (o : Option NameId) → is_name x o ≡ true → o ≡ Some x
    go None e = absurd (grind (arith, e))
    go (Some y) e = ap Some (same_is_equal y x e)

-- ---- the last number below another

pub last_below_same : (a b : List NameId) (n : ℕ) (x : NameId) → ((k : ℕ) → k < n → slice_get a k ≡ slice_get b k) → last_below a n x ≡ last_below b n x
last_below_same a b zero x h = refl
last_below_same a b (suc n) x h =
    ap (λ (o : Option NameId). cond (is_name x o) (Some n) (last_below a n x)) (h n (omega arith))
    ∙ ap (λ (r : Option ℕ). cond (is_name x (slice_get b n)) (Some n) r) (last_below_same a b n x (λ k l. h k (omega arith)))

pub last_below_append : (names more : List NameId) (n : ℕ) (x : NameId) → n ≤ length names → last_below (names ++ more) n x ≡ last_below names n x
last_below_append names more n x l = last_below_same (names ++ more) names n x (λ k m. get_append names more k (omega arith))

pub last_below_last : (names : List NameId) (y x : NameId) → last_below (names ++ y ∷ []) (length (names ++ y ∷ [])) x ≡ cond (same_name y x) (Some (length names)) (last_below names (length names) x)
last_below_last names y x =
    ap (λ (n : ℕ). last_below (names ++ y ∷ []) n x) (length_last names y)
    ∙ ap (λ (o : Option NameId). cond (is_name x o) (Some (length names)) (last_below (names ++ y ∷ []) (length names) x)) (get_last names y)
    ∙ ap (λ (r : Option ℕ). cond (same_name y x) (Some (length names)) r) (last_below_append names (y ∷ []) (length names) x (omega arith))

-- where it is not, the number below it tells
not_at : (names : List NameId) (x : NameId) (n : ℕ) → is_name x (slice_get names n) ≡ false → last_below names (suc n) x ≡ last_below names n x
not_at names x n e = rw e refl

is_at : (names : List NameId) (x : NameId) (n : ℕ) → is_name x (slice_get names n) ≡ true → last_below names (suc n) x ≡ Some n
is_at names x n e = rw e refl

-- the number that is found is one of the name, and none between has it
pub record Found (names : List NameId) (x : NameId) (n i : ℕ) : Type 0 where
  pub below : i < n
  pub here : is_name x (slice_get names i) ≡ true
  pub later : (k : ℕ) → i < k → k < n → is_name x (slice_get names k) ≡ false

pub found : (names : List NameId) (x : NameId) (n i : ℕ) → last_below names n x ≡ Some i → Found names x n i
found names x zero i e = absurd (grind (arith, e))
found names x (suc n) i e = go (is_name x (slice_get names n)) refl (found names x n i)
  where
    go : (b : Bool) → is_name x (slice_get names n) ≡ b → (last_below names n x ≡ Some i → Found names x n i) → Found names x (suc n) i
    go true f h =
        let same : Some n ≡ Some i = sym (is_at names x n f) ∙ e in
        let at : n ≡ i = grind (arith, same) in
        record {
          below = omega arith;
          here = ap (λ (k : ℕ). is_name x (slice_get names k)) (sym at) ∙ f;
          later = λ k l m. absurd (omega arith);
        }
    go false f h =
        let r = h (sym (not_at names x n f) ∙ e) in
        let r_below = r.below in
        record {
          below = omega arith;
          here = r.here;
          later = λ k l m. elim (at_or_below k n m) [ inl at ↦ ap (λ (j : ℕ). is_name x (slice_get names j)) at ∙ f | inr under ↦ r.later k l under ];
        }

pub found_none : (names : List NameId) (x : NameId) (n : ℕ) → last_below names n x ≡ None → (k : ℕ) → k < n → is_name x (slice_get names k) ≡ false
found_none names x zero e = λ k l. absurd (omega arith)
found_none names x (suc n) e = go (is_name x (slice_get names n)) refl (found_none names x n)
  where
    go : (b : Bool) → is_name x (slice_get names n) ≡ b → (last_below names n x ≡ None → (k : ℕ) → k < n → is_name x (slice_get names k) ≡ false) → (k : ℕ) → k < suc n → is_name x (slice_get names k) ≡ false
    go true f h k l =
        let same : Some n ≡ None = sym (is_at names x n f) ∙ e in
        absurd (grind (arith, same))
    go false f h k l = elim (at_or_below k n l) [ inl at ↦ ap (λ (j : ℕ). is_name x (slice_get names j)) at ∙ f | inr under ↦ h (sym (not_at names x n f) ∙ e) k under ]

-- numbers that have another name may be left out
pub left_out : (names : List NameId) (x : NameId) (m d : ℕ) → ((k : ℕ) → m ≤ k → k < m + d → is_name x (slice_get names k) ≡ false) → last_below names (m + d) x ≡ last_below names m x
left_out names x m zero h = let e : m + 0 ≡ m = omega arith in ap (λ (n : ℕ). last_below names n x) e
left_out names x m (suc d) h =
    let e : m + suc d ≡ suc (m + d) = omega arith in
    let l : m ≤ m + d = omega arith in
    let r : m + d < m + suc d = omega arith in
    ap (λ (n : ℕ). last_below names n x) e ∙ not_at names x (m + d) (h (m + d) l r) ∙ left_out names x m d (λ k a b. h k a (omega arith))

pub past_end : (names : List NameId) (x : NameId) (d : ℕ) → last_below names (length names + d) x ≡ last_below names (length names) x
past_end names x d = left_out names x (length names) d (λ k l m. ap (is_name x) (slice_get_past names k l))

-- ---- a walk down the numbers of a name

-- what is found is the last one below a number that is n or above
pub record Above (names : List NameId) (x : NameId) (n : ℕ) (next : Option ℕ) : Type 0 where
  pub bound : ℕ
  pub above : n ≤ bound
  pub last : next ≡ last_below names bound x

pub above_first : (names : List NameId) (x : NameId) (n : ℕ) (next : Option ℕ) → next ≡ last_below names (length names) x → Above names x n next
above_first names x n next e = record { bound = length names + n; above = omega arith; last = e ∙ sym (past_end names x n) }

pub above_found : (names : List NameId) (x : NameId) (n i : ℕ) → Above names x n (Some i) → slice_get names i ≡ Some x
above_found names x n i a = is_there names x i (found names x a.bound i (sym a.last)).here

pub above_within : (names : List NameId) (x : NameId) (n i : ℕ) → Above names x n (Some i) → i < length names
above_within names x n i a = slice_get_within names i x (above_found names x n i a)

pub above_next : (names : List NameId) (x : NameId) (n i : ℕ) (next : Option ℕ) → n ≤ i → next ≡ last_below names i x → Above names x n next
above_next names x n i next l e = record { bound = i; above = l; last = e }

lower : (names : List NameId) (x : NameId) (n m : ℕ) → n ≤ m → ((k : ℕ) → n ≤ k → k < m → is_name x (slice_get names k) ≡ false) → last_below names m x ≡ last_below names n x
lower names x n m l h =
    let e : m ≡ n + (m - n) = omega arith in
    ap (λ (k : ℕ). last_below names k x) e ∙ left_out names x n (m - n) (λ k a b. h k a (omega arith))

pub above_none : (names : List NameId) (x : NameId) (n : ℕ) → Above names x n None → last_below names n x ≡ None
above_none names x n a = sym (lower names x n a.bound a.above (λ k l m. found_none names x a.bound (sym a.last) k m)) ∙ sym a.last

pub above_some : (names : List NameId) (x : NameId) (n i : ℕ) → Above names x n (Some i) → i < n → last_below names n x ≡ Some i
above_some names x n i a l = sym (lower names x n a.bound a.above (λ k b m. (found names x a.bound i (sym a.last)).later k (omega arith) m)) ∙ sym a.last

-- ---- the index

pub tells_none : (last : ℕ → Option (Option ℕ)) → ((n : ℕ) → last n ≡ None) → TellsLast last []
tells_none last h x = ap option_flatten (h x.number)

pub linked_none : AreLinked []
linked_none i l e = absurd (grind (arith, e))

both_flat : (b : Bool) (n : ℕ) (o p : Option (Option ℕ)) → option_flatten o ≡ option_flatten p → option_flatten (cond b (Some (Some n)) o) ≡ cond b (Some n) (option_flatten p)
both_flat true n o p e = refl
both_flat false n o p e = e

pub tells_push : (last after : ℕ → Option (Option ℕ)) (names : List NameId) (x : NameId) → TellsLast last names → ((n : ℕ) → after n ≡ cond (nat_eq x.number n) (Some (Some (length names))) (last n)) → TellsLast after (names ++ x ∷ [])
tells_push last after names x t h y =
    ap option_flatten (h y.number)
    ∙ both_flat (nat_eq x.number y.number) (length names) (last y.number) (last y.number) refl
    ∙ ap (λ (r : Option ℕ). cond (same_name x y) (Some (length names)) r) (t y)
    ∙ sym (last_below_last names x y)

names_push : (links : List Link) (l : Link) → names_of (links ++ l ∷ []) ≡ names_of links ++ l.name ∷ []
names_push [] l = refl
names_push (m ∷ links) l = ap (λ (ns : List NameId). m.name ∷ ns) (names_push links l)

length_names : (links : List Link) → length (names_of links) ≡ length links
length_names [] = refl
length_names (l ∷ links) = ap suc (length_names links)

linked_push : (links : List Link) (l : Link) → AreLinked links → l.before ≡ last_below (names_of links) (length links) l.name → AreLinked (links ++ l ∷ [])
linked_push links l h e i m at =
    let within : i < length (links ++ l ∷ []) = slice_get_within (links ++ l ∷ []) i m at in
    let n : length (links ++ l ∷ []) ≡ suc (length links) = length_last links l in
    let len : length (names_of links) ≡ length links = length_names links in
    let short : i ≤ length (names_of links) = omega arith in
    elim (at_or_below i (length links) (omega arith)) [
      | inl last ↦
          let same : Some l ≡ Some m = sym (get_last links l) ∙ ap (slice_get (links ++ l ∷ [])) (sym last) ∙ at in
          let is : l ≡ m = grind (arith, same) in
          ap (λ (k : Link). k.before) (sym is) ∙ e ∙ ap (λ (k : ℕ). last_below (names_of links) k l.name) (sym last) ∙ ap (λ (k : Link). last_below (names_of links) i k.name) is
          ∙ sym (last_below_append (names_of links) (l.name ∷ []) i m.name short) ∙ ap (λ (ns : List NameId). last_below ns i m.name) (sym (names_push links l))
      | inr under ↦
          h i m (sym (get_append links (l ∷ []) i under) ∙ at)
          ∙ sym (last_below_append (names_of links) (l.name ∷ []) i m.name short) ∙ ap (λ (ns : List NameId). last_below ns i m.name) (sym (names_push links l))
    ]

linked_front : (links : List Link) (l : Link) → AreLinked (links ++ l ∷ []) → AreLinked links
linked_front links l h i m at =
    let within : i < length links = slice_get_within links i m at in
    let len : length (names_of links) ≡ length links = length_names links in
    let short : i ≤ length (names_of links) = omega arith in
    h i m (get_append links (l ∷ []) i within ∙ at)
    ∙ ap (λ (ns : List NameId). last_below ns i m.name) (names_push links l)
    ∙ last_below_append (names_of links) (l.name ∷ []) i m.name short

linked_last : (links : List Link) (l : Link) → AreLinked (links ++ l ∷ []) → l.before ≡ last_below (names_of links) (length links) l.name
linked_last links l h =
    let len : length (names_of links) ≡ length links = length_names links in
    h (length links) l (get_last links l)
    ∙ ap (λ (ns : List NameId). last_below ns (length links) l.name) (names_push links l)
    ∙ last_below_append (names_of links) (l.name ∷ []) (length links) l.name (omega arith)

pub index_push : (last after : ℕ → Option (Option ℕ)) (links now : List Link) (x : NameId) (before : Option ℕ) (n : ℕ) → Indexes last links → before ≡ last_below (names_of links) (length (names_of links)) x → n ≡ length links → now ≡ links ++ record { name = x; before = before } ∷ []
    → ((k : ℕ) → after k ≡ cond (nat_eq x.number k) (Some (Some n)) (last k)) → Indexes after now
index_push last after links now x before n h e len is up =
    let l : Link = record { name = x; before = before } in
    let same : length (names_of links) ≡ length links = length_names links in
    let number : n ≡ length (names_of links) = omega arith in
    let all : names_of now ≡ names_of links ++ x ∷ [] = ap names_of is ∙ names_push links l in
    record {
      tells = subst (TellsLast after) (sym all) (tells_push last after (names_of links) x h.tells (λ k. up k ∙ ap (λ (m : ℕ). cond (nat_eq x.number k) (Some (Some m)) (last k)) number));
      linked = subst AreLinked (sym is) (linked_push links l h.linked (e ∙ ap (λ (k : ℕ). last_below (names_of links) k x) same));
    }

pub tells_pop : (last after : ℕ → Option (Option ℕ)) (names : List NameId) (x : NameId) (before : Option ℕ) → TellsLast last (names ++ x ∷ []) → before ≡ last_below names (length names) x → ((k : ℕ) → after k ≡ cond (nat_eq x.number k) (Some before) (last k)) → TellsLast after names
tells_pop last after names x before t e h y =
    ap option_flatten (h y.number) ∙ go (same_name x y) refl
  where
    go : (b : Bool) → same_name x y ≡ b → option_flatten (cond (nat_eq x.number y.number) (Some before) (last y.number)) ≡ last_below names (length names) y
    go true f = ap (λ (b : Bool). option_flatten (cond b (Some before) (last y.number))) f ∙ e ∙ ap (last_below names (length names)) (same_is_equal x y f)
    go false f =
        ap (λ (b : Bool). option_flatten (cond b (Some before) (last y.number))) f ∙ t y ∙ last_below_last names x y
        ∙ ap (λ (b : Bool). cond b (Some (length names)) (last_below names (length names) y)) f

pub index_pop : (last after : ℕ → Option (Option ℕ)) (links now : List Link) (l : Link) → Indexes last links → links ≡ now ++ l ∷ [] → ((k : ℕ) → after k ≡ cond (nat_eq l.name.number k) (Some l.before) (last k)) → Indexes after now
index_pop last after links now l h is up =
    let linked : AreLinked (now ++ l ∷ []) = subst AreLinked is h.linked in
    let len : length (names_of now) ≡ length now = length_names now in
    record {
      tells = tells_pop last after (names_of now) l.name l.before (subst (TellsLast last) (ap names_of is ∙ names_push now l) h.tells) (linked_last now l linked ∙ ap (λ (k : ℕ). last_below (names_of now) k l.name) (sym len)) up;
      linked = linked_front now l linked;
    }

-- the name of the last link is known
pub index_has : (last : ℕ → Option (Option ℕ)) (links now : List Link) (l : Link) → Indexes last links → links ≡ now ++ l ∷ [] → last l.name.number ≡ None → ⊥
index_has last links now l h is e =
    let t : None ≡ last_below (names_of now ++ l.name ∷ []) (length (names_of now ++ l.name ∷ [])) l.name = sym (ap option_flatten e) ∙ subst (TellsLast last) (ap names_of is ∙ names_push now l) h.tells l.name in
    let s : None ≡ Some (length (names_of now)) = t ∙ last_below_last (names_of now) l.name l.name ∙ ap (λ (b : Bool). cond b (Some (length (names_of now))) (last_below (names_of now) (length (names_of now)) l.name)) (equal_is_same l.name) in
    absurd (grind (arith, s))

-- ---- the work that is left of a walk

abbrev pub left : Option ℕ → ℕ
left None = 0
left (Some i) = suc i

pub left_below : (names : List NameId) (x : NameId) (n : ℕ) (next : Option ℕ) → next ≡ last_below names n x → left next < suc n
left_below names x n next e = go next e
  where
    go : (o : Option ℕ) → o ≡ last_below names n x → left o < suc n
    go None f = omega arith
    go (Some i) f = let r = (found names x n i (sym f)).below in omega arith
