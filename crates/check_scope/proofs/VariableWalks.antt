-- A walk down the variables of one name.
use Rattle.std.proofs.Common.{◌≡◌, refl, ℕ, zero, suc, ◌+◌, ◌-◌, ◌<◌, ◌≤◌, ◌⊎◌, inl, inr, Bool, true, false, ◌&&◌, ◌||◌, not, List, [], ◌∷◌, ◌++◌, Option, Some, None, ◌∙◌, sym, ap, subst, take, drop, get_or, length, slice_get, option_map, MatchOption, add-one, arith}
use Rattle.std.proofs.lemmas.List.{length-map, take_more, take-map, map_push, map-append, take-append-drop, take_all, length-drop}
use Rattle.std.proofs.lemmas.Option.{slice_get_within, slice_get-map, slice_get-get_or, slice_get_cases, get_or_from_slice_get}
use Rattle.silq_tree.specs.declared.node.NameId.{NameId}
use Rattle.silq_types.specs.declared.values.Part.{Part}
use Rattle.silq_types.specs.declared.values.Var.{Var}
use Rattle.silq_types.specs.Types.{same_name}
use Rattle.silq_mean.specs.Written.{is_empty}
use Rattle.check_scope.specs.Context.{same_part, overlaps, indices}
use Rattle.check_scope.specs.First.{IsFirstAt, IsAbsent}
use Rattle.check_scope.specs.Kept.{variable_names}
use Rattle.check_scope.specs.NameIndex.{is_name, last_below}
use Rattle.check_scope.specs.Places.{disturbs}
use Rattle.check_scope.proofs.NameChains.{found, found_none, is_there}
use Rattle.check_scope.proofs.Searching.{Passed, passed_none, passed_more, first_here, absent}

-- whether there is a variable, and it passes
abbrev pub passes : (Var → Bool) → Option Var → Bool
passes p None = false
passes p (Some v) = p v

-- only variables of this name pass
pub record IsOf (x : NameId) (p : Var → Bool) : Type 0 where
  pub named : (v : Var) → p v ≡ true → same_name v.part.name x ≡ true

name_of : (x : NameId) (o : Option Var) → is_name x (option_map (λ (v : Var). v.part.name) o) ≡ false → (p : Var → Bool) → IsOf x p → passes p o ≡ false
name_of x None e p h = refl
name_of x (Some v) e p h = go (p v) refl
  where
    go : (b : Bool) → p v ≡ b → p v ≡ false
    go true f = absurd (grind (arith, e, h.named v f))
    go false f = f

pub other_name : (vars : List Var) (x : NameId) (p : Var → Bool) (k : ℕ) → IsOf x p → is_name x (slice_get (variable_names vars) k) ≡ false → passes p (slice_get vars k) ≡ false
other_name vars x p k h e = name_of x (slice_get vars k) (ap (is_name x) (sym (slice_get-map (λ (v : Var). v.part.name) vars k)) ∙ e) p h

-- none that passes is between the next one and the stop
pub record Walked (vars : List Var) (x : NameId) (p : Var → Bool) (next : Option ℕ) (stop : ℕ) : Type 0 where
  pub bound : ℕ
  pub last : next ≡ last_below (variable_names vars) bound x
  pub none : (k : ℕ) → bound ≤ k → k < stop → passes p (slice_get vars k) ≡ false

pub walked_first : (vars : List Var) (names : List NameId) (x : NameId) (p : Var → Bool) (next : Option ℕ) → names ≡ variable_names vars → next ≡ last_below names (length names) x → Walked vars x p next (length vars)
walked_first vars names x p next same e =
    let len : length names ≡ length vars = ap length same ∙ length-map vars (λ (v : Var). v.part.name) in
    record {
      bound = length names;
      last = e ∙ ap (λ (ns : List NameId). last_below ns (length names) x) same;
      none = λ k l m. absurd (omega arith);
    }

pub walked_at : (vars : List Var) (x : NameId) (p : Var → Bool) (i stop : ℕ) → Walked vars x p (Some i) stop → slice_get (variable_names vars) i ≡ Some x
walked_at vars x p i stop w = is_there (variable_names vars) x i (found (variable_names vars) x w.bound i (sym w.last)).here

pub walked_within : (vars : List Var) (x : NameId) (p : Var → Bool) (i stop : ℕ) → Walked vars x p (Some i) stop → i < length vars
walked_within vars x p i stop w =
    let within : i < length (variable_names vars) = slice_get_within (variable_names vars) i x (walked_at vars x p i stop w) in
    let len : length (variable_names vars) ≡ length vars = length-map vars (λ (v : Var). v.part.name) in
    omega arith

pub walked_in_names : (vars : List Var) (names : List NameId) (x : NameId) (p : Var → Bool) (i stop : ℕ) → names ≡ variable_names vars → Walked vars x p (Some i) stop → i < length names
walked_in_names vars names x p i stop same w = slice_get_within names i x (ap (λ (ns : List NameId). slice_get ns i) same ∙ walked_at vars x p i stop w)

-- the one before it
pub walked_before : (vars : List Var) (names : List NameId) (x : NameId) (p : Var → Bool) (i stop : ℕ) (next : Option ℕ) → names ≡ variable_names vars → Walked vars x p (Some i) stop → ((y : NameId) → slice_get names i ≡ Some y → next ≡ last_below names i y) → next ≡ last_below (variable_names vars) i x
walked_before vars names x p i stop next same w h =
    h x (ap (λ (ns : List NameId). slice_get ns i) same ∙ walked_at vars x p i stop w) ∙ ap (λ (ns : List NameId). last_below ns i x) same

pub passes_at : (vars : List Var) (p : Var → Bool) (i : ℕ) (d : Var) → i < length vars → passes p (slice_get vars i) ≡ p (get_or vars i d)
passes_at vars p i d l = ap (passes p) (slice_get-get_or vars i d l)

-- one that does not pass
pub walked_past : (vars : List Var) (x : NameId) (p : Var → Bool) (i stop : ℕ) (next : Option ℕ) → IsOf x p → Walked vars x p (Some i) stop → passes p (slice_get vars i) ≡ false → next ≡ last_below (variable_names vars) i x → Walked vars x p next stop
walked_past vars x p i stop next h w e after =
    let f = found (variable_names vars) x w.bound i (sym w.last) in
    record {
      bound = i;
      last = after;
      none = λ k l m. go k l m (at k l);
    }
  where
    at : (k : ℕ) → i ≤ k → (k ≡ i) ⊎ (i < k)
    at k l = grind arith

    under : (k : ℕ) → (k < w.bound) ⊎ (w.bound ≤ k)
    under k = grind arith

    go : (k : ℕ) → i ≤ k → k < stop → ((k ≡ i) ⊎ (i < k)) → passes p (slice_get vars k) ≡ false
    go k l m (inl same) = ap (λ (j : ℕ). passes p (slice_get vars j)) same ∙ e
    go k l m (inr above) = elim (under k) [
      | inl below ↦ other_name vars x p k h ((found (variable_names vars) x w.bound i (sym w.last)).later k above below)
      | inr over ↦ w.none k over m
    ]

-- one that passes is the new stop
pub walked_hit : (vars : List Var) (x : NameId) (p : Var → Bool) (i : ℕ) (next : Option ℕ) → next ≡ last_below (variable_names vars) i x → Walked vars x p next i
walked_hit vars x p i next after = record { bound = i; last = after; none = λ k l m. absurd (omega arith) }

pub walked_end : (vars : List Var) (x : NameId) (p : Var → Bool) (stop : ℕ) → IsOf x p → Walked vars x p None stop → (k : ℕ) → k < stop → passes p (slice_get vars k) ≡ false
walked_end vars x p stop h w k l = elim (under k) [
  | inl below ↦ other_name vars x p k h (found_none (variable_names vars) x w.bound (sym w.last) k below)
  | inr over ↦ w.none k over l
]
  where
    under : (k : ℕ) → (k < w.bound) ⊎ (w.bound ≤ k)
    under k = grind arith

-- ---- the first variable with a part

abbrev pub has_part : Part → Var → Bool
has_part part v = same_part v.part part

and_first : (a b : Bool) → (a && b) ≡ true → a ≡ true
and_first true b e = refl
and_first false b e = absurd (grind (arith, e))

pub part_is_of : (part : Part) → IsOf part.name (has_part part)
part_is_of part = record { named = λ v e. and_first (same_name v.part.name part.name) _ e }

passed_all : (vars : List Var) (part : Part) (i : ℕ) → i ≤ length vars → ((k : ℕ) → k < i → passes (has_part part) (slice_get vars k) ≡ false) → Passed vars part i
passed_all vars part zero l h = passed_none vars part
passed_all vars part (suc i) l h = go (slice_get vars i) refl (passed_all vars part i (omega arith) (λ k m. h k (omega arith)))
  where
    go : (o : Option Var) → slice_get vars i ≡ o → Passed vars part i → Passed vars part (suc i)
    go None e p = elim (slice_get_cases vars i).1 [ inl r ↦ absurd (let both : Some r.0 ≡ None = sym r.2 ∙ e in grind (arith, both)) | inr r ↦ absurd (omega (arith, l, r.0)) ]
    go (Some v) e p =
        let at : get_or vars i v ≡ v = get_or_from_slice_get vars i v v e in
        let no : same_part v.part part ≡ false = ap (passes (has_part part)) (sym e) ∙ h i (omega arith) in
        subst (Passed vars part) (add-one i) (passed_more vars part i v p (slice_get_within vars i v e) (ap (λ (w : Var). same_part w.part part) at ∙ no))

pub first_is : (vars : List Var) (part : Part) (i : ℕ) (v : Var) → slice_get vars i ≡ Some v → same_part v.part part ≡ true → ((k : ℕ) → k < i → passes (has_part part) (slice_get vars k) ≡ false) → IsFirstAt vars part i
first_is vars part i v at e h =
    let l : i < length vars = slice_get_within vars i v at in
    first_here vars part i v (passed_all vars part i (omega arith) h) l (ap (λ (w : Var). same_part w.part part) (get_or_from_slice_get vars i v v at) ∙ e)

pub none_is : (vars : List Var) (part : Part) → ((k : ℕ) → k < length vars → passes (has_part part) (slice_get vars k) ≡ false) → IsAbsent vars part
none_is vars part h = absent vars part (length vars) (passed_all vars part (length vars) (omega arith) h) (omega arith)

-- where the walk stops
abbrev pub stop_at : List Var → Option ℕ → ℕ
stop_at vars None = length vars
stop_at vars (Some i) = i

-- the first one so far is the lowest
pub record Lowest (vars : List Var) (part : Part) (next first : Option ℕ) : Type 0 where
  pub walked : Walked vars part.name (has_part part) next (stop_at vars first)
  pub here : MatchOption first (Unit {0}) (λ i. passes (has_part part) (slice_get vars i) ≡ true)

pub lowest_end : (vars : List Var) (part : Part) (first : Option ℕ) → Lowest vars part None first → MatchOption first (IsAbsent vars part) (IsFirstAt vars part)
lowest_end vars part None l = none_is vars part (walked_end vars part.name (has_part part) (length vars) (part_is_of part) l.walked)
lowest_end vars part (Some i) l = go (slice_get vars i) refl l.here
  where
    go : (o : Option Var) → slice_get vars i ≡ o → passes (has_part part) (slice_get vars i) ≡ true → IsFirstAt vars part i
    go None e h = absurd (grind (arith, e, h))
    go (Some v) e h = first_is vars part i v e (ap (passes (has_part part)) (sym e) ∙ h) (walked_end vars part.name (has_part part) i (part_is_of part) l.walked)

-- ---- what disturbs a part

abbrev pub in_the_way : Part → Var → Bool
in_the_way part v = not (is_empty (indices v.part)) && not (same_part v.part part) && overlaps v.part part

in_way_named : (a b c d : Bool) → (a && b && (c && d)) ≡ true → c ≡ true
in_way_named true true true d e = refl
in_way_named true true false d e = absurd (grind (arith, e))
in_way_named true false c d e = absurd (grind (arith, e))
in_way_named false b c d e = absurd (grind (arith, e))

pub way_is_of : (part : Part) → IsOf part.name (in_the_way part)
way_is_of part = record { named = λ v e. in_way_named (not (is_empty (indices v.part))) (not (same_part v.part part)) (same_name v.part.name part.name) _ e }

pub disturbs_here : (vars : List Var) (part : Part) (i : ℕ) → passes (in_the_way part) (slice_get vars i) ≡ true → disturbs vars part ≡ true
disturbs_here [] part i e = absurd (grind (arith, e))
disturbs_here (v ∷ vars) part zero e = rw e refl
disturbs_here (v ∷ vars) part (suc i) e = go (in_the_way part v) (disturbs_here vars part i e)
  where
    go : (b : Bool) → disturbs vars part ≡ true → (b || disturbs vars part) ≡ true
    go true h = refl
    go false h = h

pub disturbs_none : (vars : List Var) (part : Part) → ((k : ℕ) → k < length vars → passes (in_the_way part) (slice_get vars k) ≡ false) → disturbs vars part ≡ false
disturbs_none [] part h = refl
disturbs_none (v ∷ vars) part h =
    ap (λ (b : Bool). b || disturbs vars part) (h 0 (omega arith)) ∙ disturbs_none vars part (λ k l. h (suc k) (omega arith))

-- ---- names of lists of variables

pub names_same_more : (vars others : List Var) (n : ℕ) (v w : Var) → n < length vars → n < length others → (get_or vars n v).part.name.number ≡ (get_or others n w).part.name.number
    → take n (variable_names vars) ≡ take n (variable_names others) → take (n + 1) (variable_names vars) ≡ take (n + 1) (variable_names others)
names_same_more vars others n v w l m e h =
    take-map (λ (u : Var). u.part.name) (n + 1) vars
    ∙ ap variable_names (take_more vars n v l)
    ∙ map_push (λ (u : Var). u.part.name) (take n vars) (get_or vars n v)
    ∙ ap (λ (ns : List NameId). ns ++ (get_or vars n v).part.name ∷ []) (sym (take-map (λ (u : Var). u.part.name) n vars) ∙ h ∙ take-map (λ (u : Var). u.part.name) n others)
    ∙ (λ i. variable_names (take n others) ++ record { number = e i } ∷ [])
    ∙ sym (map_push (λ (u : Var). u.part.name) (take n others) (get_or others n w))
    ∙ ap variable_names (sym (take_more others n w m))
    ∙ sym (take-map (λ (u : Var). u.part.name) (n + 1) others)

pub names_push : (vars : List Var) (v : Var) → variable_names (vars ++ v ∷ []) ≡ variable_names vars ++ v.part.name ∷ []
names_push vars v = map_push (λ (u : Var). u.part.name) vars v

pub names_taken : (vars : List Var) (n : ℕ) → variable_names (take n vars) ≡ take n (variable_names vars)
names_taken vars n = sym (take-map (λ (u : Var). u.part.name) n vars)

-- the names that are kept, and those of the rest
pub names_joined : (vars old others new : List Var) (names front all : List NameId) (n : ℕ) → names ≡ variable_names vars → old ≡ vars → new ≡ others → take n (variable_names old) ≡ take n (variable_names new) → front ≡ take n names
    → all ≡ front ++ variable_names (take (length others - n) (drop n others)) → all ≡ variable_names others
names_joined vars old others new names front all n same is are e cut joined =
    let rest : take (length others - n) (drop n others) ≡ drop n others = take_all (length others - n) (drop n others) (omega (arith, length-drop n others)) in
    let kept : front ≡ variable_names (take n others) =
    cut ∙ ap (take n) (same ∙ ap variable_names (sym is)) ∙ e ∙ ap (λ (vs : List Var). take n (variable_names vs)) are ∙ take-map (λ (u : Var). u.part.name) n others in
    joined
    ∙ ap (λ (vs : List Var). front ++ variable_names vs) rest
    ∙ ap (λ (ns : List NameId). ns ++ variable_names (drop n others)) kept
    ∙ sym (map-append (λ (u : Var). u.part.name) (take n others) (drop n others))
    ∙ ap variable_names (take-append-drop n others)
