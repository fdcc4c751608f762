-- The list of uses has each use once.
use Rattle.std.proofs.Common.{◌≡◌, ℕ, zero, suc, ◌+◌, ◌*◌, ◌<◌, ◌≤◌, ◌⊎◌, Bool, true, false, cond, List, [], ◌∷◌, ◌++◌, length, take, slice_get, Some, None, Contains, refl, sym, ap, ◌∙◌, subst, inl, inr, arith, length-append, length-take-le, drop, take-append-drop}
use Rattle.std.proofs.lemmas.Bool.{cases_Bool, cases_lt}
use Rattle.std.proofs.lemmas.List.{length-map}
use Rattle.std.proofs.lemmas.Option.{same_Some, slice_get_within}
use Rattle.std.proofs.lemmas.List.Elements.{Contains-append_left, Contains-append_right, Contains-append_cases}
use Rattle.flat_core.specs.declared.step.Step.{Step}
use Rattle.flat_core.specs.declared.step.Step.TheVariants.{X, H, P, M}
use Rattle.flat_core.specs.declared.step.WireId.{WireId}
use Rattle.flat_core.specs.declared.step.StepId.{StepId}
use Rattle.flat_core.specs.Form.{FlatForm}
use Rattle.flat_core.specs.Label.{step_id, step_at, used, label_before, WiresDiffer}
use Rattle.flat_core.specs.Ends.{undone}
use Rattle.flat_core.specs.Sound.{IsFlat}
use Rattle.graph_core.specs.declared.vertex.Vertex.{Vertex}
use Rattle.graph_core.specs.declared.vertex.Vertex.TheVariants.{Forward, Reverse}
use Rattle.graph_core.specs.Circuit.{Uses, doing, undoing}
use Rattle.graph_core.proofs.Places.{at_append, at_left, contains_at, place_of, at_map, from_map}
use Rattle.unqomp.specs.declared.uses.Use.{Use}
use Rattle.unqomp.specs.UseList.{uses_by, uses_at, uses_before, InUses}
use Rattle.unqomp.proofs.Stages.{contains_nil}

-- each use of the list is one
abbrev pub IsUse : FlatForm → Use → Type 0
IsUse f x = Uses f x.user x.wire x.label

module _ (f : FlatForm) (user : Vertex) (s : StepId) where
  abbrev as_use : WireId → Use
  as_use w = record { user = user; wire = w; label = label_before f s w }

  by_wire : (x : Use) → Contains (uses_by f user s) x → (w : WireId) × Contains (used (step_at f s)) w × (as_use w ≡ x)
  by_wire x c =
      let p = place_of (uses_by f user s) x c in
      let m = from_map as_use (used (step_at f s)) p.0 x p.1 in
      (m.0, contains_at (used (step_at f s)) p.0 m.0 m.1, m.2)

  of_wire : (w : WireId) → Contains (used (step_at f s)) w → Contains (uses_by f user s) (as_use w)
  of_wire w c =
      let p = place_of (used (step_at f s)) w c in
      contains_at (uses_by f user s) p.0 (as_use w) (at_map as_use (used (step_at f s)) p.0 w p.1)

module _ (f : FlatForm) (s : StepId) (there : s.number < length f.steps) where
  at_sound : (x : Use) → Contains (uses_at f s) x → IsUse f x
  at_sound x c = elim (Contains-append_cases (uses_by f (Forward s) s) (cond (undone f s) (uses_by f (Reverse s) s) []) x c) [
    | inl a ↦ let w = by_wire f (Forward s) s x a in subst (IsUse f) w.2 (doing there w.1)
    | inr b ↦ elim (cases_Bool (undone f s)) [
      | inl u ↦ let w = by_wire f (Reverse s) s x (subst (λ (b : Bool). Contains (cond b (uses_by f (Reverse s) s) []) x) u b) in subst (IsUse f) w.2 (undoing there u w.1)
      | inr n ↦ absurd (contains_nil x (subst (λ (b : Bool). Contains (cond b (uses_by f (Reverse s) s) []) x) n b))
    ]
  ]

  at_forward : (w : WireId) → Contains (used (step_at f s)) w → InUses (uses_at f s) (Forward s) w (label_before f s w)
  at_forward w c = Contains-append_left (uses_by f (Forward s) s) (cond (undone f s) (uses_by f (Reverse s) s) []) (record { user = Forward s; wire = w; label = label_before f s w }) (of_wire f (Forward s) s w c)

  at_reverse : (w : WireId) → undone f s ≡ true → Contains (used (step_at f s)) w → InUses (uses_at f s) (Reverse s) w (label_before f s w)
  at_reverse w u c =
      Contains-append_right (uses_by f (Forward s) s) (cond (undone f s) (uses_by f (Reverse s) s) []) (record { user = Reverse s; wire = w; label = label_before f s w })
      (subst (λ (b : Bool). Contains (cond b (uses_by f (Reverse s) s) []) (record { user = Reverse s; wire = w; label = label_before f s w })) (sym u) (of_wire f (Reverse s) s w c))

pub before_sound : (f : FlatForm) (n : ℕ) → n ≤ length f.steps → (x : Use) → Contains (uses_before f n) x → IsUse f x
before_sound f zero l x c = absurd (contains_nil x c)
before_sound f (suc n) l x c = elim (Contains-append_cases (uses_before f n) (uses_at f (step_id n)) x c) [
  | inl a ↦ before_sound f n (omega arith) x a
  | inr b ↦ at_sound f (step_id n) (omega arith) x b
]

-- the uses of a step stand in the list
pub before_at : (f : FlatForm) (n : ℕ) (s : StepId) (x : Use) → s.number < n → Contains (uses_at f s) x → Contains (uses_before f n) x
before_at f zero s x l c = absurd (omega arith)
before_at f (suc n) s x l c = elim (cases_lt s.number n) [
  | inl a ↦ Contains-append_left (uses_before f n) (uses_at f (step_id n)) x (before_at f n s x a c)
  | inr b ↦
      let same : s.number ≡ n = omega arith in
      Contains-append_right (uses_before f n) (uses_at f (step_id n)) x (subst (λ (k : ℕ). Contains (uses_at f (step_id k)) x) same c)
]

pub before_whole : (f : FlatForm) (u : Vertex) (w : WireId) (i : ℕ) → Uses f u w i → InUses (uses_before f (length f.steps)) u w i
before_whole f u w i (doing {s = s} h c) = before_at f (length f.steps) s (record { user = Forward s; wire = w; label = label_before f s w }) h (at_forward f s h w c)
before_whole f u w i (undoing {s = s} h n c) = before_at f (length f.steps) s (record { user = Reverse s; wire = w; label = label_before f s w }) h (at_reverse f s h w n c)

-- no user has two uses of one wire
abbrev pub NoneTwice : List Use → Type 0
NoneTwice uses = (i j : ℕ) (a b : Use) → slice_get uses i ≡ Some a → slice_get uses j ≡ Some b → a.user ≡ b.user → a.wire ≡ b.wire → i ≡ j

twice-append : (xs ys : List Use) → NoneTwice xs → NoneTwice ys → ((a b : Use) → Contains xs a → Contains ys b → a.user ≡ b.user → ⊥) → NoneTwice (xs ++ ys)
twice-append xs ys p q apart i j a b h k u w = go (at_append xs ys i a h) (at_append xs ys j b k)
  where
    go : (slice_get xs i ≡ Some a) ⊎ ((l : ℕ) × (i ≡ length xs + l) × (slice_get ys l ≡ Some a)) → (slice_get xs j ≡ Some b) ⊎ ((m : ℕ) × (j ≡ length xs + m) × (slice_get ys m ≡ Some b)) → i ≡ j
    go (inl x) (inl y) = p i j a b x y u w
    go (inl x) (inr y) = absurd (apart a b (contains_at xs i a x) (contains_at ys y.0 b y.2) u)
    go (inr x) (inl y) = absurd (apart b a (contains_at xs j b y) (contains_at ys x.0 a x.2) (sym u))
    go (inr x) (inr y) = let e : x.0 ≡ y.0 = q x.0 y.0 a b x.2 y.2 u w in let s = x.1 in let t = y.1 in omega arith

twice-nil : NoneTwice []
twice-nil i j a b h k u w = cc

-- the wires that a step uses stand once
abbrev Once : List WireId → Type 0
Once ws = (i j : ℕ) (w : WireId) → slice_get ws i ≡ Some w → slice_get ws j ≡ Some w → i ≡ j

once_none : Once []
once_none i j w h k = cc

once_one : (a : WireId) → Once (a ∷ [])
once_one a zero zero w h k = refl
once_one a zero (suc j) w h k = cc
once_one a (suc i) j w h k = cc

once_two : (a b : WireId) → (a.number ≡ b.number → ⊥) → Once (a ∷ b ∷ [])
once_two a b d zero zero w h k = refl
once_two a b d zero (suc zero) w h k = absurd (d (ap (λ (x : WireId). x.number) (same_Some a w h ∙ sym (same_Some b w k))))
once_two a b d (suc zero) zero w h k = absurd (d (ap (λ (x : WireId). x.number) (same_Some a w k ∙ sym (same_Some b w h))))
once_two a b d (suc zero) (suc zero) w h k = refl
once_two a b d zero (suc (suc j)) w h k = cc
once_two a b d (suc zero) (suc (suc j)) w h k = cc
once_two a b d (suc (suc i)) j w h k = cc

used_once : (s : Step) → WiresDiffer s → Once (used s)
used_once (X t None None) d = once_none
used_once (X t (Some a) None) d = once_one a.wire
used_once (X t None (Some b)) d = once_one b.wire
used_once (X t (Some a) (Some b)) d = once_two a.wire b.wire d.2
used_once (H t None) d = once_none
used_once (H t (Some a)) d = once_one a.wire
used_once (P k a) d = once_one a.wire
used_once (M w n) d = once_one w

module _ (f : FlatForm) (s : StepId) (differ : WiresDiffer (step_at f s)) where
  by_twice : (user : Vertex) → NoneTwice (uses_by f user s)
  by_twice user i j a b h k u w =
      let x = from_map (as_use f user s) (used (step_at f s)) i a h in
      let y = from_map (as_use f user s) (used (step_at f s)) j b k in
      let same : y.0 ≡ x.0 = ap (λ (z : Use). z.wire) y.2 ∙ sym w ∙ ap (λ (z : Use). z.wire) (sym x.2) in
      used_once (step_at f s) differ i j x.0 x.1 (y.1 ∙ ap (λ (z : WireId). Some z) same)

  by_user : (user : Vertex) (x : Use) → Contains (uses_by f user s) x → x.user ≡ user
  by_user user x c = let w = by_wire f user s x c in ap (λ (z : Use). z.user) (sym w.2)

  at_twice : NoneTwice (uses_at f s)
  at_twice = go (undone f s)
    where
      apart : (a b : Use) → Contains (uses_by f (Forward s) s) a → Contains (uses_by f (Reverse s) s) b → a.user ≡ b.user → ⊥
      apart a b p q e = let x : Forward s ≡ Reverse s = sym (by_user (Forward s) a p) ∙ e ∙ by_user (Reverse s) b q in cc

      go : (b : Bool) → NoneTwice (uses_by f (Forward s) s ++ cond b (uses_by f (Reverse s) s) [])
      go true = twice-append (uses_by f (Forward s) s) (uses_by f (Reverse s) s) (by_twice (Forward s)) (by_twice (Reverse s)) apart
      go false = twice-append (uses_by f (Forward s) s) [] (by_twice (Forward s)) twice-nil (λ a b p q e. contains_nil b q)

  -- the users of a step's uses are the step, done or undone
  at_user : (x : Use) → Contains (uses_at f s) x → (x.user ≡ Forward s) ⊎ (x.user ≡ Reverse s)
  at_user x c = elim (Contains-append_cases (uses_by f (Forward s) s) (cond (undone f s) (uses_by f (Reverse s) s) []) x c) [
    | inl a ↦ inl (by_user (Forward s) x a)
    | inr b ↦ inr (elim (cases_Bool (undone f s)) [
      | inl u ↦ by_user (Reverse s) x (subst (λ (b : Bool). Contains (cond b (uses_by f (Reverse s) s) []) x) u b)
      | inr n ↦ absurd (contains_nil x (subst (λ (b : Bool). Contains (cond b (uses_by f (Reverse s) s) []) x) n b))
    ])
  ]

before_user : (f : FlatForm) → IsFlat f → (n : ℕ) → n ≤ length f.steps → (x : Use) → Contains (uses_before f n) x → (s : StepId) × (s.number < n) × ((x.user ≡ Forward s) ⊎ (x.user ≡ Reverse s))
before_user f ok zero l x c = absurd (contains_nil x c)
before_user f ok (suc n) l x c = elim (Contains-append_cases (uses_before f n) (uses_at f (step_id n)) x c) [
  | inl a ↦ let r = before_user f ok n (omega arith) x a in (r.0, (let k = r.1 in omega arith), r.2)
  | inr b ↦ (step_id n, omega arith, at_user f (step_id n) (ok.differ (step_id n) (omega arith)) x b)
]

-- vertices of different steps differ
apart_steps : (s t : StepId) (u v : Vertex) → (u ≡ Forward s) ⊎ (u ≡ Reverse s) → (v ≡ Forward t) ⊎ (v ≡ Reverse t) → s.number < t.number → u ≡ v → ⊥
apart_steps s t u v (inl a) (inl b) l e = let x : Forward s ≡ Forward t = sym a ∙ e ∙ b in let y : s ≡ t = cc in let z = ap (λ (k : StepId). k.number) y in omega arith
apart_steps s t u v (inl a) (inr b) l e = let x : Forward s ≡ Reverse t = sym a ∙ e ∙ b in cc
apart_steps s t u v (inr a) (inl b) l e = let x : Reverse s ≡ Forward t = sym a ∙ e ∙ b in cc
apart_steps s t u v (inr a) (inr b) l e = let x : Reverse s ≡ Reverse t = sym a ∙ e ∙ b in let y : s ≡ t = cc in let z = ap (λ (k : StepId). k.number) y in omega arith

pub before_twice : (f : FlatForm) → IsFlat f → (n : ℕ) → n ≤ length f.steps → NoneTwice (uses_before f n)
before_twice f ok zero l = twice-nil
before_twice f ok (suc n) l = twice-append (uses_before f n) (uses_at f (step_id n)) (before_twice f ok n (omega arith)) (at_twice f (step_id n) differ) (λ a b p q e. let r = before_user f ok n (omega arith) a p in apart_steps r.0 (step_id n) a.user b.user r.2 (at_user f (step_id n) differ b q) r.1 e)
  where
    differ : WiresDiffer (step_at f (step_id n))
    differ = ok.differ (step_id n) (omega arith)

-- no use before the i-th one is of its user on its wire
pub fresh_use : (uses : List Use) → NoneTwice uses → (i : ℕ) (x : Use) → slice_get uses i ≡ Some x → (l : ℕ) → ¬ Contains (take i uses) (record { user = x.user; wire = x.wire; label = l })
fresh_use uses none i x at l c =
    let p = place_of (take i uses) (record { user = x.user; wire = x.wire; label = l }) c in
    let within : p.0 < length (take i uses) = slice_get_within (take i uses) p.0 (record { user = x.user; wire = x.wire; label = l }) p.1 in
    let long : i < length uses = slice_get_within uses i x at in
    let short = length-take-le i uses (omega arith) in
    let back : slice_get uses p.0 ≡ Some (record { user = x.user; wire = x.wire; label = l }) = ap (λ (k : List Use). slice_get k p.0) (sym (take-append-drop i uses)) ∙ at_left (take i uses) (drop i uses) p.0 (record { user = x.user; wire = x.wire; label = l }) p.1 in
    let same : p.0 ≡ i = none p.0 i (record { user = x.user; wire = x.wire; label = l }) x back at refl refl in
    omega arith

-- at most four uses a step
few_used : (s : Step) → length (used s) ≤ 2
few_used (X t None None) = omega arith
few_used (X t (Some a) None) = omega arith
few_used (X t None (Some b)) = omega arith
few_used (X t (Some a) (Some b)) = omega arith
few_used (H t None) = omega arith
few_used (H t (Some a)) = omega arith
few_used (P k a) = omega arith
few_used (M w n) = omega arith

few_at : (f : FlatForm) (s : StepId) → length (uses_at f s) ≤ 4
few_at f s =
    let forth : length (uses_by f (Forward s) s) ≡ length (used (step_at f s)) = length-map (used (step_at f s)) (as_use f (Forward s) s) in
    let few = few_used (step_at f s) in
    let more = length-append (uses_by f (Forward s) s) (cond (undone f s) (uses_by f (Reverse s) s) []) in
    let undoing = back (undone f s) in
    omega arith
  where
    back : (b : Bool) → length (cond b (uses_by f (Reverse s) s) []) ≤ 2
    back true = let few = few_used (step_at f s) in omega (arith, length-map (used (step_at f s)) (as_use f (Reverse s) s))
    back false = omega arith

pub few_before : (f : FlatForm) (n : ℕ) → length (uses_before f n) ≤ 4 * n
few_before f zero = omega arith
few_before f (suc n) = let rest = few_before f n in let here = few_at f (step_id n) in let more = length-append (uses_before f n) (uses_at f (step_id n)) in omega arith
