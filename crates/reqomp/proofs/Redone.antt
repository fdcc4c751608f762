-- The pass back over the steps finds what a level does again.
use Rattle.std.proofs.Common.{◌≡◌, ℕ, zero, suc, ◌<◌, ◌≤◌, Bool, true, false, cond, ◌||◌, List, [], ◌∷◌, ◌++◌, length, slice_get, Some, Contains, refl, sym, ap, ◌∙◌, subst, inl, inr, arith, le_refl}
use Rattle.std.proofs.lemmas.Bool.{cases_eq, cases_Bool, both_ways}
use Rattle.std.proofs.lemmas.Option.{none-some, same_Some}
use Rattle.std.proofs.lemmas.List.Elements.{Contains-append_left, Contains-append_right, Contains-append_cases}
use Rattle.flat_core.specs.declared.step.Step.{Step}
use Rattle.flat_core.specs.declared.step.WireId.{WireId}
use Rattle.flat_core.specs.declared.step.StepId.{StepId}
use Rattle.flat_core.specs.Form.{FlatForm}
use Rattle.flat_core.specs.Label.{step_id, changes, used, step_at, label_before}
use Rattle.graph_core.specs.declared.vertex.Vertex.{Vertex}
use Rattle.graph_core.specs.declared.vertex.Vertex.TheVariants.{Forward, Reverse, Free}
use Rattle.graph_core.specs.Circuit.{IsVertex, Uses, doing, undoing}
use Rattle.graph_core.proofs.Places.{contains_at}
use Rattle.topo_order.proofs.Orders.{contains_nil, contains_cases, contains_here, contains_later}
use Rattle.reqomp.specs.Simple.{has_wire, marked_at}
use Rattle.reqomp.specs.Level.{Passes, RestsOn, directly, further, Needs, itself, below, IsRedone}
use Rattle.reqomp.specs.Redone.{marked_among, changes_one, Found, found_at, found_below, own_uses, redone, RedoneIsFound, IsUsedBy, own, again, NeedsAreUsed}
use Rattle.reqomp.proofs.AtTop.{has_contains, contains_has, or_left, or_right, AreUsedAtTop, marked_at_top}

-- what a vertex needs, by the steps that are done again for it
pub needs_are_used : NeedsAreUsed
needs_are_used f marked v steps r w i = (to w i, from w i)
  where
    to : (w : WireId) (i : ℕ) → Needs f marked v w i → IsUsedBy f marked v steps w i
    to w i (itself u n) = own u n
    to w i (below {p = p} {s = s} q passes n) = again (r.all s p q passes.step passes.changing) passes.uses n

    from : (w : WireId) (i : ℕ) → IsUsedBy f marked v steps w i → Needs f marked v w i
    from w i (own u n) = itself u n
    from w i (again {s = s} c u n) = let o = r.only s c in below o.1 (record { step = o.2; changing = o.3; uses = u }) n

-- the marked wires among some are those that are in both lists
pub marked_in : (marked xs : List WireId) (w : WireId) → Contains (marked_among marked xs) w → Contains xs w × Contains marked w
marked_in marked [] w c = absurd (contains_nil w c)
marked_in marked (x ∷ xs) w c = go (has_wire x marked) refl c (marked_in marked xs w)
  where
    go : (b : Bool) → has_wire x marked ≡ b → Contains (cond b (x ∷ marked_among marked xs) (marked_among marked xs)) w → (Contains (marked_among marked xs) w → Contains xs w × Contains marked w) → Contains (x ∷ xs) w × Contains marked w
    go true e c ih = elim (contains_cases x w (marked_among marked xs) c) [
      | inl same ↦ (contains_here x w xs same, subst (Contains marked) same (has_contains x marked e))
      | inr i ↦ let r = ih i in (contains_later x w xs r.0, r.1)
    ]
    go false e c ih = let r = ih c in (contains_later x w xs r.0, r.1)

in_marked : (marked xs : List WireId) (w : WireId) → Contains xs w → Contains marked w → Contains (marked_among marked xs) w
in_marked marked [] w c m = absurd (contains_nil w c)
in_marked marked (x ∷ xs) w c m = go (has_wire x marked) refl (λ i. in_marked marked xs w i m)
  where
    go : (b : Bool) → has_wire x marked ≡ b → (Contains xs w → Contains (marked_among marked xs) w) → Contains (cond b (x ∷ marked_among marked xs) (marked_among marked xs)) w
    go true e ih = elim (contains_cases x w xs c) [
      | inl same ↦ contains_here x w (marked_among marked xs) same
      | inr i ↦ contains_later x w (marked_among marked xs) (ih i)
    ]
    go false e ih = elim (contains_cases x w xs c) [
      | inl same ↦ absurd (both_ways (has_wire x marked) e (contains_has x marked (subst (Contains marked) (sym same) m)))
      | inr i ↦ ih i
    ]

-- a step changes one of some wires exactly where it changes a wire among them
pub one_changed : (ws : List WireId) (s : Step) → changes_one ws s ≡ true → (w : WireId) × Contains ws w × (changes w s ≡ true)
one_changed [] s h = cc
one_changed (w ∷ ws) s h = elim (cases_Bool (changes w s)) [
  | inl t ↦ (w, contains_here w w ws refl, t)
  | inr e ↦ let r = one_changed ws s (subst (λ (b : Bool). (b || changes_one ws s) ≡ true) e h) in (r.0, contains_later w r.0 ws r.1, r.2)
]

pub changed_one : (ws : List WireId) (s : Step) (w : WireId) → Contains ws w → changes w s ≡ true → changes_one ws s ≡ true
changed_one [] s w c h = absurd (contains_nil w c)
changed_one (x ∷ ws) s w c h = elim (contains_cases x w ws c) [
  | inl e ↦ or_left (changes x s) (changes_one ws s) (ap (λ (y : WireId). changes y s) e ∙ h)
  | inr i ↦ or_right (changes x s) (changes_one ws s) (changed_one ws s w i h)
]

module _ (f : FlatForm) (marked : List WireId) (at_top : AreUsedAtTop f marked) (v : Vertex) where
  -- what was found when the steps from n on are passed
  record IsFound (n : ℕ) (p : Found) : Type 0 where
    rests : (w : WireId) → Contains p.wires w → RestsOn f marked v w
    direct : (w : WireId) (i : ℕ) → Uses f v w i → Contains marked w → Contains p.wires w
    closed : (q w : WireId) (s : StepId) → Contains p.wires q → n ≤ s.number → Passes f s q w → Contains marked w → Contains p.wires w
    only : (s : StepId) → Contains p.steps s → (w : WireId) × RestsOn f marked v w × (s.number < length f.steps) × (changes w (step_at f s) ≡ true)
    all : (s : StepId) (w : WireId) → Contains p.wires w → n ≤ s.number → s.number < length f.steps → changes w (step_at f s) ≡ true → Contains p.steps s
    above : (s : StepId) → Contains p.steps s → n ≤ s.number
    ascending : (i j : ℕ) (a b : StepId) → i < j → slice_get p.steps i ≡ Some a → slice_get p.steps j ≡ Some b → a.number < b.number

  -- a step that changes none of the wires found so far
  passed : (n : ℕ) (p : Found) → IsFound (suc n) p → changes_one p.wires (step_at f (step_id n)) ≡ false → IsFound n p
  passed n p is rests_not = record {
    rests = is.rests;
    direct = is.direct;
    closed = λ q w s c l passes m. elim (cases_eq s.number n) [
      | inl e ↦ absurd (none q s e c passes.changing)
      | inr ne ↦ is.closed q w s c (omega arith) passes m
    ];
    only = is.only;
    all = λ s w c l sl ch. elim (cases_eq s.number n) [
      | inl e ↦ absurd (none w s e c ch)
      | inr ne ↦ is.all s w c (omega arith) sl ch
    ];
    above = λ s c. let a : suc n ≤ s.number = is.above s c in omega arith;
    ascending = is.ascending;
  }
    where
      none : (q : WireId) (s : StepId) → s.number ≡ n → Contains p.wires q → changes q (step_at f s) ≡ true → ⊥
      none q s e c ch =
          both_ways (changes_one p.wires (step_at f (step_id n))) rests_not
          (changed_one p.wires (step_at f (step_id n)) q c (subst (λ (k : ℕ). changes q (step_at f (step_id k)) ≡ true) e ch))

  -- a step that changes one of them
  module _ (n : ℕ) (p : Found) (is : IsFound (suc n) p) (within : n < length f.steps) (changed : changes_one p.wires (step_at f (step_id n)) ≡ true) where
    abbrev new : List WireId
    new = marked_among marked (used (step_at f (step_id n)))

    -- no step from n on changes a wire that step n uses
    not_new : (q : WireId) (s : StepId) → Contains new q → n ≤ s.number → s.number < length f.steps → changes q (step_at f s) ≡ true → ⊥
    not_new q s c l sl ch =
        let r = marked_in marked (used (step_at f (step_id n))) q c in
        let t : s.number < n = at_top q r.1 (step_id n) within r.0 s sl ch in
        omega arith

    new_rests : (w : WireId) → Contains new w → RestsOn f marked v w
    new_rests w c =
        let r = marked_in marked (used (step_at f (step_id n))) w c in
        let o = one_changed p.wires (step_at f (step_id n)) changed in
        further (is.rests o.0 o.1) (record { step = within; changing = o.2; uses = r.0 }) r.1

    closed_now : (q w : WireId) (s : StepId) → Contains (new ++ p.wires) q → n ≤ s.number → Passes f s q w → Contains marked w → Contains (new ++ p.wires) w
    closed_now q w s c l passes m = elim (Contains-append_cases new p.wires q c) [
      | inl a ↦ absurd (not_new q s a l passes.step passes.changing)
      | inr b ↦ elim (cases_eq s.number n) [
        | inl e ↦ Contains-append_left new p.wires w (in_marked marked (used (step_at f (step_id n))) w (subst (λ (k : ℕ). Contains (used (step_at f (step_id k))) w) e passes.uses) m)
        | inr ne ↦ Contains-append_right new p.wires w (is.closed q w s b (omega arith) passes m)
      ]
    ]

    only_now : (s : StepId) → Contains (step_id n ∷ p.steps) s → (w : WireId) × RestsOn f marked v w × (s.number < length f.steps) × (changes w (step_at f s) ≡ true)
    only_now s c = elim (contains_cases (step_id n) s p.steps c) [
      | inl e ↦
          let o = one_changed p.wires (step_at f (step_id n)) changed in
          (o.0, is.rests o.0 o.1, subst (λ (x : StepId). x.number < length f.steps) e within, subst (λ (x : StepId). changes o.0 (step_at f x) ≡ true) e o.2)
      | inr i ↦ is.only s i
    ]

    all_now : (s : StepId) (w : WireId) → Contains (new ++ p.wires) w → n ≤ s.number → s.number < length f.steps → changes w (step_at f s) ≡ true → Contains (step_id n ∷ p.steps) s
    all_now s w c l sl ch = elim (Contains-append_cases new p.wires w c) [
      | inl a ↦ absurd (not_new w s a l sl ch)
      | inr b ↦ elim (cases_eq s.number n) [
        | inl e ↦ contains_here (step_id n) s p.steps (ap step_id (sym e))
        | inr ne ↦ contains_later (step_id n) s p.steps (is.all s w b (omega arith) sl ch)
      ]
    ]

    above_now : (s : StepId) → Contains (step_id n ∷ p.steps) s → n ≤ s.number
    above_now s c = elim (contains_cases (step_id n) s p.steps c) [
      | inl e ↦ subst (λ (x : StepId). n ≤ x.number) e (le_refl n)
      | inr i ↦ let a : suc n ≤ s.number = is.above s i in omega arith
    ]

    ascending_now : (i j : ℕ) (a b : StepId) → i < j → slice_get (step_id n ∷ p.steps) i ≡ Some a → slice_get (step_id n ∷ p.steps) j ≡ Some b → a.number < b.number
    ascending_now i zero a b l x y = absurd (omega arith)
    ascending_now zero (suc j) a b l x y =
        let e : step_id n ≡ a = same_Some (step_id n) a x in
        let m : suc n ≤ b.number = is.above b (contains_at p.steps j b y) in
        subst (λ (t : StepId). t.number < b.number) e (omega arith)
    ascending_now (suc i) (suc j) a b l x y = is.ascending i j a b (omega arith) x y

    taken : IsFound n (record { wires = new ++ p.wires; steps = step_id n ∷ p.steps })
    taken = record {
      rests = λ w c. elim (Contains-append_cases new p.wires w c) [ inl a ↦ new_rests w a | inr b ↦ is.rests w b ];
      direct = λ w i u m. Contains-append_right new p.wires w (is.direct w i u m);
      closed = closed_now;
      only = only_now;
      all = all_now;
      above = above_now;
      ascending = ascending_now;
    }

  one_step : (n : ℕ) (p : Found) → IsFound (suc n) p → n < length f.steps → IsFound n (found_at f marked (step_id n) p)
  one_step n p is within = go (changes_one p.wires (step_at f (step_id n))) refl
    where
      go : (b : Bool) → changes_one p.wires (step_at f (step_id n)) ≡ b → IsFound n (cond b (record { wires = marked_among marked (used (step_at f (step_id n))) ++ p.wires; steps = step_id n ∷ p.steps }) p)
      go true e = taken n p is within e
      go false e = passed n p is e

  whole : (n : ℕ) (p : Found) → n ≤ length f.steps → IsFound n p → IsFound 0 (found_below f marked n p)
  whole zero p l is = is
  whole (suc n) p l is = whole n (found_at f marked (step_id n) p) (omega arith) (one_step n p is (omega arith))

  own_is_use : (v : Vertex) → IsVertex f v → (w : WireId) → Contains (own_uses f v) w → (i : ℕ) × Uses f v w i
  own_is_use (Forward s) h w c = (label_before f s w, doing h c)
  own_is_use (Reverse s) h w c = (label_before f s w, undoing h.0 h.1 c)
  own_is_use (Free x) h w c = absurd (contains_nil w c)

  use_is_own : (v : Vertex) (w : WireId) (i : ℕ) → Uses f v w i → Contains (own_uses f v) w
  use_is_own v w i (doing l c) = c
  use_is_own v w i (undoing l u c) = c

  at_first : IsVertex f v → IsFound (length f.steps) (record { wires = marked_among marked (own_uses f v); steps = [] })
  at_first h = record {
    rests = λ w c. let r = marked_in marked (own_uses f v) w c in let u = own_is_use v h w r.0 in directly u.1 r.1;
    direct = λ w i u m. in_marked marked (own_uses f v) w (use_is_own v w i u) m;
    closed = λ q w s c l passes m. let sl : s.number < length f.steps = passes.step in absurd (omega arith);
    only = λ s c. absurd (contains_nil s c);
    all = λ s w c l sl ch. absurd (omega arith);
    above = λ s c. absurd (contains_nil s c);
    ascending = λ i j a b l x. absurd (none-some a x);
  }

  in_wires : (p : Found) → IsFound 0 p → (w : WireId) → RestsOn f marked v w → Contains p.wires w
  in_wires p is w (directly {i = i} u c) = is.direct w i u c
  in_wires p is w (further {p = q} {s = s} r passes c) = is.closed q w s (in_wires p is q r) (omega arith) passes c

  found_is_redone : (p : Found) → IsFound 0 p → IsRedone f marked v p.steps
  found_is_redone p is = record {
    only = is.only;
    all = λ s w r l ch. is.all s w (in_wires p is w r) (omega arith) l ch;
    ascending = is.ascending;
  }

  redone_found : IsVertex f v → IsRedone f marked v (redone f marked v)
  redone_found h =
      found_is_redone (found_below f marked (length f.steps) (record { wires = marked_among marked (own_uses f v); steps = [] }))
      (whole (length f.steps) (record { wires = marked_among marked (own_uses f v); steps = [] }) (le_refl (length f.steps)) (at_first h))

pub redone_is_found : RedoneIsFound
redone_is_found f k v h = redone_found f (marked_at f k) (marked_at_top f k) v h
