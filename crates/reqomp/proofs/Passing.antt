-- The pass back over the steps by stamps, and where it may end.
use Rattle.std.proofs.Common.{◌≡◌, ℕ, zero, suc, ◌+◌, ◌-◌, ◌<◌, ◌≤◌, Bool, true, false, cond, ◌||◌, eqb, min, List, [], ◌∷◌, ◌++◌, length, get_or, slice_set, Option, Some, None, IfSome, Contains, refl, sym, ap, ◌∙◌, subst, inl, inr, arith, get_or-set_same, get_or-set_other, add-suc, length-set, replicate, append-nil, le_refl}
use Rattle.std.specs.Option.{option_to_list}
use Rattle.std.proofs.lemmas.Bool.{cases_Bool, cases_lt, eqb-true, eq-eqb, ne_eqb, or_cases, false_from_ne_true, or_from}
use Rattle.std.proofs.lemmas.List.{get_or_past, length-replicate, get_or-replicate, reverse-append}
use Rattle.flat_core.specs.declared.step.Step.{Step}
use Rattle.flat_core.specs.declared.step.WireId.{WireId}
use Rattle.flat_core.specs.declared.step.StepId.{StepId}
use Rattle.flat_core.specs.Form.{FlatForm}
use Rattle.flat_core.specs.Label.{step_id, changes, used, step_at, no_step, same_wire}
use Rattle.flat_core.specs.Sound.{IsFlat}
use Rattle.graph_core.specs.declared.vertex.Vertex.TheVariants.{Free}
use Rattle.unqomp.specs.UseList.{wires_of_pair}
use Rattle.unqomp.specs.Making.{target_of}
use Rattle.unqomp.proofs.UseLoop.{used_there}
use Rattle.unqomp.proofs.Forth.{changes_target, changes_none}
use Rattle.topo_order.proofs.Orders.{contains_here}
use Rattle.std.proofs.lemmas.List.Elements.{Contains-append_left, Contains-append_right}
use Rattle.reqomp.specs.declared.pass_back.Search.{Search}
use Rattle.reqomp.specs.Simple.{has_wire}
use Rattle.reqomp.specs.Marking.{AreFlagsOf, AreFirstSteps}
use Rattle.reqomp.specs.Redone.{marked_among, changes_one, Found, found_at, found_below, redone}
use Rattle.reqomp.specs.Passing.{AreStamped, AreOld, stamped, lowered, IsBelow, HasFound}
use Rattle.reqomp.proofs.AtTop.{AreUsedAtTop, has_contains, contains_has}
use Rattle.reqomp.proofs.Marking.{other_wire, or_false, has_append}
use Rattle.reqomp.proofs.Redone.{marked_in}

stamp_set : (stamps : List ℕ) (newest : ℕ) (w x : WireId) → w.number < length stamps → eqb (get_or (slice_set stamps w.number newest) x.number 0) newest ≡ (same_wire w x || eqb (get_or stamps x.number 0) newest)
stamp_set stamps newest w x l = elim (cases_Bool (same_wire w x)) [
  | inl t ↦
      let same : w.number ≡ x.number = eqb-true w.number x.number t in
      eq-eqb (get_or (slice_set stamps w.number newest) x.number 0) newest (ap (λ (n : ℕ). get_or (slice_set stamps w.number newest) n 0) (sym same) ∙ get_or-set_same stamps w.number newest 0 l)
      ∙ sym (ap (λ (b : Bool). b || eqb (get_or stamps x.number 0) newest) t)
  | inr e ↦
      ap (λ (n : ℕ). eqb n newest) (get_or-set_other stamps w.number x.number newest 0 (other_wire w x e))
      ∙ sym (ap (λ (b : Bool). b || eqb (get_or stamps x.number 0) newest) e)
]

module _ (flags : List Bool) (marked : List WireId) (are : AreFlagsOf flags marked) where
  -- a wire, if any, is stamped where it is marked
  found_one : (newest : ℕ) (o : Option WireId) (stamps : List ℕ) → IfSome o (λ w. w.number < length stamps) → (x : WireId) →
      eqb (get_or (stamped flags newest o stamps) x.number 0) newest ≡ (has_wire x (marked_among marked (option_to_list o)) || eqb (get_or stamps x.number 0) newest)
  found_one newest None stamps l x = refl
  found_one newest (Some w) stamps l x = go (get_or flags w.number false) (has_wire w marked) (are w)
    where
      go : (b c : Bool) → b ≡ c → eqb (get_or (cond b (slice_set stamps w.number newest) stamps) x.number 0) newest ≡ (has_wire x (cond c (w ∷ []) []) || eqb (get_or stamps x.number 0) newest)
      go true true e = stamp_set stamps newest w x l ∙ ap (λ (b : Bool). b || eqb (get_or stamps x.number 0) newest) (sym (or_false (same_wire w x)))
      go true false e = cc
      go false true e = cc
      go false false e = refl

  among_append : (xs ys : List WireId) → marked_among marked (xs ++ ys) ≡ marked_among marked xs ++ marked_among marked ys
  among_append [] ys = refl
  among_append (x ∷ xs) ys = go (has_wire x marked) (among_append xs ys)
    where
      go : (b : Bool) → marked_among marked (xs ++ ys) ≡ marked_among marked xs ++ marked_among marked ys → cond b (x ∷ marked_among marked (xs ++ ys)) (marked_among marked (xs ++ ys)) ≡ cond b (x ∷ marked_among marked xs) (marked_among marked xs) ++ marked_among marked ys
      go true e = ap (λ (l : List WireId). x ∷ l) e
      go false e = e

  or_turn : (a b c : Bool) → (b || (a || c)) ≡ ((a || b) || c)
  or_turn true true c = refl
  or_turn true false c = refl
  or_turn false true c = refl
  or_turn false false c = refl

  stamped_length : (newest : ℕ) (o : Option WireId) (stamps : List ℕ) → length (stamped flags newest o stamps) ≡ length stamps
  stamped_length newest None stamps = refl
  stamped_length newest (Some w) stamps = go (get_or flags w.number false)
    where
      go : (b : Bool) → length (cond b (slice_set stamps w.number newest) stamps) ≡ length stamps
      go true = length-set stamps w.number newest
      go false = refl

  -- both wires of a step
  pub found_both : (newest : ℕ) (first second : Option WireId) (stamps : List ℕ) (names wires : List WireId) → IfSome first (λ w. w.number < length stamps) → IfSome second (λ w. w.number < length stamps) → wires_of_pair first second ≡ names
      → AreStamped stamps newest wires → AreStamped (stamped flags newest second (stamped flags newest first stamps)) newest (marked_among marked names ++ wires)
  found_both newest first second stamps names wires l m pair h x =
      let a = has_wire x (marked_among marked (option_to_list first)) in
      let b = has_wire x (marked_among marked (option_to_list second)) in
      let n : IfSome second (λ w. w.number < length (stamped flags newest first stamps)) = subst (λ (k : ℕ). IfSome second (λ w. w.number < k)) (sym (stamped_length newest first stamps)) m in
      found_one newest second (stamped flags newest first stamps) n x
      ∙ ap (λ (c : Bool). b || c) (found_one newest first stamps l x ∙ ap (λ (c : Bool). a || c) (h x))
      ∙ or_turn a b (has_wire x wires)
      ∙ ap (λ (c : Bool). c || has_wire x wires) (sym (has_append x (marked_among marked (option_to_list first)) (marked_among marked (option_to_list second))))
      ∙ ap (λ (l : List WireId). has_wire x l || has_wire x wires) (sym (among_append (option_to_list first) (option_to_list second)) ∙ ap (marked_among marked) pair)
      ∙ sym (has_append x (marked_among marked names) wires)

  module _ (f : FlatForm) (first : List ℕ) (firsts : AreFirstSteps f first) where
    changed_there : (w : WireId) (s : StepId) → changes w (step_at f s) ≡ true → s.number < length f.steps
    changed_there w s c = elim (cases_lt s.number (length f.steps)) [
      | inl l ↦ l
      | inr g ↦
          let past : step_at f s ≡ no_step = get_or_past f.steps s.number no_step g in
          let none : changes w (step_at f s) ≡ false = ap (changes w) past in
          cc
    ]

    below_one : (o : Option WireId) (low : ℕ) (wires : List WireId) → IsBelow f low wires → IsBelow f (lowered flags first o low) (marked_among marked (option_to_list o) ++ wires)
    below_one None low wires h = h
    below_one (Some x) low wires h = go (get_or flags x.number false) (has_wire x marked) (are x)
      where
        go : (b c : Bool) → b ≡ c → IsBelow f (cond b (min low (get_or first x.number 0)) low) (cond c (x ∷ []) [] ++ wires)
        go true true e = λ w s has l. elim (or_cases (same_wire x w) (has_wire w wires) has) [
          | inl t ↦
              let same : x.number ≡ w.number = eqb-true x.number w.number t in
              false_from_ne_true (changes w (step_at f s)) (λ c.
              let least = firsts.least w s (changed_there w s c) c in
              let at : get_or first x.number 0 ≡ get_or first w.number 0 = ap (λ (n : ℕ). get_or first n 0) same in
              absurd (omega arith))
          | inr r ↦ h w s r (omega arith)
        ]
        go true false e = cc
        go false true e = cc
        go false false e = h

    below_same : (low : ℕ) (xs ys : List WireId) → ((w : WireId) → has_wire w xs ≡ has_wire w ys) → IsBelow f low ys → IsBelow f low xs
    below_same low xs ys e h w s has l = h w s (sym (e w) ∙ has) l

    pub below_both : (one two : Option WireId) (low : ℕ) (names wires : List WireId) → wires_of_pair one two ≡ names → IsBelow f low wires
        → IsBelow f (lowered flags first two (lowered flags first one low)) (marked_among marked names ++ wires)
    below_both one two low names wires pair h =
        let a : List WireId = marked_among marked (option_to_list one) in
        let b : List WireId = marked_among marked (option_to_list two) in
        below_same (lowered flags first two (lowered flags first one low)) (marked_among marked names ++ wires) (b ++ (a ++ wires))
        (λ w.
        has_append w (marked_among marked names) wires
        ∙ ap (λ (l : List WireId). has_wire w l || has_wire w wires) (ap (marked_among marked) (sym pair) ∙ among_append (option_to_list one) (option_to_list two))
        ∙ ap (λ (c : Bool). c || has_wire w wires) (has_append w a b)
        ∙ sym (or_turn (has_wire w a) (has_wire w b) (has_wire w wires))
        ∙ ap (λ (c : Bool). has_wire w b || c) (sym (has_append w a wires))
        ∙ sym (has_append w b (a ++ wires)))
        (below_one two (lowered flags first one low) (a ++ wires) (below_one one low wires h))

-- no stamp is later than the newest one, also after more were put
pub old_kept : (flags : List Bool) (newest : ℕ) (o : Option WireId) (stamps : List ℕ) → IfSome o (λ w. w.number < length stamps) → AreOld stamps newest → AreOld (stamped flags newest o stamps) newest
old_kept flags newest None stamps l h x = h x
old_kept flags newest (Some w) stamps l h x = go (get_or flags w.number false)
  where
    go : (b : Bool) → get_or (cond b (slice_set stamps w.number newest) stamps) x.number 0 ≤ newest
    go true = elim (cases_Bool (same_wire w x)) [
      | inl t ↦
          let same : w.number ≡ x.number = eqb-true w.number x.number t in
          let e : get_or (slice_set stamps w.number newest) x.number 0 ≡ newest = ap (λ (n : ℕ). get_or (slice_set stamps w.number newest) n 0) (sym same) ∙ get_or-set_same stamps w.number newest 0 l in
          omega arith
      | inr n ↦
          let e : get_or (slice_set stamps w.number newest) x.number 0 ≡ get_or stamps x.number 0 = get_or-set_other stamps w.number x.number newest 0 (other_wire w x n) in
          let old = h x in
          omega arith
    ]
    go false = h x

-- a new stamp stands at no wire
pub none_stamped : (stamps : List ℕ) (newest : ℕ) → AreOld stamps newest → AreStamped stamps (newest + 1) []
none_stamped stamps newest h x = let old = h x in ne_eqb (get_or stamps x.number 0) (newest + 1) (λ e. omega arith)

module _ (f : FlatForm) (marked : List WireId) where
  -- steps that change no wire found leave what was found
  found_skip : (n k : ℕ) (p : Found) → ((t : StepId) → n ≤ t.number → t.number < n + k → changes_one p.wires (step_at f t) ≡ false) → found_below f marked (n + k) p ≡ found_below f marked n p
  found_skip n zero p h = let e : n + 0 ≡ n = omega arith in ap (λ (m : ℕ). found_below f marked m p) e
  found_skip n (suc k) p h =
      ap (λ (m : ℕ). found_below f marked m p) (add-suc n k)
      ∙ ap (λ (b : Bool). found_below f marked (n + k) (cond b (record { wires = marked_among marked (used (step_at f (step_id (n + k)))) ++ p.wires; steps = step_id (n + k) ∷ p.steps }) p)) (h (step_id (n + k)) (omega arith) (omega arith))
      ∙ found_skip n k p (λ t l m. h t l (omega arith))

  none_changed : (ws : List WireId) (s : Step) → ((w : WireId) → has_wire w ws ≡ true → changes w s ≡ false) → changes_one ws s ≡ false
  none_changed [] s h = refl
  none_changed (w ∷ ws) s h =
      or_from (changes w s) (changes_one ws s) (h w (contains_has w (w ∷ ws) (0, omega arith, refl)))
      (none_changed ws s (λ x c. h x (later x c)))
    where
      later : (x : WireId) → has_wire x ws ≡ true → (same_wire w x || has_wire x ws) ≡ true
      later x c = go (same_wire w x)
        where
          go : (b : Bool) → (b || has_wire x ws) ≡ true
          go true = refl
          go false = c

  one_changed : (ws : List WireId) (w : WireId) (s : Step) → has_wire w ws ≡ true → changes_one ws s ≡ false → changes w s ≡ false
  one_changed [] w s h e = cc
  one_changed (x ∷ ws) w s h e = elim (or_cases (same_wire x w) (has_wire w ws) h) [
    | inl t ↦ ap (λ (v : WireId). changes v s) (same_back x w t) ∙ (or_false_from (changes x s) (changes_one ws s) e).0
    | inr r ↦ one_changed ws w s r (or_false_from (changes x s) (changes_one ws s) e).1
  ]
    where
      same_back : (x w : WireId) → same_wire x w ≡ true → w ≡ x
      same_back x w t = ap (λ (n : ℕ). record { number = n }) (sym (eqb-true x.number w.number t))

      or_false_from : (a b : Bool) → (a || b) ≡ false → (a ≡ false) × (b ≡ false)
      or_false_from true b e = cc
      or_false_from false b e = (refl, e)

  -- from a step on to an earlier one, where no step between changes a marked wire, what was found changes at the earlier one alone
  pub found_back : (n i : ℕ) (p : Found) → n < i → ((w : WireId) → has_wire w p.wires ≡ true → has_wire w marked ≡ true) → ((t : StepId) → n < t.number → t.number < i → changes_one marked (step_at f t) ≡ false)
      → found_below f marked i p ≡ found_below f marked n (found_at f marked (step_id n) p)
  found_back n i p l inside none =
      ap (λ (m : ℕ). found_below f marked m p) (rest n i l)
      ∙ found_skip (suc n) (i - suc n) p (λ t a b. none_changed p.wires (step_at f t) (λ w c. one_changed marked w (step_at f t) (inside w c) (none t (omega arith) (omega arith))))
    where
      rest : (a b : ℕ) → a < b → b ≡ suc a + (b - suc a)
      rest a b h = omega arith

  -- before the first steps of the wires found, nothing more is found
  pub pass_end : (n low : ℕ) (p : Found) → n ≤ low → IsBelow f low p.wires → found_below f marked n p ≡ p
  pass_end n low p l h =
      ap (λ (m : ℕ). found_below f marked m p) (zero_left n)
      ∙ found_skip 0 n p (λ t a b. none_changed p.wires (step_at f t) (λ w c. h w t c (omega arith)))
    where
      zero_left : (n : ℕ) → n ≡ 0 + n
      zero_left n = omega arith

  -- from a step on that uses wires at their tops, none of them changes
  pub pass_start : AreUsedAtTop f marked → (s : StepId) → s.number < length f.steps → (p : Found) → p.wires ≡ marked_among marked (used (step_at f s))
      → found_below f marked (length f.steps) p ≡ found_below f marked s.number p
  pass_start at_top s l p e =
      ap (λ (m : ℕ). found_below f marked m p) (rest s.number (length f.steps) l)
      ∙ found_skip s.number (length f.steps - s.number) p (λ t a b. none_changed p.wires (step_at f t) (λ w c. false_from_ne_true (changes w (step_at f t)) (λ ch.
      let among = marked_in marked (used (step_at f s)) w (has_contains w (marked_among marked (used (step_at f s))) (back w c)) in
      let before = at_top w among.1 s l among.0 t (omega arith) ch in
      absurd (omega arith))))
    where
      rest : (a b : ℕ) → a < b → b ≡ a + (b - a)
      rest a b h = omega arith

      back : (w : WireId) → has_wire w p.wires ≡ true → has_wire w (marked_among marked (used (step_at f s))) ≡ true
      back w c = ap (has_wire w) (sym e) ∙ c

pub zeros_old : (stamps : List ℕ) (n newest : ℕ) → stamps ≡ replicate n 0 → AreOld stamps newest
zeros_old stamps n newest e w = elim (cases_lt w.number n) [
  | inl l ↦ let z : get_or stamps w.number 0 ≡ 0 = ap (λ (xs : List ℕ). get_or xs w.number 0) e ∙ get_or-replicate n w.number 0 0 l in omega arith
  | inr g ↦
      let long : length stamps ≡ n = ap length e ∙ length-replicate n 0 in
      let z : get_or stamps w.number 0 ≡ 0 = get_or_past stamps w.number 0 (omega arith) in
      omega arith
]

-- the wires of a step are there
pub pair_there : (f : FlatForm) → IsFlat f → (s : StepId) → s.number < length f.steps → (first second : Option WireId) → wires_of_pair first second ≡ used (step_at f s)
    → IfSome first (λ w. w.number < length f.wires) × IfSome second (λ w. w.number < length f.wires)
pair_there f ok s l first second pair = (
  each first (λ w c. there w (Contains-append_left (option_to_list first) (option_to_list second) w c)),
  each second (λ w c. there w (Contains-append_right (option_to_list first) (option_to_list second) w c)),
)
  where
    there : (w : WireId) → Contains (option_to_list first ++ option_to_list second) w → w.number < length f.wires
    there w c = used_there (step_at f s) (λ x. x.number < length f.wires) w (subst (λ (xs : List WireId). Contains xs w) pair c) (ok.in_range s l)

    each : (o : Option WireId) → ((w : WireId) → Contains (option_to_list o) w → w.number < length f.wires) → IfSome o (λ w. w.number < length f.wires)
    each None h = tt
    each (Some w) h = h w (contains_here w w [] refl)

-- whether a step changes one of some wires, by its target
same_swap : (a b : WireId) → same_wire a b ≡ same_wire b a
same_swap a b = elim (cases_Bool (same_wire a b)) [
  | inl t ↦ t ∙ sym (eq-eqb b.number a.number (sym (eqb-true a.number b.number t)))
  | inr e ↦ e ∙ sym (ne_eqb b.number a.number (λ s. other_wire a b e s))
]

pub one_of_target : (s : Step) (t : WireId) → target_of s ≡ Some t → (ws : List WireId) → has_wire t ws ≡ changes_one ws s
one_of_target s t e [] = refl
one_of_target s t e (w ∷ ws) =
    ap (λ (b : Bool). b || has_wire t ws) (same_swap w t ∙ sym (changes_target s t e w))
    ∙ ap (λ (b : Bool). changes w s || b) (one_of_target s t e ws)

pub one_of_none : (s : Step) → target_of s ≡ None → (ws : List WireId) → false ≡ changes_one ws s
one_of_none s e [] = refl
one_of_none s e (w ∷ ws) = one_of_none s e ws ∙ ap (λ (b : Bool). b || changes_one ws s) (sym (changes_none s e w))

module _ (f : FlatForm) (marked : List WireId) (s : StepId) (search : Search) (low : ℕ) (steps : List StepId) (p : Found) (h : HasFound f search low steps p) where
  -- a step that changes no wire found
  pub has_passed : false ≡ changes_one p.wires (step_at f s) → HasFound f search low steps (found_at f marked s p)
  has_passed e = subst (HasFound f search low steps) (ap (λ (b : Bool). cond b (record { wires = marked_among marked (used (step_at f s)) ++ p.wires; steps = s ∷ p.steps }) p) e) h

  -- a step that changes one
  pub has_taken : true ≡ changes_one p.wires (step_at f s) → (next : Search) (least : ℕ) → AreStamped next.stamps.items next.newest (marked_among marked (used (step_at f s)) ++ p.wires)
      → IsBelow f least (marked_among marked (used (step_at f s)) ++ p.wires) → HasFound f next least (steps ++ s ∷ []) (found_at f marked s p)
  has_taken e next least are below =
      subst (HasFound f next least (steps ++ s ∷ [])) (ap (λ (b : Bool). cond b (record { wires = marked_among marked (used (step_at f s)) ++ p.wires; steps = s ∷ p.steps }) p) e)
      (record { wires_are = are; below = below; steps_are = reverse-append steps (s ∷ []) ∙ ap (λ (l : List StepId). s ∷ l) h.steps_are })

-- what is found is marked
pub among_marked : (marked xs : List WireId) (w : WireId) → has_wire w (marked_among marked xs) ≡ true → has_wire w marked ≡ true
among_marked marked xs w h = contains_has w marked (marked_in marked xs w (has_contains w (marked_among marked xs) h)).1

pub found_marked : (f : FlatForm) (marked : List WireId) (s : StepId) (p : Found) → ((w : WireId) → has_wire w p.wires ≡ true → has_wire w marked ≡ true)
    → (w : WireId) → has_wire w (found_at f marked s p).wires ≡ true → has_wire w marked ≡ true
found_marked f marked s p inside = go (changes_one p.wires (step_at f s))
  where
    go : (b : Bool) → (w : WireId) → has_wire w (cond b (record { wires = marked_among marked (used (step_at f s)) ++ p.wires; steps = s ∷ p.steps }) p).wires ≡ true → has_wire w marked ≡ true
    go true w h = elim (or_cases (has_wire w (marked_among marked (used (step_at f s)))) (has_wire w p.wires) (sym (has_append w (marked_among marked (used (step_at f s))) p.wires) ∙ h)) [
      | inl a ↦ among_marked marked (used (step_at f s)) w a
      | inr b ↦ inside w b
    ]
    go false w h = inside w h

-- a pass begins with the wires that its step uses
pub has_begun : (f : FlatForm) (marked : List WireId) (s : StepId) (search : Search) (low : ℕ) → AreStamped search.stamps.items search.newest (marked_among marked (used (step_at f s)) ++ []) → IsBelow f low (marked_among marked (used (step_at f s)) ++ [])
    → HasFound f search low [] (record { wires = marked_among marked (used (step_at f s)); steps = [] })
has_begun f marked s search low are below = record {
  wires_are = subst (AreStamped search.stamps.items search.newest) (append-nil (marked_among marked (used (step_at f s)))) are;
  below = subst (IsBelow f low) (append-nil (marked_among marked (used (step_at f s)))) below;
  steps_are = refl;
}

-- nothing is done again for a freeing
pub free_nothing : (f : FlatForm) (marked : List WireId) (w : WireId) → [] ≡ redone f marked (Free w)
free_nothing f marked w = sym (ap (λ (p : Found). p.steps) (pass_end f marked (length f.steps) (length f.steps) (record { wires = []; steps = [] }) (le_refl (length f.steps)) (λ x s h. cc)))
