-- Flags of wires, and how one more step or wire changes them.
use Rattle.std.proofs.Common.{◌≡◌, ℕ, suc, ◌+◌, ◌*◌, ◌/◌, ◌<◌, ◌≤◌, Bool, true, false, cond, not, ◌&&◌, ◌||◌, eqb, List, [], ◌∷◌, ◌++◌, length, take, get_or, slice_get, slice_set, Option, Some, None, IfSome, Contains, refl, sym, ap, ◌∙◌, subst, inl, inr, arith, length-append, length-take-le, length-set, get_or-set_same, get_or-set_other, append_assoc, add-zero, add-suc, suc-add}
use Rattle.std.specs.Option.{option_to_list}
use Rattle.std.proofs.lemmas.Bool.{cases_Bool, cases_lt, eqb-true, eqb-false, cond-true, cond-false}
use Rattle.std.proofs.lemmas.List.{take_more, set_past, get_or_past}
use Rattle.std.proofs.lemmas.Option.{get_or_from_slice_get, slice_get_within}
use Rattle.flat_core.specs.declared.step.Step.{Step}
use Rattle.flat_core.specs.declared.step.Step.TheVariants.{X, H, P, M}
use Rattle.flat_core.specs.declared.step.WireId.{WireId}
use Rattle.flat_core.specs.declared.step.StepId.{StepId}
use Rattle.flat_core.specs.Form.{FlatForm}
use Rattle.flat_core.specs.Label.{step_id, wire_id, changes, used, main_wire, step_at, no_step, same_wire, top, label_before, label_after, EachNamed}
use Rattle.flat_core.specs.Ends.{dropped}
use Rattle.flat_core.specs.Sound.{IsFlat}
use Rattle.flat_core.proofs.Labels.{same_wire_is, label_after-take_more}
use Rattle.graph_core.proofs.Places.{place_of}
use Rattle.topo_order.proofs.Orders.{contains_nil, contains_here, contains_later}
use Rattle.std.proofs.lemmas.List.Elements.{Contains-append_cases}
use Rattle.std.proofs.Math.Nat.{mul-le-mul_left}
use Rattle.unqomp.specs.UseList.{wires_of_pair}
use Rattle.reqomp.specs.Simple.{has_wire, used_at_top_from, simple_at, simple_from, simple_wires}
use Rattle.reqomp.specs.Marking.{AreFlagsOf, AreTopFlags, AreFirstSteps, low_noted}
use Rattle.reqomp.proofs.AtTop.{in_cond, label_grows}

pub other_wire : (w x : WireId) → same_wire w x ≡ false → x.number ≡ w.number → ⊥
other_wire w x e s = eqb-false w.number x.number e (sym s)

-- a flag after one flag is set
pub flag_taken : (flags : List Bool) (w x : WireId) → get_or (slice_set flags w.number false) x.number false ≡ cond (same_wire w x) false (get_or flags x.number false)
flag_taken flags w x = elim (cases_Bool (same_wire w x)) [
  | inl t ↦
      let same : w.number ≡ x.number = eqb-true w.number x.number t in
      elim (cases_lt w.number (length flags)) [
        | inl l ↦ ap (λ (n : ℕ). get_or (slice_set flags w.number false) n false) (sym same) ∙ get_or-set_same flags w.number false false l ∙ sym (cond-true (same_wire w x) false (get_or flags x.number false) t)
        | inr g ↦
            ap (λ (l : List Bool). get_or l x.number false) (set_past flags w.number false g)
            ∙ get_or_past flags x.number false (omega arith)
            ∙ sym (cond-true (same_wire w x) false (get_or flags x.number false) t)
      ]
  | inr e ↦ get_or-set_other flags w.number x.number false false (other_wire w x e) ∙ sym (cond-false (same_wire w x) false (get_or flags x.number false) e)
]

pub flag_set : (flags : List Bool) (w x : WireId) → w.number < length flags → get_or (slice_set flags w.number true) x.number false ≡ (same_wire w x || get_or flags x.number false)
flag_set flags w x l = elim (cases_Bool (same_wire w x)) [
  | inl t ↦
      let same : w.number ≡ x.number = eqb-true w.number x.number t in
      ap (λ (n : ℕ). get_or (slice_set flags w.number true) n false) (sym same) ∙ get_or-set_same flags w.number true false l ∙ sym (ap (λ (b : Bool). b || get_or flags x.number false) t)
  | inr e ↦ get_or-set_other flags w.number x.number true false (other_wire w x e) ∙ sym (ap (λ (b : Bool). b || get_or flags x.number false) e)
]

pub has_append : (w : WireId) (xs ys : List WireId) → has_wire w (xs ++ ys) ≡ (has_wire w xs || has_wire w ys)
has_append w [] ys = refl
has_append w (x ∷ xs) ys = ap (λ (b : Bool). same_wire x w || b) (has_append w xs ys) ∙ or_assoc (same_wire x w) (has_wire w xs) (has_wire w ys)
  where
    or_assoc : (a b c : Bool) → (a || (b || c)) ≡ ((a || b) || c)
    or_assoc true b c = refl
    or_assoc false b c = refl

pub or_false : (a : Bool) → (a || false) ≡ a
or_false true = refl
or_false false = refl

or_swap : (a b : Bool) → (a || b) ≡ (b || a)
or_swap true true = refl
or_swap true false = refl
or_swap false true = refl
or_swap false false = refl

-- flags of some wires, and of one more
pub flags_more : (flags : List Bool) (wires : List WireId) (i : ℕ) (w : WireId) → slice_get wires i ≡ Some w → w.number < length flags → AreFlagsOf flags (take i wires) → AreFlagsOf (slice_set flags w.number true) (take (i + 1) wires)
flags_more flags wires i w e l are x =
    let within : i < length wires = slice_get_within wires i w e in
    flag_set flags w x l
    ∙ ap (λ (b : Bool). same_wire w x || b) (are x)
    ∙ or_swap (same_wire w x) (has_wire x (take i wires))
    ∙ ap (λ (b : Bool). has_wire x (take i wires) || b) (sym (or_false (same_wire w x)))
    ∙ sym (has_append x (take i wires) (w ∷ []))
    ∙ ap (λ (y : WireId). has_wire x (take i wires ++ y ∷ [])) (sym (get_or_from_slice_get wires i w w e))
    ∙ sym (ap (has_wire x) (take_more wires i w within))

-- whether a step uses a wire at its top, or not at all
abbrev is_top : FlatForm → ℕ → Step → WireId → Bool
is_top f n s w = not (has_wire w (used s)) || eqb (label_before f (step_id n) w) (top f w)

and_true : (a : Bool) → a ≡ (a && true)
and_true true = refl
and_true false = refl

and_false : (a : Bool) → false ≡ (a && false)
and_false true = refl
and_false false = refl

-- a flag after a use is noted
flag_noted : (f : FlatForm) (s : StepId) (o : Option WireId) (flags : List Bool) (x : WireId) →
    get_or (low_noted f s o flags) x.number false ≡ (get_or flags x.number false && (not (has_wire x (option_to_list o)) || eqb (label_before f s x) (top f x)))
flag_noted f s None flags x = and_true (get_or flags x.number false)
flag_noted f s (Some w) flags x = elim (cases_Bool (same_wire w x)) [
  | inl t ↦
      let same : w ≡ x = same_wire_is w x t in
      let at : eqb (label_before f s w) (top f w) ≡ eqb (label_before f s x) (top f x) = ap (λ (y : WireId). eqb (label_before f s y) (top f y)) same in
      go t (eqb (label_before f s w) (top f w)) (eqb (label_before f s x) (top f x)) at
  | inr e ↦ other e (eqb (label_before f s w) (top f w))
]
  where
    go : same_wire w x ≡ true → (b c : Bool) → b ≡ c → get_or (cond b flags (slice_set flags w.number false)) x.number false ≡ (get_or flags x.number false && (not (same_wire w x || false) || c))
    go t true c e = and_true (get_or flags x.number false) ∙ ap (λ (y : Bool). get_or flags x.number false && y) (or_true (not (same_wire w x || false)) c e)
      where
        or_true : (a b : Bool) → true ≡ b → true ≡ (a || b)
        or_true true b e = refl
        or_true false b e = e
    go t false c e =
        flag_taken flags w x ∙ cond-true (same_wire w x) false (get_or flags x.number false) t
        ∙ and_false (get_or flags x.number false)
        ∙ ap (λ (y : Bool). get_or flags x.number false && y) (none (same_wire w x) c t e)
      where
        none : (a b : Bool) → a ≡ true → false ≡ b → false ≡ (not (a || false) || b)
        none true b e h = h
        none false b e h = cc

    free : (a b : Bool) → a ≡ false → true ≡ (not (a || false) || b)
    free true b e = cc
    free false b e = refl

    other : same_wire w x ≡ false → (b : Bool) → get_or (cond b flags (slice_set flags w.number false)) x.number false ≡ (get_or flags x.number false && (not (same_wire w x || false) || eqb (label_before f s x) (top f x)))
    other e true = and_true (get_or flags x.number false) ∙ ap (λ (y : Bool). get_or flags x.number false && y) (free (same_wire w x) (eqb (label_before f s x) (top f x)) e)
    other e false =
        flag_taken flags w x ∙ cond-false (same_wire w x) false (get_or flags x.number false) e
        ∙ and_true (get_or flags x.number false) ∙ ap (λ (y : Bool). get_or flags x.number false && y) (free (same_wire w x) (eqb (label_before f s x) (top f x)) e)

both_uses : (g h k e : Bool) → ((g && (not h || e)) && (not k || e)) ≡ (g && (not (h || k) || e))
both_uses false h k e = refl
both_uses true false k e = refl
both_uses true true k true = last k
  where
    last : (k : Bool) → (not k || true) ≡ true
    last true = refl
    last false = refl
both_uses true true k false = refl

top_push : (f : FlatForm) (w : WireId) (n : ℕ) (steps : List Step) (s : Step) → used_at_top_from f w n (steps ++ s ∷ []) ≡ (used_at_top_from f w n steps && is_top f (n + length steps) s w)
top_push f w n [] s = sym (and_true (is_top f n s w)) ∙ ap (λ (m : ℕ). is_top f m s w) (sym (add-zero n))
top_push f w n (t ∷ steps) s =
    ap (λ (b : Bool). is_top f n t w && b) (top_push f w (suc n) steps s ∙ ap (λ (m : ℕ). used_at_top_from f w (suc n) steps && is_top f m s w) (suc-add n (length steps) ∙ sym (add-suc n (length steps))))
    ∙ and_assoc (is_top f n t w) (used_at_top_from f w (suc n) steps) (is_top f (n + length (t ∷ steps)) s w)
  where
    and_assoc : (a b c : Bool) → (a && (b && c)) ≡ ((a && b) && c)
    and_assoc true b c = refl
    and_assoc false b c = refl

length-noted : (f : FlatForm) (s : StepId) (o : Option WireId) (flags : List Bool) → length (low_noted f s o flags) ≡ length flags
length-noted f s None flags = refl
length-noted f s (Some w) flags = go (eqb (label_before f s w) (top f w))
  where
    go : (b : Bool) → length (cond b flags (slice_set flags w.number false)) ≡ length flags
    go true = refl
    go false = length-set flags w.number false

pub note_long : (f : FlatForm) (s : StepId) (o : Option WireId) (flags : List Bool) → length flags ≡ length f.wires → length (low_noted f s o flags) ≡ length f.wires
note_long f s o flags e = length-noted f s o flags ∙ e

-- the flags after one more step
pub top_more : (f : FlatForm) (s : StepId) (first second : Option WireId) (flags : List Bool) → s.number < length f.steps → wires_of_pair first second ≡ used (step_at f s)
    → AreTopFlags f s.number flags → AreTopFlags f (s.number + 1) (low_noted f s second (low_noted f s first flags))
top_more f s first second flags l pair are = record {
  as_many = note_long f s second (low_noted f s first flags) (note_long f s first flags are.as_many);
  told = λ w there.
      let g = get_or flags w.number false in
      let e = eqb (label_before f s w) (top f w) in
      let h = has_wire w (option_to_list first) in
      let k = has_wire w (option_to_list second) in
      let both : (h || k) ≡ has_wire w (used (step_at f s)) = sym (has_append w (option_to_list first) (option_to_list second)) ∙ ap (has_wire w) pair in
      let long : length (take s.number f.steps) ≡ s.number = length-take-le s.number f.steps (omega arith) in
      flag_noted f s second (low_noted f s first flags) w
      ∙ ap (λ (b : Bool). b && (not k || e)) (flag_noted f s first flags w)
      ∙ both_uses g h k e
      ∙ ap (λ (b : Bool). b && (not (h || k) || e)) (are.told w there)
      ∙ ap (λ (b : Bool). used_at_top_from f w 0 (take s.number f.steps) && (not b || e)) both
      ∙ ap (λ (n : ℕ). used_at_top_from f w 0 (take s.number f.steps) && is_top f n (step_at f s) w) (sym long ∙ zero_left (length (take s.number f.steps)))
      ∙ sym (top_push f w 0 (take s.number f.steps) (step_at f s))
      ∙ sym (ap (used_at_top_from f w 0) (take_more f.steps s.number no_step l));
}
  where
    zero_left : (n : ℕ) → n ≡ 0 + n
    zero_left n = omega arith

-- the simple wires of some steps, and of one more
pub simple_more : (f : FlatForm) (n : ℕ) (steps : List Step) (s : Step) → simple_from f n (steps ++ s ∷ []) ≡ simple_from f n steps ++ simple_at f (n + length steps) s
simple_more f n [] s = nil (simple_at f n s) ∙ ap (λ (m : ℕ). simple_at f m s) (sym (add-zero n))
  where
    nil : (xs : List WireId) → xs ++ [] ≡ xs
    nil [] = refl
    nil (x ∷ xs) = ap (λ (l : List WireId). x ∷ l) (nil xs)
simple_more f n (t ∷ steps) s =
    ap (λ (l : List WireId). simple_at f n t ++ l) (simple_more f (suc n) steps s ∙ ap (λ (m : ℕ). simple_from f (suc n) steps ++ simple_at f m s) (suc-add n (length steps) ∙ sym (add-suc n (length steps))))
    ∙ sym (append_assoc (simple_at f n t) (simple_from f (suc n) steps) (simple_at f (n + length (t ∷ steps)) s))

pub simple_next : (f : FlatForm) (s : StepId) (o : Option WireId) (wires : List WireId) → s.number < length f.steps → wires ≡ simple_from f 0 (take s.number f.steps) → option_to_list o ≡ simple_at f s.number (step_at f s)
    → wires ++ option_to_list o ≡ simple_from f 0 (take (s.number + 1) f.steps)
simple_next f s o wires l so_far is =
    let long : length (take s.number f.steps) ≡ s.number = length-take-le s.number f.steps (omega arith) in
    let place : s.number ≡ 0 + length (take s.number f.steps) = omega arith in
    ap (λ (l : List WireId). l ++ option_to_list o) so_far
    ∙ ap (λ (l : List WireId). simple_from f 0 (take s.number f.steps) ++ l) (is ∙ ap (λ (n : ℕ). simple_at f n (step_at f s)) place)
    ∙ sym (simple_more f 0 (take s.number f.steps) (step_at f s))
    ∙ sym (ap (simple_from f 0) (take_more f.steps s.number no_step l))

-- the simple wires are no more than the steps, and are those of steps
at_most_one : (f : FlatForm) (n : ℕ) (s : Step) → length (simple_at f n s) ≤ 1
at_most_one f n (X t a b) = go (eqb (label_before f (step_id n) t) 0 && (dropped f t && used_at_top_from f t 0 f.steps))
  where
    go : (b : Bool) → length (cond b (t ∷ []) []) ≤ 1
    go true = omega arith
    go false = omega arith
at_most_one f n (H t a) = omega arith
at_most_one f n (P k a) = omega arith
at_most_one f n (M w k) = omega arith

simple_few : (f : FlatForm) (n : ℕ) (steps : List Step) → length (simple_from f n steps) ≤ length steps
simple_few f n [] = omega arith
simple_few f n (s ∷ steps) =
    let one = at_most_one f n s in
    let rest = simple_few f (suc n) steps in
    let long = length-append (simple_at f n s) (simple_from f (suc n) steps) in
    omega arith

pub few_simple : (f : FlatForm) → IsFlat f → length (simple_wires f) ≤ 200000
few_simple f ok = let few = simple_few f 0 f.steps in let steps = ok.few_steps in omega arith

simple_named : (f : FlatForm) (n : ℕ) (s : Step) (w : WireId) → Contains (simple_at f n s) w → main_wire s ≡ Some w
simple_named f n (X t a b) w c = ap (λ (x : WireId). Some x) (in_cond (eqb (label_before f (step_id n) t) 0 && (dropped f t && used_at_top_from f t 0 f.steps)) t w c).1
simple_named f n (H t a) w c = absurd (contains_nil w c)
simple_named f n (P k a) w c = absurd (contains_nil w c)
simple_named f n (M x k) w c = absurd (contains_nil w c)

simple_within : (f : FlatForm) (n : ℕ) (steps : List Step) → ((s : Step) → Contains steps s → EachNamed (λ w. w.number < length f.wires) s) → (w : WireId) → Contains (simple_from f n steps) w → w.number < length f.wires
simple_within f n [] h w c = absurd (contains_nil w c)
simple_within f n (s ∷ steps) h w c = elim (Contains-append_cases (simple_at f n s) (simple_from f (suc n) steps) w c) [
  | inl a ↦ subst (λ (o : Option WireId). IfSome o (λ x. x.number < length f.wires)) (simple_named f n s w a) (h s (contains_here s s steps refl)).0
  | inr b ↦ simple_within f (suc n) steps (λ t d. h t (contains_later s t steps d)) w b
]

-- each simple wire is there
pub simple_there : (f : FlatForm) → IsFlat f → (w : WireId) → Contains (simple_wires f) w → w.number < length f.wires
simple_there f ok w c = simple_within f 0 f.steps (λ s d. let p = place_of f.steps s d in let e : step_at f (step_id p.0) ≡ s = get_or_from_slice_get f.steps p.0 s no_step p.1 in subst (EachNamed (λ x. x.number < length f.wires)) e (ok.in_range (step_id p.0) (slice_get_within f.steps p.0 s p.1))) w c

-- a level marks no more wires than there are
pub sixteenths_fit : (n k : ℕ) → n ≤ 200000 → k ≤ 16 → n * k ≤ 3200000
sixteenths_fit n k l m = let a = mul-le-mul_left n m in omega (arith, a)

pub sixteenths_within : (n k : ℕ) → k ≤ 16 → (n * k + 15) / 16 ≤ n
sixteenths_within n k m = let a = mul-le-mul_left n m in omega (arith, a)

-- the first step of a wire is noted
pub firsts_more : (f : FlatForm) (first : List ℕ) (s : StepId) (w : WireId) → s.number < length f.steps → changes w (step_at f s) ≡ true → label_before f s w ≡ 0 → w.number < length f.wires → AreFirstSteps f first → AreFirstSteps f (slice_set first w.number s.number)
firsts_more f first s w l c low there are = record {
  each_wire = length-set first w.number s.number ∙ are.each_wire;
  least = λ x t tl tc. elim (cases_Bool (same_wire w x)) [
    | inl e ↦
        let same : w.number ≡ x.number = eqb-true w.number x.number e in
        let long = are.each_wire in
        let read : get_or (slice_set first w.number s.number) x.number 0 ≡ s.number = ap (λ (n : ℕ). get_or (slice_set first w.number s.number) n 0) (sym same) ∙ get_or-set_same first w.number s.number 0 (omega arith) in
        elim (cases_lt t.number s.number) [
          | inl before ↦
              let wire : x ≡ w = ap wire_id (sym same) in
              let on : changes w (step_at f t) ≡ true = ap (λ (y : WireId). changes y (step_at f t)) (sym wire) ∙ tc in
              let one = label_after-take_more f.steps w t.number tl in
              let up : label_before f t w + 1 ≡ label_after (take (t.number + 1) f.steps) w = sym (one ∙ ap (λ (b : Bool). label_before f t w + cond b 1 0) on) in
              let grows = label_grows f (step_id (t.number + 1)) s w (omega arith) in
              absurd (omega arith)
          | inr after ↦ omega arith
        ]
    | inr e ↦
        let read : get_or (slice_set first w.number s.number) x.number 0 ≡ get_or first x.number 0 = get_or-set_other first w.number x.number s.number 0 (other_wire w x e) in
        let old = are.least x t tl tc in
        omega arith
  ];
}
