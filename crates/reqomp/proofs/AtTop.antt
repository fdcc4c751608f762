-- A marked wire is used after its last step only.
use Rattle.std.proofs.Common.{◌≡◌, ℕ, zero, suc, ◌+◌, ◌*◌, ◌/◌, ◌<◌, ◌≤◌, Bool, true, false, cond, not, ◌&&◌, ◌||◌, eqb, List, [], ◌∷◌, length, take, drop, get_or, Contains, refl, sym, ap, ◌∙◌, subst, inl, inr, arith, add-zero, add-suc, suc-add, zero-add}
use Rattle.std.proofs.lemmas.Bool.{cases_lt, cases_Bool, eqb-true, eq-eqb}
use Rattle.std.proofs.lemmas.List.{take-append-drop, take-take}
use Rattle.std.proofs.lemmas.List.Elements.{Contains-append_left, Contains-append_cases}
use Rattle.std.proofs.lemmas.List.Sums.{sum_by-take-le}
use Rattle.flat_core.specs.declared.step.Step.{Step}
use Rattle.flat_core.specs.declared.step.Step.TheVariants.{X, H, P, M}
use Rattle.flat_core.specs.declared.step.WireId.{WireId}
use Rattle.flat_core.specs.declared.step.StepId.{StepId}
use Rattle.flat_core.specs.Form.{FlatForm}
use Rattle.flat_core.specs.Label.{step_id, changes, used, step_at, no_step, same_wire, top, label_before, label_after}
use Rattle.flat_core.specs.Ends.{dropped}
use Rattle.graph_core.proofs.Chains.{same_wire_is, on_at, from_on}
use Rattle.topo_order.proofs.Orders.{contains_nil, contains_cases, contains_here, contains_later}
use Rattle.reqomp.specs.Simple.{has_wire, used_at_top_from, simple_at, simple_from, simple_wires, marked_at}

-- a wire is in a list exactly where the test says so
pub has_contains : (w : WireId) (xs : List WireId) → has_wire w xs ≡ true → Contains xs w
has_contains w [] h = cc
has_contains w (x ∷ xs) h = elim (cases_Bool (same_wire x w)) [
  | inl t ↦ contains_here x w xs (same_wire_is x w t)
  | inr e ↦ contains_later x w xs (has_contains w xs (subst (λ (b : Bool). (b || has_wire w xs) ≡ true) e h))
]

same_self : (x w : WireId) → x ≡ w → same_wire x w ≡ true
same_self x w e = eq-eqb x.number w.number (ap (λ (y : WireId). y.number) e)

-- one of two holds where the first or the second does
pub or_left : (a b : Bool) → a ≡ true → (a || b) ≡ true
or_left a b e = subst (λ (x : Bool). (x || b) ≡ true) (sym e) refl

pub or_right : (a b : Bool) → b ≡ true → (a || b) ≡ true
or_right true b e = refl
or_right false b e = e

pub contains_has : (w : WireId) (xs : List WireId) → Contains xs w → has_wire w xs ≡ true
contains_has w [] c = absurd (contains_nil w c)
contains_has w (x ∷ xs) c = elim (contains_cases x w xs c) [
  | inl e ↦ or_left (same_wire x w) (has_wire w xs) (same_self x w e)
  | inr i ↦ or_right (same_wire x w) (has_wire w xs) (contains_has w xs i)
]

and_left : (a b : Bool) → (a && b) ≡ true → a ≡ true
and_left true b e = refl
and_left false b e = e

and_right : (a b : Bool) → (a && b) ≡ true → b ≡ true
and_right true b e = e
and_right false b e = cc

or_denied : (a b : Bool) → a ≡ true → (not a || b) ≡ true → b ≡ true
or_denied true b h e = e
or_denied false b h e = cc

-- where the test of a wire holds, each step that uses it does so at its top
top_used : (f : FlatForm) (w : WireId) (n : ℕ) (steps : List Step) → used_at_top_from f w n steps ≡ true → (j : ℕ) → j < length steps → Contains (used (get_or steps j no_step)) w → label_before f (step_id (n + j)) w ≡ top f w
top_used f w n [] h j l c = absurd (omega arith)
top_used f w n (s ∷ rest) h zero l c =
    let a : (not (has_wire w (used s)) || eqb (label_before f (step_id n) w) (top f w)) ≡ true = and_left _ (used_at_top_from f w (suc n) rest) h in
    let b : eqb (label_before f (step_id n) w) (top f w) ≡ true = or_denied (has_wire w (used s)) _ (contains_has w (used s) c) a in
    ap (λ (m : ℕ). label_before f (step_id m) w) (add-zero n) ∙ eqb-true (label_before f (step_id n) w) (top f w) b
top_used f w n (s ∷ rest) h (suc j) l c =
    let b : used_at_top_from f w (suc n) rest ≡ true = and_right (not (has_wire w (used s)) || eqb (label_before f (step_id n) w) (top f w)) _ h in
    ap (λ (m : ℕ). label_before f (step_id m) w) (add-suc n j ∙ sym (suc-add n j)) ∙ top_used f w (suc n) rest b j (omega arith) c

pub in_cond : (b : Bool) (t w : WireId) → Contains (cond b (t ∷ []) []) w → (b ≡ true) × (t ≡ w)
in_cond true t w c = elim (contains_cases t w [] c) [ inl e ↦ (refl, e) | inr i ↦ absurd (contains_nil w i) ]
in_cond false t w c = absurd (contains_nil w c)

simple_there : (f : FlatForm) (n : ℕ) (s : Step) (w : WireId) → Contains (simple_at f n s) w → used_at_top_from f w 0 f.steps ≡ true
simple_there f n (X t a b) w c =
    let r = in_cond (eqb (label_before f (step_id n) t) 0 && (dropped f t && used_at_top_from f t 0 f.steps)) t w c in
    let d : (dropped f t && used_at_top_from f t 0 f.steps) ≡ true = and_right (eqb (label_before f (step_id n) t) 0) _ r.0 in
    subst (λ (x : WireId). used_at_top_from f x 0 f.steps ≡ true) r.1 (and_right (dropped f t) _ d)
simple_there f n (H t a) w c = absurd (contains_nil w c)
simple_there f n (P k a) w c = absurd (contains_nil w c)
simple_there f n (M x k) w c = absurd (contains_nil w c)

simple_in : (f : FlatForm) (n : ℕ) (steps : List Step) (w : WireId) → Contains (simple_from f n steps) w → used_at_top_from f w 0 f.steps ≡ true
simple_in f n [] w c = absurd (contains_nil w c)
simple_in f n (s ∷ rest) w c = elim (Contains-append_cases (simple_at f n s) (simple_from f (suc n) rest) w c) [
  | inl a ↦ simple_there f n s w a
  | inr b ↦ simple_in f (suc n) rest w b
]

pub marked_simple : (f : FlatForm) (k : ℕ) (w : WireId) → Contains (marked_at f k) w → Contains (simple_wires f) w
marked_simple f k w c =
    let m : ℕ = (length (simple_wires f) * k + 15) / 16 in
    subst (λ (l : List WireId). Contains l w) (take-append-drop m (simple_wires f)) (Contains-append_left (take m (simple_wires f)) (drop m (simple_wires f)) w c)

pub label_grows : (f : FlatForm) (s t : StepId) (w : WireId) → s.number ≤ t.number → label_before f s w ≤ label_before f t w
label_grows f s t w l =
    subst (λ (xs : List Step). label_after xs w ≤ label_before f t w) (take-take s.number t.number f.steps l)
    (sum_by-take-le (λ x. cond (changes w x) 1 0) (take t.number f.steps) s.number)

-- each step of some wires comes before each step that uses the wire
abbrev pub AreUsedAtTop : FlatForm → List WireId → Type 0
AreUsedAtTop f marked = (w : WireId) → Contains marked w → (s : StepId) → s.number < length f.steps → Contains (used (step_at f s)) w → (t : StepId) → t.number < length f.steps → changes w (step_at f t) ≡ true → t.number < s.number

pub marked_at_top : (f : FlatForm) (k : ℕ) → AreUsedAtTop f (marked_at f k)
marked_at_top f k w m s sl u t tl c =
    let test : used_at_top_from f w 0 f.steps ≡ true = simple_in f 0 f.steps w (marked_simple f k w m) in
    let at : label_before f s w ≡ top f w = ap (λ (n : ℕ). label_before f (step_id n) w) (sym (zero-add s.number)) ∙ top_used f w 0 f.steps test s.number sl u in
    let low : label_before f t w < top f w = (from_on f w (label_before f t w) t (on_at f t w tl c)).below_top in
    elim (cases_lt t.number s.number) [
      | inl l ↦ l
      | inr g ↦ let up : label_before f s w ≤ label_before f t w = label_grows f s t w g in absurd (omega arith)
    ]
