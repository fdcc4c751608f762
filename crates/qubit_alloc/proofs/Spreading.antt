-- A step on the qubits of its wires does what the step does on the wires.
use Rattle.std.proofs.Common.{◌≡◌, ℕ, zero, suc, ◌+◌, ◌<◌, ◌⊎◌, inl, inr, Bool, true, false, cond, ◌==◌, ◌&&◌, ◌||◌, Option, Some, None, IfSome, List, [], ◌∷◌, ◌++◌, length, option_map, refl, sym, ◌∙◌, ap, ap₂, subst, arith, eq-or-lt_of_le, le_of_suc-le-suc}
use Rattle.std.proofs.Math.Path.{fun_ext}
use Rattle.std.proofs.lemmas.Bool.{both_ways, eq-eqb, eqb-true}
use Rattle.std.specs.Bool.{beq}
use Rattle.flat_core.specs.declared.step.Step.{Step}
use Rattle.flat_core.specs.declared.step.Step.TheVariants.{X, H, P, M}
use Rattle.flat_core.specs.declared.step.Lit.{Lit}
use Rattle.flat_core.specs.declared.step.WireId.{WireId}
use Rattle.flat_core.specs.Form.{FlatForm}
use Rattle.flat_core.specs.Label.{wire_id, changes, wire_of, EachNamed}
use Rattle.flat_core.proofs.Labels.{same_wire_is, same_wire-refl, main_of_changed}
use Rattle.flat_mean.specs.Row.{Row, flipped, holds, is_h, next, new_value, is_possible, agrees, halvings, eighths}
use Rattle.flat_mean.specs.Terms.{Term, branch, do_step}
use Rattle.flat_mean.proofs.Local.{or_right}
use Rattle.flat_mean.proofs.Totals.{term}
use Rattle.std.proofs.lemmas.Bool.{or_left}
use Rattle.qubit_alloc.specs.Place.{Place, any_below}
use Rattle.qubit_alloc.specs.Spread.{spread, spread_term, spread_all, lit_on, on_qubits}

pub any_ext : (n : ℕ) (a b : ℕ → Bool) → ((k : ℕ) → k < n → a k ≡ b k) → any_below n a ≡ any_below n b
any_ext zero a b h = refl
any_ext (suc n) a b h = ap₂ ◌||◌ (any_ext n a b (λ k lt. h k (omega arith))) (h n (omega arith))

pub any_none : (n : ℕ) (a : ℕ → Bool) → ((k : ℕ) → k < n → a k ≡ false) → any_below n a ≡ false
any_none zero a h = refl
any_none (suc n) a h = ap₂ ◌||◌ (any_none n a (λ k lt. h k (omega arith))) (h n (omega arith))

pub any_some : (n : ℕ) (a : ℕ → Bool) (k : ℕ) → k < n → a k ≡ true → any_below n a ≡ true
any_some zero a k lt h = absurd (omega arith)
any_some (suc n) a k lt h = by (any_some n a k) (eq-or-lt_of_le (le_of_suc-le-suc lt))
  where
    by : (k < n → a k ≡ true → any_below n a ≡ true) → (k ≡ n) ⊎ (k < n) → (any_below n a || a n) ≡ true
    by ih (inl e) = or_right (any_below n a) (a n) (ap a (sym e) ∙ h)
    by ih (inr l) = or_left (any_below n a) (a n) (ih l h)

-- which wires stand where, each on a qubit of its own
pub record Apart (f : FlatForm) (on : WireId → Bool) (place : Place) : Type 0 where
  pub apart : (v w : WireId) → v.number < length f.wires → w.number < length f.wires → on v ≡ true → on w ≡ true → place v ≡ place w → v ≡ w

-- the wires that a step names are among them
pub record Holds (f : FlatForm) (on : WireId → Bool) (s : Step) : Type 0 where
  pub all : EachNamed (λ w. (w.number < length f.wires) × (on w ≡ true)) s

-- the value of a qubit is that of its wire
pub spread-at : (f : FlatForm) (on : WireId → Bool) (place : Place) (row : Row) → Apart f on place → (w : WireId) → w.number < length f.wires → on w ≡ true → spread f on place row (place w) ≡ row w.number
spread-at f on place row apart w lt o = by (row w.number) refl
  where
    at : row w.number ≡ false → (k : ℕ) → k < length f.wires → (a b : Bool) → on (wire_id k) ≡ a → (place (wire_id k) == place w) ≡ b → (a && b && row k) ≡ false
    at e k kl false b ea eb = refl
    at e k kl true false ea eb = refl
    at e k kl true true ea eb = let same = apart.apart (wire_id k) w kl lt ea o (eqb-true (place (wire_id k)) (place w) eb) in ap (λ (v : WireId). row v.number) same ∙ e

    by : (b : Bool) → row w.number ≡ b → any_below (length f.wires) (λ k. on (wire_id k) && (place (wire_id k) == place w) && row k) ≡ b
    by true e = any_some (length f.wires) (λ k. on (wire_id k) && (place (wire_id k) == place w) && row k) w.number lt (ap₂ ◌&&◌ (ap₂ ◌&&◌ o (eq-eqb (place w) (place w) refl)) e)
    by false e = any_none (length f.wires) (λ k. on (wire_id k) && (place (wire_id k) == place w) && row k) (λ k kl. at e k kl (on (wire_id k)) (place (wire_id k) == place w) refl refl)

off : (a b : Bool) → (a && b && false) ≡ false
off true true = refl
off true false = refl
off false b = refl

-- a wire whose value is 0 may come or go
pub spread_same : (f : FlatForm) (on on' : WireId → Bool) (place place' : Place) (row : Row) → ((v : WireId) → v.number < length f.wires → row v.number ≡ true → (on v ≡ on' v) × (on v ≡ true → place v ≡ place' v)) → spread f on place row ≡ spread f on' place' row
spread_same f on on' place place' row h = fun_ext (λ j. any_ext (length f.wires) _ _ (λ v vl. at j v vl (row v) refl (on (wire_id v)) refl))
  where
    at : (j v : ℕ) → v < length f.wires → (r : Bool) → row v ≡ r → (o : Bool) → on (wire_id v) ≡ o → (on (wire_id v) && (place (wire_id v) == j) && row v) ≡ (on' (wire_id v) && (place' (wire_id v) == j) && row v)
    at j v vl false e o eo =
        ap (λ x. on (wire_id v) && (place (wire_id v) == j) && x) e ∙ (off (on (wire_id v)) (place (wire_id v) == j) ∙ (sym (off (on' (wire_id v)) (place' (wire_id v) == j)) ∙ sym (ap (λ x. on' (wire_id v) && (place' (wire_id v) == j) && x) e)))
    at j v vl true e true eo = let g = h (wire_id v) vl e in ap₂ (λ x y. x && (y == j) && row v) g.0 (g.1 eo)
    at j v vl true e false eo =
        let g = h (wire_id v) vl e in
        ap (λ x. x && (place (wire_id v) == j) && row v) eo ∙ sym (ap (λ x. x && (place' (wire_id v) == j) && row v) (sym g.0 ∙ eo))

module _ (f : FlatForm) (on : WireId → Bool) (place : Place) (row : Row) (apart : Apart f on place) where
  abbrev Q : Row
  Q = spread f on place row

  value : (w : WireId) → (w.number < length f.wires) × (on w ≡ true) → Q (place w) ≡ row w.number
  value w h = spread-at f on place row apart w h.0 h.1

  holds_on : (a : Option Lit) → IfSome (wire_of a) (λ w. (w.number < length f.wires) × (on w ≡ true)) → holds Q (option_map (lit_on place) a) ≡ holds row a
  holds_on None h = refl
  holds_on (Some l) h = ap (λ b. beq b l.positive) (value l.wire h)

  new_on : (s : Step) (k : Bool) → Holds f on s → new_value (on_qubits place s) k Q ≡ new_value s k row
  new_on (X t a b) k h = ap₂ flipped (value t h.all.0) (ap₂ ◌&&◌ (holds_on a h.all.1.0) (holds_on b h.all.1.1))
  new_on (H t a) k h = ap₂ (λ x y. cond x k y) (holds_on a h.all.1.0) (value t h.all.0)
  new_on (P e a) k h = refl
  new_on (M w n) k h = refl

  pub possible_on : (s : Step) (k : Bool) → Holds f on s → is_possible (on_qubits place s) k Q ≡ is_possible s k row
  possible_on (X t a b) k h = refl
  possible_on (H t a) k h = ap₂ (λ x y. x || beq k y) (holds_on a h.all.1.0) (value t h.all.0)
  possible_on (P e a) k h = refl
  possible_on (M w n) k h = refl

  pub agrees_on : (outcome : ℕ → Bool) (s : Step) → Holds f on s → agrees outcome (on_qubits place s) Q ≡ agrees outcome s row
  agrees_on outcome (X t a b) h = refl
  agrees_on outcome (H t a) h = refl
  agrees_on outcome (P e a) h = refl
  agrees_on outcome (M w n) h = ap (λ b. beq b (outcome n)) (value w h.all.0)

  pub halvings_on : (s : Step) → Holds f on s → halvings (on_qubits place s) Q ≡ halvings s row
  halvings_on (X t a b) h = refl
  halvings_on (H t a) h = ap (λ b. cond b 1 0) (holds_on a h.all.1.0)
  halvings_on (P e a) h = refl
  halvings_on (M w n) h = refl

  pub eighths_on : (s : Step) (k : Bool) → Holds f on s → eighths (on_qubits place s) k Q ≡ eighths s k row
  eighths_on (X t a b) k h = refl
  eighths_on (H t a) k h = ap₂ (λ x y. cond (x && (y && k)) 4 0) (holds_on a h.all.1.0) (value t h.all.0)
  eighths_on (P e a) k h = ap (λ b. cond b e 0) (holds_on (Some a) h.all.1.0)
  eighths_on (M w n) k h = refl

  -- the target's qubit
  target_on : (s : Step) (v : WireId) → changes v s ≡ true → changes (wire_id (place v)) (on_qubits place s) ≡ true
  target_on (X t a b) v h = eq-eqb (place t) (place v) (ap place (same_wire_is t v h))
  target_on (H t a) v h = eq-eqb (place t) (place v) (ap place (same_wire_is t v h))
  target_on (P e a) v h = h
  target_on (M w n) v h = h

  target_of : (s : Step) (j : ℕ) → changes (wire_id j) (on_qubits place s) ≡ true → (v : WireId) × (changes v s ≡ true) × (j ≡ place v)
  target_of (X t a b) j h = (t, same_wire-refl t, sym (eqb-true (place t) j h))
  target_of (H t a) j h = (t, same_wire-refl t, sym (eqb-true (place t) j h))
  target_of (P e a) j h = absurd (cc)
  target_of (M w n) j h = absurd (cc)

  changed_held : (s : Step) (v : WireId) → changes v s ≡ true → Holds f on s → (v.number < length f.wires) × (on v ≡ true)
  changed_held s v c h = subst (λ (o : Option WireId). IfSome o (λ w. (w.number < length f.wires) × (on w ≡ true))) (main_of_changed s v c) h.all.0

  -- the row of qubits after the step
  pub next_on : (s : Step) (k : Bool) → Holds f on s → next (on_qubits place s) k Q ≡ spread f on place (next s k row)
  next_on s k h = fun_ext (λ j. by j (changes (wire_id j) (on_qubits place s)) refl)
    where
      gone : (a x y : Bool) → (a && false && x) ≡ (a && false && y)
      gone true x y = refl
      gone false x y = refl

      by : (j : ℕ) (b : Bool) → changes (wire_id j) (on_qubits place s) ≡ b → cond b (new_value (on_qubits place s) k Q) (Q j) ≡ spread f on place (next s k row) j
      by j true e =
          let g = target_of s j e in
          let w = changed_held s g.0 g.1 h in
          new_on s k h
          ∙ (sym (ap (λ b. cond b (new_value s k row) (row g.0.number)) g.1)
          ∙ (sym (spread-at f on place (next s k row) apart g.0 w.0 w.1) ∙ ap (spread f on place (next s k row)) (sym g.2)))
      by j false e = any_ext (length f.wires) _ _ (λ v vl. at v (changes (wire_id v) s) refl)
        where
          at : (v : ℕ) (b : Bool) → changes (wire_id v) s ≡ b → (on (wire_id v) && (place (wire_id v) == j) && row v) ≡ (on (wire_id v) && (place (wire_id v) == j) && cond b (new_value s k row) (row v))
          at v false t = refl
          at v true t = there (place (wire_id v) == j) refl
            where
              there : (c : Bool) → (place (wire_id v) == j) ≡ c → (on (wire_id v) && c && row v) ≡ (on (wire_id v) && c && new_value s k row)
              there false g = gone (on (wire_id v)) (row v) (new_value s k row)
              there true g =
                  let yes : changes (wire_id j) (on_qubits place s) ≡ true = subst (λ x. changes (wire_id x) (on_qubits place s) ≡ true) (eqb-true (place (wire_id v)) j g) (target_on s (wire_id v) t) in
                  absurd (both_ways _ e yes)

is_h_on : (place : Place) (s : Step) → is_h (on_qubits place s) ≡ is_h s
is_h_on place (X t a b) = refl
is_h_on place (H t a) = refl
is_h_on place (P e a) = refl
is_h_on place (M w n) = refl

pub spread-append : (f : FlatForm) (on : WireId → Bool) (place : Place) (xs ys : List Term) → spread_all f on place xs ++ spread_all f on place ys ≡ spread_all f on place (xs ++ ys)
spread-append f on place [] ys = refl
spread-append f on place (x ∷ xs) ys = ap (λ (z : List Term). spread_term f on place x ∷ z) (spread-append f on place xs ys)

pub same_term : (r r' : Row) (h h' e e' : ℕ) → r ≡ r' → h ≡ h' → e ≡ e' → term r h e ≡ term r' h' e'
same_term r r' h h' e e' x y z = λ i. record { row = x i; halvings = y i; eighths = z i }

-- a step on the qubits makes of a term what the step makes of it on the wires
pub step_on : (f : FlatForm) (on : WireId → Bool) (place : Place) (outcome : ℕ → Bool) (s : Step) (t : Term) → Apart f on place → Holds f on s
    → do_step outcome (on_qubits place s) (spread_term f on place t) ≡ spread_all f on place (do_step outcome s t)
step_on f on place outcome s t apart h =
    ap₂ (λ b x. cond b (branch outcome (on_qubits place s) false (spread_term f on place t) ++ branch outcome (on_qubits place s) true (spread_term f on place t)) x) (is_h_on place s) (one false)
    ∙ by (is_h s)
  where
    if_in : (b : Bool) (x : Term) → cond b (spread_term f on place x ∷ []) [] ≡ spread_all f on place (cond b (x ∷ []) [])
    if_in true x = refl
    if_in false x = refl

    one : (k : Bool) → branch outcome (on_qubits place s) k (spread_term f on place t) ≡ spread_all f on place (branch outcome s k t)
    one k =
        ap₂ (λ b (x : Term). cond b (x ∷ []) [])
        (ap₂ ◌&&◌ (possible_on f on place t.row apart s k h) (agrees_on f on place t.row apart outcome s h))
        (same_term _ _ _ _ _ _ (next_on f on place t.row apart s k h) (ap (λ x. t.halvings + x) (halvings_on f on place t.row apart s h)) (ap (λ x. t.eighths + x) (eighths_on f on place t.row apart s k h)))
        ∙ if_in _ _

    by : (b : Bool) → cond b (branch outcome (on_qubits place s) false (spread_term f on place t) ++ branch outcome (on_qubits place s) true (spread_term f on place t)) (spread_all f on place (branch outcome s false t)) ≡ spread_all f on place (cond b (branch outcome s false t ++ branch outcome s true t) (branch outcome s false t))
    by true = ap₂ ◌++◌ (one false) (one true) ∙ spread-append f on place (branch outcome s false t) (branch outcome s true t)
    by false = refl
