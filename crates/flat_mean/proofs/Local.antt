-- What a step does rests on the values of the wires that it names.
use Rattle.std.proofs.Common.{◌≡◌, ℕ, Bool, true, false, cond, ◌&&◌, ◌||◌, Option, Some, None, [], ◌∷◌, Contains, refl, ap, ap₂, arith}
use Rattle.std.specs.Bool.{beq}
use Rattle.std.proofs.lemmas.List.Elements.{Contains-append_left, Contains-append_right}
use Rattle.flat_core.specs.declared.step.Step.{Step}
use Rattle.flat_core.specs.declared.step.Step.TheVariants.{X, H, P, M}
use Rattle.flat_core.specs.declared.step.Lit.{Lit}
use Rattle.flat_core.specs.declared.step.WireId.{WireId}
use Rattle.flat_core.specs.Label.{changes, used, control_wires}
use Rattle.flat_core.proofs.Labels.{same_wire-refl}
use Rattle.flat_mean.specs.Row.{Row, flipped, holds, is_h, new_value, is_possible, agrees, halvings, eighths}

-- two rows agree on the wires that a step changes and uses
pub record AgreeOn (s : Step) (r r' : Row) : Type 0 where
  pub changed : (w : WireId) → changes w s ≡ true → r w.number ≡ r' w.number
  pub uses : (w : WireId) → Contains (used s) w → r w.number ≡ r' w.number

pub or_right : (a b : Bool) → b ≡ true → (a || b) ≡ true
or_right true b h = refl
or_right false b h = h

pub flipped_twice : (a b : Bool) → flipped (flipped a b) b ≡ a
flipped_twice true true = refl
flipped_twice true false = refl
flipped_twice false true = refl
flipped_twice false false = refl

pub beq_true : (a b : Bool) → beq a b ≡ true → a ≡ b
beq_true true true h = refl
beq_true true false h = cc
beq_true false true h = cc
beq_true false false h = refl

one : (w : WireId) → Contains (w ∷ []) w
one w = (0, omega arith, refl)

holds_same : (r r' : Row) (a : Option Lit) → ((w : WireId) → Contains (control_wires a) w → r w.number ≡ r' w.number) → holds r a ≡ holds r' a
holds_same r r' None h = refl
holds_same r r' (Some l) h = ap (λ b. beq b l.positive) (h l.wire (one l.wire))

-- the controls of an X hold in both rows alike
first_same : (t : WireId) (a b : Option Lit) (r r' : Row) → AgreeOn (X t a b) r r' → holds r a ≡ holds r' a
first_same t a b r r' h = holds_same r r' a (λ w c. h.uses w (Contains-append_left (control_wires a) (control_wires b) w c))

second_same : (t : WireId) (a b : Option Lit) (r r' : Row) → AgreeOn (X t a b) r r' → holds r b ≡ holds r' b
second_same t a b r r' h = holds_same r r' b (λ w c. h.uses w (Contains-append_right (control_wires a) (control_wires b) w c))

control_same : (t : WireId) (a : Option Lit) (r r' : Row) → AgreeOn (H t a) r r' → holds r a ≡ holds r' a
control_same t a r r' h = holds_same r r' a h.uses

pub new_same : (s : Step) (k : Bool) (r r' : Row) → AgreeOn s r r' → new_value s k r ≡ new_value s k r'
new_same (X t a b) k r r' h = ap₂ flipped (h.changed t (same_wire-refl t)) (ap₂ ◌&&◌ (first_same t a b r r' h) (second_same t a b r r' h))
new_same (H t a) k r r' h =
    let e : holds r a ≡ holds r' a = control_same t a r r' h in
    let g : r t.number ≡ r' t.number = h.changed t (same_wire-refl t) in
    cc
new_same (P e a) k r r' h = refl
new_same (M w n) k r r' h = refl

pub possible_same : (s : Step) (k : Bool) (r r' : Row) → AgreeOn s r r' → is_possible s k r ≡ is_possible s k r'
possible_same (X t a b) k r r' h = refl
possible_same (H t a) k r r' h = ap₂ (λ x y. x || beq k y) (control_same t a r r' h) (h.changed t (same_wire-refl t))
possible_same (P e a) k r r' h = refl
possible_same (M w n) k r r' h = refl

pub agrees_same : (outcome : ℕ → Bool) (s : Step) (r r' : Row) → AgreeOn s r r' → agrees outcome s r ≡ agrees outcome s r'
agrees_same outcome (X t a b) r r' h = refl
agrees_same outcome (H t a) r r' h = refl
agrees_same outcome (P e a) r r' h = refl
agrees_same outcome (M w n) r r' h = ap (λ b. beq b (outcome n)) (h.uses w (one w))

pub halvings_same : (s : Step) (r r' : Row) → AgreeOn s r r' → halvings s r ≡ halvings s r'
halvings_same (X t a b) r r' h = refl
halvings_same (H t a) r r' h = ap (λ b. cond b 1 0) (control_same t a r r' h)
halvings_same (P e a) r r' h = refl
halvings_same (M w n) r r' h = refl

pub eighths_same : (s : Step) (k : Bool) (r r' : Row) → AgreeOn s r r' → eighths s k r ≡ eighths s k r'
eighths_same (X t a b) k r r' h = refl
eighths_same (H t a) k r r' h = ap₂ (λ x y. cond (x && (y && k)) 4 0) (control_same t a r r' h) (h.changed t (same_wire-refl t))
eighths_same (P e a) k r r' h = ap (λ b. cond b e 0) (holds_same r r' (Some a) h.uses)
eighths_same (M w n) k r r' h = refl

-- only an H step looks at the choice bit
pub new_bit : (s : Step) (k k' : Bool) (r : Row) → is_h s ≡ false → new_value s k r ≡ new_value s k' r
new_bit (X t a b) k k' r h = refl
new_bit (H t a) k k' r h = cc
new_bit (P e a) k k' r h = refl
new_bit (M w n) k k' r h = refl

pub possible_bit : (s : Step) (k k' : Bool) (r : Row) → is_h s ≡ false → is_possible s k r ≡ is_possible s k' r
possible_bit (X t a b) k k' r h = refl
possible_bit (H t a) k k' r h = cc
possible_bit (P e a) k k' r h = refl
possible_bit (M w n) k k' r h = refl

pub eighths_bit : (s : Step) (k k' : Bool) (r : Row) → is_h s ≡ false → eighths s k r ≡ eighths s k' r
eighths_bit (X t a b) k k' r h = refl
eighths_bit (H t a) k k' r h = cc
eighths_bit (P e a) k k' r h = refl
eighths_bit (M w n) k k' r h = refl
