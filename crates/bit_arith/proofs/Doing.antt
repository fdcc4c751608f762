-- What rows do, one after another.
use Rattle.std.proofs.Common.{◌≡◌, ℕ, zero, suc, ◌+◌, ◌≤◌, ◌<◌, ◌==◌, Bool, true, false, not, ◌&&◌, List, [], ◌∷◌, ◌++◌, length, get_or, refl, sym, ap, ap₂, ◌∙◌, subst, arith, append_assoc, append-nil, length-append, inl, inr}
use Rattle.std.proofs.lemmas.Bool.{eqb-true, eq-eqb, cases_lt}
use Rattle.std.proofs.lemmas.List.{get_or_past, get_or_append_left}
use Rattle.flat_core.specs.declared.step.Step.{Step}
use Rattle.flat_core.specs.declared.step.WireId.{WireId}
use Rattle.flat_core.specs.declared.step.End.TheVariants.{Dropped}
use Rattle.flat_core.specs.Form.{DraftForm, WireForm}
use Rattle.flat_core.specs.Label.{label_after, wire_in, no_wire}
use Rattle.flat_mean.specs.Row.{Row}
use Rattle.bit_arith.specs.Built.{Setting, blank, under}
use Rattle.bit_arith.specs.Calls.{Targets, AllSafe}
use Rattle.bit_arith.specs.Values.{forced, Clean}
use Rattle.bit_arith.specs.Does.{after, dropped_wires, Fresh, Grows, Does}
use Rattle.bit_arith.proofs.Steps.{AllX-append, after-append, after_kept, label-none, label-left, label-right, Agree, all_same}

-- ---- wires and steps that come

pub dropped-append : (m n : ℕ) → dropped_wires m ++ dropped_wires n ≡ dropped_wires (m + n)
dropped-append zero n = ap dropped_wires (sym (zero_plus n))
  where
    zero_plus : (n : ℕ) → 0 + n ≡ n
    zero_plus n = omega arith
dropped-append (suc m) n = ap (λ ws. record { input = false; ending = Dropped } ∷ ws) (dropped-append m n) ∙ ap dropped_wires (suc_plus m n)
  where
    suc_plus : (m n : ℕ) → suc (m + n) ≡ suc m + n
    suc_plus m n = omega arith

pub length-dropped : (n : ℕ) → length (dropped_wires n) ≡ n
length-dropped zero = refl
length-dropped (suc n) = ap suc (length-dropped n)

pub grown : {d e : DraftForm} {T : Targets} {new : List Step} → Grows d e T new → length d.wires ≤ length e.wires
grown {d = d} {e = e} g =
    let a : length e.wires ≡ length d.wires + length (dropped_wires g.more) = ap length g.wires ∙ length-append d.wires (dropped_wires g.more) in
    omega (arith, a)

pub grows_none : (d : DraftForm) (T : Targets) → Grows d d T []
grows_none d T = record {
  more = 0;
  wires = sym (append-nil d.wires);
  steps = sym (append-nil d.steps);
  spares = λ w lt t. refl;
  above = λ w le. refl;
}

pub grows_then : {d e f : DraftForm} {T S : Targets} (U : Targets) {xs ys : List Step} → Grows d e T xs → Grows e f S ys → ((w : WireId) → w.number < length d.wires → U w ≡ false → (T w ≡ false) × (S w ≡ false)) → Grows d f U (xs ++ ys)
grows_then {d = d} {e = e} {f = f} {T = T} {S = S} U {xs = xs} {ys = ys} q r off = record {
  more = q.more + r.more;
  wires = r.wires ∙ (ap (λ ws. ws ++ dropped_wires r.more) q.wires ∙ (append_assoc d.wires (dropped_wires q.more) (dropped_wires r.more) ∙ ap (λ ws. d.wires ++ ws) (dropped-append q.more r.more)));
  steps = r.steps ∙ (ap (λ ss. ss ++ ys) q.steps ∙ append_assoc d.steps xs ys);
  spares = λ w lt t.
      let (a, b) = off w lt t in
      let up : length d.wires ≤ length e.wires = grown q in
      label-none xs ys w (q.spares w lt a) (r.spares w (omega (arith, up, lt)) b);
  above = λ w le.
      let up : length e.wires ≤ length f.wires = grown r in
      label-none xs ys w (q.above w (omega (arith, up, le))) (r.above w le);
}

pub grows_fresh : {d e : DraftForm} {T : Targets} {new : List Step} → Grows d e T new → Fresh d → Fresh e
grows_fresh {d = d} {e = e} {new = new} g f w le =
    let up : length d.wires ≤ length e.wires = grown g in
    ap (λ ss. label_after ss w) g.steps ∙ label-none d.steps new w (f w (omega (arith, up, le))) (g.above w le)

-- ---- blank wires

not_and : (a b : Bool) → not a && b ≡ true → (a ≡ false) × (b ≡ true)
not_and true b h = cc
not_and false b h = (refl, h)

input_before : (ws : List WireForm) (n k : ℕ) → (get_or (ws ++ dropped_wires n) k no_wire).input ≡ false → (get_or ws k no_wire).input ≡ false
input_before ws n k h = elim (cases_lt k (length ws)) [
  | inl l ↦ ap (λ (r : WireForm). r.input) (sym (get_or_append_left ws (dropped_wires n) no_wire k l)) ∙ h
  | inr l ↦ ap (λ (r : WireForm). r.input) (get_or_past ws k no_wire l)
]

pub blank_before : {d e : DraftForm} {T : Targets} {new : List Step} → Grows d e T new → (w : WireId) → blank e w ≡ true → (blank d w ≡ true) × (label_after new w ≡ 0)
blank_before {d = d} {e = e} {new = new} g w b =
    let (i, l) = not_and (wire_in e.wires w).input (label_after e.steps w == 0) b in
    let i' : (wire_in d.wires w).input ≡ false = input_before d.wires g.more w.number (sym (ap (λ ws. (wire_in ws w).input) g.wires) ∙ i) in
    let l' : label_after (d.steps ++ new) w ≡ 0 = sym (ap (λ ss. label_after ss w) g.steps) ∙ eqb-true (label_after e.steps w) 0 l in
    (ap₂ (λ x y. not x && y) i' (eq-eqb (label_after d.steps w) 0 (label-left d.steps new w l')), label-right d.steps new w l')

pub grows_clean : {d e : DraftForm} {T : Targets} {new : List Step} → Grows d e T new → (v : Row) → Clean d v → Clean e (after new v)
grows_clean {d = d} {e = e} {new = new} g v c w b =
    let (was, un) = blank_before g w b in
    after_kept new v w un ∙ c w was

-- blank wires that are not made are 0
pub clean_above : (d : DraftForm) (v : Row) → Fresh d → Clean d v → (w : WireId) → length d.wires ≤ w.number → v w.number ≡ false
clean_above d v f c w le =
    c w (ap₂ (λ (x : WireForm) y. not x.input && y) (get_or_past d.wires w.number no_wire le) (eq-eqb (label_after d.steps w) 0 (f w le)))

-- ---- rows one after another

abbrev pub Guards : Setting → ℕ → Targets → Type 0
Guards at n T = AllSafe n T (under at [])

pub does_fresh : {at : Setting} {d e : DraftForm} {T : Targets} {Q : Row → Row → Type 0} → Does at d e T Q → Fresh d → Fresh e
does_fresh r f = grows_fresh r.grows f

pub does_grown : {at : Setting} {d e : DraftForm} {T : Targets} {Q : Row → Row → Type 0} → Does at d e T Q → length d.wires ≤ length e.wires
does_grown r = grown r.grows

pub grows_agree : {d e : DraftForm} {T : Targets} {new : List Step} → Grows d e T new → (v : Row) → Agree (length d.wires) T (after new v) v
grows_agree {new = new} g v w lt t = after_kept new v w (g.spares w lt t)

pub does_forced : {at : Setting} {d e : DraftForm} {T : Targets} {Q : Row → Row → Type 0} (r : Does at d e T Q) (v : Row) → Guards at (length d.wires) T → forced at (after r.new v) ≡ forced at v
does_forced {at = at} {d = d} {T = T} r v g = all_same (length d.wires) T (after r.new v) v (under at []) g (grows_agree r.grows v)

-- what holds between the rows before and after two rows of steps
pub record Then (d e : DraftForm) (T S : Targets) (Q R : Row → Row → Type 0) (v u : Row) : Type 0 where
  pub mid : Row
  pub first : Q v mid
  pub second : R mid u
  pub kept : Agree (length d.wires) T mid v
  pub stays : Agree (length e.wires) S u mid
  pub clean : Clean e mid

pub does_then : {at : Setting} {d e f : DraftForm} {T S : Targets} (U : Targets) {Q R : Row → Row → Type 0} → Does at d e T Q → Does at e f S R → Guards at (length d.wires) T → ((w : WireId) → w.number < length d.wires → U w ≡ false → (T w ≡ false) × (S w ≡ false)) → Does at d f U (Then d e T S Q R)
does_then {at = at} {d = d} {e = e} {f = f} {T = T} {S = S} U {Q = Q} {R = R} q r g off = record {
  new = q.new ++ r.new;
  grows = grows_then U q.grows r.grows off;
  all_x = AllX-append q.new r.new q.all_x r.all_x;
  still = λ v c no.
      let same : after q.new v ≡ v = q.still v c no in
      let c' : Clean e (after q.new v) = grows_clean q.grows v c in
      after-append q.new r.new v ∙ (r.still (after q.new v) c' (does_forced q v g ∙ no) ∙ same);
  gives = λ v c on.
      let c' : Clean e (after q.new v) = grows_clean q.grows v c in
      let both : Then d e T S Q R v (after r.new (after q.new v)) = record {
        mid = after q.new v;
        first = q.gives v c on;
        second = r.gives (after q.new v) c' (does_forced q v g ∙ on);
        kept = grows_agree q.grows v;
        stays = grows_agree r.grows (after q.new v);
        clean = c';
      } in
      subst (λ u. Then d e T S Q R v u) (sym (after-append q.new r.new v)) both;
}

pub does_none : (at : Setting) (d : DraftForm) (T : Targets) → Does at d d T (λ v u. u ≡ v)
does_none at d T = record {
  new = [];
  grows = grows_none d T;
  all_x = tt;
  still = λ v c no. refl;
  gives = λ v c yes. refl;
}

pub does_weak : {at : Setting} {d e : DraftForm} {T : Targets} {Q R : Row → Row → Type 0} (r : Does at d e T Q) → ((v u : Row) → Clean d v → forced at v ≡ true → Agree (length d.wires) T u v → Clean e u → Q v u → R v u) → Does at d e T R
does_weak r h = record {
  new = r.new;
  grows = r.grows;
  all_x = r.all_x;
  still = r.still;
  gives = λ v c yes. h v (after r.new v) c yes (grows_agree r.grows v) (grows_clean r.grows v c) (r.gives v c yes);
}
