-- What rows keep of what was built before.
use Rattle.std.proofs.Common.{◌≡◌, ℕ, zero, suc, ◌+◌, ◌%◌, ◌<◌, ◌≤◌, Bool, true, false, cond, ◌||◌, ◌==◌, List, [], ◌∷◌, ◌++◌, length, Option, Some, None, refl, ap, ◌∙◌, arith, length-append}
use Rattle.silq_io.specs.declared.limit.OverLimit.{OverLimit}
use Rattle.flat_core.specs.declared.step.Step.{Step}
use Rattle.flat_core.specs.declared.step.Step.TheVariants.{X, H, P, M}
use Rattle.flat_core.specs.declared.step.WireId.{WireId}
use Rattle.flat_core.specs.declared.step.Lit.{Lit}
use Rattle.flat_core.specs.declared.step.End.TheVariants.{Dropped}
use Rattle.flat_core.specs.Form.{WireForm, DraftForm}
use Rattle.flat_core.specs.Label.{wire_id, same_wire}
use Rattle.flat_core.specs.Ends.{measures}
use Rattle.flat_core.specs.Sound.{is_m, count_measures}
use Rattle.flat_core.specs.Drafts.{is_measured, over_by_wire, over_by_step, IsDraft}
use Rattle.flat_core.proofs.Labels.{is_measured-push, count_measures-push, is_measured-none}
use Rattle.bit_arith.specs.declared.operand.Operand.{Operand}
use Rattle.bit_arith.specs.declared.operand.Operand.TheVariants.{Const, Literal}
use Rattle.bit_arith.specs.Built.{Built, Setting, or_later, push, new_wire, new_wires, next_wire, next_wires, wires_from, plus, literals, under}
use Rattle.bit_arith.specs.Rows.{gathered, flip_lits, all_but_last, last_of, flip_if_any, flip, conjunction_of, conjunction, turn_lits, turn, had_under, had, measure}
use Rattle.bit_arith.specs.Calls.{Targets, Safe, AllSafe, IsTarget, AreTargets}

-- wires stay, and a limit that was passed stays the first one
pub record Grows (b e : Built) : Type 0 where
  pub few : length b.draft.wires ≤ length e.draft.wires
  pub stays : (over : OverLimit) → b.over ≡ Some over → e.over ≡ Some over

-- and no wire is measured
pub record XGrows (b e : Built) : Type 0 where
  pub grows : Grows b e
  pub unmeasured : (w : WireId) → is_measured b.draft.steps w ≡ false → is_measured e.draft.steps w ≡ false
  pub outcomes : count_measures e.draft.steps ≡ count_measures b.draft.steps

-- ---- one after another

pub grows_same : (b : Built) → Grows b b
grows_same b = record { few = omega arith; stays = λ over h. h }

pub grows_then : {b m e : Built} → Grows b m → Grows m e → Grows b e
grows_then g h = let p = g.few in let q = h.few in record { few = omega arith; stays = λ over is. h.stays over (g.stays over is) }

pub x_same : (b : Built) → XGrows b b
x_same b = record { grows = grows_same b; unmeasured = λ w h. h; outcomes = refl }

pub x_then : {b m e : Built} → XGrows b m → XGrows m e → XGrows b e
x_then g h = record {
  grows = grows_then g.grows h.grows;
  unmeasured = λ w u. h.unmeasured w (g.unmeasured w u);
  outcomes = h.outcomes ∙ g.outcomes;
}

-- what is within all limits was so before
pub within_before : {b e : Built} → Grows b e → e.over ≡ None → b.over ≡ None
within_before {b} {e} g h = go b.over refl
  where
    go : (o : Option OverLimit) → b.over ≡ o → b.over ≡ None
    go None is = is
    go (Some over) is = let late = g.stays over is in cc

-- ---- wires and steps

later_stays : (o later : Option OverLimit) (over : OverLimit) → o ≡ Some over → or_later o later ≡ Some over
later_stays o later over h = rw h refl

pub push_grows : (at : Setting) (s : Step) (b : Built) → Grows b (push at s b)
push_grows at s b = record { few = omega arith; stays = λ over h. later_stays b.over (over_by_step b.draft s) over h }

measures_none : (w : WireId) (s : Step) → is_m s ≡ false → measures w s ≡ false
measures_none w (X t a c) h = refl
measures_none w (H t a) h = refl
measures_none w (P k a) h = refl
measures_none w (M v n) h = cc

pub push_x : (at : Setting) (s : Step) (b : Built) → is_m s ≡ false → XGrows b (push at s b)
push_x at s b h = record {
  grows = push_grows at s b;
  unmeasured = λ w u. is_measured-push b.draft.steps s w ∙ ap (λ (x : Bool). x || measures w s) u ∙ measures_none w s h;
  outcomes = let e = count_measures-push b.draft.steps s in let e' = rw h at e in omega arith;
}

pub length-new_wire : (b : Built) → length (new_wire b).draft.wires ≡ suc (length b.draft.wires)
length-new_wire b = let new : WireForm = record { input = false; ending = Dropped } in let e = length-append b.draft.wires (new ∷ []) in omega arith

pub new_wire_x : (b : Built) → XGrows b (new_wire b)
new_wire_x b = record {
  grows = record { few = let e = length-new_wire b in omega arith; stays = λ over h. later_stays b.over (over_by_wire b.draft) over h };
  unmeasured = λ w u. u;
  outcomes = refl;
}

pub new_wires_x : (n : ℕ) (b : Built) → XGrows b (new_wires n b)
new_wires_x zero b = x_same b
new_wires_x (suc n) b = x_then (new_wire_x b) (new_wires_x n (new_wire b))

pub length-new_wires : (n : ℕ) (b : Built) → length (new_wires n b).draft.wires ≡ length b.draft.wires + n
length-new_wires zero b = omega arith
length-new_wires (suc n) b = let e = length-new_wires n (new_wire b) in let f = length-new_wire b in omega arith

pub steps-new_wires : (n : ℕ) (b : Built) → (new_wires n b).draft.steps ≡ b.draft.steps
steps-new_wires zero b = refl
steps-new_wires (suc n) b = steps-new_wires n (new_wire b)

-- ---- rows

pub gathered_x : (at : Setting) (a : Lit) (cs : List Lit) (b : Built) → XGrows b (gathered at a cs b).built
gathered_x at a [] b = x_same b
gathered_x at a (c ∷ cs) b =
    x_then (new_wire_x b) (x_then (push_x at (X (next_wire b) (Some a) (Some c)) (new_wire b) refl) (gathered_x at (plus (next_wire b)) cs (push at (X (next_wire b) (Some a) (Some c)) (new_wire b))))

pub flip_lits_x : (at : Setting) (w : WireId) (ls : List Lit) (b : Built) → XGrows b (flip_lits at w ls b)
flip_lits_x at w [] b = push_x at (X w None None) b refl
flip_lits_x at w (a ∷ []) b = push_x at (X w (Some a) None) b refl
flip_lits_x at w (a ∷ c ∷ cs) b =
    let front = gathered at a (all_but_last c cs) b in
    x_then (gathered_x at a (all_but_last c cs) b) (push_x at (X w (Some front.answer) (Some (last_of c cs))) front.built refl)

flip_if_any_x : (at : Setting) (w : WireId) (o : Option (List Lit)) (b : Built) → XGrows b (flip_if_any at w o b)
flip_if_any_x at w None b = x_same b
flip_if_any_x at w (Some ls) b = flip_lits_x at w ls b

pub flip_x : (at : Setting) (w : WireId) (ps : List Operand) (b : Built) → XGrows b (flip at w ps b)
unfolding flip
flip_x at w ps b = flip_if_any_x at w (literals b.draft (under at ps)) b

conjunction_of_x : (at : Setting) (o : Option (List Lit)) (b : Built) → XGrows b (conjunction_of at o b).built
conjunction_of_x at None b = x_same b
conjunction_of_x at (Some []) b = x_same b
conjunction_of_x at (Some (l ∷ ls)) b = gathered_x at l ls b

pub conjunction_x : (at : Setting) (ps : List Operand) (b : Built) → XGrows b (conjunction at ps b).built
unfolding conjunction
conjunction_x at ps b = conjunction_of_x at (literals b.draft ps) b

turn_lits_x : (at : Setting) (k : ℕ) (o : Option (List Lit)) (b : Built) → XGrows b (turn_lits at k o b)
turn_lits_x at k None b = x_same b
turn_lits_x at k (Some []) b =
    x_then (new_wire_x b) (x_then (push_x at (X (next_wire b) None None) (new_wire b) refl) (push_x at (P k (plus (next_wire b))) (push at (X (next_wire b) None None) (new_wire b)) refl))
turn_lits_x at k (Some (l ∷ ls)) b =
    let whole = gathered at l ls b in x_then (gathered_x at l ls b) (push_x at (P k whole.answer) whole.built refl)

cond_x : (t : Bool) (b e : Built) → XGrows b e → XGrows b (cond t b e)
cond_x true b e h = x_same b
cond_x false b e h = h

pub turn_x : (at : Setting) (k : ℕ) (ps : List Operand) (b : Built) → XGrows b (turn at k ps b)
unfolding turn
turn_x at k ps b = cond_x (k % 8 == 0) b (turn_lits at (k % 8) (literals b.draft (under at ps)) b) (turn_lits_x at (k % 8) (literals b.draft (under at ps)) b)

had_under_x : (at : Setting) (o : Option Operand) (w : WireId) (b : Built) → XGrows b (had_under at o w b)
had_under_x at None w b = push_x at (H w None) b refl
had_under_x at (Some (Const true)) w b = push_x at (H w None) b refl
had_under_x at (Some (Const false)) w b = x_same b
had_under_x at (Some (Literal l)) w b = push_x at (H w (Some l)) b refl

pub had_x : (at : Setting) (w : WireId) (b : Built) → XGrows b (had at w b)
unfolding had
had_x at w b = had_under_x at at.condition w b

-- a measure measures its own wire alone
pub measure_grows : (at : Setting) (w : WireId) (b : Built) → Grows b (measure at w b)
unfolding measure
measure_grows at w b = push_grows at (M w (count_measures b.draft.steps)) b

pub measure_outcomes : (at : Setting) (w : WireId) (b : Built) → count_measures (measure at w b).draft.steps ≡ count_measures b.draft.steps + 1
unfolding measure
measure_outcomes at w b = count_measures-push b.draft.steps (M w (count_measures b.draft.steps))

pub measure_others : (at : Setting) (w : WireId) (b : Built) (v : WireId) → same_wire w v ≡ false → is_measured b.draft.steps v ≡ false → is_measured (measure at w b).draft.steps v ≡ false
unfolding measure
measure_others at w b v other u =
    is_measured-push b.draft.steps (M w (count_measures b.draft.steps)) v ∙ ap (λ (x : Bool). x || same_wire w v) u ∙ other

-- ---- what is safe stays so

pub safe_more : (n m : ℕ) (T : Targets) (p : Operand) → n ≤ m → Safe n T p → Safe m T p
safe_more n m T (Const x) more h = tt
safe_more n m T (Literal l) more h = (omega (arith, h.0), h.1)

pub all_safe_more : (n m : ℕ) (T : Targets) (ps : List Operand) → n ≤ m → AllSafe n T ps → AllSafe m T ps
all_safe_more n m T [] more h = tt
all_safe_more n m T (p ∷ ps) more h = (safe_more n m T p more h.0, all_safe_more n m T ps more h.1)

-- from fewer targets
pub safe_fewer : (n : ℕ) (T S : Targets) (p : Operand) → ((w : WireId) → w.number < n → T w ≡ false → S w ≡ false) → Safe n T p → Safe n S p
safe_fewer n T S (Const x) fewer h = tt
safe_fewer n T S (Literal l) fewer h = (h.0, fewer l.wire h.0 h.1)

pub all_safe_fewer : (n : ℕ) (T S : Targets) (ps : List Operand) → ((w : WireId) → w.number < n → T w ≡ false → S w ≡ false) → AllSafe n T ps → AllSafe n S ps
all_safe_fewer n T S [] fewer h = tt
all_safe_fewer n T S (p ∷ ps) fewer h = (safe_fewer n T S p fewer h.0, all_safe_fewer n T S ps fewer h.1)

pub all_safe_append : (n : ℕ) (T : Targets) (ps qs : List Operand) → AllSafe n T ps → AllSafe n T qs → AllSafe n T (ps ++ qs)
all_safe_append n T [] qs h k = k
all_safe_append n T (p ∷ ps) qs h k = (h.0, all_safe_append n T ps qs h.1 k)

pub all_safe_front : (n : ℕ) (T : Targets) (ps qs : List Operand) → AllSafe n T (ps ++ qs) → AllSafe n T ps
all_safe_front n T [] qs h = tt
all_safe_front n T (p ∷ ps) qs h = (h.0, all_safe_front n T ps qs h.1)

pub all_safe_back : (n : ℕ) (T : Targets) (ps qs : List Operand) → AllSafe n T (ps ++ qs) → AllSafe n T qs
all_safe_back n T [] qs h = h
all_safe_back n T (p ∷ ps) qs h = all_safe_back n T ps qs h.1

-- ---- targets stay so

pub target_more : {b e : Built} → XGrows b e → (w : WireId) → IsTarget b.draft w → IsTarget e.draft w
target_more g w h = let f = g.grows.few in (omega (arith, h.0), g.unmeasured w h.1)

pub targets_more : {b e : Built} → XGrows b e → (ws : List WireId) → AreTargets b.draft ws → AreTargets e.draft ws
targets_more g [] h = tt
targets_more g (w ∷ ws) h = (target_more g w h.0, targets_more g ws h.1)

-- ---- fresh wires are targets

pub fresh_unmeasured : (d : DraftForm) → IsDraft d → (w : WireId) → length d.wires ≤ w.number → is_measured d.steps w ≡ false
fresh_unmeasured d ok w past = is_measured-none d.steps (length d.wires) (λ s h. (ok.steps_follow s h).there) w past

pub fresh_target : (b : Built) → IsDraft b.draft → IsTarget (new_wire b).draft (next_wire b)
fresh_target b ok = (let e = length-new_wire b in omega arith, fresh_unmeasured b.draft ok (next_wire b) (omega arith))

wires_from_targets : (d : DraftForm) (first n : ℕ) → first + n ≤ length d.wires → ((w : WireId) → first ≤ w.number → is_measured d.steps w ≡ false) → AreTargets d (wires_from first n)
wires_from_targets d first zero there free = tt
wires_from_targets d first (suc n) there free =
    ((omega arith, free (wire_id first) (omega arith)), wires_from_targets d (suc first) n (omega arith) (λ w l. free w (omega arith)))

pub fresh_targets : (n : ℕ) (b : Built) → IsDraft b.draft → AreTargets (new_wires n b).draft (next_wires n b)
fresh_targets n b ok =
    let longer = length-new_wires n b in
    wires_from_targets (new_wires n b).draft (length b.draft.wires) n (omega arith)
    (λ w l. ap (λ (steps : List Step). is_measured steps w) (steps-new_wires n b) ∙ fresh_unmeasured b.draft ok w l)

-- a safe operand is on no fresh wire
pub safe_fresh : (n : ℕ) (T : Targets) (p : Operand) (w : WireId) → n ≤ w.number → Safe n T p → Safe n (same_wire w) p
safe_fresh n T (Const x) w past h = tt
safe_fresh n T (Literal l) w past h = (h.0, fresh_differs l.wire.number w.number n h.0 past)
  where
    fresh_differs : (a c n : ℕ) → a < n → n ≤ c → (c == a) ≡ false
    fresh_differs a c n less past = grind arith

pub all_safe_fresh : (n : ℕ) (T : Targets) (ps : List Operand) (w : WireId) → n ≤ w.number → AllSafe n T ps → AllSafe n (same_wire w) ps
all_safe_fresh n T [] w past h = tt
all_safe_fresh n T (p ∷ ps) w past h = (safe_fresh n T p w past h.0, all_safe_fresh n T ps w past h.1)
