-- Within all limits the rows of flips and turns make a draft of a flat form.
use Rattle.std.proofs.Common.{◌≡◌, ℕ, zero, suc, ◌+◌, ◌%◌, ◌≤◌, ◌<◌, ltb, Bool, true, false, cond, ◌==◌, List, [], ◌∷◌, ◌++◌, length, Option, Some, None, IfSome, refl, sym, ap, ◌∙◌, subst, arith, append-nil}
use Rattle.std.proofs.lemmas.Bool.{eqb-false, false_from_ne_true, ltb-true}
use Rattle.silq_io.specs.declared.limit.OverLimit.{OverLimit}
use Rattle.flat_core.specs.declared.step.Step.{Step}
use Rattle.flat_core.specs.declared.step.Step.TheVariants as steps
use Rattle.flat_core.specs.declared.step.WireId.{WireId}
use Rattle.flat_core.specs.declared.step.Lit.{Lit}
use Rattle.flat_core.specs.Form.{DraftForm}
use Rattle.flat_core.specs.Label.{same_wire, wire_id}
use Rattle.flat_core.specs.Sound.{most_steps, most_wires, is_m}
use Rattle.flat_core.specs.Drafts.{with_wire, over_by_wire, over_by_step, is_measured, IsNextStep, IsDraft}
use Rattle.flat_core.proofs.Drafting.{draft_wire, draft_step}
use Rattle.bit_arith.specs.declared.operand.Operand.{Operand}
use Rattle.bit_arith.specs.declared.operand.Operand.TheVariants.{Const, Literal}
use Rattle.bit_arith.specs.Built.{Built, Setting, or_later, push, new_wire, new_wires, next_wire, next_wires, wires_from, plus, literals, under}
use Rattle.bit_arith.specs.Rows.{gathered, all_but_last, last_of, flip_lits, flip_if_any, flip, turn_lits, turn, had_under, had, flip_by, flip_up, flip_down}
use Rattle.bit_arith.specs.Calls.{Targets, no_target, among, AllSafe, IsTarget, AreTargets, WasRead}
use Rattle.bit_arith.specs.Fits.{LitsFit}
use Rattle.bit_arith.proofs.Grows.{XGrows, length-new_wire, length-new_wires, steps-new_wires, gathered_x, flip_x, target_more, targets_more, all_safe_more, all_safe_fewer}
use Rattle.bit_arith.proofs.Keeps.{flip_by_x, flip_down_x}
use Rattle.bit_arith.proofs.Fits.{next_flip, next_flip_by, next_flip_both, next_had, next_turn, made_fits, fold_next, fold_fits, gathered_fits, literals_fit, fits_front, fits_untargeted}
use Rattle.bit_arith.proofs.Steps.{clash, apart_above, or_false}
use Rattle.bit_arith.proofs.Listed.{same_wire_swap}
use Rattle.bit_arith.proofs.Safe.{under_safe}
use Rattle.flat_laws.proofs.EndsKept.{Ended, ended_wire, ended_step, inside}

-- what is built keeps how wires end, and is a draft as long as it is within all limits
pub record Sound (b : Built) : Type 0 where
  pub ended : Ended b.draft
  pub draft : b.over ≡ None → IsDraft b.draft

-- ---- a wire and a step more

pub both_none : (o p : Option OverLimit) → or_later o p ≡ None → (o ≡ None) × (p ≡ None)
both_none None p h = (refl, h)
both_none (Some x) p h = absurd cc

pub some_none : {A : Type 0} (x : OverLimit) → Some x ≡ None → A
some_none x e = absurd cc

pub limit_kept : (n m : ℕ) (x : OverLimit) → cond (ltb n m) None (Some x) ≡ None → n < m
limit_kept n m x h = pick (ltb n m) refl h
  where
    pick : (c : Bool) → ltb n m ≡ c → cond c None (Some x) ≡ None → n < m
    pick true e h = ltb-true n m e
    pick false e h = some_none x h

step_room : (d : DraftForm) (t : Step) → is_m t ≡ false → over_by_step d t ≡ None → length d.steps < most_steps
step_room d (steps.X w a c) m h = limit_kept (length d.steps) most_steps _ h
step_room d (steps.H w a) m h = limit_kept (length d.steps) most_steps _ h
step_room d (steps.P k a) m h = limit_kept (length d.steps) most_steps _ h
step_room d (steps.M w n) m h = absurd (clash (sym m))

pub sound_wire : (i : Bool) (b : Built) → Sound b → Sound (record { draft = with_wire b.draft i; over = or_later b.over (over_by_wire b.draft) })
sound_wire i b s = record {
  ended = ended_wire b.draft i s.ended;
  draft = λ h.
      let (a, c) = both_none b.over (over_by_wire b.draft) h in
      draft_wire b.draft i (s.draft a) (limit_kept (length b.draft.wires) most_wires _ c);
}

pub sound_new : (b : Built) → Sound b → Sound (new_wire b)
sound_new b s = sound_wire false b s

pub sound_step : (at : Setting) (t : Step) (b : Built) → is_m t ≡ false → IsNextStep b.draft t → Sound b → Sound (push at t b)
sound_step at t b m next s = record {
  ended = ended_step b.draft t at.line m s.ended;
  draft = λ h.
      let (a, c) = both_none b.over (over_by_step b.draft t) h in
      draft_step b.draft t at.line (s.draft a) next (λ e. absurd (clash (sym m ∙ e))) (step_room b.draft t m c);
}

pub sound_wires : (n : ℕ) (b : Built) → Sound b → Sound (new_wires n b)
sound_wires zero b s = s
sound_wires (suc n) b s = sound_wires n (new_wire b) (sound_new b s)

-- ---- new wires are targets

pub free_new : (b : Built) → Sound b → (w : WireId) → length b.draft.wires ≤ w.number → is_measured b.draft.steps w ≡ false
free_new b s w le = false_from_ne_true (is_measured b.draft.steps w) (λ m. let lt = inside b.draft w (s.ended.measured w m) in no lt le)
  where
    no : {a c : ℕ} → a < c → c ≤ a → ⊥
    no lt le = absurd (omega (arith, lt, le))

pub new_target : (b : Built) → Sound b → IsTarget (new_wire b).draft (next_wire b)
new_target b s = (let e = length-new_wire b in omega (arith, e), free_new b s (next_wire b) (omega arith))

from_targets : (d : DraftForm) (first n : ℕ) → first + n ≤ length d.wires → ((w : WireId) → first ≤ w.number → is_measured d.steps w ≡ false) → AreTargets d (wires_from first n)
from_targets d first zero le free = tt
from_targets d first (suc n) le free = ((omega (arith, le), free (wire_id first) (omega arith)), from_targets d (suc first) n (omega (arith, le)) (λ w l. free w (omega (arith, l))))

pub new_targets : (n : ℕ) (b : Built) → Sound b → AreTargets (new_wires n b).draft (next_wires n b)
new_targets n b s =
    let longer = length-new_wires n b in
    from_targets (new_wires n b).draft (length b.draft.wires) n (omega (arith, longer)) (λ w l. ap (λ ss. is_measured ss w) (steps-new_wires n b) ∙ free_new b s w l)

-- ---- conjunctions, flips, phases

pub gathered_sound : (at : Setting) (a : Lit) (cs : List Lit) (b : Built) → LitsFit b.draft no_target (a ∷ cs) → Sound b → Sound (gathered at a cs b).built
gathered_sound at a [] b f s = s
gathered_sound at a (c ∷ cs) b f s =
    let b1 : Built = new_wire b in
    let t : Step = steps.X (next_wire b) (Some a) (Some c) in
    gathered_sound at (plus (next_wire b)) cs (push at t b1) (fold_fits at no_target b a c cs refl f)
    (sound_step at t b1 refl (next_flip_both b1.draft (next_wire b) a c (new_target b s) (fold_next no_target b a c cs f)) (sound_new b s))

ends_last : (c : Lit) (cs : List Lit) → c ∷ cs ≡ all_but_last c cs ++ last_of c cs ∷ []
ends_last c [] = refl
ends_last c (d ∷ ds) = ap (λ ls. c ∷ ls) (ends_last d ds)

flip_lits_sound : (at : Setting) (w : WireId) (ls : List Lit) (b : Built) → IsTarget b.draft w → LitsFit b.draft (same_wire w) ls → Sound b → Sound (flip_lits at w ls b)
flip_lits_sound at w [] b t f s = sound_step at (steps.X w None None) b refl (next_flip b.draft w t) s
flip_lits_sound at w (a ∷ []) b t f s = sound_step at (steps.X w (Some a) None) b refl (next_flip_by b.draft w a t f.0) s
flip_lits_sound at w (a ∷ c ∷ cs) b t f s =
    let m : List Lit = all_but_last c cs in
    let l : Lit = last_of c cs in
    let h : LitsFit b.draft (same_wire w) (a ∷ (m ++ l ∷ [])) = subst (λ xs. LitsFit b.draft (same_wire w) (a ∷ xs)) (ends_last c cs) f in
    let g : LitsFit b.draft no_target (a ∷ m) = fits_untargeted b.draft (same_wire w) (a ∷ m) (fits_front b.draft (same_wire w) (a ∷ m) (l ∷ []) h) in
    let front = gathered at a m b in
    let fits : LitsFit front.built.draft (same_wire w) (front.answer ∷ l ∷ []) =
    gathered_fits at (same_wire w) a m (l ∷ []) b (λ v past. let lt = t.0 in apart_above w.number v.number (omega (arith, lt, past))) h in
    sound_step at (steps.X w (Some front.answer) (Some l)) front.built refl (next_flip_both front.built.draft w front.answer l (target_more (gathered_x at a m b) w t) fits) (gathered_sound at a m b g s)

flip_if_any_sound : (at : Setting) (w : WireId) (o : Option (List Lit)) (b : Built) → IsTarget b.draft w → IfSome o (LitsFit b.draft (same_wire w)) → Sound b → Sound (flip_if_any at w o b)
flip_if_any_sound at w None b t f s = s
flip_if_any_sound at w (Some ls) b t f s = flip_lits_sound at w ls b t f s

pub flip_sound : (at : Setting) (w : WireId) (ps : List Operand) (b : Built) → IsTarget b.draft w → AllSafe (length b.draft.wires) (same_wire w) (under at ps) → Sound b → Sound (flip at w ps b)
unfolding flip
flip_sound at w ps b t f s = flip_if_any_sound at w (literals b.draft (under at ps)) b t (literals_fit b.draft (same_wire w) (under at ps) f) s

turn_lits_sound : (at : Setting) (k : ℕ) (o : Option (List Lit)) (b : Built) → 0 < k → k < 8 → IfSome o (LitsFit b.draft no_target) → Sound b → Sound (turn_lits at k o b)
turn_lits_sound at k None b low high f s = s
turn_lits_sound at k (Some []) b low high f s =
    let b1 : Built = new_wire b in
    let t : Step = steps.X (next_wire b) None None in
    let b2 : Built = push at t b1 in
    sound_step at (steps.P k (plus (next_wire b))) b2 refl (next_turn b2.draft k (plus (next_wire b)) low high (made_fits at no_target b None None refl))
    (sound_step at t b1 refl (next_flip b1.draft (next_wire b) (new_target b s)) (sound_new b s))
turn_lits_sound at k (Some (l ∷ ls)) b low high f s =
    let whole = gathered at l ls b in
    let fits = gathered_fits at no_target l ls [] b (λ w past. refl) (subst (λ xs. LitsFit b.draft no_target (l ∷ xs)) (sym (append-nil ls)) f) in
    sound_step at (steps.P k whole.answer) whole.built refl (next_turn whole.built.draft k whole.answer low high fits.0) (gathered_sound at l ls b f s)

pub turn_sound : (at : Setting) (k : ℕ) (ps : List Operand) (b : Built) → AllSafe (length b.draft.wires) no_target (under at ps) → Sound b → Sound (turn at k ps b)
unfolding turn
turn_sound at k ps b f s = pick (k % 8 == 0) refl
  where
    positive : (n : ℕ) → (n == 0) ≡ false → 0 < n
    positive n h = let ne = eqb-false n 0 h in omega (arith, ne)

    small : (k : ℕ) → k % 8 < 8
    small k = omega arith

    pick : (c : Bool) → (k % 8 == 0) ≡ c → Sound (cond c b (turn_lits at (k % 8) (literals b.draft (under at ps)) b))
    pick true e = s
    pick false e = turn_lits_sound at (k % 8) (literals b.draft (under at ps)) b (positive (k % 8) e) (small k) (literals_fit b.draft no_target (under at ps) f) s

had_under_sound : (at : Setting) (o : Option Operand) (w : WireId) (b : Built) → IsTarget b.draft w → AllSafe (length b.draft.wires) (same_wire w) (under (record { line = at.line; condition = o }) []) → WasRead b.draft o → Sound b → Sound (had_under at o w b)
had_under_sound at None w b t f r s = sound_step at (steps.H w None) b refl (next_had b.draft w None t tt) s
had_under_sound at (Some (Const true)) w b t f r s = sound_step at (steps.H w None) b refl (next_had b.draft w None t tt) s
had_under_sound at (Some (Const false)) w b t f r s = s
had_under_sound at (Some (Literal l)) w b t f r s = sound_step at (steps.H w (Some l)) b refl (next_had b.draft w (Some l) t (f.0, r)) s

pub had_sound : (at : Setting) (w : WireId) (b : Built) → IsTarget b.draft w → AllSafe (length b.draft.wires) (same_wire w) (under at []) → WasRead b.draft at.condition → Sound b → Sound (had at w b)
unfolding had
had_sound at w b t f r s = had_under_sound at at.condition w b t f r s

-- ---- several flips

-- all operands of some conjunctions are safe, and of some lists of conjunctions
abbrev pub Each : ℕ → Targets → List (List Operand) → Type 0
Each n T [] = Unit {0}
Each n T (ps ∷ pss) = AllSafe n T ps × Each n T pss

abbrev pub EachOf : ℕ → Targets → List (List (List Operand)) → Type 0
EachOf n T [] = Unit {0}
EachOf n T (c ∷ cs) = Each n T c × EachOf n T cs

each_more : (n m : ℕ) (T : Targets) (pss : List (List Operand)) → n ≤ m → Each n T pss → Each m T pss
each_more n m T [] le h = tt
each_more n m T (ps ∷ pss) le h = (all_safe_more n m T ps le h.0, each_more n m T pss le h.1)

pub each_of_more : (n m : ℕ) (T : Targets) (cs : List (List (List Operand))) → n ≤ m → EachOf n T cs → EachOf m T cs
each_of_more n m T [] le h = tt
each_of_more n m T (c ∷ cs) le h = (each_more n m T c le h.0, each_of_more n m T cs le h.1)

each_fewer : (n : ℕ) (T S : Targets) (pss : List (List Operand)) → ((w : WireId) → w.number < n → T w ≡ false → S w ≡ false) → Each n T pss → Each n S pss
each_fewer n T S [] f h = tt
each_fewer n T S (ps ∷ pss) f h = (all_safe_fewer n T S ps f h.0, each_fewer n T S pss f h.1)

each_of_fewer : (n : ℕ) (T S : Targets) (cs : List (List (List Operand))) → ((w : WireId) → w.number < n → T w ≡ false → S w ≡ false) → EachOf n T cs → EachOf n S cs
each_of_fewer n T S [] f h = tt
each_of_fewer n T S (c ∷ cs) f h = (each_fewer n T S c f h.0, each_of_fewer n T S cs f h.1)

pub flip_by_sound : (at : Setting) (w : WireId) (pss : List (List Operand)) (b : Built) → IsTarget b.draft w → AllSafe (length b.draft.wires) (same_wire w) (under at []) → Each (length b.draft.wires) (same_wire w) pss → Sound b → Sound (flip_by at w pss b)
flip_by_sound at w [] b t g f s = s
flip_by_sound at w (ps ∷ pss) b t g f s =
    let n : ℕ = length b.draft.wires in
    let x : XGrows b (flip at w ps b) = flip_x at w ps b in
    let m : ℕ = length (flip at w ps b).draft.wires in
    flip_by_sound at w pss (flip at w ps b) (target_more x w t) (all_safe_more n m (same_wire w) (under at []) x.grows.few g) (each_more n m (same_wire w) pss x.grows.few f.1)
    (flip_sound at w ps b t (under_safe n (same_wire w) at ps g f.0) s)

-- what is beside all of some wires is beside the first, and beside the others
pub first_apart : (w : WireId) (ws : List WireId) (n : ℕ) (v : WireId) → v.number < n → among (w ∷ ws) v ≡ false → same_wire w v ≡ false
first_apart w ws n v lt t = same_wire_swap v w (or_false (same_wire v w) (among ws v) t).0

pub rest_apart : (w : WireId) (ws : List WireId) (n : ℕ) (v : WireId) → v.number < n → among (w ∷ ws) v ≡ false → among ws v ≡ false
rest_apart w ws n v lt t = (or_false (same_wire v w) (among ws v) t).1

pub flip_up_sound : (at : Setting) (ws : List WireId) (cs : List (List (List Operand))) (b : Built) → AreTargets b.draft ws → AllSafe (length b.draft.wires) (among ws) (under at []) → EachOf (length b.draft.wires) (among ws) cs → Sound b → Sound (flip_up at ws cs b)
flip_up_sound at [] cs b t g f s = s
flip_up_sound at (w ∷ ws) [] b t g f s = s
flip_up_sound at (w ∷ ws) (c ∷ cs) b t g f s =
    let n : ℕ = length b.draft.wires in
    let x : XGrows b (flip_by at w c b) = flip_by_x at w c b in
    let m : ℕ = length (flip_by at w c b).draft.wires in
    flip_up_sound at ws cs (flip_by at w c b) (targets_more x ws t.1)
    (all_safe_more n m (among ws) (under at []) x.grows.few (all_safe_fewer n (among (w ∷ ws)) (among ws) (under at []) (rest_apart w ws n) g))
    (each_of_more n m (among ws) cs x.grows.few (each_of_fewer n (among (w ∷ ws)) (among ws) cs (rest_apart w ws n) f.1))
    (flip_by_sound at w c b t.0 (all_safe_fewer n (among (w ∷ ws)) (same_wire w) (under at []) (first_apart w ws n) g) (each_fewer n (among (w ∷ ws)) (same_wire w) c (first_apart w ws n) f.0) s)

pub flip_down_sound : (at : Setting) (ws : List WireId) (cs : List (List (List Operand))) (b : Built) → AreTargets b.draft ws → AllSafe (length b.draft.wires) (among ws) (under at []) → EachOf (length b.draft.wires) (among ws) cs → Sound b → Sound (flip_down at ws cs b)
flip_down_sound at [] cs b t g f s = s
flip_down_sound at (w ∷ ws) [] b t g f s = s
flip_down_sound at (w ∷ ws) (c ∷ cs) b t g f s =
    let n : ℕ = length b.draft.wires in
    let x : XGrows b (flip_down at ws cs b) = flip_down_x at ws cs b in
    let m : ℕ = length (flip_down at ws cs b).draft.wires in
    flip_by_sound at w c (flip_down at ws cs b) (target_more x w t.0)
    (all_safe_more n m (same_wire w) (under at []) x.grows.few (all_safe_fewer n (among (w ∷ ws)) (same_wire w) (under at []) (first_apart w ws n) g))
    (each_more n m (same_wire w) c x.grows.few (each_fewer n (among (w ∷ ws)) (same_wire w) c (first_apart w ws n) f.0))
    (flip_down_sound at ws cs b t.1 (all_safe_fewer n (among (w ∷ ws)) (among ws) (under at []) (rest_apart w ws n) g) (each_of_fewer n (among (w ∷ ws)) (among ws) cs (rest_apart w ws n) f.1) s)
