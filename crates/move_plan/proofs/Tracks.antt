-- What the rows tell, and what a move does with them.
use Rattle.std.proofs.Common.{◌≡◌, ℕ, suc, ◌+◌, ◌<◌, ◌↔◌, ◌==◌, Bool, true, false, cond, ◌||◌, List, [], ◌∷◌, length, get_or, slice_set, Option, Some, None, IfSome, Contains, IsTrue, refl, sym, ◌∙◌, ap, subst, inl, inr, arith, add-one, add-zero, get_or-set_same, get_or-set_other}
use Rattle.std.proofs.Math.Path.{fun_ext}
use Rattle.std.proofs.lemmas.Bool.{cases_eq, eq-eqb, ne_eqb}
use Rattle.std.proofs.lemmas.List.Elements.{Contains-append_left, Contains-append_right, Contains-append_cases}
use Rattle.flat_core.specs.declared.step.Step.{Step}
use Rattle.flat_core.specs.declared.step.Step.TheVariants.{X, H, P, M}
use Rattle.flat_core.specs.declared.step.Lit.{Lit}
use Rattle.flat_core.specs.declared.step.WireId.{WireId}
use Rattle.flat_core.specs.declared.step.StepId.{StepId}
use Rattle.flat_core.specs.Form.{FlatForm}
use Rattle.flat_core.specs.Label.{same_wire, wire_of, control_wires, used, changes, step_at, label_before, wire_id, EachNamed}
use Rattle.flat_core.specs.Ends.{measures, undone}
use Rattle.flat_core.specs.Sound.{IsFlat}
use Rattle.flat_core.proofs.Labels.{same_wire_is, same_wire-refl}
use Rattle.move_plan.specs.declared.track.Track.{Track}
use Rattle.move_plan.specs.declared.moves.Move.TheVariants.{Up, Down, Do, Free}
use Rattle.move_plan.specs.Progress.{Progress, StandsAt, StepStands, Stands, IsEnd, moved}
use Rattle.move_plan.specs.Track.{told, OfUsed, OfChanged, Named, raised, with_measure, WireEnds}
use Rattle.move_plan.proofs.Counts.{freed_there}
use Rattle.move_plan.proofs.Standing.{stands_at}

same_progress : (p q : Progress) → p.label ≡ q.label → p.done ≡ q.done → p.measured ≡ q.measured → p.gone ≡ q.gone → p ≡ q
same_progress p q a b c d = λ i. record { label = a i; done = b i; measured = c i; gone = d i }

-- a list of one wire
the_one : (v w : WireId) → Contains (v ∷ []) w → v ≡ w
the_one v w c = let l = c.1 in let z : c.0 ≡ 0 = omega arith in ap (λ (k : ℕ). get_or (v ∷ []) k w) (sym z) ∙ c.2

itself : (v : WireId) → Contains (v ∷ []) v
itself v = (0, omega arith, refl)

-- something holds of each wire that a step uses
one_control : (holds : WireId → Type 0) (o : Option Lit) (w : WireId) → IfSome (wire_of o) holds → Contains (control_wires o) w → holds w
one_control holds None w h c = let l = c.1 in absurd (omega arith)
one_control holds (Some x) w h c = subst holds (the_one x.wire w c) h

control_holds : (holds : WireId → Type 0) (o : Option Lit) → ((w : WireId) → Contains (control_wires o) w → holds w) → IfSome (wire_of o) holds
control_holds holds None h = tt
control_holds holds (Some x) h = h x.wire (itself x.wire)

used_from : (holds : WireId → Type 0) (s : Step) → OfUsed holds s → (w : WireId) → Contains (used s) w → holds w
used_from holds (X t a b) h w c = elim (Contains-append_cases (control_wires a) (control_wires b) w c) [
  | inl l ↦ one_control holds a w h.0 l
  | inr r ↦ one_control holds b w h.1 r
]
used_from holds (H t a) h w c = one_control holds a w h c
used_from holds (P e a) h w c = subst holds (the_one a.wire w c) h
used_from holds (M v n) h w c = subst holds (the_one v w c) h

used_to : (holds : WireId → Type 0) (s : Step) → ((w : WireId) → Contains (used s) w → holds w) → OfUsed holds s
used_to holds (X t a b) h = (control_holds holds a (λ w c. h w (Contains-append_left (control_wires a) (control_wires b) w c)), control_holds holds b (λ w c. h w (Contains-append_right (control_wires a) (control_wires b) w c)))
used_to holds (H t a) h = control_holds holds a h
used_to holds (P e a) h = h a.wire (itself a.wire)
used_to holds (M v n) h = h v (itself v)

-- and of the one that it changes
changed_from : (holds : WireId → Type 0) (s : Step) → OfChanged holds s → (w : WireId) → changes w s ≡ true → holds w
changed_from holds (X t a b) h w c = subst holds (same_wire_is t w c) h
changed_from holds (H t a) h w c = subst holds (same_wire_is t w c) h
changed_from holds (P e a) h w c = absurd (cc)
changed_from holds (M v n) h w c = absurd (cc)

changed_to : (holds : WireId → Type 0) (s : Step) → ((w : WireId) → changes w s ≡ true → holds w) → OfChanged holds s
changed_to holds (X t a b) h = h t (same_wire-refl t)
changed_to holds (H t a) h = h t (same_wire-refl t)
changed_to holds (P e a) h = tt
changed_to holds (M v n) h = tt

-- the wires that a step names stand, told in two ways
named_stands : (f : FlatForm) (p : Progress) (s : StepId) (raise : ℕ) (target : ℕ → ℕ) → ((n : ℕ) → n + raise ≡ target n) → s.number < length f.steps → Named f p s raise → StepStands f p s target
named_stands f p s raise target e there n = record {
  step = there;
  uses = used_from (λ w. StandsAt p w (label_before f s w)) (step_at f s) n.of_used;
  changed = λ w c. stands_at p w (label_before f s w + raise) (target (label_before f s w)) (e (label_before f s w)) (changed_from (λ v. StandsAt p v (label_before f s v + raise)) (step_at f s) n.of_changed w c);
}

stands_named : (f : FlatForm) (p : Progress) (s : StepId) (raise : ℕ) (target : ℕ → ℕ) → ((n : ℕ) → n + raise ≡ target n) → StepStands f p s target → Named f p s raise
stands_named f p s raise target e st = record {
  of_used = used_to (λ w. StandsAt p w (label_before f s w)) (step_at f s) st.uses;
  of_changed = changed_to (λ w. StandsAt p w (label_before f s w + raise)) (step_at f s) (λ w c. stands_at p w (target (label_before f s w)) (label_before f s w + raise) (sym (e (label_before f s w))) (st.changed w c));
}

-- one row written
write : {A : Type 0} (xs : List A) (i k : ℕ) (a d : A) → i < length xs → get_or (slice_set xs i a) k d ≡ cond (i == k) a (get_or xs k d)
write xs i k a d h = elim (cases_eq k i) [
  | inl e ↦ ap (λ (n : ℕ). get_or (slice_set xs i a) n d) e ∙ get_or-set_same xs i a d h ∙ sym (ap (λ b. cond b a (get_or xs k d)) (eq-eqb i k (sym e)))
  | inr n ↦ get_or-set_other xs i k a d n ∙ sym (ap (λ b. cond b a (get_or xs k d)) (ne_eqb i k (λ e. n (sym e))))
]

-- a label raised
raised_at : (labels : List ℕ) (t w : WireId) → t.number < length labels → get_or (slice_set labels t.number (get_or labels t.number 0 + 1)) w.number 0 ≡ cond (same_wire t w) (suc (get_or labels w.number 0)) (get_or labels w.number 0)
raised_at labels t w h = write labels t.number w.number (get_or labels t.number 0 + 1) 0 h ∙ by (same_wire t w) refl
  where
    by : (b : Bool) → same_wire t w ≡ b → cond b (get_or labels t.number 0 + 1) (get_or labels w.number 0) ≡ cond b (suc (get_or labels w.number 0)) (get_or labels w.number 0)
    by true e = add-one (get_or labels t.number 0) ∙ ap (λ (v : WireId). suc (get_or labels v.number 0)) (same_wire_is t w e)
    by false e = refl

raised_is : (labels : List ℕ) (s : Step) → OfChanged (λ w. w.number < length labels) s → (w : WireId) → get_or (raised labels s) w.number 0 ≡ cond (changes w s) (suc (get_or labels w.number 0)) (get_or labels w.number 0)
raised_is labels (X t a b) h w = raised_at labels t w h
raised_is labels (H t a) h w = raised_at labels t w h
raised_is labels (P e a) h w = refl
raised_is labels (M v n) h w = refl

cond_is_or : (b c : Bool) → cond b true c ≡ (b || c)
cond_is_or true c = refl
cond_is_or false c = refl

-- a flag set
flag_at : (flags : List Bool) (i k : ℕ) → i < length flags → get_or (slice_set flags i true) k false ≡ ((i == k) || get_or flags k false)
flag_at flags i k h = write flags i k true false h ∙ cond_is_or (i == k) (get_or flags k false)

swap : (a b : ℕ) → (a == b) ≡ (b == a)
swap a b = elim (cases_eq a b) [
  | inl e ↦ eq-eqb a b e ∙ sym (eq-eqb b a (sym e))
  | inr n ↦ ne_eqb a b n ∙ sym (ne_eqb b a (λ e. n (sym e)))
]

flag_set : (flags : List Bool) (i k : ℕ) → i < length flags → get_or (slice_set flags i true) k false ≡ ((k == i) || get_or flags k false)
flag_set flags i k h = flag_at flags i k h ∙ ap (λ b. b || get_or flags k false) (swap i k)

pub measured_is : (flags : List Bool) (s : Step) → OfUsed (λ w. w.number < length flags) s → (w : WireId) → get_or (with_measure flags s) w.number false ≡ (measures w s || get_or flags w.number false)
measured_is flags (X t a b) h w = refl
measured_is flags (H t a) h w = refl
measured_is flags (P e a) h w = refl
measured_is flags (M v n) h w = flag_at flags v.number w.number h

-- so what a test of the named wires tells is whether a move may come next
module _ (f : FlatForm) (p : Progress) (s : StepId) (r : Bool) where
  pub up_told : undone f s ≡ true → s.number < length f.steps → (IsTrue r ↔ Named f p s 0) → IsTrue r ↔ Stands f p (Up s)
  up_told u there h = ((λ t. (u, named_stands f p s 0 (λ n. n) add-zero there (h.0 t))), (λ st. h.1 (stands_named f p s 0 (λ n. n) add-zero st.1)))

  pub down_told : undone f s ≡ true → s.number < length f.steps → (IsTrue r ↔ Named f p s 1) → IsTrue r ↔ Stands f p (Down s)
  down_told u there h = ((λ t. (u, named_stands f p s 1 suc add-one there (h.0 t))), (λ st. h.1 (stands_named f p s 1 suc add-one st.1)))

  pub do_told : undone f s ≡ false → p.done s ≡ false → s.number < length f.steps → (IsTrue r ↔ Named f p s 0) → IsTrue r ↔ Stands f p (Do s)
  do_told u d there h = ((λ t. (u, d, named_stands f p s 0 (λ n. n) add-zero there (h.0 t))), (λ st. h.1 (stands_named f p s 0 (λ n. n) add-zero st.2)))

-- what rows tell of steps and wires
abbrev step_flags : List Bool → StepId → Bool
step_flags flags s = get_or flags s.number false

abbrev wire_flags : List Bool → WireId → Bool
wire_flags flags w = get_or flags w.number false

abbrev wire_labels : List ℕ → WireId → ℕ
wire_labels labels w = get_or labels w.number 0

-- the rows after a move
module _ (f : FlatForm) (t new : Track) where
  pub told_up : (s : StepId) → OfChanged (λ w. w.number < length t.labels.items) (step_at f s) → new.labels.items ≡ raised t.labels.items (step_at f s) → new.done.items ≡ t.done.items → new.measured.items ≡ t.measured.items → new.gone.items ≡ t.gone.items → told new ≡ moved f (told t) (Up s)
  told_up s there el ed em eg = same_progress (told new) (moved f (told t) (Up s))
      (fun_ext (λ (w : WireId). ap (λ (xs : List ℕ). get_or xs w.number 0) el ∙ raised_is t.labels.items (step_at f s) there w))
      (ap step_flags ed)
      (ap wire_flags em)
      (ap wire_flags eg)

  pub told_do : (s : StepId) → OfChanged (λ w. w.number < length t.labels.items) (step_at f s) → s.number < length t.done.items → OfUsed (λ w. w.number < length t.measured.items) (step_at f s)
      → new.labels.items ≡ raised t.labels.items (step_at f s) → new.done.items ≡ slice_set t.done.items s.number true → new.measured.items ≡ with_measure t.measured.items (step_at f s) → new.gone.items ≡ t.gone.items → told new ≡ moved f (told t) (Do s)
  told_do s there in_done in_measured el ed em eg = same_progress (told new) (moved f (told t) (Do s))
      (fun_ext (λ (w : WireId). ap (λ (xs : List ℕ). get_or xs w.number 0) el ∙ raised_is t.labels.items (step_at f s) there w))
      (fun_ext (λ (k : StepId). ap (λ (xs : List Bool). get_or xs k.number false) ed ∙ flag_set t.done.items s.number k.number in_done))
      (fun_ext (λ (w : WireId). ap (λ (xs : List Bool). get_or xs w.number false) em ∙ measured_is t.measured.items (step_at f s) in_measured w))
      (ap wire_flags eg)

  pub told_free : (v : WireId) → v.number < length t.gone.items → new.labels.items ≡ t.labels.items → new.done.items ≡ t.done.items → new.measured.items ≡ t.measured.items → new.gone.items ≡ slice_set t.gone.items v.number true → told new ≡ moved f (told t) (Free v)
  told_free v there el ed em eg = same_progress (told new) (moved f (told t) (Free v))
      (ap wire_labels el)
      (ap step_flags ed)
      (ap wire_flags em)
      (fun_ext (λ (w : WireId). ap (λ (xs : List Bool). get_or xs w.number false) eg ∙ flag_set t.gone.items v.number w.number there))

-- the wires that a step of a flat form names have rows
pub changed_there : (f : FlatForm) → IsFlat f → (n : ℕ) (s : StepId) → s.number < length f.steps → n ≡ length f.wires → OfChanged (λ w. w.number < n) (step_at f s)
changed_there f ok n s h e = subst (λ m. OfChanged (λ w. w.number < m) (step_at f s)) (sym e) (by (step_at f s) (ok.in_range s h))
  where
    by : (x : Step) → EachNamed (λ w. w.number < length f.wires) x → OfChanged (λ w. w.number < length f.wires) x
    by (X t a b) k = k.0
    by (H t a) k = k.0
    by (P e a) k = tt
    by (M v n) k = tt

pub used_there : (f : FlatForm) → IsFlat f → (n : ℕ) (s : StepId) → s.number < length f.steps → n ≡ length f.wires → OfUsed (λ w. w.number < n) (step_at f s)
used_there f ok n s h e = subst (λ m. OfUsed (λ w. w.number < m) (step_at f s)) (sym e) (by (step_at f s) (ok.in_range s h))
  where
    by : (x : Step) → EachNamed (λ w. w.number < length f.wires) x → OfUsed (λ w. w.number < length f.wires) x
    by (X t a b) k = (k.1.0, k.1.1)
    by (H t a) k = k.1.0
    by (P e a) k = k.1.0
    by (M v n) k = k.0

-- steps and wires that are all as they have to be are an end
pub end_told : (f : FlatForm) (p : Progress) → ((s : StepId) → s.number < length f.steps → undone f s ≡ false → p.done s ≡ true) → (r : Bool) → (IsTrue r ↔ ((w : WireId) → w.number < length f.wires → WireEnds f p w)) → IsTrue r ↔ IsEnd f p
end_told f p all r h = (
  (λ t. let each = h.0 t in record {
    all_done = all;
    at_bottom = λ w l d. (each w l).at_bottom d;
    at_top = λ w l d. (each w l).at_top d;
    all_gone = λ w g. (each w (freed_there f w g)).all_gone g;
  }),
  (λ end. h.1 (λ w l. record { at_bottom = end.at_bottom w l; at_top = end.at_top w l; all_gone = end.all_gone w })),
)

pub one_more_wire : (holds : WireId → Type 0) (n : ℕ) → ((w : WireId) → w.number < n → holds w) → holds (wire_id n) → (w : WireId) → w.number < n + 1 → holds w
one_more_wire holds n before here w l = elim (cases_eq w.number n) [
  | inl e ↦ subst holds (ap wire_id (sym e)) here
  | inr d ↦ before w (omega arith)
]
