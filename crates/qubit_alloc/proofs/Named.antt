-- The wires that a move names are on qubits in it.
use Rattle.std.proofs.Common.{◌≡◌, ℕ, ◌<◌, ◌⊎◌, inl, inr, Bool, true, false, cond, ◌||◌, Option, Some, None, IfSome, length, Contains, option_map, refl, ap, arith}
use Rattle.std.proofs.lemmas.Bool.{cases_Bool, or_left, or_right}
use Rattle.std.proofs.lemmas.List.Elements.{Contains-append_left, Contains-append_right}
use Rattle.flat_core.specs.declared.step.Step.{Step}
use Rattle.flat_core.specs.declared.step.Step.TheVariants.{X, H, P, M}
use Rattle.flat_core.specs.declared.step.Lit.{Lit}
use Rattle.flat_core.specs.declared.step.WireId.{WireId}
use Rattle.flat_core.specs.declared.step.StepId.{StepId}
use Rattle.flat_core.specs.Form.{FlatForm}
use Rattle.flat_core.specs.Label.{used, control_wires, wire_of, main_wire, first_wire, second_wire, EachControl, EachNamed, step_at, is_input, label_before}
use Rattle.flat_core.specs.Sound.{IsFlat}
use Rattle.move_plan.specs.declared.moves.Move.{Move}
use Rattle.move_plan.specs.declared.moves.Move.TheVariants.{Up, Down, Do}
use Rattle.move_plan.specs.Progress.{Progress, StandsAt, Stands, moved}
use Rattle.move_plan.specs.Live.{live}
use Rattle.qubit_alloc.specs.declared.placed.Placed.{Placed}
use Rattle.qubit_alloc.specs.Place.{Place, place_move}
use Rattle.qubit_alloc.specs.PlacedMoves.{qubit_in, placed_of}
use Rattle.qubit_alloc.specs.Spread.{lit_on, lit_at, qubit_or, on_qubits, step_placed}
use Rattle.qubit_alloc.proofs.Lives.{live_from, down_live, live_new, up_stay, do_stay}
use Rattle.qubit_alloc.proofs.Spreading.{Holds}

if_map : {A : Type 0} (These Those : A → Type 0) → ((x : A) → These x → Those x) → (o : Option A) → IfSome o These → IfSome o Those
if_map These Those g None h = tt
if_map These Those g (Some x) h = g x h

if_both : {A : Type 0} (These Those : A → Type 0) (o : Option A) → IfSome o These → IfSome o Those → IfSome o (λ x. These x × Those x)
if_both These Those None g h = tt
if_both These Those (Some x) g h = (g, h)

if_is : {A : Type 0} (These : A → Type 0) (o : Option A) → ((x : A) → o ≡ Some x → These x) → IfSome o These
if_is These None h = tt
if_is These (Some x) h = h x refl

pub named_map : (These Those : WireId → Type 0) → ((w : WireId) → These w → Those w) → (s : Step) → EachNamed These s → EachNamed Those s
named_map These Those g s h = (if_map These Those g (main_wire s) h.0, (if_map These Those g (first_wire s) h.1.0, if_map These Those g (second_wire s) h.1.1))

named_both : (These Those : WireId → Type 0) (s : Step) → EachNamed These s → EachNamed Those s → EachNamed (λ w. These w × Those w) s
named_both These Those s g h = (if_both These Those (main_wire s) g.0 h.0, (if_both These Those (first_wire s) g.1.0 h.1.0, if_both These Those (second_wire s) g.1.1 h.1.1))

-- what holds of each control, from what holds of each wire that is used
lit_each : (These Those : WireId → Type 0) (o : Option Lit) → ((w : WireId) → Contains (control_wires o) w → These w → Those w) → IfSome (wire_of o) These → IfSome (wire_of o) Those
lit_each These Those None g h = tt
lit_each These Those (Some l) g h = g l.wire (0, omega arith, refl) h

control_each : (These Those : WireId → Type 0) (s : Step) → ((w : WireId) → Contains (used s) w → These w → Those w) → EachControl These s → EachControl Those s
control_each These Those (X t a b) g h =
    (lit_each These Those a (λ w c. g w (Contains-append_left (control_wires a) (control_wires b) w c)) h.0, lit_each These Those b (λ w c. g w (Contains-append_right (control_wires a) (control_wires b) w c)) h.1)
control_each These Those (H t a) g h = (lit_each These Those a g h.0, tt)
control_each These Those (P e a) g h = (g a.wire (0, omega arith, refl) h.0, tt)
control_each These Those (M w n) g h = (tt, tt)

module _ (f : FlatForm) (ok : IsFlat f) (p : Progress) where
  -- the controls of a step that may be done or undone are live
  controls_live : (s : StepId) → s.number < length f.steps → ((w : WireId) → Contains (used (step_at f s)) w → StandsAt p w (label_before f s w)) → EachControl (λ w. live f p w ≡ true) (step_at f s)
  controls_live s lt st = control_each (λ w. (is_input f w ≡ true) ⊎ (0 < label_before f s w)) (λ w. live f p w ≡ true) (step_at f s) (λ w c known.
      let at = st w c in
      let l : p.label w ≡ label_before f s w = at.at in
      live_from f p w (record { kept = at.kept; why = elim known [ inl i ↦ inl i | inr up ↦ inr (inl (omega (arith, l, up))) ] })) (ok.known s lt)

  in_range : (on : WireId → Bool) (s : StepId) → s.number < length f.steps → EachNamed (λ w. on w ≡ true) (step_at f s) → Holds f on (step_at f s)
  in_range on s lt h = record { all = named_both (λ w. w.number < length f.wires) (λ w. on w ≡ true) (step_at f s) (ok.in_range s lt) h }

  -- a main wire is live after Up and Do
  main_after : (m : Move) (w : WireId) → ((v : WireId) → live f p v ≡ true → live f (moved f p m) v ≡ true) → (live f p w ≡ false → live f (moved f p m) w ≡ true) → live f (moved f p m) w ≡ true
  main_after m w stay new = elim (cases_Bool (live f p w)) [ inl on ↦ stay w on | inr off ↦ new off ]

  pub held_up : (s : StepId) → Stands f p (Up s) → Holds f (live f (moved f p (Up s))) (step_at f s)
  held_up s st =
      let c = controls_live s st.1.step st.1.uses in
      in_range (live f (moved f p (Up s))) s st.1.step (
        if_is (λ w. live f (moved f p (Up s)) w ≡ true) (main_wire (step_at f s)) (λ w e. main_after (Up s) w (up_stay f p s) (live_new f p (Up s) w st e)),
        (if_map _ _ (up_stay f p s) (first_wire (step_at f s)) c.0, if_map _ _ (up_stay f p s) (second_wire (step_at f s)) c.1),
      )

  pub held_do : (s : StepId) → Stands f p (Do s) → Holds f (live f (moved f p (Do s))) (step_at f s)
  held_do s st =
      let c = controls_live s st.2.step st.2.uses in
      in_range (live f (moved f p (Do s))) s st.2.step (
        if_is (λ w. live f (moved f p (Do s)) w ≡ true) (main_wire (step_at f s)) (λ w e. main_after (Do s) w (do_stay f p s) (live_new f p (Do s) w st e)),
        (if_map _ _ (do_stay f p s) (first_wire (step_at f s)) c.0, if_map _ _ (do_stay f p s) (second_wire (step_at f s)) c.1),
      )

  pub held_down : (s : StepId) → Stands f p (Down s) → Holds f (live f p) (step_at f s)
  held_down s st =
      let c = controls_live s st.1.step st.1.uses in
      in_range (live f p) s st.1.step (if_is (λ w. live f p w ≡ true) (main_wire (step_at f s)) (λ w e. down_live f p s w st e), c)

-- the step of a placed move is the step on the qubits that are told
lit_told : (q : Place) (r : Option ℕ) (o : Option Lit) → IfSome (wire_of o) (λ w. r ≡ Some (q w)) → option_map (lit_at r) o ≡ option_map (lit_on q) o
lit_told q r None h = refl
lit_told q r (Some l) h = ap (λ (x : Option ℕ). Some (lit_at x l)) h

step_told : (q : Place) (pl : Placed) (s : Step) → IfSome (main_wire s) (λ w. pl.target ≡ Some (q w)) → IfSome (first_wire s) (λ w. pl.first ≡ Some (q w)) → IfSome (second_wire s) (λ w. pl.second ≡ Some (q w)) → step_placed pl s ≡ on_qubits q s
step_told q pl (X t a b) h i j = λ k. X (ap qubit_or h k) (lit_told q pl.first a i k) (lit_told q pl.second b j k)
step_told q pl (H t a) h i j = λ k. H (ap qubit_or h k) (lit_told q pl.first a i k)
step_told q pl (P e a) h i j = ap (λ (x : Option ℕ). P e (lit_at x a)) i
step_told q pl (M w n) h i j = ap (λ (x : Option ℕ). M (qubit_or x) n) h

module _ (f : FlatForm) (p : Progress) (place : Place) (m : Move) where
  qubit_told : (o : Option WireId) → IfSome o (λ w. (live f p w || live f (moved f p m) w) ≡ true) → IfSome o (λ w. qubit_in f p place m o ≡ Some (place_move f p place m w))
  qubit_told None h = tt
  qubit_told (Some w) h = ap (λ b. cond b (Some (place_move f p place m w)) None) h

  pub was_live : (on : WireId → Bool) (s : Step) → ((w : WireId) → on w ≡ true → (live f p w || live f (moved f p m) w) ≡ true) → Holds f on s → EachNamed (λ w. (live f p w || live f (moved f p m) w) ≡ true) s
  was_live on s g h = named_map (λ w. (w.number < length f.wires) × (on w ≡ true)) (λ w. (live f p w || live f (moved f p m) w) ≡ true) (λ w k. g w k.1) s h.all

module _ (f : FlatForm) (ok : IsFlat f) (p : Progress) (place : Place) (s : StepId) where
  pub step_up : Stands f p (Up s) → step_placed (placed_of f p place (Up s)) (step_at f s) ≡ on_qubits (place_move f p place (Up s)) (step_at f s)
  step_up st =
      let h = was_live f p place (Up s) (live f (moved f p (Up s))) (step_at f s) (λ w on. or_right (live f p w) (live f (moved f p (Up s)) w) on) (held_up f ok p s st) in
      step_told (place_move f p place (Up s)) (placed_of f p place (Up s)) (step_at f s) (qubit_told f p place (Up s) (main_wire (step_at f s)) h.0) (qubit_told f p place (Up s) (first_wire (step_at f s)) h.1.0) (qubit_told f p place (Up s) (second_wire (step_at f s)) h.1.1)

  pub step_do : Stands f p (Do s) → step_placed (placed_of f p place (Do s)) (step_at f s) ≡ on_qubits (place_move f p place (Do s)) (step_at f s)
  step_do st =
      let h = was_live f p place (Do s) (live f (moved f p (Do s))) (step_at f s) (λ w on. or_right (live f p w) (live f (moved f p (Do s)) w) on) (held_do f ok p s st) in
      step_told (place_move f p place (Do s)) (placed_of f p place (Do s)) (step_at f s) (qubit_told f p place (Do s) (main_wire (step_at f s)) h.0) (qubit_told f p place (Do s) (first_wire (step_at f s)) h.1.0) (qubit_told f p place (Do s) (second_wire (step_at f s)) h.1.1)

  pub step_down : Stands f p (Down s) → step_placed (placed_of f p place (Down s)) (step_at f s) ≡ on_qubits (place_move f p place (Down s)) (step_at f s)
  step_down st =
      let h = was_live f p place (Down s) (live f p) (step_at f s) (λ w on. or_left (live f p w) (live f (moved f p (Down s)) w) on) (held_down f ok p s st) in
      step_told (place_move f p place (Down s)) (placed_of f p place (Down s)) (step_at f s) (qubit_told f p place (Down s) (main_wire (step_at f s)) h.0) (qubit_told f p place (Down s) (first_wire (step_at f s)) h.1.0) (qubit_told f p place (Down s) (second_wire (step_at f s)) h.1.1)
