-- Moves on the qubits of their wires do what the moves do on the wires.
use Rattle.std.proofs.Common.{◌≡◌, ℕ, ◌<◌, inl, inr, Bool, true, false, cond, not, nat_lt, ◌==◌, ◌&&◌, ◌||◌, Option, Some, None, List, [], ◌∷◌, ◌++◌, length, All, refl, sym, ◌∙◌, ap, ap₂}
use Rattle.std.proofs.Math.Path.{fun_ext}
use Rattle.std.proofs.lemmas.Bool.{both_ways, eq-eqb, eqb-true, true_from_ne_false, or_left}
use Rattle.std.proofs.lemmas.List.Elements.{All-nil, All-cons, All-head, All-tail}
use Rattle.flat_core.specs.declared.step.End.{End}
use Rattle.flat_core.specs.declared.step.End.TheVariants.{Output, Dropped, Measured, Zeroed}
use Rattle.flat_core.specs.declared.step.WireId.{WireId}
use Rattle.flat_core.specs.declared.step.StepId.{StepId}
use Rattle.flat_core.specs.Form.{FlatForm}
use Rattle.flat_core.specs.Label.{wire_id, same_wire, step_at, end_of, is_input, main_wire}
use Rattle.flat_core.specs.Sound.{IsFlat}
use Rattle.flat_core.proofs.Labels.{same_wire_is}
use Rattle.flat_mean.specs.Row.{flipped}
use Rattle.flat_mean.specs.Terms.{Term, do_step, each}
use Rattle.move_plan.specs.declared.moves.Move.{Move}
use Rattle.move_plan.specs.declared.moves.Move.TheVariants.{Up, Down, Do, Free}
use Rattle.move_plan.specs.Progress.{Progress, Stands, FreeStands, moved}
use Rattle.move_plan.specs.Effect.{is_measured, number_of, flip_at, freed_row, do_move}
use Rattle.move_plan.specs.Live.{live}
use Rattle.move_plan.proofs.Counts.{freed_there}
use Rattle.qubit_alloc.specs.Place.{Place, main_of, place_if_any, place_move, put_on, least_free, IsPlaced}
use Rattle.qubit_alloc.specs.PlacedMoves.{placed_of}
use Rattle.qubit_alloc.specs.Spread.{spread, spread_term, spread_all, on_qubits, flip_qubit, do_placed}
use Rattle.qubit_alloc.proofs.Lives.{live_from, live_back, down_live, up_stay, do_stay}
use Rattle.qubit_alloc.proofs.Spreading.{Apart, Holds, any_ext, spread-at, spread_same, spread-append, step_on, same_term}
use Rattle.qubit_alloc.proofs.Named.{held_up, held_do, held_down, step_up, step_do, step_down}

pub apart_of : (f : FlatForm) (on : WireId → Bool) (wide : ℕ) (place : Place) → IsPlaced f on wide place → Apart f on place
apart_of f on wide place pl = record { apart = pl.apart }

-- wires that are not on a qubit are 0
abbrev pub Idle : (WireId → Bool) → Term → Type 0
Idle on t = (w : WireId) → on w ≡ false → t.row w.number ≡ false

-- a wire with the value 1 is on one
pub one_live : (on : WireId → Bool) (t : Term) → Idle on t → (v : WireId) → t.row v.number ≡ true → on v ≡ true
one_live on t idle v e = true_from_ne_false (on v) (λ off. both_ways (t.row v.number) (idle v off) e)

-- a wire that is on a qubit keeps it
pub place_kept : (f : FlatForm) (on : WireId → Bool) (place : Place) (o : Option WireId) (v : WireId) → on v ≡ true → place_if_any f on place o v ≡ place v
place_kept f on place None v h = refl
place_kept f on place (Some w) v h = by (on w) refl
  where
    by : (b : Bool) → on w ≡ b → cond b place (put_on w (least_free f on place) place) v ≡ place v
    by true e = refl
    by false e = at (same_wire v w) refl
      where
        at : (c : Bool) → same_wire v w ≡ c → cond c (least_free f on place) (place v) ≡ place v
        at true g = absurd (both_ways (on v) (ap on (same_wire_is v w g) ∙ e) h)
        at false g = refl

-- terms spread from one set of wires or another, where no wire with the value 1 tells them apart
pub spread_each : (f : FlatForm) (on on' : WireId → Bool) (place place' : Place) (ts : List Term) → All (λ t. (v : WireId) → t.row v.number ≡ true → (on v ≡ on' v) × (on v ≡ true → place v ≡ place' v)) ts → spread_all f on place ts ≡ spread_all f on' place' ts
spread_each f on on' place place' [] h = refl
spread_each f on on' place place' (t ∷ ts) h =
    let here = All-head (λ u. (v : WireId) → u.row v.number ≡ true → (on v ≡ on' v) × (on v ≡ true → place v ≡ place' v)) t ts h in
    let rest = All-tail (λ u. (v : WireId) → u.row v.number ≡ true → (on v ≡ on' v) × (on v ≡ true → place v ≡ place' v)) t ts h in
    ap₂ (λ (x : Term) (xs : List Term). x ∷ xs) (same_term _ _ _ _ _ _ (spread_same f on on' place place' t.row (λ v vl e. here v e)) refl refl) (spread_each f on on' place place' ts rest)

pub all_map : (These Those : Term → Type 0) → ((t : Term) → These t → Those t) → (ts : List Term) → All These ts → All Those ts
all_map these those g [] h = All-nil those
all_map these those g (t ∷ ts) h = All-cons those t ts (g t (All-head these t ts h)) (all_map these those g ts (All-tail these t ts h))

pub all_split : (These : Term → Type 0) (xs ys : List Term) → All These (xs ++ ys) → All These xs × All These ys
all_split these [] ys h = (All-nil these, h)
all_split these (x ∷ xs) ys h =
    let g = all_split these xs ys (All-tail these x (xs ++ ys) h) in
    (All-cons these x xs (All-head these x (xs ++ ys) h) g.0, g.1)

bit_plain : (b : Bool) (n : ℕ) (outcome : ℕ → Bool) → (b && outcome (cond b n 0)) ≡ (b && outcome n)
bit_plain true n outcome = refl
bit_plain false n outcome = refl

keep : (b x y : Bool) → (b ≡ true → x ≡ y) → cond b x y ≡ y
keep true x y h = h refl
keep false x y h = refl

module _ (f : FlatForm) (outcome : ℕ → Bool) (ok : IsFlat f) (p : Progress) (place : Place) (wide : ℕ) where
  -- Up and Do
  done_on : (m : Move) (s : StepId) (t : Term) → IsPlaced f (live f (moved f p m)) wide (place_move f p place m) → Holds f (live f (moved f p m)) (step_at f s)
      → ((w : WireId) → live f p w ≡ true → live f (moved f p m) w ≡ true) → Idle (live f p) t
      → do_step outcome (on_qubits (place_move f p place m) (step_at f s)) (spread_term f (live f p) place t) ≡ spread_all f (live f (moved f p m)) (place_move f p place m) (do_step outcome (step_at f s) t)
  done_on m s t pl h stay idle =
      let q = place_move f p place m in
      let same : spread f (live f p) place t.row ≡ spread f (live f (moved f p m)) q t.row =
      spread_same f (live f p) (live f (moved f p m)) place q t.row (λ v vl e.
      let on = one_live (live f p) t idle v e in (on ∙ sym (stay v on), λ g. sym (place_kept f (live f p) place (main_of f m) v g))) in
      ap (λ (u : Term). do_step outcome (on_qubits q (step_at f s)) u) (same_term _ _ _ _ _ _ same refl refl)
      ∙ step_on f (live f (moved f p m)) q outcome (step_at f s) t (apart_of f (live f (moved f p m)) wide q pl) h

  down_place : (s : StepId) → Stands f p (Down s) → place_move f p place (Down s) ≡ place
  down_place s st = by (main_wire (step_at f s)) refl
    where
      by : (o : Option WireId) → main_wire (step_at f s) ≡ o → place_if_any f (live f p) place o ≡ place
      by None e = refl
      by (Some w) e = ap (λ b. cond b place (put_on w (least_free f (live f p) place) place)) (down_live f p s w st e)

  was : (m : Move) (v : WireId) → (main_of f m ≡ Some v → live f p v ≡ true) → live f (moved f p m) v ≡ true → live f p v ≡ true
  was m v main h = elim (live_back f p m v h) [ inl o ↦ o | inr e ↦ main e ]

  -- the terms that a move leaves, where it makes no wire live
  fewer : (m : Move) → ((v : WireId) → main_of f m ≡ Some v → live f p v ≡ true) → (ts : List Term) → All (Idle (live f (moved f p m))) ts → spread_all f (live f p) place ts ≡ spread_all f (live f (moved f p m)) place ts
  fewer m main ts idle =
      spread_each f (live f p) (live f (moved f p m)) place place ts (all_map (Idle (live f (moved f p m))) (λ u. (v : WireId) → u.row v.number ≡ true → (live f p v ≡ live f (moved f p m) v) × (live f p v ≡ true → place v ≡ place v)) (λ u id v e.
      let on = one_live (live f (moved f p m)) u id v e in (was m v (main v) on ∙ sym on, λ _. refl)) ts idle)

  -- a freed wire
  module _ (w : WireId) (st : FreeStands f p w) (t : Term) where
    measured_on : end_of f w ≡ Measured → live f p w ≡ true
    measured_on e = live_from f p w (record { kept = st.at_top.kept; why = inr (inr (st.measured e)) })

    flip_off : live f p w ≡ false → flip_at f outcome w ≡ false
    flip_off off = by (end_of f w) refl
      where
        by : (e : End) → end_of f w ≡ e → (is_measured e && outcome (number_of f.steps w)) ≡ false
        by Output e = refl
        by Dropped e = refl
        by Measured e = absurd (both_ways (live f p w) off (measured_on e))
        by Zeroed e = refl

    -- on its qubit
    freed_on : IsPlaced f (live f p) wide place → live f p w ≡ true
        → (λ i. cond (i == place w) (flipped (spread f (live f p) place t.row i) (flip_at f outcome w)) (spread f (live f p) place t.row i)) ≡ spread f (live f p) place (freed_row f outcome w t.row)
    freed_on pl on = fun_ext (λ j. by j (j == place w) refl)
      where
        there : w.number < length f.wires
        there = freed_there f w st.ending

        apart : Apart f (live f p) place
        apart = apart_of f (live f p) wide place pl

        gone : (a x y : Bool) → (a && false && x) ≡ (a && false && y)
        gone true x y = refl
        gone false x y = refl

        by : (j : ℕ) (b : Bool) → (j == place w) ≡ b → cond b (flipped (spread f (live f p) place t.row j) (flip_at f outcome w)) (spread f (live f p) place t.row j) ≡ spread f (live f p) place (freed_row f outcome w t.row) j
        by j true e =
            let same : j ≡ place w = eqb-true j (place w) e in
            ap (λ i. flipped (spread f (live f p) place t.row i) (flip_at f outcome w)) same
            ∙ (ap (λ x. flipped x (flip_at f outcome w)) (spread-at f (live f p) place t.row apart w there on)
            ∙ (sym (ap (λ b. cond b (flipped (t.row w.number) (flip_at f outcome w)) (t.row w.number)) (eq-eqb w.number w.number refl))
            ∙ (sym (spread-at f (live f p) place (freed_row f outcome w t.row) apart w there on)
            ∙ ap (spread f (live f p) place (freed_row f outcome w t.row)) (sym same))))
        by j false e = any_ext (length f.wires) _ _ (λ v vl. at v (v == w.number) refl)
          where
            at : (v : ℕ) (b : Bool) → (v == w.number) ≡ b → (live f p (wire_id v) && (place (wire_id v) == j) && t.row v) ≡ (live f p (wire_id v) && (place (wire_id v) == j) && cond b (flipped (t.row v) (flip_at f outcome (wire_id v))) (t.row v))
            at v false g = refl
            at v true g = here (place (wire_id v) == j) refl
              where
                here : (c : Bool) → (place (wire_id v) == j) ≡ c → (live f p (wire_id v) && c && t.row v) ≡ (live f p (wire_id v) && c && flipped (t.row v) (flip_at f outcome (wire_id v)))
                here false h = gone (live f p (wire_id v)) (t.row v) (flipped (t.row v) (flip_at f outcome (wire_id v)))
                here true h =
                    let yes : (j == place w) ≡ true = eq-eqb j (place w) (sym (eqb-true (place (wire_id v)) j h) ∙ ap place (same_wire_is (wire_id v) w g)) in
                    absurd (both_ways _ e yes)

    -- on none
    freed_off : live f p w ≡ false → spread f (live f p) place t.row ≡ spread f (live f p) place (freed_row f outcome w t.row)
    freed_off off =
        ap (spread f (live f p) place) (fun_ext (λ q. sym (keep (q == w.number) (flipped (t.row q) (flip_at f outcome (wire_id q))) (t.row q) (λ e.
        ap (flipped (t.row q)) (ap (flip_at f outcome) (same_wire_is (wire_id q) w e) ∙ flip_off off)))))

    freed_placed : IsPlaced f (live f p) wide place → do_placed outcome (placed_of f p place (Free w)) (spread_term f (live f p) place t) ≡ spread_all f (live f p) place (do_move f outcome (Free w) t)
    freed_placed pl = by (live f p w) refl
      where
        flip : (is_measured (end_of f w) && outcome (cond (is_measured (end_of f w)) (number_of f.steps w) 0)) ≡ flip_at f outcome w
        flip = bit_plain (is_measured (end_of f w)) (number_of f.steps w) outcome

        after_off : live f (moved f p (Free w)) w ≡ false
        after_off = ap (λ b. not b && (is_input f w || nat_lt 0 (p.label w) || p.measured w)) (or_left (same_wire w w) (p.gone w) (eq-eqb w.number w.number refl))

        by : (b : Bool) → live f p w ≡ b → flip_qubit (cond (b || live f (moved f p (Free w)) w) (Some (place w)) None) (is_measured (end_of f w) && outcome (cond (is_measured (end_of f w)) (number_of f.steps w) 0)) (spread_term f (live f p) place t) ∷ []
            ≡ spread_all f (live f p) place (do_move f outcome (Free w) t)
        by true on =
            ap (λ x. flip_qubit (Some (place w)) x (spread_term f (live f p) place t) ∷ []) flip
            ∙ ap (λ (u : Term). u ∷ []) (same_term _ _ _ _ _ _ (freed_on pl on) refl refl)
        by false idle =
            ap (λ b. flip_qubit (cond b (Some (place w)) None) (is_measured (end_of f w) && outcome (cond (is_measured (end_of f w)) (number_of f.steps w) 0)) (spread_term f (live f p) place t) ∷ []) after_off
            ∙ ap (λ (u : Term). u ∷ []) (same_term _ _ _ _ _ _ (freed_off idle) refl refl)

  -- one move on the qubits, for a term whose idle wires are 0 before and after
  pub move_on : (m : Move) (t : Term) → Stands f p m → IsPlaced f (live f p) wide place → IsPlaced f (live f (moved f p m)) wide (place_move f p place m)
      → Idle (live f p) t → All (Idle (live f (moved f p m))) (do_move f outcome m t)
      → do_placed outcome (placed_of f p place m) (spread_term f (live f p) place t) ≡ spread_all f (live f (moved f p m)) (place_move f p place m) (do_move f outcome m t)
  move_on (Up s) t st pl pl' idle idle' =
      ap (λ x. do_step outcome x (spread_term f (live f p) place t)) (step_up f ok p place s st)
      ∙ done_on (Up s) s t pl' (held_up f ok p s st) (up_stay f p s) idle
  move_on (Do s) t st pl pl' idle idle' =
      ap (λ x. do_step outcome x (spread_term f (live f p) place t)) (step_do f ok p place s st)
      ∙ done_on (Do s) s t pl' (held_do f ok p s st) (do_stay f p s) idle
  move_on (Down s) t st pl pl' idle idle' =
      ap (λ x. do_step outcome x (spread_term f (live f p) place t)) (step_down f ok p place s st)
      ∙ (ap (λ (q : Place). do_step outcome (on_qubits q (step_at f s)) (spread_term f (live f p) place t)) (down_place s st)
      ∙ (step_on f (live f p) place outcome (step_at f s) t (apart_of f (live f p) wide place pl) (held_down f ok p s st)
      ∙ (fewer (Down s) (λ v e. down_live f p s v st e) (do_step outcome (step_at f s) t) idle'
      ∙ sym (ap (λ (q : Place). spread_all f (live f (moved f p (Down s))) q (do_step outcome (step_at f s) t)) (down_place s st)))))
  move_on (Free w) t st pl pl' idle idle' =
      freed_placed w st t pl
      ∙ fewer (Free w) (λ v e. absurd (cc)) (do_move f outcome (Free w) t) idle'

  -- and for all terms
  pub moves_on : (m : Move) (ts : List Term) → Stands f p m → IsPlaced f (live f p) wide place → IsPlaced f (live f (moved f p m)) wide (place_move f p place m)
      → All (Idle (live f p)) ts → All (Idle (live f (moved f p m))) (each (do_move f outcome m) ts)
      → each (do_placed outcome (placed_of f p place m)) (spread_all f (live f p) place ts) ≡ spread_all f (live f (moved f p m)) (place_move f p place m) (each (do_move f outcome m) ts)
  moves_on m [] st pl pl' idle idle' = refl
  moves_on m (t ∷ ts) st pl pl' idle idle' =
      let g = all_split (Idle (live f (moved f p m))) (do_move f outcome m t) (each (do_move f outcome m) ts) idle' in
      ap₂ (λ (xs ys : List Term). xs ++ ys) (move_on m t st pl pl' (All-head (Idle (live f p)) t ts idle) g.0) (moves_on m ts st pl pl' (All-tail (Idle (live f p)) t ts idle) g.1)
      ∙ spread-append f (live f (moved f p m)) (place_move f p place m) (do_move f outcome m t) (each (do_move f outcome m) ts)
