-- A whole list of moves on qubits gives what the paths give.
use Rattle.std.proofs.Common.{◌≡◌, ℕ, zero, suc, ◌+◌, ◌<◌, ◌≤◌, inl, inr, Bool, true, false, cond, nat_lt, ◌==◌, ◌&&◌, Some, List, [], ◌∷◌, ◌++◌, length, map, All, refl, sym, ◌∙◌, ap, ap₂, subst, arith, append_assoc, le_refl}
use Rattle.std.proofs.lemmas.Bool.{cases_lt, both_ways, eqb-true, lt-ltb, le-ltb, or_left, true_from_ne_false}
use Rattle.std.proofs.lemmas.List.Elements.{All-nil, All-cons, All-head, All-tail, All-map, All-same}
use Rattle.amp_core.specs.declared.Amp.{Amp}
use Rattle.sum_laws.specs.Terms.{amplitude}
use Rattle.flat_core.specs.declared.step.End.{End}
use Rattle.flat_core.specs.declared.step.End.TheVariants.{Output, Dropped, Measured, Zeroed}
use Rattle.flat_core.specs.declared.step.WireId.{WireId}
use Rattle.flat_core.specs.Form.{FlatForm}
use Rattle.flat_core.specs.Label.{wire_id, end_of, is_input}
use Rattle.flat_core.specs.Sound.{IsFlat}
use Rattle.flat_mean.specs.Row.{Row}
use Rattle.flat_mean.specs.Path.{inputs_before, count_inputs, input_row}
use Rattle.flat_mean.specs.Terms.{Term, first_term, each, weight, values_of, seen_at}
use Rattle.move_plan.specs.declared.moves.Move.{Move}
use Rattle.move_plan.specs.Progress.{Progress, at_start, moved, AllStand, progress, IsPlan}
use Rattle.move_plan.specs.Effect.{is_output, do_move, do_moves}
use Rattle.move_plan.specs.Live.{live, width}
use Rattle.move_plan.specs.Laws.{IsInput, ZeroedAreZero}
use Rattle.move_plan.proofs.Idle.{tracked_start, tracked_all, idle_are_zero}
use Rattle.move_plan.proofs.AtEnd.{others_not_live, moves_give_amplitudes}
use Rattle.qubit_alloc.specs.Place.{Place, first_place, place_move, place_wire, place_all, on_below, place_outputs, place_plan, IsPlaced}
use Rattle.qubit_alloc.specs.PlacedMoves.{placed_from}
use Rattle.qubit_alloc.specs.Spread.{spread, spread_term, spread_all, to_qubit, do_all_placed, first_row}
use Rattle.qubit_alloc.specs.Laws.{InputsStandFirst, PlacedMovesAgree, PlacedPlansAgree, CircuitGivesPaths, OtherQubitsZero}
use Rattle.qubit_alloc.proofs.Pigeon.{count_max}
use Rattle.qubit_alloc.proofs.Placing.{placed_move}
use Rattle.qubit_alloc.proofs.Starting.{live_start, first_less, first_is, placed_start, find_input, all_before}
use Rattle.qubit_alloc.proofs.ApartLaws.{outputs_apart}
use Rattle.qubit_alloc.proofs.Spreading.{Apart, any_none, spread-at}
use Rattle.qubit_alloc.proofs.Composed.{apart_of, Idle, one_live, place_kept, spread_each, all_map, moves_on}

-- wires that are not live are 0 before each move and after the last one
abbrev IdleAlong : FlatForm → (ℕ → Bool) → Progress → List Term → List Move → Type 0
IdleAlong f outcome p ts [] = All (Idle (live f p)) ts
IdleAlong f outcome p ts (m ∷ ms) = All (Idle (live f p)) ts × IdleAlong f outcome (moved f p m) (each (do_move f outcome m) ts) ms

each_wire : (on : WireId → Bool) (ts : List Term) → ((w : WireId) → on w ≡ false → All (λ t. t.row w.number ≡ false) ts) → All (Idle on) ts
each_wire on [] h = All-nil (Idle on)
each_wire on (t ∷ ts) h =
    All-cons (Idle on) t ts (λ w off. All-head (λ u. u.row w.number ≡ false) t ts (h w off)) (each_wire on ts (λ w off. All-tail (λ u. u.row w.number ≡ false) t ts (h w off)))

progress-push : (f : FlatForm) (past : List Move) (p : Progress) (m : Move) → progress f p (past ++ m ∷ []) ≡ moved f (progress f p past) m
progress-push f [] p m = refl
progress-push f (x ∷ past) p m = progress-push f past (moved f p x) m

do_moves-push : (f : FlatForm) (outcome : ℕ → Bool) (past : List Move) (ts : List Term) (m : Move) → do_moves f outcome (past ++ m ∷ []) ts ≡ each (do_move f outcome m) (do_moves f outcome past ts)
do_moves-push f outcome [] ts m = refl
do_moves-push f outcome (x ∷ past) ts m = do_moves-push f outcome past (each (do_move f outcome x) ts) m

first_stand : (f : FlatForm) (past rest : List Move) (p : Progress) → AllStand f p (past ++ rest) → AllStand f p past
first_stand f [] rest p st = tt
first_stand f (m ∷ past) rest p st = (st.0, first_stand f past rest (moved f p m) st.1)

module _ (f : FlatForm) (input : Row) (outcome : ℕ → Bool) (ok : IsFlat f) (given : IsInput f input) (zeros : ZeroedAreZero f input) where
  idle_after : (past : List Move) → AllStand f at_start past → All (Idle (live f (progress f at_start past))) (do_moves f outcome past (first_term input ∷ []))
  idle_after past st = each_wire (live f (progress f at_start past)) (do_moves f outcome past (first_term input ∷ [])) (λ w off. idle_are_zero f input outcome past ok given zeros st w off)

  idle_along : (rest past : List Move) → AllStand f at_start (past ++ rest) → IdleAlong f outcome (progress f at_start past) (do_moves f outcome past (first_term input ∷ [])) rest
  idle_along [] past st = idle_after past (first_stand f past [] at_start st)
  idle_along (m ∷ rest) past st =
      let next = idle_along rest (past ++ m ∷ []) (subst (AllStand f at_start) (sym (append_assoc past (m ∷ []) rest)) st) in
      let as_moved = subst (λ (p : Progress). IdleAlong f outcome p (do_moves f outcome (past ++ m ∷ []) (first_term input ∷ [])) rest) (progress-push f past at_start m) next in
      (idle_after past (first_stand f past (m ∷ rest) at_start st), subst (λ (ts : List Term). IdleAlong f outcome (moved f (progress f at_start past) m) ts rest) (do_moves-push f outcome past (first_term input ∷ []) m) as_moved)

  idle_first : (ms : List Move) (p : Progress) (ts : List Term) → IdleAlong f outcome p ts ms → All (Idle (live f p)) ts
  idle_first [] p ts h = h
  idle_first (m ∷ ms) p ts h = h.0

  all_on : (ms : List Move) (p : Progress) (place : Place) (ts : List Term) → IdleAlong f outcome p ts ms → AllStand f p ms → IsPlaced f (live f p) (length f.wires) place
      → do_all_placed outcome (placed_from f p place ms) (spread_all f (live f p) place ts) ≡ spread_all f (live f (progress f p ms)) (place_all f p place ms) (do_moves f outcome ms ts)
  all_on [] p place ts idle st pl = refl
  all_on (m ∷ ms) p place ts idle st pl =
      let pl' = placed_move f ok (length f.wires) p place m st.0 (count_max (length f.wires) (λ n. live f (moved f p m) (wire_id n))) pl in
      ap (do_all_placed outcome (placed_from f (moved f p m) (place_move f p place m) ms))
      (moves_on f outcome ok p place (length f.wires) m ts st.0 pl pl' idle.0 (idle_first ms (moved f p m) (each (do_move f outcome m) ts) idle.1))
      ∙ all_on ms (moved f p m) (place_move f p place m) (each (do_move f outcome m) ts) idle.1 st.1 pl'

  agree : (moves : List Move) → AllStand f at_start moves
      → do_all_placed outcome (placed_from f at_start (first_place f) moves) (first_term (first_row f input) ∷ []) ≡ spread_all f (live f (progress f at_start moves)) (place_all f at_start (first_place f) moves) (do_moves f outcome moves (first_term input ∷ []))
  agree moves st = all_on moves at_start (first_place f) (first_term input ∷ []) (idle_along moves [] st) st (placed_start f (length f.wires) (count_max (length f.wires) (λ n. live f at_start (wire_id n))))

  -- placing the Output wires moves no live wire
  outputs_kept : (p : Progress) (place : Place) (n : ℕ) (v : WireId) → live f p v ≡ true → place_outputs f p place n v ≡ place v
  outputs_kept p place zero v on = refl
  outputs_kept p place (suc n) v on = by (is_output (end_of f (wire_id n))) (outputs_kept p place n v on)
    where
      by : (b : Bool) → place_outputs f p place n v ≡ place v → cond b (place_wire f (on_below f p n) (place_outputs f p place n) (wire_id n)) (place_outputs f p place n) v ≡ place v
      by true ih = place_kept f (on_below f p n) (place_outputs f p place n) (Some (wire_id n)) v (or_left (live f p v) (is_output (end_of f v) && nat_lt v.number n) on) ∙ ih
      by false ih = ih

  plan_agree : (moves : List Move) → IsPlan f moves
      → do_all_placed outcome (placed_from f at_start (first_place f) moves) (first_term (first_row f input) ∷ []) ≡ spread_all f (λ w. is_output (end_of f w)) (place_plan f moves) (do_moves f outcome moves (first_term input ∷ []))
  plan_agree moves plan = agree moves plan.stand ∙ spread_each f (live f p) (λ w. is_output (end_of f w)) place (place_plan f moves) ts (all_map (Idle (live f p)) Same each_same ts (idle_after moves plan.stand))
    where
      p : Progress
      p = progress f at_start moves

      place : Place
      place = place_all f at_start (first_place f) moves

      ts : List Term
      ts = do_moves f outcome moves (first_term input ∷ [])

      Same : Term → Type 0
      Same u = (v : WireId) → u.row v.number ≡ true → (live f p v ≡ is_output (end_of f v)) × (live f p v ≡ true → place v ≡ place_plan f moves v)

      output : (v : WireId) → live f p v ≡ true → is_output (end_of f v) ≡ true
      output v on = true_from_ne_false (is_output (end_of f v)) (λ o. both_ways (live f p v) (others_not_live f ok p (tracked_all f moves at_start (tracked_start f) plan.stand) plan.end v o) on)

      each_same : (u : Term) → Idle (live f p) u → Same u
      each_same u idle v e = let on = one_live (live f p) u idle v e in (on ∙ sym (output v on), λ g. sym (outputs_kept p place (length f.wires) v g))

pub placed_moves_agree : PlacedMovesAgree
placed_moves_agree f input outcome moves ok given zeros st = agree f input outcome ok given zeros moves st

pub placed_plans_agree : PlacedPlansAgree
placed_plans_agree f input outcome moves ok given zeros plan = plan_agree f input outcome ok given zeros moves plan

-- the terms as they are seen at the qubits of some wires
module _ (f : FlatForm) (on : WireId → Bool) (place : Place) (apart : Apart f on place) where
  values_spread : (wires : List WireId) (row : Row) → All (λ w. (w.number < length f.wires) × (on w ≡ true)) wires → values_of (map (to_qubit place) wires) (spread f on place row) ≡ values_of wires row
  values_spread [] row all = refl
  values_spread (w ∷ ws) row all =
      let here = All-head (λ v. (v.number < length f.wires) × (on v ≡ true)) w ws all in
      ap₂ (λ (x : Bool) (xs : List Bool). x ∷ xs) (spread-at f on place row apart w here.0 here.1) (values_spread ws row (All-tail (λ v. (v.number < length f.wires) × (on v ≡ true)) w ws all))

  seen_spread : (wires : List WireId) (ts : List Term) → All (λ w. (w.number < length f.wires) × (on w ≡ true)) wires → seen_at (map (to_qubit place) wires) (spread_all f on place ts) ≡ seen_at wires ts
  seen_spread wires [] all = refl
  seen_spread wires (t ∷ ts) all = ap₂ (λ (x : List Bool) (xs : List (List Bool × Amp)). (x, weight t) ∷ xs) (values_spread wires t.row all) (seen_spread wires ts all)

all_wires : (These Those : WireId → Type 0) → ((w : WireId) → These w → Those w) → (ws : List WireId) → All These ws → All Those ws
all_wires these those g [] h = All-nil those
all_wires these those g (w ∷ ws) h = All-cons those w ws (g w (All-head these w ws h)) (all_wires these those g ws (All-tail these w ws h))

pub circuit_gives_paths : CircuitGivesPaths
circuit_gives_paths f input outcome moves ok given zeros plan wires values all =
    let ts = do_moves f outcome moves (first_term input ∷ []) in
    let pl = outputs_apart f moves (width f moves) ok plan (le_refl (width f moves)) in
    ap (λ (us : List Term). amplitude values (seen_at (map (to_qubit (place_plan f moves)) wires) us)) (placed_plans_agree f input outcome moves ok given zeros plan)
    ∙ ap (amplitude values) (seen_spread f (λ w. is_output (end_of f w)) (place_plan f moves) (apart_of f (λ w. is_output (end_of f w)) (width f moves) (place_plan f moves) pl) wires ts (all_wires (λ w. (w.number < length f.wires) × (end_of f w ≡ Output)) (λ w. (w.number < length f.wires) × (is_output (end_of f w) ≡ true)) (λ w h. (h.0, ap is_output h.1)) wires all))
    ∙ moves_give_amplitudes f input outcome moves ok given zeros plan wires values (all_wires (λ w. (w.number < length f.wires) × (end_of f w ≡ Output)) (λ w. end_of f w ≡ Output) (λ w h. h.1) wires all)

output_is : (e : End) → is_output e ≡ true → e ≡ Output
output_is Output h = refl
output_is Dropped h = absurd (cc)
output_is Measured h = absurd (cc)
output_is Zeroed h = absurd (cc)

pub other_qubits_zero : OtherQubitsZero
other_qubits_zero f input outcome moves ok given zeros plan j none =
    All-same (λ t. t.row j ≡ false) _ _ (placed_plans_agree f input outcome moves ok given zeros plan)
    (All-map (λ t. t.row j ≡ false) (spread_term f (λ w. is_output (end_of f w)) (place_plan f moves)) ts (zero ts))
  where
    ts : List Term
    ts = do_moves f outcome moves (first_term input ∷ [])

    at : (row : Row) (k : ℕ) → k < length f.wires → (a b : Bool) → is_output (end_of f (wire_id k)) ≡ a → (place_plan f moves (wire_id k) == j) ≡ b → (a && b && row k) ≡ false
    at row k kl false b ea eb = refl
    at row k kl true false ea eb = refl
    at row k kl true true ea eb = absurd (none (wire_id k) kl (output_is (end_of f (wire_id k)) ea) (eqb-true _ j eb))

    zero : (us : List Term) → All (λ t. spread f (λ w. is_output (end_of f w)) (place_plan f moves) t.row j ≡ false) us
    zero [] = All-nil (λ t. spread f (λ w. is_output (end_of f w)) (place_plan f moves) t.row j ≡ false)
    zero (u ∷ us) = All-cons (λ t. spread f (λ w. is_output (end_of f w)) (place_plan f moves) t.row j ≡ false) u us (any_none (length f.wires) (λ k. is_output (end_of f (wire_id k)) && (place_plan f moves (wire_id k) == j) && u.row k) (λ k kl. at u.row k kl (is_output (end_of f (wire_id k))) (place_plan f moves (wire_id k) == j) refl refl)) (zero us)

-- the qubits of the inputs
module _ (f : FlatForm) (input : ℕ → Bool) where
  pub first_row-is : (j : ℕ) → first_row f (input_row f.wires input) j ≡ (nat_lt j (count_inputs f.wires) && input j)
  first_row-is j = elim (cases_lt j (count_inputs f.wires)) [
    | inl l ↦
        let g = find_input f (length f.wires) j (le_refl (length f.wires)) (subst (λ n. j < n) (sym (all_before f)) l) in
        let pl = placed_start f (length f.wires) (count_max (length f.wires) (λ n. live f at_start (wire_id n))) in
        ap (first_row f (input_row f.wires input)) (sym (first_is f g.0 g.2 ∙ g.3))
        ∙ spread-at f (live f at_start) (first_place f) (input_row f.wires input) (apart_of f (live f at_start) (length f.wires) (first_place f) pl) g.0 g.1 (live_start f g.0 ∙ g.2)
        ∙ ap₂ (λ b n. b && input n) g.2 g.3
        ∙ sym (ap (λ b. b && input j) (lt-ltb j (count_inputs f.wires) l))
    | inr past ↦
        any_none (length f.wires) _ (λ k kl. none past k kl (live f at_start (wire_id k)) (first_place f (wire_id k) == j) refl refl)
        ∙ sym (ap (λ b. b && input j) (le-ltb j (count_inputs f.wires) past))
  ]
    where
      none : count_inputs f.wires ≤ j → (k : ℕ) → k < length f.wires → (a b : Bool) → live f at_start (wire_id k) ≡ a → (first_place f (wire_id k) == j) ≡ b → (a && b && input_row f.wires input k) ≡ false
      none past k kl false b ea eb = refl
      none past k kl true false ea eb = refl
      none past k kl true true ea eb =
          let on : is_input f (wire_id k) ≡ true = sym (live_start f (wire_id k)) ∙ ea in
          let less : inputs_before f.wires k + 1 ≤ inputs_before f.wires (length f.wires) = first_less f k (length f.wires) kl (le_refl (length f.wires)) on in
          let at : inputs_before f.wires k ≡ j = sym (first_is f (wire_id k) on) ∙ eqb-true (first_place f (wire_id k)) j eb in
          let all = all_before f in
          absurd (omega (arith, less, at, all, past))

pub inputs_stand_first : InputsStandFirst
inputs_stand_first f input j = first_row-is f input j
