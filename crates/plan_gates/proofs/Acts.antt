-- A placed move does to the bits of a register what it does to the values of the qubits.
use Rattle.std.proofs.Common.{◌≡◌, ℕ, ◌+◌, ◌<◌, Bool, true, false, cond, not, ◌==◌, ◌&&◌, ◌||◌, Option, Some, None, List, [], ◌∷◌, ◌++◌, map, set, refl, sym, ◌∙◌, ap, ap₂, arith, eqb-true}
use Rattle.std.specs.Bool.{beq}
use Rattle.std.proofs.lemmas.List.{map-append}
use Rattle.std.proofs.lemmas.Bool.Decides.{nat_tests}
use Rattle.std.proofs.Math.Path.{fun_ext}
use Rattle.amp_core.specs.Amplitude.{one, times}
use Rattle.amp_core.proofs.Amplitudes.{times_twice}
use Rattle.sum_laws.specs.Terms.{branched, apply, same_bit}
use Rattle.flat_core.specs.declared.step.Step.{Step}
use Rattle.flat_core.specs.declared.step.Step.TheVariants.{X, H, P, M}
use Rattle.flat_core.specs.declared.step.End.{End}
use Rattle.flat_core.specs.declared.step.End.TheVariants.{Output, Dropped, Measured as MeasuredWire, Zeroed}
use Rattle.flat_core.specs.declared.step.Lit.{Lit}
use Rattle.flat_mean.specs.Row.{Row, put, bits_of, flipped as flipped_value, holds as holds_in}
use Rattle.flat_mean.specs.Terms.{Term, weight, do_step, each}
use Rattle.gate_core.specs.Meaning.{bit_at, turned, flipped_if, halved}
use Rattle.gate_emit.specs.Moves.{holds}
use Rattle.gate_emit.specs.Plans.{effect_of, run_moves, MoveFits, measured_after, Sound}
use Rattle.qubit_alloc.specs.declared.placed.Placed.{Placed}
use Rattle.qubit_alloc.specs.Spread.{lit_at, step_placed, flip_qubit, do_placed_step, do_placed, do_all_placed}
use Rattle.move_plan.specs.Effect.{is_measured}
use Rattle.plan_gates.specs.Registers.{register, registers}
use Rattle.plan_gates.specs.PlacedMoves.{qubit, control_at, move_of_step, freed_move, move_of_either, move_of_placed}
use Rattle.plan_gates.proofs.Registers.{get-register, set-register}

-- a factor more
weigh_more : (t : Term) (e h : ℕ) → times e h (weight t) ≡ times (t.eighths + e) (t.halvings + h) one
weigh_more t e h = let swap : e + t.eighths ≡ t.eighths + e = omega arith in times_twice e t.eighths h t.halvings one ∙ ap (λ x. times x (t.halvings + h) one) swap

abbrev next_term : Term → Row → ℕ → ℕ → Term
next_term t r h e = record { row = r; halvings = t.halvings + h; eighths = t.eighths + e }

-- one branch is one term
one_term : (n : ℕ) (t : Term) (u : List Bool) (r : Row) (e h : ℕ) → u ≡ register n r → map (branched (weight t)) (record { bits = u; eighths = e; halvings = h } ∷ []) ≡ registers n (next_term t r h e ∷ [])
one_term n t u r e h same = λ i. (same i, weigh_more t e h i) ∷ []

two_terms : (n : ℕ) (t : Term) (u v : List Bool) (r s : Row) (d e h : ℕ) → u ≡ register n r → v ≡ register n s
    → map (branched (weight t)) (record { bits = u; eighths = d; halvings = h } ∷ record { bits = v; eighths = e; halvings = h } ∷ []) ≡ registers n (next_term t r h d ∷ next_term t s h e ∷ [])
two_terms n t u v r s d e h same same' = λ i. (same i, weigh_more t d h i) ∷ (same' i, weigh_more t e h i) ∷ []

put_self : (q : ℕ) (row : Row) (b : Bool) → row q ≡ b → row ≡ put q b row
put_self q row b e = fun_ext (λ k. at k)
  where
    at : (k : ℕ) → row k ≡ put q b row k
    at k = grind (arith, nat_tests, e)

changes_put : (w q : ℕ) (b : Bool) (row : Row) → cond (w == q) b (row q) ≡ put w b row q
changes_put w q b row = grind (arith, nat_tests)

same_beq : (b c : Bool) → same_bit b c ≡ beq b c
same_beq true true = refl
same_beq true false = refl
same_beq false true = refl
same_beq false false = refl

and_true : (b : Bool) → (b && true) ≡ b
and_true true = refl
and_true false = refl

flip_register : (n : ℕ) (row : Row) (q : ℕ) (b : Bool) → q < n → flipped_if b (register n row) q ≡ register n (put q (flipped_value (row q) b) row)
flip_register n row q true l = ap (λ (x : Bool). set (register n row) q (not x)) (get-register n row q l) ∙ set-register n row q (not (row q))
flip_register n row q false l = ap (register n) (put_self q row (row q) refl)

-- a control holds for the bits where it holds for the values
holds_register : (n : ℕ) (row : Row) (q : Option ℕ) (l : Lit) → qubit q < n → holds (control_at q l) (register n row) ≡ holds_in row (Some (lit_at q l))
holds_register n row q l lt = same_beq _ l.positive ∙ ap (λ b. beq b l.positive) (get-register n row (qubit q) lt)

module _ (outcome : List Bool) (n : ℕ) (t : Term) where
  abbrev bits : List Bool
  bits = register n t.row

  flip_acts : (q : ℕ) (b c : Bool) → q < n → b ≡ c → map (branched (weight t)) (turned 0 (flipped_if b bits q)) ≡ registers n (next_term t (λ k. cond (q == k) (flipped_value (t.row q) c) (t.row k)) 0 0 ∷ [])
  flip_acts q b c l e =
      one_term n t (flipped_if b bits q) _ 0 0
      (ap (λ x. flipped_if x bits q) e ∙ flip_register n t.row q c l ∙ ap (register n) (sym (fun_ext (λ k. changes_put q k (flipped_value (t.row q) c) t.row))))

  -- the terms of an H: both bits where it acts, and else the bit as it is
  abbrev had_terms : ℕ → Bool → Bool → List Term
  had_terms q fires b =
      cond ((fires || beq false b) && true) (next_term t (λ k. cond (q == k) (cond fires false b) (t.row k)) (cond fires 1 0) (cond (fires && (b && false)) 4 0) ∷ []) []
      ++ cond ((fires || beq true b) && true) (next_term t (λ k. cond (q == k) (cond fires true b) (t.row k)) (cond fires 1 0) (cond (fires && (b && true)) 4 0) ∷ []) []

  put_register : (q : ℕ) (b : Bool) → set bits q b ≡ register n (λ k. cond (q == k) b (t.row k))
  put_register q b = set-register n t.row q b ∙ ap (register n) (sym (fun_ext (λ k. changes_put q k b t.row)))

  kept_register : (q : ℕ) (b : Bool) → t.row q ≡ b → bits ≡ register n (λ k. cond (q == k) b (t.row k))
  kept_register q b e = ap (register n) (put_self q t.row b e ∙ sym (fun_ext (λ k. changes_put q k b t.row)))

  had_acts : (q : ℕ) (fires b : Bool) → t.row q ≡ b
      → map (branched (weight t)) (cond fires (record { bits = set bits q false; eighths = 0; halvings = 1 } ∷ record { bits = set bits q true; eighths = cond b 4 0; halvings = 1 } ∷ []) (turned 0 bits))
      ≡ registers n (had_terms q fires b)
  had_acts q true true e = two_terms n t (set bits q false) (set bits q true) _ _ 0 4 1 (put_register q false) (put_register q true)
  had_acts q true false e = two_terms n t (set bits q false) (set bits q true) _ _ 0 0 1 (put_register q false) (put_register q true)
  had_acts q false true e = one_term n t bits _ 0 0 (kept_register q true e)
  had_acts q false false e = one_term n t bits _ 0 0 (kept_register q false e)

  hadamard_acts : (q : ℕ) (fires fires' : Bool) → q < n → fires ≡ fires' → map (branched (weight t)) (cond fires (halved bits q) (turned 0 bits)) ≡ registers n (had_terms q fires' (t.row q))
  hadamard_acts q fires fires' l e =
      ap (λ c. map (branched (weight t)) (cond c (halved bits q) (turned 0 bits))) e
      ∙ ap (λ b. map (branched (weight t)) (cond fires' (record { bits = set bits q false; eighths = 0; halvings = 1 } ∷ record { bits = set bits q true; eighths = cond b 4 0; halvings = 1 } ∷ []) (turned 0 bits))) (get-register n t.row q l)
      ∙ had_acts q fires' (t.row q) refl

  kept_or_not : (b c : Bool) → b ≡ c → map (branched (weight t)) (cond b (turned 0 bits) []) ≡ registers n (cond c (next_term t t.row 0 0 ∷ []) [])
  kept_or_not b true e = ap (λ x. map (branched (weight t)) (cond x (turned 0 bits) [])) e ∙ one_term n t bits t.row 0 0 refl
  kept_or_not b false e = ap (λ x. map (branched (weight t)) (cond x (turned 0 bits) [])) e

  step_acts : (k : ℕ) (bs : List ℕ) (pl : Placed) (s : Step) → MoveFits n k bs (move_of_step pl s)
      → map (branched (weight t)) (effect_of outcome (move_of_step pl s) bits) ≡ registers n (do_step (bits_of outcome) (step_placed pl s) t)
  step_acts k bs pl (X w None None) fits = flip_acts (qubit pl.target) true true fits.1.0 refl
  step_acts k bs pl (X w (Some a) None) fits = flip_acts (qubit pl.target) _ _ fits.1.1.0 (holds_register n t.row pl.first a fits.1.0 ∙ sym (and_true _))
  step_acts k bs pl (X w None (Some b)) fits = flip_acts (qubit pl.target) _ _ fits.1.1.0 (holds_register n t.row pl.second b fits.1.0)
  step_acts k bs pl (X w (Some a) (Some b)) fits = flip_acts (qubit pl.target) _ _ fits.1.1.1.0 (ap₂ ◌&&◌ (holds_register n t.row pl.first a fits.1.0) (holds_register n t.row pl.second b fits.1.1.0))
  step_acts k bs pl (H w None) fits = hadamard_acts (qubit pl.target) true true fits.1.0 refl
  step_acts k bs pl (H w (Some a)) fits = hadamard_acts (qubit pl.target) _ _ fits.1.1.0 (holds_register n t.row pl.first a fits.1.0)
  step_acts k bs pl (P e a) fits = ap (λ b. map (branched (weight t)) (turned (cond b e 0) bits)) (holds_register n t.row pl.first a fits.1.0) ∙ one_term n t bits t.row _ 0 refl
  step_acts k bs pl (M w m) fits = kept_or_not _ _ (same_beq _ (bit_at outcome m) ∙ ap (λ b. beq b (bit_at outcome m)) (get-register n t.row (qubit pl.target) fits.0))

  same_term : (r : Row) → t.row ≡ r → next_term t t.row 0 0 ≡ record { row = r; halvings = t.halvings; eighths = t.eighths }
  same_term r e = let h : t.halvings + 0 ≡ t.halvings = omega arith in let g : t.eighths + 0 ≡ t.eighths = omega arith in λ i. record { row = e i; halvings = h i; eighths = g i }

  -- a freed qubit that is not flipped
  stays : (q : Option ℕ) → map (branched (weight t)) (turned 0 bits) ≡ registers n (flip_qubit q false t ∷ [])
  stays None = one_term n t bits t.row 0 0 refl ∙ ap (λ u. registers n (u ∷ [])) (same_term t.row refl)
  stays (Some q) = one_term n t bits t.row 0 0 refl ∙ ap (λ u. registers n (u ∷ [])) (same_term _ (fun_ext (λ i. self (i == q) (t.row i))))
    where
      self : (b x : Bool) → x ≡ cond b (flipped_value x false) x
      self true x = refl
      self false x = refl

  flipped_term : (q : ℕ) (b : Bool) → next_term t (put q (flipped_value (t.row q) b) t.row) 0 0 ≡ flip_qubit (Some q) b t
  flipped_term q b =
      let h : t.halvings + 0 ≡ t.halvings = omega arith in
      let g : t.eighths + 0 ≡ t.eighths = omega arith in
      let e : put q (flipped_value (t.row q) b) t.row ≡ (λ i. cond (i == q) (flipped_value (t.row i) b) (t.row i)) = fun_ext (λ i. here i (i == q) refl) in
      λ i. record { row = e i; halvings = h i; eighths = g i }
    where
      here : (i : ℕ) (c : Bool) → (i == q) ≡ c → cond (i == q) (flipped_value (t.row q) b) (t.row i) ≡ cond (i == q) (flipped_value (t.row i) b) (t.row i)
      here i true e = ap (λ j. cond (i == q) (flipped_value (t.row j) b) (t.row i)) (sym (eqb-true i q e))
      here i false e = ap (λ x. cond x (flipped_value (t.row q) b) (t.row i)) e ∙ ap (λ x. cond x (flipped_value (t.row i) b) (t.row i)) (sym e)

  freed_acts : (k : ℕ) (bs : List ℕ) (pl : Placed) (e : End) (q : Option ℕ) → MoveFits n k bs (freed_move e q pl.bit)
      → map (branched (weight t)) (effect_of outcome (freed_move e q pl.bit) bits) ≡ registers n (flip_qubit q (is_measured e && bit_at outcome pl.bit) t ∷ [])
  freed_acts k bs pl MeasuredWire (Some q) fits = one_term n t _ _ 0 0 (flip_register n t.row q (bit_at outcome pl.bit) fits.0) ∙ ap (λ u. registers n (u ∷ [])) (flipped_term q (bit_at outcome pl.bit))
  freed_acts k bs pl MeasuredWire None fits = stays None
  freed_acts k bs pl Output q fits = stays q
  freed_acts k bs pl Dropped q fits = stays q
  freed_acts k bs pl Zeroed q fits = stays q

  placed_acts : (k : ℕ) (bs : List ℕ) (pl : Placed) → MoveFits n k bs (move_of_placed pl) → map (branched (weight t)) (effect_of outcome (move_of_placed pl) bits) ≡ registers n (do_placed (bits_of outcome) pl t)
  placed_acts k bs pl = either pl.step
    where
      either : (o : Option Step) → MoveFits n k bs (move_of_either pl o) → map (branched (weight t)) (effect_of outcome (move_of_either pl o) bits) ≡ registers n (do_placed_step (bits_of outcome) pl o t)
      either (Some s) fits = step_acts k bs pl s fits
      either None fits = freed_acts k bs pl pl.end pl.target fits

pub each_acts : (n k : ℕ) (bs : List ℕ) (outcome : List Bool) (pl : Placed) (ts : List Term) → MoveFits n k bs (move_of_placed pl) → apply (effect_of outcome (move_of_placed pl)) (registers n ts) ≡ registers n (each (do_placed (bits_of outcome) pl) ts)
unfolding apply
each_acts n k bs outcome pl [] fits = refl
each_acts n k bs outcome pl (t ∷ ts) fits =
    ap₂ ◌++◌ (placed_acts outcome n t k bs pl fits) (each_acts n k bs outcome pl ts fits)
    ∙ sym (map-append (λ (u : Term). (register n u.row, weight u)) (do_placed (bits_of outcome) pl t) (each (do_placed (bits_of outcome) pl) ts))

-- placed moves on registers give the bits of what they give on the values of the qubits
pub moves_act : (n k : ℕ) (bs : List ℕ) (outcome : List Bool) (pls : List Placed) (ts : List Term) → Sound n k bs (map move_of_placed pls)
    → run_moves outcome (map move_of_placed pls) (registers n ts) ≡ registers n (do_all_placed (bits_of outcome) pls ts)
unfolding run_moves
moves_act n k bs outcome [] ts s = refl
moves_act n k bs outcome (pl ∷ pls) ts s =
    ap (run_moves outcome (map move_of_placed pls)) (each_acts n k bs outcome pl ts s.0)
    ∙ moves_act n k (measured_after bs (move_of_placed pl)) outcome pls (each (do_placed (bits_of outcome) pl) ts) s.1
