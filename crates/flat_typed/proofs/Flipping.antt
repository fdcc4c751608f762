-- Rows of X and P steps: which wires they leave as they were.
use Rattle.std.proofs.Common.{◌≡◌, ℕ, zero, suc, ◌+◌, ◌%◌, ◌≤◌, ◌<◌, Bool, true, false, cond, ◌&&◌, ◌||◌, ◌==◌, List, [], ◌∷◌, ◌++◌, length, Option, Some, None, refl, ap, ◌∙◌, arith, length-append, ◌⊎◌, inl, inr}
use Rattle.std.specs.Prelude.{get_or}
use Rattle.std.proofs.Math.Bool.{or-false}
use Rattle.std.proofs.lemmas.Bool.{ne_eqb, cases_lt}
use Rattle.std.proofs.lemmas.List.{get_or_append_left}
use Rattle.std.proofs.lemmas.List.Folds.{list_any-append}
use Rattle.flat_core.specs.declared.step.Step.TheVariants.{X, P}
use Rattle.flat_core.specs.declared.step.WireId.{WireId}
use Rattle.flat_core.specs.declared.step.Lit.{Lit}
use Rattle.flat_core.specs.declared.step.End.TheVariants.{Dropped}
use Rattle.flat_core.specs.Form.{WireForm}
use Rattle.flat_core.specs.Label.{wire_id, same_wire, label_after, wire_in, no_wire}
use Rattle.flat_core.specs.Drafts.{is_measured}
use Rattle.flat_core.proofs.Labels.{label_after-push, is_measured-push}
use Rattle.bit_arith.specs.declared.operand.Operand.{Operand}
use Rattle.bit_arith.specs.declared.operand.Operand.TheVariants.{Const, Literal}
use Rattle.bit_arith.specs.Built.{Built, Setting, push, new_wire, new_wires, next_wire, next_wires, wires_from, plus, made, all_made, negated, all_negated, top_negated, read, literals, under}
use Rattle.bit_arith.specs.Rows.{gathered, flip_lits, all_but_last, last_of, flip_if_any, flip, turn_lits, turn, flip_by, flip_up, flip_down, alone, singles, products, copy, flip_each, carry_bit, carries, carry, sum_by, sum, difference, into_by, add_into, sub_into, lower, product_into, product, both, either, differ_as, differ, matches, all_of, equal, borrow, less}
use Rattle.bit_arith.specs.Calls.{Targets}
use Rattle.bit_arith.proofs.Making.{length-wires}
use Rattle.flat_form.specs.Names.{AllOf}
use Rattle.flat_typed.specs.Footprint.{is_mixed}

-- a wire as it is made
abbrev pub new_form : WireForm
new_form = record { input = false; ending = Dropped }

-- of the first n wires none but those of a set is flipped; none is measured or mixed, wires stay, and new ones are no inputs
pub record Flips (T : Targets) (n : ℕ) (b e : Built) : Type 0 where
  pub few : length b.draft.wires ≤ length e.draft.wires
  pub labels : (w : WireId) → w.number < n → T w ≡ false → label_after e.draft.steps w ≡ label_after b.draft.steps w
  pub measured : (w : WireId) → is_measured e.draft.steps w ≡ is_measured b.draft.steps w
  pub mixed : (w : WireId) → is_mixed e.draft.steps w ≡ is_mixed b.draft.steps w
  pub wires : (w : WireId) → w.number < length b.draft.wires → wire_in e.draft.wires w ≡ wire_in b.draft.wires w
  pub new : (w : WireId) → length b.draft.wires ≤ w.number → w.number < length e.draft.wires → wire_in e.draft.wires w ≡ new_form

-- a wire of the set, or none of the first n
abbrev pub MayFlip : Targets → ℕ → WireId → Type 0
MayFlip T n w = (v : WireId) → v.number < n → T v ≡ false → same_wire w v ≡ false

and_zero : (a : Bool) → (a && false) ≡ false
and_zero true = refl
and_zero false = refl

last_form : (ws : List WireForm) (f : WireForm) (k : ℕ) → length ws ≤ k → k < length ws + 1 → get_or (ws ++ f ∷ []) k no_wire ≡ f
last_form [] f zero le lt = refl
last_form [] f (suc k) le lt = absurd (omega (arith, lt))
last_form (w ∷ ws) f zero le lt = absurd (omega (arith, le))
last_form (w ∷ ws) f (suc k) le lt = last_form ws f k (omega (arith, le)) (omega (arith, lt))

pub one_longer : (b : Built) → length (new_wire b).draft.wires ≡ length b.draft.wires + 1
one_longer b = length-append b.draft.wires (new_form ∷ [])

module _ (T : Targets) (n : ℕ) where
  pub flips_same : (b : Built) → Flips T n b b
  flips_same b = record { few = omega arith; labels = λ w l t. refl; measured = λ w. refl; mixed = λ w. refl; wires = λ w l. refl; new = λ w le lt. absurd (omega (arith, le, lt)) }

  pub flips_then : {b m e : Built} → Flips T n b m → Flips T n m e → Flips T n b e
  flips_then {b} {m} {e} f g = record {
    few = let p = f.few in let q = g.few in omega (arith, p, q);
    labels = λ w l t. g.labels w l t ∙ f.labels w l t;
    measured = λ w. g.measured w ∙ f.measured w;
    mixed = λ w. g.mixed w ∙ f.mixed w;
    wires = λ w l. g.wires w (let p = f.few in omega (arith, p, l)) ∙ f.wires w l;
    new = λ w le lt. new w le lt (cases_lt w.number (length m.draft.wires));
  }
    where
      new : (w : WireId) → length b.draft.wires ≤ w.number → w.number < length e.draft.wires → (w.number < length m.draft.wires) ⊎ (length m.draft.wires ≤ w.number) → wire_in e.draft.wires w ≡ new_form
      new w le lt (inl l) = g.wires w l ∙ f.new w le l
      new w le lt (inr l) = g.new w l lt

  -- ---- a wire and a step more

  flips_wire : (b : Built) → Flips T n b (new_wire b)
  flips_wire b = record {
    few = let l = one_longer b in omega (arith, l);
    labels = λ w l t. refl;
    measured = λ w. refl;
    mixed = λ w. refl;
    wires = λ w l. get_or_append_left b.draft.wires (new_form ∷ []) no_wire w.number l;
    new = λ w le lt. last_form b.draft.wires new_form w.number le (let l = one_longer b in omega (arith, l, lt));
  }

  pub flips_wires : (k : ℕ) (b : Built) → Flips T n b (new_wires k b)
  flips_wires zero b = flips_same b
  flips_wires (suc k) b = flips_then (flips_wire b) (flips_wires k (new_wire b))

  push_x : (at : Setting) (w : WireId) (a c : Option Lit) (b : Built) → MayFlip T n w → Flips T n b (push at (X w a c) b)
  push_x at w a c b may = record {
    few = omega arith;
    labels = λ v l t. label_after-push b.draft.steps (X w a c) v ∙ plus_none v (may v l t);
    measured = λ v. is_measured-push b.draft.steps (X w a c) v ∙ or-false (is_measured b.draft.steps v);
    mixed = λ v. list_any-append _ b.draft.steps (X w a c ∷ []) ∙ (ap (λ x. is_mixed b.draft.steps v || (x || false)) (and_zero (same_wire w v)) ∙ or-false (is_mixed b.draft.steps v));
    wires = λ v l. refl;
    new = λ v le lt. absurd (omega (arith, le, lt));
  }
    where
      plus_none : (v : WireId) → same_wire w v ≡ false → label_after b.draft.steps v + cond (same_wire w v) 1 0 ≡ label_after b.draft.steps v
      plus_none v e = ap (λ t. label_after b.draft.steps v + cond t 1 0) e ∙ omega arith

  push_p : (at : Setting) (k : ℕ) (c : Lit) (b : Built) → Flips T n b (push at (P k c) b)
  push_p at k c b = record {
    few = omega arith;
    labels = λ v l t. label_after-push b.draft.steps (P k c) v ∙ omega arith;
    measured = λ v. is_measured-push b.draft.steps (P k c) v ∙ or-false (is_measured b.draft.steps v);
    mixed = λ v. list_any-append _ b.draft.steps (P k c ∷ []) ∙ or-false (is_mixed b.draft.steps v);
    wires = λ v l. refl;
    new = λ v le lt. absurd (omega (arith, le, lt));
  }

  -- ---- wires that may be flipped

  new_may : (w : WireId) → n ≤ w.number → MayFlip T n w
  new_may w le v l t = ne_eqb w.number v.number (λ e. omega (arith, e, le, l))

  next_may : (b : Built) → n ≤ length b.draft.wires → MayFlip T n (next_wire b)
  next_may b le = new_may (next_wire b) le

  wires_may : (first k : ℕ) → n ≤ first → AllOf (MayFlip T n) (wires_from first k)
  wires_may first zero le = tt
  wires_may first (suc k) le = (new_may (wire_id first) le, wires_may (suc first) k (omega (arith, le)))

  later : {b e : Built} → Flips T n b e → n ≤ length b.draft.wires → n ≤ length e.draft.wires
  later f le = let p = f.few in omega (arith, p, le)

  -- ---- conjunctions, flips, phases

  gathered_f : (at : Setting) (a : Lit) (cs : List Lit) (b : Built) → n ≤ length b.draft.wires → Flips T n b (gathered at a cs b).built
  gathered_f at a [] b le = flips_same b
  gathered_f at a (c ∷ cs) b le =
      flips_then (flips_wire b) (flips_then (push_x at (next_wire b) (Some a) (Some c) (new_wire b) (next_may b le))
      (gathered_f at (plus (next_wire b)) cs (push at (X (next_wire b) (Some a) (Some c)) (new_wire b)) (later (flips_wire b) le)))

  flip_lits_f : (at : Setting) (w : WireId) (ls : List Lit) (b : Built) → n ≤ length b.draft.wires → MayFlip T n w → Flips T n b (flip_lits at w ls b)
  flip_lits_f at w [] b le may = push_x at w None None b may
  flip_lits_f at w (a ∷ []) b le may = push_x at w (Some a) None b may
  flip_lits_f at w (a ∷ c ∷ cs) b le may =
      let front = gathered at a (all_but_last c cs) b in
      flips_then (gathered_f at a (all_but_last c cs) b le) (push_x at w (Some front.answer) (Some (last_of c cs)) front.built may)

  flip_any_f : (at : Setting) (w : WireId) (o : Option (List Lit)) (b : Built) → n ≤ length b.draft.wires → MayFlip T n w → Flips T n b (flip_if_any at w o b)
  flip_any_f at w None b le may = flips_same b
  flip_any_f at w (Some ls) b le may = flip_lits_f at w ls b le may

  pub flips_flip : (at : Setting) (w : WireId) (ps : List Operand) (b : Built) → n ≤ length b.draft.wires → MayFlip T n w → Flips T n b (flip at w ps b)
  unfolding flip
  flips_flip at w ps b le may = flip_any_f at w (literals b.draft (under at ps)) b le may

  turn_lits_f : (at : Setting) (k : ℕ) (o : Option (List Lit)) (b : Built) → n ≤ length b.draft.wires → Flips T n b (turn_lits at k o b)
  turn_lits_f at k None b le = flips_same b
  turn_lits_f at k (Some []) b le =
      flips_then (flips_wire b) (flips_then (push_x at (next_wire b) None None (new_wire b) (next_may b le)) (push_p at k (plus (next_wire b)) (push at (X (next_wire b) None None) (new_wire b))))
  turn_lits_f at k (Some (l ∷ ls)) b le = let whole = gathered at l ls b in flips_then (gathered_f at l ls b le) (push_p at k whole.answer whole.built)

  turn_if_f : (t : Bool) (b e : Built) → Flips T n b e → Flips T n b (cond t b e)
  turn_if_f true b e f = flips_same b
  turn_if_f false b e f = f

  pub flips_turn : (at : Setting) (k : ℕ) (ps : List Operand) (b : Built) → n ≤ length b.draft.wires → Flips T n b (turn at k ps b)
  unfolding turn
  flips_turn at k ps b le = turn_if_f (k % 8 == 0) b (turn_lits at (k % 8) (literals b.draft (under at ps)) b) (turn_lits_f at (k % 8) (literals b.draft (under at ps)) b le)

  -- ---- several flips

  flip_by_f : (at : Setting) (w : WireId) (pss : List (List Operand)) (b : Built) → n ≤ length b.draft.wires → MayFlip T n w → Flips T n b (flip_by at w pss b)
  flip_by_f at w [] b le may = flips_same b
  flip_by_f at w (ps ∷ pss) b le may = flips_then (flips_flip at w ps b le may) (flip_by_f at w pss (flip at w ps b) (later (flips_flip at w ps b le may) le) may)

  flip_up_f : (at : Setting) (ws : List WireId) (cs : List (List (List Operand))) (b : Built) → n ≤ length b.draft.wires → AllOf (MayFlip T n) ws → Flips T n b (flip_up at ws cs b)
  flip_up_f at [] [] b le may = flips_same b
  flip_up_f at [] (c ∷ cs) b le may = flips_same b
  flip_up_f at (w ∷ ws) [] b le may = flips_same b
  flip_up_f at (w ∷ ws) (c ∷ cs) b le may = flips_then (flip_by_f at w c b le may.0) (flip_up_f at ws cs (flip_by at w c b) (later (flip_by_f at w c b le may.0) le) may.1)

  flip_down_f : (at : Setting) (ws : List WireId) (cs : List (List (List Operand))) (b : Built) → n ≤ length b.draft.wires → AllOf (MayFlip T n) ws → Flips T n b (flip_down at ws cs b)
  flip_down_f at [] [] b le may = flips_same b
  flip_down_f at [] (c ∷ cs) b le may = flips_same b
  flip_down_f at (w ∷ ws) [] b le may = flips_same b
  flip_down_f at (w ∷ ws) (c ∷ cs) b le may =
      flips_then (flip_down_f at ws cs b le may.1) (flip_by_f at w c (flip_down at ws cs b) (later (flip_down_f at ws cs b le may.1) le) may.0)

  -- flips of new wires
  new_up_f : (at : Setting) (k : ℕ) (cs : List (List (List Operand))) (b e : Built) → n ≤ length b.draft.wires → Flips T n (new_wires k b) e → Flips T n b (flip_up at (next_wires k b) cs e)
  new_up_f at k cs b e le f =
      flips_then (flips_wires k b) (flips_then f (flip_up_f at (next_wires k b) cs e (later f (later (flips_wires k b) le)) (wires_may (length b.draft.wires) k le)))

  pub flips_copy : (at : Setting) (ps : List Operand) (b : Built) → n ≤ length b.draft.wires → Flips T n b (copy at ps b).built
  unfolding copy
  flips_copy at ps b le = new_up_f at (length ps) (singles ps) b (new_wires (length ps) b) le (flips_same (new_wires (length ps) b))

  pub flips_each : (at : Setting) (ws : List WireId) (ps : List Operand) (b : Built) → n ≤ length b.draft.wires → AllOf (MayFlip T n) ws → Flips T n b (flip_each at ws ps b)
  unfolding flip_each
  flips_each at ws ps b le may = flip_up_f at ws (singles ps) b le may

  -- ---- sums

  pub carry_bit_f : (at : Setting) (p q c : Operand) (b : Built) → n ≤ length b.draft.wires → Flips T n b (carry_bit at (next_wire b) p q c (new_wire b))
  carry_bit_f at p q c b le = flips_then (flips_wire b) (flip_by_f at (next_wire b) ((p ∷ q ∷ []) ∷ (p ∷ c ∷ []) ∷ (q ∷ c ∷ []) ∷ []) (new_wire b) (later (flips_wire b) le) (next_may b le))

  carries_f : (at : Setting) (c : Operand) (ps qs : List Operand) (b : Built) → n ≤ length b.draft.wires → Flips T n b (carries at c ps qs b).built
  carries_f at c [] [] b le = flips_same b
  carries_f at c [] (q ∷ qs) b le = flips_same b
  carries_f at c (p ∷ []) [] b le = flips_same b
  carries_f at c (p ∷ []) (q ∷ qs) b le = flips_same b
  carries_f at c (p ∷ r ∷ ps) [] b le = flips_same b
  carries_f at c (p ∷ r ∷ ps) (q ∷ qs) b le =
      flips_then (carry_bit_f at p q c b le) (carries_f at (made (next_wire b)) (r ∷ ps) qs (carry_bit at (next_wire b) p q c (new_wire b)) (later (carry_bit_f at p q c b le) le))

  carry_f : (at : Setting) (ps qs : List Operand) (b : Built) → n ≤ length b.draft.wires → Flips T n b (carry at ps qs b).built
  unfolding carry
  carry_f at ps qs b le = carries_f at (Const false) ps qs b le

  sum_by_f : (at : Setting) (rs ps qs : List Operand) (b : Built) → n ≤ length b.draft.wires → Flips T n b (sum_by at rs ps qs b).built
  sum_by_f at rs ps qs b le = new_up_f at (length ps) _ b _ le (carry_f at rs qs (new_wires (length ps) b) (later (flips_wires (length ps) b) le))

  pub flips_sum : (at : Setting) (ps qs : List Operand) (b : Built) → n ≤ length b.draft.wires → Flips T n b (sum at ps qs b).built
  unfolding sum
  flips_sum at ps qs b le = sum_by_f at ps ps qs b le

  pub flips_difference : (at : Setting) (ps qs : List Operand) (b : Built) → n ≤ length b.draft.wires → Flips T n b (difference at ps qs b).built
  unfolding difference
  flips_difference at ps qs b le = sum_by_f at (all_negated ps) ps qs b le

  into_by_f : (at : Setting) (rs : List Operand) (ws : List WireId) (qs : List Operand) (b : Built) → n ≤ length b.draft.wires → AllOf (MayFlip T n) ws → Flips T n b (into_by at rs ws qs b)
  into_by_f at rs ws qs b le may = flips_then (carry_f at rs qs b le) (flip_down_f at ws _ _ (later (carry_f at rs qs b le) le) may)

  pub flips_add : (at : Setting) (ws : List WireId) (qs : List Operand) (b : Built) → n ≤ length b.draft.wires → AllOf (MayFlip T n) ws → Flips T n b (add_into at ws qs b)
  unfolding add_into
  flips_add at ws qs b le may = into_by_f at (all_made ws) ws qs b le may

  pub flips_sub : (at : Setting) (ws : List WireId) (qs : List Operand) (b : Built) → n ≤ length b.draft.wires → AllOf (MayFlip T n) ws → Flips T n b (sub_into at ws qs b)
  unfolding sub_into
  flips_sub at ws qs b le may = into_by_f at (all_negated (all_made ws)) ws qs b le may

  -- ---- products

  product_into_f : (at : Setting) (ws : List WireId) (ps qs : List Operand) (b : Built) → n ≤ length b.draft.wires → AllOf (MayFlip T n) ws → Flips T n b (product_into at ws ps qs b)
  product_into_f at [] [] qs b le may = flips_same b
  product_into_f at [] (p ∷ ps) qs b le may = flips_same b
  product_into_f at (w ∷ ws) [] qs b le may = flips_same b
  product_into_f at (w ∷ ws) (p ∷ ps) qs b le may =
      let multiple = next_wires (length qs) b in
      let up : Built = flip_up at multiple (products p qs) (new_wires (length qs) b) in
      let f : Flips T n b up = new_up_f at (length qs) (products p qs) b (new_wires (length qs) b) le (flips_same (new_wires (length qs) b)) in
      let g : Flips T n up (add_into at (w ∷ ws) (all_made multiple) up) = flips_add at (w ∷ ws) (all_made multiple) up (later f le) may in
      flips_then (flips_then f g) (product_into_f at ws ps (lower qs) (add_into at (w ∷ ws) (all_made multiple) up) (later (flips_then f g) le) may.1)

  pub flips_product : (at : Setting) (ps qs : List Operand) (b : Built) → n ≤ length b.draft.wires → Flips T n b (product at ps qs b).built
  unfolding product
  flips_product at ps qs b le =
      flips_then (flips_wires (length ps) b) (product_into_f at (next_wires (length ps) b) ps qs (new_wires (length ps) b) (later (flips_wires (length ps) b) le) (wires_may (length b.draft.wires) (length ps) le))

  -- ---- tests

  pub flips_both : (at : Setting) (p q : Operand) (b : Built) → n ≤ length b.draft.wires → Flips T n b (both at p q b).built
  unfolding both
  flips_both at p q b le = flips_then (flips_wire b) (flips_flip at (next_wire b) (p ∷ q ∷ []) (new_wire b) (later (flips_wire b) le) (next_may b le))

  pub flips_either : (at : Setting) (p q : Operand) (b : Built) → n ≤ length b.draft.wires → Flips T n b (either at p q b).built
  unfolding either
  flips_either at p q b le = flips_both at (negated p) (negated q) b le

  differ_as_f : (at : Setting) (x y p q : Operand) (b : Built) → n ≤ length b.draft.wires → Flips T n b (differ_as at x y p q b).built
  differ_as_f at (Const x) (Const y) p q b le = flips_same b
  differ_as_f at (Const x) (Literal m) p q b le = flips_same b
  differ_as_f at (Literal l) (Const y) p q b le = flips_same b
  differ_as_f at (Literal l) (Literal m) p q b le = flips_then (flips_wire b) (flip_by_f at (next_wire b) (alone p ∷ alone q ∷ []) (new_wire b) (later (flips_wire b) le) (next_may b le))

  pub differ_f : (at : Setting) (p q : Operand) (b : Built) → n ≤ length b.draft.wires → Flips T n b (differ at p q b).built
  differ_f at p q b le = differ_as_f at (read b.draft p) (read b.draft q) p q b le

  pub matches_f : (at : Setting) (ps qs : List Operand) (b : Built) → n ≤ length b.draft.wires → Flips T n b (matches at ps qs b).built
  matches_f at [] [] b le = flips_same b
  matches_f at [] (q ∷ qs) b le = flips_same b
  matches_f at (p ∷ ps) [] b le = flips_same b
  matches_f at (p ∷ ps) (q ∷ qs) b le = flips_then (differ_f at p q b le) (matches_f at ps qs (differ at p q b).built (later (differ_f at p q b le) le))

  all_of_f : (at : Setting) (ms : List Operand) (b : Built) → n ≤ length b.draft.wires → Flips T n b (all_of at ms b).built
  all_of_f at [] b le = flips_then (flips_wire b) (flips_flip at (next_wire b) [] (new_wire b) (later (flips_wire b) le) (next_may b le))
  all_of_f at (m ∷ []) b le = flips_same b
  all_of_f at (m ∷ k ∷ ms) b le = flips_then (flips_wire b) (flips_flip at (next_wire b) (m ∷ k ∷ ms) (new_wire b) (later (flips_wire b) le) (next_may b le))

  pub flips_equal : (at : Setting) (ps qs : List Operand) (b : Built) → n ≤ length b.draft.wires → Flips T n b (equal at ps qs b).built
  unfolding equal
  flips_equal at ps qs b le =
      let ms = matches at ps qs b in flips_then (matches_f at ps qs b le) (all_of_f at ms.answer ms.built (later (matches_f at ps qs b le) le))

  borrow_f : (at : Setting) (c : Operand) (ps qs : List Operand) (b : Built) → n ≤ length b.draft.wires → Flips T n b (borrow at c ps qs b).built
  borrow_f at c [] [] b le = flips_same b
  borrow_f at c [] (q ∷ qs) b le = flips_same b
  borrow_f at c (p ∷ ps) [] b le = flips_same b
  borrow_f at c (p ∷ ps) (q ∷ qs) b le =
      flips_then (carry_bit_f at (negated p) q c b le) (borrow_f at (made (next_wire b)) ps qs (carry_bit at (next_wire b) (negated p) q c (new_wire b)) (later (carry_bit_f at (negated p) q c b le) le))

  pub flips_less : (at : Setting) (t : Bool) (ps qs : List Operand) (b : Built) → n ≤ length b.draft.wires → Flips T n b (less at t ps qs b).built
  unfolding less
  flips_less at true ps qs b le = borrow_f at (Const false) (top_negated ps) (top_negated qs) b le
  flips_less at false ps qs b le = borrow_f at (Const false) ps qs b le

-- a copy has a new wire for each operand
pub copy_longer : (at : Setting) (ps : List Operand) (b : Built) → length b.draft.wires + length ps ≤ length (copy at ps b).built.draft.wires
unfolding copy
copy_longer at ps b =
    let f = flip_up_f (λ w. false) 0 at (next_wires (length ps) b) (singles ps) (new_wires (length ps) b) (omega arith) (wires_may (λ w. false) 0 (length b.draft.wires) (length ps) (omega arith)) in
    let l = length-wires (length ps) b in
    let q = f.few in
    omega (arith, l, q)

pub copy_answer : (at : Setting) (ps : List Operand) (b : Built) → (copy at ps b).answer ≡ next_wires (length ps) b
unfolding copy
copy_answer at ps b = refl
