-- The loops over the wires and over the steps, one round more.
use Rattle.std.proofs.Common.{◌≡◌, ℕ, ◌+◌, ◌<◌, ◌≤◌, ◌%◌, ◌&&◌, Bool, true, false, cond, List, length, slice_set, pos, refl, sym, ◌∙◌, ap, ap₂, subst, inl, inr, arith, add-one, get_or-set_same, get_or-set_other}
use Rattle.std.proofs.Math.Path.{fun_ext}
use Rattle.std.proofs.lemmas.Bool.{cases_eq, cases_lt}
use Rattle.std.proofs.lemmas.List.{get_or_past}
use Rattle.std.proofs.lemmas.List.Sums.{sum_by_more, sum_by-take-le}
use Rattle.amp_core.specs.declared.Amp.{Amp}
use Rattle.amp_core.specs.Amplitude.{Numerator, none, one, times, numerator, over_root_two, times_power_of_w}
use Rattle.amp_core.proofs.Numerators.{times_power_of_w_rest}
use Rattle.flat_core.specs.declared.step.Step.{Step}
use Rattle.flat_core.specs.declared.step.Step.TheVariants.{X, H, P, M}
use Rattle.flat_core.specs.Form.{WireForm, FlatForm}
use Rattle.flat_core.specs.Label.{wire_id, step_id, wire_in, no_wire, EachNamed}
use Rattle.flat_core.specs.Sound.{IsFlat}
use Rattle.flat_mean.specs.declared.path.Factor.{Factor}
use Rattle.flat_mean.specs.Row.{Row, bits_of, holds, next, is_h, is_possible, eighths, halvings}
use Rattle.flat_mean.specs.Path.{step_number, choices_at, row_at, sum_below, all_below, path_weight, path_halvings, path_eighths, inputs_before, count_inputs, input_row}
use Rattle.flat_mean.specs.Factor.{IsStepFactor, IsFactor}
use Rattle.flat_mean.proofs.Local.{possible_bit, eighths_bit}
use Rattle.flat_mean.proofs.Early.{bit_eq, next_bit}

-- w^j over root two^h
pub times_over : (j h : ℕ) → times j 0 (record { a = pos 1; b = pos 0; c = pos 0; d = pos 0; k = h }) ≡ times j h one
unfolding times numerator over_root_two
times_over j h = let e : h + 0 ≡ 0 + h = omega arith in ap (over_root_two (times_power_of_w j (numerator one))) e

-- of eight turns nothing is kept
pub times-rest : (j h : ℕ) (x : Amp) → times (j % 8) h x ≡ times j h x
unfolding times
times-rest j h x = ap (λ (n : Numerator). over_root_two n (x.k + h)) (times_power_of_w_rest j (numerator x))

-- inputs, one wire more
pub inputs_before-more : (wires : List WireForm) (n : ℕ) → n < length wires → inputs_before wires (n + 1) ≡ inputs_before wires n + cond (wire_in wires (wire_id n)).input 1 0
inputs_before-more wires n h = sum_by_more (λ w. cond w.input 1 0) wires n no_wire h

pub inputs_before-below : (wires : List WireForm) (n : ℕ) → n < length wires → (wire_in wires (wire_id n)).input ≡ true → inputs_before wires n < count_inputs wires
inputs_before-below wires n h i =
    let more : inputs_before wires (n + 1) ≡ inputs_before wires n + 1 = inputs_before-more wires n h ∙ ap (λ b. inputs_before wires n + cond b 1 0) i in
    let le : inputs_before wires (n + 1) ≤ count_inputs wires = sum_by-take-le (λ w. cond w.input 1 0) wires (n + 1) in
    omega arith

-- a row with one wire more that has its input bit
pub input_more : (wires : List WireForm) (input : ℕ → Bool) (row : List Bool) (n : ℕ) (b : Bool) → n < length row
    → ((q : ℕ) → q < n → bits_of row q ≡ input_row wires input q)
    → b ≡ input_row wires input n
    → (q : ℕ) → q < n + 1 → bits_of (slice_set row n b) q ≡ input_row wires input q
input_more wires input row n b h before e q l = elim (cases_eq q n) [
  | inl same ↦ ap (bits_of (slice_set row n b)) same ∙ get_or-set_same row n b false h ∙ e ∙ ap (input_row wires input) (sym same)
  | inr other ↦ get_or-set_other row n q b false other ∙ before q (omega arith)
]

-- past the wires there are zeros
pub input_past : (wires : List WireForm) (input : ℕ → Bool) (row : List Bool) → length row ≡ length wires
    → ((q : ℕ) → q < length row → bits_of row q ≡ input_row wires input q)
    → (q : ℕ) → bits_of row q ≡ input_row wires input q
input_past wires input row e h q = elim (cases_lt q (length row)) [
  | inl l ↦ h q l
  | inr past ↦ get_or_past row q false past ∙ ap (λ (w : WireForm). w.input && input (inputs_before wires q)) (sym (get_or_past wires q no_wire (let l : length wires ≤ q = omega arith in l)))
]

-- one step more of a path
pub row_more : (steps : List Step) (input : Row) (choice : ℕ → Bool) (n : ℕ) (row : Row) (bit : Bool)
    → ((q : ℕ) → row q ≡ row_at steps input choice n q)
    → (is_h (step_number steps n) ≡ true → bit ≡ choice (choices_at steps n))
    → (q : ℕ) → next (step_number steps n) bit row q ≡ row_at steps input choice (n + 1) q
row_more steps input choice n row bit h k q =
    ap (λ r. next (step_number steps n) bit r q) (fun_ext h)
    ∙ (ap (λ r. r q) (next_bit (step_number steps n) bit (choice (choices_at steps n)) (row_at steps input choice n) k)
    ∙ ap (λ n. row_at steps input choice n q) (sym (add-one n)))

pub choices_more : (steps : List Step) (n : ℕ) (b : Bool) → is_h (step_number steps n) ≡ b → choices_at steps (n + 1) ≡ choices_at steps n + cond b 1 0
choices_more steps n b h = ap (choices_at steps) (add-one n) ∙ ap (λ v. choices_at steps n + cond v 1 0) h

pub few_if : (b : Bool) → cond b 1 0 ≤ 1
few_if true = omega arith
few_if false = omega arith

-- only an H has a halving
pub few_halvings : (s : Step) (r : Row) → halvings s r ≤ cond (is_h s) 1 0
few_halvings (X t a b) r = omega arith
few_halvings (H t a) r = few_if (holds r a)
few_halvings (P e a) r = omega arith
few_halvings (M w n) r = omega arith

rest_more : (sum more : ℕ) → (sum % 8 + more) % 8 ≡ (sum + more) % 8
rest_more sum more = omega arith

module _ (steps : List Step) (input : Row) (choice : ℕ → Bool) (n : ℕ) (row : Row) (bit : Bool)
    (at : (q : ℕ) → row q ≡ row_at steps input choice n q)
    (own : is_h (step_number steps n) ≡ true → bit ≡ choice (choices_at steps n)) where
  -- what the step does with the path's row and bit
  possible_at : is_possible (step_number steps n) bit row ≡ is_possible (step_number steps n) (choice (choices_at steps n)) (row_at steps input choice n)
  possible_at =
      ap (is_possible (step_number steps n) bit) (fun_ext at)
      ∙ bit_eq (step_number steps n) (λ b. is_possible (step_number steps n) b (row_at steps input choice n)) bit (choice (choices_at steps n)) own (possible_bit (step_number steps n) bit (choice (choices_at steps n)) (row_at steps input choice n))

  eighths_at : eighths (step_number steps n) bit row ≡ eighths (step_number steps n) (choice (choices_at steps n)) (row_at steps input choice n)
  eighths_at =
      ap (eighths (step_number steps n) bit) (fun_ext at)
      ∙ bit_eq (step_number steps n) (λ b. eighths (step_number steps n) b (row_at steps input choice n)) bit (choice (choices_at steps n)) own (eighths_bit (step_number steps n) bit (choice (choices_at steps n)) (row_at steps input choice n))

  -- one factor more
  pub factor_more : (old one new : Factor)
      → IsFactor steps input choice n old
      → IsStepFactor (step_number steps n) bit row one
      → new.possible ≡ (old.possible && one.possible)
      → new.eighths ≡ (old.eighths + one.eighths) % 8
      → new.halvings ≡ old.halvings + one.halvings
      → IsFactor steps input choice (n + 1) new
  factor_more old one new is step p e v =
      let few : halvings (step_number steps n) row ≤ cond (is_h (step_number steps n)) 1 0 = few_halvings (step_number steps n) row in
      let ones : choices_at steps (n + 1) ≡ choices_at steps n + cond (is_h (step_number steps n)) 1 0 = choices_more steps n (is_h (step_number steps n)) refl in
      let low : old.halvings ≤ choices_at steps n = is.few_halvings in
      let own_halvings : one.halvings ≡ halvings (step_number steps n) row = step.halvings_are in
      record {
        possible_is = p ∙ ap₂ ◌&&◌ is.possible_is (step.possible_is ∙ possible_at) ∙ ap (λ k. all_below k (λ s. is_possible (step_number steps s) (choice (choices_at steps s)) (row_at steps input choice s))) (sym (add-one n));
        eighths_are =
            e ∙ ap₂ (λ x y. (x + y) % 8) is.eighths_are (step.eighths_are ∙ eighths_at)
            ∙ rest_more (sum_below n (λ s. eighths (step_number steps s) (choice (choices_at steps s)) (row_at steps input choice s))) (eighths (step_number steps n) (choice (choices_at steps n)) (row_at steps input choice n))
            ∙ ap (λ k. sum_below k (λ s. eighths (step_number steps s) (choice (choices_at steps s)) (row_at steps input choice s)) % 8) (sym (add-one n));
        halvings_are =
            v ∙ ap₂ ◌+◌ is.halvings_are (step.halvings_are ∙ ap (halvings (step_number steps n)) (fun_ext at))
            ∙ ap (λ k. sum_below k (λ s. halvings (step_number steps s) (row_at steps input choice s))) (sym (add-one n));
        few_halvings = omega arith;
      }

-- what was added up along a path is its weight
pub weight_is : (steps : List Step) (input : Row) (choice : ℕ → Bool) (factor : Factor) → IsFactor steps input choice (length steps) factor
    → cond factor.possible (times factor.eighths factor.halvings one) none ≡ path_weight steps input choice
weight_is steps input choice factor is =
    ap₂ (λ j i. cond factor.possible (times j i one) none) is.eighths_are is.halvings_are
    ∙ ap₂ (λ b x. cond b x none) is.possible_is (times-rest (path_eighths steps input choice) (path_halvings steps input choice) one)

-- the wires that a step of a flat form names have rows
pub named : (f : FlatForm) → IsFlat f → (n rows : ℕ) (step : Step) → n < length f.steps → rows ≡ length f.wires → step ≡ step_number f.steps n → EachNamed (λ w. w.number < rows) step
named f ok n rows step h e is =
    let there : EachNamed (λ w. w.number < length f.wires) step = subst (EachNamed (λ w. w.number < length f.wires)) (sym is) (ok.in_range (step_id n) h) in
    subst (λ m. EachNamed (λ w. w.number < m) step) (sym e) there
