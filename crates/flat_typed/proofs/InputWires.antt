-- The state in which a program begins: each input wire is named once, and nothing was done.
use Rattle.std.proofs.Common.{◌≡◌, ◌⊎◌, inl, inr, ℕ, zero, suc, ◌+◌, ◌≤◌, ◌<◌, Bool, true, false, cond, List, [], ◌∷◌, length, refl, sym, ap, ◌∙◌, arith, append-nil, length-append}
use Rattle.std.specs.Prelude.{get_or, eqb}
use Rattle.std.proofs.lemmas.List.{get_or_append_left, length-map}
use Rattle.std.proofs.lemmas.Bool.{cases_lt, eqb-true, eq-eqb}
use Rattle.silq_types.specs.declared.types.Shape.{Shape}
use Rattle.silq_types.specs.Types.{shape_bits}
use Rattle.flat_core.specs.declared.step.WireId.{WireId}
use Rattle.flat_core.specs.declared.step.End.TheVariants.{Dropped}
use Rattle.flat_core.specs.Form.{DraftForm, WireForm}
use Rattle.flat_core.specs.Label.{no_wire, wire_in}
use Rattle.flat_core.specs.Drafts.{empty_draft, with_wire, over_by_wire}
use Rattle.bit_arith.specs.Built.{Built, begun, or_later, made, all_made, wires_from}
use Rattle.bit_arith.specs.Calls.{no_target}
use Rattle.bit_arith.proofs.Listed.{all_off_none}
use Rattle.bit_arith.proofs.Making.{length-from, below_from}
use Rattle.bit_arith.proofs.Carrying.{safe_made}
use Rattle.flat_form.specs.Flat.{input_wires, inputs, begin}
use Rattle.flat_form.specs.Names.{AllOf}
use Rattle.flat_form.specs.Good.{IsKnown, Good}
use Rattle.flat_form.proofs.Both.{all_reverse}
use Rattle.flat_form.proofs.Later.{Later, later_same, later_then, later_fresh}
use Rattle.flat_form.proofs.Giving.{wires_made}
use Rattle.flat_typed.specs.Places.{times_in}
use Rattle.flat_typed.specs.Calls.{named_times}
use Rattle.flat_typed.proofs.Uses.{all_join}

-- ---- what is built

later_wire : (d : DraftForm) (input : Bool) → Later d (with_wire d input)
later_wire d input =
    let e : length (with_wire d input).wires ≡ length d.wires + 1 = length-append d.wires (record { input = input; ending = Dropped } ∷ []) in
    record {
      new = [];
      steps = sym (append-nil d.steps);
      longer = omega (arith, e);
      inputs = λ w lt. ap (λ (r : WireForm). r.input) (get_or_append_left d.wires (record { input = input; ending = Dropped } ∷ []) no_wire w.number lt);
      above = λ w le. refl;
    }

-- one input wire more
abbrev one_input : Built → Built
one_input b = record { draft = with_wire b.draft true; over = or_later b.over (over_by_wire b.draft) }

later_wires : (n : ℕ) (b : Built) → Later b.draft (input_wires n b).draft
later_wires zero b = later_same b.draft
later_wires (suc n) b = later_then b.draft (with_wire b.draft true) (input_wires (suc n) b).draft (later_wire b.draft true) (later_wires n (one_input b))

pub length_inputs : (n : ℕ) (b : Built) → length (input_wires n b).draft.wires ≡ length b.draft.wires + n
length_inputs zero b = omega arith
length_inputs (suc n) b =
    let e : length (with_wire b.draft true).wires ≡ length b.draft.wires + 1 = length-append b.draft.wires (record { input = true; ending = Dropped } ∷ []) in
    let f : length (input_wires n (one_input b)).draft.wires ≡ length (with_wire b.draft true).wires + n = length_inputs n (one_input b) in
    f ∙ (ap (λ m. m + n) e ∙ sums (length b.draft.wires) n)
  where
    sums : (a n : ℕ) → (a + 1) + n ≡ a + suc n
    sums a n = omega arith

later_inputs : (ss : List Shape) (b : Built) → Later b.draft (inputs ss b).built.draft
later_inputs [] b = later_same b.draft
later_inputs (s ∷ ss) b =
    later_then b.draft (input_wires (shape_bits s) b).draft (inputs (s ∷ ss) b).built.draft (later_wires (shape_bits s) b) (later_inputs ss (input_wires (shape_bits s) b))

inputs_known : (ss : List Shape) (b : Built) (m : ℕ) → length (inputs ss b).built.draft.wires ≤ m → AllOf (IsKnown m) (inputs ss b).answer
inputs_known [] b m le = tt
inputs_known (s ∷ ss) b m le =
    let n : ℕ = length b.draft.wires in
    let k : ℕ = shape_bits s in
    let e : length (input_wires k b).draft.wires ≡ n + k = length_inputs k b in
    let up : length (input_wires k b).draft.wires ≤ length (inputs (s ∷ ss) b).built.draft.wires = (later_inputs ss (input_wires k b)).longer in (
      record {
        size = length-map (wires_from n k) made ∙ length-from n k;
        there = safe_made m no_target (wires_from n k) (below_from n k m (omega (arith, e, up, le))) (all_off_none (wires_from n k));
        wires = λ o. wires_made (wires_from n k);
      },
      inputs_known ss (input_wires k b) m le,
    )

pub good_beginning : (ss : List Shape) → Good (begin ss)
good_beginning ss = record {
  fresh = later_fresh empty_draft (begin ss).built.draft (later_inputs ss (begun empty_draft)) (λ w le. refl);
  known = record {
    env = tt;
    values = all_reverse (IsKnown (length (begin ss).built.draft.wires)) (inputs ss (begun empty_draft)).answer (inputs_known ss (begun empty_draft) (length (begin ss).built.draft.wires) (omega arith));
    callers = tt;
  };
  condition = tt;
  read = tt;
  owned = record { env = tt; callers = tt };
}

-- ---- no step, and all wires are dropped so far

input_steps : (n : ℕ) (b : Built) → (input_wires n b).draft.steps ≡ b.draft.steps
input_steps zero b = refl
input_steps (suc n) b = input_steps n (one_input b)

inputs_steps : (ss : List Shape) (b : Built) → (inputs ss b).built.draft.steps ≡ b.draft.steps
inputs_steps [] b = refl
inputs_steps (s ∷ ss) b = inputs_steps ss (input_wires (shape_bits s) b) ∙ input_steps (shape_bits s) b

pub no_steps : (ss : List Shape) → (begin ss).built.draft.steps ≡ []
no_steps ss = inputs_steps ss (begun empty_draft)

abbrev IsDropped : WireForm → Type 0
IsDropped r = r.ending ≡ Dropped

input_dropped : (n : ℕ) (b : Built) → AllOf IsDropped b.draft.wires → AllOf IsDropped (input_wires n b).draft.wires
input_dropped zero b h = h
input_dropped (suc n) b h = input_dropped n (one_input b) (all_join IsDropped b.draft.wires (record { input = true; ending = Dropped } ∷ []) h (refl, tt))

inputs_dropped : (ss : List Shape) (b : Built) → AllOf IsDropped b.draft.wires → AllOf IsDropped (inputs ss b).built.draft.wires
inputs_dropped [] b h = h
inputs_dropped (s ∷ ss) b h = inputs_dropped ss (input_wires (shape_bits s) b) (input_dropped (shape_bits s) b h)

all_get : {A : Type 0} (Q : A → Type 0) (xs : List A) (n : ℕ) (d : A) → AllOf Q xs → n < length xs → Q (get_or xs n d)
all_get Q [] n d h lt = absurd (omega (arith, lt))
all_get Q (x ∷ xs) zero d h lt = h.0
all_get Q (x ∷ xs) (suc n) d h lt = all_get Q xs n d h.1 (omega (arith, lt))

pub all_dropped : (ss : List Shape) (w : WireId) → w.number < length (begin ss).built.draft.wires → (wire_in (begin ss).built.draft.wires w).ending ≡ Dropped
all_dropped ss w lt = all_get IsDropped (begin ss).built.draft.wires w.number no_wire (inputs_dropped ss (begun empty_draft) tt) lt

-- ---- each wire is named once

-- how often the wires from n on, up to m, are named
pub record NamedOnce (n m : ℕ) (w : WireId) (t : ℕ) : Type 0 where
  pub low : w.number < n → t ≡ 0
  pub high : m ≤ w.number → t ≡ 0
  pub there : n ≤ w.number → w.number < m → t ≡ 1

from_once : (n k : ℕ) (w : WireId) → NamedOnce n (n + k) w (times_in w (all_made (wires_from n k)))
from_once n zero w = record { low = λ lt. refl; high = λ le. refl; there = λ le lt. absurd (omega (arith, le, lt)) }
from_once n (suc k) w = go (eqb n w.number) refl (from_once (suc n) k w)
  where
    rest : ℕ
    rest = times_in w (all_made (wires_from (suc n) k))

    go : (b : Bool) → eqb n w.number ≡ b → NamedOnce (suc n) (suc n + k) w (times_in w (all_made (wires_from (suc n) k))) → NamedOnce n (n + suc k) w (cond b (suc (times_in w (all_made (wires_from (suc n) k)))) (times_in w (all_made (wires_from (suc n) k))))
    go true e h =
        let q = eqb-true n w.number e in
        let z = h.low (omega (arith, q)) in
        record { low = λ lt. absurd (omega (arith, lt, q)); high = λ le. absurd (omega (arith, le, q)); there = λ le lt. omega (arith, z) }
    go false e h = record {
      low = λ lt. h.low (omega (arith, lt));
      high = λ le. h.high (omega (arith, le));
      there = λ le lt. above (cases_lt n w.number) le lt;
    }
      where
        above : (n < w.number) ⊎ (w.number ≤ n) → n ≤ w.number → w.number < n + suc k → times_in w (all_made (wires_from (suc n) k)) ≡ 1
        above (inl l) le lt = h.there (omega (arith, l)) (omega (arith, lt))
        above (inr l) le lt = let q : n ≡ w.number = omega (arith, l, le) in absurd (different (sym (eq-eqb n w.number q) ∙ e))
          where
            different : true ≡ false → ⊥
            different z = grind (arith, z)

inputs_once : (ss : List Shape) (b : Built) (w : WireId) → NamedOnce (length b.draft.wires) (length (inputs ss b).built.draft.wires) w (named_times (inputs ss b).answer w)
inputs_once [] b w = record { low = λ lt. refl; high = λ le. refl; there = λ le lt. absurd (omega (arith, le, lt)) }
inputs_once (s ∷ ss) b w =
    let k : ℕ = shape_bits s in
    let f = from_once (length b.draft.wires) k w in
    let r = inputs_once ss (input_wires k b) w in
    let e : length (input_wires k b).draft.wires ≡ length b.draft.wires + k = length_inputs k b in
    let up : length (input_wires k b).draft.wires ≤ length (inputs (s ∷ ss) b).built.draft.wires = (later_inputs ss (input_wires k b)).longer in
    record {
      low = λ lt. let x = f.low lt in let y = r.low (omega (arith, lt, e)) in omega (arith, x, y);
      high = λ le. let x = f.high (omega (arith, le, up, e)) in let y = r.high le in omega (arith, x, y);
      there = λ le lt. go k f r e le lt (cases_lt w.number (length b.draft.wires + k));
    }
  where
    go : (k : ℕ) → NamedOnce (length b.draft.wires) (length b.draft.wires + k) w (times_in w (all_made (wires_from (length b.draft.wires) k)))
        → NamedOnce (length (input_wires k b).draft.wires) (length (inputs ss (input_wires k b)).built.draft.wires) w (named_times (inputs ss (input_wires k b)).answer w)
        → length (input_wires k b).draft.wires ≡ length b.draft.wires + k → length b.draft.wires ≤ w.number → w.number < length (inputs ss (input_wires k b)).built.draft.wires
        → (w.number < length b.draft.wires + k) ⊎ (length b.draft.wires + k ≤ w.number) → times_in w (all_made (wires_from (length b.draft.wires) k)) + named_times (inputs ss (input_wires k b)).answer w ≡ 1
    go k f r e le lt (inl l) = let x = f.there le l in let y = r.low (omega (arith, l, e)) in omega (arith, x, y)
    go k f r e le lt (inr l) = let x = f.high l in let y = r.there (omega (arith, l, e)) lt in omega (arith, x, y)

-- of the state in which a program begins
pub inputs_named : (ss : List Shape) (w : WireId) → NamedOnce 0 (length (begin ss).built.draft.wires) w (named_times (inputs ss (begun empty_draft)).answer w)
inputs_named ss w = inputs_once ss (begun empty_draft) w
