-- The flat form of a program has the program's meaning.
use Rattle.std.proofs.Common.{◌≡◌, ℕ, zero, suc, ◌+◌, ◌-◌, ◌≤◌, ◌<◌, get_or, inl, inr, Bool, true, false, cond, not, ◌&&◌, ◌==◌, List, [], ◌∷◌, ◌++◌, flat_map, map, length, take, drop, reverse, refl, sym, ap, ap₂, ◌∙◌, subst, arith, length-append, add-one}
use Rattle.std.proofs.Math.Seq.{drop-cons}
use Rattle.std.specs.Prelude.{◌⊎◌}
use Rattle.std.proofs.lemmas.Bool.{cases_lt}
use Rattle.std.proofs.lemmas.List.{drop-drop, length-take-le, length-drop, map-append, get_or_append_left}
use Rattle.amp_core.specs.Amplitude.{one as one_amplitude, times}
use Rattle.silq_types.specs.declared.types.Shape.{Shape}
use Rattle.silq_types.specs.Types.{shape_bits}
use Rattle.silq_mean.specs.Value.{Value, bits_of as value_bits, value_of_bits}
use Rattle.silq_mean.specs.Term.{Term}
use Rattle.silq_mean.specs.Effect.{Outcome, follow}
use Rattle.silq_mean.specs.Table.{Job, total_size, start, inputs as input_values, shown as shown_term}
use Rattle.flat_core.specs.declared.step.Step.{Step}
use Rattle.flat_core.specs.declared.step.WireId.{WireId}
use Rattle.flat_core.specs.declared.step.End.TheVariants.{Output, Dropped, Zeroed}
use Rattle.flat_core.specs.Form.{DraftForm, WireForm}
use Rattle.flat_core.specs.Label.{wire_id, wire_in, no_wire, label_after, end_of}
use Rattle.flat_core.specs.Drafts.{with_wire, over_by_wire, empty_draft}
use Rattle.flat_core.specs.Sound.{count_measures, joined}
use Rattle.flat_mean.specs.Row.{Row, bits_of}
use Rattle.flat_mean.specs.Path.{input_row, inputs_before}
use Rattle.flat_mean.specs.Terms.{Term as WireTerm, first_term, do_steps, seen_at, values_of, weight}
use Rattle.flat_mean.proofs.Walks.{inputs_before-more}
use Rattle.bit_arith.specs.Built.{Built, begun, or_later, blank, wires_from}
use Rattle.bit_arith.specs.Calls.{no_target, among}
use Rattle.bit_arith.specs.Values.{bits_at, values_at}
use Rattle.bit_arith.specs.Does.{Below}
use Rattle.bit_arith.proofs.Steps.{clash}
use Rattle.bit_arith.proofs.Making.{bits_made}
use Rattle.flat_form.specs.declared.known.Known.{Known}
use Rattle.flat_form.specs.declared.known.Known.TheVariants.{Static, Shown, Lent, Absent}
use Rattle.flat_form.specs.State.{Flattening, are_wires, wires_in, operands_of}
use Rattle.flat_form.specs.Flat.{flat, begin, inputs, input_wires, flattened, wire_lists, end_all, joined as all_joined}
use Rattle.flat_form.specs.Names.{AllOf, Spares}
use Rattle.flat_form.specs.Good.{Good, IsKnown}
use Rattle.flat_form.specs.Fine.{IsOf}
use Rattle.flat_form.specs.Shows.{Shows, ListBoth, Related}
use Rattle.flat_form.specs.Jobs.{FineJob}
use Rattle.flat_laws.specs.Laws.{FlatHasTheMeaning, EachZero, ZeroedEndAtZero}
use Rattle.flat_form.proofs.Both.{both_reverse, all_reverse, all_weak}
use Rattle.flat_form.proofs.Kept.{known_map}
use Rattle.flat_form.proofs.Later.{end_all_length, end_all_steps, end_all_input}
use Rattle.flat_form.proofs.Giving.{below_in}
use Rattle.flat_form.proofs.Goods.{Goes, goes_flat}
use Rattle.flat_laws.proofs.Begins.{length-inputs, good_begin}
use Rattle.flat_laws.proofs.Operators.{HasBits, given_gives}
use Rattle.flat_laws.proofs.Compose.{no_input, Leads}
use Rattle.flat_laws.proofs.Taking.{wires_are}
use Rattle.flat_laws.proofs.Steps.{leads_flat}
use Rattle.flat_laws.proofs.Sparing.{is_zeroed, zeroed, end_all_zeroed}
use Rattle.flat_laws.proofs.Settling.{Done}
use Rattle.flat_laws.proofs.Zeroes.{Zeros, zero_flat}

-- ---- the wires of the parameters are inputs

abbrev pub AllInputs : DraftForm → Type 0
AllInputs d = (w : WireId) → w.number < length d.wires → (wire_in d.wires w).input ≡ true

last_input : (ws : List WireForm) (k : ℕ) → length ws ≤ k → k < length ws + 1 → (get_or (ws ++ record { input = true; ending = Dropped } ∷ []) k no_wire).input ≡ true
last_input [] zero le lt = refl
last_input [] (suc k) le lt = absurd (omega (arith, lt))
last_input (w ∷ ws) zero le lt = absurd (omega (arith, le))
last_input (w ∷ ws) (suc k) le lt = last_input ws k (omega (arith, le)) (omega (arith, lt))

wire_inputs : (d : DraftForm) → AllInputs d → AllInputs (with_wire d true)
wire_inputs d h w lt =
    let e : length (with_wire d true).wires ≡ length d.wires + 1 = length-append d.wires (record { input = true; ending = Dropped } ∷ []) in
    elim (cases_lt w.number (length d.wires)) [
      | inl l ↦ ap (λ (r : WireForm). r.input) (get_or_append_left d.wires (record { input = true; ending = Dropped } ∷ []) no_wire w.number l) ∙ h w l
      | inr le ↦ last_input d.wires w.number le (omega (arith, e, lt))
    ]

all_inputs : (n : ℕ) (b : Built) → AllInputs b.draft → AllInputs (input_wires n b).draft
all_inputs zero b h = h
all_inputs (suc n) b h = all_inputs n (record { draft = with_wire b.draft true; over = or_later b.over (over_by_wire b.draft) }) (wire_inputs b.draft h)

pub begin_inputs : (ss : List Shape) (b : Built) → AllInputs b.draft → AllInputs (inputs ss b).built.draft
begin_inputs [] b h = h
begin_inputs (s ∷ ss) b h = begin_inputs ss (input_wires (shape_bits s) b) (all_inputs (shape_bits s) b h)

pub begin_length : (ss : List Shape) (b : Built) → length (inputs ss b).built.draft.wires ≡ length b.draft.wires + total_size ss
begin_length [] b = omega arith
begin_length (s ∷ ss) b =
    let e : length (input_wires (shape_bits s) b).draft.wires ≡ length b.draft.wires + shape_bits s = length-inputs (shape_bits s) b in
    let r : length (inputs ss (input_wires (shape_bits s) b)).built.draft.wires ≡ length (input_wires (shape_bits s) b).draft.wires + total_size ss = begin_length ss (input_wires (shape_bits s) b) in
    omega (arith, e, r)

input_steps : (n : ℕ) (b : Built) → (input_wires n b).draft.steps ≡ b.draft.steps
input_steps zero b = refl
input_steps (suc n) b = input_steps n (record { draft = with_wire b.draft true; over = or_later b.over (over_by_wire b.draft) })

begin_steps : (ss : List Shape) (b : Built) → (inputs ss b).built.draft.steps ≡ b.draft.steps
begin_steps [] b = refl
begin_steps (s ∷ ss) b = begin_steps ss (input_wires (shape_bits s) b) ∙ input_steps (shape_bits s) b

-- ---- the row of the input

-- the input bits on the first wires, and 0 on all others
record RowOf (input : List Bool) (row : Row) : Type 0 where
  low : (q : ℕ) → q < length input → row q ≡ get_or input q false
  high : (q : ℕ) → length input ≤ q → row q ≡ false

as_many : (ws : List WireForm) (n : ℕ) → n ≤ length ws → ((w : WireId) → w.number < n → (wire_in ws w).input ≡ true) → inputs_before ws n ≡ n
as_many ws zero le h = refl
as_many ws (suc n) le h =
    let more : inputs_before ws (n + 1) ≡ inputs_before ws n + 1 = inputs_before-more ws n (omega (arith, le)) ∙ ap (λ b. inputs_before ws n + cond b 1 0) (h (wire_id n) (omega arith)) in
    let rest : inputs_before ws n ≡ n = as_many ws n (omega (arith, le)) (λ w lt. h w (omega (arith, lt))) in
    let same : inputs_before ws (suc n) ≡ inputs_before ws (n + 1) = ap (inputs_before ws) (sym (add-one n)) in
    omega (arith, more, rest, same)

the_row : (d : DraftForm) (ws : List WireForm) (input : List Bool) → AllInputs d → length d.wires ≡ length input → length d.wires ≤ length ws → ((w : WireId) → (wire_in ws w).input ≡ (wire_in d.wires w).input) → RowOf input (input_row ws (bits_of input))
the_row d ws input h l le same = record {
  low = λ q lt.
      ap₂ (λ (b : Bool) (n : ℕ). b && get_or input n false) (same (wire_id q) ∙ h (wire_id q) (omega (arith, l, lt)))
      (as_many ws q (omega (arith, l, le, lt)) (λ w k. same w ∙ h w (omega (arith, l, lt, k))));
  high = λ q ge. ap (λ b. b && get_or input (inputs_before ws q) false) (same (wire_id q) ∙ no_input d (wire_id q) (omega (arith, l, ge)));
}

-- ---- the values at the start

values_from : (input : List Bool) (row : Row) → RowOf input row → (n k : ℕ) → n + k ≤ length input → values_at row (wires_from n k) ≡ take k (drop n input)
values_from input row r n zero le = refl
values_from input row r n (suc k) le =
    let lt : n < length input = omega (arith, le) in
    let e : drop n input ≡ get_or input n false ∷ drop (suc n) input = drop-cons input n false lt in
    let rest : values_at row (wires_from (suc n) k) ≡ take k (drop (suc n) input) = values_from input row r (suc n) k (omega (arith, le)) in
    ap₂ (λ (b : Bool) (bs : List Bool). b ∷ bs) (r.low n lt) rest ∙ sym (ap (take (suc k)) e)

inputs_show : (input : List Bool) (row : Row) → RowOf input row → (ss : List Shape) (b : Built) → length b.draft.wires + total_size ss ≤ length input → ListBoth (Shows row) (inputs ss b).answer (input_values ss (drop (length b.draft.wires) input))
inputs_show input row r [] b le = tt
inputs_show input row r (s ∷ ss) b le =
    let n : ℕ = length b.draft.wires in
    let k : ℕ = shape_bits s in
    let bits : List Bool = take k (drop n input) in
    let rest : length (drop n input) ≡ length input - n = length-drop n input in
    let size : length bits ≡ k = length-take-le k (drop n input) (omega (arith, rest, le)) in
    let g : HasBits s (value_of_bits s bits) bits = given_gives s bits size in
    let b' : Built = input_wires k b in
    let m : length b'.draft.wires ≡ n + k = length-inputs k b in
    let more : ListBoth (Shows row) (inputs ss b').answer (input_values ss (drop (length b'.draft.wires) input)) = inputs_show input row r ss b' (omega (arith, m, le)) in
    let same : drop (length b'.draft.wires) input ≡ drop k (drop n input) = ap (λ i. drop i input) m ∙ sym (drop-drop k n input) in (
      (g.0, bits_made row (wires_from n k) ∙ (values_from input row r n k (omega (arith, le)) ∙ g.1)),
      subst (λ bs. ListBoth (Shows row) (inputs ss b').answer (input_values ss bs)) same more,
    )

-- ---- the values at the end

pub known_bits : (row : Row) (k : Known) (w : Value) → IsOf (λ v. are_wires v.operands ≡ true) k → Shows row k w → values_of (wires_in (operands_of k)) row ≡ value_bits w
known_bits row (Static z) w a h = absurd a
known_bits row (Lent i j v) w a h = absurd a
known_bits row Absent w a h = absurd a
known_bits row (Shown v) w a h = sym (bits_made row (wires_in v.operands)) ∙ (ap (bits_at row) (sym (wires_are v.operands a)) ∙ h.1)

all_bits : (row : Row) (ks : List Known) (ws : List Value) → AllOf (λ k. IsOf (λ v. are_wires v.operands ≡ true) k) ks → ListBoth (Shows row) ks ws → values_of (joined (wire_lists ks)) row ≡ flat_map value_bits ws
all_bits row [] [] a h = refl
all_bits row [] (w ∷ ws) a h = absurd h
all_bits row (k ∷ ks) [] a h = absurd h
all_bits row (k ∷ ks) (w ∷ ws) a h =
    map-append (λ (x : WireId). row x.number) (wires_in (operands_of k)) (joined (wire_lists ks))
    ∙ ap₂ ◌++◌ (known_bits row k w a.0 h.0) (all_bits row ks ws a.1 h.1)

seen : (s : Flattening) (us : List WireTerm) (ts : List Term) → AllOf (λ k. IsOf (λ v. are_wires v.operands ≡ true) k) s.values → ListBoth (Related s) us ts → seen_at (joined (wire_lists (reverse s.values))) us ≡ map shown_term ts
seen s [] [] a h = refl
seen s [] (t ∷ ts) a h = absurd h
seen s (u ∷ us) [] a h = absurd h
seen s (u ∷ us) (t ∷ ts) a h =
    let r : Related s u t = h.0 in
    let bits : values_of (joined (wire_lists (reverse s.values))) u.row ≡ flat_map value_bits (reverse t.values) =
    all_bits u.row (reverse s.values) (reverse t.values) (all_reverse (λ k. IsOf (λ v. are_wires v.operands ≡ true) k) s.values a) (both_reverse (Shows u.row) s.values t.values r.values) in
    let amount : weight u ≡ times t.eighths t.halvings one_amplitude = ap₂ (λ (e n : ℕ). times e n one_amplitude) r.eighths r.halvings in
    let rest : seen_at (joined (wire_lists (reverse s.values))) us ≡ map shown_term ts = seen s us ts a h.1 in
    λ i. (bits i, amount i) ∷ rest i

-- all wires that are there
known_below : (n : ℕ) (k : Known) → IsKnown n k → Below n (wires_in (operands_of k))
known_below n (Static z) h = tt
known_below n (Shown v) h = below_in n no_target v.operands h.there
known_below n (Lent i j v) h = tt
known_below n Absent h = tt

below_both : (n : ℕ) (xs ys : List WireId) → Below n xs → Below n ys → Below n (xs ++ ys)
below_both n [] ys p q = q
below_both n (x ∷ xs) ys p q = (p.0, below_both n xs ys p.1 q)

all_below : (n : ℕ) (ks : List Known) → AllOf (IsKnown n) ks → Below n (all_joined (wire_lists ks))
all_below n [] h = tt
all_below n (k ∷ ks) h = below_both n (wires_in (operands_of k)) (all_joined (wire_lists ks)) (known_below n k h.0) (all_below n ks h.1)

-- ---- the whole program

-- the first term shows that of the source, and the form's steps are those of the effect
pub record Starts (j : Job) (input : List Bool) : Type 0 where
  pub steps : (new : List Step) → (flat j.effect (begin j.shapes)).built.draft.steps ≡ (begin j.shapes).built.draft.steps ++ new → (flattened j).form.steps ≡ new
  pub related : Related (begin j.shapes) (first_term (input_row (flattened j).form.wires (bits_of input))) (start j input)
  -- the wires that end as Output
  pub below : Below (length (flat j.effect (begin j.shapes)).built.draft.wires) (all_joined (wire_lists (reverse (flat j.effect (begin j.shapes)).values)))

pub starts : (j : Job) (input : List Bool) (o : Outcome) → FineJob j → length input ≡ total_size j.shapes → Starts j input
starts j input o fine size =
    let first : Flattening = begin j.shapes in
    let s : Flattening = flat j.effect first in
    let d : DraftForm = first.built.draft in
    let outs : List (List WireId) = wire_lists (reverse s.values) in
    let b : Built = end_all Output (all_joined outs) s.built in
    let good : Good first = good_begin j.shapes in
    let went : Goes first s = goes_flat j.effect first good fine.0 in
    let m : Leads o first s (follow o j.effect) = leads_flat o j.effect first good fine.0 in
    let below : Below (length s.built.draft.wires) (all_joined outs) = all_below (length s.built.draft.wires) (reverse s.values) (all_reverse (IsKnown (length s.built.draft.wires)) s.values went.good.known.values) in
    let ins : AllInputs d = begin_inputs j.shapes (begun empty_draft) (λ w lt. absurd (omega (arith, lt))) in
    let many : length d.wires ≡ length input = begin_length j.shapes (begun empty_draft) ∙ (none (total_size j.shapes) ∙ sym size) in
    let longer : length d.wires ≤ length b.draft.wires = (let e : length b.draft.wires ≡ length s.built.draft.wires = end_all_length Output (all_joined outs) s.built in let w = m.wires in omega (arith, e, w)) in
    let row : Row = input_row b.draft.wires (bits_of input) in
    let r : RowOf input row = the_row d b.draft.wires input ins many longer (λ w. end_all_input Output (all_joined outs) s.built w below ∙ m.inputs w) in
    let no_steps : d.steps ≡ [] = begin_steps j.shapes (begun empty_draft) in
    let values : ListBoth (Shows row) (inputs j.shapes (begun empty_draft)).answer (input_values j.shapes input) = inputs_show input row r j.shapes (begun empty_draft) (omega (arith, size)) in
    record {
      steps = λ new grown. end_all_steps Output (all_joined outs) s.built ∙ (grown ∙ ap (λ ss. ss ++ new) no_steps);
      below = below;
      related = record {
        clean = λ w h. clean d input row ins many r w h;
        env = tt;
        values = both_reverse (Shows row) (inputs j.shapes (begun empty_draft)).answer (input_values j.shapes input) values;
        callers = tt;
        eighths = refl;
        halvings = refl;
        measured = ap count_measures no_steps;
      };
    }
  where
    none : (n : ℕ) → 0 + n ≡ n
    none n = omega arith

    clean : (d : DraftForm) (input : List Bool) (row : Row) → AllInputs d → length d.wires ≡ length input → RowOf input row → (w : WireId) → blank d w ≡ true → row w.number ≡ false
    clean d input row ins many r w h = elim (cases_lt w.number (length d.wires)) [
      | inl lt ↦ absurd (clash (ap (λ i. not i && (label_after d.steps w == 0)) (sym (ins w lt)) ∙ h))
      | inr le ↦ r.high w.number (omega (arith, many, le))
    ]

pub flat_has_the_meaning : FlatHasTheMeaning
flat_has_the_meaning j input o fine size =
    let first : Flattening = begin j.shapes in
    let s : Flattening = flat j.effect first in
    let m : Leads o first s (follow o j.effect) = leads_flat o j.effect first (good_begin j.shapes) fine.0 in
    let row : Row = input_row (flattened j).form.wires (bits_of input) in
    let r : Starts j input = starts j input o fine size in
    ap (λ ss. seen_at (joined (flattened j).form.outs) (do_steps o ss (first_term row ∷ []))) (r.steps m.new m.grown)
    ∙ seen s (do_steps o m.new (first_term row ∷ [])) (follow o j.effect (start j input)) fine.1 (m.gives (first_term row) (start j input) r.related refl)

-- ---- wires that end as Zeroed

with_input : (ws : List WireForm) (k : ℕ) → is_zeroed (get_or (ws ++ record { input = true; ending = Dropped } ∷ []) k no_wire).ending ≡ true → is_zeroed (get_or ws k no_wire).ending ≡ true
with_input [] zero z = z
with_input [] (suc k) z = z
with_input (w ∷ ws) zero z = z
with_input (w ∷ ws) (suc k) z = with_input ws k z

inputs_ends : (n : ℕ) (b : Built) (w : WireId) → zeroed (input_wires n b).draft w ≡ true → zeroed b.draft w ≡ true
inputs_ends zero b w z = z
inputs_ends (suc n) b w z = with_input b.draft.wires w.number (inputs_ends n (record { draft = with_wire b.draft true; over = or_later b.over (over_by_wire b.draft) }) w z)

begin_ends : (ss : List Shape) (b : Built) (w : WireId) → zeroed (inputs ss b).built.draft w ≡ true → zeroed b.draft w ≡ true
begin_ends [] b w z = z
begin_ends (s ∷ ss) b w z = inputs_ends (shape_bits s) b w (begin_ends ss (input_wires (shape_bits s) b) w z)

pub none_zeroed : (ss : List Shape) (w : WireId) → zeroed (begin ss).built.draft w ≡ true → ⊥
none_zeroed ss w z = clash (begin_ends ss (begun empty_draft) w z)

pub zeroed_are_zero : ZeroedEndAtZero
zeroed_are_zero j input o fine size honest =
    let first : Flattening = begin j.shapes in
    let s : Flattening = flat j.effect first in
    let good : Good first = good_begin j.shapes in
    let m : Leads o first s (follow o j.effect) = leads_flat o j.effect first good fine.0 in
    let u : WireTerm = first_term (input_row (flattened j).form.wires (bits_of input)) in
    let r : Starts j input = starts j input o fine size in
    let done : Done first = known_map (IsKnown (length first.built.draft.wires)) (Spares (zeroed first.built.draft)) (λ k p w z. absurd (none_zeroed j.shapes w z)) first good.known in
    subst (λ ss. EachZero (flattened j).form (do_steps o ss (u ∷ []))) (sym (r.steps m.new m.grown))
    (all_weak (Zeros s.built.draft) (λ y. (w : WireId) → end_of (flattened j).form w ≡ Zeroed → y.row w.number ≡ false)
    (λ y z w h. z w (ended j w r.below (ap is_zeroed h))) (do_steps o m.new (u ∷ []))
    (zero_flat o j.effect first good fine.0 done m.new m.grown u (start j input) r.related refl (honest o) (λ w z. absurd (none_zeroed j.shapes w z))))
  where
    ended : (j : Job) (w : WireId) → Below (length (flat j.effect (begin j.shapes)).built.draft.wires) (all_joined (wire_lists (reverse (flat j.effect (begin j.shapes)).values))) → is_zeroed (end_of (flattened j).form w) ≡ true → zeroed (flat j.effect (begin j.shapes)).built.draft w ≡ true
    ended j w below z = pick (end_all_zeroed Output (all_joined (wire_lists (reverse (flat j.effect (begin j.shapes)).values))) (flat j.effect (begin j.shapes)).built w below z)
      where
        pick : (zeroed (flat j.effect (begin j.shapes)).built.draft w ≡ true) ⊎ ((among (all_joined (wire_lists (reverse (flat j.effect (begin j.shapes)).values))) w ≡ true) × (is_zeroed Output ≡ true)) → zeroed (flat j.effect (begin j.shapes)).built.draft w ≡ true
        pick (inl y) = y
        pick (inr y) = absurd (clash y.1)
