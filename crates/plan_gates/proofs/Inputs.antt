-- Input bits begin on the wires of the parameters in their order.
use Rattle.std.proofs.Common.{◌≡◌, ℕ, zero, suc, ◌+◌, ◌<◌, ◌≤◌, Bool, true, false, cond, ◌&&◌, List, Contains, length, map, get_or, refl, sym, ◌∙◌, ap, subst, arith, add-one}
use Rattle.std.proofs.lemmas.List.{get_or-map, length-map}
use Rattle.sum_laws.specs.Terms.{positions}
use Rattle.flat_core.specs.declared.step.WireId.{WireId}
use Rattle.flat_core.specs.Form.{FlatForm}
use Rattle.flat_core.specs.Label.{wire_id, is_input}
use Rattle.flat_core.specs.Sound.{IsFlat, joined as wires_joined}
use Rattle.flat_mean.specs.Row.{Row, bits_of}
use Rattle.flat_mean.specs.Path.{inputs_before, input_row}
use Rattle.flat_mean.specs.Terms.{values_of}
use Rattle.qubit_alloc.proofs.Starting.{inputs_more}
use Rattle.plan_gates.specs.Laws.{BeginsWith, InputsBeginInOrder}
use Rattle.plan_gates.proofs.Spots.{same_list}
use Rattle.plan_gates.proofs.Ends.{input_there}

length-positions : (n : ℕ) → length (positions n) ≡ n
length-positions zero = refl
length-positions (suc n) = ap suc (length-map (positions n) suc ∙ length-positions n)

at-positions : (n i : ℕ) → i < n → get_or (positions n) i 0 ≡ i
at-positions zero i l = absurd (omega arith)
at-positions (suc n) zero l = refl
at-positions (suc n) (suc i) l =
    let less : i < n = omega arith in
    get_or-map suc (positions n) i 0 0 (subst (λ m. i < m) (sym (length-positions n)) less) ∙ ap suc (at-positions n i less)

module _ (f : FlatForm) (bits : List Bool) (ok : IsFlat f) (first : wires_joined f.ins ≡ map wire_id (positions (length bits))) where
  abbrev wires : List WireId
  wires = map wire_id (positions (length bits))

  length-wires : length wires ≡ length bits
  length-wires = length-map (positions (length bits)) wire_id ∙ length-positions (length bits)

  at-wires : (i : ℕ) → i < length bits → get_or wires i (wire_id 0) ≡ wire_id i
  at-wires i l = get_or-map wire_id (positions (length bits)) i 0 (wire_id 0) (subst (λ m. i < m) (sym (length-positions (length bits))) l) ∙ ap wire_id (at-positions (length bits) i l)

  inputs : (i : ℕ) → i < length bits → is_input f (wire_id i) ≡ true
  inputs i l = ok.ins_name.only (wire_id i) (subst (λ ws. Contains ws (wire_id i)) (sym first) (i, subst (λ m. i < m) (sym length-wires) l, at-wires' i l))
    where
      at-wires' : (i : ℕ) → i < length bits → get_or wires i (wire_id i) ≡ wire_id i
      at-wires' i l = get_or-map wire_id (positions (length bits)) i 0 (wire_id i) (subst (λ m. i < m) (sym (length-positions (length bits))) l) ∙ ap wire_id (at-positions (length bits) i l)

  -- before the i-th wire there are i inputs
  before : (i : ℕ) → i ≤ length bits → inputs_before f.wires i ≡ i
  before zero h = refl
  before (suc i) h =
      let on : is_input f (wire_id i) ≡ true = inputs i (omega arith) in
      let more : inputs_before f.wires (i + 1) ≡ inputs_before f.wires i + 1 = inputs_more f i (input_there f (wire_id i) on) ∙ ap (λ b. inputs_before f.wires i + cond b 1 0) on in
      let rest : inputs_before f.wires i ≡ i = before i (omega arith) in
      ap (inputs_before f.wires) (sym (add-one i)) ∙ more ∙ omega (arith, rest)

  abbrev row : Row
  row = input_row f.wires (bits_of bits)

  value : (i : ℕ) → i < length bits → row i ≡ get_or bits i false
  value i l = ap (λ b. b && bits_of bits (inputs_before f.wires i)) (inputs i l) ∙ ap (bits_of bits) (before i (omega arith))

  values : values_of wires row ≡ bits
  values = same_list (values_of wires row) bits (length-map wires (λ w. row w.number) ∙ length-wires) (λ i l.
      let there : i < length wires = subst (λ m. i < m) (length-map wires (λ w. row w.number)) l in
      let lt : i < length bits = subst (λ m. i < m) length-wires there in
      get_or-map (λ (w : WireId). row w.number) wires i (wire_id 0) false there ∙ ap (λ (w : WireId). row w.number) (at-wires i lt) ∙ value i lt)

  begins : BeginsWith f bits
  begins = record {
    is_input = record { zero = λ w off. ap (λ b. b && bits_of bits (inputs_before f.wires w.number)) off };
    in_order = ap (λ ws. values_of ws row) first ∙ values;
  }

pub inputs_begin_in_order : InputsBeginInOrder
inputs_begin_in_order f bits ok first = begins f bits ok first
