-- Where the inputs and the outputs of a plan stand.
use Rattle.std.proofs.Common.{◌≡◌, ℕ, ◌<◌, ◌≤◌, inl, inr, Bool, true, false, ◌&&◌, ◌==◌, List, [], ◌∷◌, Contains, length, map, replicate, refl, sym, ◌∙◌, ap, subst, arith, suc}
use Rattle.std.proofs.lemmas.Bool.{both_ways, cases_lt, eqb-true}
use Rattle.std.proofs.lemmas.List.{get_or_past}
use Rattle.flat_core.specs.declared.step.End.TheVariants.{Output}
use Rattle.flat_core.specs.declared.step.WireId.{WireId}
use Rattle.flat_core.specs.Form.{FlatForm, WireForm}
use Rattle.flat_core.specs.Label.{wire_id, no_wire, is_input, end_of}
use Rattle.flat_core.specs.Sound.{IsFlat, joined as wires_joined}
use Rattle.flat_mean.specs.Row.{Row}
use Rattle.flat_mean.specs.Terms.{values_of}
use Rattle.move_plan.specs.declared.moves.Move.{Move}
use Rattle.move_plan.specs.Progress.{at_start, IsPlan}
use Rattle.move_plan.specs.Effect.{is_output}
use Rattle.move_plan.specs.Live.{live, width, count_wires}
use Rattle.qubit_alloc.specs.Place.{first_place, place_plan, IsPlaced}
use Rattle.qubit_alloc.specs.Spread.{first_row}
use Rattle.qubit_alloc.proofs.Starting.{live_start, placed_start}
use Rattle.qubit_alloc.proofs.Spreading.{any_none, spread-at}
use Rattle.qubit_alloc.proofs.ApartLaws.{outputs_apart}
use Rattle.gate_core.specs.Meaning.{placed, joined}
use Rattle.gate_core.specs.Local.{Absent, AllDiffer, AllBelow}
use Rattle.plan_gates.specs.Registers.{register}
use Rattle.plan_gates.specs.PlanCircuit.{in_qubits, out_qubits, input_bits}
use Rattle.plan_gates.proofs.Spots.{on_zeros, register_is_placed}
use Rattle.plan_gates.proofs.ListQubits.{joined_on, AllDiffer-map, AllBelow-map, absent_of_none}

-- an input is one of the wires
pub input_there : (f : FlatForm) (w : WireId) → is_input f w ≡ true → w.number < length f.wires
input_there f w i = elim (cases_lt w.number (length f.wires)) [
  | inl l ↦ l
  | inr past ↦ absurd (both_ways (is_input f w) (ap (λ (x : WireForm). x.input) (get_or_past f.wires w.number no_wire past)) i)
]

module _ (f : FlatForm) (ok : IsFlat f) (wide : ℕ) where
  abbrev ins : List WireId
  ins = wires_joined f.ins

  abbrev outs : List WireId
  outs = wires_joined f.outs

  module _ (room : count_wires f (live f at_start) ≤ wide) where
    stands : IsPlaced f (live f at_start) wide (first_place f)
    stands = placed_start f wide room

    on_start : (w : WireId) → is_input f w ≡ true → live f at_start w ≡ true
    on_start w i = live_start f w ∙ i

    pub ins_differ : AllDiffer (joined (in_qubits f))
    ins_differ = subst AllDiffer (sym (joined_on (first_place f) f.ins))
        (AllDiffer-map (first_place f) ins ok.ins_name.once (λ v w c d e.
        let iv = ok.ins_name.only v c in
        let iw = ok.ins_name.only w d in
        stands.apart v w (input_there f v iv) (input_there f w iw) (on_start v iv) (on_start w iw) e))

    pub ins_below : AllBelow wide (joined (in_qubits f))
    ins_below = subst (AllBelow wide) (sym (joined_on (first_place f) f.ins))
        (AllBelow-map (first_place f) wide ins (λ w c. let i = ok.ins_name.only w c in stands.below w (input_there f w i) (on_start w i)))

    -- the register begins with the input bits on their qubits, and with 0 on all others
    pub first_register : (input : Row) → register wide (first_row f input) ≡ placed (joined (in_qubits f)) (input_bits f input) (replicate wide false)
    first_register input =
        register_is_placed wide (map (first_place f) ins) (subst AllDiffer (joined_on (first_place f) f.ins) ins_differ) (subst (AllBelow wide) (joined_on (first_place f) f.ins) ins_below) (first_row f input) zeros
        ∙ ap (λ v. on_zeros wide (map (first_place f) ins) v) (values ins (λ w c. ok.ins_name.only w c))
        ∙ ap (λ qs. placed qs (input_bits f input) (replicate wide false)) (sym (joined_on (first_place f) f.ins))
      where
        off : (a b c : Bool) → (a ≡ true → b ≡ false) → (a && b && c) ≡ false
        off true b c h = ap (λ x. x && c) (h refl)
        off false b c h = refl

        zeros : (q : ℕ) → Absent q (map (first_place f) ins) → first_row f input q ≡ false
        zeros q a = any_none (length f.wires) _ (λ n l. off (live f at_start (wire_id n)) (first_place f (wire_id n) == q) (input n) (λ on. other n (sym (live_start f (wire_id n)) ∙ on) (first_place f (wire_id n) == q) refl))
          where
            other : (n : ℕ) → is_input f (wire_id n) ≡ true → (b : Bool) → (first_place f (wire_id n) == q) ≡ b → b ≡ false
            other n i false e = refl
            other n i true e = absurd (absent_of_none (first_place f) q ins a (wire_id n) (ok.ins_name.each (wire_id n) i) (eqb-true (first_place f (wire_id n)) q e))

        values : (ws : List WireId) → ((w : WireId) → Contains ws w → is_input f w ≡ true) → map (first_row f input) (map (first_place f) ws) ≡ values_of ws input
        values [] h = refl
        values (w ∷ ws) h =
            let i = h w (0, omega arith, refl) in
            let here : first_row f input (first_place f w) ≡ input w.number = spread-at f (live f at_start) (first_place f) input (record { apart = stands.apart }) w (input_there f w i) (on_start w i) in
            let rest : map (first_row f input) (map (first_place f) ws) ≡ values_of ws input = values ws (λ v c. h v (suc c.0, omega (arith, c.1), c.2)) in
            λ j. here j ∷ rest j

  module _ (moves : List Move) (plan : IsPlan f moves) (fits : width f moves ≤ wide) where
    last : IsPlaced f (λ w. is_output (end_of f w)) wide (place_plan f moves)
    last = outputs_apart f moves wide ok plan fits

    out_is : (w : WireId) → Contains outs w → (w.number < length f.wires) × (end_of f w ≡ Output)
    out_is w c = ok.outs_name.only w c

    is_out : (w : WireId) → Contains outs w → is_output (end_of f w) ≡ true
    is_out w c = ap is_output (out_is w c).1

    pub outs_differ : AllDiffer (joined (out_qubits f moves))
    outs_differ = subst AllDiffer (sym (joined_on (place_plan f moves) f.outs))
        (AllDiffer-map (place_plan f moves) outs ok.outs_name.once (λ v w c d e. last.apart v w (out_is v c).0 (out_is w d).0 (is_out v c) (is_out w d) e))

    pub outs_below : AllBelow wide (joined (out_qubits f moves))
    outs_below = subst (AllBelow wide) (sym (joined_on (place_plan f moves) f.outs))
        (AllBelow-map (place_plan f moves) wide outs (λ w c. last.below w (out_is w c).0 (is_out w c)))
