-- The circuit of a plan gives what the paths give.
use Rattle.std.proofs.Common.{◌≡◌, ℕ, ◌<◌, ◌≤◌, Bool, false, List, [], ◌∷◌, All, length, map, get_or, replicate, sym, ◌∙◌, ap, subst, arith}
use Rattle.std.proofs.lemmas.List.{length-map, get_or_default}
use Rattle.amp_core.specs.Amplitude.{one, Same}
use Rattle.amp_core.proofs.Amplitudes.{times_zero, Same-equal, Same-trans}
use Rattle.sum_laws.specs.Terms.{amplitude, pick, SameTerms}
use Rattle.flat_core.specs.declared.step.End.TheVariants.{Output}
use Rattle.flat_core.specs.Form.{FlatForm}
use Rattle.flat_core.specs.Label.{end_of}
use Rattle.flat_core.specs.Sound.{IsFlat, joined as wires_joined}
use Rattle.flat_mean.specs.Row.{Row, bits_of}
use Rattle.flat_mean.specs.Terms.{Term, first_term}
use Rattle.flat_mean.specs.Laws.{path_amplitude}
use Rattle.move_plan.specs.declared.moves.Move.{Move}
use Rattle.move_plan.specs.Progress.{at_start, IsPlan}
use Rattle.move_plan.specs.Live.{live, width, count_wires}
use Rattle.move_plan.specs.Laws.{IsInput, ZeroedAreZero}
use Rattle.move_plan.proofs.Counts.{width_from-ge}
use Rattle.qubit_alloc.specs.Place.{place_plan}
use Rattle.qubit_alloc.specs.PlacedMoves.{placed_all}
use Rattle.qubit_alloc.specs.Spread.{first_row, do_all_placed}
use Rattle.qubit_alloc.specs.Laws.{OtherQubitsZero, CircuitGivesPaths as TermsGivePaths}
use Rattle.gate_core.specs.Meaning.{bit_at, placed, joined, meaning, run}
use Rattle.gate_core.specs.Local.{Absent, AllDiffer, AllBelow, HasWidth}
use Rattle.gate_core.proofs.Local.{length-pick}
use Rattle.gate_emit.specs.Plans.{Sound}
use Rattle.gate_emit.proofs.Plans.{gates_act}
use Rattle.plan_gates.specs.Registers.{registers}
use Rattle.plan_gates.specs.PlanCircuit.{plan_moves, gates_of_plan, in_qubits, out_qubits, input_bits, plan_terms, result_bits}
use Rattle.plan_gates.specs.Laws.{GivesPaths}
use Rattle.plan_gates.proofs.Acts.{moves_act}
use Rattle.plan_gates.proofs.Registers.{length-register}
use Rattle.plan_gates.proofs.Spots.{bits_are_placed}
use Rattle.plan_gates.proofs.Sums.{amplitude_on_zeros, amplitude_elsewhere, seen_on}
use Rattle.plan_gates.proofs.ListQubits.{joined_on, absent_of_none}
use Rattle.plan_gates.proofs.Ends.{first_register, outs_differ, outs_below}

module _ (terms_give : TermsGivePaths) (others : OtherQubitsZero) (f : FlatForm) (moves : List Move) (wide : ℕ) (input : Row) (outcome : List Bool)
    (ok : IsFlat f) (given : IsInput f input) (zeroed : ZeroedAreZero f input) (plan : IsPlan f moves) (fits : width f moves ≤ wide)
    (moves_fit : Sound wide f.outcomes [] (plan_moves f moves)) where
  -- the terms on the values of the qubits
  abbrev terms : List Term
  terms = do_all_placed (bits_of outcome) (placed_all f moves) (first_term (first_row f input) ∷ [])

  room : count_wires f (live f at_start) ≤ wide
  room = let h = width_from-ge f at_start moves in omega (arith, h, fits)

  begins : (placed (joined (in_qubits f)) (input_bits f input) (replicate wide false), one) ∷ [] ≡ registers wide (first_term (first_row f input) ∷ [])
  begins = λ i. (sym (first_register f ok wide room input) i, sym (times_zero one) i) ∷ []

  wide_at_first : HasWidth wide (registers wide (first_term (first_row f input) ∷ []))
  wide_at_first = (length-register wide (first_row f input), tt)

  -- the circuit has the amplitudes of these terms
  acts : SameTerms (plan_terms f moves wide input outcome) (registers wide terms)
  unfolding meaning
  acts =
      subst (λ ts. SameTerms (run outcome (replicate f.outcomes false) (gates_of_plan f moves) ts) (registers wide terms)) (sym begins)
      (subst (λ ts. SameTerms (run outcome (replicate f.outcomes false) (gates_of_plan f moves) (registers wide (first_term (first_row f input) ∷ []))) ts)
      (moves_act wide f.outcomes [] outcome (placed_all f moves) (first_term (first_row f input) ∷ []) moves_fit)
      (gates_act wide f.outcomes (plan_moves f moves) outcome (registers wide (first_term (first_row f input) ∷ [])) moves_fit wide_at_first))

  abbrev spots : List ℕ
  spots = map (place_plan f moves) (wires_joined f.outs)

  spots_are : joined (out_qubits f moves) ≡ spots
  spots_are = joined_on (place_plan f moves) f.outs

  zero_at : (q : ℕ) → Absent q spots → All (λ t. t.row q ≡ false) terms
  zero_at q a = others f input (bits_of outcome) moves ok given zeroed plan q (λ w l e. absent_of_none (place_plan f moves) q (wires_joined f.outs) a w (ok.outs_name.each w (l, e)))

  zero_outside : All (λ t. (q : ℕ) → Absent q spots → t.row q ≡ false) terms
  zero_outside = λ k d l q a. zero_at q a k d l

  each_out : All (λ w. (w.number < length f.wires) × (end_of f w ≡ Output)) (wires_joined f.outs)
  each_out = λ k d l. ok.outs_name.only (get_or (wires_joined f.outs) k d) (k, l, get_or_default (wires_joined f.outs) k (get_or (wires_joined f.outs) k d) d l)

  on_results : (values : List Bool) → length values ≡ length (wires_joined f.outs) → amplitude (result_bits f moves wide values) (registers wide terms) ≡ path_amplitude f.steps input (bits_of outcome) (wires_joined f.outs) values
  on_results values e =
      ap (λ qs. amplitude (placed qs values (replicate wide false)) (registers wide terms)) spots_are
      ∙ amplitude_on_zeros wide spots (subst AllDiffer spots_are (outs_differ f ok wide moves plan fits)) (subst (AllBelow wide) spots_are (outs_below f ok wide moves plan fits)) values terms (e ∙ sym (length-map (wires_joined f.outs) (place_plan f moves))) zero_outside
      ∙ ap (amplitude values) (seen_on (place_plan f moves) (wires_joined f.outs) terms)
      ∙ terms_give f input (bits_of outcome) moves ok given zeroed plan (wires_joined f.outs) values each_out

  of_values : (values : List Bool) → length values ≡ length (wires_joined f.outs)
      → Same (amplitude (result_bits f moves wide values) (plan_terms f moves wide input outcome)) (path_amplitude f.steps input (bits_of outcome) (wires_joined f.outs) values)
  of_values values e = Same-trans _ _ _ (acts.each (result_bits f moves wide values)) (Same-equal _ _ (on_results values e))

  of_bits : (bits : List Bool) → length bits ≡ wide → ((q : ℕ) → q < length bits → Absent q (joined (out_qubits f moves)) → bit_at bits q ≡ false)
      → Same (amplitude bits (plan_terms f moves wide input outcome)) (path_amplitude f.steps input (bits_of outcome) (wires_joined f.outs) (pick (joined (out_qubits f moves)) bits))
  of_bits bits e zeros =
      let qs : List ℕ = joined (out_qubits f moves) in
      let is : bits ≡ result_bits f moves wide (pick qs bits) = bits_are_placed wide qs (outs_differ f ok wide moves plan fits) (outs_below f ok wide moves plan fits) bits e zeros in
      let as_many : length (pick qs bits) ≡ length (wires_joined f.outs) = length-pick qs bits ∙ ap length spots_are ∙ length-map (wires_joined f.outs) (place_plan f moves) in
      subst (λ u. Same (amplitude u (plan_terms f moves wide input outcome)) (path_amplitude f.steps input (bits_of outcome) (wires_joined f.outs) (pick qs bits))) (sym is) (of_values (pick qs bits) as_many)

  pub gives_paths : GivesPaths f moves wide input outcome
  gives_paths = record {
    of_values = of_values;
    of_bits = of_bits;
    elsewhere = λ bits q a e. Same-trans _ _ _ (acts.each bits) (Same-equal _ _ (amplitude_elsewhere wide bits q terms e (zero_at q (subst (Absent q) spots_are a))));
  }
