use Rattle.std.proofs.Common.{◌≡◌, ◌+◌, ◌<◌, ◌≤◌, ◌^◌, false, [], ◌∷◌, length, drop, replicate, ap, sym, ◌∙◌, subst, arith}
use Rattle.std.proofs.lemmas.List.{drop_all, length-replicate}
use Rattle.amp_core.specs.Amplitude.{one}
use Rattle.std.proofs.Math.Pow.{pow_mono}
use Rattle.sum_laws.specs.Table.{TableOf}
use Rattle.sum_laws.proofs.StandsFor.{stands_more}
use Rattle.sum_laws.specs.Terms.{apply}
use Rattle.gate_core.specs.Circuit.{qubits_of, bits_of}
use Rattle.gate_core.specs.Local.{AllBelow}
use Rattle.gate_core.specs.Meaning.{branches, run}
use Rattle.amp_run.proofs.Rows.{Running, running_first, running_next, running_last, running_at, room_for_next, rows_wide, fits_at, length-known_after}
use Rattle.amp_run.proofs.run.run.Goals as goal

pub loop-i-init : goal.loop-i-init
loop-i-init c =
    let zeros : c.in_ok-known.known ≡ replicate c.args.circuit.now.bits false = c.in_ok-known.ensures ∙ ap (λ n. replicate n false) c.bits.ensures in
    record {
      known_bits = ap length zeros ∙ length-replicate c.args.circuit.now.bits false;
      running =
          subst (λ known. Running c.args.circuit.now.qubits c.args.outcome.now known c.args.circuit.now.gates (run c.args.outcome.now (replicate c.args.circuit.now.bits false) c.args.circuit.now.gates ((c.args.bits, one) ∷ [])) c.in_ok-rows.rows) (sym zeros)
          (running_first c.args.circuit.now.qubits c.args.outcome.now (replicate c.args.circuit.now.bits false) c.args.circuit.now.gates c.args.bits c.in_ok-rows.rows c.requires.width c.requires.few c.in_ok-rows.ensures);
    }

pub next_rows-requires-clause-room : goal.next_rows-requires-clause-room
next_rows-requires-clause-room c =
    let h : c.loop-i.i < length c.args.circuit.now.gates = (let e = c.len-i-end.ensures.count in omega arith) in
    room_for_next _ _ _ _ _ _ _ (running_at _ _ _ c.args.circuit.now.gates c.loop-i.i c.unwrap-gate.result _ _ h (sym c.gate.ensures.statement ∙ c.unwrap-gate.ensures) c.loop-i.invariant.running)

pub next_rows-requires-clause-qubits : goal.next_rows-requires-clause-qubits
next_rows-requires-clause-qubits c =
    let h : c.loop-i.i < length c.args.circuit.now.gates = (let e = c.len-i-end.ensures.count in omega arith) in
    let fits = fits_at c.args.circuit.now.qubits c.args.circuit.now.bits c.args.circuit.now.gates c.loop-i.i c.unwrap-gate.result h (sym c.gate.ensures.statement ∙ c.unwrap-gate.ensures) c.len-i-end.ensures.sound in
    rows_wide c.args.circuit.now.qubits (qubits_of c.unwrap-gate.result) c.loop-i.rows fits.qubits_in_range c.loop-i.invariant.running.width

pub next_rows-requires-clause-outcome_bits : goal.next_rows-requires-clause-outcome_bits
next_rows-requires-clause-outcome_bits c =
    let h : c.loop-i.i < length c.args.circuit.now.gates = (let e = c.len-i-end.ensures.count in omega arith) in
    let fits = fits_at c.args.circuit.now.qubits c.args.circuit.now.bits c.args.circuit.now.gates c.loop-i.i c.unwrap-gate.result h (sym c.gate.ensures.statement ∙ c.unwrap-gate.ensures) c.len-i-end.ensures.sound in
    subst (λ n. AllBelow n (bits_of c.unwrap-gate.result)) (sym c.requires.outcome_bits) fits.bits_in_range

pub next_rows-requires-clause-known_bits : goal.next_rows-requires-clause-known_bits
next_rows-requires-clause-known_bits c =
    let h : c.loop-i.i < length c.args.circuit.now.gates = (let e = c.len-i-end.ensures.count in omega arith) in
    let fits = fits_at c.args.circuit.now.qubits c.args.circuit.now.bits c.args.circuit.now.gates c.loop-i.i c.unwrap-gate.result h (sym c.gate.ensures.statement ∙ c.unwrap-gate.ensures) c.len-i-end.ensures.sound in
    subst (λ n. AllBelow n (bits_of c.unwrap-gate.result)) (sym (ap length c.as_slice.ensures ∙ c.loop-i.invariant.known_bits)) fits.bits_in_range

pub note_measured-requires-clause-outcome_bits : goal.note_measured-requires-clause-outcome_bits
note_measured-requires-clause-outcome_bits c =
    let h : c.loop-i.i < length c.args.circuit.now.gates = (let e = c.len-i-end.ensures.count in omega arith) in
    let fits = fits_at c.args.circuit.now.qubits c.args.circuit.now.bits c.args.circuit.now.gates c.loop-i.i c.unwrap-gate.result h (sym c.gate.ensures.statement ∙ c.unwrap-gate.ensures) c.len-i-end.ensures.sound in
    subst (λ n. AllBelow n (bits_of c.unwrap-gate.result)) (sym c.requires.outcome_bits) fits.bits_in_range

pub note_measured-requires-clause-known_bits : goal.note_measured-requires-clause-known_bits
note_measured-requires-clause-known_bits c =
    let h : c.loop-i.i < length c.args.circuit.now.gates = (let e = c.len-i-end.ensures.count in omega arith) in
    let fits = fits_at c.args.circuit.now.qubits c.args.circuit.now.bits c.args.circuit.now.gates c.loop-i.i c.unwrap-gate.result h (sym c.gate.ensures.statement ∙ c.unwrap-gate.ensures) c.len-i-end.ensures.sound in
    subst (λ n. AllBelow n (bits_of c.unwrap-gate.result)) (sym c.loop-i.invariant.known_bits) fits.bits_in_range

pub loop-i-preserved : goal.loop-i-preserved
loop-i-preserved c =
    let h : c.loop-i.i < length c.args.circuit.now.gates = (let e = c.len-i-end.ensures.count in omega arith) in
    let whole = run c.args.outcome.now (replicate c.args.circuit.now.bits false) c.args.circuit.now.gates ((c.args.bits, one) ∷ []) in
    let here = running_at c.args.circuit.now.qubits c.args.outcome.now c.loop-i.known c.args.circuit.now.gates c.loop-i.i c.unwrap-gate.result whole c.loop-i.rows h (sym c.gate.ensures.statement ∙ c.unwrap-gate.ensures) c.loop-i.invariant.running in
    let table = subst (λ known. TableOf (apply (branches c.args.outcome.now known c.unwrap-gate.result) c.loop-i.rows) c.in_ok-rows-2.rows) c.as_slice.ensures c.in_ok-rows-2.ensures in
    record {
      known_bits = ap length c.note_measured.ensures ∙ length-known_after c.args.outcome.now c.loop-i.known c.unwrap-gate.result ∙ c.loop-i.invariant.known_bits;
      running =
          subst (λ known. Running c.args.circuit.now.qubits c.args.outcome.now known (drop (c.loop-i.i + 1) c.args.circuit.now.gates) whole c.in_ok-rows-2.rows) (sym c.note_measured.ensures)
          (running_next c.args.circuit.now.qubits c.args.outcome.now c.loop-i.known c.unwrap-gate.result (drop (c.loop-i.i + 1) c.args.circuit.now.gates) whole c.loop-i.rows c.in_ok-rows-2.rows here table);
    }

pub returns-clause-table : goal.returns-clause-table
returns-clause-table c =
    let whole = run c.args.outcome.now (replicate c.args.circuit.now.bits false) c.args.circuit.now.gates ((c.args.bits, one) ∷ []) in
    let h : length c.args.circuit.now.gates ≤ c.loop-i.i = (let e = c.len-i-end.ensures.count in omega arith) in
    running_last c.args.circuit.now.qubits c.args.outcome.now c.loop-i.known whole c.loop-i.rows
    (subst (λ gs. Running c.args.circuit.now.qubits c.args.outcome.now c.loop-i.known gs whole c.loop-i.rows) (drop_all c.loop-i.i c.args.circuit.now.gates h) c.loop-i.invariant.running)

pub returns-clause-wide : goal.returns-clause-wide
returns-clause-wide c = c.loop-i.invariant.running.width

pub returns-clause-small : goal.returns-clause-small
returns-clause-small c =
    let room = c.loop-i.invariant.running.room in
    let l : room.halvings ≤ 50 = (let f = room.few in omega arith) in
    stands_more (2 ^ room.halvings) (2 ^ 50) room.halvings 50 c.loop-i.rows (pow_mono l) l room.stands
