-- The gates of sound moves are the statements of a circuit, and a move leaves the other qubits.
use Rattle.std.proofs.Common.{◌≡◌, ◌≢◌, ℕ, suc, ◌<◌, Bool, true, false, not, cond, ◌&&◌, List, [], ◌∷◌, ◌++◌, All, Contains, map, set, inl, inr, refl, sym, subst, arith}
use Rattle.std.proofs.lemmas.List.{get_or-set_other}
use Rattle.std.proofs.lemmas.List.Elements.{All-nil, All-cons, All-append}
use Rattle.sum_laws.specs.Terms.{Branch}
use Rattle.gate_core.specs.declared.gate.OneKind.{OneKind}
use Rattle.gate_core.specs.declared.gate.OneKind.TheVariants.{X}
use Rattle.gate_core.specs.declared.gate.PlainGate.{PlainGate}
use Rattle.gate_core.specs.declared.gate.PlainGate.TheVariants.{One as PlainOne, Cx as PlainCx, Cz as PlainCz, Ccx as PlainCcx}
use Rattle.gate_core.specs.declared.gate.Gate.{Gate}
use Rattle.gate_core.specs.declared.gate.Gate.TheVariants.{Measure, If}
use Rattle.gate_core.specs.Meaning.{bit_at, turned, flipped, flipped_if, halved}
use Rattle.gate_core.specs.Local.{Absent, AllDiffer, AllBelow, gate_qubits, GatesBelow, as_gate}
use Rattle.gate_core.specs.Circuit.{measured_bits, GateFits, IsSound}
use Rattle.gate_emit.specs.declared.placed.QubitMove.{QubitMove}
use Rattle.gate_emit.specs.declared.placed.QubitMove.TheVariants.{Flip, FlipBy, FlipByTwo, Hadamard, HadamardBy, PhaseBy}
use Rattle.gate_emit.specs.declared.placed.PlacedMove.{PlacedMove}
use Rattle.gate_emit.specs.declared.placed.PlacedMove.TheVariants.{Unitary, Measured, Cleared, Released}
use Rattle.gate_emit.specs.Moves.{holds, around, phase_kinds, move_gates, move_branches, move_qubits}
use Rattle.gate_emit.specs.Plans.{gates_of_all, Sound}
use Rattle.gate_emit.proofs.SmallMoves.{at}
use Rattle.gate_emit.proofs.Acts.{gates_below}
use Rattle.gate_emit.proofs.Plans.{contains_cases}

-- the qubits of each gate differ
abbrev pub GatesDiffer : List PlainGate → Type 0
GatesDiffer [] = Unit {0}
GatesDiffer (g ∷ gs) = AllDiffer (gate_qubits g) × GatesDiffer gs

GatesDiffer-append : (gs hs : List PlainGate) → GatesDiffer gs → GatesDiffer hs → GatesDiffer (gs ++ hs)
GatesDiffer-append [] hs h k = k
GatesDiffer-append (g ∷ gs) hs h k = (h.0, GatesDiffer-append gs hs h.1 k)

around_differ : (p : Bool) (i : ℕ) (gs : List PlainGate) → GatesDiffer gs → GatesDiffer (around (at i p) gs)
around_differ true i gs h = h
around_differ false i gs h = ((tt, tt), GatesDiffer-append gs (PlainOne X i ∷ []) h ((tt, tt), tt))

kinds_differ : (i : ℕ) (kinds : List OneKind) → GatesDiffer (map (λ kind. PlainOne kind i) kinds)
kinds_differ i [] = tt
kinds_differ i (kind ∷ kinds) = ((tt, tt), kinds_differ i kinds)

gates_differ : (m : QubitMove) → AllDiffer (move_qubits m) → GatesDiffer (move_gates m)
gates_differ (Flip t) h = (h, tt)
gates_differ (FlipBy c t) h = around_differ c.positive c.qubit (PlainCx c.qubit t ∷ []) (h, tt)
gates_differ (FlipByTwo c e t) h =
    around_differ c.positive c.qubit (around e (PlainCcx c.qubit e.qubit t ∷ [])) (around_differ e.positive e.qubit (PlainCcx c.qubit e.qubit t ∷ []) (h, tt))
gates_differ (Hadamard t) h = (h, tt)
gates_differ (HadamardBy c t) h =
    around_differ c.positive c.qubit _ ((tt, tt), ((tt, tt), ((tt, tt), (h, ((tt, tt), ((tt, tt), ((tt, tt), tt)))))))
gates_differ (PhaseBy eighths c) h = around_differ c.positive c.qubit _ (kinds_differ c.qubit (phase_kinds eighths))

gate_fits : (n k : ℕ) (g : PlainGate) → AllBelow n (gate_qubits g) → AllDiffer (gate_qubits g) → GateFits n k (as_gate g)
gate_fits n k (PlainOne kind q) b d = record { qubits_in_range = b; qubits_differ = d; bits_in_range = tt }
gate_fits n k (PlainCx c t) b d = record { qubits_in_range = b; qubits_differ = d; bits_in_range = tt }
gate_fits n k (PlainCz c t) b d = record { qubits_in_range = b; qubits_differ = d; bits_in_range = tt }
gate_fits n k (PlainCcx p q t) b d = record { qubits_in_range = b; qubits_differ = d; bits_in_range = tt }

gates_fit : (n k : ℕ) (gs : List PlainGate) → GatesBelow n gs → GatesDiffer gs → All (GateFits n k) (map as_gate gs)
gates_fit n k [] b d = All-nil (GateFits n k)
gates_fit n k (g ∷ gs) b d = All-cons (GateFits n k) (as_gate g) (map as_gate gs) (gate_fits n k g b.0 d.0) (gates_fit n k gs b.1 d.1)

-- unitary gates measure nothing
measured_bits-plain : (gs : List PlainGate) (hs : List Gate) → measured_bits (map as_gate gs ++ hs) ≡ measured_bits hs
measured_bits-plain [] hs = refl
measured_bits-plain (PlainOne kind q ∷ gs) hs = measured_bits-plain gs hs
measured_bits-plain (PlainCx c t ∷ gs) hs = measured_bits-plain gs hs
measured_bits-plain (PlainCz c t ∷ gs) hs = measured_bits-plain gs hs
measured_bits-plain (PlainCcx a b t ∷ gs) hs = measured_bits-plain gs hs

each_fits : (n k : ℕ) (bits : List ℕ) (ms : List PlacedMove) → ((b : ℕ) → Contains bits b → b < k) → Sound n k bits ms → All (GateFits n k) (gates_of_all ms)
unfolding gates_of_all
each_fits n k bits [] h s = All-nil (GateFits n k)
each_fits n k bits (Unitary m ∷ ms) h s =
    let fits = s.0 in
    All-append (GateFits n k) (map as_gate (move_gates m)) (gates_of_all ms) (gates_fit n k (move_gates m) (gates_below n m fits.1) (gates_differ m fits.0)) (each_fits n k bits ms h s.1)
each_fits n k bits (Measured q b ∷ ms) h s =
    let fits = s.0 in
    All-cons (GateFits n k) (Measure q b) (gates_of_all ms) (record { qubits_in_range = (fits.0, tt); qubits_differ = (tt, tt); bits_in_range = (fits.1, tt) })
    (each_fits n k (b ∷ bits) ms (λ c m. elim (contains_cases b bits c m) [ inl e ↦ subst (λ x. x < k) e fits.1 | inr later ↦ h c later ]) s.1)
each_fits n k bits (Cleared q b ∷ ms) h s =
    let fits = s.0 in
    All-cons (GateFits n k) (If b 1 (PlainOne X q)) (gates_of_all ms) (record { qubits_in_range = (fits.0, tt); qubits_differ = (tt, tt); bits_in_range = (h b fits.1, tt) })
    (each_fits n k bits ms h s.1)
each_fits n k bits (Released ∷ ms) h s = each_fits n k bits ms h s.1

-- the bits that are measured later differ, and none of them was measured before
record MeasuredOnce (bits later : List ℕ) : Type 0 where
  differ : AllDiffer later
  new : (b : ℕ) → Contains later b → ¬ Contains bits b

Absent-all : (b : ℕ) (cs : List ℕ) → ((c : ℕ) → Contains cs c → c ≢ b) → Absent b cs
Absent-all b [] h = tt
Absent-all b (c ∷ cs) h = (h c (0, omega arith, refl), Absent-all b cs (λ x m. h x (suc m.0, omega (arith, m.1), m.2)))

measured_once : (n k : ℕ) (bits : List ℕ) (ms : List PlacedMove) → Sound n k bits ms → MeasuredOnce bits (measured_bits (gates_of_all ms))
unfolding gates_of_all
measured_once n k bits [] s = record { differ = tt; new = λ b m. absurd (omega (arith, m.1)) }
measured_once n k bits (Unitary m ∷ ms) s = subst (MeasuredOnce bits) (sym (measured_bits-plain (move_gates m) (gates_of_all ms))) (measured_once n k bits ms s.1)
measured_once n k bits (Measured q b ∷ ms) s =
    let fits = s.0 in
    let rest = measured_once n k (b ∷ bits) ms s.1 in
    record {
      differ = (Absent-all b (measured_bits (gates_of_all ms)) (λ c m e. rest.new c m (0, omega arith, sym e)), rest.differ);
      new = λ c m. elim (contains_cases b (measured_bits (gates_of_all ms)) c m) [
        | inl e ↦ subst (λ x. ¬ Contains bits x) e fits.2
        | inr later ↦ (λ before. rest.new c later (suc before.0, omega (arith, before.1), before.2))
      ];
    }
measured_once n k bits (Cleared q b ∷ ms) s = measured_once n k bits ms s.1
measured_once n k bits (Released ∷ ms) s = measured_once n k bits ms s.1

pub gates_are_sound : (n k : ℕ) (ms : List PlacedMove) → Sound n k [] ms → IsSound n k (gates_of_all ms)
gates_are_sound n k ms s = record {
  each_fits = each_fits n k [] ms (λ b m. absurd (omega (arith, m.1))) s;
  measured_once = (measured_once n k [] ms s).differ;
}

-- the bit q, where another one is flipped
one_stays : (u v : List Bool) (q e : ℕ) → bit_at v q ≡ bit_at u q → All (λ b. bit_at b.bits q ≡ bit_at u q) (turned e v)
one_stays u v q e h = All-cons (λ b. bit_at b.bits q ≡ bit_at u q) (record { bits = v; eighths = e; halvings = 0 }) [] h (All-nil (λ b. bit_at b.bits q ≡ bit_at u q))

flipped_if_stays : (b : Bool) (u : List Bool) (t q : ℕ) → t ≢ q → bit_at (flipped_if b u t) q ≡ bit_at u q
flipped_if_stays true u t q n = get_or-set_other u t q (not (bit_at u t)) false (λ e. n (sym e))
flipped_if_stays false u t q n = refl

halved_stays : (u : List Bool) (t q : ℕ) → t ≢ q → All (λ b. bit_at b.bits q ≡ bit_at u q) (halved u t)
halved_stays u t q n =
    let to_zero : Branch = record { bits = set u t false; eighths = 0; halvings = 1 } in
    let to_one : Branch = record { bits = set u t true; eighths = cond (bit_at u t) 4 0; halvings = 1 } in
    All-cons (λ b. bit_at b.bits q ≡ bit_at u q) to_zero (to_one ∷ []) (get_or-set_other u t q false false (λ e. n (sym e)))
    (All-cons (λ b. bit_at b.bits q ≡ bit_at u q) to_one [] (get_or-set_other u t q true false (λ e. n (sym e))) (All-nil (λ b. bit_at b.bits q ≡ bit_at u q)))

halved_if_stays : (b : Bool) (u : List Bool) (t q : ℕ) → t ≢ q → All (λ b. bit_at b.bits q ≡ bit_at u q) (cond b (halved u t) (turned 0 u))
halved_if_stays true u t q n = halved_stays u t q n
halved_if_stays false u t q n = one_stays u u q 0 refl

pub others_stay : (m : QubitMove) (u : List Bool) (q : ℕ) → Absent q (move_qubits m) → All (λ b. bit_at b.bits q ≡ bit_at u q) (move_branches m u)
others_stay (Flip t) u q h = one_stays u (flipped u t) q 0 (flipped_if_stays true u t q h.0)
others_stay (FlipBy c t) u q h = one_stays u (flipped_if (holds c u) u t) q 0 (flipped_if_stays (holds c u) u t q h.1.0)
others_stay (FlipByTwo c e t) u q h = one_stays u (flipped_if (holds c u && holds e u) u t) q 0 (flipped_if_stays (holds c u && holds e u) u t q h.1.1.0)
others_stay (Hadamard t) u q h = halved_stays u t q h.0
others_stay (HadamardBy c t) u q h = halved_if_stays (holds c u) u t q h.1.0
others_stay (PhaseBy eighths c) u q h = one_stays u u q (cond (holds c u) eighths 0) refl
