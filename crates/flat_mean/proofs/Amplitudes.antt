-- The laws of paths at amplitudes.
use Rattle.std.proofs.Common.{◌≡◌, Bool, true, false, cond, ◌&&◌, List, [], ◌∷◌, refl, sym, ◌∙◌, ap}
use Rattle.std.proofs.Math.Path.{fun_ext}
use Rattle.amp_core.specs.declared.Amp.{Amp}
use Rattle.amp_core.specs.Amplitude.{none, plus}
use Rattle.amp_core.proofs.Amplitudes.{plus_comm, plus_assoc, plus-none, none-plus}
use Rattle.sum_laws.specs.Terms.{same_bits, amplitude}
use Rattle.flat_core.specs.declared.step.WireId.{WireId}
use Rattle.flat_mean.specs.Path.{count_choices, top_row, possible_path, path_agrees, sum_choices}
use Rattle.flat_mean.specs.Terms.{Term, first_term, do_steps, total, weight, values_of, seen_at}
use Rattle.flat_mean.specs.Laws.{top_term, StepsGivePaths, StepsGiveAmplitudes}
use Rattle.flat_mean.proofs.Sums.{IsSum}
use Rattle.flat_mean.proofs.Sequence.{steps_give_paths}

pub amp_sum : IsSum none plus
amp_sum = record { unit = plus-none; swap = plus_comm; group = plus_assoc }

pub paths_at_amplitudes : StepsGivePaths
paths_at_amplitudes steps input outcome g = steps_give_paths steps input outcome none plus amp_sum g

-- what a term adds to the amplitude of a value
abbrev pub added : List WireId → List Bool → Term → Amp
added wires values t = cond (same_bits (values_of wires t.row) values) (weight t) none

add_if : (b : Bool) (x y : Amp) → cond b (plus x y) y ≡ plus (cond b x none) y
add_if true x y = refl
add_if false x y = sym (none-plus y)

pub amplitude-seen : (wires : List WireId) (values : List Bool) (ts : List Term) → amplitude values (seen_at wires ts) ≡ total none plus (added wires values) ts
unfolding amplitude
amplitude-seen wires values [] = refl
amplitude-seen wires values (t ∷ ts) =
    add_if (same_bits (values_of wires t.row) values) (weight t) (amplitude values (seen_at wires ts))
    ∙ ap (plus (added wires values t)) (amplitude-seen wires values ts)

-- a path adds its weight where it agrees and has the value
pub weigh : (possible agreed has : Bool) (x : Amp) → cond (possible && agreed) (cond has x none) none ≡ cond (agreed && has) (cond possible x none) none
weigh true true has x = refl
weigh true false has x = refl
weigh false true true x = refl
weigh false true false x = refl
weigh false false has x = refl

pub amplitudes : StepsGiveAmplitudes
amplitudes steps input outcome wires values =
    amplitude-seen wires values (do_steps outcome steps (first_term input ∷ []))
    ∙ paths_at_amplitudes steps input outcome (added wires values)
    ∙ ap (sum_choices plus (count_choices steps)) (fun_ext (λ c.
    weigh (possible_path steps input c) (path_agrees steps input outcome c) (same_bits (values_of wires (top_row steps input c)) values) (weight (top_term steps input c))))
