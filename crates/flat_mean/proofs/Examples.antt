-- Paths worked out: two inputs and a new wire, with a Hadamard of the second input under the first one, a copy of the
-- second input, and an eighth of a turn where the copy is set.
use Rattle.std.proofs.Common.{◌≡◌, ℕ, Bool, true, false, Some, None, List, [], ◌∷◌, pos, negsuc, refl}
use Rattle.amp_core.specs.Amplitude.{none, times, times_w, numerator, over_root_two, add, plus, scaled, times_root_two}
use Rattle.flat_core.specs.declared.step.Step.{Step}
use Rattle.flat_core.specs.declared.step.Step.TheVariants.{X, H, P, M}
use Rattle.flat_core.specs.declared.step.End.TheVariants.{Output, Measured}
use Rattle.flat_core.specs.declared.step.Lit.{Lit}
use Rattle.flat_core.specs.declared.step.WireId.{WireId}
use Rattle.flat_core.specs.Form.{WireForm}
use Rattle.flat_core.specs.Label.{wire_id}
use Rattle.flat_mean.specs.Row.{Row, bits_of}
use Rattle.flat_mean.specs.Path.{count_choices, count_inputs, input_row, top_row, path_weight}
use Rattle.flat_mean.specs.Terms.{values_of}
use Rattle.flat_mean.specs.Laws.{path_amplitude}

abbrev set : ℕ → Lit
set w = record { wire = wire_id w; positive = true }

abbrev wires : List WireForm
wires = record { input = true; ending = Output } ∷ record { input = true; ending = Output } ∷ record { input = false; ending = Output } ∷ []

abbrev all : List WireId
all = wire_id 0 ∷ wire_id 1 ∷ wire_id 2 ∷ []

abbrev steps : List Step
steps = H (wire_id 1) (Some (set 0)) ∷ X (wire_id 2) (Some (set 1)) None ∷ P 1 (set 2) ∷ []

abbrev over : Bool → Bool → Row
over a b = input_row wires (bits_of (a ∷ b ∷ []))

counts : count_choices steps ≡ 1
counts = refl

inputs : count_inputs wires ≡ 2
inputs = refl

-- where the control does not hold, the bit is kept, and the path with the other choice has no weight
kept : values_of all (top_row steps (over false true) (bits_of (true ∷ []))) ≡ false ∷ true ∷ true ∷ []
kept = refl

kept_weight : path_weight steps (over false true) (bits_of (true ∷ [])) ≡ record { a = pos 0; b = pos 1; c = pos 0; d = pos 0; k = 0 }
unfolding times times_w numerator over_root_two
kept_weight = refl

other_weight : path_weight steps (over false true) (bits_of (false ∷ [])) ≡ none
other_weight = refl

-- where it holds, the choice is the new bit, and from 1 to 1 there is a sign
chosen : values_of all (top_row steps (over true true) (bits_of (false ∷ []))) ≡ true ∷ false ∷ false ∷ []
chosen = refl

chosen_weight : path_weight steps (over true true) (bits_of (false ∷ [])) ≡ record { a = pos 1; b = pos 0; c = pos 0; d = pos 0; k = 1 }
unfolding times times_w numerator over_root_two
chosen_weight = refl

sign : path_weight steps (over true true) (bits_of (true ∷ [])) ≡ record { a = pos 0; b = negsuc 0; c = pos 0; d = pos 0; k = 1 }
unfolding times times_w numerator over_root_two
sign = refl

-- two Hadamards undo each other, and the outcome of a measure picks the paths that have it
abbrev twice : List Step
twice = H (wire_id 0) None ∷ H (wire_id 0) None ∷ M (wire_id 0) 0 ∷ []

abbrev bit : Bool → Row
bit b = input_row (record { input = true; ending = Measured } ∷ []) (bits_of (b ∷ []))

-- from 1 to 1 stand two halves, as a sum over root two squared
back : path_amplitude twice (bit true) (bits_of (true ∷ [])) (wire_id 0 ∷ []) (true ∷ []) ≡ record { a = pos 2; b = pos 0; c = pos 0; d = pos 0; k = 2 }
unfolding plus add scaled times times_w times_root_two numerator over_root_two
back = refl

-- from 1 to 0 they cancel
gone : path_amplitude twice (bit true) (bits_of (false ∷ [])) (wire_id 0 ∷ []) (false ∷ []) ≡ record { a = pos 0; b = pos 0; c = pos 0; d = pos 0; k = 2 }
unfolding plus add scaled times times_w times_root_two numerator over_root_two
gone = refl

-- and no path measures 1 where the outcome is 0
missed : path_amplitude twice (bit true) (bits_of (false ∷ [])) (wire_id 0 ∷ []) (true ∷ []) ≡ none
unfolding plus add scaled times times_w times_root_two numerator over_root_two
missed = refl
