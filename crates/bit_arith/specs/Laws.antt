-- The laws of the rows, as statements: what each row does to the values of wires.
use Rattle.std.specs.Prelude.{◌≡◌, ℕ, ◌+◌, ◌-◌, ◌*◌, ◌^◌, ◌%◌, ◌<◌, ◌==◌, Bool, ◌&&◌, ◌||◌, List, [], ◌∷◌, ◌++◌, length}
use Rattle.sum_laws.specs.Terms.{same_bits}
use Rattle.flat_core.specs.declared.step.Step.{Step}
use Rattle.flat_core.specs.declared.step.WireId.{WireId}
use Rattle.flat_core.specs.Form.{DraftForm}
use Rattle.flat_core.specs.Label.{same_wire, label_after}
use Rattle.flat_core.specs.Sound.{count_measures}
use Rattle.flat_core.specs.Drafts.{IsDraft}
use Rattle.flat_mean.specs.Row.{Row, flipped}
use Rattle.flat_mean.specs.Terms.{Term, do_steps}
use Rattle.bit_arith.specs.declared.operand.Operand.{Operand}
use Rattle.bit_arith.specs.Built.{Built, Setting, under}
use Rattle.bit_arith.specs.Rows.{flip, conjunction, turn, had, measure, copy, flip_each, carry, sum, difference, add_into, sub_into, product, both, either, equal, less}
use Rattle.bit_arith.specs.Calls.{Targets, AllSafe, among, no_target}
use Rattle.bit_arith.specs.Values.{bit_of, bits_at, values_at, flip_bits, all_hold, Clean}
use Rattle.bit_arith.specs.Numbers.{number, low_bits, carries_into, is_below}
use Rattle.bit_arith.specs.Does.{after, AllX, Fresh, Grows, Does, Below, Different, Copies, GivesNumber, GivesBits, Tells, Turns, Conjoins, Splits, Measures}

-- ---- what the laws ask for

-- nothing changes a wire before it is made, and the condition in force and the operands are safe from the targets
pub record CanRead (at : Setting) (b : Built) (T : Targets) (ps : List Operand) : Type 0 where
  pub fresh : Fresh b.draft
  pub safe : AllSafe (length b.draft.wires) T (under at ps)

-- targets that are there and differ, with an operand for each
pub record HasTargets (b : Built) (ws : List WireId) (ps : List Operand) : Type 0 where
  pub there : Below (length b.draft.wires) ws
  pub different : Different ws
  pub lengths : length ws ≡ length ps

-- ---- flips

-- a target is flipped where all operands hold
abbrev pub FlipsWhereAllHold : Type 0
FlipsWhereAllHold =
    (at : Setting) (w : WireId) (ps : List Operand) (b : Built) → CanRead at b (same_wire w) ps → w.number < length b.draft.wires
    → Does at b.draft (flip at w ps b).draft (same_wire w) (λ v u. u w.number ≡ flipped (v w.number) (all_hold v ps))

-- copies show the operands' bits
abbrev pub CopiesBits : Type 0
CopiesBits =
    (at : Setting) (ps : List Operand) (b : Built) → CanRead at b no_target ps
    → Copies at b.draft (copy at ps b) (λ v. bits_at v ps)

-- exclusive or, place by place
abbrev pub FlipsEach : Type 0
FlipsEach =
    (at : Setting) (ws : List WireId) (ps : List Operand) (b : Built) → CanRead at b (among ws) ps → HasTargets b ws ps
    → Does at b.draft (flip_each at ws ps b).draft (among ws) (λ v u. values_at u ws ≡ flip_bits (values_at v ws) (bits_at v ps))

abbrev pub BothIsAnd : Type 0
BothIsAnd =
    (at : Setting) (p q : Operand) (b : Built) → CanRead at b no_target (p ∷ q ∷ [])
    → Tells at b.draft [] (both at p q b) (λ v. bit_of v p && bit_of v q)

abbrev pub EitherIsOr : Type 0
EitherIsOr =
    (at : Setting) (p q : Operand) (b : Built) → CanRead at b no_target (p ∷ q ∷ [])
    → Tells at b.draft [] (either at p q b) (λ v. bit_of v p || bit_of v q)

-- ---- tests

-- `equal` tells whether the bits are the same
abbrev pub EqualTellsSame : Type 0
EqualTellsSame =
    (at : Setting) (ps qs : List Operand) (b : Built) → CanRead at b no_target (ps ++ qs) → length ps ≡ length qs
    → Tells at b.draft (ps ++ qs) (equal at ps qs b) (λ v. same_bits (bits_at v ps) (bits_at v qs))

-- `less` tells the order, of values by two's complement where there is a sign
abbrev pub LessTellsOrder : Type 0
LessTellsOrder =
    (at : Setting) (with_sign : Bool) (ps qs : List Operand) (b : Built) → CanRead at b no_target (ps ++ qs) → length ps ≡ length qs
    → Tells at b.draft [] (less at with_sign ps qs b) (λ v. is_below with_sign (length ps) (number (bits_at v ps)) (number (bits_at v qs)))

-- ---- sums, differences and products modulo 2^n

abbrev pub CarryCarries : Type 0
CarryCarries =
    (at : Setting) (ps qs : List Operand) (b : Built) → CanRead at b no_target (ps ++ qs) → length ps ≡ length qs
    → GivesBits at b.draft (length ps) (carry at ps qs b) (λ i v. carries_into i (number (bits_at v ps)) (number (bits_at v qs)))

abbrev pub SumAdds : Type 0
SumAdds =
    (at : Setting) (ps qs : List Operand) (b : Built) → CanRead at b no_target (ps ++ qs) → length ps ≡ length qs
    → GivesNumber at b.draft (length ps) (sum at ps qs b) (λ v. (number (bits_at v ps) + number (bits_at v qs)) % 2 ^ length ps)

abbrev pub DifferenceSubtracts : Type 0
DifferenceSubtracts =
    (at : Setting) (ps qs : List Operand) (b : Built) → CanRead at b no_target (ps ++ qs) → length ps ≡ length qs
    → GivesNumber at b.draft (length ps) (difference at ps qs b) (λ v. (number (bits_at v ps) + (2 ^ length ps - number (bits_at v qs))) % 2 ^ length ps)

abbrev pub ProductMultiplies : Type 0
ProductMultiplies =
    (at : Setting) (ps qs : List Operand) (b : Built) → CanRead at b no_target (ps ++ qs) → length ps ≡ length qs
    → GivesNumber at b.draft (length ps) (product at ps qs b) (λ v. (number (bits_at v ps) * number (bits_at v qs)) % 2 ^ length ps)

abbrev pub AddIntoAdds : Type 0
AddIntoAdds =
    (at : Setting) (ws : List WireId) (qs : List Operand) (b : Built) → CanRead at b (among ws) qs → HasTargets b ws qs
    → Does at b.draft (add_into at ws qs b).draft (among ws) (λ v u. number (values_at u ws) ≡ (number (values_at v ws) + number (bits_at v qs)) % 2 ^ length ws)

abbrev pub SubIntoSubtracts : Type 0
SubIntoSubtracts =
    (at : Setting) (ws : List WireId) (qs : List Operand) (b : Built) → CanRead at b (among ws) qs → HasTargets b ws qs
    → Does at b.draft (sub_into at ws qs b).draft (among ws) (λ v u. number (values_at u ws) ≡ (number (values_at v ws) + (2 ^ length ws - number (bits_at v qs))) % 2 ^ length ws)

-- ---- phases and conjunctions

abbrev pub TurnTurns : Type 0
TurnTurns =
    (at : Setting) (k : ℕ) (ps : List Operand) (b : Built) → CanRead at b no_target ps
    → Turns at k ps b.draft (turn at k ps b).draft

-- the condition in force does not count here
abbrev pub ConjunctionTellsAll : Type 0
ConjunctionTellsAll =
    (at : Setting) (ps : List Operand) (b : Built) → Fresh b.draft → AllSafe (length b.draft.wires) no_target ps
    → Conjoins ps b.draft (conjunction at ps b)

-- ---- Hadamard gates and measures

abbrev pub HadSplits : Type 0
HadSplits = (at : Setting) (w : WireId) (b : Built) → w.number < length b.draft.wires → Splits at w b.draft (had at w b).draft

-- a measure has the next outcome number
abbrev pub MeasureMeasures : Type 0
MeasureMeasures = (at : Setting) (w : WireId) (b : Built) → Measures w (count_measures b.draft.steps) b.draft (measure at w b).draft

-- ---- steps and drafts

-- X steps make one term of one, with the row after them
abbrev pub FlipsKeepOneTerm : Type 0
FlipsKeepOneTerm =
    (outcome : ℕ → Bool) (steps : List Step) (t : Term) → AllX steps
    → do_steps outcome steps (t ∷ []) ≡ record { row = after steps t.row; halvings = t.halvings; eighths = t.eighths } ∷ []

-- what stays as steps and wires come: no wire changes that no step changes, nothing changes a wire before it is made, and blank wires are 0
pub record Keeps (d e : DraftForm) (T : Targets) (new : List Step) : Type 0 where
  pub values : (v : Row) (w : WireId) → label_after new w ≡ 0 → after new v w.number ≡ v w.number
  pub fresh : Fresh d → Fresh e
  pub clean : (v : Row) → Clean d v → Clean e (after new v)

abbrev pub GrowthKeeps : Type 0
GrowthKeeps = (d e : DraftForm) (T : Targets) (new : List Step) → Grows d e T new → Keeps d e T new

abbrev pub DraftsAreFresh : Type 0
DraftsAreFresh = (d : DraftForm) → IsDraft d → Fresh d

-- ---- numbers and bits

-- n bits and their number tell one another
pub record NumbersTell : Type 0 where
  pub below : (xs : List Bool) → number xs < 2 ^ length xs
  pub low : (xs : List Bool) (n m : ℕ) → length xs ≡ n → number xs ≡ m → xs ≡ low_bits n m
  pub number_is : (n m : ℕ) → m < 2 ^ n → number (low_bits n m) ≡ m
  pub same : (xs ys : List Bool) → length xs ≡ length ys → same_bits xs ys ≡ (number xs == number ys)
