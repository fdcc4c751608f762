-- What is built so far, and how operands are read.
use Rattle.std.specs.Prelude.{ℕ, zero, suc, Bool, true, false, cond, not, ◌&&◌, ◌==◌, List, [], ◌∷◌, ◌++◌, length, map, Option, Some, None}
use Rattle.std.specs.Bool.{beq}
use Rattle.std.specs.List.{list_any}
use Rattle.silq_io.specs.declared.limit.OverLimit.{OverLimit}
use Rattle.flat_core.specs.declared.step.WireId.{WireId}
use Rattle.flat_core.specs.declared.step.Lit.{Lit}
use Rattle.flat_core.specs.declared.step.Step.{Step}
use Rattle.flat_core.specs.Form.{DraftForm}
use Rattle.flat_core.specs.Label.{wire_id, same_wire, wire_in, label_after}
use Rattle.flat_core.specs.Drafts.{with_wire, with_step, over_by_wire, over_by_step}
use Rattle.bit_arith.specs.declared.operand.Operand.{Operand}
use Rattle.bit_arith.specs.declared.operand.Operand.TheVariants.{Const, Literal}

-- a flat form in the making, and the first limit that it went above, if any: what is told of it goes on beyond a limit
pub record Built : Type 0 where
  pub draft : DraftForm
  pub over : Option OverLimit

-- with what steps are made: their source line, and the condition in force
pub record Setting : Type 0 where
  pub line : ℕ
  pub condition : Option Operand

-- what is built from, within all limits so far
abbrev pub begun : DraftForm → Built
begun d = record { draft = d; over = None }

-- what a row gives beside the steps that it makes
pub record Given (A : Type 0) : Type 0 where
  pub answer : A
  pub built : Built

abbrev pub or_later : Option OverLimit → Option OverLimit → Option OverLimit
or_later None later = later
or_later (Some first) later = Some first

-- one wire more, and one step more
abbrev pub new_wire : Built → Built
new_wire b = record { draft = with_wire b.draft false; over = or_later b.over (over_by_wire b.draft) }

abbrev pub push : Setting → Step → Built → Built
push at s b = record { draft = with_step b.draft s at.line; over = or_later b.over (over_by_step b.draft s) }

abbrev pub new_wires : ℕ → Built → Built
new_wires zero b = b
new_wires (suc n) b = new_wires n (new_wire b)

-- the number of the next wire, and n wires from it on
abbrev pub next_wire : Built → WireId
next_wire b = wire_id (length b.draft.wires)

abbrev pub wires_from : ℕ → ℕ → List WireId
wires_from w zero = []
wires_from w (suc n) = wire_id w ∷ wires_from (suc w) n

abbrev pub next_wires : ℕ → Built → List WireId
next_wires n b = wires_from (length b.draft.wires) n

-- ---- operands

abbrev pub plus : WireId → Lit
plus w = record { wire = w; positive = true }

-- a wire's own bit
abbrev pub made : WireId → Operand
made w = Literal (plus w)

abbrev pub all_made : List WireId → List Operand
all_made ws = map made ws

abbrev pub opposite : Lit → Lit
opposite l = record { wire = l.wire; positive = not l.positive }

abbrev pub negated : Operand → Operand
negated (Const b) = Const (not b)
negated (Literal l) = Literal (opposite l)

abbrev pub all_negated : List Operand → List Operand
all_negated ps = map negated ps

-- the top one of a list negated
abbrev pub top_negated : List Operand → List Operand
top_negated [] = []
top_negated (p ∷ []) = negated p ∷ []
top_negated (p ∷ q ∷ ps) = p ∷ top_negated (q ∷ ps)

-- a wire that is no input and that no step changed shows 0
abbrev pub blank : DraftForm → WireId → Bool
blank d w = not (wire_in d.wires w).input && (label_after d.steps w == 0)

-- a blank wire is read as the constant that it shows
abbrev pub read : DraftForm → Operand → Operand
read d (Const b) = Const b
read d (Literal l) = cond (blank d l.wire) (Const (not l.positive)) (Literal l)

-- ---- conjunctions

abbrev pub same_lit : Lit → Lit → Bool
same_lit a b = same_wire a.wire b.wire && beq a.positive b.positive

abbrev pub has : List Lit → Lit → Bool
has ls l = list_any (same_lit l) ls

-- a conjunction without constants and doubles, of which the first stays; none where it is false
abbrev pub tidy : List Lit → List Operand → Option (List Lit)
tidy kept [] = Some kept
tidy kept (Const true ∷ ps) = tidy kept ps
tidy kept (Const false ∷ ps) = None
tidy kept (Literal l ∷ ps) = cond (has kept l) (tidy kept ps) (cond (has kept (opposite l)) None (tidy (kept ++ l ∷ []) ps))

-- the literals of a list of operands that are put into a list, none where it is false
abbrev pub literals : DraftForm → List Operand → Option (List Lit)
literals d ps = tidy [] (map (read d) ps)

-- the condition in force stands in front
abbrev pub under_condition : Option Operand → List Operand → List Operand
under_condition None ps = ps
under_condition (Some c) ps = c ∷ ps

abbrev pub under : Setting → List Operand → List Operand
under at ps = under_condition at.condition ps
