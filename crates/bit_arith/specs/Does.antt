-- What the steps of a row do to the values of wires.
use Rattle.std.specs.Prelude.{◌≡◌, ℕ, zero, suc, ◌+◌, ◌%◌, ◌<◌, ◌≤◌, Bool, true, false, cond, ◌&&◌, List, [], ◌∷◌, ◌++◌, length, get_or, ⊤}
use Rattle.std.specs.Bool.{beq}
use Rattle.flat_core.specs.declared.step.Step.{Step}
use Rattle.flat_core.specs.declared.step.WireId.{WireId}
use Rattle.flat_core.specs.declared.step.End.TheVariants.{Dropped}
use Rattle.flat_core.specs.Form.{DraftForm, WireForm}
use Rattle.flat_core.specs.Label.{same_wire, label_after}
use Rattle.flat_core.specs.Sound.{is_x}
use Rattle.flat_mean.specs.Row.{Row, put, next}
use Rattle.flat_mean.specs.Terms.{Term, do_steps}
use Rattle.bit_arith.specs.declared.operand.Operand.{Operand}
use Rattle.bit_arith.specs.Built.{Setting, Given, all_made}
use Rattle.bit_arith.specs.Calls.{Targets, Safe, AllSafe, among, no_target}
use Rattle.bit_arith.specs.Values.{Clean, forced, bit_of, bits_at, values_at, all_hold}
use Rattle.bit_arith.specs.Numbers.{number}

-- the row after steps, none of which is an H
abbrev pub after : List Step → Row → Row
after [] v = v
after (s ∷ ss) v = after ss (next s false v)

abbrev pub AllX : List Step → Type 0
AllX [] = ⊤
AllX (s ∷ ss) = (is_x s ≡ true) × AllX ss

-- n wires that are no inputs and end as Dropped
abbrev pub dropped_wires : ℕ → List WireForm
dropped_wires zero = []
dropped_wires (suc n) = record { input = false; ending = Dropped } ∷ dropped_wires n

-- nothing changes a wire before it is made
abbrev pub Fresh : DraftForm → Type 0
Fresh d = (w : WireId) → length d.wires ≤ w.number → label_after d.steps w ≡ 0

-- the wires and steps that come to a draft: no step changes an old wire that is no target, nor a wire that is not made
pub record Grows (d e : DraftForm) (T : Targets) (new : List Step) : Type 0 where
  pub more : ℕ
  pub wires : e.wires ≡ d.wires ++ dropped_wires more
  pub steps : e.steps ≡ d.steps ++ new
  pub spares : (w : WireId) → w.number < length d.wires → T w ≡ false → label_after new w ≡ 0
  pub above : (w : WireId) → length e.wires ≤ w.number → label_after new w ≡ 0

-- X steps that change nothing where the condition in force is false, and give Q of the rows before and after where it holds
pub record Does (at : Setting) (d e : DraftForm) (T : Targets) (Q : Row → Row → Type 0) : Type 0 where
  pub new : List Step
  pub grows : Grows d e T new
  pub all_x : AllX new
  pub still : (v : Row) → Clean d v → forced at v ≡ false → after new v ≡ v
  pub gives : (v : Row) → Clean d v → forced at v ≡ true → Q v (after new v)

-- ---- answers

abbrev pub NoneNew : DraftForm → Targets → Type 0
NoneNew d T = (w : WireId) → length d.wires ≤ w.number → T w ≡ false

-- wires that were made from d to e
abbrev pub AllNew : DraftForm → DraftForm → List WireId → Type 0
AllNew d e [] = ⊤
AllNew d e (w ∷ ws) = (length d.wires ≤ w.number) × (w.number < length e.wires) × AllNew d e ws

-- some of the first n wires
abbrev pub Below : ℕ → List WireId → Type 0
Below n [] = ⊤
Below n (w ∷ ws) = (w.number < n) × Below n ws

abbrev pub Different : List WireId → Type 0
Different [] = ⊤
Different (w ∷ ws) = (among ws w ≡ false) × Different ws

-- an answer is safe from each set of old wires from which the operands are safe that it is made of
abbrev pub StaySafe : DraftForm → DraftForm → List Operand → List Operand → Type 0
StaySafe d e of answer = (T : Targets) → NoneNew d T → AllSafe (length d.wires) T of → AllSafe (length e.wires) T answer

-- new wires of its own, which differ, are an answer
pub record OwnWires (d e : DraftForm) (answer : List Operand) : Type 0 where
  pub wires : List WireId
  pub answer_is : answer ≡ all_made wires
  pub new : AllNew d e wires
  pub different : Different wires

-- a row that answers new wires, which show f of the row before, and changes no old wire
pub record Copies (at : Setting) (d : DraftForm) (row : Given (List WireId)) (f : Row → List Bool) : Type 0 where
  pub does : Does at d row.built.draft no_target (λ v u. values_at u row.answer ≡ f v)
  pub new : AllNew d row.built.draft row.answer
  pub different : Different row.answer
  pub safe : StaySafe d row.built.draft [] (all_made row.answer)

-- a row that answers a number of n bits, which is f of the row before, and changes no old wire
pub record GivesNumber (at : Setting) (d : DraftForm) (n : ℕ) (row : Given (List Operand)) (f : Row → ℕ) : Type 0 where
  pub does : Does at d row.built.draft no_target (λ v u. number (bits_at u row.answer) ≡ f v)
  pub count : length row.answer ≡ n
  pub own : OwnWires d row.built.draft row.answer
  pub safe : StaySafe d row.built.draft [] row.answer

-- a row that answers n operands, of which operand i shows f i of the row before, and changes no old wire
pub record GivesBits (at : Setting) (d : DraftForm) (n : ℕ) (row : Given (List Operand)) (f : ℕ → Row → Bool) : Type 0 where
  pub does : Does at d row.built.draft no_target (λ v u. (i : ℕ) → i < n → get_or (bits_at u row.answer) i false ≡ f i v)
  pub count : length row.answer ≡ n
  pub safe : StaySafe d row.built.draft [] row.answer

-- a row that answers one operand, whose bit is f of the row before, and changes no old wire
pub record Tells (at : Setting) (d : DraftForm) (of : List Operand) (row : Given Operand) (f : Row → Bool) : Type 0 where
  pub does : Does at d row.built.draft no_target (λ v u. bit_of u row.answer ≡ f v)
  pub safe : (T : Targets) → NoneNew d T → AllSafe (length d.wires) T of → Safe (length row.built.draft.wires) T row.answer

-- ---- phases, conjunctions, Hadamard gates and measures

-- steps that turn a term by k eighths where the condition in force and the operands hold, and change no old wire
pub record Turns (at : Setting) (k : ℕ) (ps : List Operand) (d e : DraftForm) : Type 0 where
  pub new : List Step
  pub grows : Grows d e no_target new
  pub still : (v : Row) → Clean d v → forced at v ≡ false → after new v ≡ v
  pub gives : (outcome : ℕ → Bool) (t : Term) → Clean d t.row → do_steps outcome new (t ∷ []) ≡ record { row = after new t.row; halvings = t.halvings; eighths = t.eighths + cond (forced at t.row && all_hold t.row ps) (k % 8) 0 } ∷ []

-- the first of some operands holds, if there is one
abbrev pub front_holds : Row → List Operand → Bool
front_holds v [] = true
front_holds v (p ∷ ps) = bit_of v p

-- X steps that put a conjunction into the answer whether or not the condition in force holds, and that change nothing where the first operand does not hold
pub record Conjoins (ps : List Operand) (d : DraftForm) (row : Given Operand) : Type 0 where
  pub new : List Step
  pub grows : Grows d row.built.draft no_target new
  pub all_x : AllX new
  pub still : (v : Row) → Clean d v → front_holds v ps ≡ false → after new v ≡ v
  pub gives : (v : Row) → Clean d v → bit_of (after new v) row.answer ≡ all_hold v ps
  pub safe : (T : Targets) → NoneNew d T → AllSafe (length d.wires) T ps → Safe (length row.built.draft.wires) T row.answer

-- a term with a wire's value replaced, over root two; the sign turns where the value is 1 before and after
abbrev pub half : Term → WireId → Bool → Term
half t w k = record { row = put w.number k t.row; halvings = t.halvings + 1; eighths = t.eighths + cond (t.row w.number && k) 4 0 }

-- steps that split a term in two where the condition in force holds, and else leave it as it is
pub record Splits (at : Setting) (w : WireId) (d e : DraftForm) : Type 0 where
  pub new : List Step
  pub grows : Grows d e (same_wire w) new
  pub still : (outcome : ℕ → Bool) (t : Term) → forced at t.row ≡ false → do_steps outcome new (t ∷ []) ≡ t ∷ []
  pub gives : (outcome : ℕ → Bool) (t : Term) → forced at t.row ≡ true → do_steps outcome new (t ∷ []) ≡ half t w false ∷ half t w true ∷ []

-- steps that keep a term where a wire's value is outcome bit n, and else drop it
pub record Measures (w : WireId) (n : ℕ) (d e : DraftForm) : Type 0 where
  pub new : List Step
  pub grows : Grows d e no_target new
  pub gives : (outcome : ℕ → Bool) (t : Term) → do_steps outcome new (t ∷ []) ≡ cond (beq (t.row w.number) (outcome n)) (t ∷ []) []
