-- The gates of a move act as the move, on any distinct qubits of any register.
use Rattle.std.proofs.Common.{◌≡◌, ℕ, ◌<◌, Bool, true, false, cond, ◌&&◌, List, [], ◌∷◌, ◌++◌, map, length, get_or, ap, refl, sym, ◌∙◌, subst, arith}
use Rattle.std.proofs.lemmas.List.{map-append}
use Rattle.amp_core.specs.declared.Amp.{Amp}
use Rattle.sum_laws.specs.Terms.{apply, SameTerms, same_bit}
use Rattle.gate_core.specs.declared.gate.OneKind.{OneKind}
use Rattle.gate_core.specs.declared.gate.OneKind.TheVariants.{X, H}
use Rattle.gate_core.specs.declared.gate.PlainGate.{PlainGate}
use Rattle.gate_core.specs.declared.gate.PlainGate.TheVariants.{One as PlainOne, Cx as PlainCx, Ccx as PlainCcx}
use Rattle.gate_core.specs.Meaning.{turned, turned_if, flipped_if, halved, placed}
use Rattle.gate_core.specs.Local.{AllDiffer, AllBelow, renamed, plain_run, HasWidth, GatesBelow, branch_on}
use Rattle.gate_core.proofs.Local.{bit_at-placed, flipped-placed, flipped_if-placed, one_branches-placed}
use Rattle.gate_core.proofs.Embedded.{acts_as}
use Rattle.gate_emit.specs.declared.placed.Control.{Control}
use Rattle.gate_emit.specs.declared.placed.QubitMove.{QubitMove}
use Rattle.gate_emit.specs.declared.placed.QubitMove.TheVariants.{Flip, FlipBy, FlipByTwo, Hadamard, HadamardBy, PhaseBy}
use Rattle.gate_emit.specs.Moves.{holds, around, phase_kinds, move_branches, move_gates, move_qubits, PhaseFits}
use Rattle.gate_emit.proofs.SmallMoves.{at, equal_terms, small_flip, small_hadamard, small_flip_by, small_flip_by_two, small_phase_by, small_hadamard_by}

-- a move with qubit i read as qs[i]
abbrev pub control_on : List ℕ → Control → Control
control_on qs c = record { qubit = get_or qs c.qubit 0; positive = c.positive }

abbrev pub move_on : List ℕ → QubitMove → QubitMove
move_on qs (Flip t) = Flip (get_or qs t 0)
move_on qs (FlipBy c t) = FlipBy (control_on qs c) (get_or qs t 0)
move_on qs (FlipByTwo c e t) = FlipByTwo (control_on qs c) (control_on qs e) (get_or qs t 0)
move_on qs (Hadamard t) = Hadamard (get_or qs t 0)
move_on qs (HadamardBy c t) = HadamardBy (control_on qs c) (get_or qs t 0)
move_on qs (PhaseBy eighths c) = PhaseBy eighths (control_on qs c)

-- the gates of the renamed move are the renamed gates
around-renamed : (qs : List ℕ) (p : Bool) (i : ℕ) (gs : List PlainGate) → map (renamed qs) (around (at i p) gs) ≡ around (at (get_or qs i 0) p) (map (renamed qs) gs)
around-renamed qs true i gs = refl
around-renamed qs false i gs = ap (λ hs. PlainOne X (get_or qs i 0) ∷ hs) (map-append (renamed qs) gs (PlainOne X i ∷ []))

kinds-renamed : (qs : List ℕ) (i : ℕ) (kinds : List OneKind) → map (renamed qs) (map (λ kind. PlainOne kind i) kinds) ≡ map (λ kind. PlainOne kind (get_or qs i 0)) kinds
kinds-renamed qs i [] = refl
kinds-renamed qs i (kind ∷ kinds) = ap (λ gs. PlainOne kind (get_or qs i 0) ∷ gs) (kinds-renamed qs i kinds)

pub gates-renamed : (qs : List ℕ) (m : QubitMove) → map (renamed qs) (move_gates m) ≡ move_gates (move_on qs m)
gates-renamed qs (Flip t) = refl
gates-renamed qs (FlipBy c t) = around-renamed qs c.positive c.qubit (PlainCx c.qubit t ∷ [])
gates-renamed qs (FlipByTwo c e t) =
    around-renamed qs c.positive c.qubit (around e (PlainCcx c.qubit e.qubit t ∷ []))
    ∙ ap (around (control_on qs c)) (around-renamed qs e.positive e.qubit (PlainCcx c.qubit e.qubit t ∷ []))
gates-renamed qs (Hadamard t) = refl
gates-renamed qs (HadamardBy c t) = around-renamed qs c.positive c.qubit _
gates-renamed qs (PhaseBy eighths c) =
    around-renamed qs c.positive c.qubit (map (λ kind. PlainOne kind c.qubit) (phase_kinds eighths))
    ∙ ap (around (control_on qs c)) (kinds-renamed qs c.qubit (phase_kinds eighths))

-- the gates of a move are on its qubits
GatesBelow-append : (n : ℕ) (gs hs : List PlainGate) → GatesBelow n gs → GatesBelow n hs → GatesBelow n (gs ++ hs)
GatesBelow-append n [] hs h k = k
GatesBelow-append n (g ∷ gs) hs h k = (h.0, GatesBelow-append n gs hs h.1 k)

around_below : (n : ℕ) (p : Bool) (i : ℕ) (gs : List PlainGate) → i < n → GatesBelow n gs → GatesBelow n (around (at i p) gs)
around_below n true i gs l h = h
around_below n false i gs l h = ((l, tt), GatesBelow-append n gs (PlainOne X i ∷ []) h ((l, tt), tt))

kinds_below : (n i : ℕ) (kinds : List OneKind) → i < n → GatesBelow n (map (λ kind. PlainOne kind i) kinds)
kinds_below n i [] l = tt
kinds_below n i (kind ∷ kinds) l = ((l, tt), kinds_below n i kinds l)

pub gates_below : (n : ℕ) (m : QubitMove) → AllBelow n (move_qubits m) → GatesBelow n (move_gates m)
gates_below n (Flip t) h = (h, tt)
gates_below n (FlipBy c t) h = around_below n c.positive c.qubit (PlainCx c.qubit t ∷ []) h.0 (h, tt)
gates_below n (FlipByTwo c e t) h =
    around_below n c.positive c.qubit (around e (PlainCcx c.qubit e.qubit t ∷ [])) h.0
    (around_below n e.positive e.qubit (PlainCcx c.qubit e.qubit t ∷ []) h.1.0 (h, tt))
gates_below n (Hadamard t) h = (h, tt)
gates_below n (HadamardBy c t) h = around_below n c.positive c.qubit _ h.0 (h.1, (h.1, (h.1, (h, (h.1, (h.1, (h.1, tt)))))))
gates_below n (PhaseBy eighths c) h = around_below n c.positive c.qubit _ h.0 (kinds_below n c.qubit (phase_kinds eighths) h.0)

-- a move on the large register, as on the small one
module _ (qs : List ℕ) (u w : List Bool) (e : length w ≡ length qs) (d : AllDiffer qs) (r : AllBelow (length u) qs) where
  holds-placed : (c : Control) → c.qubit < length qs → holds (control_on qs c) (placed qs w u) ≡ holds c w
  holds-placed c h = ap (λ b. same_bit b c.positive) (bit_at-placed qs w u c.qubit e d r h)

  halved_or_not : (b : Bool) (i : ℕ) → i < length qs → cond b (halved (placed qs w u) (get_or qs i 0)) (turned 0 (placed qs w u)) ≡ map (branch_on qs u) (cond b (halved w i) (turned 0 w))
  halved_or_not true i h = one_branches-placed qs u w e d r H i h
  halved_or_not false i h = refl

  move_branches-placed : (m : QubitMove) → AllBelow (length qs) (move_qubits m) → move_branches (move_on qs m) (placed qs w u) ≡ map (branch_on qs u) (move_branches m w)
  move_branches-placed (Flip t) h = ap (turned 0) (flipped-placed qs u w e d r t h.0)
  move_branches-placed (FlipBy c t) h =
      ap (λ b. turned 0 (flipped_if b (placed qs w u) (get_or qs t 0))) (holds-placed c h.0)
      ∙ ap (turned 0) (flipped_if-placed qs u w e d r (holds c w) t h.1.0)
  move_branches-placed (FlipByTwo c g t) h =
      (λ s. turned 0 (flipped_if (holds-placed c h.0 s && holds-placed g h.1.0 s) (placed qs w u) (get_or qs t 0)))
      ∙ ap (turned 0) (flipped_if-placed qs u w e d r (holds c w && holds g w) t h.1.1.0)
  move_branches-placed (Hadamard t) h = one_branches-placed qs u w e d r H t h.0
  move_branches-placed (HadamardBy c t) h =
      ap (λ b. cond b (halved (placed qs w u) (get_or qs t 0)) (turned 0 (placed qs w u))) (holds-placed c h.0) ∙ halved_or_not (holds c w) t h.1.0
  move_branches-placed (PhaseBy eighths c) h = ap (λ b. turned_if b eighths (placed qs w u)) (holds-placed c h.0)

-- what is shown of each move, on the small register and on the large one
abbrev pub ActsAsItsGatesOn : QubitMove → List Bool → Amp → Type 0
ActsAsItsGatesOn m w x = SameTerms (plain_run (move_gates m) ((w, x) ∷ [])) (apply (move_branches m) ((w, x) ∷ []))

abbrev pub ActsAsItsGates : ℕ → QubitMove → Type 0
ActsAsItsGates n m = (ts : List (List Bool × Amp)) → HasWidth n ts → SameTerms (plain_run (move_gates m) ts) (apply (move_branches m) ts)

acts_on : (qs : List ℕ) (n : ℕ) (m : QubitMove) → AllDiffer qs → AllBelow n qs → AllBelow (length qs) (move_qubits m) → ((w : List Bool) (x : Amp) → length w ≡ length qs → ActsAsItsGatesOn m w x) → ActsAsItsGates n (move_on qs m)
acts_on qs n m d r b small ts h =
    subst (λ gs. SameTerms (plain_run gs ts) (apply (move_branches (move_on qs m)) ts)) (gates-renamed qs m)
    (acts_as qs n d r (move_gates m) (gates_below (length qs) m b) (move_branches m) (move_branches (move_on qs m))
    (λ u w f e. move_branches-placed qs u w e d (subst (λ l. AllBelow l qs) (sym f) r) m b) small ts h)

-- a one-bit, a two-bit and a three-bit list
by_one_bit : (P : List Bool → Type 0) → ((a : Bool) → P (a ∷ [])) → (w : List Bool) → length w ≡ 1 → P w
by_one_bit P f [] e = absurd (omega arith)
by_one_bit P f (a ∷ []) e = f a
by_one_bit P f (a ∷ b ∷ w) e = absurd (omega arith)

by_two_bits : (P : List Bool → Type 0) → ((a b : Bool) → P (a ∷ b ∷ [])) → (w : List Bool) → length w ≡ 2 → P w
by_two_bits P f [] e = absurd (omega arith)
by_two_bits P f (a ∷ []) e = absurd (omega arith)
by_two_bits P f (a ∷ b ∷ []) e = f a b
by_two_bits P f (a ∷ b ∷ c ∷ w) e = absurd (omega arith)

by_three_bits : (P : List Bool → Type 0) → ((a b c : Bool) → P (a ∷ b ∷ c ∷ [])) → (w : List Bool) → length w ≡ 3 → P w
by_three_bits P f [] e = absurd (omega arith)
by_three_bits P f (a ∷ []) e = absurd (omega arith)
by_three_bits P f (a ∷ b ∷ []) e = absurd (omega arith)
by_three_bits P f (a ∷ b ∷ c ∷ []) e = f a b c
by_three_bits P f (a ∷ b ∷ c ∷ g ∷ w) e = absurd (omega arith)

-- the theorem, for every move
pub acts_as_its_gates : (n : ℕ) (m : QubitMove) → AllDiffer (move_qubits m) → AllBelow n (move_qubits m) → PhaseFits m → ActsAsItsGates n m
acts_as_its_gates n (Flip t) d r h =
    acts_on (t ∷ []) n (Flip 0) d r (omega arith, tt)
    (λ w x e. by_one_bit (λ w. ActsAsItsGatesOn (Flip 0) w x) (λ a. equal_terms _ _ (small_flip a x)) w e)
acts_as_its_gates n (FlipBy c t) d r h =
    acts_on (c.qubit ∷ t ∷ []) n (FlipBy (at 0 c.positive) 1) d r (omega arith, (omega arith, tt))
    (λ w x e. by_two_bits (λ w. ActsAsItsGatesOn (FlipBy (at 0 c.positive) 1) w x) (λ a b. equal_terms _ _ (small_flip_by c.positive a b x)) w e)
acts_as_its_gates n (FlipByTwo c g t) d r h =
    acts_on (c.qubit ∷ g.qubit ∷ t ∷ []) n (FlipByTwo (at 0 c.positive) (at 1 g.positive) 2) d r (omega arith, (omega arith, (omega arith, tt)))
    (λ w x e. by_three_bits (λ w. ActsAsItsGatesOn (FlipByTwo (at 0 c.positive) (at 1 g.positive) 2) w x) (λ a b k. equal_terms _ _ (small_flip_by_two c.positive g.positive a b k x)) w e)
acts_as_its_gates n (Hadamard t) d r h =
    acts_on (t ∷ []) n (Hadamard 0) d r (omega arith, tt)
    (λ w x e. by_one_bit (λ w. ActsAsItsGatesOn (Hadamard 0) w x) (λ a. equal_terms _ _ (small_hadamard a x)) w e)
acts_as_its_gates n (HadamardBy c t) d r h =
    acts_on (c.qubit ∷ t ∷ []) n (HadamardBy (at 0 c.positive) 1) d r (omega arith, (omega arith, tt))
    (λ w x e. by_two_bits (λ w. ActsAsItsGatesOn (HadamardBy (at 0 c.positive) 1) w x) (λ a b. small_hadamard_by c.positive a b x) w e)
acts_as_its_gates n (PhaseBy eighths c) d r h =
    acts_on (c.qubit ∷ []) n (PhaseBy eighths (at 0 c.positive)) d r (omega arith, tt)
    (λ w x e. by_one_bit (λ w. ActsAsItsGatesOn (PhaseBy eighths (at 0 c.positive)) w x) (λ a. equal_terms _ _ (small_phase_by eighths c.positive a x h.0 h.1)) w e)
