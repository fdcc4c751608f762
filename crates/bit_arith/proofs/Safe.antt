-- Which operands are safe to read, and which wires may be changed, by parts.
use Rattle.std.proofs.Common.{◌≡◌, ℕ, zero, suc, ◌<◌, ◌≤◌, Bool, true, false, ◌||◌, eqb, List, [], ◌∷◌, ◌++◌, length, get_or, take, drop, Option, Some, None, refl, sym, ap, ◌∙◌, subst, arith}
use Rattle.std.proofs.lemmas.Bool.Decides.{nat_tests}
use Rattle.flat_core.specs.declared.step.WireId.{WireId}
use Rattle.flat_core.specs.declared.step.Lit.{Lit}
use Rattle.flat_core.specs.Form.{DraftForm}
use Rattle.flat_core.specs.Label.{same_wire, wire_id}
use Rattle.bit_arith.specs.declared.operand.Operand.{Operand}
use Rattle.bit_arith.specs.declared.operand.Operand.TheVariants.{Const, Literal}
use Rattle.bit_arith.specs.Built.{Setting, under_condition, under, negated, all_negated, top_negated, made, all_made, wires_from}
use Rattle.bit_arith.specs.Calls.{Building, Targets, among, no_target, SafeLit, Safe, AllSafe, IsTarget, AreTargets}
use Rattle.bit_arith.proofs.Grows.{all_safe_append, all_safe_front, all_safe_back}

-- what is safe in one place is safe in another
abbrev pub Wider : ℕ → Targets → ℕ → Targets → Type 0
Wider n T m U = (l : Lit) → SafeLit n T l → SafeLit m U l

pub safe_in : (n : ℕ) (T : Targets) (m : ℕ) (U : Targets) → Wider n T m U → (p : Operand) → Safe n T p → Safe m U p
safe_in n T m U wide (Const b) s = tt
safe_in n T m U wide (Literal l) s = wide l s

pub all_safe_in : (n : ℕ) (T : Targets) (m : ℕ) (U : Targets) → Wider n T m U → (ps : List Operand) → AllSafe n T ps → AllSafe m U ps
all_safe_in n T m U wide [] s = tt
all_safe_in n T m U wide (p ∷ ps) s = (safe_in n T m U wide p s.0, all_safe_in n T m U wide ps s.1)

-- parts of lists
pub safe_at : (n : ℕ) (T : Targets) (ps : List Operand) (i : ℕ) (default : Operand) → i < length ps → AllSafe n T ps → Safe n T (get_or ps i default)
safe_at n T [] i d h s = absurd (omega arith)
safe_at n T (p ∷ ps) zero d h s = s.0
safe_at n T (p ∷ ps) (suc i) d h s = safe_at n T ps i d (omega arith) s.1

pub all_safe_take : (n : ℕ) (T : Targets) (ps : List Operand) (i : ℕ) → AllSafe n T ps → AllSafe n T (take i ps)
all_safe_take n T [] zero s = tt
all_safe_take n T [] (suc i) s = tt
all_safe_take n T (p ∷ ps) zero s = tt
all_safe_take n T (p ∷ ps) (suc i) s = (s.0, all_safe_take n T ps i s.1)

-- the condition in force, and the operands
pub condition_safe : (n : ℕ) (T : Targets) (at : Setting) (ps : List Operand) → AllSafe n T (under at ps) → AllSafe n T (under at [])
condition_safe n T at ps s = go at.condition s
  where
    go : (c : Option Operand) → AllSafe n T (under_condition c ps) → AllSafe n T (under_condition c [])
    go None s = tt
    go (Some p) s = (s.0, tt)

pub operands_safe : (n : ℕ) (T : Targets) (at : Setting) (ps : List Operand) → AllSafe n T (under at ps) → AllSafe n T ps
operands_safe n T at ps s = go at.condition s
  where
    go : (c : Option Operand) → AllSafe n T (under_condition c ps) → AllSafe n T ps
    go None s = s
    go (Some p) s = s.1

pub under_safe : (n : ℕ) (T : Targets) (at : Setting) (ps : List Operand) → AllSafe n T (under at []) → AllSafe n T ps → AllSafe n T (under at ps)
under_safe n T at ps f s = go at.condition f
  where
    go : (c : Option Operand) → AllSafe n T (under_condition c []) → AllSafe n T (under_condition c ps)
    go None f = s
    go (Some p) f = (f.0, s)

pub under_in : (n : ℕ) (T : Targets) (m : ℕ) (U : Targets) → Wider n T m U → (at : Setting) (ps : List Operand) → AllSafe n T (under at ps) → AllSafe m U (under at ps)
under_in n T m U wide at ps s = all_safe_in n T m U wide (under at ps) s

-- what is one of some wires
eqb-sym : (a b : ℕ) → eqb a b ≡ eqb b a
eqb-sym a b = grind (arith, nat_tests)

same_wire-sym : (v w : WireId) → same_wire v w ≡ same_wire w v
same_wire-sym v w = eqb-sym v.number w.number

neither : (a b : Bool) → (a || b) ≡ false → (a ≡ false) × (b ≡ false)
neither true b h = cc
neither false b h = (refl, h)

pub among_at : (ws : List WireId) (i : ℕ) (default v : WireId) → i < length ws → among ws v ≡ false → same_wire (get_or ws i default) v ≡ false
among_at [] i d v h f = absurd (omega arith)
among_at (w ∷ ws) zero d v h f = same_wire-sym w v ∙ (neither (same_wire v w) (among ws v) f).0
among_at (w ∷ ws) (suc i) d v h f = among_at ws i d v (omega arith) (neither (same_wire v w) (among ws v) f).1

pub among_drop : (ws : List WireId) (i : ℕ) (v : WireId) → among ws v ≡ false → among (drop i ws) v ≡ false
among_drop [] zero v f = refl
among_drop [] (suc i) v f = refl
among_drop (w ∷ ws) zero v f = f
among_drop (w ∷ ws) (suc i) v f = among_drop ws i v (neither (same_wire v w) (among ws v) f).1

-- safe beside all of some wires, and so beside one of them
pub beside_one : (n m : ℕ) (ws : List WireId) (i : ℕ) (default : WireId) → n ≤ m → i < length ws → Wider n (among ws) m (same_wire (get_or ws i default))
beside_one n m ws i d le lt = λ l s. (let h = s.0 in omega arith, among_at ws i d l.wire lt s.1)

-- an old wire is none of those that are new
number_differs : (a c n : ℕ) → a < n → n ≤ c → eqb c a ≡ false
number_differs a c n less past = grind (arith, nat_tests)

pub beside_new : (n m : ℕ) (T : Targets) (w : WireId) → n ≤ m → n ≤ w.number → Wider n T m (same_wire w)
beside_new n m T w le new = λ l s. (let h = s.0 in omega arith, number_differs l.wire.number w.number n s.0 new)

among_new : (n first count : ℕ) (v : WireId) → v.number < n → n ≤ first → among (wires_from first count) v ≡ false
among_new n first zero v lt le = refl
among_new n first (suc count) v lt le =
    let one : same_wire v (wire_id first) ≡ false = same_wire-sym v (wire_id first) ∙ number_differs v.number first n lt le in
    let rest : among (wires_from (suc first) count) v ≡ false = among_new n (suc first) count v lt (omega arith) in
    ap (λ (x : Bool). x || among (wires_from (suc first) count) v) one ∙ rest

pub beside_new_wires : (n m first count : ℕ) (T : Targets) → n ≤ m → n ≤ first → Wider n T m (among (wires_from first count))
beside_new_wires n m first count T le new = λ l s. (let h = s.0 in omega arith, among_new n first count l.wire s.0 new)

pub beside_none : (n m : ℕ) (T : Targets) → n ≤ m → Wider n T m no_target
beside_none n m T le = λ l s. (let h = s.0 in omega arith, refl)

-- targets by their places
pub target_at : (d : DraftForm) (ws : List WireId) (i : ℕ) (default : WireId) → i < length ws → AreTargets d ws → IsTarget d (get_or ws i default)
target_at d [] i e h t = absurd (omega arith)
target_at d (w ∷ ws) zero e h t = t.0
target_at d (w ∷ ws) (suc i) e h t = target_at d ws i e (omega arith) t.1

pub targets_drop : (d : DraftForm) (ws : List WireId) (i : ℕ) → AreTargets d ws → AreTargets d (drop i ws)
targets_drop d [] zero t = tt
targets_drop d [] (suc i) t = tt
targets_drop d (w ∷ ws) zero t = t
targets_drop d (w ∷ ws) (suc i) t = targets_drop d ws i t.1

-- negated and new operands
pub negated_safe : (n : ℕ) (T : Targets) (p : Operand) → Safe n T p → Safe n T (negated p)
negated_safe n T (Const b) s = tt
negated_safe n T (Literal l) s = s

pub all_negated_safe : (n : ℕ) (T : Targets) (ps : List Operand) → AllSafe n T ps → AllSafe n T (all_negated ps)
all_negated_safe n T [] s = tt
all_negated_safe n T (p ∷ ps) s = (negated_safe n T p s.0, all_negated_safe n T ps s.1)

pub top_negated_safe : (n : ℕ) (T : Targets) (ps : List Operand) → AllSafe n T ps → AllSafe n T (top_negated ps)
top_negated_safe n T [] s = tt
top_negated_safe n T (p ∷ []) s = (negated_safe n T p s.0, tt)
top_negated_safe n T (p ∷ q ∷ ps) s = (s.0, top_negated_safe n T (q ∷ ps) s.1)

-- the bits of wires that may be changed
pub made_safe : (d : DraftForm) (w : WireId) → w.number < length d.wires → Safe (length d.wires) no_target (made w)
made_safe d w lt = (lt, refl)

pub all_made_safe : (d : DraftForm) (ws : List WireId) → AreTargets d ws → AllSafe (length d.wires) no_target (all_made ws)
all_made_safe d [] t = tt
all_made_safe d (w ∷ ws) t = ((t.0.0, refl), all_made_safe d ws t.1)

-- what was safe before a call is so after it
pub under_now : (old now : Building) (T U : Targets) (ps : List Operand) → now.setting ≡ old.setting → Wider (length old.draft.wires) T (length now.draft.wires) U → AllSafe (length old.draft.wires) T (under old.setting []) → AllSafe (length now.draft.wires) U ps → AllSafe (length now.draft.wires) U (under now.setting ps)
under_now old now T U ps kept wide front s =
    subst (λ (at : Setting). AllSafe (length now.draft.wires) U (under at ps)) (sym kept)
    (under_safe (length now.draft.wires) U old.setting ps
    (under_in (length old.draft.wires) T (length now.draft.wires) U wide old.setting [] front) s)

pub now_safe : (old now : Building) (T U : Targets) (ps : List Operand) → now.setting ≡ old.setting → Wider (length old.draft.wires) T (length now.draft.wires) U → AllSafe (length old.draft.wires) T (under old.setting []) → AllSafe (length old.draft.wires) T ps → AllSafe (length now.draft.wires) U (under now.setting ps)
now_safe old now T U ps kept wide front s =
    under_now old now T U ps kept wide front (all_safe_in (length old.draft.wires) T (length now.draft.wires) U wide ps s)

pub more_wires : (n m : ℕ) (T : Targets) → n ≤ m → Wider n T m T
more_wires n m T le = λ l s. (let h = s.0 in omega arith, s.1)

-- wires that are there are below those that are not
pub among_past : (d : DraftForm) (ws : List WireId) (w : WireId) → AreTargets d ws → length d.wires ≤ w.number → among ws w ≡ false
among_past d [] w t past = refl
among_past d (v ∷ ws) w t past =
    let one : same_wire w v ≡ false = number_differs v.number w.number (length d.wires) t.0.0 past in
    ap (λ (x : Bool). x || among ws w) one ∙ among_past d ws w t.1 past

-- operands in front of two lists
pub front_safe : (n : ℕ) (T : Targets) (at : Setting) (cs ps qs : List Operand) → (AllSafe n T ps → AllSafe n T cs) → AllSafe n T (under at (ps ++ qs)) → AllSafe n T (under at (cs ++ ps ++ qs))
front_safe n T at cs ps qs gives safe =
    let all : AllSafe n T (ps ++ qs) = operands_safe n T at (ps ++ qs) safe in
    let first : AllSafe n T ps = all_safe_front n T ps qs all in
    under_safe n T at (cs ++ ps ++ qs) (condition_safe n T at (ps ++ qs) safe)
    (all_safe_append n T (cs ++ ps) qs (all_safe_append n T cs ps (gives first) first) (all_safe_back n T ps qs all))
