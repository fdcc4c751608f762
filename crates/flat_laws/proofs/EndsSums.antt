-- Within all limits the rows of copies and sums make a draft of a flat form.
use Rattle.std.proofs.Common.{◌≡◌, ℕ, ◌≤◌, ◌<◌, false, List, [], ◌∷◌, length, refl, arith}
use Rattle.flat_core.specs.declared.step.WireId.{WireId}
use Rattle.flat_core.specs.Form.{DraftForm}
use Rattle.flat_core.specs.Label.{same_wire}
use Rattle.bit_arith.specs.declared.operand.Operand.{Operand}
use Rattle.bit_arith.specs.declared.operand.Operand.TheVariants.{Const}
use Rattle.bit_arith.specs.Built.{Built, Setting, new_wire, new_wires, next_wire, next_wires, made, all_made, all_negated, under}
use Rattle.bit_arith.specs.Rows.{singles, triples, products, pairs, copy, flip_each, carry_bit, carries, carry, sum_by, sum, difference, into_by, add_into, sub_into}
use Rattle.bit_arith.specs.Calls.{Targets, no_target, among, Safe, AllSafe, AreTargets}
use Rattle.bit_arith.specs.Does.{NoneNew}
use Rattle.bit_arith.proofs.Grows.{targets_more, XGrows, x_then, new_wire_x, length-new_wire, length-new_wires, all_safe_more, safe_more}
use Rattle.bit_arith.proofs.Keeps.{carry_bit_x, carries_x, carry_x}
use Rattle.bit_arith.proofs.Making.{among_past}
use Rattle.bit_arith.proofs.Safe.{Wider, safe_in, all_safe_in, under_safe, under_in, beside_new, beside_new_wires, negated_safe, all_negated_safe, top_negated_safe, all_made_safe}
use Rattle.bit_arith.proofs.Safe as safe
use Rattle.flat_laws.proofs.EndsDraft.{Sound, sound_new, sound_wires, new_target, new_targets, EachOf, flip_by_sound, flip_up_sound, flip_down_sound}

-- the condition in force is safe from some wires
abbrev pub Guard : Setting → ℕ → Targets → Type 0
Guard at n T = AllSafe n T (under at [])

pub longer_wire : (b : Built) → length b.draft.wires ≤ length (new_wire b).draft.wires
longer_wire b = let e = length-new_wire b in omega (arith, e)

pub longer_wires : (n : ℕ) (b : Built) → length b.draft.wires ≤ length (new_wires n b).draft.wires
longer_wires n b = let e = length-new_wires n b in omega (arith, e)

pub at_most : (n : ℕ) → n ≤ n
at_most n = omega arith

further : {a b c : ℕ} → a ≤ b → b ≤ c → a ≤ c
further p q = omega (arith, p, q)

-- ---- lists of conjunctions

singles_each : (n : ℕ) (T : Targets) (ps : List Operand) → AllSafe n T ps → EachOf n T (singles ps)
singles_each n T [] s = tt
singles_each n T (p ∷ ps) s = (((s.0, tt), tt), singles_each n T ps s.1)

pairs_each : (n : ℕ) (T : Targets) (ps qs : List Operand) → AllSafe n T ps → AllSafe n T qs → EachOf n T (pairs ps qs)
pairs_each n T [] qs s t = tt
pairs_each n T (p ∷ ps) [] s t = tt
pairs_each n T (p ∷ ps) (q ∷ qs) s t = (((s.0, tt), ((t.0, tt), tt)), pairs_each n T ps qs s.1 t.1)

triples_each : (n : ℕ) (T : Targets) (ps qs cs : List Operand) → AllSafe n T ps → AllSafe n T qs → AllSafe n T cs → EachOf n T (triples ps qs cs)
triples_each n T [] qs cs s t u = tt
triples_each n T (p ∷ ps) [] cs s t u = tt
triples_each n T (p ∷ ps) (q ∷ qs) [] s t u = tt
triples_each n T (p ∷ ps) (q ∷ qs) (c ∷ cs) s t u = (((s.0, tt), ((t.0, tt), ((u.0, tt), tt))), triples_each n T ps qs cs s.1 t.1 u.1)

pub products_each : (n : ℕ) (T : Targets) (p : Operand) (qs : List Operand) → Safe n T p → AllSafe n T qs → EachOf n T (products p qs)
products_each n T p [] s t = tt
products_each n T p (q ∷ qs) s t = (((s, (t.0, tt)), tt), products_each n T p qs s t.1)

-- ---- copies and updates

-- new wires are beside what was there
pub beside_next : (k : ℕ) (b : Built) (m : ℕ) → length b.draft.wires ≤ m → Wider (length b.draft.wires) no_target m (among (next_wires k b))
beside_next k b m le = beside_new_wires (length b.draft.wires) m (length b.draft.wires) k no_target le (at_most (length b.draft.wires))

pub copy_sound : (at : Setting) (ps : List Operand) (b : Built) → Guard at (length b.draft.wires) no_target → AllSafe (length b.draft.wires) no_target ps → Sound b → Sound (copy at ps b).built
unfolding copy
copy_sound at ps b g p s =
    let k : ℕ = length ps in
    let n : ℕ = length b.draft.wires in
    let b1 : Built = new_wires k b in
    let m : ℕ = length b1.draft.wires in
    let wide : Wider n no_target m (among (next_wires k b)) = beside_next k b m (longer_wires k b) in
    flip_up_sound at (next_wires k b) (singles ps) b1 (new_targets k b s) (under_in n no_target m (among (next_wires k b)) wide at [] g)
    (singles_each m (among (next_wires k b)) ps (all_safe_in n no_target m (among (next_wires k b)) wide ps p)) (sound_wires k b s)

pub flip_each_sound : (at : Setting) (ws : List WireId) (ps : List Operand) (b : Built) → AreTargets b.draft ws → Guard at (length b.draft.wires) (among ws) → AllSafe (length b.draft.wires) (among ws) ps → Sound b → Sound (flip_each at ws ps b)
unfolding flip_each
flip_each_sound at ws ps b t g p s = flip_up_sound at ws (singles ps) b t g (singles_each (length b.draft.wires) (among ws) ps p) s

-- ---- sums

-- the carry out of one place on a new wire
pub carry_bit_sound : (at : Setting) (p q c : Operand) (b : Built) → Guard at (length b.draft.wires) no_target → AllSafe (length b.draft.wires) no_target (p ∷ q ∷ c ∷ []) → Sound b → Sound (carry_bit at (next_wire b) p q c (new_wire b))
carry_bit_sound at p q c b g f s =
    let n : ℕ = length b.draft.wires in
    let m : ℕ = length (new_wire b).draft.wires in
    let w : WireId = next_wire b in
    let wide : Wider n no_target m (same_wire w) = beside_new n m no_target w (longer_wire b) (at_most n) in
    let h : AllSafe m (same_wire w) (p ∷ q ∷ c ∷ []) = all_safe_in n no_target m (same_wire w) wide (p ∷ q ∷ c ∷ []) f in
    flip_by_sound at w ((p ∷ q ∷ []) ∷ (p ∷ c ∷ []) ∷ (q ∷ c ∷ []) ∷ []) (new_wire b) (new_target b s) (under_in n no_target m (same_wire w) wide at [] g)
    ((h.0, (h.1.0, tt)), ((h.0, (h.1.1.0, tt)), ((h.1.0, (h.1.1.0, tt)), tt))) (sound_new b s)

pub carried : (at : Setting) (p q c : Operand) (b : Built) → XGrows b (carry_bit at (next_wire b) p q c (new_wire b))
carried at p q c b = x_then (new_wire_x b) (carry_bit_x at (next_wire b) p q c (new_wire b))

-- its wire is there then
pub carried_there : (at : Setting) (p q c : Operand) (b : Built) → (next_wire b).number < length (carry_bit at (next_wire b) p q c (new_wire b)).draft.wires
carried_there at p q c b = let e = length-new_wire b in let x = carry_bit_x at (next_wire b) p q c (new_wire b) in let le = x.grows.few in omega (arith, e, le)

carries_sound : (at : Setting) (c : Operand) (ps qs : List Operand) (b : Built) → Guard at (length b.draft.wires) no_target → Safe (length b.draft.wires) no_target c → AllSafe (length b.draft.wires) no_target ps → AllSafe (length b.draft.wires) no_target qs → Sound b → Sound (carries at c ps qs b).built
carries_sound at c [] qs b g x p q s = s
carries_sound at c (p ∷ []) qs b g x f h s = s
carries_sound at c (p ∷ p' ∷ ps) [] b g x f h s = s
carries_sound at c (p ∷ p' ∷ ps) (q ∷ qs) b g x f h s =
    let n : ℕ = length b.draft.wires in
    let b2 : Built = carry_bit at (next_wire b) p q c (new_wire b) in
    let m : ℕ = length b2.draft.wires in
    let le : n ≤ m = (carried at p q c b).grows.few in
    carries_sound at (made (next_wire b)) (p' ∷ ps) qs b2 (all_safe_more n m no_target (under at []) le g) (carried_there at p q c b, refl)
    (all_safe_more n m no_target (p' ∷ ps) le f.1) (all_safe_more n m no_target qs le h.1) (carry_bit_sound at p q c b g (f.0, (h.0, (x, tt))) s)

-- the carries are safe from old wires
none_later : (T : Targets) (d e : DraftForm) → length d.wires ≤ length e.wires → NoneNew d T → NoneNew e T
none_later T d e le free = λ w past. free w (omega (arith, le, past))

carries_safe : (T : Targets) (at : Setting) (c : Operand) (ps qs : List Operand) (b : Built) → NoneNew b.draft T → Safe (length b.draft.wires) T c → AllSafe (length (carries at c ps qs b).built.draft.wires) T (carries at c ps qs b).answer
carries_safe T at c [] qs b free x = tt
carries_safe T at c (p ∷ []) qs b free x = (x, tt)
carries_safe T at c (p ∷ p' ∷ ps) [] b free x = (x, tt)
carries_safe T at c (p ∷ p' ∷ ps) (q ∷ qs) b free x =
    let n : ℕ = length b.draft.wires in
    let b2 : Built = carry_bit at (next_wire b) p q c (new_wire b) in
    let y : XGrows b2 (carries at (made (next_wire b)) (p' ∷ ps) qs b2).built = carries_x at (made (next_wire b)) (p' ∷ ps) qs b2 in
    let le : n ≤ length b2.draft.wires = (carried at p q c b).grows.few in (
      safe_more n (length (carries at (made (next_wire b)) (p' ∷ ps) qs b2).built.draft.wires) T c (further le y.grows.few) x,
      carries_safe T at (made (next_wire b)) (p' ∷ ps) qs b2 (none_later T b.draft b2.draft le free) (carried_there at p q c b, free (next_wire b) (at_most n)),
    )

carry_sound : (at : Setting) (ps qs : List Operand) (b : Built) → Guard at (length b.draft.wires) no_target → AllSafe (length b.draft.wires) no_target ps → AllSafe (length b.draft.wires) no_target qs → Sound b → Sound (carry at ps qs b).built
unfolding carry
carry_sound at ps qs b g p q s = carries_sound at (Const false) ps qs b g tt p q s

carry_safe : (T : Targets) (at : Setting) (ps qs : List Operand) (b : Built) → NoneNew b.draft T → AllSafe (length (carry at ps qs b).built.draft.wires) T (carry at ps qs b).answer
unfolding carry
carry_safe T at ps qs b free = carries_safe T at (Const false) ps qs b free tt

sum_by_sound : (at : Setting) (carriers ps qs : List Operand) (b : Built) → Guard at (length b.draft.wires) no_target → AllSafe (length b.draft.wires) no_target carriers → AllSafe (length b.draft.wires) no_target ps → AllSafe (length b.draft.wires) no_target qs → Sound b → Sound (sum_by at carriers ps qs b).built
sum_by_sound at carriers ps qs b g r p q s =
    let k : ℕ = length ps in
    let n : ℕ = length b.draft.wires in
    let b1 : Built = new_wires k b in
    let m : ℕ = length b1.draft.wires in
    let le : n ≤ m = longer_wires k b in
    let cs = carry at carriers qs b1 in
    let x : XGrows b1 cs.built = carry_x at carriers qs b1 in
    let i : ℕ = length cs.built.draft.wires in
    let T : Targets = among (next_wires k b) in
    let wide : Wider n no_target i T = beside_next k b i (further le x.grows.few) in
    let free : NoneNew b1.draft T = λ w past. among_past n k w (let e = length-new_wires k b in same_past e past) in
    flip_up_sound at (next_wires k b) (triples ps qs cs.answer) cs.built (targets_more x (next_wires k b) (new_targets k b s)) (under_in n no_target i T wide at [] g)
    (triples_each i T ps qs cs.answer (all_safe_in n no_target i T wide ps p) (all_safe_in n no_target i T wide qs q) (carry_safe T at carriers qs b1 free))
    (carry_sound at carriers qs b1 (all_safe_more n m no_target (under at []) le g) (all_safe_more n m no_target carriers le r) (all_safe_more n m no_target qs le q) (sound_wires k b s))
  where
    same_past : {a c d : ℕ} → a ≡ c → a ≤ d → c ≤ d
    same_past e le = omega (arith, e, le)

pub sum_sound : (at : Setting) (ps qs : List Operand) (b : Built) → Guard at (length b.draft.wires) no_target → AllSafe (length b.draft.wires) no_target ps → AllSafe (length b.draft.wires) no_target qs → Sound b → Sound (sum at ps qs b).built
unfolding sum
sum_sound at ps qs b g p q s = sum_by_sound at ps ps qs b g p p q s

pub difference_sound : (at : Setting) (ps qs : List Operand) (b : Built) → Guard at (length b.draft.wires) no_target → AllSafe (length b.draft.wires) no_target ps → AllSafe (length b.draft.wires) no_target qs → Sound b → Sound (difference at ps qs b).built
unfolding difference
difference_sound at ps qs b g p q s = sum_by_sound at (all_negated ps) ps qs b g (all_negated_safe (length b.draft.wires) no_target ps p) p q s

-- what is safe from some wires is safe from none
pub plain_safe : (n : ℕ) (T : Targets) (ps : List Operand) → AllSafe n T ps → AllSafe n no_target ps
plain_safe n T ps s = all_safe_in n T n no_target (λ l h. (h.0, refl)) ps s

into_by_sound : (at : Setting) (carriers : List Operand) (ws : List WireId) (qs : List Operand) (b : Built) → AreTargets b.draft ws → Guard at (length b.draft.wires) (among ws) → AllSafe (length b.draft.wires) no_target carriers → AllSafe (length b.draft.wires) (among ws) qs → Sound b → Sound (into_by at carriers ws qs b)
into_by_sound at carriers ws qs b t g r q s =
    let n : ℕ = length b.draft.wires in
    let cs = carry at carriers qs b in
    let x : XGrows b cs.built = carry_x at carriers qs b in
    let i : ℕ = length cs.built.draft.wires in
    flip_down_sound at ws (pairs qs cs.answer) cs.built (targets_more x ws t) (all_safe_more n i (among ws) (under at []) x.grows.few g)
    (pairs_each i (among ws) qs cs.answer (all_safe_more n i (among ws) qs x.grows.few q) (carry_safe (among ws) at carriers qs b (λ w past. safe.among_past b.draft ws w t past)))
    (carry_sound at carriers qs b (plain_safe n (among ws) (under at []) g) r (plain_safe n (among ws) qs q) s)

pub add_into_sound : (at : Setting) (ws : List WireId) (qs : List Operand) (b : Built) → AreTargets b.draft ws → Guard at (length b.draft.wires) (among ws) → AllSafe (length b.draft.wires) (among ws) qs → Sound b → Sound (add_into at ws qs b)
unfolding add_into
add_into_sound at ws qs b t g q s = into_by_sound at (all_made ws) ws qs b t g (all_made_safe b.draft ws t) q s

pub sub_into_sound : (at : Setting) (ws : List WireId) (qs : List Operand) (b : Built) → AreTargets b.draft ws → Guard at (length b.draft.wires) (among ws) → AllSafe (length b.draft.wires) (among ws) qs → Sound b → Sound (sub_into at ws qs b)
unfolding sub_into
sub_into_sound at ws qs b t g q s = into_by_sound at (all_negated (all_made ws)) ws qs b t g (all_negated_safe (length b.draft.wires) no_target (all_made ws) (all_made_safe b.draft ws t)) q s
