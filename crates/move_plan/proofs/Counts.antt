-- How many wires are live, before and after a move.
use Rattle.std.proofs.Common.{◌≡◌, ◌≢◌, ℕ, zero, suc, pred, ◌+◌, ◌<◌, ◌≤◌, ◌⊎◌, Bool, true, false, cond, not, nat_lt, ◌&&◌, ◌||◌, List, [], ◌∷◌, length, Option, Some, None, IfSome, refl, sym, ◌∙◌, ap, ap₂, inl, inr, arith, eq-or-lt_of_le, le_of_suc-le-suc}
use Rattle.std.proofs.lemmas.Bool.{cases_lt, both_ways, ne_eqb, false_from_ne_true}
use Rattle.std.proofs.lemmas.List.{get_or_past}
use Rattle.flat_core.specs.declared.step.Step.{Step}
use Rattle.flat_core.specs.declared.step.Step.TheVariants.{X, H, P, M}
use Rattle.flat_core.specs.declared.step.WireId.{WireId}
use Rattle.flat_core.specs.Form.{FlatForm, WireForm}
use Rattle.flat_core.specs.Label.{wire_id, changes, main_wire, step_at}
use Rattle.flat_core.specs.Ends.{measures}
use Rattle.flat_core.specs.Label.{no_wire, is_input}
use Rattle.flat_core.specs.Ends.{is_freed, freed}
use Rattle.flat_core.specs.Sound.{IsFlat}
use Rattle.flat_core.proofs.Labels.{same_wire_is}
use Rattle.flat_mean.specs.Path.{sum_below}
use Rattle.flat_mean.proofs.Below.{sum_below_ext}
use Rattle.move_plan.specs.declared.moves.Move.{Move}
use Rattle.move_plan.specs.declared.moves.Move.TheVariants.{Up, Down, Do, Free}
use Rattle.move_plan.specs.Progress.{Progress, Stands, moved}
use Rattle.move_plan.specs.Live.{live, count_wires, width_from}
use Rattle.move_plan.specs.Track.{touched, live_count}

-- two sums that differ at one number at most
sum_below-change : (n k : ℕ) (f g : ℕ → ℕ) → k < n → ((j : ℕ) → j ≢ k → f j ≡ g j) → sum_below n f + g k ≡ sum_below n g + f k
sum_below-change zero k f g lt same = absurd (omega arith)
sum_below-change (suc n) k f g lt same = by (sum_below-change n k f g) (eq-or-lt_of_le (le_of_suc-le-suc lt))
  where
    by : (k < n → ((j : ℕ) → j ≢ k → f j ≡ g j) → sum_below n f + g k ≡ sum_below n g + f k) → (k ≡ n) ⊎ (k < n) → sum_below (suc n) f + g k ≡ sum_below (suc n) g + f k
    by ih (inl e) =
        let rest : sum_below n f ≡ sum_below n g = sum_below_ext n f g (λ j jl. same j (λ z. let no : j < j = omega arith in omega arith)) in
        let ef : f n ≡ f k = ap f (sym e) in
        let eg : g n ≡ g k = ap g (sym e) in
        omega arith
    by ih (inr kl) =
        let rest : sum_below n f + g k ≡ sum_below n g + f k = ih kl same in
        let here : f n ≡ g n = same n (λ z. let no : k < k = omega arith in omega arith) in
        omega arith

sum_below-le : (n : ℕ) (f : ℕ → ℕ) → ((k : ℕ) → f k ≤ 1) → sum_below n f ≤ n
sum_below-le zero f h = omega arith
sum_below-le (suc n) f h = let rest = sum_below-le n f h in let one = h n in omega arith

bit_le : (b : Bool) → cond b 1 0 ≤ 1
bit_le true = omega arith
bit_le false = omega arith

pub count_wires-le : (f : FlatForm) (test : WireId → Bool) → count_wires f test ≤ length f.wires
count_wires-le f test = sum_below-le (length f.wires) (λ q. cond (test (wire_id q)) 1 0) (λ q. bit_le (test (wire_id q)))

-- a wire that a step neither changes nor measures is not its main wire
not_main : (s : Step) (w : WireId) → (changes w s ≡ true) ⊎ (measures w s ≡ true) → main_wire s ≡ Some w
not_main (X t a b) w (inl c) = ap (λ (v : WireId). Some v) (same_wire_is t w c)
not_main (X t a b) w (inr m) = cc
not_main (H t a) w (inl c) = ap (λ (v : WireId). Some v) (same_wire_is t w c)
not_main (H t a) w (inr m) = cc
not_main (P e a) w (inl c) = cc
not_main (P e a) w (inr m) = cc
not_main (M v n) w (inl c) = cc
not_main (M v n) w (inr m) = ap (λ (v : WireId). Some v) (same_wire_is v w m)

unchanged : (s : Step) (w : WireId) → (main_wire s ≡ Some w → ⊥) → changes w s ≡ false
unchanged s w other = false_from_ne_true (changes w s) (λ c. other (not_main s w (inl c)))

unmeasured : (s : Step) (w : WireId) → (main_wire s ≡ Some w → ⊥) → measures w s ≡ false
unmeasured s w other = false_from_ne_true (measures w s) (λ m. other (not_main s w (inr m)))

-- a move makes other other wire live or not than the one that it touches
live_kept : (f : FlatForm) (p : Progress) (m : Move) (w : WireId) → (touched f m ≡ Some w → ⊥) → live f (moved f p m) w ≡ live f p w
live_kept f p (Up s) w other = ap (λ b. not (p.gone w) && (is_input f w || nat_lt 0 (cond b (suc (p.label w)) (p.label w)) || p.measured w)) (unchanged (step_at f s) w other)
live_kept f p (Down s) w other = ap (λ b. not (p.gone w) && (is_input f w || nat_lt 0 (cond b (pred (p.label w)) (p.label w)) || p.measured w)) (unchanged (step_at f s) w other)
live_kept f p (Do s) w other =
    ap₂ (λ b c. not (p.gone w) && (is_input f w || nat_lt 0 (cond b (suc (p.label w)) (p.label w)) || (c || p.measured w))) (unchanged (step_at f s) w other) (unmeasured (step_at f s) w other)
live_kept f p (Free x) w other =
    ap (λ b. not (b || p.gone w) && (is_input f w || nat_lt 0 (p.label w) || p.measured w)) (ne_eqb w.number x.number (λ e. other (ap (λ (n : ℕ). Some (wire_id n)) (sym e))))

-- a freed wire is there
pub freed_there : (f : FlatForm) (w : WireId) → freed f w ≡ true → w.number < length f.wires
freed_there f w h = elim (cases_lt w.number (length f.wires)) [
  | inl l ↦ l
  | inr past ↦ absurd (both_ways (freed f w) (ap (λ (x : WireForm). is_freed x.ending) (get_or_past f.wires w.number no_wire past)) h)
]

-- the wire that a move touches is there
touched_there : (f : FlatForm) → IsFlat f → (p : Progress) (m : Move) → Stands f p m → IfSome (touched f m) (λ w. w.number < length f.wires)
touched_there f ok p (Up s) st = (ok.in_range s st.1.step).0
touched_there f ok p (Down s) st = (ok.in_range s st.1.step).0
touched_there f ok p (Do s) st = (ok.in_range s st.2.step).0
touched_there f ok p (Free w) st = freed_there f w st.ending

-- so the count changes by that wire alone
count_moved : (f : FlatForm) (p : Progress) (m : Move) → IfSome (touched f m) (λ w. w.number < length f.wires) → count_wires f (live f (moved f p m)) + live_count f p (touched f m) ≡ count_wires f (live f p) + live_count f (moved f p m) (touched f m)
count_moved f p m h = by (touched f m) refl h
  where
    by : (o : Option WireId) → touched f m ≡ o → IfSome o (λ w. w.number < length f.wires) → count_wires f (live f (moved f p m)) + live_count f p o ≡ count_wires f (live f p) + live_count f (moved f p m) o
    by None e l = ap (λ (n : ℕ). n + 0) (sum_below_ext (length f.wires) _ _ (λ q ql. ap (λ b. cond b 1 0) (live_kept f p m (wire_id q) (λ t. let other : None ≡ Some (wire_id q) = sym e ∙ t in cc))))
    by (Some w) e l =
        sum_below-change (length f.wires) w.number (λ q. cond (live f (moved f p m) (wire_id q)) 1 0) (λ q. cond (live f p (wire_id q)) 1 0) l
        (λ q ne. ap (λ b. cond b 1 0) (live_kept f p m (wire_id q) (λ t. let same : Some w ≡ Some (wire_id q) = sym e ∙ t in let is : w ≡ wire_id q = cc in ne (ap (λ (v : WireId). v.number) (sym is)))))

-- a list of moves is at least as wide as it begins
pub width_from-ge : (f : FlatForm) (p : Progress) (ms : List Move) → count_wires f (live f p) ≤ width_from f p ms
width_from-ge f p [] = omega arith
width_from-ge f p (m ∷ ms) = omega arith

pub live_count-le : (f : FlatForm) (p : Progress) (o : Option WireId) → live_count f p o ≤ 1
live_count-le f p None = omega arith
live_count-le f p (Some w) = bit_le (live f p w)

-- the count after a move, by the counts of the wire that it touches
pub count_after : (f : FlatForm) → IsFlat f → (p q : Progress) (m : Move) (wire : Option WireId) (count before after : ℕ) → Stands f p m → q ≡ moved f p m → wire ≡ touched f m → count ≡ count_wires f (live f p) → before ≡ live_count f p wire → after ≡ live_count f q wire → count_wires f (live f q) + before ≡ count + after
count_after f ok p q m wire count before after st eq ew ec eb ea =
    ap₂ ◌+◌ (ap (λ (r : Progress). count_wires f (live f r)) eq) (eb ∙ ap (live_count f p) ew)
    ∙ count_moved f p m (touched_there f ok p m st)
    ∙ sym (ap₂ ◌+◌ ec (ea ∙ ap₂ (λ (r : Progress) (o : Option WireId). live_count f r o) eq ew))
