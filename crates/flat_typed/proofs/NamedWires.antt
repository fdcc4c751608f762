-- Wires that values name, and wires that end as dropped.
use Rattle.std.proofs.Common.{◌≡◌, ◌⊎◌, inl, inr, ℕ, zero, suc, ◌+◌, ◌≤◌, ◌<◌, Bool, true, false, cond, not, ◌&&◌, ◌||◌, List, [], ◌∷◌, ◌++◌, length, reverse, refl, sym, ap, ap₂, ◌∙◌, subst, arith}
use Rattle.std.specs.Prelude.{get_or}
use mathlib.Core.List.{reverse-cons}
use Rattle.std.proofs.lemmas.Bool.{cases_lt}
use Rattle.silq_types.specs.declared.signature.Returned.{Returned}
use Rattle.flat_core.specs.declared.step.Step.{Step}
use Rattle.flat_core.specs.declared.step.WireId.{WireId}
use Rattle.flat_core.specs.declared.step.End.TheVariants.{Output, Dropped}
use Rattle.flat_core.specs.Form.{WireForm}
use Rattle.flat_core.specs.Label.{changes, no_wire, wire_in}
use Rattle.flat_core.specs.Sound.{is_x}
use Rattle.bit_arith.specs.declared.operand.Operand.{Operand}
use Rattle.bit_arith.specs.declared.operand.Operand.TheVariants.{Const, Literal}
use Rattle.bit_arith.specs.Built.{Built}
use Rattle.bit_arith.specs.Calls.{among}
use Rattle.flat_form.specs.declared.known.Known.{Known}
use Rattle.flat_form.specs.declared.known.Known.TheVariants.{Shown}
use Rattle.flat_form.specs.State.{wires_in, operands_of}
use Rattle.flat_form.specs.Flat.{end_all, wire_lists, joined}
use Rattle.flat_form.specs.Good.{IsKnown}
use Rattle.flat_form.specs.Names.{AllOf, named_by}
use Rattle.flat_form.specs.Shows.{ListBoth}
use Rattle.flat_form.proofs.Later.{end_all_length}
use Rattle.flat_typed.specs.Places.{Places, times_in}
use Rattle.flat_typed.specs.Footprint.{is_mixed}
use Rattle.flat_typed.specs.Relation.{began_of}
use Rattle.flat_typed.specs.Calls.{named_times, quantum_times, IsResult}
use Rattle.flat_typed.proofs.Telling.{ends_touch, end_told}
use Rattle.flat_typed.proofs.GivenHeld.{AreWires}

-- ---- values and wires

abbrev pub all_operands : List Known → List Operand
all_operands [] = []
all_operands (k ∷ ks) = operands_of k ++ all_operands ks

wires_append : (ps qs : List Operand) → wires_in ps ++ wires_in qs ≡ wires_in (ps ++ qs)
wires_append [] qs = refl
wires_append (Const b ∷ ps) qs = wires_append ps qs
wires_append (Literal l ∷ ps) qs = ap (λ ws. l.wire ∷ ws) (wires_append ps qs)

pub joined_is : (ks : List Known) → joined (wire_lists ks) ≡ wires_in (all_operands ks)
joined_is [] = refl
joined_is (k ∷ ks) = ap (λ ws. wires_in (operands_of k) ++ ws) (joined_is ks) ∙ wires_append (operands_of k) (all_operands ks)

times_append : (w : WireId) (ps qs : List Operand) → times_in w (ps ++ qs) ≡ times_in w ps + times_in w qs
times_append w [] qs = omega arith
times_append w (p ∷ ps) qs = go (named_by w p) (times_append w ps qs)
  where
    go : (b : Bool) → times_in w (ps ++ qs) ≡ times_in w ps + times_in w qs → cond b (suc (times_in w (ps ++ qs))) (times_in w (ps ++ qs)) ≡ cond b (suc (times_in w ps)) (times_in w ps) + times_in w qs
    go true i = omega (arith, i)
    go false i = i

pub times_all : (w : WireId) (ks : List Known) → times_in w (all_operands ks) ≡ named_times ks w
times_all w [] = refl
times_all w (k ∷ ks) = times_append w (operands_of k) (all_operands ks) ∙ ap (λ n. times_in w (operands_of k) + n) (times_all w ks)

named_append : (w : WireId) (ks ls : List Known) → named_times (ks ++ ls) w ≡ named_times ks w + named_times ls w
named_append w [] ls = omega arith
named_append w (k ∷ ks) ls = let a = named_append w ks ls in omega (arith, a)

pub named_reverse : (w : WireId) (ks : List Known) → named_times (reverse ks) w ≡ named_times ks w
named_reverse w [] = refl
named_reverse w (k ∷ ks) =
    let a = named_append w (reverse ks) (k ∷ []) in
    let b = named_reverse w ks in
    let c : named_times (reverse (k ∷ ks)) w ≡ named_times (reverse ks ++ k ∷ []) w = ap (λ l. named_times l w) (reverse-cons k ks) in
    omega (arith, a, b, c)

pub results_wires : (n m : ℕ) (W : Places) (rs : List Returned) (ks : List Known) → ListBoth (IsResult W n) rs ks → AllOf (IsKnown m) ks → AllOf AreWires ks
results_wires n m W [] [] r h = tt
results_wires n m W [] (k ∷ ks) r h = absurd r
results_wires n m W (x ∷ rs) [] r h = absurd r
results_wires n m W (x ∷ rs) (k ∷ ks) r h = (subst AreWires (sym r.0.shows) (wires (subst (IsKnown m) r.0.shows h.0)), results_wires n m W rs ks r.1 h.1)
  where
    wires : IsKnown m (Shown (record { classical = x.ty.classical; shape = x.ty.shape; operands = operands_of k; own = true; began = began_of k })) → AreWires (Shown (record { classical = x.ty.classical; shape = x.ty.shape; operands = operands_of k; own = true; began = began_of k }))
    wires s = s.wires refl

pub quantum_few : (rs : List Returned) (ks : List Known) (w : WireId) → quantum_times rs ks w ≤ named_times ks w
quantum_few [] ks w = omega arith
quantum_few (r ∷ rs) [] w = omega arith
quantum_few (r ∷ rs) (k ∷ ks) w = go r.ty.classical (quantum_few rs ks w)
  where
    go : (c : Bool) → quantum_times rs ks w ≤ named_times ks w → cond c 0 (times_in w (operands_of k)) + quantum_times rs ks w ≤ times_in w (operands_of k) + named_times ks w
    go true i = omega (arith, i)
    go false i = omega (arith, i)

-- ---- steps and ends

get_beyond : {A : Type 0} (xs : List A) (n : ℕ) (d : A) → length xs ≤ n → get_or xs n d ≡ d
get_beyond [] n d le = refl
get_beyond (x ∷ xs) zero d le = absurd (omega (arith, le))
get_beyond (x ∷ xs) (suc n) d le = get_beyond xs n d (omega (arith, le))

pub step_mixes : (steps : List Step) (n : ℕ) (w : WireId) (d : Step) → n < length steps → changes w (get_or steps n d) ≡ true → is_x (get_or steps n d) ≡ false → is_mixed steps w ≡ true
step_mixes [] n w d lt c x = absurd (omega (arith, lt))
step_mixes (s ∷ ss) zero w d lt c x = ap₂ (λ a b. (a && not b) || is_mixed ss w) c x
step_mixes (s ∷ ss) (suc n) w d lt c x = go (changes w s && not (is_x s)) (step_mixes ss n w d (omega (arith, lt)) c x)
  where
    go : (b : Bool) → is_mixed ss w ≡ true → (b || is_mixed ss w) ≡ true
    go true e = refl
    go false e = e

-- a wire that ends as dropped is none of those that end as Output, and was there
pub record StillDropped (ws : List WireId) (b : Built) (w : WireId) : Type 0 where
  pub there : w.number < length b.draft.wires
  pub other : among ws w ≡ false
  pub same : wire_in (end_all Output ws b).draft.wires w ≡ wire_in b.draft.wires w

output_dropped : {A : Type 0} → Output ≡ Dropped → A
output_dropped e = absurd (grind (arith, e))

pub still_dropped : (ws : List WireId) (b : Built) (w : WireId) → (wire_in (end_all Output ws b).draft.wires w).ending ≡ Dropped → StillDropped ws b w
still_dropped ws b w e = go (cases_lt w.number (length b.draft.wires))
  where
    out : w.number < length b.draft.wires → (t : Bool) → among ws w ≡ t → t ≡ false
    out lt false q = refl
    out lt true q = output_dropped (sym (end_told Output ws b w lt q) ∙ e)

    go : (w.number < length b.draft.wires) ⊎ (length b.draft.wires ≤ w.number) → StillDropped ws b w
    go (inl lt) = let n = out lt (among ws w) refl in record { there = lt; other = n; same = (ends_touch (among ws) Output ws b (λ x t. t)).ends w lt n }
    go (inr le) = output_dropped (sym (ap (λ (r : WireForm). r.ending) (get_beyond (end_all Output ws b).draft.wires w.number no_wire (let l = end_all_length Output ws b in omega (arith, l, le)))) ∙ e)
