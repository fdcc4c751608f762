-- Gates on the last value: X, phases, H; and measures.
use Rattle.std.proofs.Common.{◌≡◌, ℕ, suc, ◌+◌, ◌%◌, ◌≤◌, ◌<◌, ◌==◌, Bool, true, false, cond, not, if◌then◌else◌, List, [], ◌∷◌, flat_map, length, drop, refl, sym, ap, ap₂, ◌∙◌, subst, arith, add-zero}
use Rattle.std.specs.Bool.{beq}
use Rattle.std.proofs.Math.Nat.{mod-eq_of_lt}
use Rattle.silq_types.specs.declared.types.Scalar.{Scalar}
use Rattle.silq_types.specs.declared.types.Scalar.TheVariants as scalars
use Rattle.silq_types.specs.declared.types.Shape.TheVariants.{Bit}
use Rattle.silq_types.specs.Types.{scalar_bits, shape_bits}
use Rattle.silq_mean.specs.Value.{Value, whole, single, array, gone, modulus, truth_value, is_one, flipped, low_bits}
use Rattle.silq_mean.specs.Term.{Term, first as first_value, last as last_value, drop_last as but_last, on_last, turn as turn_term}
use Rattle.silq_mean.specs.Effect.{Outcome}
use Rattle.flat_core.specs.declared.step.WireId.{WireId}
use Rattle.flat_core.specs.Label.{same_wire}
use Rattle.flat_mean.specs.Row.{Row}
use Rattle.flat_mean.specs.Terms.{Term as WireTerm, do_steps}
use Rattle.bit_arith.specs.declared.operand.Operand.{Operand}
use Rattle.bit_arith.specs.Built.{Built, made, negated, under as under_all}
use Rattle.bit_arith.specs.Rows.{flip, turn}
use Rattle.bit_arith.specs.Calls.{no_target, AllSafe}
use Rattle.bit_arith.specs.Values.{bit_of, bits_at, all_hold}
use Rattle.bit_arith.specs.Does.{Fresh, Does, Turns}
use Rattle.bit_arith.proofs.Steps.{Agree, and_one}
use Rattle.bit_arith.proofs.Doing.{Guards, grown, grows_fresh}
use Rattle.bit_arith.proofs.Gathered.{beq_one}
use Rattle.bit_arith.proofs.Tidying.{flip_does, FlipIf}
use Rattle.bit_arith.proofs.Listed.{safe_more, safe_under}
use Rattle.bit_arith.proofs.Phases.{turn_does}
use Rattle.flat_form.specs.declared.known.TypedBits.{TypedBits}
use Rattle.flat_form.specs.declared.known.Known.{Known}
use Rattle.flat_form.specs.declared.known.Known.TheVariants.{Static, Shown, Lent, Absent}
use Rattle.flat_form.specs.State.{Flattening, push, last, drop_last, build, only_operand, operands_of}
use Rattle.flat_form.specs.Flat.{turn_both, chosen_by}
use Rattle.flat_form.specs.Names.{AllKnown, Spares}
use Rattle.flat_form.specs.Good.{Good, IsKnown}
use Rattle.flat_form.specs.Fine.{IsBit}
use Rattle.flat_form.specs.Shows.{Shows, ListBoth, EnvBoth, CallerShows, Related}
use Rattle.flat_form.proofs.Bits.{single_one, single_not_array}
use Rattle.flat_form.proofs.Kept.{known_same, known_last, AllShow, related_shows, all_show_after, all_show_drop, all_known_more}
use Rattle.flat_laws.proofs.Compose.{Leads, leads_then}
use Rattle.flat_laws.proofs.Choice.{guards_more}
use Rattle.flat_laws.proofs.Rows.{leads_row, leads_turned, turn_measures}
use Rattle.flat_laws.proofs.Taking.{shown_last}

-- ---- the same terms of the source in other words

pub leads_same : (o : Outcome) (s e : Flattening) (src next : Term → List Term) → ((u : WireTerm) (t : Term) → Related s u t → src t ≡ next t) → Leads o s e src → Leads o s e next
leads_same o s e src next h m = record {
  new = m.new;
  grown = m.grown;
  wires = m.wires;
  setting = m.setting;
  inputs = m.inputs;
  blanks = m.blanks;
  leaves = m.leaves;
  told = m.told;
  still = m.still;
  gives = λ u t r on. subst (λ ts. ListBoth (Related e) (do_steps o m.new (u ∷ [])) ts) (h u t r) (m.gives u t r on);
}

-- ---- one bit

is_bit : (n : ℕ) (b : Bool) → n < 2 → b ≡ (n % 2 == 1) → single scalars.Bit n ≡ truth_value b
is_bit n b lt e = pick n lt e
  where
    pick : (n : ℕ) → n < 2 → b ≡ (n % 2 == 1) → single scalars.Bit n ≡ truth_value b
    pick ℕ.zero lt e = sym (ap truth_value e)
    pick (suc ℕ.zero) lt e = sym (ap truth_value e)
    pick (suc (suc n)) lt e = absurd (omega (arith, lt))

-- a value of one bit that a wire shows
bit_number : (k : Scalar) (n : ℕ) (b : Bool) → scalars.Bit ≡ k → n < modulus k → b ∷ [] ≡ low_bits (scalar_bits k) n → single k n ≡ truth_value b
bit_number k n b e lt bits = subst (λ j. n < modulus j → b ∷ [] ≡ low_bits (scalar_bits j) n → single j n ≡ truth_value b) e (λ l h. is_bit n b l (first_same h)) lt bits
  where
    first_same : b ∷ [] ≡ (n % 2 == 1) ∷ [] → b ≡ (n % 2 == 1)
    first_same h = cc

pub bit_value : (x : Row) (z : TypedBits) (p : Operand) (v : Value) → z.shape ≡ Bit → z.operands ≡ p ∷ [] → Shows x (Shown z) v → v ≡ truth_value (bit_of x p)
bit_value x z p (whole y) e its h = absurd h.0
bit_value x z p gone e its h = absurd h.0
bit_value x z p (array k ns) e its h = absurd (single_not_array scalars.Bit k (length ns) (sym e ∙ h.0.0))
bit_value x z p (single k n) e its h = bit_number k n (bit_of x p) (single_one scalars.Bit k (sym e ∙ h.0.0)) h.0.1 (sym (ap (bits_at x) its) ∙ h.1)

pub shows_bit : (x : Row) (z : TypedBits) (p : Operand) (b : Bool) → z.shape ≡ Bit → z.operands ≡ p ∷ [] → bit_of x p ≡ b → Shows x (Shown z) (truth_value b)
shows_bit x z p true e its h = ((e, omega arith), ap (bits_at x) its ∙ ap (λ c. c ∷ []) h)
shows_bit x z p false e its h = ((e, omega arith), ap (bits_at x) its ∙ ap (λ c. c ∷ []) h)

pub is_one_truth : (b : Bool) → is_one (truth_value b) ≡ b
is_one_truth true = refl
is_one_truth false = refl

flipped_truth : (b : Bool) → flipped (truth_value b) ≡ truth_value (not b)
flipped_truth true = refl
flipped_truth false = refl

one_operand : (ps : List Operand) → length ps ≡ 1 → ps ≡ only_operand ps ∷ []
one_operand [] e = cc
one_operand (p ∷ []) e = refl
one_operand (p ∷ q ∷ ps) e = absurd (omega (arith, e))

-- the condition of a choice tells which way a term goes
pub choice_bit : (s : Flattening) → Good s → IsBit (last s) → (u : WireTerm) (t : Term) → Related s u t → is_one (last_value t) ≡ bit_of u.row (chosen_by s)
choice_bit s g b u t r = pick (last s) refl b (known_last (IsKnown (length s.built.draft.wires)) s tt g.known)
  where
    pick : (k : Known) → last s ≡ k → IsBit k → IsKnown (length s.built.draft.wires) k → is_one (last_value t) ≡ bit_of u.row (only_operand (operands_of k))
    pick (Static z) e h q = absurd h
    pick (Lent a c v) e h q = absurd h
    pick Absent e h q = absurd h
    pick (Shown v) e h q =
        ap is_one (bit_value u.row v (only_operand v.operands) (last_value t) h (one_operand v.operands (q.size ∙ ap shape_bits h)) (shown_last s v u t e r))
        ∙ is_one_truth (bit_of u.row (only_operand v.operands))

-- ---- the last value is one wire that may be changed

pub record Wired (z : TypedBits) (w : WireId) (s : Flattening) : Type 0 where
  pub fresh : Fresh s.built.draft
  pub bit : z.shape ≡ Bit
  pub its : z.operands ≡ made w ∷ []
  pub below : w.number < length s.built.draft.wires
  pub guards : Guards s.setting (length s.built.draft.wires) no_target
  pub condition : Guards s.setting (length s.built.draft.wires) (same_wire w)
  pub known : AllKnown (IsKnown (length s.built.draft.wires)) s
  pub spared : AllKnown (Spares (same_wire w)) s

pub wired_more : (z : TypedBits) (w : WireId) (s : Flattening) (b : Built) → Wired z w s → Fresh b.draft → length s.built.draft.wires ≤ length b.draft.wires → Wired z w (build b s)
wired_more z w s b q f le = record {
  fresh = f;
  bit = q.bit;
  its = q.its;
  below = let lt = q.below in omega (arith, lt, le);
  guards = guards_more s.setting (length s.built.draft.wires) (length b.draft.wires) le q.guards;
  condition = safe_more (length s.built.draft.wires) (length b.draft.wires) (same_wire w) (same_wire w) (under_all s.setting []) le (λ k lt t. t) q.condition;
  known = known_same (IsKnown (length b.draft.wires)) s (build b s) refl refl refl (all_known_more (length s.built.draft.wires) (length b.draft.wires) s le q.known);
  spared = known_same (Spares (same_wire w)) s (build b s) refl refl refl q.spared;
}

abbrev pub with_wired : TypedBits → Flattening → Flattening
with_wired z s = push (Shown z) s

-- what the last value and the others show before the gate
pub wired_bit : (z : TypedBits) (w : WireId) (s : Flattening) → Wired z w s → (u : WireTerm) (t : Term) → Related (with_wired z s) u t → last_value t ≡ truth_value (u.row w.number)
wired_bit z w s q u t r = bit_value u.row z (made w) (last_value t) q.bit q.its (shown_last (with_wired z s) z u t refl r) ∙ ap truth_value (beq_one (u.row w.number))

pub rest_shows : (z : TypedBits) (w : WireId) (s : Flattening) → Wired z w s → (u : WireTerm) (t : Term) (y : Row) → Related (with_wired z s) u t → Agree (length s.built.draft.wires) (same_wire w) y u.row → AllShow y s (but_last t)
rest_shows z w s q u t y r ag =
    let a : AllShow u.row (drop_last (with_wired z s)) (but_last t) = all_show_drop u.row (with_wired z s) t (related_shows (with_wired z s) u t r) in
    all_show_after (length s.built.draft.wires) (same_wire w) y u.row s (but_last t) ag q.known q.spared (record { env = a.env; values = a.values; callers = a.callers })

pub with_bit : (z : TypedBits) (w : WireId) (s : Flattening) → Wired z w s → (b : Built) (t f : Term) (y : Row) (c : Bool) → AllShow y s (but_last t) → y w.number ≡ c → f.env ≡ t.env → f.values ≡ truth_value c ∷ drop 1 t.values → f.callers ≡ t.callers → AllShow y (with_wired z (build b s)) f
with_bit z w s q b t f y c a e env values callers = record {
  env = subst (λ x. EnvBoth (Shows y) s.env x) (sym env) a.env;
  values = subst (λ x. ListBoth (Shows y) (Shown z ∷ s.values) x) (sym values) (shows_bit y z (made w) c q.bit q.its (beq_one (y w.number) ∙ e), a.values);
  callers = subst (λ x. ListBoth (CallerShows y) s.callers x) (sym callers) a.callers;
}

-- ---- X

pub leads_flip : (o : Outcome) (z : TypedBits) (w : WireId) (s : Flattening) → Wired z w s → Leads o (with_wired z s) (with_wired z (build (flip s.setting w [] s.built) s)) (λ t. on_last flipped t ∷ [])
leads_flip o z w s q =
    let b : Built = flip s.setting w [] s.built in
    let r : Does s.setting s.built.draft b.draft (same_wire w) (FlipIf w []) = flip_does s.setting w [] s.built q.fresh q.below q.condition in
    leads_row o (with_wired z s) (with_wired z (build b s)) (same_wire w) (FlipIf w []) (on_last flipped) r q.condition refl (λ t. (refl, refl, refl))
    (λ u t y re ag e.
    with_bit z w s q b t (on_last flipped t) y (not (u.row w.number)) (rest_shows z w s q u t y re ag) e refl
    (ap (λ v. v ∷ drop 1 t.values) (ap flipped (wired_bit z w s q u t re) ∙ flipped_truth (u.row w.number))) refl)

-- ---- phases

turn_one : (o : Outcome) (z : TypedBits) (w : WireId) (s : Flattening) (k : ℕ) (p : Operand) (f : Value → ℕ) → k < 8 → Wired z w s → AllSafe (length s.built.draft.wires) no_target (p ∷ []) → ((x : Row) → cond (bit_of x p) k 0 ≡ f (truth_value (x w.number))) → Leads o (with_wired z s) (with_wired z (build (turn s.setting k (p ∷ []) s.built) s)) (λ t. turn_term (f (last_value t)) t ∷ [])
turn_one o z w s k p f lt q safe h =
    let b : Built = turn s.setting k (p ∷ []) s.built in
    let r : Turns s.setting k (p ∷ []) s.built.draft b.draft = turn_does s.setting k (p ∷ []) s.built q.fresh (safe_under (length s.built.draft.wires) no_target s.setting (p ∷ []) q.guards safe) in
    leads_turned o (with_wired z s) (with_wired z (build b s)) k (p ∷ []) (λ t. turn_term (f (last_value t)) t) r (turn_measures s.setting k (p ∷ []) s.built) q.guards refl (λ t. (refl, refl))
    (λ u t re. ap (λ (j : ℕ). t.eighths + j) (sym (amount u t re)))
    (λ u t y re ag.
    let a : AllShow y s (but_last t) = rest_shows z w s q u t y re (λ k lt t. ag k lt refl) in
    let e : y w.number ≡ u.row w.number = ag w q.below refl in
    let l : last_value t ≡ truth_value (u.row w.number) = wired_bit z w s q u t re in
    with_bit z w s q b t (turn_term (f (last_value t)) t) y (u.row w.number) a e refl (whole_list t (u.row w.number) l (related_values u t re)) refl)
  where
    amount : (u : WireTerm) (t : Term) → Related (with_wired z s) u t → cond (all_hold u.row (p ∷ [])) (k % 8) 0 ≡ f (last_value t)
    amount u t re =
        ap₂ (λ (c : Bool) (n : ℕ). cond c n 0) (and_one (bit_of u.row p)) (mod-eq_of_lt lt)
        ∙ (h u.row ∙ ap f (sym (wired_bit z w s q u t re)))

    whole_list : (t : Term) (b : Bool) → last_value t ≡ truth_value b → t.values ≡ last_value t ∷ drop 1 t.values → t.values ≡ truth_value b ∷ drop 1 t.values
    whole_list t b e l = l ∙ ap (λ v. v ∷ drop 1 t.values) e

    related_values : (u : WireTerm) (t : Term) → Related (with_wired z s) u t → t.values ≡ last_value t ∷ drop 1 t.values
    related_values u t re = go t.values re.values
      where
        go : (vs : List Value) → ListBoth (Shows u.row) (Shown z ∷ s.values) vs → vs ≡ first_value vs ∷ drop 1 vs
        go [] h = absurd h
        go (v ∷ vs) h = refl

made_safe : (n : ℕ) (w : WireId) → w.number < n → AllSafe n no_target (made w ∷ [])
made_safe n w lt = ((lt, refl), tt)

pub leads_turn_both : (o : Outcome) (k l : ℕ) → k < 8 → l < 8 → (z : TypedBits) (w : WireId) (s : Flattening) → Wired z w s → Leads o (with_wired z s) (with_wired z (build (turn_both k l s.setting w s.built) s)) (λ t. turn_term (if is_one (last_value t) then k else l) t ∷ [])
leads_turn_both o k l lk ll z w s q =
    let b : Built = turn s.setting l (negated (made w) ∷ []) s.built in
    let r : Turns s.setting l (negated (made w) ∷ []) s.built.draft b.draft = turn_does s.setting l (negated (made w) ∷ []) s.built q.fresh (safe_under (length s.built.draft.wires) no_target s.setting (negated (made w) ∷ []) q.guards (made_safe (length s.built.draft.wires) w q.below)) in
    let q' : Wired z w (build b s) = wired_more z w s b q (grows_fresh r.grows q.fresh) (grown r.grows) in
    let one : Leads o (with_wired z s) (with_wired z (build b s)) (λ t. turn_term (if is_one (last_value t) then 0 else l) t ∷ []) =
    turn_one o z w s l (negated (made w)) (λ v. if is_one v then 0 else l) ll q (made_safe (length s.built.draft.wires) w q.below) (λ x. off (x w.number)) in
    let two : Leads o (with_wired z (build b s)) (with_wired z (build (turn_both k l s.setting w s.built) s)) (λ t. turn_term (if is_one (last_value t) then k else 0) t ∷ []) =
    turn_one o z w (build b s) k (made w) (λ v. if is_one v then k else 0) lk q' (made_safe (length b.draft.wires) w q'.below) (λ x. on (x w.number)) in
    leads_same o (with_wired z s) (with_wired z (build (turn_both k l s.setting w s.built) s))
    (λ t. flat_map (λ y. turn_term (if is_one (last_value y) then k else 0) y ∷ []) (turn_term (if is_one (last_value t) then 0 else l) t ∷ [])) (λ t. turn_term (if is_one (last_value t) then k else l) t ∷ [])
    (λ u t re. ap (λ (n : ℕ). record t { eighths = n } ∷ []) (sums t.eighths (is_one (last_value t))))
    (leads_then o (with_wired z s) (with_wired z (build b s)) (with_wired z (build (turn_both k l s.setting w s.built) s)) (λ t. turn_term (if is_one (last_value t) then 0 else l) t ∷ []) (λ t. turn_term (if is_one (last_value t) then k else 0) t ∷ []) one two)
  where
    off : (b : Bool) → cond (beq b false) l 0 ≡ (if is_one (truth_value b) then 0 else l)
    off true = refl
    off false = refl

    on : (b : Bool) → cond (beq b true) k 0 ≡ (if is_one (truth_value b) then k else 0)
    on true = refl
    on false = refl

    sums : (n : ℕ) (b : Bool) → (n + (if b then 0 else l)) + (if b then k else 0) ≡ n + (if b then k else l)
    sums n true = ap (λ (j : ℕ). j + k) (add-zero n)
    sums n false = add-zero (n + l)
