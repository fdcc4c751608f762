-- The rows of a run: what they keep from statement to statement.
use Rattle.std.proofs.Common.{◌≡◌, ℕ, suc, ◌+◌, ◌^◌, ◌≤◌, ◌<◌, Bool, true, cond, List, [], ◌∷◌, length, drop, slice_get, Some, add-one, length-set, All, inl, inr, refl, ap, sym, subst, ◌∙◌, arith}
use Rattle.std.proofs.Math.Pow.{pow_mono}
use Rattle.std.proofs.lemmas.Bool.{cases_eq}
use Rattle.std.proofs.Math.Seq.{drop-cons}
use Rattle.std.proofs.lemmas.Option.{get_or_from_slice_get}
use Rattle.std.proofs.lemmas.List.Elements.{All-nil, All-cons, All-head, All-tail, All-get_or}
use Rattle.std.proofs.lemmas.List.Sums.{sum_by-cons}
use Rattle.amp_core.specs.declared.Amp.{Amp}
use Rattle.amp_core.specs.Amplitude.{none, one, plus, Same}
use Rattle.amp_core.specs.Size.{Small}
use Rattle.sum_laws.specs.Partial.{PartialSumsSmall}
use Rattle.sum_laws.specs.Rearranged.{Rearranged}
use Rattle.sum_laws.specs.Terms.{same_bits, amplitude, apply, SameTerms}
use Rattle.sum_laws.specs.Table.{TableOf, RowOf}
use Rattle.sum_laws.proofs.TermLists.{same_bits-refl, same_bits-equal, SameTerms-sym, SameTerms-trans}
use Rattle.sum_laws.proofs.Linear.{bool_cases}
use Rattle.sum_laws.proofs.Rearranged.{amplitude-rearranged}
use Rattle.sum_laws.proofs.StandsFor.{stands_first, stands_rearranged, stands_table, stands_small}
use Rattle.sum_laws.proofs.Tables.{TableOf-along}
use Rattle.sum_laws.proofs.TableTerms.{SameTerms-table, TableOf-same}
use Rattle.gate_core.specs.declared.gate.Gate.{Gate}
use Rattle.gate_core.specs.declared.gate.Gate.TheVariants.{One, Cx, Cz, Ccx, Measure, If}
use Rattle.gate_core.specs.Circuit.{GateFits, IsSound}
use Rattle.gate_core.specs.Local.{AllBelow, HasWidth}
use Rattle.gate_core.specs.Meaning.{bit_at, branches, known_after, run}
use Rattle.gate_core.proofs.Embedded.{run_wide}
use Rattle.gate_core.proofs.Runs.{run-same}
use Rattle.amp_run.specs.Refusal.{h_gates, h_gates_in}
use Rattle.amp_run.specs.Room.{HasRoom}
use Rattle.amp_run.proofs.Few.{stands_after}

-- ---- what the sums of rows need

pub small_sums : (more : ℕ) (rows : List (List Bool × Amp)) → HasRoom more rows → (v : List Bool) → PartialSumsSmall v rows
small_sums more rows r v = let l : r.halvings ≤ 50 = (let f = r.few in omega arith) in stands_small (2 ^ r.halvings) r.halvings v rows (pow_mono l) l r.stands

each_small : (ts all : List (List Bool × Amp)) → ((v : List Bool) → All (λ t. same_bits t.0 v ≡ true → Small t.1) ts) → All (λ t. Small t.1) ts
each_small [] all h = All-nil (λ t. Small t.1)
each_small (t ∷ ts) all h =
    All-cons (λ u. Small u.1) t ts (All-head (λ u. same_bits u.0 t.0 ≡ true → Small u.1) t ts (h t.0) (same_bits-refl t.0))
    (each_small ts all (λ v. All-tail (λ u. same_bits u.0 v ≡ true → Small u.1) t ts (h v)))

pub rows_small : (more : ℕ) (rows : List (List Bool × Amp)) → HasRoom more rows → All (λ t. Small t.1) rows
rows_small more rows r = each_small rows rows (λ v. (small_sums more rows r v).terms)

pub rows_wide : (n : ℕ) (qs : List ℕ) (rows : List (List Bool × Amp)) → AllBelow n qs → HasWidth n rows → All (λ t. AllBelow (length t.0) qs) rows
rows_wide n qs [] b h = All-nil (λ t. AllBelow (length t.0) qs)
rows_wide n qs (t ∷ ts) b h = All-cons (λ u. AllBelow (length u.0) qs) t ts (subst (λ m. AllBelow m qs) (sym h.0) b) (rows_wide n qs ts b h.1)

-- the terms that a statement makes, in whatever order
pub made_small : (outcome known : List Bool) (gate : Gate) (rows made : List (List Bool × Amp)) → HasRoom (h_gates_in gate) rows
    → Rearranged (apply (branches outcome known gate) rows) made → (v : List Bool) → PartialSumsSmall v made
made_small outcome known gate rows made r e v =
    let h = r.halvings + h_gates_in gate in
    let l : r.halvings + h_gates_in gate ≤ 50 = r.few in
    stands_small (2 ^ (r.halvings + h_gates_in gate)) (r.halvings + h_gates_in gate) v made (pow_mono l) l
    (stands_rearranged (2 ^ (r.halvings + h_gates_in gate)) (r.halvings + h_gates_in gate) (apply (branches outcome known gate) rows) made e (stands_after r.halvings outcome known gate rows r.stands))

pub first_small : (u v : List Bool) → PartialSumsSmall v ((u, one) ∷ [])
first_small u v = stands_small 1 0 v ((u, one) ∷ []) (pow_mono {i = 0} {j = 50} (omega arith)) (omega arith) (stands_first u)

pub table_of_made : (ts made rows : List (List Bool × Amp)) → Rearranged ts made → TableOf made rows → TableOf ts rows
table_of_made ts made rows e t = TableOf-along made ts rows (λ v. sym (amplitude-rearranged v e)) t

-- ---- the width of a table

different_width : (u v : List Bool) → same_bits u v ≡ true → length u ≡ length v
different_width u v e = ap length (same_bits-equal u v e)

no_amplitude : (n : ℕ) (v : List Bool) (ts : List (List Bool × Amp)) → HasWidth n ts → (length v ≡ n → ⊥) → amplitude v ts ≡ none
unfolding amplitude
no_amplitude n v [] h d = refl
no_amplitude n v (t ∷ ts) h d =
    elim (bool_cases (same_bits t.0 v)) [
      | inl e ↦ absurd (d (sym (different_width t.0 v e) ∙ h.0))
      | inr e ↦ ap (λ b. cond b (plus t.1 (amplitude v ts)) (amplitude v ts)) e ∙ no_amplitude n v ts h.1 d
    ]

pub rows_width : (n : ℕ) (ts rows : List (List Bool × Amp)) → HasWidth n ts → All (RowOf ts) rows → HasWidth n rows
rows_width n ts [] h a = tt
rows_width n ts (r ∷ rs) h a =
    let row : RowOf ts r = All-head (RowOf ts) r rs a in (
      elim (cases_eq (length r.0) n) [
        | inl e ↦ e
        | inr d ↦ absurd (row.not_zero (subst (Same r.1) (no_amplitude n r.0 ts h d) row.same))
      ],
      rows_width n ts rs h (All-tail (RowOf ts) r rs a),
    )

-- ---- from statement to statement

-- the rows are their own table, and with the statements that are left they give the amplitudes of the whole
pub record Running (qubits : ℕ) (outcome known : List Bool) (gates : List Gate) (whole rows : List (List Bool × Amp)) : Type 0 where
  pub width : HasWidth qubits rows
  pub table : TableOf rows rows
  pub same : SameTerms (run outcome known gates rows) whole
  pub room : HasRoom (h_gates gates) rows

own_table : (ts rows : List (List Bool × Amp)) → TableOf ts rows → TableOf rows rows
own_table ts rows t = TableOf-same ts rows rows (SameTerms-sym (SameTerms-table ts rows t)) t

pub running_first : (qubits : ℕ) (outcome known : List Bool) (gates : List Gate) (u : List Bool) (rows : List (List Bool × Amp))
    → length u ≡ qubits → h_gates gates ≤ 50 → TableOf ((u, one) ∷ []) rows → Running qubits outcome known gates (run outcome known gates ((u, one) ∷ [])) rows
running_first qubits outcome known gates u rows w l t = record {
  width = rows_width qubits ((u, one) ∷ []) rows (w, tt) t.rows_are;
  table = own_table ((u, one) ∷ []) rows t;
  same = run-same outcome known gates rows ((u, one) ∷ []) (SameTerms-table ((u, one) ∷ []) rows t);
  room = record { halvings = 0; stands = stands_table 1 0 ((u, one) ∷ []) rows t (stands_first u); few = omega (arith, l) };
}

pub running_next : (qubits : ℕ) (outcome known : List Bool) (gate : Gate) (gates : List Gate) (whole rows new : List (List Bool × Amp))
    → Running qubits outcome known (gate ∷ gates) whole rows → TableOf (apply (branches outcome known gate) rows) new → Running qubits outcome (known_after outcome known gate) gates whole new
unfolding run
running_next qubits outcome known gate gates whole rows new r t =
    let made = apply (branches outcome known gate) rows in
    record {
      width = rows_width qubits (apply (branches outcome known gate) rows) new (run_wide qubits outcome known (gate ∷ []) rows r.width) t.rows_are;
      table = own_table (apply (branches outcome known gate) rows) new t;
      same = SameTerms-trans (run-same outcome (known_after outcome known gate) gates new (apply (branches outcome known gate) rows) (SameTerms-table (apply (branches outcome known gate) rows) new t)) r.same;
      room = record {
        halvings = r.room.halvings + h_gates_in gate;
        stands = stands_table (2 ^ (r.room.halvings + h_gates_in gate)) (r.room.halvings + h_gates_in gate) (apply (branches outcome known gate) rows) new t (stands_after r.room.halvings outcome known gate rows r.room.stands);
        few = (let f = r.room.few in let e = sum_by-cons h_gates_in gate gates in omega arith);
      };
    }

pub room_for_next : (qubits : ℕ) (outcome known : List Bool) (gate : Gate) (gates : List Gate) (whole rows : List (List Bool × Amp))
    → Running qubits outcome known (gate ∷ gates) whole rows → HasRoom (h_gates_in gate) rows
room_for_next qubits outcome known gate gates whole rows r = record {
  halvings = r.room.halvings;
  stands = r.room.stands;
  few = (let f = r.room.few in let e = sum_by-cons h_gates_in gate gates in omega arith);
}

pub running_last : (qubits : ℕ) (outcome known : List Bool) (whole rows : List (List Bool × Amp)) → Running qubits outcome known [] whole rows → TableOf whole rows
unfolding run
running_last qubits outcome known whole rows r = TableOf-same rows whole rows r.same r.table

-- ---- at the statement with a number

pub running_at : (qubits : ℕ) (outcome known : List Bool) (gates : List Gate) (i : ℕ) (gate : Gate) (whole rows : List (List Bool × Amp))
    → i < length gates → slice_get gates i ≡ Some gate → Running qubits outcome known (drop i gates) whole rows → Running qubits outcome known (gate ∷ drop (i + 1) gates) whole rows
running_at qubits outcome known gates i gate whole rows h e r =
    let d : drop i gates ≡ gate ∷ drop (i + 1) gates =
    drop-cons gates i gate h ∙ ap (λ g. g ∷ drop (suc i) gates) (get_or_from_slice_get gates i gate gate e) ∙ ap (λ j. gate ∷ drop j gates) (sym (add-one i)) in
    subst (λ gs. Running qubits outcome known gs whole rows) d r

pub fits_at : (qubits bits : ℕ) (gates : List Gate) (i : ℕ) (gate : Gate) → i < length gates → slice_get gates i ≡ Some gate → IsSound qubits bits gates → GateFits qubits bits gate
fits_at qubits bits gates i gate h e s = subst (GateFits qubits bits) (get_or_from_slice_get gates i gate gate e) (All-get_or (GateFits qubits bits) gates i gate h s.each_fits)

pub length-known_after : (outcome known : List Bool) (gate : Gate) → length (known_after outcome known gate) ≡ length known
length-known_after outcome known (One kind q) = refl
length-known_after outcome known (Cx c t) = refl
length-known_after outcome known (Cz c t) = refl
length-known_after outcome known (Ccx a b t) = refl
length-known_after outcome known (Measure q bit) = length-set known bit (bit_at outcome bit)
length-known_after outcome known (If bit value gate) = refl
