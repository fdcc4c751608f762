-- The table of turned rows, and what it is to a text.
use Rattle.std.proofs.Common.{◌≡◌, ℕ, suc, ◌≤◌, Bool, true, false, List, [], ◌∷◌, ◌++◌, length, length-append, All, Option, None, Some, refl, ap, sym, ◌∙◌}
use Rattle.std.proofs.Common.{subst, arith}
use Rattle.std.specs.Prelude.{IsNone, Ok}
use Rattle.std.proofs.lemmas.List.Elements.{All-nil, All-cons}
use Rattle.amp_core.specs.declared.Amp.{Amp}
use Rattle.sum_laws.specs.Table.{TableOf}
use Rattle.sum_laws.specs.Terms.{pick, seen, SameTerms}
use Rattle.sum_laws.proofs.Seen.{seen-same}
use Rattle.sum_laws.proofs.TableTerms.{SameTerms-table, TableOf-same}
use Rattle.gate_core.specs.Local.{HasWidth}
use Rattle.gate_core.specs.Meaning.{joined, meaning}
use Rattle.amp_run.specs.Refusal.{fault_of}
use Rattle.amp_run.proofs.Rows.{rows_width}
use Rattle.table_write.specs.Outs.{rest_of, shown_bits}
use Rattle.table_write.proofs.Turned.{turned}
use Rattle.qasm_read.specs.State.{ReadForm}
use Rattle.qasm_read.specs.Text.{reading}
use Rattle.circuit_table.specs.Tables.{HasTable}

turned-seen : (f : List Bool → List Bool) (ts : List (List Bool × Amp)) → seen f ts ≡ turned f ts
unfolding seen
turned-seen f [] = refl
turned-seen f (t ∷ ts) = ap (λ us. (f t.0, t.1) ∷ us) (turned-seen f ts)

turned-same : (f : List Bool → List Bool) (ts us : List (List Bool × Amp)) → SameTerms ts us → SameTerms (turned f ts) (turned f us)
turned-same f ts us h =
    subst (λ ws. SameTerms ws (turned f us)) (turned-seen f ts) (subst (λ ws. SameTerms (seen f ts) ws) (turned-seen f us) (seen-same f ts us h))

-- the table of the turned rows of a table is that of the turned terms
table_of_turned : (f : List Bool → List Bool) (ts middle rows : List (List Bool × Amp))
    → TableOf ts middle → TableOf (turned f middle) rows → TableOf (turned f ts) rows
table_of_turned f ts middle rows t u = TableOf-same (turned f middle) (turned f ts) rows (turned-same f middle ts (SameTerms-table ts middle t)) u

length-pick : (ps : List ℕ) (u : List Bool) → length (pick ps u) ≡ length ps
length-pick [] u = refl
length-pick (p ∷ ps) u = ap suc (length-pick ps u)

turned_width : (ps : List ℕ) (ts : List (List Bool × Amp)) → HasWidth (length ps) (turned (pick ps) ts)
turned_width ps [] = tt
turned_width ps (t ∷ ts) = (length-pick ps t.0, turned_width ps ts)

all_wide : (m n : ℕ) (rows : List (List Bool × Amp)) → m ≤ n → HasWidth n rows → All (λ row. m ≤ length row.0) rows
all_wide m n [] l h = All-nil (λ row. m ≤ length row.0)
all_wide m n (r ∷ rs) l h = All-cons (λ row. m ≤ length row.0) r rs (subst (λ k. m ≤ k) (sym h.0) l) (all_wide m n rs l h.1)

-- each shown row has the bits of the outs
pub shown_wide : (n m : ℕ) (outs : List ℕ) (ts rows : List (List Bool × Amp))
    → m ≡ length outs → TableOf (turned (shown_bits n outs) ts) rows → All (λ row. m ≤ length row.0) rows
shown_wide n m outs ts rows e t =
    let l : m ≤ length (outs ++ rest_of n outs) = (let f = length-append outs (rest_of n outs) in omega arith) in
    all_wide m (length (outs ++ rest_of n outs)) rows l
    (rows_width (length (outs ++ rest_of n outs)) (turned (pick (outs ++ rest_of n outs)) ts) rows (turned_width (outs ++ rest_of n outs) ts) t.rows_are)

none_from : {X : Type 0} (o : Option X) → IsNone o → o ≡ None
none_from None h = refl
none_from (Some x) h = let p : true ≡ false = h in absurd (cc p)

-- the table of what was read
pub has_table : (form : ReadForm) (input outcome : List Bool) (text : List ℕ) (n m : ℕ) (outs : List ℕ) (middle rows : List (List Bool × Amp))
    → reading text ≡ Ok form → IsNone (fault_of form.circuit (joined form.ins) input outcome)
    → n ≡ form.circuit.qubits → outs ≡ joined form.outs → m ≡ length outs
    → TableOf (meaning form.circuit.qubits form.circuit.bits form.circuit.gates form.ins input outcome) middle
    → TableOf (turned (shown_bits n outs) middle) rows
    → HasTable input outcome text m rows
has_table form input outcome text n m outs middle rows spelled allowed e f g t u = record {
  form = form;
  spelled = spelled;
  allowed = none_from (fault_of form.circuit (joined form.ins) input outcome) allowed;
  outs_are = g ∙ ap length f;
  table =
      table_of_turned (shown_bits form.circuit.qubits (joined form.outs))
      (meaning form.circuit.qubits form.circuit.bits form.circuit.gates form.ins input outcome) middle rows t
      (subst (λ k. TableOf (turned (shown_bits k (joined form.outs)) middle) rows) e (subst (λ qs. TableOf (turned (shown_bits n qs) middle) rows) f u));
}
