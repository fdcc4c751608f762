use Rattle.std.proofs.Common.{◌≡◌, Bool, List, All, length, sym, subst}
use Rattle.std.proofs.lemmas.Result.{IfOk-weaker}
use Rattle.amp_core.specs.declared.Amp.{Amp}
use Rattle.amp_core.specs.Size.{Small}
use Rattle.sum_laws.specs.Rearranged.{Rearranged}
use Rattle.sum_laws.specs.Table.{TableOf}
use Rattle.sum_laws.specs.Terms.{apply}
use Rattle.gate_core.specs.Circuit.{qubits_of}
use Rattle.gate_core.specs.Local.{AllBelow}
use Rattle.gate_core.specs.Meaning.{branches}
use Rattle.amp_run.specs.Parts.{all_parts}
use Rattle.amp_run.proofs.Rows.{rows_small, made_small, table_of_made}
use Rattle.amp_run.proofs.run.next_rows.Goals as goal

pub parts_of-requires-clause-small : goal.parts_of-requires-clause-small
parts_of-requires-clause-small c = subst (All (λ (t : List Bool × Amp). Small t.1)) (sym c.into_terms.ensures) (rows_small _ c.args.rows c.requires.room)

pub parts_of-requires-clause-qubits : goal.parts_of-requires-clause-qubits
parts_of-requires-clause-qubits c = subst (All (λ (t : List Bool × Amp). AllBelow (length t.0) (qubits_of c.args.gate))) (sym c.into_terms.ensures) c.requires.qubits

-- what the joined parts are
made_of : (outcome known : List Bool) (rows terms made joined : List (List Bool × Amp)) (step : List (List Bool × Amp) → List (List Bool × Amp)) → terms ≡ rows → Rearranged (step terms) made → joined ≡ made → Rearranged (step rows) joined
made_of outcome known rows terms made joined step e m j = subst (Rearranged (step rows)) (sym j) (subst (λ ts. Rearranged (step ts) made) e m)

pub merged-requires : goal.merged-requires
merged-requires c =
    made_small c.args.outcome.now c.args.known.now c.args.gate c.args.rows c.in_ok-joined.field-0 c.requires.room
    (made_of c.args.outcome.now c.args.known.now c.args.rows c.into_terms.result (all_parts c.in_ok-parts_of.field-0) c.in_ok-joined.field-0 (apply (branches c.args.outcome.now c.args.known.now c.args.gate)) c.into_terms.ensures c.in_ok-parts_of.ensures c.in_ok-joined.ensures)

pub returns : goal.returns
returns c =
    let made = made_of c.args.outcome.now c.args.known.now c.args.rows c.into_terms.result (all_parts c.in_ok-parts_of.field-0) c.in_ok-joined.field-0 (apply (branches c.args.outcome.now c.args.known.now c.args.gate)) c.into_terms.ensures c.in_ok-parts_of.ensures c.in_ok-joined.ensures in
    IfOk-weaker c.merged.result (TableOf c.in_ok-joined.field-0) (TableOf (apply (branches c.args.outcome.now c.args.known.now c.args.gate) c.args.rows))
    (λ t. table_of_made (apply (branches c.args.outcome.now c.args.known.now c.args.gate) c.args.rows) c.in_ok-joined.field-0 t made) c.merged.ensures
