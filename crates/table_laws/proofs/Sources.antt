-- The two tables of an accepted source agree.
use Rattle.std.proofs.Common.{◌≡◌, ℕ, List, [], Option, Some, None, subst, arith}
use Rattle.std.specs.Prelude.{Ok, Err, ℤ}
use Rattle.silq_tree.specs.declared.node.NameId.{NameId}
use Rattle.silq_types.specs.Programs.{Program as Tree}
use Rattle.silq_types.specs.Rules.{rule, unknown_name}
use Rattle.flat_form.specs.Jobs.{FineJob, EndsWell}
use Rattle.check_fun.specs.Entry.{check_named, number_of_name}
use Rattle.check_fun.specs.Program.{Accepted, all_headers}
use Rattle.flat_typed.proofs.Every.{accepted_is_flattenable}
use Rattle.flat_typed.proofs.Scopes.{then_ok}
use Rattle.silq_compile.specs.Sources.{job_named, job_in, names_in, tree_of}
use Rattle.read_laws.specs.Laws.{text_of}
use Rattle.circuit_table.specs.Tables.{HasTable}
use Rattle.table_laws.specs.Laws.{form_of, HasWires, CompiledTablesAgree, CompiledTextsAreReadBack}
use Rattle.table_laws.proofs.Tables.{tables_agree}
use Rattle.table_laws.proofs.Compiled.{texts_are_read_back}
use Rattle.table_laws.proofs.Entries.{accepted_has_bits}
use Rattle.table_laws.proofs.Wires.{has_wires}

-- what the name of an accepted entry means can be flattened
fine_by_name : (tree : Tree) (o : Option NameId) (statics : List ℤ) (a : Accepted) → check_named tree o statics ≡ Ok a
    → FineJob (job_named tree o statics) × EndsWell (job_named tree o statics)
fine_by_name tree (Some name) statics a is = accepted_is_flattenable tree name statics a is
fine_by_name tree None statics a is =
    let t = then_ok (all_headers tree.words [] tree.funs) (λ u. Err (rule unknown_name (record { line = 1; col = 1 }))) a is in
    absurd (grind (arith, t.rest))

-- and its flat form has wires for all parameters and results
wires_by_name : (tree : Tree) (o : Option NameId) (statics : List ℤ) (a : Accepted) → check_named tree o statics ≡ Ok a → HasWires (job_named tree o statics)
wires_by_name tree (Some name) statics a is =
    has_wires (job_named tree (Some name) statics) (accepted_is_flattenable tree name statics a is).0 (accepted_has_bits tree name statics a is)
wires_by_name tree None statics a is =
    let t = then_ok (all_headers tree.words [] tree.funs) (λ u. Err (rule unknown_name (record { line = 1; col = 1 }))) a is in
    absurd (grind (arith, t.rest))

pub compiled_texts_are_read_back : CompiledTextsAreReadBack
compiled_texts_are_read_back budget text source h low =
    let well = fine_by_name (tree_of (names_in source.text) h.checked.derivation) (number_of_name (names_in source.text) source.entry) source.statics
    h.accepted h.checked.is in
    let wires = wires_by_name (tree_of (names_in source.text) h.checked.derivation) (number_of_name (names_in source.text) source.entry) source.statics
    h.accepted h.checked.is in
    texts_are_read_back budget text (job_in source h.checked.derivation) well.0 well.1 wires h.holds low

pub compiled_tables_agree : CompiledTablesAgree
compiled_tables_agree budget text source input outcome rows shown outs h low has =
    let found = compiled_texts_are_read_back budget text source (record { accepted = h.accepted; checked = h.checked; holds = h.holds.0 }) low in
    let of_circuit : HasTable input outcome (text_of (form_of found.0)) outs shown =
    subst (λ (t : List ℕ). HasTable input outcome t outs shown) found.1.written has in
    let agree =
    tables_agree (job_in source h.checked.derivation) found.0 input outcome rows shown outs found.1.of_job found.1.readable h.holds.1 h.holds.2
    of_circuit in
    (found.0, found.1, agree.0, agree.1)
