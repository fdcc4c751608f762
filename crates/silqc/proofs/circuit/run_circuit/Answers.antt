use Rattle.std.proofs.Common.{◌≡◌, ◌≤◌, Some, length, subst, ◌∙◌}
use Rattle.file_text.specs.NoText.{no_text}
use Rattle.file_text.proofs.Whole.{read_whole}
use Rattle.circuit_table.specs.Tables.{BreaksTable, PutsTable}
use Rattle.silqc.specs.Circuits.{EndsCircuit}
use Rattle.silqc.proofs.Circuits.{none_ends}
use Rattle.silqc.proofs.Read.{of_all}
use Rattle.silqc.proofs.circuit.run_circuit.Goals as goal

pub returns-in-Ok-text_of-clause-ends : goal.returns-in-Ok-text_of-clause-ends
returns-in-Ok-text_of-clause-ends g c =
    of_all (EndsCircuit c.tabled.result c.args.input.now c.args.outcome.now) 268435456 _ _ c.in-Ok.bytes.items c.in-Ok-text_of.text.now c.in-Ok.ensures.read
    (subst (λ b. length b ≤ 268435456) c.deref.ensures.value c.in-Ok-text_of.ensures.short) (c.in-Ok-text_of.ensures.same ∙ c.deref.ensures.value)
    c.tabled.ensures.ends

pub returns-in-Ok-text_of-clause-done : goal.returns-in-Ok-text_of-clause-done
returns-in-Ok-text_of-clause-done g c = λ is.
    of_all (PutsTable c.args.input.now c.args.outcome.now (g.S.Sink.put_so_far c.args.out.now) (g.S.Sink.put_so_far c.tabled.new.out)) 268435456 _ _
    c.in-Ok.bytes.items c.in-Ok-text_of.text.now c.in-Ok.ensures.read
    (subst (λ b. length b ≤ 268435456) c.deref.ensures.value c.in-Ok-text_of.ensures.short) (c.in-Ok-text_of.ensures.same ∙ c.deref.ensures.value)
    (c.tabled.ensures.done is)

pub returns-in-Ok-text_of-clause-broken : goal.returns-in-Ok-text_of-clause-broken
returns-in-Ok-text_of-clause-broken g c = λ is.
    of_all (BreaksTable c.args.input.now c.args.outcome.now (g.S.Sink.put_so_far c.args.out.now) (g.S.Sink.put_so_far c.tabled.new.out)) 268435456 _ _
    c.in-Ok.bytes.items c.in-Ok-text_of.text.now c.in-Ok.ensures.read
    (subst (λ b. length b ≤ 268435456) c.deref.ensures.value c.in-Ok-text_of.ensures.short) (c.in-Ok-text_of.ensures.same ∙ c.deref.ensures.value)
    (c.tabled.ensures.broken is)

pub returns-in-Ok-text_of-clause-read_whole : goal.returns-in-Ok-text_of-clause-read_whole
returns-in-Ok-text_of-clause-read_whole g c = λ is.
    read_whole 268435456 _ _ c.in-Ok.bytes.items c.in-Ok.ensures.read
    (subst (λ b. length b ≤ 268435456) c.deref.ensures.value c.in-Ok-text_of.ensures.short)

pub returns-clause-ends : goal.returns-clause-ends
returns-clause-ends g c =
    none_ends c.args.input.now c.args.outcome.now _ _ c.in-Ok.bytes.items c.in-Ok.ensures.read c.in-Err-text_of.why c.no_circuit_status.result
    c.no_circuit_status.ensures (subst (λ b. no_text 268435456 b ≡ Some c.in-Err-text_of.why) c.deref.ensures.value c.in-Err-text_of.ensures.fault)
