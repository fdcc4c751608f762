use Rattle.std.proofs.Common.{◌≡◌, Some, subst}
use Rattle.file_text.specs.NoText.{no_text}
use Rattle.file_text.proofs.Whole.{read_whole}
use Rattle.silqc.specs.Asked.{asked_of}
use Rattle.silqc.proofs.Read.{adds_nothing, fault_of_all, tells_of_all}
use Rattle.silqc.proofs.file.run_file.Goals as goal

pub returns-in-Ok-text_of-clause-tells : goal.returns-in-Ok-text_of-clause-tells
returns-in-Ok-text_of-clause-tells g c =
    tells_of_all _ _ (asked_of c.args.asked) c.args.source.now.entry.now c.args.source.now.statics.items _ _ c.in-Ok.bytes.items c.in-Ok.ensures.read
    c.run_text.result (rw c.deref.ensures.value at c.in-Ok-text_of.ensures.short)
    (rw (c.in-Ok-text_of.ensures.same, c.deref.ensures.value, c.as_slice.ensures.value) at c.run_text.ensures.tells)

pub returns-in-Ok-text_of-clause-read_whole : goal.returns-in-Ok-text_of-clause-read_whole
returns-in-Ok-text_of-clause-read_whole g c =
    λ is. read_whole _ _ _ c.in-Ok.bytes.items c.in-Ok.ensures.read (rw c.deref.ensures.value at c.in-Ok-text_of.ensures.short)

pub returns-clause-tells : goal.returns-clause-tells
returns-clause-tells g c =
    fault_of_all _ _ (asked_of c.args.asked) c.args.source.now.entry.now c.args.source.now.statics.items _ _ c.in-Ok.bytes.items c.in-Ok.ensures.read
    c.in-Err-text_of.why c.no_program_status.result c.no_program_status.ensures
    (subst (λ b. no_text 1048576 b ≡ Some c.in-Err-text_of.why) c.deref.ensures.value c.in-Err-text_of.ensures.fault)

pub returns-clause-refused : goal.returns-clause-refused
returns-clause-refused g c = λ done failed. adds_nothing (g.S.Sink.put_so_far c.args.out.now)

pub returns-clause-quiet : goal.returns-clause-quiet
returns-clause-quiet g c = λ is. adds_nothing (g.S.Sink.put_so_far c.args.out.now)
