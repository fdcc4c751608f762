use Rattle.std.proofs.Common.{IfSome, ap, sym, ◌∙◌}
use Rattle.cli_words.specs.Told.{told}
use Rattle.silqc.specs.Command.{bytes_at, command_of, on_generated, source_of}
use Rattle.silqc.specs.Ending.{Tells}
use Rattle.silqc.proofs.Jobs.{only}
use Rattle.silqc.proofs.run_job.Goals as goal

pub returns-in-Gen-clause-tells : goal.returns-in-Gen-clause-tells
returns-in-Gen-clause-tells g c = λ d e.
    only (λ d. IfSome (bytes_at (g.F.Files.held c.args.files.now) d.origin) (λ bytes. Tells (g.S.Sink.put_so_far c.args.out.now) (g.S.Sink.put_so_far c.run_generated.new.out) c.run_generated.result d.asked (source_of d bytes)))
    (on_generated c.in-Gen.number c.in-Gen.size) d (sym (ap (λ j. command_of (told j)) c.in-Gen.is) ∙ e) c.run_generated.ensures.tells
