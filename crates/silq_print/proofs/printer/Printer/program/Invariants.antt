use Rattle.std.proofs.Common.{◌≡◌, drop}
use Rattle.silq_tree.specs.Arena.{program_at}
use Rattle.silq_print.specs.Puts.{state}
use Rattle.silq_print.proofs.Puts.{Left}
use Rattle.silq_grammar.specs.Spelled.{program_text}
use Rattle.silq_print.specs.Derived.{derived}
use Rattle.silq_print.specs.Headers.{is_sound_program}
use Rattle.silq_print.proofs.printer.Printer.program.Given as goal

-- the ones that are left
abbrev pub invariant-loop-id : goal.invariant-loop-id
invariant-loop-id g l =
    let told = g.S.Sink.put_so_far in
    let count = g.S.Sink.faults in
    record {
      same_sink : l.self.out.ghost_name ≡ l.fn.self.out.ghost_name;
      left : Left l.fn.program.names (state l.fn.self.failed (told l.fn.self.out.now) (count l.fn.self.out.now)) (is_sound_program (program_at l.fn.program.tree l.fn.program.funs)) (program_text (derived (program_at l.fn.program.tree l.fn.program.funs)))
          (state l.self.failed (told l.self.out.now) (count l.self.out.now)) (is_sound_program (program_at l.fn.program.tree (drop l.id-index l.fn.program.funs))) (program_text (derived (program_at l.fn.program.tree (drop l.id-index l.fn.program.funs))));
    }
