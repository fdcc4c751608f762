use Rattle.std.proofs.Common.{◌≡◌, true, drop}
use Rattle.silq_print.specs.Statements.{names_list, more_names}
use Rattle.silq_print.specs.Puts.{state}
use Rattle.silq_print.proofs.Puts.{Left}
use Rattle.silq_print.proofs.printer.Printer.name_list.Given as goal

-- the names that are left, each with a comma before it
abbrev pub invariant-loop-id : goal.invariant-loop-id
invariant-loop-id g l =
    let told = g.S.Sink.put_so_far in
    let count = g.S.Sink.faults in
    record {
      same_sink : l.self.out.ghost_name ≡ l.fn.self.out.ghost_name;
      left : Left l.fn.program.names (state l.fn.self.failed (told l.fn.self.out.now) (count l.fn.self.out.now)) true (names_list l.fn.ids)
          (state l.self.failed (told l.self.out.now) (count l.self.out.now)) true (more_names (drop l.id-index l.rest));
    }
