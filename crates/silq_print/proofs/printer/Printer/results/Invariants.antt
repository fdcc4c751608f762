use Rattle.std.proofs.Common.{◌≡◌, drop, map}
use Rattle.silq_tree.specs.Arena.{expr_at}
use Rattle.silq_tree.specs.Standing.{type_of}
use Rattle.silq_print.specs.Puts.{state}
use Rattle.silq_print.proofs.Puts.{Left}
use Rattle.silq_print.specs.Headers.{types_list, more_types, are_sound_types}
use Rattle.silq_print.proofs.printer.Printer.results.Given as goal

-- the ones that are left
abbrev pub invariant-loop-ty : goal.invariant-loop-ty
invariant-loop-ty g l =
    let told = g.S.Sink.put_so_far in
    let count = g.S.Sink.faults in
    let at = expr_at l.fn.program.tree in
    record {
      same_sink : l.self.out.ghost_name ≡ l.fn.self.out.ghost_name;
      left : Left l.fn.program.names (state l.fn.self.failed (told l.fn.self.out.now) (count l.fn.self.out.now)) (are_sound_types (map (type_of at) l.fn.types)) (types_list (map (type_of at) l.fn.types))
          (state l.self.failed (told l.self.out.now) (count l.self.out.now)) (are_sound_types (map (type_of at) (drop l.ty-index l.rest))) (more_types (map (type_of at) (drop l.ty-index l.rest)));
    }
