use Rattle.std.proofs.Common.{◌≡◌, drop, map}
use Rattle.silq_tree.specs.Arena.{expr_at}
use Rattle.silq_tree.specs.Standing.{param_of}
use Rattle.silq_print.specs.Puts.{state}
use Rattle.silq_print.proofs.Puts.{Left}
use Rattle.silq_print.specs.Headers.{params_list, more_params, are_sound_params}
use Rattle.silq_print.proofs.printer.Printer.param_list.Given as goal

-- the ones that are left
abbrev pub invariant-loop-param : goal.invariant-loop-param
invariant-loop-param g l =
    let told = g.S.Sink.put_so_far in
    let count = g.S.Sink.faults in
    let at = expr_at l.fn.program.tree in
    record {
      same_sink : l.self.out.ghost_name ≡ l.fn.self.out.ghost_name;
      left : Left l.fn.program.names (state l.fn.self.failed (told l.fn.self.out.now) (count l.fn.self.out.now)) (are_sound_params (map (param_of at) l.fn.params)) (params_list (map (param_of at) l.fn.params))
          (state l.self.failed (told l.self.out.now) (count l.self.out.now)) (are_sound_params (map (param_of at) (drop l.param-index l.rest))) (more_params (map (param_of at) (drop l.param-index l.rest)));
    }
