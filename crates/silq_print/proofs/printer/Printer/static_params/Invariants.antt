use Rattle.std.proofs.Common.{◌≡◌, true, drop, [], ◌∷◌, ◌++◌}
use Rattle.silq_print.specs.Puts.{state}
use Rattle.silq_print.proofs.Puts.{Left}
use Rattle.silq_grammar.specs.declared.token.Token.TheVariants.{Fixed}
use Rattle.silq_grammar.specs.declared.token.Terminal.TheVariants as t
use Rattle.silq_print.specs.Bare.{nowhere}
use Rattle.silq_print.specs.Headers.{statics_list, more_statics}
use Rattle.silq_print.proofs.printer.Printer.static_params.Given as goal

-- the ones that are left
abbrev pub invariant-loop-id : goal.invariant-loop-id
invariant-loop-id g l =
    let told = g.S.Sink.put_so_far in
    let count = g.S.Sink.faults in
    record {
      same_sink : l.self.out.ghost_name ≡ l.fn.self.out.ghost_name;
      left : Left l.fn.program.names (state l.fn.self.failed (told l.fn.self.out.now) (count l.fn.self.out.now)) true (statics_list l.fn.ids)
          (state l.self.failed (told l.self.out.now) (count l.self.out.now)) true (more_statics (drop l.id-index l.rest) ++ (Fixed t.RightBracket nowhere ∷ []));
    }
