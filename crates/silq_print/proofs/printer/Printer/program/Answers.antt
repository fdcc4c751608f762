use Rattle.std.proofs.Common.{arith, refl, ◌∙◌, ◌≤◌, length}
use Rattle.silq_print.proofs.Puts.{puts_weaker}
use Rattle.silq_print.proofs.Headers.{next_of_program, end_of_program}
use Rattle.silq_print.proofs.Sound.{text_sound, fun_below}
use Rattle.silq_print.proofs.printer.Printer.program.Goals as goal

pub loop-id-init : goal.loop-id-init
loop-id-init g c = record { same_sink = refl; left = λ u p. p }

pub function-requires : goal.function-requires
function-requires g c =
    rw c.as_slice-id-items.ensures (fun_below c.args.program.now.tree c.args.program.now.names c.args.program.now.funs c.loop-id.id-index _ c.requires (rw c.as_slice-id-items.ensures at c.loop-id-test.true))

pub loop-id-preserved : goal.loop-id-preserved
loop-id-preserved g c = record {
  same_sink = c.function.ensures.same_sink ∙ c.loop-id.invariant.same_sink;
  left = next_of_program c.args.program.now.tree c.args.program.now.funs c.loop-id.id-index (record { number = 0 }) (rw c.as_slice-id-items.ensures at c.loop-id-test.true) c.loop-id.invariant.left
      (rw c.as_slice-id-items.ensures at c.function.ensures.puts);
}

pub returns-clause-puts : goal.returns-clause-puts
returns-clause-puts g c =
    let end : length c.args.program.now.funs ≤ c.loop-id.id-index = (let h = rw c.as_slice-id-items.ensures at c.loop-id-test.false in omega (arith, h)) in
    puts_weaker (λ h. text_sound c.args.program.now.tree c.args.program.now.names c.args.program.now.funs c.requires)
    (end_of_program c.args.program.now.tree c.args.program.now.funs c.loop-id.id-index end c.loop-id.invariant.left)
