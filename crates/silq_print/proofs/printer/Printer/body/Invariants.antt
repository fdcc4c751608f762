use Rattle.std.proofs.Common.{◌≡◌, drop}
use Rattle.silq_tree.specs.Arena.{expr_at, stmt_at}
use Rattle.silq_tree.specs.Standing.{statements_of}
use Rattle.silq_print.specs.Statements.{are_sound_stmts, braces_text}
use Rattle.silq_print.specs.Puts.{state}
use Rattle.silq_print.proofs.Puts.{Left}
use Rattle.silq_print.proofs.Blocks.{rest_of_block}
use Rattle.silq_print.proofs.printer.Printer.body.Given as goal

-- the statements that are left, and the closing brace
abbrev pub invariant-loop-item : goal.invariant-loop-item
invariant-loop-item g l =
    let told = g.S.Sink.put_so_far in
    let count = g.S.Sink.faults in
    let tree = l.fn.program.tree in
    record {
      same_sink : l.self.out.ghost_name ≡ l.fn.self.out.ghost_name;
      left : Left l.fn.program.names (state l.fn.self.failed (told l.fn.self.out.now) (count l.fn.self.out.now))
          (are_sound_stmts 1 (statements_of (expr_at tree) (stmt_at tree) l.fn.items)) (braces_text 0 (statements_of (expr_at tree) (stmt_at tree) l.fn.items))
          (state l.self.failed (told l.self.out.now) (count l.self.out.now))
          (are_sound_stmts 1 (statements_of (expr_at tree) (stmt_at tree) (drop l.item-index l.items)))
          (rest_of_block 0 (statements_of (expr_at tree) (stmt_at tree) (drop l.item-index l.items)));
    }
