use Rattle.std.proofs.Common.{Ok, arith}
use Rattle.silq_compile.proofs.Entries.{answers, funs_below, refuted}
use Rattle.silq_compile.proofs.text.check_text.Goals as goal
use Rattle.silq_compile.proofs.text.check_text.Goals.{in-Ok-check, in-Err-check}

pub check-requires : goal.check-requires
check-requires c =
    let parsed = c.in-Ok.ensures.program.parsed in
    funs_below 0 _ _ parsed.funs_in_order (omega (arith, parsed.funs_are_all))

pub returns-clause-accepted : goal.returns-clause-accepted
returns-clause-accepted c =
    elim c.match-check.branch [
      | in-Ok-check w ↦
          rw w.result-is (
            record { entry = w.in-Ok-check.ensures.accepted.0; met = w.in-Ok-check.field-0.known },
            answers c.args.text.now c.args.entry.now c.args.statics.now _ _ _ c.in-Ok.ensures.fine c.in-Ok.ensures.program
                (Ok (record { entry = w.in-Ok-check.ensures.accepted.0; met = w.in-Ok-check.field-0.known })) w.in-Ok-check.ensures.accepted.1,
          )
      | in-Err-check w ↦ rw w.result-is tt
    ]
