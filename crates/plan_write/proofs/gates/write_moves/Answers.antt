-- Each move may come, and its lines come behind those before it.
use Rattle.std.proofs.Common.{[], refl, sym, ap, ◌∙◌, le_refl, append-nil, arith}
use Rattle.silq_io.proofs.Added.{adds_none, on_err_from}
use Rattle.qubit_alloc.specs.Place.{first_place, place_move}
use Rattle.qubit_alloc.specs.State.{progress_of}
use Rattle.plan_gates.proofs.Loops.{first_move, next_move, move_made}
use Rattle.qasm_write.specs.Written.{gate_lines}
use Rattle.qasm_write.proofs.Parts.{put_more, put_broke, adds_as, breaks_as}
use Rattle.plan_write.proofs.Lines.{first_lines, next_lines, last_lines}
use Rattle.plan_write.proofs.gates.write_moves.Goals as goal

pub loop-mv-init : goal.loop-mv-init
loop-mv-init g c = record {
  same = refl;
  made = c.requires.made;
  going = c.requires.going;
  goes_on = first_move c.args.flat.now _ c.args.moves.now _ _ c.requires.begins refl c.requires.plan c.requires.fits;
  place = first_place c.args.flat.now;
  tells = c.requires.places;
  part = record { done = []; joined = first_lines c.args.flat.now _ c.args.moves.now c.requires.begins; put = adds_none _ };
  counted = le_refl _;
}

pub emit_next-row-requires-clause-stands : goal.emit_next-row-requires-clause-stands
emit_next-row-requires-clause-stands g c =
    (next_move c.args.flat.now _ c.args.moves.now c.loop-mv.mv-index _ _ c.loop-mv-test.true c.loop-mv.invariant.goes_on).stands

pub emit_next-row-requires-clause-fits : goal.emit_next-row-requires-clause-fits
emit_next-row-requires-clause-fits g c =
    (next_move c.args.flat.now _ c.args.moves.now c.loop-mv.mv-index _ _ c.loop-mv-test.true c.loop-mv.invariant.goes_on).fits

pub returns-in_err-write_gates-clause-broken : goal.returns-in_err-write_gates-clause-broken
returns-in_err-write_gates-clause-broken g c =
    let inv = c.loop-mv.invariant in
    let part = rw (next_lines c.args.flat.now _ _ inv.place c.args.moves.now c.loop-mv.mv-index _ c.loop-mv-test.true c.emit_next-row.ensures.progress) at inv.part in
    let row = ap gate_lines (c.as_slice.ensures.gates ∙ c.emit_next-row.ensures.gates inv.place inv.tells) in
    on_err_from c.from_residual.result (put_broke _ _ _ _ _ _ part (breaks_as _ _ _ _ row c.in_err-write_gates.ensures.broken))

pub loop-mv-preserved : goal.loop-mv-preserved
loop-mv-preserved g c =
    let inv = c.loop-mv.invariant in
    let part = rw (next_lines c.args.flat.now _ _ inv.place c.args.moves.now c.loop-mv.mv-index _ c.loop-mv-test.true c.emit_next-row.ensures.progress) at inv.part in
    let row = ap gate_lines (c.as_slice.ensures.gates ∙ c.emit_next-row.ensures.gates inv.place inv.tells) in
    record {
      same = c.write_gates.ensures.same_sink ∙ inv.same;
      made = c.emit_next-row.ensures.made;
      going = c.emit_next-row.ensures.going;
      goes_on = move_made c.args.flat.now _ _ _ _ _ _ c.emit_next-row.ensures.progress c.emit_next-row.ensures.width
          (next_move c.args.flat.now _ c.args.moves.now c.loop-mv.mv-index _ _ c.loop-mv-test.true inv.goes_on);
      place = place_move c.args.flat.now (progress_of c.loop-mv.placer) inv.place _;
      tells = c.emit_next-row.ensures.places inv.place inv.tells;
      part = put_more _ _ _ _ _ _ part (adds_as _ _ _ _ row c.in_ok-write_gates.ensures.ok);
      counted = omega (arith, inv.counted, c.write_gates.ensures.count);
    }

pub returns-clause-ok : goal.returns-clause-ok
returns-clause-ok g c =
    let inv = c.loop-mv.invariant in
    let part = rw (last_lines c.args.flat.now (progress_of c.loop-mv.placer) inv.place c.args.moves.now c.loop-mv.mv-index c.loop-mv-test.false) at inv.part in
    adds_as _ _ _ _ (sym (append-nil part.done) ∙ part.joined) part.put
