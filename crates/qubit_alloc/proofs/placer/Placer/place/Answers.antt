use Rattle.std.proofs.Common.{ℕ, Bool, cond, Option, List, length, sym, ◌∙◌, ap, ap₂, subst, arith}
use Rattle.flat_core.specs.declared.step.WireId.{WireId}
use Rattle.flat_core.specs.declared.step.Step.{Step}
use Rattle.move_plan.specs.Progress.{Progress, moved}
use Rattle.move_plan.specs.Live.{live, live_at_end}
use Rattle.qubit_alloc.specs.Place.{place_move}
use Rattle.qubit_alloc.specs.PlacedMoves.{placed_of}
use Rattle.qubit_alloc.specs.State.{PlacerState, progress_of, told, times_in, TellsOf, IsSeated, noted, placed_row}
use Rattle.qubit_alloc.proofs.Moving.{rows_told, some_for, seated_during, room_left, touched_in_range, left_in_range}
use Rattle.qubit_alloc.proofs.Turning.{opened, here_is, left_is, turned, numbered_after, placed_is, closed}
use Rattle.qubit_alloc.proofs.placer.Placer.place.Goals as goal

pub apply-requires-clause-stands : goal.apply-requires-clause-stands
apply-requires-clause-stands c =
    let i = c.self.inside in
    let o = opened c.args.flat.now c.args.mv i.track i.qubits.items i.numbers.items i.free i.width i.finished c.args.self.now c.self.view_is c.self.invariant c.requires.going c.requires.made c.requires.stands c.requires.fits in
    o.stands

pub seat-requires-clause-some : goal.seat-requires-clause-some
seat-requires-clause-some c =
    let i = c.self.inside in
    let f = c.args.flat.now in
    let o = opened f c.args.mv i.track i.qubits.items i.numbers.items i.free i.width i.finished c.args.self.now c.self.view_is c.self.invariant c.requires.going c.requires.made c.requires.stands c.requires.fits in
    let h = here_is f (told i.track) (told c.apply.new.self) c.args.mv c.touched_wire-touched.result c.if_live-live.result c.apply.ensures.told c.touched_wire-touched.ensures c.if_live-live.ensures in
    some_for f c.steps-steps.ensures.sound (told i.track) c.args.mv o.stands o.place i.width i.qubits.items i.free.items o.long (o.tells o.place o.of) (o.seated o.place o.of) o.fits c.if_live-live.result h

pub placed_row-placed-requires-clause-touches : goal.placed_row-placed-requires-clause-touches
placed_row-placed-requires-clause-touches c =
    let i = c.self.inside in
    let o = opened c.args.flat.now c.args.mv i.track i.qubits.items i.numbers.items i.free i.width i.finished c.args.self.now c.self.view_is c.self.invariant c.requires.going c.requires.made c.requires.stands c.requires.fits in
    touched_in_range c.args.flat.now c.steps-steps.ensures.sound (told i.track) c.args.mv o.stands

pub leave-requires-clause-there : goal.leave-requires-clause-there
leave-requires-clause-there c =
    let i = c.self.inside in
    let f = c.args.flat.now in
    let o = opened f c.args.mv i.track i.qubits.items i.numbers.items i.free i.width i.finished c.args.self.now c.self.view_is c.self.invariant c.requires.going c.requires.made c.requires.stands c.requires.fits in
    let h = here_is f (told i.track) (told c.apply.new.self) c.args.mv c.touched_wire-touched.result c.if_live-live.result c.apply.ensures.told c.touched_wire-touched.ensures c.if_live-live.ensures in
    let l = left_is f (told i.track) c.args.mv c.touched_wire-touched.result c.if_live-live.result c.unless.result c.touched_wire-touched.ensures h c.unless.ensures in
    left_in_range f c.steps-steps.ensures.sound (told i.track) c.args.mv o.stands c.unless.result (length c.seat.new.qubits.items) (sym (c.seat.ensures.rows ∙ o.long)) l

pub leave-requires-clause-room : goal.leave-requires-clause-room
leave-requires-clause-room c =
    let i = c.self.inside in
    let f = c.args.flat.now in
    let p = told i.track in
    let o = opened f c.args.mv i.track i.qubits.items i.numbers.items i.free i.width i.finished c.args.self.now c.self.view_is c.self.invariant c.requires.going c.requires.made c.requires.stands c.requires.fits in
    let h = here_is f p (told c.apply.new.self) c.args.mv c.touched_wire-touched.result c.if_live-live.result c.apply.ensures.told c.touched_wire-touched.ensures c.if_live-live.ensures in
    let l = left_is f p c.args.mv c.touched_wire-touched.result c.if_live-live.result c.unless.result c.touched_wire-touched.ensures h c.unless.ensures in
    let d = seated_during f c.steps-steps.ensures.sound p c.args.mv o.stands o.place i.width i.qubits.items i.free.items o.long (o.tells o.place o.of) (o.seated o.place o.of) o.fits c.seat.new.qubits.items c.seat.new.free.items c.if_live-live.result h c.seat.ensures.seats in
    let room = c.self.invariant.room in
    let same = c.seat.ensures.room in
    room_left f c.steps-steps.ensures.sound p c.args.mv o.stands o.place i.width c.seat.new.qubits.items c.seat.new.free.items (c.seat.ensures.rows ∙ o.long) (place_move f p o.place c.args.mv) d.0 d.1 c.unless.result c.seat.new.free.room (omega (arith, room, same)) l

pub returns-clause-made : goal.returns-clause-made
returns-clause-made c =
    let i = c.self.inside in
    let f = c.args.flat.now in
    let ok = c.steps-steps.ensures.sound in
    let p = told i.track in
    let q = told c.apply.new.self in
    let o = opened f c.args.mv i.track i.qubits.items i.numbers.items i.free i.width i.finished c.args.self.now c.self.view_is c.self.invariant c.requires.going c.requires.made c.requires.stands c.requires.fits in
    let h = here_is f p q c.args.mv c.touched_wire-touched.result c.if_live-live.result c.apply.ensures.told c.touched_wire-touched.ensures c.if_live-live.ensures in
    let l = left_is f p c.args.mv c.touched_wire-touched.result c.if_live-live.result c.unless.result c.touched_wire-touched.ensures h c.unless.ensures in
    let t = turned f ok p c.args.mv o.stands o.place i.width i.qubits.items c.seat.new.qubits.items c.leave.new.qubits.items i.free.items c.seat.new.free.items c.leave.new.free.items c.if_live-live.result c.unless.result o.long (c.seat.ensures.rows ∙ o.long) (o.tells o.place o.of) (o.seated o.place o.of) o.fits h l c.seat.ensures.seats c.leave.ensures.gives in
    let on = closed f (moved f p c.args.mv) q i.finished c.apply.ensures.told (ap (λ (v : PlacerState). v.finished) c.self.view_is ∙ c.requires.going) in
    let numbers = c.note.ensures ∙ ap (λ (s : Option Step). noted i.numbers.items s) c.step_of.ensures in
    record {
      wires_are = c.apply.ensures.rows.label_rows;
      steps_are = c.apply.ensures.rows.done_rows;
      place = place_move f p o.place c.args.mv;
      tells = subst (λ (x : WireId → Bool). TellsOf f x (place_move f p o.place c.args.mv) (rows_told c.leave.new.qubits.items)) (sym on) t.0;
      seated = subst (λ (x : WireId → Bool). IsSeated f x i.width (place_move f p o.place c.args.mv) (times_in c.leave.new.free.items)) (sym on) t.1;
      numbered = λ w wl m. numbered_after f ok p i.numbers.items c.note.new.numbers.items c.args.mv o.stands o.many numbers o.numbered w wl (sym (ap (λ (r : Progress). r.measured w) c.apply.ensures.told) ∙ m);
    }

pub returns-clause-progress : goal.returns-clause-progress
returns-clause-progress c = c.apply.ensures.told ∙ ap (λ (v : PlacerState). moved c.args.flat.now (progress_of v) c.args.mv) c.self.view_is

pub returns-clause-places : goal.returns-clause-places
returns-clause-places c = λ place k.
    let i = c.self.inside in
    let f = c.args.flat.now in
    let ok = c.steps-steps.ensures.sound in
    let p = told i.track in
    let q = told c.apply.new.self in
    let o = opened f c.args.mv i.track i.qubits.items i.numbers.items i.free i.width i.finished c.args.self.now c.self.view_is c.self.invariant c.requires.going c.requires.made c.requires.stands c.requires.fits in
    let h = here_is f p q c.args.mv c.touched_wire-touched.result c.if_live-live.result c.apply.ensures.told c.touched_wire-touched.ensures c.if_live-live.ensures in
    let l = left_is f p c.args.mv c.touched_wire-touched.result c.if_live-live.result c.unless.result c.touched_wire-touched.ensures h c.unless.ensures in
    let t = turned f ok p c.args.mv o.stands place i.width i.qubits.items c.seat.new.qubits.items c.leave.new.qubits.items i.free.items c.seat.new.free.items c.leave.new.free.items c.if_live-live.result c.unless.result o.long (c.seat.ensures.rows ∙ o.long) (o.tells place k) (o.seated place k) o.fits h l c.seat.ensures.seats c.leave.ensures.gives in
    let on = closed f (moved f p c.args.mv) q i.finished c.apply.ensures.told (ap (λ (v : PlacerState). v.finished) c.self.view_is ∙ c.requires.going) in
    subst (λ (r : Progress). TellsOf f (cond i.finished (live_at_end f q) (live f q)) (place_move f r place c.args.mv) (rows_told c.leave.new.qubits.items)) o.same
    (subst (λ (x : WireId → Bool). TellsOf f x (place_move f p place c.args.mv) (rows_told c.leave.new.qubits.items)) (sym on) t.0)

pub returns-clause-told : goal.returns-clause-told
returns-clause-told c = λ place h.
    let i = c.self.inside in
    let f = c.args.flat.now in
    let ok = c.steps-steps.ensures.sound in
    let p = told i.track in
    let o = opened f c.args.mv i.track i.qubits.items i.numbers.items i.free i.width i.finished c.args.self.now c.self.view_is c.self.invariant c.requires.going c.requires.made c.requires.stands c.requires.fits in
    let e = here_is f p (told c.apply.new.self) c.args.mv c.touched_wire-touched.result c.if_live-live.result c.apply.ensures.told c.touched_wire-touched.ensures c.if_live-live.ensures in
    let d = seated_during f ok p c.args.mv o.stands place i.width i.qubits.items i.free.items o.long (o.tells place h) (o.seated place h) o.fits c.seat.new.qubits.items c.seat.new.free.items c.if_live-live.result e c.seat.ensures.seats in
    let numbers = c.note.ensures ∙ ap (λ (s : Option Step). noted i.numbers.items s) c.step_of.ensures in
    c.placed_row-placed.ensures
    ∙ ap₂ (λ (qs : List (Option ℕ)) (ns : List ℕ). placed_row f c.args.mv qs ns) c.deref.ensures.value c.deref-2.ensures.value
    ∙ placed_is f ok p place c.args.mv c.seat.new.qubits.items i.numbers.items c.note.new.numbers.items o.stands d.0 numbers o.numbered
    ∙ ap (λ (r : Progress). placed_of f r place c.args.mv) o.same
