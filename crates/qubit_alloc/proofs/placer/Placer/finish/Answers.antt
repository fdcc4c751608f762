use Rattle.std.proofs.Common.{◌≡◌, ℕ, ◌<◌, Option, None, IfSome, List, length, get_or, sym, ◌∙◌, ap, subst, arith, add-one}
use Rattle.flat_core.specs.declared.step.WireId.{WireId}
use Rattle.move_plan.specs.Progress.{Progress}
use Rattle.move_plan.specs.Live.{live}
use Rattle.qubit_alloc.specs.Place.{on_below, place_outputs, at_end}
use Rattle.qubit_alloc.specs.State.{PlacerState, progress_of, state_of, told, times_in, TellsOf, IsSeated, SeatsIfAny}
use Rattle.qubit_alloc.proofs.Moving.{rows_told}
use Rattle.qubit_alloc.proofs.Turning.{tells_open, seated_open}
use Rattle.qubit_alloc.proofs.Finishing.{output_at, some_output, seated_output, below_first, tells_same, on_same, ended_tells, ended_seated}
use Rattle.qubit_alloc.proofs.placer.Placer.finish.Goals as goal

pub loop-n-init : goal.loop-n-init
loop-n-init c =
    let f = c.args.flat.now in
    let i = c.self.inside in
    let v = state_of i.track i.qubits.items i.numbers.items i.free i.width i.finished in
    let w = c.args.self.now in
    let same : told i.track ≡ progress_of w = ap (λ (x : PlacerState). progress_of x) c.self.view_is in
    let wide : i.width ≡ w.width = ap (λ (x : PlacerState). x.width) c.self.view_is in
    record {
      even = c.self.invariant;
      wires = ap (λ (x : PlacerState). length x.labels) c.self.view_is ∙ c.requires.made.wires_are;
      steps = ap (λ (x : PlacerState). length x.done) c.self.view_is ∙ c.requires.made.steps_are;
      progress = same;
      numbers = ap (λ (x : PlacerState). x.numbers) c.self.view_is;
      width = wide;
      tells = λ place h.
          subst (λ (q : Progress). TellsOf f (on_below f q 0) place (rows_told i.qubits.items)) same
          (tells_same f (live f (told i.track)) (on_below f (told i.track) 0) place (rows_told i.qubits.items) (λ x xl. below_first f (told i.track) x) (tells_open f v w c.self.view_is c.requires.going place h));
      seated = λ place h.
          subst (λ (q : Progress). IsSeated f (on_below f q 0) w.width place (times_in i.free.items)) same
          (subst (λ n. IsSeated f (on_below f (told i.track) 0) n place (times_in i.free.items)) wide
          (on_same f (live f (told i.track)) (on_below f (told i.track) 0) i.width place (times_in i.free.items) (λ x xl. below_first f (told i.track) x) (seated_open f v w c.self.view_is c.requires.going c.requires.made place h)));
    }

pub seat-requires-clause-some : goal.seat-requires-clause-some
seat-requires-clause-some c =
    let f = c.args.flat.now in
    let inv = c.loop-n.invariant in
    let made = c.requires.made in
    let within : c.loop-n.n < length f.wires = subst (λ k. c.loop-n.n < k) c.wires-n-end.ensures c.loop-n-test.true in
    let long : length c.loop-n.self-inside.qubits.items ≡ length f.wires = inv.even.qubit_rows ∙ inv.wires in
    subst (λ (o : Option WireId). IfSome o (λ v. rows_told c.loop-n.self-inside.qubits.items v ≡ None → 0 < length c.loop-n.self-inside.free.items)) (sym c.if_output-output.ensures)
    (some_output f (progress_of c.args.self.now) c.args.self.now.width c.requires.fits c.loop-n.n within (place_outputs f (progress_of c.args.self.now) made.place c.loop-n.n) c.loop-n.self-inside.qubits.items c.loop-n.self-inside.free.items long (inv.tells made.place made.tells) (inv.seated made.place made.tells))

pub loop-n-preserved : goal.loop-n-preserved
loop-n-preserved c =
    let f = c.args.flat.now in
    let p = progress_of c.args.self.now in
    let inv = c.loop-n.invariant in
    let n = c.loop-n.n in
    let within : n < length f.wires = subst (λ k. n < k) c.wires-n-end.ensures c.loop-n-test.true in
    let long : length c.loop-n.self-inside.qubits.items ≡ length f.wires = inv.even.qubit_rows ∙ inv.wires in
    let seats : SeatsIfAny (output_at f n) c.loop-n.self-inside.qubits.items c.loop-n.self-inside.free.items c.seat.new.qubits.items c.seat.new.free.items =
    subst (λ (o : Option WireId). SeatsIfAny o c.loop-n.self-inside.qubits.items c.loop-n.self-inside.free.items c.seat.new.qubits.items c.seat.new.free.items) c.if_output-output.ensures c.seat.ensures.seats in
    let room = inv.even.room in
    let more = c.seat.ensures.room in
    record {
      even = record {
        measured_rows = inv.even.measured_rows;
        gone_rows = inv.even.gone_rows;
        qubit_rows = c.seat.ensures.rows ∙ inv.even.qubit_rows;
        number_rows = inv.even.number_rows;
        room = omega (arith, room, more);
      };
      wires = inv.wires;
      steps = inv.steps;
      progress = inv.progress;
      numbers = inv.numbers;
      width = inv.width;
      tells = λ place h.
          subst (λ k. TellsOf f (on_below f p k) (place_outputs f p place k) (rows_told c.seat.new.qubits.items)) (sym (add-one n))
          (seated_output f p c.args.self.now.width c.requires.fits n within (place_outputs f p place n) c.loop-n.self-inside.qubits.items c.loop-n.self-inside.free.items long (inv.tells place h) (inv.seated place h) c.seat.new.qubits.items c.seat.new.free.items seats).0;
      seated = λ place h.
          subst (λ k. IsSeated f (on_below f p k) c.args.self.now.width (place_outputs f p place k) (times_in c.seat.new.free.items)) (sym (add-one n))
          (seated_output f p c.args.self.now.width c.requires.fits n within (place_outputs f p place n) c.loop-n.self-inside.qubits.items c.loop-n.self-inside.free.items long (inv.tells place h) (inv.seated place h) c.seat.new.qubits.items c.seat.new.free.items seats).1;
    }

pub returns-clause-made : goal.returns-clause-made
returns-clause-made c =
    let f = c.args.flat.now in
    let p = progress_of c.args.self.now in
    let inv = c.loop-n.invariant in
    let made = c.requires.made in
    let i = c.loop-n.self-inside in
    let over = c.loop-n-test.false in
    let within = c.loop-n.auto.n-end in
    let count = c.wires-n-end.ensures in
    let all : c.loop-n.n ≡ length f.wires = omega (arith, over, within, count) in
    record {
      wires_are = inv.wires;
      steps_are = inv.steps;
      place = at_end f p made.place;
      tells = ended_tells f p (told i.track) c.loop-n.n all inv.progress made.place (rows_told i.qubits.items) (inv.tells made.place made.tells);
      seated = ended_seated f p (told i.track) c.loop-n.n all inv.progress made.place c.args.self.now.width i.width (times_in i.free.items) inv.width (inv.seated made.place made.tells);
      numbered = λ w wl m. ap (λ (xs : List ℕ). get_or xs w.number 0) inv.numbers ∙ made.numbered w wl (sym (ap (λ (r : Progress). r.measured w) inv.progress) ∙ m);
    }

pub returns-clause-places : goal.returns-clause-places
returns-clause-places c = λ place h.
    let f = c.args.flat.now in
    let p = progress_of c.args.self.now in
    let inv = c.loop-n.invariant in
    let i = c.loop-n.self-inside in
    let over = c.loop-n-test.false in
    let within = c.loop-n.auto.n-end in
    let count = c.wires-n-end.ensures in
    let all : c.loop-n.n ≡ length f.wires = omega (arith, over, within, count) in
    ended_tells f p (told i.track) c.loop-n.n all inv.progress place (rows_told i.qubits.items) (inv.tells place h)
