use Rattle.std.proofs.Common.{◌≡◌, ℕ, cond, ◌&&◌, nat_lt, leb, true, false, sym, ◌∙◌, ap}
use Rattle.flat_mean.specs.Path.{count_inputs}
use Rattle.move_plan.specs.Progress.{Progress, at_start}
use Rattle.qubit_alloc.specs.Place.{first_place}
use Rattle.qubit_alloc.specs.State.{told, times_in}
use Rattle.qubit_alloc.proofs.Turning.{begin_tells, begin_seated}
use Rattle.qubit_alloc.proofs.placer.Placer.new.Goals as goal

pub returns-clause-made : goal.returns-clause-made
returns-clause-made c =
    let f = c.args.flat.now in
    let start : told c.in_ok-track.track ≡ at_start = c.in_ok-track.ensures.told in
    let free : (j : ℕ) → times_in c.in_ok-free.free.items j ≡ cond (leb (count_inputs f.wires) j && nat_lt j c.args.width) 1 0 = λ j. c.in_ok-free.ensures.items j ∙ ap (λ n. cond (leb n j && nat_lt j c.args.width) 1 0) c.place_inputs-used.ensures.count in
    record {
      wires_are = c.in_ok-track.ensures.rows.label_rows;
      steps_are = c.in_ok-track.ensures.rows.done_rows;
      place = first_place f;
      tells = begin_tells f (told c.in_ok-track.track) start c.place_inputs-used.new.qubits.items c.place_inputs-used.ensures.told;
      seated = begin_seated f (told c.in_ok-track.track) start c.args.width c.in_ok-free.free.items c.requires.inputs free;
      numbered = λ w wl on. let no : false ≡ true = sym (ap (λ (p : Progress). p.measured w) start) ∙ on in absurd (cc);
    }

pub returns-clause-progress : goal.returns-clause-progress
returns-clause-progress c = c.in_ok-track.ensures.told

pub returns-clause-places : goal.returns-clause-places
returns-clause-places c = begin_tells c.args.flat.now (told c.in_ok-track.track) c.in_ok-track.ensures.told c.place_inputs-used.new.qubits.items c.place_inputs-used.ensures.told
