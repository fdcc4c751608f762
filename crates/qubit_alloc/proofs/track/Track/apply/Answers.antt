use Rattle.std.specs.Vec.{with_item}
use Rattle.std.proofs.Common.{true, length, sym, ◌∙◌, ap, subst, refl, arith}
use Rattle.flat_core.specs.declared.step.Step.{Step}
use Rattle.move_plan.specs.declared.moves.Move.{Move}
use Rattle.move_plan.specs.declared.moves.Move.TheVariants.{Up, Do, Free}
use Rattle.move_plan.specs.Progress.{Stands, moved}
use Rattle.move_plan.specs.Track.{raised, with_measure}
use Rattle.qubit_alloc.specs.State.{told}
use Rattle.qubit_alloc.specs.declared.track.Track.{Track}
use Rattle.move_plan.specs.declared.track.Track.{Track as Followed}
use Rattle.move_plan.proofs.Counts.{freed_there}
use Rattle.move_plan.proofs.Tracks.{told_up, told_do, told_free, changed_there, used_there}
use Rattle.qubit_alloc.proofs.track.Track.apply.Goals as goal

abbrev as_followed : Track → Followed
as_followed t = record { labels = t.labels; done = t.done; measured = t.measured; gone = t.gone }

pub returns-in-Up-clause-told : goal.returns-in-Up-clause-told
returns-in-Up-clause-told c =
    let st : Stands c.args.flat.now (told c.args.self.now) (Up c.in-Up.s) = subst (Stands c.args.flat.now (told c.args.self.now)) c.in-Up.is c.requires.stands in
    told_up c.args.flat.now (as_followed c.args.self.now) (record { labels = c.raise.new.labels; done = c.args.self.now.done; measured = c.args.self.now.measured; gone = c.args.self.now.gone }) c.in-Up.s (changed_there c.args.flat.now c.requires.sound (length c.args.self.now.labels.items) c.in-Up.s st.1.step c.requires.rows.label_rows)
    (c.raise.ensures ∙ ap (λ (x : Step). raised c.args.self.now.labels.items x) c.step.ensures) refl refl refl
    ∙ ap (λ (m : Move). moved c.args.flat.now (told c.args.self.now) m) (sym c.in-Up.is)

pub returns-in-Do-clause-told : goal.returns-in-Do-clause-told
returns-in-Do-clause-told c =
    let st : Stands c.args.flat.now (told c.args.self.now) (Do c.in-Do.s) = subst (Stands c.args.flat.now (told c.args.self.now)) c.in-Do.is c.requires.stands in
    let rows = c.requires.rows.done_rows in
    let there = st.2.step in
    told_do c.args.flat.now (as_followed c.args.self.now) (record { labels = c.raise-in-Do.new.labels; done = with_item c.args.self.now.done c.in-Do.s.number true; measured = c.measure.new.flags; gone = c.args.self.now.gone }) c.in-Do.s (changed_there c.args.flat.now c.requires.sound (length c.args.self.now.labels.items) c.in-Do.s st.2.step c.requires.rows.label_rows) (omega arith) (used_there c.args.flat.now c.requires.sound (length c.args.self.now.measured.items) c.in-Do.s st.2.step c.requires.rows.measured_rows)
    (c.raise-in-Do.ensures ∙ ap (λ (x : Step). raised c.args.self.now.labels.items x) c.step-step.ensures)
    refl
    (c.measure.ensures ∙ ap (λ (x : Step). with_measure c.args.self.now.measured.items x) c.step-step.ensures)
    refl
    ∙ ap (λ (m : Move). moved c.args.flat.now (told c.args.self.now) m) (sym c.in-Do.is)

pub returns-in-Free-clause-told : goal.returns-in-Free-clause-told
returns-in-Free-clause-told c =
    let st : Stands c.args.flat.now (told c.args.self.now) (Free c.in-Free.w) = subst (Stands c.args.flat.now (told c.args.self.now)) c.in-Free.is c.requires.stands in
    let rows = c.requires.rows.gone_rows in
    let there = freed_there c.args.flat.now c.in-Free.w st.ending in
    told_free c.args.flat.now (as_followed c.args.self.now) (record { labels = c.args.self.now.labels; done = c.args.self.now.done; measured = c.args.self.now.measured; gone = with_item c.args.self.now.gone c.in-Free.w.number true }) c.in-Free.w (omega arith) refl refl refl refl
    ∙ ap (λ (m : Move). moved c.args.flat.now (told c.args.self.now) m) (sym c.in-Free.is)
