use Rattle.std.proofs.Common.{◌≡◌, ◌↔◌, false, get_or, IsTrue, sym, ◌∙◌, subst, arith}
use Rattle.std.proofs.lemmas.List.{get_or_read}
use Rattle.std.proofs.lemmas.Bool.{both_ways, not-true}
use Rattle.move_plan.specs.declared.moves.Move.{Move}
use Rattle.move_plan.specs.Progress.{Stands}
use Rattle.move_plan.specs.Track.{told}
use Rattle.move_plan.proofs.Tracks.{up_told, down_told, do_told}
use Rattle.move_plan.proofs.track.Track.stands.Goals as goal
use Rattle.move_plan.proofs.track.Track.stands.Goals.{then-lasts, else-lasts}

pub returns-then-is_undone : goal.returns-then-is_undone
returns-then-is_undone c =
    subst (λ (m : Move). IsTrue c.named_stand.result ↔ Stands c.args.flat.now (told c.args.self.now) m) (sym c.in-Up.is)
    (up_told c.args.flat.now (told c.args.self.now) c.in-Up.s c.named_stand.result (sym c.is_undone.ensures.value ∙ c.if-is_undone.true) (c.is_undone.ensures.there c.if-is_undone.true) c.named_stand.ensures)

pub returns-then-is_undone-2 : goal.returns-then-is_undone-2
returns-then-is_undone-2 c =
    subst (λ (m : Move). IsTrue c.named_stand-then-is_undone-2.result ↔ Stands c.args.flat.now (told c.args.self.now) m) (sym c.in-Down.is)
    (down_told c.args.flat.now (told c.args.self.now) c.in-Down.s c.named_stand-then-is_undone-2.result (sym c.is_undone-in-Down.ensures.value ∙ c.if-is_undone-2.true) (c.is_undone-in-Down.ensures.there c.if-is_undone-2.true) c.named_stand-then-is_undone-2.ensures)

pub returns-then-not-index : goal.returns-then-not-index
returns-then-not-index c =
    elim c.if-lasts.branch [
      | then-lasts w ↦
          let h = c.lasts.ensures.0 w.if-lasts.true in
          let rows = c.requires.rows.done_rows in
          let there = h.0 in
          let off : w.index.result.now ≡ false = not-true w.index.result.now (sym w.value-is ∙ c.if-not-index.true) in
          let fresh : get_or c.args.self.now.done.items c.in-Do.s.number false ≡ false = sym (get_or_read c.args.self.now.done.items c.in-Do.s.number w.index.result.now (omega arith) w.index.ensures false) ∙ off in
          subst (λ (m : Move). IsTrue c.named_stand-then-not-index.result ↔ Stands c.args.flat.now (told c.args.self.now) m) (sym c.in-Do.is)
          (do_told c.args.flat.now (told c.args.self.now) c.in-Do.s c.named_stand-then-not-index.result h.1 fresh h.0 c.named_stand-then-not-index.ensures)
      | else-lasts w ↦ absurd (both_ways c.if-lasts.value (w.value-is ∙ w.if-lasts.false) c.if-not-index.true)
    ]
