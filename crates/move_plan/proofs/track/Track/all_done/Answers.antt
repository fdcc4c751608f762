use Rattle.std.proofs.Common.{◌≡◌, false, get_or, refl, sym, ◌∙◌, arith}
use Rattle.std.proofs.lemmas.Bool.{both_ways}
use Rattle.std.proofs.lemmas.List.{get_or_read}
use Rattle.flat_core.specs.Label.{step_id}
use Rattle.move_plan.proofs.track.Track.all_done.Goals as goal

pub returns-then-lasts : goal.returns-then-lasts
returns-then-lasts c = (
  (λ f. absurd (both_ways false refl f)),
  (λ all.
      let h = c.lasts.ensures.0 c.if-lasts.true in
      let rows = c.requires.rows.done_rows in
      let read : c.index.result.now ≡ get_or c.args.self.now.done.items c.loop-n.n false = get_or_read c.args.self.now.done.items c.loop-n.n c.index.result.now (omega arith) c.index.ensures false in
      sym c.if-not-index.true ∙ read ∙ all (step_id c.loop-n.n) h.0 h.1),
)
