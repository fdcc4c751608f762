-- The run of a body as an entry is that of its function's job.
use Rattle.std.proofs.Common.{◌≡◌, ℕ, ◌<◌, true, Bool, List, length, map, ℤ, ap₂, sym, subst}
use Rattle.amp_core.specs.declared.Amp.{Amp}
use Rattle.sum_laws.specs.Partial.{PartialSumsSmall}
use Rattle.sum_laws.specs.Table.{TableOf}
use Rattle.silq_types.specs.declared.types.Shape.{Shape}
use Rattle.check_scope.specs.Library.{Shelf, function_at}
use Rattle.silq_mean.specs.Meaning.{params_of}
use Rattle.silq_mean.specs.Effect.{Effect}
use Rattle.silq_mean.specs.Table.{Job, run_job, IsMeanTable}
use Rattle.tree_walk.specs.declared.body.Body.{Body}
use Rattle.tree_walk.specs.Seen.{job_at, instance_in}
use Rattle.tree_walk.proofs.Entries.{effect_told, shapes_told}
use Rattle.source_table.specs.declared.fault.RunFault.{RunFault}
use Rattle.source_table.specs.Faults.{Refuses}
use Rattle.source_table.specs.Runs.{job_in, Shows}
use Rattle.source_table.proofs.Ended.{sums_small, table_is}

abbrev whole : Effect → List Shape → Job
whole e ss = record { effect = e; shapes = ss }

module _ (l : Shelf) (n : ℕ) (statics : List ℤ) (there : n < length l.funs) (b : Body) (is : b ≡ instance_in l n statics true) (shapes : List Shape)
    (are : shapes ≡ map (λ p. p.2.shape) (params_of (function_at l n) b.statics)) (input outcome : List Bool) where
  same_job : job_in l b shapes ≡ job_at l n statics
  same_job =
      ap₂ (λ (e : Effect) (ss : List Shape). whole e ss) (effect_told l n statics there b is) (shapes_told l n statics there b is shapes are)

  pub refused_at : (f : RunFault) → Refuses f (run_job (job_in l b shapes) input outcome) → Refuses f (run_job (job_at l n statics) input outcome)
  refused_at f h = subst (λ j. Refuses f (run_job j input outcome)) same_job h

  module _ (rows : List (List Bool × Amp)) (shown : Shows rows (run_job (job_in l b shapes) input outcome)) where
    pub shown_at : Shows rows (run_job (job_at l n statics) input outcome)
    shown_at = subst (λ j. Shows rows (run_job j input outcome)) same_job shown

    pub rows_small : (v : List Bool) → PartialSumsSmall v rows
    rows_small v = let h = shown_at in subst (PartialSumsSmall v) (sym h.2) (sums_small (job_at l n statics) input outcome h.0 h.1 v)

    pub table_at : (table : List (List Bool × Amp)) → TableOf rows table → IsMeanTable (job_at l n statics) input outcome table
    table_at table of = let h = shown_at in table_is (job_at l n statics) input outcome h.0 h.1 table (subst (λ ts. TableOf ts table) h.2 of)
