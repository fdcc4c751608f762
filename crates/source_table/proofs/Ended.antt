-- The table of the terms of a run.
use Rattle.std.proofs.Common.{◌≡◌, ◌+◌, ◌≤◌, Bool, List, [], ◌∷◌, length, map, Result, Ok, Err, ap, arith}
use Rattle.std.proofs.lemmas.List.{length-map}
use Rattle.amp_core.specs.declared.Amp.{Amp}
use Rattle.sum_laws.specs.Partial.{PartialSumsSmall}
use Rattle.sum_laws.specs.Table.{TableOf}
use Rattle.sum_laws.proofs.Bounds.{units_have_small_sums}
use Rattle.sum_laws.proofs.Rearranged.{Rearranged-map}
use Rattle.sum_laws.proofs.Counts.{SameTerms-rearranged}
use Rattle.sum_laws.proofs.TableTerms.{TableOf-same}
use Rattle.silq_mean.specs.Term.{Term}
use Rattle.silq_mean.specs.Effect.{Counts, counts, RunFault as Stop, run, outcomes, most_terms}
use Rattle.silq_mean.specs.Table.{Job, MeanFault, TooMany, Stopped, as_mean_fault, start, outcome_of, wanted, total_size, after_counts, after_input}
use Rattle.silq_mean.specs.Table.{run_job, meaning, shown, IsMeanTable}
use Rattle.silq_mean.proofs.Readings.{and_then_ok, ok_inj, run_gives_the_meaning}
use Rattle.source_table.specs.Runs.{no_counts}
use Rattle.source_table.proofs.Bounded.{few_terms, few_halvings, few_splits, units_shown, each_more}

told_ok : {A E : Type 0} (fault : E → MeanFault) (r : Result A E) (a : A) → as_mean_fault fault r ≡ Ok a → r ≡ Ok a
told_ok fault (Ok b) a h = ap Ok (ok_inj b a h)
told_ok fault (Err e) a h = absurd (grind (arith, h))

module _ (j : Job) (input outcome : List Bool) where
  abbrev pub whole : Result (List Term) MeanFault
  whole = run_job j input outcome

  abbrev pub all_terms : Result (List Term) Stop
  all_terms = run (outcome_of outcome) 0 j.effect (start j input ∷ [])

  module _ (ts : List Term) (ran : whole ≡ Ok ts) where
    record Parts : Type 0 where
      ends : Counts
      counted : counts j.effect no_counts ≡ Ok ends
      all : all_terms ≡ Ok ts

    parts : Parts
    parts =
        let m : (c : Counts) × (as_mean_fault TooMany (counts j.effect no_counts) ≡ Ok c) × (after_counts j input outcome ≡ Ok ts) =
        and_then_ok (as_mean_fault TooMany (counts j.effect no_counts)) (λ c. after_counts j input outcome) ts ran in
        let n : (u : Unit {0}) × (wanted (length input) (total_size j.shapes) ≡ Ok u) × (after_input j input outcome ≡ Ok ts) =
        and_then_ok (wanted (length input) (total_size j.shapes)) (λ u. after_input j input outcome) ts m.2 in
        let k : (u : Unit {0}) × (wanted (length outcome) (outcomes j.effect (start j input)) ≡ Ok u) × (as_mean_fault Stopped all_terms ≡ Ok ts) =
        and_then_ok (wanted (length outcome) (outcomes j.effect (start j input))) (λ u. as_mean_fault Stopped all_terms) ts n.2 in
        record { ends = m.0; counted = told_ok TooMany (counts j.effect no_counts) m.0 m.1; all = told_ok Stopped all_terms ts k.2 }

    -- the merged rows are those of the meaning
    pub table_is : (rows : List (List Bool × Amp)) → TableOf (map shown ts) rows → IsMeanTable j input outcome rows
    table_is rows h =
        TableOf-same (map shown ts) (meaning j input (outcome_of outcome)) rows
        (SameTerms-rearranged (Rearranged-map shown (run_gives_the_meaning j input outcome ts ran).0)) h

    -- at most 2^20 terms of at most 50 halvings each
    pub sums_small : (v : List Bool) → PartialSumsSmall v (map shown ts)
    sums_small v =
        let p = parts in
        let many : 0 + length ts ≤ most_terms = few_terms (outcome_of outcome) j.effect 0 (start j input ∷ []) ts p.all (omega arith) in
        let long = length-map ts shown in
        units_have_small_sums v (map shown ts)
        (units_shown ts (each_more p.ends.splits 50 (few_splits j.effect no_counts p.ends p.counted (omega arith)) ts
        (few_halvings (outcome_of outcome) j.effect 0 (start j input ∷ []) ts no_counts p.ends p.all p.counted (omega arith, tt))))
        (omega (arith, many, long))
