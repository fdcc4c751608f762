-- What an accepted program means is run in one way, by which its table ends.
use Rattle.std.proofs.Common.{◌≡◌, ℕ, ◌⊎◌, inl, inr, Bool, List, Option, Some, None, Result, Ok, Err, IfSome, refl, ap, subst, sym, ◌∙◌}
use Rattle.check_fun.specs.Program.{Accepted}
use Rattle.silq_mean.specs.Table.{MeanFault, run_job}
use Rattle.silq_mean.specs.Term.{Term}
use Rattle.source_table.specs.declared.fault.RunFault.{RunFault}
use Rattle.source_table.specs.declared.fault.RunFault.TheVariants as runs
use Rattle.source_table.specs.Faults.{Gives, Refuses}
use Rattle.silq_compile.specs.Sources.{Source, Answers}
use Rattle.source_table.specs.Tables.{HasTable}
use Rattle.silqc.specs.Asked.{Asked, check, compile, mean}
use Rattle.silqc.specs.declared.status.Status.{Status}
use Rattle.silqc.specs.declared.status.Status.TheVariants.{Done, Words, ReadFault, Syntax, Names, Typing, Unsupported, Limit, Cycle, OverBudget, WriteFault, Memory, Bits, FalseForget}
use Rattle.silqc.specs.Answer.{PassesLimit}
use Rattle.silqc.specs.Command.{Command, ForSource, bytes_at, source_of}
use Rattle.silqc.specs.Ending.{Tells}
use Rattle.silqc.specs.Exact.{EndsByRun, EndsByTerms}
use Rattle.silqc.specs.Program.{first_file_fault}
use Rattle.silqc.specs.Status.{run_status}
use Rattle.silqc.proofs.Planned.{faulty, of_job, refused, the_job}

module _ (status : Status) where
  by_fault : (r : Result (List Term) MeanFault) → (status ≡ ReadFault) ⊎ (status ≡ Memory) → EndsByTerms status r
  by_fault (Ok terms) h = inr h
  by_fault (Err fault) h = inr h

  written : (terms : List Term) (r : Result (List Term) MeanFault) → r ≡ Ok terms → (status ≡ Done) ⊎ (status ≡ WriteFault) → EndsByTerms status r
  written terms r e h = subst (EndsByTerms status) (sym e) (inl h)

  stopped : (fault : RunFault) (r : Result (List Term) MeanFault) → status ≡ run_status fault → Gives fault r → EndsByTerms status r
  stopped fault r e h = subst (EndsByTerms status) (sym h.1) (inl (e ∙ ap {B = Status} run_status (sym h.2)))

module _ (s : Source) (fine : first_file_fault s.text ≡ None) (a : Accepted) (answers : Answers s (Ok a)) (old new : Option (List ℕ)) (input outcome : List Bool) where
  abbrev its_run : Result (List Term) MeanFault
  its_run = run_job (the_job s fine a answers) input outcome

  ends_by_terms : (status : Status) → Tells old new status (mean input outcome) s → EndsByTerms status its_run
  ends_by_terms Done told = let table = of_job s fine a answers (HasTable input outcome told.1.0) told.1.1 in written Done table.terms its_run table.ran (inl refl)
  ends_by_terms Words told = absurd told
  ends_by_terms ReadFault told = by_fault ReadFault its_run (inl refl)
  ends_by_terms (Syntax cause line col) told = faulty s fine a answers (record { cause = cause; line = line; col = col }) told
  ends_by_terms (Names n line col) told = refused s fine a answers _ told.1
  ends_by_terms (Typing n line col) told = refused s fine a answers _ told.1
  ends_by_terms (Unsupported what line col) told = refused s fine a answers _ told.1
  ends_by_terms (Limit which count) told = by told.1
    where
      by : PassesLimit which count (mean input outcome) s → EndsByTerms (Limit which count) its_run
      by (inl h) = refused s fine a answers _ h.0
      by (inr h) =
          stopped (Limit which count) (runs.Limit (record { which = which; count = count })) its_run refl
          (of_job s fine a answers (λ j. Refuses (runs.Limit (record { which = which; count = count })) (run_job j input outcome)) h)
  ends_by_terms (Cycle places) told = absurd told.1
  ends_by_terms (OverBudget least most) told = absurd told.1
  ends_by_terms WriteFault told = let table = of_job s fine a answers (HasTable input outcome told.1.0) told.1.1 in written WriteFault table.terms its_run table.ran (inr refl)
  ends_by_terms Memory told = by_fault Memory its_run (inr refl)
  ends_by_terms (Bits given wanted) told =
      stopped (Bits given wanted) (runs.Bits given wanted) its_run refl (of_job s fine a answers (λ j. Refuses (runs.Bits given wanted) (run_job j input outcome)) told.1)
  ends_by_terms (FalseForget line) told =
      stopped (FalseForget line) (runs.FalseForget line) its_run refl (of_job s fine a answers (λ j. Refuses (runs.FalseForget line) (run_job j input outcome)) told.1)

ends_by_run : (s : Source) (old new : Option (List ℕ)) (asked : Asked) (status : Status) → Tells old new status asked s → EndsByRun status asked s
ends_by_run s old new check status told = tt
ends_by_run s old new (compile output budget) status told = tt
ends_by_run s old new (mean input outcome) status told = λ fine a answers. ends_by_terms s fine a answers old new input outcome status told

pub for_run : (words : List (List ℕ)) (held : List ℕ → Option (List ℕ)) (old new : Option (List ℕ)) (status : Status)
    → ForSource words held (Tells old new status) → ForSource words held (EndsByRun status)
for_run words held old new status tells = λ c is. by c (bytes_at held c.origin) (tells c is)
  where
    by : (c : Command) (o : Option (List ℕ)) → IfSome o (λ bytes. Tells old new status c.asked (source_of c bytes)) → IfSome o (λ bytes. EndsByRun status c.asked (source_of c bytes))
    by c None t = tt
    by c (Some bytes) t = ends_by_run (source_of c bytes) old new c.asked status t
