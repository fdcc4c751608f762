-- What an accepted program means has one flat form, by which its compilation ends.
use Rattle.std.proofs.Common.{◌≡◌, ℕ, ◌⊎◌, inl, inr, List, Option, Some, None, Result, Ok, Err, IfSome, refl, ap, subst, sym, ◌∙◌}
use Rattle.silq_io.specs.declared.limit.OverLimit.{OverLimit}
use Rattle.silq_grammar.proofs.Accepted.{one_tree}
use Rattle.silq_types.specs.Rules.{Fault}
use Rattle.check_fun.specs.Program.{Accepted}
use Rattle.silq_mean.specs.Table.{Job}
use Rattle.flat_form.specs.Flat.{flattened}
use Rattle.flat_compile.specs.declared.cycle.CyclePlace.{CyclePlace}
use Rattle.flat_compile.specs.Ends as plans
use Rattle.silq_compile.specs.Headline.{IsRight}
use Rattle.silq_compile.specs.Sources.{Source, Answers, OfAccepted, job_in}
use Rattle.flat_compile.specs.declared.output.Output.{Output}
use Rattle.flat_compile.specs.declared.output.Output.TheVariants.{Text, Report}
use Rattle.silqc.specs.Asked.{Asked, check, compile, mean}
use Rattle.silqc.specs.declared.status.Status.{Status}
use Rattle.silqc.specs.declared.status.Status.TheVariants.{Done, Words, ReadFault, Syntax, Names, Typing, Unsupported, Limit, Cycle, OverBudget, WriteFault, Memory, Bits, FalseForget}
use Rattle.silqc.specs.Answer.{PassesLimit}
use Rattle.silqc.specs.Command.{Command, ForSource, bytes_at, source_of}
use Rattle.silqc.specs.Ending.{Tells}
use Rattle.silqc.specs.Exact.{EndsByJob, EndsByPlan}
use Rattle.silqc.specs.Program.{FileFault, first_file_fault}
use Rattle.silqc.proofs.Exactly.{one_answer}

no_other : {A : Type 0} (passed : OverLimit) (o : Option OverLimit) → o ≡ Some passed → o ≡ None → A
no_other passed o a b = absurd (let no : Some passed ≡ None = sym a ∙ b in cc)

same_limit : (one other : OverLimit) (o : Option OverLimit) → o ≡ Some one → o ≡ Some other → one ≡ other
same_limit one other o a b = let both : Some one ≡ Some other = sym a ∙ b in cc

module _ (status : Status) (budget : ℕ) (j : Job) where
  by_fault : (status ≡ ReadFault) ⊎ (status ≡ Memory) → EndsByJob status budget j
  by_fault h = record {
    limit = λ passed e. inr h;
    cycle = λ e vertices is. inr h;
    over_budget = λ e acyclic none. inr h;
    fits = λ e acyclic level moves first. inr h;
  }

  written : (output : Output) (text : List ℕ) → (status ≡ Done) ⊎ (status ≡ WriteFault) → plans.OfFlat (plans.IsTextOf output budget text) j → EndsByJob status budget j
  written output text h c = record {
    limit = λ passed e. no_other passed (flattened j).over e c.0;
    cycle = λ e vertices is. absurd (c.1.acyclic vertices is);
    over_budget = λ e acyclic none. absurd (none c.1.level c.1.moves c.1.first.level c.1.first.fits);
    fits = λ e acyclic level moves first. inl h;
  }

  at_limit : (passed : OverLimit) → status ≡ Limit passed.which passed.count → (flattened j).over ≡ Some passed → EndsByJob status budget j
  at_limit passed s o = record {
    limit = λ other e. inl (s ∙ ap {B = Status} (λ (l : OverLimit). Limit l.which l.count) (same_limit passed other (flattened j).over o e));
    cycle = λ e vertices is. no_other passed (flattened j).over o e;
    over_budget = λ e acyclic none. no_other passed (flattened j).over o e;
    fits = λ e acyclic level moves first. no_other passed (flattened j).over o e;
  }

  at_cycle : (places : List CyclePlace) → status ≡ Cycle places → plans.OfFlat (plans.HasGivenCycle places) j → EndsByJob status budget j
  at_cycle places s h = record {
    limit = λ passed e. no_other passed (flattened j).over e h.0;
    cycle = λ e vertices is. inl (places, s);
    over_budget = λ e acyclic none. absurd (acyclic h.1.vertices h.1.cycle);
    fits = λ e acyclic level moves first. absurd (acyclic h.1.vertices h.1.cycle);
  }

  over : (least : ℕ) → status ≡ OverBudget least budget → plans.OfFlat (plans.NeedsMore budget least) j → EndsByJob status budget j
  over least s h = record {
    limit = λ passed e. no_other passed (flattened j).over e h.0;
    cycle = λ e vertices is. absurd (h.1.acyclic vertices is);
    over_budget = λ e acyclic none. inl (least, s);
    fits = λ e acyclic level moves first. absurd (h.1.none level moves first.level first.fits);
  }

planned : (output : Output) (budget : ℕ) (text : List ℕ) (j : Job) → IsRight output budget text j → plans.OfFlat (plans.IsTextOf output budget text) j
planned Text budget text j h = h.planned
planned Report budget text j h = h

module _ (s : Source) (fine : first_file_fault s.text ≡ None) (a : Accepted) (answers : Answers s (Ok a)) where
  abbrev pub the_job : Job
  the_job = job_in s answers.derivation

  -- what holds of an accepted reading of the text holds of this one
  pub of_job : (P : Job → Type 0) → OfAccepted P s → P the_job
  of_job P h =
      let same : h.checked.derivation ≡ answers.derivation = one_tree h.checked.derivation answers.derivation (sym h.checked.spelled ∙ answers.spelled) in
      subst (λ d. P (job_in s d)) same h.holds

  pub refused : {A : Type 0} (first : Fault) → Answers s (Err first) → A
  refused first r = absurd (let no : ◌≡◌ {A = Result Accepted Fault} (Err first) (Ok a) = one_answer s (Err first) (Ok a) r answers in cc)

  pub faulty : {A : Type 0} (fault : FileFault) → first_file_fault s.text ≡ Some fault → A
  faulty fault e = absurd (let no : Some fault ≡ None = sym e ∙ fine in cc)

  pub ends_by_job : (old new : Option (List ℕ)) (output : Output) (budget : ℕ) (status : Status) → Tells old new status (compile output budget) s → EndsByJob status budget the_job
  ends_by_job old new output budget Done told = written Done budget the_job output told.1.0 (inl refl) (planned output budget told.1.0 the_job (of_job (IsRight output budget told.1.0) told.1.1))
  ends_by_job old new output budget Words told = absurd told
  ends_by_job old new output budget ReadFault told = by_fault ReadFault budget the_job (inl refl)
  ends_by_job old new output budget (Syntax cause line col) told = faulty (record { cause = cause; line = line; col = col }) told
  ends_by_job old new output budget (Names n line col) told = refused _ told.1
  ends_by_job old new output budget (Typing n line col) told = refused _ told.1
  ends_by_job old new output budget (Unsupported what line col) told = refused _ told.1
  ends_by_job old new output budget (Limit which count) told = by told.1
    where
      by : PassesLimit which count (compile output budget) s → EndsByJob (Limit which count) budget the_job
      by (inl h) = refused _ h.0
      by (inr h) = at_limit (Limit which count) budget the_job (record { which = which; count = count }) refl (of_job (plans.PassesFirst (record { which = which; count = count })) h)
  ends_by_job old new output budget (Cycle places) told = at_cycle (Cycle places) budget the_job places refl (of_job (plans.OfFlat (plans.HasGivenCycle places)) told.1)
  ends_by_job old new output budget (OverBudget least most) told = over (OverBudget least most) budget the_job least (ap {B = Status} (OverBudget least) told.1.0) (of_job (plans.OfFlat (plans.NeedsMore budget least)) told.1.1)
  ends_by_job old new output budget WriteFault told = written WriteFault budget the_job output told.1.0 (inr refl) (planned output budget told.1.0 the_job (of_job (IsRight output budget told.1.0) told.1.1))
  ends_by_job old new output budget Memory told = by_fault Memory budget the_job (inr refl)
  ends_by_job old new output budget (Bits given wanted) told = absurd told.1
  ends_by_job old new output budget (FalseForget line) told = absurd told.1

ends_by_plan : (s : Source) (old new : Option (List ℕ)) (asked : Asked) (status : Status) → Tells old new status asked s → EndsByPlan status asked s
ends_by_plan s old new check status told = tt
ends_by_plan s old new (compile output budget) status told = λ fine a answers. ends_by_job s fine a answers old new output budget status told
ends_by_plan s old new (mean input outcome) status told = tt

pub for_plan : (words : List (List ℕ)) (held : List ℕ → Option (List ℕ)) (old new : Option (List ℕ)) (status : Status)
    → ForSource words held (Tells old new status) → ForSource words held (EndsByPlan status)
for_plan words held old new status tells = λ c is. by c (bytes_at held c.origin) (tells c is)
  where
    by : (c : Command) (o : Option (List ℕ)) → IfSome o (λ bytes. Tells old new status c.asked (source_of c bytes)) → IfSome o (λ bytes. EndsByPlan status c.asked (source_of c bytes))
    by c None t = tt
    by c (Some bytes) t = ends_by_plan (source_of c bytes) old new c.asked status t
