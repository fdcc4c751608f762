-- A file has one fault or one answer, by which each command ends.
use Rattle.std.proofs.Common.{◌≡◌, ℕ, suc, ◌<◌, ◌≤◌, nat_lt, if◌then◌else◌, Bool, true, false, inl, inr, List, Option, Some, None, Result, Ok, Err, IfSome, refl, ap, sym, ◌∙◌, arith}
use Rattle.std.proofs.lemmas.Bool.Decides.{nat_tests}
use Rattle.silq_io.specs.declared.limit.LimitKind.{LimitKind}
use Rattle.flat_compile.specs.declared.output.Output.{Output}
use Rattle.silq_grammar.specs.Grammar.{Program}
use Rattle.silq_grammar.proofs.Accepted.{one_tree}
use Rattle.silq_types.specs.Rules.{Fault, rule, unsupported, over}
use Rattle.check_fun.specs.Entry.{check_named, number_of_name}
use Rattle.check_fun.specs.Program.{Accepted}
use Rattle.silq_mean.specs.Table.{Job}
use Rattle.silq_compile.specs.Sources.{Source, Answers, OfAccepted, names_in, tree_of}
use Rattle.silqc.specs.Asked.{Asked, check, compile, mean}
use Rattle.silqc.specs.declared.status.Status.{Status}
use Rattle.silqc.specs.declared.status.Status.TheVariants.{Done, Words, ReadFault, Syntax, Names, Typing, Unsupported, Limit, Cycle, OverBudget, WriteFault, Memory, Bits, FalseForget}
use Rattle.silqc.specs.Answer.{OfProgram, PassesLimit, most}
use Rattle.silqc.specs.Command.{Command, ForSource, IsCommand, bytes_at, source_of}
use Rattle.silqc.specs.Ending.{CanEnd, Tells}
use Rattle.silqc.specs.Exact.{EndsAtFault, EndsBy, EndsByAnswer, EndsByTyping}
use Rattle.silqc.specs.Program.{FileFault, first_file_fault}
use Rattle.silqc.specs.Status.{status_of, syntax_status}

module _ (s : Source) where
  abbrev check_of : Program → Result Accepted Fault
  check_of p = check_named (tree_of (names_in s.text) p) (number_of_name (names_in s.text) s.entry) s.statics

  -- a text has one answer, as it has one tree
  pub one_answer : (one other : Result Accepted Fault) → Answers s one → Answers s other → one ≡ other
  one_answer one other a b =
      let same : a.derivation ≡ b.derivation = one_tree a.derivation b.derivation (sym a.spelled ∙ b.spelled) in
      sym a.is ∙ (ap {B = Result Accepted Fault} check_of same ∙ b.is)

  not_both : {A : Type 0} (first : Fault) → Answers s (Err first) → (a : Accepted) → Answers s (Ok a) → A
  not_both first r a h = absurd (let no : ◌≡◌ {A = Result Accepted Fault} (Err first) (Ok a) = one_answer (Err first) (Ok a) r h in cc)

  no_fault : {A : Type 0} (fault : FileFault) → first_file_fault s.text ≡ Some fault → first_file_fault s.text ≡ None → A
  no_fault fault e none = absurd (let no : Some fault ≡ None = sym e ∙ none in cc)

  module _ (old new : Option (List ℕ)) (asked : Asked) where
    -- ---- at a fault

    same_fault : (fault other : FileFault) → first_file_fault s.text ≡ Some fault → first_file_fault s.text ≡ Some other → other ≡ fault
    same_fault fault other e f = let both : Some other ≡ Some fault = sym f ∙ e in cc

    pub ends_at_fault : (status : Status) → Tells old new status asked s → EndsAtFault status asked s
    ends_at_fault Done told = λ fault e. no_fault fault e told.0
    ends_at_fault Words told = absurd told
    ends_at_fault ReadFault told = λ fault e. inr (inl refl)
    ends_at_fault (Syntax cause line col) told = λ fault e. inl (ap {B = Status} syntax_status (same_fault fault (record { cause = cause; line = line; col = col }) e told))
    ends_at_fault (Names n line col) told = λ fault e. no_fault fault e told.0
    ends_at_fault (Typing n line col) told = λ fault e. no_fault fault e told.0
    ends_at_fault (Unsupported what line col) told = λ fault e. no_fault fault e told.0
    ends_at_fault (Limit which count) told = λ fault e. no_fault fault e told.0
    ends_at_fault (Cycle places) told = λ fault e. no_fault fault e told.0
    ends_at_fault (OverBudget least most) told = λ fault e. no_fault fault e told.0
    ends_at_fault WriteFault told = λ fault e. no_fault fault e told.0
    ends_at_fault Memory told = λ fault e. inr (inr refl)
    ends_at_fault (Bits given wanted) told = λ fault e. no_fault fault e told.0
    ends_at_fault (FalseForget line) told = λ fault e. no_fault fault e told.0

  -- ---- at an answer

  module _ (answer : Result Accepted Fault) (a : Answers s answer) where
    by_answer : (other : Result Accepted Fault) (status : Status) → Answers s other → status ≡ status_of other → EndsBy (status_of answer) status
    by_answer other status b e = inl (e ∙ ap {B = Status} status_of (one_answer other answer b a))

    at_rule : (n line col : ℕ) (small : Bool) → nat_lt 2 n ≡ small
        → (if small then Typing n line col else Names n line col) ≡ status_of (Err (rule n (record { line = line; col = col })))
    at_rule n line col small e = ap {B = Status} (λ b. if b then Typing n line col else Names n line col) (sym e)

    low : (n : ℕ) → n ≤ 2 → nat_lt 2 n ≡ false
    low n l = grind (arith, nat_tests)

    high : (n : ℕ) → 2 < n → nat_lt 2 n ≡ true
    high n l = grind (arith, nat_tests)

    by_names : (n line col : ℕ) → n ≤ 2 → Answers s (Err (rule n (record { line = line; col = col }))) → EndsBy (status_of answer) (Names n line col)
    by_names n line col l h = by_answer (Err (rule n (record { line = line; col = col }))) (Names n line col) h (at_rule n line col false (low n l))

    by_types : (n line col : ℕ) → 2 < n → Answers s (Err (rule n (record { line = line; col = col }))) → EndsBy (status_of answer) (Typing n line col)
    by_types n line col l h = by_answer (Err (rule n (record { line = line; col = col }))) (Typing n line col) h (at_rule n line col true (high n l))

    by_limit : (which : LimitKind) (count : ℕ) → Answers s (Err (over which)) → count ≡ suc (most which) → EndsBy (status_of answer) (Limit which count)
    by_limit which count h e = by_answer (Err (over which)) (Limit which count) h (ap {B = Status} (Limit which) e)

    pub check_ends_by : (fine : first_file_fault s.text ≡ None) (old new : Option (List ℕ)) (status : Status) → CanEnd check status → Tells old new status check s → EndsBy (status_of answer) status
    check_ends_by fine old new Done ends told = by_answer (Ok told.1.0) Done told.1.1 refl
    check_ends_by fine old new Words ends told = absurd told
    check_ends_by fine old new ReadFault ends told = inr (inl refl)
    check_ends_by fine old new (Syntax cause line col) ends told = no_fault (record { cause = cause; line = line; col = col }) told fine
    check_ends_by fine old new (Names n line col) ends told = by_names n line col ends told.1
    check_ends_by fine old new (Typing n line col) ends told = by_types n line col ends told.1
    check_ends_by fine old new (Unsupported what line col) ends told = by_answer (Err (unsupported what (record { line = line; col = col }))) (Unsupported what line col) told.1 refl
    check_ends_by fine old new (Limit which count) ends told = by_limit which count told.1.0 told.1.1
    check_ends_by fine old new (Cycle places) ends told = absurd told.1
    check_ends_by fine old new (OverBudget least most) ends told = absurd told.1
    check_ends_by fine old new WriteFault ends told = absurd told.1
    check_ends_by fine old new Memory ends told = inr (inr refl)
    check_ends_by fine old new (Bits given wanted) ends told = absurd told.1
    check_ends_by fine old new (FalseForget line) ends told = absurd told.1

  module _ (first : Fault) (a : Answers s (Err first)) (fine : first_file_fault s.text ≡ None) where
    of_accepted : {A : Type 0} {P : Job → Type 0} → OfAccepted P s → A
    of_accepted h = not_both first a h.accepted h.checked

    pub compilation_ends_by : (output : Output) (budget : ℕ) (old new : Option (List ℕ)) (status : Status) → CanEnd (compile output budget) status → Tells old new status (compile output budget) s → EndsBy (status_of (Err first)) status
    compilation_ends_by output budget old new Done ends told = of_accepted told.1.1
    compilation_ends_by output budget old new Words ends told = absurd told
    compilation_ends_by output budget old new ReadFault ends told = inr (inl refl)
    compilation_ends_by output budget old new (Syntax cause line col) ends told = no_fault (record { cause = cause; line = line; col = col }) told fine
    compilation_ends_by output budget old new (Names n line col) ends told = by_names (Err first) a n line col ends told.1
    compilation_ends_by output budget old new (Typing n line col) ends told = by_types (Err first) a n line col ends told.1
    compilation_ends_by output budget old new (Unsupported what line col) ends told = by_answer (Err first) a (Err (unsupported what (record { line = line; col = col }))) (Unsupported what line col) told.1 refl
    compilation_ends_by output budget old new (Limit which count) ends told = by told.1
      where
        by : PassesLimit which count (compile output budget) s → EndsBy (status_of (Err first)) (Limit which count)
        by (inl h) = by_limit (Err first) a which count h.0 h.1
        by (inr h) = of_accepted h
    compilation_ends_by output budget old new (Cycle places) ends told = of_accepted told.1
    compilation_ends_by output budget old new (OverBudget least most) ends told = of_accepted told.1.1
    compilation_ends_by output budget old new WriteFault ends told = of_accepted told.1.1
    compilation_ends_by output budget old new Memory ends told = inr (inr refl)
    compilation_ends_by output budget old new (Bits given wanted) ends told = absurd told.1
    compilation_ends_by output budget old new (FalseForget line) ends told = absurd told.1

    pub run_ends_by : (input outcome : List Bool) (old new : Option (List ℕ)) (status : Status) → CanEnd (mean input outcome) status → Tells old new status (mean input outcome) s → EndsBy (status_of (Err first)) status
    run_ends_by input outcome old new Done ends told = of_accepted told.1.1
    run_ends_by input outcome old new Words ends told = absurd told
    run_ends_by input outcome old new ReadFault ends told = inr (inl refl)
    run_ends_by input outcome old new (Syntax cause line col) ends told = no_fault (record { cause = cause; line = line; col = col }) told fine
    run_ends_by input outcome old new (Names n line col) ends told = by_names (Err first) a n line col ends told.1
    run_ends_by input outcome old new (Typing n line col) ends told = by_types (Err first) a n line col ends told.1
    run_ends_by input outcome old new (Unsupported what line col) ends told = by_answer (Err first) a (Err (unsupported what (record { line = line; col = col }))) (Unsupported what line col) told.1 refl
    run_ends_by input outcome old new (Limit which count) ends told = by told.1
      where
        by : PassesLimit which count (mean input outcome) s → EndsBy (status_of (Err first)) (Limit which count)
        by (inl h) = by_limit (Err first) a which count h.0 h.1
        by (inr h) = of_accepted h
    run_ends_by input outcome old new (Cycle places) ends told = absurd told.1
    run_ends_by input outcome old new (OverBudget least most) ends told = absurd told.1
    run_ends_by input outcome old new WriteFault ends told = of_accepted told.1.1
    run_ends_by input outcome old new Memory ends told = inr (inr refl)
    run_ends_by input outcome old new (Bits given wanted) ends told = of_accepted told.1
    run_ends_by input outcome old new (FalseForget line) ends told = of_accepted told.1

pub ends_by_answer : (s : Source) (old new : Option (List ℕ)) (asked : Asked) (status : Status) → CanEnd asked status → Tells old new status asked s → EndsByAnswer status asked s
ends_by_answer s old new check status ends told = λ answer h. check_ends_by s answer h.1 h.0 old new status ends told
ends_by_answer s old new (compile output budget) status ends told = λ answer h. by answer h
  where
    by : (answer : Result Accepted Fault) → OfProgram (λ t. Answers t answer) s → EndsByTyping status (compile output budget) answer
    by (Ok a) h = tt
    by (Err first) h = compilation_ends_by s first h.1 h.0 output budget old new status ends told
ends_by_answer s old new (mean input outcome) status ends told = λ answer h. by answer h
  where
    by : (answer : Result Accepted Fault) → OfProgram (λ t. Answers t answer) s → EndsByTyping status (mean input outcome) answer
    by (Ok a) h = tt
    by (Err first) h = run_ends_by s first h.1 h.0 input outcome old new status ends told

-- ---- for the command that the words are

module _ (words : List (List ℕ)) (held : List ℕ → Option (List ℕ)) (old new : Option (List ℕ)) (status : Status) where
  pub for_fault : ForSource words held (Tells old new status) → ForSource words held (EndsAtFault status)
  for_fault tells = λ c is. by c (bytes_at held c.origin) (tells c is)
    where
      by : (c : Command) (o : Option (List ℕ)) → IfSome o (λ bytes. Tells old new status c.asked (source_of c bytes)) → IfSome o (λ bytes. EndsAtFault status c.asked (source_of c bytes))
      by c None t = tt
      by c (Some bytes) t = ends_at_fault (source_of c bytes) old new c.asked status t

  pub for_answer : ((c : Command) → IsCommand words c → CanEnd c.asked status) → ForSource words held (Tells old new status) → ForSource words held (EndsByAnswer status)
  for_answer ends tells = λ c is. by c (bytes_at held c.origin) (ends c is) (tells c is)
    where
      by : (c : Command) (o : Option (List ℕ)) → CanEnd c.asked status → IfSome o (λ bytes. Tells old new status c.asked (source_of c bytes))
          → IfSome o (λ bytes. EndsByAnswer status c.asked (source_of c bytes))
      by c None can t = tt
      by c (Some bytes) can t = ends_by_answer (source_of c bytes) old new c.asked status can t
