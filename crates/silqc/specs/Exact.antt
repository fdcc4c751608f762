-- The end that a source must have.
use Rattle.std.specs.Prelude.{◌≡◌, ℕ, ◌⊎◌, List, None, Some, Result, Ok, Err}
use Rattle.silq_io.specs.declared.limit.OverLimit.{OverLimit}
use Rattle.silq_mean.specs.Table.{Job, MeanFault, run_job}
use Rattle.silq_mean.specs.Term.{Term}
use Rattle.flat_form.specs.Flat.{flattened}
use Rattle.graph_core.specs.Digraph.{IsAcyclic, IsCycle}
use Rattle.graph_core.specs.Circuit.{circuit_graph}
use Rattle.graph_core.specs.declared.vertex.Vertex.{Vertex}
use Rattle.move_plan.specs.declared.moves.Move.{Move}
use Rattle.reqomp.specs.Level.{IsLevel}
use Rattle.reqomp.specs.Search.{Fits, IsFirstFit}
use Rattle.flat_compile.specs.declared.cycle.CyclePlace.{CyclePlace}
use Rattle.silq_types.specs.Rules.{Fault}
use Rattle.check_fun.specs.Program.{Accepted}
use Rattle.silq_compile.specs.Sources.{Source, Answers, job_in}
use Rattle.silqc.specs.Asked.{Asked, check, compile, mean}
use Rattle.silqc.specs.declared.status.Status.{Status}
use Rattle.silqc.specs.declared.status.Status.TheVariants.{Done, ReadFault, Limit, Cycle, OverBudget, WriteFault, Memory}
use Rattle.silqc.specs.Answer.{OfProgram}
use Rattle.silqc.specs.Program.{FileFault, first_file_fault}
use Rattle.silqc.specs.Status.{mean_status, status_of, syntax_status}

-- the status is the wanted one; a fault of reading and want of memory may come before it
abbrev pub EndsBy : Status → Status → Type 0
EndsBy wanted status = (status ≡ wanted) ⊎ ((status ≡ ReadFault) ⊎ (status ≡ Memory))

abbrev pub EndsAtCycle : Status → Type 0
EndsAtCycle status = ((places : List CyclePlace) × (status ≡ Cycle places)) ⊎ ((status ≡ ReadFault) ⊎ (status ≡ Memory))

abbrev pub EndsOver : ℕ → Status → Type 0
EndsOver budget status = ((least : ℕ) × (status ≡ OverBudget least budget)) ⊎ ((status ≡ ReadFault) ⊎ (status ≡ Memory))

-- the text is put, a fault of the sink aside
abbrev pub EndsWritten : Status → Type 0
EndsWritten status = ((status ≡ Done) ⊎ (status ≡ WriteFault)) ⊎ ((status ≡ ReadFault) ⊎ (status ≡ Memory))

-- How the compilation of what an accepted program means must end: by the first limit of its flat form, else by a cycle of its circuit graph,
-- else over budget, where no level fits, else with the text.
pub record EndsByJob (status : Status) (budget : ℕ) (j : Job) : Type 0 where
  pub limit : (passed : OverLimit) → (flattened j).over ≡ Some passed → EndsBy (Limit passed.which passed.count) status
  pub cycle : (flattened j).over ≡ None → (vertices : List Vertex) → IsCycle (circuit_graph (flattened j).form) vertices → EndsAtCycle status
  pub over_budget : (flattened j).over ≡ None → IsAcyclic (circuit_graph (flattened j).form)
      → ((level : ℕ) (moves : List Move) → IsLevel (flattened j).form level moves → ¬ Fits (flattened j).form budget moves) → EndsOver budget status
  pub fits : (flattened j).over ≡ None → IsAcyclic (circuit_graph (flattened j).form)
      → (level : ℕ) (moves : List Move) → IsFirstFit (flattened j).form budget level moves → EndsWritten status

-- a file with a fault ends every command by it
abbrev pub EndsAtFault : Status → Asked → Source → Type 0
EndsAtFault status asked s = (fault : FileFault) → first_file_fault s.text ≡ Some fault → EndsBy (syntax_status fault) status

-- a check ends as the answer of typing says, and so does each other command on what typing refuses
abbrev pub EndsByTyping : Status → Asked → Result Accepted Fault → Type 0
EndsByTyping status check answer = EndsBy (status_of answer) status
EndsByTyping status (compile output budget) (Ok a) = Unit {0}
EndsByTyping status (compile output budget) (Err first) = EndsBy (status_of (Err first)) status
EndsByTyping status (mean input outcome) (Ok a) = Unit {0}
EndsByTyping status (mean input outcome) (Err first) = EndsBy (status_of (Err first)) status

abbrev pub EndsByAnswer : Status → Asked → Source → Type 0
EndsByAnswer status asked s = (answer : Result Accepted Fault) → OfProgram (λ t. Answers t answer) s → EndsByTyping status asked answer

-- what an accepted program means
abbrev pub ForJobOf : Source → (Job → Type 0) → Type 0
ForJobOf s P = first_file_fault s.text ≡ None → (a : Accepted) (answers : Answers s (Ok a)) → P (job_in s answers.derivation)

-- a compilation of what typing accepts
abbrev pub EndsByPlan : Status → Asked → Source → Type 0
EndsByPlan status (compile output budget) s = ForJobOf s (EndsByJob status budget)
EndsByPlan status _ s = Unit {0}

-- a run ends with its table, or by what comes first: the counts, the lengths of the bits, the number of terms and the false forgets
abbrev pub EndsByTerms : Status → Result (List Term) MeanFault → Type 0
EndsByTerms status (Ok terms) = EndsWritten status
EndsByTerms status (Err fault) = EndsBy (mean_status fault) status

-- the table of what typing accepts
abbrev pub EndsByRun : Status → Asked → Source → Type 0
EndsByRun status (mean input outcome) s = ForJobOf s (λ j. EndsByTerms status (run_job j input outcome))
EndsByRun status _ s = Unit {0}
