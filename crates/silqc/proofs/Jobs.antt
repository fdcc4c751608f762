-- The words are one job, and a job is one command at most.
use Rattle.std.proofs.Common.{◌≡◌, ◌≢◌, ℕ, List, Some, None, subst, sym, ◌∙◌}
use Rattle.std.specs.Prelude.{option_and_then}
use Rattle.cli_words.specs.Job.{Job, job_of}
use Rattle.silqc.specs.Asked.{Asked}
use Rattle.silqc.specs.declared.status.Status.{Status}
use Rattle.silqc.specs.declared.status.Status.TheVariants as ends
use Rattle.silqc.specs.Command.{Command, ForJob, IsCommand, command_of}
use Rattle.silqc.specs.Ending.{CanEnd, TellsItsRules}

-- what holds of a command holds of each that is the same
pub only : (P : Command → Type 0) (x c : Command) → Some x ≡ Some c → P x → P c
only P x c e p = subst P (let same : x ≡ c = cc in same) p

pub no_command : (c : Command) → None ≢ Some c
no_command c e = absurd (cc)

-- ---- words

pub one_job : (words : List (List ℕ)) (j k : Job) → job_of words ≡ Some j → job_of words ≡ Some k → j ≡ k
one_job words j k a b = let both : Some j ≡ Some k = sym a ∙ b in cc

pub of_words : (words : List (List ℕ)) (j : Job) → job_of words ≡ Some j → (c : Command) → IsCommand words c → command_of j ≡ Some c
of_words words j is c h = subst (λ o. option_and_then command_of o ≡ Some c) is h

pub no_job : (words : List (List ℕ)) → job_of words ≡ None → (c : Command) → ¬ IsCommand words c
no_job words e c h = no_command c (subst (λ o. option_and_then command_of o ≡ Some c) e h)

pub for_job : (words : List (List ℕ)) (j : Job) (P : Job → Type 0) → job_of words ≡ Some j → P j → ForJob words P
for_job words j P is h = λ k e. subst P (one_job words j k is e) h

pub rules_told : (asked : Asked) (status : Status) → CanEnd asked status → TellsItsRules status
rules_told asked ends.Done h = tt
rules_told asked ends.Words h = tt
rules_told asked ends.ReadFault h = tt
rules_told asked (ends.Syntax cause line col) h = tt
rules_told asked (ends.Names rule line col) h = h
rules_told asked (ends.Typing rule line col) h = h
rules_told asked (ends.Unsupported what line col) h = tt
rules_told asked (ends.Limit which count) h = tt
rules_told asked (ends.Cycle cycle) h = tt
rules_told asked (ends.OverBudget least most) h = tt
rules_told asked ends.WriteFault h = tt
rules_told asked ends.Memory h = tt
rules_told asked (ends.Bits given wanted) h = tt
rules_told asked (ends.FalseForget line) h = tt
