-- What typing and the meaning say of a text, for an entry with static values.
use Rattle.std.specs.Prelude.{◌≡◌, ℕ, List, Option, Some, None, Result, Ok, ℤ}
use Rattle.std.specs.Str.{chars}
use Rattle.silq_lex.specs.Tokens.{tokens_of}
use Rattle.silq_grammar.specs.Grammar.{Program}
use Rattle.silq_grammar.specs.Spelled.{program_text}
use Rattle.silq_grammar.specs.Trees.{program_tree}
use Rattle.silq_parse.specs.Faults.{first_fault}
use Rattle.silq_parse.specs.Lexed.{all_tokens, names_of}
use Rattle.silq_tree.specs.declared.node.NameId.{NameId}
use Rattle.silq_types.specs.Programs.{Program as Tree}
use Rattle.silq_types.specs.Rules.{Fault}
use Rattle.silq_types.specs.Words.{words_of}
use Rattle.silq_mean.specs.Table.{Job, job, job_of}
use Rattle.check_fun.specs.Entry.{check_named, number_of_name}
use Rattle.check_fun.specs.Program.{Accepted}

-- a text, the name of a function in it, and values of that function's static parameters
pub record Source : Type 0 where
  pub text : List ℕ
  pub entry : List ℕ
  pub statics : List ℤ

-- the names of a text, in the order in which they stand there first
abbrev pub names_in : List ℕ → List (List ℕ)
names_in text = names_of (tokens_of (chars text)).items

-- a program with its names
abbrev pub tree_of : List (List ℕ) → Program → Tree
tree_of names p = record { words = words_of names; funs = program_tree p }

-- the text is a program, and its check from the entry with the static values answers this
pub record Answers (source : Source) (answer : Result Accepted Fault) : Type 0 where
  pub no_fault : first_fault source.text ≡ None
  pub derivation : Program
  pub spelled : all_tokens (tokens_of (chars source.text)).items ≡ program_text derivation
  pub is : check_named (tree_of (names_in source.text) derivation) (number_of_name (names_in source.text) source.entry) source.statics ≡ answer

-- all rules hold
abbrev pub IsAccepted : Source → Type 0
IsAccepted source = (a : Accepted) × Answers source (Ok a)

-- what a function with static values means, where there is one of this name
abbrev pub job_named : Tree → Option NameId → List ℤ → Job
job_named p None statics = job_of p statics None
job_named p (Some name) statics = job p name statics

abbrev pub job_in : Source → Program → Job
job_in source p = job_named (tree_of (names_in source.text) p) (number_of_name (names_in source.text) source.entry) source.statics

-- all rules hold, and this holds of what the entry means
pub record OfAccepted (P : Job → Type 0) (source : Source) : Type 0 where
  pub accepted : Accepted
  pub checked : Answers source (Ok accepted)
  pub holds : P (job_in source checked.derivation)
