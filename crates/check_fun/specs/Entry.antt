-- The check of a program from a text's names and words.
use Rattle.std.specs.Prelude.{◌≡◌, ℕ, suc, List, [], ◌∷◌, Option, Some, None, option_map, if◌then◌else◌, Result, Ok, Err, ℤ}
use Rattle.std.specs.Str.{bytes_eq}
use Rattle.silq_tree.specs.declared.node.NameId.{NameId}
use Rattle.silq_types.specs.Rules.{Fault, rule, and_then, unknown_name}
use Rattle.check_scope.specs.Library.{Shelf, functions_of}
use Rattle.check_fun.specs.Program.{Accepted, all_headers, check}
use Rattle.silq_types.specs.Programs.{Program}

abbrev pub program_of : Shelf → Program
program_of l = record { words = l.words; funs = functions_of l }

-- the number of a name, if it is one of these, of which the first has this number
abbrev pub number_from : ℕ → List (List ℕ) → List ℕ → Option NameId
number_from n [] text = None
number_from n (t ∷ ts) text = if bytes_eq t text then Some (record { number = n }) else number_from (suc n) ts text

abbrev pub number_of_name : List (List ℕ) → List ℕ → Option NameId
number_of_name names text = number_from 0 names text

-- an entry that is no name of the program is no function of it
abbrev pub check_named : Program → Option NameId → List ℤ → Result Accepted Fault
check_named program (Some entry) statics = check program entry statics
check_named program None statics = and_then (all_headers program.words [] program.funs) (λ u. Err (rule unknown_name (record { line = 1; col = 1 })))
