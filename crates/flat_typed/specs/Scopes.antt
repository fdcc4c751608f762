-- What the meaning of a part of a body sees, read off what typing sees.
use Rattle.std.specs.Prelude.{◌≡◌, true, List, [], map, ℤ, None, is_some}
use Rattle.silq_tree.specs.declared.node.NameId.{NameId}
use Rattle.silq_tree.specs.Syntax.{Function}
use Rattle.silq_types.specs.declared.types.Ty.{Ty}
use Rattle.silq_types.specs.declared.values.Var.{Var}
use Rattle.silq_mean.specs.Written.{Header, value_of}
use Rattle.silq_types.specs.declared.built_in.BuiltIn.{BuiltIn}
use Rattle.check_scope.specs.Context.{Scope, variable, find_var}
use Rattle.silq_types.specs.Calls.{built_in, find_fun, needs_of_found}
use Rattle.silq_types.specs.Programs.{paired}
use Rattle.silq_mean.specs.declared.receiver.Receiver.{Receiver}
use Rattle.silq_mean.specs.Meaning.{Scope as MeaningScope, parameters_of, functions}

-- with what takes the results over
abbrev pub as_meaning : (Ty → Receiver) → Scope → MeaningScope
as_meaning taker sc =
    record {
      words = sc.words;
      needs = λ g. needs_of_found (built_in sc.words g) (find_fun sc.before g);
      parameters = λ g. parameters_of (built_in sc.words g) (find_fun sc.before g);
      calls = functions sc.words sc.before;
      statics = sc.statics;
      results = map taker sc.results;
    }

-- the scope in which the body of an instance is walked
abbrev pub scope_for : List (NameId × BuiltIn) → List Function → Function → List ℤ → Header → Scope
scope_for words before f statics h = record { words = words; before = before; this = f; results = h.results; statics = paired f.statics statics; held = [] }

-- no variable has the name of a static value
abbrev pub NoStatics : Scope → List Var → Type 0
NoStatics sc vars = (x : NameId) → is_some (value_of sc.statics x) ≡ true → find_var vars (variable x) ≡ None
