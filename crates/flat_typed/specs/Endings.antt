-- The statements of a body and its last one, which may return; and what a body's last statement takes over.
use Rattle.std.specs.Prelude.{List, [], Option, None}
use Rattle.silq_tree.specs.declared.node.Spot.{Spot}
use Rattle.silq_tree.specs.Syntax.{Expression, Expressions, tuple, none, more, Statements, return_nothing, return_value, Block, block, done, next}
use Rattle.silq_types.specs.declared.values.Value.{Value}
use Rattle.check_scope.specs.Context.{Scope, Check, ◌>>=◌, ◌>>◌, give_back, count_statement}
use Rattle.check_fun.specs.Statement.{returned, ended_with}
use Rattle.silq_mean.specs.Effect.{Effect, nothing, statement, ◌>>◌ as ◌▸◌}
use Rattle.silq_mean.specs.Meaning as meanings

-- how a body ends: without a return, with one of nothing, or with one of a value
pub data Last : Type 0 where
  none_last : Last
  nothing_last : Spot → Last
  value_last : Expression → Spot → Last

-- the statements of a body but the return at its end
abbrev pub front : Statements → Statements
front done = done
front (next (return_nothing s) done) = done
front (next (return_value e s) done) = done
front (next st rest) = next st (front rest)

abbrev pub last_of : Statements → Last
last_of done = none_last
last_of (next (return_nothing s) done) = nothing_last s
last_of (next (return_value e s) done) = value_last e s
last_of (next st rest) = last_of rest

abbrev pub statements_of : Block → Statements
statements_of (block ss end) = ss

abbrev pub end_of_body : Block → Spot
end_of_body (block ss end) = end

-- its walk and its effect
abbrev pub last_walk : Last → Scope → Check (Option (List Value))
last_walk none_last sc = give_back None
last_walk (nothing_last s) sc = count_statement >> ended_with sc s []
last_walk (value_last e s) sc = count_statement >> (returned e sc >>= ended_with sc s)

abbrev pub last_effect : Last → meanings.Scope → Effect
last_effect none_last m = nothing
last_effect (nothing_last s) m = statement s.line nothing ▸ nothing
last_effect (value_last e s) m = statement s.line (meanings.items e m m.results) ▸ nothing

-- the expressions whose values are returned
abbrev pub returned_items : Expression → Expressions
returned_items (tuple es s) = es
returned_items e = more e none

abbrev pub last_items : Last → Expressions
last_items none_last = none
last_items (nothing_last s) = none
last_items (value_last e s) = returned_items e
