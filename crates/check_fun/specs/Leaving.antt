-- Statements that by their form leave the variables as they are.
use Rattle.std.specs.Prelude.{Bool, true, false, ◌&&◌}
use Rattle.silq_tree.specs.Syntax.{Statement, Statements, assign, spread, update, forget, forget_value, phase, choice, loop, return_nothing, return_value, call, done, next}

abbrev pub leaves : Statement → Bool
leaves (phase e s) = true
leaves st = false

abbrev pub leave_all : Statements → Bool
leave_all done = true
leave_all (next st rest) = leaves st && leave_all rest
