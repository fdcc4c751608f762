-- The rules by plain names, and the faults of a walk. A rule's number is the one that a note prints after `K`.
use Rattle.std.specs.Prelude.{ℕ, Result, Ok, Err}
use Rattle.silq_tree.specs.declared.node.Spot.{Spot}
use Rattle.silq_io.specs.declared.fault.What.{What}
use Rattle.silq_io.specs.declared.limit.LimitKind.{LimitKind}

pub data Fault : Type 0 where
  -- the number of the rule that is broken
  rule : ℕ → Spot → Fault
  unsupported : What → Spot → Fault
  over : LimitKind → Fault

-- the first fault, or what comes after
abbrev pub and_then : {A B E : Type 0} → Result A E → (A → Result B E) → Result B E
and_then (Ok a) f = f a
and_then (Err e) f = Err e

abbrev pub unknown_name : ℕ
unknown_name = 1

abbrev pub name_taken : ℕ
name_taken = 2

abbrev pub wrong_type : ℕ
wrong_type = 3

abbrev pub used_after_move : ℕ
used_after_move = 4

abbrev pub held_changed : ℕ
held_changed = 5

abbrev pub not_classical : ℕ
not_classical = 6

abbrev pub against_mark : ℕ
against_mark = 7

abbrev pub measured_in_branch : ℕ
measured_in_branch = 8

abbrev pub condition_changed : ℕ
condition_changed = 9

abbrev pub outer_changed : ℕ
outer_changed = 10

abbrev pub linear_left : ℕ
linear_left = 11

abbrev pub not_droppable : ℕ
not_droppable = 12

abbrev pub bad_forget : ℕ
bad_forget = 13

abbrev pub bad_return : ℕ
bad_return = 14

abbrev pub result_count : ℕ
result_count = 15

abbrev pub bad_update : ℕ
bad_update = 16

abbrev pub bad_part : ℕ
bad_part = 17

abbrev pub bad_size : ℕ
bad_size = 18

abbrev pub outside_type : ℕ
outside_type = 19

abbrev pub lifted_without_result : ℕ
lifted_without_result = 20

abbrev pub not_static : ℕ
not_static = 21

abbrev pub consumed_twice : ℕ
consumed_twice = 22

abbrev pub consumed_and_held : ℕ
consumed_and_held = 23
