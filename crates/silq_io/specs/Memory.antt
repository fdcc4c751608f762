-- Files and a sink in memory: what a call on them answers, and what it leaves.
use Rattle.std.specs.Prelude.{ℕ, ◌-◌, ◌==◌, nat_lt, Bool, not, ◌&&◌, if◌then◌else◌, List, [], ◌∷◌, ◌++◌, map, length, take, drop, Option, Some, None, is_some, option_map, find, string_bytes}
use Rattle.std.specs.Option.{option_map_or}
use Rattle.std.specs.Str.{bytes_eq}
use Rattle.std.specs.declared.alloc.Global.{Global}
use Rattle.std.specs.declared.string.String.{String}
use Rattle.std.specs.declared.vec.Vec.{Vec}
use Rattle.silq_io.specs.Counts.{Calls, raised, next_fails, called}

-- one file: its name, its bytes, those not yet taken since it was begun, and how many calls on it have failed
pub record StoredFile : Type 0 where
  pub name : List ℕ
  pub bytes : List ℕ
  pub left : List ℕ
  pub faults : ℕ

-- files, the calls on them, and how many calls have failed on a name that is not there
pub record Store : Type 0 where
  pub files : List StoredFile
  pub other_faults : ℕ
  pub calls : Calls

abbrev pub is_named : List ℕ → StoredFile → Bool
is_named name file = bytes_eq file.name name

-- the file under a name: the first of several
abbrev pub file_of : Store → List ℕ → Option StoredFile
file_of store name = find (is_named name) store.files

-- the bytes under a name, told where it is there
abbrev pub held_in : Store → List ℕ → Option (List ℕ)
held_in store name = option_map (λ file. file.bytes) (file_of store name)

-- the bytes not yet taken under a name: none where it was not begun
abbrev pub left_in : Store → List ℕ → List ℕ
left_in store name = option_map_or (λ file. file.left) (file_of store name) []

-- how many calls on a name have failed: the names that are not there share one count
abbrev pub faults_in : Store → List ℕ → ℕ
faults_in store name = option_map_or (λ file. file.faults) (file_of store name) store.other_faults

-- the file under a name is changed
abbrev pub changed : (StoredFile → StoredFile) → List ℕ → List StoredFile → List StoredFile
changed change name [] = []
changed change name (file ∷ files) = if is_named name file then change file ∷ files else file ∷ changed change name files

-- one more call was made
abbrev pub counted : Store → Store
counted store = record store { calls = called store.calls }

-- a fault was counted under a name
abbrev pub failed : Store → List ℕ → Store
failed store name =
    if is_some (file_of store name)
    then record store { files = changed (λ file. record file { faults = raised file.faults }) name store.files }
    else record store { other_faults = raised store.other_faults }

-- a file can be begun where it is there and the call is not to fail
abbrev pub can_begin : Store → List ℕ → Bool
can_begin store name = is_some (file_of store name) && not (next_fails store.calls)

-- after `begin`: all bytes of the file are left, or the call has failed
abbrev pub begun : Store → List ℕ → Store
begun store name =
    if can_begin store name
    then record (counted store) { files = changed (λ file. record file { left = file.bytes }) name store.files }
    else failed (counted store) name

-- after `take` into a buffer of this length: as many bytes as fit were taken, or the call has failed
abbrev pub taken : Store → List ℕ → ℕ → Store
taken store name room =
    if room == 0 then store
    else if next_fails store.calls then failed (counted store) name
    else record (counted store) { files = changed (λ file. record file { left = drop room file.left }) name store.files }

-- names and bytes
abbrev pub named_bytes : List (String Global × Vec ℕ Global) → List (List ℕ × List ℕ)
named_bytes pairs = map (λ pair. (string_bytes pair.0, pair.1.items)) pairs

-- the bytes of the first pair with a name
abbrev pub first_bytes : List (List ℕ × List ℕ) → List ℕ → Option (List ℕ)
first_bytes [] name = None
first_bytes (pair ∷ pairs) name = if bytes_eq pair.0 name then Some pair.1 else first_bytes pairs name

-- files of which none was begun, and no call on them
abbrev pub stored : List (String Global × Vec ℕ Global) → List ℕ → Store
stored pairs fails = record {
  files = map (λ pair. record { name = string_bytes pair.0; bytes = pair.1.items; left = []; faults = 0 }) pairs;
  other_faults = 0;
  calls = record { made = 0; failing = fails };
}

-- a sink: the bytes taken so far, how many it takes in all, how many puts have failed, and the puts of some bytes
pub record StoredSink : Type 0 where
  pub bytes : List ℕ
  pub room : ℕ
  pub faults : ℕ
  pub puts : Calls

-- how many bytes it can still take
abbrev pub room_left : StoredSink → ℕ
room_left sink = sink.room - length sink.bytes

-- it takes bytes where there is room and the put is not to fail
abbrev pub can_put : StoredSink → Bool
can_put sink = nat_lt 0 (room_left sink) && not (next_fails sink.puts)

-- after `put`: as many bytes were taken as there was room for, or the put has failed
abbrev pub put_to : StoredSink → List ℕ → StoredSink
put_to sink bytes =
    if length bytes == 0 then sink
    else if can_put sink then record sink { bytes = sink.bytes ++ take (room_left sink) bytes; puts = called sink.puts }
    else record sink { faults = raised sink.faults; puts = called sink.puts }
