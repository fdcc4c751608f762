-- What the calls on files in memory keep, by the name that is looked at.
use Rattle.std.proofs.Common.{◌≡◌, ◌≢◌, ℕ, ◌+◌, ◌-◌, ◌^◌, ◌<◌, ◌≤◌, ◌==◌, Bool, true, false, not, cond, List, [], ◌∷◌, ◌++◌, length, min, take, drop, Option, Some, None, IsSome, is_some, option_map, find, Result, Ok, Err, is_ok, OnOk, OnErr, IfOk, refl, sym, ◌∙◌, ap, arith, rules, tests, inl, inr}
use Rattle.std.specs.Option.{option_map_or}
use Rattle.std.specs.Str.{bytes_eq}
use Rattle.std.proofs.lemmas.Grind.{common_steps}
use Rattle.std.proofs.lemmas.Slice.Eq.{bytes_eq-Decides}
use Rattle.silq_io.specs.Counts.{Rose, raised, next_fails}
use Rattle.silq_io.specs.Reads.{Opens, Takes}
use Rattle.silq_io.specs.Memory.{StoredFile, Store, is_named, changed, file_of, held_in, left_in, faults_in, counted, failed, can_begin, begun, taken}

pub le-raised : (n : ℕ) → n ≤ raised n
le-raised n = by (n == 2 ^ 64 - 1)
  where
    by : (b : Bool) → n ≤ cond b n (n + 1)
    by true = omega arith
    by false = omega arith

pub rose-raised : (n : ℕ) → Rose n (raised n)
rose-raised n = by _ refl
  where
    by : (b : Bool) → (n == 2 ^ 64 - 1) ≡ b → Rose n (cond b n (n + 1))
    by true e = inr (search (rules, tests))
    by false e = inl (omega arith)

-- one change of files, which keeps each name
module _ (change : StoredFile → StoredFile) (keeps : (file : StoredFile) → (change file).name ≡ file.name) where
  named : (name : List ℕ) (file : StoredFile) → is_named name (change file) ≡ is_named name file
  named name file = ap (λ n. bytes_eq n name) (keeps file)

  -- A relation on what is found that the change of a file keeps holds from before to after.
  related_changed : (R : Option StoredFile → Option StoredFile → Type 0) (same : (o : Option StoredFile) → R o o) (step : (file : StoredFile) → R (Some file) (Some (change file)))
      (name other : List ℕ) (files : List StoredFile) → R (find (is_named other) files) (find (is_named other) (changed change name files))
  related_changed R same step name other [] = same None
  related_changed R same step name other (file ∷ files) = by _ _ refl refl (related_changed R same step name other files)
    where
      by : (b d : Bool) → is_named name file ≡ b → is_named other file ≡ d → R (find (is_named other) files) (find (is_named other) (changed change name files))
          → R (find (is_named other) (file ∷ files)) (find (is_named other) (changed change name (file ∷ files)))
      by true true e k h = rw (e, named other file ∙ k, k) (step file)
      by true false e k h = rw (e, named other file ∙ k, k) (same (find (is_named other) files))
      by false true e k h = rw (e, k) (same (Some file))
      by false false e k h = rw (e, k) h

  -- another name finds the same
  other_changed : (name other : List ℕ) (files : List StoredFile) → other ≢ name → find (is_named other) (changed change name files) ≡ find (is_named other) files
  other_changed name other [] ne = refl
  other_changed name other (file ∷ files) ne = by _ _ refl refl (other_changed name other files ne)
    where
      by : (b d : Bool) → is_named name file ≡ b → is_named other file ≡ d → find (is_named other) (changed change name files) ≡ find (is_named other) files
          → find (is_named other) (changed change name (file ∷ files)) ≡ find (is_named other) (file ∷ files)
      by true true e k h =
          let one : file.name ≡ name = (bytes_eq-Decides file.name name).0 e in
          let two : file.name ≡ other = (bytes_eq-Decides file.name other).0 k in
          absurd (ne (sym two ∙ one))
      by true false e k h = rw (e, named other file ∙ k, k) refl
      by false true e k h = rw (e, k) refl
      by false false e k h = rw (e, k) h

  -- the name finds the changed file
  same_changed : (name : List ℕ) (files : List StoredFile) → find (is_named name) (changed change name files) ≡ option_map change (find (is_named name) files)
  same_changed name [] = refl
  same_changed name (file ∷ files) = by _ refl (same_changed name files)
    where
      by : (b : Bool) → is_named name file ≡ b → find (is_named name) (changed change name files) ≡ option_map change (find (is_named name) files)
          → find (is_named name) (changed change name (file ∷ files)) ≡ option_map change (find (is_named name) (file ∷ files))
      by true e h = rw (e, named name file ∙ e) refl
      by false e h = rw (e, e) h

abbrev faulted : StoredFile → StoredFile
faulted file = record file { faults = raised file.faults }

abbrev rewound : StoredFile → StoredFile
rewound file = record file { left = file.bytes }

abbrev passed : ℕ → StoredFile → StoredFile
passed room file = record file { left = drop room file.left }

abbrev SameBytes : Option StoredFile → Option StoredFile → Type 0
SameBytes old new = option_map (λ file. file.bytes) new ≡ option_map (λ file. file.bytes) old

-- what is held stays
held-failed : (store : Store) (name other : List ℕ) → held_in (failed store name) other ≡ held_in store other
held-failed store name other = by (is_some (file_of store name))
  where
    by : (b : Bool) → held_in (cond b (record store { files = changed faulted name store.files }) (record store { other_faults = raised store.other_faults })) other ≡ held_in store other
    by true = related_changed faulted (λ _. refl) SameBytes (λ _. refl) (λ _. refl) name other store.files
    by false = refl

pub held-begun : (store : Store) (name other : List ℕ) → held_in (begun store name) other ≡ held_in store other
held-begun store name other = by (can_begin store name)
  where
    by : (b : Bool) → held_in (cond b (record (counted store) { files = changed rewound name store.files }) (failed (counted store) name)) other ≡ held_in store other
    by true = related_changed rewound (λ _. refl) SameBytes (λ _. refl) (λ _. refl) name other store.files
    by false = held-failed (counted store) name other

pub held-taken : (store : Store) (name : List ℕ) (room : ℕ) (other : List ℕ) → held_in (taken store name room) other ≡ held_in store other
held-taken store name room other = by (room == 0) (next_fails store.calls)
  where
    by : (b d : Bool) → held_in (cond b store (cond d (failed (counted store) name) (record (counted store) { files = changed (passed room) name store.files }))) other ≡ held_in store other
    by true d = refl
    by false true = held-failed (counted store) name other
    by false false = related_changed (passed room) (λ _. refl) SameBytes (λ _. refl) (λ _. refl) name other store.files

-- no count falls
abbrev MoreFaults : ℕ → Option StoredFile → Option StoredFile → Type 0
MoreFaults n old new = option_map_or (λ file. file.faults) old n ≤ option_map_or (λ file. file.faults) new n

counts-failed : (store : Store) (name other : List ℕ) → faults_in store other ≤ faults_in (failed store name) other
counts-failed store name other = by (is_some (file_of store name))
  where
    rest : (o : Option StoredFile) → option_map_or (λ file. file.faults) o store.other_faults ≤ option_map_or (λ file. file.faults) o (raised store.other_faults)
    rest None = le-raised store.other_faults
    rest (Some file) = omega arith

    by : (b : Bool) → faults_in store other ≤ faults_in (cond b (record store { files = changed faulted name store.files }) (record store { other_faults = raised store.other_faults })) other
    by true = related_changed faulted (λ _. refl) (MoreFaults store.other_faults) (λ _. omega arith) (λ file. le-raised file.faults) name other store.files
    by false = rest (file_of store other)

abbrev SameFaults : ℕ → Option StoredFile → Option StoredFile → Type 0
SameFaults n old new = option_map_or (λ file. file.faults) new n ≡ option_map_or (λ file. file.faults) old n

same_faults : (store : Store) (change : StoredFile → StoredFile) → ((file : StoredFile) → (change file).name ≡ file.name) → ((file : StoredFile) → (change file).faults ≡ file.faults)
    → (name other : List ℕ) → faults_in (record (counted store) { files = changed change name store.files }) other ≡ faults_in store other
same_faults store change keeps still name other = related_changed change keeps (SameFaults store.other_faults) (λ _. refl) still name other store.files

pub counts-begun : (store : Store) (name other : List ℕ) → faults_in store other ≤ faults_in (begun store name) other
counts-begun store name other = by (can_begin store name)
  where
    by : (b : Bool) → faults_in store other ≤ faults_in (cond b (record (counted store) { files = changed rewound name store.files }) (failed (counted store) name)) other
    by true = let same = same_faults store rewound (λ _. refl) (λ _. refl) name other in omega arith
    by false = counts-failed (counted store) name other

pub counts-taken : (store : Store) (name : List ℕ) (room : ℕ) (other : List ℕ) → faults_in store other ≤ faults_in (taken store name room) other
counts-taken store name room other = by (room == 0) (next_fails store.calls)
  where
    by : (b d : Bool) → faults_in store other ≤ faults_in (cond b store (cond d (failed (counted store) name) (record (counted store) { files = changed (passed room) name store.files }))) other
    by true d = omega arith
    by false true = counts-failed (counted store) name other
    by false false = let same = same_faults store (passed room) (λ _. refl) (λ _. refl) name other in omega arith

-- a failed call raises the count of its name
rose-failed : (store : Store) (name : List ℕ) → Rose (faults_in store name) (faults_in (failed store name) name)
rose-failed store name = by (file_of store name) (same_changed faulted (λ _. refl) name store.files) refl
  where
    by : (o : Option StoredFile) → find (is_named name) (changed faulted name store.files) ≡ option_map faulted o → file_of store name ≡ o → Rose (faults_in store name) (faults_in (failed store name) name)
    by None e f = rw (f, f) (rose-raised store.other_faults)
    by (Some file) e f = rw (f, e) (rose-raised file.faults)

pub rose-begun : (store : Store) (name : List ℕ) → can_begin store name ≡ false → Rose (faults_in store name) (faults_in (begun store name) name)
rose-begun store name e = rw e (rose-failed (counted store) name)

pub rose-taken : (store : Store) (name : List ℕ) (room : ℕ) → (room == 0) ≡ false → next_fails store.calls ≡ true → Rose (faults_in store name) (faults_in (taken store name room) name)
rose-taken store name room some e = rw (some, e) (rose-failed (counted store) name)

-- it leaves the count of every other name that is there
others-failed : (store : Store) (name other : List ℕ) → other ≢ name → IsSome (held_in store other) → faults_in (failed store name) other ≡ faults_in store other
others-failed store name other ne told = by (is_some (file_of store name))
  where
    rest : (o : Option StoredFile) → IsSome (option_map (λ file. file.bytes) o) → option_map_or (λ file. file.faults) o (raised store.other_faults) ≡ option_map_or (λ file. file.faults) o store.other_faults
    rest None h = cc
    rest (Some file) h = refl

    by : (b : Bool) → faults_in (cond b (record store { files = changed faulted name store.files }) (record store { other_faults = raised store.other_faults })) other ≡ faults_in store other
    by true = ap (λ o. option_map_or (λ file. file.faults) o store.other_faults) (other_changed faulted (λ _. refl) name other store.files ne)
    by false = rest (file_of store other) told

pub others-begun : (store : Store) (name other : List ℕ) → other ≢ name → IsSome (held_in store other) → faults_in (begun store name) other ≡ faults_in store other
others-begun store name other ne told = by (can_begin store name)
  where
    by : (b : Bool) → faults_in (cond b (record (counted store) { files = changed rewound name store.files }) (failed (counted store) name)) other ≡ faults_in store other
    by true = same_faults store rewound (λ _. refl) (λ _. refl) name other
    by false = others-failed (counted store) name other ne told

pub others-taken : (store : Store) (name : List ℕ) (room : ℕ) (other : List ℕ) → other ≢ name → IsSome (held_in store other) → faults_in (taken store name room) other ≡ faults_in store other
others-taken store name room other ne told = by (room == 0) (next_fails store.calls)
  where
    by : (b d : Bool) → faults_in (cond b store (cond d (failed (counted store) name) (record (counted store) { files = changed (passed room) name store.files }))) other ≡ faults_in store other
    by true d = refl
    by false true = others-failed (counted store) name other ne told
    by false false = same_faults store (passed room) (λ _. refl) (λ _. refl) name other

-- a file that was begun has all of its bytes left
pub opens-begun : (store : Store) (name : List ℕ) → can_begin store name ≡ true → Opens (held_in store name) (Some (left_in (begun store name) name))
opens-begun store name e = rw e (by (file_of store name) (same_changed rewound (λ _. refl) name store.files) refl)
  where
    by : (o : Option StoredFile) → find (is_named name) (changed rewound name store.files) ≡ option_map rewound o → file_of store name ≡ o
        → Opens (held_in store name) (Some (left_in (record (counted store) { files = changed rewound name store.files }) name))
    by None e f = rw f tt
    by (Some file) e f = rw (f, e) refl

-- what is left after a call that took
left-taken : (store : Store) (name : List ℕ) (room : ℕ) → (room == 0) ≡ false → next_fails store.calls ≡ false → left_in (taken store name room) name ≡ drop room (left_in store name)
left-taken store name room some goes = rw (some, goes) (by (file_of store name) (same_changed (passed room) (λ _. refl) name store.files) refl)
  where
    drop_none : (n : ℕ) → [] ≡ drop {A = ℕ} n []
    drop_none n = grind (arith, common_steps)

    by : (o : Option StoredFile) → find (is_named name) (changed (passed room) name store.files) ≡ option_map (passed room) o → file_of store name ≡ o
        → left_in (record (counted store) { files = changed (passed room) name store.files }) name ≡ drop room (left_in store name)
    by None e f = rw (f, e) (drop_none room)
    by (Some file) e f = rw (f, e) refl

-- what was taken is the front of what was left, and the rest is left
pub takes-taken : (store : Store) (name : List ℕ) (old new : List ℕ) (n : ℕ) → (length old == 0) ≡ false → next_fails store.calls ≡ false → n ≡ min (length old) (length (left_in store name))
    → new ≡ take n (left_in store name) ++ drop n old → Takes (Some (left_in store name)) (Some (left_in (taken store name (length old)) name)) old new n
takes-taken store name old new n some goes count bytes =
    let left = left_in store name in
    let same : drop (length old) left ≡ drop n left = drop_least (length old) left n count in
    (omega arith, ap (λ xs. Some xs) (left-taken store name (length old) some goes ∙ same), bytes)
  where
    drop_least : (room : ℕ) (xs : List ℕ) (n : ℕ) → n ≡ min room (length xs) → drop room xs ≡ drop n xs
    drop_least room xs n e = grind (arith, common_steps)

not-true : (b : Bool) → not b ≡ true → b ≡ false
not-true true e = cc
not-true false e = refl

not-false : (b : Bool) → not b ≡ false → b ≡ true
not-false true e = refl
not-false false e = cc

-- what holds where the answer is of one kind
pub on_ok_by : {T E P : Type 0} (r : Result T E) (b : Bool) → is_ok r ≡ b → (b ≡ true → P) → OnOk r P
on_ok_by (Ok x) b e h = h (sym e)
on_ok_by (Err x) b e h = tt

pub on_err_by : {T E P : Type 0} (r : Result T E) (b : Bool) → is_ok r ≡ b → (b ≡ false → P) → OnErr r P
on_err_by (Ok x) b e h = tt
on_err_by (Err x) b e h = h (sym e)

pub takes_by : {E : Type 0} (store : Store) (name : List ℕ) (old new : List ℕ) (r : Result ℕ E) → 0 < length old → is_ok r ≡ not (next_fails store.calls)
    → IfOk r (λ n. n ≡ min (length old) (length (left_in store name))) → IfOk r (λ n. new ≡ take n (left_in store name) ++ drop n old)
    → IfOk r (λ n. Takes (Some (left_in store name)) (Some (left_in (taken store name (length old)) name)) old new n)
takes_by store name old new (Ok n) some e count bytes =
    let more : (length old == 0) ≡ false = search (rules, tests) in
    let goes : next_fails store.calls ≡ false = not-true (next_fails store.calls) (sym e) in
    takes-taken store name old new n more goes count bytes
takes_by store name old new (Err x) some e count bytes = tt

pub rose_by : {E : Type 0} (store : Store) (name : List ℕ) (room : ℕ) (r : Result ℕ E) → 0 < room → is_ok r ≡ not (next_fails store.calls)
    → OnErr r (Rose (faults_in store name) (faults_in (taken store name room) name))
rose_by store name room (Ok n) some e = tt
rose_by store name room (Err x) some e =
    let more : (room == 0) ≡ false = search (rules, tests) in
    let fails : next_fails store.calls ≡ true = not-false (next_fails store.calls) (sym e) in
    rose-taken store name room more fails
