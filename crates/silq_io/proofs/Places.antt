-- The first file with a name, by its place.
use Rattle.std.proofs.Common.{◌≡◌, ℕ, zero, suc, ◌<◌, ◌≤◌, Bool, true, false, not, ◌&&◌, cond, is_some, List, [], ◌∷◌, length, Some, None, find, position, get_or, set, slice_get, drop, ◌==◌, nat_lt, string_bytes, refl, sym, ◌∙◌, ap, arith, rules, tests}
use Rattle.std.specs.List.{position_or_len}
use Rattle.std.specs.Str.{bytes_eq}
use Rattle.std.specs.declared.alloc.Global.{Global}
use Rattle.std.specs.declared.string.String.{String}
use Rattle.std.specs.declared.vec.Vec.{Vec}
use Rattle.std.proofs.lemmas.List.Folds.{find_at as find_at_first}
use Rattle.std.proofs.lemmas.List.Quantifiers.{position-Some}
use Rattle.silq_io.specs.Counts.{raised, next_fails}
use Rattle.silq_io.specs.Memory.{StoredFile, Store, is_named, changed, file_of, held_in, failed, counted, can_begin, begun, left_in, taken, stored, named_bytes, first_bytes}

-- a change of the first file that passes is a write at its place
change_at : (change : StoredFile → StoredFile) (name : List ℕ) (files : List StoredFile) (i : ℕ) (d : StoredFile) → i < length files → is_named name (get_or files i d) ≡ true
    → ((k : ℕ) → k < i → is_named name (get_or files k d) ≡ false) → changed change name files ≡ set files i (change (get_or files i d))
change_at change name [] i d l y n = absurd (omega arith)
change_at change name (file ∷ files) zero d l y n = rw y refl
change_at change name (file ∷ files) (suc i) d l y n =
    let first : is_named name file ≡ false = n 0 (omega arith) in
    rw first (ap (λ rest. file ∷ rest) (change_at change name files i d (omega arith) y (λ k h. n (suc k) (omega arith))))

find_at : (name : List ℕ) (files : List StoredFile) (i : ℕ) (d : StoredFile) → i < length files → is_named name (get_or files i d) ≡ true
    → ((k : ℕ) → k < i → is_named name (get_or files k d) ≡ false) → find (is_named name) files ≡ Some (get_or files i d)
find_at name [] i d l y n = absurd (omega arith)
find_at name (file ∷ files) zero d l y n = rw y refl
find_at name (file ∷ files) (suc i) d l y n =
    let first : is_named name file ≡ false = n 0 (omega arith) in
    rw first (find_at name files i d (omega arith) y (λ k h. n (suc k) (omega arith)))

pub changed_at : (change : StoredFile → StoredFile) (name : List ℕ) (files : List StoredFile) (i : ℕ) (file : StoredFile) → position (is_named name) files ≡ Some i → file ≡ get_or files i file
    → changed change name files ≡ set files i (change file)
changed_at change name files i file e at =
    let p = position-Some (is_named name) files i file e in
    change_at change name files i file p.0 p.1 p.2 ∙ ap (λ x. set files i (change x)) (sym at)

pub found_at : (name : List ℕ) (files : List StoredFile) (i : ℕ) (file : StoredFile) → position (is_named name) files ≡ Some i → file ≡ get_or files i file
    → find (is_named name) files ≡ Some file
found_at name files i file e at =
    let p = position-Some (is_named name) files i file e in
    find_at name files i file p.0 p.1 p.2 ∙ ap (λ x. Some x) (sym at)

at_none : {A : Type 0} (b : Bool) (x : A) → cond b (Some x) None ≡ None → b ≡ false
at_none true x e = cc
at_none false x e = refl

get_past : (files : List StoredFile) (n : ℕ) → length files ≤ n → slice_get files n ≡ None
get_past [] n l = refl
get_past (file ∷ files) zero l = absurd (omega arith)
get_past (file ∷ files) (suc n) l = get_past files n (omega arith)

pub found_nowhere : (name : List ℕ) (files : List StoredFile) → position (is_named name) files ≡ None → find (is_named name) files ≡ None
found_nowhere name files e =
    let past : nat_lt (position_or_len (is_named name) files) (length files) ≡ false = at_none _ _ e in
    let end : length files ≤ position_or_len (is_named name) files = search (rules, tests) in
    find_at_first (is_named name) files ∙ get_past files _ end

-- a fault counted at the file that stands at the place of a name
pub failed_at : (store : Store) (name : List ℕ) (i : ℕ) (file : StoredFile) → position (is_named name) store.files ≡ Some i → file ≡ get_or store.files i file
    → record store { files = set store.files i (record file { faults = raised file.faults }) } ≡ failed store name
failed_at store name i file e at =
    let there : file_of store name ≡ Some file = found_at name store.files i file e at in
    let same = changed_at (λ f. record f { faults = raised f.faults }) name store.files i file e at in
    rw (there, same) refl

pub failed_nowhere : (store : Store) (name : List ℕ) → position (is_named name) store.files ≡ None
    → record store { other_faults = raised store.other_faults } ≡ failed store name
failed_nowhere store name e = rw (found_nowhere name store.files e) refl

held_first : (pair : String Global × Vec ℕ Global) (pairs : List (String Global × Vec ℕ Global)) (fails : List ℕ) (name : List ℕ) (b : Bool) → bytes_eq (string_bytes pair.0) name ≡ b
    → held_in (stored pairs fails) name ≡ first_bytes (named_bytes pairs) name → held_in (stored (pair ∷ pairs) fails) name ≡ first_bytes (named_bytes (pair ∷ pairs)) name
held_first pair pairs fails name true e h = rw e refl
held_first pair pairs fails name false e h = rw e h

-- what is held of files of which none was begun
pub held-stored : (pairs : List (String Global × Vec ℕ Global)) (fails : List ℕ) (name : List ℕ) → held_in (stored pairs fails) name ≡ first_bytes (named_bytes pairs) name
held-stored [] fails name = refl
held-stored (pair ∷ pairs) fails name = held_first pair pairs fails name _ refl (held-stored pairs fails name)

-- a call that is not to fail begins the file that stands at the place of a name
pub can_begin_at : (store : Store) (name : List ℕ) (i : ℕ) (file : StoredFile) → position (is_named name) store.files ≡ Some i → file ≡ get_or store.files i file → next_fails store.calls ≡ false
    → can_begin store name ≡ true
can_begin_at store name i file e at goes =
    let there : file_of store name ≡ Some file = found_at name store.files i file e at in
    rw (there, goes) refl

pub begun_at : (store : Store) (name : List ℕ) (i : ℕ) (file : StoredFile) → position (is_named name) store.files ≡ Some i → file ≡ get_or store.files i file → next_fails store.calls ≡ false
    → record (counted store) { files = set store.files i (record file { left = file.bytes }) } ≡ begun store name
begun_at store name i file e at goes =
    let can = can_begin_at store name i file e at goes in
    let same = changed_at (λ f. record f { left = f.bytes }) name store.files i file e at in
    rw (can, same) refl

pub cannot_by_call : (store : Store) (name : List ℕ) → next_fails store.calls ≡ true → can_begin store name ≡ false
cannot_by_call store name e = rw e (both (is_some (file_of store name)))
  where
    both : (b : Bool) → (b && not true) ≡ false
    both true = refl
    both false = refl

pub cannot_by_name : (store : Store) (name : List ℕ) → position (is_named name) store.files ≡ None → can_begin store name ≡ false
cannot_by_name store name e = rw (found_nowhere name store.files e) refl

pub begun_not : (store : Store) (name : List ℕ) → can_begin store name ≡ false → failed (counted store) name ≡ begun store name
begun_not store name e = rw e refl

changed_nowhere : (change : StoredFile → StoredFile) (name : List ℕ) (files : List StoredFile) → find (is_named name) files ≡ None → changed change name files ≡ files
changed_nowhere change name [] e = refl
changed_nowhere change name (file ∷ files) e = by_test change name file files _ refl e (changed_nowhere change name files)
  where
    by_test : (change : StoredFile → StoredFile) (name : List ℕ) (file : StoredFile) (files : List StoredFile) (b : Bool) → is_named name file ≡ b → find (is_named name) (file ∷ files) ≡ None
        → (find (is_named name) files ≡ None → changed change name files ≡ files) → changed change name (file ∷ files) ≡ file ∷ files
    by_test change name file files true t e h = let no : Some file ≡ None = rw t at e in cc
    by_test change name file files false t e h = rw t (ap (λ rest. file ∷ rest) (h (rw t at e)))

-- what is left of the file that stands at the place of a name
pub left_at : (store : Store) (name : List ℕ) (i : ℕ) (file : StoredFile) → position (is_named name) store.files ≡ Some i → file ≡ get_or store.files i file → left_in store name ≡ file.left
left_at store name i file e at = rw (found_at name store.files i file e at) refl

pub left_nowhere : (store : Store) (name : List ℕ) → position (is_named name) store.files ≡ None → left_in store name ≡ []
left_nowhere store name e = rw (found_nowhere name store.files e) refl

-- a call that is not to fail takes from the file that stands at the place of a name
pub taken_at : (store : Store) (name : List ℕ) (i : ℕ) (file : StoredFile) (room : ℕ) → position (is_named name) store.files ≡ Some i → file ≡ get_or store.files i file
    → next_fails store.calls ≡ false → 0 < room → record (counted store) { files = set store.files i (record file { left = drop room file.left }) } ≡ taken store name room
taken_at store name i file room e at goes some =
    let same = changed_at (λ f. record f { left = drop room f.left }) name store.files i file e at in
    let more : (room == 0) ≡ false = search (rules, tests) in
    rw (more, goes, same) refl

pub taken_nowhere : (store : Store) (name : List ℕ) (room : ℕ) → position (is_named name) store.files ≡ None → next_fails store.calls ≡ false → 0 < room → counted store ≡ taken store name room
taken_nowhere store name room e goes some =
    let same = changed_nowhere (λ f. record f { left = drop room f.left }) name store.files (found_nowhere name store.files e) in
    let more : (room == 0) ≡ false = search (rules, tests) in
    rw (more, goes, same) refl
