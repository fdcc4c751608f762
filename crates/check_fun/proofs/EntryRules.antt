-- The check of an entry.
use Rattle.std.specs.Prelude.{◌≡◌, ℕ, ◌<◌, List, [], ◌∷◌, length, reverse, cond, Option, Some, None, IfSome, Result, Ok, Err, ℤ}
use mathlib.Core.Path.{sym, ap, ◌∙◌, subst}
use Rattle.silq_tree.specs.declared.node.NameId.{NameId}
use Rattle.silq_tree.specs.declared.node.Spot.{Spot}
use Rattle.silq_types.specs.Known.{Signatures, signature_of}
use Rattle.silq_types.specs.Rules.{Fault, rule, and_then}
use Rattle.silq_types.specs.declared.signature.InstanceKey.{InstanceKey}
use Rattle.silq_types.specs.declared.signature.Signature.{Signature}
use Rattle.check_fun.specs.Entry.{program_of, check_named}
use Rattle.check_scope.specs.Faults.{fault_as}
use Rattle.check_scope.specs.Headers.{spot_or}
use Rattle.check_scope.specs.Library.{Shelf, functions_of, function_at, before_at, found_at}
use Rattle.check_fun.specs.Program.{Accepted, all_headers, check_one, instances, entry_rules, check_entry}
use Rattle.silq_types.specs.Programs.{Program, earlier_than}
use Rattle.check_scope.specs.Steps.{IsFirst}
use Rattle.silq_types.specs.Calls.{find_fun}
use Rattle.check_scope.specs.Walk.{Counts}
use Rattle.check_scope.specs.declared.fault.CheckFault.{CheckFault}
use Rattle.check_expr.proofs.Alike.{same_key_refl}
use Rattle.check_fun.proofs.EntryFound.{earlier_before, length_before}
use Rattle.check_fun.proofs.Growth.{one_grows, instances_grow, none_below, none_passed}

abbrev nothing_met : Counts
nothing_met = record { walked = 0; met = [] }

abbrev entry_key : ℕ → List ℤ → InstanceKey
entry_key n statics = record { fun = record { number = n }; statics = statics }

abbrev accepted_as : Signature × Counts → Result Accepted Fault
accepted_as r = Ok (record { entry = r.0; met = r.1.met })

module _ (l : Shelf) (n : ℕ) (statics : List ℤ) (at : Spot) where
  abbrev walked : Result (Signature × Counts) Fault
  walked = check_one (instances l.words (before_at l n)) l.words (before_at l n) (function_at l n) (spot_or (Some at)) 1 (entry_key n statics) nothing_met

  -- behind its rules the entry is one instance
  entry_walk : n < length l.funs → at ≡ (function_at l n).at → entry_rules (function_at l n) statics ≡ Ok tt
      → check_entry (program_of l) statics (Some (found_at l n)) ≡ and_then walked accepted_as
  entry_walk lt place fine =
      ap (λ r. and_then r (λ u. and_then (check_one (instances l.words (earlier_than n (reverse (functions_of l)))) l.words (earlier_than n (reverse (functions_of l))) (function_at l n) (λ s. (function_at l n).at) 1 (entry_key n statics) nothing_met) accepted_as)) fine
      ∙ ap (λ before. and_then (check_one (instances l.words before) l.words before (function_at l n) (λ s. (function_at l n).at) 1 (entry_key n statics) nothing_met) accepted_as) (earlier_before l n lt)
      ∙ ap (λ (p : Spot). and_then (check_one (instances l.words (before_at l n)) l.words (before_at l n) (function_at l n) (λ s. p) 1 (entry_key n statics) nothing_met) accepted_as) (sym place)

  entry_refused : (f : CheckFault) → n < length l.funs → at ≡ (function_at l n).at → entry_rules (function_at l n) statics ≡ Ok tt
      → IsFirst f walked → IsFirst f (check_entry (program_of l) statics (Some (found_at l n)))
  entry_refused f lt place fine first = go (fault_as f) (entry_walk lt place fine) first
    where
      go : {r : Result Accepted Fault} (o : Option Fault) → r ≡ and_then walked accepted_as → IfSome o (λ first. walked ≡ Err first) → IfSome o (λ first. r ≡ Err first)
      go None e h = tt
      go (Some first) e h = e ∙ ap (λ r. and_then r accepted_as) h

  entry_accepted : (s : Signature) (c : Counts) → n < length l.funs → at ≡ (function_at l n).at → entry_rules (function_at l n) statics ≡ Ok tt
      → walked ≡ Ok (s, c)
      → (s : Signature) × (check_entry (program_of l) statics (Some (found_at l n)) ≡ Ok (record { entry = s; met = c.met })) × (signature_of c.met (entry_key n statics) ≡ Some s)
  entry_accepted s c lt place fine e =
      let grown = one_grows (instances l.words (before_at l n)) l.words (before_at l n) (function_at l n) (spot_or (Some at)) (instances_grow l.words (before_at l n)) 1 (entry_key n statics) nothing_met (s, c) (sym (length_before l n lt)) e in
      let last : signature_of ((entry_key n statics, s) ∷ []) (entry_key n statics) ≡ Some s = ap (λ b. cond b (Some s) None) (same_key_refl (entry_key n statics)) in (
        s,
        entry_walk lt place fine ∙ ap (λ r. and_then r accepted_as) e,
        ap (λ m. signature_of m (entry_key n statics)) grown.0.1 ∙ none_passed grown.0.0 ((entry_key n statics, s) ∷ []) (entry_key n statics) (none_below grown.0.0 (entry_key n statics) grown.0.2) ∙ last,
      )

  -- the same of a key, a count and signatures that are these
  abbrev walked_of : InstanceKey → Counts → Result (Signature × Counts) Fault
  walked_of k c = check_one (instances l.words (before_at l n)) l.words (before_at l n) (function_at l n) (spot_or (Some at)) 1 k c

  walked_same : (k : InstanceKey) (c : Counts) → k ≡ entry_key n statics → c ≡ nothing_met → walked_of k c ≡ walked
  walked_same k c e f = ap (λ k. walked_of k c) e ∙ ap (walked_of (entry_key n statics)) f

  pub walk_refused : (f : CheckFault) (k : InstanceKey) (c : Counts) → n < length l.funs → at ≡ (function_at l n).at → entry_rules (function_at l n) statics ≡ Ok tt
      → k ≡ entry_key n statics → c ≡ nothing_met → IsFirst f (walked_of k c) → IsFirst f (check_entry (program_of l) statics (Some (found_at l n)))
  walk_refused f k c lt place fine key none first = entry_refused f lt place fine (subst (λ r. IsFirst f r) (walked_same k c key none) first)

  pub walk_accepted : (k entry : InstanceKey) (c d : Counts) (known : Signatures) → n < length l.funs → at ≡ (function_at l n).at → entry_rules (function_at l n) statics ≡ Ok tt
      → k ≡ entry_key n statics → entry ≡ entry_key n statics → c ≡ nothing_met → known ≡ d.met
      → (s : Signature) × (walked_of k c ≡ Ok (s, d))
      → (s : Signature) × (check_entry (program_of l) statics (Some (found_at l n)) ≡ Ok (record { entry = s; met = known })) × (signature_of known entry ≡ Some s)
  walk_accepted k entry c d known lt place fine key same none all r =
      let a = entry_accepted r.0 d lt place fine (sym (walked_same k c key none) ∙ r.1) in
      (a.0, a.1 ∙ ap (λ (m : Signatures). Ok (record { entry = a.0; met = m })) (sym all), ap (λ m. signature_of m entry) all ∙ ap (signature_of d.met) same ∙ a.2)

-- ---- behind the headers

headers_first : (program : Program) (name : Option NameId) (statics : List ℤ) (f : CheckFault) → IsFirst f (all_headers program.words [] program.funs) → IsFirst f (check_named program name statics)
headers_first program None statics f first = go (fault_as f) first
  where
    go : (o : Option Fault) → IfSome o (λ first. all_headers program.words [] program.funs ≡ Err first) → IfSome o (λ first. check_named program None statics ≡ Err first)
    go None h = tt
    go (Some first) h = ap (λ r. and_then r (λ u. Err (rule 1 (record { line = 1; col = 1 })))) h
headers_first program (Some name) statics f first = go (fault_as f) first
  where
    go : (o : Option Fault) → IfSome o (λ first. all_headers program.words [] program.funs ≡ Err first) → IfSome o (λ first. check_named program (Some name) statics ≡ Err first)
    go None h = tt
    go (Some first) h = ap (λ r. and_then r (λ u. check_entry program statics (find_fun (reverse program.funs) name))) h

entry_first : (program : Program) (name : NameId) (statics : List ℤ) (f : CheckFault) → all_headers program.words [] program.funs ≡ Ok tt
    → IsFirst f (check_entry program statics (find_fun (reverse program.funs) name)) → IsFirst f (check_named program (Some name) statics)
entry_first program name statics f fine first = subst (λ r. IsFirst f (and_then r (λ u. check_entry program statics (find_fun (reverse program.funs) name)))) (sym fine) first

pub headers_refused : (l whole : Shelf) (name : Option NameId) (statics : List ℤ) (f : CheckFault) → l ≡ whole → IsFirst f (all_headers l.words [] (functions_of l)) → IsFirst f (check_named (program_of whole) name statics)
headers_refused l whole name statics f same first = subst (λ l. IsFirst f (check_named (program_of l) name statics)) same (headers_first (program_of l) name statics f first)

pub named_refused : (l whole : Shelf) (o p : Option NameId) (name : NameId) (statics : List ℤ) (f : CheckFault) → l ≡ whole → o ≡ p → o ≡ Some name
    → all_headers l.words [] (functions_of l) ≡ Ok tt → IsFirst f (check_entry (program_of l) statics (find_fun (reverse (functions_of l)) name)) → IsFirst f (check_named (program_of whole) p statics)
named_refused l whole o p name statics f same text there fine first =
    subst (λ p. IsFirst f (check_named (program_of whole) p statics)) (sym there ∙ text)
    (subst (λ l. IsFirst f (check_named (program_of l) (Some name) statics)) same (entry_first (program_of l) name statics f fine first))
