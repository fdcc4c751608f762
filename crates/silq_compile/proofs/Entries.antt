-- What the check of a text tells of its entry.
use Rattle.std.proofs.Common.{◌≡◌, ℕ, ◌+◌, ◌<◌, ◌≤◌, List, [], ◌∷◌, length, Option, Some, None, Result, Ok, Err, IfSome, ℤ, reverse, sym, subst, ap, ◌∙◌, arith}
use Rattle.std.specs.Prelude.{option_and_then}
use Rattle.silq_tree.specs.declared.node.FunId.{FunId}
use Rattle.silq_tree.specs.declared.node.NameId.{NameId}
use Rattle.silq_tree.specs.Arena.{Forest, program_at}
use Rattle.silq_grammar.specs.Trees.{program_tree}
use Rattle.silq_parse.specs.Faults.{first_fault}
use Rattle.silq_parse.specs.Functions.{AreInOrder}
use Rattle.silq_parse.specs.Stands.{StandsFor}
use Rattle.silq_types.specs.Calls.{Found, find_fun}
use Rattle.silq_types.specs.Programs.{Program as Tree}
use Rattle.silq_types.specs.Rules.{Fault}
use Rattle.silq_types.specs.Words.{words_of}
use Rattle.silq_mean.specs.Table.{Job, job_of}
use Rattle.flat_form.specs.Jobs.{FineJob, EndsWell}
use Rattle.tree_walk.specs.Seen.{job_at}
use Rattle.check_scope.specs.declared.fault.CheckFault.{CheckFault}
use Rattle.check_scope.specs.Faults.{fault_as}
use Rattle.check_scope.specs.Library.{AreFunsBelow, Shelf, found_at, functions_of}
use Rattle.check_scope.specs.Steps.{IsFirst}
use Rattle.check_fun.specs.Entry.{check_named, number_of_name}
use Rattle.check_fun.specs.Program.{Accepted}
use Rattle.flat_typed.proofs.Every.{accepted_is_flattenable}
use Rattle.silq_compile.specs.Sources.{Source, Answers, OfAccepted, job_in, job_named}

-- ---- programs on a shelf

abbrev pub tree_on : Shelf → Tree
tree_on l = record { words = l.words; funs = functions_of l }

no_some : {A : Type 0} (x : A) → None ≡ Some x → ⊥
no_some x e = absurd (cc)

-- the entry that was found has the job of its name
pub found_job : (l : Shelf) (o : Option NameId) (n : ℕ) (statics values : List ℤ) → option_and_then (find_fun (reverse (functions_of l))) o ≡ Some (found_at l n) → values ≡ statics
    → job_named (tree_on l) o statics ≡ job_at l n values
found_job l None n statics values e same = absurd (no_some (found_at l n) e)
found_job l (Some name) n statics values e same =
    ap (λ (g : Option Found). job_of (tree_on l) statics g) e ∙ ap (λ vs. job_of (tree_on l) vs (Some (found_at l n))) (sym same)

-- and is one that flattening can take
pub found_fine : (l : Shelf) (o : Option NameId) (n : ℕ) (statics values : List ℤ) (a : Accepted) → check_named (tree_on l) o statics ≡ Ok a → option_and_then (find_fun (reverse (functions_of l))) o ≡ Some (found_at l n) → values ≡ statics
    → FineJob (job_at l n values) × EndsWell (job_at l n values)
found_fine l None n statics values a is e same = absurd (no_some (found_at l n) e)
found_fine l (Some name) n statics values a is e same =
    subst (λ j. FineJob j × EndsWell j) (found_job l (Some name) n statics values e same) (accepted_is_flattenable (tree_on l) name statics a is)

-- functions whose numbers count up are those of the arena
pub funs_below : (n m : ℕ) (ids : List FunId) → AreInOrder n ids → n + length ids ≤ m → AreFunsBelow m ids
funs_below n m [] h l = tt
funs_below n m (id ∷ ids) h l =
    let first : id.number < m = omega (arith, h.0, l) in
    let rest : n + 1 + length ids ≤ m = omega (arith, l) in
    (first, funs_below (n + 1) m ids h.1 rest)

-- ---- texts

module _ (text entry : List ℕ) (statics : List ℤ) (nodes : Forest) (names : List (List ℕ)) (funs : List FunId) (fine : first_fault text ≡ None) (stands : StandsFor text nodes names funs) where
  abbrev source : Source
  source = record { text = text; entry = entry; statics = statics }

  abbrev whole : Shelf
  whole = record { nodes = nodes; words = words_of names; funs = funs }

  -- what the check of the parser's program answers is what that of the text answers
  pub answers : (answer : Result Accepted Fault) → check_named (tree_on whole) (number_of_name names entry) statics ≡ answer → Answers source answer
  answers answer e = record {
    no_fault = fine;
    derivation = stands.parsed.derivation;
    spelled = stands.parsed.spelled;
    is = subst (λ ns. check_named (record { words = words_of ns; funs = program_tree stands.parsed.derivation }) (number_of_name ns entry) statics ≡ answer) stands.named
        (subst (λ tree. check_named (record { words = words_of names; funs = tree }) (number_of_name names entry) statics ≡ answer) stands.parsed.stands e);
  }

  pub refuted : (fault : CheckFault) → IsFirst fault (check_named (tree_on whole) (number_of_name names entry) statics) → IfSome (fault_as fault) (λ first. Answers source (Err first))
  refuted fault h = by (fault_as fault) h
    where
      by : (o : Option Fault) → IfSome o (λ first. check_named (tree_on whole) (number_of_name names entry) statics ≡ Err first) → IfSome o (λ first. Answers source (Err first))
      by None g = tt
      by (Some first) g = answers (Err first) g

  module _ (l : Shelf) (is_whole : l ≡ whole) (n : ℕ) (values : List ℤ) (a : Accepted) (is : check_named (tree_on whole) (number_of_name names entry) statics ≡ Ok a)
      (found : option_and_then (find_fun (reverse (functions_of l))) (number_of_name names entry) ≡ Some (found_at l n)) (same : values ≡ statics) where
    pub entry_fine : FineJob (job_at l n values) × EndsWell (job_at l n values)
    entry_fine = found_fine l (number_of_name names entry) n statics values a (subst (λ k. check_named (tree_on k) (number_of_name names entry) statics ≡ Ok a) (sym is_whole) is) found same

    -- what holds of its job holds of what the entry means
    pub told : (P : Job → Type 0) → P (job_at l n values) → OfAccepted P source
    unfolding answers
    told P h = record {
      accepted = a;
      checked = answers (Ok a) is;
      holds = subst (λ ns. P (job_named (record { words = words_of ns; funs = program_tree stands.parsed.derivation }) (number_of_name ns entry) statics)) stands.named
          (subst (λ tree. P (job_named (record { words = words_of names; funs = tree }) (number_of_name names entry) statics)) stands.parsed.stands
          (subst (λ k. P (job_named (tree_on k) (number_of_name names entry) statics)) is_whole
          (subst P (sym (found_job l (number_of_name names entry) n statics values found same)) h)));
    }
