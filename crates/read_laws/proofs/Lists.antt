-- Reading the comment lines of lists, one after another.
use Rattle.std.proofs.Common.{◌≡◌, ◌≢◌, ℕ, suc, ◌+◌, ◌<◌, ◌^◌, Bool, true, false, not, ◌&&◌, List, [], ◌∷◌, ◌++◌, map, Some, None, ◌==◌, decimal, length, append_assoc, append-nil, length-append, refl, sym, ◌∙◌, ap, subst, arith}
use Rattle.std.specs.Prelude.{codes, bytes_eq, flat_map, option_and_then, All}
use Rattle.std.specs.List.{list_all}
use Rattle.std.proofs.lemmas.List.Elements.{All-head, All-tail}
use Rattle.silq_lex.specs.declared.token.Place.{Place}
use Rattle.silq_lex.specs.Characters.{is_digit}
use Rattle.silq_lex.specs.Tokens.{behind_all}
use Rattle.silq_lex.proofs.Passing.{behind_all-append}
use Rattle.silq_lex.proofs.Texts.{and_true}
use Rattle.gate_core.specs.declared.gate.Gate.{Gate}
use Rattle.gate_core.specs.Local.{AllDiffer, AllBelow}
use Rattle.qasm_write.specs.Written.{qubit_text, qubit_texts, list_line, list_lines}
use Rattle.qasm_tokens.specs.Tokens.{line, comment, front_of, marks_from}
use Rattle.qasm_tokens.proofs.Steps.{run_before, marks_of_front}
use Rattle.qasm_read.specs.Registers.{Register}
use Rattle.qasm_read.specs.State.{State}
use Rattle.qasm_read.specs.Lines.{between_spaces, is_written, qubits_named, if_new, named_by, add_list, with_line}
use Rattle.read_laws.proofs.Decimals.{digits_of, is_low, digits_are}
use Rattle.read_laws.proofs.Parts.{is_ascii, all_both, ascii_append, digits_ascii}
use Rattle.read_laws.proofs.Lines.{Reads, items, read_on, read_line, reads_nothing, reads_both, behind_feed, marks_of_feed}
use Rattle.read_laws.proofs.Registers.{qubit_registers}
use Rattle.read_laws.proofs.Statements.{state_of}
use Rattle.read_laws.proofs.Differ.{front_differs, below_front, below_back}
use Rattle.read_laws.proofs.Comments.{no_space, next_word, words_of, number_no_space, number_is_written, qubits_read, new_list}

-- ---- a comment line

abbrev no_feed : ℕ → Bool
no_feed c = not (c == 10)

-- a line that begins with //
record IsComment (text : List ℕ) : Type 0 where
  behind : List ℕ
  begins : text ≡ 47 ∷ 47 ∷ behind
  one_line : list_all no_feed behind ≡ true
  ascii : list_all is_ascii behind ≡ true

comment_front : (cs rest : List ℕ) → list_all no_feed cs ≡ true → front_of 47 ((47 ∷ cs) ++ 10 ∷ rest) ≡ comment (47 ∷ 47 ∷ cs)
comment_front cs rest h = ap (λ z. comment (47 ∷ 47 ∷ z)) (run_before no_feed cs 10 rest h refl)

comment_marks : (cs rest : List ℕ) (at : Place) → list_all no_feed cs ≡ true → at.col ≡ 1
    → marks_from at ((47 ∷ 47 ∷ cs) ++ 10 ∷ rest) ≡ line (47 ∷ 47 ∷ cs) ∷ marks_from (behind_all at ((47 ∷ 47 ∷ cs) ++ 10 ∷ [])) rest
comment_marks cs rest at h c =
    let first : marks_from at ((47 ∷ 47 ∷ cs) ++ 10 ∷ rest) ≡ line (47 ∷ 47 ∷ cs) ∷ marks_from (behind_all at (47 ∷ 47 ∷ cs)) (10 ∷ rest) =
    marks_of_front at 47 (47 ∷ cs) (10 ∷ rest) (comment (47 ∷ 47 ∷ cs)) (comment_front cs rest h) refl ∙ rw c refl in
    first ∙ ap (λ ms. line (47 ∷ 47 ∷ cs) ∷ ms) (marks_of_feed (behind_all at (47 ∷ 47 ∷ cs)) rest
    ∙ ap (λ p. marks_from p rest) (sym (behind_all-append (47 ∷ 47 ∷ cs) (10 ∷ []) at)))

comment_read : (s : State) (cs : List ℕ) → list_all no_feed cs ≡ true → list_all is_ascii cs ≡ true
    → Reads items s (with_line s (47 ∷ 47 ∷ cs)) ((47 ∷ 47 ∷ cs) ++ 10 ∷ [])
comment_read s cs h a = record {
  goes = λ end at rest c.
      ap (read_on end items s at) (append_assoc (47 ∷ 47 ∷ cs) (10 ∷ []) rest)
      ∙ read_line end at (behind_all at ((47 ∷ 47 ∷ cs) ++ 10 ∷ [])) s (47 ∷ 47 ∷ cs) ((47 ∷ 47 ∷ cs) ++ 10 ∷ rest) rest (comment_marks cs rest at h c);
  lines = λ at c. behind_feed (47 ∷ 47 ∷ cs) at;
  ascii = ascii_append (47 ∷ 47 ∷ cs) (10 ∷ []) a refl;
}

-- ---- the line of a list

abbrev numbered : List ℕ → ℕ → List ℕ → List ℕ
numbered kind number qs = kind ++ 32 ∷ (decimal number ++ qubit_texts qs)

abbrev pub comment_text : List ℕ → ℕ → List ℕ → List ℕ
comment_text kind number qs = codes "// silqc " ++ numbered kind number qs

line_text : (kind : List ℕ) (number : ℕ) (qs : List ℕ) → list_line kind number qs ≡ comment_text kind number qs ++ 10 ∷ []
line_text kind number qs = simp append_assoc

-- a test that the characters of lists pass
record Passes (test : ℕ → Bool) : Type 0 where
  digit : (c : ℕ) → is_digit c ≡ true → test c ≡ true
  space : test 32 ≡ true
  name : list_all test (113 ∷ 91 ∷ []) ≡ true
  close : list_all test (93 ∷ []) ≡ true

qubits_pass : (test : ℕ → Bool) → Passes test → (qs : List ℕ) → AllBelow (2 ^ 64) qs → list_all test (qubit_texts qs) ≡ true
qubits_pass test p [] h = refl
qubits_pass test p (q ∷ qs) h =
    and_true _ _ p.space (all_both test (qubit_text q) (qubit_texts qs)
    (all_both test (113 ∷ 91 ∷ []) (decimal q ++ 93 ∷ []) p.name (all_both test (decimal q) (93 ∷ []) (digits_are test p.digit (decimal q)
    (digits_of q h.0)) p.close))
    (qubits_pass test p qs h.1))

numbered_pass : (test : ℕ → Bool) → Passes test → (kind : List ℕ) (number : ℕ) (qs : List ℕ) → list_all test kind ≡ true → number < 2 ^ 64
    → AllBelow (2 ^ 64) qs
    → list_all test (numbered kind number qs) ≡ true
numbered_pass test p kind number qs k h b =
    all_both test kind (32 ∷ (decimal number ++ qubit_texts qs)) k (and_true _ _ p.space
    (all_both test (decimal number) (qubit_texts qs) (digits_are test p.digit (decimal number) (digits_of number h)) (qubits_pass test p qs b)))

digit_no_feed : (c : ℕ) → is_digit c ≡ true → no_feed c ≡ true
digit_no_feed c e = ap not (is_low c 10 (omega arith) e)

digit_is_ascii : (c : ℕ) → is_digit c ≡ true → is_ascii c ≡ true
digit_is_ascii c e = let all : list_all is_ascii (c ∷ []) ≡ true = digits_ascii (c ∷ []) (and_true _ _ e refl) in of (is_ascii c) all
  where
    of : (b : Bool) → (b && true) ≡ true → b ≡ true
    of true f = refl
    of false f = f

feed_passes : Passes no_feed
feed_passes = record { digit = digit_no_feed; space = refl; name = refl; close = refl }

ascii_passes : Passes is_ascii
ascii_passes = record { digit = digit_is_ascii; space = refl; name = refl; close = refl }

-- what is asked of the word of a kind of lists
pub record IsKind (kind : List ℕ) : Type 0 where
  pub one_word : list_all no_space kind ≡ true
  pub one_line : list_all no_feed kind ≡ true
  pub ascii : list_all is_ascii kind ≡ true

pub line_read : (s : State) (kind : List ℕ) (number : ℕ) (qs : List ℕ) → IsKind kind → number < 2 ^ 64 → AllBelow (2 ^ 64) qs
    → Reads items s (with_line s (comment_text kind number qs)) (list_line kind number qs)
line_read s kind number qs k h b =
    rw (line_text kind number qs) (comment_read s (codes " silqc " ++ numbered kind number qs)
    (all_both no_feed (codes " silqc ") (numbered kind number qs) refl (numbered_pass no_feed feed_passes kind number qs k.one_line h b))
    (all_both is_ascii (codes " silqc ") (numbered kind number qs) refl (numbered_pass is_ascii ascii_passes kind number qs k.ascii h b)))

pub line_words : (kind : List ℕ) (number : ℕ) (qs : List ℕ) → IsKind kind → number < 2 ^ 64 → AllBelow (2 ^ 64) qs
    → between_spaces (comment_text kind number qs) ≡ codes "//" ∷ codes "silqc" ∷ kind ∷ decimal number ∷ map qubit_text qs
line_words kind number qs k h b =
    ap (λ ws. codes "//" ∷ codes "silqc" ∷ ws) (next_word kind (decimal number ++ qubit_texts qs) k.one_word
    ∙ ap (λ ws. kind ∷ ws) (words_of (decimal number) qs (number_no_space number h) b))

-- ---- what it names

named_as : (registers : List Register) (kind : List ℕ) (lists : List (List ℕ)) (number first : List ℕ) (more : List (List ℕ)) (qs : List ℕ)
    → bytes_eq kind kind ≡ true
    → is_written number (length lists) ≡ true → qubits_named registers (first ∷ more) ≡ Some qs → if_new lists qs ≡ Some qs
    → named_by registers kind lists (codes "//" ∷ codes "silqc" ∷ kind ∷ number ∷ first ∷ more) ≡ Some qs
named_as registers kind lists number first more qs h w r f =
    let goes : named_by registers kind lists (codes "//" ∷ codes "silqc" ∷ kind ∷ number ∷ first ∷ more) ≡ option_and_then (λ l. if_new lists l)
    (qubits_named registers (first ∷ more)) =
    rw (h, w) refl in
    goes ∙ ap (option_and_then (λ l. if_new lists l)) r ∙ f

below_word : (n : ℕ) (qs : List ℕ) → n < 2 ^ 32 → AllBelow n qs → AllBelow (2 ^ 64) qs
below_word n [] f h = tt
below_word n (q ∷ qs) f h = (let l : q < n = h.0 in omega arith, below_word n qs f h.1)

-- the list is next in its kind
pub record IsNext (n : ℕ) (done : List (List ℕ)) (qs : List ℕ) : Type 0 where
  pub some : qs ≢ []
  pub in_range : AllBelow n qs
  pub differ : AllDiffer (flat_map (λ l. l) done ++ qs)
  pub few : length done < 2 ^ 64

module _ (n b : ℕ) (gates : List Gate) (few : n < 2 ^ 32) where
  named_next : (kind : List ℕ) (done : List (List ℕ)) (qs : List ℕ) → bytes_eq kind kind ≡ true → IsNext n done qs
      → named_by (qubit_registers n) kind done (codes "//" ∷ codes "silqc" ∷ kind ∷ decimal (length done) ∷ map qubit_text qs) ≡ Some qs
  named_next kind done [] h k = absurd (k.some refl)
  named_next kind done (q ∷ qs) h k =
      named_as (qubit_registers n) kind done (decimal (length done)) (qubit_text q) (map qubit_text qs) (q ∷ qs) h (number_is_written (length done) k.few)
      (qubits_read n (q ∷ qs) k.in_range few) (new_list done (q ∷ qs) k.differ)

  in_kind : IsKind (codes "in")
  in_kind = record { one_word = refl; one_line = refl; ascii = refl }

  out_kind : IsKind (codes "out")
  out_kind = record { one_word = refl; one_line = refl; ascii = refl }

  abbrev with_words : State → List (List ℕ) → State
  with_words s ws = record s {
    ins = add_list s.ins (named_by s.qubits (codes "in") s.ins ws);
    outs = add_list s.outs (named_by s.qubits (codes "out") s.outs ws);
  }

  not_out : (outs : List (List ℕ)) (number : List ℕ) (more : List (List ℕ))
      → named_by (qubit_registers n) (codes "out") outs (codes "//" ∷ codes "silqc" ∷ codes "in" ∷ number ∷ more) ≡ None
  not_out outs number [] = refl
  not_out outs number (w ∷ ws) = refl

  not_in : (ins : List (List ℕ)) (number : List ℕ) (more : List (List ℕ))
      → named_by (qubit_registers n) (codes "in") ins (codes "//" ∷ codes "silqc" ∷ codes "out" ∷ number ∷ more) ≡ None
  not_in ins number [] = refl
  not_in ins number (w ∷ ws) = refl

  in_next : (outs done : List (List ℕ)) (qs : List ℕ) → IsNext n done qs
      → with_line (state_of n b gates done outs) (comment_text (codes "in") (length done) qs) ≡ state_of n b gates (done ++ qs ∷ []) outs
  in_next outs done qs h =
      ap (with_words (state_of n b gates done outs)) (line_words (codes "in") (length done) qs in_kind h.few (below_word n qs few h.in_range))
      ∙ ap (λ x. state_of n b gates (add_list done (named_by (qubit_registers n) (codes "in") done
      (codes "//" ∷ codes "silqc" ∷ codes "in" ∷ decimal (length done) ∷ map qubit_text qs))) (add_list outs x)) (not_out outs (decimal (length done))
      (map qubit_text qs))
      ∙ ap (λ x. state_of n b gates (add_list done x) outs) (named_next (codes "in") done qs refl h)

  out_next : (ins done : List (List ℕ)) (qs : List ℕ) → IsNext n done qs
      → with_line (state_of n b gates ins done) (comment_text (codes "out") (length done) qs) ≡ state_of n b gates ins (done ++ qs ∷ [])
  out_next ins done qs h =
      ap (with_words (state_of n b gates ins done)) (line_words (codes "out") (length done) qs out_kind h.few (below_word n qs few h.in_range))
      ∙ ap (λ x. state_of n b gates (add_list ins x) (add_list done (named_by (qubit_registers n) (codes "out") done
      (codes "//" ∷ codes "silqc" ∷ codes "out" ∷ decimal (length done) ∷ map qubit_text qs)))) (not_in ins (decimal (length done)) (map qubit_text qs))
      ∙ ap (λ x. state_of n b gates ins (add_list done x)) (named_next (codes "out") done qs refl h)

  -- ---- one list after another

  flat_last : (done : List (List ℕ)) (qs : List ℕ) → flat_map (λ l. l) (done ++ qs ∷ []) ≡ flat_map (λ l. l) done ++ qs
  flat_last [] qs = append-nil qs
  flat_last (l ∷ ls) qs = ap (λ z. l ++ z) (flat_last ls qs) ∙ sym (append_assoc l (flat_map (λ x. x) ls) qs)

  module _ (kind : List ℕ) (is : IsKind kind) (st : List (List ℕ) → State)
      (next : (done : List (List ℕ)) (qs : List ℕ) → IsNext n done qs → with_line (st done) (comment_text kind (length done) qs) ≡ st (done ++ qs ∷ [])) where
    lists_read : (done lists : List (List ℕ)) → All (λ l. l ≢ []) lists → AllBelow n (flat_map (λ l. l) lists)
        → AllDiffer (flat_map (λ l. l) done ++ flat_map (λ l. l) lists) → length done + length lists < 2 ^ 64
        → Reads items (st done) (st (done ++ lists)) (list_lines kind (length done) lists)
    lists_read done [] s r d l = subst (λ z. Reads items (st done) (st z) []) (sym (append-nil done)) (reads_nothing (st done))
    lists_read done (qs ∷ lists) s r d l =
        let each : AllDiffer ((flat_map (λ x. x) done ++ qs) ++ flat_map (λ x. x) lists) =
        subst AllDiffer (sym (append_assoc (flat_map (λ x. x) done) qs (flat_map (λ x. x) lists))) d in
        let one : IsNext n done qs = record {
          some = All-head (λ x. x ≢ []) qs lists s;
          in_range = below_front n qs (flat_map (λ x. x) lists) r;
          differ = front_differs (flat_map (λ x. x) done ++ qs) (flat_map (λ x. x) lists) each;
          few = omega arith;
        } in
        let first : Reads items (st done) (st (done ++ qs ∷ [])) (list_line kind (length done) qs) =
        subst (λ z. Reads items (st done) z (list_line kind (length done) qs)) (next done qs one)
        (line_read (st done) kind (length done) qs is (omega arith) (below_word n qs few one.in_range)) in
        let count : length (done ++ qs ∷ []) ≡ suc (length done) = omega (arith, length-append done (qs ∷ [])) in
        let others : Reads items (st (done ++ qs ∷ [])) (st ((done ++ qs ∷ []) ++ lists)) (list_lines kind (suc (length done)) lists) =
        subst (λ z. Reads items (st (done ++ qs ∷ [])) (st ((done ++ qs ∷ []) ++ lists)) (list_lines kind z lists)) count
        (lists_read (done ++ qs ∷ []) lists (All-tail (λ x. x ≢ []) qs lists s) (below_back n qs (flat_map (λ x. x) lists) r)
        (subst (λ z. AllDiffer (z ++ flat_map (λ x. x) lists)) (sym (flat_last done qs)) each) (omega arith)) in
        subst (λ z. Reads items (st done) (st z) (list_lines kind (length done) (qs ∷ lists))) (append_assoc done (qs ∷ []) lists)
        (reads_both items _ _ _ (list_line kind (length done) qs) (list_lines kind (suc (length done)) lists) first others)

  pub ins_read : (outs ins : List (List ℕ)) → All (λ l. l ≢ []) ins → AllBelow n (flat_map (λ l. l) ins) → AllDiffer (flat_map (λ l. l) ins)
      → length ins < 2 ^ 63
      → Reads items (state_of n b gates [] outs) (state_of n b gates ins outs) (list_lines (codes "in") 0 ins)
  ins_read outs ins s r d l = lists_read (codes "in") in_kind (λ done. state_of n b gates done outs) (in_next outs) [] ins s r d (omega arith)

  pub outs_read : (ins outs : List (List ℕ)) → All (λ l. l ≢ []) outs → AllBelow n (flat_map (λ l. l) outs) → AllDiffer (flat_map (λ l. l) outs)
      → length outs < 2 ^ 63
      → Reads items (state_of n b gates ins []) (state_of n b gates ins outs) (list_lines (codes "out") 0 outs)
  outs_read ins outs s r d l = lists_read (codes "out") out_kind (λ done. state_of n b gates ins done) (out_next ins) [] outs s r d (omega arith)
