-- What a cursor passes.
use Rattle.std.proofs.Common.{◌≡◌, ℕ, Bool, List, [], ◌∷◌, ◌++◌, append_assoc, sym, ◌∙◌, ap}
use Rattle.silq_lex.specs.Runs.{run, past}
use Rattle.silq_lex.specs.Tokens.{behind_all}
use Rattle.silq_lex.proofs.Longests.{run_past}
use Rattle.silq_lex.proofs.Passing.{behind_all-append}
use Rattle.qasm_tokens.specs.declared.cursor.Cursor.{Cursor}
use Rattle.qasm_tokens.specs.Cursors.{Passes, ahead}

pub passes_join : (a b c : Cursor) (s t : List ℕ) → Passes a b s → Passes b c t → Passes a c (s ++ t)
passes_join a b c s t p q = record {
  characters = p.characters ∙ ap (λ z. s ++ z) q.characters ∙ sym (append_assoc s t _);
  place = q.place ∙ ap (λ z. behind_all z t) p.place ∙ sym (behind_all-append s t a.place);
}

-- a run of characters is passed
pub passes_run : (test : ℕ → Bool) (from to : Cursor) → to.place ≡ behind_all from.place (run test (ahead from))
    → ahead to ≡ past test (ahead from) → Passes from to (run test (ahead from))
passes_run test from to e f = record {
  characters = run_past test (ahead from) ∙ ap (λ z. run test (ahead from) ++ z) (sym f);
  place = e;
}

-- a character and a run behind it
pub passes_on : (test : ℕ → Bool) (from next to : Cursor) (c : ℕ) → Passes from next (c ∷ []) → to.place ≡ behind_all next.place (run test (ahead next))
    → ahead to ≡ past test (ahead next) → Passes from to (c ∷ run test (ahead next))
passes_on test from next to c p e f = passes_join from next to (c ∷ []) (run test (ahead next)) p (passes_run test next to e f)
