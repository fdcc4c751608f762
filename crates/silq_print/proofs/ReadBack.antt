-- What a program is written as reads back.
use Rattle.std.proofs.Common.{◌≡◌, ℕ, Bool, true, false, List, [], ◌∷◌, map, length, nat_lt, Option, Some, None, if◌then◌else◌, refl, sym, ◌∙◌, ap, subst}
use Rattle.std.specs.Str.{chars}
use Rattle.silq_lex.specs.Tokens.{Ending, tokens_of}
use Rattle.silq_tree.specs.declared.node.FunId.{FunId}
use Rattle.silq_tree.specs.Arena.{Forest, program_at}
use Rattle.silq_grammar.specs.Grammar.{Program}
use Rattle.silq_grammar.specs.Spelled.{program_text}
use Rattle.silq_grammar.specs.Trees.{program_tree}
use Rattle.silq_grammar.specs.Outcome.{Outcome, Fine, Syntax, Deep, program_outcome}
use Rattle.silq_parse.specs.Lexed.{all_tokens}
use Rattle.silq_parse.specs.Faults.{first_fault, fault_by, fault_of_tokens}
use Rattle.silq_parse.specs.declared.fault.ParseFault.{ParseFault}
use Rattle.silq_parse.specs.declared.fault.ParseFault.TheVariants.{Long}
use Rattle.silq_print.specs.Bare.{bare_token, bare_program}
use Rattle.silq_print.specs.Content.{content}
use Rattle.silq_print.specs.Derived.{derived}
use Rattle.silq_print.specs.Printed.{printed, program_printed}
use Rattle.silq_print.specs.Proper.{IsProper}
use Rattle.silq_print.specs.Laws.{ReadsBack, PrintedReadsBack}
use Rattle.silq_print.proofs.Alike.{alike_fine, alike_trees}
use Rattle.silq_print.proofs.ContentTrees.{derived_content}
use Rattle.silq_print.proofs.ContentProper.{proper_by_content}
use Rattle.silq_print.proofs.DerivedTrees.{derived_stands}
use Rattle.silq_print.proofs.Even.{derived_fine}
use Rattle.silq_print.proofs.LexedBack.{AreBack, lexed_back}
use Rattle.silq_print.proofs.LexedProper.{lexed_proper}

-- tokens without a fault are a program within the limits
fine_tokens : (o : Outcome) (ending : Ending) → fault_by o ending ≡ None → o ≡ Fine
fine_tokens Fine ending h = refl
fine_tokens (Syntax []) ending h = cc
fine_tokens (Syntax (t ∷ ts)) ending h = cc
fine_tokens (Deep []) ending h = cc
fine_tokens (Deep (t ∷ ts)) ending h = cc

not_long : (b : Bool) (o : Option ParseFault) → (if b then Some Long else o) ≡ None → o ≡ None
not_long true o h = cc
not_long false o h = h

fine_text : (text : List ℕ) → first_fault text ≡ None → program_outcome (all_tokens (tokens_of (chars text)).items) ≡ Fine
fine_text text h =
    fine_tokens (program_outcome (all_tokens (tokens_of (chars text)).items)) (tokens_of (chars text)).ending
    (not_long (nat_lt 1048576 (length text)) (fault_of_tokens (tokens_of (chars text))) h)

-- a text whose tokens are those of the derivation of a fine program reads back as that program
module _ (nodes : Forest) (names : List (List ℕ)) (funs : List FunId) (text : List ℕ) (p : Program) where
  read_back : program_at nodes funs ≡ program_tree p → program_outcome (program_text p) ≡ Fine
      → AreBack names (program_text (derived (program_tree p))) (tokens_of (chars text)) → ReadsBack nodes names funs text
  read_back stands fine back =
      let q = derived (program_tree p) in
      let all = all_tokens (tokens_of (chars text)).items in
      let good : program_outcome all ≡ Fine = alike_fine (program_text q) all (sym back.2) (derived_fine p fine) in
      record {
        fine = λ i. fault_by (good i) (back.0.1 i);
        same_names = λ nodes2 names2 funs2 s. s.named ∙ back.1;
        same_trees = λ nodes2 names2 funs2 s.
            ap bare_program s.parsed.stands
            ∙ alike_trees s.parsed.derivation q (sym (ap (map bare_token) s.parsed.spelled) ∙ back.2)
            ∙ derived_stands p
            ∙ sym (ap bare_program stands);
      }

pub printed_reads : PrintedReadsBack
printed_reads nodes names funs o =
    let parsed = o.stands.parsed in
    let p = parsed.derivation in
    let q = derived (program_tree p) in
    let all = all_tokens (tokens_of (chars o.text)).items in
    let proper : IsProper names all = subst (λ (ns : List (List ℕ)). IsProper ns all) (sym o.stands.named) (lexed_proper o.text) in
    let same : content all ≡ content (program_text q) = ap content parsed.spelled ∙ sym (derived_content p) in
    let fine : program_outcome (program_text p) ≡ Fine = sym (ap program_outcome parsed.spelled) ∙ fine_text o.text o.fine in
    let back = lexed_back names (program_text q) (proper_by_content names all (program_text q) same proper) in
    subst (ReadsBack nodes names funs) (sym (ap (program_printed names) parsed.stands)) (read_back nodes names funs (printed names (program_text q)) p parsed.stands fine back)
