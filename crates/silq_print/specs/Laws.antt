-- Laws of printed texts.
use Rattle.std.specs.Prelude.{◌≡◌, ℕ, List, None, map}
use Rattle.std.specs.Str.{chars}
use Rattle.silq_lex.specs.Tokens.{tokens_of}
use Rattle.silq_tree.specs.declared.node.FunId.{FunId}
use Rattle.silq_tree.specs.Arena.{Forest, program_at}
use Rattle.silq_grammar.specs.declared.token.Token.{Token}
use Rattle.silq_grammar.specs.Grammar.{Program}
use Rattle.silq_grammar.specs.Spelled.{program_text}
use Rattle.silq_grammar.specs.Trees.{program_tree}
use Rattle.silq_grammar.specs.Outcome.{Fine, program_outcome}
use Rattle.silq_parse.specs.Stands.{StandsFor}
use Rattle.silq_parse.specs.Faults.{first_fault, fault_of_tokens}
use Rattle.silq_print.specs.Bare.{bare_token, bare_program}
use Rattle.silq_print.specs.Derived.{derived}
use Rattle.silq_print.specs.Printed.{program_printed}

-- the same tokens, places aside
abbrev pub AreAlike : List Token → List Token → Type 0
AreAlike ts us = map bare_token ts ≡ map bare_token us

-- tokens that are the same, places aside, are programs within the limits together, and have the same tree, places aside
pub record PlacesAside : Type 0 where
  pub fine : (ts us : List Token) → AreAlike ts us → program_outcome ts ≡ Fine → program_outcome us ≡ Fine
  pub trees : (p q : Program) → AreAlike (program_text p) (program_text q) → bare_program (program_tree p) ≡ bare_program (program_tree q)

-- The derivation of a program's tree stands for that tree, places aside, and is a program within the limits where one of that tree is:
-- no parentheses are missing, and none make it too deep.
pub record DerivedStands : Type 0 where
  pub tree : (p : Program) → bare_program (program_tree (derived (program_tree p))) ≡ bare_program (program_tree p)
  pub fine : (p : Program) → program_outcome (program_text p) ≡ Fine → program_outcome (program_text (derived (program_tree p))) ≡ Fine

-- nodes, names and functions that stand for a text without a fault
pub record IsOfText (nodes : Forest) (names : List (List ℕ)) (funs : List FunId) : Type 0 where
  pub text : List ℕ
  pub stands : StandsFor text nodes names funs
  pub fine : first_fault text ≡ None

-- the text, its length aside, has no fault, and what stands for it has the same names and trees, places aside
pub record ReadsBack (nodes : Forest) (names : List (List ℕ)) (funs : List FunId) (text : List ℕ) : Type 0 where
  pub fine : fault_of_tokens (tokens_of (chars text)) ≡ None
  pub same_names : (nodes2 : Forest) (names2 : List (List ℕ)) (funs2 : List FunId) → StandsFor text nodes2 names2 funs2 → names2 ≡ names
  pub same_trees : (nodes2 : Forest) (names2 : List (List ℕ)) (funs2 : List FunId) → StandsFor text nodes2 names2 funs2 →
      bare_program (program_at nodes2 funs2) ≡ bare_program (program_at nodes funs)

-- what a program is written as reads back
abbrev pub PrintedReadsBack : Type 0
PrintedReadsBack = (nodes : Forest) (names : List (List ℕ)) (funs : List FunId) → IsOfText nodes names funs → ReadsBack nodes names funs (program_printed names (program_at nodes funs))
