-- The tokens of statements, part by part, and where statements are sound: tuples have two names or more, a call stands alone, a choice
-- behind `else`, and each expression is sound.
use Rattle.std.specs.Prelude.{ℕ, ◌+◌, Bool, true, false, ◌&&◌, List, [], ◌∷◌, ◌++◌, Option, Some, None}
use Rattle.silq_tree.specs.declared.node.NameId.{NameId}
use Rattle.silq_tree.specs.Syntax as tree
use Rattle.silq_grammar.specs.declared.token.Token.{Token}
use Rattle.silq_grammar.specs.declared.token.Token.TheVariants.{Name, Fixed}
use Rattle.silq_grammar.specs.declared.token.Terminal.{Terminal}
use Rattle.silq_grammar.specs.declared.token.Terminal.TheVariants as t
use Rattle.silq_grammar.specs.Grammar as g
use Rattle.silq_grammar.specs.Spelled.{expr_text, place_text, call_text, choice_text, block_text}
use Rattle.silq_print.specs.Bare.{nowhere}
use Rattle.silq_print.specs.Derived.{Rest, no_rest, block_rest, choice_rest, expr_in, call_in, stmts_in}
use Rattle.silq_print.specs.Styles.{place_by, is_sound, are_sound, is_sound_place}
use Rattle.silq_print.specs.declared.style.Style.TheVariants.{Around}

-- what stands behind a block
abbrev pub rest_text : Rest → List Token
rest_text no_rest = []
rest_text (block_rest b) = Fixed t.Else nowhere ∷ block_text b
rest_text (choice_rest c) = Fixed t.Else nowhere ∷ choice_text c

-- statements in braces
abbrev pub braces_text : ℕ → tree.Statements → List Token
braces_text n ss = block_text (g.braces nowhere (stmts_in (1 + n) ss) nowhere)

-- names, each with a comma before it; and with commas between them
abbrev pub more_names : List NameId → List Token
more_names [] = []
more_names (x ∷ xs) = Fixed t.Comma nowhere ∷ Name x nowhere ∷ more_names xs

abbrev pub names_list : List NameId → List Token
names_list [] = []
names_list (x ∷ xs) = Name x nowhere ∷ more_names xs

-- a sign between a variable and a value
abbrev pub store_text : ℕ → tree.Place → Terminal → tree.Expression → List Token
store_text n p sign e = place_text (place_by (Around (1 + n)) p) ++ (Fixed sign nowhere ∷ (expr_text (expr_in n e) ++ (Fixed t.Semicolon nowhere ∷ [])))

abbrev pub spread_text : ℕ → List NameId → tree.Expression → List Token
spread_text n xs e = Fixed t.LeftParen nowhere ∷ (names_list xs ++ (Fixed t.RightParen nowhere ∷ Fixed t.Becomes nowhere ∷ (expr_text (expr_in n e) ++ (Fixed t.Semicolon nowhere ∷ []))))

-- the value of a forget, where it has one
abbrev pub forget_part : ℕ → Option tree.Expression → List Token
forget_part n None = []
forget_part n (Some e) = Fixed t.Is nowhere ∷ expr_text (expr_in (1 + n) e)

abbrev pub forget_text : ℕ → NameId → Option tree.Expression → List Token
forget_text n x e = Fixed t.Forget nowhere ∷ Fixed t.LeftParen nowhere ∷ Name x nowhere ∷ (forget_part n e ++ (Fixed t.RightParen nowhere ∷ Fixed t.Semicolon nowhere ∷ []))

abbrev pub phase_text : ℕ → tree.Expression → List Token
phase_text n e = Fixed t.Phase nowhere ∷ Fixed t.LeftParen nowhere ∷ (expr_text (expr_in (1 + n) e) ++ (Fixed t.RightParen nowhere ∷ Fixed t.Semicolon nowhere ∷ []))

abbrev pub return_text : ℕ → Option tree.Expression → List Token
return_text n None = Fixed t.Return nowhere ∷ Fixed t.Semicolon nowhere ∷ []
return_text n (Some e) = Fixed t.Return nowhere ∷ (expr_text (expr_in n e) ++ (Fixed t.Semicolon nowhere ∷ []))

-- a call with a semicolon
abbrev pub call_line : ℕ → tree.Expression → List Token
call_line n e = call_text (call_in n e) ++ (Fixed t.Semicolon nowhere ∷ [])

-- a loop up to its block
abbrev pub loop_head : ℕ → NameId → tree.Expression → tree.Expression → List Token
loop_head n x e f =
    Fixed t.For nowhere ∷ Name x nowhere ∷ Fixed t.In nowhere ∷ Fixed t.LeftBracket nowhere
    ∷ (expr_text (expr_in (1 + n) e) ++ (Fixed t.Dots nowhere ∷ (expr_text (expr_in (1 + n) f) ++ (Fixed t.RightParen nowhere ∷ []))))

abbrev pub is_sound_forget : ℕ → Option tree.Expression → Bool
is_sound_forget n None = true
is_sound_forget n (Some e) = is_sound (Around (1 + n)) e

abbrev pub is_sound_return : ℕ → Option tree.Expression → Bool
is_sound_return n None = true
is_sound_return n (Some e) = is_sound (Around n) e

abbrev pub are_two : List NameId → Bool
are_two [] = false
are_two (x ∷ []) = false
are_two (x ∷ y ∷ ys) = true

abbrev pub is_choice : tree.Statement → Bool
is_choice (tree.choice e b o at) = true
is_choice _ = false

abbrev pub is_sound_call : ℕ → tree.Expression → Bool
is_sound_call n (tree.called f ss es at) = are_sound (Around (1 + n)) ss && are_sound (Around (1 + n)) es
is_sound_call n _ = false

abbrev pub is_sound_store : ℕ → tree.Place → tree.Expression → Bool
is_sound_store n p e = is_sound_place (Around (1 + n)) p && is_sound (Around n) e

abbrev mutual
  pub is_sound_stmt : ℕ → tree.Statement → Bool
  is_sound_stmt n (tree.assign p e at) = is_sound_store n p e
  is_sound_stmt n (tree.spread xs e at) = are_two xs && is_sound (Around n) e
  is_sound_stmt n (tree.update p op e at) = is_sound_store n p e
  is_sound_stmt n (tree.forget x at) = true
  is_sound_stmt n (tree.forget_value x e at) = is_sound (Around (1 + n)) e
  is_sound_stmt n (tree.phase e at) = is_sound (Around (1 + n)) e
  is_sound_stmt n (tree.choice e b o at) = is_sound (Around n) e && (is_sound_block n b && is_sound_rest n o)
  is_sound_stmt n (tree.loop x e f b at) = is_sound (Around (1 + n)) e && (is_sound (Around (1 + n)) f && is_sound_block n b)
  is_sound_stmt n (tree.return_nothing at) = true
  is_sound_stmt n (tree.return_value e at) = is_sound (Around n) e
  is_sound_stmt n (tree.call e at) = is_sound_call n e

  pub is_sound_rest : ℕ → tree.Otherwise → Bool
  is_sound_rest n (tree.else_block b) = is_sound_block n b
  is_sound_rest n (tree.else_choice s) = is_choice s && is_sound_stmt (1 + n) s

  pub is_sound_block : ℕ → tree.Block → Bool
  is_sound_block n (tree.block b end) = are_sound_stmts (1 + n) b

  pub are_sound_stmts : ℕ → tree.Statements → Bool
  are_sound_stmts n tree.done = true
  are_sound_stmts n (tree.next s b) = is_sound_stmt n s && are_sound_stmts n b
