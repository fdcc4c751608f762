-- Tokens, what is wrong with them, and their trees, by computing.
use Rattle.std.proofs.Common.{◌≡◌, ℕ, suc, zero, pos, false, true, List, [], ◌∷◌, ◌++◌, replicate, Option, Some, None, refl}
use Rattle.silq_tree.specs.declared.node.UnaryOp.TheVariants as unaries
use Rattle.silq_tree.specs.declared.node.UpdateOp.TheVariants as updates
use Rattle.silq_tree.specs.declared.node.BinaryOp.TheVariants as ops
use Rattle.silq_tree.specs.declared.node.NameId.{NameId}
use Rattle.silq_tree.specs.declared.node.Spot.{Spot}
use Rattle.silq_tree.specs.declared.node.Mark.TheVariants as marks
use Rattle.silq_tree.specs.Syntax as tree
use Rattle.silq_grammar.specs.Tokens.{Terminal, Token, Name, Number, Fixed}
use Rattle.silq_grammar.specs.declared.token.Terminal.TheVariants as t
use Rattle.silq_grammar.specs.Grammar.{Program, no_function}
use Rattle.silq_grammar.specs.Spelled.{program_text}
use Rattle.silq_grammar.specs.Trees.{program_tree}
use Rattle.silq_grammar.specs.Machine.{Functions}
use Rattle.silq_grammar.specs.Outcome.{Fine, Syntax, Deep, outcome, program_outcome}
use Rattle.silq_grammar.proofs.Pieces.{read}

-- def main(x:B):B { x := H(x); return x; }

abbrev at : ℕ → Spot
at n = record { line = 1; col = n }

abbrev id : ℕ → NameId
id n = record { number = n }

abbrev fair : List Token
fair = Fixed t.Def (at 1) ∷ Name (id 0) (at 5) ∷ Fixed t.LeftParen (at 9) ∷ Name (id 1) (at 10) ∷ Fixed t.Colon (at 11) ∷ Fixed t.Bit (at 12) ∷ Fixed t.RightParen (at 13)
    ∷ Fixed t.Colon (at 14) ∷ Fixed t.Bit (at 15) ∷ Fixed t.LeftBrace (at 17)
    ∷ Name (id 1) (at 19) ∷ Fixed t.Becomes (at 21) ∷ Name (id 2) (at 24) ∷ Fixed t.LeftParen (at 25) ∷ Name (id 1) (at 26) ∷ Fixed t.RightParen (at 27) ∷ Fixed t.Semicolon (at 28)
    ∷ Fixed t.Return (at 30) ∷ Name (id 1) (at 37) ∷ Fixed t.Semicolon (at 38) ∷ Fixed t.RightBrace (at 40) ∷ []

abbrev fair_tree : tree.Program
fair_tree = record {
  name = id 0;
  statics = [];
  params = record { held = false; name = id 1; ty = tree.scalar false tree.bit (at 12); at = at 10 } ∷ [];
  mark = marks.Plain;
  results = tree.scalar false tree.bit (at 15) ∷ [];
  body = tree.block
      (tree.next (tree.assign (tree.whole (id 1)) (tree.called (id 2) tree.none (tree.more (tree.place (tree.whole (id 1)) (at 26)) tree.none) (at 24)) (at 19))
      (tree.next (tree.return_value (tree.place (tree.whole (id 1)) (at 37)) (at 30)) tree.done)) (at 40);
  at = at 1;
} ∷ []

row_fair : program_outcome fair ≡ Fine
unfolding outcome
row_fair = refl

-- the tokens are those of a program with this tree
abbrev HasTree : List Token → tree.Program → Type 0
HasTree ts tr = (p : Program) × (program_text p ≡ ts) × (program_tree p ≡ tr)

abbrev given : Option Program → Program
given (Some p) = p
given None = no_function

abbrev program_of : List Token → Program
program_of ts = given (read (Functions ∷ []) ts (λ ps. ps.0))

row_fair_tree : HasTree fair fair_tree
row_fair_tree = (program_of fair, refl, refl)

-- tokens whose places do not matter

abbrev nowhere : Spot
nowhere = record { line = 0; col = 0 }

abbrev f : Terminal → Token
f s = Fixed s nowhere

abbrev n : ℕ → Token
n k = Name (id k) nowhere

-- def 0() { .. }
abbrev with_body : List Token → List Token
with_body ts = f t.Def ∷ n 0 ∷ f t.LeftParen ∷ f t.RightParen ∷ f t.LeftBrace ∷ (ts ++ (f t.RightBrace ∷ []))

abbrev body_tree : tree.Statements → tree.Program
body_tree b = record { name = id 0; statics = []; params = []; mark = marks.Plain; results = []; body = tree.block b nowhere; at = nowhere } ∷ []

abbrev v : ℕ → tree.Expression
v k = tree.place (tree.whole (id k)) nowhere

-- return 1 == 2 == 3; stops at the second sign
row_chained : program_outcome (with_body (f t.Return ∷ n 1 ∷ f t.Equal ∷ n 2 ∷ f t.Equal ∷ n 3 ∷ f t.Semicolon ∷ []))
    ≡ Syntax (f t.Equal ∷ n 3 ∷ f t.Semicolon ∷ f t.RightBrace ∷ [])
unfolding outcome
row_chained = refl

-- tokens that end too early
row_short : program_outcome (f t.Def ∷ n 0 ∷ f t.LeftParen ∷ []) ≡ Syntax []
unfolding outcome
row_short = refl

-- return 1 - 2 - !3 * 4 && 5 || 6; by levels, each to the left
abbrev grouped : List Token
grouped = f t.Return ∷ n 1 ∷ f t.Minus ∷ n 2 ∷ f t.Minus ∷ f t.Bang ∷ n 3 ∷ f t.Star ∷ n 4 ∷ f t.And ∷ n 5 ∷ f t.Or ∷ n 6 ∷ f t.Semicolon ∷ []

row_grouped : HasTree (with_body grouped) (body_tree (tree.next (tree.return_value
    (tree.binary ops.Or (tree.binary ops.And
    (tree.binary ops.Sub (tree.binary ops.Sub (v 1) (v 2) nowhere) (tree.binary ops.Mul (tree.unary unaries.Not (v 3) nowhere) (v 4) nowhere) nowhere)
    (v 5) nowhere) (v 6) nowhere) nowhere) tree.done))
row_grouped = (program_of (with_body grouped), refl, refl)

-- if 1 { } else if 2 { } else { }: the last `else` is that of the second `if`
abbrev empty_block : List Token
empty_block = f t.LeftBrace ∷ f t.RightBrace ∷ []

abbrev chained_if : List Token
chained_if = f t.If ∷ n 1 ∷ (empty_block ++ (f t.Else ∷ f t.If ∷ n 2 ∷ (empty_block ++ (f t.Else ∷ empty_block))))

row_else : HasTree (with_body chained_if) (body_tree (tree.next (tree.choice (v 1) (tree.block tree.done nowhere)
    (tree.else_choice (tree.choice (v 2) (tree.block tree.done nowhere) (tree.else_block (tree.block tree.done nowhere)) nowhere)) nowhere) tree.done))
row_else = (program_of (with_body chained_if), refl, refl)

-- the nest: a body and 63 signs are 64 deep, and one more is too deep where it stands

abbrev bangs : ℕ → List Token
bangs k = f t.If ∷ (replicate k (f t.Bang) ++ (n 1 ∷ empty_block))

row_bangs : program_outcome (with_body (bangs 63)) ≡ Fine
unfolding outcome
row_bangs = refl

row_deep : program_outcome (with_body (bangs 64)) ≡ Deep (f t.Bang ∷ n 1 ∷ f t.LeftBrace ∷ f t.RightBrace ∷ f t.RightBrace ∷ [])
unfolding outcome
row_deep = refl

-- with the first sign above 64 a token that cannot come is a Syntax all the same
row_both : program_outcome (with_body (f t.If ∷ (replicate 63 (f t.Bang) ++ (f t.RightBracket ∷ [])))) ≡ Syntax (f t.RightBracket ∷ f t.RightBrace ∷ [])
unfolding outcome
row_both = refl

-- operators of a chain count one each, up to its end

abbrev pluses : ℕ → List Token
pluses zero = f t.Semicolon ∷ []
pluses (suc k) = f t.Plus ∷ n 1 ∷ pluses k

abbrev sum_of : ℕ → List Token
sum_of k = n 1 ∷ f t.Becomes ∷ n 1 ∷ pluses k

row_chains : program_outcome (with_body (sum_of 63 ++ sum_of 63)) ≡ Fine
unfolding outcome
row_chains = refl

row_long_chain : program_outcome (with_body (sum_of 64)) ≡ Deep (f t.Plus ∷ n 1 ∷ f t.Semicolon ∷ f t.RightBrace ∷ [])
unfolding outcome
row_long_chain = refl

-- each `else if` counts one, with the blocks behind it

abbrev else_ifs : ℕ → List Token
else_ifs zero = []
else_ifs (suc k) = f t.Else ∷ f t.If ∷ n 1 ∷ f t.LeftBrace ∷ f t.RightBrace ∷ else_ifs k

row_else_ifs : program_outcome (with_body (f t.If ∷ n 1 ∷ f t.LeftBrace ∷ f t.RightBrace ∷ else_ifs 62)) ≡ Fine
unfolding outcome
row_else_ifs = refl

row_many_else_ifs : program_outcome (with_body (f t.If ∷ n 1 ∷ f t.LeftBrace ∷ f t.RightBrace ∷ else_ifs 63)) ≡ Deep (f t.LeftBrace ∷ f t.RightBrace ∷ f t.RightBrace ∷ [])
unfolding outcome
row_many_else_ifs = refl

-- def 0[1:!N](const 2:!uint[1]^3, 4:B) lifted:B×B { (5,6) := 7[1](2,4); 5[0] += 2; forget(6); forget(5 = 2[1][3]); phase(pi/4);
-- for 8 in [0..1) { 7(); } return; }

abbrev num : ℕ → Token
num k = Number (pos k) nowhere

abbrev value : ℕ → tree.Expression
value k = tree.number (pos k) nowhere

abbrev heading : List Token
heading = f t.Def ∷ n 0 ∷ f t.LeftBracket ∷ n 1 ∷ f t.Colon ∷ f t.Bang ∷ f t.Natural ∷ f t.RightBracket
    ∷ f t.LeftParen ∷ f t.Const ∷ n 2 ∷ f t.Colon ∷ f t.Bang ∷ f t.UInt ∷ f t.LeftBracket ∷ n 1 ∷ f t.RightBracket ∷ f t.Caret ∷ num 3
    ∷ f t.Comma ∷ n 4 ∷ f t.Colon ∷ f t.Bit ∷ f t.RightParen ∷ f t.Lifted ∷ f t.Colon ∷ f t.Bit ∷ f t.Times ∷ f t.Bit ∷ []

abbrev statements : List Token
statements = f t.LeftParen ∷ n 5 ∷ f t.Comma ∷ n 6 ∷ f t.RightParen ∷ f t.Becomes ∷ n 7 ∷ f t.LeftBracket ∷ n 1 ∷ f t.RightBracket
    ∷ f t.LeftParen ∷ n 2 ∷ f t.Comma ∷ n 4 ∷ f t.RightParen ∷ f t.Semicolon
    ∷ n 5 ∷ f t.LeftBracket ∷ num 0 ∷ f t.RightBracket ∷ f t.AddTo ∷ n 2 ∷ f t.Semicolon
    ∷ f t.Forget ∷ f t.LeftParen ∷ n 6 ∷ f t.RightParen ∷ f t.Semicolon
    ∷ f t.Forget ∷ f t.LeftParen ∷ n 5 ∷ f t.Is ∷ n 2 ∷ f t.LeftBracket ∷ n 1 ∷ f t.RightBracket ∷ f t.LeftBracket ∷ num 3 ∷ f t.RightBracket ∷ f t.RightParen ∷ f t.Semicolon
    ∷ f t.Phase ∷ f t.LeftParen ∷ f t.Pi ∷ f t.Slash ∷ num 4 ∷ f t.RightParen ∷ f t.Semicolon
    ∷ f t.For ∷ n 8 ∷ f t.In ∷ f t.LeftBracket ∷ num 0 ∷ f t.Dots ∷ n 1 ∷ f t.RightParen
    ∷ f t.LeftBrace ∷ n 7 ∷ f t.LeftParen ∷ f t.RightParen ∷ f t.Semicolon ∷ f t.RightBrace
    ∷ f t.Return ∷ f t.Semicolon ∷ []

row_forms : HasTree (heading ++ (f t.LeftBrace ∷ (statements ++ (f t.RightBrace ∷ [])))) (record {
  name = id 0;
  statics = id 1 ∷ [];
  params = record { held = true; name = id 2; ty = tree.array true (tree.uint (v 1)) (value 3) nowhere; at = nowhere }
      ∷ record { held = false; name = id 4; ty = tree.scalar false tree.bit nowhere; at = nowhere } ∷ [];
  mark = marks.Lifted;
  results = tree.scalar false tree.bit nowhere ∷ tree.scalar false tree.bit nowhere ∷ [];
  body = tree.block
      (tree.next (tree.spread (id 5 ∷ id 6 ∷ []) (tree.called (id 7) (tree.more (v 1) tree.none) (tree.more (v 2) (tree.more (v 4) tree.none)) nowhere) nowhere)
      (tree.next (tree.update (tree.part (id 5) (value 0)) updates.Add (v 2) nowhere)
      (tree.next (tree.forget (id 6) nowhere)
      (tree.next (tree.forget_value (id 5) (tree.place (tree.part_of_part (id 2) (v 1) (value 3)) nowhere) nowhere)
      (tree.next (tree.phase (tree.binary ops.Div (tree.pi nowhere) (value 4) nowhere) nowhere)
      (tree.next (tree.loop (id 8) (value 0) (v 1) (tree.block (tree.next (tree.call (tree.called (id 7) tree.none tree.none nowhere) nowhere) tree.done) nowhere) nowhere)
      (tree.next (tree.return_nothing nowhere) tree.done))))))) nowhere;
  at = nowhere;
} ∷ [])
row_forms = (program_of (heading ++ (f t.LeftBrace ∷ (statements ++ (f t.RightBrace ∷ [])))), refl, refl)
