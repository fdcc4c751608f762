-- The grammar as a table: a stack of what is expected, and what each symbol on it does at a token.
use Rattle.std.specs.Prelude.{ℕ, ◌+◌, Bool, true, false, cond, List, [], ◌∷◌, Option, Some, None}
use Rattle.grammar_core.specs.Table.{Grammar}
use Rattle.silq_grammar.specs.Tokens.{Kind, AName, ANumber, A, Terminal}
use Rattle.silq_grammar.specs.Terminals.{same_terminal}
use Rattle.silq_grammar.specs.declared.token.Terminal.TheVariants as t

pub data Symbol : Type 0 where
  -- one terminal, or a name
  Expect : Terminal → Symbol
  AnyName : Symbol
  -- the sign that closes what an earlier sign opened
  Closing : Terminal → Symbol
  -- the end of what is open with no closing sign: behind the operand of a unary sign, of a comparison, and behind the `if` of an `else`
  Ends : Symbol
  -- functions up to the text's end, and the parts of one
  Functions StaticPart MoreStatics ParamPart Params OneParam MoreParams MarkPart ResultPart MoreResults : Symbol
  -- types
  AType AScalar Width SizePart ASize : Symbol
  -- a block; statements up to a brace
  ABlock Statements : Symbol
  -- further names of a tuple; behind `forget` and `phase`; the value of a forget; the bounds of a loop; the value of a return
  MoreNames ForgetPart PhasePart ForgetValue Bounds ReturnValue : Symbol
  -- the rest of a choice
  ElseRest ElseBody : Symbol
  -- behind a name that begins a statement: behind nothing, inside the first bracket, behind it, behind two indexes
  StartName StartBracket StartIndex Assigns : Symbol
  -- a unary expression; what may follow it on each level, with how many operators of the chain were read
  AUnary : Symbol
  Prods Sums : ℕ → Symbol
  Compare : Symbol
  Ands Ors : ℕ → Symbol
  -- behind a number, and behind a name in an expression
  NumberType InName InBracket InIndex : Symbol
  -- the arguments of a call with their parentheses; arguments, or none; further expressions of a list
  CallPart Arguments MoreExprs : Symbol

-- an expression; and what comes behind its first unary expression
abbrev pub chains : List Symbol → List Symbol
chains k = Prods 0 ∷ Sums 0 ∷ Compare ∷ Ands 0 ∷ Ors 0 ∷ k

abbrev pub an_expr : List Symbol → List Symbol
an_expr k = AUnary ∷ chains k

-- expr { "," expr }
abbrev pub exprs : List Symbol → List Symbol
exprs k = an_expr (MoreExprs ∷ k)

-- the value of an assignment and the semicolon
abbrev pub value : List Symbol → List Symbol
value k = an_expr (Expect t.Semicolon ∷ k)

abbrev pub expect : Terminal → Terminal → Option (List Symbol)
expect s u = cond (same_terminal s u) (Some []) None

abbrev pub begin_unary : List Symbol → Kind → Option (List Symbol)
begin_unary k AName = Some (InName ∷ k)
begin_unary k ANumber = Some (NumberType ∷ k)
begin_unary k (A t.True) = Some k
begin_unary k (A t.False) = Some k
begin_unary k (A t.Pi) = Some k
begin_unary k (A t.LeftParen) = Some (exprs (Closing t.RightParen ∷ k))
begin_unary k (A t.Bang) = Some (AUnary ∷ Ends ∷ k)
begin_unary k (A t.Minus) = Some (AUnary ∷ Ends ∷ k)
begin_unary k _ = None

abbrev pub begin_scalar : List Symbol → Kind → Option (List Symbol)
begin_scalar k (A t.Bit) = Some k
begin_scalar k (A t.UInt) = Some (Width ∷ k)
begin_scalar k (A t.Int) = Some (Width ∷ k)
begin_scalar k _ = None

abbrev pub begin_param : List Symbol → Kind → Option (List Symbol)
begin_param k AName = Some (Expect t.Colon ∷ AType ∷ k)
begin_param k (A t.Const) = Some (AnyName ∷ Expect t.Colon ∷ AType ∷ k)
begin_param k _ = None

-- `:=` and the updates
abbrev pub begin_value : Kind → Option (List Symbol)
begin_value (A t.Becomes) = Some (value [])
begin_value (A t.AddTo) = Some (value [])
begin_value (A t.SubtractFrom) = Some (value [])
begin_value (A t.XorTo) = Some (value [])
begin_value _ = None

-- what is expected after a token, where the symbol begins with it
abbrev pub begin : Symbol → Kind → Option (List Symbol)
begin (Expect s) (A u) = expect s u
begin (Closing s) (A u) = expect s u
begin AnyName AName = Some []
begin Functions (A t.Def) = Some (AnyName ∷ StaticPart ∷ ParamPart ∷ MarkPart ∷ ResultPart ∷ ABlock ∷ Functions ∷ [])
begin StaticPart (A t.LeftBracket) = Some (AnyName ∷ Expect t.Colon ∷ Expect t.Bang ∷ Expect t.Natural ∷ MoreStatics ∷ Closing t.RightBracket ∷ [])
begin MoreStatics (A t.Comma) = Some (AnyName ∷ Expect t.Colon ∷ Expect t.Bang ∷ Expect t.Natural ∷ MoreStatics ∷ [])
begin ParamPart (A t.LeftParen) = Some (Params ∷ Closing t.RightParen ∷ [])
begin Params k = begin_param (MoreParams ∷ []) k
begin OneParam k = begin_param [] k
begin MoreParams (A t.Comma) = Some (OneParam ∷ MoreParams ∷ [])
begin MarkPart (A t.Lifted) = Some []
begin MarkPart (A t.Qfree) = Some []
begin MarkPart (A t.Mfree) = Some []
begin ResultPart (A t.Colon) = Some (AType ∷ MoreResults ∷ [])
begin MoreResults (A t.Times) = Some (AType ∷ MoreResults ∷ [])
begin AType (A t.Bang) = Some (AScalar ∷ SizePart ∷ [])
begin AType k = begin_scalar (SizePart ∷ []) k
begin AScalar k = begin_scalar [] k
begin Width (A t.LeftBracket) = Some (an_expr (Closing t.RightBracket ∷ []))
begin SizePart (A t.Caret) = Some (ASize ∷ [])
begin ASize AName = Some []
begin ASize ANumber = Some []
begin ASize (A t.LeftParen) = Some (an_expr (Closing t.RightParen ∷ []))
begin ABlock (A t.LeftBrace) = Some (Statements ∷ Closing t.RightBrace ∷ [])
begin Statements AName = Some (StartName ∷ Statements ∷ [])
begin Statements (A t.LeftParen) =
    Some (AnyName ∷ Expect t.Comma ∷ AnyName ∷ MoreNames ∷ Closing t.RightParen ∷ Expect t.Becomes ∷ value (Statements ∷ []))
begin Statements (A t.Forget) = Some (ForgetPart ∷ Expect t.Semicolon ∷ Statements ∷ [])
begin Statements (A t.Phase) = Some (PhasePart ∷ Expect t.Semicolon ∷ Statements ∷ [])
begin Statements (A t.If) = Some (an_expr (ABlock ∷ ElseRest ∷ Statements ∷ []))
begin Statements (A t.For) = Some (AnyName ∷ Expect t.In ∷ Bounds ∷ ABlock ∷ Statements ∷ [])
begin Statements (A t.Return) = Some (ReturnValue ∷ Expect t.Semicolon ∷ Statements ∷ [])
begin MoreNames (A t.Comma) = Some (AnyName ∷ MoreNames ∷ [])
begin ForgetPart (A t.LeftParen) = Some (AnyName ∷ ForgetValue ∷ Closing t.RightParen ∷ [])
begin PhasePart (A t.LeftParen) = Some (an_expr (Closing t.RightParen ∷ []))
begin ForgetValue (A t.Is) = Some (an_expr [])
begin Bounds (A t.LeftBracket) = Some (an_expr (Expect t.Dots ∷ an_expr (Closing t.RightParen ∷ [])))
begin ReturnValue k = begin_unary (chains []) k
begin ElseRest (A t.Else) = Some (ElseBody ∷ [])
begin ElseBody (A t.LeftBrace) = Some (Statements ∷ Closing t.RightBrace ∷ [])
begin ElseBody (A t.If) = Some (an_expr (ABlock ∷ ElseRest ∷ Ends ∷ []))
begin StartName (A t.LeftBracket) = Some (an_expr (StartBracket ∷ []))
begin StartName (A t.LeftParen) = Some (Arguments ∷ Closing t.RightParen ∷ Expect t.Semicolon ∷ [])
begin StartName k = begin_value k
begin StartBracket (A t.RightBracket) = Some (StartIndex ∷ [])
begin StartBracket (A t.Comma) = Some (exprs (Closing t.RightBracket ∷ CallPart ∷ Expect t.Semicolon ∷ []))
begin StartIndex (A t.LeftBracket) = Some (an_expr (Closing t.RightBracket ∷ Assigns ∷ []))
begin StartIndex (A t.LeftParen) = Some (Arguments ∷ Closing t.RightParen ∷ Expect t.Semicolon ∷ [])
begin StartIndex k = begin_value k
begin Assigns k = begin_value k
begin AUnary k = begin_unary [] k
begin (Prods n) (A t.Star) = Some (AUnary ∷ Prods (n + 1) ∷ [])
begin (Prods n) (A t.Slash) = Some (AUnary ∷ Prods (n + 1) ∷ [])
begin (Sums n) (A t.Plus) = Some (AUnary ∷ Prods 0 ∷ Sums (n + 1) ∷ [])
begin (Sums n) (A t.Minus) = Some (AUnary ∷ Prods 0 ∷ Sums (n + 1) ∷ [])
begin Compare (A t.Equal) = Some (AUnary ∷ Prods 0 ∷ Sums 0 ∷ Ends ∷ [])
begin Compare (A t.NotEqual) = Some (AUnary ∷ Prods 0 ∷ Sums 0 ∷ Ends ∷ [])
begin Compare (A t.Below) = Some (AUnary ∷ Prods 0 ∷ Sums 0 ∷ Ends ∷ [])
begin Compare (A t.AtMost) = Some (AUnary ∷ Prods 0 ∷ Sums 0 ∷ Ends ∷ [])
begin Compare (A t.Above) = Some (AUnary ∷ Prods 0 ∷ Sums 0 ∷ Ends ∷ [])
begin Compare (A t.AtLeast) = Some (AUnary ∷ Prods 0 ∷ Sums 0 ∷ Ends ∷ [])
begin (Ands n) (A t.And) = Some (AUnary ∷ Prods 0 ∷ Sums 0 ∷ Compare ∷ Ands (n + 1) ∷ [])
begin (Ors n) (A t.Or) = Some (AUnary ∷ Prods 0 ∷ Sums 0 ∷ Compare ∷ Ands 0 ∷ Ors (n + 1) ∷ [])
begin NumberType (A t.Colon) = Some (AScalar ∷ [])
begin InName (A t.LeftBracket) = Some (an_expr (InBracket ∷ []))
begin InName (A t.LeftParen) = Some (Arguments ∷ Closing t.RightParen ∷ [])
begin InBracket (A t.RightBracket) = Some (InIndex ∷ [])
begin InBracket (A t.Comma) = Some (exprs (Closing t.RightBracket ∷ CallPart ∷ []))
begin InIndex (A t.LeftBracket) = Some (an_expr (Closing t.RightBracket ∷ []))
begin InIndex (A t.LeftParen) = Some (Arguments ∷ Closing t.RightParen ∷ [])
begin CallPart (A t.LeftParen) = Some (Arguments ∷ Closing t.RightParen ∷ [])
begin Arguments k = begin_unary (chains (MoreExprs ∷ [])) k
begin MoreExprs (A t.Comma) = Some (exprs [])
begin _ _ = None

-- whether a symbol may stand for no tokens
abbrev pub can_be_empty : Symbol → Bool
can_be_empty Ends = true
can_be_empty Functions = true
can_be_empty StaticPart = true
can_be_empty MoreStatics = true
can_be_empty Params = true
can_be_empty MoreParams = true
can_be_empty MarkPart = true
can_be_empty ResultPart = true
can_be_empty MoreResults = true
can_be_empty SizePart = true
can_be_empty Statements = true
can_be_empty MoreNames = true
can_be_empty ForgetValue = true
can_be_empty ReturnValue = true
can_be_empty ElseRest = true
can_be_empty (Prods n) = true
can_be_empty (Sums n) = true
can_be_empty Compare = true
can_be_empty (Ands n) = true
can_be_empty (Ors n) = true
can_be_empty NumberType = true
can_be_empty InName = true
can_be_empty InIndex = true
can_be_empty Arguments = true
can_be_empty MoreExprs = true
can_be_empty _ = false

abbrev pub table : Grammar Symbol Kind
table = record { begin = begin; can_be_empty = can_be_empty }

-- how much a symbol adds to the nest: what stands open up to it, or the operators of its chain that were read
abbrev pub weight : Symbol → ℕ
weight (Closing s) = 1
weight Ends = 1
weight StartBracket = 1
weight InBracket = 1
weight (Prods n) = n
weight (Sums n) = n
weight (Ands n) = n
weight (Ors n) = n
weight _ = 0

-- the nest behind a token: the blocks, brackets, parentheses, unary signs and `else` choices that are open there, and the
-- binary operators that were read in chains that may go on
abbrev pub nest : List Symbol → ℕ
nest [] = 0
nest (x ∷ xs) = weight x + nest xs
