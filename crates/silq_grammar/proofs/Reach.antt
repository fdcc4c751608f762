-- What a symbol may still go on with, and a shortest text of each.
use Rattle.std.proofs.Common.{Bool, true, false, ◌||◌, List, [], ◌∷◌, Option, Some, None}
use Rattle.grammar_core.specs.Decided.{Reach}
use Rattle.silq_grammar.specs.Tokens.{Kind, AName, ANumber, A}
use Rattle.silq_grammar.specs.declared.token.Terminal.TheVariants as t
use Rattle.silq_grammar.specs.Machine.{begin, Symbol, Expect, AnyName, Closing, Functions, StaticPart, MoreStatics, ParamPart, Params, OneParam, MoreParams, MarkPart, ResultPart, MoreResults, AType, AScalar, Width, SizePart, ASize, ABlock, Statements, MoreNames, ForgetPart, PhasePart, ForgetValue, Bounds, ReturnValue, ElseRest, ElseBody, StartName, StartBracket, StartIndex, Assigns, AUnary, Prods, Sums, Compare, Ands, Ors, NumberType, InName, InBracket, InIndex, CallPart, Arguments, MoreExprs}

abbrev pub is_some : Option (List Symbol) → Bool
is_some None = false
is_some (Some x) = true

abbrev pub begins : Symbol → Kind → Bool
begins x k = is_some (begin x k)

-- what may follow an expression that is one of these already, level by level

abbrev pub after_unary : Kind → Bool
after_unary k = begins NumberType k || begins InName k

abbrev pub after_prod : Kind → Bool
after_prod k = after_unary k || begins (Prods 0) k

abbrev pub after_sum : Kind → Bool
after_sum k = after_prod k || begins (Sums 0) k

abbrev pub after_cmp : Kind → Bool
after_cmp k = after_sum k || begins Compare k

abbrev pub after_and : Kind → Bool
after_and k = after_cmp k || begins (Ands 0) k

abbrev pub after_expr : Kind → Bool
after_expr k = after_and k || begins (Ors 0) k

-- tokens that a symbol may still go on with where it could be over
abbrev pub goes_on : Symbol → Kind → Bool
goes_on Functions k = begins Functions k
goes_on StaticPart k = begins StaticPart k
goes_on MoreStatics k = begins MoreStatics k
goes_on Params k = begins Params k || (begins SizePart k || begins MoreParams k)
goes_on OneParam k = begins SizePart k
goes_on MoreParams k = begins SizePart k || begins MoreParams k
goes_on MarkPart k = begins MarkPart k
goes_on ResultPart k = begins ResultPart k || (begins SizePart k || begins MoreResults k)
goes_on MoreResults k = begins SizePart k || begins MoreResults k
goes_on AType k = begins SizePart k
goes_on SizePart k = begins SizePart k
goes_on Statements k = begins Statements k || begins ElseRest k
goes_on MoreNames k = begins MoreNames k
goes_on ForgetValue k = begins ForgetValue k || after_expr k
goes_on ReturnValue k = begins ReturnValue k || after_expr k
goes_on ElseRest k = begins ElseRest k
goes_on ElseBody k = begins ElseRest k
goes_on AUnary k = after_unary k
goes_on (Prods n) k = after_prod k
goes_on (Sums n) k = after_sum k
goes_on Compare k = after_cmp k
goes_on (Ands n) k = after_and k
goes_on (Ors n) k = after_expr k
goes_on NumberType k = begins NumberType k
goes_on InName k = begins InName k
goes_on InBracket k = begins InIndex k
goes_on InIndex k = begins InIndex k
goes_on Arguments k = begins Arguments k || (after_expr k || begins MoreExprs k)
goes_on MoreExprs k = after_expr k || begins MoreExprs k
goes_on _ _ = false

-- a shortest text of a symbol
abbrev pub shortest : Symbol → List Kind
shortest (Expect s) = A s ∷ []
shortest (Closing s) = A s ∷ []
shortest AnyName = AName ∷ []
shortest ParamPart = A t.LeftParen ∷ A t.RightParen ∷ []
shortest OneParam = AName ∷ A t.Colon ∷ A t.Bit ∷ []
shortest AType = A t.Bit ∷ []
shortest AScalar = A t.Bit ∷ []
shortest Width = A t.LeftBracket ∷ ANumber ∷ A t.RightBracket ∷ []
shortest ASize = ANumber ∷ []
shortest ABlock = A t.LeftBrace ∷ A t.RightBrace ∷ []
shortest ForgetPart = A t.LeftParen ∷ AName ∷ A t.RightParen ∷ []
shortest PhasePart = A t.LeftParen ∷ ANumber ∷ A t.RightParen ∷ []
shortest Bounds = A t.LeftBracket ∷ ANumber ∷ A t.Dots ∷ ANumber ∷ A t.RightParen ∷ []
shortest ElseBody = A t.LeftBrace ∷ A t.RightBrace ∷ []
shortest StartName = A t.Becomes ∷ ANumber ∷ A t.Semicolon ∷ []
shortest StartBracket = A t.RightBracket ∷ A t.Becomes ∷ ANumber ∷ A t.Semicolon ∷ []
shortest StartIndex = A t.Becomes ∷ ANumber ∷ A t.Semicolon ∷ []
shortest Assigns = A t.Becomes ∷ ANumber ∷ A t.Semicolon ∷ []
shortest AUnary = ANumber ∷ []
shortest InBracket = A t.RightBracket ∷ []
shortest CallPart = A t.LeftParen ∷ A t.RightParen ∷ []
shortest _ = []

abbrev pub reach : Reach Symbol Kind
reach = record { goes_on = goes_on; shortest = shortest }

-- every kind of token
abbrev pub kinds : List Kind
kinds = AName ∷ ANumber
    ∷ A t.Def ∷ A t.Return ∷ A t.If ∷ A t.Else ∷ A t.For ∷ A t.In ∷ A t.Forget ∷ A t.Phase ∷ A t.Const ∷ A t.Qfree
    ∷ A t.Mfree ∷ A t.Lifted ∷ A t.True ∷ A t.False ∷ A t.Pi ∷ A t.Bit ∷ A t.Natural ∷ A t.UInt ∷ A t.Int ∷ A t.Becomes
    ∷ A t.AddTo ∷ A t.SubtractFrom ∷ A t.XorTo ∷ A t.Equal ∷ A t.NotEqual ∷ A t.AtMost ∷ A t.AtLeast ∷ A t.Below ∷ A t.Above ∷ A t.And
    ∷ A t.Or ∷ A t.Dots ∷ A t.LeftParen ∷ A t.RightParen ∷ A t.LeftBracket ∷ A t.RightBracket ∷ A t.LeftBrace ∷ A t.RightBrace ∷ A t.Comma ∷ A t.Semicolon
    ∷ A t.Colon ∷ A t.Is ∷ A t.Bang ∷ A t.Plus ∷ A t.Minus ∷ A t.Star ∷ A t.Slash ∷ A t.Caret ∷ A t.Times ∷ []
