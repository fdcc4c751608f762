-- When two terminals are the same.
use Rattle.std.specs.Prelude.{ℕ, Bool, nat_eq}
use Rattle.silq_grammar.specs.declared.token.Terminal.{Terminal}
use Rattle.silq_grammar.specs.declared.token.Terminal.TheVariants as t

abbrev pub number_of : Terminal → ℕ
number_of t.Def = 0
number_of t.Return = 1
number_of t.If = 2
number_of t.Else = 3
number_of t.For = 4
number_of t.In = 5
number_of t.Forget = 6
number_of t.Phase = 7
number_of t.Const = 8
number_of t.Qfree = 9
number_of t.Mfree = 10
number_of t.Lifted = 11
number_of t.True = 12
number_of t.False = 13
number_of t.Pi = 14
number_of t.Bit = 15
number_of t.Natural = 16
number_of t.UInt = 17
number_of t.Int = 18
number_of t.Becomes = 19
number_of t.AddTo = 20
number_of t.SubtractFrom = 21
number_of t.XorTo = 22
number_of t.Equal = 23
number_of t.NotEqual = 24
number_of t.AtMost = 25
number_of t.AtLeast = 26
number_of t.Below = 27
number_of t.Above = 28
number_of t.And = 29
number_of t.Or = 30
number_of t.Dots = 31
number_of t.LeftParen = 32
number_of t.RightParen = 33
number_of t.LeftBracket = 34
number_of t.RightBracket = 35
number_of t.LeftBrace = 36
number_of t.RightBrace = 37
number_of t.Comma = 38
number_of t.Semicolon = 39
number_of t.Colon = 40
number_of t.Is = 41
number_of t.Bang = 42
number_of t.Plus = 43
number_of t.Minus = 44
number_of t.Star = 45
number_of t.Slash = 46
number_of t.Caret = 47
number_of t.Times = 48

abbrev pub same_terminal : Terminal → Terminal → Bool
same_terminal a b = nat_eq (number_of a) (number_of b)
