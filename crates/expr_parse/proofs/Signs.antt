-- When two terminals are the same.
use Rattle.std.proofs.Common.{◌≡◌, ℕ, Bool, true, false, List, [], ◌∷◌, refl, ap, sym, ◌∙◌, nat_eq, arith, slice_index_or}
use Rattle.silq_grammar.specs.declared.token.Terminal.{Terminal}
use Rattle.silq_grammar.specs.declared.token.Terminal.TheVariants as t
use Rattle.silq_grammar.specs.Terminals.{number_of, same_terminal}

nat_same : (n : ℕ) → nat_eq n n ≡ true
nat_same n = search arith

nats_same : (m n : ℕ) → nat_eq m n ≡ true → m ≡ n
nats_same m n e = search arith

abbrev terminals : List Terminal
terminals = t.Def ∷ t.Return ∷ t.If ∷ t.Else ∷ t.For ∷ t.In ∷ t.Forget ∷ t.Phase ∷ t.Const ∷ t.Qfree ∷ t.Mfree ∷ t.Lifted ∷ t.True ∷ t.False ∷ t.Pi ∷ t.Bit ∷ t.Natural ∷ t.UInt ∷ t.Int ∷ t.Becomes ∷ t.AddTo ∷ t.SubtractFrom ∷ t.XorTo ∷ t.Equal ∷ t.NotEqual ∷ t.AtMost ∷ t.AtLeast ∷ t.Below ∷ t.Above ∷ t.And ∷ t.Or ∷ t.Dots ∷ t.LeftParen ∷ t.RightParen ∷ t.LeftBracket ∷ t.RightBracket ∷ t.LeftBrace ∷ t.RightBrace ∷ t.Comma ∷ t.Semicolon ∷ t.Colon ∷ t.Is ∷ t.Bang ∷ t.Plus ∷ t.Minus ∷ t.Star ∷ t.Slash ∷ t.Caret ∷ t.Times ∷ []

abbrev terminal_of : ℕ → Terminal
terminal_of n = slice_index_or terminals n t.Def

terminal_of-number_of : (a : Terminal) → terminal_of (number_of a) ≡ a
terminal_of-number_of t.Def = refl
terminal_of-number_of t.Return = refl
terminal_of-number_of t.If = refl
terminal_of-number_of t.Else = refl
terminal_of-number_of t.For = refl
terminal_of-number_of t.In = refl
terminal_of-number_of t.Forget = refl
terminal_of-number_of t.Phase = refl
terminal_of-number_of t.Const = refl
terminal_of-number_of t.Qfree = refl
terminal_of-number_of t.Mfree = refl
terminal_of-number_of t.Lifted = refl
terminal_of-number_of t.True = refl
terminal_of-number_of t.False = refl
terminal_of-number_of t.Pi = refl
terminal_of-number_of t.Bit = refl
terminal_of-number_of t.Natural = refl
terminal_of-number_of t.UInt = refl
terminal_of-number_of t.Int = refl
terminal_of-number_of t.Becomes = refl
terminal_of-number_of t.AddTo = refl
terminal_of-number_of t.SubtractFrom = refl
terminal_of-number_of t.XorTo = refl
terminal_of-number_of t.Equal = refl
terminal_of-number_of t.NotEqual = refl
terminal_of-number_of t.AtMost = refl
terminal_of-number_of t.AtLeast = refl
terminal_of-number_of t.Below = refl
terminal_of-number_of t.Above = refl
terminal_of-number_of t.And = refl
terminal_of-number_of t.Or = refl
terminal_of-number_of t.Dots = refl
terminal_of-number_of t.LeftParen = refl
terminal_of-number_of t.RightParen = refl
terminal_of-number_of t.LeftBracket = refl
terminal_of-number_of t.RightBracket = refl
terminal_of-number_of t.LeftBrace = refl
terminal_of-number_of t.RightBrace = refl
terminal_of-number_of t.Comma = refl
terminal_of-number_of t.Semicolon = refl
terminal_of-number_of t.Colon = refl
terminal_of-number_of t.Is = refl
terminal_of-number_of t.Bang = refl
terminal_of-number_of t.Plus = refl
terminal_of-number_of t.Minus = refl
terminal_of-number_of t.Star = refl
terminal_of-number_of t.Slash = refl
terminal_of-number_of t.Caret = refl
terminal_of-number_of t.Times = refl

pub same : (a : Terminal) → same_terminal a a ≡ true
same a = nat_same (number_of a)

pub are_same : (a b : Terminal) → same_terminal a b ≡ true → a ≡ b
are_same a b e = sym (terminal_of-number_of a) ∙ ap terminal_of (nats_same (number_of a) (number_of b) e) ∙ terminal_of-number_of b

-- a flag that tells whether two terminals are equal
pub flag_same : (flag : Bool) (a b : Terminal) → (flag ≡ true → a ≡ b) → (flag ≡ false → a ≡ b → ⊥) → flag ≡ same_terminal a b
flag_same true a b f g = let e = f refl in sym (rw e (same b))
flag_same false a b f g = of (same_terminal a b) refl
  where
    of : (flag : Bool) → same_terminal a b ≡ flag → false ≡ flag
    of true e = absurd (g refl (are_same a b e))
    of false e = refl
