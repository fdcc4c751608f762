-- The next token decides: each symbol of the table passes the test over all kinds.
use Rattle.std.proofs.Common.{◌≡◌, refl, Bool, true, false, List, [], ◌∷◌, Some, ap, sym, ◌∙◌, arith}
use Rattle.gate_core.specs.declared.gate.OneKind.TheVariants.{Id, X, Y, Z, H, S, Sdg, T, Tdg}
use Rattle.grammar_core.specs.Decided.{Reach, IsDecided}
use Rattle.grammar_core.specs.Check.{symbol_test, AreAll, item}
use Rattle.grammar_core.proofs.Checked.{decided}
use Rattle.qasm_tokens.specs.declared.kind.Kind.{Kind}
use Rattle.qasm_tokens.specs.declared.kind.Kind.TheVariants as k
use Rattle.qasm_tokens.specs.declared.symbol.Symbol.{Symbol}
use Rattle.qasm_tokens.specs.declared.symbol.Symbol.TheVariants.{Expect, AName, Items, AFile, IndexPart, UnderIf, MoreBarrier, Unread}
use Rattle.qasm_tokens.specs.Table.{table, kind_number, same_kind}

-- every kind, each at its number
abbrev pub kinds : List Kind
kinds =
    k.OpenQasm ∷ k.Version ∷ k.Include ∷ k.Qreg ∷ k.Creg ∷ k.Measure ∷ k.If ∷ k.Barrier ∷ k.Definition ∷ k.Reset ∷ k.Stray ∷ k.Cx ∷ k.Cz ∷ k.Ccx
    ∷ k.Lower ∷ k.Upper ∷ k.Number ∷ k.TooGreat ∷ k.Library ∷ k.OtherFile ∷ k.Semicolon ∷ k.Comma ∷ k.LeftParen ∷ k.RightParen
    ∷ k.LeftBracket ∷ k.RightBracket ∷ k.Arrow ∷ k.Equal ∷ k.One Id ∷ k.One X ∷ k.One Y ∷ k.One Z ∷ k.One H ∷ k.One S ∷ k.One Sdg ∷ k.One T ∷ k.One Tdg ∷ []

at_number : (t : Kind) → item kinds (kind_number t) ≡ Some t
at_number k.OpenQasm = refl
at_number k.Version = refl
at_number k.Include = refl
at_number k.Qreg = refl
at_number k.Creg = refl
at_number k.Measure = refl
at_number k.If = refl
at_number k.Barrier = refl
at_number k.Definition = refl
at_number k.Reset = refl
at_number k.Stray = refl
at_number k.Cx = refl
at_number k.Cz = refl
at_number k.Ccx = refl
at_number k.Lower = refl
at_number k.Upper = refl
at_number k.Number = refl
at_number k.TooGreat = refl
at_number k.Library = refl
at_number k.OtherFile = refl
at_number k.Semicolon = refl
at_number k.Comma = refl
at_number k.LeftParen = refl
at_number k.RightParen = refl
at_number k.LeftBracket = refl
at_number k.RightBracket = refl
at_number k.Arrow = refl
at_number k.Equal = refl
at_number (k.One Id) = refl
at_number (k.One X) = refl
at_number (k.One Y) = refl
at_number (k.One Z) = refl
at_number (k.One H) = refl
at_number (k.One S) = refl
at_number (k.One Sdg) = refl
at_number (k.One T) = refl
at_number (k.One Tdg) = refl

all : AreAll kinds
all t = (kind_number t, at_number t)

-- kinds with one number are one kind
pub same : (a b : Kind) → same_kind a b ≡ true → a ≡ b
same a b e =
    let n : kind_number a ≡ kind_number b = grind (arith, e) in
    let h : Some a ≡ Some b = sym (at_number a) ∙ ap (λ i. item kinds i) n ∙ at_number b in cc

-- tokens with which a symbol may still go on where it could be over
abbrev pub goes_on : Symbol → Kind → Bool
goes_on (Expect s) t = false
goes_on AName t = false
goes_on IndexPart k.LeftBracket = true
goes_on IndexPart _ = false
goes_on MoreBarrier k.Comma = true
goes_on MoreBarrier k.LeftBracket = true
goes_on MoreBarrier _ = false
goes_on _ t = true

abbrev pub shortest : Symbol → List Kind
shortest (Expect s) = s ∷ []
shortest AName = k.Lower ∷ []
shortest AFile = k.OtherFile ∷ []
shortest UnderIf = k.Upper ∷ []
shortest _ = []

abbrev pub reaches : Reach Symbol Kind
reaches = record { goes_on = goes_on; shortest = shortest }

expects : (t : Kind) → symbol_test table reaches kinds (Expect t) ≡ true
expects k.OpenQasm = refl
expects k.Version = refl
expects k.Include = refl
expects k.Qreg = refl
expects k.Creg = refl
expects k.Measure = refl
expects k.If = refl
expects k.Barrier = refl
expects k.Definition = refl
expects k.Reset = refl
expects k.Stray = refl
expects k.Cx = refl
expects k.Cz = refl
expects k.Ccx = refl
expects k.Lower = refl
expects k.Upper = refl
expects k.Number = refl
expects k.TooGreat = refl
expects k.Library = refl
expects k.OtherFile = refl
expects k.Semicolon = refl
expects k.Comma = refl
expects k.LeftParen = refl
expects k.RightParen = refl
expects k.LeftBracket = refl
expects k.RightBracket = refl
expects k.Arrow = refl
expects k.Equal = refl
expects (k.One Id) = refl
expects (k.One X) = refl
expects (k.One Y) = refl
expects (k.One Z) = refl
expects (k.One H) = refl
expects (k.One S) = refl
expects (k.One Sdg) = refl
expects (k.One T) = refl
expects (k.One Tdg) = refl

tested : (x : Symbol) → symbol_test table reaches kinds x ≡ true
tested (Expect s) = expects s
tested AName = refl
tested Items = refl
tested AFile = refl
tested IndexPart = refl
tested UnderIf = refl
tested MoreBarrier = refl
tested Unread = refl

-- the next token decides
pub the_table : IsDecided table reaches
the_table = decided table reaches kinds all tested
