-- The numbers among the tokens of an item.
use Rattle.std.proofs.Common.{◌≡◌, ℕ, zero, suc, ◌<◌, true, List, [], ◌∷◌, length, get_or, map, refl, subst, arith}
use Rattle.std.specs.List.{All}
use Rattle.std.proofs.lemmas.List.{length-map}
use Rattle.gate_core.specs.declared.gate.OneKind.TheVariants as one
use Rattle.qasm_tokens.specs.declared.kind.Kind.{Kind}
use Rattle.qasm_tokens.specs.declared.kind.Kind.TheVariants as k
use Rattle.qasm_tokens.specs.declared.token.Token.{Token as ReadToken}
use Rattle.qasm_tokens.specs.Table.{same_kind}
use Rattle.qasm_tokens.specs.Cursors.{token_of}
use Rattle.qasm_tokens.specs.Taken as taken
use Rattle.qasm_read.specs.Read.{IsSpelled}

number_kind : (kind : Kind) → same_kind k.Number kind ≡ true → kind ≡ k.Number
number_kind k.Number e = refl
number_kind (k.One one.Id) e = absurd (cc)
number_kind (k.One one.X) e = absurd (cc)
number_kind (k.One one.Y) e = absurd (cc)
number_kind (k.One one.Z) e = absurd (cc)
number_kind (k.One one.H) e = absurd (cc)
number_kind (k.One one.S) e = absurd (cc)
number_kind (k.One one.Sdg) e = absurd (cc)
number_kind (k.One one.T) e = absurd (cc)
number_kind (k.One one.Tdg) e = absurd (cc)
number_kind _ e = absurd (cc)

token_at : (ts : List ReadToken) (i : ℕ) (d : ReadToken) → i < length ts → get_or (map token_of ts) i (token_of d) ≡ token_of (get_or ts i d)
token_at [] i d l = absurd (omega arith)
token_at (t ∷ ts) zero d l = refl
token_at (t ∷ ts) (suc i) d l = token_at ts i d (omega arith)

-- as the items are taken, so they are read
pub spelled : (ts : List ReadToken) → All taken.IsSpelled (map token_of ts) → All IsSpelled ts
spelled ts h = λ i d l e.
    let m : length (map token_of ts) ≡ length ts = length-map ts token_of in
    (subst taken.IsSpelled (token_at ts i d l) (h i (token_of d) (omega arith))) (number_kind (get_or ts i d).kind e)
