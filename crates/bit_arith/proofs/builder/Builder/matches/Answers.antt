use Rattle.std.proofs.Common.{◌≡◌, ℕ, ◌+◌, ◌<◌, List, [], ◌∷◌, ◌++◌, length, drop, refl, sym, ap, ◌∙◌, arith}
use Rattle.bit_arith.specs.declared.operand.Operand.{Operand}
use Rattle.bit_arith.specs.Built.{Built, Setting, Given, begun, negated}
use Rattle.bit_arith.specs.Rows.{matches, differ}
use Rattle.bit_arith.proofs.Keeps.{differ_x, matches_x}
use Rattle.bit_arith.proofs.Going.{Row, refused_out, going_more, going_refused, going_end}
use Rattle.bit_arith.proofs.Turns.{bit_at, prepend, built_of, pair_safe, matches_turn, matches_end}
use Rattle.bit_arith.proofs.builder.Builder.matches.Goals as goal

-- the tests from a place on, after those before it, and the one there
abbrev rest : List Operand → List Operand → List Operand → ℕ → Setting → Built → Given (List Operand)
rest done ps qs i at b = prepend done (matches at (drop i ps) (drop i qs) b)

abbrev step : List Operand → List Operand → ℕ → Row
step ps qs i at b = (differ at (bit_at ps i) (bit_at qs i) b).built

turn : (done more ps qs : List Operand) (i : ℕ) (at : Setting) (b : Built) → i < length ps → length ps ≡ length qs → more ≡ done ++ negated (differ at (bit_at ps i) (bit_at qs i) b).answer ∷ [] → rest done ps qs i at b ≡ rest more ps qs (i + 1) at (step ps qs i at b)
turn done more ps qs i at b lt same e =
    matches_turn done ps qs i lt same at b ∙ ap (λ (xs : List Operand). rest xs ps qs (i + 1) at (step ps qs i at b)) (sym e)

pub differ-requires : goal.differ-requires
differ-requires c = record {
  safe = pair_safe c.args.self.now c.loop-i.self c.args.a.now c.args.b.now c.loop-i.i c.loop-i-test.true c.requires.lengths c.loop-i.invariant.kept c.loop-i.invariant.grown.grows.few c.requires.safe;
}

pub returns-in_err-differs-clause-refused : goal.returns-in_err-differs-clause-refused
returns-in_err-differs-clause-refused c =
    let ps : List Operand = c.args.a.now in
    let qs : List Operand = c.args.b.now in
    let i : ℕ = c.loop-i.i in
    refused_out _ _ _ c.from_residual.ensures.1
    (going_refused built_of _ _ (rest c.loop-i.matches.items ps qs i) (step ps qs i) (rest (c.loop-i.matches.items ++ negated (differ c.loop-i.self.setting (bit_at ps i) (bit_at qs i) (begun c.loop-i.self.draft)).answer ∷ []) ps qs (i + 1)) _ _
    (turn _ _ ps qs i _ _ c.loop-i-test.true c.requires.lengths refl)
    (λ at b. matches_x at (drop (i + 1) ps) (drop (i + 1) qs) b)
    c.loop-i.invariant c.in_err-differs.ensures.refused)

pub loop-i-preserved : goal.loop-i-preserved
loop-i-preserved c =
    let ps : List Operand = c.args.a.now in
    let qs : List Operand = c.args.b.now in
    let i : ℕ = c.loop-i.i in
    going_more _ _ _ (rest c.loop-i.matches.items ps qs i) (step ps qs i) (rest c.push.new.self.items ps qs (i + 1)) _
    (turn _ _ ps qs i _ _ c.loop-i-test.true c.requires.lengths
    (c.in_ok-push.ensures.items ∙ ap (λ (x : Operand). c.loop-i.matches.items ++ x ∷ []) (c.negated.ensures ∙ ap negated c.in_ok-differs.ensures.answer)))
    (λ at b. differ_x at (bit_at ps i) (bit_at qs i) b)
    c.loop-i.invariant c.in_ok-differs.ensures.ok

pub returns-clause-answer : goal.returns-clause-answer
returns-clause-answer c =
    ap (λ (g : Given (List Operand)). g.answer)
    (sym (matches_end c.loop-i.matches.items c.args.a.now c.args.b.now c.loop-i.i (omega arith) c.loop-i.self.setting (begun c.loop-i.self.draft)) ∙ c.loop-i.invariant.same)

pub returns-clause-ok : goal.returns-clause-ok
returns-clause-ok c =
    going_end built_of _ _ (rest c.loop-i.matches.items c.args.a.now c.args.b.now c.loop-i.i) _
    (λ at b. ap built_of (matches_end c.loop-i.matches.items c.args.a.now c.args.b.now c.loop-i.i (omega arith) at b)) c.loop-i.invariant
