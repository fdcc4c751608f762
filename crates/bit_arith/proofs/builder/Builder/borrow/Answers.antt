use Rattle.std.proofs.Common.{◌≡◌, ℕ, ◌+◌, ◌<◌, ◌≤◌, false, List, [], ◌∷◌, length, drop, refl, sym, ap, ◌∙◌, subst, arith}
use Rattle.std.proofs.lemmas.List.{drop_more, drop_all}
use Rattle.bit_arith.specs.declared.operand.Operand.{Operand}
use Rattle.bit_arith.specs.declared.operand.Operand.TheVariants.{Const}
use Rattle.bit_arith.specs.Built.{Built, Setting, Given, begun, under, made, negated, next_wire}
use Rattle.bit_arith.specs.Rows.{borrow}
use Rattle.bit_arith.specs.Calls.{AllSafe, no_target}
use Rattle.bit_arith.proofs.Keeps.{borrow_x}
use Rattle.bit_arith.proofs.Safe.{negated_safe}
use Rattle.bit_arith.proofs.Going.{refused_out, going_start, going_more, going_refused, going_end}
use Rattle.bit_arith.proofs.Turns.{bit_at, places_safe, out_of, out_x, out_safe}
use Rattle.bit_arith.proofs.builder.Builder.borrow.Goals as goal

-- the borrows from a place on
abbrev rest : Operand → List Operand → List Operand → ℕ → Setting → Built → Given Operand
rest c ps qs i at b = borrow at c (drop i ps) (drop i qs) b

abbrev built_of_one : Given Operand → Built
built_of_one g = g.built

turn : (ps qs : List Operand) (c p out : Operand) (i : ℕ) (at : Setting) (b : Built) → i < length ps → length ps ≡ length qs → p ≡ negated (bit_at ps i) → out ≡ made (next_wire b) → rest c ps qs i at b ≡ rest out ps qs (i + 1) at (out_of p (bit_at qs i) c at b)
turn ps qs c p out i at b lt same is out_is =
    let e = drop_more ps i (Const false) lt in
    let f = drop_more qs i (Const false) (omega arith) in
    rw (out_is, is, e, f)

ends : (ps qs : List Operand) (c : Operand) (i : ℕ) → length ps ≤ i → (at : Setting) (b : Built) → rest c ps qs i at b ≡ record { answer = c; built = b }
ends ps qs c i le at b = let e = drop_all i ps le in rw e

pub loop-i-init : goal.loop-i-init
loop-i-init c = record { going = going_start c.args.self.now (rest (Const false) c.args.a.now c.args.b.now 0); safe = tt }

pub carry_out-requires : goal.carry_out-requires
carry_out-requires c = record {
  safe = subst (λ (p : Operand). AllSafe (length c.loop-i.self.draft.wires) no_target (under c.loop-i.self.setting (p ∷ bit_at c.args.b.now c.loop-i.i ∷ c.loop-i.carry ∷ []))) (sym c.negated.ensures)
      (places_safe c.args.self.now c.loop-i.self negated c.args.a.now c.args.b.now c.loop-i.carry c.loop-i.i (negated_safe _ no_target) c.loop-i-test.true c.requires.lengths
      c.loop-i.invariant.going.kept c.loop-i.invariant.going.grown.grows.few c.requires.safe c.loop-i.invariant.safe);
}

pub returns-in_err-carry-clause-refused : goal.returns-in_err-carry-clause-refused
returns-in_err-carry-clause-refused c =
    let ps : List Operand = c.args.a.now in
    let qs : List Operand = c.args.b.now in
    let i : ℕ = c.loop-i.i in
    let out : Operand = made (next_wire (begun c.loop-i.self.draft)) in
    refused_out _ _ _ c.from_residual.ensures.1
    (going_refused built_of_one _ _ (rest c.loop-i.carry ps qs i) (out_of c.negated.result (bit_at qs i) c.loop-i.carry) (rest out ps qs (i + 1)) _ _
    (turn ps qs _ c.negated.result out i _ _ c.loop-i-test.true c.requires.lengths c.negated.ensures refl)
    (λ at b. borrow_x at out (drop (i + 1) ps) (drop (i + 1) qs) b)
    c.loop-i.invariant.going c.in_err-carry.ensures.refused)

pub loop-i-preserved : goal.loop-i-preserved
loop-i-preserved c =
    let ps : List Operand = c.args.a.now in
    let qs : List Operand = c.args.b.now in
    let i : ℕ = c.loop-i.i in
    let out : Operand = c.in_ok-carry.carry in
    record {
      going = going_more _ _ _ (rest c.loop-i.carry ps qs i) (out_of c.negated.result (bit_at qs i) c.loop-i.carry) (rest out ps qs (i + 1)) _
          (turn ps qs _ c.negated.result out i _ _ c.loop-i-test.true c.requires.lengths c.negated.ensures c.in_ok-carry.ensures.answer)
          (out_x c.negated.result (bit_at qs i) c.loop-i.carry)
          c.loop-i.invariant.going c.in_ok-carry.ensures.ok;
      safe = out_safe c.loop-i.self c.carry_out.new.self c.negated.result (bit_at qs i) c.loop-i.carry out c.in_ok-carry.ensures.answer c.in_ok-carry.ensures.ok;
    }

pub returns-clause-answer : goal.returns-clause-answer
returns-clause-answer c =
    let ps : List Operand = c.args.a.now in
    let qs : List Operand = c.args.b.now in
    ap (λ (g : Given Operand). g.answer) (sym (ends ps qs c.loop-i.carry c.loop-i.i (omega arith) c.loop-i.self.setting (begun c.loop-i.self.draft)) ∙ c.loop-i.invariant.going.same)

pub returns-clause-ok : goal.returns-clause-ok
returns-clause-ok c =
    let ps : List Operand = c.args.a.now in
    let qs : List Operand = c.args.b.now in
    going_end built_of_one _ _ (rest c.loop-i.carry ps qs c.loop-i.i) _
    (λ at b. ap built_of_one (ends ps qs c.loop-i.carry c.loop-i.i (omega arith) at b)) c.loop-i.invariant.going
