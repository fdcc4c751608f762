use Rattle.std.proofs.Common.{◌≡◌, ℕ, ◌+◌, ◌-◌, ◌<◌, ◌≤◌, Bool, true, false, List, [], ◌∷◌, ◌++◌, length, drop, refl, sym, ap, ◌∙◌, subst, arith}
use Rattle.std.specs.Prelude.{nat_eq}
use Rattle.std.proofs.lemmas.Bool.{eqb-true}
use Rattle.std.proofs.lemmas.Bool.Decides.{nat_tests}
use Rattle.bit_arith.specs.declared.operand.Operand.{Operand}
use Rattle.bit_arith.specs.declared.operand.Operand.TheVariants.{Const}
use Rattle.bit_arith.specs.Built.{Built, Setting, Given, begun, made, next_wire}
use Rattle.bit_arith.specs.Rows.{carry, carries}
use Rattle.bit_arith.specs.Calls.{Building}
use Rattle.bit_arith.proofs.Keeps.{carries_x}
use Rattle.bit_arith.proofs.Going.{Going, refused_out, going_start, going_more, going_refused, going_end}
use Rattle.bit_arith.proofs.Turns.{bit_at, prepend, built_of, carries_turn, carries_end, places_safe, out_of, out_x, out_safe}
use Rattle.bit_arith.proofs.builder.Builder.carry.Goals as goal

-- the carries from a place on, after those before it
abbrev rest : List Operand → Operand → List Operand → List Operand → ℕ → Setting → Built → Given (List Operand)
rest done c ps qs i at b = prepend done (carries at c (drop i ps) (drop i qs) b)

empty : (at : Setting) (ps qs : List Operand) (b : Built) → length ps ≡ 0 → carry at ps qs b ≡ record { answer = []; built = b }
unfolding carry
empty at [] qs b none = refl
empty at (p ∷ ps) qs b none = absurd (omega arith)

start : (old : Building) (done ps qs : List Operand) → done ≡ [] → Going old old (rest done (Const false) ps qs 0) (carry old.setting ps qs (begun old.draft))
unfolding carry
start old done ps qs none = subst (λ (xs : List Operand). Going old old (rest xs (Const false) ps qs 0) (carry old.setting ps qs (begun old.draft))) (sym none) (going_start old (rest [] (Const false) ps qs 0))

turn : (done more ps qs : List Operand) (c out : Operand) (i : ℕ) (at : Setting) (b : Built) → i + 1 < length ps → length ps ≡ length qs → more ≡ done ++ c ∷ [] → out ≡ made (next_wire b) → rest done c ps qs i at b ≡ rest more out ps qs (i + 1) at (out_of (bit_at ps i) (bit_at qs i) c at b)
turn done more ps qs c out i at b lt same e f =
    carries_turn done ps qs c i lt same at b
    ∙ ap (λ (xs : List Operand). rest xs (made (next_wire b)) ps qs (i + 1) at (out_of (bit_at ps i) (bit_at qs i) c at b)) (sym e)
    ∙ ap (λ (x : Operand). rest more x ps qs (i + 1) at (out_of (bit_at ps i) (bit_at qs i) c at b)) (sym f)

no_items : (n : ℕ) → true ≡ nat_eq n 0 → n ≡ 0
no_items n e = eqb-true n 0 (sym e)

pub returns-then-is_empty-clause-answer : goal.returns-then-is_empty-clause-answer
returns-then-is_empty-clause-answer c =
    c.new-carries.ensures.items
    ∙ sym (ap (λ (g : Given (List Operand)). g.answer) (empty c.args.self.now.setting c.args.a.now c.args.b.now (begun c.args.self.now.draft) (no_items _ c.if-is_empty.ensures)))

pub returns-then-is_empty-clause-ok : goal.returns-then-is_empty-clause-ok
returns-then-is_empty-clause-ok c =
    going_end built_of c.args.self.now c.args.self.now (λ at b. carry at c.args.a.now c.args.b.now b) _
    (λ at b. ap built_of (empty at c.args.a.now c.args.b.now b (no_items _ c.if-is_empty.ensures)))
    (going_start c.args.self.now (λ at b. carry at c.args.a.now c.args.b.now b))

pub loop-i-init : goal.loop-i-init
loop-i-init c = record { going = start c.args.self.now c.new-carries.result.items c.args.a.now c.args.b.now c.new-carries.ensures.items; safe = tt }

pub returns-in_err-carry-clause-refused : goal.returns-in_err-carry-clause-refused
returns-in_err-carry-clause-refused c =
    let ps : List Operand = c.args.a.now in
    let qs : List Operand = c.args.b.now in
    let i : ℕ = c.loop-i.i in
    let out : Operand = made (next_wire (begun c.loop-i.self.draft)) in
    refused_out _ _ _ c.from_residual-in_err-carry.ensures.1
    (going_refused built_of _ _ (rest c.loop-i.carries.items c.loop-i.carry ps qs i) (out_of (bit_at ps i) (bit_at qs i) c.loop-i.carry) (rest c.push.new.self.items out ps qs (i + 1)) _ _
    (turn _ _ ps qs _ out i _ _ (let h = c.loop-i-test.true in omega arith) c.requires.lengths c.in_ok-push.ensures.items refl)
    (λ at b. carries_x at out (drop (i + 1) ps) (drop (i + 1) qs) b)
    c.loop-i.invariant.going c.in_err-carry.ensures.refused)

pub loop-i-preserved : goal.loop-i-preserved
loop-i-preserved c =
    let ps : List Operand = c.args.a.now in
    let qs : List Operand = c.args.b.now in
    let i : ℕ = c.loop-i.i in
    let out : Operand = c.in_ok-carry.carry in
    record {
      going = going_more _ _ _ (rest c.loop-i.carries.items c.loop-i.carry ps qs i) (out_of (bit_at ps i) (bit_at qs i) c.loop-i.carry) (rest c.push.new.self.items out ps qs (i + 1)) _
          (turn _ _ ps qs _ out i _ _ (let h = c.loop-i-test.true in omega arith) c.requires.lengths c.in_ok-push.ensures.items c.in_ok-carry.ensures.answer)
          (out_x (bit_at ps i) (bit_at qs i) c.loop-i.carry)
          c.loop-i.invariant.going c.in_ok-carry.ensures.ok;
      safe = out_safe c.loop-i.self c.carry_out.new.self (bit_at ps i) (bit_at qs i) c.loop-i.carry out c.in_ok-carry.ensures.answer c.in_ok-carry.ensures.ok;
    }

pub carry_out-requires : goal.carry_out-requires
carry_out-requires c = record {
  safe = places_safe c.args.self.now c.loop-i.self (λ x. x) c.args.a.now c.args.b.now c.loop-i.carry c.loop-i.i (λ x h. h) (let h = c.loop-i-test.true in omega arith) c.requires.lengths
      c.loop-i.invariant.going.kept c.loop-i.invariant.going.grown.grows.few c.requires.safe c.loop-i.invariant.safe;
}

last : (n i : ℕ) (test : Bool) → test ≡ false → test ≡ nat_eq n 0 → n - 1 ≤ i → i ≤ n - 1 → i + 1 ≡ n
last n i test unset is low high = grind (arith, nat_tests)

pub returns-clause-answer : goal.returns-clause-answer
returns-clause-answer c =
    let ps : List Operand = c.args.a.now in
    let qs : List Operand = c.args.b.now in
    let i : ℕ = c.loop-i.i in
    let done : List Operand = c.loop-i.carries.items in
    let ends : i + 1 ≡ length ps = last (length ps) i c.is_empty.result c.if-is_empty.false c.is_empty.ensures c.loop-i-test.false c.loop-i.auto.i-end in
    c.in_ok-push-2.ensures.items
    ∙ ap (λ (g : Given (List Operand)). g.answer) (sym (carries_end done ps qs c.loop-i.carry i ends c.loop-i.self.setting (begun c.loop-i.self.draft)) ∙ c.loop-i.invariant.going.same)

pub returns-clause-ok : goal.returns-clause-ok
returns-clause-ok c =
    let ps : List Operand = c.args.a.now in
    let qs : List Operand = c.args.b.now in
    let i : ℕ = c.loop-i.i in
    let done : List Operand = c.loop-i.carries.items in
    let ends : i + 1 ≡ length ps = last (length ps) i c.is_empty.result c.if-is_empty.false c.is_empty.ensures c.loop-i-test.false c.loop-i.auto.i-end in
    going_end built_of _ _ (rest done c.loop-i.carry ps qs i) _
    (λ at b. ap built_of (carries_end done ps qs c.loop-i.carry i ends at b)) c.loop-i.invariant.going
