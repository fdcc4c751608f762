use Rattle.std.proofs.Common.{◌≡◌, ℕ, Bool, true, false, List, [], ◌∷◌, ◌++◌, length, refl, sym, ap, ◌∙◌, subst, arith}
use Rattle.std.specs.Prelude.{Result, IfOk, IfErr}
use Rattle.silq_io.specs.declared.limit.LimitFault.{LimitFault}
use Rattle.bit_arith.specs.declared.operand.Operand.{Operand}
use Rattle.bit_arith.specs.declared.operand.Operand.TheVariants.{Const}
use Rattle.bit_arith.specs.Built.{Built, Setting, Given, begun, under, top_negated}
use Rattle.bit_arith.specs.Rows.{borrow, less}
use Rattle.bit_arith.specs.Calls.{Building, AllSafe, Went, Refused, no_target}
use Rattle.bit_arith.proofs.Grows.{all_safe_append, all_safe_front, all_safe_back}
use Rattle.bit_arith.proofs.Safe.{under_safe, condition_safe, operands_safe, top_negated_safe}
use Rattle.bit_arith.proofs.builder.Builder.less.Goals as goal

length-top_negated : (ps : List Operand) → length (top_negated ps) ≡ length ps
length-top_negated [] = refl
length-top_negated (p ∷ []) = refl
length-top_negated (p ∷ q ∷ ps) = let e = length-top_negated (q ∷ ps) in omega (arith, e)

tops_safe : (n : ℕ) (at : Setting) (ps qs vs ws : List Operand) → vs ≡ top_negated ps → ws ≡ top_negated qs → AllSafe n no_target (under at (ps ++ qs)) → AllSafe n no_target (under at (vs ++ ws))
tops_safe n at ps qs vs ws e f safe =
    let all : AllSafe n no_target (ps ++ qs) = operands_safe n no_target at (ps ++ qs) safe in
    rw (e, f)
    (under_safe n no_target at (top_negated ps ++ top_negated qs) (condition_safe n no_target at (ps ++ qs) safe)
    (all_safe_append n no_target (top_negated ps) (top_negated qs)
    (top_negated_safe n no_target ps (all_safe_front n no_target ps qs all))
    (top_negated_safe n no_target qs (all_safe_back n no_target ps qs all))))

pub borrow-requires-clause-lengths : goal.borrow-requires-clause-lengths
borrow-requires-clause-lengths c =
    ap length (c.as_slice.ensures.value ∙ c.in_ok-a.ensures) ∙ length-top_negated c.args.a.now ∙ c.requires.lengths
    ∙ sym (ap length (c.as_slice-then-signed.ensures.value ∙ c.in_ok-b.ensures) ∙ length-top_negated c.args.b.now)

pub borrow-requires-clause-safe : goal.borrow-requires-clause-safe
borrow-requires-clause-safe c =
    tops_safe _ c.args.self.now.setting c.args.a.now c.args.b.now _ _ (c.as_slice.ensures.value ∙ c.in_ok-a.ensures) (c.as_slice-then-signed.ensures.value ∙ c.in_ok-b.ensures) c.requires.safe

-- with a sign and without
with_sign : (at : Setting) (signed : Bool) (ps qs vs ws : List Operand) (b : Built) → signed ≡ true → vs ≡ top_negated ps → ws ≡ top_negated qs → borrow at (Const false) vs ws b ≡ less at signed ps qs b
unfolding less
with_sign at signed ps qs vs ws b is e f = rw (is, e, f)

without : (at : Setting) (signed : Bool) (ps qs : List Operand) (b : Built) → signed ≡ false → borrow at (Const false) ps qs b ≡ less at signed ps qs b
unfolding less
without at signed ps qs b is = rw is

-- told of one row, and so of an equal one
same_answer : (result : Result Operand LimitFault) (g h : Given Operand) → g ≡ h → IfOk result (λ p. p ≡ g.answer) → IfOk result (λ p. p ≡ h.answer)
same_answer result g h e told = subst (λ (x : Given Operand). IfOk result (λ p. p ≡ x.answer)) e told

same_went : (result : Result Operand LimitFault) (old new : Building) (g h : Given Operand) → g ≡ h → IfOk result (λ _. Went old new g.built) → IfOk result (λ _. Went old new h.built)
same_went result old new g h e told = subst (λ (x : Given Operand). IfOk result (λ _. Went old new x.built)) e told

same_refused : (result : Result Operand LimitFault) (g h : Given Operand) → g ≡ h → IfErr result (λ f. Refused f g.built) → IfErr result (λ f. Refused f h.built)
same_refused result g h e told = subst (λ (x : Given Operand). IfErr result (λ f. Refused f x.built)) e told

pub returns-in_ok-b-clause-answer : goal.returns-in_ok-b-clause-answer
returns-in_ok-b-clause-answer c =
    same_answer c.borrow.result _ _
    (with_sign c.args.self.now.setting c.args.signed c.args.a.now c.args.b.now c.as_slice.result.now c.as_slice-then-signed.result.now (begun c.args.self.now.draft) c.if-signed.true (c.as_slice.ensures.value ∙ c.in_ok-a.ensures) (c.as_slice-then-signed.ensures.value ∙ c.in_ok-b.ensures))
    c.borrow.ensures.answer

pub returns-in_ok-b-clause-ok : goal.returns-in_ok-b-clause-ok
returns-in_ok-b-clause-ok c =
    same_went c.borrow.result c.args.self.now c.borrow.new.self _ _
    (with_sign c.args.self.now.setting c.args.signed c.args.a.now c.args.b.now c.as_slice.result.now c.as_slice-then-signed.result.now (begun c.args.self.now.draft) c.if-signed.true (c.as_slice.ensures.value ∙ c.in_ok-a.ensures) (c.as_slice-then-signed.ensures.value ∙ c.in_ok-b.ensures))
    c.borrow.ensures.ok

pub returns-in_ok-b-clause-refused : goal.returns-in_ok-b-clause-refused
returns-in_ok-b-clause-refused c =
    same_refused c.borrow.result _ _
    (with_sign c.args.self.now.setting c.args.signed c.args.a.now c.args.b.now c.as_slice.result.now c.as_slice-then-signed.result.now (begun c.args.self.now.draft) c.if-signed.true (c.as_slice.ensures.value ∙ c.in_ok-a.ensures) (c.as_slice-then-signed.ensures.value ∙ c.in_ok-b.ensures))
    c.borrow.ensures.refused

pub returns-else-signed-clause-answer : goal.returns-else-signed-clause-answer
returns-else-signed-clause-answer c =
    same_answer c.borrow-else-signed.result _ _ (without c.args.self.now.setting c.args.signed c.args.a.now c.args.b.now (begun c.args.self.now.draft) c.if-signed.false) c.borrow-else-signed.ensures.answer

pub returns-else-signed-clause-ok : goal.returns-else-signed-clause-ok
returns-else-signed-clause-ok c =
    same_went c.borrow-else-signed.result c.args.self.now c.borrow-else-signed.new.self _ _ (without c.args.self.now.setting c.args.signed c.args.a.now c.args.b.now (begun c.args.self.now.draft) c.if-signed.false) c.borrow-else-signed.ensures.ok

pub returns-else-signed-clause-refused : goal.returns-else-signed-clause-refused
returns-else-signed-clause-refused c =
    same_refused c.borrow-else-signed.result _ _ (without c.args.self.now.setting c.args.signed c.args.a.now c.args.b.now (begun c.args.self.now.draft) c.if-signed.false) c.borrow-else-signed.ensures.refused
