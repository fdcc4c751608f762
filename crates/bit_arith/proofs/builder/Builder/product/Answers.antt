use Rattle.std.proofs.Common.{◌≡◌, ℕ, ◌+◌, ◌-◌, ◌<◌, ◌≤◌, false, List, ◌∷◌, ◌++◌, length, take, drop, sym, ap, ◌∙◌, subst, arith}
use Rattle.std.proofs.Math.Seq.{take-length}
use Rattle.std.proofs.lemmas.List.{length-drop, length-take-le}
use Rattle.silq_io.specs.declared.limit.LimitFault.{LimitFault}
use Rattle.flat_core.specs.declared.step.WireId.{WireId}
use Rattle.bit_arith.specs.declared.operand.Operand.{Operand}
use Rattle.bit_arith.specs.declared.operand.Operand.TheVariants.{Const}
use Rattle.bit_arith.specs.Built.{Built, Setting, begun, under, new_wires, next_wires, wires_from, all_made}
use Rattle.bit_arith.specs.Rows.{product, product_into}
use Rattle.bit_arith.specs.Multiples.{multiple_into}
use Rattle.bit_arith.specs.Calls.{Building, AllSafe, AreTargets, Went, Refused, among, no_target}
use Rattle.bit_arith.proofs.Grows.{XGrows, new_wires_x, targets_more, all_safe_front, all_safe_back}
use Rattle.bit_arith.proofs.Keeps.{product_into_x, multiple_into_x}
use Rattle.bit_arith.proofs.Safe.{Wider, now_safe, beside_new_wires, condition_safe, operands_safe, among_drop, targets_drop, safe_at, all_safe_take}
use Rattle.bit_arith.proofs.Going.{Row, Going, whole, refused_out, refused_on, refused_as, refused_with, went_as, went_with, went_grows, going_start, going_more, going_refused, going_end}
use Rattle.bit_arith.proofs.Turns.{bit_at, length-wires_from, product_turn, product_end}
use Rattle.bit_arith.proofs.builder.Builder.product.Goals as goal

-- the multiples from a place on, and the one there
abbrev rest : List WireId → List Operand → List Operand → ℕ → Row
rest ws ps qs i at b = product_into at (drop i ws) (drop i ps) (take (length qs - i) qs) b

abbrev step : List WireId → List Operand → List Operand → ℕ → Row
step ws ps qs i at b = multiple_into at (drop i ws) (bit_at ps i) (take (length qs - i) qs) b

abbrev all : List Operand → List Operand → List WireId → Row
all ps qs ws at b = product_into at ws ps qs b

take_whole : (qs : List Operand) (n : ℕ) → n ≡ length qs → take n qs ≡ qs
take_whole qs n is = subst (λ (k : ℕ). take k qs ≡ qs) (sym is) (take-length qs)

-- a slice from a place on
slice_from : (vs ws : List WireId) (i : ℕ) → vs ≡ ws → take (length vs - i) (drop i vs) ≡ drop i ws
slice_from vs ws i e =
    let n : length vs - i ≡ length (drop i vs) = sym (length-drop i vs) in
    subst (λ (k : ℕ). take k (drop i vs) ≡ drop i vs) (sym n) (take-length (drop i vs)) ∙ ap (drop i) e

-- what a multiple asks for
module _ (old mid now : Building) (ws : List WireId) (ps qs : List Operand) (i : ℕ) (lt : i < length ps) (lengths : length ps ≡ length qs) (are : ws ≡ next_wires (length ps) (begun old.draft)) (first : Went old mid (new_wires (length ps) (begun old.draft))) (kept : now.setting ≡ mid.setting) (grown : XGrows (begun mid.draft) (begun now.draft)) where
  beside : Wider (length old.draft.wires) no_target (length now.draft.wires) (among (drop i ws))
  beside =
      let n : ℕ = length old.draft.wires in
      let m : ℕ = length now.draft.wires in
      let few = (went_grows old mid _ (new_wires_x (length ps) (begun old.draft)) first).grows.few in
      let more = grown.grows.few in
      let news : Wider n no_target m (among (wires_from n (length ps))) = beside_new_wires n m n (length ps) no_target (omega arith) (omega arith) in
      subst (λ (vs : List WireId). Wider n no_target m (among (drop i vs))) (sym are)
      (λ l s. let t = news l s in (t.0, among_drop (wires_from n (length ps)) i l.wire t.1))

  pub turn_safe : AllSafe (length old.draft.wires) no_target (under old.setting (ps ++ qs)) → AllSafe (length now.draft.wires) (among (drop i ws)) (under now.setting (bit_at ps i ∷ take (length qs - i) qs))
  turn_safe safe =
      let n : ℕ = length old.draft.wires in
      let both : AllSafe n no_target (ps ++ qs) = operands_safe n no_target old.setting (ps ++ qs) safe in
      now_safe old now no_target (among (drop i ws)) (bit_at ps i ∷ take (length qs - i) qs) (kept ∙ first.kept) beside
      (condition_safe n no_target old.setting (ps ++ qs) safe)
      (safe_at n no_target ps i (Const false) lt (all_safe_front n no_target ps qs both), all_safe_take n no_target qs (length qs - i) (all_safe_back n no_target ps qs both))

  pub turn_targets : AreTargets mid.draft ws → AreTargets now.draft (drop i ws)
  turn_targets targets = targets_drop now.draft ws i (targets_more grown ws targets)

  pub turn_lengths : length (drop i ws) ≡ length (take (length qs - i) qs)
  turn_lengths =
      let e : length ws ≡ length ps = ap length are ∙ length-wires_from _ _ in
      let f = length-drop i ws in
      let g = length-take-le (length qs - i) qs (omega arith) in
      omega arith

-- the product from the new wires on is the product
product_went : (old mid now : Building) (ws : List WireId) (ps qs : List Operand) → ws ≡ next_wires (length ps) (begun old.draft) → Went old mid (new_wires (length ps) (begun old.draft)) → Went mid now (all ps qs ws mid.setting (begun mid.draft)) → Went old now (product old.setting ps qs (begun old.draft)).built
unfolding product
product_went old mid now ws ps qs are first w = went_with old mid now _ (all ps qs) ws _ are first w

product_refused : (old mid : Building) (ws : List WireId) (ps qs : List Operand) (fault : LimitFault) → ws ≡ next_wires (length ps) (begun old.draft) → Went old mid (new_wires (length ps) (begun old.draft)) → Refused fault (all ps qs ws mid.setting (begun mid.draft)) → Refused fault (product old.setting ps qs (begun old.draft)).built
unfolding product
product_refused old mid ws ps qs fault are first r = refused_with old mid _ (all ps qs) ws _ fault are first r

wires_refused : (at : Setting) (ps qs : List Operand) (b : Built) (fault : LimitFault) → Refused fault (new_wires (length ps) b) → Refused fault (product at ps qs b).built
unfolding product
wires_refused at ps qs b fault r = refused_on fault (new_wires (length ps) b) _ (product_into_x at (next_wires (length ps) b) ps qs (new_wires (length ps) b)).grows r

pub returns-in_err-wires-clause-refused : goal.returns-in_err-wires-clause-refused
returns-in_err-wires-clause-refused c =
    refused_out _ _ _ c.from_residual.ensures.1
    (wires_refused c.args.self.now.setting c.args.a.now c.args.b.now (begun c.args.self.now.draft) _ c.in_err-wires.ensures.refused)

pub loop-i-init : goal.loop-i-init
loop-i-init c =
    let mid : Building = c.new_wires.new.self in
    let ws : List WireId = c.in_ok-wires.wires.items in
    let ps : List Operand = c.args.a.now in
    let qs : List Operand = c.args.b.now in
    subst (λ (xs : List Operand). Going mid mid (rest ws ps qs 0) (product_into mid.setting ws ps xs (begun mid.draft))) (take_whole qs (length qs - 0) (omega arith))
    (going_start mid (rest ws ps qs 0))

pub add_multiple-requires-clause-lengths : goal.add_multiple-requires-clause-lengths
add_multiple-requires-clause-lengths c =
    ap length (slice_from c.deref.result.now c.in_ok-wires.wires.items c.loop-i.i c.deref.ensures.value)
    ∙ turn_lengths c.args.self.now c.new_wires.new.self c.loop-i.self c.in_ok-wires.wires.items c.args.a.now c.args.b.now c.loop-i.i c.loop-i-test.true c.requires.lengths c.in_ok-wires.ensures.answer c.in_ok-wires.ensures.ok c.loop-i.invariant.kept c.loop-i.invariant.grown

pub add_multiple-requires-clause-targets : goal.add_multiple-requires-clause-targets
add_multiple-requires-clause-targets c =
    subst (λ (ws : List WireId). AreTargets c.loop-i.self.draft ws) (sym (slice_from c.deref.result.now c.in_ok-wires.wires.items c.loop-i.i c.deref.ensures.value))
    (turn_targets c.args.self.now c.new_wires.new.self c.loop-i.self c.in_ok-wires.wires.items c.args.a.now c.args.b.now c.loop-i.i c.loop-i-test.true c.requires.lengths c.in_ok-wires.ensures.answer c.in_ok-wires.ensures.ok c.loop-i.invariant.kept c.loop-i.invariant.grown c.in_ok-wires.ensures.targets)

pub add_multiple-requires-clause-safe : goal.add_multiple-requires-clause-safe
add_multiple-requires-clause-safe c =
    subst (λ (ws : List WireId). AllSafe (length c.loop-i.self.draft.wires) (among ws) (under c.loop-i.self.setting (bit_at c.args.a.now c.loop-i.i ∷ take (length c.args.b.now - c.loop-i.i) c.args.b.now)))
    (sym (slice_from c.deref.result.now c.in_ok-wires.wires.items c.loop-i.i c.deref.ensures.value))
    (turn_safe c.args.self.now c.new_wires.new.self c.loop-i.self c.in_ok-wires.wires.items c.args.a.now c.args.b.now c.loop-i.i c.loop-i-test.true c.requires.lengths c.in_ok-wires.ensures.answer c.in_ok-wires.ensures.ok c.loop-i.invariant.kept c.loop-i.invariant.grown c.requires.safe)

-- one turn, by the slice that the code passes
module _ (mid now : Building) (vs ws : List WireId) (ps qs : List Operand) (i : ℕ) (lt : i < length ps) (same : length ws ≡ length ps) (lengths : length ps ≡ length qs) (slice : vs ≡ drop i ws) (going : Going mid now (rest ws ps qs i) (all ps qs ws mid.setting (begun mid.draft))) where
  abbrev called : Built
  called = multiple_into now.setting vs (bit_at ps i) (take (length qs - i) qs) (begun now.draft)

  is_step : called ≡ step ws ps qs i now.setting (begun now.draft)
  is_step = ap (λ (xs : List WireId). multiple_into now.setting xs (bit_at ps i) (take (length qs - i) qs) (begun now.draft)) slice

  pub turn_went : (new : Building) → Went now new called → Going mid new (rest ws ps qs (i + 1)) (all ps qs ws mid.setting (begun mid.draft))
  turn_went new w =
      going_more mid now new (rest ws ps qs i) (step ws ps qs i) (rest ws ps qs (i + 1)) _ (product_turn ws ps qs i lt same lengths now.setting (begun now.draft))
      (λ at b. multiple_into_x at (drop i ws) (bit_at ps i) (take (length qs - i) qs) b) going (went_as now new _ _ is_step w)

  pub turn_refused : (fault : LimitFault) → Refused fault called → Refused fault (all ps qs ws mid.setting (begun mid.draft))
  turn_refused fault r =
      going_refused whole mid now (rest ws ps qs i) (step ws ps qs i) (rest ws ps qs (i + 1)) _ fault (product_turn ws ps qs i lt same lengths now.setting (begun now.draft))
      (λ at b. product_into_x at (drop (i + 1) ws) (drop (i + 1) ps) (take (length qs - (i + 1)) qs) b) going (refused_as fault _ _ is_step r)

pub returns-in_err-add_multiple-clause-refused : goal.returns-in_err-add_multiple-clause-refused
returns-in_err-add_multiple-clause-refused c =
    let ws : List WireId = c.in_ok-wires.wires.items in
    let ps : List Operand = c.args.a.now in
    let qs : List Operand = c.args.b.now in
    refused_out _ _ _ c.from_residual-in_err-add_multiple.ensures.1
    (product_refused c.args.self.now c.new_wires.new.self ws ps qs _ c.in_ok-wires.ensures.answer c.in_ok-wires.ensures.ok
    (turn_refused c.new_wires.new.self c.loop-i.self _ ws ps qs c.loop-i.i c.loop-i-test.true (ap length c.in_ok-wires.ensures.answer ∙ length-wires_from _ _) c.requires.lengths
    (slice_from c.deref.result.now ws c.loop-i.i c.deref.ensures.value) c.loop-i.invariant _ c.in_err-add_multiple.ensures.refused))

pub loop-i-preserved : goal.loop-i-preserved
loop-i-preserved c =
    let ws : List WireId = c.in_ok-wires.wires.items in
    turn_went c.new_wires.new.self c.loop-i.self _ ws c.args.a.now c.args.b.now c.loop-i.i c.loop-i-test.true (ap length c.in_ok-wires.ensures.answer ∙ length-wires_from _ _) c.requires.lengths
    (slice_from c.deref.result.now ws c.loop-i.i c.deref.ensures.value) c.loop-i.invariant c.add_multiple.new.self c.in_ok-add_multiple.ensures.ok

pub returns-clause-answer : goal.returns-clause-answer
unfolding product
returns-clause-answer c = c.in_ok-all_made.ensures ∙ ap all_made (c.as_slice.ensures.value ∙ c.in_ok-wires.ensures.answer)

pub returns-clause-ok : goal.returns-clause-ok
returns-clause-ok c =
    let ws : List WireId = c.in_ok-wires.wires.items in
    let ps : List Operand = c.args.a.now in
    let qs : List Operand = c.args.b.now in
    let i : ℕ = c.loop-i.i in
    let many : length ws ≡ length ps = ap length c.in_ok-wires.ensures.answer ∙ length-wires_from _ _ in
    let past : length ps ≤ i = c.loop-i-test.false in
    product_went c.args.self.now c.new_wires.new.self c.loop-i.self ws ps qs c.in_ok-wires.ensures.answer c.in_ok-wires.ensures.ok
    (going_end whole c.new_wires.new.self c.loop-i.self (rest ws ps qs i) (all ps qs ws c.new_wires.new.self.setting (begun c.new_wires.new.self.draft))
    (λ at b. product_end ws (drop i ps) (take (length qs - i) qs) i (omega arith) at b) c.loop-i.invariant)

-- the slice begins within the wires
within : (vs ws : List WireId) (n i w : ℕ) → vs ≡ ws → ws ≡ wires_from w n → i < n → i ≤ length vs
within vs ws n i w e f lt = let g : length vs ≡ n = ap length (e ∙ f) ∙ length-wires_from w n in omega arith

pub slice_bounds-add_multiple-count : goal.slice_bounds-add_multiple-count
slice_bounds-add_multiple-count c =
    within c.deref.result.now c.in_ok-wires.wires.items (length c.args.a.now) c.loop-i.i _ c.deref.ensures.value c.in_ok-wires.ensures.answer c.loop-i-test.true

pub slice_bounds-add_multiple-start : goal.slice_bounds-add_multiple-start
slice_bounds-add_multiple-start c =
    within c.deref.result.now c.in_ok-wires.wires.items (length c.args.a.now) c.loop-i.i _ c.deref.ensures.value c.in_ok-wires.ensures.answer c.loop-i-test.true
