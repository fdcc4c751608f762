use Rattle.std.proofs.Common.{◌≡◌, ℕ, List, ◌++◌, length, sym, ap, ◌∙◌, subst, arith}
use Rattle.silq_io.specs.declared.limit.LimitFault.{LimitFault}
use Rattle.flat_core.specs.declared.step.WireId.{WireId}
use Rattle.flat_core.specs.Form.{DraftForm}
use Rattle.bit_arith.specs.declared.operand.Operand.{Operand}
use Rattle.bit_arith.specs.Built.{Built, Setting, Given, begun, under, new_wires, next_wires, all_made}
use Rattle.bit_arith.specs.Rows.{carry, flip_up, triples, sum_by}
use Rattle.bit_arith.specs.Calls.{Building, Targets, AllSafe, AreTargets, Went, Refused, among, no_target}
use Rattle.bit_arith.proofs.Grows.{x_then, new_wires_x, targets_more, all_safe_append, all_safe_front, all_safe_back}
use Rattle.bit_arith.proofs.Keeps.{carry_x, flip_up_x}
use Rattle.bit_arith.proofs.Safe.{Wider, under_now, now_safe, all_safe_in, more_wires, beside_new_wires, condition_safe, operands_safe, among_past}
use Rattle.bit_arith.proofs.Going.{Row, refused_out, refused_on, refused_then, refused_as, went_then, went_as, went_same, went_grows}
use Rattle.bit_arith.proofs.Turns.{length-wires_from, length-carry, carry_safe}
use Rattle.bit_arith.proofs.builder.Builder.sum_by.Goals as goal

-- the carries on what the new wires left, and the flips on what these left
abbrev carried : List Operand → List Operand → Row
carried cs qs at b = (carry at cs qs b).built

abbrev flipped : List WireId → List Operand → List Operand → List Operand → Row
flipped ws ps qs cs at b = flip_up at ws (triples ps qs cs) b

-- the new wires and the carries are those of the row
module _ (old mid next : Building) (ws : List WireId) (cs ps qs made : List Operand) (wires_are : ws ≡ next_wires (length ps) (begun old.draft)) (made_is : made ≡ (carry mid.setting cs qs (begun mid.draft)).answer) (first : Went old mid (new_wires (length ps) (begun old.draft))) (second : Went mid next (carried cs qs mid.setting (begun mid.draft))) where
  twice : Went old next (carried cs qs old.setting (new_wires (length ps) (begun old.draft)))
  twice = went_then old mid next (new_wires (length ps) (begun old.draft)) (carried cs qs) first second

  same : flipped ws ps qs made old.setting (carried cs qs old.setting (new_wires (length ps) (begun old.draft))) ≡ (sum_by old.setting cs ps qs (begun old.draft)).built
  same =
      let b : Built = carried cs qs old.setting (new_wires (length ps) (begun old.draft)) in
      let e : made ≡ (carry old.setting cs qs (new_wires (length ps) (begun old.draft))).answer = made_is ∙ went_same old mid (new_wires (length ps) (begun old.draft)) (λ at b. (carry at cs qs b).answer) first in
      ap (λ (vs : List WireId). flipped vs ps qs made old.setting b) wires_are ∙ ap (λ (xs : List Operand). flipped (next_wires (length ps) (begun old.draft)) ps qs xs old.setting b) e

  pub sum_went : (new : Building) → Went next new (flipped ws ps qs made next.setting (begun next.draft)) → Went old new (sum_by old.setting cs ps qs (begun old.draft)).built
  sum_went new w = went_as old new _ _ same (went_then old next new _ (flipped ws ps qs made) twice w)

  pub sum_refused : (fault : LimitFault) → Refused fault (flipped ws ps qs made next.setting (begun next.draft)) → Refused fault (sum_by old.setting cs ps qs (begun old.draft)).built
  sum_refused fault r = refused_as fault _ _ same (refused_then old next _ (flipped ws ps qs made) fault twice r)

  pub sum_safe : AreTargets mid.draft ws → AllSafe (length old.draft.wires) no_target (under old.setting (cs ++ ps ++ qs)) → AllSafe (length next.draft.wires) (among ws) (under next.setting (ps ++ qs ++ made))
  sum_safe targets safe =
      let n : ℕ = length old.draft.wires in
      let m : ℕ = length next.draft.wires in
      let T : Targets = among ws in
      let all : AllSafe n no_target (cs ++ ps ++ qs) = operands_safe n no_target old.setting (cs ++ ps ++ qs) safe in
      let few = (went_grows old mid _ (new_wires_x (length ps) (begun old.draft)) first).grows.few in
      let more = (went_grows mid next _ (carry_x mid.setting cs qs (begun mid.draft)) second).grows.few in
      let beside : Wider n no_target m T = subst (λ (vs : List WireId). Wider n no_target m (among vs)) (sym wires_are) (beside_new_wires n m n (length ps) no_target (omega arith) (omega arith)) in
      let b : Given (List Operand) = carry mid.setting cs qs (begun mid.draft) in
      let there : AllSafe (length b.built.draft.wires) T b.answer = carry_safe T mid.setting cs qs (begun mid.draft) (λ w past. among_past mid.draft ws w targets past) in
      let here : AllSafe m T b.answer = subst (λ (d : DraftForm). AllSafe (length d.wires) T b.answer) (sym second.built) there in
      under_now old next no_target T (ps ++ qs ++ made) twice.kept beside
      (condition_safe n no_target old.setting (cs ++ ps ++ qs) safe)
      (all_safe_append m T (ps ++ qs) made
      (all_safe_append m T ps qs
      (all_safe_in n no_target m T beside ps (all_safe_back n no_target cs ps (all_safe_front n no_target (cs ++ ps) qs all)))
      (all_safe_in n no_target m T beside qs (all_safe_back n no_target (cs ++ ps) qs all)))
      (subst (λ (xs : List Operand). AllSafe m T xs) (sym made_is) here))

pub returns-in_err-wires-clause-refused : goal.returns-in_err-wires-clause-refused
returns-in_err-wires-clause-refused c =
    let at : Setting = c.args.self.now.setting in
    let ps : List Operand = c.args.a.now in
    let b : Built = new_wires (length ps) (begun c.args.self.now.draft) in
    let cs : Given (List Operand) = carry at c.args.carriers.now c.args.b.now b in
    refused_out _ _ _ c.from_residual.ensures.1
    (refused_on _ b _ (x_then (carry_x at c.args.carriers.now c.args.b.now b) (flip_up_x at (next_wires (length ps) (begun c.args.self.now.draft)) (triples ps c.args.b.now cs.answer) cs.built)).grows c.in_err-wires.ensures.refused)

pub carry-requires-clause-lengths : goal.carry-requires-clause-lengths
carry-requires-clause-lengths c = c.requires.carriers

pub carry-requires-clause-safe : goal.carry-requires-clause-safe
carry-requires-clause-safe c =
    let n : ℕ = length c.args.self.now.draft.wires in
    let at : Setting = c.args.self.now.setting in
    let cs : List Operand = c.args.carriers.now in
    let ps : List Operand = c.args.a.now in
    let qs : List Operand = c.args.b.now in
    let all : AllSafe n no_target (cs ++ ps ++ qs) = operands_safe n no_target at (cs ++ ps ++ qs) c.requires.safe in
    let few = (went_grows _ _ _ (new_wires_x (length ps) (begun c.args.self.now.draft)) c.in_ok-wires.ensures.ok).grows.few in
    now_safe c.args.self.now c.new_wires.new.self no_target no_target (cs ++ qs) c.in_ok-wires.ensures.ok.kept (more_wires n _ no_target few)
    (condition_safe n no_target at (cs ++ ps ++ qs) c.requires.safe)
    (all_safe_append n no_target cs qs (all_safe_front n no_target cs ps (all_safe_front n no_target (cs ++ ps) qs all)) (all_safe_back n no_target (cs ++ ps) qs all))

pub returns-in_err-carries-clause-refused : goal.returns-in_err-carries-clause-refused
returns-in_err-carries-clause-refused c =
    let at : Setting = c.args.self.now.setting in
    let ps : List Operand = c.args.a.now in
    let b : Built = new_wires (length ps) (begun c.args.self.now.draft) in
    let cs : Given (List Operand) = carry at c.args.carriers.now c.args.b.now b in
    refused_out _ _ _ c.from_residual-in_err-carries.ensures.1
    (refused_on _ cs.built _ (flip_up_x at (next_wires (length ps) (begun c.args.self.now.draft)) (triples ps c.args.b.now cs.answer) cs.built).grows
    (refused_then _ _ b (carried c.args.carriers.now c.args.b.now) _ c.in_ok-wires.ensures.ok c.in_err-carries.ensures.refused))

pub flip_by_three-requires-clause-first : goal.flip_by_three-requires-clause-first
flip_by_three-requires-clause-first c = ap length (c.as_slice.ensures.value ∙ c.in_ok-wires.ensures.answer) ∙ length-wires_from _ _

pub flip_by_three-requires-clause-second : goal.flip_by_three-requires-clause-second
flip_by_three-requires-clause-second c =
    ap length (c.as_slice.ensures.value ∙ c.in_ok-wires.ensures.answer) ∙ length-wires_from _ _ ∙ c.requires.lengths

pub flip_by_three-requires-clause-third : goal.flip_by_three-requires-clause-third
flip_by_three-requires-clause-third c =
    let made : length c.as_slice-2.result.now ≡ length c.args.carriers.now =
    ap length (c.as_slice-2.ensures.value ∙ c.in_ok-carries.ensures.answer)
    ∙ length-carry c.new_wires.new.self.setting c.args.carriers.now c.args.b.now (begun c.new_wires.new.self.draft) c.requires.carriers in
    ap length (c.as_slice.ensures.value ∙ c.in_ok-wires.ensures.answer) ∙ length-wires_from _ _ ∙ c.requires.lengths ∙ sym c.requires.carriers ∙ sym made

pub flip_by_three-requires-clause-targets : goal.flip_by_three-requires-clause-targets
flip_by_three-requires-clause-targets c =
    targets_more (went_grows _ _ _ (carry_x c.new_wires.new.self.setting c.args.carriers.now c.args.b.now (begun c.new_wires.new.self.draft)) c.in_ok-carries.ensures.ok)
    c.as_slice.result.now (subst (λ (ws : List WireId). AreTargets c.new_wires.new.self.draft ws) (sym c.as_slice.ensures.value) c.in_ok-wires.ensures.targets)

pub flip_by_three-requires-clause-safe : goal.flip_by_three-requires-clause-safe
flip_by_three-requires-clause-safe c =
    sum_safe c.args.self.now c.new_wires.new.self c.carry.new.self c.as_slice.result.now c.args.carriers.now c.args.a.now c.args.b.now c.as_slice-2.result.now
    (c.as_slice.ensures.value ∙ c.in_ok-wires.ensures.answer) (c.as_slice-2.ensures.value ∙ c.in_ok-carries.ensures.answer) c.in_ok-wires.ensures.ok c.in_ok-carries.ensures.ok
    (subst (λ (ws : List WireId). AreTargets c.new_wires.new.self.draft ws) (sym c.as_slice.ensures.value) c.in_ok-wires.ensures.targets) c.requires.safe

pub returns-in_err-flip_by_three-clause-refused : goal.returns-in_err-flip_by_three-clause-refused
returns-in_err-flip_by_three-clause-refused c =
    refused_out _ _ _ c.from_residual-in_err-flip_by_three.ensures.1
    (sum_refused c.args.self.now c.new_wires.new.self c.carry.new.self c.as_slice.result.now c.args.carriers.now c.args.a.now c.args.b.now c.as_slice-2.result.now
    (c.as_slice.ensures.value ∙ c.in_ok-wires.ensures.answer) (c.as_slice-2.ensures.value ∙ c.in_ok-carries.ensures.answer) c.in_ok-wires.ensures.ok c.in_ok-carries.ensures.ok
    _ c.in_err-flip_by_three.ensures.refused)

pub returns-clause-answer : goal.returns-clause-answer
returns-clause-answer c = c.in_ok-all_made.ensures ∙ ap all_made (c.as_slice-3.ensures.value ∙ c.in_ok-wires.ensures.answer)

pub returns-clause-ok : goal.returns-clause-ok
returns-clause-ok c =
    sum_went c.args.self.now c.new_wires.new.self c.carry.new.self c.as_slice.result.now c.args.carriers.now c.args.a.now c.args.b.now c.as_slice-2.result.now
    (c.as_slice.ensures.value ∙ c.in_ok-wires.ensures.answer) (c.as_slice-2.ensures.value ∙ c.in_ok-carries.ensures.answer) c.in_ok-wires.ensures.ok c.in_ok-carries.ensures.ok
    c.flip_by_three.new.self c.in_ok-flip_by_three.ensures.ok
