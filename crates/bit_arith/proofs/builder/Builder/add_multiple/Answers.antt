use Rattle.std.proofs.Common.{◌≡◌, ℕ, List, ◌∷◌, length, sym, ap, ◌∙◌, subst, arith}
use Rattle.std.specs.Prelude.{Result, IfOk, IfErr}
use Rattle.silq_io.specs.declared.limit.LimitFault.{LimitFault}
use Rattle.flat_core.specs.declared.step.WireId.{WireId}
use Rattle.flat_core.specs.Form.{DraftForm}
use Rattle.bit_arith.specs.declared.operand.Operand.{Operand}
use Rattle.bit_arith.specs.Built.{Built, Setting, begun, under, new_wires, next_wires, all_made}
use Rattle.bit_arith.specs.Rows.{flip_up, products, add_into}
use Rattle.bit_arith.specs.Multiples.{multiple_into}
use Rattle.bit_arith.specs.Calls.{Building, Targets, AllSafe, AreTargets, Went, Refused, among}
use Rattle.bit_arith.proofs.Grows.{XGrows, x_then, new_wires_x, length-new_wires, targets_more}
use Rattle.bit_arith.proofs.Keeps.{flip_up_x, add_into_x}
use Rattle.bit_arith.proofs.Safe.{under_now, now_safe, more_wires, beside_new_wires, condition_safe, operands_safe, among_past}
use Rattle.bit_arith.proofs.Going.{Row, refused_out, refused_on, refused_with, refused_last, went_with, went_grows, ok_last}
use Rattle.bit_arith.proofs.Turns.{length-wires_from, length-all_made, new_made_safe}
use Rattle.bit_arith.proofs.builder.Builder.add_multiple.Goals as goal

abbrev flipped : Operand → List Operand → List WireId → Row
flipped p qs vs at b = flip_up at vs (products p qs) b

abbrev added : List WireId → List Operand → Row
added ws bits at b = add_into at ws bits b

-- the new wires, the flips of them, and the addition
module _ (old mid next : Building) (ws vs : List WireId) (p : Operand) (qs bits : List Operand) (are : vs ≡ next_wires (length qs) (begun old.draft)) (made : bits ≡ all_made vs) (first : Went old mid (new_wires (length qs) (begun old.draft))) (second : Went mid next (flipped p qs vs mid.setting (begun mid.draft))) where
  twice : Went old next (flipped p qs (next_wires (length qs) (begun old.draft)) old.setting (new_wires (length qs) (begun old.draft)))
  twice = went_with old mid next _ (flipped p qs) vs _ are first second

  pub multiple_went : (new : Building) (result : Result (Unit {0}) LimitFault) → IfOk result (λ _. Went next new (added ws bits next.setting (begun next.draft))) → IfOk result (λ _. Went old new (multiple_into old.setting ws p qs (begun old.draft)))
  multiple_went new result told = ok_last result _ _ (λ w. went_with old next new _ (added ws) bits _ (made ∙ ap all_made are) twice w) told

  pub multiple_refused : (result : Result (Unit {0}) LimitFault) → IfErr result (λ e. Refused e (added ws bits next.setting (begun next.draft))) → IfErr result (λ e. Refused e (multiple_into old.setting ws p qs (begun old.draft)))
  multiple_refused result told = refused_last result _ _ (λ fault r. refused_with old next _ (added ws) bits _ fault (made ∙ ap all_made are) twice r) told

  grown : XGrows (begun old.draft) (begun next.draft)
  grown = x_then (went_grows old mid _ (new_wires_x (length qs) (begun old.draft)) first) (went_grows mid next _ (flip_up_x mid.setting vs (products p qs) (begun mid.draft)) second)

  pub multiple_targets : AreTargets old.draft ws → AreTargets next.draft ws
  multiple_targets targets = targets_more grown ws targets

  pub multiple_safe : AreTargets old.draft ws → AllSafe (length old.draft.wires) (among ws) (under old.setting (p ∷ qs)) → AllSafe (length next.draft.wires) (among ws) (under next.setting bits)
  multiple_safe targets safe =
      let n : ℕ = length old.draft.wires in
      let m : ℕ = length next.draft.wires in
      let T : Targets = among ws in
      let more = (went_grows mid next _ (flip_up_x mid.setting vs (products p qs) (begun mid.draft)) second).grows.few in
      let longer = length-new_wires (length qs) (begun old.draft) in
      let same = ap (λ (d : DraftForm). length d.wires) first.built in
      let there : AllSafe m T (all_made (next_wires (length qs) (begun old.draft))) = new_made_safe T m n (length qs) (omega arith) (λ w past. among_past old.draft ws w targets past) in
      under_now old next T T bits twice.kept (more_wires n m T (omega arith))
      (condition_safe n T old.setting (p ∷ qs) safe)
      (subst (λ (xs : List Operand). AllSafe m T xs) (sym (made ∙ ap all_made are)) there)

pub returns-in_err-multiple-clause-refused : goal.returns-in_err-multiple-clause-refused
returns-in_err-multiple-clause-refused c =
    let at : Setting = c.args.self.now.setting in
    let n : ℕ = length c.args.list.now in
    let vs : List WireId = next_wires n (begun c.args.self.now.draft) in
    let b : Built = new_wires n (begun c.args.self.now.draft) in
    let b' : Built = flipped c.args.p c.args.list.now vs at b in
    refused_out _ _ _ c.from_residual.ensures.1
    (refused_on _ b _ (x_then (flip_up_x at vs (products c.args.p c.args.list.now) b) (add_into_x at c.args.wires.now (all_made vs) b')).grows c.in_err-multiple.ensures.refused)

pub flip_products-requires-clause-lengths : goal.flip_products-requires-clause-lengths
flip_products-requires-clause-lengths c = ap length (c.as_slice.ensures.value ∙ c.in_ok-multiple.ensures.answer) ∙ length-wires_from _ _

pub flip_products-requires-clause-targets : goal.flip_products-requires-clause-targets
flip_products-requires-clause-targets c = subst (λ (ws : List WireId). AreTargets c.new_wires.new.self.draft ws) (sym c.as_slice.ensures.value) c.in_ok-multiple.ensures.targets

pub flip_products-requires-clause-safe : goal.flip_products-requires-clause-safe
flip_products-requires-clause-safe c =
    let old : Building = c.args.self.now in
    let now : Building = c.new_wires.new.self in
    let n : ℕ = length old.draft.wires in
    let k : ℕ = length c.args.list.now in
    let ps : List Operand = c.args.p ∷ c.args.list.now in
    let T : Targets = among c.args.wires.now in
    let grown = (went_grows old now _ (new_wires_x k (begun old.draft)) c.in_ok-multiple.ensures.ok).grows.few in
    subst (λ (vs : List WireId). AllSafe (length now.draft.wires) (among vs) (under now.setting ps)) (sym (c.as_slice.ensures.value ∙ c.in_ok-multiple.ensures.answer))
    (now_safe old now T (among (next_wires k (begun old.draft))) ps c.in_ok-multiple.ensures.ok.kept
    (beside_new_wires n (length now.draft.wires) n k T grown (omega arith))
    (condition_safe n T old.setting ps c.requires.safe) (operands_safe n T old.setting ps c.requires.safe))

pub returns-in_err-flip_products-clause-refused : goal.returns-in_err-flip_products-clause-refused
returns-in_err-flip_products-clause-refused c =
    let at : Setting = c.args.self.now.setting in
    let n : ℕ = length c.args.list.now in
    let vs : List WireId = next_wires n (begun c.args.self.now.draft) in
    let b' : Built = flipped c.args.p c.args.list.now vs at (new_wires n (begun c.args.self.now.draft)) in
    refused_out _ _ _ c.from_residual-in_err-flip_products.ensures.1
    (refused_on _ b' _ (add_into_x at c.args.wires.now (all_made vs) b').grows
    (refused_with _ _ _ (flipped c.args.p c.args.list.now) _ _ _ (c.as_slice.ensures.value ∙ c.in_ok-multiple.ensures.answer) c.in_ok-multiple.ensures.ok c.in_err-flip_products.ensures.refused))

pub add_into-requires-clause-lengths : goal.add_into-requires-clause-lengths
add_into-requires-clause-lengths c =
    c.requires.lengths
    ∙ sym (ap length (c.as_slice-3.ensures.value ∙ c.in_ok-bits.ensures ∙ ap all_made (c.as_slice-2.ensures.value ∙ c.in_ok-multiple.ensures.answer)) ∙ length-all_made _ ∙ length-wires_from _ _)

pub add_into-requires-clause-targets : goal.add_into-requires-clause-targets
add_into-requires-clause-targets c =
    multiple_targets c.args.self.now c.new_wires.new.self c.flip_products.new.self c.args.wires.now c.as_slice.result.now c.args.p c.args.list.now c.as_slice-3.result.now
    (c.as_slice.ensures.value ∙ c.in_ok-multiple.ensures.answer) (c.as_slice-3.ensures.value ∙ c.in_ok-bits.ensures ∙ ap all_made (c.as_slice-2.ensures.value ∙ sym c.as_slice.ensures.value)) c.in_ok-multiple.ensures.ok c.in_ok-flip_products.ensures.ok
    c.requires.targets

pub add_into-requires-clause-safe : goal.add_into-requires-clause-safe
add_into-requires-clause-safe c =
    multiple_safe c.args.self.now c.new_wires.new.self c.flip_products.new.self c.args.wires.now c.as_slice.result.now c.args.p c.args.list.now c.as_slice-3.result.now
    (c.as_slice.ensures.value ∙ c.in_ok-multiple.ensures.answer) (c.as_slice-3.ensures.value ∙ c.in_ok-bits.ensures ∙ ap all_made (c.as_slice-2.ensures.value ∙ sym c.as_slice.ensures.value)) c.in_ok-multiple.ensures.ok c.in_ok-flip_products.ensures.ok
    c.requires.targets c.requires.safe

pub returns-clause-ok : goal.returns-clause-ok
returns-clause-ok c =
    multiple_went c.args.self.now c.new_wires.new.self c.flip_products.new.self c.args.wires.now c.as_slice.result.now c.args.p c.args.list.now c.as_slice-3.result.now
    (c.as_slice.ensures.value ∙ c.in_ok-multiple.ensures.answer) (c.as_slice-3.ensures.value ∙ c.in_ok-bits.ensures ∙ ap all_made (c.as_slice-2.ensures.value ∙ sym c.as_slice.ensures.value)) c.in_ok-multiple.ensures.ok c.in_ok-flip_products.ensures.ok
    c.add_into.new.self c.add_into.result c.add_into.ensures.ok

pub returns-clause-refused : goal.returns-clause-refused
returns-clause-refused c =
    multiple_refused c.args.self.now c.new_wires.new.self c.flip_products.new.self c.args.wires.now c.as_slice.result.now c.args.p c.args.list.now c.as_slice-3.result.now
    (c.as_slice.ensures.value ∙ c.in_ok-multiple.ensures.answer) (c.as_slice-3.ensures.value ∙ c.in_ok-bits.ensures ∙ ap all_made (c.as_slice-2.ensures.value ∙ sym c.as_slice.ensures.value)) c.in_ok-multiple.ensures.ok c.in_ok-flip_products.ensures.ok
    c.add_into.result c.add_into.ensures.refused
