use Rattle.std.proofs.Common.{ℕ, List, [], ◌++◌, length, sym, ap, ◌∙◌, subst, arith}
use Rattle.flat_core.specs.declared.step.WireId.{WireId}
use Rattle.bit_arith.specs.declared.operand.Operand.{Operand}
use Rattle.bit_arith.specs.Built.{Setting, Given, begun, under}
use Rattle.bit_arith.specs.Rows.{carry, flip_down, pairs}
use Rattle.bit_arith.specs.Calls.{Building, Targets, AllSafe, among, no_target}
use Rattle.bit_arith.proofs.Grows.{targets_more, all_safe_append, all_safe_more}
use Rattle.bit_arith.proofs.Keeps.{carry_x, flip_down_x}
use Rattle.bit_arith.proofs.Safe.{under_now, under_in, under_safe, all_safe_in, more_wires, beside_none, condition_safe, operands_safe, among_past}
use Rattle.bit_arith.proofs.Going.{Row, refused_out, refused_on, refused_with, refused_last, went_with, went_grows, ok_last}
use Rattle.bit_arith.proofs.Turns.{length-carry, carry_safe}
use Rattle.bit_arith.proofs.builder.Builder.into_by.Goals as goal

abbrev next : List WireId → List Operand → List Operand → Row
next ws qs cs at b = flip_down at ws (pairs qs cs) b

pub carry-requires-clause-lengths : goal.carry-requires-clause-lengths
carry-requires-clause-lengths c = c.requires.carriers

pub carry-requires-clause-safe : goal.carry-requires-clause-safe
carry-requires-clause-safe c =
    let n : ℕ = length c.args.self.now.draft.wires in
    let T : Targets = among c.args.x.now in
    let at : Setting = c.args.self.now.setting in
    let qs : List Operand = c.args.y.now in
    under_safe n no_target at (c.args.carriers.now ++ qs)
    (under_in n T n no_target (beside_none n n T (omega arith)) at [] (condition_safe n T at qs c.requires.safe))
    (all_safe_append n no_target c.args.carriers.now qs c.requires.carriers_safe
    (all_safe_in n T n no_target (beside_none n n T (omega arith)) qs (operands_safe n T at qs c.requires.safe)))

pub returns-in_err-carries-clause-refused : goal.returns-in_err-carries-clause-refused
returns-in_err-carries-clause-refused c =
    let g : Given (List Operand) = carry c.args.self.now.setting c.args.carriers.now c.args.y.now (begun c.args.self.now.draft) in
    refused_out _ _ _ c.from_residual.ensures.1
    (refused_on _ g.built _ (flip_down_x c.args.self.now.setting c.args.x.now (pairs c.args.y.now g.answer) g.built).grows c.in_err-carries.ensures.refused)

pub flip_down-requires-clause-first : goal.flip_down-requires-clause-first
flip_down-requires-clause-first c = c.requires.lengths

pub flip_down-requires-clause-second : goal.flip_down-requires-clause-second
flip_down-requires-clause-second c =
    let e = ap length (c.as_slice.ensures.value ∙ c.in_ok-carries.ensures.answer) in
    let f = length-carry c.args.self.now.setting c.args.carriers.now c.args.y.now (begun c.args.self.now.draft) c.requires.carriers in
    let g = c.requires.carriers in
    let h = c.requires.lengths in
    omega (arith, e, f)

pub flip_down-requires-clause-targets : goal.flip_down-requires-clause-targets
flip_down-requires-clause-targets c =
    targets_more (went_grows _ _ _ (carry_x c.args.self.now.setting c.args.carriers.now c.args.y.now (begun c.args.self.now.draft)) c.in_ok-carries.ensures.ok)
    c.args.x.now c.requires.targets

pub flip_down-requires-clause-safe : goal.flip_down-requires-clause-safe
flip_down-requires-clause-safe c =
    let old : Building = c.args.self.now in
    let now : Building = c.carry.new.self in
    let ws : List WireId = c.args.x.now in
    let qs : List Operand = c.args.y.now in
    let n : ℕ = length old.draft.wires in
    let m : ℕ = length now.draft.wires in
    let T : Targets = among ws in
    let g : Given (List Operand) = carry old.setting c.args.carriers.now qs (begun old.draft) in
    let few = (went_grows _ _ _ (carry_x old.setting c.args.carriers.now qs (begun old.draft)) c.in_ok-carries.ensures.ok).grows.few in
    let made : AllSafe (length g.built.draft.wires) T g.answer = carry_safe T old.setting c.args.carriers.now qs (begun old.draft) (λ w past. among_past old.draft ws w c.requires.targets past) in
    let there : AllSafe m T g.answer = subst (λ (d : _). AllSafe (length d.wires) T g.answer) (sym c.in_ok-carries.ensures.ok.built) made in
    subst (λ (cs : List Operand). AllSafe m T (under now.setting (qs ++ cs))) (sym (c.as_slice.ensures.value ∙ c.in_ok-carries.ensures.answer))
    (under_now old now T T (qs ++ g.answer) c.in_ok-carries.ensures.ok.kept (more_wires n m T few)
    (condition_safe n T old.setting qs c.requires.safe)
    (all_safe_append m T qs g.answer (all_safe_more n m T qs few (operands_safe n T old.setting qs c.requires.safe)) there))

pub returns-clause-ok : goal.returns-clause-ok
returns-clause-ok c =
    ok_last _ _ _
    (λ v. went_with _ _ _ _ (next c.args.x.now c.args.y.now) _ _ (c.as_slice.ensures.value ∙ c.in_ok-carries.ensures.answer) c.in_ok-carries.ensures.ok v)
    c.flip_down.ensures.ok

pub returns-clause-refused : goal.returns-clause-refused
returns-clause-refused c =
    refused_last _ _ _
    (λ fault r. refused_with _ _ _ (next c.args.x.now c.args.y.now) _ _ fault (c.as_slice.ensures.value ∙ c.in_ok-carries.ensures.answer) c.in_ok-carries.ensures.ok r)
    c.flip_down.ensures.refused
