use Rattle.std.proofs.Common.{◌≡◌, ℕ, List, ◌++◌, length, sym, ap, ◌∙◌, subst}
use Rattle.std.specs.Prelude.{Result, IfOk, IfErr}
use Rattle.silq_io.specs.declared.limit.LimitFault.{LimitFault}
use Rattle.flat_core.specs.Form.{DraftForm}
use Rattle.bit_arith.specs.declared.operand.Operand.{Operand}
use Rattle.bit_arith.specs.Built.{Built, Given, begun, under}
use Rattle.bit_arith.specs.Rows.{matches, all_of, equal}
use Rattle.bit_arith.specs.Calls.{Building, AllSafe, Went, Refused, no_target}
use Rattle.bit_arith.proofs.Grows.{all_safe_front, all_safe_back}
use Rattle.bit_arith.proofs.Keeps.{matches_x, all_of_x}
use Rattle.bit_arith.proofs.Safe.{under_now, more_wires, condition_safe, operands_safe}
use Rattle.bit_arith.proofs.Going.{Row, refused_out, refused_on, refused_with, refused_last, went_with, went_same, went_grows, ok_last}
use Rattle.bit_arith.proofs.Turns.{matches_safe}
use Rattle.bit_arith.proofs.builder.Builder.equal.Goals as goal

abbrev next : List Operand → Row
next ms at b = (all_of at ms b).built

-- what the last call says
module _ (old mid : Building) (result : Result Operand LimitFault) (ps qs ms : List Operand) (are : ms ≡ (matches old.setting ps qs (begun old.draft)).answer) (went : Went old mid (matches old.setting ps qs (begun old.draft)).built) where
  pub equal_answer : IfOk result (λ p. p ≡ (all_of mid.setting ms (begun mid.draft)).answer) → IfOk result (λ p. p ≡ (equal old.setting ps qs (begun old.draft)).answer)
  unfolding equal
  equal_answer told =
      let row : Built = (matches old.setting ps qs (begun old.draft)).built in
      let e : (all_of mid.setting ms (begun mid.draft)).answer ≡ (all_of old.setting ms row).answer = went_same old mid row (λ at b. (all_of at ms b).answer) went in
      let f = ap (λ (xs : List Operand). (all_of old.setting xs row).answer) are in
      subst (λ (q : Operand). IfOk result (λ p. p ≡ q)) (e ∙ f) told

  pub equal_went : (new : Building) → IfOk result (λ _. Went mid new (next ms mid.setting (begun mid.draft))) → IfOk result (λ _. Went old new (equal old.setting ps qs (begun old.draft)).built)
  unfolding equal
  equal_went new told = ok_last result _ _ (λ v. went_with old mid new _ next ms _ are went v) told

  pub equal_refused : IfErr result (λ e. Refused e (next ms mid.setting (begun mid.draft))) → IfErr result (λ e. Refused e (equal old.setting ps qs (begun old.draft)).built)
  unfolding equal
  equal_refused told = refused_last result _ _ (λ fault r. refused_with old mid _ next ms _ fault are went r) told

pub returns-in_err-matches-clause-refused : goal.returns-in_err-matches-clause-refused
unfolding equal
returns-in_err-matches-clause-refused c =
    let g : Given (List Operand) = matches c.args.self.now.setting c.args.a.now c.args.b.now (begun c.args.self.now.draft) in
    refused_out _ _ _ c.from_residual.ensures.1
    (refused_on _ g.built _ (all_of_x c.args.self.now.setting g.answer g.built).grows c.in_err-matches.ensures.refused)

pub all_of-requires : goal.all_of-requires
all_of-requires c =
    let old : Building = c.args.self.now in
    let now : Building = c.matches.new.self in
    let ps : List Operand = c.args.a.now in
    let qs : List Operand = c.args.b.now in
    let n : ℕ = length old.draft.wires in
    let g : Given (List Operand) = matches old.setting ps qs (begun old.draft) in
    let few = (went_grows old now _ (matches_x old.setting ps qs (begun old.draft)) c.in_ok-matches.ensures.ok).grows.few in
    let all : AllSafe n no_target (ps ++ qs) = operands_safe n no_target old.setting (ps ++ qs) c.requires.safe in
    let there : AllSafe (length g.built.draft.wires) no_target g.answer = matches_safe old.setting ps qs (begun old.draft) (all_safe_front n no_target ps qs all) (all_safe_back n no_target ps qs all) in
    let here : AllSafe (length now.draft.wires) no_target g.answer = subst (λ (d : DraftForm). AllSafe (length d.wires) no_target g.answer) (sym c.in_ok-matches.ensures.ok.built) there in
    record {
      safe = subst (λ (ms : List Operand). AllSafe (length now.draft.wires) no_target (under now.setting ms)) (sym (c.as_slice.ensures.value ∙ c.in_ok-matches.ensures.answer))
          (under_now old now no_target no_target g.answer c.in_ok-matches.ensures.ok.kept (more_wires n _ no_target few)
          (condition_safe n no_target old.setting (ps ++ qs) c.requires.safe) here);
    }

pub returns-clause-answer : goal.returns-clause-answer
returns-clause-answer c =
    equal_answer c.args.self.now c.matches.new.self c.all_of.result c.args.a.now c.args.b.now c.as_slice.result.now (c.as_slice.ensures.value ∙ c.in_ok-matches.ensures.answer) c.in_ok-matches.ensures.ok c.all_of.ensures.answer

pub returns-clause-ok : goal.returns-clause-ok
returns-clause-ok c =
    equal_went c.args.self.now c.matches.new.self c.all_of.result c.args.a.now c.args.b.now c.as_slice.result.now (c.as_slice.ensures.value ∙ c.in_ok-matches.ensures.answer) c.in_ok-matches.ensures.ok c.all_of.new.self c.all_of.ensures.ok

pub returns-clause-refused : goal.returns-clause-refused
returns-clause-refused c =
    equal_refused c.args.self.now c.matches.new.self c.all_of.result c.args.a.now c.args.b.now c.as_slice.result.now (c.as_slice.ensures.value ∙ c.in_ok-matches.ensures.answer) c.in_ok-matches.ensures.ok c.all_of.ensures.refused
