use Rattle.std.proofs.Common.{◌≡◌, ℕ, suc, ◌+◌, ◌-◌, ◌++◌, ◌∷◌, [], sym, ap, ◌∙◌, subst, arith, List, refl}
use Rattle.std.proofs.lemmas.List.{append-nil}
use Rattle.std.proofs.lemmas.Result.{err_from_is_err_and}
use Rattle.flat_core.specs.declared.step.WireId.{WireId}
use Rattle.bit_arith.specs.Built.{Built, begun, new_wire, new_wires, next_wire, next_wires}
use Rattle.bit_arith.specs.Calls.{Refused, Went}
use Rattle.bit_arith.proofs.Grows.{new_wires_x}
use Rattle.bit_arith.proofs.Chained.{built_by, refused_later, one_more_target, next_wires_more}
use Rattle.bit_arith.proofs.builder.Builder.new_wires.Goals as goal

pub returns-in_err-w-clause-refused : goal.returns-in_err-w-clause-refused
returns-in_err-w-clause-refused c =
    let p = err_from_is_err_and c.from_residual.result c.from_residual.ensures.1 in
    let rest : ℕ = c.args.n - (c.loop.counter + 1) in
    let later = refused_later c.in_err-w.field-0.0 (new_wires_x rest (new_wire (begun c.loop.self.draft))).grows c.in_err-w.ensures.refused in
    rw (p.1, p.2) (subst (Refused c.in_err-w.field-0.0) (c.loop.invariant.built (suc rest) (omega arith)) later)

pub loop-preserved : goal.loop-preserved
loop-preserved c = record {
  built = λ rest e.
      let one : new_wire (begun c.loop.self.draft) ≡ begun c.new_wire.new.self.draft = built_by c.in_ok-w.ensures.ok in
      ap (new_wires rest) (sym one) ∙ c.loop.invariant.built (suc rest) (omega arith);
  kept = c.in_ok-w.ensures.ok.kept ∙ c.loop.invariant.kept;
  answer = λ rest e.
      let one : new_wire (begun c.loop.self.draft) ≡ begun c.new_wire.new.self.draft = built_by c.in_ok-w.ensures.ok in
      let items : c.push.new.self.items ≡ c.loop.wires.items ++ next_wire (begun c.loop.self.draft) ∷ [] = c.in_ok-push.ensures.items ∙ ap (λ (w : WireId). c.loop.wires.items ++ w ∷ []) c.in_ok-w.ensures.answer in
      ap (λ (ws : List WireId). ws ++ next_wires rest (begun c.new_wire.new.self.draft)) items
      ∙ ap (λ (b : Built). (c.loop.wires.items ++ next_wire (begun c.loop.self.draft) ∷ []) ++ next_wires rest b) (sym one)
      ∙ next_wires_more c.loop.wires.items (begun c.loop.self.draft) rest
      ∙ c.loop.invariant.answer (suc rest) (omega arith);
  targets = rw c.in_ok-push.ensures.items (one_more_target c.in_ok-w.ensures.ok c.loop.wires.items c.in_ok-w.w c.loop.invariant.targets c.in_ok-w.ensures.target);
}

pub returns-clause-answer : goal.returns-clause-answer
returns-clause-answer c = sym (append-nil c.loop.wires.items) ∙ c.loop.invariant.answer 0 (omega arith)

pub returns-clause-ok : goal.returns-clause-ok
returns-clause-ok c =
    let e : begun c.loop.self.draft ≡ new_wires c.args.n (begun c.args.self.now.draft) = c.loop.invariant.built 0 (omega arith) in
    subst (Went c.args.self.now c.loop.self) e (record { within = refl; built = refl; kept = c.loop.invariant.kept })
