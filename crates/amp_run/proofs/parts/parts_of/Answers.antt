use Rattle.std.proofs.Common.{◌≡◌, Bool, List, [], ◌∷◌, ◌++◌, All, map, length, sym, ◌∙◌, subst}
use Rattle.std.proofs.lemmas.List.{append-nil}
use Rattle.std.proofs.lemmas.List.Elements.{All-head, All-tail}
use Rattle.std.specs.Vec.Iter.{into_iter_items}
use Rattle.amp_core.specs.declared.Amp.{Amp}
use Rattle.amp_core.specs.Size.{Small}
use Rattle.sum_laws.specs.Rearranged.{Rearranged}
use Rattle.sum_laws.specs.Terms.{Branch, apply, branched}
use Rattle.sum_laws.proofs.Rearranged.{Rearranged-refl}
use Rattle.gate_core.specs.Circuit.{qubits_of}
use Rattle.gate_core.specs.Local.{AllBelow}
use Rattle.gate_core.specs.Meaning.{branches}
use Rattle.amp_run.specs.Column.{column_branches}
use Rattle.amp_run.specs.Parts.{all_parts}
use Rattle.amp_run.proofs.Joining.{added_part}
use Rattle.amp_run.proofs.parts.parts_of.Goals as goal

-- before the first term
begun : (step : List Bool → List Branch) (terms rest old : List (List Bool × Amp)) → rest ≡ terms → old ≡ [] → Rearranged (apply step terms) (old ++ apply step rest)
begun step terms rest old e f =
    subst (λ o. Rearranged (apply step terms) (o ++ apply step rest)) (sym f)
    (subst (λ r. Rearranged (apply step terms) (apply step r)) (sym e) (Rearranged-refl (apply step terms)))

-- one term more
advanced : (step : List Bool → List Branch) (whole old new rest : List (List Bool × Amp)) (u : List Bool) (x : Amp) (bs : List Branch)
    → bs ≡ step u → Rearranged whole (old ++ apply step ((u, x) ∷ rest)) → Rearranged (old ++ map (branched x) bs) new → Rearranged whole (new ++ apply step rest)
unfolding apply
advanced step whole old new rest u x bs e w p =
    added_part whole old new (map (branched x) (step u)) (apply step rest) w (subst (λ cs. Rearranged (old ++ map (branched x) cs) new) e p)

-- after the last term
ended : (step : List Bool → List Branch) (whole old rest : List (List Bool × Amp)) → rest ≡ [] → Rearranged whole (old ++ apply step rest) → Rearranged whole old
unfolding apply
ended step whole old rest e w =
    subst (Rearranged whole) (append-nil old) (subst (λ r. Rearranged whole (old ++ apply step r)) e w)

pub loop-bits-init : goal.loop-bits-init
loop-bits-init c =
    let same : into_iter_items c.into_iter-bits-iterator.result ≡ c.args.terms = c.into_iter-bits-iterator.ensures.into_iter_gives.0 ∙ c.into_vec-bits-items.ensures in
    record {
      made = begun (branches c.args.outcome.now c.args.known.now c.args.gate) c.args.terms _ _ same c.new-parts.ensures;
      small = subst (All (λ (t : List Bool × Amp). Small t.1)) (sym same) c.requires.small;
      qubits = subst (All (λ (t : List Bool × Amp). AllBelow (length t.0) (qubits_of c.args.gate))) (sym same) c.requires.qubits;
    }

pub add-requires-clause-small : goal.add-requires-clause-small
add-requires-clause-small c =
    All-head (λ (t : List Bool × Amp). Small t.1) _ _ (subst (All (λ (t : List Bool × Amp). Small t.1)) c.in-Some.ensures.steps.0 c.loop-bits.invariant.small)

pub loop-bits-preserved : goal.loop-bits-preserved
loop-bits-preserved c =
    let step = branches c.args.outcome.now c.args.known.now c.args.gate in
    let e = c.in-Some.ensures.steps.0 in
    record {
      made =
          advanced step (apply step c.args.terms) (all_parts c.loop-bits.parts) (all_parts c.add.new.self) (into_iter_items c.next.new.self) c.in-Some.bits c.in-Some.amp (column_branches c.column_of-column.result c.in-Some.bits)
          (subst (λ u. column_branches c.column_of-column.result u ≡ step u) c.as_slice.ensures c.column_of-column.ensures.branches)
          (subst (λ r. Rearranged (apply step c.args.terms) (all_parts c.loop-bits.parts ++ apply step r)) e c.loop-bits.invariant.made)
          c.in_ok-add.ensures;
      small = All-tail (λ (t : List Bool × Amp). Small t.1) _ _ (subst (All (λ (t : List Bool × Amp). Small t.1)) e c.loop-bits.invariant.small);
      qubits = All-tail (λ (t : List Bool × Amp). AllBelow (length t.0) (qubits_of c.args.gate)) _ _ (subst (All (λ (t : List Bool × Amp). AllBelow (length t.0) (qubits_of c.args.gate))) e c.loop-bits.invariant.qubits);
    }

-- a list of length 0
no_terms : {X : Type 0} (xs : List X) → length xs ≡ 0 → xs ≡ []
no_terms [] e = cc
no_terms (x ∷ xs) e = cc

pub returns : goal.returns
returns c =
    ended (branches c.args.outcome.now c.args.known.now c.args.gate) _ (all_parts c.loop-bits.parts) (into_iter_items c.loop-bits.bits-iterator)
    (no_terms (into_iter_items c.loop-bits.bits-iterator) (sym c.loop-bits.bits-iterator.rest.ok.0 ∙ c.in-None.ensures.steps.0))
    c.loop-bits.invariant.made
