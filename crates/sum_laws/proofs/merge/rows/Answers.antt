use Rattle.std.proofs.Common.{◌≡◌, List, [], ◌∷◌, Bool, true, false, length, ap, sym, ◌∙◌, subst}
use Rattle.std.specs.Vec.Iter.{into_iter_items}
use Rattle.amp_core.specs.declared.Amp.{Amp}
use Rattle.amp_core.specs.Size.{Small}
use Rattle.sum_laws.specs.InOrder.{NeverFalling, AddsRow}
use Rattle.sum_laws.specs.Partial.{PartialSumsSmall}
use Rattle.sum_laws.specs.Table.{TableOf}
use Rattle.sum_laws.specs.Terms.{same_bits}
use Rattle.sum_laws.proofs.TermLists.{same_bits-equal}
use Rattle.sum_laws.proofs.Order.{pointwise-same_bits}
use Rattle.sum_laws.proofs.Merging.{Merging, Merging-begin, Merging-same, Merging-next, small_sum, small_term, TableOf-from_merging, TableOf-nothing}
use Rattle.sum_laws.proofs.merge.rows.Goals as goal

-- a list of length 0
no_terms : {X : Type 0} (xs : List X) → length xs ≡ 0 → xs ≡ []
no_terms [] e = cc
no_terms (x ∷ xs) e = cc

pub returns-in_default : goal.returns-in_default
returns-in_default c =
    let long : length c.args.terms.items ≡ 0 = sym c.args.terms.ok.0 ∙ sym c.into_iter-terms.ensures.len ∙ c.in_default.ensures.cases.0 in
    subst (λ ts. TableOf ts c.new-rows.result.items) (sym (no_terms c.args.terms.items long)) (subst (TableOf []) (sym c.new-rows.ensures.items) TableOf-nothing)

begun : (all rows rest : List (List Bool × Amp)) (t : List Bool × Amp) → NeverFalling all → ((v : List Bool) → PartialSumsSmall v all) → all ≡ t ∷ rest → rows ≡ [] → Merging all rows t rest
begun all rows rest t o p e r =
    subst (λ rs. Merging all rs t rest) (sym r)
    (subst (λ ts. Merging ts [] t rest) (sym e) (Merging-begin t rest (subst NeverFalling e o) (λ v. subst (PartialSumsSmall v) e (p v))))

pub loop-term-init : goal.loop-term-init
loop-term-init c =
    begun c.args.terms.items c.new-rows.result.items (into_iter_items c.into_iter-term-iterator.result) c.in-Some.sum c.requires.in_order c.requires.small
    (sym c.into_iter-terms.ensures.rest ∙ c.in-Some.ensures.items ∙ ap (λ it. c.in-Some.sum ∷ into_iter_items it) (sym c.into_iter-term-iterator.ensures.into_iter_gives))
    c.new-rows.ensures.items

pub add-sum-requires-clause-self_small : goal.add-sum-requires-clause-self_small
add-sum-requires-clause-self_small c = small_sum c.args.terms.items c.loop-term.rows.items c.loop-term.sum (into_iter_items c.loop-term.term-iterator) c.loop-term.invariant

pub add-sum-requires-clause-other_small : goal.add-sum-requires-clause-other_small
add-sum-requires-clause-other_small c =
    small_term c.args.terms.items c.loop-term.rows.items c.loop-term.sum c.in-Some-term.term (into_iter_items c.next-in-loop-term.new.self)
    (subst (Merging c.args.terms.items c.loop-term.rows.items c.loop-term.sum) c.in-Some-term.ensures.steps.0 c.loop-term.invariant)

pub loop-term-preserved-then-eq : goal.loop-term-preserved-then-eq
loop-term-preserved-then-eq c =
    let same : same_bits c.in-Some-term.term.0 c.loop-term.sum.0 ≡ true = sym (pointwise-same_bits c.in-Some-term.term.0 c.loop-term.sum.0) ∙ sym c.if-eq.ensures in
    subst (λ x. Merging c.args.terms.items c.loop-term.rows.items (c.loop-term.sum.0, x) (into_iter_items c.next-in-loop-term.new.self)) (sym c.add-sum.ensures)
    (Merging-same c.args.terms.items c.loop-term.rows.items c.loop-term.sum c.in-Some-term.term (into_iter_items c.next-in-loop-term.new.self)
    (subst (Merging c.args.terms.items c.loop-term.rows.items c.loop-term.sum) c.in-Some-term.ensures.steps.0 c.loop-term.invariant)
    (same_bits-equal c.in-Some-term.term.0 c.loop-term.sum.0 same))

pub add_row-requires : goal.add_row-requires
add_row-requires c =
    subst (λ (s : List Bool × Amp). Small s.1) (sym c.replace.ensures.value)
    (small_sum c.args.terms.items c.loop-term.rows.items c.loop-term.sum (into_iter_items c.loop-term.term-iterator) c.loop-term.invariant)

pub loop-term-preserved : goal.loop-term-preserved
loop-term-preserved c =
    let apart : same_bits c.in-Some-term.term.0 c.loop-term.sum.0 ≡ false = sym (pointwise-same_bits c.in-Some-term.term.0 c.loop-term.sum.0) ∙ sym c.if-eq.ensures in
    subst (λ t. Merging c.args.terms.items c.add_row.new.rows.items t (into_iter_items c.next-in-loop-term.new.self)) (sym c.replace.ensures.after)
    (Merging-next c.args.terms.items c.loop-term.rows.items c.add_row.new.rows.items c.loop-term.sum c.in-Some-term.term (into_iter_items c.next-in-loop-term.new.self)
    (subst (Merging c.args.terms.items c.loop-term.rows.items c.loop-term.sum) c.in-Some-term.ensures.steps.0 c.loop-term.invariant)
    apart
    (subst (λ s. AddsRow s c.loop-term.rows.items c.add_row.new.rows.items) c.replace.ensures.value c.in_ok-add_row.ensures))

pub add_row-requires-2 : goal.add_row-requires-2
add_row-requires-2 c = small_sum c.args.terms.items c.loop-term.rows.items c.loop-term.sum (into_iter_items c.loop-term.term-iterator) c.loop-term.invariant

pub returns : goal.returns
returns c =
    let none_left : into_iter_items c.loop-term.term-iterator ≡ [] = no_terms (into_iter_items c.loop-term.term-iterator) (sym c.loop-term.term-iterator.rest.ok.0 ∙ c.in-None.ensures.steps.0) in
    TableOf-from_merging c.args.terms.items c.loop-term.rows.items c.add_row-2.new.rows.items c.loop-term.sum
    (subst (Merging c.args.terms.items c.loop-term.rows.items c.loop-term.sum) none_left c.loop-term.invariant) c.in_ok-add_row-2.ensures
