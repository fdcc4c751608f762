use Rattle.std.proofs.Common.{◌≡◌, ℕ, suc, ◌≤◌, ◌<◌, Bool, false, List, [], ◌∷◌, length, get_or, filter, ap, sym, ◌∙◌, arith, rules}
use Rattle.std.proofs.lemmas.List.Sorted.{answers_always, ranks_by, sorted_far}
use Rattle.std.proofs.lemmas.Result.{on_ok_weaker}
use Rattle.std.specs.Cmp.{bool_cmp_total, IsStrictWeakOrder}
use Rattle.std.specs.Cmp.Lexicographic.{slice_cmp, lists_total}
use Rattle.std.specs.Ordering.{bool_cmp, is_lt}
use Rattle.amp_core.specs.declared.Amp.{Amp}
use Rattle.amp_core.specs.Amplitude.{none}
use Rattle.sum_laws.specs.InOrder.{NeverFalling}
use Rattle.sum_laws.proofs.Order.{is_lt-text_order, ties-same_bits}
use Rattle.sum_laws.proofs.merge.sort.Goals as goal

-- the order by values
abbrev less : List Bool × Amp → List Bool × Amp → Bool
less t u = is_lt (slice_cmp bool_cmp t.0 u.0)

less_ranks : IsStrictWeakOrder less
less_ranks = ranks_by (lists_total bool_cmp_total) (λ t. t.0)

never_falling : (ts : List (List Bool × Amp)) → ((i j : ℕ) (d : List Bool × Amp) → i ≤ j → j < length ts → less (get_or ts j d) (get_or ts i d) ≡ false) → NeverFalling ts
never_falling [] h = tt
never_falling (t ∷ ts) h = (
  λ k d l. sym (is_lt-text_order (get_or ts k d).0 t.0) ∙ h 0 (suc k) d (omega arith) (omega arith),
  never_falling ts (λ i j d p q. h (suc i) (suc j) d (omega arith) (omega arith)),
)

pub returns-clause-in_order : goal.returns-clause-in_order
returns-clause-in_order c =
    on_ok_weaker c.sort_by.result
    (λ sorted. never_falling c.sort_by.new.self.items (sorted_far less less_ranks c.sort_by.new.self.items (sorted less less_ranks (answers_always _ _ _ (λ f a r g h. search rules)))))
    c.sort_by.ensures.sorted

pub returns-clause-each_value : goal.returns-clause-each_value
returns-clause-each_value c = λ v.
    let stable = c.sort_by.ensures.stable less less_ranks (answers_always _ _ _ (λ f a r g h. search rules)) (v, none) in
    ap (λ (test : List Bool × Amp → Bool). filter test c.sort_by.new.self.items) (λ i t. sym (ties-same_bits v t.0) i)
    ∙ stable
    ∙ ap (λ (test : List Bool × Amp → Bool). filter test c.args.terms.now.items) (λ i t. ties-same_bits v t.0 i)
