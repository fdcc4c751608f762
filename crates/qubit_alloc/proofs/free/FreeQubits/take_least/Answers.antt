use Rattle.std.proofs.Common.{ℕ, ◌≤◌, ◌∷◌, List, map, All, ap, subst, heap_items}
use Rattle.std.specs.List.Sorted.{IsPermutation}
use Rattle.std.proofs.lemmas.List.Sorted.{IsPermutation-map}
use Rattle.qubit_alloc.specs.Free.{FreeList}
use Rattle.qubit_alloc.proofs.Heaps.{least_first}
use Rattle.qubit_alloc.proofs.free.FreeQubits.take_least.Goals as goal

pub returns-clause-items : goal.returns-clause-items
returns-clause-items c =
    let moved = IsPermutation-map (λ x. x.0) (heap_items c.self.inside.heap) (c.in-Some.field-0 ∷ heap_items c.pop.new.self) c.in-Some.ensures.permutation in
    subst (λ (xs : List ℕ). IsPermutation xs (c.in-Some.field-0.0 ∷ map (λ x. x.0) (heap_items c.pop.new.self))) (ap (λ (l : FreeList). l.items) c.self.view_is) moved

pub returns-clause-least : goal.returns-clause-least
returns-clause-least c =
    let above = least_first c.in-Some.field-0 (heap_items c.self.inside.heap) (c.in-Some.ensures.heap_order c.self.invariant).1 in
    subst (λ (xs : List ℕ). All (λ n. c.in-Some.field-0.0 ≤ n) xs) (ap (λ (l : FreeList). l.items) c.self.view_is) above
