use Rattle.std.proofs.Common.{◌≡◌, ℕ, ◌<◌, ◌∷◌, List, map, length, ap, sym, ◌∙◌, subst, heap_items, heap_len, arith}
use Rattle.std.specs.BinaryHeap.{heap_capacity}
use Rattle.std.specs.List.Sorted.{IsPermutation}
use Rattle.std.proofs.lemmas.List.{length-map}
use Rattle.std.proofs.lemmas.List.Sorted.{IsPermutation-map}
use Rattle.qubit_alloc.specs.Free.{FreeList}
use Rattle.qubit_alloc.proofs.Heaps.{ok_holds}
use Rattle.qubit_alloc.proofs.free.FreeQubits.add.Goals as goal

pub returns-clause-items : goal.returns-clause-items
returns-clause-items c =
    let room : c.args.self.now.room ≡ heap_capacity c.self.inside.heap = sym (ap (λ (l : FreeList). l.room) c.self.view_is) in
    let items : length c.args.self.now.items ≡ length (heap_items c.self.inside.heap) = sym (ap (λ (l : FreeList). length l.items) c.self.view_is) ∙ length-map (heap_items c.self.inside.heap) (λ x. x.0) in
    let less : heap_len c.self.inside.heap < heap_capacity c.self.inside.heap = let h = c.requires in let l = c.self.inside.heap.data.ok.0 in omega arith in
    let pushed = ok_holds c.push.result _ (c.push.ensures.succeeds less) c.push.ensures.permutation in
    let moved = IsPermutation-map (λ x. x.0) (record { 0 = c.args.qubit } ∷ heap_items c.self.inside.heap) (heap_items c.push.new.self) pushed in
    subst (λ (xs : List ℕ). IsPermutation (c.args.qubit ∷ xs) (map (λ x. x.0) (heap_items c.push.new.self))) (ap (λ (l : FreeList). l.items) c.self.view_is) moved
