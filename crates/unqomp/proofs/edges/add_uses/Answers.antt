use Rattle.std.proofs.Common.{◌≡◌, ℕ, suc, ◌+◌, ◌*◌, ◌≤◌, ◌++◌, List, length, take, get_or, refl, sym, ap, ◌∙◌, subst, arith, length-append, append-nil}
use Rattle.std.proofs.Math.Seq.{take-append-add}
use Rattle.std.proofs.lemmas.List.{take_all}
use Rattle.flat_core.specs.Label.{step_id, wire_id}
use Rattle.graph_core.specs.declared.vertex.Vertex.{Vertex}
use Rattle.graph_core.specs.declared.vertex.Vertex.TheVariants.{Forward}
use Rattle.graph_core.specs.declared.graph.Arrow.{Arrow}
use Rattle.graph_core.specs.Arena.{Arena, IsVertexOf, with_arrows}
use Rattle.graph_core.specs.Slots.{SlotEdge}
use Rattle.unqomp.specs.declared.uses.Use.{Use}
use Rattle.unqomp.specs.GraphOf.{HasEdges}
use Rattle.unqomp.specs.UseList.{InUses, uses_at, uses_before}
use Rattle.unqomp.specs.Making.{slot_arrows, IsWhole, bare}
use Rattle.unqomp.proofs.Links.{read_chain}
use Rattle.unqomp.proofs.UseLoop.{nth_of_step, before_more, use_is, wire_there, few_uses, few_at_slot, some_is, some_there, turn_free, turn_within, turn_edges}
use Rattle.unqomp.proofs.edges.add_uses.Goals as goal

abbrev no_use : Use
no_use = record { user = Forward (step_id 0); wire = wire_id 0; label = 0 }

pub loop-u-init : goal.loop-u-init
loop-u-init c =
    let f = c.args.flat.now in
    let before = uses_before f c.args.s.number in
    let mine = c.deref-u-items.result.now in
    let start : take (length before + 0) (before ++ mine) ≡ before = take-append-add before mine 0 ∙ append-nil before in
    let few = c.requires.so_far.few in
    record {
      same = refl;
      edges = subst (λ (l : List Use). HasEdges c.args.graph.now (SlotEdge f (InUses l))) (sym start) c.requires.so_far.edges;
      few = omega arith;
    }

pub user_id-requires-clause-uses : goal.user_id-requires-clause-uses
user_id-requires-clause-uses c =
    let f = c.args.flat.now in
    let s = c.args.s in
    let mine = c.deref-u-items.result.now in
    let these : mine ≡ uses_at f s = c.deref-u-items.ensures.value ∙ c.in_ok-uses_of_step.ensures in
    let i = c.loop-u.u-index in
    let k = length (uses_before f s.number) + i in
    let uses = uses_before f s.number ++ mine in
    let x : Use = get_or mine i no_use in
    let n = suc s.number in
    let nth = nth_of_step f s c.requires.there mine these i no_use c.loop-u-test.true in
    use_is f c.requires.sound n uses k x nth

pub unwrap-user-requires : goal.unwrap-user-requires
unwrap-user-requires c =
    let f = c.args.flat.now in
    let s = c.args.s in
    let mine = c.deref-u-items.result.now in
    let these : mine ≡ uses_at f s = c.deref-u-items.ensures.value ∙ c.in_ok-uses_of_step.ensures in
    let i = c.loop-u.u-index in
    let k = length (uses_before f s.number) + i in
    let uses = uses_before f s.number ++ mine in
    let x : Use = get_or mine i no_use in
    let n = suc s.number in
    let nth = nth_of_step f s c.requires.there mine these i no_use c.loop-u-test.true in
    let g = c.loop-u.graph in
    let chains = c.args.chains.now in
    let whole : IsWhole f g.vertices chains = subst (λ (vs : List Vertex). IsWhole f vs chains) (sym c.loop-u.invariant.same) c.requires.whole in
    some_there c.user_id.result (λ i. IsVertexOf (bare g.vertices) i x.user) (c.user_id.ensures g.vertices whole)

pub slot_of-slot-requires-clause-there : goal.slot_of-slot-requires-clause-there
slot_of-slot-requires-clause-there c =
    let f = c.args.flat.now in
    let s = c.args.s in
    let mine = c.deref-u-items.result.now in
    let these : mine ≡ uses_at f s = c.deref-u-items.ensures.value ∙ c.in_ok-uses_of_step.ensures in
    let i = c.loop-u.u-index in
    let k = length (uses_before f s.number) + i in
    let uses = uses_before f s.number ++ mine in
    let x : Use = get_or mine i no_use in
    let n = suc s.number in
    let nth = nth_of_step f s c.requires.there mine these i no_use c.loop-u-test.true in
    wire_there f c.requires.sound n uses k x nth

pub bounds-chains-u : goal.bounds-chains-u
bounds-chains-u c =
    let f = c.args.flat.now in
    let s = c.args.s in
    let mine = c.deref-u-items.result.now in
    let these : mine ≡ uses_at f s = c.deref-u-items.ensures.value ∙ c.in_ok-uses_of_step.ensures in
    let i = c.loop-u.u-index in
    let k = length (uses_before f s.number) + i in
    let uses = uses_before f s.number ++ mine in
    let x : Use = get_or mine i no_use in
    let n = suc s.number in
    let nth = nth_of_step f s c.requires.there mine these i no_use c.loop-u-test.true in
    let there = wire_there f c.requires.sound n uses k x nth in
    let as_many = c.requires.whole.as_many in
    omega arith

pub add_at-requires-clause-free : goal.add_at-requires-clause-free
add_at-requires-clause-free c =
    let f = c.args.flat.now in
    let s = c.args.s in
    let mine = c.deref-u-items.result.now in
    let these : mine ≡ uses_at f s = c.deref-u-items.ensures.value ∙ c.in_ok-uses_of_step.ensures in
    let i = c.loop-u.u-index in
    let k = length (uses_before f s.number) + i in
    let uses = uses_before f s.number ++ mine in
    let x : Use = get_or mine i no_use in
    let n = suc s.number in
    let nth = nth_of_step f s c.requires.there mine these i no_use c.loop-u-test.true in
    let g = c.loop-u.graph in
    let chains = c.args.chains.now in
    let whole : IsWhole f g.vertices chains = subst (λ (vs : List Vertex). IsWhole f vs chains) (sym c.loop-u.invariant.same) c.requires.whole in
    let is_user : IsVertexOf g c.unwrap-user.result x.user = some_is c.user_id.result (λ i. IsVertexOf (bare g.vertices) i x.user) c.unwrap-user.result (c.user_id.ensures g.vertices whole) c.unwrap-user.ensures in
    let there = wire_there f c.requires.sound n uses k x nth in
    let as_many = c.requires.whole.as_many in
    let ids = read_chain chains x.wire c.index-chains-u.result (omega arith) c.index-chains-u.is in
    turn_free f c.requires.sound n uses k x nth g c.len-count.ensures.sound chains whole c.loop-u.invariant.edges c.unwrap-user.result is_user c.index-chains-u.result c.slot_of-slot.result ids c.slot_of-slot.ensures

pub add_at-requires-clause-room : goal.add_at-requires-clause-room
add_at-requires-clause-room c =
    let f = c.args.flat.now in
    let s = c.args.s in
    let mine = c.deref-u-items.result.now in
    let these : mine ≡ uses_at f s = c.deref-u-items.ensures.value ∙ c.in_ok-uses_of_step.ensures in
    let i = c.loop-u.u-index in
    let k = length (uses_before f s.number) + i in
    let uses = uses_before f s.number ++ mine in
    let x : Use = get_or mine i no_use in
    let n = suc s.number in
    let nth = nth_of_step f s c.requires.there mine these i no_use c.loop-u-test.true in
    let few = c.loop-u.invariant.few in
    let less = few_uses f c.requires.sound n uses k x nth in
    let steps = c.requires.sound.few_steps in
    omega arith

pub add_at-requires-clause-within : goal.add_at-requires-clause-within
add_at-requires-clause-within c =
    let f = c.args.flat.now in
    let s = c.args.s in
    let mine = c.deref-u-items.result.now in
    let these : mine ≡ uses_at f s = c.deref-u-items.ensures.value ∙ c.in_ok-uses_of_step.ensures in
    let i = c.loop-u.u-index in
    let k = length (uses_before f s.number) + i in
    let uses = uses_before f s.number ++ mine in
    let x : Use = get_or mine i no_use in
    let n = suc s.number in
    let nth = nth_of_step f s c.requires.there mine these i no_use c.loop-u-test.true in
    let g = c.loop-u.graph in
    let chains = c.args.chains.now in
    let whole : IsWhole f g.vertices chains = subst (λ (vs : List Vertex). IsWhole f vs chains) (sym c.loop-u.invariant.same) c.requires.whole in
    let is_user : IsVertexOf g c.unwrap-user.result x.user = some_is c.user_id.result (λ i. IsVertexOf (bare g.vertices) i x.user) c.unwrap-user.result (c.user_id.ensures g.vertices whole) c.unwrap-user.ensures in
    let there = wire_there f c.requires.sound n uses k x nth in
    let as_many = c.requires.whole.as_many in
    let ids = read_chain chains x.wire c.index-chains-u.result (omega arith) c.index-chains-u.is in
    turn_within f c.requires.sound n uses k x nth g c.len-count.ensures.sound chains whole c.loop-u.invariant.edges c.unwrap-user.result is_user c.index-chains-u.result c.slot_of-slot.result ids c.slot_of-slot.ensures

pub loop-u-preserved : goal.loop-u-preserved
loop-u-preserved c =
    let f = c.args.flat.now in
    let s = c.args.s in
    let mine = c.deref-u-items.result.now in
    let these : mine ≡ uses_at f s = c.deref-u-items.ensures.value ∙ c.in_ok-uses_of_step.ensures in
    let i = c.loop-u.u-index in
    let k = length (uses_before f s.number) + i in
    let uses = uses_before f s.number ++ mine in
    let x : Use = get_or mine i no_use in
    let n = suc s.number in
    let nth = nth_of_step f s c.requires.there mine these i no_use c.loop-u-test.true in
    let g = c.loop-u.graph in
    let chains = c.args.chains.now in
    let whole : IsWhole f g.vertices chains = subst (λ (vs : List Vertex). IsWhole f vs chains) (sym c.loop-u.invariant.same) c.requires.whole in
    let is_user : IsVertexOf g c.unwrap-user.result x.user = some_is c.user_id.result (λ i. IsVertexOf (bare g.vertices) i x.user) c.unwrap-user.result (c.user_id.ensures g.vertices whole) c.unwrap-user.ensures in
    let there = wire_there f c.requires.sound n uses k x nth in
    let as_many = c.requires.whole.as_many in
    let ids = read_chain chains x.wire c.index-chains-u.result (omega arith) c.index-chains-u.is in
    let more : List Arrow = slot_arrows c.index-chains-u.result c.unwrap-user.result c.slot_of-slot.result in
    let few = few_at_slot c.index-chains-u.result c.unwrap-user.result c.slot_of-slot.result in
    let longer = length-append g.arrows more in
    let before = c.loop-u.invariant.few in
    let next : k + 1 ≡ length (uses_before f s.number) + (i + 1) = omega arith in
    record {
      same = ap (λ (h : Arena). h.vertices) c.in_ok-add_at.ensures ∙ c.loop-u.invariant.same;
      edges = subst (λ (h : Arena). HasEdges h (SlotEdge f (InUses (take (length (uses_before f s.number) + (i + 1)) uses)))) (sym c.in_ok-add_at.ensures)
          (subst (λ (m : ℕ). HasEdges (with_arrows g more) (SlotEdge f (InUses (take m uses)))) next
          (turn_edges f c.requires.sound n uses k x nth g c.len-count.ensures.sound chains whole c.loop-u.invariant.edges c.unwrap-user.result is_user c.index-chains-u.result c.slot_of-slot.result ids c.slot_of-slot.ensures));
      few = subst (λ (h : Arena). length h.arrows ≤ 500000 + 2 * (length (uses_before f s.number) + (i + 1))) (sym c.in_ok-add_at.ensures) (omega arith);
    }

pub returns-clause-added : goal.returns-clause-added
returns-clause-added c =
    let f = c.args.flat.now in
    let s = c.args.s in
    let before = uses_before f s.number in
    let mine = c.deref-u-items.result.now in
    let these : mine ≡ uses_at f s = c.deref-u-items.ensures.value ∙ c.in_ok-uses_of_step.ensures in
    let i = c.loop-u.u-index in
    let longer = length-append before mine in
    let done : length mine ≤ i = omega arith in
    let inside : i ≤ length mine = omega arith in
    let is : before ++ mine ≡ uses_before f (s.number + 1) = before_more f s.number mine these in
    let whole : take (length before + i) (before ++ mine) ≡ before ++ mine = take_all (length before + i) (before ++ mine) (omega arith) in
    let few = c.loop-u.invariant.few in
    let size = ap length is in
    record {
      edges = subst (λ (l : List Use). HasEdges c.loop-u.graph (SlotEdge f (InUses l))) (whole ∙ is) c.loop-u.invariant.edges;
      few = omega arith;
    }
