-- A vertex is taken: it leaves the tree of the ready vertices, and what waits for nothing more enters it.
use Rattle.std.proofs.Common.{◌≡◌, ℕ, ◌-◌, ◌<◌, ◌≤◌, Bool, true, false, cond, not, ◌&&◌, eqb, ltb, List, [], ◌∷◌, ◌++◌, length, get_or, set, replicate, take, drop, Option, Some, None, refl, sym, ap, ◌∙◌, subst, inl, inr, arith, get_or-set_same, get_or-set_other}
use Rattle.std.proofs.lemmas.Bool.{and_parts, cases_Bool, cases_eq, eq-eqb, eqb-true, lt-ltb, ne_eqb}
use Rattle.std.proofs.lemmas.List.{take_at}
use Rattle.std.proofs.lemmas.Option.{cond_some, none-some, same_Some}
use Rattle.graph_core.specs.declared.vertex.EdgeKind.{EdgeKind}
use Rattle.graph_core.specs.declared.graph.VertexId.{VertexId}
use Rattle.graph_core.specs.Arena.{Arena, IsArena}
use Rattle.topo_order.specs.ReadyOrder.{GoesFirst}
use Rattle.topo_order.specs.Flags.{vertex_of, is_flagged, IsReadyAt, IsNextAt}
use Rattle.topo_order.specs.Waiting.{AreCounters, between}
use Rattle.topo_order.specs.ReadyTree.{tree_at, leaf_at, IsTree, SetsLeaf, ShowsZeros, ShowsReady, IsTaken, fell}
use Rattle.topo_order.proofs.Best.{vertex_id}
use Rattle.topo_order.proofs.Going.{Going}
use Rattle.topo_order.proofs.Lowered.{Lowering, lowering_within, lowering_some, lowering_more, lowering_end, none_flagged, start_turns, turn_enough, turn_more, told_ready, ready_told}
use Rattle.topo_order.proofs.Tree.{root_first, root_in}

and_false : (b : Bool) → (b && false) ≡ false
and_false true = refl
and_false false = refl

not_true : (b : Bool) → not b ≡ true → b ≡ false
not_true true e = cc
not_true false e = refl

-- whether a counter fell to 0
fell_no : (old new : ℕ) → 0 < new → fell old new ≡ false
fell_no old new pos = rw (ne_eqb new 0 (λ e. omega arith)) (and_false (ltb 0 old))

fell_zero : (old new : ℕ) → old ≡ 0 → fell old new ≡ false
fell_zero old new e = ap (λ (n : ℕ). fell n new) e

fell_same : (n : ℕ) → fell n n ≡ false
fell_same n = elim (cases_eq n 0) [ inl e ↦ fell_zero n n e | inr ne ↦ fell_no n n (omega arith) ]

fell_yes : (old new : ℕ) → 0 < old → new ≡ 0 → fell old new ≡ true
fell_yes old new pos e = rw (lt-ltb 0 old pos, eq-eqb new 0 e) refl

-- the counters where the edges left are not yet taken off, and the tree
pub record Falling (g : Arena) (v : VertexId) (old now : List ℕ) (left : List (VertexId × EdgeKind)) (before tree : List (Option VertexId)) : Type 0 where
  pub lowering : Lowering g v old now left
  pub whole : IsTree g tree 0
  pub less : (u : VertexId) → get_or now u.number 0 ≤ get_or old u.number 0
  pub leaves : (u : VertexId) → u.number < length g.vertices → leaf_at g tree u ≡ cond (fell (get_or old u.number 0) (get_or now u.number 0)) (Some u) (cond (eqb u.number v.number) None (leaf_at g before u))

pub falling_start : (g : Arena) (v : VertexId) (old : List ℕ) (left : List (VertexId × EdgeKind)) (before tree : List (Option VertexId)) → Lowering g v old old left → IsTree g tree 0 → SetsLeaf g v None before tree → Falling g v old old left before tree
falling_start g v old left before tree s t sets = record {
  lowering = s;
  whole = t;
  less = λ u. omega arith;
  leaves = λ u l. sets u l ∙ sym (ap (λ (b : Bool). cond b (Some u) (cond (eqb u.number v.number) None (leaf_at g before u))) (fell_same (get_or old u.number 0)));
}

module _ (g : Arena) (v : VertexId) (old now : List ℕ) (left rest : List (VertexId × EdgeKind)) (before tree : List (Option VertexId)) (e : VertexId × EdgeKind) (f : Falling g v old now left before tree) (is : left ≡ e ∷ rest) where
  some : 1 ≤ get_or now e.0.number 0
  some = lowering_some g v old now left rest e f.lowering is

  within : e.0.number < length g.vertices
  within = lowering_within g v old now left rest e f.lowering is

  at_e : get_or (set now e.0.number (get_or now e.0.number 0 - 1)) e.0.number 0 ≡ get_or now e.0.number 0 - 1
  at_e = get_or-set_same now e.0.number (get_or now e.0.number 0 - 1) 0 (let q = f.lowering.sized in let w = within in omega arith)

  at_other : (u : VertexId) → (u.number ≡ e.0.number → ⊥) → get_or (set now e.0.number (get_or now e.0.number 0 - 1)) u.number 0 ≡ get_or now u.number 0
  at_other u ne = get_or-set_other now e.0.number u.number (get_or now e.0.number 0 - 1) 0 ne

  lesser : (u : VertexId) → get_or (set now e.0.number (get_or now e.0.number 0 - 1)) u.number 0 ≤ get_or old u.number 0
  lesser u = elim (cases_eq u.number e.0.number) [
    | inl s ↦ subst (λ (x : VertexId). get_or (set now e.0.number (get_or now e.0.number 0 - 1)) x.number 0 ≤ get_or old x.number 0) (ap vertex_id (sym s)) (let a = at_e in let b = f.less e.0 in omega arith)
    | inr ne ↦ let a = at_other u ne in let b = f.less u in omega arith
  ]

  -- what is said of a leaf
  Tells : List (Option VertexId) → VertexId → Type 0
  Tells after u = leaf_at g after u ≡ cond (fell (get_or old u.number 0) (get_or (set now e.0.number (get_or now e.0.number 0 - 1)) u.number 0)) (Some u) (cond (eqb u.number v.number) None (leaf_at g before u))

  other_leaf : (u : VertexId) → u.number < length g.vertices → (u.number ≡ e.0.number → ⊥) → Tells tree u
  unfolding Tells
  other_leaf u l ne = rw (at_other u ne) (f.leaves u l)

  pub fall_put : (after : List (Option VertexId)) → get_or (set now e.0.number (get_or now e.0.number 0 - 1)) e.0.number 0 ≡ 0 → IsTree g after 0 → SetsLeaf g e.0 (Some e.0) tree after → Falling g v old (set now e.0.number (get_or now e.0.number 0 - 1)) rest before after
  unfolding Tells
  fall_put after zero t sets = record {
    lowering = lowering_more g v old now left rest e f.lowering is;
    whole = t;
    less = lesser;
    leaves = λ u l. elim (cases_eq u.number e.0.number) [
      | inl s ↦ subst (Tells after) (ap vertex_id (sym s)) here
      | inr ne ↦ sets u l ∙ rw (ne_eqb u.number e.0.number ne) (other_leaf u l ne)
    ];
  }
    where
      here : Tells after e.0
      here =
          let pos : 0 < get_or old e.0.number 0 = (let a = some in let b = f.less e.0 in omega arith) in
          sets e.0 within ∙ rw (eq-eqb e.0.number e.0.number refl, fell_yes (get_or old e.0.number 0) (get_or (set now e.0.number (get_or now e.0.number 0 - 1)) e.0.number 0) pos zero) refl

  pub fall_keep : (get_or (set now e.0.number (get_or now e.0.number 0 - 1)) e.0.number 0 ≡ 0 → ⊥) → Falling g v old (set now e.0.number (get_or now e.0.number 0 - 1)) rest before tree
  unfolding Tells
  fall_keep ne0 = record {
    lowering = lowering_more g v old now left rest e f.lowering is;
    whole = f.whole;
    less = lesser;
    leaves = λ u l. elim (cases_eq u.number e.0.number) [
      | inl s ↦ subst (Tells tree) (ap vertex_id (sym s)) here
      | inr ne ↦ other_leaf u l ne
    ];
  }
    where
      here : Tells tree e.0
      here =
          let a : 0 < get_or now e.0.number 0 = (let x = some in omega arith) in
          let b : 0 < get_or (set now e.0.number (get_or now e.0.number 0 - 1)) e.0.number 0 = omega arith in
          let rest_of : Bool → Option VertexId = λ x. cond x (Some e.0) (cond (eqb e.0.number v.number) None (leaf_at g before e.0)) in
          f.leaves e.0 within ∙ ap rest_of (fell_no (get_or old e.0.number 0) (get_or now e.0.number 0) a ∙ sym (fell_no (get_or old e.0.number 0) (get_or (set now e.0.number (get_or now e.0.number 0 - 1)) e.0.number 0) b))

pub falling_end : (g : Arena) (v : VertexId) (old now : List ℕ) (left : List (VertexId × EdgeKind)) (before tree : List (Option VertexId)) → Falling g v old now left before tree → left ≡ [] → IsTaken g v old now before tree
falling_end g v old now left before tree f none = record { lowered = lowering_end g v old now left f.lowering none; tree = f.whole; leaves = f.leaves }

-- the order so far, its flags, the counters and the tree
pub record Turning (g : Arena) (flags : List Bool) (ids : List VertexId) (counters : List ℕ) (tree : List (Option VertexId)) : Type 0 where
  pub going : Going g flags ids
  pub counting : AreCounters g flags counters
  pub shown : ShowsReady g flags counters tree

pub turning_start : (g : Arena) (n : ℕ) (flags : List Bool) (ids : List VertexId) (counters : List ℕ) (tree : List (Option VertexId)) → n ≡ length g.vertices → flags ≡ replicate n false → ids ≡ [] → AreCounters g [] counters → ShowsZeros g counters tree → Turning g flags ids counters tree
turning_start g n flags ids counters tree e f none c z =
    let s = start_turns g n flags ids counters e f none c in
    let off : (u : VertexId) → is_flagged flags u ≡ false = λ u. ap (λ (l : List Bool). is_flagged l u) f ∙ none_flagged n u in
    record {
      going = s.0;
      counting = s.1;
      shown = record {
        whole = z.whole;
        leaves = λ u l. z.leaves u l ∙ ap (λ (b : Bool). cond (not b && eqb (get_or counters u.number 0) 0) (Some u) None) (sym (off u));
        done = λ u l t. absurd (let x : true ≡ false = sym t ∙ off u in cc);
      };
    }

-- the tree's first id goes next
module _ (g : Arena) (flags : List Bool) (ids : List VertexId) (counters : List ℕ) (tree : List (Option VertexId)) (so : Turning g flags ids counters tree) where
  ready_leaf : (u : VertexId) → u.number < length g.vertices → IsReadyAt g flags u → leaf_at g tree u ≡ Some u
  ready_leaf u l r =
      let w = ready_told g flags counters so.counting u l r in
      so.shown.leaves u l ∙ rw (w.0, eq-eqb (get_or counters u.number 0) 0 w.1) refl

  pub first_next : (v : VertexId) → tree_at tree 1 ≡ Some v → IsNextAt g flags v
  first_next v h =
      let l : v.number < length g.vertices = so.shown.whole.inside 1 v h in
      let at : leaf_at g tree v ≡ Some v = root_in g tree so.shown.whole v h in
      let b = (cond_some (not (is_flagged flags v) && eqb (get_or counters v.number 0) 0) v v (sym (so.shown.leaves v l) ∙ at)).0 in
      let p = and_parts (not (is_flagged flags v)) (eqb (get_or counters v.number 0) 0) b in
      record {
        there = l;
        ready = told_ready g flags counters so.counting v l (not_true (is_flagged flags v) p.0, eqb-true (get_or counters v.number 0) 0 p.1);
        first = λ u m r.
            let f = root_first g tree so.shown.whole u m (ready_leaf u m r) in
            subst (λ (x : VertexId). GoesFirst (vertex_of g x) (vertex_of g u)) (same_Some f.0 v (sym f.1 ∙ h)) f.2;
      }

  pub none_next : tree_at tree 1 ≡ None → (u : VertexId) → u.number < length g.vertices → ¬ IsReadyAt g flags u
  none_next h u l r = let f = root_first g tree so.shown.whole u l (ready_leaf u l r) in none-some f.0 (sym h ∙ f.1)

  pub turning_enough : (v : VertexId) → tree_at tree 1 ≡ Some v → (u : VertexId) → u.number < length g.vertices → between g v u ≤ get_or counters u.number 0
  turning_enough v h = turn_enough g flags ids counters v (so.going, so.counting) (first_next v h)

  module _ (v : VertexId) (n : IsNextAt g flags v) (new : List ℕ) (after : List (Option VertexId)) (taken : IsTaken g v counters new tree after) where
    zero_v : get_or counters v.number 0 ≡ 0
    zero_v = (ready_told g flags counters so.counting v n.there n.ready).1

    flag_v : is_flagged (set flags v.number true) v ≡ true
    flag_v = get_or-set_same flags v.number true false (let s = so.going.sized in let l = n.there in omega arith)

    flag_other : (u : VertexId) → (u.number ≡ v.number → ⊥) → is_flagged (set flags v.number true) u ≡ is_flagged flags u
    flag_other u ne = get_or-set_other flags v.number u.number true false ne

    fallen : (u : VertexId) → u.number < length g.vertices → get_or counters u.number 0 ≡ 0 → get_or new u.number 0 ≡ 0
    fallen u l z = let a = taken.lowered.lowered u l in omega arith

    shows : (u : VertexId) → Type 0
    shows u = leaf_at g after u ≡ cond (not (is_flagged (set flags v.number true) u) && eqb (get_or new u.number 0) 0) (Some u) None

    at_v : shows v
    unfolding shows
    at_v = taken.leaves v n.there ∙ rw (fell_zero (get_or counters v.number 0) (get_or new v.number 0) zero_v, eq-eqb v.number v.number refl, flag_v) refl

    at_flagged : (u : VertexId) → u.number < length g.vertices → (u.number ≡ v.number → ⊥) → is_flagged flags u ≡ true → shows u
    unfolding shows
    at_flagged u l ne t =
        taken.leaves u l ∙ rw (fell_zero (get_or counters u.number 0) (get_or new u.number 0) (so.shown.done u l t), ne_eqb u.number v.number ne, flag_other u ne, so.shown.leaves u l, t) refl

    at_zero : (u : VertexId) → u.number < length g.vertices → (u.number ≡ v.number → ⊥) → is_flagged flags u ≡ false → get_or counters u.number 0 ≡ 0 → shows u
    unfolding shows
    at_zero u l ne t z =
        taken.leaves u l ∙ rw (fell_zero (get_or counters u.number 0) (get_or new u.number 0) z, ne_eqb u.number v.number ne, flag_other u ne, so.shown.leaves u l, t, eq-eqb (get_or counters u.number 0) 0 z, eq-eqb (get_or new u.number 0) 0 (fallen u l z)) refl

    at_waiting : (u : VertexId) → u.number < length g.vertices → (u.number ≡ v.number → ⊥) → is_flagged flags u ≡ false → 0 < get_or counters u.number 0 → shows u
    unfolding shows
    at_waiting u l ne t pos =
        taken.leaves u l ∙ rw (lt-ltb 0 (get_or counters u.number 0) pos, ne_eqb u.number v.number ne, flag_other u ne, so.shown.leaves u l, t, ne_eqb (get_or counters u.number 0) 0 (λ e. omega arith)) refl

    shows_all : (u : VertexId) → u.number < length g.vertices → shows u
    shows_all u l = elim (cases_eq u.number v.number) [
      | inl e ↦ subst shows (ap vertex_id (sym e)) at_v
      | inr ne ↦ elim (cases_Bool (is_flagged flags u)) [
        | inl t ↦ at_flagged u l ne t
        | inr t ↦ elim (cases_eq (get_or counters u.number 0) 0) [
          | inl z ↦ at_zero u l ne t z
          | inr nz ↦ at_waiting u l ne t (omega arith)
        ]
      ]
    ]

    done_all : (u : VertexId) → u.number < length g.vertices → is_flagged (set flags v.number true) u ≡ true → get_or new u.number 0 ≡ 0
    done_all u l t = elim (cases_eq u.number v.number) [
      | inl e ↦ subst (λ (x : VertexId). get_or new x.number 0 ≡ 0) (ap vertex_id (sym e)) (fallen v n.there zero_v)
      | inr ne ↦ fallen u l (so.shown.done u l (sym (flag_other u ne) ∙ t))
    ]

    shown_more : ShowsReady g (set flags v.number true) new after
    unfolding shows
    shown_more = record { whole = taken.tree; leaves = shows_all; done = done_all }

    pub turning_more : IsArena g → (size size2 : ℕ) → size ≡ length counters → size2 ≡ length tree → Turning g (set flags v.number true) (ids ++ v ∷ []) (take size (new ++ drop (length new) counters)) (take size2 (after ++ drop (length after) tree))
    turning_more ok size size2 e e2 =
        let t = turn_more g flags ids counters v (so.going, so.counting) n ok size new (take size (new ++ drop (length new) counters)) e taken.lowered refl in
        let a = so.counting.sized in
        let b = taken.lowered.sized in
        let c = so.shown.whole.sized in
        let d = taken.tree.sized in
        let back : take size (new ++ drop (length new) counters) ≡ new = take_at new (drop (length new) counters) size (omega arith) in
        let back2 : take size2 (after ++ drop (length after) tree) ≡ after = take_at after (drop (length after) tree) size2 (omega arith) in
        record {
          going = t.0;
          counting = t.1;
          shown = rw (back, back2) shown_more;
        }
