-- The tree of the ready vertices.
use Rattle.std.proofs.Common.{◌≡◌, ℕ, zero, suc, ◌+◌, ◌-◌, ◌*◌, ◌/◌, ◌<◌, ◌≤◌, ◌⊎◌, cond, eqb, List, length, get_or, set, replicate, Option, Some, None, refl, sym, ap, ◌∙◌, subst, inl, inr, arith, length-set, get_or-set_same, get_or-set_other}
use Rattle.std.proofs.lemmas.Bool.{cases_eq, cases_lt, eq-eqb, ne_eqb}
use Rattle.std.proofs.lemmas.List.{length-replicate}
use Rattle.std.proofs.lemmas.Option.{none-some, same_Some}
use Rattle.graph_core.specs.declared.vertex.Vertex.{Vertex}
use Rattle.graph_core.specs.declared.vertex.Vertex.TheVariants.{Forward, Reverse, Free}
use Rattle.graph_core.specs.declared.graph.VertexId.{VertexId}
use Rattle.graph_core.specs.Arena.{Arena}
use Rattle.topo_order.specs.ReadyOrder.{GoesFirst}
use Rattle.topo_order.specs.Flags.{vertex_of}
use Rattle.topo_order.specs.ReadyTree.{tree_at, leaf_at, IsFirstOf, IsTree, SetsLeaf, ShowsZeros}
use Rattle.topo_order.proofs.Best.{vertex_id, goes_first_trans}

goes_first_refl : (v : Vertex) → GoesFirst v v
goes_first_refl (Free v) = omega arith
goes_first_refl (Reverse v) = omega arith
goes_first_refl (Forward v) = omega arith

-- the first of two
pub first_none : (g : Arena) (a : Option VertexId) → IsFirstOf g a None a
first_none g a = record {
  one = inl refl;
  goes = λ u h. elim h [ inl e ↦ (u, e, goes_first_refl (vertex_of g u)) | inr e ↦ absurd (none-some u e) ];
}

pub first_some : (g : Arena) (a : Option VertexId) (v r : VertexId) → (r ≡ v) ⊎ (a ≡ Some r) → GoesFirst (vertex_of g r) (vertex_of g v) → ((b : VertexId) → a ≡ Some b → GoesFirst (vertex_of g r) (vertex_of g b)) → IsFirstOf g a (Some v) (Some r)
first_some g a v r which now before = record {
  one = elim which [ inl e ↦ inr (ap (λ (x : VertexId). Some x) e) | inr e ↦ inl (sym e) ];
  goes = λ u h. elim h [
    | inl e ↦ (r, refl, before u e)
    | inr e ↦ (r, refl, subst (λ (x : VertexId). GoesFirst (vertex_of g r) (vertex_of g x)) (same_Some v u e) now)
  ];
}

-- a place is below one that has half its number
halves : (k : ℕ) → (k ≡ 2 * (k / 2)) ⊎ (k ≡ 2 * (k / 2) + 1)
halves k = elim (cases_eq k (2 * (k / 2))) [ inl e ↦ inl e | inr ne ↦ inr (omega arith) ]

-- place 1 has the one that goes first
module _ (g : Arena) (tree : List (Option VertexId)) (t : IsTree g tree 0) where
  above : (k : ℕ) → 1 < k → k < 2 * length g.vertices → (u : VertexId) → tree_at tree k ≡ Some u → (v : VertexId) × (tree_at tree (k / 2) ≡ Some v) × GoesFirst (vertex_of g v) (vertex_of g u)
  above k pos lt u h =
      (t.node (k / 2) (omega arith) (omega arith) (λ e. omega arith)).goes u
      (elim (halves k) [ inl e ↦ inl (ap (tree_at tree) (sym e) ∙ h) | inr e ↦ inr (ap (tree_at tree) (sym e) ∙ h) ])

  up : (fuel k : ℕ) → k ≤ fuel → 0 < k → k < 2 * length g.vertices → (u : VertexId) → tree_at tree k ≡ Some u → (v : VertexId) × (tree_at tree 1 ≡ Some v) × GoesFirst (vertex_of g v) (vertex_of g u)
  up zero k le pos lt u h = absurd (omega arith)
  up (suc fuel) k le pos lt u h = elim (cases_eq k 1) [
    | inl e ↦ (u, ap (tree_at tree) (sym e) ∙ h, goes_first_refl (vertex_of g u))
    | inr ne ↦
        let a = above k (omega arith) lt u h in
        let r = up fuel (k / 2) (omega arith) (omega arith) (omega arith) a.0 a.1 in
        (r.0, r.1, goes_first_trans (vertex_of g r.0) (vertex_of g a.0) (vertex_of g u) r.2 a.2)
  ]

  pub root_first : (u : VertexId) → u.number < length g.vertices → leaf_at g tree u ≡ Some u → (v : VertexId) × (tree_at tree 1 ≡ Some v) × GoesFirst (vertex_of g v) (vertex_of g u)
  root_first u l h = up (length g.vertices + u.number) (length g.vertices + u.number) (omega arith) (omega arith) (omega arith) u h

  down : (fuel k : ℕ) → 2 * length g.vertices ≤ k + fuel → 0 < k → k < 2 * length g.vertices → (v : VertexId) → tree_at tree k ≡ Some v → leaf_at g tree v ≡ Some v
  down zero k le pos lt v h = absurd (omega arith)
  down (suc fuel) k le pos lt v h = elim (cases_lt k (length g.vertices)) [
    | inl l ↦ elim (t.node k pos l (λ e. omega arith)).one [
      | inl e ↦ down fuel (2 * k) (omega arith) (omega arith) (omega arith) v (sym e ∙ h)
      | inr e ↦ down fuel (2 * k + 1) (omega arith) (omega arith) (omega arith) v (sym e ∙ h)
    ]
    | inr l ↦
        let w : VertexId = vertex_id (k - length g.vertices) in
        let place : length g.vertices + (k - length g.vertices) ≡ k = omega arith in
        let at : leaf_at g tree w ≡ Some v = ap (tree_at tree) place ∙ h in
        let same : v ≡ w = t.leaf w v (omega arith) at in
        subst (λ (x : VertexId). leaf_at g tree x ≡ Some v) (sym same) at
  ]

  pub root_in : (v : VertexId) → tree_at tree 1 ≡ Some v → leaf_at g tree v ≡ Some v
  root_in v h = let l = t.inside 1 v h in down (2 * length g.vertices) 1 (omega arith) (omega arith) (omega arith) v h

-- a leaf is written
module _ (g : Arena) (tree : List (Option VertexId)) (v : VertexId) (now : Option VertexId) (there : v.number < length g.vertices) (fits : (u : VertexId) → now ≡ Some u → u ≡ v) (t : IsTree g tree 0) where
  new : List (Option VertexId)
  new = set tree (length g.vertices + v.number) now

  same_at : tree_at new (length g.vertices + v.number) ≡ now
  unfolding new
  same_at = get_or-set_same tree (length g.vertices + v.number) now None (let s = t.sized in omega arith)

  other_at : (k : ℕ) → (k ≡ length g.vertices + v.number → ⊥) → tree_at new k ≡ tree_at tree k
  unfolding new
  other_at k ne = get_or-set_other tree (length g.vertices + v.number) k now None ne

  size : length new ≡ 2 * length g.vertices
  unfolding new
  size = length-set tree (length g.vertices + v.number) now ∙ t.sized

  inside : (k : ℕ) (u : VertexId) → tree_at new k ≡ Some u → u.number < length g.vertices
  inside k u h = elim (cases_eq k (length g.vertices + v.number)) [
    | inl e ↦ let s : u ≡ v = fits u (sym same_at ∙ ap (tree_at new) (sym e) ∙ h) in subst (λ (x : VertexId). x.number < length g.vertices) (sym s) there
    | inr ne ↦ t.inside k u (sym (other_at k ne) ∙ h)
  ]

  leaf : (w u : VertexId) → w.number < length g.vertices → leaf_at g new w ≡ Some u → u ≡ w
  leaf w u l h = elim (cases_eq w.number v.number) [
    | inl e ↦ let s : u ≡ v = fits u (sym same_at ∙ ap (λ (n : ℕ). tree_at new (length g.vertices + n)) (sym e) ∙ h) in s ∙ ap vertex_id (sym e)
    | inr ne ↦ t.leaf w u l (sym (other_at (length g.vertices + w.number) (λ e. ne (omega arith))) ∙ h)
  ]

  node : (k : ℕ) → 0 < k → k < length g.vertices → (k ≡ (length g.vertices + v.number) / 2 → ⊥) → IsFirstOf g (tree_at new (2 * k)) (tree_at new (2 * k + 1)) (tree_at new k)
  node k pos lt ns =
      let a : tree_at new (2 * k) ≡ tree_at tree (2 * k) = other_at (2 * k) (λ e. ns (omega arith)) in
      let b : tree_at new (2 * k + 1) ≡ tree_at tree (2 * k + 1) = other_at (2 * k + 1) (λ e. ns (omega arith)) in
      let c : tree_at new k ≡ tree_at tree k = other_at k (λ e. omega arith) in
      rw (a, b, c) (t.node k pos lt (λ e. omega arith))

  sets : SetsLeaf g v now tree new
  sets u l = elim (cases_eq u.number v.number) [
    | inl e ↦ rw (eq-eqb u.number v.number e) (ap (λ (n : ℕ). tree_at new (length g.vertices + n)) e ∙ same_at)
    | inr ne ↦ rw (ne_eqb u.number v.number ne) (other_at (length g.vertices + u.number) (λ e. ne (omega arith)))
  ]

-- the places above a leaf are made again, one after another
pub record Climbing (g : Arena) (v : VertexId) (now : Option VertexId) (old tree : List (Option VertexId)) (place : ℕ) : Type 0 where
  pub whole : IsTree g tree place
  pub below : place < length g.vertices
  pub leaves : SetsLeaf g v now old tree

pub climb_start : (g : Arena) (tree : List (Option VertexId)) (v : VertexId) (now : Option VertexId) (n : ℕ) → n ≡ length g.vertices → v.number < length g.vertices → ((u : VertexId) → now ≡ Some u → u ≡ v) → IsTree g tree 0 → Climbing g v now tree (set tree (n + v.number) now) ((n + v.number) / 2)
unfolding new
climb_start g tree v now n is there fits t = subst (λ (m : ℕ). Climbing g v now tree (set tree (m + v.number) now) ((m + v.number) / 2)) (sym is) (record {
  whole = record { sized = size g tree v now there fits t; inside = inside g tree v now there fits t; leaf = leaf g tree v now there fits t; node = node g tree v now there fits t };
  below = omega arith;
  leaves = sets g tree v now there fits t;
})

module _ (g : Arena) (v : VertexId) (now : Option VertexId) (old tree : List (Option VertexId)) (place : ℕ) (c : Climbing g v now old tree place) (pos : 0 < place) (r : Option VertexId) (is : IsFirstOf g (tree_at tree (2 * place)) (tree_at tree (2 * place + 1)) r) where
  made : List (Option VertexId)
  made = set tree place r

  made_at : tree_at made place ≡ r
  unfolding made
  made_at = get_or-set_same tree place r None (let s = c.whole.sized in let b = c.below in omega arith)

  kept_at : (k : ℕ) → (k ≡ place → ⊥) → tree_at made k ≡ tree_at tree k
  unfolding made
  kept_at k ne = get_or-set_other tree place k r None ne

  made_inside : (k : ℕ) (u : VertexId) → tree_at made k ≡ Some u → u.number < length g.vertices
  made_inside k u h = elim (cases_eq k place) [
    | inl e ↦ let s : r ≡ Some u = sym made_at ∙ ap (tree_at made) (sym e) ∙ h in elim is.one [
      | inl a ↦ c.whole.inside (2 * place) u (sym a ∙ s)
      | inr b ↦ c.whole.inside (2 * place + 1) u (sym b ∙ s)
    ]
    | inr ne ↦ c.whole.inside k u (sym (kept_at k ne) ∙ h)
  ]

  made_node : (k : ℕ) → 0 < k → k < length g.vertices → (k ≡ place / 2 → ⊥) → IsFirstOf g (tree_at made (2 * k)) (tree_at made (2 * k + 1)) (tree_at made k)
  made_node k p lt ns =
      let a : tree_at made (2 * k) ≡ tree_at tree (2 * k) = kept_at (2 * k) (λ e. ns (omega arith)) in
      let b : tree_at made (2 * k + 1) ≡ tree_at tree (2 * k + 1) = kept_at (2 * k + 1) (λ e. ns (omega arith)) in
      elim (cases_eq k place) [
        | inl e ↦
            let here : tree_at made k ≡ r = ap (tree_at made) e ∙ made_at in
            rw (a, b, here) (subst (λ (n : ℕ). IsFirstOf g (tree_at tree (2 * n)) (tree_at tree (2 * n + 1)) r) (sym e) is)
        | inr ne ↦
            let here : tree_at made k ≡ tree_at tree k = kept_at k ne in
            rw (a, b, here) (c.whole.node k p lt ne)
      ]

  leaf_kept : (u : VertexId) → leaf_at g made u ≡ leaf_at g tree u
  leaf_kept u = kept_at (length g.vertices + u.number) (λ e. let b = c.below in omega arith)

  pub climb_more : Climbing g v now old (set tree place r) (place / 2)
  unfolding made
  climb_more = record {
    whole = record {
      sized = length-set tree place r ∙ c.whole.sized;
      inside = made_inside;
      leaf = λ w u l h. c.whole.leaf w u l (sym (leaf_kept w) ∙ h);
      node = made_node;
    };
    below = let b = c.below in omega arith;
    leaves = λ u l. leaf_kept u ∙ c.leaves u l;
  }

pub climb_end : (g : Arena) (v : VertexId) (now : Option VertexId) (old tree : List (Option VertexId)) (place : ℕ) → Climbing g v now old tree place → place ≡ 0 → IsTree g tree 0
climb_end g v now old tree place c z = subst (IsTree g tree) z c.whole

-- a tree without vertices
pub none_at : (n k : ℕ) → tree_at (replicate n None) k ≡ None
none_at zero k = refl
none_at (suc n) zero = refl
none_at (suc n) (suc k) = none_at n k

pub empty_tree : (g : Arena) (n : ℕ) → n ≡ 2 * length g.vertices → IsTree g (replicate n None) 0
empty_tree g n is = record {
  sized = length-replicate n None ∙ is;
  inside = λ k u h. absurd (none-some u (sym (none_at n k) ∙ h));
  leaf = λ v u l h. absurd (none-some u (sym (none_at n (length g.vertices + v.number)) ∙ h));
  node = λ k p lt ns. rw (none_at n (2 * k), none_at n (2 * k + 1), none_at n k) (first_none g None);
}

-- the leaves of the first ids whose counter is 0
pub record Zeroing (g : Arena) (counters : List ℕ) (n : ℕ) (tree : List (Option VertexId)) : Type 0 where
  pub whole : IsTree g tree 0
  pub done : (u : VertexId) → u.number < n → u.number < length g.vertices → leaf_at g tree u ≡ cond (eqb (get_or counters u.number 0) 0) (Some u) None
  pub left : (u : VertexId) → n ≤ u.number → u.number < length g.vertices → leaf_at g tree u ≡ None

pub zero_start : (g : Arena) (counters : List ℕ) (tree : List (Option VertexId)) → IsTree g tree 0 → ((u : VertexId) → u.number < length g.vertices → leaf_at g tree u ≡ None) → Zeroing g counters 0 tree
zero_start g counters tree t none = record { whole = t; done = λ u l m. absurd (omega arith); left = λ u l m. none u m }

pub zero_skip : (g : Arena) (counters : List ℕ) (n : ℕ) (tree : List (Option VertexId)) → Zeroing g counters n tree → (get_or counters n 0 ≡ 0 → ⊥) → Zeroing g counters (n + 1) tree
zero_skip g counters n tree z ne = record {
  whole = z.whole;
  done = λ u l m. elim (cases_lt u.number n) [
    | inl b ↦ z.done u b m
    | inr b ↦ let e : u.number ≡ n = omega arith in
        rw (ne_eqb (get_or counters u.number 0) 0 (λ q. ne (ap (λ (k : ℕ). get_or counters k 0) (sym e) ∙ q))) (z.left u b m)
  ];
  left = λ u l m. z.left u (omega arith) m;
}

pub zero_put : (g : Arena) (counters : List ℕ) (n : ℕ) (old tree : List (Option VertexId)) → Zeroing g counters n old → get_or counters n 0 ≡ 0 → IsTree g tree 0 → SetsLeaf g (vertex_id n) (Some (vertex_id n)) old tree → Zeroing g counters (n + 1) tree
zero_put g counters n old tree z is t sets = record {
  whole = t;
  done = λ u l m. elim (cases_lt u.number n) [
    | inl b ↦ sets u m ∙ rw (ne_eqb u.number n (λ e. omega arith)) (z.done u b m)
    | inr b ↦ let e : u.number ≡ n = omega arith in
        sets u m ∙ rw (eq-eqb u.number n e, eq-eqb (get_or counters u.number 0) 0 (ap (λ (k : ℕ). get_or counters k 0) e ∙ is)) (ap (λ (k : ℕ). Some (vertex_id k)) (sym e))
  ];
  left = λ u l m. sets u m ∙ rw (ne_eqb u.number n (λ e. omega arith)) (z.left u (omega arith) m);
}

pub zero_end : (g : Arena) (counters : List ℕ) (n : ℕ) (tree : List (Option VertexId)) → Zeroing g counters n tree → n ≡ length g.vertices → ShowsZeros g counters tree
zero_end g counters n tree z is = record { whole = z.whole; leaves = λ u l. z.done u (omega arith) l }
