-- A graph whose vertices are listed and whose edges are decided has a ready order or a cycle.
use Rattle.std.proofs.Common.{◌≡◌, ℕ, zero, suc, ◌≤◌, ◌⊎◌, List, [], ◌∷◌, ◌++◌, length, Contains, sym, subst, inl, inr, arith, append_assoc, append-nil, le_refl}
use Rattle.std.proofs.lemmas.Bool.{cases_lt}
use Rattle.std.proofs.lemmas.List.Elements.{Contains-append_left, Contains-append_right}
use Rattle.graph_core.specs.declared.vertex.Vertex.{Vertex}
use Rattle.graph_core.specs.declared.vertex.Vertex.TheVariants.{Forward, Reverse, Free}
use Rattle.graph_core.specs.Digraph.{Digraph, IsReady, IsRun, IsLinearOrder, IsPathTo, IsCycle, IsAcyclic}
use Rattle.topo_order.specs.ReadyOrder.{GoesFirst, AreNext, IsReadyOrder}
use Rattle.topo_order.specs.GivenCycle.{IsLeft}
use Rattle.topo_order.proofs.Orders.{contains_nil, contains_cases, contains_here}
use Rattle.topo_order.proofs.Best.{goes_first_trans}
use Rattle.reqomp.proofs.Search.{Decided, both, denied, find_in, Without, without, in_list}

goes_first_self : (v : Vertex) → GoesFirst v v
goes_first_self (Forward s) = le_refl s.number
goes_first_self (Reverse s) = le_refl s.number
goes_first_self (Free w) = le_refl w.number

one_is_less : (m n : ℕ) → (m ≤ n) ⊎ (n ≤ m)
one_is_less m n = elim (cases_lt m n) [ inl l ↦ inl (omega arith) | inr l ↦ inr l ]

one_goes_first : (v u : Vertex) → GoesFirst v u ⊎ GoesFirst u v
one_goes_first (Free v) (Free u) = one_is_less v.number u.number
one_goes_first (Free v) (Reverse u) = inl tt
one_goes_first (Free v) (Forward u) = inl tt
one_goes_first (Reverse v) (Free u) = inr tt
one_goes_first (Reverse v) (Reverse u) = one_is_less u.number v.number
one_goes_first (Reverse v) (Forward u) = inl tt
one_goes_first (Forward v) (Free u) = inr tt
one_goes_first (Forward v) (Reverse u) = inr tt
one_goes_first (Forward v) (Forward u) = one_is_less v.number u.number

-- the vertices are among those of a list, and it is decided which are and which edges there are
pub record IsFinite (g : Digraph) (all : List Vertex) : Type 0 where
  pub each : (v : Vertex) → g.IsVertex v → Contains all v
  pub vertex : (v : Vertex) → Decided (g.IsVertex v)
  pub edge : (u v : Vertex) → Decided (g.HasEdge u v)
  pub from : (u v : Vertex) → g.HasEdge u v → g.IsVertex u

module _ (g : Digraph) (all : List Vertex) (fin : IsFinite g all) where
  abbrev Cycle : Type 0
  Cycle = (cycle : List Vertex) × IsCycle g cycle

  left : (taken : List Vertex) (v : Vertex) → Decided (IsLeft g taken v)
  left taken v = both (fin.vertex v) (denied (in_list taken v))

  -- a vertex of which all before it are taken
  all_before : (taken : List Vertex) (v : Vertex) → ((u : Vertex) → Contains all u → ¬ (g.HasEdge u v × ¬ Contains taken u)) → (u : Vertex) → g.HasEdge u v → Contains taken u
  all_before taken v none u e = elim (in_list taken u) [
    | inl c ↦ c
    | inr n ↦ absurd (none u (fin.each u (fin.from u v e)) (e, n))
  ]

  -- a vertex that is left is ready, or another one that is left has an edge to it
  ready_or_behind : (taken : List Vertex) (v : Vertex) → IsLeft g taken v → IsReady g taken v ⊎ ((u : Vertex) × IsLeft g taken u × g.HasEdge u v)
  ready_or_behind taken v l = elim (find_in (λ u. g.HasEdge u v × ¬ Contains taken u) (λ u. both (fin.edge u v) (denied (in_list taken u))) all) [
    | inl r ↦ inr (r.0, (fin.from r.0 v r.2.0, r.2.1), r.2.0)
    | inr none ↦ inl (record { vertex = l.0; fresh = l.1; after = all_before taken v none })
  ]

  ready : (taken : List Vertex) (v : Vertex) → Decided (IsReady g taken v)
  ready taken v = elim (left taken v) [
    | inl l ↦ elim (ready_or_behind taken v l) [ inl r ↦ inl r | inr b ↦ inr (λ r. b.1.1 (r.after b.0 b.2)) ]
    | inr n ↦ inr (λ r. n (r.vertex, r.fresh))
  ]

  record First (taken xs : List Vertex) : Type 0 where
    v : Vertex
    able : IsReady g taken v
    first : (u : Vertex) → Contains xs u → IsReady g taken u → GoesFirst v u

  abbrev NoneReady : List Vertex → List Vertex → Type 0
  NoneReady taken xs = (u : Vertex) → Contains xs u → ¬ IsReady g taken u

  first_of : (taken xs : List Vertex) → First taken xs ⊎ NoneReady taken xs
  first_of taken [] = inr (λ u c. absurd (contains_nil u c))
  first_of taken (a ∷ xs) = go (ready taken a) (first_of taken xs)
    where
      go : Decided (IsReady g taken a) → First taken xs ⊎ NoneReady taken xs → First taken (a ∷ xs) ⊎ NoneReady taken (a ∷ xs)
      go (inr n) (inl r) = inl (record {
        v = r.v;
        able = r.able;
        first = λ u c k. elim (contains_cases a u xs c) [ inl e ↦ absurd (n (subst (IsReady g taken) (sym e) k)) | inr i ↦ r.first u i k ];
      })
      go (inr n) (inr none) = inr (λ u c k. elim (contains_cases a u xs c) [ inl e ↦ n (subst (IsReady g taken) (sym e) k) | inr i ↦ none u i k ])
      go (inl y) (inr none) = inl (record {
        v = a;
        able = y;
        first = λ u c k. elim (contains_cases a u xs c) [ inl e ↦ subst (GoesFirst a) e (goes_first_self a) | inr i ↦ absurd (none u i k) ];
      })
      go (inl y) (inl r) = elim (one_goes_first a r.v) [
        | inl p ↦ inl (record {
          v = a;
          able = y;
          first = λ u c k. elim (contains_cases a u xs c) [ inl e ↦ subst (GoesFirst a) e (goes_first_self a) | inr i ↦ goes_first_trans a r.v u p (r.first u i k) ];
        })
        | inr q ↦ inl (record {
          v = r.v;
          able = r.able;
          first = λ u c k. elim (contains_cases a u xs c) [ inl e ↦ subst (GoesFirst r.v) e q | inr i ↦ r.first u i k ];
        })
      ]

  -- from v some edges lead to x
  abbrev Reaches : Vertex → Vertex → Type 0
  Reaches v x = (x ≡ v) ⊎ ((middle : List Vertex) × ((y : Vertex) → Contains middle y → g.IsVertex y) × IsPathTo g x v middle)

  further : (u v x : Vertex) → g.HasEdge u v → g.IsVertex v → Reaches v x → Reaches u x
  further u v x e h (inl s) = inr ([], (λ y c. absurd (contains_nil y c)), subst (g.HasEdge u) (sym s) e)
  further u v x e h (inr r) = inr (
    v ∷ r.0,
    (λ y c. elim (contains_cases v y r.0 c) [ inl s ↦ subst g.IsVertex s h | inr i ↦ r.1 y i ]),
    (e, r.2),
  )

  closed : (u v : Vertex) → g.IsVertex u → g.IsVertex v → g.HasEdge u v → Reaches v u → Cycle
  closed u v hu hv e (inl s) = (
    v ∷ [],
    (
      (λ y c. elim (contains_cases v y [] c) [ inl t ↦ subst g.IsVertex t hv | inr i ↦ absurd (contains_nil y i) ]),
      subst (λ (x : Vertex). g.HasEdge x v) s e,
    ),
  )
  closed u v hu hv e (inr r) = (
    u ∷ (v ∷ r.0),
    (
      (λ y c. elim (contains_cases u y (v ∷ r.0) c) [
        | inl t ↦ subst g.IsVertex t hu
        | inr i ↦ elim (contains_cases v y r.0 i) [ inl t ↦ subst g.IsVertex t hv | inr j ↦ r.1 y j ]
      ]),
      (e, r.2),
    ),
  )

  seen_further : (taken unseen : List Vertex) (u v : Vertex) → g.IsVertex v → g.HasEdge u v → (w : Without unseen u) → ((x : Vertex) → IsLeft g taken x → Contains unseen x ⊎ Reaches v x) → (x : Vertex) → IsLeft g taken x → Contains w.rest x ⊎ Reaches u x
  seen_further taken unseen u v h e w seen x lx = elim (seen x lx) [
    | inl d ↦ elim (w.others x d) [ inl t ↦ inr (inl (sym t)) | inr i ↦ inl i ]
    | inr r ↦ inr (further u v x e h r)
  ]

  -- the way back from a vertex that is left, where none is ready, comes to a vertex again
  way_back : (n : ℕ) (taken unseen : List Vertex) → ((v : Vertex) → ¬ IsReady g taken v) → (v : Vertex) → length unseen ≤ n → IsLeft g taken v → ((x : Vertex) → IsLeft g taken x → Contains unseen x ⊎ Reaches v x) → Cycle
  way_back zero taken unseen stuck v few l seen = elim (ready_or_behind taken v l) [
    | inl r ↦ absurd (stuck v r)
    | inr b ↦ elim (seen b.0 b.1) [
      | inl c ↦ let w = without unseen b.0 c in let s = w.shorter in absurd (omega arith)
      | inr r ↦ closed b.0 v b.1.0 l.0 b.2 r
    ]
  ]
  way_back (suc n) taken unseen stuck v few l seen = elim (ready_or_behind taken v l) [
    | inl r ↦ absurd (stuck v r)
    | inr b ↦ elim (seen b.0 b.1) [
      | inl c ↦ let s = (without unseen b.0 c).shorter in way_back n taken (without unseen b.0 c).rest stuck b.0 (omega arith) b.1 (seen_further taken unseen b.0 v l.0 b.2 (without unseen b.0 c) seen)
      | inr r ↦ closed b.0 v b.1.0 l.0 b.2 r
    ]
  ]

  abbrev Rest : List Vertex → Type 0
  Rest taken = (rest : List Vertex) × AreNext g taken rest × ((v : Vertex) → g.IsVertex v → Contains (taken ++ rest) v)

  -- where none is ready, all are taken or there is a cycle
  at_end : (taken : List Vertex) → NoneReady taken all → Rest taken ⊎ Cycle
  at_end taken none = elim (find_in (IsLeft g taken) (left taken) all) [
    | inl r ↦ inr (way_back (length all) taken all (λ v k. none v (fin.each v k.vertex) k) r.0 (le_refl (length all)) r.2 (λ x lx. inl (fin.each x lx.0)))
    | inr nothing ↦ inl ([], tt, λ v h. subst (λ (l : List Vertex). Contains l v) (sym (append-nil taken)) (elim (in_list taken v) [ inl c ↦ c | inr n ↦ absurd (nothing v (fin.each v h) (h, n)) ]))
  ]

  abbrev Waits : List Vertex → List Vertex → Type 0
  Waits taken waiting = (v : Vertex) → IsLeft g taken v → Contains waiting v

  waits_less : (taken waiting : List Vertex) (v : Vertex) → (w : Without waiting v) → Waits taken waiting → Waits (taken ++ v ∷ []) w.rest
  waits_less taken waiting v w each x lx = elim (w.others x (each x (lx.0, λ t. lx.1 (Contains-append_left taken (v ∷ []) x t)))) [
    | inl t ↦ absurd (lx.1 (Contains-append_right taken (v ∷ []) x (contains_here v x [] t)))
    | inr i ↦ i
  ]

  more : (taken : List Vertex) → (r : First taken all) → Rest (taken ++ r.v ∷ []) ⊎ Cycle → Rest taken ⊎ Cycle
  more taken r (inl o) = inl (
    r.v ∷ o.0,
    (record { ready = r.able; first = λ u k. r.first u (fin.each u k.vertex) k }, o.1),
    λ x h. subst (λ (l : List Vertex). Contains l x) (append_assoc taken (r.v ∷ []) o.0) (o.2 x h),
  )
  more taken r (inr c) = inr c

  waits_for : (taken waiting : List Vertex) → Waits taken waiting → (r : First taken all) → Without waiting r.v
  waits_for taken waiting each r = without waiting r.v (each r.v (r.able.vertex, r.able.fresh))

  -- after some vertices were taken in their turn, the others follow or there is a cycle
  grow : (n : ℕ) (taken waiting : List Vertex) → length waiting ≤ n → Waits taken waiting → Rest taken ⊎ Cycle
  grow zero taken waiting few each = elim (first_of taken all) [
    | inl r ↦ let s = (waits_for taken waiting each r).shorter in absurd (omega arith)
    | inr none ↦ at_end taken none
  ]
  grow (suc n) taken waiting few each = elim (first_of taken all) [
    | inl r ↦
        let w = waits_for taken waiting each r in
        let s = w.shorter in
        more taken r (grow n (taken ++ r.v ∷ []) w.rest (omega arith) (waits_less taken waiting r.v w each))
    | inr none ↦ at_end taken none
  ]

  -- vertices that are taken in their turn are no more than those that wait
  run_within : (taken order waiting : List Vertex) → IsRun g taken order → Waits taken waiting → length order ≤ length waiting
  run_within taken [] waiting run each = omega arith
  run_within taken (v ∷ rest) waiting run each =
      let w = without waiting v (each v (run.0.vertex, run.0.fresh)) in
      let s = w.shorter in
      let r = run_within (taken ++ v ∷ []) rest w.rest run.1 (waits_less taken waiting v w each) in
      omega arith

  pub order_within : (order : List Vertex) → IsLinearOrder g order → length order ≤ length all
  order_within order o = run_within [] order all o.run (λ v l. fin.each v l.0)

  pub acyclic_ordered : IsAcyclic g → (order : List Vertex) × IsReadyOrder g order
  acyclic_ordered none = elim (grow (length all) [] all (le_refl (length all)) (λ v l. fin.each v l.0)) [
    | inl r ↦ (r.0, record { next = r.1; whole = r.2 })
    | inr c ↦ absurd (none c.0 c.1)
  ]
