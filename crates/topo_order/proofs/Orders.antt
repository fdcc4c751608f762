-- Orders and cycles of a graph.
use Rattle.std.proofs.Common.{◌≡◌, ℕ, zero, suc, ◌<◌, ◌⊎◌, List, [], ◌∷◌, ◌++◌, length, get_or, Contains, refl, sym, ap, ◌∙◌, subst, inl, inr, arith, append_assoc, append-nil, le_antisymm}
use Rattle.std.proofs.lemmas.List.Elements.{Contains-append_left, Contains-append_right, Contains-append_cases, Contains-push_cases}
use Rattle.flat_core.specs.Label.{step_id, wire_id}
use Rattle.graph_core.specs.declared.vertex.Vertex.{Vertex}
use Rattle.graph_core.specs.declared.vertex.Vertex.TheVariants.{Forward, Reverse, Free}
use Rattle.graph_core.specs.Digraph.{Digraph, IsReady, IsRun, IsLinearOrder, IsPathTo, IsCycle, IsAcyclic, IsSame}
use Rattle.topo_order.specs.ReadyOrder.{GoesFirst, AreNext, IsReadyOrder}
use Rattle.topo_order.specs.GivenCycle.{IsWayBack, start, back, Begins, IsGivenCycle}

pub contains_nil : {A : Type 0} (x : A) → ¬ Contains [] x
contains_nil x c = let l = c.1 in omega arith

pub contains_cases : {A : Type 0} (a x : A) (xs : List A) → Contains (a ∷ xs) x → (a ≡ x) ⊎ Contains xs x
contains_cases a x xs c = go c.0 c.1 c.2
  where
    go : (k : ℕ) → k < suc (length xs) → get_or (a ∷ xs) k x ≡ x → (a ≡ x) ⊎ Contains xs x
    go zero l e = inl e
    go (suc k) l e = inr (k, omega arith, e)

pub contains_here : {A : Type 0} (a x : A) (xs : List A) → a ≡ x → Contains (a ∷ xs) x
contains_here a x xs e = (0, omega arith, e)

pub contains_later : {A : Type 0} (a x : A) (xs : List A) → Contains xs x → Contains (a ∷ xs) x
contains_later a x xs c = (suc c.0, (let l = c.1 in omega arith), c.2)

next_runs : (g : Digraph) (taken order : List Vertex) → AreNext g taken order → IsRun g taken order
next_runs g taken [] n = tt
next_runs g taken (v ∷ rest) n = (n.0.ready, next_runs g (taken ++ v ∷ []) rest n.1)

pub ready_order_is_linear : (g : Digraph) (order : List Vertex) → IsReadyOrder g order → IsLinearOrder g order
ready_order_is_linear g order r = record { run = next_runs g [] order r.next; whole = r.whole }

-- each vertex of a path but its first has an edge from one before it
before_on : (g : Digraph) (v u : Vertex) (rest : List Vertex) → IsPathTo g v u rest → (x : Vertex) → (v ≡ x) ⊎ Contains rest x → (y : Vertex) × ((u ≡ y) ⊎ Contains rest y) × g.HasEdge y x
before_on g v u [] path x (inl e) = (u, inl refl, subst (λ (z : Vertex). g.HasEdge u z) e path)
before_on g v u [] path x (inr c) = absurd (contains_nil x c)
before_on g v u (w ∷ rest) path x which = go which (before_on g v w rest path.1 x)
  where
    later : (y : Vertex) → (w ≡ y) ⊎ Contains rest y → Contains (w ∷ rest) y
    later y (inl e) = contains_here w y rest e
    later y (inr c) = contains_later w y rest c

    go : (v ≡ x) ⊎ Contains (w ∷ rest) x → ((v ≡ x) ⊎ Contains rest x → (y : Vertex) × ((w ≡ y) ⊎ Contains rest y) × g.HasEdge y x) → (y : Vertex) × ((u ≡ y) ⊎ Contains (w ∷ rest) y) × g.HasEdge y x
    go (inl e) ih = let r = ih (inl e) in (r.0, inr (later r.0 r.1), r.2)
    go (inr c) ih = elim (contains_cases w x rest c) [
      | inl e ↦ (u, inl refl, subst (λ (z : Vertex). g.HasEdge u z) e path.0)
      | inr i ↦ let r = ih (inr i) in (r.0, inr (later r.0 r.1), r.2)
    ]

before_on_cycle : (g : Digraph) (cycle : List Vertex) → IsCycle g cycle → (x : Vertex) → Contains cycle x → (y : Vertex) × Contains cycle y × g.HasEdge y x
before_on_cycle g [] c x h = absurd c
before_on_cycle g (v ∷ rest) c x h =
    let r = before_on g v v rest c.1 x (contains_cases v x rest h) in
    (r.0, elim r.1 [ inl e ↦ contains_here v r.0 rest e | inr i ↦ contains_later v r.0 rest i ], r.2)

-- no vertex of a cycle is ever taken
never_taken : (g : Digraph) (cycle : List Vertex) → IsCycle g cycle → (taken order : List Vertex) → IsRun g taken order → ((x : Vertex) → Contains cycle x → ¬ Contains taken x) → (x : Vertex) → Contains cycle x → ¬ Contains (taken ++ order) x
never_taken g cycle c taken [] run none x on = subst (λ (l : List Vertex). ¬ Contains l x) (sym (append-nil taken)) (none x on)
never_taken g cycle c taken (v ∷ rest) run none x on =
    subst (λ (l : List Vertex). ¬ Contains l x) (append_assoc taken (v ∷ []) rest) (never_taken g cycle c (taken ++ v ∷ []) rest run.1 more x on)
  where
    more : (y : Vertex) → Contains cycle y → ¬ Contains (taken ++ v ∷ []) y
    more y on i = elim (Contains-push_cases taken v y i) [
      | inl t ↦ none y on t
      | inr e ↦ let p = before_on_cycle g cycle c y on in none p.0 p.1 (run.0.after p.0 (subst (λ (z : Vertex). g.HasEdge p.0 z) (sym e) p.2))
    ]

pub ordered_is_acyclic : (g : Digraph) (order : List Vertex) → IsLinearOrder g order → IsAcyclic g
ordered_is_acyclic g order o [] c = c
ordered_is_acyclic g order o (v ∷ rest) c =
    never_taken g (v ∷ rest) c [] order o.run (λ x on t. contains_nil x t) v (contains_here v v rest refl) (o.whole v (c.0 v (contains_here v v rest refl)))

goes_first_one : (v u : Vertex) → GoesFirst v u → GoesFirst u v → v ≡ u
goes_first_one (Free v) (Free u) a b = ap (λ (n : ℕ). Free (wire_id n)) (le_antisymm a b)
goes_first_one (Free v) (Reverse u) a b = absurd b
goes_first_one (Free v) (Forward u) a b = absurd b
goes_first_one (Reverse v) (Free u) a b = absurd a
goes_first_one (Reverse v) (Reverse u) a b = ap (λ (n : ℕ). Reverse (step_id n)) (le_antisymm b a)
goes_first_one (Reverse v) (Forward u) a b = absurd b
goes_first_one (Forward v) (Free u) a b = absurd a
goes_first_one (Forward v) (Reverse u) a b = absurd a
goes_first_one (Forward v) (Forward u) a b = ap (λ (n : ℕ). Forward (step_id n)) (le_antisymm a b)

one_from : (g : Digraph) (taken order other : List Vertex) → AreNext g taken order → AreNext g taken other → ((v : Vertex) → g.IsVertex v → Contains (taken ++ order) v) → ((v : Vertex) → g.IsVertex v → Contains (taken ++ other) v) → order ≡ other
one_from g taken [] [] n m all both = refl
one_from g taken [] (u ∷ other) n m all both =
    absurd (m.0.ready.fresh (subst (λ (l : List Vertex). Contains l u) (append-nil taken) (all u m.0.ready.vertex)))
one_from g taken (v ∷ order) [] n m all both =
    absurd (n.0.ready.fresh (subst (λ (l : List Vertex). Contains l v) (append-nil taken) (both v n.0.ready.vertex)))
one_from g taken (v ∷ order) (u ∷ other) n m all both =
    let e : v ≡ u = goes_first_one v u (n.0.first u m.0.ready) (m.0.first v n.0.ready) in
    let m' : AreNext g (taken ++ v ∷ []) other = subst (λ (x : Vertex). AreNext g (taken ++ x ∷ []) other) (sym e) m.1 in
    let ih : order ≡ other = one_from g (taken ++ v ∷ []) order other n.1 m'
    (λ x h. subst (λ (l : List Vertex). Contains l x) (sym (append_assoc taken (v ∷ []) order)) (all x h))
    (λ x h. subst (λ (y : Vertex). Contains ((taken ++ y ∷ []) ++ other) x) (sym e) (subst (λ (l : List Vertex). Contains l x) (sym (append_assoc taken (u ∷ []) other)) (both x h))) in
    ap (λ (x : Vertex). x ∷ order) e ∙ ap (λ (l : List Vertex). u ∷ l) ih

pub ready_order_is_one : (g : Digraph) (order other : List Vertex) → IsReadyOrder g order → IsReadyOrder g other → order ≡ other
ready_order_is_one g order other o p = one_from g [] order other o.next p.next o.whole p.whole

-- two paths in a row, and a path cut at a vertex
join : (g : Digraph) (v u w : Vertex) (near far : List Vertex) → IsPathTo g w u near → IsPathTo g v w far → IsPathTo g v u (near ++ w ∷ far)
join g v u w [] far a b = (a, b)
join g v u w (x ∷ near) far a b = (a.0, join g v x w near far a.1 b)

cut : (g : Digraph) (v u w : Vertex) (near far : List Vertex) → IsPathTo g v u (near ++ w ∷ far) → IsPathTo g w u near × IsPathTo g v w far
cut g v u w [] far p = (p.0, p.1)
cut g v u w (x ∷ near) far p = let r = cut g v x w near far p.1 in ((p.0, r.0), r.1)

-- a closed path may begin at any of its vertices
turn : (g : Digraph) (x : Vertex) (xs behind ahead : List Vertex) (least : Vertex) → x ∷ xs ≡ behind ++ least ∷ ahead → IsPathTo g x x xs → IsPathTo g least least (ahead ++ behind)
turn g x xs [] ahead least e p =
    let a : x ≡ least = cc in
    let b : xs ≡ ahead = cc in
    subst (λ (l : List Vertex). IsPathTo g least least l) (sym (append-nil ahead)) (subst (λ (l : List Vertex). IsPathTo g least least l) b (subst (λ (v : Vertex). IsPathTo g v v xs) a p))
turn g x xs (y ∷ behind) ahead least e p =
    let a : x ≡ y = cc in
    let b : xs ≡ behind ++ least ∷ ahead = cc in
    let q : IsPathTo g y y (behind ++ least ∷ ahead) = subst (λ (l : List Vertex). IsPathTo g y y l) b (subst (λ (v : Vertex). IsPathTo g v v xs) a p) in
    let c = cut g y y least behind ahead q in
    join g least least y ahead behind c.1 c.0

-- the way back, read forward, is a path
way_path : (g : Digraph) (taken : List Vertex) (u again : Vertex) (front lead : List Vertex) → IsWayBack g taken (u ∷ (front ++ again ∷ lead)) → IsPathTo g again u front
way_path g taken u again [] lead (back b f w) = b.edge
way_path g taken u again (x ∷ front) lead (back b f w) = (b.edge, way_path g taken x again front lead w)

way_vertices : (g : Digraph) (taken way : List Vertex) → IsWayBack g taken way → (x : Vertex) → Contains way x → g.IsVertex x
way_vertices g taken way (start {v = v} s) x c = elim (contains_cases v x [] c) [ inl e ↦ subst g.IsVertex e s.left.0 | inr i ↦ absurd (contains_nil x i) ]
way_vertices g taken way (back {u = u} {v = v} {rest = rest} b f w) x c = go (contains_cases u x (v ∷ rest) c) (way_vertices g taken (v ∷ rest) w x)
  where
    go : (u ≡ x) ⊎ Contains (v ∷ rest) x → (Contains (v ∷ rest) x → g.IsVertex x) → g.IsVertex x
    go (inl e) ih = subst g.IsVertex e b.left.0
    go (inr i) ih = ih i

closed_way : (g : Digraph) (taken : List Vertex) (newest again : Vertex) (front lead : List Vertex) → IsWayBack g taken (front ++ again ∷ lead) → Begins newest (front ++ again ∷ []) → g.HasEdge again newest → (behind ahead : List Vertex) (least : Vertex) → front ++ again ∷ [] ≡ behind ++ least ∷ ahead → IsPathTo g least least (ahead ++ behind)
closed_way g taken newest again [] lead w b e behind ahead least t =
    turn g again [] behind ahead least t (subst (λ (x : Vertex). g.HasEdge again x) b e)
closed_way g taken newest again (n ∷ front) lead w b e behind ahead least t =
    turn g n (front ++ again ∷ []) behind ahead least t (join g n n again front [] (way_path g taken n again front lead w) (subst (λ (x : Vertex). g.HasEdge again x) b e))

-- what stands on a turned list stood on the list
pub in_turn : (least : Vertex) (behind ahead : List Vertex) (v : Vertex) → Contains (least ∷ (ahead ++ behind)) v → Contains (behind ++ least ∷ ahead) v
in_turn least behind ahead v c = elim (contains_cases least v (ahead ++ behind) c) [
  | inl e ↦ Contains-append_right behind (least ∷ ahead) v (contains_here least v ahead e)
  | inr d ↦ elim (Contains-append_cases ahead behind v d) [
    | inl a ↦ Contains-append_right behind (least ∷ ahead) v (contains_later least v ahead a)
    | inr b ↦ Contains-append_left behind (least ∷ ahead) v b
  ]
]

pub given_cycle_is_cycle : (g : Digraph) (cycle : List Vertex) → IsGivenCycle g cycle → IsCycle g cycle
given_cycle_is_cycle g cycle c =
    subst (IsCycle g) (sym c.is)
    (λ v i. way_vertices g c.taken (c.front ++ c.again ∷ c.lead) c.way v (on v i), closed_way g c.taken c.newest c.again c.front c.lead c.way c.starts c.repeats.edge c.behind c.ahead c.least c.turned)
  where
    inside : (v : Vertex) → Contains (c.least ∷ (c.ahead ++ c.behind)) v → Contains (c.front ++ c.again ∷ []) v
    inside v i = subst (λ (l : List Vertex). Contains l v) (sym c.turned) (in_turn c.least c.behind c.ahead v i)

    on : (v : Vertex) → Contains (c.least ∷ (c.ahead ++ c.behind)) v → Contains (c.front ++ c.again ∷ c.lead) v
    on v i = subst (λ (l : List Vertex). Contains l v) (append_assoc c.front (c.again ∷ []) c.lead) (Contains-append_left (c.front ++ c.again ∷ []) c.lead v (inside v i))

-- equal graphs have the same orders
module _ (g h : Digraph) (same : IsSame g h) where
  same_ready : (taken : List Vertex) (v : Vertex) → IsReady g taken v → IsReady h taken v
  same_ready taken v r = record { vertex = (same.vertices v).0 r.vertex; fresh = r.fresh; after = λ u e. r.after u ((same.edges u v).1 e) }

  pub ready_back : (taken : List Vertex) (v : Vertex) → IsReady h taken v → IsReady g taken v
  ready_back taken v r = record { vertex = (same.vertices v).1 r.vertex; fresh = r.fresh; after = λ u e. r.after u ((same.edges u v).0 e) }

  pub same_next : (taken rest : List Vertex) → AreNext g taken rest → AreNext h taken rest
  same_next taken [] n = tt
  same_next taken (v ∷ rest) n = (record { ready = same_ready taken v n.0.ready; first = λ u r. n.0.first u (ready_back taken u r) }, same_next (taken ++ v ∷ []) rest n.1)

  pub same_order : (order : List Vertex) → IsReadyOrder g order → IsReadyOrder h order
  same_order order o = record { next = same_next [] order o.next; whole = λ v i. o.whole v ((same.vertices v).1 i) }

pub same_back : (g h : Digraph) → IsSame g h → IsSame h g
same_back g h same = record {
  vertices = λ v. ((same.vertices v).1, (same.vertices v).0);
  edges = λ u v. ((same.edges u v).1, (same.edges u v).0);
}
