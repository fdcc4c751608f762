-- The stages of the Free vertices, and the whole.
use Rattle.std.proofs.Common.{◌≡◌, ℕ, ◌+◌, ◌-◌, ◌<◌, ◌≤◌, ◌⊎◌, ◌↔◌, Bool, true, false, cond, ◌&&◌, ltb, List, [], ◌∷◌, ◌++◌, map, length, slice_set, Contains, sym, ap, ◌∙◌, subst, inl, inr, arith, append-nil, append_assoc}
use Rattle.std.proofs.Math.Bool.{and-true, and-false}
use Rattle.std.proofs.Math.Seq.{take-length}
use Rattle.std.proofs.Math.ListN.{get_or-eq_default}
use Rattle.std.proofs.lemmas.Bool.{cases_Bool, cases_lt, cases_eq, both_ways, le-ltb, lt-ltb, ne_eqb}
use Rattle.flat_core.specs.declared.step.Step.{Step}
use Rattle.flat_core.specs.declared.step.WireId.{WireId}
use Rattle.flat_core.specs.Form.{FlatForm, WireForm}
use Rattle.flat_core.specs.Label.{same_wire, wire_id, no_wire}
use Rattle.flat_core.specs.Ends.{freed, is_freed}
use Rattle.flat_core.proofs.Labels.{same_wire-refl}
use Rattle.graph_core.specs.declared.vertex.Vertex.{Vertex}
use Rattle.graph_core.specs.declared.vertex.Vertex.TheVariants.{Forward, Reverse, Free}
use Rattle.graph_core.specs.declared.vertex.EdgeKind.{EdgeKind}
use Rattle.graph_core.specs.declared.vertex.EdgeKind.TheVariants.{Target, Control, Availability}
use Rattle.graph_core.specs.declared.graph.VertexId.{VertexId}
use Rattle.graph_core.specs.Arena.{Arena, IsArena}
use Rattle.graph_core.specs.Circuit.{IsVertex, steps_on_from, chain}
use Rattle.graph_core.specs.Slots.{SlotEdge, in_chain, from_before, to_after}
use Rattle.unqomp.specs.GraphOf.{HasEdges}
use Rattle.unqomp.specs.UseList.{InUses}
use Rattle.unqomp.specs.Making.{vertex_id, forth, back, last, IsBack, IsLast, ids_on, IsAlong, IsStage, IsBackStage, IsLastStage, IsWhole, bare}
use Rattle.unqomp.specs.Linking.{linked}
use Rattle.unqomp.proofs.Ids.{ids_kept}
use Rattle.unqomp.proofs.Stages.{stage_more, stage_same, contains_nil}

-- a wire that is freed is there
pub freed_there : (f : FlatForm) (w : WireId) → freed f w ≡ true → w.number < length f.wires
freed_there f w e = elim (cases_lt w.number (length f.wires)) [
  | inl l ↦ l
  | inr l ↦ absurd (both_ways (freed f w) (ap (λ (x : WireForm). is_freed x.ending) (get_or-eq_default f.wires no_wire l)) e)
]

module _ (f : FlatForm) (n : ℕ) where
  abbrev w : WireId
  w = wire_id n

  last_freed : freed f w ≡ true → last f (n + 1) w ≡ last f n w ++ Free w ∷ []
  last_freed e =
      ap (λ (b : Bool). cond b (Free w ∷ []) []) (ap (λ (b : Bool). b && ltb n (n + 1)) e ∙ lt-ltb n (n + 1) (omega arith))
      ∙ ap (λ (b : Bool). cond b (Free w ∷ []) [] ++ Free w ∷ []) (sym (ap (λ (b : Bool). freed f w && b) (le-ltb n n (omega arith)) ∙ and-false (freed f w)))

  last_other : (x : WireId) → (x.number ≡ n → ⊥) → last f n x ≡ last f (n + 1) x
  last_other x d = ap (λ (b : Bool). cond (freed f x && b) (Free x ∷ []) []) (same (cases_lt x.number n))
    where
      same : (x.number < n) ⊎ (n ≤ x.number) → ltb x.number n ≡ ltb x.number (n + 1)
      same (inl l) = lt-ltb x.number n l ∙ sym (lt-ltb x.number (n + 1) (omega arith))
      same (inr l) = le-ltb x.number n l ∙ sym (le-ltb x.number (n + 1) (omega arith))

  pub last_with : freed f w ≡ true → (front back : List Vertex) (x : WireId) → cond (same_wire w x) ((front ++ (back ++ last f n x)) ++ Free w ∷ []) (front ++ (back ++ last f n x)) ≡ front ++ (back ++ last f (n + 1) x)
  last_with e front back x = elim (cases_eq x.number n) [
    | inl s ↦
        let same : w ≡ x = ap wire_id (sym s) in
        subst (λ (y : WireId). cond (same_wire w y) ((front ++ (back ++ last f n y)) ++ Free w ∷ []) (front ++ (back ++ last f n y)) ≡ front ++ (back ++ last f (n + 1) y)) same
        (ap (λ (b : Bool). cond b ((front ++ (back ++ last f n w)) ++ Free w ∷ []) (front ++ (back ++ last f n w))) (same_wire-refl w)
        ∙ append_assoc front (back ++ last f n w) (Free w ∷ [])
        ∙ ap (λ (l : List Vertex). front ++ l) (append_assoc back (last f n w) (Free w ∷ []) ∙ ap (λ (l : List Vertex). back ++ l) (sym (last_freed e))))
    | inr d ↦
        ap (λ (b : Bool). cond b ((front ++ (back ++ last f n x)) ++ Free w ∷ []) (front ++ (back ++ last f n x))) (ne_eqb n x.number (λ s. d (sym s)))
        ∙ ap (λ (l : List Vertex). front ++ (back ++ l)) (last_other x d)
  ]

  pub last_without : freed f w ≡ false → (x : WireId) → last f n x ≡ last f (n + 1) x
  last_without e x = elim (cases_eq x.number n) [
    | inl s ↦
        let off : freed f x ≡ false = ap (λ (k : ℕ). freed f (wire_id k)) s ∙ e in
        ap (λ (b : Bool). cond (b && ltb x.number n) (Free x ∷ []) []) off ∙ ap (λ (b : Bool). cond (b && ltb x.number (n + 1)) (Free x ∷ []) []) (sym off)
    | inr d ↦ last_other x d
  ]

  -- one Free vertex more
  pub last_one : freed f w ≡ true → (v : Vertex) → (IsLast f n v ⊎ (Free w ≡ v)) ↔ IsLast f (n + 1) v
  last_one e (Forward s) = (λ o. elim o [ inl l ↦ l | inr q ↦ cc ], λ l. inl l)
  last_one e (Reverse s) = (λ o. elim o [ inl l ↦ l | inr q ↦ cc ], λ l. inl l)
  last_one e (Free x) = (
    λ o. elim o [
      | inl l ↦ ((let a = l.0 in omega arith), l.1)
      | inr q ↦ let same : w ≡ x = cc in subst (λ (y : WireId). (y.number < n + 1) × (freed f y ≡ true)) same (omega arith, e)
    ],
    λ l. elim (cases_lt x.number n) [
      | inl a ↦ inl (a, l.1)
      | inr b ↦ let same : n ≡ x.number = (let a = l.0 in omega arith) in inr (ap (λ (k : ℕ). Free (wire_id k)) same)
    ],
  )

  pub last_none : freed f w ≡ false → (v : Vertex) → IsLast f n v ↔ IsLast f (n + 1) v
  last_none e (Forward s) = (λ l. l, λ l. l)
  last_none e (Reverse s) = (λ l. l, λ l. l)
  last_none e (Free x) = (
    λ l. ((let a = l.0 in omega arith), l.1),
    λ l. elim (cases_lt x.number n) [
      | inl a ↦ (a, l.1)
      | inr b ↦ let same : x.number ≡ n = (let a = l.0 in omega arith) in absurd (both_ways (freed f w) e (ap (λ (k : ℕ). freed f (wire_id k)) (sym same) ∙ l.1))
    ],
  )

module _ (f : FlatForm) (g : Arena) (chains : List (List VertexId)) where
  -- the first of these stages is the last of the Reverse vertices
  pub last_start : IsBackStage f g chains 0 → IsLastStage f g chains 0
  last_start st =
      stage_same f g chains (length f.steps) (length f.steps + (length f.steps - 0)) (length f.steps + length f.steps + 0) (IsBack f 0) (IsLast f 0) (λ w. forth f (length f.steps) w ++ back f 0 w) (λ w. forth f (length f.steps) w ++ (back f 0 w ++ last f 0 w)) (omega arith) same
      (λ x. ap (λ (l : List Vertex). forth f (length f.steps) x ++ l) (sym (append-nil (back f 0 x)) ∙ ap (λ (l : List Vertex). back f 0 x ++ l) (sym (nothing x)))) st
    where
      nothing : (x : WireId) → last f 0 x ≡ []
      nothing x = ap (λ (b : Bool). cond (freed f x && b) (Free x ∷ []) []) (le-ltb x.number 0 (omega arith)) ∙ ap (λ (b : Bool). cond b (Free x ∷ []) []) (and-false (freed f x))

      same : (v : Vertex) → IsBack f 0 v ↔ IsLast f 0 v
      same (Forward s) = (λ l. l, λ l. l)
      same (Reverse s) = (λ l. l.1, λ l. (omega arith, l))
      same (Free w) = (λ l. absurd l, λ l. (let a = l.0 in absurd (omega arith)))

  module _ (n : ℕ) (st : IsLastStage f g chains n) where
    fresh_one : ¬ IsLast f n (Free (wire_id n))
    fresh_one l = let a = l.0 in omega arith

    pub last_fresh : ¬ Contains g.vertices (Free (wire_id n))
    last_fresh c = fresh_one ((st.vertices (Free (wire_id n))).0 c)

    pub last_linked : IsArena g → n < length f.wires → freed f (wire_id n) ≡ true → IsLastStage f (linked g (ids_on chains (wire_id n)) (Free (wire_id n))) (slice_set chains n (ids_on chains (wire_id n) ++ vertex_id (length g.vertices) ∷ [])) (n + 1)
    last_linked ok inside e =
        stage_same f (linked g (ids_on chains (wire_id n)) (Free (wire_id n))) (slice_set chains n (ids_on chains (wire_id n) ++ vertex_id (length g.vertices) ∷ [])) (length f.steps) (length f.steps + length f.steps + n + 1) (length f.steps + length f.steps + (n + 1)) (λ v. IsLast f n v ⊎ (Free (wire_id n) ≡ v)) (IsLast f (n + 1)) (λ x. cond (same_wire (wire_id n) x) ((forth f (length f.steps) x ++ (back f 0 x ++ last f n x)) ++ Free (wire_id n) ∷ []) (forth f (length f.steps) x ++ (back f 0 x ++ last f n x))) (λ x. forth f (length f.steps) x ++ (back f 0 x ++ last f (n + 1) x)) (omega arith) (last_one f n e) (λ x. last_with f n e (forth f (length f.steps) x) (back f 0 x) x)
        (stage_more f g chains (length f.steps) (length f.steps + length f.steps + n) (IsLast f n) (λ x. forth f (length f.steps) x ++ (back f 0 x ++ last f n x)) ok st (Free (wire_id n)) fresh_one (wire_id n) inside)

    pub last_left : freed f (wire_id n) ≡ false → IsLastStage f g chains (n + 1)
    last_left e =
        stage_same f g chains (length f.steps) (length f.steps + length f.steps + n) (length f.steps + length f.steps + (n + 1)) (IsLast f n) (IsLast f (n + 1)) (λ x. forth f (length f.steps) x ++ (back f 0 x ++ last f n x)) (λ x. forth f (length f.steps) x ++ (back f 0 x ++ last f (n + 1) x)) (omega arith) (last_none f n e) (λ x. ap (λ (l : List Vertex). forth f (length f.steps) x ++ (back f 0 x ++ l)) (last_without f n e x)) st

  -- at the end all is there
  module _ (st : IsLastStage f g chains (length f.wires)) where
    whole_last : (w : WireId) → last f (length f.wires) w ≡ cond (freed f w) (Free w ∷ []) []
    whole_last w = elim (cases_Bool (freed f w)) [
      | inl e ↦ ap (λ (b : Bool). cond b (Free w ∷ []) []) (ap (λ (b : Bool). freed f w && b) (lt-ltb w.number (length f.wires) (freed_there f w e)) ∙ and-true (freed f w))
      | inr e ↦ ap (λ (b : Bool). cond (b && ltb w.number (length f.wires)) (Free w ∷ []) []) e ∙ ap (λ (b : Bool). cond b (Free w ∷ []) []) (sym e)
    ]

    whole_chain : (w : WireId) → forth f (length f.steps) w ++ (back f 0 w ++ last f (length f.wires) w) ≡ chain f w
    whole_chain w =
        ap (λ (l : List Step). map Forward (steps_on_from 0 l w) ++ (back f 0 w ++ last f (length f.wires) w)) (take-length f.steps)
        ∙ ap (λ (l : List Vertex). map Forward (steps_on_from 0 f.steps w) ++ (back f 0 w ++ l)) (whole_last w)

    whole_vertices : (v : Vertex) → IsLast f (length f.wires) v ↔ IsVertex f v
    whole_vertices (Forward s) = (λ l. l, λ l. l)
    whole_vertices (Reverse s) = (λ l. l, λ l. l)
    whole_vertices (Free w) = (λ l. l.1, λ e. (freed_there f w e, e))

    -- the stage told of the circuit graph itself
    end : IsStage f g chains (length f.steps) (length f.steps + length f.steps + length f.wires) (IsVertex f) (chain f)
    end = stage_same f g chains (length f.steps) (length f.steps + length f.steps + length f.wires) (length f.steps + length f.steps + length f.wires) (IsLast f (length f.wires)) (IsVertex f) (λ w. forth f (length f.steps) w ++ (back f 0 w ++ last f (length f.wires) w)) (chain f) (omega arith) whole_vertices whole_chain st

    pub whole : IsWhole f g.vertices chains
    whole = record {
      vertices_are = end.vertices;
      numbered = end.numbered;
      as_many = end.as_many;
      each = λ w h. ids_kept g (bare g.vertices) (λ id v e. e) (ids_on chains w) (chain f w) (end.each w h);
    }

    pub few_edges : length g.arrows ≤ length f.steps + length f.steps + length f.wires
    few_edges = let few = st.few in let edges = st.few_edges in omega arith

    -- no use has its edges yet
    pub targets : HasEdges g (SlotEdge f (InUses []))
    targets kind u v = (λ h. into kind u v ((end.edges kind u v).0 h), λ h. (end.edges kind u v).1 (back_to kind u v h))
      where
        into : (k : EdgeKind) (a b : Vertex) → IsAlong (chain f) k a b → SlotEdge f (InUses []) k a b
        into Target a b h = in_chain h.0 h.1 h.2 h.3
        into Control a b h = absurd h
        into Availability a b h = absurd h

        back_to : (k : EdgeKind) (a b : Vertex) → SlotEdge f (InUses []) k a b → IsAlong (chain f) k a b
        back_to k a b (in_chain w j p q) = (w, j, p, q)
        back_to k a b (from_before n j e p) = absurd (contains_nil _ n)
        back_to k a b (to_after n p) = absurd (contains_nil _ n)
