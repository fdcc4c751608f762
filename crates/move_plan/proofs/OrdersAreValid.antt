-- Each linear order of the circuit graph, read as moves, is valid.
-- Along an order, the vertices taken of each chain are its first k, and the wire's label follows k.
use Rattle.std.proofs.Common.{◌≡◌, ℕ, zero, suc, pred, ◌+◌, ◌-◌, ◌<◌, ◌≤◌, ◌⊎◌, Bool, true, false, cond, List, [], ◌∷◌, ◌++◌, length, slice_get, Some, Contains, refl, sym, ap, ◌∙◌, subst, inl, inr, arith, append_assoc, append-nil, le_antisymm}
use Rattle.std.proofs.lemmas.Bool.{cases_Bool, both_ways, cases_lt, cases_eq, eq-eqb}
use Rattle.std.proofs.lemmas.List.{map-append}
use Rattle.std.proofs.lemmas.List.Sums.{fold-append}
use Rattle.std.proofs.lemmas.List.Elements.{Contains-append_left, Contains-push, Contains-push_cases}
use Rattle.std.proofs.lemmas.Option.{slice_get_within}
use Rattle.flat_core.specs.declared.step.Step.{Step}
use Rattle.flat_core.specs.declared.step.Step.TheVariants.{X, H, P, M}
use Rattle.flat_core.specs.declared.step.WireId.{WireId}
use Rattle.flat_core.specs.declared.step.StepId.{StepId}
use Rattle.flat_core.specs.Form.{FlatForm}
use Rattle.flat_core.specs.Label.{changes, used, step_at, top, label_before}
use Rattle.flat_core.specs.Ends.{dropped, freed, undone, undone_step, measures, KeepsEnds}
use Rattle.flat_core.specs.Sound.{IsFlat}
use Rattle.flat_core.proofs.Kept.{keeps_ends}
use Rattle.graph_core.specs.Digraph.{IsReady, IsRun, IsLinearOrder}
use Rattle.graph_core.specs.Circuit.{IsVertex, chain, Uses, doing, undoing, Edge, along, circuit_graph}
use Rattle.graph_core.specs.declared.vertex.Vertex.{Vertex}
use Rattle.graph_core.specs.declared.vertex.Vertex.TheVariants.{Forward, Reverse, Free as FreeVertex}
use Rattle.graph_core.specs.declared.vertex.EdgeKind.{EdgeKind}
use Rattle.graph_core.specs.declared.vertex.EdgeKind.TheVariants.{Target, Control, Availability}
use Rattle.graph_core.proofs.Places.{some_at, at_unique, contains_at, place_of, at_map, from_map}
use Rattle.graph_core.proofs.Chains.{same_wire_is, on_chain, place, at_place, placed, length-chain, on_at, from_on, free_at, undone_dropped, freed_kept}
use Rattle.graph_core.proofs.Needs.{label_at, label_at_low, label_at_high, label_at_kept, label_before-le-top, Slot, slot_of}
use Rattle.move_plan.specs.declared.moves.Move.{Move}
use Rattle.move_plan.specs.declared.moves.Move.TheVariants.{Up, Down, Do, Free}
use Rattle.move_plan.specs.Progress.{label_moved}
use Rattle.move_plan.specs.Valid.{label_now, IsAt, HasUsed, HasTargetBefore, IsAllowed, AreAllowed, IsDone, IsValid}
use Rattle.move_plan.specs.AsMoves.{move_of, moves_of, OrdersAreValid}
use Rattle.move_plan.proofs.FormsAgree.{forms_agree}

-- where the taken vertices leave a wire: the first k of its chain are taken, and no others
pub record Stand (f : FlatForm) (taken : List Vertex) (w : WireId) : Type 0 where
  pub k : ℕ
  pub low : (j : ℕ) (v : Vertex) → slice_get (chain f w) j ≡ Some v → j < k → Contains taken v
  pub high : (j : ℕ) (v : Vertex) → slice_get (chain f w) j ≡ Some v → Contains taken v → j < k
  pub within : k ≤ length (chain f w)
  pub label : label_now f (moves_of f taken) w ≡ label_at f w k

-- what is kept along an order
pub record Taken (f : FlatForm) (taken : List Vertex) : Type 0 where
  pub vertices : (v : Vertex) → Contains taken v → IsVertex f v
  pub closed : (u v : Vertex) (kind : EdgeKind) → Edge f (Uses f) kind u v → Contains taken v → Contains taken u
  pub stands : (w : WireId) → Stand f taken w

label_push : (f : FlatForm) (taken : List Vertex) (v : Vertex) (w : WireId) → label_now f (moves_of f (taken ++ v ∷ [])) w ≡ label_moved f w (label_now f (moves_of f taken) w) (move_of f v)
label_push f taken v w =
    ap (λ (ms : List Move). label_now f ms w) (map-append (move_of f) taken (v ∷ []))
    ∙ fold-append (label_moved f w) 0 (moves_of f taken) (move_of f v ∷ [])

-- a vertex that is not on the chain leaves the label
off_chain : (f : FlatForm) (w : WireId) (v : Vertex) (l : ℕ) → on_chain f w v ≡ false → label_moved f w l (move_of f v) ≡ l
off_chain f w (Forward s) l e = elim (undone f s) as (λ b. label_moved f w l (cond b (Up s) (Do s)) ≡ l) [ true ↦ rw e refl | false ↦ rw e refl ]
off_chain f w (Reverse s) l e = rw e refl
off_chain f w (FreeVertex x) l e = refl

-- one on the chain takes the label of its place to the next one's
on_its_chain : (f : FlatForm) (w : WireId) (v : Vertex) → IsVertex f v → on_chain f w v ≡ true → label_moved f w (label_at f w (place f w v)) (move_of f v) ≡ label_at f w (suc (place f w v))
on_its_chain f w (Forward s) h e =
    let r = from_on f w (label_before f s w) s (on_at f s w h e) in
    let lt : label_before f s w < top f w = r.below_top in
    let up : label_moved f w (label_at f w (label_before f s w)) (cond (undone f s) (Up s) (Do s)) ≡ suc (label_at f w (label_before f s w)) =
    elim (undone f s) as (λ b. label_moved f w (label_at f w (label_before f s w)) (cond b (Up s) (Do s)) ≡ suc (label_at f w (label_before f s w))) [ true ↦ rw e refl | false ↦ rw e refl ] in
    up ∙ ap suc (label_at_low f w (label_before f s w) (omega arith)) ∙ sym (label_at_low f w (suc (label_before f s w)) lt)
on_its_chain f w (Reverse s) h e =
    let r = from_on f w (label_before f s w) s (on_at f s w h.0 e) in
    let lt : label_before f s w < top f w = r.below_top in
    let d = undone_dropped f s w h.1 e in
    let j : ℕ = top f w + (top f w - 1 - label_before f s w) in
    let down : label_moved f w (label_at f w j) (Down s) ≡ pred (label_at f w j) = rw e refl in
    let a : label_at f w j ≡ top f w + top f w - j = label_at_high f w j d (omega arith) in
    let b : label_at f w (suc j) ≡ top f w + top f w - suc j = label_at_high f w (suc j) d (omega arith) in
    down ∙ ap pred a ∙ (let p : pred (top f w + top f w - j) ≡ top f w + top f w - suc j = omega arith in p) ∙ sym b
on_its_chain f w (FreeVertex x) h e =
    let same : x ≡ w = same_wire_is x w e in
    let k : dropped f w ≡ false = freed_kept f w (ap (freed f) (sym same) ∙ h) in
    label_at_kept f w (top f w) k (omega arith) ∙ sym (label_at_kept f w (suc (top f w)) k (omega arith))

not_in_nil : {A : Type 0} (x : A) → ¬ Contains [] x
not_in_nil x c = let l = c.1 in omega arith

-- the moves of some vertices, and the vertices of some moves
moved_in : (f : FlatForm) (taken : List Vertex) (v : Vertex) → Contains taken v → Contains (moves_of f taken) (move_of f v)
moved_in f taken v c =
    let p = place_of taken v c in
    contains_at (moves_of f taken) p.0 (move_of f v) (at_map (move_of f) taken p.0 v p.1)

free_is : (f : FlatForm) (v : Vertex) (w : WireId) → move_of f v ≡ Free w → v ≡ FreeVertex w
free_is f (Forward s) w e = elim (cases_Bool (undone f s)) [ inl d ↦ let h : Up s ≡ Free w = rw d at e in cc | inr d ↦ let h : Do s ≡ Free w = rw d at e in cc ]
free_is f (Reverse s) w e = cc
free_is f (FreeVertex x) w e = cc

do_is : (f : FlatForm) (v : Vertex) (s : StepId) → move_of f v ≡ Do s → v ≡ Forward s
do_is f (Forward t) s e = elim (cases_Bool (undone f t)) [ inl d ↦ let h : Up t ≡ Do s = rw d at e in cc | inr d ↦ let h : Do t ≡ Do s = rw d at e in cc ]
do_is f (Reverse t) s e = cc
do_is f (FreeVertex x) s e = cc

free_in : (f : FlatForm) (taken : List Vertex) (w : WireId) → Contains (moves_of f taken) (Free w) → Contains taken (FreeVertex w)
free_in f taken w c =
    let p = place_of (moves_of f taken) (Free w) c in
    let m = from_map (move_of f) taken p.0 (Free w) p.1 in
    subst (Contains taken) (free_is f m.0 w m.2) (contains_at taken p.0 m.0 m.1)

do_in : (f : FlatForm) (taken : List Vertex) (s : StepId) → Contains (moves_of f taken) (Do s) → Contains taken (Forward s)
do_in f taken s c =
    let p = place_of (moves_of f taken) (Do s) c in
    let m = from_map (move_of f) taken p.0 (Do s) p.1 in
    subst (Contains taken) (do_is f m.0 s m.2) (contains_at taken p.0 m.0 m.1)

measure_uses : (w : WireId) (step : Step) → measures w step ≡ true → Contains (used step) w
measure_uses w (X target first second) m = cc
measure_uses w (H target control) m = cc
measure_uses w (P eighths control) m = cc
measure_uses w (M wire number) m = (0, omega arith, same_wire_is wire w m)

measure_lasts : (f : FlatForm) (w : WireId) (step : Step) → measures w step ≡ true → undone_step f step ≡ false
measure_lasts f w (X target first second) m = cc
measure_lasts f w (H target control) m = refl
measure_lasts f w (P eighths control) m = refl
measure_lasts f w (M wire number) m = refl

-- one vertex that is ready, after those taken
module _ (f : FlatForm) (flat : IsFlat f) (ok : KeepsEnds f) (taken : List Vertex) (so : Taken f taken) (v : Vertex) (ready : IsReady (circuit_graph f) taken v) where
  -- a vertex on a chain is the next one there
  reached : (w : WireId) → on_chain f w v ≡ true → (so.stands w).k ≡ place f w v
  reached w on = le_antisymm (not_past (cases_lt (place f w v) st.k)) (all_before (place f w v) at)
    where
      st : Stand f taken w
      st = so.stands w

      at : slice_get (chain f w) (place f w v) ≡ Some v
      at = at_place f w v ready.vertex on

      not_past : (place f w v < st.k) ⊎ (st.k ≤ place f w v) → st.k ≤ place f w v
      not_past (inl h) = absurd (ready.fresh (st.low (place f w v) v at h))
      not_past (inr h) = h

      all_before : (j : ℕ) → slice_get (chain f w) j ≡ Some v → j ≤ st.k
      all_before zero h = omega arith
      all_before (suc j) h =
          let l : suc j < length (chain f w) = slice_get_within (chain f w) (suc j) v h in
          let u = some_at (chain f w) j (omega arith) in
          st.high j u.0 u.1 (ready.after u.0 (Target, along w j u.1 h))

  on_case : (w : WireId) → on_chain f w v ≡ true → Stand f (taken ++ v ∷ []) w
  on_case w on = record {
    k = suc st.k;
    low = low;
    high = high;
    within = let l = slice_get_within (chain f w) (place f w v) v at in let q = r in omega arith;
    label =
        label_push f taken v w
        ∙ ap (λ (l : ℕ). label_moved f w l (move_of f v)) (st.label ∙ ap (label_at f w) r)
        ∙ on_its_chain f w v ready.vertex on
        ∙ ap (λ (n : ℕ). label_at f w (suc n)) (sym r);
  }
    where
      st : Stand f taken w
      st = so.stands w

      r : st.k ≡ place f w v
      r = reached w on

      at : slice_get (chain f w) (place f w v) ≡ Some v
      at = at_place f w v ready.vertex on

      low : (j : ℕ) (u : Vertex) → slice_get (chain f w) j ≡ Some u → j < suc st.k → Contains (taken ++ v ∷ []) u
      low j u h l = elim (cases_eq j (place f w v)) [
        | inl e ↦ subst (Contains (taken ++ v ∷ [])) (at_unique (chain f w) j v u (ap (λ (n : ℕ). slice_get (chain f w) n) e ∙ at) h) (Contains-push taken v)
        | inr n ↦ let q = r in Contains-append_left taken (v ∷ []) u (st.low j u h (omega arith))
      ]

      high : (j : ℕ) (u : Vertex) → slice_get (chain f w) j ≡ Some u → Contains (taken ++ v ∷ []) u → j < suc st.k
      high j u h c = elim (Contains-push_cases taken v u c) [
        | inl i ↦ let l = st.high j u h i in omega arith
        | inr e ↦ let p = (placed f ok w j u h).at in let q : place f w v ≡ place f w u = ap (place f w) e in let m = r in omega arith
      ]

  off_case : (w : WireId) → on_chain f w v ≡ false → Stand f (taken ++ v ∷ []) w
  off_case w off = record {
    k = st.k;
    low = λ j u h l. Contains-append_left taken (v ∷ []) u (st.low j u h l);
    high = high;
    within = st.within;
    label = label_push f taken v w ∙ off_chain f w v (label_now f (moves_of f taken) w) off ∙ st.label;
  }
    where
      st : Stand f taken w
      st = so.stands w

      high : (j : ℕ) (u : Vertex) → slice_get (chain f w) j ≡ Some u → Contains (taken ++ v ∷ []) u → j < st.k
      high j u h c = elim (Contains-push_cases taken v u c) [
        | inl i ↦ st.high j u h i
        | inr e ↦ absurd (both_ways (on_chain f w v) off (ap (on_chain f w) e ∙ (placed f ok w j u h).on))
      ]

  taken_more : Taken f (taken ++ v ∷ [])
  taken_more = record { vertices = vertices; closed = closed; stands = λ w. stands w (cases_Bool (on_chain f w v)) }
    where
      vertices : (u : Vertex) → Contains (taken ++ v ∷ []) u → IsVertex f u
      vertices u c = elim (Contains-push_cases taken v u c) [ inl i ↦ so.vertices u i | inr e ↦ subst (IsVertex f) e ready.vertex ]

      closed : (t u : Vertex) (kind : EdgeKind) → Edge f (Uses f) kind t u → Contains (taken ++ v ∷ []) u → Contains (taken ++ v ∷ []) t
      closed t u kind edge c = Contains-append_left taken (v ∷ []) t (elim (Contains-push_cases taken v u c) [
        | inl i ↦ so.closed t u kind edge i
        | inr e ↦ ready.after t (kind, subst (λ (x : Vertex). Edge f (Uses f) kind t x) (sym e) edge)
      ])

      stands : (w : WireId) → (on_chain f w v ≡ true) ⊎ (on_chain f w v ≡ false) → Stand f (taken ++ v ∷ []) w
      stands w (inl on) = on_case w on
      stands w (inr off) = off_case w off

  -- a wire that is not yet past label `top` of its chain is not freed
  not_freed : (w : WireId) → ((so.stands w).k ≤ top f w ⊎ (dropped f w ≡ true)) → ¬ Contains (moves_of f taken) (Free w)
  not_freed w why c =
      let i : Contains taken (FreeVertex w) = free_in f taken w c in
      let h : freed f w ≡ true = so.vertices (FreeVertex w) i in
      let at : slice_get (chain f w) (top f w) ≡ Some (FreeVertex w) = free_at f w h in
      let l : top f w < (so.stands w).k = (so.stands w).high (top f w) (FreeVertex w) at i in
      elim why [ inl k ↦ let m : ⊥ = omega arith in m | inr d ↦ both_ways (dropped f w) (freed_kept f w h) d ]

  -- a wire that the vertex uses is at the label that it needs
  used_at : (w : WireId) (i : ℕ) → Uses f v w i → IsAt f (moves_of f taken) w i
  used_at w i uses = record { at = st.label ∙ ap (label_at f w) same ∙ s.label; kept = not_freed w (elim (cases_Bool (dropped f w)) [ inl d ↦ inr d | inr d ↦ inl (let l = s.kept d in let e = same in omega arith) ]) }
    where
      st : Stand f taken w
      st = so.stands w

      s : Slot f v w i
      s = slot_of f ok v w i uses

      behind : (n : ℕ) → s.slot ≡ n → n ≤ st.k
      behind zero e = omega arith
      behind (suc j) e = let b = s.behind j e in st.high j b.0 b.1 (ready.after b.0 (Control, b.2))

      ahead : (s.slot < st.k) ⊎ (st.k ≤ s.slot) → st.k ≤ s.slot
      ahead (inr h) = h
      ahead (inl h) =
          let l = st.within in
          let u = some_at (chain f w) s.slot (omega arith) in
          absurd (ready.fresh (so.closed v u.0 Availability (s.ahead u.0 u.1) (st.low s.slot u.0 u.1 h)))

      same : st.k ≡ s.slot
      same = le_antisymm (ahead (cases_lt s.slot st.k)) (behind s.slot refl)

  -- and so is the wire that it changes
  target_before : (s : StepId) (w : WireId) → v ≡ Forward s → changes w (step_at f s) ≡ true → IsAt f (moves_of f taken) w (label_before f s w)
  target_before s w is c =
      let r : (so.stands w).k ≡ label_before f s w = reached w (ap (on_chain f w) is ∙ c) ∙ ap (place f w) is in
      let le = label_before-le-top f s w in
      record {
        at = (so.stands w).label ∙ ap (label_at f w) r ∙ label_at_low f w (label_before f s w) le;
        kept = not_freed w (inl (omega arith));
      }

  target_after : (s : StepId) (w : WireId) → v ≡ Reverse s → changes w (step_at f s) ≡ true → IsAt f (moves_of f taken) w (suc (label_before f s w))
  target_after s w is c =
      let h : IsVertex f (Reverse s) = subst (IsVertex f) is ready.vertex in
      let d = undone_dropped f s w h.1 c in
      let lt : label_before f s w < top f w = (from_on f w (label_before f s w) s (on_at f s w h.0 c)).below_top in
      let j : ℕ = top f w + (top f w - 1 - label_before f s w) in
      let r : (so.stands w).k ≡ j = reached w (ap (on_chain f w) is ∙ c) ∙ ap (place f w) is in
      record {
        at = (so.stands w).label ∙ ap (label_at f w) r ∙ label_at_high f w j d (omega arith) ∙ omega arith;
        kept = not_freed w (inr d);
      }

  -- the measure of a freed wire is done before
  measured_before : (w : WireId) → v ≡ FreeVertex w → (s : StepId) → s.number < length f.steps → measures w (step_at f s) ≡ true → Contains (moves_of f taken) (Do s)
  measured_before w is s h m =
      let uses : Uses f (Forward s) w (label_before f s w) = doing h (measure_uses w (step_at f s) m) in
      let z = slot_of f ok (Forward s) w (label_before f s w) uses in
      let fr : freed f w ≡ true = subst (IsVertex f) is ready.vertex in
      let le : z.slot ≤ top f w = z.kept (freed_kept f w fr) in
      let e : z.slot ≡ top f w = sym (label_at_low f w z.slot le) ∙ z.label ∙ ok.measured_at_top s w h m in
      let edge : Edge f (Uses f) Availability (Forward s) (FreeVertex w) = z.ahead (FreeVertex w) (ap (λ (n : ℕ). slice_get (chain f w) n) e ∙ free_at f w fr) in
      let c : Contains taken (Forward s) = ready.after (Forward s) (Availability, subst (λ (x : Vertex). Edge f (Uses f) Availability (Forward s) x) (sym is) edge) in
      rw (measure_lasts f w (step_at f s) m) at (moved_in f taken (Forward s) c)

  -- so its move is allowed
  allowed : IsAllowed f (moves_of f taken) (move_of f v)
  allowed = go v refl
    where
      go : (u : Vertex) → v ≡ u → IsAllowed f (moves_of f taken) (move_of f u)
      go (Forward s) e =
          let h : IsVertex f (Forward s) = subst (IsVertex f) e ready.vertex in
          let uses : HasUsed f (moves_of f taken) s = λ w c. used_at w (label_before f s w) (subst (λ (x : Vertex). Uses f x w (label_before f s w)) (sym e) (doing h c)) in
          let target : HasTargetBefore f (moves_of f taken) s = λ w c. target_before s w e c in
          elim (cases_Bool (undone f s)) [
            | inl d ↦ rw d (record { step = h; again = d; uses = uses; target = target })
            | inr d ↦ rw d (record { step = h; lasting = d; first = λ c. ready.fresh (subst (Contains taken) (sym e) (do_in f taken s c)); uses = uses; target = target })
          ]
      go (Reverse s) e =
          let h : IsVertex f (Reverse s) = subst (IsVertex f) e ready.vertex in
          record {
            step = h.0;
            again = h.1;
            uses = λ w c. used_at w (label_before f s w) (subst (λ (x : Vertex). Uses f x w (label_before f s w)) (sym e) (undoing h.0 h.1 c));
            target = λ w c. target_after s w e c;
          }
      go (FreeVertex w) e =
          let h : freed f w ≡ true = subst (IsVertex f) e ready.vertex in
          let r : (so.stands w).k ≡ top f w = reached w (ap (on_chain f w) e ∙ eq-eqb w.number w.number refl) ∙ ap (place f w) e in
          record {
            ending = h;
            at_top = record {
              at = (so.stands w).label ∙ ap (label_at f w) r ∙ label_at_kept f w (top f w) (freed_kept f w h) (omega arith);
              kept = λ c. ready.fresh (subst (Contains taken) (sym e) (free_in f taken w c));
            };
            measured = λ is. let m = flat.measured_has_m w is in record { step = m.0; there = m.1; of = m.2; in_past = measured_before w e m.0 m.1 m.2 };
          }

-- once all vertices are taken, the moves are at their end
at_end : (f : FlatForm) → KeepsEnds f → (taken : List Vertex) → Taken f taken → ((v : Vertex) → IsVertex f v → Contains taken v) → IsDone f (moves_of f taken)
at_end f ok taken so whole = record {
  all_done = λ s h d. rw d at (moved_in f taken (Forward s) (whole (Forward s) h));
  at_bottom = λ w h d. let m = past_top w in let e = length-chain f w in let n = length_dropped w d in (so.stands w).label ∙ label_at_high f w (so.stands w).k d (omega arith) ∙ omega arith;
  at_top = λ w h d. let m = past_top w in (so.stands w).label ∙ label_at_kept f w (so.stands w).k d (let e = length-chain f w in omega arith);
  all_freed = λ w h. moved_in f taken (FreeVertex w) (whole (FreeVertex w) h);
}
  where
    past_top : (w : WireId) → (so.stands w).k ≡ length (chain f w)
    past_top w = le_antisymm (so.stands w).within (not_below (cases_lt (so.stands w).k (length (chain f w))))
      where
        not_below : ((so.stands w).k < length (chain f w)) ⊎ (length (chain f w) ≤ (so.stands w).k) → length (chain f w) ≤ (so.stands w).k
        not_below (inr h) = h
        not_below (inl h) =
            let u = some_at (chain f w) (so.stands w).k h in
            let l : (so.stands w).k < (so.stands w).k = (so.stands w).high (so.stands w).k u.0 u.1 (whole u.0 (placed f ok w (so.stands w).k u.0 u.1).vertex) in
            omega arith

    length_dropped : (w : WireId) → dropped f w ≡ true → top f w + top f w ≤ length (chain f w)
    length_dropped w d = let e : length (chain f w) ≡ top f w + (top f w + cond (freed f w) 1 0) = length-chain f w ∙ ap (λ (b : Bool). top f w + (cond b (top f w) 0 + cond (freed f w) 1 0)) d in omega arith

-- the moves of a run are allowed
walk : (f : FlatForm) → IsFlat f → KeepsEnds f → (taken rest : List Vertex) → Taken f taken → IsRun (circuit_graph f) taken rest → AreAllowed f (moves_of f taken) (moves_of f rest) × Taken f (taken ++ rest)
walk f flat ok taken [] so run = (tt, subst (Taken f) (sym (append-nil taken)) so)
walk f flat ok taken (v ∷ rest) so run =
    let next = walk f flat ok (taken ++ v ∷ []) rest (taken_more f flat ok taken so v run.0) run.1 in
    ((allowed f flat ok taken so v run.0, subst (λ (past : List Move). AreAllowed f past (moves_of f rest)) (map-append (move_of f) taken (v ∷ [])) next.0), subst (Taken f) (append_assoc taken (v ∷ []) rest) next.1)

at_start : (f : FlatForm) → Taken f []
at_start f = record {
  vertices = λ v c. absurd (not_in_nil v c);
  closed = λ u v kind e c. absurd (not_in_nil v c);
  stands = λ w. record {
    k = 0;
    low = λ j v h l. absurd (omega arith);
    high = λ j v h c. absurd (not_in_nil v c);
    within = omega arith;
    label = sym (label_at_low f w 0 (omega arith));
  };
}

orders_valid : (f : FlatForm) → IsFlat f → KeepsEnds f → (order : List Vertex) → IsLinearOrder (circuit_graph f) order → IsValid f (moves_of f order)
orders_valid f flat ok order linear =
    let w = walk f flat ok [] order (at_start f) linear.run in
    record { allowed = w.0; done = at_end f ok order w.1 linear.whole }

pub orders_are_valid : OrdersAreValid
orders_are_valid f flat order linear = (forms_agree f (moves_of f order)).0 (orders_valid f flat (keeps_ends f flat) order linear)
