-- Lists of edges by links.
use Rattle.std.proofs.Common.{◌≡◌, ℕ, suc, ◌+◌, ◌<◌, ◌≤◌, Bool, true, false, cond, List, [], ◌∷◌, ◌++◌, length, reverse, take, slice_get, slice_set, get_or, Option, Some, None, refl, sym, ap, ◌∙◌, subst, inl, inr, arith, length-append, length-set}
use Rattle.std.proofs.Math.Seq.{map-set_same}
use Rattle.std.proofs.lemmas.Bool.{cases_Bool, cases_lt, cond_both, eq-eqb, eqb-true}
use Rattle.std.proofs.lemmas.Option.{slice_get_within, slice_get-get_or, get_or_from_slice_get}
use Rattle.std.proofs.lemmas.List.{append-nil, length-map, map-append, reverse-append, take_all, take_more, take-append-le}
use Rattle.std.specs.List.Sorted.{IsPermutation}
use Rattle.std.proofs.lemmas.List.Sorted.{IsPermutation-reverse}
use Rattle.flat_core.proofs.Places.{at_set_same, at_set_other}
use Rattle.graph_core.specs.declared.vertex.EdgeKind.{EdgeKind}
use Rattle.graph_core.specs.declared.graph.VertexId.{VertexId}
use Rattle.graph_core.specs.declared.graph.EdgeId.{EdgeId}
use Rattle.graph_core.specs.declared.graph.Arrow.{Arrow}
use Rattle.graph_core.specs.declared.links.VertexRow.{VertexRow}
use Rattle.graph_core.specs.declared.links.EdgeRow.{EdgeRow}
use Rattle.graph_core.specs.EdgesAt.{meets, other_end, edges_at}
use Rattle.graph_core.specs.Links.{link, end_at, vertices_in, arrows_in, IsLast, IsLastEdge, AreFirsts, AreLinked, bound, edges_from, IsNamed, CanFollow}
use Rattle.graph_core.specs.Linking.{IsFirstPut}
use Rattle.graph_core.proofs.Places.{at_left, at_append, at_map, from_map}

-- the edges at a vertex, list by list
module _ (d : Bool) (v : VertexId) where
  edges_append : (xs ys : List Arrow) → edges_at d v (xs ++ ys) ≡ edges_at d v xs ++ edges_at d v ys
  edges_append [] ys = refl
  edges_append (e ∷ xs) ys = elim (cases_Bool (meets d v e)) [
    | inl b ↦ rw (b, edges_append xs ys)
    | inr b ↦ rw (b, edges_append xs ys)
  ]

  edges_with : (xs : List Arrow) (n : ℕ) (e : Arrow) → slice_get xs n ≡ Some e → edges_at d v (take (n + 1) xs) ≡ edges_at d v (take n xs) ++ edges_at d v (e ∷ [])
  edges_with xs n e h =
      let more : take (n + 1) xs ≡ take n xs ++ e ∷ [] = take_more xs n e (slice_get_within xs n e h) ∙ ap (λ (x : Arrow). take n xs ++ x ∷ []) (get_or_from_slice_get xs n e e h) in
      ap (edges_at d v) more ∙ edges_append (take n xs) (e ∷ [])

  pub edges_more : (xs : List Arrow) (n : ℕ) (e : Arrow) → slice_get xs n ≡ Some e → meets d v e ≡ true → edges_at d v (take (n + 1) xs) ≡ edges_at d v (take n xs) ++ (other_end d e, e.kind) ∷ []
  edges_more xs n e h m =
      let one : edges_at d v (e ∷ []) ≡ (other_end d e, e.kind) ∷ [] = rw m in
      edges_with xs n e h ∙ ap (λ (l : List (VertexId × EdgeKind)). edges_at d v (take n xs) ++ l) one

  pub edges_same : (xs : List Arrow) (n : ℕ) (e : Arrow) → slice_get xs n ≡ Some e → meets d v e ≡ false → edges_at d v (take (n + 1) xs) ≡ edges_at d v (take n xs)
  edges_same xs n e h m =
      let none : edges_at d v (e ∷ []) ≡ [] = rw m in
      edges_with xs n e h ∙ ap (λ (l : List (VertexId × EdgeKind)). edges_at d v (take n xs) ++ l) none ∙ append-nil (edges_at d v (take n xs))

  pub no_edges : (xs : List Arrow) → ((j : ℕ) (e : Arrow) → slice_get xs j ≡ Some e → meets d v e ≡ false) → edges_at d v xs ≡ []
  no_edges [] h = refl
  no_edges (e ∷ xs) h = let m = h 0 e refl in let r = no_edges xs (λ j x a. h (suc j) x a) in rw (m, r)

  pub last_bound : (xs : List Arrow) (n : ℕ) (l : Option EdgeId) → IsLast d v xs n l → edges_at d v (take n xs) ≡ edges_at d v (take (bound l) xs)
  last_bound xs n None h = h
  last_bound xs n (Some id) h = h.last

  pub last_here : (xs : List Arrow) (n : ℕ) (e : Arrow) (id : EdgeId) → slice_get xs n ≡ Some e → meets d v e ≡ true → id.number ≡ n → IsLastEdge d v xs (n + 1) id
  last_here xs n e id h m is = record {
    before = omega arith;
    edge = e;
    at = ap (λ (k : ℕ). slice_get xs k) is ∙ h;
    there = m;
    last = ap (λ (k : ℕ). edges_at d v (take (k + 1) xs)) (sym is);
  }

  pub last_more : (xs : List Arrow) (n : ℕ) (e : Arrow) (l : Option EdgeId) → slice_get xs n ≡ Some e → meets d v e ≡ false → IsLast d v xs n l → IsLast d v xs (n + 1) l
  last_more xs n e None h m is = edges_same xs n e h m ∙ is
  last_more xs n e (Some id) h m is = record {
    before = let b = is.before in omega arith;
    edge = is.edge;
    at = is.at;
    there = is.there;
    last = edges_same xs n e h m ∙ is.last;
  }

  pub last_kept : (xs ys : List Arrow) (n : ℕ) (l : Option EdgeId) → n ≤ length xs → IsLast d v xs n l → IsLast d v (xs ++ ys) n l
  last_kept xs ys n None w is = ap (edges_at d v) (take-append-le n xs ys w) ∙ is
  last_kept xs ys n (Some id) w is =
      let b = is.before in
      let w2 : id.number + 1 ≤ length xs = omega arith in
      record {
        before = b;
        edge = is.edge;
        at = at_left xs ys id.number is.edge is.at;
        there = is.there;
        last = ap (edges_at d v) (take-append-le n xs ys w) ∙ is.last ∙ ap (edges_at d v) (sym (take-append-le (id.number + 1) xs ys w2));
      }

-- an edge is at its ends only
pub meets_end : (d : Bool) (e : Arrow) → meets d (end_at d e) e ≡ true
meets_end true e = eq-eqb e.to.number e.to.number refl
meets_end false e = eq-eqb e.from.number e.from.number refl

pub end_is : (d : Bool) (v : VertexId) (e : Arrow) → meets d v e ≡ true → end_at d e ≡ v
end_is true v e m = let id : ℕ → VertexId = λ n. record { number = n } in ap id (eqb-true e.to.number v.number m)
end_is false v e m = let id : ℕ → VertexId = λ n. record { number = n } in ap id (eqb-true e.from.number v.number m)

pub length_arrows : (es : List EdgeRow) → length (arrows_in es) ≡ length es
length_arrows es = length-map es (λ (row : EdgeRow). row.arrow)

pub length_vertices : (vs : List VertexRow) → length (vertices_in vs) ≡ length vs
length_vertices vs = length-map vs (λ (row : VertexRow). row.vertex)

pub arrow_at : (es : List EdgeRow) (n : ℕ) (row : EdgeRow) → slice_get es n ≡ Some row → slice_get (arrows_in es) n ≡ Some row.arrow
arrow_at es n row h = at_map (λ (row : EdgeRow). row.arrow) es n row h

pub arrows_set : (es : List EdgeRow) (n : ℕ) (now d : EdgeRow) → now.arrow ≡ (get_or es n d).arrow → arrows_in (slice_set es n now) ≡ arrows_in es
arrows_set es n now d e = map-set_same (λ (row : EdgeRow). row.arrow) es n now d e

pub vertices_set : (vs : List VertexRow) (n : ℕ) (now d : VertexRow) → now.vertex ≡ (get_or vs n d).vertex → vertices_in (slice_set vs n now) ≡ vertices_in vs
vertices_set vs n now d e = map-set_same (λ (row : VertexRow). row.vertex) vs n now d e

-- more edges that stand in no list
module _ (vs : List VertexRow) (es more : List EdgeRow) (n : ℕ) (ok : AreLinked vs es n) where
  kept : (d : Bool) (v : VertexId) (k : ℕ) (l : Option EdgeId) → k ≤ n → IsLast d v (arrows_in es) k l → IsLast d v (arrows_in (es ++ more)) k l
  kept d v k l w is =
      let len = length_arrows es in let has = ok.within in
      subst (λ (xs : List Arrow). IsLast d v xs k l) (sym (map-append (λ (row : EdgeRow). row.arrow) es more)) (last_kept d v (arrows_in es) (arrows_in more) k l (omega arith) is)

  old_at : (i : ℕ) (row : EdgeRow) → i < n → slice_get (es ++ more) i ≡ Some row → slice_get es i ≡ Some row
  old_at i row w h = elim (at_append es more i row h) [
    | inl a ↦ a
    | inr r ↦ let e = r.1 in let has = ok.within in absurd (omega arith)
  ]

  pub linked_more : AreLinked vs (es ++ more) n
  linked_more = record {
    within = let l = length-append es more in let has = ok.within in omega arith;
    firsts = λ d v row h. kept d v n (link d row.first) (omega arith) (ok.firsts d v row h);
    nexts = λ d i row w h. kept d (end_at d row.arrow) i (link d row.next) (omega arith) (ok.nexts d i row w (old_at i row w h));
  }

-- one more edge is linked
module _ (vs mid new : List VertexRow) (es : List EdgeRow) (id : EdgeId) (old now : EdgeRow) (at : slice_get es id.number ≡ Some old) (same : now.arrow ≡ old.arrow) (ok : AreLinked vs es id.number)
    (out : IsFirstPut false old.arrow.from id vs mid) (into : IsFirstPut true old.arrow.to id mid new)
    (ready : (d : Bool) → IsLast d (end_at d old.arrow) (arrows_in es) id.number (link d now.next)) where
  arrows : arrows_in (slice_set es id.number now) ≡ arrows_in es
  arrows = arrows_set es id.number now old (same ∙ ap (λ (row : EdgeRow). row.arrow) (sym (get_or_from_slice_get es id.number old old at)))

  joined : (d : Bool) (u : VertexId) (row : VertexRow) → slice_get new u.number ≡ Some row → (was : VertexRow) × (slice_get vs u.number ≡ Some was) × (link d row.first ≡ cond (meets d u old.arrow) (Some id) (link d was.first))
  joined true u row h = let p = into true u row h in let q = out true u p.row p.at in (q.row, q.at, p.first ∙ ap (λ (l : Option EdgeId). cond (meets true u old.arrow) (Some id) l) q.first)
  joined false u row h = let p = into false u row h in let q = out false u p.row p.at in (q.row, q.at, p.first ∙ q.first)

  first : AreFirsts new es (id.number + 1)
  first d u row h =
      let j = joined d u row h in
      let here = arrow_at es id.number old at in
      subst (IsLast d u (arrows_in es) (id.number + 1)) (sym j.2)
      (cond_both (meets d u old.arrow) (Some id) (link d j.0.first) (IsLast d u (arrows_in es) (id.number + 1))
      (λ m. last_here d u (arrows_in es) id.number old.arrow id here m refl)
      (λ m. last_more d u (arrows_in es) id.number old.arrow (link d j.0.first) here m (ok.firsts d u j.0 j.1)))

  next : (d : Bool) (i : ℕ) (row : EdgeRow) → i < id.number + 1 → slice_get (slice_set es id.number now) i ≡ Some row → IsLast d (end_at d row.arrow) (arrows_in es) i (link d row.next)
  next d i row w h = elim (cases_lt i id.number) [
    | inl l ↦ ok.nexts d i row l (at_set_other es id.number i now row (λ e. omega arith) h)
    | inr l ↦ let e : i ≡ id.number = omega arith in
        let is : now ≡ row = at_set_same es id.number now row (slice_get_within es id.number old at) (subst (λ (k : ℕ). slice_get (slice_set es id.number now) k ≡ Some row) e h) in
        let begin : IsLast d (end_at d now.arrow) (arrows_in es) id.number (link d now.next) = subst (λ (x : Arrow). IsLast d (end_at d x) (arrows_in es) id.number (link d now.next)) (sym same) (ready d) in
        subst (λ (k : ℕ). IsLast d (end_at d row.arrow) (arrows_in es) k (link d row.next)) (sym e)
        (subst (λ (x : EdgeRow). IsLast d (end_at d x.arrow) (arrows_in es) id.number (link d x.next)) is begin)
  ]

  pub linked_next : AreLinked new (slice_set es id.number now) (id.number + 1)
  linked_next = record {
    within = let w = slice_get_within es id.number old at in let l = length-set es id.number now in omega arith;
    firsts = λ d u row h. subst (λ (xs : List Arrow). IsLast d u xs (id.number + 1) (link d row.first)) (sym arrows) (first d u row h);
    nexts = λ d i row w h. subst (λ (xs : List Arrow). IsLast d (end_at d row.arrow) xs i (link d row.next)) (sym arrows) (next d i row w h);
  }

-- the same where what is missing is read with a default
pub linked_step : (vs mid new : List VertexRow) (es : List EdgeRow) (id : EdgeId) (r : EdgeRow) (a b : VertexRow) → id.number < length es → ((row : EdgeRow) → slice_get es id.number ≡ Some row → (row.arrow.from.number < length vs) × (row.arrow.to.number < length vs)) → AreLinked vs es id.number → IsFirstPut false (get_or es id.number r).arrow.from id vs mid → IsFirstPut true (get_or es id.number r).arrow.to id mid new → AreLinked new (slice_set es id.number (record { arrow = (get_or es id.number r).arrow; next = record { leaving = (get_or vs (get_or es id.number r).arrow.from.number a).first.leaving; entering = (get_or vs (get_or es id.number r).arrow.to.number b).first.entering } })) (id.number + 1)
linked_step vs mid new es id r a b there ends ok out into =
    let old : EdgeRow = get_or es id.number r in
    let at = slice_get-get_or es id.number r there in
    let e = ends old at in
    linked_next vs mid new es id old _ at refl ok out into (begin old e)
  where
    begin : (old : EdgeRow) → (old.arrow.from.number < length vs) × (old.arrow.to.number < length vs) → (d : Bool) → IsLast d (end_at d old.arrow) (arrows_in es) id.number (link d (record { leaving = (get_or vs old.arrow.from.number a).first.leaving; entering = (get_or vs old.arrow.to.number b).first.entering }))
    begin old e true = ok.firsts true old.arrow.to (get_or vs old.arrow.to.number b) (slice_get-get_or vs old.arrow.to.number b e.1)
    begin old e false = ok.firsts false old.arrow.from (get_or vs old.arrow.from.number a) (slice_get-get_or vs old.arrow.from.number a e.0)

-- following a list
pub follow_row : (d : Bool) (v : VertexId) (es : List EdgeRow) (id : EdgeId) (r : EdgeRow) → CanFollow d v es (Some id) → (id.number < length es) × (meets d v (get_or es id.number r).arrow ≡ true) × (slice_get es id.number ≡ Some (get_or es id.number r))
follow_row d v es id r ok =
    let n = ok.named in
    let w = slice_get_within es id.number n.0 n.1 in
    let is = get_or_from_slice_get es id.number n.0 r n.1 in
    (w, subst (λ (x : EdgeRow). meets d v x.arrow ≡ true) (sym is) n.2, slice_get-get_or es id.number r w)

last_named : (d : Bool) (v : VertexId) (es : List EdgeRow) (n : ℕ) (l : Option EdgeId) → IsLast d v (arrows_in es) n l → IsNamed d v es l
last_named d v es n None is = tt
last_named d v es n (Some id) is =
    let r = from_map (λ (row : EdgeRow). row.arrow) es id.number is.edge is.at in
    (r.0, r.1, subst (λ (e : Arrow). meets d v e ≡ true) (sym r.2) is.there)

-- after an edge of a list comes the rest of the list
pub follow_last : (d : Bool) (v : VertexId) (es : List EdgeRow) (id : EdgeId) (r : EdgeRow) → CanFollow d v es (Some id) → IsLast d v (arrows_in es) id.number (link d (get_or es id.number r).next)
follow_last d v es id r ok =
    let row = follow_row d v es id r ok in
    subst (λ (u : VertexId). IsLast d u (arrows_in es) id.number (link d (get_or es id.number r).next)) (end_is d v (get_or es id.number r).arrow row.1) (ok.nexts d id.number (get_or es id.number r) row.0 row.2)

pub follow_next : (d : Bool) (v : VertexId) (es : List EdgeRow) (id : EdgeId) (r : EdgeRow) → CanFollow d v es (Some id) → CanFollow d v es (link d (get_or es id.number r).next)
follow_next d v es id r ok = record { nexts = ok.nexts; named = last_named d v es id.number (link d (get_or es id.number r).next) (follow_last d v es id r ok) }

pub follow_is : (d : Bool) (v : VertexId) (es : List EdgeRow) (id : EdgeId) (r : EdgeRow) → CanFollow d v es (Some id) → edges_from d v es (Some id) ≡ (other_end d (get_or es id.number r).arrow, (get_or es id.number r).arrow.kind) ∷ edges_from d v es (link d (get_or es id.number r).next)
follow_is d v es id r ok =
    let row = follow_row d v es id r ok in
    let e : Arrow = (get_or es id.number r).arrow in
    let at = arrow_at es id.number (get_or es id.number r) row.2 in
    ap reverse (edges_more d v (arrows_in es) id.number e at row.1)
    ∙ reverse-append (edges_at d v (take id.number (arrows_in es))) ((other_end d e, e.kind) ∷ [])
    ∙ ap (λ (l : List (VertexId × EdgeKind)). (other_end d e, e.kind) ∷ reverse l) (last_bound d v (arrows_in es) id.number (link d (get_or es id.number r).next) (follow_last d v es id r ok))

-- from the first edge of a vertex on, a list has all its edges
module _ (d : Bool) (v : VertexId) (vs : List VertexRow) (es : List EdgeRow) (r : VertexRow) (there : v.number < length vs) (ok : AreLinked vs es (length es)) where
  is_last : IsLast d v (arrows_in es) (length es) (link d (get_or vs v.number r).first)
  is_last = ok.firsts d v (get_or vs v.number r) (slice_get-get_or vs v.number r there)

  pub follow_first : CanFollow d v es (link d (get_or vs v.number r).first)
  follow_first = record { nexts = ok.nexts; named = last_named d v es (length es) (link d (get_or vs v.number r).first) is_last }

  pub follow_all : IsPermutation (edges_at d v (arrows_in es)) (edges_from d v es (link d (get_or vs v.number r).first))
  follow_all =
      let len = length_arrows es in
      let all : take (length es) (arrows_in es) ≡ arrows_in es = take_all (length es) (arrows_in es) (omega arith) in
      subst (λ (l : List (VertexId × EdgeKind)). IsPermutation (edges_at d v (arrows_in es)) (reverse l))
      (ap (edges_at d v) (sym all) ∙ last_bound d v (arrows_in es) (length es) (link d (get_or vs v.number r).first) is_last)
      (IsPermutation-reverse (edges_at d v (arrows_in es)))
