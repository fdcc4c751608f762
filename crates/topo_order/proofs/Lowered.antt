-- Counting edges by a look at the edges of one vertex.
use Rattle.std.proofs.Common.{◌≡◌, ℕ, zero, suc, ◌+◌, ◌-◌, ◌<◌, ◌≤◌, ◌⊎◌, Bool, true, false, cond, not, ◌&&◌, eqb, List, [], ◌∷◌, ◌++◌, length, get_or, set, replicate, take, drop, Contains, count_by, IsPermutation, refl, sym, ap, ◌∙◌, subst, inl, inr, arith, length-append, length-set, get_or-set_same, get_or-set_other}
use Rattle.std.proofs.lemmas.Bool.{cases_eq, ne_eqb, eq-eqb}
use Rattle.std.proofs.lemmas.List.{length-replicate, get_or_append_left, get_or_push, take_at}
use Rattle.std.proofs.lemmas.List.Sorted.{Contains-permutation, IsPermutation-sym, length_permutation, sum_by-IsPermutation}
use Rattle.graph_core.specs.declared.vertex.EdgeKind.{EdgeKind}
use Rattle.graph_core.specs.declared.graph.VertexId.{VertexId}
use Rattle.graph_core.specs.declared.graph.Arrow.{Arrow}
use Rattle.graph_core.specs.Arena.{Arena, IsArena}
use Rattle.graph_core.specs.EdgesAt.{edges_at}
use Rattle.topo_order.specs.Flags.{is_flagged, IsReadyAt, IsNextAt}
use Rattle.topo_order.specs.Waiting.{waits, waiting, joins, between, AreCounters, AreLowered}
use Rattle.topo_order.proofs.Orders.{contains_nil, contains_cases, contains_here, contains_later}
use Rattle.topo_order.proofs.Counters.{count_cons, counters_tell_ready}
use Rattle.topo_order.proofs.Best.{vertex_id}
use Rattle.topo_order.proofs.Going.{Going, going_start, going_more}

-- as many edges stand at a vertex as enter it
pub length_entering : (v : VertexId) (arrows : List Arrow) → length (edges_at true v arrows) ≡ count_by (waits [] v) arrows
length_entering v [] = refl
length_entering v (e ∷ arrows) = sym (count_cons (waits [] v) e arrows ∙ by (eqb e.to.number v.number) (length_entering v arrows))
  where
    by : (b : Bool) → length (edges_at true v arrows) ≡ count_by (waits [] v) arrows → cond (b && true) 1 0 + count_by (waits [] v) arrows ≡ length (cond b ((e.from, e.kind) ∷ edges_at true v arrows) (edges_at true v arrows))
    by true ih = omega (arith, ih)
    by false ih = omega (arith, ih)

abbrev one : Bool → ℕ
one b = cond b 1 0

-- an edge left to look at that leads to u
abbrev pub leads : VertexId → VertexId × EdgeKind → Bool
leads u x = eqb x.0.number u.number

pub leading : (v u : VertexId) (arrows : List Arrow) → count_by (leads u) (edges_at false v arrows) ≡ count_by (joins v u) arrows
leading v u [] = refl
leading v u (e ∷ arrows) = by (eqb e.from.number v.number) (leading v u arrows) ∙ sym (count_cons (joins v u) e arrows)
  where
    narrow : (a : Bool) → one a ≡ one (a && true)
    narrow true = refl
    narrow false = refl

    none : (a : Bool) → one (a && false) ≡ 0
    none true = refl
    none false = refl

    by : (b : Bool) → count_by (leads u) (edges_at false v arrows) ≡ count_by (joins v u) arrows → count_by (leads u) (cond b ((e.to, e.kind) ∷ edges_at false v arrows) (edges_at false v arrows)) ≡ cond (eqb e.to.number u.number && b) 1 0 + count_by (joins v u) arrows
    by true ih = count_cons (leads u) (e.to, e.kind) (edges_at false v arrows) ∙ omega (arith, ih, narrow (eqb e.to.number u.number))
    by false ih = omega (arith, ih, none (eqb e.to.number u.number))

-- an entry's other end is there
pub leaving_within : (g : Arena) (v : VertexId) (arrows : List Arrow) → ((e : Arrow) → Contains arrows e → e.to.number < length g.vertices) → (x : VertexId × EdgeKind) → Contains (edges_at false v arrows) x → x.0.number < length g.vertices
leaving_within g v [] ends x c = absurd (contains_nil x c)
leaving_within g v (e ∷ arrows) ends x c = by (eqb e.from.number v.number) c (leaving_within g v arrows (λ d i. ends d (contains_later e d arrows i)) x)
  where
    by : (b : Bool) → Contains (cond b ((e.to, e.kind) ∷ edges_at false v arrows) (edges_at false v arrows)) x → (Contains (edges_at false v arrows) x → x.0.number < length g.vertices) → x.0.number < length g.vertices
    by true c ih = elim (contains_cases (e.to, e.kind) x (edges_at false v arrows) c) [
      | inl is ↦ subst (λ (y : VertexId × EdgeKind). y.0.number < length g.vertices) is (ends e (contains_here e e arrows refl))
      | inr d ↦ ih d
    ]
    by false c ih = ih c

-- the edges that enter v: those counted and those left
pub record Counting (g : Arena) (v : VertexId) (count : ℕ) (left : List (VertexId × EdgeKind)) : Type 0 where
  pub so_far : count + length left ≡ waiting g [] v

pub counting_start : (g : Arena) (v : VertexId) (left : List (VertexId × EdgeKind)) → IsPermutation (edges_at true v g.arrows) left → Counting g v 0 left
counting_start g v left p = record { so_far = omega (arith, length_permutation (edges_at true v g.arrows) left p, length_entering v g.arrows) }

-- the counters of the first n ids
pub record CountersBelow (g : Arena) (n : ℕ) (counters : List ℕ) : Type 0 where
  pub sized : length counters ≡ n
  pub tell : (u : VertexId) → u.number < n → get_or counters u.number 0 ≡ waiting g [] u

pub below_start : (g : Arena) → CountersBelow g 0 []
below_start g = record { sized = refl; tell = λ u l. absurd (omega arith) }

pub below_more : (g : Arena) (n : ℕ) (counters : List ℕ) (c : ℕ) → CountersBelow g n counters → c ≡ waiting g [] (vertex_id n) → CountersBelow g (n + 1) (counters ++ c ∷ [])
below_more g n counters c b e = record {
  sized = length-append counters (c ∷ []) ∙ ap (λ (k : ℕ). k + 1) b.sized;
  tell = λ u l. elim (cases_eq n u.number) [
    | inl s ↦ subst (λ (x : VertexId). get_or (counters ++ c ∷ []) x.number 0 ≡ waiting g [] x) (ap vertex_id s) (get_or_push counters c 0 n b.sized ∙ e)
    | inr ne ↦ let m : u.number < n = omega arith in let k : u.number < length counters = (let s = b.sized in omega arith) in get_or_append_left counters (c ∷ []) 0 u.number k ∙ b.tell u m
  ];
}

pub below_end : (g : Arena) (n : ℕ) (counters : List ℕ) → CountersBelow g n counters → n ≡ length g.vertices → AreCounters g [] counters
below_end g n counters b e = record { sized = b.sized ∙ e; tell = λ u l. b.tell u (omega arith) }

-- the counters where the edges left are not yet taken off
pub record Lowering (g : Arena) (v : VertexId) (old now : List ℕ) (left : List (VertexId × EdgeKind)) : Type 0 where
  pub sized : length now ≡ length g.vertices
  pub inside : (x : VertexId × EdgeKind) → Contains left x → x.0.number < length g.vertices
  pub enough : (u : VertexId) → u.number < length g.vertices → between g v u ≤ get_or old u.number 0
  pub so_far : (u : VertexId) → u.number < length g.vertices → get_or now u.number 0 + between g v u ≡ get_or old u.number 0 + count_by (leads u) left

pub lowering_start : (g : Arena) (v : VertexId) (old : List ℕ) (left : List (VertexId × EdgeKind)) → IsArena g → length old ≡ length g.vertices → ((u : VertexId) → u.number < length g.vertices → between g v u ≤ get_or old u.number 0) → IsPermutation (edges_at false v g.arrows) left → Lowering g v old old left
lowering_start g v old left ok e enough p = record {
  sized = e;
  inside = λ x c. leaving_within g v g.arrows (λ a i. (ok.ends a i).1) x (Contains-permutation left (edges_at false v g.arrows) x (IsPermutation-sym (edges_at false v g.arrows) left p) c);
  enough = enough;
  so_far = λ u l. ap (λ (n : ℕ). get_or old u.number 0 + n) (sym (sum_by-IsPermutation (λ x. cond (leads u x) 1 0) (edges_at false v g.arrows) left p ∙ leading v u g.arrows));
}

module _ (g : Arena) (v : VertexId) (old now : List ℕ) (left rest : List (VertexId × EdgeKind)) (e : VertexId × EdgeKind) (s : Lowering g v old now left) (is : left ≡ e ∷ rest) where
  counted : (u : VertexId) → count_by (leads u) left ≡ cond (eqb e.0.number u.number) 1 0 + count_by (leads u) rest
  counted u = ap (λ (l : List (VertexId × EdgeKind)). count_by (leads u) l) is ∙ count_cons (leads u) e rest

  pub lowering_within : e.0.number < length g.vertices
  lowering_within = s.inside e (subst (λ (l : List (VertexId × EdgeKind)). Contains l e) (sym is) (contains_here e e rest refl))

  here : count_by (leads e.0) left ≡ 1 + count_by (leads e.0) rest
  here = counted e.0 ∙ (let t : cond (eqb e.0.number e.0.number) 1 0 ≡ 1 = ap {B = ℕ} (λ (b : Bool). cond b 1 0) (eq-eqb e.0.number e.0.number refl) in omega arith)

  pub lowering_some : 1 ≤ get_or now e.0.number 0
  lowering_some = omega (arith, s.so_far e.0 lowering_within, s.enough e.0 lowering_within, here)

  pub lowering_more : Lowering g v old (set now e.0.number (get_or now e.0.number 0 - 1)) rest
  lowering_more = record {
    sized = length-set now e.0.number (get_or now e.0.number 0 - 1) ∙ s.sized;
    inside = λ x c. s.inside x (subst (λ (l : List (VertexId × EdgeKind)). Contains l x) (sym is) (contains_later e x rest c));
    enough = s.enough;
    so_far = λ u l. at_one u l (cases_eq u.number e.0.number);
  }
    where
      at_e : get_or (set now e.0.number (get_or now e.0.number 0 - 1)) e.0.number 0 ≡ get_or now e.0.number 0 - 1
      at_e = get_or-set_same now e.0.number (get_or now e.0.number 0 - 1) 0 (let q = s.sized in let w = lowering_within in omega arith)

      at_one : (u : VertexId) → u.number < length g.vertices → (u.number ≡ e.0.number) ⊎ (u.number ≡ e.0.number → ⊥) → get_or (set now e.0.number (get_or now e.0.number 0 - 1)) u.number 0 + between g v u ≡ get_or old u.number 0 + count_by (leads u) rest
      at_one u l (inl same) =
          subst (λ (x : VertexId). get_or (set now e.0.number (get_or now e.0.number 0 - 1)) x.number 0 + between g v x ≡ get_or old x.number 0 + count_by (leads x) rest) (ap vertex_id (sym same)) (omega (arith, at_e, here, lowering_some, s.so_far e.0 lowering_within))
      at_one u l (inr ne) =
          let t : cond (eqb e.0.number u.number) 1 0 ≡ 0 = ap {B = ℕ} (λ (b : Bool). cond b 1 0) (ne_eqb e.0.number u.number (λ q. ne (sym q))) in
          omega (arith, s.so_far u l, counted u, t, get_or-set_other now e.0.number u.number (get_or now e.0.number 0 - 1) 0 ne)

pub lowering_end : (g : Arena) (v : VertexId) (old now : List ℕ) (left : List (VertexId × EdgeKind)) → Lowering g v old now left → left ≡ [] → AreLowered g v old now
lowering_end g v old now left s none = record {
  sized = s.sized;
  lowered = λ u l. let z : count_by (leads u) left ≡ 0 = ap (λ (x : List (VertexId × EdgeKind)). count_by (leads u) x) none in omega (arith, s.so_far u l, z);
}

-- counts by tests that agree
counts_agree : {A : Type 0} (p q : A → Bool) → ((x : A) → p x ≡ q x) → (xs : List A) → count_by p xs ≡ count_by q xs
counts_agree p q e [] = refl
counts_agree p q e (x ∷ xs) =
    let a : cond (p x) 1 0 ≡ cond (q x) 1 0 = ap {B = ℕ} (λ (b : Bool). cond b 1 0) (e x) in
    omega (arith, count_cons p x xs, count_cons q x xs, counts_agree p q e xs, a)

pub none_flagged : (n : ℕ) (v : VertexId) → is_flagged (replicate n false) v ≡ false
none_flagged n v = at n v.number
  where
    at : (n i : ℕ) → get_or (replicate n false) i false ≡ false
    at zero i = refl
    at (suc n) zero = refl
    at (suc n) (suc i) = at n i

pub counters_start : (g : Arena) (n : ℕ) (counters : List ℕ) → AreCounters g [] counters → AreCounters g (replicate n false) counters
counters_start g n counters c = record {
  sized = c.sized;
  tell = λ u l. c.tell u l ∙ counts_agree (waits [] u) (waits (replicate n false) u) (λ e. ap (λ (b : Bool). eqb e.to.number u.number && not b) (sym (none_flagged n e.from))) g.arrows;
}

module _ (g : Arena) (flags : List Bool) (counters : List ℕ) (are : AreCounters g flags counters) where
  pub told_ready : (u : VertexId) → u.number < length g.vertices → (is_flagged flags u ≡ false) × (get_or counters u.number 0 ≡ 0) → IsReadyAt g flags u
  told_ready u l r = ((counters_tell_ready g flags).ready u).1 (r.0, sym (are.tell u l) ∙ r.1)

  pub ready_told : (u : VertexId) → u.number < length g.vertices → IsReadyAt g flags u → (is_flagged flags u ≡ false) × (get_or counters u.number 0 ≡ 0)
  ready_told u l r = let w = ((counters_tell_ready g flags).ready u).0 r in (w.0, are.tell u l ∙ w.1)

  pub counters_enough : (v : VertexId) → v.number < length flags → is_flagged flags v ≡ false → (u : VertexId) → u.number < length g.vertices → between g v u ≤ get_or counters u.number 0
  counters_enough v m f u l = omega (arith, are.tell u l, (counters_tell_ready g flags).step v u m f)

  pub counters_more : (v : VertexId) → v.number < length flags → is_flagged flags v ≡ false → (new : List ℕ) → AreLowered g v counters new → AreCounters g (set flags v.number true) new
  counters_more v m f new low = record {
    sized = low.sized;
    tell = λ u l. omega (arith, are.tell u l, (counters_tell_ready g flags).step v u m f, low.lowered u l);
  }

-- all flags unset, and the counters of the edges that enter
pub start_turns : (g : Arena) (n : ℕ) (flags : List Bool) (ids : List VertexId) (counters : List ℕ) → n ≡ length g.vertices → flags ≡ replicate n false → ids ≡ [] → AreCounters g [] counters → Going g flags ids × AreCounters g flags counters
start_turns g n flags ids counters e f none c =
    rw (f, none) (going_start g (replicate n false) (length-replicate n false ∙ e) (none_flagged n), counters_start g n counters c)

-- a vertex is taken: its flag is set, and the counters fall
module _ (g : Arena) (flags : List Bool) (ids : List VertexId) (counters : List ℕ) (v : VertexId) (so : Going g flags ids × AreCounters g flags counters) (n : IsNextAt g flags v) where
  inside : v.number < length flags
  inside = let s = so.0.sized in let t = n.there in omega arith

  pub turn_enough : (u : VertexId) → u.number < length g.vertices → between g v u ≤ get_or counters u.number 0
  turn_enough = counters_enough g flags counters so.1 v inside n.ready.fresh

  pub turn_more : IsArena g → (size : ℕ) (new whole : List ℕ) → size ≡ length counters → AreLowered g v counters new → whole ≡ take size (new ++ drop (length new) counters) → Going g (set flags v.number true) (ids ++ v ∷ []) × AreCounters g (set flags v.number true) whole
  turn_more ok size new whole e low w = (going_more g ok flags ids so.0 v n, rw w (subst (AreCounters g (set flags v.number true)) (sym back) (counters_more g flags counters so.1 v inside n.ready.fresh new low)))
    where
      all : length new ≡ size
      all = let s = so.1.sized in let t = low.sized in omega arith

      back : take size (new ++ drop (length new) counters) ≡ new
      back = take_at new (drop (length new) counters) size all
