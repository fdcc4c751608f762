-- Adding to an arena keeps it one.
use Rattle.std.proofs.Common.{◌≡◌, ℕ, zero, suc, ◌+◌, ◌<◌, ◌^◌, ◌⊎◌, List, [], ◌∷◌, ◌++◌, length, slice_get, Some, Contains, refl, sym, ap, ◌∙◌, subst, inl, inr, arith, length-append, append_assoc, Option, None, IfSome}
use Rattle.std.proofs.lemmas.List.Elements.{Contains-push_cases}
use Rattle.std.proofs.lemmas.Option.{same_Some}
use Rattle.graph_core.specs.declared.vertex.Vertex.{Vertex}
use Rattle.graph_core.specs.declared.vertex.EdgeKind.TheVariants.{Target}
use Rattle.graph_core.specs.declared.graph.VertexId.{VertexId}
use Rattle.graph_core.specs.declared.graph.Arrow.{Arrow}
use Rattle.graph_core.specs.Arena.{Arena, IsArena, IsFreeFor, with_arrows, control, availability, use_arrows}
use Rattle.graph_core.proofs.Places.{at_append, contains_at}

-- a list without repeats has none after something new
module _ {A : Type 0} (xs : List A) (x : A) (fresh : ¬ Contains xs x) (one : (i j : ℕ) (y : A) → slice_get xs i ≡ Some y → slice_get xs j ≡ Some y → i ≡ j) where
  only_here : (i : ℕ) (y : A) → slice_get (x ∷ []) i ≡ Some y → (i ≡ 0) × (x ≡ y)
  only_here zero y h = (refl, same_Some x y h)
  only_here (suc i) y h = cc

  place_cases : (i : ℕ) (y : A) → slice_get (xs ++ x ∷ []) i ≡ Some y → (slice_get xs i ≡ Some y) ⊎ ((i ≡ length xs) × (x ≡ y))
  place_cases i y h = elim (at_append xs (x ∷ []) i y h) [
    | inl a ↦ inl a
    | inr r ↦ let o = only_here r.0 y r.2 in inr ((let e = r.1 in let z = o.0 in omega arith), o.1)
  ]

  pub one_more : (i j : ℕ) (y : A) → slice_get (xs ++ x ∷ []) i ≡ Some y → slice_get (xs ++ x ∷ []) j ≡ Some y → i ≡ j
  one_more i j y a b = go (place_cases i y a) (place_cases j y b)
    where
      go : (slice_get xs i ≡ Some y) ⊎ ((i ≡ length xs) × (x ≡ y)) → (slice_get xs j ≡ Some y) ⊎ ((j ≡ length xs) × (x ≡ y)) → i ≡ j
      go (inl p) (inl q) = one i j y p q
      go (inl p) (inr q) = absurd (fresh (subst (Contains xs) (sym q.1) (contains_at xs i y p)))
      go (inr p) (inl q) = absurd (fresh (subst (Contains xs) (sym p.1) (contains_at xs j y q)))
      go (inr p) (inr q) = p.0 ∙ sym q.0

pub arena_vertex : (g : Arena) (v : Vertex) → IsArena g → ¬ Contains g.vertices v → length g.vertices + 1 < 2 ^ 32 → IsArena (record { vertices = g.vertices ++ v ∷ []; arrows = g.arrows })
arena_vertex g v ok fresh room = record {
  few = let l = length-append g.vertices (v ∷ []) in omega arith;
  few_edges = ok.few_edges;
  ends = λ e c. let r = ok.ends e c in let l = length-append g.vertices (v ∷ []) in ((let a = r.0 in omega arith), (let a = r.1 in omega arith));
  one_id = one_more g.vertices v fresh ok.one_id;
  one_edge = ok.one_edge;
  one_out = ok.one_out;
  one_in = ok.one_in;
}

pub arena_edge : (g : Arena) (e : Arrow) → IsArena g → IsFreeFor g e → length g.arrows + 1 < 2 ^ 32 → IsArena (record { vertices = g.vertices; arrows = g.arrows ++ e ∷ [] })
arena_edge g e ok free room = record {
  few = ok.few;
  few_edges = let l = length-append g.arrows (e ∷ []) in omega arith;
  ends = λ d c. elim (Contains-push_cases g.arrows e d c) [
    | inl a ↦ ok.ends d a
    | inr s ↦ subst (λ (x : Arrow). (x.from.number < length g.vertices) × (x.to.number < length g.vertices)) s free.ends
  ];
  one_id = ok.one_id;
  one_edge = one_more g.arrows e free.fresh ok.one_edge;
  one_out = λ c d p q t s f. out (Contains-push_cases g.arrows e c p) (Contains-push_cases g.arrows e d q) t s f;
  one_in = λ c d p q t s f. into (Contains-push_cases g.arrows e c p) (Contains-push_cases g.arrows e d q) t s f;
}
  where
    out : {c d : Arrow} → Contains g.arrows c ⊎ (e ≡ c) → Contains g.arrows d ⊎ (e ≡ d) → c.kind ≡ Target → d.kind ≡ Target → c.from ≡ d.from → c ≡ d
    out {c} {d} (inl p) (inl q) t s f = ok.one_out c d p q t s f
    out {c} {d} (inl p) (inr q) t s f = absurd (free.first_out (ap (λ (x : Arrow). x.kind) q ∙ s) c p t (f ∙ sym (ap (λ (x : Arrow). x.from) q)))
    out {c} {d} (inr p) (inl q) t s f = absurd (free.first_out (ap (λ (x : Arrow). x.kind) p ∙ t) d q s (sym f ∙ sym (ap (λ (x : Arrow). x.from) p)))
    out {c} {d} (inr p) (inr q) t s f = sym p ∙ q

    into : {c d : Arrow} → Contains g.arrows c ⊎ (e ≡ c) → Contains g.arrows d ⊎ (e ≡ d) → c.kind ≡ Target → d.kind ≡ Target → c.to ≡ d.to → c ≡ d
    into {c} {d} (inl p) (inl q) t s f = ok.one_in c d p q t s f
    into {c} {d} (inl p) (inr q) t s f = absurd (free.first_in (ap (λ (x : Arrow). x.kind) q ∙ s) c p t (f ∙ sym (ap (λ (x : Arrow). x.to) q)))
    into {c} {d} (inr p) (inl q) t s f = absurd (free.first_in (ap (λ (x : Arrow). x.kind) p ∙ t) d q s (sym f ∙ sym (ap (λ (x : Arrow). x.to) p)))
    into {c} {d} (inr p) (inr q) t s f = sym p ∙ q

-- an edge of another kind than Target may be added beside one of another kind
free_beside : (g : Arena) (d e : Arrow) → IsFreeFor g e → (e.kind ≡ Target → ⊥) → (d.kind ≡ e.kind → ⊥) → IsFreeFor (with_arrows g (d ∷ [])) e
free_beside g d e free other differ = record {
  ends = free.ends;
  fresh = λ c. elim (Contains-push_cases g.arrows d e c) [
    | inl a ↦ free.fresh a
    | inr s ↦ differ (ap (λ (x : Arrow). x.kind) s)
  ];
  first_out = λ t. absurd (other t);
  first_in = λ t. absurd (other t);
}

pub arena_use : (g : Arena) (holder user : VertexId) (next : Option VertexId) → IsArena g → IsFreeFor g (control holder user) → IfSome next (λ n. IsFreeFor g (availability user n)) → length g.arrows + 2 < 2 ^ 32 → IsArena (with_arrows g (use_arrows holder user next))
arena_use g holder user None ok free more room = arena_edge g (control holder user) ok free (omega arith)
arena_use g holder user (Some next) ok free more room =
    let d : Arrow = control holder user in
    let e : Arrow = availability user next in
    let longer = length-append g.arrows (d ∷ []) in
    subst (λ (l : List Arrow). IsArena (record { vertices = g.vertices; arrows = l })) (append_assoc g.arrows (d ∷ []) (e ∷ []))
    (arena_edge (with_arrows g (d ∷ [])) e (arena_edge g d ok free (omega arith)) (free_beside g d e more (λ t. cc) (λ t. cc)) (omega arith))
