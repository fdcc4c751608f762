-- The first stage, and what is made at the end.
use Rattle.std.proofs.Common.{◌≡◌, ℕ, zero, suc, List, [], length, get_or, replicate, Contains, refl, sym, ap, ◌∙◌, subst, arith}
use Rattle.std.proofs.lemmas.List.{length-replicate}
use Rattle.flat_core.specs.declared.step.WireId.{WireId}
use Rattle.flat_core.specs.Form.{FlatForm}
use Rattle.flat_core.specs.Sound.{IsFlat}
use Rattle.flat_core.proofs.Kept.{keeps_ends}
use Rattle.graph_core.specs.declared.vertex.Vertex.{Vertex}
use Rattle.graph_core.specs.declared.vertex.Vertex.TheVariants.{Forward, Reverse, Free}
use Rattle.graph_core.specs.declared.vertex.EdgeKind.{EdgeKind}
use Rattle.graph_core.specs.declared.vertex.EdgeKind.TheVariants.{Target, Control, Availability}
use Rattle.graph_core.specs.declared.graph.VertexId.{VertexId}
use Rattle.graph_core.specs.Arena.{Arena, AreVerticesOf}
use Rattle.graph_core.specs.Circuit.{Uses}
use Rattle.graph_core.specs.Slots.{SlotEdge}
use Rattle.graph_core.proofs.BySlots.{edges_by_slots}
use Rattle.unqomp.specs.declared.uses.Use.{Use}
use Rattle.unqomp.specs.GraphOf.{HasEdges, IsGraphOf}
use Rattle.unqomp.specs.UseList.{uses_before, InUses}
use Rattle.unqomp.specs.Making.{forth, IsForth, IsAlong, IsForthStage, IsWhole, bare}
use Rattle.unqomp.proofs.Stages.{contains_nil}
use Rattle.unqomp.proofs.UseEdges.{slot_map}
use Rattle.unqomp.proofs.UseLists.{before_sound, before_whole}

-- every chain is empty at first
get_or-empty : (n i : ℕ) → get_or {A = List VertexId} (replicate n []) i [] ≡ []
get_or-empty zero i = refl
get_or-empty (suc n) zero = refl
get_or-empty (suc n) (suc i) = get_or-empty n i

pub start : (f : FlatForm) (chains : List (List VertexId)) → chains ≡ replicate (length f.wires) [] → IsForthStage f (bare []) chains 0
start f chains e = record {
  stage = record {
    vertices = λ v. (λ c. absurd (contains_nil v c), λ o. absurd (none v o));
    numbered = λ s h. absurd (omega arith);
    few = omega arith;
    few_edges = omega arith;
    as_many = ap length e ∙ length-replicate (length f.wires) [];
    each = λ w h. subst (λ (ids : List VertexId). AreVerticesOf (bare []) ids []) (sym (ap (λ (l : List (List VertexId)). get_or l w.number []) e ∙ get_or-empty (length f.wires) w.number)) tt;
    edges = λ kind u v. (λ h. absurd (contains_nil h.arrow h.there), λ h. absurd (no_edge kind u v h));
    on_is_there = λ w i v h. cc;
    once = λ w x i j v p q. cc;
  };
  exactly = refl;
}
  where
    none : (v : Vertex) → IsForth f 0 v → ⊥
    none (Forward s) l = omega arith
    none (Reverse s) l = l
    none (Free w) l = l

    no_edge : (kind : EdgeKind) (u v : Vertex) → IsAlong (forth f 0) kind u v → ⊥
    no_edge Target u v h = let p = h.2 in cc
    no_edge Control u v h = h
    no_edge Availability u v h = h

-- all uses of the list are those of the flat form
pub made : (f : FlatForm) → IsFlat f → (g : Arena) (vertices : List Vertex) (chains : List (List VertexId)) → IsWhole f vertices chains → g.vertices ≡ vertices → (uses : List Use) → uses ≡ uses_before f (length f.steps) → HasEdges g (SlotEdge f (InUses uses)) → IsGraphOf f g
made f sound g vertices chains whole same uses all edges = record {
  vertices = λ v. (λ c. (whole.vertices_are v).0 (subst (λ (l : List Vertex). Contains l v) same c), λ o. subst (λ (l : List Vertex). Contains l v) (sym same) ((whole.vertices_are v).1 o));
  edges = λ kind u v. (
    λ h. (edges_by_slots f (keeps_ends f sound) kind u v).1 (slot_map f (InUses uses) (Uses f) told kind u v ((edges kind u v).0 h)),
    λ e. (edges kind u v).1 (slot_map f (Uses f) (InUses uses) listed kind u v ((edges_by_slots f (keeps_ends f sound) kind u v).0 e)),
  );
}
  where
    told : (u : Vertex) (w : WireId) (i : ℕ) → InUses uses u w i → Uses f u w i
    told u w i c = before_sound f (length f.steps) (omega arith) (record { user = u; wire = w; label = i }) (subst (λ (l : List Use). InUses l u w i) all c)

    listed : (u : Vertex) (w : WireId) (i : ℕ) → Uses f u w i → InUses uses u w i
    listed u w i n = subst (λ (l : List Use). InUses l u w i) (sym all) (before_whole f u w i n)
