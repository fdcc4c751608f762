-- Places of vertices, one by one.
use Rattle.std.proofs.Common.{◌≡◌, ℕ, ◌+◌, ◌<◌, List, [], ◌∷◌, ◌++◌, get_or, length, take, subst, sym}
use Rattle.std.proofs.lemmas.List.{take_more}
use Rattle.flat_core.specs.Form.{FlatForm}
use Rattle.graph_core.specs.declared.vertex.Vertex.{Vertex}
use Rattle.flat_compile.specs.declared.cycle.CyclePlace.{CyclePlace}
use Rattle.flat_compile.specs.Places.{IsPlaceOf, ArePlacesOf}

-- one vertex more
pub one_more : (f : FlatForm) (vs : List Vertex) (ps : List CyclePlace) (v : Vertex) (p : CyclePlace) → ArePlacesOf f vs ps → IsPlaceOf f v p → ArePlacesOf f (vs ++ v ∷ []) (ps ++ p ∷ [])
one_more f [] [] v p h i = (i, tt)
one_more f [] (q ∷ ps) v p h i = absurd h
one_more f (u ∷ vs) [] v p h i = absurd h
one_more f (u ∷ vs) (q ∷ ps) v p h i = (h.0, one_more f vs ps v p h.1 i)

-- the places so far, with that of the next vertex
pub next_place : (f : FlatForm) (vs : List Vertex) (ps : List CyclePlace) (p : CyclePlace) (d : Vertex) (i : ℕ) → i < length vs → ArePlacesOf f (take i vs) ps → IsPlaceOf f (get_or vs i d) p → ArePlacesOf f (take (i + 1) vs) (ps ++ p ∷ [])
next_place f vs ps p d i lt h q = subst (λ xs. ArePlacesOf f xs (ps ++ p ∷ [])) (sym (take_more vs i d lt)) (one_more f (take i vs) ps (get_or vs i d) p h q)
