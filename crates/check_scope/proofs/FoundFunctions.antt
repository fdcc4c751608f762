-- Functions that are found by their names.
use Rattle.std.proofs.Common.{◌≡◌, refl, ℕ, zero, suc, ◌+◌, ◌<◌, ◌≤◌, ◌⊎◌, inl, inr, Bool, true, false, cond, List, [], ◌∷◌, ◌++◌, Option, Some, None, ◌∙◌, sym, ap, take, map, reverse, get_or, length, slice_get, option_map, add-one, arith}
use Rattle.std.proofs.lemmas.List.{take_more, take_all, reverse-append, length-reverse, length-take, length-map, map_push}
use Rattle.std.proofs.lemmas.Option.{slice_get_past, slice_get-get_or, slice_get-map, slice_get_within}
use Rattle.silq_tree.specs.declared.node.NameId.{NameId}
use Rattle.silq_tree.specs.declared.node.FunId.{FunId}
use Rattle.silq_tree.specs.Syntax.{Function}
use Rattle.silq_tree.specs.Arena.{Forest, nothing, fun_at, program_at}
use Rattle.silq_types.specs.Types.{same_name}
use Rattle.check_scope.specs.Library.{Shelf, functions_of, before_at, found_at, names_at}
use Rattle.check_scope.specs.NameIndex.{is_name, last_below}
use Rattle.silq_types.specs.Calls.{find_fun, Found}
use Rattle.check_scope.proofs.NameChains.{found, is_there}

-- the names of one function more
pub names_more : (nodes : Forest) (funs : List FunId) (i : ℕ) (d : FunId) (x : NameId) → i < length funs → (fun_at nodes (get_or funs i d)).name ≡ x → names_at nodes (take (i + 1) funs) ≡ names_at nodes (take i funs) ++ x ∷ []
names_more nodes funs i d x l e =
    ap (names_at nodes) (take_more funs i d l)
    ∙ ap (λ (fs : List Function). map (λ (f : Function). f.name) fs) (map_push (fun_at nodes) (take i funs) (get_or funs i d))
    ∙ map_push (λ (f : Function). f.name) (map (fun_at nodes) (take i funs)) (fun_at nodes (get_or funs i d))
    ∙ ap (λ (y : NameId). names_at nodes (take i funs) ++ y ∷ []) e

under_or_past : (n m : ℕ) → (n < m) ⊎ (m ≤ n)
under_or_past n m = grind arith

both_found : (b : Bool) (l : Shelf) (n : ℕ) (f g : Found) (o : Option Found) (r : Option ℕ) → f ≡ found_at l n → o ≡ option_map (found_at l) r → cond b (Some f) o ≡ option_map (found_at l) (cond b (Some n) r)
both_found true l n f g o r e h = ap Some e
both_found false l n f g o r e h = h

-- the last function of a name, by the number that the index tells
pub find_by_index : (l : Shelf) (x : NameId) (n : ℕ) → find_fun (before_at l n) x ≡ option_map (found_at l) (last_below (names_at l.nodes l.funs) n x)
find_by_index l x zero = refl
find_by_index l x (suc n) = go (find_by_index l x n) (under_or_past n (length (functions_of l)))
  where
    go : find_fun (before_at l n) x ≡ option_map (found_at l) (last_below (names_at l.nodes l.funs) n x) → ((n < length (functions_of l)) ⊎ (length (functions_of l) ≤ n)) → find_fun (before_at l (suc n)) x ≡ option_map (found_at l) (last_below (names_at l.nodes l.funs) (suc n) x)
    go h (inl under) =
        let fs = functions_of l in
        let f : Function = get_or fs n nothing in
        let one : take (suc n) fs ≡ take n fs ++ f ∷ [] = ap (λ (k : ℕ). take k fs) (sym (add-one n)) ∙ take_more fs n nothing under in
        let back : before_at l (suc n) ≡ f ∷ before_at l n = ap reverse one ∙ reverse-append (take n fs) (f ∷ []) in
        let count : length (before_at l n) ≡ n = length-reverse (take n fs) ∙ (let e : length (take n fs) ≡ n = omega (arith, length-take n fs) in e) in
        let here : Found = record { number = length (before_at l n); fun = f } in
        let is : here ≡ found_at l n = λ i. record { number = count i; fun = f } in
        let at : slice_get (names_at l.nodes l.funs) n ≡ Some f.name = slice_get-map (λ (g : Function). g.name) fs n ∙ ap (option_map (λ (g : Function). g.name)) (slice_get-get_or fs n nothing under) in
        ap (λ (gs : List Function). find_fun gs x) back
        ∙ both_found (same_name f.name x) l n here here (find_fun (before_at l n) x) (last_below (names_at l.nodes l.funs) n x) is h
        ∙ ap (λ (o : Option NameId). option_map (found_at l) (cond (is_name x o) (Some n) (last_below (names_at l.nodes l.funs) n x))) (sym at)
    go h (inr past) =
        let fs = functions_of l in
        let all : take (suc n) fs ≡ take n fs = take_all (suc n) fs (omega arith) ∙ sym (take_all n fs past) in
        let at : slice_get (names_at l.nodes l.funs) n ≡ None = slice_get-map (λ (g : Function). g.name) fs n ∙ ap (option_map (λ (g : Function). g.name)) (slice_get_past fs n past) in
        ap (λ (gs : List Function). find_fun (reverse gs) x) all
        ∙ h
        ∙ ap (λ (o : Option NameId). option_map (found_at l) (cond (is_name x o) (Some n) (last_below (names_at l.nodes l.funs) n x))) (sym at)

-- the number is below the given one
pub number_below : (names : List NameId) (n : ℕ) (x : NameId) (i : ℕ) → Some i ≡ last_below names n x → i < n
number_below names n x i e = (found names x n i (sym e)).below

pub number_within : (nodes : Forest) (funs : List FunId) (names : List NameId) (n : ℕ) (x : NameId) (i : ℕ) → names ≡ names_at nodes funs → Some i ≡ last_below names n x → i < length funs
number_within nodes funs names n x i same e =
    let there = is_there names x i (found names x n i (sym e)).here in
    let within : i < length names = slice_get_within names i x there in
    let len : length names ≡ length funs = ap length same ∙ length-map (program_at nodes funs) (λ (f : Function). f.name) ∙ length-map funs (fun_at nodes) in
    omega arith

pub found_by_index : (l : Shelf) (names : List NameId) (n : ℕ) (x : NameId) (r : Option ℕ) → names ≡ names_at l.nodes l.funs → r ≡ last_below names n x → find_fun (before_at l n) x ≡ option_map (found_at l) r
found_by_index l names n x r same e =
    find_by_index l x n ∙ ap (λ (ns : List NameId). option_map (found_at l) (last_below ns n x)) (sym same) ∙ ap (option_map (found_at l)) (sym e)
