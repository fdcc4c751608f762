-- Elements added to one of three joined lists.
use Rattle.std.proofs.Common.{List, [], ◌∷◌, ◌++◌, sym, subst, append_assoc}
use Rattle.std.proofs.lemmas.List.{append-nil}
use Rattle.sum_laws.specs.Rearranged.{Rearranged}
use Rattle.sum_laws.specs.Rearranged.Rearranged.{then}
use Rattle.sum_laws.proofs.Rearranged.{Rearranged-refl, Rearranged-sym, Rearranged-append_left, Rearranged-append_right, Rearranged-middle}

last_to_first_list : {X : Type 0} (xs ys : List X) (x : X) → Rearranged ((xs ++ ys) ++ x ∷ []) ((xs ++ x ∷ []) ++ ys)
last_to_first_list xs ys x =
    let to_front : Rearranged ((xs ++ ys) ++ x ∷ []) (x ∷ (xs ++ ys)) = subst (λ zs. Rearranged ((xs ++ ys) ++ x ∷ []) (x ∷ zs)) (append-nil (xs ++ ys)) (Rearranged-middle (xs ++ ys) x []) in
    let from_front : Rearranged (x ∷ (xs ++ ys)) ((xs ++ x ∷ []) ++ ys) = subst (Rearranged (x ∷ (xs ++ ys))) (sym (append_assoc xs (x ∷ []) ys)) (Rearranged-sym (Rearranged-middle xs x ys)) in
    then to_front from_front

pub added_to_first : {X : Type 0} (k r l : List X) (x : X) → Rearranged ((k ++ (r ++ l)) ++ x ∷ []) ((k ++ x ∷ []) ++ (r ++ l))
added_to_first k r l x = last_to_first_list k (r ++ l) x

pub added_to_second : {X : Type 0} (k r l : List X) (x : X) → Rearranged ((k ++ (r ++ l)) ++ x ∷ []) (k ++ ((r ++ x ∷ []) ++ l))
added_to_second k r l x =
    subst (λ zs. Rearranged zs (k ++ ((r ++ x ∷ []) ++ l))) (sym (append_assoc k (r ++ l) (x ∷ [])))
    (Rearranged-append_left k (last_to_first_list r l x))

pub added_to_third : {X : Type 0} (k r l : List X) (x : X) → Rearranged ((k ++ (r ++ l)) ++ x ∷ []) (k ++ (r ++ (l ++ x ∷ [])))
added_to_third k r l x =
    subst (λ zs. Rearranged zs (k ++ (r ++ (l ++ x ∷ [])))) (sym (append_assoc k (r ++ l) (x ∷ [])))
    (Rearranged-append_left k (subst (λ zs. Rearranged zs (r ++ (l ++ x ∷ []))) (sym (append_assoc r l (x ∷ []))) (Rearranged-refl (r ++ (l ++ x ∷ [])))))

-- two elements added in turn, told in whatever order
pub added_two : {X : Type 0} (old one two : List X) (x y : X) (made : List X) → Rearranged made (x ∷ y ∷ []) → Rearranged (old ++ x ∷ []) one → Rearranged (one ++ y ∷ []) two → Rearranged (old ++ made) two
added_two old one two x y made m p q =
    then (Rearranged-append_left old m)
    (subst (λ zs. Rearranged zs two) (append_assoc old (x ∷ []) (y ∷ []))
    (then (Rearranged-append_right (y ∷ []) p) q))

-- the elements of one more part added: what is left comes after
pub added_part : {X : Type 0} (whole old new part rest : List X) → Rearranged whole (old ++ (part ++ rest)) → Rearranged (old ++ part) new → Rearranged whole (new ++ rest)
added_part whole old new part rest w p =
    then (subst (Rearranged whole) (sym (append_assoc old part rest)) w) (Rearranged-append_right rest p)
