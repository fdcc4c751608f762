-- The qubits that are told of wires, one after another.
use Rattle.std.proofs.Common.{◌≡◌, ℕ, suc, ◌+◌, ◌<◌, true, cond, Option, Some, None, IsSome, List, [], ◌∷◌, ◌++◌, All, Contains, length, map, take, get_or, slice_get, refl, sym, ◌∙◌, ap, subst, arith}
use Rattle.std.proofs.lemmas.Bool.{or_right}
use Rattle.std.proofs.lemmas.List.{take_more, map-append, get_or_default}
use Rattle.std.proofs.lemmas.List.Elements.{All-nil, All-cons, Contains-append_left, Contains-append_right}
use Rattle.std.proofs.lemmas.Option.{slice_get-get_or}
use Rattle.flat_core.specs.declared.step.WireId.{WireId}
use Rattle.flat_core.specs.Form.{FlatForm}
use Rattle.flat_core.specs.Label.{end_of}
use Rattle.flat_core.specs.Sound.{joined as wires_joined}
use Rattle.move_plan.specs.Effect.{is_output}
use Rattle.move_plan.specs.Live.{live, live_at_end}
use Rattle.move_plan.specs.declared.moves.Move.{Move}
use Rattle.move_plan.specs.Progress.{Progress, at_start, progress}
use Rattle.qubit_alloc.specs.Place.{Place, first_place, place_all, at_end, place_plan}
use Rattle.qubit_alloc.specs.State.{PlacerState, progress_of, qubit_told, on_in, Tells}
use Rattle.qubit_alloc.proofs.Starting.{live_start}
use Rattle.plan_gates.specs.PlanCircuit.{qubits_on}
use Rattle.plan_gates.specs.Laws.{TellsLists, PlacersTellLists}
use Rattle.plan_gates.proofs.Ends.{input_there}

pub one_told : {A B C : Type 0} (f : A → C) (g : B → C) (xs : List A) (told next : List B) (i : ℕ) (x : A) (y : B) → i < length xs → slice_get xs i ≡ Some x
    → map g told ≡ map f (take i xs) → g y ≡ f x → next ≡ told ++ y ∷ [] → map g next ≡ map f (take (i + 1) xs)
one_told f g xs told next i x y l is so_far e made =
    let read : Some (get_or xs i x) ≡ Some x = sym (slice_get-get_or xs i x l) ∙ is in
    let at : get_or xs i x ≡ x = cc in
    ap (map g) made ∙ map-append g told (y ∷ []) ∙ (λ k. so_far k ++ (e ∙ ap f (sym at)) k ∷ []) ∙ sym (map-append f (take i xs) (get_or xs i x ∷ [])) ∙ ap (map f) (sym (take_more xs i x l))

-- wires that stand in these places
module _ (v : PlacerState) (place : Place) where
  wires_told : (wires : List WireId) → ((w : WireId) → Contains wires w → qubit_told v w ≡ Some (place w)) → map (qubit_told v) wires ≡ map Some (map place wires)
  wires_told [] h = refl
  wires_told (w ∷ wires) h =
      let here : qubit_told v w ≡ Some (place w) = h w (0, omega arith, refl) in
      let rest : map (qubit_told v) wires ≡ map Some (map place wires) = wires_told wires (λ x c. h x (suc c.0, omega (arith, c.1), c.2)) in
      λ i. here i ∷ rest i

  lists_told : (lists : List (List WireId)) → ((w : WireId) → Contains (wires_joined lists) w → qubit_told v w ≡ Some (place w)) → map (map (qubit_told v)) lists ≡ map (map Some) (qubits_on place lists)
  lists_told [] h = refl
  lists_told (wires ∷ lists) h =
      let here = wires_told wires (λ w c. h w (Contains-append_left wires (wires_joined lists) w c)) in
      let rest = lists_told lists (λ w c. h w (Contains-append_right wires (wires_joined lists) w c)) in
      λ i. here i ∷ rest i

  all_told : (wires : List WireId) → ((w : WireId) → Contains wires w → qubit_told v w ≡ Some (place w)) → All (λ w. IsSome (qubit_told v w)) wires
  all_told wires h = λ k d l. subst IsSome (sym (h (get_or wires k d) (k, l, get_or_default wires k (get_or wires k d) d l))) refl

  each_told : (lists : List (List WireId)) → ((w : WireId) → Contains (wires_joined lists) w → qubit_told v w ≡ Some (place w)) → All (All (λ w. IsSome (qubit_told v w))) lists
  each_told [] h = All-nil (All (λ w. IsSome (qubit_told v w)))
  each_told (wires ∷ lists) h =
      All-cons (All (λ w. IsSome (qubit_told v w))) wires lists
      (all_told wires (λ w c. h w (Contains-append_left wires (wires_joined lists) w c)))
      (each_told lists (λ w c. h w (Contains-append_right wires (wires_joined lists) w c)))

-- the numbers of a list that are all there
abbrev number_or : Option ℕ → ℕ
number_or None = 0
number_or (Some q) = q

numbers_of : (qs : List ℕ) → map number_or (map Some qs) ≡ qs
numbers_of [] = refl
numbers_of (q ∷ qs) = ap (λ xs. q ∷ xs) (numbers_of qs)

numbers_of_all : (lists : List (List ℕ)) → map (map number_or) (map (map Some) lists) ≡ lists
numbers_of_all [] = refl
numbers_of_all (qs ∷ lists) = λ i. numbers_of qs i ∷ numbers_of_all lists i

tells_lists : (v : PlacerState) (place : Place) (lists : List (List WireId)) → ((w : WireId) → Contains (wires_joined lists) w → qubit_told v w ≡ Some (place w)) → TellsLists v lists (qubits_on place lists)
tells_lists v place lists h = record {
  on_qubits = each_told v place lists h;
  only = λ told e. sym (numbers_of_all told) ∙ ap (map (map number_or)) (e ∙ lists_told v place lists h) ∙ numbers_of_all (qubits_on place lists);
}

told_of : (f : FlatForm) (v : PlacerState) (place : Place) (w : WireId) → Tells f v place → w.number < length f.wires → on_in f v w ≡ true → qubit_told v w ≡ Some (place w)
told_of f v place w tells l on = tells w l ∙ ap (λ b. cond b (Some (place w)) None) on

pub placers_tell_lists : PlacersTellLists
placers_tell_lists = record {
  of_parameters = λ f v ok going begins tells. tells_lists v (first_place f) f.ins (λ w c.
      let i = ok.ins_name.only w c in
      told_of f v (first_place f) w tells (input_there f w i)
      (ap (λ b. cond b (live_at_end f (progress_of v)) (live f (progress_of v)) w) going ∙ ap (λ p. live f p w) begins ∙ live_start f w ∙ i));
  of_results = λ f moves v ok finished tells. tells_lists v (place_plan f moves) f.outs (λ w c.
      let o = ok.outs_name.only w c in
      told_of f v (place_plan f moves) w tells o.0
      (ap (λ b. cond b (live_at_end f (progress_of v)) (live f (progress_of v)) w) finished ∙ or_right (live f (progress_of v) w) (is_output (end_of f w)) (ap is_output o.1)));
}

-- the places at the end, once the Output wires that nothing touched are placed
pub places_at_end : (f : FlatForm) (moves : List Move) (p : Progress) (before v : PlacerState) → p ≡ progress f at_start moves → ((place : Place) → Tells f before place → Tells f v (at_end f p place))
    → Tells f before (place_all f at_start (first_place f) moves) → Tells f v (place_plan f moves)
places_at_end f moves p before v is end tells =
    subst (λ q. Tells f v (at_end f q (place_all f at_start (first_place f) moves))) is (end (place_all f at_start (first_place f) moves) tells)
