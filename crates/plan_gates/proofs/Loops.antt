-- The next move of a list that may come, within a width.
use Rattle.std.proofs.Common.{◌≡◌, ℕ, ◌+◌, ◌<◌, ◌≤◌, List, [], ◌∷◌, length, get_or, drop, refl, sym, ap, subst, arith}
use Rattle.std.proofs.lemmas.List.{drop_more, drop_all}
use Rattle.flat_core.specs.Form.{FlatForm}
use Rattle.flat_mean.specs.Path.{count_inputs}
use Rattle.move_plan.specs.declared.moves.Move.{Move}
use Rattle.move_plan.specs.Progress.{Progress, at_start, Stands, moved, AllStand, progress, IsPlan}
use Rattle.move_plan.specs.Live.{live, live_at_end, count_wires, width, width_from}
use Rattle.move_plan.proofs.Counts.{width_from-ge}
use Rattle.qubit_alloc.specs.Place.{Place, place_move, place_all}
use Rattle.qubit_alloc.proofs.ApartLaws.{width_from-end}
use Rattle.qubit_alloc.proofs.Starting.{count_start}

-- the inputs are within the width
pub inputs_fit : (f : FlatForm) (moves : List Move) (wide : ℕ) → width f moves ≤ wide → count_inputs f.wires ≤ wide
inputs_fit f moves wide fits =
    let least : count_wires f (live f at_start) ≤ width f moves = width_from-ge f at_start moves in
    let are : count_wires f (live f at_start) ≡ count_inputs f.wires = count_start f in
    omega (arith, least, are, fits)

-- what is left, from a progress on, may come within a width
pub record GoesOn (f : FlatForm) (p : Progress) (rest : List Move) (wide : ℕ) : Type 0 where
  pub stand : AllStand f p rest
  pub fits : width_from f p rest ≤ wide

-- the next move may come, and what is left behind it
pub record HasNext (f : FlatForm) (p : Progress) (m : Move) (rest : List Move) (wide : ℕ) : Type 0 where
  pub stands : Stands f p m
  pub fits : count_wires f (live f (moved f p m)) ≤ wide
  pub rest_goes_on : GoesOn f (moved f p m) rest wide

pub next_move : (f : FlatForm) (p : Progress) (ms : List Move) (i : ℕ) (m : Move) (wide : ℕ) → i < length ms → GoesOn f p (drop i ms) wide → HasNext f p (get_or ms i m) (drop (i + 1) ms) wide
next_move f p ms i m wide l on =
    let x : Move = get_or ms i m in
    let here : GoesOn f p (x ∷ drop (i + 1) ms) wide = subst (λ rest. GoesOn f p rest wide) (drop_more ms i m l) on in
    let less : count_wires f (live f (moved f p x)) ≤ width_from f (moved f p x) (drop (i + 1) ms) = width_from-ge f (moved f p x) (drop (i + 1) ms) in
    let fit : width_from f p (x ∷ drop (i + 1) ms) ≤ wide = here.fits in
    let rest : width_from f (moved f p x) (drop (i + 1) ms) ≤ wide = omega (arith, fit) in
    record { stands = here.stand.0; fits = omega (arith, less, rest); rest_goes_on = record { stand = here.stand.1; fits = rest } }

drop_none : (ms : List Move) → ms ≡ drop 0 ms
drop_none [] = refl
drop_none (m ∷ ms) = refl

pub first_move : (f : FlatForm) (p : Progress) (ms : List Move) (wide room : ℕ) → p ≡ at_start → room ≡ wide → IsPlan f ms → width f ms ≤ wide → GoesOn f p (drop 0 ms) room
first_move f p ms wide room begins is plan fits =
    let here : GoesOn f at_start ms wide = record { stand = plan.stand; fits = fits } in
    subst (λ rest. GoesOn f p rest room) (drop_none ms) (subst (λ w. GoesOn f p ms w) (sym is) (subst (λ q. GoesOn f q ms wide) (sym begins) here))

pub move_made : (f : FlatForm) (p q : Progress) (m : Move) (rest : List Move) (wide room : ℕ) → q ≡ moved f p m → room ≡ wide → HasNext f p m rest wide → GoesOn f q rest room
move_made f p q m rest wide room is same next = subst (λ w. GoesOn f q rest w) (sym same) (subst (λ r. GoesOn f r rest wide) (sym is) next.rest_goes_on)

-- what is left leads from a progress and from places on to these
pub record LeadsTo (f : FlatForm) (p : Progress) (place : Place) (rest : List Move) (last : Progress) (places : Place) : Type 0 where
  pub progress_is : progress f p rest ≡ last
  pub places_are : place_all f p place rest ≡ places

pub next_leads : (f : FlatForm) (p q : Progress) (place : Place) (ms : List Move) (i : ℕ) (m : Move) (last : Progress) (places : Place) → i < length ms → q ≡ moved f p (get_or ms i m)
    → LeadsTo f p place (drop i ms) last places → LeadsTo f q (place_move f p place (get_or ms i m)) (drop (i + 1) ms) last places
next_leads f p q place ms i m last places l is on =
    let x : Move = get_or ms i m in
    let here : LeadsTo f p place (x ∷ drop (i + 1) ms) last places = subst (λ rest. LeadsTo f p place rest last places) (drop_more ms i m l) on in
    let rest : LeadsTo f (moved f p x) (place_move f p place x) (drop (i + 1) ms) last places = record { progress_is = here.progress_is; places_are = here.places_are } in
    subst (λ r. LeadsTo f r (place_move f p place x) (drop (i + 1) ms) last places) (sym is) rest

pub first_leads : (f : FlatForm) (p : Progress) (place : Place) (ms : List Move) → p ≡ at_start → LeadsTo f p place (drop 0 ms) (progress f at_start ms) (place_all f at_start place ms)
first_leads f p place ms is =
    subst (λ rest. LeadsTo f p place rest (progress f at_start ms) (place_all f at_start place ms)) (drop_none ms)
    (subst (λ q. LeadsTo f q place ms (progress f at_start ms) (place_all f at_start place ms)) (sym is) (record { progress_is = refl; places_are = refl }))

drop_whole : (ms : List Move) (i : ℕ) → length ms ≤ i → drop i ms ≡ []
drop_whole ms i h = drop_all i ms h

pub last_leads : (f : FlatForm) (p : Progress) (place : Place) (ms : List Move) (i : ℕ) (last : Progress) (places : Place) → length ms ≤ i → LeadsTo f p place (drop i ms) last places → (p ≡ last) × (place ≡ places)
last_leads f p place ms i last places h on =
    let here : LeadsTo f p place [] last places = subst (λ rest. LeadsTo f p place rest last places) (drop_whole ms i h) on in
    (here.progress_is, here.places_are)

-- the wires at the end are within the width
pub end_fits : (f : FlatForm) (p : Progress) (ms : List Move) (wide room : ℕ) → p ≡ progress f at_start ms → room ≡ wide → width f ms ≤ wide → count_wires f (live_at_end f p) ≤ room
end_fits f p ms wide room is same fits =
    let last : count_wires f (live_at_end f (progress f at_start ms)) ≤ width f ms = width_from-end f at_start ms in
    let here : count_wires f (live_at_end f p) ≡ count_wires f (live_at_end f (progress f at_start ms)) = ap (λ q. count_wires f (live_at_end f q)) is in
    omega (arith, last, here, same, fits)
