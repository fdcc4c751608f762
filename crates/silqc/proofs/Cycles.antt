-- The line of a cycle.
use Rattle.std.proofs.Common.{◌≡◌, ℕ, ◌+◌, ◌<◌, List, ◌++◌, drop, length, get_or, ap, ◌∙◌, sym, add-one, drop-cons}
use Rattle.flat_compile.specs.declared.cycle.CyclePlace.{CyclePlace}
use Rattle.silqc.specs.Note.{place_text, places_text}

-- the vertices from one on
pub next_place : (places : List CyclePlace) (i : ℕ) (d : CyclePlace) → i < length places
    → places_text (drop i places) ≡ place_text (get_or places i d) ++ places_text (drop (i + 1) places)
next_place places i d l =
    ap places_text (drop-cons places i d l)
    ∙ ap (λ n. place_text (get_or places i d) ++ places_text (drop n places)) (sym (add-one i))
