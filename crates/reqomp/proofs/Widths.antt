-- The widths of levels, and the first level that fits.
use Rattle.std.proofs.Common.{◌≡◌, ℕ, suc, ◌<◌, ◌≤◌, ◌⊎◌, List, length, Option, Some, None, refl, sym, ap, ◌∙◌, subst, inl, inr, arith}
use Rattle.std.proofs.lemmas.Bool.{cases_lt}
use Rattle.flat_core.specs.Form.{FlatForm}
use Rattle.flat_core.specs.Sound.{IsFlat}
use Rattle.graph_core.specs.Digraph.{IsAcyclic}
use Rattle.graph_core.specs.Circuit.{circuit_graph}
use Rattle.move_plan.specs.declared.moves.Move.{Move}
use Rattle.move_plan.specs.Live.{width}
use Rattle.reqomp.specs.Simple.{marked_at}
use Rattle.reqomp.specs.Level.{last_level, IsLevel}
use Rattle.reqomp.specs.Search.{Fits, NoneFitsBelow, IsFirstFit, HasWidth, IsWidthOf, IsLeastBelow, LevelWidth, LevelSearch, LeastWidth}
use Rattle.reqomp.proofs.OneList.{level_is_one_list, no_order_no_level}
use Rattle.reqomp.proofs.Length.{level_length}
use Rattle.reqomp.proofs.EqualMarks.{equally_marked}
use Rattle.reqomp.proofs.LevelZero.{level_zero}

-- a level has one width
one_width : (f : FlatForm) (k wide other : ℕ) → HasWidth f k wide → HasWidth f k other → wide ≡ other
one_width f k wide other h g = h.is ∙ ap (width f) ((level_is_one_list f).one k h.moves g.moves h.level g.level) ∙ sym g.is

one_of : (f : FlatForm) (k : ℕ) (wide other : Option ℕ) → IsWidthOf f k wide → IsWidthOf f k other → wide ≡ other
one_of f k None None w o = refl
one_of f k None (Some b) w o = absurd (w o.moves o.level o.few)
one_of f k (Some a) None w o = absurd (o w.moves w.level w.few)
one_of f k (Some a) (Some b) w o = ap (λ (n : ℕ). Some n) (one_width f k a b w o)

by_other : (f : FlatForm) (j k : ℕ) (wide : Option ℕ) → j ≤ last_level → k ≤ last_level → length (marked_at f j) ≡ length (marked_at f k) → IsWidthOf f j wide → IsWidthOf f k wide
by_other f j k None a b e w = λ moves l few. w moves ((equally_marked f).level k j a (sym e) moves l) few
by_other f j k (Some n) a b e w = record { moves = w.moves; level = (equally_marked f).level j k b e w.moves w.level; few = w.few; is = w.is }

pub level_width : LevelWidth
level_width f k = record {
  one = one_of f k;
  by_cycle = λ cycle c moves l few. (no_order_no_level f k).by_cycle cycle c moves l;
  by_length = λ vertices n are give long moves l few.
      let m : n ≤ length moves = ((level_length f).of_level k moves l).part vertices n are give in
      omega arith;
  not_valid = λ order moves o a bad others l few. (no_order_no_level f k).by_moves order moves o a bad others l;
  valid = λ order moves within o a plan few. record {
    moves = moves;
    level = record { level = within; order = order; ready = o; groups = a; valid = plan };
    few = few;
    is = refl;
  };
  by_other = λ j wide. by_other f j k wide;
}

-- what is below the next number is below this one, or this one
below_or_here : (j k : ℕ) → j < suc k → (j < k) ⊎ (j ≡ k)
below_or_here j k l = elim (cases_lt j k) [ inl a ↦ inl a | inr b ↦ inr (omega arith) ]

one_more_fails : (f : FlatForm) (budget k : ℕ) → NoneFitsBelow f budget k → ((moves : List Move) → IsLevel f k moves → ¬ Fits f budget moves) → NoneFitsBelow f budget (suc k)
one_more_fails f budget k none here j moves l is fits = elim (below_or_here j k l) [
  | inl a ↦ none j moves a is fits
  | inr e ↦ here moves (subst (λ (n : ℕ). IsLevel f n moves) e is) fits
]

too_wide : (f : FlatForm) (budget k wide : ℕ) → HasWidth f k wide → budget < wide → (moves : List Move) → IsLevel f k moves → ¬ Fits f budget moves
too_wide f budget k wide h over moves l fits =
    let e : wide ≡ width f moves = h.is ∙ ap (width f) ((level_is_one_list f).one k h.moves moves h.level l) in
    let n : width f moves ≤ budget = fits.narrow in
    omega arith

not_before : (f : FlatForm) (budget j k : ℕ) (moves others : List Move) → IsFirstFit f budget j moves → IsFirstFit f budget k others → ¬ (j < k)
not_before f budget j k moves others a b l = b.first j moves l a.level a.fits

one_first : (f : FlatForm) (budget j k : ℕ) (moves others : List Move) → IsFirstFit f budget j moves → IsFirstFit f budget k others → (j ≡ k) × (moves ≡ others)
one_first f budget j k moves others a b =
    let e : j ≡ k = same in (
      e,
      (level_is_one_list f).one k moves others (subst (λ (n : ℕ). IsLevel f n moves) e a.level) b.level,
    )
  where
    same : j ≡ k
    same = elim (cases_lt j k) [
      | inl l ↦ absurd (not_before f budget j k moves others a b l)
      | inr g ↦ elim (cases_lt k j) [ inl l ↦ absurd (not_before f budget k j others moves b a l) | inr h ↦ omega arith ]
    ]

pub level_search : LevelSearch
level_search f budget = record {
  start = λ j moves l. absurd (omega arith);
  missing = λ k none w. one_more_fails f budget k none (λ moves l fits. w moves l fits.few);
  wider = λ k wide none w over. one_more_fails f budget k none (too_wide f budget k wide w over);
  fitting = λ k moves none l few narrow. record { level = l; fits = record { few = few; narrow = narrow }; first = none };
  at_end = λ none k moves l. none k moves (let a : k ≤ last_level = l.level in omega arith) l;
  one = one_first f budget;
}

no_width : (f : FlatForm) (k wide : ℕ) → IsWidthOf f k None → ¬ HasWidth f k wide
no_width f k wide w h = w h.moves h.level h.few

module _ (f : FlatForm) where
  at_or_below : (k j wide : ℕ) → j < suc k → HasWidth f j wide → (j < k) ⊎ HasWidth f k wide
  at_or_below k j wide l h = elim (below_or_here j k l) [ inl a ↦ inl a | inr e ↦ inr (subst (λ (n : ℕ). HasWidth f n wide) e h) ]

  missing : (k : ℕ) (least : Option ℕ) → IsLeastBelow f k least → IsWidthOf f k None → IsLeastBelow f (suc k) least
  missing k None is w = λ j wide l h. elim (at_or_below k j wide l h) [ inl a ↦ is j wide a h | inr g ↦ no_width f k wide w g ]
  missing k (Some n) is w = record {
    at = is.at;
    below = (let b : is.at < k = is.below in omega arith);
    has = is.has;
    least = λ j other l h. elim (at_or_below k j other l h) [ inl a ↦ is.least j other a h | inr g ↦ absurd (no_width f k other w g) ];
  }

  first : (k wide : ℕ) → IsLeastBelow f k None → IsWidthOf f k (Some wide) → IsLeastBelow f (suc k) (Some wide)
  first k wide is w = record {
    at = k;
    below = omega arith;
    has = w;
    least = λ j other l h. elim (at_or_below k j other l h) [
      | inl a ↦ absurd (is j other a h)
      | inr g ↦ let e : wide ≡ other = one_width f k wide other w g in omega arith
    ];
  }

  less : (k least wide : ℕ) → IsLeastBelow f k (Some least) → IsWidthOf f k (Some wide) → wide ≤ least → IsLeastBelow f (suc k) (Some wide)
  less k least wide is w low = record {
    at = k;
    below = omega arith;
    has = w;
    least = λ j other l h. elim (at_or_below k j other l h) [
      | inl a ↦ let b : least ≤ other = is.least j other a h in omega arith
      | inr g ↦ let e : wide ≡ other = one_width f k wide other w g in omega arith
    ];
  }

  more : (k least wide : ℕ) → IsLeastBelow f k (Some least) → IsWidthOf f k (Some wide) → least ≤ wide → IsLeastBelow f (suc k) (Some least)
  more k least wide is w high = record {
    at = is.at;
    below = (let b : is.at < k = is.below in omega arith);
    has = is.has;
    least = λ j other l h. elim (at_or_below k j other l h) [
      | inl a ↦ is.least j other a h
      | inr g ↦ let e : wide ≡ other = one_width f k wide other w g in omega arith
    ];
  }

  over : (budget k least : ℕ) → NoneFitsBelow f budget k → IsLeastBelow f k (Some least) → budget < least
  over budget k least none is = elim (cases_lt budget least) [
    | inl l ↦ l
    | inr g ↦
        let e : least ≡ width f is.has.moves = is.has.is in
        absurd (none is.at is.has.moves is.below is.has.level (record { few = is.has.few; narrow = omega arith }))
  ]

  there : (k : ℕ) → IsFlat f → IsAcyclic (circuit_graph f) → ¬ IsLeastBelow f (suc k) None
  there k flat no_cycle is =
      let z = level_zero f flat in
      let l = z.there no_cycle in
      let few : length l.0 ≤ 500000 = z.few l.0 l.1 in
      is 0 (width f l.0) (omega arith) (record { moves = l.0; level = l.1; few = omega arith; is = refl })

pub least_width : LeastWidth
least_width f = record {
  start = λ j wide l. absurd (omega arith);
  missing = missing f;
  first = first f;
  less = less f;
  more = more f;
  over = over f;
  there = there f;
}
