-- A step that gives a value without wires of its own: `dup`, `vector`, and what operators give.
use Rattle.std.proofs.Common.{◌≡◌, ◌⊎◌, inr, ℕ, ◌≤◌, ◌<◌, Bool, true, false, cond, ◌&&◌, ◌||◌, List, [], ◌∷◌, ◌++◌, length, drop, ℤ, refl, sym, ap, ap₂, ◌∙◌, subst, arith}
use Rattle.std.specs.Prelude.{nat_le, nat_abs}
use Rattle.std.specs.List.{list_any}
use Rattle.std.proofs.lemmas.Bool.{leb-true}
use Rattle.silq_types.specs.declared.types.Shape.{Shape}
use Rattle.silq_types.specs.declared.types.Shape.TheVariants.{Bit, UInt, Int, Array}
use Rattle.silq_types.specs.declared.values.Origin.TheVariants.{Lifted}
use Rattle.silq_types.specs.declared.values.Part.{Part}
use Rattle.silq_types.specs.declared.values.Value.{Value}
use Rattle.silq_types.specs.Types.{is_linear, is_held, is_scalar, quantum}
use Rattle.silq_types.specs.declared.need.Need.{Need}
use Rattle.silq_types.specs.Calls.{is_consumed}
use Rattle.check_scope.specs.Context.{Context}
use Rattle.check_expr.specs.Expression.{repeated as many_of}
use Rattle.silq_mean.specs.Effect.{copy_last, repeat_last}
use Rattle.flat_core.specs.declared.step.WireId.{WireId}
use Rattle.flat_core.specs.Form.{DraftForm}
use Rattle.bit_arith.specs.declared.operand.Operand.{Operand}
use Rattle.bit_arith.specs.Built.{Given, all_made}
use Rattle.bit_arith.specs.Calls.{Targets}
use Rattle.bit_arith.specs.Does.{Fresh}
use Rattle.flat_form.specs.declared.known.TypedBits.{TypedBits}
use Rattle.flat_form.specs.declared.known.Known.{Known}
use Rattle.flat_form.specs.declared.known.Known.TheVariants.{Static, Shown}
use Rattle.flat_form.specs.State.{Flattening, last, drop_last, wires_so_far, copied}
use Rattle.flat_form.specs.Flat.{give_copy, give_repeated, array_of, repeated, flat_step}
use Rattle.flat_form.specs.Fine.{FineStep, IsAny, IsStatic, IsOf}
use Rattle.flat_form.specs.Names.{named_by}
use Rattle.flat_typed.specs.Places.{Places, times_in}
use Rattle.flat_typed.specs.Footprint.{Touches, StaysPlain, Unmade}
use Rattle.flat_typed.specs.Relation.{Outside, Stands, IsAnswer}
use Rattle.flat_typed.specs.Done.{Leaves, carrying}
use Rattle.flat_typed.proofs.Ordered.{clash}
use Rattle.flat_typed.proofs.Growing.{touches_then, stands_grown}
use Rattle.flat_typed.proofs.Flipping.{Flips, copy_answer}
use Rattle.flat_typed.proofs.Touching.{flips_touch, flips_plain, flips_stay_plain, flips_unmade, flips_copied}
use Rattle.flat_typed.proofs.Placing.{named_times, made_range, made_once, stands_pushed}

-- ---- what an expression may touch

-- a set, and all wires from the n-th on
abbrev pub Beyond : Targets → ℕ → Targets
Beyond T n w = T w || nat_le n w.number

pub not_beyond : (n m : ℕ) → m < n → nat_le n m ≡ false
not_beyond n m lt = go (nat_le n m) refl
  where
    go : (t : Bool) → nat_le n m ≡ t → t ≡ false
    go false e = refl
    go true e = let a = leb-true n m e in absurd (omega (arith, a, lt))

pub is_beyond : (n m : ℕ) (a : Bool) → (a || nat_le n m) ≡ false → (n ≤ m → ⊥)
is_beyond n m true e le = clash e
is_beyond n m false e le = go (nat_le n m) refl
  where
    go : (t : Bool) → nat_le n m ≡ t → ⊥
    go true f = clash (sym f ∙ e)
    go false f = absurd (grind (arith, f, le))

-- a step behind an expression may touch what the expression consumes, and what came since it began
pub touches_beyond : (T : Targets) (d e f : DraftForm) → Touches T d e → Touches (Beyond T (length d.wires)) e f → Touches T d f
touches_beyond T d e f p q = touches_then T (Beyond T (length d.wires)) d e f p q (λ w l t. ap₂ (λ a b. a || b) t (not_beyond (length d.wires) w.number l))

-- ---- a value that is given

pub record GivesValue (out : Outside) (held : List (List Part)) (W : Places) (need : Need) (used consumed : Targets) (n low : ℕ) (under : List Value) (c : Context) (s : Flattening) (rest : List Known) (v : Value) (e : Flattening) : Type 0 where
  pub answer : Known
  pub values : e.values ≡ answer ∷ rest
  pub given : IsAnswer W need used consumed n low v answer
  pub stands : Stands out held W (carrying need (v ∷ []) (answer ∷ []) ++ under) c e
  pub leaves : Leaves s e
  pub touches : Touches (Beyond consumed n) s.built.draft e.built.draft
  pub plain : StaysPlain s.built.draft e.built.draft
  pub unmade : Unmade s.built.draft → Unmade e.built.draft

-- a row that changes no old wire, and answers operands with wires that are used or new, of which it has none twice
pub record Works (used : Targets) (n : ℕ) (s : Flattening) (g : Given (List Operand)) : Type 0 where
  pub flips : (T : Targets) (k : ℕ) → k ≤ wires_so_far s → Flips T k s.built g.built
  pub within : (w : WireId) → list_any (named_by w) g.answer ≡ true → (used w ≡ true) ⊎ (n ≤ w.number)
  pub differ : (w : WireId) → n ≤ w.number → times_in w g.answer ≤ 1

pub copied_works : (used : Targets) (n : ℕ) (s : Flattening) (ps : List Operand) → n ≤ wires_so_far s → Works used n s (copied s.setting ps s.built)
copied_works used n s ps grown = record {
  flips = λ T k le. flips_copied T k s.setting ps s.built le;
  within = λ w e. inr (from w (named_times w (copied s.setting ps s.built).answer e));
  differ = λ w le. subst (λ ws. times_in w (all_made ws) ≤ 1) (sym (copy_answer s.setting ps s.built)) (made_once w (wires_so_far s) (length ps));
}
  where
    from : (w : WireId) → 1 ≤ times_in w (copied s.setting ps s.built).answer → n ≤ w.number
    from w le = let q = (made_range w (wires_so_far s) (length ps) (subst (λ ws. 1 ≤ times_in w (all_made ws)) (copy_answer s.setting ps s.built) le)).0 in omega (arith, q, grown)

-- the type and the place of a new value
pub record IsNew (low : ℕ) (v : Value) (cl : Bool) (sh : Shape) : Type 0 where
  pub class : cl ≡ v.ty.classical
  pub shape : sh ≡ v.ty.shape
  pub unheld : is_held v.origin ≡ false
  pub lifted : is_linear v.origin ≡ false
  pub place : low ≤ v.place

module _ (out : Outside) (held : List (List Part)) (W : Places) (need : Need) (used consumed : Targets) (n low : ℕ) (under : List Value) (c : Context) (s : Flattening) (rest : List Known) (v : Value) where
  abbrev Gives : Flattening → Type 0
  Gives e = GivesValue out held W need used consumed n low under c s rest v e

  pub none_carried : (t : Bool) → cond (t && false) (v ∷ []) [] ≡ []
  none_carried true = refl
  none_carried false = refl

  unfoldable pub gives_borrowed : (cl : Bool) (sh : Shape) (m : ℕ) (g : Given (List Operand)) → IsNew low v cl sh → n ≤ m → Fresh s.built.draft → Works used n s g → Stands out held W under c s
      → Gives (record s { built = g.built; values = Shown (record { classical = cl; shape = sh; operands = g.answer; own = false; began = m }) ∷ rest })
  gives_borrowed cl sh m g new le fresh works r = record {
    answer = Shown (record { classical = cl; shape = sh; operands = g.answer; own = false; began = m });
    values = refl;
    given = record {
      typed = (new.shape, new.class);
      handed = λ q. new.unheld;
      own = λ q e. clash (sym e);
      borrowed = λ q e. (new.place, new.lifted);
      moved = λ e. clash (sym e);
      within = works.within;
      began = le;
      differ = works.differ;
    };
    stands =
        subst (λ l. Stands out held W (l ++ under) c (record s { built = g.built; values = Shown (record { classical = cl; shape = sh; operands = g.answer; own = false; began = m }) ∷ rest })) (sym (none_carried (is_consumed need)))
        (stands_pushed out held W under c s g.built (Shown (record { classical = cl; shape = sh; operands = g.answer; own = false; began = m }) ∷ rest)
        (stands_grown out held W under c s g.built (flips_plain (λ w. false) 0 s.built g.built fresh (works.flips (λ w. false) 0 (omega arith))) r));
    leaves = record { setting = refl; callers = refl; blocks = refl; names = refl };
    touches = flips_touch (Beyond consumed n) s.built g.built (works.flips (Beyond consumed n) (wires_so_far s) (omega arith));
    plain = flips_stay_plain (λ w. false) 0 s.built g.built (works.flips (λ w. false) 0 (omega arith));
    unmade = flips_unmade (λ w. false) 0 s.built g.built (works.flips (λ w. false) 0 (omega arith));
  }

-- ---- copies

module _ (out : Outside) (held : List (List Part)) (W : Places) (need : Need) (used consumed : Targets) (n low : ℕ) (under : List Value) (c : Context) (s : Flattening) (p : ℕ) (x : Value) (u : TypedBits) where
  abbrev pub copy_of : Value
  copy_of = record { ty = quantum x.ty.shape; origin = Lifted; place = p }

  -- `dup` of a value gives a copy
  pub copy_done : last s ≡ Shown u → u.shape ≡ x.ty.shape → low ≤ p → n ≤ wires_so_far s → n ≤ u.began → Fresh s.built.draft → Stands out held W under c s
      → GivesValue out held W need used consumed n low under c s (drop 1 s.values) copy_of (flat_step copy_last s) × FineStep copy_last s
  copy_done e same le grown began fresh r =
      subst (λ k. GivesValue out held W need used consumed n low under c s (drop 1 s.values) copy_of (give_copy k (drop_last s)) × IsAny k) (sym e) (
        gives_borrowed out held W need used consumed n low under c s (drop 1 s.values) copy_of false u.shape u.began (copied s.setting u.operands s.built)
            (record { class = refl; shape = same; unheld = refl; lifted = refl; place = le }) began fresh (copied_works used n s u.operands grown) r,
        tt,
      )

  abbrev pub copies_of : ℤ → Value
  copies_of m = record { ty = quantum (many_of x.ty.shape m); origin = Lifted; place = p }

  same_array : (t : Shape) (m : ℤ) → is_scalar t ≡ true → array_of t (nat_abs m) ≡ many_of t m
  same_array Bit m h = refl
  same_array (UInt k) m h = refl
  same_array (Int k) m h = refl
  same_array (Array k l) m h = clash (sym h)

  -- `vector` gives as many copies of a number as its first value says
  pub repeat_done : (m : ℤ) → last (drop_last s) ≡ Static m → last s ≡ Shown u → u.shape ≡ x.ty.shape → is_scalar x.ty.shape ≡ true → low ≤ p → n ≤ wires_so_far s → n ≤ u.began → Fresh s.built.draft → Stands out held W under c s
      → GivesValue out held W need used consumed n low under c s (drop 1 (drop 1 s.values)) (copies_of m) (flat_step repeat_last s) × FineStep repeat_last s
  repeat_done m d e same scalar le grown began fresh r =
      subst (λ k. Both k (last s)) (sym d) (subst (λ k. Both (Static m) k) (sym e) (
        gives_borrowed out held W need used consumed n low under c s (drop 1 (drop 1 s.values)) (copies_of m) false (array_of u.shape (nat_abs m)) u.began (copied s.setting (repeated (nat_abs m) u.operands) s.built)
            (record { class = refl; shape = same_array u.shape m (ap is_scalar same ∙ scalar) ∙ ap (λ t. many_of t m) same; unheld = refl; lifted = refl; place = le }) began fresh (copied_works used n s (repeated (nat_abs m) u.operands) grown) r,
        (tt, ap is_scalar same ∙ scalar),
      ))
    where
      Both : Known → Known → Type 0
      Both k l = GivesValue out held W need used consumed n low under c s (drop 1 (drop 1 s.values)) (copies_of m) (give_repeated k l (drop_last (drop_last s))) × (IsStatic k × IsOf (λ v. is_scalar v.shape ≡ true) l)
