-- The variables that stand outside a branch: behind it each is as it was, but for its origin.
use Rattle.std.proofs.Common.{◌≡◌, ◌⊎◌, inl, inr, ℕ, suc, ◌+◌, ◌≤◌, ◌<◌, Bool, true, false, cond, not, ◌&&◌, ◌||◌, List, [], ◌∷◌, length, take, refl, sym, ap, ap₂, ◌∙◌, subst, arith}
use Rattle.std.specs.Prelude.{Option, None}
use Rattle.std.proofs.lemmas.Bool.{eq-eqb}
use Rattle.silq_tree.specs.declared.node.NameId.{NameId}
use Rattle.silq_types.specs.declared.types.Ty.{Ty}
use Rattle.silq_types.specs.declared.values.Part.{Part}
use Rattle.silq_types.specs.declared.values.Var.{Var}
use Rattle.silq_types.specs.Types.{is_linear, is_held}
use Rattle.silq_mean.specs.Written.{is_empty}
use Rattle.check_scope.specs.Context.{Context, indices, same_part}
use Rattle.check_expr.specs.Owners.{at_place, owns, owners, Sole}
use Rattle.flat_core.specs.declared.step.WireId.{WireId}
use Rattle.flat_form.specs.declared.known.Known.TheVariants.{Absent}
use Rattle.flat_form.specs.Names.{AllOf, operands_in}
use Rattle.flat_typed.specs.Places.{Places, is_part, is_shared, has_wires, part_out, less_part, bits_for, shown, entries, times_in, holds, holders, linear_holders}
use Rattle.flat_typed.specs.Relation.{HasNone, PartsDiffer}
use Rattle.flat_typed.specs.Stay.{SomeOf}
use Rattle.flat_typed.specs.Settled.{StaysHeld, AllStay, IsLive, HadLive}
use Rattle.flat_typed.proofs.Ordered.{clash}
use Rattle.flat_typed.proofs.Unchanged.{Unchanged, AllUnchanged}

pub record SameVar (v w : Var) : Type 0 where
  pub part : w.part ≡ v.part
  pub ty : w.ty ≡ v.ty
  pub place : w.place ≡ v.place
  pub consumed : w.consumed ≡ v.consumed
  pub held : is_held w.origin ≡ is_held v.origin

abbrev pub AllSame : List Var → List Var → Type 0
AllSame [] [] = Unit {0}
AllSame [] (w ∷ ws) = ⊥
AllSame (v ∷ vs) [] = ⊥
AllSame (v ∷ vs) (w ∷ ws) = SameVar v w × AllSame vs ws

-- ---- what is consumed stays consumed

owns_more : (p : ℕ) (v w : Var) → Unchanged v w → owns p v ≤ owns p w
owns_more p v w u = go v.consumed refl
  where
    go : (t : Bool) → v.consumed ≡ t → owns p v ≤ owns p w
    go true e = let z : owns p v ≡ 0 = ap (λ b. cond b 0 (at_place p v.place)) e in omega (arith, z)
    go false e =
        let a : owns p v ≡ at_place p v.place = ap (λ b. cond b 0 (at_place p v.place)) e in
        let b : owns p w ≡ at_place p w.place = ap (λ t. cond t 0 (at_place p w.place)) (u.live e) in
        let c : at_place p v.place ≡ at_place p w.place = ap (at_place p) u.place in
        omega (arith, a, b, c)

owners_more : (p : ℕ) (vs ws : List Var) → AllStay vs ws → AllUnchanged vs ws → owners p vs ≤ owners p ws
owners_more p [] ws t u = omega arith
owners_more p (v ∷ vs) [] t u = absurd t
owners_more p (v ∷ vs) (w ∷ ws) t u = let a = owns_more p v w u.0 in let b = owners_more p vs ws t.1 u.1 in omega (arith, a, b)

live_owned : (p : ℕ) (vs : List Var) → SomeOf (IsLive p) vs → 1 ≤ owners p vs
live_owned p [] h = absurd h
live_owned p (v ∷ vs) (inl i) =
    let a : owns p v ≡ 1 = ap (λ b. cond b 0 (at_place p v.place)) i.live ∙ ap (λ t. cond t 1 0) (eq-eqb v.place p i.place) in
    omega (arith, a)
live_owned p (v ∷ vs) (inr i) = let a = live_owned p vs i in omega (arith, a)

-- one that comes to live at its old place would be a second owner of it
stays_same : (c : Context) (vs ws : List Var) → AllStay vs ws → AllUnchanged vs ws → AllOf (λ v. v.place < c.next) vs → AllOf (HadLive c) ws → ((p : ℕ) → owners p vs + 1 ≤ owners p ws → SomeOf (IsLive p) c.vars → ⊥) → AllSame vs (take (length vs) ws)
stays_same c [] ws t u b a f = tt
stays_same c (v ∷ vs) [] t u b a f = absurd t
stays_same c (v ∷ vs) (w ∷ ws) t u b a f = (
  record { part = t.0.part; ty = sym u.0.ty; place = sym u.0.place; consumed = same v.consumed w.consumed refl refl; held = t.0.held },
  stays_same c vs ws t.1 u.1 b.1 a.1 (λ p le l. f p (let g = owns_more p v w u.0 in omega (arith, g, le)) l),
)
  where
    same : (x y : Bool) → v.consumed ≡ x → w.consumed ≡ y → w.consumed ≡ v.consumed
    same true true e g = g ∙ sym e
    same false false e g = g ∙ sym e
    same false true e g = clash (sym g ∙ u.0.live e)
    same true false e g =
        absurd (f w.place
        (let k : owns w.place v ≡ 0 = ap (λ t. cond t 0 (at_place w.place v.place)) e in
        let l : owns w.place w ≡ 1 = ap (λ t. cond t 0 (at_place w.place w.place)) g ∙ ap (λ t. cond t 1 0) (eq-eqb w.place w.place refl) in
        let m = owners_more w.place vs ws t.1 u.1 in
        omega (arith, k, l, m))
        (a.0 g (subst (λ n. n < c.next) u.0.place b.0)))

pub all_same : (c i : Context) (low : ℕ) → AllStay c.vars i.vars → AllUnchanged c.vars i.vars → AllOf (λ v. v.place < c.next) c.vars → AllOf (HadLive c) i.vars → Sole low (λ p. 0) i → AllSame c.vars (take (length c.vars) i.vars)
all_same c i low t u b a s = stays_same c c.vars i.vars t u b a (λ p le l. let x = live_owned p c.vars l in let y = s.one p in absurd (omega (arith, x, y, le)))

-- ---- lists of the same variables

pub same_then : (us vs ws : List Var) → AllSame us vs → AllSame vs ws → AllSame us ws
same_then [] [] [] h k = tt
same_then [] [] (w ∷ ws) h k = absurd k
same_then [] (v ∷ vs) ws h k = absurd h
same_then (u ∷ us) [] ws h k = absurd h
same_then (u ∷ us) (v ∷ vs) [] h k = absurd k
same_then (u ∷ us) (v ∷ vs) (w ∷ ws) h k =
    (record { part = k.0.part ∙ h.0.part; ty = k.0.ty ∙ h.0.ty; place = k.0.place ∙ h.0.place; consumed = k.0.consumed ∙ h.0.consumed; held = k.0.held ∙ h.0.held }, same_then us vs ws h.1 k.1)

pub same_back : (vs ws : List Var) → AllSame vs ws → AllSame ws vs
same_back [] [] h = tt
same_back [] (w ∷ ws) h = absurd h
same_back (v ∷ vs) [] h = absurd h
same_back (v ∷ vs) (w ∷ ws) h = (record { part = sym h.0.part; ty = sym h.0.ty; place = sym h.0.place; consumed = sym h.0.consumed; held = sym h.0.held }, same_back vs ws h.1)

pub same_is_part : (v w : Var) → SameVar v w → is_part w ≡ is_part v
same_is_part v w h = ap (λ p. not (is_empty (indices p))) h.part

pub same_shared : (v w : Var) → SameVar v w → is_shared w ≡ is_shared v
same_shared v w h = ap₂ (λ (t : Ty) b. t.classical || b) h.ty h.held

pub same_wired : (v w : Var) → SameVar v w → has_wires w ≡ has_wires v
same_wired v w h = ap₂ (λ a b. not (a || b)) (ap₂ (λ a b. a || b) h.consumed (same_is_part v w h)) (same_shared v w h)

pub same_whole : (vs ws : List Var) → AllSame vs ws → AllOf (λ v. is_part v ≡ false) vs → AllOf (λ v. is_part v ≡ false) ws
same_whole [] [] h a = tt
same_whole [] (w ∷ ws) h a = absurd h
same_whole (v ∷ vs) [] h a = absurd h
same_whole (v ∷ vs) (w ∷ ws) h a = (same_is_part v w h.0 ∙ a.0, same_whole vs ws h.1 a.1)

has_none_same : (p q : Part) (vs ws : List Var) → q ≡ p → AllSame vs ws → HasNone vs p → HasNone ws q
has_none_same p q [] [] e h d = tt
has_none_same p q [] (w ∷ ws) e h d = absurd h
has_none_same p q (v ∷ vs) [] e h d = absurd h
has_none_same p q (v ∷ vs) (w ∷ ws) e h d = (ap₂ same_part h.0.part e ∙ d.0, has_none_same p q vs ws e h.1 d.1)

pub same_differ : (vs ws : List Var) → AllSame vs ws → PartsDiffer vs → PartsDiffer ws
same_differ [] [] h d = tt
same_differ [] (w ∷ ws) h d = absurd h
same_differ (v ∷ vs) [] h d = absurd h
same_differ (v ∷ vs) (w ∷ ws) h d = (has_none_same v.part w.part vs ws h.0.part h.1 d.0, same_differ vs ws h.1 d.1)

-- ---- what they show and own

-- what is live shows the same
abbrev pub LiveAgree : Places → Places → Var → Type 0
LiveAgree U W v = v.consumed ≡ false → U v.place ≡ W v.place

abbrev pub MoreLinear : List Var → List Var → Type 0
MoreLinear [] ws = Unit {0}
MoreLinear (v ∷ vs) [] = ⊥
MoreLinear (v ∷ vs) (w ∷ ws) = (is_linear v.origin ≡ true → is_linear w.origin ≡ true) × MoreLinear vs ws

module _ (U W : Places) (all more : List Var) (none : (y : NameId) → part_out all y ≡ None) (gone : (y : NameId) → part_out more y ≡ None) where
  pub same_shown : (v w : Var) → SameVar v w → LiveAgree U W v → shown U more w ≡ shown W all v
  same_shown v w h a = go v.consumed refl
    where
      go : (t : Bool) → v.consumed ≡ t → shown U more w ≡ shown W all v
      go true e =
          ap (λ t. cond t Absent (less_part (part_out more w.part.name) (bits_for U w))) (h.consumed ∙ e)
          ∙ sym (ap (λ t. cond t Absent (less_part (part_out all v.part.name) (bits_for W v))) e)
      go false e =
          ap (λ t. cond t Absent (less_part (part_out more w.part.name) (bits_for U w))) (h.consumed ∙ e)
          ∙ (ap₂ less_part (gone w.part.name ∙ sym (none v.part.name))
          (ap₂ (λ (t : Ty) ps. record { classical = t.classical; shape = t.shape; operands = ps; own = true; began = 0 }) h.ty (ap U h.place ∙ a e))
          ∙ sym (ap (λ t. cond t Absent (less_part (part_out all v.part.name) (bits_for W v))) e))

  pub same_entries : (vs ws : List Var) → AllSame vs ws → AllOf (LiveAgree U W) vs → entries U more ws ≡ entries W all vs
  same_entries [] [] h a = refl
  same_entries [] (w ∷ ws) h a = absurd h
  same_entries (v ∷ vs) [] h a = absurd h
  same_entries (v ∷ vs) (w ∷ ws) h a =
      ap (λ t. cond t (entries U more ws) ((w.part.name, shown U more w) ∷ entries U more ws)) (same_is_part v w h.0)
      ∙ ap₂ (λ l e. cond (is_part v) l (e ∷ l)) (same_entries vs ws h.1 a.1) (ap₂ (λ (p : Part) k. (p.name, k)) h.0.part (same_shown v w h.0 a.0))

  pub same_holds : (q : WireId) (v w : Var) → SameVar v w → LiveAgree U W v → holds U more q w ≡ holds W all q v
  same_holds q v w h a = ap₂ (λ t k. cond t (times_in q (operands_in k)) 0) (same_wired v w h) (same_shown v w h a)

  pub same_holders : (q : WireId) (vs ws : List Var) → AllSame vs ws → AllOf (LiveAgree U W) vs → holders U more q ws ≡ holders W all q vs
  same_holders q [] [] h a = refl
  same_holders q [] (w ∷ ws) h a = absurd h
  same_holders q (v ∷ vs) [] h a = absurd h
  same_holders q (v ∷ vs) (w ∷ ws) h a = ap₂ (λ m n. m + n) (same_holds q v w h.0 a.0) (same_holders q vs ws h.1 a.1)

  -- where the second are Linear too, as many are
  pub more_linear : (q : WireId) (vs ws : List Var) → AllSame vs ws → AllOf (LiveAgree U W) vs → MoreLinear vs ws → linear_holders W all q vs ≤ linear_holders U more q ws
  more_linear q [] [] h a l = omega arith
  more_linear q [] (w ∷ ws) h a l = absurd h
  more_linear q (v ∷ vs) [] h a l = absurd h
  more_linear q (v ∷ vs) (w ∷ ws) h a l = let i = more_linear q vs ws h.1 a.1 l.1 in let k = go (is_linear v.origin) refl in omega (arith, i, k)
    where
      go : (t : Bool) → is_linear v.origin ≡ t → cond (is_linear v.origin) (holds W all q v) 0 ≤ cond (is_linear w.origin) (holds U more q w) 0
      go false e = let z : ◌≡◌ {A = ℕ} (cond (is_linear v.origin) (holds W all q v) 0) 0 = ap (λ t. cond t (holds W all q v) 0) e in omega (arith, z)
      go true e =
          let x : cond (is_linear v.origin) (holds W all q v) 0 ≡ holds W all q v = ap (λ t. cond t (holds W all q v) 0) e in
          let y : cond (is_linear w.origin) (holds U more q w) 0 ≡ holds U more q w = ap (λ t. cond t (holds U more q w) 0) (l.0 e) in
          let z = same_holds q v w h.0 a.0 in
          omega (arith, x, y, z)
