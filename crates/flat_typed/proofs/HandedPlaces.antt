-- The values that an expression hands on: each has a new place, or that of a variable with wires of its own, and none is held.
use Rattle.std.proofs.Common.{◌≡◌, ◌⊎◌, inl, inr, ℕ, ◌+◌, ◌≤◌, ◌<◌, Bool, true, false, cond, not, ◌||◌, List, [], ◌∷◌, refl, sym, ap, ap₂, ◌∙◌, subst, arith}
use Rattle.std.specs.Prelude.{◌==◌, Some}
use Rattle.std.proofs.lemmas.Bool.{cases_lt, eq-eqb}
use Rattle.std.proofs.lemmas.Bool.Decides.{eqb_tells}
use Rattle.silq_tree.specs.Syntax.{Expression}
use Rattle.silq_types.specs.declared.need.Need.TheVariants as needs
use Rattle.silq_types.specs.declared.values.Part.{Part}
use Rattle.silq_types.specs.declared.values.Value.{Value}
use Rattle.silq_types.specs.declared.values.Var.{Var}
use Rattle.silq_types.specs.Types.{is_held}
use Rattle.check_scope.specs.Walk.{Walk}
use Rattle.check_scope.specs.Context.{Scope, Context, same_part, find_var, replace}
use Rattle.check_expr.specs.Expression.{expr}
use Rattle.check_expr.specs.Owners.{at_place, owns, owners, owned, Sole, Gives}
use Rattle.check_expr.proofs.Owners.{gives-more, o_expr, found_part}
use Rattle.flat_form.specs.Names.{AllOf}
use Rattle.flat_typed.specs.Places.{is_part, is_shared, has_wires}
use Rattle.flat_typed.specs.Lemmas.{Callable}
use Rattle.flat_typed.specs.Stay.{SomeOf, IsOwner}
use Rattle.flat_typed.proofs.Ordered.{clash, or_right}
use Rattle.flat_typed.proofs.Parts.{some_same}
use Rattle.flat_typed.proofs.Moving.{spent}
use Rattle.flat_typed.proofs.Turns.{gives_both}
use Rattle.flat_typed.proofs.Reached.{gives_each}
use Rattle.flat_typed.proofs.HeldStay.{SpendsOwn, own_expr}
use Rattle.flat_typed.proofs.Kept.{AllKept, FindKept, kept_refl, kept_here, kept_then, kept_spent}
use Rattle.flat_typed.proofs.UnheldValues.{Unheld, unheld_values}

-- ---- variables that share their wires are left

abbrev pub SharedFirst : List Var → List Var → Type 0
SharedFirst [] ws = Unit {0}
SharedFirst (v ∷ vs) [] = ⊥
SharedFirst (v ∷ vs) (w ∷ ws) = (is_shared v ≡ true → w ≡ v) × SharedFirst vs ws

shared_here : (vs : List Var) → SharedFirst vs vs
shared_here [] = tt
shared_here (v ∷ vs) = ((λ e. refl), shared_here vs)

shared_spent : (vs ws : List Var) (p : Part) (v : Var) → find_var ws p ≡ Some v → is_shared v ≡ false → SharedFirst vs ws → SharedFirst vs (replace ws (spent v))
shared_spent [] ws p v e own h = tt
shared_spent (u ∷ us) [] p v e own h = h
shared_spent (u ∷ us) (w ∷ ws) p v e own h = go (same_part w.part p) refl e (λ d. shared_spent us ws p v d own h.1)
  where
    goal : Bool → Type 0
    goal t = SharedFirst (u ∷ us) (cond t (spent v ∷ ws) (w ∷ replace ws (spent v)))

    go : (t : Bool) → same_part w.part p ≡ t → cond t (Some w) (find_var ws p) ≡ Some v → (find_var ws p ≡ Some v → SharedFirst us (replace ws (spent v))) → goal (same_part w.part v.part)
    go true s d i =
        let same : w ≡ v = some_same w v d in
        subst goal (sym (ap (same_part w.part) (found_part (w ∷ ws) p v e) ∙ s))
        ((λ k. clash (sym (ap is_shared (h.0 k) ∙ k) ∙ (ap is_shared same ∙ own))), h.1)
    go false s d i = subst goal (sym (ap (same_part w.part) (found_part (w ∷ ws) p v e) ∙ s)) (h.0, i d)

-- ---- what an expression does to variables

abbrev AreLeft : List Var → List Var → Type 0
AreLeft vs ws = AllKept vs ws × SharedFirst vs ws

left_spent : (vs : List Var) → SpendsOwn (AreLeft vs)
left_spent vs ws p v e live own h = (
  kept_then vs ws (replace ws (spent v)) h.0
      (kept_spent ws p v (subst (λ o. FindKept (Some v) o) (sym e) (kept_refl v)) (found_part ws p v e) (or_right v.ty.classical (is_held v.origin) own)),
  shared_spent vs ws p v e own h.1,
)

-- ---- places

-- a variable with wires of its own has the place, or none has
find_owner : (p : ℕ) (vs : List Var) → SomeOf (IsOwner p) vs ⊎ AllOf (λ v. has_wires v ≡ true → v.place ≡ p → ⊥) vs
find_owner p [] = inr tt
find_owner p (v ∷ vs) = go (has_wires v) refl (eqb_tells v.place p) (find_owner p vs)
  where
    go : (b : Bool) → has_wires v ≡ b → (((v.place == p) ≡ true) × (v.place ≡ p)) ⊎ (((v.place == p) ≡ false) × (v.place ≡ p → ⊥)) → SomeOf (IsOwner p) vs ⊎ AllOf (λ v. has_wires v ≡ true → v.place ≡ p → ⊥) vs
        → SomeOf (IsOwner p) (v ∷ vs) ⊎ AllOf (λ v. has_wires v ≡ true → v.place ≡ p → ⊥) (v ∷ vs)
    go b e t (inl i) = inl (inr i)
    go true e (inl t) (inr i) = inl (inl (record { wires = e; place = t.1 }))
    go true e (inr t) (inr i) = inr ((λ h q. t.1 q), i)
    go false e t (inr i) = inr ((λ h q. clash (sym h ∙ e)), i)

module _ (p : ℕ) where
  own_left : (v w : Var) → is_part v ≡ false → (has_wires v ≡ true → v.place ≡ p → ⊥) → (is_shared v ≡ true → w ≡ v) → owns p v ≤ owns p w
  own_left v w whole none same = go v.consumed (is_shared v) refl refl (eqb_tells v.place p)
    where
      go : (a b : Bool) → v.consumed ≡ a → is_shared v ≡ b → (((v.place == p) ≡ true) × (v.place ≡ p)) ⊎ (((v.place == p) ≡ false) × (v.place ≡ p → ⊥)) → owns p v ≤ owns p w
      go true b e f t = let z : owns p v ≡ 0 = ap (λ x. cond x 0 (at_place p v.place)) e in omega (arith, z)
      go false true e f t = let q : owns p w ≡ owns p v = ap (owns p) (same f) in omega (arith, q)
      go false false e f (inl t) = absurd (none (ap₂ (λ x y. not (x || y)) (ap₂ (λ x y. x || y) e whole) f) t.1)
      go false false e f (inr t) = let z : owns p v ≡ 0 = ap₂ (λ x y. cond x 0 (cond y 1 0)) e t.0 in omega (arith, z)

  -- who has the place without owning its wires has it still
  owners_left : (vs ws : List Var) → AllOf (λ v. is_part v ≡ false) vs → AllOf (λ v. has_wires v ≡ true → v.place ≡ p → ⊥) vs → SharedFirst vs ws → owners p vs ≤ owners p ws
  owners_left [] ws whole none h = omega arith
  owners_left (v ∷ vs) [] whole none h = absurd h
  owners_left (v ∷ vs) (w ∷ ws) whole none h = let a = own_left v w whole.0 none.0 h.0 in let b = owners_left vs ws whole.1 none.1 h.1 in omega (arith, a, b)

at_itself : (p : ℕ) → at_place p p ≡ 1
at_itself p = ap (λ t. cond t 1 0) (eq-eqb p p refl)

-- one more value may have a place without an owner
one_more : (c : Context) (p : ℕ) → Sole c.next (λ q. 0) c → p < c.next → owners p c.vars ≡ 0 → Sole c.next (λ q. at_place q p) c
one_more c p s lt z = record {
  grown = omega arith;
  one = λ q. both q (eqb_tells p q);
  ahead = λ q le. later q le (eqb_tells p q);
}
  where
    both : (q : ℕ) → (((p == q) ≡ true) × (p ≡ q)) ⊎ (((p == q) ≡ false) × (p ≡ q → ⊥)) → owners q c.vars + at_place q p ≤ 1
    both q (inl e) =
        let a : owners q c.vars ≡ owners p c.vars = ap (λ n. owners n c.vars) (sym e.1) in
        let b : at_place q p ≡ 1 = ap (λ t. cond t 1 0) e.0 in
        omega (arith, a, b, z)
    both q (inr e) = let a = s.one q in let b : at_place q p ≡ 0 = ap (λ t. cond t 1 0) e.0 in omega (arith, a, b)

    later : (q : ℕ) → c.next ≤ q → (((p == q) ≡ true) × (p ≡ q)) ⊎ (((p == q) ≡ false) × (p ≡ q → ⊥)) → owners q c.vars + at_place q p ≡ 0
    later q le (inl e) = let a = e.1 in absurd (omega (arith, a, le, lt))
    later q le (inr e) = let a = s.ahead q le in let b : at_place q p ≡ 0 = ap (λ t. cond t 1 0) e.0 in omega (arith, a, b)

-- ---- what the walk tells

-- from c the values are handed on, and d is left
pub record HandsOn (c : Context) (vs : List Value) (d : Context) : Type 0 where
  pub kept : AllKept c.vars d.vars
  pub shared : SharedFirst c.vars d.vars
  pub sole : (others : ℕ → ℕ) → Sole c.next others c → Sole c.next (λ p. others p + owned p vs) d
  pub unheld : AllOf Unheld vs

pub hands_on : (e : Expression) (sc : Scope) (c : Context) → Gives (Callable sc) (λ r. HandsOn c r.0 r.1) (expr e sc needs.Consumed [] c)
hands_on e sc c =
    gives-more (Callable sc) 0 (λ r. AreLeft c.vars r.1.vars × (((b : Given) → Sole c.next (λ p. b.0 p + owned p r.0) r.1) × AllOf Unheld r.0)) (λ r. HandsOn c r.0 r.1) walk
    (gives_both (Callable sc) (λ r. AreLeft c.vars r.1.vars) (λ r. ((b : Given) → Sole c.next (λ p. b.0 p + owned p r.0) r.1) × AllOf Unheld r.0) walk
    ((own_expr (Callable sc) 0 (AreLeft c.vars) (left_spent c.vars) e sc needs.Consumed []).runs c (kept_here c.vars, shared_here c.vars))
    (gives_both (Callable sc) (λ r. (b : Given) → Sole c.next (λ p. b.0 p + owned p r.0) r.1) (λ r. AllOf Unheld r.0) walk
    (gives_each (Callable sc) (λ b r. Sole c.next (λ p. b.0 p + owned p r.0) r.1) walk (λ b. (o_expr (Callable sc) c.next e b.0 sc (λ k s q. q.1) needs.Consumed []).runs c b.1))
    ((unheld_values (Callable sc) e sc []).runs c tt)))
    (λ r q. record { kept = q.0.0; shared = q.0.1; sole = λ others s. q.1.0 (others, s); unheld = q.1.1 })
  where
    walk : Walk (List Value × Context)
    walk = expr e sc needs.Consumed [] c

    Given : Type 0
    Given = (others : ℕ → ℕ) × Sole c.next others c

module _ (c : Context) (vs : List Value) (d : Context) (h : HandsOn c vs d) (whole : AllOf (λ v. is_part v ≡ false) c.vars) (s : Sole c.next (λ p. 0) c) where
  -- a place from before had an owner
  pub handed_owner : (p : ℕ) → 1 ≤ owned p vs → p < c.next → SomeOf (IsOwner p) c.vars
  handed_owner p le lt = go (find_owner p c.vars)
    where
      go : SomeOf (IsOwner p) c.vars ⊎ AllOf (λ v. has_wires v ≡ true → v.place ≡ p → ⊥) c.vars → SomeOf (IsOwner p) c.vars
      go (inl i) = i
      go (inr none) = absurd (count (cases_lt 0 (owners p c.vars)))
        where
          count : (0 < owners p c.vars) ⊎ (owners p c.vars ≤ 0) → ⊥
          count (inl more) =
              let a = owners_left p c.vars d.vars whole none h.shared in
              let b = (h.sole (λ q. 0) s).one p in
              omega (arith, a, b, more, le)
          count (inr zero) =
              let b = (h.sole (λ q. at_place q p) (one_more c p s lt (omega (arith, zero)))).one p in
              let a = at_itself p in
              omega (arith, a, b, le)

  -- and each place is none that is to come
  pub handed_below : (p : ℕ) → 1 ≤ owned p vs → p < d.next
  handed_below p le = go (cases_lt p d.next)
    where
      go : (p < d.next) ⊎ (d.next ≤ p) → p < d.next
      go (inl lt) = lt
      go (inr more) = let a = (h.sole (λ q. 0) s).ahead p more in absurd (omega (arith, a, le))

-- what holds of each place that values have holds of each value's
pub each_place : (Q : ℕ → Type 0) (vs : List Value) → ((p : ℕ) → 1 ≤ owned p vs → Q p) → AllOf (λ v. Q v.place) vs
each_place Q [] f = tt
each_place Q (v ∷ vs) f = (f v.place (let a = at_itself v.place in omega (arith, a)), each_place Q vs (λ p le. f p (omega (arith, le))))
