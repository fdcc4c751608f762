-- The values of one expression, each with wires of its own, as names take them over.
use Rattle.std.proofs.Common.{◌≡◌, ◌⊎◌, inl, inr, ℕ, suc, ◌+◌, ◌≤◌, ◌<◌, Bool, true, false, cond, not, ◌&&◌, ◌||◌, List, [], ◌∷◌, ◌++◌, length, refl, sym, ap, ap₂, ◌∙◌, subst, arith}
use Rattle.std.specs.Prelude.{⊤}
use Rattle.silq_tree.specs.declared.node.NameId.{NameId}
use Rattle.silq_types.specs.declared.types.Shape.{Shape}
use Rattle.silq_types.specs.declared.need.Need.TheVariants as needs
use Rattle.silq_types.specs.declared.values.Part.{Part}
use Rattle.silq_types.specs.declared.values.Value.{Value}
use Rattle.silq_types.specs.declared.values.Var.{Var}
use Rattle.silq_types.specs.Types.{is_linear}
use Rattle.check_scope.specs.Context.{Context}
use Rattle.silq_mean.specs.declared.receiver.Receiver.TheVariants.{Variable}
use Rattle.flat_core.specs.declared.step.WireId.{WireId}
use Rattle.bit_arith.specs.Calls.{Targets}
use Rattle.flat_form.specs.declared.known.TypedBits.{TypedBits}
use Rattle.flat_form.specs.declared.known.Known.{Known}
use Rattle.flat_form.specs.declared.known.Known.TheVariants.{Static, Shown, Lent, Absent}
use Rattle.flat_form.specs.State.{Flattening, wires_in, operands_of}
use Rattle.flat_form.specs.Names.{AllOf, names}
use Rattle.flat_form.specs.Shows.{ListBoth}
use Rattle.flat_typed.specs.Places.{Places, times_in, holders, linear_holders, carriers, linear_carriers, owners_of, linear_owners}
use Rattle.flat_typed.specs.Relation.{Outside, Stands, IsAnswer, IsTakenOver, is_own}
use Rattle.flat_typed.specs.Done.{carrying, need_for, IsSharing, IsTyped, OwnIfSeveral}
use Rattle.flat_typed.specs.Calls.{Three, carried, SparesCarried}
use Rattle.flat_typed.proofs.Ordered.{clash}
use Rattle.flat_typed.proofs.Owning.{no_times}
use Rattle.flat_typed.proofs.Moving.{all_more}
use Rattle.flat_typed.proofs.Naming.{variables_for}
use Rattle.flat_typed.proofs.Handing.{IsGiven}

-- ---- other values under way

-- fewer owners are under way, and no fewer Linear ones
pub stands_under : (out : Outside) (held : List (List Part)) (W : Places) (under more : List Value) (c : Context) (s : Flattening) → ((w : WireId) → carriers W w under ≤ carriers W w more) → ((w : WireId) → linear_carriers W w more ≤ linear_carriers W w under)
    → AllOf (λ v. AllOf (λ w. out.guarded w ≡ false) (wires_in (W v.place))) under → Stands out held W more c s → Stands out held W under c s
stands_under out held W under more c s few linear clear r = record {
  env = r.env;
  differ = r.differ;
  parts = r.parts;
  one = λ w. let a = few w in let b = r.one w in omega (arith, a, b);
  free = λ w le. r.free w (let a = few w in omega (arith, a, le));
  untold = λ w le. r.untold w (let a = few w in omega (arith, a, le));
  shared = λ w le. r.shared w (let a = few w in omega (arith, a, le));
  callers = λ w le. r.callers w (let a = few w in omega (arith, a, le));
  guards = r.guards;
  below = r.below;
  spares = r.spares;
  carried = clear;
  owed = λ w o. owed w (r.owed w o);
}
  where
    owed : (w : WireId) → (1 ≤ linear_owners W c.vars more w) ⊎ (out.answered w ≡ true) → (1 ≤ linear_owners W c.vars under w) ⊎ (out.answered w ≡ true)
    owed w (inl le) = inl (let a = linear w in omega (arith, a, le))
    owed w (inr q) = inr q

-- ---- classical values among several

abbrev pub classical_carriers : Places → WireId → List Value → ℕ
classical_carriers W w [] = 0
classical_carriers W w (v ∷ vs) = cond v.ty.classical (times_in w (W v.place)) 0 + classical_carriers W w vs

pub carried_sum : (W : Places) (w : WireId) (xs : List NameId) (vs : List Value) → length xs ≡ length vs → carriers W w (carried (variables_for xs) vs) + classical_carriers W w vs ≡ carriers W w vs
carried_sum W w [] [] e = refl
carried_sum W w [] (v ∷ vs) e = absurd (omega (arith, e))
carried_sum W w (x ∷ xs) [] e = absurd (omega (arith, e))
carried_sum W w (x ∷ xs) (v ∷ vs) e = go v.ty.classical (carried_sum W w xs vs (omega (arith, e)))
  where
    go : (t : Bool) → carriers W w (carried (variables_for xs) vs) + classical_carriers W w vs ≡ carriers W w vs
        → carriers W w (cond (not t) (v ∷ carried (variables_for xs) vs) (carried (variables_for xs) vs)) + (cond t (times_in w (W v.place)) 0 + classical_carriers W w vs) ≡ times_in w (W v.place) + carriers W w vs
    go true h = omega (arith, h)
    go false h = omega (arith, h)

abbrev pub ClassicalLifted : Value → Type 0
ClassicalLifted v = v.ty.classical ≡ true → is_linear v.origin ≡ false

pub carried_linear : (W : Places) (w : WireId) (xs : List NameId) (vs : List Value) → length xs ≡ length vs → AllOf ClassicalLifted vs → linear_carriers W w vs ≤ linear_carriers W w (carried (variables_for xs) vs)
carried_linear W w [] [] e h = omega arith
carried_linear W w [] (v ∷ vs) e h = absurd (omega (arith, e))
carried_linear W w (x ∷ xs) [] e h = absurd (omega (arith, e))
carried_linear W w (x ∷ xs) (v ∷ vs) e h = go v.ty.classical refl (carried_linear W w xs vs (omega (arith, e)) h.1)
  where
    go : (t : Bool) → v.ty.classical ≡ t → linear_carriers W w vs ≤ linear_carriers W w (carried (variables_for xs) vs)
        → cond (is_linear v.origin) (times_in w (W v.place)) 0 + linear_carriers W w vs ≤ linear_carriers W w (cond (not t) (v ∷ carried (variables_for xs) vs) (carried (variables_for xs) vs))
    go true q i = let a : cond (is_linear v.origin) (times_in w (W v.place)) 0 ≡ 0 = ap (λ t. cond t (times_in w (W v.place)) 0) (h.0 q) in omega (arith, a, i)
    go false q i = omega (arith, i)

pub all_carried : (P : Value → Type 0) (xs : List NameId) (vs : List Value) → AllOf P vs → AllOf P (carried (variables_for xs) vs)
all_carried P [] vs h = tt
all_carried P (x ∷ xs) [] h = tt
all_carried P (x ∷ xs) (v ∷ vs) h = go v.ty.classical (all_carried P xs vs h.1)
  where
    go : (t : Bool) → AllOf P (carried (variables_for xs) vs) → AllOf P (cond (not t) (v ∷ carried (variables_for xs) vs) (carried (variables_for xs) vs))
    go true i = i
    go false i = (h.0, i)

-- a classical value is one of them
abbrev pub Counts : Places → (WireId → ℕ) → Value → Type 0
Counts W N v = v.ty.classical ≡ true → (w : WireId) → times_in w (W v.place) ≤ N w

pub each_counts : (W : Places) (vs : List Value) → AllOf (Counts W (λ w. classical_carriers W w vs)) vs
each_counts W [] = tt
each_counts W (v ∷ vs) = (
  λ e w. let a : cond v.ty.classical (times_in w (W v.place)) 0 ≡ times_in w (W v.place) = ap (λ t. cond t (times_in w (W v.place)) 0) e in omega (arith, a),
  all_more (Counts W (λ w. classical_carriers W w vs)) (Counts W (λ w. cond v.ty.classical (times_in w (W v.place)) 0 + classical_carriers W w vs)) vs (λ u h e w. let a = h e w in omega (arith, a)) (each_counts W vs),
)

-- ---- values with wires of their own

abbrev pub AllOwn : List Known → Type 0
AllOwn ks = AllOf (λ k. is_own k ≡ true) ks

pub all_own : (ks : List Known) → (length ks ≡ 1 → ⊥) → OwnIfSeveral ks → AllOwn ks
all_own [] n h = tt
all_own (k ∷ []) n h = absurd (n refl)
all_own (k ∷ (l ∷ ks)) n h = h

pub as_many : {A B : Type 0} (Q : A → B → Type 0) (xs : List A) (ys : List B) → ListBoth Q xs ys → length xs ≡ length ys
as_many Q [] [] h = refl
as_many Q [] (y ∷ ys) h = absurd h
as_many Q (x ∷ xs) [] h = absurd h
as_many Q (x ∷ xs) (y ∷ ys) h = ap suc (as_many Q xs ys h.1)

need_same : (vs : List Value) → need_for needs.Consumed vs ≡ needs.Consumed
need_same [] = refl
need_same (v ∷ []) = refl
need_same (v ∷ (w ∷ vs)) = refl

carry_all : (vs : List Value) (ks : List Known) → length vs ≡ length ks → AllOwn ks → carrying needs.Consumed vs ks ≡ vs
carry_all [] ks e h = refl
carry_all (v ∷ vs) [] e h = absurd (omega (arith, e))
carry_all (v ∷ vs) (k ∷ ks) e h = ap (λ t. cond t (v ∷ carrying needs.Consumed vs ks) (carrying needs.Consumed vs ks)) h.0 ∙ ap (λ l. v ∷ l) (carry_all vs ks (omega (arith, e)) h.1)

pub all_under_way : (vs : List Value) (ks : List Known) → length vs ≡ length ks → AllOwn ks → carrying (need_for needs.Consumed vs) vs ks ≡ vs
all_under_way vs ks e h = ap (λ n. carrying n vs ks) (need_same vs) ∙ carry_all vs ks e h

module _ (U : Places) (used consumed : Targets) (n low : ℕ) where
  abbrev Answers : Value → Known → Type 0
  Answers v k = IsAnswer U needs.Consumed used consumed n low v k

  one_taken : (v : Value) (k : Known) → Answers v k → is_own k ≡ true → IsTyped k → IsTakenOver U used consumed n low Variable v k
  one_taken v (Static z) h o t = absurd t
  one_taken v (Lent start size u) h o t = absurd h.typed
  one_taken v Absent h o t = absurd h.typed
  one_taken v (Shown u) h o t = record {
    shows = ap (λ y. shown_as u.classical u.shape y) o ∙ ap₂ (λ x y. shown_as x y true) h.typed.1 h.typed.0;
    began = λ e. clash (sym e);
    fits = refl;
    own = λ e. h.own refl o;
    moved = λ e. h.moved o;
    within = h.within;
  }
    where
      shown_as : Bool → Shape → Bool → Known
      shown_as x y z = Shown (record { classical = x; shape = y; operands = u.operands; own = z; began = u.began })

  pub each_taken : (xs : List NameId) (vs : List Value) (ks : List Known) → length xs ≡ length vs → ListBoth Answers vs ks → AllOwn ks → AllOf IsTyped ks → Three (IsTakenOver U used consumed n low) (variables_for xs) vs ks
  each_taken [] [] [] e h o t = tt
  each_taken [] [] (k ∷ ks) e h o t = absurd h
  each_taken [] (v ∷ vs) ks e h o t = absurd (omega (arith, e))
  each_taken (x ∷ xs) [] ks e h o t = absurd (omega (arith, e))
  each_taken (x ∷ xs) (v ∷ vs) [] e h o t = absurd h
  each_taken (x ∷ xs) (v ∷ vs) (k ∷ ks) e h o t = (one_taken v k h.0 o.0 t.0, each_taken xs vs ks (omega (arith, e)) h.1 o.1 t.1)

  -- what it names is what its place shows
  unnamed : (v : Value) (k : Known) → Answers v k → is_own k ≡ true → (w : WireId) → times_in w (U v.place) ≡ 0 → names k w ≡ false
  unnamed v (Static z) h o w e = clash (sym o)
  unnamed v (Lent start size u) h o w e = clash (sym o)
  unnamed v Absent h o w e = clash (sym o)
  unnamed v (Shown u) h o w e = no_times w u.operands (ap (times_in w) (h.own refl o).0 ∙ e)

  module _ (N : WireId → ℕ) where
    -- a classical value names no wire that other values carry
    pub each_apart : (own : List Value) → ((w : WireId) → carriers U w own + N w ≤ 1) → (xs : List NameId) (vs : List Value) (ks : List Known) → length xs ≡ length vs → ListBoth Answers vs ks → AllOwn ks → AllOf (Counts U N) vs → Three (SparesCarried U own) (variables_for xs) vs ks
    each_apart own one [] [] [] e h o c = tt
    each_apart own one [] [] (k ∷ ks) e h o c = absurd h
    each_apart own one [] (v ∷ vs) ks e h o c = absurd (omega (arith, e))
    each_apart own one (x ∷ xs) [] ks e h o c = absurd (omega (arith, e))
    each_apart own one (x ∷ xs) (v ∷ vs) [] e h o c = absurd h
    each_apart own one (x ∷ xs) (v ∷ vs) (k ∷ ks) e h o c = (
      λ q w le. unnamed v k h.0 o.0 w (let a = c.0 (truly v.ty.classical q) w in let b = one w in omega (arith, a, b, le)),
      each_apart own one xs vs ks (omega (arith, e)) h.1 o.1 c.1,
    )
      where
        truly : (t : Bool) → not t ≡ false → t ≡ true
        truly true e = refl
        truly false e = clash e

    -- nor one with an owner
    pub each_given : (d : Context) (own : List Value) (M : WireId → ℕ) → ((w : WireId) → owners_of U d.vars own w + N w ≤ 1) → (vs : List Value) (ks : List Known) → ListBoth Answers vs ks → AllOwn ks → AllOf (Counts U N) vs → ListBoth (IsSharing needs.Consumed low M) vs ks
        → ListBoth (IsGiven U low d.vars own) vs ks
    each_given d own M one [] [] h o c g = tt
    each_given d own M one [] (k ∷ ks) h o c g = absurd h
    each_given d own M one (v ∷ vs) [] h o c g = absurd h
    each_given d own M one (v ∷ vs) (k ∷ ks) h o c g = (
      record {
        unheld = h.0.handed refl;
        new = λ q. g.0.new refl q;
        shares = λ q w le. unnamed v k h.0 o.0 w (let a = c.0 q w in let b = one w in omega (arith, a, b, le));
      },
      each_given d own M one vs ks h.1 o.1 c.1 g.1,
    )
