-- The answers of a call in turn: as values under way, and which of them carry their wires.
use Rattle.std.proofs.Common.{◌≡◌, ◌⊎◌, inl, inr, ℕ, suc, ◌+◌, ◌≤◌, ◌<◌, Bool, true, false, cond, not, ◌&&◌, List, [], ◌∷◌, ◌++◌, length, refl, sym, ap, ◌∙◌, subst, arith}
use Rattle.std.proofs.lemmas.Bool.{cases_lt}
use Rattle.silq_types.specs.declared.need.Need.{Need}
use Rattle.silq_types.specs.declared.need.Need.TheVariants as needs
use Rattle.silq_types.specs.declared.types.Ty.{Ty}
use Rattle.silq_types.specs.declared.signature.Returned.{Returned}
use Rattle.silq_types.specs.declared.values.Part.{Part}
use Rattle.silq_types.specs.declared.values.Value.{Value}
use Rattle.silq_types.specs.Types.{is_linear, is_held}
use Rattle.silq_types.specs.Calls.{is_consumed}
use Rattle.check_scope.specs.Context.{Context}
use Rattle.check_expr.specs.Expression.{lone_linear}
use Rattle.silq_mean.specs.declared.receiver.Receiver.{Receiver}
use Rattle.flat_core.specs.declared.step.WireId.{WireId}
use Rattle.bit_arith.specs.Calls.{Targets}
use Rattle.flat_form.specs.declared.known.TypedBits.{TypedBits}
use Rattle.flat_form.specs.declared.known.Known.{Known}
use Rattle.flat_form.specs.State.{Flattening, operands_of}
use Rattle.flat_form.specs.Fine.{IsTaken}
use Rattle.flat_form.specs.Names.{AllOf, names}
use Rattle.flat_form.specs.Shows.{ListBoth}
use Rattle.flat_typed.specs.Places.{Places, times_in, carriers}
use Rattle.flat_typed.specs.Relation.{Outside, Stands, IsAnswer, IsTakenOver, BeganFrom, OfType, IfOwn, IsBorrowed, AllNew, is_carried, is_own, began_of}
use Rattle.flat_typed.specs.Done.{carrying, need_for, IsSharing, IsTyped, OwnIfSeveral}
use Rattle.flat_typed.specs.Calls.{Three, carried, named_times}
use Rattle.flat_typed.proofs.Ordered.{clash}
use Rattle.flat_typed.proofs.Placing.{named_times as times_of_named, stands_less}
use Rattle.flat_typed.proofs.CallResults.{IsReturned, IsHanded, classical_lifted, unheld}

-- ---- one answer

module _ (W U : Places) (need : Need) (used consumed : Targets) (n low : ℕ) (lifts : Bool) (vs : List Value) (next : ℕ) where
  abbrev shown_bits : Value → Known → TypedBits
  shown_bits x k = record { classical = x.ty.classical; shape = x.ty.shape; operands = operands_of k; own = true; began = began_of k }

  pub one_answer : (r : Returned) (x : Value) (k : Known) → IsHanded W used n low x k → IsReturned lifts vs next r x → U x.place ≡ operands_of k → BeganFrom n k → ((w : WireId) → 1 ≤ times_in w (operands_of k) → (consumed w ≡ true) ⊎ (n ≤ w.number))
      → ((w : WireId) → times_in w (operands_of k) ≤ 1) → IsAnswer U need used consumed n low x k
  one_answer r x k h t u b moved one = record {
    typed = subst (OfType x.ty) (sym h.shows) (refl, refl);
    handed = λ c. ap is_held t.origin ∙ unheld lifts r.ty;
    own = λ c. subst (IfOwn (λ ps. (ps ≡ U x.place) × ((x.place < low) ⊎ AllNew n ps))) (sym h.shows) (λ o. (sym u, h.fresh));
    borrowed = λ c e. clash (subst IsBorrowed h.shows e);
    moved = subst (IfOwn (λ ps. (w : WireId) → 1 ≤ times_in w ps → (consumed w ≡ true) ⊎ (n ≤ w.number))) (sym h.shows) (λ o. moved);
    within = h.within;
    began = b;
    differ = λ w le. one w;
  }

  pub all_answers : (rs : List Returned) (xs : List Value) (ks : List Known) → ListBoth (IsHanded W used n low) xs ks → ListBoth (IsReturned lifts vs next) rs xs → ListBoth (λ (x : Value) (k : Known). U x.place ≡ operands_of k) xs ks → AllOf (BeganFrom n) ks
      → ((w : WireId) → 1 ≤ named_times ks w → (consumed w ≡ true) ⊎ (n ≤ w.number)) → ((w : WireId) → named_times ks w ≤ 1) → ListBoth (IsAnswer U need used consumed n low) xs ks
  all_answers rs [] [] h t u b moved one = tt
  all_answers rs [] (k ∷ ks) h t u b moved one = absurd h
  all_answers rs (x ∷ xs) [] h t u b moved one = absurd h
  all_answers [] (x ∷ xs) (k ∷ ks) h t u b moved one = absurd t
  all_answers (r ∷ rs) (x ∷ xs) (k ∷ ks) h t u b moved one = (
    one_answer r x k h.0 t.0 u.0 b.0 (λ w le. moved w (omega (arith, le))) (λ w. let a = one w in omega (arith, a)),
    all_answers rs xs ks h.1 t.1 u.1 b.1 (λ w le. moved w (omega (arith, le))) (λ w. let a = one w in omega (arith, a)),
  )

  -- what a classical one shares
  pub all_sharing : (owners : WireId → ℕ) (rs : List Returned) (xs : List Value) (ks : List Known) → ListBoth (IsHanded W used n low) xs ks → ListBoth (IsReturned lifts vs next) rs xs → ((w : WireId) → 1 ≤ named_times ks w → owners w ≡ 0)
      → ListBoth (IsSharing need low owners) xs ks
  all_sharing owners rs [] [] h t alone = tt
  all_sharing owners rs [] (k ∷ ks) h t alone = absurd h
  all_sharing owners rs (x ∷ xs) [] h t alone = absurd h
  all_sharing owners [] (x ∷ xs) (k ∷ ks) h t alone = absurd t
  all_sharing owners (r ∷ rs) (x ∷ xs) (k ∷ ks) h t alone = (
    record {
      shares = λ c w le. off w le (names k w) refl;
      new = λ c. h.0.new;
      lifted = λ c e. ap is_linear t.0.origin ∙ classical_lifted lifts r.ty (ap (λ (y : Ty). y.classical) (sym t.0.ty) ∙ e);
    },
    all_sharing owners rs xs ks h.1 t.1 (λ w le. alone w (omega (arith, le))),
  )
    where
      off : (w : WireId) → 1 ≤ owners w → (b : Bool) → names k w ≡ b → b ≡ false
      off w le false e = refl
      off w le true e =
          let a = times_of_named w (operands_of k) (sym (ap (λ l. names l w) h.0.shows) ∙ e) in
          let z = alone w (omega (arith, a)) in
          absurd (omega (arith, z, le))

module _ (W : Places) (used : Targets) (n low : ℕ) where
  pub all_typed : (xs : List Value) (ks : List Known) → ListBoth (IsHanded W used n low) xs ks → AllOf IsTyped ks
  all_typed [] [] h = tt
  all_typed [] (k ∷ ks) h = absurd h
  all_typed (x ∷ xs) [] h = absurd h
  all_typed (x ∷ xs) (k ∷ ks) h = (subst IsTyped (sym h.0.shows) tt, all_typed xs ks h.1)

  pub each_own : (xs : List Value) (ks : List Known) → ListBoth (IsHanded W used n low) xs ks → AllOf (λ k. is_own k ≡ true) ks
  each_own [] [] h = tt
  each_own [] (k ∷ ks) h = absurd h
  each_own (x ∷ xs) [] h = absurd h
  each_own (x ∷ xs) (k ∷ ks) h = (ap is_own h.0.shows, each_own xs ks h.1)

  pub all_own : (xs : List Value) (ks : List Known) → ListBoth (IsHanded W used n low) xs ks → ListBoth (λ (x : Value) (k : Known). is_own k ≡ true) xs ks
  all_own [] [] h = tt
  all_own [] (k ∷ ks) h = absurd h
  all_own (x ∷ xs) [] h = absurd h
  all_own (x ∷ xs) (k ∷ ks) h = (ap is_own h.0.shows, all_own xs ks h.1)

pub several_own : (ks : List Known) → AllOf (λ k. is_own k ≡ true) ks → OwnIfSeveral ks
several_own [] h = tt
several_own (k ∷ []) h = tt
several_own (k ∷ (l ∷ ks)) h = h

-- ---- which carry their wires

all_carry : (xs : List Value) (ks : List Known) → ListBoth (λ (x : Value) (k : Known). is_own k ≡ true) xs ks → carrying needs.Consumed xs ks ≡ xs
all_carry [] [] h = refl
all_carry [] (k ∷ ks) h = absurd h
all_carry (x ∷ xs) [] h = absurd h
all_carry (x ∷ xs) (k ∷ ks) h = ap (λ b. cond b (x ∷ carrying needs.Consumed xs ks) (carrying needs.Consumed xs ks)) h.0 ∙ ap (λ l. x ∷ l) (all_carry xs ks h.1)

none_carry : (xs : List Value) (ks : List Known) → carrying needs.Held xs ks ≡ []
none_carry [] ks = refl
none_carry (x ∷ xs) [] = refl
none_carry (x ∷ xs) (k ∷ ks) = none_carry xs ks

-- a value in a held use is dropped, which is not Linear
pub stands_carried : (out : Outside) (held : List (List Part)) (U : Places) (under : List Value) (d : Context) (u : Flattening) (need : Need) (xs : List Value) (ks : List Known) → ListBoth (λ (x : Value) (k : Known). is_own k ≡ true) xs ks → not (is_consumed need) && lone_linear xs ≡ false
    → Stands out held U (xs ++ under) d u → Stands out held U (carrying (need_for need xs) xs ks ++ under) d u
stands_carried out held U under d u need [] ks o l r = r
stands_carried out held U under d u needs.Consumed (x ∷ []) ks o l r = subst (λ vs. Stands out held U (vs ++ under) d u) (sym (all_carry (x ∷ []) ks o)) r
stands_carried out held U under d u needs.Held (x ∷ []) ks o l r = subst (λ vs. Stands out held U (vs ++ under) d u) (sym (none_carry (x ∷ []) ks)) (stands_less out held U under d u x l r)
stands_carried out held U under d u need (x ∷ (y ∷ xs)) ks o l r = subst (λ vs. Stands out held U (vs ++ under) d u) (sym (all_carry (x ∷ (y ∷ xs)) ks o)) r

-- ---- arguments

-- a wire that a carried argument owns was consumed, or is new
pub carried_moved : (after : Places) (used consumed : Targets) (n low : ℕ) (w : WireId) (takers : List Receiver) (vs : List Value) (ks : List Known) → Three (IsTakenOver after used consumed n low) takers vs ks → 1 ≤ carriers after w (carried takers vs) → (consumed w ≡ true) ⊎ (n ≤ w.number)
carried_moved after used consumed n low w [] vs ks t le = absurd (omega (arith, le))
carried_moved after used consumed n low w (r ∷ rs) [] ks t le = absurd t
carried_moved after used consumed n low w (r ∷ rs) (v ∷ vs) [] t le = absurd t
carried_moved after used consumed n low w (r ∷ rs) (v ∷ vs) (k ∷ ks) t le = go (is_carried r v) refl le (carried_moved after used consumed n low w rs vs ks t.1)
  where
    rest : List Value
    rest = carried rs vs

    here : is_carried r v ≡ true → (0 < times_in w (after v.place)) ⊎ (times_in w (after v.place) ≤ 0) → 1 ≤ times_in w (after v.place) + carriers after w rest → (1 ≤ carriers after w rest → (consumed w ≡ true) ⊎ (n ≤ w.number)) → (consumed w ≡ true) ⊎ (n ≤ w.number)
    here c (inl lt) l i = t.0.moved c w (let a : times_in w (operands_of k) ≡ times_in w (after v.place) = ap (times_in w) (t.0.own c).0 in omega (arith, a, lt))
    here c (inr z) l i = i (omega (arith, l, z))

    go : (b : Bool) → is_carried r v ≡ b → 1 ≤ carriers after w (cond b (v ∷ rest) rest) → (1 ≤ carriers after w rest → (consumed w ≡ true) ⊎ (n ≤ w.number)) → (consumed w ≡ true) ⊎ (n ≤ w.number)
    go false c l i = i l
    go true c l i = here c (cases_lt 0 (times_in w (after v.place))) l i

pub all_are_taken : (after : Places) (used consumed : Targets) (n low : ℕ) (takers : List Receiver) (vs : List Value) (ks : List Known) → Three (IsTakenOver after used consumed n low) takers vs ks → AllOf IsTaken ks
all_are_taken after used consumed n low [] [] [] t = tt
all_are_taken after used consumed n low [] [] (k ∷ ks) t = absurd t
all_are_taken after used consumed n low [] (v ∷ vs) ks t = absurd t
all_are_taken after used consumed n low (r ∷ rs) [] ks t = absurd t
all_are_taken after used consumed n low (r ∷ rs) (v ∷ vs) [] t = absurd t
all_are_taken after used consumed n low (r ∷ rs) (v ∷ vs) (k ∷ ks) t = (subst IsTaken (sym t.0.shows) refl, all_are_taken after used consumed n low rs vs ks t.1)

pub three_long : {A B C : Type 0} (R : A → B → C → Type 0) (xs : List A) (ys : List B) (zs : List C) → Three R xs ys zs → length xs ≡ length zs
three_long R [] [] [] t = refl
three_long R [] [] (z ∷ zs) t = absurd t
three_long R [] (y ∷ ys) zs t = absurd t
three_long R (x ∷ xs) [] zs t = absurd t
three_long R (x ∷ xs) (y ∷ ys) [] t = absurd t
three_long R (x ∷ xs) (y ∷ ys) (z ∷ zs) t = ap suc (three_long R xs ys zs t.1)
