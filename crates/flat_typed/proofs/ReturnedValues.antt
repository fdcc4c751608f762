-- Returned values, counted: how often they name a wire.
use Rattle.std.proofs.Common.{◌≡◌, ◌⊎◌, inl, inr, ℕ, ◌+◌, ◌≤◌, ◌<◌, Bool, true, false, cond, List, [], ◌∷◌, length, map, refl, sym, ap, ap₂, ◌∙◌, arith}
use Rattle.std.specs.Prelude.{Option, Some, None}
use Rattle.std.proofs.lemmas.Bool.{cases_lt}
use Rattle.silq_tree.specs.Syntax.{Parameter}
use Rattle.silq_types.specs.declared.types.Ty.{Ty}
use Rattle.silq_types.specs.declared.signature.Param.{Param}
use Rattle.silq_types.specs.declared.values.Value.{Value}
use Rattle.silq_types.specs.Types.{is_linear}
use Rattle.silq_types.specs.Calls.{is_consumed}
use Rattle.check_scope.specs.Context.{Context}
use Rattle.check_fun.specs.Program.{given_on, returned_as}
use Rattle.silq_mean.specs.declared.receiver.Receiver.{Receiver}
use Rattle.flat_core.specs.declared.step.WireId.{WireId}
use Rattle.bit_arith.specs.Calls.{Targets}
use Rattle.flat_form.specs.declared.known.Known.{Known}
use Rattle.flat_form.specs.State.{wires_in, operands_of}
use Rattle.flat_form.specs.Names.{AllOf, names}
use Rattle.flat_form.specs.Shows.{ListBoth}
use Rattle.flat_typed.specs.Places.{Places, times_in, carriers, linear_carriers}
use Rattle.flat_typed.specs.Relation.{IsTakenOver, need_of}
use Rattle.flat_typed.specs.Calls.{Three, carried, IsGivenOver, FromParam, IsResult, named_times, quantum_times}
use Rattle.flat_typed.specs.Bodies.{TakesResults}
use Rattle.flat_typed.proofs.Ordered.{clash}
use Rattle.flat_typed.proofs.LastTold.{HadPlace, PlainFor, for_taker}
use Rattle.flat_typed.proofs.Results.{carried_so, shows_it, given_is, unguarded_wire}

module _ (ns : List Parameter) (ps : List Param) (taker : Ty → Receiver) (takes : TakesResults taker) (W V U : Places) (used consumed : Targets) (n m : ℕ) (c1 : Context) where
  abbrev pub TakesAll : List Ty → List Value → List Known → Type 0
  TakesAll ts vs ks = Three (IsTakenOver U used consumed m c1.next) (map taker ts) vs ks

  its_own : (t : Ty) (v : Value) (k : Known) → IsTakenOver U used consumed m c1.next (taker t) v k → operands_of k ≡ U v.place
  its_own t v k h = (h.own (carried_so ns ps taker takes W V U used consumed n m c1 t v)).0

  pub all_carried : (ts : List Ty) (vs : List Value) (ks : List Known) → TakesAll ts vs ks → carried (map taker ts) vs ≡ vs
  all_carried [] [] ks h = refl
  all_carried [] (v ∷ vs) ks h = absurd h
  all_carried (t ∷ ts) [] ks h = refl
  all_carried (t ∷ ts) (v ∷ vs) [] h = absurd h
  all_carried (t ∷ ts) (v ∷ vs) (k ∷ ks) h =
      ap (λ b. cond b (v ∷ carried (map taker ts) vs) (carried (map taker ts) vs)) (carried_so ns ps taker takes W V U used consumed n m c1 t v) ∙ ap (λ l. v ∷ l) (all_carried ts vs ks h.1)

  pub named_are : (w : WireId) (ts : List Ty) (vs : List Value) (ks : List Known) → TakesAll ts vs ks → named_times ks w ≡ carriers U w vs
  named_are w [] [] [] h = refl
  named_are w [] [] (k ∷ ks) h = absurd h
  named_are w [] (v ∷ vs) ks h = absurd h
  named_are w (t ∷ ts) [] ks h = absurd h
  named_are w (t ∷ ts) (v ∷ vs) [] h = absurd h
  named_are w (t ∷ ts) (v ∷ vs) (k ∷ ks) h = ap₂ (λ a b. a + b) (ap (times_in w) (its_own t v k h.0)) (named_are w ts vs ks h.1)

  -- a Linear value is returned as a quantum one
  pub linear_are : (w : WireId) (ts : List Ty) (vs : List Value) (ks : List Known) → TakesAll ts vs ks → ListBoth PlainFor ts vs → linear_carriers U w vs ≤ quantum_times (returned_as ps ts vs) ks w
  linear_are w [] [] ks h p = omega arith
  linear_are w [] (v ∷ vs) ks h p = absurd p
  linear_are w (t ∷ ts) [] ks h p = absurd p
  linear_are w (t ∷ ts) (v ∷ vs) [] h p = absurd h
  linear_are w (t ∷ ts) (v ∷ vs) (k ∷ ks) h p =
      let a = one (is_linear v.origin) refl t.classical refl in
      let b = linear_are w ts vs ks h.1 p.1 in
      omega (arith, a, b)
    where
      one : (l : Bool) → is_linear v.origin ≡ l → (c : Bool) → t.classical ≡ c → cond l (times_in w (U v.place)) 0 ≤ cond c 0 (times_in w (operands_of k))
      one false e c f = omega arith
      one true e true f = clash (sym e ∙ (p.0 f).1)
      one true e false f = let s : times_in w (operands_of k) ≡ times_in w (U v.place) = ap (times_in w) (its_own t v k h.0) in omega (arith, s)

  -- a wire of theirs is one of what was consumed, or new
  pub named_moved : (w : WireId) (ts : List Ty) (vs : List Value) (ks : List Known) → TakesAll ts vs ks → 1 ≤ named_times ks w → (consumed w ≡ true) ⊎ (m ≤ w.number)
  named_moved w [] [] [] h le = absurd (omega (arith, le))
  named_moved w [] [] (k ∷ ks) h le = absurd h
  named_moved w [] (v ∷ vs) ks h le = absurd h
  named_moved w (t ∷ ts) [] ks h le = absurd h
  named_moved w (t ∷ ts) (v ∷ vs) [] h le = absurd h
  named_moved w (t ∷ ts) (v ∷ vs) (k ∷ ks) h le = go (cases_lt 0 (times_in w (operands_of k))) (named_moved w ts vs ks h.1)
    where
      go : (0 < times_in w (operands_of k)) ⊎ (times_in w (operands_of k) ≤ 0) → (1 ≤ named_times ks w → (consumed w ≡ true) ⊎ (m ≤ w.number)) → (consumed w ≡ true) ⊎ (m ≤ w.number)
      go (inl l) i = h.0.moved (carried_so ns ps taker takes W V U used consumed n m c1 t v) w (omega (arith, l))
      go (inr z) i = i (omega (arith, z, le))

  abbrev pub GivenAll : (WireId → ℕ) → List Ty → List Value → List Known → Type 0
  GivenAll owners ts vs ks = Three (IsGivenOver c1.next owners) (map taker ts) vs ks

  -- each is a result
  pub results_are : (owners : WireId → ℕ) (ts : List Ty) (vs : List Value) (ks : List Known) → TakesAll ts vs ks → GivenAll owners ts vs ks → ListBoth PlainFor ts vs → length ps ≤ c1.next → AllOf (HadPlace c1) vs
      → ((t : Ty) (v : Value) (k : Known) → HadPlace c1 v → IsTakenOver U used consumed m c1.next (taker t) v k → given_on 0 ps v.place ≡ None → (w : WireId) → names k w ≡ true → n ≤ w.number)
      → ((p : ℕ) → p < length ps → U p ≡ W p)
      → ListBoth (IsResult W n) (returned_as ps ts vs) ks
  results_are owners [] [] [] h g q le p f agree = tt
  results_are owners [] [] (k ∷ ks) h g q le p f agree = absurd h
  results_are owners [] (v ∷ vs) ks h g q le p f agree = absurd h
  results_are owners (t ∷ ts) [] ks h g q le p f agree = absurd h
  results_are owners (t ∷ ts) (v ∷ vs) [] h g q le p f agree = absurd h
  results_are owners (t ∷ ts) (v ∷ vs) (k ∷ ks) h g q le p f agree = (
    record {
      shows = shows_it ns ps taker takes W V U used consumed n m c1 t v k h.0;
      from = go (given_on 0 ps v.place) refl;
      quantum = λ e. none_given (given_on 0 ps v.place) refl (g.0.new (for_taker taker takes (λ r. is_consumed (need_of r) ≡ true) t refl refl) (q.0 e).0);
    },
    results_are owners ts vs ks h.1 g.1 q.1 le p.1 f agree,
  )
    where
      go : (o : Option ℕ) → given_on 0 ps v.place ≡ o → FromParam W n o k
      go None e = f t v k p.0 h.0 e
      go (Some j) e = let x = given_is 0 ps v.place j e in its_own t v k h.0 ∙ (ap U x.place ∙ agree j (let l = x.below in omega (arith, l)))

      none_given : (o : Option ℕ) → given_on 0 ps v.place ≡ o → c1.next ≤ v.place → o ≡ None
      none_given None e l = refl
      none_given (Some j) e l = let x = given_is 0 ps v.place j e in let a = x.place in let b = x.below in absurd (omega (arith, a, b, l, le))

-- a wire that some values carry is not guarded
pub unguarded_values : (G : Targets) (U : Places) (w : WireId) (vs : List Value) → AllOf (λ v. AllOf (λ x. G x ≡ false) (wires_in (U v.place))) vs → 1 ≤ carriers U w vs → G w ≡ false
unguarded_values G U w [] h le = absurd (omega (arith, le))
unguarded_values G U w (v ∷ vs) h le = go (cases_lt 0 (times_in w (U v.place))) (unguarded_values G U w vs h.1)
  where
    go : (0 < times_in w (U v.place)) ⊎ (times_in w (U v.place) ≤ 0) → (1 ≤ carriers U w vs → G w ≡ false) → G w ≡ false
    go (inl l) i = unguarded_wire G (U v.place) w h.0 (omega (arith, l))
    go (inr z) i = i (omega (arith, z, le))
