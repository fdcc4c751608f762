-- The values of a call in turn: who owns their wires, and which places show them.
use Rattle.std.proofs.Common.{◌≡◌, ◌⊎◌, inl, inr, ℕ, ◌+◌, ◌≤◌, ◌<◌, Bool, true, false, cond, not, ◌&&◌, ◌||◌, List, [], ◌∷◌, map, refl, sym, ap, ap₂, ◌∙◌, arith}
use Rattle.std.specs.Prelude.{Some, ◌==◌}
use Rattle.std.proofs.lemmas.Bool.{eqb-true, eq-eqb, cases_lt}
use Rattle.silq_types.specs.declared.need.Need.TheVariants as needs
use Rattle.silq_types.specs.declared.values.Origin.TheVariants.{Linear, Classical}
use Rattle.silq_types.specs.declared.signature.Param.{Param}
use Rattle.silq_types.specs.declared.signature.Returned.{Returned}
use Rattle.silq_types.specs.declared.values.Value.{Value}
use Rattle.silq_types.specs.declared.values.Var.{Var}
use Rattle.silq_types.specs.Types.{is_linear}
use Rattle.silq_types.specs.Calls.{is_consumed}
use Rattle.check_expr.specs.Expression.{all_lifted}
use Rattle.check_expr.specs.Owners.{at_place, owns, owners, owned, consumed_weight}
use Rattle.flat_core.specs.declared.step.WireId.{WireId}
use Rattle.bit_arith.specs.Calls.{Targets}
use Rattle.flat_form.specs.declared.known.Known.{Known}
use Rattle.flat_form.specs.State.{operands_of, wires_in}
use Rattle.flat_form.specs.Names.{AllOf}
use Rattle.flat_form.specs.Shows.{ListBoth}
use Rattle.flat_typed.specs.Places.{Places, with_place, times_in, carriers, linear_carriers}
use Rattle.flat_typed.specs.Relation.{is_carried}
use Rattle.flat_typed.specs.Calls.{Three, carried, IsResult, named_times, quantum_times}
use Rattle.flat_typed.proofs.Ordered.{clash}
use Rattle.flat_typed.proofs.Owning.{each_named}
use Rattle.flat_typed.proofs.Agreeing.{SameFor}
use Rattle.flat_typed.proofs.Making.{its_place}
use Rattle.flat_typed.proofs.Placing.{place_other}
use Rattle.flat_typed.proofs.Handing.{with_all, unowned_stays}
use Rattle.flat_typed.proofs.Scopes.{taken_param}
use Rattle.flat_typed.proofs.Parameters.{operands_at}
use Rattle.flat_typed.proofs.CallArguments.{IsArgument}
use Rattle.flat_typed.proofs.CallResults.{IsReturned, IsHanded, is_handed}

-- ---- all values

module _ (after : Places) (used consumed : Targets) (n low next m : ℕ) (owners : WireId → ℕ) (own : List Value) (ps : List Param) (vs : List Value) (ks : List Known) (all : Three (IsArgument after used consumed n low owners own m) ps vs ks) (up : low ≤ next) (grown : n ≤ m) (lifts : Bool) where
  pub all_handed : (rs : List Returned) (xs : List Value) (ls : List Known) → ListBoth (IsResult (operands_at ks) m) rs ls → ListBoth (IsReturned lifts vs next) rs xs → AllOf (λ (r : Returned). (j : ℕ) → r.from ≡ Some j → 1 ≤ consumed_weight (at_place j) 0 ps) rs
      → ((w : WireId) → 1 ≤ named_times ls w → (1 ≤ carriers after w own) ⊎ (m ≤ w.number)) → ListBoth (IsHanded after used n low) xs ls
  all_handed [] [] [] q t h o = tt
  all_handed [] [] (k ∷ ls) q t h o = absurd q
  all_handed [] (x ∷ xs) ls q t h o = absurd t
  all_handed (r ∷ rs) [] ls q t h o = absurd t
  all_handed (r ∷ rs) (x ∷ xs) [] q t h o = absurd q
  all_handed (r ∷ rs) (x ∷ xs) (k ∷ ls) q t h o = (
    is_handed after used consumed n low next m owners own ps vs ks all up grown lifts r x k q.0 t.0 h.0 (λ w le. o w (omega (arith, le))),
    all_handed rs xs ls q.1 t.1 h.1 (λ w le. o w (omega (arith, le))),
  )

-- ---- owners

pub carriers_named : (U : Places) (w : WireId) (xs : List Value) (ls : List Known) → ListBoth (λ (x : Value) (k : Known). U x.place ≡ operands_of k) xs ls → carriers U w xs ≡ named_times ls w
carriers_named U w [] [] h = refl
carriers_named U w [] (k ∷ ls) h = absurd h
carriers_named U w (x ∷ xs) [] h = absurd h
carriers_named U w (x ∷ xs) (k ∷ ls) h = ap₂ (λ a b. a + b) (ap (times_in w) h.0) (carriers_named U w xs ls h.1)

-- those of a quantum type are Linear, but where the call gives Lifted ones
pub quantum_linear : (U : Places) (vs : List Value) (next : ℕ) (w : WireId) (rs : List Returned) (xs : List Value) (ls : List Known) → ListBoth (IsReturned false vs next) rs xs → ListBoth (λ (x : Value) (k : Known). U x.place ≡ operands_of k) xs ls
    → quantum_times rs ls w ≤ linear_carriers U w xs
quantum_linear U vs next w [] [] ls t h = omega arith
quantum_linear U vs next w [] (x ∷ xs) ls t h = absurd t
quantum_linear U vs next w (r ∷ rs) [] ls t h = absurd t
quantum_linear U vs next w (r ∷ rs) (x ∷ xs) [] t h = absurd h
quantum_linear U vs next w (r ∷ rs) (x ∷ xs) (k ∷ ls) t h = go r.ty.classical refl (quantum_linear U vs next w rs xs ls t.1 h.1)
  where
    go : (b : Bool) → r.ty.classical ≡ b → quantum_times rs ls w ≤ linear_carriers U w xs → cond b 0 (times_in w (operands_of k)) + quantum_times rs ls w ≤ cond (is_linear x.origin) (times_in w (U x.place)) 0 + linear_carriers U w xs
    go true e i = omega (arith, i)
    go false e i =
        let a : is_linear x.origin ≡ true = ap is_linear t.0.origin ∙ ap (λ c. is_linear (cond c Classical Linear)) e in
        let b : cond (is_linear x.origin) (times_in w (U x.place)) 0 ≡ times_in w (operands_of k) = ap (λ c. cond c (times_in w (U x.place)) 0) a ∙ ap (times_in w) h.0 in
        omega (arith, b, i)

pub quantum_few : (w : WireId) (rs : List Returned) (ls : List Known) → quantum_times rs ls w ≤ named_times ls w
quantum_few w [] ls = omega arith
quantum_few w (r ∷ rs) [] = omega arith
quantum_few w (r ∷ rs) (k ∷ ls) = go r.ty.classical (quantum_few w rs ls)
  where
    go : (b : Bool) → quantum_times rs ls w ≤ named_times ls w → cond b 0 (times_in w (operands_of k)) + quantum_times rs ls w ≤ times_in w (operands_of k) + named_times ls w
    go true i = omega (arith, i)
    go false i = omega (arith, i)

-- of arguments that are all Lifted none carries a Linear wire
lifted_none : (h c l : Bool) → (is_consumed (cond h needs.Held needs.Consumed) && not c) ≡ true → (h || not l) ≡ true → l ≡ false
lifted_none true c l e f = clash (sym e)
lifted_none false c true e f = clash (sym f)
lifted_none false c false e f = refl

both_true : (a b : Bool) → (a && b) ≡ true → (a ≡ true) × (b ≡ true)
both_true true true e = (refl, refl)
both_true true false e = clash (sym e)
both_true false b e = clash (sym e)

pub lifted_carry : (W : Places) (w : WireId) (ps : List Param) (vs : List Value) → all_lifted ps vs ≡ true → linear_carriers W w (carried (map taken_param ps) vs) ≡ 0
lifted_carry W w [] vs e = refl
lifted_carry W w (p ∷ ps) [] e = refl
lifted_carry W w (p ∷ ps) (v ∷ vs) e = go (is_carried (taken_param p) v) refl (lifted_carry W w ps vs (both_true (p.held || not (is_linear v.origin)) (all_lifted ps vs) e).1)
  where
    go : (b : Bool) → is_carried (taken_param p) v ≡ b → linear_carriers W w (carried (map taken_param ps) vs) ≡ 0 → linear_carriers W w (cond b (v ∷ carried (map taken_param ps) vs) (carried (map taken_param ps) vs)) ≡ 0
    go false c i = i
    go true c i =
        let a = lifted_none p.held p.ty.classical (is_linear v.origin) c (both_true (p.held || not (is_linear v.origin)) (all_lifted ps vs) e).0 in
        let b : cond (is_linear v.origin) (times_in w (W v.place)) 0 ≡ 0 = ap (λ t. cond t (times_in w (W v.place)) 0) a in
        omega (arith, b, i)

-- ---- places

-- a place from before shows what it showed
pub old_stays : (W : Places) (used : Targets) (n low : ℕ) (xs : List Value) (ls : List Known) → ListBoth (IsHanded W used n low) xs ls → (p : ℕ) → p < low → with_all W xs ls p ≡ W p
old_stays W used n low [] ls h p lt = refl
old_stays W used n low (x ∷ xs) [] h p lt = refl
old_stays W used n low (x ∷ xs) (k ∷ ls) h p lt = go (p == x.place) refl (old_stays W used n low xs ls h.1 p lt)
  where
    go : (b : Bool) → (p == x.place) ≡ b → with_all W xs ls p ≡ W p → with_place (with_all W xs ls) x.place (operands_of k) p ≡ W p
    go false e i = place_other (with_all W xs ls) x.place (operands_of k) p e ∙ i
    go true e i =
        let q : p ≡ x.place = eqb-true p x.place e in
        ap (with_place (with_all W xs ls) x.place (operands_of k)) q ∙ (its_place (with_all W xs ls) x.place (operands_of k) ∙ (h.0.old (omega (arith, lt, q)) ∙ ap W (sym q)))

-- and a place that the values have not
pub vars_stay : (W : Places) (xs : List Value) (ls : List Known) (others : ℕ → ℕ) (vars : List Var) → ((p : ℕ) → owners p vars + others p ≤ 1) → ((p : ℕ) → owned p xs ≤ others p) → AllOf (SameFor (with_all W xs ls) W) vars
vars_stay W xs ls others [] h o = tt
vars_stay W xs ls others (v ∷ vs) h o = (go v.consumed refl (cases_lt 0 (owned v.place xs)), vars_stay W xs ls others vs (λ p. let a = h p in omega (arith, a)) o)
  where
    go : (b : Bool) → v.consumed ≡ b → (0 < owned v.place xs) ⊎ (owned v.place xs ≤ 0) → SameFor (with_all W xs ls) W v
    go true e x = inl e
    go false e (inr z) = inr (unowned_stays W xs ls v.place (omega (arith, z)))
    go false e (inl lt) =
        let a = h v.place in
        let b = o v.place in
        let c : owns v.place v ≡ 1 = ap (λ t. cond t 0 (at_place v.place v.place)) e ∙ ap (λ t. cond t 1 0) (eq-eqb v.place v.place refl) in
        absurd (omega (arith, a, b, c, lt))

pub values_stay : (W : Places) (xs : List Value) (ls : List Known) (under : List Value) → ((p : ℕ) → owned p under + owned p xs ≤ 1) → AllOf (λ (v : Value). with_all W xs ls v.place ≡ W v.place) under
values_stay W xs ls [] h = tt
values_stay W xs ls (v ∷ vs) h = (
  unowned_stays W xs ls v.place (let a = h v.place in let c : at_place v.place v.place ≡ 1 = ap (λ t. cond t 1 0) (eq-eqb v.place v.place refl) in omega (arith, a, c)),
  values_stay W xs ls vs (λ p. let a = h p in omega (arith, a)),
)

-- each wire of the values, by what holds of all that they name
pub values_each : (P : WireId → Type 0) (U : Places) (xs : List Value) (ls : List Known) → ListBoth (λ (x : Value) (k : Known). U x.place ≡ operands_of k) xs ls → ((w : WireId) → 1 ≤ named_times ls w → P w) → AllOf (λ (x : Value). AllOf P (wires_in (U x.place))) xs
values_each P U [] ls h f = tt
values_each P U (x ∷ xs) [] h f = absurd h
values_each P U (x ∷ xs) (k ∷ ls) h f = (
  each_named P (U x.place) (λ w le. f w (let a : times_in w (U x.place) ≡ times_in w (operands_of k) = ap (times_in w) h.0 in omega (arith, a, le))),
  values_each P U xs ls h.1 (λ w le. f w (omega (arith, le))),
)
