-- One argument of a call among all, by its number.
use Rattle.std.proofs.Common.{◌≡◌, ℕ, zero, suc, ◌+◌, ◌≤◌, ◌<◌, Bool, true, false, cond, List, [], ◌∷◌, map, refl, sym, ap, ◌∙◌, subst, arith}
use Rattle.std.specs.Prelude.{Some, None, slice_get}
use Rattle.std.proofs.lemmas.Bool.{eq-eqb, ne_eqb}
use Rattle.silq_types.specs.declared.signature.Param.{Param}
use Rattle.silq_types.specs.declared.signature.Returned.{Returned}
use Rattle.silq_types.specs.declared.values.Value.{Value}
use Rattle.check_expr.specs.Owners.{at_place, consumed_weight, from_weight, returned_weight, Proper}
use Rattle.flat_core.specs.declared.step.WireId.{WireId}
use Rattle.bit_arith.specs.Calls.{Targets}
use Rattle.flat_form.specs.declared.known.Known.{Known}
use Rattle.flat_form.specs.State.{operands_of}
use Rattle.flat_form.specs.Names.{AllOf}
use Rattle.flat_form.specs.Good.{IsKnown}
use Rattle.flat_form.specs.Shows.{ListBoth}
use Rattle.flat_typed.specs.Places.{Places}
use Rattle.flat_typed.specs.Relation.{IsTakenOver}
use Rattle.flat_typed.specs.Calls.{Three, SparesCarried, IsGivenOver}
use Rattle.flat_typed.proofs.Parts.{some_same}
use Rattle.flat_typed.proofs.Scopes.{taken_param}
use Rattle.flat_typed.proofs.Parameters.{operands_at}

-- where a classical type is asked the value is classical
abbrev pub IsSuited : Param → Value → Type 0
IsSuited p v = p.ty.classical ≡ true → v.ty.classical ≡ true

-- all that is known of one argument behind the arguments, in a state with m wires
pub record IsArgument (after : Places) (used consumed : Targets) (n low : ℕ) (owners : WireId → ℕ) (own : List Value) (m : ℕ) (p : Param) (v : Value) (k : Known) : Type 0 where
  pub taken : IsTakenOver after used consumed n low (taken_param p) v k
  pub given : IsGivenOver low owners (taken_param p) v k
  pub spares : SparesCarried after own (taken_param p) v k
  pub known : IsKnown m k
  pub suited : IsSuited p v

pub all_arguments : (after : Places) (used consumed : Targets) (n low : ℕ) (owners : WireId → ℕ) (own : List Value) (m : ℕ) (ps : List Param) (vs : List Value) (ks : List Known) → Three (IsTakenOver after used consumed n low) (map taken_param ps) vs ks
    → Three (IsGivenOver low owners) (map taken_param ps) vs ks → Three (SparesCarried after own) (map taken_param ps) vs ks → AllOf (IsKnown m) ks → ListBoth IsSuited ps vs → Three (IsArgument after used consumed n low owners own m) ps vs ks
all_arguments after used consumed n low owners own m [] [] [] t g a k s = tt
all_arguments after used consumed n low owners own m [] [] (l ∷ ks) t g a k s = absurd t
all_arguments after used consumed n low owners own m [] (v ∷ vs) ks t g a k s = absurd t
all_arguments after used consumed n low owners own m (p ∷ ps) [] ks t g a k s = absurd t
all_arguments after used consumed n low owners own m (p ∷ ps) (v ∷ vs) [] t g a k s = absurd t
all_arguments after used consumed n low owners own m (p ∷ ps) (v ∷ vs) (l ∷ ks) t g a k s =
    (record { taken = t.0; given = g.0; spares = a.0; known = k.0; suited = s.0 }, all_arguments after used consumed n low owners own m ps vs ks t.1 g.1 a.1 k.1 s.1)

-- the parameter with the number j is not held where the places of consumed ones alone are given on
pub record Numbered (Q : Param → Value → Known → Type 0) (j i : ℕ) (ps : List Param) (ks : List Known) (m : ℕ) (v : Value) : Type 0 where
  pub param : Param
  pub known : Known
  pub is : Q param v known
  pub shows : operands_at ks m ≡ operands_of known
  pub light : param.held ≡ true → consumed_weight (at_place j) i ps ≡ 0

pub no_weight : (j i : ℕ) → (j ≡ i → ⊥) → at_place j i ≡ 0
no_weight j i ne = ap (λ b. cond b 1 0) (ne_eqb i j (λ e. ne (sym e)))

pub if_zero : (b : Bool) (n : ℕ) → n ≡ 0 → cond b 0 n ≡ 0
if_zero true n e = refl
if_zero false n e = e

pub light_behind : (j i : ℕ) (ps : List Param) → j < i → consumed_weight (at_place j) i ps ≡ 0
light_behind j i [] lt = refl
light_behind j i (p ∷ ps) lt =
    let a = if_zero p.held (at_place j i) (no_weight j i (λ e. omega (arith, e, lt))) in
    let b = light_behind j (suc i) ps (omega (arith, lt)) in
    omega (arith, a, b)

pub numbered : (Q : Param → Value → Known → Type 0) (j i m : ℕ) (ps : List Param) (vs : List Value) (ks : List Known) → j ≡ i + m → Three Q ps vs ks → (v : Value) → slice_get vs m ≡ Some v → Numbered Q j i ps ks m v
numbered Q j i m [] [] ks e t v g = absurd (grind (arith, g))
numbered Q j i m [] (u ∷ vs) ks e t v g = absurd t
numbered Q j i m (p ∷ ps) [] ks e t v g = absurd t
numbered Q j i m (p ∷ ps) (u ∷ vs) [] e t v g = absurd t
numbered Q j i zero (p ∷ ps) (u ∷ vs) (k ∷ ks) e t v g = record {
  param = p;
  known = k;
  is = subst (λ (x : Value). Q p x k) (some_same u v g) t.0;
  shows = refl;
  light = λ h. let a : cond p.held 0 (at_place j i) ≡ 0 = ap (λ b. cond b 0 (at_place j i)) h in let b = light_behind j (suc i) ps (omega (arith, e)) in omega (arith, a, b);
}
numbered Q j i (suc m) (p ∷ ps) (u ∷ vs) (k ∷ ks) e t v g =
    let r = numbered Q j (suc i) m ps vs ks (omega (arith, e)) t.1 v g in
    record {
      param = r.param;
      known = r.known;
      is = r.is;
      shows = r.shows;
      light = λ h. let a = if_zero p.held (at_place j i) (no_weight j i (λ z. omega (arith, z, e))) in let b = r.light h in omega (arith, a, b);
    }

-- past the last argument nothing is shown
pub none_past : (j : ℕ) (Q : Param → Value → Known → Type 0) (ps : List Param) (vs : List Value) (ks : List Known) → Three Q ps vs ks → slice_get vs j ≡ None → operands_at ks j ≡ []
none_past j Q [] [] [] t g = refl
none_past j Q [] [] (k ∷ ks) t g = absurd t
none_past j Q [] (v ∷ vs) ks t g = absurd t
none_past j Q (p ∷ ps) [] ks t g = absurd t
none_past j Q (p ∷ ps) (v ∷ vs) [] t g = absurd t
none_past zero Q (p ∷ ps) (v ∷ vs) (k ∷ ks) t g = absurd (grind (arith, g))
none_past (suc j) Q (p ∷ ps) (v ∷ vs) (k ∷ ks) t g = none_past j Q ps vs ks t.1 g

-- each number of a parameter that some results have is that of a consumed one

pub weighs : (ps : List Param) (rs : List Returned) → Proper ps rs → AllOf (λ (r : Returned). (j : ℕ) → r.from ≡ Some j → 1 ≤ consumed_weight (at_place j) 0 ps) rs
weighs ps rs proper = go rs (λ j. proper (at_place j))
  where
    one : (r : Returned) (rest : List Returned) → ((j : ℕ) → returned_weight (at_place j) (r ∷ rest) ≤ consumed_weight (at_place j) 0 ps) → (j : ℕ) → r.from ≡ Some j → 1 ≤ consumed_weight (at_place j) 0 ps
    one r rest h j e =
        let a = h j in
        let b : from_weight (at_place j) r.from ≡ 1 = ap (from_weight (at_place j)) e ∙ ap (λ t. cond t 1 0) (eq-eqb j j refl) in
        omega (arith, a, b)

    go : (qs : List Returned) → ((j : ℕ) → returned_weight (at_place j) qs ≤ consumed_weight (at_place j) 0 ps) → AllOf (λ (r : Returned). (j : ℕ) → r.from ≡ Some j → 1 ≤ consumed_weight (at_place j) 0 ps) qs
    go [] h = tt
    go (r ∷ rest) h = (one r rest h, go rest (λ j. let a = h j in omega (arith, a)))
