-- What the walk of a call tells: its static arguments, its header, the types of its arguments and its values.
use Rattle.std.proofs.Common.{◌≡◌, ℕ, suc, ◌+◌, ◌≤◌, Bool, true, false, cond, not, ◌&&◌, ◌||◌, List, [], ◌∷◌, ◌++◌, length, map, ℤ, refl, sym, ap, ap₂, ◌∙◌, subst, arith}
use Rattle.std.specs.Prelude.{Option, Some, None, Ok, slice_get, ⊤}
use Rattle.silq_tree.specs.Syntax.{Expressions, Parameter, Function, none, more}
use Rattle.static_num.specs.Static.{is_static, value, eval_of}
use Rattle.silq_types.specs.declared.need.Need.{Need}
use Rattle.silq_types.specs.declared.need.Need.TheVariants as needs
use Rattle.silq_types.specs.declared.signature.InstanceKey.{InstanceKey}
use Rattle.silq_types.specs.declared.signature.Param.{Param}
use Rattle.silq_types.specs.declared.signature.Returned.{Returned}
use Rattle.silq_types.specs.declared.signature.Signature.{Signature}
use Rattle.silq_types.specs.declared.values.Value.{Value}
use Rattle.silq_types.specs.declared.values.Var.{Var}
use Rattle.silq_types.specs.Rules.{and_then}
use Rattle.silq_types.specs.Types.{Statics, at, count, is_lifted}
use Rattle.silq_types.specs.Calls.{param_need}
use Rattle.silq_mean.specs.Written.{header_type, written_at, param_types}
use Rattle.check_scope.specs.Context.{Scope, Context, Check, ◌>>=◌}
use Rattle.check_scope.specs.Uses.{uses, all_uses}
use Rattle.check_expr.specs.Expression.{asked_by, static_arguments, arguments, placed, argument_at, result_origin, result_values, exact_place}
use Rattle.check_expr.specs.Owners.{at_place, handed, handed_arguments, owned, Gives, Ensures, Sole, consumed_weight, returned_weight, Proper}
use Rattle.check_expr.proofs.Owners.{gives-more, o_bind, o_then, o_back, o_rules, o_natural, o_results, sole-less, weight_of, weights}
use Rattle.silq_mean.specs.Meaning as meanings
use Rattle.flat_form.specs.Shows.{ListBoth}
use Rattle.flat_typed.specs.Relation.{need_of}
use Rattle.flat_typed.specs.Scopes.{NoStatics}
use Rattle.flat_typed.specs.Lemmas.{Asking}
use Rattle.flat_typed.proofs.Ordered.{clash}
use Rattle.flat_typed.proofs.Leaving.{k_any}
use Rattle.flat_typed.proofs.Scopes.{ok_same, then_ok, needed_is, taken_param}
use Rattle.flat_typed.proofs.Turns.{gives_both}
use Rattle.flat_typed.proofs.Reached.{gives_each}
use Rattle.flat_typed.proofs.UsesThere.{static_of, no_uses}
use Rattle.flat_typed.proofs.CallArguments.{IsSuited}
use Rattle.flat_typed.proofs.CallResults.{PlacedBy, IsReturned}

-- ---- static arguments

-- they have the values that the meaning reads, and use no variable
pub static_known : (S : InstanceKey → Signature → Type 0) (sc : Scope) (vars : List Var) → NoStatics sc vars → {P : Context → Type 0} (ss : Expressions) → Ensures S P (static_arguments ss sc) (λ zs d. ((meanings.static_values ss sc.statics ≡ zs) × (all_uses ss sc vars [] ≡ [])) × P d)
static_known S sc vars free none = o_back S 0 [] (λ c p. ((refl, refl), p))
static_known S sc vars free {P = P} (more e es) =
    o_bind S 0 (needed_is S 0 sc e) (λ v. o_then S 0 (o_natural S 0 {P = λ x. (eval_of sc.statics e ≡ Ok v) × P x} (at e) v) (λ u. o_bind S 0 (static_known S sc vars free {P = λ x. (eval_of sc.statics e ≡ Ok v) × P x} es) (λ zs. o_back S 0 (v ∷ zs) (λ c h.
    ((ap₂ (λ x l. meanings.or_zero x ∷ l) h.1.0 h.0.0, ap₂ (λ x l. x ++ l) (none_used v h.1.0) h.0.1), h.1.1)))))
  where
    none_used : (v : ℤ) → eval_of sc.statics e ≡ Ok v → uses e sc vars needs.Held ≡ []
    none_used v h = no_uses S 0 (λ p. []) vars sc free e needs.Held (static_of (is_static sc.statics e) (value sc.statics e) v h)

-- ---- parameters

-- the header's parameters are the written ones in turn
abbrev pub Typed : Function → List Parameter → List Param → Type 0
Typed f (p ∷ ps) (t ∷ ts) = (t.held ≡ (p.held || is_lifted f.mark)) × Typed f ps ts
Typed f [] [] = Unit {0}
Typed f ps ts = ⊥

pub params_typed : (f : Function) (statics : Statics) (ps : List Parameter) (ts : List Param) → param_types statics f.mark exact_place ps ≡ Ok ts → Typed f ps ts
params_typed f statics [] ts e = subst (Typed f []) (ok_same [] ts e) tt
params_typed f statics (p ∷ ps) ts e =
    let a = then_ok (header_type statics p.ty (written_at p.ty)) (λ t. and_then (param_types statics f.mark exact_place ps) (λ us. Ok (record { ty = t; held = p.held || is_lifted f.mark } ∷ us))) ts e in
    let b = then_ok (param_types statics f.mark exact_place ps) (λ us. Ok (record { ty = a.first; held = p.held || is_lifted f.mark } ∷ us)) ts a.rest in
    subst (Typed f (p ∷ ps)) (ok_same (record { ty = a.first; held = p.held || is_lifted f.mark } ∷ b.first) ts b.rest) (refl, params_typed f statics ps b.first b.is)

pub typed_long : (f : Function) (ps : List Parameter) (ts : List Param) → Typed f ps ts → length ps ≡ length ts
typed_long f [] [] h = refl
typed_long f [] (t ∷ ts) h = absurd h
typed_long f (p ∷ ps) [] h = absurd h
typed_long f (p ∷ ps) (t ∷ ts) h = ap suc (typed_long f ps ts h.1)

pub typed_needs : (f : Function) (ps : List Parameter) (ts : List Param) → Typed f ps ts → map need_of (map taken_param ts) ≡ map (param_need f) ps
typed_needs f [] [] h = refl
typed_needs f [] (t ∷ ts) h = absurd h
typed_needs f (p ∷ ps) [] h = absurd h
typed_needs f (p ∷ ps) (t ∷ ts) h = ap₂ (λ b l. cond b needs.Held needs.Consumed ∷ l) h.0 (typed_needs f ps ts h.1)

pub typed_asking : (f : Function) (ps : List Parameter) (ts : List Param) → Typed f ps ts → Asking needs.Held (map asked_by ts) (map (param_need f) ps) (map taken_param ts)
typed_asking f [] [] h = tt
typed_asking f [] (t ∷ ts) h = absurd h
typed_asking f (p ∷ ps) [] h = absurd h
typed_asking f (p ∷ ps) (t ∷ ts) h = ((refl, refl), ap (λ b. cond b needs.Held needs.Consumed) (sym h.0), typed_asking f ps ts h.1)

-- ---- types of arguments

not_both : (a b : Bool) → (a && not b) ≡ false → a ≡ true → b ≡ true
not_both true true e h = refl
not_both true false e h = clash e
not_both false b e h = clash (sym h)

-- a fact that speaks of no context stays
keeps_fact : {A : Type 0} (S : InstanceKey → Signature → Type 0) (X : Type 0) (m : Check A) → Ensures S (λ d. X) m (λ a d. X)
keeps_fact S X m = record { runs = λ c x. gives-more S 0 (λ r. ⊤) (λ r. X) (m c) ((k_any S 0 {P = λ d. ⊤} m).runs c tt) (λ r h. x) }

pub all_suited : (S : InstanceKey → Signature → Type 0) (X : Type 0) (es : Expressions) (sc : Scope) (other : Need) (ts : List Param) → count es ≡ length ts → Ensures S (λ d. X) (arguments es sc other (map asked_by ts)) (λ vs d. X × ListBoth IsSuited ts vs)
all_suited S X none sc other [] l = o_back S 0 [] (λ d h. (h, tt))
all_suited S X none sc other (t ∷ ts) l = absurd (omega (arith, l))
all_suited S X (more e es) sc other [] l = absurd (omega (arith, l))
all_suited S X (more e es) sc other (t ∷ ts) l =
    o_bind S 0 (keeps_fact S X _) (λ vs. o_bind S 0 (keeps_fact S X _) (λ v. o_then S 0 (o_rules S 0 {P = λ d. X} (at e) _) (λ u.
    record {
      runs = λ d h.
          (o_bind S 0 (all_suited S (X × IsSuited t v) es sc other ts (omega (arith, l))) (λ rest. o_back S 0 (v ∷ rest) {Q = λ ws d. X × ListBoth IsSuited (t ∷ ts) ws} (λ g q. (q.0.0, (q.0.1, q.1))))).runs d (h.1, not_both t.ty.classical v.ty.classical h.0.1.0);
    })))

-- ---- values

-- from the context d on
abbrev pub From : Context → Context → Type 0
From d g = (g.vars ≡ d.vars) × (d.next ≤ g.next)

placed_one : (S : InstanceKey → Signature → Type 0) (lifts : Bool) (vs : List Value) (d : Context) (r : Returned) → Ensures S (From d) (placed (argument_at vs r.from) r.ty (result_origin lifts r.ty)) (λ x g. IsReturned lifts vs d.next r x × From d g)
unfolding ◌>>=◌
placed_one S lifts vs d r = go (argument_at vs r.from) refl
  where
    go : (o : Option Value) → argument_at vs r.from ≡ o → Ensures S (From d) (placed o r.ty (result_origin lifts r.ty)) (λ x g. IsReturned lifts vs d.next r x × From d g)
    go None e = record { runs = λ c h. (record { ty = refl; origin = refl; place = subst (λ z. PlacedBy d.next z c.next) (sym e) h.1 }, (h.0, (let a = h.1 in omega (arith, a)))) }
    go (Some v) e = record { runs = λ c h. (record { ty = refl; origin = refl; place = subst (λ z. PlacedBy d.next z v.place) (sym e) refl }, h) }

results_from : (S : InstanceKey → Signature → Type 0) (lifts : Bool) (vs : List Value) (d : Context) (X : Type 0) (rs : List Returned) → Ensures S (λ c. X × From d c) (result_values lifts vs rs) (λ xs g. (X × ListBoth (IsReturned lifts vs d.next) rs xs) × From d g)
results_from S lifts vs d X [] = o_back S 0 [] (λ c h. ((h.0, tt), h.1))
results_from S lifts vs d X (r ∷ rs) = record {
  runs = λ c h.
      (o_bind S 0 (placed_one S lifts vs d r) (λ x. record {
        runs = λ g q.
            (o_bind S 0 (results_from S lifts vs d (X × IsReturned lifts vs d.next r x) rs) (λ xs. o_back S 0 (x ∷ xs) {Q = λ ys g. (X × ListBoth (IsReturned lifts vs d.next) (r ∷ rs) ys) × From d g} (λ f t. ((t.0.0.0, (t.0.0.1, t.0.1)), t.1)))).runs g ((h.0, q.0), q.1);
      })).runs c h.1;
}

-- a consumed argument hands its place over
handed_if : (b : Bool) (p n : ℕ) (v : Value) → n ≡ at_place p v.place → cond b 0 n ≤ handed (cond b needs.Held needs.Consumed) p (v ∷ [])
handed_if true p n v e = omega arith
handed_if false p n v e = omega (arith, e)

none_if : (b : Bool) (n : ℕ) → n ≡ 0 → cond b 0 n ≡ 0
none_if true n e = refl
none_if false n e = e

handed_weight : (S : InstanceKey → Signature → Type 0) (p : ℕ) (w : ℕ → ℕ) (i : ℕ) (ps : List Param) (vs : List Value) → ((j k : ℕ) → k ≡ i + j → w k ≡ weight_of S 0 p (slice_get vs j)) → consumed_weight w i ps ≤ handed_arguments needs.Held (map asked_by ps) p vs
handed_weight S p w i [] vs h = omega arith
handed_weight S p w i (q ∷ qs) [] h =
    let rest = handed_weight S p w (suc i) qs [] (λ j k e. h (suc j) k (omega (arith, e))) in
    let z = none_if q.held (w i) (h 0 i (omega arith)) in
    omega (arith, rest, z)
handed_weight S p w i (q ∷ qs) (v ∷ vs) h =
    let rest = handed_weight S p w (suc i) qs vs (λ j k e. h (suc j) k (omega (arith, e))) in
    let first = handed_if q.held p (w i) v (h 0 i (omega arith)) in
    omega (arith, rest, first)

-- all that the walk makes of some results, from the context d
pub record Made (lifts : Bool) (ps : List Param) (vs : List Value) (d : Context) (rs : List Returned) (xs : List Value) (g : Context) : Type 0 where
  pub each : ListBoth (IsReturned lifts vs d.next) rs xs
  pub vars : g.vars ≡ d.vars
  pub up : d.next ≤ g.next
  pub sole : (low : ℕ) (others : ℕ → ℕ) → Sole low (λ p. others p + handed_arguments needs.Held (map asked_by ps) p vs) d → Sole low (λ p. others p + owned p xs) g

pub results_made : (S : InstanceKey → Signature → Type 0) (lifts : Bool) (ps : List Param) (vs : List Value) (d : Context) (rs : List Returned) → Proper ps rs → Gives S (λ r. Made lifts ps vs d rs r.0 r.1) (result_values lifts vs rs d)
results_made S lifts ps vs d rs proper =
    gives-more S 0 (λ r. ((⊤ × ListBoth (IsReturned lifts vs d.next) rs r.0) × From d r.1) × ((b : Given) → Sole b.0 (λ p. b.1 p + owned p r.0) r.1)) (λ r. Made lifts ps vs d rs r.0 r.1) (result_values lifts vs rs d)
    (gives_both S (λ r. (⊤ × ListBoth (IsReturned lifts vs d.next) rs r.0) × From d r.1) (λ r. (b : Given) → Sole b.0 (λ p. b.1 p + owned p r.0) r.1) (result_values lifts vs rs d)
    ((results_from S lifts vs d ⊤ rs).runs d (tt, (refl, omega arith)))
    (gives_each S (λ b r. Sole b.0 (λ p. b.1 p + owned p r.0) r.1) (result_values lifts vs rs d) (λ b. (o_results S b.0 b.1 lifts vs rs).runs d (less b))))
    (λ r h. record { each = h.0.0.1; vars = h.0.1.0; up = h.0.1.1; sole = λ low others s. h.1 (low, others, s) })
  where
    Given : Type 0
    Given = (low : ℕ) × (others : ℕ → ℕ) × Sole low (λ p. others p + handed_arguments needs.Held (map asked_by ps) p vs) d

    less : (b : Given) → Sole b.0 (λ p. b.1 p + returned_weight (weights S b.0 vs p) rs) d
    less b =
        sole-less S b.0 (λ p. b.1 p + handed_arguments needs.Held (map asked_by ps) p vs) (λ p. b.1 p + returned_weight (weights S b.0 vs p) rs) d b.2
        (λ p.
        let a = proper (weights S b.0 vs p) in
        let e = handed_weight S p (weights S 0 vs p) 0 ps vs (λ j k e. ap (weights S 0 vs p) (e ∙ (let z : 0 + j ≡ j = omega arith in z))) in
        omega (arith, a, e))
