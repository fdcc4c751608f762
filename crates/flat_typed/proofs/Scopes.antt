-- What the meaning of a part of a body sees is what typing sees: static values, headers and functions by name.
use Rattle.std.proofs.Common.{◌≡◌, ℕ, ◌<◌, Bool, true, false, cond, ◌&&◌, ◌||◌, List, [], ◌∷◌, length, map, refl, ap, ap₂, ◌∙◌, subst, arith}
use Rattle.std.specs.Prelude.{Some, None, Result, Ok, Err, ℤ, ◌==◌}
use Rattle.std.proofs.lemmas.Bool.{eqb-true, eq-eqb}
use Rattle.silq_tree.specs.declared.node.NameId.{NameId}
use Rattle.silq_tree.specs.declared.node.Spot.{Spot}
use Rattle.silq_tree.specs.Syntax.{Expression, Expressions, ScalarType, WrittenType, Parameter, Function, none, more}
use Rattle.static_num.specs.declared.values.StaticFault.{StaticFault}
use Rattle.static_num.specs.Static.{eval_of}
use Rattle.silq_types.specs.declared.types.Scalar.{Scalar}
use Rattle.silq_types.specs.declared.types.Ty.{Ty}
use Rattle.silq_types.specs.declared.signature.Param.{Param}
use Rattle.silq_types.specs.declared.signature.InstanceKey.{InstanceKey}
use Rattle.silq_types.specs.declared.signature.Signature.{Signature}
use Rattle.silq_types.specs.declared.need.Need.{Need}
use Rattle.silq_types.specs.declared.need.Need.TheVariants as needs
use Rattle.silq_types.specs.declared.built_in.BuiltIn.{BuiltIn}
use Rattle.silq_types.specs.Rules.{Fault, rule, lifted_without_result, and_then}
use Rattle.silq_types.specs.Types.{Statics, same_name, is_lifted, at, first_unknown, scalar_names}
use Rattle.silq_types.specs.Calls.{Found, find_fun, param_need, built_in, needs_of_found}
use Rattle.silq_types.specs.Programs.{paired}
use Rattle.silq_mean.specs.Written.{Header, or_not_static, needed_at, width_of, width_spot, scalar_by, all_known, scalar_type, header_type, written_at, is_empty, param_types, result_types, header_of}
use Rattle.check_scope.specs.Context.{Scope, Context, all_needed, needed}
use Rattle.check_scope.specs.Uses.{with_index, index_values}
use Rattle.check_expr.specs.Expression.{exact_place}
use Rattle.check_expr.specs.Owners.{Ensures}
use Rattle.check_expr.proofs.Owners.{o_bind, o_then, o_more, o_back, o_result, o_names}
use Rattle.silq_mean.specs.declared.receiver.Receiver.{Receiver}
use Rattle.silq_mean.specs.declared.receiver.Receiver.TheVariants.{Argument, CallResult}
use Rattle.silq_mean.specs.Effect.{◌>>◌, step, leave_body}
use Rattle.silq_mean.specs.Meaning.{or_zero, static_value, static_values, or_bit, scalar_of, type_or_bit, type_of, param_of, parameters_of, scope, body, functions}
use Rattle.flat_typed.specs.Calls.{parted}
use Rattle.flat_typed.specs.Scopes.{as_meaning, scope_for}
use Rattle.flat_typed.specs.Laws.{Stood}

-- ---- answers

pub ok_same : {A E : Type 0} (a b : A) → ◌≡◌ {A = Result A E} (Ok a) (Ok b) → a ≡ b
ok_same a b e = grind (arith, e)

pub record Both {A B : Type 0} (r : Result A Fault) (f : A → Result B Fault) (b : B) : Type 0 where
  pub first : A
  pub is : r ≡ Ok first
  pub rest : f first ≡ Ok b

pub then_ok : {A B : Type 0} (r : Result A Fault) (f : A → Result B Fault) (b : B) → and_then r f ≡ Ok b → Both r f b
then_ok (Ok a) f b e = record { first = a; is = refl; rest = e }
then_ok (Err x) f b e = absurd (grind (arith, e))

-- ---- static values

pub eval_is : (s : Spot) (r : Result ℤ StaticFault) (z : ℤ) → or_not_static s r ≡ Ok z → r ≡ Ok z
eval_is s (Ok v) z e = ap (λ x. as_ok x) (ok_same v z e)
  where
    as_ok : ℤ → Result ℤ StaticFault
    as_ok x = Ok x
eval_is s (Err f) z e = absurd (grind (arith, e))

-- a needed static value is the one of its meaning
pub static_is : (statics : Statics) (e : Expression) (s : Spot) (z : ℤ) → needed_at statics e s ≡ Ok z → static_value statics e ≡ z
static_is statics e s z h = ap or_zero (eval_is s (eval_of statics e) z h)

module _ (S : InstanceKey → Signature → Type 0) (low : ℕ) where
  pub needed_is : {P : Context → Type 0} (sc : Scope) (e : Expression) → Ensures S P (needed sc e) (λ z d. (eval_of sc.statics e ≡ Ok z) × P d)
  needed_is sc e = o_then S low (o_names S low sc e) (λ u. o_more S low (o_result S low (needed_at sc.statics e (at e))) (λ z c q. (eval_is (at e) (eval_of sc.statics e) z q.0, q.1)))

  -- the index values of a place, and what its meaning has for them
  pub indices_are : {P : Context → Type 0} (es : Expressions) (sc : Scope) → Ensures S P (all_needed es sc) (λ zs d. ((index_values sc.statics es ≡ Some zs) × (static_values es sc.statics ≡ zs)) × P d)
  indices_are none sc = o_back S low [] (λ c p. ((refl, refl), p))
  indices_are {P = P} (more e es) sc =
      o_bind S low (needed_is sc e) (λ v. o_bind S low (indices_are {P = λ x. (eval_of sc.statics e ≡ Ok v) × P x} es sc) (λ vs. o_back S low (v ∷ vs) (λ c h.
      ((ap₂ with_index h.1.0 h.0.0, ap₂ (λ x l. or_zero x ∷ l) h.1.0 h.0.1), h.1.1))))

none_unknown : (ns : List (NameId × Spot)) → first_unknown (λ x. true) ns ≡ None
none_unknown [] = refl
none_unknown (n ∷ ns) = none_unknown ns

-- a written number's type
pub scalar_is : (statics : Statics) (known : NameId → Bool) (k : ScalarType) (s : Spot) (t : Scalar) → scalar_type statics known k s ≡ Ok t → scalar_of statics k s ≡ t
scalar_is statics known k s t e =
    let a = then_ok (all_known (first_unknown known (scalar_names k))) (λ u. and_then (width_of statics k (width_spot k s)) (λ w. scalar_by k w s)) t e in
    ap (λ o. or_bit (and_then (all_known o) (λ u. and_then (width_of statics k (width_spot k s)) (λ w. scalar_by k w s)))) (none_unknown (scalar_names k)) ∙ ap or_bit a.rest

-- ---- headers

-- what takes over the argument for a parameter
abbrev pub taken_param : Param → Receiver
taken_param p = Argument (cond p.held needs.Held needs.Consumed) p.ty

pub params_are : (f : Function) (statics : Statics) (ps : List Parameter) (ts : List Param) → param_types statics f.mark exact_place ps ≡ Ok ts
    → map (λ (p : NameId × Need × Ty). Argument p.1 p.2) (map (param_of f statics) ps) ≡ map taken_param ts
params_are f statics [] ts e = ap (map taken_param) (ok_same [] ts e)
params_are f statics (p ∷ ps) ts e =
    let a = then_ok (header_type statics p.ty (written_at p.ty)) (λ t. and_then (param_types statics f.mark exact_place ps) (λ us. Ok (record { ty = t; held = p.held || is_lifted f.mark } ∷ us))) ts e in
    let b = then_ok (param_types statics f.mark exact_place ps) (λ us. Ok (record { ty = a.first; held = p.held || is_lifted f.mark } ∷ us)) ts a.rest in
    ap₂ (λ (t : Ty) rest. Argument (param_need f p) t ∷ rest) (ap type_or_bit a.is) (params_are f statics ps b.first b.is)
    ∙ ap (map taken_param) (ok_same (record { ty = a.first; held = p.held || is_lifted f.mark } ∷ b.first) ts b.rest)

pub results_are : (taker : Ty → Receiver) (statics : Statics) (rs : List WrittenType) (ts : List Ty) → result_types statics exact_place rs ≡ Ok ts → map (λ t. taker (type_of statics t)) rs ≡ map taker ts
results_are taker statics [] ts e = ap (map taker) (ok_same [] ts e)
results_are taker statics (r ∷ rs) ts e =
    let a = then_ok (header_type statics r (written_at r)) (λ t. and_then (result_types statics exact_place rs) (λ us. Ok (t ∷ us))) ts e in
    let b = then_ok (result_types statics exact_place rs) (λ us. Ok (a.first ∷ us)) ts a.rest in
    ap₂ (λ (t : Ty) rest. taker t ∷ rest) (ap type_or_bit a.is) (results_are taker statics rs b.first b.is)
    ∙ ap (map taker) (ok_same (a.first ∷ b.first) ts b.rest)

pub record HeaderParts (statics : Statics) (f : Function) (h : Header) : Type 0 where
  pub params : param_types statics f.mark exact_place f.params ≡ Ok h.params
  pub results : result_types statics exact_place f.results ≡ Ok h.results

pub header_parts : (statics : Statics) (f : Function) (h : Header) → header_of statics exact_place f ≡ Ok h → HeaderParts statics f h
header_parts statics f h e = go (is_lifted f.mark && is_empty f.results) b.rest
  where
    ok_params : Header → Result (List Param) Fault
    ok_params k = Ok k.params

    ok_results : Header → Result (List Ty) Fault
    ok_results k = Ok k.results

    made : List Param → List Ty → Header
    made ps rs = record { params = ps; results = rs }

    told : List Param → List Ty → Result Header Fault
    told ps rs = cond (is_lifted f.mark && is_empty f.results) (Err (rule lifted_without_result f.at)) (Ok (record { params = ps; results = rs }))

    a : Both (param_types statics f.mark exact_place f.params) (λ ps. and_then (result_types statics exact_place f.results) (λ rs. told ps rs)) h
    a = then_ok (param_types statics f.mark exact_place f.params) (λ ps. and_then (result_types statics exact_place f.results) (λ rs. told ps rs)) h e

    b : Both (result_types statics exact_place f.results) (λ rs. told a.first rs) h
    b = then_ok (result_types statics exact_place f.results) (λ rs. told a.first rs) h a.rest

    go : (t : Bool) → cond t (Err (rule lifted_without_result f.at)) (Ok (made a.first b.first)) ≡ Ok h → HeaderParts statics f h
    go true g = absurd (grind (arith, g))
    go false g =
        let m = ok_same (made a.first b.first) h g in
        record { params = a.is ∙ ap (λ (k : Header). ok_params k) m; results = b.is ∙ ap (λ (k : Header). ok_results k) m }

-- the scope of a body, for its meaning and for its typing
pub body_scope : (words : List (NameId × BuiltIn)) (before : List Function) (taker : Ty → Receiver) (f : Function) (zs : List ℤ) (h : Header) → header_of (paired f.statics zs) exact_place f ≡ Ok h
    → scope words before (functions words before) taker f (paired f.statics zs) ≡ as_meaning taker (scope_for words before f zs h)
body_scope words before taker f zs h e =
    ap (λ (rs : List Receiver). record {
      words = words;
      needs = λ g. needs_of_found (built_in words g) (find_fun before g);
      parameters = λ g. parameters_of (built_in words g) (find_fun before g);
      calls = functions words before;
      statics = paired f.statics zs;
      results = rs;
    }) (results_are taker (paired f.statics zs) f.results h.results (header_parts (paired f.statics zs) f h e).results)

-- ---- functions by name

pub found_stands : (words : List (NameId × BuiltIn)) (funs : List Function) (f : NameId) (zs : List ℤ) (g : Found) → find_fun funs f ≡ Some g → Stood words funs f zs g
found_stands words [] f zs g e = absurd (grind (arith, e))
found_stands words (k ∷ before) f zs g e = go (same_name k.name f) refl e (λ d. found_stands words before f zs g d)
  where
    number : Found
    number = record { number = length before; fun = k }

    here : (n : ℕ) → n ≡ length before → parted (k ∷ before) n ≡ Some (k, before)
    here n d = ap (λ t. cond t (Some (k, before)) (parted before n)) (eq-eqb n (length before) d)

    go : (t : Bool) → same_name k.name f ≡ t → cond t (Some number) (find_fun before f) ≡ Some g → (find_fun before f ≡ Some g → Stood words before f zs g) → Stood words (k ∷ before) f zs g
    go true s e i =
        let m : number ≡ g = grind (arith, e) in
        subst (Stood words (k ∷ before) f zs) m (record {
          before = before;
          apart = here (length before) refl;
          does = ap (λ t. cond t (body words before (functions words before) CallResult k (paired k.statics zs) >> step leave_body) (functions words before f zs)) s;
          below = omega arith;
        })
    go false s e i = let r = i e in record {
      before = r.before;
      apart = ap (λ t. cond t (Some (k, before)) (parted before g.number)) (other (g.number == length before) refl r.below) ∙ r.apart;
      does = ap (λ t. cond t (body words before (functions words before) CallResult k (paired k.statics zs) >> step leave_body) (functions words before f zs)) s ∙ r.does;
      below = let b = r.below in omega (arith, b);
    }
      where
        other : (t : Bool) → (g.number == length before) ≡ t → g.number < length before → t ≡ false
        other false d lt = refl
        other true d lt = let q = eqb-true g.number (length before) d in absurd (omega (arith, q, lt))
