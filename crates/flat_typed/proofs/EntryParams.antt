-- The parameters of an entry, as they are written and as its header tells them.
use Rattle.std.proofs.Common.{◌≡◌, suc, ◌+◌, Bool, true, false, cond, ◌||◌, List, [], ◌∷◌, ◌++◌, length, map, refl, sym, ap, ap₂, ◌∙◌, subst, arith}
use Rattle.std.specs.Prelude.{Option, Some, None, Result, Ok, Err, ℤ, is_some, nat_abs}
use Rattle.silq_tree.specs.declared.node.Spot.{Spot}
use Rattle.silq_tree.specs.Syntax.{Expression, ScalarType, bit, uint, int, WrittenType, Parameter, Function}
use Rattle.static_num.specs.declared.values.StaticFault.{StaticFault}
use Rattle.static_num.specs.Static.{eval_of}
use Rattle.silq_types.specs.declared.types.Scalar.{Scalar}
use Rattle.silq_types.specs.declared.types.Scalar.TheVariants as scalars
use Rattle.silq_types.specs.declared.types.Shape.{Shape}
use Rattle.silq_types.specs.declared.types.Shape.TheVariants.{Array}
use Rattle.silq_types.specs.declared.types.Ty.{Ty}
use Rattle.silq_types.specs.declared.signature.Param.{Param}
use Rattle.silq_types.specs.Rules.{Fault, and_then}
use Rattle.silq_types.specs.Types.{Statics, is_lifted, first_unknown, scalar_names, size_names}
use Rattle.silq_types.specs.Calls.{param_is_held}
use Rattle.silq_mean.specs.Written.{or_not_static, needed_at, width_of, length_of, scalar_by, shape_by, all_known, moved_to, value_of, written_scalar, written_size, written_at, is_classical, header_type, param_types, result_types, header_of, Header, Where, is_count, most_bits, most_items}
use Rattle.check_expr.specs.Expression.{exact_place}
use Rattle.check_fun.specs.Program.{has_classical}
use Rattle.silq_mean.specs.Meaning.{type_of, type_or_bit, param_of}
use Rattle.flat_typed.proofs.Ordered.{or_left, or_right}
use Rattle.flat_typed.proofs.Scopes.{then_ok, ok_same}
use Rattle.flat_typed.proofs.EntryBegins.{AllQuantum, param_shapes}

-- ---- the header does not depend on where its faults would stand

and_move : {A B : Type 0} (r q : Result A Fault) (f g : A → Result B Fault) (b : B) → ((a : A) → r ≡ Ok a → q ≡ Ok a) → ((a : A) → f a ≡ Ok b → g a ≡ Ok b) → and_then r f ≡ Ok b → and_then q g ≡ Ok b
and_move r q f g b h k e = let a = then_ok r f b e in ap (λ x. and_then x g) (h a.first a.is) ∙ k a.first a.rest

known_move : (s t : Spot) (o : Option Spot) (u : Unit {0}) → all_known (moved_to s o) ≡ Ok u → all_known (moved_to t o) ≡ Ok u
known_move s t None u e = e
known_move s t (Some x) u e = absurd (grind (arith, e))

static_move : (s t : Spot) (r : Result ℤ StaticFault) (z : ℤ) → or_not_static s r ≡ Ok z → or_not_static t r ≡ Ok z
static_move s t (Ok v) z e = e
static_move s t (Err x) z e = absurd (grind (arith, e))

needed_move : (statics : Statics) (e : Expression) (s t : Spot) (o : Option ℤ) → and_then (needed_at statics e s) (λ v. Ok (Some v)) ≡ Ok o → and_then (needed_at statics e t) (λ v. Ok (Some v)) ≡ Ok o
needed_move statics e s t o q = and_move (needed_at statics e s) (needed_at statics e t) (λ v. Ok (Some v)) (λ v. Ok (Some v)) o (λ a x. static_move s t (eval_of statics e) a x) (λ a x. x) q

width_move : (statics : Statics) (k : ScalarType) (s t : Spot) (o : Option ℤ) → width_of statics k s ≡ Ok o → width_of statics k t ≡ Ok o
width_move statics bit s t o q = q
width_move statics (uint e) s t o q = needed_move statics e s t o q
width_move statics (int e) s t o q = needed_move statics e s t o q

length_move : (statics : Statics) (x : Option Expression) (s t : Spot) (o : Option ℤ) → length_of statics x s ≡ Ok o → length_of statics x t ≡ Ok o
length_move statics None s t o q = q
length_move statics (Some e) s t o q = needed_move statics e s t o q

cond_move : {A : Type 0} (b : Bool) (a : A) (x y : Fault) (r : A) → ◌≡◌ {A = Result A Fault} (cond b (Ok a) (Err x)) (Ok r) → ◌≡◌ {A = Result A Fault} (cond b (Ok a) (Err y)) (Ok r)
cond_move true a x y r e = e
cond_move false a x y r e = absurd (grind (arith, e))

scalar_move : (k : ScalarType) (z : Option ℤ) (s t : Spot) (x : Scalar) → scalar_by k z s ≡ Ok x → scalar_by k z t ≡ Ok x
scalar_move bit None s t x q = q
scalar_move bit (Some z) s t x q = q
scalar_move (uint e) None s t x q = q
scalar_move (uint e) (Some z) s t x q = cond_move (is_count most_bits z) (scalars.UInt (nat_abs z)) _ _ x q
scalar_move (int e) None s t x q = q
scalar_move (int e) (Some z) s t x q = cond_move (is_count most_bits z) (scalars.Int (nat_abs z)) _ _ x q

shape_move : (k : Scalar) (z : Option ℤ) (s t : Spot) (x : Shape) → shape_by k z s ≡ Ok x → shape_by k z t ≡ Ok x
shape_move k None s t x q = q
shape_move k (Some z) s t x q = cond_move (is_count most_items z) (Array k (nat_abs z)) _ _ x q

type_move : (statics : Statics) (t : WrittenType) (s u : Spot) (x : Ty) → header_type statics t s ≡ Ok x → header_type statics t u ≡ Ok x
type_move statics t s u x q =
    and_move _ _ _ _ x (λ a e. known_move s u (first_unknown (λ y. is_some (value_of statics y)) (scalar_names (written_scalar t) ++ size_names (written_size t))) a e) (λ a e.
    and_move _ _ _ _ x (λ w e. width_move statics (written_scalar t) s u w e) (λ w e.
    and_move _ _ _ _ x (λ n e. length_move statics (written_size t) s u n e) (λ n e.
    and_move _ _ _ _ x (λ k e. scalar_move (written_scalar t) w s u k e) (λ k e.
    and_move _ _ _ _ x (λ h e. shape_move k n s u h e) (λ h e. e) e) e) e) e) q

params_move : (statics : Statics) (f : Function) (at : Where) (ps : List Parameter) (ts : List Param) → param_types statics f.mark at ps ≡ Ok ts → param_types statics f.mark exact_place ps ≡ Ok ts
params_move statics f at [] ts q = q
params_move statics f at (p ∷ ps) ts q =
    and_move _ _ _ _ ts (λ t e. type_move statics p.ty (at (written_at p.ty)) (written_at p.ty) t e) (λ t e.
    and_move _ _ _ _ ts (λ us e. params_move statics f at ps us e) (λ us e. e) e) q

results_move : (statics : Statics) (at : Where) (rs : List WrittenType) (ts : List Ty) → result_types statics at rs ≡ Ok ts → result_types statics exact_place rs ≡ Ok ts
results_move statics at [] ts q = q
results_move statics at (r ∷ rs) ts q =
    and_move _ _ _ _ ts (λ t e. type_move statics r (at (written_at r)) (written_at r) t e) (λ t e.
    and_move _ _ _ _ ts (λ us e. results_move statics at rs us e) (λ us e. e) e) q

pub header_move : (statics : Statics) (at : Where) (f : Function) (h : Header) → header_of statics at f ≡ Ok h → header_of statics exact_place f ≡ Ok h
header_move statics at f h q =
    and_move _ _ _ _ h (λ ps e. params_move statics f at f.params ps e) (λ ps e.
    and_move _ _ _ _ h (λ rs e. results_move statics at f.results rs e) (λ rs e. e) e) q

-- ---- parameter by parameter

pub record Matches (f : Function) (statics : Statics) (n : Parameter) (p : Param) : Type 0 where
  pub ty : type_of statics n.ty ≡ p.ty
  pub held : param_is_held f n ≡ p.held
  pub classical : p.ty.classical ≡ is_classical n.ty

abbrev pub AllMatch : Function → Statics → List Parameter → List Param → Type 0
AllMatch f statics [] [] = Unit {0}
AllMatch f statics (n ∷ ns) (p ∷ ps) = Matches f statics n p × AllMatch f statics ns ps
AllMatch f statics ns ps = ⊥

-- each answer is of this class
IsOfClass : Bool → Result Ty Fault → Type 0
IsOfClass c r = (x : Ty) → r ≡ Ok x → x.classical ≡ c

class_then : {A : Type 0} (c : Bool) (r : Result A Fault) (f : A → Result Ty Fault) → ((a : A) → IsOfClass c (f a)) → IsOfClass c (and_then r f)
unfolding IsOfClass
class_then c (Ok a) f h = h a
class_then c (Err e) f h = λ x q. absurd (grind (arith, q))

class_ok : (c : Bool) (h : Shape) → IsOfClass c (Ok (record { classical = c; shape = h }))
unfolding IsOfClass
class_ok c h x q = sym (ap (λ (y : Ty). y.classical) (ok_same (record { classical = c; shape = h }) x q))

class_of : (statics : Statics) (t : WrittenType) (s : Spot) → IsOfClass (is_classical t) (header_type statics t s)
class_of statics t s = class_then (is_classical t) (all_known (moved_to s (first_unknown (λ x. is_some (value_of statics x)) (scalar_names (written_scalar t) ++ size_names (written_size t))))) (λ u. widths) (λ u.
    class_then (is_classical t) (width_of statics (written_scalar t) s) lengths (λ w. class_then (is_classical t) (length_of statics (written_size t) s) (scalars_by w) (λ n.
    class_then (is_classical t) (scalar_by (written_scalar t) w s) (shapes_by n) (λ k. class_then (is_classical t) (shape_by k n s) told (λ h. class_ok (is_classical t) h)))))
  where
    told : Shape → Result Ty Fault
    told h = Ok (record { classical = is_classical t; shape = h })

    shapes_by : Option ℤ → Scalar → Result Ty Fault
    shapes_by n k = and_then (shape_by k n s) (λ h. Ok (record { classical = is_classical t; shape = h }))

    scalars_by : Option ℤ → Option ℤ → Result Ty Fault
    scalars_by w n = and_then (scalar_by (written_scalar t) w s) (λ k. and_then (shape_by k n s) (λ h. Ok (record { classical = is_classical t; shape = h })))

    lengths : Option ℤ → Result Ty Fault
    lengths w = and_then (length_of statics (written_size t) s) (λ n. and_then (scalar_by (written_scalar t) w s) (λ k. and_then (shape_by k n s) (λ h. Ok (record { classical = is_classical t; shape = h }))))

    widths : Result Ty Fault
    widths = and_then (width_of statics (written_scalar t) s) (λ w. and_then (length_of statics (written_size t) s) (λ n. and_then (scalar_by (written_scalar t) w s) (λ k. and_then (shape_by k n s) (λ h. Ok (record { classical = is_classical t; shape = h })))))

class_is : (statics : Statics) (t : WrittenType) (s : Spot) (x : Ty) → header_type statics t s ≡ Ok x → x.classical ≡ is_classical t
unfolding IsOfClass
class_is statics t s x q = class_of statics t s x q

pub params_match : (f : Function) (statics : Statics) (ns : List Parameter) (ps : List Param) → param_types statics f.mark exact_place ns ≡ Ok ps → AllMatch f statics ns ps
params_match f statics [] ps q = subst (AllMatch f statics []) (ok_same [] ps q) tt
params_match f statics (n ∷ ns) ps q =
    let a = then_ok (header_type statics n.ty (written_at n.ty)) (λ t. and_then (param_types statics f.mark exact_place ns) (λ us. Ok (record { ty = t; held = n.held || is_lifted f.mark } ∷ us))) ps q in
    let b = then_ok (param_types statics f.mark exact_place ns) (λ us. Ok (record { ty = a.first; held = n.held || is_lifted f.mark } ∷ us)) ps a.rest in
    subst (AllMatch f statics (n ∷ ns)) (ok_same (record { ty = a.first; held = n.held || is_lifted f.mark } ∷ b.first) ps b.rest)
    (record { ty = ap type_or_bit a.is; held = refl; classical = class_is statics n.ty (written_at n.ty) a.first a.is }, params_match f statics ns b.first b.is)

pub matches_long : (f : Function) (statics : Statics) (ns : List Parameter) (ps : List Param) → AllMatch f statics ns ps → length ns ≡ length ps
matches_long f statics [] [] m = refl
matches_long f statics [] (p ∷ ps) m = absurd m
matches_long f statics (n ∷ ns) [] m = absurd m
matches_long f statics (n ∷ ns) (p ∷ ps) m = ap suc (matches_long f statics ns ps m.1)

pub matches_quantum : (f : Function) (statics : Statics) (ns : List Parameter) (ps : List Param) → AllMatch f statics ns ps → has_classical ns ≡ false → AllQuantum ps
matches_quantum f statics [] [] m e = tt
matches_quantum f statics [] (p ∷ ps) m e = absurd m
matches_quantum f statics (n ∷ ns) [] m e = absurd m
matches_quantum f statics (n ∷ ns) (p ∷ ps) m e =
    (m.0.classical ∙ or_left (is_classical n.ty) (has_classical ns) e, matches_quantum f statics ns ps m.1 (or_right (is_classical n.ty) (has_classical ns) e))

pub matches_shapes : (f : Function) (statics : Statics) (ns : List Parameter) (ps : List Param) → AllMatch f statics ns ps → map (λ p. p.2.shape) (map (param_of f statics) ns) ≡ param_shapes ps
matches_shapes f statics [] [] m = refl
matches_shapes f statics [] (p ∷ ps) m = absurd m
matches_shapes f statics (n ∷ ns) [] m = absurd m
matches_shapes f statics (n ∷ ns) (p ∷ ps) m = ap₂ (λ (t : Ty) l. t.shape ∷ l) m.0.ty (matches_shapes f statics ns ps m.1)
