-- The walk of a static expression is that of its number, and the walk of one that is not static asks for no type.
use Rattle.std.proofs.Common.{◌≡◌, ℕ, Bool, true, false, cond, ◌&&◌, List, [], ◌∷◌, refl, sym, ap, ◌∙◌}
use Rattle.silq_tree.specs.Syntax.{Expression, number, typed_number, truth, pi, place, called, tuple, unary, binary, whole, part, part_of_part}
use Rattle.static_num.specs.Static.{is_static}
use Rattle.silq_types.specs.declared.types.Ty.{Ty}
use Rattle.silq_types.specs.declared.values.Value.{Value}
use Rattle.silq_types.specs.declared.need.Need.{Need}
use Rattle.silq_types.specs.declared.need.Need.TheVariants as needs
use Rattle.check_scope.specs.Context.{Scope, Context, Check, ◌>>=◌, give_back}
use Rattle.check_scope.specs.Places.{use_place}
use Rattle.check_expr.specs.Expression.{static_value, operands, lone_wants, single, unary_value, binary_value, expr, is_tuple}
use Rattle.flat_typed.proofs.Ordered.{clash}

if_static : (t : Bool) (m n : Check (List Value)) → t ≡ true → cond t m n ≡ m
if_static true m n e = refl
if_static false m n e = clash (sym e)

if_not : (t : Bool) (m k n : Check (List Value)) → t ≡ false → cond t m n ≡ cond t k n
if_not false m k n e = refl
if_not true m k n e = clash e

abbrev place_run : Scope → Expression → Need → Check (List Value)
place_run sc (place p s) need = use_place sc p s need >>= (λ v. give_back (v ∷ []))
place_run sc e need = give_back []

abbrev one_run : Scope → Expression → Check (List Value)
one_run sc (unary op e s) = expr e sc needs.Held [] >>= (λ vs. single e vs >>= unary_value op s)
one_run sc e = give_back []

abbrev two_run : Scope → Expression → Check (List Value)
two_run sc (binary op a b s) =
    operands sc a (λ w. expr a sc needs.Held (lone_wants a w) >>= single a) (λ w. expr b sc needs.Held (lone_wants b w) >>= single b) >>= (λ r. binary_value sc op a b s r.0 r.1)
two_run sc e = give_back []

pub static_walk : (sc : Scope) (e : Expression) (need : Need) (wants : List Ty) → is_static sc.statics e ≡ true → expr e sc need wants ≡ static_value sc e wants
unfolding is_static
static_walk sc (number n s) need wants h = refl
static_walk sc (truth b s) need wants h = refl
static_walk sc (place (whole x) s) need wants h = if_static (is_static sc.statics (place (whole x) s)) (static_value sc (place (whole x) s) wants) (place_run sc (place (whole x) s) need) h
static_walk sc (unary op e s) need wants h = if_static (is_static sc.statics (unary op e s)) (static_value sc (unary op e s) wants) (one_run sc (unary op e s)) h
static_walk sc (binary op a b s) need wants h = if_static (is_static sc.statics (binary op a b s)) (static_value sc (binary op a b s) wants) (two_run sc (binary op a b s)) h
static_walk sc (typed_number n k s) need wants h = clash (sym h)
static_walk sc (pi s) need wants h = clash (sym h)
static_walk sc (place (part x i) s) need wants h = clash (sym h)
static_walk sc (place (part_of_part x i j) s) need wants h = clash (sym h)
static_walk sc (called f ss args s) need wants h = clash (sym h)
static_walk sc (tuple es s) need wants h = clash (sym h)

pub unasked_walk : (sc : Scope) (e : Expression) (need : Need) (wants : List Ty) → is_static sc.statics e ≡ false → is_tuple e ≡ false → expr e sc need wants ≡ expr e sc need []
unfolding is_static
unasked_walk sc (number n s) need wants h t = clash h
unasked_walk sc (truth b s) need wants h t = clash h
unasked_walk sc (place p s) need wants h t = if_not (is_static sc.statics (place p s)) (static_value sc (place p s) wants) (static_value sc (place p s) []) (place_run sc (place p s) need) h
unasked_walk sc (unary op e s) need wants h t = if_not (is_static sc.statics (unary op e s)) (static_value sc (unary op e s) wants) (static_value sc (unary op e s) []) (one_run sc (unary op e s)) h
unasked_walk sc (binary op a b s) need wants h t = if_not (is_static sc.statics (binary op a b s)) (static_value sc (binary op a b s) wants) (static_value sc (binary op a b s) []) (two_run sc (binary op a b s)) h
unasked_walk sc (typed_number n k s) need wants h t = refl
unasked_walk sc (pi s) need wants h t = refl
unasked_walk sc (called f ss args s) need wants h t = refl
unasked_walk sc (tuple es s) need wants h t = clash t
