-- Steps of calls, as the code takes them.
use Rattle.std.proofs.Common.{◌≡◌, refl, ℕ, ◌+◌, Bool, true, List, [], ◌∷◌, sym, subst, length, ℤ, get_or, drop, ◌++◌, ◌<◌, ◌≤◌, zero, suc, append_assoc, arith}
use Rattle.std.proofs.lemmas.List.{append-nil, drop_more}
use Rattle.silq_tree.specs.Arena.{expr_at}
use Rattle.silq_tree.proofs.Lists.{expressions_of-drop, expressions_of-end}
use Rattle.silq_types.specs.declared.signature.Returned.{Returned}
use Rattle.silq_types.specs.declared.signature.Param.{Param}
use Rattle.silq_tree.specs.declared.node.NameId.{NameId}
use Rattle.check_scope.specs.Library.{Shelf}
use Rattle.check_expr.specs.Calls.{items}
use Rattle.silq_tree.specs.declared.node.Spot.{Spot}
use Rattle.silq_tree.specs.declared.node.ExprId.{ExprId}
use Rattle.silq_tree.specs.Syntax.{Expression, Expressions, more}
use Rattle.silq_tree.specs.Standing.{expressions_of}
use Rattle.silq_types.specs.Types.{count, at}
use Rattle.silq_types.specs.Known.{Signatures}
use Rattle.check_scope.specs.Context.{Scope, Check, ◌>>=◌, ◌>>◌, give_back, needed}
use Rattle.check_expr.specs.Expression.{Arguments, all_lifted, static_arguments, natural, result_values, placed, argument_at, result_origin, gate_value, flip_value, call_gate, call_built_in}
use Rattle.silq_types.specs.Programs.{paired}
use Rattle.silq_types.specs.declared.built_in.BuiltIn.{BuiltIn}
use Rattle.silq_types.specs.declared.built_in.BuiltIn.TheVariants.{HGate, XGate, YGate, ZGate, Dup, Measure, Vector, RotateX, RotateY, RotateZ}
use Rattle.silq_types.specs.declared.need.Need.{Need}
use Rattle.silq_types.specs.declared.values.Value.{Value}
use Rattle.check_scope.specs.State.{State, Keeps, scope_in}
use Rattle.check_scope.specs.Steps.{Reads, Stops}
use Rattle.check_scope.specs.declared.fault.CheckFault.TheVariants as checks
use Rattle.check_scope.specs.declared.fault.ExprFault.{ExprFault}
use Rattle.check_scope.specs.declared.fault.ExprFault.TheVariants as stops
use Rattle.check_scope.proofs.Sequence.{keeps_refl, keeps_both, reads_back, reads_bind, reads_then, stops_bind, stops_then, stops_later, stops_after}

pub stops_memory : {A : Type 0} (met : Signatures) (m : Check A) (old now : State) → Keeps old now → Stops met m old (stops.Fault checks.Memory) now
stops_memory met m old now k = record { runs = tt; keeps = k }

-- ---- gates

pub flips : (b : BuiltIn) (at : Spot) (need : Need) (v : Value) → (b ≡ Dup → ⊥) → (b ≡ Measure → ⊥) → gate_value b at need v ≡ flip_value b at need v
flips HGate at need v p q = refl
flips XGate at need v p q = refl
flips YGate at need v p q = refl
flips ZGate at need v p q = refl
flips Dup at need v p q = absurd (p refl)
flips Measure at need v p q = absurd (q refl)
flips Vector at need v p q = refl
flips RotateX at need v p q = refl
flips RotateY at need v p q = refl
flips RotateZ at need v p q = refl

pub gates : (b : BuiltIn) (sc : Scope) (ss args : Expressions) (at : Spot) (need : Need) (walk : Arguments) (later : Check (List Value))
    → (b ≡ RotateX → ⊥) → (b ≡ RotateY → ⊥) → (b ≡ RotateZ → ⊥) → (b ≡ Vector → ⊥)
    → call_built_in sc b ss args at need walk later ≡ call_gate sc b ss args at need walk
gates HGate sc ss args at need walk later x y z v = refl
gates XGate sc ss args at need walk later x y z v = refl
gates YGate sc ss args at need walk later x y z v = refl
gates ZGate sc ss args at need walk later x y z v = refl
gates Dup sc ss args at need walk later x y z v = refl
gates Measure sc ss args at need walk later x y z v = refl
gates Vector sc ss args at need walk later x y z v = absurd (v refl)
gates RotateX sc ss args at need walk later x y z v = absurd (x refl)
gates RotateY sc ss args at need walk later x y z v = absurd (y refl)
gates RotateZ sc ss args at need walk later x y z v = absurd (z refl)

pub lone : {A : Type 0} (xs : List A) (d : A) → length xs ≡ 1 → xs ≡ get_or xs 0 d ∷ []
lone [] d e = absurd (omega arith)
lone (x ∷ []) d e = refl
lone (x ∷ y ∷ ys) d e = absurd (omega arith)

-- ---- lists of arguments

pub counted : (at : ExprId → Expression) (ids : List ExprId) → count (expressions_of at ids) ≡ length ids
counted at [] = refl
counted at (id ∷ ids) = omega (arith, counted at ids)

-- ---- loops over what is read in turn

-- whatever the rest reads or where it stops, so does the whole, behind what was read
pub record Going {A : Type 0} (met : Signatures) (rest whole : Check (List A)) (old now : State) (done : List A) : Type 0 where
  pub reads : (xs : List A) (end : State) → Reads met rest now xs end → Reads met whole old (done ++ xs) end
  pub stops : (f : ExprFault) (end : State) → Stops met rest now f end → Stops met whole old f end
  pub keeps : Keeps old now

pub going_first : {A : Type 0} (met : Signatures) (m : Check (List A)) (s : State) → Going met m m s s []
going_first met m s = record { reads = λ xs end r. r; stops = λ f end r. r; keeps = keeps_refl s }

pub going_last : {A : Type 0} (met : Signatures) (whole : Check (List A)) (old now : State) (done : List A) → Going met (give_back []) whole old now done → Reads met whole old done now
going_last met whole old now done g = subst (λ xs. Reads met whole old xs now) (append-nil done) (g.reads [] now (reads_back met [] now))

-- one value more
pub going_more : {A : Type 0} (met : Signatures) (step : Check A) (rest whole : Check (List A)) (old now mid : State) (x : A) (done : List A)
    → Reads met step now x mid → Going met (step >>= (λ v. rest >>= (λ vs. give_back (v ∷ vs)))) whole old now done → Going met rest whole old mid (done ++ x ∷ [])
going_more met step rest whole old now mid x done r g = record {
  reads = λ xs end q. subst (λ (ys : List _). Reads met whole old ys end) (sym (append_assoc done (x ∷ []) xs))
      (g.reads (x ∷ xs) end (reads_bind met _ _ now mid end x _ r (reads_bind met _ _ mid end end xs _ q (reads_back met (x ∷ xs) end))));
  stops = λ f end q. g.stops f end (stops_later met _ _ now mid end x f r (stops_bind met _ _ mid end f q));
  keeps = keeps_both g.keeps r.keeps;
}

-- one value more, which is tested
pub going_tested : {A : Type 0} (met : Signatures) (step : Check A) (test : A → Check (Unit {0})) (rest whole : Check (List A)) (old now mid : State) (x : A) (done : List A)
    → Reads met step now x mid → Reads met (test x) mid tt mid → Going met (step >>= (λ v. test v >> (rest >>= (λ vs. give_back (v ∷ vs))))) whole old now done
    → Going met rest whole old mid (done ++ x ∷ [])
going_tested met step test rest whole old now mid x done r t g = record {
  reads = λ xs end q. subst (λ (ys : List _). Reads met whole old ys end) (sym (append_assoc done (x ∷ []) xs))
      (g.reads (x ∷ xs) end (reads_bind met _ _ now mid end x _ r (reads_then met _ _ mid mid end tt _ t (reads_bind met _ _ mid end end xs _ q (reads_back met (x ∷ xs) end)))));
  stops = λ f end q. g.stops f end (stops_later met _ _ now mid end x f r (stops_after met _ _ mid mid end tt f t (stops_bind met _ _ mid end f q)));
  keeps = keeps_both g.keeps r.keeps;
}

-- no memory, after what was read
pub going_full : {A : Type 0} (met : Signatures) (rest whole : Check (List A)) (old now : State) (done : List A) → Going met rest whole old now done
    → Stops met whole old (stops.Fault checks.Memory) now
going_full met rest whole old now done g = stops_memory met whole old now g.keeps

module _ (met : Signatures) (l : Shelf) (s : State) (ids : List ExprId) (i : ℕ) (d : ExprId) (whole : Check (List ℤ)) (done : List ℤ) (lt : i < length ids)
    (g : Going met (static_arguments (items l (drop i ids)) (scope_in l s)) whole s s done) where
  static_here : Going met (static_arguments (more (expr_at l.nodes (get_or ids i d)) (items l (drop (i + 1) ids))) (scope_in l s)) whole s s done
  static_here = subst (λ m. Going met (static_arguments m (scope_in l s)) whole s s done) (expressions_of-drop (expr_at l.nodes) ids i d lt) g

  pub static_more : (v : ℤ) → Reads met (needed (scope_in l s) (expr_at l.nodes (get_or ids i d))) s v s
      → Reads met (natural (at (expr_at l.nodes (get_or ids i d))) v) s tt s → Going met (static_arguments (items l (drop (i + 1) ids)) (scope_in l s)) whole s s (done ++ v ∷ [])
  static_more v r t = going_tested met (needed (scope_in l s) (expr_at l.nodes (get_or ids i d))) (natural (at (expr_at l.nodes (get_or ids i d)))) _ whole s s s v done r t static_here

  pub static_stops : (f : ExprFault) → Stops met (needed (scope_in l s) (expr_at l.nodes (get_or ids i d))) s f s → Stops met whole s f s
  static_stops f r = static_here.stops f s (stops_bind met _ _ s s f r)

  pub natural_stops : (v : ℤ) (f : ExprFault) → Reads met (needed (scope_in l s) (expr_at l.nodes (get_or ids i d))) s v s
      → Stops met (natural (at (expr_at l.nodes (get_or ids i d))) v) s f s → Stops met whole s f s
  natural_stops v f r t = static_here.stops f s (stops_later met _ _ s s s v f r (stops_then met _ _ s s f t))

module _ (met : Signatures) (lifts : Bool) (values : List Value) (rs : List Returned) (i : ℕ) (d : Returned) (whole : Check (List Value)) (old now mid : State) (done : List Value) (lt : i < length rs)
    (g : Going met (result_values lifts values (drop i rs)) whole old now done) where
  result_here : Going met (result_values lifts values (get_or rs i d ∷ drop (i + 1) rs)) whole old now done
  result_here = subst (λ m. Going met (result_values lifts values m) whole old now done) (drop_more rs i d lt) g

  pub result_more : (v : Value) → Reads met (placed (argument_at values (get_or rs i d).from) (get_or rs i d).ty (result_origin lifts (get_or rs i d).ty)) now v mid
      → Going met (result_values lifts values (drop (i + 1) rs)) whole old mid (done ++ v ∷ [])
  result_more v r = going_more met (placed (argument_at values (get_or rs i d).from) (get_or rs i d).ty (result_origin lifts (get_or rs i d).ty)) _ whole old now mid v done r result_here

  pub result_stops : (f : ExprFault) → Stops met (placed (argument_at values (get_or rs i d).from) (get_or rs i d).ty (result_origin lifts (get_or rs i d).ty)) now f mid → Stops met whole old f mid
  result_stops f r = result_here.stops f mid (stops_bind met _ _ now mid f r)

drop_end : {A : Type 0} (xs : List A) (i : ℕ) → length xs ≤ i → drop i xs ≡ []
drop_end [] zero l = refl
drop_end [] (suc i) l = refl
drop_end (x ∷ xs) zero l = absurd (omega arith)
drop_end (x ∷ xs) (suc i) l = drop_end xs i (omega arith)

pub static_last : (met : Signatures) (l : Shelf) (s : State) (ids : List ExprId) (i : ℕ) (whole : Check (List ℤ)) (done : List ℤ) → length ids ≤ i
    → Going met (static_arguments (items l (drop i ids)) (scope_in l s)) whole s s done → Reads met whole s done s
static_last met l s ids i whole done le g =
    going_last met whole s s done (subst (λ m. Going met (static_arguments m (scope_in l s)) whole s s done) (expressions_of-end (expr_at l.nodes) ids i le) g)

pub result_last : (met : Signatures) (lifts : Bool) (values : List Value) (rs : List Returned) (i : ℕ) (whole : Check (List Value)) (old now : State) (done : List Value) → length rs ≤ i
    → Going met (result_values lifts values (drop i rs)) whole old now done → Reads met whole old done now
result_last met lifts values rs i whole old now done le g =
    going_last met whole old now done (subst (λ m. Going met (result_values lifts values m) whole old now done) (drop_end rs i le) g)

-- ---- pairs

pub lifted_left : (ps : List Param) (vs : List Value) → length ps ≡ 0 → all_lifted ps vs ≡ true
lifted_left [] vs e = refl
lifted_left (p ∷ ps) vs e = absurd (omega arith)

pub lifted_right : (ps : List Param) (vs : List Value) → length vs ≡ 0 → all_lifted ps vs ≡ true
lifted_right [] [] e = refl
lifted_right (p ∷ ps) [] e = refl
lifted_right ps (v ∷ vs) e = absurd (omega arith)

pub paired_left : (xs : List NameId) (vs : List ℤ) → length xs ≡ 0 → paired xs vs ≡ []
paired_left [] vs e = refl
paired_left (x ∷ xs) vs e = absurd (omega arith)

pub paired_right : (xs : List NameId) (vs : List ℤ) → length vs ≡ 0 → paired xs vs ≡ []
paired_right [] [] e = refl
paired_right (x ∷ xs) [] e = refl
paired_right xs (v ∷ vs) e = absurd (omega arith)
