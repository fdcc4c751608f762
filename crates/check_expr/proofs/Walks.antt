-- The forms of an expression, and its items in turn.
use Rattle.std.proofs.Common.{◌≡◌, refl, ℕ, zero, suc, ◌+◌, ◌<◌, ◌≤◌, Bool, true, false, List, [], ◌∷◌, ◌++◌, drop, get_or, length, append_assoc, append-nil, ℤ, arith, Option, Some, None, Result, IfSome, IfOk, IfErr}
use mathlib.Core.Path.{sym, ap, ◌∙◌, subst}
use Rattle.silq_tree.specs.declared.node.ExprId.{ExprId}
use Rattle.silq_tree.specs.declared.node.NameId.{NameId}
use Rattle.silq_tree.specs.declared.node.Spot.{Spot}
use Rattle.silq_tree.specs.declared.node.UnaryOp.{UnaryOp}
use Rattle.silq_tree.specs.declared.node.BinaryOp.{BinaryOp}
use Rattle.silq_tree.specs.Syntax.{Expression, number, typed_number, truth, pi, place, called, tuple, unary, binary, more, Place}
use Rattle.silq_tree.specs.declared.node.ScalarNode.{ScalarNode}
use Rattle.silq_tree.specs.declared.node.Expr.TheVariants as nodes
use Rattle.silq_tree.specs.Standing.{expressions_of, scalar_of, expr_grown}
use Rattle.silq_tree.proofs.Lists.{expressions_of-drop, expressions_of-end}
use Rattle.static_num.specs.Static.{is_static}
use Rattle.silq_types.specs.declared.types.Ty.{Ty}
use Rattle.silq_types.specs.declared.values.Value.{Value}
use Rattle.silq_types.specs.Known.{Signatures}
use Rattle.silq_mean.specs.Written.{needed_at}
use Rattle.silq_types.specs.Types.{at}
use Rattle.check_expr.specs.declared.asked.Ask.{Ask}
use Rattle.silq_types.specs.declared.need.Need.{Need}
use Rattle.check_scope.specs.declared.fault.CheckFault.TheVariants as checks
use Rattle.check_scope.specs.declared.fault.ExprFault.{ExprFault}
use Rattle.check_scope.specs.declared.fault.ExprFault.TheVariants as stops
use Rattle.check_expr.specs.Asks.{asked_as, all_asked, types_of}
use Rattle.check_scope.specs.Context.{Scope, Check, of_result}
use Rattle.check_expr.specs.Expression.{expr, arguments, static_value, first_asked, later_asked, lone_need, lone_wants, single, suits, call_found, later_arguments}
use Rattle.silq_types.specs.Calls.{built_in, find_fun}
use Rattle.silq_types.specs.declared.need.Need.TheVariants as needs
use Rattle.check_expr.specs.Forms.{number_values, part_values, unary_values, binary_values, operand, both_operands}
use Rattle.check_scope.specs.Library.{Shelf}
use Rattle.check_scope.specs.State.{State, Keeps, scope_in}
use Rattle.check_scope.specs.Steps.{Reads, Stops}
use Rattle.check_scope.proofs.Sequence.{keeps_refl, keeps_both, reads_bind, reads_then, reads_back, stops_bind, stops_then, stops_later, stops_after}
use Rattle.check_expr.proofs.Scopes.{same_scope, reads_as, stops_as}

-- ---- forms

-- a static expression takes the type that is asked
pub at_static : (t : Expression) (sc : Scope) (need : Need) (wants : List Ty) → is_static sc.statics t ≡ true → static_value sc t wants ≡ expr t sc need wants
unfolding is_static
at_static (number n s) sc need wants e = refl
at_static (typed_number n k s) sc need wants e = absurd (grind (arith, e))
at_static (truth b s) sc need wants e = refl
at_static (pi s) sc need wants e = absurd (grind (arith, e))
at_static (place p s) sc need wants e = rw e refl
at_static (called f c a s) sc need wants e = absurd (grind (arith, e))
at_static (tuple es s) sc need wants e = absurd (grind (arith, e))
at_static (unary op a s) sc need wants e = rw e refl
at_static (binary op a b s) sc need wants e = rw e refl

pub at_place : (p : Place) (s : Spot) (sc : Scope) (need : Need) (wants : List Ty) → is_static sc.statics (place p s) ≡ false → part_values sc p s need ≡ expr (place p s) sc need wants
at_place p s sc need wants e = rw e refl

pub at_unary : (op : UnaryOp) (a : Expression) (s : Spot) (sc : Scope) (need : Need) (wants : List Ty) → is_static sc.statics (unary op a s) ≡ false → unary_values sc op a s ≡ expr (unary op a s) sc need wants
at_unary op a s sc need wants e = rw e refl

pub at_binary : (op : BinaryOp) (a b : Expression) (s : Spot) (sc : Scope) (need : Need) (wants : List Ty) → is_static sc.statics (binary op a b s) ≡ false → binary_values sc op a b s ≡ expr (binary op a b s) sc need wants
at_binary op a b s sc need wants e = rw e refl

pub number_is_static : (statics : List (NameId × ℤ)) (n : ℤ) (s : Spot) → is_static statics (number n s) ≡ true
unfolding is_static
number_is_static statics n s = refl

pub truth_is_static : (statics : List (NameId × ℤ)) (b : Bool) (s : Spot) → is_static statics (truth b s) ≡ true
unfolding is_static
truth_is_static statics b s = refl

pub by_binary : (t : Expression) (op : BinaryOp) (a b : Expression) (s : Spot) (sc : Scope) (need : Need) (wants : List Ty) → t ≡ binary op a b s → is_static sc.statics t ≡ false → binary_values sc op a b s ≡ expr t sc need wants
by_binary t op a b s sc need wants e f = at_binary op a b s sc need wants (subst (λ x. is_static sc.statics x ≡ false) e f) ∙ ap (λ x. expr x sc need wants) (sym e)

pub number_open : (t : Expression) (statics : List (NameId × ℤ)) (n : ℤ) (s : Spot) → t ≡ number n s → is_static statics t ≡ false → ⊥
number_open t statics n s e f = let g : is_static statics (number n s) ≡ false = subst (λ x. is_static statics x ≡ false) e f in grind (arith, g, number_is_static statics n s)

pub truth_open : (t : Expression) (statics : List (NameId × ℤ)) (b : Bool) (s : Spot) → t ≡ truth b s → is_static statics t ≡ false → ⊥
truth_open t statics b s e f = let g : is_static statics (truth b s) ≡ false = subst (λ x. is_static statics x ≡ false) e f in grind (arith, g, truth_is_static statics b s)

module _ (tree : ExprId → Expression) (t : Expression) (sc : Scope) (need : Need) (wants : List Ty) where
  pub by_call : (f : NameId) (ss args ss2 args2 : List ExprId) (s : Spot) → t ≡ called f (expressions_of tree ss) (expressions_of tree args) s → ss2 ≡ ss → args2 ≡ args → call_found sc (built_in sc.words f) (find_fun sc.before f) (expressions_of tree ss2) (expressions_of tree args2) s need (λ asked. arguments (expressions_of tree args2) sc needs.Held asked) (later_arguments (expressions_of tree args2) sc) ≡ expr t sc need wants
  by_call f ss args ss2 args2 s e p q = rw (p, q) (ap (λ x. expr x sc need wants) (sym e))

  module _ (met : Signatures) (r : Result (List Value) ExprFault) (old now : State) (v v2 : ℤ) (s : Spot) where
    pub number_reads : (ty : Option ScalarNode) → t ≡ expr_grown tree (nodes.Number v ty s) → is_static sc.statics t ≡ false → v2 ≡ v → IfSome ty (λ k. IfOk r (λ vs. Reads met (number_values sc v2 (scalar_of tree k) s) old vs now)) → IfOk r (λ vs. Reads met (expr t sc need wants) old vs now)
    number_reads None e f w h = absurd (number_open t sc.statics v s e f)
    number_reads (Some k) e f w h = subst (λ x. IfOk r (λ vs. Reads met (expr x sc need wants) old vs now)) (sym e) (subst (λ z. IfOk r (λ vs. Reads met (number_values sc z (scalar_of tree k) s) old vs now)) w h)

    pub number_stops : (ty : Option ScalarNode) → t ≡ expr_grown tree (nodes.Number v ty s) → is_static sc.statics t ≡ false → v2 ≡ v → IfSome ty (λ k. IfErr r (λ f. Stops met (number_values sc v2 (scalar_of tree k) s) old f now)) → IfErr r (λ f. Stops met (expr t sc need wants) old f now)
    number_stops None e f w h = absurd (number_open t sc.statics v s e f)
    number_stops (Some k) e f w h = subst (λ x. IfErr r (λ f. Stops met (expr x sc need wants) old f now)) (sym e) (subst (λ z. IfErr r (λ f. Stops met (number_values sc z (scalar_of tree k) s) old f now)) w h)

-- after a fault all is as it was when the expression began
pub restored : (old begun mid now : State) (next height : ℕ) → begun ≡ record old { start = old.vars } → Keeps begun mid → next ≡ begun.next → height ≡ begun.height → now ≡ record mid { vars = mid.start; next = next; height = height } → now ≡ record old { start = old.vars }
restored old begun mid now next height b k n h e = rw (e, n, h, k.this, k.results, k.depth, k.start, k.statics, k.held, b) refl

-- ---- two operands

module _ (met : Signatures) (l : Shelf) (a b : Expression) where
  pub left_static : (old mid now : State) (z : ℤ) (x y : Value) → is_static old.statics a ≡ true → Reads met (of_result (needed_at old.statics a (at a))) old z old → Reads met (operand (scope_in l old) b []) old y mid → Reads met (operand (scope_in l mid) a (y.ty ∷ [])) mid x now → Reads met (both_operands (scope_in l old) a b) old (x, y) now
  left_static old mid now z x y e p q r = let p2 = rw e at p in rw e (reads_bind met _ _ _ _ _ _ _ p2 (reads_bind met _ _ _ _ _ _ _ q (reads_bind met _ _ _ _ _ _ _ (reads_as met _ _ _ _ _ (ap (λ sc. operand sc a (y.ty ∷ [])) (same_scope l old mid q.keeps)) r) (reads_back met _ _))))

  pub left_static_number : (old now : State) (f : ExprFault) → is_static old.statics a ≡ true → Stops met (of_result (needed_at old.statics a (at a))) old f now → Stops met (both_operands (scope_in l old) a b) old f now
  left_static_number old now f e p = let p2 = rw e at p in rw e (stops_bind met _ _ _ _ _ p2)

  pub left_static_right : (old now : State) (z : ℤ) (f : ExprFault) → is_static old.statics a ≡ true → Reads met (of_result (needed_at old.statics a (at a))) old z old → Stops met (operand (scope_in l old) b []) old f now → Stops met (both_operands (scope_in l old) a b) old f now
  left_static_right old now z f e p q = let p2 = rw e at p in rw e (stops_later met _ _ _ _ _ _ _ p2 (stops_bind met _ _ _ _ _ q))

  pub left_static_last : (old mid now : State) (z : ℤ) (y : Value) (f : ExprFault) → is_static old.statics a ≡ true → Reads met (of_result (needed_at old.statics a (at a))) old z old → Reads met (operand (scope_in l old) b []) old y mid → Stops met (operand (scope_in l mid) a (y.ty ∷ [])) mid f now → Stops met (both_operands (scope_in l old) a b) old f now
  left_static_last old mid now z y f e p q r = let p2 = rw e at p in rw e (stops_later met _ _ _ _ _ _ _ p2 (stops_later met _ _ _ _ _ _ _ q (stops_bind met _ _ _ _ _ (stops_as met _ _ _ _ _ (ap (λ sc. operand sc a (y.ty ∷ [])) (same_scope l old mid q.keeps)) r))))

  pub left_first : (old mid now : State) (x y : Value) → is_static old.statics a ≡ false → Reads met (operand (scope_in l old) a []) old x mid → Reads met (operand (scope_in l mid) b (x.ty ∷ [])) mid y now → Reads met (both_operands (scope_in l old) a b) old (x, y) now
  left_first old mid now x y e q r = rw e (reads_bind met _ _ _ _ _ _ _ q (reads_bind met _ _ _ _ _ _ _ (reads_as met _ _ _ _ _ (ap (λ sc. operand sc b (x.ty ∷ [])) (same_scope l old mid q.keeps)) r) (reads_back met _ _)))

  pub left_first_stops : (old now : State) (f : ExprFault) → is_static old.statics a ≡ false → Stops met (operand (scope_in l old) a []) old f now → Stops met (both_operands (scope_in l old) a b) old f now
  left_first_stops old now f e q = rw e (stops_bind met _ _ _ _ _ q)

  pub left_first_right : (old mid now : State) (x : Value) (f : ExprFault) → is_static old.statics a ≡ false → Reads met (operand (scope_in l old) a []) old x mid → Stops met (operand (scope_in l mid) b (x.ty ∷ [])) mid f now → Stops met (both_operands (scope_in l old) a b) old f now
  left_first_right old mid now x f e q r = rw e (stops_later met _ _ _ _ _ _ _ q (stops_bind met _ _ _ _ _ (stops_as met _ _ _ _ _ (ap (λ sc. operand sc b (x.ty ∷ [])) (same_scope l old mid q.keeps)) r)))

-- ---- items in turn

pub later_asks : (asks : List Ask) (i : ℕ) → later_asked (all_asked (drop i asks)) ≡ all_asked (drop (i + 1) asks)
later_asks [] zero = refl
later_asks [] (suc i) = let e : suc i + 1 ≡ suc (i + 1) = omega arith in rw e refl
later_asks (a ∷ as_) zero = refl
later_asks (a ∷ as_) (suc i) = let e : suc i + 1 ≡ suc (i + 1) = omega arith in rw e (later_asks as_ i)

-- the items from number i on
abbrev pub Rest : (ExprId → Expression) → Scope → Need → List ExprId → List Ask → ℕ → Check (List Value)
Rest tree sc other items asks i = arguments (expressions_of tree (drop i items)) sc other (all_asked (drop i asks))

module _ (met : Signatures) (l : Shelf) (tree : ExprId → Expression) (other : Need) where
  -- what the items from number i on read or where they stop, the whole reads or stops there
  pub record Onward (items : List ExprId) (asks : List Ask) (old : State) (values : List Value) (i : ℕ) (now : State) : Type 0 where
    pub reads : (ws : List Value) (end : State) → Reads met (Rest tree (scope_in l old) other items asks i) now ws end → Reads met (arguments (expressions_of tree items) (scope_in l old) other (all_asked asks)) old (values ++ ws) end
    pub stops : (f : ExprFault) (end : State) → Stops met (Rest tree (scope_in l old) other items asks i) now f end → Stops met (arguments (expressions_of tree items) (scope_in l old) other (all_asked asks)) old f end
    pub keeps : Keeps old now

module _ (met : Signatures) (l : Shelf) (tree : ExprId → Expression) (other : Need) (items : List ExprId) (asks : List Ask) (old mid : State) (values : List Value) (i : ℕ) (d : ExprId) (o : Onward met l tree other items asks old values i mid) (inside : i < length items) (ask : Ask) (asked : asked_as ask ≡ first_asked other (all_asked (drop i asks))) (need : Need) (wants : List Ty) (need_is : need ≡ lone_need (tree (get_or items i d)) ask.need) (wants_is : wants ≡ lone_wants (tree (get_or items i d)) (types_of ask.want)) where
  opened : Rest tree (scope_in l old) other items asks i ≡ arguments (more (tree (get_or items i d)) (expressions_of tree (drop (i + 1) items))) (scope_in l old) other (all_asked (drop i asks))
  opened = ap (λ es. arguments es (scope_in l old) other (all_asked (drop i asks))) (expressions_of-drop tree items i d inside)

  -- the walk of this item, in the words of the definition
  walked : expr (tree (get_or items i d)) (scope_in l mid) need wants ≡ expr (tree (get_or items i d)) (scope_in l old) (lone_need (tree (get_or items i d)) (first_asked other (all_asked (drop i asks))).need) (lone_wants (tree (get_or items i d)) (first_asked other (all_asked (drop i asks))).wants)
  walked = rw (same_scope l old mid o.keeps, need_is, wants_is) (ap (λ q. expr (tree (get_or items i d)) (scope_in l old) (lone_need (tree (get_or items i d)) q.need) (lone_wants (tree (get_or items i d)) q.wants)) asked)

  suited : (v : Value) → suits (tree (get_or items i d)) (types_of ask.want) v ≡ suits (tree (get_or items i d)) (first_asked other (all_asked (drop i asks))).wants v
  suited v = ap (λ q. suits (tree (get_or items i d)) q.wants v) asked

  pub item_stops : (f : ExprFault) (now : State) → Stops met (expr (tree (get_or items i d)) (scope_in l mid) need wants) mid f now → Stops met (arguments (expressions_of tree items) (scope_in l old) other (all_asked asks)) old f now
  item_stops f now p = o.stops f now (stops_as met _ _ _ _ _ (sym opened) (stops_bind met _ _ _ _ _ (stops_as met _ _ _ _ _ walked p)))

  module _ (now : State) (vs : List Value) (p : Reads met (expr (tree (get_or items i d)) (scope_in l mid) need wants) mid vs now) where
    pub single_stops : (f : ExprFault) (end : State) → Stops met (single (tree (get_or items i d)) vs) now f end → Stops met (arguments (expressions_of tree items) (scope_in l old) other (all_asked asks)) old f end
    single_stops f end q = o.stops f end (stops_as met _ _ _ _ _ (sym opened) (stops_later met _ _ _ _ _ _ _ (reads_as met _ _ _ _ _ walked p) (stops_bind met _ _ _ _ _ q)))

    module _ (v : Value) (q : Reads met (single (tree (get_or items i d)) vs) now v now) where
      pub suits_stops : (f : ExprFault) (end : State) → Stops met (suits (tree (get_or items i d)) (types_of ask.want) v) now f end → Stops met (arguments (expressions_of tree items) (scope_in l old) other (all_asked asks)) old f end
      suits_stops f end r = o.stops f end (stops_as met _ _ _ _ _ (sym opened) (stops_later met _ _ _ _ _ _ _ (reads_as met _ _ _ _ _ walked p) (stops_later met _ _ _ _ _ _ _ q (stops_then met _ _ _ _ _ (stops_as met _ _ _ _ _ (suited v) r)))))

      module _ (r : Reads met (suits (tree (get_or items i d)) (types_of ask.want) v) now tt now) where
        later : Rest tree (scope_in l old) other items asks (i + 1) ≡ arguments (expressions_of tree (drop (i + 1) items)) (scope_in l old) other (later_asked (all_asked (drop i asks)))
        later = ap (λ x. arguments (expressions_of tree (drop (i + 1) items)) (scope_in l old) other x) (sym (later_asks asks i))

        step_reads : (ws : List Value) (end : State) → Reads met (Rest tree (scope_in l old) other items asks (i + 1)) now ws end → Reads met (Rest tree (scope_in l old) other items asks i) mid (v ∷ ws) end
        step_reads ws end t = reads_as met _ _ _ _ _ (sym opened) (reads_bind met _ _ _ _ _ _ _ (reads_as met _ _ _ _ _ walked p) (reads_bind met _ _ _ _ _ _ _ q (reads_then met _ _ _ _ _ _ _ (reads_as met _ _ _ _ _ (suited v) r) (reads_bind met _ _ _ _ _ _ _ (reads_as met _ _ _ _ _ later t) (reads_back met _ _)))))

        step_stops : (f : ExprFault) (end : State) → Stops met (Rest tree (scope_in l old) other items asks (i + 1)) now f end → Stops met (Rest tree (scope_in l old) other items asks i) mid f end
        step_stops f end t = stops_as met _ _ _ _ _ (sym opened) (stops_later met _ _ _ _ _ _ _ (reads_as met _ _ _ _ _ walked p) (stops_later met _ _ _ _ _ _ _ q (stops_after met _ _ _ _ _ _ _ (reads_as met _ _ _ _ _ (suited v) r) (stops_bind met _ _ _ _ _ (stops_as met _ _ _ _ _ later t)))))

        pub onward : (all : List Value) → all ≡ values ++ v ∷ [] → Onward met l tree other items asks old all (i + 1) now
        onward all e = record {
          reads = λ ws end t. subst (λ x. Reads met (arguments (expressions_of tree items) (scope_in l old) other (all_asked asks)) old x end) (sym (ap (λ x. x ++ ws) e ∙ append_assoc values (v ∷ []) ws)) (o.reads (v ∷ ws) end (step_reads ws end t));
          stops = λ f end t. o.stops f end (step_stops f end t);
          keeps = keeps_both o.keeps p.keeps;
        }

        pub memory_stops : (f : ExprFault) → f ≡ stops.Fault checks.Memory → Stops met (arguments (expressions_of tree items) (scope_in l old) other (all_asked asks)) old f now
        memory_stops f e = rw e (record { runs = tt; keeps = keeps_both o.keeps p.keeps })

-- nothing is read yet, and all is read
pub onward_none : (met : Signatures) (l : Shelf) (tree : ExprId → Expression) (other : Need) (items : List ExprId) (asks : List Ask) (old : State) → Onward met l tree other items asks old [] 0 old
onward_none met l tree other items asks old = record { reads = λ ws end t. t; stops = λ f end t. t; keeps = keeps_refl old }

pub onward_all : (met : Signatures) (l : Shelf) (tree : ExprId → Expression) (other : Need) (items : List ExprId) (asks : List Ask) (old now : State) (values : List Value) (i : ℕ) → Onward met l tree other items asks old values i now → length items ≤ i → Reads met (arguments (expressions_of tree items) (scope_in l old) other (all_asked asks)) old values now
onward_all met l tree other items asks old now values i o e =
    subst (λ x. Reads met (arguments (expressions_of tree items) (scope_in l old) other (all_asked asks)) old x now) (append-nil values)
    (o.reads [] now (subst (λ es. Reads met (arguments es (scope_in l old) other (all_asked (drop i asks))) now [] now) (sym (expressions_of-end tree items i e)) (reads_back met _ _)))
