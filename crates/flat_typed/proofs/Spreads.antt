-- An assignment of the values of one expression to several names.
use Rattle.std.proofs.Common.{◌≡◌, ℕ, suc, ◌+◌, Bool, true, false, cond, List, [], ◌∷◌, length, refl, sym, ap, ◌∙◌, subst, arith}
use Rattle.silq_tree.specs.declared.node.NameId.{NameId}
use Rattle.silq_tree.specs.declared.node.Spot.{Spot}
use Rattle.silq_tree.specs.Syntax.{Expression, Expressions, number, typed_number, truth, pi, place, called, tuple, unary, binary, none, more, spread}
use Rattle.silq_types.specs.declared.types.Ty.{Ty}
use Rattle.silq_types.specs.declared.need.Need.TheVariants as needs
use Rattle.silq_types.specs.declared.values.Value.{Value}
use Rattle.check_scope.specs.Context.{Scope, Context, ◌>>=◌}
use Rattle.check_scope.specs.Uses.{uses}
use Rattle.check_expr.specs.Expression.{is_tuple, expr}
use Rattle.check_expr.specs.Owners.{Ensures, Gives}
use Rattle.check_expr.proofs.Owners.{gives-more, o_bind, o_more}
use Rattle.check_fun.specs.Statement.{assigned}
use Rattle.silq_mean.specs.declared.receiver.Receiver.{Receiver}
use Rattle.silq_mean.specs.Effect.{Effect, nothing, ◌>>◌ as ◌▸◌, step, assign_in_turn}
use Rattle.silq_mean.specs.Meaning as meanings
use Rattle.flat_form.specs.State.{Flattening}
use Rattle.flat_typed.specs.Places.{Places}
use Rattle.flat_typed.specs.Relation.{Outside}
use Rattle.flat_typed.specs.Scopes.{as_meaning, NoStatics}
use Rattle.flat_typed.specs.Done.{StmtDone}
use Rattle.flat_typed.specs.Lemmas.{Callable, uses_by, ExpressionIsFine, StatementIsFine, StmtFine}
use Rattle.flat_typed.proofs.Ordered.{clash}
use Rattle.flat_typed.proofs.Turns.{Does, line_fine}
use Rattle.flat_typed.proofs.Naming.{variables_for}
use Rattle.flat_typed.proofs.Handing.{HandsOver, HandedOver, HandedOverFine}
use Rattle.flat_typed.proofs.Assignments.{Assigned, assigned_tells, in_turn_done, one_handed}
use Rattle.flat_typed.proofs.OneArgument.{Walked, expression_walked}
use Rattle.flat_typed.proofs.Spreading.{several_handed}

-- an effect with nothing in the middle
less_nothing : (out : Outside) (sc : Scope) (e f : Effect) (W : Places) (c : Context) (st : Flattening) (g : Context) → StmtDone out sc (e ▸ nothing ▸ f) W c st g → StmtDone out sc (e ▸ f) W c st g
less_nothing out sc e f W c st g h = record {
  fine = (h.fine.0.0, h.fine.1);
  after = h.after;
  agree = h.agree;
  stands = h.stands;
  whole = h.whole;
  made = h.made;
  none = h.none;
  leaves = h.leaves;
  touches = h.touches;
  plain = h.plain;
  unmade = h.unmade;
}

module _ (e : Expression) (s : Spot) (t : is_tuple e ≡ false) (sc : Scope) (taker : Ty → Receiver) (c : Context) (free : NoStatics sc c.vars) where
  abbrev E : Effect
  E = meanings.expr e (as_meaning taker sc) needs.Consumed

  abbrev its_effect : List NameId → Effect
  its_effect xs = E ▸ meanings.taken_by (variables_for xs) ▸ step (assign_in_turn xs)

  -- another number of values than one
  several : (xs : List NameId) → ExpressionIsFine e → (length xs ≡ 1 → ⊥) → StmtFine sc c (expr e sc needs.Consumed [] >>= assigned sc s xs) (its_effect xs)
  several xs fine many =
      (o_bind (Callable sc) 0 {Q = λ vs d. Walked sc taker needs.Consumed e c vs d} walks (λ vs. o_more (Callable sc) 0 (assigned_tells (Callable sc) {P = λ d. Walked sc taker needs.Consumed e c vs d} sc s xs vs)
      (λ u g k out low W st b.
      in_turn_done sc (E ▸ meanings.taken_by (variables_for xs)) (uses e sc c.vars needs.Consumed) xs c k.before vs (several_handed sc taker e xs c k.before vs k.is k.long (λ q. many (k.long ∙ q))) out low W st b g k.long k.over k.left))).runs c refl
    where
      walks : Ensures (Callable sc) (λ d. d ≡ c) (expr e sc needs.Consumed []) (λ vs d. Walked sc taker needs.Consumed e c vs d)
      walks = record { runs = λ d q. subst (λ y. Gives (Callable sc) (λ r. Walked sc taker needs.Consumed e c r.0 r.1) (expr e sc needs.Consumed [] y)) (sym q) (expression_walked e fine sc taker needs.Consumed c t free) }

  -- one value
  one : (x : NameId) → HandedOverFine (more e none) → StmtFine sc c (expr e sc needs.Consumed [] >>= assigned sc s (x ∷ [])) (its_effect (x ∷ []))
  one x fine =
      (o_bind (Callable sc) 0 walks (λ vs. o_more (Callable sc) 0 (assigned_tells (Callable sc) {P = λ d. Handed vs d} sc s (x ∷ []) vs) (λ u g k. ends vs g k))).runs c refl
    where
      Handed : List Value → Context → Type 0
      Handed vs d = (v : Value) → vs ≡ v ∷ [] → HandedOver sc taker (more e none) (variables_for (x ∷ [])) c (v ∷ []) d

      walks : Ensures (Callable sc) (λ d. d ≡ c) (expr e sc needs.Consumed []) Handed
      walks = record {
        runs = λ d q.
            subst (λ y. Gives (Callable sc) (λ r. Handed r.0 r.1) (expr e sc needs.Consumed [] y)) (sym q)
            (subst (λ b. Gives (Callable sc) (λ r. Handed r.0 r.1) (expr e sc (cond b needs.Held needs.Consumed) [] c)) t
            (one_handed (Callable sc) (λ r. HandedOver sc taker (more e none) (variables_for (x ∷ [])) c r.0 r.1) e sc c t (fine sc taker (x ∷ []) c refl free)));
      }

      ends : (vs : List Value) (g : Context) → Assigned (λ d. Handed vs d) (x ∷ []) vs g → Does sc c (its_effect (x ∷ [])) g
      ends [] g k = absurd (let l = k.long in omega (arith, l))
      ends (v ∷ (w ∷ vs)) g k = absurd (let l = k.long in omega (arith, l))
      ends (v ∷ []) g k = λ out low W st b.
          less_nothing out sc (E ▸ meanings.taken_by (variables_for (x ∷ []))) (step (assign_in_turn (x ∷ []))) W c st g
          (in_turn_done sc (meanings.exprs (more e none) (as_meaning taker sc) needs.Consumed [] (variables_for (x ∷ []))) (uses_by (more e none) sc c (variables_for (x ∷ []))) (x ∷ []) c k.before (v ∷ []) (k.is v refl) out low W st b g k.long k.over k.left)

  pub spread_does : (xs : List NameId) → ExpressionIsFine e → HandedOverFine (more e none) → StmtFine sc c (expr e sc needs.Consumed [] >>= assigned sc s xs) (its_effect xs)
  spread_does [] fine one_fine = several [] fine (λ q. absurd (omega (arith, q)))
  spread_does (x ∷ []) fine one_fine = one x one_fine
  spread_does (x ∷ (y ∷ xs)) fine one_fine = several (x ∷ (y ∷ xs)) fine (λ q. absurd (omega (arith, q)))

-- an expression that is no tuple
pub spread_value_is_fine : (xs : List NameId) (e : Expression) (s : Spot) → is_tuple e ≡ false → ExpressionIsFine e → HandedOverFine (more e none) → StatementIsFine (spread xs e s)
spread_value_is_fine xs e s t fine one_fine sc taker c free = line_fine sc c (expr e sc needs.Consumed [] >>= assigned sc s xs) (meanings.items e (as_meaning taker sc) (variables_for xs) ▸ step (assign_in_turn xs)) s.line (by_form e t fine one_fine)
  where
    Goal : Expression → Type 0
    Goal e = StmtFine sc c (expr e sc needs.Consumed [] >>= assigned sc s xs) (meanings.items e (as_meaning taker sc) (variables_for xs) ▸ step (assign_in_turn xs))

    by_form : (e : Expression) → is_tuple e ≡ false → ExpressionIsFine e → HandedOverFine (more e none) → Goal e
    by_form (number n r) t f o = spread_does (number n r) s t sc taker c free xs f o
    by_form (typed_number n k r) t f o = spread_does (typed_number n k r) s t sc taker c free xs f o
    by_form (truth b r) t f o = spread_does (truth b r) s t sc taker c free xs f o
    by_form (pi r) t f o = spread_does (pi r) s t sc taker c free xs f o
    by_form (place p r) t f o = spread_does (place p r) s t sc taker c free xs f o
    by_form (called g ss args r) t f o = spread_does (called g ss args r) s t sc taker c free xs f o
    by_form (unary op a r) t f o = spread_does (unary op a r) s t sc taker c free xs f o
    by_form (binary op a b r) t f o = spread_does (binary op a b r) s t sc taker c free xs f o
    by_form (tuple es r) t f o = clash t
