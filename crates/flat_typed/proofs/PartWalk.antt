-- What the walk of an assignment to a part tells.
use Rattle.std.proofs.Common.{◌≡◌, ℕ, suc, Bool, true, false, cond, not, ◌&&◌, ◌||◌, List, [], ◌∷◌, ◌++◌, length, refl, sym, ap, ap₂, ◌∙◌, subst, arith}
use Rattle.std.specs.Prelude.{◌==◌, ⊤, ℤ, take}
use Rattle.std.proofs.lemmas.Bool.{eqb-true}
use Rattle.silq_tree.specs.declared.node.Spot.{Spot}
use Rattle.silq_tree.specs.Syntax.{Expression, Place}
use Rattle.silq_types.specs.declared.types.Ty.{Ty}
use Rattle.silq_types.specs.declared.need.Need.TheVariants as needs
use Rattle.silq_types.specs.declared.values.Part.{Part}
use Rattle.silq_types.specs.declared.values.Value.{Value}
use Rattle.silq_types.specs.declared.values.Var.{Var}
use Rattle.silq_types.specs.Types.{at, is_held, is_linear, shape_eq, place_name, place_indices}
use Rattle.silq_types.specs.Rules.{bad_part}
use Rattle.silq_mean.specs.Written.{is_empty}
use Rattle.check_scope.specs.Context.{Scope, Context, new_place, put_variables, indices, is_in_condition}
use Rattle.check_scope.specs.Uses.{uses}
use Rattle.check_expr.specs.Expression.{is_tuple, expr, lone_need, some_linear}
use Rattle.check_expr.specs.Owners.{Gives, Ensures}
use Rattle.check_expr.proofs.Owners.{gives-more, o_bind, o_then, o_back, o_more, o_rules, o_variables}
use Rattle.check_fun.specs.Statement.{Target, taken_out, consumed_there, with_origin, one_suits, all_at, assign_part}
use Rattle.silq_mean.specs.declared.receiver.Receiver.{Receiver}
use Rattle.silq_mean.specs.Meaning as meanings
use Rattle.flat_form.specs.State.{Flattening}
use Rattle.flat_typed.specs.Places.{Places, is_part}
use Rattle.flat_typed.specs.Relation.{Outside}
use Rattle.flat_typed.specs.Done.{Begins, ExprTells}
use Rattle.flat_typed.specs.Scopes.{as_meaning, NoStatics}
use Rattle.flat_typed.specs.Lemmas.{Callable, ExpressionIsFine}
use Rattle.flat_typed.proofs.Ordered.{clash}
use Rattle.flat_typed.proofs.Leaving.{k_any}
use Rattle.flat_typed.proofs.Turns.{gives_both}
use Rattle.flat_typed.proofs.Reached.{Told, expression_tells}
use Rattle.flat_typed.proofs.Inside.{exact_indices}
use Rattle.flat_typed.proofs.UpdateWalk.{AimedAt, aims_at, truly}
use Rattle.flat_typed.proofs.TakingOut.{found_whole}

-- the part as a variable, and the context in which the right side is walked
abbrev pub its_variable : Target → Context → Var
its_variable t c = taken_out t c.next

abbrev pub with_part_out : Target → Context → Context
with_part_out t c = record { vars = c.vars ++ its_variable t c ∷ []; next = suc c.next }

-- what the right side tells, from there
pub record Went (sc : Scope) (taker : Ty → Receiver) (e : Expression) (c : Context) (vs : List Value) (d : Context) : Type 0 where
  pub told : Told sc needs.Consumed e c d
  pub does : (out : Outside) (low : ℕ) (others : ℕ → ℕ) (W : Places) (under : List Value) (s : Flattening) → Begins out sc low others W under (uses e sc c.vars needs.Consumed) c s →
      ExprTells out sc needs.Consumed [] (meanings.expr e (as_meaning taker sc) needs.Consumed) W under (uses e sc c.vars needs.Consumed) c s vs d

pub record PartAssigned (sc : Scope) (taker : Ty → Receiver) (place : Place) (e : Expression) (c g : Context) : Type 0 where
  pub target : Target
  pub aim : AimedAt sc place c target
  pub value : Value
  pub middle : Context
  pub went : Went sc taker e (with_part_out target c) (value ∷ []) middle
  pub shape : shape_eq target.ty.shape value.ty.shape ≡ true
  pub class : (target.ty.classical && not value.ty.classical) ≡ false
  pub unheld : is_held target.owner.origin ≡ false
  pub loose : is_in_condition sc.held target.part ≡ false
  pub gone : consumed_there middle.vars target.part ≡ true
  pub same : value.place ≡ c.next
  pub left : g ≡ record middle { vars = with_origin (is_linear value.origin || false) (take (length c.vars) middle.vars) target.owner.part }

-- the one value is of the type that is asked
abbrev OneSuits : Ty → List Value → Type 0
OneSuits t [] = Unit {0}
OneSuits t (v ∷ []) = (shape_eq t.shape v.ty.shape ≡ true) × ((t.classical && not v.ty.classical) ≡ false)
OneSuits t (v ∷ (w ∷ vs)) = Unit {0}

one_told : (S : _) {P : Context → Type 0} (e : Expression) (t : Ty) (vs : List Value) → Ensures S P (one_suits e t vs) (λ u d. OneSuits t vs × P d)
one_told S e t [] = o_back S 0 tt (λ d p. (tt, p))
one_told S e t (v ∷ []) = o_more S 0 (o_rules S 0 _ _) (λ u d h. ((truly (shape_eq t.shape v.ty.shape) h.0.0, h.0.1.0), h.1))
one_told S e t (v ∷ (w ∷ vs)) = o_back S 0 tt (λ d p. (tt, p))

both_true : (a b : Bool) → not (a && (b && true)) ≡ false → (a ≡ true) × (b ≡ true)
both_true true true e = (refl, refl)
both_true true false e = clash e
both_true false b e = clash e

module _ (sc : Scope) (taker : Ty → Receiver) (place : Place) (e : Expression) (c : Context) (indexed : is_empty (meanings.static_values (place_indices place) sc.statics) ≡ false) where
  -- a part, and no whole variable
  pub is_indexed : (t : Target) → AimedAt sc place c t → is_part (its_variable t c) ≡ true
  is_indexed t aim =
      ap (λ (p : Part). not (is_empty (indices p))) aim.part
      ∙ (ap (λ (l : List ℤ). not (is_empty l)) (exact_indices place (place_name place) sc.statics aim.indices aim.mean)
      ∙ (ap (λ (l : List ℤ). not (is_empty l)) (sym aim.mean) ∙ ap not indexed))

  went : ExpressionIsFine e → NoStatics sc c.vars → (t : Target) → AimedAt sc place c t → Gives (Callable sc) (λ r. is_tuple e ≡ false → Went sc taker e (with_part_out t c) r.0 r.1) (expr e sc (lone_need e needs.Consumed) [] (with_part_out t c))
  went fine free t aim = go (is_tuple e) refl
    where
      free_too : NoStatics sc (with_part_out t c).vars
      free_too x h = found_whole (its_variable t c) (is_indexed t aim) c.vars x ∙ free x h

      its_told : List Value × Context → Type 0
      its_told r = Told sc needs.Consumed e (with_part_out t c) r.1

      its_does : List Value × Context → Type 0
      its_does r =
          (out : Outside) (low : ℕ) (others : ℕ → ℕ) (W : Places) (under : List Value) (s : Flattening) → Begins out sc low others W under (uses e sc (with_part_out t c).vars needs.Consumed) (with_part_out t c) s →
          ExprTells out sc needs.Consumed [] (meanings.expr e (as_meaning taker sc) needs.Consumed) W under (uses e sc (with_part_out t c).vars needs.Consumed) (with_part_out t c) s r.0 r.1

      go : (z : Bool) → is_tuple e ≡ z → Gives (Callable sc) (λ r. is_tuple e ≡ false → Went sc taker e (with_part_out t c) r.0 r.1) (expr e sc (lone_need e needs.Consumed) [] (with_part_out t c))
      go true z = gives-more (Callable sc) 0 (λ r. ⊤) (λ r. is_tuple e ≡ false → Went sc taker e (with_part_out t c) r.0 r.1) (expr e sc (lone_need e needs.Consumed) [] (with_part_out t c)) ((k_any (Callable sc) 0 {P = λ d. ⊤} (expr e sc (lone_need e needs.Consumed) [])).runs (with_part_out t c) tt) (λ r q f. clash (sym z ∙ f))
      go false z =
          subst (λ n. Gives (Callable sc) (λ r. is_tuple e ≡ false → Went sc taker e (with_part_out t c) r.0 r.1) (expr e sc n [] (with_part_out t c))) (sym (ap (λ b. cond b needs.Held needs.Consumed) z))
          (gives-more (Callable sc) 0 (λ r. its_told r × its_does r) (λ r. is_tuple e ≡ false → Went sc taker e (with_part_out t c) r.0 r.1) (expr e sc needs.Consumed [] (with_part_out t c))
          (gives_both (Callable sc) its_told its_does (expr e sc needs.Consumed [] (with_part_out t c)) (expression_tells e sc needs.Consumed [] (with_part_out t c) z free_too) (fine sc taker needs.Consumed [] (with_part_out t c) z free_too))
          (λ r q f. record { told = q.0; does = q.1 }))

  -- the rules behind the right side
  ends : (t : Target) → AimedAt sc place c t → (vs : List Value) (d : Context) (vars after : List Var) (p : ℕ) → vars ≡ c.vars → after ≡ d.vars → p ≡ c.next → Went sc taker e (with_part_out t c) vs d → OneSuits t.ty vs
      → is_held t.owner.origin ≡ false → is_in_condition sc.held t.part ≡ false → not (length vs == 1) ≡ false → not (consumed_there after t.part && all_at p vs) ≡ false
      → PartAssigned sc taker place e c (record d { vars = with_origin (some_linear vs) (take (length vars) after) t.owner.part })
  ends t aim [] d vars after p ev ea ep w su un lo len last = clash (sym (truly (0 == 1) len))
  ends t aim (v ∷ []) d vars after p ev ea ep w su un lo len last = record {
    target = t;
    aim = aim;
    value = v;
    middle = d;
    went = w;
    shape = su.0;
    class = su.1;
    unheld = un;
    loose = lo;
    gone = ap (λ l. consumed_there l t.part) (sym ea) ∙ (both_true (consumed_there after t.part) (v.place == p) last).0;
    same = eqb-true v.place p (both_true (consumed_there after t.part) (v.place == p) last).1 ∙ ep;
    left = ap₂ (λ (l m : List Var). record d { vars = with_origin (is_linear v.origin || false) (take (length l) m) t.owner.part }) ev ea;
  }
  ends t aim (v ∷ (w ∷ vs)) d vars after p ev ea ep went su un lo len last = let a = eqb-true (suc (suc (length vs))) 1 (truly (length (v ∷ (w ∷ vs)) == 1) len) in absurd (omega (arith, a))

  -- what stands while the right side is walked
  abbrev Out : Target → List Var → ℕ → Type 0
  Out t vars p = AimedAt sc place c t × (vars ≡ c.vars) × (p ≡ c.next)

  o_next : (t : Target) (vars : List Var) → Ensures (Callable sc) (λ d. (vars ≡ d.vars) × (AimedAt sc place c t × (d ≡ c))) new_place (λ p d. Out t vars p × (d ≡ record c { next = suc c.next }))
  o_next t vars = record { runs = λ d h. ((h.1.0, h.0 ∙ ap (λ (b : Context). b.vars) h.1.1, ap (λ (b : Context). b.next) h.1.1), ap (λ (b : Context). record b { next = suc b.next }) h.1.1) }

  o_put : (t : Target) (vars : List Var) (p : ℕ) → Ensures (Callable sc) (λ d. Out t vars p × (d ≡ record c { next = suc c.next })) (put_variables (vars ++ taken_out t p ∷ [])) (λ u d. Out t vars p × (d ≡ with_part_out t c))
  o_put t vars p = record { runs = λ d h. (h.0, ap (λ (b : Context). record b { vars = vars ++ taken_out t p ∷ [] }) h.1 ∙ ap₂ (λ (l : List Var) (n : ℕ). record { vars = l ++ taken_out t n ∷ []; next = suc c.next }) h.0.1 h.0.2) }

  o_right : ExpressionIsFine e → NoStatics sc c.vars → (t : Target) (vars : List Var) (p : ℕ)
      → Ensures (Callable sc) (λ d. Out t vars p × (d ≡ with_part_out t c)) (expr e sc (lone_need e needs.Consumed) []) (λ vs d. Out t vars p × (is_tuple e ≡ false → Went sc taker e (with_part_out t c) vs d))
  o_right fine free t vars p = record {
    runs = λ d h.
        subst (λ y. Gives (Callable sc) (λ r. Out t vars p × (is_tuple e ≡ false → Went sc taker e (with_part_out t c) r.0 r.1)) (expr e sc (lone_need e needs.Consumed) [] y)) (sym h.1)
        (gives-more (Callable sc) 0 (λ r. is_tuple e ≡ false → Went sc taker e (with_part_out t c) r.0 r.1) (λ r. Out t vars p × (is_tuple e ≡ false → Went sc taker e (with_part_out t c) r.0 r.1)) (expr e sc (lone_need e needs.Consumed) [] (with_part_out t c))
        (went fine free t h.0.0) (λ r q. (h.0, q)));
  }

  pub part_assigned : (s : Spot) → ExpressionIsFine e → NoStatics sc c.vars → Ensures (Callable sc) (λ d. d ≡ c) (assign_part sc place e s) (λ u g. PartAssigned sc taker place e c g)
  part_assigned s fine free =
      o_bind (Callable sc) 0 (aims_at sc c place s bad_part) (λ t.
      o_bind (Callable sc) 0 (o_variables (Callable sc) 0) (λ vars.
      o_bind (Callable sc) 0 (o_next t vars) (λ p.
      o_then (Callable sc) 0 (o_put t vars p) (λ u.
      o_bind (Callable sc) 0 (o_right fine free t vars p) (λ vs.
      o_then (Callable sc) 0 (o_rules (Callable sc) 0 (at e) _) (λ u.
      o_then (Callable sc) 0 (one_told (Callable sc) e t.ty vs) (λ u.
      o_bind (Callable sc) 0 (o_variables (Callable sc) 0) (λ after.
      o_then (Callable sc) 0 (o_rules (Callable sc) 0 s _) (λ u.
      record {
        runs = λ d h.
            let a = h.1.1.1.1 in
            ends t a.0.0 vs d vars after p a.0.1 h.1.0 a.0.2 (a.1 h.1.1.1.0.0) h.1.1.0 h.0.0 h.0.1.0 h.0.1.1.0 h.0.1.1.1.0;
      })))))))))
