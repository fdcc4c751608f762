-- The walk and the effect of a body: its statements, and then its last one.
use Rattle.std.proofs.Common.{◌≡◌, false, cond, List, [], ◌∷◌, refl, sym, ap, subst}
use Rattle.std.specs.Prelude.{Option}
use Rattle.silq_tree.specs.Syntax.{Expression, number, typed_number, truth, pi, place, called, tuple, unary, binary, none, more, Statement, Statements, assign, spread, update, forget, forget_value, phase, choice, loop, return_nothing, return_value, call, done, next}
use Rattle.silq_types.specs.declared.types.Ty.{Ty}
use Rattle.silq_types.specs.declared.need.Need.TheVariants as needs
use Rattle.silq_types.specs.declared.signature.InstanceKey.{InstanceKey}
use Rattle.silq_types.specs.declared.signature.Signature.{Signature}
use Rattle.silq_types.specs.declared.values.Value.{Value}
use Rattle.check_scope.specs.Context.{Scope, Context, ◌>>=◌, ◌>>◌, give_back}
use Rattle.check_expr.specs.Expression.{expr, arguments, asked_of_items, is_tuple, single, suits}
use Rattle.check_expr.specs.Owners.{Gives}
use Rattle.check_expr.proofs.Owners.{gives-bind}
use Rattle.check_fun.specs.Statement.{first_type, returned, body, stmt, stmts}
use Rattle.silq_mean.specs.declared.receiver.Receiver.{Receiver}
use Rattle.silq_mean.specs.Meaning as meanings
use Rattle.flat_form.specs.State.{Flattening}
use Rattle.flat_form.specs.Flat.{flat}
use Rattle.flat_form.specs.Fine.{Fine}
use Rattle.flat_typed.specs.Endings.{Last, none_last, nothing_last, value_last, front, last_of, last_walk, last_effect, returned_items}
use Rattle.flat_typed.proofs.Assignments.{gives_front}

-- ---- the walk

module _ (S : InstanceKey → Signature → Type 0) (sc : Scope) (P : Context → Type 0) (Q : Option (List Value) × Context → Type 0) (last : Last) (h : (d : Context) → P d → Gives S Q (last_walk last sc d)) where
  abbrev Splits : Statements → Type 0
  Splits ss = last_of ss ≡ last → (c : Context) → Gives S (λ (r : Unit {0} × Context). P r.1) (stmts (front ss) sc c) → Gives S Q (body ss sc c)

  ends : (l : Last) → l ≡ last → (c : Context) → P c → Gives S Q (last_walk l sc c)
  ends l e c p = subst (λ k. Gives S Q (last_walk k sc c)) (sym e) (h c p)

  goes_on : (st : Statement) (rest : Statements) → ((c : Context) → Gives S (λ (r : Unit {0} × Context). P r.1) (stmts (front rest) sc c) → Gives S Q (body rest sc c))
      → (c : Context) → Gives S (λ (r : Unit {0} × Context). P r.1) ((stmt st sc >> stmts (front rest) sc) c) → Gives S Q ((stmt st sc >> body rest sc) c)
  unfolding ◌>>◌
  goes_on st rest ih c g =
      gives-bind S 0 (λ r. Gives S (λ (q : Unit {0} × Context). P q.1) (stmts (front rest) sc r.1)) Q (stmt st sc c) (λ r. body rest sc r.1)
      (gives_front S (λ (q : Unit {0} × Context). P q.1) (stmt st sc c) (λ r. stmts (front rest) sc r.1) g) (λ r q. ih r.1 q)

  pub body_splits : (ss : Statements) → Splits ss
  body_splits done = λ e c g. ends none_last e c g
  body_splits (next (return_nothing s) done) = λ e c g. ends (nothing_last s) e c g
  body_splits (next (return_value e s) done) = λ q c g. ends (value_last e s) q c g
  body_splits (next (return_nothing s) (next st rest)) = λ q. goes_on (return_nothing s) (next st rest) (body_splits (next st rest) q)
  body_splits (next (return_value e s) (next st rest)) = λ q. goes_on (return_value e s) (next st rest) (body_splits (next st rest) q)
  body_splits (next (assign w e s) rest) = λ q. goes_on (assign w e s) rest (body_splits rest q)
  body_splits (next (spread xs e s) rest) = λ q. goes_on (spread xs e s) rest (body_splits rest q)
  body_splits (next (update w op e s) rest) = λ q. goes_on (update w op e s) rest (body_splits rest q)
  body_splits (next (forget x s) rest) = λ q. goes_on (forget x s) rest (body_splits rest q)
  body_splits (next (forget_value x e s) rest) = λ q. goes_on (forget_value x e s) rest (body_splits rest q)
  body_splits (next (phase e s) rest) = λ q. goes_on (phase e s) rest (body_splits rest q)
  body_splits (next (choice e a b s) rest) = λ q. goes_on (choice e a b s) rest (body_splits rest q)
  body_splits (next (loop x l k b s) rest) = λ q. goes_on (loop x l k b s) rest (body_splits rest q)
  body_splits (next (call e s) rest) = λ q. goes_on (call e s) rest (body_splits rest q)

-- ---- the effect

pub record SplitsAt (m : meanings.Scope) (ss : Statements) (s : Flattening) : Type 0 where
  pub becomes : flat (meanings.stmts ss m) s ≡ flat (last_effect (last_of ss) m) (flat (meanings.stmts (front ss) m) s)
  pub fine : Fine (meanings.stmts (front ss) m) s → Fine (last_effect (last_of ss) m) (flat (meanings.stmts (front ss) m) s) → Fine (meanings.stmts ss m) s

module _ (m : meanings.Scope) where
  then_splits : (st : Statement) (rest : Statements) (s : Flattening) → SplitsAt m rest (flat (meanings.stmt st m) s)
      → (flat (meanings.stmts (next st rest) m) s ≡ flat (last_effect (last_of rest) m) (flat (meanings.stmts (next st (front rest)) m) s))
      × (Fine (meanings.stmts (next st (front rest)) m) s → Fine (last_effect (last_of rest) m) (flat (meanings.stmts (next st (front rest)) m) s) → Fine (meanings.stmts (next st rest) m) s)
  then_splits st rest s h = (h.becomes, λ f g. (f.0, h.fine f.1 g))

  pub effect_splits : (ss : Statements) (s : Flattening) → SplitsAt m ss s
  effect_splits done s = record { becomes = refl; fine = λ f g. f }
  effect_splits (next (return_nothing t) done) s = record { becomes = refl; fine = λ f g. g }
  effect_splits (next (return_value e t) done) s = record { becomes = refl; fine = λ f g. g }
  effect_splits (next (return_nothing t) (next st rest)) s = let h = then_splits (return_nothing t) (next st rest) s (effect_splits (next st rest) (flat (meanings.stmt (return_nothing t) m) s)) in record { becomes = h.0; fine = h.1 }
  effect_splits (next (return_value e t) (next st rest)) s = let h = then_splits (return_value e t) (next st rest) s (effect_splits (next st rest) (flat (meanings.stmt (return_value e t) m) s)) in record { becomes = h.0; fine = h.1 }
  effect_splits (next (assign w e t) rest) s = let h = then_splits (assign w e t) rest s (effect_splits rest (flat (meanings.stmt (assign w e t) m) s)) in record { becomes = h.0; fine = h.1 }
  effect_splits (next (spread xs e t) rest) s = let h = then_splits (spread xs e t) rest s (effect_splits rest (flat (meanings.stmt (spread xs e t) m) s)) in record { becomes = h.0; fine = h.1 }
  effect_splits (next (update w op e t) rest) s = let h = then_splits (update w op e t) rest s (effect_splits rest (flat (meanings.stmt (update w op e t) m) s)) in record { becomes = h.0; fine = h.1 }
  effect_splits (next (forget x t) rest) s = let h = then_splits (forget x t) rest s (effect_splits rest (flat (meanings.stmt (forget x t) m) s)) in record { becomes = h.0; fine = h.1 }
  effect_splits (next (forget_value x e t) rest) s = let h = then_splits (forget_value x e t) rest s (effect_splits rest (flat (meanings.stmt (forget_value x e t) m) s)) in record { becomes = h.0; fine = h.1 }
  effect_splits (next (phase e t) rest) s = let h = then_splits (phase e t) rest s (effect_splits rest (flat (meanings.stmt (phase e t) m) s)) in record { becomes = h.0; fine = h.1 }
  effect_splits (next (choice e a b t) rest) s = let h = then_splits (choice e a b t) rest s (effect_splits rest (flat (meanings.stmt (choice e a b t) m) s)) in record { becomes = h.0; fine = h.1 }
  effect_splits (next (loop x l k b t) rest) s = let h = then_splits (loop x l k b t) rest s (effect_splits rest (flat (meanings.stmt (loop x l k b t) m) s)) in record { becomes = h.0; fine = h.1 }
  effect_splits (next (call e t) rest) s = let h = then_splits (call e t) rest s (effect_splits rest (flat (meanings.stmt (call e t) m) s)) in record { becomes = h.0; fine = h.1 }

-- ---- what is returned: one value is walked as a list of one

pub record ItemsAt (m : meanings.Scope) (e : Expression) (takers : List Receiver) (s : Flattening) : Type 0 where
  pub becomes : flat (meanings.items e m takers) s ≡ flat (meanings.exprs (returned_items e) m needs.Consumed [] takers) s
  pub fine : Fine (meanings.exprs (returned_items e) m needs.Consumed [] takers) s → Fine (meanings.items e m takers) s

pub items_are : (m : meanings.Scope) (e : Expression) (takers : List Receiver) (s : Flattening) → ItemsAt m e takers s
items_are m (number n t) takers s = record { becomes = refl; fine = λ f. f.0 }
items_are m (typed_number n k t) takers s = record { becomes = refl; fine = λ f. f.0 }
items_are m (truth b t) takers s = record { becomes = refl; fine = λ f. f.0 }
items_are m (pi t) takers s = record { becomes = refl; fine = λ f. f.0 }
items_are m (place p t) takers s = record { becomes = refl; fine = λ f. f.0 }
items_are m (called f ss es t) takers s = record { becomes = refl; fine = λ f. f.0 }
items_are m (tuple es t) takers s = record { becomes = refl; fine = λ f. f }
items_are m (unary op e t) takers s = record { becomes = refl; fine = λ f. f.0 }
items_are m (binary op a b t) takers s = record { becomes = refl; fine = λ f. f.0 }

module _ (sc : Scope) (c : Context) where
  one_walked : (e : Expression) → is_tuple e ≡ false → (ts : List Ty)
      → (expr e sc needs.Consumed (first_type ts) >>= (λ vs. single e vs >>= (λ v. suits e (first_type ts) v >> give_back (v ∷ [])))) c ≡ arguments (more e none) sc needs.Consumed (asked_of_items needs.Consumed ts) c
  unfolding ◌>>=◌ ◌>>◌
  one_walked e t [] = ap (λ b. (expr e sc (cond b needs.Held needs.Consumed) (cond b [] []) >>= (λ vs. single e vs >>= (λ v. suits e [] v >> give_back (v ∷ [])))) c) (sym t)
  one_walked e t (u ∷ ts) = ap (λ b. (expr e sc (cond b needs.Held needs.Consumed) (cond b [] (u ∷ [])) >>= (λ vs. single e vs >>= (λ v. suits e (u ∷ []) v >> give_back (v ∷ [])))) c) (sym t)

  pub returned_as_items : (e : Expression) → returned e sc c ≡ arguments (returned_items e) sc needs.Consumed (asked_of_items needs.Consumed sc.results) c
  returned_as_items (number n s) = one_walked (number n s) refl sc.results
  returned_as_items (typed_number n k s) = one_walked (typed_number n k s) refl sc.results
  returned_as_items (truth b s) = one_walked (truth b s) refl sc.results
  returned_as_items (pi s) = one_walked (pi s) refl sc.results
  returned_as_items (place p s) = one_walked (place p s) refl sc.results
  returned_as_items (called f ss es s) = one_walked (called f ss es s) refl sc.results
  returned_as_items (tuple es s) = refl
  returned_as_items (unary op e s) = one_walked (unary op e s) refl sc.results
  returned_as_items (binary op a b s) = one_walked (binary op a b s) refl sc.results
