-- The one argument of a call of a built-in function: what its walk tells.
use Rattle.std.proofs.Common.{◌≡◌, ℕ, ◌+◌, ◌≤◌, Bool, true, false, cond, List, [], ◌∷◌, ◌++◌, refl, sym, ap, ◌∙◌, subst, arith}
use Rattle.std.proofs.lemmas.List.{append-nil}
use Rattle.std.proofs.lemmas.Bool.{eq-eqb}
use Rattle.silq_tree.specs.Syntax.{Expression, Expressions, none, more}
use Rattle.silq_types.specs.declared.types.Ty.{Ty}
use Rattle.silq_types.specs.declared.need.Need.{Need}
use Rattle.silq_types.specs.declared.need.Need.TheVariants as needs
use Rattle.silq_types.specs.declared.values.Value.{Value}
use Rattle.silq_types.specs.declared.values.Var.{Var}
use Rattle.check_scope.specs.declared.uses.Use.{Use}
use Rattle.check_scope.specs.Context.{Scope, Context}
use Rattle.check_scope.specs.Uses.{uses}
use Rattle.check_expr.specs.Expression.{Asked, first_asked, is_tuple, lone_need, lone_wants, expr, arguments}
use Rattle.check_expr.specs.Owners.{at_place, owners, owned, handed, Sole, Gives, Ensures}
use Rattle.check_expr.proofs.Owners.{gives-more, o_bind, o_then, o_back, o_more, o_suits, o_expr}
use Rattle.silq_mean.specs.declared.receiver.Receiver.{Receiver}
use Rattle.silq_mean.specs.Effect.{Effect}
use Rattle.silq_mean.specs.Meaning as meanings
use Rattle.flat_form.specs.State.{Flattening}
use Rattle.flat_form.specs.Names.{AllOf}
use Rattle.flat_typed.specs.Places.{Places}
use Rattle.flat_typed.specs.Relation.{Outside, FitsPart}
use Rattle.flat_typed.specs.Scopes.{as_meaning, NoStatics}
use Rattle.flat_typed.specs.Done.{Begins, ExprTells}
use Rattle.flat_typed.specs.Lemmas.{Callable, ExpressionIsFine}
use Rattle.flat_typed.proofs.Ordered.{clash}
use Rattle.flat_typed.proofs.Tame.{AllLeft}
use Rattle.flat_typed.proofs.Leaving.{k_any}
use Rattle.flat_typed.proofs.Turns.{gives_both}
use Rattle.flat_typed.proofs.Reached.{Told, gives_each, expression_tells, one_of}

-- wherever the relation begins, this effect tells so of these values
abbrev pub Tells : Scope → Need → List Ty → Effect → List Use → Context → List Value → Context → Type 0
Tells sc need wants e us c vs d =
    (out : Outside) (low : ℕ) (others : ℕ → ℕ) (W : Places) (under : List Value) (s : Flattening) → Begins out sc low others W under us c s → ExprTells out sc need wants e W under us c s vs d

-- an expression of which no type is asked, with these values
pub record Walked (sc : Scope) (taker : Ty → Receiver) (need : Need) (e : Expression) (c : Context) (vs : List Value) (d : Context) : Type 0 where
  pub tells : Tells sc need [] (meanings.expr e (as_meaning taker sc) need) (uses e sc c.vars need) c vs d
  pub told : Told sc need e c d
  pub sole : (low : ℕ) (others : ℕ → ℕ) → Sole low others c → Sole low (λ p. others p + handed need p vs) d

pub expression_walked : (e : Expression) → ExpressionIsFine e → (sc : Scope) (taker : Ty → Receiver) (need : Need) (c : Context) → is_tuple e ≡ false → NoStatics sc c.vars
    → Gives (Callable sc) (λ r. Walked sc taker need e c r.0 r.1) (expr e sc need [] c)
expression_walked e fine sc taker need c t free =
    gives-more (Callable sc) 0 (λ r. Fine r.0 r.1 × (Told sc need e c r.1 × ((b : From) → After b r.0 r.1))) (λ r. Walked sc taker need e c r.0 r.1) (expr e sc need [] c)
    (gives_both (Callable sc) (λ r. Fine r.0 r.1) (λ r. Told sc need e c r.1 × ((b : From) → After b r.0 r.1)) (expr e sc need [] c) (fine sc taker need [] c t free)
    (gives_both (Callable sc) (λ r. Told sc need e c r.1) (λ r. (b : From) → After b r.0 r.1) (expr e sc need [] c) (expression_tells e sc need [] c t free)
    (gives_each (Callable sc) (λ b r. After b r.0 r.1) (expr e sc need [] c) (λ b. (o_expr (Callable sc) b.0 e b.1 sc (λ k g q. q.1) need []).runs c b.2))))
    (λ r h. record { tells = h.0; told = h.1.0; sole = λ low others s. h.1.1 (low, others, s) })
  where
    Fine : List Value → Context → Type 0
    Fine vs d = Tells sc need [] (meanings.expr e (as_meaning taker sc) need) (uses e sc c.vars need) c vs d

    From : Type 0
    From = (low : ℕ) × (others : ℕ → ℕ) × Sole low others c

    After : From → List Value → Context → Type 0
    After b vs d = Sole b.0 (λ p. b.1 p + handed need p vs) d

-- the one argument
pub record Argument (sc : Scope) (taker : Ty → Receiver) (need : Need) (e : Expression) (c : Context) (vs : List Value) (d : Context) : Type 0 where
  pub value : Value
  pub all : vs ≡ value ∷ []
  pub lone : is_tuple e ≡ false
  pub walked : Walked sc taker need e c (value ∷ []) d

module _ (e : Expression) (fine : ExpressionIsFine e) (sc : Scope) (taker : Ty → Receiver) (c : Context) (free : NoStatics sc c.vars) where
  first_walked : (need : Need) → Ensures (Callable sc) (λ d. d ≡ c) (expr e sc (lone_need e need) (lone_wants e [])) (λ vs d. is_tuple e ≡ false → Walked sc taker need e c vs d)
  first_walked need = go (is_tuple e) refl
    where
      go : (t : Bool) → is_tuple e ≡ t → Ensures (Callable sc) (λ d. d ≡ c) (expr e sc (lone_need e need) (lone_wants e [])) (λ vs d. is_tuple e ≡ false → Walked sc taker need e c vs d)
      go true t = o_more (Callable sc) 0 (k_any (Callable sc) 0 (expr e sc (lone_need e need) (lone_wants e []))) (λ vs d h z. clash (sym t ∙ z))
      go false t = record {
        runs = λ d q.
            subst (λ y. Gives (Callable sc) (λ r. is_tuple e ≡ false → Walked sc taker need e c r.0 r.1) (expr e sc (lone_need e need) (lone_wants e []) y)) (sym q)
            (subst (λ b. Gives (Callable sc) (λ r. is_tuple e ≡ false → Walked sc taker need e c r.0 r.1) (expr e sc (cond b needs.Held need) (cond b [] []) c)) (sym t)
            (gives-more (Callable sc) 0 (λ r. Walked sc taker need e c r.0 r.1) (λ r. is_tuple e ≡ false → Walked sc taker need e c r.0 r.1) (expr e sc need [] c) (expression_walked e fine sc taker need c t free) (λ r h z. h)));
      }

  pub argument_walked : (need : Need) (l : List Asked) → first_asked needs.Held l ≡ record { need = need; wants = [] } → Ensures (Callable sc) (λ d. d ≡ c) (arguments (more e none) sc needs.Held l) (λ vs d. Argument sc taker need e c vs d)
  argument_walked need l q =
      o_bind (Callable sc) 0 (subst (λ (a : Asked). Ensures (Callable sc) (λ d. d ≡ c) (expr e sc (lone_need e a.need) (lone_wants e a.wants)) (λ vs d. is_tuple e ≡ false → Walked sc taker need e c vs d)) (sym q) (first_walked need)) (λ vs.
      o_bind (Callable sc) 0 (one_of (Callable sc) (λ vs d. Walked sc taker need e c vs d) e vs) (λ v.
      o_then (Callable sc) 0 (o_suits (Callable sc) 0 e (first_asked needs.Held l).wants v) (λ u.
      o_bind (Callable sc) 0 (o_back (Callable sc) 0 [] {Q = λ rest d. (rest ≡ []) × ((is_tuple e ≡ false) × Walked sc taker need e c (v ∷ []) d)} (λ d h. (refl, h))) (λ rest.
      o_back (Callable sc) 0 (v ∷ rest) (λ d h. record { value = v; all = ap (λ l. v ∷ l) h.0; lone = h.1.0; walked = h.1.1 })))))

-- ---- places

-- the place of a value that is handed on has no other owner
pub no_owner : (low : ℕ) (others : ℕ → ℕ) (x : Value) (d : Context) → Sole low (λ p. others p + handed needs.Consumed p (x ∷ [])) d → (owners x.place d.vars ≡ 0) × (others x.place ≡ 0)
no_owner low others x d s =
    let a = s.one x.place in
    let c : at_place x.place x.place ≡ 1 = ap (λ t. cond t 1 0) (eq-eqb x.place x.place refl) in
    (omega (arith, a, c), omega (arith, a, c))

-- a context's places were there behind the walk
pub later_next : (low : ℕ) (others : ℕ → ℕ) (c d : Context) (f : ℕ → ℕ) → Sole low others c → ((low : ℕ) (others : ℕ → ℕ) → Sole low others c → Sole low (λ p. others p + f p) d) → c.next ≤ d.next
later_next low others c d f s h = (h c.next others (record { grown = omega arith; one = s.one; ahead = s.ahead })).grown
