-- An expression in a statement: from where it begins, and what its walk tells beside its effect.
use Rattle.std.proofs.Common.{◌≡◌, ◌⊎◌, inl, inr, ℕ, ◌≤◌, ◌<◌, Bool, true, false, cond, not, List, [], ◌∷◌, refl, sym, ap, ◌∙◌, subst, arith}
use Rattle.std.specs.Prelude.{⊤}
use Rattle.std.proofs.lemmas.Bool.{cases_lt, eq-eqb}
use Rattle.silq_tree.specs.Syntax.{Expression}
use Rattle.silq_types.specs.declared.types.Ty.{Ty}
use Rattle.silq_types.specs.declared.need.Need.{Need}
use Rattle.silq_types.specs.declared.signature.InstanceKey.{InstanceKey}
use Rattle.silq_types.specs.declared.signature.Signature.{Signature}
use Rattle.silq_types.specs.declared.values.Value.{Value}
use Rattle.silq_types.specs.declared.values.Var.{Var}
use Rattle.check_scope.specs.declared.uses.Use.{Use}
use Rattle.check_scope.specs.Walk.{Walk, answer, broken, counted, asked}
use Rattle.check_scope.specs.Context.{Scope, Context, indices}
use Rattle.check_scope.specs.Uses.{uses}
use Rattle.check_expr.specs.Expression.{is_tuple, expr, single}
use Rattle.check_expr.specs.Owners.{at_place, owns, owners, Gives, Ensures}
use Rattle.check_expr.proofs.Owners.{gives-more, o_if, o_fail, o_back, o_more}
use Rattle.silq_mean.specs.declared.receiver.Receiver.{Receiver}
use Rattle.silq_mean.specs.Written.{is_empty}
use Rattle.silq_mean.specs.Meaning as meanings
use Rattle.flat_core.specs.declared.step.WireId.{WireId}
use Rattle.flat_form.specs.State.{Flattening}
use Rattle.flat_form.specs.Names.{AllOf, names}
use Rattle.flat_typed.specs.Places.{Places, is_part, has_wires}
use Rattle.flat_typed.specs.Footprint.{consumed_wires, Touches}
use Rattle.flat_typed.specs.Relation.{Outside, FitsPart}
use Rattle.flat_typed.specs.Done.{Begins, ExprDone, ExprTells, StmtBegins, MadeSince, changeable}
use Rattle.flat_typed.specs.Scopes.{as_meaning, NoStatics}
use Rattle.flat_typed.specs.Uses.{IsThere}
use Rattle.flat_typed.specs.Lemmas.{Callable, ExpressionIsFine}
use Rattle.flat_typed.proofs.Ordered.{clash}
use Rattle.flat_typed.proofs.Growing.{touches_more}
use Rattle.flat_typed.proofs.Footprints.{consumed_may_change}
use Rattle.flat_typed.proofs.Tame.{AllLeft, left_same}
use Rattle.flat_typed.proofs.Lone.{none_in}
use Rattle.flat_typed.proofs.Leaving.{k_any}
use Rattle.flat_typed.proofs.WalkThere.{u_expr}
use Rattle.flat_typed.proofs.Turns.{gives_both, wired_live}

-- ---- what the walk tells

-- what it uses is there, and it leaves all variables, consumed or not
abbrev pub Told : Scope → Need → Expression → Context → Context → Type 0
Told sc need e c d = (W : Places) → AllOf (FitsPart W c.vars) c.vars → AllOf (IsThere sc.held c.vars) (uses e sc c.vars need) × (AllLeft c.vars d.vars × AllOf (FitsPart W d.vars) d.vars)

pub gives_each : {A B : Type 0} (S : InstanceKey → Signature → Type 0) (P : B → A → Type 0) (w : Walk A) → ((b : B) → Gives S (P b) w) → Gives S (λ a. (b : B) → P b a) w
gives_each S P (answer a) h = h
gives_each S P (broken e) h = tt
gives_each S P (counted w) h = gives_each S P w h
gives_each S P (asked k next) h = λ s ok. gives_each S P (next s) (λ b. h b s ok)

pub expression_tells : (e : Expression) (sc : Scope) (need : Need) (wants : List Ty) (c : Context) → is_tuple e ≡ false → NoStatics sc c.vars → Gives (Callable sc) (λ r. Told sc need e c r.1) (expr e sc need wants c)
expression_tells e sc need wants c t free =
    gives-more (Callable sc) 0 (λ r. (b : Fitting) → After b r.1) (λ r. Told sc need e c r.1) (expr e sc need wants c)
    (gives_each (Callable sc) (λ b r. After b r.1) (expr e sc need wants c) (λ b. (u_expr (Callable sc) 0 b.0 c.vars sc free e ⊤ need wants t).runs c (tt, (left_same c.vars, b.1))))
    (λ r h W fits. let a = h (W, fits) in (a.0.1, a.1))
  where
    Fitting : Type 0
    Fitting = (W : Places) × AllOf (FitsPart W c.vars) c.vars

    After : Fitting → Context → Type 0
    After b d = (⊤ × AllOf (IsThere sc.held c.vars) (uses e sc c.vars need)) × (AllLeft c.vars d.vars × AllOf (FitsPart b.0 d.vars) d.vars)

-- and what its effect does from where a statement begins
pub record Reached (sc : Scope) (taker : Ty → Receiver) (need : Need) (e : Expression) (c : Context) (vs : List Value) (d : Context) : Type 0 where
  pub told : Told sc need e c d
  pub does : (out : Outside) (low : ℕ) (W : Places) (s : Flattening) → StmtBegins out sc low (λ p. 0) W c s → ExprDone out sc need (meanings.expr e (as_meaning taker sc) need) W [] (uses e sc c.vars need) c s vs d

-- no part is under way
none_placed : (n : ℕ) (vs : List Var) → AllOf (λ v. is_part v ≡ false) vs → AllOf (λ v. is_part v ≡ true → v.place < n) vs
none_placed n [] h = tt
none_placed n (v ∷ vs) h = (λ e. clash (sym e ∙ h.0), none_placed n vs h.1)

pub begins_expression : (out : Outside) (sc : Scope) (low : ℕ) (W : Places) (c : Context) (s : Flattening) (us : List Use) → StmtBegins out sc low (λ p. 0) W c s → Begins out sc low (λ p. 0) W [] us c s
begins_expression out sc low W c s us b = record {
  good = b.good;
  unmade = b.unmade;
  sole = b.sole;
  counted = λ p. omega arith;
  stands = b.stands;
  open_air = b.open_air;
  apart = λ w t. subst (AllOf (λ k. names k w ≡ false)) (sym b.none) tt;
  placed = none_placed c.next c.vars b.whole;
  lone = let e = none_in c.vars b.whole in omega (arith, e);
}

pub expression_reached : (e : Expression) → ExpressionIsFine e → (sc : Scope) (taker : Ty → Receiver) (need : Need) (wants : List Ty) (c : Context) → is_tuple e ≡ false → NoStatics sc c.vars
    → Gives (Callable sc) (λ r. Reached sc taker need e c r.0 r.1) (expr e sc need wants c)
expression_reached e fine sc taker need wants c t free =
    gives-more (Callable sc) 0 (λ r. Told sc need e c r.1 × Does r.0 r.1) (λ r. Reached sc taker need e c r.0 r.1) (expr e sc need wants c)
    (gives_both (Callable sc) (λ r. Told sc need e c r.1) (λ r. Does r.0 r.1) (expr e sc need wants c) (expression_tells e sc need wants c t free) (gives-more (Callable sc) 0 (λ r. Tells r.0 r.1) (λ r. Does r.0 r.1) (expr e sc need wants c) (fine sc taker need wants c t free) (λ r h out low others W under s b. (h out low others W under s b).done)))
    (λ r h. record { told = h.0; does = λ out low W s b. h.1 out low (λ p. 0) W [] s (begins_expression out sc low W c s (uses e sc c.vars need) b) })
  where
    Does : List Value → Context → Type 0
    Does vs d =
        (out : Outside) (low : ℕ) (others : ℕ → ℕ) (W : Places) (under : List Value) (s : Flattening) → Begins out sc low others W under (uses e sc c.vars need) c s →
        ExprDone out sc need (meanings.expr e (as_meaning taker sc) need) W under (uses e sc c.vars need) c s vs d

    Tells : List Value → Context → Type 0
    Tells vs d =
        (out : Outside) (low : ℕ) (others : ℕ → ℕ) (W : Places) (under : List Value) (s : Flattening) → Begins out sc low others W under (uses e sc c.vars need) c s →
        ExprTells out sc need wants (meanings.expr e (as_meaning taker sc) need) W under (uses e sc c.vars need) c s vs d

-- in a walk that goes on from the same context, whether or not a tuple stands there
pub reached_here : (e : Expression) → ExpressionIsFine e → (sc : Scope) (taker : Ty → Receiver) (need : Need) (wants : List Ty) (c : Context) → NoStatics sc c.vars
    → Ensures (Callable sc) (λ d. d ≡ c) (expr e sc need wants) (λ vs d. is_tuple e ≡ false → Reached sc taker need e c vs d)
reached_here e fine sc taker need wants c free = go (is_tuple e) refl
  where
    go : (t : Bool) → is_tuple e ≡ t → Ensures (Callable sc) (λ d. d ≡ c) (expr e sc need wants) (λ vs d. is_tuple e ≡ false → Reached sc taker need e c vs d)
    go true t = o_more (Callable sc) 0 (k_any (Callable sc) 0 (expr e sc need wants)) (λ vs d h z. clash (sym t ∙ z))
    go false t = record {
      runs = λ d q.
          subst (λ y. Gives (Callable sc) (λ r. is_tuple e ≡ false → Reached sc taker need e c r.0 r.1) (expr e sc need wants y)) (sym q)
          (gives-more (Callable sc) 0 (λ r. Reached sc taker need e c r.0 r.1) (λ r. is_tuple e ≡ false → Reached sc taker need e c r.0 r.1) (expr e sc need wants c) (expression_reached e fine sc taker need wants c t free) (λ r h z. h));
    }

-- one value is asked
pub one_of : (S : InstanceKey → Signature → Type 0) (Q : List Value → Context → Type 0) (e : Expression) (vs : List Value) → Ensures S (λ d. is_tuple e ≡ false → Q vs d) (single e vs) (λ v d. (is_tuple e ≡ false) × Q (v ∷ []) d)
one_of S Q e [] = o_if S 0 (is_tuple e) (λ x. o_fail S 0 _) (λ x. o_fail S 0 _)
one_of S Q e (v ∷ []) = o_if S 0 (is_tuple e) (λ x. o_fail S 0 _) (λ x. o_back S 0 v (λ d p. (x, p x)))
one_of S Q e (v ∷ (w ∷ vs)) = o_if S 0 (is_tuple e) (λ x. o_fail S 0 _) (λ x. o_fail S 0 _)

-- ---- variables that are left

pub whole_left : (vs ws : List Var) → AllLeft vs ws → AllOf (λ v. is_part v ≡ false) vs → AllOf (λ v. is_part v ≡ false) ws
whole_left [] [] h a = tt
whole_left [] (w ∷ ws) h a = absurd h
whole_left (v ∷ vs) [] h a = absurd h
whole_left (v ∷ vs) (w ∷ ws) h a = (ap (λ p. not (is_empty (indices p))) h.0.part ∙ a.0, whole_left vs ws h.1 a.1)

pub made_left : (n low : ℕ) (U : Places) (vs ws : List Var) → AllLeft vs ws → ((p : ℕ) → low ≤ p → owners p vs ≡ 0) → AllOf (MadeSince n low U) ws
made_left n low U [] [] h a = tt
made_left n low U [] (w ∷ ws) h a = absurd h
made_left n low U (v ∷ vs) [] h a = absurd h
made_left n low U (v ∷ vs) (w ∷ ws) h a = (λ b. inl (below b (cases_lt w.place low)), made_left n low U vs ws h.1 (λ p le. let z = a p le in omega (arith, z)))
  where
    below : has_wires w ≡ true → (w.place < low) ⊎ (low ≤ w.place) → w.place < low
    below b (inl lt) = lt
    below b (inr le) =
        let z = a w.place le in
        let c : owns w.place v ≡ 1 = ap (λ t. cond t 0 (at_place w.place v.place)) (h.0.live (wired_live w b)) ∙ ap (λ t. cond t 1 0) (eq-eqb v.place w.place (sym h.0.place)) in
        absurd (omega (arith, z, c))

-- what is consumed may be changed by the statement
pub consumed_touches : (out : Outside) (sc : Scope) (low : ℕ) (W : Places) (c : Context) (s : Flattening) (us : List Use) (u : Flattening) → StmtBegins out sc low (λ p. 0) W c s → AllOf (IsThere sc.held c.vars) us
    → Touches (consumed_wires W c.vars us) s.built.draft u.built.draft → Touches (changeable out W c.vars []) s.built.draft u.built.draft
consumed_touches out sc low W c s us u b there t = touches_more (consumed_wires W c.vars us) (changeable out W c.vars []) s.built.draft u.built.draft t (λ w l f. off w f (consumed_wires W c.vars us w) refl)
  where
    off : (w : WireId) → changeable out W c.vars [] w ≡ false → (x : Bool) → consumed_wires W c.vars us w ≡ x → x ≡ false
    off w f false e = refl
    off w f true e = clash (sym (consumed_may_change out sc.held W [] c s us b.stands there w e) ∙ f)
