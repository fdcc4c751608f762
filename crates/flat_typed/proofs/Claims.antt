-- A variable that is forgotten by a value that it is equal to.
use Rattle.std.proofs.Common.{◌≡◌, ◌⊎◌, inl, inr, ℕ, ◌≤◌, ◌<◌, Bool, true, false, cond, not, ◌||◌, List, [], ◌∷◌, refl, sym, ap, ap₂, ◌∙◌, subst, arith}
use Rattle.std.specs.Prelude.{Option, Some, None}
use Rattle.std.proofs.lemmas.Bool.{cases_lt, eq-eqb}
use Rattle.silq_tree.specs.declared.node.NameId.{NameId}
use Rattle.silq_tree.specs.declared.node.Spot.{Spot}
use Rattle.silq_tree.specs.Syntax.{Expression, whole}
use Rattle.silq_types.specs.declared.types.Ty.{Ty}
use Rattle.silq_types.specs.declared.need.Need.TheVariants as needs
use Rattle.silq_types.specs.declared.values.Value.{Value}
use Rattle.silq_types.specs.declared.values.Var.{Var}
use Rattle.silq_types.specs.Types.{is_held, shape_eq, same_name, names as names_in}
use Rattle.silq_types.specs.Rules.{bad_forget}
use Rattle.check_scope.specs.Context.{Scope, Context, variable, part_at, find_var, replace, same_part, is_in_condition}
use Rattle.check_expr.specs.Expression.{is_tuple, expr, lone_wants}
use Rattle.check_expr.specs.Owners.{at_place, owns, owners, Gives, Ensures}
use Rattle.check_expr.proofs.Owners.{gives-more, o_bind, o_then, o_back, o_fail, o_rules, o_variables}
use Rattle.check_expr.proofs.Alike.{same_part_refl}
use Rattle.check_fun.specs.Statement.{Target, target, target_of, consumed_there, has_name, forget_as}
use Rattle.silq_mean.specs.declared.receiver.Receiver.{Receiver}
use Rattle.silq_mean.specs.Env.{Env, Block, is_in_block, block_with, in_its_block}
use Rattle.flat_form.specs.declared.known.Known.{Known}
use Rattle.flat_form.specs.Names.{AllOf}
use Rattle.flat_form.specs.Shows.{ListBoth}
use Rattle.flat_typed.specs.Scopes.{NoStatics}
use Rattle.flat_typed.specs.Lemmas.{Callable, ExpressionIsFine}
use Rattle.flat_typed.proofs.Ordered.{clash}
use Rattle.flat_typed.proofs.Parts.{name_refl, found_there}
use Rattle.flat_typed.proofs.Moving.{spent}
use Rattle.flat_typed.proofs.Reached.{Reached, reached_here, one_of}

-- ---- what the walk tells

pub record Claimed (sc : Scope) (taker : Ty → Receiver) (x : NameId) (e : Expression) (c d : Context) : Type 0 where
  pub owner : Var
  pub found : find_var c.vars (variable x) ≡ Some owner
  pub live : owner.consumed ≡ false
  pub value : Value
  pub middle : Context
  pub reached : Reached sc taker needs.Held e c (value ∷ []) middle
  pub stays : consumed_there middle.vars (variable x) ≡ false
  pub unheld : is_held owner.origin ≡ false
  pub loose : is_in_condition sc.held (variable x) ≡ false
  pub quantum : owner.ty.classical ≡ false
  pub unnamed : has_name x (names_in e) ≡ false
  pub shape : shape_eq owner.ty.shape value.ty.shape ≡ true
  pub left : d ≡ record middle { vars = replace middle.vars (spent owner) }

-- the target is the whole variable
pub record Aimed (c : Context) (x : NameId) (t : Target) : Type 0 where
  pub part : t.part ≡ variable x
  pub found : find_var c.vars (variable x) ≡ Some t.owner
  pub live : t.owner.consumed ≡ false
  pub ty : t.ty ≡ t.owner.ty

or_both : (a b : Bool) → (a || b) ≡ false → (a ≡ false) × (b ≡ false)
or_both true b e = clash e
or_both false b e = (refl, e)

pub truly : (b : Bool) → not b ≡ false → b ≡ true
truly true e = refl
truly false e = clash e

module _ (sc : Scope) (c : Context) (x : NameId) where
  aim_of : (s : Spot) (other : ℕ) (o : Option Var) → find_var c.vars (variable x) ≡ o → Ensures (Callable sc) (λ d. d ≡ c) (target_of s other (part_at x []) o) (λ t d. Aimed c x t × (d ≡ c))
  aim_of s other None e = o_fail (Callable sc) 0 _
  aim_of s other (Some v) e = o_then (Callable sc) 0 (o_rules (Callable sc) 0 s _) (λ u. o_back (Callable sc) 0 _ (λ d h. (record { part = refl; found = e; live = h.0.0; ty = refl }, h.1)))

  pub aims : (s : Spot) (other : ℕ) → Ensures (Callable sc) (λ d. d ≡ c) (target sc (whole x) s other) (λ t d. Aimed c x t × (d ≡ c))
  aims s other =
      o_bind (Callable sc) 0 (o_back (Callable sc) 0 [] {Q = λ zs d. (zs ≡ []) × (d ≡ c)} (λ d h. (refl, h))) (λ values. o_bind (Callable sc) 0 (o_variables (Callable sc) 0) (λ vars. o_then (Callable sc) 0 (o_rules (Callable sc) 0 s _) (λ u.
      record {
        runs = λ d h.
            subst (λ zs. Gives (Callable sc) (λ r. Aimed c x r.0 × (r.1 ≡ c)) (target_of s other (part_at x zs) (find_var vars (variable x)) d)) (sym h.1.1.0)
            ((aim_of s other (find_var vars (variable x)) (ap (λ (b : Context). find_var b.vars (variable x)) (sym h.1.1.1) ∙ ap (λ l. find_var l (variable x)) (sym h.1.0))).runs d h.1.1.1);
      })))

  pub claimed : (taker : Ty → Receiver) (e : Expression) (s : Spot) → ExpressionIsFine e → NoStatics sc c.vars → Ensures (Callable sc) (λ d. d ≡ c) (forget_as sc x e s) (λ u. Claimed sc taker x e c)
  claimed taker e s fine free =
      o_bind (Callable sc) 0 (aims s bad_forget) (λ t.
      o_bind (Callable sc) 0 (kept t) (λ vs.
      o_bind (Callable sc) 0 (one_of (Callable sc) (λ vs d. Aimed c x t × Reached sc taker needs.Held e c vs d) e vs) (λ v.
      o_bind (Callable sc) 0 (o_variables (Callable sc) 0) (λ after.
      o_then (Callable sc) 0 (o_rules (Callable sc) 0 s _) (λ u.
      record {
        runs = λ d h.
            let aim = h.1.1.1.0 in
            record {
              owner = t.owner;
              found = aim.found;
              live = aim.live;
              value = v;
              middle = d;
              reached = h.1.1.1.1;
              stays = ap₂ (λ l p. consumed_there l p) (sym h.1.0) (sym (found_there c.vars x t.owner aim.found)) ∙ h.0.0;
              unheld = h.0.1.0;
              loose = ap (is_in_condition sc.held) (sym aim.part) ∙ h.0.1.1.0;
              quantum = ap (λ (y : Ty). y.classical) (sym aim.ty) ∙ (or_both t.ty.classical (has_name x (names_in e)) (or_both (t.ty.classical || has_name x (names_in e)) (not (shape_eq t.ty.shape v.ty.shape)) h.0.1.1.1.0).0).0;
              unnamed = (or_both t.ty.classical (has_name x (names_in e)) (or_both (t.ty.classical || has_name x (names_in e)) (not (shape_eq t.ty.shape v.ty.shape)) h.0.1.1.1.0).0).1;
              shape = ap (λ (y : Ty). shape_eq y.shape v.ty.shape) (sym aim.ty) ∙ truly (shape_eq t.ty.shape v.ty.shape) (or_both (t.ty.classical || has_name x (names_in e)) (not (shape_eq t.ty.shape v.ty.shape)) h.0.1.1.1.0).1;
              left = refl;
            };
      })))))
    where
      kept : (t : Target) → Ensures (Callable sc) (λ d. Aimed c x t × (d ≡ c)) (expr e sc needs.Held (lone_wants e (t.ty ∷ []))) (λ vs d. is_tuple e ≡ false → Aimed c x t × Reached sc taker needs.Held e c vs d)
      kept t = record {
        runs = λ d h. gives-more (Callable sc) 0 (λ r. is_tuple e ≡ false → Reached sc taker needs.Held e c r.0 r.1) (λ r. is_tuple e ≡ false → Aimed c x t × Reached sc taker needs.Held e c r.0 r.1) (expr e sc needs.Held (lone_wants e (t.ty ∷ [])) d)
            ((reached_here e fine sc taker needs.Held (lone_wants e (t.ty ∷ [])) c free).runs d h.1) (λ r q z. (h.0, q z));
      }

-- ---- lists and environments

pub record OneAnswer (Q : Value → Known → Type 0) (v : Value) (ks : List Known) : Type 0 where
  pub known : Known
  pub all : ks ≡ known ∷ []
  pub is : Q v known

pub one_answer : (Q : Value → Known → Type 0) (v : Value) (ks : List Known) → ListBoth Q (v ∷ []) ks → OneAnswer Q v ks
one_answer Q v [] h = absurd h
one_answer Q v (k ∷ []) h = record { known = k; all = refl; is = h.0 }
one_answer Q v (k ∷ (l ∷ ks)) h = absurd h.1

block_twice : (b : Block Known) (x : NameId) (k : Known) → (is_in_block (block_with b x k) x ≡ true) × (block_with (block_with b x k) x k ≡ block_with b x k)
block_twice [] x k = (ap (λ t. t || false) (name_refl x), ap (λ t. cond t ((x, k) ∷ []) ((x, k) ∷ (x, k) ∷ [])) (name_refl x))
block_twice (p ∷ ps) x k = go (same_name p.0 x) refl (block_twice ps x k)
  where
    goal : Bool → Type 0
    goal t = (is_in_block (cond t ((p.0, k) ∷ ps) (p ∷ block_with ps x k)) x ≡ true) × (block_with (cond t ((p.0, k) ∷ ps) (p ∷ block_with ps x k)) x k ≡ cond t ((p.0, k) ∷ ps) (p ∷ block_with ps x k))

    go : (t : Bool) → same_name p.0 x ≡ t → (is_in_block (block_with ps x k) x ≡ true) × (block_with (block_with ps x k) x k ≡ block_with ps x k) → goal t
    go true e i = (ap (λ t. t || is_in_block ps x) e, ap (λ t. cond t ((p.0, k) ∷ ps) ((p.0, k) ∷ block_with ps x k)) e)
    go false e i =
        (ap (λ t. t || is_in_block (block_with ps x k) x) e ∙ i.0, ap (λ t. cond t ((p.0, k) ∷ block_with ps x k) (p ∷ block_with (block_with ps x k) x k)) e ∙ ap (λ l. p ∷ l) i.1)

pub its_twice : (env : Env Known) (x : NameId) (k : Known) → in_its_block (in_its_block env x k) x k ≡ in_its_block env x k
its_twice [] x k = refl
its_twice (b ∷ bs) x k = go (is_in_block b x) refl (its_twice bs x k)
  where
    goal : Bool → Type 0
    goal t = in_its_block (cond t (block_with b x k ∷ bs) (b ∷ in_its_block bs x k)) x k ≡ cond t (block_with b x k ∷ bs) (b ∷ in_its_block bs x k)

    go : (t : Bool) → is_in_block b x ≡ t → in_its_block (in_its_block bs x k) x k ≡ in_its_block bs x k → goal t
    go true e i = ap (λ t. cond t (block_with (block_with b x k) x k ∷ bs) (block_with b x k ∷ in_its_block bs x k)) (block_twice b x k).0 ∙ ap (λ l. l ∷ bs) (block_twice b x k).1
    go false e i = ap (λ t. cond t (block_with b x k ∷ in_its_block bs x k) (b ∷ in_its_block (in_its_block bs x k) x k)) e ∙ ap (λ l. b ∷ l) i

pub found_spent : (vs : List Var) (x : NameId) (v : Var) → find_var vs (variable x) ≡ Some v → v.part ≡ variable x → find_var (replace vs (spent v)) (variable x) ≡ Some (spent v)
found_spent [] x v e p = absurd (grind (arith, e))
found_spent (w ∷ ws) x v e p = go (same_part w.part (variable x)) refl e (λ d. found_spent ws x v d p)
  where
    goal : Bool → Type 0
    goal t = find_var (cond t (spent v ∷ ws) (w ∷ replace ws (spent v))) (variable x) ≡ Some (spent v)

    go : (t : Bool) → same_part w.part (variable x) ≡ t → cond t (Some w) (find_var ws (variable x)) ≡ Some v → (find_var ws (variable x) ≡ Some v → find_var (replace ws (spent v)) (variable x) ≡ Some (spent v)) → goal (same_part w.part v.part)
    go true s e i = subst goal (sym (ap (same_part w.part) p ∙ s)) (ap (λ t. cond t (Some (spent v)) (find_var ws (variable x))) (ap (λ q. same_part q (variable x)) p ∙ same_part_refl (variable x)))
    go false s e i = subst goal (sym (ap (same_part w.part) p ∙ s)) (ap (λ t. cond t (Some w) (find_var (replace ws (spent v)) (variable x))) s ∙ i e)

-- the place of a live variable is none that is to come
pub all_below : (low : ℕ) (vs : List Var) → ((p : ℕ) → low ≤ p → owners p vs ≡ 0) → AllOf (λ v. v.consumed ≡ false → v.place < low) vs
all_below low [] h = tt
all_below low (v ∷ vs) h = (λ l. go l (cases_lt v.place low), all_below low vs (λ p le. let a = h p le in omega (arith, a)))
  where
    go : v.consumed ≡ false → (v.place < low) ⊎ (low ≤ v.place) → v.place < low
    go l (inl lt) = lt
    go l (inr le) =
        let a = h v.place le in
        let c : owns v.place v ≡ 1 = ap (λ t. cond t 0 (at_place v.place v.place)) l ∙ ap (λ t. cond t 1 0) (eq-eqb v.place v.place refl) in
        absurd (omega (arith, a, c))
