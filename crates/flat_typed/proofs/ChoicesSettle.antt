-- A choice, by a static value or at run time, settles where its branches do.
use Rattle.std.proofs.Common.{◌≡◌, ℕ, ◌+◌, ◌≤◌, ◌<◌, Bool, true, false, cond, List, [], ◌∷◌, length, take, refl, sym, ap, ◌∙◌, subst, arith}
use Rattle.silq_tree.specs.declared.node.Spot.{Spot}
use Rattle.silq_tree.specs.Syntax.{Expression, Statement, Statements, Otherwise, block, choice, else_block, else_choice}
use Rattle.static_num.specs.Static.{is_static, is_true}
use Rattle.silq_types.specs.declared.need.Need.TheVariants as needs
use Rattle.silq_types.specs.declared.values.Origin.{Origin}
use Rattle.silq_types.specs.declared.values.Origin.TheVariants.{Lifted, Linear, Classical, Held}
use Rattle.silq_types.specs.declared.values.Part.{Part}
use Rattle.silq_types.specs.declared.values.Value.{Value}
use Rattle.silq_types.specs.declared.values.Var.{Var}
use Rattle.silq_types.specs.Types.{at, is_linear, is_held}
use Rattle.silq_mean.specs.Written.{needed_at}
use Rattle.check_scope.specs.Context.{Scope, Context, Check, ◌>>=◌, of_result}
use Rattle.check_scope.specs.Uses.{uses, parts_of}
use Rattle.check_expr.specs.Expression.{expr}
use Rattle.check_expr.specs.Owners.{at_place, owns, owners, handed, Gives, Ensures, Sole}
use Rattle.check_expr.proofs.Owners.{gives-more, o_bind, o_then, o_from, o_back, o_result, o_rules, o_variables, o_expr}
use Rattle.check_fun.specs.Statement as walks
use Rattle.flat_typed.specs.Lemmas.{Callable}
use Rattle.flat_typed.specs.Settled.{Settled, StaysHeld, AllStay, Settles, Settling}
use Rattle.flat_typed.proofs.Ordered.{clash}
use Rattle.flat_typed.proofs.Leaving.{k_single}
use Rattle.flat_typed.proofs.Turns.{gives_both}
use Rattle.flat_typed.proofs.Unchanged.{BranchLeft, branch_tells}
use Rattle.flat_typed.proofs.Outer.{SameVar, AllSame, all_same}
use Rattle.flat_typed.proofs.Deciding.{settled_second}
use Rattle.flat_typed.proofs.Choices.{both_gives}
use Rattle.flat_typed.proofs.Kept.{Kept, AllKept, kept_then, kept_settles}
use Rattle.flat_typed.proofs.Settling.{stay_taken, block_settles}
use Rattle.flat_typed.proofs.SettledLaws.{counted_settles}
use Rattle.flat_typed.proofs.KeptWalks.{expr_keeps}

-- ---- what is kept owns no more

owns_fewer : (p : ℕ) (v w : Var) → Kept v w → owns p w ≤ owns p v
owns_fewer p v w k = go w.consumed refl
  where
    go : (t : Bool) → w.consumed ≡ t → owns p w ≤ owns p v
    go true e = let z : owns p w ≡ 0 = ap (λ b. cond b 0 (at_place p w.place)) e in omega (arith, z)
    go false e =
        let a : owns p w ≡ at_place p w.place = ap (λ b. cond b 0 (at_place p w.place)) e in
        let b : owns p v ≡ at_place p v.place = ap (λ t. cond t 0 (at_place p v.place)) (k.live e) in
        let c : at_place p w.place ≡ at_place p v.place = ap (at_place p) k.place in
        omega (arith, a, b, c)

owners_fewer : (p : ℕ) (vs ws : List Var) → AllKept vs ws → owners p ws ≤ owners p vs
owners_fewer p [] [] h = omega arith
owners_fewer p [] (w ∷ ws) h = absurd h
owners_fewer p (v ∷ vs) [] h = absurd h
owners_fewer p (v ∷ vs) (w ∷ ws) h = let a = owns_fewer p v w h.0 in let b = owners_fewer p vs ws h.1 in omega (arith, a, b)

pub kept_sole : (c d : Context) → Sole c.next (λ p. 0) c → AllKept c.vars d.vars → c.next ≤ d.next → Sole c.next (λ p. 0) d
kept_sole c d s k le = record {
  grown = le;
  one = λ p. let a = owners_fewer p c.vars d.vars k in let b = s.one p in omega (arith, a, b);
  ahead = λ p l. let a = owners_fewer p c.vars d.vars k in let b = s.ahead p (omega (arith, le, l)) in omega (arith, a, b);
}

-- ---- variables behind both branches

linear_unheld : (o : Origin) → is_linear o ≡ true → is_held o ≡ false
linear_unheld Lifted e = refl
linear_unheld Linear e = refl
linear_unheld Classical e = refl
linear_unheld Held e = clash (sym e)

one_joined : (v a b : Var) → SameVar v a → SameVar v b → StaysHeld v b → Kept v (cond (is_linear a.origin) (record b { origin = Linear }) b)
one_joined v a b h k s = go (is_linear a.origin) refl
  where
    go : (t : Bool) → is_linear a.origin ≡ t → Kept v (cond t (record b { origin = Linear }) b)
    go true e =
        let un : is_held v.origin ≡ false = sym h.held ∙ linear_unheld a.origin e in
        record { part = k.part; ty = k.ty; place = k.place; live = λ d. sym k.consumed ∙ d; held = sym un; same = λ x. clash (sym x ∙ un) }
    go false e = record { part = k.part; ty = k.ty; place = k.place; live = λ d. sym k.consumed ∙ d; held = k.held; same = s.same }

joined_kept : (vs one other : List Var) → AllSame vs one → AllSame vs other → AllStay vs other → AllKept vs (walks.joined one other)
joined_kept [] [] bs h k s = tt
joined_kept [] (a ∷ rest) bs h k s = absurd h
joined_kept (v ∷ vs) [] bs h k s = absurd h
joined_kept (v ∷ vs) (a ∷ rest) [] h k s = absurd k
joined_kept (v ∷ vs) (a ∷ rest) (b ∷ bs) h k s = (one_joined v a b h.0 k.0 s.0, joined_kept vs rest bs h.1 k.1 s.1)

-- ---- the condition

-- kept, and places go on counting
abbrev KeptOn : Context → Context → Type 0
KeptOn c d = AllKept c.vars d.vars × (c.next ≤ d.next)

value_on : (sc : Scope) (e : Expression) (c : Context) → Settled sc c → Gives (Callable sc) (λ r. KeptOn c r.1) (expr e sc needs.Held [] c)
value_on sc e c h =
    gives-more (Callable sc) 0 (λ r. AllKept c.vars r.1.vars × Sole c.next (λ p. 0 + handed needs.Held p r.0) r.1) (λ r. KeptOn c r.1) (expr e sc needs.Held [] c)
    (gives_both (Callable sc) (λ r. AllKept c.vars r.1.vars) (λ r. Sole c.next (λ p. 0 + handed needs.Held p r.0) r.1) (expr e sc needs.Held [] c)
    ((expr_keeps sc c e needs.Held []).runs c refl) ((o_expr (Callable sc) c.next e (λ p. 0) sc (λ k s x. x.1) needs.Held []).runs c h.sole))
    (λ r x. (x.0, x.1.grown))

condition_on : (sc : Scope) (e : Expression) (c : Context) → Settled sc c → Gives (Callable sc) (λ r. KeptOn c r.1) (walks.condition sc e c)
condition_on sc e c h =
    (o_bind (Callable sc) 0 {P = λ d. d ≡ c} {Q = λ vs d. KeptOn c d} {R = λ ps d. KeptOn c d} (record { runs = λ d q. subst (λ y. Gives (Callable sc) (λ r. KeptOn c r.1) (expr e sc needs.Held [] y)) (sym q) (value_on sc e c h) }) (λ vs.
    o_bind (Callable sc) 0 (o_from (Callable sc) 0 (λ d k z. k) (k_single (Callable sc) 0 (KeptOn c) e vs)) (λ v.
    o_then (Callable sc) 0 (o_rules (Callable sc) 0 (at e) _) (λ u. o_bind (Callable sc) 0 (o_variables (Callable sc) 0) (λ vars. o_back (Callable sc) 0 (parts_of (uses e sc vars needs.Held)) (λ d k. k.1.1)))))).runs c refl

-- ---- at run time

module _ (sc : Scope) (e : Expression) (first second : List Part → Check (Unit {0})) (end other_end : Spot) (settles1 : (ps : List Part) → Settling (walks.under sc ps) (first ps)) (settles2 : (ps : List Part) → Settling (walks.under sc ps) (second ps)) where
  inner_settled : (ps : List Part) (d : Context) → Settled sc d → Settled (walks.under sc ps) d
  inner_settled ps d h = record { free = h.free; whole = h.whole; placed = h.placed; sole = h.sole }

  abbrev Behind : List Part → Context → Context → Type 0
  Behind ps m d = BranchLeft (λ i. Settles (walks.under sc ps) m i) m d

  again : (ps : List Part) (m d : Context) → Settled (walks.under sc ps) m → Behind ps m d → Settled (walks.under sc ps) (record d { vars = m.vars })
  again ps m d h l = subst (λ (x : Context). Settled (walks.under sc ps) (record x { vars = m.vars })) (sym l.closed.left) (settled_second (walks.under sc ps) m l.inner h l.is.settled l.is.grown)

  same_behind : (ps : List Part) (m d : Context) → Settled (walks.under sc ps) m → Behind ps m d → AllSame m.vars d.vars
  same_behind ps m d h l = subst (λ (x : Context). AllSame m.vars x.vars) (sym l.closed.left) (all_same m l.inner l.inner.next l.is.there l.unchanged h.placed l.is.alive l.is.settled.sole)

  stays_behind : (ps : List Part) (m d : Context) → Behind ps m d → AllStay m.vars d.vars
  stays_behind ps m d l = subst (λ (x : Context). AllStay m.vars x.vars) (sym l.closed.left) (stay_taken m.vars l.inner.vars l.is.there)

  grown_behind : (ps : List Part) (m d : Context) → Behind ps m d → m.next ≤ d.next
  grown_behind ps m d l = let a = l.is.grown in let b : d.next ≡ l.inner.next = ap (λ (x : Context). x.next) l.closed.left in omega (arith, a, b)

  both_on : (ps : List Part) (m : Context) → Settled (walks.under sc ps) m → Gives (Callable sc) (λ r. KeptOn m r.1) (walks.both (walks.branch (first ps) end) (walks.branch (second ps) other_end) m)
  both_on ps m h =
      both_gives (Callable sc) (walks.branch (first ps) end) (walks.branch (second ps) other_end) m
      (λ d. Behind ps m d) (λ d g. Behind ps (record d { vars = m.vars }) g) (λ g. KeptOn m g)
      (branch_tells (Callable sc) (λ i. Settles (walks.under sc ps) m i) (first ps) end m (settles1 ps m h))
      (λ d l. branch_tells (Callable sc) (λ i. Settles (walks.under sc ps) (record d { vars = m.vars }) i) (second ps) other_end (record d { vars = m.vars }) (settles2 ps (record d { vars = m.vars }) (again ps m d h l)))
      (λ d g l r.
      let a = grown_behind ps m d l in
      let b = grown_behind ps (record d { vars = m.vars }) g r in
      (joined_kept m.vars d.vars g.vars (same_behind ps m d h l) (same_behind ps (record d { vars = m.vars }) g (again ps m d h l) r) (stays_behind ps (record d { vars = m.vars }) g r), omega (arith, a, b)))

  run_time_settles : Settling sc (walks.condition sc e >>= (λ ps. walks.both (walks.branch (first ps) end) (walks.branch (second ps) other_end)))
  run_time_settles c h =
      (o_bind (Callable sc) 0 {P = λ d. d ≡ c} {Q = λ ps d. KeptOn c d} {R = λ u d. Settles sc c d} (record { runs = λ d q. subst (λ y. Gives (Callable sc) (λ r. KeptOn c r.1) (walks.condition sc e y)) (sym q) (condition_on sc e c h) }) (λ ps.
      record {
        runs = λ m k. gives-more (Callable sc) 0 (λ r. KeptOn m r.1) (λ r. Settles sc c r.1) (walks.both (walks.branch (first ps) end) (walks.branch (second ps) other_end) m)
            (both_on ps m (inner_settled ps m (kept_settles sc c m h k.0 (kept_sole c m h.sole k.0 k.1)).settled))
            (λ r x.
            let le = k.1 in
            let more = x.1 in
            let kept = kept_then c.vars m.vars r.1.vars k.0 x.0 in
            kept_settles sc c r.1 h kept (kept_sole c r.1 h.sole kept (omega (arith, le, more))));
      })).runs c refl

-- ---- by a static value

static_settles : (sc : Scope) (e : Expression) (first second : Check (Unit {0})) → Settling sc first → Settling sc second → Settling sc (of_result (needed_at sc.statics e (at e)) >>= (λ z. walks.chosen z first second))
static_settles sc e first second a b c h =
    (o_bind (Callable sc) 0 {P = λ d. d ≡ c} {R = λ u d. Settles sc c d} (o_result (Callable sc) 0 (needed_at sc.statics e (at e))) (λ z.
    record { runs = λ d q. subst (λ y. Gives (Callable sc) (λ r. Settles sc c r.1) (cond (is_true z) first second y)) (sym q.1) (either (is_true z)) })).runs c refl
  where
    either : (t : Bool) → Gives (Callable sc) (λ r. Settles sc c r.1) (cond t first second c)
    either true = a c h
    either false = b c h

-- ---- the whole

either_settles : (sc : Scope) (t : Bool) (m n : Check (Unit {0})) → Settling sc m → Settling sc n → Settling sc (cond t m n)
either_settles sc true m n a b = a
either_settles sc false m n a b = b

choice_so : (e : Expression) (ss : Statements) (end : Spot) (second : Scope → Check (Unit {0})) (other_end : Spot) → ((sc : Scope) → Settling sc (walks.stmts ss sc)) → ((sc : Scope) → Settling sc (second sc)) → (sc : Scope)
    → Settling sc (cond (is_static sc.statics e) (of_result (needed_at sc.statics e (at e)) >>= (λ z. walks.chosen z (walks.plain_block (walks.stmts ss sc) end) (walks.plain_block (second sc) other_end)))
    (walks.condition sc e >>= (λ ps. walks.both (walks.branch (walks.stmts ss (walks.under sc ps)) end) (walks.branch (second (walks.under sc ps)) other_end))))
choice_so e ss end second other_end a b sc =
    either_settles sc (is_static sc.statics e) _ _
    (static_settles sc e (walks.plain_block (walks.stmts ss sc) end) (walks.plain_block (second sc) other_end) (block_settles sc (walks.stmts ss sc) end (a sc)) (block_settles sc (second sc) other_end (b sc)))
    (run_time_settles sc e (λ ps. walks.stmts ss (walks.under sc ps)) (λ ps. second (walks.under sc ps)) end other_end (λ ps. a (walks.under sc ps)) (λ ps. b (walks.under sc ps)))

pub choice_settles : (e : Expression) (ss : Statements) (end : Spot) (other : Otherwise) (s : Spot) → ((sc : Scope) → Settling sc (walks.stmts ss sc)) → ((sc : Scope) → Settling sc (walks.otherwise other sc)) → (sc : Scope) → Settling sc (walks.stmt (choice e (block ss end) other s) sc)
choice_settles e ss end (else_block (block rest other_end)) s a b sc = counted_settles sc _ (choice_so e ss end (walks.stmts rest) other_end a b sc)
choice_settles e ss end (else_choice st) s a b sc = counted_settles sc _ (choice_so e ss end (walks.stmt st) (walks.choice_end st) a b sc)
