-- Choices as statements: the walk of one, at run time and by a static value.
use Rattle.std.proofs.Common.{◌≡◌, ◌⊎◌, inl, inr, ℕ, ◌+◌, ◌≤◌, ◌<◌, Bool, true, false, cond, not, ◌&&◌, ◌||◌, List, [], ◌∷◌, ◌++◌, refl, sym, ap, ap₂, ◌∙◌, subst, arith}
use Rattle.std.specs.Prelude.{Option, Some, None, is_some}
use Rattle.silq_tree.specs.declared.node.NameId.{NameId}
use Rattle.silq_tree.specs.declared.node.Spot.{Spot}
use Rattle.silq_tree.specs.Syntax.{Expression, Statement, Statements, Otherwise, block, else_block, else_choice}
use Rattle.silq_tree.specs.Syntax as trees
use Rattle.static_num.specs.Static.{is_static, is_true}
use Rattle.silq_types.specs.declared.types.Ty.{Ty}
use Rattle.silq_types.specs.declared.signature.InstanceKey.{InstanceKey}
use Rattle.silq_types.specs.declared.signature.Signature.{Signature}
use Rattle.silq_types.specs.declared.values.Part.{Part}
use Rattle.silq_types.specs.declared.values.Value.{Value}
use Rattle.silq_types.specs.declared.values.Var.{Var}
use Rattle.silq_types.specs.Types.{at, is_bit}
use Rattle.silq_types.specs.declared.need.Need.TheVariants as needs
use Rattle.check_scope.specs.Walk.{Walk, answer, bind}
use Rattle.check_scope.specs.Context.{Scope, Context, Check, ◌>>=◌, ◌>>◌, of_result, find_var, variable}
use Rattle.check_scope.specs.Uses.{uses, parts_of}
use Rattle.check_expr.specs.Expression.{is_tuple, expr}
use Rattle.check_expr.specs.Owners.{handed, Gives, Ensures, Sole}
use Rattle.check_expr.proofs.Owners.{gives-bind, gives-more, o_bind, o_then, o_back, o_more, o_result, o_rules, o_variables, o_expr}
use Rattle.check_fun.specs.Statement as walks
use Rattle.silq_mean.specs.declared.receiver.Receiver.{Receiver}
use Rattle.silq_mean.specs.Effect.{Effect, ◌>>◌ as ◌▸◌}
use Rattle.silq_mean.specs.Effect as effects
use Rattle.silq_mean.specs.Written.{needed_at, value_of}
use Rattle.silq_mean.specs.Meaning as meanings
use Rattle.flat_form.specs.State.{Flattening}
use Rattle.flat_form.specs.Names.{AllOf}
use Rattle.flat_typed.specs.Places.{Places, is_part}
use Rattle.flat_typed.specs.Relation.{Outside}
use Rattle.flat_typed.specs.Done.{Begins, StmtBegins, StmtDone, ExprTells}
use Rattle.flat_typed.specs.Scopes.{as_meaning, NoStatics}
use Rattle.flat_typed.specs.Lemmas.{Callable, StmtFine, ExpressionIsFine}
use Rattle.flat_typed.specs.Settled.{Settled, Settles, Settling, FineStatement, FineStatements, FineOtherwise}
use Rattle.flat_typed.proofs.Ordered.{clash}
use Rattle.flat_typed.proofs.Scopes.{static_is}
use Rattle.flat_typed.proofs.Uses.{uses_kinds}
use Rattle.flat_typed.proofs.Tame.{AllLeft, FindLeft, find_left, kinds_left}
use Rattle.flat_typed.proofs.Leaving.{k_any}
use Rattle.flat_typed.proofs.Turns.{Does, gives_both, line_fine}
use Rattle.flat_typed.proofs.Reached.{Told, expression_tells, begins_expression, one_of, whole_left}
use Rattle.flat_typed.proofs.Blocks.{block_fine}
use Rattle.flat_typed.proofs.Joining.{no_parts}
use Rattle.flat_typed.proofs.Unchanged.{BranchLeft, branch_tells}
use Rattle.flat_typed.proofs.UpdateWalk.{truly}
use Rattle.flat_typed.proofs.SameEnds.{InBranch}
use Rattle.flat_typed.proofs.Choosing.{Conditioned}
use Rattle.flat_typed.proofs.Deciding.{settled_second}
use Rattle.flat_typed.proofs.Decided.{choice_done}

-- ---- what the walk of an expression leaves between two statements

left_placed : (n m : ℕ) (vs ws : List Var) → n ≤ m → AllLeft vs ws → AllOf (λ v. v.place < n) vs → AllOf (λ v. v.place < m) ws
left_placed n m [] [] le h a = tt
left_placed n m [] (w ∷ ws) le h a = absurd h
left_placed n m (v ∷ vs) [] le h a = absurd h
left_placed n m (v ∷ vs) (w ∷ ws) le h a = (let p = h.0.place in let l = a.0 in omega (arith, p, l, le), left_placed n m vs ws le h.1 a.1)

left_free : (sc : Scope) (vs ws : List Var) → AllLeft vs ws → NoStatics sc vs → NoStatics sc ws
left_free sc vs ws h free x e = go (find_var ws (variable x)) (subst (λ o. FindLeft o (find_var ws (variable x))) (free x e) (find_left vs ws (variable x) h))
  where
    go : (o : Option Var) → FindLeft None o → o ≡ None
    go None f = refl
    go (Some w) f = absurd f

pub settled_left : (sc : Scope) (c d : Context) → Settled sc c → AllLeft c.vars d.vars → Sole c.next (λ p. 0) d → Settled sc d
settled_left sc c d h l s = record {
  free = left_free sc c.vars d.vars l h.free;
  whole = whole_left c.vars d.vars l h.whole;
  placed = left_placed c.next d.next c.vars d.vars s.grown l h.placed;
  sole = record { grown = omega arith; one = s.one; ahead = s.ahead };
}

pub told_left : (sc : Scope) (e : Expression) (c d : Context) → AllOf (λ v. is_part v ≡ false) c.vars → Told sc needs.Held e c d → AllLeft c.vars d.vars
told_left sc e c d whole told = (told (λ p. []) (no_parts (λ p. []) c.vars c.vars whole)).1.0

-- ---- the condition

module _ (sc : Scope) (taker : Ty → Receiver) (e : Expression) (fine : ExpressionIsFine e) (c : Context) (settled : Settled sc c) where
  record Valued (vs : List Value) (d : Context) : Type 0 where
    pub tells : (out : Outside) (low : ℕ) (W : Places) (s : Flattening) → StmtBegins out sc low (λ p. 0) W c s → ExprTells out sc needs.Held [] (meanings.expr e (as_meaning taker sc) needs.Held) W [] (uses e sc c.vars needs.Held) c s vs d
    pub told : Told sc needs.Held e c d
    pub sole : Sole c.next (λ p. 0) d

  abbrev Tells : List Value → Context → Type 0
  Tells vs d =
      (out : Outside) (low : ℕ) (others : ℕ → ℕ) (W : Places) (under : List Value) (s : Flattening) → Begins out sc low others W under (uses e sc c.vars needs.Held) c s →
      ExprTells out sc needs.Held [] (meanings.expr e (as_meaning taker sc) needs.Held) W under (uses e sc c.vars needs.Held) c s vs d

  valued : is_tuple e ≡ false → Gives (Callable sc) (λ r. Valued r.0 r.1) (expr e sc needs.Held [] c)
  valued t =
      gives-more (Callable sc) 0 (λ r. Sole c.next (λ p. 0 + handed needs.Held p r.0) r.1 × (Told sc needs.Held e c r.1 × Tells r.0 r.1)) (λ r. Valued r.0 r.1) (expr e sc needs.Held [] c)
      (gives_both (Callable sc) (λ r. Sole c.next (λ p. 0 + handed needs.Held p r.0) r.1) (λ r. Told sc needs.Held e c r.1 × Tells r.0 r.1) (expr e sc needs.Held [] c)
      ((o_expr (Callable sc) c.next e (λ p. 0) sc (λ k s h. h.1) needs.Held []).runs c settled.sole)
      (gives_both (Callable sc) (λ r. Told sc needs.Held e c r.1) (λ r. Tells r.0 r.1) (expr e sc needs.Held [] c) (expression_tells e sc needs.Held [] c t settled.free) (fine sc taker needs.Held [] c t settled.free)))
      (λ r h. record {
        tells = λ out low W s b. h.1.1 out low (λ p. 0) W [] s (begins_expression out sc low W c s (uses e sc c.vars needs.Held) b);
        told = h.1.0;
        sole = record { grown = h.0.grown; one = λ p. let a = h.0.one p in omega (arith, a); ahead = λ p le. let a = h.0.ahead p le in omega (arith, a) };
      })

  valued_here : Ensures (Callable sc) (λ d. d ≡ c) (expr e sc needs.Held []) (λ vs d. is_tuple e ≡ false → Valued vs d)
  valued_here = go (is_tuple e) refl
    where
      go : (t : Bool) → is_tuple e ≡ t → Ensures (Callable sc) (λ d. d ≡ c) (expr e sc needs.Held []) (λ vs d. is_tuple e ≡ false → Valued vs d)
      go true t = o_more (Callable sc) 0 (k_any (Callable sc) 0 (expr e sc needs.Held [])) (λ vs d h z. clash (sym t ∙ z))
      go false t = record {
        runs = λ d q.
            subst (λ y. Gives (Callable sc) (λ r. is_tuple e ≡ false → Valued r.0 r.1) (expr e sc needs.Held [] y)) (sym q)
            (gives-more (Callable sc) 0 (λ r. Valued r.0 r.1) (λ r. is_tuple e ≡ false → Valued r.0 r.1) (expr e sc needs.Held [] c) (valued t) (λ r h z. h));
      }

  pub conditioned : Ensures (Callable sc) (λ d. d ≡ c) (walks.condition sc e) (λ ps d. Conditioned sc taker e c ps d)
  conditioned =
      o_bind (Callable sc) 0 valued_here (λ vs. o_bind (Callable sc) 0 (one_of (Callable sc) Valued e vs) (λ v.
      o_then (Callable sc) 0 (o_rules (Callable sc) 0 (at e) _) (λ u. o_bind (Callable sc) 0 (o_variables (Callable sc) 0) (λ vars.
      o_back (Callable sc) 0 (parts_of (uses e sc vars needs.Held)) (λ d h.
      let left = told_left sc e c d settled.whole h.1.1.1.told in
      record {
        value = v;
        tells = h.1.1.1.tells;
        told = h.1.1.1.told;
        bit = truly (is_bit v.ty.shape) h.1.0.0;
        parts = ap parts_of (uses_kinds e sc c.vars d.vars needs.Held (kinds_left c.vars d.vars left) ∙ ap (λ l. uses e sc l needs.Held) (sym h.0));
        settled = settled_left sc c d settled left h.1.1.1.sole;
        grown = h.1.1.1.sole.grown;
      })))))

-- ---- both branches

pub both_gives : (S : InstanceKey → Signature → Type 0) (first second : Check (Unit {0})) (c : Context) (P : Context → Type 0) (R : Context → Context → Type 0) (Q : Context → Type 0) → Gives S (λ r. P r.1) (first c) → ((d : Context) → P d → Gives S (λ r. R d r.1) (second (record d { vars = c.vars })))
    → ((d e : Context) → P d → R d e → Q (record e { vars = walks.joined d.vars e.vars })) → Gives S (λ r. Q r.1) (walks.both first second c)
unfolding ◌>>=◌ ◌>>◌
both_gives S first second c P R Q h k f =
    gives-bind S 0 (λ r. P r.1) (λ r. Q r.1) (first c) (λ r. bind (second (record r.1 { vars = c.vars })) (λ q. answer (tt, record q.1 { vars = walks.joined r.1.vars q.1.vars }))) h
    (λ r p. gives-bind S 0 (λ q. R r.1 q.1) (λ q. Q q.1) (second (record r.1 { vars = c.vars })) (λ q. answer (tt, record q.1 { vars = walks.joined r.1.vars q.1.vars })) (k r.1 p) (λ q x. f r.1 q.1 p x))

-- where a branch began with settled variables, the next begins so
pub settled_again : (sc : Scope) (Q : Context → Type 0) (m d : Context) → Settled sc m → BranchLeft (λ i. Q i × Settles sc m i) m d → Settled sc (record d { vars = m.vars })
settled_again sc Q m d h l = subst (λ (x : Context). Settled sc (record x { vars = m.vars })) (sym l.closed.left) (settled_second sc m l.inner h l.is.1.settled l.is.1.grown)

module _ (sc : Scope) (taker : Ty → Receiver) (e : Expression) (fine : ExpressionIsFine e) (c : Context) (settled : Settled sc c) (first second : List Part → Check (Unit {0})) (ea eb : Effect) (end other_end : Spot)
    (fine1 : (ps : List Part) (d : Context) → Settled (walks.under sc ps) d → StmtFine (walks.under sc ps) d (first ps) ea) (settles1 : (ps : List Part) → Settling (walks.under sc ps) (first ps))
    (fine2 : (ps : List Part) (d : Context) → Settled (walks.under sc ps) d → StmtFine (walks.under sc ps) d (second ps) eb) (settles2 : (ps : List Part) → Settling (walks.under sc ps) (second ps)) where
  abbrev its_effect : Effect
  its_effect = meanings.expr e (as_meaning taker sc) needs.Held ▸ effects.choice (meanings.in_block ea) (meanings.in_block eb)

  inner_settled : (ps : List Part) (d : Context) → Settled sc d → Settled (walks.under sc ps) d
  inner_settled ps d h = record { free = h.free; whole = h.whole; placed = h.placed; sole = h.sole }

  in_first : (ps : List Part) (m : Context) → Settled (walks.under sc ps) m → Gives (Callable sc) (λ r. BranchLeft (InBranch (walks.under sc ps) ea m) m r.1) (walks.branch (first ps) end m)
  in_first ps m h =
      branch_tells (Callable sc) (InBranch (walks.under sc ps) ea m) (first ps) end m
      (gives_both (Callable sc) (λ r. Does (walks.under sc ps) m ea r.1) (λ r. Settles (walks.under sc ps) m r.1) (first ps m) (fine1 ps m h) (settles1 ps m h))

  in_second : (ps : List Part) (m : Context) → Settled (walks.under sc ps) m → Gives (Callable sc) (λ r. BranchLeft (InBranch (walks.under sc ps) eb m) m r.1) (walks.branch (second ps) other_end m)
  in_second ps m h =
      branch_tells (Callable sc) (InBranch (walks.under sc ps) eb m) (second ps) other_end m
      (gives_both (Callable sc) (λ r. Does (walks.under sc ps) m eb r.1) (λ r. Settles (walks.under sc ps) m r.1) (second ps m) (fine2 ps m h) (settles2 ps m h))

  in_both : (ps : List Part) (m : Context) → Conditioned sc taker e c ps m → Gives (Callable sc) (λ r. Does sc c its_effect r.1) (walks.both (walks.branch (first ps) end) (walks.branch (second ps) other_end) m)
  in_both ps m k =
      both_gives (Callable sc) (walks.branch (first ps) end) (walks.branch (second ps) other_end) m
      (λ d. BranchLeft (InBranch (walks.under sc ps) ea m) m d)
      (λ d g. BranchLeft (InBranch (walks.under sc ps) eb (record d { vars = m.vars })) (record d { vars = m.vars }) g)
      (λ g. Does sc c its_effect g)
      (in_first ps m (inner_settled ps m k.settled))
      (λ d l. in_second ps (record d { vars = m.vars }) (settled_again (walks.under sc ps) (λ i. Does (walks.under sc ps) m ea i) m d (inner_settled ps m k.settled) l))
      (λ d g l r out low W s b. choice_done sc taker e c ps m k out low W s b ea d l eb g r)

  pub run_time_fine : StmtFine sc c (walks.condition sc e >>= (λ ps. walks.both (walks.branch (first ps) end) (walks.branch (second ps) other_end))) its_effect
  run_time_fine =
      (o_bind (Callable sc) 0 {P = λ d. d ≡ c} {Q = λ ps d. Conditioned sc taker e c ps d} {R = λ u d. Does sc c its_effect d} (conditioned sc taker e fine c settled) (λ ps. record { runs = λ d k. in_both ps d k })).runs c refl
