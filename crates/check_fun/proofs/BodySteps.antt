-- The statements of a body, of which the last may return.
use Rattle.std.proofs.Common.{◌≡◌, refl, ℕ, List, [], ◌∷◌, ◌++◌, ◌∙◌, sym, ap, subst}
use Rattle.std.specs.Prelude.{Option, Some, None, Result, Ok, Err, IfSome}
use Rattle.silq_tree.specs.declared.node.ExprId.{ExprId}
use Rattle.silq_tree.specs.declared.node.StmtId.{StmtId}
use Rattle.silq_tree.specs.Syntax.{Expression, Statement, Statements, Block, block, assign, spread, update, forget, forget_value, phase, choice, loop, return_nothing, return_value, call, done, next}
use Rattle.silq_tree.specs.Standing.{statements_of}
use Rattle.silq_types.specs.Rules.{and_then}
use Rattle.silq_types.specs.declared.values.Value.{Value}
use Rattle.check_scope.specs.Walk.{Counts, Checker, with_counts}
use Rattle.check_scope.specs.Context.{Context, Scope, Check, ◌>>◌}
use Rattle.check_fun.specs.Counting.{Runs, Fails}
use Rattle.check_scope.specs.Faults.{fault_as}
use Rattle.check_scope.specs.State.{State, context_of}
use Rattle.check_fun.specs.Statement.{stmt, stmts, body}
use Rattle.check_scope.specs.declared.fault.CheckFault.{CheckFault}
use Rattle.check_fun.proofs.Counted.{runs_then, fails_then, fails_after}
use Rattle.check_scope.proofs.Readings.{with_counts-bind}

-- a statement that is not the last is walked as each other
body_more : (st other : Statement) (rest : Statements) (sc : Scope) → body (next st (next other rest)) sc ≡ (stmt st sc >> body (next other rest) sc)
body_more (assign p e s) other rest sc = refl
body_more (spread xs e s) other rest sc = refl
body_more (update p op e s) other rest sc = refl
body_more (forget x s) other rest sc = refl
body_more (forget_value x e s) other rest sc = refl
body_more (phase e s) other rest sc = refl
body_more (return_nothing s) other rest sc = refl
body_more (return_value e s) other rest sc = refl
body_more (call e s) other rest sc = refl
body_more (choice e b more s) other rest sc = refl
body_more (loop x low high b s) other rest sc = refl

joined : {A B C E : Type 0} (r : Result A E) (f : A → Result B E) (g : B → Result C E) (h : A → Result C E) → ((a : A) → h a ≡ and_then (f a) g) → and_then r h ≡ and_then (and_then r f) g
joined (Ok a) f g h e = e a
joined (Err x) f g h e = refl

module _ (check : Checker) (depth : ℕ) (at : ExprId → Expression) (stmt_of : StmtId → Statement) (last : StmtId) (sc : Scope) where
  body_more_ids : (b : StmtId) (bs : List StmtId) → body (statements_of at stmt_of (b ∷ (bs ++ last ∷ []))) sc ≡ (stmt (stmt_of b) sc >> body (statements_of at stmt_of (bs ++ last ∷ [])) sc)
  body_more_ids b [] = body_more (stmt_of b) (stmt_of last) done sc
  body_more_ids b (x ∷ xs) = body_more (stmt_of b) (stmt_of x) (statements_of at stmt_of (xs ++ last ∷ [])) sc

  body_split : (bs : List StmtId) (x : Context) (c : Counts) (h : ℕ) → with_counts check depth (body (statements_of at stmt_of (bs ++ last ∷ [])) sc x) c h ≡ and_then (with_counts check depth (stmts (statements_of at stmt_of bs) sc x) c h) (λ r. with_counts check depth (body (next (stmt_of last) done) sc r.0.1) r.1 r.2)
  unfolding ◌>>◌
  body_split [] x c h = refl
  body_split (b ∷ bs) x c h =
      ap (λ (m : Check (Option (List Value))). with_counts check depth (m x) c h) (body_more_ids b bs)
      ∙ with_counts-bind check depth (stmt (stmt_of b) sc x) (λ r. body (statements_of at stmt_of (bs ++ last ∷ [])) sc r.1) c h
      ∙ joined (with_counts check depth (stmt (stmt_of b) sc x) c h) (λ r. with_counts check depth (stmts (statements_of at stmt_of bs) sc r.0.1) r.1 r.2) (λ r. with_counts check depth (body (next (stmt_of last) done) sc r.0.1) r.1 r.2) _ (λ r. body_split bs r.0.1 r.1 r.2)
      ∙ ap (λ y. and_then y (λ r. with_counts check depth (body (next (stmt_of last) done) sc r.0.1) r.1 r.2)) (sym (with_counts-bind check depth (stmt (stmt_of b) sc x) (λ r. stmts (statements_of at stmt_of bs) sc r.1) c h))

  body_parts : (bs : List StmtId) (x : Context) (c : Counts) (h : ℕ) → with_counts check depth (body (statements_of at stmt_of (bs ++ last ∷ [])) sc x) c h ≡ with_counts check depth ((stmts (statements_of at stmt_of bs) sc >> body (next (stmt_of last) done) sc) x) c h
  unfolding ◌>>◌
  body_parts bs x c h = body_split bs x c h ∙ sym (with_counts-bind check depth (stmts (statements_of at stmt_of bs) sc x) (λ r. body (next (stmt_of last) done) sc r.1) c h)

fails_alike : {A : Type 0} (check : Checker) (m n : Check A) (old : State) (c : Counts) (f : CheckFault) → with_counts check old.depth (n (context_of old)) c old.height ≡ with_counts check old.depth (m (context_of old)) c old.height → Fails check m old c f → Fails check n old c f
fails_alike check m n old c f e r = record { runs = subst (λ w. IfSome (fault_as f) (λ first. w ≡ Err first)) (sym e) r.runs }

module _ (check : Checker) (at : ExprId → Expression) (stmt_of : StmtId → Statement) (before : List StmtId) (last : StmtId) (sc : Scope) (old : State) (c : Counts) where
  pub fails_body_before : (f : CheckFault) → Fails check (stmts (statements_of at stmt_of before) sc) old c f → Fails check (body (statements_of at stmt_of (before ++ last ∷ [])) sc) old c f
  fails_body_before f q = fails_alike check _ _ old c f (body_parts check old.depth at stmt_of last sc before (context_of old) c old.height) (fails_then check (stmts (statements_of at stmt_of before) sc) (body (next (stmt_of last) done) sc) old c f q)

  module _ (mid : State) (d : Counts) (q : Runs check (stmts (statements_of at stmt_of before) sc) old c tt mid d) where
    pub fails_body_last : (f : CheckFault) → Fails check (body (next (stmt_of last) done) sc) mid d f → Fails check (body (statements_of at stmt_of (before ++ last ∷ [])) sc) old c f
    fails_body_last f r = fails_alike check _ _ old c f (body_parts check old.depth at stmt_of last sc before (context_of old) c old.height) (fails_after check (stmts (statements_of at stmt_of before) sc) (body (next (stmt_of last) done) sc) old mid c d tt f q r)

    pub runs_body : (vs : Option (List Value)) (now : State) (e : Counts) → Runs check (body (next (stmt_of last) done) sc) mid d vs now e → Runs check (body (statements_of at stmt_of (before ++ last ∷ [])) sc) old c vs now e
    runs_body vs now e r =
        let whole = runs_then check (stmts (statements_of at stmt_of before) sc) (body (next (stmt_of last) done) sc) old mid now c d e tt vs q r in
        record { runs = body_parts check old.depth at stmt_of last sc before (context_of old) c old.height ∙ whole.runs; stays = whole.stays }
