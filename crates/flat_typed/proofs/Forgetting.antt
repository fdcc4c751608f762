-- A variable that is forgotten by itself, as a statement: the first whole case of the lemma on statements.
use Rattle.std.proofs.Common.{◌≡◌, ◌⊎◌, inl, inr, ℕ, ◌≤◌, ◌<◌, Bool, true, false, cond, not, ◌||◌, List, [], ◌∷◌, length, map, drop, refl, sym, ap, ◌∙◌, subst, arith}
use Rattle.std.specs.Prelude.{Option, Some, None}
use Rattle.std.proofs.lemmas.Bool.{eq-eqb, cases_lt}
use Rattle.silq_tree.specs.declared.node.NameId.{NameId}
use Rattle.silq_tree.specs.declared.node.Spot.{Spot}
use Rattle.silq_tree.specs.Syntax.{forget, whole, none}
use Rattle.silq_types.specs.declared.types.Ty.{Ty}
use Rattle.silq_types.specs.declared.signature.InstanceKey.{InstanceKey}
use Rattle.silq_types.specs.declared.signature.Signature.{Signature}
use Rattle.silq_types.specs.declared.values.Origin.{Origin}
use Rattle.silq_types.specs.declared.values.Origin.TheVariants.{Held, Lifted, Linear, Classical}
use Rattle.silq_types.specs.declared.values.Part.{Part}
use Rattle.silq_types.specs.declared.values.Value.{Value}
use Rattle.silq_types.specs.declared.values.Var.{Var}
use Rattle.silq_types.specs.Types.{is_linear}
use Rattle.silq_types.specs.Rules.{not_droppable}
use Rattle.check_scope.specs.Context.{Scope, Context, variable, part_at, part_type, find_var, replace, indices}
use Rattle.check_expr.specs.Owners.{at_place, owns, owners, Ensures}
use Rattle.check_expr.proofs.Owners.{gives-more, o_bind, o_then, o_from, o_back, o_fail, o_rules, o_variables, o_all_needed}
use Rattle.check_fun.specs.Statement.{Target, target, target_of, target_type, is_droppable, stmt}
use Rattle.silq_mean.specs.Env.{in_its_block, bound, in_first_block, is_in_block}
use Rattle.silq_mean.specs.Effect.{Effect, statement, step, end_name}
use Rattle.flat_core.specs.Form.{DraftForm}
use Rattle.flat_core.specs.Label.{wire_in}
use Rattle.bit_arith.specs.Calls.{IsTarget}
use Rattle.flat_form.specs.declared.known.Known.{Known}
use Rattle.flat_form.specs.declared.known.Known.TheVariants.{Absent}
use Rattle.flat_form.specs.State.{Flattening, wires_so_far}
use Rattle.flat_form.specs.Flat.{flat}
use Rattle.flat_form.specs.Names.{AllOf, CallerOf, names}
use Rattle.flat_typed.specs.Places.{Places, is_part, is_shared, has_wires, in_order}
use Rattle.flat_typed.specs.Footprint.{Owed}
use Rattle.flat_typed.specs.Relation.{Outside, Stands, Guards, FitsPart}
use Rattle.flat_typed.specs.Done.{StmtBegins, StmtDone, MadeSince, changeable}
use Rattle.flat_typed.specs.Lemmas.{Callable, StatementIsFine}
use Rattle.flat_typed.proofs.Ordered.{clash, reach_in_order}
use Rattle.flat_typed.proofs.Parts.{there_entry}
use Rattle.flat_typed.proofs.Moving.{spent, stands_dropped, all_replaced, all_more, found_all}
use Rattle.flat_typed.proofs.Using.{touches_none, env_names, drop_map, length_map}

-- ---- what the walk tells

not_linear : (o : Origin) → not (is_droppable o) ≡ false → is_linear o ≡ false
not_linear Held e = refl
not_linear Lifted e = refl
not_linear Classical e = refl
not_linear Linear e = clash e

-- the variable of this name, which is not Linear, is consumed
pub record Ended (c : Context) (x : NameId) (d : Context) : Type 0 where
  pub owner : Var
  pub found : find_var c.vars (variable x) ≡ Some owner
  pub live : owner.consumed ≡ false
  pub dropped : is_linear owner.origin ≡ false
  pub left : d ≡ record c { vars = replace c.vars (spent owner) }

module _ (S : InstanceKey → Signature → Type 0) (low : ℕ) (c : Context) (x : NameId) where
  abbrev Hit : Target → Context → Type 0
  Hit t d = ((find_var c.vars (variable x) ≡ Some t.owner) × (t.owner.consumed ≡ false)) × (d ≡ c)

  hit_type : (s : Spot) (p : Part) (v : Var) (o : Option Ty) → find_var c.vars (variable x) ≡ Some v → Ensures S (λ d. (v.consumed ≡ false) × (d ≡ c)) (target_type s p v o) Hit
  hit_type s p v None e = o_fail S low _
  hit_type s p v (Some t) e = o_back S low _ (λ d h. ((e, h.0), h.1))

  hit_of : (s : Spot) (other : ℕ) (p : Part) (o : Option Var) → find_var c.vars (variable x) ≡ o → Ensures S (λ d. d ≡ c) (target_of s other p o) Hit
  hit_of s other p None e = o_fail S low _
  hit_of s other p (Some v) e = o_then S low (o_rules S low s _) (λ u. o_from S low (λ d h. (h.0.0, h.1)) (hit_type s p v (part_type v.ty.classical v.ty.shape (indices p)) e))

  hit : (sc : Scope) (s : Spot) (other : ℕ) → Ensures S (λ d. d ≡ c) (target sc (whole x) s other) Hit
  hit sc s other =
      o_bind S low (o_all_needed S low none sc) (λ values. o_bind S low (o_variables S low) (λ vars. o_then S low (o_rules S low s _) (λ u.
      record { runs = λ d h. (hit_of s other (part_at x values) (find_var vars (variable x)) (ap (λ (b : Context). find_var b.vars (variable x)) (sym h.1.1) ∙ ap (λ l. find_var l (variable x)) (sym h.1.0))).runs d h.1.1 })))

  pub ended : (sc : Scope) (s : Spot) → Ensures S (λ d. d ≡ c) (stmt (forget x s) sc) (λ u. Ended c x)
  ended sc s =
      o_then S low {Q = λ u d. d ≡ c} (record { runs = λ d h. h }) (λ u. o_bind S low (hit sc s not_droppable) (λ t. o_then S low (o_rules S low s _) (λ u.
      record {
        runs = λ d h. record {
          owner = t.owner;
          found = h.1.0.0;
          live = h.1.0.1;
          dropped = not_linear t.owner.origin h.0.1.1.0;
          left = ap (λ (b : Context). record b { vars = replace b.vars (spent t.owner) }) h.1.1;
        };
      })))

-- ---- the same state but for the line and the count

pub stands_at : (out : Outside) (held : List (List Part)) (W : Places) (under : List Value) (c : Context) (s u : Flattening) → u.env ≡ s.env → u.built.draft ≡ s.built.draft → u.setting.condition ≡ s.setting.condition → u.callers ≡ s.callers → Stands out held W under c s → Stands out held W under c u
stands_at out held W under c s u e d k l r = record {
  env = ap in_order e ∙ r.env;
  differ = r.differ;
  parts = r.parts;
  one = r.one;
  free = λ w le. subst (λ b. IsTarget b w) (sym d) (r.free w le);
  untold = λ w le. ap (λ (b : DraftForm). (wire_in b.wires w).ending) d ∙ r.untold w le;
  shared = r.shared;
  callers = λ w le. subst (AllOf (CallerOf (λ k. names k w ≡ false))) (sym l) (r.callers w le);
  guards = subst (Guards out.guarded) (sym k) r.guards;
  below = λ w g. subst (λ (b : DraftForm). w.number < length b.wires) (sym d) (r.below w g);
  spares = r.spares;
  carried = r.carried;
  owed = λ w o. r.owed w (subst (λ b. Owed b w) d o);
}

-- ---- places of live variables

all_made : (n low : ℕ) (W : Places) (vs : List Var) → ((p : ℕ) → low ≤ p → owners p vs ≡ 0) → AllOf (MadeSince n low W) vs
all_made n low W [] h = tt
all_made n low W (v ∷ vs) h = (λ b. inl (below b (cases_lt v.place low)), all_made n low W vs (λ p le. let a = h p le in omega (arith, a)))
  where
    live : has_wires v ≡ true → v.consumed ≡ false
    live b = go v.consumed refl
      where
        go : (t : Bool) → v.consumed ≡ t → t ≡ false
        go false e = refl
        go true e = clash (sym b ∙ ap (λ t. not ((t || is_part v) || is_shared v)) e)

    below : has_wires v ≡ true → (v.place < low) ⊎ (low ≤ v.place) → v.place < low
    below b (inl lt) = lt
    below b (inr le) =
        let a = h v.place le in
        let c : owns v.place v ≡ 1 = ap (λ t. cond t 0 (at_place v.place v.place)) (live b) ∙ ap (λ t. cond t 1 0) (eq-eqb v.place v.place refl) in
        absurd (omega (arith, a, c))

-- ---- the law

module _ (out : Outside) (sc : Scope) (low : ℕ) (W : Places) (c : Context) (st : Flattening) (x : NameId) (s : Spot) where
  abbrev E : Effect
  E = statement s.line (step (end_name x))

  pub forgotten : (d : Context) → Ended c x d → StmtBegins out sc low (λ p. 0) W c st → StmtDone out sc E W c st d
  forgotten d h b = subst (StmtDone out sc E W c st) (sym h.left) (record {
    fine = tt;
    after = W;
    agree = λ p l. refl;
    stands = stands_at out sc.held W [] (record c { vars = replace c.vars (spent v) }) (record st { env = in_its_block st.env x Absent }) (flat E st) its refl refl refl
        (stands_dropped out sc.held W [] c st x v b.stands h.found h.dropped (all_more (λ u. is_part u ≡ false) (FitsPart W (replace c.vars (spent v))) (replace c.vars (spent v)) (λ u e t. clash (sym t ∙ e)) whole));
    whole = whole;
    made = all_replaced (MadeSince (wires_so_far st) c.next W) c.vars (spent v) (all_made (wires_so_far st) c.next W c.vars (λ p le. let a = b.sole.ahead p le in omega (arith, a))) (λ t. clash (sym t));
    none = b.none;
    leaves = record {
      setting = refl;
      callers = refl;
      blocks = ap length its ∙ (length_map (λ l. map (λ (p : NameId × Known). p.0) l) (in_its_block st.env x Absent) ∙ (ap length (env_names st.env x Absent) ∙ sym (length_map (λ l. map (λ (p : NameId × Known). p.0) l) st.env)));
      names = ap (λ e. map (λ l. map (λ (p : NameId × Known). p.0) l) (drop 1 e)) its ∙ (drop_map (λ l. map (λ (p : NameId × Known). p.0) l) (in_its_block st.env x Absent) ∙ (ap (λ m. drop 1 m) (env_names st.env x Absent) ∙ sym (drop_map (λ l. map (λ (p : NameId × Known). p.0) l) st.env)));
    };
    touches = touches_none (changeable out W c.vars []) st.built.draft;
    plain = λ q w m. m;
    unmade = b.unmade;
  })
    where
      v : Var
      v = h.owner

      its : bound st.env x Absent ≡ in_its_block st.env x Absent
      its = ap (λ t. cond t (in_its_block st.env x Absent) (in_first_block st.env x Absent)) (reach_in_order st.env x ∙ (ap (λ l. is_in_block l x) b.stands.env ∙ there_entry W c.vars c.vars x v h.found))

      whole : AllOf (λ u. is_part u ≡ false) (replace c.vars (spent v))
      whole = all_replaced (λ u. is_part u ≡ false) c.vars (spent v) b.whole (found_whole c.vars v h.found b.whole)
        where
          found_whole : (vs : List Var) (v : Var) → find_var vs (variable x) ≡ Some v → AllOf (λ u. is_part u ≡ false) vs → is_part v ≡ false
          found_whole vs v e a = found_all (λ u. is_part u ≡ false) vs (variable x) v e a

-- forgetting by itself is fine
pub forget_is_fine : (x : NameId) (s : Spot) → StatementIsFine (forget x s)
forget_is_fine x s sc taker c free =
    gives-more (Callable sc) 0 (λ r. Ended c x r.1) (λ r. (out : Outside) (low : ℕ) (W : Places) (st : Flattening) → StmtBegins out sc low (λ p. 0) W c st → StmtDone out sc (statement s.line (step (end_name x))) W c st r.1)
    (stmt (forget x s) sc c) ((ended (Callable sc) 0 c x sc s).runs c refl) (λ r h out low W st b. forgotten out sc low W c st x s r.1 h b)
