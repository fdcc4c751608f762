-- Assignments to names, as statements: what is left of a state where values were handed over.
use Rattle.std.proofs.Common.{◌≡◌, inl, inr, ℕ, ◌+◌, ◌≤◌, Bool, true, false, cond, List, [], ◌∷◌, length, refl, sym, ap, ap₂, ◌∙◌, subst, arith}
use Rattle.std.proofs.lemmas.List.{append-nil}
use Rattle.std.proofs.lemmas.Bool.{eq-eqb}
use Rattle.silq_tree.specs.declared.node.NameId.{NameId}
use Rattle.silq_types.specs.declared.values.Value.{Value}
use Rattle.silq_types.specs.declared.values.Var.{Var}
use Rattle.check_scope.specs.declared.uses.Use.{Use}
use Rattle.check_scope.specs.Context.{Scope, Context}
use Rattle.check_expr.specs.Owners.{at_place, owns, owners, owned, Sole}
use Rattle.check_fun.specs.Statement.{bind_names, overwrites_linear}
use Rattle.silq_mean.specs.Effect.{Effect}
use Rattle.flat_core.specs.declared.step.WireId.{WireId}
use Rattle.flat_form.specs.declared.known.Known.{Known}
use Rattle.flat_form.specs.State.{Flattening, wires_so_far, operands_of}
use Rattle.flat_form.specs.Flat.{flat, bind_all}
use Rattle.flat_form.specs.Fine.{Fine}
use Rattle.flat_form.specs.Names.{AllOf}
use Rattle.flat_form.specs.Shows.{ListBoth}
use Rattle.flat_typed.specs.Places.{Places, is_part, owners_of}
use Rattle.flat_typed.specs.Footprint.{used_wires, consumed_wires, Touches, StaysPlain, Unmade}
use Rattle.flat_typed.specs.Relation.{Outside, Stands, FitsPart, IsTakenOver}
use Rattle.flat_typed.specs.Done.{Leaves, StmtBegins, StmtDone, changeable}
use Rattle.flat_typed.specs.Calls.{carried, ArgsDone}
use Rattle.flat_typed.proofs.Ordered.{clash}
use Rattle.flat_typed.proofs.Moving.{all_more}
use Rattle.flat_typed.proofs.Agreeing.{SameFor, stands_agree}
use Rattle.flat_typed.proofs.Forgetting.{stands_at}
use Rattle.flat_typed.proofs.Turns.{sole_now}
use Rattle.flat_typed.proofs.Reached.{whole_left, made_left, consumed_touches}
use Rattle.flat_typed.proofs.Naming.{variables_for, IsNamed, SameNames, all_left, in_turn, all_whole, all_named}
use Rattle.flat_typed.proofs.Handing.{HandsOver, with_all, unowned_stays, each_shows, holders_agree, carriers_agree, carried_same, named_all, low_stays, both_long}

-- places of live variables are none of values under way
vars_stay : (U : Places) (vs : List Value) (ks : List Known) (vars : List Var) → ((p : ℕ) → owners p vars + owned p vs ≤ 1) → AllOf (SameFor (with_all U vs ks) U) vars
vars_stay U vs ks [] h = tt
vars_stay U vs ks (u ∷ us) h = (go u.consumed refl, vars_stay U vs ks us (λ p. let a = h p in omega (arith, a)))
  where
    go : (t : Bool) → u.consumed ≡ t → SameFor (with_all U vs ks) U u
    go true e = inl e
    go false e =
        let a = h u.place in
        let c : owns u.place u ≡ 1 = ap (λ t. cond t 0 (at_place u.place u.place)) e ∙ ap (λ t. cond t 1 0) (eq-eqb u.place u.place refl) in
        inr (unowned_stays U vs ks u.place (omega (arith, a, c)))

module _ (sc : Scope) (E0 : Effect) (us : List Use) (xs : List NameId) (c d : Context) (vs : List Value) (h : HandsOver sc E0 us (variables_for xs) c vs d) (out : Outside) (low : ℕ) (W : Places) (st : Flattening) (b : StmtBegins out sc low (λ p. 0) W c st) where
  abbrev pub handed_done : ArgsDone out sc (variables_for xs) E0 W [] us c st vs d
  handed_done = h.does out low W st b

  abbrev U : Places
  U = handed_done.after

  abbrev pub ks : List Known
  ks = handed_done.answers

  abbrev s1 : Flattening
  s1 = flat E0 st

  abbrev under : List Value
  under = carried (variables_for xs) vs

  abbrev V : Places
  V = with_all U vs ks

  soled : Sole c.next (λ p. owned p vs) d
  soled = h.sole (sole_now low c b.sole)

  shows : ListBoth (λ (v : Value) (k : Known). V v.place ≡ operands_of k) vs ks
  shows = each_shows U vs ks (both_long (IsTakenOver U (used_wires W c.vars us) (consumed_wires W c.vars us) (wires_so_far st) c.next) (variables_for xs) vs ks handed_done.each) (λ p. let a = soled.one p in omega (arith, a))

  same : AllOf (SameFor V U) d.vars
  same = vars_stay U vs ks d.vars soled.one

  under_same : AllOf (λ (v : Value). V v.place ≡ U v.place) under
  under_same = carried_same U (used_wires W c.vars us) (consumed_wires W c.vars us) (wires_so_far st) c.next d.vars (λ w. 0) V xs vs ks handed_done.each shows

  whole1 : AllOf (λ u. is_part u ≡ false) d.vars
  whole1 = whole_left c.vars d.vars (h.left W b.stands.parts) b.whole

  stands1 : Stands out sc.held V under d s1
  stands1 =
      stands_agree V out sc.held U under d s1 same under_same (all_more (λ u. is_part u ≡ false) (FitsPart V d.vars) d.vars (λ u e t. clash (sym t ∙ e)) whole1)
      (subst (λ l. Stands out sc.held U l d s1) (append-nil under) handed_done.stands)

  abbrev N : WireId → ℕ
  N w = owners_of V d.vars under w

  named : ListBoth (IsNamed (wires_so_far st) c.next V N) vs ks
  named =
      named_all U (used_wires W c.vars us) (consumed_wires W c.vars us) (wires_so_far st) c.next d.vars N V xs vs ks under handed_done.each shows (h.given out low W st b)
      (λ w. ap₂ (λ m n. m + n) (holders_agree V U d.vars d.vars w same) (carriers_agree V U w under under_same))

  abbrev pub final : Flattening
  final = record s1 { env = bind_all s1.env xs ks; values = [] }

  names_left : SameNames s1.env (bind_all s1.env xs ks)
  names_left = all_left s1.env xs ks (subst (λ n. 1 ≤ n) (sym handed_done.leaves.blocks) b.block)

  -- an effect that goes on from there, and binds the names
  pub assigned_done : (F : Effect) (g : Context) → Fine F st → flat F st ≡ final → length xs ≡ length vs → overwrites_linear d.vars xs vs ≡ false → g ≡ record d { vars = bind_names d.vars xs vs } → StmtDone out sc F W c st g
  assigned_done F g fine becomes len over left = subst (StmtDone out sc F W c st) (sym left) (record {
    fine = fine;
    after = V;
    agree = λ p l. low_stays U (used_wires W c.vars us) (consumed_wires W c.vars us) (wires_so_far st) c.next d.vars under xs vs ks handed_done.each (h.given out low W st b) p l ∙ handed_done.agree p l;
    stands = subst (Stands out sc.held V [] (record d { vars = bind_names d.vars xs vs })) (sym becomes)
        (stands_at out sc.held V [] (record d { vars = bind_names d.vars xs vs }) (record s1 { env = bind_all s1.env xs ks }) final refl refl refl refl
        (in_turn out sc.held V (wires_so_far st) c.next N xs vs ks d s1 len whole1 over named (λ w. omega arith) stands1));
    whole = all_whole out sc.held V (wires_so_far st) c.next N xs vs d.vars whole1;
    made = all_named out sc.held V (wires_so_far st) c.next N xs vs ks d.vars named (made_left (wires_so_far st) c.next V c.vars d.vars (h.left W b.stands.parts) (λ p le. let a = b.sole.ahead p le in omega (arith, a)));
    none = ap (λ (u : Flattening). u.values) becomes;
    leaves = subst (Leaves st) (sym becomes) (record {
      setting = handed_done.leaves.setting;
      callers = handed_done.leaves.callers;
      blocks = names_left.blocks ∙ handed_done.leaves.blocks;
      names = names_left.names ∙ handed_done.leaves.names;
    });
    touches = subst (λ (u : Flattening). Touches (changeable out W c.vars []) st.built.draft u.built.draft) (sym becomes) (consumed_touches out sc low W c st us s1 b (h.there W b.stands.parts) handed_done.touches);
    plain = λ q. subst (λ (u : Flattening). StaysPlain st.built.draft u.built.draft) (sym becomes) (handed_done.plain q);
    unmade = subst (λ (u : Flattening). Unmade u.built.draft) (sym becomes) handed_done.unmade;
  })
