-- Forgetting a variable by a value, as a statement.
use Rattle.std.proofs.Common.{◌≡◌, ℕ, ◌≤◌, ◌<◌, Bool, true, false, cond, not, ◌||◌, List, [], ◌∷◌, ◌++◌, length, drop, reverse, refl, sym, ap, ap₂, ◌∙◌, subst, arith}
use Rattle.std.specs.Prelude.{Some, None}
use Rattle.silq_tree.specs.declared.node.NameId.{NameId}
use Rattle.silq_tree.specs.declared.node.Spot.{Spot}
use Rattle.silq_tree.specs.Syntax.{Expression, forget_value}
use Rattle.silq_types.specs.declared.types.Ty.{Ty}
use Rattle.silq_types.specs.declared.need.Need.TheVariants as needs
use Rattle.silq_types.specs.declared.values.Var.{Var}
use Rattle.check_scope.specs.declared.uses.Use.{Use}
use Rattle.check_scope.specs.Context.{Scope, Context, variable, find_var, replace}
use Rattle.check_scope.specs.Uses.{uses}
use Rattle.check_expr.proofs.Owners.{gives-more}
use Rattle.check_fun.specs.Statement.{forget_as}
use Rattle.silq_mean.specs.declared.receiver.Receiver.{Receiver}
use Rattle.silq_mean.specs.Env.{is_in_block, in_its_block, in_first_block, bound}
use Rattle.silq_mean.specs.Effect.{Effect, step, claim, end_compared, ◌>>◌}
use Rattle.silq_mean.specs.Meaning as meanings
use Rattle.flat_core.specs.declared.step.WireId.{WireId}
use Rattle.flat_core.specs.declared.step.End.TheVariants.{Zeroed}
use Rattle.bit_arith.specs.Built.{Built}
use Rattle.bit_arith.specs.Rows.{flip_each}
use Rattle.bit_arith.specs.Calls.{among}
use Rattle.flat_form.specs.declared.known.Known.TheVariants.{Shown, Absent}
use Rattle.flat_form.specs.State.{Flattening, last, drop_last, first, wires_so_far, operands_of, typed_like, wires_in, are_wires}
use Rattle.flat_form.specs.Flat.{flat, end_all, bind, known_in, without_name, zero_variable}
use Rattle.flat_form.specs.Fine.{MayChange, MayClaim, IsOf}
use Rattle.flat_form.specs.Good.{Good}
use Rattle.flat_form.specs.Names.{AllOf, names}
use Rattle.flat_form.proofs.Goods.{good_flat}
use Rattle.flat_typed.specs.Places.{Places, is_part, is_shared, has_wires, part_out, bits_for, times_in, owners_of}
use Rattle.flat_typed.specs.Footprint.{used_wires, consumed_wires, NoneNames, Touches, StaysPlain, Unmade}
use Rattle.flat_typed.specs.Relation.{Outside, Stands, FitsPart, IsAnswer}
use Rattle.flat_typed.specs.Done.{outer_names, Leaves, ExprDone, StmtBegins, StmtDone, MadeSince, carrying, changeable}
use Rattle.flat_typed.specs.Scopes.{as_meaning}
use Rattle.flat_typed.specs.Uses.{IsThere}
use Rattle.flat_typed.specs.Lemmas.{Callable, ExpressionIsFine, StatementIsFine}
use Rattle.flat_typed.proofs.Ordered.{clash, reach_in_order}
use Rattle.flat_typed.proofs.Parts.{there_entry, found_there}
use Rattle.flat_typed.proofs.Binding.{none_out}
use Rattle.flat_typed.proofs.Moving.{spent, holders_spent, owns_all, all_replaced, all_more, found_all}
use Rattle.flat_typed.proofs.Using.{leaves_names}
use Rattle.flat_typed.proofs.Growing.{touches_then}
use Rattle.flat_typed.proofs.Footprints.{operands_apart, consumed_may_change}
use Rattle.flat_typed.proofs.Forgetting.{stands_at}
use Rattle.flat_typed.proofs.Uses.{NotOf, uses_not_of}
use Rattle.flat_typed.proofs.Tame.{AllLeft}
use Rattle.flat_typed.proofs.Turns.{Does, line_fine}
use Rattle.flat_typed.proofs.Reached.{whole_left, made_left, consumed_touches}
use Rattle.flat_typed.proofs.Ending.{Zeroes, flipped_zeroes, stands_ended}
use Rattle.flat_typed.proofs.Changing.{same_shape, takes_shape, still_there, use_of, apart_consume, apart_hold, var_there, shows_bits, good_bits, var_may_change, use_consumes}
use Rattle.flat_typed.proofs.Claims.{Claimed, claimed, OneAnswer, one_answer, its_twice, found_spent, all_below}

module _ (x : NameId) (e : Expression) (sc : Scope) (taker : Ty → Receiver) (c d : Context) (k : Claimed sc taker x e c d) (out : Outside) (low : ℕ) (W : Places) (st : Flattening) (b : StmtBegins out sc low (λ p. 0) W c st) where
  abbrev E0 : Effect
  E0 = meanings.expr e (as_meaning taker sc) needs.Held

  abbrev us : List Use
  us = uses e sc c.vars needs.Held

  abbrev v : Var
  v = k.owner

  abbrev mid : Context
  mid = k.middle

  h : ExprDone out sc needs.Held E0 W [] us c st (k.value ∷ []) mid
  h = k.reached.does out low W st b

  abbrev U : Places
  U = h.after

  abbrev s1 : Flattening
  s1 = flat E0 st

  told : AllOf (IsThere sc.held c.vars) us × (AllLeft c.vars mid.vars × AllOf (FitsPart W mid.vars) mid.vars)
  told = k.reached.told W b.stands.parts

  good1 : Good s1
  good1 = good_flat E0 st b.good h.fine

  answer : OneAnswer (IsAnswer U needs.Held (used_wires W c.vars us) (consumed_wires W c.vars us) (wires_so_far st) c.next) k.value h.answers
  answer = one_answer (IsAnswer U needs.Held (used_wires W c.vars us) (consumed_wires W c.vars us) (wires_so_far st) c.next) k.value h.answers h.each

  values1 : s1.values ≡ answer.known ∷ []
  values1 = h.values ∙ (ap (λ l. reverse l ++ st.values) answer.all ∙ ap (λ l. answer.known ∷ l) b.none)

  stands1 : Stands out sc.held U [] mid s1
  stands1 = subst (λ ks. Stands out sc.held U (carrying needs.Held (k.value ∷ []) ks ++ []) mid s1) answer.all h.stands

  whole1 : AllOf (λ u. is_part u ≡ false) mid.vars
  whole1 = whole_left c.vars mid.vars told.1.0 b.whole

  found1 : find_var mid.vars (variable x) ≡ Some v
  found1 = still_there c.vars mid.vars (variable x) v told.1.0 k.found k.live k.stays

  whole-v : is_part v ≡ false
  whole-v = found_all (λ u. is_part u ≡ false) c.vars (variable x) v k.found b.whole

  whole2 : AllOf (λ u. is_part u ≡ false) (replace mid.vars (spent v))
  whole2 = all_replaced (λ u. is_part u ≡ false) mid.vars (spent v) whole1 whole-v

  own : is_shared v ≡ false
  own = ap₂ (λ s t. s || t) k.quantum k.unheld

  has : has_wires v ≡ true
  has = ap₂ (λ s t. not (s || t)) (ap₂ (λ s t. s || t) k.live whole-v) own

  out0 : part_out c.vars v.part.name ≡ None
  out0 = none_out c.vars v.part.name b.whole

  out1 : part_out mid.vars v.part.name ≡ None
  out1 = none_out mid.vars v.part.name whole1

  fit1 : AllOf (FitsPart U (replace mid.vars (spent v))) (replace mid.vars (spent v))
  fit1 = all_more (λ u. is_part u ≡ false) (FitsPart U (replace mid.vars (spent v))) (replace mid.vars (spent v)) (λ u q t. clash (sym t ∙ q)) whole2

  its_wires : U v.place ≡ W v.place
  its_wires = h.agree v.place (found_all (λ u. u.consumed ≡ false → u.place < c.next) c.vars (variable x) v k.found (all_below c.next c.vars (λ p le. let a = b.sole.ahead p le in omega (arith, a))) k.live)

  -- what its use would consume
  consumes : (w : WireId) → among (wires_in (U v.place)) w ≡ true → consumed_wires W c.vars (use_of x ∷ []) w ≡ true
  consumes w a = use_consumes out sc.held W c st x v b.good b.stands k.found out0 k.live w ∙ (ap (λ l. among (wires_in l) w) (sym its_wires) ∙ a)

  there : AllOf (IsThere sc.held c.vars) (use_of x ∷ [])
  there = (var_there sc.held c.vars x v k.found k.live own k.loose b.whole, tt)

  nots : AllOf (NotOf x) us
  nots = uses_not_of x e sc c.vars needs.Held k.unnamed

  lower : NoneNames (among (wires_in (U v.place))) s1.values
  lower w a =
      subst (AllOf (λ l. names l w ≡ false)) (sym values1)
      (operands_apart out sc.held W [] c st us (use_of x ∷ []) answer.known b.stands told.0 there (apart_consume x us nots) (apart_hold x us nots) answer.is.within w (consumes w a), tt)

  change : MayChange (wires_in (U v.place)) s1 (without_name x s1)
  change = var_may_change out sc.held U mid s1 x v good1 stands1 found1 out1 k.live has k.loose fit1 lower

  bits1 : known_in s1 x ≡ Shown (bits_for U v)
  bits1 = shows_bits out sc.held U mid s1 x v good1 stands1 found1 out1 k.live

  operand : IsOf (λ w. w.shape ≡ v.ty.shape) (typed_like 0 (Shown (bits_for U v)) (last s1))
  operand = subst (λ l. IsOf (λ w. w.shape ≡ v.ty.shape) (typed_like 0 (Shown (bits_for U v)) (first l))) (sym values1) (takes_shape k.value.ty v.ty.shape answer.known answer.is.typed (same_shape v.ty.shape k.value.ty.shape k.shape))

  may : MayClaim x s1
  may =
      subst (IsOf (λ u. IsOf (λ w. w.shape ≡ u.shape) (typed_like 0 (Shown u) (last s1)) × (are_wires u.operands ≡ true) × MayChange (wires_in u.operands) s1 (without_name x s1))) (sym bits1)
      (operand, (good_bits out sc.held U mid s1 x v good1 stands1 found1 out1 k.live).wires refl, change)

  -- ---- the wires end

  abbrev zeroed : Built
  zeroed = end_all Zeroed (wires_in (U v.place)) (flip_each s1.setting (wires_in (U v.place)) (operands_of (typed_like 0 (Shown (bits_for U v)) (last s1))) s1.built)

  zeroes : Zeroes (U v.place) s1.built.draft zeroed.draft
  zeroes = flipped_zeroes s1.setting (U v.place) (operands_of (typed_like 0 (Shown (bits_for U v)) (last s1))) s1.built good1.fresh (λ w le. (stands1.free w (owner w le)).0)
    where
      owner : (w : WireId) → 1 ≤ times_in w (U v.place) → 1 ≤ owners_of U mid.vars [] w
      owner w le = let a = holders_spent U mid.vars w x v found1 in let o = owns_all U mid.vars w v out1 has k.live in omega (arith, a, o, le)

  abbrev left : Context
  left = record mid { vars = replace mid.vars (spent v) }

  abbrev ended : Flattening
  ended = record s1 { env = in_its_block s1.env x Absent; built = zeroed }

  stands2 : Stands out sc.held U [] left ended
  stands2 = stands_ended out sc.held U mid s1 x v zeroed stands1 found1 out1 has k.live zeroes fit1

  env3 : bound (in_its_block s1.env x Absent) x Absent ≡ in_its_block s1.env x Absent
  env3 =
      ap (λ t. cond t (in_its_block (in_its_block s1.env x Absent) x Absent) (in_first_block (in_its_block s1.env x Absent) x Absent))
      (reach_in_order (in_its_block s1.env x Absent) x ∙ (ap (λ l. is_in_block l x) stands2.env ∙ there_entry U left.vars left.vars x (spent v) (found_spent mid.vars x v found1 (found_there mid.vars x v found1))))
      ∙ its_twice s1.env x Absent

  abbrev final : Flattening
  final = record s1 { env = bound (in_its_block s1.env x Absent) x Absent; built = zeroed; values = drop 1 s1.values }

  becomes : (l : ℕ) → flat (E0 >> claim l x >> step (end_compared x)) st ≡ final
  becomes l = ap (λ q. drop_last (bind x Absent (without_name x (zero_variable q (last s1) s1)))) bits1

  touches : Touches (changeable out W c.vars []) st.built.draft zeroed.draft
  touches =
      touches_then (changeable out W c.vars []) (among (wires_in (U v.place))) st.built.draft s1.built.draft zeroed.draft
      (consumed_touches out sc low W c st us s1 b told.0 h.touches) zeroes.touches (λ w l f. off w f (among (wires_in (U v.place)) w) refl)
    where
      off : (w : WireId) → changeable out W c.vars [] w ≡ false → (t : Bool) → among (wires_in (U v.place)) w ≡ t → t ≡ false
      off w f false q = refl
      off w f true q = clash (sym (consumed_may_change out sc.held W [] c st (use_of x ∷ []) b.stands there w (consumes w q)) ∙ f)

  pub compared : (l : ℕ) → StmtDone out sc (E0 >> claim l x >> step (end_compared x)) W c st d
  compared l = subst (StmtDone out sc (E0 >> claim l x >> step (end_compared x)) W c st) (sym k.left) (record {
    fine = ((h.fine, may), tt);
    after = U;
    agree = h.agree;
    stands = subst (Stands out sc.held U [] left) (sym (becomes l)) (stands_at out sc.held U [] left ended final env3 refl refl refl stands2);
    whole = whole2;
    made = all_replaced (MadeSince (wires_so_far st) c.next U) mid.vars (spent v) (made_left (wires_so_far st) c.next U c.vars mid.vars told.1.0 (λ p le. let a = b.sole.ahead p le in omega (arith, a))) (λ t. clash (sym t));
    none = ap (λ (u : Flattening). u.values) (becomes l) ∙ ap (drop 1) values1;
    leaves = subst (Leaves st) (sym (becomes l)) (record {
      setting = h.leaves.setting;
      callers = h.leaves.callers;
      blocks = ap length env3 ∙ ((leaves_names s1 x Absent Absent).blocks ∙ h.leaves.blocks);
      names = ap (λ env. outer_names env) env3 ∙ ((leaves_names s1 x Absent Absent).names ∙ h.leaves.names);
    });
    touches = subst (λ (u : Flattening). Touches (changeable out W c.vars []) st.built.draft u.built.draft) (sym (becomes l)) touches;
    plain = λ q. subst (λ (u : Flattening). StaysPlain st.built.draft u.built.draft) (sym (becomes l)) (λ w m. h.plain q w (zeroes.plain w m));
    unmade = subst (λ (u : Flattening). Unmade u.built.draft) (sym (becomes l)) (zeroes.unmade h.unmade);
  })

-- forgetting by a value is fine
pub forget_value_is_fine : (x : NameId) (e : Expression) (s : Spot) → ExpressionIsFine e → StatementIsFine (forget_value x e s)
forget_value_is_fine x e s fine sc taker c free =
    line_fine sc c (forget_as sc x e s) (meanings.expr e (as_meaning taker sc) needs.Held >> claim s.line x >> step (end_compared x)) s.line
    (gives-more (Callable sc) 0 (λ r. Claimed sc taker x e c r.1) (λ r. Does sc c (meanings.expr e (as_meaning taker sc) needs.Held >> claim s.line x >> step (end_compared x)) r.1) (forget_as sc x e s c)
    ((claimed sc c x taker e s fine free).runs c refl) (λ r k out low W st b. compared x e sc taker c r.1 k out low W st b s.line))
