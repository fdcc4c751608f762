-- An update of a variable or of a part of one, as a statement.
use Rattle.std.proofs.Common.{◌≡◌, ℕ, ◌≤◌, ◌<◌, Bool, true, false, not, ◌&&◌, ◌||◌, List, [], ◌∷◌, ◌++◌, length, drop, reverse, refl, sym, ap, ap₂, ◌∙◌, subst, arith}
use Rattle.std.specs.Prelude.{Some, None}
use Rattle.silq_tree.specs.declared.node.NameId.{NameId}
use Rattle.silq_tree.specs.declared.node.Spot.{Spot}
use Rattle.silq_tree.specs.declared.node.UpdateOp.{UpdateOp}
use Rattle.silq_tree.specs.declared.node.UpdateOp.TheVariants as updates
use Rattle.silq_tree.specs.Syntax.{Expression, Place, update}
use Rattle.silq_types.specs.declared.types.Shape.{Shape}
use Rattle.silq_types.specs.declared.types.Ty.{Ty}
use Rattle.silq_types.specs.declared.need.Need.TheVariants as needs
use Rattle.silq_types.specs.declared.values.Var.{Var}
use Rattle.silq_types.specs.Types.{is_number, place_name, place_indices}
use Rattle.check_scope.specs.declared.uses.Use.{Use}
use Rattle.check_scope.specs.Context.{Scope, Context, indices, variable, part_at, find_var}
use Rattle.check_scope.specs.Uses.{uses}
use Rattle.check_expr.proofs.Owners.{gives-more}
use Rattle.check_fun.specs.Statement.{needs_number, update_part}
use Rattle.silq_mean.specs.declared.receiver.Receiver.{Receiver}
use Rattle.silq_mean.specs.Effect.{Effect, step, update_to, ◌>>◌}
use Rattle.silq_mean.specs.Meaning as meanings
use Rattle.flat_core.specs.declared.step.WireId.{WireId}
use Rattle.bit_arith.specs.declared.operand.Operand.{Operand}
use Rattle.bit_arith.specs.Built.{Built, Setting}
use Rattle.bit_arith.specs.Calls.{Targets, among}
use Rattle.flat_form.specs.declared.known.Known.TheVariants.{Shown}
use Rattle.flat_form.specs.State.{Flattening, last, drop_last, first, wires_so_far, operands_of, typed_as, wires_in, part_of, part_shape}
use Rattle.flat_form.specs.Flat.{flat, known_in, update_by, update_variable}
use Rattle.flat_form.specs.Fine.{IsOf, IsUpdated, FitsIndex, UpdatesPart, MayUpdate}
use Rattle.flat_form.specs.Good.{Good}
use Rattle.flat_form.specs.Names.{AllOf, names}
use Rattle.flat_form.proofs.Goods.{good_flat}
use Rattle.flat_typed.specs.Places.{Places, is_part, is_shared, has_wires, part_out, bits_for}
use Rattle.flat_typed.specs.Footprint.{used_wires, consumed_wires, NoneNames, Touches, StaysPlain, Unmade}
use Rattle.flat_typed.specs.Relation.{Outside, Stands, FitsPart, IsAnswer}
use Rattle.flat_typed.specs.Done.{Leaves, ExprDone, StmtBegins, StmtDone, carrying, changeable}
use Rattle.flat_typed.specs.Scopes.{as_meaning}
use Rattle.flat_typed.specs.Uses.{IsThere}
use Rattle.flat_typed.specs.Lemmas.{Callable, ExpressionIsFine, StatementIsFine}
use Rattle.flat_typed.proofs.Ordered.{clash}
use Rattle.flat_typed.proofs.Binding.{none_out}
use Rattle.flat_typed.proofs.Moving.{found_all}
use Rattle.flat_typed.proofs.Growing.{stands_grown, touches_then}
use Rattle.flat_typed.proofs.Footprints.{operands_apart, consumed_may_change}
use Rattle.flat_typed.proofs.Forgetting.{stands_at}
use Rattle.flat_typed.proofs.There.{part_class}
use Rattle.flat_typed.proofs.Uses.{NotOf, name_of_part, uses_not_of}
use Rattle.flat_typed.proofs.Tame.{AllLeft}
use Rattle.flat_typed.proofs.Flipping.{Flips, flips_each, flips_add, flips_sub}
use Rattle.flat_typed.proofs.Touching.{flips_touch, flips_stay_plain, flips_plain, among_may}
use Rattle.flat_typed.proofs.Turns.{Does, line_fine}
use Rattle.flat_typed.proofs.Reached.{whole_left, made_left, consumed_touches}
use Rattle.flat_typed.proofs.Changing.{same_shape, takes_shape, still_there, shows_bits, good_bits}
use Rattle.flat_typed.proofs.Claims.{OneAnswer, one_answer, all_below}
use Rattle.flat_typed.proofs.Inside.{Inside, part_inside, exact_indices}
use Rattle.flat_typed.proofs.Updates.{use_at, part_consume, part_hold, part_there, part_may_change, part_consumes}
use Rattle.flat_typed.proofs.UpdateWalk.{Updated, updated, truly}

-- ---- rows

update_flips : (T : Targets) (n : ℕ) (op : UpdateOp) (at : Setting) (ws : List WireId) (qs : List Operand) (b : Built) → n ≤ length b.draft.wires → ((w : WireId) → among ws w ≡ true → T w ≡ true) → Flips T n b (update_by op at ws qs b)
update_flips T n updates.Add at ws qs b le h = flips_add T n at ws qs b le (among_may T n ws h)
update_flips T n updates.Sub at ws qs b le h = flips_sub T n at ws qs b le (among_may T n ws h)
update_flips T n updates.Xor at ws qs b le h = flips_each T n at ws qs b le (among_may T n ws h)

allowed : (op : UpdateOp) (s t : Shape) → (needs_number op && not (is_number t)) ≡ false → s ≡ t → IsUpdated op s
allowed updates.Xor s t h e = tt
allowed updates.Add s t h e = ap is_number e ∙ truly (is_number t) h
allowed updates.Sub s t h e = ap is_number e ∙ truly (is_number t) h

-- ---- the law

module _ (p : Place) (op : UpdateOp) (e : Expression) (sc : Scope) (taker : Ty → Receiver) (c d : Context) (k : Updated sc taker p op e c d) (out : Outside) (low : ℕ) (W : Places) (st : Flattening) (b : StmtBegins out sc low (λ p. 0) W c st) where
  abbrev x : NameId
  x = place_name p

  abbrev E0 : Effect
  E0 = meanings.expr e (as_meaning taker sc) needs.Held

  abbrev us : List Use
  us = uses e sc c.vars needs.Held

  abbrev v : Var
  v = k.owner

  h : ExprDone out sc needs.Held E0 W [] us c st (k.value ∷ []) d
  h = k.reached.does out low W st b

  abbrev U : Places
  U = h.after

  abbrev s1 : Flattening
  s1 = flat E0 st

  told : AllOf (IsThere sc.held c.vars) us × (AllLeft c.vars d.vars × AllOf (FitsPart W d.vars) d.vars)
  told = k.reached.told W b.stands.parts

  good1 : Good s1
  good1 = good_flat E0 st b.good h.fine

  answer : OneAnswer (IsAnswer U needs.Held (used_wires W c.vars us) (consumed_wires W c.vars us) (wires_so_far st) c.next) k.value h.answers
  answer = one_answer (IsAnswer U needs.Held (used_wires W c.vars us) (consumed_wires W c.vars us) (wires_so_far st) c.next) k.value h.answers h.each

  values1 : s1.values ≡ answer.known ∷ []
  values1 = h.values ∙ (ap (λ l. reverse l ++ st.values) answer.all ∙ ap (λ l. answer.known ∷ l) b.none)

  stands1 : Stands out sc.held U [] d s1
  stands1 = subst (λ ks. Stands out sc.held U (carrying needs.Held (k.value ∷ []) ks ++ []) d s1) answer.all h.stands

  whole1 : AllOf (λ u. is_part u ≡ false) d.vars
  whole1 = whole_left c.vars d.vars told.1.0 b.whole

  found1 : find_var d.vars (variable x) ≡ Some v
  found1 = still_there c.vars d.vars (variable x) v told.1.0 k.found k.live k.stays

  whole-v : is_part v ≡ false
  whole-v = found_all (λ u. is_part u ≡ false) c.vars (variable x) v k.found b.whole

  own : is_shared v ≡ false
  own = ap₂ (λ s t. s || t) (sym (part_class v.ty.classical v.ty.shape k.indices k.ty k.kind) ∙ k.quantum) k.unheld

  has : has_wires v ≡ true
  has = ap₂ (λ s t. not (s || t)) (ap₂ (λ s t. s || t) k.live whole-v) own

  out1 : part_out d.vars v.part.name ≡ None
  out1 = none_out d.vars v.part.name whole1

  its_wires : U v.place ≡ W v.place
  its_wires = h.agree v.place (found_all (λ u. u.consumed ≡ false → u.place < c.next) c.vars (variable x) v k.found (all_below c.next c.vars (λ q le. let a = b.sole.ahead q le in omega (arith, a))) k.live)

  exact : indices (part_at x k.indices) ≡ k.indices
  exact = exact_indices p x sc.statics k.indices k.mean

  inside : Inside v.ty.shape k.indices k.ty
  inside = part_inside v.ty.classical v.ty.shape k.indices k.ty k.kind

  abbrev ws : List WireId
  ws = wires_in (part_of v.ty.shape k.indices (U v.place))

  consumes : (w : WireId) → among ws w ≡ true → consumed_wires W c.vars (use_at (part_at x k.indices) ∷ []) w ≡ true
  consumes w a =
      part_consumes out sc.held W c st x v k.indices b.good b.stands k.found (none_out c.vars v.part.name b.whole) has k.live exact w
      ∙ (ap (λ l. among (wires_in (part_of v.ty.shape k.indices l)) w) (sym its_wires) ∙ a)

  there : AllOf (IsThere sc.held c.vars) (use_at (part_at x k.indices) ∷ [])
  there = (part_there sc.held c.vars x v k.indices k.ty k.found k.live own k.kind k.loose exact b.whole, tt)

  nots : AllOf (NotOf (part_at x k.indices).name) us
  nots = subst (λ n. AllOf (NotOf n) us) (sym (name_of_part x k.indices)) (uses_not_of x e sc c.vars needs.Held k.unnamed)

  lower : NoneNames (among ws) s1.values
  lower w a =
      subst (AllOf (λ l. names l w ≡ false)) (sym values1)
      (operands_apart out sc.held W [] c st us (use_at (part_at x k.indices) ∷ []) answer.known b.stands told.0 there (part_consume (part_at x k.indices) us nots) (part_hold (part_at x k.indices) us nots) answer.is.within w (consumes w a), tt)

  bits1 : known_in s1 x ≡ Shown (bits_for U v)
  bits1 = shows_bits out sc.held U d s1 x v good1 stands1 found1 out1 k.live

  changes_part : UpdatesPart x k.indices op s1 (bits_for U v)
  changes_part = record {
    operand =
        subst (λ l. IsOf (λ w. w.shape ≡ part_shape v.ty.shape k.indices) (typed_as 0 (part_shape v.ty.shape k.indices) (first l))) (sym values1)
        (takes_shape k.value.ty (part_shape v.ty.shape k.indices) answer.known answer.is.typed (inside.shape ∙ same_shape k.ty.shape k.value.ty.shape k.shape));
    allowed = allowed op (part_shape v.ty.shape k.indices) k.ty.shape k.number inside.shape;
    wires = (good_bits out sc.held U d s1 x v good1 stands1 found1 out1 k.live).wires refl;
    there = let z = (good_bits out sc.held U d s1 x v good1 stands1 found1 out1 k.live).size in let i = inside.ends in omega (arith, z, i);
    change = part_may_change out sc.held U d s1 x v k.indices good1 stands1 found1 out1 has k.live k.ty k.kind k.loose lower;
  }

  fits : FitsIndex k.indices (known_in s1 x)
  fits = subst (FitsIndex k.indices) (sym bits1) inside.fits

  may : MayUpdate x k.indices op s1
  may = subst (IsOf (UpdatesPart x k.indices op s1)) (sym bits1) changes_part

  -- ---- the row

  abbrev changed : Built
  changed = update_by op s1.setting ws (operands_of (typed_as 0 (part_shape v.ty.shape k.indices) (last s1))) s1.built

  flips : Flips (among ws) (wires_so_far s1) s1.built changed
  flips = update_flips (among ws) (wires_so_far s1) op s1.setting ws (operands_of (typed_as 0 (part_shape v.ty.shape k.indices) (last s1))) s1.built (omega arith) (λ w a. a)

  abbrev final : Flattening
  final = record s1 { built = changed; values = drop 1 s1.values }

  becomes : flat (E0 >> step (update_to x k.indices op)) st ≡ final
  becomes = ap (λ q. drop_last (update_variable q k.indices op (last s1) s1)) bits1

  touches : Touches (changeable out W c.vars []) st.built.draft changed.draft
  touches =
      touches_then (changeable out W c.vars []) (among ws) st.built.draft s1.built.draft changed.draft
      (consumed_touches out sc low W c st us s1 b told.0 h.touches) (flips_touch (among ws) s1.built changed flips) (λ w l f. off w f (among ws w) refl)
    where
      off : (w : WireId) → changeable out W c.vars [] w ≡ false → (t : Bool) → among (wires_in (part_of v.ty.shape k.indices (U v.place))) w ≡ t → t ≡ false
      off w f false q = refl
      off w f true q = clash (sym (consumed_may_change out sc.held W [] c st (use_at (part_at x k.indices) ∷ []) b.stands there w (consumes w q)) ∙ f)

  at_indices : StmtDone out sc (E0 >> step (update_to x k.indices op)) W c st d
  at_indices = record {
    fine = (h.fine, (may, fits));
    after = U;
    agree = h.agree;
    stands = subst (Stands out sc.held U [] d) (sym becomes)
        (stands_at out sc.held U [] d (record s1 { built = changed }) final refl refl refl refl (stands_grown out sc.held U [] d s1 changed (flips_plain (among ws) (wires_so_far s1) s1.built changed good1.fresh flips) stands1));
    whole = whole1;
    made = made_left (wires_so_far st) c.next U c.vars d.vars told.1.0 (λ q le. let a = b.sole.ahead q le in omega (arith, a));
    none = ap (λ (u : Flattening). u.values) becomes ∙ ap (drop 1) values1;
    leaves = subst (Leaves st) (sym becomes) (record { setting = h.leaves.setting; callers = h.leaves.callers; blocks = h.leaves.blocks; names = h.leaves.names });
    touches = subst (λ (u : Flattening). Touches (changeable out W c.vars []) st.built.draft u.built.draft) (sym becomes) touches;
    plain = λ q. subst (λ (u : Flattening). StaysPlain st.built.draft u.built.draft) (sym becomes) (λ w m. h.plain q w (flips_stay_plain (among ws) (wires_so_far s1) s1.built changed flips w m));
    unmade = subst (λ (u : Flattening). Unmade u.built.draft) (sym becomes) (λ w le. flips.measured w ∙ h.unmade w (let g = flips.few in omega (arith, g, le)));
  }

  pub update_done : StmtDone out sc (E0 >> step (update_to (place_name p) (meanings.static_values (place_indices p) sc.statics) op)) W c st d
  update_done = subst (λ zs. StmtDone out sc (E0 >> step (update_to x zs op)) W c st d) (sym k.mean) at_indices

-- updates are fine
pub update_is_fine : (p : Place) (op : UpdateOp) (e : Expression) (s : Spot) → ExpressionIsFine e → StatementIsFine (update p op e s)
update_is_fine p op e s fine sc taker c free =
    line_fine sc c (update_part sc p op e s) (meanings.expr e (as_meaning taker sc) needs.Held >> step (update_to (place_name p) (meanings.static_values (place_indices p) sc.statics) op)) s.line
    (gives-more (Callable sc) 0 (λ r. Updated sc taker p op e c r.1) (λ r. Does sc c (meanings.expr e (as_meaning taker sc) needs.Held >> step (update_to (place_name p) (meanings.static_values (place_indices p) sc.statics) op)) r.1) (update_part sc p op e s c)
    ((updated sc c p taker op e s fine free).runs c refl) (λ r k out low W st b. update_done p op e sc taker c r.1 k out low W st b))
