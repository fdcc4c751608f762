-- Names that take the values of one call over: each has wires of its own.
use Rattle.std.proofs.Common.{◌≡◌, ◌⊎◌, ℕ, suc, ◌+◌, ◌≤◌, ◌<◌, Bool, true, false, cond, not, ◌&&◌, ◌||◌, List, [], ◌∷◌, ◌++◌, length, drop, refl, sym, ap, ap₂, ◌∙◌, subst, arith}
use Rattle.std.specs.Prelude.{reverse, ⊤}
use Rattle.std.proofs.lemmas.List.{append-nil, length-reverse}
use Rattle.silq_tree.specs.declared.node.NameId.{NameId}
use Rattle.silq_tree.specs.declared.node.Spot.{Spot}
use Rattle.silq_tree.specs.Syntax.{Expression, Expressions, none, more, spread}
use Rattle.silq_types.specs.declared.types.Ty.{Ty}
use Rattle.silq_types.specs.declared.need.Need.TheVariants as needs
use Rattle.silq_types.specs.declared.values.Value.{Value}
use Rattle.silq_types.specs.Types.{is_linear}
use Rattle.check_scope.specs.declared.uses.Use.{Use}
use Rattle.check_scope.specs.Context.{Scope, Context}
use Rattle.check_scope.specs.Uses.{uses}
use Rattle.check_expr.specs.Expression.{is_tuple, expr}
use Rattle.check_expr.specs.Owners.{owned, handed, Sole}
use Rattle.check_expr.proofs.Owners.{sole-less}
use Rattle.silq_mean.specs.declared.receiver.Receiver.{Receiver}
use Rattle.silq_mean.specs.declared.receiver.Receiver.TheVariants.{Variable}
use Rattle.silq_mean.specs.Effect.{Effect, nothing, ◌>>◌ as ◌▸◌, step, receive}
use Rattle.silq_mean.specs.Meaning as meanings
use Rattle.flat_core.specs.declared.step.WireId.{WireId}
use Rattle.bit_arith.specs.declared.operand.Operand.{Operand}
use Rattle.bit_arith.specs.Built.{Given}
use Rattle.flat_form.specs.declared.known.TypedBits.{TypedBits}
use Rattle.flat_form.specs.declared.known.Known.{Known}
use Rattle.flat_form.specs.declared.known.Known.TheVariants.{Static, Shown, Lent, Absent}
use Rattle.flat_form.specs.State.{Flattening, first, drop_last, wires_so_far, wires_in, are_wires, are_new, as_they_are, copied, taken, kept}
use Rattle.flat_form.specs.Flat.{flat, give, receive_value}
use Rattle.flat_form.specs.Fine.{Fine, IsAny, IsTaken, IsOf}
use Rattle.flat_form.specs.Good.{Good, IsKnown}
use Rattle.flat_form.specs.Names.{AllOf}
use Rattle.flat_form.specs.Shows.{ListBoth}
use Rattle.flat_form.proofs.Goods.{good_flat}
use Rattle.flat_form.proofs.Both.{all_reverse}
use Rattle.flat_typed.specs.Places.{Places, carriers, owners_of}
use Rattle.flat_typed.specs.Footprint.{used_wires, consumed_wires, Touches, StaysPlain, Unmade}
use Rattle.flat_typed.specs.Relation.{Outside, Stands, IsAnswer, is_own}
use Rattle.flat_typed.specs.Scopes.{as_meaning}
use Rattle.flat_typed.specs.Done.{ExprTells, IsSharing, IsTyped, Leaves, StmtBegins, carrying, need_for}
use Rattle.flat_typed.specs.Calls.{Three, carried, ArgsDone}
use Rattle.flat_typed.specs.Lemmas.{Callable}
use Rattle.flat_typed.proofs.Ordered.{clash}
use Rattle.flat_typed.proofs.Reached.{begins_expression}
use Rattle.flat_typed.proofs.Naming.{variables_for}
use Rattle.flat_typed.proofs.Handing.{IsGiven, HandsOver}
use Rattle.flat_typed.proofs.OneArgument.{Walked}
use Rattle.flat_typed.proofs.SeveralValues.{stands_under, classical_carriers, carried_sum, ClassicalLifted, carried_linear, all_carried, Counts, each_counts, AllOwn, all_own, as_many, all_under_way, each_taken, each_apart, each_given}

-- ---- a value with wires of its own that a name takes over stays as it is

pub record StaysSo (e : Effect) (s : Flattening) : Type 0 where
  pub fine : Fine e s
  pub same : flat e s ≡ s

received_same : (s : Flattening) (u : TypedBits) (rest : List Known) → s.values ≡ Shown u ∷ rest → u.own ≡ true → are_wires u.operands ≡ true → StaysSo (step (receive Variable)) s
received_same s u rest values own wires = record {
  fine = subst IsAny (sym (ap first values)) tt;
  same = ap (λ k. receive_value Variable k (drop_last s)) (ap first values) ∙ (ap (λ (g : Given (List Operand)). give u.classical u.shape true u.began g (drop_last s)) (its u.classical) ∙ (ap again (sym own) ∙ ap (λ l. record s { values = l }) (ap (λ l. Shown u ∷ drop 1 l) values ∙ sym values)));
}
  where
    its : (t : Bool) → cond t (kept s.setting u s.built) (taken s.setting u s.built) ≡ as_they_are u.operands s.built
    its true = ap (λ t. cond t (as_they_are u.operands s.built) (copied s.setting u.operands s.built)) wires
    its false = ap (λ t. cond (t || are_new s.built.draft u.began u.operands) (as_they_are u.operands s.built) (copied s.setting u.operands s.built)) own

    again : Bool → Flattening
    again t = record s { values = Shown (record u { own = t }) ∷ drop 1 s.values }

-- names take the last value over, if there is one
names_stay : (xs : List NameId) (s : Flattening) → Good s → AllOf IsTaken s.values → length xs ≤ length s.values → StaysSo (meanings.taken_by (variables_for xs)) s
names_stay [] s good own le = record { fine = tt; same = refl }
names_stay (x ∷ xs) s good own le = go s.values refl own good.known.values le
  where
    go : (l : List Known) → s.values ≡ l → AllOf IsTaken l → AllOf (IsKnown (wires_so_far s)) l → length (x ∷ xs) ≤ length l → StaysSo (step (receive Variable)) s
    go [] e o k le = absurd (omega (arith, le))
    go (Static z ∷ ks) e o k le = absurd o.0
    go (Lent start size u ∷ ks) e o k le = absurd o.0
    go (Absent ∷ ks) e o k le = absurd o.0
    go (Shown u ∷ ks) e o k le = received_same s u ks e o.0 (k.0.wires o.0)

taken_known : (k : Known) → is_own k ≡ true → IsTaken k
taken_known (Static z) e = clash (sym e)
taken_known (Shown u) e = e
taken_known (Lent start size u) e = clash (sym e)
taken_known Absent e = clash (sym e)

all_taken_known : (ks : List Known) → AllOwn ks → AllOf IsTaken ks
all_taken_known [] h = tt
all_taken_known (k ∷ ks) h = (taken_known k h.0, all_taken_known ks h.1)

each_lifted : (low : ℕ) (M : WireId → ℕ) (vs : List Value) (ks : List Known) → ListBoth (IsSharing needs.Consumed low M) vs ks → AllOf ClassicalLifted vs
each_lifted low M [] ks h = tt
each_lifted low M (v ∷ vs) [] h = absurd h
each_lifted low M (v ∷ vs) (k ∷ ks) h = (λ q. h.0.lifted refl q, each_lifted low M vs ks h.1)

-- ---- what an expression hands over

module _ (sc : Scope) (taker : Ty → Receiver) (e : Expression) (xs : List NameId) (c d : Context) (vs : List Value) (w : Walked sc taker needs.Consumed e c vs d) (long : length xs ≡ length vs) (many : length vs ≡ 1 → ⊥) where
  abbrev E : Effect
  E = meanings.expr e (as_meaning taker sc) needs.Consumed

  abbrev pub handing : Effect
  handing = E ▸ meanings.taken_by (variables_for xs)

  abbrev us : List Use
  us = uses e sc c.vars needs.Consumed

  module _ (out : Outside) (low : ℕ) (W : Places) (st : Flattening) (b : StmtBegins out sc low (λ p. 0) W c st) where
    abbrev t : ExprTells out sc needs.Consumed [] E W [] us c st vs d
    t = w.tells out low (λ p. 0) W [] st (begins_expression out sc low W c st us b)

    abbrev U : Places
    U = t.done.after

    abbrev ks : List Known
    ks = t.done.answers

    abbrev s1 : Flattening
    s1 = flat E st

    as_long : length vs ≡ length ks
    as_long = as_many (IsAnswer U needs.Consumed (used_wires W c.vars us) (consumed_wires W c.vars us) (wires_so_far st) c.next) vs ks t.done.each

    own : AllOwn ks
    own = all_own ks (λ q. many (as_long ∙ q)) t.several

    values : s1.values ≡ reverse ks
    values = t.done.values ∙ (ap (λ l. reverse ks ++ l) b.none ∙ append-nil (reverse ks))

    stays : StaysSo (meanings.taken_by (variables_for xs)) s1
    stays =
        names_stay xs s1 (good_flat E st b.good t.done.fine) (subst (AllOf IsTaken) (sym values) (all_reverse IsTaken ks (all_taken_known ks own)))
        (let n = ap length values ∙ length-reverse ks in let m = as_long in omega (arith, n, m, long))

    stands : Stands out sc.held U vs d s1
    stands =
        subst (λ l. Stands out sc.held U l d s1) (append-nil vs)
        (subst (λ l. Stands out sc.held U (l ++ []) d s1) (all_under_way vs ks as_long own) t.done.stands)

    abbrev under : List Value
    under = carried (variables_for xs) vs

    N : WireId → ℕ
    N v = classical_carriers U v vs

    counts : AllOf (Counts U N) vs
    unfolding N
    counts = each_counts U vs

    alone : (v : WireId) → owners_of U d.vars under v + N v ≤ 1
    unfolding N
    alone v = let a = carried_sum U v xs vs long in let q = stands.one v in omega (arith, a, q)

    stands_carried : Stands out sc.held U (under ++ []) d s1
    stands_carried =
        subst (λ l. Stands out sc.held U l d s1) (sym (append-nil under))
        (stands_under out sc.held U under vs d s1 (λ v. let a = carried_sum U v xs vs long in omega (arith, a)) (λ v. carried_linear U v xs vs long (each_lifted c.next (λ v. owners_of U d.vars [] v) vs ks t.sharing))
        (all_carried (λ v. AllOf (λ y. out.guarded y ≡ false) (wires_in (U v.place))) xs vs stands.carried) stands)

    abbrev args_done : ArgsDone out sc (variables_for xs) (E ▸ meanings.taken_by (variables_for xs)) W [] us c st vs d
    args_done = record {
      fine = (t.done.fine, stays.fine);
      after = U;
      agree = t.done.agree;
      answers = ks;
      values = ap (λ (f : Flattening). f.values) stays.same ∙ t.done.values;
      each = each_taken U (used_wires W c.vars us) (consumed_wires W c.vars us) (wires_so_far st) c.next xs vs ks long t.done.each own (t.typed refl);
      apart = each_apart U (used_wires W c.vars us) (consumed_wires W c.vars us) (wires_so_far st) c.next N under (λ v. let a = alone v in omega (arith, a)) xs vs ks long t.done.each own counts;
      stands = subst (Stands out sc.held U (under ++ []) d) (sym stays.same) stands_carried;
      kinds_stay = t.done.kinds_stay;
      leaves = subst (Leaves st) (sym stays.same) t.done.leaves;
      touches = subst (λ (f : Flattening). Touches (consumed_wires W c.vars us) st.built.draft f.built.draft) (sym stays.same) t.done.touches;
      plain = λ q. subst (λ (f : Flattening). StaysPlain st.built.draft f.built.draft) (sym stays.same) (t.done.plain q);
      unmade = subst (λ (f : Flattening). Unmade f.built.draft) (sym stays.same) t.done.unmade;
    }

    given : ListBoth (IsGiven U c.next d.vars under) vs ks
    given = each_given U (used_wires W c.vars us) (consumed_wires W c.vars us) (wires_so_far st) c.next N d under (λ v. owners_of U d.vars [] v) alone vs ks t.done.each own counts t.sharing

  pub several_handed : HandsOver sc (meanings.expr e (as_meaning taker sc) needs.Consumed ▸ meanings.taken_by (variables_for xs)) (uses e sc c.vars needs.Consumed) (variables_for xs) c vs d
  several_handed = record {
    does = λ out low W st b. args_done out low W st b;
    given = λ out low W st b. given out low W st b;
    there = λ W fits. (w.told W fits).0;
    left = λ W fits. (w.told W fits).1.0;
    sole = λ s. sole-less (Callable sc) c.next (λ p. 0 + handed needs.Consumed p vs) (λ p. owned p vs) d (w.sole c.next (λ p. 0) s) (λ p. omega arith);
  }
