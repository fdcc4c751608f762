-- The condition of a choice at run time: what its walk tells, and where the first branch begins.
use Rattle.std.proofs.Common.{◌≡◌, ◌⊎◌, inl, inr, ℕ, ◌≤◌, ◌<◌, Bool, true, false, cond, not, ◌&&◌, ◌||◌, List, [], ◌∷◌, ◌++◌, length, reverse, refl, sym, ap, ap₂, ◌∙◌, subst, arith}
use Rattle.std.specs.Prelude.{Option, Some, None, drop}
use Rattle.std.specs.List.{list_any}
use Rattle.silq_tree.specs.Syntax.{Expression}
use Rattle.silq_types.specs.declared.types.Shape.{Shape}
use Rattle.silq_types.specs.declared.types.Shape.TheVariants.{Bit, UInt, Int, Array}
use Rattle.silq_types.specs.declared.types.Ty.{Ty}
use Rattle.silq_types.specs.declared.values.Part.{Part}
use Rattle.silq_types.specs.declared.values.Value.{Value}
use Rattle.silq_types.specs.declared.values.Var.{Var}
use Rattle.silq_types.specs.Types.{is_bit}
use Rattle.silq_types.specs.declared.need.Need.TheVariants as needs
use Rattle.check_scope.specs.declared.uses.Use.{Use}
use Rattle.check_scope.specs.Context.{Scope, Context}
use Rattle.check_scope.specs.Uses.{uses, parts_of}
use Rattle.check_expr.specs.Owners.{Sole}
use Rattle.check_fun.specs.Statement.{under}
use Rattle.silq_mean.specs.declared.receiver.Receiver.{Receiver}
use Rattle.silq_mean.specs.Effect.{Effect}
use Rattle.silq_mean.specs.Meaning as meanings
use Rattle.silq_mean.specs.Written.{is_empty}
use Rattle.flat_core.specs.declared.step.WireId.{WireId}
use Rattle.bit_arith.specs.declared.operand.Operand.{Operand}
use Rattle.bit_arith.specs.Calls.{no_target}
use Rattle.flat_form.specs.declared.known.Known.{Known}
use Rattle.flat_form.specs.declared.known.Known.TheVariants.{Static, Shown, Lent, Absent}
use Rattle.flat_form.specs.State.{Flattening, wires_so_far, drop_last, last, first, operands_of, only_operand}
use Rattle.flat_form.specs.Flat.{flat, entered, chosen_by, first_branch}
use Rattle.flat_form.specs.Fine.{IsBit, IsOf}
use Rattle.flat_form.specs.Good.{Good}
use Rattle.flat_form.specs.Names.{AllOf, names, named_by}
use Rattle.flat_form.proofs.Goods.{Branches, goes_first, good_flat, chosen_safe}
use Rattle.flat_typed.specs.Places.{Places, is_part}
use Rattle.flat_typed.specs.Footprint.{used_wires, consumed_wires}
use Rattle.flat_typed.specs.Relation.{Outside, Stands, IsAnswer, OfType, FitsPart}
use Rattle.flat_typed.specs.Done.{StmtBegins, ExprDone, ExprTells, IsTyped, carrying}
use Rattle.flat_typed.specs.Scopes.{as_meaning}
use Rattle.flat_typed.specs.Uses.{IsThere}
use Rattle.flat_typed.specs.Settled.{Settled}
use Rattle.flat_typed.proofs.Ordered.{clash}
use Rattle.flat_typed.proofs.Tame.{AllLeft}
use Rattle.flat_typed.proofs.Touching.{flips_unmade}
use Rattle.flat_typed.proofs.Reached.{Told, whole_left}
use Rattle.flat_typed.proofs.Forgetting.{stands_at}
use Rattle.flat_typed.proofs.Claims.{OneAnswer, one_answer}
use Rattle.flat_typed.proofs.Outer.{LiveAgree}
use Rattle.flat_typed.proofs.SameEnds.{live_agree}
use Rattle.flat_typed.proofs.Entering.{EntersSo, branch_enters, in_branch, ClearOf, safe_below, stands_entered}
use Rattle.flat_typed.proofs.Held.{clear_all, clear_left}

-- ---- what the walk tells

pub record Conditioned (sc : Scope) (taker : Ty → Receiver) (e : Expression) (c : Context) (ps : List Part) (d : Context) : Type 0 where
  pub value : Value
  pub tells : (out : Outside) (low : ℕ) (W : Places) (s : Flattening) → StmtBegins out sc low (λ p. 0) W c s → ExprTells out sc needs.Held [] (meanings.expr e (as_meaning taker sc) needs.Held) W [] (uses e sc c.vars needs.Held) c s (value ∷ []) d
  pub told : Told sc needs.Held e c d
  pub bit : is_bit value.ty.shape ≡ true
  pub parts : parts_of (uses e sc c.vars needs.Held) ≡ ps
  pub settled : Settled sc d
  pub grown : c.next ≤ d.next

-- ---- values

bit_is : (s : Shape) → is_bit s ≡ true → s ≡ Bit
bit_is Bit e = refl
bit_is (UInt n) e = clash (sym e)
bit_is (Int n) e = clash (sym e)
bit_is (Array k n) e = clash (sym e)

bit_known : (t : Ty) (k : Known) → OfType t k → IsTyped k → is_bit t.shape ≡ true → IsBit k
bit_known t (Static z) o h e = absurd h
bit_known t (Shown u) o h e = o.0 ∙ bit_is t.shape e
bit_known t (Lent start size u) o h e = absurd o
bit_known t Absent o h e = absurd o

only_named : (k : Known) (w : WireId) → named_by w (only_operand (operands_of k)) ≡ true → names k w ≡ true
only_named (Static z) w e = clash (sym e)
only_named (Shown u) w e = go u.operands e
  where
    go : (ps : List Operand) → named_by w (only_operand ps) ≡ true → list_any (named_by w) ps ≡ true
    go [] e = clash (sym e)
    go (p ∷ ps) e = ap (λ t. t || list_any (named_by w) ps) e
only_named (Lent start size u) w e = clash (sym e)
only_named Absent w e = clash (sym e)

pub not_bare : {A : Type 0} (xs : List A) (x : A) → not (is_empty (xs ++ x ∷ [])) ≡ true
not_bare [] x = refl
not_bare (y ∷ ys) x = refl

-- ---- where the first branch begins

module _ (sc : Scope) (taker : Ty → Receiver) (e : Expression) (c : Context) (ps : List Part) (m : Context) (k : Conditioned sc taker e c ps m) (out : Outside) (low : ℕ) (W : Places) (st : Flattening) (b : StmtBegins out sc low (λ p. 0) W c st) where
  abbrev pub E0 : Effect
  E0 = meanings.expr e (as_meaning taker sc) needs.Held

  abbrev us : List Use
  us = uses e sc c.vars needs.Held

  abbrev pub s1 : Flattening
  s1 = flat E0 st

  pub tells : ExprTells out sc needs.Held [] E0 W [] us c st (k.value ∷ []) m
  tells = k.tells out low W st b

  abbrev pub done : ExprDone out sc needs.Held E0 W [] us c st (k.value ∷ []) m
  done = tells.done

  abbrev pub U : Places
  U = done.after

  pub told : AllOf (IsThere sc.held c.vars) us × (AllLeft c.vars m.vars × AllOf (FitsPart W m.vars) m.vars)
  told = k.told W b.stands.parts

  pub good1 : Good s1
  good1 = good_flat E0 st b.good done.fine

  answer : OneAnswer (IsAnswer U needs.Held (used_wires W c.vars us) (consumed_wires W c.vars us) (wires_so_far st) c.next) k.value done.answers
  answer = one_answer (IsAnswer U needs.Held (used_wires W c.vars us) (consumed_wires W c.vars us) (wires_so_far st) c.next) k.value done.answers done.each

  values1 : s1.values ≡ answer.known ∷ []
  values1 = done.values ∙ (ap (λ l. reverse l ++ st.values) answer.all ∙ ap (λ l. answer.known ∷ l) b.none)

  pub stands1 : Stands out sc.held U [] m s1
  stands1 = subst (λ ks. Stands out sc.held U (carrying needs.Held (k.value ∷ []) ks ++ []) m s1) answer.all done.stands

  pub whole1 : AllOf (λ u. is_part u ≡ false) m.vars
  whole1 = whole_left c.vars m.vars told.1.0 b.whole

  pub is_one_bit : IsBit (last s1)
  is_one_bit = subst (λ l. IsBit (first l)) (sym values1) (bit_known k.value.ty answer.known answer.is.typed (subst (AllOf IsTyped) answer.all (tells.typed refl)).0 k.bit)

  abbrev pub p1 : Operand
  p1 = chosen_by s1

  within : (w : WireId) → named_by w p1 ≡ true → (used_wires W c.vars us w ≡ true) ⊎ (wires_so_far st ≤ w.number)
  within w n = answer.is.within w (only_named answer.known w (ap (λ l. named_by w (only_operand (operands_of (first l)))) (sym values1) ∙ n))

  pub agree1 : AllOf (LiveAgree U W) c.vars
  agree1 = live_agree c low U W b.sole done.agree

  pub clear1 : AllOf (ClearOf sc.held p1 ps U) m.vars
  clear1 =
      clear_left sc.held p1 ps U W c.vars m.vars told.1.0
      (subst (λ qs. AllOf (ClearOf sc.held p1 qs W) c.vars) k.parts (clear_all out sc.held W c st b.stands b.good b.whole us told.0 p1 within)) agree1

  pub there1 : (w : WireId) → named_by w p1 ≡ true → w.number < wires_so_far s1
  there1 w n = safe_below (wires_so_far s1) no_target p1 w (chosen_safe s1 good1) n

  abbrev pub f1 : Flattening
  f1 = first_branch s1

  abbrev pub out1 : Outside
  out1 = in_branch out sc.held U m (drop_last s1) p1 ps

  pub enters1 : EntersSo p1 (drop_last s1).built (entered (drop_last s1).setting p1 (drop_last s1).built)
  enters1 = branch_enters p1 (drop_last s1)

  pub branches1 : Branches (drop_last s1) f1
  branches1 = goes_first s1 good1

  pub settled1 : Settled (under sc ps) m
  settled1 = record { free = k.settled.free; whole = k.settled.whole; placed = k.settled.placed; sole = k.settled.sole }

  pub begins1 : StmtBegins out1 (under sc ps) m.next (λ p. 0) U m f1
  begins1 = record {
    good = branches1.good;
    unmade = flips_unmade no_target (wires_so_far s1) s1.built f1.built enters1.flips done.unmade;
    sole = k.settled.sole;
    stands = stands_entered out sc.held U m (drop_last s1) p1 ps good1.fresh branches1 there1 (stands_at out sc.held U [] m s1 (drop_last s1) refl refl refl refl stands1) whole1 clear1;
    whole = whole1;
    block = subst (λ n. 1 ≤ n) (sym done.leaves.blocks) b.block;
    open_air = λ q r. clash (sym (not_bare sc.held ps) ∙ r);
    none = ap (λ l. drop 1 l) values1;
  }
