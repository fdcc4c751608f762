-- The values of a call: which wires and places they have, by what its body and its arguments tell.
use Rattle.std.proofs.Common.{◌≡◌, ◌⊎◌, inl, inr, ℕ, suc, ◌≤◌, ◌<◌, Bool, true, false, cond, not, ◌&&◌, ◌||◌, List, [], ◌∷◌, refl, sym, ap, ◌∙◌, subst, arith}
use Rattle.std.specs.Prelude.{Option, Some, None, slice_get}
use Rattle.std.specs.List.{list_any}
use Rattle.silq_types.specs.declared.need.Need.TheVariants as needs
use Rattle.silq_types.specs.declared.types.Ty.{Ty}
use Rattle.silq_types.specs.declared.signature.Param.{Param}
use Rattle.silq_types.specs.declared.signature.Returned.{Returned}
use Rattle.silq_types.specs.declared.values.Origin.TheVariants.{Lifted, Linear, Classical}
use Rattle.silq_types.specs.declared.values.Value.{Value}
use Rattle.silq_types.specs.Types.{is_linear, is_held}
use Rattle.silq_types.specs.Calls.{is_consumed}
use Rattle.check_expr.specs.Expression.{result_origin, argument_at}
use Rattle.check_expr.specs.Owners.{at_place, consumed_weight}
use Rattle.flat_core.specs.declared.step.WireId.{WireId}
use Rattle.bit_arith.specs.declared.operand.Operand.{Operand}
use Rattle.bit_arith.specs.Calls.{Targets}
use Rattle.flat_form.specs.declared.known.Known.{Known}
use Rattle.flat_form.specs.declared.known.Known.TheVariants.{Shown}
use Rattle.flat_form.specs.State.{operands_of}
use Rattle.flat_form.specs.Names.{named_by, names}
use Rattle.flat_typed.specs.Places.{Places, times_in, carriers}
use Rattle.flat_typed.specs.Footprint.{Within}
use Rattle.flat_typed.specs.Relation.{AllNew, began_of, is_carried}
use Rattle.flat_typed.specs.Calls.{Three, FromParam, IsResult}
use Rattle.flat_typed.proofs.Ordered.{clash}
use Rattle.flat_typed.proofs.Scopes.{taken_param}
use Rattle.flat_typed.proofs.Parameters.{operands_at}
use Rattle.flat_typed.proofs.CallArguments.{IsArgument, Numbered, numbered, none_past}

-- what is among some operands is named
pub times_named : (w : WireId) (ps : List Operand) → 1 ≤ times_in w ps → list_any (named_by w) ps ≡ true
times_named w [] le = absurd (omega (arith, le))
times_named w (p ∷ ps) le = go (named_by w p) le (times_named w ps)
  where
    go : (t : Bool) → 1 ≤ cond t (suc (times_in w ps)) (times_in w ps) → (1 ≤ times_in w ps → list_any (named_by w) ps ≡ true) → (t || list_any (named_by w) ps) ≡ true
    go true l i = refl
    go false l i = i l

-- ---- what the walk makes of a result

abbrev pub PlacedBy : ℕ → Option Value → ℕ → Type 0
PlacedBy next None q = next ≤ q
PlacedBy next (Some v) q = q ≡ v.place

-- its type and origin, and its place: that of an argument, or a new one
pub record IsReturned (lifts : Bool) (vs : List Value) (next : ℕ) (r : Returned) (x : Value) : Type 0 where
  pub ty : x.ty ≡ r.ty
  pub origin : x.origin ≡ result_origin lifts r.ty
  pub place : PlacedBy next (argument_at vs r.from) x.place

pub classical_lifted : (lifts : Bool) (t : Ty) → t.classical ≡ true → is_linear (result_origin lifts t) ≡ false
classical_lifted lifts t e = ap (λ b. is_linear (cond b Classical (cond lifts Lifted Linear))) e

pub unheld : (lifts : Bool) (t : Ty) → is_held (result_origin lifts t) ≡ false
unheld lifts t = go lifts t.classical
  where
    go : (a b : Bool) → is_held (cond b Classical (cond a Lifted Linear)) ≡ false
    go true true = refl
    go true false = refl
    go false true = refl
    go false false = refl

-- ---- one value of the call

-- it shows wires of its own: those of its place where that was there before, else new ones; a classical one has a new place
pub record IsHanded (after : Places) (used : Targets) (n low : ℕ) (x : Value) (k : Known) : Type 0 where
  pub shows : k ≡ Shown (record { classical = x.ty.classical; shape = x.ty.shape; operands = operands_of k; own = true; began = began_of k })
  pub old : x.place < low → operands_of k ≡ after x.place
  pub fresh : (x.place < low) ⊎ AllNew n (operands_of k)
  pub new : x.ty.classical ≡ true → low ≤ x.place
  pub within : Within used n k

need_true : (h c : Bool) → (is_consumed (cond h needs.Held needs.Consumed) && not c) ≡ false → (h ≡ true) ⊎ ((h ≡ false) × (c ≡ true))
need_true true c e = inl refl
need_true false true e = inr (refl, refl)
need_true false false e = clash e

module _ (after : Places) (used consumed : Targets) (n low next m : ℕ) (owners : WireId → ℕ) (own : List Value) (ps : List Param) (vs : List Value) (ks : List Known) (all : Three (IsArgument after used consumed n low owners own m) ps vs ks) (up : low ≤ next) (grown : n ≤ m) (lifts : Bool) where
  -- a result of the body, and the value that the walk makes of it
  module _ (r : Returned) (x : Value) (k : Known) (q : IsResult (operands_at ks) m r k) (t : IsReturned lifts vs next r x) (weight : (j : ℕ) → r.from ≡ Some j → 1 ≤ consumed_weight (at_place j) 0 ps)
      (ours : (w : WireId) → 1 ≤ times_in w (operands_of k) → (1 ≤ carriers after w own) ⊎ (m ≤ w.number)) where
    abbrev Answer : Type 0
    Answer = IsHanded after used n low x k

    its : k ≡ Shown (record { classical = x.ty.classical; shape = x.ty.shape; operands = operands_of k; own = true; began = began_of k })
    its = q.shows ∙ ap (λ (y : Ty). Shown (record { classical = y.classical; shape = y.shape; operands = operands_of k; own = true; began = began_of k })) (sym t.ty)

    named : (w : WireId) → names k w ≡ list_any (named_by w) (operands_of k)
    named w = ap (λ l. names l w) q.shows

    -- with a new place, and new wires
    anew : next ≤ x.place → ((w : WireId) → names k w ≡ true → n ≤ w.number) → Answer
    anew le h = record {
      shows = its;
      old = λ lt. absurd (omega (arith, lt, le, up));
      fresh = inr (λ w l. h w (named w ∙ times_named w (operands_of k) l));
      new = λ c. omega (arith, le, up);
      within = λ w e. inr (h w e);
    }

    -- with the place of an argument
    handed_on : (j : ℕ) → r.from ≡ Some j → operands_of k ≡ operands_at ks j → (v : Value) → slice_get vs j ≡ Some v → x.place ≡ v.place → Answer
    handed_on j f o v g e = go (is_carried (taken_param a.param) v) refl
      where
        a : Numbered (IsArgument after used consumed n low owners own m) j 0 ps ks j v
        a = numbered (IsArgument after used consumed n low owners own m) j 0 j ps vs ks (omega arith) all v g

        same : operands_of k ≡ operands_of a.known
        same = o ∙ a.shows

        known_named : (w : WireId) → names a.known w ≡ list_any (named_by w) (operands_of a.known)
        known_named w = ap (λ l. names l w) a.is.taken.shows

        within : Within used n k
        within w e = a.is.taken.within w (known_named w ∙ (ap (list_any (named_by w)) (sym same) ∙ (sym (named w) ∙ e)))

        classical : x.ty.classical ≡ true → low ≤ x.place
        classical c = absurd (grind (arith, sym f ∙ q.quantum (ap (λ (y : Ty). y.classical) (sym t.ty) ∙ c)))

        go : (b : Bool) → is_carried (taken_param a.param) v ≡ b → Answer
        go true c =
            let h = a.is.taken.own c in
            record {
              shows = its;
              old = λ lt. same ∙ (h.0 ∙ ap after (sym e));
              fresh = subst (λ z. (z < low) ⊎ AllNew n (operands_of k)) (sym e) (subst (λ l. (v.place < low) ⊎ AllNew n l) (sym same) h.1);
              new = classical;
              within = within;
            }
        go false c = uncarried (need_true a.param.held a.param.ty.classical c)
          where
            none : (w : WireId) → 1 ≤ times_in w (operands_of k) → n ≤ w.number
            none w le = pick (ours w le)
              where
                pick : (1 ≤ carriers after w own) ⊎ (m ≤ w.number) → n ≤ w.number
                pick (inr l) = omega (arith, l, grown)
                pick (inl l) = clash (sym (times_named w (operands_of k) le) ∙ (ap (list_any (named_by w)) same ∙ (sym (known_named w) ∙ a.is.spares c w l)))

            uncarried : (a.param.held ≡ true) ⊎ ((a.param.held ≡ false) × (a.param.ty.classical ≡ true)) → Answer
            uncarried (inl h) = let z = weight j f in let y = a.light h in absurd (omega (arith, z, y))
            uncarried (inr h) =
                let l : low ≤ v.place = a.is.given.new (ap (λ b. is_consumed (cond b needs.Held needs.Consumed)) h.0) (a.is.suited h.1) in
                record { shows = its; old = λ lt. absurd (omega (arith, lt, l, e)); fresh = inr none; new = classical; within = within }

    pub is_handed : Answer
    is_handed = go r.from refl
      where
        past : (o : Option Value) → (j : ℕ) → r.from ≡ Some j → slice_get vs j ≡ o → PlacedBy next o x.place → operands_of k ≡ operands_at ks j → Answer
        past None j f g p o = anew p (λ w e. clash (sym e ∙ (named w ∙ ap (list_any (named_by w)) (o ∙ none_past j (IsArgument after used consumed n low owners own m) ps vs ks all g))))
        past (Some v) j f g p o = handed_on j f o v g p

        go : (o : Option ℕ) → r.from ≡ o → Answer
        go None f = anew (subst (λ z. PlacedBy next (argument_at vs z) x.place) f t.place) (λ w e. let a = subst (λ z. FromParam (operands_at ks) m z k) f q.from w e in omega (arith, a, grown))
        go (Some j) f = past (slice_get vs j) j f refl (subst (λ z. PlacedBy next (argument_at vs z) x.place) f t.place) (subst (λ z. FromParam (operands_at ks) m z k) f q.from)
