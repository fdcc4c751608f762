-- `dup` and `vector` behind an expression: copies, which are new wires that nobody owns.
use Rattle.std.proofs.Common.{◌≡◌, ◌⊎◌, ℕ, suc, ◌+◌, ◌≤◌, ◌<◌, Bool, true, false, cond, ◌&&◌, List, [], ◌∷◌, ◌++◌, length, drop, ℤ, refl, sym, ap, ◌∙◌, subst, arith}
use Rattle.std.specs.Prelude.{reverse, nat_abs}
use Rattle.silq_types.specs.declared.types.Shape.{Shape}
use Rattle.silq_types.specs.declared.types.Shape.TheVariants.{Bit, UInt, Int, Array}
use Rattle.silq_types.specs.declared.types.Ty.{Ty}
use Rattle.silq_types.specs.declared.values.Origin.TheVariants.{Lifted}
use Rattle.silq_types.specs.declared.values.Part.{Part}
use Rattle.silq_types.specs.declared.values.Value.{Value}
use Rattle.silq_types.specs.Types.{quantum, is_scalar}
use Rattle.silq_types.specs.declared.need.Need.{Need}
use Rattle.silq_types.specs.declared.need.Need.TheVariants as needs
use Rattle.silq_types.specs.Calls.{is_consumed}
use Rattle.check_scope.specs.declared.uses.Use.{Use}
use Rattle.check_scope.specs.Context.{Scope, Context}
use Rattle.check_expr.specs.Expression.{is_qfree, repeated as many_of}
use Rattle.silq_mean.specs.Effect.{Effect, ◌>>◌, step, copy_last, repeat_last}
use Rattle.flat_core.specs.declared.step.WireId.{WireId}
use Rattle.flat_core.specs.declared.step.End.TheVariants.{Dropped}
use Rattle.flat_core.specs.Form.{WireForm}
use Rattle.flat_core.specs.Label.{wire_in}
use Rattle.bit_arith.specs.declared.operand.Operand.{Operand}
use Rattle.bit_arith.specs.Built.{Built, Given, all_made}
use Rattle.bit_arith.specs.Calls.{Targets}
use Rattle.bit_arith.specs.Does.{Fresh}
use Rattle.flat_form.specs.declared.known.TypedBits.{TypedBits}
use Rattle.flat_form.specs.declared.known.Known.{Known}
use Rattle.flat_form.specs.declared.known.Known.TheVariants.{Static, Shown}
use Rattle.flat_form.specs.State.{Flattening, first, last, drop_last, wires_so_far, copied}
use Rattle.flat_form.specs.Flat.{flat, give_copy, give_repeated, array_of, repeated}
use Rattle.flat_form.specs.Fine.{Fine, IsAny, IsStatic, IsOf}
use Rattle.flat_form.specs.Good.{Good}
use Rattle.flat_typed.specs.Places.{Places, times_in}
use Rattle.flat_typed.specs.Footprint.{used_wires, consumed_wires}
use Rattle.flat_typed.specs.Relation.{Outside, Stands, IsAnswer}
use Rattle.flat_typed.specs.Done.{ExprDone, ExprTells, carrying}
use Rattle.flat_typed.proofs.Ordered.{clash}
use Rattle.flat_typed.proofs.Growing.{stands_grown}
use Rattle.flat_typed.proofs.Flipping.{Flips, copy_answer, copy_longer}
use Rattle.flat_typed.proofs.Touching.{flips_touch, flips_plain, flips_stay_plain, flips_unmade, flips_copied}
use Rattle.flat_typed.proofs.Placing.{made_range, stands_pushed}
use Rattle.flat_typed.proofs.Giving.{Beyond, Works, IsNew, copied_works}
use Rattle.flat_typed.proofs.Variables.{stands_vars}
use Rattle.flat_typed.proofs.Given.{GivesTold, then_tells, OneShown, one_shown}

module _ (out : Outside) (held : List (List Part)) (W : Places) (need : Need) (used consumed : Targets) (n low : ℕ) (qfree : Bool) (under : List Value) (c : Context) (s : Flattening) (rest : List Known) (v : Value) where
  none_carried : (t : Bool) → cond (t && false) (v ∷ []) [] ≡ []
  none_carried true = refl
  none_carried false = refl

  -- copies of some operands, as a quantum value
  pub told_copied : (sh : Shape) (m : ℕ) (ps : List Operand) → IsNew low v false sh → n ≤ m → n ≤ wires_so_far s → Fresh s.built.draft → Stands out held W under c s
      → GivesTold out held W need used consumed n low qfree under c s rest v (record s { built = (copied s.setting ps s.built).built; values = Shown (record { classical = false; shape = sh; operands = (copied s.setting ps s.built).answer; own = false; began = m }) ∷ rest })
  told_copied sh m ps new le grown fresh r = record {
    answer = Shown (record { classical = false; shape = sh; operands = g.answer; own = false; began = m });
    values = refl;
    given = record {
      typed = (new.shape, new.class);
      handed = λ q. new.unheld;
      own = λ q e. clash (sym e);
      borrowed = λ q e. (new.place, new.lifted);
      moved = λ e. clash (sym e);
      within = works.within;
      began = le;
      differ = works.differ;
    };
    stands =
        subst (λ l. Stands out held W (l ++ under) c (record s { built = g.built; values = Shown (record { classical = false; shape = sh; operands = g.answer; own = false; began = m }) ∷ rest })) (sym (none_carried (is_consumed need)))
        (stands_pushed out held W under c s g.built (Shown (record { classical = false; shape = sh; operands = g.answer; own = false; began = m }) ∷ rest)
        (stands_grown out held W under c s g.built (flips_plain (λ w. false) 0 s.built g.built fresh plain_flips) r));
    leaves = record { setting = refl; callers = refl; blocks = refl; names = refl };
    touches = flips_touch (Beyond consumed n) s.built g.built (works.flips (Beyond consumed n) (wires_so_far s) (omega arith));
    plain = λ q. flips_stay_plain (λ w. false) 0 s.built g.built plain_flips;
    unmade = flips_unmade (λ w. false) 0 s.built g.built plain_flips;
    sharing = record { new = λ q e. clash (sym e ∙ sym new.class); lifted = λ q e. clash (sym e ∙ sym new.class); shares = λ e. clash (sym e ∙ sym new.class) };
    typed = tt;
    untold = λ w l from un. dropped w l;
  }
    where
      g : Given (List Operand)
      g = copied s.setting ps s.built

      works : Works used n s (copied s.setting ps s.built)
      works = copied_works used n s ps grown

      plain_flips : Flips (λ w. false) 0 s.built (copied s.setting ps s.built).built
      plain_flips = works.flips (λ w. false) 0 (omega arith)

      dropped : (w : WireId) → 1 ≤ times_in w (copied s.setting ps s.built).answer → (wire_in (copied s.setting ps s.built).built.draft.wires w).ending ≡ Dropped
      dropped w l =
          let q = made_range w (wires_so_far s) (length ps) (subst (λ ws. 1 ≤ times_in w (all_made ws)) (copy_answer s.setting ps s.built) l) in
          let k = copy_longer s.setting ps s.built in
          let a = q.0 in
          let b = q.1 in
          ap (λ (x : WireForm). x.ending) (plain_flips.new w a (omega (arith, k, b)))

-- ---- behind an expression

module _ (out : Outside) (sc : Scope) (need : Need) (wants : List Ty) (e : Effect) (W : Places) (under : List Value) (us : List Use) (c : Context) (s : Flattening) (x : Value) (d : Context) (t : ExprTells out sc needs.Held [] e W under us c s (x ∷ []) d) (good : Good (flat e s)) (grown : c.next ≤ d.next) where
  abbrev o : ExprDone out sc needs.Held e W under us c s (x ∷ []) d
  o = t.done

  abbrev n : ℕ
  n = wires_so_far s

  abbrev used : Targets
  used = used_wires W c.vars us

  abbrev consumed : Targets
  consumed = consumed_wires W c.vars us

  abbrev s1 : Flattening
  s1 = flat e s

  abbrev next_of : Context
  next_of = record d { next = suc d.next }

  abbrev dup_of : Value
  dup_of = record { ty = quantum x.ty.shape; origin = Lifted; place = d.next }

  bits : OneShown (IsAnswer o.after needs.Held used consumed n c.next) x o.answers
  bits = one_shown (IsAnswer o.after needs.Held used consumed n c.next) x o.answers (λ k h. h.typed) (t.typed refl) o.each

  abbrev u : TypedBits
  u = bits.bits

  values : s1.values ≡ Shown u ∷ s.values
  values = o.values ∙ ap (λ ks. reverse ks ++ s.values) bits.all

  stands : Stands out sc.held o.after under next_of s1
  stands = stands_vars out sc.held o.after under d next_of s1 refl (subst (λ ks. Stands out sc.held o.after (carrying needs.Held (x ∷ []) ks ++ under) d s1) bits.all o.stands)

  -- `dup` of a value in a held use
  pub dup_tells : ExprTells out sc need wants (e >> step copy_last) W under us c s (dup_of ∷ []) next_of
  dup_tells =
      then_tells out sc need needs.Held wants e W under us c s (x ∷ []) d o (step copy_last) o.after dup_of next_of (λ p l. refl) (subst IsAny (sym (ap first values)) tt) refl
      (subst (λ k. GivesTold out sc.held o.after need used consumed n c.next (is_qfree sc.this.mark) under next_of s1 s.values dup_of (give_copy k (drop_last s1))) (sym (ap first values))
      (subst (λ l. GivesTold out sc.held o.after need used consumed n c.next (is_qfree sc.this.mark) under next_of s1 l dup_of (give_copy (Shown u) (drop_last s1))) (ap (λ l. drop 1 l) values)
      (told_copied out sc.held o.after need used consumed n c.next (is_qfree sc.this.mark) under next_of s1 (drop 1 s1.values) dup_of u.shape u.began u.operands
      (record { class = refl; shape = bits.is.typed.0; unheld = refl; lifted = refl; place = grown }) bits.is.began o.touches.grown good.fresh stands)))
