-- Choices at run time.
use Rattle.std.proofs.Common.{◌≡◌, ℕ, [], ◌∷◌, length, Option, Some, None, refl, sym, ap, ◌∙◌, subst}
use Rattle.silq_io.specs.declared.limit.LimitFault.{LimitFault}
use Rattle.silq_mean.specs.Effect.{Effect, choice}
use Rattle.bit_arith.specs.declared.operand.Operand.{Operand}
use Rattle.bit_arith.specs.Built.{Built, new_wire, next_wire, negated, under as under_in}
use Rattle.bit_arith.specs.Calls.{no_target, Safe, Refused}
use Rattle.bit_arith.proofs.Grows.{new_wire_x, flip_x}
use Rattle.bit_arith.proofs.Listed.{safe_one, safe_more}
use Rattle.flat_form.specs.State.{Flattening, drop_last}
use Rattle.flat_form.specs.Flat.{entered, enter_branch, chosen_by, first_branch, second_branch, under, flat}
use Rattle.flat_form.specs.Good.{Good}
use Rattle.flat_form.proofs.Later.{Later, later_then, later_read}
use Rattle.flat_form.proofs.Goods.{Goes, Branches, chosen_safe, goes_first, goes_second, goes_flat}
use Rattle.flat_steps.specs.declared.branches.Choice.{Choice}
use Rattle.flat_steps.specs.Ready.{Ready}
use Rattle.flat_steps.proofs.Stays.{Stays, stays, refused_on}
use Rattle.flat_build.proofs.Statements.{at_the_second}

-- ---- what was refused first stays so

entered_stays : (line : ℕ) (outer : Option Operand) (c : Operand) (b : Built) → Stays b (entered (record { line = line; condition = outer }) c b).built
entered_stays line None c b = record { on = λ o h. h }
entered_stays line (Some outer) c b = record {
  on = λ o h. (flip_x (record { line = line; condition = Some outer }) (next_wire b) (c ∷ []) (new_wire b)).grows.stays o ((new_wire_x b).grows.stays o h);
}

second_stays : (one s : Flattening) → Stays one.built (second_branch one s).built
second_stays one s = entered_stays s.setting.line s.setting.condition (negated (chosen_by s)) one.built

module _ (f : LimitFault) (a b : Effect) (s : Flattening) where
  pub refused_two : Refused f (second_branch (flat a (first_branch s)) s).built → Refused f (flat (choice a b) s).built
  refused_two r =
      let two : Flattening = second_branch (flat a (first_branch s)) s in
      refused_on f two.built (flat b two).built (record { on = λ o h. stays b two o h }) r

  pub refused_one : Refused f (flat a (first_branch s)).built → Refused f (flat (choice a b) s).built
  refused_one r =
      let done : Flattening = flat a (first_branch s) in refused_two (refused_on f done.built (second_branch done s).built (second_stays done s) r)

  pub refused_start : Refused f (first_branch s).built → Refused f (flat (choice a b) s).built
  refused_start r =
      let first : Flattening = first_branch s in refused_one (refused_on f first.built (flat a first).built (record { on = λ o h. stays a first o h }) r)

-- ---- the branches

module _ (a b : Effect) (s : Flattening) (ready : Ready (choice a b) s) where
  start : Branches (drop_last s) (first_branch s)
  start = goes_first s ready.good

  along : Goes (first_branch s) (flat a (first_branch s))
  along = goes_flat a (first_branch s) start.good ready.fine.1

  later : Later s.built.draft (flat a (first_branch s)).built.draft
  later = later_then s.built.draft (first_branch s).built.draft (flat a (first_branch s)).built.draft start.later along.later

  -- the first branch, where it has begun
  pub first_ready : (p : Flattening) → p ≡ first_branch s → Ready a p
  first_ready p e = let r : Ready a (first_branch s) = record { good = start.good; fine = ready.fine.1 } in subst (λ u. Ready a u) (sym e) r

  pub first_refused : (f : LimitFault) (p : Flattening) → p ≡ first_branch s → Refused f (flat a p).built → Refused f (flat (choice a b) s).built
  first_refused f p e r = refused_one f a b s (subst (λ u. Refused f (flat a u).built) e r)

  -- the second branch, where the first one has ended
  between : Good (under s.setting.condition (flat a (first_branch s)))
  between = record {
    fresh = along.good.fresh;
    known = record { env = along.good.known.env; values = along.good.known.values; callers = along.good.known.callers };
    condition = safe_more (length s.built.draft.wires) (length (flat a (first_branch s)).built.draft.wires) no_target no_target (under_in s.setting []) later.longer (λ w lt t. t) ready.good.condition;
    read = later_read s.built.draft (flat a (first_branch s)).built.draft later ready.good.fresh s.setting.condition ready.good.read;
    owned = record { env = along.good.owned.env; callers = along.good.owned.callers };
  }

  chosen_still : Safe (length (flat a (first_branch s)).built.draft.wires) no_target (chosen_by s)
  chosen_still =
      safe_one (length s.built.draft.wires) (length (flat a (first_branch s)).built.draft.wires) no_target no_target (chosen_by s) later.longer (λ w lt t. t) (chosen_safe s ready.good)

  back : under s.setting.condition (flat a (first_branch s)) ≡ record (drop_last s) { built = (flat a (first_branch s)).built; statements = (flat a (first_branch s)).statements }
  back = at_the_second a s s.setting.condition refl along.setting ready.fine.3.stays_first

  module _ (chosen : Choice) (w : chosen ≡ record { chosen = chosen_by s; outer = s.setting.condition }) (t : Flattening) (e : t ≡ flat a (first_branch s)) where
    outer_is : chosen.outer ≡ s.setting.condition
    outer_is = ap (λ (x : Choice). x.outer) w

    chosen_is : chosen.chosen ≡ chosen_by s
    chosen_is = ap (λ (x : Choice). x.chosen) w

    under_is : under chosen.outer t ≡ under s.setting.condition (flat a (first_branch s))
    under_is = ap (λ c. under c t) outer_is ∙ ap (λ u. under s.setting.condition u) e

    pub second_good : Good (under chosen.outer t)
    second_good = subst Good (sym under_is) between

    pub second_safe : Safe (length t.built.draft.wires) no_target chosen.chosen
    second_safe =
        subst (λ c. Safe (length t.built.draft.wires) no_target c) (sym chosen_is)
        (subst (λ (u : Flattening). Safe (length u.built.draft.wires) no_target (chosen_by s)) (sym e) chosen_still)

    second_is : enter_branch (negated chosen.chosen) (under chosen.outer t) ≡ second_branch (flat a (first_branch s)) s
    second_is = ap (λ c. enter_branch (negated c) (under chosen.outer t)) chosen_is ∙ ap (λ u. enter_branch (negated (chosen_by s)) u) (under_is ∙ back)

    pub second_refused : (f : LimitFault) → Refused f (enter_branch (negated chosen.chosen) (under chosen.outer t)).built → Refused f (flat (choice a b) s).built
    second_refused f r = refused_two f a b s (subst (λ (u : Flattening). Refused f u.built) second_is r)

    module _ (u : Flattening) (h : u ≡ enter_branch (negated chosen.chosen) (under chosen.outer t)) where
      pub other_ready : Ready b u
      other_ready =
          let r : Ready b (second_branch (flat a (first_branch s)) s) = record { good = (goes_second s (flat a (first_branch s)) ready.good later).good; fine = ready.fine.2 } in
          subst (λ x. Ready b x) (sym (h ∙ second_is)) r

      pub other_refused : (f : LimitFault) → Refused f (flat b u).built → Refused f (flat (choice a b) s).built
      other_refused f r = subst (λ x. Refused f (flat b x).built) (h ∙ second_is) r

      pub choice_done : (v x : Flattening) → v ≡ flat b u → x ≡ under chosen.outer v → x ≡ flat (choice a b) s
      choice_done v x p q = q ∙ (ap (λ c. under c v) outer_is ∙ ap (λ y. under s.setting.condition y) (p ∙ ap (λ y. flat b y) (h ∙ second_is)))
