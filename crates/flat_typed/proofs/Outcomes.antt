-- A measure of an expression.
use Rattle.std.proofs.Common.{◌≡◌, ℕ, suc, ◌≤◌, true, List, [], ◌∷◌, ◌++◌, drop, refl, sym, ap, subst}
use Rattle.std.specs.Prelude.{None, reverse}
use Rattle.silq_types.specs.declared.values.Origin.TheVariants.{Classical}
use Rattle.silq_types.specs.declared.values.Part.{Part}
use Rattle.silq_types.specs.declared.values.Value.{Value}
use Rattle.silq_types.specs.declared.need.Need.{Need}
use Rattle.silq_types.specs.declared.need.Need.TheVariants as needs
use Rattle.check_scope.specs.declared.uses.Use.{Use}
use Rattle.check_scope.specs.Context.{Scope, Context}
use Rattle.silq_mean.specs.Effect.{Effect, ◌>>◌, measure}
use Rattle.bit_arith.specs.Calls.{Targets, among}
use Rattle.flat_form.specs.declared.known.TypedBits.{TypedBits}
use Rattle.flat_form.specs.declared.known.Known.{Known}
use Rattle.flat_form.specs.declared.known.Known.TheVariants.{Shown}
use Rattle.flat_form.specs.State.{Flattening, first, wires_so_far, wires_in}
use Rattle.flat_form.specs.Flat.{flat}
use Rattle.flat_form.specs.Good.{Good}
use Rattle.flat_form.specs.Shows.{ListBoth}
use Rattle.flat_typed.specs.Places.{Places}
use Rattle.flat_typed.specs.Footprint.{used_wires, consumed_wires, NoneNames}
use Rattle.flat_typed.specs.Relation.{Outside, Stands, IsAnswer}
use Rattle.flat_typed.specs.Done.{ExprDone, carrying}
use Rattle.flat_typed.proofs.Keeping.{KnowsBefore}
use Rattle.flat_typed.proofs.Taking.{Around}
use Rattle.flat_typed.proofs.Giving.{GivesValue}
use Rattle.flat_typed.proofs.Measured.{Outcome, measure_done}
use Rattle.flat_typed.proofs.Variables.{stands_vars}
use Rattle.flat_typed.proofs.Behind.{expr_then}

-- in a context with the same variables
pub gives_vars : (out : Outside) (held : List (List Part)) (W : Places) (need : Need) (used consumed : Targets) (n low : ℕ) (under : List Value) (c d : Context) (s : Flattening) (rest : List Known) (v : Value) (e : Flattening) → d.vars ≡ c.vars
    → GivesValue out held W need used consumed n low under c s rest v e → GivesValue out held W need used consumed n low under d s rest v e
gives_vars out held W need used consumed n low under c d s rest v e q g =
    record { answer = g.answer; values = g.values; given = g.given; stands = stands_vars out held W _ c d e q g.stands; leaves = g.leaves; touches = g.touches; plain = g.plain; unmade = g.unmade }

module _ (out : Outside) (sc : Scope) (need : Need) (e : Effect) (W : Places) (under : List Value) (us : List Use) (c : Context) (s : Flattening) (x : Value) (d : Context) (o : ExprDone out sc needs.Consumed e W under us c s (x ∷ []) d) where
  abbrev next_of : Context
  next_of = record d { next = suc d.next }

  abbrev outcome : Value
  outcome = record { ty = record { classical = true; shape = x.ty.shape }; origin = Classical; place = d.next }

  abbrev Answers : List Known → Type 0
  Answers ks = ListBoth (IsAnswer o.after needs.Consumed (used_wires W c.vars us) (consumed_wires W c.vars us) (wires_so_far s) c.next) (x ∷ []) ks

  -- outside all conditions, where nothing below on the stack names its wires
  pub measured_expr : (u : TypedBits) → o.answers ≡ Shown u ∷ [] → (flat e s).setting.condition ≡ None → Good (flat e s) → KnowsBefore (wires_so_far s) (flat e s) → (u.own ≡ true → NoneNames (among (wires_in (o.after x.place))) s.values)
      → Around out o.after (wires_so_far s) c.next under d (flat e s) x (Shown u) → c.next ≤ d.next → ExprDone out sc need (e >> measure) W under us c s (outcome ∷ []) next_of
  measured_expr u q clear good before apart around grown =
      expr_then out sc need needs.Consumed e W under us c s x d o measure r.after outcome next_of r.agree r.fine refl
      (gives_vars out sc.held r.after need (used_wires W c.vars us) (consumed_wires W c.vars us) (wires_so_far s) c.next under d next_of (flat e s) s.values outcome (flat measure (flat e s)) refl
      (subst (λ l. GivesValue out sc.held r.after need (used_wires W c.vars us) (consumed_wires W c.vars us) (wires_so_far s) c.next under d (flat e s) l outcome (flat measure (flat e s))) (ap (λ l. drop 1 l) values) r.gives))
    where
      values : (flat e s).values ≡ Shown u ∷ s.values
      values = subst (λ ks. (flat e s).values ≡ reverse ks ++ s.values) q o.values

      h : IsAnswer o.after needs.Consumed (used_wires W c.vars us) (consumed_wires W c.vars us) (wires_so_far s) c.next x (Shown u)
      h = (subst Answers q o.each).0

      stands : Stands out sc.held o.after (carrying needs.Consumed (x ∷ []) (Shown u ∷ []) ++ under) d (flat e s)
      stands = subst (λ ks. Stands out sc.held o.after (carrying needs.Consumed (x ∷ []) ks ++ under) d (flat e s)) q o.stands

      r : Outcome out sc.held o.after need (used_wires W c.vars us) (consumed_wires W c.vars us) (wires_so_far s) c.next under d (flat e s) outcome
      r =
          measure_done out sc.held o.after need (used_wires W c.vars us) (consumed_wires W c.vars us) (wires_so_far s) c.next under d (flat e s) d.next x u (ap first values) clear good before
          (λ q. subst (λ l. NoneNames (among (wires_in (o.after x.place))) l) (sym (ap (λ l. drop 1 l) values)) (apart q))
          (record { shape = h.typed.0; own = h.own; borrowed = h.borrowed; moved = h.moved; within = h.within; began = h.began; differ = h.differ }) around stands grown
