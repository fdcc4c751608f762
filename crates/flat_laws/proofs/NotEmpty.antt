-- What the laws ask of a program is met by a program.
use Rattle.std.proofs.Common.{◌≡◌, ℕ, zero, suc, ◌+◌, ◌≤◌, ◌<◌, true, false, List, [], ◌∷◌, refl, sym, subst, arith}
use Rattle.std.proofs.lemmas.Bool.{eqb-true}
use Rattle.std.specs.Prelude.{get_or}
use Rattle.std.specs.List.{list_any}
use Rattle.static_num.specs.Static.{is_static, value, in_range}
use Rattle.static_num.specs.Angle.{is_turn, fraction, divisor}
use Rattle.silq_mean.specs.Table.{Job}
use Rattle.silq_mean.proofs.Spelled.{x, v, xg, let', back, b1, param, alone}
use Rattle.flat_core.specs.declared.step.End.TheVariants.{Output, Dropped}
use Rattle.flat_core.specs.declared.step.WireId.{WireId}
use Rattle.flat_core.specs.declared.step.Step.{Step}
use Rattle.flat_core.specs.Label.{no_wire, wire_id, same_wire, label_after}
use Rattle.bit_arith.specs.Built.{all_made}
use Rattle.bit_arith.specs.Rows.{flip}
use Rattle.bit_arith.specs.Calls.{among}
use Rattle.flat_form.specs.Names.{named_by}
use Rattle.flat_form.specs.Flat.{flattened}
use Rattle.flat_form.specs.Jobs.{FineJob, EndsWell}
use Rattle.flat_laws.proofs.EndsKept.{dropped_output}
use Rattle.flat_form.proofs.Samples.{exchanging}
use Rattle.flat_laws.proofs.Sparing.{none_named}

-- def main(x:B):B { x := X(x); return x; }
abbrev flipping : Job
flipping = alone (param x b1 ∷ []) (b1 ∷ []) (let' x (xg (v x)) ∷ back (v x) ∷ [])

one_bit : 0 + 1 ≤ 1
one_bit = omega arith

there : 0 < 1
there = omega arith

flipping_is_fine : FineJob flipping
unfolding is_static value in_range is_turn fraction divisor flip
flipping_is_fine = (
  (
    (
      (refl, tt),
      (
        (
          (
            (
              (((one_bit, tt), tt), tt),
              (
                refl,
                λ keeps. record {
                  targets = ((there, refl), tt);
                  distinct = (refl, tt);
                  condition = tt;
                  spared = record { env = ((λ w h. refl, tt), tt); values = tt; callers = ((tt, tt), tt) };
                },
              ),
            ),
            tt,
          ),
          (refl, tt),
        ),
        (((one_bit, tt), tt), tt),
      ),
    ),
    tt,
  ),
  (refl, tt),
)

no_wire_drops : (k : ℕ) → (get_or (record { input = true; ending = Output } ∷ []) k no_wire).ending ≡ Dropped → ⊥
no_wire_drops zero e = dropped_output (sym e)
no_wire_drops (suc k) e = dropped_output (sym e)

flipping_ends_well : EndsWell flipping
unfolding is_static value in_range is_turn fraction divisor flip
flipping_ends_well = record {
  inputs = λ w i d. no_wire_drops w.number d;
  dropped = λ s w lt d c. absurd (no_wire_drops w.number d);
  distinct = (refl, tt);
  free = ((there, refl), tt);
}

-- ---- a call's results, of which one is changed in a branch

first : 0 < 3
first = omega arith

second : 1 < 3
second = omega arith

third : 2 < 3
third = omega arith

-- a wire is not named where another one is
spares_other : (i j : ℕ) → i < 3 → among (wire_id j ∷ []) (wire_id i) ≡ false → (w : WireId) → among (wire_id j ∷ []) w ≡ true → list_any (named_by w) (all_made (wire_id i ∷ [])) ≡ false
spares_other i j lt e = none_named 3 (among (wire_id j ∷ [])) (all_made (wire_id i ∷ [])) ((lt, e), tt)

-- a wire that no step changes
stays : (a b : List Step) (v : WireId) → label_after a v ≡ label_after b v → (w : WireId) → same_wire v w ≡ true → label_after a w ≡ label_after b w
stays a b v e w h = subst (λ (n : ℕ). label_after a (record { number = n }) ≡ label_after b (record { number = n })) (eqb-true v.number w.number h) e

exchanging_is_fine : FineJob exchanging
unfolding is_static value in_range is_turn fraction divisor flip
exchanging_is_fine = (
  (
    (
      (refl, (refl, (refl, tt))),
      (
        (
          (
            (
              (((one_bit, tt), tt), (((one_bit, tt), tt), tt)),
              (((refl, (refl, tt)), ((((one_bit, tt), tt), (((one_bit, tt), tt), tt)), tt)), tt),
            ),
            tt,
          ),
          (refl, (refl, tt)),
        ),
        (
          (
            (one_bit, tt),
            (
              refl,
              (
                (
                  tt,
                  (
                    (
                      (
                        (
                          (((one_bit, tt), tt), tt),
                          (
                            refl,
                            λ keeps. record {
                              targets = ((second, refl), tt);
                              distinct = (refl, tt);
                              condition = ((third, refl), tt);
                              spared = record {
                                env = (tt, ((λ w h. refl, (λ w h. refl, (spares_other 2 1 third refl, (λ w h. refl, (spares_other 0 1 first refl, tt))))), tt));
                                values = tt;
                                callers = ((tt, tt), tt);
                              };
                            },
                          ),
                        ),
                        tt,
                      ),
                      (refl, tt),
                    ),
                    tt,
                  ),
                ),
                tt,
              ),
              ((tt, tt), tt),
              record {
                kept = stays (flattened exchanging).form.steps [] (wire_id 2) refl;
                outer_first = tt;
                outer_second = tt;
                zeroed_first = λ w lt z. z;
                zeroed_second = λ w lt z. z;
                stays_first = record { env = refl; values = refl; callers = refl };
                stays_second = record { env = refl; values = refl; callers = refl };
              },
            ),
          ),
          ((((one_bit, tt), tt), (((one_bit, tt), tt), tt)), tt),
        ),
      ),
    ),
    ((one_bit, tt), tt),
  ),
  (refl, (refl, (refl, tt))),
)
