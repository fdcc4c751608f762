-- Hadamard gates and measures on one term.
use Rattle.std.proofs.Common.{◌≡◌, ℕ, ◌+◌, ◌<◌, Bool, true, false, cond, ◌&&◌, ◌||◌, List, [], ◌∷◌, ◌++◌, length, Option, Some, None, refl, sym, ap, ap₂, ◌∙◌, arith, eqb, append-nil, add-zero}
use Rattle.std.specs.Bool.{beq}
use Rattle.std.proofs.Math.Path.{fun_ext}
use Rattle.std.proofs.lemmas.Bool.Decides.{Decides-eqb, same_from_decides}
use Rattle.flat_core.specs.declared.step.Lit.{Lit}
use Rattle.flat_core.specs.declared.step.Step.TheVariants.{H, M}
use Rattle.flat_core.specs.declared.step.WireId.{WireId}
use Rattle.flat_core.specs.Form.{DraftForm}
use Rattle.flat_core.specs.Label.{same_wire}
use Rattle.flat_core.specs.Drafts.{with_step}
use Rattle.flat_core.specs.Sound.{count_measures}
use Rattle.flat_mean.specs.Row.{Row, put, holds}
use Rattle.flat_mean.specs.Terms.{Term, branch, do_steps}
use Rattle.bit_arith.specs.declared.operand.Operand.{Operand}
use Rattle.bit_arith.specs.declared.operand.Operand.TheVariants.{Const, Literal}
use Rattle.bit_arith.specs.Built.{Built, Setting, under_condition}
use Rattle.bit_arith.specs.Rows.{had, had_under, measure}
use Rattle.bit_arith.specs.Values.{forced, all_hold}
use Rattle.bit_arith.specs.Does.{Grows, half, Splits, Measures}
use Rattle.bit_arith.proofs.Steps.{set_wire, set_idem, label-not, and_one, apart_above, clash}
use Rattle.bit_arith.proofs.Doing.{grows_none}

eqb_swap : (a b : ℕ) → eqb a b ≡ eqb b a
eqb_swap a b = same_from_decides (eqb a b) (eqb b a) (Decides-eqb a b) (let d = Decides-eqb b a in (λ h. sym (d.0 h), λ h. d.1 (sym h)))

-- a wire's value set, by its number
set_put : (w : WireId) (k : Bool) (v : Row) → set_wire w k v ≡ put w.number k v
set_put w k v = fun_ext (λ q. ap (λ c. cond c k (v q)) (eqb_swap w.number q))

abbrev term_of : Row → ℕ → ℕ → Term
term_of row h e = record { row = row; halvings = h; eighths = e }

-- ---- one Hadamard gate

pub grows_had : (d : DraftForm) (w : WireId) (c : Option Lit) (line : ℕ) → w.number < length d.wires → Grows d (with_step d (H w c) line) (same_wire w) (H w c ∷ [])
grows_had d w c line lt = record {
  more = 0;
  wires = sym (append-nil d.wires);
  steps = refl;
  spares = λ k l t. label-not (H w c) [] k t refl;
  above = λ k l. label-not (H w c) [] k (apart_above w.number k.number (omega (arith, lt, l))) refl;
}

-- one branch where the control holds, and where it does not
branch_on : (outcome : ℕ → Bool) (w : WireId) (c : Option Lit) (k : Bool) (t : Term) → holds t.row c ≡ true → branch outcome (H w c) k t ≡ half t w k ∷ []
branch_on outcome w c k t e =
    ap (λ b. cond ((b || beq k (t.row w.number)) && true) (term_of (set_wire w (cond b k (t.row w.number)) t.row) (t.halvings + cond b 1 0) (t.eighths + cond (b && (t.row w.number && k)) 4 0) ∷ []) []) e
    ∙ ap (λ (r : Row). term_of r (t.halvings + 1) (t.eighths + cond (t.row w.number && k) 4 0) ∷ []) (set_put w k t.row)

branch_off : (outcome : ℕ → Bool) (w : WireId) (c : Option Lit) (k : Bool) (t : Term) → holds t.row c ≡ false → branch outcome (H w c) k t ≡ cond (beq k (t.row w.number)) (t ∷ []) []
branch_off outcome w c k t e =
    ap (λ b. cond ((b || beq k (t.row w.number)) && true) (term_of (set_wire w (cond b k (t.row w.number)) t.row) (t.halvings + cond b 1 0) (t.eighths + cond (b && (t.row w.number && k)) 4 0) ∷ []) []) e
    ∙ (ap (λ b. cond b (term_of (set_wire w (t.row w.number) t.row) (t.halvings + 0) (t.eighths + 0) ∷ []) []) (and_one (beq k (t.row w.number)))
    ∙ ap (λ (u : Term). cond (beq k (t.row w.number)) (u ∷ []) []) (ap (λ (r : Row). term_of r (t.halvings + 0) (t.eighths + 0)) (set_idem t.row w (t.row w.number) refl) ∙ ap₂ (term_of t.row) (add-zero t.halvings) (add-zero t.eighths)))

had_on : (outcome : ℕ → Bool) (w : WireId) (c : Option Lit) (t : Term) → holds t.row c ≡ true → do_steps outcome (H w c ∷ []) (t ∷ []) ≡ half t w false ∷ half t w true ∷ []
had_on outcome w c t e = ap₂ (λ (xs ys : List Term). (xs ++ ys) ++ []) (branch_on outcome w c false t e) (branch_on outcome w c true t e)

had_off : (outcome : ℕ → Bool) (w : WireId) (c : Option Lit) (t : Term) → holds t.row c ≡ false → do_steps outcome (H w c ∷ []) (t ∷ []) ≡ t ∷ []
had_off outcome w c t e = ap₂ (λ (xs ys : List Term). (xs ++ ys) ++ []) (branch_off outcome w c false t e) (branch_off outcome w c true t e) ∙ one (t.row w.number)
  where
    one : (b : Bool) → (cond (beq false b) (t ∷ []) [] ++ cond (beq true b) (t ∷ []) []) ++ [] ≡ t ∷ []
    one true = refl
    one false = refl

-- an H whose control tells the condition in force
had_step : (at : Setting) (w : WireId) (c : Option Lit) (d : DraftForm) → w.number < length d.wires → ((v : Row) → holds v c ≡ forced at v) → Splits at w d (with_step d (H w c) at.line)
had_step at w c d lt h = record {
  new = H w c ∷ [];
  grows = grows_had d w c at.line lt;
  still = λ outcome t off. had_off outcome w c t (h t.row ∙ off);
  gives = λ outcome t on. had_on outcome w c t (h t.row ∙ on);
}

pub had_does : (at : Setting) (w : WireId) (b : Built) → w.number < length b.draft.wires → Splits at w b.draft (had at w b).draft
unfolding had
had_does at w b lt = go at.condition refl
  where
    shown : (c : Option Operand) → at.condition ≡ c → (v : Row) → forced at v ≡ all_hold v (under_condition c [])
    shown c e v = ap (λ x. all_hold v (under_condition x [])) e

    go : (c : Option Operand) → at.condition ≡ c → Splits at w b.draft (had_under at c w b).draft
    go None e = had_step at w None b.draft lt (λ v. sym (shown None e v))
    go (Some (Const true)) e = had_step at w None b.draft lt (λ v. sym (shown (Some (Const true)) e v))
    go (Some (Const false)) e = record {
      new = [];
      grows = grows_none b.draft (same_wire w);
      still = λ outcome t off. refl;
      gives = λ outcome t on. absurd (clash (sym (shown (Some (Const false)) e t.row) ∙ on));
    }
    go (Some (Literal l)) e = had_step at w (Some l) b.draft lt (λ v. sym (shown (Some (Literal l)) e v ∙ and_one (holds v (Some l))))

-- ---- one measure

pub measure_does : (at : Setting) (w : WireId) (b : Built) → Measures w (count_measures b.draft.steps) b.draft (measure at w b).draft
unfolding measure
measure_does at w b =
    let n : ℕ = count_measures b.draft.steps in
    record {
      new = M w n ∷ [];
      grows = record {
        more = 0;
        wires = sym (append-nil b.draft.wires);
        steps = refl;
        spares = λ k lt t. label-not (M w n) [] k refl refl;
        above = λ k le. label-not (M w n) [] k refl refl;
      };
      gives = λ outcome t.
          append-nil (branch outcome (M w n) false t)
          ∙ ap (λ (u : Term). cond (beq (t.row w.number) (outcome n)) (u ∷ []) []) (ap₂ (term_of t.row) (add-zero t.halvings) (add-zero t.eighths));
    }
