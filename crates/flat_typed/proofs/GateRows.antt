-- Rows of gates on one wire: they touch this wire alone, and mix no other.
use Rattle.std.proofs.Common.{◌≡◌, ◌⊎◌, inl, inr, ℕ, ◌+◌, ◌≤◌, ◌<◌, Bool, true, false, cond, ◌||◌, List, [], ◌∷◌, length, Option, Some, None, refl, sym, ap, ◌∙◌, subst, arith}
use Rattle.std.proofs.Math.Bool.{or-false}
use Rattle.silq_types.specs.declared.values.Part.{Part}
use Rattle.silq_types.specs.declared.values.Value.{Value}
use Rattle.silq_types.specs.Types.{is_linear}
use Rattle.check_scope.specs.Context.{Context}
use Rattle.flat_core.specs.declared.step.Step.TheVariants.{H}
use Rattle.flat_core.specs.declared.step.WireId.{WireId}
use Rattle.flat_core.specs.declared.step.Lit.{Lit}
use Rattle.flat_core.specs.Form.{WireForm}
use Rattle.flat_core.specs.Label.{same_wire, wire_in}
use Rattle.flat_core.proofs.Labels.{is_measured-push}
use Rattle.bit_arith.specs.declared.operand.Operand.{Operand}
use Rattle.bit_arith.specs.declared.operand.Operand.TheVariants.{Const, Literal}
use Rattle.bit_arith.specs.Built.{Built, Setting, push}
use Rattle.bit_arith.specs.Rows.{flip, had, had_under}
use Rattle.bit_arith.specs.Calls.{Targets}
use Rattle.flat_form.specs.State.{Flattening, wires_in}
use Rattle.flat_form.specs.Flat.{turn_both}
use Rattle.flat_form.specs.Names.{AllOf}
use Rattle.flat_typed.specs.Places.{Places, times_in, linear_holders, linear_carriers, owners_of, linear_owners}
use Rattle.flat_typed.specs.Footprint.{Touches, StaysPlain, Unmade, is_mixed}
use Rattle.flat_typed.specs.Relation.{Outside, Stands}
use Rattle.flat_typed.proofs.Growing.{Plain}
use Rattle.flat_typed.proofs.Flipping.{Flips, MayFlip, flips_flip}
use Rattle.flat_typed.proofs.Touching.{flips_touch, flips_stay_plain, flips_unmade, flips_turn_both}
use Rattle.flat_typed.proofs.Telling.{other_wire, had_touches, had_mixes}
use Rattle.flat_typed.proofs.Mixing.{Mixes}

-- a value under way counts by its place, and by whether it is Linear
pub stands_as : (out : Outside) (held : List (List Part)) (W : Places) (under : List Value) (c : Context) (s : Flattening) (v u : Value) → u.place ≡ v.place → (is_linear v.origin ≡ true → is_linear u.origin ≡ true) → Stands out held W (v ∷ under) c s → Stands out held W (u ∷ under) c s
stands_as out held W under c s v u same linear r = record {
  env = r.env;
  differ = r.differ;
  parts = r.parts;
  one = λ w. let a = owners w in let d = r.one w in omega (arith, a, d);
  free = λ w le. r.free w (before w le);
  untold = λ w le. r.untold w (before w le);
  shared = λ w le. r.shared w (before w le);
  callers = λ w le. r.callers w (before w le);
  guards = r.guards;
  below = r.below;
  spares = r.spares;
  carried = (subst (λ n. AllOf (λ w. out.guarded w ≡ false) (wires_in (W n))) (sym same) r.carried.0, r.carried.1);
  owed = λ w o. grown w (r.owed w o);
}
  where
    times : (w : WireId) → times_in w (W u.place) ≡ times_in w (W v.place)
    times w = ap (λ n. times_in w (W n)) same

    owners : (w : WireId) → owners_of W c.vars (u ∷ under) w ≡ owners_of W c.vars (v ∷ under) w
    owners w = let a = times w in omega (arith, a)

    before : (w : WireId) → 1 ≤ owners_of W c.vars (u ∷ under) w → 1 ≤ owners_of W c.vars (v ∷ under) w
    before w le = let a = owners w in omega (arith, a, le)

    more : (w : WireId) → linear_owners W c.vars (v ∷ under) w ≤ linear_owners W c.vars (u ∷ under) w
    more w = go (is_linear v.origin) refl
      where
        go : (t : Bool) → is_linear v.origin ≡ t → linear_holders W c.vars w c.vars + (cond t (times_in w (W v.place)) 0 + linear_carriers W w under) ≤ linear_owners W c.vars (u ∷ under) w
        go true e =
            let a : cond (is_linear u.origin) (times_in w (W u.place)) 0 ≡ times_in w (W u.place) = ap (λ t. cond t (times_in w (W u.place)) 0) (linear e) in
            let b = times w in
            omega (arith, a, b)
        go false e = omega arith

    grown : (w : WireId) → (1 ≤ linear_owners W c.vars (v ∷ under) w) ⊎ (out.answered w ≡ true) → (1 ≤ linear_owners W c.vars (u ∷ under) w) ⊎ (out.answered w ≡ true)
    grown w (inl le) = inl (let a = more w in omega (arith, a, le))
    grown w (inr a) = inr a

-- ---- gates

-- no wire that is to come is mixed
abbrev pub NoneMixed : Built → Type 0
NoneMixed b = (w : WireId) → length b.draft.wires ≤ w.number → is_mixed b.draft.steps w ≡ false

pub record IsGate (G : Setting → WireId → Built → Built) : Type 0 where
  pub touches : (at : Setting) (w : WireId) (b : Built) (T : Targets) → T w ≡ true → Touches T b.draft (G at w b).draft
  pub mixes : (at : Setting) (w : WireId) (b : Built) (ps : List Operand) → 1 ≤ times_in w ps → NoneMixed b → Mixes ps b.draft (G at w b).draft
  pub unmade : (at : Setting) (w : WireId) (b : Built) → Unmade b.draft → Unmade (G at w b).draft

-- it mixes nothing
pub record IsPlainGate (G : Setting → WireId → Built → Built) : Type 0 where
  pub plain : (at : Setting) (w : WireId) (b : Built) → NoneMixed b → Plain b.draft (G at w b).draft
  pub stays : (at : Setting) (w : WireId) (b : Built) → StaysPlain b.draft (G at w b).draft

flips_mixed : (T : Targets) (n : ℕ) (b e : Built) (ps : List Operand) → Flips T n b e → NoneMixed b → Mixes ps b.draft e.draft
flips_mixed T n b e ps f none = record {
  grown = f.few;
  measured = λ w l. f.measured w;
  mixed = λ w m. inl (sym (f.mixed w) ∙ m);
  wires = f.wires;
  new = λ w le lt. (ap (λ (r : WireForm). r.input) (f.new w le lt), f.mixed w ∙ none w le);
}

flips_unmixed : (T : Targets) (n : ℕ) (b e : Built) → Flips T n b e → NoneMixed b → Plain b.draft e.draft
flips_unmixed T n b e f none = record {
  grown = f.few;
  measured = λ w l. f.measured w;
  mixed = f.mixed;
  wires = f.wires;
  new = λ w le lt. (ap (λ (r : WireForm). r.input) (f.new w le lt), f.mixed w ∙ none w le);
}

module _ (G : Setting → WireId → Built → Built) (flips : (T : Targets) (n : ℕ) (at : Setting) (w : WireId) (b : Built) → n ≤ length b.draft.wires → MayFlip T n w → Flips T n b (G at w b)) where
  none : (at : Setting) (w : WireId) (b : Built) → Flips (λ v. false) 0 b (G at w b)
  none at w b = flips (λ v. false) 0 at w b (omega arith) (λ v l f. absurd (omega (arith, l)))

  flips_gate : IsGate G
  flips_gate = record {
    touches = λ at w b T t. flips_touch T b (G at w b) (flips T (length b.draft.wires) at w b (omega arith) (λ v l f. other_wire T w v t f));
    mixes = λ at w b ps le m. flips_mixed (λ v. false) 0 b (G at w b) ps (none at w b) m;
    unmade = λ at w b u. flips_unmade (λ v. false) 0 b (G at w b) (none at w b) u;
  }

  flips_plain_gate : IsPlainGate G
  flips_plain_gate = record {
    plain = λ at w b m. flips_unmixed (λ v. false) 0 b (G at w b) (none at w b) m;
    stays = λ at w b. flips_stay_plain (λ v. false) 0 b (G at w b) (none at w b);
  }

pub flip_gate : IsGate (λ at w b. flip at w [] b)
flip_gate = flips_gate (λ at w b. flip at w [] b) (λ T n at w b le may. flips_flip T n at w [] b le may)

pub flip_plain : IsPlainGate (λ at w b. flip at w [] b)
flip_plain = flips_plain_gate (λ at w b. flip at w [] b) (λ T n at w b le may. flips_flip T n at w [] b le may)

pub turn_gate : (k l : ℕ) → IsGate (turn_both k l)
turn_gate k l = flips_gate (turn_both k l) (λ T n at w b le may. flips_turn_both T n k l at w b le)

pub turn_plain : (k l : ℕ) → IsPlainGate (turn_both k l)
turn_plain k l = flips_plain_gate (turn_both k l) (λ T n at w b le may. flips_turn_both T n k l at w b le)

had_unmade : (at : Setting) (w : WireId) (b : Built) → Unmade b.draft → Unmade (had at w b).draft
unfolding had
had_unmade at w b u = go at.condition
  where
    pushed : (o : Option Lit) → Unmade (push at (H w o) b).draft
    pushed o v le = is_measured-push b.draft.steps (H w o) v ∙ (or-false _ ∙ u v le)

    go : (o : Option Operand) → Unmade (had_under at o w b).draft
    go None = pushed None
    go (Some (Const true)) = pushed None
    go (Some (Const false)) = u
    go (Some (Literal l)) = pushed (Some l)

pub had_gate : IsGate had
had_gate = record {
  touches = λ at w b T t. had_touches T at w b t;
  mixes = λ at w b ps le m. had_mixes ps at w b le;
  unmade = had_unmade;
}
