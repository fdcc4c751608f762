-- Steps on one term, phases, and conjunctions without the condition in force.
use Rattle.std.proofs.Common.{◌≡◌, ℕ, ◌+◌, ◌%◌, ◌==◌, Bool, true, false, cond, ◌&&◌, List, [], ◌∷◌, ◌++◌, map, length, Option, Some, None, refl, sym, ap, ap₂, ◌∙◌, arith, append-nil, add-zero}
use Rattle.std.proofs.lemmas.Bool.{eqb-true}
use Rattle.flat_core.specs.declared.step.Lit.{Lit}
use Rattle.flat_core.specs.declared.step.Step.{Step}
use Rattle.flat_core.specs.declared.step.Step.TheVariants.{X, H, P, M}
use Rattle.flat_core.specs.declared.step.WireId.{WireId}
use Rattle.flat_core.specs.Form.{DraftForm}
use Rattle.flat_core.specs.Label.{wire_id}
use Rattle.flat_core.specs.Drafts.{with_step}
use Rattle.flat_mean.specs.Row.{Row, flipped, holds, next}
use Rattle.flat_mean.specs.Terms.{Term, each, do_step, do_steps}
use Rattle.bit_arith.specs.declared.operand.Operand.{Operand}
use Rattle.bit_arith.specs.Built.{Built, Setting, push, new_wire, plus, read, literals, under}
use Rattle.bit_arith.specs.Rows.{gathered, conjunction, conjunction_of, turn, turn_lits}
use Rattle.bit_arith.specs.Calls.{Targets, no_target, AllSafe}
use Rattle.bit_arith.specs.Values.{all_hold, forced, Clean}
use Rattle.bit_arith.specs.Does.{after, AllX, Fresh, Grows, Turns, Conjoins, front_holds}
use Rattle.bit_arith.proofs.Steps.{set_same, after-append, label-not, clash, and_false, lits_hold, SafeLits}
use Rattle.bit_arith.proofs.Doing.{grows_none, grows_then, clean_above}
use Rattle.bit_arith.proofs.Gathered.{FirstFalse, Gathers, gathers, grows_new, beq_one, flipped_zero}
use Rattle.bit_arith.proofs.Tidying.{tidied, IfList, tidy_holds, tidy_safe, reads_hold, reads_safe, guard_false, Reads, reads}

-- ---- steps on one term

pub do_steps-append : (outcome : ℕ → Bool) (xs ys : List Step) (ts : List Term) → do_steps outcome (xs ++ ys) ts ≡ do_steps outcome ys (do_steps outcome xs ts)
do_steps-append outcome [] ys ts = refl
do_steps-append outcome (x ∷ xs) ys ts = do_steps-append outcome xs ys (each (do_step outcome x) ts)

-- the term with another row, after more eighths
abbrev pub moved : Term → Row → ℕ → Term
moved t row more = record { row = row; halvings = t.halvings; eighths = t.eighths + more }

abbrev term_of : Row → ℕ → ℕ → Term
term_of row h e = record { row = row; halvings = h; eighths = e }

same_term : (t : Term) (row : Row) → term_of row (t.halvings + 0) (t.eighths + 0) ≡ term_of row t.halvings t.eighths
same_term t row = ap₂ (term_of row) (add-zero t.halvings) (add-zero t.eighths)

-- X steps make one term of one
pub flips_one : (outcome : ℕ → Bool) (ss : List Step) (t : Term) → AllX ss → do_steps outcome ss (t ∷ []) ≡ record { row = after ss t.row; halvings = t.halvings; eighths = t.eighths } ∷ []
flips_one outcome [] t h = refl
flips_one outcome (X w f s ∷ ss) t h =
    ap (λ u. do_steps outcome ss (u ∷ [])) (same_term t (next (X w f s) false t.row))
    ∙ flips_one outcome ss (record { row = next (X w f s) false t.row; halvings = t.halvings; eighths = t.eighths }) h.1
flips_one outcome (H w c ∷ ss) t h = absurd (clash h.0)
flips_one outcome (P e l ∷ ss) t h = absurd (clash h.0)
flips_one outcome (M w n ∷ ss) t h = absurd (clash h.0)

-- a phase after X steps
pub phase_one : (outcome : ℕ → Bool) (ss : List Step) (k : ℕ) (l : Lit) (t : Term) → AllX ss → do_steps outcome (ss ++ P k l ∷ []) (t ∷ []) ≡ moved t (after ss t.row) (cond (holds (after ss t.row) (Some l)) k 0) ∷ []
phase_one outcome ss k l t h =
    do_steps-append outcome ss (P k l ∷ []) (t ∷ [])
    ∙ (ap (do_steps outcome (P k l ∷ [])) (flips_one outcome ss t h)
    ∙ ap (λ (n : ℕ). record { row = after ss t.row; halvings = n; eighths = t.eighths + cond (holds (after ss t.row) (Some l)) k 0 } ∷ []) (add-zero t.halvings))

pub after_phase : (ss : List Step) (k : ℕ) (l : Lit) (v : Row) → after (ss ++ P k l ∷ []) v ≡ after ss v
after_phase ss k l v = after-append ss (P k l ∷ []) v

-- ---- a phase where a conjunction holds

pub grows_phase : (d : DraftForm) (k : ℕ) (l : Lit) (line : ℕ) (T : Targets) → Grows d (with_step d (P k l) line) T (P k l ∷ [])
grows_phase d k l line T = record {
  more = 0;
  wires = sym (append-nil d.wires);
  steps = refl;
  spares = λ w lt t. label-not (P k l) [] w refl refl;
  above = λ w le. label-not (P k l) [] w refl refl;
}

turn_none : (at : Setting) (k : ℕ) (ps : List Operand) (d : DraftForm) → ((v : Row) → Clean d v → cond (forced at v && all_hold v ps) (k % 8) 0 ≡ 0) → Turns at k ps d d
turn_none at k ps d h = record {
  new = [];
  grows = grows_none d no_target;
  still = λ v c off. refl;
  gives = λ outcome t c. ap (λ (n : ℕ). record { row = t.row; halvings = t.halvings; eighths = n } ∷ []) (sym (add-zero t.eighths) ∙ ap (λ (m : ℕ). t.eighths + m) (sym (h t.row c)));
}

-- X steps that put on a literal whether condition and operands hold, and its phase
turn_lit : (at : Setting) (k : ℕ) (ps : List Operand) (d e : DraftForm) (l : Lit) (new : List Step) → Grows d e no_target new → AllX new → ((v : Row) → Clean d v → forced at v ≡ false → after new v ≡ v) → ((v : Row) → Clean d v → holds (after new v) (Some l) ≡ forced at v && all_hold v ps) → Turns at k ps d (with_step e (P (k % 8) l) at.line)
turn_lit at k ps d e l new g x st h = record {
  new = new ++ P (k % 8) l ∷ [];
  grows = grows_then no_target g (grows_phase e (k % 8) l at.line no_target) (λ w lt t. (t, t));
  still = λ v c off. after_phase new (k % 8) l v ∙ st v c off;
  gives = λ outcome t c.
      phase_one outcome new (k % 8) l t x
      ∙ ap₂ (λ (r : Row) (b : Bool). moved t r (cond b (k % 8) 0) ∷ []) (sym (after_phase new (k % 8) l t.row)) (h t.row c);
}

first_off : (a b : Bool) → a && b ≡ true → a ≡ true
first_off true b h = refl
first_off false b h = cc

both_ways : (at : Setting) (d : DraftForm) (ps : List Operand) (o : Option (List Lit)) → Reads at d no_target ps o → (v : Row) → Clean d v → (b : Bool) → (IfList o (FirstFalse v) → b ≡ false) → (tidied v o ≡ b) → b ≡ forced at v && all_hold v ps
both_ways at d ps o r v c b off on = pick (forced at v) refl
  where
    pick : (x : Bool) → forced at v ≡ x → b ≡ x && all_hold v ps
    pick true e = sym on ∙ r.on v c e
    pick false e = off (r.off v c e)

turn_by : (at : Setting) (k : ℕ) (ps : List Operand) (b : Built) → Fresh b.draft → (o : Option (List Lit)) → Reads at b.draft no_target ps o → Turns at k ps b.draft (turn_lits at (k % 8) o b).draft
turn_by at k ps b f None r = turn_none at k ps b.draft (λ v c. ap (λ x. cond x (k % 8) 0) (sym (both_ways at b.draft ps None r v c false (λ z. refl) refl)))
turn_by at k ps b f (Some []) r =
    let n : ℕ = length b.draft.wires in
    let w : WireId = wire_id n in
    turn_lit at k ps b.draft (push at (X w None None) (new_wire b)).draft (plus w) (X w None None ∷ []) (grows_new b.draft None None at.line) (refl, tt)
    (λ v c off. absurd (r.off v c off))
    (λ v c.
    beq_one (after (X w None None ∷ []) v n)
    ∙ (set_same v w (flipped (v n) true)
    ∙ (flipped_zero (v n) true (clean_above b.draft v f c w (omega arith)) ∙ both_ways at b.draft ps (Some []) r v c true (λ z. absurd z) refl)))
turn_by at k ps b f (Some (l ∷ ls)) r =
    let g : Gathers b.draft (gathered at l ls b).built.draft l ls (gathered at l ls b).answer = gathers at l ls b f r.safe.0 r.safe.1 in
    turn_lit at k ps b.draft (gathered at l ls b).built.draft (gathered at l ls b).answer g.new g.grows g.all_x
    (λ v c off. g.still v c (r.off v c off))
    (λ v c. g.gives v c ∙ both_ways at b.draft ps (Some (l ∷ ls)) r v c (lits_hold v (l ∷ ls)) (λ z. and_false (holds v (Some l)) (lits_hold v ls) z) refl)

pub turn_does : (at : Setting) (k : ℕ) (ps : List Operand) (b : Built) → Fresh b.draft → AllSafe (length b.draft.wires) no_target (under at ps) → Turns at k ps b.draft (turn at k ps b).draft
unfolding turn
turn_does at k ps b f s = go (k % 8 == 0) refl (turn_by at k ps b f (literals b.draft (under at ps)) (reads at b.draft no_target ps s))
  where
    no_turn : (x : Bool) (m : ℕ) → m ≡ 0 → cond x m 0 ≡ 0
    no_turn true m e = e
    no_turn false m e = refl

    go : (z : Bool) → (k % 8 == 0) ≡ z → Turns at k ps b.draft (turn_lits at (k % 8) (literals b.draft (under at ps)) b).draft → Turns at k ps b.draft (cond z b (turn_lits at (k % 8) (literals b.draft (under at ps)) b)).draft
    go true e t = turn_none at k ps b.draft (λ v c. no_turn (forced at v && all_hold v ps) (k % 8) (eqb-true (k % 8) 0 e))
    go false e t = t

-- ---- one operand for a conjunction

first_of : (d : DraftForm) (v : Row) (ps : List Operand) → Clean d v → front_holds v ps ≡ false → IfList (literals d ps) (FirstFalse v)
first_of d v [] c off = cc
first_of d v (p ∷ ps) c off = guard_false d v (Some p) ps c (ap (λ x. x && true) off)

conjoined : (at : Setting) (ps : List Operand) (b : Built) → Fresh b.draft → (o : Option (List Lit)) → ((T : Targets) → AllSafe (length b.draft.wires) T ps → IfList o (SafeLits (length b.draft.wires) T)) → AllSafe (length b.draft.wires) no_target ps → ((v : Row) → Clean b.draft v → front_holds v ps ≡ false → IfList o (FirstFalse v)) → ((v : Row) → Clean b.draft v → tidied v o ≡ all_hold v ps) → Conjoins ps b.draft (conjunction_of at o b)
conjoined at ps b f None safe s off on = record {
  new = [];
  grows = grows_none b.draft no_target;
  all_x = tt;
  still = λ v c h. refl;
  gives = λ v c. on v c;
  safe = λ T o z. tt;
}
conjoined at ps b f (Some []) safe s off on = record {
  new = [];
  grows = grows_none b.draft no_target;
  all_x = tt;
  still = λ v c h. refl;
  gives = λ v c. on v c;
  safe = λ T o z. tt;
}
conjoined at ps b f (Some (l ∷ ls)) safe s off on =
    let sl = safe no_target s in
    let g : Gathers b.draft (gathered at l ls b).built.draft l ls (gathered at l ls b).answer = gathers at l ls b f sl.0 sl.1 in
    record {
      new = g.new;
      grows = g.grows;
      all_x = g.all_x;
      still = λ v c h. g.still v c (off v c h);
      gives = λ v c. g.gives v c ∙ on v c;
      safe = λ T o z. g.safe T o (safe T z).0;
    }

pub conjunction_is : (at : Setting) (ps : List Operand) (b : Built) → Fresh b.draft → AllSafe (length b.draft.wires) no_target ps → Conjoins ps b.draft (conjunction at ps b)
unfolding conjunction
conjunction_is at ps b f s =
    let n : ℕ = length b.draft.wires in
    conjoined at ps b f (literals b.draft ps) (λ T z. tidy_safe n T (map (read b.draft) ps) [] (reads_safe b.draft n T ps z) tt) s
    (λ v c off. first_of b.draft v ps c off)
    (λ v c. tidy_holds v (map (read b.draft) ps) [] ∙ reads_hold b.draft v ps c)
