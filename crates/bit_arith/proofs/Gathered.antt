-- Literals gathered on one wire, and flips under literals.
use Rattle.std.proofs.Common.{◌≡◌, ℕ, suc, ◌≤◌, ◌<◌, Bool, true, false, ◌&&◌, List, [], ◌∷◌, ◌++◌, length, Some, None, refl, sym, ap, ap₂, ◌∙◌, subst, arith, length-append, append-nil, Option}
use Rattle.std.specs.Bool.{beq}
use Rattle.flat_core.specs.declared.step.Lit.{Lit}
use Rattle.flat_core.specs.declared.step.Step.{Step}
use Rattle.flat_core.specs.declared.step.Step.TheVariants.{X}
use Rattle.flat_core.specs.declared.step.WireId.{WireId}
use Rattle.flat_core.specs.declared.step.End.TheVariants.{Dropped}
use Rattle.flat_core.specs.Form.{DraftForm}
use Rattle.flat_core.specs.Label.{same_wire, wire_id}
use Rattle.flat_core.specs.Drafts.{with_wire, with_step}
use Rattle.flat_mean.specs.Row.{Row, flipped, holds, next}
use Rattle.bit_arith.specs.Built.{Built, Setting, push, new_wire, plus}
use Rattle.bit_arith.specs.Rows.{gathered, all_but_last, last_of, flip_lits}
use Rattle.bit_arith.specs.Calls.{Targets, no_target, SafeLit}
use Rattle.bit_arith.specs.Values.{Clean}
use Rattle.bit_arith.specs.Does.{after, AllX, Fresh, Grows, NoneNew}
use Rattle.bit_arith.proofs.Steps.{set_wire, set_same, set_idem, AllX-append, after-append, label-not, and_false, and_assoc, and_one, apart_below, apart_above, Agree, lits_hold, SafeLits, lit_same, lits_same}
use Rattle.bit_arith.proofs.Doing.{grown, grows_none, grows_then, grows_fresh, grows_clean, grows_agree, clean_above}

-- ---- one wire, one step

pub length-wire : (d : DraftForm) → length (with_wire d false).wires ≡ suc (length d.wires)
length-wire d = let e = length-append d.wires (record { input = false; ending = Dropped } ∷ []) in omega (arith, e)

pub grows_wire : (d : DraftForm) (T : Targets) → Grows d (with_wire d false) T []
grows_wire d T = record {
  more = 1;
  wires = refl;
  steps = sym (append-nil d.steps);
  spares = λ w lt t. refl;
  above = λ w le. refl;
}

pub grows_flip : (d : DraftForm) (w : WireId) (f s : Option Lit) (line : ℕ) → w.number < length d.wires → Grows d (with_step d (X w f s) line) (same_wire w) (X w f s ∷ [])
grows_flip d w f s line lt = record {
  more = 0;
  wires = sym (append-nil d.wires);
  steps = refl;
  spares = λ k l t. label-not (X w f s) [] k t refl;
  above = λ k l. label-not (X w f s) [] k (apart_above w.number k.number (omega (arith, lt, l))) refl;
}

-- a flip of a new wire
pub grows_new : (d : DraftForm) (f s : Option Lit) (line : ℕ) → Grows d (with_step (with_wire d false) (X (wire_id (length d.wires)) f s) line) no_target (X (wire_id (length d.wires)) f s ∷ [])
grows_new d f s line =
    let n : ℕ = length d.wires in
    let l : length (with_wire d false).wires ≡ suc n = length-wire d in
    grows_then no_target (grows_wire d no_target) (grows_flip (with_wire d false) (wire_id n) f s line (omega (arith, l)))
    (λ w lt t. (refl, apart_below w.number n lt))

pub idle : (v : Row) (w : WireId) (c : Bool) → c ≡ false → set_wire w (flipped (v w.number) c) v ≡ v
idle v w true e = cc
idle v w false e = set_idem v w (v w.number) refl

pub beq_one : (b : Bool) → beq b true ≡ b
beq_one true = refl
beq_one false = refl

-- a bit that was 0, flipped where c holds
pub flipped_zero : (b c : Bool) → b ≡ false → flipped b c ≡ c
flipped_zero true c e = cc
flipped_zero false true e = refl
flipped_zero false false e = refl

-- ---- gathered literals

-- X steps on new wires that put a conjunction into the answer, and that change nothing where its first literal is false
pub record Gathers (d e : DraftForm) (a : Lit) (cs : List Lit) (answer : Lit) : Type 0 where
  pub new : List Step
  pub grows : Grows d e no_target new
  pub all_x : AllX new
  pub safe : (U : Targets) → NoneNew d U → SafeLit (length d.wires) U a → SafeLit (length e.wires) U answer
  pub still : (v : Row) → Clean d v → holds v (Some a) ≡ false → after new v ≡ v
  pub gives : (v : Row) → Clean d v → holds (after new v) (Some answer) ≡ holds v (Some a) && lits_hold v cs

pub safe_lits_more : (n m : ℕ) (T U : Targets) (ls : List Lit) → n ≤ m → ((w : WireId) → w.number < n → T w ≡ false → U w ≡ false) → SafeLits n T ls → SafeLits m U ls
safe_lits_more n m T U [] le o s = tt
safe_lits_more n m T U (l ∷ ls) le o s = ((let lt = s.0.0 in omega (arith, lt, le), o l.wire s.0.0 s.0.1), safe_lits_more n m T U ls le o s.1)

pub gathers : (at : Setting) (a : Lit) (cs : List Lit) (b : Built) → Fresh b.draft → SafeLit (length b.draft.wires) no_target a → SafeLits (length b.draft.wires) no_target cs → Gathers b.draft (gathered at a cs b).built.draft a cs (gathered at a cs b).answer
gathers at a [] b f sa sc = record {
  new = [];
  grows = grows_none b.draft no_target;
  all_x = tt;
  safe = λ U o s. s;
  still = λ v c h. refl;
  gives = λ v c. sym (and_one (holds v (Some a)));
}
gathers at a (c ∷ cs) b f sa sc =
    let d : DraftForm = b.draft in
    let n : ℕ = length d.wires in
    let w : WireId = wire_id n in
    let s : Step = X w (Some a) (Some c) in
    let b1 : Built = push at s (new_wire b) in
    let g : Grows d b1.draft no_target (s ∷ []) = grows_new d (Some a) (Some c) at.line in
    let l : length b1.draft.wires ≡ suc n = length-wire d in
    let f1 : Fresh b1.draft = grows_fresh g f in
    let r : Gathers b1.draft (gathered at (plus w) cs b1).built.draft (plus w) cs (gathered at (plus w) cs b1).answer =
    gathers at (plus w) cs b1 f1 (omega (arith, l), refl) (safe_lits_more n (length b1.draft.wires) no_target no_target cs (omega (arith, l)) (λ k lt t. t) sc.1) in
    record {
      new = s ∷ r.new;
      grows = grows_then no_target g r.grows (λ k lt t. (t, t));
      all_x = (refl, r.all_x);
      safe = λ U o sl. r.safe U (λ k le. o k (omega (arith, l, le))) (omega (arith, l), o w (omega arith));
      still = λ v cl h.
          let zero_w : v n ≡ false = clean_above d v f cl w (omega arith) in
          let same : next s false v ≡ v = idle v w (holds v (Some a) && holds v (Some c)) (and_false (holds v (Some a)) (holds v (Some c)) h) in
          let cl1 : Clean b1.draft v = subst (Clean b1.draft) same (grows_clean g v cl) in
          ap (after r.new) same ∙ r.still v cl1 (ap (λ x. beq x true) zero_w);
      gives = λ v cl.
          let u : Row = next s false v in
          let zero_w : v n ≡ false = clean_above d v f cl w (omega arith) in
          let cl1 : Clean b1.draft u = grows_clean g v cl in
          let here : holds u (Some (plus w)) ≡ holds v (Some a) && holds v (Some c) =
          beq_one (u n) ∙ (set_same v w (flipped (v n) (holds v (Some a) && holds v (Some c))) ∙ flipped_zero (v n) (holds v (Some a) && holds v (Some c)) zero_w) in
          let rest : lits_hold u cs ≡ lits_hold v cs = lits_same n no_target u v cs sc.1 (grows_agree g v) in
          r.gives u cl1 ∙ (ap₂ ◌&&◌ here rest ∙ and_assoc (holds v (Some a)) (holds v (Some c)) (lits_hold v cs));
    }

-- ---- all but the last literal, and the last

pub lits_split : (v : Row) (c : Lit) (cs : List Lit) → lits_hold v (all_but_last c cs) && holds v (Some (last_of c cs)) ≡ lits_hold v (c ∷ cs)
lits_split v c [] = sym (and_one (holds v (Some c)))
lits_split v c (d ∷ ds) =
    and_assoc (holds v (Some c)) (lits_hold v (all_but_last d ds)) (holds v (Some (last_of d ds)))
    ∙ ap (λ x. holds v (Some c) && x) (lits_split v d ds)

pub safe_front : (n : ℕ) (T : Targets) (c : Lit) (cs : List Lit) → SafeLits n T (c ∷ cs) → SafeLits n T (all_but_last c cs)
safe_front n T c [] s = tt
safe_front n T c (d ∷ ds) s = (s.0, safe_front n T d ds s.1)

pub safe_last : (n : ℕ) (T : Targets) (c : Lit) (cs : List Lit) → SafeLits n T (c ∷ cs) → SafeLit n T (last_of c cs)
safe_last n T c [] s = s.0
safe_last n T c (d ∷ ds) s = safe_last n T d ds s.1

-- ---- a flip under literals

-- the first literal is false
abbrev pub FirstFalse : Row → List Lit → Type 0
FirstFalse v [] = ⊥
FirstFalse v (a ∷ ls) = holds v (Some a) ≡ false

pub record FlipsLits (d e : DraftForm) (w : WireId) (ls : List Lit) : Type 0 where
  pub new : List Step
  pub grows : Grows d e (same_wire w) new
  pub all_x : AllX new
  pub still : (v : Row) → Clean d v → FirstFalse v ls → after new v ≡ v
  pub gives : (v : Row) → Clean d v → after new v w.number ≡ flipped (v w.number) (lits_hold v ls)

pub flips_lits : (at : Setting) (w : WireId) (ls : List Lit) (b : Built) → Fresh b.draft → w.number < length b.draft.wires → SafeLits (length b.draft.wires) (same_wire w) ls → FlipsLits b.draft (flip_lits at w ls b).draft w ls
flips_lits at w [] b f hw s = record {
  new = X w None None ∷ [];
  grows = grows_flip b.draft w None None at.line hw;
  all_x = (refl, tt);
  still = λ v cl h. absurd h;
  gives = λ v cl. set_same v w (flipped (v w.number) true);
}
flips_lits at w (a ∷ []) b f hw s = record {
  new = X w (Some a) None ∷ [];
  grows = grows_flip b.draft w (Some a) None at.line hw;
  all_x = (refl, tt);
  still = λ v cl h. idle v w (holds v (Some a) && true) (and_false (holds v (Some a)) true h);
  gives = λ v cl. set_same v w (flipped (v w.number) (holds v (Some a) && true));
}
flips_lits at w (a ∷ c ∷ cs) b f hw s =
    let d : DraftForm = b.draft in
    let n : ℕ = length d.wires in
    let loose : (ls : List Lit) → SafeLits n (same_wire w) ls → SafeLits n no_target ls = λ ls t. safe_lits_more n n (same_wire w) no_target ls (omega arith) (λ k lt o. refl) t in
    let front : List Lit = all_but_last c cs in
    let l : Lit = last_of c cs in
    let sl : SafeLit n (same_wire w) l = safe_last n (same_wire w) c cs s.1 in
    let g : Gathers d (gathered at a front b).built.draft a front (gathered at a front b).answer =
    gathers at a front b f (s.0.0, refl) (loose front (safe_front n (same_wire w) c cs s.1)) in
    let e : DraftForm = (gathered at a front b).built.draft in
    let q : Lit = (gathered at a front b).answer in
    let up : n ≤ length e.wires = grown g.grows in
    let step : Step = X w (Some q) (Some l) in
    let h : Grows e (with_step e step at.line) (same_wire w) (step ∷ []) = grows_flip e w (Some q) (Some l) at.line (omega (arith, hw, up)) in
    record {
      new = g.new ++ step ∷ [];
      grows = grows_then (same_wire w) g.grows h (λ k lt t. (refl, t));
      all_x = AllX-append g.new (step ∷ []) g.all_x (refl, tt);
      still = λ v cl z.
          let same : after g.new v ≡ v = g.still v cl z in
          let off : holds v (Some q) ≡ false = ap (λ u. holds u (Some q)) (sym same) ∙ (g.gives v cl ∙ and_false (holds v (Some a)) (lits_hold v front) z) in
          after-append g.new (step ∷ []) v ∙ (ap (λ u. after (step ∷ []) u) same ∙ idle v w (holds v (Some q) && holds v (Some l)) (and_false (holds v (Some q)) (holds v (Some l)) off));
      gives = λ v cl.
          let u : Row = after g.new v in
          let agree : Agree n no_target u v = grows_agree g.grows v in
          let all : holds u (Some q) && holds u (Some l) ≡ holds v (Some a) && lits_hold v (c ∷ cs) =
          ap₂ ◌&&◌ (g.gives v cl) (lit_same n no_target u v l (sl.0, refl) agree)
          ∙ (and_assoc (holds v (Some a)) (lits_hold v front) (holds v (Some l)) ∙ ap (λ x. holds v (Some a) && x) (lits_split v c cs)) in
          ap (λ (r : Row). r w.number) (after-append g.new (step ∷ []) v)
          ∙ (set_same u w (flipped (u w.number) (holds u (Some q) && holds u (Some l))) ∙ ap₂ flipped (agree w hw refl) all);
    }
