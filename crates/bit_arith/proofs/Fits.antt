-- The steps of conjunctions and flips name different wires, and no blank one as a control.
use Rattle.std.proofs.Common.{◌≡◌, ◌≢◌, ℕ, ◌+◌, ◌<◌, ◌≤◌, ◌⊎◌, Bool, true, false, cond, not, ◌&&◌, ◌==◌, List, [], ◌∷◌, ◌++◌, length, map, Option, Some, None, IfSome, refl, sym, ap, ◌∙◌, subst, inl, inr, arith}
use Rattle.std.specs.Bool.{beq}
use Rattle.std.proofs.lemmas.Bool.{eqb-false, ne_eqb, or_parts, or_from, cond_both, and_right}
use Rattle.flat_core.specs.declared.step.Step.{Step}
use Rattle.flat_core.specs.declared.step.Step.TheVariants.{X, H, P}
use Rattle.flat_core.specs.declared.step.WireId.{WireId}
use Rattle.flat_core.specs.declared.step.Lit.{Lit}
use Rattle.flat_core.specs.declared.step.End.TheVariants.{Dropped}
use Rattle.flat_core.specs.Form.{WireForm, DraftForm}
use Rattle.flat_core.specs.Label.{wire_id, same_wire, wire_in, label_after, changes}
use Rattle.flat_core.specs.Drafts.{with_step, with_wire, IsNextStep}
use Rattle.flat_core.proofs.Labels.{label_after-push, same_wire-refl}
use Rattle.flat_core.proofs.NextSteps.{input_with_wire}
use Rattle.bit_arith.specs.declared.operand.Operand.{Operand}
use Rattle.bit_arith.specs.declared.operand.Operand.TheVariants.{Const, Literal}
use Rattle.bit_arith.specs.Built.{Built, Setting, push, new_wire, next_wire, plus, blank, read, opposite, same_lit, has, tidy, literals}
use Rattle.bit_arith.specs.Rows.{gathered, all_but_last, last_of, flip_lits}
use Rattle.bit_arith.specs.Calls.{Targets, AllSafe, among, no_target, IsTarget}
use Rattle.bit_arith.specs.Fits.{FitsLit, wires_in, LitsFit}
use Rattle.bit_arith.proofs.Grows.{length-new_wire}

-- ---- one step

-- a wire that is not blank is an input or has a label above 0
known_lit : (i : Bool) (n : ℕ) → not i && (n == 0) ≡ false → (i ≡ true) ⊎ (0 < n)
known_lit true n h = inl refl
known_lit false n h = inr (positive n h)
  where
    positive : (n : ℕ) → (n == 0) ≡ false → 0 < n
    positive n h = let ne = eqb-false n 0 h in omega arith

pub known : (d : DraftForm) (w : WireId) → blank d w ≡ false → ((wire_in d.wires w).input ≡ true) ⊎ (0 < label_after d.steps w)
known d w h = known_lit (wire_in d.wires w).input (label_after d.steps w) h

pub apart : (v w : WireId) → same_wire v w ≡ false → v.number ≢ w.number
apart v w h = eqb-false v.number w.number h

pub next_flip : (d : DraftForm) (w : WireId) → IsTarget d w → IsNextStep d (X w None None)
next_flip d w t = record {
  there = (t.0, (tt, tt));
  differ = (tt, tt, tt);
  known = (tt, tt);
  unmeasured = t.1;
  eighths = tt;
  next_number = tt;
}

pub next_flip_by : (d : DraftForm) (w : WireId) (a : Lit) → IsTarget d w → FitsLit d (same_wire w) a → IsNextStep d (X w (Some a) None)
next_flip_by d w a t f = record {
  there = (t.0, (f.0.0, tt));
  differ = (apart w a.wire f.0.1, tt, tt);
  known = (known d a.wire f.1, tt);
  unmeasured = t.1;
  eighths = tt;
  next_number = tt;
}

pub next_flip_both : (d : DraftForm) (w : WireId) (a c : Lit) → IsTarget d w → LitsFit d (same_wire w) (a ∷ c ∷ []) → IsNextStep d (X w (Some a) (Some c))
next_flip_both d w a c t f = record {
  there = (t.0, (f.0.0.0, f.2.0.0.0));
  differ = (apart w a.wire f.0.0.1, apart w c.wire f.2.0.0.1, apart a.wire c.wire (or_parts (same_wire a.wire c.wire) false f.1).0);
  known = (known d a.wire f.0.1, known d c.wire f.2.0.1);
  unmeasured = t.1;
  eighths = tt;
  next_number = tt;
}

pub next_had : (d : DraftForm) (w : WireId) (o : Option Lit) → IsTarget d w → IfSome o (FitsLit d (same_wire w)) → IsNextStep d (H w o)
next_had d w None t f = record {
  there = (t.0, (tt, tt));
  differ = (tt, tt, tt);
  known = (tt, tt);
  unmeasured = t.1;
  eighths = tt;
  next_number = tt;
}
next_had d w (Some a) t f = record {
  there = (t.0, (f.0.0, tt));
  differ = (apart w a.wire f.0.1, tt, tt);
  known = (known d a.wire f.1, tt);
  unmeasured = t.1;
  eighths = tt;
  next_number = tt;
}

pub next_turn : (d : DraftForm) (k : ℕ) (l : Lit) → 0 < k → k < 8 → FitsLit d no_target l → IsNextStep d (P k l)
next_turn d k l low high f = record {
  there = (tt, (f.0.0, tt));
  differ = (tt, tt, tt);
  known = (known d l.wire f.1, tt);
  unmeasured = tt;
  eighths = (low, high);
  next_number = tt;
}

-- ---- wires that are not blank stay so

raised : (i : Bool) (n c : ℕ) → not i && (n == 0) ≡ false → not i && (n + c == 0) ≡ false
raised true n c h = refl
raised false n c h = up n c h
  where
    up : (n c : ℕ) → (n == 0) ≡ false → (n + c == 0) ≡ false
    up n c h = let ne = eqb-false n 0 h in ne_eqb (n + c) 0 (λ e. ne (omega arith))

pub blank_step : (d : DraftForm) (s : Step) (line : ℕ) (w : WireId) → blank d w ≡ false → blank (with_step d s line) w ≡ false
blank_step d s line w h =
    ap (λ (n : ℕ). not (wire_in d.wires w).input && (n == 0)) (label_after-push d.steps s w) ∙ raised (wire_in d.wires w).input (label_after d.steps w) (cond (changes w s) 1 0) h

pub blank_wire : (d : DraftForm) (w : WireId) → w.number < length d.wires → blank (with_wire d false) w ≡ blank d w
blank_wire d w there =
    let new : WireForm = record { input = false; ending = Dropped } in
    ap (λ (i : Bool). not i && (label_after d.steps w == 0)) (input_with_wire d.wires (new ∷ []) w there)

-- a wire that was just flipped is not blank
pub blank_flipped : (d : DraftForm) (w : WireId) (a c : Option Lit) (line : ℕ) → blank (with_step d (X w a c) line) w ≡ false
blank_flipped d w a c line =
    ap (λ (n : ℕ). not (wire_in d.wires w).input && (n == 0)) (label_after-push d.steps (X w a c) w ∙ ap (λ (b : Bool). label_after d.steps w + cond b 1 0) (same_wire-refl w))
    ∙ and_right (not (wire_in d.wires w).input) (label_after d.steps w + 1 == 0) (above (label_after d.steps w))
  where
    above : (n : ℕ) → (n + 1 == 0) ≡ false
    above n = ne_eqb (n + 1) 0 (λ e. omega arith)

-- ---- literals after one fold

flipped_eq : (a c : WireId) → same_wire a c ≡ false → same_wire c a ≡ false
flipped_eq a c h = let ne = eqb-false a.number c.number h in ne_eqb c.number a.number (λ e. ne (sym e))

wire_differs : (n m : ℕ) → n < m → (m == n) ≡ false
wire_differs n m h = ne_eqb m n (λ e. omega arith)

-- literals from before are on no wire that is new
off_top : (d : DraftForm) (T : Targets) (ls : List Lit) → LitsFit d T ls → among (wires_in ls) (wire_id (length d.wires)) ≡ false
off_top d T [] h = refl
off_top d T (l ∷ ls) h = or_from (length d.wires == l.wire.number) (among (wires_in ls) (wire_id (length d.wires))) (wire_differs l.wire.number (length d.wires) h.0.0.0) (off_top d T ls h.2)

pub fit_more : (at : Setting) (T : Targets) (b : Built) (x y : Option Lit) (l : Lit) → FitsLit b.draft T l → FitsLit (push at (X (next_wire b) x y) (new_wire b)).draft T l
fit_more at T b x y l f =
    let longer = length-new_wire b in
    ((omega (arith, f.0.0), f.0.1), blank_step (new_wire b).draft (X (next_wire b) x y) at.line l.wire (blank_wire b.draft l.wire f.0.0 ∙ f.1))

pub fits_more : (at : Setting) (T : Targets) (b : Built) (x y : Option Lit) (ls : List Lit) → LitsFit b.draft T ls → LitsFit (push at (X (next_wire b) x y) (new_wire b)).draft T ls
fits_more at T b x y [] h = tt
fits_more at T b x y (l ∷ ls) h = (fit_more at T b x y l h.0, h.1, fits_more at T b x y ls h.2)

-- the wire that is made is a fit control then
pub made_fits : (at : Setting) (T : Targets) (b : Built) (x y : Option Lit) → T (next_wire b) ≡ false → FitsLit (push at (X (next_wire b) x y) (new_wire b)).draft T (plus (next_wire b))
made_fits at T b x y free =
    let longer = length-new_wire b in
    ((omega arith, free), blank_flipped (new_wire b).draft (next_wire b) x y at.line)

-- the literals from before may control the flip of a new wire
fit_new : (T : Targets) (b : Built) (l : Lit) → FitsLit b.draft T l → FitsLit (new_wire b).draft (same_wire (next_wire b)) l
fit_new T b l f =
    let longer = length-new_wire b in
    ((omega (arith, f.0.0), wire_differs l.wire.number (length b.draft.wires) f.0.0), blank_wire b.draft l.wire f.0.0 ∙ f.1)

-- one fold: its step is fit, and so are the literals that are left
pub fold_next : (T : Targets) (b : Built) (a c : Lit) (cs : List Lit) → LitsFit b.draft T (a ∷ c ∷ cs) → LitsFit (new_wire b).draft (same_wire (next_wire b)) (a ∷ c ∷ [])
fold_next T b a c cs h =
    let differ = (or_parts (same_wire a.wire c.wire) (among (wires_in cs) a.wire) h.1).0 in
    (fit_new T b a h.0, or_from (same_wire a.wire c.wire) false differ refl, (fit_new T b c h.2.0, refl, tt))

pub fold_fits : (at : Setting) (T : Targets) (b : Built) (a c : Lit) (cs : List Lit)
    → T (next_wire b) ≡ false
    → LitsFit b.draft T (a ∷ c ∷ cs)
    → LitsFit (push at (X (next_wire b) (Some a) (Some c)) (new_wire b)).draft T (plus (next_wire b) ∷ cs)
fold_fits at T b a c cs free h =
    (made_fits at T b (Some a) (Some c) free, off_top b.draft T cs h.2.2, fits_more at T b (Some a) (Some c) cs h.2.2)

-- what is gathered, and the literals that are left, are fit
pub gathered_fits : (at : Setting) (T : Targets) (a : Lit) (cs more : List Lit) (b : Built)
    → ((w : WireId) → length b.draft.wires ≤ w.number → T w ≡ false)
    → LitsFit b.draft T (a ∷ (cs ++ more))
    → LitsFit (gathered at a cs b).built.draft T ((gathered at a cs b).answer ∷ more)
gathered_fits at T a [] more b free h = h
gathered_fits at T a (c ∷ cs) more b free h =
    gathered_fits at T (plus (next_wire b)) cs more (push at (X (next_wire b) (Some a) (Some c)) (new_wire b))
    (λ w l. let longer = length-new_wire b in free w (omega arith))
    (fold_fits at T b a c (cs ++ more) (free (next_wire b) (omega arith)) h)

-- ---- operands that were read, and tidied

abbrev pub OpsFit : DraftForm → Targets → List Operand → Type 0
OpsFit d T [] = Unit {0}
OpsFit d T (Const x ∷ ps) = OpsFit d T ps
OpsFit d T (Literal l ∷ ps) = FitsLit d T l × OpsFit d T ps

pub reads_fit : (d : DraftForm) (T : Targets) (ps : List Operand) → AllSafe (length d.wires) T ps → OpsFit d T (map (read d) ps)
reads_fit d T [] s = tt
reads_fit d T (Const x ∷ ps) s = reads_fit d T ps s.1
reads_fit d T (Literal l ∷ ps) s =
    cond_both (blank d l.wire) (Const (not l.positive)) (Literal l) (λ (p : Operand). OpsFit d T (p ∷ map (read d) ps)) (λ e. reads_fit d T ps s.1) (λ e. ((s.0, e), reads_fit d T ps s.1))

-- a wire of which neither sign is kept
unkept : (ls : List Lit) (l : Lit) → has ls l ≡ false → has ls (opposite l) ≡ false → among (wires_in ls) l.wire ≡ false
unkept [] l h k = refl
unkept (x ∷ ls) l h k =
    let (a, c) = or_parts (same_lit l x) (has ls l) h in
    let (e, g) = or_parts (same_lit (opposite l) x) (has ls (opposite l)) k in
    or_from (same_wire l.wire x.wire) (among (wires_in ls) l.wire) (one (same_wire l.wire x.wire) l.positive x.positive a e) (unkept ls l c g)
  where
    one : (same p q : Bool) → same && beq p q ≡ false → same && beq (not p) q ≡ false → same ≡ false
    one false p q a e = refl
    one true true true a e = a
    one true true false a e = e
    one true false true a e = e
    one true false false a e = a

snoc_off : (ls : List Lit) (l : Lit) (w : WireId) → among (wires_in ls) w ≡ false → same_wire w l.wire ≡ false → among (wires_in (ls ++ l ∷ [])) w ≡ false
snoc_off [] l w h e = or_from (same_wire w l.wire) false e refl
snoc_off (x ∷ ls) l w h e =
    let (a, c) = or_parts (same_wire w x.wire) (among (wires_in ls) w) h in
    or_from (same_wire w x.wire) (among (wires_in (ls ++ l ∷ [])) w) a (snoc_off ls l w c e)

fits_snoc : (d : DraftForm) (T : Targets) (ls : List Lit) (l : Lit) → LitsFit d T ls → FitsLit d T l → among (wires_in ls) l.wire ≡ false → LitsFit d T (ls ++ l ∷ [])
fits_snoc d T [] l h f u = (f, refl, tt)
fits_snoc d T (x ∷ ls) l h f u =
    let (a, c) = or_parts (same_wire l.wire x.wire) (among (wires_in ls) l.wire) u in
    (h.0, snoc_off ls l x.wire h.1 (flipped_eq l.wire x.wire a), fits_snoc d T ls l h.2 f c)

-- a tidy list names different wires, none of them blank or a target
pub tidy_fits : (d : DraftForm) (T : Targets) (ps : List Operand) (kept : List Lit) → OpsFit d T ps → LitsFit d T kept → IfSome (tidy kept ps) (LitsFit d T)
tidy_fits d T [] kept o k = k
tidy_fits d T (Const true ∷ ps) kept o k = tidy_fits d T ps kept o k
tidy_fits d T (Const false ∷ ps) kept o k = tt
tidy_fits d T (Literal l ∷ ps) kept o k =
    let Fit : Option (List Lit) → Type 0 = λ r. IfSome r (LitsFit d T) in
    let new : among (wires_in kept) l.wire ≡ false → Fit (tidy (kept ++ l ∷ []) ps) = λ u. tidy_fits d T ps (kept ++ l ∷ []) o.1 (fits_snoc d T kept l k o.0 u) in
    cond_both (has kept l) (tidy kept ps) (cond (has kept (opposite l)) None (tidy (kept ++ l ∷ []) ps)) Fit
    (λ e. tidy_fits d T ps kept o.1 k)
    (λ e. cond_both (has kept (opposite l)) None (tidy (kept ++ l ∷ []) ps) Fit (λ f. tt) (λ f. new (unkept kept l e f)))

pub literals_fit : (d : DraftForm) (T : Targets) (ps : List Operand) → AllSafe (length d.wires) T ps → IfSome (literals d ps) (LitsFit d T)
literals_fit d T ps s = tidy_fits d T (map (read d) ps) [] (reads_fit d T ps s) tt

-- ---- parts of a list of literals

among_front : (ls ms : List Lit) (w : WireId) → among (wires_in (ls ++ ms)) w ≡ false → among (wires_in ls) w ≡ false
among_front [] ms w h = refl
among_front (l ∷ ls) ms w h =
    let (a, c) = or_parts (same_wire w l.wire) (among (wires_in (ls ++ ms)) w) h in
    or_from (same_wire w l.wire) (among (wires_in ls) w) a (among_front ls ms w c)

pub fits_front : (d : DraftForm) (T : Targets) (ls ms : List Lit) → LitsFit d T (ls ++ ms) → LitsFit d T ls
fits_front d T [] ms h = tt
fits_front d T (l ∷ ls) ms h = (h.0, among_front ls ms l.wire h.1, fits_front d T ls ms h.2)

-- they may control steps that have no target
pub fits_untargeted : (d : DraftForm) (T : Targets) (ls : List Lit) → LitsFit d T ls → LitsFit d no_target ls
fits_untargeted d T [] h = tt
fits_untargeted d T (l ∷ ls) h = (((h.0.0.0, refl), h.0.1), h.1, fits_untargeted d T ls h.2)

last_is : (c l : Lit) (cs : List Lit) → last_of c (cs ++ l ∷ []) ≡ l
last_is c l [] = refl
last_is c l (d ∷ ds) = last_is d l ds

front_is : (c l : Lit) (cs : List Lit) → all_but_last c (cs ++ l ∷ []) ≡ c ∷ cs
front_is c l [] = refl
front_is c l (d ∷ ds) = ap (λ (ls : List Lit). c ∷ ls) (front_is d l ds)

-- a flip under all but the last, gathered, and the last
pub flip_lits_last : (at : Setting) (w : WireId) (a l : Lit) (cs : List Lit) (b : Built) → flip_lits at w (a ∷ (cs ++ l ∷ [])) b ≡ push at (X w (Some (gathered at a cs b).answer) (Some l)) (gathered at a cs b).built
flip_lits_last at w a l [] b = refl
flip_lits_last at w a l (c ∷ cs) b =
    ap (λ (front : List Lit). push at (X w (Some (gathered at a front b).answer) (Some (last_of c (cs ++ l ∷ [])))) (gathered at a front b).built) (front_is c l cs)
    ∙ ap (λ (last : Lit). push at (X w (Some (gathered at a (c ∷ cs) b).answer) (Some last)) (gathered at a (c ∷ cs) b).built) (last_is c l cs)

-- what was read and tidied is fit
pub literals_at : (d : DraftForm) (T : Targets) (ps : List Operand) (ls : List Lit) → AllSafe (length d.wires) T ps → Some ls ≡ literals d ps → LitsFit d T ls
literals_at d T ps ls s e = subst (λ (o : Option (List Lit)). IfSome o (LitsFit d T)) (sym e) (literals_fit d T ps s)
