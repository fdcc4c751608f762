-- Folds, flips and phases under literals, as calls of a builder.
use Rattle.std.proofs.Common.{◌≡◌, ℕ, ◌<◌, ◌≤◌, false, [], ◌∷◌, ◌++◌, List, length, Option, Some, None, Result, Ok, Err, IfOk, IfErr, refl, sym, ap, ◌∙◌, subst, arith}
use Rattle.std.proofs.lemmas.Bool.{ne_eqb}
use Rattle.std.proofs.lemmas.List.{append-nil}
use Rattle.silq_io.specs.declared.limit.LimitFault.{LimitFault}
use Rattle.flat_core.specs.declared.step.Step.{Step}
use Rattle.flat_core.specs.declared.step.Step.TheVariants.{X}
use Rattle.flat_core.specs.declared.step.WireId.{WireId}
use Rattle.flat_core.specs.declared.step.Lit.{Lit}
use Rattle.flat_core.specs.Form.{DraftForm}
use Rattle.flat_core.specs.Label.{same_wire}
use Rattle.flat_core.specs.Drafts.{IsNextStep}
use Rattle.bit_arith.specs.Built.{Setting, begun, push, new_wire, next_wire, plus}
use Rattle.bit_arith.specs.Rows.{gathered, flip_lits}
use Rattle.bit_arith.specs.Calls.{Building, no_target, IsTarget, Went, Refused}
use Rattle.bit_arith.specs.Fits.{FitsLit, LitsFit}
use Rattle.bit_arith.proofs.Grows.{x_then, push_x, push_grows, gathered_x, target_more}
use Rattle.bit_arith.proofs.Chained.{built_by, went_then, refused_then, refused_later}
use Rattle.bit_arith.proofs.Fits.{fold_fits, made_fits, next_flip, next_flip_by, next_flip_both, fits_front, fits_untargeted, flip_lits_last, gathered_fits}

fresh_differs : (w v : WireId) (n : ℕ) → w.number < n → n ≤ v.number → same_wire w v ≡ false
fresh_differs w v n h past = ne_eqb w.number v.number (λ e. omega arith)

-- a wire, and a step on it
pub pushed : {old mid new : Building} (s : Step) → Went old mid (new_wire (begun old.draft)) → Went mid new (push mid.setting s (begun mid.draft)) → Went old new (push old.setting s (new_wire (begun old.draft)))
pushed {old} {mid} {new} s g h =
    went_then (push old.setting s) g (subst (λ (at : Setting). Went mid new (push at s (begun mid.draft))) g.kept h)

pub push_refused : {old mid : Building} (s : Step) (e : LimitFault) → Went old mid (new_wire (begun old.draft)) → Refused e (push mid.setting s (begun mid.draft)) → Refused e (push old.setting s (new_wire (begun old.draft)))
push_refused {old} {mid} s e g h =
    refused_then (push old.setting s) e g (subst (λ (at : Setting). Refused e (push at s (begun mid.draft))) g.kept h)

module _ (a c : Lit) (cs ls : List Lit) (split : ls ≡ c ∷ cs) where
  pub fold_refused_first : (old : Building) (e : LimitFault) → Refused e (new_wire (begun old.draft)) → Refused e (gathered old.setting a ls (begun old.draft)).built
  fold_refused_first old e r =
      let b = begun old.draft in
      subst (λ (xs : List Lit). Refused e (gathered old.setting a xs b).built) (sym split)
      (refused_later e (x_then (push_x old.setting (X (next_wire b) (Some a) (Some c)) (new_wire b) refl) (gathered_x old.setting (plus (next_wire b)) cs (push old.setting (X (next_wire b) (Some a) (Some c)) (new_wire b)))).grows r)

  pub fold_refused : (old mid : Building) (w : WireId) (e : LimitFault) → w ≡ next_wire (begun old.draft) → Went old mid (new_wire (begun old.draft)) → Refused e (push mid.setting (X w (Some a) (Some c)) (begun mid.draft)) → Refused e (gathered old.setting a ls (begun old.draft)).built
  fold_refused old mid w e is g r =
      let b = begun old.draft in
      let there : Refused e (push old.setting (X (next_wire b) (Some a) (Some c)) (new_wire b)) =
      subst (λ (v : WireId). Refused e (push old.setting (X v (Some a) (Some c)) (new_wire b))) is (push_refused (X w (Some a) (Some c)) e g r) in
      subst (λ (xs : List Lit). Refused e (gathered old.setting a xs b).built) (sym split)
      (refused_later e (gathered_x old.setting (plus (next_wire b)) cs (push old.setting (X (next_wire b) (Some a) (Some c)) (new_wire b))).grows there)

  pub fold_same : (old mid new : Building) (w : WireId) → w ≡ next_wire (begun old.draft) → Went old mid (new_wire (begun old.draft)) → Went mid new (push mid.setting (X w (Some a) (Some c)) (begun mid.draft)) → gathered new.setting (plus w) cs (begun new.draft) ≡ gathered old.setting a ls (begun old.draft)
  fold_same old mid new w is g h =
      let whole = pushed (X w (Some a) (Some c)) g h in
      ap (λ (at : Setting). gathered at (plus w) cs (begun new.draft)) whole.kept
      ∙ ap (gathered old.setting (plus w) cs) (sym (built_by whole))
      ∙ ap (λ (v : WireId). gathered old.setting (plus v) cs (push old.setting (X v (Some a) (Some c)) (new_wire (begun old.draft)))) is
      ∙ ap (λ (xs : List Lit). gathered old.setting a xs (begun old.draft)) (sym split)

  pub fold_fit : (old mid new : Building) (w : WireId) → w ≡ next_wire (begun old.draft) → Went old mid (new_wire (begun old.draft)) → Went mid new (push mid.setting (X w (Some a) (Some c)) (begun mid.draft)) → LitsFit old.draft no_target (a ∷ ls) → LitsFit new.draft no_target (plus w ∷ cs)
  fold_fit old mid new w is g h fit =
      let whole = pushed (X w (Some a) (Some c)) g h in
      let b = begun old.draft in
      subst (λ (d : DraftForm). LitsFit d no_target (plus w ∷ cs)) (sym whole.built)
      (subst (λ (v : WireId). LitsFit (push old.setting (X v (Some a) (Some c)) (new_wire b)).draft no_target (plus v ∷ cs)) (sym is)
      (fold_fits old.setting no_target b a c cs refl (subst (λ (xs : List Lit). LitsFit old.draft no_target (a ∷ xs)) split fit)))

-- a call on a wire under literals: once they are gathered, its step is the next one
pub record Flips (old mid : Building) (w : WireId) (ls : List Lit) (first second : Option Lit) : Type 0 where
  pub next : IsNextStep mid.draft (X w first second)
  pub went : (new : Building) → Went mid new (push mid.setting (X w first second) (begun mid.draft)) → Went old new (flip_lits old.setting w ls (begun old.draft))
  pub refused : (e : LimitFault) → Refused e (push mid.setting (X w first second) (begun mid.draft)) → Refused e (flip_lits old.setting w ls (begun old.draft))

pub flips_ok : {old mid : Building} {w : WireId} {ls : List Lit} {first second : Option Lit} (new : Building) (r : Result (Unit {0}) LimitFault)
    → Flips old mid w ls first second
    → IfOk r (λ _. Went mid new (push mid.setting (X w first second) (begun mid.draft)))
    → IfOk r (λ _. Went old new (flip_lits old.setting w ls (begun old.draft)))
flips_ok new (Ok x) f g = f.went new g
flips_ok new (Err e) f g = tt

pub flips_refused : {old mid : Building} {w : WireId} {ls : List Lit} {first second : Option Lit} (r : Result (Unit {0}) LimitFault)
    → Flips old mid w ls first second
    → IfErr r (λ e. Refused e (push mid.setting (X w first second) (begun mid.draft)))
    → IfErr r (λ e. Refused e (flip_lits old.setting w ls (begun old.draft)))
flips_refused (Ok x) f g = tt
flips_refused (Err e) f g = f.refused e g

pub flips_none : (old : Building) (w : WireId) (ls : List Lit) → ls ≡ [] → IsTarget old.draft w → Flips old old w ls None None
flips_none old w ls is t = record {
  next = next_flip old.draft w t;
  went = λ new g. subst (λ (xs : List Lit). Went old new (flip_lits old.setting w xs (begun old.draft))) (sym is) g;
  refused = λ e r. subst (λ (xs : List Lit). Refused e (flip_lits old.setting w xs (begun old.draft))) (sym is) r;
}

pub flips_one : (old : Building) (w : WireId) (a : Lit) (ls : List Lit) → ls ≡ a ∷ [] → IsTarget old.draft w → LitsFit old.draft (same_wire w) ls → Flips old old w ls (Some a) None
flips_one old w a ls is t fit = record {
  next = next_flip_by old.draft w a t (subst (LitsFit old.draft (same_wire w)) is fit).0;
  went = λ new g. subst (λ (xs : List Lit). Went old new (flip_lits old.setting w xs (begun old.draft))) (sym is) g;
  refused = λ e r. subst (λ (xs : List Lit). Refused e (flip_lits old.setting w xs (begun old.draft))) (sym is) r;
}

module _ (old : Building) (w : WireId) (a l : Lit) (m ls : List Lit) (is : ls ≡ a ∷ (m ++ l ∷ [])) where
  pub gather_fits : LitsFit old.draft (same_wire w) ls → LitsFit old.draft no_target (a ∷ m)
  gather_fits fit = fits_untargeted old.draft (same_wire w) (a ∷ m) (fits_front old.draft (same_wire w) (a ∷ m) (l ∷ []) (subst (LitsFit old.draft (same_wire w)) is fit))

  row_is : flip_lits old.setting w ls (begun old.draft) ≡ push old.setting (X w (Some (gathered old.setting a m (begun old.draft)).answer) (Some l)) (gathered old.setting a m (begun old.draft)).built
  row_is = ap (λ (xs : List Lit). flip_lits old.setting w xs (begun old.draft)) is ∙ flip_lits_last old.setting w a l m (begun old.draft)

  pub gather_refused : (e : LimitFault) → Refused e (gathered old.setting a m (begun old.draft)).built → Refused e (flip_lits old.setting w ls (begun old.draft))
  gather_refused e r =
      let front = gathered old.setting a m (begun old.draft) in
      subst (Refused e) (sym row_is) (refused_later e (push_grows old.setting (X w (Some front.answer) (Some l)) front.built) r)

  pub flips_more : (mid : Building) (r : Lit) → r ≡ (gathered old.setting a m (begun old.draft)).answer → Went old mid (gathered old.setting a m (begun old.draft)).built → IsTarget old.draft w → LitsFit old.draft (same_wire w) ls → Flips old mid w ls (Some r) (Some l)
  flips_more mid r answer g t fit =
      let b = begun old.draft in
      let front = gathered old.setting a m b in
      let target : IsTarget mid.draft w = subst (λ (d : DraftForm). IsTarget d w) (sym g.built) (target_more (gathered_x old.setting a m b) w t) in
      let fits : LitsFit front.built.draft (same_wire w) (front.answer ∷ l ∷ []) =
      gathered_fits old.setting (same_wire w) a m (l ∷ []) b (λ v past. fresh_differs w v (length old.draft.wires) t.0 past) (subst (LitsFit old.draft (same_wire w)) is fit) in
      let there : LitsFit mid.draft (same_wire w) (r ∷ l ∷ []) =
      subst (λ (d : DraftForm). LitsFit d (same_wire w) (r ∷ l ∷ [])) (sym g.built) (subst (λ (x : Lit). LitsFit front.built.draft (same_wire w) (x ∷ l ∷ [])) (sym answer) fits) in
      let row : push old.setting (X w (Some r) (Some l)) front.built ≡ flip_lits old.setting w ls b = ap (λ (x : Lit). push old.setting (X w (Some x) (Some l)) front.built) answer ∙ sym row_is in
      record {
        next = next_flip_both mid.draft w r l target there;
        went = λ new h. subst (Went old new) row (went_then (push old.setting (X w (Some r) (Some l))) g (subst (λ (at : Setting). Went mid new (push at (X w (Some r) (Some l)) (begun mid.draft))) g.kept h));
        refused = λ e h. subst (Refused e) row (refused_then (push old.setting (X w (Some r) (Some l))) e g (subst (λ (at : Setting). Refused e (push at (X w (Some r) (Some l)) (begun mid.draft))) g.kept h));
      }

-- ---- literals that control a phase

pub one_fits : (old mid : Building) (l : Lit) → l ≡ plus (next_wire (begun old.draft)) → Went old mid (push old.setting (X (next_wire (begun old.draft)) None None) (new_wire (begun old.draft))) → FitsLit mid.draft no_target l
one_fits old mid l is g =
    let b = begun old.draft in
    subst (λ (d : DraftForm). FitsLit d no_target l) (sym g.built)
    (subst (FitsLit (push old.setting (X (next_wire b) None None) (new_wire b)).draft no_target) (sym is) (made_fits old.setting no_target b None None refl))

pub whole_fits : (old mid : Building) (a r : Lit) (m ls : List Lit) → ls ≡ a ∷ m → r ≡ (gathered old.setting a m (begun old.draft)).answer → Went old mid (gathered old.setting a m (begun old.draft)).built → LitsFit old.draft no_target ls → FitsLit mid.draft no_target r
whole_fits old mid a r m ls is answer g fit =
    let b = begun old.draft in
    let front = gathered old.setting a m b in
    let all : LitsFit old.draft no_target (a ∷ (m ++ [])) = subst (λ (xs : List Lit). LitsFit old.draft no_target (a ∷ xs)) (sym (append-nil m)) (subst (LitsFit old.draft no_target) is fit) in
    let fits = gathered_fits old.setting no_target a m [] b (λ w past. refl) all in
    subst (λ (d : DraftForm). FitsLit d no_target r) (sym g.built) (subst (FitsLit front.built.draft no_target) (sym answer) fits.0)
