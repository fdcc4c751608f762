-- The moves so far and the progress so far tell the same.
use Rattle.std.proofs.Common.{◌≡◌, ℕ, suc, ◌<◌, true, false, List, [], ◌∷◌, ◌++◌, length, Contains, refl, sym, ap, ◌∙◌, subst, inl, inr, arith, append_assoc, append-nil}
use Rattle.std.proofs.lemmas.Bool.{cases_Bool, both_ways, or_cases, or_left, or_right, eqb-true, eq-eqb}
use Rattle.std.proofs.lemmas.List.Sums.{fold-append}
use Rattle.std.proofs.lemmas.List.Elements.{Contains-append_left, Contains-push, Contains-push_cases}
use Rattle.flat_core.specs.declared.step.WireId.{WireId}
use Rattle.flat_core.specs.declared.step.StepId.{StepId}
use Rattle.flat_core.specs.Form.{FlatForm}
use Rattle.flat_core.specs.Label.{step_id, wire_id, step_at, top, label_before}
use Rattle.flat_core.specs.Ends.{measures}
use Rattle.move_plan.specs.declared.moves.Move.{Move}
use Rattle.move_plan.specs.declared.moves.Move.TheVariants.{Up, Down, Do, Free}
use Rattle.move_plan.specs.Progress.{Progress, at_start, label_moved, marks_done, marks_measured, marks_gone, moved, StandsAt, Stands, AllStand, progress, IsEnd}
use Rattle.move_plan.specs.Valid.{label_now, IsAt, MeasuredIn, IsAllowed, AreAllowed, IsDone, FormsAgree}

-- a progress tells the moves so far
pub record Tells (f : FlatForm) (past : List Move) (p : Progress) : Type 0 where
  pub label : (w : WireId) → p.label w ≡ label_now f past w
  pub done_in : (s : StepId) → p.done s ≡ true → Contains past (Do s)
  pub in_done : (s : StepId) → Contains past (Do s) → p.done s ≡ true
  pub measured_in : (w : WireId) → p.measured w ≡ true → MeasuredIn f past w
  pub in_measured : (w : WireId) → MeasuredIn f past w → p.measured w ≡ true
  pub gone_in : (w : WireId) → p.gone w ≡ true → Contains past (Free w)
  pub in_gone : (w : WireId) → Contains past (Free w) → p.gone w ≡ true

-- a Do is of a step that is there
abbrev DoThere : FlatForm → Move → Type 0
DoThere f (Up s) = Unit {0}
DoThere f (Down s) = Unit {0}
DoThere f (Do s) = s.number < length f.steps
DoThere f (Free w) = Unit {0}

is_done : (m : Move) (s : StepId) → marks_done m s ≡ true → m ≡ Do s
is_done (Up t) s e = cc
is_done (Down t) s e = cc
is_done (Do t) s e = ap (λ (n : ℕ). Do (step_id n)) (sym (eqb-true s.number t.number e))
is_done (Free w) s e = cc

is_gone : (m : Move) (w : WireId) → marks_gone m w ≡ true → m ≡ Free w
is_gone (Up t) w e = cc
is_gone (Down t) w e = cc
is_gone (Do t) w e = cc
is_gone (Free x) w e = ap (λ (n : ℕ). Free (wire_id n)) (sym (eqb-true w.number x.number e))

done_is : (m : Move) (s : StepId) → m ≡ Do s → marks_done m s ≡ true
done_is m s e = ap (λ (x : Move). marks_done x s) e ∙ eq-eqb s.number s.number refl

gone_is : (m : Move) (w : WireId) → m ≡ Free w → marks_gone m w ≡ true
gone_is m w e = ap (λ (x : Move). marks_gone x w) e ∙ eq-eqb w.number w.number refl

measured_is : (f : FlatForm) (past : List Move) (m : Move) (w : WireId) → DoThere f m → marks_measured f m w ≡ true → MeasuredIn f (past ++ m ∷ []) w
measured_is f past (Up s) w h e = absurd (both_ways false refl e)
measured_is f past (Down s) w h e = absurd (both_ways false refl e)
measured_is f past (Do s) w h e = record { step = s; there = h; of = e; in_past = Contains-push past (Do s) }
measured_is f past (Free x) w h e = absurd (both_ways false refl e)

marks_more : (f : FlatForm) (m : Move) (s : StepId) (w : WireId) → m ≡ Do s → measures w (step_at f s) ≡ true → marks_measured f m w ≡ true
marks_more f m s w e h = ap (λ (x : Move). marks_measured f x w) e ∙ h

tells_more : (f : FlatForm) (past : List Move) (p : Progress) (m : Move) → DoThere f m → Tells f past p → Tells f (past ++ m ∷ []) (moved f p m)
tells_more f past p m h t = record {
  label = λ w. ap (λ (n : ℕ). label_moved f w n m) (t.label w) ∙ sym (fold-append (label_moved f w) 0 past (m ∷ []));
  done_in = λ s e. elim (or_cases (marks_done m s) (p.done s) e) [
    | inl b ↦ subst (λ (x : Move). Contains (past ++ m ∷ []) x) (is_done m s b) (Contains-push past m)
    | inr a ↦ Contains-append_left past (m ∷ []) (Do s) (t.done_in s a)
  ];
  in_done = λ s c. elim (Contains-push_cases past m (Do s) c) [
    | inl a ↦ or_right (marks_done m s) (p.done s) (t.in_done s a)
    | inr b ↦ or_left (marks_done m s) (p.done s) (done_is m s b)
  ];
  measured_in = λ w e. elim (or_cases (marks_measured f m w) (p.measured w) e) [
    | inl b ↦ measured_is f past m w h b
    | inr a ↦ let d = t.measured_in w a in record { step = d.step; there = d.there; of = d.of; in_past = Contains-append_left past (m ∷ []) (Do d.step) d.in_past }
  ];
  in_measured = λ w d. elim (Contains-push_cases past m (Do d.step) d.in_past) [
    | inl a ↦ or_right (marks_measured f m w) (p.measured w) (t.in_measured w (record { step = d.step; there = d.there; of = d.of; in_past = a }))
    | inr b ↦ or_left (marks_measured f m w) (p.measured w) (marks_more f m d.step w b d.of)
  ];
  gone_in = λ w e. elim (or_cases (marks_gone m w) (p.gone w) e) [
    | inl b ↦ subst (λ (x : Move). Contains (past ++ m ∷ []) x) (is_gone m w b) (Contains-push past m)
    | inr a ↦ Contains-append_left past (m ∷ []) (Free w) (t.gone_in w a)
  ];
  in_gone = λ w c. elim (Contains-push_cases past m (Free w) c) [
    | inl a ↦ or_right (marks_gone m w) (p.gone w) (t.in_gone w a)
    | inr b ↦ or_left (marks_gone m w) (p.gone w) (gone_is m w b)
  ];
}

not_contains : {A : Type 0} (x : A) → ¬ Contains [] x
not_contains x c = let l = c.1 in omega arith

tells_none : (f : FlatForm) → Tells f [] at_start
tells_none f = record {
  label = λ w. refl;
  done_in = λ s e. absurd (both_ways false refl e);
  in_done = λ s c. absurd (not_contains (Do s) c);
  measured_in = λ w e. absurd (both_ways false refl e);
  in_measured = λ w d. absurd (not_contains (Do d.step) d.in_past);
  gone_in = λ w e. absurd (both_ways false refl e);
  in_gone = λ w c. absurd (not_contains (Free w) c);
}

module _ (f : FlatForm) (past : List Move) (p : Progress) (t : Tells f past p) where
  none_gone : (w : WireId) → ¬ Contains past (Free w) → p.gone w ≡ false
  none_gone w n = elim (cases_Bool (p.gone w)) [ inl e ↦ absurd (n (t.gone_in w e)) | inr e ↦ e ]

  stands : (w : WireId) (i : ℕ) → IsAt f past w i → StandsAt p w i
  stands w i a = record { at = t.label w ∙ a.at; kept = none_gone w a.kept }

  is_at : (w : WireId) (i : ℕ) → StandsAt p w i → IsAt f past w i
  is_at w i a = record { at = sym (t.label w) ∙ a.at; kept = λ c. both_ways (p.gone w) a.kept (t.in_gone w c) }

  allowed_stands : (m : Move) → IsAllowed f past m → Stands f p m
  allowed_stands (Up s) a = (a.again, record { step = a.step; uses = λ w c. stands w (label_before f s w) (a.uses w c); changed = λ w c. stands w (label_before f s w) (a.target w c) })
  allowed_stands (Down s) a = (a.again, record { step = a.step; uses = λ w c. stands w (label_before f s w) (a.uses w c); changed = λ w c. stands w (suc (label_before f s w)) (a.target w c) })
  allowed_stands (Do s) a =
      (a.lasting, elim (cases_Bool (p.done s)) [ inl e ↦ absurd (a.first (t.done_in s e)) | inr e ↦ e ], record { step = a.step; uses = λ w c. stands w (label_before f s w) (a.uses w c); changed = λ w c. stands w (label_before f s w) (a.target w c) })
  allowed_stands (Free w) a = record { ending = a.ending; at_top = stands w (top f w) a.at_top; measured = λ e. t.in_measured w (a.measured e) }

  stands_allowed : (m : Move) → Stands f p m → IsAllowed f past m
  stands_allowed (Up s) a = record { step = a.1.step; again = a.0; uses = λ w c. is_at w (label_before f s w) (a.1.uses w c); target = λ w c. is_at w (label_before f s w) (a.1.changed w c) }
  stands_allowed (Down s) a = record { step = a.1.step; again = a.0; uses = λ w c. is_at w (label_before f s w) (a.1.uses w c); target = λ w c. is_at w (suc (label_before f s w)) (a.1.changed w c) }
  stands_allowed (Do s) a = record { step = a.2.step; lasting = a.0; first = λ c. both_ways (p.done s) a.1 (t.in_done s c); uses = λ w c. is_at w (label_before f s w) (a.2.uses w c); target = λ w c. is_at w (label_before f s w) (a.2.changed w c) }
  stands_allowed (Free w) a = record { ending = a.ending; at_top = is_at w (top f w) a.at_top; measured = λ e. t.measured_in w (a.measured e) }

  there : (m : Move) → IsAllowed f past m → DoThere f m
  there (Up s) a = tt
  there (Down s) a = tt
  there (Do s) a = a.step
  there (Free w) a = tt

  done_end : IsDone f past → IsEnd f p
  done_end d = record {
    all_done = λ s l u. t.in_done s (d.all_done s l u);
    at_bottom = λ w l e. t.label w ∙ d.at_bottom w l e;
    at_top = λ w l e. t.label w ∙ d.at_top w l e;
    all_gone = λ w e. t.in_gone w (d.all_freed w e);
  }

  end_done : IsEnd f p → IsDone f past
  end_done d = record {
    all_done = λ s l u. t.done_in s (d.all_done s l u);
    at_bottom = λ w l e. sym (t.label w) ∙ d.at_bottom w l e;
    at_top = λ w l e. sym (t.label w) ∙ d.at_top w l e;
    all_freed = λ w e. t.gone_in w (d.all_gone w e);
  }

-- along allowed moves the progress tells the moves, and each may come
along : (f : FlatForm) (past moves : List Move) (p : Progress) → Tells f past p → AreAllowed f past moves → AllStand f p moves × Tells f (past ++ moves) (progress f p moves)
along f past [] p t a = (tt, subst (λ (l : List Move). Tells f l p) (sym (append-nil past)) t)
along f past (m ∷ moves) p t a =
    let rest = along f (past ++ m ∷ []) moves (moved f p m) (tells_more f past p m (there f past p t m a.0) t) a.1 in
    ((allowed_stands f past p t m a.0, rest.0), subst (λ (l : List Move). Tells f l (progress f (moved f p m) moves)) (append_assoc past (m ∷ []) moves) rest.1)

back : (f : FlatForm) (past moves : List Move) (p : Progress) → Tells f past p → AllStand f p moves → AreAllowed f past moves × Tells f (past ++ moves) (progress f p moves)
back f past [] p t a = (tt, subst (λ (l : List Move). Tells f l p) (sym (append-nil past)) t)
back f past (m ∷ moves) p t a =
    let allowed = stands_allowed f past p t m a.0 in
    let rest = back f (past ++ m ∷ []) moves (moved f p m) (tells_more f past p m (there f past p t m allowed) t) a.1 in
    ((allowed, rest.0), subst (λ (l : List Move). Tells f l (progress f (moved f p m) moves)) (append_assoc past (m ∷ []) moves) rest.1)

pub forms_agree : FormsAgree
forms_agree f moves = (
  (λ v. let w = along f [] moves at_start (tells_none f) v.allowed in record { stand = w.0; end = done_end f moves (progress f at_start moves) w.1 v.done }),
  (λ v. let w = back f [] moves at_start (tells_none f) v.stand in record { allowed = w.0; done = end_done f moves (progress f at_start moves) w.1 v.end }),
)
