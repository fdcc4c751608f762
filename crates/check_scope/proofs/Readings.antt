-- The readings of a walk take a walk in two parts apart, and asking again with one more signature goes on where the walk stopped.
use Rattle.std.specs.Prelude.{◌≡◌, refl, ℕ, suc, max, ◌+◌, ◌<◌, ◌≤◌, Bool, true, false, List, [], ◌∷◌, ◌++◌, All, Result, Ok, Err, nat_lt}
use mathlib.Core.Path.{sym, ap, ◌∙◌}
use Rattle.check_scope.specs.Reading.{Uncounted, Steady, Continues, asked_again}
use Rattle.check_scope.specs.Walk.{Walk, answer, broken, counted, asked, bind, Met, known, limited, new, meet, Stop, fault, wanted, known_or_stop, with_known, Counts, Checker, known_or_checked, with_counts, most_walked}
use Rattle.silq_io.specs.declared.limit.LimitKind.TheVariants.{Walked}
use Rattle.silq_types.specs.Known.{Signatures}
use Rattle.silq_types.specs.Rules.{and_then, Fault, over}
use Rattle.silq_types.specs.declared.signature.InstanceKey.{InstanceKey}
use Rattle.silq_types.specs.declared.signature.Signature.{Signature}

and_then-assoc : {A B C E : Type 0} (r : Result A E) (f : A → Result B E) (g : B → Result C E) → and_then (and_then r f) g ≡ and_then r (λ a. and_then (f a) g)
and_then-assoc (Ok a) f g = refl
and_then-assoc (Err e) f g = refl

and_then-agree : {A B E : Type 0} (r : Result A E) (f g : A → Result B E) → ((a : A) → r ≡ Ok a → f a ≡ g a) → and_then r f ≡ and_then r g
and_then-agree (Ok a) f g h = h a refl
and_then-agree (Err e) f g h = refl

pub with_known-bind : {A B : Type 0} (d : ℕ) (met : Signatures) (w : Walk A) (f : A → Walk B) (h : ℕ) → with_known d met (bind w f) h ≡ and_then (with_known d met w h) (λ r. with_known d met (f r.0) r.1)
with_known-bind d met (answer a) f h = refl
with_known-bind d met (broken e) f h = refl
with_known-bind d met (counted w) f h = with_known-bind d met w f h
with_known-bind d met (asked k next) f h =
    and_then-agree (known_or_stop (meet d met k) k) _ _ (λ s e. with_known-bind d met (next s) f (max h s.height))
    ∙ sym (and_then-assoc (known_or_stop (meet d met k) k) (λ s. with_known d met (next s) (max h s.height)) (λ r. with_known d met (f r.0) r.1))

count-bind : {A B : Type 0} (b : Bool) (x : Result (A × Counts × ℕ) Fault) (f : A × Counts × ℕ → Result (B × Counts × ℕ) Fault) (y : Result (B × Counts × ℕ) Fault) → y ≡ and_then x f → Rattle.std.specs.Prelude.cond b y (Err (over Walked)) ≡ and_then (Rattle.std.specs.Prelude.cond b x (Err (over Walked))) f
count-bind true x f y e = e
count-bind false x f y e = refl

pub with_counts-bind : {A B : Type 0} (check : Checker) (d : ℕ) (w : Walk A) (f : A → Walk B) (c : Counts) (h : ℕ) → with_counts check d (bind w f) c h ≡ and_then (with_counts check d w c h) (λ r. with_counts check d (f r.0) r.1 r.2)
with_counts-bind check d (answer a) f c h = refl
with_counts-bind check d (broken e) f c h = refl
with_counts-bind check d (counted w) f c h =
    count-bind (nat_lt c.walked most_walked) (with_counts check d w (record c { walked = suc c.walked }) h) (λ r. with_counts check d (f r.0) r.1 r.2) _ (with_counts-bind check d w f (record c { walked = suc c.walked }) h)
with_counts-bind check d (asked k next) f c h =
    and_then-agree (known_or_checked check d (meet d c.met k) k c) _ _ (λ r e. with_counts-bind check d (next r.0) f r.1 (max h r.0.height))
    ∙ sym (and_then-assoc (known_or_checked check d (meet d c.met k) k c) (λ r. with_counts check d (next r.0) r.1 (max h r.0.height)) (λ r. with_counts check d (f r.0) r.1 r.2))

continues-again : {A : Type 0} (whole : Result (A × Counts × ℕ) Fault) (f g : InstanceKey → Result (A × Counts × ℕ) Fault) (c : Counts) (r : Result (A × ℕ) Stop) → ((k : InstanceKey) → f k ≡ g k) → Continues whole f c r → Continues whole g c r
continues-again whole f g c (Ok r) h e = e
continues-again whole f g c (Err (fault x)) h e = e
continues-again whole f g c (Err (wanted k)) h e = e ∙ h k

module _ (check : Checker) (steady : Steady check) where
  -- once the instance is known, the walk goes past its question
  past : {A : Type 0} (d : ℕ) (k : InstanceKey) (next : Signature → Walk A) (c : Counts) (h : ℕ) (s : Signature) → meet d c.met k ≡ known s → with_counts check d (asked k next) c h ≡ with_counts check d (next s) c (max h s.height)
  past d k next c h s e = ap (λ m. and_then (known_or_checked check d m k c) (λ r. with_counts check d (next r.0) r.1 (max h r.0.height))) e

  -- the whole walk is the answer, the fault, or the check of the wanted instance and then the same walk again
  pub continues : {A : Type 0} (d : ℕ) (w : Walk A) → Uncounted w → (c : Counts) (h : ℕ) → Continues (with_counts check d w c h) (asked_again check d w c h) c (with_known d c.met w h)
  continues d (answer a) u c h = refl
  continues d (broken e) u c h = refl
  continues d (counted w) u c h = absurd u
  continues {A = A} d (asked k next) u c h = step (λ s. continues d (next s) (u s) c (max h s.height)) (meet d c.met k) refl
    where
      rest : Signature × Counts → Result (A × Counts × ℕ) Fault
      rest r = with_counts check d (next r.0) r.1 (max h r.0.height)

      step : ((s : Signature) → Continues (with_counts check d (next s) c (max h s.height)) (asked_again check d (next s) c (max h s.height)) c (with_known d c.met (next s) (max h s.height))) → (m : Met) → meet d c.met k ≡ m → Continues (and_then (known_or_checked check d m k c) rest) (asked_again check d (asked k next) c h) c (and_then (known_or_stop m k) (λ s. with_known d c.met (next s) (max h s.height)))
      step ih (known s) e =
          continues-again (with_counts check d (next s) c (max h s.height)) (asked_again check d (next s) c (max h s.height)) (asked_again check d (asked k next) c h) c (with_known d c.met (next s) (max h s.height))
          (λ k'. and_then-agree (check (d + 1) k' c) _ _ (λ r e'. sym (past d k next r.1 h s (steady.keeps d k' c r e' k s e))))
          (ih s)
      step ih (limited l) e = refl
      step ih new e = and_then-agree (check (d + 1) k c) _ _ (λ r e'. sym (past d k next r.1 h r.0 (steady.adds d k c r e e')))
