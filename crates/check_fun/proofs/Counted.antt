-- Code that does one check and then another is held against both in turn, with counts.
use Rattle.std.specs.Prelude.{◌≡◌, refl, ℕ, Option, Some, None, Ok, Err, IfSome}
use mathlib.Core.Path.{sym, ap, ◌∙◌, subst}
use Rattle.silq_types.specs.Rules.{and_then}
use Rattle.check_scope.specs.Walk.{Counts, Checker, with_counts}
use Rattle.check_scope.specs.Context.{Context, Check, ◌>>=◌, ◌>>◌, give_back, pass, variables}
use Rattle.check_scope.specs.State.{State, context_of}
use Rattle.check_scope.specs.Faults.{fault_as}
use Rattle.check_fun.specs.Counting.{Stays, Runs, Fails}
use Rattle.check_scope.specs.declared.fault.CheckFault.{CheckFault}
use Rattle.check_scope.proofs.Readings.{with_counts-bind}

pub stays_refl : (s : State) → Stays s s
stays_refl s = record { this = refl; results = refl; depth = refl; statics = refl; held = refl }

pub stays_both : {old mid now : State} → Stays old mid → Stays mid now → Stays old now
stays_both p q = record {
  this = q.this ∙ p.this;
  results = q.results ∙ p.results;
  depth = q.depth ∙ p.depth;
  statics = q.statics ∙ p.statics;
  held = q.held ∙ p.held;
}

if_some : {A : Type 0} {P Q : A → Type 0} (o : Option A) → ((a : A) → P a → Q a) → IfSome o P → IfSome o Q
if_some (Some a) f p = f a p
if_some None f p = p

pub runs_back : {A : Type 0} (check : Checker) (a : A) (old : State) (c : Counts) → Runs check (give_back a) old c a old c
runs_back check a old c = record { runs = refl; stays = stays_refl old }

pub runs_pass : (check : Checker) (old : State) (c : Counts) → Runs check pass old c tt old c
runs_pass check old c = record { runs = refl; stays = stays_refl old }

pub runs_variables : (check : Checker) (old : State) (c : Counts) → Runs check variables old c old.vars old c
runs_variables check old c = record { runs = refl; stays = stays_refl old }

pub runs_bind : {A B : Type 0} (check : Checker) (m : Check A) (f : A → Check B) (old mid now : State) (c d e : Counts) (a : A) (b : B) →
    Runs check m old c a mid d → Runs check (f a) mid d b now e → Runs check (m >>= f) old c b now e
unfolding ◌>>=◌
runs_bind check m f old mid now c d e a b q r = record {
  runs = with_counts-bind check old.depth (m (context_of old)) (λ x. f x.0 x.1) c old.height
      ∙ ap (λ x. and_then x (λ y. with_counts check old.depth (f y.0.0 y.0.1) y.1 y.2)) q.runs
      ∙ subst (λ n. with_counts check n (f a (context_of mid)) d mid.height ≡ Ok ((b, context_of now), e, now.height)) q.stays.depth r.runs;
  stays = stays_both q.stays r.stays;
}

pub runs_then : {A B : Type 0} (check : Checker) (m : Check A) (n : Check B) (old mid now : State) (c d e : Counts) (a : A) (b : B) →
    Runs check m old c a mid d → Runs check n mid d b now e → Runs check (m >> n) old c b now e
unfolding ◌>>◌
runs_then check m n old mid now c d e a b q r = record {
  runs = with_counts-bind check old.depth (m (context_of old)) (λ x. n x.1) c old.height
      ∙ ap (λ x. and_then x (λ y. with_counts check old.depth (n y.0.1) y.1 y.2)) q.runs
      ∙ subst (λ k. with_counts check k (n (context_of mid)) d mid.height ≡ Ok ((b, context_of now), e, now.height)) q.stays.depth r.runs;
  stays = stays_both q.stays r.stays;
}

-- the first check fails
pub fails_bind : {A B : Type 0} (check : Checker) (m : Check A) (f : A → Check B) (old : State) (c : Counts) (stop : CheckFault) → Fails check m old c stop → Fails check (m >>= f) old c stop
unfolding ◌>>=◌
fails_bind check m f old c stop q = record {
  runs = if_some (fault_as stop) (λ s e. with_counts-bind check old.depth (m (context_of old)) (λ x. f x.0 x.1) c old.height
      ∙ ap (λ x. and_then x (λ y. with_counts check old.depth (f y.0.0 y.0.1) y.1 y.2)) e) q.runs;
}

pub fails_then : {A B : Type 0} (check : Checker) (m : Check A) (n : Check B) (old : State) (c : Counts) (stop : CheckFault) → Fails check m old c stop → Fails check (m >> n) old c stop
unfolding ◌>>◌
fails_then check m n old c stop q = record {
  runs = if_some (fault_as stop) (λ s e. with_counts-bind check old.depth (m (context_of old)) (λ x. n x.1) c old.height
      ∙ ap (λ x. and_then x (λ y. with_counts check old.depth (n y.0.1) y.1 y.2)) e) q.runs;
}

-- the second fails
pub fails_later : {A B : Type 0} (check : Checker) (m : Check A) (f : A → Check B) (old mid : State) (c d : Counts) (a : A) (stop : CheckFault) →
    Runs check m old c a mid d → Fails check (f a) mid d stop → Fails check (m >>= f) old c stop
unfolding ◌>>=◌
fails_later check m f old mid c d a stop q r = record {
  runs = if_some (fault_as stop) (λ s e. with_counts-bind check old.depth (m (context_of old)) (λ x. f x.0 x.1) c old.height
      ∙ ap (λ x. and_then x (λ y. with_counts check old.depth (f y.0.0 y.0.1) y.1 y.2)) q.runs
      ∙ subst (λ k. with_counts check k (f a (context_of mid)) d mid.height ≡ Err s) q.stays.depth e) r.runs;
}

pub fails_after : {A B : Type 0} (check : Checker) (m : Check A) (n : Check B) (old mid : State) (c d : Counts) (a : A) (stop : CheckFault) →
    Runs check m old c a mid d → Fails check n mid d stop → Fails check (m >> n) old c stop
unfolding ◌>>◌
fails_after check m n old mid c d a stop q r = record {
  runs = if_some (fault_as stop) (λ s e. with_counts-bind check old.depth (m (context_of old)) (λ x. n x.1) c old.height
      ∙ ap (λ x. and_then x (λ y. with_counts check old.depth (n y.0.1) y.1 y.2)) q.runs
      ∙ subst (λ k. with_counts check k (n (context_of mid)) d mid.height ≡ Err s) q.stays.depth e) r.runs;
}
