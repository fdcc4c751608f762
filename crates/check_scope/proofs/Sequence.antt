-- Code that does one check and then another is held against both in turn.
use Rattle.std.specs.Prelude.{◌≡◌, refl, Option, Some, None, Ok, Err, IfSome}
use mathlib.Core.Path.{ap, ◌∙◌, subst}
use Rattle.silq_types.specs.Rules.{and_then}
use Rattle.silq_types.specs.Known.{Signatures}
use Rattle.check_scope.specs.Walk.{with_known}
use Rattle.check_scope.specs.Context.{Check, ◌>>=◌, ◌>>◌, give_back, pass, variables}
use Rattle.check_scope.specs.State.{State, Keeps, context_of}
use Rattle.check_scope.specs.Faults.{stop_as}
use Rattle.check_scope.specs.Steps.{Reads, Stops}
use Rattle.check_scope.specs.declared.fault.ExprFault.{ExprFault}
use Rattle.check_scope.proofs.Readings.{with_known-bind}

pub keeps_refl : (s : State) → Keeps s s
keeps_refl s = record { this = refl; results = refl; depth = refl; start = refl; statics = refl; held = refl }

pub keeps_both : {old mid now : State} → Keeps old mid → Keeps mid now → Keeps old now
keeps_both p q = record {
  this = q.this ∙ p.this;
  results = q.results ∙ p.results;
  depth = q.depth ∙ p.depth;
  start = q.start ∙ p.start;
  statics = q.statics ∙ p.statics;
  held = q.held ∙ p.held;
}

if_some : {A : Type 0} {P Q : A → Type 0} (o : Option A) → ((a : A) → P a → Q a) → IfSome o P → IfSome o Q
if_some (Some a) f p = f a p
if_some None f p = p

pub reads_back : {A : Type 0} (met : Signatures) (a : A) (old : State) → Reads met (give_back a) old a old
reads_back met a old = record { runs = refl; keeps = keeps_refl old }

pub reads_pass : (met : Signatures) (old : State) → Reads met pass old tt old
reads_pass met old = record { runs = refl; keeps = keeps_refl old }

pub reads_variables : (met : Signatures) (old : State) → Reads met variables old old.vars old
reads_variables met old = record { runs = refl; keeps = keeps_refl old }

pub reads_bind : {A B : Type 0} (met : Signatures) (m : Check A) (f : A → Check B) (old mid now : State) (a : A) (b : B) → Reads met m old a mid → Reads met (f a) mid b now → Reads met (m >>= f) old b now
unfolding ◌>>=◌
reads_bind met m f old mid now a b q r = record {
  runs = with_known-bind old.depth met (m (context_of old)) (λ x. f x.0 x.1) old.height
      ∙ ap (λ x. and_then x (λ y. with_known old.depth met (f y.0.0 y.0.1) y.1)) q.runs
      ∙ subst (λ d. with_known d met (f a (context_of mid)) mid.height ≡ Ok ((b, context_of now), now.height)) q.keeps.depth r.runs;
  keeps = keeps_both q.keeps r.keeps;
}

pub reads_then : {A B : Type 0} (met : Signatures) (m : Check A) (n : Check B) (old mid now : State) (a : A) (b : B) → Reads met m old a mid → Reads met n mid b now → Reads met (m >> n) old b now
unfolding ◌>>◌
reads_then met m n old mid now a b q r = record {
  runs = with_known-bind old.depth met (m (context_of old)) (λ x. n x.1) old.height
      ∙ ap (λ x. and_then x (λ y. with_known old.depth met (n y.0.1) y.1)) q.runs
      ∙ subst (λ d. with_known d met (n (context_of mid)) mid.height ≡ Ok ((b, context_of now), now.height)) q.keeps.depth r.runs;
  keeps = keeps_both q.keeps r.keeps;
}

-- the first check stops
pub stops_bind : {A B : Type 0} (met : Signatures) (m : Check A) (f : A → Check B) (old now : State) (stop : ExprFault) → Stops met m old stop now → Stops met (m >>= f) old stop now
unfolding ◌>>=◌
stops_bind met m f old now stop q = record {
  runs = if_some (stop_as stop) (λ s e. with_known-bind old.depth met (m (context_of old)) (λ x. f x.0 x.1) old.height
      ∙ ap (λ x. and_then x (λ y. with_known old.depth met (f y.0.0 y.0.1) y.1)) e) q.runs;
  keeps = q.keeps;
}

pub stops_then : {A B : Type 0} (met : Signatures) (m : Check A) (n : Check B) (old now : State) (stop : ExprFault) → Stops met m old stop now → Stops met (m >> n) old stop now
unfolding ◌>>◌
stops_then met m n old now stop q = record {
  runs = if_some (stop_as stop) (λ s e. with_known-bind old.depth met (m (context_of old)) (λ x. n x.1) old.height
      ∙ ap (λ x. and_then x (λ y. with_known old.depth met (n y.0.1) y.1)) e) q.runs;
  keeps = q.keeps;
}

-- the second stops
pub stops_later : {A B : Type 0} (met : Signatures) (m : Check A) (f : A → Check B) (old mid now : State) (a : A) (stop : ExprFault) → Reads met m old a mid → Stops met (f a) mid stop now → Stops met (m >>= f) old stop now
unfolding ◌>>=◌
stops_later met m f old mid now a stop q r = record {
  runs = if_some (stop_as stop) (λ s e. with_known-bind old.depth met (m (context_of old)) (λ x. f x.0 x.1) old.height
      ∙ ap (λ x. and_then x (λ y. with_known old.depth met (f y.0.0 y.0.1) y.1)) q.runs
      ∙ subst (λ d. with_known d met (f a (context_of mid)) mid.height ≡ Err s) q.keeps.depth e) r.runs;
  keeps = keeps_both q.keeps r.keeps;
}

pub stops_after : {A B : Type 0} (met : Signatures) (m : Check A) (n : Check B) (old mid now : State) (a : A) (stop : ExprFault) → Reads met m old a mid → Stops met n mid stop now → Stops met (m >> n) old stop now
unfolding ◌>>◌
stops_after met m n old mid now a stop q r = record {
  runs = if_some (stop_as stop) (λ s e. with_known-bind old.depth met (m (context_of old)) (λ x. n x.1) old.height
      ∙ ap (λ x. and_then x (λ y. with_known old.depth met (n y.0.1) y.1)) q.runs
      ∙ subst (λ d. with_known d met (n (context_of mid)) mid.height ≡ Err s) q.keeps.depth e) r.runs;
  keeps = keeps_both q.keeps r.keeps;
}
