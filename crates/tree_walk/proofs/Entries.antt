-- The job of an entry, by what its body sees.
use Rattle.std.proofs.Common.{◌≡◌, ℕ, ◌<◌, true, List, length, map, ℤ, sym, ap, ◌∙◌, subst}
use Rattle.silq_tree.specs.Syntax.{Function}
use Rattle.silq_types.specs.declared.types.Shape.{Shape}
use Rattle.silq_types.specs.Programs.{paired}
use Rattle.check_scope.specs.Library.{Shelf, function_at}
use Rattle.silq_mean.specs.Meaning.{params_of, entry}
use Rattle.silq_mean.specs.Table.{Job}
use Rattle.tree_walk.specs.declared.body.Body.{Body}
use Rattle.tree_walk.specs.Seen.{job_at, instance_in, entry_in}
use Rattle.tree_walk.proofs.Earlier.{earlier_before}

abbrev sizes : Shelf → Body → List Shape
sizes l b = map (λ p. p.2.shape) (params_of (function_at l b.this) b.statics)

abbrev whole_job : Shelf → Body → Job
whole_job l b = record { effect = entry_in l b; shapes = sizes l b }

abbrev job_by : Shelf → ℕ → List ℤ → List Function → Job
job_by l n statics before = record {
  effect = entry l.words before (function_at l n) (paired (function_at l n).statics statics);
  shapes = sizes l (instance_in l n statics true);
}

job_is : (l : Shelf) (n : ℕ) (statics : List ℤ) → n < length l.funs → job_at l n statics ≡ whole_job l (instance_in l n statics true)
job_is l n statics lt = ap (λ (before : List Function). job_by l n statics before) (earlier_before l n lt)

module _ (l : Shelf) (n : ℕ) (statics : List ℤ) (lt : n < length l.funs) (b : Body) (is : b ≡ instance_in l n statics true) where
  told : job_at l n statics ≡ whole_job l b
  told = job_is l n statics lt ∙ ap (λ x. whole_job l x) (sym is)

  pub effect_told : entry_in l b ≡ (job_at l n statics).effect
  effect_told = ap (λ (j : Job). j.effect) (sym told)

  pub body_there : b.this < length l.funs
  body_there = subst (λ (x : Body). x.this < length l.funs) (sym is) lt

  pub shapes_told : (shapes : List Shape) → shapes ≡ map (λ p. p.2.shape) (params_of (function_at l n) b.statics) → shapes ≡ (job_at l n statics).shapes
  shapes_told shapes h =
      h
      ∙ (ap (λ k. map (λ p. p.2.shape) (params_of (function_at l k) b.statics)) (ap (λ (x : Body). x.this) (sym is))
      ∙ ap (λ (j : Job). j.shapes) (sym told))
