-- The parts that expressions use whose values are taken over are there, by their walk.
use Rattle.std.proofs.Common.{◌≡◌, ℕ, false, cond, List, [], ◌∷◌, length, map, drop, refl, sym, ap, ◌∙◌, subst, arith}
use Rattle.std.specs.Prelude.{⊤}
use Rattle.silq_tree.specs.Syntax.{Expression, Expressions, none, more}
use Rattle.silq_types.specs.declared.need.Need.{Need}
use Rattle.silq_types.specs.declared.need.Need.TheVariants as needs
use Rattle.silq_types.specs.declared.signature.InstanceKey.{InstanceKey}
use Rattle.silq_types.specs.declared.signature.Signature.{Signature}
use Rattle.silq_types.specs.declared.values.Value.{Value}
use Rattle.silq_types.specs.declared.values.Var.{Var}
use Rattle.silq_types.specs.Types.{count}
use Rattle.check_scope.specs.Context.{Scope, Context}
use Rattle.check_scope.specs.declared.uses.Use.{Use}
use Rattle.check_scope.specs.Uses.{uses, all_uses}
use Rattle.check_expr.specs.Expression.{Asked, first_asked, later_asked, arguments, lone_need, lone_wants, is_tuple}
use Rattle.check_expr.specs.Owners.{Gives, Ensures}
use Rattle.check_expr.proofs.Owners.{gives-more, o_bind, o_then, o_from, o_back, o_suits}
use Rattle.silq_mean.specs.declared.receiver.Receiver.{Receiver}
use Rattle.silq_mean.specs.declared.receiver.Receiver.TheVariants.{Variable, Argument, CallResult, EntryOutput}
use Rattle.flat_form.specs.Names.{AllOf}
use Rattle.flat_typed.specs.Places.{Places}
use Rattle.flat_typed.specs.Relation.{FitsPart, need_of}
use Rattle.flat_typed.specs.Scopes.{NoStatics}
use Rattle.flat_typed.specs.Uses.{IsThere}
use Rattle.flat_typed.specs.Lemmas.{Agrees, Asking, uses_by}
use Rattle.flat_typed.proofs.Uses.{all_join}
use Rattle.flat_typed.proofs.Tame.{AllLeft, left_same}
use Rattle.flat_typed.proofs.Leaving.{On, k_single}
use Rattle.flat_typed.proofs.UsesThere.{There, Inv}
use Rattle.flat_typed.proofs.WalkThere.{first_by, gives_all, u_expr}

need_agrees : (a : Asked) (r : Receiver) → Agrees a r → a.need ≡ need_of r
need_agrees a Variable h = h.0
need_agrees a (Argument need t) h = h.0
need_agrees a (CallResult t) h = h.0
need_agrees a (EntryOutput t) h = h.0

module _ (S : InstanceKey → Signature → Type 0) (W : Places) (vs0 : List Var) (sc : Scope) (free : NoStatics sc vs0) where
  abbrev Th : List Use → Type 0
  Th us = There S 0 W vs0 sc free us

  abbrev Holds : Type 0 → Context → Type 0
  Holds X = On S 0 (Inv S 0 W vs0 sc free X)

  abbrev its_uses : Expressions → List Receiver → List Use
  its_uses es takers = all_uses es sc vs0 (map need_of takers)

  u_taken : (es : Expressions) (other : Need) (asks : List Asked) (ns : List Need) (takers : List Receiver) (X : Type 0) → count es ≡ length takers → Asking other asks ns takers
      → Ensures S (Holds X) (arguments es sc other asks) (λ vs. Holds (X × Th (its_uses es takers)))
  u_taken none other asks ns takers X l agree = o_back S 0 [] (λ c h. ((h.0, tt), h.1))
  u_taken (more e es) other asks ns [] X l agree = absurd (omega (arith, l))
  u_taken (more e es) other asks ns (r ∷ rs) X l agree =
      o_bind S 0 (first_by S 0 W vs0 sc free (is_tuple e) (is_tuple e) refl (λ z. u_expr S 0 W vs0 sc free e X (lone_need e (first_asked other asks).need) (lone_wants e (first_asked other asks).wants) z)) (λ vs.
      o_bind S 0 (o_from S 0 (λ c h z. let k = h z in ((k.0.0, subst (λ n. Th (uses e sc vs0 n)) (ap (λ b. cond b needs.Held (first_asked other asks).need) z ∙ need_agrees (first_asked other asks) r agree.0) k.0.1), k.1)) (k_single S 0 (Holds (X × Th (uses e sc vs0 (need_of r)))) e vs)) (λ v.
      o_then S 0 (o_suits S 0 e (first_asked other asks).wants v) (λ u.
      o_bind S 0 (u_taken es other (later_asked asks) (drop 1 ns) rs (X × Th (uses e sc vs0 (need_of r))) (omega (arith, l)) agree.2) (λ rest.
      o_back S 0 (v ∷ rest) (λ c h. ((h.0.0.0, all_join (IsThere sc.held vs0) (uses e sc vs0 (need_of r)) (its_uses es rs) h.0.0.1 h.0.1), h.1))))))

-- what they use is there, and they leave all variables, consumed or not
abbrev pub AllTold : Scope → Expressions → List Receiver → Context → Context → Type 0
AllTold sc es takers c d = (W : Places) → AllOf (FitsPart W c.vars) c.vars → AllOf (IsThere sc.held c.vars) (uses_by es sc c takers) × (AllLeft c.vars d.vars × AllOf (FitsPart W d.vars) d.vars)

pub arguments_tell : (S : InstanceKey → Signature → Type 0) (es : Expressions) (sc : Scope) (other : Need) (asks : List Asked) (ns : List Need) (takers : List Receiver) (c : Context) → NoStatics sc c.vars → count es ≡ length takers → Asking other asks ns takers
    → Gives S (λ r. AllTold sc es takers c r.1) (arguments es sc other asks c)
arguments_tell S es sc other asks ns takers c free long agree =
    gives-more S 0 (λ r. (b : Fitting) → After b r.1) (λ r. AllTold sc es takers c r.1) (arguments es sc other asks c)
    (gives_all S (λ b r. After b r.1) (arguments es sc other asks c) (λ b. (u_taken S b.0 c.vars sc free es other asks ns takers ⊤ long agree).runs c (tt, (left_same c.vars, b.1))))
    (λ r h W fits. let a = h (W, fits) in (a.0.1, a.1))
  where
    Fitting : Type 0
    Fitting = (W : Places) × AllOf (FitsPart W c.vars) c.vars

    After : Fitting → Context → Type 0
    After b d = (⊤ × AllOf (IsThere sc.held c.vars) (uses_by es sc c takers)) × (AllLeft c.vars d.vars × AllOf (FitsPart b.0 d.vars) d.vars)
