-- What is asked of an effect and of its parts, and what refuses them.
use Rattle.std.proofs.Common.{◌≡◌, ℕ, refl, sym, ap, ◌∙◌, subst}
use Rattle.silq_tree.specs.declared.node.NameId.{NameId}
use Rattle.silq_io.specs.declared.limit.LimitFault.{LimitFault}
use Rattle.silq_mean.specs.Effect.{Effect, nothing, ◌>>◌, statement, claim}
use Rattle.bit_arith.specs.Calls.{Refused}
use Rattle.flat_form.specs.State.{Flattening}
use Rattle.flat_form.specs.Flat.{flat, count_statement, on_line}
use Rattle.flat_form.proofs.Goods.{good_flat, good_statement}
use Rattle.flat_steps.specs.Ready.{Ready}
use Rattle.flat_steps.proofs.Stays.{refused_first}

pub ready_first : (a b : Effect) (s : Flattening) → Ready (a >> b) s → Ready a s
ready_first a b s r = record { good = r.good; fine = r.fine.0 }

pub ready_second : (a b : Effect) (s : Flattening) → Ready (a >> b) s → Ready b (flat a s)
ready_second a b s r = record { good = good_flat a s r.good r.fine.0; fine = r.fine.1 }

pub ready_after : (a b : Effect) (s t : Flattening) → t ≡ flat a s → Ready (a >> b) s → Ready b t
ready_after a b s t e r = subst (λ u. Ready b u) (sym e) (ready_second a b s r)

pub ready_statement : (line : ℕ) (e : Effect) (s : Flattening) → Ready (statement line e) s → Ready e (on_line line (count_statement s))
ready_statement line e s r = record { good = good_statement line s r.good; fine = r.fine }

pub ready_as : (a b : Effect) (s : Flattening) → a ≡ b → Ready a s → Ready b s
ready_as a b s e r = subst (λ x. Ready x s) e r

-- the line of a claim does not matter
pub claim_ready : (x : NameId) (s : Flattening) → Ready (claim 0 x) s → (line : ℕ) → Ready (claim line x) s
claim_ready x s r line = record { good = r.good; fine = r.fine }

pub refused_after : (f : LimitFault) (a b : Effect) (s t : Flattening) → t ≡ flat a s → Refused f (flat b t).built → Refused f (flat (a >> b) s).built
refused_after f a b s t e r = subst (λ u. Refused f (flat b u).built) e r

pub refused_as : (f : LimitFault) (a b : Effect) (s : Flattening) → a ≡ b → Refused f (flat a s).built → Refused f (flat b s).built
refused_as f a b s e r = subst (λ x. Refused f (flat x s).built) e r

-- a walk that is under way: the rest of the effect, from the state now, leads to where the whole leads
pub record Onward (rest : Effect) (whole now : Flattening) : Type 0 where
  pub ready : Ready rest now
  pub goes : flat rest now ≡ whole

pub onward_start : (e : Effect) (s : Flattening) → Ready e s → Onward e (flat e s) s
onward_start e s r = record { ready = r; goes = refl }

pub onward_as : (a b : Effect) (whole now : Flattening) → a ≡ b → Onward a whole now → Onward b whole now
onward_as a b whole now e o = subst (λ x. Onward x whole now) e o

pub onward_step : (a rest : Effect) (whole now later : Flattening) → Onward (a >> rest) whole now → later ≡ flat a now → Onward rest whole later
onward_step a rest whole now later o e = record {
  ready = ready_after a rest now later e o.ready;
  goes = ap (λ u. flat rest u) e ∙ o.goes;
}

pub onward_refused : (f : LimitFault) (a rest : Effect) (whole now : Flattening) → Onward (a >> rest) whole now → Refused f (flat a now).built → Refused f whole.built
onward_refused f a rest whole now o r = subst (λ u. Refused f u.built) o.goes (refused_first f a rest now r)

pub onward_end : (whole now : Flattening) → Onward nothing whole now → now ≡ whole
onward_end whole now o = o.goes
