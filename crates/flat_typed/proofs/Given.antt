-- A step behind an expression that gives one value: both together, with what the value tells.
use Rattle.std.proofs.Common.{◌≡◌, ◌⊎◌, inl, inr, ℕ, ◌≤◌, Bool, true, List, [], ◌∷◌, ◌++◌, refl, ap, ◌∙◌, subst}
use Rattle.std.specs.Prelude.{reverse}
use Rattle.silq_types.specs.declared.types.Ty.{Ty}
use Rattle.silq_types.specs.declared.values.Part.{Part}
use Rattle.silq_types.specs.declared.values.Value.{Value}
use Rattle.silq_types.specs.declared.need.Need.{Need}
use Rattle.silq_types.specs.Calls.{is_consumed}
use Rattle.check_scope.specs.declared.uses.Use.{Use}
use Rattle.check_scope.specs.Context.{Scope, Context}
use Rattle.check_expr.specs.Expression.{is_qfree}
use Rattle.silq_mean.specs.Effect.{Effect, ◌>>◌, nothing}
use Rattle.bit_arith.specs.Calls.{Targets}
use Rattle.flat_form.specs.declared.known.TypedBits.{TypedBits}
use Rattle.flat_form.specs.declared.known.Known.{Known}
use Rattle.flat_form.specs.declared.known.Known.TheVariants.{Static, Shown, Lent, Absent}
use Rattle.flat_form.specs.State.{Flattening, wires_so_far}
use Rattle.flat_form.specs.Flat.{flat}
use Rattle.flat_form.specs.Fine.{Fine}
use Rattle.flat_form.specs.Names.{AllOf}
use Rattle.flat_form.specs.Shows.{ListBoth}
use Rattle.flat_typed.specs.Places.{Places, owners_of}
use Rattle.flat_typed.specs.Footprint.{used_wires, consumed_wires, Touches, StaysPlain, Unmade}
use Rattle.flat_typed.specs.Relation.{Outside, Stands, IsAnswer, OfType}
use Rattle.flat_typed.specs.Done.{Agree, ExprDone, ExprTells, IsSharing, IsTyped, EndsDropped, Leaves, kinds, carrying}
use Rattle.flat_typed.proofs.Giving.{Beyond, GivesValue, touches_beyond}
use Rattle.flat_typed.proofs.Behind.{leaves_then}

-- where a step went from s to e; it mixes nothing where the function is to be without measures and H
pub record GivesTold (out : Outside) (held : List (List Part)) (W : Places) (need : Need) (used consumed : Targets) (n low : ℕ) (qfree : Bool) (under : List Value) (c : Context) (s : Flattening) (rest : List Known) (v : Value) (e : Flattening) : Type 0 where
  pub answer : Known
  pub values : e.values ≡ answer ∷ rest
  pub given : IsAnswer W need used consumed n low v answer
  pub stands : Stands out held W (carrying need (v ∷ []) (answer ∷ []) ++ under) c e
  pub leaves : Leaves s e
  pub touches : Touches (Beyond consumed n) s.built.draft e.built.draft
  pub plain : qfree ≡ true → StaysPlain s.built.draft e.built.draft
  pub unmade : Unmade s.built.draft → Unmade e.built.draft
  pub sharing : IsSharing need low (λ w. owners_of W c.vars under w) v answer
  pub typed : IsTyped answer
  pub untold : EndsDropped n e.built.draft answer

-- and what is given without more
pub with_tells : (out : Outside) (held : List (List Part)) (W : Places) (need : Need) (used consumed : Targets) (n low : ℕ) (qfree : Bool) (under : List Value) (c : Context) (s : Flattening) (rest : List Known) (v : Value) (e : Flattening) (g : GivesValue out held W need used consumed n low under c s rest v e)
    → IsSharing need low (λ w. owners_of W c.vars under w) v g.answer → IsTyped g.answer → EndsDropped n e.built.draft g.answer
    → GivesTold out held W need used consumed n low qfree under c s rest v e
with_tells out held W need used consumed n low qfree under c s rest v e g sharing typed untold = record {
  answer = g.answer;
  values = g.values;
  given = g.given;
  stands = g.stands;
  leaves = g.leaves;
  touches = g.touches;
  plain = λ q. g.plain;
  unmade = g.unmade;
  sharing = sharing;
  typed = typed;
  untold = untold;
}

-- a step that gives a value for that of the expression
pub then_tells : (out : Outside) (sc : Scope) (need other : Need) (wants : List Ty) (e : Effect) (W : Places) (under : List Value) (us : List Use) (c : Context) (s : Flattening) (xs : List Value) (d : Context) (o : ExprDone out sc other e W under us c s xs d) (st : Effect) (U : Places) (v : Value) (f : Context)
    → Agree c.next o.after U → Fine st (flat e s) → kinds f.vars ≡ kinds d.vars
    → GivesTold out sc.held U need (used_wires W c.vars us) (consumed_wires W c.vars us) (wires_so_far s) c.next (is_qfree sc.this.mark) under f (flat e s) s.values v (flat st (flat e s)) → ExprTells out sc need wants (e >> st) W under us c s (v ∷ []) f
then_tells out sc need other wants e W under us c s xs d o st U v f agree fine same g = record {
  done = record {
    fine = (o.fine, fine);
    after = U;
    agree = λ p l. agree p l ∙ o.agree p l;
    answers = g.answer ∷ [];
    values = g.values;
    each = (g.given, tt);
    stands = g.stands;
    kinds_stay = same ∙ o.kinds_stay;
    leaves = leaves_then s (flat e s) (flat st (flat e s)) o.leaves g.leaves;
    touches = touches_beyond (consumed_wires W c.vars us) s.built.draft (flat e s).built.draft (flat st (flat e s)).built.draft o.touches g.touches;
    plain = λ q w m. o.plain q w (g.plain q w m);
    unmade = g.unmade o.unmade;
  };
  sharing = (g.sharing, tt);
  typed = λ q. (g.typed, tt);
  untold = (g.untold, tt);
  several = tt;
}

-- an effect with nothing behind it
pub with_nothing : (out : Outside) (sc : Scope) (need : Need) (wants : List Ty) (e : Effect) (W : Places) (under : List Value) (us : List Use) (c : Context) (s : Flattening) (vs : List Value) (d : Context) → ExprTells out sc need wants e W under us c s vs d → ExprTells out sc need wants (e >> nothing >> nothing) W under us c s vs d
with_nothing out sc need wants e W under us c s vs d t = record {
  done = record {
    fine = ((t.done.fine, tt), tt);
    after = t.done.after;
    agree = t.done.agree;
    answers = t.done.answers;
    values = t.done.values;
    each = t.done.each;
    stands = t.done.stands;
    kinds_stay = t.done.kinds_stay;
    leaves = t.done.leaves;
    touches = t.done.touches;
    plain = t.done.plain;
    unmade = t.done.unmade;
  };
  sharing = t.sharing;
  typed = t.typed;
  untold = t.untold;
  several = t.several;
}

-- ---- one value with a type

pub record OneShown (Q : Value → Known → Type 0) (v : Value) (ks : List Known) : Type 0 where
  pub bits : TypedBits
  pub all : ks ≡ Shown bits ∷ []
  pub is : Q v (Shown bits)

pub one_shown : (Q : Value → Known → Type 0) (v : Value) (ks : List Known) → ((k : Known) → Q v k → OfType v.ty k) → AllOf IsTyped ks → ListBoth Q (v ∷ []) ks → OneShown Q v ks
one_shown Q v [] f t h = absurd h
one_shown Q v (Static z ∷ []) f t h = absurd t.0
one_shown Q v (Shown u ∷ []) f t h = record { bits = u; all = refl; is = h.0 }
one_shown Q v (Lent start size u ∷ []) f t h = absurd (f (Lent start size u) h.0)
one_shown Q v (Absent ∷ []) f t h = absurd (f Absent h.0)
one_shown Q v (k ∷ l ∷ ks) f t h = absurd h.1
