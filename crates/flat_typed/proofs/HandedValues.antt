-- Values that names take over, by what the lemma on arguments tells; assignments of them, as statements.
use Rattle.std.proofs.Common.{◌≡◌, inl, ℕ, suc, ◌+◌, ◌≤◌, true, false, not, List, [], ◌∷◌, ◌++◌, length, map, refl, sym, ap, ◌∙◌, subst, arith}
use Rattle.std.proofs.lemmas.List.{append-nil}
use Rattle.silq_tree.specs.declared.node.NameId.{NameId}
use Rattle.silq_tree.specs.Syntax.{Expressions, none, more}
use Rattle.silq_types.specs.declared.types.Ty.{Ty}
use Rattle.silq_types.specs.declared.need.Need.TheVariants as needs
use Rattle.silq_types.specs.declared.values.Value.{Value}
use Rattle.silq_types.specs.declared.values.Var.{Var}
use Rattle.silq_types.specs.Types.{count}
use Rattle.check_scope.specs.Context.{Scope, Context}
use Rattle.check_scope.specs.Walk.{Walk}
use Rattle.check_expr.specs.Owners.{owned, handed_arguments, Sole, Gives}
use Rattle.check_expr.specs.Expression.{arguments}
use Rattle.check_expr.proofs.Owners.{gives-more, sole-less, o_arguments}
use Rattle.silq_mean.specs.declared.receiver.Receiver.{Receiver}
use Rattle.silq_mean.specs.declared.receiver.Receiver.TheVariants.{Variable}
use Rattle.silq_mean.specs.Meaning as meanings
use Rattle.flat_core.specs.declared.step.WireId.{WireId}
use Rattle.flat_form.specs.declared.known.Known.{Known}
use Rattle.flat_form.specs.State.{Flattening}
use Rattle.flat_form.specs.Names.{AllOf}
use Rattle.flat_form.specs.Shows.{ListBoth}
use Rattle.flat_typed.specs.Places.{Places, owners_of}
use Rattle.flat_typed.specs.Relation.{Outside, is_argument}
use Rattle.flat_typed.specs.Done.{Begins, StmtBegins}
use Rattle.flat_typed.specs.Calls.{Three, carried, IsGivenOver, ArgsTells}
use Rattle.flat_typed.specs.Scopes.{as_meaning, NoStatics}
use Rattle.flat_typed.specs.Lemmas.{Callable, Asking, uses_by, ArgumentsAreFine}
use Rattle.flat_typed.specs.AssignmentLaws.{AssignNameIsFine, SpreadTupleIsFine, SpreadValueIsFine}
use Rattle.flat_typed.proofs.Turns.{gives_later, gives_both}
use Rattle.flat_typed.proofs.Reached.{begins_expression}
use Rattle.flat_typed.proofs.Naming.{variables_for}
use Rattle.flat_typed.proofs.TakenUses.{AllTold, arguments_tell}
use Rattle.flat_typed.proofs.Handing.{IsGiven, HandedOver, HandedOverFine}
use Rattle.flat_typed.proofs.Assignments.{assign_is_fine, spread_is_fine}
use Rattle.flat_typed.proofs.Spreads as by_value

-- ---- names take values over

asks_named : (xs : List NameId) → Asking needs.Consumed [] [] (variables_for xs)
asks_named [] = tt
asks_named (x ∷ xs) = ((refl, refl), refl, asks_named xs)

none_argument : (xs : List NameId) → AllOf (λ r. is_argument r ≡ false) (variables_for xs)
none_argument [] = tt
none_argument (x ∷ xs) = (refl, none_argument xs)

as_many : (xs : List NameId) → length xs ≡ length (variables_for xs)
as_many [] = refl
as_many (x ∷ xs) = ap suc (as_many xs)

given_each : (U : Places) (low : ℕ) (vars : List Var) (under : List Value) (xs : List NameId) (vs : List Value) (ks : List Known) → Three (IsGivenOver low (λ w. owners_of U vars under w)) (variables_for xs) vs ks → ListBoth (IsGiven U low vars under) vs ks
given_each U low vars under [] [] [] t = tt
given_each U low vars under [] [] (k ∷ ks) t = absurd t
given_each U low vars under [] (v ∷ vs) ks t = absurd t
given_each U low vars under (x ∷ xs) [] ks t = absurd t
given_each U low vars under (x ∷ xs) (v ∷ vs) [] t = absurd t
given_each U low vars under (x ∷ xs) (v ∷ vs) (k ∷ ks) t = (
  record { unheld = t.0.unheld refl; new = λ e. t.0.new refl e; shares = λ e. t.0.shares refl e (ap not e) },
  given_each U low vars under xs vs ks t.1,
)

-- ---- places

all_handed : (p : ℕ) (vs : List Value) → owned p vs ≤ 0 + handed_arguments needs.Consumed [] p vs
all_handed p [] = omega arith
all_handed p (v ∷ vs) = let a = all_handed p vs in omega (arith, a)

sole_told : (es : Expressions) (sc : Scope) (c : Context) → Gives (Callable sc) (λ r. Sole c.next (λ p. 0) c → Sole c.next (λ p. owned p r.0) r.1) (arguments es sc needs.Consumed [] c)
sole_told es sc c =
    gives_later (Callable sc) (λ r. Sole c.next (λ p. owned p r.0) r.1) (arguments es sc needs.Consumed [] c) (λ s.
    gives-more (Callable sc) c.next (λ r. Sole c.next (λ p. 0 + handed_arguments needs.Consumed [] p r.0) r.1) (λ r. Sole c.next (λ p. owned p r.0) r.1) (arguments es sc needs.Consumed [] c)
    ((o_arguments (Callable sc) c.next es (λ p. 0) sc (λ k g q. q.1) needs.Consumed []).runs c s)
    (λ r q. sole-less (Callable sc) c.next (λ p. 0 + handed_arguments needs.Consumed [] p r.0) (λ p. owned p r.0) r.1 q (λ p. all_handed p r.0)))

-- ---- values that are handed over

pub handed_over : (es : Expressions) → ArgumentsAreFine es → HandedOverFine es
handed_over es fine sc taker xs c long free =
    gives-more (Callable sc) 0 (λ r. Does r.0 r.1 × (AllTold sc es takers c r.1 × (Sole c.next (λ p. 0) c → Sole c.next (λ p. owned p r.0) r.1))) (λ r. HandedOver sc taker es takers c r.0 r.1) walk
    (gives_both (Callable sc) (λ r. Does r.0 r.1) (λ r. AllTold sc es takers c r.1 × (Sole c.next (λ p. 0) c → Sole c.next (λ p. owned p r.0) r.1)) walk
    (fine sc taker needs.Consumed [] [] takers c free (long ∙ as_many xs) (asks_named xs) (inl (none_argument xs)))
    (gives_both (Callable sc) (λ r. AllTold sc es takers c r.1) (λ r. Sole c.next (λ p. 0) c → Sole c.next (λ p. owned p r.0) r.1) walk
    (arguments_tell (Callable sc) es sc needs.Consumed [] [] takers c free (long ∙ as_many xs) (asks_named xs)) (sole_told es sc c)))
    (λ r h. record {
      does = λ out low W s b. (h.0 out low (λ p. 0) W [] s (begins_expression out sc low W c s (uses_by es sc c takers) b)).done;
      given = λ out low W s b.
          let a = h.0 out low (λ p. 0) W [] s (begins_expression out sc low W c s (uses_by es sc c takers) b) in
          given_each a.done.after c.next r.1.vars (carried takers r.0) xs r.0 a.done.answers
          (subst (λ l. Three (IsGivenOver c.next (λ w. owners_of a.done.after r.1.vars l w)) takers r.0 a.done.answers) (append-nil (carried takers r.0)) a.given);
      there = λ W fits. (h.1.0 W fits).0;
      left = λ W fits. (h.1.0 W fits).1.0;
      sole = h.1.1;
    })
  where
    takers : List Receiver
    takers = variables_for xs

    walk : Walk (List Value × Context)
    walk = arguments es sc needs.Consumed [] c

    Does : List Value → Context → Type 0
    Does vs d =
        (out : Outside) (low : ℕ) (others : ℕ → ℕ) (W : Places) (under : List Value) (s : Flattening) → Begins out sc low others W under (uses_by es sc c takers) c s →
        ArgsTells out sc takers (meanings.exprs es (as_meaning taker sc) needs.Consumed [] takers) W under (uses_by es sc c takers) c s vs d

-- ---- statements

pub assign_name_is_fine : AssignNameIsFine
assign_name_is_fine x e s fine = assign_is_fine x e s (handed_over (more e none) fine)

pub spread_tuple_is_fine : SpreadTupleIsFine
spread_tuple_is_fine xs es at s fine = spread_is_fine xs es at s (handed_over es fine)

pub spread_value_is_fine : SpreadValueIsFine
spread_value_is_fine xs e s t fine one = by_value.spread_value_is_fine xs e s t fine (handed_over (more e none) one)
