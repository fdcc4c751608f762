-- An assignment to a name, and to several names from a tuple, as statements.
use Rattle.std.proofs.Common.{◌≡◌, ℕ, suc, Bool, true, false, cond, not, List, [], ◌∷◌, ◌++◌, length, take, drop, reverse, refl, sym, ap, ap₂, ◌∙◌, subst, arith}
use Rattle.std.specs.Prelude.{◌==◌, ⊤}
use Rattle.std.proofs.lemmas.List.{append-nil, length-reverse, reverse-reverse}
use Rattle.std.proofs.lemmas.Bool.{eqb-true, eq-eqb}
use Rattle.silq_tree.specs.declared.node.NameId.{NameId}
use Rattle.silq_tree.specs.declared.node.Spot.{Spot}
use Rattle.silq_tree.specs.Syntax.{Expression, Expressions, none, more, tuple, whole, assign, spread}
use Rattle.silq_types.specs.declared.types.Ty.{Ty}
use Rattle.silq_types.specs.declared.need.Need.{Need}
use Rattle.silq_types.specs.declared.need.Need.TheVariants as needs
use Rattle.silq_types.specs.declared.signature.InstanceKey.{InstanceKey}
use Rattle.silq_types.specs.declared.signature.Signature.{Signature}
use Rattle.silq_types.specs.declared.values.Value.{Value}
use Rattle.silq_types.specs.Types.{at, count}
use Rattle.silq_types.specs.Rules.{rule, wrong_type}
use Rattle.check_scope.specs.Walk.{Walk, answer, broken, counted, asked, bind}
use Rattle.check_scope.specs.declared.uses.Use.{Use}
use Rattle.check_scope.specs.Context.{Scope, Context, Check, ◌>>=◌, ◌>>◌, fail, give_back}
use Rattle.check_expr.specs.Owners.{Gives, Ensures}
use Rattle.check_expr.specs.Expression.{Asked, is_tuple, lone_need, lone_wants, expr, arguments, single, suits}
use Rattle.check_expr.proofs.Owners.{gives-more, o_bind, o_then, o_from, o_back, o_more, o_rules, o_variables}
use Rattle.check_fun.specs.Statement.{bind_names, overwrites_linear, assigned, assign_name}
use Rattle.silq_mean.specs.declared.receiver.Receiver.{Receiver}
use Rattle.silq_mean.specs.declared.receiver.Receiver.TheVariants.{Variable}
use Rattle.silq_mean.specs.Effect.{Effect, step, receive, assign_to, assign_in_turn, ◌>>◌ as ◌▸◌}
use Rattle.silq_mean.specs.Env.{bound}
use Rattle.silq_mean.specs.Meaning as meanings
use Rattle.bit_arith.specs.Calls.{Targets}
use Rattle.flat_form.specs.declared.known.Known.{Known}
use Rattle.flat_form.specs.declared.known.Known.TheVariants.{Static, Shown, Lent, Absent}
use Rattle.flat_form.specs.State.{Flattening, first}
use Rattle.flat_form.specs.Flat.{flat, known_in, as_variable, bind_all}
use Rattle.flat_form.specs.Fine.{IsTaken, FitsIndex}
use Rattle.flat_form.specs.Names.{AllOf}
use Rattle.flat_typed.specs.Places.{Places}
use Rattle.flat_typed.specs.Relation.{Outside, IsTakenOver}
use Rattle.flat_typed.specs.Done.{StmtBegins, StmtDone}
use Rattle.flat_typed.specs.Calls.{Three}
use Rattle.flat_typed.specs.Scopes.{as_meaning}
use Rattle.flat_typed.specs.Lemmas.{Callable, uses_by, StatementIsFine}
use Rattle.flat_typed.proofs.Ordered.{clash}
use Rattle.flat_typed.proofs.Leaving.{k_any}
use Rattle.flat_typed.proofs.Turns.{Does, line_fine, gives_both}
use Rattle.flat_typed.proofs.Inside.{fits_none}
use Rattle.flat_typed.proofs.Naming.{variables_for}
use Rattle.flat_typed.proofs.Handing.{HandsOver, HandedOver, HandedOverFine}
use Rattle.flat_typed.proofs.Assigning.{handed_done, ks, final, assigned_done}

-- ---- what the walk tells

-- names are bound in turn, and no Linear value is overwritten
pub record Assigned (P : Context → Type 0) (xs : List NameId) (vs : List Value) (g : Context) : Type 0 where
  pub before : Context
  pub is : P before
  pub over : overwrites_linear before.vars xs vs ≡ false
  pub long : length xs ≡ length vs
  pub left : g ≡ record before { vars = bind_names before.vars xs vs }

truly : (b : Bool) → not b ≡ false → b ≡ true
truly true e = refl
truly false e = clash e

pub assigned_tells : (S : InstanceKey → Signature → Type 0) {P : Context → Type 0} (sc : Scope) (s : Spot) (xs : List NameId) (vs : List Value) → Ensures S P (assigned sc s xs vs) (λ u. Assigned P xs vs)
assigned_tells S sc s xs vs =
    o_bind S 0 (o_variables S 0) (λ vars. o_then S 0 (o_rules S 0 s _) (λ u.
    record {
      runs = λ d h. record {
        before = d;
        is = h.1.1;
        over = ap (λ l. overwrites_linear l xs vs) (sym h.1.0) ∙ h.0.1.1.1.0;
        long = eqb-true (length xs) (length vs) (truly (length xs == length vs) h.0.1.1.1.1.0);
        left = ap (λ l. record d { vars = bind_names l xs vs }) h.1.0;
      };
    }))

pub arguments_long : (S : InstanceKey → Signature → Type 0) (es : Expressions) (sc : Scope) (other : Need) (l : List Asked) → Ensures S (λ d. ⊤) (arguments es sc other l) (λ vs d. length vs ≡ count es)
arguments_long S none sc other l = o_back S 0 [] (λ d h. refl)
arguments_long S (more e es) sc other l =
    o_bind S 0 (k_any S 0 _) (λ vs. o_bind S 0 (k_any S 0 _) (λ v. o_then S 0 (k_any S 0 _) (λ u. o_bind S 0 (arguments_long S es sc other _) (λ rest. o_back S 0 (v ∷ rest) (λ d h. omega (arith, h))))))

-- ---- lists

pub take_own : {A : Type 0} (xs : List A) → take (length xs) xs ≡ xs
take_own [] = refl
take_own (x ∷ xs) = ap (λ l. x ∷ l) (take_own xs)

pub drop_own : {A : Type 0} (xs : List A) → drop (length xs) xs ≡ []
drop_own [] = refl
drop_own (x ∷ xs) = drop_own xs

module _ (U : Places) (used consumed : Targets) (n low : ℕ) where
  all_taken : (xs : List NameId) (vs : List Value) (ls : List Known) → Three (IsTakenOver U used consumed n low) (variables_for xs) vs ls → AllOf IsTaken ls
  all_taken [] [] [] t = tt
  all_taken [] [] (k ∷ ls) t = absurd t
  all_taken [] (v ∷ vs) ls t = absurd t
  all_taken (x ∷ xs) [] ls t = absurd t
  all_taken (x ∷ xs) (v ∷ vs) [] t = absurd t
  all_taken (x ∷ xs) (v ∷ vs) (k ∷ ls) t = (subst IsTaken (sym t.0.shows) refl, all_taken xs vs ls t.1)

  as_long : (xs : List NameId) (vs : List Value) (ls : List Known) → Three (IsTakenOver U used consumed n low) (variables_for xs) vs ls → length xs ≡ length ls
  as_long [] [] [] t = refl
  as_long [] [] (k ∷ ls) t = absurd t
  as_long [] (v ∷ vs) ls t = absurd t
  as_long (x ∷ xs) [] ls t = absurd t
  as_long (x ∷ xs) (v ∷ vs) [] t = absurd t
  as_long (x ∷ xs) (v ∷ vs) (k ∷ ls) t = ap suc (as_long xs vs ls t.1)

fits_any : (k : Known) → FitsIndex [] k
fits_any (Static z) = tt
fits_any (Shown v) = fits_none v.shape
fits_any (Lent start size v) = fits_none v.shape
fits_any Absent = tt

-- ---- values in turn

module _ (sc : Scope) (effect : Effect) (us_of : List Use) (xs : List NameId) (c d : Context) (vs : List Value) (h : HandsOver sc effect us_of (variables_for xs) c vs d) (out : Outside) (low : ℕ) (W : Places) (st : Flattening) (b : StmtBegins out sc low (λ p. 0) W c st) where
  abbrev s1 : Flattening
  s1 = flat effect st

  abbrev ls : List Known
  ls = ks sc effect us_of xs c d vs h out low W st b

  its_values : s1.values ≡ reverse ls
  its_values = (handed_done sc effect us_of xs c d vs h out low W st b).values ∙ (ap (λ l. reverse ls ++ l) b.none ∙ append-nil (reverse ls))

  long : length xs ≡ length ls
  long = as_long _ _ _ _ _ xs vs ls (handed_done sc effect us_of xs c d vs h out low W st b).each

  counted_so : length xs ≡ length (reverse ls)
  counted_so = long ∙ sym (length-reverse ls)

  args : reverse (take (length xs) s1.values) ≡ ls
  args =
      ap (λ l. reverse (take (length xs) l)) its_values
      ∙ (ap (λ n. reverse (take n (reverse ls))) counted_so ∙ (ap (λ l. reverse l) (take_own (reverse ls)) ∙ reverse-reverse ls))

  rest : drop (length xs) s1.values ≡ []
  rest = ap (λ l. drop (length xs) l) its_values ∙ (ap (λ n. drop n (reverse ls)) counted_so ∙ drop_own (reverse ls))

  becomes : flat (effect ▸ step (assign_in_turn xs)) st ≡ final sc effect us_of xs c d vs h out low W st b
  becomes = ap₂ (λ l r. record s1 { env = bind_all s1.env xs l; values = r }) args rest

  pub in_turn_done : (g : Context) → length xs ≡ length vs → overwrites_linear d.vars xs vs ≡ false → g ≡ record d { vars = bind_names d.vars xs vs } → StmtDone out sc (effect ▸ step (assign_in_turn xs)) W c st g
  in_turn_done g len over left =
      assigned_done sc effect us_of xs c d vs h out low W st b (effect ▸ step (assign_in_turn xs)) g
      ((handed_done sc effect us_of xs c d vs h out low W st b).fine, subst (AllOf IsTaken) (sym args) (all_taken _ _ _ _ _ xs vs ls (handed_done sc effect us_of xs c d vs h out low W st b).each)) becomes len over left

pub spread_is_fine : (xs : List NameId) (es : Expressions) (at s : Spot) → HandedOverFine es → StatementIsFine (spread xs (tuple es at) s)
spread_is_fine xs es at s fine sc taker c free =
    line_fine sc c (arguments es sc needs.Consumed [] >>= assigned sc s xs) effect_of s.line
    ((o_bind (Callable sc) 0 values (λ vs. o_more (Callable sc) 0 (assigned_tells (Callable sc) {P = λ d. (length vs ≡ count es) × (count es ≡ length xs → HandedOver sc taker es (variables_for xs) c vs d)} sc s xs vs)
    (λ u g k out low W st b. in_turn_done sc (meanings.exprs es (as_meaning taker sc) needs.Consumed [] (variables_for xs)) (uses_by es sc c (variables_for xs)) xs c k.before vs (k.is.1 (sym k.is.0 ∙ sym k.long)) out low W st b g k.long k.over k.left))).runs c refl)
  where
    effect_of : Effect
    effect_of = meanings.exprs es (as_meaning taker sc) needs.Consumed [] (variables_for xs) ▸ step (assign_in_turn xs)

    handed : (t : Bool) → (count es == length xs) ≡ t → Gives (Callable sc) (λ r. count es ≡ length xs → HandedOver sc taker es (variables_for xs) c r.0 r.1) (arguments es sc needs.Consumed [] c)
    handed true e = gives-more (Callable sc) 0 (λ r. HandedOver sc taker es (variables_for xs) c r.0 r.1) (λ r. count es ≡ length xs → HandedOver sc taker es (variables_for xs) c r.0 r.1) (arguments es sc needs.Consumed [] c) (fine sc taker xs c (eqb-true (count es) (length xs) e) free) (λ r h q. h)
    handed false e = gives-more (Callable sc) 0 (λ r. ⊤) (λ r. count es ≡ length xs → HandedOver sc taker es (variables_for xs) c r.0 r.1) (arguments es sc needs.Consumed [] c) ((k_any (Callable sc) 0 {P = λ d. ⊤} (arguments es sc needs.Consumed [])).runs c tt) (λ r h q. clash (sym (eq-eqb (count es) (length xs) q) ∙ e))

    values : Ensures (Callable sc) (λ d. d ≡ c) (arguments es sc needs.Consumed []) (λ vs d. (length vs ≡ count es) × (count es ≡ length xs → HandedOver sc taker es (variables_for xs) c vs d))
    values = record {
      runs = λ d q.
          subst (λ y. Gives (Callable sc) (λ r. (length r.0 ≡ count es) × (count es ≡ length xs → HandedOver sc taker es (variables_for xs) c r.0 r.1)) (arguments es sc needs.Consumed [] y)) (sym q)
          (gives_both (Callable sc) (λ r. length r.0 ≡ count es) (λ r. count es ≡ length xs → HandedOver sc taker es (variables_for xs) c r.0 r.1) (arguments es sc needs.Consumed [] c)
          ((arguments_long (Callable sc) es sc needs.Consumed []).runs c tt) (handed (count es == length xs) refl));
    }

-- ---- one value

-- what goes on behind a walk tells what it gives
pub gives_front : {A B : Type 0} (S : InstanceKey → Signature → Type 0) (P : B → Type 0) (w : Walk A) (f : A → Walk B) → Gives S P (bind w f) → Gives S (λ a. Gives S P (f a)) w
gives_front S P (answer a) f g = g
gives_front S P (broken e) f g = tt
gives_front S P (counted w) f g = gives_front S P w f g
gives_front S P (asked k next) f g = λ s ok. gives_front S P (next s) f (g s ok)

wants_none : (e : Expression) → lone_wants e [] ≡ []
wants_none e = go (is_tuple e)
  where
    go : (t : Bool) → ◌≡◌ {A = List Ty} (cond t [] []) []
    go true = refl
    go false = refl

-- where one value is no tuple, it is the first of a list of one
pub one_handed : (S : InstanceKey → Signature → Type 0) (P : List Value × Context → Type 0) (e : Expression) (sc : Scope) (c : Context) → is_tuple e ≡ false → Gives S P (arguments (more e none) sc needs.Consumed [] c)
    → Gives S (λ r. (v : Value) → r.0 ≡ v ∷ [] → P (v ∷ [], r.1)) (expr e sc (lone_need e needs.Consumed) [] c)
unfolding ◌>>=◌ ◌>>◌
one_handed S P e sc c t g =
    subst (λ l. Gives S (λ r. (v : Value) → r.0 ≡ v ∷ [] → P (v ∷ [], r.1)) (expr e sc (lone_need e needs.Consumed) l c)) (wants_none e)
    (gives-more S 0 (λ a. Gives S P (rest a)) (λ r. (v : Value) → r.0 ≡ v ∷ [] → P (v ∷ [], r.1)) (expr e sc (lone_need e needs.Consumed) (lone_wants e []) c)
    (gives_front S P (expr e sc (lone_need e needs.Consumed) (lone_wants e []) c) rest g)
    (λ a q v i. subst (λ b. Gives S P (later b v a.1)) t (subst (λ l. Gives S P (rest (l, a.1))) i q)))
  where
    rest : List Value × Context → Walk (List Value × Context)
    rest a = bind {A = Value × Context} {B = List Value × Context} (single e a.0 a.1) (λ r. bind {A = Unit {0} × Context} {B = List Value × Context} (suits e [] r.0 r.1) (λ u. answer (r.0 ∷ [], u.1)))

    later : Bool → Value → Context → Walk (List Value × Context)
    later b v d = bind {A = Value × Context} {B = List Value × Context} (cond {A = Check Value} b (fail (rule wrong_type (at e))) (give_back v) d) (λ r. bind (suits e [] r.0 r.1) (λ u. answer (r.0 ∷ [], u.1)))

pub record OneKnown (ls : List Known) : Type 0 where
  pub known : Known
  pub all : ls ≡ known ∷ []
  pub taken : IsTaken known

one_known : (U : Places) (used consumed : Targets) (n low : ℕ) (x : NameId) (v : Value) (ls : List Known) → Three (IsTakenOver U used consumed n low) (variables_for (x ∷ [])) (v ∷ []) ls → OneKnown ls
one_known U used consumed n low x v [] t = absurd t
one_known U used consumed n low x v (k ∷ []) t = record { known = k; all = refl; taken = subst IsTaken (sym t.0.shows) refl }
one_known U used consumed n low x v (k ∷ (l ∷ more_known)) t = absurd t.1

module _ (sc : Scope) (taker : Ty → Receiver) (e : Expression) (x : NameId) (c d : Context) (v : Value) (h : HandedOver sc taker (more e none) (variables_for (x ∷ [])) c (v ∷ []) d) (out : Outside) (low : ℕ) (W : Places) (st : Flattening) (b : StmtBegins out sc low (λ p. 0) W c st) where
  abbrev one_effect : Effect
  one_effect = meanings.expr e (as_meaning taker sc) needs.Consumed ▸ step (receive Variable)

  abbrev listed_effect : Effect
  listed_effect = meanings.exprs (more e none) (as_meaning taker sc) needs.Consumed [] (variables_for (x ∷ []))

  abbrev listed_uses : List Use
  listed_uses = uses_by (more e none) sc c (variables_for (x ∷ []))

  abbrev t1 : Flattening
  t1 = flat one_effect st

  abbrev ms : List Known
  ms = ks sc listed_effect listed_uses (x ∷ []) c d (v ∷ []) h out low W st b

  only : OneKnown ms
  only = one_known _ _ _ _ _ x v ms (handed_done sc listed_effect listed_uses (x ∷ []) c d (v ∷ []) h out low W st b).each

  one_value : t1.values ≡ only.known ∷ []
  one_value = (handed_done sc listed_effect listed_uses (x ∷ []) c d (v ∷ []) h out low W st b).values ∙ (ap (λ l. reverse l ++ st.values) only.all ∙ ap (λ l. only.known ∷ l) b.none)

  abbrev bound_to : List Known → Flattening
  bound_to l = record t1 { env = bound t1.env x (as_variable (first l)); values = drop 1 l }

  name_becomes : flat (one_effect ▸ step (assign_to x [])) st ≡ final sc listed_effect listed_uses (x ∷ []) c d (v ∷ []) h out low W st b
  name_becomes = ap bound_to one_value ∙ ap (λ q. record t1 { env = bind_all t1.env (x ∷ []) q; values = [] }) (sym only.all)

  pub name_done : (g : Context) → overwrites_linear d.vars (x ∷ []) (v ∷ []) ≡ false → g ≡ record d { vars = bind_names d.vars (x ∷ []) (v ∷ []) } → StmtDone out sc (one_effect ▸ step (assign_to x [])) W c st g
  name_done g over left =
      assigned_done sc listed_effect listed_uses (x ∷ []) c d (v ∷ []) h out low W st b (one_effect ▸ step (assign_to x [])) g
      ((handed_done sc listed_effect listed_uses (x ∷ []) c d (v ∷ []) h out low W st b).fine.0, (subst (λ l. IsTaken (first l)) (sym one_value) only.taken, fits_any (known_in t1 x))) name_becomes refl over left

pub assign_is_fine : (x : NameId) (e : Expression) (s : Spot) → HandedOverFine (more e none) → StatementIsFine (assign (whole x) e s)
assign_is_fine x e s fine sc taker c free =
    line_fine sc c (assign_name sc x e s) its_effect s.line
    ((o_bind (Callable sc) 0 (values (is_tuple e) refl) (λ vs. o_then (Callable sc) 0 (o_rules (Callable sc) 0 (at e) _) (λ u. o_more (Callable sc) 0 (o_from (Callable sc) 0 (λ d h. (h.0.0, h.1)) (assigned_tells (Callable sc) {P = λ d. (is_tuple e ≡ false) × (is_tuple e ≡ false → Handed vs d)} sc s (x ∷ []) vs))
    (λ u' g k. ends vs g k)))).runs c refl)
  where
    its_effect : Effect
    its_effect = (meanings.expr e (as_meaning taker sc) needs.Consumed ▸ step (receive Variable)) ▸ step (assign_to x [])

    Handed : List Value → Context → Type 0
    Handed vs d = (v : Value) → vs ≡ v ∷ [] → HandedOver sc taker (more e none) (variables_for (x ∷ [])) c (v ∷ []) d

    values : (t : Bool) → is_tuple e ≡ t → Ensures (Callable sc) (λ d. d ≡ c) (expr e sc (lone_need e needs.Consumed) []) (λ vs d. is_tuple e ≡ false → Handed vs d)
    values true t = o_more (Callable sc) 0 (k_any (Callable sc) 0 (expr e sc (lone_need e needs.Consumed) [])) (λ vs d h z. clash (sym t ∙ z))
    values false t = record {
      runs = λ d q.
          subst (λ y. Gives (Callable sc) (λ r. is_tuple e ≡ false → Handed r.0 r.1) (expr e sc (lone_need e needs.Consumed) [] y)) (sym q)
          (gives-more (Callable sc) 0 (λ r. Handed r.0 r.1) (λ r. is_tuple e ≡ false → Handed r.0 r.1) (expr e sc (lone_need e needs.Consumed) [] c)
          (one_handed (Callable sc) (λ r. HandedOver sc taker (more e none) (variables_for (x ∷ [])) c r.0 r.1) e sc c t (fine sc taker (x ∷ []) c refl free)) (λ r h z. h));
    }

    ends : (vs : List Value) (g : Context) → Assigned (λ d. (is_tuple e ≡ false) × (is_tuple e ≡ false → Handed vs d)) (x ∷ []) vs g → Does sc c its_effect g
    ends [] g k = absurd (let l = k.long in omega (arith, l))
    ends (v ∷ []) g k = λ out low W st b. name_done sc taker e x c k.before v (k.is.1 k.is.0 v refl) out low W st b g k.over k.left
    ends (v ∷ (w ∷ vs)) g k = absurd (let l = k.long in omega (arith, l))
