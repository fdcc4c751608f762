-- What is known stays known, and stays shown where the values of its wires stay.
use Rattle.std.proofs.Common.{◌≡◌, ℕ, zero, suc, ◌+◌, ◌≤◌, ◌<◌, Bool, true, false, cond, ◌||◌, List, [], ◌∷◌, ◌++◌, length, take, drop, reverse, refl, sym, ap, ap₂, ◌∙◌, subst, arith, inl, inr}
use Rattle.std.specs.Bool.{beq}
use Rattle.std.specs.List.{list_any}
use Rattle.std.proofs.lemmas.Bool.{eqb-true, eq-eqb, cases_Bool}
use Rattle.silq_tree.specs.declared.node.NameId.{NameId}
use Rattle.silq_types.specs.Types.{same_name}
use Rattle.silq_mean.specs.Effect.{assign_in_turn, enter_block, leave_block}
use Rattle.silq_mean.specs.Value.{Value, whole, single, array, gone}
use Rattle.silq_mean.specs.Env.{Block, Env, is_in_block, in_block, found, is_in_reach, block_with, in_its_block, in_first_block, bound}
use Rattle.silq_mean.specs.Term.{Term}
use Rattle.flat_core.specs.declared.step.WireId.{WireId}
use Rattle.flat_core.specs.Label.{same_wire}
use Rattle.flat_mean.specs.Row.{Row}
use Rattle.flat_mean.specs.Terms.{Term as WireTerm}
use Rattle.bit_arith.specs.declared.operand.Operand.{Operand}
use Rattle.bit_arith.specs.declared.operand.Operand.TheVariants.{Const, Literal}
use Rattle.bit_arith.specs.Calls.{Targets, no_target, AllSafe}
use Rattle.bit_arith.specs.Values.{bit_of, bits_at}
use Rattle.bit_arith.proofs.Steps.{or_false, clash, Agree}
use Rattle.bit_arith.proofs.Listed.{safe_more}
use Rattle.flat_form.specs.declared.known.TypedBits.{TypedBits}
use Rattle.flat_form.specs.declared.known.Known.{Known}
use Rattle.flat_form.specs.declared.known.Known.TheVariants.{Static, Shown, Lent, Absent}
use Rattle.flat_form.specs.State.{Caller, Flattening, first, last, push, drop_last, outside}
use Rattle.flat_form.specs.Flat.{as_variable, bind, known_in, bind_all, paired, enter, back_to, flat_step}
use Rattle.flat_form.specs.Names.{AllOf, AllEnv, CallerOf, AllKnown, operands_in, named_by, names, Spares}
use Rattle.flat_form.specs.Good.{IsShown, IsKnown}
use Rattle.flat_form.specs.Shows.{Shows, ListBoth, EnvBoth, CallerShows, Related}
use Rattle.flat_form.proofs.Both.{both_map, env_map, both_drop, all_take, all_drop, all_append, all_reverse, all_weak, its_left, bound_both}
use Rattle.flat_form.proofs.Pieces.{outside_map}

-- ---- operands that are taken from others

pub safe_take : (n : ℕ) (T : Targets) (i : ℕ) (ps : List Operand) → AllSafe n T ps → AllSafe n T (take i ps)
safe_take n T zero ps s = tt
safe_take n T (suc i) [] s = tt
safe_take n T (suc i) (p ∷ ps) s = (s.0, safe_take n T i ps s.1)

pub safe_drop : (n : ℕ) (T : Targets) (i : ℕ) (ps : List Operand) → AllSafe n T ps → AllSafe n T (drop i ps)
safe_drop n T zero ps s = s
safe_drop n T (suc i) [] s = tt
safe_drop n T (suc i) (p ∷ ps) s = safe_drop n T i ps s.1

pub safe_both : (n : ℕ) (T : Targets) (ps qs : List Operand) → AllSafe n T ps → AllSafe n T qs → AllSafe n T (ps ++ qs)
safe_both n T [] qs s t = t
safe_both n T (p ∷ ps) qs s t = (s.0, safe_both n T ps qs s.1 t)

pub safe_outside : (n : ℕ) (T : Targets) (start size : ℕ) (ps : List Operand) → AllSafe n T ps → AllSafe n T (outside start size ps)
safe_outside n T start size ps s = safe_both n T (take start ps) (drop (start + size) ps) (safe_take n T start ps s) (safe_drop n T (start + size) ps s)

-- ---- wires that operands name

or_left : (a b : Bool) → a ≡ true → a || b ≡ true
or_left a b e = ap (λ x. x || b) e

or_right : (a b : Bool) → b ≡ true → a || b ≡ true
or_right true b e = refl
or_right false b e = e

-- a named wire is one of the first n
pub named_below : (n : ℕ) (T : Targets) (w : WireId) (ps : List Operand) → AllSafe n T ps → list_any (named_by w) ps ≡ true → w.number < n
named_below n T w [] s e = absurd (clash e)
named_below n T w (Const b ∷ ps) s e = named_below n T w ps s.1 e
named_below n T w (Literal l ∷ ps) s e = pick (same_wire l.wire w) refl (named_below n T w ps s.1) e
  where
    pick : (b : Bool) → same_wire l.wire w ≡ b → (list_any (named_by w) ps ≡ true → w.number < n) → b || list_any (named_by w) ps ≡ true → w.number < n
    pick true f k g = let h : l.wire.number ≡ w.number = eqb-true l.wire.number w.number f in let lt = s.0.0 in omega (arith, h, lt)
    pick false f k g = k g

-- operands of which no target is named are safe from the targets
pub safe_spared : (n : ℕ) (T : Targets) (ps : List Operand) → AllSafe n no_target ps → ((w : WireId) → T w ≡ true → list_any (named_by w) ps ≡ false) → AllSafe n T ps
safe_spared n T [] s o = tt
safe_spared n T (Const b ∷ ps) s o = (tt, safe_spared n T ps s.1 o)
safe_spared n T (Literal l ∷ ps) s o = (
  (
    s.0.0,
    elim (cases_Bool (T l.wire)) [
      | inl e ↦ absurd (clash (sym (o l.wire e) ∙ or_left (same_wire l.wire l.wire) (list_any (named_by l.wire) ps) (eq-eqb l.wire.number l.wire.number refl)))
      | inr e ↦ e
    ],
  ),
  safe_spared n T ps s.1 (λ w e. (or_false (same_wire l.wire w) (list_any (named_by w) ps) (o w e)).1),
)

-- ---- what is known, with more wires

pub shown_more : (n m : ℕ) (v : TypedBits) → n ≤ m → IsShown n v → IsShown m v
shown_more n m v le s = record { size = s.size; there = safe_more n m no_target no_target v.operands le (λ w lt t. t) s.there; wires = s.wires }

pub known_more : (n m : ℕ) (k : Known) → n ≤ m → IsKnown n k → IsKnown m k
known_more n m (Static z) le s = tt
known_more n m (Shown v) le s = shown_more n m v le s
known_more n m (Lent start size v) le s = shown_more n m v le s
known_more n m Absent le s = tt

-- the operands that are there
pub operands_safe : (n : ℕ) (k : Known) → IsKnown n k → AllSafe n no_target (operands_in k)
operands_safe n (Static z) s = tt
operands_safe n (Shown v) s = s.there
operands_safe n (Lent start size v) s = safe_outside n no_target start size v.operands s.there
operands_safe n Absent s = tt

-- nothing that is known names a wire that is not made
pub new_unnamed : (n : ℕ) (k : Known) (w : WireId) → IsKnown n k → n ≤ w.number → names k w ≡ false
new_unnamed n k w s le = elim (cases_Bool (names k w)) [
  | inl e ↦ (let lt : w.number < n = named_below n no_target w (operands_in k) (operands_safe n k s) e in absurd (omega (arith, lt, le)))
  | inr e ↦ e
]

-- targets above all wires that are there are spared
pub spares_new : (n : ℕ) (T : Targets) (k : Known) → ((w : WireId) → T w ≡ true → n ≤ w.number) → IsKnown n k → Spares T k
spares_new n T k o s = λ w t. new_unnamed n k w s (o w t)

pub spares_none : (k : Known) → Spares no_target k
spares_none k = λ w t. absurd (clash t)

-- ---- what holds of each item

pub all_zip : {A : Type 0} (Q R S : A → Type 0) → ((a : A) → Q a → R a → S a) → (xs : List A) → AllOf Q xs → AllOf R xs → AllOf S xs
all_zip Q R S f [] h k = tt
all_zip Q R S f (a ∷ rest) h k = (f a h.0 k.0, all_zip Q R S f rest h.1 k.1)

pub all_and : {A : Type 0} (Q R : A → Type 0) (xs : List A) → AllOf Q xs → AllOf R xs → AllOf (λ a. Q a × R a) xs
all_and Q R xs h k = all_zip Q R (λ a. Q a × R a) (λ a x y. (x, y)) xs h k

pub all_first : (Q : Known → Type 0) → Q Absent → (ks : List Known) → AllOf Q ks → Q (first ks)
all_first Q q [] h = q
all_first Q q (k ∷ ks) h = h.0

-- ---- environments

abbrev pub AllBlock : {A : Type 0} → (A → Type 0) → Block A → Type 0
AllBlock Q vs = AllOf (λ p. Q p.1) vs

in_block_all : {A : Type 0} (Q : A → Type 0) (d : A) (vs : Block A) (x : NameId) → Q d → AllBlock Q vs → Q (in_block d vs x)
in_block_all Q d [] x q h = q
in_block_all Q d (v ∷ vs) x q h = pick (same_name v.0 x) (in_block_all Q d vs x q h.1)
  where
    pick : (b : Bool) → Q (in_block d vs x) → Q (cond b v.1 (in_block d vs x))
    pick true k = h.0
    pick false k = k

pub found_all : {A : Type 0} (Q : A → Type 0) (d : A) (env : Env A) (x : NameId) → Q d → AllEnv Q env → Q (found d env x)
found_all Q d [] x q h = q
found_all Q d (b ∷ bs) x q h = pick (is_in_block b x) (found_all Q d bs x q h.1)
  where
    pick : (c : Bool) → Q (found d bs x) → Q (cond c (in_block d b x) (found d bs x))
    pick true k = in_block_all Q d b x q h.0
    pick false k = k

block_with_all : {A : Type 0} (Q : A → Type 0) (vs : Block A) (x : NameId) (a : A) → Q a → AllBlock Q vs → AllBlock Q (block_with vs x a)
block_with_all Q [] x a q h = (q, tt)
block_with_all Q (v ∷ vs) x a q h = pick (same_name v.0 x) (block_with_all Q vs x a q h.1)
  where
    pick : (b : Bool) → AllBlock Q (block_with vs x a) → AllBlock Q (cond b ((v.0, a) ∷ vs) (v ∷ block_with vs x a))
    pick true k = (q, h.1)
    pick false k = (h.0, k)

pub its_all : {A : Type 0} (Q : A → Type 0) (env : Env A) (x : NameId) (a : A) → Q a → AllEnv Q env → AllEnv Q (in_its_block env x a)
its_all Q [] x a q h = tt
its_all Q (b ∷ bs) x a q h = pick (is_in_block b x) (its_all Q bs x a q h.1)
  where
    pick : (c : Bool) → AllEnv Q (in_its_block bs x a) → AllEnv Q (cond c (block_with b x a ∷ bs) (b ∷ in_its_block bs x a))
    pick true k = (block_with_all Q b x a q h.0, h.1)
    pick false k = (h.0, k)

first_block_all : {A : Type 0} (Q : A → Type 0) (env : Env A) (x : NameId) (a : A) → Q a → AllEnv Q env → AllEnv Q (in_first_block env x a)
first_block_all Q [] x a q h = ((q, tt), tt)
first_block_all Q (b ∷ bs) x a q h = (block_with_all Q b x a q h.0, h.1)

pub bound_all : {A : Type 0} (Q : A → Type 0) (env : Env A) (x : NameId) (a : A) → Q a → AllEnv Q env → AllEnv Q (bound env x a)
bound_all Q env x a q h = pick (is_in_reach env x)
  where
    pick : (c : Bool) → AllEnv Q (cond c (in_its_block env x a) (in_first_block env x a))
    pick true = its_all Q env x a q h
    pick false = first_block_all Q env x a q h

-- what holds of a value and not of where its expression began
abbrev pub OfVariables : (Known → Type 0) → Type 0
OfVariables Q = (k : Known) → Q k → Q (as_variable k)

pub bind_all_all : (Q : Known → Type 0) (env : Env Known) (xs : List NameId) (ks : List Known) → AllOf (λ k. Q (as_variable k)) ks → AllEnv Q env → AllEnv Q (bind_all env xs ks)
bind_all_all Q env [] ks q h = h
bind_all_all Q env (x ∷ xs) [] q h = h
bind_all_all Q env (x ∷ xs) (k ∷ ks) q h = bind_all_all Q (bound env x (as_variable k)) xs ks q.1 (bound_all Q env x (as_variable k) q.0 h)

pub paired_all : (Q : Known → Type 0) (xs : List NameId) (ks : List Known) → AllOf (λ k. Q (as_variable k)) ks → AllBlock Q (paired xs ks)
paired_all Q [] ks q = tt
paired_all Q (x ∷ xs) [] q = tt
paired_all Q (x ∷ xs) (k ∷ ks) q = (q.0, paired_all Q xs ks q.1)

-- ---- all that a state knows

env_map_all : (Q R : Known → Type 0) → ((k : Known) → Q k → R k) → (env : Env Known) → AllEnv Q env → AllEnv R env
env_map_all Q R f env h = all_weak (AllBlock Q) (AllBlock R) (λ b. all_weak (λ p. Q p.1) (λ p. R p.1) (λ p. f p.1) b) env h

pub known_map : (Q R : Known → Type 0) → ((k : Known) → Q k → R k) → (s : Flattening) → AllKnown Q s → AllKnown R s
known_map Q R f s h = record {
  env = env_map_all Q R f s.env h.env;
  values = all_weak Q R f s.values h.values;
  callers = all_weak (CallerOf Q) (CallerOf R) (λ c g. (env_map_all Q R f c.env g.0, all_weak Q R f c.values g.1)) s.callers h.callers;
}

-- the same with other steps, setting or count
pub known_same : (Q : Known → Type 0) (s u : Flattening) → u.env ≡ s.env → u.values ≡ s.values → u.callers ≡ s.callers → AllKnown Q s → AllKnown Q u
known_same Q s u e f g h = record {
  env = subst (λ x. AllEnv Q x) (sym e) h.env;
  values = subst (λ x. AllOf Q x) (sym f) h.values;
  callers = subst (λ x. AllOf (CallerOf Q) x) (sym g) h.callers;
}

pub known_last : (Q : Known → Type 0) (s : Flattening) → Q Absent → AllKnown Q s → Q (last s)
known_last Q s q h = all_first Q q s.values h.values

pub known_name : (Q : Known → Type 0) (s : Flattening) (x : NameId) → Q Absent → AllKnown Q s → Q (known_in s x)
known_name Q s x q h = found_all Q Absent s.env x q h.env

pub known_push : (Q : Known → Type 0) (k : Known) (s : Flattening) → Q k → AllKnown Q s → AllKnown Q (push k s)
known_push Q k s q h = record { env = h.env; values = (q, h.values); callers = h.callers }

pub known_drop : (Q : Known → Type 0) (s : Flattening) → AllKnown Q s → AllKnown Q (drop_last s)
known_drop Q s h = record { env = h.env; values = all_drop Q 1 s.values h.values; callers = h.callers }

pub known_bind : (Q : Known → Type 0) (x : NameId) (k : Known) (s : Flattening) → Q (as_variable k) → AllKnown Q s → AllKnown Q (bind x k s)
known_bind Q x k s q h = record { env = bound_all Q s.env x (as_variable k) q h.env; values = h.values; callers = h.callers }

pub known_its : (Q : Known → Type 0) (x : NameId) (k : Known) (s : Flattening) → Q k → AllKnown Q s → AllKnown Q (record s { env = in_its_block s.env x k })
known_its Q x k s q h = record { env = its_all Q s.env x k q h.env; values = h.values; callers = h.callers }

pub known_variable : (n : ℕ) → OfVariables (IsKnown n)
known_variable n (Static z) h = h
known_variable n (Shown v) h = record { size = h.size; there = h.there; wires = h.wires }
known_variable n (Lent start size v) h = h
known_variable n Absent h = h

pub spares_variable : (T : Targets) → OfVariables (Spares T)
spares_variable T (Static z) h = h
spares_variable T (Shown v) h = h
spares_variable T (Lent start size v) h = h
spares_variable T Absent h = h

last_variables : (Q : Known → Type 0) → OfVariables Q → (n : ℕ) (s : Flattening) → AllKnown Q s → AllOf (λ k. Q (as_variable k)) (reverse (take n s.values))
last_variables Q f n s h = all_weak Q (λ k. Q (as_variable k)) f (reverse (take n s.values)) (all_reverse Q (take n s.values) (all_take Q n s.values h.values))

pub known_in_turn : (Q : Known → Type 0) → OfVariables Q → (xs : List NameId) (s : Flattening) → AllKnown Q s → AllKnown Q (flat_step (assign_in_turn xs) s)
known_in_turn Q f xs s h = record {
  env = bind_all_all Q s.env xs (reverse (take (length xs) s.values)) (last_variables Q f (length xs) s h) h.env;
  values = all_drop Q (length xs) s.values h.values;
  callers = h.callers;
}

pub known_enter_block : (Q : Known → Type 0) (s : Flattening) → AllKnown Q s → AllKnown Q (flat_step enter_block s)
known_enter_block Q s h = record { env = (tt, h.env); values = h.values; callers = h.callers }

pub known_leave_block : (Q : Known → Type 0) (s : Flattening) → AllKnown Q s → AllKnown Q (flat_step leave_block s)
known_leave_block Q s h = record { env = all_drop (AllBlock Q) 1 s.env h.env; values = h.values; callers = h.callers }

pub known_enter : (Q : Known → Type 0) → OfVariables Q → (xs : List NameId) (s : Flattening) → AllKnown Q s → AllKnown Q (enter xs s)
known_enter Q f xs s h = record {
  env = (paired_all Q xs (reverse (take (length xs) s.values)) (last_variables Q f (length xs) s h), tt);
  values = tt;
  callers = ((h.env, all_drop Q (length xs) s.values h.values), h.callers);
}

pub known_back : (Q : Known → Type 0) (s : Flattening) (cs : List Caller) → AllKnown Q s → AllOf (CallerOf Q) cs → AllKnown Q (back_to s cs)
known_back Q s [] h k = h
known_back Q s (c ∷ cs) h k = record { env = k.0.0; values = all_append Q s.values c.values h.values k.0.1; callers = k.1 }

-- ---- what is known stays shown

bits_named : (v u : Row) (ps : List Operand) → ((w : WireId) → list_any (named_by w) ps ≡ true → v w.number ≡ u w.number) → bits_at v ps ≡ bits_at u ps
bits_named v u [] f = refl
bits_named v u (Const b ∷ ps) f = ap (λ bs. b ∷ bs) (bits_named v u ps f)
bits_named v u (Literal l ∷ ps) f =
    let here : v l.wire.number ≡ u l.wire.number = f l.wire (or_left (same_wire l.wire l.wire) (list_any (named_by l.wire) ps) (eq-eqb l.wire.number l.wire.number refl)) in
    let rest : bits_at v ps ≡ bits_at u ps = bits_named v u ps (λ w e. f w (or_right (same_wire l.wire w) (list_any (named_by w) ps) e)) in
    ap₂ (λ (x : Bool) (bs : List Bool). beq x l.positive ∷ bs) here rest

-- where the named wires keep their values
pub shows_kept : (v u : Row) (k : Known) (w : Value) → ((x : WireId) → names k x ≡ true → v x.number ≡ u x.number) → Shows v k w → Shows u k w
shows_kept v u (Static z) (whole y) f h = h
shows_kept v u (Static z) (single j y) f h = absurd h
shows_kept v u (Static z) (array j y) f h = absurd h
shows_kept v u (Static z) gone f h = absurd h
shows_kept v u (Shown k) w f h = (h.0, sym (bits_named v u k.operands f) ∙ h.1)
shows_kept v u (Lent start size k) w f h = (h.0, sym (bits_named v u (outside start size k.operands) f) ∙ h.1)
shows_kept v u Absent w f h = tt

-- after a row that spares what is known, as `grows_agree` gives it: u is the row before
pub shows_after : (n : ℕ) (T : Targets) (v u : Row) → Agree n T v u → (k : Known) (w : Value) → IsKnown n k × Spares T k → Shows u k w → Shows v k w
shows_after n T v u a k w q h = shows_kept u v k w (λ x e. sym (a x (named_below n no_target x (operands_in k) (operands_safe n k q.0) e) (off x e (T x) refl))) h
  where
    off : (x : WireId) → names k x ≡ true → (b : Bool) → T x ≡ b → b ≡ false
    off x e true t = absurd (clash (sym (q.1 x t) ∙ e))
    off x e false t = refl

-- all that a state knows shows a term's values: `Related` without its steps and factor
pub record AllShow (v : Row) (s : Flattening) (t : Term) : Type 0 where
  pub env : EnvBoth (Shows v) s.env t.env
  pub values : ListBoth (Shows v) s.values t.values
  pub callers : ListBoth (CallerShows v) s.callers t.callers

pub related_shows : (s : Flattening) (u : WireTerm) (t : Term) → Related s u t → AllShow u.row s t
related_shows s u t r = record { env = r.env; values = r.values; callers = r.callers }

-- both at once hold of all that a state knows
pub known_and : (Q R : Known → Type 0) (s : Flattening) → AllKnown Q s → AllKnown R s → AllKnown (λ k. Q k × R k) s
known_and Q R s q r = record {
  env = env_and s.env q.env r.env;
  values = all_and Q R s.values q.values r.values;
  callers = all_map_two s.callers q.callers r.callers;
}
  where
    env_and : (env : Env Known) → AllEnv Q env → AllEnv R env → AllEnv (λ k. Q k × R k) env
    env_and env a b = all_zip (AllBlock Q) (AllBlock R) (AllBlock (λ k. Q k × R k)) (λ c x y. all_and (λ p. Q p.1) (λ p. R p.1) c x y) env a b

    all_map_two : (cs : List Caller) → AllOf (CallerOf Q) cs → AllOf (CallerOf R) cs → AllOf (CallerOf (λ k. Q k × R k)) cs
    all_map_two cs a b = all_zip (CallerOf Q) (CallerOf R) (CallerOf (λ k. Q k × R k)) (λ c x y. (env_and c.env x.0 y.0, all_and Q R c.values x.1 y.1)) cs a b

-- what is known and spared stays shown
pub all_show_after : (n : ℕ) (T : Targets) (v u : Row) (s : Flattening) (t : Term) → Agree n T v u → AllKnown (IsKnown n) s → AllKnown (Spares T) s → AllShow u s t → AllShow v s t
all_show_after n T v u s t a q r h =
    let both : AllKnown (λ k. IsKnown n k × Spares T k) s = known_and (IsKnown n) (Spares T) s q r in
    record {
      env = env_map (Shows u) (Shows v) (λ k. IsKnown n k × Spares T k) (shows_after n T v u a) s.env t.env both.env h.env;
      values = both_map (Shows u) (Shows v) (λ k. IsKnown n k × Spares T k) (shows_after n T v u a) s.values t.values both.values h.values;
      callers = both_map (CallerShows u) (CallerShows v) (CallerOf (λ k. IsKnown n k × Spares T k))
          (λ c d g k. record {
            env = env_map (Shows u) (Shows v) (λ j. IsKnown n j × Spares T j) (shows_after n T v u a) c.env d.env g.0 k.env;
            values = both_map (Shows u) (Shows v) (λ j. IsKnown n j × Spares T j) (shows_after n T v u a) c.values d.values g.1 k.values;
          }) s.callers t.callers both.callers h.callers;
    }

-- a row that changes no old wire spares all
pub all_show_new : (n : ℕ) (v u : Row) (s : Flattening) (t : Term) → Agree n no_target v u → AllKnown (IsKnown n) s → AllShow u s t → AllShow v s t
all_show_new n v u s t a q h = all_show_after n no_target v u s t a q (known_map (IsKnown n) (Spares no_target) (λ k g. spares_none k) s q) h

-- all but the last value
pub all_show_drop : (v : Row) (s : Flattening) (t : Term) → AllShow v s t → AllShow v (drop_last s) (record t { values = drop 1 t.values })
all_show_drop v s t h = record { env = h.env; values = both_drop (Shows v) s.values t.values h.values; callers = h.callers }

pub all_known_more : (n m : ℕ) (s : Flattening) → n ≤ m → AllKnown (IsKnown n) s → AllKnown (IsKnown m) s
all_known_more n m s le h = known_map (IsKnown n) (IsKnown m) (λ k. known_more n m k le) s h

-- ---- changes of names and values

-- a variable whose part is under way shows what is outside it
pub shows_lent : (v : Row) (start size : ℕ) (k : TypedBits) (w : Value) → Shows v (Shown k) w → Shows v (Lent start size k) w
shows_lent v start size k w h = (h.0, outside_map (bit_of v) start size k.operands ∙ ap (outside start size) h.1)

pub all_show_push : (v : Row) (k : Known) (w : Value) (s : Flattening) (t : Term) → Shows v k w → AllShow v s t → AllShow v (push k s) (record t { values = w ∷ t.values })
all_show_push v k w s t g h = record { env = h.env; values = (g, h.values); callers = h.callers }

-- a value shows the same as a variable
pub shows_variable : (v : Row) (k : Known) (w : Value) → Shows v k w → Shows v (as_variable k) w
shows_variable v (Static z) w h = h
shows_variable v (Shown k) w h = h
shows_variable v (Lent start size k) w h = h
shows_variable v Absent w h = h

pub all_show_bind : (v : Row) (x : NameId) (k : Known) (w : Value) (s : Flattening) (t : Term) → Shows v k w → AllShow v s t → AllShow v (bind x k s) (record t { env = bound t.env x w })
all_show_bind v x k w s t g h = record { env = bound_both (Shows v) (as_variable k) w (shows_variable v k w g) s.env t.env x h.env; values = h.values; callers = h.callers }

-- where it stands, what is known of a variable changes alone
pub all_show_its : (v : Row) (x : NameId) (k : Known) (s : Flattening) (t : Term) → Shows v k (found gone t.env x) → AllShow v s t → AllShow v (record s { env = in_its_block s.env x k }) t
all_show_its v x k s t g h = record { env = its_left (Shows v) k gone s.env t.env x g h.env; values = h.values; callers = h.callers }
