-- The steps that change names and values alone.
use Rattle.std.proofs.Common.{◌≡◌, ◌⊎◌, inl, inr, ℕ, suc, ◌+◌, ◌≤◌, ◌<◌, Bool, true, false, cond, not, ◌&&◌, List, [], ◌∷◌, ◌++◌, length, take, drop, reverse, ℤ, refl, sym, ap, ap₂, ◌∙◌, subst, arith, append-nil}
use Rattle.std.proofs.lemmas.Bool.{cases_lt}
use Rattle.silq_tree.specs.declared.node.NameId.{NameId}
use Rattle.silq_types.specs.declared.types.Scalar.{Scalar}
use Rattle.silq_types.specs.Types.{shape_bits}
use Rattle.silq_types.specs.declared.need.Need.{Need}
use Rattle.silq_types.specs.Calls.{is_consumed}
use Rattle.silq_mean.specs.Env.{Env, bound}
use Rattle.silq_mean.specs.Value.{Value, whole, gone, part, with_part, bits_of, typed as typed_value}
use Rattle.silq_mean.specs.Term.{Term, Caller as SourceCaller, value_of, last as last_value, back_to as back_to_caller, bind_all as bind_values, paired as paired_values, assign_part, assign_all, take_out, open_block, close_block, drop_last as but_last, enter as enter_values, leave}
use Rattle.silq_mean.specs.Effect.{Outcome, step, follow, give_static, give_typed, give_part, assign_to, assign_in_turn, end_name, end_compared, enter_block, leave_block, enter_body, leave_body}
use Rattle.flat_core.specs.Sound.{count_measures}
use Rattle.bit_arith.specs.Values.{Clean, bits_at}
use Rattle.flat_mean.specs.Row.{Row}
use Rattle.flat_mean.specs.Terms.{Term as WireTerm}
use Rattle.flat_form.specs.declared.known.TypedBits.{TypedBits}
use Rattle.flat_form.specs.declared.known.Known.{Known}
use Rattle.flat_form.specs.declared.known.Known.TheVariants.{Static, Shown, Lent, Absent}
use Rattle.flat_form.specs.State.{Caller, Flattening, last, operands_of, part_shape, part_start, wires_so_far, outside, with_part as with_bits_of_part}
use Rattle.flat_form.specs.Flat.{flat, flat_step, known_in, use_part, after_use, moved, part_used, assigned, as_variable, bind_all, paired, back_to}
use Rattle.flat_form.specs.Good.{Good, IsShown, IsKnown}
use Rattle.flat_form.specs.Fine.{IsOf, IsPart, IndexFits, FitsIndex, IsLent, MayAssign, MayUse}
use Rattle.flat_form.specs.Shows.{Shows, ListBoth, Entry, EnvBoth, CallerShows, Related}
use Rattle.flat_form.proofs.Both.{both_take, both_drop_more, both_drop, both_reverse, both_append, found_both, bound_both, its_left}
use Rattle.flat_form.proofs.Bits.{bits_length, IsThere}
use Rattle.flat_form.proofs.Kept.{shows_variable, known_name, AllShow}
use Rattle.flat_laws.proofs.Showing.{shows_typed, shows_part, shows_rest, shows_moved, shows_put}
use Rattle.flat_laws.proofs.Compose.{Leads, leads_named}
use Rattle.flat_laws.proofs.Taking.{last_shows}

-- the same steps and factor, with other names and values
pub related_by : (s e : Flattening) (u : WireTerm) (t f : Term) → e.built.draft ≡ s.built.draft → Related s u t → AllShow u.row e f → f.eighths ≡ t.eighths → f.halvings ≡ t.halvings → f.measured ≡ t.measured → Related e u f
related_by s e u t f d r a x y z = record {
  clean = subst (λ b. Clean b u.row) (sym d) r.clean;
  env = a.env;
  values = a.values;
  callers = a.callers;
  eighths = r.eighths ∙ sym x;
  halvings = r.halvings ∙ sym y;
  measured = ap (λ b. count_measures b.steps) d ∙ (r.measured ∙ sym z);
}

pub leads_give_static : (o : Outcome) (z : ℤ) (s : Flattening) → Leads o s (flat (step (give_static z)) s) (follow o (step (give_static z)))
leads_give_static o z s =
    leads_named o s (flat_step (give_static z) s) (λ t. record t { values = whole z ∷ t.values }) refl refl
    (λ u t r. related_by s (flat_step (give_static z) s) u t (record t { values = whole z ∷ t.values }) refl r (record { env = r.env; values = (refl, r.values); callers = r.callers }) refl refl refl)

pub leads_give_typed : (o : Outcome) (k : Scalar) (z : ℤ) (s : Flattening) → Leads o s (flat (step (give_typed k z)) s) (follow o (step (give_typed k z)))
leads_give_typed o k z s =
    leads_named o s (flat_step (give_typed k z) s) (λ t. record t { values = typed_value k z ∷ t.values }) refl refl
    (λ u t r. related_by s (flat_step (give_typed k z) s) u t (record t { values = typed_value k z ∷ t.values }) refl r (record { env = r.env; values = (shows_typed u.row (wires_so_far s) k z, r.values); callers = r.callers }) refl refl refl)

-- ---- uses of variables

pub is_there : (n : ℕ) (v : TypedBits) (is : List ℤ) → IsShown n v → IsPart v is → IndexFits v.shape is → IsThere v.shape is
is_there n v is q p f = record { within = subst (λ m. part_start v.shape is + shape_bits (part_shape v.shape is) ≤ m) q.size p; fits = f }

take_past : {A : Type 0} (n : ℕ) (xs : List A) → length xs ≤ n → take n xs ≡ xs
take_past n [] le = take_none n
  where
    take_none : {A : Type 0} (n : ℕ) → take {A = A} n [] ≡ []
    take_none ℕ.zero = refl
    take_none (suc n) = refl
take_past ℕ.zero (x ∷ xs) le = absurd (omega (arith, le))
take_past (suc n) (x ∷ xs) le = ap (λ z. x ∷ z) (take_past n xs (omega (arith, le)))

drop_past : {A : Type 0} (n : ℕ) (xs : List A) → length xs ≤ n → drop n xs ≡ []
drop_past ℕ.zero [] le = refl
drop_past (suc n) [] le = refl
drop_past ℕ.zero (x ∷ xs) le = absurd (omega (arith, le))
drop_past (suc n) (x ∷ xs) le = drop_past n xs (omega (arith, le))

outside_past : {A : Type 0} (start size : ℕ) (xs : List A) → length xs ≤ start → outside start size xs ≡ xs
outside_past start size xs le = ap₂ ◌++◌ (take_past start xs le) (drop_past (start + size) xs (omega (arith, le))) ∙ append-nil xs

-- what a use gives, and what it leaves
record UseShows (x : Row) (n : ℕ) (need : Need) (is : List ℤ) (k : Known) (w : Value) : Type 0 where
  given : Shows x (use_part n need is k) (part w is)
  left : Shows x (after_use need is k) w

use_shows : (x : Row) (m n : ℕ) (need : Need) (is : List ℤ) (k : Known) (w : Value) → MayUse is k → FitsIndex is k → IsKnown m k → Shows x k w → UseShows x n need is k w
use_shows x m n need is (Static z) w u f q h = absurd u
use_shows x m n need is Absent w u f q h = absurd u
use_shows x m n need is (Shown v) w u f q h = record { given = shows_part x n need is v w (is_there m v is q u f) h; left = pick (is_consumed need && not v.classical) }
  where
    pick : (b : Bool) → Shows x (cond b (moved is v) (Shown v)) w
    pick true = shows_moved x is v w h
    pick false = h
use_shows x m n need is (Lent start size v) w u f q h = record { given = pick (cases_lt start (length v.operands)); left = h }
  where
    pick : (start < length v.operands) ⊎ (length v.operands ≤ start) → Shows x (part_used n need is v) (part w is)
    pick (inl lt) = shows_rest x n need is start size v w q.size (omega (arith, lt)) (is_there m v is q u.0 f) u.1 h
    pick (inr le) =
        let l : length (bits_of w) ≤ start = subst (λ j. j ≤ start) (q.size ∙ sym (bits_length v.shape w h.0)) le in
        let same : bits_at x v.operands ≡ bits_of w = ap (bits_at x) (sym (outside_past start size v.operands le)) ∙ (h.1 ∙ outside_past start size (bits_of w) l) in
        shows_part x n need is v w (is_there m v is q u.0 f) (h.0, same)

pub leads_give_part : (o : Outcome) (need : Need) (x : NameId) (is : List ℤ) (s : Flattening) → Good s → MayUse is (known_in s x) → FitsIndex is (known_in s x) → Leads o s (flat (step (give_part need x is)) s) (follow o (step (give_part need x is)))
leads_give_part o need x is s g may fit =
    let n : ℕ = length s.built.draft.wires in
    leads_named o s (flat_step (give_part need x is) s) (λ t. record t { values = part (value_of t.env x) is ∷ t.values }) refl refl
    (λ u t r.
    let h : UseShows u.row (wires_so_far s) need is (known_in s x) (value_of t.env x) = use_shows u.row n (wires_so_far s) need is (known_in s x) (value_of t.env x) may fit (known_name (IsKnown n) s x tt g.known) (found_both (Shows u.row) Absent gone tt s.env t.env x r.env) in
    related_by s (flat_step (give_part need x is) s) u t (record t { values = part (value_of t.env x) is ∷ t.values }) refl r
    (record { env = its_left (Shows u.row) (after_use need is (known_in s x)) gone s.env t.env x h.left r.env; values = (h.given, r.values); callers = r.callers }) refl refl refl)

-- ---- assignments

part_none : (w x : Value) → with_part w [] x ≡ x
part_none w x = refl

assigned_shows : (x : Row) (m : ℕ) (is : List ℤ) (k l : Known) (w y : Value) → ((is ≡ []) ⊎ IsLent is k l) → FitsIndex is k → IsKnown m k → Shows x k w → Shows x l y → Shows x (assigned is k l) (with_part w is y)
assigned_shows x m [] k l w y may f q h i = i
assigned_shows x m (j ∷ is) k l w y (inl e) f q h i = absurd (no_cons e)
  where
    no_cons : j ∷ is ≡ [] → ⊥
    no_cons e = grind (arith, e)
assigned_shows x m (j ∷ is) (Static z) l w y (inr e) f q h i = absurd e
assigned_shows x m (j ∷ is) (Shown v) l w y (inr e) f q h i = absurd e
assigned_shows x m (j ∷ is) Absent l w y (inr e) f q h i = absurd e
assigned_shows x m (j ∷ is) (Lent start size v) l w y (inr e) f q h i = go l e.value i
  where
    go : (l : Known) → IsOf (λ b. (b.own ≡ true) × (b.shape ≡ part_shape v.shape (j ∷ is))) l → Shows x l y → Shows x (Shown (record v { operands = with_bits_of_part v.shape (j ∷ is) v.operands (operands_of l) })) (with_part w (j ∷ is) y)
    go (Static z) b i = absurd b
    go (Lent a c z) b i = absurd b
    go Absent b i = absurd b
    go (Shown b) c i = shows_put x (j ∷ is) start size v b w y q.size (is_there m v (j ∷ is) q e.there f) e.starts e.sizes c.1 h i

pub leads_assign_to : (o : Outcome) (x : NameId) (is : List ℤ) (s : Flattening) → Good s → MayAssign x is s → FitsIndex is (known_in s x) → Leads o s (flat (step (assign_to x is)) s) (follow o (step (assign_to x is)))
leads_assign_to o x is s g may fit =
    let n : ℕ = length s.built.draft.wires in
    leads_named o s (flat_step (assign_to x is) s) (assign_part x is) refl refl
    (λ u t r.
    let old : Shows u.row (known_in s x) (value_of t.env x) = found_both (Shows u.row) Absent gone tt s.env t.env x r.env in
    let k : Known = assigned is (known_in s x) (last s) in
    let w : Value = with_part (value_of t.env x) is (last_value t) in
    let new : Shows u.row k w =
    assigned_shows u.row n is (known_in s x) (last s) (value_of t.env x) (last_value t) (way is may) fit (known_name (IsKnown n) s x tt g.known) old (last_shows u.row s.values t.values r.values) in
    related_by s (flat_step (assign_to x is) s) u t (assign_part x is t) refl r
    (record {
      env = bound_both (Shows u.row) (as_variable k) w (shows_variable u.row k w new) s.env t.env x r.env;
      values = both_drop (Shows u.row) s.values t.values r.values;
      callers = r.callers;
    }) refl refl refl)
  where
    way : (is : List ℤ) → MayAssign x is s → (is ≡ []) ⊎ IsLent is (known_in s x) (last s)
    way [] m = inl refl
    way (i ∷ is) m = inr m

bind_all_both : (x : Row) (xs : List NameId) (ks : List Known) (ws : List Value) (env : Env Known) (other : Env Value) → ListBoth (Shows x) ks ws → EnvBoth (Shows x) env other → EnvBoth (Shows x) (bind_all env xs ks) (bind_values other xs ws)
bind_all_both x [] ks ws env other h e = e
bind_all_both x (y ∷ ys) [] [] env other h e = e
bind_all_both x (y ∷ ys) [] (w ∷ ws) env other h e = absurd h
bind_all_both x (y ∷ ys) (k ∷ ks) [] env other h e = absurd h
bind_all_both x (y ∷ ys) (k ∷ ks) (w ∷ ws) env other h e = bind_all_both x ys ks ws (bound env y (as_variable k)) (bound other y w) h.1 (bound_both (Shows x) (as_variable k) w (shows_variable x k w h.0) env other y e)

last_ones : (x : Row) (n : ℕ) (ks : List Known) (ws : List Value) → ListBoth (Shows x) ks ws → ListBoth (Shows x) (reverse (take n ks)) (reverse (take n ws))
last_ones x n ks ws h = both_reverse (Shows x) (take n ks) (take n ws) (both_take (Shows x) n ks ws h)

pub leads_assign_in_turn : (o : Outcome) (xs : List NameId) (s : Flattening) → Leads o s (flat (step (assign_in_turn xs)) s) (follow o (step (assign_in_turn xs)))
leads_assign_in_turn o xs s =
    leads_named o s (flat_step (assign_in_turn xs) s) (assign_all xs) refl refl
    (λ u t r. related_by s (flat_step (assign_in_turn xs) s) u t (assign_all xs t) refl r
    (record {
      env = bind_all_both u.row xs (reverse (take (length xs) s.values)) (reverse (take (length xs) t.values)) s.env t.env (last_ones u.row (length xs) s.values t.values r.values) r.env;
      values = both_drop_more (Shows u.row) (length xs) s.values t.values r.values;
      callers = r.callers;
    }) refl refl refl)

-- ---- names that end, and blocks

pub leads_end_name : (o : Outcome) (x : NameId) (s : Flattening) → Leads o s (flat (step (end_name x)) s) (follow o (step (end_name x)))
leads_end_name o x s =
    leads_named o s (flat_step (end_name x) s) (take_out x) refl refl
    (λ u t r. related_by s (flat_step (end_name x) s) u t (take_out x t) refl r
    (record { env = bound_both (Shows u.row) Absent gone tt s.env t.env x r.env; values = r.values; callers = r.callers }) refl refl refl)

pub leads_end_compared : (o : Outcome) (x : NameId) (s : Flattening) → Leads o s (flat (step (end_compared x)) s) (follow o (step (end_compared x)))
leads_end_compared o x s =
    leads_named o s (flat_step (end_compared x) s) (λ t. but_last (take_out x t)) refl refl
    (λ u t r. related_by s (flat_step (end_compared x) s) u t (but_last (take_out x t)) refl r
    (record { env = bound_both (Shows u.row) Absent gone tt s.env t.env x r.env; values = both_drop (Shows u.row) s.values t.values r.values; callers = r.callers }) refl refl refl)

pub leads_enter_block : (o : Outcome) (s : Flattening) → Leads o s (flat (step enter_block) s) (follow o (step enter_block))
leads_enter_block o s =
    leads_named o s (flat_step enter_block s) open_block refl refl
    (λ u t r. related_by s (flat_step enter_block s) u t (open_block t) refl r (record { env = (tt, r.env); values = r.values; callers = r.callers }) refl refl refl)

pub leads_leave_block : (o : Outcome) (s : Flattening) → Leads o s (flat (step leave_block) s) (follow o (step leave_block))
leads_leave_block o s =
    leads_named o s (flat_step leave_block s) close_block refl refl
    (λ u t r. related_by s (flat_step leave_block s) u t (close_block t) refl r
    (record { env = both_drop (ListBoth (Entry (Shows u.row))) s.env t.env r.env; values = r.values; callers = r.callers }) refl refl refl)

-- ---- calls

paired_both : (x : Row) (xs : List NameId) (ks : List Known) (ws : List Value) → ListBoth (Shows x) ks ws → ListBoth (Entry (Shows x)) (paired xs ks) (paired_values xs ws)
paired_both x [] ks ws h = tt
paired_both x (y ∷ ys) [] [] h = tt
paired_both x (y ∷ ys) [] (w ∷ ws) h = absurd h
paired_both x (y ∷ ys) (k ∷ ks) [] h = absurd h
paired_both x (y ∷ ys) (k ∷ ks) (w ∷ ws) h = ((refl, shows_variable x k w h.0), paired_both x ys ks ws h.1)

pub leads_enter_body : (o : Outcome) (xs : List NameId) (s : Flattening) → Leads o s (flat (step (enter_body xs)) s) (follow o (step (enter_body xs)))
leads_enter_body o xs s =
    leads_named o s (flat_step (enter_body xs) s) (enter_values xs) refl refl
    (λ u t r. related_by s (flat_step (enter_body xs) s) u t (enter_values xs t) refl r
    (record {
      env = (paired_both u.row xs (reverse (take (length xs) s.values)) (reverse (take (length xs) t.values)) (last_ones u.row (length xs) s.values t.values r.values), tt);
      values = tt;
      callers = (record { env = r.env; values = both_drop_more (Shows u.row) (length xs) s.values t.values r.values }, r.callers);
    }) refl refl refl)

back_related : (s : Flattening) (u : WireTerm) (t : Term) (cs : List Caller) (ds : List SourceCaller) → ListBoth (CallerShows u.row) cs ds → Related s u t → Related (back_to s cs) u (back_to_caller t ds)
back_related s u t [] [] h r = r
back_related s u t [] (d ∷ ds) h r = absurd h
back_related s u t (c ∷ cs) [] h r = absurd h
back_related s u t (c ∷ cs) (d ∷ ds) h r =
    related_by s (back_to s (c ∷ cs)) u t (back_to_caller t (d ∷ ds)) refl r
    (record { env = h.0.env; values = both_append (Shows u.row) s.values t.values c.values d.values r.values h.0.values; callers = h.1 }) refl refl refl

back_same : (s : Flattening) (cs : List Caller) → ((back_to s cs).built.draft ≡ s.built.draft) × ((back_to s cs).setting ≡ s.setting)
back_same s [] = (refl, refl)
back_same s (c ∷ cs) = (refl, refl)

pub leads_leave_body : (o : Outcome) (s : Flattening) → Leads o s (flat (step leave_body) s) (follow o (step leave_body))
leads_leave_body o s =
    leads_named o s (back_to s s.callers) leave (back_same s s.callers).0 (back_same s s.callers).1
    (λ u t r. back_related s u t s.callers t.callers r.callers r)
