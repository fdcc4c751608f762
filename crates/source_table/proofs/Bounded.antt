-- How many terms a run leaves, and over which powers of root two they stand.
use Rattle.std.proofs.Common.{◌≡◌, ℕ, suc, ◌+◌, ◌≤◌, Bool, true, false, cond, not, List, [], ◌∷◌, ◌++◌, length, map, flat_map, filter, Result, Ok, Err}
use Rattle.std.proofs.Common.{refl, sym, subst, arith, ltb-false, ltb-true}
use Rattle.std.specs.Prelude.{nat_lt}
use Rattle.std.proofs.lemmas.List.{length-map, length-append}
use Rattle.std.proofs.lemmas.List.Filters.{length-filter_both}
use Rattle.silq_tree.specs.declared.node.NameId.{NameId}
use Rattle.silq_types.specs.Rules.{and_then}
use Rattle.sum_laws.specs.Units.{AllUnits}
use Rattle.silq_mean.specs.Value.{is_one, bits_of}
use Rattle.silq_mean.specs.Term.{Term, Caller, last, drop_last, hadamard, back_to, equals_last}
use Rattle.silq_mean.specs.Effect.{Effect, nothing, ◌>>◌, statement, step, mix, measure, claim, choice, Step, after, Outcome, follow, agrees, told, Each}
use Rattle.silq_mean.specs.Effect.{run, RunFault, TooManyTerms, ForgetFalse, all_pass, within_limit, most_terms}
use Rattle.silq_mean.specs.Effect.{Counts, CountFault, Inlined, HGates, counts, most_inlined, most_splits, give_static, give_typed, give_part, one_operand}
use Rattle.silq_mean.specs.Effect.{two_operands, copy_last, repeat_last, flip_last, turn_by, turn_all, receive, assign_to}
use Rattle.silq_mean.specs.Effect.{assign_in_turn, update_to, end_name, end_compared, enter_block, leave_block, enter_body, leave_body}
use Rattle.silq_mean.specs.Table.{shown}
use Rattle.silq_mean.proofs.Readings.{and_then_ok, ok_inj}

-- ---- what tests leave

by_test : {A E : Type 0} (b : Bool) (e : E) (r : Result A E) (a : A) → cond b (Err e) r ≡ Ok a → (b ≡ false) × (r ≡ Ok a)
by_test true e r a h = absurd (grind (arith, h))
by_test false e r a h = (refl, h)

passed : {A E : Type 0} (b : Bool) (e : E) (r : Result A E) (a : A) → cond b r (Err e) ≡ Ok a → (b ≡ true) × (r ≡ Ok a)
passed true e r a h = (refl, h)
passed false e r a h = absurd (grind (arith, h))

-- what H, a true forget and a counted statement or H leave
mixed : (waiting : ℕ) (ts us : List Term) → within_limit waiting ts ≡ Ok us → (nat_lt most_terms (waiting + length ts) ≡ false) × (ts ≡ us)
mixed waiting ts us h =
    let m : (nat_lt most_terms (waiting + length ts) ≡ false) × (◌≡◌ {A = Result (List Term) RunFault} (Ok ts) (Ok us)) =
    by_test (nat_lt most_terms (waiting + length ts)) TooManyTerms (Ok ts) us h in
    (m.0, ok_inj ts us m.1)

claimed : (o : Outcome) (waiting line : ℕ) (x : NameId) (ts us : List Term) → run o waiting (claim line x) ts ≡ Ok us → ts ≡ us
claimed o waiting line x ts us h =
    let m : (all_pass (equals_last x) ts ≡ true) × (◌≡◌ {A = Result (List Term) RunFault} (Ok ts) (Ok us)) =
    passed (all_pass (equals_last x) ts) (ForgetFalse line) (Ok ts) us h in
    ok_inj ts us m.1

abbrev next_statement : Counts → Counts
next_statement c = record c { statements = suc c.statements }

abbrev next_split : Counts → Counts
next_split c = record c { splits = suc c.splits }

counted_statement : (line : ℕ) (e : Effect) (c d : Counts) → counts (statement line e) c ≡ Ok d → counts e (next_statement c) ≡ Ok d
counted_statement line e c d h =
    let m : (nat_lt c.statements most_inlined ≡ true) × (counts e (next_statement c) ≡ Ok d) =
    passed (nat_lt c.statements most_inlined) Inlined (counts e (next_statement c)) d h in
    m.1

counted_split : (c d : Counts) → counts mix c ≡ Ok d → (nat_lt c.splits most_splits ≡ true) × (next_split c ≡ d)
counted_split c d h =
    let m : (nat_lt c.splits most_splits ≡ true) × (◌≡◌ {A = Result Counts CountFault} (Ok (next_split c)) (Ok d)) =
    passed (nat_lt c.splits most_splits) HGates (Ok (next_split c)) d h in
    (m.0, ok_inj (next_split c) d m.1)

-- the two ways of a choice
module _ (o : Outcome) (a b : Effect) (waiting : ℕ) (ts us : List Term) where
  abbrev pub others : List Term
  others = map drop_last (filter (λ t. not (is_one (last t))) ts)

  abbrev pub chosen : List Term
  chosen = map drop_last (filter (λ t. is_one (last t)) ts)

  pub record BothWays : Type 0 where
    pub firsts : List Term
    pub seconds : List Term
    pub first : run o (waiting + length others) a chosen ≡ Ok firsts
    pub second : run o (waiting + length firsts) b others ≡ Ok seconds
    pub all : firsts ++ seconds ≡ us

  abbrev then_others : List Term → Result (List Term) RunFault
  then_others firsts = and_then (run o (waiting + length firsts) b others) (λ seconds. Ok (firsts ++ seconds))

  both_ways : run o waiting (choice a b) ts ≡ Ok us → BothWays
  both_ways h =
      let m : (firsts : List Term) × (run o (waiting + length others) a chosen ≡ Ok firsts) × (then_others firsts ≡ Ok us) =
      and_then_ok (run o (waiting + length others) a chosen) then_others us h in
      let n : (seconds : List Term) × (run o (waiting + length m.0) b others ≡ Ok seconds)
      × (◌≡◌ {A = Result (List Term) RunFault} (Ok (m.0 ++ seconds)) (Ok us)) =
      and_then_ok (run o (waiting + length m.0) b others) (λ seconds. Ok (m.0 ++ seconds)) us m.2 in
      record { firsts = m.0; seconds = n.0; first = m.1; second = n.1; all = ok_inj (m.0 ++ n.0) us n.2 }

-- ---- the number of terms

-- a measurement leaves one term or none
measured_one : (b : Bool) (t : Term) → length (cond b (t ∷ []) []) ≤ 1
measured_one true t = omega arith
measured_one false t = omega arith

fewer_measured : (o : Outcome) (ts : List Term) → length (flat_map (follow o measure) ts) ≤ length ts
fewer_measured o [] = omega arith
fewer_measured o (t ∷ ts) =
    let one = measured_one (agrees o t.measured (bits_of (last t))) (told (bits_of (last t)) t) in
    let more = fewer_measured o ts in
    let joined = length-append (follow o measure t) (flat_map (follow o measure) ts) in
    omega (arith, one, more, joined)

parted : (ts : List Term) →
    length (map drop_last (filter (λ t. is_one (last t)) ts)) + length (map drop_last (filter (λ t. not (is_one (last t))) ts)) ≡ length ts
parted ts =
    let all = length-filter_both (λ (t : Term). is_one (last t)) (λ (t : Term). not (is_one (last t))) (λ t. refl) ts in
    let ones = length-map (filter (λ (t : Term). is_one (last t)) ts) drop_last in
    let rest = length-map (filter (λ (t : Term). not (is_one (last t))) ts) drop_last in
    omega (arith, all, ones, rest)

-- with the terms that wait there are never more than the limit
pub few_terms : (o : Outcome) (e : Effect) (waiting : ℕ) (ts us : List Term) → run o waiting e ts ≡ Ok us → waiting + length ts ≤ most_terms →
    waiting + length us ≤ most_terms
few_terms o nothing waiting ts us h few = subst (λ vs. waiting + length vs ≤ most_terms) (ok_inj ts us h) few
few_terms o (a >> b) waiting ts us h few =
    let m : (vs : List Term) × (run o waiting a ts ≡ Ok vs) × (run o waiting b vs ≡ Ok us) = and_then_ok (run o waiting a ts) (run o waiting b) us h in
    few_terms o b waiting m.0 us m.2 (few_terms o a waiting ts m.0 m.1 few)
few_terms o (statement line e) waiting ts us h few = few_terms o e waiting ts us h few
few_terms o (step s) waiting ts us h few =
    subst (λ vs. waiting + length vs ≤ most_terms) (ok_inj (map (after s) ts) us h) (subst (λ n. waiting + n ≤ most_terms) (sym (length-map ts (after s))) few)
few_terms o mix waiting ts us h few =
    let vs : List Term = flat_map (λ t. hadamard false t ∷ hadamard true t ∷ []) ts in
    let m = mixed waiting vs us h in
    subst (λ ws. waiting + length ws ≤ most_terms) m.1 (ltb-false most_terms (waiting + length vs) m.0)
few_terms o measure waiting ts us h few =
    let vs : List Term = flat_map (follow o measure) ts in
    let fewer = fewer_measured o ts in
    let le : waiting + length vs ≤ most_terms = omega (arith, fewer, few) in
    subst (λ ws. waiting + length ws ≤ most_terms) (ok_inj vs us h) le
few_terms o (claim line x) waiting ts us h few =
    subst (λ ws. waiting + length ws ≤ most_terms) (claimed o waiting line x ts us h) few
few_terms o (choice a b) waiting ts us h few =
    let w = both_ways o a b waiting ts us h in
    let all = parted ts in
    let before : (waiting + length (others o a b waiting ts us)) + length (chosen o a b waiting ts us) ≤ most_terms = omega (arith, all, few) in
    let first = few_terms o a (waiting + length (others o a b waiting ts us)) (chosen o a b waiting ts us) w.firsts w.first before in
    let between : (waiting + length w.firsts) + length (others o a b waiting ts us) ≤ most_terms = omega (arith, first) in
    let second = few_terms o b (waiting + length w.firsts) (others o a b waiting ts us) w.seconds w.second between in
    let joined = length-append w.firsts w.seconds in
    let le : waiting + length (w.firsts ++ w.seconds) ≤ most_terms = omega (arith, second, joined) in
    subst (λ ws. waiting + length ws ≤ most_terms) w.all le

-- ---- the counts of H

-- the count of H never falls
pub splits_rise : (e : Effect) (c d : Counts) → counts e c ≡ Ok d → c.splits ≤ d.splits
splits_rise nothing c d h = subst (λ (x : Counts). c.splits ≤ x.splits) (ok_inj c d h) (omega arith)
splits_rise (a >> b) c d h =
    let m : (k : Counts) × (counts a c ≡ Ok k) × (counts b k ≡ Ok d) = and_then_ok (counts a c) (counts b) d h in
    let one = splits_rise a c m.0 m.1 in
    let two = splits_rise b m.0 d m.2 in
    omega (arith, one, two)
splits_rise (statement line e) c d h =
    splits_rise e (next_statement c) d (counted_statement line e c d h)
splits_rise (step s) c d h = subst (λ (x : Counts). c.splits ≤ x.splits) (ok_inj c d h) (omega arith)
splits_rise mix c d h =
    let m = counted_split c d h in
    subst (λ (x : Counts). c.splits ≤ x.splits) m.1 (omega arith)
splits_rise measure c d h = subst (λ (x : Counts). c.splits ≤ x.splits) (ok_inj c d h) (omega arith)
splits_rise (claim line x) c d h = subst (λ (x : Counts). c.splits ≤ x.splits) (ok_inj c d h) (omega arith)
splits_rise (choice a b) c d h =
    let m : (k : Counts) × (counts a c ≡ Ok k) × (counts b k ≡ Ok d) = and_then_ok (counts a c) (counts b) d h in
    let one = splits_rise a c m.0 m.1 in
    let two = splits_rise b m.0 d m.2 in
    omega (arith, one, two)

-- and never passes its limit
pub few_splits : (e : Effect) (c d : Counts) → counts e c ≡ Ok d → c.splits ≤ most_splits → d.splits ≤ most_splits
few_splits nothing c d h few = subst (λ (x : Counts). x.splits ≤ most_splits) (ok_inj c d h) few
few_splits (a >> b) c d h few =
    let m : (k : Counts) × (counts a c ≡ Ok k) × (counts b k ≡ Ok d) = and_then_ok (counts a c) (counts b) d h in
    few_splits b m.0 d m.2 (few_splits a c m.0 m.1 few)
few_splits (statement line e) c d h few =
    few_splits e (next_statement c) d (counted_statement line e c d h) few
few_splits (step s) c d h few = subst (λ (x : Counts). x.splits ≤ most_splits) (ok_inj c d h) few
few_splits mix c d h few =
    let m = counted_split c d h in
    subst (λ (x : Counts). x.splits ≤ most_splits) m.1 (ltb-true c.splits most_splits m.0)
few_splits measure c d h few = subst (λ (x : Counts). x.splits ≤ most_splits) (ok_inj c d h) few
few_splits (claim line x) c d h few = subst (λ (x : Counts). x.splits ≤ most_splits) (ok_inj c d h) few
few_splits (choice a b) c d h few =
    let m : (k : Counts) × (counts a c ≡ Ok k) × (counts b k ≡ Ok d) = and_then_ok (counts a c) (counts b) d h in
    few_splits b m.0 d m.2 (few_splits a c m.0 m.1 few)

-- ---- the halvings of each term

abbrev Within : ℕ → Term → Type 0
Within n t = t.halvings ≤ n

back_keeps : (t : Term) (cs : List Caller) → (back_to t cs).halvings ≡ t.halvings
back_keeps t [] = refl
back_keeps t (c ∷ cs) = refl

-- a step halves nothing
step_keeps : (s : Step) (t : Term) → (after s t).halvings ≡ t.halvings
step_keeps (give_static z) t = refl
step_keeps (give_typed k z) t = refl
step_keeps (give_part need x is) t = refl
step_keeps (one_operand op) t = refl
step_keeps (two_operands op) t = refl
step_keeps copy_last t = refl
step_keeps repeat_last t = refl
step_keeps flip_last t = refl
step_keeps (turn_by k l) t = refl
step_keeps (turn_all k) t = refl
step_keeps (receive r) t = refl
step_keeps (assign_to x is) t = refl
step_keeps (assign_in_turn xs) t = refl
step_keeps (update_to x is op) t = refl
step_keeps (end_name x) t = refl
step_keeps (end_compared x) t = refl
step_keeps enter_block t = refl
step_keeps leave_block t = refl
step_keeps (enter_body xs) t = refl
step_keeps leave_body t = back_keeps t t.callers

pub each_more : (m n : ℕ) → m ≤ n → (ts : List Term) → Each (Within m) ts → Each (Within n) ts
each_more m n le [] p = tt
each_more m n le (t ∷ ts) p = (let a = p.0 in omega (arith, a, le), each_more m n le ts p.1)

each_step : (s : Step) (n : ℕ) (ts : List Term) → Each (Within n) ts → Each (Within n) (map (after s) ts)
each_step s n [] p = tt
each_step s n (t ∷ ts) p = (subst (λ h. h ≤ n) (sym (step_keeps s t)) p.0, each_step s n ts p.1)

each_mixed : (n : ℕ) (ts : List Term) → Each (Within n) ts → Each (Within (suc n)) (flat_map (λ t. hadamard false t ∷ hadamard true t ∷ []) ts)
each_mixed n [] p = tt
each_mixed n (t ∷ ts) p = let a = p.0 in (omega (arith, a), (omega (arith, a), each_mixed n ts p.1))

each_measured : (o : Outcome) (n : ℕ) (ts : List Term) → Each (Within n) ts → Each (Within n) (flat_map (follow o measure) ts)
each_measured o n [] p = tt
each_measured o n (t ∷ ts) p = pick (agrees o t.measured (bits_of (last t))) (each_measured o n ts p.1)
  where
    pick : (b : Bool) → Each (Within n) (flat_map (follow o measure) ts) →
        Each (Within n) (cond b (told (bits_of (last t)) t ∷ []) [] ++ flat_map (follow o measure) ts)
    pick true more = (p.0, more)
    pick false more = more

each_chosen : (n : ℕ) (test : Term → Bool) (ts : List Term) → Each (Within n) ts → Each (Within n) (map drop_last (filter test ts))
each_chosen n test [] p = tt
each_chosen n test (t ∷ ts) p = pick (test t) (each_chosen n test ts p.1)
  where
    pick : (b : Bool) → Each (Within n) (map drop_last (filter test ts)) → Each (Within n) (map drop_last (cond b (t ∷ filter test ts) (filter test ts)))
    pick true more = (p.0, more)
    pick false more = more

each_joined : (n : ℕ) (ts us : List Term) → Each (Within n) ts → Each (Within n) us → Each (Within n) (ts ++ us)
each_joined n [] us p q = q
each_joined n (t ∷ ts) us p q = (p.0, each_joined n ts us p.1 q)

-- no term is halved more often than H was counted
pub few_halvings : (o : Outcome) (e : Effect) (waiting : ℕ) (ts us : List Term) (c d : Counts) → run o waiting e ts ≡ Ok us → counts e c ≡ Ok d →
    Each (Within c.splits) ts → Each (Within d.splits) us
few_halvings o nothing waiting ts us c d h k p =
    subst (λ vs. Each (Within d.splits) vs) (ok_inj ts us h) (subst (λ (x : Counts). Each (Within x.splits) ts) (ok_inj c d k) p)
few_halvings o (a >> b) waiting ts us c d h k p =
    let m : (vs : List Term) × (run o waiting a ts ≡ Ok vs) × (run o waiting b vs ≡ Ok us) = and_then_ok (run o waiting a ts) (run o waiting b) us h in
    let n : (x : Counts) × (counts a c ≡ Ok x) × (counts b x ≡ Ok d) = and_then_ok (counts a c) (counts b) d k in
    few_halvings o b waiting m.0 us n.0 d m.2 n.2 (few_halvings o a waiting ts m.0 c n.0 m.1 n.1 p)
few_halvings o (statement line e) waiting ts us c d h k p =
    few_halvings o e waiting ts us (next_statement c) d h (counted_statement line e c d k) p
few_halvings o (step s) waiting ts us c d h k p =
    subst (λ vs. Each (Within d.splits) vs) (ok_inj (map (after s) ts) us h)
    (subst (λ (x : Counts). Each (Within x.splits) (map (after s) ts)) (ok_inj c d k) (each_step s c.splits ts p))
few_halvings o mix waiting ts us c d h k p =
    let vs : List Term = flat_map (λ t. hadamard false t ∷ hadamard true t ∷ []) ts in
    subst (λ ws. Each (Within d.splits) ws) (mixed waiting vs us h).1
    (subst (λ (x : Counts). Each (Within x.splits) vs) (counted_split c d k).1 (each_mixed c.splits ts p))
few_halvings o measure waiting ts us c d h k p =
    subst (λ vs. Each (Within d.splits) vs) (ok_inj (flat_map (follow o measure) ts) us h)
    (subst (λ (x : Counts). Each (Within x.splits) (flat_map (follow o measure) ts)) (ok_inj c d k) (each_measured o c.splits ts p))
few_halvings o (claim line x) waiting ts us c d h k p =
    subst (λ vs. Each (Within d.splits) vs) (claimed o waiting line x ts us h) (subst (λ (z : Counts). Each (Within z.splits) ts) (ok_inj c d k) p)
few_halvings o (choice a b) waiting ts us c d h k p =
    let w = both_ways o a b waiting ts us h in
    let n : (x : Counts) × (counts a c ≡ Ok x) × (counts b x ≡ Ok d) = and_then_ok (counts a c) (counts b) d k in
    let first = few_halvings o a _ _ w.firsts c n.0 w.first n.1 (each_chosen c.splits (λ t. is_one (last t)) ts p) in
    let second = few_halvings o b _ _ w.seconds n.0 d w.second n.2
    (each_more c.splits n.0.splits (splits_rise a c n.0 n.1) _ (each_chosen c.splits (λ t. not (is_one (last t))) ts p)) in
    subst (λ vs. Each (Within d.splits) vs) w.all
    (each_joined d.splits w.firsts w.seconds (each_more n.0.splits d.splits (splits_rise b n.0 d n.2) w.firsts first) second)

pub units_shown : (ts : List Term) → Each (Within most_splits) ts → AllUnits (map shown ts)
units_shown [] p = tt
units_shown (t ∷ ts) p = (record { turns = t.eighths; halvings = t.halvings; few = p.0; is = refl }, units_shown ts p.1)
