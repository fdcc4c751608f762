-- The checker of a program's instances is steady: it adds instances of earlier functions alone, and keeps the depth within its limit.
use Rattle.std.specs.Prelude.{◌≡◌, refl, ℕ, suc, max, ◌+◌, ◌<◌, ◌≤◌, Bool, true, false, cond, ◌==◌, List, [], ◌∷◌, ◌++◌, length, Option, Some, None, Result, Ok, Err, nat_lt, ⊤}
use mathlib.Core.Path.{sym, ap, ◌∙◌, subst}
use native.Mathlib.Omega.{arith}
use Rattle.std.proofs.lemmas.List.{append_assoc, append-nil}
use Rattle.std.proofs.lemmas.Bool.{eqb-true, ltb-false, le-ltb}
use Rattle.check_expr.proofs.Alike.{same_key_refl, same_key_fun}
use Rattle.silq_types.specs.declared.built_in.BuiltIn.{BuiltIn}
use Rattle.silq_types.specs.Programs.{paired}
use Rattle.check_scope.specs.Reading.{Steady}
use Rattle.check_scope.specs.Walk.{Walk, answer, broken, counted, asked, Met, known, limited, new, met_as, meet, too_deep, most_instances, Counts, Checker, known_or_checked, with_counts, most_walked}
use Rattle.check_fun.specs.Program.{instance_walk, kept, check_one, instances}
use Rattle.silq_io.specs.declared.limit.LimitKind.TheVariants.{Walked, Depth, Instances}
use Rattle.silq_tree.specs.Syntax.{Function}
use Rattle.silq_tree.specs.declared.node.NameId.{NameId}
use Rattle.silq_tree.specs.declared.node.Spot.{Spot}
use Rattle.silq_types.specs.Known.{Signatures, same_key, signature_of}
use Rattle.silq_types.specs.Rules.{and_then, over}
use Rattle.silq_mean.specs.Written.{header_of}
use Rattle.silq_types.specs.declared.signature.InstanceKey.{InstanceKey}
use Rattle.silq_types.specs.declared.signature.Signature.{Signature}

-- ---- lists of known instances

abbrev pub AllBelow : ℕ → Signatures → Type 0
AllBelow n [] = ⊤
AllBelow n (e ∷ es) = (e.0.fun.number < n) × AllBelow n es

below_append : (n : ℕ) (a b : Signatures) → AllBelow n a → AllBelow n b → AllBelow n (a ++ b)
below_append n [] b p q = q
below_append n (e ∷ a) b p q = (p.0, below_append n a b p.1 q)

below_more : (n m : ℕ) (a : Signatures) → n ≤ m → AllBelow n a → AllBelow m a
below_more n m [] le p = tt
below_more n m (e ∷ a) le p = (omega (arith, le, p.0), below_more n m a le p.1)

some_kept : (met extra : Signatures) (k : InstanceKey) (s : Signature) → signature_of met k ≡ Some s → signature_of (met ++ extra) k ≡ Some s
some_kept [] extra k s e = absurd (none_some s e)
  where
    none_some : (s : Signature) → (None ≡ Some s) → ⊥
    none_some s e = grind (arith, e)
some_kept (x ∷ met) extra k s e = go (same_key x.0 k) e (some_kept met extra k s)
  where
    go : (b : Bool) → cond b (Some x.1) (signature_of met k) ≡ Some s → (signature_of met k ≡ Some s → signature_of (met ++ extra) k ≡ Some s) → cond b (Some x.1) (signature_of (met ++ extra) k) ≡ Some s
    go true e h = e
    go false e h = h e

pub none_passed : (met extra : Signatures) (k : InstanceKey) → signature_of met k ≡ None → signature_of (met ++ extra) k ≡ signature_of extra k
none_passed [] extra k e = refl
none_passed (x ∷ met) extra k e = go (same_key x.0 k) e (none_passed met extra k)
  where
    go : (b : Bool) → cond b (Some x.1) (signature_of met k) ≡ None → (signature_of met k ≡ None → signature_of (met ++ extra) k ≡ signature_of extra k) → cond b (Some x.1) (signature_of (met ++ extra) k) ≡ signature_of extra k
    go true e h = absurd (grind (arith, e))
    go false e h = h e

pub none_below : (extra : Signatures) (k : InstanceKey) → AllBelow k.fun.number extra → signature_of extra k ≡ None
none_below [] k p = refl
none_below (x ∷ extra) k p = go (none_below extra k p.1) (same_key x.0 k) refl
  where
    go : signature_of extra k ≡ None → (b : Bool) → same_key x.0 k ≡ b → cond b (Some x.1) (signature_of extra k) ≡ None
    go h true e = absurd (omega (arith, p.0, same_key_fun x.0 k e))
    go h false e = h

-- ---- what a call finds

-- known: the signature is kept, and is not too deep
pub met_known : (d n : ℕ) (o : Option Signature) (s : Signature) → met_as d n o ≡ known s → (o ≡ Some s) × (d + s.height ≤ 64)
met_known d n None s e = absurd (go (too_deep d 1) (nat_lt most_instances (n + d + 1)) e)
  where
    go : (a b : Bool) → cond a (limited Depth) (cond b (limited Instances) new) ≡ known s → ⊥
    go true b e = grind (arith, e)
    go false true e = grind (arith, e)
    go false false e = grind (arith, e)
met_known d n (Some t) s e = go (too_deep d t.height) refl e
  where
    go : (b : Bool) → too_deep d t.height ≡ b → cond b (limited Depth) (known t) ≡ known s → (Some t ≡ Some s) × (d + s.height ≤ 64)
    go true h e = absurd (grind (arith, e))
    go false h e = let same : t ≡ s = grind (arith, e) in (ap Some same, subst (λ x. d + x.height ≤ 64) same (ltb-false 64 (d + t.height) h))

known_met : (d n : ℕ) (s : Signature) → d + s.height ≤ 64 → met_as d n (Some s) ≡ known s
known_met d n s le = ap (λ b. cond b (limited Depth) (known s)) (le-ltb 64 (d + s.height) le)

-- new: nothing is kept, and one more instance may be open
pub met_new : (d n : ℕ) (o : Option Signature) → met_as d n o ≡ new → (o ≡ None) × (d + 1 ≤ 64)
met_new d n None e = (refl, go (too_deep d 1) (nat_lt most_instances (n + d + 1)) refl e)
  where
    go : (a b : Bool) → too_deep d 1 ≡ a → cond a (limited Depth) (cond b (limited Instances) new) ≡ new → d + 1 ≤ 64
    go true b h e = absurd (grind (arith, e))
    go false true h e = absurd (grind (arith, e))
    go false false h e = ltb-false 64 (d + 1) h
met_new d n (Some t) e = absurd (go (too_deep d t.height) e)
  where
    go : (b : Bool) → cond b (limited Depth) (known t) ≡ new → ⊥
    go true e = grind (arith, e)
    go false e = grind (arith, e)

-- ---- what a run adds

ok_or : {A E : Type 0} → A → Result A E → A
ok_or d (Ok a) = a
ok_or d (Err e) = d

pub ok_same : {A E : Type 0} (a b : A) → ◌≡◌ {A = Result A E} (Ok a) (Ok b) → a ≡ b
unfolding ok_or
ok_same a b e = ap (ok_or a) e

pub ok_inside : {A B E : Type 0} (r : Result A E) (f : A → Result B E) (b : B) → and_then r f ≡ Ok b → (a : A) × (r ≡ Ok a) × (f a ≡ Ok b)
ok_inside (Ok a) f b e = (a, refl, e)
ok_inside (Err x) f b e = absurd (grind (arith, e))

-- instances of functions below n were added
abbrev pub Grew : ℕ → Counts → Counts → Type 0
Grew n c c' = (extra : Signatures) × (c'.met ≡ c.met ++ extra) × AllBelow n extra

grew_same : (n : ℕ) (c c' : Counts) → c ≡ c' → Grew n c c'
grew_same n c c' e = ([], sym (ap (λ (x : Counts). x.met) e) ∙ sym (append-nil c.met), tt)

grew_twice : (n : ℕ) (a b c : Counts) → Grew n a b → Grew n b c → Grew n a c
grew_twice n a b c p q = (p.0 ++ q.0, q.1 ∙ ap (λ l. l ++ q.0) p.1 ∙ append_assoc a.met p.0 q.0, below_append n p.0 q.0 p.2 q.2)

-- a checker adds the instance last, and before it those of earlier functions
pub record Grows (n : ℕ) (check : Checker) : Type 0 where
  pub adds : (d : ℕ) (k : InstanceKey) (c : Counts) (r : Signature × Counts) → check d k c ≡ Ok r → (extra : Signatures) × (r.1.met ≡ c.met ++ extra ++ (k, r.0) ∷ []) × AllBelow k.fun.number extra × (k.fun.number < n)
  pub bounds : (d : ℕ) (k : InstanceKey) (c : Counts) (r : Signature × Counts) → d ≤ 64 → check d k c ≡ Ok r → d + r.0.height ≤ 65

pub grew_by : (n : ℕ) (check : Checker) → Grows n check → (d : ℕ) (k : InstanceKey) (c : Counts) (r : Signature × Counts) → check d k c ≡ Ok r → Grew n c r.1
grew_by n check g d k c r e =
    let a = g.adds d k c r e in
    (a.0 ++ (k, r.0) ∷ [], a.1 ∙ append_assoc c.met a.0 ((k, r.0) ∷ []), below_append n a.0 ((k, r.0) ∷ []) (below_more k.fun.number n a.0 (omega (arith, a.3)) a.2) (a.3, tt))

-- what a reading with counts leaves
abbrev pub Ran : {A : Type 0} → ℕ → ℕ → Counts → ℕ → A × Counts × ℕ → Type 0
Ran n d c h r = Grew n c r.1 × (h + d ≤ 64 → r.2 + d ≤ 64)

found : (n : ℕ) (check : Checker) → Grows n check → (d : ℕ) (k : InstanceKey) (c : Counts) (q : Signature × Counts) (m : Met) → meet d c.met k ≡ m → known_or_checked check d m k c ≡ Ok q → Grew n c q.1 × (d + q.0.height ≤ 64)
found n check g d k c q (known s) e f =
    let same : (s, c) ≡ q = ok_same (s, c) q f in
    let le = (met_known d (length c.met) (signature_of c.met k) s e).1 in
    (grew_same n c q.1 (ap (λ (x : Signature × Counts). x.1) same), subst (λ (x : Signature × Counts). d + x.0.height ≤ 64) same le)
found n check g d k c q (limited l) e f = absurd (grind (arith, f))
found n check g d k c q new e f =
    let le = (met_new d (length c.met) (signature_of c.met k) e).1 in
    (grew_by n check g (d + 1) k c q f, omega (arith, g.bounds (d + 1) k c q le f))

pub ran : {A : Type 0} (n : ℕ) (check : Checker) → Grows n check → (d : ℕ) (w : Walk A) (c : Counts) (h : ℕ) (r : A × Counts × ℕ) → with_counts check d w c h ≡ Ok r → Ran n d c h r
ran n check g d (answer a) c h r e =
    let same : (a, c, h) ≡ r = ok_same (a, c, h) r e in
    (grew_same n c r.1 (ap (λ (x : _ × Counts × ℕ). x.1) same), λ le. subst (λ (x : _ × Counts × ℕ). x.2 + d ≤ 64) same le)
ran n check g d (broken x) c h r e = absurd (grind (arith, e))
ran {A = A} n check g d (counted w) c h r e = go (nat_lt c.walked most_walked) e (ran n check g d w (record c { walked = suc c.walked }) h r)
  where
    go : (b : Bool) → cond b (with_counts check d w (record c { walked = suc c.walked }) h) (Err (over Walked)) ≡ Ok r → (with_counts check d w (record c { walked = suc c.walked }) h ≡ Ok r → Ran n d (record c { walked = suc c.walked }) h r) → Ran n d c h r
    go true e ih = ih e
    go false e ih = absurd (grind (arith, e))
ran {A = A} n check g d (asked k next) c h r e = go (λ q. ran n check g d (next q.0) q.1 (max h q.0.height) r) (ok_inside (known_or_checked check d (meet d c.met k) k c) (λ q. with_counts check d (next q.0) q.1 (max h q.0.height)) r e)
  where
    go : ((q : Signature × Counts) → with_counts check d (next q.0) q.1 (max h q.0.height) ≡ Ok r → Ran n d q.1 (max h q.0.height) r) → (q : Signature × Counts) × (known_or_checked check d (meet d c.met k) k c ≡ Ok q) × (with_counts check d (next q.0) q.1 (max h q.0.height) ≡ Ok r) → Ran n d c h r
    go ih p =
        let there = found n check g d k c p.0 (meet d c.met k) refl p.1 in
        let rest = ih p.0 p.2 in
        (grew_twice n c p.0.1 r.1 there.0 rest.0, λ le. rest.1 (grind (arith, le, there.1)))

-- ---- the checker of a program's instances

pub one_grows : (earlier : Checker) (words : List (NameId × BuiltIn)) (before : List Function) (f : Function) (place_of : Spot → Spot) → Grows (length before) earlier → (d : ℕ) (k : InstanceKey) (c : Counts) (r : Signature × Counts) → k.fun.number ≡ length before → check_one earlier words before f place_of d k c ≡ Ok r → ((extra : Signatures) × (r.1.met ≡ c.met ++ extra ++ (k, r.0) ∷ []) × AllBelow k.fun.number extra) × (d ≤ 64 → d + r.0.height ≤ 65)
one_grows earlier words before f place_of g d k c r at e =
    let p = ok_inside (header_of (paired f.statics k.statics) place_of f) (λ h. and_then (with_counts earlier d (instance_walk words before f k.statics h) c 0) (λ r. Ok (kept f h k r))) r e in
    let q = ok_inside (with_counts earlier d (instance_walk words before f k.statics p.0) c 0) (λ r. Ok (kept f p.0 k r)) r p.2 in
    let same : kept f p.0 k q.0 ≡ r = ok_same (kept f p.0 k q.0) r q.2 in
    let w = ran (length before) earlier g d (instance_walk words before f k.statics p.0) c 0 q.0 q.1 in
    subst (λ (x : Signature × Counts). ((extra : Signatures) × (x.1.met ≡ c.met ++ extra ++ (k, x.0) ∷ []) × AllBelow k.fun.number extra) × (d ≤ 64 → d + x.0.height ≤ 65)) same
    ((w.0.0, ap (λ l. l ++ (k, (kept f p.0 k q.0).0) ∷ []) w.0.1, subst (λ n. AllBelow n w.0.0) (sym at) w.0.2), λ le. let h = w.1 (omega (arith, le)) in omega (arith, h))

pub instances_grow : (words : List (NameId × BuiltIn)) (funs : List Function) → Grows (length funs) (instances words funs)
instances_grow words [] = record { adds = λ d k c r e. absurd (grind (arith, e)); bounds = λ d k c r le e. absurd (grind (arith, e)) }
instances_grow words (f ∷ before) = go (instances_grow words before)
  where
    adds_at : Grows (length before) (instances words before) → (d : ℕ) (k : InstanceKey) (c : Counts) (r : Signature × Counts) (b : Bool) → (k.fun.number == length before) ≡ b → cond b (check_one (instances words before) words before f (λ s. s) d k c) (instances words before d k c) ≡ Ok r → (extra : Signatures) × (r.1.met ≡ c.met ++ extra ++ (k, r.0) ∷ []) × AllBelow k.fun.number extra × (k.fun.number < suc (length before))
    adds_at g d k c r true at e =
        let same = eqb-true k.fun.number (length before) at in
        let p = (one_grows (instances words before) words before f (λ s. s) g d k c r same e).0 in
        (p.0, p.1, p.2, omega (arith, same))
    adds_at g d k c r false at e = let p = g.adds d k c r e in (p.0, p.1, p.2, omega (arith, p.3))

    bounds_at : Grows (length before) (instances words before) → (d : ℕ) (k : InstanceKey) (c : Counts) (r : Signature × Counts) → d ≤ 64 → (b : Bool) → (k.fun.number == length before) ≡ b → cond b (check_one (instances words before) words before f (λ s. s) d k c) (instances words before d k c) ≡ Ok r → d + r.0.height ≤ 65
    bounds_at g d k c r le true at e = (one_grows (instances words before) words before f (λ s. s) g d k c r (eqb-true k.fun.number (length before) at) e).1 le
    bounds_at g d k c r le false at e = g.bounds d k c r le e

    go : Grows (length before) (instances words before) → Grows (suc (length before)) (instances words (f ∷ before))
    go g = record { adds = λ d k c r e. adds_at g d k c r (k.fun.number == length before) refl e; bounds = λ d k c r le e. bounds_at g d k c r le (k.fun.number == length before) refl e }

known_kept : (d : ℕ) (a b : Signatures) (k : InstanceKey) (s : Signature) → meet d a k ≡ known s → signature_of b k ≡ Some s → meet d b k ≡ known s
known_kept d a b k s e f = ap (met_as d (length b)) f ∙ known_met d (length b) s (met_known d (length a) (signature_of a k) s e).1

pub instances_steady : (words : List (NameId × BuiltIn)) (funs : List Function) → Steady (instances words funs)
instances_steady words funs =
    let g = instances_grow words funs in
    record {
      keeps = λ d k c r e k' s m.
          let p = grew_by (length funs) (instances words funs) g (d + 1) k c r e in
          let kept' = some_kept c.met p.0 k' s (met_known d (length c.met) (signature_of c.met k') s m).0 in
          known_kept d c.met r.1.met k' s m (ap (λ l. signature_of l k') p.1 ∙ kept');
      adds = λ d k c r m e.
          let p = g.adds (d + 1) k c r e in
          let n = met_new d (length c.met) (signature_of c.met k) m in
          let le = g.bounds (d + 1) k c r n.1 e in
          let last : signature_of ((k, r.0) ∷ []) k ≡ Some r.0 = ap (λ b. cond b (Some r.0) None) (same_key_refl k) in
          let first = none_passed c.met p.0 k n.0 ∙ none_below p.0 k p.2 in
          let there = ap (λ l. signature_of l k) p.1 ∙ none_passed (c.met ++ p.0) ((k, r.0) ∷ []) k first ∙ last in
          ap (met_as d (length r.1.met)) there ∙ known_met d (length r.1.met) r.0 (omega (arith, le));
    }
