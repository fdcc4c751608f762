-- Statements in turn and blocks, between which contexts are settled.
use Rattle.std.proofs.Common.{◌≡◌, ◌⊎◌, inl, inr, ℕ, zero, suc, ◌+◌, ◌≤◌, ◌<◌, Bool, true, false, cond, not, List, [], ◌∷◌, ◌++◌, length, take, refl, sym, ap, ap₂, ◌∙◌, subst, arith}
use Rattle.std.specs.Prelude.{Option, Some, None, ℤ, pos, ◌+ℤ◌}
use Rattle.silq_tree.specs.declared.node.Spot.{Spot}
use Rattle.silq_types.specs.declared.values.Var.{Var}
use Rattle.check_scope.specs.Context.{Scope, Context, Check, ◌>>=◌, ◌>>◌, pass}
use Rattle.check_expr.specs.Owners.{owners, Gives, Ensures, Sole}
use Rattle.check_expr.proofs.Owners.{gives-bind, gives-more}
use Rattle.check_fun.specs.Statement.{end_from, plain_block, rounds}
use Rattle.silq_mean.specs.Effect.{Effect, ◌>>◌ as ◌▸◌}
use Rattle.silq_mean.specs.Meaning as meanings
use Rattle.flat_form.specs.State.{Flattening}
use Rattle.flat_form.specs.Flat.{flat}
use Rattle.flat_form.specs.Names.{AllOf}
use Rattle.flat_typed.specs.Places.{Places, is_part}
use Rattle.flat_typed.specs.Relation.{Outside}
use Rattle.flat_typed.specs.Done.{StmtBegins, StmtDone}
use Rattle.flat_typed.specs.Lemmas.{Callable, StmtFine}
use Rattle.flat_typed.specs.Stay.{SomeOf, IsOwner, HadOwner, Stayed}
use Rattle.flat_typed.specs.Settled.{Settled, StaysHeld, AllStay, IsLive, HadLive, Settles, Settling}
use Rattle.flat_typed.proofs.Moving.{all_more}
use Rattle.flat_typed.proofs.Closing.{all_of_take}
use Rattle.flat_typed.proofs.Blocks.{ClosedFrom, closed_from, free_taken}
use Rattle.flat_typed.proofs.Turns.{Does, gives_both, stayed_then, stayed_here, begins_next, done_next, nothing_fine}

-- ---- what a walk does to variables and places

pub record Moves (c d : Context) : Type 0 where
  pub stayed : Stayed c d
  pub alive : AllOf (HadLive c) d.vars
  pub there : AllStay c.vars d.vars

pub stay_here : (vs : List Var) → AllStay vs vs
stay_here [] = tt
stay_here (v ∷ vs) = (record { part = refl; held = refl; same = λ h. refl }, stay_here vs)

pub stay_then : (us vs ws : List Var) → AllStay us vs → AllStay vs ws → AllStay us ws
stay_then [] vs ws h k = tt
stay_then (u ∷ us) [] ws h k = absurd h
stay_then (u ∷ us) (v ∷ vs) [] h k = absurd k
stay_then (u ∷ us) (v ∷ vs) (w ∷ ws) h k = (record { part = k.0.part ∙ h.0.part; held = k.0.held ∙ h.0.held; same = λ x. k.0.same (h.0.held ∙ x) ∙ h.0.same x }, stay_then us vs ws h.1 k.1)

pub stay_taken : (vs ws : List Var) → AllStay vs ws → AllStay vs (take (length vs) ws)
stay_taken [] ws h = tt
stay_taken (v ∷ vs) [] h = absurd h
stay_taken (v ∷ vs) (w ∷ ws) h = (h.0, stay_taken vs ws h.1)

live_has : (Q : Var → Type 0) (R : Type 0) (p : ℕ) (vs : List Var) → SomeOf (IsLive p) vs → AllOf Q vs → ((v : Var) → IsLive p v → Q v → R) → R
live_has Q R p [] h a f = absurd h
live_has Q R p (v ∷ vs) (inl i) a f = f v i a.0
live_has Q R p (v ∷ vs) (inr i) a f = live_has Q R p vs i a.1 f

pub alive_here : (c : Context) → AllOf (HadLive c) c.vars
alive_here c = each c.vars (λ v h. h)
  where
    each : (vs : List Var) → ((v : Var) → SomeOf (IsLive v.place) vs → SomeOf (IsLive v.place) c.vars) → AllOf (HadLive c) vs
    each [] h = tt
    each (v ∷ vs) h = (λ l lt. h v (inl (record { live = l; place = refl })), each vs (λ u i. h u (inr i)))

pub moves_here : (c : Context) → Sole c.next (λ p. 0) c → Moves c c
moves_here c s = record { stayed = stayed_here c s; alive = alive_here c; there = stay_here c.vars }

pub moves_then : (c d e : Context) → Sole c.next (λ p. 0) c → Moves c d → Moves d e → Moves c e
moves_then c d e s a b = record {
  stayed = stayed_then c d e s a.stayed b.stayed;
  alive = all_more (HadLive d) (HadLive c) e.vars
      (λ v h l lt. live_has (HadLive c) (SomeOf (IsLive v.place) c.vars) v.place d.vars (h l (let g = a.stayed.sole.grown in omega (arith, g, lt))) a.alive
      (λ u i q. subst (λ p. SomeOf (IsLive p) c.vars) i.place (q i.live (let z = i.place in omega (arith, z, lt)))))
      b.alive;
  there = stay_then c.vars d.vars e.vars a.there b.there;
}

pub moves_of : (sc : Scope) (c d : Context) → Settles sc c d → Moves c d
moves_of sc c d h = record {
  stayed = record { sole = record { grown = h.grown; one = h.settled.sole.one; ahead = h.settled.sole.ahead }; owners = h.owners };
  alive = h.alive;
  there = h.there;
}

pub settles_of : (sc : Scope) (c d : Context) → Settled sc d → Moves c d → Settles sc c d
settles_of sc c d s h = record { settled = s; grown = h.stayed.sole.grown; owners = h.stayed.owners; alive = h.alive; there = h.there }

-- ---- from contexts of which something holds

abbrev pub Carries : {A : Type 0} → (Context → Type 0) → Scope → Check A → Type 0
Carries J sc m = (c : Context) → J c → Gives (Callable sc) (λ r. J r.1 × Moves c r.1) (m c)

pub settling_carries : {A : Type 0} (sc : Scope) (m : Check A) → Settling sc m → Carries (Settled sc) sc m
settling_carries sc m h c s = gives-more (Callable sc) 0 (λ r. Settles sc c r.1) (λ r. Settled sc r.1 × Moves c r.1) (m c) (h c s) (λ r k. (k.settled, moves_of sc c r.1 k))

pub carries_settling : {A : Type 0} (sc : Scope) (m : Check A) → Carries (Settled sc) sc m → Settling sc m
carries_settling sc m h c s = gives-more (Callable sc) 0 (λ r. Settled sc r.1 × Moves c r.1) (λ r. Settles sc c r.1) (m c) (h c s) (λ r k. settles_of sc c r.1 k.0 k.1)

module _ (J : Context → Type 0) (sole : (c : Context) → J c → Sole c.next (λ p. 0) c) (sc : Scope) where
  pub then_carries : {A B : Type 0} (m : Check A) (n : Check B) → Carries J sc m → Carries J sc n → Carries J sc (m >> n)
  unfolding ◌>>◌
  then_carries m n t u c i =
      gives-bind (Callable sc) 0 (λ r. J r.1 × Moves c r.1) (λ r. J r.1 × Moves c r.1) (m c) (λ r. n r.1) (t c i)
      (λ r x. gives-more (Callable sc) 0 (λ q. J q.1 × Moves r.1 q.1) (λ q. J q.1 × Moves c q.1) (n r.1) (u r.1 x.0) (λ q y. (y.0, moves_then c r.1 q.1 (sole c i) x.1 y.1)))

  pub pass_carries : Carries J sc pass
  pass_carries c i = (i, moves_here c (sole c i))

  pub then_does : (c : Context) (m n : Check (Unit {0})) (e f : Effect) → J c → StmtFine sc c m e → ((d : Context) → J d → StmtFine sc d n f) → Carries J sc m → Carries J sc n → StmtFine sc c (m >> n) (e ▸ f)
  unfolding ◌>>◌
  then_does c m n e f i h k t u =
      gives-bind (Callable sc) 0
      (λ r. Does sc c e r.1 × (J r.1 × Moves c r.1)) (λ r. Does sc c (e ▸ f) r.1)
      (m c) (λ r. n r.1) (gives_both (Callable sc) (λ r. Does sc c e r.1) (λ r. J r.1 × Moves c r.1) (m c) h (t c i))
      (λ r x. gives-more (Callable sc) 0
      (λ q. Does sc r.1 f q.1 × (J q.1 × Moves r.1 q.1)) (λ q. Does sc c (e ▸ f) q.1)
      (n r.1) (gives_both (Callable sc) (λ q. Does sc r.1 f q.1) (λ q. J q.1 × Moves r.1 q.1) (n r.1) (k r.1 x.1.0) (u r.1 x.1.0))
      (λ q y out low W s b.
      let first = x.0 out low W s b in
      let next = begins_next out sc low W c r.1 s e b first x.1.1.stayed in
      let second = y.0 out low first.after (flat e s) next in
      done_next out sc low W c r.1 s e f q.1 b first x.1.1.stayed second y.1.1.stayed))

  -- ---- rounds

  module _ (m : ℤ → Check (Unit {0})) (f : ℤ → Effect) (t : (z : ℤ) → Carries J sc (m z)) where
    pub rounds_carry : (z : ℤ) (n : ℕ) → Carries J sc (rounds m z n)
    rounds_carry z zero = pass_carries
    rounds_carry z (suc n) = then_carries (m z) (rounds m (z +ℤ pos 1) n) (t z) (rounds_carry (z +ℤ pos 1) n)

    pub rounds_do : ((z : ℤ) (c : Context) → J c → StmtFine sc c (m z) (f z)) → (z : ℤ) (n : ℕ) (c : Context) → J c → StmtFine sc c (rounds m z n) (meanings.rounds f z n)
    rounds_do h z zero c i = nothing_fine sc c
    rounds_do h z (suc n) c i =
        then_does c (m z) (rounds m (z +ℤ pos 1) n) (f z) (meanings.rounds f (z +ℤ pos 1) n) i (h z c i) (λ d j. rounds_do h (z +ℤ pos 1) n d j) (t z) (rounds_carry (z +ℤ pos 1) n)

-- ---- blocks

owners_taken : (p n : ℕ) (vs : List Var) → owners p (take n vs) ≤ owners p vs
owners_taken p zero vs = omega arith
owners_taken p (suc n) [] = omega arith
owners_taken p (suc n) (v ∷ vs) = let a = owners_taken p n vs in omega (arith, a)

sole_taken : (low n : ℕ) (d : Context) → Sole low (λ p. 0) d → Sole low (λ p. 0) (record d { vars = take n d.vars })
sole_taken low n d h = record {
  grown = h.grown;
  one = λ p. let a = h.one p in let b = owners_taken p n d.vars in omega (arith, a, b);
  ahead = λ p le. let a = h.ahead p le in let b = owners_taken p n d.vars in omega (arith, a, b);
}

pub settled_taken : (sc : Scope) (n : ℕ) (d : Context) → Settled sc d → Settled sc (record d { vars = take n d.vars })
settled_taken sc n d h = record {
  free = free_taken sc n d.vars h.free;
  whole = all_of_take (λ v. is_part v ≡ false) n d.vars h.whole;
  placed = all_of_take (λ v. v.place < d.next) n d.vars h.placed;
  sole = sole_taken d.next n d h.sole;
}

moves_taken : (c d : Context) → Moves c d → Moves c (record d { vars = take (length c.vars) d.vars })
moves_taken c d h = record {
  stayed = record { sole = sole_taken c.next (length c.vars) d h.stayed.sole; owners = all_of_take (HadOwner c) (length c.vars) d.vars h.stayed.owners };
  alive = all_of_take (HadLive c) (length c.vars) d.vars h.alive;
  there = stay_taken c.vars d.vars h.there;
}

pub block_carries : (J : Context → Type 0) → ((n : ℕ) (d : Context) → J d → J (record d { vars = take n d.vars })) → (sc : Scope) (inner : Check (Unit {0})) (s : Spot) → Carries J sc inner → Carries J sc (plain_block inner s)
unfolding ◌>>=◌ ◌>>◌
block_carries J fewer sc inner s t c i =
    gives-bind (Callable sc) 0 (λ r. J r.1 × Moves c r.1) (λ r. J r.1 × Moves c r.1) (inner c) (λ r. end_from (length c.vars) s r.1) (t c i)
    (λ r f. gives-more (Callable sc) 0 (λ q. ClosedFrom (length c.vars) r.1 q.1) (λ q. J q.1 × Moves c q.1) (end_from (length c.vars) s r.1) (closed_from (Callable sc) 0 (length c.vars) s r.1)
    (λ q k. subst (λ x. J x × Moves c x) (sym k.left) (fewer (length c.vars) r.1 f.0, moves_taken c r.1 f.1)))

pub block_settles : (sc : Scope) (inner : Check (Unit {0})) (s : Spot) → Settling sc inner → Settling sc (plain_block inner s)
block_settles sc inner s h = carries_settling sc (plain_block inner s) (block_carries (Settled sc) (settled_taken sc) sc inner s (settling_carries sc inner h))
