-- Blocks: what stands behind the statements of a block stands behind the block.
use Rattle.std.proofs.Common.{◌≡◌, ℕ, suc, ◌+◌, ◌≤◌, Bool, true, false, cond, List, [], ◌∷◌, ◌++◌, length, map, take, drop, refl, sym, ap, ◌∙◌, subst, arith}
use Rattle.std.specs.Prelude.{Some, None}
use Rattle.silq_tree.specs.declared.node.NameId.{NameId}
use Rattle.silq_tree.specs.declared.node.Spot.{Spot}
use Rattle.silq_types.specs.declared.signature.InstanceKey.{InstanceKey}
use Rattle.silq_types.specs.declared.signature.Signature.{Signature}
use Rattle.silq_types.specs.declared.values.Part.{Part}
use Rattle.silq_types.specs.declared.values.Var.{Var}
use Rattle.check_scope.specs.Context.{Scope, Context, Check, ◌>>=◌, ◌>>◌, find_var, same_part, variable}
use Rattle.check_expr.specs.Owners.{owners, Gives, Ensures}
use Rattle.check_expr.proofs.Owners.{gives-bind, gives-more, o_then, o_more, o_from, o_back, o_rules}
use Rattle.check_fun.specs.Statement.{is_live_linear, none_left, end_from, plain_block}
use Rattle.silq_mean.specs.Env.{Env}
use Rattle.silq_mean.specs.Effect.{Effect}
use Rattle.silq_mean.specs.Meaning.{in_block}
use Rattle.flat_form.specs.declared.known.Known.{Known}
use Rattle.flat_form.specs.State.{Flattening, wires_so_far}
use Rattle.flat_form.specs.Flat.{flat}
use Rattle.flat_form.specs.Good.{Good}
use Rattle.flat_form.specs.Names.{AllOf}
use Rattle.flat_typed.specs.Places.{Places, is_part, in_order, entries, shown}
use Rattle.flat_typed.specs.Relation.{Outside, Stands}
use Rattle.flat_typed.specs.Done.{StmtBegins, StmtDone, MadeSince}
use Rattle.flat_typed.specs.Lemmas.{Callable, StmtFine, BlocksAreFine}
use Rattle.flat_typed.specs.Stay.{HadOwner, Stayed, Goes, Keeps}
use Rattle.flat_typed.specs.Scopes.{NoStatics}
use Rattle.flat_typed.proofs.Using.{all_names, drop_map, length_map}
use Rattle.flat_typed.proofs.Closing.{stands_closed, all_of_take}
use Rattle.flat_typed.proofs.Turns.{Does}

-- ---- a new block

append_none : {A : Type 0} (xs : List A) → xs ++ [] ≡ xs
append_none [] = refl
append_none (x ∷ xs) = ap (λ l. x ∷ l) (append_none xs)

abbrev pub opened : Flattening → Flattening
opened s = record s { env = [] ∷ s.env }

good_opened : (s : Flattening) → Good s → Good (record s { env = [] ∷ s.env })
good_opened s g = record {
  fresh = g.fresh;
  known = record { env = (tt, g.known.env); values = g.known.values; callers = g.known.callers };
  condition = g.condition;
  read = g.read;
  owned = record { env = (tt, g.owned.env); callers = g.owned.callers };
}

stands_opened : (out : Outside) (sc : Scope) (W : Places) (c : Context) (s : Flattening) → Stands out sc.held W [] c s → Stands out sc.held W [] c (record s { env = [] ∷ s.env })
stands_opened out sc W c s r = record {
  env = append_none (in_order s.env) ∙ r.env;
  differ = r.differ;
  parts = r.parts;
  one = r.one;
  free = r.free;
  untold = r.untold;
  shared = r.shared;
  callers = r.callers;
  guards = r.guards;
  below = r.below;
  spares = r.spares;
  carried = r.carried;
  owed = λ w o. r.owed w (record { there = o.there; untold = o.untold; why = o.why });
}

pub begins_opened : (out : Outside) (sc : Scope) (low : ℕ) (W : Places) (c : Context) (s : Flattening) → StmtBegins out sc low (λ p. 0) W c s → StmtBegins out sc low (λ p. 0) W c (record s { env = [] ∷ s.env })
begins_opened out sc low W c s b = record {
  good = good_opened s b.good;
  unmade = b.unmade;
  sole = b.sole;
  stands = stands_opened out sc W c s b.stands;
  whole = b.whole;
  block = omega arith;
  open_air = b.open_air;
  none = b.none;
}

-- ---- what the walk tells

-- the variables from the n-th on are taken out, and none of them is Linear and live
pub record ClosedFrom (n : ℕ) (d e : Context) : Type 0 where
  pub left : e ≡ record d { vars = take n d.vars }
  pub dead : AllOf (λ v. is_live_linear v ≡ false) (drop n d.vars)

module _ (S : InstanceKey → Signature → Type 0) (low : ℕ) where
  none_live : {P : Context → Type 0} (vs : List Var) (s : Spot) → Ensures S P (none_left vs s) (λ u d. AllOf (λ v. is_live_linear v ≡ false) vs × P d)
  none_live [] s = o_back S low tt (λ c p. (tt, p))
  none_live {P = P} (v ∷ vs) s =
      o_then S low (o_rules S low s _) (λ u.
      o_more S low (o_from S low (λ d h. (h.0.0, h.1)) (none_live {P = λ d. (is_live_linear v ≡ false) × P d} vs s)) (λ u' d h. ((h.1.0, h.0), h.1.1)))

  pub closed_from : (n : ℕ) (s : Spot) (d : Context) → Gives S (λ r. ClosedFrom n d r.1) (end_from n s d)
  closed_from n s d =
      (o_then S low {P = λ x. x ≡ d} {Q = λ u x. AllOf (λ v. is_live_linear v ≡ false) (drop n d.vars) × (x ≡ d)} {R = λ u x. ClosedFrom n d x} (none_live (drop n d.vars) s)
      (λ u. record { runs = λ x h. record { left = ap (λ (y : Context). record y { vars = take n d.vars }) h.1; dead = h.0 } })).runs d refl

-- ---- the law

count_entries : (W : Places) (all vs : List Var) → AllOf (λ v. is_part v ≡ false) vs → length (entries W all vs) ≡ length vs
count_entries W all [] h = refl
count_entries W all (v ∷ vs) h =
    let a : length (entries W all (v ∷ vs)) ≡ suc (length (entries W all vs)) = ap (λ t. length (cond t (entries W all vs) ((v.part.name, shown W all v) ∷ entries W all vs))) h.0 in
    a ∙ ap suc (count_entries W all vs h.1)

length_append : {A : Type 0} (xs ys : List A) → length (xs ++ ys) ≡ length xs + length ys
length_append [] ys = omega arith
length_append (x ∷ xs) ys = let a = length_append xs ys in omega (arith, a)

-- environments of the same names have as many names
same_count : (a b : Env Known) → all_names a ≡ all_names b → length (in_order a) ≡ length (in_order b)
same_count a b e = counted a ∙ (ap total e ∙ sym (counted b))
  where
    total : List (List NameId) → ℕ
    total [] = 0
    total (l ∷ ls) = total ls + length l

    counted : (env : Env Known) → length (in_order env) ≡ total (all_names env)
    counted [] = refl
    counted (l ∷ ls) =
        let a = length_append (in_order ls) l in
        let b = counted ls in
        let c = length_map (λ (p : NameId × Known). p.0) l in
        omega (arith, a, b, c)

module _ (out : Outside) (sc : Scope) (low : ℕ) (W : Places) (c : Context) (s : Flattening) (e : Effect) (d g : Context) where
  abbrev inside : Flattening
  inside = flat e (record s { env = [] ∷ s.env })

  pub block_done : StmtBegins out sc low (λ p. 0) W c s → StmtDone out sc e W c (record s { env = [] ∷ s.env }) d → ClosedFrom (length c.vars) d g → StmtDone out sc (in_block e) W c s g
  block_done b h k = subst (λ (x : Context). StmtDone out sc (in_block e) W c s x) (sym k.left) (record {
    fine = ((tt, h.fine), tt);
    after = h.after;
    agree = h.agree;
    stands = closes inside.env refl;
    whole = all_of_take (λ v. is_part v ≡ false) (length c.vars) d.vars h.whole;
    made = all_of_take (MadeSince (wires_so_far s) c.next h.after) (length c.vars) d.vars h.made;
    none = h.none;
    leaves = record {
      setting = h.leaves.setting;
      callers = h.leaves.callers;
      blocks = length_map (λ l. map (λ (p : NameId × Known). p.0) l) (drop 1 inside.env) ∙ (ap length h.leaves.names ∙ sym (length_map (λ l. map (λ (p : NameId × Known). p.0) l) s.env));
      names = drop_map (λ l. map (λ (p : NameId × Known). p.0) l) (drop 1 inside.env) ∙ (ap (λ m. drop 1 m) h.leaves.names ∙ sym (drop_map (λ l. map (λ (p : NameId × Known). p.0) l) s.env));
    };
    touches = h.touches;
    plain = h.plain;
    unmade = h.unmade;
  })
    where
      many : length (in_order (drop 1 inside.env)) ≡ length c.vars
      many = same_count (drop 1 inside.env) s.env h.leaves.names ∙ (ap length b.stands.env ∙ count_entries W c.vars c.vars b.whole)

      closes : (env : Env Known) → inside.env ≡ env → Stands out sc.held h.after [] (record d { vars = take (length c.vars) d.vars }) (record inside { env = drop 1 inside.env })
      closes [] q = let a = ap length (sym q) ∙ h.leaves.blocks in absurd (omega (arith, a))
      closes (l ∷ ls) q = stands_closed out sc.held h.after [] d inside l ls (length c.vars) h.stands q (ap (λ x. length (in_order (drop 1 x))) (sym q) ∙ many) h.whole k.dead

-- a block is fine where its statements are
pub block_fine : (sc : Scope) (c : Context) (inner : Check (Unit {0})) (e : Effect) (s : Spot) → StmtFine sc c inner e → StmtFine sc c (plain_block inner s) (in_block e)
unfolding ◌>>=◌ ◌>>◌
block_fine sc c inner e s h =
    gives-bind (Callable sc) 0 (λ r. Does sc c e r.1) (λ r. Does sc c (in_block e) r.1) (inner c) (λ r. end_from (length c.vars) s r.1) h
    (λ r f. gives-more (Callable sc) 0 (λ q. ClosedFrom (length c.vars) r.1 q.1) (λ q. Does sc c (in_block e) q.1)
    (end_from (length c.vars) s r.1) (closed_from (Callable sc) 0 (length c.vars) s r.1)
    (λ q k out low W t b. block_done out sc low W c t e r.1 q.1 b (f out low W (opened t) (begins_opened out sc low W c t b)) k))

pub blocks_are_fine : BlocksAreFine
blocks_are_fine sc c inner e s h = block_fine sc c inner e s (h c)

-- ---- places

owners_taken : (p n : ℕ) (vs : List Var) → owners p (take n vs) ≤ owners p vs
owners_taken p ℕ.zero vs = omega arith
owners_taken p (suc n) [] = omega arith
owners_taken p (suc n) (v ∷ vs) = let a = owners_taken p n vs in omega (arith, a)

-- and a block keeps what they keep
pub block_keeps : (I : List Var → Type 0) (sc : Scope) (inner : Check (Unit {0})) (s : Spot) → ((n : ℕ) (vs : List Var) → I vs → I (take n vs)) → Keeps I sc inner → Keeps I sc (plain_block inner s)
unfolding ◌>>=◌ ◌>>◌
block_keeps I sc inner s fewer t c i =
    gives-bind (Callable sc) 0 (λ r. Goes I c r.1) (λ r. Goes I c r.1) (inner c) (λ r. end_from (length c.vars) s r.1) (t c i)
    (λ r f. gives-more (Callable sc) 0 (λ q. ClosedFrom (length c.vars) r.1 q.1) (λ q. Goes I c q.1) (end_from (length c.vars) s r.1)
    (closed_from (Callable sc) 0 (length c.vars) s r.1)
    (λ q k. subst (Goes I c) (sym k.left) (record { holds = fewer (length c.vars) r.1.vars f.holds; stayed = λ b. taken r.1 (f.stayed b) })))
  where
    taken : (d : Context) → Stayed c d → Stayed c (record d { vars = take (length c.vars) d.vars })
    taken d h = record {
      sole = record {
        grown = h.sole.grown;
        one = λ p. let a = h.sole.one p in let b = owners_taken p (length c.vars) d.vars in omega (arith, a, b);
        ahead = λ p le. let a = h.sole.ahead p le in let b = owners_taken p (length c.vars) d.vars in omega (arith, a, b);
      };
      owners = all_of_take (HadOwner c) (length c.vars) d.vars h.owners;
    }

-- ---- names

-- a name that no variable has is none of the first ones
pub none_taken : (vs : List Var) (n : ℕ) (p : Part) → find_var vs p ≡ None → find_var (take n vs) p ≡ None
none_taken vs ℕ.zero p e = refl
none_taken [] (suc n) p e = refl
none_taken (v ∷ vs) (suc n) p e = go (same_part v.part p) e (none_taken vs n p)
  where
    go : (t : Bool) → cond t (Some v) (find_var vs p) ≡ None → (find_var vs p ≡ None → find_var (take n vs) p ≡ None) → cond t (Some v) (find_var (take n vs) p) ≡ None
    go true e i = e
    go false e i = i e

pub free_taken : (sc : Scope) (n : ℕ) (vs : List Var) → NoStatics sc vs → NoStatics sc (take n vs)
free_taken sc n vs h x e = none_taken vs n (variable x) (h x e)
