-- Signatures of instances, function by function.
use Rattle.std.proofs.Common.{◌≡◌, inl, ℕ, suc, ◌+◌, ◌<◌, Bool, true, false, cond, List, [], ◌∷◌, ◌++◌, length, refl, sym, ap, ◌∙◌, subst, arith, nat_lt}
use Rattle.std.specs.Prelude.{Some, Result, Ok, Err, ℤ, ◌==◌, max}
use Rattle.std.proofs.lemmas.Bool.{eqb-true, eq-eqb}
use Rattle.silq_tree.specs.declared.node.NameId.{NameId}
use Rattle.silq_tree.specs.Syntax.{Parameter, Function}
use Rattle.silq_io.specs.declared.limit.LimitKind.TheVariants.{Walked}
use Rattle.silq_types.specs.declared.built_in.BuiltIn.{BuiltIn}
use Rattle.silq_types.specs.declared.signature.InstanceKey.{InstanceKey}
use Rattle.silq_types.specs.declared.signature.Param.{Param}
use Rattle.silq_types.specs.declared.signature.Signature.{Signature}
use Rattle.silq_types.specs.declared.values.Value.{Value}
use Rattle.silq_types.specs.declared.values.Var.{Var}
use Rattle.silq_types.specs.Known.{Signatures, same_key, signature_of}
use Rattle.silq_types.specs.Programs.{paired}
use Rattle.silq_types.specs.Rules.{Fault, rule, name_taken, and_then, over}
use Rattle.silq_types.specs.Types.{same_name}
use Rattle.silq_mean.specs.Written.{Header, header_of}
use Rattle.check_scope.specs.Walk.{Walk, answer, broken, counted, asked, Met, known, limited, new, meet, Counts, Checker, known_or_checked, with_counts, most_walked}
use Rattle.check_scope.specs.Context.{variable, same_part}
use Rattle.check_expr.specs.Owners.{Gives, fun_at, IsProper, AreProper}
use Rattle.check_expr.proofs.Alike.{some_same, same_key_same}
use Rattle.check_expr.proofs.Owners.{gives-more}
use Rattle.check_fun.specs.Statement.{any_name}
use Rattle.check_fun.specs.Program.{param_names, param_vars, returned_as, instance_walk, kept, check_one, instances}
use Rattle.check_fun.proofs.Growth.{ok_inside, ok_same, met_known}
use Rattle.check_fun.proofs.Bodies.{instances-proper}
use Rattle.silq_mean.specs.declared.receiver.Receiver.TheVariants.{CallResult}
use Rattle.flat_form.specs.Names.{AllOf}
use Rattle.flat_typed.specs.Relation.{PartsDiffer}
use Rattle.flat_typed.specs.Calls.{parted, BodyFine, CallFine}
use Rattle.flat_typed.specs.Scopes.{scope_for}
use Rattle.flat_typed.specs.Lemmas.{Callable}
use Rattle.flat_typed.specs.Bodies.{ConstsStay}
use Rattle.flat_typed.specs.Instances.{Tells, IsFineFunction, InstancesTell}
use Rattle.flat_typed.proofs.Ordered.{clash, same_is_equal, or_left, or_right}
use Rattle.flat_typed.proofs.Parts.{whole_same, name_refl}
use Rattle.flat_typed.proofs.Scopes.{found_stands}
use Rattle.flat_typed.proofs.Bodies.{body_is_fine}

-- ---- parameters have different names

record NotAmong (xs : List NameId) (v : Var) : Type 0 where
  whole : v.part ≡ variable v.part.name
  other : any_name (λ y. same_name y v.part.name) xs ≡ false

all_weaker : {A : Type 0} (P Q : A → Type 0) (xs : List A) → ((x : A) → P x → Q x) → AllOf P xs → AllOf Q xs
all_weaker P Q [] f h = tt
all_weaker P Q (x ∷ xs) f h = (f x h.0, all_weaker P Q xs f h.1)

names_differ : (xs : List NameId) (i : ℕ) (ns : List Parameter) (ps : List Param) → param_names xs ns ≡ Ok tt → AllOf (NotAmong xs) (param_vars i ns ps) × PartsDiffer (param_vars i ns ps)
names_differ xs i [] ps e = (tt, tt)
names_differ xs i (n ∷ ns) [] e = (tt, tt)
names_differ xs i (n ∷ ns) (p ∷ ps) e = go (any_name (λ y. same_name y n.name) xs) refl e (λ q. names_differ (n.name ∷ xs) (suc i) ns ps q)
  where
    apart : (v : Var) → NotAmong (n.name ∷ xs) v → (b : Bool) → same_part v.part (variable n.name) ≡ b → b ≡ false
    apart v h false q = refl
    apart v h true q =
        let same : v.part.name ≡ n.name = same_is_equal v.part.name n.name (sym (whole_same v.part.name n.name) ∙ (ap (λ x. same_part x (variable n.name)) (sym h.whole) ∙ q)) in
        clash (sym (ap (same_name n.name) same ∙ name_refl n.name) ∙ or_left (same_name n.name v.part.name) (any_name (λ y. same_name y v.part.name) xs) h.other)

    go : (b : Bool) → any_name (λ y. same_name y n.name) xs ≡ b → cond b (Err (rule name_taken n.at)) (param_names (n.name ∷ xs) ns) ≡ Ok tt
        → (param_names (n.name ∷ xs) ns ≡ Ok tt → AllOf (NotAmong (n.name ∷ xs)) (param_vars (suc i) ns ps) × PartsDiffer (param_vars (suc i) ns ps))
        → AllOf (NotAmong xs) (param_vars i (n ∷ ns) (p ∷ ps)) × PartsDiffer (param_vars i (n ∷ ns) (p ∷ ps))
    go true q e ih = absurd (grind (arith, e))
    go false q e ih =
        let r = ih e in (
          (record { whole = refl; other = q }, all_weaker (NotAmong (n.name ∷ xs)) (NotAmong xs) (param_vars (suc i) ns ps) (λ v h. record { whole = h.whole; other = or_right (same_name n.name v.part.name) (any_name (λ y. same_name y v.part.name) xs) h.other }) r.0),
          (all_weaker (NotAmong (n.name ∷ xs)) (λ v. same_part v.part (variable n.name) ≡ false) (param_vars (suc i) ns ps) (λ v h. apart v h (same_part v.part (variable n.name)) refl) r.0, r.1),
        )

pub params_differ : (ns : List Parameter) (ps : List Param) → param_names [] ns ≡ Ok tt → PartsDiffer (param_vars 0 ns ps)
params_differ ns ps e = (names_differ [] 0 ns ps e).1

-- ---- functions by number

parted_is : (funs : List Function) (n : ℕ) (g : Function) (b : List Function) → parted funs n ≡ Some (g, b) → fun_at funs n ≡ Some g
parted_is [] n g b e = absurd (grind (arith, e))
parted_is (f ∷ before) n g b e = go (n == length before) e (parted_is before n g b)
  where
    go : (t : Bool) → cond t (Some (f, before)) (parted before n) ≡ Some (g, b) → (parted before n ≡ Some (g, b) → fun_at before n ≡ Some g) → cond t (Some f) (fun_at before n) ≡ Some g
    go true e i = ap Some (ap (λ (p : Function × List Function). p.0) (some_same (f, before) (g, b) e))
    go false e i = i e

is_parted : (funs : List Function) (n : ℕ) (g : Function) → fun_at funs n ≡ Some g → (b : List Function) × (parted funs n ≡ Some (g, b))
is_parted [] n g e = absurd (grind (arith, e))
is_parted (f ∷ before) n g e = go (n == length before) e (is_parted before n g)
  where
    go : (t : Bool) → cond t (Some f) (fun_at before n) ≡ Some g → (fun_at before n ≡ Some g → (b : List Function) × (parted before n ≡ Some (g, b))) → (b : List Function) × (cond t (Some (f, before)) (parted before n) ≡ Some (g, b))
    go true e i = (before, ap (λ h. Some (h, before)) (some_same f g e))
    go false e i = i e

parted_below : (funs : List Function) (n : ℕ) (g : Function) (b : List Function) → parted funs n ≡ Some (g, b) → n < length funs
parted_below [] n g b e = absurd (grind (arith, e))
parted_below (f ∷ before) n g b e = go (n == length before) refl e (parted_below before n g b)
  where
    go : (t : Bool) → (n == length before) ≡ t → cond t (Some (f, before)) (parted before n) ≡ Some (g, b) → (parted before n ≡ Some (g, b) → n < length before) → n < suc (length before)
    go true q e i = omega (arith, eqb-true n (length before) q)
    go false q e i = omega (arith, i e)

pub parted_later : (f : Function) (before : List Function) (n : ℕ) (g : Function) (b : List Function) → parted before n ≡ Some (g, b) → parted (f ∷ before) n ≡ Some (g, b)
parted_later f before n g b e = go (n == length before) refl
  where
    go : (t : Bool) → (n == length before) ≡ t → cond t (Some (f, before)) (parted before n) ≡ Some (g, b)
    go true q = let lt = parted_below before n g b e in let same = eqb-true n (length before) q in absurd (omega (arith, lt, same))
    go false q = e

parted_last : (f : Function) (before : List Function) → parted (f ∷ before) (length before) ≡ Some (f, before)
parted_last f before = ap (λ t. cond t (Some (f, before)) (parted before (length before))) (eq-eqb (length before) (length before) refl)

-- ---- readings with counts

pub gives_weaker : {A : Type 0} (S R : InstanceKey → Signature → Type 0) (P : A → Type 0) (w : Walk A) → ((k : InstanceKey) (s : Signature) → R k s → S k s) → Gives S P w → Gives R P w
gives_weaker S R P (answer a) f g = g
gives_weaker S R P (broken e) f g = tt
gives_weaker S R P (counted w) f g = gives_weaker S R P w f g
gives_weaker S R P (asked k next) f g = λ s r. gives_weaker S R P (next s) f (g s (f k s r))

module _ (S : InstanceKey → Signature → Type 0) where
  abbrev pub All : Signatures → Type 0
  All met = AllOf (λ (e : InstanceKey × Signature). S e.0 e.1) met

  kept_holds : (met : Signatures) (k : InstanceKey) (s : Signature) → All met → signature_of met k ≡ Some s → S k s
  kept_holds [] k s p e = absurd (grind (arith, e))
  kept_holds (x ∷ met) k s p e = go (same_key x.0 k) refl e (kept_holds met k s p.1)
    where
      go : (b : Bool) → same_key x.0 k ≡ b → cond b (Some x.1) (signature_of met k) ≡ Some s → (signature_of met k ≡ Some s → S k s) → S k s
      go true q e h = subst (λ z. S z s) (same_key_same x.0 k q) (subst (λ z. S x.0 z) (some_same x.1 s e) p.0)
      go false q e h = h e

  all_append : (met : Signatures) (k : InstanceKey) (s : Signature) → All met → S k s → All (met ++ (k, s) ∷ [])
  all_append [] k s p q = (q, tt)
  all_append (x ∷ met) k s p q = (p.0, all_append met k s p.1 q)

  -- a checker that makes such signatures
  pub record Makes (check : Checker) : Type 0 where
    pub makes : (d : ℕ) (k : InstanceKey) (c : Counts) (r : Signature × Counts) → All c.met → check d k c ≡ Ok r → S k r.0 × All r.1.met

  found_holds : (check : Checker) → Makes check → (d : ℕ) (k : InstanceKey) (c : Counts) (q : Signature × Counts) (m : Met) → All c.met → meet d c.met k ≡ m → known_or_checked check d m k c ≡ Ok q → S k q.0 × All q.1.met
  found_holds check g d k c q (known s) p e f =
      let same : (s, c) ≡ q = ok_same (s, c) q f in
      subst (λ (x : Signature × Counts). S k x.0 × All x.1.met) same (kept_holds c.met k s p (met_known d (length c.met) (signature_of c.met k) s e).0, p)
  found_holds check g d k c q (limited l) p e f = absurd (grind (arith, f))
  found_holds check g d k c q new p e f = g.makes (d + 1) k c q p f

  pub ran_holds : {A : Type 0} (P : A → Type 0) (check : Checker) → Makes check → (d : ℕ) (w : Walk A) (c : Counts) (h : ℕ) (r : A × Counts × ℕ) → Gives S P w → All c.met → with_counts check d w c h ≡ Ok r → P r.0 × All r.1.met
  ran_holds P check g d (answer a) c h r gives p e = subst (λ (x : _ × Counts × ℕ). P x.0 × All x.1.met) (ok_same (a, c, h) r e) (gives, p)
  ran_holds P check g d (broken x) c h r gives p e = absurd (grind (arith, e))
  ran_holds P check g d (counted w) c h r gives p e = go (nat_lt c.walked most_walked) e (ran_holds P check g d w (record c { walked = suc c.walked }) h r gives p)
    where
      go : (b : Bool) → cond b (with_counts check d w (record c { walked = suc c.walked }) h) (Err (over Walked)) ≡ Ok r → (with_counts check d w (record c { walked = suc c.walked }) h ≡ Ok r → P r.0 × All r.1.met) → P r.0 × All r.1.met
      go true e ih = ih e
      go false e ih = absurd (grind (arith, e))
  ran_holds P check g d (asked k rest) c h r gives p e =
      go (λ s ok c' h' p' e'. ran_holds P check g d (rest s) c' h' r (gives s ok) p' e') (ok_inside (known_or_checked check d (meet d c.met k) k c) (λ q. with_counts check d (rest q.0) q.1 (max h q.0.height)) r e)
    where
      go : ((s : Signature) → S k s → (c' : Counts) (h' : ℕ) → All c'.met → with_counts check d (rest s) c' h' ≡ Ok r → P r.0 × All r.1.met) → (q : Signature × Counts) × (known_or_checked check d (meet d c.met k) k c ≡ Ok q) × (with_counts check d (rest q.0) q.1 (max h q.0.height) ≡ Ok r) → P r.0 × All r.1.met
      go ih t =
          let there = found_holds check g d k c t.0 (meet d c.met k) p refl t.1 in
          ih t.0.0 there.0 t.0.1 (max h t.0.0.height) there.1 t.2

-- ---- one function, and all

module _ (words : List (NameId × BuiltIn)) (funs : List Function) where
  abbrev pub T : InstanceKey → Signature → Type 0
  T = Tells words funs

  -- these functions are the last ones
  abbrev pub Ends : List Function → Type 0
  Ends some = (n : ℕ) (g : Function) (b : List Function) → parted some n ≡ Some (g, b) → parted funs n ≡ Some (g, b)

  proper_there : (some : List Function) → Ends some → (k : InstanceKey) (s : Signature) → IsProper funs k s → IsProper some k s
  proper_there some ends k s p = λ f h there head. let b = is_parted some k.fun.number f there in p f h (parted_is funs k.fun.number f b.0 (ends k.fun.number f b.0 b.1)) head

  -- what calls of functions before it rely on
  pub callable : (f : Function) (before : List Function) (statics : List ℤ) (h : Header) → Ends (f ∷ before) → (k : InstanceKey) (s : Signature) → T k s → Callable (scope_for words before f statics h) k s
  callable f before statics h ends k s t = (
    λ g b h' there head. t.0 g b h' (ends k.fun.number g b (parted_later f before k.fun.number g b there)) head,
    λ x r h' found number head.
        let st = found_stands words before x k.statics r found in
        let there : parted before k.fun.number ≡ Some (r.fun, st.before) = subst (λ n. parted before n ≡ Some (r.fun, st.before)) number st.apart in
        t.1 r.fun h' (parted_is funs k.fun.number r.fun st.before (ends k.fun.number r.fun st.before (parted_later f before k.fun.number r.fun st.before there))) head,
  )

  all_proper : (some : List Function) → Ends some → (met : Signatures) → All T met → AreProper some met
  all_proper some ends [] a = tt
  all_proper some ends (e ∷ met) a = (proper_there some ends e.0 e.1 a.0.1, all_proper some ends met a.1)

  one_tells : (f : Function) (before : List Function) → IsFineFunction f → Ends (f ∷ before) → Makes T (instances words before) → (d : ℕ) (k : InstanceKey) (c : Counts) (r : Signature × Counts) → k.fun.number ≡ length before → All T c.met
      → check_one (instances words before) words before f (λ s. s) d k c ≡ Ok r → T k r.0 × All T r.1.met
  one_tells f before fine ends g d k c r at_ met e =
      subst (λ (x : Signature × Counts). T k x.0 × All T x.1.met) same (tells, all_append T q.0.1.met k (kept f p.0 k q.0).0 w.1 tells)
    where
      p : (h : Header) × (header_of (paired f.statics k.statics) (λ s. s) f ≡ Ok h) × (and_then (with_counts (instances words before) d (instance_walk words before f k.statics h) c 0) (λ r. Ok (kept f h k r)) ≡ Ok r)
      p = ok_inside (header_of (paired f.statics k.statics) (λ s. s) f) (λ h. and_then (with_counts (instances words before) d (instance_walk words before f k.statics h) c 0) (λ r. Ok (kept f h k r))) r e

      q : (x : List Value × Counts × ℕ) × (with_counts (instances words before) d (instance_walk words before f k.statics p.0) c 0 ≡ Ok x) × (◌≡◌ {A = Result (Signature × Counts) Fault} (Ok (kept f p.0 k x)) (Ok r))
      q = ok_inside (with_counts (instances words before) d (instance_walk words before f k.statics p.0) c 0) (λ r. Ok (kept f p.0 k r)) r p.2

      same : kept f p.0 k q.0 ≡ r
      same = ok_same (kept f p.0 k q.0) r q.2

      w : BodyFine words before CallResult f k.statics p.0 (returned_as p.0.params p.0.results q.0.0) × All T q.0.1.met
      w =
          ran_holds T (λ vs. BodyFine words before CallResult f k.statics p.0 (returned_as p.0.params p.0.results vs)) (instances words before) g d (instance_walk words before f k.statics p.0) c 0 q.0
          (gives-more T 0 (λ vs. BodyFine words before CallResult f k.statics p.0 (returned_as p.0.params p.0.results vs) × ConstsStay words before CallResult f k.statics p.0)
          (λ vs. BodyFine words before CallResult f k.statics p.0 (returned_as p.0.params p.0.results vs)) (instance_walk words before f k.statics p.0)
          (gives_weaker (Callable (scope_for words before f k.statics p.0)) T (λ vs. BodyFine words before CallResult f k.statics p.0 (returned_as p.0.params p.0.results vs) × ConstsStay words before CallResult f k.statics p.0) (instance_walk words before f k.statics p.0)
          (callable f before k.statics p.0 ends) (body_is_fine words before CallResult f k.statics p.0 (λ t. inl refl) fine.parts)) (λ vs q. q.0)) met q.1

      there : parted funs k.fun.number ≡ Some (f, before)
      there = subst (λ n. parted funs n ≡ Some (f, before)) (sym at_) (ends (length before) f before (parted_last f before))

      calls : CallFine words funs k (kept f p.0 k q.0).0
      calls f' before' h' there' head =
          let pair : (f, before) ≡ (f', before') = some_same (f, before) (f', before') (sym there ∙ there') in
          let same_fun : f ≡ f' = ap (λ (x : Function × List Function). x.0) pair in
          let same_before : before ≡ before' = ap (λ (x : Function × List Function). x.1) pair in
          let same_head : p.0 ≡ h' = ok_same p.0 h' (sym p.1 ∙ subst (λ (z : Function). header_of (paired z.statics k.statics) (λ s. s) z ≡ Ok h') (sym same_fun) head) in
          subst (λ (z : Function). Told z before' h') same_fun (subst (λ b. Told f b h') same_before (subst (Told f before) same_head (w.0, (refl, params_differ f.params p.0.params fine.differ))))
        where
          Told : Function → List Function → Header → Type 0
          Told z b x = BodyFine words b CallResult z k.statics x (kept f p.0 k q.0).0.results × (((kept f p.0 k q.0).0.params ≡ x.params) × PartsDiffer (param_vars 0 z.params x.params))

      proper_here : IsProper (f ∷ before) k r.0
      proper_here =
          (instances-proper words (f ∷ before) d k c r (all_proper (f ∷ before) ends c.met met)
          (ap (λ t. cond t (check_one (instances words before) words before f (λ s. s) d k c) (instances words before d k c)) (eq-eqb k.fun.number (length before) at_) ∙ e)).0

      proper : IsProper funs k (kept f p.0 k q.0).0
      proper = λ g h' at head.
          let here : f ≡ g = some_same f g (sym (parted_is funs k.fun.number f before there) ∙ at) in
          subst (λ (x : Signature × Counts). IsProper (f ∷ before) k x.0) (sym same) proper_here g h' (parted_is (f ∷ before) k.fun.number g before (subst (λ n. parted (f ∷ before) n ≡ Some (g, before)) (sym at_) (parted_last f before ∙ ap (λ z. Some (z, before)) here))) head

      tells : T k (kept f p.0 k q.0).0
      tells = (calls, proper)

  pub all_tell : (some : List Function) → AllOf IsFineFunction some → Ends some → Makes T (instances words some)
  all_tell [] fine ends = record { makes = λ d k c r p e. absurd (grind (arith, e)) }
  all_tell (f ∷ before) fine ends = go (all_tell before fine.1 (λ n g b e. ends n g b (parted_later f before n g b e)))
    where
      makes_at : Makes T (instances words before) → (d : ℕ) (k : InstanceKey) (c : Counts) (r : Signature × Counts) → All T c.met → (b : Bool) → (k.fun.number == length before) ≡ b
          → cond b (check_one (instances words before) words before f (λ s. s) d k c) (instances words before d k c) ≡ Ok r → T k r.0 × All T r.1.met
      makes_at g d k c r p true at_ e = one_tells f before fine.0 ends g d k c r (eqb-true k.fun.number (length before) at_) p e
      makes_at g d k c r p false at_ e = g.makes d k c r p e

      go : Makes T (instances words before) → Makes T (instances words (f ∷ before))
      go g = record { makes = λ d k c r p e. makes_at g d k c r p (k.fun.number == length before) refl e }

pub instances_tell : InstancesTell
instances_tell words funs d k c r fine met e = (all_tell words funs funs fine (λ n g b h. h)).makes d k c r met e
