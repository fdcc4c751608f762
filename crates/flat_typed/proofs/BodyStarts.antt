-- Where a body begins: no parameter has the name of a static one, and the context is settled.
use Rattle.std.proofs.Common.{◌≡◌, ◌⊎◌, inl, inr, ℕ, suc, ◌+◌, ◌≤◌, ◌<◌, Bool, true, false, cond, ◌||◌, List, [], ◌∷◌, length, refl, sym, ap, ◌∙◌, arith}
use Rattle.std.specs.Prelude.{Option, Some, None, is_some, ◌==◌, ℤ}
use Rattle.silq_tree.specs.declared.node.NameId.{NameId}
use Rattle.silq_tree.specs.Syntax.{Parameter, Function}
use Rattle.static_num.specs.Static.{value_of_name}
use Rattle.silq_types.specs.declared.need.Need.TheVariants as needs
use Rattle.silq_types.specs.declared.built_in.BuiltIn.{BuiltIn}
use Rattle.silq_types.specs.declared.signature.Param.{Param}
use Rattle.silq_types.specs.declared.values.Var.{Var}
use Rattle.silq_types.specs.Types.{same_name}
use Rattle.silq_types.specs.Programs.{paired}
use Rattle.silq_mean.specs.Written.{Header}
use Rattle.check_scope.specs.Context.{find_var, variable, same_part}
use Rattle.check_fun.specs.Statement.{any_name}
use Rattle.check_fun.specs.Program.{shares_name, param_vars, param_origin}
use Rattle.silq_mean.specs.Meaning as meanings
use Rattle.flat_form.specs.Names.{AllOf}
use Rattle.flat_typed.specs.Calls.{first_context}
use Rattle.flat_typed.specs.Scopes.{scope_for, NoStatics}
use Rattle.flat_typed.specs.Settled.{Settled, AllStay}
use Rattle.flat_typed.proofs.Ordered.{clash, same_is_equal, or_left, or_right}
use Rattle.flat_typed.proofs.Parts.{whole_same}
use Rattle.flat_typed.proofs.Parameters.{params_whole, params_sole}
use Rattle.flat_typed.proofs.HeldStay.{HeldFirst}

-- ---- names of parameters

static_name : (xs : List NameId) (zs : List ℤ) (x : NameId) (o : Option ℤ) → is_some (value_of_name (paired xs zs) x o) ≡ true → (any_name (λ y. same_name y x) xs ≡ true) ⊎ (is_some o ≡ true)
static_name [] zs x o e = inr e
static_name (y ∷ ys) [] x o e = inr e
static_name (y ∷ ys) (z ∷ zs) x o e = go (same_name y x) refl (static_name ys zs x (cond (y.number == x.number) (Some z) o) e)
  where
    or_true : (a : Bool) → (a || true) ≡ true
    or_true true = refl
    or_true false = refl

    go : (b : Bool) → same_name y x ≡ b → (any_name (λ y. same_name y x) ys ≡ true) ⊎ (is_some (cond b (Some z) o) ≡ true) → ((b || any_name (λ y. same_name y x) ys) ≡ true) ⊎ (is_some o ≡ true)
    go true s h = inl refl
    go false s (inl h) = inl h
    go false s (inr h) = inr h

none_named : (xs : List NameId) (x : NameId) (i : ℕ) (ns : List Parameter) (ps : List Param) → any_name (λ y. same_name y x) xs ≡ true → shares_name xs ns ≡ false → find_var (param_vars i ns ps) (variable x) ≡ None
none_named xs x i [] ps a e = refl
none_named xs x i (n ∷ ns) [] a e = refl
none_named xs x i (n ∷ ns) (p ∷ ps) a e = go (same_name n.name x) refl (none_named xs x (suc i) ns ps a (or_right (any_name (λ y. same_name y n.name) xs) (shares_name xs ns) e))
  where
    first : Var
    first = record { part = variable n.name; ty = p.ty; origin = param_origin p; place = i; consumed = false }

    go : (b : Bool) → same_name n.name x ≡ b → find_var (param_vars (suc i) ns ps) (variable x) ≡ None → cond (same_part (variable n.name) (variable x)) (Some first) (find_var (param_vars (suc i) ns ps) (variable x)) ≡ None
    go true s h = clash (sym (ap (λ z. any_name (λ y. same_name y z) xs) (same_is_equal n.name x s) ∙ a) ∙ or_left (any_name (λ y. same_name y n.name) xs) (shares_name xs ns) e)
    go false s h = ap (λ b. cond b (Some first) (find_var (param_vars (suc i) ns ps) (variable x))) (whole_same n.name x ∙ s) ∙ h

pub params_free : (words : List (NameId × BuiltIn)) (before : List Function) (f : Function) (statics : List ℤ) (h : Header) → shares_name f.statics f.params ≡ false → NoStatics (scope_for words before f statics h) (first_context f h).vars
params_free words before f statics h e x q = go (static_name f.statics statics x None q)
  where
    go : (any_name (λ y. same_name y x) f.statics ≡ true) ⊎ (false ≡ true) → find_var (param_vars 0 f.params h.params) (variable x) ≡ None
    go (inl a) = none_named f.statics x 0 f.params h.params a e
    go (inr z) = clash (sym z)

pub params_placed : (m i : ℕ) (ns : List Parameter) (ps : List Param) → i + length ps ≤ m → AllOf (λ v. v.place < m) (param_vars i ns ps)
params_placed m i [] ps le = tt
params_placed m i (n ∷ ns) [] le = tt
params_placed m i (n ∷ ns) (p ∷ ps) le = (omega (arith, le), params_placed m (suc i) ns ps (omega (arith, le)))

pub params_live : (i : ℕ) (ns : List Parameter) (ps : List Param) → AllOf (λ v. v.consumed ≡ false) (param_vars i ns ps)
params_live i [] ps = tt
params_live i (n ∷ ns) [] = tt
params_live i (n ∷ ns) (p ∷ ps) = (refl, params_live (suc i) ns ps)

pub held_of : (vs ws : List Var) → AllStay vs ws → HeldFirst vs ws
held_of [] ws h = tt
held_of (v ∷ vs) [] h = absurd h
held_of (v ∷ vs) (w ∷ ws) h = (h.0.same, held_of vs ws h.1)

pub starts_settled : (words : List (NameId × BuiltIn)) (before : List Function) (f : Function) (statics : List ℤ) (h : Header) → shares_name f.statics f.params ≡ false → Settled (scope_for words before f statics h) (first_context f h)
starts_settled words before f statics h e = record {
  free = params_free words before f statics h e;
  whole = params_whole 0 f.params h.params;
  placed = params_placed (length h.params) 0 f.params h.params (omega arith);
  sole = params_sole f.params h.params;
}
