-- Names that are bound anew: what holds of all variables, which of them stay, and which names stand for static values.
use Rattle.std.proofs.Common.{◌≡◌, Bool, true, false, cond, ◌||◌, List, [], ◌∷◌, ◌++◌, refl, sym, ap, ◌∙◌}
use Rattle.std.specs.Prelude.{Some, None, is_some}
use Rattle.silq_tree.specs.declared.node.NameId.{NameId}
use Rattle.silq_types.specs.declared.values.Part.{Part}
use Rattle.silq_types.specs.declared.values.Value.{Value}
use Rattle.silq_types.specs.declared.values.Var.{Var}
use Rattle.silq_types.specs.Types.{is_held}
use Rattle.silq_mean.specs.Written.{value_of}
use Rattle.check_scope.specs.Context.{Scope, variable, same_part, find_var, replace}
use Rattle.check_expr.proofs.Alike.{same_part_same}
use Rattle.check_fun.specs.Statement.{bind_name, bind_names, passes, is_held_var, any_name}
use Rattle.check_fun.specs.Statement as statements
use Rattle.flat_form.specs.Names.{AllOf}
use Rattle.flat_typed.specs.Scopes.{NoStatics}
use Rattle.flat_typed.specs.Settled.{AllStay}
use Rattle.flat_typed.proofs.Ordered.{clash, or_left, or_right}
use Rattle.flat_typed.proofs.Tame.{find_other}
use Rattle.flat_typed.proofs.Binding.{all_bound}
use Rattle.flat_typed.proofs.UnheldValues.{Unheld}

-- ---- all variables

pub each_bound : (Q : Var → Type 0) (xs : List NameId) (vs : List Value) (vars : List Var) → AllOf Q vars → AllOf (λ v. (x : NameId) → Q (statements.bound x v)) vs → AllOf Q (bind_names vars xs vs)
each_bound Q [] vs vars h k = h
each_bound Q (x ∷ xs) [] vars h k = h
each_bound Q (x ∷ xs) (v ∷ vs) vars h k = each_bound Q xs vs (bind_name vars x v) (all_bound Q vars x v h (k.0 x)) k.1

-- ---- a name is not that of a held variable

abbrev pub NotHeld : List Var → Part → Type 0
NotHeld vars q = passes is_held_var (find_var vars q) ≡ false

first_or : (ws us : List Var) (w : Var) (q : Part) (b : Bool) → passes is_held_var (cond b (Some w) (find_var ws q)) ≡ false → (NotHeld ws q → NotHeld us q) → passes is_held_var (cond b (Some w) (find_var us q)) ≡ false
first_or ws us w q true h i = h
first_or ws us w q false h i = i h

replaced_unheld : (vs : List Var) (u : Var) (q : Part) → is_held u.origin ≡ false → NotHeld vs q → NotHeld (replace vs u) q
replaced_unheld [] u q un h = h
replaced_unheld (w ∷ ws) u q un h = go (same_part w.part u.part) refl (replaced_unheld ws u q un)
  where
    goal : Bool → Type 0
    goal t = NotHeld (cond t (u ∷ ws) (w ∷ replace ws u)) q

    here : (b : Bool) → same_part w.part q ≡ b → passes is_held_var (cond b (Some u) (find_var ws q)) ≡ false
    here true e = un
    here false e = ap (λ b. passes is_held_var (cond b (Some w) (find_var ws q))) (sym e) ∙ h

    go : (t : Bool) → same_part w.part u.part ≡ t → (NotHeld ws q → NotHeld (replace ws u) q) → goal t
    go true s i = here (same_part u.part q) (ap (λ (p : Part). same_part p q) (same_part_same w.part u.part s))
    go false s i = first_or ws (replace ws u) w q (same_part w.part q) h i

appended_unheld : (vs : List Var) (u : Var) (q : Part) → is_held u.origin ≡ false → NotHeld vs q → NotHeld (vs ++ u ∷ []) q
appended_unheld [] u q un h = go (same_part u.part q)
  where
    go : (b : Bool) → passes is_held_var (cond b (Some u) None) ≡ false
    go true = un
    go false = refl
appended_unheld (w ∷ ws) u q un h = first_or ws (ws ++ u ∷ []) w q (same_part w.part q) h (appended_unheld ws u q un)

bound_unheld : (vars : List Var) (x : NameId) (v : Value) (q : Part) → Unheld v → NotHeld vars q → NotHeld (bind_name vars x v) q
bound_unheld vars x v q un h = go (is_some (find_var vars (variable x)))
  where
    go : (b : Bool) → NotHeld (cond b (replace vars (statements.bound x v)) (vars ++ statements.bound x v ∷ [])) q
    go true = replaced_unheld vars (statements.bound x v) q un h
    go false = appended_unheld vars (statements.bound x v) q un h

-- ---- variables that stay

stay_replaced : (us ws : List Var) (x : NameId) (v : Value) → AllStay us ws → NotHeld ws (variable x) → Unheld v → AllStay us (replace ws (statements.bound x v))
stay_replaced [] ws x v h n un = tt
stay_replaced (u ∷ us) [] x v h n un = h
stay_replaced (u ∷ us) (w ∷ ws) x v h n un = go (same_part w.part (variable x)) refl n (λ m. stay_replaced us ws x v h.1 m un)
  where
    goal : Bool → Type 0
    goal t = AllStay (u ∷ us) (cond t (statements.bound x v ∷ ws) (w ∷ replace ws (statements.bound x v)))

    go : (t : Bool) → same_part w.part (variable x) ≡ t → passes is_held_var (cond t (Some w) (find_var ws (variable x))) ≡ false → (NotHeld ws (variable x) → AllStay us (replace ws (statements.bound x v))) → goal t
    go true s m i =
        (record { part = sym (same_part_same w.part (variable x) s) ∙ h.0.part; held = un ∙ (sym m ∙ h.0.held); same = λ k. clash (sym k ∙ (sym h.0.held ∙ m)) }, h.1)
    go false s m i = (h.0, i m)

stay_appended : (us ws zs : List Var) → AllStay us ws → AllStay us (ws ++ zs)
stay_appended [] ws zs h = tt
stay_appended (u ∷ us) [] zs h = absurd h
stay_appended (u ∷ us) (w ∷ ws) zs h = (h.0, stay_appended us ws zs h.1)

stay_bound : (us vars : List Var) (x : NameId) (v : Value) → AllStay us vars → NotHeld vars (variable x) → Unheld v → AllStay us (bind_name vars x v)
stay_bound us vars x v h n un = go (is_some (find_var vars (variable x)))
  where
    go : (b : Bool) → AllStay us (cond b (replace vars (statements.bound x v)) (vars ++ statements.bound x v ∷ []))
    go true = stay_replaced us vars x v h n un
    go false = stay_appended us vars (statements.bound x v ∷ []) h

-- no name is that of a held variable
abbrev pub NoneHeld : List Var → List NameId → Type 0
NoneHeld vars xs = any_name (λ x. passes is_held_var (find_var vars (variable x))) xs ≡ false

none_both : (a b : Bool) → a ≡ false → b ≡ false → (a || b) ≡ false
none_both a b e f = ap (λ t. t || b) e ∙ f

none_held : (xs : List NameId) (vars : List Var) (x : NameId) (v : Value) → Unheld v → NoneHeld vars xs → NoneHeld (bind_name vars x v) xs
none_held [] vars x v un h = refl
none_held (y ∷ ys) vars x v un h =
    none_both (passes is_held_var (find_var (bind_name vars x v) (variable y))) (any_name (λ z. passes is_held_var (find_var (bind_name vars x v) (variable z))) ys)
    (bound_unheld vars x v (variable y) un (or_left (passes is_held_var (find_var vars (variable y))) (any_name (λ z. passes is_held_var (find_var vars (variable z))) ys) h))
    (none_held ys vars x v un (or_right (passes is_held_var (find_var vars (variable y))) (any_name (λ z. passes is_held_var (find_var vars (variable z))) ys) h))

pub names_stay : (us : List Var) (xs : List NameId) (vs : List Value) (vars : List Var) → AllStay us vars → NoneHeld vars xs → AllOf Unheld vs → AllStay us (bind_names vars xs vs)
names_stay us [] vs vars h n un = h
names_stay us (x ∷ xs) [] vars h n un = h
names_stay us (x ∷ xs) (v ∷ vs) vars h n un =
    names_stay us xs vs (bind_name vars x v)
    (stay_bound us vars x v h (or_left (passes is_held_var (find_var vars (variable x))) (any_name (λ z. passes is_held_var (find_var vars (variable z))) xs) n) un.0)
    (none_held xs vars x v un.0 (or_right (passes is_held_var (find_var vars (variable x))) (any_name (λ z. passes is_held_var (find_var vars (variable z))) xs) n)) un.1

-- ---- names of static values

appended_other : (vs : List Var) (u : Var) (q : Part) → same_part u.part q ≡ false → find_var (vs ++ u ∷ []) q ≡ find_var vs q
appended_other [] u q e = ap (λ b. cond b (Some u) None) e
appended_other (w ∷ ws) u q e = ap (λ o. cond (same_part w.part q) (Some w) o) (appended_other ws u q e)

free_bound : (sc : Scope) (vars : List Var) (x : NameId) (v : Value) → is_some (value_of sc.statics x) ≡ false → NoStatics sc vars → NoStatics sc (bind_name vars x v)
free_bound sc vars x v n free y e = go (is_some (find_var vars (variable x)))
  where
    other : (b : Bool) → same_part (variable x) (variable y) ≡ b → b ≡ false
    other true s = clash (sym e ∙ (ap (λ (p : Part). is_some (value_of sc.statics p.name)) (sym (same_part_same (variable x) (variable y) s)) ∙ n))
    other false s = refl

    differ : same_part (variable x) (variable y) ≡ false
    differ = other (same_part (variable x) (variable y)) refl

    go : (b : Bool) → find_var (cond b (replace vars (statements.bound x v)) (vars ++ statements.bound x v ∷ [])) (variable y) ≡ None
    go true = find_other vars (statements.bound x v) (variable y) differ ∙ free y e
    go false = appended_other vars (statements.bound x v) (variable y) differ ∙ free y e

pub names_free : (sc : Scope) (xs : List NameId) (vs : List Value) (vars : List Var) → any_name (λ x. is_some (value_of sc.statics x)) xs ≡ false → NoStatics sc vars → NoStatics sc (bind_names vars xs vs)
names_free sc [] vs vars n h = h
names_free sc (x ∷ xs) [] vars n h = h
names_free sc (x ∷ xs) (v ∷ vs) vars n h =
    names_free sc xs vs (bind_name vars x v) (or_right (is_some (value_of sc.statics x)) (any_name (λ y. is_some (value_of sc.statics y)) xs) n)
    (free_bound sc vars x v (or_left (is_some (value_of sc.statics x)) (any_name (λ y. is_some (value_of sc.statics y)) xs) n) h)
