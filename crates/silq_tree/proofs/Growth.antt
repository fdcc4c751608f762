-- Trees that are grown from those before them.
use Rattle.std.proofs.Common.{◌≡◌, ℕ, zero, suc, ◌+◌, ◌<◌, List, [], ◌∷◌, ◌++◌, Some, get_or, slice_get, length, refl, sym, ◌∙◌, ap, arith, zero-add, length-append}
use Rattle.silq_tree.specs.Arena.{grow_behind, grow}

-- two lists agree below n
abbrev pub Agree : {T : Type 0} → T → ℕ → List T → List T → Type 0
Agree d n ts us = (k : ℕ) → k < n → get_or ts k d ≡ get_or us k d

pub get_or-append_front : {T : Type 0} (d : T) (ts us : List T) (k : ℕ) → k < length ts → get_or (ts ++ us) k d ≡ get_or ts k d
get_or-append_front d [] us k h = absurd (omega arith)
get_or-append_front d (t ∷ ts) us zero h = refl
get_or-append_front d (t ∷ ts) us (suc k) h = get_or-append_front d ts us k (omega arith)

get_or-append_here : {T : Type 0} (d t : T) (ts : List T) → get_or (ts ++ t ∷ []) (length ts) d ≡ t
get_or-append_here d t [] = refl
get_or-append_here d t (x ∷ ts) = get_or-append_here d t ts

-- the trees that were there stay
stays : {N T : Type 0} (g : List T → N → T) (d : T) (ns : List N) (ts : List T) → Agree d (length ts) ts (grow_behind g ts ns)
unfolding grow_behind
stays g d [] ts k h = refl
stays g d (n ∷ ns) ts k h =
    sym (get_or-append_front d ts (g ts n ∷ []) k h) ∙ stays g d ns (ts ++ g ts n ∷ []) k (omega (arith, length-append ts (g ts n ∷ [])))

length-grow_behind : {N T : Type 0} (g : List T → N → T) (ns : List N) (ts : List T) → length (grow_behind g ts ns) ≡ length ts + length ns
unfolding grow_behind
length-grow_behind g [] ts = omega arith
length-grow_behind g (n ∷ ns) ts = length-grow_behind g ns (ts ++ g ts n ∷ []) ∙ (let l = length-append ts (g ts n ∷ []) in omega (arith, l))

pub length-grow : {N T : Type 0} (g : List T → N → T) (ns : List N) → length (grow g ns) ≡ length ns
unfolding grow
length-grow g ns = length-grow_behind g ns [] ∙ zero-add (length ns)

-- one more node adds its tree
push_behind : {N T : Type 0} (g : List T → N → T) (ns : List N) (n : N) (ts : List T) → grow_behind g ts (ns ++ n ∷ []) ≡ grow_behind g ts ns ++ g (grow_behind g ts ns) n ∷ []
unfolding grow_behind
push_behind g [] n ts = refl
push_behind g (x ∷ ns) n ts = push_behind g ns n (ts ++ g ts x ∷ [])

pub grow-push : {N T : Type 0} (g : List T → N → T) (ns : List N) (n : N) → grow g (ns ++ n ∷ []) ≡ grow g ns ++ g (grow g ns) n ∷ []
unfolding grow
grow-push g ns n = push_behind g ns n []

pub grow_made : {N T : Type 0} (g : List T → N → T) (d : T) (ns : List N) (n : N) (k : ℕ) → k ≡ length ns → get_or (grow g (ns ++ n ∷ [])) k d ≡ g (grow g ns) n
grow_made g d ns n k e =
    ap (λ ts. get_or ts k d) (grow-push g ns n) ∙ ap (λ j. get_or (grow g ns ++ g (grow g ns) n ∷ []) j d) (e ∙ sym (length-grow g ns)) ∙ get_or-append_here d (g (grow g ns) n) (grow g ns)

pub grow_kept : {N T : Type 0} (g : List T → N → T) (d : T) (ns : List N) (n : N) → Agree d (length ns) (grow g (ns ++ n ∷ [])) (grow g ns)
grow_kept g d ns n k h =
    ap (λ ts. get_or ts k d) (grow-push g ns n) ∙ get_or-append_front d (grow g ns) (g (grow g ns) n ∷ []) k (omega (arith, length-grow g ns))

-- what is grown of a node depends on the trees below n alone
abbrev pub IsLocal : {N T : Type 0} → (List T → N → T) → T → ℕ → N → Type 0
IsLocal {N} {T} g d k n = (ts us : List T) → Agree d k ts us → g ts n ≡ g us n

at_behind : {N T : Type 0} (g : List T → N → T) (d : T) (ns : List N) (ts : List T) (j k : ℕ) (n : N) → slice_get ns j ≡ Some n → k ≡ length ts + j → IsLocal g d k n
    → get_or (grow_behind g ts ns) k d ≡ g (grow_behind g ts ns) n
unfolding grow_behind
at_behind g d [] ts j k n e f h = cc
at_behind g d (x ∷ ns) ts zero k n e f h =
    let x_is : x ≡ n = cc in
    let us : List _ = ts ++ g ts x ∷ [] in
    let k_is : k ≡ length ts = omega arith in
    let low : k < length us = omega (arith, length-append ts (g ts x ∷ [])) in
    sym (stays g d ns us k low) ∙ ap (λ i. get_or us i d) k_is ∙ get_or-append_here d (g ts x) ts ∙ ap (g ts) x_is
    ∙ h ts (grow_behind g us ns) (λ i l. let m : i < length ts = omega arith in stays g d (x ∷ ns) ts i m)
at_behind g d (x ∷ ns) ts (suc j) k n e f h =
    at_behind g d ns (ts ++ g ts x ∷ []) j k n e (let l = length-append ts (g ts x ∷ []) in omega (arith, l)) h

-- the tree of a node
pub grow_at : {N T : Type 0} (g : List T → N → T) (d : T) (ns : List N) (k : ℕ) (n : N) → slice_get ns k ≡ Some n → IsLocal g d k n → get_or (grow g ns) k d ≡ g (grow g ns) n
unfolding grow
grow_at g d ns k n e h = at_behind g d ns [] k k n e (omega arith) h

-- two ways to grow that agree at each node
pub grow_same : {N T : Type 0} (g h : List T → N → T) (ns : List N) (ts : List T) → ((k : ℕ) (n : N) → slice_get ns k ≡ Some n → (us : List T) → g us n ≡ h us n)
    → grow_behind g ts ns ≡ grow_behind h ts ns
unfolding grow_behind
grow_same g h [] ts e = refl
grow_same g h (n ∷ ns) ts e =
    grow_same g h ns (ts ++ g ts n ∷ []) (λ k m f. e (suc k) m f) ∙ ap (λ t. grow_behind h (ts ++ t ∷ []) ns) (e zero n refl ts)
