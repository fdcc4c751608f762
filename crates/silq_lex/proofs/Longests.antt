-- The longest front of a list that passes a test.
use Rattle.std.proofs.Common.{◌≡◌, ℕ, ◌<◌, Bool, true, false, cond, ◌&&◌, List, [], ◌∷◌, ◌++◌, Option, Some, None, length, option_map, if◌then◌else◌, refl, sym, ◌∙◌, ap, arith}
use Rattle.std.specs.List.{list_all}
use Rattle.silq_lex.specs.Longest.{longest, or_else}
use Rattle.silq_lex.specs.Runs.{run, past}
use Rattle.silq_lex.specs.Laws.{IsLongest}

only_front : (front rest : List ℕ) → [] ≡ front ++ rest → front ≡ []
only_front [] rest e = refl
only_front (c ∷ cs) rest e = cc

at_nothing : (test : List ℕ → Bool) (b : Bool) → test [] ≡ b → IsLongest test [] (if b then Some [] else None)
at_nothing test true e = (([], refl), e, λ front rest h l. let k : front ≡ [] = only_front front rest h in absurd (omega (arith, ap length k)))
at_nothing test false e = λ front rest h. ap test (only_front front rest h) ∙ e

one_more : (test : List ℕ → Bool) (c : ℕ) (cs : List ℕ) (b : Bool) (o : Option (List ℕ)) → test [] ≡ b → IsLongest (λ front. test (c ∷ front)) cs o
    → IsLongest test (c ∷ cs) (or_else (option_map (λ front. c ∷ front) o) (if b then Some [] else None))
one_more test c cs true None e h = ((c ∷ cs, refl), e, others)
  where
    others : (front rest : List ℕ) → c ∷ cs ≡ front ++ rest → 0 < length front → test front ≡ false
    others [] rest k l = absurd (omega arith)
    others (d ∷ ds) rest k l =
        let x : c ≡ d = cc in let y : cs ≡ ds ++ rest = cc in ap (λ z. test (z ∷ ds)) (sym x) ∙ h ds rest y
one_more test c cs false None e h = others
  where
    others : (front rest : List ℕ) → c ∷ cs ≡ front ++ rest → test front ≡ false
    others [] rest k = e
    others (d ∷ ds) rest k =
        let x : c ≡ d = cc in let y : cs ≡ ds ++ rest = cc in ap (λ z. test (z ∷ ds)) (sym x) ∙ h ds rest y
one_more test c cs b (Some found) e h = ((h.0.0, ap (λ z. c ∷ z) h.0.1), h.1, others)
  where
    others : (front rest : List ℕ) → c ∷ cs ≡ front ++ rest → length (c ∷ found) < length front → test front ≡ false
    others [] rest k l = absurd (omega arith)
    others (d ∷ ds) rest k l =
        let x : c ≡ d = cc in let y : cs ≡ ds ++ rest = cc in
        ap (λ z. test (z ∷ ds)) (sym x) ∙ h.2 ds rest y (omega arith)

-- the definition is what it is called
pub longest_is : (test : List ℕ → Bool) (cs : List ℕ) → IsLongest test cs (longest test cs)
longest_is test [] = at_nothing test (test []) refl
longest_is test (c ∷ cs) = one_more test c cs (test []) (longest (λ front. test (c ∷ front)) cs) refl (longest_is (λ front. test (c ∷ front)) cs)

-- what was found passes the test
pub found_passes : (test : List ℕ → Bool) (cs found : List ℕ) → longest test cs ≡ Some found → test found ≡ true
found_passes test cs found e = of (longest test cs) (longest_is test cs) e
  where
    of : (o : Option (List ℕ)) → IsLongest test cs o → o ≡ Some found → test found ≡ true
    of None h k = cc
    of (Some x) h k = let y : x ≡ found = cc in ap test (sym y) ∙ h.1

-- tests that agree find the same
pub longest_same : (p q : List ℕ → Bool) (cs : List ℕ) → ((front : List ℕ) → p front ≡ q front) → longest p cs ≡ longest q cs
longest_same p q [] h = ap (λ b. if b then Some [] else None) (h [])
longest_same p q (c ∷ cs) h =
    let x : longest (λ front. p (c ∷ front)) cs ≡ longest (λ front. q (c ∷ front)) cs =
    longest_same (λ front. p (c ∷ front)) (λ front. q (c ∷ front)) cs (λ front. h (c ∷ front)) in
    let y : p [] ≡ q [] = h [] in
    ap (λ o. or_else (option_map (λ front. c ∷ front) o) (if p [] then Some [] else None)) x
    ∙ ap (λ b. or_else (option_map (λ front. c ∷ front) (longest (λ front. q (c ∷ front)) cs)) (if b then Some [] else None)) y

-- a test that nothing passes finds nothing
pub longest_never : (p : List ℕ → Bool) (cs : List ℕ) → ((front : List ℕ) → p front ≡ false) → longest p cs ≡ None
longest_never p [] h = ap (λ b. if b then Some [] else None) (h [])
longest_never p (c ∷ cs) h =
    ap (λ o. or_else (option_map (λ front. c ∷ front) o) (if p [] then Some [] else None)) (longest_never (λ front. p (c ∷ front)) cs (λ front. h (c ∷ front)))
    ∙ ap (λ b. if b then Some [] else None) (h [])

-- characters that all pass a test
run_step : (p : ℕ → Bool) (c : ℕ) (cs : List ℕ) (b : Bool) → p c ≡ b → longest (list_all p) cs ≡ Some (run p cs)
    → or_else (option_map (λ front. c ∷ front) (longest (λ front. p c && list_all p front) cs)) (Some []) ≡ Some (cond (p c) (c ∷ run p cs) [])
run_step p c cs true e h = rw e (ap (λ o. or_else (option_map (λ front. c ∷ front) o) (Some [])) h)
run_step p c cs false e h = rw e (ap (λ o. or_else (option_map (λ front. c ∷ front) o) (Some [])) (longest_never (λ front. false) cs (λ front. refl)))

pub longest_run : (p : ℕ → Bool) (cs : List ℕ) → longest (list_all p) cs ≡ Some (run p cs)
longest_run p [] = refl
longest_run p (c ∷ cs) = run_step p c cs (p c) refl (longest_run p cs)

-- a test that nothing longer passes
pub longest_short : (p : List ℕ → Bool) (cs : List ℕ) → ((c : ℕ) (front : List ℕ) → p (c ∷ front) ≡ false) → longest p cs ≡ (if p [] then Some [] else None)
longest_short p [] h = refl
longest_short p (c ∷ cs) h =
    ap (λ o. or_else (option_map (λ front. c ∷ front) o) (if p [] then Some [] else None)) (longest_never (λ front. p (c ∷ front)) cs (λ front. h c front))

-- a run and what is past it
past_step : (c : ℕ) (cs front rest : List ℕ) (b : Bool) → cs ≡ front ++ rest → c ∷ cs ≡ cond b (c ∷ front) [] ++ cond b rest (c ∷ cs)
past_step c cs front rest true e = ap (λ z. c ∷ z) e
past_step c cs front rest false e = refl

pub run_past : (p : ℕ → Bool) (cs : List ℕ) → cs ≡ run p cs ++ past p cs
run_past p [] = refl
run_past p (c ∷ cs) = past_step c cs (run p cs) (past p cs) (p c) (run_past p cs)

-- a run passes the test
all_step : (p : ℕ → Bool) (c : ℕ) (front : List ℕ) (b : Bool) → p c ≡ b → list_all p front ≡ true → list_all p (cond b (c ∷ front) []) ≡ true
all_step p c front true e h = rw e h
all_step p c front false e h = refl

pub all_run : (p : ℕ → Bool) (cs : List ℕ) → list_all p (run p cs) ≡ true
all_run p [] = refl
all_run p (c ∷ cs) = all_step p c (run p cs) (p c) refl (all_run p cs)
