-- The qubit that a word names.
use Rattle.std.proofs.Common.{◌≡◌, ℕ, ◌<◌, ◌+◌, ◌^◌, Bool, true, false, not, List, [], ◌∷◌, ◌++◌, length, drop, chars, nat_lt, refl, sym, ◌∙◌, ap, arith}
use Rattle.std.specs.Prelude.{Option, Some, None, ◌==◌, codes, bytes_eq, option_and_then, if◌then◌else◌}
use Rattle.std.specs.Str.{IsUtf8, encode_utf8_all}
use Rattle.std.proofs.lemmas.Str.{encodes-chars, chars-nil}
use Rattle.std.proofs.lemmas.Bool.Decides.{nat_tests}
use Rattle.silq_lex.specs.Runs.{run}
use Rattle.qasm_read.specs.declared.registers.Bits.{Bits}
use Rattle.qasm_read.specs.Registers.{Register, bits_of, bit_in, bit_of}
use Rattle.qasm_read.specs.Lines.{index_in, qubit_named, written_number}
use Rattle.qasm_read.specs.Written.{Cuts, in_64_bits}

drop_all : (cs : List ℕ) → drop (length cs) cs ≡ []
drop_all [] = refl
drop_all (c ∷ cs) = drop_all cs

drop_front : (front back : List ℕ) → drop (length front) (front ++ back) ≡ back
drop_front [] back = refl
drop_front (c ∷ front) back = drop_front front back

pub no_open : (registers : List Register) (cs : List ℕ) → run (λ d. not (d == 91)) cs ≡ cs → None ≡ qubit_named registers cs
no_open registers cs e =
    sym (ap (λ (name : List ℕ). option_and_then (λ i. bit_of registers name i) (index_in (drop (length name) cs))) e
    ∙ ap (λ (z : List ℕ). option_and_then (λ i. bit_of registers cs i) (index_in z)) (drop_all cs))

opened : (registers : List Register) (cs name rest : List ℕ) → Cuts 91 cs name rest → qubit_named registers cs ≡ option_and_then (λ i. bit_of registers name i) (index_in (91 ∷ rest))
opened registers cs name rest k =
    ap (λ (n : List ℕ). option_and_then (λ i. bit_of registers n i) (index_in (drop (length n) cs))) k.first
    ∙ ap (λ (z : List ℕ). option_and_then (λ i. bit_of registers name i) (index_in z))
    (ap (drop (length name)) k.whole ∙ drop_front name (91 ∷ rest))

pub no_close : (registers : List Register) (cs name rest : List ℕ) → Cuts 91 cs name rest → run (λ d. not (d == 93)) rest ≡ rest → None ≡ qubit_named registers cs
no_close registers cs name rest k e =
    sym (opened registers cs name rest k
    ∙ ap (λ (index : Option ℕ). option_and_then (λ i. bit_of registers name i) index)
    (ap (λ (ds : List ℕ). if bytes_eq (drop (length ds) rest) (codes "]") then written_number ds else None) e
    ∙ ap (λ (z : List ℕ). if bytes_eq z (codes "]") then written_number rest else None) (drop_all rest)))

closed : (registers : List Register) (cs name rest digits behind : List ℕ) → Cuts 91 cs name rest → Cuts 93 rest digits behind
    → qubit_named registers cs ≡ option_and_then (λ i. bit_of registers name i) (if bytes_eq behind [] then written_number digits else None)
closed registers cs name rest digits behind k m =
    opened registers cs name rest k
    ∙ ap (λ (index : Option ℕ). option_and_then (λ i. bit_of registers name i) index)
    (ap (λ (ds : List ℕ). if bytes_eq (drop (length ds) rest) (codes "]") then written_number ds else None) m.first
    ∙ ap (λ (z : List ℕ). if bytes_eq z (codes "]") then written_number digits else None)
    (ap (drop (length digits)) m.whole ∙ drop_front digits (93 ∷ behind)))

nothing : (o : Option ℕ) (f : ℕ → Option ℕ) → ((i : ℕ) → f i ≡ None) → option_and_then f o ≡ None
nothing None f h = refl
nothing (Some i) f h = h i

pub no_register : (registers : List Register) (cs name rest digits behind : List ℕ) → Cuts 91 cs name rest → Cuts 93 rest digits behind
    → None ≡ bits_of registers name → None ≡ qubit_named registers cs
no_register registers cs name rest digits behind k m e =
    sym (closed registers cs name rest digits behind k m
    ∙ nothing _ (λ i. bit_of registers name i) (λ i. ap (λ (o : Option Bits). option_and_then (λ b. bit_in b i) o) (sym e)))

too_great : (registers : List Register) (name : List ℕ) (b : Bits) (o : Option ℕ) → Some b ≡ bits_of registers name → b.size < 2 ^ 32 → None ≡ in_64_bits o
    → option_and_then (λ i. bit_of registers name i) o ≡ None
too_great registers name b None e l h = refl
too_great registers name b (Some n) e l h = ap (λ (p : Option Bits). option_and_then (λ x. bit_in x n) p) (sym e) ∙ by (nat_lt n (2 ^ 64)) refl h
  where
    far : nat_lt n (2 ^ 64) ≡ false → nat_lt n b.size ≡ false
    far f = grind (arith, nat_tests)

    by : (t : Bool) → nat_lt n (2 ^ 64) ≡ t → None ≡ (if t then Some n else None) → bit_in b n ≡ None
    by true f g = absurd (cc)
    by false f g = ap (λ (u : Bool). if u then Some (b.first + n) else None) (far f)

pub no_index : (registers : List Register) (cs name rest digits behind : List ℕ) (b : Bits) → Cuts 91 cs name rest → Cuts 93 rest digits behind
    → Some b ≡ bits_of registers name → b.size < 2 ^ 32 → None ≡ in_64_bits (written_number digits) → None ≡ qubit_named registers cs
no_index registers cs name rest digits behind b k m e l h =
    sym (closed registers cs name rest digits behind k m ∙ by (bytes_eq behind []))
  where
    by : (t : Bool) → option_and_then (λ i. bit_of registers name i) (if t then written_number digits else None) ≡ None
    by true = too_great registers name b (written_number digits) e l h
    by false = refl

index_small : (o : Option ℕ) (n : ℕ) → Some n ≡ in_64_bits o → o ≡ Some n
index_small None n h = absurd (cc)
index_small (Some m) n h = by (nat_lt m (2 ^ 64)) h
  where
    by : (t : Bool) → Some n ≡ (if t then Some m else None) → Some m ≡ Some n
    by true g = sym g
    by false g = absurd (cc)

pub at_index : (registers : List Register) (cs name rest digits behind : List ℕ) (n : ℕ) → Cuts 91 cs name rest → Cuts 93 rest digits behind
    → Some n ≡ in_64_bits (written_number digits) → behind ≡ [] → bit_of registers name n ≡ qubit_named registers cs
at_index registers cs name rest digits behind n k m h e =
    sym (closed registers cs name rest digits behind k m
    ∙ (ap (λ (z : List ℕ). option_and_then (λ i. bit_of registers name i) (if bytes_eq z [] then written_number digits else None)) e
    ∙ ap (λ (o : Option ℕ). option_and_then (λ i. bit_of registers name i) o) (index_small (written_number digits) n h)))

some_char : (bs : List ℕ) → IsUtf8 bs → 0 < length bs → bytes_eq (chars bs) [] ≡ false
some_char bs u l = by (chars bs) refl
  where
    by : (cs : List ℕ) → chars bs ≡ cs → bytes_eq cs [] ≡ false
    by [] e = let f : [] ≡ bs = ap encode_utf8_all (sym e) ∙ encodes-chars bs u in absurd (omega (arith, ap length f, l))
    by (c ∷ cs) e = refl

pub more_behind : (registers : List Register) (cs name rest digits bs : List ℕ) → Cuts 91 cs name rest → Cuts 93 rest digits (chars bs)
    → IsUtf8 bs → 0 < length bs → None ≡ qubit_named registers cs
more_behind registers cs name rest digits bs k m u l =
    sym (closed registers cs name rest digits (chars bs) k m
    ∙ ap (λ (t : Bool). option_and_then (λ i. bit_of registers name i) (if t then written_number digits else None)) (some_char bs u l))

pub empty_text : (bs : List ℕ) (b : Bool) → b ≡ (length bs == 0) → b ≡ true → chars bs ≡ []
empty_text [] b e t = chars-nil
empty_text (x ∷ bs) b e t = let k : (length (x ∷ bs) == 0) ≡ true = sym e ∙ t in absurd (grind (arith, nat_tests))

pub some_text : (bs : List ℕ) (b : Bool) → b ≡ (length bs == 0) → b ≡ false → 0 < length bs
some_text bs b e t = let k : (length bs == 0) ≡ false = sym e ∙ t in grind (arith, nat_tests)
