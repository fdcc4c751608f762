-- The names of built-in functions.
use Rattle.std.specs.Prelude.{ℕ, suc, List, [], ◌∷◌, Option, Some, None, codes, if◌then◌else◌}
use Rattle.std.specs.Str.{bytes_eq}
use Rattle.silq_tree.specs.declared.node.NameId.{NameId}
use Rattle.silq_types.specs.declared.built_in.BuiltIn.{BuiltIn}
use Rattle.silq_types.specs.declared.built_in.BuiltIn.TheVariants.{HGate, XGate, YGate, ZGate, Dup, Measure, Vector, RotateX, RotateY, RotateZ}

-- each with its name
abbrev pub built_ins : List (List ℕ × BuiltIn)
built_ins =
    (codes "H", HGate) ∷ (codes "X", XGate) ∷ (codes "Y", YGate) ∷ (codes "Z", ZGate) ∷ (codes "dup", Dup) ∷ (codes "measure", Measure)
    ∷ (codes "vector", Vector) ∷ (codes "rotX", RotateX) ∷ (codes "rotY", RotateY) ∷ (codes "rotZ", RotateZ) ∷ []

abbrev pub named : List (List ℕ × BuiltIn) → List ℕ → Option BuiltIn
named [] text = None
named (b ∷ bs) text = if bytes_eq b.0 text then Some b.1 else named bs text

abbrev pub with_word : ℕ → Option BuiltIn → List (NameId × BuiltIn) → List (NameId × BuiltIn)
with_word n None words = words
with_word n (Some b) words = (record { number = n }, b) ∷ words

-- those of these names, of which the first has this number
abbrev pub words_from : ℕ → List (List ℕ) → List (NameId × BuiltIn)
words_from n [] = []
words_from n (t ∷ ts) = with_word n (named built_ins t) (words_from (suc n) ts)

abbrev pub words_of : List (List ℕ) → List (NameId × BuiltIn)
words_of names = words_from 0 names
