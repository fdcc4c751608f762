-- What the program keeps beside lists, some elements later.
use Rattle.std.proofs.Common.{◌↔◌, ℕ, List, ◌++◌, Contains, inl, inr}
use Rattle.std.proofs.lemmas.List.Elements.{Contains-append_left, Contains-append_right, Contains-append_cases}
use Rattle.gate_core.specs.Circuit.{AddsAll}

-- a set that has what a list has, with more in both
pub index-append : (xs more old new : List ℕ) → ((b : ℕ) → Contains old b ↔ Contains xs b) → AddsAll old new more → (b : ℕ) → Contains new b ↔ Contains (xs ++ more) b
index-append xs more old new k a b = (onward, backward)
  where
    onward : Contains new b → Contains (xs ++ more) b
    onward c =
        elim ((a.each b).0 c) [
          | inl d ↦ Contains-append_left xs more b ((k b).0 d)
          | inr d ↦ Contains-append_right xs more b d
        ]

    backward : Contains (xs ++ more) b → Contains new b
    backward c =
        elim (Contains-append_cases xs more b c) [
          | inl d ↦ (a.each b).1 (inl ((k b).1 d))
          | inr d ↦ (a.each b).1 (inr d)
        ]
