-- Where a number of a type stands in the order of the values of its type.
use Rattle.std.specs.Prelude.{ℕ, ◌+◌, ◌-◌, ◌^◌, nat_lt, if◌then◌else◌}
use Rattle.silq_types.specs.declared.types.Scalar.{Scalar}
use Rattle.silq_types.specs.declared.types.Scalar.TheVariants as scalars

-- a number of `int` that is not below 0 stands above all that are
abbrev pub order_place : Scalar → ℕ → ℕ
order_place scalars.Bit a = a
order_place (scalars.UInt n) a = a
order_place (scalars.Int n) a = if nat_lt a (2 ^ (n - 1)) then a + 2 ^ n else a
