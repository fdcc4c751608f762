-- Kinds of characters.
use Rattle.std.specs.Prelude.{ℕ, Bool, not, nat_le, ◌&&◌, ◌||◌, ◌==◌}
use Rattle.unicode_ident.specs.Ident.{is_xid_start, is_xid_continue}

-- space, tab, carriage return and line feed
abbrev pub is_blank : ℕ → Bool
is_blank c = c == 32 || c == 9 || c == 13 || c == 10

-- 0 to 9
abbrev pub is_digit : ℕ → Bool
is_digit c = nat_le 48 c && nat_le c 57

-- a name starts with _ or a start of Unicode's identifiers
abbrev pub starts_name : ℕ → Bool
starts_name c = c == 95 || is_xid_start c

-- it goes on with what continues these, the sign U+00B7 excepted
abbrev pub continues_name : ℕ → Bool
continues_name c = is_xid_continue c && not (c == 183)
