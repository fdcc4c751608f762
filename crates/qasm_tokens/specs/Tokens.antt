-- What a text is made of: tokens with their places, and comments that begin a line.
use Rattle.std.specs.Prelude.{ℕ, zero, suc, not, ◌==◌, nat_eq, List, [], ◌∷◌, ◌++◌, if◌then◌else◌, codes, drop, length}
use Rattle.std.specs.List.{starts_with}
use Rattle.silq_lex.specs.Runs.{run}
use Rattle.silq_lex.specs.Characters.{is_blank}
use Rattle.silq_lex.specs.Tokens.{behind_all}
use Rattle.silq_lex.specs.declared.token.Place.{Place}
use Rattle.qasm_tokens.specs.declared.kind.Kind.{Kind}
use Rattle.qasm_tokens.specs.Words.{Piece, piece_at}

-- a token with its characters and the place of the first
pub record Token : Type 0 where
  pub kind : Kind
  pub text : List ℕ
  pub at : Place

pub data Mark : Type 0 where
  token : Token → Mark
  -- a comment that begins in the first column, up to the line's end
  line : List ℕ → Mark

-- what stands at the front of characters
pub data Front : Type 0 where
  blank : ℕ → Front
  comment : List ℕ → Front
  one : Piece → Front

abbrev pub front_of : ℕ → List ℕ → Front
front_of c cs =
    if is_blank c then blank c
    else if starts_with nat_eq (c ∷ cs) (codes "//") then comment (c ∷ run (λ d. not (d == 10)) cs)
    else one (piece_at c cs)

abbrev pub front_text : Front → List ℕ
front_text (blank c) = c ∷ []
front_text (comment text) = text
front_text (one p) = p.text

-- the mark that stands at a place, if any
abbrev pub mark_at : Front → Place → List Mark
mark_at (blank c) at = []
mark_at (comment text) at = if at.col == 1 then line text ∷ [] else []
mark_at (one p) at = token (record { kind = p.kind; text = p.text; at = at }) ∷ []

abbrev pub put_in_front : Front → Place → (List ℕ → List Mark) → List Mark
put_in_front front at others = mark_at front at ++ others (front_text front)

-- the marks of characters of which the first has this place; n is at least their number
unfoldable pub marks_within : ℕ → Place → List ℕ → List Mark
marks_within n at [] = []
marks_within zero at (c ∷ cs) = []
marks_within (suc n) at (c ∷ cs) =
    put_in_front (front_of c cs) at (λ text. marks_within n (behind_all at text) (drop (length text) (c ∷ cs)))

-- the marks of characters of which the first has this place
abbrev pub marks_from : Place → List ℕ → List Mark
marks_from at cs = marks_within (length cs) at cs

abbrev pub start : Place
start = record { start = 0; line = 1; col = 1 }

-- the marks of a text
abbrev pub marks_of : List ℕ → List Mark
marks_of cs = marks_from start cs

-- the place behind a text's last character
abbrev pub end_of : List ℕ → Place
end_of cs = behind_all start cs
