-- What can be read is accepted by the table.
use Rattle.std.proofs.Common.{◌≡◌, Bool, true, false, ◌&&◌, List, [], ◌∷◌, ◌++◌, map, Option, Some, None, cond, refl, sym, ◌∙◌, ap}
use Rattle.grammar_core.specs.Table.{advance, expected, may_stop, accepts, first_of, then_maybe, some_passes}
use Rattle.silq_grammar.specs.Tokens.{Token, kind}
use Rattle.silq_grammar.specs.Grammar.{Program}
use Rattle.silq_grammar.specs.Spelled.{program_text}
use Rattle.silq_grammar.specs.Machine.{Symbol, Functions, table, begin, can_be_empty}
use Rattle.silq_grammar.proofs.Pieces.{Piece, Pieces, Built, Empty, build, empty, at_begin, at_empty, step, finish, read}
use Rattle.silq_grammar.proofs.Taken.{program_read}

finish_stops : (xs : List Symbol) (f : Pieces xs → Program) (v : Program) → finish xs f ≡ Some v → may_stop table xs ≡ true
finish_stops [] f v e = refl
finish_stops (x ∷ xs) f v e = at_flag (can_be_empty x) (empty x) (λ p. finish_stops xs (λ r. f (p, r)) v) e
  where
    at_flag : (b : Bool) (p : Empty b x) → ((q : Piece x) → finish xs (λ r. f (q, r)) ≡ Some v → may_stop table xs ≡ true)
        → at_empty x b p (λ q. finish xs (λ r. f (q, r))) ≡ Some v → (b && may_stop table xs) ≡ true
    at_flag true p ih h = ih p h
    at_flag false p ih h = cc

-- a reading goes on where the table goes on
Goes : Option (List Symbol) → ((ys : List Symbol) → (Pieces ys → Program) → Option Program) → Program → Type 0
Goes o go v = (ys : List Symbol) × (g : Pieces ys → Program) × (o ≡ Some ys) × (go ys g ≡ Some v)

step_goes : (xs : List Symbol) (w : Token) (f : Pieces xs → Program) (go : (ys : List Symbol) → (Pieces ys → Program) → Option Program) (v : Program)
    → step xs w f go ≡ Some v → Goes (advance table xs (kind w)) go v
unfolding Goes
step_goes [] w f go v e = cc
step_goes (x ∷ xs) w f go v e =
    at_first (begin x (kind w)) (build x w) (λ h. at_flag (can_be_empty x) (empty x) (λ p. step_goes xs w (λ r. f (p, r)) go v) h) e
  where
    at_flag : (b : Bool) (p : Empty b x) → ((q : Piece x) → step xs w (λ r. f (q, r)) go ≡ Some v → Goes (advance table xs (kind w)) go v)
        → at_empty x b p (λ q. step xs w (λ r. f (q, r)) go) ≡ Some v → Goes (cond b (advance table xs (kind w)) None) go v
    at_flag true p ih h = ih p h
    at_flag false p ih h = cc

    at_first : (o : Option (List Symbol)) (b : Built o x)
        → (at_empty x (can_be_empty x) (empty x) (λ q. step xs w (λ r. f (q, r)) go) ≡ Some v → Goes (cond (can_be_empty x) (advance table xs (kind w)) None) go v)
        → at_begin x xs o b f go (at_empty x (can_be_empty x) (empty x) (λ q. step xs w (λ r. f (q, r)) go)) ≡ Some v
        → Goes (first_of o xs (cond (can_be_empty x) (advance table xs (kind w)) None)) go v
    at_first None b ih h = ih h
    at_first (Some ys) b ih h = (ys ++ xs, _, refl, h)

read_accepted : (xs : List Symbol) (ts : List Token) (f : Pieces xs → Program) (v : Program) → read xs ts f ≡ Some v → accepts table xs (map kind ts) ≡ true
unfolding Goes
read_accepted xs [] f v e = finish_stops xs f v e
read_accepted xs (w ∷ ts) f v e = onward (step_goes xs w f (λ ys g. read ys ts g) v e) (λ ys g. read_accepted ys ts g v)
  where
    onward : Goes (advance table xs (kind w)) (λ ys g. read ys ts g) v → ((ys : List Symbol) (g : Pieces ys → Program) → read ys ts g ≡ Some v → accepts table ys (map kind ts) ≡ true)
        → accepts table xs (map kind (w ∷ ts)) ≡ true
    onward (ys, g, a, h) ih = ap (λ o. some_passes (may_stop table) (then_maybe o (λ zs. expected table zs (map kind ts)))) a ∙ ih ys g h

-- the tokens of a program are accepted
pub program_accepted : (p : Program) → accepts table (Functions ∷ []) (map kind (program_text p)) ≡ true
program_accepted p = read_accepted (Functions ∷ []) (program_text p) (λ ps. ps.0) p (program_read p)

-- a text has one tree
pub one_tree : (p q : Program) → program_text p ≡ program_text q → p ≡ q
one_tree p q e = let h : Some p ≡ Some q = sym (program_read p) ∙ ap (λ ts. read (Functions ∷ []) ts (λ ps. ps.0)) e ∙ program_read q in cc
