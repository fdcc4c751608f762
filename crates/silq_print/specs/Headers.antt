-- The tokens of headers, part by part, and where they are sound: each expression is.
use Rattle.std.specs.Prelude.{ℕ, ◌+◌, Bool, true, false, ◌&&◌, List, [], ◌∷◌, ◌++◌, Option, Some, None}
use Rattle.silq_tree.specs.declared.node.NameId.{NameId}
use Rattle.silq_tree.specs.Syntax as tree
use Rattle.silq_grammar.specs.declared.token.Token.{Token}
use Rattle.silq_grammar.specs.declared.token.Token.TheVariants.{Name, Fixed}
use Rattle.silq_grammar.specs.declared.token.Terminal.{Terminal}
use Rattle.silq_grammar.specs.declared.token.Terminal.TheVariants as t
use Rattle.silq_grammar.specs.Spelled.{size_text, type_text, param_text}
use Rattle.silq_print.specs.Bare.{nowhere}
use Rattle.silq_print.specs.Derived.{size_in, type_in, param_in}
use Rattle.silq_print.specs.Styles.{is_sound, is_sound_scalar}
use Rattle.silq_print.specs.Statements.{is_sound_block}
use Rattle.silq_print.specs.declared.style.Style.TheVariants.{Around}

-- a word or a sign where it is wanted
abbrev pub word_if : Bool → Terminal → List Token
word_if true word = Fixed word nowhere ∷ []
word_if false word = []

abbrev pub size_part : ℕ → Option tree.Expression → List Token
size_part n None = []
size_part n (Some e) = size_text (size_in n e)

abbrev pub is_sound_size : ℕ → tree.Expression → Bool
is_sound_size n (tree.number v at) = true
is_sound_size n (tree.place (tree.whole x) at) = true
is_sound_size n e = is_sound (Around (1 + n)) e

abbrev pub is_sound_part : ℕ → Option tree.Expression → Bool
is_sound_part n None = true
is_sound_part n (Some e) = is_sound_size n e

abbrev pub is_sound_type : ℕ → tree.WrittenType → Bool
is_sound_type n (tree.scalar c ty at) = is_sound_scalar (Around (1 + n)) ty
is_sound_type n (tree.array c ty e at) = is_sound_scalar (Around (1 + n)) ty && is_sound_size n e

-- parameters, each with a comma before it; and with commas between them
abbrev pub more_params : List tree.Parameter → List Token
more_params [] = []
more_params (p ∷ ps) = Fixed t.Comma nowhere ∷ (param_text (param_in p) ++ more_params ps)

abbrev pub params_list : List tree.Parameter → List Token
params_list [] = []
params_list (p ∷ ps) = param_text (param_in p) ++ more_params ps

abbrev pub are_sound_params : List tree.Parameter → Bool
are_sound_params [] = true
are_sound_params (p ∷ ps) = is_sound_type 1 p.ty && are_sound_params ps

-- one static parameter, and more
abbrev pub static_text : NameId → List Token
static_text x = Name x nowhere ∷ Fixed t.Colon nowhere ∷ Fixed t.Bang nowhere ∷ Fixed t.Natural nowhere ∷ []

abbrev pub more_statics : List NameId → List Token
more_statics [] = []
more_statics (x ∷ xs) = Fixed t.Comma nowhere ∷ (static_text x ++ more_statics xs)

abbrev pub statics_list : List NameId → List Token
statics_list [] = []
statics_list (x ∷ xs) = Fixed t.LeftBracket nowhere ∷ (static_text x ++ (more_statics xs ++ (Fixed t.RightBracket nowhere ∷ [])))

-- types, each with its sign before it: a colon before the first
abbrev pub more_types : List tree.WrittenType → List Token
more_types [] = []
more_types (ty ∷ tys) = Fixed t.Times nowhere ∷ (type_text (type_in 0 ty) ++ more_types tys)

abbrev pub types_list : List tree.WrittenType → List Token
types_list [] = []
types_list (ty ∷ tys) = Fixed t.Colon nowhere ∷ (type_text (type_in 0 ty) ++ more_types tys)

abbrev pub are_sound_types : List tree.WrittenType → Bool
are_sound_types [] = true
are_sound_types (ty ∷ tys) = is_sound_type 0 ty && are_sound_types tys

abbrev pub is_sound_function : tree.Function → Bool
is_sound_function f = are_sound_params f.params && (are_sound_types f.results && is_sound_block 0 f.body)

abbrev pub is_sound_program : tree.Program → Bool
is_sound_program [] = true
is_sound_program (f ∷ fs) = is_sound_function f && is_sound_program fs
