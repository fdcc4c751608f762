-- The grammar as data: a type for each rule, and the kinds of the tokens that it spells. The forms that are refused by name are
-- forms of the grammar; what stands behind one is not looked at.
use Rattle.std.specs.Prelude.{◌≡◌, ◌↔◌, true, List, [], ◌∷◌, ◌++◌, IsSome}
use Rattle.gate_core.specs.declared.gate.OneKind.{OneKind}
use Rattle.grammar_core.specs.Table.{accepts, expected}
use Rattle.qasm_tokens.specs.declared.kind.Kind.{Kind}
use Rattle.qasm_tokens.specs.declared.kind.Kind.TheVariants as k
use Rattle.qasm_tokens.specs.Table.{is_name, table, a_text}

-- a register's name: any word that starts with a lower-case letter
pub record Name : Type 0 where
  pub kind : Kind
  pub lower : is_name kind ≡ true

-- any = bit | NAME, with bit = NAME "[" NUMBER "]"
pub data Any : Type 0 where
  bit : Name → Any
  register : Name → Any

-- any { "," any }
pub data Anys : Type 0 where
  last : Any → Anys
  and_more : Any → Anys → Anys

-- plain = GATE bit { "," bit } ";", where a register without an index is a form too
pub data Plain : Type 0 where
  one : OneKind → Any → Plain
  cx cz : Any → Any → Plain
  ccx : Any → Any → Any → Plain

-- an item
pub data Item : Type 0 where
  -- "include" "\"qelib1.inc\"" ";"
  include : Item
  -- ( "qreg" | "creg" ) NAME "[" NUMBER "]" ";"
  qreg creg : Name → Item
  plain : Plain → Item
  -- "measure" bit "->" bit ";"
  measure : Any → Any → Item
  -- "if" "(" NAME "==" NUMBER ")" plain
  condition : Name → Plain → Item
  -- "barrier" any { "," any } ";"
  barrier : Anys → Item

-- a form that is refused by name, as far as it is read
pub data Refused : Type 0 where
  -- `gate` and `opaque`; `reset`; another word in a gate's place; another file
  definition reset lower upper other_file : Refused
  -- `measure`, `reset`, `barrier` and another word under an `if`
  if_measure if_reset if_barrier if_lower if_upper : Name → Refused

-- { item }
pub data Items : Type 0 where
  none : Items
  more : Item → Items → Items
  refused : Refused → List Kind → Items

abbrev pub any_kinds : Any → List Kind
any_kinds (bit n) = n.kind ∷ k.LeftBracket ∷ k.Number ∷ k.RightBracket ∷ []
any_kinds (register n) = n.kind ∷ []

abbrev pub anys_kinds : Anys → List Kind
anys_kinds (last a) = any_kinds a
anys_kinds (and_more a as_) = any_kinds a ++ (k.Comma ∷ anys_kinds as_)

abbrev pub plain_kinds : Plain → List Kind
plain_kinds (one o a) = k.One o ∷ (any_kinds a ++ (k.Semicolon ∷ []))
plain_kinds (cx a b) = k.Cx ∷ (any_kinds a ++ (k.Comma ∷ (any_kinds b ++ (k.Semicolon ∷ []))))
plain_kinds (cz a b) = k.Cz ∷ (any_kinds a ++ (k.Comma ∷ (any_kinds b ++ (k.Semicolon ∷ []))))
plain_kinds (ccx a b c) = k.Ccx ∷ (any_kinds a ++ (k.Comma ∷ (any_kinds b ++ (k.Comma ∷ (any_kinds c ++ (k.Semicolon ∷ []))))))

-- "if" "(" NAME "==" NUMBER ")"
abbrev pub if_kinds : Name → List Kind → List Kind
if_kinds n held = k.If ∷ k.LeftParen ∷ n.kind ∷ k.Equal ∷ k.Number ∷ k.RightParen ∷ held

abbrev pub item_kinds : Item → List Kind
item_kinds include = k.Include ∷ k.Library ∷ k.Semicolon ∷ []
item_kinds (qreg n) = k.Qreg ∷ n.kind ∷ k.LeftBracket ∷ k.Number ∷ k.RightBracket ∷ k.Semicolon ∷ []
item_kinds (creg n) = k.Creg ∷ n.kind ∷ k.LeftBracket ∷ k.Number ∷ k.RightBracket ∷ k.Semicolon ∷ []
item_kinds (plain p) = plain_kinds p
item_kinds (measure a b) = k.Measure ∷ (any_kinds a ++ (k.Arrow ∷ (any_kinds b ++ (k.Semicolon ∷ []))))
item_kinds (condition n p) = if_kinds n (plain_kinds p)
item_kinds (barrier as_) = k.Barrier ∷ (anys_kinds as_ ++ (k.Semicolon ∷ []))

abbrev pub refused_kinds : Refused → List Kind
refused_kinds definition = k.Definition ∷ []
refused_kinds reset = k.Reset ∷ []
refused_kinds lower = k.Lower ∷ []
refused_kinds upper = k.Upper ∷ []
refused_kinds other_file = k.Include ∷ k.OtherFile ∷ []
refused_kinds (if_measure n) = if_kinds n (k.Measure ∷ [])
refused_kinds (if_reset n) = if_kinds n (k.Reset ∷ [])
refused_kinds (if_barrier n) = if_kinds n (k.Barrier ∷ [])
refused_kinds (if_lower n) = if_kinds n (k.Lower ∷ [])
refused_kinds (if_upper n) = if_kinds n (k.Upper ∷ [])

abbrev pub items_kinds : Items → List Kind
items_kinds none = []
items_kinds (more i is) = item_kinds i ++ items_kinds is
items_kinds (refused r rest) = refused_kinds r ++ rest

-- text = "OPENQASM" "2.0" ";" { item }
abbrev pub text_kinds : Items → List Kind
text_kinds is = k.OpenQasm ∷ k.Version ∷ k.Semicolon ∷ items_kinds is

-- the tokens are a text of the grammar; they begin one
abbrev pub IsText : List Kind → Type 0
IsText ks = (is : Items) × (text_kinds is ≡ ks)

abbrev pub BeginsText : List Kind → Type 0
BeginsText ks = (rest : List Kind) × IsText (ks ++ rest)

-- what the table accepts are the texts of the grammar, and what it goes on with are their beginnings
pub record TableFollowsGrammar : Type 0 where
  pub texts : (ks : List Kind) → (accepts table a_text ks ≡ true) ↔ IsText ks
  pub begins : (ks : List Kind) → IsSome (expected table a_text ks) ↔ BeginsText ks
