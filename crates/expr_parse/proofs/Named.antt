-- What was read behind a name.
use Rattle.std.proofs.Common.{◌≡◌, ◌≤◌, ◌+◌, List, [], ◌∷◌, ◌++◌, Some, None, length, refl, sym, ◌∙◌, ap, arith, append_assoc}
use Rattle.silq_tree.specs.declared.node.Spot.{Spot}
use Rattle.silq_tree.specs.declared.node.ExprId.{ExprId}
use Rattle.silq_tree.specs.declared.node.NameId.{NameId}
use Rattle.silq_tree.specs.declared.node.Expr.TheVariants as exprs
use Rattle.silq_tree.specs.Syntax as tree
use Rattle.silq_tree.specs.Standing.{expressions_of}
use Rattle.silq_tree.specs.Arena.{Forest, IsArena, expr_at}
use Rattle.silq_grammar.specs.declared.token.Token.{Token}
use Rattle.silq_grammar.specs.declared.token.Token.TheVariants.{Name, Fixed}
use Rattle.silq_grammar.specs.declared.token.Terminal.TheVariants as t
use Rattle.silq_grammar.specs.Tokens.{first_spot}
use Rattle.silq_grammar.specs.Grammar as g
use Rattle.silq_grammar.specs.Spelled.{expr_text, unary_text, place_text, call_text, args_text, exprs_text}
use Rattle.silq_grammar.specs.Trees.{expr_tree, unary_tree, call_tree, args_tree, exprs_tree}
use Rattle.expr_parse.specs.Reads.{ReadsExpr, ReadsPart}
use Rattle.expr_parse.specs.Added.{IsAdded, AreFree}
use Rattle.expr_parse.specs.Groups.{ReadsGroup, group_ids}
use Rattle.expr_parse.specs.Targets.{ReadsTarget, IsMade, target_ids, TargetHasFirst}
use Rattle.expr_parse.specs.declared.list.Group.{Group}
use Rattle.expr_parse.specs.declared.list.Group.TheVariants as groups
use Rattle.expr_parse.specs.declared.target.Target.{Target}
use Rattle.expr_parse.specs.declared.target.Target.TheVariants as targets
use Rattle.expr_parse.proofs.Growing.{grew_nothing, grew_then, expressions_kept, free}
use Rattle.expr_parse.proofs.Firsts.{same_first, place_begins}
use Rattle.expr_parse.proofs.Reading.{made, grew_by, one_more, same_stmts}

-- arguments
pub no_args_read : {f : Forest} {ts : List Token} → ReadsPart args_text args_tree f f ts tree.none [] [] ts
no_args_read {f} {ts} = record { derivation = g.no_args; spelled = refl; stands = refl; grew = grew_nothing f; bounded = record { exprs = omega arith; stmts = omega arith } }

pub args_read : {old new : Forest} {ts rest : List Token} {made_ : tree.Expressions} {ids : List ExprId} → ReadsPart exprs_text exprs_tree old new ts made_ ids [] rest
    → ReadsPart args_text args_tree old new ts made_ ids [] rest
args_read a = record { derivation = g.args a.derivation; spelled = a.spelled; stands = a.stands; grew = a.grew; bounded = a.bounded }

-- places
pub read_whole : {f : Forest} {n : NameId} {s : Spot} {ts : List Token} → ReadsTarget f f (Name n s) ts (targets.Place (record { name = n; first = None; second = None })) ts
read_whole {f} {n} {s} {ts} = (
  record { derivation = g.whole n s; spelled = refl; stands = refl; grew = grew_nothing f; bounded = record { exprs = omega arith; stmts = omega arith } },
  λ e. refl,
  record { exprs = omega arith; stmts = omega arith },
)

pub read_part : {old new : Forest} {n : NameId} {s l r : Spot} {ts rest : List Token} {first : ExprId} → ReadsExpr expr_text expr_tree old new ts first (Fixed t.RightBracket r ∷ rest)
    → ReadsTarget old new (Name n s) (Fixed t.LeftBracket l ∷ ts) (targets.Place (record { name = n; first = Some first; second = None })) rest
read_part {old} {new} {n} {s} {l} {r} {ts} {rest} {first} a = (
  record {
    derivation = g.part n s l a.derivation r;
    spelled = ap (λ us. Name n s ∷ Fixed t.LeftBracket l ∷ us) (a.spelled ∙ sym (append_assoc (expr_text a.derivation) (Fixed t.RightBracket r ∷ []) rest));
    stands = ap (tree.part n) a.stands;
    grew = a.grew;
    bounded = record { exprs = omega (arith, a.bounded.exprs); stmts = omega (arith, a.bounded.stmts) };
  },
  λ e. refl,
  record { exprs = omega (arith, a.bounded.exprs); stmts = omega (arith, a.bounded.stmts) },
)

pub read_part_of_part : {old mid new : Forest} {n : NameId} {s l r m q : Spot} {ts rest more after : List Token} {first second : ExprId}
    → ReadsExpr expr_text expr_tree old mid ts first (Fixed t.RightBracket r ∷ rest) → rest ≡ Fixed t.LeftBracket m ∷ more
    → ReadsExpr expr_text expr_tree mid new more second (Fixed t.RightBracket q ∷ after)
    → ReadsTarget old new (Name n s) (Fixed t.LeftBracket l ∷ ts) (targets.Place (record { name = n; first = Some first; second = Some second })) after
read_part_of_part {old} {mid} {new} {n} {s} {l} {r} {m} {q} {ts} {rest} {more} {after} {first} {second} a is b = (
  record {
    derivation = g.part_of_part n s l a.derivation r m b.derivation q;
    spelled = ap (λ us. Name n s ∷ Fixed t.LeftBracket l ∷ us)
        (a.spelled ∙ ap (λ us. expr_text a.derivation ++ (Fixed t.RightBracket r ∷ us))
        (is ∙ ap (λ us. Fixed t.LeftBracket m ∷ us) (b.spelled ∙ sym (append_assoc (expr_text b.derivation) (Fixed t.RightBracket q ∷ []) after)))
        ∙ sym (append_assoc (expr_text a.derivation) (Fixed t.RightBracket r ∷ Fixed t.LeftBracket m ∷ (expr_text b.derivation ++ (Fixed t.RightBracket q ∷ []))) after));
    stands = (let h = b.grew.trees.exprs first a.grew.exprs_there.0 ∙ a.stands in let k = b.stands in cc);
    grew = grew_then a.grew b.grew;
    bounded = record { exprs = omega (arith, a.bounded.exprs, b.bounded.exprs, ap length is); stmts = omega (arith, a.bounded.stmts, b.bounded.stmts, ap length is) };
  },
  λ e. cc,
  record { exprs = omega (arith, a.bounded.exprs, b.bounded.exprs, ap length is); stmts = omega (arith, a.bounded.stmts, b.bounded.stmts, ap length is) },
)

-- calls
pub read_plain : {old mid new : Forest} {n : NameId} {s l r : Spot} {ts rest : List Token} {args : List ExprId} {id : ExprId}
    → ReadsPart args_text args_tree old mid ts (expressions_of (expr_at mid) args) args [] (Fixed t.RightParen r ∷ rest) → IsAdded mid new (exprs.Call n [] args s) id
    → ReadsExpr call_text call_tree old new (Name n s ∷ Fixed t.LeftParen l ∷ ts) id rest
read_plain {old} {mid} {new} {n} {s} {l} {r} {ts} {rest} {args} {id} a added = record {
  derivation = g.plain n s l a.derivation r;
  spelled = ap (λ us. Name n s ∷ Fixed t.LeftParen l ∷ us) (a.spelled ∙ sym (append_assoc (args_text a.derivation) (Fixed t.RightParen r ∷ []) rest));
  stands = made _ id added ∙ (let h = a.stands in cc);
  grew = grew_by _ id a.grew added;
  bounded = record { exprs = omega (arith, a.bounded.exprs, one_more _ id added); stmts = omega (arith, a.bounded.stmts, same_stmts _ id added) };
}

pub read_static_call : {old mid late new : Forest} {n : NameId} {s l r m q : Spot} {ts rest more after : List Token} {statics args : List ExprId} {id : ExprId}
    → ReadsPart exprs_text exprs_tree old mid ts (expressions_of (expr_at mid) statics) statics [] (Fixed t.RightBracket r ∷ rest) → rest ≡ Fixed t.LeftParen m ∷ more
    → ReadsPart args_text args_tree mid late more (expressions_of (expr_at late) args) args [] (Fixed t.RightParen q ∷ after) → IsAdded late new (exprs.Call n statics args s) id
    → ReadsExpr call_text call_tree old new (Name n s ∷ Fixed t.LeftBracket l ∷ ts) id after
read_static_call {old} {mid} {late} {new} {n} {s} {l} {r} {m} {q} {ts} {rest} {more} {after} {statics} {args} {id} a is b added = record {
  derivation = g.with_statics n s l a.derivation r m b.derivation q;
  spelled = ap (λ us. Name n s ∷ Fixed t.LeftBracket l ∷ us)
      (a.spelled ∙ ap (λ us. exprs_text a.derivation ++ (Fixed t.RightBracket r ∷ us))
      (is ∙ ap (λ us. Fixed t.LeftParen m ∷ us) (b.spelled ∙ sym (append_assoc (args_text b.derivation) (Fixed t.RightParen q ∷ []) after)))
      ∙ sym (append_assoc (exprs_text a.derivation) (Fixed t.RightBracket r ∷ Fixed t.LeftParen m ∷ (args_text b.derivation ++ (Fixed t.RightParen q ∷ []))) after));
  stands = made _ id added ∙ (let h = expressions_kept statics b.grew.trees a.grew.exprs_there ∙ a.stands in let k = b.stands in cc);
  grew = grew_by _ id (grew_then a.grew b.grew) added;
  bounded = record {
    exprs = omega (arith, a.bounded.exprs, b.bounded.exprs, one_more _ id added, ap length is);
    stmts = omega (arith, a.bounded.stmts, b.bounded.stmts, same_stmts _ id added, ap length is);
  };
}

-- as an operand
pub read_target : {old new : Forest} {n : NameId} {s : Spot} {ts rest : List Token} {id : ExprId} (mid : Forest) (target : Target) → ReadsTarget old mid (Name n s) ts target rest
    → IsMade mid new target s id → ReadsExpr unary_text unary_tree old new (Name n s ∷ ts) id rest
read_target {old} {new} {n} {s} {ts} {rest} {id} mid (targets.Place p) a added = record {
  derivation = g.place a.0.derivation;
  spelled = a.0.spelled;
  stands =
      let at : s ≡ first_spot (place_text a.0.derivation) = ap first_spot a.0.spelled ∙ same_first (place_text a.0.derivation) rest (place_begins a.0.derivation) in
      made _ id added ∙ (let h = a.0.stands in cc);
  grew = grew_by _ id a.0.grew added;
  bounded = record { exprs = omega (arith, a.2.exprs, one_more _ id added); stmts = omega (arith, a.2.stmts, same_stmts _ id added) };
}
read_target {old} {new} {n} {s} {ts} {rest} {id} mid (targets.Call e) a added = rw (added.0, added.1) (record {
  derivation = g.called a.derivation;
  spelled = a.spelled;
  stands = a.stands;
  grew = a.grew;
  bounded = a.bounded;
})

pub target_free : (old mid : Forest) (name : Token) (ts rest : List Token) (target : Target) → IsArena mid → ReadsTarget old mid name ts target rest → AreFree mid (target_ids target)
target_free old mid name ts rest (targets.Place p) a r = free a r.0.grew
target_free old mid name ts rest (targets.Call id) a r = free a r.grew

pub target_first : (old mid : Forest) (name : Token) (ts rest : List Token) (target : Target) → ReadsTarget old mid name ts target rest → TargetHasFirst target
target_first old mid name ts rest (targets.Place p) r = r.1
target_first old mid name ts rest (targets.Call id) r = tt

pub target_room : (old mid : Forest) (name : Token) (ts rest : List Token) (target : Target) → ReadsTarget old mid name ts target rest
    → length mid.exprs + length rest ≤ length old.exprs + length ts + 1
target_room old mid name ts rest (targets.Place p) r = omega (arith, r.2.exprs)
target_room old mid name ts rest (targets.Call id) r = omega (arith, r.bounded.exprs)

pub group_free : (old mid : Forest) (ts rest : List Token) (group : Group) → IsArena mid → ReadsGroup old mid ts group rest → AreFree mid (group_ids group)
group_free old mid ts rest (groups.One id) a r = free a r.grew
group_free old mid ts rest (groups.Several ids) a r = free a r.0.grew

pub group_room : (old mid : Forest) (ts rest : List Token) (group : Group) → ReadsGroup old mid ts group rest → length mid.exprs + length rest ≤ length old.exprs + length ts
group_room old mid ts rest (groups.One id) r = r.bounded.exprs
group_room old mid ts rest (groups.Several ids) r = r.0.bounded.exprs
