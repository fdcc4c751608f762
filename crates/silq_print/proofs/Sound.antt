-- The tree of a program within the limits is sound.
use Rattle.std.proofs.Common.{◌≡◌, ℕ, ◌+◌, ◌<◌, ◌≤◌, zero, suc, get_or, length, Some, Bool, true, false, ◌&&◌, nat_le, nat_lt, cond, List, [], ◌∷◌, ◌++◌, Option, None, refl, sym, ◌∙◌, ap, arith}
use Rattle.std.proofs.lemmas.Bool.Decides.{nat_tests}
use Rattle.silq_tree.specs.declared.node.NameId.{NameId}
use Rattle.silq_tree.specs.declared.node.Spot.{Spot}
use Rattle.silq_tree.specs.Syntax as tree
use Rattle.std.specs.Prelude.{if◌then◌else◌}
use Rattle.std.specs.Str.{chars}
use Rattle.silq_lex.specs.Tokens.{tokens_of, Ending}
use Rattle.silq_tree.specs.declared.node.FunId.{FunId}
use Rattle.silq_tree.specs.Arena.{Forest, program_at}
use Rattle.silq_grammar.specs.declared.token.Token.{Token}
use Rattle.silq_grammar.specs.Spelled.{program_text}
use Rattle.silq_grammar.specs.Outcome.{Outcome, Fine, Syntax, Deep, program_outcome}
use Rattle.silq_grammar.specs.Grammar as g
use Rattle.silq_grammar.proofs.Nests.{program_deep}
use Rattle.silq_parse.specs.Lexed.{all_tokens}
use Rattle.silq_parse.specs.Functions.{AreInOrder}
use Rattle.silq_parse.specs.Faults.{fault_by, fault_of_tokens}
use Rattle.silq_parse.specs.declared.fault.ParseFault.{ParseFault}
use Rattle.silq_print.specs.Laws.{IsOfText}
use Rattle.silq_print.proofs.Even.{Even, one, program_even}
use Rattle.silq_grammar.specs.Trees.{expr_tree, and_tree, cmp_tree, sum_tree, prod_tree, unary_tree, scalar_tree, place_tree, call_tree, args_tree, exprs_tree, names_tree, stmt_tree, choice_tree, block_tree, stmts_tree, sized_tree, type_tree, result_tree, param_tree, params_tree, param_part_tree, result_part_tree, function_tree, program_tree}
use Rattle.silq_grammar.specs.Nest.{prod_count, sum_count, and_count, or_count, expr_nests, scalar_nests, place_nests, call_nests, args_nests, exprs_nests, names_nests, stmt_nests, choice_nests, block_nests, stmts_nests, size_nests, type_nests, result_nests, param_nests, params_nests, static_part_nests, param_part_nests, mark_nests, result_part_nests, function_nests, program_nests, first_deep}
use Rattle.silq_print.specs.Ways.{greater, depth, least, ways}
use Rattle.silq_print.specs.Styles.{fits, sound, sound_scalar, sound_place, all_sound, is_sound, are_sound, is_sound_scalar, is_sound_place}
use Rattle.silq_print.specs.Statements.{are_two, is_choice, is_sound_call, is_sound_stmt, is_sound_block, are_sound_stmts}
use Rattle.silq_print.specs.Headers.{is_sound_size, is_sound_type, are_sound_params, are_sound_types, is_sound_function, is_sound_program}
use Rattle.silq_print.specs.declared.style.Style.TheVariants.{Around}
use Rattle.silq_print.proofs.Tops.{at_most_left, at_most_right, left_below, right_below, expr_is, expr_top, and_top, cmp_top, sum_top, prod_top, unary_top, scalar_top, place_top, call_top, args_top, exprs_top}
use Rattle.silq_print.proofs.Chains.{depth_below}
use Rattle.silq_print.proofs.Lowest.{expr_low}
use Rattle.silq_print.proofs.DerivedNests.{Within}

both_true : (a b : Bool) → a ≡ true → b ≡ true → (a && b) ≡ true
both_true true b e f = f
both_true false b e f = cc

le_true : (a b : ℕ) → a ≤ b → nat_le a b ≡ true
le_true a b h = grind (arith, nat_tests)

fits_is : (tight : Bool) (d : g.Expr) → expr_top d ≤ 64 → fits tight (expr_tree d) ≡ true
fits_is false d h = refl
fits_is true d h =
    let a = expr_low d in
    let b = depth_below (least (ways true (expr_tree d))) in
    le_true (depth (least (ways true (expr_tree d)))) 64 (omega arith)

three_true : (a b c : Bool) → a ≡ true → b ≡ true → c ≡ true → (a && (b && c)) ≡ true
three_true a b c e f g = both_true a (b && c) e (both_true b c f g)

-- the left and the right operand are within what the sign is
behind_sign : (a k b : ℕ) → greater a (k + 1 + b) ≤ 64 → b ≤ 64
behind_sign a k b h = let r = right_below a (k + 1 + b) 64 h in omega arith

mutual
  expr_sound : (tight : Bool) (d : g.Expr) → expr_top d ≤ 64 → sound tight (expr_tree d) ≡ true
  expr_sound tight (g.one_and a) h = and_sound tight a h
  expr_sound tight (g.or e s a) h =
      three_true _ _ _ (fits_is tight (g.or e s a) h) (expr_sound tight e (left_below (expr_top e) (or_count e + 1 + and_top a) 64 h)) (and_sound tight a (behind_sign (expr_top e) (or_count e) (and_top a) h))

  and_sound : (tight : Bool) (d : g.And) → and_top d ≤ 64 → sound tight (and_tree d) ≡ true
  and_sound tight (g.one_cmp c) h = cmp_sound tight c h
  and_sound tight (g.and a s c) h =
      three_true _ _ _ (fits_is tight (g.one_and (g.and a s c)) h) (and_sound tight a (left_below (and_top a) (and_count a + 1 + cmp_top c) 64 h)) (cmp_sound tight c (behind_sign (and_top a) (and_count a) (cmp_top c) h))

  cmp_sound : (tight : Bool) (d : g.Cmp) → cmp_top d ≤ 64 → sound tight (cmp_tree d) ≡ true
  cmp_sound tight (g.one_sum a) h = sum_sound tight a h
  cmp_sound tight (g.compare c a s b) h =
      three_true _ _ _ (fits_is tight (g.one_and (g.one_cmp (g.compare c a s b))) h) (sum_sound tight a (left_below (sum_top a) (1 + sum_top b) 64 h))
      (sum_sound tight b (let r = right_below (sum_top a) (1 + sum_top b) 64 h in omega arith))

  sum_sound : (tight : Bool) (d : g.Sum) → sum_top d ≤ 64 → sound tight (sum_tree d) ≡ true
  sum_sound tight (g.one_prod p) h = prod_sound tight p h
  sum_sound tight (g.plus a s p) h =
      three_true _ _ _ (fits_is tight (g.one_and (g.one_cmp (g.one_sum (g.plus a s p)))) h) (sum_sound tight a (left_below (sum_top a) (sum_count a + 1 + prod_top p) 64 h)) (prod_sound tight p (behind_sign (sum_top a) (sum_count a) (prod_top p) h))
  sum_sound tight (g.minus a s p) h =
      three_true _ _ _ (fits_is tight (g.one_and (g.one_cmp (g.one_sum (g.minus a s p)))) h) (sum_sound tight a (left_below (sum_top a) (sum_count a + 1 + prod_top p) 64 h)) (prod_sound tight p (behind_sign (sum_top a) (sum_count a) (prod_top p) h))

  prod_sound : (tight : Bool) (d : g.Prod) → prod_top d ≤ 64 → sound tight (prod_tree d) ≡ true
  prod_sound tight (g.one_unary u) h = unary_sound tight u h
  prod_sound tight (g.times p s u) h =
      three_true _ _ _ (fits_is tight (g.one_and (g.one_cmp (g.one_sum (g.one_prod (g.times p s u))))) h) (prod_sound tight p (left_below (prod_top p) (prod_count p + 1 + unary_top u) 64 h)) (unary_sound tight u (behind_sign (prod_top p) (prod_count p) (unary_top u) h))
  prod_sound tight (g.over p s u) h =
      three_true _ _ _ (fits_is tight (g.one_and (g.one_cmp (g.one_sum (g.one_prod (g.over p s u))))) h) (prod_sound tight p (left_below (prod_top p) (prod_count p + 1 + unary_top u) 64 h)) (unary_sound tight u (behind_sign (prod_top p) (prod_count p) (unary_top u) h))

  unary_sound : (tight : Bool) (d : g.Unary) → unary_top d ≤ 64 → sound tight (unary_tree d) ≡ true
  unary_sound tight (g.bang s u) h = unary_sound tight u (omega arith)
  unary_sound tight (g.negative s u) h = unary_sound tight u (omega arith)
  unary_sound tight (g.number v s) h = refl
  unary_sound tight (g.typed_number v s c ty) h = scalar_sound tight ty h
  unary_sound tight (g.true_ s) h = refl
  unary_sound tight (g.false_ s) h = refl
  unary_sound tight (g.pi s) h = refl
  unary_sound tight (g.place p) h = place_sound tight p h
  unary_sound tight (g.called c) h = call_sound tight c h
  unary_sound tight (g.paren l (g.last e) r) h = expr_sound tight e (omega arith)
  unary_sound tight (g.paren l (g.and_more e s es) r) h =
      let m : greater (expr_top e) (exprs_top es) ≤ 64 = omega arith in
      both_true _ _ (expr_sound tight e (left_below (expr_top e) (exprs_top es) 64 m)) (exprs_sound tight es (right_below (expr_top e) (exprs_top es) 64 m))

  scalar_sound : (tight : Bool) (d : g.Scalar) → scalar_top d ≤ 64 → sound_scalar tight (scalar_tree d) ≡ true
  scalar_sound tight (g.bit s) h = refl
  scalar_sound tight (g.uint s l e r) h = expr_sound tight e (omega arith)
  scalar_sound tight (g.int s l e r) h = expr_sound tight e (omega arith)

  place_sound : (tight : Bool) (d : g.Place) → place_top d ≤ 64 → sound_place tight (place_tree d) ≡ true
  place_sound tight (g.whole n s) h = refl
  place_sound tight (g.part n s l e r) h = expr_sound tight e (omega arith)
  place_sound tight (g.part_of_part n s l e r m f q) h =
      both_true _ _ (expr_sound tight e (let a = left_below (1 + expr_top e) (1 + expr_top f) 64 h in omega arith)) (expr_sound tight f (let a = right_below (1 + expr_top e) (1 + expr_top f) 64 h in omega arith))

  call_sound : (tight : Bool) (d : g.Call) → call_top d ≤ 64 → sound tight (call_tree d) ≡ true
  call_sound tight (g.plain n s l a r) h = args_sound tight a (omega arith)
  call_sound tight (g.with_statics n s l es r m a q) h =
      both_true _ _ (exprs_sound tight es (let x = left_below (1 + exprs_top es) (1 + args_top a) 64 h in omega arith)) (args_sound tight a (let x = right_below (1 + exprs_top es) (1 + args_top a) 64 h in omega arith))

  args_sound : (tight : Bool) (d : g.Args) → args_top d ≤ 64 → all_sound tight (args_tree d) ≡ true
  args_sound tight g.no_args h = refl
  args_sound tight (g.args es) h = exprs_sound tight es h

  exprs_sound : (tight : Bool) (d : g.Exprs) → exprs_top d ≤ 64 → all_sound tight (exprs_tree d) ≡ true
  exprs_sound tight (g.last e) h = both_true _ true (expr_sound tight e h) refl
  exprs_sound tight (g.and_more e s es) h =
      both_true _ _ (expr_sound tight e (left_below (expr_top e) (exprs_top es) 64 h)) (exprs_sound tight es (right_below (expr_top e) (exprs_top es) 64 h))

-- with a nest around

around : (n : ℕ) (d : g.Expr) → Within (expr_nests n d) → is_sound (Around n) (expr_tree d) ≡ true
around n d h = let b = (expr_is n d).bound 64 h in at_test (nat_le (n + depth (least (ways false (expr_tree d)))) 64) (expr_sound false d (omega arith)) (expr_sound true d (omega arith))
  where
    at_test : (b : Bool) → sound false (expr_tree d) ≡ true → sound true (expr_tree d) ≡ true → cond b (sound false (expr_tree d)) (sound true (expr_tree d)) ≡ true
    at_test true p q = p
    at_test false p q = q

scalar_around : (n : ℕ) (d : g.Scalar) → Within (scalar_nests n d) → is_sound_scalar (Around (1 + n)) (scalar_tree d) ≡ true
scalar_around n (g.bit s) h = refl
scalar_around n (g.uint s l e r) h = around (1 + n) e (at_most_left 64 (expr_nests (1 + n) e) (n ∷ []) h.1.1)
scalar_around n (g.int s l e r) h = around (1 + n) e (at_most_left 64 (expr_nests (1 + n) e) (n ∷ []) h.1.1)

place_around : (n : ℕ) (d : g.Place) → Within (place_nests n d) → is_sound_place (Around (1 + n)) (place_tree d) ≡ true
place_around n (g.whole x s) h = refl
place_around n (g.part x s l e r) h = around (1 + n) e (at_most_left 64 (expr_nests (1 + n) e) (n ∷ []) h.1.1)
place_around n (g.part_of_part x s l e r m f q) h =
    let k = at_most_right 64 (expr_nests (1 + n) e) (n ∷ (1 + n) ∷ (expr_nests (1 + n) f ++ (n ∷ []))) h.1.1 in
    both_true _ _ (around (1 + n) e (at_most_left 64 (expr_nests (1 + n) e) (n ∷ (1 + n) ∷ (expr_nests (1 + n) f ++ (n ∷ []))) h.1.1))
    (around (1 + n) f (at_most_left 64 (expr_nests (1 + n) f) (n ∷ []) k.1.1))

exprs_around : (n : ℕ) (d : g.Exprs) → Within (exprs_nests n d) → are_sound (Around n) (exprs_tree d) ≡ true
exprs_around n (g.last e) h = both_true _ true (around n e h) refl
exprs_around n (g.and_more e s es) h =
    both_true _ _ (around n e (at_most_left 64 (expr_nests n e) (n ∷ exprs_nests n es) h)) (exprs_around n es (at_most_right 64 (expr_nests n e) (n ∷ exprs_nests n es) h).1)

args_around : (n : ℕ) (d : g.Args) → Within (args_nests n d) → are_sound (Around n) (args_tree d) ≡ true
args_around n g.no_args h = refl
args_around n (g.args es) h = exprs_around n es h

call_around : (n : ℕ) (d : g.Call) → Within (call_nests n d) → is_sound_call n (call_tree d) ≡ true
call_around n (g.plain x s l a r) h = args_around (1 + n) a (at_most_left 64 (args_nests (1 + n) a) (n ∷ []) h.1.1)
call_around n (g.with_statics x s l es r m a q) h =
    let k = at_most_right 64 (exprs_nests (1 + n) es) (n ∷ (1 + n) ∷ (args_nests (1 + n) a ++ (n ∷ []))) h.1.1 in
    both_true _ _ (exprs_around (1 + n) es (at_most_left 64 (exprs_nests (1 + n) es) (n ∷ (1 + n) ∷ (args_nests (1 + n) a ++ (n ∷ []))) h.1.1))
    (args_around (1 + n) a (at_most_left 64 (args_nests (1 + n) a) (n ∷ []) k.1.1))

two_names : (x : NameId) (ns : g.NameList) → are_two (x ∷ names_tree ns) ≡ true
two_names x (g.last_name y s) = refl
two_names x (g.and_names y s c ns) = refl

choice_is : (c : g.Choice) → is_choice (choice_tree c) ≡ true
choice_is (g.only s e b) = refl
choice_is (g.either s e b o d) = refl
choice_is (g.chain s e b o c) = refl

mutual
  stmt_around : (n : ℕ) (d : g.Stmt) → Within (stmt_nests n d) → is_sound_stmt n (stmt_tree d) ≡ true
  stmt_around n (g.assign p s e end) h =
      let k = at_most_right 64 (place_nests n p) (n ∷ (expr_nests n e ++ (n ∷ []))) h in
      both_true _ _ (place_around n p (at_most_left 64 (place_nests n p) (n ∷ (expr_nests n e ++ (n ∷ []))) h)) (around n e (at_most_left 64 (expr_nests n e) (n ∷ []) k.1))
  stmt_around n (g.spread l x a c ns r s e end) h =
      let k = at_most_right 64 (names_nests (1 + n) ns) (n ∷ n ∷ (expr_nests n e ++ (n ∷ []))) h.1.1.1 in
      both_true _ _ (two_names x ns) (around n e (at_most_left 64 (expr_nests n e) (n ∷ []) k.1.1))
  stmt_around n (g.update op p s e end) h =
      let k = at_most_right 64 (place_nests n p) (n ∷ (expr_nests n e ++ (n ∷ []))) h in
      both_true _ _ (place_around n p (at_most_left 64 (place_nests n p) (n ∷ (expr_nests n e ++ (n ∷ []))) h)) (around n e (at_most_left 64 (expr_nests n e) (n ∷ []) k.1))
  stmt_around n (g.forget s l x a r end) h = refl
  stmt_around n (g.forget_as s l x a i e r end) h = around (1 + n) e (at_most_left 64 (expr_nests (1 + n) e) (n ∷ n ∷ []) h.1.1.1.1)
  stmt_around n (g.phase s l e r end) h = around (1 + n) e (at_most_left 64 (expr_nests (1 + n) e) (n ∷ n ∷ []) h.1.1)
  stmt_around n (g.choose c) h = choice_around n c h
  stmt_around n (g.loop s x a i l e d f r b) h =
      let k = at_most_right 64 (expr_nests (1 + n) e) ((1 + n) ∷ (expr_nests (1 + n) f ++ (n ∷ block_nests n b))) h.1.1.1.1 in
      three_true _ _ _ (around (1 + n) e (at_most_left 64 (expr_nests (1 + n) e) ((1 + n) ∷ (expr_nests (1 + n) f ++ (n ∷ block_nests n b))) h.1.1.1.1))
      (around (1 + n) f (at_most_left 64 (expr_nests (1 + n) f) (n ∷ block_nests n b) k.1)) (block_around n b (at_most_right 64 (expr_nests (1 + n) f) (n ∷ block_nests n b) k.1).1)
  stmt_around n (g.return_nothing s end) h = refl
  stmt_around n (g.return_value s e end) h = around n e (at_most_left 64 (expr_nests n e) (n ∷ []) h.1)
  stmt_around n (g.call c end) h = call_around n c (at_most_left 64 (call_nests n c) (n ∷ []) h)

  choice_around : (n : ℕ) (d : g.Choice) → Within (choice_nests n d) → is_sound_stmt n (choice_tree d) ≡ true
  choice_around n (g.only s e b) h =
      three_true _ _ true (around n e (at_most_left 64 (expr_nests n e) (block_nests n b) h.1)) (block_around n b (at_most_right 64 (expr_nests n e) (block_nests n b) h.1)) refl
  choice_around n (g.either s e b o d) h =
      let k = at_most_right 64 (expr_nests n e) (block_nests n b ++ (n ∷ block_nests n d)) h.1 in
      three_true _ _ _ (around n e (at_most_left 64 (expr_nests n e) (block_nests n b ++ (n ∷ block_nests n d)) h.1))
      (block_around n b (at_most_left 64 (block_nests n b) (n ∷ block_nests n d) k)) (block_around n d (at_most_right 64 (block_nests n b) (n ∷ block_nests n d) k).1)
  choice_around n (g.chain s e b o c) h =
      let k = at_most_right 64 (expr_nests n e) (block_nests n b ++ (n ∷ choice_nests (1 + n) c)) h.1 in
      three_true _ _ _ (around n e (at_most_left 64 (expr_nests n e) (block_nests n b ++ (n ∷ choice_nests (1 + n) c)) h.1))
      (block_around n b (at_most_left 64 (block_nests n b) (n ∷ choice_nests (1 + n) c) k))
      (both_true _ _ (choice_is c) (choice_around (1 + n) c (at_most_right 64 (block_nests n b) (n ∷ choice_nests (1 + n) c) k).1))

  block_around : (n : ℕ) (d : g.Block) → Within (block_nests n d) → is_sound_block n (block_tree d) ≡ true
  block_around n (g.braces l b r) h = stmts_around (1 + n) b (at_most_left 64 (stmts_nests (1 + n) b) (n ∷ []) h.1)

  stmts_around : (n : ℕ) (d : g.Stmts) → Within (stmts_nests n d) → are_sound_stmts n (stmts_tree d) ≡ true
  stmts_around n g.none h = refl
  stmts_around n (g.more s b) h =
      both_true _ _ (stmt_around n s (at_most_left 64 (stmt_nests n s) (stmts_nests n b) h)) (stmts_around n b (at_most_right 64 (stmt_nests n s) (stmts_nests n b) h))

-- headers

size_sound : (n : ℕ) (e : tree.Expression) → is_sound (Around (1 + n)) e ≡ true → is_sound_size n e ≡ true
size_sound n (tree.number v at) h = refl
size_sound n (tree.place (tree.whole x) at) h = refl
size_sound n (tree.place (tree.part x e) at) h = h
size_sound n (tree.place (tree.part_of_part x e f) at) h = h
size_sound n (tree.typed_number v ty at) h = h
size_sound n (tree.truth b at) h = h
size_sound n (tree.pi at) h = h
size_sound n (tree.called f ss es at) h = h
size_sound n (tree.tuple es at) h = h
size_sound n (tree.unary op e at) h = h
size_sound n (tree.binary op x y at) h = h

sized_around : (n : ℕ) (c : Bool) (ty : g.Scalar) (k : g.Size) (a : Spot) → Within (scalar_nests n ty ++ size_nests n k) → is_sound_type n (sized_tree (scalar_tree ty) c k a) ≡ true
sized_around n c ty g.no_size a h = scalar_around n ty (at_most_left 64 (scalar_nests n ty) [] h)
sized_around n c ty (g.number_size k v s) a h = both_true _ true (scalar_around n ty (at_most_left 64 (scalar_nests n ty) (n ∷ n ∷ []) h)) refl
sized_around n c ty (g.named_size k x s) a h = both_true _ true (scalar_around n ty (at_most_left 64 (scalar_nests n ty) (n ∷ n ∷ []) h)) refl
sized_around n c ty (g.paren_size k l e r) a h =
    let m = at_most_right 64 (scalar_nests n ty) (n ∷ (1 + n) ∷ (expr_nests (1 + n) e ++ (n ∷ []))) h in
    both_true _ _ (scalar_around n ty (at_most_left 64 (scalar_nests n ty) (n ∷ (1 + n) ∷ (expr_nests (1 + n) e ++ (n ∷ []))) h))
    (size_sound n (expr_tree e) (around (1 + n) e (at_most_left 64 (expr_nests (1 + n) e) (n ∷ []) m.1.1)))

type_around : (n : ℕ) (d : g.Type_) → Within (type_nests n d) → is_sound_type n (type_tree d) ≡ true
type_around n (g.quantum ty k) h = sized_around n false ty k _ h
type_around n (g.classical s ty k) h = sized_around n true ty k _ h.1

param_around : (d : g.Param) → Within (param_nests 1 d) → is_sound_type 1 (param_tree d).ty ≡ true
param_around (g.moved x s c ty) h = type_around 1 ty h.1.1
param_around (g.held k x s c ty) h = type_around 1 ty h.1.1.1

params_around : (d : g.Params) → Within (params_nests 1 d) → are_sound_params (params_tree d) ≡ true
params_around (g.last_param p) h = both_true _ true (param_around p h) refl
params_around (g.and_params p s ps) h =
    both_true _ _ (param_around p (at_most_left 64 (param_nests 1 p) (1 ∷ params_nests 1 ps) h)) (params_around ps (at_most_right 64 (param_nests 1 p) (1 ∷ params_nests 1 ps) h).1)

param_part_around : (d : g.ParamPart) → Within (param_part_nests d) → are_sound_params (param_part_tree d) ≡ true
param_part_around (g.no_params l r) h = refl
param_part_around (g.params l ps r) h = params_around ps (at_most_left 64 (params_nests 1 ps) (0 ∷ []) h.1)

result_around : (d : g.Result) → Within (result_nests 0 d) → are_sound_types (result_tree d) ≡ true
result_around (g.last_type ty) h = both_true _ true (type_around 0 ty h) refl
result_around (g.and_types ty s r) h =
    both_true _ _ (type_around 0 ty (at_most_left 64 (type_nests 0 ty) (0 ∷ result_nests 0 r) h)) (result_around r (at_most_right 64 (type_nests 0 ty) (0 ∷ result_nests 0 r) h).1)

result_part_around : (d : g.ResultPart) → Within (result_part_nests d) → are_sound_types (result_part_tree d) ≡ true
result_part_around g.no_result h = refl
result_part_around (g.results s r) h = result_around r h.1

function_around : (d : g.Function) → Within (function_nests d) → is_sound_function (function_tree d) ≡ true
function_around (g.def s x a ss ps m r b) h =
    let i = at_most_right 64 (static_part_nests ss) (param_part_nests ps ++ (mark_nests m ++ (result_part_nests r ++ block_nests 0 b))) h.1.1 in
    let j = at_most_right 64 (param_part_nests ps) (mark_nests m ++ (result_part_nests r ++ block_nests 0 b)) i in
    let k = at_most_right 64 (mark_nests m) (result_part_nests r ++ block_nests 0 b) j in
    three_true _ _ _ (param_part_around ps (at_most_left 64 (param_part_nests ps) (mark_nests m ++ (result_part_nests r ++ block_nests 0 b)) i))
    (result_part_around r (at_most_left 64 (result_part_nests r) (block_nests 0 b) k)) (block_around 0 b (at_most_right 64 (result_part_nests r) (block_nests 0 b) k))

pub program_around : (p : g.Program) → Within (program_nests p) → is_sound_program (program_tree p) ≡ true
program_around g.no_function h = refl
program_around (g.function_then f p) h =
    both_true _ _ (function_around f (at_most_left 64 (function_nests f) (program_nests p) h)) (program_around p (at_most_right 64 (function_nests f) (program_nests p) h))

-- programs of a text

small : (n : ℕ) → nat_lt 64 n ≡ false → n ≤ 64
small n e = grind (arith, nat_tests)

fine_within : (ts : List Token) (ns : List ℕ) → Even ts ns → first_deep ns ts ≡ Fine → Within ns
fine_within [] [] e h = tt
fine_within [] (n ∷ ns) e h = no_such e
  where
    no_such : Even [] (n ∷ ns) → Within (n ∷ ns)
    no_such g = elim g [ ]
fine_within (t ∷ ts) [] e h = tt
fine_within (t ∷ ts) (n ∷ ns) e h = at_test (nat_lt 64 n) refl (λ g. fine_within ts ns (rest e) g) h
  where
    rest : Even (t ∷ ts) (n ∷ ns) → Even ts ns
    rest (one g) = g

    at_test : (b : Bool) → nat_lt 64 n ≡ b → (first_deep ns ts ≡ Fine → Within ns) → cond b (Deep (t ∷ ts)) (first_deep ns ts) ≡ Fine → Within (n ∷ ns)
    at_test true x ih g = cc
    at_test false x ih g = (small n x, ih g)

no_fault : (o : Outcome) (e : Ending) → fault_by o e ≡ None → o ≡ Fine
no_fault Fine e h = refl
no_fault (Syntax []) e h = cc
no_fault (Syntax (t ∷ ts)) e h = cc
no_fault (Deep []) e h = cc
no_fault (Deep (t ∷ ts)) e h = cc

not_long : (b : Bool) (f : ParseFault) (o : Option ParseFault) → (if b then Some f else o) ≡ None → o ≡ None
not_long true f o h = cc
not_long false f o h = h

pub text_sound : (nodes : Forest) (names : List (List ℕ)) (funs : List FunId) → IsOfText nodes names funs → is_sound_program (program_at nodes funs) ≡ true
text_sound nodes names funs h =
    let p = h.stands.parsed.derivation in
    let tokens = tokens_of (chars h.text) in
    let fine : program_outcome (all_tokens tokens.items) ≡ Fine = no_fault (program_outcome (all_tokens tokens.items)) tokens.ending (not_long (nat_lt 1048576 (length h.text)) _ (fault_of_tokens tokens) h.fine) in
    let outcome : program_outcome (program_text p) ≡ Fine = sym (ap program_outcome h.stands.parsed.spelled) ∙ fine in
    let w : Within (program_nests p) = fine_within (program_text p) (program_nests p) (program_even p) (sym (program_deep p) ∙ outcome) in
    ap is_sound_program h.stands.parsed.stands ∙ program_around p w

in_order : (n : ℕ) (ids : List FunId) (i : ℕ) (d : FunId) → AreInOrder n ids → i < length ids → (get_or ids i d).number ≡ n + i
in_order n [] i d h l = absurd (omega arith)
in_order n (f ∷ fs) zero d h l = let e = h.0 in omega arith
in_order n (f ∷ fs) (suc i) d h l = let e = in_order (n + 1) fs i d h.1 (omega arith) in omega arith

pub fun_below : (nodes : Forest) (names : List (List ℕ)) (funs : List FunId) (i : ℕ) (d : FunId) → IsOfText nodes names funs → i < length funs → (get_or funs i d).number < length nodes.funs
fun_below nodes names funs i d h l =
    let e = in_order 0 funs i d h.stands.parsed.funs_in_order l in
    let f = h.stands.parsed.funs_are_all in
    omega arith
