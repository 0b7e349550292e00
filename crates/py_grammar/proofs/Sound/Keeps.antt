-- Each step keeps the parts of the state normal and fitting.
use Rattle.std.proofs.Common.{◌≡◌, ℕ, ◌≤◌, Bool, true, false, cond, ◌&&◌, refl, arith}
use Rattle.py_operator.specs.declared.operator.BinOp.TheVariants as op_
use Rattle.py_operator.specs.declared.operator.CmpOp.TheVariants as cmp_
use Rattle.py_syntax.specs.declared.expr.Comparison.TheVariants.{Op, Is, IsNot}
use Rattle.py_syntax.specs.declared.expr.Sign.TheVariants as sign_
use Rattle.py_syntax.specs.Tree.{Expr, none, bool, tuple, not', and, or, unary, compare, Exprs, no_exprs, exprs, no_pairs, Fragments}
use Rattle.py_syntax.specs.Tree as tree_
use Rattle.py_syntax.specs.Normal.{Precedence, LExprs, LExpr, LOr, LAnd, LNot, LCmp, LSum, LTerm, LUnary, LPost, rank, precedence, At, Normal, NormalItems, NormalFragments, is_target, are_targets}
use Rattle.py_grammar.specs.TokenClasses.{b_op, TokenClass, t_name, t_int, t_none, t_bool, t_string, t_format, t_bad_format, t_not, t_is, t_if, t_else, t_compare, t_operator, t_comma, t_colon, t_dot, t_left_paren, t_right_paren, t_left_bracket, t_right_bracket, t_left_brace, t_right_brace, operator_precedence, operator_right, joined, begins}
use Rattle.py_grammar.specs.Machine.{at_most, same_precedence, snoc, snoc_pair, snoc_link, strings_of, Goal, any, one, target, targets, Opener, a_call, a_list, exprs_first, exprs_rest, cond_first, cond_test, cond_else, first, right, not_of, compare_first, compare_rest, unary_of, post_rest, in_items, index_first, in_index, slice_to, in_paren, in_key, in_value, Ctx, Outside, on, State, Want, Have, Strings, AfterOpen, AfterComma, AfterTarget, ItemsOpen, ItemsComma, DictOpen, DictComma, IndexOpen, SliceColon, AfterDot, AfterNot, AfterIs, AfterIsNot, Linked, Out, Next, Stuck, Left, upto_exprs, upto_cond, upto_or, upto_and, upto_compare, upto_sum, upto_term, begin, close_items, leave, give, step}
use Rattle.std.proofs.lemmas.Bool.{leb-true, eqb-true}
use Rattle.py_grammar.proofs.Sound.Valid.{needs, Under, ValidOpener, Valid, SomeStrings, Sound, Keeps, ValidClass, highest, joined_level, joined_normal, targets_snoc, each_snoc, pairs_snoc, links_snoc, some_snoc, some_pairs_snoc, some_links_snoc, plain_snoc, format_snoc, some_plain_snoc, some_format_snoc, strings_normal, tuple_snoc, tuple_comma, items_some, entries_some, compare_some}

leave_keeps : (g : Goal) (e : Expr) (h : Goal) (t : TokenClass) → At (needs (Outside h)) e → Normal e → Valid g (Outside h) → Keeps g (leave e h t)
leave_keeps g e any t a n h = rw h (n, tt)
leave_keeps g e one t a n h = rw h (n, a)
leave_keeps g e target t_comma a n h = go (is_target e) refl
  where
    go : (b : Bool) → is_target e ≡ b → Keeps g (cond b (Next (AfterTarget e no_exprs)) Stuck)
    go true is = (h, (omega arith, n, tt, is, refl))
    go false is = tt
leave_keeps g e target t a n h = go (is_target e) refl
  where
    go : (b : Bool) → is_target e ≡ b → Keeps g (cond b (Left e) Stuck)
    go true is = rw h (n, is)
    go false is = tt
leave_keeps g e (targets f es) t_comma a n h = go (is_target e) refl
  where
    go : (b : Bool) → is_target e ≡ b → Keeps g (cond b (Next (AfterTarget f (snoc es e))) Stuck)
    go true is = (h.0, (h.1.0, h.1.1, each_snoc es e h.1.2 (omega arith) n, h.1.3, targets_snoc es e h.1.4 is))
    go false is = tt
leave_keeps g e (targets f es) t a n h = go (is_target e) refl
  where
    go : (b : Bool) → is_target e ≡ b → Keeps g (cond b (Left (tuple (exprs f (snoc es e)) false)) Stuck)
    go true is = rw h.0 (tuple_snoc f es e false h.1.0 h.1.1 h.1.2 (omega arith) n, all (is_target f) (are_targets (snoc es e)) h.1.3 (targets_snoc es e h.1.4 is))
      where
        all : (a b : Bool) → a ≡ true → b ≡ true → (a && b) ≡ true
        all true b i j = j
        all false b i j = absurd cc
    go false is = tt

close_keeps : (g : Goal) (o : Opener) (es : Exprs) (c : Bool) (k : Ctx) (t : TokenClass) (other : Out) → ValidOpener o → NormalItems es c → Valid g k → Keeps g other → Keeps g (close_items o es c k t other)
close_keeps g (a_call f) es c k t_right_paren other o n h keeps = (omega arith, (o.0, o.1, n), tt, h)
close_keeps g a_list es c k t_right_bracket other o n h keeps = (omega arith, n, tt, h)
close_keeps g o es c k t other op n h keeps = keeps

pub give_keeps : (g : Goal) (e : Expr) (k : Ctx) (t : TokenClass) → At (needs k) e → Normal e → Valid g k → Keeps g (give e k t)
give_keeps g e (Outside h) t a n valid = leave_keeps g e h t a n valid
give_keeps g e (on exprs_first k) t_comma a n h = (a, n, tt, h.0, h.1)
give_keeps g e (on exprs_first k) t a n h = give_keeps g e k t (omega arith) n h.1
give_keeps g e (on (exprs_rest f es) k) t_comma a n h = (h.0, h.1, each_snoc es e h.2 a n, h.3, h.4)
give_keeps g e (on (exprs_rest f es) k) t a n h = give_keeps g (tuple (exprs f (snoc es e)) false) k t h.3 (tuple_snoc f es e false h.0 h.1 h.2 a n) h.4
give_keeps g e (on cond_first k) t_if a n h = (omega arith, (a, n, h.0, h.1))
give_keeps g e (on cond_first k) t a n h = give_keeps g e k t (omega arith) n h.1
give_keeps g e (on (cond_test b) k) t_else a n h = (omega arith, (h.0, h.1, a, n, h.2, h.3))
give_keeps g e (on (cond_test b) k) t a n h = tt
give_keeps g e (on (cond_else b c) k) t a n h = give_keeps g (tree_.cond b c e) k t h.4 (h.0, h.1, h.2, h.3, a, n) h.5
give_keeps g e (on (first l) k) (t_operator j) a n h = go (same_precedence l (operator_precedence j)) refl (give_keeps g e k (t_operator j) (let u = h.1 in omega arith) n h.2)
  where
    go : (b : Bool) → same_precedence l (operator_precedence j) ≡ b → Keeps g (give e k (t_operator j)) → Keeps g (cond b (Next (Want (operator_right j) (on (right j e) k))) (give e k (t_operator j)))
    go true is keeps = let same : rank l ≡ rank (operator_precedence j) = eqb-true _ _ is in (let u = h.1 in (omega arith, (omega arith, n, omega arith, h.2)))
    go false is keeps = keeps
give_keeps g e (on (first l) k) t a n h = give_keeps g e k t (let u = h.1 in omega arith) n h.2
give_keeps g e (on (right i a') k) (t_operator j) a n h = go (same_precedence (operator_precedence i) (operator_precedence j)) refl (give_keeps g (joined i a' e) k (t_operator j) fits normal h.3)
  where
    lev : precedence (joined i a' e) ≡ operator_precedence i
    lev = joined_level i a' e

    fits : At (needs k) (joined i a' e)
    fits = rw lev h.2

    normal : Normal (joined i a' e)
    normal = joined_normal i a' e h.0 h.1 a n

    go : (b : Bool) → same_precedence (operator_precedence i) (operator_precedence j) ≡ b → Keeps g (give (joined i a' e) k (t_operator j)) → Keeps g (cond b (Next (Want (operator_right j) (on (right j (joined i a' e)) k))) (give (joined i a' e) k (t_operator j)))
    go true is keeps = let same : rank (operator_precedence i) ≡ rank (operator_precedence j) = eqb-true _ _ is in (omega arith, (rw lev (omega arith), normal, omega arith, h.3))
    go false is keeps = keeps
give_keeps g e (on (right i a') k) t a n h = give_keeps g (joined i a' e) k t (rw (joined_level i a' e) h.2) (joined_normal i a' e h.0 h.1 a n) h.3
give_keeps g e (on not_of k) t a n h = give_keeps g (not' e) k t h.0 (a, n) h.1
give_keeps g e (on compare_first k) (t_compare op) a n h = (omega arith, (a, n, tt, h.0, h.1))
give_keeps g e (on compare_first k) t_not a n h = (a, n, tt, h.0, h.1)
give_keeps g e (on compare_first k) t_is a n h = (a, n, tt, h.0, h.1)
give_keeps g e (on compare_first k) t a n h = give_keeps g e k t (omega arith) n h.1
give_keeps g e (on (compare_rest a' ls p) k) (t_compare op) a n h = (omega arith, (h.0, h.1, links_snoc ls (Op p) e h.2 a n, h.3, h.4))
give_keeps g e (on (compare_rest a' ls p) k) t_not a n h = (h.0, h.1, links_snoc ls (Op p) e h.2 a n, h.3, h.4)
give_keeps g e (on (compare_rest a' ls p) k) t_is a n h = (h.0, h.1, links_snoc ls (Op p) e h.2 a n, h.3, h.4)
give_keeps g e (on (compare_rest a' ls p) k) t a n h = give_keeps g (compare a' (snoc_link ls (Op p) e)) k t h.3 (compare_some a' (snoc_link ls (Op p) e) (some_links_snoc ls (Op p) e) h.0 h.1 (links_snoc ls (Op p) e h.2 a n)) h.4
give_keeps g e (on (unary_of s) k) t a n h = give_keeps g (unary s e) k t h.0 (a, n) h.1
give_keeps g e (on post_rest k) t_left_paren a n h = ((a, n), h)
give_keeps g e (on post_rest k) t_left_bracket a n h = (a, n, h)
give_keeps g e (on post_rest k) t_dot a n h = (a, n, h)
give_keeps g e (on post_rest k) t a n h = give_keeps g e k t (omega (arith, highest (needs k))) n h
give_keeps g e (on (in_items o es) k) t_comma a n h = (h.0, some_snoc es e, each_snoc es e h.1 a n, h.2)
give_keeps g e (on (in_items o es) k) t a n h = close_keeps g o (snoc es e) false k t Stuck h.0 (items_some (snoc es e) false (some_snoc es e) (each_snoc es e h.1 a n)) h.2 tt
give_keeps g e (on (index_first f) k) t_comma a n h = (a, n, tt, omega arith, h)
give_keeps g e (on (index_first f) k) t_colon a n h = (h.0, h.1, (a, n), h.2)
give_keeps g e (on (index_first f) k) t_right_bracket a n h = (omega arith, (h.0, h.1, n), tt, h.2)
give_keeps g e (on (index_first f) k) t a n h = tt
give_keeps g e (on (in_index f) k) t_right_bracket a n h = (omega arith, (h.0, h.1, n), tt, h.2)
give_keeps g e (on (in_index f) k) t a n h = tt
give_keeps g e (on (slice_to f from) k) t_right_bracket a n h = (omega arith, (h.0, h.1, h.2, (a, n)), tt, h.3)
give_keeps g e (on (slice_to f from) k) t a n h = tt
give_keeps g e (on in_paren k) t_right_paren a n h = (omega arith, n, tt, h)
give_keeps g e (on in_paren k) t a n h = tt
give_keeps g e (on (in_key ps) k) t_colon a n h = (omega arith, (h.0, a, n, h.1))
give_keeps g e (on (in_key ps) k) t a n h = tt
give_keeps g e (on (in_value ps key) k) t_comma a n h = (some_pairs_snoc ps key e, pairs_snoc ps key e h.0 h.1 h.2 a n, h.3)
give_keeps g e (on (in_value ps key) k) t_right_brace a n h = (omega arith, entries_some (snoc_pair ps key e) false (some_pairs_snoc ps key e) (pairs_snoc ps key e h.0 h.1 h.2 a n), tt, h.3)
give_keeps g e (on (in_value ps key) k) t a n h = tt

-- ---- the frames that are pushed fit

-- a stack is valid, and asks for no more than that precedence
abbrev Fits : Goal → ℕ → Precedence → Ctx → Type 0
Fits g least lev k = Valid g k × ((n : ℕ) → rank lev ≤ n → least ≤ n → rank (needs k) ≤ n)

exprs_fits : (g : Goal) (lev : Precedence) (k : Ctx) → Under k lev → Valid g k → Fits g 2 lev (upto_exprs lev k)
exprs_fits g lev k u h = go (at_most lev LExprs) refl
  where
    go : (b : Bool) → at_most lev LExprs ≡ b → Fits g 2 lev (cond b (on exprs_first k) k)
    go true is = let le : rank lev ≤ 1 = leb-true _ _ is in ((omega arith, h), λ n lo hi. omega arith)
    go false is = (h, λ n lo hi. omega arith)

cond_fits : (g : Goal) (lev : Precedence) (k : Ctx) → Under k lev → Valid g k → Fits g 3 lev (upto_cond lev k)
cond_fits g lev k u h = go (at_most lev LExpr) refl
  where
    go : (b : Bool) → at_most lev LExpr ≡ b → Fits g 3 lev (cond b (on cond_first (upto_exprs lev k)) k)
    go true is = let le : rank lev ≤ 2 = leb-true _ _ is in let x = exprs_fits g lev k u h in ((x.1 2 le (omega arith), x.0), λ n lo hi. omega arith)
    go false is = (h, λ n lo hi. omega arith)

or_fits : (g : Goal) (lev : Precedence) (k : Ctx) → Under k lev → Valid g k → Fits g 3 lev (upto_or lev k)
or_fits g lev k u h = go (at_most lev LOr) refl
  where
    go : (b : Bool) → at_most lev LOr ≡ b → Fits g 3 lev (cond b (on (first LOr) (upto_cond lev k)) k)
    go true is = let le : rank lev ≤ 3 = leb-true _ _ is in let x = cond_fits g lev k u h in ((omega arith, x.1 3 le (omega arith), x.0), λ n lo hi. omega arith)
    go false is = (h, λ n lo hi. omega arith)

and_fits : (g : Goal) (lev : Precedence) (k : Ctx) → Under k lev → Valid g k → Fits g 4 lev (upto_and lev k)
and_fits g lev k u h = go (at_most lev LAnd) refl
  where
    go : (b : Bool) → at_most lev LAnd ≡ b → Fits g 4 lev (cond b (on (first LAnd) (upto_or lev k)) k)
    go true is = let le : rank lev ≤ 4 = leb-true _ _ is in let x = or_fits g lev k u h in ((omega arith, x.1 4 le (omega arith), x.0), λ n lo hi. omega arith)
    go false is = (h, λ n lo hi. omega arith)

compare_fits : (g : Goal) (lev : Precedence) (k : Ctx) → Under k lev → Valid g k → Fits g 7 lev (upto_compare lev k)
compare_fits g lev k u h = go (at_most lev LCmp) refl
  where
    go : (b : Bool) → at_most lev LCmp ≡ b → Fits g 7 lev (cond b (on compare_first (upto_and lev k)) k)
    go true is = let le : rank lev ≤ 6 = leb-true _ _ is in let x = and_fits g lev k u h in ((x.1 6 le (omega arith), x.0), λ n lo hi. omega arith)
    go false is = (h, λ n lo hi. omega arith)

sum_fits : (g : Goal) (lev : Precedence) (k : Ctx) → Under k lev → Valid g k → Fits g 7 lev (upto_sum lev k)
sum_fits g lev k u h = go (at_most lev LSum) refl
  where
    go : (b : Bool) → at_most lev LSum ≡ b → Fits g 7 lev (cond b (on (first LSum) (upto_compare lev k)) k)
    go true is = let le : rank lev ≤ 7 = leb-true _ _ is in let x = compare_fits g lev k u h in ((omega arith, x.1 7 le (omega arith), x.0), λ n lo hi. omega arith)
    go false is = (h, λ n lo hi. omega arith)

pub term_fits : (g : Goal) (lev : Precedence) (k : Ctx) → Under k lev → Valid g k → Fits g 8 lev (upto_term lev k)
term_fits g lev k u h = go (at_most lev LTerm) refl
  where
    go : (b : Bool) → at_most lev LTerm ≡ b → Fits g 8 lev (cond b (on (first LTerm) (upto_sum lev k)) k)
    go true is = let le : rank lev ≤ 8 = leb-true _ _ is in let x = sum_fits g lev k u h in ((omega arith, x.1 8 le (omega arith), x.0), λ n lo hi. omega arith)
    go false is = (h, λ n lo hi. omega arith)

-- an operand of `not` or of a sign begins
prefix_keeps : (g : Goal) (lev m : Precedence) (k : Ctx) (next : State) → (at_most lev m ≡ true → Sound g next) → Keeps g (cond (at_most lev m) (Next next) Stuck)
prefix_keeps g lev m k next h = go (at_most lev m) refl
  where
    go : (b : Bool) → at_most lev m ≡ b → Keeps g (cond b (Next next) Stuck)
    go true is = h is
    go false is = tt

pub begin_keeps : (g : Goal) (lev : Precedence) (k : Ctx) (t : TokenClass) → ValidClass t → Under k lev → Valid g k → Keeps g (begin lev k t)
begin_keeps g lev k (t_name x) r u h = (omega arith, tt, tt, (term_fits g lev k u h).0)
begin_keeps g lev k (t_int x) r u h = (omega arith, tt, tt, (term_fits g lev k u h).0)
begin_keeps g lev k t_none r u h = (omega arith, tt, tt, (term_fits g lev k u h).0)
begin_keeps g lev k (t_bool x) r u h = (omega arith, tt, tt, (term_fits g lev k u h).0)
begin_keeps g lev k (t_string x) r u h = (tt, tt, tt, (term_fits g lev k u h).0)
begin_keeps g lev k (t_format ps) r u h = (tt, (r, tt), tt, (term_fits g lev k u h).0)
begin_keeps g lev k t_not r u h = prefix_keeps g lev LNot k (Want LNot (on not_of (upto_and lev k))) (λ is. let x = and_fits g lev k u h in (omega arith, (x.1 5 (leb-true _ _ is) (omega arith), x.0)))
begin_keeps g lev k (t_operator (b_op op_.Add)) r u h = prefix_keeps g lev LUnary k (Want LUnary (on (unary_of sign_.Plus) (upto_term lev k))) (λ is. let x = term_fits g lev k u h in (omega arith, (x.1 9 (leb-true _ _ is) (omega arith), x.0)))
begin_keeps g lev k (t_operator (b_op op_.Sub)) r u h = prefix_keeps g lev LUnary k (Want LUnary (on (unary_of sign_.Minus) (upto_term lev k))) (λ is. let x = term_fits g lev k u h in (omega arith, (x.1 9 (leb-true _ _ is) (omega arith), x.0)))
begin_keeps g lev k t_left_paren r u h = (term_fits g lev k u h).0
begin_keeps g lev k t_left_bracket r u h = (tt, (term_fits g lev k u h).0)
begin_keeps g lev k t_left_brace r u h = (term_fits g lev k u h).0
begin_keeps g lev k t r u h = tt

given_strings : (g : Goal) (fs : Fragments) (k : Ctx) (t : TokenClass) → SomeStrings fs → NormalFragments fs → Valid g k → Keeps g (give (strings_of fs) k t)
given_strings g fs k t s n h = let x = strings_normal fs s n in give_keeps g (strings_of fs) k t (omega (arith, highest (needs k), x.1)) x.0 h

pub step_keeps : (g : Goal) (s : State) (t : TokenClass) → ValidClass t → Sound g s → Keeps g (step s t)
step_keeps g (Want lev k) t r h = begin_keeps g lev k t r h.0 h.1
step_keeps g (Have e k) t r h = give_keeps g e k t h.0 h.1 h.3
step_keeps g (Strings fs k) (t_string x) r h = (some_plain_snoc fs x, plain_snoc fs x h.1, h.2, h.3)
step_keeps g (Strings fs k) (t_format ps) r h = (some_format_snoc fs ps, format_snoc fs ps h.1 r, h.2, h.3)
step_keeps g (Strings fs k) (t_bad_format ps) r h = tt
step_keeps g (Strings fs k) t r h = given_strings g fs k t h.0 h.1 h.3
step_keeps g (AfterOpen k) t_right_paren r h = (omega arith, refl, tt, h)
step_keeps g (AfterOpen k) t r h = begin_keeps g LExprs (on in_paren k) t r (omega arith) h
step_keeps g (AfterComma f es k) t r h = go (begins t)
  where
    go : (b : Bool) → Keeps g (cond b (begin LExpr (on (exprs_rest f es) k) t) (give (tuple (exprs f es) true) k t))
    go true = begin_keeps g LExpr (on (exprs_rest f es) k) t r (omega arith) h
    go false = give_keeps g (tuple (exprs f es) true) k t h.3 (tuple_comma f es h.0 h.1 h.2) h.4
step_keeps g (AfterTarget f es) t r h = go (begins t)
  where
    both : (a b : Bool) → a ≡ true → b ≡ true → (a && b) ≡ true
    both true b i j = j
    both false b i j = absurd cc

    go : (b : Bool) → Keeps g (cond b (begin LPost (Outside (targets f es)) t) (Left (tuple (exprs f es) true)))
    go true = begin_keeps g LPost (Outside (targets f es)) t r (omega arith) h
    go false = rw h.0 (tuple_comma f es h.1.0 h.1.1 h.1.2, both (is_target f) (are_targets es) h.1.3 h.1.4)
step_keeps g (ItemsOpen o k) t r h = close_keeps g o no_exprs false k t (begin LExpr (on (in_items o no_exprs) k) t) h.0 refl h.1 (begin_keeps g LExpr (on (in_items o no_exprs) k) t r (omega arith) (h.0, tt, h.1))
step_keeps g (ItemsComma o es k) t r h = close_keeps g o es true k t (begin LExpr (on (in_items o es) k) t) h.0 (items_some es true h.1 h.2) h.3 (begin_keeps g LExpr (on (in_items o es) k) t r (omega arith) (h.0, h.2, h.3))
step_keeps g (DictOpen k) t_right_brace r h = (omega arith, refl, tt, h)
step_keeps g (DictOpen k) t r h = begin_keeps g LExpr (on (in_key no_pairs) k) t r (omega arith) (tt, h)
step_keeps g (DictComma ps k) t_right_brace r h = (omega arith, entries_some ps true h.0 h.1, tt, h.2)
step_keeps g (DictComma ps k) t r h = begin_keeps g LExpr (on (in_key ps) k) t r (omega arith) (h.1, h.2)
step_keeps g (IndexOpen f k) t_colon r h = (h.0, h.1, tt, h.2)
step_keeps g (IndexOpen f k) t r h = begin_keeps g LExpr (on (index_first f) k) t r (omega arith) h
step_keeps g (SliceColon f from k) t_right_bracket r h = (omega arith, (h.0, h.1, h.2, tt), tt, h.3)
step_keeps g (SliceColon f from k) t r h = begin_keeps g LExpr (on (slice_to f from) k) t r (omega arith) h
step_keeps g (AfterDot f k) (t_name x) r h = (omega arith, (h.0, h.1), tt, h.2)
step_keeps g (AfterDot f k) t r h = tt
step_keeps g (AfterNot a ls k) (t_compare cmp_.In) r h = (omega arith, h)
step_keeps g (AfterNot a ls k) t r h = tt
step_keeps g (AfterIs a ls k) t_not r h = h
step_keeps g (AfterIs a ls k) t_none r h = (some_links_snoc ls Is none, (h.0, h.1, links_snoc ls Is none h.2 tt tt, h.3, h.4))
step_keeps g (AfterIs a ls k) (t_bool b) r h = (some_links_snoc ls Is (bool b), (h.0, h.1, links_snoc ls Is (bool b) h.2 tt tt, h.3, h.4))
step_keeps g (AfterIs a ls k) t r h = tt
step_keeps g (AfterIsNot a ls k) t_none r h = (some_links_snoc ls IsNot none, (h.0, h.1, links_snoc ls IsNot none h.2 tt tt, h.3, h.4))
step_keeps g (AfterIsNot a ls k) (t_bool b) r h = (some_links_snoc ls IsNot (bool b), (h.0, h.1, links_snoc ls IsNot (bool b) h.2 tt tt, h.3, h.4))
step_keeps g (AfterIsNot a ls k) t r h = tt
step_keeps g (Linked a ls k) (t_compare op) r h = (omega arith, h.1)
step_keeps g (Linked a ls k) t_not r h = h.1
step_keeps g (Linked a ls k) t_is r h = h.1
step_keeps g (Linked a ls k) t r h = give_keeps g (compare a ls) k t h.1.3 (compare_some a ls h.0 h.1.0 h.1.1 h.1.2) h.1.4
