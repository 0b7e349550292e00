-- No step makes the least height of a state less.
use Rattle.std.proofs.Common.{◌≡◌, ℕ, suc, ◌≤◌, max, Bool, true, false, cond, ◌&&◌, [], ◌∷◌, refl, sym, ap, subst, ◌∙◌, arith}
use Rattle.py_operator.specs.declared.operator.BinOp.TheVariants as op_
use Rattle.py_operator.specs.declared.operator.CmpOp.TheVariants as cmp_
use Rattle.py_syntax.specs.declared.expr.Comparison.{Comparison}
use Rattle.py_syntax.specs.declared.expr.Comparison.TheVariants.{Op, Is, IsNot}
use Rattle.py_syntax.specs.declared.expr.Sign.TheVariants as sign_
use Rattle.py_syntax.specs.Tree.{Text, Expr, name, int, str, fstr, none, bool, tuple, list, dict, paren, not', unary, compare, call, index, slice, attr, Exprs, no_exprs, exprs, no_pairs, pair, Links, no_links, link, absent, present, Fragments, no_fragments, plain, format, Parts}
use Rattle.py_syntax.specs.Tree as tree_
use Rattle.py_syntax.specs.Normal.{Precedence, LExprs, LExpr, LOr, LNot, LSum, LUnary, LPost, is_target, are_targets, height, height_fragments, height_parts}
use Rattle.py_grammar.specs.TokenClasses.{b_op, TokenClass, t_name, t_int, t_none, t_bool, t_string, t_format, t_bad_format, t_not, t_is, t_if, t_else, t_compare, t_operator, t_comma, t_colon, t_dot, t_left_paren, t_right_paren, t_left_bracket, t_right_bracket, t_left_brace, t_right_brace, operator_precedence, operator_right, joined, begins}
use Rattle.py_grammar.specs.Machine.{at_most, same_precedence, snoc, snoc_pair, snoc_link, snoc_plain, snoc_format, has_format, texts, strings_of, Goal, any, one, target, targets, Opener, a_call, a_list, made, Frame, exprs_first, exprs_rest, cond_first, cond_test, cond_else, first, right, not_of, compare_first, compare_rest, unary_of, post_rest, in_items, index_first, in_index, slice_to, in_paren, in_key, in_value, Ctx, Outside, on, State, Want, Have, Strings, AfterOpen, AfterComma, AfterTarget, ItemsOpen, ItemsComma, DictOpen, DictComma, IndexOpen, SliceColon, AfterDot, AfterNot, AfterIs, AfterIsNot, Linked, Out, Next, Stuck, Left, upto_and, upto_term, upto, begin, close_items, leave, give, step}
use Rattle.py_grammar.specs.Least.{least_name, as_target, wants, fit, whole, least}
use Rattle.py_grammar.proofs.Least.Finish.{as_target_same, fit_index}
use Rattle.py_grammar.proofs.Least.Finishes.{and_whole, term_whole, post_whole}
use Rattle.py_grammar.proofs.Least.Grows.{height_some, heights_snoc, entries_snoc, links_snoc, joined_height, joined_target, targets_snoc, tuple_snoc, and_left, and_right, and_true, true_and, Less, less, less_none, less_item, less_fit, less_index, whole_grows, fit_grows}

abbrev pub Grows : ℕ → Out → Type 0
Grows n (Next s) = n ≤ least s
Grows n Stuck = Unit {0}
Grows n (Left e) = n ≤ height e

grows_less : (n m : ℕ) (o : Out) → n ≤ m → Grows m o → Grows n o
grows_less n m (Next s) le h = omega arith
grows_less n m Stuck le h = tt
grows_less n m (Left e) le h = omega arith

-- What comes of a step is no lower than before it, also where the expression was to be made a target.
abbrev Rises : Expr → Ctx → Out → Type 0
Rises e k o = Grows (height (whole k e)) o × (is_target e ≡ false → wants k ≡ true → Grows (height (whole k (index e least_name))) o)

same : (n : ℕ) → n ≤ n
same n = omega arith

alike : (e f : Expr) → e ≡ f → height e ≤ height f
alike e f is = subst (λ (x : Expr). height e ≤ height x) is (same (height e))

not_both : (b : Bool) → b ≡ false → b ≡ true → ⊥
not_both true h i = cc
not_both false h i = cc

leave_rises : (e : Expr) (g : Goal) (t : TokenClass) → Rises e (Outside g) (leave e g t)
leave_rises e any t = (omega arith, λ h w. absurd cc)
leave_rises e one t = (omega arith, λ h w. absurd cc)
leave_rises e target t_comma = go (is_target e) refl
  where
    go : (b : Bool) → is_target e ≡ b → Grows (height (as_target e)) (cond b (Next (AfterTarget e no_exprs)) Stuck) × (b ≡ false → true ≡ true → Grows (height (as_target (index e least_name))) (cond b (Next (AfterTarget e no_exprs)) Stuck))
    go true is = (let x = alike (as_target e) e (as_target_same e is) in omega arith, λ h w. absurd cc)
    go false is = (tt, λ h w. tt)
leave_rises e target t = go (is_target e) refl
  where
    go : (b : Bool) → is_target e ≡ b → Grows (height (as_target e)) (cond b (Left e) Stuck) × (b ≡ false → true ≡ true → Grows (height (as_target (index e least_name))) (cond b (Left e) Stuck))
    go true is = (alike (as_target e) e (as_target_same e is), λ h w. absurd cc)
    go false is = (tt, λ h w. tt)
leave_rises e (targets f es) t_comma = go (is_target e) refl
  where
    go : (b : Bool) → is_target e ≡ b → Grows (height (tuple (exprs f (snoc es (as_target e))) false)) (cond b (Next (AfterTarget f (snoc es e))) Stuck) × (b ≡ false → true ≡ true → Grows (height (tuple (exprs f (snoc es (as_target (index e least_name)))) false)) (cond b (Next (AfterTarget f (snoc es e))) Stuck))
    go true is = (alike (tuple (exprs f (snoc es (as_target e))) false) (tuple (exprs f (snoc es e)) false) (ap (λ (x : Expr). tuple (exprs f (snoc es x)) false) (as_target_same e is)), λ h w. absurd cc)
    go false is = (tt, λ h w. tt)
leave_rises e (targets f es) t = go (is_target e) refl
  where
    go : (b : Bool) → is_target e ≡ b → Grows (height (tuple (exprs f (snoc es (as_target e))) false)) (cond b (Left (tuple (exprs f (snoc es e)) false)) Stuck) × (b ≡ false → true ≡ true → Grows (height (tuple (exprs f (snoc es (as_target (index e least_name)))) false)) (cond b (Left (tuple (exprs f (snoc es e)) false)) Stuck))
    go true is = (alike (tuple (exprs f (snoc es (as_target e))) false) (tuple (exprs f (snoc es e)) false) (ap (λ (x : Expr). tuple (exprs f (snoc es x)) false) (as_target_same e is)), λ h w. absurd cc)
    go false is = (tt, λ h w. tt)

close_grows : (o : Opener) (es : Exprs) (c : Bool) (k : Ctx) (t : TokenClass) (other : Out) (n : ℕ) → n ≤ height (whole k (fit k (made o es c))) → Grows n other → Grows n (close_items o es c k t other)
close_grows (a_call f) es c k t_right_paren other n le h = le
close_grows a_list es c k t_right_bracket other n le h = le
close_grows o es c k t other n le h = h

-- a step to where something higher stands that is no target
up : (k : Ctx) (e U : Expr) (o : Out) → suc (height e) ≤ height U → is_target U ≡ false → Grows (height (whole k U)) o → Rises e k o
up k e U o le is h =
    let some = height_some e in (
      grows_less (height (whole k e)) (height (whole k U)) o (whole_grows k e U (less_none (wants k) e U (omega arith) is)) h,
      λ no_target w. grows_less (height (whole k (index e least_name))) (height (whole k U)) o (whole_grows k (index e least_name) U (less (wants k) (index e least_name) U (omega arith) (λ x. refl))) h,
    )

-- the same after a postfix
up_fit : (k : Ctx) (e U : Expr) (o : Out) → suc (height e) ≤ height U → is_target U ≡ false → Grows (height (whole k (fit k U))) o → Rises e (on post_rest k) o
up_fit k e U o le is h =
    let some = height_some e in (
      grows_less (height (whole k (fit k e))) (height (whole k (fit k U))) o (fit_grows k e U (less_none (wants k) e U (omega arith) is)) h,
      λ no_target w. grows_less (height (whole k (fit k (index e least_name)))) (height (whole k (fit k U))) o (fit_grows k (index e least_name) U (less (wants k) (index e least_name) U (omega arith) (λ x. refl))) h,
    )

-- where nothing in the hole makes a target
flat : (k : Ctx) (e : Expr) (f : Frame) (o : Out) → wants (on f k) ≡ false → Grows (height (whole (on f k) e)) o → Rises e (on f k) o
flat k e f o never h = (h, λ no_target w. absurd (not_both (wants (on f k)) never w))

-- the items of a tuple, one of which is made a target
rest_item : (f : Expr) (es : Exprs) (e : Expr) (c : Bool) (w : Bool) → is_target e ≡ false → ((is_target f && are_targets es) && w) ≡ true → Less w (tuple (exprs f (snoc es (index e least_name))) false) (tuple (exprs f (snoc es e)) c)
rest_item f es e c w is all =
    let before = and_left (is_target f && are_targets es) w all in
    let last = and_right (is_target f && are_targets es) w all in
    let some = height_some e in
    less_item w (tuple (exprs f (snoc es (index e least_name))) false) (tuple (exprs f (snoc es e)) c) last
    (tuple_snoc f es (index e least_name) false ∙ true_and (is_target f && are_targets es) true before)
    (tuple_snoc f es e c ∙ true_and (is_target f && are_targets es) (is_target e) before ∙ is)
    (omega (arith, heights_snoc es (index e least_name), heights_snoc es e))

list_item : (es : Exprs) (e : Expr) (c : Bool) (w : Bool) → is_target e ≡ false → (are_targets es && w) ≡ true → Less w (list (snoc es (index e least_name)) false) (list (snoc es e) c)
list_item es e c w is all =
    let before = and_left (are_targets es) w all in
    let last = and_right (are_targets es) w all in
    let some = height_some e in
    less_item w (list (snoc es (index e least_name)) false) (list (snoc es e) c) last
    (targets_snoc es (index e least_name) ∙ true_and (are_targets es) true before)
    (targets_snoc es e ∙ true_and (are_targets es) (is_target e) before ∙ is)
    (omega (arith, heights_snoc es (index e least_name), heights_snoc es e))

-- what comes of what stood where a postfix might have gone on
past_post : (e : Expr) (k : Ctx) (o : Out) → Rises e k o → Rises e (on post_rest k) o
past_post e k o rec = (go (wants k) refl (is_target e) refl, λ h w. subst (λ (x : Expr). Grows (height (whole k x)) o) (sym (fit_index k e least_name)) (rec.1 h w))
  where
    go : (w : Bool) → wants k ≡ w → (b : Bool) → is_target e ≡ b → Grows (height (whole k (cond w (cond b e (index e least_name)) e))) o
    go true w true b = rec.0
    go true w false b = rec.1 b w
    go false w b is = rec.0

pub give_rises : (e : Expr) (k : Ctx) (t : TokenClass) → Rises e k (give e k t)
give_rises e (Outside g) t = leave_rises e g t
give_rises e (on exprs_first k) t_comma =
    let T = tuple (exprs e no_exprs) true in
    let some = height_some e in
    (whole_grows k e T (less (wants k) e T (omega arith) (λ x. and_true (is_target e) x)), λ h w. whole_grows k (index e least_name) T (less (wants k) (index e least_name) T (omega arith) (λ x. refl)))
give_rises e (on exprs_first k) t = give_rises e k t
give_rises e (on (exprs_rest f es) k) t_comma =
    let T = tuple (exprs f (snoc es e)) false in
    let U = tuple (exprs f (snoc es e)) true in
    (whole_grows k T U (less (wants k) T U (omega arith) (λ x. x)), λ h w. whole_grows k (tuple (exprs f (snoc es (index e least_name))) false) U (rest_item f es e true (wants k) h w))
give_rises e (on (exprs_rest f es) k) t =
    let T = tuple (exprs f (snoc es e)) false in
    let rec = give_rises T k t in
    (rec.0, λ h w. grows_less (height (whole k (tuple (exprs f (snoc es (index e least_name))) false))) (height (whole k T)) (give T k t) (whole_grows k (tuple (exprs f (snoc es (index e least_name))) false) T (rest_item f es e false (wants k) h w)) rec.0)
give_rises e (on cond_first k) t_if = up k e (tree_.cond e least_name least_name) (Next (Want LOr (on (cond_test e) k))) (omega arith) refl (omega arith)
give_rises e (on cond_first k) t = give_rises e k t
give_rises e (on (cond_test b) k) t_else = flat k e (cond_test b) (Next (Want LExpr (on (cond_else b e) k))) refl (omega arith)
give_rises e (on (cond_test b) k) t = (tt, λ h w. tt)
give_rises e (on (cond_else b c) k) t = flat k e (cond_else b c) (give (tree_.cond b c e) k t) refl (give_rises (tree_.cond b c e) k t).0
give_rises e (on (first l) k) (t_operator j) = go (same_precedence l (operator_precedence j)) (give_rises e k (t_operator j))
  where
    go : (b : Bool) → Rises e k (give e k (t_operator j)) → Rises e k (cond b (Next (Want (operator_right j) (on (right j e) k))) (give e k (t_operator j)))
    go true rec = up k e (joined j e least_name) (Next (Want (operator_right j) (on (right j e) k))) (omega (arith, joined_height j e least_name)) (joined_target j e least_name) (omega arith)
    go false rec = rec
give_rises e (on (first l) k) t = give_rises e k t
give_rises e (on (right i a) k) (t_operator j) = flat k e (right i a) (give e (on (right i a) k) (t_operator j)) refl (go (same_precedence (operator_precedence i) (operator_precedence j)) (give_rises (joined i a e) k (t_operator j)))
  where
    go : (b : Bool) → Rises (joined i a e) k (give (joined i a e) k (t_operator j)) → Grows (height (whole k (joined i a e))) (cond b (Next (Want (operator_right j) (on (right j (joined i a e)) k))) (give (joined i a e) k (t_operator j)))
    go true rec = let U = joined j (joined i a e) least_name in whole_grows k (joined i a e) U (less_none (wants k) (joined i a e) U (omega (arith, joined_height j (joined i a e) least_name)) (joined_target j (joined i a e) least_name))
    go false rec = rec.0
give_rises e (on (right i a) k) t = flat k e (right i a) (give (joined i a e) k t) refl (give_rises (joined i a e) k t).0
give_rises e (on not_of k) t = flat k e not_of (give (not' e) k t) refl (give_rises (not' e) k t).0
give_rises e (on compare_first k) (t_compare op) = up k e (compare e (link (Op op) least_name no_links)) (Next (Want LSum (on (compare_rest e no_links op) k))) (omega arith) refl (omega arith)
give_rises e (on compare_first k) t_not = up k e (compare e (link (Op cmp_.NotIn) least_name no_links)) (Next (AfterNot e no_links k)) (omega arith) refl (omega arith)
give_rises e (on compare_first k) t_is = up k e (compare e (link Is none no_links)) (Next (AfterIs e no_links k)) (omega arith) refl (omega arith)
give_rises e (on compare_first k) t = give_rises e k t
give_rises e (on (compare_rest a ls p) k) (t_compare op) = flat k e (compare_rest a ls p) (Next (Want LSum (on (compare_rest a (snoc_link ls (Op p) e) op) k))) refl (let ms = snoc_link ls (Op p) e in whole_grows k (compare a ms) (compare a (snoc_link ms (Op op) least_name)) (less_none (wants k) (compare a ms) (compare a (snoc_link ms (Op op) least_name)) (omega (arith, links_snoc ms (Op op) least_name)) refl))
give_rises e (on (compare_rest a ls p) k) t_not = flat k e (compare_rest a ls p) (Next (AfterNot a (snoc_link ls (Op p) e) k)) refl (let ms = snoc_link ls (Op p) e in whole_grows k (compare a ms) (compare a (snoc_link ms (Op cmp_.NotIn) least_name)) (less_none (wants k) (compare a ms) (compare a (snoc_link ms (Op cmp_.NotIn) least_name)) (omega (arith, links_snoc ms (Op cmp_.NotIn) least_name)) refl))
give_rises e (on (compare_rest a ls p) k) t_is = flat k e (compare_rest a ls p) (Next (AfterIs a (snoc_link ls (Op p) e) k)) refl (let ms = snoc_link ls (Op p) e in whole_grows k (compare a ms) (compare a (snoc_link ms Is none)) (less_none (wants k) (compare a ms) (compare a (snoc_link ms Is none)) (omega (arith, links_snoc ms Is none)) refl))
give_rises e (on (compare_rest a ls p) k) t = flat k e (compare_rest a ls p) (give (compare a (snoc_link ls (Op p) e)) k t) refl (give_rises (compare a (snoc_link ls (Op p) e)) k t).0
give_rises e (on (unary_of s) k) t = flat k e (unary_of s) (give (unary s e) k t) refl (give_rises (unary s e) k t).0
give_rises e (on post_rest k) t_left_paren = up_fit k e (call e no_exprs false) (Next (ItemsOpen (a_call e) k)) (omega arith) refl (omega arith)
give_rises e (on post_rest k) t_left_bracket = (whole_grows k (fit k e) (index e least_name) (less_index (wants k) e), λ h w. alike (whole k (fit k (index e least_name))) (whole k (index e least_name)) (ap (whole k) (fit_index k e least_name)))
give_rises e (on post_rest k) t_dot = up_fit k e (attr e []) (Next (AfterDot e k)) (omega arith) refl (omega arith)
give_rises e (on post_rest k) t = past_post e k (give e k t) (give_rises e k t)
give_rises e (on (in_items (a_call f) es) k) t_comma = flat k e (in_items (a_call f) es) (Next (ItemsComma (a_call f) (snoc es e) k)) refl (fit_grows k (call f (snoc es e) false) (call f (snoc es e) true) (less (wants k) (call f (snoc es e) false) (call f (snoc es e) true) (omega arith) (λ x. x)))
give_rises e (on (in_items a_list es) k) t_comma = (fit_grows k (list (snoc es e) false) (list (snoc es e) true) (less (wants k) (list (snoc es e) false) (list (snoc es e) true) (omega arith) (λ x. x)), λ h w. fit_grows k (list (snoc es (index e least_name)) false) (list (snoc es e) true) (list_item es e true (wants k) h w))
give_rises e (on (in_items (a_call f) es) k) t = flat k e (in_items (a_call f) es) (close_items (a_call f) (snoc es e) false k t Stuck) refl (close_grows (a_call f) (snoc es e) false k t Stuck (height (whole k (fit k (call f (snoc es e) false)))) (omega arith) tt)
give_rises e (on (in_items a_list es) k) t = (close_grows a_list (snoc es e) false k t Stuck (height (whole k (fit k (list (snoc es e) false)))) (omega arith) tt, λ h w. close_grows a_list (snoc es e) false k t Stuck (height (whole k (fit k (list (snoc es (index e least_name)) false)))) (fit_grows k (list (snoc es (index e least_name)) false) (list (snoc es e) false) (list_item es e false (wants k) h w)) tt)
give_rises e (on (index_first f) k) t_comma = flat k e (index_first f) (Next (AfterComma e no_exprs (on (in_index f) k))) refl (let T = index f (tuple (exprs e no_exprs) true) in whole_grows k (index f e) T (less (wants k) (index f e) T (omega arith) (λ x. refl)))
give_rises e (on (index_first f) k) t_colon = flat k e (index_first f) (Next (SliceColon f (present e) k)) refl (whole_grows k (index f e) (fit k (slice f (present e) absent)) (less_fit (wants k) (index f e) (slice f (present e) absent) refl (omega arith)))
give_rises e (on (index_first f) k) t_right_bracket = flat k e (index_first f) (Next (Have (index f e) (on post_rest k))) refl (alike (whole k (index f e)) (whole k (fit k (index f e))) (ap (whole k) (sym (fit_index k f e))))
give_rises e (on (index_first f) k) t = (tt, λ h w. tt)
give_rises e (on (in_index f) k) t_right_bracket = flat k e (in_index f) (Next (Have (index f e) (on post_rest k))) refl (alike (whole k (index f e)) (whole k (fit k (index f e))) (ap (whole k) (sym (fit_index k f e))))
give_rises e (on (in_index f) k) t = (tt, λ h w. tt)
give_rises e (on (slice_to f from) k) t_right_bracket = flat k e (slice_to f from) (Next (Have (slice f from (present e)) (on post_rest k))) refl (omega arith)
give_rises e (on (slice_to f from) k) t = (tt, λ h w. tt)
give_rises e (on in_paren k) t_right_paren = (omega arith, λ h w. let some = height_some e in fit_grows k (paren (index e least_name)) (paren e) (less_item (wants k) (paren (index e least_name)) (paren e) w refl h (omega arith)))
give_rises e (on in_paren k) t = (tt, λ h w. tt)
give_rises e (on (in_key ps) k) t_colon = flat k e (in_key ps) (Next (Want LExpr (on (in_value ps e) k))) refl (omega arith)
give_rises e (on (in_key ps) k) t = (tt, λ h w. tt)
give_rises e (on (in_value ps key) k) t_comma = flat k e (in_value ps key) (Next (DictComma (snoc_pair ps key e) k)) refl (fit_grows k (dict (snoc_pair ps key e) false) (dict (snoc_pair ps key e) true) (less (wants k) (dict (snoc_pair ps key e) false) (dict (snoc_pair ps key e) true) (omega arith) (λ x. x)))
give_rises e (on (in_value ps key) k) t_right_brace = flat k e (in_value ps key) (Next (Have (dict (snoc_pair ps key e) false) (on post_rest k))) refl (omega arith)
give_rises e (on (in_value ps key) k) t = (tt, λ h w. tt)

-- ---- an expression begins

atom_grows : (e : Expr) (lev : Precedence) (k : Ctx) (n : ℕ) → n ≤ height (whole k least_name) → n ≤ height (whole (upto lev LPost k) e)
atom_grows e lev k n h =
    let some = height_some e in
    let more = whole_grows k least_name (fit k e) (less_fit (wants k) least_name e refl (omega arith)) in
    rw (post_whole lev k e) (omega arith)

begin_grows : (lev : Precedence) (k : Ctx) (t : TokenClass) (n : ℕ) → n ≤ height (whole k least_name) → Grows n (begin lev k t)
begin_grows lev k (t_name x) n h = atom_grows (name x) lev k n h
begin_grows lev k (t_int x) n h = atom_grows (int x) lev k n h
begin_grows lev k t_none n h = atom_grows none lev k n h
begin_grows lev k (t_bool x) n h = atom_grows (bool x) lev k n h
begin_grows lev k (t_string x) n h = atom_grows (str (x ∷ [])) lev k n h
begin_grows lev k (t_format ps) n h = atom_grows (fstr (format ps no_fragments)) lev k n h
begin_grows lev k t_not n h = go (at_most lev LNot)
  where
    go : (b : Bool) → Grows n (cond b (Next (Want LNot (on not_of (upto_and lev k)))) Stuck)
    go true = let more = whole_grows k least_name (not' least_name) (less_none (wants k) least_name (not' least_name) (omega arith) refl) in rw (and_whole lev k (not' least_name)) (omega arith)
    go false = tt
begin_grows lev k (t_operator (b_op op_.Add)) n h = go (at_most lev LUnary)
  where
    go : (b : Bool) → Grows n (cond b (Next (Want LUnary (on (unary_of sign_.Plus) (upto_term lev k)))) Stuck)
    go true = let U = unary sign_.Plus least_name in let more = whole_grows k least_name U (less_none (wants k) least_name U (omega arith) refl) in rw (term_whole lev k U) (omega arith)
    go false = tt
begin_grows lev k (t_operator (b_op op_.Sub)) n h = go (at_most lev LUnary)
  where
    go : (b : Bool) → Grows n (cond b (Next (Want LUnary (on (unary_of sign_.Minus) (upto_term lev k)))) Stuck)
    go true = let U = unary sign_.Minus least_name in let more = whole_grows k least_name U (less_none (wants k) least_name U (omega arith) refl) in rw (term_whole lev k U) (omega arith)
    go false = tt
begin_grows lev k t_left_paren n h = atom_grows (tuple no_exprs false) lev k n h
begin_grows lev k t_left_bracket n h = atom_grows (list no_exprs false) lev k n h
begin_grows lev k t_left_brace n h = atom_grows (dict no_pairs false) lev k n h
begin_grows lev k t n h = tt

-- ---- strings

pub strings_target : (fs : Fragments) → is_target (strings_of fs) ≡ false
strings_target fs = elim (has_format fs) as (λ b. is_target (cond b (fstr fs) (str (texts fs))) ≡ false) [ true ↦ refl | false ↦ refl ]

pub plain_snoc : (fs : Fragments) (x : Text) → (has_format (snoc_plain fs x) ≡ has_format fs) × (height_fragments (snoc_plain fs x) ≡ height_fragments fs)
plain_snoc no_fragments x = (refl, refl)
plain_snoc (plain y fs) x = plain_snoc fs x
plain_snoc (format ps fs) x = (refl, ap (λ (n : ℕ). max (height_parts ps) n) (plain_snoc fs x).1)

pub format_snoc : (fs : Fragments) (qs : Parts) → (has_format (snoc_format fs qs) ≡ true) × (height_fragments (snoc_format fs qs) ≡ max (height_fragments fs) (height_parts qs))
format_snoc no_fragments qs = (refl, omega arith)
format_snoc (plain y fs) qs = format_snoc fs qs
format_snoc (format ps fs) qs = (refl, let h = (format_snoc fs qs).1 in omega arith)

plain_rises : (fs : Fragments) (x : Text) → height (strings_of fs) ≤ height (strings_of (snoc_plain fs x))
plain_rises fs x = let is = plain_snoc fs x in let n = is.1 in go (has_format fs) (has_format (snoc_plain fs x)) is.0 n
  where
    go : (a b : Bool) → b ≡ a → height_fragments (snoc_plain fs x) ≡ height_fragments fs → height (cond a (fstr fs) (str (texts fs))) ≤ height (cond b (fstr (snoc_plain fs x)) (str (texts (snoc_plain fs x))))
    go true true i n = omega arith
    go false false i n = omega arith
    go true false i n = absurd cc
    go false true i n = absurd cc

format_rises : (fs : Fragments) (qs : Parts) → height (strings_of fs) ≤ height (strings_of (snoc_format fs qs))
format_rises fs qs = let is = format_snoc fs qs in let n = is.1 in go (has_format fs) (has_format (snoc_format fs qs)) is.0 n
  where
    go : (a b : Bool) → b ≡ true → height_fragments (snoc_format fs qs) ≡ max (height_fragments fs) (height_parts qs) → height (cond a (fstr fs) (str (texts fs))) ≤ height (cond b (fstr (snoc_format fs qs)) (str (texts (snoc_format fs qs))))
    go true true i n = omega arith
    go false true i n = omega arith
    go a false i n = absurd cc

-- ---- all states

made_rises : (o : Opener) (es : Exprs) (c d : Bool) (w : Bool) → Less w (made o es c) (made o (snoc es least_name) d)
made_rises (a_call f) es c d w = less_none w (call f es c) (call f (snoc es least_name) d) (omega (arith, heights_snoc es least_name)) refl
made_rises a_list es c d w = less w (list es c) (list (snoc es least_name) d) (omega (arith, heights_snoc es least_name)) (λ x. and_left (are_targets es) true (sym (targets_snoc es least_name) ∙ x))

linked_rises : (a : Expr) (ls : Links) (op : Comparison) (e : Expr) (k : Ctx) → height (whole k (compare a ls)) ≤ height (whole k (compare a (snoc_link ls op e)))
linked_rises a ls op e k = whole_grows k (compare a ls) (compare a (snoc_link ls op e)) (less_none (wants k) (compare a ls) (compare a (snoc_link ls op e)) (omega (arith, links_snoc ls op e)) refl)

constant_rises : (a : Expr) (ls : Links) (op p : Comparison) (e f : Expr) (k : Ctx) → height e ≤ height f → height (whole k (compare a (snoc_link ls op e))) ≤ height (whole k (compare a (snoc_link ls p f)))
constant_rises a ls op p e f k h = whole_grows k (compare a (snoc_link ls op e)) (compare a (snoc_link ls p f)) (less_none (wants k) (compare a (snoc_link ls op e)) (compare a (snoc_link ls p f)) (omega (arith, links_snoc ls op e, links_snoc ls p f)) refl)

pub step_grows : (s : State) (t : TokenClass) → Grows (least s) (step s t)
step_grows (Want lev k) t = begin_grows lev k t (height (whole k least_name)) (omega arith)
step_grows (Have e k) t = (give_rises e k t).0
step_grows (Strings fs k) (t_string x) = whole_grows k (strings_of fs) (strings_of (snoc_plain fs x)) (less_none (wants k) (strings_of fs) (strings_of (snoc_plain fs x)) (plain_rises fs x) (strings_target (snoc_plain fs x)))
step_grows (Strings fs k) (t_format ps) = whole_grows k (strings_of fs) (strings_of (snoc_format fs ps)) (less_none (wants k) (strings_of fs) (strings_of (snoc_format fs ps)) (format_rises fs ps) (strings_target (snoc_format fs ps)))
step_grows (Strings fs k) (t_bad_format ps) = tt
step_grows (Strings fs k) t = (give_rises (strings_of fs) k t).0
step_grows (AfterOpen k) t_right_paren = omega arith
step_grows (AfterOpen k) t = begin_grows LExprs (on in_paren k) t (height (whole k (fit k (tuple no_exprs false)))) (fit_grows k (tuple no_exprs false) (paren least_name) (less (wants k) (tuple no_exprs false) (paren least_name) (omega arith) (λ x. refl)))
step_grows (AfterComma f es k) t = go (begins t)
  where
    T : Expr
    T = tuple (exprs f es) true

    go : (b : Bool) → Grows (height (whole k (tuple (exprs f es) true))) (cond b (begin LExpr (on (exprs_rest f es) k) t) (give (tuple (exprs f es) true) k t))
    go true = begin_grows LExpr (on (exprs_rest f es) k) t (height (whole k (tuple (exprs f es) true))) (whole_grows k (tuple (exprs f es) true) (tuple (exprs f (snoc es least_name)) false) (less (wants k) (tuple (exprs f es) true) (tuple (exprs f (snoc es least_name)) false) (omega (arith, heights_snoc es least_name)) (λ x. and_left (is_target f && are_targets es) true (sym (tuple_snoc f es least_name false) ∙ x))))
    go false = (give_rises (tuple (exprs f es) true) k t).0
step_grows (AfterTarget f es) t = go (begins t)
  where
    go : (b : Bool) → Grows (height (tuple (exprs f es) true)) (cond b (begin LPost (Outside (targets f es)) t) (Left (tuple (exprs f es) true)))
    go true = begin_grows LPost (Outside (targets f es)) t (height (tuple (exprs f es) true)) (omega (arith, heights_snoc es least_name))
    go false = omega arith
step_grows (ItemsOpen o k) t = close_grows o no_exprs false k t (begin LExpr (on (in_items o no_exprs) k) t) (height (whole k (fit k (made o no_exprs false)))) (omega arith) (begin_grows LExpr (on (in_items o no_exprs) k) t (height (whole k (fit k (made o no_exprs false)))) (fit_grows k (made o no_exprs false) (made o (snoc no_exprs least_name) false) (made_rises o no_exprs false false (wants k))))
step_grows (ItemsComma o es k) t = close_grows o es true k t (begin LExpr (on (in_items o es) k) t) (height (whole k (fit k (made o es true)))) (omega arith) (begin_grows LExpr (on (in_items o es) k) t (height (whole k (fit k (made o es true)))) (fit_grows k (made o es true) (made o (snoc es least_name) false) (made_rises o es true false (wants k))))
step_grows (DictOpen k) t_right_brace = omega arith
step_grows (DictOpen k) t = begin_grows LExpr (on (in_key no_pairs) k) t (height (whole k (fit k (dict no_pairs false)))) (let D = dict (pair least_name least_name no_pairs) false in fit_grows k (dict no_pairs false) D (less_none (wants k) (dict no_pairs false) D (omega arith) refl))
step_grows (DictComma ps k) t_right_brace = omega arith
step_grows (DictComma ps k) t = begin_grows LExpr (on (in_key ps) k) t (height (whole k (fit k (dict ps true)))) (let D = dict (snoc_pair ps least_name least_name) false in fit_grows k (dict ps true) D (less_none (wants k) (dict ps true) D (omega (arith, entries_snoc ps least_name least_name)) refl))
step_grows (IndexOpen f k) t_colon = let some = height_some f in whole_grows k (index f least_name) (fit k (slice f absent absent)) (less_fit (wants k) (index f least_name) (slice f absent absent) refl (omega arith))
step_grows (IndexOpen f k) t = begin_grows LExpr (on (index_first f) k) t (height (whole k (index f least_name))) (omega arith)
step_grows (SliceColon f from k) t_right_bracket = omega arith
step_grows (SliceColon f from k) t = begin_grows LExpr (on (slice_to f from) k) t (height (whole k (fit k (slice f from absent)))) (fit_grows k (slice f from absent) (slice f from (present least_name)) (less_none (wants k) (slice f from absent) (slice f from (present least_name)) (omega arith) refl))
step_grows (AfterDot f k) (t_name x) = fit_grows k (attr f []) (attr f x) (less_none (wants k) (attr f []) (attr f x) (omega arith) refl)
step_grows (AfterDot f k) t = tt
step_grows (AfterNot a ls k) (t_compare cmp_.In) = omega arith
step_grows (AfterNot a ls k) t = tt
step_grows (AfterIs a ls k) t_not = constant_rises a ls Is IsNot none none k (omega arith)
step_grows (AfterIs a ls k) t_none = omega arith
step_grows (AfterIs a ls k) (t_bool b) = constant_rises a ls Is Is none (bool b) k (omega arith)
step_grows (AfterIs a ls k) t = tt
step_grows (AfterIsNot a ls k) t_none = omega arith
step_grows (AfterIsNot a ls k) (t_bool b) = constant_rises a ls IsNot IsNot none (bool b) k (omega arith)
step_grows (AfterIsNot a ls k) t = tt
step_grows (Linked a ls k) (t_compare op) = linked_rises a ls (Op op) least_name k
step_grows (Linked a ls k) t_not = linked_rises a ls (Op cmp_.NotIn) least_name k
step_grows (Linked a ls k) t_is = linked_rises a ls Is none k
step_grows (Linked a ls k) t = (give_rises (compare a ls) k t).0
