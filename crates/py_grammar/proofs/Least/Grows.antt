-- A larger part makes a larger whole, also where a target is wanted.
use Rattle.std.proofs.Common.{◌≡◌, ℕ, suc, ◌≤◌, max, Bool, true, false, cond, ◌&&◌, refl, sym, ◌∙◌, arith}
use Rattle.py_syntax.specs.declared.expr.Comparison.{Comparison}
use Rattle.py_syntax.specs.declared.expr.Comparison.TheVariants.{Op}
use Rattle.py_syntax.specs.Tree.{Expr, tuple, list, dict, paren, not', or, unary, compare, call, index, slice, Exprs, no_exprs, exprs, Pairs, no_pairs, pair, Links, no_links, link, present}
use Rattle.py_syntax.specs.Tree as tree_
use Rattle.py_syntax.specs.Normal.{is_target, are_targets, height, heights, height_entries, height_links}
use Rattle.py_grammar.specs.TokenClasses.{BinaryOperator, b_or, b_and, b_op, joined}
use Rattle.py_grammar.specs.Machine.{snoc, snoc_pair, snoc_link, any, one, target, targets, a_call, a_list, exprs_first, exprs_rest, cond_first, cond_test, cond_else, first, right, not_of, compare_first, compare_rest, unary_of, post_rest, in_items, index_first, in_index, slice_to, in_paren, in_key, in_value, Ctx, Outside, on}
use Rattle.py_grammar.specs.Least.{least_name, as_target, target_if, wants, fit, whole}
use Rattle.py_grammar.proofs.Least.Finish.{as_target_is, as_target_same}

-- ---- heights

pub height_some : (e : Expr) → 1 ≤ height e
height_some (tuple es c) = omega arith
height_some e = omega arith

pub heights_snoc : (es : Exprs) (e : Expr) → heights (snoc es e) ≡ max (heights es) (height e)
heights_snoc no_exprs e = omega arith
heights_snoc (exprs f es) e = let h = heights_snoc es e in omega arith

pub entries_snoc : (ps : Pairs) (k v : Expr) → height_entries (snoc_pair ps k v) ≡ max (height_entries ps) (max (height k) (height v))
entries_snoc no_pairs k v = omega arith
entries_snoc (pair k' v' ps) k v = let h = entries_snoc ps k v in omega arith

pub links_snoc : (ls : Links) (op : Comparison) (e : Expr) → height_links (snoc_link ls op e) ≡ max (height_links ls) (height e)
links_snoc no_links op e = omega arith
links_snoc (link op' e' ls) op e = let h = links_snoc ls op e in omega arith

pub joined_height : (j : BinaryOperator) (a b : Expr) → height (joined j a b) ≡ suc (max (height a) (height b))
joined_height b_or a b = refl
joined_height b_and a b = refl
joined_height (b_op op) a b = refl

pub joined_target : (j : BinaryOperator) (a b : Expr) → is_target (joined j a b) ≡ false
joined_target b_or a b = refl
joined_target b_and a b = refl
joined_target (b_op op) a b = refl

-- ---- targets

pub targets_snoc : (es : Exprs) (e : Expr) → are_targets (snoc es e) ≡ (are_targets es && is_target e)
targets_snoc no_exprs e = elim (is_target e) as (λ b. (b && true) ≡ b) [ true ↦ refl | false ↦ refl ]
targets_snoc (exprs f es) e = go (is_target f) (are_targets es) (is_target e) (are_targets (snoc es e)) (targets_snoc es e)
  where
    go : (a b c d : Bool) → d ≡ (b && c) → (a && d) ≡ ((a && b) && c)
    go true b c d h = h
    go false b c d h = refl

pub tuple_snoc : (f : Expr) (es : Exprs) (e : Expr) (c : Bool) → is_target (tuple (exprs f (snoc es e)) c) ≡ ((is_target f && are_targets es) && is_target e)
tuple_snoc f es e c = go (is_target f) (are_targets es) (is_target e) (are_targets (snoc es e)) (targets_snoc es e)
  where
    go : (a b c d : Bool) → d ≡ (b && c) → (a && d) ≡ ((a && b) && c)
    go true b c d h = h
    go false b c d h = refl

pub and_left : (a b : Bool) → (a && b) ≡ true → a ≡ true
and_left true b h = refl
and_left false b h = absurd cc

pub and_right : (a b : Bool) → (a && b) ≡ true → b ≡ true
and_right true b h = h
and_right false b h = absurd cc

pub and_true : (b : Bool) → (b && true) ≡ true → b ≡ true
and_true true h = refl
and_true false h = absurd cc

pub true_and : (a b : Bool) → a ≡ true → (a && b) ≡ b
true_and true b h = refl
true_and false b h = absurd cc

-- ---- one part is no larger than another, where a target is wanted or not

abbrev pub Less : Bool → Expr → Expr → Type 0
Less false e f = height e ≤ height f
Less true e f = (is_target f ≡ true → is_target e ≡ true) × (height (as_target e) ≤ height (as_target f))

pub less : (w : Bool) (e f : Expr) → height e ≤ height f → (is_target f ≡ true → is_target e ≡ true) → Less w e f
less false e f h imp = h
less true e f h imp = (imp, go (is_target e) (is_target f) imp)
  where
    go : (a b : Bool) → (b ≡ true → a ≡ true) → height (cond a e (index e least_name)) ≤ height (cond b f (index f least_name))
    go true true i = h
    go true false i = omega arith
    go false true i = let no_way = i refl in absurd cc
    go false false i = omega arith

-- after what is no target
pub less_none : (w : Bool) (e f : Expr) → height e ≤ height f → is_target f ≡ false → Less w e f
less_none w e f h is = less w e f h (λ yes_it. let no_way = sym is ∙ yes_it in absurd cc)

-- a target with a part that was made one
pub less_item : (w : Bool) (e f : Expr) → w ≡ true → is_target e ≡ true → is_target f ≡ false → height e ≤ suc (height f) → Less w e f
less_item false e f w a b h = absurd cc
less_item true e f w a b h = ((λ x. a), go (is_target e) a (is_target f) b)
  where
    go : (x : Bool) → x ≡ true → (y : Bool) → y ≡ false → height (cond x e (index e least_name)) ≤ height (cond y f (index f least_name))
    go true i false j = omega arith
    go true i true j = absurd cc
    go false i y j = absurd cc

-- what is made a target
pub less_fit : (w : Bool) (e f : Expr) → is_target e ≡ true → height e ≤ height f → Less w e (target_if w f)
less_fit false e f a h = h
less_fit true e f a h = ((λ x. a), go (is_target e) a)
  where
    some : height f ≤ height (as_target f)
    some = elim (is_target f) as (λ b. height f ≤ height (cond b f (index f least_name))) [ true ↦ omega arith | false ↦ omega arith ]

    twice : as_target (as_target f) ≡ as_target f
    twice = as_target_same (as_target f) (as_target_is f)

    go : (x : Bool) → x ≡ true → height (cond x e (index e least_name)) ≤ height (as_target (as_target f))
    go true i = rw twice (omega (arith, some))
    go false i = absurd cc

less_fits : (w : Bool) (e f : Expr) → Less w e f → Less w (target_if w e) (target_if w f)
less_fits false e f h = h
less_fits true e f h =
    let one = as_target_same (as_target e) (as_target_is e) in
    let two = as_target_same (as_target f) (as_target_is f) in
    ((λ x. as_target_is e), rw one (rw two h.1))

pub less_index : (w : Bool) (e : Expr) → Less w (target_if w e) (index e least_name)
less_index false e = omega arith
less_index true e = ((λ x. as_target_is e), rw (as_target_same (as_target e) (as_target_is e)) (go (is_target e)))
  where
    go : (b : Bool) → height (cond b e (index e least_name)) ≤ height (index e least_name)
    go true = omega arith
    go false = omega arith

-- A part among others that are targets or not, in what is a target exactly where all are.
less_in : (S w : Bool) (H : ℕ) (e f T U : Expr) → is_target T ≡ (S && is_target e) → is_target U ≡ (S && is_target f) → height T ≡ suc (max H (height e)) → height U ≡ suc (max H (height f)) → Less (S && w) e f → Less w T U
less_in S false H e f T U te tf he hf h = flat S h
  where
    flat : (S : Bool) → Less (S && false) e f → height T ≤ height U
    flat true h = omega arith
    flat false h = omega arith
less_in false true H e f T U te tf he hf h = less_none true T U (omega arith) tf
less_in true true H e f T U te tf he hf h = ((λ x. te ∙ h.0 (sym tf ∙ x)), go (is_target e) (is_target f) (is_target T) (is_target U) te tf h.0 h.1)
  where
    go : (a b c d : Bool) → c ≡ a → d ≡ b → (b ≡ true → a ≡ true) → height (cond a e (index e least_name)) ≤ height (cond b f (index f least_name)) → height (cond c T (index T least_name)) ≤ height (cond d U (index U least_name))
    go true true true true i j imp l = omega arith
    go true false true false i j imp l = let s = height_some f in omega arith
    go false true c d i j imp l = let no_way = imp refl in absurd cc
    go false false false false i j imp l = let s = height_some e in let r = height_some f in omega arith
    go true b false d i j imp l = absurd cc
    go false b true d i j imp l = absurd cc
    go a true c false i j imp l = absurd cc
    go a false c true i j imp l = absurd cc

-- ---- a larger part makes a larger whole

pub less_rest : (f : Expr) (es : Exprs) (w : Bool) (e g : Expr) → Less ((is_target f && are_targets es) && w) e g → Less w (tuple (exprs f (snoc es e)) false) (tuple (exprs f (snoc es g)) false)
less_rest f es w e g h = less_in (is_target f && are_targets es) w (max (height f) (heights es)) e g (tuple (exprs f (snoc es e)) false) (tuple (exprs f (snoc es g)) false) (tuple_snoc f es e false) (tuple_snoc f es g false) (omega (arith, heights_snoc es e)) (omega (arith, heights_snoc es g)) h

pub less_list : (es : Exprs) (w : Bool) (e g : Expr) → Less (are_targets es && w) e g → Less w (list (snoc es e) false) (list (snoc es g) false)
less_list es w e g h = less_in (are_targets es) w (heights es) e g (list (snoc es e) false) (list (snoc es g) false) (targets_snoc es e) (targets_snoc es g) (omega (arith, heights_snoc es e)) (omega (arith, heights_snoc es g)) h

pub less_paren : (w : Bool) (e g : Expr) → Less w e g → Less w (paren e) (paren g)
less_paren w e g h = less_in true w 0 e g (paren e) (paren g) refl refl (omega arith) (omega arith) h

pub whole_grows : (k : Ctx) (e f : Expr) → Less (wants k) e f → height (whole k e) ≤ height (whole k f)
whole_grows (Outside any) e f h = h
whole_grows (Outside one) e f h = h
whole_grows (Outside target) e f h = h.1
whole_grows (Outside (targets g es)) e f h = omega (arith, heights_snoc es (as_target e), heights_snoc es (as_target f), h.1)
whole_grows (on exprs_first k) e f h = whole_grows k e f h
whole_grows (on (exprs_rest g es) k) e f h = whole_grows k (tuple (exprs g (snoc es e)) false) (tuple (exprs g (snoc es f)) false) (less_rest g es (wants k) e f h)
whole_grows (on cond_first k) e f h = whole_grows k e f h
whole_grows (on (cond_test b) k) e f h = whole_grows k (tree_.cond b e least_name) (tree_.cond b f least_name) (less_none (wants k) (tree_.cond b e least_name) (tree_.cond b f least_name) (omega arith) refl)
whole_grows (on (cond_else b c) k) e f h = whole_grows k (tree_.cond b c e) (tree_.cond b c f) (less_none (wants k) (tree_.cond b c e) (tree_.cond b c f) (omega arith) refl)
whole_grows (on (first l) k) e f h = whole_grows k e f h
whole_grows (on (right j a) k) e f h = whole_grows k (joined j a e) (joined j a f) (less_none (wants k) (joined j a e) (joined j a f) (omega (arith, joined_height j a e, joined_height j a f)) (joined_target j a f))
whole_grows (on not_of k) e f h = whole_grows k (not' e) (not' f) (less_none (wants k) (not' e) (not' f) (omega arith) refl)
whole_grows (on compare_first k) e f h = whole_grows k e f h
whole_grows (on (compare_rest a ls op) k) e f h = whole_grows k (compare a (snoc_link ls (Op op) e)) (compare a (snoc_link ls (Op op) f)) (less_none (wants k) (compare a (snoc_link ls (Op op) e)) (compare a (snoc_link ls (Op op) f)) (omega (arith, links_snoc ls (Op op) e, links_snoc ls (Op op) f)) refl)
whole_grows (on (unary_of s) k) e f h = whole_grows k (unary s e) (unary s f) (less_none (wants k) (unary s e) (unary s f) (omega arith) refl)
whole_grows (on post_rest k) e f h = whole_grows k (fit k e) (fit k f) (less_fits (wants k) e f h)
whole_grows (on (in_items (a_call g) es) k) e f h = let E = call g (snoc es e) false in let F = call g (snoc es f) false in whole_grows k (fit k E) (fit k F) (less_fits (wants k) E F (less_none (wants k) E F (omega (arith, heights_snoc es e, heights_snoc es f)) refl))
whole_grows (on (in_items a_list es) k) e f h = let E = list (snoc es e) false in let F = list (snoc es f) false in whole_grows k (fit k E) (fit k F) (less_fits (wants k) E F (less_list es (wants k) e f h))
whole_grows (on (index_first g) k) e f h = whole_grows k (index g e) (index g f) (less (wants k) (index g e) (index g f) (omega arith) (λ x. refl))
whole_grows (on (in_index g) k) e f h = whole_grows k (index g e) (index g f) (less (wants k) (index g e) (index g f) (omega arith) (λ x. refl))
whole_grows (on (slice_to g from) k) e f h = let E = slice g from (present e) in let F = slice g from (present f) in whole_grows k (fit k E) (fit k F) (less_fits (wants k) E F (less_none (wants k) E F (omega arith) refl))
whole_grows (on in_paren k) e f h = whole_grows k (fit k (paren e)) (fit k (paren f)) (less_fits (wants k) (paren e) (paren f) (less_paren (wants k) e f h))
whole_grows (on (in_key ps) k) e f h = let E = dict (snoc_pair ps e least_name) false in let F = dict (snoc_pair ps f least_name) false in whole_grows k (fit k E) (fit k F) (less_fits (wants k) E F (less_none (wants k) E F (omega (arith, entries_snoc ps e least_name, entries_snoc ps f least_name)) refl))
whole_grows (on (in_value ps key) k) e f h = let E = dict (snoc_pair ps key e) false in let F = dict (snoc_pair ps key f) false in whole_grows k (fit k E) (fit k F) (less_fits (wants k) E F (less_none (wants k) E F (omega (arith, entries_snoc ps key e, entries_snoc ps key f)) refl))

-- the same where a postfix may go on
pub fit_grows : (k : Ctx) (e f : Expr) → Less (wants k) e f → height (whole k (fit k e)) ≤ height (whole k (fit k f))
fit_grows k e f h = whole_grows k (fit k e) (fit k f) (less_fits (wants k) e f h)
