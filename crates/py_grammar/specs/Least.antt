-- The least tree that a state can be completed to.
--     least_name, as_target, target_if     the least expression, and one made a target
--     targets_so_far, wants                whether all that is open can still become a target
--     fit, whole                           what comes of a stack with an expression in its hole
--     finished, least                      the least tree of a state, and its height
use Rattle.std.specs.Prelude.{ℕ, Bool, true, false, cond, ◌&&◌, []}
use Rattle.py_operator.specs.declared.operator.CmpOp.TheVariants as cmp_
use Rattle.py_syntax.specs.declared.expr.Comparison.TheVariants.{Op, Is, IsNot}
use Rattle.py_syntax.specs.Tree.{Expr, name, none, tuple, dict, paren, not', unary, compare, index, slice, attr, no_exprs, exprs, no_pairs, absent, present}
use Rattle.py_syntax.specs.Tree as tree_
use Rattle.py_syntax.specs.Normal.{is_target, are_targets, height}
use Rattle.py_grammar.specs.TokenClasses.{joined}
use Rattle.py_grammar.specs.Machine.{snoc, snoc_pair, snoc_link, strings_of, Goal, target, targets, a_list, made, exprs_first, exprs_rest, cond_first, cond_test, cond_else, first, right, not_of, compare_first, compare_rest, unary_of, post_rest, in_items, index_first, in_index, slice_to, in_paren, in_key, in_value, Ctx, Outside, on, State, Want, Have, Strings, AfterOpen, AfterComma, AfterTarget, ItemsOpen, ItemsComma, DictOpen, DictComma, IndexOpen, SliceColon, AfterDot, AfterNot, AfterIs, AfterIsNot, Linked}

-- the least expression
abbrev pub least_name : Expr
least_name = name []

-- an expression, and after it an index where it has to be a target and is none
abbrev pub as_target : Expr → Expr
as_target e = cond (is_target e) e (index e least_name)

-- the same where a target is wanted, or the expression as it is
abbrev pub target_if : Bool → Expr → Expr
target_if wanted e = cond wanted (as_target e) e

-- whether the whole is to be a target
abbrev pub targets_so_far : Goal → Bool
targets_so_far target = true
targets_so_far (targets f es) = true
targets_so_far g = false

-- Whether all that is open can still become a target by what stands in the hole alone.
abbrev pub wants : Ctx → Bool
wants (Outside g) = targets_so_far g
wants (on exprs_first k) = wants k
wants (on (exprs_rest f es) k) = (is_target f && are_targets es) && wants k
wants (on cond_first k) = wants k
wants (on (first l) k) = wants k
wants (on compare_first k) = wants k
wants (on post_rest k) = wants k
wants (on (in_items a_list es) k) = are_targets es && wants k
wants (on in_paren k) = wants k
wants (on f k) = false

-- what stands where a postfix stands
abbrev pub fit : Ctx → Expr → Expr
fit k e = target_if (wants k) e

-- The expression that comes of a stack with this one in its hole, where nothing is added but what
-- has to be.
abbrev pub whole : Ctx → Expr → Expr
whole (Outside (targets f es)) e = tuple (exprs f (snoc es (as_target e))) false
whole (Outside g) e = target_if (targets_so_far g) e
whole (on exprs_first k) e = whole k e
whole (on (exprs_rest f es) k) e = whole k (tuple (exprs f (snoc es e)) false)
whole (on cond_first k) e = whole k e
whole (on (cond_test b) k) e = whole k (tree_.cond b e least_name)
whole (on (cond_else b c) k) e = whole k (tree_.cond b c e)
whole (on (first l) k) e = whole k e
whole (on (right j a) k) e = whole k (joined j a e)
whole (on not_of k) e = whole k (not' e)
whole (on compare_first k) e = whole k e
whole (on (compare_rest a ls op) k) e = whole k (compare a (snoc_link ls (Op op) e))
whole (on (unary_of s) k) e = whole k (unary s e)
whole (on post_rest k) e = whole k (fit k e)
whole (on (in_items o es) k) e = whole k (fit k (made o (snoc es e) false))
whole (on (index_first f) k) e = whole k (index f e)
whole (on (in_index f) k) e = whole k (index f e)
whole (on (slice_to f from) k) e = whole k (fit k (slice f from (present e)))
whole (on in_paren k) e = whole k (fit k (paren e))
whole (on (in_key ps) k) e = whole k (fit k (dict (snoc_pair ps e least_name) false))
whole (on (in_value ps key) k) e = whole k (fit k (dict (snoc_pair ps key e) false))

-- the least tree of a state
abbrev pub finished : State → Expr
finished (Want lev k) = whole k least_name
finished (Have e k) = whole k e
finished (Strings fs k) = whole k (strings_of fs)
finished (AfterOpen k) = whole (on post_rest k) (tuple no_exprs false)
finished (AfterComma f es k) = whole k (tuple (exprs f es) true)
finished (AfterTarget f es) = tuple (exprs f es) true
finished (ItemsOpen o k) = whole (on post_rest k) (made o no_exprs false)
finished (ItemsComma o es k) = whole (on post_rest k) (made o es true)
finished (DictOpen k) = whole (on post_rest k) (dict no_pairs false)
finished (DictComma ps k) = whole (on post_rest k) (dict ps true)
finished (IndexOpen f k) = whole k (index f least_name)
finished (SliceColon f from k) = whole (on post_rest k) (slice f from absent)
finished (AfterDot f k) = whole (on post_rest k) (attr f [])
finished (AfterNot a ls k) = whole k (compare a (snoc_link ls (Op cmp_.NotIn) least_name))
finished (AfterIs a ls k) = whole k (compare a (snoc_link ls Is none))
finished (AfterIsNot a ls k) = whole k (compare a (snoc_link ls IsNot none))
finished (Linked a ls k) = whole k (compare a ls)

-- its height
abbrev pub least : State → ℕ
least s = height (finished s)
