-- How high a tree may be at a place of an open expression, where a limit holds for the whole.
use Rattle.std.specs.Prelude.{ℕ, ◌-◌, max, nat_lt, Bool, true, false, cond, ◌&&◌}
use Rattle.py_syntax.specs.Normal.{is_target, are_targets, height, heights, height_entries, height_links, height_bound}
use Rattle.py_grammar.specs.Machine.{target, targets, a_call, a_list, exprs_first, exprs_rest, cond_first, cond_test, cond_else, first, right, not_of, compare_first, compare_rest, unary_of, post_rest, in_items, index_first, in_index, slice_to, in_paren, in_key, in_value, Ctx, Outside, on}
use Rattle.py_grammar.specs.Least.{wants}

-- the budget below a node with other parts of that height
abbrev pub under : ℕ → ℕ → ℕ
under h budget = cond (nat_lt h budget) (budget - 1) 0

-- the budget for what stands where a postfix stands, which an index after it can make a target
abbrev pub fitted : Bool → ℕ → ℕ → Bool → ℕ
fitted wanted for_targets for_others true = for_targets
fitted wanted for_targets for_others false = cond wanted (under 0 for_targets) for_others

-- A tree is within the budget of a place where it isn't higher than this; one that has the form of
-- a target has more.
abbrev pub budget : ℕ → Ctx → Bool → ℕ
budget limit (Outside target) is = fitted true limit limit is
budget limit (Outside (targets f es)) is =
    fitted true (under (max (height f) (heights es)) limit) limit is
budget limit (Outside g) is = limit
budget limit (on exprs_first k) is = budget limit k is
budget limit (on (exprs_rest f es) k) is =
    under (max (height f) (heights es)) (budget limit k ((is_target f && are_targets es) && is))
budget limit (on cond_first k) is = budget limit k is
budget limit (on (cond_test b) k) is = under (max (height b) 1) (budget limit k false)
budget limit (on (cond_else b c) k) is = under (max (height b) (height c)) (budget limit k false)
budget limit (on (first l) k) is = budget limit k is
budget limit (on (right j a) k) is = under (height a) (budget limit k false)
budget limit (on not_of k) is = under 0 (budget limit k false)
budget limit (on compare_first k) is = budget limit k is
budget limit (on (compare_rest a ls op) k) is =
    under (max (height a) (height_links ls)) (budget limit k false)
budget limit (on (unary_of s) k) is = under 0 (budget limit k false)
budget limit (on post_rest k) is = fitted (wants k) (budget limit k true) (budget limit k false) is
budget limit (on (in_items a_list es) k) is =
    under (heights es)
    (fitted (wants k) (budget limit k true) (budget limit k false) (are_targets es && is))
budget limit (on (in_items (a_call f) es) k) is =
    under (max (height f) (heights es))
    (fitted (wants k) (budget limit k true) (budget limit k false) false)
budget limit (on (index_first f) k) is = under (height f) (budget limit k true)
budget limit (on (in_index f) k) is = under (height f) (budget limit k true)
budget limit (on (slice_to f from) k) is =
    under (max (height f) (height_bound from))
    (fitted (wants k) (budget limit k true) (budget limit k false) false)
budget limit (on in_paren k) is =
    under 0 (fitted (wants k) (budget limit k true) (budget limit k false) is)
budget limit (on (in_key ps) k) is =
    under (max (height_entries ps) 1)
    (fitted (wants k) (budget limit k true) (budget limit k false) false)
budget limit (on (in_value ps key) k) is =
    under (max (height_entries ps) (height key))
    (fitted (wants k) (budget limit k true) (budget limit k false) false)

-- the budget where a postfix stands
abbrev pub postfix : ℕ → Ctx → Bool → ℕ
postfix limit k is = fitted (wants k) (budget limit k true) (budget limit k false) is
