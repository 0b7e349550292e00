-- A tree is within the budget of a place exactly where the whole that comes of it is within the limit.
use Rattle.std.proofs.Common.{◌≡◌, ℕ, suc, ◌-◌, ◌≤◌, max, nat_le, nat_lt, Bool, true, false, cond, ◌&&◌, refl, sym, ap, ◌∙◌, arith}
use Rattle.std.proofs.lemmas.Bool.{leb-true, leb-false, ltb-true, ltb-false}
use Rattle.py_syntax.specs.declared.expr.Comparison.TheVariants.{Op}
use Rattle.py_syntax.specs.Tree.{Expr, tuple, list, dict, paren, not', unary, compare, call, index, slice, Exprs, no_exprs, exprs, present}
use Rattle.py_syntax.specs.Tree as tree_
use Rattle.py_syntax.specs.Spelling.{HEIGHT}
use Rattle.py_syntax.specs.Normal.{is_target, are_targets, height, heights, height_entries, height_links, height_bound}
use Rattle.py_grammar.specs.TokenClasses.{joined}
use Rattle.py_grammar.specs.Machine.{snoc, snoc_pair, snoc_link, any, one, target, targets, a_call, a_list, exprs_first, exprs_rest, cond_first, cond_test, cond_else, first, right, not_of, compare_first, compare_rest, unary_of, post_rest, in_items, index_first, in_index, slice_to, in_paren, in_key, in_value, Ctx, Outside, on}
use Rattle.py_grammar.specs.Least.{least_name, as_target, target_if, wants, fit, whole}
use Rattle.py_grammar.specs.Budgets.{under, fitted, budget, postfix}
use Rattle.py_parse_expr.specs.declared.expr_nodes.Row.{Row}
use Rattle.py_parse_expr.specs.declared.expr_stack.HeightBudget.{HeightBudget}
use Rattle.py_parse_expr.specs.ExprViews.{capped, view_row, AreMeasured}
use Rattle.py_parse_expr.specs.ExprStacks.{IsBudget, head_of, tail_of, AreSome, ValidItems}
use Rattle.py_grammar.proofs.Least.Grows.{height_some, heights_snoc, entries_snoc, links_snoc, joined_height, joined_target, targets_snoc, tuple_snoc}

-- two tests that hold together
pub same_test : (a b c d : ℕ) → (a ≤ b → c ≤ d) → (c ≤ d → a ≤ b) → nat_le a b ≡ nat_le c d
same_test a b c d to from = go (nat_le a b) refl (nat_le c d) refl
  where
    go : (x : Bool) → nat_le a b ≡ x → (y : Bool) → nat_le c d ≡ y → x ≡ y
    go true i true j = refl
    go false i false j = refl
    go true i false j = let one_is = to (leb-true a b i) in let two = leb-false c d j in absurd (omega arith)
    go false i true j = let one_is = from (leb-true c d j) in let two = leb-false a b i in absurd (omega arith)

pub under_fits : (s h r : ℕ) → 1 ≤ h → nat_le (suc (max s h)) r ≡ nat_le h (under s r)
under_fits s h r some = go (nat_lt s r) refl
  where
    go : (b : Bool) → nat_lt s r ≡ b → nat_le (suc (max s h)) r ≡ nat_le h (cond b (r - 1) 0)
    go true is = let lt = ltb-true s r is in same_test (suc (max s h)) r h (r - 1) (λ x. omega arith) (λ x. omega arith)
    go false is = let ge = ltb-false s r is in same_test (suc (max s h)) r h 0 (λ x. absurd (omega arith)) (λ x. absurd (omega arith))

pub under_low : (s r : ℕ) → under s r ≤ r
under_low s r = go (nat_lt s r)
  where
    go : (b : Bool) → cond b (r - 1) 0 ≤ r
    go true = omega arith
    go false = omega arith

pub fitted_low : (w : Bool) (a b n : ℕ) (is : Bool) → a ≤ n → b ≤ n → fitted w a b is ≤ n
fitted_low w a b n true h i = h
fitted_low true a b n false h i = let u = under_low 0 a in omega arith
fitted_low false a b n false h i = i

under_within : (s r n : ℕ) → r ≤ n → under s r ≤ n
under_within s r n h = let u = under_low s r in omega arith

-- no budget is above the limit
pub budget_low : (limit : ℕ) (k : Ctx) (is : Bool) → budget limit k is ≤ limit
budget_low limit (Outside any) is = omega arith
budget_low limit (Outside one) is = omega arith
budget_low limit (Outside target) is = fitted_low true limit limit limit is (omega arith) (omega arith)
budget_low limit (Outside (targets f es)) is = let u = under_low (max (height f) (heights es)) limit in fitted_low true (under (max (height f) (heights es)) limit) limit limit is u (omega arith)
budget_low limit (on exprs_first k) is = budget_low limit k is
budget_low limit (on (exprs_rest f es) k) is = under_within (max (height f) (heights es)) (budget limit k ((is_target f && are_targets es) && is)) limit (budget_low limit k ((is_target f && are_targets es) && is))
budget_low limit (on cond_first k) is = budget_low limit k is
budget_low limit (on (cond_test b) k) is = under_within (max (height b) 1) (budget limit k false) limit (budget_low limit k false)
budget_low limit (on (cond_else b c) k) is = under_within (max (height b) (height c)) (budget limit k false) limit (budget_low limit k false)
budget_low limit (on (first l) k) is = budget_low limit k is
budget_low limit (on (right j a) k) is = under_within (height a) (budget limit k false) limit (budget_low limit k false)
budget_low limit (on not_of k) is = under_within 0 (budget limit k false) limit (budget_low limit k false)
budget_low limit (on compare_first k) is = budget_low limit k is
budget_low limit (on (compare_rest a ls op) k) is = under_within (max (height a) (height_links ls)) (budget limit k false) limit (budget_low limit k false)
budget_low limit (on (unary_of s) k) is = under_within 0 (budget limit k false) limit (budget_low limit k false)
budget_low limit (on post_rest k) is = fitted_low (wants k) (budget limit k true) (budget limit k false) limit is (budget_low limit k true) (budget_low limit k false)
budget_low limit (on (in_items a_list es) k) is = under_within (heights es) (postfix limit k (are_targets es && is)) limit (fitted_low (wants k) (budget limit k true) (budget limit k false) limit (are_targets es && is) (budget_low limit k true) (budget_low limit k false))
budget_low limit (on (in_items (a_call f) es) k) is = under_within (max (height f) (heights es)) (postfix limit k false) limit (fitted_low (wants k) (budget limit k true) (budget limit k false) limit false (budget_low limit k true) (budget_low limit k false))
budget_low limit (on (index_first f) k) is = under_within (height f) (budget limit k true) limit (budget_low limit k true)
budget_low limit (on (in_index f) k) is = under_within (height f) (budget limit k true) limit (budget_low limit k true)
budget_low limit (on (slice_to f from) k) is = under_within (max (height f) (height_bound from)) (postfix limit k false) limit (fitted_low (wants k) (budget limit k true) (budget limit k false) limit false (budget_low limit k true) (budget_low limit k false))
budget_low limit (on in_paren k) is = under_within 0 (postfix limit k is) limit (fitted_low (wants k) (budget limit k true) (budget limit k false) limit is (budget_low limit k true) (budget_low limit k false))
budget_low limit (on (in_key ps) k) is = under_within (max (height_entries ps) 1) (postfix limit k false) limit (fitted_low (wants k) (budget limit k true) (budget limit k false) limit false (budget_low limit k true) (budget_low limit k false))
budget_low limit (on (in_value ps key) k) is = under_within (max (height_entries ps) (height key)) (postfix limit k false) limit (fitted_low (wants k) (budget limit k true) (budget limit k false) limit false (budget_low limit k true) (budget_low limit k false))

-- ---- what fits the budget

-- the whole that comes of a tree is within the limit exactly where the tree is within the budget
abbrev Fits : ℕ → Ctx → Expr → Type 0
Fits limit k e = nat_le (height (whole k e)) limit ≡ nat_le (height e) (budget limit k (is_target e))

-- a node over the tree
node_fits : (limit : ℕ) (k : Ctx) (e n : Expr) (s : ℕ) (is : Bool) → Fits limit k n → height n ≡ suc (max s (height e)) → is_target n ≡ is → nat_le (height (whole k n)) limit ≡ nat_le (height e) (under s (budget limit k is))
node_fits limit k e n s is fits high same =
    fits
    ∙ ap (λ (b : Bool). nat_le (height n) (budget limit k b)) same
    ∙ ap (λ (h : ℕ). nat_le h (budget limit k is)) high
    ∙ under_fits s (height e) (budget limit k is) (height_some e)

-- where a postfix stands
pub fit_fits : (limit : ℕ) (k : Ctx) (e : Expr) → Fits limit k (fit k e) → nat_le (height (whole k (fit k e))) limit ≡ nat_le (height e) (postfix limit k (is_target e))
fit_fits limit k e fits = fits ∙ go (wants k) (is_target e) refl
  where
    targeted : (t : Bool) → is_target e ≡ t → nat_le (height (cond t e (index e least_name))) (budget limit k (is_target (cond t e (index e least_name)))) ≡ nat_le (height e) (fitted true (budget limit k true) (budget limit k false) t)
    targeted true is = ap (λ (b : Bool). nat_le (height e) (budget limit k b)) is
    targeted false is =
        let some = height_some e in
        ap (λ (h : ℕ). nat_le h (budget limit k true)) (let same : suc (max (height e) 1) ≡ suc (max 0 (height e)) = omega arith in same)
        ∙ under_fits 0 (height e) (budget limit k true) some

    plain : (t : Bool) → is_target e ≡ t → nat_le (height e) (budget limit k (is_target e)) ≡ nat_le (height e) (fitted false (budget limit k true) (budget limit k false) t)
    plain true is = ap (λ (b : Bool). nat_le (height e) (budget limit k b)) is
    plain false is = ap (λ (b : Bool). nat_le (height e) (budget limit k b)) is

    go : (w t : Bool) → is_target e ≡ t → nat_le (height (target_if w e)) (budget limit k (is_target (target_if w e))) ≡ nat_le (height e) (fitted w (budget limit k true) (budget limit k false) t)
    go true t is = ap (λ (b : Bool). nat_le (height (cond b e (index e least_name))) (budget limit k (is_target (cond b e (index e least_name))))) is ∙ targeted t is
    go false t is = plain t is

-- a node over the tree, where a postfix stands
post_fits : (limit : ℕ) (k : Ctx) (e n : Expr) (s : ℕ) (is : Bool) → Fits limit k (fit k n) → height n ≡ suc (max s (height e)) → is_target n ≡ is → nat_le (height (whole k (fit k n))) limit ≡ nat_le (height e) (under s (postfix limit k is))
post_fits limit k e n s is fits high same =
    fit_fits limit k n fits
    ∙ ap (λ (b : Bool). nat_le (height n) (postfix limit k b)) same
    ∙ ap (λ (h : ℕ). nat_le h (postfix limit k is)) high
    ∙ under_fits s (height e) (postfix limit k is) (height_some e)

outside_fits : (limit : ℕ) (e : Expr) → nat_le (height (as_target e)) limit ≡ nat_le (height e) (fitted true limit limit (is_target e))
outside_fits limit e = go (is_target e)
  where
    go : (t : Bool) → nat_le (height (cond t e (index e least_name))) limit ≡ nat_le (height e) (fitted true limit limit t)
    go true = refl
    go false =
        let some = height_some e in
        ap (λ (h : ℕ). nat_le h limit) (let same : suc (max (height e) 1) ≡ suc (max 0 (height e)) = omega arith in same)
        ∙ under_fits 0 (height e) limit some

pub whole_fits : (limit : ℕ) (k : Ctx) (e : Expr) → Fits limit k e
whole_fits limit (Outside any) e = refl
whole_fits limit (Outside one) e = refl
whole_fits limit (Outside target) e = outside_fits limit e
whole_fits limit (Outside (targets f es)) e =
    let t = as_target e in
    let some = height_some t in
    ap (λ (n : ℕ). nat_le (suc (max (height f) n)) limit) (heights_snoc es t)
    ∙ ap (λ (n : ℕ). nat_le (suc n) limit) (let same : max (height f) (max (heights es) (height t)) ≡ max (max (height f) (heights es)) (height t) = omega arith in same)
    ∙ under_fits (max (height f) (heights es)) (height t) limit some
    ∙ last (under (max (height f) (heights es)) limit)
  where
    last : (r : ℕ) → nat_le (height (as_target e)) r ≡ nat_le (height e) (fitted true r limit (is_target e))
    last r = outside_fits r e ∙ same (is_target e)
      where
        same : (t : Bool) → nat_le (height e) (fitted true r r t) ≡ nat_le (height e) (fitted true r limit t)
        same true = refl
        same false = refl
whole_fits limit (on exprs_first k) e = whole_fits limit k e
whole_fits limit (on (exprs_rest f es) k) e =
    let n = tuple (exprs f (snoc es e)) false in
    let h = heights_snoc es e in
    node_fits limit k e n (max (height f) (heights es)) ((is_target f && are_targets es) && is_target e) (whole_fits limit k n) (omega arith) (tuple_snoc f es e false)
whole_fits limit (on cond_first k) e = whole_fits limit k e
whole_fits limit (on (cond_test b) k) e =
    let some = height_some e in
    let n = tree_.cond b e least_name in
    node_fits limit k e n (max (height b) 1) false (whole_fits limit k n) (omega arith) refl
whole_fits limit (on (cond_else b c) k) e = let n = tree_.cond b c e in node_fits limit k e n (max (height b) (height c)) false (whole_fits limit k n) (omega arith) refl
whole_fits limit (on (first l) k) e = whole_fits limit k e
whole_fits limit (on (right j a) k) e = let n = joined j a e in node_fits limit k e n (height a) false (whole_fits limit k n) (joined_height j a e) (joined_target j a e)
whole_fits limit (on not_of k) e = let n = not' e in node_fits limit k e n 0 false (whole_fits limit k n) (omega arith) refl
whole_fits limit (on compare_first k) e = whole_fits limit k e
whole_fits limit (on (compare_rest a ls op) k) e =
    let n = compare a (snoc_link ls (Op op) e) in
    let h = links_snoc ls (Op op) e in
    node_fits limit k e n (max (height a) (height_links ls)) false (whole_fits limit k n) (omega arith) refl
whole_fits limit (on (unary_of s) k) e = let n = unary s e in node_fits limit k e n 0 false (whole_fits limit k n) (omega arith) refl
whole_fits limit (on post_rest k) e = fit_fits limit k e (whole_fits limit k (fit k e))
whole_fits limit (on (in_items a_list es) k) e =
    let n = list (snoc es e) false in
    let h = heights_snoc es e in
    post_fits limit k e n (heights es) (are_targets es && is_target e) (whole_fits limit k (fit k n)) (omega arith) (targets_snoc es e)
whole_fits limit (on (in_items (a_call f) es) k) e =
    let n = call f (snoc es e) false in
    let h = heights_snoc es e in
    post_fits limit k e n (max (height f) (heights es)) false (whole_fits limit k (fit k n)) (omega arith) refl
whole_fits limit (on (index_first f) k) e = let n = index f e in node_fits limit k e n (height f) true (whole_fits limit k n) (omega arith) refl
whole_fits limit (on (in_index f) k) e = let n = index f e in node_fits limit k e n (height f) true (whole_fits limit k n) (omega arith) refl
whole_fits limit (on (slice_to f from) k) e = let n = slice f from (present e) in post_fits limit k e n (max (height f) (height_bound from)) false (whole_fits limit k (fit k n)) (omega arith) refl
whole_fits limit (on in_paren k) e = let n = paren e in post_fits limit k e n 0 (is_target e) (whole_fits limit k (fit k n)) (omega arith) refl
whole_fits limit (on (in_key ps) k) e =
    let n = dict (snoc_pair ps e least_name) false in
    let some = height_some e in
    let h = entries_snoc ps e least_name in
    post_fits limit k e n (max (height_entries ps) 1) false (whole_fits limit k (fit k n)) (omega arith) refl
whole_fits limit (on (in_value ps key) k) e =
    let n = dict (snoc_pair ps key e) false in
    let h = entries_snoc ps key e in
    post_fits limit k e n (max (height_entries ps) (height key)) false (whole_fits limit k (fit k n)) (omega arith) refl

-- ---- what the code keeps

-- a height that is kept tells as much as the whole height
pub capped_under : (a h r t limit : ℕ) → a ≡ capped h → r ≡ t → t ≤ limit → limit ≤ HEIGHT → under a r ≡ under h t
capped_under a h r t limit is same low high = ap (λ (x : ℕ). under x r) is ∙ ap (under (capped h)) same ∙ go (nat_lt (capped h) t) refl (nat_lt h t) refl
  where
    go : (x : Bool) → nat_lt (capped h) t ≡ x → (y : Bool) → nat_lt h t ≡ y → cond x (t - 1) 0 ≡ cond y (t - 1) 0
    go true i true j = refl
    go false i false j = refl
    go true i false j = let one_is = ltb-true (capped h) t i in let two = ltb-false h t j in absurd (omega arith)
    go false i true j = let one_is = ltb-false (capped h) t i in let two = ltb-true h t j in absurd (omega arith)

pub capped_test : (a h r limit : ℕ) → a ≡ capped h → r ≤ limit → limit ≤ HEIGHT → nat_le a r ≡ nat_le h r
capped_test a h r limit is low high = ap (λ (x : ℕ). nat_le x r) is ∙ same_test (capped h) r h r (λ x. omega arith) (λ x. omega arith)

pub postfix_low : (limit : ℕ) (k : Ctx) (is : Bool) → postfix limit k is ≤ limit
postfix_low limit k is = fitted_low (wants k) (budget limit k true) (budget limit k false) limit is (budget_low limit k true) (budget_low limit k false)

-- a frame in which all trees have the same budget
pub below_budget : (limit : ℕ) (k : Ctx) (r : HeightBudget) (a h x t : ℕ) → r.target ≡ under a x → r.other ≡ under a x → r.wants ≡ false → a ≡ capped h → x ≡ t → t ≤ limit → limit ≤ HEIGHT → budget limit k true ≡ under h t → budget limit k false ≡ under h t → wants k ≡ false → IsBudget limit k r
below_budget limit k r a h x t first_is two three high same low bound for_targets for_others none =
    let all : under a x ≡ under h t = capped_under a h x t limit high same low bound in
    record { target = first_is ∙ all ∙ sym for_targets; other = two ∙ all ∙ sym for_others; wants = three ∙ sym none }

-- a frame that can still become a target
pub open_budget : (limit : ℕ) (k : Ctx) (r : HeightBudget) (a h x t y u : ℕ) (w : Bool) → r.target ≡ under a x → r.other ≡ under a y → r.wants ≡ w → a ≡ capped h → x ≡ t → y ≡ u → t ≤ limit → u ≤ limit → limit ≤ HEIGHT → budget limit k true ≡ under h t → budget limit k false ≡ under h u → wants k ≡ w → IsBudget limit k r
open_budget limit k r a h x t y u w first_is two three high same other low low' bound for_targets for_others some =
    record {
      target = first_is ∙ capped_under a h x t limit high same low bound ∙ sym for_targets;
      other = two ∙ capped_under a h y u limit high other low' bound ∙ sym for_others;
      wants = three ∙ sym some;
    }

pub and_true_is : (b : Bool) → (b && true) ≡ b
and_true_is true = refl
and_true_is false = refl

pub and_false_is : (b : Bool) → (b && false) ≡ false
and_false_is true = refl
and_false_is false = refl

-- ---- items that are some

pub items_heights : (es : Exprs) → AreSome es → heights es ≡ max (height (head_of es)) (heights (tail_of es))
items_heights no_exprs h = absurd h
items_heights (exprs e es) h = refl

pub items_targets : (es : Exprs) → AreSome es → are_targets es ≡ (is_target (head_of es) && are_targets (tail_of es))
items_targets no_exprs h = absurd h
items_targets (exprs e es) h = refl

pub chosen : (limit : ℕ) (k : Ctx) (outer : HeightBudget) (b : Bool) → IsBudget limit k outer → cond b outer.target outer.other ≡ budget limit k b
chosen limit k outer true is = is.target
chosen limit k outer false is = is.other

-- after items with a comma
pub rest_budget : (limit : ℕ) (k : Ctx) (items : Row) (outer : HeightBudget) (r : HeightBudget) → ValidItems items → IsBudget limit k outer → limit ≤ HEIGHT → r.target ≡ under items.height (cond items.targets outer.target outer.other) → r.other ≡ under items.height outer.other → r.wants ≡ (items.targets && outer.wants) → IsBudget limit (on (exprs_rest (head_of (view_row items)) (tail_of (view_row items))) k) r
rest_budget limit k items outer r valid is low one_is two three =
    let f = head_of (view_row items) in
    let es = tail_of (view_row items) in
    let all = is_target f && are_targets es in
    let same : items.targets ≡ all = valid.are.targets ∙ items_targets (view_row items) valid.some in
    let high : items.height ≡ capped (max (height f) (heights es)) = valid.are.height ∙ ap capped (items_heights (view_row items) valid.some) in
    let to : cond items.targets outer.target outer.other ≡ budget limit k (all && true) = chosen limit k outer items.targets is ∙ ap (budget limit k) (same ∙ sym (and_true_is all)) in
    let none : outer.other ≡ budget limit k (all && false) = is.other ∙ ap (budget limit k) (sym (and_false_is all)) in
    open_budget limit (on (exprs_rest f es) k) r items.height (max (height f) (heights es)) (cond items.targets outer.target outer.other) (budget limit k (all && true)) outer.other (budget limit k (all && false)) (all && wants k) one_is two (three ∙ ap (λ (b : Bool). b && outer.wants) same ∙ ap (λ (b : Bool). all && b) is.wants) high to none (budget_low limit k (all && true)) (budget_low limit k (all && false)) low refl refl refl

-- in a list
pub list_budget : (limit : ℕ) (k : Ctx) (items : Row) (outer : HeightBudget) (r : HeightBudget) (x y : ℕ) → AreMeasured items → IsBudget limit k outer → limit ≤ HEIGHT → r.target ≡ under items.height x → x ≡ postfix limit k items.targets → r.other ≡ under items.height y → y ≡ postfix limit k false → r.wants ≡ (items.targets && outer.wants) → IsBudget limit (on (in_items a_list (view_row items)) k) r
list_budget limit k items outer r x y are is low one_is to two none three =
    let es = view_row items in
    let all = are_targets es in
    let here : x ≡ postfix limit k (all && true) = to ∙ ap (postfix limit k) (are.targets ∙ sym (and_true_is all)) in
    let there : y ≡ postfix limit k (all && false) = none ∙ ap (postfix limit k) (sym (and_false_is all)) in
    open_budget limit (on (in_items a_list es) k) r items.height (heights es) x (postfix limit k (all && true)) y (postfix limit k (all && false)) (all && wants k) one_is two (three ∙ ap (λ (b : Bool). b && outer.wants) are.targets ∙ ap (λ (b : Bool). all && b) is.wants) are.height here there (postfix_low limit k (all && true)) (postfix_low limit k (all && false)) low refl refl refl
