-- Whether the least expression that goes on from a state is within the limit, told by the budget.
use Rattle.std.proofs.Common.{◌≡◌, ℕ, ◌≤◌, nat_le, Bool, true, false, sym, ap, ◌∙◌, arith}
use Rattle.std.proofs.lemmas.Bool.{leb-true, leb-false}
use Rattle.py_syntax.specs.Spelling.{HEIGHT}
use Rattle.py_syntax.specs.Tree.{Expr}
use Rattle.py_syntax.specs.Normal.{is_target, height}
use Rattle.py_parse_expr.specs.declared.expr_stack.Stack.{Stack}
use Rattle.py_parse_expr.specs.declared.expr_turns.Progress.{Progress}
use Rattle.py_parse_expr.specs.declared.expr_turns.Turn.TheVariants as turn_
use Rattle.py_grammar.specs.Machine.{Ctx, on, post_rest, Out}
use Rattle.py_grammar.specs.Least.{whole, least}
use Rattle.py_grammar.specs.Budgets.{budget, postfix}
use Rattle.py_parse_expr.specs.ExprViews.{capped}
use Rattle.py_parse_expr.specs.ExprStacks.{view_stack}
use Rattle.py_parse_expr.specs.ExprTurns.{view_at, is_within, ActsAs, TurnsTo}
use Rattle.py_parse_expr.proofs.Least.Budgets.{budget_low, whole_fits, capped_test}

-- a tree at a place
pub has_measured : (limit : ℕ) (k : Ctx) (e : Expr) (a r : ℕ) (is : Bool) → a ≡ capped (height e) → is_target e ≡ is → r ≡ budget limit k is → limit ≤ HEIGHT → nat_le a r ≡ nat_le (height (whole k e)) limit
has_measured limit k e a r is high target same low =
    ap (nat_le a) same
    ∙ capped_test a (height e) (budget limit k is) limit high (budget_low limit k is) low
    ∙ ap (λ (b : Bool). nat_le (height e) (budget limit k b)) (sym target)
    ∙ sym (whole_fits limit k e)

-- a tree where a postfix stands
pub has_post : (limit : ℕ) (k : Ctx) (e : Expr) (a r : ℕ) (is : Bool) → a ≡ capped (height e) → is_target e ≡ is → r ≡ postfix limit k is → limit ≤ HEIGHT → nat_le a r ≡ nat_le (height (whole (on post_rest k) e)) limit
has_post limit k e a r is high target same low = has_measured limit (on post_rest k) e a r is high target same low

-- a step to a place that is within the limit, and to one that is not
pub step_within : (o : Out) (limit : ℕ) (s : Stack) (p : Progress) (b : Bool) → ActsAs o limit s (turn_.Next p) → b ≡ is_within p s → b ≡ true → TurnsTo o limit s (turn_.Next p)
step_within o limit s p b h is inside =
    let low = leb-true (least (view_at p (view_stack s))) s.limit (sym is ∙ inside) in
    let same = h.2.same in
    (h.0, h.1, h.2, omega arith)

pub step_beyond : (o : Out) (limit : ℕ) (s : Stack) (p : Progress) (b : Bool) → ActsAs o limit s (turn_.Next p) → b ≡ is_within p s → b ≡ false → TurnsTo o limit s turn_.Deep
step_beyond o limit s p b h is beyond =
    let high = leb-false (least (view_at p (view_stack s))) s.limit (sym is ∙ beyond) in
    let same = h.2.same in
    (view_at p (view_stack s), h.0, omega arith)
