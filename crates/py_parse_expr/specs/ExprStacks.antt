-- What is open round a place of an expression, as the code holds it.
--     head_of .. ValidItems      items that are some
--     view_goal, ValidGoal       what the whole is to be
--     view_frame, ValidFrame     one frame
--     IsBudget, IsInside         the height that is left at a place, and inside a frame
--     view_frames .. Valid       the stack
--     opened .. upto_post        frames more
--     Opens, Pops                the stack with frames more, and with one fewer
use Rattle.std.specs.Prelude.{◌≡◌, ℕ, suc, ◌≤◌, true, false, cond, List, [], ◌∷◌, length, reverse, Option, Some, None}
use Rattle.py_syntax.specs.Spelling.{HEIGHT}
use Rattle.py_syntax.specs.Tree.{Expr, none, Exprs, no_exprs, exprs}
use Rattle.py_syntax.specs.Normal.{Precedence, LEnd, LExprs, LExpr, LOr, LAnd, LNot, LCmp, LSum, LTerm, LUnary, LPost}
use Rattle.py_syntax.specs.View.{plain_expr}
use Rattle.py_parse_fields.specs.declared.operators.Precedence as code_precedence
use Rattle.py_parse_expr.specs.declared.expr_nodes.Row.{Row}
use Rattle.py_parse_expr.specs.declared.expr_stack.Goal as code_goal
use Rattle.py_parse_expr.specs.declared.expr_stack.Goal.TheVariants as goal_
use Rattle.py_parse_expr.specs.declared.expr_stack.Frame as code_frame
use Rattle.py_parse_expr.specs.declared.expr_stack.Frame.TheVariants as frame_
use Rattle.py_parse_expr.specs.declared.expr_stack.HeightBudget.{HeightBudget}
use Rattle.py_parse_expr.specs.declared.expr_stack.OpenFrame.{OpenFrame}
use Rattle.py_parse_expr.specs.declared.expr_stack.Stack.{Stack}
use Rattle.py_grammar.specs.Machine.{at_most, Goal, any, one, target, targets, Frame, exprs_first, exprs_rest, cond_first, cond_test, cond_else, first, right, not_of, compare_first, compare_rest, unary_of, post_rest, in_items, index_first, in_index, slice_to, in_paren, in_key, in_value, Ctx, Outside, on, upto_exprs, upto_cond, upto_or, upto_and, upto_compare, upto_sum, upto_term}
use Rattle.py_grammar.specs.Least.{wants}
use Rattle.py_grammar.specs.Budgets.{budget}
use Rattle.py_parse_fields.specs.Frames.{view_precedence, view_operator}
use Rattle.py_parse_expr.specs.ExprViews.{view_measured, view_row, view_entries, view_links, view_opener, view_bound, IsMeasured, AreMeasured, AreEntries, IsChain, ValidOpener, ValidBound}

-- the first of some items
abbrev pub head_of : Exprs → Expr
head_of no_exprs = none
head_of (exprs e es) = e

-- the items after the first
abbrev pub tail_of : Exprs → Exprs
tail_of no_exprs = no_exprs
tail_of (exprs e es) = es

-- there is an item
abbrev pub AreSome : Exprs → Type 0
AreSome no_exprs = ⊥
AreSome (exprs e es) = Unit {0}

-- items that are some
pub record ValidItems (r : Row) : Type 0 where
  pub are : AreMeasured r
  pub some : AreSome (view_row r)

-- what the whole is to be
abbrev pub view_goal : code_goal.Goal → Goal
view_goal goal_.Any = any
view_goal goal_.One = one
view_goal goal_.Target = target
view_goal (goal_.Targets r) = targets (head_of (view_row r)) (tail_of (view_row r))

-- the items of the target of a `for` so far are some, measured rightly
abbrev pub ValidGoal : code_goal.Goal → Type 0
ValidGoal (goal_.Targets r) = ValidItems r
ValidGoal g = Unit {0}

-- one frame
abbrev pub view_frame : code_frame.Frame → Frame
view_frame frame_.ExprsFirst = exprs_first
view_frame (frame_.ExprsRest r) = exprs_rest (head_of (view_row r)) (tail_of (view_row r))
view_frame frame_.CondFirst = cond_first
view_frame (frame_.CondTest b) = cond_test (view_measured b)
view_frame (frame_.CondElse b t) = cond_else (view_measured b) (view_measured t)
view_frame (frame_.First l) = first (view_precedence l)
view_frame (frame_.Right j a) = right (view_operator j) (view_measured a)
view_frame frame_.NotOf = not_of
view_frame frame_.CompareFirst = compare_first
view_frame (frame_.CompareRest c op) = compare_rest (plain_expr c.first.value) (view_links c) op
view_frame (frame_.UnaryOf s) = unary_of s
view_frame frame_.PostRest = post_rest
view_frame (frame_.InItems o r) = in_items (view_opener o) (view_row r)
view_frame (frame_.IndexFirst f) = index_first (view_measured f)
view_frame (frame_.InIndex f) = in_index (view_measured f)
view_frame (frame_.SliceTo f from) = slice_to (view_measured f) (view_bound from)
view_frame frame_.InParen = in_paren
view_frame (frame_.InKey ps) = in_key (view_entries ps)
view_frame (frame_.InValue ps key) = in_value (view_entries ps) (view_measured key)

-- the heights that a frame keeps beside its trees are theirs
abbrev pub ValidFrame : code_frame.Frame → Type 0
ValidFrame (frame_.ExprsRest r) = ValidItems r
ValidFrame (frame_.CondTest b) = IsMeasured b
ValidFrame (frame_.CondElse b t) = IsMeasured b × IsMeasured t
ValidFrame (frame_.Right j a) = IsMeasured a
ValidFrame (frame_.CompareRest c op) = IsChain c
ValidFrame (frame_.InItems o r) = ValidOpener o × AreMeasured r
ValidFrame (frame_.IndexFirst f) = IsMeasured f
ValidFrame (frame_.InIndex f) = IsMeasured f
ValidFrame (frame_.SliceTo f from) = IsMeasured f × ValidBound from
ValidFrame (frame_.InKey ps) = AreEntries ps
ValidFrame (frame_.InValue ps key) = AreEntries ps × IsMeasured key
ValidFrame f = Unit {0}

-- the budget that the code holds is that of a place with this open round it
pub record IsBudget (limit : ℕ) (k : Ctx) (r : HeightBudget) : Type 0 where
  pub target : r.target ≡ budget limit k true
  pub other : r.other ≡ budget limit k false
  pub wants : r.wants ≡ wants k

-- the budget inside a frame, wherever the other one is that of the place
abbrev pub IsInside : HeightBudget → code_frame.Frame → HeightBudget → Type 0
IsInside outer f inner =
    (limit : ℕ) (k : Ctx) → limit ≤ HEIGHT → IsBudget limit k outer
    → IsBudget limit (on (view_frame f) k) inner

-- what is open, from the open frames of the code, the innermost first
abbrev pub view_frames : Goal → List OpenFrame → Ctx
view_frames g [] = Outside g
view_frames g (h ∷ hs) = on (view_frame h.frame) (view_frames g hs)

-- each frame keeps the heights of its trees, and the budget inside it, the innermost first
abbrev pub ValidFrames : ℕ → Goal → List OpenFrame → Type 0
ValidFrames limit g [] = Unit {0}
ValidFrames limit g (h ∷ hs) =
    ValidFrame h.frame × IsBudget limit (view_frames g (h ∷ hs)) h.budget × ValidFrames limit g hs

-- the innermost frame is the last in the code, and the first in the machine
abbrev pub view_stack : Stack → Ctx
view_stack s = view_frames (view_goal s.goal) (reverse s.frames.items)

-- The limit is the one named and at most the greatest, and the goal and the frames are valid.
pub record Valid (limit : ℕ) (s : Stack) : Type 0 where
  pub same : s.limit ≡ limit
  pub low : limit ≤ HEIGHT
  pub goal : ValidGoal s.goal
  pub frames : ValidFrames limit (view_goal s.goal) (reverse s.frames.items)

-- What is open after a tree of the second precedence, with the frame that holds such a tree, where
-- one of the first was to begin.
abbrev pub opened : Precedence → Precedence → Ctx → Ctx
opened lev LEnd k = k
opened lev LExprs k = upto_exprs lev k
opened lev LExpr k = upto_cond lev k
opened lev LOr k = upto_or lev k
opened lev LAnd k = upto_and lev k
opened lev LNot k = upto_and lev k
opened lev LCmp k = upto_compare lev k
opened lev LSum k = upto_sum lev k
opened lev LTerm k = upto_term lev k
opened lev LUnary k = upto_term lev k
opened lev LPost k = on post_rest (upto_term lev k)

-- the frame `f` of the precedence `l`, in those of the looser precedences, where it may open
abbrev pub opened_with : code_precedence.Precedence → code_precedence.Precedence
    → code_precedence.Precedence → code_frame.Frame → Ctx → Ctx
opened_with from looser l f k =
    cond (at_most (view_precedence from) (view_precedence l))
    (on (view_frame f) (opened (view_precedence from) (view_precedence looser) k)) k

-- what is open after what may be called, indexed or asked for a name
abbrev pub upto_post : code_precedence.Precedence → Ctx → Ctx
upto_post from k = on post_rest (upto_term (view_precedence from) k)

-- the stack with more frames
abbrev pub Opens : (Ctx → Ctx) → Stack → Stack → Type 0
Opens added old new = view_stack new ≡ added (view_stack old)

-- the innermost frame is taken off, where there is one; else the goal alone is left
abbrev pub Pops : Option code_frame.Frame → Stack → Stack → Type 0
Pops None old new = view_stack old ≡ Outside (view_goal new.goal)
Pops (Some f) old new =
    (view_stack old ≡ on (view_frame f) (view_stack new)) × ValidFrame f
    × (length old.frames.items ≡ suc (length new.frames.items))
