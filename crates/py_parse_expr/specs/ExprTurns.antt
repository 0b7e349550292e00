-- What a token makes of an expression that is read, as the code holds it.
--     view_at, ValidAt           a place in an expression
--     IsWithin, is_within        whether the least expression from there on is within the limit
--     is_comma, closes           a comma, and tokens that close brackets with items
--     BecomesAs .. Meets         what one frame makes of a token
--     prefixed .. in_braces      what begins, and what stands in brackets
--     StaysAs .. Leaves          a step that leaves what is open as it is
--     ActsAs .. Steps            a step, whatever its height
--     TurnsTo .. StepsWithin     a step within the limit
use Rattle.std.specs.Prelude.{◌≡◌, ℕ, ◌≤◌, ◌<◌, nat_le, Bool, true, false, cond, Result, Ok, Err}
use Rattle.std.specs.declared.alloc.AllocError.{AllocError}
use Rattle.py_syntax.specs.Spelling.{HEIGHT}
use Rattle.py_syntax.specs.Tree.{dict, Pairs}
use Rattle.py_syntax.specs.Normal.{LExpr}
use Rattle.py_syntax.specs.View.{plain_expr}
use Rattle.py_parse_fields.specs.declared.operators.Precedence.{Precedence}
use Rattle.py_parse_expr.specs.declared.expr_classes.TokenClass as code_class
use Rattle.py_parse_expr.specs.declared.expr_nodes.Chain.{Chain}
use Rattle.py_parse_expr.specs.declared.expr_nodes.Entries.{Entries}
use Rattle.py_parse_expr.specs.declared.expr_nodes.Measured.{Measured}
use Rattle.py_parse_expr.specs.declared.expr_nodes.Opener as code_opener
use Rattle.py_parse_expr.specs.declared.expr_nodes.Row.{Row}
use Rattle.py_parse_expr.specs.declared.expr_stack.Frame as code_frame
use Rattle.py_parse_expr.specs.declared.expr_stack.Goal as code_goal
use Rattle.py_parse_expr.specs.declared.expr_stack.HeightBudget.{HeightBudget}
use Rattle.py_parse_expr.specs.declared.expr_stack.Stack.{Stack}
use Rattle.py_parse_expr.specs.declared.expr_turns.Progress as code_progress
use Rattle.py_parse_expr.specs.declared.expr_turns.Progress.TheVariants as progress_
use Rattle.py_parse_expr.specs.declared.expr_turns.FrameStep.{FrameStep}
use Rattle.py_parse_expr.specs.declared.expr_turns.FrameStep.TheVariants as frame_step_
use Rattle.py_parse_expr.specs.declared.expr_turns.Turn.{Turn}
use Rattle.py_parse_expr.specs.declared.expr_turns.Turn.TheVariants as turn_
use Rattle.py_grammar.specs.TokenClasses.{TokenClass, t_comma, t_right_paren, t_right_bracket, t_right_brace}
use Rattle.py_grammar.specs.Machine.{at_most, Opener, a_call, a_list, post_rest, in_items, in_key, Ctx, on, State, Want, Have, Strings, AfterOpen, AfterComma, AfterTarget, ItemsOpen, ItemsComma, DictOpen, DictComma, IndexOpen, SliceColon, AfterDot, AfterNot, AfterIs, AfterIsNot, Linked, Out, Next, Stuck, Left, close_items, leave, begin, give, step}
use Rattle.py_grammar.specs.Least.{least}
use Rattle.py_parse_fields.specs.Frames.{view_precedence}
use Rattle.py_parse_expr.specs.ExprViews.{view_class, view_measured, view_row, view_entries, view_links, view_opener, view_bound, view_strings, IsMeasured, AreMeasured, AreEntries, IsChain, ValidOpener, ValidBound, ValidStrings}
use Rattle.py_parse_expr.specs.ExprStacks.{head_of, tail_of, ValidItems, view_goal, view_frame, ValidFrame, IsBudget, view_stack, Valid, opened}

-- a place in an expression, with what is open round it
abbrev pub view_at : code_progress.Progress → Ctx → State
view_at (progress_.Want l) k = Want (view_precedence l) k
view_at (progress_.Have t) k = Have (view_measured t) k
view_at (progress_.Strings ss) k = Strings (view_strings ss) k
view_at progress_.AfterOpen k = AfterOpen k
view_at (progress_.AfterComma r) k = AfterComma (head_of (view_row r)) (tail_of (view_row r)) k
view_at (progress_.AfterTarget r) k = AfterTarget (head_of (view_row r)) (tail_of (view_row r))
view_at (progress_.ItemsOpen o) k = ItemsOpen (view_opener o) k
view_at (progress_.ItemsComma o r) k = ItemsComma (view_opener o) (view_row r) k
view_at progress_.DictOpen k = DictOpen k
view_at (progress_.DictComma ps) k = DictComma (view_entries ps) k
view_at (progress_.IndexOpen f) k = IndexOpen (view_measured f) k
view_at (progress_.SliceColon f from) k = SliceColon (view_measured f) (view_bound from) k
view_at (progress_.AfterDot f) k = AfterDot (view_measured f) k
view_at (progress_.AfterNot c) k = AfterNot (plain_expr c.first.value) (view_links c) k
view_at (progress_.AfterIs c) k = AfterIs (plain_expr c.first.value) (view_links c) k
view_at (progress_.AfterIsNot c) k = AfterIsNot (plain_expr c.first.value) (view_links c) k
view_at (progress_.Linked c) k = Linked (plain_expr c.first.value) (view_links c) k

-- the heights that a place keeps beside its trees are theirs
abbrev pub ValidAt : code_progress.Progress → Type 0
ValidAt (progress_.Have t) = IsMeasured t
ValidAt (progress_.Strings ss) = ValidStrings ss
ValidAt (progress_.AfterComma r) = ValidItems r
ValidAt (progress_.AfterTarget r) = ValidItems r
ValidAt (progress_.ItemsOpen o) = ValidOpener o
ValidAt (progress_.ItemsComma o r) = ValidOpener o × AreMeasured r
ValidAt (progress_.DictComma ps) = AreEntries ps
ValidAt (progress_.IndexOpen f) = IsMeasured f
ValidAt (progress_.SliceColon f from) = IsMeasured f × ValidBound from
ValidAt (progress_.AfterDot f) = IsMeasured f
ValidAt (progress_.AfterNot c) = IsChain c
ValidAt (progress_.AfterIs c) = IsChain c
ValidAt (progress_.AfterIsNot c) = IsChain c
ValidAt (progress_.Linked c) = IsChain c
ValidAt p = Unit {0}

-- the answer at each place that has this budget
abbrev pub IsWithin : HeightBudget → code_progress.Progress → Bool → Type 0
IsWithin b p answer =
    (limit : ℕ) (k : Ctx) → limit ≤ HEIGHT → IsBudget limit k b
    → answer ≡ nat_le (least (view_at p k)) limit

-- the same at the place that a stack has
abbrev pub is_within : code_progress.Progress → Stack → Bool
is_within p s = nat_le (least (view_at p (view_stack s))) s.limit

-- whether the token is a comma
abbrev pub is_comma : TokenClass → Bool
is_comma t_comma = true
is_comma t = false

-- whether the token closes a bracket with items
abbrev pub closes : Opener → TokenClass → Bool
closes (a_call f) t_right_paren = true
closes a_list t_right_bracket = true
closes o t = false

-- ---- one frame

-- What a step makes of the frames from this one on.
abbrev pub BecomesAs : Out → Ctx → TokenClass → FrameStep → Type 0
BecomesAs o k t (frame_step_.Next p) = (o ≡ Next (view_at p k)) × ValidAt p
BecomesAs o k t (frame_step_.Opens f p) =
    (o ≡ Next (view_at p (on (view_frame f) k))) × ValidFrame f × ValidAt p
BecomesAs o k t frame_step_.Stuck = o ≡ Stuck
BecomesAs o k t (frame_step_.Passes e) = (o ≡ give (view_measured e) k t) × IsMeasured e

-- the same, where memory lasts
abbrev pub Becomes : Out → Ctx → TokenClass → Result FrameStep AllocError → Type 0
Becomes o k t (Ok m) = BecomesAs o k t m
Becomes o k t (Err e) = Unit {0}

-- What a frame makes of an expression and a token, whatever is open round it.
abbrev pub MeetsAs : Measured → code_frame.Frame → code_class.TokenClass → FrameStep → Type 0
MeetsAs e f t m =
    (k : Ctx) → BecomesAs (give (view_measured e) (on (view_frame f) k) (view_class t))
    k (view_class t) m

-- the same, where memory lasts
abbrev pub Meets : Measured → code_frame.Frame → code_class.TokenClass
    → Result FrameStep AllocError → Type 0
Meets e f t r =
    (k : Ctx) → Becomes (give (view_measured e) (on (view_frame f) k) (view_class t))
    k (view_class t) r

-- What a token makes of a chain of comparisons, whatever is open round it.
abbrev pub Links : Chain → code_class.TokenClass → Result FrameStep AllocError → Type 0
Links c t r =
    (k : Ctx) → Becomes (step (view_at (progress_.Linked c) k) (view_class t)) k (view_class t) r

-- ---- a step

-- an operand of the precedence `l` begins in a frame of its own, where such a tree may stand
abbrev pub prefixed : Precedence → code_frame.Frame → Precedence → Ctx → Out
prefixed from f l k =
    cond (at_most (view_precedence from) (view_precedence l))
    (Next (Want (view_precedence l)
    (on (view_frame f) (opened (view_precedence from) (view_precedence l) k)))) Stuck

-- an expression of that precedence, or of a tighter one, begins in a frame
abbrev pub begin_in : code_frame.Frame → Precedence → code_class.TokenClass → Ctx → Out
begin_in f l t k = begin (view_precedence l) (on (view_frame f) k) (view_class t)

-- the token that closes a bracket with items, or one that begins an item
abbrev pub in_bracket : code_opener.Opener → Row → Bool → code_class.TokenClass → Ctx → Out
in_bracket o r c t k =
    close_items (view_opener o) (view_row r) c k (view_class t)
    (begin LExpr (on (in_items (view_opener o) (view_row r)) k) (view_class t))

-- the token that closes a dict, or one that begins a key
abbrev pub close_dict : Pairs → Bool → Ctx → TokenClass → Out
close_dict ps c k t_right_brace = Next (Have (dict ps c) (on post_rest k))
close_dict ps c k t = begin LExpr (on (in_key ps) k) t

-- the same of entries in the code
abbrev pub in_braces : Entries → Bool → code_class.TokenClass → Ctx → Out
in_braces ps c t k = close_dict (view_entries ps) c k (view_class t)

-- What a step makes that leaves what is open as it is, whatever that is.
abbrev pub StaysAs : (Ctx → Out) → Turn → Type 0
StaysAs o (turn_.Next p) = ((k : Ctx) → o k ≡ Next (view_at p k)) × ValidAt p
StaysAs o turn_.Stuck = (k : Ctx) → o k ≡ Stuck
StaysAs o turn_.Deep = ⊥
StaysAs o (turn_.Left t) = ((k : Ctx) → o k ≡ Left (view_measured t)) × IsMeasured t

-- the same, where memory lasts
abbrev pub Stays : (Ctx → Out) → Result Turn AllocError → Type 0
Stays o (Ok t) = StaysAs o t
Stays o (Err e) = Unit {0}

-- What the end of the outermost expression makes.
abbrev pub Leaves : Measured → code_goal.Goal → code_class.TokenClass
    → Result Turn AllocError → Type 0
Leaves e g t r = Stays (λ k. leave (view_measured e) (view_goal g) (view_class t)) r

-- What a step makes, whatever its height.
abbrev pub ActsAs : Out → ℕ → Stack → Turn → Type 0
ActsAs o limit s (turn_.Next p) = (o ≡ Next (view_at p (view_stack s))) × ValidAt p × Valid limit s
ActsAs o limit s turn_.Stuck = o ≡ Stuck
ActsAs o limit s turn_.Deep = ⊥
ActsAs o limit s (turn_.Left t) = (o ≡ Left (view_measured t)) × IsMeasured t

-- the same, where memory lasts
abbrev pub Acts : Out → ℕ → Stack → Result Turn AllocError → Type 0
Acts o limit s (Ok t) = ActsAs o limit s t
Acts o limit s (Err e) = Unit {0}

-- The same from one stack to the next.
abbrev pub Moves : (Ctx → Out) → Stack → Stack → Result Turn AllocError → Type 0
Moves o old new r = Acts (o (view_stack old)) old.limit new r

-- What a token makes of a place in an expression, whatever its height.
abbrev pub Steps : code_progress.Progress → code_class.TokenClass → Stack → Stack
    → Result Turn AllocError → Type 0
Steps p t old new r = Acts (step (view_at p (view_stack old)) (view_class t)) old.limit new r

-- What a step makes within the limit.
abbrev pub TurnsTo : Out → ℕ → Stack → Turn → Type 0
TurnsTo o limit s (turn_.Next p) =
    (o ≡ Next (view_at p (view_stack s))) × ValidAt p × Valid limit s
    × (least (view_at p (view_stack s)) ≤ limit)
TurnsTo o limit s turn_.Stuck = o ≡ Stuck
TurnsTo o limit s turn_.Deep = (n : State) × (o ≡ Next n) × (limit < least n)
TurnsTo o limit s (turn_.Left t) = (o ≡ Left (view_measured t)) × IsMeasured t

-- the same, where memory lasts
abbrev pub Turns : Out → ℕ → Stack → Result Turn AllocError → Type 0
Turns o limit s (Ok t) = TurnsTo o limit s t
Turns o limit s (Err e) = Unit {0}

-- What a token makes of a place in an expression, within the limit.
abbrev pub StepsWithin : code_progress.Progress → code_class.TokenClass → Stack → Stack
    → Result Turn AllocError → Type 0
StepsWithin p t old new r =
    Turns (step (view_at p (view_stack old)) (view_class t)) old.limit new r
