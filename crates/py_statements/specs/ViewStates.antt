-- Open suites and places as the code holds them, and what a step of the machine makes of them.
--     kind_at, first_at, last_at          the kind of a token, and its lines
--     suite_stack, view_suites, Opens     open suites
--     view_span .. view_state             places and states
--     Turned .. MakesPlace                what a token does
--     Steps, step_marked                  the same of a step
--     ActsAt, TurnsAt, MakesAt            the same of a place inside a statement
--     Continuing .. EndsMade              the same after a part of a statement
--     SharesLine .. is_top                what is said of the innermost suite
--     IsDone, Rests                       where the module ends, or a statement may begin
use Rattle.std.specs.Prelude.{◌≡◌, ℕ, Bool, true, false, cond, List, [], ◌∷◌, reverse, Option, Some}
use Rattle.std.specs.Prelude.{None, option_map, Result, Ok, Err, IfOk, Vec, Box}
use Rattle.std.specs.declared.alloc.AllocError.{AllocError}
use Rattle.std.specs.Global.{Global}
use Rattle.py_token.specs.View.{view_kind}
use Rattle.py_token.specs.declared.token.Token.{Token, out-Token}
use Rattle.py_syntax.specs.declared.stmt.Stmt.{Stmt}
use Rattle.py_syntax.specs.declared.stmt.StmtKind.{StmtKind as KindNode}
use Rattle.py_syntax.specs.Tree.{Text, Expr, Stmts, stmt, StmtKind}
use Rattle.py_syntax.specs.Kinds.{Kind, bare_kind}
use Rattle.py_syntax.specs.View.{plain_exprs, plain_stmts, plain_arms, plain_aliases}
use Rattle.py_statements.specs.declared.suite_of.PartialTry.{PartialTry}
use Rattle.py_statements.specs.declared.suite_of.Signature.{Signature}
use Rattle.py_statements.specs.declared.suite_stack.Span as code_span
use Rattle.py_statements.specs.declared.suite_stack.Open as code_open
use Rattle.py_statements.specs.declared.suite_stack.SuiteStack as code_suites
use Rattle.py_statements.specs.declared.purposes.Continuation as code_continuation
use Rattle.py_statements.specs.declared.purposes.Continuation.TheVariants as continuation_
use Rattle.py_statements.specs.declared.places.Listed as code_listed
use Rattle.py_statements.specs.declared.places.Listed.TheVariants as listed_
use Rattle.py_statements.specs.declared.places.Place as code_place
use Rattle.py_statements.specs.declared.places.Place.TheVariants as place_
use Rattle.py_statements.specs.declared.places.State as code_state
use Rattle.py_statements.specs.declared.places.State.TheVariants as state_
use Rattle.py_statements.specs.declared.places.Turn.{Turn}
use Rattle.py_statements.specs.declared.places.Turn.TheVariants as turn_
use Rattle.py_statements.specs.Open.{SuiteStack, top, inside}
use Rattle.py_statements.specs.Machine.{Continuation, value, augmented, leaving, asserted, reason}
use Rattle.py_statements.specs.Machine.{arm_test, while_test, for_target, for_over, clause_kind}
use Rattle.py_statements.specs.Machine.{subject, guard, default, Place, Simple}
use Rattle.py_statements.specs.Listed.{Listed, globals, imports, froms}
use Rattle.py_statements.specs.Machine.{Semicolon, Leaving, NameWanted, NameRead, BoundWanted}
use Rattle.py_statements.specs.Machine.{BoundRead, ModuleWanted, ImportWanted, FunctionWanted}
use Rattle.py_statements.specs.Machine.{ParamsWanted, ParamWanted, ParamRead, Except, ClauseBound}
use Rattle.py_statements.specs.Machine.{ColonWanted, SuiteWanted, IndentWanted, MatchLine}
use Rattle.py_statements.specs.Machine.{MatchBlock, Span, State, Line, at, After, Choosing, Over}
use Rattle.py_statements.specs.Machine.{wanted, begin_expr, begin_case, act, close, over_line}
use Rattle.py_statements.specs.Machine.{end_simple, at_line, step, done}
use Rattle.py_statements.specs.ViewSuiteOf.{boxed_expr, boxed_pattern, boxed_kind, of_match, of_try}
use Rattle.py_statements.specs.ViewSuiteOf.{of_signature, boxed_suite_of}

-- the kind of a token
abbrev pub kind_at : Token → Kind
kind_at t = bare_kind (view_kind (out-Token t).kind)

-- its first line
abbrev pub first_at : Token → ℕ
first_at t = (out-Token t).first

-- its last line
abbrev pub last_at : Token → ℕ
last_at t = (out-Token t).last

-- ---- open suites

-- an open suite with these statements, round which these are open
abbrev pub view_open : Stmts → code_open.Open → SuiteStack → SuiteStack
view_open ss o b =
    inside ss o.inline o.span.first o.span.last o.span.begun (boxed_suite_of o.suite_of) b

-- from the inside
abbrev pub suite_stack : Stmts → List code_open.Open → SuiteStack
suite_stack ss [] = top ss
suite_stack ss (o ∷ os) = view_open ss o (suite_stack (plain_stmts o.outer.items) os)

-- the innermost is the last in the code
abbrev pub view_suites : code_suites.SuiteStack → SuiteStack
view_suites b = suite_stack (plain_stmts b.body.items) (reverse b.open.items)

-- suites that are open, the innermost last
abbrev pub Opened : Type 0
Opened = List code_open.Open

-- the innermost suite, and those round it
abbrev pub Opens : Stmts → Opened → Opened → Option code_open.Open → Type 0
Opens ss old new None =
    (suite_stack ss (reverse old) ≡ top ss) × (suite_stack ss (reverse new) ≡ top ss)
Opens ss old new (Some o) =
    suite_stack ss (reverse old)
    ≡ view_open ss o (suite_stack (plain_stmts o.outer.items) (reverse new))

-- ---- places

-- the lines of what is read
abbrev pub view_span : code_span.Span → Span
view_span n = record { begun = n.begun; first = n.first; last = n.last }

-- after the default of a parameter
abbrev pub default_of : Signature → Text → Continuation
default_of s y = of_signature (λ x ps ds. default x ps ds y) s

-- after a parameter
abbrev pub param_of : Signature → Text → Place
param_of s y = of_signature (λ x ps ds. ParamRead x ps ds y) s

-- after the `as` of a clause
abbrev pub bound_of : PartialTry → Expr → Place
bound_of t e = of_try (λ b cs. ClauseBound b cs e) t

-- what an expression is read for
abbrev pub view_continuation : code_continuation.Continuation → Continuation
view_continuation (continuation_.Value ts) = value (plain_exprs ts.items)
view_continuation (continuation_.Augmented p op) = augmented (boxed_expr p) op
view_continuation (continuation_.Leaving raises) = leaving raises
view_continuation continuation_.Asserted = asserted
view_continuation (continuation_.Reason t) = reason (boxed_expr t)
view_continuation (continuation_.ArmTest arms) = arm_test (plain_arms arms.items)
view_continuation continuation_.WhileTest = while_test
view_continuation continuation_.ForTarget = for_target
view_continuation (continuation_.ForOver t) = for_over (boxed_expr t)
view_continuation (continuation_.ClauseKind t) = of_try clause_kind t
view_continuation continuation_.Subject = subject
view_continuation (continuation_.Guard c p) =
    of_match (λ e last cs. guard e last cs (boxed_pattern p)) c
view_continuation (continuation_.Default s y) = default_of s y

-- a statement that lists names, as far as it is read
abbrev pub view_listed : code_listed.Listed → Listed
view_listed (listed_.Globals xs) = globals xs.items
view_listed (listed_.Imports names) = imports (plain_aliases names.items)
view_listed (listed_.Froms m names) = froms m (plain_aliases names.items)

-- a place inside a statement or a header
abbrev pub view_place : code_place.Place → Place
view_place (place_.Wanted r) = wanted (view_continuation r)
view_place (place_.PatternWanted c) = of_match begin_case c
view_place (place_.Simple k) = Simple (boxed_kind k)
view_place (place_.Semicolon k) = Semicolon (boxed_kind k)
view_place (place_.Leaving raises) = Leaving raises
view_place (place_.NameWanted l) = NameWanted (view_listed l)
view_place (place_.NameRead l x) = NameRead (view_listed l) x
view_place (place_.BoundWanted l x) = BoundWanted (view_listed l) x
view_place (place_.BoundRead l) = BoundRead (view_listed l)
view_place place_.ModuleWanted = ModuleWanted
view_place (place_.ImportWanted m) = ImportWanted m
view_place place_.FunctionWanted = FunctionWanted
view_place (place_.ParamsWanted x) = ParamsWanted x
view_place (place_.ParamWanted s) = of_signature ParamWanted s
view_place (place_.ParamRead s y) = param_of s y
view_place (place_.Except t) = of_try Except t
view_place (place_.ClauseBound t e) = bound_of t (boxed_expr e)
view_place (place_.ColonWanted o) = ColonWanted (boxed_suite_of o)
view_place (place_.SuiteWanted o) = SuiteWanted (boxed_suite_of o)
view_place (place_.IndentWanted o) = IndentWanted (boxed_suite_of o)
view_place (place_.MatchLine e last) = MatchLine (boxed_expr e) last
view_place (place_.MatchBlock e last) = MatchBlock (boxed_expr e) last

-- a state of the reading
abbrev pub view_state : code_state.State → State
view_state (state_.Line b) = Line (view_suites b)
view_state (state_.At p n b) = at (view_place p) (view_span n) (view_suites b)
view_state (state_.After k first last b) = After (boxed_kind k) first last (view_suites b)
view_state (state_.Choosing c first b) =
    of_match (λ e last cs. Choosing e last cs first (view_suites b)) c
view_state (state_.Over ss) = Over (plain_stmts ss.items)

-- ---- what a token does

-- what a token makes of a state in the code, where memory lasts
abbrev pub Turned : Type 0
Turned = Result Turn AllocError

-- what a step makes that begins no expression or pattern, where memory lasts
abbrev pub Made : Type 0
Made = Result (Option code_state.State) AllocError

-- A step of the machine with this token, which has these lines: an expression or a pattern that
-- begins with the token goes on from its own beginning.
abbrev pub ActsAs : Kind → ℕ → ℕ → Option State → Turn → Type 0
ActsAs t f l o (turn_.Next s) = o ≡ Some (view_state s)
ActsAs t f l o turn_.Stuck = o ≡ None
ActsAs t f l o (turn_.Reads r n b) =
    (o ≡ begin_expr (view_continuation r) (view_span n) (view_suites b) t) × (n.last ≡ l)
ActsAs t f l o (turn_.Matches c n b) =
    o ≡ act (of_match begin_case c) (view_span n) (view_suites b) t f l

-- the same, where memory lasts
abbrev pub Acts : Token → Option State → Turned → Type 0
Acts t o (Ok turn) = ActsAs (kind_at t) (first_at t) (last_at t) o turn
Acts t o (Err e) = Unit {0}

-- A step that begins no expression or pattern.
abbrev pub Makes : Option State → Made → Type 0
Makes o (Ok s) = o ≡ option_map view_state s
Makes o (Err e) = Unit {0}

-- The turn does what a token does, whichever token makes this.
abbrev pub TurnsInto : Made → Turned → Type 0
TurnsInto made r = (t : Token) (o : Option State) → Makes o made → Acts t o r

-- The place of an optional step.
abbrev pub MakesPlace : Option Place → Result (Option code_place.Place) AllocError → Type 0
MakesPlace o (Ok p) = o ≡ option_map view_place p
MakesPlace o (Err e) = Unit {0}

-- A step of the machine is what the token does.
abbrev pub Steps : Token → (Kind → ℕ → ℕ → Option State) → Turned → Type 0
Steps t step r = Acts t (step (kind_at t) (first_at t) (last_at t)) r

-- a step where it is known whether the header of a `match` begins
abbrev pub step_marked : State → Bool → Kind → ℕ → ℕ → Option State
step_marked s header k f l = step s (record { kind = k; header = header }) f l

-- What the token does at a place inside a statement or a header.
abbrev pub ActsAt : Token → Place → code_span.Span → code_suites.SuiteStack → Turned → Type 0
ActsAt t p n b r = Steps t (act p (view_span n) (view_suites b)) r

-- the same, where no memory is wanted
abbrev pub TurnsAt : Token → Place → code_span.Span → code_suites.SuiteStack → Turn → Type 0
TurnsAt t p n b turn = ActsAt t p n b (Ok turn)

-- the same, where no expression or pattern begins
abbrev pub MakesAt : Token → Place → code_span.Span → code_suites.SuiteStack → Made → Type 0
MakesAt t p n b r =
    Makes (act p (view_span n) (view_suites b) (kind_at t) (first_at t) (last_at t)) r

-- a way on after a part of a statement, at a token of this kind with this last line
abbrev pub Continuing : Type 0
Continuing = Span → SuiteStack → Kind → ℕ → Option State

-- The token continues a statement so.
abbrev pub Continues : Token → Continuing → code_span.Span → code_suites.SuiteStack → Made → Type 0
Continues t way n b r = Makes (way (view_span n) (view_suites b) (kind_at t) (last_at t)) r

-- the same, where no memory is wanted
abbrev pub ContinuesTo :
    Token → Continuing → code_span.Span → code_suites.SuiteStack → Option code_state.State → Type 0
ContinuesTo t way n b s = Continues t way n b (Ok s)

-- a kind of statement in a box, where memory lasts
abbrev pub MadeKind : Type 0
MadeKind = Result (Box KindNode Global) AllocError

-- The token ends the simple statement that was made.
abbrev pub EndsMade :
    Token → MadeKind → code_span.Span → code_suites.SuiteStack → Made → Type 0
EndsMade t made n b r =
    (k : StmtKind) → IfOk made (λ w. boxed_kind w ≡ k) → Continues t (end_simple k) n b r

-- whether the innermost suite shares the line of its header
abbrev pub SharesLine : SuiteStack → Bool → Type 0
SharesLine b shares = (l : ℕ) → over_line b l ≡ cond shares (close b l) (Line b)

-- whether the innermost suite is a block with a statement
abbrev pub is_closable : SuiteStack → Bool
is_closable (inside (stmt first last k e ss) false f l begun o b) = true
is_closable b = false

-- whether no suite is open
abbrev pub is_top : SuiteStack → Bool
is_top (top ss) = true
is_top b = false

-- The statements of the module, where its end was read.
abbrev pub IsDone : State → Option (Vec Stmt Global) → Type 0
IsDone s b = done s ≡ option_map (λ (ss : Vec Stmt Global). plain_stmts ss.items) b

-- The open suites, where a statement may begin.
abbrev pub Rests : State → Result (Option code_suites.SuiteStack) AllocError → Type 0
Rests s (Ok b) = at_line s ≡ option_map view_suites b
Rests s (Err e) = Unit {0}
