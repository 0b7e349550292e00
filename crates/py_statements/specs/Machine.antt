-- The reader of statements as a machine: open suites, a place in them, and a step for each token.
-- No limits stand in it.
--     Continuation, Place, Span                      where a statement is read, and what for
--     State                                          where a module is read
--     begun_at, onward, on_to                        the lines of what is read
--     close .. end_header                            lines and suites end
--     reads .. line                                  statements begin
--     next_part, is_whole                            statements go on after a suite
--     in_place_op .. resume_pattern                  what comes after an expression or a pattern
--     after_name                                     what comes after a listed name
--     act, choose, plain_step, header_step, step     the steps
--     begun, done                                    nothing is read, and all is
--
-- A step takes a token, whether the header of a `match` statement begins at it, and its lines.
-- Lines go into the trees and decide nothing. An expression or a pattern that is being read is a
-- state of its own machine, with what it is for.
--
-- A state stands at the beginning of a line, inside a simple statement or a header, after a suite
-- of a statement that may go on, between the cases of a `match`, or after the end. A compound
-- statement is put into its block when the token after it comes, since only that one tells that it
-- takes no further suite.
use Rattle.std.specs.Prelude.{ℕ, Bool, true, false, cond, List, [], ◌∷◌, ◌++◌, Option, Some, None}
use Rattle.std.specs.Prelude.{bytes_eq}
use Rattle.py_operator.specs.declared.operator.BinOp.{BinOp}
use Rattle.py_operator.specs.declared.operator.BinOp.TheVariants as op_
use Rattle.py_token.specs.declared.token.Keyword.TheVariants as word
use Rattle.py_token.specs.declared.token.Mark.TheVariants as mark
use Rattle.py_syntax.specs.Tree.{Text, Expr, Exprs, no_exprs, exprs, Pattern}
use Rattle.py_syntax.specs.Tree.{Stmts, no_stmts, stmt, Suite, suite, no_suite, has_suite, Arms}
use Rattle.py_syntax.specs.Tree.{no_arms, Clauses, no_clauses, clause, Cases, no_cases, case}
use Rattle.py_syntax.specs.Tree.{StmtKind, expr, assign, aug_assign, pass, break, continue, return}
use Rattle.py_syntax.specs.Tree.{raise, assert, global, import, from, if', while, for, try, def}
use Rattle.py_syntax.specs.Tree.{match}
use Rattle.py_syntax.specs.Kinds.{Kind, Name, Word, Sign, Newline, Indent, Dedent, End}
use Rattle.py_syntax.specs.Normal.{is_target, is_place}
use Rattle.py_syntax.specs.Headers.{Marked, is_match}
use Rattle.py_syntax.specs.Statements.{case_name}
use Rattle.py_grammar.specs.Machine as expression
use Rattle.py_grammar.specs.Machine.{Goal, any, one, target, snoc, start, class}
use Rattle.py_parse_pattern.specs.Machine as pattern
use Rattle.py_statements.specs.Listed.{Listed, globals, imports, froms, listed, with_name, may_bind}
use Rattle.py_statements.specs.Listed.{is_some}
use Rattle.py_statements.specs.Open.{snoc_case, no_end, newline_end, semicolon_end, both_end}
use Rattle.py_statements.specs.Open.{SuiteOf, an_arm, a_while, a_for, a_try, a_clause, an_else}
use Rattle.py_statements.specs.Open.{a_finally, a_def, a_case, closed, SuiteStack, top, inside}
use Rattle.py_statements.specs.Open.{add}

-- ---- places

-- what an expression is for, with the parts of its statement in front of it
pub data Continuation : Type 0 where
  -- An expression statement, or the value of an assignment with these targets; or one more target.
  value : (targets : Exprs) → Continuation
  augmented : (place : Expr) (op : BinOp) → Continuation
  leaving : (raises : Bool) → Continuation
  asserted : Continuation
  reason : (test : Expr) → Continuation
  arm_test : (arms : Arms) → Continuation
  while_test : Continuation
  for_target : Continuation
  for_over : (t : Expr) → Continuation
  clause_kind : (body : Suite) (clauses : Clauses) → Continuation
  subject : Continuation
  guard : (e : Expr) (header_last : ℕ) (cases : Cases) (p : Pattern) → Continuation
  -- the default of a parameter, after the others with theirs
  default : (x : Text) (params : List Text) (defaults : Exprs) (y : Text) → Continuation

-- A place inside a statement or a header.
pub data Place : Type 0 where
  Reading : (r : Continuation) (s : expression.State) → Place
  Matching : (e : Expr) (header_last : ℕ) (cases : Cases) (s : pattern.State) → Place
  -- after a simple statement that takes no more; after its semicolon
  Simple : (k : StmtKind) → Place
  Semicolon : (k : StmtKind) → Place
  -- after `return` or `raise`
  Leaving : (raises : Bool) → Place
  -- a listed name is wanted; after it; its `as` is read; after the name that follows
  NameWanted : (l : Listed) → Place
  NameRead : (l : Listed) (x : Text) → Place
  BoundWanted : (l : Listed) (x : Text) → Place
  BoundRead : (l : Listed) → Place
  -- after `from`; after its module
  ModuleWanted : Place
  ImportWanted : (m : Text) → Place
  -- after `def`; after its name; a parameter may come; after it
  FunctionWanted : Place
  ParamsWanted : (x : Text) → Place
  ParamWanted : (x : Text) (params : List Text) (defaults : Exprs) → Place
  ParamRead : (x : Text) (params : List Text) (defaults : Exprs) (y : Text) → Place
  -- after `except`; after the `as` of a clause
  Except : (body : Suite) (clauses : Clauses) → Place
  ClauseBound : (body : Suite) (clauses : Clauses) (kind : Expr) → Place
  -- a header wants its colon; after it; the line ended there
  ColonWanted : (o : SuiteOf) → Place
  SuiteWanted : (o : SuiteOf) → Place
  IndentWanted : (o : SuiteOf) → Place
  -- after the colon of a `match` header; its line ended
  MatchLine : (e : Expr) (header_last : ℕ) → Place
  MatchBlock : (e : Expr) (header_last : ℕ) → Place

-- The first lines of the statement and of the part of it that is read, and the last line of that
-- part so far.
pub record Span : Type 0 where
  pub begun : ℕ
  pub first : ℕ
  pub last : ℕ

-- A place in a module, with the suites that are open round it.
pub data State : Type 0 where
  -- a statement begins on a new line, or its block ends
  Line : (b : SuiteStack) → State
  at : (p : Place) (n : Span) (b : SuiteStack) → State
  -- after a suite of a statement that may go on
  After : (k : StmtKind) (first last : ℕ) (b : SuiteStack) → State
  -- between the cases of a `match`
  Choosing : (e : Expr) (header_last : ℕ) (cases : Cases) (first : ℕ) (b : SuiteStack) → State
  -- after the end of the module
  Over : (ss : Stmts) → State

-- ---- the lines of what is read

-- the lines of a statement that begins with a token of these lines
abbrev pub begun_at : ℕ → ℕ → Span
begun_at f l = record { begun = f; first = f; last = l }

-- with one token more, whose last line is this
abbrev pub onward : Span → ℕ → Span
onward n l = record { begun = n.begun; first = n.first; last = l }

-- to a place after one token more
abbrev pub on_to : Place → Span → SuiteStack → ℕ → Option State
on_to p n b l = Some (at p (onward n l) b)

-- ---- lines and suites end

-- a case of a `match` with this first line is closed
abbrev pub case_closed :
    Expr → ℕ → Cases → Pattern → Option Expr → Suite → ℕ → SuiteStack → State
case_closed e header_last cs p g s begun b = Choosing e header_last (snoc_case cs p g s) begun b

-- a suite ends with a token whose last line is this
abbrev pub close : SuiteStack → ℕ → State
close (top ss) l = Line (top ss)
close (inside ss inline first last begun (a_case e header_last cs p g) b) l =
    case_closed e header_last cs p g (suite first last inline ss) begun b
close (inside ss inline first last begun o b) l =
    After (closed o (suite first last inline ss)) begun l b

-- a suite of this, in a statement with this first line, ends with a token whose last line is this
abbrev pub over_suite : SuiteOf → Suite → ℕ → ℕ → SuiteStack → State
over_suite (a_case e header_last cs p g) s begun l b = case_closed e header_last cs p g s begun b
over_suite o s begun l b = After (closed o s) begun l b

-- a line ends, and a suite that shares it
abbrev pub over_line : SuiteStack → ℕ → State
over_line (inside ss true first last begun o b) l = close (inside ss true first last begun o b) l
over_line b l = Line b

-- a simple statement is whole
abbrev pub end_simple : StmtKind → Span → SuiteStack → Kind → ℕ → Option State
end_simple k n b (Sign mark.Semicolon) l = Some (at (Semicolon k) n b)
end_simple k n b Newline l = Some (over_line (add b n.begun n.last k newline_end) l)
end_simple k n b t l = None

-- a header is whole
abbrev pub end_header : SuiteOf → Span → SuiteStack → Kind → ℕ → Option State
end_header o n b (Sign mark.Colon) l = on_to (SuiteWanted o) n b l
end_header o n b t l = None

-- ---- statements begin

-- an expression begins
abbrev pub reads : Continuation → Span → SuiteStack → expression.Out → Option State
reads r n b o =
    elim o as (λ (w : expression.Out). Option State) [
      | expression.Next s ↦ Some (at (Reading r s) n b)
      | expression.Stuck ↦ None
      | expression.Left e ↦ None
    ]

-- the form that an expression is to have
abbrev pub goal : Continuation → Goal
goal (value ts) = any
goal (augmented t op) = any
goal (leaving raises) = cond raises one any
goal asserted = one
goal (reason test) = one
goal (arm_test arms) = one
goal while_test = one
goal for_target = target
goal (for_over t) = any
goal (clause_kind body cs) = one
goal subject = any
goal (guard e last cs p) = one
goal (default x ps ds y) = one

-- an expression begins with the token
abbrev pub begin_expr : Continuation → Span → SuiteStack → Kind → Option State
begin_expr r n b t = reads r n b (expression.step (start (goal r)) (class t))

-- a place where an expression begins
abbrev pub wanted : Continuation → Place
wanted r = Reading r (start (goal r))

-- the simple statements that begin with a keyword (Python Language Reference, 7)
abbrev pub simple_place : Kind → Option Place
simple_place (Word word.Pass) = Some (Simple pass)
simple_place (Word word.Break) = Some (Simple break)
simple_place (Word word.Continue) = Some (Simple continue)
simple_place (Word word.Return) = Some (Leaving false)
simple_place (Word word.Raise) = Some (Leaving true)
simple_place (Word word.Assert) = Some (wanted asserted)
simple_place (Word word.Global) = Some (NameWanted (globals []))
simple_place (Word word.Import) = Some (NameWanted (imports []))
simple_place (Word word.From) = Some ModuleWanted
simple_place t = None

-- and the compound ones (Python Language Reference, 8)
abbrev pub compound_place : Kind → Option Place
compound_place (Word word.If) = Some (wanted (arm_test no_arms))
compound_place (Word word.While) = Some (wanted while_test)
compound_place (Word word.For) = Some (wanted for_target)
compound_place (Word word.Try) = Some (ColonWanted a_try)
compound_place (Word word.Def) = Some FunctionWanted
compound_place t = None

-- a simple statement begins with the token
abbrev pub begin_simple : SuiteStack → Kind → ℕ → ℕ → Option State
begin_simple b t f l =
    elim (simple_place t) as (λ (o : Option Place). Option State) [
      | Some p ↦ Some (at p (begun_at f l) b)
      | None ↦ begin_expr (value no_exprs) (begun_at f l) b t
    ]

-- any statement but a `match`
abbrev pub begin_line : SuiteStack → Kind → ℕ → ℕ → Option State
begin_line b t f l =
    elim (compound_place t) as (λ (o : Option Place). Option State) [
      | Some p ↦ Some (at p (begun_at f l) b)
      | None ↦ begin_simple b t f l
    ]

-- A token comes on a new line.
abbrev pub line : SuiteStack → Kind → ℕ → ℕ → Option State
line (top ss) End f l = Some (Over ss)
line (inside (stmt f' l' k e ss) false first last begun o b) Dedent f l =
    Some (close (inside (stmt f' l' k e ss) false first last begun o b) l)
line b t f l = begin_line b t f l

-- ---- statements go on after a suite (Python Language Reference, 8.1 to 8.4)

-- the place where a further part of the statement begins, with the token after a suite
abbrev pub next_part : StmtKind → Kind → Option Place
next_part (expr e) t = None
next_part (assign ts e) t = None
next_part (aug_assign p op e) t = None
next_part pass t = None
next_part break t = None
next_part continue t = None
next_part (return e) t = None
next_part (raise e) t = None
next_part (assert e e') t = None
next_part (global xs) t = None
next_part (import names) t = None
next_part (from m names) t = None
next_part (if' arms no_suite) (Word word.Elif) = Some (wanted (arm_test arms))
next_part (if' arms no_suite) (Word word.Else) = Some (ColonWanted (an_else (if' arms no_suite)))
next_part (if' arms o) t = None
next_part (while t b no_suite) (Word word.Else) = Some (ColonWanted (an_else (while t b no_suite)))
next_part (while e b o) t = None
next_part (for t e b no_suite) (Word word.Else) = Some (ColonWanted (an_else (for t e b no_suite)))
next_part (for p e b o) t = None
next_part (try b cs no_suite no_suite) (Word word.Except) = Some (Except b cs)
next_part (try b (clause e x s cs) no_suite no_suite) (Word word.Else) =
    Some (ColonWanted (an_else (try b (clause e x s cs) no_suite no_suite)))
next_part (try b cs o no_suite) (Word word.Finally) = Some (ColonWanted (a_finally b cs o))
next_part (try b cs o f) t = None
next_part (def x ps ds c b) t = None
next_part (match e last cs) t = None

-- a `try` needs a clause or a `finally` (Python Language Reference, 8.4)
abbrev pub is_whole : StmtKind → Bool
is_whole (expr e) = true
is_whole (assign ts e) = true
is_whole (aug_assign t op e) = true
is_whole pass = true
is_whole break = true
is_whole continue = true
is_whole (return e) = true
is_whole (raise e) = true
is_whole (assert t e) = true
is_whole (global xs) = true
is_whole (import names) = true
is_whole (from m names) = true
is_whole (if' arms o) = true
is_whole (while t b o) = true
is_whole (for t e b o) = true
is_whole (try b no_clauses o no_suite) = false
is_whole (try b no_clauses o (has_suite f)) = true
is_whole (try b (clause e x s cs) o f) = true
is_whole (def x ps ds c b) = true
is_whole (match e last cs) = true

-- ---- parts of statements

-- the operator of an augmented assignment (Python Language Reference, 7.2.1)
abbrev pub in_place_op : Kind → Option BinOp
in_place_op (Sign mark.PlusEqual) = Some op_.Add
in_place_op (Sign mark.MinusEqual) = Some op_.Sub
in_place_op (Sign mark.StarEqual) = Some op_.Mul
in_place_op (Sign mark.DoubleSlashEqual) = Some op_.Floor
in_place_op (Sign mark.PercentEqual) = Some op_.Mod
in_place_op t = None

-- an expression statement, or an assignment (Python Language Reference, 7.1 and 7.2)
abbrev pub assigned : Exprs → Expr → StmtKind
assigned no_exprs e = expr e
assigned (exprs t ts) e = assign (exprs t ts) e

-- a `raise` or a `return` (Python Language Reference, 7.6 and 7.8)
abbrev pub left : Bool → Option Expr → StmtKind
left raises e = cond raises (raise e) (return e)

-- after an expression that is one more target
abbrev pub after_target : Exprs → Expr → Span → SuiteStack → Kind → ℕ → Option State
after_target ts e n b t l = cond (is_target e) (on_to (wanted (value (snoc ts e))) n b l) None

-- after an expression, and targets in front of it
abbrev pub after_value : Exprs → Expr → Span → SuiteStack → Kind → ℕ → Option State
after_value ts e n b (Sign mark.Equal) l = after_target ts e n b (Sign mark.Equal) l
after_value no_exprs e n b t l =
    elim (in_place_op t) as (λ (o : Option BinOp). Option State) [
      | Some op ↦ cond (is_place e) (on_to (wanted (augmented e op)) n b l) None
      | None ↦ end_simple (expr e) n b t l
    ]
after_value ts e n b t l = end_simple (assigned ts e) n b t l

-- after a parameter and its default (Python Language Reference, 8.7)
abbrev pub after_default : Text → List Text → Exprs → Span → SuiteStack → Kind → ℕ → Option State
after_default x ps ds n b (Sign mark.Comma) l = on_to (ParamWanted x ps ds) n b l
after_default x ps ds n b (Sign mark.RightParen) l = on_to (ColonWanted (a_def x ps ds false)) n b l
after_default x ps ds n b t l = None

-- An expression is whole, and this token comes.
abbrev pub resume : Continuation → Expr → Span → SuiteStack → Kind → ℕ → Option State
resume (value ts) e n b t l = after_value ts e n b t l
resume (augmented p op) e n b t l = end_simple (aug_assign p op e) n b t l
resume (leaving raises) e n b t l = end_simple (left raises (Some e)) n b t l
resume asserted e n b (Sign mark.Comma) l = on_to (wanted (reason e)) n b l
resume asserted e n b t l = end_simple (assert e None) n b t l
resume (reason test) e n b t l = end_simple (assert test (Some e)) n b t l
resume (arm_test arms) e n b t l = end_header (an_arm arms e) n b t l
resume while_test e n b t l = end_header (a_while e) n b t l
resume for_target e n b (Word word.In) l = on_to (wanted (for_over e)) n b l
resume for_target e n b t l = None
resume (for_over x) e n b t l = end_header (a_for x e) n b t l
resume (clause_kind body cs) e n b (Word word.As) l = on_to (ClauseBound body cs e) n b l
resume (clause_kind body cs) e n b t l = end_header (a_clause body cs (Some e) None) n b t l
resume subject e n b (Sign mark.Colon) l = on_to (MatchLine e l) n b l
resume subject e n b t l = None
resume (guard e' last cs p) e n b t l = end_header (a_case e' last cs p (Some e)) n b t l
resume (default x ps ds y) e n b t l = after_default x (ps ++ y ∷ []) (snoc ds e) n b t l

-- after the pattern of a `case` (Python Language Reference, 8.6)
abbrev pub resume_pattern : Expr → ℕ → Cases → Pattern → Span → SuiteStack → Kind → ℕ → Option State
resume_pattern e last cs p n b (Word word.If) l = on_to (wanted (guard e last cs p)) n b l
resume_pattern e last cs p n b t l = end_header (a_case e last cs p None) n b t l

-- after a listed name and what it is bound to
abbrev pub after_name : Listed → Span → SuiteStack → Kind → ℕ → Option State
after_name l n b (Sign mark.Comma) last = on_to (NameWanted l) n b last
after_name l n b t last = end_simple (listed l) n b t last

-- ---- the steps

-- A token inside a statement or a header.
abbrev pub act : Place → Span → SuiteStack → Kind → ℕ → ℕ → Option State
act (Reading r s) n b t f l =
    elim (expression.step s (class t)) as (λ (w : expression.Out). Option State) [
      | expression.Next s' ↦ on_to (Reading r s') n b l
      | expression.Stuck ↦ None
      | expression.Left e ↦ resume r e n b t l
    ]
act (Matching e last cs s) n b t f l =
    elim (pattern.step s t) as (λ (w : pattern.Out). Option State) [
      | pattern.Next s' ↦ on_to (Matching e last cs s') n b l
      | pattern.Stuck ↦ None
      | pattern.Left p ↦ resume_pattern e last cs p n b t l
    ]
act (Simple k) n b t f l = end_simple k n b t l
act (Semicolon k) n b Newline f l = Some (over_line (add b n.begun n.last k both_end) l)
act (Semicolon k) n b t f l = begin_simple (add b n.begun n.last k semicolon_end) t f l
act (Leaving raises) n b (Sign mark.Semicolon) f l =
    end_simple (left raises None) n b (Sign mark.Semicolon) l
act (Leaving raises) n b Newline f l = end_simple (left raises None) n b Newline l
act (Leaving raises) n b t f l = begin_expr (leaving raises) (onward n l) b t
act (NameWanted xs) n b (Name x) f l = on_to (NameRead xs x) n b l
act (NameWanted xs) n b t f l = None
act (NameRead xs x) n b (Word word.As) f l =
    cond (may_bind xs) (on_to (BoundWanted xs x) n b l) None
act (NameRead xs x) n b t f l = after_name (with_name xs x None) n b t l
act (BoundWanted xs x) n b (Name y) f l = on_to (BoundRead (with_name xs x (Some y))) n b l
act (BoundWanted xs x) n b t f l = None
act (BoundRead xs) n b t f l = after_name xs n b t l
act ModuleWanted n b (Name m) f l = on_to (ImportWanted m) n b l
act ModuleWanted n b t f l = None
act (ImportWanted m) n b (Word word.Import) f l = on_to (NameWanted (froms m [])) n b l
act (ImportWanted m) n b t f l = None
act FunctionWanted n b (Name x) f l = on_to (ParamsWanted x) n b l
act FunctionWanted n b t f l = None
act (ParamsWanted x) n b (Sign mark.LeftParen) f l = on_to (ParamWanted x [] no_exprs) n b l
act (ParamsWanted x) n b t f l = None
act (ParamWanted x ps ds) n b (Name y) f l = on_to (ParamRead x ps ds y) n b l
act (ParamWanted x ps ds) n b (Sign mark.RightParen) f l =
    on_to (ColonWanted (a_def x ps ds (is_some ps))) n b l
act (ParamWanted x ps ds) n b t f l = None
act (ParamRead x ps ds y) n b (Sign mark.Equal) f l = on_to (wanted (default x ps ds y)) n b l
act (ParamRead x ps no_exprs y) n b t f l = after_default x (ps ++ y ∷ []) no_exprs n b t l
act (ParamRead x ps ds y) n b t f l = None
act (Except body cs) n b (Sign mark.Colon) f l =
    end_header (a_clause body cs None None) n b (Sign mark.Colon) l
act (Except body cs) n b t f l = begin_expr (clause_kind body cs) (onward n l) b t
act (ClauseBound body cs e) n b (Name x) f l =
    on_to (ColonWanted (a_clause body cs (Some e) (Some x))) n b l
act (ClauseBound body cs e) n b t f l = None
act (ColonWanted o) n b t f l = end_header o n b t l
act (SuiteWanted o) n b Newline f l = Some (at (IndentWanted o) n b)
act (SuiteWanted o) n b t f l = begin_simple (inside no_stmts true n.first n.last n.begun o b) t f l
act (IndentWanted o) n b Indent f l = Some (Line (inside no_stmts false n.first n.last n.begun o b))
act (IndentWanted o) n b t f l = None
act (MatchLine e last) n b Newline f l = Some (at (MatchBlock e last) n b)
act (MatchLine e last) n b t f l = None
act (MatchBlock e last) n b Indent f l = Some (Choosing e last no_cases n.begun b)
act (MatchBlock e last) n b t f l = None

-- the lines of a part that begins with a token, of a statement with this first line
abbrev pub part_begun : ℕ → ℕ → ℕ → Span
part_begun first f l = record { begun = first; first = f; last = l }

-- after `case`
abbrev pub begin_case : Expr → ℕ → Cases → Place
begin_case e last cs = Matching e last cs pattern.start

-- between the cases of a `match`, in its block (Python Language Reference, 8.6)
abbrev pub choose : Expr → ℕ → Cases → ℕ → SuiteStack → Kind → ℕ → ℕ → Option State
choose e last cs first b (Name x) f l =
    cond (bytes_eq x case_name) (Some (at (begin_case e last cs) (part_begun first f l) b)) None
choose e last (case p g s cs) first b Dedent f l =
    Some (After (match e last (case p g s cs)) first l b)
choose e last cs first b t f l = None

-- the open suites, where a statement may begin on a new line
abbrev pub at_line : State → Option SuiteStack
at_line (Line b) = Some b
at_line (After k first last b) = cond (is_whole k) (Some (add b first last k no_end)) None
at_line s = None

-- a token on a new line, where a statement may begin
abbrev pub on_line : Option SuiteStack → Kind → ℕ → ℕ → Option State
on_line o t f l =
    elim o as (λ (w : Option SuiteStack). Option State) [
      | Some b ↦ line b t f l
      | None ↦ None
    ]

-- A token at which no header of a `match` begins.
abbrev pub plain_step : State → Kind → ℕ → ℕ → Option State
plain_step (Line b) t f l = line b t f l
plain_step (at p n b) t f l = act p n b t f l
plain_step (After k first last b) t f l =
    elim (next_part k t) as (λ (o : Option Place). Option State) [
      | Some p ↦ Some (at p (part_begun first f l) b)
      | None ↦ on_line (at_line (After k first last b)) t f l
    ]
plain_step (Choosing e last cs first b) t f l = choose e last cs first b t f l
plain_step (Over ss) t f l = None

-- The header of a `match` begins here.
abbrev pub header_step : Option SuiteStack → Kind → ℕ → ℕ → Option State
header_step o t f l =
    elim o as (λ (w : Option SuiteStack). Option State) [
      | Some b ↦ cond (is_match t) (Some (at (wanted subject) (begun_at f l) b)) None
      | None ↦ None
    ]

-- A step with a marked token, which has these lines.
abbrev pub step : State → Marked → ℕ → ℕ → Option State
step s m f l = cond (m.header) (header_step (at_line s) m.kind f l) (plain_step s m.kind f l)

-- nothing is read
abbrev pub begun : State
begun = Line (top no_stmts)

-- the statements of the module, where its end was read
abbrev pub done : State → Option Stmts
done (Over ss) = Some ss
done s = None
