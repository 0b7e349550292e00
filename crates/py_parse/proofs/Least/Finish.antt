-- Tokens that bring a state to the end of the module, where nothing is added but what has to be.
use Rattle.std.proofs.Common.{ℕ, Bool, true, false, List, [], ◌∷◌, None}
use Rattle.py_token.specs.declared.token.Keyword.TheVariants as word
use Rattle.py_token.specs.declared.token.Mark.TheVariants as mark
use Rattle.py_syntax.specs.Tree.{no_exprs, exprs, wild}
use Rattle.py_syntax.specs.Tree.{no_stmts, no_suite, no_clauses, Cases, no_cases, case, StmtKind, try}
use Rattle.py_syntax.specs.Kinds.{Kind, Name, Word, Sign, Newline, Indent, Dedent, End}
use Rattle.py_syntax.specs.Tokens.{underscore}
use Rattle.py_syntax.specs.Headers.{Marked, put}
use Rattle.py_syntax.specs.Statements.{case_name}
use Rattle.py_grammar.specs.Least.{least_name}
use Rattle.py_grammar.proofs.Least.Finish as expression
use Rattle.py_parse_pattern.proofs.Least.Finish as pattern_finish
use Rattle.py_statements.specs.Open.{SuiteOf, an_arm, a_while, a_for, a_try, a_clause, a_def, a_case, SuiteStack, top, inside}
use Rattle.py_statements.specs.Machine.{Continuation, arm_test, while_test, for_target, for_over, clause_kind, subject, guard, default, Place, Reading, Matching, NameWanted, BoundWanted, ModuleWanted, ImportWanted, FunctionWanted, ParamsWanted, ParamWanted, ParamRead, Except, ClauseBound, ColonWanted, SuiteWanted, IndentWanted, MatchLine, MatchBlock, State, Line, at, After, Choosing, Over}

-- ---- suites end

-- a suite with `pass` on the line of its header
abbrev pub pass_line : List Marked → List Marked
pass_line r = put (Word word.Pass ∷ Newline ∷ []) r

abbrev pub finally_pass : List Marked → List Marked
finally_pass r = put (Word word.Finally ∷ Sign mark.Colon ∷ []) (pass_line r)

-- after a suite that belongs to this
abbrev pub settled : SuiteOf → List Marked → List Marked
settled a_try r = finally_pass r
settled (a_case e last cs p g) r = put (Dedent ∷ []) r
settled o r = r

abbrev pub dedent : Bool → List Marked → List Marked
dedent true r = r
dedent false r = put (Dedent ∷ []) r

-- after a statement and the end of its line
abbrev pub outward : SuiteStack → List Marked
outward (top ss) = put (End ∷ []) []
outward (inside ss inline first last begun o b) = dedent inline (settled o (outward b))

-- where a statement may begin
abbrev pub from_line : SuiteStack → List Marked
from_line (inside no_stmts inline first last begun o b) = pass_line (outward (inside no_stmts inline first last begun o b))
from_line b = outward b

-- after a suite of a statement that may go on
abbrev pub needed : StmtKind → List Marked → List Marked
needed (try b no_clauses o no_suite) r = finally_pass r
needed k r = r

-- ---- lines end

abbrev pub line_end : SuiteStack → List Marked
line_end b = put (Newline ∷ []) (outward b)

-- a suite on the line, and its header
abbrev pub suite_here : SuiteOf → SuiteStack → List Marked
suite_here o b = pass_line (settled o (outward b))

abbrev pub colon_suite : SuiteOf → SuiteStack → List Marked
colon_suite o b = put (Sign mark.Colon ∷ []) (suite_here o b)

abbrev pub indented : SuiteOf → SuiteStack → List Marked
indented o b = put (Indent ∷ []) (pass_line (put (Dedent ∷ []) (settled o (outward b))))

-- in the block of a `match`
abbrev pub choosing : Cases → SuiteStack → List Marked
choosing no_cases b = put (Name case_name ∷ Name underscore ∷ Sign mark.Colon ∷ []) (pass_line (put (Dedent ∷ []) (outward b)))
choosing (case p g s cs) b = put (Dedent ∷ []) (outward b)

abbrev pub match_block : SuiteStack → List Marked
match_block b = put (Indent ∷ []) (choosing no_cases b)

-- ---- expressions

-- the token after an expression, and what stands after that
abbrev pub closer : Continuation → Kind
closer (arm_test arms) = Sign mark.Colon
closer while_test = Sign mark.Colon
closer for_target = Word word.In
closer (for_over t) = Sign mark.Colon
closer (clause_kind b cs) = Sign mark.Colon
closer subject = Sign mark.Colon
closer (guard e last cs p) = Sign mark.Colon
closer (default x ps ds y) = Sign mark.RightParen
closer r = Newline

abbrev pub after : Continuation → SuiteStack → List Marked
after (arm_test arms) b = suite_here (an_arm arms least_name) b
after while_test b = suite_here (a_while least_name) b
after for_target b = put (Name [] ∷ []) (colon_suite (a_for least_name least_name) b)
after (for_over t) b = suite_here (a_for t least_name) b
after (clause_kind body cs) b = suite_here (a_clause body cs None None) b
after subject b = put (Newline ∷ []) (match_block b)
after (guard e last cs p) b = suite_here (a_case e last cs p None) b
after (default x ps ds y) b = colon_suite (a_def x ps ds false) b
after r b = outward b

-- ---- states

abbrev pub finish_place : Place → SuiteStack → List Marked
finish_place (Reading r s) b = put (expression.finish s (closer r ∷ [])) (after r b)
finish_place (Matching e last cs s) b = put (pattern_finish.finish s (Sign mark.Colon ∷ [])) (suite_here (a_case e last cs wild None) b)
finish_place (NameWanted l) b = put (Name [] ∷ []) (line_end b)
finish_place (BoundWanted l x) b = put (Name [] ∷ []) (line_end b)
finish_place ModuleWanted b = put (Name [] ∷ Word word.Import ∷ Name [] ∷ []) (line_end b)
finish_place (ImportWanted m) b = put (Word word.Import ∷ Name [] ∷ []) (line_end b)
finish_place FunctionWanted b = put (Name [] ∷ Sign mark.LeftParen ∷ Sign mark.RightParen ∷ []) (colon_suite (a_def [] [] no_exprs false) b)
finish_place (ParamsWanted x) b = put (Sign mark.LeftParen ∷ Sign mark.RightParen ∷ []) (colon_suite (a_def x [] no_exprs false) b)
finish_place (ParamWanted x ps ds) b = put (Sign mark.RightParen ∷ []) (colon_suite (a_def x ps ds false) b)
finish_place (ParamRead x ps no_exprs y) b = put (Sign mark.RightParen ∷ []) (colon_suite (a_def x ps no_exprs false) b)
finish_place (ParamRead x ps (exprs d ds) y) b = put (Sign mark.Equal ∷ Name [] ∷ Sign mark.RightParen ∷ []) (colon_suite (a_def x ps (exprs d ds) false) b)
finish_place (Except body cs) b = colon_suite (a_clause body cs None None) b
finish_place (ClauseBound body cs e) b = put (Name [] ∷ []) (colon_suite (a_clause body cs None None) b)
finish_place (ColonWanted o) b = colon_suite o b
finish_place (SuiteWanted o) b = suite_here o b
finish_place (IndentWanted o) b = indented o b
finish_place (MatchLine e last) b = put (Newline ∷ []) (match_block b)
finish_place (MatchBlock e last) b = match_block b
finish_place p b = line_end b

-- Tokens that make what was read a whole module.
abbrev pub finish : State → List Marked
finish (Line b) = from_line b
finish (at p n b) = finish_place p b
finish (After k first last b) = needed k (outward b)
finish (Choosing e last cs first b) = choosing cs b
finish (Over ss) = []

-- the line on which all of that stands
abbrev pub last_line : State → ℕ
last_line (at p n b) = n.last
last_line (After k first last b) = last
last_line s = 0
