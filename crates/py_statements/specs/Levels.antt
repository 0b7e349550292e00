-- How many suites are open, with the one that a compound statement opens where it has just begun.
--     is_start .. begins_at     whether a compound statement has just begun
--     open_count, level         how many suites are open
use Rattle.std.specs.Prelude.{ℕ, suc, Bool, true, false, cond, ◌&&◌}
use Rattle.py_syntax.specs.Tree.{no_arms, arm}
use Rattle.py_grammar.specs.Machine as expression
use Rattle.py_grammar.specs.Machine.{Want, Outside}
use Rattle.py_statements.specs.Open.{SuiteStack, top, inside, SuiteOf, an_arm, a_while, a_for}
use Rattle.py_statements.specs.Open.{a_try, a_clause, an_else, a_finally, a_def, a_case}
use Rattle.py_statements.specs.Machine.{Continuation, value, augmented, leaving, asserted, reason}
use Rattle.py_statements.specs.Machine.{arm_test, while_test, for_target, for_over, clause_kind}
use Rattle.py_statements.specs.Machine.{subject, guard, default, Place, Reading, Matching, Simple}
use Rattle.py_statements.specs.Machine.{Semicolon, Leaving, NameWanted, NameRead, BoundWanted}
use Rattle.py_statements.specs.Machine.{BoundRead, ModuleWanted, ImportWanted, FunctionWanted}
use Rattle.py_statements.specs.Machine.{ParamsWanted, ParamWanted, ParamRead, Except, ClauseBound}
use Rattle.py_statements.specs.Machine.{ColonWanted, SuiteWanted, IndentWanted, MatchLine}
use Rattle.py_statements.specs.Machine.{MatchBlock, State, at}

-- nothing of the expression is read
abbrev pub is_start : expression.State → Bool
is_start (Want l (Outside g)) = true
is_start s = false

-- a compound statement has just begun, where an expression is read in its header
abbrev pub begins_header : Continuation → Bool
begins_header (value ts) = false
begins_header (augmented p op) = false
begins_header (leaving raises) = false
begins_header asserted = false
begins_header (reason test) = false
begins_header (arm_test no_arms) = true
begins_header (arm_test (arm t b arms)) = false
begins_header while_test = true
begins_header for_target = true
begins_header (for_over t) = false
begins_header (clause_kind body cs) = false
begins_header subject = true
begins_header (guard e last cs p) = false
begins_header (default x ps ds y) = false

-- and where its colon is wanted
abbrev pub begins_suite : SuiteOf → Bool
begins_suite (an_arm arms t) = false
begins_suite (a_while t) = false
begins_suite (a_for t e) = false
begins_suite a_try = true
begins_suite (a_clause body cs e x) = false
begins_suite (an_else k) = false
begins_suite (a_finally body cs o) = false
begins_suite (a_def x ps ds c) = false
begins_suite (a_case e last cs p g) = false

-- and anywhere
abbrev pub begins_at : Place → Bool
begins_at (Reading r s) = begins_header r && is_start s
begins_at (Matching e last cs s) = false
begins_at (Simple k) = false
begins_at (Semicolon k) = false
begins_at (Leaving raises) = false
begins_at (NameWanted l) = false
begins_at (NameRead l x) = false
begins_at (BoundWanted l x) = false
begins_at (BoundRead l) = false
begins_at ModuleWanted = false
begins_at (ImportWanted m) = false
begins_at FunctionWanted = true
begins_at (ParamsWanted x) = false
begins_at (ParamWanted x ps ds) = false
begins_at (ParamRead x ps ds y) = false
begins_at (Except body cs) = false
begins_at (ClauseBound body cs e) = false
begins_at (ColonWanted o) = begins_suite o
begins_at (SuiteWanted o) = false
begins_at (IndentWanted o) = false
begins_at (MatchLine e last) = false
begins_at (MatchBlock e last) = false

-- how many suites are open
abbrev pub open_count : SuiteStack → ℕ
open_count (top ss) = 0
open_count (inside ss inline first last begun o b) = suc (open_count b)

-- how many suites stand inside each other where a header begins one more, else 0
abbrev pub level : State → ℕ
level (at p n b) = cond (begins_at p) (suc (open_count b)) 0
level s = 0
