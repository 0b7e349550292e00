-- What the machine keeps: what was read is normal and fits its place, and statements end their lines.
use Rattle.std.proofs.Common.{◌≡◌, ◌≤◌, true, false, List, length}
use Rattle.py_syntax.specs.Tree.{Text, Exprs}
use Rattle.py_syntax.specs.Tree.{Stmts, no_suite, has_suite, clause, StmtKind, pass, if', while, for, try}
use Rattle.py_syntax.specs.Normal.{Normal, Each, is_target, is_place, NormalPattern}
use Rattle.py_syntax.specs.Statements.{count, is_simple, EndLines, ShareLine, IsOption, NormalExpr, NormalTargets, NormalClauseHead, NormalTry, NormalParams, NormalStmts, NormalKind, NormalSuite, NormalOpt, NormalArms, NormalClauses, NormalCases}
use Rattle.py_grammar.proofs.Sound.Valid as expression
use Rattle.py_parse_pattern.proofs.Sound.NormalStates as pattern
use Rattle.py_statements.specs.Open.{snoc_stmt, newline_end, SuiteOf, an_arm, a_while, a_for, a_try, a_clause, an_else, a_finally, a_def, a_case, SuiteStack, top, inside}
use Rattle.py_statements.specs.Machine.{Continuation, value, augmented, leaving, asserted, reason, arm_test, while_test, for_target, for_over, clause_kind, subject, guard, default, goal, Place, Reading, Matching, Simple, Semicolon, Leaving, NameWanted, NameRead, BoundWanted, BoundRead, ModuleWanted, ImportWanted, FunctionWanted, ParamsWanted, ParamWanted, ParamRead, Except, ClauseBound, ColonWanted, SuiteWanted, IndentWanted, MatchLine, MatchBlock, State, Line, at, After, Choosing, Over}
use Rattle.py_statements.specs.Listed.{listed, may_bind}
use Rattle.py_parse.specs.Least.{pass_suite, ended}

-- a statement that may get an `else` suite
abbrev pub TakesElse : StmtKind → Type 0
TakesElse (if' arms no_suite) = NormalKind (if' arms no_suite)
TakesElse (while t b no_suite) = NormalKind (while t b no_suite)
TakesElse (for t e b no_suite) = NormalKind (for t e b no_suite)
TakesElse (try b (clause e x s cs) no_suite no_suite) = NormalKind (try b (clause e x s cs) no_suite no_suite)
TakesElse k = ⊥

-- parameters in front of another
abbrev pub ValidParams : List Text → Exprs → Type 0
ValidParams ps ds = (count ds ≤ length ps) × Each ds

abbrev pub ValidSuiteOf : SuiteOf → Type 0
ValidSuiteOf (an_arm arms t) = NormalArms arms × NormalExpr t
ValidSuiteOf (a_while t) = NormalExpr t
ValidSuiteOf (a_for t e) = Normal t × (is_target t ≡ true) × Normal e
ValidSuiteOf a_try = Unit {0}
ValidSuiteOf (a_clause b cs e x) = NormalSuite b × NormalClauses cs × NormalClauseHead e x
ValidSuiteOf (an_else k) = TakesElse k
ValidSuiteOf (a_finally b cs o) = NormalTry cs o (has_suite (pass_suite 0)) × NormalSuite b × NormalClauses cs × NormalOpt o
ValidSuiteOf (a_def x ps ds c) = NormalParams ps ds c
ValidSuiteOf (a_case e last cs p g) = Normal e × NormalCases cs × NormalPattern p × IsOption NormalExpr g

-- ---- open suites

-- a simple statement after these
abbrev pub with_pass : Stmts → Stmts
with_pass ss = snoc_stmt ss 0 0 pass newline_end

-- A statement may begin on a new line.
abbrev pub ValidLine : SuiteStack → Type 0
ValidLine (top ss) = EndLines ss × NormalStmts ss
ValidLine (inside ss inline first last begun o b) = (inline ≡ false) × EndLines ss × NormalStmts ss × ValidSuiteOf o × ValidLine b

-- A simple statement may stand here.
abbrev pub ValidSimple : SuiteStack → Type 0
ValidSimple (top ss) = EndLines (with_pass ss) × NormalStmts ss
ValidSimple (inside ss true first last begun o b) = ShareLine (with_pass ss) × NormalStmts ss × ValidSuiteOf o × ValidLine b
ValidSimple (inside ss false first last begun o b) = EndLines (with_pass ss) × NormalStmts ss × ValidSuiteOf o × ValidLine b

-- ---- places

abbrev pub ValidContinuation : Continuation → SuiteStack → Type 0
ValidContinuation (value ts) b = NormalTargets ts × ValidSimple b
ValidContinuation (augmented p op) b = Normal p × (is_place p ≡ true) × ValidSimple b
ValidContinuation (leaving raises) b = ValidSimple b
ValidContinuation asserted b = ValidSimple b
ValidContinuation (reason t) b = NormalExpr t × ValidSimple b
ValidContinuation (arm_test arms) b = NormalArms arms × ValidLine b
ValidContinuation while_test b = ValidLine b
ValidContinuation for_target b = ValidLine b
ValidContinuation (for_over t) b = Normal t × (is_target t ≡ true) × ValidLine b
ValidContinuation (clause_kind s cs) b = NormalSuite s × NormalClauses cs × ValidLine b
ValidContinuation subject b = ValidLine b
ValidContinuation (guard e last cs p) b = Normal e × NormalCases cs × NormalPattern p × ValidLine b
ValidContinuation (default x ps ds y) b = ValidParams ps ds × ValidLine b

abbrev pub ValidPlace : Place → SuiteStack → Type 0
ValidPlace (Reading r s) b = expression.Sound (goal r) s × ValidContinuation r b
ValidPlace (Matching e last cs s) b = Normal e × NormalCases cs × pattern.NormalState s × ValidLine b
ValidPlace (Simple k) b = NormalKind k × (is_simple k ≡ true) × ValidSimple b
ValidPlace (Semicolon k) b = NormalKind k × (is_simple k ≡ true) × ValidSimple b
ValidPlace (Leaving raises) b = ValidSimple b
ValidPlace (NameWanted l) b = ValidSimple b
ValidPlace (NameRead l x) b = ValidSimple b
ValidPlace (BoundWanted l x) b = (may_bind l ≡ true) × ValidSimple b
ValidPlace (BoundRead l) b = NormalKind (listed l) × ValidSimple b
ValidPlace ModuleWanted b = ValidSimple b
ValidPlace (ImportWanted m) b = ValidSimple b
ValidPlace FunctionWanted b = ValidLine b
ValidPlace (ParamsWanted x) b = ValidLine b
ValidPlace (ParamWanted x ps ds) b = ValidParams ps ds × ValidLine b
ValidPlace (ParamRead x ps ds y) b = ValidParams ps ds × ValidLine b
ValidPlace (Except s cs) b = NormalSuite s × NormalClauses cs × ValidLine b
ValidPlace (ClauseBound s cs e) b = NormalSuite s × NormalClauses cs × NormalExpr e × ValidLine b
ValidPlace (ColonWanted o) b = ValidSuiteOf o × ValidLine b
ValidPlace (SuiteWanted o) b = ValidSuiteOf o × ValidLine b
ValidPlace (IndentWanted o) b = ValidSuiteOf o × ValidLine b
ValidPlace (MatchLine e last) b = Normal e × ValidLine b
ValidPlace (MatchBlock e last) b = Normal e × ValidLine b

abbrev pub Valid : State → Type 0
Valid (Line b) = ValidLine b
Valid (at p n b) = ValidPlace p b
Valid (After k first last b) = NormalKind (ended 0 k) × (is_simple k ≡ false) × ValidLine b
Valid (Choosing e last cs first b) = Normal e × NormalCases cs × ValidLine b
Valid (Over ss) = EndLines ss × NormalStmts ss
