-- What was read before a state, and then others.
use Rattle.std.proofs.Common.{Bool, true, false, cond, List, [], ◌∷◌, Option, Some, None}
use Rattle.py_token.specs.declared.token.Keyword.TheVariants as word
use Rattle.py_token.specs.declared.token.Mark.TheVariants as mark
use Rattle.py_syntax.specs.Tree.{Text, Expr, Exprs, Alias}
use Rattle.py_syntax.specs.Tree.{no_suite, no_arms, arm, Cases, if', try}
use Rattle.py_syntax.specs.Kinds.{Kind, Name, Word, Sign, Newline, Indent, End}
use Rattle.py_syntax.specs.Tokens.{tokens, pattern_tokens}
use Rattle.py_syntax.specs.Headers.{Marked, put, match_name}
use Rattle.py_syntax.specs.Statements.{in_place_mark, target_tokens, as_tokens, param_tokens, case_name, stmts_tokens, kind_tokens, case_tokens}
use Rattle.py_grammar.proofs.Sound as expression
use Rattle.py_parse_pattern.proofs.Sound as pattern
use Rattle.py_statements.specs.Open.{SuiteOf, an_arm, a_while, a_for, a_try, a_clause, an_else, a_finally, a_def, a_case, SuiteStack, top, inside}
use Rattle.py_statements.specs.Machine.{Continuation, value, augmented, leaving, asserted, reason, arm_test, while_test, for_target, for_over, clause_kind, subject, guard, default, Place, Reading, Matching, Simple, Semicolon, Leaving, NameWanted, NameRead, BoundWanted, BoundRead, ModuleWanted, ImportWanted, FunctionWanted, ParamsWanted, ParamWanted, ParamRead, Except, ClauseBound, ColonWanted, SuiteWanted, IndentWanted, MatchLine, MatchBlock, State, Line, at, After, Choosing, Over}
use Rattle.py_statements.specs.Listed.{Listed, globals, imports, froms, listed}

-- ---- the tokens of a header or a simple statement so far, and then others

-- names with a comma after each
abbrev pub commas : List Text → List Kind → List Kind
commas [] r = r
commas (x ∷ xs) r = Name x ∷ Sign mark.Comma ∷ commas xs r

abbrev pub alias_commas : List Alias → List Kind → List Kind
alias_commas [] r = r
alias_commas (a ∷ rest) r = Name a.name ∷ as_tokens a.bound (Sign mark.Comma ∷ alias_commas rest r)

abbrev pub listing : Listed → List Kind → List Kind
listing (globals xs) r = Word word.Global ∷ commas xs r
listing (imports names) r = Word word.Import ∷ alias_commas names r
listing (froms m names) r = Word word.From ∷ Name m ∷ Word word.Import ∷ alias_commas names r

abbrev pub leaving_word : Bool → Kind
leaving_word raises = cond raises (Word word.Raise) (Word word.Return)

-- a function with parameters, each with a comma
abbrev pub def_open : Text → List Text → Exprs → List Kind → List Kind
def_open x ps ds r = Word word.Def ∷ Name x ∷ Sign mark.LeftParen ∷ param_tokens ps ds true r

-- in front of the expression
abbrev pub front : Continuation → List Kind → List Kind
front (value ts) r = target_tokens ts r
front (augmented p op) r = tokens p (Sign (in_place_mark op) ∷ r)
front (leaving raises) r = leaving_word raises ∷ r
front asserted r = Word word.Assert ∷ r
front (reason t) r = Word word.Assert ∷ tokens t (Sign mark.Comma ∷ r)
front (arm_test no_arms) r = Word word.If ∷ r
front (arm_test (arm t b arms)) r = Word word.Elif ∷ r
front while_test r = Word word.While ∷ r
front for_target r = Word word.For ∷ r
front (for_over t) r = Word word.For ∷ tokens t (Word word.In ∷ r)
front (clause_kind b cs) r = Word word.Except ∷ r
front subject r = r
front (guard e last cs p) r = Name case_name ∷ pattern_tokens p (Word word.If ∷ r)
front (default x ps ds y) r = def_open x ps ds (Name y ∷ Sign mark.Equal ∷ r)

abbrev pub guard_part : Option Expr → List Kind → List Kind
guard_part None r = r
guard_part (Some e) r = Word word.If ∷ tokens e r

abbrev pub clause_part : Option Expr → Option Text → List Kind → List Kind
clause_part None x r = r
clause_part (Some e) x r = tokens e (as_tokens x r)

-- a header but for its colon
abbrev pub head : SuiteOf → List Kind → List Kind
head (an_arm no_arms t) r = Word word.If ∷ tokens t r
head (an_arm (arm t' b arms) t) r = Word word.Elif ∷ tokens t r
head (a_while t) r = Word word.While ∷ tokens t r
head (a_for t e) r = Word word.For ∷ tokens t (Word word.In ∷ tokens e r)
head a_try r = Word word.Try ∷ r
head (a_clause b cs e x) r = Word word.Except ∷ clause_part e x r
head (an_else k) r = Word word.Else ∷ r
head (a_finally b cs o) r = Word word.Finally ∷ r
head (a_def x ps ds c) r = Word word.Def ∷ Name x ∷ Sign mark.LeftParen ∷ param_tokens ps ds c (Sign mark.RightParen ∷ r)
head (a_case e last cs p g) r = Name case_name ∷ pattern_tokens p (guard_part g r)

abbrev pub inner : Place → List Kind → List Kind
inner (Reading p s) r = front p (expression.before s r)
inner (Matching e last cs s) r = Name case_name ∷ pattern.before s r
inner (Simple k) r = r
inner (Semicolon k) r = Sign mark.Semicolon ∷ r
inner (Leaving raises) r = leaving_word raises ∷ r
inner (NameWanted l) r = listing l r
inner (NameRead l x) r = listing l (Name x ∷ r)
inner (BoundWanted l x) r = listing l (Name x ∷ Word word.As ∷ r)
inner (BoundRead l) r = r
inner ModuleWanted r = Word word.From ∷ r
inner (ImportWanted m) r = Word word.From ∷ Name m ∷ r
inner FunctionWanted r = Word word.Def ∷ r
inner (ParamsWanted x) r = Word word.Def ∷ Name x ∷ r
inner (ParamWanted x ps ds) r = def_open x ps ds r
inner (ParamRead x ps ds y) r = def_open x ps ds (Name y ∷ r)
inner (Except b cs) r = Word word.Except ∷ r
inner (ClauseBound b cs e) r = Word word.Except ∷ tokens e (Word word.As ∷ r)
inner (ColonWanted o) r = head o r
inner (SuiteWanted o) r = head o (Sign mark.Colon ∷ r)
inner (IndentWanted o) r = head o (Sign mark.Colon ∷ Newline ∷ r)
inner (MatchLine e last) r = tokens e (Sign mark.Colon ∷ r)
inner (MatchBlock e last) r = tokens e (Sign mark.Colon ∷ Newline ∷ r)

-- ---- what stands in front of these in the statement

abbrev pub header_mark : Marked
header_mark = record { kind = Name match_name; header = true }

-- the header of a `match`, and cases
abbrev pub match_open : Expr → Cases → List Marked → List Marked
match_open e cs r = header_mark ∷ put (tokens e (Sign mark.Colon ∷ Newline ∷ Indent ∷ [])) (case_tokens cs r)

abbrev pub resume_outer : Continuation → List Marked → List Marked
resume_outer (arm_test arms) r = kind_tokens (if' arms no_suite) r
resume_outer (clause_kind b cs) r = kind_tokens (try b cs no_suite no_suite) r
resume_outer subject r = header_mark ∷ r
resume_outer (guard e last cs p) r = match_open e cs r
resume_outer p r = r

abbrev pub suite_of_outer : SuiteOf → List Marked → List Marked
suite_of_outer (an_arm arms t) r = kind_tokens (if' arms no_suite) r
suite_of_outer (a_clause b cs e x) r = kind_tokens (try b cs no_suite no_suite) r
suite_of_outer (an_else k) r = kind_tokens k r
suite_of_outer (a_finally b cs o) r = kind_tokens (try b cs o no_suite) r
suite_of_outer (a_case e last cs p g) r = match_open e cs r
suite_of_outer o r = r

abbrev pub outer : Place → List Marked → List Marked
outer (Reading p s) r = resume_outer p r
outer (Matching e last cs s) r = match_open e cs r
outer (Simple k) r = kind_tokens k r
outer (Semicolon k) r = kind_tokens k r
outer (BoundRead l) r = kind_tokens (listed l) r
outer (Except b cs) r = kind_tokens (try b cs no_suite no_suite) r
outer (ClauseBound b cs e) r = kind_tokens (try b cs no_suite no_suite) r
outer (ColonWanted o) r = suite_of_outer o r
outer (SuiteWanted o) r = suite_of_outer o r
outer (IndentWanted o) r = suite_of_outer o r
outer (MatchLine e last) r = header_mark ∷ r
outer (MatchBlock e last) r = header_mark ∷ r
outer p r = r

-- ---- states

abbrev pub opening : Bool → List Kind
opening true = []
opening false = Newline ∷ Indent ∷ []

abbrev pub before_suites : SuiteStack → List Marked → List Marked
before_suites (top ss) r = stmts_tokens ss r
before_suites (inside ss inline first last begun o b) r = before_suites b (suite_of_outer o (put (head o (Sign mark.Colon ∷ opening inline)) (stmts_tokens ss r)))

abbrev pub before : State → List Marked → List Marked
before (Line b) r = before_suites b r
before (at p n b) r = before_suites b (outer p (put (inner p []) r))
before (After k first last b) r = before_suites b (kind_tokens k r)
before (Choosing e last cs first b) r = before_suites b (match_open e cs r)
before (Over ss) r = stmts_tokens ss (put (End ∷ []) r)
