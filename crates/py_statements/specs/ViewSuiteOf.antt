-- What an open suite belongs to as the code holds it.
--     boxed_expr, boxed_kind, boxed_pattern     trees in boxes
--     of_match, of_try, of_signature            what is made of the parts of a statement so far
--     try_of .. case_of                         statements, and what suites belong to, made so
--     view_else_of .. boxed_suite_of            what an open suite belongs to
use Rattle.std.specs.Prelude.{ℕ, Bool, List, Option, option_map, Box}
use Rattle.std.specs.Global.{Global}
use Rattle.py_syntax.specs.declared.expr.Expr.{Expr as Node}
use Rattle.py_syntax.specs.declared.pattern.Pattern.{Pattern as PatternNode}
use Rattle.py_syntax.specs.declared.stmt.StmtKind.{StmtKind as KindNode}
use Rattle.py_syntax.specs.Tree.{Text, Expr, Exprs, Pattern, Suite, OptSuite, no_suite, Clauses}
use Rattle.py_syntax.specs.Tree.{Cases, StmtKind, if', while, for, try}
use Rattle.py_syntax.specs.View.{plain_expr, plain_exprs, plain_pattern, plain_kind, plain_suite}
use Rattle.py_syntax.specs.View.{plain_opt_suite, plain_arms, plain_clauses, plain_cases}
use Rattle.py_statements.specs.declared.suite_of.PartialMatch.{PartialMatch}
use Rattle.py_statements.specs.declared.suite_of.PartialTry.{PartialTry}
use Rattle.py_statements.specs.declared.suite_of.Signature.{Signature}
use Rattle.py_statements.specs.declared.suite_of.ElseOf as code_else
use Rattle.py_statements.specs.declared.suite_of.ElseOf.TheVariants as else_of_
use Rattle.py_statements.specs.declared.suite_of.SuiteOf as code_suite_of
use Rattle.py_statements.specs.declared.suite_of.SuiteOf.TheVariants as suite_of_
use Rattle.py_statements.specs.Open.{SuiteOf, an_arm, a_while, a_for, a_try, a_clause, an_else}
use Rattle.py_statements.specs.Open.{a_finally, a_def, a_case}

-- ---- trees in boxes

-- the plain tree of an expression in a box
abbrev pub boxed_expr : Box Node Global → Expr
boxed_expr b = plain_expr b.value

-- the plain tree of a pattern in a box
abbrev pub boxed_pattern : Box PatternNode Global → Pattern
boxed_pattern b = plain_pattern b.value

-- the plain tree of a statement in a box, without its lines
abbrev pub boxed_kind : Box KindNode Global → StmtKind
boxed_kind b = plain_kind b.value

-- ---- what is made of the parts of a statement

-- of the subject of a `match`, the last line of its header and its cases so far
abbrev pub of_match : {A : Type 0} → (Expr → ℕ → Cases → A) → Box PartialMatch Global → A
of_match f m = f (plain_expr m.value.subject) m.value.header_last (plain_cases m.value.cases.items)

-- of the suite of a `try` and its clauses so far
abbrev pub of_try : {A : Type 0} → (Suite → Clauses → A) → PartialTry → A
of_try f t = f (plain_suite t.body) (plain_clauses t.clauses.items)

-- of the name of a `def`, its parameters so far and their defaults
abbrev pub of_signature : {A : Type 0} → (Text → List Text → Exprs → A) → Signature → A
of_signature f s = f s.name s.params.items (plain_exprs s.defaults.items)

-- the `try` statement, with its `else` and its `finally`
abbrev pub try_of : PartialTry → OptSuite → OptSuite → StmtKind
try_of t o f = of_try (λ b cs. try b cs o f) t

-- the clause that follows, whose suite is open
abbrev pub clause_of : PartialTry → Option Expr → Option Text → SuiteOf
clause_of t e x = of_try (λ b cs. a_clause b cs e x) t

-- the `finally`, whose suite is open
abbrev pub finally_of : PartialTry → OptSuite → SuiteOf
finally_of t o = of_try (λ b cs. a_finally b cs o) t

-- the `def`, whose suite is open
abbrev pub def_of : Signature → Bool → SuiteOf
def_of s c = of_signature (λ x ps ds. a_def x ps ds c) s

-- the case that follows, whose suite is open
abbrev pub case_of : Box PartialMatch Global → Pattern → Option Expr → SuiteOf
case_of c p g = of_match (λ e last cs. a_case e last cs p g) c

-- ---- what an open suite belongs to

-- a statement that may take an `else`
abbrev pub view_else_of : code_else.ElseOf → StmtKind
view_else_of (else_of_.If arms) = if' (plain_arms arms.items) no_suite
view_else_of (else_of_.While t b) = while (plain_expr t) (plain_suite b) no_suite
view_else_of (else_of_.For t e b) = for (plain_expr t) (plain_expr e) (plain_suite b) no_suite
view_else_of (else_of_.Try t) = try_of t no_suite no_suite

-- what an open suite belongs to
abbrev pub view_suite_of : code_suite_of.SuiteOf → SuiteOf
view_suite_of (suite_of_.Arm arms t) = an_arm (plain_arms arms.items) (boxed_expr t)
view_suite_of (suite_of_.While t) = a_while (boxed_expr t)
view_suite_of (suite_of_.For t e) = a_for (boxed_expr t) (boxed_expr e)
view_suite_of suite_of_.Try = a_try
view_suite_of (suite_of_.Clause t e x) = clause_of t (option_map boxed_expr e) x
view_suite_of (suite_of_.Else k) = an_else (view_else_of k)
view_suite_of (suite_of_.Finally t o) = finally_of t (plain_opt_suite o)
view_suite_of (suite_of_.Def s c) = def_of s c
view_suite_of (suite_of_.Case c p g) = case_of c (boxed_pattern p) (option_map boxed_expr g)

-- the same in a box
abbrev pub boxed_suite_of : Box code_suite_of.SuiteOf Global → SuiteOf
boxed_suite_of b = view_suite_of b.value
