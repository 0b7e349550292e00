-- Statements in which no alternative of a pattern binds a name (Python Language Reference, 8.6.4.1,
-- "OR Patterns").
--     BindsNone, ProperPattern       patterns
--     AreProper, IsProper            statements
use Rattle.py_syntax.specs.Tree.{Pattern, literal, capture, wild, member, sequence, p_or, p_as, p_paren, Patterns, no_patterns, patterns}
use Rattle.py_syntax.specs.Tree.{Stmts, no_stmts, stmt, suite, OptSuite, no_suite, has_suite, Arms, no_arms, arm, Clauses, no_clauses, clause, Cases, no_cases, case, StmtKind, expr, assign, aug_assign, pass, break, continue, return, raise, assert, global, import, from, if', while, for, try, def, match}

abbrev mutual
  -- a pattern that binds no name
  pub BindsNone : Pattern → Type 0
  BindsNone (literal minus k) = Unit {0}
  BindsNone (capture x) = ⊥
  BindsNone wild = Unit {0}
  BindsNone (member m x) = Unit {0}
  BindsNone (sequence brackets qs comma) = NoneBind qs
  BindsNone (p_or qs) = NoneBind qs
  BindsNone (p_as q x) = ⊥
  BindsNone (p_paren q) = BindsNone q

  -- patterns that bind none
  pub NoneBind : Patterns → Type 0
  NoneBind no_patterns = Unit {0}
  NoneBind (patterns q qs) = BindsNone q × NoneBind qs

-- no alternative in it binds a name
abbrev mutual
  -- a pattern no alternative of which binds a name
  pub ProperPattern : Pattern → Type 0
  ProperPattern (literal minus k) = Unit {0}
  ProperPattern (capture x) = Unit {0}
  ProperPattern wild = Unit {0}
  ProperPattern (member m x) = Unit {0}
  ProperPattern (sequence brackets qs comma) = ProperPatterns qs
  ProperPattern (p_or qs) = NoneBind qs
  ProperPattern (p_as q x) = ProperPattern q
  ProperPattern (p_paren q) = ProperPattern q

  -- such patterns in a row
  pub ProperPatterns : Patterns → Type 0
  ProperPatterns no_patterns = Unit {0}
  ProperPatterns (patterns q qs) = ProperPattern q × ProperPatterns qs

-- so it is in each pattern of statements
abbrev mutual
  -- statements with such patterns alone
  pub AreProper : Stmts → Type 0
  AreProper no_stmts = Unit {0}
  AreProper (stmt first last kind end rest) = IsProper kind × AreProper rest

  -- a statement with such patterns alone
  pub IsProper : StmtKind → Type 0
  IsProper (expr e) = Unit {0}
  IsProper (assign targets e) = Unit {0}
  IsProper (aug_assign place op e) = Unit {0}
  IsProper pass = Unit {0}
  IsProper break = Unit {0}
  IsProper continue = Unit {0}
  IsProper (return e) = Unit {0}
  IsProper (raise e) = Unit {0}
  IsProper (assert test why) = Unit {0}
  IsProper (global xs) = Unit {0}
  IsProper (import names) = Unit {0}
  IsProper (from m names) = Unit {0}
  IsProper (if' arms orelse) = ProperArms arms × ProperOpt orelse
  IsProper (while test (suite first last inline body) orelse) = AreProper body × ProperOpt orelse
  IsProper (for target over (suite first last inline body) orelse) =
      AreProper body × ProperOpt orelse
  IsProper (try (suite first last inline body) clauses orelse finally) =
      AreProper body × ProperClauses clauses × ProperOpt orelse × ProperOpt finally
  IsProper (def x params defaults comma body) = Unit {0}
  IsProper (match subject header cases) = ProperCases cases

  -- the suite of an `else` or a `finally`, which may be missing
  pub ProperOpt : OptSuite → Type 0
  ProperOpt no_suite = Unit {0}
  ProperOpt (has_suite (suite first last inline body)) = AreProper body

  -- the tests of an `if`
  pub ProperArms : Arms → Type 0
  ProperArms no_arms = Unit {0}
  ProperArms (arm test (suite first last inline body) rest) = AreProper body × ProperArms rest

  -- the clauses of a `try`
  pub ProperClauses : Clauses → Type 0
  ProperClauses no_clauses = Unit {0}
  ProperClauses (clause kind x (suite first last inline body) rest) =
      AreProper body × ProperClauses rest

  -- the cases of a `match`
  pub ProperCases : Cases → Type 0
  ProperCases no_cases = Unit {0}
  ProperCases (case q guard (suite first last inline body) rest) =
      ProperPattern q × AreProper body × ProperCases rest
