-- Reading a list of marked tokens whose lines are given by their places, and the trees with the
-- lines of their places.
--     kinds_past, def_head, match_head     places after parts
--     after_while .. after_case            places after headers
--     stmts_past .. cases_past             places after statements
--     Source, last_before                  the lines of the token at each place
--     run                                  the reading of a list from a place on
--     relined .. relined_cases             trees with the lines of their places
use Rattle.std.specs.Prelude.{ℕ, zero, suc, Bool, true, false, List, [], ◌∷◌, Option, Some, None}
use Rattle.py_token.specs.declared.token.Keyword.TheVariants as word
use Rattle.py_token.specs.declared.token.Mark.TheVariants as mark
use Rattle.py_syntax.specs.Tree.{Text, Expr, Exprs, Pattern}
use Rattle.py_syntax.specs.Tree.{Stmts, no_stmts, stmt, Suite, suite, OptSuite, no_suite, has_suite}
use Rattle.py_syntax.specs.Tree.{Arms, no_arms, arm, Clauses, no_clauses, clause, Cases, no_cases}
use Rattle.py_syntax.specs.Tree.{case, StmtKind, expr, assign, aug_assign, pass, break, continue}
use Rattle.py_syntax.specs.Tree.{return, raise, assert, global, import, from, if', while, for, try}
use Rattle.py_syntax.specs.Tree.{def, match}
use Rattle.py_syntax.specs.Kinds.{Kind, Name, Word, Sign}
use Rattle.py_syntax.specs.Tokens.{tokens, pattern_tokens}
use Rattle.py_syntax.specs.Headers.{Marked, kinds_marked}
use Rattle.py_syntax.specs.Statements.{kind_tokens, end_tokens, param_tokens, except_tokens}
use Rattle.py_syntax.specs.Statements.{guard_tokens, case_name}
use Rattle.py_syntax.specs.Spelling.{test_head, for_head}
use Rattle.py_statements.specs.Machine.{State, step}

-- ---- places after parts

-- the place after so many tokens
abbrev pub kinds_past : List Kind → ℕ → ℕ
kinds_past [] p = p
kinds_past (k ∷ ks) p = kinds_past ks (suc p)

-- the header of a `def`
abbrev pub def_head : Text → List Text → Exprs → Bool → List Kind
def_head x ps ds c =
    Word word.Def ∷ Name x ∷ Sign mark.LeftParen
    ∷ param_tokens ps ds c (Sign mark.RightParen ∷ Sign mark.Colon ∷ [])

-- the header of a `match` after its first token
abbrev pub match_head : Expr → List Kind
match_head e = tokens e (Sign mark.Colon ∷ [])

-- the place after the header of an `if` that begins at a place
abbrev pub after_arm : Expr → ℕ → ℕ
after_arm t p = kinds_past (test_head word.If t) p

-- after the header of a `while`
abbrev pub after_while : Expr → ℕ → ℕ
after_while t p = kinds_past (test_head word.While t) p

-- after the header of a `for`
abbrev pub after_for : Expr → Expr → ℕ → ℕ
after_for t e p = kinds_past (for_head t e) p

-- after the header of a `try`
abbrev pub after_try : ℕ → ℕ
after_try p = suc (suc p)

-- after the header of an `except` clause
abbrev pub after_clause : Option Expr → Option Text → ℕ → ℕ
after_clause e x p = kinds_past (except_tokens e x) p

-- after the header of a `def`
abbrev pub after_def : Text → List Text → Exprs → Bool → ℕ → ℕ
after_def x ps ds c p = kinds_past (def_head x ps ds c) p

-- after the header of a `match`, where its block begins
abbrev pub after_match : Expr → ℕ → ℕ
after_match e p = suc (suc (kinds_past (match_head e) (suc p)))

-- after the header of a case
abbrev pub after_case : Pattern → Option Expr → ℕ → ℕ
after_case c g p = kinds_past (Name case_name ∷ pattern_tokens c (guard_tokens g)) p

-- the places after statements, cases and clauses, each from the place where it begins
abbrev mutual
  -- the place after statements in a row
  pub stmts_past : Stmts → ℕ → ℕ
  stmts_past no_stmts p = p
  stmts_past (stmt first last k e ss) p = stmts_past ss (kinds_past (end_tokens e) (kind_past k p))

  -- after a statement
  pub kind_past : StmtKind → ℕ → ℕ
  kind_past (expr e) p = kinds_past (kinds_marked (kind_tokens (expr e) [])) p
  kind_past (assign ts e) p = kinds_past (kinds_marked (kind_tokens (assign ts e) [])) p
  kind_past (aug_assign t op e) p = kinds_past (kinds_marked (kind_tokens (aug_assign t op e) [])) p
  kind_past pass p = kinds_past (kinds_marked (kind_tokens pass [])) p
  kind_past break p = kinds_past (kinds_marked (kind_tokens break [])) p
  kind_past continue p = kinds_past (kinds_marked (kind_tokens continue [])) p
  kind_past (return e) p = kinds_past (kinds_marked (kind_tokens (return e) [])) p
  kind_past (raise e) p = kinds_past (kinds_marked (kind_tokens (raise e) [])) p
  kind_past (assert t e) p = kinds_past (kinds_marked (kind_tokens (assert t e) [])) p
  kind_past (global xs) p = kinds_past (kinds_marked (kind_tokens (global xs) [])) p
  kind_past (import names) p = kinds_past (kinds_marked (kind_tokens (import names) [])) p
  kind_past (from m names) p = kinds_past (kinds_marked (kind_tokens (from m names) [])) p
  kind_past (if' arms o) p = opt_past o (arms_past arms p)
  kind_past (while t b o) p = opt_past o (suite_past b (after_while t p))
  kind_past (for t e b o) p = opt_past o (suite_past b (after_for t e p))
  kind_past (try b cs o f) p =
      opt_past f (opt_past o (clauses_past cs (suite_past b (after_try p))))
  kind_past (def x ps ds c b) p = suite_past b (after_def x ps ds c p)
  kind_past (match e last cs) p = suc (cases_past cs (after_match e p))

  -- after a suite
  pub suite_past : Suite → ℕ → ℕ
  suite_past (suite first last true b) p = stmts_past b p
  suite_past (suite first last false b) p = suc (stmts_past b (suc (suc p)))

  -- after the suite of an `else` or a `finally`, where there is one
  pub opt_past : OptSuite → ℕ → ℕ
  opt_past no_suite p = p
  opt_past (has_suite s) p = suite_past s (suc (suc p))

  -- after tests with their suites
  pub arms_past : Arms → ℕ → ℕ
  arms_past no_arms p = p
  arms_past (arm t b arms) p = arms_past arms (suite_past b (after_arm t p))

  -- after the clauses of a `try`
  pub clauses_past : Clauses → ℕ → ℕ
  clauses_past no_clauses p = p
  clauses_past (clause e x b cs) p = clauses_past cs (suite_past b (after_clause e x p))

  -- after the cases of a `match`
  pub cases_past : Cases → ℕ → ℕ
  cases_past no_cases p = p
  cases_past (case c g b cs) p = cases_past cs (suite_past b (after_case c g p))

-- ---- the first and last lines of the token at each place

-- the first and the last line of the token at each place
pub record Source : Type 0 where
  pub first : ℕ → ℕ
  pub last : ℕ → ℕ

-- the last line of the token before a place
abbrev pub last_before : Source → ℕ → ℕ
last_before src zero = 0
last_before src (suc p) = src.last p

-- The tokens from a place on, as far as each is taken.
abbrev pub run : Source → State → List Marked → ℕ → Option State
run src s [] p = Some s
run src s (m ∷ ms) p =
    elim (step s m (src.first p) (src.last p)) as (λ (o : Option State). Option State) [
      | None ↦ None
      | Some n ↦ run src n ms (suc p)
    ]

-- The tree with the lines of its places, of which this is the first.
abbrev mutual
  pub relined : Source → Stmts → ℕ → Stmts
  relined src no_stmts p = no_stmts
  relined src (stmt first last k e ss) p =
      stmt (src.first p) (last_before src (kind_past k p)) (relined_kind src k p) e
      (relined src ss (kinds_past (end_tokens e) (kind_past k p)))

  -- a statement
  pub relined_kind : Source → StmtKind → ℕ → StmtKind
  relined_kind src (expr e) p = expr e
  relined_kind src (assign ts e) p = assign ts e
  relined_kind src (aug_assign t op e) p = aug_assign t op e
  relined_kind src pass p = pass
  relined_kind src break p = break
  relined_kind src continue p = continue
  relined_kind src (return e) p = return e
  relined_kind src (raise e) p = raise e
  relined_kind src (assert t e) p = assert t e
  relined_kind src (global xs) p = global xs
  relined_kind src (import names) p = import names
  relined_kind src (from m names) p = from m names
  relined_kind src (if' arms o) p =
      if' (relined_arms src arms p) (relined_opt src o (arms_past arms p))
  relined_kind src (while t b o) p =
      while t (relined_suite src b p (after_while t p))
      (relined_opt src o (suite_past b (after_while t p)))
  relined_kind src (for t e b o) p =
      for t e (relined_suite src b p (after_for t e p))
      (relined_opt src o (suite_past b (after_for t e p)))
  relined_kind src (try b cs o f) p =
      try (relined_suite src b p (after_try p))
      (relined_clauses src cs (suite_past b (after_try p)))
      (relined_opt src o (clauses_past cs (suite_past b (after_try p))))
      (relined_opt src f (opt_past o (clauses_past cs (suite_past b (after_try p)))))
  relined_kind src (def x ps ds c b) p =
      def x ps ds c (relined_suite src b p (after_def x ps ds c p))
  relined_kind src (match e last cs) p =
      match e (last_before src (kinds_past (match_head e) (suc p)))
      (relined_cases src cs (after_match e p))

  -- a suite whose header begins at the first place, and whose tokens begin at the second
  pub relined_suite : Source → Suite → ℕ → ℕ → Suite
  relined_suite src (suite first last true b) h p =
      suite (src.first h) (last_before src p) true (relined src b p)
  relined_suite src (suite first last false b) h p =
      suite (src.first h) (last_before src p) false (relined src b (suc (suc p)))

  -- the suite of an `else` or a `finally`, where there is one
  pub relined_opt : Source → OptSuite → ℕ → OptSuite
  relined_opt src no_suite p = no_suite
  relined_opt src (has_suite s) p = has_suite (relined_suite src s p (suc (suc p)))

  -- tests with their suites
  pub relined_arms : Source → Arms → ℕ → Arms
  relined_arms src no_arms p = no_arms
  relined_arms src (arm t b arms) p =
      arm t (relined_suite src b p (after_arm t p))
      (relined_arms src arms (suite_past b (after_arm t p)))

  -- the clauses of a `try`
  pub relined_clauses : Source → Clauses → ℕ → Clauses
  relined_clauses src no_clauses p = no_clauses
  relined_clauses src (clause e x b cs) p =
      clause e x (relined_suite src b p (after_clause e x p))
      (relined_clauses src cs (suite_past b (after_clause e x p)))

  -- the cases of a `match`
  pub relined_cases : Source → Cases → ℕ → Cases
  relined_cases src no_cases p = no_cases
  relined_cases src (case c g b cs) p =
      case c g (relined_suite src b p (after_case c g p))
      (relined_cases src cs (suite_past b (after_case c g p)))
