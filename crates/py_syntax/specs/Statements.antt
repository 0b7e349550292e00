-- The tokens of statements, and then others, with the headers of `match` statements marked; and
-- normal statements.
--     in_place_mark .. end_tokens              the tokens of what isn't a statement
--     stmts_tokens, kind_tokens                the tokens of statements; suite_tokens and the like
--                                              for what stands in them
--     is_simple, EndLines, ShareLine           where a statement may end, in a block and on one
--                                              line
--     IsOption .. AreSome                      what the parts of statements may be
--     NormalStmts, NormalKind                  statements that the grammar spells; NormalSuite and
--                                              the like for what stands in them
--     stmts_height, kind_height                how high the highest expression or pattern is
--     stmts_nesting, kind_nesting              how many suites stand inside each other
use Rattle.std.specs.Prelude.{◌≡◌, ℕ, zero, suc, ◌-◌, ◌≤◌, max, Bool, true, false, List, [], ◌∷◌, length, Option, Some, None}
use Rattle.py_operator.specs.declared.operator.BinOp.{BinOp}
use Rattle.py_operator.specs.declared.operator.BinOp.TheVariants as op_
use Rattle.py_token.specs.declared.token.Keyword.TheVariants as word
use Rattle.py_token.specs.declared.token.Mark.{Mark}
use Rattle.py_token.specs.declared.token.Mark.TheVariants as mark
use Rattle.py_syntax.specs.declared.stmt.LineEnd.{LineEnd}
use Rattle.py_syntax.specs.Tree.{Text, Expr, Exprs, no_exprs, exprs, Alias}
use Rattle.py_syntax.specs.Tree.{Stmts, no_stmts, stmt, Suite, suite, OptSuite, no_suite, has_suite, Arms, no_arms, arm, Clauses, no_clauses, clause, Cases, no_cases, case, StmtKind, expr, assign, aug_assign, pass, break, continue, return, raise, assert, global, import, from, if', while, for, try, def, match}
use Rattle.py_syntax.specs.Kinds.{Kind, Name, Word, Sign, Newline, Indent, Dedent}
use Rattle.py_syntax.specs.Tokens.{tokens, comma_if, pattern_tokens}
use Rattle.py_syntax.specs.Normal.{LExpr, At, Normal, Each, IsSomething, is_target, is_place, height, heights, NormalPattern, pattern_height}
use Rattle.py_syntax.specs.Headers.{Marked, put, match_name}

-- the mark of an augmented assignment
abbrev pub in_place_mark : BinOp → Mark
in_place_mark op_.Add = mark.PlusEqual
in_place_mark op_.Sub = mark.MinusEqual
in_place_mark op_.Mul = mark.StarEqual
in_place_mark op_.Floor = mark.DoubleSlashEqual
in_place_mark op_.Mod = mark.PercentEqual

-- each target with its `=`
abbrev pub target_tokens : Exprs → List Kind → List Kind
target_tokens no_exprs rest = rest
target_tokens (exprs t ts) rest = tokens t (Sign mark.Equal ∷ target_tokens ts rest)

-- an expression, where there is one
abbrev pub option_tokens : Option Expr → List Kind
option_tokens None = []
option_tokens (Some e) = tokens e []

-- the message of an `assert`, where there is one
abbrev pub assert_tokens : Option Expr → List Kind
assert_tokens None = []
assert_tokens (Some e) = Sign mark.Comma ∷ tokens e []

-- the names after the first
abbrev pub more_names : List Text → List Kind
more_names [] = []
more_names (x ∷ xs) = Sign mark.Comma ∷ Name x ∷ more_names xs

-- names with commas between them
abbrev pub name_list : List Text → List Kind
name_list [] = []
name_list (x ∷ xs) = Name x ∷ more_names xs

-- an `as` and its name, and then others
abbrev pub as_tokens : Option Text → List Kind → List Kind
as_tokens None rest = rest
as_tokens (Some x) rest = Word word.As ∷ Name x ∷ rest

-- the imported names after the first
abbrev pub more_aliases : List Alias → List Kind
more_aliases [] = []
more_aliases (a ∷ rest) = Sign mark.Comma ∷ Name a.name ∷ as_tokens a.bound (more_aliases rest)

-- imported names with commas between them
abbrev pub alias_list : List Alias → List Kind
alias_list [] = []
alias_list (a ∷ rest) = Name a.name ∷ as_tokens a.bound (more_aliases rest)

-- The parameters after the first, of which so many have no default.
abbrev pub more_params : ℕ → List Text → Exprs → Bool → List Kind → List Kind
more_params n [] ds c rest = comma_if c rest
more_params (suc n) (x ∷ xs) ds c rest = Sign mark.Comma ∷ Name x ∷ more_params n xs ds c rest
more_params zero (x ∷ xs) no_exprs c rest =
    Sign mark.Comma ∷ Name x ∷ more_params zero xs no_exprs c rest
more_params zero (x ∷ xs) (exprs d ds) c rest =
    Sign mark.Comma ∷ Name x ∷ Sign mark.Equal ∷ tokens d (more_params zero xs ds c rest)

-- parameters, of which so many have no default
abbrev pub params_from : ℕ → List Text → Exprs → Bool → List Kind → List Kind
params_from n [] ds c rest = rest
params_from (suc n) (x ∷ xs) ds c rest = Name x ∷ more_params n xs ds c rest
params_from zero (x ∷ xs) no_exprs c rest = Name x ∷ more_params zero xs no_exprs c rest
params_from zero (x ∷ xs) (exprs d ds) c rest =
    Name x ∷ Sign mark.Equal ∷ tokens d (more_params zero xs ds c rest)

-- how many expressions stand in a row
abbrev pub count : Exprs → ℕ
count no_exprs = 0
count (exprs e es) = suc (count es)

-- parameters, with the defaults of the last ones, and whether a comma stands after them
abbrev pub param_tokens : List Text → Exprs → Bool → List Kind → List Kind
param_tokens xs ds c rest = params_from (length xs - count ds) xs ds c rest

-- the header of an `except` clause
abbrev pub except_tokens : Option Expr → Option Text → List Kind
except_tokens None x = Word word.Except ∷ Sign mark.Colon ∷ []
except_tokens (Some e) x = Word word.Except ∷ tokens e (as_tokens x (Sign mark.Colon ∷ []))

-- the name `case`
abbrev pub case_name : Text
case_name = 99 ∷ 97 ∷ 115 ∷ 101 ∷ []

-- the guard of a case, where there is one, and the colon
abbrev pub guard_tokens : Option Expr → List Kind
guard_tokens None = Sign mark.Colon ∷ []
guard_tokens (Some e) = Word word.If ∷ tokens e (Sign mark.Colon ∷ [])

-- what stands after a statement on its line
abbrev pub end_tokens : LineEnd → List Kind
end_tokens e =
    elim (e.semicolon)
    [ true ↦ Sign mark.Semicolon ∷ newline_if e.newline | false ↦ newline_if e.newline ]
  where
    newline_if : Bool → List Kind
    newline_if true = Newline ∷ []
    newline_if false = []

abbrev mutual
  -- statements in a row
  pub stmts_tokens : Stmts → List Marked → List Marked
  stmts_tokens no_stmts rest = rest
  stmts_tokens (stmt first last k e ss) rest =
      kind_tokens k (put (end_tokens e) (stmts_tokens ss rest))

  -- a statement
  pub kind_tokens : StmtKind → List Marked → List Marked
  kind_tokens (expr e) rest = put (tokens e []) rest
  kind_tokens (assign ts e) rest = put (target_tokens ts (tokens e [])) rest
  kind_tokens (aug_assign t op e) rest = put (tokens t (Sign (in_place_mark op) ∷ tokens e [])) rest
  kind_tokens pass rest = put (Word word.Pass ∷ []) rest
  kind_tokens break rest = put (Word word.Break ∷ []) rest
  kind_tokens continue rest = put (Word word.Continue ∷ []) rest
  kind_tokens (return e) rest = put (Word word.Return ∷ option_tokens e) rest
  kind_tokens (raise e) rest = put (Word word.Raise ∷ option_tokens e) rest
  kind_tokens (assert e w) rest = put (Word word.Assert ∷ tokens e (assert_tokens w)) rest
  kind_tokens (global xs) rest = put (Word word.Global ∷ name_list xs) rest
  kind_tokens (import names) rest = put (Word word.Import ∷ alias_list names) rest
  kind_tokens (from m names) rest =
      put (Word word.From ∷ Name m ∷ Word word.Import ∷ alias_list names) rest
  kind_tokens (if' no_arms o) rest = rest
  kind_tokens (if' (arm t b arms) o) rest =
      put (Word word.If ∷ tokens t (Sign mark.Colon ∷ []))
      (suite_tokens b (elif_tokens arms (else_tokens o rest)))
  kind_tokens (while t b o) rest =
      put (Word word.While ∷ tokens t (Sign mark.Colon ∷ [])) (suite_tokens b (else_tokens o rest))
  kind_tokens (for t e b o) rest =
      put (Word word.For ∷ tokens t (Word word.In ∷ tokens e (Sign mark.Colon ∷ [])))
      (suite_tokens b (else_tokens o rest))
  kind_tokens (try b cs o f) rest =
      put (Word word.Try ∷ Sign mark.Colon ∷ [])
      (suite_tokens b (clause_tokens cs (else_tokens o (finally_tokens f rest))))
  kind_tokens (def x ps ds c b) rest =
      put
      (Word word.Def ∷ Name x ∷ Sign mark.LeftParen
      ∷ param_tokens ps ds c (Sign mark.RightParen ∷ Sign mark.Colon ∷ [])) (suite_tokens b rest)
  kind_tokens (match e last cs) rest =
      record { kind = Name match_name; header = true }
      ∷ put (tokens e (Sign mark.Colon ∷ Newline ∷ Indent ∷ []))
      (case_tokens cs (put (Dedent ∷ []) rest))

  -- a suite, on the line of its header or as a block
  pub suite_tokens : Suite → List Marked → List Marked
  suite_tokens (suite first last true b) rest = stmts_tokens b rest
  suite_tokens (suite first last false b) rest =
      put (Newline ∷ Indent ∷ []) (stmts_tokens b (put (Dedent ∷ []) rest))

  -- an `else`, where there is one
  pub else_tokens : OptSuite → List Marked → List Marked
  else_tokens no_suite rest = rest
  else_tokens (has_suite s) rest = put (Word word.Else ∷ Sign mark.Colon ∷ []) (suite_tokens s rest)

  -- a `finally`, where there is one
  pub finally_tokens : OptSuite → List Marked → List Marked
  finally_tokens no_suite rest = rest
  finally_tokens (has_suite s) rest =
      put (Word word.Finally ∷ Sign mark.Colon ∷ []) (suite_tokens s rest)

  -- tests with their suites, after the first
  pub elif_tokens : Arms → List Marked → List Marked
  elif_tokens no_arms rest = rest
  elif_tokens (arm t b arms) rest =
      put (Word word.Elif ∷ tokens t (Sign mark.Colon ∷ []))
      (suite_tokens b (elif_tokens arms rest))

  -- the clauses of a `try`
  pub clause_tokens : Clauses → List Marked → List Marked
  clause_tokens no_clauses rest = rest
  clause_tokens (clause e x b cs) rest =
      put (except_tokens e x) (suite_tokens b (clause_tokens cs rest))

  -- the cases of a `match`
  pub case_tokens : Cases → List Marked → List Marked
  case_tokens no_cases rest = rest
  case_tokens (case p g b cs) rest =
      put (Name case_name ∷ pattern_tokens p (guard_tokens g))
      (suite_tokens b (case_tokens cs rest))

-- ---- normal statements

-- whether a statement is a simple one
abbrev pub is_simple : StmtKind → Bool
is_simple (expr e) = true
is_simple (assign ts e) = true
is_simple (aug_assign t op e) = true
is_simple pass = true
is_simple break = true
is_simple continue = true
is_simple (return e) = true
is_simple (raise e) = true
is_simple (assert e w) = true
is_simple (global xs) = true
is_simple (import names) = true
is_simple (from m names) = true
is_simple (if' arms o) = false
is_simple (while t b o) = false
is_simple (for t e b o) = false
is_simple (try b cs o f) = false
is_simple (def x ps ds c b) = false
is_simple (match e last cs) = false

-- whether the first of these is a simple one
abbrev pub begins_simple : Stmts → Bool
begins_simple no_stmts = false
begins_simple (stmt first last k e ss) = is_simple k

-- A compound statement has nothing after it. A simple one has a line end, or a semicolon and a
-- simple one on its line.
abbrev pub EndsLine : Bool → LineEnd → Stmts → Type 0
EndsLine false e ss = (e.semicolon ≡ false) × (e.newline ≡ false)
EndsLine true e ss =
    elim (e.newline) [ true ↦ Unit {0} | false ↦ (e.semicolon ≡ true) × (begins_simple ss ≡ true) ]

-- statements of a block or a module
abbrev pub EndLines : Stmts → Type 0
EndLines no_stmts = Unit {0}
EndLines (stmt first last k e ss) = EndsLine (is_simple k) e ss × EndLines ss

-- simple statements on one line, after its header
abbrev pub ShareLine : Stmts → Type 0
ShareLine no_stmts = Unit {0}
ShareLine (stmt first last k e no_stmts) = (is_simple k ≡ true) × (e.newline ≡ true)
ShareLine (stmt first last k e (stmt first' last' k' e' ss)) =
    (is_simple k ≡ true) × (e.newline ≡ false) × (e.semicolon ≡ true)
    × ShareLine (stmt first' last' k' e' ss)

-- what holds of an expression, where there is one
abbrev pub IsOption : (Expr → Type 0) → Option Expr → Type 0
IsOption P None = Unit {0}
IsOption P (Some e) = P e

-- one expression, and not several with commas
abbrev pub NormalExpr : Expr → Type 0
NormalExpr e = At LExpr e × Normal e

-- each has the form of a target
abbrev pub NormalTargets : Exprs → Type 0
NormalTargets no_exprs = Unit {0}
NormalTargets (exprs t ts) = Normal t × (is_target t ≡ true) × NormalTargets ts

-- a clause without a kind binds no name
abbrev pub NormalClauseHead : Option Expr → Option Text → Type 0
NormalClauseHead None x = x ≡ None
NormalClauseHead (Some e) x = NormalExpr e

-- there is a suite
abbrev pub IsSuite : OptSuite → Type 0
IsSuite no_suite = ⊥
IsSuite (has_suite s) = Unit {0}

-- clauses, or a `finally` suite with no `else`
abbrev pub NormalTry : Clauses → OptSuite → OptSuite → Type 0
NormalTry no_clauses o f = (o ≡ no_suite) × IsSuite f
NormalTry (clause e x b cs) o f = Unit {0}

-- at most one default for each parameter, and no comma without a parameter
abbrev pub NormalParams : List Text → Exprs → Bool → Type 0
NormalParams [] ds c = (ds ≡ no_exprs) × (c ≡ false)
NormalParams (x ∷ xs) ds c = (count ds ≤ suc (length xs)) × Each ds

-- there is an imported name
abbrev pub AreSome : List Alias → Type 0
AreSome [] = ⊥
AreSome (a ∷ rest) = Unit {0}

abbrev mutual
  -- statements in a row
  pub NormalStmts : Stmts → Type 0
  NormalStmts no_stmts = Unit {0}
  NormalStmts (stmt first last k e ss) = NormalKind k × NormalStmts ss

  -- a statement
  pub NormalKind : StmtKind → Type 0
  NormalKind (expr e) = Normal e
  NormalKind (assign no_exprs e) = ⊥
  NormalKind (assign (exprs t ts) e) = NormalTargets (exprs t ts) × Normal e
  NormalKind (aug_assign t op e) = Normal t × (is_place t ≡ true) × Normal e
  NormalKind pass = Unit {0}
  NormalKind break = Unit {0}
  NormalKind continue = Unit {0}
  NormalKind (return e) = IsOption Normal e
  NormalKind (raise e) = IsOption NormalExpr e
  NormalKind (assert e w) = NormalExpr e × IsOption NormalExpr w
  NormalKind (global xs) = IsSomething xs
  NormalKind (import names) = AreSome names
  NormalKind (from m names) = AreSome names
  NormalKind (if' no_arms o) = ⊥
  NormalKind (if' (arm t b arms) o) = NormalArms (arm t b arms) × NormalOpt o
  NormalKind (while t b o) = NormalExpr t × NormalSuite b × NormalOpt o
  NormalKind (for t e b o) =
      Normal t × (is_target t ≡ true) × Normal e × NormalSuite b × NormalOpt o
  NormalKind (try b cs o f) =
      NormalTry cs o f × NormalSuite b × NormalClauses cs × NormalOpt o × NormalOpt f
  NormalKind (def x ps ds c b) = NormalParams ps ds c × NormalSuite b
  NormalKind (match e last no_cases) = ⊥
  NormalKind (match e last (case p g b cs)) = Normal e × NormalCases (case p g b cs)

  -- a suite isn't empty
  pub NormalSuite : Suite → Type 0
  NormalSuite (suite first last inline no_stmts) = ⊥
  NormalSuite (suite first last true (stmt f l k e ss)) =
      ShareLine (stmt f l k e ss) × NormalStmts (stmt f l k e ss)
  NormalSuite (suite first last false (stmt f l k e ss)) =
      EndLines (stmt f l k e ss) × NormalStmts (stmt f l k e ss)

  -- the suite of an `else` or a `finally`, where there is one
  pub NormalOpt : OptSuite → Type 0
  NormalOpt no_suite = Unit {0}
  NormalOpt (has_suite s) = NormalSuite s

  -- tests with their suites
  pub NormalArms : Arms → Type 0
  NormalArms no_arms = Unit {0}
  NormalArms (arm t b arms) = NormalExpr t × NormalSuite b × NormalArms arms

  -- the clauses of a `try`
  pub NormalClauses : Clauses → Type 0
  NormalClauses no_clauses = Unit {0}
  NormalClauses (clause e x b cs) = NormalClauseHead e x × NormalSuite b × NormalClauses cs

  -- the cases of a `match`
  pub NormalCases : Cases → Type 0
  NormalCases no_cases = Unit {0}
  NormalCases (case p g b cs) =
      NormalPattern p × IsOption NormalExpr g × NormalSuite b × NormalCases cs

-- ---- limits

-- the height of an expression, where there is one
abbrev pub option_height : Option Expr → ℕ
option_height None = 0
option_height (Some e) = height e

-- The height of the highest expression or pattern.
abbrev mutual
  -- of statements in a row
  pub stmts_height : Stmts → ℕ
  stmts_height no_stmts = 0
  stmts_height (stmt first last k e ss) = max (kind_height k) (stmts_height ss)

  -- of a statement
  pub kind_height : StmtKind → ℕ
  kind_height (expr e) = height e
  kind_height (assign ts e) = max (heights ts) (height e)
  kind_height (aug_assign t op e) = max (height t) (height e)
  kind_height pass = 0
  kind_height break = 0
  kind_height continue = 0
  kind_height (return e) = option_height e
  kind_height (raise e) = option_height e
  kind_height (assert e w) = max (height e) (option_height w)
  kind_height (global xs) = 0
  kind_height (import names) = 0
  kind_height (from m names) = 0
  kind_height (if' arms o) = max (arms_height arms) (opt_height o)
  kind_height (while t b o) = max (height t) (max (suite_height b) (opt_height o))
  kind_height (for t e b o) = max (max (height t) (height e)) (max (suite_height b) (opt_height o))
  kind_height (try b cs o f) =
      max (max (suite_height b) (clauses_height cs)) (max (opt_height o) (opt_height f))
  kind_height (def x ps ds c b) = max (heights ds) (suite_height b)
  kind_height (match e last cs) = max (height e) (cases_height cs)

  -- of a suite
  pub suite_height : Suite → ℕ
  suite_height (suite first last inline b) = stmts_height b

  -- of the suite of an `else` or a `finally`, where there is one
  pub opt_height : OptSuite → ℕ
  opt_height no_suite = 0
  opt_height (has_suite s) = suite_height s

  -- of tests with their suites
  pub arms_height : Arms → ℕ
  arms_height no_arms = 0
  arms_height (arm t b arms) = max (max (height t) (suite_height b)) (arms_height arms)

  -- of the clauses of a `try`
  pub clauses_height : Clauses → ℕ
  clauses_height no_clauses = 0
  clauses_height (clause e x b cs) =
      max (max (option_height e) (suite_height b)) (clauses_height cs)

  -- of the cases of a `match`
  pub cases_height : Cases → ℕ
  cases_height no_cases = 0
  cases_height (case p g b cs) =
      max (max (pattern_height p) (option_height g)) (max (suite_height b) (cases_height cs))

-- How many suites stand inside each other. The cases of a `match` are no suite of their own.
abbrev mutual
  -- in statements in a row
  pub stmts_nesting : Stmts → ℕ
  stmts_nesting no_stmts = 0
  stmts_nesting (stmt first last k e ss) = max (kind_nesting k) (stmts_nesting ss)

  -- in a statement
  pub kind_nesting : StmtKind → ℕ
  kind_nesting (expr e) = 0
  kind_nesting (assign ts e) = 0
  kind_nesting (aug_assign t op e) = 0
  kind_nesting pass = 0
  kind_nesting break = 0
  kind_nesting continue = 0
  kind_nesting (return e) = 0
  kind_nesting (raise e) = 0
  kind_nesting (assert e w) = 0
  kind_nesting (global xs) = 0
  kind_nesting (import names) = 0
  kind_nesting (from m names) = 0
  kind_nesting (if' arms o) = max (arms_nesting arms) (opt_nesting o)
  kind_nesting (while t b o) = max (suite_nesting b) (opt_nesting o)
  kind_nesting (for t e b o) = max (suite_nesting b) (opt_nesting o)
  kind_nesting (try b cs o f) =
      max (max (suite_nesting b) (clauses_nesting cs)) (max (opt_nesting o) (opt_nesting f))
  kind_nesting (def x ps ds c b) = suite_nesting b
  kind_nesting (match e last cs) = cases_nesting cs

  -- in a suite, which is one itself
  pub suite_nesting : Suite → ℕ
  suite_nesting (suite first last inline b) = suc (stmts_nesting b)

  -- in the suite of an `else` or a `finally`, where there is one
  pub opt_nesting : OptSuite → ℕ
  opt_nesting no_suite = 0
  opt_nesting (has_suite s) = suite_nesting s

  -- in tests with their suites
  pub arms_nesting : Arms → ℕ
  arms_nesting no_arms = 0
  arms_nesting (arm t b arms) = max (suite_nesting b) (arms_nesting arms)

  -- in the clauses of a `try`
  pub clauses_nesting : Clauses → ℕ
  clauses_nesting no_clauses = 0
  clauses_nesting (clause e x b cs) = max (suite_nesting b) (clauses_nesting cs)

  -- in the cases of a `match`
  pub cases_nesting : Cases → ℕ
  cases_nesting no_cases = 0
  cases_nesting (case p g b cs) = max (suite_nesting b) (cases_nesting cs)
