-- A text in pieces: what is compared of it, and what stands beside that.
--     Piece, words                       pieces, and words as pieces
--     node, header                       a part that is compared by its words, and one with a mark
--     picked, mark_of, binding_of ..     what pieces give
--     suite_fit .., heads                what is compared of suites and rows as wholes
--     stmts_pieces, kind_pieces          the pieces of statements; suite_pieces and the like for
--                                        what stands in them
--     body_pieces                        of the body of a module or a function
use Rattle.std.specs.Prelude.{ℕ, Bool, true, false, List, [], ◌∷◌, ◌++◌, Option}
use Rattle.py_operator.specs.declared.operator.BinOp.{BinOp}
use Rattle.py_syntax.specs.Functions.{Function, without_docstring}
use Rattle.py_syntax.specs.Marks.{body_marks}
use Rattle.py_syntax.specs.Names.{Binding, assigns, declares}
use Rattle.py_syntax.specs.Tree.{Text, Expr, Exprs, Pattern, Stmts, no_stmts, stmt, Suite, suite, OptSuite, no_suite, has_suite, Arms, no_arms, arm, Clauses, no_clauses, clause, Cases, no_cases, case, StmtKind, expr, assign, aug_assign, pass, break, continue, return, raise, assert, global, import, from, if', while, for, try, def, match}
use Rattle.py_changes.specs.Changed.{kind_number, has_docstring}
use Rattle.cov_pieces.specs.Words.{Word, a_number, an_int, a_text, assigned, a_row, truth, operator_number, list_words, expr_words, exprs_words, maybe_words, pattern_words, alias_words, bound_words}

-- A word that is compared; a part begins, what stands in it begins, and it ends. Beside these: a
-- mark of a line, a name that is declared `global`, and a function that is defined.
pub data Piece : Type 0 where
  word : (w : Word) → Piece
  open_part : Piece
  inside : Piece
  close : Piece
  mark : (l : ℕ) → Piece
  declared : (x : Text) → Piece
  defined : (f : Function) → Piece

-- words as pieces
abbrev pub words : List Word → List Piece
words [] = []
words (w ∷ ws) = word w ∷ words ws

-- a part: its words, and what stands in it
abbrev pub node : List Word → List Piece → List Piece
node ws within = open_part ∷ (words ws ++ inside ∷ (within ++ close ∷ []))

-- a part with a mark of its own
abbrev pub header : List Word → ℕ → List Piece
header ws l = node ws (mark l ∷ [])

-- ---- what pieces give

-- what pieces give in a row
abbrev pub picked : {A : Type 0} → (Piece → List A) → List Piece → List A
picked of_piece [] = []
picked of_piece (p ∷ ps) = of_piece p ++ picked of_piece ps

-- marks
abbrev pub mark_of : Piece → List ℕ
mark_of (word w) = []
mark_of open_part = []
mark_of inside = []
mark_of close = []
mark_of (mark l) = l ∷ []
mark_of (declared x) = []
mark_of (defined f) = []

-- functions
abbrev pub function_of : Piece → List Function
function_of (word w) = []
function_of open_part = []
function_of inside = []
function_of close = []
function_of (mark l) = []
function_of (declared x) = []
function_of (defined f) = f ∷ []

-- a word that assigns a name
abbrev pub assigned_by : Word → List Binding
assigned_by (a_number n) = []
assigned_by (an_int n) = []
assigned_by (a_text x) = []
assigned_by (assigned x) = assigns x ∷ []
assigned_by (a_row b) = []

-- names that are assigned or declared
abbrev pub binding_of : Piece → List Binding
binding_of (word w) = assigned_by w
binding_of open_part = []
binding_of inside = []
binding_of close = []
binding_of (mark l) = []
binding_of (declared x) = declares x ∷ []
binding_of (defined f) = []

-- marks as pieces
abbrev pub marks : List ℕ → List Piece
marks [] = []
marks (l ∷ ls) = mark l ∷ marks ls

-- names that are declared, as pieces
abbrev pub declaring : List Text → List Piece
declaring [] = []
declaring (x ∷ xs) = declared x ∷ declaring xs

-- ---- what is compared of suites and rows as wholes

-- a suite
abbrev pub suite_fit : Suite → Word
suite_fit (suite first last inline b) = a_row b

-- the suite of an `else` or a `finally`, which may be missing
abbrev pub opt_fit : OptSuite → Word
opt_fit no_suite = a_number 0
opt_fit (has_suite s) = suite_fit s

-- the suites of an `if`
abbrev pub arms_fit : Arms → List Word
arms_fit no_arms = a_number 0 ∷ []
arms_fit (arm e s r) = suite_fit s ∷ arms_fit r

-- the suites of clauses
abbrev pub clauses_fit : Clauses → List Word
clauses_fit no_clauses = a_number 0 ∷ []
clauses_fit (clause e x s r) = suite_fit s ∷ clauses_fit r

-- the suites of cases
abbrev pub cases_fit : Cases → List Word
cases_fit no_cases = a_number 0 ∷ []
cases_fit (case p g s r) = suite_fit s ∷ cases_fit r

-- the lines and kinds of statements in a row
abbrev pub heads : Stmts → List Word
heads no_stmts = []
heads (stmt first last k e rest) = a_number first ∷ a_number (kind_number k) ∷ heads rest

-- ---- statements

-- a test or a subject, in a line
abbrev pub test_words : ℕ → Expr → List Word
test_words l e = a_number l ∷ expr_words false e

-- the target of a loop, and what it goes over
abbrev pub loop_words : ℕ → Expr → Expr → List Word
loop_words l t e = a_number l ∷ (expr_words true t ++ expr_words false e)

-- the kind of exceptions of a clause, and its name
abbrev pub clause_words : ℕ → Option Expr → Option Text → List Word
clause_words l e x = a_number l ∷ (maybe_words e ++ bound_words x)

-- the pattern of a case, and its guard
abbrev pub case_words : ℕ → Pattern → Option Expr → List Word
case_words l p g = a_number l ∷ (pattern_words p ++ maybe_words g)

-- the name and the defaults of a function
abbrev pub def_words : Text → Exprs → Bool → List Word
def_words x ds c = assigned x ∷ (exprs_words false ds ++ truth c ∷ [])

-- an assignment in place
abbrev pub in_place_words : Expr → BinOp → Expr → List Word
in_place_words t op e = expr_words true t ++ a_number (operator_number op) ∷ expr_words false e

abbrev mutual
  -- statements in a row
  pub stmts_pieces : Stmts → List Piece
  stmts_pieces no_stmts = []
  stmts_pieces (stmt first last k e rest) = kind_pieces first k ++ stmts_pieces rest

  -- a statement with this first line
  pub kind_pieces : ℕ → StmtKind → List Piece
  kind_pieces l (expr e) = header (expr_words false e) l
  kind_pieces l (assign ts e) = header (exprs_words true ts ++ expr_words false e) l
  kind_pieces l (aug_assign t op e) = header (in_place_words t op e) l
  kind_pieces l pass = header [] l
  kind_pieces l break = header [] l
  kind_pieces l continue = header [] l
  kind_pieces l (return e) = header (maybe_words e) l
  kind_pieces l (raise e) = header (maybe_words e) l
  kind_pieces l (assert e w) = header (expr_words false e ++ maybe_words w) l
  kind_pieces l (global xs) = declaring xs
  kind_pieces l (import names) = header (list_words alias_words names) l
  kind_pieces l (from m names) = header (a_text m ∷ list_words alias_words names) l
  kind_pieces l (if' arms o) =
      node (arms_fit arms ++ opt_fit o ∷ []) (arms_pieces arms ++ opt_pieces o)
  kind_pieces l (while e s o) =
      node (suite_fit s ∷ opt_fit o ∷ [])
      (header (test_words l e) l ++ (suite_pieces s ++ opt_pieces o))
  kind_pieces l (for t e s o) =
      node (suite_fit s ∷ opt_fit o ∷ [])
      (header (loop_words l t e) l ++ (suite_pieces s ++ opt_pieces o))
  kind_pieces l (try s cs o fin) =
      node (suite_fit s ∷ (clauses_fit cs ++ opt_fit o ∷ opt_fit fin ∷ []))
      (mark l ∷ (suite_pieces s ++ (clauses_pieces cs ++ (opt_pieces o ++ opt_pieces fin))))
  kind_pieces l (def x ps ds c (suite first last inline b)) =
      header (def_words x ds c) l
      ++ defined (record { line = l; name = x; params = ps; body = b }) ∷ marks (body_marks b)
  kind_pieces l (match e last cs) =
      node (cases_fit cs) (header (test_words l e) l ++ cases_pieces cs)

  -- a suite
  pub suite_pieces : Suite → List Piece
  suite_pieces (suite first last inline b) = node (heads b) (stmts_pieces b)

  -- the suite of an `else` or a `finally`, which may be missing
  pub opt_pieces : OptSuite → List Piece
  opt_pieces no_suite = []
  opt_pieces (has_suite s) = suite_pieces s

  -- the tests of an `if`
  pub arms_pieces : Arms → List Piece
  arms_pieces no_arms = []
  arms_pieces (arm e (suite first last inline b) r) =
      header (test_words first e) first
      ++ (node (heads b) (stmts_pieces b) ++ arms_pieces r)

  -- the clauses of a `try`
  pub clauses_pieces : Clauses → List Piece
  clauses_pieces no_clauses = []
  clauses_pieces (clause e x (suite first last inline b) r) =
      header (clause_words first e x) first
      ++ (node (heads b) (stmts_pieces b) ++ clauses_pieces r)

  -- the cases of a `match`
  pub cases_pieces : Cases → List Piece
  cases_pieces no_cases = []
  cases_pieces (case p g (suite first last inline b) r) =
      header (case_words first p g) first
      ++ (node (heads b) (stmts_pieces b) ++ cases_pieces r)

-- the body of a module or a function
abbrev pub body_pieces : Stmts → List Piece
body_pieces b = node (truth (has_docstring b) ∷ heads b) (stmts_pieces (without_docstring b))
