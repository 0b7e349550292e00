-- Trees of sources written down.
use Prim.Native.String.{String}
use Rattle.std.specs.Prelude.{ℕ, false, true, List, [], ◌∷◌, pos, codes}
use Rattle.py_syntax.specs.FirstMarks as first_
use Rattle.py_syntax.specs.Functions as functions_
use Rattle.py_syntax.specs.LastMarks as last_
use Rattle.py_syntax.specs.Neighbours as neighbours_
use Rattle.py_syntax.specs.Tree as T
use Rattle.py_syntax.specs.Tree.{Expr, Exprs, Pattern, Patterns, Stmts, StmtKind}

-- what has to unfold for a prediction to compute
unfoldable pub computes : Unit {0}
unfolding first_.stmts_empty first_.kind_empty first_.opt_empty first_.stmts_first first_.kind_first first_.opt_first last_.stmts_last last_.kind_last last_.opt_last last_.arms_last last_.clauses_last last_.cases_last last_.finally_last neighbours_.stmts_pairs neighbours_.kind_pairs neighbours_.opt_pairs neighbours_.arms_pairs neighbours_.clauses_pairs neighbours_.cases_pairs functions_.functions functions_.functions_in functions_.opt_functions functions_.arms_functions functions_.clauses_functions functions_.cases_functions
computes = tt

abbrev pub var : String → Expr
var x = T.name (codes x)

abbrev pub num : ℕ → Expr
num n = T.int (pos n)

abbrev pub quote : String → Expr
quote s = T.str (codes s ∷ [])

abbrev pub items : List Expr → Exprs
items [] = T.no_exprs
items (e ∷ es) = T.exprs e (items es)

abbrev pub call : Expr → List Expr → Expr
call f es = T.call f (items es) false

abbrev pub alternatives : List Pattern → Patterns
alternatives [] = T.no_patterns
alternatives (p ∷ ps) = T.patterns p (alternatives ps)

-- a statement in a line, and then the others
abbrev pub line : ℕ → StmtKind → Stmts → Stmts
line n k = T.stmt n n k (record { semicolon = false; newline = true })

abbrev pub end : Stmts
end = T.no_stmts
