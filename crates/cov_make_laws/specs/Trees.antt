-- The trees of sources that are made up.
--     Form, form_drawn, number_drawn         what a draw chooses of a block
--     t_name .. zero_division                the names in a source
--     simple_end, compound_end               the ends of statements
--     number, read_t, set_t, update_t        its expressions and assignments
--     line_suite, statement                  the statement of a block
--     line_after                             the line after a block
--     statements, made_tree                  all statements
use Rattle.std.specs.Prelude.{ℕ, zero, suc, ◌+◌, ◌/◌, ◌%◌, ◌==◌, if◌then◌else◌, true, false, codes, Some, None, pos}
use Rattle.cov_make.specs.Source.{number_after, drawn}
use Rattle.py_operator.specs.declared.operator.BinOp.{BinOp}
use Rattle.py_operator.specs.declared.operator.BinOp.TheVariants.{Add, Sub, Mul, Floor, Mod}
use Rattle.py_operator.specs.declared.operator.CmpOp.TheVariants.{Eq, Gt}
use Rattle.py_syntax.specs.declared.expr.Comparison.TheVariants.{Op}
use Rattle.py_syntax.specs.declared.stmt.LineEnd.{LineEnd}
use Rattle.py_syntax.specs.Tree as T
use Rattle.py_syntax.specs.Tree.{Text, Expr, StmtKind}

-- the form of a block
pub data Form : Type 0 where
  If : Form
  For : Form
  Try : Form
  While : Form

-- the form that a draw chooses
abbrev pub form_drawn : ℕ → Form
form_drawn q =
    if q % 4 == 0 then If else if q % 4 == 1 then For else if q % 4 == 2 then Try else While

-- the number that a draw chooses: that of the digit, 0 to 6
abbrev pub number_drawn : ℕ → ℕ
number_drawn q = q / 4 % 7

-- the variable of a source
abbrev pub t_name : Text
t_name = codes "t"

-- the variable of a `for`
abbrev pub i_name : Text
i_name = codes "i"

-- the function whose numbers a `for` goes over
abbrev pub range_name : Text
range_name = codes "range"

-- the function of the last line
abbrev pub print_name : Text
print_name = codes "print"

-- the exception that a `try` catches
abbrev pub zero_division : Text
zero_division = codes "ZeroDivisionError"

-- the end of a simple statement
abbrev pub simple_end : LineEnd
simple_end = record { semicolon = false; newline = true }

-- the end of a compound statement, whose last suite has ended the line
abbrev pub compound_end : LineEnd
compound_end = record { semicolon = false; newline = false }

-- a number
abbrev pub number : ℕ → Expr
number n = T.int (pos n)

-- `t`
abbrev pub read_t : Expr
read_t = T.name t_name

-- `t = e`
abbrev pub set_t : Expr → StmtKind
set_t e = T.assign (T.exprs read_t T.no_exprs) e

-- `t = t op e`
abbrev pub update_t : BinOp → Expr → StmtKind
update_t op e = set_t (T.binary op read_t e)

-- the suite of one simple statement, on the line after that of its header
abbrev pub line_suite : ℕ → StmtKind → T.Suite
line_suite l k = T.suite l l false (T.stmt (l + 1) (l + 1) k simple_end T.no_stmts)

-- the statement of a block with the number v, from a line on
abbrev pub statement : Form → ℕ → ℕ → StmtKind
statement If v l =
    T.if' (T.arm
    (T.compare (T.binary Mod read_t (number 3)) (T.link (Op Eq) (number v) T.no_links))
    (line_suite l (update_t Add (number 1))) T.no_arms)
    (T.has_suite (line_suite (l + 1 + 1) (update_t Add (number 2))))
statement For v l =
    T.for (T.name i_name) (T.call (T.name range_name) (T.exprs (number v) T.no_exprs) false)
    (line_suite l (update_t Add (T.name i_name))) T.no_suite
statement Try v l =
    T.try (line_suite l (update_t Floor (number v)))
    (T.clause (Some (T.name zero_division)) None
    (line_suite (l + 1 + 1) (update_t Add (number 5))) T.no_clauses)
    T.no_suite T.no_suite
statement While v l =
    T.while (T.compare read_t (T.link (Op Gt) (T.binary Mul (number v) (number 10)) T.no_links))
    (line_suite l (update_t Sub (number 7))) T.no_suite

-- the line after a block that begins on a line, with one `+ 1` for each line of the block
abbrev pub line_after : Form → ℕ → ℕ
line_after If l = l + 1 + 1 + 1 + 1
line_after For l = l + 1 + 1
line_after Try l = l + 1 + 1 + 1 + 1
line_after While l = l + 1 + 1

-- The statements of so many draws from a line on, where s was the number before them. The last
-- token of a block is the `Dedent` of its last suite, which stands on the line after it.
unfoldable pub statements : ℕ → ℕ → ℕ → T.Stmts
statements s l zero =
    T.stmt l l (T.expr (T.call (T.name print_name) (T.exprs read_t T.no_exprs) false)) simple_end
    T.no_stmts
statements s l (suc n) =
    let q = drawn (number_after s) in
    T.stmt l (line_after (form_drawn q) l) (statement (form_drawn q) (number_drawn q) l)
    compound_end (statements (number_after s) (line_after (form_drawn q) l) n)

-- the tree of the source of a seed and a size
abbrev pub made_tree : ℕ → ℕ → T.Stmts
made_tree seed size = T.stmt 1 1 (set_t (number 0)) simple_end (statements seed 2 size)
