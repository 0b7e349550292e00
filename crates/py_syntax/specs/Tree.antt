-- The plain view of the trees: lists in place of vectors, and nothing of memory. All definitions of
-- the language stand on it.
--     Text                                       the characters of a text
--     Expr                                       expressions, with Exprs, Pairs, Links, OptExpr,
--                                                Fragments and Parts for what stands in them
--     Constant, Pattern, Patterns                the patterns of a `case`
--     Alias                                      an imported name
--     Stmts, StmtKind                            statements, with Suite, OptSuite, Arms, Clauses
--                                                and Cases for what stands in them
use Rattle.std.specs.Prelude.{ℕ, ℤ, Bool, List, Option}
use Rattle.py_operator.specs.declared.operator.BinOp.{BinOp}
use Rattle.py_syntax.specs.declared.expr.Comparison.{Comparison}
use Rattle.py_syntax.specs.declared.expr.Sign.{Sign}
use Rattle.py_syntax.specs.declared.pattern.Brackets.{Brackets}
use Rattle.py_syntax.specs.declared.stmt.LineEnd.{LineEnd}

-- a text is the list of its characters
abbrev pub Text : Type 0
Text = List ℕ

mutual
  -- an expression, as it was written
  pub data Expr : Type 0 where
    name : (x : Text) → Expr
    int : (n : ℤ) → Expr
    str : (pieces : List Text) → Expr
    fstr : (pieces : Fragments) → Expr
    none : Expr
    bool : (b : Bool) → Expr
    tuple : (items : Exprs) (comma : Bool) → Expr
    list : (items : Exprs) (comma : Bool) → Expr
    dict : (items : Pairs) (comma : Bool) → Expr
    paren : (e : Expr) → Expr
    not' : (e : Expr) → Expr
    and : (a b : Expr) → Expr
    or : (a b : Expr) → Expr
    unary : (s : Sign) (e : Expr) → Expr
    binary : (op : BinOp) (a b : Expr) → Expr
    compare : (a : Expr) (links : Links) → Expr
    cond : (body test orelse : Expr) → Expr
    call : (callee : Expr) (args : Exprs) (comma : Bool) → Expr
    index : (of at : Expr) → Expr
    slice : (of : Expr) (from to : OptExpr) → Expr
    attr : (of : Expr) (x : Text) → Expr

  -- expressions in a row
  pub data Exprs : Type 0 where
    no_exprs : Exprs
    exprs : (e : Expr) (es : Exprs) → Exprs

  -- keys with their values
  pub data Pairs : Type 0 where
    no_pairs : Pairs
    pair : (key value : Expr) (rest : Pairs) → Pairs

  -- the comparisons of a chain after its first operand
  pub data Links : Type 0 where
    no_links : Links
    link : (op : Comparison) (right : Expr) (rest : Links) → Links

  -- a bound of a slice
  pub data OptExpr : Type 0 where
    absent : OptExpr
    present : (e : Expr) → OptExpr

  -- neighbouring strings, some with fields
  pub data Fragments : Type 0 where
    no_fragments : Fragments
    plain : (x : Text) (rest : Fragments) → Fragments
    format : (parts : Parts) (rest : Fragments) → Fragments

  -- what stands in an f-string
  pub data Parts : Type 0 where
    no_parts : Parts
    text : (x : Text) (rest : Parts) → Parts
    field : (e : Expr) (rest : Parts) → Parts

-- the value of a literal pattern, without its minus
pub data Constant : Type 0 where
  c_int : (n : ℤ) → Constant
  c_str : (pieces : List Text) → Constant
  c_none : Constant
  c_bool : (b : Bool) → Constant

mutual
  -- a pattern, as it was written
  pub data Pattern : Type 0 where
    literal : (minus : Bool) (value : Constant) → Pattern
    capture : (x : Text) → Pattern
    wild : Pattern
    member : (m x : Text) → Pattern
    sequence : (brackets : Brackets) (items : Patterns) (comma : Bool) → Pattern
    p_or : (ps : Patterns) → Pattern
    p_as : (p : Pattern) (x : Text) → Pattern
    p_paren : (p : Pattern) → Pattern

  -- patterns in a row
  pub data Patterns : Type 0 where
    no_patterns : Patterns
    patterns : (p : Pattern) (ps : Patterns) → Patterns

-- an imported name, and what it is bound to where `as` says so
pub record Alias : Type 0 where
  pub name : Text
  pub bound : Option Text

mutual
  -- statements in a row, each with its first and last line and what ends it
  pub data Stmts : Type 0 where
    no_stmts : Stmts
    stmt : (first last : ℕ) (kind : StmtKind) (end : LineEnd) (rest : Stmts) → Stmts

  -- statements, with the first and last line of the header in front of them
  pub data Suite : Type 0 where
    suite : (first last : ℕ) (inline : Bool) (body : Stmts) → Suite

  -- the suite of an `else` or a `finally`
  pub data OptSuite : Type 0 where
    no_suite : OptSuite
    has_suite : (s : Suite) → OptSuite

  -- tests with their suites: the `if` and each `elif`
  pub data Arms : Type 0 where
    no_arms : Arms
    arm : (test : Expr) (body : Suite) (rest : Arms) → Arms

  -- `except` clauses: an exception's name, the name that it is bound to, the suite
  pub data Clauses : Type 0 where
    no_clauses : Clauses
    clause : (kind : Option Expr) (bound : Option Text) (body : Suite) (rest : Clauses) → Clauses

  -- cases: a pattern, its guard, the suite
  pub data Cases : Type 0 where
    no_cases : Cases
    case : (p : Pattern) (guard : Option Expr) (body : Suite) (rest : Cases) → Cases

  -- a statement (Python Language Reference, "Simple statements" and "Compound statements")
  pub data StmtKind : Type 0 where
    expr : (e : Expr) → StmtKind
    assign : (targets : Exprs) (value : Expr) → StmtKind
    aug_assign : (place : Expr) (op : BinOp) (value : Expr) → StmtKind
    pass : StmtKind
    break : StmtKind
    continue : StmtKind
    return : (e : Option Expr) → StmtKind
    raise : (e : Option Expr) → StmtKind
    assert : (test : Expr) (why : Option Expr) → StmtKind
    global : (xs : List Text) → StmtKind
    import : (names : List Alias) → StmtKind
    from : (m : Text) (names : List Alias) → StmtKind
    if' : (arms : Arms) (orelse : OptSuite) → StmtKind
    while : (test : Expr) (body : Suite) (orelse : OptSuite) → StmtKind
    for : (target over : Expr) (body : Suite) (orelse : OptSuite) → StmtKind
    try : (body : Suite) (clauses : Clauses) (orelse finally : OptSuite) → StmtKind
    def : (x : Text) (params : List Text) (defaults : Exprs) (comma : Bool) (body : Suite)
        → StmtKind
    match : (subject : Expr) (header_last : ℕ) (cases : Cases) → StmtKind
