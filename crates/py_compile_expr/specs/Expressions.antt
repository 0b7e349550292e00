-- The code of expressions (Python Language Reference, "Expressions"). Each leaves its value on top.
--     expr_size                  how many instructions an expression takes
--     expr_code                  these instructions, from a place on
use Rattle.std.specs.Prelude.{ℕ, suc, ◌+◌, true, List, [], ◌++◌, pos, Option}
use Rattle.py_operator.specs.declared.operator.CmpOp.TheVariants.{Eq as OpEq, Ne as OpNe, Lt as OpLt, Le as OpLe, Gt as OpGt, Ge as OpGe, In as OpIn, NotIn as OpNotIn}
use Rattle.py_syntax.specs.declared.expr.Comparison.{Comparison}
use Rattle.py_syntax.specs.declared.expr.Comparison.TheVariants.{Op as ByOp, Is as ByIs, IsNot as ByIsNot}
use Rattle.py_syntax.specs.Tree.{Expr, name, int, str, fstr, none, bool, tuple, list, dict, paren, not', and, or, unary, binary, compare, cond, call, index, slice, attr, Exprs, no_exprs, exprs, Pairs, no_pairs, pair, Links, no_links, link, OptExpr, absent, present, Fragments, no_fragments, plain as plain_piece, format, Parts, no_parts, text, field}
use Rattle.py_meaning.specs.Literals.{run_together, sign_operator}
use Rattle.py_code.specs.declared.instr.Bounds.{Bounds}
use Rattle.py_code.specs.declared.instr.Bounds.TheVariants.{Neither, From, To, Both}
use Rattle.py_code.specs.declared.instr.Instr.TheVariants.{Pop, Text as TextOf, Extend, Tuple, List as MakeList, Dict, AddPair, Not, Binary, Compare, Index, Slice, Goto, IfFalse, And, Or, Link, Call}
use Rattle.py_code.specs.declared.instr.Question.{Question}
use Rattle.py_code.specs.declared.instr.Question.TheVariants.{Eq, Ne, Lt, Le, Gt, Ge, In, NotIn, Is, IsNot}
use Rattle.py_code.specs.declared.unit.Constant.TheVariants.{None as NoneConstant, Bool as BoolConstant, Int as IntConstant, Str as StrConstant}
use Rattle.py_compile_expr.specs.Cells.{constant, load, attribute, method, plain, Guard, Cell, put}

-- what a comparison of a chain asks
abbrev pub question : Comparison → Question
question (ByOp OpEq) = Eq
question (ByOp OpNe) = Ne
question (ByOp OpLt) = Lt
question (ByOp OpLe) = Le
question (ByOp OpGt) = Gt
question (ByOp OpGe) = Ge
question (ByOp OpIn) = In
question (ByOp OpNotIn) = NotIn
question ByIs = Is
question ByIsNot = IsNot

-- how many expressions there are
abbrev pub count : Exprs → ℕ
count no_exprs = 0
count (exprs e es) = suc (count es)

-- which bounds of a slice there are
abbrev pub bounds : OptExpr → OptExpr → Bounds
bounds absent absent = Neither
bounds (present a) absent = From
bounds absent (present b) = To
bounds (present a) (present b) = Both

-- ---- sizes

abbrev mutual
  -- an expression
  pub expr_size : Expr → ℕ
  expr_size (name x) = 1
  expr_size (int n) = 1
  expr_size (str pieces) = 1
  expr_size (fstr pieces) = 1 + fragments_size pieces
  expr_size none = 1
  expr_size (bool b) = 1
  expr_size (tuple es comma) = each_size es + 1
  expr_size (list es comma) = each_size es + 1
  expr_size (dict ps comma) = 1 + pairs_size ps
  expr_size (paren e) = expr_size e
  expr_size (not' e) = expr_size e + 1
  expr_size (and a b) = expr_size a + 1 + expr_size b
  expr_size (or a b) = expr_size a + 1 + expr_size b
  expr_size (unary s e) = 1 + expr_size e + 1
  expr_size (binary op a b) = expr_size a + expr_size b + 1
  expr_size (compare a links) = expr_size a + links_size links
  expr_size (cond body test orelse) = expr_size test + 1 + expr_size body + 1 + expr_size orelse
  expr_size (call (attr e x) es comma) = expr_size e + 1 + each_size es + 1
  expr_size (call e es comma) = expr_size e + each_size es + 1
  expr_size (index of at) = expr_size of + expr_size at + 1
  expr_size (slice of from to) = expr_size of + opt_size from + opt_size to + 1
  expr_size (attr e x) = expr_size e + 1

  -- expressions in a row
  pub each_size : Exprs → ℕ
  each_size no_exprs = 0
  each_size (exprs e es) = expr_size e + each_size es

  -- the pairs of a dict
  pub pairs_size : Pairs → ℕ
  pairs_size no_pairs = 0
  pairs_size (pair key e rest) = expr_size key + expr_size e + 1 + pairs_size rest

  -- the comparisons of a chain
  pub links_size : Links → ℕ
  links_size no_links = 2
  links_size (link op e no_links) = expr_size e + 1
  links_size (link op e (link q f rest)) = expr_size e + 1 + links_size (link q f rest)

  -- a bound of a slice, which may be absent
  pub opt_size : OptExpr → ℕ
  opt_size absent = 0
  opt_size (present e) = expr_size e

  -- neighbouring strings
  pub fragments_size : Fragments → ℕ
  fragments_size no_fragments = 0
  fragments_size (plain_piece x rest) = 2 + fragments_size rest
  fragments_size (format parts rest) = parts_size parts + fragments_size rest

  -- the parts of an f-string
  pub parts_size : Parts → ℕ
  parts_size no_parts = 0
  parts_size (text x rest) = 2 + parts_size rest
  parts_size (field e rest) = expr_size e + 2 + parts_size rest

-- ---- code, from a place on, with the handler that holds there

abbrev mutual
  -- an expression
  pub expr_code : Option Guard → ℕ → Expr → List Cell
  expr_code g p (name x) = put g (load x) []
  expr_code g p (int n) = put g (constant (IntConstant n)) []
  expr_code g p (str pieces) = put g (constant (StrConstant (run_together pieces))) []
  expr_code g p (fstr pieces) = put g (constant (StrConstant [])) (fragments_code g (p + 1) pieces)
  expr_code g p none = put g (constant NoneConstant) []
  expr_code g p (bool b) = put g (constant (BoolConstant b)) []
  expr_code g p (tuple es comma) = each_code g p es ++ put g (plain (Tuple (count es))) []
  expr_code g p (list es comma) = each_code g p es ++ put g (plain (MakeList (count es))) []
  expr_code g p (dict ps comma) = put g (plain Dict) (pairs_code g (p + 1) ps)
  expr_code g p (paren e) = expr_code g p e
  expr_code g p (not' e) = expr_code g p e ++ put g (plain Not) []
  expr_code g p (and a b) =
      expr_code g p a
      ++ put g (plain (And (p + expr_size a + 1 + expr_size b)))
      (expr_code g (p + expr_size a + 1) b)
  expr_code g p (or a b) =
      expr_code g p a
      ++ put g (plain (Or (p + expr_size a + 1 + expr_size b)))
      (expr_code g (p + expr_size a + 1) b)
  expr_code g p (unary s e) =
      put g (constant (IntConstant (pos 0)))
      (expr_code g (p + 1) e ++ put g (plain (Binary (sign_operator s))) [])
  expr_code g p (binary op a b) =
      expr_code g p a ++ (expr_code g (p + expr_size a) b ++ put g (plain (Binary op)) [])
  expr_code g p (compare a links) =
      expr_code g p a ++ links_code g (p + expr_size a) (p + expr_size a + links_size links) links
  expr_code g p (cond body test orelse) =
      let yes = p + expr_size test + 1 in
      let no = yes + expr_size body + 1 in
      expr_code g p test
      ++ put g (plain (IfFalse no))
      (expr_code g yes body
      ++ put g (plain (Goto (no + expr_size orelse))) (expr_code g no orelse))
  expr_code g p (call (attr e x) es comma) =
      expr_code g p e
      ++ put g (method x)
      (each_code g (p + expr_size e + 1) es ++ put g (plain (Call (count es))) [])
  expr_code g p (call e es comma) =
      expr_code g p e ++ (each_code g (p + expr_size e) es ++ put g (plain (Call (count es))) [])
  expr_code g p (index of at) =
      expr_code g p of ++ (expr_code g (p + expr_size of) at ++ put g (plain Index) [])
  expr_code g p (slice of from to) =
      expr_code g p of
      ++ (opt_code g (p + expr_size of) from
      ++ (opt_code g (p + expr_size of + opt_size from) to
      ++ put g (plain (Slice (bounds from to))) []))
  expr_code g p (attr e x) = expr_code g p e ++ put g (attribute x) []

  -- expressions in a row
  pub each_code : Option Guard → ℕ → Exprs → List Cell
  each_code g p no_exprs = []
  each_code g p (exprs e es) = expr_code g p e ++ each_code g (p + expr_size e) es

  -- the pairs of a dict, each added to the dict on top
  pub pairs_code : Option Guard → ℕ → Pairs → List Cell
  pairs_code g p no_pairs = []
  pairs_code g p (pair key e rest) =
      expr_code g p key
      ++ (expr_code g (p + expr_size key) e
      ++ put g (plain AddPair) (pairs_code g (p + expr_size key + expr_size e + 1) rest))

  -- the first false comparison leads to the end of the chain
  pub links_code : Option Guard → ℕ → (end : ℕ) → Links → List Cell
  links_code g p end no_links = put g (plain Pop) (put g (constant (BoolConstant true)) [])
  links_code g p end (link op e no_links) =
      expr_code g p e ++ put g (plain (Compare (question op))) []
  links_code g p end (link op e (link q f rest)) =
      expr_code g p e
      ++ put g (plain (Link (question op) end))
      (links_code g (p + expr_size e + 1) end (link q f rest))

  -- a bound of a slice, which may be absent
  pub opt_code : Option Guard → ℕ → OptExpr → List Cell
  opt_code g p absent = []
  opt_code g p (present e) = expr_code g p e

  -- each piece after the text on top
  pub fragments_code : Option Guard → ℕ → Fragments → List Cell
  fragments_code g p no_fragments = []
  fragments_code g p (plain_piece x rest) =
      put g (constant (StrConstant x)) (put g (plain Extend) (fragments_code g (p + 2) rest))
  fragments_code g p (format parts rest) =
      parts_code g p parts ++ fragments_code g (p + parts_size parts) rest

  -- the parts of an f-string, each after the text on top
  pub parts_code : Option Guard → ℕ → Parts → List Cell
  parts_code g p no_parts = []
  parts_code g p (text x rest) =
      put g (constant (StrConstant x)) (put g (plain Extend) (parts_code g (p + 2) rest))
  parts_code g p (field e rest) =
      expr_code g p e
      ++ put g (plain TextOf) (put g (plain Extend) (parts_code g (p + expr_size e + 2) rest))
