-- From a tree to its plain view.
--     PlainPair .. PlainPart, exprs_of .. opt_of     the parts of an expression, as plain lists
--     plain_expr                                     an expression; plain_exprs and the like for
--                                                    its parts
--     plain_constant, plain_pattern                  patterns
--     plain_alias                                    imported names
--     PlainStmt .. PlainCase, stmts_of .. cases_of   the parts of a statement, as plain lists
--     plain_kind, plain_suite, plain_stmts           statements; plain_arms and the like for their
--                                                    parts
--     plain_module                                   a module
use Rattle.std.specs.Prelude.{ℕ, List, [], ◌∷◌, Option, Some, None, map, option_map}
use Rattle.py_syntax.specs.declared.expr.Comparison.{Comparison}
use Rattle.py_syntax.specs.declared.expr.Expr.{Expr as Node}
use Rattle.py_syntax.specs.declared.expr.Expr.TheOpen as open_
use Rattle.py_syntax.specs.declared.expr.Expr.TheFolds.{fold-Expr, fold-Pair, fold-Link, fold-Fragment, fold-FormatPart}
use Rattle.py_syntax.specs.declared.expr.Pair.{Pair}
use Rattle.py_syntax.specs.declared.expr.Link.{Link}
use Rattle.py_syntax.specs.declared.expr.Fragment.{Fragment}
use Rattle.py_syntax.specs.declared.expr.FormatPart.{FormatPart}
use Rattle.py_syntax.specs.declared.pattern.Constant.{Constant as ConstantNode}
use Rattle.py_syntax.specs.declared.pattern.Constant.TheVariants as constant_
use Rattle.py_syntax.specs.declared.pattern.Pattern.{Pattern as PatternNode}
use Rattle.py_syntax.specs.declared.pattern.Pattern.TheOpen as open_pattern
use Rattle.py_syntax.specs.declared.pattern.Pattern.TheFolds.{fold-Pattern}
use Rattle.py_syntax.specs.declared.stmt.LineEnd.{LineEnd}
use Rattle.py_syntax.specs.declared.stmt.Alias.{Alias as AliasNode}
use Rattle.py_syntax.specs.declared.stmt.StmtKind.{StmtKind as KindNode}
use Rattle.py_syntax.specs.declared.stmt.StmtKind.TheOpen as open_stmt
use Rattle.py_syntax.specs.declared.stmt.StmtKind.TheFolds.{fold-StmtKind, fold-Arm, fold-Case, fold-Clause, fold-Stmt, fold-Suite}
use Rattle.py_syntax.specs.declared.stmt.Stmt.{Stmt}
use Rattle.py_syntax.specs.declared.stmt.Suite.{Suite as SuiteNode}
use Rattle.py_syntax.specs.declared.stmt.Arm.{Arm}
use Rattle.py_syntax.specs.declared.stmt.Clause.{Clause}
use Rattle.py_syntax.specs.declared.stmt.Case.{Case}
use Rattle.py_syntax.specs.declared.stmt.Module.{Module}
use Rattle.py_syntax.specs.Tree.{Text, Expr, name, int, str, fstr, none, bool, tuple, list, dict, paren, not', and, or, unary, binary, compare, cond, call, index, slice, attr, Exprs, no_exprs, exprs, Pairs, no_pairs, pair, Links, no_links, link, OptExpr, absent, present, Fragments, no_fragments, plain, format, Parts, no_parts, text, field}
use Rattle.py_syntax.specs.Tree.{Constant, c_int, c_str, c_none, c_bool, Pattern, literal, capture, wild, member, sequence, p_or, p_as, p_paren, Patterns, no_patterns, patterns, Alias}
use Rattle.py_syntax.specs.Tree.{Stmts, no_stmts, stmt, Suite, suite, OptSuite, no_suite, has_suite, Arms, no_arms, arm, Clauses, no_clauses, clause, Cases, no_cases, case, StmtKind, expr, assign, aug_assign, pass, break, continue, return, raise, assert, global, import, from, if', while, for, try, def, match}

-- a key with its value
pub record PlainPair : Type 0 where
  pub key : Expr
  pub value : Expr

-- a comparison of a chain after its first operand
pub record PlainLink : Type 0 where
  pub op : Comparison
  pub right : Expr

-- one of neighbouring strings
pub data PlainFragment : Type 0 where
  a_plain : (x : Text) → PlainFragment
  a_format : (parts : Parts) → PlainFragment

-- characters of an f-string, or a field
pub data PlainPart : Type 0 where
  a_text : (x : Text) → PlainPart
  a_field : (e : Expr) → PlainPart

-- expressions in a row
abbrev pub exprs_of : List Expr → Exprs
exprs_of [] = no_exprs
exprs_of (e ∷ es) = exprs e (exprs_of es)

-- keys with their values
abbrev pub pairs_of : List PlainPair → Pairs
pairs_of [] = no_pairs
pairs_of (p ∷ ps) = pair p.key p.value (pairs_of ps)

-- the comparisons of a chain
abbrev pub links_of : List PlainLink → Links
links_of [] = no_links
links_of (l ∷ ls) = link l.op l.right (links_of ls)

-- neighbouring strings
abbrev pub fragments_of : List PlainFragment → Fragments
fragments_of [] = no_fragments
fragments_of (a_plain x ∷ fs) = plain x (fragments_of fs)
fragments_of (a_format ps ∷ fs) = format ps (fragments_of fs)

-- the parts of an f-string
abbrev pub parts_of : List PlainPart → Parts
parts_of [] = no_parts
parts_of (a_text x ∷ ps) = text x (parts_of ps)
parts_of (a_field e ∷ ps) = field e (parts_of ps)

-- a bound of a slice, where there is one
abbrev pub opt_of : Option Expr → OptExpr
opt_of None = absent
opt_of (Some e) = present e

-- one node, with the plain views of its parts in their places
abbrev expr_step : open_.Expr-F Expr PlainPart PlainFragment PlainLink PlainPair → Expr
expr_step (open_.Name x) = name x
expr_step (open_.Int n) = int n
expr_step (open_.Str ps) = str ps.items
expr_step (open_.FStr fs) = fstr (fragments_of fs.items)
expr_step open_.None = none
expr_step (open_.Bool b) = bool b
expr_step (open_.Tuple es c) = tuple (exprs_of es.items) c
expr_step (open_.List es c) = list (exprs_of es.items) c
expr_step (open_.Dict ps c) = dict (pairs_of ps.items) c
expr_step (open_.Paren e) = paren e.value
expr_step (open_.Not e) = not' e.value
expr_step (open_.And a b) = and a.value b.value
expr_step (open_.Or a b) = or a.value b.value
expr_step (open_.Unary s e) = unary s e.value
expr_step (open_.Binary op a b) = binary op a.value b.value
expr_step (open_.Compare a ls) = compare a.value (links_of ls.items)
expr_step (open_.Cond b t o) = cond b.value t.value o.value
expr_step (open_.Call f es c) = call f.value (exprs_of es.items) c
expr_step (open_.Index a b) = index a.value b.value
expr_step (open_.Slice a f t) =
    slice a.value (opt_of (option_map (λ b. b.value) f)) (opt_of (option_map (λ b. b.value) t))
expr_step (open_.Attr a x) = attr a.value x

-- one part of an f-string
abbrev part_step : open_.FormatPart-F Expr PlainPart PlainFragment PlainLink PlainPair → PlainPart
part_step (open_.Chars x) = a_text x
part_step (open_.Field e) = a_field e

-- one of neighbouring strings
abbrev fragment_step : open_.Fragment-F Expr PlainPart PlainFragment PlainLink PlainPair
    → PlainFragment
fragment_step (open_.Plain x) = a_plain x
fragment_step (open_.Format ps) = a_format (parts_of ps.items)

-- one comparison of a chain
abbrev link_step : open_.Link-F Expr PlainPart PlainFragment PlainLink PlainPair → PlainLink
link_step l = record { op = l.op; right = l.right }

-- one key with its value
abbrev pair_step : open_.Pair-F Expr PlainPart PlainFragment PlainLink PlainPair → PlainPair
pair_step p = record { key = p.key; value = p.value }

-- an expression
abbrev pub plain_expr : Node → Expr
plain_expr =
    fold-Expr Expr PlainPart PlainFragment PlainLink PlainPair expr_step part_step fragment_step
    link_step pair_step

-- expressions in a row
abbrev pub plain_exprs : List Node → Exprs
plain_exprs es = exprs_of (map plain_expr es)

-- a key with its value
abbrev plain_pair : Pair → PlainPair
plain_pair =
    fold-Pair Expr PlainPart PlainFragment PlainLink PlainPair expr_step part_step fragment_step
    link_step pair_step

-- keys with their values
abbrev pub plain_pairs : List Pair → Pairs
plain_pairs ps = pairs_of (map plain_pair ps)

-- one comparison of a chain
abbrev plain_link : Link → PlainLink
plain_link =
    fold-Link Expr PlainPart PlainFragment PlainLink PlainPair expr_step part_step fragment_step
    link_step pair_step

-- the comparisons of a chain
abbrev pub plain_links : List Link → Links
plain_links ls = links_of (map plain_link ls)

-- one of neighbouring strings
abbrev plain_fragment : Fragment → PlainFragment
plain_fragment =
    fold-Fragment Expr PlainPart PlainFragment PlainLink PlainPair expr_step part_step fragment_step
    link_step pair_step

-- neighbouring strings
abbrev pub plain_fragments : List Fragment → Fragments
plain_fragments fs = fragments_of (map plain_fragment fs)

-- a part of an f-string
abbrev plain_part : FormatPart → PlainPart
plain_part =
    fold-FormatPart Expr PlainPart PlainFragment PlainLink PlainPair expr_step part_step
    fragment_step link_step pair_step

-- the parts of an f-string
abbrev pub plain_parts : List FormatPart → Parts
plain_parts ps = parts_of (map plain_part ps)

-- a bound of a slice
abbrev pub plain_opt : Option Node → OptExpr
plain_opt o = opt_of (option_map plain_expr o)

-- ---- patterns

-- the value of a literal pattern
abbrev pub plain_constant : ConstantNode → Constant
plain_constant (constant_.Int n) = c_int n
plain_constant (constant_.Str ps) = c_str ps.items
plain_constant constant_.None = c_none
plain_constant (constant_.Bool b) = c_bool b

-- patterns in a row
abbrev pub patterns_of : List Pattern → Patterns
patterns_of [] = no_patterns
patterns_of (p ∷ ps) = patterns p (patterns_of ps)

-- one pattern, with the plain views of its parts in their places
abbrev pattern_step : open_pattern.Pattern-F Pattern → Pattern
pattern_step (open_pattern.Literal m c) = literal m (plain_constant c)
pattern_step (open_pattern.Capture x) = capture x
pattern_step open_pattern.Wild = wild
pattern_step (open_pattern.Member m x) = member m x
pattern_step (open_pattern.Sequence b ps c) = sequence b (patterns_of ps.items) c
pattern_step (open_pattern.Or ps) = p_or (patterns_of ps.items)
pattern_step (open_pattern.As p x) = p_as p.value x
pattern_step (open_pattern.Paren p) = p_paren p.value

-- a pattern
abbrev pub plain_pattern : PatternNode → Pattern
plain_pattern = fold-Pattern Pattern pattern_step

-- patterns in a row
abbrev pub plain_patterns : List PatternNode → Patterns
plain_patterns ps = patterns_of (map plain_pattern ps)

-- ---- statements

-- an imported name
abbrev pub plain_alias : AliasNode → Alias
plain_alias i = record { name = i.name; bound = i.bound }

-- imported names
abbrev pub plain_aliases : List AliasNode → List Alias
plain_aliases = map plain_alias

-- a statement with its lines
pub record PlainStmt : Type 0 where
  pub first : ℕ
  pub last : ℕ
  pub kind : StmtKind
  pub end : LineEnd

-- a test with its suite
pub record PlainArm : Type 0 where
  pub test : Expr
  pub body : Suite

-- an `except` clause with its suite
pub record PlainClause : Type 0 where
  pub kind : Option Expr
  pub name : Option Text
  pub body : Suite

-- a case with its suite
pub record PlainCase : Type 0 where
  pub pattern : Pattern
  pub guard : Option Expr
  pub body : Suite

-- statements in a row
abbrev pub stmts_of : List PlainStmt → Stmts
stmts_of [] = no_stmts
stmts_of (s ∷ ss) = stmt s.first s.last s.kind s.end (stmts_of ss)

-- tests with their suites
abbrev pub arms_of : List PlainArm → Arms
arms_of [] = no_arms
arms_of (a ∷ as') = arm a.test a.body (arms_of as')

-- `except` clauses
abbrev pub clauses_of : List PlainClause → Clauses
clauses_of [] = no_clauses
clauses_of (c ∷ cs) = clause c.kind c.name c.body (clauses_of cs)

-- cases
abbrev pub cases_of : List PlainCase → Cases
cases_of [] = no_cases
cases_of (c ∷ cs) = case c.pattern c.guard c.body (cases_of cs)

-- the suite of an `else` or a `finally`, where there is one
abbrev pub opt_suite_of : Option Suite → OptSuite
opt_suite_of None = no_suite
opt_suite_of (Some s) = has_suite s

-- one statement, with the plain views of its parts in their places
abbrev kind_step : open_stmt.StmtKind-F StmtKind PlainArm PlainCase PlainClause PlainStmt Suite
    → StmtKind
kind_step (open_stmt.Expr e) = expr (plain_expr e)
kind_step (open_stmt.Assign ts e) = assign (plain_exprs ts.items) (plain_expr e)
kind_step (open_stmt.AugAssign t op e) = aug_assign (plain_expr t) op (plain_expr e)
kind_step open_stmt.Pass = pass
kind_step open_stmt.Break = break
kind_step open_stmt.Continue = continue
kind_step (open_stmt.Return e) = return (option_map plain_expr e)
kind_step (open_stmt.Raise e) = raise (option_map plain_expr e)
kind_step (open_stmt.Assert e w) = assert (plain_expr e) (option_map plain_expr w)
kind_step (open_stmt.Global xs) = global xs.items
kind_step (open_stmt.Import names) = import (plain_aliases names.items)
kind_step (open_stmt.From m names) = from m (plain_aliases names.items)
kind_step (open_stmt.If arms o) = if' (arms_of arms.items) (opt_suite_of o)
kind_step (open_stmt.While t b o) = while (plain_expr t) b (opt_suite_of o)
kind_step (open_stmt.For t e b o) = for (plain_expr t) (plain_expr e) b (opt_suite_of o)
kind_step (open_stmt.Try b cs o f) = try b (clauses_of cs.items) (opt_suite_of o) (opt_suite_of f)
kind_step (open_stmt.Def x ps ds c b) = def x ps.items (plain_exprs ds.items) c b
kind_step (open_stmt.Match e l cs) = match (plain_expr e) l (cases_of cs.items)

-- one test with its suite
abbrev arm_step : open_stmt.Arm-F StmtKind PlainArm PlainCase PlainClause PlainStmt Suite → PlainArm
arm_step a = record { test = plain_expr a.test; body = a.body }

-- one case
abbrev case_step : open_stmt.Case-F StmtKind PlainArm PlainCase PlainClause PlainStmt Suite
    → PlainCase
case_step c = record {
  pattern = plain_pattern c.pattern;
  guard = option_map plain_expr c.guard;
  body = c.body;
}

-- one `except` clause
abbrev clause_step : open_stmt.Clause-F StmtKind PlainArm PlainCase PlainClause PlainStmt Suite
    → PlainClause
clause_step c = record { kind = option_map plain_expr c.kind; name = c.name; body = c.body }

-- one statement with its lines
abbrev stmt_step : open_stmt.Stmt-F StmtKind PlainArm PlainCase PlainClause PlainStmt Suite
    → PlainStmt
stmt_step s = record { first = s.first; last = s.last; kind = s.kind; end = s.end }

-- one suite with the lines of its header
abbrev suite_step : open_stmt.Suite-F StmtKind PlainArm PlainCase PlainClause PlainStmt Suite
    → Suite
suite_step s = suite s.first s.last s.inline (stmts_of s.body.items)

-- a statement without its lines
abbrev pub plain_kind : KindNode → StmtKind
plain_kind =
    fold-StmtKind StmtKind PlainArm PlainCase PlainClause PlainStmt Suite kind_step arm_step
    case_step clause_step stmt_step suite_step

-- a suite
abbrev pub plain_suite : SuiteNode → Suite
plain_suite =
    fold-Suite StmtKind PlainArm PlainCase PlainClause PlainStmt Suite kind_step arm_step case_step
    clause_step stmt_step suite_step

-- the suite of an `else` or a `finally`
abbrev pub plain_opt_suite : Option SuiteNode → OptSuite
plain_opt_suite o = opt_suite_of (option_map plain_suite o)

-- a statement with its lines
abbrev plain_stmt : Stmt → PlainStmt
plain_stmt =
    fold-Stmt StmtKind PlainArm PlainCase PlainClause PlainStmt Suite kind_step arm_step case_step
    clause_step stmt_step suite_step

-- statements in a row
abbrev pub plain_stmts : List Stmt → Stmts
plain_stmts ss = stmts_of (map plain_stmt ss)

-- a test with its suite
abbrev plain_arm : Arm → PlainArm
plain_arm =
    fold-Arm StmtKind PlainArm PlainCase PlainClause PlainStmt Suite kind_step arm_step case_step
    clause_step stmt_step suite_step

-- tests with their suites
abbrev pub plain_arms : List Arm → Arms
plain_arms rest = arms_of (map plain_arm rest)

-- an `except` clause
abbrev plain_clause : Clause → PlainClause
plain_clause =
    fold-Clause StmtKind PlainArm PlainCase PlainClause PlainStmt Suite kind_step arm_step case_step
    clause_step stmt_step suite_step

-- `except` clauses
abbrev pub plain_clauses : List Clause → Clauses
plain_clauses cs = clauses_of (map plain_clause cs)

-- a case
abbrev plain_case : Case → PlainCase
plain_case =
    fold-Case StmtKind PlainArm PlainCase PlainClause PlainStmt Suite kind_step arm_step case_step
    clause_step stmt_step suite_step

-- cases
abbrev pub plain_cases : List Case → Cases
plain_cases cs = cases_of (map plain_case cs)

-- a module
abbrev pub plain_module : Module → Stmts
plain_module m = plain_stmts m.body.items
