-- One item of the parts of an expression or a statement in front of a row.
--     put_expr .. put_part         what stands in expressions
--     put_stmt .. put_case         statements, and what stands in them
use Rattle.std.specs.Prelude.{[], ◌∷◌}
use Rattle.py_syntax.specs.declared.expr.Expr.{Expr as Node}
use Rattle.py_syntax.specs.declared.expr.Pair.{Pair, out-Pair}
use Rattle.py_syntax.specs.declared.expr.Link.{Link, out-Link}
use Rattle.py_syntax.specs.declared.expr.Fragment.{Fragment}
use Rattle.py_syntax.specs.declared.expr.FormatPart.{FormatPart}
use Rattle.py_syntax.specs.Tree.{Exprs, exprs, Pairs, pair, Links, link, Fragments, no_fragments, plain, format, Parts, no_parts, text, field}
use Rattle.std.specs.Option.{option_map}
use Rattle.py_syntax.specs.declared.stmt.Stmt.{Stmt, out-Stmt}
use Rattle.py_syntax.specs.declared.stmt.Arm.{Arm, out-Arm}
use Rattle.py_syntax.specs.declared.stmt.Clause.{Clause, out-Clause}
use Rattle.py_syntax.specs.declared.stmt.Case.{Case, out-Case}
use Rattle.py_syntax.specs.Tree.{Stmts, stmt, Arms, arm, Clauses, clause, Cases, case}
use Rattle.py_syntax.specs.View.{plain_expr, plain_fragments, plain_parts, plain_pattern, plain_kind, plain_suite}

-- an expression in front of others
abbrev pub put_expr : Node → Exprs → Exprs
put_expr e r = exprs (plain_expr e) r

-- a key with its value in front of others
abbrev pub put_pair : Pair → Pairs → Pairs
put_pair p r = pair (plain_expr (out-Pair p).key) (plain_expr (out-Pair p).value) r

-- a comparison in front of others
abbrev pub put_link : Link → Links → Links
put_link l r = link (out-Link l).op (plain_expr (out-Link l).right) r

-- pieces of an f-string in front of others
abbrev pub fragments_before : Fragments → Fragments → Fragments
fragments_before no_fragments r = r
fragments_before (plain x fs) r = plain x (fragments_before fs r)
fragments_before (format ps fs) r = format ps (fragments_before fs r)

-- a piece in front of others
abbrev pub put_fragment : Fragment → Fragments → Fragments
put_fragment f r = fragments_before (plain_fragments (f ∷ [])) r

-- what stands in a piece in front of more
abbrev pub parts_before : Parts → Parts → Parts
parts_before no_parts r = r
parts_before (text x ps) r = text x (parts_before ps r)
parts_before (field e ps) r = field e (parts_before ps r)

-- a part of a piece in front of others
abbrev pub put_part : FormatPart → Parts → Parts
put_part p r = parts_before (plain_parts (p ∷ [])) r

-- a statement in front of others
abbrev pub put_stmt : Stmt → Stmts → Stmts
put_stmt s r =
    stmt (out-Stmt s).first (out-Stmt s).last (plain_kind (out-Stmt s).kind) (out-Stmt s).end r

-- a test with its suite in front of others
abbrev pub put_arm : Arm → Arms → Arms
put_arm a r = arm (plain_expr (out-Arm a).test) (plain_suite (out-Arm a).body) r

-- an `except` clause in front of others
abbrev pub put_clause : Clause → Clauses → Clauses
put_clause c r =
    clause (option_map plain_expr (out-Clause c).kind) (out-Clause c).name
    (plain_suite (out-Clause c).body) r

-- a case in front of others
abbrev pub put_case : Case → Cases → Cases
put_case c r =
    case (plain_pattern (out-Case c).pattern) (option_map plain_expr (out-Case c).guard)
    (plain_suite (out-Case c).body) r
