-- What marks nothing: `global` statements, and a docstring that leads a body.
--     declared_by, string_in, docstring_in     the names of a `global`, and the pieces of a docstring
--     are_both                                 two statements of a kind that are the same
--     lead_alike                               the docstrings that lead two bodies, if any do
use Rattle.std.specs.Prelude.{ℕ, nat_eq, Bool, true, false, ◌&&◌, List, Option, Some, None, is_none}
use Rattle.py_syntax.specs.Tree.{Text, Expr, name, int, str, fstr, none, bool, tuple, list, dict, paren, not', and, or, unary, binary, compare, cond, call, index, slice, attr}
use Rattle.py_syntax.specs.Tree.{Stmts, no_stmts, stmt, StmtKind, expr, assign, aug_assign, pass, break, continue, return, raise, assert, global, import, from, if', while, for, try, def, match}
use Rattle.py_changes.specs.Same.{same_texts}

-- the names that a statement declares `global`
abbrev pub declared_by : StmtKind → Option (List Text)
declared_by (expr e) = None
declared_by (assign ts e) = None
declared_by (aug_assign t op e) = None
declared_by pass = None
declared_by break = None
declared_by continue = None
declared_by (return e) = None
declared_by (raise e) = None
declared_by (assert e w) = None
declared_by (global xs) = Some xs
declared_by (import names) = None
declared_by (from m names) = None
declared_by (if' arms o) = None
declared_by (while t s o) = None
declared_by (for t e s o) = None
declared_by (try s cs o fin) = None
declared_by (def x ps ds c s) = None
declared_by (match e last cs) = None

-- the pieces of plain strings without parentheses
abbrev pub string_in : Expr → Option (List Text)
string_in (name x) = None
string_in (int n) = None
string_in (str ps) = Some ps
string_in (fstr fs) = None
string_in none = None
string_in (bool b) = None
string_in (tuple es c) = None
string_in (list es c) = None
string_in (dict ps c) = None
string_in (paren e) = None
string_in (not' e) = None
string_in (and a b) = None
string_in (or a b) = None
string_in (unary s e) = None
string_in (binary op a b) = None
string_in (compare a ls) = None
string_in (cond b t o) = None
string_in (call f es c) = None
string_in (index f e) = None
string_in (slice f low high) = None
string_in (attr f x) = None

-- the pieces of a statement that is a docstring where it leads a body
abbrev pub docstring_in : StmtKind → Option (List Text)
docstring_in (expr e) = string_in e
docstring_in (assign ts e) = None
docstring_in (aug_assign t op e) = None
docstring_in pass = None
docstring_in break = None
docstring_in continue = None
docstring_in (return e) = None
docstring_in (raise e) = None
docstring_in (assert e w) = None
docstring_in (global xs) = None
docstring_in (import names) = None
docstring_in (from m names) = None
docstring_in (if' arms o) = None
docstring_in (while t s o) = None
docstring_in (for t e s o) = None
docstring_in (try s cs o fin) = None
docstring_in (def x ps ds c s) = None
docstring_in (match e last cs) = None

-- both are there, on the same line, with the same texts
abbrev pub are_both : ℕ → Option (List Text) → ℕ → Option (List Text) → Bool
are_both l (Some xs) m (Some ys) = nat_eq l m && same_texts xs ys
are_both l x m y = false

-- both are there and the same, or both are missing
abbrev pub alike : ℕ → Option (List Text) → ℕ → Option (List Text) → Bool
alike l (Some xs) m (Some ys) = nat_eq l m && same_texts xs ys
alike l None m None = true
alike l x m y = false

-- the same docstring leads both bodies, or none leads either
abbrev pub lead_alike : Stmts → Stmts → Bool
lead_alike no_stmts no_stmts = true
lead_alike no_stmts (stmt m b j f s) = is_none (docstring_in j)
lead_alike (stmt l a k e r) no_stmts = is_none (docstring_in k)
lead_alike (stmt l a k e r) (stmt m b j f s) = alike l (docstring_in k) m (docstring_in j)
