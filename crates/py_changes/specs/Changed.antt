-- The changed lines of two versions of a module: where they differ, the lines of their marks, of
-- the old version and of the new one. What isn't compared: last lines, a `;` behind a statement,
-- the forms of suites, and the lines of `else` and `finally`.
--     Lines, also, where_not            lines of two versions
--     kind_number, same_heads           statements in a row that agree in number, kind and line
--     same_silent, same_silent_body     rows and bodies that mark nothing, and are the same
--     fits_stmts, fits_suite            what marks nothing is the same; fits_opt and the like for
--                                       what stands in statements
--     same_simple                       statements without the suites in them
--     changed_header, all_marks         what changes of a statement
--     by_parts                          part by part, or as a whole
--     changed_stmts, changed_kind       two rows of statements, and two statements; changed_suite
--                                       and the like for what stands in them
--     changed_body, changed_function    two bodies, and two functions
--     changed_module                    two modules
use Rattle.std.specs.Prelude.{ℕ, nat_eq, Bool, true, false, not, ◌&&◌, ◌||◌, List, [], ◌∷◌, ◌++◌}
use Rattle.py_text.specs.Comparison.{is_same_text}
use Rattle.py_syntax.specs.Functions.{Function, functions, is_docstring, without_docstring}
use Rattle.py_syntax.specs.Marks.{own_mark, stmts_marks, kind_marks, body_marks}
use Rattle.py_syntax.specs.Names.{is_among, local_names}
use Rattle.py_syntax.specs.Tree.{Text, Stmts, no_stmts, stmt, Suite, suite, OptSuite, no_suite, has_suite, Arms, no_arms, arm, Clauses, no_clauses, clause, Cases, no_cases, case, StmtKind, expr, assign, aug_assign, pass, break, continue, return, raise, assert, global, import, from, if', while, for, try, def, match}
use Rattle.py_changes.specs.Same.{same_bool, same_operator, same_texts, same_list, same_option, same_alias, same_expr, same_exprs, same_maybe, same_pattern}

-- ---- lines of two versions

-- lines of the old version, and lines of the new one
abbrev pub Lines : Type 0
Lines = List ℕ × List ℕ

-- lines of both, and then further ones
abbrev pub also : Lines → Lines → Lines
also a b = (a.0 ++ b.0, a.1 ++ b.1)

-- no lines where something is the same, and else these
abbrev pub where_not : Bool → Lines → Lines
where_not true lines = ([], [])
where_not false lines = lines

-- ---- statements in a row that agree in number, kind and line

-- the kind of a statement, as a number
abbrev pub kind_number : StmtKind → ℕ
kind_number (expr e) = 1
kind_number (assign ts e) = 2
kind_number (aug_assign t op e) = 3
kind_number pass = 4
kind_number break = 5
kind_number continue = 6
kind_number (return e) = 7
kind_number (raise e) = 8
kind_number (assert e w) = 9
kind_number (global xs) = 10
kind_number (import names) = 11
kind_number (from m names) = 12
kind_number (if' arms o) = 13
kind_number (while t s o) = 14
kind_number (for t e s o) = 15
kind_number (try s cs o fin) = 16
kind_number (def x ps ds c s) = 17
kind_number (match e last cs) = 18

-- two rows of as many statements, each of the same line and kind as its partner
abbrev pub same_heads : Stmts → Stmts → Bool
same_heads no_stmts no_stmts = true
same_heads (stmt l a k e r) (stmt m b j f s) =
    nat_eq l m && (nat_eq (kind_number k) (kind_number j) && same_heads r s)
same_heads a b = false

-- whether a docstring leads a body
abbrev pub has_docstring : Stmts → Bool
has_docstring no_stmts = false
has_docstring (stmt l a k e r) = is_docstring k

-- ---- what marks nothing

-- whether a list has no line
abbrev pub is_empty : List ℕ → Bool
is_empty [] = true
is_empty (l ∷ ls) = false

-- the same `global` statements: a row that marks nothing has no others
abbrev pub same_silent : Stmts → Stmts → Bool
same_silent no_stmts no_stmts = true
same_silent (stmt l a (global xs) e r) (stmt m b (global ys) f s) =
    nat_eq l m && (same_texts xs ys && same_silent r s)
same_silent a b = false

-- the same docstring, where one leads both bodies
abbrev pub same_docstring : Stmts → Stmts → Bool
same_docstring (stmt l a (expr e) f r) (stmt m b (expr g) h s) = nat_eq l m && same_expr e g
same_docstring a b = true

-- a row that marks nothing in the old version is the same in the new one
abbrev pub fits_stmts : Stmts → Stmts → Bool
fits_stmts a b = not (is_empty (stmts_marks a)) || same_silent a b

-- the same body of a module or a function, of a docstring and `global` statements
abbrev pub same_silent_body : Stmts → Stmts → Bool
same_silent_body a b =
    (same_bool (has_docstring a) (has_docstring b) && same_docstring a b)
    && same_silent (without_docstring a) (without_docstring b)

-- a body that marks nothing in the old version is the same in the new one
abbrev pub fits_body : Stmts → Stmts → Bool
fits_body a b = not (is_empty (body_marks a)) || same_silent_body a b

-- a suite that marks nothing in the old version is the same in the new one
abbrev pub fits_suite : Suite → Suite → Bool
fits_suite (suite l a i b) (suite m c j d) = fits_stmts b d

-- the suites of an `else` or a `finally`: both are missing, or both are there and fit
abbrev pub fits_opt : OptSuite → OptSuite → Bool
fits_opt no_suite no_suite = true
fits_opt (has_suite s) (has_suite t) = fits_suite s t
fits_opt a b = false

-- as many tests of an `if`, whose suites fit
abbrev pub fits_arms : Arms → Arms → Bool
fits_arms no_arms no_arms = true
fits_arms (arm e s r) (arm f t q) = fits_suite s t && fits_arms r q
fits_arms a b = false

-- as many clauses of a `try`, whose suites fit
abbrev pub fits_clauses : Clauses → Clauses → Bool
fits_clauses no_clauses no_clauses = true
fits_clauses (clause e x s r) (clause f y t q) = fits_suite s t && fits_clauses r q
fits_clauses a b = false

-- as many cases of a `match`, whose suites fit
abbrev pub fits_cases : Cases → Cases → Bool
fits_cases no_cases no_cases = true
fits_cases (case p g s r) (case q h t c) = fits_suite s t && fits_cases r c
fits_cases a b = false

-- ---- statements

-- Two statements of one line differ in nothing that has their own mark. Names after `global` mark
-- nothing. Of a `def` these are its name and defaults: functions are compared by themselves.
abbrev pub same_simple : StmtKind → StmtKind → Bool
same_simple (expr e) (expr f) = same_expr e f
same_simple (assign ts e) (assign us f) = same_exprs ts us && same_expr e f
same_simple (aug_assign t op e) (aug_assign u oq f) =
    same_expr t u && (same_operator op oq && same_expr e f)
same_simple pass pass = true
same_simple break break = true
same_simple continue continue = true
same_simple (return e) (return f) = same_maybe e f
same_simple (raise e) (raise f) = same_maybe e f
same_simple (assert e w) (assert f v) = same_expr e f && same_maybe w v
same_simple (global xs) (global ys) = true
same_simple (import names) (import others) = same_list same_alias names others
same_simple (from m names) (from n others) =
    is_same_text m n && same_list same_alias names others
same_simple (def x ps ds c s) (def y qs es d t) =
    is_same_text x y && (same_exprs ds es && same_bool c d)
same_simple a b = false

-- a header with a mark of its own: it changes unless it is the same, in the same line
abbrev pub changed_header : Bool → ℕ → ℕ → Lines
changed_header same l m = where_not (nat_eq l m && same) (l ∷ [], m ∷ [])

-- all marks of two statements of one line
abbrev pub all_marks : ℕ → StmtKind → StmtKind → Lines
all_marks l k j = (kind_marks l k, kind_marks l j)

-- what changes part by part where the parts fit, and else as a whole
abbrev pub by_parts : Bool → Lines → Lines → Lines
by_parts true parts whole = parts
by_parts false parts whole = whole

-- of two rows, what changes statement by statement, or else all their marks
abbrev pub stmts_by : Stmts → Stmts → Lines → Lines
stmts_by a b each = by_parts (same_heads a b) each (stmts_marks a, stmts_marks b)

abbrev mutual
  -- of two rows that agree, statement by statement
  pub changed_each : Stmts → Stmts → Lines
  changed_each (stmt l a k e r) (stmt m b j f s) = also (changed_kind l k j) (changed_each r s)
  changed_each a b = ([], [])

  -- of two statements of one line and kind
  pub changed_kind : ℕ → StmtKind → StmtKind → Lines
  changed_kind l (if' us o) (if' bs q) =
      by_parts (fits_arms us bs && fits_opt o q)
      (also (changed_arms us bs) (changed_opt o q))
      (all_marks l (if' us o) (if' bs q))
  changed_kind l (while e s o) (while f t q) =
      by_parts (fits_suite s t && fits_opt o q)
      (also (changed_header (same_expr e f) l l) (also (changed_suite s t) (changed_opt o q)))
      (all_marks l (while e s o) (while f t q))
  changed_kind l (for x e s o) (for y f t q) =
      by_parts (fits_suite s t && fits_opt o q)
      (also (changed_header (same_expr x y && same_expr e f) l l)
      (also (changed_suite s t) (changed_opt o q)))
      (all_marks l (for x e s o) (for y f t q))
  changed_kind l (try s cs o fin) (try t ds q gin) =
      by_parts (fits_suite s t && (fits_clauses cs ds && (fits_opt o q && fits_opt fin gin)))
      (also (changed_suite s t)
      (also (changed_clauses cs ds) (also (changed_opt o q) (changed_opt fin gin))))
      (all_marks l (try s cs o fin) (try t ds q gin))
  changed_kind l (match e a cs) (match f b ds) =
      by_parts (fits_cases cs ds)
      (also (changed_header (same_expr e f) l l) (changed_cases cs ds))
      (all_marks l (match e a cs) (match f b ds))
  changed_kind l k j = where_not (same_simple k j) (own_mark l k, own_mark l j)

  -- of two suites
  pub changed_suite : Suite → Suite → Lines
  changed_suite (suite l a i b) (suite m c j d) = stmts_by b d (changed_each b d)

  -- of the suites of an `else` or a `finally`
  pub changed_opt : OptSuite → OptSuite → Lines
  changed_opt (has_suite s) (has_suite t) = changed_suite s t
  changed_opt a b = ([], [])

  -- of the tests of an `if`
  pub changed_arms : Arms → Arms → Lines
  changed_arms (arm e (suite l a i b) r) (arm f (suite m c j d) q) =
      also (changed_header (same_expr e f) l m)
      (also (stmts_by b d (changed_each b d)) (changed_arms r q))
  changed_arms a b = ([], [])

  -- of the clauses of a `try`
  pub changed_clauses : Clauses → Clauses → Lines
  changed_clauses (clause e x (suite l a i b) r) (clause f y (suite m c j d) q) =
      also (changed_header (same_maybe e f && same_option is_same_text x y) l m)
      (also (stmts_by b d (changed_each b d)) (changed_clauses r q))
  changed_clauses a b = ([], [])

  -- of the cases of a `match`
  pub changed_cases : Cases → Cases → Lines
  changed_cases (case p g (suite l a i b) r) (case q h (suite m c j d) s) =
      also (changed_header (same_pattern p q && same_maybe g h) l m)
      (also (stmts_by b d (changed_each b d)) (changed_cases r s))
  changed_cases a b = ([], [])

-- of two rows of statements
abbrev pub changed_stmts : Stmts → Stmts → Lines
changed_stmts a b = stmts_by a b (changed_each a b)

-- ---- bodies, functions and modules

-- Of two bodies of modules or of functions. A docstring marks nothing, and is a kind of its own.
abbrev pub changed_body : Stmts → Stmts → Lines
changed_body a b =
    by_parts (same_heads a b && same_bool (has_docstring a) (has_docstring b))
    (changed_each (without_docstring a) (without_docstring b))
    (body_marks a, body_marks b)

-- whether all names of a list are among others
abbrev pub are_among : List Text → List Text → Bool
are_among [] ys = true
are_among (x ∷ xs) ys = is_among ys x && are_among xs ys

-- the same names, in whatever order
abbrev pub same_names : List Text → List Text → Bool
same_names xs ys = are_among xs ys && are_among ys xs

-- Of two functions. Where they have other local names, all marks of their bodies change. A body
-- that marked nothing and differs changes the line of the `def` too.
abbrev pub changed_function : Function → Function → Lines
changed_function f g =
    also
    (by_parts (same_names (local_names f.params f.body) (local_names g.params g.body))
    (changed_body f.body g.body)
    (body_marks f.body, body_marks g.body))
    (where_not (fits_body f.body g.body)
    (f.line ∷ body_marks f.body, g.line ∷ body_marks g.body))

-- of functions in a row, each and its partner
abbrev pub changed_functions : List Function → List Function → Lines
changed_functions (f ∷ fs) (g ∷ gs) = also (changed_function f g) (changed_functions fs gs)
changed_functions fs gs = ([], [])

-- two `def`s of the same line, name and parameters
abbrev pub same_def : Function → Function → Bool
same_def f g = nat_eq f.line g.line && (is_same_text f.name g.name && same_texts f.params g.params)

-- as many `def`s, each the same as its partner
abbrev pub same_defs : List Function → List Function → Bool
same_defs = same_list same_def

-- Of two versions of a module. Where their `def`s don't agree, all marks of both change.
abbrev pub changed_module : Stmts → Stmts → Lines
changed_module a b =
    by_parts (same_defs (functions a) (functions b))
    (also (changed_body a b) (changed_functions (functions a) (functions b)))
    (body_marks a, body_marks b)
