-- The code of statements (Python Language Reference, "Simple statements" and "Compound
-- statements").
--     stmts_size, kind_size          how many instructions statements take
--     stmts_code, kind_code          these instructions, from a place on
use Rattle.std.specs.Prelude.{ℕ, ◌+◌, ◌-◌, Bool, true, false, List, [], ◌∷◌, ◌++◌, Option, Some, None}
use Rattle.py_operator.specs.declared.operator.BinOp.{BinOp}
use Rattle.py_syntax.specs.Functions.{Function}
use Rattle.py_syntax.specs.Names.{alias_name}
use Rattle.py_syntax.specs.Tree.{Text, Alias, Expr, name, int, str, fstr, none, bool, tuple, list, dict, paren, not', and, or, unary, binary, compare, cond, call, index, slice, attr, Exprs, no_exprs, exprs}
use Rattle.py_syntax.specs.Tree.{Stmts, no_stmts, stmt, suite, OptSuite, no_suite, has_suite, Arms, no_arms, arm, Clauses, no_clauses, clause, Cases, no_cases, case, StmtKind, expr, assign, aug_assign, pass, break, continue, return, raise, assert, global, import, from, if', while, for, try, def, match}
use Rattle.py_meaning.specs.Modules.{unit_at}
use Rattle.py_meaning.specs.Statements.{has_clauses}
use Rattle.py_code.specs.declared.instr.Instr.TheVariants.{Pop, Copy, Sink, List as MakeList, InPlace, Index, StoreIndex, Goto, IfFalse, IfTrue, Walk, Next, Function as MakeFunction, FunctionWith, Raise, Reraise, Assertion, AssertionWith, Catches, Caught, Uncaught, Ending, Settle, Release}
use Rattle.py_code.specs.declared.unit.Constant.TheVariants.{None as NoneConstant}
use Rattle.py_compile_expr.specs.Cells.{constant, load, store, unset, imports, module_named, takes, marks, marks_again, plain, Guard, Cell, put}
use Rattle.py_compile_expr.specs.Expressions.{count, expr_size, expr_code, each_size, each_code}
use Rattle.py_compile_expr.specs.Patterns.{captured, pattern_size, pattern_code, names_size, names_code}
use Rattle.py_compile_expr.specs.Targets.{target_size, target_code, all_size, all_code}
use Rattle.py_compile.specs.Ways.{Ways, under, in_finally, in_try, in_loop, in_clause, in_hand, break_exit, continue_exit, return_exit}

-- ---- parts

-- an expression that may be missing
abbrev pub option_size : Option Expr → ℕ
option_size None = 1
option_size (Some e) = expr_size e

-- an expression, or else None
abbrev pub option_code : Option Guard → ℕ → Option Expr → List Cell
option_code g p None = put g (constant NoneConstant) []
option_code g p (Some e) = expr_code g p e

-- the module of a name, run where it isn't begun
abbrev pub module_code : Option Guard → Text → List Cell
module_code g m = put g (imports m) (put g (plain Pop) (put g (module_named m) []))

-- the names of an `import`
abbrev pub import_size : List Alias → ℕ
import_size [] = 0
import_size (a ∷ rest) = 4 + import_size rest

-- their code
abbrev pub import_code : Option Guard → List Alias → List Cell
import_code g [] = []
import_code g (a ∷ rest) = module_code g a.name ++ put g (store (alias_name a)) (import_code g rest)

-- the names of a `from .. import`
abbrev pub take_size : List Alias → ℕ
take_size [] = 1
take_size (a ∷ rest) = 2 + take_size rest

-- their code, where the module is on top
abbrev pub take_code : Option Guard → Text → List Alias → List Cell
take_code g m [] = put g (plain Pop) []
take_code g m (a ∷ rest) =
    put g (takes m a.name) (put g (store (alias_name a)) (take_code g m rest))

-- what is no place to assign to raises as None has no items
abbrev pub no_place_code : Option Guard → List Cell
no_place_code g =
    put g (constant NoneConstant)
    (put g (constant NoneConstant) (put g (plain Index) (put g (plain Pop) [])))

-- `place op= e`
abbrev pub augment_size : Expr → Expr → ℕ
augment_size (name x) e = 1 + expr_size e + 2
augment_size (int n) e = 4
augment_size (str pieces) e = 4
augment_size (fstr pieces) e = 4
augment_size none e = 4
augment_size (bool b) e = 4
augment_size (tuple es comma) e = 4
augment_size (list es comma) e = 4
augment_size (dict ps comma) e = 4
augment_size (paren t) e = 4
augment_size (not' a) e = 4
augment_size (and a b) e = 4
augment_size (or a b) e = 4
augment_size (unary s a) e = 4
augment_size (binary o a b) e = 4
augment_size (compare a links) e = 4
augment_size (cond body test orelse) e = 4
augment_size (call f es comma) e = 4
augment_size (index of at) e = expr_size of + expr_size at + 3 + expr_size e + 3
augment_size (slice of low high) e = 4
augment_size (attr of x) e = 4

-- `place op= e` from a place on, without its mark
abbrev pub augment_code : Option Guard → ℕ → Expr → BinOp → Expr → List Cell
augment_code g p (name x) op e =
    put g (load x) (expr_code g (p + 1) e ++ put g (plain (InPlace op)) (put g (store x) []))
augment_code g p (int n) op e = no_place_code g
augment_code g p (str pieces) op e = no_place_code g
augment_code g p (fstr pieces) op e = no_place_code g
augment_code g p none op e = no_place_code g
augment_code g p (bool b) op e = no_place_code g
augment_code g p (tuple es comma) op e = no_place_code g
augment_code g p (list es comma) op e = no_place_code g
augment_code g p (dict ps comma) op e = no_place_code g
augment_code g p (paren t) op e = no_place_code g
augment_code g p (not' a) op e = no_place_code g
augment_code g p (and a b) op e = no_place_code g
augment_code g p (or a b) op e = no_place_code g
augment_code g p (unary s a) op e = no_place_code g
augment_code g p (binary o a b) op e = no_place_code g
augment_code g p (compare a links) op e = no_place_code g
augment_code g p (cond body test orelse) op e = no_place_code g
augment_code g p (call f es comma) op e = no_place_code g
augment_code g p (index of at) op e =
    let read = p + expr_size of + expr_size at + 3 in
    expr_code g p of
    ++ (expr_code g (p + expr_size of) at
    ++ put g (plain (Copy 1))
    (put g (plain (Copy 1))
    (put g (plain Index)
    (expr_code g read e
    ++ put g (plain (InPlace op)) (put g (plain (Sink 2)) (put g (plain StoreIndex) []))))))
augment_code g p (slice of low high) op e = no_place_code g
augment_code g p (attr of x) op e = no_place_code g

-- `raise` from a place on, without its mark
abbrev pub raise_code : Option ℕ → Ways → ℕ → Option Expr → List Cell
raise_code handled w p (Some e) = expr_code w.guard p e ++ put w.guard (plain Raise) []
raise_code (Some below) w p None = put w.guard (plain (Reraise (w.depth - below - 1))) []
raise_code None w p None = put w.guard (constant NoneConstant) (put w.guard (plain Raise) [])

-- its size, in a clause or not
abbrev pub raise_size : Bool → Option Expr → ℕ
raise_size handled (Some e) = expr_size e + 1
raise_size true None = 1
raise_size false None = 2

-- the failure of an `assert`
abbrev pub assert_size : Option Expr → ℕ
assert_size None = 1
assert_size (Some e) = expr_size e + 1

-- its code, from a place on
abbrev pub assert_code : Option Guard → ℕ → Option Expr → List Cell
assert_code g p None = put g (plain Assertion) []
assert_code g p (Some e) = expr_code g p e ++ put g (plain AssertionWith) []

-- a function, and its defaults where there are some
abbrev pub function_size : Exprs → ℕ
function_size no_exprs = 1
function_size (exprs e es) = each_size (exprs e es) + 2

-- a function from a place on, with its defaults where there are some
abbrev pub function_code : Option Guard → ℕ → (unit : ℕ) → Exprs → List Cell
function_code g p unit no_exprs = put g (plain (MakeFunction unit)) []
function_code g p unit (exprs e es) =
    each_code g p (exprs e es)
    ++ put g (plain (MakeList (count (exprs e es)))) (put g (plain (FunctionWith unit)) [])

-- the kind of a clause
abbrev pub caught_size : Option Expr → ℕ
caught_size None = 0
caught_size (Some e) = expr_size e + 2

-- whether a clause catches the exception on top; else the next one is tried
abbrev pub caught_code : Option Guard → ℕ → (next : ℕ) → Option Expr → List Cell
caught_code g p next None = []
caught_code g p next (Some e) =
    expr_code g p e ++ put g (plain Catches) (put g (plain (IfFalse next)) [])

-- the guard of a case
abbrev pub guard_size : Option Expr → ℕ
guard_size None = 0
guard_size (Some e) = expr_size e + 1

-- its code, from a place on; where it is false, the next case is tried
abbrev pub guard_code : Option Guard → ℕ → (next : ℕ) → Option Expr → List Cell
guard_code g p next None = []
guard_code g p next (Some e) = expr_code g p e ++ put g (plain (IfFalse next)) []

-- the four ways after a suite that each way out goes through: on, `break`, `continue` and `return`
abbrev pub exits_code : Ways → ℕ → List Cell
exits_code w p =
    put w.guard (plain (break_exit w.on_break (p + 3)))
    (put w.guard (plain (continue_exit w.on_continue (p + 3)))
    (put w.guard (plain (return_exit w.on_return)) []))

-- a body of one size with an `else` of another, and clauses where there are some
abbrev pub tried_size : Bool → (body orelse clauses : ℕ) → ℕ
tried_size false body orelse clauses = body + orelse
tried_size true body orelse clauses = body + orelse + 1 + clauses

-- the clauses are the handler of the body, and not of the `else`
abbrev pub tried_code : Bool → Ways → ℕ → (body orelse clauses : ℕ) → (Ways → ℕ → List Cell)
    → (ℕ → List Cell) → (ℕ → ℕ → List Cell) → List Cell
tried_code false w p body orelse clauses f g h = f w p ++ g (p + body)
tried_code true w p body orelse clauses f g h =
    let begin = p + body + orelse + 1 in
    f (in_try w begin) p
    ++ (g (p + body) ++ put w.guard (plain (Goto (begin + clauses))) (h begin (begin + clauses)))

-- ---- sizes, in the suite of a clause or not

abbrev mutual
  -- statements in a row, in a clause or not
  pub stmts_size : Bool → Stmts → ℕ
  stmts_size h no_stmts = 0
  stmts_size h (stmt first last kind end rest) = kind_size h kind + stmts_size h rest

  -- a statement
  pub kind_size : Bool → StmtKind → ℕ
  kind_size h (expr e) = 1 + expr_size e + 1
  kind_size h (assign targets e) = 1 + expr_size e + all_size targets
  kind_size h (aug_assign place op e) = 1 + augment_size place e
  kind_size h pass = 1
  kind_size h break = 2
  kind_size h continue = 2
  kind_size h (return e) = 1 + option_size e + 1
  kind_size h (raise e) = 1 + raise_size h e
  kind_size h (assert test why) = 1 + expr_size test + 1 + assert_size why
  kind_size h (global xs) = 0
  kind_size h (import names) = 1 + import_size names
  kind_size h (from m names) = 4 + take_size names
  kind_size h (if' arms orelse) = arms_size h arms + opt_size h orelse
  kind_size h (while test (suite first last inline body) orelse) =
      3 + expr_size test + 1 + stmts_size h body + 1 + opt_size h orelse
  kind_size h (for target over (suite first last inline body) orelse) =
      1 + expr_size over + 3 + 1 + target_size target + stmts_size h body + 1 + opt_size h orelse
  kind_size h (try (suite first last inline body) clauses orelse no_suite) =
      1
      + tried_size (has_clauses clauses) (stmts_size h body) (opt_size h orelse)
      (clauses_size h clauses)
  kind_size h (try (suite f g i body) clauses orelse (has_suite (suite m n j finally))) =
      1
      + tried_size (has_clauses clauses) (stmts_size h body) (opt_size h orelse)
      (clauses_size h clauses) + 1 + stmts_size h finally + 4
  kind_size h (def x params defaults comma body) = 1 + function_size defaults + 1
  kind_size h (match subject header cases) = 1 + expr_size subject + cases_size h cases

  -- the suite of an `else`, which may be missing
  pub opt_size : Bool → OptSuite → ℕ
  opt_size h no_suite = 0
  opt_size h (has_suite (suite first last inline body)) = stmts_size h body

  -- the tests of an `if`, with their suites
  pub arms_size : Bool → Arms → ℕ
  arms_size h no_arms = 0
  arms_size h (arm test (suite first last inline body) rest) =
      1 + expr_size test + 1 + stmts_size h body + 1 + arms_size h rest

  -- the clauses of a `try`
  pub clauses_size : Bool → Clauses → ℕ
  clauses_size h no_clauses = 1
  clauses_size h (clause kind None (suite first last inline body) rest) =
      1 + caught_size kind + stmts_size true body + 2 + clauses_size h rest
  clauses_size h (clause kind (Some x) (suite first last inline body) rest) =
      1 + caught_size kind + 2 + stmts_size true body + 1 + 1 + 1 + 3 + 2 + clauses_size h rest

  -- the cases of a `match`
  pub cases_size : Bool → Cases → ℕ
  cases_size h no_cases = 1
  cases_size h (case q guard (suite first last inline body) rest) =
      2 + pattern_size q + names_size (captured q) + guard_size guard + 1 + stmts_size h body + 1
      + cases_size h rest

-- ---- code. The functions of the module are those whose units a `def` names.

abbrev mutual
  -- statements in a row, from a place on
  pub stmts_code : List Function → Ways → ℕ → Stmts → List Cell
  stmts_code fs w p no_stmts = []
  stmts_code fs w p (stmt first last kind end rest) =
      kind_code fs w p first kind ++ stmts_code fs w (p + kind_size (in_hand w) kind) rest

  -- a statement with this first line, from a place on
  pub kind_code : List Function → Ways → ℕ → ℕ → StmtKind → List Cell
  kind_code fs w p l (expr e) =
      put w.guard (marks l) (expr_code w.guard (p + 1) e ++ put w.guard (plain Pop) [])
  kind_code fs w p l (assign targets e) =
      put w.guard (marks l)
      (expr_code w.guard (p + 1) e ++ all_code w.guard (p + 1 + expr_size e) targets)
  kind_code fs w p l (aug_assign place op e) =
      put w.guard (marks l) (augment_code w.guard (p + 1) place op e)
  kind_code fs w p l pass = put w.guard (marks l) []
  kind_code fs w p l break =
      put w.guard (marks l) (put w.guard (plain (break_exit w.on_break (p + 2))) [])
  kind_code fs w p l continue =
      put w.guard (marks l) (put w.guard (plain (continue_exit w.on_continue (p + 2))) [])
  kind_code fs w p l (return e) =
      put w.guard (marks l)
      (option_code w.guard (p + 1) e ++ put w.guard (plain (return_exit w.on_return)) [])
  kind_code fs w p l (raise e) = put w.guard (marks l) (raise_code w.handled w (p + 1) e)
  kind_code fs w p l (assert test why) =
      let fails = p + 1 + expr_size test + 1 in
      put w.guard (marks l)
      (expr_code w.guard (p + 1) test
      ++ put w.guard (plain (IfTrue (fails + assert_size why))) (assert_code w.guard fails why))
  kind_code fs w p l (global xs) = []
  kind_code fs w p l (import names) = put w.guard (marks l) (import_code w.guard names)
  kind_code fs w p l (from m names) =
      put w.guard (marks l) (module_code w.guard m ++ take_code w.guard m names)
  kind_code fs w p l (if' arms orelse) =
      let rest = p + arms_size (in_hand w) arms in
      arms_code fs w p (rest + opt_size (in_hand w) orelse) arms ++ opt_code fs w rest orelse
  -- the test, after the mark of the first turn or of a further one
  kind_code fs w p l (while test (suite first last inline body) orelse) =
      let begin = p + 3 + expr_size test + 1 in
      let back = begin + stmts_size (in_hand w) body in
      let rest = back + 1 in
      put w.guard (marks l)
      (put w.guard (plain (Goto (p + 3)))
      (put w.guard (marks_again l)
      (expr_code w.guard (p + 3) test
      ++ put w.guard (plain (IfFalse rest))
      (stmts_code fs (in_loop w 0 (rest + opt_size (in_hand w) orelse) back) begin body
      ++ put w.guard (plain (Goto (p + 2))) (opt_code fs w rest orelse)))))
  -- the walk stands below the suite
  kind_code fs w p l (for target over (suite first last inline body) orelse) =
      let again = p + 1 + expr_size over + 2 in
      let begin = again + 2 + target_size target in
      let back = begin + stmts_size (in_hand w) body in
      let rest = back + 1 in
      put w.guard (marks l)
      (expr_code w.guard (p + 1) over
      ++ put w.guard (plain Walk)
      (put w.guard (plain (Goto (again + 1)))
      (put w.guard (marks_again l)
      (put w.guard (plain (Next rest))
      (target_code w.guard (again + 2) target
      ++ (stmts_code fs (in_loop (under w) 1 (rest + opt_size (in_hand w) orelse) back)
      begin body ++ put w.guard (plain (Goto again)) (opt_code fs w rest orelse)))))))
  kind_code fs w p l (try (suite first last inline body) clauses orelse no_suite) =
      put w.guard (marks l)
      (tried_code (has_clauses clauses) w (p + 1) (stmts_size (in_hand w) body)
      (opt_size (in_hand w) orelse) (clauses_size (in_hand w) clauses)
      (λ v q. stmts_code fs v q body) (λ q. opt_code fs w q orelse)
      (λ q end. clauses_code fs w q end clauses))
  kind_code fs w p l (try (suite f g i body) clauses orelse (has_suite (suite m n j finally))) =
      let normal =
      p + 1
      + tried_size (has_clauses clauses) (stmts_size (in_hand w) body)
      (opt_size (in_hand w) orelse) (clauses_size (in_hand w) clauses) in
      let inner = in_finally w (normal + 1) in
      let settle = normal + 1 + stmts_size (in_hand w) finally in
      put w.guard (marks l)
      (tried_code (has_clauses clauses) inner (p + 1) (stmts_size (in_hand w) body)
      (opt_size (in_hand w) orelse) (clauses_size (in_hand w) clauses)
      (λ v q. stmts_code fs v q body) (λ q. opt_code fs inner q orelse)
      (λ q end. clauses_code fs inner q end clauses)
      ++ put w.guard (plain Ending)
      (stmts_code fs (under w) (normal + 1) finally
      ++ put w.guard (plain Settle) (exits_code w (settle + 1))))
  kind_code fs w p l (def x params defaults comma body) =
      put w.guard (marks l)
      (function_code w.guard (p + 1) (unit_at l fs) defaults ++ put w.guard (store x) [])
  kind_code fs w p l (match subject header cases) =
      let first = p + 1 + expr_size subject in
      put w.guard (marks l)
      (expr_code w.guard (p + 1) subject
      ++ cases_code fs w first (first + cases_size (in_hand w) cases) cases)

  -- the suite of an `else`, which may be missing
  pub opt_code : List Function → Ways → ℕ → OptSuite → List Cell
  opt_code fs w p no_suite = []
  opt_code fs w p (has_suite (suite first last inline body)) = stmts_code fs w p body

  -- the tests of an `if`, with their suites
  pub arms_code : List Function → Ways → ℕ → (end : ℕ) → Arms → List Cell
  arms_code fs w p end no_arms = []
  arms_code fs w p end (arm test (suite first last inline body) rest) =
      let begin = p + 1 + expr_size test + 1 in
      let next = begin + stmts_size (in_hand w) body + 1 in
      put w.guard (marks first)
      (expr_code w.guard (p + 1) test
      ++ put w.guard (plain (IfFalse next))
      (stmts_code fs w begin body
      ++ put w.guard (plain (Goto end)) (arms_code fs w next end rest)))

  -- the exception is on top till a clause ends
  pub clauses_code : List Function → Ways → ℕ → (end : ℕ) → Clauses → List Cell
  clauses_code fs w p end no_clauses = put w.guard (plain Uncaught) []
  clauses_code fs w p end (clause kind None (suite first last inline body) rest) =
      let begin = p + 1 + caught_size kind in
      let next = begin + stmts_size true body + 2 in
      put w.guard (marks first)
      (caught_code w.guard (p + 1) next kind
      ++ (stmts_code fs (in_clause w) begin body
      ++ put w.guard (plain Pop)
      (put w.guard (plain (Goto end)) (clauses_code fs w next end rest))))
  clauses_code fs w p end (clause kind (Some x) (suite first last inline body) rest) =
      let begin = p + 1 + caught_size kind + 2 in
      let release = begin + stmts_size true body + 1 in
      let next = release + 7 in
      put w.guard (marks first)
      (caught_code w.guard (p + 1) next kind
      ++ put w.guard (plain Caught)
      (put w.guard (store x)
      (stmts_code fs (in_finally (in_clause w) release) begin body
      ++ put w.guard (plain Ending)
      (put w.guard (unset x)
      (put w.guard (plain Release)
      (exits_code (under w) (release + 2)
      ++ put w.guard (plain Pop)
      (put w.guard (plain (Goto end)) (clauses_code fs w next end rest))))))))

  -- the subject is on top till a case is chosen
  pub cases_code : List Function → Ways → ℕ → (end : ℕ) → Cases → List Cell
  cases_code fs w p end no_cases = put w.guard (plain Pop) []
  cases_code fs w p end (case q guard (suite first last inline body) rest) =
      let bind = p + 2 + pattern_size q in
      let chosen = bind + names_size (captured q) + guard_size guard in
      let begin = chosen + 1 in
      let next = begin + stmts_size (in_hand w) body + 1 in
      put w.guard (marks first)
      (put w.guard (plain (Copy 0))
      (pattern_code (record { guard = w.guard; waiting = 0; fail = next; extra = 0 }) (p + 2) q
      ++ (names_code w.guard (captured q)
      ++ (guard_code w.guard (bind + names_size (captured q)) next guard
      ++ put w.guard (plain Pop)
      (stmts_code fs w begin body
      ++ put w.guard (plain (Goto end)) (cases_code fs w next end rest))))))
