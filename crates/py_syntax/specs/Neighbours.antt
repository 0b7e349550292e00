-- Which marks can follow each other in a run of a part of a tree. (Python Language Reference, 7 and
-- 8)
--
-- Where `any` is true, everything that marks may raise at its mark; else `raise` alone raises.
--     joined, turned                         marks with those that follow them, and with the header
--                                            of their loop
--     by_each_way                            the last marks of what stands in front of a `finally`
--     stmts_pairs, kind_pairs, opt_pairs     the pairs of neighbouring marks; arms_pairs and the
--                                            like for what stands in statements
use Rattle.std.specs.Prelude.{ℕ, nat_eq, Bool, true, false, not, if◌then◌else◌, List, [], ◌∷◌, ◌++◌, Option, Some, None, map}
use Rattle.py_syntax.specs.Constants.{is_constant}
use Rattle.py_syntax.specs.FirstMarks.{only, opt_empty, stmts_first, opt_first, arms_first, clauses_first, cases_first}
use Rattle.py_syntax.specs.LastMarks.{Way, onward, breaking, continuing, returning, raising, past, past_try, has_clause, is_sure, stmts_last, kind_last, opt_last, clauses_last}
use Rattle.py_syntax.specs.Tree.{Stmts, no_stmts, stmt, suite, OptSuite, no_suite, has_suite, Arms, no_arms, arm, Clauses, no_clauses, clause, Cases, no_cases, case, StmtKind, expr, assign, aug_assign, pass, break, continue, return, raise, assert, global, import, from, if', while, for, try, def, match}

-- two marks, of which the second follows the first
abbrev pub Pair : Type 0
Pair = ℕ × ℕ

-- a mark with each that follows it; a mark on the line before it is dropped
abbrev pub followed : ℕ → List ℕ → List Pair
followed l [] = []
followed l (m ∷ ms) = if nat_eq l m then followed l ms else (l, m) ∷ followed l ms

-- each of these marks with each of those
abbrev pub joined : List ℕ → List ℕ → List Pair
joined [] ms = []
joined (l ∷ ls) ms = followed l ms ++ joined ls ms

-- marks with the header of their loop, which is marked again, also on their own line
abbrev pub turned : ℕ → List ℕ → List Pair
turned header ls = map (λ l. (l, header)) ls

-- the marks by whatever way
abbrev pub by_each_way : (Way → List ℕ) → List ℕ
by_each_way last =
    last onward ++ (last breaking ++ (last continuing ++ (last returning ++ last raising)))

-- a clause that names a kind of exception, and so may not match
abbrev pub names_kind : {E : Type 0} → Option E → Bool
names_kind None = false
names_kind (Some e) = true

unfoldable mutual
  -- the pairs of statements in a row
  pub stmts_pairs : Bool → Stmts → List Pair
  stmts_pairs any no_stmts = []
  stmts_pairs any (stmt f l k e rest) =
      kind_pairs any f k
      ++ (joined (kind_last any onward f k) (stmts_first rest) ++ stmts_pairs any rest)

  -- of a statement with this first line
  pub kind_pairs : Bool → ℕ → StmtKind → List Pair
  kind_pairs any l (expr e) = []
  kind_pairs any l (assign ts e) = []
  kind_pairs any l (aug_assign t op e) = []
  kind_pairs any l pass = []
  kind_pairs any l break = []
  kind_pairs any l continue = []
  kind_pairs any l (return e) = []
  kind_pairs any l (raise e) = []
  kind_pairs any l (assert e why) = []
  kind_pairs any l (global xs) = []
  kind_pairs any l (import names) = []
  kind_pairs any l (from m names) = []
  kind_pairs any l (if' arms o) = arms_pairs any arms (opt_first o) ++ opt_pairs any o
  kind_pairs any l (while t (suite f g inline b) o) =
      joined (l ∷ []) (stmts_first b)
      ++ (turned l (stmts_last any onward b ++ (stmts_last any continuing b ++ past l b))
      ++ (joined (only (not (is_constant t)) (l ∷ [])) (opt_first o)
      ++ (stmts_pairs any b ++ opt_pairs any o)))
  kind_pairs any l (for t e (suite f g inline b) o) =
      joined (l ∷ []) (stmts_first b)
      ++ (turned l (stmts_last any onward b ++ (stmts_last any continuing b ++ past l b))
      ++ (joined (l ∷ []) (opt_first o)
      ++ (stmts_pairs any b ++ opt_pairs any o)))
  kind_pairs any l (try (suite f g inline b) cs o fin) =
      joined (l ∷ []) (stmts_first b)
      ++ (joined (stmts_last any raising b) (clauses_first cs)
      ++ (joined (stmts_last any onward b ++ past l b) (opt_first o)
      ++ (joined
      (by_each_way (λ w.
      past_try w (has_clause cs) (opt_empty o) (stmts_last any onward b ++ past l b)
      (stmts_last any w b) ++ (clauses_last any w cs ++ opt_last any w o)))
      (opt_first fin)
      ++ (stmts_pairs any b ++ (clauses_pairs any cs ++ (opt_pairs any o ++ opt_pairs any fin))))))
  kind_pairs any l (def x ps ds c b) = []
  kind_pairs any l (match e header cs) = joined (l ∷ []) (cases_first cs) ++ cases_pairs any cs

  -- the pairs of the suite of an `else` or a `finally`
  pub opt_pairs : Bool → OptSuite → List Pair
  opt_pairs any no_suite = []
  opt_pairs any (has_suite (suite f l inline b)) = stmts_pairs any b

  -- with the first mark of the `else`
  pub arms_pairs : Bool → Arms → List ℕ → List Pair
  arms_pairs any no_arms orelse = []
  arms_pairs any (arm t (suite f l inline b) rest) orelse =
      joined (f ∷ []) (stmts_first b)
      ++ (joined (f ∷ []) (arms_first rest orelse)
      ++ (stmts_pairs any b ++ arms_pairs any rest orelse))

  -- the pairs of the clauses of a `try`
  pub clauses_pairs : Bool → Clauses → List Pair
  clauses_pairs any no_clauses = []
  clauses_pairs any (clause k x (suite f l inline b) rest) =
      joined (f ∷ []) (stmts_first b)
      ++ (joined (only (names_kind k) (f ∷ [])) (clauses_first rest)
      ++ (stmts_pairs any b ++ clauses_pairs any rest))

  -- the pairs of the cases of a `match`
  pub cases_pairs : Bool → Cases → List Pair
  cases_pairs any no_cases = []
  cases_pairs any (case p g (suite f l inline b) rest) =
      joined (f ∷ []) (stmts_first b)
      ++ (joined (only (not (is_sure p g)) (f ∷ [])) (cases_first rest)
      ++ (stmts_pairs any b ++ cases_pairs any rest))
