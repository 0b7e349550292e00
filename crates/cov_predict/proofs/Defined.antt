-- The functions that a tree defines, and their arcs part by part.
use Rattle.std.proofs.Common.{◌≡◌, ℕ, Bool, List, [], ◌∷◌, ◌++◌, refl, ap, sym, ◌∙◌, append_assoc}
use Rattle.std.proofs.lemmas.List.{append-nil}
use Rattle.py_syntax.specs.Functions as functions_
use Rattle.py_syntax.specs.Functions.{Function, functions, functions_in, opt_functions, arms_functions, clauses_functions, cases_functions, without_docstring}
use Rattle.py_syntax.specs.Prediction.{Arc}
use Rattle.py_syntax.specs.Tree.{Stmts, no_stmts, stmt, Suite, suite, OptSuite, no_suite, has_suite, Arms, no_arms, arm, Clauses, no_clauses, clause, Cases, no_cases, case, StmtKind, expr, assign, aug_assign, pass, break, continue, return, raise, assert, global, import, from, if', while, for, try, def, match}
use Rattle.cov_predict.specs.Defs.{stmts_defs, kind_defs, opt_defs, arms_defs, clauses_defs, cases_defs}
use Rattle.cov_predict.specs.Walk.{body_walk, functions_walk}

walk-append : (any : Bool) (xs ys : List Function) → functions_walk any (xs ++ ys) ≡ functions_walk any xs ++ functions_walk any ys
walk-append any [] ys = refl
walk-append any (f ∷ xs) ys =
    ap (λ z. body_walk any f.line (without_docstring f.body) ++ z) (walk-append any xs ys)
    ∙ sym (append_assoc (body_walk any f.line (without_docstring f.body)) (functions_walk any xs) (functions_walk any ys))

both : (any : Bool) (xs ys : List Function) (as' bs : List Arc) → as' ≡ functions_walk any xs → bs ≡ functions_walk any ys → as' ++ bs ≡ functions_walk any (xs ++ ys)
both any xs ys as' bs e f = ap (λ z. z ++ bs) e ∙ ap (λ z. functions_walk any xs ++ z) f ∙ sym (walk-append any xs ys)

mutual
  unfolding functions_.functions functions_.functions_in functions_.opt_functions functions_.arms_functions functions_.clauses_functions functions_.cases_functions

  pub stmts-defined : (any : Bool) (b : Stmts) → stmts_defs any b ≡ functions_walk any (functions b)
  stmts-defined any no_stmts = refl
  stmts-defined any (stmt l m k e rest) = both any (functions_in l k) (functions rest) (kind_defs any l k) (stmts_defs any rest) (kind-defined any l k) (stmts-defined any rest)

  kind-defined : (any : Bool) (l : ℕ) (k : StmtKind) → kind_defs any l k ≡ functions_walk any (functions_in l k)
  kind-defined any l (expr e) = refl
  kind-defined any l (assign ts e) = refl
  kind-defined any l (aug_assign t op e) = refl
  kind-defined any l pass = refl
  kind-defined any l break = refl
  kind-defined any l continue = refl
  kind-defined any l (return e) = refl
  kind-defined any l (raise e) = refl
  kind-defined any l (assert e w) = refl
  kind-defined any l (global xs) = refl
  kind-defined any l (import names) = refl
  kind-defined any l (from m names) = refl
  kind-defined any l (if' arms o) = both any (arms_functions arms) (opt_functions o) (arms_defs any arms) (opt_defs any o) (arms-defined any arms) (opt-defined any o)
  kind-defined any l (while t (suite f g inline b) o) = both any (functions b) (opt_functions o) (stmts_defs any b) (opt_defs any o) (stmts-defined any b) (opt-defined any o)
  kind-defined any l (for t e (suite f g inline b) o) = both any (functions b) (opt_functions o) (stmts_defs any b) (opt_defs any o) (stmts-defined any b) (opt-defined any o)
  kind-defined any l (try (suite f g inline b) cs o fin) =
      both any (functions b) (clauses_functions cs ++ (opt_functions o ++ opt_functions fin)) (stmts_defs any b) (clauses_defs any cs ++ (opt_defs any o ++ opt_defs any fin)) (stmts-defined any b)
      (both any (clauses_functions cs) (opt_functions o ++ opt_functions fin) (clauses_defs any cs) (opt_defs any o ++ opt_defs any fin) (clauses-defined any cs)
      (both any (opt_functions o) (opt_functions fin) (opt_defs any o) (opt_defs any fin) (opt-defined any o) (opt-defined any fin)))
  kind-defined any l (def x ps ds c (suite f g inline b)) = sym (append-nil (body_walk any l (without_docstring b)))
  kind-defined any l (match e last cs) = cases-defined any cs

  opt-defined : (any : Bool) (o : OptSuite) → opt_defs any o ≡ functions_walk any (opt_functions o)
  opt-defined any no_suite = refl
  opt-defined any (has_suite (suite f g inline b)) = stmts-defined any b

  arms-defined : (any : Bool) (arms : Arms) → arms_defs any arms ≡ functions_walk any (arms_functions arms)
  arms-defined any no_arms = refl
  arms-defined any (arm t (suite f g inline b) rest) = both any (functions b) (arms_functions rest) (stmts_defs any b) (arms_defs any rest) (stmts-defined any b) (arms-defined any rest)

  clauses-defined : (any : Bool) (cs : Clauses) → clauses_defs any cs ≡ functions_walk any (clauses_functions cs)
  clauses-defined any no_clauses = refl
  clauses-defined any (clause k x (suite f g inline b) rest) = both any (functions b) (clauses_functions rest) (stmts_defs any b) (clauses_defs any rest) (stmts-defined any b) (clauses-defined any rest)

  cases-defined : (any : Bool) (cs : Cases) → cases_defs any cs ≡ functions_walk any (cases_functions cs)
  cases-defined any no_cases = refl
  cases-defined any (case p guard (suite f g inline b) rest) = both any (functions b) (cases_functions rest) (stmts_defs any b) (cases_defs any rest) (stmts-defined any b) (cases-defined any rest)
