-- The `def`s of a text are those of its functions.
use Rattle.std.proofs.Common.{◌≡◌, ℕ, List, ◌++◌, map, refl, ap, ◌∙◌}
use Rattle.std.proofs.lemmas.List.{map-append}
use Rattle.py_syntax.specs.Functions.{Function, functions, functions_in, opt_functions, arms_functions, clauses_functions, cases_functions}
use Rattle.py_syntax.specs.Tree.{Stmts, no_stmts, stmt, suite, OptSuite, no_suite, has_suite, Arms, no_arms, arm, Clauses, no_clauses, clause, Cases, no_cases, case, StmtKind, expr, assign, aug_assign, pass, break, continue, return, raise, assert, global, import, from, if', while, for, try, def, match}
use Rattle.py_compile.specs.Definitions.{Definition, function_of, definitions, definitions_in, opt_definitions, arms_definitions, clauses_definitions, cases_definitions}

both : (ds es : List Definition) (fs gs : List Function) → map function_of ds ≡ fs → map function_of es ≡ gs → map function_of (ds ++ es) ≡ fs ++ gs
both ds es fs gs h k = map-append function_of ds es ∙ (ap (λ xs. xs ++ map function_of es) h ∙ ap (λ xs. fs ++ xs) k)

mutual
  unfolding functions functions_in opt_functions arms_functions clauses_functions cases_functions

  pub all_functions : (b : Stmts) → map function_of (definitions b) ≡ functions b
  all_functions no_stmts = refl
  all_functions (stmt first last k end rest) = both (definitions_in first k) (definitions rest) (functions_in first k) (functions rest) (kind_functions first k) (all_functions rest)

  kind_functions : (l : ℕ) (k : StmtKind) → map function_of (definitions_in l k) ≡ functions_in l k
  kind_functions l (expr e) = refl
  kind_functions l (assign ts e) = refl
  kind_functions l (aug_assign t op e) = refl
  kind_functions l pass = refl
  kind_functions l break = refl
  kind_functions l continue = refl
  kind_functions l (return e) = refl
  kind_functions l (raise e) = refl
  kind_functions l (assert e why) = refl
  kind_functions l (global xs) = refl
  kind_functions l (import names) = refl
  kind_functions l (from m names) = refl
  kind_functions l (if' arms o) = both (arms_definitions arms) (opt_definitions o) (arms_functions arms) (opt_functions o) (each_arm arms) (each_opt o)
  kind_functions l (while t (suite f g i b) o) = both (definitions b) (opt_definitions o) (functions b) (opt_functions o) (all_functions b) (each_opt o)
  kind_functions l (for t e (suite f g i b) o) = both (definitions b) (opt_definitions o) (functions b) (opt_functions o) (all_functions b) (each_opt o)
  kind_functions l (try (suite f g i b) cs o fin) =
      both (definitions b) (clauses_definitions cs ++ (opt_definitions o ++ opt_definitions fin)) (functions b) (clauses_functions cs ++ (opt_functions o ++ opt_functions fin)) (all_functions b)
      (both (clauses_definitions cs) (opt_definitions o ++ opt_definitions fin) (clauses_functions cs) (opt_functions o ++ opt_functions fin) (each_clause cs)
      (both (opt_definitions o) (opt_definitions fin) (opt_functions o) (opt_functions fin) (each_opt o) (each_opt fin)))
  kind_functions l (def x ps ds comma (suite f g i b)) = refl
  kind_functions l (match e header cs) = each_case cs

  each_opt : (o : OptSuite) → map function_of (opt_definitions o) ≡ opt_functions o
  each_opt no_suite = refl
  each_opt (has_suite (suite f g i b)) = all_functions b

  each_arm : (xs : Arms) → map function_of (arms_definitions xs) ≡ arms_functions xs
  each_arm no_arms = refl
  each_arm (arm t (suite f g i b) rest) = both (definitions b) (arms_definitions rest) (functions b) (arms_functions rest) (all_functions b) (each_arm rest)

  each_clause : (xs : Clauses) → map function_of (clauses_definitions xs) ≡ clauses_functions xs
  each_clause no_clauses = refl
  each_clause (clause k x (suite f g i b) rest) = both (definitions b) (clauses_definitions rest) (functions b) (clauses_functions rest) (all_functions b) (each_clause rest)

  each_case : (xs : Cases) → map function_of (cases_definitions xs) ≡ cases_functions xs
  each_case no_cases = refl
  each_case (case q guard (suite f g i b) rest) = both (definitions b) (cases_definitions rest) (functions b) (cases_functions rest) (all_functions b) (each_case rest)
