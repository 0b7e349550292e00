-- What the code of statements does is what they mean.
use Rattle.std.proofs.Common.{◌≡◌, ℕ, ◌+◌, ◌<◌, List, Option, Some, None, ap, ◌∙◌, arith}
use Rattle.py_value.specs.Plain.{PlainRaised}
use Rattle.py_syntax.specs.declared.stmt.LineEnd.{LineEnd}
use Rattle.py_syntax.specs.Tree.{Stmts, no_stmts, stmt, suite, OptSuite, no_suite, has_suite, Arms, no_arms, arm, Clauses, no_clauses, clause, Cases, no_cases, case, StmtKind, expr, assign, aug_assign, pass, break, continue, return, raise, assert, global, import, from, if', while, for, try, def, match}
use Rattle.py_meaning.specs.Calls.{Calls}
use Rattle.py_meaning.specs.Computations.{State, give}
use Rattle.py_meaning.specs.Modules.{LoadedModule}
use Rattle.py_meaning.specs.Places.{Place}
use Rattle.py_meaning.specs.Statements.{exec, exec_kind, exec_opt}
use Rattle.py_meaning.proofs.SteadyStatements.{steady-kind}
use Rattle.py_code.specs.Configurations.{Operand}
use Rattle.py_code.specs.Units.{Code, Module, unit_at}
use Rattle.py_compile_expr.specs.Runs.{Spot, from as going, Matches, part_of, CallsRun}
use Rattle.py_compile_expr.specs.Stands.{HasAt}
use Rattle.py_compile_expr.proofs.Places.{has_front, has_behind}
use Rattle.py_compile_expr.proofs.Simulation.{at_most}
use Rattle.py_compile.specs.Proper.{AreProper, IsProper, ProperOpt, ProperArms, ProperClauses, ProperCases}
use Rattle.py_compile.specs.StatementRuns.{after_out, FitsWays, NamesMatch, StatementsRun}
use Rattle.py_compile.specs.Statements.{stmts_size, kind_size, stmts_code, kind_code}
use Rattle.py_compile.specs.Ways.{Ways, in_hand}
use Rattle.py_compile.proofs.BranchRuns.{no_arms_run, arm_runs, if_runs, while_runs, for_runs}
use Rattle.py_compile.proofs.Flow.{ways_less, then_runs}
use Rattle.py_compile.proofs.Forms.{here, StmtsRun, KindRuns, OptRuns, ArmsRun, ClausesRun, CasesRun}
use Rattle.py_compile.proofs.ImportRuns.{import_runs, from_runs}
use Rattle.py_compile.proofs.MatchRuns.{no_cases_run, case_runs, match_runs}
use Rattle.py_compile.proofs.SimpleRuns.{expr_runs, assign_runs, aug_assign_runs, pass_runs, break_out_runs, continue_out_runs, return_out_runs, raise_runs, assert_runs, global_runs, def_runs}
use Rattle.py_compile.proofs.Sizes.{kind_length}
use Rattle.py_compile.proofs.TryRuns.{no_clauses_run, clause_runs, named_clause_runs, try_runs, try_finally_runs}

module _ (cs : List Module) (ms : List LoadedModule) (matches : Matches cs ms) (names : NamesMatch cs ms) (c : Calls) (k : ℕ) (calls : CallsRun cs c k)
    (w : Spot) (u : Code) (is : unit_at cs w.code ≡ Some u) where
  -- one statement after another
  stmt_runs : (h : Option PlainRaised) (first last : ℕ) (kind : StmtKind) (rest : Stmts) → KindRuns cs ms c k w u h kind → StmtsRun cs ms c k w u h rest → (v : Ways) (p : ℕ) (end : LineEnd) → HasAt u p (stmts_code (here cs ms c k w u) v p (stmt first last kind end rest))
      → (st : List Operand) → FitsWays v h (p + stmts_size (in_hand v) (stmt first last kind end rest)) st → (s : State) (n : ℕ) → n < k
      → going cs w p st s n ≡ after_out cs w v (p + stmts_size (in_hand v) (stmt first last kind end rest)) st (exec c (part_of ms u w.code h) (stmt first last kind end rest) s n)
  unfolding exec
  stmt_runs h first last kind rest rk rr v p end has st f s n lt =
      let pl : Place = part_of ms u w.code h in
      let mid = p + kind_size (in_hand v) kind in
      let to = mid + stmts_size (in_hand v) rest in
      let whole = p + (kind_size (in_hand v) kind + stmts_size (in_hand v) rest) in
      let same : to ≡ whole = omega arith in
      let front = has_front u p (kind_code (here cs ms c k w u) v p first kind) _ has in
      let back = has_behind u p (kind_size (in_hand v) kind) (kind_code (here cs ms c k w u) v p first kind) _ (kind_length (here cs ms c k w u) v p first kind) has in
      then_runs cs w v mid whole st (exec_kind c pl first kind) (exec c pl rest) (going cs w p st s n) s n
      (rk first v p front st (ways_less v h whole mid st (omega arith) f) s n lt) (at_most (exec_kind c pl first kind) (steady-kind c calls.steady pl first kind) s n)
      (λ t j le. rr v mid back st (ways_less v h whole to st (omega arith) f) t j (omega arith) ∙ ap (λ m. after_out cs w v m st (exec c pl rest t j)) same)

  mutual
    unfolding exec exec_opt give

    pub stmts_run : (ss : Stmts) → AreProper ss → (h : Option PlainRaised) → StmtsRun cs ms c k w u h ss
    stmts_run no_stmts ok h v p has st f s n lt = ap (λ m. going cs w m st s n) (omega arith)
    stmts_run (stmt first last kind end rest) ok h v p has st f s n lt =
        stmt_runs h first last kind rest (kind_runs kind ok.0 h) (stmts_run rest ok.1 h) v p end has st f s n lt

    kind_runs : (kind : StmtKind) → IsProper kind → (h : Option PlainRaised) → KindRuns cs ms c k w u h kind
    kind_runs (expr e) ok h = expr_runs cs ms matches c k calls w u is h e
    kind_runs (assign targets e) ok h = assign_runs cs ms matches c k calls w u is h targets e
    kind_runs (aug_assign place op e) ok h = aug_assign_runs cs ms matches c k calls w u is h place op e
    kind_runs pass ok h = pass_runs cs ms matches c k calls w u is h
    kind_runs break ok h = break_out_runs cs ms matches c k calls w u is h
    kind_runs continue ok h = continue_out_runs cs ms matches c k calls w u is h
    kind_runs (return e) ok h = return_out_runs cs ms matches c k calls w u is h e
    kind_runs (raise e) ok h = raise_runs cs ms matches c k calls w u is h e
    kind_runs (assert test why) ok h = assert_runs cs ms matches c k calls w u is h test why
    kind_runs (global xs) ok h = global_runs cs ms matches c k calls w u is h xs
    kind_runs (import xs) ok h = import_runs cs ms matches c k calls w u is h names xs
    kind_runs (from m xs) ok h = from_runs cs ms matches c k calls w u is h names m xs
    kind_runs (if' arms orelse) ok h = if_runs cs ms matches c k calls w u is h arms orelse (arms_run arms ok.0 h) (opt_runs orelse ok.1 h)
    kind_runs (while test (suite first last inline body) orelse) ok h =
        while_runs cs ms matches c k calls w u is h test first last inline body orelse (stmts_run body ok.0 h) (opt_runs orelse ok.1 h)
    kind_runs (for target over (suite first last inline body) orelse) ok h =
        for_runs cs ms matches c k calls w u is h target over first last inline body orelse (stmts_run body ok.0 h) (opt_runs orelse ok.1 h)
    kind_runs (try (suite first last inline body) clauses orelse no_suite) ok h =
        try_runs cs ms matches c k calls w u is h first last inline body clauses orelse (stmts_run body ok.0 h) (clauses_run clauses ok.1 h) (opt_runs orelse ok.2 h)
    kind_runs (try (suite first last inline body) clauses orelse (has_suite (suite a b i finally))) ok h =
        try_finally_runs cs ms matches c k calls w u is h first last inline body clauses orelse a b i finally (stmts_run body ok.0 h) (clauses_run clauses ok.1 h) (opt_runs orelse ok.2 h) (stmts_run finally ok.3 h)
    kind_runs (def x params es comma body) ok h = def_runs cs ms matches c k calls w u is h x params es comma body
    kind_runs (match subject header cases) ok h = match_runs cs ms matches c k calls w u is h subject header cases (cases_run cases ok h)

    opt_runs : (o : OptSuite) → ProperOpt o → (h : Option PlainRaised) → OptRuns cs ms c k w u h o
    opt_runs no_suite ok h v p has st f s n lt = ap (λ m. going cs w m st s n) (omega arith)
    opt_runs (has_suite (suite first last inline body)) ok h v p has st f s n lt = stmts_run body ok h v p has st f s n lt

    arms_run : (arms : Arms) → ProperArms arms → (h : Option PlainRaised) → ArmsRun cs ms c k w u h arms
    arms_run no_arms ok h = no_arms_run cs ms matches c k calls w u is h
    arms_run (arm test (suite first last inline body) rest) ok h = arm_runs cs ms matches c k calls w u is h test first last inline body rest (stmts_run body ok.0 h) (arms_run rest ok.1 h)

    clauses_run : (xs : Clauses) → ProperClauses xs → (h : Option PlainRaised) → ClausesRun cs ms c k w u h xs
    clauses_run no_clauses ok h = no_clauses_run cs ms matches c k calls w u is h
    clauses_run (clause kind None (suite first last inline body) rest) ok h = clause_runs cs ms matches c k calls w u is h kind first last inline body rest (λ e. stmts_run body ok.0 (Some e)) (clauses_run rest ok.1 h)
    clauses_run (clause kind (Some x) (suite first last inline body) rest) ok h = named_clause_runs cs ms matches c k calls w u is h kind x first last inline body rest (λ e. stmts_run body ok.0 (Some e)) (clauses_run rest ok.1 h)

    cases_run : (xs : Cases) → ProperCases xs → (h : Option PlainRaised) → CasesRun cs ms c k w u h xs
    cases_run no_cases ok h = no_cases_run cs ms matches c k calls w u is h
    cases_run (case q guard (suite first last inline body) rest) ok h = case_runs cs ms matches c k calls w u is h q guard first last inline body rest ok.0 (stmts_run body ok.1 h) (cases_run rest ok.2 h)

pub statements_run : StatementsRun
statements_run cs ms matches names c k calls w u is handled ss ok v p has st f s n lt = stmts_run cs ms matches names c k calls w u is ss ok handled v p has st f s n lt
