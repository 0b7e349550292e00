-- What it is that a change is seen: in some lines, or in the functions of both versions.
--     Shows                     of statements by their lines and functions; ShowsRows and the like
--     with-rows                 mutants as versions, with what is shown of them; with-suites and
--                               the like
use Rattle.std.proofs.Common.{ℕ, Bool, List, ◌⊎◌}
use Rattle.py_syntax.specs.Functions.{Function, defining, own_function}
use Rattle.py_syntax.specs.Gathering.{gather, gather_kind, gather_suite, gather_opt, gather_arms, gather_clauses, gather_cases}
use Rattle.py_syntax.specs.Tree.{Exprs}
use Rattle.py_syntax.specs.Tree.{Stmts, Suite, suite, OptSuite, Arms, Clauses, Cases, StmtKind, def}
use Rattle.py_changes.specs.Changed.{changed_each, changed_kind, changed_suite, changed_opt, changed_arms, changed_clauses, changed_cases, changed_functions}
use Rattle.py_changes.specs.Mutants.{stmts_mutants, suite_mutants, opt_suite_mutants, arms_mutants, clauses_mutants, cases_mutants}
use Rattle.py_mutants_laws.proofs.Versions.{Rows, Suites, Opts, ArmsOf, ClausesOf, CasesOf}
use Rattle.py_mutants_laws.proofs.Mutants.{Marks, rows-mutants, suites-mutants, opts-mutants, arms-mutants, clauses-mutants, cases-mutants}
use Rattle.py_mutants_laws.proofs.Some.{IsSome, marks-both}

-- what changed is seen in some lines, or in the functions of both versions
abbrev pub Shows : List ℕ → List Function → List Function → Type 0
Shows ls fs gs = IsSome ls ⊎ IsSome (changed_functions fs gs).0

abbrev pub ShowsRows : Stmts → Stmts → Type 0
ShowsRows a b = Shows (changed_each a b).0 (gather defining a) (gather defining b)

abbrev pub ShowsSuites : Suite → Suite → Type 0
ShowsSuites a b = Shows (changed_suite a b).0 (gather_suite defining a) (gather_suite defining b)

abbrev pub ShowsOpts : OptSuite → OptSuite → Type 0
ShowsOpts a b = Shows (changed_opt a b).0 (gather_opt defining a) (gather_opt defining b)

abbrev pub ShowsArmsOf : Arms → Arms → Type 0
ShowsArmsOf a b = Shows (changed_arms a b).0 (gather_arms defining a) (gather_arms defining b)

abbrev pub ShowsClausesOf : Clauses → Clauses → Type 0
ShowsClausesOf a b = Shows (changed_clauses a b).0 (gather_clauses defining a)
    (gather_clauses defining b)

abbrev pub ShowsCasesOf : Cases → Cases → Type 0
ShowsCasesOf a b = Shows (changed_cases a b).0 (gather_cases defining a) (gather_cases defining b)

abbrev pub ShowsKinds : ℕ → StmtKind → StmtKind → Type 0
ShowsKinds m k j =
    Shows (changed_kind m k j).0 (gather_kind defining (own_function m k) k)
    (gather_kind defining (own_function m j) j)

-- in the function of a `def` with another suite
abbrev pub ShowsDef : ℕ → List ℕ → List (List ℕ)
    → Exprs → Bool → ℕ → ℕ → Bool → Stmts → Suite → Type 0
ShowsDef m x ps ds c f a i b z =
    IsSome (changed_functions (own_function m (def x ps ds c (suite f a i b)))
    (own_function m (def x ps ds c z))).0

-- mutants as versions, with what is shown of them
abbrev pub FromKind : ℕ → StmtKind → ℕ → StmtKind → Type 0
FromKind m k l j = ShowsKinds m k j

pub with-rows : (b : Stmts) → Marks (λ l d. ShowsRows b d) (stmts_mutants b)
    → Marks (λ l d. Rows l b d × ShowsRows b d) (stmts_mutants b)
with-rows b h =
    marks-both (λ l d. Rows l b d) (λ l d. ShowsRows b d) (stmts_mutants b) (rows-mutants b) h

pub with-suites : (s : Suite) → Marks (λ l z. ShowsSuites s z) (suite_mutants s)
    → Marks (λ l z. Suites l s z × ShowsSuites s z) (suite_mutants s)
with-suites s h =
    marks-both (λ l z. Suites l s z) (λ l z. ShowsSuites s z) (suite_mutants s) (suites-mutants s)
    h

pub with-opts : (s : OptSuite) → Marks (λ l z. ShowsOpts s z) (opt_suite_mutants s)
    → Marks (λ l z. Opts l s z × ShowsOpts s z) (opt_suite_mutants s)
with-opts s h =
    marks-both (λ l z. Opts l s z) (λ l z. ShowsOpts s z) (opt_suite_mutants s) (opts-mutants s) h

pub with-arms : (s : Arms) → Marks (λ l z. ShowsArmsOf s z) (arms_mutants s)
    → Marks (λ l z. ArmsOf l s z × ShowsArmsOf s z) (arms_mutants s)
with-arms s h =
    marks-both (λ l z. ArmsOf l s z) (λ l z. ShowsArmsOf s z) (arms_mutants s) (arms-mutants s) h

pub with-clauses : (s : Clauses) → Marks (λ l z. ShowsClausesOf s z) (clauses_mutants s)
    → Marks (λ l z. ClausesOf l s z × ShowsClausesOf s z) (clauses_mutants s)
with-clauses s h =
    marks-both (λ l z. ClausesOf l s z) (λ l z. ShowsClausesOf s z) (clauses_mutants s)
    (clauses-mutants s) h

pub with-cases : (s : Cases) → Marks (λ l z. ShowsCasesOf s z) (cases_mutants s)
    → Marks (λ l z. CasesOf l s z × ShowsCasesOf s z) (cases_mutants s)
with-cases s h =
    marks-both (λ l z. CasesOf l s z) (λ l z. ShowsCasesOf s z) (cases_mutants s)
    (cases-mutants s) h
