-- Mutants of a module that is well formed are well formed, its forms are kept, and those of a normal
-- one are normal.
use Rattle.std.specs.Prelude.{◌≡◌, All}
use Rattle.py_syntax.specs.Tree.{Stmts}
use Rattle.py_syntax.specs.Statements.{EndLines, NormalStmts}
use Rattle.py_syntax.specs.Spelling.{IsNormal}
use Rattle.py_scope.specs.Faults.{faults_of, functions_of}
use Rattle.py_changes.specs.Mutants.{module_mutants}

-- Each mutant of a module has its faults of scope, and the names of its functions.
abbrev pub MutantsAreWellFormed : Type 0
MutantsAreWellFormed =
    (a : Stmts)
    → All (λ x. (faults_of x.1 ≡ faults_of a) × (functions_of x.1 ≡ functions_of a))
    (module_mutants a)

-- Each mutant of a module whose parts are normal, and whose statements end as the grammar asks, is
-- such a one.
abbrev pub MutantsKeepForms : Type 0
MutantsKeepForms =
    (a : Stmts) → EndLines a → NormalStmts a
    → All (λ x. EndLines x.1 × NormalStmts x.1) (module_mutants a)

-- Each mutant of a normal module is normal.
abbrev pub MutantsAreNormal : Type 0
MutantsAreNormal = (a : Stmts) → IsNormal a → All (λ x. IsNormal x.1) (module_mutants a)
